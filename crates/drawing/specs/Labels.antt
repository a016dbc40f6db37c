-- The words of a transition in a drawing, which are those of chart text without its target, in lines; and how its arrow
-- is drawn.
use Rattle.std.specs.Prelude.{ℕ, nat_eq, Bool, true, false, if◌then◌else◌, Option, Some, None, List, [], ◌∷◌, ◌++◌, codes}
use Rattle.std.specs.List.{list_any}
use Rattle.std.specs.Fmt.{decimal}
use Rattle.sc_values.specs.declared.expression.Expr.{Expr}
use Rattle.core_charts.specs.declared.region.TransitionKind.{TransitionKind}
use Rattle.core_charts.specs.declared.region.TransitionKind.TheVariants as kind
use Rattle.core_charts.specs.declared.region.Effect.{Effect}
use Rattle.core_charts.specs.declared.region.Transition.{Transition}
use Rattle.drawing.specs.declared.symbols.Symbol.{Symbol}
use Rattle.drawing.specs.Expressions.{symbol_text, sparing_text}

-- ---- words

-- an ordinary transition is the one that no word marks
abbrev pub kind_word : TransitionKind → List ℕ
kind_word kind.Go = []
kind_word kind.Strong = codes " strong"
kind_word kind.Weak = codes " weak"
kind_word kind.Join = codes " join"

abbrev pub immediate_text : Bool → List ℕ
immediate_text true = codes " immediate"
immediate_text false = []

abbrev pub trigger_text : List Symbol → Option Expr → List ℕ
trigger_text symbols None = []
trigger_text symbols (Some test) = codes " if " ++ sparing_text symbols test

-- an effect: the signal that is emitted, or the variable, and the expression whose value it gets
unfoldable pub effect_text : List Symbol → (signals : List ℕ) → Effect → List ℕ
effect_text symbols signals e =
    if list_any (nat_eq e.variable) signals
    then codes "emit " ++ symbol_text symbols e.variable
    else symbol_text symbols e.variable ++ (codes " = " ++ sparing_text symbols e.value)

-- effects behind the first, each in a line of its own. Blanks keep each line from what is drawn beside it, and set
-- further lines in behind the number of the first
abbrev pub further_text : List Symbol → (signals : List ℕ) → List Effect → List ℕ
further_text symbols signals [] = []
further_text symbols signals (e ∷ effects) =
    codes ",  \\l     " ++ (effect_text symbols signals e ++ further_text symbols signals effects)

-- where there is a trigger, the effects begin in a line of their own
abbrev pub do_text : Option Expr → List ℕ
do_text None = codes " do "
do_text (Some test) = codes "  \\l     do "

abbrev pub effects_text : List Symbol → (signals : List ℕ) → Option Expr → List Effect → List ℕ
effects_text symbols signals trigger [] = []
effects_text symbols signals trigger (e ∷ effects) =
    do_text trigger ++ (effect_text symbols signals e ++ further_text symbols signals effects)

-- the transition with this number among those of its state, which are tested in their order. What it asks is written so,
-- and so is how it enters its target
abbrev pub words_text : List Symbol → (signals : List ℕ) → ℕ → Transition → (asked entering : List ℕ) → List ℕ
words_text symbols signals number t asked entering =
    codes "  " ++ (decimal number ++ (codes ":" ++ (kind_word t.kind ++ (immediate_text t.immediate
    ++ (asked ++ (effects_text symbols signals t.trigger t.effects ++ (entering ++ codes "  \\l")))))))

-- that of a chart, which has no signals, and enters its target as always
abbrev pub transition_text : List Symbol → ℕ → Transition → List ℕ
transition_text symbols number t = words_text symbols [] number t (trigger_text symbols t.trigger) []

-- ---- arrows

-- the arrow from a state to the words of its transition begins, by its kind, with a red disc, an orange circle, a green
-- triangle, or nothing
abbrev pub tail_text : TransitionKind → List ℕ
tail_text kind.Go = codes "dir=\"none\""
tail_text kind.Strong = codes "dir=\"back\", arrowtail=\"dot\", color=\"red3\""
tail_text kind.Weak = codes "dir=\"back\", arrowtail=\"odot\", color=\"orange3\""
tail_text kind.Join = codes "dir=\"back\", arrowtail=\"invempty\", color=\"green4\""

-- the arrow from the words to the target has its colour
abbrev pub head_text : TransitionKind → List ℕ
head_text kind.Go = codes "color=\"black\""
head_text kind.Strong = codes "color=\"red3\""
head_text kind.Weak = codes "color=\"orange3\""
head_text kind.Join = codes "color=\"green4\""

-- an immediate transition is dashed
abbrev pub line_text : Bool → List ℕ
line_text true = codes ", style=\"dashed\""
line_text false = []
