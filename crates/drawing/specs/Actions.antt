-- How the actions of a state are written: a line for each, behind the name of the state.
use Rattle.std.specs.Prelude.{ℕ, Bool, true, false, List, [], ◌∷◌, ◌++◌, codes}
use Rattle.core_charts.specs.declared.region.Effect.{Effect}
use Rattle.drawing.specs.declared.symbols.Symbol.{Symbol}
use Rattle.drawing.specs.Labels.{effect_text, further_text, trigger_text}
use Rattle.extended_charts.specs.declared.extended.During.{During}

-- effects behind these words, where there are some
abbrev pub action_text : List Symbol → (signals : List ℕ) → (words : List ℕ) → List Effect → List ℕ
action_text symbols signals words [] = []
action_text symbols signals words (e ∷ effects) =
    words ++ (codes " do " ++ (effect_text symbols signals e ++ (further_text symbols signals effects ++ codes "\\l")))

abbrev pub when_text : Bool → List ℕ
when_text true = codes "immediate during"
when_text false = codes "during"

abbrev pub during_words : List Symbol → During → List ℕ
during_words symbols d = when_text d.immediate ++ trigger_text symbols d.trigger

abbrev pub durings_text : List Symbol → (signals : List ℕ) → List During → List ℕ
durings_text symbols signals [] = []
durings_text symbols signals (d ∷ during) =
    action_text symbols signals (during_words symbols d) d.effects ++ durings_text symbols signals during

abbrev pub actions_text : List Symbol → (signals : List ℕ) → (entry exit : List Effect) → List During → List ℕ
actions_text symbols signals entry exit during =
    action_text symbols signals (codes "entry") entry
    ++ (durings_text symbols signals during ++ action_text symbols signals (codes "exit") exit)

-- the name, and these lines, where there are some
abbrev pub label_text : (name actions : List ℕ) → List ℕ
label_text name [] = name
label_text name (c ∷ actions) = name ++ (codes "\\n" ++ (c ∷ actions))
