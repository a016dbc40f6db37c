-- The text of a chart: a declaration or a transition a line, a region and a state too, with what is in them on lines of
-- their own, two spaces more for each level.
use Rattle.std.specs.Prelude.{ℕ, Bool, true, false, if◌then◌else◌, Option, Some, None, List, [], ◌∷◌, ◌++◌, map, slice_get, codes}
use Rattle.sc_values.specs.declared.expression.Expr.{Expr}
use Rattle.sc_graph.specs.declared.program.Variable.{Variable}
use Rattle.scl_printer.specs.Expressions.{variable_text, expression_text}
use Rattle.scl_printer.specs.Layout.{role_prefix, kind_prefix}
use Rattle.core_charts.specs.declared.region.Effect.{Effect}
use Rattle.core_charts.specs.declared.region.Transition.{Transition}
use Rattle.core_charts.specs.declared.region.TransitionKind.{TransitionKind}
use Rattle.core_charts.specs.declared.region.TransitionKind.TheVariants as kind
use Rattle.core_charts.specs.declared.region.Region.{Region}
use Rattle.core_charts.specs.declared.region.State.{State}
use Rattle.core_charts.specs.declared.region.Region.TheOpen.{Region-F, State-F}
use Rattle.core_charts.specs.declared.region.Region.TheFolds.{fold-Region, fold-State}
use Rattle.core_charts.specs.Chart.{Chart}

-- ---- lines

-- a piece of text, by the spaces before its lines
abbrev pub Piece : Type 0
Piece = List ℕ → List ℕ

abbrev pub deeper : List ℕ → List ℕ
deeper margin = margin ++ codes "  "

abbrev pub line : List ℕ → Piece
line text margin = margin ++ (text ++ codes "\n")

-- a line that opens what stands in braces behind it
abbrev pub opened : List ℕ → Piece
opened words margin = line (words ++ codes " {") margin

abbrev pub in_row : List Piece → Piece
in_row [] margin = []
in_row (p ∷ pieces) margin = p margin ++ in_row pieces margin

abbrev pub when : Bool → List ℕ → List ℕ
when true text = text
when false text = []

-- ---- transitions

abbrev pub word_of : TransitionKind → List ℕ
word_of kind.Go = codes "go"
word_of kind.Strong = codes "strong"
word_of kind.Weak = codes "weak"
word_of kind.Join = codes "join"

abbrev pub trigger_text : List Variable → Option Expr → List ℕ
trigger_text variables None = []
trigger_text variables (Some test) = codes " if " ++ expression_text variables test

-- an effect: the variable, and the expression whose value it gets
unfoldable pub effect_text : List Variable → Effect → List ℕ
effect_text variables e = variable_text variables e.variable ++ (codes " = " ++ expression_text variables e.value)

abbrev pub further_text : List Variable → List Effect → List ℕ
further_text variables [] = []
further_text variables (e ∷ effects) = codes ", " ++ (effect_text variables e ++ further_text variables effects)

abbrev pub effects_text : List Variable → List Effect → List ℕ
effects_text variables [] = []
effects_text variables (e ∷ effects) = codes " do " ++ (effect_text variables e ++ further_text variables effects)

-- the name at this place
abbrev pub named : Option (List ℕ) → List ℕ
named None = []
named (Some name) = name

-- a transition of a state of a region, whose states have these names
abbrev pub transition_text : List Variable → (states : List (List ℕ)) → Transition → List ℕ
transition_text variables states t =
    word_of t.kind ++ (when t.immediate (codes " immediate") ++ (trigger_text variables t.trigger
    ++ (effects_text variables t.effects ++ (codes " -> " ++ (named (slice_get states t.target) ++ codes ";")))))

abbrev pub transitions_text : List Variable → (states : List (List ℕ)) → List Transition → Piece
transitions_text variables states [] margin = []
transitions_text variables states (t ∷ own) margin =
    line (transition_text variables states t) margin ++ transitions_text variables states own margin

-- ---- states and regions

-- a state with all that is in it: its name, and its text in a region whose states have these names
pub record StatePiece : Type 0 where
  pub name : List ℕ
  pub among : (states : List (List ℕ)) → Piece

abbrev pub state_head : Bool → Bool → List ℕ → List ℕ
state_head is_initial is_final name =
    when is_initial (codes "initial ") ++ (when is_final (codes "final ") ++ (codes "state " ++ name))

-- whether nothing stands in a state
abbrev pub is_bare : {A B : Type 0} → List A → List B → Bool
is_bare [] [] = true
is_bare regions own = false

-- a state with these regions and transitions, whose line begins so
abbrev pub state_over : List ℕ → List Piece → Piece → Bool → Piece
state_over head regions own true margin = line (head ++ codes ";") margin
state_over head regions own false margin =
    opened head margin
    ++ (in_row regions (deeper margin) ++ (own (deeper margin) ++ line (codes "}") margin))

abbrev pub state_piece : List Variable → State-F Piece StatePiece → StatePiece
state_piece variables s =
    record {
      name = s.name;
      among = λ states.
          state_over (state_head s.is_initial s.is_final s.name) s.regions
          (transitions_text variables states s.transitions) (is_bare s.regions s.transitions);
    }

abbrev pub names_of : List StatePiece → List (List ℕ)
names_of states = map (λ s. s.name) states

abbrev pub among_all : (states : List (List ℕ)) → List StatePiece → Piece
among_all names [] margin = []
among_all names (s ∷ states) margin = s.among names margin ++ among_all names states margin

abbrev pub region_head : List ℕ → List ℕ
region_head name = codes "region " ++ name

abbrev pub region_over : Region-F Piece StatePiece → Piece
region_over r margin =
    opened (region_head r.name) margin
    ++ (among_all (names_of r.states) r.states (deeper margin) ++ line (codes "}") margin)

abbrev pub region_text : List Variable → Region → Piece
region_text variables = fold-Region Piece StatePiece region_over (state_piece variables)

abbrev pub piece_of_state : List Variable → State → StatePiece
piece_of_state variables = fold-State Piece StatePiece region_over (state_piece variables)

-- ---- charts

abbrev pub declaration_text : Variable → List ℕ
declaration_text v = role_prefix v.role ++ (kind_prefix v.kind ++ (v.name ++ codes ";"))

abbrev pub declarations_text : List Variable → Piece
declarations_text [] margin = []
declarations_text (v ∷ variables) margin = line (declaration_text v) margin ++ declarations_text variables margin

abbrev pub chart_head : List ℕ → List ℕ
chart_head name = codes "chart " ++ name

-- the text of a chart
abbrev pub chart_text : Chart → List ℕ
chart_text c =
    opened (chart_head c.name) []
    ++ (declarations_text c.variables (codes "  ")
    ++ (in_row (map (region_text c.variables) c.regions) (codes "  ") ++ line (codes "}") []))
