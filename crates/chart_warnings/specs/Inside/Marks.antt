-- Marks, one a variable or state, of what lists of numbers name.
use Rattle.std.specs.Prelude.{ℕ, ◌≡◌, ◌<◌, Bool, true, false, not, nat_eq, Option, Some, None, List, [], ◌∷◌, ◌++◌}
use Rattle.std.specs.Prelude.{length, get_or, slice_set}
use Rattle.std.specs.List.{list_any, flat_map}
use Rattle.sc_values.specs.declared.expression.Expr.{Expr}
use Rattle.sc_values.specs.declared.expression.Expr.TheOpen.{Expr-F}
use Rattle.sc_values.specs.declared.expression.Expr.TheOpen as tree
use Rattle.sc_values.specs.declared.expression.Expr.TheFolds.{fold-Expr}
use Rattle.core_charts.specs.declared.region.Effect.{Effect}
use Rattle.core_charts.specs.declared.region.Transition.{Transition}
use Rattle.chart_warnings.specs.declared.names.Mention.{Mention}
use Rattle.chart_warnings.specs.declared.names.Mention.TheVariants as way
use Rattle.chart_warnings.specs.Names.{asked_by_effect, set_by_effect, switched_by_effect, counted_by_effect}
use Rattle.chart_warnings.specs.Names.{asked_by_trigger}

-- these are marked too
abbrev pub marked : List ℕ → List Bool → List Bool
marked [] marks = marks
marked (x ∷ others) marks = marked others (slice_set marks x true)

-- so many marks, of which those are set that a list names
pub record Tells (numbers : List ℕ) (count : ℕ) (marks : List Bool) : Type 0 where
  pub many : length marks ≡ count
  pub each : (x : ℕ) → x < count → get_or marks x false ≡ list_any (nat_eq x) numbers

-- the variables of an expression, from left to right
abbrev pub variables_step : Expr-F (List ℕ) → List ℕ
variables_step (tree.Literal v) = []
variables_step (tree.Load x) = x ∷ []
variables_step (tree.Unary f a) = a
variables_step (tree.Binary f a b) = a ++ b

abbrev pub variables_of : Expr → List ℕ
variables_of = fold-Expr (List ℕ) variables_step

-- but for this one, if it is said
abbrev pub is_besides : Option ℕ → ℕ → Bool
is_besides None x = true
is_besides (Some y) x = not (nat_eq y x)

-- in a way
abbrev pub by_effect : Mention → Effect → List ℕ
by_effect way.Asked e = asked_by_effect e
by_effect way.Set e = set_by_effect e
by_effect way.Switched e = switched_by_effect e
by_effect way.Counted e = counted_by_effect e

abbrev pub by_trigger : Mention → Option Expr → List ℕ
by_trigger way.Asked trigger = asked_by_trigger trigger
by_trigger other trigger = []

abbrev pub by_transition : Mention → Transition → List ℕ
by_transition w t = by_trigger w t.trigger ++ flat_map (by_effect w) t.effects

abbrev pub all_by : Mention → List Transition → List ℕ
all_by w transitions = flat_map (by_transition w) transitions
