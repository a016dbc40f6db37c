-- The conditions of which the transitions of a draft count ticks, in the order of the text; and what a transition asks.
use Rattle.std.specs.Prelude.{ℕ, pos, ◌≡◌, ◌-◌, Option, Some, None, List, [], ◌∷◌, ◌++◌, map, length}
use Rattle.sc_values.specs.declared.value.Value.TheVariants as value
use Rattle.sc_values.specs.declared.operator.BinaryOperator.TheVariants as operator
use Rattle.sc_values.specs.declared.expression.Expr.{Expr}
use Rattle.sc_values.specs.declared.expression.Expr.TheVariants as expr
use Rattle.sc_text.specs.Resolved.{expression_of}
use Rattle.extended_reader.specs.declared.text_drafts.draft.DraftCount.{DraftCount}
use Rattle.extended_reader.specs.declared.text_drafts.draft.DraftDelay.{DraftDelay}
use Rattle.extended_reader.specs.declared.text_drafts.draft.DraftWay.{DraftWay}
use Rattle.extended_charts.specs.Reading.{elapsed}

abbrev pub listed_count : Option DraftCount → List DraftCount
listed_count None = []
listed_count (Some c) = c ∷ []

abbrev pub own_counts : Option DraftDelay → List DraftCount
own_counts None = []
own_counts (Some d) = listed_count d.count

-- the counts of transitions of which this is new
abbrev pub counts_of : List DraftWay → List DraftCount
counts_of [] = []
counts_of (w ∷ ways) = own_counts w.delay ++ counts_of ways

-- there are so many
pub record HaveCounts (ways : List DraftWay) (counts : ℕ) : Type 0 where
  pub many : counts ≡ length (counts_of ways)

-- their conditions, over what has these names
abbrev pub conditions : (names : List (List ℕ)) → List DraftWay → List Expr
conditions names ways = map (λ c. expression_of names c.condition.operations) (counts_of ways)

-- the number of the first of these counts, where they are the last ones of a chart
abbrev pub first_number : List DraftWay → ℕ
first_number ways = elapsed - length (counts_of ways)

-- a number names at least so many ticks
abbrev pub at_least : (number : ℕ) → (ticks : Expr) → Expr
at_least number ticks = expr.Binary operator.GreaterOrEqual (expr.Load number) ticks

abbrev pub one_less : Expr → Expr
one_less ticks = expr.Binary operator.Subtract ticks (expr.Literal (value.Int (pos 1)))

-- the condition is true, and was in all of so many ticks but this one
abbrev pub with_this : (number : ℕ) → (condition ticks : Expr) → Expr
with_this number condition ticks = expr.Binary operator.And condition (at_least number (one_less ticks))

-- the condition was true in so many ticks, where a number names in how many it was before this one
abbrev pub counted : (number : ℕ) → (condition ticks : Expr) → Expr
counted number condition ticks = expr.Binary operator.Or (with_this number condition ticks) (at_least number ticks)
