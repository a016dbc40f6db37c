-- How what a transition of an extended chart asks is written: `after N`, `after N of C`, `if` and a test, or a wait and a test.
-- A trigger waits where it asks for the ticks since its state was entered, or for a count of these, by its number.
use Rattle.std.specs.Prelude.{ℕ, ◌==◌, Bool, false, if◌then◌else◌, Option, Some, None, List, [], ◌++◌, codes}
use Rattle.sc_values.specs.declared.operator.BinaryOperator.TheVariants as operator
use Rattle.sc_values.specs.declared.expression.Expr.{Expr}
use Rattle.sc_values.specs.declared.expression.Expr.TheOpen.{Expr-F}
use Rattle.sc_values.specs.declared.expression.Expr.TheOpen as tree
use Rattle.sc_values.specs.declared.expression.Expr.TheViews.{out-Expr}
use Rattle.drawing.specs.declared.symbols.Symbol.{Symbol}
use Rattle.drawing.specs.Expressions.{sparing_text}
use Rattle.extended_charts.specs.Reading.{elapsed, is_count}

-- ---- what waits

-- the ticks since the state was entered
abbrev pub is_elapsed : Expr-F Expr → Bool
is_elapsed (tree.Load x) = x == elapsed
is_elapsed other = false

-- one of so many counts
abbrev pub is_counted : (counts : ℕ) → Expr-F Expr → Bool
is_counted counts (tree.Load x) = is_count counts x
is_counted counts other = false

-- ---- waits

abbrev pub after_text : List Symbol → (ticks : Expr) → List ℕ
after_text symbols ticks = codes " after " ++ sparing_text symbols ticks

abbrev pub of_text : List Symbol → (ticks condition : Expr) → List ℕ
of_text symbols ticks condition = after_text symbols ticks ++ (codes " of " ++ sparing_text symbols condition)

-- the condition holds, and did before in one tick less
abbrev pub counted_now : List Symbol → (ticks : Expr) → Expr-F Expr → Option (List ℕ)
counted_now symbols ticks (tree.Binary operator.And condition earlier) = Some (of_text symbols ticks condition)
counted_now symbols ticks other = None

-- or it did in so many ticks before
abbrev pub counted_text : List Symbol → (counts : ℕ) → (current : Expr) → Expr-F Expr → Option (List ℕ)
counted_text symbols counts current (tree.Binary operator.GreaterOrEqual number ticks) =
    if is_counted counts (out-Expr number) then counted_now symbols ticks (out-Expr current) else None
counted_text symbols counts current other = None

abbrev pub wait_step : List Symbol → (counts : ℕ) → Expr-F Expr → Option (List ℕ)
wait_step symbols counts (tree.Binary operator.GreaterOrEqual number ticks) =
    if is_elapsed (out-Expr number) then Some (after_text symbols ticks) else None
wait_step symbols counts (tree.Binary operator.Or current earlier) = counted_text symbols counts current (out-Expr earlier)
wait_step symbols counts other = None

-- a wait, where the expression is one
abbrev pub wait_text : List Symbol → (counts : ℕ) → Expr → Option (List ℕ)
wait_text symbols counts e = wait_step symbols counts (out-Expr e)

-- ---- triggers

abbrev pub test_text : List Symbol → Expr → List ℕ
test_text symbols e = codes " if " ++ sparing_text symbols e

-- a wait and a test; where there is no wait, the whole is a test
abbrev pub with_test : List Symbol → (wait : Option (List ℕ)) → (test whole : Expr) → List ℕ
with_test symbols None test whole = test_text symbols whole
with_test symbols (Some wait) test whole = wait ++ test_text symbols test

abbrev pub tested_step : List Symbol → (counts : ℕ) → (whole : Expr) → Expr-F Expr → List ℕ
tested_step symbols counts whole (tree.Binary operator.And wait test) =
    with_test symbols (wait_text symbols counts wait) test whole
tested_step symbols counts whole other = test_text symbols whole

abbrev pub alone_text : List Symbol → (counts : ℕ) → (wait : Option (List ℕ)) → Expr → List ℕ
alone_text symbols counts (Some wait) e = wait
alone_text symbols counts None e = tested_step symbols counts e (out-Expr e)

-- where the chart has so many counts
abbrev pub asked_text : List Symbol → (counts : ℕ) → Option Expr → List ℕ
asked_text symbols counts None = []
asked_text symbols counts (Some e) = alone_text symbols counts (wait_text symbols counts e) e
