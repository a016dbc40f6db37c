-- Expressions in which something else stands for some of what they read: literals for constants, the time now less that at
-- the entry of a state for the ticks since then, and variables for counts.
use Rattle.std.specs.Prelude.{ℕ, ◌+◌, ◌-◌, ◌*◌, ◌==◌, nat_lt, not, ◌&&◌, Bool, Option, Some, None, slice_get, if◌then◌else◌}
use Rattle.sc_values.specs.declared.value.Value.{Value}
use Rattle.sc_values.specs.declared.operator.BinaryOperator.TheVariants as operator
use Rattle.sc_values.specs.declared.expression.Expr.{Expr}
use Rattle.sc_values.specs.declared.expression.Expr.TheVariants as expr
use Rattle.sc_values.specs.declared.expression.Expr.TheOpen.{Expr-F}
use Rattle.sc_values.specs.declared.expression.Expr.TheOpen as tree
use Rattle.sc_values.specs.declared.expression.Expr.TheFolds.{fold-Expr}
use Rattle.extended_charts.specs.declared.reading.Reading.{Reading}
use Rattle.extended_charts.specs.declared.reading.Reading.TheVariants as reading
use Rattle.extended_charts.specs.Making.{literal}

-- the number by which triggers name the ticks since their state was entered
abbrev pub elapsed : ℕ
elapsed = 65535

abbrev pub valued : ℕ → Option (Option Value) → Expr
valued x (Some (Some v)) = literal v
valued x other = expr.Load x

abbrev pub time_since : (now at x : ℕ) → Expr
time_since now at x =
    if x == elapsed then expr.Binary operator.Subtract (expr.Load now) (expr.Load at) else expr.Load x

-- whether a number names one of so many counts: these have the last numbers below `elapsed`
abbrev pub is_count : (counts x : ℕ) → Bool
is_count n x = nat_lt x elapsed && not (nat_lt n (elapsed - x))

-- the variable of the count of this number, where each has three, from the first on. What is no count stays
abbrev pub count_variable : (first counts x : ℕ) → ℕ
count_variable first n x = if is_count n x then first + 3 * (n - (elapsed - x)) else x

-- what stands for what has this number
abbrev pub read : Reading → ℕ → Expr
read (reading.Values named) x = valued x (slice_get named x)
read (reading.Elapsed now at) x = time_since now at x
read (reading.Counted first counts) x = expr.Load (count_variable first counts x)

abbrev pub replaced_step : Reading → Expr-F Expr → Expr
replaced_step r (tree.Literal v) = expr.Literal v
replaced_step r (tree.Load x) = read r x
replaced_step r (tree.Unary f a) = expr.Unary f a
replaced_step r (tree.Binary f a b) = expr.Binary f a b

abbrev pub replaced : Reading → Expr → Expr
replaced r = fold-Expr Expr (replaced_step r)

abbrev pub replaced_trigger : Reading → Option Expr → Option Expr
replaced_trigger r (Some e) = Some (replaced r e)
replaced_trigger r None = None
