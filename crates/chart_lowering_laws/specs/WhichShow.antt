-- Which steps show: in a chart all but tests without a trigger; in a program assignments, tests, and the joins behind
-- which the program goes on.
use Rattle.std.specs.Prelude.{ℕ, Bool, true, false, Option, Some, None, ◌∷◌}
use Rattle.sc_values.specs.declared.expression.Expr.{Expr}
use Rattle.chart_machine.specs.declared.standing.Standing.{Standing}
use Rattle.chart_machine.specs.declared.standing.Standing.TheVariants as stand
use Rattle.chart_machine.specs.declared.standing.Configuration.{Configuration}
use Rattle.chart_machine.specs.Turns.{standing_of}
use Rattle.scl.specs.Block.{Assign, If}
use Rattle.scl.specs.Meaning.{State, Doing, Todo, Forked, doing}
use Rattle.chart_lowering_laws.specs.Layout.{goes_on}

abbrev pub has_trigger : Option Expr → Bool
has_trigger None = false
has_trigger (Some e) = true

abbrev pub shows_standing : Standing → Bool
shows_standing (stand.Trying s (t ∷ tests)) = has_trigger t.trigger
shows_standing other = true

abbrev pub region_shows : Configuration → ℕ → Bool
region_shows c r = shows_standing (standing_of c r)

abbrev pub shows_doing : Doing → Bool
shows_doing (Todo (Assign n x e rest)) = true
shows_doing (Todo (If n e a b rest)) = true
shows_doing (Forked n branches rest) = goes_on rest
shows_doing other = false

abbrev pub thread_shows : State → ℕ → Bool
thread_shows s t = shows_doing (doing s t)
