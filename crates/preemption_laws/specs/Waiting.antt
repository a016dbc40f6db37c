-- A core chart as a machine that waits: the last transitions of a state may be looks at flags, which are no steps of it. A region that has nothing
-- left but its looks waits, and may leave as soon as it sees one of the flags raised.
use Rattle.std.specs.Prelude.{ℕ, Bool, false, nat_le, Option, Some, None, if◌then◌else◌, unwrap_or, List, [], ◌∷◌, map, length}
use Rattle.std.specs.List.{list_any}
use Rattle.sc_values.specs.Access.{Access, no_access}
use Rattle.sc_values.specs.Runs.{Machine}
use Rattle.sc_graph.specs.Steps.{only_if}
use Rattle.core_charts.specs.declared.region.Transition.{Transition}
use Rattle.chart_machine.specs.declared.standing.Standing.{Standing}
use Rattle.chart_machine.specs.declared.standing.Standing.TheVariants as at
use Rattle.chart_machine.specs.declared.standing.Configuration.{Configuration}
use Rattle.chart_machine.specs.declared.table.Table.{Table}
use Rattle.chart_machine.specs.Turns.{standing_of, is_enabled, ForkedApart}
use Rattle.chart_machine.specs.Steps.{to, after, verdict, step, access_of}

-- whether a look holds
abbrev pub holds : Configuration → Transition → Bool
holds c t = unwrap_or (verdict c.variables t.trigger) false

-- over a table, and the looks of each state
module _ (k : Table) (looks : ℕ → List Transition) where
  -- nothing is left but looks
  abbrev pub is_waiting : Standing → Bool
  is_waiting (at.Trying s tests) = nat_le (length tests) (length (looks s))
  is_waiting other = false

  -- who waits has all looks of its state ahead of it
  abbrev pub waiting_at : Standing → Standing
  waiting_at (at.Trying s tests) = at.Trying s (if nat_le (length tests) (length (looks s)) then looks s else tests)
  waiting_at other = other

  abbrev pub still : Configuration → Configuration
  still c = record { variables = c.variables; regions = map waiting_at c.regions }

  -- one of the looks of its state holds
  abbrev pub sees : Configuration → Standing → Bool
  sees c (at.Trying s tests) = list_any (holds c) (looks s)
  sees c other = false

  -- the region ends
  abbrev pub gone : ℕ → Configuration → Configuration
  gone r c = after (record { write = None; moves = to r at.Ended ∷ [] }) c

  abbrev pub may_step : Configuration → ℕ → Bool
  may_step c r = if is_waiting (standing_of c r) then sees c (standing_of c r) else is_enabled k c r

  abbrev pub wait_step : ℕ → Configuration → Option Configuration
  wait_step r c = if is_waiting (standing_of c r) then only_if (sees c (standing_of c r)) (Some (gone r c)) else step k r c

  abbrev pub wait_access : Configuration → ℕ → Access
  wait_access c r = if is_waiting (standing_of c r) then no_access else access_of (standing_of c r)

  abbrev pub waiting_machine : Machine
  waiting_machine =
      record {
        Configuration = Configuration;
        enabled = may_step;
        step = wait_step;
        access = wait_access;
        ForkedApart = ForkedApart k;
      }
