-- What a chart reaches, and that it never gets stuck.
use Rattle.std.specs.Prelude.{ℕ, ◌≡◌, true, Some, List, slice_get}
use Rattle.sc_values.specs.declared.value.Value.{Value}
use Rattle.sc_values.specs.Operator.{kind_of}
use Rattle.sc_graph.specs.declared.program.Variable.{Variable}
use Rattle.sc_graph.specs.declared.program.Role.TheVariants as role
use Rattle.sc_graph.specs.Tick.{Inputs, given}
use Rattle.core_charts.specs.declared.features.Features.{Features}
use Rattle.core_charts.specs.Chart.{Chart}
use Rattle.core_charts.specs.Rules.{IsChart}
use Rattle.chart_machine.specs.declared.standing.Configuration.{Configuration}
use Rattle.chart_machine.specs.declared.table.Table.{Table}
use Rattle.chart_machine.specs.Table.{table}
use Rattle.chart_machine.specs.Turns.{is_enabled}
use Rattle.chart_machine.specs.Steps.{step}
use Rattle.chart_machine.specs.Machine.{initial, start}

-- what is given for an input is of its kind
abbrev pub KeepKinds : List Variable → Inputs → Type 0
KeepKinds variables inputs =
    (i : ℕ) (x : Variable) (v : Value) → slice_get variables i ≡ Some x → x.role ≡ role.Input → given inputs x.name ≡ Some v → kind_of v ≡ x.kind

-- what stands before the first tick, at the start of a tick, and behind each step
pub data IsReached (k : Table) : (c : Configuration) → Type 0 where
  first : IsReached k (initial k)
  begun : (c : Configuration) (inputs : Inputs) → IsReached k c → KeepKinds k.variables inputs → IsReached k (start k inputs c)
  stepped : (c d : Configuration) (r : ℕ) → IsReached k c → step k r c ≡ Some d → IsReached k d

-- wherever a chart comes, each enabled region has a step
abbrev pub ChartsNeverStick : Type 0
ChartsNeverStick =
    (f : Features) (h : Chart) → IsChart f h → (c : Configuration) → IsReached (table h) c → (r : ℕ) → is_enabled (table h) c r ≡ true →
    (d : Configuration) × (step (table h) r c ≡ Some d)
