-- A monitor is that of one superstate.
use Rattle.std.proofs.Common.{◌≡◌, ℕ, true, sym, ap, ◌∙◌}
use Rattle.core_charts.specs.Aborts.{has_aborts}
use Rattle.chart_machine.specs.declared.table.Table.{Table}
use Rattle.chart_machine_laws.specs.Tree.{around, holder}
use Rattle.compiled_charts_laws.proofs.Stands.{heads}
use Rattle.abort_expansion_laws.specs.CoreRows.{own, IsState, Images, CoreRows}

pub one_monitor : (k core : Table) (i : Images) → CoreRows k core i → (u o : ℕ) → IsState k u → has_aborts (own k u) ≡ true → IsState k o →
    has_aborts (own k o) ≡ true → i.watcher_of u ≡ i.watcher_of o → u ≡ o
one_monitor k core i rows u o u_there some o_there has e =
    rows.main_once u o
    (heads (i.main_of u) (i.main_of o) (around core (i.thread_of (holder k u))) (around core (i.thread_of (holder k o)))
    (sym (rows.watcher u u_there some).encloses ∙ (ap (around core) e ∙ (rows.watcher o o_there has).encloses)))
