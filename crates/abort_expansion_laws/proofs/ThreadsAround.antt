-- The thread of a region lies in the fork of each superstate around the region, and in that of no other one.
use Rattle.std.proofs.Common.{ℕ, Contains, sym, subst}
use Rattle.chart_machine.specs.declared.table.Table.{Table}
use Rattle.chart_machine_laws.specs.Tree.{around}
use Rattle.tick_laws.proofs.Lists.{contains_map, map_contains}
use Rattle.abort_expansion_laws.specs.CoreRows.{Images, CoreRows}

module _ (k core : Table) (i : Images) (rows : CoreRows k core i) (q s : ℕ) where
  pub thread_within : Contains (around k q) s → Contains (around core (i.thread_of q)) (i.main_of s)
  thread_within inner = subst (λ zs. Contains zs (i.main_of s)) (sym (rows.encloses q)) (map_contains i.main_of (around k q) s inner)

  pub region_within : Contains (around core (i.thread_of q)) (i.main_of s) → Contains (around k q) s
  region_within inner =
      let u = contains_map i.main_of (around k q) (i.main_of s) (subst (λ zs. Contains zs (i.main_of s)) (rows.encloses q) inner) in
      subst (Contains (around k q)) (rows.main_once u.0 s u.2) u.1
