-- Past the last region nobody stands anywhere, so who is there is a region; and past the last state there is no superstate.
use Rattle.std.proofs.Common.{◌≡◌, ◌≢◌, ℕ, zero, suc, ◌<◌, ◌≤◌, ⊎_elim, List, slice_get, length, unwrap_or, ap, arith}
use Rattle.std.proofs.lemmas.Bool.{cases_lt}
use Rattle.std.proofs.lemmas.Option.{slice_get_past}
use Rattle.chart_machine.specs.declared.standing.Configuration.{Configuration}
use Rattle.chart_machine.specs.declared.standing.Standing.{Standing}
use Rattle.chart_machine.specs.declared.standing.Standing.TheVariants as at
use Rattle.chart_machine.specs.declared.table.Table.{Table}
use Rattle.chart_machine.specs.Turns.{standing_of}
use Rattle.chart_machine.proofs.Outside.{within_or_past}
use Rattle.chart_machine_laws.specs.Tree.{IsThere}
use Rattle.chart_machine_laws.proofs.ChartTables.{no_regions_past}
use Rattle.abort_expansion_laws.specs.CoreRows.{IsState, IsSuper}

pub past_number : (zs : List Standing) (q : ℕ) → length zs ≤ q → unwrap_or (slice_get zs q) at.Outside ≡ at.Outside
past_number zs q past = ap (λ o. unwrap_or o at.Outside) (slice_get_past zs q past)

pub is_region : (k : Table) (c : Configuration) → standing_of c 0 ≡ at.Outside → length c.regions ≡ suc (length k.regions) → (q : ℕ) →
    standing_of c q ≢ at.Outside → IsThere k q
is_region k c no_chart size zero present = absurd (present no_chart)
is_region k c no_chart size (suc q) present =
    ⊎_elim (λ lt. (omega arith, omega (lt, arith))) (λ past. absurd (present (past_number c.regions (suc q) (omega (past, size, arith)))))
    (cases_lt q (length k.regions))

pub past_regions : (e : Configuration) (k : Table) → length e.regions ≡ suc (length k.regions) → (r : ℕ) → length k.regions < r → standing_of e r ≡ at.Outside
past_regions e k size r lt = past_number e.regions r (omega (size, lt, arith))

pub super_is_state : (k : Table) (s : ℕ) → IsSuper k s → IsState k s
super_is_state k s super = ⊎_elim (λ lt. lt) (λ past. absurd (super (no_regions_past k s past))) (within_or_past s (length k.states))
