-- A number without a region has no turn.
use Rattle.std.proofs.Common.{ℕ, ◌≡◌, ◌<◌, ◌≤◌, ◌⊎◌, false, length, unwrap_or, ap, arith}
use Rattle.std.proofs.lemmas.Option.{slice_get_past}
use Rattle.chart_machine.specs.declared.standing.Configuration.{Configuration}
use Rattle.chart_machine.specs.declared.standing.Standing.TheVariants as at
use Rattle.chart_machine.specs.declared.table.Table.{Table}
use Rattle.chart_machine.specs.Turns.{standing_of, is_enabled}

pub within_or_past : (r n : ℕ) → (r < n) ⊎ (n ≤ r)
within_or_past r n = grind arith

pub stands_outside : (c : Configuration) (r : ℕ) → length c.regions ≤ r → standing_of c r ≡ at.Outside
stands_outside c r past = ap (λ s. unwrap_or s at.Outside) (slice_get_past c.regions r past)

pub outside_waits : (k : Table) (c : Configuration) (r : ℕ) → length c.regions ≤ r → is_enabled k c r ≡ false
outside_waits k c r past = let e : standing_of c r ≡ at.Outside = stands_outside c r past in rw e
