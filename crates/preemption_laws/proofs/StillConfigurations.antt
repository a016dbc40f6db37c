-- Who waits is put in front of all looks of its state, and waits there too.
use Rattle.std.proofs.Common.{◌≡◌, ℕ, zero, suc, Bool, true, false, nat_le, if◌then◌else◌, List, [], ◌∷◌, map, length, refl, ap, ◌∙◌, arith}
use Rattle.std.proofs.lemmas.Bool.{le-leb}
use Rattle.core_charts.specs.declared.region.Transition.{Transition}
use Rattle.chart_machine.specs.declared.standing.Standing.{Standing}
use Rattle.chart_machine.specs.declared.standing.Standing.TheVariants as at
use Rattle.chart_machine.specs.declared.standing.Configuration.{Configuration}
use Rattle.chart_machine.specs.declared.table.Table.{Table}
use Rattle.chart_machine.specs.Turns.{standing_of}
use Rattle.abort_expansion_laws.proofs.Leaving.{at_number}
use Rattle.preemption_laws.specs.Waiting.{is_waiting, waiting_at, still}

module _ (k : Table) (looks : ℕ → List Transition) where
  pub still_at : (zs : List Standing) (q : ℕ) → at_number (map (waiting_at k looks) zs) q ≡ waiting_at k looks (at_number zs q)
  still_at [] q = refl
  still_at (z ∷ zs) zero = refl
  still_at (z ∷ zs) (suc q) = still_at zs q

  pub stands_still : (c : Configuration) (q : ℕ) → standing_of (still k looks c) q ≡ waiting_at k looks (standing_of c q)
  stands_still c q = still_at c.regions q

  pub waits_too : (x : Standing) → is_waiting k looks (waiting_at k looks x) ≡ is_waiting k looks x
  waits_too at.Outside = refl
  waits_too at.Ended = refl
  waits_too (at.Entering s tests) = refl
  waits_too (at.Guarding s tests) = refl
  waits_too (at.Within s tests) = refl
  waits_too (at.Acting s effects p) = refl
  waits_too (at.Trying s tests) = by (nat_le (length tests) (length (looks s))) refl
    where
      by : (b : Bool) → nat_le (length tests) (length (looks s)) ≡ b → nat_le (length (if b then looks s else tests)) (length (looks s)) ≡ b
      by true is = le-leb (length (looks s)) (length (looks s)) (omega arith)
      by false is = is

  pub waiting_same : (c : Configuration) (q : ℕ) → is_waiting k looks (standing_of (still k looks c) q) ≡ is_waiting k looks (standing_of c q)
  waiting_same c q = ap (is_waiting k looks) (stands_still c q) ∙ waits_too (standing_of c q)
