-- Who stands in a superstate stands in no other one, has not ended, and does not act.
use Rattle.std.proofs.Common.{◌≡◌, ◌≢◌, ℕ, false, List}
use Rattle.std.proofs.Common.{refl}
use Rattle.core_charts.specs.declared.region.Effect.{Effect}
use Rattle.chart_machine.specs.declared.standing.Standing.{Standing}
use Rattle.chart_machine.specs.declared.standing.Standing.TheVariants as at
use Rattle.chart_machine.specs.declared.table.Table.{Table}
use Rattle.chart_machine.specs.Turns.{has_ended}
use Rattle.abort_expansion_laws.specs.CoreRows.{Images}
use Rattle.abort_expansion_laws.specs.Related.{IsInside, guarded, open_inside}

-- who stands in a superstate stands in no other one, and has not ended
module _ (k core : Table) (i : Images) (o : ℕ) where
  pub only_inside : (s : ℕ) (x : Standing) → IsInside k core i o x → IsInside k core i s x → s ≡ o
  only_inside s _ (guarded tests) (guarded others) = refl
  only_inside s _ (open_inside tests) (open_inside others) = refl

  pub inside_not_over : (x : Standing) → IsInside k core i o x → has_ended x ≡ false
  inside_not_over _ (guarded tests) = refl
  inside_not_over _ (open_inside tests) = refl

  pub inside_present : (x : Standing) → IsInside k core i o x → x ≢ at.Outside
  inside_present _ (guarded tests) e = absurd cc
  inside_present _ (open_inside tests) e = absurd cc

  pub inside_not_acting : (x : Standing) → IsInside k core i o x → (s : ℕ) (effects : List Effect) (target : ℕ) → x ≢ at.Acting s effects target
  inside_not_acting _ (guarded tests) s effects target e = absurd cc
  inside_not_acting _ (open_inside tests) s effects target e = absurd cc
