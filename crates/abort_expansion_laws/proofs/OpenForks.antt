-- A superstate that was opened: what its being over says of its regions, and where its thread stands while it is not over.
use Rattle.std.proofs.Common.{◌≡◌, ℕ, Bool, true, false, not, ◌&&◌, List, [], ◌∷◌, Contains, ap, subst, ◌∙◌}
use Rattle.std.specs.List.{list_all}
use Rattle.scl_graph_laws.proofs.Searching.{unlike}
use Rattle.core_charts.specs.declared.region.Transition.{Transition}
use Rattle.core_charts.specs.Aborts.{has_aborts}
use Rattle.chart_machine.specs.declared.standing.Standing.{Standing}
use Rattle.chart_machine.specs.declared.standing.Standing.TheVariants as at
use Rattle.chart_machine.specs.declared.standing.Configuration.{Configuration}
use Rattle.chart_machine.specs.declared.table.Table.{Table}
use Rattle.chart_machine.specs.Table.{state_at}
use Rattle.chart_machine.specs.Turns.{standing_of, has_ended}
use Rattle.chart_machine.specs.Steps.{state_in}
use Rattle.abort_expansion.specs.Flags.{has_join}
use Rattle.abort_expansion.specs.Superstates.{stays}
use Rattle.tick_laws.proofs.Lists.{list_all_at}
use Rattle.chart_machine_laws.specs.Tree.{holder}
use Rattle.abort_expansion_laws.specs.CoreRows.{own, joins, Images, flags_around}
use Rattle.abort_expansion_laws.specs.Related.{Stands, outside, ended, left, trying, acting, entering, guarding, staying, within, behind, is_behind}

module _ (k core : Table) (i : Images) (c : Configuration) where
  -- all regions of what is over have ended
  pub all_over : (u : ℕ) → is_behind k core i c u ≡ true → list_all (λ q. has_ended (standing_of c q)) (state_at k u).regions ≡ true
  all_over u over =
      last_of (stays (flags_around k core i (holder k u)) (own k u)) (has_aborts (own k u)) (has_join (own k u))
      (list_all (λ q. has_ended (standing_of c q)) (state_at k u).regions) over
    where
      last_of : (a b x y : Bool) → (not a && (not b && (not x && y))) ≡ true → y ≡ true
      last_of false false false y h = h
      last_of true b x y h = absurd cc
      last_of false true x y h = absurd cc
      last_of false false true y h = absurd cc

  -- so it is not over where one of them has not
  pub not_over : (u q : ℕ) → Contains (state_at k u).regions q → has_ended (standing_of c q) ≡ false → is_behind k core i c u ≡ true → ⊥
  not_over u q child goes over =
      unlike (has_ended (standing_of c q)) (list_all_at (λ z. has_ended (standing_of c z)) (state_at k u).regions q (all_over u over) child) goes

  -- while it is not, the thread of what is split stands in the fork
  pub fork_of : (u : ℕ) (tests : List Transition) (x y : Standing) → (is_behind k core i c u ≡ true → ⊥) → Stands k core i c (holder k u) x y →
      x ≡ at.Within u tests → stays (flags_around k core i (holder k u)) (own k u) ≡ false →
      (join : ℕ) × (state_in core (i.thread_of (holder k u)) join ≡ i.behind_of u) × (y ≡ at.Within (i.main_of u) (joins join ∷ []))
  fork_of u tests _ _ never outside w apart = absurd cc
  fork_of u tests _ _ never (ended inner) w apart = absurd cc
  fork_of u tests _ _ never (left v vs round over) w apart = absurd cc
  fork_of u tests _ _ never (trying v others simple its) w apart = absurd cc
  fork_of u tests _ _ never (acting v b g f effects lt) w apart = absurd cc
  fork_of u tests _ _ never (entering v fork t others super its leads) w apart = absurd cc
  fork_of u tests _ _ never (guarding v join t others has its leads) w apart = absurd cc
  fork_of u tests _ _ never (staying v others super its stay) w apart =
      let same : v ≡ u = cc in
      absurd (unlike (stays (flags_around k core i (holder k u)) (own k u))
      (subst (λ z. stays (flags_around k core i (holder k u)) (own k z) ≡ true) same stay) apart)
  fork_of u tests _ _ never (within v join others super its split still leads) w apart =
      let same : v ≡ u = cc in
      (join, leads ∙ ap i.behind_of same, ap (λ z. at.Within (i.main_of z) (joins join ∷ [])) same)
  fork_of u tests _ _ never (behind v others super its over) w apart =
      let same : v ≡ u = cc in absurd (never (subst (λ z. is_behind k core i c z ≡ true) same over))
