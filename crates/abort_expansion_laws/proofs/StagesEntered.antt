-- A region with work goes on, and with it whatever lies in it: which stages are reached then, and by whom steps are still owed.
use Rattle.std.proofs.Common.{◌≡◌, ◌≢◌, ℕ, ◌≤◌, ◌⊎◌, ⊎_elim, Bool, true, false, List, Contains, sym, subst, arith, if◌then◌else◌}
use Rattle.std.specs.List.{list_any}
use Rattle.scl_graph_laws.proofs.Searching.{unlike}
use Rattle.core_charts.specs.declared.region.Transition.{Transition}
use Rattle.core_charts.specs.Tests.{is_weak}
use Rattle.core_charts.specs.Aborts.{has_aborts}
use Rattle.chart_machine.specs.declared.standing.Standing.{Standing}
use Rattle.chart_machine.specs.declared.standing.Standing.TheVariants as at
use Rattle.chart_machine.specs.declared.standing.Configuration.{Configuration}
use Rattle.chart_machine.specs.declared.table.Table.{Table}
use Rattle.chart_machine.specs.Turns.{standing_of, has_work, inside}
use Rattle.tick_laws.proofs.Lists.{contained}
use Rattle.chart_machine_laws.specs.Tree.{IsTree, IsThere, around, holder}
use Rattle.abort_expansion_laws.specs.CoreRows.{own, Images}
use Rattle.abort_expansion_laws.specs.Related.{Stands, outside, ended, left, trying, acting, entering, guarding, staying, within, behind, IsInside, guarded}
use Rattle.abort_expansion_laws.specs.Related.{open_inside, Related}
use Rattle.abort_expansion_laws.proofs.KnownVariables.{present_there}
use Rattle.abort_expansion_laws.proofs.StageReached.{some_work, stage_of, Stage, any_in, inside_in, staged, either_rises}
use Rattle.abort_expansion_laws.proofs.StagesInside.{none_comes}
use Rattle.abort_expansion_laws.proofs.Pending.{IsBusy, Reached}

low_staged : (a b w : Bool) → b ≡ true → (if a then staged b w else 1) ≤ 1
low_staged true true w e = omega arith
low_staged false true w e = omega arith
low_staged a false w e = absurd cc

module _ (k core : Table) (i : Images) (tree : IsTree k) (c d : Configuration) (related : Related k core i c d) (r : ℕ)
    (present : standing_of c r ≢ at.Outside) (works : has_work k c (standing_of c r) ≡ true)
    (In : ℕ → Type 0) (in_or_out : (q : ℕ) → In q ⊎ ¬ In q)
    (inner_around : (q u : ℕ) → In q → Contains (around k q) u → ¬ In (holder k u) → Contains (around k r) u)
    (next : Configuration) (same : (q : ℕ) → ¬ In q → standing_of next q ≡ standing_of c q) where
  r_there : IsThere k r
  r_there = present_there k core i c d related r present

  -- what is around the region has work inside
  has_some : (o : ℕ) → Contains (around k r) o → some_work k c o ≡ true
  has_some o inner = any_in (λ q. has_work k c (standing_of c q)) (inside k o) r (inside_in k o r r_there inner) works

  outer_low : (o : ℕ) → Contains (around k r) o → stage_of k c (standing_of c (holder k o)) ≤ 1
  outer_low o inner = by_inside (standing_of c (holder k o)) (related.enclosed r o r_there present inner)
    where
      by_inside : (x : Standing) → IsInside k core i o x → stage_of k c x ≤ 1
      by_inside _ (guarded tests) = omega arith
      by_inside _ (open_inside tests) =
          low_staged (has_aborts (own k o)) (some_work k c o) (list_any (λ t. is_weak t.kind) tests) (has_some o inner)

  -- ---- outside of it no stage falls

  within_rises : (u : ℕ) (tests : List Transition) → ¬ In (holder k u) → stage_of k c (at.Within u tests) ≤ stage_of k next (at.Within u tests)
  within_rises u tests out =
      either_rises (has_aborts (own k u)) (some_work k c u) (some_work k next u) (list_any (λ t. is_weak t.kind) tests)
      (λ idle.
      ⊎_elim (λ round. absurd (unlike (some_work k c u) (has_some u round) idle))
      (λ apart.
      none_comes k core i tree.children c d related next u (λ q inner. same q (λ in_q. apart (inner_around q u in_q inner out))) idle)
      (contained (around k r) u))

  outside_rises : (q : ℕ) → ¬ In q → (w y : Standing) → Stands k core i c q w y → stage_of k c w ≤ stage_of k next w
  outside_rises q out _ _ outside = omega arith
  outside_rises q out _ _ (ended inner) = omega arith
  outside_rises q out _ _ (left s ss e over) = omega arith
  outside_rises q out _ _ (trying s tests simple its) = omega arith
  outside_rises q out _ _ (acting s u p e effects lt) = omega arith
  outside_rises q out _ _ (entering s fork t tests super its leads) = omega arith
  outside_rises q out _ _ (guarding s join t tests some its leads) = omega arith
  outside_rises q out _ _ (staying s tests super its stays) = within_rises s tests (λ in_it. out (subst In its in_it))
  outside_rises q out _ _ (within s join tests super its stays still leads) = within_rises s tests (λ in_it. out (subst In its in_it))
  outside_rises q out _ _ (behind s tests super its over) = within_rises s tests (λ in_it. out (subst In its in_it))

  -- ---- what was reached is reached still, and who has still to step does so at stage 1

  module _ (core_next : Configuration)
      (low_in : (q : ℕ) → In q → stage_of k c (standing_of c q) ≤ 1) (high_in : (q : ℕ) → In q → 1 ≤ stage_of k next (standing_of next q))
      (held_there : (q o : ℕ) → Contains (around k q) o → IsThere k (holder k o))
      (busy_around : (q s o : ℕ) → IsThere k q → IsBusy k core i next core_next q s → Contains (around k q) o → Contains (around k r) o ⊎ In (holder k o))
    where
      stage_on : (h n : ℕ) → Stage k i.thread_of c d h n → Stage k i.thread_of next core_next h n
      stage_on h n before =
          record {
            regions = λ q q_there is.
                let low = before.regions q q_there is in
                ⊎_elim (λ in_q. let top = low_in q in_q in let base = high_in q in_q in omega (low, top, base, arith))
                (λ out.
                let rises = outside_rises q out (standing_of c q) (standing_of d (i.thread_of q)) (related.regions q q_there) in
                let kept : stage_of k next (standing_of c q) ≤ stage_of k next (standing_of next q) =
                subst (λ w. stage_of k next (standing_of c q) ≤ stage_of k next w) (sym (same q out)) (omega arith) in
                omega (low, rises, kept, arith)) (in_or_out q);
            chart = before.chart;
          }

      pub reached_then : (h n : ℕ) → Stage k i.thread_of c d h n → Reached k core i next core_next h n
      reached_then h n before =
          record {
            staged = stage_on h n before;
            busy = λ q s o q_there busy inner is.
                let low = before.regions (holder k o) (held_there q o inner) is in
                let top : stage_of k c (standing_of c (holder k o)) ≤ 1 =
                ⊎_elim (λ round. outer_low o round) (λ in_it. low_in (holder k o) in_it) (busy_around q s o q_there busy inner) in
                omega (low, top, arith);
          }
