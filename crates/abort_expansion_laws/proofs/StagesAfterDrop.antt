-- Which stages may be reached after a superstate was left, and all inside it dropped.
use Rattle.std.proofs.Common.{◌≡◌, ◌≢◌, ℕ, ◌≤◌, ◌⊎◌, inl, inr, ⊎_elim, true, false, List, ◌∷◌, Contains, refl, sym, ap, subst, ◌∙◌, arith}
use Rattle.std.specs.List.{list_any}
use Rattle.core_charts.specs.declared.region.Transition.{Transition}
use Rattle.core_charts.specs.Tests.{is_weak}
use Rattle.core_charts.specs.Aborts.{has_aborts}
use Rattle.chart_machine.specs.declared.standing.Standing.{Standing}
use Rattle.chart_machine.specs.declared.standing.Standing.TheVariants as at
use Rattle.chart_machine.specs.declared.standing.Configuration.{Configuration}
use Rattle.chart_machine.specs.declared.table.Table.{Table}
use Rattle.chart_machine.specs.Table.{state_at}
use Rattle.chart_machine.specs.Turns.{standing_of, has_work, is_guarded, inside}
use Rattle.tick_laws.proofs.Lists.{same_or_not, contained}
use Rattle.chart_machine_laws.proofs.LyingIn.{IsNested, LiesUnder, around, holder, around_around}
use Rattle.abort_expansion_laws.proofs.TablesCorrespond.{IsThere}
use Rattle.abort_expansion_laws.specs.CoreRows.{own, Images, CoreRows}
use Rattle.abort_expansion_laws.specs.Related.{Stands, outside, ended, left, trying, acting, entering, guarding, staying, within, behind, IsInside}
use Rattle.abort_expansion_laws.specs.Related.{guarded, open_inside, Related}
use Rattle.abort_expansion_laws.proofs.StageReached.{some_work, stage_of, Stage, any_in, inside_in, holds_other, either_rises}
use Rattle.abort_expansion_laws.proofs.StageReached.{one_at_most}
use Rattle.abort_expansion_laws.proofs.StagesInside.{none_comes}
use Rattle.abort_expansion_laws.proofs.InsideAround.{one_in_other}
use Rattle.abort_expansion_laws.proofs.OuterStages.{under_stages, holder_there, stands_inside}

module _ (k core : Table) (i : Images) (rows : CoreRows k core i) (tree : IsNested k)
    (children : (s r : ℕ) → Contains (state_at k s).regions r → around k r ≡ s ∷ around k (holder k s))
    (c d : Configuration) (related : Related k core i c d) (r o : ℕ) (there : IsThere k r) (held : holder k o ≡ r)
    (present : standing_of c r ≢ at.Outside) (works : has_work k c (standing_of c r) ≡ true) (free : is_guarded k c (around k r) ≡ false)
    (Spared : ℕ → Type 0) (inside_low : (q : ℕ) → IsThere k q → Contains (around k q) o → Spared q → stage_of k c (standing_of c q) ≤ 1)
    (next : Configuration) (here : stage_of k next (standing_of next r) ≡ 1)
    (gone : (q : ℕ) → IsThere k q → Contains (around k q) o → standing_of next q ≡ at.Outside)
    (same : (q : ℕ) → q ≢ r → ¬ Contains (around k q) o → standing_of next q ≡ standing_of c q) where
  abbrev In : ℕ → Type 0
  In q = Contains (around k q) o

  r_out : ¬ In r
  r_out h = holds_other k tree r o h held

  -- ---- the regions that hold what is around r

  holder_same : (s : ℕ) → Contains (around k r) s → standing_of next (holder k s) ≡ standing_of c (holder k s)
  holder_same s around_it = same (holder k s) (holds_other k tree r s around_it) (λ h. r_out (around_around k tree (around k r) r s o refl around_it h))

  pub outer_stage : (b : ℕ) → LiesUnder k r b → (i.thread_of b ≢ i.thread_of r) ×
      (((u : ℕ) → Stage k i.thread_of c d (i.thread_of b) u → u ≤ 1) × Stage k i.thread_of next d (i.thread_of b) 1)
  outer_stage b under =
      (differs under, under_stages k core i rows c d related r there present works free next holder_same d (i.thread_of b) 1 (b, under, refl, refl))
    where
      differs : LiesUnder k r b → i.thread_of b ≢ i.thread_of r
      differs (inr root) e = let zero_is : b ≡ r = rows.region_once b r e in let lt = there.0 in absurd (omega (root, zero_is, lt, arith))
      differs (inl s) e = holds_other k tree r s.0 s.1 (s.2 ∙ rows.region_once b r e)

  -- r goes on, so no stage but 1 is reached there
  pub outer_low : has_work k next (standing_of next r) ≡ true → (b : ℕ) → LiesUnder k r b → (n : ℕ) → Stage k i.thread_of next d (i.thread_of b) n → n ≤ 1
  outer_low works_on b (inr root) n before = before.chart (ap i.thread_of root)
  outer_low works_on b (inl s) n before =
      let le = before.regions (holder k s.0) there_too (ap i.thread_of (sym s.2)) in
      let one : stage_of k next (standing_of next (holder k s.0)) ≤ 1 =
      subst (λ w. stage_of k next w ≤ 1) (sym (holder_same s.0 s.1)) (low_then (standing_of c (holder k s.0)) its_inside) in
      omega (le, one, arith)
    where
      its_inside : IsInside k core i s.0 (standing_of c (holder k s.0))
      its_inside = stands_inside k core i rows c d related r there present works free next holder_same s.0 s.1

      there_too : IsThere k (holder k s.0)
      there_too = holder_there k core i rows c d related r there present works free next holder_same s.0 s.1

      busy_then : some_work k next s.0 ≡ true
      busy_then = any_in (λ q. has_work k next (standing_of next q)) (inside k s.0) r (inside_in k s.0 r there s.1) works_on

      low_then : (w : Standing) → IsInside k core i s.0 w → stage_of k next w ≤ 1
      low_then _ (guarded tests) = omega arith
      low_then _ (open_inside tests) = rw (busy_then) (one_at_most (has_aborts (own k s.0)))

  -- ---- the others

  -- a superstate without work inside, that r neither holds nor lies in: nothing changes there
  module _ (u : ℕ) (quiet : some_work k c u ≡ false) (not_by : holder k u ≢ r) (out_u : ¬ In (holder k u)) where
    r_not_in : ¬ Contains (around k r) u
    r_not_in h =
        let wrong : true ≡ false = sym (any_in (λ q. has_work k c (standing_of c q)) (inside k u) r (inside_in k u r there h) works) ∙ quiet in absurd cc

    untouched : (q : ℕ) → Contains (around k q) u → (q ≢ r) × ¬ In q
    untouched q h = (
      (λ e. r_not_in (subst (λ p. Contains (around k p) u) e h)),
      λ in_o.
          ⊎_elim (λ e. not_by (ap (holder k) e ∙ held))
          (⊎_elim (λ deeper. out_u deeper) (λ deeper. r_not_in (subst (λ p. Contains (around k p) u) held deeper)))
          (one_in_other k tree (around k q) q u o refl h in_o),
    )

    unchanged : (q : ℕ) → Contains (around k q) u → standing_of next q ≡ standing_of c q
    unchanged q h = same q (untouched q h).0 (untouched q h).1

    still_quiet : some_work k next u ≡ false
    still_quiet = none_comes k core i children c d related next u unchanged quiet

  within_rises : (q u : ℕ) (tests : List Transition) → holder k u ≡ q → q ≢ r → ¬ In q → stage_of k c (at.Within u tests) ≤ stage_of k next (at.Within u tests)
  within_rises q u tests its ne out_q =
      either_rises (has_aborts (own k u)) (some_work k c u) (some_work k next u) (list_any (λ t. is_weak t.kind) tests)
      (λ quiet. still_quiet u quiet (λ e. ne (sym its ∙ e)) (λ h. out_q (subst In its h)))

  outside_rises : (q : ℕ) → q ≢ r → ¬ In q → (w y : Standing) → Stands k core i c q w y → stage_of k c w ≤ stage_of k next w
  outside_rises q ne out_q _ _ outside = omega arith
  outside_rises q ne out_q _ _ (ended inner) = omega arith
  outside_rises q ne out_q _ _ (left s ss e over) = omega arith
  outside_rises q ne out_q _ _ (trying s tests simple its) = omega arith
  outside_rises q ne out_q _ _ (acting s u p e effects lt) = omega arith
  outside_rises q ne out_q _ _ (entering s fork t tests super its leads) = omega arith
  outside_rises q ne out_q _ _ (guarding s join t tests some its leads) = omega arith
  outside_rises q ne out_q _ _ (staying s tests super its stays) = within_rises q s tests its ne out_q
  outside_rises q ne out_q _ _ (within s join tests super its stays still leads) = within_rises q s tests its ne out_q
  outside_rises q ne out_q _ _ (behind s tests super its over) = within_rises q s tests its ne out_q

  pub others_stay : (h s : ℕ) → h ≢ i.thread_of r → ((q : ℕ) → IsThere k q → h ≡ i.thread_of q → Contains (around k q) o → Spared q) →
      Stage k i.thread_of c d h s → Stage k i.thread_of next d h s
  others_stay h s ne spared before = record {
    regions = λ q q_there e. by_place q q_there e (λ is. ne (e ∙ ap i.thread_of is)) (before.regions q q_there e) (contained (around k q) o);
    chart = before.chart;
  }
    where
      by_place : (q : ℕ) → IsThere k q → h ≡ i.thread_of q → q ≢ r → s ≤ stage_of k c (standing_of c q) →
          Contains (around k q) o ⊎ ¬ Contains (around k q) o → s ≤ stage_of k next (standing_of next q)
      by_place q q_there e other low_q (inl in_o) =
          let m = inside_low q q_there in_o (spared q q_there e in_o) in
          let n : stage_of k next (standing_of next q) ≡ 1 = ap (stage_of k next) (gone q q_there in_o) in omega (low_q, m, n, arith)
      by_place q q_there e other low_q (inr out_o) =
          let m = outside_rises q other out_o (standing_of c q) (standing_of d (i.thread_of q)) (related.regions q q_there) in
          let n : stage_of k next (standing_of c q) ≤ stage_of k next (standing_of next q) =
          subst (λ w. stage_of k next (standing_of c q) ≤ stage_of k next w) (sym (same q other out_o)) (omega arith) in
          omega (low_q, m, n, arith)

  -- at the end: what is reached when the thread of r has just stepped
  pub reached_now : (last : Configuration) (h s : ℕ) → (h ≢ i.thread_of r → Stage k i.thread_of next d h s) × (h ≡ i.thread_of r → s ≤ 0) →
      Stage k i.thread_of next last h s
  reached_now last h s reached = record {
    regions = λ q q_there e. ⊎_elim
        (λ own_thread. let low = reached.1 own_thread in omega (low, arith)) (λ other. (reached.0 other).regions q q_there e) (same_or_not h (i.thread_of r));
    chart = λ e. ⊎_elim (λ own_thread. let low = reached.1 own_thread in omega (low, arith)) (λ other. (reached.0 other).chart e)
        (same_or_not h (i.thread_of r));
  }
