-- A transition enters a final state: all waits as before, but for the superstate around its region, whose fork may be to be joined now.
use Rattle.std.proofs.Common.{◌≡◌, ◌≢◌, ℕ, ◌⊎◌, inl, inr, ⊎_elim, Bool, true, false, List, [], ◌∷◌, ◌++◌, map, Contains, refl, sym, ap, subst, ◌∙◌, arith}
use Rattle.sc_values.specs.declared.value.Value.{Value}
use Rattle.scl_graph_laws.proofs.Searching.{unlike}
use Rattle.core_charts.specs.declared.region.Effect.{Effect}
use Rattle.core_charts.specs.Aborts.{has_aborts}
use Rattle.chart_machine.specs.declared.standing.Standing.{Standing}
use Rattle.chart_machine.specs.declared.standing.Standing.TheVariants as at
use Rattle.chart_machine.specs.declared.standing.Configuration.{Configuration}
use Rattle.chart_machine.specs.declared.table.Table.{Table}
use Rattle.chart_machine.specs.Table.{state_at}
use Rattle.chart_machine.specs.Turns.{standing_of, has_ended, guards as has_to_guard, is_guarded}
use Rattle.chart_machine.specs.Steps.{state_in}
use Rattle.tick_laws.proofs.Lists.{same_or_not, contained}
use Rattle.chart_machine_laws.specs.Tree.{IsThere, around, holder}
use Rattle.chart_machine_laws.proofs.LyingIn.{head_in}
use Rattle.abort_expansion_laws.specs.CoreRows.{own, IsState, is_final, joins, Images}
use Rattle.abort_expansion_laws.specs.Related.{Related, Stands, outside, ended, left, trying, acting, entering, guarding, staying, within, behind, is_behind}
use Rattle.abort_expansion_laws.specs.Related.{front, tests_of, held_back, Watches, IsInside, guarded, open_inside}
use Rattle.abort_expansion.specs.Transitions.{led}
use Rattle.abort_expansion_laws.proofs.Fronts.{front_same}
use Rattle.abort_expansion_laws.proofs.StageReached.{any_in}
use Rattle.abort_expansion_laws.proofs.TestFails.{watch_other}
use Rattle.abort_expansion_laws.proofs.DropsOut.{all_alike}
use Rattle.abort_expansion_laws.proofs.JustEntered.{EntryRows}
use Rattle.abort_expansion_laws.proofs.OpenForks.{not_over, fork_of}
use Rattle.abort_expansion_laws.proofs.Pending.{IsJoining, Waits, settled, joining, ending, behind_parts}
use Rattle.abort_expansion_laws.proofs.FinalTarget as target

module _ (k core : Table) (i : Images) (more : EntryRows k core i) (holds_there : (s : ℕ) → IsState k s → IsThere k (holder k s))
    (c d : Configuration) (related : Related k core i c d) (r s p : ℕ) (e : Effect)
    (stands : standing_of c r ≡ at.Acting s (e ∷ []) p) (free : is_guarded k c (around k r) ≡ false) (values : List Value)
    (final : is_final k (state_in k r p) ≡ true) where
  abbrev next : Configuration
  next = target.next k core i more c d related r s p e stands values final

  abbrev core_next : Configuration
  core_next = target.core_next k core i more c d related r s p e stands values final

  elsewhere : (q : ℕ) → q ≢ r → standing_of next q ≡ standing_of c q
  elsewhere q ne = target.elsewhere k core i more c d related r s p e stands values final q ne

  here : standing_of next r ≡ at.Ended
  here = target.here k core i more c d related r s p e stands values final

  core_here : standing_of core_next (i.thread_of r) ≡ at.Ended
  core_here = target.core_here k core i more c d related r s p e stands values final

  core_elsewhere : (t : ℕ) → t ≢ i.thread_of r → standing_of core_next t ≡ standing_of d t
  core_elsewhere t ne = target.core_elsewhere k core i more c d related r s p e stands values final t ne

  fronts_alike : (q : ℕ) (b : Bool) → front k core i b next q ≡ front k core i b c q
  fronts_alike q = front_same k core i c next q (λ u h. target.guards_alike k core i more c d related r s p e stands values final (holder k u))

  -- ---- which superstates are over now

  -- the one around the region was not
  pub was_not : (u : ℕ) → Contains (state_at k u).regions r → is_behind k core i c u ≡ true → ⊥
  was_not u child over = not_over k core i c u r child (ap has_ended stands) over

  over_elsewhere : (u : ℕ) → ¬ Contains (state_at k u).regions r → is_behind k core i next u ≡ is_behind k core i c u
  over_elsewhere u out =
      let same =
      all_alike (λ q. has_ended (standing_of next q)) (λ q. has_ended (standing_of c q)) (state_at k u).regions
      (λ q child. ap has_ended (elsewhere q (λ w. out (subst (Contains (state_at k u).regions) w child)))) in
      rw (same) refl

  -- over as before, or just now
  pub over_or_not : (u : ℕ) → (is_behind k core i next u ≡ is_behind k core i c u) ⊎ (Contains (state_at k u).regions r × (is_behind k core i next u ≡ true))
  over_or_not u =
      ⊎_elim (λ child. by_over child (is_behind k core i next u) refl (is_behind k core i c u) refl) (λ out. inl (over_elsewhere u out))
      (contained (state_at k u).regions r)
    where
      by_over : Contains (state_at k u).regions r → (b : Bool) → is_behind k core i next u ≡ b → (w : Bool) → is_behind k core i c u ≡ w →
          (is_behind k core i next u ≡ is_behind k core i c u) ⊎ (Contains (state_at k u).regions r × (is_behind k core i next u ≡ true))
      by_over child true now w was = inr (child, now)
      by_over child false now false was = inl (now ∙ sym was)
      by_over child false now true was = absurd (was_not u child was)

  -- its fork is to be joined
  pub joins_now : (u : ℕ) → Contains (state_at k u).regions r → is_behind k core i next u ≡ true → IsJoining k core i next core_next u
  joins_now u child over =
      by_inside (standing_of c (holder k u)) refl
      (related.enclosed r u (target.there k core i more c d related r s p e stands values final)
      (target.was_there k core i more c d related r s p e stands values final) in_u)
    where
      in_u : Contains (around k r) u
      in_u = subst (λ zs. Contains zs u) (sym (more.tree.children u r child)) (head_in u (around k (holder k u)))

      outer : holder k u ≢ r
      outer its = let up = more.tree.deeper r u in_u in omega (up, its, arith)

      by_inside : (x : Standing) → standing_of c (holder k u) ≡ x → IsInside k core i u x → IsJoining k core i next core_next u
      by_inside _ is (guarded tests) =
          absurd (unlike (is_guarded k c (around k r))
          (any_in (λ z. has_to_guard (standing_of c (holder k z))) (around k r) u in_u (ap has_to_guard is)) free)
      by_inside _ is (open_inside tests) =
          let its = more.super_around r u in_u in
          let f = fork_of k core i c u tests (standing_of c (holder k u)) (standing_of d (i.thread_of (holder k u))) (was_not u child)
          (related.regions (holder k u) (holds_there u its.0)) is (behind_parts k core i next u over).0 in
          record {
            tests = tests;
            join = f.0;
            there = its.0;
            super = its.1;
            over = over;
            open_in_chart = elsewhere (holder k u) outer ∙ is;
            leads = f.1;
            forked = core_elsewhere (i.thread_of (holder k u)) (λ w. outer (more.rows.region_once (holder k u) r w)) ∙ f.2;
          }

  -- ---- each region waits

  abbrev Now : ℕ → Standing → Standing → Type 0
  Now q x y = (standing_of next q ≡ x) → (standing_of core_next (i.thread_of q) ≡ y) → Waits k core i next core_next q

  settles : (q : ℕ) (x y : Standing) → Stands k core i next q x y → Now q x y
  settles q x y stand is core_is =
      settled (subst (λ z. Stands k core i next q z (standing_of core_next (i.thread_of q))) (sym is) (subst (Stands k core i next q x) (sym core_is) stand))

  first_of : {u v : ℕ} {us vs : List ℕ} → u ∷ us ≡ v ∷ vs → u ≡ v
  first_of w = cc

  -- a region that has ended, at a thread that has
  ends_by : (q : ℕ) → ((u : ℕ) (us : List ℕ) → around k q ≡ u ∷ us → is_behind k core i c u ≡ false) → Now q at.Ended at.Ended
  ends_by q inner is core_is = by_round (around k q) refl
    where
      by_round : (zs : List ℕ) → around k q ≡ zs → Waits k core i next core_next q
      by_round [] round =
          settles q at.Ended at.Ended (ended (λ v vs w. let wrong : [] ≡ v ∷ vs = sym round ∙ w in absurd cc)) is core_is
      by_round (u ∷ us) round =
          ⊎_elim
          (λ same.
          settles q at.Ended at.Ended
          (ended (λ v vs w. subst (λ z. is_behind k core i next z ≡ false) (first_of (sym round ∙ w)) (same ∙ inner u us round))) is core_is)
          (λ now. ending u us round (joins_now u now.0 now.1) is core_is) (over_or_not u)

  waits_on : (q : ℕ) (x y : Standing) → Stands k core i c q x y → Now q x y
  waits_on q _ _ outside = settles q at.Outside at.Outside outside
  waits_on q _ _ (ended inner) = ends_by q inner
  waits_on q _ _ (left u us round over) =
      ⊎_elim (λ same. settles q at.Ended at.Outside (left u us round (same ∙ over))) (λ now. absurd (was_not u now.0 over)) (over_or_not u)
  waits_on q _ _ (trying u tests simple its) =
      settles q (at.Trying u tests) (at.Trying (i.main_of u) (tests_of k core i c q tests))
      (subst (λ z. Stands k core i next q (at.Trying u tests) (at.Trying (i.main_of u) z)) same_tests (trying u tests simple its))
    where
      same_tests : tests_of k core i next q tests ≡ tests_of k core i c q tests
      same_tests = ap (λ zs. zs ++ map (led (i.places_of q)) tests ++ held_back k core i q) (fronts_alike q false)
  waits_on q _ _ (acting u b g f effects lt) = settles q _ _ (acting u b g f effects lt)
  waits_on q _ _ (entering u fork t tests super its leads) = settles q _ _ (entering u fork t tests super its leads)
  waits_on q _ _ (guarding u join t tests has its leads) = settles q _ _ (guarding u join t tests has its leads)
  waits_on q _ _ (staying u tests super its stay) = settles q _ _ (staying u tests super its stay)
  waits_on q _ _ (within u join tests super its apart still leads) =
      ⊎_elim
      (λ same. settles q (at.Within u tests) (at.Within (i.main_of u) (joins join ∷ [])) (within u join tests super its apart (same ∙ still) leads))
      (λ now is core_is. joining u its (joins_now u now.0 now.1)) (over_or_not u)
  waits_on q _ _ (behind u tests super its over) =
      ⊎_elim
      (λ same.
      settles q (at.Within u tests) (at.Trying (i.behind_of u) (front k core i true c q ++ held_back k core i q))
      (subst (λ z. Stands k core i next q (at.Within u tests) (at.Trying (i.behind_of u) (z ++ held_back k core i q))) same_front
      (behind u tests super its (same ∙ over))))
      (λ now. absurd (was_not u now.0 over)) (over_or_not u)
    where
      same_front : front k core i true next q ≡ front k core i true c q
      same_front = fronts_alike q true

  pub final_waits : (q : ℕ) → IsThere k q → Waits k core i next core_next q
  final_waits q there =
      ⊎_elim
      (λ same.
      subst (Waits k core i next core_next) (sym same)
      (ends_by r (λ u us round. not_yet u us round (is_behind k core i c u) refl) here core_here))
      (λ ne.
      waits_on q (standing_of c q) (standing_of d (i.thread_of q)) (related.regions q there) (elsewhere q ne)
      (core_elsewhere (i.thread_of q) (λ w. ne (more.rows.region_once q r w))))
      (same_or_not q r)
    where
      not_yet : (u : ℕ) (us : List ℕ) → around k r ≡ u ∷ us → (b : Bool) → is_behind k core i c u ≡ b → is_behind k core i c u ≡ false
      not_yet u us round false is = is
      not_yet u us round true is = absurd (was_not u (more.tree.innermost r u us round) is)

  -- ---- monitors stay as they are

  pub watcher_apart : (o : ℕ) → IsState k o → has_aborts (own k o) ≡ true → standing_of core_next (i.watcher_of o) ≡ standing_of d (i.watcher_of o)
  watcher_apart o is has = core_elsewhere (i.watcher_of o) (λ w. (more.rows.watcher o is has).no_thread r (sym w))

  pub final_watched : (o : ℕ) → IsState k o → has_aborts (own k o) ≡ true →
      Watches k core i o (standing_of next (holder k o)) (standing_of core_next (i.watcher_of o))
  final_watched o is has =
      subst (Watches k core i o (standing_of next (holder k o))) (sym (watcher_apart o is has))
      (⊎_elim
      (λ its.
      subst (λ z. Watches k core i o z (standing_of d (i.watcher_of o))) (sym (ap (standing_of next) its ∙ here))
      (watch_other k core i o (standing_of c r) (standing_of d (i.watcher_of o)) at.Ended
      (subst (λ z. Watches k core i o (standing_of c z) (standing_of d (i.watcher_of o))) its (related.watchers o is has))
      (λ tests w. let wrong : at.Acting s (e ∷ []) p ≡ at.Guarding o tests = sym stands ∙ w in absurd cc)
      (λ tests w. let wrong : at.Acting s (e ∷ []) p ≡ at.Within o tests = sym stands ∙ w in absurd cc)
      (λ tests w. absurd cc) (λ tests w. absurd cc)))
      (λ ne. subst (λ z. Watches k core i o z (standing_of d (i.watcher_of o))) (sym (elsewhere (holder k o) ne)) (related.watchers o is has))
      (same_or_not (holder k o) r))
