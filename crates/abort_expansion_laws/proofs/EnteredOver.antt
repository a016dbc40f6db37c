-- A superstate that was just entered and is over already: nobody is left inside of it, nor inside of its fork.
use Rattle.std.proofs.Common.{◌≡◌, ℕ, zero, suc, ◌<◌, ◌⊎◌, inl, inr, ⊎_elim, true, false, Some, List, [], ◌∷◌, length}
use Rattle.std.proofs.Common.{Contains, refl, sym, ap, subst, ◌∙◌, arith}
use Rattle.scl_graph_laws.proofs.Searching.{unlike}
use Rattle.core_charts.specs.declared.region.Transition.{Transition}
use Rattle.core_charts.specs.Aborts.{has_aborts}
use Rattle.core_charts.specs.Tests.{at_once, first_closing_tests}
use Rattle.chart_machine.specs.declared.standing.Standing.TheVariants as at
use Rattle.chart_machine.specs.declared.standing.Configuration.{Configuration}
use Rattle.chart_machine.specs.declared.table.Table.{Table}
use Rattle.chart_machine.specs.Table.{state_at}
use Rattle.chart_machine.specs.Turns.{standing_of, has_ended, is_guarded, itself}
use Rattle.abort_expansion.specs.Superstates.{is_prepared}
use Rattle.abort_expansion.specs.Flags.{has_join}
use Rattle.tick_laws.proofs.Lists.{list_all_at}
use Rattle.chart_machine_laws.specs.Tree.{IsThere, around, holder}
use Rattle.chart_machine_laws.proofs.LyingIn.{none_in, head_in, head_or_tail}
use Rattle.chart_machine_laws.proofs.ChartTables.{around_there}
use Rattle.abort_expansion_laws.specs.CoreRows.{own, IsState, joins, Images, flags_around, counter_over}
use Rattle.abort_expansion_laws.proofs.SettledInOrder.{ended_back}
use Rattle.abort_expansion_laws.proofs.Pending.{IsOpening, IsEmpty, IsJoining, Over, behind_parts, behind_unprepared}
use Rattle.abort_expansion_laws.proofs.BeginningSorts.{Sort, sort_ends, sort_counts, sort_tries, sort_guards, sort_prepares, sort_opens, sort_present}
use Rattle.abort_expansion_laws.proofs.JustEntered.{EntryRows, Reach, live, behind_preparation, nowhere}
use Rattle.abort_expansion_laws.proofs.EnteredMonitors.{entered_watched}
use Rattle.abort_expansion_laws.proofs.OpenForks.{all_over}
use Rattle.abort_expansion_laws.proofs.ForkOver.{Gone, CoreGone, fork_over}
use Rattle.abort_expansion_laws.proofs.InsideAround.{one_in_other}
use Rattle.abort_expansion_laws.proofs.LooksFirst.{watch_gone}
use Rattle.abort_expansion_laws.proofs.ThreadsAround.{thread_within}

module _ (k core : Table) (i : Images) (more : EntryRows k core i) (c e : Configuration)
    (counter_joins : (s x : ℕ) → (i.flags_of s).counter ≡ Some x → has_join (own k s) ≡ true)
    (u : ℕ) (joining : IsJoining k core i c e u) (free : is_guarded k c (around k (holder k u)) ≡ false)
    (reached : (q : ℕ) → IsThere k q → Contains (around k q) u → Reach k core i more c e q) where
  abbrev n : ℕ
  n = suc (length k.regions)

  abbrev m : ℕ
  m = suc (length core.regions)

  abbrev IsGone : ℕ → Type 0
  IsGone q = Gone k core i more c e u joining q

  direct_ended : (q : ℕ) (ss : List ℕ) → around k q ≡ u ∷ ss → standing_of c q ≡ at.Ended
  direct_ended q ss direct =
      ended_back (standing_of c q)
      (list_all_at (λ r. has_ended (standing_of c r)) (state_at k u).regions q (all_over k core i c u joining.over) (more.tree.innermost q u ss direct))

  gone_not_within : (q s : ℕ) (tests : List Transition) → IsGone q → standing_of c q ≡ at.Within s tests → ⊥
  gone_not_within q s tests gone is =
      ⊎_elim (λ over. let wrong : at.Within s tests ≡ at.Ended = sym is ∙ over.2 in absurd cc)
      (λ out. let wrong : at.Within s tests ≡ at.Outside = sym is ∙ out in absurd cc) gone

  thread_in : (q s : ℕ) → Contains (around k q) s → Contains (around core (i.thread_of q)) (i.main_of s)
  thread_in q s h = thread_within k core i more.rows q s h

  -- nothing inside of it is opened later
  no_preparation : (q : ℕ) → Contains (around k q) u → ((p : ℕ) → p < q → IsThere k p → Contains (around k p) u → IsGone p) →
      (w : ℕ) → Contains (around k q) w → IsOpening k core i c e w → IsEmpty k core i c e w → ⊥
  no_preparation q inner before w round opened empty =
      ⊎_elim
      (λ same. unlike _ (subst (λ z. is_prepared (flags_around k core i (holder k z)) (own k z) ≡ true) same opened.prepared)
      (behind_unprepared k core i c u joining.over))
      (⊎_elim
      (λ deeper.
      let there : IsThere k (holder k w) = around_there k (holder k w) u deeper in
      gone_not_within (holder k w) w opened.tests (before (holder k w) (more.tree.deeper q w round) there deeper) opened.open_in_chart)
      (λ outer.
      let wrong : at.Within (i.main_of u) (joins joining.join ∷ []) ≡ at.Outside =
      sym joining.forked ∙ empty (i.thread_of (holder k u)) (thread_in (holder k u) w outer) in absurd cc))
      (one_in_other k more.tree.nested (around k q) q w u refl round inner)

  gone_by : (q : ℕ) → IsThere k q → Contains (around k q) u → ((p : ℕ) → p < q → IsThere k p → Contains (around k p) u → IsGone p) → IsGone q
  gone_by q there inner before = by_round (around k q) refl
    where
      by_reach : (v : ℕ) (vs : List ℕ) → around k q ≡ v ∷ vs → Contains (around k (holder k v)) u → Reach k core i more c e q → IsGone q
      by_reach v vs round up (live l) =
          let o = l.parent v vs round in
          absurd (gone_not_within (holder k v) v o.tests
          (before (holder k v) (more.tree.deeper q v (subst (λ zs. Contains zs v) (sym round) (head_in v vs))) (around_there k (holder k v) u up) up)
          o.open_in_chart)
      by_reach v vs round up (behind_preparation w inside opened empty) = absurd (no_preparation q inner before w inside opened empty)
      by_reach v vs round up (nowhere none core_none) = inr (none q (itself refl))

      by_round : (zs : List ℕ) → around k q ≡ zs → IsGone q
      by_round [] round = absurd (none_in u (subst (λ zs. Contains zs u) round inner))
      by_round (v ∷ vs) round =
          ⊎_elim
          (λ same.
          let direct : around k q ≡ u ∷ vs = round ∙ ap (λ z. z ∷ vs) same in
          inl (vs, direct, direct_ended q vs direct))
          (λ tail. by_reach v vs round (subst (λ zs. Contains zs u) (more.tree.nested.upward q v vs round) tail) (reached q there inner))
          (head_or_tail v u vs (subst (λ zs. Contains zs u) round inner))

  gone : (bound q : ℕ) → q < bound → IsThere k q → Contains (around k q) u → IsGone q
  gone zero q lt there inner = absurd (omega (lt, arith))
  gone (suc bound) q lt there inner = gone_by q there inner (λ p less p_there p_inner. gone bound p (omega (less, lt, arith)) p_there p_inner)

  all_gone : (q : ℕ) → IsThere k q → Contains (around k q) u → IsGone q
  all_gone q there inner = gone (suc q) q (omega arith) there inner

  -- ---- in the core

  by_sort : (q : ℕ) (ss : List ℕ) → around k q ≡ u ∷ ss → standing_of c q ≡ at.Ended → Sort k core i more.rows n m (standing_of c) (standing_of e) q →
      standing_of e (i.thread_of q) ≡ at.Ended
  by_sort q ss direct over (sort_ends now none core_none uncounted core_over) = core_over
  by_sort q ss direct over (sort_counts first place counter now none core_none counted bare leads waiting) =
      let its : (i.flags_of u).counter ≡ Some counter = sym (ap (counter_over k core i) direct) ∙ counted in
      absurd (unlike (has_join (own k u)) (counter_joins u counter its) (behind_parts k core i c u joining.over).2)
  by_sort q ss direct over (sort_tries x simple held stands none core_none core_stands) =
      let wrong : at.Ended ≡ at.Trying x (at_once (own k x)) = sym over ∙ stands in absurd cc
  by_sort q ss direct over (sort_guards x fork t tests here super held prepared stands none core_none leads core_stands) =
      let wrong : at.Ended ≡ at.Entering x (t ∷ tests) = sym over ∙ stands in absurd cc
  by_sort q ss direct over (sort_prepares x fork here super held apart prepared stands fresh others core_none leads core_stands) =
      let wrong : at.Ended ≡ at.Within x (first_closing_tests (own k x)) = sym over ∙ stands in absurd cc
  by_sort q ss direct over (sort_opens x core_tests here super held plain stands fresh others core_stands core_fresh core_others stay_tests split_tests) =
      let wrong : at.Ended ≡ at.Within x (first_closing_tests (own k x)) = sym over ∙ stands in absurd cc

  direct_over : (q : ℕ) (ss : List ℕ) → IsThere k q → around k q ≡ u ∷ ss → standing_of e (i.thread_of q) ≡ at.Ended
  direct_over q ss there direct = by_reach (reached q there inner)
    where
      inner : Contains (around k q) u
      inner = subst (λ zs. Contains zs u) (sym direct) (head_in u ss)

      by_reach : Reach k core i more c e q → standing_of e (i.thread_of q) ≡ at.Ended
      by_reach (live l) = by_sort q ss direct (direct_ended q ss direct) l.sort
      by_reach (behind_preparation w inside opened empty) =
          absurd (no_preparation q inner (λ p less p_there p_inner. all_gone p p_there p_inner) w inside opened empty)
      by_reach (nowhere none core_none) =
          let wrong : at.Ended ≡ at.Outside = sym (direct_ended q ss direct) ∙ none q (itself refl) in absurd cc

  core_gone : (q : ℕ) → IsThere k q → Contains (around k q) u → IsGone q → CoreGone k core i more c e u joining q
  core_gone q there inner (inl over) = inl (direct_over q over.0 there over.1)
  core_gone q there inner (inr out) = by_reach (reached q there inner)
    where
      by_reach : Reach k core i more c e q → CoreGone k core i more c e u joining q
      by_reach (live l) = absurd (sort_present k core i more.rows n m (standing_of c) (standing_of e) q l.sort out)
      by_reach (behind_preparation w inside opened empty) =
          absurd (no_preparation q inner (λ p less p_there p_inner. all_gone p p_there p_inner) w inside opened empty)
      by_reach (nowhere none core_none) = inr (core_none (i.thread_of q) (itself refl))

  watcher_gone : (o : ℕ) → IsState k o → has_aborts (own k o) ≡ true → Contains (around k (holder k o)) u → standing_of e (i.watcher_of o) ≡ at.Outside
  watcher_gone o is has round =
      let there : IsThere k (holder k o) = around_there k (holder k o) u round in
      let gone_there : (standing_of c (holder k o) ≡ at.Ended) ⊎ (standing_of c (holder k o) ≡ at.Outside) =
      ⊎_elim (λ over. inl over.2) (λ out. inr out) (all_gone (holder k o) there round) in
      ⊎_elim (λ watches. watch_gone k core i o (standing_of c (holder k o)) (standing_of e (i.watcher_of o)) watches gone_there) (λ covered. covered.0)
      (entered_watched k core i more c e o is has (reached (holder k o) there round))

  pub entered_over : Over k core i c e u
  entered_over =
      fork_over k core i more c e u joining free all_gone direct_over (λ q there inner. core_gone q there inner (all_gone q there inner)) watcher_gone
