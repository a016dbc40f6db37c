-- Of what was just entered: monitors, flags, and what is opened later.
use Rattle.std.proofs.Common.{◌≡◌, ◌≢◌, ℕ, suc, ◌⊎◌, inl, inr, ⊎_elim, true, false, None, List, ◌∷◌, length, Contains}
use Rattle.std.proofs.Common.{refl, sym, subst, ◌∙◌}
use Rattle.scl_graph_laws.proofs.Searching.{unlike}
use Rattle.core_charts.specs.declared.region.Transition.{Transition}
use Rattle.core_charts.specs.Aborts.{has_aborts}
use Rattle.core_charts.specs.Tests.{first_closing_tests}
use Rattle.chart_machine.specs.declared.standing.Standing.{Standing}
use Rattle.chart_machine.specs.declared.standing.Standing.TheVariants as at
use Rattle.chart_machine.specs.declared.standing.Configuration.{Configuration}
use Rattle.chart_machine.specs.declared.table.Table.{Table}
use Rattle.chart_machine.specs.Table.{state_at}
use Rattle.chart_machine.specs.Turns.{standing_of, is_guarded, itself, deeper}
use Rattle.abort_expansion.specs.Superstates.{is_prepared}
use Rattle.tick_laws.proofs.Lists.{same_or_not}
use Rattle.chart_machine_laws.specs.Tree.{around, holder}
use Rattle.chart_machine_laws.proofs.LyingIn.{head_in, tail_in}
use Rattle.abort_expansion_laws.specs.CoreRows.{own, IsState, IsSuper, Images, flags_around}
use Rattle.abort_expansion_laws.specs.Related.{Watches, elsewhere, IsInside, guarded, open_inside, Stores}
use Rattle.abort_expansion_laws.proofs.Pending.{IsOpening, IsEmpty, Covered, Flagged, still_going}
use Rattle.abort_expansion_laws.proofs.FreshInside.{Fresh}
use Rattle.abort_expansion_laws.proofs.BeginningSorts.{Sort, sort_ends, sort_counts, sort_tries, sort_guards, sort_prepares, sort_opens, prepared_with}
use Rattle.abort_expansion_laws.proofs.JustEntered.{EntryRows, Reach, live, behind_preparation, nowhere, opening_of}
use Rattle.abort_expansion_laws.proofs.ThreadsAround.{thread_within}

-- a superstate that is not prepared has no flags
pub record Unflagged (k core : Table) (i : Images) (u : ℕ) : Type 0 where
  pub strong : (i.flags_of u).strong ≡ None
  pub weak : (i.flags_of u).weak ≡ None
  pub counter : (i.flags_of u).counter ≡ None

module _ (k core : Table) (i : Images) (more : EntryRows k core i) (c e : Configuration) where
  abbrev f : ℕ → Standing
  f = standing_of c

  abbrev g : ℕ → Standing
  g = standing_of e

  abbrev n : ℕ
  n = suc (length k.regions)

  abbrev m : ℕ
  m = suc (length core.regions)

  within_same : (u x : ℕ) (tests others : List Transition) (z : Standing) → z ≡ at.Within u tests → z ≡ at.Within x others → u ≡ x
  within_same u x tests others z a b = let both : at.Within u tests ≡ at.Within x others = sym a ∙ b in cc

  -- ---- monitors

  module _ (o : ℕ) (here : IsState k o) (has : has_aborts (own k o) ≡ true) where
    round : around core (i.watcher_of o) ≡ i.main_of o ∷ around core (i.thread_of (holder k o))
    round = (more.rows.watcher o here has).encloses

    in_main : Contains (around core (i.watcher_of o)) (i.main_of o)
    in_main = subst (λ zs. Contains zs (i.main_of o)) (sym round) (head_in (i.main_of o) (around core (i.thread_of (holder k o))))

    nowhere_near : (x : Standing) → standing_of c (holder k o) ≡ x → ((tests : List Transition) → x ≢ at.Guarding o tests) →
        ((tests : List Transition) → x ≢ at.Within o tests) → standing_of e (i.watcher_of o) ≡ at.Outside →
        Watches k core i o (standing_of c (holder k o)) (standing_of e (i.watcher_of o)) ⊎
        ((standing_of e (i.watcher_of o) ≡ at.Outside) × Covered k core i c e o)
    nowhere_near x is not_guarding not_within out =
        inl (subst (λ z. Watches k core i o z (standing_of e (i.watcher_of o))) (sym is)
        (subst (Watches k core i o x) (sym out) (elsewhere x not_guarding not_within)))

    by_sort : Sort k core i more.rows n m f g (holder k o) →
        Watches k core i o (standing_of c (holder k o)) (standing_of e (i.watcher_of o)) ⊎
        ((standing_of e (i.watcher_of o) ≡ at.Outside) × Covered k core i c e o)
    by_sort (sort_ends over none core_none uncounted core_over) =
        nowhere_near at.Ended over (λ tests w. absurd cc) (λ tests w. absurd cc) (core_none (i.watcher_of o) (i.main_of o) in_main (more.rows.held o))
    by_sort (sort_counts first place counter over none core_none counted bare leads waiting) =
        nowhere_near at.Ended over (λ tests w. absurd cc) (λ tests w. absurd cc) (core_none (i.watcher_of o) (i.main_of o) in_main (more.rows.held o))
    by_sort (sort_tries x simple held stands none core_none core_stands) =
        nowhere_near _ stands (λ tests w. absurd cc) (λ tests w. absurd cc) (core_none (i.watcher_of o) (i.main_of o) in_main (more.rows.held o))
    by_sort (sort_guards x fork t tests there super held prepared stands none core_none leads core_stands) =
        nowhere_near _ stands (λ others w. absurd cc) (λ others w. absurd cc) (core_none (i.watcher_of o) (i.main_of o) in_main (more.rows.held o))
    by_sort (sort_prepares x fork there super held apart prepared stands fresh others core_none leads core_stands) =
        let out = core_none (i.watcher_of o) (i.main_of o) in_main (more.rows.held o) in
        ⊎_elim
        (λ same. inr (
          out,
          (
            o,
            subst (IsOpening k core i c e) (sym same)
                (opening_of k core i more c e (holder k o) x fork there super held apart prepared stands leads core_stands),
            inl refl,
          ),
        ))
        (λ ne. nowhere_near _ stands (λ tests w. absurd cc) (λ tests w. ne (sym (within_same x o _ tests _ refl w))) out) (same_or_not o x)
    by_sort (sort_opens x core_tests there super held plain stands fresh others core_stands core_fresh core_others stay_tests split_tests) =
        ⊎_elim
        (λ same.
        absurd (unlike (is_prepared (flags_around k core i (holder k o)) (own k x))
        (prepared_with (flags_around k core i (holder k o)) (own k x) (subst (λ z. has_aborts (own k z) ≡ true) same has)) plain))
        (λ ne.
        nowhere_near _ stands (λ tests w. absurd cc) (λ tests w. ne (sym (within_same x o _ tests _ refl w)))
        (core_others (i.watcher_of o) (i.main_of o) in_main (more.rows.held o) (λ same. ne (more.rows.main_once o x same))))
        (same_or_not o x)

    pub entered_watched : Reach k core i more c e (holder k o) →
        Watches k core i o (standing_of c (holder k o)) (standing_of e (i.watcher_of o)) ⊎
        ((standing_of e (i.watcher_of o) ≡ at.Outside) × Covered k core i c e o)
    entered_watched (live l) = by_sort l.sort
    entered_watched (behind_preparation w inner opened empty) =
        inr (
          empty (i.watcher_of o) (subst (λ zs. Contains zs (i.main_of w)) (sym round)
              (tail_in (i.main_of o) (i.main_of w) (around core (i.thread_of (holder k o)))
              (thread_within k core i more.rows (holder k o) w inner))),
          (w, opened, inr inner),
        )
    entered_watched (nowhere none core_none) =
        nowhere_near at.Outside (none (holder k o) (itself refl)) (λ tests w. absurd cc) (λ tests w. absurd cc)
        (core_none (i.watcher_of o) (deeper (i.main_of o) in_main (more.rows.held o)))

  -- ---- who is in a superstate that was just entered

  pub data IsOpen (u : ℕ) : Type 0 where
    to_prepare : is_guarded k c (around k (holder k u)) ≡ false → Fresh k n f u → IsEmpty k core i c e u → IsOpening k core i c e u → IsOpen u
    opened_now : is_guarded k c (around k (holder k u)) ≡ false → IsSuper k u → is_prepared (flags_around k core i (holder k u)) (own k u) ≡ false → IsOpen u
    covered_by : (w : ℕ) → Contains (around k (holder k u)) w → IsOpening k core i c e w → IsEmpty k core i c e w → IsOpen u

  open_by_sort : (u : ℕ) (tests : List Transition) → standing_of c (holder k u) ≡ at.Within u tests → is_guarded k c (around k (holder k u)) ≡ false →
      Sort k core i more.rows n m f g (holder k u) → IsOpen u
  open_by_sort u tests is free (sort_ends over none core_none uncounted core_over) =
      let wrong : at.Within u tests ≡ at.Ended = sym is ∙ over in absurd cc
  open_by_sort u tests is free (sort_counts first place counter over none core_none counted bare leads waiting) =
      let wrong : at.Within u tests ≡ at.Ended = sym is ∙ over in absurd cc
  open_by_sort u tests is free (sort_tries x simple held stands none core_none core_stands) =
      let wrong : at.Within u tests ≡ at.Trying x (Rattle.core_charts.specs.Tests.at_once (own k x)) = sym is ∙ stands in absurd cc
  open_by_sort u tests is free (sort_guards x fork t others there super held prepared stands none core_none leads core_stands) =
      let wrong : at.Within u tests ≡ at.Entering x (t ∷ others) = sym is ∙ stands in absurd cc
  open_by_sort u tests is free (sort_prepares x fork there super held apart prepared stands fresh others core_none leads core_stands) =
      let same : x ≡ u = within_same x u (first_closing_tests (own k x)) tests (standing_of c (holder k u)) stands is in
      to_prepare free (subst (Fresh k n f) same fresh) (λ t inner. core_none t (i.main_of u) inner (more.rows.held u))
      (subst (IsOpening k core i c e) same
      (opening_of k core i more c e (holder k u) x fork there super held apart prepared stands leads core_stands))
  open_by_sort u tests is free
      (sort_opens x core_tests there super held plain stands fresh others core_stands core_fresh core_others stay_tests split_tests) =
      let same : x ≡ u = within_same x u (first_closing_tests (own k x)) tests (standing_of c (holder k u)) stands is in
      opened_now free (subst (IsSuper k) same super)
      (subst (λ z. is_prepared (flags_around k core i (holder k u)) (own k z) ≡ false) same plain)

  pub entered_open : (u : ℕ) (tests : List Transition) → standing_of c (holder k u) ≡ at.Within u tests → Reach k core i more c e (holder k u) → IsOpen u
  entered_open u tests is (live l) = open_by_sort u tests is l.free l.sort
  entered_open u tests is (behind_preparation w inner opened empty) = covered_by w inner opened empty
  entered_open u tests is (nowhere none core_none) =
      let wrong : at.Within u tests ≡ at.Outside = sym is ∙ none (holder k u) (itself refl) in absurd cc

  -- nobody guards there
  never_guards : (u : ℕ) (tests : List Transition) → standing_of c (holder k u) ≡ at.Guarding u tests → Reach k core i more c e (holder k u) →
      Covered k core i c e u
  never_guards u tests is (live l) = absurd (by_live l.sort)
    where
      by_live : Sort k core i more.rows n m f g (holder k u) → ⊥
      by_live (sort_ends over none core_none uncounted core_over) = let wrong : at.Guarding u tests ≡ at.Ended = sym is ∙ over in absurd cc
      by_live (sort_counts first place counter over none core_none counted bare leads waiting) =
          let wrong : at.Guarding u tests ≡ at.Ended = sym is ∙ over in absurd cc
      by_live (sort_tries x simple held stands none core_none core_stands) =
          let wrong : at.Guarding u tests ≡ at.Trying x (Rattle.core_charts.specs.Tests.at_once (own k x)) = sym is ∙ stands in absurd cc
      by_live (sort_guards x fork t others there super held prepared stands none core_none leads core_stands) =
          let wrong : at.Guarding u tests ≡ at.Entering x (t ∷ others) = sym is ∙ stands in absurd cc
      by_live (sort_prepares x fork there super held apart prepared stands fresh others core_none leads core_stands) =
          let wrong : at.Guarding u tests ≡ at.Within x (first_closing_tests (own k x)) = sym is ∙ stands in absurd cc
      by_live (sort_opens x core_tests there super held plain stands fresh others core_stands core_fresh core_others stay_tests split_tests) =
          let wrong : at.Guarding u tests ≡ at.Within x (first_closing_tests (own k x)) = sym is ∙ stands in absurd cc
  never_guards u tests is (behind_preparation w inner opened empty) = (w, opened, inr inner)
  never_guards u tests is (nowhere none core_none) =
      let wrong : at.Guarding u tests ≡ at.Outside = sym is ∙ none (holder k u) (itself refl) in absurd cc

  no_flags : (u : ℕ) → Unflagged k core i u → Flagged k core i c e u
  no_flags u none =
      record {
        strong = subst (λ o. Stores k core i e.variables o 0) (sym none.strong) tt;
        weak = subst (λ o. Stores k core i e.variables o 0) (sym none.weak) tt;
        counter = subst (λ o. Stores k core i e.variables o (still_going k core i c e (state_at k u).regions)) (sym none.counter) tt;
      }

  pub entered_flags : ((u : ℕ) → IsSuper k u → is_prepared (flags_around k core i (holder k u)) (own k u) ≡ false → Unflagged k core i u) →
      (u : ℕ) (x : Standing) → standing_of c (holder k u) ≡ x → IsInside k core i u x → Reach k core i more c e (holder k u) →
      Flagged k core i c e u ⊎ Covered k core i c e u
  entered_flags unflagged u _ is (guarded tests) reached = inr (never_guards u tests is reached)
  entered_flags unflagged u _ is (open_inside tests) reached = by_open (entered_open u tests is reached)
    where
      by_open : IsOpen u → Flagged k core i c e u ⊎ Covered k core i c e u
      by_open (to_prepare free fresh empty opened) = inr (u, opened, inl refl)
      by_open (opened_now free super plain) = inl (no_flags u (unflagged u super plain))
      by_open (covered_by w inner opened empty) = inr (w, opened, inr inner)

  -- one with aborts is prepared, so what is inside of it is not opened at once
  pub entered_covered : (u : ℕ) → has_aborts (own k u) ≡ true → (x : Standing) → standing_of c (holder k u) ≡ x → IsInside k core i u x →
      Reach k core i more c e (holder k u) → Covered k core i c e u
  entered_covered u has _ is (guarded tests) reached = never_guards u tests is reached
  entered_covered u has _ is (open_inside tests) reached = by_open (entered_open u tests is reached)
    where
      by_open : IsOpen u → Covered k core i c e u
      by_open (to_prepare free fresh empty opened) = (u, opened, inl refl)
      by_open (opened_now free super plain) =
          absurd (unlike (is_prepared (flags_around k core i (holder k u)) (own k u))
          (prepared_with (flags_around k core i (holder k u)) (own k u) has) plain)
      by_open (covered_by w inner opened empty) = (w, opened, inr inner)
