-- What was just entered waits as it should: the regions, the monitors, and the flags of superstates.
use Rattle.std.proofs.Common.{◌≡◌, ℕ, suc, Bool, true, false, Some, None, List, [], ◌∷◌, length, Contains}
use Rattle.std.proofs.Common.{refl, sym, ap, subst, ◌∙◌}
use Rattle.core_charts.specs.Tests.{at_once, first_closing_tests}
use Rattle.chart_machine.specs.declared.standing.Standing.{Standing}
use Rattle.chart_machine.specs.declared.standing.Standing.TheVariants as at
use Rattle.chart_machine.specs.declared.standing.Configuration.{Configuration}
use Rattle.chart_machine.specs.declared.table.Table.{Table}
use Rattle.chart_machine.specs.Table.{state_at}
use Rattle.chart_machine.specs.Turns.{standing_of, inside, itself}
use Rattle.chart_machine.specs.Steps.{state_in}
use Rattle.abort_expansion.specs.Superstates.{stays}
use Rattle.chart_machine_laws.specs.Tree.{around}
use Rattle.chart_machine_laws.proofs.LyingIn.{head_in}
use Rattle.abort_expansion_laws.specs.CoreRows.{own, IsState, IsSuper, joins, Images, flags_around, counter_over}
use Rattle.abort_expansion_laws.specs.Related.{Stands, outside, ended, trying, entering, staying, within, is_behind}
use Rattle.abort_expansion_laws.specs.Related.{tests_of}
use Rattle.abort_expansion_laws.proofs.EnteringSimple.{simple_once}
use Rattle.abort_expansion_laws.proofs.TestFails.{no_front}
use Rattle.abort_expansion_laws.proofs.Pending.{IsJoining, Waits, settled, opening, starting, joining, ending, hidden}
use Rattle.abort_expansion_laws.proofs.Pending.{behind_parts}
use Rattle.abort_expansion_laws.proofs.BeginningSorts.{Sort, sort_ends, sort_counts, sort_tries, sort_guards, sort_prepares, sort_opens}
use Rattle.abort_expansion_laws.proofs.JustEntered.{EntryRows, JustOpen, Live, Reach, live, behind_preparation, nowhere, opening_of}
use Rattle.abort_expansion_laws.proofs.ThreadsAround.{thread_within}

module _ (k core : Table) (i : Images) (more : EntryRows k core i) (c e : Configuration)
    (alone : (v : ℕ) → (state_at core v).regions ≡ [] → inside core v ≡ []) where
  abbrev f : ℕ → Standing
  f = standing_of c

  abbrev g : ℕ → Standing
  g = standing_of e

  abbrev n : ℕ
  n = suc (length k.regions)

  abbrev m : ℕ
  m = suc (length core.regions)

  abbrev reached : ℕ → Type 0
  reached q = Reach k core i more c e q

  -- ---- regions
  settle : (q : ℕ) (x y : Standing) → standing_of c q ≡ x → standing_of e (i.thread_of q) ≡ y → Stands k core i c q x y → Waits k core i c e q
  settle q x y in_chart in_core stands =
      settled (subst (λ z. Stands k core i c q z (standing_of e (i.thread_of q))) (sym in_chart) (subst (Stands k core i c q x) (sym in_core) stands))

  -- a superstate that was opened, and is over already
  joining_of : (u : ℕ) → IsState k u → IsSuper k u → JustOpen k core i more c e u → is_behind k core i c u ≡ true → IsJoining k core i c e u
  joining_of u here super o over =
      let fork = o.forked (behind_parts k core i c u over).0 in
      record {
        tests = o.tests;
        join = fork.0;
        there = here;
        super = super;
        over = over;
        open_in_chart = o.open_in_chart;
        leads = fork.1;
        forked = fork.2;
      }

  ended_waits : (q : ℕ) → Live k core i more c e q → standing_of c q ≡ at.Ended → standing_of e (i.thread_of q) ≡ at.Ended →
      (zs : List ℕ) → around k q ≡ zs → Waits k core i c e q
  ended_waits q l over core_over [] round =
      settle q at.Ended at.Ended over core_over (ended (λ s ss round_it. let wrong : [] ≡ s ∷ ss = sym round ∙ round_it in absurd cc))
  ended_waits q l over core_over (u ∷ us) round = by_behind (is_behind k core i c u) refl
    where
      by_behind : (b : Bool) → is_behind k core i c u ≡ b → Waits k core i c e q
      by_behind true behind_it =
          let its = more.super_around q u (subst (λ zs. Contains zs u) (sym round) (head_in u us)) in
          ending u us round (joining_of u its.0 its.1 (l.parent u us round) behind_it) over core_over
      by_behind false still =
          settle q at.Ended at.Ended over core_over
          (ended (λ s ss round_it.
          let same : u ∷ us ≡ s ∷ ss = sym round ∙ round_it in
          let first : u ≡ s = cc in subst (λ z. is_behind k core i c z ≡ false) first still))

  counting_waits : (q first place counter : ℕ) → Live k core i more c e q → standing_of c q ≡ at.Ended → counter_over k core i (around k q) ≡ Some counter →
      (state_at core first).regions ≡ [] →
      (state_at core (state_in core (i.thread_of q) place)).entered ≡ Rattle.chart_machine.specs.Steps.to (i.thread_of q) at.Ended ∷ [] →
      standing_of e (i.thread_of q) ≡ at.Trying first (Rattle.abort_expansion.specs.Transitions.go true None
      (Rattle.abort_expansion.specs.Transitions.count_down counter ∷ []) place ∷ []) →
      (zs : List ℕ) → around k q ≡ zs → Waits k core i c e q
  counting_waits q first place counter l over counted bare leads waiting [] round =
      let wrong : None ≡ Some counter = sym (ap (counter_over k core i) round) ∙ counted in absurd cc
  counting_waits q first place counter l over counted bare leads waiting (u ∷ us) round =
      let o = l.parent u us round in
      starting u (record {
        outer = us;
        first = first;
        place = place;
        counter = counter;
        direct = round;
        counts = sym (ap (counter_over k core i) round) ∙ counted;
        there = (more.super_around q u (subst (λ zs. Contains zs u) (sym round) (head_in u us))).0;
        tests = o.tests;
        open_in_chart = o.open_in_chart;
        over_in_chart = over;
        alone = alone first bare;
        counting = waiting;
        ends = leads;
      })

  live_waits : (q : ℕ) → Live k core i more c e q → Sort k core i more.rows n m f g q → Waits k core i c e q
  live_waits q l (sort_ends over none core_none uncounted core_over) = ended_waits q l over core_over (around k q) refl
  live_waits q l (sort_counts first place counter over none core_none counted bare leads waiting) =
      counting_waits q first place counter l over counted bare leads waiting (around k q) refl
  live_waits q l (sort_tries x simple held stands none core_none core_stands) =
      settle q (at.Trying x (at_once (own k x))) (at.Trying (i.main_of x) (tests_of k core i c q (at_once (own k x)))) stands
      (core_stands ∙
      ap (at.Trying (i.main_of x))
      (simple_once (flags_around k core i q) (i.places_of q) (own k x) ∙ sym (no_front k core i c q (at_once (own k x)) l.free)))
      (trying x (at_once (own k x)) simple held)
  live_waits q l (sort_guards x fork t tests here super held prepared stands none core_none leads core_stands) =
      settle q (at.Entering x (t ∷ tests)) _ stands core_stands (entering x fork t tests (super, prepared) held leads)
  live_waits q l (sort_prepares x fork here super held apart prepared stands fresh others core_none leads core_stands) =
      opening x held (opening_of k core i more c e q x fork here super held apart prepared stands leads core_stands)
  live_waits q l (sort_opens x core_tests here super held plain stands fresh others core_stands core_fresh core_others stay_tests split_tests) =
      by_stay (stays (flags_around k core i q) (own k x)) refl
    where
      opened_here : stays (flags_around k core i q) (own k x) ≡ false → JustOpen k core i more c e x
      opened_here apart =
          let split = split_tests apart in
          record {
            tests = first_closing_tests (own k x);
            open_in_chart = ap (standing_of c) held ∙ stands;
            forked = λ _. (
              split.0,
              ap (λ z. state_in core (i.thread_of z) split.0) held ∙ split.1,
              ap (λ z. standing_of e (i.thread_of z)) held ∙ (core_stands ∙ ap (at.Within (i.main_of x)) split.2),
            );
          }

      by_behind : (apart : stays (flags_around k core i q) (own k x) ≡ false) (b : Bool) → is_behind k core i c x ≡ b → Waits k core i c e q
      by_behind apart true over = joining x held (joining_of x here super (opened_here apart) over)
      by_behind apart false still =
          let split = split_tests apart in
          settle q (at.Within x (first_closing_tests (own k x))) (at.Within (i.main_of x) (joins split.0 ∷ [])) stands
          (core_stands ∙ ap (at.Within (i.main_of x)) split.2)
          (within x split.0 (first_closing_tests (own k x)) super held apart still split.1)

      by_stay : (b : Bool) → stays (flags_around k core i q) (own k x) ≡ b → Waits k core i c e q
      by_stay true stay =
          settle q (at.Within x (first_closing_tests (own k x))) _ stands (core_stands ∙ ap (at.Within (i.main_of x)) (stay_tests stay))
          (staying x (first_closing_tests (own k x)) super held stay)
      by_stay false apart = by_behind apart (is_behind k core i c x) refl

  pub entered_waits : (q : ℕ) → reached q → Waits k core i c e q
  entered_waits q (live l) = live_waits q l l.sort
  entered_waits q (behind_preparation w inner o empty) = hidden w inner o (empty (i.thread_of q) (thread_within k core i more.rows q w inner))
  entered_waits q (nowhere none core_none) = settle q at.Outside at.Outside (none q (itself refl)) (core_none (i.thread_of q) (itself refl)) outside
