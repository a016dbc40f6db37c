-- The end of a tick: when the chart is over, its core makes the tests it has held back, and both rest alike.
use Rattle.std.proofs.Common.{◌≡◌, ◌≢◌, ℕ, ◌<◌, Bool, true, false, Option, [], ◌∷◌, ◌++◌, map, length, Contains}
use Rattle.std.proofs.Common.{refl, sym, ap, subst, ◌∙◌}
use Rattle.sc_values.specs.Access.{Access}
use Rattle.sc_values.specs.Runs.{IsOver}
use Rattle.core_charts.specs.Tests.{is_weak, is_join}
use Rattle.chart_machine.specs.declared.standing.Standing.{Standing}
use Rattle.chart_machine.specs.declared.standing.Standing.TheVariants as at
use Rattle.chart_machine.specs.declared.standing.Configuration.{Configuration}
use Rattle.chart_machine.specs.declared.table.Table.{Table}
use Rattle.chart_machine.specs.Turns.{standing_of, has_work}
use Rattle.chart_machine.specs.Machine.{machine}
use Rattle.chart_machine_laws.specs.Tree.{IsNested, IsThere, around, holder}
use Rattle.abort_expansion_laws.proofs.Segments.{Segment}
use Rattle.abort_expansion_laws.specs.Stages.{Entry, Silent, Correspondence}
use Rattle.abort_expansion_laws.specs.CoreRows.{own, Images, CoreRows, pair}
use Rattle.abort_expansion_laws.specs.Related.{Stands, outside, ended, left, trying, acting, entering, guarding, staying}
use Rattle.abort_expansion_laws.specs.Related.{within, behind, Watches, waits, looks_strong, looks, elsewhere, FlagsAreDown, Related}
use Rattle.abort_expansion_laws.specs.Related.{guards as watch_guards}
use Rattle.abort_expansion_laws.specs.StageReached.{Stage}
use Rattle.abort_expansion_laws.proofs.InsideLeaves.{AloneRows}
use Rattle.abort_expansion_laws.proofs.StartingRegions.{CounterRows}
use Rattle.abort_expansion_laws.proofs.OpensFork.{OpeningRows}
use Rattle.abort_expansion_laws.proofs.Supplying.{climbs_fewer}
use Rattle.abort_expansion_laws.proofs.TickStarts.{StartRows}
use Rattle.abort_expansion_laws.proofs.LaterTicks.{weak_no_join}
use Rattle.abort_expansion_laws.proofs.Unchanged.{no_guards}
use Rattle.abort_expansion_laws.proofs.LastTests.{last_of, Done, Passing, tests_end, all_passed}
use Rattle.abort_expansion_laws.proofs.LeftTests as left_tests
use Rattle.abort_expansion_laws.proofs.Owed.{RestsIn, rests_outside, rests_ended, rests_left, rests_trying, rests_staying, rests_within, rests_behind}
use Rattle.abort_expansion_laws.proofs.Owed.{WatchRests, watch_within, watch_elsewhere, Resting}

module _ (k core : Table) (i : Images) (rows : CoreRows k core i) (lone : AloneRows k core i) (tree : IsNested k) (counts : ℕ → Bool) (written_at : ℕ → ℕ)
    (counters : CounterRows k core i rows counts written_at) (opening : OpeningRows k core i rows) (start_rows : StartRows k core i rows)
    (written_low : (x : ℕ) → written_at x < 3) (Told : Configuration → Entry → Type 0)
    (told : (e : Configuration) (t : ℕ) (stage : Option (ℕ × ℕ)) (a : Access) → Told e (Silent t stage a))
    (c d : Configuration) (related : Related k core i c d) (deep : (q s : ℕ) → Contains (around k q) s → holder k s < q) (over : IsOver (machine k) c) where
  abbrev corr : Correspondence
  corr = pair k core i rows tree counts written_at

  abbrev Reached : ℕ → ℕ → Type 0
  Reached h n = Stage k i.thread_of c d h n

  works_not : (r : ℕ) (x : Standing) → standing_of c r ≡ x → has_work k c x ≡ true → ⊥
  works_not =
      left_tests.works_not k core i rows lone tree counts written_at counters opening start_rows written_low Told told c d related deep over

  -- ---- where each region rests

  region_rests : (r : ℕ) (x y : Standing) → standing_of c r ≡ x → Stands k core i c r x y → RestsIn k core i c r x (last_of y)
  region_rests r _ _ e outside = rests_outside
  region_rests r _ _ e (ended inner) = rests_ended inner
  region_rests r _ _ e (left s ss round over_it) = rests_left s ss round over_it
  region_rests r _ _ e (trying s [] simple held) =
      rests_trying s simple held
  region_rests r _ _ e (trying s (t ∷ tests) simple held) = absurd (works_not r (at.Trying s (t ∷ tests)) e refl)
  region_rests r _ _ e (acting s u p f effects lt) = absurd (works_not r (at.Acting s (f ∷ effects) p) e refl)
  region_rests r _ _ e (entering s fork t tests super held leads) = absurd (works_not r (at.Entering s (t ∷ tests)) e refl)
  region_rests r _ _ e (guarding s join t tests has held leads) = absurd (works_not r (at.Guarding s (t ∷ tests)) e refl)
  region_rests r _ _ e (staying s tests super held stay) = rests_staying s tests super held stay
  region_rests r _ _ e (within s join tests super held apart still leads) = rests_within s join tests super held apart still leads
  region_rests r _ _ e (behind s tests super held over_it) =
      rests_behind s tests super held over_it

  -- ---- and each monitor

  watcher_rests : (o : ℕ) (x y : Standing) → standing_of c (holder k o) ≡ x → Watches k core i o x y → WatchRests k core i o x (last_of y)
  watcher_rests o _ _ e (watch_guards some among) = absurd (works_not (holder k o) (at.Guarding o (map (λ z. z.1) some)) e refl)
  watcher_rests o _ _ e (looks_strong yet seen parted some among) = absurd (works_not (holder k o) (at.Guarding o (map (λ z. z.1) some)) e refl)
  watcher_rests o _ _ e (waits [] ends among only) = watch_within ends
  watcher_rests o _ _ e (waits (z ∷ some) ends among only) =
      let weak : is_weak z.1.kind ≡ true =
      left_tests.kept_is (λ t. is_weak t.kind) (own k o) z.0 z.1 among.0 in
      let no_join : is_join z.1.kind ≡ false = weak_no_join z.1.kind weak in
      absurd (works_not (holder k o) (at.Within o (z.1 ∷ (map (λ w. w.1) some ++ ends))) e (rw (no_join) refl))
  watcher_rests o _ _ e (looks yet seen parted z some ends among only) =
      let weak : is_weak z.1.kind ≡ true =
      left_tests.kept_is (λ t. is_weak t.kind) (own k o) z.0 z.1 among.0 in
      let no_join : is_join z.1.kind ≡ false = weak_no_join z.1.kind weak in
      absurd (works_not (holder k o) (at.Within o (z.1 ∷ (map (λ w. w.1) some ++ ends))) e (rw (no_join) refl))
  watcher_rests o _ _ e (elsewhere x one two) = watch_elsewhere x two

  -- ---- both configurations

  module _ (begun : (r : ℕ) × IsThere k r × (around k r ≡ []) × (standing_of c r ≢ at.Outside)) where
    rests : (e : Configuration) → Done core corr Told told d Reached (length d.regions) e → Resting k core i c e
    rests e done =
        record {
          more = related.more;
          variables = done.variables ∙ related.variables;
          flag_count = ap (λ vs. length vs) done.variables ∙ related.flag_count;
          chart_regions = related.chart_regions;
          core_regions = done.size ∙ related.core_regions;
          values = related.values;
          no_chart = related.no_chart;
          no_core = passed 0 ∙ ap last_of related.no_core;
          regions = λ r is.
              subst (RestsIn k core i c r (standing_of c r)) (sym (passed (i.thread_of r)))
              (region_rests r (standing_of c r) (standing_of d (i.thread_of r)) refl (related.regions r is));
          watchers = λ o is has.
              subst (WatchRests k core i o (standing_of c (holder k o))) (sym (passed (i.watcher_of o)))
              (watcher_rests o (standing_of c (holder k o)) (standing_of d (i.watcher_of o)) refl (related.watchers o is has));
          flags = λ s is inner. subst (λ vs. FlagsAreDown k core i c vs s) (sym done.variables) (related.flags s is inner);
          enclosed = related.enclosed;
          opened = related.opened;
          closes_last = related.closes_last;
          begun = begun;
        }
      where
        passed : (t : ℕ) → standing_of e t ≡ last_of (standing_of d t)
        passed = all_passed core corr Told told d Reached e done

    pub rests_at_last : Segment (machine core) corr Told d (Stage k i.thread_of c d) (Stage k i.thread_of c) [] (Resting k core i c)
    rests_at_last =
        record {
          log = tests.log;
          last = tests.last;
          follows = tests.follows;
          charted = tests.charted;
          fits = tests.fits;
          climbs = λ rest climbs.
              tests.climbs rest
              (climbs_fewer corr (Stage k i.thread_of c tests.last) Reached rest
              (λ h n before. record { regions = before.regions; chart = before.chart }) climbs);
          reaches = rests tests.last tests.reaches;
        }
      where
        tests : Passing core corr Told told d Reached d (Done core corr Told told d Reached (length d.regions))
        tests =
            tests_end core corr Told told d Reached
            (left_tests.all_end k core i rows lone tree counts written_at counters opening start_rows written_low Told told c d related deep over)
            (no_guards k core i rows c d related)
