-- A monitor goes on alone, by looks at flags that are down: all is related as before, and what follows does so from there.
use Rattle.std.proofs.Common.{◌≡◌, ◌≢◌, ℕ, ◌<◌, ⊎_elim, true, List, [], ◌++◌, length, Contains, sym, ap, subst, ◌∙◌, arith}
use Rattle.sc_values.specs.Runs.{Act}
use Rattle.core_charts.specs.declared.region.Transition.{Transition}
use Rattle.core_charts.specs.Aborts.{has_aborts}
use Rattle.chart_machine.specs.declared.standing.Standing.TheVariants as at
use Rattle.chart_machine.specs.declared.standing.Configuration.{Configuration}
use Rattle.chart_machine.specs.declared.table.Table.{Table}
use Rattle.chart_machine.specs.Turns.{standing_of, guards as has_to_guard}
use Rattle.chart_machine.specs.Machine.{machine}
use Rattle.tick_laws.proofs.Lists.{same_or_not}
use Rattle.abort_expansion_laws.specs.Stages.{Entry, Correspondence}
use Rattle.chart_machine_laws.proofs.LyingIn.{around, holder}
use Rattle.abort_expansion_laws.specs.CoreRows.{own, IsState, Images, CoreRows, WatcherImage}
use Rattle.abort_expansion_laws.specs.Related.{Stores, Stands, Watches, FlagsAreDown, LooksFirst, not_ended, Related}
use Rattle.abort_expansion_laws.proofs.StageReached.{Stage}
use Rattle.abort_expansion_laws.proofs.Segments.{Segment, segment_on}
use Rattle.abort_expansion_laws.proofs.Supplying.{climbs_fewer}
use Rattle.abort_expansion_laws.proofs.LooksFirst.{still_looks}
use Rattle.abort_expansion_laws.proofs.OneMonitor.{one_monitor}

module _ (k core : Table) (i : Images) (rows : CoreRows k core i) (c d : Configuration) (related : Related k core i c d) (o : ℕ) (o_there : IsState k o)
    (has : has_aborts (own k o) ≡ true) (rest : List Transition) where
  abbrev g : ℕ
  g = i.watcher_of o

  image : WatcherImage k core i o
  image = rows.watcher o o_there has

  -- nothing changed but the tests that it has left
  pub record HasMoved (z : Configuration) : Type 0 where
    pub values : z.variables ≡ d.variables
    pub here : standing_of z g ≡ at.Trying (i.watching_of o) rest
    pub others : (t : ℕ) → t ≢ g → standing_of z t ≡ standing_of d t
    pub size : length z.regions ≡ length d.regions

  monitors_differ : (u : ℕ) → IsState k u → has_aborts (own k u) ≡ true → i.watcher_of u ≡ g → u ≡ o
  monitors_differ u u_there some e = one_monitor k core i rows u o u_there some o_there has e

  not_zero : (n : ℕ) → 0 < n → 0 ≢ n
  not_zero n lt e = absurd (omega (lt, e, arith))

  pub moved_related : Watches k core i o (standing_of c (holder k o)) (at.Trying (i.watching_of o) rest) →
      ((s : ℕ) → Contains (around k (holder k o)) s → has_to_guard (standing_of c (holder k s)) ≡ true →
      LooksFirst k core i o s (at.Trying (i.watching_of o) rest)) → (z : Configuration) → HasMoved z → Related k core i c z
  moved_related watches looks z moved =
      record {
        more = related.more;
        variables = moved.values ∙ related.variables;
        flag_count = ap length moved.values ∙ related.flag_count;
        chart_regions = related.chart_regions;
        core_regions = moved.size ∙ related.core_regions;
        values = related.values;
        no_chart = related.no_chart;
        no_core = moved.others 0 (not_zero g image.there.0) ∙ related.no_core;
        regions = λ q q_there.
            subst (Stands k core i c q (standing_of c q)) (sym (moved.others (i.thread_of q) (image.no_thread q))) (related.regions q q_there);
        watchers = λ u u_there some.
            ⊎_elim
            (λ same. subst (λ v. Watches k core i v (standing_of c (holder k v)) (standing_of z (i.watcher_of v))) (sym same)
            (subst (Watches k core i o (standing_of c (holder k o))) (sym moved.here) watches))
            (λ differ. subst (Watches k core i u (standing_of c (holder k u)))
            (sym (moved.others (i.watcher_of u) (λ e. differ (monitors_differ u u_there some e)))) (related.watchers u u_there some)) (same_or_not u o);
        flags = λ s s_there inner.
            let old : FlagsAreDown k core i c d.variables s = related.flags s s_there inner in
            record {
              strong = subst (λ vs. Stores k core i vs (i.flags_of s).strong 0) (sym moved.values) old.strong;
              weak = subst (λ vs. Stores k core i vs (i.flags_of s).weak 0) (sym moved.values) old.weak;
              counter = subst (λ vs. Stores k core i vs (i.flags_of s).counter (not_ended k core i c s)) (sym moved.values) old.counter;
            };
        enclosed = related.enclosed;
        opened = related.opened;
        closes_last = related.closes_last;
        calm = related.calm;
        unseen = λ u s u_there some inner guarded_by.
            ⊎_elim
            (λ same.
            subst (λ v. LooksFirst k core i v s (standing_of z (i.watcher_of v))) (sym same)
            (subst (LooksFirst k core i o s) (sym moved.here)
            (looks s (subst (λ v. Contains (around k (holder k v)) s) same inner) guarded_by)))
            (λ differ.
            still_looks k core i u (standing_of d (i.watcher_of u)) (standing_of z (i.watcher_of u))
            (moved.others (i.watcher_of u) (λ e. differ (monitors_differ u u_there some e))) (related.unseen u s u_there some inner guarded_by))
            (same_or_not u o);
      }

-- what follows does so from there: what is reached is told by the chart alone
pub then_on : (k core : Table) (i : Images) (corr : Correspondence) (Told : Configuration → Entry → Type 0) (c d : Configuration) (steps : List Act)
    (After : Configuration → ℕ → ℕ → Type 0) (First Reaches : Configuration → Type 0)
    (first : Segment (machine core) corr Told d (Stage k i.thread_of c d) (λ z. Stage k i.thread_of c d) [] First) →
    Segment (machine core) corr Told first.last (Stage k i.thread_of c first.last) After steps Reaches →
    Segment (machine core) corr Told d (Stage k i.thread_of c d) After steps Reaches
then_on k core i corr Told c d steps After First Reaches first next =
    segment_on (machine core) corr Told d (Stage k i.thread_of c d) (λ last. Stage k i.thread_of c d) After [] steps First Reaches first
    (record {
      log = next.log;
      last = next.last;
      follows = next.follows;
      charted = next.charted;
      fits = next.fits;
      climbs = λ more climbs.
          climbs_fewer corr (Stage k i.thread_of c first.last) (Stage k i.thread_of c d) (next.log ++ more)
          (λ h n before. record { regions = before.regions; chart = before.chart }) (next.climbs more climbs);
      reaches = next.reaches;
    })
