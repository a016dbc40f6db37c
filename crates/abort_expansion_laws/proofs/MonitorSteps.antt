-- An abort test of a region that the monitor of its superstate makes: it is followed by one step of the core.
use Rattle.std.proofs.Common.{◌≡◌, ◌≢◌, ℕ, ◌<◌, ◌≤◌, ◌⊎◌, inl, inr, ⊎_elim, Bool, true, false, Some, [], ◌∷◌, length, Contains, refl}
use Rattle.std.proofs.Common.{sym, ap, subst, ◌∙◌, arith}
use Rattle.sc_values.specs.Access.{Access, Nothing}
use Rattle.sc_values.specs.Runs.{act_of}
use Rattle.chart_machine.specs.declared.standing.Standing.{Standing}
use Rattle.chart_machine.specs.declared.standing.Configuration.{Configuration}
use Rattle.chart_machine.specs.declared.table.Table.{Table}
use Rattle.chart_machine.specs.Turns.{standing_of, has_work, is_guarded}
use Rattle.chart_machine.specs.Steps.{access_of, step}
use Rattle.chart_machine.specs.Machine.{machine}
use Rattle.tick_laws.proofs.Lists.{same_or_not}
use Rattle.abort_expansion_laws.specs.Stages.{Entry, Watched, Touches}
use Rattle.abort_expansion_laws.proofs.Supplying.{climbs_step}
use Rattle.abort_expansion_laws.proofs.Segments.{Segment}
use Rattle.chart_machine_laws.proofs.LyingIn.{IsNested, around, holder}
use Rattle.abort_expansion_laws.proofs.TablesCorrespond.{IsThere}
use Rattle.abort_expansion_laws.specs.CoreRows.{Images, CoreRows}
use Rattle.abort_expansion_laws.specs.Related.{Related}
use Rattle.abort_expansion_laws.proofs.Unchanged.{stands_other, stands_same}
use Rattle.abort_expansion_laws.proofs.MonitorGoesOn.{MonitorGoesOn, monitor_goes_on, same_shape}
use Rattle.abort_expansion_laws.proofs.ImageSteps.{pair}
use Rattle.abort_expansion_laws.proofs.StageReached.{stage_of, Stage, holds_other, stage_kept}
use Rattle.abort_expansion_laws.proofs.OuterStages.{Inner, under_stages}

module _ (k core : Table) (i : Images) (rows : CoreRows k core i) (tree : IsNested k) (counts : ℕ → Bool) (written_at : ℕ → ℕ) where
  -- region q has work and nobody guards it; the monitor of superstate o makes the same test, and both go on
  pub record WatchedStep (c d : Configuration) (q o stage : ℕ) (y z : Standing) (c' d' : Configuration) (a : Access) : Type 0 where
    pub goes : MonitorGoesOn k core i rows c d q o y z c' d'
    pub staged : (stage ≡ 0) ⊎ (stage ≡ 2)
    pub not_above : stage_of k c (standing_of c q) ≤ stage
    pub not_below : stage ≤ stage_of k c' y
    pub plain : a.writes ≡ Nothing
    pub works : has_work k c (standing_of c q) ≡ true
    pub free : is_guarded k c (around k q) ≡ false
    pub steps : step core (i.watcher_of o) d ≡ Some d'
    pub chart_access : access_of (standing_of c q) ≡ a
    pub core_access : access_of (standing_of d (i.watcher_of o)) ≡ a
    pub declared : (x : ℕ) → Touches a x → x < length k.variables

  module _ (c d : Configuration) (related : Related k core i c d) (q o stage : ℕ) (y z : Standing) (c' d' : Configuration) (a : Access)
      (s : WatchedStep c d q o stage y z c' d' a) where
    elsewhere : (r : ℕ) → r ≢ q → standing_of c' r ≡ standing_of c r
    elsewhere r ne = stands_other c c' q r y s.goes.chart ne

    holders_same : (u : ℕ) → Contains (around k q) u → standing_of c' (holder k u) ≡ standing_of c (holder k u)
    holders_same u inner = elsewhere (holder k u) (holds_other k tree q u inner)

    abbrev Within : ℕ → ℕ → Type 0
    Within = Inner k core i rows c d related q s.goes.there s.goes.was_there s.works s.free c' holders_same

    stages : (h v : ℕ) → Within h v → ((u : ℕ) → Stage k i.thread_of c d h u → u ≤ v) × Stage k i.thread_of c' d' h v
    stages = under_stages k core i rows c d related q s.goes.there s.goes.was_there s.works s.free c' holders_same d'

    in_chart : q < length c.regions
    in_chart = let lt = s.goes.there.1 in omega (lt, related.chart_regions, arith)

    here : standing_of c' q ≡ y
    here = stands_same c c' q y s.goes.chart in_chart

    own_stage : (h v : ℕ) → h ≡ i.thread_of q → v ≡ stage → ((u : ℕ) → Stage k i.thread_of c d h u → u ≤ v) × Stage k i.thread_of c' d' h v
    own_stage h v is same = (
      λ u before. let n = before.regions q s.goes.there is in let m = s.not_above in omega (n, m, same, arith),
      record {
        regions = λ r there e.
            let one : q ≡ r = rows.region_once q r (sym is ∙ e) in
            let n : stage ≤ stage_of k c' (standing_of c' r) = subst (λ x. stage ≤ stage_of k c' (standing_of c' x)) one
            (subst (λ x. stage ≤ stage_of k c' x) (sym here) s.not_below) in omega (n, same, arith);
        chart = λ e. let wrong : q ≡ 0 = rows.region_once q 0 (sym is ∙ e) in let lt = s.goes.there.0 in absurd (omega (wrong, lt, arith));
      },
    )

    all_stages : (h v : ℕ) → ((h ≡ i.thread_of q) × (v ≡ stage)) ⊎ Within h v → ((u : ℕ) → Stage k i.thread_of c d h u → u ≤ v) × Stage k i.thread_of c' d' h v
    all_stages h v (inl is) = own_stage h v is.0 is.1
    all_stages h v (inr inner) = stages h v inner

    stays : (h v : ℕ) → i.watcher_of o ≢ h → Stage k i.thread_of c d h v → Stage k i.thread_of c' d' h v
    stays h v ne before = record {
      regions = λ r there e. ⊎_elim (λ same. by_own r there e same before) (λ other. by_other r there e other before) (same_or_not r q);
      chart = before.chart;
    }
      where
        by_own : (r : ℕ) → IsThere k r → h ≡ i.thread_of r → r ≡ q → Stage k i.thread_of c d h v → v ≤ stage_of k c' (standing_of c' r)
        by_own r there e same stage_before =
            let n = stage_before.regions r there e in
            let m : stage_of k c (standing_of c r) ≤ stage = subst (λ p. stage_of k c (standing_of c p) ≤ stage) (sym same) s.not_above in
            let w : stage ≤ stage_of k c' (standing_of c' r) = subst (λ p. stage ≤ stage_of k c' (standing_of c' p)) (sym same)
            (subst (λ x. stage ≤ stage_of k c' x) (sym here) s.not_below) in
            omega (n, m, w, arith)

        by_other : (r : ℕ) → IsThere k r → h ≡ i.thread_of r → r ≢ q → Stage k i.thread_of c d h v → v ≤ stage_of k c' (standing_of c' r)
        by_other r there e other stage_before =
            let n = stage_before.regions r there e in
            let m : stage_of k c (standing_of c r) ≤ stage_of k c' (standing_of c r) =
            stage_kept k core i c c' (same_shape k core i rows c d related q o y z c' d' s.goes) q s.works elsewhere (standing_of c r) in
            let w : stage_of k c' (standing_of c r) ≤ stage_of k c' (standing_of c' r) =
            subst (λ x. stage_of k c' (standing_of c r) ≤ stage_of k c' x) (sym (elsewhere r other)) (omega arith) in
            omega (n, m, w, arith)

    pub watched_segment : (Told : Configuration → Entry → Type 0) → Told d (Watched q (i.watcher_of o) stage a) →
        Segment (machine core) (pair k core i rows tree counts written_at) Told d (Stage k i.thread_of c d) (Stage k i.thread_of c')
        (act_of (machine k) c q ∷ []) (Related k core i c')
    watched_segment Told told =
        record {
          log = Watched q (i.watcher_of o) stage a ∷ [];
          last = d';
          follows = (ap (λ x. record { thread = i.watcher_of o; access = x }) (sym s.core_access), told, (d', s.steps, refl));
          charted = ap (λ x. record { thread = q; access = x } ∷ []) (sym s.chart_access);
          fits = (
            record {
              watches = (o, (s.goes.state_there, s.goes.has), refl, s.goes.held);
              staged = s.staged;
              writes_nothing = s.plain;
              no_flags =
                  s.declared;
            },
            tt,
          );
          climbs = λ more climbs.
              climbs_step (pair k core i rows tree counts written_at) (Stage k i.thread_of c d) (Stage k i.thread_of c' d')
              (Watched q (i.watcher_of o) stage a) more all_stages stays climbs;
          reaches = monitor_goes_on k core i rows c d related q o y z c' d' s.goes;
        }
