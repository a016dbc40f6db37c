-- A step of a region that its thread takes as it is: it is followed by one step of the core.
use Rattle.std.proofs.Common.{◌≡◌, ◌≢◌, ℕ, ◌<◌, ◌≤◌, ⊎_elim, Bool, true, false, Some, [], ◌∷◌, length, Contains, refl, sym}
use Rattle.std.proofs.Common.{slice_set, ap, subst, ◌∙◌, arith}
use Rattle.sc_values.specs.Access.{Access}
use Rattle.sc_values.specs.Runs.{act_of}
use Rattle.chart_machine.specs.declared.standing.Standing.{Standing}
use Rattle.chart_machine.specs.declared.standing.Standing.TheVariants as at
use Rattle.chart_machine.specs.declared.standing.Configuration.{Configuration}
use Rattle.chart_machine.specs.declared.table.Table.{Table}
use Rattle.chart_machine.specs.Turns.{standing_of, has_ended, has_work, is_guarded}
use Rattle.chart_machine.specs.Steps.{access_of, step}
use Rattle.chart_machine.specs.Machine.{machine}
use Rattle.abort_expansion_laws.specs.Stages.{Entry, Image, Touches}
use Rattle.abort_expansion_laws.proofs.Supplying.{climbs_step, climbs_fewer}
use Rattle.abort_expansion_laws.proofs.Segments.{Segment, Follows}
use Rattle.tick_laws.proofs.Lists.{same_or_not}
use Rattle.chart_machine_laws.proofs.LyingIn.{IsNested, around, holder}
use Rattle.abort_expansion_laws.proofs.TablesCorrespond.{IsThere}
use Rattle.abort_expansion_laws.specs.CoreRows.{Images, CoreRows}
use Rattle.abort_expansion_laws.specs.Related.{Related}
use Rattle.abort_expansion_laws.proofs.Unchanged.{stands_same, stands_other}
use Rattle.abort_expansion_laws.proofs.RegionGoesOn.{GoesOn, goes_on}
use Rattle.abort_expansion_laws.proofs.StageReached.{stage_of, Stage, holds_other, stage_so}
pub use Rattle.abort_expansion_laws.specs.CoreRows.{pair}
use Rattle.abort_expansion_laws.proofs.OuterStages.{under_stages}

module _ (k core : Table) (i : Images) (rows : CoreRows k core i) (tree : IsNested k) (counts : ℕ → Bool) (written_at : ℕ → ℕ) where
  -- region q has work and nobody guards it; its thread does the same to the variables, and both go on
  pub record ImageStep (c d : Configuration) (q : ℕ) (y z : Standing) (c' d' : Configuration) (a : Access) : Type 0 where
    pub goes : GoesOn k core i rows c d q y z c' d'
    pub works : has_work k c (standing_of c q) ≡ true
    pub free : is_guarded k c (around k q) ≡ false
    pub steps : step core (i.thread_of q) d ≡ Some d'
    pub chart_access : access_of (standing_of c q) ≡ a
    pub core_access : access_of (standing_of d (i.thread_of q)) ≡ a
    pub declared : (x : ℕ) → Touches a x → x < length k.variables

  -- the same, where the thread's step leads elsewhere than to the configuration that corresponds: what it enters is still to be settled
  pub record ImageMove (c d : Configuration) (q : ℕ) (y z : Standing) (c' d' : Configuration) (a : Access) : Type 0 where
    pub goes : GoesOn k core i rows c d q y z c' d'
    pub works : has_work k c (standing_of c q) ≡ true
    pub free : is_guarded k c (around k q) ≡ false
    pub chart_access : access_of (standing_of c q) ≡ a
    pub core_access : access_of (standing_of d (i.thread_of q)) ≡ a
    pub declared : (x : ℕ) → Touches a x → x < length k.variables

  -- region q, which has work and which nobody guards, comes to stand at y; its thread's step touches what its own touches
  pub record RegionStep (c d : Configuration) (q : ℕ) (y : Standing) (c' : Configuration) (a : Access) : Type 0 where
    pub there : IsThere k q
    pub chart : c'.regions ≡ slice_set c.regions q y
    pub ends : has_ended y ≡ has_ended (standing_of c q)
    pub was_there : standing_of c q ≢ at.Outside
    pub works : has_work k c (standing_of c q) ≡ true
    pub free : is_guarded k c (around k q) ≡ false
    pub chart_access : access_of (standing_of c q) ≡ a
    pub core_access : access_of (standing_of d (i.thread_of q)) ≡ a
    pub declared : (x : ℕ) → Touches a x → x < length k.variables

  module _ (c d : Configuration) (related : Related k core i c d) (q : ℕ) (y : Standing) (c' : Configuration) (a : Access)
      (s : RegionStep c d q y c' a) where
    elsewhere : (r : ℕ) → r ≢ q → standing_of c' r ≡ standing_of c r
    elsewhere r ne = stands_other c c' q r y s.chart ne

    ends_alike : (r : ℕ) → has_ended (standing_of c' r) ≡ has_ended (standing_of c r)
    ends_alike r =
        ⊎_elim
        (λ e.
        ap (λ p. has_ended (standing_of c' p)) e ∙
        (ap has_ended (stands_same c c' q y s.chart (let lt = s.there.1 in omega (lt, related.chart_regions, arith))) ∙
        (s.ends ∙ ap (λ p. has_ended (standing_of c p)) (sym e))))
        (λ ne. ap has_ended (elsewhere r ne)) (same_or_not r q)

    holders_same : (u : ℕ) → Contains (around k q) u → standing_of c' (holder k u) ≡ standing_of c (holder k u)
    holders_same u inner = elsewhere (holder k u) (holds_other k tree q u inner)

    stays : (e : Configuration) (h v : ℕ) → i.thread_of q ≢ h → Stage k i.thread_of c d h v → Stage k i.thread_of c' e h v
    stays e h v ne before = record {
      regions = λ r there w.
          let other : r ≢ q = λ same. ne (ap i.thread_of (sym same) ∙ sym w) in
          let n = before.regions r there w in
          let m : stage_of k c (standing_of c r) ≤ stage_of k c' (standing_of c r) =
          stage_so k c c' ends_alike q s.works elsewhere (standing_of c r) in
          let up : stage_of k c' (standing_of c r) ≤ stage_of k c' (standing_of c' r) =
          subst (λ x. stage_of k c' (standing_of c r) ≤ stage_of k c' x) (sym (elsewhere r other)) (omega arith) in
          omega (n, m, up, arith);
      chart = before.chart;
    }

    pub region_to : (f : Configuration) → step core (i.thread_of q) d ≡ Some f → (Told : Configuration → Entry → Type 0) → Told d (Image q a) →
        Segment (machine core) (pair k core i rows tree counts written_at) Told d (Stage k i.thread_of c d) (Stage k i.thread_of c')
        (act_of (machine k) c q ∷ []) (λ e. e ≡ f)
    region_to f steps Told told =
        record {
          log = Image q a ∷ [];
          last = f;
          follows = (ap (λ x. record { thread = i.thread_of q; access = x }) (sym s.core_access), told, (f, steps, refl));
          charted = ap (λ x. record { thread = q; access = x } ∷ []) (sym s.chart_access);
          fits = (s.declared, tt);
          climbs = λ more climbs.
              climbs_step (pair k core i rows tree counts written_at) (Stage k i.thread_of c d) (Stage k i.thread_of c' f) (Image q a)
              more (under_stages k core i rows c d related q s.there s.was_there s.works s.free c' holders_same f) (stays f) climbs;
          reaches = refl;
        }

    -- where it leads to what corresponds
    pub region_related : (f : Configuration) → step core (i.thread_of q) d ≡ Some f → Related k core i c' f → (Told : Configuration → Entry → Type 0) →
        Told d (Image q a) →
        Segment (machine core) (pair k core i rows tree counts written_at) Told d (Stage k i.thread_of c d) (Stage k i.thread_of c')
        (act_of (machine k) c q ∷ []) (Related k core i c')
    region_related f steps corresponds Told told =
        let t = region_to f steps Told told in
        record {
          log = t.log;
          last = f;
          follows = subst (λ e. Follows (machine core) (pair k core i rows tree counts written_at) Told d t.log e) t.reaches t.follows;
          charted = t.charted;
          fits = t.fits;
          climbs = λ more climbs.
              t.climbs more
              (climbs_fewer (pair k core i rows tree counts written_at) (Stage k i.thread_of c' f) (Stage k i.thread_of c' t.last) more
              (λ h v stage. record { regions = stage.regions; chart = stage.chart }) climbs);
          reaches = corresponds;
        }

  pub image_to : (c d : Configuration) (related : Related k core i c d) (q : ℕ) (y z : Standing) (c' d' : Configuration) (a : Access) →
      ImageMove c d q y z c' d' a → (f : Configuration) → step core (i.thread_of q) d ≡ Some f → (Told : Configuration → Entry → Type 0) →
      Told d (Image q a) →
      Segment (machine core) (pair k core i rows tree counts written_at) Told d (Stage k i.thread_of c d) (Stage k i.thread_of c')
      (act_of (machine k) c q ∷ []) (λ e. e ≡ f)
  image_to c d related q y z c' d' a s f steps Told told =
      region_to c d related q y c' a
      (record {
        there = s.goes.there;
        chart = s.goes.chart;
        ends = s.goes.ends;
        was_there = s.goes.was_there;
        works = s.works;
        free = s.free;
        chart_access = s.chart_access;
        core_access = s.core_access;
        declared = s.declared;
      }) f steps Told told

  pub image_segment : (c d : Configuration) (related : Related k core i c d) (q : ℕ) (y z : Standing) (c' d' : Configuration) (a : Access)
      (s : ImageStep c d q y z c' d' a) (Told : Configuration → Entry → Type 0) → Told d (Image q a) →
      Segment (machine core) (pair k core i rows tree counts written_at) Told d (Stage k i.thread_of c d) (Stage k i.thread_of c')
      (act_of (machine k) c q ∷ []) (Related k core i c')
  image_segment c d related q y z c' d' a s Told told =
      region_related c d related q y c' a
      (record {
        there = s.goes.there;
        chart = s.goes.chart;
        ends = s.goes.ends;
        was_there = s.goes.was_there;
        works = s.works;
        free = s.free;
        chart_access = s.chart_access;
        core_access = s.core_access;
        declared = s.declared;
      }) d' s.steps (goes_on k core i rows c d related q y z c' d' s.goes) Told told
