-- A monitor takes the test of an abort and raises its flag, and all that is inside leaves.
use Rattle.std.proofs.Common.{◌≡◌, ◌≢◌, ℕ, suc, ◌<◌, ◌≤◌, inl, inr, ⊎_elim, Bool, true, false, pos, Option, Some, None, List, []}
use Rattle.std.proofs.Common.{◌∷◌, ◌++◌, length, slice_get, slice_set, Contains, refl, sym, ap, subst, ◌∙◌, arith}
use Rattle.std.proofs.lemmas.List.{length-set}
use Rattle.sc_values.specs.declared.value.Value.{Value}
use Rattle.sc_values.specs.declared.value.Value.TheVariants as value_is
use Rattle.sc_values.specs.Access.{Access}
use Rattle.sc_values.specs.Runs.{Machine, Act, act_of}
use Rattle.core_charts.specs.declared.region.Transition.{Transition}
use Rattle.chart_machine.specs.declared.standing.Standing.{Standing}
use Rattle.chart_machine.specs.declared.standing.Standing.TheVariants as at
use Rattle.chart_machine.specs.declared.standing.Configuration.{Configuration}
use Rattle.chart_machine.specs.declared.table.Table.{Table}
use Rattle.chart_machine.specs.Table.{state_at}
use Rattle.chart_machine.specs.Turns.{standing_of, guards}
use Rattle.chart_machine.specs.Steps.{verdict, access_of, access_of_trigger, step}
use Rattle.chart_machine.specs.Machine.{machine}
use Rattle.abort_expansion.specs.Transitions.{put, go, is_raised}
use Rattle.tick_laws.proofs.Lists.{same_or_not}
use Rattle.compiled_charts_laws.proofs.Stands.{trigger_writes}
use Rattle.abort_expansion_laws.specs.Stages.{Entry, Watched, Silent, Correspondence, HasStage, IsSilent}
use Rattle.abort_expansion_laws.proofs.Supplying.{climbs_step, climbs_fewer, silent_set, silent_test, sets, tests}
use Rattle.abort_expansion_laws.proofs.Segments.{Segment, segment_on}
use Rattle.abort_expansion_laws.proofs.SilentSteps.{AtHome, climbs_at, silent_step}
use Rattle.chart_machine_laws.proofs.LyingIn.{IsNested, LiesUnder, around, holder}
use Rattle.abort_expansion_laws.proofs.MoreValues.{number_value, up_verdict, verdict_over_more}
use Rattle.abort_expansion_laws.proofs.FlagAccess.{put_access}
use Rattle.abort_expansion_laws.specs.CoreRows.{Images, CoreRows, WatcherImage}
use Rattle.abort_expansion_laws.specs.Related.{Related}
use Rattle.abort_expansion_laws.proofs.Unchanged.{get_same, get_other, stands_same, stands_other, no_guards, unguarded}
use Rattle.abort_expansion_laws.proofs.StageReached.{Stage, holds_other}
use Rattle.abort_expansion_laws.proofs.ImageSteps.{pair}
use Rattle.abort_expansion_laws.proofs.KnownVariables.{trigger_known}
use Rattle.abort_expansion_laws.proofs.CoreSteps.{takes, writes_last}
use Rattle.abort_expansion_laws.proofs.AllLeave.{all_leave}
use Rattle.abort_expansion_laws.proofs.OneLeaves.{Left, Staying}
use Rattle.abort_expansion_laws.proofs.MayLeave.{is_forked, AreOuterOne}
use Rattle.abort_expansion_laws.proofs.AbortNext.{AbortNext}

-- a segment from fewer stages
pub from_fewer : (n : Machine) (k : Correspondence) (Told : n.Configuration → Entry → Type 0) (d : n.Configuration) (Fewer Before : ℕ → ℕ → Type 0)
    (After : n.Configuration → ℕ → ℕ → Type 0)
    (steps : List Act) (Reaches : n.Configuration → Type 0) → ((h s : ℕ) → Fewer h s → Before h s) → Segment n k Told d Before After steps Reaches →
    Segment n k Told d Fewer After steps Reaches
from_fewer n k Told d Fewer Before After steps Reaches fewer s =
    record {
      log = s.log;
      last = s.last;
      follows = s.follows;
      charted = s.charted;
      fits = s.fits;
      climbs = λ rest climbs. climbs_fewer k Before Fewer (s.log ++ rest) fewer (s.climbs rest climbs);
      reaches = s.reaches;
    }

module _ (k core : Table) (i : Images) (rows : CoreRows k core i) (tree : IsNested k) (core_tree : IsNested core)
    (deep : (q s : ℕ) → Contains (around core q) s → holder core s < q) (counts : ℕ → Bool) (written_at : ℕ → ℕ) (Told : Configuration → Entry → Type 0)
    (told : (e : Configuration) (t : ℕ) (at_stage : Option (ℕ × ℕ)) (a : Access) → Told e (Silent t at_stage a)) (c d : Configuration)
    (related : Related k core i c d) (r o stage x : ℕ) (t : Transition) (next : AbortNext k core i rows tree counts written_at c d r o stage x t)
    (Others : ℕ → ℕ → Type 0) where
  abbrev pub corr : Correspondence
  corr = pair k core i rows tree counts written_at

  image : WatcherImage k core i o
  image = rows.watcher o next.o_there next.has

  abbrev pub raised_to : Value
  raised_to = value_is.Int (pos (suc next.number))

  abbrev watch_acts : Standing
  watch_acts = at.Acting (i.watching_of o) (put x (suc next.number) ∷ []) 1

  -- it has taken the test, and it has raised the flag
  abbrev pub d1 : Configuration
  d1 = record { variables = d.variables; regions = slice_set d.regions (i.watcher_of o) watch_acts }

  abbrev pub d2 : Configuration
  d2 = record { variables = slice_set d.variables x raised_to; regions = slice_set (slice_set d.regions (i.watcher_of o) watch_acts) (i.watcher_of o) at.Ended }

  in_core : i.watcher_of o < length d.regions
  in_core = let lt = image.there.1 in omega (lt, related.core_regions, arith)

  here1 : standing_of d1 (i.watcher_of o) ≡ watch_acts
  here1 = stands_same d d1 (i.watcher_of o) watch_acts refl in_core

  pub here2 : standing_of d2 (i.watcher_of o) ≡ at.Ended
  here2 =
      stands_same d1 d2 (i.watcher_of o) at.Ended refl
      (let size = length-set d.regions (i.watcher_of o) watch_acts in let lt = in_core in omega (size, lt, arith))

  other1 : (q : ℕ) → q ≢ i.watcher_of o → standing_of d1 q ≡ standing_of d q
  other1 q ne = stands_other d d1 (i.watcher_of o) q watch_acts refl ne

  pub other2 : (q : ℕ) → q ≢ i.watcher_of o → standing_of d2 q ≡ standing_of d q
  other2 q ne = stands_other d1 d2 (i.watcher_of o) q at.Ended refl ne ∙ other1 q ne

  quiet : (q : ℕ) → guards (standing_of d q) ≡ false
  quiet = no_guards k core i rows c d related

  quiet1 : (q : ℕ) → guards (standing_of d1 q) ≡ false
  quiet1 q = ⊎_elim (λ e. ap (λ p. guards (standing_of d1 p)) e ∙ ap guards here1) (λ ne. ap guards (other1 q ne) ∙ quiet q) (same_or_not q (i.watcher_of o))

  pub quiet2 : (q : ℕ) → guards (standing_of d2 q) ≡ false
  quiet2 q = ⊎_elim (λ e. ap (λ p. guards (standing_of d2 p)) e ∙ ap guards here2) (λ ne. ap guards (other2 q ne) ∙ quiet q) (same_or_not q (i.watcher_of o))

  -- ---- the flag
  home_of : holder core (i.main_of (rows.of_flag x)) ≡ i.thread_of r
  home_of = ap (λ s. holder core (i.main_of s)) next.of_flag ∙ (rows.held o ∙ ap i.thread_of next.held)

  sets_flag : IsSilent corr (i.watcher_of o) (Some (i.thread_of r, stage)) (sets x raised_to)
  sets_flag =
      silent_set corr (i.watcher_of o) (Some (i.thread_of r, stage)) x raised_to next.added
      (inr (next.no_counter, ap i.watcher_of (sym next.of_flag), stage_is))
    where
      stage_is : ◌≡◌ {A = Option (ℕ × ℕ)} (Some (i.thread_of r, stage)) (Some (holder core (i.main_of (rows.of_flag x)), written_at x))
      stage_is = ap (λ (h : ℕ). Some (h, stage)) (sym home_of) ∙ ap (λ (m : ℕ). Some (holder core (i.main_of (rows.of_flag x)), m)) (sym next.written)

  pub sees_own : IsSilent corr (i.thread_of r) None (tests x)
  sees_own = silent_test corr (i.thread_of r) None x next.added (inl (sym home_of))

  pub flag_is : slice_get d2.variables x ≡ Some raised_to
  flag_is = let lt = next.in_range in get_same d.variables x raised_to (omega (lt, related.flag_count, arith))

  pub raised : verdict d2.variables (Some (is_raised x)) ≡ Some true
  raised = up_verdict x (suc next.number) d2.variables flag_is (λ e. absurd cc)

  pub other_value : (y : ℕ) → y ≢ x → slice_get d2.variables y ≡ slice_get d.variables y
  other_value y ne = get_other d.variables x y raised_to ne

  -- ---- the three parts
  module _ (told_test : Told d (Watched r (i.watcher_of o) stage (access_of_trigger t.trigger)))
      (outer_stage : (b : ℕ) → LiesUnder k r b → (i.thread_of b ≢ i.thread_of r) ×
      (((u : ℕ) → Stage k i.thread_of c d (i.thread_of b) u → u ≤ 1) × Others (i.thread_of b) 1))
      (others_stay : (h s : ℕ) → h ≢ i.thread_of r → (Contains (around core h) (i.main_of o) → is_forked (standing_of d h) ≡ true → ⊥) →
      Stage k i.thread_of c d h s → Others h s)
      (forks_low : (h s : ℕ) → Contains (around core h) (i.main_of o) → is_forked (standing_of d h) ≡ true → Stage k i.thread_of c d h s → s ≤ 3)
      (outer_one : AreOuterOne core Others (i.thread_of r)) where
    -- until all has left, a thread inside that stands in a fork may have reached what it had
    abbrev Mid : ℕ → ℕ → Type 0
    Mid = Staying core core_tree deep corr Told told Others (i.thread_of r) (suc stage) (i.main_of o) d2 quiet2

    forked_before : (h : ℕ) → is_forked (standing_of d2 h) ≡ true → is_forked (standing_of d h) ≡ true
    forked_before h forked =
        ⊎_elim
        (λ same. let wrong : true ≡ false = sym forked ∙ (ap (λ g. is_forked (standing_of d2 g)) same ∙ ap is_forked here2) in absurd cc)
        (λ ne. subst (λ x. is_forked x ≡ true) (other2 h ne) forked) (same_or_not h (i.watcher_of o))

    forked_after : (h : ℕ) → is_forked (standing_of d h) ≡ true → is_forked (standing_of d2 h) ≡ true
    forked_after h forked =
        ⊎_elim
        (λ same. let wrong : true ≡ false = sym forked ∙ (ap (λ g. is_forked (standing_of d g)) same ∙ ap is_forked next.watching) in absurd cc)
        (λ ne. subst (λ x. is_forked x ≡ true) (sym (other2 h ne)) forked) (same_or_not h (i.watcher_of o))

    mid_stays : (h s : ℕ) → h ≢ i.thread_of r → Stage k i.thread_of c d h s → Mid h s
    mid_stays h s ne before =
        record {
          within = λ in_h forked. forks_low h s in_h (forked_before h forked) before;
          beyond = λ never. others_stay h s ne (λ in_h forked. never in_h (forked_after h forked)) before;
        }

    home_out : Contains (around core (i.thread_of r)) (i.main_of o) → ⊥
    home_out h = holds_other core core_tree (i.thread_of r) (i.main_of o) h (rows.held o ∙ ap i.thread_of next.held)

    own_stages : (h s : ℕ) → HasStage corr (Watched r (i.watcher_of o) stage (access_of_trigger t.trigger)) h s →
        ((u : ℕ) → Stage k i.thread_of c d h u → u ≤ s) × AtHome Mid (i.thread_of r) stage h s
    own_stages h s (inl here) = (
      λ u before. let low = before.regions r next.there here.0 in let now = next.stage_now in omega (low, now, here.1, arith),
      (λ ne. absurd (ne here.0), λ e. omega (here.1, arith)),
    )
    own_stages h s (inr (b, under, is, one)) =
        let outer = outer_stage b under in (
          λ u before. let low = outer.1.0 u (subst (λ z. Stage k i.thread_of c d z u) is before) in omega (low, one, arith),
          (
            λ ne. record {
              within = λ in_h forked. omega (one, arith);
              beyond = λ never. subst (λ z. Others z s) (sym is) (subst (Others (i.thread_of b)) (sym one) outer.1.1);
            },
            λ e. absurd (outer.0 (sym is ∙ e)),
          ),
        )

    stays_there : (h s : ℕ) → i.watcher_of o ≢ h → Stage k i.thread_of c d h s → AtHome Mid (i.thread_of r) stage h s
    stays_there h s ne before = (
      λ other. mid_stays h s other before,
      λ e. let low = before.regions r next.there e in let now = next.stage_now in omega (low, now, arith),
    )

    test_step : Segment (machine core) corr Told d (Stage k i.thread_of c d) (λ last. AtHome Mid (i.thread_of r) stage) (act_of (machine k) c r ∷ [])
        (λ z. z ≡ d1)
    test_step =
        record {
          log = Watched r (i.watcher_of o) stage (access_of_trigger t.trigger) ∷ [];
          last = d1;
          follows = (ap (λ a. record { thread = i.watcher_of o; access = a }) (sym (ap access_of next.watching)), told_test, (d1, takes_it, refl));
          charted = ap (λ a. record { thread = r; access = a } ∷ []) (sym next.chart_access);
          fits = (
            record {
              watches = (o, (next.o_there, next.has), refl, next.held);
              staged = next.staged;
              writes_nothing = trigger_writes t.trigger;
              no_flags = λ y touches. let lt = trigger_known c.variables t.trigger true next.true_there y touches in omega (lt, related.values, arith);
            },
            tt,
          );
          climbs = λ rest climbs.
              climbs_step corr (Stage k i.thread_of c d) (AtHome Mid (i.thread_of r) stage) (Watched r (i.watcher_of o) stage (access_of_trigger t.trigger))
              rest own_stages stays_there climbs;
          reaches = refl;
        }
      where
        takes_it : step core (i.watcher_of o) d ≡ Some d1
        takes_it =
            takes core d (i.watcher_of o) (i.watching_of o) (go next.immediate t.trigger (put x (suc next.number) ∷ []) 1) next.other_tests
            (put x (suc next.number)) [] (unguarded core d quiet (around core (i.watcher_of o))) next.watching
            (subst (λ vs. verdict vs t.trigger ≡ Some true) (sym related.variables) (verdict_over_more related.more c.variables t.trigger true next.true_there))
            next.watching_alone refl

    raise_step : Segment (machine core) corr Told d1 (AtHome Mid (i.thread_of r) stage) (λ last. AtHome Mid (i.thread_of r) stage) [] (λ z. z ≡ d2)
    raise_step =
        silent_step (machine core) corr Told told d1 d2 (i.watcher_of o) (Some (i.thread_of r, stage)) (sets x raised_to)
        (AtHome Mid (i.thread_of r) stage) (AtHome Mid (i.thread_of r) stage) (λ z. z ≡ d2)
        (writes_last core d1 (i.watcher_of o) (i.watching_of o) 1 (put x (suc next.number)) raised_to at.Ended
        (unguarded core d1 quiet1 (around core (i.watcher_of o))) here1
        (number_value (suc next.number) d.variables) next.is_int (ap (λ s. (state_at core s).entered) image.ended ∙ image.watched))
        (ap access_of here1 ∙ put_access x (suc next.number)) sets_flag
        (λ rest climbs. climbs_at corr Mid (i.thread_of r) stage stage (i.watcher_of o) (sets x raised_to) rest (omega arith) climbs) refl

    -- all have left: what is reached at the end
    abbrev pub AllLeft : Configuration → Type 0
    AllLeft z = Left core core_tree deep corr Told told Others (i.thread_of r) (suc stage) (i.main_of o) d2 quiet2 0 z

    leave_steps : Segment (machine core) corr Told d2 (AtHome Mid (i.thread_of r) (suc stage)) (λ last. AtHome Others (i.thread_of r) (suc stage)) [] AllLeft
    leave_steps =
        all_leave core core_tree deep corr Told told Others (i.thread_of r) (suc stage) (i.main_of o) d2 quiet2 home_out outer_one
        (next.leaves d2 raised other_value other2 here2)

    -- the test, the raising and the leaving
    pub aborted : Segment (machine core) corr Told d (Stage k i.thread_of c d) (λ last. AtHome Others (i.thread_of r) (suc stage))
        (act_of (machine k) c r ∷ []) AllLeft
    aborted =
        segment_on (machine core) corr Told d (Stage k i.thread_of c d) (λ last. AtHome Mid (i.thread_of r) stage)
        (λ last. AtHome Others (i.thread_of r) (suc stage)) (act_of (machine k) c r ∷ []) [] (λ z. z ≡ d1) AllLeft test_step
        (subst (λ z. Segment (machine core) corr Told z (AtHome Mid (i.thread_of r) stage) (λ last. AtHome Others (i.thread_of r) (suc stage)) [] AllLeft)
        (sym test_step.reaches)
        (segment_on (machine core) corr Told d1 (AtHome Mid (i.thread_of r) stage) (λ last. AtHome Mid (i.thread_of r) stage)
        (λ last. AtHome Others (i.thread_of r) (suc stage)) [] [] (λ z. z ≡ d2) AllLeft raise_step
        (subst (λ z. Segment (machine core) corr Told z (AtHome Mid (i.thread_of r) stage) (λ last. AtHome Others (i.thread_of r) (suc stage)) [] AllLeft)
        (sym raise_step.reaches)
        (from_fewer (machine core) corr Told d2 (AtHome Mid (i.thread_of r) stage) (AtHome Mid (i.thread_of r) (suc stage))
        (λ last. AtHome Others (i.thread_of r) (suc stage)) [] AllLeft
        (λ h s reached. (reached.0, λ e. let low = reached.1 e in omega (low, arith))) leave_steps))))

    pub size2 : length d2.regions ≡ length d.regions
    size2 = length-set d1.regions (i.watcher_of o) at.Ended ∙ length-set d.regions (i.watcher_of o) watch_acts
