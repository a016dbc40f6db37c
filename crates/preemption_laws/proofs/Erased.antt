-- A run of a core chart without its looks is one of the machine that waits; and it is admissible, if the run's log is ordered, in which looks count as
-- steps without access.
use Rattle.std.proofs.Common.{◌≡◌, ◌≢◌, ℕ, zero, suc, ◌⊎◌, inl, inr, ⊎_elim, Bool, true, false, not, if◌then◌else◌, Option, Some, None}
use Rattle.std.proofs.Common.{option_and_then, List, [], ◌∷◌, refl, sym, ap, ap₂, subst, ◌∙◌, arith}
use Rattle.sc_values.specs.Access.{no_access}
use Rattle.sc_values.specs.Runs.{Machine, replay, Act, act_of, acts, acts_after, IsAdmissible, IsOrdered, Ends}
use Rattle.core_charts.specs.declared.region.Transition.{Transition}
use Rattle.chart_machine.specs.declared.standing.Standing.{Standing}
use Rattle.chart_machine.specs.declared.standing.Standing.TheVariants as at
use Rattle.chart_machine.specs.declared.standing.Configuration.{Configuration}
use Rattle.chart_machine.specs.declared.table.Table.{Table}
use Rattle.chart_machine.specs.Turns.{standing_of, ForkedApart}
use Rattle.chart_machine.specs.Steps.{step, access_of}
use Rattle.scl_graph_laws.specs.Alike.{EndsAlike}
use Rattle.scl_graph_laws.proofs.Searching.{unlike}
use Rattle.chart_lowering_laws.specs.Follows.{Answers, Follows}
use Rattle.chart_lowering_laws.specs.Shown.{AreSilent, move, moves, moves_after, shown_acts}
use Rattle.chart_lowering_laws.proofs.Following.{follows_ends}
use Rattle.chart_machine_laws.proofs.LyingIn.{apart_inside}
use Rattle.preemption_laws.specs.Looks.{Looks}
use Rattle.preemption_laws.specs.Waiting.{is_waiting, still, wait_step, wait_access, waiting_machine}
use Rattle.preemption_laws.proofs.CoreWaits.{goes_on_still, Looks_on, fails_on, holds_on, looks_on}
use Rattle.preemption_laws.proofs.Ground.{Ground}
use Rattle.preemption_laws.proofs.SoundCores.{core_still}
use Rattle.preemption_laws.proofs.StaysThere.{Sound, is_within, stepping_there, stays_there, forks_within}
use Rattle.preemption_laws.proofs.StillConfigurations.{waiting_same}
use Rattle.preemption_laws.proofs.QuietSteps.{quiet_machine}
use Rattle.preemption_laws.proofs.StillTurns.{goes_there}

-- ---- machines that differ in whom they call enabled alone

-- nobody is enabled, so each run is a complete one
abbrev never : (m : Machine) → Machine
never m =
    record {
      Configuration = m.Configuration;
      enabled = λ c t. false;
      step = m.step;
      access = m.access;
      ForkedApart = m.ForkedApart;
    }

same_replay : (m : Machine) (run : List ℕ) (c : m.Configuration) → replay (never m) run c ≡ replay m run c
same_replay m [] c = refl
same_replay m (t ∷ run) c = by (m.step t c) (same_replay m run)
  where
    by : (o : Option m.Configuration) → ((d : m.Configuration) → replay (never m) run d ≡ replay m run d) →
        option_and_then (replay (never m) run) o ≡ option_and_then (replay m run) o
    by None same = refl
    by (Some d) same = same d

same_acts : (m : Machine) (run : List ℕ) (c : m.Configuration) → acts (never m) run c ≡ acts m run c
same_acts m [] c = refl
same_acts m (t ∷ run) c = ap (λ xs. act_of m c t ∷ xs) (by (m.step t c) (same_acts m run))
  where
    by : (o : Option m.Configuration) → ((d : m.Configuration) → acts (never m) run d ≡ acts m run d) →
        acts_after (never m) (acts (never m) run) o ≡ acts_after m (acts m run) o
    by None same = refl
    by (Some d) same = same d

module _ (k : Table) (looks : ℕ → List Transition) where
  access_same : (c : Configuration) (q : ℕ) → wait_access k looks (still k looks c) q ≡ wait_access k looks c q
  access_same c q = by (is_waiting k looks (standing_of c q)) refl
    where
      by : (b : Bool) → is_waiting k looks (standing_of c q) ≡ b → wait_access k looks (still k looks c) q ≡ wait_access k looks c q
      by true is = rw (waiting_same k looks c q ∙ is, is) refl
      by false is = rw (waiting_same k looks c q ∙ is, is) (ap access_of (goes_there k looks c q is))

  abbrev shows : Configuration → ℕ → Bool
  shows c t = not (is_waiting k looks (standing_of c t))

  abbrev quiet : Machine
  quiet = never (quiet_machine k looks)

  abbrev waits : Machine
  waits = never (waiting_machine k looks)

  silent : AreSilent waits shows
  silent c t hidden = by (is_waiting k looks (standing_of c t)) refl hidden
    where
      by : (b : Bool) → is_waiting k looks (standing_of c t) ≡ b → not b ≡ false → wait_access k looks c t ≡ no_access
      by true is h = rw (is) refl
      by false is h = absurd cc

  module _ (l : Looks k looks) (g : Ground k) where
    -- a thread that forks others apart has a next step that shows
    next_shows : (c d : Configuration) (a : ℕ) → Sound k looks l g c → (a ≡ zero) ⊎ (is_within (standing_of c a) ≡ true) → step k a c ≡ Some d →
        shows c a ≡ true
    next_shows c d a sound (inl is) steps = let more = (stepping_there k looks l g c sound d a steps).0 in absurd (omega (arith, more, is))
    next_shows c d a sound (inr h) steps = by (standing_of c a) h
      where
        by : (x : Standing) → is_within x ≡ true → not (is_waiting k looks x) ≡ true
        by (at.Within u tests) h = refl
        by at.Outside h = absurd cc
        by at.Ended h = absurd cc
        by (at.Trying u tests) h = absurd cc
        by (at.Entering u tests) h = absurd cc
        by (at.Guarding u tests) h = absurd cc
        by (at.Acting u effects target) h = absurd cc

    stays_within : (c d : Configuration) (t a : ℕ) → Sound k looks l g c → (a ≡ zero) ⊎ (is_within (standing_of c a) ≡ true) → t ≢ a → step k t c ≡ Some d →
        (a ≡ zero) ⊎ (is_within (standing_of d a) ≡ true)
    stays_within c d t a sound (inl is) other steps = inl is
    stays_within c d t a sound (inr h) other steps =
        inr (ap is_within (stays_there k looks l g c sound d t steps a (record {
          entered = λ e. unlike (is_within (standing_of c a)) h (ap is_within e);
          not_ended = λ e. unlike (is_within (standing_of c a)) h (ap is_within e);
        }) (λ e. other (sym e))) ∙ h)

    -- ---- steps that are no looks are steps of the machine that waits, and a look is one that leaves, or none

    looked : (c d : Configuration) (t : ℕ) → Sound k looks l g c → step k t c ≡ Some d → is_waiting k looks (standing_of c t) ≡ true →
        (still k looks d ≡ still k looks c) ⊎ (wait_step k looks t (still k looks c) ≡ Some (still k looks d))
    looked c d t sound steps waits = by (looks_on k looks l g c d t sound steps waits)
      where
        by : Looks_on k looks l g c d t → (still k looks d ≡ still k looks c) ⊎ (wait_step k looks t (still k looks c) ≡ Some (still k looks d))
        by (fails_on same still_variables) = inl same
        by (holds_on up gone_there steps_there) = inr steps_there

    record Goes (c b : Configuration) : Type 0 where
      sound : Sound k looks l g c
      is : b ≡ still k looks c

    abbrev shown : Configuration → ℕ → List Act
    shown c t = shown_acts (move (shows c t) (act_of quiet c t) ∷ [])

    -- by one step
    one_step : (c d b : Configuration) (t : ℕ) → Goes c b → step k t c ≡ Some d → wait_step k looks t (still k looks c) ≡ Some (still k looks d) →
        Answers waits shows b (Goes d) (shown c t)
    one_step c d b t goes steps steps_there =
        record {
          run = t ∷ [];
          end = still k looks d;
          runs = ap (option_and_then (replay waits [])) there;
          shown = ap (λ o. shown_acts (move (shows b t) (act_of waits b t) ∷ moves_after waits (moves waits shows []) o)) there
              ∙ ap₂ (λ s a. shown_acts (move s (record { thread = t; access = a }) ∷ [])) shows_same access_there;
          good = record { sound = core_still k looks l g c d t goes.sound steps; is = refl };
        }
      where
        there : wait_step k looks t b ≡ Some (still k looks d)
        there = ap (wait_step k looks t) goes.is ∙ steps_there

        shows_same : shows b t ≡ shows c t
        shows_same = ap (λ z. shows z t) goes.is ∙ ap not (waiting_same k looks c t)

        access_there : wait_access k looks b t ≡ wait_access k looks c t
        access_there = ap (λ z. wait_access k looks z t) goes.is ∙ access_same c t

    by_none : (c d b : Configuration) (t : ℕ) → Goes c b → step k t c ≡ Some d → shows c t ≡ false → still k looks d ≡ still k looks c →
        Answers waits shows b (Goes d) (shown c t)
    by_none c d b t goes steps hidden same =
        record {
          run = [];
          end = b;
          runs = refl;
          shown = sym (ap (λ s. shown_acts (move s (act_of quiet c t) ∷ [])) hidden);
          good = record { sound = core_still k looks l g c d t goes.sound steps; is = goes.is ∙ sym same };
        }

    by_step : (c d b : Configuration) (t : ℕ) → Goes c b → step k t c ≡ Some d → (w : Bool) → is_waiting k looks (standing_of c t) ≡ w →
        Answers waits shows b (Goes d) (shown c t)
    by_step c d b t goes steps false is = one_step c d b t goes steps (goes_on_still k looks l g c d t goes.sound steps is)
    by_step c d b t goes steps true is =
        ⊎_elim (λ same. by_none c d b t goes steps (ap not is) same) (λ leaves. one_step c d b t goes steps leaves) (looked c d t goes.sound steps is)

    follows : Follows quiet waits shows shows Goes Goes
    follows =
        record {
          step = λ c d b t goes steps. by_step c d b t goes steps (is_waiting k looks (standing_of c t)) refl;
          over = λ c b goes over. record { run = []; end = b; runs = refl; shown = refl; good = (λ t. refl, goes) };
          apart = λ t u a apart. apart;
        }

    -- ---- so is a whole run

    pub record Erased (c e : Configuration) : Type 0 where
      pub run : List ℕ
      pub runs : replay (waiting_machine k looks) run (still k looks c) ≡ Some (still k looks e)
      pub admissible : IsAdmissible (waiting_machine k looks) run (still k looks c)

    pub erased : (run : List ℕ) (c e : Configuration) → Sound k looks l g c → replay (quiet_machine k looks) run c ≡ Some e →
        IsAdmissible (quiet_machine k looks) run c → Erased c e
    erased run c e sound runs ordered =
        let ends : Ends quiet c e =
        record {
          run = run;
          complete = record { runs = same_replay (quiet_machine k looks) run c ∙ runs; over = λ t. refl };
          admissible = subst (IsOrdered (ForkedApart k)) (sym (same_acts (quiet_machine k looks) run c)) ordered;
        } in
        let there : EndsAlike waits Configuration Goes e (still k looks c) =
        follows_ends quiet waits shows shows Goes Goes (Sound k looks l g) follows silent (record {
          Waits = λ d a. (a ≡ zero) ⊎ (is_within (standing_of d a) ≡ true);
          Dead = λ d a. ⊥;
          keeps = λ d f t sound_there steps. core_still k looks l g d f t sound_there steps;
          begins = λ d f t u a sound_there apart steps.
              forks_within k looks l g d sound_there f t steps a (apart_inside k g.tree.nested t u a apart).0;
          stays = λ d f t a sound_there waits_there other steps. stays_within d f t a sound_there waits_there other steps;
          ends = λ d f a sound_there waits_there steps. inl (next_shows d f a sound_there waits_there steps);
          dead = λ d f t a sound_there dead steps. dead;
          rests = λ d f t u a sound_there dead apart steps. absurd dead;
        }) c e (still k looks c) (record { sound = sound; is = refl }) sound ends in
        record {
          run = there.is_end.run;
          runs =
              sym (same_replay (waiting_machine k looks) there.is_end.run (still k looks c))
              ∙ (there.is_end.complete.runs ∙ ap Some there.corresponds.is);
          admissible =
              subst (IsOrdered (ForkedApart k)) (same_acts (waiting_machine k looks) there.is_end.run (still k looks c)) there.is_end.admissible;
        }
