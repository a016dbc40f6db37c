-- In its continuation a superstate answers the flags: the tests by number fail up to the one of the abort that was taken, and all where none was.
use Rattle.std.proofs.Common.{◌≡◌, ◌≢◌, ℕ, zero, suc, ◌+◌, ◌<◌, ⊎_elim, false, pos, Option, Some, None, List, [], ◌∷◌, ◌++◌, length, slice_get, slice_set}
use Rattle.std.proofs.Common.{refl, sym, ap, subst, ◌∙◌, arith}
use Rattle.std.proofs.lemmas.Option.{same_Some}
use Rattle.std.proofs.lemmas.List.{length-set}
use Rattle.sc_values.specs.declared.value.Value.{Value}
use Rattle.sc_values.specs.declared.value.Value.TheVariants as value_is
use Rattle.sc_values.specs.Access.{Access}
use Rattle.core_charts.specs.declared.region.Transition.{Transition}
use Rattle.core_charts.specs.Tests.{at_once}
use Rattle.chart_machine.specs.declared.standing.Standing.TheVariants as at
use Rattle.chart_machine.specs.declared.standing.Configuration.{Configuration}
use Rattle.chart_machine.specs.declared.table.Table.{Table}
use Rattle.chart_machine.specs.Turns.{standing_of, guards}
use Rattle.chart_machine.specs.Steps.{verdict, access_of, access_of_trigger}
use Rattle.chart_machine.specs.Machine.{machine}
use Rattle.abort_expansion.specs.declared.places.RegionPlaces.{RegionPlaces}
use Rattle.abort_expansion.specs.Transitions.{is_number, led_by, answers}
use Rattle.tick_laws.proofs.Lists.{same_or_not}
use Rattle.abort_expansion_laws.specs.Stages.{Entry, Silent, Correspondence, IsSilent}
use Rattle.abort_expansion_laws.specs.Related.{Each}
use Rattle.abort_expansion_laws.proofs.Segments.{Segment, segment_on}
use Rattle.abort_expansion_laws.proofs.SilentSteps.{AtHome, climbs_home, silent_step, no_step}
use Rattle.abort_expansion_laws.proofs.Supplying.{tests}
use Rattle.chart_machine_laws.proofs.LyingIn.{around}
use Rattle.abort_expansion_laws.proofs.MoreValues.{other_verdict}
use Rattle.abort_expansion_laws.proofs.FlagAccess.{number_access}
use Rattle.abort_expansion_laws.proofs.Leaving.{set_here, set_other}
use Rattle.abort_expansion_laws.proofs.TestFails.{fails}
use Rattle.abort_expansion_laws.proofs.Unchanged.{unguarded}

-- ---- tests that fail

-- the thread may make each of these tests, and it fails
abbrev pub AllFail : Correspondence → ℕ → List Value → List Transition → Type 0
AllFail corr home values ws = Each (λ w. (verdict values w.trigger ≡ Some false) × IsSilent corr home None (access_of_trigger w.trigger)) ws

pub fails_on : (corr : Correspondence) (home : ℕ) (values : List Value) (ws vs : List Transition) → AllFail corr home values ws →
    AllFail corr home values vs → AllFail corr home values (ws ++ vs)
fails_on corr home values [] vs first others = others
fails_on corr home values (w ∷ ws) vs first others = (first.0, fails_on corr home values ws vs first.1 others)

module _ (core : Table) (corr : Correspondence) (Told : Configuration → Entry → Type 0)
    (told : (e : Configuration) (t : ℕ) (at_stage : Option (ℕ × ℕ)) (a : Access) → Told e (Silent t at_stage a))
    (Others : ℕ → ℕ → Type 0) (home b : ℕ) where
  -- nothing changed but the tests that are left
  pub record Passed (from : Configuration) (rest : List Transition) (z : Configuration) : Type 0 where
    pub variables : z.variables ≡ from.variables
    pub size : length z.regions ≡ length from.regions
    pub here : standing_of z home ≡ at.Trying b rest
    pub others : (q : ℕ) → q ≢ home → standing_of z q ≡ standing_of from q

  abbrev Piece : Configuration → Configuration → List Transition → Type 0
  Piece from d rest = Segment (machine core) corr Told d (AtHome Others home 0) (λ last. AtHome Others home 0) [] (Passed from rest)

  pub tests_fail : (ws rest : List Transition) (d : Configuration) → AllFail corr home d.variables ws → standing_of d home ≡ at.Trying b (ws ++ rest) →
      ((q : ℕ) → guards (standing_of d q) ≡ false) → home < length d.regions → Piece d d rest
  tests_fail [] rest d all stands quiet there =
      no_step (machine core) corr Told told d (AtHome Others home 0) (Passed d rest)
      (record { variables = refl; size = refl; here = stands; others = λ q ne. refl })
  tests_fail (w ∷ ws) rest d all stands quiet there =
      segment_on (machine core) corr Told d (AtHome Others home 0) (λ last. AtHome Others home 0) (λ last. AtHome Others home 0) [] [] (λ z. z ≡ e)
      (Passed d rest) one
      (subst (λ z. Piece d z rest) (sym one.reaches) (onward (tests_fail ws rest e all.1 here quiet_e
      (let size = length-set d.regions home (at.Trying b (ws ++ rest)) in omega (there, size, arith)))))
    where
      e : Configuration
      e = record { variables = d.variables; regions = slice_set d.regions home (at.Trying b (ws ++ rest)) }

      one : Segment (machine core) corr Told d (AtHome Others home 0) (λ last. AtHome Others home 0) [] (λ z. z ≡ e)
      one =
          silent_step (machine core) corr Told told d e home None (access_of_trigger w.trigger) (AtHome Others home 0) (AtHome Others home 0) (λ z. z ≡ e)
          (fails core d home b w (ws ++ rest) (unguarded core d quiet (around core home)) stands all.0.0)
          (ap access_of stands) all.0.1 (λ more climbs. climbs_home corr Others home 0 (access_of_trigger w.trigger) more climbs) refl

      here : standing_of e home ≡ at.Trying b (ws ++ rest)
      here = set_here d.regions home (at.Trying b (ws ++ rest)) there

      other : (q : ℕ) → q ≢ home → standing_of e q ≡ standing_of d q
      other q ne = set_other d.regions home q (at.Trying b (ws ++ rest)) ne

      quiet_e : (q : ℕ) → guards (standing_of e q) ≡ false
      quiet_e q = ⊎_elim (λ same. ap (λ p. guards (standing_of e p)) same ∙ ap guards here) (λ ne. ap guards (other q ne) ∙ quiet q) (same_or_not q home)

      onward : Piece e e rest → Piece d e rest
      onward s =
          record {
            log = s.log;
            last = s.last;
            follows = s.follows;
            charted = s.charted;
            fits = s.fits;
            climbs = s.climbs;
            reaches =
                record {
                  variables = s.reaches.variables;
                  size = s.reaches.size ∙ length-set d.regions home (at.Trying b (ws ++ rest));
                  here = s.reaches.here;
                  others = λ q ne. s.reaches.others q ne ∙ other q ne;
                };
          }

-- ---- answers

module _ (corr : Correspondence) (home : ℕ) (places : RegionPlaces) (values : List Value) (x : ℕ) (silent : IsSilent corr home None (tests x)) where
  one_fails : (number m : ℕ) (u : Transition) → slice_get values x ≡ Some (value_is.Int (pos number)) → number ≢ m →
      (verdict values (led_by places (Some (is_number x m)) u).trigger ≡ Some false)
      × IsSilent corr home None (access_of_trigger (led_by places (Some (is_number x m)) u).trigger)
  one_fails number m u flag differ = (other_verdict x number m values flag differ, subst (IsSilent corr home None) (sym (number_access x m)) silent)

  -- where no abort was taken, none is answered
  pub none_answered : slice_get values x ≡ Some (value_is.Int (pos 0)) → (aborts : List Transition) (m : ℕ) → 0 < m →
      AllFail corr home values (answers places (Some x) m aborts)
  none_answered flag [] m lt = tt
  none_answered flag (u ∷ aborts) m lt = (one_fails 0 m u flag (λ e. absurd (omega (lt, e, arith))), none_answered flag aborts (suc m) (omega arith))

  -- one was taken: the tests before its own, and those behind it
  pub record Answered (t : Transition) (number : ℕ) (all : List Transition) : Type 0 where
    pub before : List Transition
    pub later : List Transition
    pub are : all ≡ before ++ (led_by places (Some (is_number x number)) t ∷ later)
    pub fail : AllFail corr home values before

  pub answered : (t : Transition) (number : ℕ) → slice_get values x ≡ Some (value_is.Int (pos number)) → (rest aborts : List Transition) (m j : ℕ) →
      slice_get aborts j ≡ Some t → number ≡ m + j → Answered t number (at_once (answers places (Some x) m aborts ++ rest))
  answered t number flag rest [] m j is sum = absurd cc
  answered t number flag rest (u ∷ aborts) m zero is sum =
      let same : u ≡ t = same_Some u t is in
      let one : m ≡ number = omega (sum, arith) in
      record {
        before = [];
        later = at_once (answers places (Some x) (suc m) aborts ++ rest);
        are = ap (λ z. led_by places (Some (is_number x m)) z ∷ at_once (answers places (Some x) (suc m) aborts ++ rest)) same ∙
            ap (λ z. led_by places (Some (is_number x z)) t ∷ at_once (answers places (Some x) (suc m) aborts ++ rest)) one;
        fail = tt;
      }
  answered t number flag rest (u ∷ aborts) m (suc j) is sum =
      let others = answered t number flag rest aborts (suc m) j is (omega (sum, arith)) in
      record {
        before = led_by places (Some (is_number x m)) u ∷ others.before;
        later = others.later;
        are = ap (λ zs. led_by places (Some (is_number x m)) u ∷ zs) others.are;
        fail = (one_fails number m u flag (λ e. absurd (omega (sum, e, arith))), others.fail);
      }

-- answers are tested at once
pub answers_first : (places : RegionPlaces) (flag : Option ℕ) (aborts rest : List Transition) (m : ℕ) →
    at_once (answers places flag m aborts ++ rest) ≡ answers places flag m aborts ++ at_once rest
answers_first places None [] rest m = refl
answers_first places None (u ∷ aborts) rest m = refl
answers_first places (Some x) [] rest m = refl
answers_first places (Some x) (u ∷ aborts) rest m =
    ap (λ zs. led_by places (Some (is_number x m)) u ∷ zs) (answers_first places (Some x) aborts rest (suc m))
