-- In a continuation, the checks of flags that are not raised fail, one after the other.
use Rattle.std.proofs.Common.{◌≡◌, ◌≢◌, ℕ, pos, ◌<◌, ◌≤◌, ⊎_elim, Bool, true, false, Option, Some, None, List, [], ◌∷◌, ◌++◌, length, slice_get}
use Rattle.std.proofs.Common.{slice_set, refl, sym, ap, subst, ◌∙◌, arith}
use Rattle.std.proofs.lemmas.Option.{same_Some}
use Rattle.std.proofs.lemmas.List.{length-set}
use Rattle.sc_values.specs.declared.value.Value.TheVariants as value_is
use Rattle.sc_values.specs.Access.{Access}
use Rattle.core_charts.specs.declared.region.Transition.{Transition}
use Rattle.chart_machine.specs.declared.standing.Standing.TheVariants as at
use Rattle.chart_machine.specs.declared.standing.Configuration.{Configuration}
use Rattle.chart_machine.specs.declared.table.Table.{Table}
use Rattle.chart_machine.specs.Turns.{standing_of, guards as has_to_guard, is_enabled}
use Rattle.chart_machine.specs.Steps.{to, verdict, change_of, step, access_of}
use Rattle.chart_machine.specs.Machine.{machine}
use Rattle.abort_expansion.specs.declared.flags.Flags.{Flags}
use Rattle.abort_expansion.specs.Transitions.{go, is_raised, check, strong_checks}
use Rattle.tick_laws.proofs.Lists.{same_or_not}
use Rattle.abort_expansion_laws.specs.Stages.{Entry, Silent, Correspondence, ReadsFlag, Climbs}
use Rattle.abort_expansion_laws.proofs.Supplying.{climbs_step, silent_test, tests}
use Rattle.abort_expansion_laws.proofs.Segments.{Segment}
use Rattle.chart_machine_laws.proofs.LyingIn.{around}
use Rattle.abort_expansion_laws.proofs.Unchanged.{stands_same, stands_other, unguarded}
use Rattle.abort_expansion_laws.proofs.TestFails.{tested_is}
use Rattle.abort_expansion_laws.proofs.MoreValues.{lowered_verdict}
use Rattle.abort_expansion_laws.proofs.FlagAccess.{raised_access}

module _ (core : Table) (corr : Correspondence) (Told : Configuration → Entry → Type 0)
    (told : (d : Configuration) (t : ℕ) (stage : Option (ℕ × ℕ)) (a : Access) → Told d (Silent t stage a))
    (g u left : ℕ) (Before : ℕ → ℕ → Type 0) where
  -- a strong flag that is not raised, and may be looked at now, at stage 1
  pub record IsDown (d : Configuration) (x : ℕ) : Type 0 where
    pub flag : corr.declared ≤ x
    pub low : slice_get d.variables x ≡ Some (value_is.Int (pos 0))
    pub reads : ReadsFlag corr g (Some (corr.home x, 1)) x
    pub reached : (n : ℕ) → Before (corr.home x) n → n ≤ 1
    pub reaches : Before (corr.home x) 1

  abbrev pub AllDown : Configuration → List Flags → Type 0
  AllDown d [] = Unit {0}
  AllDown d (f ∷ fs) = ((x : ℕ) → f.strong ≡ Some x → IsDown d x) × AllDown d fs

  abbrev pub placed : Configuration → List Transition → Configuration
  placed d ts = record { variables = d.variables; regions = slice_set d.regions g (at.Trying u ts) }

  -- a test that fails
  fails : (d : Configuration) (w : Transition) (rest : List Transition) → ((t : ℕ) → has_to_guard (standing_of d t) ≡ false) →
      standing_of d g ≡ at.Trying u (w ∷ rest) →
      verdict d.variables w.trigger ≡ Some false → step core g d ≡ Some (placed d rest)
  fails d w rest none stands false_there =
      let on : is_enabled core d g ≡ true = rw (stands, unguarded core d none (around core g)) refl in
      let does : change_of core d g (standing_of d g) ≡ Some (record { write = None; moves = to g (at.Trying u rest) ∷ [] }) =
      ap (change_of core d g) stands ∙ tested_is core d g u w (to g (at.Trying u rest) ∷ []) false false_there in
      rw (on, does) refl

  -- stages are reached as before
  climbs_down : (x : ℕ) (a : Access) (d : Configuration) (rest : List Entry) → IsDown d x → Climbs corr Before rest →
      Climbs corr Before (Silent g (Some (corr.home x, 1)) a ∷ rest)
  climbs_down x a d rest down climbs =
      climbs_step corr Before Before (Silent g (Some (corr.home x, 1)) a) rest
      (λ h n e.
      let both : ◌≡◌ {A = ℕ × ℕ} (corr.home x, 1) (h, n) = same_Some (corr.home x, 1) (h, n) e in
      let at_home : corr.home x ≡ h = ap (λ z. z.0) both in
      let one : 1 ≡ n = ap (λ z. z.1) both in (
        λ v before. let le = down.reached v (subst (λ z. Before z v) (sym at_home) before) in omega (le, one, arith),
        subst (λ z. Before z n) at_home (subst (Before (corr.home x)) one down.reaches),
      ))
      (λ h n ne before. before) climbs

  -- nothing changed but the tests left
  abbrev pub Passed : Configuration → List Transition → Type 0
  Passed d rest = Segment (machine core) corr Told d Before (λ last. Before) [] (λ z. (z.variables ≡ d.variables) × ((standing_of z g ≡ at.Trying u rest)
      × (((t : ℕ) → t ≢ g → standing_of z t ≡ standing_of d t) × (length z.regions ≡ length d.regions))))

  abbrev pub Calm : Configuration → Type 0
  Calm d = (t : ℕ) → has_to_guard (standing_of d t) ≡ false

  all_on : (a b : Configuration) → b.variables ≡ a.variables → (gs : List Flags) → AllDown a gs → AllDown b gs
  all_on a b same [] all = tt
  all_on a b same (h ∷ gs) all = (
    λ y e. let it = all.0 y e in record {
      flag = it.flag;
      low = ap (λ vs. slice_get vs y) same ∙ it.low;
      reads = it.reads;
      reached = it.reached;
      reaches =
          it.reaches;
    },
    all_on a b same gs all.1,
  )

  first_check : (b : Bool) (o : Option ℕ) (f : Flags) (fs : List Flags) (rest : List Transition) (d : Configuration) → f.strong ≡ o → Calm d →
      g < length d.regions →
      AllDown d (f ∷ fs) →
      standing_of d g ≡ at.Trying u (strong_checks b left (f ∷ fs) ++ rest) →
      ((e : Configuration) → Calm e → g < length e.regions → AllDown e fs → standing_of e g ≡ at.Trying u (strong_checks b left fs ++ rest) →
      Passed e rest) → Passed d rest
  first_check b None f fs rest d is none lt down stands on_rest =
      on_rest d none lt down.1 (stands ∙ ap (λ z. at.Trying u ((check b left z ++ strong_checks b left fs) ++ rest)) is)
  first_check b (Some x) f fs rest d is none lt down stands on_rest =
      let own : IsDown d x = down.0 x is in
      let w : Transition = go b (Some (is_raised x)) [] left in
      let more : List Transition = strong_checks b left fs ++ rest in
      let first : standing_of d g ≡ at.Trying u (w ∷ more) = stands ∙ ap (λ z. at.Trying u ((check b left z ++ strong_checks b left fs) ++ rest)) is in
      let d1 : Configuration = placed d more in
      let here : standing_of d1 g ≡ at.Trying u more = stands_same d d1 g (at.Trying u more) refl lt in
      let others : (t : ℕ) → t ≢ g → standing_of d1 t ≡ standing_of d t = λ t ne. stands_other d d1 g t (at.Trying u more) refl ne in
      let calm : Calm d1 = λ t. ⊎_elim (λ e. ap (λ z. has_to_guard (standing_of d1 z)) e ∙ ap has_to_guard here)
      (λ ne. ap has_to_guard (others t ne) ∙ none t) (same_or_not t g) in
      let s : Passed d1 rest = on_rest d1 calm (let size = length-set d.regions g (at.Trying u more) in omega (lt, size, arith)) (all_on d d1 refl fs down.1)
      here in
      record {
        log = Silent g (Some (corr.home x, 1)) (tests x) ∷ s.log;
        last = s.last;
        follows = (
          ap (λ z. record { thread = g; access = z }) (sym (ap access_of first ∙ raised_access x)),
          told d g (Some (corr.home x, 1)) (tests x),
          (d1, fails d w more none first (lowered_verdict x d.variables own.low), s.follows),
        );
        charted = s.charted;
        fits = (silent_test corr g (Some (corr.home x, 1)) x own.flag own.reads, s.fits);
        climbs = λ rests climbs. climbs_down x (tests x) d (s.log ++ rests) own (s.climbs rests climbs);
        reaches = (s.reaches.0, (s.reaches.1.0, (λ t ne. s.reaches.1.1.0 t ne ∙ others t ne, s.reaches.1.1.1 ∙ length-set d.regions g (at.Trying u more))));
      }

  -- whether they are looked at at once, as in continuations, or not, as in monitors
  pub looks_fail : (b : Bool) (fs : List Flags) (rest : List Transition) (d : Configuration) → Calm d → g < length d.regions → AllDown d fs →
      standing_of d g ≡ at.Trying u (strong_checks b left fs ++ rest) → Passed d rest
  looks_fail b [] rest d none lt down stands =
      record { log = []; last = d; follows = refl; charted = refl; fits = tt; climbs = λ more climbs. climbs; reaches = (refl, (stands, (λ t ne. refl, refl))) }
  looks_fail b (f ∷ fs) rest d none lt down stands =
      first_check b f.strong f fs rest d refl none lt down stands (λ e calm in_e all first. looks_fail b fs rest e calm in_e all first)

  pub checks_fail : (fs : List Flags) (rest : List Transition) (d : Configuration) → Calm d → g < length d.regions → AllDown d fs →
      standing_of d g ≡ at.Trying u (strong_checks true left fs ++ rest) → Passed d rest
  checks_fail = looks_fail true

  -- one flag that is looked at, and is down: nothing changed but the test
  pub one_fails : (b : Bool) (x : ℕ) (rest : List Transition) (d : Configuration) → Calm d → IsDown d x →
      standing_of d g ≡ at.Trying u (go b (Some (is_raised x)) [] left ∷ rest) →
      Segment (machine core) corr Told d Before (λ last. Before) [] (λ z. z ≡ placed d rest)
  one_fails b x rest d none own first =
      let w : Transition = go b (Some (is_raised x)) [] left in
      record {
        log = Silent g (Some (corr.home x, 1)) (tests x) ∷ [];
        last = placed d rest;
        follows = (
          ap (λ z. record { thread = g; access = z }) (sym (ap access_of first ∙ raised_access x)),
          told d g (Some (corr.home x, 1)) (tests x),
          (placed d rest, fails d w rest none first (lowered_verdict x d.variables own.low), refl),
        );
        charted = refl;
        fits = (silent_test corr g (Some (corr.home x, 1)) x own.flag own.reads, tt);
        climbs = λ rests climbs. climbs_down x (tests x) d rests own climbs;
        reaches = refl;
      }
