-- At the end of a tick each test that a thread has left fails, at stage 3 of the superstate whose flag or counter it reads.
use Rattle.std.proofs.Common.{◌≡◌, ◌≢◌, ℕ, zero, suc, ◌+◌, ◌<◌, ◌≤◌, ⊎_elim, false, Option, Some, List, [], ◌∷◌, ◌++◌}
use Rattle.std.proofs.Common.{length, slice_set, refl, sym, ap, subst, ◌∙◌, arith}
use Rattle.std.proofs.lemmas.Option.{same_Some}
use Rattle.std.proofs.lemmas.List.{length-set}
use Rattle.sc_values.specs.Access.{Access}
use Rattle.core_charts.specs.declared.region.Transition.{Transition}
use Rattle.chart_machine.specs.declared.standing.Standing.{Standing}
use Rattle.chart_machine.specs.declared.standing.Standing.TheVariants as at
use Rattle.chart_machine.specs.declared.standing.Configuration.{Configuration}
use Rattle.chart_machine.specs.declared.table.Table.{Table}
use Rattle.chart_machine.specs.Turns.{standing_of, guards as has_to_guard, is_guarded}
use Rattle.chart_machine.specs.Steps.{verdict, access_of, access_of_trigger}
use Rattle.chart_machine.specs.Machine.{machine}
use Rattle.chart_machine.proofs.Outside.{within_or_past}
use Rattle.chart_machine_laws.specs.Tree.{around, holder}
use Rattle.tick_laws.proofs.Lists.{same_or_not}
use Rattle.abort_expansion_laws.specs.Stages.{Entry, Silent, Correspondence, ReadsFlag, Climbs}
use Rattle.abort_expansion_laws.proofs.Segments.{Segment, segment_on}
use Rattle.abort_expansion_laws.proofs.SilentSteps.{silent_step, no_step}
use Rattle.abort_expansion_laws.proofs.Supplying.{silent_test, tests, climbs_step}
use Rattle.abort_expansion_laws.proofs.TestFails.{fails}
use Rattle.abort_expansion_laws.proofs.Unchanged.{stands_same, stands_other}
use Rattle.abort_expansion_laws.proofs.NumberedRegions.{past_number}

-- without tests that are left
abbrev pub last_of : Standing → Standing
last_of (at.Trying u tests) = at.Trying u []
last_of other = other

module _ (core : Table) (corr : Correspondence) (Told : Configuration → Entry → Type 0)
    (told : (e : Configuration) (t : ℕ) (stage : Option (ℕ × ℕ)) (a : Access) → Told e (Silent t stage a)) (d : Configuration)
    (Reached : ℕ → ℕ → Type 0) where
  -- each of these tests of a thread fails so
  pub data FailsAtLast (t : ℕ) : List Transition → Type 0 where
    none_left : FailsAtLast t []
    one_more : (x : ℕ) (z : Transition) (rest : List Transition) → verdict d.variables z.trigger ≡ Some false → access_of_trigger z.trigger ≡ tests x →
        corr.declared ≤ x → ReadsFlag corr t (Some (corr.home x, 3)) x → ((n : ℕ) → Reached (corr.home x) n → n ≤ 3) → Reached (corr.home x) 3 →
        FailsAtLast t rest → FailsAtLast t (z ∷ rest)

  -- a thread has nothing left, or such tests
  pub data Ends (t : ℕ) : Standing → Type 0 where
    nothing_left : (y : Standing) → last_of y ≡ y → Ends t y
    some_left : (u : ℕ) (left : List Transition) → FailsAtLast t left → Ends t (at.Trying u left)

  pub fails_both : (t : ℕ) (ws vs : List Transition) → FailsAtLast t ws → FailsAtLast t vs → FailsAtLast t (ws ++ vs)
  fails_both t _ vs none_left others = others
  fails_both t _ vs (one_more x z rest false_there accesses high reads most reaches more) others =
      one_more x z (rest ++ vs) false_there accesses high reads most reaches (fails_both t rest vs more others)

  -- threads below this number have made theirs
  pub record Done (n : ℕ) (e : Configuration) : Type 0 where
    pub variables : e.variables ≡ d.variables
    pub size : length e.regions ≡ length d.regions
    pub free : (t : ℕ) → has_to_guard (standing_of e t) ≡ false
    pub passed : (t : ℕ) → t < n → standing_of e t ≡ last_of (standing_of d t)
    pub waiting : (t : ℕ) → n ≤ t → standing_of e t ≡ standing_of d t

  abbrev placed : Configuration → ℕ → ℕ → List Transition → Configuration
  placed e t u rest = record { variables = e.variables; regions = slice_set e.regions t (at.Trying u rest) }

  abbrev pub Passing : Configuration → (Configuration → Type 0) → Type 0
  Passing e Reaches = Segment (machine core) corr Told e Reached (λ z. Reached) [] Reaches

  free_around : (e : Configuration) → ((t : ℕ) → has_to_guard (standing_of e t) ≡ false) → (zs : List ℕ) → is_guarded core e zs ≡ false
  free_around e none [] = refl
  free_around e none (s ∷ zs) = rw (none (holder core s), free_around e none zs) refl

  climbs_last : (t x : ℕ) (a : Access) (rest : List Entry) → ((n : ℕ) → Reached (corr.home x) n → n ≤ 3) → Reached (corr.home x) 3 →
      Climbs corr Reached rest → Climbs corr Reached (Silent t (Some (corr.home x, 3)) a ∷ rest)
  climbs_last t x a rest most reaches climbs =
      climbs_step corr Reached Reached (Silent t (Some (corr.home x, 3)) a) rest
      (λ h n e.
      let both : ◌≡◌ {A = ℕ × ℕ} (corr.home x, 3) (h, n) = same_Some (corr.home x, 3) (h, n) e in
      let at_home : corr.home x ≡ h = ap (λ z. z.0) both in
      let three : 3 ≡ n = ap (λ z. z.1) both in (
        λ v before. let le = most v (subst (λ z. Reached z v) (sym at_home) before) in omega (le, three, arith),
        subst (λ z. Reached z n) at_home (subst (Reached (corr.home x)) three reaches),
      ))
      (λ h n ne before. before) climbs

  skipped : (n : ℕ) (e : Configuration) → Done n e → standing_of e n ≡ last_of (standing_of d n) → Done (suc n) e
  skipped n e done here =
      record {
        variables = done.variables;
        size = done.size;
        free = done.free;
        passed = λ t lt.
            ⊎_elim (λ less. done.passed t less)
            (λ more. let same : t ≡ n = omega (lt, more, arith) in subst (λ z. standing_of e z ≡ last_of (standing_of d z)) (sym same) here)
            (within_or_past t n);
        waiting = λ t le. done.waiting t (omega (le, arith));
      }

  inside_core : (e : Configuration) (t u : ℕ) (rest : List Transition) → standing_of e t ≡ at.Trying u rest → t < length e.regions
  inside_core e t u rest is =
      ⊎_elim (λ lt. lt)
      (λ past. let wrong : at.Outside ≡ at.Trying u rest = sym (past_number e.regions t past) ∙ is in absurd cc)
      (within_or_past t (length e.regions))

  -- one thread has made its tests, and nothing else has changed
  record HasMade (n u : ℕ) (e w : Configuration) : Type 0 where
    variables : w.variables ≡ e.variables
    size : length w.regions ≡ length e.regions
    here : standing_of w n ≡ at.Trying u []
    other : (g : ℕ) → g ≢ n → standing_of w g ≡ standing_of e g

  tests_made : (n u : ℕ) (e : Configuration) → e.variables ≡ d.variables → ((t : ℕ) → has_to_guard (standing_of e t) ≡ false) → (left : List Transition) →
      FailsAtLast n left → standing_of e n ≡ at.Trying u left → Passing e (HasMade n u e)
  tests_made n u e values free _ none_left stands =
      no_step (machine core) corr Told told e Reached (HasMade n u e) (record { variables = refl; size = refl; here = stands; other = λ g ne. refl })
  tests_made n u e values free _ (one_more x z rest false_there accesses high reads most reaches more) stands =
      segment_on (machine core) corr Told e Reached (λ w. Reached) (λ w. Reached) [] [] (λ w. w ≡ placed e n u rest) (HasMade n u e) one
      (subst (λ w. Passing w (HasMade n u e)) (sym one.reaches) (onward (tests_made n u (placed e n u rest) values free_after rest more here)))
    where
      here : standing_of (placed e n u rest) n ≡ at.Trying u rest
      here = stands_same e (placed e n u rest) n (at.Trying u rest) refl (inside_core e n u (z ∷ rest) stands)

      other : (g : ℕ) → g ≢ n → standing_of (placed e n u rest) g ≡ standing_of e g
      other g ne = stands_other e (placed e n u rest) n g (at.Trying u rest) refl ne

      free_after : (t : ℕ) → has_to_guard (standing_of (placed e n u rest) t) ≡ false
      free_after t = ⊎_elim (λ same. ap (λ w. has_to_guard (standing_of (placed e n u rest) w)) same ∙ ap has_to_guard here)
          (λ ne. ap has_to_guard (other t ne) ∙ free t) (same_or_not t n)

      one : Passing e (λ w. w ≡ placed e n u rest)
      one =
          silent_step (machine core) corr Told told e (placed e n u rest) n (Some (corr.home x, 3)) (tests x) Reached Reached (λ w. w ≡ placed e n u rest)
          (fails core e n u z rest (free_around e free (around core n)) stands (ap (λ vs. verdict vs z.trigger) values ∙ false_there))
          (ap access_of stands ∙ accesses) (silent_test corr n (Some (corr.home x, 3)) x high reads)
          (λ later climbs. climbs_last n x (tests x) later most reaches climbs) refl

      onward : Passing (placed e n u rest) (HasMade n u (placed e n u rest)) → Passing (placed e n u rest) (HasMade n u e)
      onward s =
          record {
            log = s.log;
            last = s.last;
            follows = s.follows;
            charted = s.charted;
            fits = s.fits;
            climbs = s.climbs;
            reaches =
                record {
                  variables = s.reaches.variables;
                  size = s.reaches.size ∙ length-set e.regions n (at.Trying u rest);
                  here = s.reaches.here;
                  other = λ g ne. s.reaches.other g ne ∙ other g ne;
                };
          }

  one_step : (n : ℕ) (e : Configuration) → Done n e → (y : Standing) → standing_of d n ≡ y → Ends n y → Passing e (Done (suc n))
  one_step n e done _ is (nothing_left y same) =
      no_step (machine core) corr Told told e Reached (Done (suc n))
      (skipped n e done (done.waiting n (omega arith) ∙ (is ∙ (sym same ∙ ap last_of (sym is)))))
  one_step n e done _ is (some_left u left all) =
      record {
        log = made.log;
        last = made.last;
        follows = made.follows;
        charted = made.charted;
        fits = made.fits;
        climbs = made.climbs;
        reaches = after made.last made.reaches;
      }
    where
      made : Passing e (HasMade n u e)
      made = tests_made n u e done.variables done.free left all (done.waiting n (omega arith) ∙ is)

      less : (g m : ℕ) → g < suc m → g ≢ m → g < m
      less g m lt ne = ⊎_elim (λ below. below) (λ above. absurd (ne (omega (lt, above, arith)))) (within_or_past g m)

      after : (w : Configuration) → HasMade n u e w → Done (suc n) w
      after w has =
          record {
            variables = has.variables ∙ done.variables;
            size = has.size ∙ done.size;
            free = λ g. ⊎_elim (λ same. ap (λ v. has_to_guard (standing_of w v)) same ∙ ap has_to_guard has.here)
                (λ ne. ap has_to_guard (has.other g ne) ∙ done.free g) (same_or_not g n);
            passed = λ g lt.
                ⊎_elim (λ same. ap (standing_of w) same ∙ (has.here ∙ sym (ap (λ v. last_of (standing_of d v)) same ∙ ap last_of is)))
                (λ ne. has.other g ne ∙ done.passed g (less g n lt ne)) (same_or_not g n);
            waiting = λ g le. has.other g (λ same. absurd (omega (same, le, arith))) ∙ done.waiting g (omega (le, arith));
          }

  module _ (ends : (t : ℕ) → Ends t (standing_of d t)) where
    all_end : (rest n : ℕ) (e : Configuration) → Done n e → n + rest ≡ length d.regions → Passing e (Done (length d.regions))
    all_end zero n e done sum =
        no_step (machine core) corr Told told e Reached (Done (length d.regions)) (subst (λ m. Done m e) (omega (sum, arith)) done)
    all_end (suc rest) n e done sum =
        let one : Passing e (Done (suc n)) = one_step n e done (standing_of d n) refl (ends n) in
        segment_on (machine core) corr Told e Reached (λ z. Reached) (λ z. Reached) [] [] (Done (suc n)) (Done (length d.regions)) one
        (all_end rest (suc n) one.last one.reaches (omega (sum, arith)))

    pub tests_end : ((t : ℕ) → has_to_guard (standing_of d t) ≡ false) → Passing d (Done (length d.regions))
    tests_end free =
        all_end (length d.regions) zero d
        (record { variables = refl; size = refl; free = free; passed = λ t lt. absurd (omega (lt, arith)); waiting = λ t le. refl }) (omega arith)

  -- then each thread is without its last test
  pub all_passed : (e : Configuration) → Done (length d.regions) e → (t : ℕ) → standing_of e t ≡ last_of (standing_of d t)
  all_passed e done t =
      ⊎_elim (λ lt. done.passed t lt)
      (λ past.
      let out : standing_of d t ≡ at.Outside = past_number d.regions t past in
      done.waiting t past ∙ (out ∙ sym (ap last_of out))) (within_or_past t (length d.regions))
