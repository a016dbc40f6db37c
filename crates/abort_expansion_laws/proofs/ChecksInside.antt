-- When all strong tests of a superstate have failed, the strong check of each thread inside fails, one region after the other.
use Rattle.std.proofs.Common.{◌≡◌, ◌≢◌, ℕ, zero, suc, pos, ◌+◌, ◌<◌, ◌≤◌, ◌⊎◌, inr, ⊎_elim, Bool, false, Option, Some, List, [], ◌∷◌}
use Rattle.std.proofs.Common.{length, slice_get, slice_set, Contains, refl, sym, ap, subst, ◌∙◌, arith}
use Rattle.std.proofs.lemmas.List.{length-set}
use Rattle.sc_values.specs.declared.value.Value.TheVariants as value_is
use Rattle.sc_values.specs.Access.{Access}
use Rattle.core_charts.specs.declared.region.Transition.{Transition}
use Rattle.chart_machine.specs.declared.standing.Standing.{Standing}
use Rattle.chart_machine.specs.declared.standing.Standing.TheVariants as at
use Rattle.chart_machine.specs.declared.standing.Configuration.{Configuration}
use Rattle.chart_machine.specs.declared.table.Table.{Table}
use Rattle.chart_machine.specs.Turns.{standing_of, guards as has_to_guard, is_guarded}
use Rattle.chart_machine.specs.Steps.{access_of}
use Rattle.chart_machine.specs.Machine.{machine}
use Rattle.chart_machine.proofs.Outside.{within_or_past}
use Rattle.abort_expansion.specs.Transitions.{is_raised, go}
use Rattle.chart_machine_laws.specs.Tree.{IsNested, IsThere, around, holder}
use Rattle.tick_laws.proofs.Lists.{same_or_not, contained}
use Rattle.abort_expansion_laws.specs.Stages.{Entry, Silent, Correspondence}
use Rattle.abort_expansion_laws.specs.CoreRows.{Images, CoreRows, pair}
use Rattle.abort_expansion_laws.proofs.Segments.{Segment, segment_on}
use Rattle.abort_expansion_laws.proofs.SilentSteps.{AtHome, climbs_at, silent_step, no_step}
use Rattle.abort_expansion_laws.proofs.Supplying.{silent_test, tests}
use Rattle.abort_expansion_laws.proofs.TestFails.{fails}
use Rattle.abort_expansion_laws.proofs.Unchanged.{stands_same, stands_other}
use Rattle.abort_expansion_laws.proofs.MoreValues.{lowered_verdict}
use Rattle.abort_expansion_laws.proofs.FlagAccess.{raised_access}
use Rattle.abort_expansion_laws.proofs.ThreadsAround.{thread_within}

-- is one number among these
there_or_not : (x : ℕ) (xs : List ℕ) → Contains xs x ⊎ (Contains xs x → ⊥)
there_or_not x xs = contained xs x

module _ (k core : Table) (i : Images) (rows : CoreRows k core i) (tree : IsNested k) (counts : ℕ → Bool) (written_at : ℕ → ℕ)
    (Told : Configuration → Entry → Type 0) (told : (d : Configuration) (t : ℕ) (stage : Option (ℕ × ℕ)) (a : Access) → Told d (Silent t stage a))
    (o x : ℕ) (flag_of : rows.of_flag x ≡ o) (high : length k.variables ≤ x) (not_counter : counts x ≡ false) (written_first : written_at x ≡ 0)
    (Others : ℕ → ℕ → Type 0) where
  abbrev pub corr : Correspondence
  corr = pair k core i rows tree counts written_at

  -- a thread goes on with the tests behind one that has failed
  abbrev placed : Configuration → ℕ → ℕ → List Transition → Configuration
  placed e g u rest = record { variables = e.variables; regions = slice_set e.regions g (at.Trying u rest) }

  -- the thread of a region inside is inside of the fork
  in_fork : (s q : ℕ) → Contains (around k q) s → Contains (around core (i.thread_of q)) (i.main_of s)
  in_fork s q inner = thread_within k core i rows q s inner

  -- the check of a region's thread
  abbrev pub sees : Bool → ℕ → Transition
  sees b q = go b (Some (is_raised x)) [] (i.places_of q).left

  -- where the thread stands, and where it does when its check has failed
  pub data Passes (q : ℕ) : Standing → Standing → Type 0 where
    nothing_checked : (y : Standing) → Passes q y y
    checked : (b : Bool) (u : ℕ) (rest : List Transition) → Passes q (at.Trying u (sees b q ∷ rest)) (at.Trying u rest)

  -- the checks of regions below this number are done
  pub record Done (want : ℕ → Standing) (d : Configuration) (n : ℕ) (e : Configuration) : Type 0 where
    pub variables : e.variables ≡ d.variables
    pub size : length e.regions ≡ length d.regions
    pub free : (t : ℕ) → has_to_guard (standing_of e t) ≡ false
    pub passed : (q : ℕ) → IsThere k q → Contains (around k q) o → q < n → standing_of e (i.thread_of q) ≡ want q
    pub waiting : (q : ℕ) → n ≤ q → standing_of e (i.thread_of q) ≡ standing_of d (i.thread_of q)
    pub others : (t : ℕ) → ((q : ℕ) → IsThere k q → Contains (around k q) o → t ≢ i.thread_of q) → standing_of e t ≡ standing_of d t

  free_around : (e : Configuration) → ((t : ℕ) → has_to_guard (standing_of e t) ≡ false) → (zs : List ℕ) → is_guarded core e zs ≡ false
  free_around e none [] = refl
  free_around e none (s ∷ zs) = rw (none (holder core s), free_around e none zs) refl

  abbrev pub Checks : Configuration → (Configuration → Type 0) → Type 0
  Checks e Reaches = Segment (machine core) corr Told e (AtHome Others (corr.home x) 1) (λ last. AtHome Others (corr.home x) 1) [] Reaches

  module _ (want : ℕ → Standing) (d : Configuration) (core_size : length d.regions ≡ suc (length core.regions))
      (down : slice_get d.variables x ≡ Some (value_is.Int (pos 0)))
      (passes : (q : ℕ) → IsThere k q → Contains (around k q) o → Passes q (standing_of d (i.thread_of q)) (want q)) where
    -- who has nothing to check
    skipped : (n : ℕ) (e : Configuration) → Done want d n e → (IsThere k n → Contains (around k n) o → standing_of e (i.thread_of n) ≡ want n) →
        Done want d (suc n) e
    skipped n e done here =
        record {
          variables = done.variables;
          size = done.size;
          free = done.free;
          passed = λ q there inner lt.
              ⊎_elim (λ less. done.passed q there inner less)
              (λ more. let same : q ≡ n = omega (lt, more, arith) in
              subst (λ z. standing_of e (i.thread_of z) ≡ want z) (sym same)
              (here (subst (IsThere k) same there) (subst (λ z. Contains (around k z) o) same inner)))
              (within_or_past q n);
          waiting = λ q le. done.waiting q (omega (le, arith));
          others = done.others;
        }

    -- the check of region n
    one_check : (n : ℕ) (e : Configuration) → Done want d n e → IsThere k n → Contains (around k n) o → (y z : Standing) →
        standing_of e (i.thread_of n) ≡ y → want n ≡ z → Passes n y z → Checks e (Done want d (suc n))
    one_check n e done there inner _ _ stands goal (nothing_checked y) =
        no_step (machine core) corr Told told e (AtHome Others (corr.home x) 1) (Done want d (suc n)) (skipped n e done (λ is around_it. stands ∙ sym goal))
    one_check n e done there inner _ _ stands goal (checked b u rest) =
        silent_step (machine core) corr Told told e (placed e (i.thread_of n) u rest) (i.thread_of n) (Some (corr.home x, 1)) (tests x) (AtHome Others
        (corr.home x) 1) (AtHome Others (corr.home x) 1)
        (Done want d (suc n))
        (fails core e (i.thread_of n) u (sees b n) rest (free_around e done.free (around core (i.thread_of n))) stands
        (lowered_verdict x e.variables (ap (λ vs. slice_get vs x) done.variables ∙ down)))
        (ap access_of stands ∙ raised_access x)
        (silent_test corr (i.thread_of n) (Some (corr.home x, 1)) x high (inr (inr (not_counter, within), (1, refl, first))))
        (λ more climbs. climbs_at corr Others (corr.home x) 1 1 (i.thread_of n) (tests x) more (omega arith) climbs) after
      where
        first : written_at x < 1
        first = omega (written_first, arith)

        within : Contains (around core (i.thread_of n)) (i.main_of (rows.of_flag x))
        within = subst (λ s. Contains (around core (i.thread_of n)) (i.main_of s)) (sym flag_of) (in_fork o n inner)

        in_core : i.thread_of n < length e.regions
        in_core = let lt = (rows.region n there).there.1 in let size = done.size in omega (lt, size, core_size, arith)

        here : standing_of (placed e (i.thread_of n) u rest) (i.thread_of n) ≡ at.Trying u rest
        here = stands_same e (placed e (i.thread_of n) u rest) (i.thread_of n)
            (at.Trying u rest) refl in_core

        other : (g : ℕ) → g ≢ i.thread_of n →
            standing_of (placed e (i.thread_of n) u rest) g ≡ standing_of e g
        other g ne = stands_other e (placed e (i.thread_of n) u rest) (i.thread_of n) g
            (at.Trying u rest) refl ne

        after : Done want d (suc n) (placed e (i.thread_of n) u rest)
        after =
            record {
              variables = done.variables;
              size = length-set e.regions (i.thread_of n) (at.Trying u rest) ∙ done.size;
              free = λ g. ⊎_elim (λ same. ap (λ z. has_to_guard (standing_of (placed e (i.thread_of n) u rest) z)) same ∙ ap has_to_guard here)
                  (λ ne. ap has_to_guard (other g ne) ∙ done.free g) (same_or_not g (i.thread_of n));
              passed = λ q is around_it lt.
                  ⊎_elim
                  (λ same. ap (λ z. standing_of (placed e (i.thread_of n) u rest)
                  (i.thread_of z)) same ∙ (here ∙ (sym goal ∙ ap want (sym same))))
                  (λ ne. other (i.thread_of q) (λ f. ne (rows.region_once q n f)) ∙ done.passed q is around_it (less q n lt ne)) (same_or_not q n);
              waiting = λ q le.
                  other (i.thread_of q) (λ f. let same = rows.region_once q n f in absurd (omega (same, le, arith))) ∙ done.waiting q (omega (le, arith));
              others = λ g none. other g (none n there inner) ∙ done.others g none;
            }
          where
            less : (q n : ℕ) → q < suc n → q ≢ n → q < n
            less q n lt ne = ⊎_elim (λ below. below) (λ above. absurd (ne (omega (lt, above, arith)))) (within_or_past q n)

    region_passes : (n : ℕ) (e : Configuration) → Done want d n e → n < suc (length k.regions) → Checks e (Done want d (suc n))
    region_passes zero e done lt =
        no_step (machine core) corr Told told e (AtHome Others (corr.home x) 1) (Done want d 1) (skipped zero e done (λ is around_it. absurd (not_there is)))
      where
        not_there : IsThere k zero → ⊥
        not_there is = let lt = is.0 in omega (lt, arith)
    region_passes (suc j) e done lt =
        ⊎_elim
        (λ inner. one_check (suc j) e done (omega arith, lt) inner (standing_of e (i.thread_of (suc j))) (want (suc j)) refl refl
        (subst (λ y. Passes (suc j) y (want (suc j))) (sym (done.waiting (suc j) (omega arith))) (passes (suc j) (omega arith, lt) inner)))
        (λ out. no_step (machine core) corr Told told e (AtHome Others (corr.home x) 1) (Done want d (suc (suc j)))
        (skipped (suc j) e done (λ is around_it. absurd (out around_it)))) (there_or_not o (around k (suc j)))

    -- from region n on, as many as are left
    pub all_pass : (left n : ℕ) (e : Configuration) → Done want d n e → n + left ≡ suc (length k.regions) → Checks e (Done want d (suc (length k.regions)))
    all_pass zero n e done sum =
        no_step (machine core) corr Told told e (AtHome Others (corr.home x) 1) (Done want d (suc (length k.regions)))
        (subst (λ m. Done want d m e) (omega (sum, arith)) done)
    all_pass (suc left) n e done sum =
        let one : Checks e (Done want d (suc n)) = region_passes n e done (omega (sum, arith)) in
        segment_on (machine core) corr Told e (AtHome Others (corr.home x) 1) (λ last. AtHome Others (corr.home x) 1)
        (λ last. AtHome Others (corr.home x) 1) [] [] (Done want d (suc n)) (Done want d (suc (length k.regions))) one
        (all_pass left (suc n) one.last one.reaches (omega (sum, arith)))

    pub checks_pass : ((t : ℕ) → has_to_guard (standing_of d t) ≡ false) → Checks d (Done want d (suc (length k.regions)))
    checks_pass free =
        all_pass (suc (length k.regions)) zero d
        (record {
          variables = refl;
          size = refl;
          free = free;
          passed = λ q is inner lt. absurd (omega (lt, arith));
          waiting = λ q le. refl;
          others = λ t none. refl;
        }) (omega arith)
