-- Steps of a core chart's run that stand for steps of its chart, with looks at weak flags silenced: nobody reads a weak flag any more but the thread of the
-- region that holds its superstate, so at which stage it is written is free.
use Rattle.std.proofs.Common.{◌≡◌, ℕ, ◌<◌, ◌≤◌, ◌⊎◌, inl, inr, ⊎_elim, Bool, true, false, ◌||◌, if◌then◌else◌, Option, Some, List, [], ◌∷◌}
use Rattle.std.proofs.Common.{refl, sym, ap, subst, ◌∙◌, arith, length}
use Rattle.std.specs.List.{list_any}
use Rattle.sc_values.specs.declared.operator.Combination.{Combination}
use Rattle.sc_values.specs.Access.{Access, Reads, no_access}
use Rattle.sc_values.specs.Runs.{Machine, Act, act_of}
use Rattle.core_charts.specs.declared.features.Features.TheVariants as features
use Rattle.core_charts.specs.declared.region.Transition.{Transition}
use Rattle.core_charts.specs.Chart.{Chart}
use Rattle.core_charts.specs.Rules.{IsChart}
use Rattle.chart_machine.specs.declared.standing.Configuration.{Configuration}
use Rattle.chart_machine.specs.declared.table.Table.{Table}
use Rattle.chart_machine.specs.Table.{table}
use Rattle.chart_machine.specs.Turns.{standing_of, is_enabled, ForkedApart}
use Rattle.chart_machine.specs.Steps.{step, access_of}
use Rattle.chart_machine.specs.Machine.{machine}
use Rattle.abort_expansion.specs.Expansion.{expanded}
use Rattle.chart_machine_laws.specs.Tree.{holder}
use Rattle.abort_expansion_laws.specs.CoreRows.{Images, CoreRows}
use Rattle.abort_expansion_laws.specs.Stages.{Entry, Image, Watched, Silent, Correspondence, Touches, InitsFlag, UpdatesFlag, ReadsFlag, IsSilent}
use Rattle.abort_expansion_laws.specs.Stages.{Fits, core_act}
use Rattle.abort_expansion_laws.proofs.FlagNumbers.{is_it, is_it_self}
use Rattle.abort_expansion_laws.proofs.FlagStages.{FlagStages, usual, early_stages, is_early, staged, it_is}
use Rattle.abort_expansion_laws.proofs.FreeFlags.{InitsFreely, ReadsFreely, IsSilentFreely, FitsFreely}
use Rattle.abort_expansion_laws.proofs.MoreRows.{counter_rows, opening_rows, stage_of_write}
use Rattle.chart_machine_laws.proofs.LyingIn.{none_in}
use Rattle.abort_expansion_laws.proofs.TicksOfCharts as ticks
use Rattle.preemption_laws.specs.Looks.{looks_of}
use Rattle.preemption_laws.specs.Waiting.{is_waiting, wait_access}

-- a core chart's machine in which looks do nothing to the variables
module _ (k : Table) (looks : ℕ → List Transition) where
  abbrev pub quiet_machine : Machine
  quiet_machine =
      record {
        Configuration = Configuration;
        enabled = is_enabled k;
        step = step k;
        access = wait_access k looks;
        ForkedApart = ForkedApart k;
      }

-- one that is among these
any_found : (p : ℕ → Bool) (xs : List ℕ) → list_any p xs ≡ true → (x : ℕ) × (p x ≡ true)
any_found p [] e = absurd cc
any_found p (x ∷ xs) e = by (p x) refl e (λ rest. any_found p xs rest)
  where
    by : (b : Bool) → p x ≡ b → (b || list_any p xs) ≡ true → (list_any p xs ≡ true → (y : ℕ) × (p y ≡ true)) → (y : ℕ) × (p y ≡ true)
    by true is e rest = (x, is)
    by false is e rest = rest e

module _ (c : Chart) (rules : IsChart features.Extended c) (core_rules : IsChart features.Core (expanded c)) where
  abbrev k : Table
  k = table c

  abbrev core : Table
  core = table (expanded c)

  abbrev i : Images
  i = ticks.i c rules core_rules

  abbrev rows : CoreRows k core i
  rows = ticks.rows c rules core_rules

  abbrev corr : Correspondence
  corr = ticks.corr c rules core_rules

  abbrev corr_at : FlagStages c rules core_rules → Correspondence
  corr_at stages = ticks.corr_at c rules core_rules stages

  abbrev pub looks : ℕ → List Transition
  looks = looks_of k core i

  -- of the stages at which weak flags are written nothing is asked
  abbrev pub IsWeakFlag : ℕ → Type 0
  IsWeakFlag x = (i.flags_of (rows.of_flag x)).weak ≡ Some x

  pub weak_flag_of : (u x : ℕ) → (i.flags_of u).weak ≡ Some x → IsWeakFlag x
  weak_flag_of u x weak =
      subst (λ v. (i.flags_of v).weak ≡ Some x) (sym ((opening_rows c rules core_rules).flag_of u x (inr (inl weak))).0) weak

  weak_or_not : (x : ℕ) → IsWeakFlag x ⊎ ¬ IsWeakFlag x
  weak_or_not x = by (is_it (i.flags_of (rows.of_flag x)).weak x) refl
    where
      by : (b : Bool) → is_it (i.flags_of (rows.of_flag x)).weak x ≡ b → IsWeakFlag x ⊎ ¬ IsWeakFlag x
      by true is = inl (it_is (i.flags_of (rows.of_flag x)).weak x is)
      by false is = inr (λ weak. let wrong : true ≡ false = sym (is_it_self (i.flags_of (rows.of_flag x)).weak x weak) ∙ is in absurd cc)

  -- all other flags are written at their usual stages
  abbrev pub AreUsual : FlagStages c rules core_rules → Type 0
  AreUsual stages = (x : ℕ) → IsWeakFlag x ⊎ (stages.written_at x ≡ stage_of_write c rules core_rules x)

  pub usual_are : AreUsual (usual c rules core_rules)
  usual_are x = inr refl

  pub early_are : (early : List ℕ) → AreUsual (early_stages c rules core_rules early)
  early_are early x = by (is_early c rules core_rules early x) refl
    where
      by : (b : Bool) → is_early c rules core_rules early x ≡ b →
          IsWeakFlag x ⊎ (staged c rules core_rules early b x ≡ stage_of_write c rules core_rules x)
      by true is =
          let some : (u : ℕ) × (is_it (i.flags_of u).weak x ≡ true) = any_found (λ s. is_it (i.flags_of s).weak x) early is in
          inl (weak_flag_of some.0 x (it_is (i.flags_of some.0).weak x some.1))
      by false is = inr refl

  -- what is known of the configurations of the core chart
  pub record KnowsLooks (Sound : Configuration → Type 0) : Type 0 where
    pub kept : (d e : Configuration) (t : ℕ) → Sound d → step core t d ≡ Some e → Sound e
    -- who waits looks at a weak flag
    pub looks_at : (d e : Configuration) (t : ℕ) → Sound d → step core t d ≡ Some e → is_waiting core looks (standing_of d t) ≡ true →
        (u : ℕ) × (x : ℕ) × ((i.flags_of u).weak ≡ Some x) × Reads (access_of (standing_of d t)) x
    -- nobody else reads one but the thread of the region that holds its superstate
    pub reads_home : (d : Configuration) (t u x : ℕ) → Sound d → (i.flags_of u).weak ≡ Some x → is_waiting core looks (standing_of d t) ≡ false →
        Reads (access_of (standing_of d t)) x → t ≡ holder core (i.main_of u)

  -- ---- an entry, with looks silenced

  abbrev pub silenced : Configuration → ℕ → Access → Access
  silenced d t a = if is_waiting core looks (standing_of d t) then no_access else a

  abbrev pub quiet : Configuration → Entry → Entry
  quiet d (Silent t at a) = Silent t at (silenced d t a)
  quiet d (Image r a) = Image r a
  quiet d (Watched r g stage a) = Watched r g stage a

  -- what touches nothing fits
  no_flags : (t : ℕ) (at : Option (ℕ × ℕ)) → IsSilentFreely corr IsWeakFlag t at no_access
  no_flags t at =
      record {
        flags = λ x touched. absurd (untouched x touched);
        inits = λ x w. let some = w.1 in absurd cc;
        updates = λ x f w. let some = w in absurd cc;
        reads = λ x r. absurd (none_in x r);
      }
    where
      untouched : (x : ℕ) → Touches no_access x → ⊥
      untouched x (inl r) = none_in x r
      untouched x (inr (inl w)) = let some = w.1 in absurd cc
      untouched x (inr (inr w)) = let some = w.1 in absurd cc

  module _ (Sound : Configuration → Type 0) (knows : KnowsLooks Sound) (stages : FlagStages c rules core_rules) (are : AreUsual stages) where
    module _ (t : ℕ) (at : Option (ℕ × ℕ)) (a : Access) (fits : IsSilent (corr_at stages) t at a)
        (home : (x : ℕ) → IsWeakFlag x → Reads a x → t ≡ corr.home x) where
      inits_freely : (x : ℕ) → InitsFlag (corr_at stages) t at x → InitsFreely corr IsWeakFlag t at x
      inits_freely x (inl e) = inl e
      inits_freely x (inr w) =
          inr (w.0, w.1, ⊎_elim (λ free. inl free) (λ same. inr (w.2 ∙ ap (λ (n : ℕ). Some (corr.home x, n)) same)) (are x))

      updates_freely : (x : ℕ) (f : Combination) → UpdatesFlag (corr_at stages) t at x f → UpdatesFlag corr t at x f
      updates_freely x f w =
          (w.0, w.1, w.2, ⊎_elim weak (λ same. w.3 ∙ ap (λ (n : ℕ). Some (corr.home x, n)) same) (are x))
        where
          weak : IsWeakFlag x → at ≡ Some (corr.home x, corr.written_at x)
          weak is = let wrong : true ≡ false = sym w.0 ∙ (counter_rows c rules core_rules).weak_not (rows.of_flag x) x is in absurd cc

      reads_freely : (x : ℕ) → Reads a x → ReadsFlag (corr_at stages) t at x → ReadsFreely corr IsWeakFlag t at x
      reads_freely x read (inl e) = inl e
      reads_freely x read (inr w) =
          ⊎_elim (λ free. inl (home x free read))
          (λ bound.
          ⊎_elim (λ free. absurd (bound free))
          (λ same. inr (by_reader w.0, (w.1.0, w.1.1, subst (λ n. n < w.1.0) same w.1.2), bound)) (are x))
          (weak_or_not x)
        where
          by_reader : ((corr.counts x ≡ true) × (t ≡ corr.watcher x)) ⊎ ((corr.counts x ≡ false) × corr.Within t x) →
              ((corr.counts x ≡ true) × (t ≡ corr.watcher x)) ⊎ ((corr.counts x ≡ false) × corr.Within t x)
          by_reader r = r

      silent_freely : IsSilentFreely corr IsWeakFlag t at a
      silent_freely =
          record {
            flags = fits.flags;
            inits = λ x w. inits_freely x (fits.inits x w);
            updates = λ x f w. updates_freely x f (fits.updates x f w);
            reads = λ x r. reads_freely x r (fits.reads x r);
          }

    module _ (d e : Configuration) (sound : Sound d) where
      -- who waits touches a flag, and so does nothing that the chart does
      never_waits : (t : ℕ) (a : Access) → step core t d ≡ Some e → a ≡ access_of (standing_of d t) →
          ((x : ℕ) → Touches a x → x < length k.variables) → (b : Bool) → is_waiting core looks (standing_of d t) ≡ b → b ≡ false
      never_waits t a steps acts own false waits = refl
      never_waits t a steps acts own true waits =
          let look = knows.looks_at d e t sound steps waits in
          let lt : look.1 < length k.variables = own look.1 (inl (subst (λ z. Reads z look.1) (sym acts) look.3)) in
          let added : length k.variables ≤ look.1 = rows.weak_added look.0 look.1 look.2 in
          absurd (omega (lt, added, arith))

      pub quiet_fits : (y : Entry) → Fits (corr_at stages) y → core_act (corr_at stages) y ≡ act_of (machine core) d (core_act (corr_at stages) y).thread →
          FitsFreely corr IsWeakFlag (quiet d y)
      quiet_fits (Image r a) fits acts = fits
      quiet_fits (Watched r g stage a) fits acts =
          record { watches = fits.watches; staged = fits.staged; writes_nothing = fits.writes_nothing; no_flags = fits.no_flags }
      quiet_fits (Silent t at a) fits acts = by (is_waiting core looks (standing_of d t)) refl
        where
          is : a ≡ access_of (standing_of d t)
          is = ap (λ (z : Act). z.access) acts

          home : is_waiting core looks (standing_of d t) ≡ false → (x : ℕ) → IsWeakFlag x → Reads a x → t ≡ corr.home x
          home waits x weak read = knows.reads_home d t (rows.of_flag x) x sound weak waits (subst (λ z. Reads z x) is read)

          by : (b : Bool) → is_waiting core looks (standing_of d t) ≡ b → IsSilentFreely corr IsWeakFlag t at (if b then no_access else a)
          by true waits = no_flags t at
          by false waits = silent_freely t at a fits (home waits)

      pub quiet_acts : (y : Entry) → Fits (corr_at stages) y → step core (core_act (corr_at stages) y).thread d ≡ Some e →
          core_act (corr_at stages) y ≡ act_of (machine core) d (core_act (corr_at stages) y).thread →
          core_act corr (quiet d y) ≡ act_of (quiet_machine core looks) d (core_act corr (quiet d y)).thread
      quiet_acts (Image r a) fits steps acts =
          ap (λ (z : Access). record { thread = i.thread_of r; access = z })
          (is
          ∙ sym (ap (λ b. if b then no_access else access_of (standing_of d (i.thread_of r)))
          (never_waits (i.thread_of r) a steps is fits (is_waiting core looks (standing_of d (i.thread_of r))) refl)))
        where
          is : a ≡ access_of (standing_of d (i.thread_of r))
          is = ap (λ (z : Act). z.access) acts
      quiet_acts (Watched r g stage a) fits steps acts =
          ap (λ (z : Access). record { thread = g; access = z })
          (is
          ∙ sym (ap (λ b. if b then no_access else access_of (standing_of d g))
          (never_waits g a steps is fits.no_flags (is_waiting core looks (standing_of d g)) refl)))
        where
          is : a ≡ access_of (standing_of d g)
          is = ap (λ (z : Act). z.access) acts
      quiet_acts (Silent t at a) fits steps acts =
          ap (λ (z : Access). record { thread = t; access = silenced d t z }) (ap (λ (z : Act). z.access) acts)
