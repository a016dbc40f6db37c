-- The core's log is admissible where the chart's is, and stages never fall. At which stage flags are written that only their holder reads is free.
use Rattle.std.proofs.Common.{◌≡◌, ◌≢◌, ℕ, ◌<◌, ◌≤◌, ◌⊎◌, List, [], ◌∷◌, refl, sym, ap, subst, ◌∙◌, arith, inl, inr, Option, Some}
use Rattle.std.proofs.lemmas.Bool.{cases_eq}
use Rattle.sc_values.specs.declared.operator.Combination.{Combination}
use Rattle.sc_values.specs.Access.{Access, Nothing, Precedes, init_update, init_read, update_read, Clash, two_inits, two_updates, MayPrecede}
use Rattle.sc_values.specs.Runs.{IsOrdered}
use Rattle.sc_values.proofs.Order.{Clear, EachIsOpen, Orderly, admissible_from_orderly, orderly_from_admissible}
use Rattle.abort_expansion_laws.specs.Stages.{Entry, Image, Watched, Silent, Correspondence, IsCorrespondence, Meet, Inner, core_act, core_log, chart_log}
use Rattle.abort_expansion_laws.specs.Stages.{Touches, UpdatesFlag, ReaderOf, EachFits, HasStage, ReachedAfter, Climbs}
use Rattle.abort_expansion_laws.specs.Stages.{NoneReached, Overwrites, IsSpared, EachSpared}
use Rattle.abort_expansion_laws.proofs.Commuting.{plain_second, plain_first, sharing_none}
use Rattle.abort_expansion_laws.proofs.FreeFlags.{InitsFreely, ReadsFreely, IsSilentFreely, FitsFreely, EachFitsFreely, NoneFree, each_fits_none}

module _ (k : Correspondence) (is : IsCorrespondence k) (IsFree : ℕ → Type 0) where
  abbrev Closed : Entry → (ℕ → Type 0) → ℕ → Type 0
  Closed y IsOpen t = IsOpen t × ((core_act k y).thread ≢ t)

  -- after stage 2 nothing inside steps
  late_spares : (r : ℕ) (a : Access) (Reached : ℕ → ℕ → Type 0) (log : List Entry) → Climbs k Reached log → Reached (k.thread_of r) 2 → IsSpared k r a log
  late_spares r a Reached [] climbs late = tt
  late_spares r a Reached (y ∷ log) climbs late = (
    none y climbs.0,
    λ ne. late_spares r a (ReachedAfter k y Reached) log climbs.1 (inl (late, ne)),
  )
    where
      none : (y : Entry) → ((h s s' : ℕ) → Reached h s → HasStage k y h s' → s ≤ s') → ¬ Overwrites k r a y
      none (Image q b) first o = let wrong : 2 ≤ 1 = first (k.thread_of r) 2 1 late (r, o.0, refl, refl) in absurd (omega (wrong, arith))
      none (Watched q g stage b) first o = o
      none (Silent t at b) first o = o

  -- what is known, as a log goes on, of the step of region r by which it began: for each region a round it, as long as its thread has taken no step,
  -- the inside has had the turn, and either the chart's log has no step of a either, or the inside doesn't get the turn again
  abbrev Kept : ℕ → (ℕ → Type 0) → (ℕ → Type 0) → (ℕ → ℕ → Type 0) → Type 0
  Kept r InChart InCore Reached = (a : ℕ) → k.Inside r a → InCore (k.thread_of a) → (InChart a × Reached (k.thread_of a) 1) ⊎ Reached (k.thread_of a) 2

  -- a step of region r, by its thread or its watcher, may precede all that come after it
  module _ (r t : ℕ) (a : Access) (Watching : Type 0)
      (apart : (q b : ℕ) → k.CoreApart t (k.thread_of q) b → (Watching × ((b ≡ k.thread_of r) × k.Inside q r)) ⊎ Meet k r q b)
      (plain : Watching → a.writes ≡ Nothing) (own : (x : ℕ) → Touches a x → x < k.declared) where
    clear_after : (log : List Entry) (InChart InCore : ℕ → Type 0) (Reached : ℕ → ℕ → Type 0) → EachFitsFreely k IsFree log →
        Clear k.ChartApart (record { thread = r; access = a }) InChart (chart_log log) → Climbs k Reached log → Kept r InChart InCore Reached →
        (Watching → InCore (k.thread_of r) → IsSpared k r a log) → Clear k.CoreApart (record { thread = t; access = a }) InCore (core_log k log)
    clear_after [] InChart InCore Reached fits clear climbs kept spared = tt
    clear_after (Image q b ∷ log) InChart InCore Reached fits clear climbs kept spared = (
      λ c met is_open. by_apart c is_open (apart q c met),
      clear_after log (λ h. InChart h × (q ≢ h)) (Closed (Image q b) InCore) (ReachedAfter k (Image q b) Reached) fits.1 clear.1 climbs.1
          (λ h inside is_open. still h is_open (kept h inside is_open.0)) (λ w is_open. (spared w is_open.0).1 is_open.1),
    )
      where
        by_kept : (h : ℕ) → k.ChartApart r q h → (InChart h × Reached (k.thread_of h) 1) ⊎ Reached (k.thread_of h) 2 → MayPrecede a b
        by_kept h met (inl here) = clear.0 h met here.0
        by_kept h met (inr late) =
            let wrong : 2 ≤ 1 = climbs.0 (k.thread_of h) 2 1 late (h, (is.apart_inside r q h met).1, refl, refl) in absurd (omega (wrong, arith))

        by_apart : (c : ℕ) → InCore c → (Watching × ((c ≡ k.thread_of r) × k.Inside q r)) ⊎ Meet k r q c → MayPrecede a b
        by_apart c is_open (inl w) = plain_first a b (plain w.0) (λ p. (spared w.0 (subst InCore w.1.0 is_open)).0 (w.1.1, p))
        by_apart c is_open (inr met) = by_kept met.0 met.2 (kept met.0 (is.apart_inside r q met.0 met.2).0 (subst InCore met.1 is_open))

        still : (h : ℕ) → Closed (Image q b) InCore (k.thread_of h) → (InChart h × Reached (k.thread_of h) 1) ⊎ Reached (k.thread_of h) 2 →
            ((InChart h × (q ≢ h)) × ReachedAfter k (Image q b) Reached (k.thread_of h) 1) ⊎ ReachedAfter k (Image q b) Reached (k.thread_of h) 2
        still h is_open (inl here) = inl ((here.0, λ e. is_open.1 (ap k.thread_of e)), inl (here.1, is_open.1))
        still h is_open (inr late) = inr (inl (late, is_open.1))
    clear_after (Watched q g stage b ∷ log) InChart InCore Reached fits clear climbs kept spared = (
      λ c met is_open. plain_second a b fits.0.writes_nothing,
      clear_after log (λ h. InChart h × (q ≢ h)) (Closed (Watched q g stage b) InCore) (ReachedAfter k (Watched q g stage b) Reached) fits.1 clear.1 climbs.1
          (λ h inside is_open. still h is_open (kept h inside is_open.0) (cases_eq q h)) (λ w is_open. (spared w is_open.0).1 is_open.1),
    )
      where
        After : ℕ → ℕ → Type 0
        After = ReachedAfter k (Watched q g stage b) Reached

        late : (h : ℕ) → q ≡ h → Reached (k.thread_of h) 1 → (stage ≡ 0) ⊎ (stage ≡ 2) → After (k.thread_of h) 2
        late h e first (inl zero_stage) =
            let wrong : 1 ≤ stage = climbs.0 (k.thread_of h) 1 stage first (inl (ap k.thread_of (sym e), refl)) in absurd (omega (wrong, zero_stage, arith))
        late h e first (inr two) = inr (inl (ap k.thread_of (sym e), sym two))

        still : (h : ℕ) → Closed (Watched q g stage b) InCore (k.thread_of h) → (InChart h × Reached (k.thread_of h) 1) ⊎ Reached (k.thread_of h) 2 →
            (q ≡ h) ⊎ (q ≢ h) → ((InChart h × (q ≢ h)) × After (k.thread_of h) 1) ⊎ After (k.thread_of h) 2
        still h is_open (inl here) (inl e) = inr (late h e here.1 fits.0.staged)
        still h is_open (inl here) (inr ne) = inl ((here.0, ne), inl (here.1, is_open.1))
        still h is_open (inr later) same = inr (inl (later, is_open.1))
    clear_after (Silent u at b ∷ log) InChart InCore Reached fits clear climbs kept spared = (
      λ c met is_open. sharing_none a b (λ x mine flag. let m = own x mine in let n = fits.0.flags x flag in absurd (omega (m, n, arith))),
      clear_after log InChart (Closed (Silent u at b) InCore) (ReachedAfter k (Silent u at b) Reached) fits.1 clear climbs.1
          (λ h inside is_open. still h is_open (kept h inside is_open.0)) (λ w is_open. (spared w is_open.0).1 is_open.1),
    )
      where
        After : ℕ → ℕ → Type 0
        After = ReachedAfter k (Silent u at b) Reached

        still : (h : ℕ) → Closed (Silent u at b) InCore (k.thread_of h) → (InChart h × Reached (k.thread_of h) 1) ⊎ Reached (k.thread_of h) 2 →
            (InChart h × After (k.thread_of h) 1) ⊎ After (k.thread_of h) 2
        still h is_open (inl here) = inl (here.0, inl (here.1, is_open.1))
        still h is_open (inr late) = inr (inl (late, is_open.1))

  -- ---- flags

  -- nobody who touches a flag is forked apart from its holder
  no_home : (x t u c : ℕ) → k.CoreApart t u c → t ≡ k.home x → (u ≡ k.home x) ⊎ Inner k x u → ⊥
  no_home x t u c met e (inl also) = is.not_from_itself t c (subst (λ v. k.CoreApart t v c) (also ∙ sym e) met)
  no_home x t u c met e (inr inner) = is.not_from_home x u c inner (subst (λ v. k.CoreApart v u c) e met)

  inits_inner : (t : ℕ) (at : Option (ℕ × ℕ)) (x : ℕ) → InitsFreely k IsFree t at x → (t ≡ k.home x) ⊎ Inner k x t
  inits_inner t at x (inl e) = inl e
  inits_inner t at x (inr w) = inr (inl w.1)

  reader_inner : (t x : ℕ) → ReaderOf k t x → Inner k x t
  reader_inner t x (inl w) = inl w.1
  reader_inner t x (inr w) = inr w.1

  reads_inner : (t : ℕ) (at : Option (ℕ × ℕ)) (x : ℕ) → ReadsFreely k IsFree t at x → (t ≡ k.home x) ⊎ Inner k x t
  reads_inner t at x (inl e) = inl e
  reads_inner t at x (inr w) = inr (reader_inner t x w.0)

  -- two steps without counterpart, the first of which is seen by the second: it may precede it
  module _ (t u c : ℕ) (at at' : Option (ℕ × ℕ)) (a b : Access) (first : IsSilentFreely k IsFree t at a) (second : IsSilentFreely k IsFree u at' b)
      (met : k.CoreApart t u c) (climbs : (h s s' : ℕ) → c ≡ h → at ≡ Some (h, s) → at' ≡ Some (h, s') → s ≤ s') where
    back : k.CoreApart u t c
    back = is.swapped t u c met

    -- whoever reads a flag comes after its write
    falls : (x s : ℕ) → c ≡ k.home x → at ≡ Some (k.home x, s) → k.written_at x < s → at' ≡ Some (k.home x, k.written_at x) → ⊥
    falls x s e mine after its = let wrong : s ≤ k.written_at x = climbs (k.home x) s (k.written_at x) e mine its in absurd (omega (wrong, after, arith))

    no_init_read : (x : ℕ) → InitsFreely k IsFree u at' x → ReadsFreely k IsFree t at x → ⊥
    no_init_read x (inl e) r = no_home x u t c back e (reads_inner t at x r)
    no_init_read x (inr w) (inl e) = no_home x t u c met e (inr (inl w.1))
    no_init_read x (inr w) (inr (inl v, s, bound)) = let one = w.0 in let other = v.0 in absurd (cc)
    no_init_read x (inr (plain, mine, inl free)) (inr (inr v, s, bound)) = bound free
    no_init_read x (inr (plain, mine, inr staged)) (inr (inr v, s, bound)) =
        falls x s.0 (is.watcher_by_home x t c v.1 (subst (λ z. k.CoreApart z t c) mine back)) s.1 s.2 staged

    no_update_read : (x : ℕ) (f : Combination) → UpdatesFlag k u at' x f → ReadsFreely k IsFree t at x → ⊥
    no_update_read x f w (inl e) = no_home x t u c met e (inr (inr w.2))
    no_update_read x f w (inr (inl v, s, bound)) =
        falls x s.0 (is.watcher_by_home x u c w.2 (subst (λ z. k.CoreApart z u c) v.1 met)) s.1 s.2 w.3
    no_update_read x f w (inr (inr v, s, bound)) = let one = w.0 in let other = v.0 in absurd (cc)

    no_init_update : (x : ℕ) (f : Combination) → InitsFreely k IsFree u at' x → UpdatesFlag k t at x f → ⊥
    no_init_update x f (inl e) w = no_home x u t c back e (inr (inr w.2))
    no_init_update x f (inr v) w = let one = w.0 in let other = v.0 in absurd (cc)

    no_two_inits : (x : ℕ) → InitsFreely k IsFree t at x → InitsFreely k IsFree u at' x → ⊥
    no_two_inits x (inl e) j = no_home x t u c met e (inits_inner u at' x j)
    no_two_inits x i (inl e) = no_home x u t c back e (inits_inner t at x i)
    no_two_inits x (inr v) (inr w) = is.not_from_itself t c (subst (λ z. k.CoreApart t z c) (w.1 ∙ sym v.1) met)

    flags_order : ¬ Precedes b a
    flags_order (init_update x f i w) = no_init_update x f (second.inits x i) (first.updates x f w)
    flags_order (init_read x i r) = no_init_read x (second.inits x i) (first.reads x r)
    flags_order (update_read x f w r) = no_update_read x f (second.updates x f w) (first.reads x r)

    flags_clash : ¬ Clash a b
    flags_clash (two_inits x i j unlike) = no_two_inits x (first.inits x i) (second.inits x j)
    flags_clash (two_updates x f g i j ne) = ne ((first.updates x f i).1 ∙ sym (second.updates x g j).1)

    flags_may : MayPrecede a b
    flags_may = record { no_order = flags_order; no_clash = flags_clash }

  -- a step without counterpart may precede all that come after it
  silent_after : (t : ℕ) (at : Option (ℕ × ℕ)) (a : Access) → IsSilentFreely k IsFree t at a → (log : List Entry) (InCore : ℕ → Type 0)
      (Reached : ℕ → ℕ → Type 0) → EachFitsFreely k IsFree log → Climbs k Reached log → ((h s : ℕ) → at ≡ Some (h, s) → InCore h → Reached h s) →
      Clear k.CoreApart (record { thread = t; access = a }) InCore (core_log k log)
  silent_after t at a fit [] InCore Reached fits climbs seen = tt
  silent_after t at a fit (y ∷ log) InCore Reached fits climbs seen = (
    λ c met is_open. by_entry y fits.0 climbs.0 c met is_open,
    silent_after t at a fit log (Closed y InCore) (ReachedAfter k y Reached) fits.1 climbs.1 (λ h s e is_open. inl (seen h s e is_open.0, is_open.1)),
  )
    where
      apart_from : (b : Access) → ((x : ℕ) → Touches b x → x < k.declared) → MayPrecede a b
      apart_from b own = sharing_none a b (λ x flag its. let m = own x its in let n = fit.flags x flag in absurd (omega (m, n, arith)))

      by_entry : (y : Entry) → FitsFreely k IsFree y → ((h s s' : ℕ) → Reached h s → HasStage k y h s' → s ≤ s') → (c : ℕ) →
          k.CoreApart t (core_act k y).thread c → InCore c → MayPrecede a (core_act k y).access
      by_entry (Image q b) its first c met is_open = apart_from b its
      by_entry (Watched q g stage b) its first c met is_open = plain_second a b its.writes_nothing
      by_entry (Silent u at' b) its first c met is_open =
          flags_may t u c at at' a b fit its met (λ h s s' e mine other. first h s s' (seen h s mine (subst InCore e is_open)) other)

  -- ---- all steps

  core_orderly : (log : List Entry) (Reached : ℕ → ℕ → Type 0) → EachFitsFreely k IsFree log → EachSpared k log → Climbs k Reached log →
      Orderly k.ChartApart (chart_log log) → Orderly k.CoreApart (core_log k log)
  core_orderly [] Reached fits spared climbs orderly = tt
  core_orderly (Image r a ∷ log) Reached fits spared climbs orderly = (
    clear_after r (k.thread_of r) a ⊥ (λ q b met. inr (is.regions_apart r q b met)) (λ w. absurd w) fits.0 log EachIsOpen EachIsOpen
        (ReachedAfter k (Image r a) Reached) fits.1 orderly.0 climbs.1
        (λ h inside _. inl (tt, inr (h, inside, refl, refl))) (λ w. absurd w),
    core_orderly log (ReachedAfter k (Image r a) Reached) fits.1 spared climbs.1 orderly.1,
  )
  core_orderly (Watched r g stage a ∷ log) Reached fits spared climbs orderly = (
    clear_after r g a (Unit {0}) (λ q b met. by_home q b (is.watcher_apart g r q b fits.0.watches met)) (λ w. fits.0.writes_nothing) fits.0.no_flags log
        EachIsOpen EachIsOpen
        (ReachedAfter k (Watched r g stage a) Reached) fits.1 orderly.0 climbs.1
        (λ h inside _. inl (tt, inr (inr (h, inside, refl, refl)))) (λ w _. by_stage fits.0.staged),
    core_orderly log (ReachedAfter k (Watched r g stage a) Reached) fits.1 spared.1 climbs.1 orderly.1,
  )
    where
      by_home : (q b : ℕ) → ((b ≡ k.thread_of r) × k.Inside q r) ⊎ Meet k r q b → (Unit {0} × ((b ≡ k.thread_of r) × k.Inside q r)) ⊎ Meet k r q b
      by_home q b (inl here) = inl (tt, here)
      by_home q b (inr met) = inr met

      by_stage : (stage ≡ 0) ⊎ (stage ≡ 2) → IsSpared k r a log
      by_stage (inl e) = spared.0 e
      by_stage (inr e) = late_spares r a (ReachedAfter k (Watched r g stage a) Reached) log climbs.1 (inr (inl (refl, sym e)))
  core_orderly (Silent t at a ∷ log) Reached fits spared climbs orderly = (
    silent_after t at a fits.0 log EachIsOpen (ReachedAfter k (Silent t at a) Reached) fits.1 climbs.1 (λ h s e _. inr e),
    core_orderly log (ReachedAfter k (Silent t at a) Reached) fits.1 spared climbs.1 orderly,
  )

  -- the core's log is admissible where the chart's is
  pub stages_kept_freely : (log : List Entry) → EachFitsFreely k IsFree log → EachSpared k log → Climbs k NoneReached log →
      IsOrdered k.ChartApart (chart_log log) → IsOrdered k.CoreApart (core_log k log)
  stages_kept_freely log fits spared climbs ordered =
      admissible_from_orderly k.CoreApart (core_log k log)
      (core_orderly log NoneReached fits spared climbs (orderly_from_admissible k.ChartApart (chart_log log) ordered))

-- so it is where no stage is free
pub stages_kept : (k : Correspondence) → IsCorrespondence k → (log : List Entry) → EachFits k log → EachSpared k log → Climbs k NoneReached log →
    IsOrdered k.ChartApart (chart_log log) → IsOrdered k.CoreApart (core_log k log)
stages_kept k is log fits spared climbs ordered = stages_kept_freely k is NoneFree log (each_fits_none k log fits) spared climbs ordered
