-- A part of a core chart's run that stands for a step of a region has a step of the region's thread, where it leads to no higher stage than that
-- of the inside.
use Rattle.std.proofs.Common.{◌≡◌, ℕ, ◌≤◌, ⊎_elim, inl, inr, Option, Some, List, [], ◌∷◌, ◌++◌, Contains, refl, sym, ap, subst, ◌∙◌, arith}
use Rattle.std.proofs.lemmas.Option.{same_Some}
use Rattle.sc_values.specs.Access.{no_access}
use Rattle.sc_values.specs.Runs.{Act}
use Rattle.tick_laws.proofs.Lists.{same_or_not, contains_head, contains_tail}
use Rattle.abort_expansion_laws.specs.Segments.{threads}
use Rattle.abort_expansion_laws.specs.Stages.{Entry, Image, Watched, Silent, Correspondence, core_act, chart_log, EachFits, ReachedAfter, Climbs}

first_of : (a b : Act) (xs ys : List Act) → a ∷ xs ≡ b ∷ ys → a ≡ b
first_of a b xs ys same = cc

module _ (corr : Correspondence) (r : ℕ) where
  abbrev own : ℕ
  own = corr.thread_of r

  -- as if somebody inside then touched a flag
  abbrev pub touched : List Entry
  touched = Silent 0 (Some (corr.thread_of r, 1)) no_access ∷ []

  pub touched_climbs : (Reached : ℕ → ℕ → Type 0) → ((s : ℕ) → Reached (corr.thread_of r) s → s ≤ 1) → Climbs corr Reached touched
  touched_climbs Reached low = (climbs, tt)
    where
      climbs : (h s s' : ℕ) → Reached h s → ◌≡◌ {A = Option (ℕ × ℕ)} (Some (corr.thread_of r, 1)) (Some (h, s')) → s ≤ s'
      climbs h s s' before is =
          let inner : ℕ × ℕ = (corr.thread_of r, 1) in
          let its : ℕ × ℕ = (h, s') in
          let both : inner ≡ its = same_Some inner its is in
          let thread : corr.thread_of r ≡ h = ap (λ (z : ℕ × ℕ). z.0) both in
          let stage : 1 ≡ s' = ap (λ (z : ℕ × ℕ). z.1) both in
          subst (λ n. s ≤ n) stage (low s (subst (λ g. Reached g s) (sym thread) before))

  -- a weak test of the superstate's own monitor is behind all that happens inside
  behind_monitor : (log : List Entry) (Reached : ℕ → ℕ → Type 0) → Reached own 2 → Climbs corr Reached (log ++ touched) → Contains (threads corr log) own
  behind_monitor [] Reached reached climbs = let wrong : 2 ≤ 1 = climbs.0 own 2 1 reached refl in absurd (omega (wrong, arith))
  behind_monitor (y ∷ log) Reached reached climbs =
      ⊎_elim (λ same. subst (Contains ((core_act corr y).thread ∷ threads corr log)) same (contains_head (core_act corr y).thread (threads corr log)))
      (λ other. contains_tail (core_act corr y).thread own (threads corr log)
      (behind_monitor log (ReachedAfter corr y Reached) (inl (reached, other)) climbs.1))
      (same_or_not (core_act corr y).thread own)

  pub has_own_step : (act : Act) → act.thread ≡ r → (log : List Entry) (Reached : ℕ → ℕ → Type 0) → Reached (corr.thread_of r) 1 →
      Climbs corr Reached (log ++ touched) → EachFits corr log → chart_log log ≡ act ∷ [] → Contains (threads corr log) (corr.thread_of r)
  has_own_step act is [] Reached reached climbs fits charted = let none : [] ≡ act ∷ [] = charted in absurd cc
  has_own_step act is (Image q a ∷ log) Reached reached climbs fits charted =
      let same : record { thread = q; access = a } ≡ act = first_of (record { thread = q; access = a }) act (chart_log log) [] charted in
      let region : q ≡ r = ap (λ (z : Act). z.thread) same ∙ is in
      subst (Contains (corr.thread_of q ∷ threads corr log)) (ap corr.thread_of region) (contains_head (corr.thread_of q) (threads corr log))
  has_own_step act is (Watched q g stage a ∷ log) Reached reached climbs fits charted =
      let same : record { thread = q; access = a } ≡ act = first_of (record { thread = q; access = a }) act (chart_log log) [] charted in
      let home : own ≡ corr.thread_of q = ap corr.thread_of (sym (ap (λ (z : Act). z.thread) same ∙ is)) in
      ⊎_elim
      (λ strong. let wrong : 1 ≤ stage = climbs.0 own 1 stage reached (inl (home, refl)) in absurd (omega (wrong, strong, arith)))
      (λ weak. contains_tail g own (threads corr log)
      (behind_monitor log (ReachedAfter corr (Watched q g stage a) Reached) (inr (inl (home, sym weak))) climbs.1))
      fits.0.staged
  has_own_step act is (Silent t at_stage a ∷ log) Reached reached climbs fits charted =
      ⊎_elim (λ same. subst (Contains (t ∷ threads corr log)) same (contains_head t (threads corr log)))
      (λ other. contains_tail t own (threads corr log)
      (has_own_step act is log (ReachedAfter corr (Silent t at_stage a) Reached) (inl (reached, other)) climbs.1 fits.1 charted))
      (same_or_not t own)
