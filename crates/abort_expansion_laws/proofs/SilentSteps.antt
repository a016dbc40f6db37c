-- Steps of the core that stand for none of the chart, one after the other, by the stage that is reached for one thread.
use Rattle.std.proofs.Common.{◌≡◌, ◌≢◌, ℕ, ◌≤◌, Option, Some, None, List, [], ◌∷◌, refl, sym, ap, arith}
use Rattle.std.proofs.lemmas.Option.{same_Some}
use Rattle.sc_values.specs.Access.{Access}
use Rattle.sc_values.specs.Runs.{Machine}
use Rattle.abort_expansion_laws.specs.Stages.{Entry, Silent, Correspondence, IsSilent, Climbs}
use Rattle.abort_expansion_laws.proofs.Supplying.{climbs_step}
use Rattle.abort_expansion_laws.proofs.Segments.{Segment}

-- for one thread stages up to n are reached, for the others these
abbrev pub AtHome : (ℕ → ℕ → Type 0) → ℕ → ℕ → ℕ → ℕ → Type 0
AtHome Others home n h s = (h ≢ home → Others h s) × (h ≡ home → s ≤ n)

module _ (k : Correspondence) (Others : ℕ → ℕ → Type 0) (home : ℕ) where
  -- a step at a stage that is not below
  pub climbs_at : (n m t : ℕ) (a : Access) (rest : List Entry) → n ≤ m → Climbs k (AtHome Others home m) rest →
      Climbs k (AtHome Others home n) (Silent t (Some (home, m)) a ∷ rest)
  climbs_at n m t a rest le climbs =
      climbs_step k (AtHome Others home n) (AtHome Others home m) (Silent t (Some (home, m)) a) rest own
      (λ h s ne before. (before.0, λ e. let low = before.1 e in omega (low, le, arith))) climbs
    where
      own : (h s : ℕ) → ◌≡◌ {A = Option (ℕ × ℕ)} (Some (home, m)) (Some (h, s)) → ((u : ℕ) → AtHome Others home n h u → u ≤ s) × AtHome Others home m h s
      own h s e =
          let pair : ◌≡◌ {A = ℕ × ℕ} (home, m) (h, s) = same_Some (home, m) (h, s) e in
          let here : home ≡ h = ap (λ z. z.0) pair in
          let stage : m ≡ s = ap (λ z. z.1) pair in (
            λ u before. let low = before.1 (sym here) in omega (low, le, stage, arith),
            (λ ne. absurd (ne (sym here)), λ f. omega (stage, arith)),
          )

  -- a step at no stage
  pub climbs_over : (n t : ℕ) (a : Access) (rest : List Entry) → Climbs k (AtHome Others home n) rest → Climbs k (AtHome Others home n) (Silent t None a ∷ rest)
  climbs_over n t a rest climbs =
      climbs_step k (AtHome Others home n) (AtHome Others home n) (Silent t None a) rest (λ h s e. absurd (cc)) (λ h s ne before. before) climbs

  -- a step of the thread itself: its stages begin anew
  pub climbs_home : (n : ℕ) (a : Access) (rest : List Entry) → Climbs k (AtHome Others home 0) rest →
      Climbs k (AtHome Others home n) (Silent home None a ∷ rest)
  climbs_home n a rest climbs =
      climbs_step k (AtHome Others home n) (AtHome Others home 0) (Silent home None a) rest (λ h s e. absurd (cc))
      (λ h s ne before. (before.0, λ e. absurd (ne (sym e)))) climbs

-- one such step as a part of the core's run
module _ (n : Machine) (k : Correspondence) (Told : n.Configuration → Entry → Type 0)
    (told : (d : n.Configuration) (t : ℕ) (at : Option (ℕ × ℕ)) (a : Access) → Told d (Silent t at a)) where
  pub silent_step : (d e : n.Configuration) (t : ℕ) (at : Option (ℕ × ℕ)) (a : Access) (Before After : ℕ → ℕ → Type 0) (Reaches : n.Configuration → Type 0) →
      n.step t d ≡ Some e → n.access d t ≡ a → IsSilent k t at a → ((rest : List Entry) → Climbs k After rest → Climbs k Before (Silent t at a ∷ rest)) →
      Reaches e →
      Segment n k Told d Before (λ last. After) [] Reaches
  silent_step d e t at a Before After Reaches steps accesses fits climbs reaches =
      record {
        log = Silent t at a ∷ [];
        last = e;
        follows = (ap (λ x. record { thread = t; access = x }) (sym accesses), told d t at a, (e, steps, refl));
        charted = refl;
        fits = (fits, tt);
        climbs = climbs;
        reaches = reaches;
      }

  -- none at all
  pub no_step : (d : n.Configuration) (Before : ℕ → ℕ → Type 0) (Reaches : n.Configuration → Type 0) → Reaches d →
      Segment n k Told d Before (λ last. Before) [] Reaches
  no_step d Before Reaches reaches =
      record { log = []; last = d; follows = refl; charted = refl; fits = tt; climbs = λ rest climbs. climbs; reaches = reaches }
