-- What a simulation uses to supply the hypotheses on a log, one step after the other.
use Rattle.std.proofs.Common.{◌≡◌, ◌≢◌, ℕ, zero, suc, ◌<◌, ◌≤◌, List, [], ◌∷◌, subst, arith, inl, inr, Option, Some, Contains}
use Rattle.std.specs.Prelude.{slice_index_or}
use Rattle.sc_values.specs.declared.value.Value.{Value}
use Rattle.sc_values.specs.declared.operator.Combination.{Combination}
use Rattle.sc_values.specs.Access.{Access, Nothing, Init, Update, no_access}
use Rattle.chart_machine_laws.proofs.LyingIn.{none_in}
use Rattle.abort_expansion_laws.specs.Stages.{Entry, Correspondence, core_act, Touches, InitsFlag, UpdatesFlag}
use Rattle.abort_expansion_laws.specs.Stages.{ReadsFlag, IsSilent, HasStage, ReachedAfter, Climbs}

-- ---- stages, by those that a configuration allows

module _ (k : Correspondence) where
  pub climbs_fewer : (Reached Fewer : ℕ → ℕ → Type 0) (log : List Entry) → ((h s : ℕ) → Fewer h s → Reached h s) → Climbs k Reached log → Climbs k Fewer log
  climbs_fewer Reached Fewer [] fewer climbs = tt
  climbs_fewer Reached Fewer (y ∷ log) fewer climbs = (
    λ h s s' reached has. climbs.0 h s s' (fewer h s reached) has,
    climbs_fewer (ReachedAfter k y Reached) (ReachedAfter k y Fewer) log still climbs.1,
  )
    where
      still : (h s : ℕ) → ReachedAfter k y Fewer h s → ReachedAfter k y Reached h s
      still h s (inl before) = inl (fewer h s before.0, before.1)
      still h s (inr own) = inr own

  -- one step more in front: none reached before is above its stages, and its own and those that stay are reached after it
  pub climbs_step : (Before After : ℕ → ℕ → Type 0) (y : Entry) (log : List Entry) →
      ((h s : ℕ) → HasStage k y h s → ((u : ℕ) → Before h u → u ≤ s) × After h s) →
      ((h s : ℕ) → (core_act k y).thread ≢ h → Before h s → After h s) → Climbs k After log → Climbs k Before (y ∷ log)
  climbs_step Before After y log own stays climbs = (
    λ h s s' reached has. (own h s' has).0 s reached,
    climbs_fewer After (ReachedAfter k y Before) log within climbs,
  )
    where
      within : (h s : ℕ) → ReachedAfter k y Before h s → After h s
      within h s (inl before) = stays h s before.1 before.0
      within h s (inr has) = (own h s has).1

-- ---- steps without counterpart, by what they do

abbrev pub tests : ℕ → Access
tests x = record { reads = x ∷ []; writes = Nothing }

abbrev pub sets : ℕ → Value → Access
sets x v = record { reads = []; writes = Init x (Some v) }

abbrev pub combines : ℕ → Combination → Access
combines x f = record { reads = []; writes = Update x f }

only_in : (x y : ℕ) → Contains (y ∷ []) x → y ≡ x
only_in x y h = at h.0 h.1 h.2
  where
    at : (i : ℕ) → i < 1 → slice_index_or (y ∷ []) i x ≡ x → y ≡ x
    at zero lt e = e
    at (suc i) lt e = absurd (omega (lt, arith))

pub tests_at : (y x : ℕ) → Touches (tests y) x → y ≡ x
tests_at y x (inl r) = only_in x y r
tests_at y x (inr (inl i)) = let w = i.1 in absurd (cc)
tests_at y x (inr (inr u)) = let w = u.1 in absurd (cc)

pub sets_at : (y : ℕ) (v : Value) (x : ℕ) → Touches (sets y v) x → y ≡ x
sets_at y v x (inl r) = absurd (none_in x r)
sets_at y v x (inr (inl i)) = let w = i.1 in cc
sets_at y v x (inr (inr u)) = let w = u.1 in absurd (cc)

pub combines_at : (y : ℕ) (f : Combination) (x : ℕ) → Touches (combines y f) x → y ≡ x
combines_at y f x (inl r) = absurd (none_in x r)
combines_at y f x (inr (inl i)) = let w = i.1 in absurd (cc)
combines_at y f x (inr (inr u)) = let w = u.1 in cc

pub nothing_at : (x : ℕ) → Touches no_access x → ⊥
nothing_at x (inl r) = none_in x r
nothing_at x (inr (inl i)) = let w = i.1 in absurd (cc)
nothing_at x (inr (inr u)) = let w = u.1 in absurd (cc)

module _ (k : Correspondence) (t : ℕ) (at : Option (ℕ × ℕ)) where
  pub silent_idle : IsSilent k t at no_access
  silent_idle =
      record {
        flags = λ x h. absurd (nothing_at x h);
        inits = λ x i. absurd (nothing_at x (inr (inl i)));
        updates = λ x f u. absurd (nothing_at x (inr (inr (f, u))));
        reads = λ x r. absurd (none_in x r);
      }

  pub silent_test : (y : ℕ) → k.declared ≤ y → ReadsFlag k t at y → IsSilent k t at (tests y)
  silent_test y flag reads =
      record {
        flags = λ x h. let e : y ≡ x = tests_at y x h in omega (flag, e, arith);
        inits = λ x i. let w = i.1 in absurd (cc);
        updates = λ x f u. absurd (cc);
        reads = λ x r. subst (ReadsFlag k t at) (only_in x y r) reads;
      }

  pub silent_set : (y : ℕ) (v : Value) → k.declared ≤ y → InitsFlag k t at y → IsSilent k t at (sets y v)
  silent_set y v flag inits =
      record {
        flags = λ x h. let e : y ≡ x = sets_at y v x h in omega (flag, e, arith);
        inits = λ x i. subst (InitsFlag k t at) (sets_at y v x (inr (inl i))) inits;
        updates = λ x f u. absurd (cc);
        reads = λ x r. absurd (none_in x r);
      }

  pub silent_count : (y : ℕ) → k.declared ≤ y → UpdatesFlag k t at y k.counting → IsSilent k t at (combines y k.counting)
  silent_count y flag updates =
      record {
        flags = λ x h. let e : y ≡ x = combines_at y k.counting x h in omega (flag, e, arith);
        inits = λ x i. let w = i.1 in absurd (cc);
        updates = λ x f u. let same : k.counting ≡ f = cc in
            subst (λ g. UpdatesFlag k t at x g) same (subst (λ z. UpdatesFlag k t at z k.counting) (combines_at y k.counting x (inr (inr (f, u)))) updates);
        reads = λ x r. absurd (none_in x r);
      }
