-- Logs in which it is free at which stage some flags are written: those that nobody reads but the thread of the region that holds their superstate.
use Rattle.std.proofs.Common.{◌≡◌, ℕ, ◌<◌, ◌≤◌, ◌⊎◌, inl, inr, false, Option, Some, List, [], ◌∷◌}
use Rattle.sc_values.specs.declared.operator.Combination.{Combination}
use Rattle.sc_values.specs.Access.{Access, Reads, Inits, Updates}
use Rattle.abort_expansion_laws.specs.Stages.{Entry, Image, Watched, Silent, Correspondence, Touches, InitsFlag, UpdatesFlag, ReaderOf, ReadsFlag}
use Rattle.abort_expansion_laws.specs.Stages.{IsWatched, Fits, EachFits}

module _ (k : Correspondence) (IsFree : ℕ → Type 0) where
  -- a flag is written by its holder; or by the watcher, at its stage unless that is free
  abbrev pub InitsFreely : ℕ → Option (ℕ × ℕ) → ℕ → Type 0
  InitsFreely t at x = (t ≡ k.home x) ⊎ ((k.counts x ≡ false) × (t ≡ k.watcher x) × (IsFree x ⊎ (at ≡ Some (k.home x, k.written_at x))))

  -- those besides its holder read it behind its stage, so not where that is free
  abbrev pub ReadsFreely : ℕ → Option (ℕ × ℕ) → ℕ → Type 0
  ReadsFreely t at x = (t ≡ k.home x) ⊎ (ReaderOf k t x × ((s : ℕ) × (at ≡ Some (k.home x, s)) × (k.written_at x < s)) × ¬ IsFree x)

  pub record IsSilentFreely (t : ℕ) (at : Option (ℕ × ℕ)) (a : Access) : Type 0 where
    pub flags : (x : ℕ) → Touches a x → k.declared ≤ x
    pub inits : (x : ℕ) → Inits a x → InitsFreely t at x
    pub updates : (x : ℕ) (f : Combination) → Updates a x f → UpdatesFlag k t at x f
    pub reads : (x : ℕ) → Reads a x → ReadsFreely t at x

  abbrev pub FitsFreely : Entry → Type 0
  FitsFreely (Image r a) = Fits k (Image r a)
  FitsFreely (Watched r g stage a) = IsWatched k r g stage a
  FitsFreely (Silent t at a) = IsSilentFreely t at a

  abbrev pub EachFitsFreely : List Entry → Type 0
  EachFitsFreely [] = Unit {0}
  EachFitsFreely (y ∷ log) = FitsFreely y × EachFitsFreely log

-- where no stage is free
abbrev pub NoneFree : ℕ → Type 0
NoneFree x = ⊥

module _ (k : Correspondence) where
  inits_none : (t : ℕ) (at : Option (ℕ × ℕ)) (x : ℕ) → InitsFlag k t at x → InitsFreely k NoneFree t at x
  inits_none t at x (inl e) = inl e
  inits_none t at x (inr w) = inr (w.0, w.1, inr w.2)

  reads_none : (t : ℕ) (at : Option (ℕ × ℕ)) (x : ℕ) → ReadsFlag k t at x → ReadsFreely k NoneFree t at x
  reads_none t at x (inl e) = inl e
  reads_none t at x (inr w) = inr (w.0, w.1, λ none. none)

  fits_none : (y : Entry) → Fits k y → FitsFreely k NoneFree y
  fits_none (Image r a) fits = fits
  fits_none (Watched r g stage a) fits = fits
  fits_none (Silent t at a) fits =
      record {
        flags = fits.flags;
        inits = λ x i. inits_none t at x (fits.inits x i);
        updates = fits.updates;
        reads = λ x r. reads_none t at x (fits.reads x r);
      }

  pub each_fits_none : (log : List Entry) → EachFits k log → EachFitsFreely k NoneFree log
  each_fits_none [] fits = tt
  each_fits_none (y ∷ log) fits = (fits_none y fits.0, each_fits_none log fits.1)
