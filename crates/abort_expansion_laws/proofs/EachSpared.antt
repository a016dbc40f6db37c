-- How what validity gives along the core's run spares each strong test.
use Rattle.std.proofs.Common.{◌≡◌, ◌≢◌, ℕ, List, [], ◌∷◌, subst, Some}
use Rattle.sc_values.specs.Access.{Access, Precedes}
use Rattle.sc_values.specs.Runs.{Machine, act_of}
use Rattle.abort_expansion_laws.specs.Stages.{Entry, Image, Watched, Silent, Correspondence, core_act, Overwrites, IsSpared, EachSpared}
use Rattle.abort_expansion_laws.proofs.Segments.{Follows}

-- IsQuiet r a d: as long as the thread of region r takes no step from d on, no step inside is to come before a test with access a
module _ (n : Machine) (k : Correspondence) (Told : n.Configuration → Entry → Type 0)
    (Keeps : n.Configuration → Type 0) (IsQuiet : ℕ → Access → n.Configuration → Type 0)
    (kept : (d next : n.Configuration) (t : ℕ) → Keeps d → n.step t d ≡ Some next → Keeps next)
    (begins : (r g : ℕ) (a : Access) (d next : n.Configuration) → Keeps d → Told d (Watched r g 0 a) → n.step g d ≡ Some next → IsQuiet r a next)
    (quiet : (r : ℕ) (a : Access) (d next : n.Configuration) (t : ℕ) → IsQuiet r a d → n.step t d ≡ Some next → t ≢ k.thread_of r → IsQuiet r a next)
    (spares : (r : ℕ) (a : Access) (d : n.Configuration) (q : ℕ) (b : Access) → IsQuiet r a d → k.Inside q r → Told d (Image q b) →
    record { thread = k.thread_of q; access = b } ≡ act_of n d (k.thread_of q) → (next : n.Configuration) → n.step (k.thread_of q) d ≡ Some next →
    ¬ Precedes b a) where
  spared_along : (r : ℕ) (a : Access) (log : List Entry) (d e : n.Configuration) → Follows n k Told d log e → IsQuiet r a d → IsSpared k r a log
  spared_along r a [] d e follows is_quiet = tt
  spared_along r a (y ∷ log) d e follows is_quiet = (
    none y follows.1 follows.0 follows.2.0 follows.2.1,
    λ other. spared_along r a log follows.2.0 e follows.2.2 (quiet r a d follows.2.0 (core_act k y).thread is_quiet follows.2.1 other),
  )
    where
      none : (y : Entry) → Told d y → core_act k y ≡ act_of n d (core_act k y).thread → (next : n.Configuration) →
          n.step (core_act k y).thread d ≡ Some next → ¬ Overwrites k r a y
      none (Image q b) told acts next steps o = spares r a d q b is_quiet o.0 told acts next steps o.1
      none (Watched q g stage b) told acts next steps o = o
      none (Silent t at b) told acts next steps o = o

  pub each_spared : (log : List Entry) (d e : n.Configuration) → Follows n k Told d log e → Keeps d → EachSpared k log
  each_spared [] d e follows keeps = tt
  each_spared (Image q b ∷ log) d e follows keeps = each_spared log follows.2.0 e follows.2.2 (kept d follows.2.0 (k.thread_of q) keeps follows.2.1)
  each_spared (Silent t at b ∷ log) d e follows keeps = each_spared log follows.2.0 e follows.2.2 (kept d follows.2.0 t keeps follows.2.1)
  each_spared (Watched r g stage a ∷ log) d e follows keeps = (
    λ first. spared_along r a log follows.2.0 e follows.2.2 (begins r g a d follows.2.0 keeps (subst (λ s. Told d (Watched r g s a)) first follows.1)
        follows.2.1),
    each_spared log follows.2.0 e follows.2.2 (kept d follows.2.0 g keeps follows.2.1),
  )
