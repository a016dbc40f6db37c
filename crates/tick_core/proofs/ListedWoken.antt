-- Where all that are astir are woken, everybody is.
use Rattle.std.proofs.Common.{◌≡◌, ◌≢◌, ℕ, zero, suc, ◌+◌, ◌<◌, ◌≤◌, ◌⊎◌, List, [], ◌∷◌, length, length-set, map, Option, Some, None, Contains}
use Rattle.std.proofs.Common.{slice_get, slice_set, option_map, refl, sym, ap, ◌∙◌, inl, inr, arith}
use Rattle.std.proofs.lemmas.Option.{same_Some, slice_get_within, slice_get-map}
use Rattle.sc_graph.specs.declared.control.Status.{Status}
use Rattle.sc_graph.specs.declared.control.Status.TheVariants as status
use Rattle.sc_graph.specs.Program.{Program, entry_of}
use Rattle.sc_graph.specs.Tick.{woken, root_started, statuses_at_start}
use Rattle.tick_laws.proofs.Lists.{get_contains, get_set_same, get_set_other, same_or_not, map_some}
use Rattle.tick_core.specs.Space.There.{woken_by, woken_at, root_at_entry, CopiedBelow, StandsFrom, WokenBelow}
use Rattle.tick_core.specs.Inside.Astir.{IsAstir, AstirListed}

woken_twice : (s : Status) → woken (woken s) ≡ woken s
woken_twice status.Absent = refl
woken_twice (status.At n) = refl
woken_twice (status.Waiting j) = refl
woken_twice (status.Paused d) = refl
woken_twice status.Ended = refl

set_woken : (xs : List Status) (t : ℕ) (s : Status) → slice_get xs t ≡ Some s → map woken (slice_set xs t (woken s)) ≡ map woken xs
set_woken [] t s is = absurd (cc)
set_woken (x ∷ xs) zero s is =
    let same : x ≡ s = same_Some x s is in
    ap (λ v. v ∷ map woken xs) (woken_twice s ∙ ap woken (sym same))
set_woken (x ∷ xs) (suc t) s is = ap (λ ys. woken x ∷ ys) (set_woken xs t s is)

woken_more : (xs : List Status) (t : ℕ) (o : Option Status) → slice_get xs t ≡ o → map woken (woken_by xs t o) ≡ map woken xs
woken_more xs t None is = refl
woken_more xs t (Some s) is = set_woken xs t s is

awake_there : (xs : List Status) (t : ℕ) (o : Option Status) → slice_get xs t ≡ o → (s : Status) → slice_get (woken_by xs t o) t ≡ Some s → woken s ≡ s
awake_there xs t None is s at = absurd (cc)
awake_there xs t (Some v) is s at =
    let same : woken v ≡ s = same_Some (woken v) s (sym (get_set_same xs t (woken v) (slice_get_within xs t v is)) ∙ at) in
    ap woken (sym same) ∙ (woken_twice v ∙ same)

awake_other : (xs : List Status) (t u : ℕ) (o : Option Status) → u ≢ t → slice_get (woken_by xs t o) u ≡ slice_get xs u
awake_other xs t u None other = refl
awake_other xs t u (Some v) other = get_set_other xs t u (woken v) other

pub woken_none : (ss : List Status) (threads : List ℕ) → WokenBelow ss ss threads 0
woken_none ss threads = record { same = refl; awake = λ i t s less. absurd (omega (arith, less)) }

pub woken_below : (before after : List Status) (threads : List ℕ) (n t : ℕ) → WokenBelow before after threads n → slice_get threads n ≡ Some t
    → WokenBelow before (woken_at after t) threads (n + 1)
woken_below before after threads n t h is =
    record { same = woken_more after t (slice_get after t) refl ∙ h.same; awake = λ i u s less at now. awake i u s less at now (same_or_not u t) }
  where
    below : (i u : ℕ) → i < n + 1 → slice_get threads i ≡ Some u → u ≢ t → (i ≡ n) ⊎ (i ≢ n) → i < n
    below i u less at other (inl same) = absurd (other (same_Some u t (sym at ∙ (ap (slice_get threads) same ∙ is))))
    below i u less at other (inr apart) = omega (arith, less, apart)

    awake : (i u : ℕ) (s : Status) → i < n + 1 → slice_get threads i ≡ Some u → slice_get (woken_at after t) u ≡ Some s → (u ≡ t) ⊎ (u ≢ t) → woken s ≡ s
    awake i u s less at now (inl same) = awake_there after t (slice_get after t) refl s (ap (slice_get (woken_at after t)) (sym same) ∙ now)
    awake i u s less at now (inr other) =
        h.awake i u s (below i u less at other (same_or_not i n)) at (sym (awake_other after t u (slice_get after t) other) ∙ now)

all_fixed : (xs : List Status) → ((t : ℕ) (s : Status) → slice_get xs t ≡ Some s → woken s ≡ s) → map woken xs ≡ xs
all_fixed [] each = refl
all_fixed (x ∷ xs) each =
    ap (λ v. v ∷ map woken xs) (each 0 x refl) ∙ ap (λ ys. x ∷ ys) (all_fixed xs (λ t s is. each (suc t) s is))

woken_was_astir : (s : Status) (d : ℕ) → woken s ≡ status.At d → IsAstir s
woken_was_astir status.Absent d is = absurd (cc)
woken_was_astir (status.At n) d is = tt
woken_was_astir (status.Waiting j) d is = tt
woken_was_astir (status.Paused n) d is = tt
woken_was_astir status.Ended d is = absurd (cc)

module _ (before after : List Status) (threads : List ℕ) (n : ℕ) (past : length threads ≤ n) (all : AstirListed before threads)
    (h : WokenBelow before after threads n) where
  paused_never : (t d : ℕ) → slice_get after t ≡ Some (status.Paused d) → ⊥
  paused_never t d is =
      let now : slice_get (map woken after) t ≡ Some (status.At d) = slice_get-map woken after t ∙ ap (option_map woken) is in
      let was : option_map woken (slice_get before t) ≡ Some (status.At d) =
      sym (slice_get-map woken before t) ∙ (ap (λ xs. slice_get xs t) (sym h.same) ∙ now) in
      let it : (s : Status) × (slice_get before t ≡ Some s) × (woken s ≡ status.At d) = map_some woken (slice_get before t) (status.At d) was in
      let inside : Contains threads t = all.each t it.0 it.1 (woken_was_astir it.0 d it.2) in
      let at : (i : ℕ) × (slice_get threads i ≡ Some t) = get_contains threads t inside in
      let fixed : status.At d ≡ status.Paused d = h.awake at.0 t (status.Paused d) (omega (arith, slice_get_within threads at.0 t at.1, past)) at.1 is in cc

  fixed_at : (t : ℕ) (s : Status) → slice_get after t ≡ Some s → woken s ≡ s
  fixed_at t status.Absent is = refl
  fixed_at t (status.At n) is = refl
  fixed_at t (status.Waiting j) is = refl
  fixed_at t (status.Paused d) is = absurd (paused_never t d is)
  fixed_at t status.Ended is = refl

  pub all_woken : after ≡ map woken before
  all_woken = sym (all_fixed after fixed_at) ∙ h.same

-- where all but an absent root are woken, it comes to stand at its entry
pub root_entered : (p : Program) (ss : List Status) → root_at_entry (entry_of p zero) (map woken ss) ≡ statuses_at_start p ss
root_entered p [] = none_entered (entry_of p zero)
  where
    none_entered : (o : Option ℕ) → root_at_entry o [] ≡ []
    none_entered None = refl
    none_entered (Some entry) = refl
root_entered p (s ∷ ss) = some_entered (entry_of p zero) s
  where
    some_entered : (o : Option ℕ) (s : Status) → root_at_entry o (woken s ∷ map woken ss) ≡ root_started o s ∷ map woken ss
    some_entered None s = refl
    some_entered (Some entry) status.Absent = refl
    some_entered (Some entry) (status.At n) = refl
    some_entered (Some entry) (status.Waiting j) = refl
    some_entered (Some entry) (status.Paused d) = refl
    some_entered (Some entry) status.Ended = refl

pub root_set : (entry : ℕ) (ss : List Status) → slice_get ss 0 ≡ Some status.Absent
    → slice_set ss 0 (status.At entry) ≡ root_at_entry (Some entry) ss
root_set entry [] is = absurd (cc)
root_set entry (status.Absent ∷ ss) is = refl
root_set entry (status.At n ∷ ss) is = absurd (cc)
root_set entry (status.Waiting j ∷ ss) is = absurd (cc)
root_set entry (status.Paused d ∷ ss) is = absurd (cc)
root_set entry (status.Ended ∷ ss) is = absurd (cc)

pub root_stays : (o : Option ℕ) (ss : List Status) → slice_get ss 0 ≢ Some status.Absent → ss ≡ root_at_entry o ss
root_stays None ss other = refl
root_stays (Some entry) [] other = refl
root_stays (Some entry) (status.Absent ∷ ss) other = absurd (other refl)
root_stays (Some entry) (status.At n ∷ ss) other = refl
root_stays (Some entry) (status.Waiting j ∷ ss) other = refl
root_stays (Some entry) (status.Paused d ∷ ss) other = refl
root_stays (Some entry) (status.Ended ∷ ss) other = refl

-- where the thread at this place is woken, whoever stood by the others as by these, but those from this place on, does so still
pub copied_still : (from to : List Status) (threads : List ℕ) (n t : ℕ) → CopiedBelow from to threads n → slice_get threads n ≡ Some t
    → CopiedBelow (woken_at from t) to threads n
copied_still from to threads n t h is = record { long = h.long ∙ sym (long (slice_get from t)); rest = λ u. by u (same_or_not u t) }
  where
    long : (o : Option Status) → length (woken_by from t o) ≡ length from
    long None = refl
    long (Some s) = length-set from t (woken s)

    other_by : (u : ℕ) → u ≢ t → StandsFrom threads n u ⊎ (slice_get to u ≡ slice_get from u)
        → StandsFrom threads n u ⊎ (slice_get to u ≡ slice_get (woken_at from t) u)
    other_by u other (inl stands) = inl stands
    other_by u other (inr same) = inr (same ∙ sym (awake_other from t u (slice_get from t) other))

    by : (u : ℕ) → (u ≡ t) ⊎ (u ≢ t) → StandsFrom threads n u ⊎ (slice_get to u ≡ slice_get (woken_at from t) u)
    by u (inl same) = inl (record { at = n; past = omega arith; is = is ∙ ap Some (sym same) })
    by u (inr other) = other_by u other (h.rest u)
