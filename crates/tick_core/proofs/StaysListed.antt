-- A list into which threads are put one by one, and one of which those that must stay are put to the front, one by one.
use Rattle.std.proofs.Common.{◌≡◌, ◌≢◌, Bool, ℕ, zero, suc, ◌+◌, ◌<◌, ◌≤◌, ◌⊎◌, List, [], ◌∷◌, length, length-set, take, Some, Contains, slice_get, slice_set}
use Rattle.std.proofs.Common.{IsTrue, refl, sym, ap, subst, ◌∙◌, inl, inr, arith}
use Rattle.std.proofs.lemmas.Option.{same_Some, slice_get_within}
use Rattle.sc_graph.specs.declared.control.Control.{Control}
use Rattle.tick_laws.proofs.Lists.{get_contains, contains_get, get_set_same, get_set_other, same_or_not}
use Rattle.tick_core.specs.declared.listed.Listed.{Listed}
use Rattle.tick_core.specs.Inside.Astir.{Gains, GainsOne, GainsBelow, MustStay, StaysListed, StandsBelow, KeepsOne, KeptBelow}

pub gains_none : (listed : Listed) (threads : List ℕ) → GainsBelow listed threads 0 listed
gains_none listed threads =
    record {
      room = refl;
      all = refl;
      kept = λ t inside. inside;
      whole = λ holds. holds;
      gained = λ holds i t less. absurd (omega (arith, less));
    }

pub gains_more : (before mid after : Listed) (threads : List ℕ) (n t : ℕ) → GainsBelow before threads n mid → slice_get threads n ≡ Some t
    → GainsOne mid t after → GainsBelow before threads (n + 1) after
gains_more before mid after threads n t h is one =
    record {
      room = one.room ∙ h.room;
      all = one.all ∙ h.all;
      kept = λ u inside. one.kept u (h.kept u inside);
      whole = λ holds. h.whole (one.whole holds);
      gained = λ holds i u less at. gained holds i u less at (same_or_not i n);
    }
  where
    gained : IsTrue after.is_whole → (i u : ℕ) → i < n + 1 → slice_get threads i ≡ Some u → (i ≡ n) ⊎ (i ≢ n) → Contains after.threads.items u
    gained holds i u less at (inl same) =
        let one_is : t ≡ u = same_Some t u (sym is ∙ (ap (slice_get threads) (sym same) ∙ at)) in subst (Contains after.threads.items) one_is (one.gained holds)
    gained holds i u less at (inr other) = one.kept u (h.gained (one.whole holds) i u (omega (arith, less, other)) at)

pub gains_all : (before after : Listed) (threads : List ℕ) (n : ℕ) → length threads ≤ n → GainsBelow before threads n after → Gains before threads after
gains_all before after threads n past h =
    record { room = h.room; all = h.all; kept = h.kept; whole = h.whole; gained = λ holds t inside. there holds t (get_contains threads t inside) }
  where
    there : IsTrue after.is_whole → (t : ℕ) → (i : ℕ) × (slice_get threads i ≡ Some t) → Contains after.threads.items t
    there holds t at = h.gained holds at.0 t (omega (arith, slice_get_within threads at.0 t at.1, past)) at.1

-- whatever the list says of who may be gone
pub gains_marked : (before after : Listed) (threads : List ℕ) (marked : Bool) → Gains before threads after
    → Gains before threads (record after { may_be_gone = marked })
gains_marked before after threads marked g =
    record { room = g.room; all = g.all; kept = g.kept; whole = g.whole; gained = g.gained }

pub below_contained : (threads : List ℕ) (n t : ℕ) → StandsBelow threads n t → Contains threads t
below_contained threads n t s = contains_get threads s.at t s.is

pub passes_one : (c : Control) (threads : List ℕ) (n t : ℕ) → (MustStay c t → StandsBelow threads n t) → KeepsOne c threads n t threads n
passes_one c threads n t own =
    record { long = refl; few = omega arith; rest = λ i past. refl; kept = λ u stands. stands; own = own }

pub puts_one : (c : Control) (threads : List ℕ) (n t : ℕ) → n < length threads → KeepsOne c threads n t (slice_set threads n t) (n + 1)
puts_one c threads n t within =
    record {
      long = length-set threads n t;
      few = omega arith;
      rest = λ i past. get_set_other threads n i t (λ same. omega (arith, past, same));
      kept = λ u stands. record {
        at = stands.at;
        below = omega (arith, stands.below);
        is = get_set_other threads n stands.at t (λ same. omega (arith, stands.below, same)) ∙ stands.is;
      };
      own = λ must. record { at = n; below = omega arith; is = get_set_same threads n t within };
    }

pub kept_none : (c : Control) (threads : List ℕ) → KeptBelow c threads 0 threads 0
kept_none c threads =
    record { few = omega arith; long = refl; rest = λ i past. refl; kept = λ i t less. absurd (omega (arith, less)) }

pub kept_more : (c : Control) (before mid after : List ℕ) (n m k t : ℕ) → KeptBelow c before n mid m → slice_get mid n ≡ Some t → KeepsOne c mid m t after k
    → KeptBelow c before (n + 1) after k
kept_more c before mid after n m k t h is one =
    record {
      few = omega (arith, one.few, h.few);
      long = one.long ∙ h.long;
      rest = λ i past. one.rest i (omega (arith, past, h.few)) ∙ h.rest i (omega (arith, past));
      kept = λ i u less at must. kept i u less at must (same_or_not i n);
    }
  where
    kept : (i u : ℕ) → i < n + 1 → slice_get before i ≡ Some u → MustStay c u → (i ≡ n) ⊎ (i ≢ n) → StandsBelow after k u
    kept i u less at must (inl same) =
        let here : slice_get mid n ≡ slice_get before n = h.rest n (omega arith) in
        let one_is : t ≡ u = same_Some t u (sym is ∙ (here ∙ (ap (slice_get before) (sym same) ∙ at))) in
        subst (StandsBelow after k) one_is (one.own (subst (MustStay c) (sym one_is) must))
    kept i u less at must (inr other) = one.kept u (h.kept i u (omega (arith, less, other)) at must)

get_take : (xs : List ℕ) (n i t : ℕ) → i < n → slice_get xs i ≡ Some t → slice_get (take n xs) i ≡ Some t
get_take [] n i t less is = absurd (cc)
get_take (x ∷ xs) zero i t less is = absurd (omega (arith, less))
get_take (x ∷ xs) (suc n) zero t less is = is
get_take (x ∷ xs) (suc n) (suc i) t less is = get_take xs n i t (omega (arith, less)) is

pub kept_all : (c : Control) (before after : List ℕ) (n m : ℕ) → length before ≤ n → KeptBelow c before n after m → StaysListed c before (take m after)
kept_all c before after n m past h = record { each = λ t inside must. there t (get_contains before t inside) must }
  where
    found : (t : ℕ) → StandsBelow after m t → Contains (take m after) t
    found t s = contains_get (take m after) s.at t (get_take after m s.at t s.below s.is)

    there : (t : ℕ) → (i : ℕ) × (slice_get before i ≡ Some t) → MustStay c t → Contains (take m after) t
    there t at must = found t (h.kept at.0 t (omega (arith, slice_get_within before at.0 t at.1, past)) at.1 must)
