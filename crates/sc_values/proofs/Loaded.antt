-- What a loop over a code's operations gathers of what its loads name.
use Rattle.std.proofs.Common.{◌≡◌, ℕ, zero, suc, ◌+◌, ◌<◌, ◌≤◌, Option, Some, None, List, [], ◌∷◌, ◌++◌, option_and_then, filter_map, length, slice_get, drop}
use Rattle.std.proofs.Common.{get_or, refl, sym, ap, ◌∙◌, append_assoc, arith, length-append}
use Rattle.std.specs.Option.{option_to_list}
use Rattle.std.specs.List.{cons_option}
use Rattle.std.proofs.lemmas.List.{drop_more, append-nil}
use Rattle.sc_values.specs.declared.operation.Operation.{Operation}
use Rattle.sc_values.specs.declared.operation.Operation.TheVariants as op
use Rattle.sc_values.specs.Code.{loads, loaded}
use Rattle.sc_values.specs.Checked.{loaded_from}

-- what stands at the variable that one operation loads
abbrev pub loaded_item : {A : Type 0} → List A → Operation → Option A
loaded_item all o = option_and_then (slice_get all) (loaded o)

cons_is : {A : Type 0} (o : Option A) (rest : List A) → cons_option o rest ≡ option_to_list o ++ rest
cons_is None rest = refl
cons_is (Some x) rest = refl

pub loaded_from-cons : {A : Type 0} (all : List A) (o : Operation) (code : List Operation) → loaded_from all (o ∷ code)
    ≡ option_to_list (loaded_item all o) ++ loaded_from all code
loaded_from-cons all (op.Literal v) code = refl
loaded_from-cons all (op.Load x) code = cons_is (slice_get all x) (loaded_from all code)
loaded_from-cons all (op.Unary f) code = refl
loaded_from-cons all (op.Binary f) code = refl

longer_by : {Y : Type 0} (o : Option Y) (rest : List Y) (n : ℕ) → length rest ≤ n → length (cons_option o rest) ≤ suc n
longer_by None rest n h = omega arith
longer_by (Some y) rest n h = omega arith

pub length-filter_map : {X Y : Type 0} (h : X → Option Y) (xs : List X) → length (filter_map h xs) ≤ length xs
length-filter_map h [] = omega arith
length-filter_map h (x ∷ xs) = longer_by (h x) (filter_map h xs) (length xs) (length-filter_map h xs)

pub length-loaded_from : {A : Type 0} (all : List A) (code : List Operation) → length (loaded_from all code) ≤ length (loads code)
length-loaded_from all code = length-filter_map (slice_get all) (loads code)

-- after i operations, what was gathered and what is still to come are all
pub record Gathers {A : Type 0} (all : List A) (code : List Operation) (i : ℕ) (done : List A) : Type 0 where
  pub is : done ++ loaded_from all (drop i code) ≡ loaded_from all code

pub gathers_none_yet : {A : Type 0} (all : List A) (code : List Operation) → Gathers all code 0 []
gathers_none_yet all code = record { is = refl }

pub drop_past : (xs : List Operation) (n : ℕ) → length xs ≤ n → drop n xs ≡ []
drop_past [] zero h = refl
drop_past [] (suc n) h = refl
drop_past (x ∷ xs) zero h = absurd (omega arith)
drop_past (x ∷ xs) (suc n) h = drop_past xs n (omega arith)

pub gathers_all : {A : Type 0} (all : List A) (code : List Operation) (i : ℕ) (done : List A) → length code ≤ i → Gathers all code i done
    → done ≡ loaded_from all code
gathers_all all code i done past so =
    sym (append-nil done) ∙ ap (λ t. done ++ loaded_from all t) (sym (drop_past code i past)) ∙ so.is

module _ {A : Type 0} (all : List A) (code : List Operation) (i : ℕ) (o : Operation) (done : List A) (within : i < length code)
    (is_at : o ≡ get_or code i o) where
  -- the operation at i, and what comes behind it
  next : (found : List A) → option_to_list (loaded_item all o) ≡ found → loaded_from all (drop i code) ≡ found ++ loaded_from all (drop (i + 1) code)
  next found is =
      ap (loaded_from all) (drop_more code i o within ∙ ap (λ p. p ∷ drop (i + 1) code) (sym is_at))
      ∙ loaded_from-cons all o (drop (i + 1) code)
      ∙ ap (λ t. t ++ loaded_from all (drop (i + 1) code)) is

  pub gathers_some : (v : A) → Some v ≡ loaded_item all o → Gathers all code i done → Gathers all code (i + 1) (done ++ v ∷ [])
  gathers_some v found so = record {
    is = append_assoc done (v ∷ []) (loaded_from all (drop (i + 1) code)) ∙ ap (λ t. done ++ t) (sym (next (v ∷ []) (ap option_to_list (sym found)))) ∙ so.is;
  }

  pub gathers_none : None ≡ loaded_item all o → Gathers all code i done → Gathers all code (i + 1) done
  gathers_none found so = record { is = ap (λ t. done ++ t) (sym (next [] (ap option_to_list (sym found)))) ∙ so.is }

  -- there is room for one more
  pub gathers_room : (v : A) (limit : ℕ) → Some v ≡ loaded_item all o → length (loads code) ≤ limit → Gathers all code i done → length done < limit
  gathers_room v limit found fits so =
      let more = gathers_some v found so in
      let e = ap length more.is in
      omega (arith, e, length-append (done ++ v ∷ []) (loaded_from all (drop (i + 1) code)), length-append done (v ∷ []), length-loaded_from all code)
