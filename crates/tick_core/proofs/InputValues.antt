-- What inputs give to each variable, input by input.
use Rattle.std.proofs.Common.{◌≡◌, ◌≢◌, ℕ, zero, suc, ◌+◌, ◌<◌, ◌≤◌, ◌⊎◌, Bool, true, false, List, [], ◌∷◌, ◌++◌, length, length-set, take, Option, Some, None}
use Rattle.std.proofs.Common.{slice_get, slice_set, refl, sym, ap, subst, ◌∙◌, inl, inr, arith, if◌then◌else◌}
use Rattle.std.specs.Str.{bytes_eq}
use Rattle.std.proofs.lemmas.List.{take_more, take_all}
use Rattle.std.proofs.lemmas.Bool.{cases_eq, cases_order}
use Rattle.std.proofs.lemmas.Slice.Eq.{bytes_eq-Decides}
use Rattle.std.proofs.lemmas.Option.{none-some, same_Some, slice_get_within, get_or_from_slice_get}
use Rattle.sc_values.specs.declared.value.Value.{Value}
use Rattle.sc_graph.specs.declared.program.Variable.{Variable}
use Rattle.sc_graph.specs.declared.tables.Tables.{Tables}
use Rattle.sc_graph.specs.declared.place.Place.TheVariants as place
use Rattle.sc_graph.specs.Program.{Program}
use Rattle.sc_graph.specs.Tick.{Inputs, given, AreAccepted}
use Rattle.sc_graph.specs.Valid.{IsValid}
use Rattle.tick_laws.proofs.Formed.{valid_formed}
use Rattle.tick_laws.proofs.Lists.{get_set_same, get_set_other, slice_get_there}
use Rattle.tick_core.specs.Inside.Inputs.{IsForAt, NamesInput, IsAcceptedAt}
use Rattle.tick_core.specs.Space.Given.{HasOwnNames, Gives, IsGiven}
use Rattle.tick_core.proofs.Accepted.{accepted_at}

abbrev pub Input : Type 0
Input = List ℕ × Value

-- a valid program's variables have names of their own
pub own_names : (p : Program) (q : Tables) → IsValid p q → HasOwnNames p.variables
own_names p q valid = record { each = λ x y a b i j same. at x y a b i j same (cases_order x y) }
  where
    at : (x y : ℕ) (a b : Variable) → slice_get p.variables x ≡ Some a → slice_get p.variables y ≡ Some b → a.name ≡ b.name → (x ≡ y) ⊎ ((x < y) ⊎ (y < x))
        → x ≡ y
    at x y a b i j same (inl equal) = equal
    at x y a b i j same (inr (inl less)) = absurd (((valid_formed p q valid).size (place.Variable y) b j).new_name x a less i same)
    at x y a b i j same (inr (inr more)) = absurd (((valid_formed p q valid).size (place.Variable x) a i).new_name y b more j (sym same))

-- a name to which nothing is given is none of these inputs'
pub given_none : (inputs : Inputs) (name : List ℕ) → given inputs name ≡ None → (i : ℕ) (a : Input) → slice_get inputs i ≡ Some a → a.0 ≢ name
given_none [] name none i a is = absurd (none-some a is)
given_none (b ∷ inputs) name none i a is = at (bytes_eq b.0 name) (bytes_eq-Decides b.0 name).1 none i is (λ rest k at. given_none inputs name rest k a at)
  where
    at : (t : Bool) → (b.0 ≡ name → t ≡ true) → (if t then Some b.1 else given inputs name) ≡ None → (i : ℕ) → slice_get (b ∷ inputs) i ≡ Some a
        → (given inputs name ≡ None → (k : ℕ) → slice_get inputs k ≡ Some a → a.0 ≢ name) → a.0 ≢ name
    at true said none i is later = absurd (none-some b.1 (sym none))
    at false said none zero is later = λ same. let other : false ≡ true = said (ap (λ (x : Input). x.0) (same_Some b a is) ∙ same) in absurd cc
    at false said none (suc i) is later = later none i is

-- an input of a name, with its place
pub record GivenAt (inputs : Inputs) (name : List ℕ) : Type 0 where
  pub place : ℕ
  pub input : Input
  pub is : slice_get inputs place ≡ Some input
  pub named : input.0 ≡ name

-- what is given to a name is given by an input
pub given_some : (inputs : Inputs) (name : List ℕ) (v : Value) → given inputs name ≡ Some v → GivenAt inputs name
given_some [] name v some = absurd (none-some v some)
given_some (b ∷ inputs) name v some = at (bytes_eq b.0 name) (bytes_eq-Decides b.0 name).0 some (given_some inputs name v)
  where
    at : (t : Bool) → (t ≡ true → b.0 ≡ name) → (if t then Some b.1 else given inputs name) ≡ Some v → (given inputs name ≡ Some v → GivenAt inputs name)
        → GivenAt (b ∷ inputs) name
    at true same some rest = record { place = zero; input = b; is = refl; named = same refl }
    at false same some rest = let r : GivenAt inputs name = rest some in record { place = suc r.place; input = r.input; is = r.is; named = r.named }

-- one more input gives nothing to other names
given_other : (inputs : Inputs) (input : Input) (name : List ℕ) → input.0 ≢ name → given (inputs ++ input ∷ []) name ≡ given inputs name
given_other [] input name other = at (bytes_eq input.0 name) (bytes_eq-Decides input.0 name).0
  where
    at : (t : Bool) → (t ≡ true → input.0 ≡ name) → (if t then Some input.1 else None) ≡ None
    at true same = absurd (other (same refl))
    at false same = refl
given_other (b ∷ inputs) input name other = ap (λ o. if bytes_eq b.0 name then Some b.1 else o) (given_other inputs input name other)

-- and to its own its value, where nothing was given to it before
given_here : (inputs : Inputs) (input : Input) → given inputs input.0 ≡ None → given (inputs ++ input ∷ []) input.0 ≡ Some input.1
given_here [] input none = at (bytes_eq input.0 input.0) ((bytes_eq-Decides input.0 input.0).1 refl)
  where
    at : (t : Bool) → t ≡ true → (if t then Some input.1 else None) ≡ Some input.1
    at true said = refl
    at false said = absurd cc
given_here (b ∷ inputs) input none = at (bytes_eq b.0 input.0) none (given_here inputs input)
  where
    at : (t : Bool) → (if t then Some b.1 else given inputs input.0) ≡ None
        → (given inputs input.0 ≡ None → given (inputs ++ input ∷ []) input.0 ≡ Some input.1)
        → (if t then Some b.1 else given (inputs ++ input ∷ []) input.0) ≡ Some input.1
    at true none rest = absurd (none-some b.1 (sym none))
    at false none rest = rest none

-- no input gives nothing
pub gives_none : (variables : List Variable) (inputs : Inputs) (values : List (Option Value)) → length values ≡ length variables
    → ((x : ℕ) → x < length variables → slice_get values x ≡ Some None) → Gives variables (take 0 inputs) values
gives_none variables inputs values long none = record { long = long; each = λ x a is. none x (slice_get_within variables x a is) }

module _ (variables : List Variable) (own : HasOwnNames variables) (inputs : Inputs) (values : List (Option Value)) (gives : Gives variables inputs values)
    (input : Input) (x : ℕ) (it : IsForAt variables input x) where
  -- nothing stands at the place of an input to whose name nothing was given
  pub nothing_before : slice_get values x ≡ Some None → given inputs input.0 ≡ None
  nothing_before none = ap (given inputs) (sym it.fits.name) ∙ same_Some (given inputs it.variable.name) None (sym (gives.each x it.variable it.is) ∙ none)

  pub something_before : (v : Value) → slice_get values x ≡ Some (Some v) → GivenAt inputs input.0
  something_before v some =
      given_some inputs input.0 v (ap (given inputs) (sym it.fits.name) ∙ same_Some (given inputs it.variable.name) (Some v)
      (sym (gives.each x it.variable it.is) ∙ some))

  -- with one more input, whose value is put at its variable
  pub gives_more : slice_get values x ≡ Some None → Gives variables (inputs ++ input ∷ []) (slice_set values x (Some input.1))
  gives_more none = record { long = length-set values x (Some input.1) ∙ gives.long; each = λ y b is. at y b is (cases_eq y x) }
    where
      within : x < length values
      within = slice_get_within values x None none

      here : (y : ℕ) (b : Variable) → slice_get variables y ≡ Some b → y ≡ x → b.name ≡ input.0
      here y b is same = ap (λ (v : Variable). v.name) (same_Some b it.variable (sym is ∙ (ap (slice_get variables) same ∙ it.is))) ∙ it.fits.name

      at : (y : ℕ) (b : Variable) → slice_get variables y ≡ Some b → (y ≡ x) ⊎ (y ≢ x) → slice_get (slice_set values x (Some input.1)) y
          ≡ Some (given (inputs ++ input ∷ []) b.name)
      at y b is (inl same) =
          ap (slice_get (slice_set values x (Some input.1))) same
          ∙ (get_set_same values x (Some input.1) within
          ∙ ap Some (sym (given_here inputs input (nothing_before none)) ∙ ap (given (inputs ++ input ∷ [])) (sym (here y b is same))))
      at y b is (inr other) =
          get_set_other values x y (Some input.1) other
          ∙ (gives.each y b is ∙ ap Some
          (sym (given_other inputs input b.name (λ named. other (own.each y x b it.variable is it.is (sym named ∙ sym it.fits.name))))))

-- where no value is given, nothing stands at a place
pub not_given : (values : List (Option Value)) (x : ℕ) → x < length values → ¬ IsGiven values x → slice_get values x ≡ Some None
not_given values x below none = let there : (o : Option Value) × (slice_get values x ≡ Some o) = slice_get_there values x below in go there.0 there.1
  where
    go : (o : Option Value) → slice_get values x ≡ Some o → slice_get values x ≡ Some None
    go None is = is
    go (Some v) is = absurd (none (record { value = v; is = is }))

-- an input's variable has a place among the values
pub place_within : (variables : List Variable) (inputs : Inputs) (values : List (Option Value)) (x : ℕ) (input : Input) → Gives variables inputs values
    → IsForAt variables input x → x < length values
place_within variables inputs values x input gives it = omega (arith, gives.long, slice_get_within variables x it.variable it.is)

-- the inputs up to the next one
take_one_more : (inputs : Inputs) (n : ℕ) (input : Input) → slice_get inputs n ≡ Some input → take (n + 1) inputs ≡ take n inputs ++ input ∷ []
take_one_more inputs n input is =
    take_more inputs n input (slice_get_within inputs n input is) ∙ ap (λ a. take n inputs ++ a ∷ []) (get_or_from_slice_get inputs n input input is)

-- the next input is given to its variable
pub gives_next : (variables : List Variable) → HasOwnNames variables → (inputs : Inputs) (values : List (Option Value)) (n x : ℕ) (input : Input)
    → Gives variables (take n inputs) values
    → slice_get inputs n ≡ Some input → IsForAt variables input x → slice_get values x ≡ Some None
    → Gives variables (take (n + 1) inputs) (slice_set values x (Some input.1))
gives_next variables own inputs values n x input gives is it none =
    subst (λ xs. Gives variables xs (slice_set values x (Some input.1))) (sym (take_one_more inputs n input is))
    (gives_more variables own (take n inputs) values gives input x it none)

-- the next input is accepted at its place
pub accepted_next : (variables : List Variable) → HasOwnNames variables → (inputs : Inputs) (values : List (Option Value)) (n x : ℕ) (input : Input)
    → Gives variables (take n inputs) values
    → slice_get inputs n ≡ Some input → IsForAt variables input x → slice_get values x ≡ Some None
    → (a : Input) → slice_get inputs n ≡ Some a → IsAcceptedAt variables inputs n a
accepted_next variables own inputs values n x input gives is it none a at =
    subst (IsAcceptedAt variables inputs n) (same_Some input a (sym is ∙ at))
    (record {
      named = record { number = x; variable = it.variable; is = it.is; fits = it.fits };
      new = record {
        each = λ i b before. given_none (take n inputs) input.0 (nothing_before variables own (take n inputs) values gives input x it none) i b
            before;
      };
    })

-- an input whose variable was given a value before is not accepted
pub given_twice : (p : Program) → HasOwnNames p.variables → (inputs : Inputs) (values : List (Option Value)) (n x : ℕ) (input : Input) (v : Value)
    → Gives p.variables (take n inputs) values
    → slice_get inputs n ≡ Some input → IsForAt p.variables input x → slice_get values x ≡ Some (Some v) → ¬ AreAccepted p inputs
given_twice p own inputs values n x input v gives is it some accepted =
    let before = something_before p.variables own (take n inputs) values gives input x it v some in
    (accepted_at p inputs accepted n input is).new.each before.place before.input before.is before.named

-- an input that is for no variable is not accepted
pub given_nowhere : (p : Program) (inputs : Inputs) (n : ℕ) (input : Input) → slice_get inputs n ≡ Some input → ¬ NamesInput p.variables input
    → ¬ AreAccepted p inputs
given_nowhere p inputs n input is nowhere accepted = nowhere (accepted_at p inputs accepted n input is).named

-- all inputs are given to their variables
pub gives_all : (variables : List Variable) (inputs : Inputs) (values : List (Option Value)) (n : ℕ) → length inputs ≤ n
    → Gives variables (take n inputs) values → Gives variables inputs values
gives_all variables inputs values n past gives = subst (λ xs. Gives variables xs values) (take_all n inputs past) gives
