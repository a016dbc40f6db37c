-- When two inits are by one literal.
use Rattle.std.proofs.Common.{◌≡◌, Bool, true, false, List, [], ◌∷◌, Option, Some, None, refl, sym, ap, ◌∙◌}
use Rattle.std.proofs.lemmas.Option.{none-some, same_Some}
use Rattle.std.proofs.lemmas.Bool.Decides.{Decides-int_eq}
use Rattle.sc_values.specs.declared.value.Value.{Value}
use Rattle.sc_values.specs.declared.value.Value.TheVariants as value
use Rattle.sc_values.specs.declared.operation.Operation.{Operation}
use Rattle.sc_values.specs.declared.operation.Operation.TheVariants as op
use Rattle.sc_values.specs.Access.{Access, Clash, two_inits, two_updates, Writing, Nothing, Init, Update, same_value, same_literal, one_literal}
use Rattle.sc_values.specs.Code.{literal_of, code_value}
use Rattle.sc_values.specs.Operator.{same}
use Rattle.sc_values.proofs.Induction.{value-literal}

same_truth : (a b : Bool) → same a b ≡ true → a ≡ b
same_truth true true h = refl
same_truth false false h = refl
same_truth true false h = cc
same_truth false true h = cc

truth_itself : (a : Bool) → same a a ≡ true
truth_itself true = refl
truth_itself false = refl

-- equal values are one value
pub value_from_same : (v w : Value) → same_value v w ≡ true → v ≡ w
value_from_same (value.Bool a) (value.Bool b) h = ap value.Bool (same_truth a b h)
value_from_same (value.Int m) (value.Int n) h = ap value.Int ((Decides-int_eq m n).0 h)
value_from_same (value.Bool a) (value.Int n) h = absurd (cc)
value_from_same (value.Int m) (value.Bool b) h = absurd (cc)

pub value_itself : (v : Value) → same_value v v ≡ true
value_itself (value.Bool a) = truth_itself a
value_itself (value.Int m) = (Decides-int_eq m m).1 refl

-- two answers that are true in the same cases are one
one_answer : (a b : Bool) → (a ≡ true → b ≡ true) → (b ≡ true → a ≡ true) → a ≡ b
one_answer true b to from = sym (to refl)
one_answer false true to from = from refl
one_answer false false to from = refl

pub same_value_turned : (v w : Value) → same_value v w ≡ same_value w v
same_value_turned v w =
    one_answer (same_value v w) (same_value w v)
    (λ h. ap (same_value w) (value_from_same v w h) ∙ value_itself w)
    (λ h. ap (same_value v) (value_from_same w v h) ∙ value_itself v)

same_literal_turned : (a b : Option Value) → same_literal a b ≡ same_literal b a
same_literal_turned (Some v) (Some w) = same_value_turned v w
same_literal_turned (Some v) None = refl
same_literal_turned None (Some w) = refl
same_literal_turned None None = refl

-- by one literal, whichever is the first
pub one_literal_turned : (a b : Writing) → one_literal a b ≡ one_literal b a
one_literal_turned (Init x v) (Init y w) = same_literal_turned v w
one_literal_turned (Init x v) Nothing = refl
one_literal_turned (Init x v) (Update y g) = refl
one_literal_turned Nothing (Init y w) = refl
one_literal_turned Nothing Nothing = refl
one_literal_turned Nothing (Update y g) = refl
one_literal_turned (Update x f) (Init y w) = refl
one_literal_turned (Update x f) Nothing = refl
one_literal_turned (Update x f) (Update y g) = refl

-- the one literal of two inits
pub record OneLiteral (a b : Option Value) : Type 0 where
  pub value : Value
  pub first : a ≡ Some value
  pub second : b ≡ Some value

pub literal_from_same : (a b : Option Value) → same_literal a b ≡ true → OneLiteral a b
literal_from_same (Some v) (Some w) h = record { value = v; first = refl; second = ap Some (sym (value_from_same v w h)) }
literal_from_same (Some v) None h = absurd (cc)
literal_from_same None (Some w) h = absurd (cc)
literal_from_same None None h = absurd (cc)

-- the value of a code that is nothing but a literal
pub literal_value : (code : List Operation) (v : Value) (variables : List Value) → literal_of code ≡ Some v → code_value code variables ≡ Some v
literal_value (op.Literal w ∷ []) v variables h = value-literal w variables ∙ h
literal_value (op.Literal w ∷ o ∷ code) v variables h = absurd (none-some v h)
literal_value (op.Load x ∷ code) v variables h = absurd (none-some v h)
literal_value (op.Unary f ∷ code) v variables h = absurd (none-some v h)
literal_value (op.Binary f ∷ code) v variables h = absurd (none-some v h)
literal_value [] v variables h = absurd (none-some v h)

-- a value that a code has is its literal, if it carries one
pub literal_is_value : (code : List Operation) (v w : Value) (variables : List Value) → code_value code variables ≡ Some v → literal_of code ≡ Some w → v ≡ w
literal_is_value code v w variables gives is = same_Some v w (sym gives ∙ literal_value code w variables is)

-- a clash is one the other way round
pub clash_turned : (a b : Access) → Clash a b → Clash b a
clash_turned a b (two_inits x i j apart) = two_inits x j i (one_literal_turned b.writes a.writes ∙ apart)
clash_turned a b (two_updates x f g i j apart) = two_updates x g f j i (λ e. apart (sym e))
