-- Inputs in the order of their names, and values that are given to them.
use Rattle.std.proofs.Common.{◌≡◌, ℕ, zero, suc, ◌+◌, ◌<◌, ◌≤◌, List, [], ◌∷◌, ◌++◌, true, length, Some, Less, Greater}
use Rattle.std.proofs.Common.{refl, sym, ap, ◌∙◌, arith, slice_get, subst}
use Rattle.std.specs.Ordering.{is_gt}
use Rattle.json.specs.Token.{Token}
use Rattle.serde_json.specs.Data.{Data}
use Rattle.sc_values.specs.declared.value.Kind.{Kind}
use Rattle.sc_values.specs.declared.value.Kind.TheVariants as kind
use Rattle.sc_values.specs.declared.value.Value.{Value}
use Rattle.sc_values.specs.Operator.{kind_of, initial_value}
use Rattle.sc_graph.specs.declared.program.Variable.{Variable}
use Rattle.trace_lines.specs.Line.{input_of, value_of, given}
use Rattle.trace_lines.specs.Inside.Ordered.{IsBefore, AreInOrder, is_behind_last, IsNamedAt, with_given}
use Rattle.trace_lines.specs.Inside.Members.{Spells, BeginsGiving, Stands}
use Rattle.trace_lines.specs.Inside.Expected.{IsInput, AreInputs, ListsInputs, AreBehind, WasGiven, GivesFirstTo, BeginsGivingTo}
use Rattle.trace_lines.proofs.InOrder.{order, turned, with_given-last, is_behind_last-append, in_order-with_given}
use Rattle.trace_lines.proofs.Standing.{name-input_of, one_more}

-- ---- the order of the inputs

before_at : (name : List ℕ) (hs : List (List ℕ × Value)) (j : ℕ) (f : List ℕ × Value) → IsBefore name hs → slice_get hs j ≡ Some f → order name f.0 ≡ Less
before_at name [] j f before got = absurd cc
before_at name (h ∷ hs) zero f before got = let same : h ≡ f = cc in subst (λ g. order name g.0 ≡ Less) same before.0
before_at name (h ∷ hs) (suc j) f before got = before_at name hs j f before.1 got

order_of_places : (es : List (List ℕ × Value)) (i j : ℕ) (e f : List ℕ × Value) → AreInOrder es → i < j → slice_get es i ≡ Some e → slice_get es j ≡ Some f
    → order e.0 f.0 ≡ Less
order_of_places [] i j e f ordered less got later = absurd cc
order_of_places (h ∷ es) zero zero e f ordered less got later = absurd (omega arith)
order_of_places (h ∷ es) zero (suc j) e f ordered less got later =
    let same : h ≡ e = cc in subst (λ g. order g.0 f.0 ≡ Less) same (before_at h.0 es j f ordered.0 later)
order_of_places (h ∷ es) (suc i) zero e f ordered less got later = absurd (omega arith)
order_of_places (h ∷ es) (suc i) (suc j) e f ordered less got later = order_of_places es i j e f ordered.1 (omega (arith, less)) got later

pub within : (es : List (List ℕ × Value)) (i : ℕ) (e : List ℕ × Value) → slice_get es i ≡ Some e → i < length es
within [] i e got = absurd cc
within (h ∷ es) zero e got = omega arith
within (h ∷ es) (suc i) e got = let rest = within es i e got in omega (arith, rest)

-- ---- one more value is given

-- none is behind the end of the inputs
pub none_behind : (es found : List (List ℕ × Value)) → AreBehind es (length es) found
none_behind es found = record { all = λ i e le got. let inside = within es i e got in absurd (omega (arith, le, inside)) }

-- before the first value is given, all are behind those that were given values
pub all_behind : (es : List (List ℕ × Value)) → AreBehind es 0 []
all_behind es = record { all = λ i e le got. refl }

-- those behind the one at a place are behind it where it comes last
pub behind_pushed : (es found new : List (List ℕ × Value)) (place : ℕ) (e : List ℕ × Value) (v : Value) → AreInOrder es → slice_get es place ≡ Some e
    → new ≡ found ++ (e.0, v) ∷ [] → AreBehind es (place + 1) new
behind_pushed es found new place e v ordered there is = record {
  all = λ i f le got.
      let less : order e.0 f.0 ≡ Less = order_of_places es place i e f ordered (omega (arith, le)) there got in
      let behind : order f.0 e.0 ≡ Greater = turned e.0 f.0 Less less in
      ap (is_behind_last f.0) is ∙ is_behind_last-append f.0 found (e.0, v) ∙ ap is_gt behind;
}

pub given_last : (es found new : List (List ℕ × Value)) (from : ℕ) (p : ℕ × Value) (e : List ℕ × Value) → AreInOrder es → AreInOrder found
    → AreBehind es from found → from ≤ p.0 → slice_get es p.0 ≡ Some e → new ≡ found ++ (e.0, p.1) ∷ [] → WasGiven es p found (p.0 + 1) new
given_last es found new from p e ordered stands behind le there is = record {
  one = e;
  there = there;
  gained = is ∙ sym (with_given-last (e.0, p.1) found stands (behind.all p.0 e le there));
  behind = behind_pushed es found new p.0 e p.1 ordered there is;
}

pub given_among : (es found new : List (List ℕ × Value)) (p : ℕ × Value) (e : List ℕ × Value) → slice_get es p.0 ≡ Some e
    → new ≡ with_given (e.0, p.1) found → WasGiven es p found (length es) new
given_among es found new p e there is = record { one = e; there = there; gained = is; behind = none_behind es new }

-- a member was read, and its value was given
pub member_given : (variables : List Variable) (es : List (List ℕ × Value)) (whole old left : List Token) (p : ℕ × Value) (found : List (List ℕ × Value))
    (from : ℕ) (new : List (List ℕ × Value)) → Stands variables whole old found → BeginsGivingTo variables es old left p
    → WasGiven es p found from new → Stands variables whole left new
member_given variables es whole old left p found from new stands begun was =
    let there : Some begun.one ≡ Some was.one = sym begun.there ∙ was.there in
    let same : begun.one ≡ was.one = cc in
    let gives : BeginsGiving variables old left (was.one.0, p.1) = subst (λ o. BeginsGiving variables old left (o.0, p.1)) same begun.gives in
    subst (Stands variables whole left) (sym was.gained) (one_more variables whole old left found (was.one.0, p.1) stands gives)

-- ---- inputs among variables

pub input_at : (variables : List Variable) (es : List (List ℕ × Value)) (i : ℕ) (e : List ℕ × Value) → AreInputs variables es → slice_get es i ≡ Some e
    → IsInput variables e
input_at variables [] i e are got = absurd cc
input_at variables (h ∷ es) zero e are got = let same : h ≡ e = cc in subst (IsInput variables) same are.0
input_at variables (h ∷ es) (suc i) e are got = input_at variables es i e are.1 got

inputs-append : (variables : List Variable) (es : List (List ℕ × Value)) (e : List ℕ × Value) → AreInputs variables es → IsInput variables e
    → AreInputs variables (es ++ e ∷ [])
inputs-append variables [] e are is = (is, tt)
inputs-append variables (h ∷ es) e are is = (are.0, inputs-append variables es e are.1 is)

kind-initial : (k : Kind) → k ≡ kind_of (initial_value k)
kind-initial kind.Bool = refl
kind-initial kind.Int = refl

input_is : (variables : List Variable) (name : List ℕ) (a : Variable) → input_of variables name ≡ Some a → IsInput variables (a.name, initial_value a.kind)
input_is variables name a e = record {
  input = a;
  there = ap (input_of variables) (name-input_of variables name a e) ∙ e;
  kinded = kind-initial a.kind;
}

-- one more input is listed
pub lists_more : (variables : List Variable) (es new : List (List ℕ × Value)) (name : List ℕ) (a : Variable) → ListsInputs variables es
    → input_of variables name ≡ Some a → is_behind_last a.name es ≡ true → new ≡ es ++ (a.name, initial_value a.kind) ∷ [] → ListsInputs variables new
lists_more variables es new name a lists e behind is =
    let input : List ℕ × Value = (a.name, initial_value a.kind) in
    let last = with_given-last input es lists.in_order behind in
    subst (ListsInputs variables) (sym is) (record {
      inputs = inputs-append variables es input lists.inputs (input_is variables name a e);
      in_order = subst AreInOrder last (in_order-with_given input es lists.in_order);
    })

pub lists_none : (variables : List Variable) → ListsInputs variables []
lists_none variables = record { inputs = tt; in_order = tt }

given_is : (variables : List Variable) (e : List ℕ × Value) (name : List ℕ) (d : Data) (v : Value) → IsInput variables e → e.0 ≡ name
    → value_of (kind_of e.1) d ≡ Some v → given variables name d ≡ Some (e.0, v)
given_is variables e name d v is named value =
    let found : input_of variables name ≡ Some is.input = ap (input_of variables) (sym named) ∙ is.there in
    let kinded : value_of is.input.kind d ≡ Some v = ap (λ k. value_of k d) is.kinded ∙ value in
    let same : is.input.name ≡ e.0 = name-input_of variables e.0 is.input is.there in
    rw (found, kinded) (ap (λ n. Some (n, v)) same)

-- a member of the name of an input gives it a value
pub first_given : (variables : List Variable) (es : List (List ℕ × Value)) (place : ℕ) (e : List ℕ × Value) (name : List ℕ) (ts left : List Token) (t : Token)
    (v : Value) → ListsInputs variables es → slice_get es place ≡ Some e → IsNamedAt es place name → ts ≡ t ∷ left → Spells (kind_of e.1) t v
    → GivesFirstTo variables es name ts left (place, v)
first_given variables es place e name ts left t v lists there is begun spells =
    let first : Some is.one ≡ Some e = sym is.there ∙ there in
    let same : is.one ≡ e = cc in
    let named : e.0 ≡ name = ap (λ i. i.0) (sym same) ∙ is.named in record {
      one = e;
      there = there;
      gives = (t, spells.0, begun, spells.1, given_is variables e name spells.0 v (input_at variables es place e lists.inputs there) named spells.2);
    }
