-- What the members of an object give to inputs is accepted: each member has a name of its own.
use Rattle.std.proofs.Common.{◌≡◌, ◌≢◌, ℕ, zero, suc, ◌<◌, ◌≤◌, length, ◌&&◌, ℤ, Bool, true, false, cond, List, [], ◌∷◌, Option, Some, None, option_map}
use Rattle.std.proofs.Common.{Ordering, Less, Equal, Greater, refl, sym, ap, subst, ◌∙◌, arith, slice_get, nat_eq}
use Rattle.std.specs.Bool.{⊤}
use Rattle.std.specs.Prelude.{option_and_then}
use Rattle.std.specs.Ordering.{nat_cmp, match_ordering, ordering_reverse}
use Rattle.std.specs.Cmp.Lexicographic.{pointwise, slice_cmp, nat_list_cmp_total}
use Rattle.std.proofs.lemmas.Option.{none-some, same_Some}
use Rattle.std.proofs.lemmas.Slice.Eq.{bytes_eq-Decides}
use Rattle.json.specs.Json as json
use Rattle.json.specs.Lex.{tokens}
use Rattle.serde_json.specs.Data.{Data, number, array, object, Members, no_members, member, put}
use Rattle.serde_json.specs.Read.{of_json, of_items, of_members, number_of, read, max_depth}
use Rattle.serde_json.specs.Find.{as_bool, as_number, as_i64}
use Rattle.sc_values.specs.Operator.{kind_of}
use Rattle.sc_values.specs.declared.value.Kind.{Kind}
use Rattle.sc_values.specs.declared.value.Kind.TheVariants as kind
use Rattle.sc_values.specs.declared.value.Value.{Value}
use Rattle.sc_values.specs.declared.value.Value.TheVariants as value
use Rattle.sc_graph.specs.declared.program.Role.{Role}
use Rattle.sc_graph.specs.declared.program.Role.TheVariants as role
use Rattle.sc_graph.specs.declared.program.Variable.{Variable}
use Rattle.sc_graph.specs.Program.{Program}
use Rattle.sc_graph.specs.Tick.{Inputs, AreAccepted}
use Rattle.trace_lines.specs.Line.{IsObjectOf, given, input_of, inputs_of, int32_of, is_input, is_int32, value_of}
use Rattle.trace_lines.specs.Lines.{line_limit}
use Rattle.trace_lines.proofs.Standing.{both_of}
use Rattle.trace_lines.proofs.InOrder.{turned}
use Rattle.trace_player.specs.Trace.{GivesInputs, GivesNoInputs}

abbrev order : List ℕ → List ℕ → Ordering
order = slice_cmp nat_cmp

own : (o : Ordering) → o ≡ ordering_reverse o → o ≢ Less
own Less e is = absurd cc
own Equal e is = absurd cc
own Greater e is = absurd cc

-- a name is not before itself
not_same : (a b : List ℕ) → order a b ≡ Less → a ≢ b
not_same a b less same = own (order a a) (nat_list_cmp_total.antisymm a a) (ap (order a) same ∙ less)

-- ---- members in order

-- a name is before those of all members
abbrev IsAhead : List ℕ → Members → Type 0
IsAhead k no_members = ⊤
IsAhead k (member l e ms) = (order k l ≡ Less) × IsAhead k ms

abbrev AreSorted : Members → Type 0
AreSorted no_members = ⊤
AreSorted (member k d ms) = IsAhead k ms × AreSorted ms

ahead_later : (a b : List ℕ) (ms : Members) → order a b ≡ Less → IsAhead b ms → IsAhead a ms
ahead_later a b no_members less ahead = tt
ahead_later a b (member l e ms) less ahead = (nat_list_cmp_total.trans a b l less ahead.0, ahead_later a b ms less ahead.1)

ahead_by : (o : Ordering) (name k l : List ℕ) (d e : Data) (ms more : Members) → order name k ≡ Less → IsAhead name (member l e ms) → IsAhead name more
    → IsAhead name (match_ordering o (member k d (member l e ms)) (member l d ms) (member l e more))
ahead_by Less name k l d e ms more less ahead later = (less, ahead)
ahead_by Equal name k l d e ms more less ahead later = ahead
ahead_by Greater name k l d e ms more less ahead later = (ahead.0, later)

ahead_put : (name k : List ℕ) (d : Data) (ms : Members) → order name k ≡ Less → IsAhead name ms → IsAhead name (put k d ms)
ahead_put name k d no_members less ahead = (less, tt)
ahead_put name k d (member l e ms) less ahead = ahead_by (order k l) name k l d e ms (put k d ms) less ahead (ahead_put name k d ms less ahead.1)

sorted_by : (o : Ordering) (k l : List ℕ) (d e : Data) (ms : Members) → order k l ≡ o → AreSorted (member l e ms) → AreSorted (put k d ms)
    → AreSorted (match_ordering o (member k d (member l e ms)) (member l d ms) (member l e (put k d ms)))
sorted_by Less k l d e ms is sorted more = ((is, ahead_later k l ms is sorted.0), sorted)
sorted_by Equal k l d e ms is sorted more = sorted
sorted_by Greater k l d e ms is sorted more = (ahead_put l k d ms (turned k l Greater is) sorted.0, more)

sorted_put : (k : List ℕ) (d : Data) (ms : Members) → AreSorted ms → AreSorted (put k d ms)
sorted_put k d no_members sorted = (tt, tt)
sorted_put k d (member l e ms) sorted = sorted_by (order k l) k l d e ms refl sorted (sorted_put k d ms sorted.1)

came : {A B : Type 0} (f : A → Option B) (o : Option A) (b : B) → option_and_then f o ≡ Some b → (a : A) × (o ≡ Some a) × (f a ≡ Some b)
came f None b e = absurd (none-some b e)
came f (Some a) b e = (a, refl, e)

sorted_members : (ms : json.Members) (found out : Members) → AreSorted found → of_members ms found ≡ Some out → AreSorted out
sorted_members json.no_members found out sorted e = subst AreSorted (same_Some found out e) sorted
sorted_members (json.member k j ms) found out sorted e =
    let one = came (λ d. of_members ms (put k d found)) (of_json j) out e in
    sorted_members ms (put k one.0 found) out (sorted_put k one.0 found sorted) one.2

-- ---- an object that was read

no_object : {A : Type 0} (f : A → Data) (o : Option A) (ms : Members) → ((a : A) → f a ≢ object ms) → option_map f o ≢ Some (object ms)
no_object f None ms other e = absurd (none-some (object ms) e)
no_object f (Some a) ms other e = other a (same_Some (f a) (object ms) e)

object_by : (o : Option Members) (ms : Members) → option_map object o ≡ Some (object ms) → o ≡ Some ms
object_by None ms e = absurd (none-some (object ms) e)
object_by (Some a) ms e = let same : object a ≡ object ms = same_Some (object a) (object ms) e in cc

sorted_json : (j : json.Json) (ms : Members) → of_json j ≡ Some (object ms) → AreSorted ms
sorted_json json.null ms e = absurd cc
sorted_json (json.boolean b) ms e = absurd cc
sorted_json (json.number s) ms e = absurd (no_object number (number_of s) ms (λ n is. cc) e)
sorted_json (json.string s) ms e = absurd cc
sorted_json (json.array js) ms e = absurd (no_object array (of_items js) ms (λ ds is. cc) e)
sorted_json (json.object js) ms e = sorted_members js no_members ms tt (object_by (of_members js no_members) ms e)

sorted_read : (text : List ℕ) (ms : Members) → read text ≡ Some (object ms) → AreSorted ms
sorted_read text ms e =
    let one = came of_json (option_and_then (λ p. json.if_last p.0 p.1) (json.value max_depth (tokens text))) (object ms) e in
    sorted_json one.0 ms one.2

-- ---- what one member gives

-- an input of this name and kind
record IsFound (variables : List Variable) (name : List ℕ) (a : Variable) : Type 0 where
  pub place : ℕ
  pub there : slice_get variables place ≡ Some a
  pub named : a.name ≡ name
  pub input : a.role ≡ role.Input

of_role : (r : Role) → is_input r ≡ true → r ≡ role.Input
of_role role.Input e = refl
of_role role.Output e = absurd cc
of_role role.Local e = absurd cc

found_by : (test same : Bool) (b a : Variable) (variables : List Variable) (name : List ℕ) (rest : Option Variable) → is_input b.role ≡ test
    → (same ≡ true → b.name ≡ name) → (rest ≡ Some a → IsFound variables name a)
    → cond (test && same) (Some b) rest ≡ Some a → IsFound (b ∷ variables) name a
found_by true true b a variables name rest tested named later e =
    let is : b ≡ a = same_Some b a e in
    subst (IsFound (b ∷ variables) name) is (record { place = zero; there = refl; named = named refl; input = of_role b.role tested })
found_by true false b a variables name rest tested named later e =
    let l : IsFound variables name a = later e in record { place = suc l.place; there = l.there; named = l.named; input = l.input }
found_by false same b a variables name rest tested named later e =
    let l : IsFound variables name a = later e in record { place = suc l.place; there = l.there; named = l.named; input = l.input }

found : (variables : List Variable) (name : List ℕ) (a : Variable) → input_of variables name ≡ Some a → IsFound variables name a
found [] name a e = absurd (none-some a e)
found (b ∷ variables) name a e =
    found_by (is_input b.role) (pointwise nat_eq b.name name) b a variables name (input_of variables name) refl (bytes_eq-Decides b.name name).0
    (found variables name a) e

kind_bool : (o : Option Bool) (v : Value) → option_map value.Bool o ≡ Some v → kind.Bool ≡ kind_of v
kind_bool None v e = absurd (none-some v e)
kind_bool (Some b) v e = ap kind_of (same_Some (value.Bool b) v e)

kind_int_by : (test : Bool) (z : ℤ) (v : Value) → cond test (Some (value.Int z)) None ≡ Some v → kind.Int ≡ kind_of v
kind_int_by true z v e = ap kind_of (same_Some (value.Int z) v e)
kind_int_by false z v e = absurd (none-some v e)

kind_int : (o : Option ℤ) (v : Value) → option_and_then int32_of o ≡ Some v → kind.Int ≡ kind_of v
kind_int None v e = absurd (none-some v e)
kind_int (Some z) v e = kind_int_by (is_int32 z) z v e

kind_value : (k : Kind) (d : Data) (v : Value) → value_of k d ≡ Some v → k ≡ kind_of v
kind_value kind.Bool d v e = kind_bool (as_bool d) v e
kind_value kind.Int d v e = kind_int (option_and_then as_i64 (as_number d)) v e

-- a value for an input
record GivesOne (variables : List Variable) (name : List ℕ) (g : List ℕ × Value) : Type 0 where
  pub variable : Variable
  pub is : IsFound variables name variable
  pub named : g.0 ≡ name
  pub kinded : variable.kind ≡ kind_of g.1

mapped : {A B : Type 0} (f : A → B) (o : Option A) (b : B) → option_map f o ≡ Some b → (a : A) × (o ≡ Some a) × (f a ≡ b)
mapped f None b e = absurd (none-some b e)
mapped f (Some a) b e = (a, refl, same_Some (f a) b e)

gives_one : (variables : List Variable) (name : List ℕ) (d : Data) (g : List ℕ × Value) → given variables name d ≡ Some g → GivesOne variables name g
gives_one variables name d g e =
    let one = came (λ a. option_map (λ v. (a.name, v)) (value_of a.kind d)) (input_of variables name) g e in
    let a = one.0 in
    let valued = mapped (λ v. (a.name, v)) (value_of a.kind d) g one.2 in
    let is : IsFound variables name a = found variables name a one.1 in
    record {
      variable = a;
      is = is;
      named = sym (ap (λ (h : List ℕ × Value). h.0) valued.2) ∙ is.named;
      kinded = kind_value a.kind d valued.0 valued.1 ∙ ap (λ (h : List ℕ × Value). kind_of h.1) valued.2;
    }

-- ---- what all give

-- each of these is a value for an input
abbrev AreGiven : List Variable → Inputs → Type 0
AreGiven variables gs = (i : ℕ) (g : List ℕ × Value) → slice_get gs i ≡ Some g → GivesOne variables g.0 g

-- none of these has this name
abbrev HasNone : List ℕ → Inputs → Type 0
HasNone name gs = (i : ℕ) (g : List ℕ × Value) → slice_get gs i ≡ Some g → name ≢ g.0

given_by : (variables : List Variable) (h : List ℕ × Value) (hs : Inputs) → GivesOne variables h.0 h → AreGiven variables hs
    → (i : ℕ) (g : List ℕ × Value) → slice_get (h ∷ hs) i ≡ Some g → GivesOne variables g.0 g
given_by variables h hs first rest zero g e = let same : h ≡ g = same_Some h g e in subst (λ (k : List ℕ × Value). GivesOne variables k.0 k) same first
given_by variables h hs first rest (suc i) g e = rest i g e

are_given : (variables : List Variable) (ms : Members) (gs : Inputs) → inputs_of variables ms ≡ Some gs → AreGiven variables gs
are_given variables no_members gs e = λ i g at. absurd (none-some g (subst (λ (xs : Inputs). slice_get xs i ≡ Some g) (sym (same_Some [] gs e)) at))
are_given variables (member l d ms) gs e =
    let both = both_of (given variables l d) (inputs_of variables ms) gs e in
    let h = both.0 in
    let hs = both.1 in
    let one : GivesOne variables l h = gives_one variables l d h both.2 in
    let named : GivesOne variables h.0 h = subst (λ n. GivesOne variables n h) (sym one.named) one in
    λ i g at. given_by variables h hs named (are_given variables ms hs both.3) i g (subst (λ (xs : Inputs). slice_get xs i ≡ Some g) (sym both.4) at)

none_by : (name : List ℕ) (h : List ℕ × Value) (hs : Inputs) → name ≢ h.0 → HasNone name hs → (i : ℕ) (g : List ℕ × Value) → slice_get (h ∷ hs) i ≡ Some g
    → name ≢ g.0
none_by name h hs other rest zero g e = λ is. other (is ∙ ap (λ (k : List ℕ × Value). k.0) (sym (same_Some h g e)))
none_by name h hs other rest (suc i) g e = rest i g e

has_none : (variables : List Variable) (name : List ℕ) (ms : Members) (gs : Inputs) → IsAhead name ms → inputs_of variables ms ≡ Some gs → HasNone name gs
has_none variables name no_members gs ahead e =
    λ i g at. absurd (none-some g (subst (λ (xs : Inputs). slice_get xs i ≡ Some g) (sym (same_Some [] gs e)) at))
has_none variables name (member l d ms) gs ahead e =
    let both = both_of (given variables l d) (inputs_of variables ms) gs e in
    let h = both.0 in
    let hs = both.1 in
    let one : GivesOne variables l h = gives_one variables l d h both.2 in
    let other : name ≢ h.0 = λ is. not_same name l ahead.0 (is ∙ one.named) in
    λ i g at. none_by name h hs other (has_none variables name ms hs ahead.1 both.3) i g (subst (λ (xs : Inputs). slice_get xs i ≡ Some g) (sym both.4) at)

abbrev AreApart : Inputs → Type 0
AreApart gs = (i j : ℕ) (a b : List ℕ × Value) → i < j → slice_get gs i ≡ Some a → slice_get gs j ≡ Some b → a.0 ≢ b.0

apart_by : (h : List ℕ × Value) (hs : Inputs) → HasNone h.0 hs → AreApart hs
    → (i j : ℕ) (a b : List ℕ × Value) → i < j → slice_get (h ∷ hs) i ≡ Some a → slice_get (h ∷ hs) j ≡ Some b → a.0 ≢ b.0
apart_by h hs none rest i zero a b less first second = absurd (omega (arith, less))
apart_by h hs none rest zero (suc j) a b less first second =
    λ is. none j b second (ap (λ (k : List ℕ × Value). k.0) (same_Some h a first) ∙ is)
apart_by h hs none rest (suc i) (suc j) a b less first second = rest i j a b (omega (arith, less)) first second

are_apart : (variables : List Variable) (ms : Members) (gs : Inputs) → AreSorted ms → inputs_of variables ms ≡ Some gs → AreApart gs
are_apart variables no_members gs sorted e =
    λ i j a b less first second. absurd (none-some a (subst (λ (xs : Inputs). slice_get xs i ≡ Some a) (sym (same_Some [] gs e)) first))
are_apart variables (member l d ms) gs sorted e =
    let both = both_of (given variables l d) (inputs_of variables ms) gs e in
    let h = both.0 in
    let hs = both.1 in
    let one : GivesOne variables l h = gives_one variables l d h both.2 in
    let none : HasNone h.0 hs = subst (λ n. HasNone n hs) (sym one.named) (has_none variables l ms hs sorted.0 both.3) in
    λ i j a b less first second.
    apart_by h hs none (are_apart variables ms hs sorted.1 both.3) i j a b less (subst (λ (xs : Inputs). slice_get xs i ≡ Some a) (sym both.4) first)
    (subst (λ (xs : Inputs). slice_get xs j ≡ Some b) (sym both.4) second)

-- what the members of an object give is accepted
are_accepted : (p : Program) (line : List ℕ) (members : Members) (inputs : Inputs) → IsObjectOf line members → inputs_of p.variables members ≡ Some inputs
    → AreAccepted p inputs
are_accepted p line members inputs is e =
    let given = are_given p.variables members inputs e in
    record {
      named = λ i name v at.
          let one : GivesOne p.variables name (name, v) = given i (name, v) at in
          (one.is.place, one.variable, one.is.there, one.is.named, one.is.input, one.kinded);
      once = are_apart p.variables members inputs (sorted_read line members is.1) e;
    }

-- what a line gives
pub gives_inputs : (p : Program) (variables : List Variable) (line : List ℕ) (inputs : Inputs) → variables ≡ p.variables → length line ≤ line_limit
    → ((members : Members) × IsObjectOf line members × (inputs_of variables members ≡ Some inputs)) → GivesInputs p line inputs
gives_inputs p variables line inputs same short gives =
    let given : inputs_of p.variables gives.0 ≡ Some inputs = subst (λ xs. inputs_of xs gives.0 ≡ Some inputs) same gives.2 in
    record { members = gives.0; short = short; object = gives.1; given = given; accepted = are_accepted p line gives.0 inputs gives.1 given }

-- it gives nothing
pub gives_none : (p : Program) (variables : List Variable) (line : List ℕ) → variables ≡ p.variables → length line ≤ line_limit
    → ((members : Members) × IsObjectOf line members × (inputs_of variables members ≡ None)) → GivesNoInputs p line
gives_none p variables line same short gives =
    let none : inputs_of p.variables gives.0 ≡ None = subst (λ xs. inputs_of xs gives.0 ≡ None) same gives.2 in
    record { members = gives.0; short = short; object = gives.1; none = λ inputs given accepted. none-some inputs (sym none ∙ given) }
