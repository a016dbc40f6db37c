-- One more member of an object, and its end.
use Rattle.std.proofs.Common.{◌≡◌, ℕ, ◌-◌, List, [], ◌∷◌, ◌&&◌, Bool, true, false, cond, length, Option, Some, None, option_map, Ordering, Less, Equal, Greater}
use Rattle.std.proofs.Common.{refl, sym, ap, subst, ◌∙◌, arith, nat_eq}
use Rattle.std.specs.Prelude.{option_and_then, IfSome}
use Rattle.std.specs.Ordering.{nat_cmp, match_ordering}
use Rattle.std.specs.Cmp.Lexicographic.{pointwise, slice_cmp}
use Rattle.std.proofs.lemmas.Slice.Eq.{bytes_eq-Decides}
use Rattle.json.specs.Token.{Token}
use Rattle.json.specs.Lex.{tokens}
use Rattle.json.specs.Json as json
use Rattle.json.specs.Json.{read_key, parse_map}
use Rattle.json.proofs.Grammar.{value_is, value-begin_object, read_key-shorter}
use Rattle.serde_json.specs.Data.{Num, Data, boolean, number, object, Members, no_members, member, put}
use Rattle.serde_json.specs.Read.{number_of, of_json, read}
use Rattle.serde_json.specs.Find.{as_i64}
use Rattle.sc_values.specs.declared.value.Kind.{Kind}
use Rattle.sc_values.specs.declared.value.Kind.TheVariants as kind
use Rattle.sc_values.specs.declared.value.Value.{Value}
use Rattle.sc_values.specs.declared.value.Value.TheVariants as value
use Rattle.sc_graph.specs.declared.program.Variable.{Variable}
use Rattle.trace_lines.specs.Line.{int32_of, is_input, input_of, value_of, given, inputs_of}
use Rattle.trace_lines.specs.Inside.Ordered.{with_given}
use Rattle.trace_lines.specs.Inside.Members.{data_of, Spells, BeginsGiving, members_from, Stands, GivesAll}
use Rattle.trace_lines.proofs.Turns.{member_read, members_over, whole_object}
use Rattle.trace_lines.proofs.InOrder.{same_of, in_order-with_given}

-- ---- what a member gives has its name

named_by : (test same : Bool) (a b : Variable) (name : List ℕ) (rest : Option Variable) → (same ≡ true → a.name ≡ name) → (rest ≡ Some b → b.name ≡ name)
    → cond (test && same) (Some a) rest ≡ Some b → b.name ≡ name
named_by true true a b name rest first later e = let is : a ≡ b = cc in ap (λ c. c.name) (sym is) ∙ first refl
named_by true false a b name rest first later e = later e
named_by false same a b name rest first later e = later e

pub name-input_of : (variables : List Variable) (name : List ℕ) (b : Variable) → input_of variables name ≡ Some b → b.name ≡ name
name-input_of [] name b e = absurd cc
name-input_of (a ∷ variables) name b e =
    named_by (is_input a.role) (pointwise nat_eq a.name name) a b name (input_of variables name) (bytes_eq-Decides a.name name).0
    (name-input_of variables name b) e

pair_of : (name : List ℕ) (o : Option Value) (g : List ℕ × Value) → option_map (λ v. (name, v)) o ≡ Some g → g.0 ≡ name
pair_of name None g e = absurd cc
pair_of name (Some v) g e = let same : (name, v) ≡ g = cc in sym (ap (λ h. h.0) same)

name_by : (o : Option Variable) (name : List ℕ) (d : Data) (g : List ℕ × Value) → ((a : Variable) → o ≡ Some a → a.name ≡ name)
    → option_and_then (λ a. option_map (λ v. (a.name, v)) (value_of a.kind d)) o ≡ Some g → g.0 ≡ name
name_by None name d g named e = absurd cc
name_by (Some a) name d g named e = pair_of a.name (value_of a.kind d) g e ∙ named a refl

name-given : (variables : List Variable) (name : List ℕ) (d : Data) (g : List ℕ × Value) → given variables name d ≡ Some g → g.0 ≡ name
name-given variables name d g e = name_by (input_of variables name) name d g (name-input_of variables name) e

-- ---- what members give, with one more put among them

pub both_of : {A : Type 0} (o : Option A) (r : Option (List A)) (gs : List A) → option_and_then (λ h. option_map (λ hs. h ∷ hs) r) o ≡ Some gs
    → (h : A) × (hs : List A) × (o ≡ Some h) × (r ≡ Some hs) × (h ∷ hs ≡ gs)
both_of None r gs e = absurd cc
both_of (Some h) None gs e = absurd cc
both_of (Some h) (Some hs) gs e = (h, hs, refl, refl, cc)

put_by : (o : Ordering) (variables : List Variable) (k l : List ℕ) (d e : Data) (g h : List ℕ × Value) (ms more : Members) (hs gs : List (List ℕ × Value))
    → given variables k d ≡ Some g → (o ≡ Equal → given variables l d ≡ Some g) → given variables l e ≡ Some h
    → inputs_of variables ms ≡ Some hs → inputs_of variables more ≡ Some gs
    → inputs_of variables (match_ordering o (member k d (member l e ms)) (member l d ms) (member l e more))
    ≡ Some (match_ordering o (g ∷ h ∷ hs) (g ∷ hs) (h ∷ gs))
put_by Less variables k l d e g h ms more hs gs p same q r s = rw (p, q, r) refl
put_by Equal variables k l d e g h ms more hs gs p same q r s = rw (same refl, r) refl
put_by Greater variables k l d e g h ms more hs gs p same q r s = rw (q, s) refl

inputs_of-put : (variables : List Variable) (k : List ℕ) (d : Data) (g : List ℕ × Value) (ms : Members) (gs : List (List ℕ × Value))
    → given variables k d ≡ Some g → inputs_of variables ms ≡ Some gs → inputs_of variables (put k d ms) ≡ Some (with_given g gs)
inputs_of-put variables k d g no_members gs p r = let same : [] ≡ gs = cc in rw p (ap (λ hs. Some (with_given g hs)) same)
inputs_of-put variables k d g (member l e ms) gs p r =
    let both = both_of (given variables l e) (inputs_of variables ms) gs r in
    let h = both.0 in
    let hs = both.1 in
    let rest = inputs_of-put variables k d g ms hs p both.3 in
    let ordered : slice_cmp nat_cmp k l ≡ slice_cmp nat_cmp g.0 h.0 =
    ap (λ n. slice_cmp nat_cmp n l) (sym (name-given variables k d g p)) ∙ ap (slice_cmp nat_cmp g.0) (sym (name-given variables l e h both.2)) in
    put_by (slice_cmp nat_cmp k l) variables k l d e g h ms (put k d ms) hs (with_given g hs) p
    (λ equal. ap (λ n. given variables n d) (sym (same_of k l equal)) ∙ p) both.2 both.3 rest
    ∙ ap (λ o. Some (match_ordering o (g ∷ h ∷ hs) (g ∷ hs) (h ∷ with_given g hs))) ordered
    ∙ ap (λ is. Some (with_given g is)) both.4

-- ---- tokens

-- a token that is data alone is read as they
pub token_read : (depth : ℕ) (t : Token) (d : Data) (left : List Token) → data_of t ≡ Some d
    → (j : json.Json) × (json.value depth (t ∷ left) ≡ Some (j, left)) × (of_json j ≡ Some d)
token_read depth Token.begin_object d left e = absurd cc
token_read depth Token.end_object d left e = absurd cc
token_read depth Token.begin_array d left e = absurd cc
token_read depth Token.end_array d left e = absurd cc
token_read depth (Token.key s) d left e = absurd cc
token_read depth (Token.string s) d left e = absurd cc
token_read depth (Token.number s) d left e = (json.number s, value_is depth (Token.number s ∷ left), e)
token_read depth (Token.boolean b) d left e = (json.boolean b, value_is depth (Token.boolean b ∷ left), e)
token_read depth Token.null d left e = absurd cc
token_read depth Token.bad d left e = absurd cc

pub spells_boolean : (k : Kind) (t : Token) (b : Bool) → k ≡ kind.Bool → t ≡ Token.boolean b → Spells k t (value.Bool b)
spells_boolean k t b kinded is =
    subst (λ j. Spells j t (value.Bool b)) (sym kinded) (subst (λ u. Spells kind.Bool u (value.Bool b)) (sym is) (boolean b, refl, refl))

number_value : (n : Option Num) (v : Value) → option_and_then int32_of (option_and_then as_i64 n) ≡ Some v
    → (d : Data) × (option_map number n ≡ Some d) × (value_of kind.Int d ≡ Some v)
number_value None v e = absurd cc
number_value (Some n) v e = (number n, refl, e)

pub spells_number : (k : Kind) (t : Token) (s : List ℕ) (o : Option Value) → k ≡ kind.Int → t ≡ Token.number s
    → IfSome o (λ v. option_and_then int32_of (option_and_then as_i64 (number_of s)) ≡ Some v) → IfSome o (λ v. Spells k t v)
spells_number k t s None kinded is e = tt
spells_number k t s (Some v) kinded is e =
    subst (λ j. Spells j t v) (sym kinded) (subst (λ u. Spells kind.Int u v) (sym is) (number_value (number_of s) v e))

-- ---- an object

pub begins : (variables : List Variable) (whole : List Token) → Stands variables whole whole []
begins variables whole = record { members = no_members; turns = length whole; enough = omega arith; gives = refl; in_order = tt; reads = refl }

pub one_more : (variables : List Variable) (whole old new : List Token) (found : List (List ℕ × Value)) (g : List ℕ × Value) → Stands variables whole old found
    → BeginsGiving variables old new g → Stands variables whole new (with_given g found)
one_more variables whole old new found g s b =
    let name = b.0 in
    let from = b.1 in
    let first = b.3 in
    let d = first.1 in
    let keyed = read_key-shorter old (Some name) from b.2 in
    let valued : length from ≡ length (first.0 ∷ new) = ap length first.2 in
    let enough = s.enough in
    let came = token_read 126 first.0 d new first.3 in
    let valued_by : json.value 126 from ≡ Some (came.0, new) = ap (json.value 126) first.2 ∙ came.1 in
    record {
      members = put name d s.members;
      turns = s.turns - 1;
      enough = omega (arith, keyed, valued, enough);
      gives = inputs_of-put variables name d g s.members found first.4 s.gives;
      in_order = in_order-with_given g found s.in_order;
      reads = s.reads ∙ member_read (json.value 126) s.members s.turns name old from new came.0 d (omega (arith, keyed, enough)) b.2 valued_by came.2;
    }

pub all_read : (variables : List Variable) (whole left rest : List Token) (found : List (List ℕ × Value)) → Stands variables whole left found
    → read_key left ≡ Some (None, rest) → GivesAll variables whole rest found
all_read variables whole left rest found s ended =
    (s.members, s.reads ∙ members_over (json.value 126) s.members s.turns left rest s.enough ended, s.gives)

-- a text is the object that its tokens are
pub object_read : (text : List ℕ) (ts : List Token) (members : Members) → tokens text ≡ Token.begin_object ∷ ts
    → members_from (length ts) ts no_members ≡ Some (members, []) → read text ≡ Some (object members)
object_read text ts members begun all =
    let opened : json.value 127 (tokens text) ≡ parse_map json.object (json.members (json.value 126) (length ts) ts) =
    ap (json.value 127) begun ∙ value-begin_object 127 ts (omega arith) in
    ap (λ o. option_and_then of_json (option_and_then (λ p. json.if_last p.0 p.1) o)) opened
    ∙ whole_object (json.members (json.value 126) (length ts) ts) members all

pub object_given : (variables : List Variable) (text : List ℕ) (all ts left : List Token) (found inputs : List (List ℕ × Value)) → all ≡ tokens text
    → all ≡ Token.begin_object ∷ ts → left ≡ [] → GivesAll variables ts left found → inputs ≡ found
    → (members : Members) × (read text ≡ Some (object members)) × (inputs_of variables members ≡ Some inputs)
object_given variables text all ts left found inputs started begun ended g is = (
  g.0,
  object_read text ts g.0 (sym started ∙ begun) (g.1 ∙ ap (λ rest. Some (g.0, rest)) ended),
  g.2 ∙ ap Some (sym is),
)
