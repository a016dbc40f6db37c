-- Numbers, choices, names and variables: what is read is what is written, and what is written is read again.
use Rattle.std.proofs.Common.{◌≡◌, ℕ, zero, suc, ◌^◌, ◌<◌, ◌≤◌, Bool, true, false, cond, ltb, leb, List, [], ◌∷◌, ◌++◌, length, take, drop, Option, Some, None}
use Rattle.std.proofs.Common.{IsTrue, Ok, Err, refl, sym, ap, subst, arith}
use Rattle.std.specs.Prelude.{slice_get, ◌&&◌}
use Rattle.std.specs.Int.{Width, w16, w32, byte_len, to_le_bytes, from_le_bytes}
use Rattle.std.proofs.lemmas.Bool.{ltb-false, le-ltb, leb-true, le-leb, and_parts}
use Rattle.std.proofs.lemmas.Option.{same_Some}
use Rattle.std.proofs.lemmas.List.{take_at, drop_at, take-append-drop, length-append, length-take}
use Rattle.std.proofs.lemmas.Nat.{le_bytes_2, le_bytes_4, from_le_bytes-to_le_bytes_2, from_le_bytes-to_le_bytes_4}
use Rattle.sc_values.specs.declared.value.Kind.{Kind}
use Rattle.sc_values.specs.declared.value.Kind.TheVariants as kind
use Rattle.sc_values.specs.declared.operator.Combination.{Combination}
use Rattle.sc_values.specs.declared.operator.Combination.TheVariants as combine
use Rattle.sc_values.specs.Limits.{name_limit}
use Rattle.sc_values.specs.Name.{is_name}
use Rattle.sc_graph.specs.declared.program.Role.{Role}
use Rattle.sc_graph.specs.declared.program.Role.TheVariants as role
use Rattle.sc_graph.specs.declared.program.Variable.{Variable}
use Rattle.bytecode.specs.declared.fault.DecodeFault.TheVariants as fault
use Rattle.bytecode.specs.Fields.{u16_bytes, u32_bytes, flag_number, role_number, kind_number, combination_number, name_bytes, variable_bytes}
use Rattle.bytecode.specs.Fits.{SayableVariable}
use Rattle.bytecode.specs.Reading.{◌>>=◌, or_field}
use Rattle.bytecode.specs.Reading.Fields.{bytes_at, byte_at, number_at, choice_at, flags, roles, kinds, combinations, length_at, name_of, name_at, variable_at}
use Rattle.bytecode.proofs.Readers.{IsBytes, IsBytes-drop, IsBytes-take, bind_ok, passed, not_short, chosen, ok_is, Takes, then_takes, IsRead, first}

-- ---- bytes

pub bytes_takes : (n : ℕ) (bytes : List ℕ) (x : List ℕ × List ℕ) → IsBytes bytes → bytes_at n bytes ≡ Ok x → Takes bytes x.0 x.1 × (length x.0 ≡ n)
    × IsBytes x.0
unfolding bytes_at
bytes_takes n bytes x fits e =
    let g = not_short (ltb (length bytes) n) fault.Short (take n bytes, drop n bytes) x e in
    let long : n ≤ length bytes = ltb-false _ _ g.0 in
    let whole : Takes bytes (take n bytes) (drop n bytes) = record { parts = sym (take-append-drop n bytes); rest_bytes = IsBytes-drop n bytes fits } in
    subst (λ (p : List ℕ × List ℕ). Takes bytes p.0 p.1 × (length p.0 ≡ n) × IsBytes p.0) g.1 (
      whole,
      omega (arith, length-take n bytes),
      IsBytes-take n bytes fits,
    )

pub bytes_again : (n : ℕ) (text rest : List ℕ) → length text ≡ n → bytes_at n (text ++ rest) ≡ Ok (text, rest)
unfolding bytes_at
bytes_again n text rest len =
    let long : ltb (length (text ++ rest)) n ≡ false = le-ltb _ _ (omega (arith, length-append text rest)) in
    rw (long, take_at text rest n len, drop_at text rest n len) refl

pub IsBytes-rest : (b : ℕ) (bytes : List ℕ) → IsBytes (b ∷ bytes) → IsBytes bytes
IsBytes-rest b bytes h i = h (suc i)

byte_takes : (bytes : List ℕ) (x : ℕ × List ℕ) → IsBytes bytes → byte_at bytes ≡ Ok x → Takes bytes (x.0 ∷ []) x.1 × (x.0 < 256)
unfolding byte_at
byte_takes [] x fits e = absurd cc
byte_takes (b ∷ rest) x fits e =
    subst (λ (p : ℕ × List ℕ). Takes (b ∷ rest) (p.0 ∷ []) p.1 × (p.0 < 256)) (ok_is (b, rest) x e)
    (record { parts = refl; rest_bytes = IsBytes-rest b rest fits }, fits 0)

byte_again : (b : ℕ) (rest : List ℕ) → b < 256 → byte_at ((b ∷ []) ++ rest) ≡ Ok (b, rest)
unfolding byte_at
byte_again b rest lt = refl

pub byte_law : IsRead byte_at (λ b. b ∷ []) (λ b. b < 256)
byte_law = record { takes = byte_takes; again = byte_again }

-- ---- numbers

record IsWide (w : Width) (limit : ℕ) : Type 0 where
  len : (n : ℕ) → length (to_le_bytes w n) ≡ byte_len w
  back : (bytes : List ℕ) → length bytes ≡ byte_len w → IsBytes bytes → to_le_bytes w (from_le_bytes w bytes) ≡ bytes
  again : (n : ℕ) → n < limit → from_le_bytes w (to_le_bytes w n) ≡ n
  below : (bytes : List ℕ) → IsBytes bytes → from_le_bytes w bytes < limit

wide16 : IsWide w16 (2 ^ 16)
wide16 = record {
  len = λ n. refl;
  back = λ bytes len fits. le_bytes_2 bytes _ len fits refl;
  again = λ n lt. from_le_bytes-to_le_bytes_2 n lt;
  below = λ bytes fits. omega (arith, fits 0, fits 1);
}

wide32 : IsWide w32 (2 ^ 32)
wide32 = record {
  len = λ n. refl;
  back = λ bytes len fits. le_bytes_4 bytes _ len fits refl;
  again = λ n lt. from_le_bytes-to_le_bytes_4 n lt;
  below = λ bytes fits. omega (arith, fits 0, fits 1, fits 2, fits 3);
}

number_takes : (w : Width) (limit : ℕ) (wide : IsWide w limit) (bytes : List ℕ) (x : ℕ × List ℕ) → IsBytes bytes → number_at w bytes ≡ Ok x
    → Takes bytes (to_le_bytes w x.0) x.1 × (x.0 < limit)
unfolding number_at
number_takes w limit wide bytes x fits e =
    let a = bind_ok (bytes_at (byte_len w) bytes) (λ front. Ok (from_le_bytes w front.0, front.1)) x e in
    let t = bytes_takes (byte_len w) bytes a.0 fits a.1 in
    let same = wide.back a.0.0 t.1 t.2 in
    let made : ℕ × List ℕ = (from_le_bytes w a.0.0, a.0.1) in
    subst (λ (p : ℕ × List ℕ). Takes bytes (to_le_bytes w p.0) p.1 × (p.0 < limit)) (ok_is made x a.2)
    (subst (λ (text : List ℕ). Takes bytes text a.0.1) (sym same) t.0, wide.below a.0.0 t.2)

number_again : (w : Width) (limit : ℕ) (wide : IsWide w limit) (n : ℕ) (rest : List ℕ) → n < limit → number_at w (to_le_bytes w n ++ rest) ≡ Ok (n, rest)
unfolding number_at
number_again w limit wide n rest lt = rw (bytes_again (byte_len w) (to_le_bytes w n) rest (wide.len n), wide.again n lt) refl

pub number16_law : IsRead (number_at w16) u16_bytes (λ n. n < 2 ^ 16)
unfolding u16_bytes
number16_law = record { takes = number_takes w16 (2 ^ 16) wide16; again = number_again w16 (2 ^ 16) wide16 }

pub number32_law : IsRead (number_at w32) u32_bytes (λ n. n < 2 ^ 32)
unfolding u32_bytes
number32_law = record { takes = number_takes w32 (2 ^ 32) wide32; again = number_again w32 (2 ^ 32) wide32 }

-- ---- choices

-- the number of a choice is its place in the list
pub record AreNumbered {A : Type 0} (choices : List A) (number : A → ℕ) : Type 0 where
  pub at_number : (a : A) → slice_get choices (number a) ≡ Some a
  pub number_at_place : (n : ℕ) (a : A) → slice_get choices n ≡ Some a → number a ≡ n

choice_takes : {A : Type 0} {choices : List A} {number : A → ℕ} (numbered : AreNumbered choices number) (bytes : List ℕ) (x : A × List ℕ)
    → IsBytes bytes → choice_at choices bytes ≡ Ok x → Takes bytes (number x.0 ∷ []) x.1 × Unit {0}
unfolding choice_at
choice_takes {A} {choices} {number} numbered bytes x fits e =
    let a = first byte_law bytes (λ n. or_field bytes (slice_get choices n.0) >>= λ choice. Ok (choice, n.1)) x fits e in
    let b = bind_ok (or_field bytes (slice_get choices a.got.0)) (λ choice. Ok (choice, a.got.1)) x a.next in
    let same = numbered.number_at_place a.got.0 b.0 (chosen bytes (slice_get choices a.got.0) b.0 b.1) in
    let made : A × List ℕ = (b.0, a.got.1) in
    subst (λ (p : A × List ℕ). Takes bytes (number p.0 ∷ []) p.1 × Unit {0}) (ok_is made x b.2)
    (subst (λ (n : ℕ). Takes bytes (n ∷ []) a.got.1) (sym same) a.took, tt)

choice_again : {A : Type 0} {choices : List A} {number : A → ℕ} (numbered : AreNumbered choices number) (a : A) (rest : List ℕ)
    → Unit {0} → choice_at choices ((number a ∷ []) ++ rest) ≡ Ok (a, rest)
unfolding choice_at byte_at
choice_again numbered a rest fits = rw (numbered.at_number a) refl

pub choice_law : {A : Type 0} {choices : List A} {number : A → ℕ} → AreNumbered choices number → IsRead (choice_at choices) (λ a. number a ∷ []) (λ _. Unit {0})
choice_law numbered = record { takes = choice_takes numbered; again = choice_again numbered }

abbrev pub given : {A : Type 0} → A → Option A
given x = Some x

flag_at : (a : Bool) → slice_get flags (flag_number a) ≡ Some a
flag_at false = refl
flag_at true = refl

flag_place : (n : ℕ) (a : Bool) → slice_get flags n ≡ Some a → flag_number a ≡ n
flag_place zero a e = ap flag_number (sym (same_Some false a e))
flag_place (suc zero) a e = ap flag_number (sym (same_Some true a e))
flag_place (suc (suc n)) a e = absurd cc

role_at : (a : Role) → slice_get roles (role_number a) ≡ Some a
role_at role.Input = refl
role_at role.Output = refl
role_at role.Local = refl

role_place : (n : ℕ) (a : Role) → slice_get roles n ≡ Some a → role_number a ≡ n
role_place zero a e = ap role_number (sym (same_Some role.Input a e))
role_place (suc zero) a e = ap role_number (sym (same_Some role.Output a e))
role_place (suc (suc zero)) a e = ap role_number (sym (same_Some role.Local a e))
role_place (suc (suc (suc n))) a e = absurd cc

kind_at : (a : Kind) → slice_get kinds (kind_number a) ≡ Some a
kind_at kind.Bool = refl
kind_at kind.Int = refl

kind_place : (n : ℕ) (a : Kind) → slice_get kinds n ≡ Some a → kind_number a ≡ n
kind_place zero a e = ap kind_number (sym (same_Some kind.Bool a e))
kind_place (suc zero) a e = ap kind_number (sym (same_Some kind.Int a e))
kind_place (suc (suc n)) a e = absurd cc

combination_at : (a : Combination) → slice_get combinations (combination_number a) ≡ Some a
combination_at combine.Add = refl
combination_at combine.Multiply = refl
combination_at combine.Min = refl
combination_at combine.Max = refl
combination_at combine.And = refl
combination_at combine.Or = refl

combination_place : (n : ℕ) (a : Combination) → slice_get combinations n ≡ Some a → combination_number a ≡ n
combination_place zero a e = ap combination_number (sym (same_Some combine.Add a e))
combination_place (suc zero) a e = ap combination_number (sym (same_Some combine.Multiply a e))
combination_place (suc (suc zero)) a e = ap combination_number (sym (same_Some combine.Min a e))
combination_place (suc (suc (suc zero))) a e = ap combination_number (sym (same_Some combine.Max a e))
combination_place (suc (suc (suc (suc zero)))) a e = ap combination_number (sym (same_Some combine.And a e))
combination_place (suc (suc (suc (suc (suc zero))))) a e = ap combination_number (sym (same_Some combine.Or a e))
combination_place (suc (suc (suc (suc (suc (suc n)))))) a e = absurd cc

flags_numbered : AreNumbered flags flag_number
flags_numbered = record { at_number = flag_at; number_at_place = flag_place }

roles_numbered : AreNumbered roles role_number
roles_numbered = record { at_number = role_at; number_at_place = role_place }

kinds_numbered : AreNumbered kinds kind_number
kinds_numbered = record { at_number = kind_at; number_at_place = kind_place }

combinations_numbered : AreNumbered combinations combination_number
combinations_numbered = record { at_number = combination_at; number_at_place = combination_place }

pub flag_law : IsRead (choice_at flags) (λ b. flag_number b ∷ []) (λ _. Unit {0})
flag_law = choice_law flags_numbered

pub role_law : IsRead (choice_at roles) (λ r. role_number r ∷ []) (λ _. Unit {0})
role_law = choice_law roles_numbered

pub kind_law : IsRead (choice_at kinds) (λ k. kind_number k ∷ []) (λ _. Unit {0})
kind_law = choice_law kinds_numbered

pub combination_law : IsRead (choice_at combinations) (λ f. combination_number f ∷ []) (λ _. Unit {0})
combination_law = choice_law combinations_numbered

-- ---- lengths

length_takes : (least most : ℕ) (bytes : List ℕ) (x : ℕ × List ℕ) → IsBytes bytes → length_at least most bytes ≡ Ok x
    → Takes bytes (x.0 ∷ []) x.1 × ((least ≤ x.0) × (x.0 ≤ most))
unfolding length_at
length_takes least most bytes x fits e =
    let a = first byte_law bytes (λ len. cond (leb least len.0 && leb len.0 most) (Ok len) (Err (fault.Field (length bytes)))) x fits e in
    let g = passed (leb least a.got.0 && leb a.got.0 most) (fault.Field (length bytes)) a.got x a.next in
    let within = and_parts _ _ g.0 in
    subst (λ (p : ℕ × List ℕ). Takes bytes (p.0 ∷ []) p.1 × ((least ≤ p.0) × (p.0 ≤ most))) g.1
    (a.took, (leb-true _ _ within.0, leb-true _ _ within.1))

length_again : (least most n : ℕ) (rest : List ℕ) → (least ≤ n) × (n ≤ most) → length_at least most ((n ∷ []) ++ rest) ≡ Ok (n, rest)
unfolding length_at byte_at
length_again least most n rest within = rw (le-leb _ _ within.0, le-leb _ _ within.1) refl

pub length_law : (least most : ℕ) → IsRead (length_at least most) (λ n. n ∷ []) (λ n. (least ≤ n) × (n ≤ most))
length_law least most = record { takes = length_takes least most; again = length_again least most }

-- ---- names and variables

name_when : (b : Bool) (text name : List ℕ) → cond b (given text) None ≡ given name → (b ≡ true) × (text ≡ name)
name_when true text name e = (refl, cc)
name_when false text name e = absurd cc

-- a name has one to 64 bytes
name_length : (name : List ℕ) → IsTrue (is_name name) → (1 ≤ length name) × (length name ≤ name_limit)
name_length [] is = absurd cc
name_length (b ∷ rest) is = (omega arith, leb-true _ _ (and_parts _ _ is).1)

named : (bytes text name : List ℕ) → or_field bytes (name_of text) ≡ Ok name → IsTrue (is_name text) × (text ≡ name)
unfolding name_of
named bytes text name e = name_when (is_name text) text name (chosen bytes (cond (is_name text) (Some text) None) name e)

name_takes : (bytes : List ℕ) (x : List ℕ × List ℕ) → IsBytes bytes → name_at bytes ≡ Ok x → Takes bytes (name_bytes x.0) x.1 × IsTrue (is_name x.0)
unfolding name_at name_bytes
name_takes bytes x fits e =
    let a = first (length_law 1 name_limit) bytes (λ len. bytes_at len.0 len.1 >>= λ text. or_field len.1 (name_of text.0) >>= λ name. Ok (name, text.1)) x fits
    e in
    let b = bind_ok (bytes_at a.got.0 a.got.1) (λ text. or_field a.got.1 (name_of text.0) >>= λ name. Ok (name, text.1)) x a.next in
    let c = bind_ok (or_field a.got.1 (name_of b.0.0)) (λ name. Ok (name, b.0.1)) x b.2 in
    let t = bytes_takes a.got.0 a.got.1 b.0 a.took.rest_bytes b.1 in
    let is = named a.got.1 b.0.0 c.0 c.1 in
    let whole : Takes bytes (length b.0.0 ∷ b.0.0) b.0.1 = subst (λ (n : ℕ). Takes bytes (n ∷ b.0.0) b.0.1) (sym t.1) (then_takes a.took t.0) in
    let made : List ℕ × List ℕ = (c.0, b.0.1) in
    subst (λ (p : List ℕ × List ℕ). Takes bytes (length p.0 ∷ p.0) p.1 × IsTrue (is_name p.0)) (ok_is made x c.2)
    (subst (λ (text : List ℕ). Takes bytes (length text ∷ text) b.0.1 × IsTrue (is_name text)) is.1 (whole, is.0))

name_again : (name rest : List ℕ) → IsTrue (is_name name) → name_at (name_bytes name ++ rest) ≡ Ok (name, rest)
unfolding name_at name_bytes name_of
name_again name rest is =
    rw (length_again 1 name_limit (length name) (name ++ rest) (name_length name is), bytes_again (length name) name rest refl, is) refl

pub name_law : IsRead name_at name_bytes (λ name. IsTrue (is_name name))
name_law = record { takes = name_takes; again = name_again }

variable_takes : (bytes : List ℕ) (x : Variable × List ℕ) → IsBytes bytes → variable_at bytes ≡ Ok x → Takes bytes (variable_bytes x.0) x.1
    × SayableVariable x.0
unfolding variable_at variable_bytes
variable_takes bytes x fits e =
    let a = first role_law bytes _ x fits e in
    let b = first kind_law a.got.1 _ x a.took.rest_bytes a.next in
    let c = first name_law b.got.1 _ x b.took.rest_bytes b.next in
    let made : Variable × List ℕ = (record { name = c.got.0; kind = b.got.0; role = a.got.0 }, c.got.1) in
    subst (λ (p : Variable × List ℕ). Takes bytes (role_number p.0.role ∷ kind_number p.0.kind ∷ name_bytes p.0.name) p.1 × SayableVariable p.0)
    (ok_is made x c.next)
    (then_takes a.took (then_takes b.took c.took), c.fits)

variable_again : (v : Variable) (rest : List ℕ) → SayableVariable v → variable_at (variable_bytes v ++ rest) ≡ Ok (v, rest)
unfolding variable_at variable_bytes
variable_again v rest fits =
    rw (
      role_law.again v.role (kind_number v.kind ∷ name_bytes v.name ++ rest) tt,
      kind_law.again v.kind (name_bytes v.name ++ rest) tt,
      name_law.again v.name rest fits,
    ) refl

pub variable_law : IsRead variable_at variable_bytes SayableVariable
variable_law = record { takes = variable_takes; again = variable_again }
