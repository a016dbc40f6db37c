-- Operations and codes: what is read is what is written, and what is written is read again.
use Rattle.std.proofs.Common.{◌≡◌, ℕ, zero, suc, ◌≤◌, ℤ, Bool, true, false, cond, eqb, FitsSigned, Option, List, [], ◌∷◌, ◌++◌, length, Some, Ok, Fits, refl}
use Rattle.std.proofs.Common.{sym, ap, ◌∙◌, subst, arith}
use Rattle.std.specs.Prelude.{slice_get}
use Rattle.std.specs.List.{flat_map}
use Rattle.std.specs.Int.{w32, cast_signed, cast_unsigned}
use Rattle.std.proofs.Math.Facts.{sfits_to_z, Fits-of_z}
use Rattle.std.proofs.lemmas.Int.{to_z-of_z, of_z-to_z}
use Rattle.std.proofs.lemmas.Bool.{eqb-true, eqb-false, le-leb, leb-true, and_parts}
use Rattle.std.proofs.lemmas.Option.{same_Some}
use Rattle.sc_values.specs.Division.{divisor_of}
use Rattle.sc_values.proofs.Division.{divisor_of-number, divisor_of-is}
use Rattle.sc_values.specs.declared.divisor.Divisor.{Divisor}
use Rattle.sc_values.specs.declared.operator.UnaryOperator.{UnaryOperator}
use Rattle.sc_values.specs.declared.value.Value.TheVariants as value
use Rattle.sc_values.specs.declared.operation.Operation.{Operation}
use Rattle.sc_values.specs.declared.operation.Operation.TheVariants as op
use Rattle.sc_values.specs.declared.operator.UnaryOperator.TheVariants as unary
use Rattle.sc_values.specs.declared.operator.BinaryOperator.TheVariants as binary
use Rattle.sc_values.specs.Limits.{operation_limit}
use Rattle.bytecode.specs.Fields.{u32_bytes}
use Rattle.bytecode.specs.Codes.{division_version, divisor_bytes, operation_bytes, code_bytes}
use Rattle.bytecode.specs.Fits.{SayableOperation, SayableCode}
use Rattle.bytecode.specs.Reading.{◌>>=◌, or_field, each_at}
use Rattle.bytecode.specs.Reading.Fields.{byte_at}
use Rattle.bytecode.specs.Reading.Codes.{operators, operation_body, divisor_at, is_division, division, division_at, operation_at, code_at}
use Rattle.bytecode.proofs.Readers.{IsBytes, bind_ok, chosen, ok_is, Takes, then_takes, IsRead, first, each_takes, each_again}
use Rattle.bytecode.proofs.FieldLaws.{byte_law, number16_law, number32_law, flag_law, length_law, given}

-- what an operator from number 3 on is written as
abbrev IsNumbered : ℕ → ℕ → Operation → Type 0
IsNumbered version n o = (operation_bytes o ≡ suc (suc (suc n)) ∷ []) × (SayableOperation version) o

numbered : (version : ℕ) (n : ℕ) (o a : Operation) → given a ≡ given o → (IsNumbered version) n a → (IsNumbered version) n o
numbered version n o a e is = subst ((IsNumbered version) n) (same_Some a o e) is

operator_place : (version : ℕ) (n : ℕ) (o : Operation) → slice_get operators n ≡ Some o → (IsNumbered version) n o
unfolding operation_bytes
operator_place version zero o e = (numbered version) 0 o (op.Unary unary.Negate) e (refl, tt)
operator_place version (suc zero) o e = (numbered version) 1 o (op.Unary unary.Not) e (refl, tt)
operator_place version (suc (suc zero)) o e = (numbered version) 2 o (op.Binary binary.Add) e (refl, tt)
operator_place version (suc (suc (suc zero))) o e = (numbered version) 3 o (op.Binary binary.Subtract) e (refl, tt)
operator_place version (suc (suc (suc (suc zero)))) o e = (numbered version) 4 o (op.Binary binary.Multiply) e (refl, tt)
operator_place version (suc (suc (suc (suc (suc zero))))) o e = (numbered version) 5 o (op.Binary binary.Min) e (refl, tt)
operator_place version (suc (suc (suc (suc (suc (suc zero)))))) o e = (numbered version) 6 o (op.Binary binary.Max) e (refl, tt)
operator_place version (suc (suc (suc (suc (suc (suc (suc zero))))))) o e = (numbered version) 7 o (op.Binary binary.And) e (refl, tt)
operator_place version (suc (suc (suc (suc (suc (suc (suc (suc zero)))))))) o e = (numbered version) 8 o (op.Binary binary.Or) e (refl, tt)
operator_place version (suc (suc (suc (suc (suc (suc (suc (suc (suc zero))))))))) o e = (numbered version) 9 o (op.Binary binary.Equal) e (refl, tt)
operator_place version (suc (suc (suc (suc (suc (suc (suc (suc (suc (suc zero)))))))))) o e = (numbered version) 10 o (op.Binary binary.NotEqual) e (refl, tt)
operator_place version (suc (suc (suc (suc (suc (suc (suc (suc (suc (suc (suc zero))))))))))) o e = (numbered version) 11 o (op.Binary binary.Less) e (refl, tt)
operator_place version (suc (suc (suc (suc (suc (suc (suc (suc (suc (suc (suc (suc zero)))))))))))) o e = (numbered version) 12 o
    (op.Binary binary.LessOrEqual) e (refl, tt)
operator_place version (suc (suc (suc (suc (suc (suc (suc (suc (suc (suc (suc (suc (suc zero))))))))))))) o e = (numbered version) 13 o
    (op.Binary binary.Greater) e (refl, tt)
operator_place version (suc (suc (suc (suc (suc (suc (suc (suc (suc (suc (suc (suc (suc (suc zero)))))))))))))) o e = (numbered version) 14 o
    (op.Binary binary.GreaterOrEqual) e (refl, tt)
operator_place version (suc (suc (suc (suc (suc (suc (suc (suc (suc (suc (suc (suc (suc (suc (suc n))))))))))))))) o e = absurd cc

-- the number of an operation stands before these bytes
pub behind : (n : ℕ) (rest text after : List ℕ) → Takes rest text after → Takes (n ∷ rest) (n ∷ text) after
behind n rest text after t = record { parts = ap (λ (w : List ℕ). n ∷ w) t.parts; rest_bytes = t.rest_bytes }

body_takes : (version : ℕ) (bytes : List ℕ) (n : ℕ) (rest : List ℕ) (x : Operation × List ℕ) → IsBytes rest → operation_body bytes n rest ≡ Ok x
    → Takes (n ∷ rest) (operation_bytes x.0) x.1 × (SayableOperation version) x.0
unfolding operation_body operation_bytes
body_takes version bytes zero rest x fits e =
    let a = first flag_law rest _ x fits e in
    let made : Operation × List ℕ = (op.Literal (value.Bool a.got.0), a.got.1) in
    subst (λ (p : Operation × List ℕ). Takes (0 ∷ rest) (operation_bytes p.0) p.1 × (SayableOperation version) p.0) (ok_is made x a.next)
    (behind 0 rest _ _ a.took, tt)
body_takes version bytes (suc zero) rest x fits e =
    let a = first number32_law rest _ x fits e in
    let n = a.got.0 in
    let same : cast_unsigned w32 (cast_signed w32 n) ≡ n = of_z-to_z w32 n a.fits in
    let made : Operation × List ℕ = (op.Literal (value.Int (cast_signed w32 n)), a.got.1) in
    subst (λ (p : Operation × List ℕ). Takes (1 ∷ rest) (operation_bytes p.0) p.1 × (SayableOperation version) p.0) (ok_is made x a.next)
    (behind 1 rest _ _ (subst (λ (m : ℕ). Takes rest (u32_bytes m) a.got.1) (sym same) a.took), sfits_to_z (record { fits = a.fits }))
body_takes version bytes (suc (suc zero)) rest x fits e =
    let a = first number16_law rest _ x fits e in
    let made : Operation × List ℕ = (op.Load a.got.0, a.got.1) in
    subst (λ (p : Operation × List ℕ). Takes (2 ∷ rest) (operation_bytes p.0) p.1 × (SayableOperation version) p.0) (ok_is made x a.next)
    (behind 2 rest _ _ a.took, a.fits)
body_takes version bytes (suc (suc (suc n))) rest x fits e =
    let a = bind_ok (or_field bytes (slice_get operators n)) (λ operator. Ok (operator, rest)) x e in
    let is = (operator_place version) n a.0 (chosen bytes (slice_get operators n) a.0 a.1) in
    let made : Operation × List ℕ = (a.0, rest) in
    subst (λ (p : Operation × List ℕ). Takes (suc (suc (suc n)) ∷ rest) (operation_bytes p.0) p.1 × (SayableOperation version) p.0) (ok_is made x a.2)
    (subst (λ (text : List ℕ). Takes (suc (suc (suc n)) ∷ rest) text rest) (sym is.0) (record { parts = refl; rest_bytes = fits }), is.1)

-- ---- divisions

abbrev DivisorFits : Divisor → Type 0
DivisorFits d = FitsSigned w32 d.number

abbrev divisor : Divisor → Option Divisor
divisor d = Some d

divisor_takes : (bytes : List ℕ) (x : Divisor × List ℕ) → IsBytes bytes → divisor_at bytes ≡ Ok x → Takes bytes (divisor_bytes x.0) x.1 × DivisorFits x.0
unfolding divisor_at
divisor_takes bytes x fits e =
    let a = first number32_law bytes (λ n. or_field bytes (divisor_of (cast_signed w32 n.0)) >>= λ d. Ok (d, n.1)) x fits e in
    let n = a.got.0 in
    let b = bind_ok (or_field bytes (divisor_of (cast_signed w32 n))) (λ d. Ok (d, a.got.1)) x a.next in
    let is : b.0.number ≡ cast_signed w32 n = divisor_of-is (cast_signed w32 n) b.0 (chosen bytes (divisor_of (cast_signed w32 n)) b.0 b.1) in
    let same : cast_unsigned w32 b.0.number ≡ n = ap (cast_unsigned w32) is ∙ of_z-to_z w32 n a.fits in
    let small : FitsSigned w32 (cast_signed w32 n) = sfits_to_z (record { fits = a.fits }) in
    let made : Divisor × List ℕ = (b.0, a.got.1) in
    subst (λ (p : Divisor × List ℕ). Takes bytes (divisor_bytes p.0) p.1 × DivisorFits p.0) (ok_is made x b.2)
    (subst (λ (m : ℕ). Takes bytes (u32_bytes m) a.got.1) (sym same) a.took, subst (λ (z : ℤ). FitsSigned w32 z) (sym is) small)

divisor_again : (d : Divisor) (rest : List ℕ) → DivisorFits d → divisor_at (divisor_bytes d ++ rest) ≡ Ok (d, rest)
unfolding divisor_at
divisor_again d rest fits =
    let below : Fits w32 (cast_unsigned w32 d.number) = Fits-of_z fits in
    rw (number32_law.again (cast_unsigned w32 d.number) rest below.fits, to_z-of_z w32 d.number fits, divisor_of-number d) refl

divisor_law : IsRead divisor_at divisor_bytes DivisorFits
divisor_law = record { takes = divisor_takes; again = divisor_again }

-- what a division is written as
abbrev IsDivision : ℕ → ℕ → Divisor → UnaryOperator → Type 0
IsDivision version n d f = (operation_bytes (op.Unary f) ≡ n ∷ divisor_bytes d) × SayableOperation version (op.Unary f)

division_is : (version n : ℕ) (d : Divisor) (b : Bool) → eqb n 18 ≡ b → 18 ≤ n → n ≤ 19 → division_version ≤ version → DivisorFits d
    → IsDivision version n d (cond b (unary.Divide d) (unary.Remainder d))
unfolding operation_bytes
division_is version n d true e low high new fits =
    let is : 18 ≡ n = sym (eqb-true n 18 e) in (ap (λ (m : ℕ). m ∷ divisor_bytes d) is, (new, fits))
division_is version n d false e low high new fits =
    let other : n ≡ 18 → ⊥ = eqb-false n 18 e in
    let is : 19 ≡ n = omega (arith, low, high, other) in (ap (λ (m : ℕ). m ∷ divisor_bytes d) is, (new, fits))

division_takes : (version n : ℕ) (rest : List ℕ) (x : Operation × List ℕ) → is_division version n ≡ true → IsBytes rest → division_at n rest ≡ Ok x
    → Takes (n ∷ rest) (operation_bytes x.0) x.1 × SayableOperation version x.0
unfolding division_at
division_takes version n rest x is fits e =
    let parts = and_parts _ _ is in
    let ends = and_parts _ _ parts.0 in
    let a = first divisor_law rest (λ d. Ok (op.Unary (division n d.0), d.1)) x fits e in
    let d = a.got.0 in
    let made : Operation × List ℕ = (op.Unary (division n d), a.got.1) in
    let w = division_is version n d (eqb n 18) refl (leb-true 18 n ends.0) (leb-true n 19 ends.1) (leb-true division_version version parts.1) a.fits in
    subst (λ (p : Operation × List ℕ). Takes (n ∷ rest) (operation_bytes p.0) p.1 × SayableOperation version p.0) (ok_is made x a.next)
    (subst (λ (text : List ℕ). Takes (n ∷ rest) text a.got.1) (sym w.0) (behind n rest _ _ a.took), w.1)

either_takes : (version : ℕ) (bytes : List ℕ) (n : ℕ) (rest : List ℕ) (x : Operation × List ℕ) (b : Bool) → is_division version n ≡ b → IsBytes rest
    → cond b (division_at n rest) (operation_body bytes n rest) ≡ Ok x → Takes (n ∷ rest) (operation_bytes x.0) x.1 × SayableOperation version x.0
either_takes version bytes n rest x true is fits e = division_takes version n rest x is fits e
either_takes version bytes n rest x false is fits e = body_takes version bytes n rest x fits e

operation_takes : (version : ℕ) (bytes : List ℕ) (x : Operation × List ℕ) → IsBytes bytes → operation_at version bytes ≡ Ok x
    → Takes bytes (operation_bytes x.0) x.1 × SayableOperation version x.0
unfolding operation_at
operation_takes version bytes x fits e =
    let a = first byte_law bytes (λ number. cond (is_division version number.0) (division_at number.0 number.1) (operation_body bytes number.0 number.1)) x fits
    e in
    subst (λ (from : List ℕ). Takes from (operation_bytes x.0) x.1 × SayableOperation version x.0) (sym a.took.parts)
    (either_takes version bytes a.got.0 a.got.1 x (is_division version a.got.0) refl a.took.rest_bytes a.next)

operation_again : (version : ℕ) (o : Operation) (rest : List ℕ) → (SayableOperation version) o → (operation_at version) (operation_bytes o ++ rest)
    ≡ Ok (o, rest)
unfolding operation_at operation_body division_at operation_bytes byte_at
operation_again version (op.Literal (value.Bool b)) rest fits = rw (flag_law.again b rest tt) refl
operation_again version (op.Literal (value.Int n)) rest fits =
    let below : Fits w32 (cast_unsigned w32 n) = Fits-of_z fits in
    rw (number32_law.again (cast_unsigned w32 n) rest below.fits, to_z-of_z w32 n fits) refl
operation_again version (op.Load x) rest fits = rw (number16_law.again x rest fits) refl
operation_again version (op.Unary unary.Negate) rest fits = refl
operation_again version (op.Unary unary.Not) rest fits = refl
operation_again version (op.Unary (unary.Divide d)) rest fits = rw (le-leb division_version version fits.0, divisor_law.again d rest fits.1) refl
operation_again version (op.Unary (unary.Remainder d)) rest fits = rw (le-leb division_version version fits.0, divisor_law.again d rest fits.1) refl
operation_again version (op.Binary binary.Add) rest fits = refl
operation_again version (op.Binary binary.Subtract) rest fits = refl
operation_again version (op.Binary binary.Multiply) rest fits = refl
operation_again version (op.Binary binary.Min) rest fits = refl
operation_again version (op.Binary binary.Max) rest fits = refl
operation_again version (op.Binary binary.And) rest fits = refl
operation_again version (op.Binary binary.Or) rest fits = refl
operation_again version (op.Binary binary.Equal) rest fits = refl
operation_again version (op.Binary binary.NotEqual) rest fits = refl
operation_again version (op.Binary binary.Less) rest fits = refl
operation_again version (op.Binary binary.LessOrEqual) rest fits = refl
operation_again version (op.Binary binary.Greater) rest fits = refl
operation_again version (op.Binary binary.GreaterOrEqual) rest fits = refl

pub operation_law : (version : ℕ) → IsRead (operation_at version) operation_bytes (SayableOperation version)
operation_law version = record { takes = (operation_takes version); again = (operation_again version) }

code_takes : (version : ℕ) (bytes : List ℕ) (x : List Operation × List ℕ) → IsBytes bytes → (code_at version) bytes ≡ Ok x → Takes bytes (code_bytes x.0) x.1
    × (SayableCode version) x.0
unfolding code_at code_bytes
code_takes version bytes x fits e =
    let a = first (length_law 0 operation_limit) bytes (λ len. each_at (operation_at version) len.0 len.1) x fits e in
    let t = each_takes (operation_law version) a.got.0 a.got.1 x a.took.rest_bytes a.next in
    (subst (λ (n : ℕ). Takes bytes (n ∷ flat_map operation_bytes x.0) x.1) (sym t.1) (then_takes a.took t.0), (omega (arith, t.1, a.fits), t.2))

code_again : (version : ℕ) (code : List Operation) (rest : List ℕ) → (SayableCode version) code → (code_at version) (code_bytes code ++ rest) ≡ Ok (code, rest)
unfolding code_at code_bytes
code_again version code rest fits =
    rw (
      (length_law 0 operation_limit).again (length code) (flat_map operation_bytes code ++ rest) (omega arith, fits.0),
      each_again (operation_law version) code rest fits.1,
    ) refl

pub code_law : (version : ℕ) → IsRead (code_at version) code_bytes (SayableCode version)
code_law version = record { takes = (code_takes version); again = (code_again version) }
