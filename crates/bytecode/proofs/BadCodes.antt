-- The bad fields of codes.
use Rattle.std.proofs.Common.{◌≡◌, ℕ, zero, suc, ◌≤◌, pos, Bool, true, false, cond, eqb, FitsSigned, List, [], ◌∷◌, ◌++◌, length, Option, Some, None, Result}
use Rattle.std.proofs.Common.{Ok, Err, refl, sym, ap, subst, ◌∙◌, arith}
use Rattle.std.specs.Prelude.{slice_get, replicate}
use Rattle.std.specs.List.{concat, flat_map, AllByRecursion}
use Rattle.std.specs.Int.{w16, w32, cast_signed, cast_unsigned}
use Rattle.std.proofs.lemmas.Bool.{eqb-true, eqb-false, leb-true, and_parts}
use Rattle.std.proofs.lemmas.List.{append-nil, length-replicate}
use Rattle.std.proofs.lemmas.List.Concat.{flat_map-cons}
use Rattle.std.proofs.lemmas.List.Folds.{concat-append}
use Rattle.sc_values.specs.Division.{divisor_of}
use Rattle.sc_values.specs.Limits.{operation_limit}
use Rattle.sc_values.specs.declared.divisor.Divisor.{Divisor}
use Rattle.sc_values.specs.declared.value.Value.TheVariants as value
use Rattle.sc_values.specs.declared.operation.Operation.{Operation}
use Rattle.sc_values.specs.declared.operation.Operation.TheVariants as op
use Rattle.sc_values.specs.declared.operator.UnaryOperator.TheVariants as unary
use Rattle.bytecode.specs.declared.fault.DecodeFault.{DecodeFault}
use Rattle.bytecode.specs.declared.fault.DecodeFault.TheVariants as fault
use Rattle.bytecode.specs.Fields.{u16_bytes, u32_bytes}
use Rattle.bytecode.specs.Codes.{division_version, divisor_bytes, operation_bytes, code_bytes}
use Rattle.bytecode.specs.Fits.{SayableOperation, SayableCode}
use Rattle.bytecode.specs.FieldList.{byte, operation_fields, code_fields}
use Rattle.bytecode.specs.Reading.{◌>>=◌, Reader, or_field, each_at}
use Rattle.bytecode.specs.Reading.Fields.{byte_at, number_at, choice_at, flags}
use Rattle.bytecode.specs.Reading.Codes.{operators, operation_body, divisor_at, is_division, division_at, operation_at, code_at}
use Rattle.bytecode.proofs.Readers.{IsBytes, IsRead}
use Rattle.bytecode.proofs.FieldLaws.{IsBytes-rest, number32_law, length_law}
use Rattle.bytecode.proofs.CodeLaws.{operation_law}
use Rattle.bytecode.proofs.BadFields.{Extends, step_on, begin_at, Breaks, broken, reads, CanBreak, met_first, met_behind, then_breaks, before_made, at_once}
use Rattle.bytecode.proofs.BadFields.{number_breaks_not, same_left, choice_breaks, length_breaks}

-- ---- so many, one behind the other

-- the fields of a list, one behind the other, are its bytes
pub each_spelt : {A : Type 0} (text : A → List ℕ) (fields : A → List (List ℕ)) → ((x : A) → concat (fields x) ≡ text x)
    → (xs : List A) → concat (flat_map fields xs) ≡ flat_map text xs
each_spelt text fields spelt [] = refl
each_spelt text fields spelt (x ∷ xs) =
    ap concat (flat_map-cons fields x xs) ∙ concat-append (fields x) (flat_map fields xs)
    ∙ ap (λ (t : List ℕ). t ++ concat (flat_map fields xs)) (spelt x) ∙ ap (λ (t : List ℕ). text x ++ t) (each_spelt text fields spelt xs)
    ∙ sym (flat_map-cons text x xs)

several_fit : {A : Type 0} (Fits : A → Type 0) (x : A) → Fits x → (n : ℕ) → AllByRecursion Fits (replicate n x)
several_fit Fits x fits zero = tt
several_fit Fits x fits (suc n) = (fits, several_fit Fits x fits n)

pub each_breaks : {A : Type 0} {read : Reader A} {text : A → List ℕ} {Fits : A → Type 0} (law : IsRead read text Fits) (fields : A → List (List ℕ))
    → ((x : A) → concat (fields x) ≡ text x)
    → (some : A) → Fits some → CanBreak read fields Fits
    → (n : ℕ) (Whole : List (List ℕ) → Type 0) (front : List (List ℕ)) (bytes : List ℕ) (left : ℕ) → IsBytes bytes
    → ((xs : List A) → length xs ≡ n → AllByRecursion Fits xs → Extends Whole (front ++ flat_map fields xs))
    → each_at read n bytes ≡ broken left → Breaks Whole front (each_at read n) bytes left
unfolding each_at
each_breaks law fields spelt some some_fits can zero Whole front bytes left fits goes_on e = absurd cc
each_breaks {A} {read} {text} {Fits} law fields spelt some some_fits can (suc n) Whole front bytes left fits goes_on e =
    let joined : (x : A) (xs : List A) → length xs ≡ n → Fits x → AllByRecursion Fits xs → Extends Whole (front ++ (fields x ++ flat_map fields xs)) =
    λ x xs len is all. subst (λ (fs : List (List ℕ)). Extends Whole (front ++ fs)) (flat_map-cons fields x xs) (goes_on (x ∷ xs) (ap suc len) (is, all)) in
    then_breaks law fields spelt Whole front _ bytes left fits
    (can Whole front bytes left fits
    (λ x is. begin_at Whole front (fields x) (flat_map fields (replicate n some))
    (joined x (replicate n some) (length-replicate n some) is (several_fit Fits some some_fits n))))
    (λ x rest is rest_fits failed. met_first Whole (front ++ fields x) (each_at read n) _ rest left
    (each_breaks law fields spelt some some_fits can n Whole (front ++ fields x) rest left rest_fits
    (λ xs len all. step_on Whole front (fields x) (flat_map fields xs) (joined x xs len is all)) (before_made (each_at read n rest) _ left failed))) e

-- ---- codes

abbrev one : Divisor
one = record { number = pos 1; not_zero = omega arith }

one_fits : FitsSigned w32 (pos 1)
one_fits = omega arith

divisor_breaks : (Whole : List (List ℕ) → Type 0) (front : List (List ℕ)) (bytes : List ℕ) (left : ℕ) → IsBytes bytes
    → Extends Whole (front ++ (divisor_bytes one ∷ [])) → divisor_at bytes ≡ broken left → Breaks Whole front divisor_at bytes left
unfolding divisor_at u32_bytes
divisor_breaks Whole front bytes left fits goes_on e = when (number_at w32 bytes) refl e
  where
    chosen : (x : ℕ × List ℕ) (o : Option Divisor) → number_at w32 bytes ≡ Ok x → divisor_of (cast_signed w32 x.0) ≡ o
        → (or_field bytes o >>= λ d. reads d x.1) ≡ broken left → Breaks Whole front divisor_at bytes left
    chosen x (Some d) is lacking failed = absurd cc
    chosen x None is lacking failed =
        let t = number32_law.takes bytes x fits is in
        let alone : number_at w32 (u32_bytes x.0) ≡ Ok (x.0, []) = ap (number_at w32) (sym (append-nil (u32_bytes x.0))) ∙ number32_law.again x.0 [] t.1 in
        let as_long : length (u32_bytes x.0 ++ x.1) ≡ left = ap length (sym t.0.parts) ∙ same_left {A = Divisor × List ℕ} (length bytes) left failed in
        subst (λ (b : List ℕ). Breaks Whole front divisor_at b left) (sym t.0.parts)
        (at_once Whole front divisor_at (u32_bytes x.0) x.1 (divisor_bytes one) left goes_on refl as_long (rw (alone, lacking) refl))

    when : (r : Result (ℕ × List ℕ) DecodeFault) → number_at w32 bytes ≡ r → (r >>= λ n. or_field bytes (divisor_of (cast_signed w32 n.0)) >>= λ d. reads d n.1)
        ≡ broken left
        → Breaks Whole front divisor_at bytes left
    when (Err f) is failed = absurd (number_breaks_not w32 bytes left (is ∙ let same : f ≡ fault.Field left = cc in cc))
    when (Ok x) is failed = chosen x (divisor_of (cast_signed w32 x.0)) is refl failed

operation_spelt : (o : Operation) → concat (operation_fields o) ≡ operation_bytes o
unfolding operation_bytes
operation_spelt (op.Literal (value.Bool b)) = refl
operation_spelt (op.Literal (value.Int n)) = ap (λ (t : List ℕ). 1 ∷ t) (append-nil (u32_bytes (cast_unsigned w32 n)))
operation_spelt (op.Load x) = ap (λ (t : List ℕ). 2 ∷ t) (append-nil (u16_bytes x))
operation_spelt (op.Unary unary.Negate) = refl
operation_spelt (op.Unary unary.Not) = refl
operation_spelt (op.Unary (unary.Divide d)) = ap (λ (t : List ℕ). 18 ∷ t) (append-nil (divisor_bytes d))
operation_spelt (op.Unary (unary.Remainder d)) = ap (λ (t : List ℕ). 19 ∷ t) (append-nil (divisor_bytes d))
operation_spelt (op.Binary f) = refl

-- the divisions by 1 begin so
division_begins : (version n : ℕ) (Whole : List (List ℕ) → Type 0) (front : List (List ℕ)) → is_division version n ≡ true
    → ((o : Operation) → SayableOperation version o → Extends Whole (front ++ operation_fields o)) → Extends Whole (front ++ (byte n ∷ divisor_bytes one ∷ []))
division_begins version n Whole front is goes_on =
    let parts = and_parts _ _ is in
    let ends = and_parts _ _ parts.0 in
    let low : 18 ≤ n = leb-true 18 n ends.0 in
    let high : n ≤ 19 = leb-true n 19 ends.1 in
    let new : division_version ≤ version = leb-true division_version version parts.1 in
    when (eqb n 18) refl low high new
  where
    when : (b : Bool) → eqb n 18 ≡ b → 18 ≤ n → n ≤ 19 → division_version ≤ version → Extends Whole (front ++ (byte n ∷ divisor_bytes one ∷ []))
    when true e low high new = subst (λ (m : ℕ). Extends Whole (front ++ (byte m ∷ divisor_bytes one ∷ []))) (sym (eqb-true n 18 e))
        (goes_on (op.Unary (unary.Divide one)) (new, one_fits))
    when false e low high new =
        let other : n ≡ 18 → ⊥ = eqb-false n 18 e in
        let at : 19 ≡ n = omega (arith, low, high, other) in
        subst (λ (m : ℕ). Extends Whole (front ++ (byte m ∷ divisor_bytes one ∷ []))) at (goes_on (op.Unary (unary.Remainder one)) (new, one_fits))

body_breaks : (version number : ℕ) (rest : List ℕ) (Whole : List (List ℕ) → Type 0) (front : List (List ℕ)) (left : ℕ) → IsBytes rest
    → is_division version number ≡ false
    → ((o : Operation) → SayableOperation version o → Extends Whole (front ++ operation_fields o)) → operation_body (number ∷ rest) number rest ≡ broken left
    → Breaks Whole front (operation_at version) (number ∷ rest) left
unfolding operation_at byte_at operation_body
body_breaks version zero rest Whole front left fits is goes_on e =
    met_behind Whole front (byte 0 ∷ []) (0 ∷ []) (operation_at version) (λ b. choice_at flags b >>= λ x. reads (op.Literal (value.Bool x.0)) x.1)
    (0 ∷ rest) rest left refl refl (λ more. rw is refl)
    (met_first Whole (front ++ (byte 0 ∷ [])) (choice_at flags) _ rest left
    (choice_breaks flags 0 Whole (front ++ (byte 0 ∷ [])) rest left
    (step_on Whole front (byte 0 ∷ []) (byte 0 ∷ []) (goes_on (op.Literal (value.Bool false)) tt)) (before_flag (choice_at flags rest) left e)))
  where
    before_flag : (r : Result (Bool × List ℕ) DecodeFault) (left : ℕ) → (r >>= λ x. reads (op.Literal (value.Bool x.0)) x.1) ≡ broken left → r ≡ broken left
    before_flag (Ok x) left e = absurd cc
    before_flag (Err f) left e = cc
body_breaks version (suc zero) rest Whole front left fits is goes_on e = absurd (number_breaks_not w32 rest left (before_made (number_at w32 rest) _ left e))
body_breaks version (suc (suc zero)) rest Whole front left fits is goes_on e = absurd
    (number_breaks_not w16 rest left (before_made (number_at w16 rest) _ left e))
body_breaks version (suc (suc (suc n))) rest Whole front left fits is goes_on e = when (slice_get operators n) refl e
  where
    when : (o : Option Operation) → slice_get operators n ≡ o → (or_field (suc (suc (suc n)) ∷ rest) o >>= λ operator. reads operator rest) ≡ broken left
        → Breaks Whole front (operation_at version) (suc (suc (suc n)) ∷ rest) left
    when (Some x) at failed = absurd cc
    when None at failed =
        at_once Whole front (operation_at version) (suc (suc (suc n)) ∷ []) rest (byte 3) left (goes_on (op.Unary unary.Negate) tt) refl
        (same_left {A = Operation × List ℕ} (suc (length rest)) left failed) (rw (is, at) refl)

operation_breaks : (version : ℕ) → CanBreak (operation_at version) operation_fields (SayableOperation version)
unfolding operation_at byte_at division_at
operation_breaks version Whole front [] left fits goes_on e = absurd cc
operation_breaks version Whole front (number ∷ rest) left fits goes_on e = when (is_division version number) refl e
  where
    when : (b : Bool) → is_division version number ≡ b → cond b (division_at number rest) (operation_body (number ∷ rest) number rest) ≡ broken left
        → Breaks Whole front (operation_at version) (number ∷ rest) left
    when false is failed = body_breaks version number rest Whole front left (IsBytes-rest number rest fits) is goes_on failed
    when true is failed =
        met_behind Whole front (byte number ∷ []) (number ∷ []) (operation_at version) (division_at number) (number ∷ rest) rest left refl refl
        (λ more. rw is refl)
        (met_first Whole (front ++ (byte number ∷ [])) divisor_at _ rest left
        (divisor_breaks Whole (front ++ (byte number ∷ [])) rest left (IsBytes-rest number rest fits)
        (step_on Whole front (byte number ∷ []) (divisor_bytes one ∷ []) (division_begins version number Whole front is goes_on))
        (before_made (divisor_at rest) _ left failed)))

pub code_spelt : (code : List Operation) → concat (code_fields code) ≡ code_bytes code
unfolding code_bytes
code_spelt code = ap (λ (t : List ℕ). length code ∷ t) (each_spelt operation_bytes operation_fields operation_spelt code)

pub code_breaks : (version : ℕ) → CanBreak (code_at version) code_fields (SayableCode version)
unfolding code_at
code_breaks version Whole front bytes left fits goes_on e =
    then_breaks (length_law 0 operation_limit) (λ n. byte n ∷ []) (λ n. refl) Whole front _ bytes left fits
    (length_breaks 0 operation_limit 0 Whole front bytes left (goes_on [] (omega arith, tt)))
    (λ n rest within rest_fits failed. each_breaks (operation_law version) operation_fields operation_spelt (op.Unary unary.Negate) tt
    (operation_breaks version) n Whole (front ++ (byte n ∷ [])) rest left rest_fits
    (λ ops len all. step_on Whole front (byte n ∷ []) (flat_map operation_fields ops)
    (subst (λ (m : ℕ). Extends Whole (front ++ (byte m ∷ flat_map operation_fields ops))) len (goes_on ops (omega (arith, len, within.1), all)))) failed) e
