-- Without its modules a text has tokens that texts may have, where it had them.
use Rattle.std.proofs.Common.{◌≡◌, ◌≤◌, ℕ, ℤ, pos, negsuc, Bool, true, false, IsTrue, List, [], ◌∷◌, ◌++◌, Some, None, length, refl, ap, sym, ◌∙◌, subst, arith}
use Rattle.std.proofs.lemmas.Bool.Decides.{nat_tests}
use Rattle.std.specs.Prelude.{not, ◌&&◌, nat_eq, nat_le, if◌then◌else◌, take, drop}
use Rattle.std.specs.List.{slice_get}
use Rattle.grammar.proofs.Each.{Every}
use Rattle.sc_text.specs.declared.language.Language.TheVariants as language
use Rattle.sc_text.specs.declared.token.Token.{Token}
use Rattle.sc_text.specs.declared.token.TokenKind.{TokenKind}
use Rattle.sc_text.specs.declared.token.TokenKind.TheVariants as token
use Rattle.sc_text.specs.declared.read_fault.FaultKind.TheVariants as broken
use Rattle.sc_text.specs.Tokens.{allows, number_limit, IsReserved}
use Rattle.sc_text.proofs.WellTokens.{IsTextNumber, IsWellKind, IsWell}
use Rattle.extended_reader.specs.Answer.{Answer, Good, Bad, next}
use Rattle.extended_reader.specs.Well.{is_reserved, begins_well, is_natural, is_well, are_well, well_text}
use Rattle.extended_reader.specs.declared.modules.parts.Module.{Module}
use Rattle.extended_reader.specs.Known.{known_in}
use Rattle.extended_reader.specs.Uses.{Made, stands_for, used}
use Rattle.extended_reader.specs.Modules.{semicolon, all_modules, module_place, put_together, plain_text}
use Rattle.extended_reader.proofs.Reserved.{taken}

first_and : (a b : Bool) → (a && b) ≡ true → a ≡ true
first_and true b e = refl
first_and false b e = absurd (cc)

second_and : (a b : Bool) → (a && b) ≡ true → b ≡ true
second_and true b e = e
second_and false b e = absurd (cc)

no_word : (name : List ℕ) → not (is_reserved name) ≡ true → ¬ IsReserved name
no_word name e r = let t : is_reserved name ≡ true = taken name r.0 r.1 in let u = sym e ∙ ap not t in cc

first_well : (name : List ℕ) → begins_well name ≡ true → (b : ℕ) → slice_get name 0 ≡ Some b → IsTrue (allows language.Chart b)
first_well [] e b s = cc
first_well (c ∷ name) e b s = let same : c ≡ b = cc in subst (λ x. IsTrue (allows language.Chart x)) same e

within : (limit n : ℕ) → nat_le n limit ≡ true → n ≤ limit
within limit n h = grind (arith, nat_tests)

number_well : (n : ℤ) → is_natural n ≡ true → IsTextNumber n
number_well (pos n) e = record { value = n; is = refl; low = within number_limit n e }
number_well (negsuc n) e = absurd (cc)

kind_well : (k : TokenKind) → is_well k ≡ true → IsWellKind language.Chart k
kind_well (token.Name n) e =
    record {
      free = no_word n (second_and (begins_well n) (not (is_reserved n)) e);
      begins = first_well n (first_and (begins_well n) (not (is_reserved n)) e);
    }
kind_well (token.Number n) e = number_well n e
kind_well (token.Word w) e = tt
kind_well (token.Sign s) e = tt

every_well : (text : List Token) → are_well text ≡ true → Every (IsWell language.Chart) text
every_well [] e = tt
every_well (t ∷ text) e =
    (kind_well t.kind (first_and (is_well t.kind) (are_well text) e), every_well text (second_and (is_well t.kind) (are_well text) e))

by_test : (b : Bool) (end : ℕ) (text plain : List Token) → are_well text ≡ b → well_text end text ≡ Good plain → Every (IsWell language.Chart) plain
by_test true end text plain e g =
    let same : Good text ≡ Good plain = sym (ap (λ b. if b then Good text else Bad broken.Token end) e) ∙ g in
    let is : text ≡ plain = cc in
    subst (Every (IsWell language.Chart)) is (every_well text e)
by_test false end text plain e g =
    let bad : Bad broken.Token end ≡ Good plain = sym (ap (λ b. if b then Good text else Bad broken.Token end) e) ∙ g in
    absurd (cc)

behind_next : {A : Type 0} (a : Answer A) (go : A → Answer (List Token)) (plain : List Token)
    → ((x : A) → go x ≡ Good plain → Every (IsWell language.Chart) plain) → next a go ≡ Good plain → Every (IsWell language.Chart) plain
behind_next (Good x) go plain step e = step x e
behind_next (Bad b at) go plain step e = absurd (cc)

abbrev uses_in : ℕ → List Token → List Module × List Token → Answer Made
uses_in end front all = used (stands_for all.0 (known_in semicolon semicolon front) None) end (length all.1) 0 true all.1

abbrev by_made : ℕ → List Token → Made → Answer (List Token)
by_made end front made = well_text end (front ++ (made.0 ++ made.1))

put_well : (end : ℕ) (front text plain : List Token) → put_together end front text ≡ Good plain → Every (IsWell language.Chart) plain
put_well end front text plain e =
    behind_next {A = List Module × List Token} (all_modules end (length text) [] text) (λ all. next (uses_in end front all) (by_made end front)) plain
    (λ all f. behind_next {A = Made} (uses_in end front all) (by_made end front) plain
    (λ made g. by_test (are_well (front ++ (made.0 ++ made.1))) end (front ++ (made.0 ++ made.1)) plain refl g) f) e

by_place : (b : Bool) (end : ℕ) (text plain : List Token) → nat_eq (module_place false text) (length text) ≡ b → plain_text end text ≡ Good plain
    → Every (IsWell language.Chart) text → Every (IsWell language.Chart) plain
by_place true end text plain e g w =
    let same : Good text ≡ Good plain =
    sym (ap (λ b. if b then Good text else put_together end (take (module_place false text) text) (drop (module_place false text) text)) e) ∙ g in
    let is : text ≡ plain = cc in
    subst (Every (IsWell language.Chart)) is w
by_place false end text plain e g w =
    put_well end (take (module_place false text) text) (drop (module_place false text) text) plain
    (sym (ap (λ b. if b then Good text else put_together end (take (module_place false text) text) (drop (module_place false text) text)) e) ∙ g)

pub plain_is_well : (end : ℕ) (text plain : List Token) → plain_text end text ≡ Good plain → Every (IsWell language.Chart) text
    → Every (IsWell language.Chart) plain
plain_is_well end text plain g w = by_place (nat_eq (module_place false text) (length text)) end text plain refl g w
