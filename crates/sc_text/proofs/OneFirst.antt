-- Of some flaws one is the first.
use Rattle.std.proofs.Common.{◌≡◌, ℕ, Bool, true, false, ◌&&◌, ◌||◌, nat_lt, nat_eq, List, [], refl, sym, ◌∙◌, ap, arith}
use Rattle.std.specs.Prelude.{Some, None, slice_get}
use Rattle.std.proofs.lemmas.Bool.Decides.{nat_tests}
use Rattle.sc_text.specs.declared.read_fault.FaultKind.{FaultKind}
use Rattle.sc_text.specs.declared.read_fault.FaultKind.TheVariants as broken
use Rattle.sc_text.specs.FaultText.{broken_number}
use Rattle.sc_text.specs.declared.drafts.flaw.Flaw.{Flaw}
use Rattle.sc_text.specs.First.{comes_before, IsFirst}

abbrev pick : Bool → FaultKind → FaultKind → FaultKind
pick true b c = b
pick false b c = c

abbrev numbered : ℕ → FaultKind
numbered n =
    pick (nat_eq n 1) broken.Token (pick (nat_eq n 2) broken.Grammar (pick (nat_eq n 3) broken.Unknown (pick (nat_eq n 4) broken.Repeated
    (pick (nat_eq n 5) broken.Kind (pick (nat_eq n 6) broken.Rule broken.Limit)))))

is_numbered : (b : FaultKind) → numbered (broken_number b) ≡ b
is_numbered broken.Token = refl
is_numbered broken.Grammar = refl
is_numbered broken.Unknown = refl
is_numbered broken.Repeated = refl
is_numbered broken.Kind = refl
is_numbered broken.Rule = refl
is_numbered broken.Limit = refl

same_place : (a b m n : ℕ) → (nat_lt a b || (nat_eq a b && nat_lt m n)) ≡ false → (nat_lt b a || (nat_eq b a && nat_lt n m)) ≡ false → a ≡ b
same_place a b m n e f = grind (arith, nat_tests)

same_number : (a b m n : ℕ) → (nat_lt a b || (nat_eq a b && nat_lt m n)) ≡ false → (nat_lt b a || (nat_eq b a && nat_lt n m)) ≡ false → m ≡ n
same_number a b m n e f = grind (arith, nat_tests)

pub one_first : (flaws : List Flaw) (b c : FaultKind) (at place : ℕ) → IsFirst flaws (record { broken = b; at = at })
    → IsFirst flaws (record { broken = c; at = place }) → (b ≡ c) × (at ≡ place)
one_first flaws b c at place f g =
    let later : comes_before (record { broken = b; at = at }) (record { broken = c; at = place }) ≡ false = g.first f.index (record {
      broken = b;
      at =
          at;
    }) f.stands in
    let earlier : comes_before (record { broken = c; at = place }) (record { broken = b; at = at }) ≡ false = f.first g.index (record {
      broken = c;
      at =
          place;
    }) g.stands in
    let places = same_place at place (broken_number b) (broken_number c) later earlier in
    let numbers = same_number at place (broken_number b) (broken_number c) later earlier in
    (sym (is_numbered b) ∙ ap numbered numbers ∙ is_numbered c, places)

pub no_first : (b : FaultKind) (at : ℕ) (flaws : List Flaw) → flaws ≡ [] → ¬ IsFirst flaws (record { broken = b; at = at })
no_first b at flaws none f =
    let stands : slice_get flaws f.index ≡ Some (record { broken = b; at = at }) = f.stands in
    let nothing : slice_get flaws f.index ≡ None = ap (λ l. slice_get l f.index) none in
    absurd (cc)
