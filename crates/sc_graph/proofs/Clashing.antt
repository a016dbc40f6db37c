-- When two writes clash.
use Rattle.std.proofs.Common.{ℕ, ◌≡◌, ◌≢◌, Bool, true, false, List, refl, sym, ◌∙◌, ap, ap₂}
use Rattle.std.specs.Bool.{IsTrue}
use Rattle.std.specs.Prelude.{◌↔◌, not}
use Rattle.sc_values.specs.Access.{Clash, two_inits, two_updates, Init, Update, Inits, Updates, same_literal, one_literal}
use Rattle.sc_values.specs.Code.{literal_of}
use Rattle.sc_values.specs.declared.operator.Combination.{Combination}
use Rattle.sc_values.specs.declared.operation.Operation.{Operation}
use Rattle.sc_graph.specs.declared.program.Step.{Step}
use Rattle.sc_graph.specs.declared.program.Step.TheVariants as step
use Rattle.sc_graph.specs.Accesses.{access_of}

pub init_same : (a : Step) (x y n : ℕ) (code : List Operation) → a ≡ step.Assign x code n → x ≡ y → Inits (access_of a) y
init_same a x y n code is e = (literal_of code, ap (λ s. (access_of s).writes) is ∙ ap (λ z. Init z (literal_of code)) e)

pub same_init : (a : Step) (x y n : ℕ) (code : List Operation) → a ≡ step.Assign x code n → Inits (access_of a) y → x ≡ y
same_init a x y n code is i = let w : Init x (literal_of code) ≡ Init y i.0 = sym (ap (λ s. (access_of s).writes) is) ∙ i.1 in cc

pub update_same : (a : Step) (x y n : ℕ) (f : Combination) (code : List Operation) → a ≡ step.Update x f code n → x ≡ y → Updates (access_of a) y f
update_same a x y n f code is e = ap (λ s. (access_of s).writes) is ∙ ap (λ z. Update z f) e

not_true : (b : Bool) → IsTrue (not b) → b ≡ false
not_true true h = absurd (cc)
not_true false h = refl

from_false : (b : Bool) → b ≡ false → IsTrue (not b)
from_false true e = absurd (cc)
from_false false e = refl

pub clash_inits : (a b : Step) (x y m n : ℕ) (c d : List Operation) (one : Bool) → a ≡ step.Assign x c m → b ≡ step.Assign y d n → x ≡ y →
    one ≡ same_literal (literal_of c) (literal_of d) → IsTrue (not one) ↔ Clash (access_of a) (access_of b)
clash_inits a b x y m n c d one ia ib same is = (
  λ e. two_inits x (init_same a x x m c ia refl) (init_same b y x n d ib (sym same)) (carried ∙ (sym is ∙ not_true one e)),
  λ k. from_false one (is ∙ (sym carried ∙ unlike k)),
)
  where
    carried : one_literal (access_of a).writes (access_of b).writes ≡ same_literal (literal_of c) (literal_of d)
    carried = ap₂ (λ s t. one_literal (access_of s).writes (access_of t).writes) ia ib

    unlike : Clash (access_of a) (access_of b) → one_literal (access_of a).writes (access_of b).writes ≡ false
    unlike (two_inits z i j e) = e
    unlike (two_updates z f g u v ne) = let w : Init x (literal_of c) ≡ Update z f = sym (ap (λ s. (access_of s).writes) ia) ∙ u in absurd (cc)

pub clash_updates : (a b : Step) (x y m n : ℕ) (f g : Combination) (c d : List Operation) (differ : Bool) → a ≡ step.Update x f c m → b ≡ step.Update y g d n
    → x ≡ y →
    (differ ≡ true → f ≢ g) → (f ≢ g → differ ≡ true) → IsTrue differ ↔ Clash (access_of a) (access_of b)
clash_updates a b x y m n f g c d differ ia ib same to from = (
  λ e. two_updates x f g (update_same a x x m f c ia refl) (update_same b y x n g d ib (sym same)) (to e),
  λ k. from (unlike k),
)
  where
    unlike : Clash (access_of a) (access_of b) → f ≢ g
    unlike (two_inits z i j e) = let w : Update x f ≡ Init z i.0 = sym (ap (λ s. (access_of s).writes) ia) ∙ i.1 in absurd (cc)
    unlike (two_updates z h k u v ne) = λ e. ne (
        let w : Update x f ≡ Update z h = sym (ap (λ s. (access_of s).writes) ia) ∙ u in
        let w' : Update y g ≡ Update z k = sym (ap (λ s. (access_of s).writes) ib) ∙ v in
        cc)
