-- Which of two concurrent steps must come first.
use Rattle.std.proofs.Common.{ℕ, ◌≡◌, ◌⊎◌, inl, inr, Bool, true, false, List, refl, sym, ◌∙◌, ap, subst}
use Rattle.std.specs.Bool.{IsTrue}
use Rattle.std.specs.Prelude.{◌↔◌, not}
use Rattle.sc_values.specs.Access.{Access, Precedes, init_update, init_read, update_read, Clash, MayPrecede, Init, Update, Updates, Reads}
use Rattle.sc_values.specs.Code.{literal_of}
use Rattle.sc_values.specs.declared.operator.Combination.{Combination}
use Rattle.sc_values.specs.declared.operation.Operation.{Operation}
use Rattle.sc_graph.specs.declared.program.Step.{Step}
use Rattle.sc_graph.specs.declared.program.Step.TheVariants as step
use Rattle.sc_graph.specs.Accesses.{access_of}
use Rattle.sc_graph.proofs.Clashing.{init_same, same_init, update_same}

pub init_first : (a : Step) (b : Access) (x n : ℕ) (code : List Operation) → a ≡ step.Assign x code n → ((f : Combination) × Updates b x f) ⊎ Reads b x
    → Precedes (access_of a) b
init_first a b x n code is (inl u) = init_update x u.0 (init_same a x x n code is refl) u.1
init_first a b x n code is (inr r) = init_read x (init_same a x x n code is refl) r

pub after_init : (a : Step) (b : Access) (x n : ℕ) (code : List Operation) → a ≡ step.Assign x code n → Precedes (access_of a) b
    → ((f : Combination) × Updates b x f) ⊎ Reads b x
after_init a b x n code is (init_update z f i u) = inl (f, subst (λ y. Updates b y f) (sym (same_init a x z n code is i)) u)
after_init a b x n code is (init_read z i r) = inr (subst (Reads b) (sym (same_init a x z n code is i)) r)
after_init a b x n code is (update_read z f u r) =
    let w : Init x (literal_of code) ≡ Update z f = sym (ap (λ s. (access_of s).writes) is) ∙ u in absurd (cc)

pub update_first : (a : Step) (b : Access) (x n : ℕ) (f : Combination) (code : List Operation) → a ≡ step.Update x f code n → Reads b x
    → Precedes (access_of a) b
update_first a b x n f code is r = update_read x f (update_same a x x n f code is refl) r

pub after_update : (a : Step) (b : Access) (x n : ℕ) (f : Combination) (code : List Operation) → a ≡ step.Update x f code n → Precedes (access_of a) b
    → Reads b x
after_update a b x n f code is (init_update z g i u) =
    let w : Update x f ≡ Init z i.0 = sym (ap (λ s. (access_of s).writes) is) ∙ i.1 in absurd (cc)
after_update a b x n f code is (init_read z i r) =
    let w : Update x f ≡ Init z i.0 = sym (ap (λ s. (access_of s).writes) is) ∙ i.1 in absurd (cc)
after_update a b x n f code is (update_read z g u r) =
    let w : Update x f ≡ Update z g = sym (ap (λ s. (access_of s).writes) is) ∙ u in
    let same : z ≡ x = cc in
    subst (Reads b) same r

not_both : (b : Bool) → IsTrue (not b) → IsTrue b → ⊥
not_both true refused held = absurd (cc)
not_both false refused held = absurd (cc)

not_from : (b : Bool) → ¬ IsTrue b → IsTrue (not b)
not_from true refused = absurd (refused refl)
not_from false refused = refl

pub may_unless_clash : (before clash : Bool) (a b : Access) → before ≡ false → IsTrue before ↔ Precedes b a → IsTrue clash ↔ Clash a b → IsTrue (not clash)
    ↔ MayPrecede a b
may_unless_clash before clash a b unordered order clashes = (
  λ e. record { no_order = λ o. let ordered : before ≡ true = order.1 o in absurd (cc); no_clash = λ k. not_both clash e (clashes.1 k) },
  λ may. not_from clash (λ e. may.no_clash (clashes.0 e)),
)

pub may_not : (before : Bool) (a b : Access) → before ≡ true → IsTrue before ↔ Precedes b a → IsTrue (not before) ↔ MayPrecede a b
may_not before a b ordered order = (λ e. absurd (not_both before e ordered), λ may. absurd (may.no_order (order.0 ordered)))
