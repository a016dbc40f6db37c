-- Names that a use gives, one round after the other.
use Rattle.std.proofs.Common.{◌≡◌, ℕ, ◌+◌, Bool, true, false, IsTrue, Some, List, [], ◌∷◌, ◌++◌, drop, refl, sym, ◌∙◌, ap}
use Rattle.std.specs.Prelude.{if◌then◌else◌}
use Rattle.std.specs.List.{slice_get}
use Rattle.sc_values.specs.Name.{is_name}
use Rattle.sc_text.specs.declared.token.TokenKind.TheVariants as token
use Rattle.sc_text.specs.declared.read_fault.FaultKind.TheVariants as broken
use Rattle.std.proofs.lemmas.List.{append_assoc}
use Rattle.sc_text.specs.declared.read_fault.FaultKind.{FaultKind}
use Rattle.sc_text.specs.declared.drafts.parts.Named.{Named}
use Rattle.sc_text.proofs.PartsInOrder.{drop_is}
use Rattle.extended_reader.specs.declared.modules.parts.Replacement.{Replacement}
use Rattle.extended_reader.specs.Answer.{Answer, Good, Bad, next}
use Rattle.extended_reader.specs.Uses.{joined_name, fresh_one, all_fresh}

abbrev pub behind : List Replacement → Answer (List Replacement) → Answer (List Replacement)
behind done a = next a (λ more. Good (done ++ more))

behind_one : (done : List Replacement) (r : Replacement) (a : Answer (List Replacement)) → behind done (next a (λ more. Good (r ∷ more)))
    ≡ behind (done ++ r ∷ []) a
behind_one done r (Good more) = ap Good (sym (append_assoc done (r ∷ []) more))
behind_one done r (Bad b at) = refl

is_false : (b : Bool) → (b ≡ true → ⊥) → b ≡ false
is_false true wrong = absurd (wrong refl)
is_false false wrong = refl

module _ (u : Named) (names : List (List ℕ)) (i : ℕ) (n : List ℕ) (done : List Replacement) (whole : Answer (List Replacement))
    (at : slice_get names i ≡ Some n) (before : behind done (all_fresh u (drop i names)) ≡ whole) where
  one_more : behind done (next (fresh_one u n) (λ r. next (all_fresh u (drop (i + 1) names)) (λ more. Good (r ∷ more)))) ≡ whole
  one_more = sym (ap (λ d. behind done (all_fresh u d)) (drop_is names i n at)) ∙ before

  pub round : (r : Replacement) (new : List Replacement) → fresh_one u n ≡ Good r → new ≡ done ++ r ∷ [] → behind new (all_fresh u (drop (i + 1) names)) ≡ whole
  round r new good is =
      ap (λ d. behind d (all_fresh u (drop (i + 1) names))) is ∙ sym (behind_one done r (all_fresh u (drop (i + 1) names)))
      ∙ sym (ap (λ a. behind done (next a (λ r. next (all_fresh u (drop (i + 1) names)) (λ more. Good (r ∷ more))))) good) ∙ one_more

  pub stop : (b : FaultKind) (place : ℕ) → fresh_one u n ≡ Bad b place → whole ≡ Bad b place
  stop b place bad =
      sym one_more ∙ ap (λ a. behind done (next a (λ r. next (all_fresh u (drop (i + 1) names)) (λ more. Good (r ∷ more))))) bad

  pub named : (fresh : List ℕ) (new : List Replacement) → IsTrue (is_name (joined_name u.name n)) → fresh ≡ joined_name u.name n
      → new ≡ done ++ (record { name = n; by = token.Name fresh }) ∷ [] → behind new (all_fresh u (drop (i + 1) names)) ≡ whole
  named fresh new is f e =
      round (record { name = n; by = token.Name (joined_name u.name n) }) new
      (ap (λ b. if b then Good (record { name = n; by = token.Name (joined_name u.name n) }) else Bad broken.Limit u.at) is)
      (e ∙ ap (λ x. done ++ (record { name = n; by = token.Name x }) ∷ []) f)

  pub unnamed : (is_name (joined_name u.name n) ≡ true → ⊥) → whole ≡ Bad broken.Limit u.at
  unnamed wrong =
      stop broken.Limit u.at (ap (λ b. if b then Good (record { name = n; by = token.Name (joined_name u.name n) }) else Bad broken.Limit u.at)
      (is_false (is_name (joined_name u.name n)) wrong))
