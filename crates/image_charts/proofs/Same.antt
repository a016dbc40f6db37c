-- Images are the same where the same bytes spell them.
use Rattle.std.proofs.Common.{◌≡◌, ◌∙◌, ℕ, Bool, IsTrue, List, ap, sym, subst}
use Rattle.std.specs.Prelude.{◌↔◌}
use Rattle.bytecode.specs.Image.{Image}
use Rattle.bytecode.specs.Layout.{spelling}
use Rattle.bytecode.specs.Spells.{Spells}
use Rattle.bytecode.proofs.Decoding.{one_image}

pub same_spelling : (i j : Image) (a b : List ℕ) (same : Bool) → Spells 2 a i → Spells 2 b j → IsTrue same ↔ (a ≡ b) → IsTrue same ↔ (i ≡ j)
same_spelling i j a b same of_i of_j eq = (
  λ yes. one_image 2 a i j of_i (subst (λ xs. Spells 2 xs j) (sym (eq.0 yes)) of_j),
  λ is. eq.1 (of_i.spelt ∙ ap (spelling 2) is ∙ sym of_j.spelt),
)
