-- What holds of reading a text of SCL.
use Rattle.std.specs.Prelude.{ℕ, ◌≡◌, ◌⊎◌, List, Result, MatchResult}
use Rattle.scl.specs.declared.program.Scl.{Scl}
use Rattle.sc_text.specs.declared.read_fault.FaultKind.{FaultKind}
use Rattle.sc_text.specs.declared.read_fault.ReadFault.{ReadFault}
use Rattle.sc_text.specs.declared.read_fault.ReadFault.TheVariants as fault
use Rattle.scl_reader.specs.Checked.{IsTextFault}
use Rattle.scl_reader.specs.Read.{IsRead}

-- two programs that are written alike
pub record AreAlike (p q : Scl) : Type 0 where
  pub names : p.name ≡ q.name
  pub variables : p.variables ≡ q.variables
  pub bodies : p.body ≡ q.body

-- each text has one answer: the program that it spells, or its fault, and not both
pub record SclTextsHaveOneAnswer : Type 0 where
  pub one_program : (text : List ℕ) (p q : Scl) → IsRead text p → IsRead text q → AreAlike p q
  pub no_fault : (text : List ℕ) (p : Scl) (b : FaultKind) (at : ℕ) → IsRead text p → ¬ IsTextFault text (fault.Text b at)
  pub one_fault : (text : List ℕ) (b c : FaultKind) (at place : ℕ) → IsTextFault text (fault.Text b at) → IsTextFault text (fault.Text c place)
      → (b ≡ c) × (at ≡ place)

-- what is answered of a text: its program exactly where it spells one, and its fault exactly where it has one. That memory
-- was refused says nothing of the text
pub record IsExact (text : List ℕ) (answer : Result Scl ReadFault) : Type 0 where
  pub spelled : (p : Scl) → IsRead text p → MatchResult answer (λ q. AreAlike q p) (λ f. f ≡ fault.Memory)
  pub faulty : (b : FaultKind) (at : ℕ) → IsTextFault text (fault.Text b at)
      → MatchResult answer (λ q. ⊥) (λ f. (f ≡ fault.Text b at) ⊎ (f ≡ fault.Memory))
