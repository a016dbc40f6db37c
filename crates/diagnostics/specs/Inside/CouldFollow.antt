-- What private functions answer of a text.
use Rattle.std.specs.Prelude.{ℕ, ◌≡◌, Option, Some, None, IsTrue, List, [], ◌∷◌, ◌++◌}
use Rattle.sc_text.specs.declared.read_fault.FaultKind.{FaultKind}
use Rattle.sc_text.specs.declared.read_fault.ReadFault.TheVariants as fault
use Rattle.diagnostics.specs.Continuations.{IsFaultOf, is_of_grammar}
use Rattle.diagnostics.specs.declared.could_follow.grammars.Grammar.{Grammar}

-- the text has no fault
pub record HasNoFault (g : Grammar) (text : List ℕ) : Type 0 where
  pub none : (b : FaultKind) (at : ℕ) → ¬ IsFaultOf g text (fault.Text b at)

-- the text has this one fault at this place
pub record HasFault (g : Grammar) (text : List ℕ) (found : FaultKind × ℕ) : Type 0 where
  pub has : IsFaultOf g text (fault.Text found.0 found.1)
  pub one : (b : FaultKind) (at : ℕ) → IsFaultOf g text (fault.Text b at) → (b ≡ found.0) × (at ≡ found.1)

-- the one fault of a text, or that it has none
abbrev pub TellsFault : Grammar → List ℕ → Option (FaultKind × ℕ) → Type 0
TellsFault g text None = HasNoFault g text
TellsFault g text (Some found) = HasFault g text found

-- the fault is one of the grammar or of a limit, at this place
abbrev pub IsStop : Option (FaultKind × ℕ) → ℕ → Type 0
IsStop None at = ⊥
IsStop (Some found) at = (found.1 ≡ at) × IsTrue (is_of_grammar found.0)

-- x was added to a list, where this holds of it
pub data Adds {X : Type 0} (P : X → Type 0) (x : X) (old new : List X) : Type 0 where
  added : P x → new ≡ old ++ x ∷ [] → Adds P x old new
  kept : ¬ P x → new ≡ old → Adds P x old new
