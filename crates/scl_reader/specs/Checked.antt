-- What a text is read into that keeps the rules of SCL, and the fault of one that doesn't.
use Rattle.std.specs.Prelude.{ℕ, ◌≡◌, ◌⊎◌, List, []}
use Rattle.sc_text.specs.declared.read_fault.FaultKind.{FaultKind}
use Rattle.sc_text.specs.declared.read_fault.ReadFault.{ReadFault}
use Rattle.sc_text.specs.declared.read_fault.ReadFault.TheVariants as fault
use Rattle.sc_text.specs.First.{IsFirst}
use Rattle.scl_reader.specs.declared.text_drafts.draft.Draft.{Draft}
use Rattle.scl_reader.specs.Draft.{IsDraft, IsDraftFault}
use Rattle.scl_reader.specs.Flaws.{scl_flaws}

-- the text's draft, in which nothing is wrong
pub record IsFlawless (text : List ℕ) (draft : Draft) : Type 0 where
  pub drafted : IsDraft text draft
  pub flawless : scl_flaws draft ≡ []

-- the text has a draft, and this is the first of its flaws
pub record IsFlawed (text : List ℕ) (b : FaultKind) (at : ℕ) : Type 0 where
  pub draft : Draft
  pub drafted : IsDraft text draft
  pub first : IsFirst (scl_flaws draft) (record { broken = b; at = at })

-- the text has no draft, and this is why; or else it is the first flaw of its draft. That memory was refused says nothing
-- of it
abbrev pub IsTextFault : List ℕ → ReadFault → Type 0
IsTextFault text (fault.Text b at) = IsDraftFault text (fault.Text b at) ⊎ IsFlawed text b at
IsTextFault text fault.Memory = Unit {0}
