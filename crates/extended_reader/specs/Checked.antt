-- What a text is that spells an extended chart without flaws, and what is wrong with another one.
use Rattle.std.specs.Prelude.{ℕ, ◌≡◌, ◌⊎◌, List, []}
use Rattle.sc_text.specs.declared.read_fault.FaultKind.{FaultKind}
use Rattle.sc_text.specs.declared.read_fault.ReadFault.{ReadFault}
use Rattle.sc_text.specs.declared.read_fault.ReadFault.TheVariants as fault
use Rattle.sc_text.specs.First.{IsFirst}
use Rattle.extended_reader.specs.declared.text_drafts.draft.ExtendedDraft.{ExtendedDraft}
use Rattle.extended_reader.specs.Reading.{IsExtendedDraft, IsDraftFault}
use Rattle.extended_reader.specs.Flaws.{extended_flaws}

-- the text spells an extended chart, this is its draft, and nothing is wrong with it
pub record IsSound (text : List ℕ) (draft : ExtendedDraft) : Type 0 where
  pub drafted : IsExtendedDraft text draft
  pub flawless : extended_flaws draft ≡ []

-- the text spells an extended chart, and this is the first of the flaws of its draft
pub record IsFlawed (text : List ℕ) (b : FaultKind) (at : ℕ) : Type 0 where
  pub draft : ExtendedDraft
  pub drafted : IsExtendedDraft text draft
  pub first : IsFirst (extended_flaws draft) (record { broken = b; at = at })

-- the text has no draft, or one with a flaw. That memory was refused says nothing of it
abbrev pub IsTextFault : List ℕ → ReadFault → Type 0
IsTextFault text (fault.Text b at) = IsDraftFault text (fault.Text b at) ⊎ IsFlawed text b at
IsTextFault text fault.Memory = Unit {0}
