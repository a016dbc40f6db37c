-- What holds of the grammar of extended charts as a whole, and of each draft that it gives.
use Rattle.std.specs.Prelude.{ℕ, ◌≡◌, List, []}
use Rattle.grammar.specs.Grammar.{spells}
use Rattle.grammar.specs.Read.{Flaw, Got, Failed, read_all}
use Rattle.grammar.specs.Fault.{Fault, Told}
use Rattle.sc_text.specs.declared.token.Token.{Token}
use Rattle.extended_reader.specs.declared.text_drafts.draft.ExtendedDraft.{ExtendedDraft}
use Rattle.extended_reader.specs.ExtendedText.{extended_text}
use Rattle.extended_reader.specs.Reading.{IsExtendedDraft}
use Rattle.extended_reader.specs.Shape.{IsExtendedShaped}

-- each list of tokens is told: what it spells, or its one fault
pub record TextsAreTold : Type 0 where
  pub told : (text : List Token) → Told extended_text text (read_all (extended_text 0) text)
  pub spelled : (text : List Token) (d : ExtendedDraft) → spells (extended_text 0) text d → read_all (extended_text 0) text ≡ Got d []
  pub faulty : (text rest : List Token) (flaw : Flaw) → Fault extended_text text flaw rest → read_all (extended_text 0) text ≡ Failed flaw rest

-- each draft of a text keeps what the grammar alone gives
pub record DraftsAreShaped : Type 0 where
  pub shaped : (text : List ℕ) (d : ExtendedDraft) → IsExtendedDraft text d → IsExtendedShaped d
