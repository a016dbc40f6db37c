-- What holds of the grammar of SCL as a whole, and of each draft that it gives.
use Rattle.std.specs.Prelude.{ℕ, ◌≡◌, List, []}
use Rattle.grammar.specs.Grammar.{spells}
use Rattle.grammar.specs.Read.{Flaw, Got, Failed, read_all}
use Rattle.grammar.specs.Fault.{Fault, Told}
use Rattle.sc_text.specs.declared.token.Token.{Token}
use Rattle.scl_reader.specs.declared.text_drafts.draft.Draft.{Draft}
use Rattle.scl_reader.specs.Program.{Text, scl}
use Rattle.scl_reader.specs.Draft.{IsDraft}
use Rattle.scl_reader.specs.Shape.{IsShaped}

-- each list of tokens is told: what it spells, or its one fault
pub record TextsAreTold : Type 0 where
  pub told : (text : List Token) → Told scl text (read_all (scl 0) text)
  pub spelled : (text : List Token) (p : Text) → spells (scl 0) text p → read_all (scl 0) text ≡ Got p []
  pub faulty : (text rest : List Token) (flaw : Flaw) → Fault scl text flaw rest → read_all (scl 0) text ≡ Failed flaw rest

-- each draft of a text keeps what the grammar alone gives
pub record DraftsAreShaped : Type 0 where
  pub shaped : (text : List ℕ) (d : Draft) → IsDraft text d → IsShaped d
