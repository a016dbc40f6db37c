-- Why a source has no image is why none could be given of the text that stands for it.
use Rattle.std.proofs.Common.{ℕ, List, inl, inr}
use Rattle.author_states.specs.Author.{AuthorsStates}
use Rattle.author_states.proofs.Reduced.{stands_so}
use Rattle.author_states.specs.Authored.{IsAuthored}
use Rattle.command_files.specs.declared.fault.LoadFault.{LoadFault}
use Rattle.command_files.specs.Sources.{BytesLackCompiled, BytesLackImage}
use Rattle.command_files.proofs.Lacking.{lacks_image}
use Rattle.command_files.specs.Standing.{AreAsWritten}
use Rattle.embedded_machine.specs.Texts.{IsNoImageOf}

pub none_as_written : (text : List ℕ) (f : LoadFault) → AreAsWritten text text → BytesLackCompiled text f → IsNoImageOf text f
none_as_written text f is why = inr (record { source = text; stands = inl is; lacks = lacks_image text f why })

pub none_authored : (text source : List ℕ) (authors : AuthorsStates) (f : LoadFault) → IsAuthored text source authors → BytesLackImage source f
    → IsNoImageOf text f
none_authored text source authors f authored why =
    inr (record { source = source; stands = stands_so text source authors authored; lacks = why })
