use Rattle.command_files.proofs.Lacking.{lacks_image}
use Rattle.std.proofs.Common.{rules}
use Rattle.embedded_machine.proofs.texts.opening.opened_authored.Goals as goal

pub returns-in-Err-clause-fault : goal.returns-in-Err-clause-fault
returns-in-Err-clause-fault c = search (rules, lacks_image)
