use Rattle.sct_command.proofs.Wanted.{told_if}
use Rattle.sct_command.proofs.commands.refuse_request.Goals as goal

pub returns-clause-line : goal.returns-clause-line
returns-clause-line g c = told_if _ _ _ _ _ _ _ _ c.words_behind-behind.ensures c.refuse.ensures.line
