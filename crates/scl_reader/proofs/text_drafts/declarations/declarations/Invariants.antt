use Rattle.std.proofs.Common.{◌-◌}
use Rattle.grammar.specs.Grammar.{many}
use Rattle.grammar.specs.Read.{read}
use Rattle.scl_reader.specs.Program.{declaration}
use Rattle.scl_reader.specs.Inside.TextDrafts.{IsGoing, one_declared}
use Rattle.scl_reader.proofs.text_drafts.declarations.declarations.Given as goal

abbrev pub invariant-loop-used : goal.invariant-loop-used
invariant-loop-used l =
    IsGoing declaration one_declared (read (many declaration) l.fn.tokens) l.fn.declarations l.declarations (l.most - l.used) l.rest
