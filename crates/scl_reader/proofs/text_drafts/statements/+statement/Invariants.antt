use Rattle.std.proofs.Common.{◌+◌, ◌-◌, ◌*◌}
use Rattle.grammar.specs.Grammar.{many}
use Rattle.grammar.specs.Read.{read}
use Rattle.sc_text.specs.declared.word.Word.TheVariants as word
use Rattle.scl.specs.Rules.{if_limit}
use Rattle.scl_reader.specs.Program.{branch}
use Rattle.scl_reader.specs.Inside.TextDrafts.{IsGoing, alone, one_branch}
use Rattle.scl_reader.specs.Within.{within}
use Rattle.scl_reader.proofs.text_drafts.statements.+statement.Given as goal

-- a fork has any number of ifs in each branch
abbrev pub decreases-statements : goal.decreases-statements
decreases-statements l = 16 * (256 * l.forks + l.ifs) + 8

abbrev pub decreases-statement : goal.decreases-statement
decreases-statement l = 16 * (256 * l.forks + l.ifs) + 7

abbrev pub decreases-no_if : goal.decreases-no_if
decreases-no_if l = 16 * (256 * l.forks) + 6

abbrev pub decreases-block : goal.decreases-block
decreases-block l = 16 * (256 * l.forks + l.ifs) + 9

abbrev pub decreases-choice : goal.decreases-choice
decreases-choice l = 16 * (256 * l.forks + l.ifs) + 12

abbrev pub decreases-otherwise : goal.decreases-otherwise
decreases-otherwise l = 16 * (256 * l.forks + l.ifs) + 10

abbrev pub decreases-fork : goal.decreases-fork
decreases-fork l = 16 * (256 * l.forks + 32) + 12

abbrev pub decreases-branches : goal.decreases-branches
decreases-branches l = 16 * (256 * l.forks + 32) + 11

abbrev pub decreases-branch : goal.decreases-branch
decreases-branch l = 16 * (256 * l.forks + 32) + 10

abbrev pub invariant-statements-loop-used : goal.invariant-statements-loop-used
invariant-statements-loop-used l =
    IsGoing (within l.fn.forks l.fn.ifs) alone (read (many (within l.fn.forks l.fn.ifs)) l.fn.tokens) l.fn.into l.into (l.most - l.used) l.rest

abbrev pub invariant-branches-loop-used : goal.invariant-branches-loop-used
invariant-branches-loop-used l =
    IsGoing (branch word.Par (within l.fn.forks if_limit)) one_branch (read (many (branch word.Par (within l.fn.forks if_limit))) l.fn.tokens) l.fn.into l.into
    (l.most - l.used) l.rest
