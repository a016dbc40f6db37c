use Rattle.sc_text.proofs.Steps.{leaf_fails, leaf_reads}
use Rattle.std.proofs.Common.{rules}
use Rattle.sc_text.proofs.leaf.leaf.Goals as goal

pub returns-then-not-leaf_follows : goal.returns-then-not-leaf_follows
returns-then-not-leaf_follows c = search (rules, leaf_fails)

pub returns-in_ok-push-in-len1-up : goal.returns-in_ok-push-in-len1-up
returns-in_ok-push-in-len1-up c = search (rules, leaf_reads)
