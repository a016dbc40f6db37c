use Rattle.std.proofs.Common.{rules}
use Rattle.sc_values.proofs.code_trees.only_tree.Goals as goal

pub returns : goal.returns
returns c = search rules
