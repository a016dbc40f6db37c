use Rattle.std.proofs.Common.{◌≡◌, [], drop, reverse}
use Rattle.sc_values.specs.Code.{trees}
use Rattle.sc_values.proofs.code_trees.tree_of.Given as goal

abbrev pub invariant-loop-operation : goal.invariant-loop-operation
invariant-loop-operation l = trees (drop l.operation-index l.code) (reverse l.stack) ≡ trees l.code []
