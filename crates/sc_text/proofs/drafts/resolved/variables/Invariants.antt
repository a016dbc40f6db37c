use Rattle.std.proofs.Common.{◌≡◌, ◌++◌, drop}
use Rattle.sc_text.specs.Resolved.{variables_of}
use Rattle.sc_text.proofs.drafts.resolved.variables.Given as goal

abbrev pub invariant-loop-declaration : goal.invariant-loop-declaration
invariant-loop-declaration l = l.variables ++ variables_of (drop l.declaration-index l.declarations) ≡ variables_of l.declarations
