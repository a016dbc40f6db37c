use Rattle.std.proofs.Common.{◌≡◌, ◌++◌, drop}
use Rattle.extended_reader.specs.Answer.{Good, next}
use Rattle.extended_reader.specs.Uses.{all_fresh}
use Rattle.extended_reader.proofs.modules.fresh.all_fresh.Given as goal

abbrev pub invariant-loop-name : goal.invariant-loop-name
invariant-loop-name l = next (all_fresh l.usage (drop l.name-index l.names)) (λ more. Good (l.all ++ more)) ≡ all_fresh l.usage l.names
