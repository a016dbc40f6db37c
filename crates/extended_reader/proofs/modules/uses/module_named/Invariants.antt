use Rattle.std.proofs.Common.{◌≡◌, drop}
use Rattle.extended_reader.specs.Uses.{module_named}
use Rattle.extended_reader.proofs.modules.uses.module_named.Given as goal

abbrev pub invariant-loop-one : goal.invariant-loop-one
invariant-loop-one l = module_named (drop l.one-index l.modules) l.name ≡ module_named l.modules l.name
