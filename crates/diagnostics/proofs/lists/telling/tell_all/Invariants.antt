use Rattle.std.proofs.Common.{drop, string_bytes}
use Rattle.diagnostics.specs.Inside.Lists.{Goes}
use Rattle.diagnostics.proofs.lists.telling.tell_all.Given as goal

abbrev pub invariant-loop-flaw : goal.invariant-loop-flaw
invariant-loop-flaw l = Goes l.name l.text (drop l.flaw-index l.flaws) l.flaws (string_bytes l.told)
