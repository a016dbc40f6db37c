use Rattle.std.proofs.Common.{◌≡◌, vec_capacity}
use Rattle.tick_core.specs.Inside.Astir.{KeptBelow}
use Rattle.tick_core.proofs.listed.keep_astir.Given as goal

abbrev pub invariant-loop-at : goal.invariant-loop-at
invariant-loop-at l = record {
  kept : KeptBelow l.control l.initial.threads.items l.at l.threads.items l.count;
  room : vec_capacity l.threads ≡ vec_capacity l.initial.threads;
}
