use Rattle.std.proofs.lemmas.Grind.{common_steps, elements}
use Rattle.std.proofs.Common.{arith}
use Rattle.tick_core.proofs.there.list_some.Goals as goal

pub push_reserved-requires : goal.push_reserved-requires
push_reserved-requires c =
    omega (
      arith,
      c.loop-thread.listed.ok.0,
      c.loop-thread.invariant.long,
      c.loop-thread.invariant.room,
      c.requires,
      c.loop-thread-test.true,
    )

pub returns-clause-listed : goal.returns-clause-listed
returns-clause-listed c = grind (arith, elements) steps 2000000

pub returns-clause-room : goal.returns-clause-room
returns-clause-room c = grind (arith, elements) steps 2000000

pub loop-thread-preserved : goal.loop-thread-preserved
loop-thread-preserved c = grind (arith, common_steps) steps 2000000

pub returns-clause-count : goal.returns-clause-count
returns-clause-count c = grind (arith, common_steps) steps 2000000
