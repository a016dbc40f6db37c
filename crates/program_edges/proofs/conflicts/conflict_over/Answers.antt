use Rattle.std.proofs.Common.{arith}
use Rattle.std.proofs.lemmas.Grind.{common_steps}
use Rattle.program_edges.proofs.Variables.{no_conflict_on}
use Rattle.program_edges.proofs.Covered.{inits_alike, updates_alike}
use Rattle.program_edges.proofs.conflicts.conflict_over.Goals as goal

pub conflict_in-requires-clause-alike : goal.conflict_in-requires-clause-alike
conflict_in-requires-clause-alike c = inits_alike c.args.program.now c.args.x c.args.inits.now c.requires.inits

pub conflict_in-requires-2-clause-alike : goal.conflict_in-requires-2-clause-alike
conflict_in-requires-2-clause-alike c = updates_alike c.args.program.now c.args.x c.args.updates.now c.requires.updates

pub conflict_in-requires-clause-writers : goal.conflict_in-requires-clause-writers
conflict_in-requires-clause-writers c = c.requires.inits.only

pub conflict_in-requires-2-clause-writers : goal.conflict_in-requires-2-clause-writers
conflict_in-requires-2-clause-writers c = c.requires.updates.only

pub returns-in-None-2 : goal.returns-in-None-2
returns-in-None-2 c =
    let first = rw c.in-None.is at c.in_ok-pair.ensures in
    let second = rw c.in-None-2.is at c.in_ok-pair-2.ensures in
    no_conflict_on c.args.program.now c.args.x c.args.inits.now c.args.updates.now c.requires.inits c.requires.updates first second

pub returns-in-Some-2 : goal.returns-in-Some-2
returns-in-Some-2 c = grind (arith, common_steps) steps 2000000

pub returns-in-Some : goal.returns-in-Some
returns-in-Some c = grind (arith, common_steps) steps 2000000
