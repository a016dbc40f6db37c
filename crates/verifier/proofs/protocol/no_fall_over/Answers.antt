use Rattle.std.proofs.Common.{arith}
use Rattle.std.proofs.lemmas.Grind.{common_steps}
use Rattle.sc_graph.specs.Protocol.{ProtocolAt}
use Rattle.program_edges.specs.AlongVariables.{AllFall, FallsOn}
use Rattle.verifier.specs.Inside.Pairs.{NoFallBetween}
use Rattle.verifier.proofs.Answer.{answer_turned}
use Rattle.program_edges.proofs.AlongVariables.{falls_on}
use Rattle.verifier.proofs.Ordering.{init_update_breaks, init_read_breaks, update_read_breaks}
use Rattle.verifier.proofs.protocol.no_fall_over.Goals as goal

pub returns-in-Some : goal.returns-in-Some
returns-in-Some c = init_update_breaks c.args.program.now c.args.tables.now c.args.x c.args.inits.now c.args.updates.now c.requires.inits c.requires.updates
    c.in-Some.place c.in-Some.ensures

pub returns-in-Some-no_fall_by : goal.returns-in-Some-no_fall_by
returns-in-Some-no_fall_by c = init_read_breaks c.args.program.now c.args.tables.now c.args.x c.args.inits.now c.args.reads.now c.requires.inits
    c.requires.reads c.in-Some-no_fall_by.place c.in-Some-no_fall_by.ensures

pub returns : goal.returns
returns c =
    let p = c.args.program.now in
    let q = c.args.tables.now in
    answer_turned c.no_fall_by-3.result
    (AllFall p q.priorities c.args.updates.now c.args.reads.now)
    (FallsOn p q.priorities c.args.x)
    (NoFallBetween p q c.args.updates.now c.args.reads.now)
    (λ at. ¬ ProtocolAt p q at)
    (λ h. falls_on p q.priorities c.args.x c.args.inits.now c.args.updates.now c.args.reads.now c.requires.inits c.requires.updates c.requires.reads
    c.in_default.ensures c.in_default-no_fall_by.ensures h)
    (λ at r. update_read_breaks p q c.args.x c.args.updates.now c.args.reads.now c.requires.updates c.requires.reads at r)
    c.no_fall_by-3.ensures

pub no_fall_by-requires-2-clause-greatest : goal.no_fall_by-requires-2-clause-greatest
no_fall_by-requires-2-clause-greatest c = grind (arith, common_steps) steps 2000000

pub no_fall_by-requires-3-clause-greatest : goal.no_fall_by-requires-3-clause-greatest
no_fall_by-requires-3-clause-greatest c = grind (arith, common_steps) steps 2000000

pub no_fall_by-requires-clause-greatest : goal.no_fall_by-requires-clause-greatest
no_fall_by-requires-clause-greatest c = grind (arith, common_steps) steps 2000000

pub no_fall_by-requires-2-clause-least : goal.no_fall_by-requires-2-clause-least
no_fall_by-requires-2-clause-least c = grind (arith, common_steps) steps 2000000

pub no_fall_by-requires-3-clause-least : goal.no_fall_by-requires-3-clause-least
no_fall_by-requires-3-clause-least c = grind (arith, common_steps) steps 2000000

pub no_fall_by-requires-clause-least : goal.no_fall_by-requires-clause-least
no_fall_by-requires-clause-least c = grind (arith, common_steps) steps 2000000
