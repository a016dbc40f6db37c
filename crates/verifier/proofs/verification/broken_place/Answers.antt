use Rattle.std.proofs.Common.{ap, arith}
use Rattle.verifier.specs.Verdict.{fault_number}
use Rattle.verifier.proofs.Lowest.{formed_from, sizes_from, codes_from}
use Rattle.verifier.proofs.verification.broken_place.Goals as goal

pub assignment_fault-requires-clause-codes : goal.assignment_fault-requires-clause-codes
assignment_fault-requires-clause-codes c = codes_from c.args.program.now c.args.tables.now c.args.rule 34 (ap fault_number c.in-Assignment.is)
    (omega arith) c.requires.lower

pub no_conflict_fault-requires-clause-links : goal.no_conflict_fault-requires-clause-links
no_conflict_fault-requires-clause-links c = record {
  formed = formed_from c.args.program.now c.args.tables.now c.args.rule 36 (ap fault_number c.in-NoConflict.is) (omega arith) c.requires.lower;
  told = c.requires.known.links;
}

pub flow_fault-requires : goal.flow_fault-requires
flow_fault-requires c = record {
  formed = formed_from c.args.program.now c.args.tables.now c.args.rule 37 (ap fault_number c.in-Flow.is) (omega arith) c.requires.lower;
  told = c.requires.known.links;
}

pub protocol_fault-requires-clause-formed : goal.protocol_fault-requires-clause-formed
protocol_fault-requires-clause-formed c = formed_from c.args.program.now c.args.tables.now c.args.rule 38 (ap fault_number c.in-Protocol.is)
    (omega arith) c.requires.lower

pub weight_fault-requires : goal.weight_fault-requires
weight_fault-requires c = sizes_from c.args.program.now c.args.tables.now c.args.rule 39 (ap fault_number c.in-Weight.is) (omega arith) c.requires.lower

pub bound_fault-requires : goal.bound_fault-requires
bound_fault-requires c = sizes_from c.args.program.now c.args.tables.now c.args.rule 40 (ap fault_number c.in-Bound.is) (omega arith) c.requires.lower
