use Rattle.std.proofs.lemmas.Grind.{common_steps}
use Rattle.std.proofs.Common.{rules, arith}
use Rattle.tick_core.specs.declared.state.Turn.TheVariants as turn
use Rattle.tick_core.proofs.state.TickState.claim.Goals as goal

pub returns-in_default-clause-answers : goal.returns-in_default-clause-answers
returns-in_default-clause-answers c = c.unanswered.ensures c.args.worker

pub returns-clause-happens : goal.returns-clause-happens
returns-clause-happens c = (c.requires, (turn.Claim c.new_claim-claim.result, search rules))

pub returns-clause-answers : goal.returns-clause-answers
returns-clause-answers c = grind (arith, common_steps) steps 2000000
