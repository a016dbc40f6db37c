use Rattle.std.proofs.Common.{arith}
use Rattle.std.proofs.lemmas.Grind.{common_steps}
use Rattle.tick_core.proofs.StaysListed.{puts_one}
use Rattle.tick_core.proofs.listed.keep_one.Goals as goal

pub returns-clause-kept : goal.returns-clause-kept
returns-clause-kept c = puts_one c.args.control.now c.args.threads.now.items c.args.count c.args.thread c.requires

pub returns-then-not-must_stay-clause-kept : goal.returns-then-not-must_stay-clause-kept
returns-then-not-must_stay-clause-kept c = grind (arith, common_steps) steps 2000000
