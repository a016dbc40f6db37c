use Rattle.std.proofs.lemmas.Grind.{elements}
use Rattle.std.proofs.Common.{◌≡◌, ◌<◌, ◌≤◌, length, sum, arith}
use Rattle.least_or_cycle.proofs.Upward.{sum_left}
use Rattle.least_or_cycle.proofs.rising.rises.Goals as goal

pub loop-count-smaller : goal.loop-count-smaller
loop-count-smaller g c =
    let first : sum c.loop-count.table ≤ sum c.raise_along.new.table = c.if-not-raise_along.ensures.1 in
    let raised = c.in-Raised.ensures in
    let then : sum c.raise_along.new.table < sum c.raise_all.new.table = raised.more in
    let more : sum c.loop-count.table < sum c.raise_all.new.table = omega (arith, first, then) in
    let long : length c.raise_all.new.table ≡ c.args.count = omega arith in
    sum_left (g.R.NumberRule.keeps c.args.rule.now) c.args.top c.loop-count.table c.raise_all.new.table c.args.count long raised.under more

pub returns-then-not-raise_along : goal.returns-then-not-raise_along
returns-then-not-raise_along g c = grind (arith, elements) steps 2000000

pub returns-in-Kept : goal.returns-in-Kept
returns-in-Kept g c = grind (arith, elements) steps 2000000

pub loop-count-preserved : goal.loop-count-preserved
loop-count-preserved g c = grind (arith, elements) steps 2000000

pub returns-in-Over : goal.returns-in-Over
returns-in-Over g c = grind (arith, elements) steps 2000000
