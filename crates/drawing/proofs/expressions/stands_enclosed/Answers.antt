use Rattle.std.proofs.Common.{ap, nat_lt}
use Rattle.drawing.proofs.expressions.stands_enclosed.Goals as goal

pub returns : goal.returns
returns c = λ symbols. ap (λ n. nat_lt n c.args.least) (c.level.ensures symbols)
