use Rattle.sc_text.proofs.Steps.{minus_stops, minus_takes, plain_stops, plain_takes}
use Rattle.std.proofs.Common.{rules}
use Rattle.sc_text.proofs.leaf.divisor.Goals as goal

pub returns-in_err-divisor : goal.returns-in_err-divisor
returns-in_err-divisor c = search (rules, minus_stops)

pub returns-then-sign_follows : goal.returns-then-sign_follows
returns-then-sign_follows c = search (rules, minus_takes)

pub returns-in_err-divisor-2 : goal.returns-in_err-divisor-2
returns-in_err-divisor-2 c = search (rules, plain_stops)

pub returns : goal.returns
returns c = search (rules, plain_takes)
