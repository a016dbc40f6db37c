use Rattle.sc_text.proofs.Steps.{quotient_fails, quotient_reads, quotient_stops}
use Rattle.std.proofs.Common.{rules}
use Rattle.sc_text.proofs.leaf.quotient.Goals as goal

pub returns-then-not-divides : goal.returns-then-not-divides
returns-then-not-divides c = search (rules, quotient_fails)

pub returns-in_err-divisor-in-len1-up : goal.returns-in_err-divisor-in-len1-up
returns-in_err-divisor-in-len1-up c = search (rules, quotient_stops)

pub returns-in_ok-push-in-len1-up : goal.returns-in_ok-push-in-len1-up
returns-in_ok-push-in-len1-up c = search (rules, quotient_reads)
