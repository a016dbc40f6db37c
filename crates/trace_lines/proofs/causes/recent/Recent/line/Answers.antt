use Rattle.std.proofs.Common.{◌≡◌, ◌+◌, ◌-◌, ◌<◌, ℕ, refl, arith}
use Rattle.trace_lines.specs.Inside.Causes.{Leads}
use Rattle.trace_lines.proofs.CauseGiven.{given_behind}
use Rattle.trace_lines.proofs.causes.recent.Recent.line.Goals as goal

pub returns-in-Some : goal.returns-in-Some
returns-in-Some g c =
    let kept = c.args.self.now in
    let number = c.args.number in
    let within : kept.before < number = omega (arith, c.if-number-self.false) in
    let leads : (b : ℕ) → Leads kept.kept.items b c.in-Some.rest.now (b + (number - 1 - kept.before)) = rw c.deref.ensures.value at c.in-Some.ensures in
    given_behind g.N.OfInput.start (g.S.Source.to_come kept.source.now) kept.kept.items c.in-Some.rest.now kept.before (number - 1 - kept.before) number
    kept.is_ended c.line_in.result within refl kept.ended (kept.behind c.if-self.false) leads c.line_in.ensures
