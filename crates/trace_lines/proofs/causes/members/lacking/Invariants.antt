use Rattle.std.proofs.Common.{◌≡◌}
use Rattle.serde_json.specs.View.{members_view}
use Rattle.trace_lines.specs.Cause.{first_without}
use Rattle.trace_lines.proofs.causes.members.lacking.Given as goal

-- the first that gives nothing is among what is left
abbrev pub invariant-loop-name : goal.invariant-loop-name
invariant-loop-name l =
    first_without l.variables (members_view l.members.entries) ≡ first_without l.variables (members_view l.name-iterator)
