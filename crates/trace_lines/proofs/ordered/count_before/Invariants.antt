use Rattle.std.proofs.Common.{◌≡◌, ◌+◌, drop}
use Rattle.trace_lines.specs.Inside.Ordered.{place_in}
use Rattle.trace_lines.proofs.ordered.count_before.Given as goal

-- the others are counted from here on
abbrev pub invariant-loop-at : goal.invariant-loop-at
invariant-loop-at l = l.at + place_in l.name (drop l.at l.found) ≡ place_in l.name l.found
