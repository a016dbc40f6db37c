use Rattle.std.proofs.Common.{◌≡◌, ◌∙◌, ◌-◌, length, slice_get, Some, sym, rules}
use Rattle.trace_lines.proofs.InOrder.{is_behind_last-last}
use Rattle.trace_lines.proofs.ordered.is_behind_last.Goals as goal

pub returns-in-Some : goal.returns-in-Some
returns-in-Some c =
    let found = c.args.found.now in
    let got : slice_get found (length found - 1) ≡ Some c.in-Some.last.now = search rules in
    c.is_behind.ensures ∙ sym (is_behind_last-last c.args.name.now found c.in-Some.last.now got)
