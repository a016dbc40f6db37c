use Rattle.sc_values.proofs.Ending.{checked_ends}
use Rattle.sc_values.proofs.checked.CheckedCode.kind.Goals as goal

pub unreachable-requires : goal.unreachable-requires
unreachable-requires c =
    let left = rw (c.loads.ensures, c.operations.ensures.value, c.code.ensures.value) at c.in-None.ensures in
    let checked = c.code.ensures.checked in
    let ends = checked_ends checked.kinds c.args.self.now checked.checks in
    cc

pub returns : goal.returns
returns c =
    let left = rw (c.loads.ensures, c.operations.ensures.value, c.code.ensures.value) at c.in-Some.ensures in
    λ kinds checks.
    (let ends = checked_ends kinds c.args.self.now checks in
    cc)
