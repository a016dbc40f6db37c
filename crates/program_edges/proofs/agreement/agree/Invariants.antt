use Rattle.std.proofs.Common.{ℕ, ◌<◌, get_or}
use Rattle.program_edges.specs.Inside.Agreement.{IsNotedAbove}
use Rattle.program_edges.proofs.agreement.agree.Given as goal

abbrev pub invariant-loop-n : goal.invariant-loop-n
invariant-loop-n l = (k : ℕ) → k < l.n-index → IsNotedAbove l.program l.way l.x l.seen.items (get_or l.nodes k 0)
