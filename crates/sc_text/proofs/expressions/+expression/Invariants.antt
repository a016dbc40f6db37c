use Rattle.std.proofs.Common.{ℕ, ◌+◌, ◌-◌, ◌*◌}
use Rattle.grammar.specs.Read.{read}
use Rattle.sc_text.specs.declared.level.Level.{Level}
use Rattle.sc_text.specs.declared.level.Level.TheVariants as level
use Rattle.sc_text.specs.Expression.{within}
use Rattle.sc_text.specs.Levels.{whole, IsGoing}
use Rattle.sc_text.proofs.expressions.+expression.Given as goal

-- within one depth each rule calls only those that bind stronger
abbrev rank : Level → ℕ
rank level.Disjunction = 16
rank level.Conjunction = 12
rank level.Sum = 7
rank level.Product = 4

abbrev pub decreases-chain : goal.decreases-chain
decreases-chain l = 32 * l.depth + (rank l.level + 2)

abbrev pub decreases-right : goal.decreases-right
decreases-right l = 32 * l.depth + (rank l.level + 1)

abbrev pub decreases-operand : goal.decreases-operand
decreases-operand l = 32 * l.depth + rank l.level

abbrev pub decreases-negation : goal.decreases-negation
decreases-negation l = 32 * l.depth + 11

abbrev pub decreases-comparison : goal.decreases-comparison
decreases-comparison l = 32 * l.depth + 10

abbrev pub decreases-unary : goal.decreases-unary
decreases-unary l = 32 * l.depth + 3

abbrev pub decreases-atom : goal.decreases-atom
decreases-atom l = 32 * l.depth + 2

abbrev pub decreases-call : goal.decreases-call
decreases-call l = 32 * l.depth + 20

abbrev pub decreases-closed : goal.decreases-closed
decreases-closed l = 32 * l.depth + 19

abbrev pub invariant-chain-loop-used : goal.invariant-chain-loop-used
invariant-chain-loop-used l =
    IsGoing (read (whole l.fn.level (within l.fn.depth)) l.fn.tokens) l.fn.code l.code l.fn.level (within l.fn.depth) (l.most - l.used) l.rest
