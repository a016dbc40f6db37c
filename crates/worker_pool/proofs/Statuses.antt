-- Statuses that are equal are the same.
use Rattle.std.proofs.Common.{◌≡◌, rules}
use Rattle.std.specs.Bool.{Decides}
use Rattle.sc_graph.specs.declared.control.Status.{Status}
use Rattle.sc_graph.specs.contracts.control.StatusPartialEq.TheImpl as status

pub status_decides : (a b : Status) → Decides (status.eq-value.it a b) (a ≡ b)
status_decides a b = (λ h. search rules, λ e. search rules)
