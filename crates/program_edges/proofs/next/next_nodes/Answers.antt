use Rattle.std.proofs.Common.{ℕ, ◌≡◌, ◌⊎◌, Option, None, Some, subst, sym, ◌∙◌}
use Rattle.std.specs.Prelude.{◌↔◌}
use Rattle.program_edges.specs.Sorts.{IsOn}
use Rattle.program_edges.proofs.Instantly.{on_exit, on_other}
use Rattle.program_edges.proofs.next.next_nodes.Goals as goal

pub returns-then-is_exit : goal.returns-then-is_exit
returns-then-is_exit c = λ formed told n.
    let p = c.args.program.now in
    let P : Option ℕ → Type 0 = λ o. ((o ≡ Some n) ⊎ (None ≡ Some n)) ↔ IsOn p c.args.node c.args.step.now n in
    subst P (sym c.join_behind.ensures) (on_exit p c.args.links.now formed told c.args.node c.args.step.now (sym c.is_exit.ensures ∙ c.if-is_exit.true) n)

pub returns-else-is_exit : goal.returns-else-is_exit
returns-else-is_exit c = λ formed told n.
    let is = c.successors.ensures n in
    let on = on_other c.args.program.now c.args.node c.args.step.now n (sym c.is_exit.ensures ∙ c.if-is_exit.false) in
    (λ h. on.0 (is.0 h), λ h. is.1 (on.1 h))
