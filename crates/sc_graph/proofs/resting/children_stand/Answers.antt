use Rattle.std.proofs.Common.{◌≡◌, ◌↔◌, ℕ, IsTrue, subst, sym, rules}
use Rattle.std.specs.Prelude.{Contains}
use Rattle.sc_graph.specs.declared.control.Status.TheVariants.{Waiting}
use Rattle.sc_graph.specs.Control.{status_of}
use Rattle.sc_graph.specs.Tick.{IsPresent}
use Rattle.sc_graph.proofs.AtRest.{stands_if, present_if}
use Rattle.sc_graph.proofs.resting.children_stand.Goals as goal

pub returns-in-Fork : goal.returns-in-Fork
returns-in-Fork c =
    let wait : IsTrue c.eq-waits.result ↔ (status_of c.args.control.now c.args.node.now.owner ≡ Waiting c.in-Fork.join) =
    search rules
    in (
      λ yes. stands_if _ _ c.in-Fork.children _ _ c.in-Fork.is wait
          (subst (λ ks. (k : ℕ) → Contains ks k → (IsPresent (status_of c.args.control.now k)) ↔ IsTrue c.eq-waits.result) c.as_slice.ensures
          (c.are_present.ensures.0 yes)),
      λ stands. c.are_present.ensures.1
          (subst (λ ks. (k : ℕ) → Contains ks k → (IsPresent (status_of c.args.control.now k)) ↔ IsTrue c.eq-waits.result) (sym c.as_slice.ensures)
          (present_if _ _ c.in-Fork.children _ _ c.in-Fork.is wait stands)),
    )
