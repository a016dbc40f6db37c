-- What a defined step at a fork makes of a configuration.
use Rattle.std.proofs.Common.{◌≡◌, ℕ, Bool, true, false, List, ◌∷◌, map, Option, Some, option_map, refl, sym, ap, subst, ◌∙◌}
use Rattle.std.specs.Prelude.{IsSome}
use Rattle.sc_graph.specs.declared.program.Step.{Step}
use Rattle.sc_graph.specs.declared.program.Step.TheVariants as step
use Rattle.sc_graph.specs.declared.control.Control.{Control}
use Rattle.sc_graph.specs.declared.control.Status.TheVariants as status
use Rattle.sc_graph.specs.Program.{Program, entry_of}
use Rattle.sc_graph.specs.Steps.{Keep, Effect, enters, after, only_if, node_effect}

pub only_if_is : {A : Type 0} (test : Bool) (answer : Option A) → IsSome (only_if test answer) → only_if test answer ≡ answer
only_if_is true answer some = refl
only_if_is false answer some = absurd cc

pub forked_takes : (p : Program) (c d : Control) (t j : ℕ) (children ks : List ℕ) (s : Step) → s ≡ step.Fork children j → ks ≡ children →
    IsSome (node_effect p c t s) →
    d ≡ after (record { change = Keep; moves = (t, status.Waiting j) ∷ map (λ k. enters k (entry_of p k)) ks }) c →
    option_map (λ e. after e c) (node_effect p c t s) ≡ Some d
forked_takes p c d t j children ks s is same defined taken =
    let E : List ℕ → Effect = λ xs. record { change = Keep; moves = (t, status.Waiting j) ∷ map (λ k. enters k (entry_of p k)) xs } in
    let here : IsSome (node_effect p c t (step.Fork children j)) = subst (λ x. IsSome (node_effect p c t x)) is defined in
    let found : node_effect p c t s ≡ Some (E children) = ap (node_effect p c t) is ∙ only_if_is _ (Some (E children)) here in
    ap (option_map (λ x. after x c)) found ∙ ap Some (ap (λ xs. after (E xs) c) (sym same) ∙ sym taken)
