-- What stands at a number of a node is within the program.
use Rattle.std.proofs.Common.{ℕ, ◌≡◌, ◌<◌, Option, Some, None, length, slice_get, option_map, refl}
use Rattle.std.proofs.lemmas.Option.{slice_get_within}
use Rattle.sc_graph.specs.declared.program.Node.{Node}
use Rattle.sc_graph.specs.declared.program.Step.{Step}
use Rattle.sc_graph.specs.Program.{Program, step_at}

-- a node with its step
pub record IsNode (p : Program) (n : ℕ) (s : Step) : Type 0 where
  pub node : Node
  pub stands : slice_get p.nodes n ≡ Some node
  pub step : node.step ≡ s

pub node_of_step : (p : Program) (n : ℕ) (s : Step) → step_at p n ≡ Some s → IsNode p n s
node_of_step p n s e = found (slice_get p.nodes n) refl e
  where
    found : (o : Option Node) → slice_get p.nodes n ≡ o → option_map (λ (x : Node). x.step) o ≡ Some s → IsNode p n s
    found None is h = absurd (cc)
    found (Some x) is h = record { node = x; stands = is; step = cc }

pub step_within : (p : Program) (n : ℕ) (s : Step) → step_at p n ≡ Some s → n < length p.nodes
step_within p n s e = let at = node_of_step p n s e in slice_get_within p.nodes n at.node at.stands
