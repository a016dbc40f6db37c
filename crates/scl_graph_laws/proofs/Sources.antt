-- Each node comes from the first statement of a place of the text.
use Rattle.std.proofs.Common.{◌≡◌, ℕ, suc, Some, refl, sym, ap}
use Rattle.sc_values.specs.Assignment.{Assignment, Inits, Combines, assignment_of}
use Rattle.sc_graph.specs.declared.program.Node.{Node}
use Rattle.sc_graph.specs.declared.program.Step.{Step}
use Rattle.sc_graph.specs.declared.program.Step.TheVariants as step
use Rattle.scl.specs.Block.{Block, End, Assign, Pause, If, Fork, Branches}
use Rattle.scl.specs.Places.{Place}
use Rattle.scl_graph.specs.Graph.{assigns, number}
use Rattle.scl_graph_laws.specs.Standing.{IsStep}
use Rattle.scl_graph_laws.proofs.Spreading.{OfNodes}

-- node n is the first of a statement, or its second: the depth of a pause, the join of a fork
pub data NodeFrom (root : Block) (n : ℕ) (x : Node) : Type 0 where
  at_statement : (todo : Block) → Place root x.owner todo → IsStep todo → n ≡ number (Some todo) → NodeFrom root n x
  at_depth : (m : ℕ) (rest : Block) → Place root x.owner (Pause m rest) → n ≡ suc m → NodeFrom root n x
  at_join : (m : ℕ) (branches : Branches) (rest : Block) → Place root x.owner (Fork m branches rest) → n ≡ suc m → NodeFrom root n x

pub node_sources : (root : Block) → OfNodes root (NodeFrom root)
node_sources root = record {
  assign = λ t n x e rest next place. at_statement (Assign n x e rest) place tt refl;
  pause = λ t n rest place. at_statement (Pause n rest) place tt refl;
  depth = λ t n rest next place. at_depth n rest place refl;
  test = λ t n e a b rest l r place. at_statement (If n e a b rest) place tt refl;
  fork = λ t n branches rest place. at_statement (Fork n branches rest) place tt refl;
  join = λ t n branches rest next place. at_join n branches rest place refl;
  exit = λ t n place. at_statement (End n) place tt refl;
}

-- the depth of a pause is the next node
abbrev pub Pauses : ℕ → Node → Type 0
Pauses n x = (d : ℕ) → x.step ≡ step.Surf d → d ≡ suc n

abbrev depth_of : Step → ℕ
depth_of (step.Surf d) = d
depth_of other = 0

assigns_no_pause : (x : ℕ) (a : Assignment) (next d : ℕ) → assigns x a next ≡ step.Surf d → ⊥
assigns_no_pause x (Inits e) next d h = cc
assigns_no_pause x (Combines f e) next d h = cc

pub nodes_pause : (root : Block) → OfNodes root Pauses
nodes_pause root = record {
  assign = λ t n x e rest next place d h. absurd (assigns_no_pause x (assignment_of x e) next d h);
  pause = λ t n rest place d h. sym (ap depth_of h);
  depth = λ t n rest next place d h. absurd (cc);
  test = λ t n e a b rest l r place d h. absurd (cc);
  fork = λ t n branches rest place d h. absurd (cc);
  join = λ t n branches rest next place d h. absurd (cc);
  exit = λ t n place d h. absurd (cc);
}
