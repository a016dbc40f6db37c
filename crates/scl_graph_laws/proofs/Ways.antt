-- The way on from a part of a text leads to the node of the first statement there.
use Rattle.std.proofs.Common.{◌≡◌, ℕ, zero, suc, List, refl, ap, ◌∙◌}
use Rattle.scl.specs.Block.{Block, End, Assign, Label, Goto, Pause, If, Fork}
use Rattle.scl.specs.Labels.{before, Jumps, label_count, reached_by}
use Rattle.scl_graph.specs.declared.way.Way.{Way}
use Rattle.scl_graph.specs.declared.way.Way.TheVariants as goes
use Rattle.scl_graph.specs.Graph.{way, end, number, target}
use Rattle.scl_graph_laws.specs.Mirrors.{leads}

-- which goto it is counts for nothing
same_jump : (root : Block) (most g h : ℕ) (name : List ℕ) → reached_by root most (Jumps g name) ≡ reached_by root most (Jumps h name)
same_jump root zero g h name = refl
same_jump root (suc most) g h name = refl

-- what follows is reached by this way
pub way_leads : (root b k : Block) (behind : Way) → target root behind ≡ leads root k → target root (way b behind) ≡ leads root (before b k)
way_leads root (End n) k behind h = h
way_leads root (Assign n x e rest) k behind h = refl
way_leads root (Label name rest) k behind h = way_leads root rest k behind h
way_leads root (Goto g name rest) k behind h = ap number (same_jump root (label_count root) 0 g name)
way_leads root (Pause n rest) k behind h = refl
way_leads root (If n e first second rest) k behind h = refl
way_leads root (Fork n branches rest) k behind h = refl

-- a text ends with its end
pub before_end : (b : Block) → before b (End (end b)) ≡ b
before_end (End n) = refl
before_end (Assign n x e rest) = ap (Assign n x e) (before_end rest)
before_end (Label name rest) = ap (Label name) (before_end rest)
before_end (Goto g name rest) = ap (Goto g name) (before_end rest)
before_end (Pause n rest) = ap (Pause n) (before_end rest)
before_end (If n e first second rest) = ap (If n e first second) (before_end rest)
before_end (Fork n branches rest) = ap (Fork n branches) (before_end rest)

-- what follows the end of a text is reached at its end
pub body_leads : (root b : Block) → target root (way b (goes.At (end b))) ≡ leads root b
body_leads root b = way_leads root b (End (end b)) (goes.At (end b)) refl ∙ ap (leads root) (before_end b)
