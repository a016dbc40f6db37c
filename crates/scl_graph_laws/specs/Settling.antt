-- Where places of a text lead past labels and gotos.
use Rattle.std.specs.Prelude.{ℕ, ◌≡◌, Some, List}
use Rattle.scl.specs.Block.{Block, Goto}
use Rattle.scl.specs.Labels.{behind_label, settled}
use Rattle.scl.specs.Places.{Place}
use Rattle.scl_graph_laws.specs.Standing.{IsStep}

-- a place leads to a statement of the same thread
pub record Settled (root : Block) (t : ℕ) (todo : Block) : Type 0 where
  pub first : Block
  pub is : settled root todo ≡ Some first
  pub place : Place root t first
  pub is_step : IsStep first

-- each place does
abbrev pub Settling : Block → Type 0
Settling root = (t : ℕ) (todo : Block) → Place root t todo → Settled root t todo

-- each place leads somewhere: no labels and gotos alone lead back to themselves
abbrev pub EachSettles : Block → Type 0
EachSettles root = (t : ℕ) (todo : Block) → Place root t todo → (first : Block) × (settled root todo ≡ Some first)

-- each goto leads to a place of its own thread
abbrev pub StayWithin : Block → Type 0
StayWithin root = (t g : ℕ) (name : List ℕ) (rest k : Block) → Place root t (Goto g name rest) → behind_label root name ≡ Some k → Place root t k
