-- What a text has of something in all: what its statements have, put together in their order.
use Rattle.std.specs.Prelude.{ℕ, List}
use Rattle.scl.specs.Block.{Block, End, Assign, Label, Goto, Pause, If, Fork, Branches, NoMore, Branch}

-- what is put together, and how
pub record Sum (A : Type 0) : Type 0 where
  pub nothing : A
  pub together : A → A → A
  -- a label of this name, and what follows it
  pub label : List ℕ → A → A
  -- a fork, by what its branches have, and what follows it
  pub fork : A → A → A
  -- a branch of this thread, which has this to do, by what that has
  pub branch : ℕ → Block → A → A

abbrev mutual
  pub total : {A : Type 0} → Sum A → Block → A
  total s (End n) = s.nothing
  total s (Assign n x e rest) = total s rest
  total s (Label name rest) = s.label name (total s rest)
  total s (Goto g name rest) = total s rest
  total s (Pause n rest) = total s rest
  total s (If n e first second rest) = s.together (s.together (total s first) (total s second)) (total s rest)
  total s (Fork n branches rest) = s.fork (total_among s branches) (total s rest)

  pub total_among : {A : Type 0} → Sum A → Branches → A
  total_among s NoMore = s.nothing
  total_among s (Branch t body more) = s.together (s.branch t body (total s body)) (total_among s more)
