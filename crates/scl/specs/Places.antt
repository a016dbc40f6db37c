-- The places of a program's text, reached or not, and the tree of its threads.
use Rattle.std.specs.Prelude.{ℕ, zero, suc, ◌≡◌, ◌≢◌, List, [], ◌∷◌, Contains}
use Rattle.sc_values.specs.declared.expression.Expr.{Expr}
use Rattle.scl.specs.Block.{Block, Assign, Label, Goto, Pause, If, Fork, Branches, NoMore, Branch}
use Rattle.scl.specs.Labels.{before}

-- a branch of a fork: its thread, and what that has to do
pub data IsBranch : (branches : Branches) (t : ℕ) (body : Block) → Type 0 where
  here : (t : ℕ) (body : Block) (more : Branches) → IsBranch (Branch t body more) t body
  later : (u : ℕ) (other : Block) (more : Branches) (t : ℕ) (body : Block) → IsBranch more t body →
      IsBranch (Branch u other more) t body

-- from some place of the text on, thread t has this to do
pub data Place (root : Block) : (t : ℕ) (todo : Block) → Type 0 where
  whole : Place root 0 root
  after_assign : (t n x : ℕ) (e : Expr) (rest : Block) → Place root t (Assign n x e rest) → Place root t rest
  after_label : (t : ℕ) (name : List ℕ) (rest : Block) → Place root t (Label name rest) → Place root t rest
  after_goto : (t g : ℕ) (name : List ℕ) (rest : Block) → Place root t (Goto g name rest) → Place root t rest
  after_pause : (t n : ℕ) (rest : Block) → Place root t (Pause n rest) → Place root t rest
  in_first : (t n : ℕ) (e : Expr) (a b rest : Block) → Place root t (If n e a b rest) → Place root t (before a rest)
  in_second : (t n : ℕ) (e : Expr) (a b rest : Block) → Place root t (If n e a b rest) → Place root t (before b rest)
  after_if : (t n : ℕ) (e : Expr) (a b rest : Block) → Place root t (If n e a b rest) → Place root t rest
  after_fork : (t n : ℕ) (branches : Branches) (rest : Block) → Place root t (Fork n branches rest) → Place root t rest
  in_branch : (t n u : ℕ) (branches : Branches) (body rest : Block) → Place root t (Fork n branches rest) →
      IsBranch branches u body → Place root u body

-- the threads of a fork's branches
abbrev pub threads_of : Branches → List ℕ
threads_of NoMore = []
threads_of (Branch t body more) = t ∷ threads_of more

-- a fork of thread t
pub record IsFork (root : Block) (n t : ℕ) (branches : Branches) : Type 0 where
  pub rest : Block
  pub place : Place root t (Fork n branches rest)

-- thread u is a branch of a fork of thread t
pub record IsChild (root : Block) (u t : ℕ) : Type 0 where
  pub node : ℕ
  pub branches : Branches
  pub is_fork : IsFork root node t branches
  pub branch : Contains (threads_of branches) u

-- thread a is so many generations above thread t
abbrev pub Descends : Block → ℕ → ℕ → ℕ → Type 0
Descends root zero t a = t ≡ a
Descends root (suc n) t a = (parent : ℕ) × IsChild root t parent × Descends root n parent a

-- thread t is thread a, or descends from it
pub record Below (root : Block) (t a : ℕ) : Type 0 where
  pub generations : ℕ
  pub descends : Descends root generations t a

-- threads t and u are, or descend from, two different branches of one fork of thread a
pub record ForkedApart (root : Block) (t u a : ℕ) : Type 0 where
  pub fork : ℕ
  pub branches : Branches
  pub is_fork : IsFork root fork a branches
  pub left : ℕ
  pub right : ℕ
  pub left_branch : Contains (threads_of branches) left
  pub right_branch : Contains (threads_of branches) right
  pub differ : left ≢ right
  pub t_below : Below root t left
  pub u_below : Below root u right
