-- What stands in a text, gathered; and what stands at a place stands in the text.
use Rattle.std.proofs.Common.{◌≡◌, ℕ, zero, suc, List, [], ◌∷◌, ◌++◌, length, Contains, ⊎_elim, refl, sym, ap, subst, ◌∙◌, append_assoc}
use Rattle.std.proofs.lemmas.List.Elements.{Contains-append_left, Contains-append_right, Contains-append_cases}
use Rattle.sc_values.specs.declared.expression.Expr.{Expr}
use Rattle.scl.specs.Block.{Block, End, Assign, Label, Goto, Pause, If, Fork, Branches, NoMore, Branch}
use Rattle.scl.specs.Labels.{before}
use Rattle.scl.specs.Places.{Place, whole, after_assign, after_label, after_goto, after_pause, in_first, in_second, after_if, after_fork, in_branch, IsBranch}
use Rattle.scl.specs.Places.{here, later, threads_of}

-- what is gathered of assignments, tests and forks
pub record Gathered (X : Type 0) : Type 0 where
  pub of_assign : ℕ → Expr → List X
  pub of_test : Expr → List X
  pub of_fork : Branches → List X

module _ {X : Type 0} (g : Gathered X) where
  abbrev mutual
    pub content : Block → List X
    content (End n) = []
    content (Assign n x e rest) = g.of_assign x e ++ content rest
    content (Label name rest) = content rest
    content (Goto l name rest) = content rest
    content (Pause n rest) = content rest
    content (If n e first second rest) = (g.of_test e ++ (content first ++ content second)) ++ content rest
    content (Fork n branches rest) = (g.of_fork branches ++ content_among branches) ++ content rest

    pub content_among : Branches → List X
    content_among NoMore = []
    content_among (Branch t body more) = content body ++ content_among more

  content_before : (b k : Block) → content (before b k) ≡ content b ++ content k
  content_before (End n) k = refl
  content_before (Assign n x e rest) k = ap (λ r. g.of_assign x e ++ r) (content_before rest k)
      ∙ sym (append_assoc (g.of_assign x e) (content rest) (content k))
  content_before (Label name rest) k = content_before rest k
  content_before (Goto l name rest) k = content_before rest k
  content_before (Pause n rest) k = content_before rest k
  content_before (If n e first second rest) k =
      ap (λ r. (g.of_test e ++ (content first ++ content second)) ++ r) (content_before rest k)
      ∙ sym (append_assoc (g.of_test e ++ (content first ++ content second)) (content rest) (content k))
  content_before (Fork n branches rest) k =
      ap (λ r. (g.of_fork branches ++ content_among branches) ++ r) (content_before rest k)
      ∙ sym (append_assoc (g.of_fork branches ++ content_among branches) (content rest) (content k))

  branch_content : (branches : Branches) (u : ℕ) (body : Block) → IsBranch branches u body → (y : X) → Contains (content body) y
      → Contains (content_among branches) y
  branch_content branches u body (here t first more) y h = Contains-append_left (content first) (content_among more) y h
  branch_content branches u body (later t other more v last at) y h = Contains-append_right (content other) (content_among more) y
      (branch_content more v last at y h)

  -- what an if holds in one of its lists and behind it
  in_if : (e : Expr) (a b rest : Block) (y : X) → Contains (content a) y → Contains ((g.of_test e ++ (content a ++ content b)) ++ content rest) y
  in_if e a b rest y h = Contains-append_left (g.of_test e ++ (content a ++ content b)) (content rest) y
      (Contains-append_right (g.of_test e) (content a ++ content b) y (Contains-append_left (content a) (content b) y h))

  in_else : (e : Expr) (a b rest : Block) (y : X) → Contains (content b) y → Contains ((g.of_test e ++ (content a ++ content b)) ++ content rest) y
  in_else e a b rest y h = Contains-append_left (g.of_test e ++ (content a ++ content b)) (content rest) y
      (Contains-append_right (g.of_test e) (content a ++ content b) y (Contains-append_right (content a) (content b) y h))

  -- what is gathered at a place is gathered in the text
  pub content_at : (root : Block) (t : ℕ) (todo : Block) → Place root t todo → (y : X) → Contains (content todo) y → Contains (content root) y
  content_at root t todo whole y h = h
  content_at root t todo (after_assign s n x e rest place) y h = content_at root s (Assign n x e rest) place y
      (Contains-append_right (g.of_assign x e) (content rest) y h)
  content_at root t todo (after_label s name rest place) y h = content_at root s (Label name rest) place y h
  content_at root t todo (after_goto s l name rest place) y h = content_at root s (Goto l name rest) place y h
  content_at root t todo (after_pause s n rest place) y h = content_at root s (Pause n rest) place y h
  content_at root t todo (in_first s n e a b rest place) y h =
      content_at root s (If n e a b rest) place y
      (⊎_elim (in_if e a b rest y) (Contains-append_right (g.of_test e ++ (content a ++ content b)) (content rest) y)
      (Contains-append_cases (content a) (content rest) y (subst (λ xs. Contains xs y) (content_before a rest) h)))
  content_at root t todo (in_second s n e a b rest place) y h =
      content_at root s (If n e a b rest) place y
      (⊎_elim (in_else e a b rest y) (Contains-append_right (g.of_test e ++ (content a ++ content b)) (content rest) y)
      (Contains-append_cases (content b) (content rest) y (subst (λ xs. Contains xs y) (content_before b rest) h)))
  content_at root t todo (after_if s n e a b rest place) y h =
      content_at root s (If n e a b rest) place y (Contains-append_right (g.of_test e ++ (content a ++ content b)) (content rest) y h)
  content_at root t todo (after_fork s n branches rest place) y h =
      content_at root s (Fork n branches rest) place y (Contains-append_right (g.of_fork branches ++ content_among branches) (content rest) y h)
  content_at root t todo (in_branch s n u branches body rest place at) y h =
      content_at root s (Fork n branches rest) place y
      (Contains-append_left (g.of_fork branches ++ content_among branches) (content rest) y
      (Contains-append_right (g.of_fork branches) (content_among branches) y (branch_content branches u body at y h)))

-- the assignments, the tests, and how many branches each fork has
abbrev pub assigned_in : Gathered (ℕ × Expr)
assigned_in = record { of_assign = λ x e. (x, e) ∷ []; of_test = λ e. []; of_fork = λ branches. [] }

abbrev pub tests_in : Gathered Expr
tests_in = record { of_assign = λ x e. []; of_test = λ e. e ∷ []; of_fork = λ branches. [] }

abbrev pub forks_in : Gathered ℕ
forks_in = record { of_assign = λ x e. []; of_test = λ e. []; of_fork = λ branches. length (threads_of branches) ∷ [] }

-- ---- forks in forks

abbrev mutual
  -- no more forks than this stand in one another
  pub Shallow : ℕ → Block → Type 0
  Shallow d (End n) = Unit {0}
  Shallow d (Assign n x e rest) = Shallow d rest
  Shallow d (Label name rest) = Shallow d rest
  Shallow d (Goto l name rest) = Shallow d rest
  Shallow d (Pause n rest) = Shallow d rest
  Shallow d (If n e first second rest) = Shallow d first × Shallow d second × Shallow d rest
  Shallow d (Fork n branches rest) = ShallowAmong d branches × Shallow d rest

  pub ShallowAmong : ℕ → Branches → Type 0
  ShallowAmong d NoMore = Unit {0}
  ShallowAmong zero (Branch t body more) = ⊥
  ShallowAmong (suc d) (Branch t body more) = Shallow d body × ShallowAmong (suc d) more

pub shallow_before : (d : ℕ) (b k : Block) → Shallow d b → Shallow d k → Shallow d (before b k)
shallow_before d (End n) k h i = i
shallow_before d (Assign n x e rest) k h i = shallow_before d rest k h i
shallow_before d (Label name rest) k h i = shallow_before d rest k h i
shallow_before d (Goto l name rest) k h i = shallow_before d rest k h i
shallow_before d (Pause n rest) k h i = shallow_before d rest k h i
shallow_before d (If n e first second rest) k h i = (h.0, h.1, shallow_before d rest k h.2 i)
shallow_before d (Fork n branches rest) k h i = (h.0, shallow_before d rest k h.1 i)

-- within a branch there is one fork less
pub record Inside (d : ℕ) (body : Block) : Type 0 where
  pub less : ℕ
  pub is : d ≡ suc less
  pub shallow : Shallow less body

pub shallow_branch : (d : ℕ) (branches : Branches) (u : ℕ) (body : Block) → IsBranch branches u body → ShallowAmong d branches → Inside d body
shallow_branch zero branches u body (here t first more) h = absurd h
shallow_branch (suc d) branches u body (here t first more) h = record { less = d; is = refl; shallow = h.0 }
shallow_branch zero branches u body (later t other more v last at) h = absurd h
shallow_branch (suc d) branches u body (later t other more v last at) h = shallow_branch (suc d) more v last at h.1
