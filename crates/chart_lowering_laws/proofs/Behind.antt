-- One label directly behind another, in lists of labels.
use Rattle.std.proofs.Common.{◌≡◌, ℕ, ◌⊎◌, inl, inr, List, [], ◌∷◌, ◌++◌, Contains, sym, subst, ◌∙◌}
use Rattle.scl.specs.Block.{Block, Branches}
use Rattle.scl.specs.Places.{IsBranch, here, later}
use Rattle.tick_laws.proofs.Lists.{contains_head, contains_tail}
use Rattle.scl_graph_laws.proofs.Scopes.{Distinct}
use Rattle.scl_graph_laws.proofs.Searching.{own_labels, lower_labels, labels_among}

abbrev pub BeginsBy : List (List ℕ) → List ℕ → Type 0
BeginsBy [] b = ⊥
BeginsBy (x ∷ xs) b = x ≡ b

-- b stands directly behind a
abbrev pub IsBehind : List (List ℕ) → List ℕ → List ℕ → Type 0
IsBehind [] a b = ⊥
IsBehind (x ∷ xs) a b = ((x ≡ a) × BeginsBy xs b) ⊎ IsBehind xs a b

begins_left : (xs ys : List (List ℕ)) (b : List ℕ) → BeginsBy xs b → BeginsBy (xs ++ ys) b
begins_left [] ys b h = absurd h
begins_left (x ∷ xs) ys b h = h

pub behind_left : (xs ys : List (List ℕ)) (a b : List ℕ) → IsBehind xs a b → IsBehind (xs ++ ys) a b
behind_left [] ys a b h = absurd h
behind_left (x ∷ xs) ys a b (inl h) = inl (h.0, begins_left xs ys b h.1)
behind_left (x ∷ xs) ys a b (inr h) = inr (behind_left xs ys a b h)

pub behind_right : (xs ys : List (List ℕ)) (a b : List ℕ) → IsBehind ys a b → IsBehind (xs ++ ys) a b
behind_right [] ys a b h = h
behind_right (x ∷ xs) ys a b h = inr (behind_right xs ys a b h)

-- in a branch of a fork
pub behind_branch : (branches : Branches) (u : ℕ) (body : Block) → IsBranch branches u body → (a b : List ℕ) →
    IsBehind (own_labels body ++ lower_labels body) a b → IsBehind (labels_among branches) a b
behind_branch branches u body (here t first more) a b h = behind_left (own_labels first ++ lower_labels first) (labels_among more) a b h
behind_branch branches u body (later t other more v last at) a b h = behind_right (own_labels other ++ lower_labels other) (labels_among more) a b
    (behind_branch more v last at a b h)

stands_behind : (xs : List (List ℕ)) (a b : List ℕ) → IsBehind xs a b → Contains xs b
stands_behind [] a b h = absurd h
stands_behind (x ∷ xs) a b (inr h) = contains_tail x b xs (stands_behind xs a b h)
stands_behind (x ∷ []) a b (inl h) = absurd h.1
stands_behind (x ∷ y ∷ xs) a b (inl h) = contains_tail x b (y ∷ xs) (subst (λ z. Contains (z ∷ xs) b) (sym h.1) (contains_head b xs))

-- behind what stands first
not_first : (xs : List (List ℕ)) (z a : List ℕ) → Distinct xs → BeginsBy xs z → IsBehind xs a z → ⊥
not_first [] z a distinct first h = h
not_first (x ∷ xs) z a distinct first (inr h) = distinct.0 (subst (Contains xs) (sym first) (stands_behind xs a z h))
not_first (x ∷ []) z a distinct first (inl h) = h.1
not_first (x ∷ y ∷ xs) z a distinct first (inl h) = distinct.0 (subst (λ w. Contains (w ∷ xs) x) (first ∙ sym h.1) (contains_head x xs))

-- where each stands once, it stands behind one alone
pub behind_one : (xs : List (List ℕ)) (a b z : List ℕ) → Distinct xs → IsBehind xs a z → IsBehind xs b z → a ≡ b
behind_one [] a b z distinct h k = absurd h
behind_one (x ∷ xs) a b z distinct (inl h) (inl k) = sym h.0 ∙ k.0
behind_one (x ∷ xs) a b z distinct (inl h) (inr k) = absurd (not_first xs z b distinct.1 h.1 k)
behind_one (x ∷ xs) a b z distinct (inr h) (inl k) = absurd (not_first xs z a distinct.1 k.1 h)
behind_one (x ∷ xs) a b z distinct (inr h) (inr k) = behind_one xs a b z distinct.1 h k
