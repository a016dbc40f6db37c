-- The tree of threads: what stands below what, and where two threads part.
use Rattle.std.proofs.Common.{ℕ, zero, suc, ◌≡◌, ◌≢◌, ◌<◌, ◌≤◌, ◌⊎◌, inl, inr, Some, None, refl, sym, subst, arith}
use Rattle.sc_graph.specs.Program.{Program, parent_of}
use Rattle.sc_graph.specs.Threads.{Descends, Below}
use Rattle.sc_graph.specs.Inside.Parting.{PartAt}

-- the number of a parent is less than that of its child
pub record FallsUpwards (p : Program) : Type 0 where
  pub falls : (t q : ℕ) → parent_of p t ≡ Some q → q < t

below_itself : (p : Program) (t : ℕ) → Below p t t
below_itself p t = record { generations = 0; descends = refl }

-- a thread stands below what its parent stands below
pub below_up : (p : Program) (t q a : ℕ) → parent_of p t ≡ Some q → Below p q a → Below p t a
below_up p t q a up below = record { generations = suc below.generations; descends = (q, up, below.descends) }

descends_through : (p : Program) (n t u a : ℕ) → Descends p n t u → Below p u a → Below p t a
descends_through p zero t u a d below = subst (λ (x : ℕ). Below p x a) (sym d) below
descends_through p (suc n) t u a d below = below_up p t d.0 a d.1 (descends_through p n d.0 u a d.2 below)

-- below is transitive
pub below_through : (p : Program) (t u a : ℕ) → Below p t u → Below p u a → Below p t a
below_through p t u a first second = descends_through p first.generations t u a first.descends second

climbed : (p : Program) (n t a : ℕ) → Descends p n t a → (t ≡ a) ⊎ ((q : ℕ) × (parent_of p t ≡ Some q) × Below p q a)
climbed p zero t a d = inl d
climbed p (suc n) t a d = inr (d.0, d.1, record { generations = n; descends = d.2 })

-- a thread below another is it, or has a parent below it
pub below_cases : (p : Program) (t a : ℕ) → Below p t a → (t ≡ a) ⊎ ((q : ℕ) × (parent_of p t ≡ Some q) × Below p q a)
below_cases p t a below = climbed p below.generations t a below.descends

-- so where its parent is known
pub below_known : (p : Program) (t q a : ℕ) → parent_of p t ≡ Some q → Below p t a → t ≢ a → Below p q a
below_known p t q a up below other =
    elim (below_cases p t a below) [
      | inl e ↦ absurd (other e)
      | inr w ↦
          let e : w.0 ≡ q = cc (w.1, up) in
          subst (λ (x : ℕ). Below p x a) e w.2
    ]

descends_falls : (p : Program) → FallsUpwards p → (n t a : ℕ) → Descends p n t a → a ≤ t
descends_falls p tree zero t a d = omega (arith, d)
descends_falls p tree (suc n) t a d =
    let lt : d.0 < t = tree.falls t d.0 d.1 in
    let le : a ≤ d.0 = descends_falls p tree n d.0 a d.2 in
    omega arith

-- what stands above has no greater number
pub below_falls : (p : Program) → FallsUpwards p → (t a : ℕ) → Below p t a → a ≤ t
below_falls p tree t a below = descends_falls p tree below.generations t a below.descends

descends_linear : (p : Program) (n t a b : ℕ) → Descends p n t a → Below p t b → Below p a b ⊎ Below p b a
descends_linear p zero t a b d below = inl (subst (λ (x : ℕ). Below p x b) d below)
descends_linear p (suc n) t a b d below =
    elim (below_cases p t b below) [
      | inl e ↦ inr (subst (λ (x : ℕ). Below p x a) e (record { generations = suc n; descends = d }))
      | inr w ↦
          let e : w.0 ≡ d.0 = cc (w.1, d.1) in
          descends_linear p n d.0 a b d.2 (subst (λ (x : ℕ). Below p x b) e w.2)
    ]

-- of two threads above one thread, one is above the other
pub below_linear : (p : Program) (t a b : ℕ) → Below p t a → Below p t b → Below p a b ⊎ Below p b a
below_linear p t a b first second = descends_linear p first.generations t a b first.descends second

-- of two children of one thread neither is above the other
siblings_same : (p : Program) → FallsUpwards p → (l m a : ℕ) → parent_of p l ≡ Some a → parent_of p m ≡ Some a → Below p l m → l ≡ m
siblings_same p tree l m a left right below =
    elim (below_cases p l m below) [
      | inl e ↦ e
      | inr w ↦
          let e : w.0 ≡ a = cc (w.1, left) in
          let low : m ≤ w.0 = below_falls p tree w.0 m w.2 in
          let high : a < m = tree.falls m a right in
          absurd (omega arith)
    ]

-- two threads part the same way round
pub part_swapped : (p : Program) (t u l r a : ℕ) → PartAt p t u l r a → PartAt p u t r l a
part_swapped p t u l r a x =
    record {
      left_parent = x.right_parent;
      right_parent = x.left_parent;
      differ = λ e. x.differ (sym e);
      t_below = x.u_below;
      u_below = x.t_below;
    }

-- a thread does not part from itself
pub never_from_itself : (p : Program) → FallsUpwards p → (t l r a : ℕ) → ¬ PartAt p t t l r a
never_from_itself p tree t l r a x =
    elim (below_linear p t l r x.t_below x.u_below) [
      | inl below ↦ x.differ (siblings_same p tree l r a x.left_parent x.right_parent below)
      | inr below ↦ x.differ (sym (siblings_same p tree r l a x.right_parent x.left_parent below))
    ]

-- the root parts from no thread
pub never_root : (p : Program) (t u l r a : ℕ) → parent_of p t ≡ None → ¬ PartAt p t u l r a
never_root p t u l r a root x =
    elim (below_cases p t l x.t_below) [
      | inl e ↦
          let f : parent_of p l ≡ None = subst (λ (y : ℕ). parent_of p y ≡ None) e root in
          cc (f, x.left_parent)
      | inr w ↦ cc (w.1, root)
    ]

-- a child does not part from a thread whose parent has a smaller number than its own
too_high : (p : Program) → FallsUpwards p → (t u q s l r a : ℕ) → parent_of p t ≡ Some q → parent_of p u ≡ Some s → s < q → PartAt p t u l r a → t ≢ l
too_high p tree t u q s l r a up other less x here =
    let same : parent_of p l ≡ Some q = subst (λ (y : ℕ). parent_of p y ≡ Some q) here up in
    let e : a ≡ q = cc (same, x.left_parent) in
    let high : a < r = tree.falls r a x.right_parent in
    elim (below_cases p u r x.u_below) [
      | inl f ↦
          let g : parent_of p r ≡ Some s = subst (λ (y : ℕ). parent_of p y ≡ Some s) f other in
          let h : a ≡ s = cc (g, x.right_parent) in
          omega arith
      | inr w ↦
          let f : w.0 ≡ s = cc (w.1, other) in
          let low : r ≤ w.0 = below_falls p tree w.0 r w.2 in
          omega arith
    ]

pub part_up : (p : Program) → FallsUpwards p → (t u q s l r a : ℕ) → parent_of p t ≡ Some q → parent_of p u ≡ Some s → s < q → PartAt p t u l r a
    → PartAt p q u l r a
part_up p tree t u q s l r a up other less x =
    record {
      left_parent = x.left_parent;
      right_parent = x.right_parent;
      differ = x.differ;
      t_below = elim (below_cases p t l x.t_below) [
        | inl e ↦ absurd (too_high p tree t u q s l r a up other less x e)
        | inr w ↦
            let e : w.0 ≡ q = cc (w.1, up) in
            subst (λ (y : ℕ). Below p y l) e w.2
      ];
      u_below = x.u_below;
    }

pub part_down : (p : Program) (t u q l r a : ℕ) → parent_of p t ≡ Some q → PartAt p q u l r a → PartAt p t u l r a
part_down p t u q l r a up x =
    record {
      left_parent = x.left_parent;
      right_parent = x.right_parent;
      differ = x.differ;
      t_below = below_up p t q l up x.t_below;
      u_below = x.u_below;
    }

-- two different children of one thread part there
pub part_here : (p : Program) (t u a : ℕ) → parent_of p t ≡ Some a → parent_of p u ≡ Some a → t ≢ u → PartAt p t u t u a
part_here p t u a left right other =
    record {
      left_parent = left;
      right_parent = right;
      differ = other;
      t_below = below_itself p t;
      u_below = below_itself p u;
    }

same_parents : (p : Program) (r s a b : ℕ) → parent_of p r ≡ Some a → parent_of p s ≡ Some b → r ≡ s → ¬ (b < a)
same_parents p r s a b left right e less =
    let f : parent_of p s ≡ Some a = subst (λ (y : ℕ). parent_of p y ≡ Some a) e left in
    let g : a ≡ b = cc (f, right) in
    omega arith

-- nobody parts twice, once below the other place
never_deeper : (p : Program) → FallsUpwards p → (t u l r a m s b : ℕ) → PartAt p t u l r a → PartAt p t u m s b → ¬ Below p a m
never_deeper p tree t u l r a m s b x y deep =
    let low : m ≤ a = below_falls p tree a m deep in
    let high : b < m = tree.falls m b y.left_parent in
    elim (below_linear p u r s x.u_below y.u_below) [
      | inl rs ↦ elim (below_cases p r s rs) [
        | inl e ↦ same_parents p r s a b x.right_parent y.right_parent e (omega arith)
        | inr w ↦
            let e : w.0 ≡ a = cc (w.1, x.right_parent) in
            let right : Below p a s = subst (λ (z : ℕ). Below p z s) e w.2 in
            never_from_itself p tree a m s b (record {
              left_parent = y.left_parent;
              right_parent = y.right_parent;
              differ = y.differ;
              t_below = deep;
              u_below = right;
            })
      ]
      | inr sr ↦ elim (below_cases p s r sr) [
        | inl e ↦ same_parents p r s a b x.right_parent y.right_parent (sym e) (omega arith)
        | inr w ↦
            let e : w.0 ≡ b = cc (w.1, y.right_parent) in
            let under : r ≤ w.0 = below_falls p tree w.0 r w.2 in
            let over : a < r = tree.falls r a x.right_parent in
            absurd (omega arith)
      ]
    ]

part_once_left : (p : Program) → FallsUpwards p → (t u l r a m s b : ℕ) → PartAt p t u l r a → PartAt p t u m s b → l ≡ m
part_once_left p tree t u l r a m s b x y =
    elim (below_linear p t l m x.t_below y.t_below) [
      | inl lm ↦ elim (below_cases p l m lm) [
        | inl e ↦ e
        | inr w ↦
            let e : w.0 ≡ a = cc (w.1, x.left_parent) in
            absurd (never_deeper p tree t u l r a m s b x y (subst (λ (z : ℕ). Below p z m) e w.2))
      ]
      | inr ml ↦ elim (below_cases p m l ml) [
        | inl e ↦ sym e
        | inr w ↦
            let e : w.0 ≡ b = cc (w.1, y.left_parent) in
            absurd (never_deeper p tree t u m s b l r a y x (subst (λ (z : ℕ). Below p z l) e w.2))
      ]
    ]

-- two threads part at one place
pub part_once : (p : Program) → FallsUpwards p → (t u l r a m s b : ℕ) → PartAt p t u l r a → PartAt p t u m s b → (l ≡ m) × (r ≡ s) × (a ≡ b)
part_once p tree t u l r a m s b x y =
    let left : l ≡ m = part_once_left p tree t u l r a m s b x y in
    let right : r ≡ s = part_once_left p tree u t r l a s m b (part_swapped p t u l r a x) (part_swapped p t u m s b y) in
    let up : parent_of p l ≡ Some b = subst (λ (z : ℕ). parent_of p z ≡ Some b) (sym left) y.left_parent in
    let both : a ≡ b = cc (up, x.left_parent) in
    (left, right, both)
