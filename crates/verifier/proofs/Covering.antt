-- Bounds cover each node exactly where the tick-bound rule is kept.
use Rattle.std.proofs.Common.{ℕ, ◌≡◌, ◌<◌, ◌≤◌, ◌+◌, ◌⊎◌, inl, inr, Option, Some, None, List, length, slice_get, option_map, refl, ◌∙◌, ap, subst, get_or}
use Rattle.std.proofs.Common.{arith}
use Rattle.std.proofs.lemmas.Option.{slice_get_cases}
use Rattle.sc_graph.specs.declared.place.Place.{Place}
use Rattle.sc_graph.specs.declared.place.Place.TheVariants as place
use Rattle.sc_graph.specs.declared.tables.Tables.{Tables}
use Rattle.sc_graph.specs.declared.program.Thread.{Thread}
use Rattle.sc_graph.specs.declared.program.Node.{Node}
use Rattle.sc_graph.specs.declared.program.Step.{Step}
use Rattle.sc_graph.specs.declared.program.Step.TheVariants as step
use Rattle.sc_graph.specs.Program.{Program, step_at, owner_of}
use Rattle.sc_graph.specs.Size.{SizeAt, StepFits}
use Rattle.sc_graph.specs.Limits.{child_limit}
use Rattle.sc_graph.specs.Tables.{weight, bound}
use Rattle.sc_graph.specs.Costs.{child_bounds, BoundAt, BudgetHolds}
use Rattle.verifier.specs.Inside.ByNode.{IsCovered}
use Rattle.sc_graph.proofs.Nodes.{node_of_step, step_within}

pub bounds_kept : (p : Program) (q : Tables) → BudgetHolds p q → ((n : ℕ) → n < length p.nodes → IsCovered p q n) → (at : Place) → BoundAt p q at
bounds_kept p q b h place.Image = b
bounds_kept p q b h (place.Variable x) = tt
bounds_kept p q b h (place.Thread t) = λ a there. record {
  depths = λ d m o s. (h d (step_within p d (step.Depth m) s)).depth t m o s;
  joins = λ n j ks o s. (h n (step_within p n (step.Fork ks j) s)).join t j ks o s;
}
bounds_kept p q b h (place.Node n) = tt
bounds_kept p q b h (place.Pair m n) = tt

-- a thread that is there
pub record IsThread (p : Program) (t : ℕ) : Type 0 where
  pub thread : Thread
  pub stands : slice_get p.threads t ≡ Some thread

pub thread_of : (p : Program) (t : ℕ) → t < length p.threads → IsThread p t
thread_of p t h = found (slice_get p.threads t) refl (slice_get_cases p.threads t).1
  where
    found : (o : Option Thread) → slice_get p.threads t ≡ o
        → ((x : Thread) × (t < length p.threads) × (slice_get p.threads t ≡ Some x) × (get_or p.threads t x ≡ x))
        ⊎ ((length p.threads ≤ t) × (slice_get p.threads t ≡ None)) → IsThread p t
    found o is (inl a) = record { thread = a.0; stands = a.2 }
    found o is (inr b) = absurd (omega (arith, b.0))

-- a node's owner
pub record IsOwner (p : Program) (n t : ℕ) : Type 0 where
  pub node : Node
  pub stands : slice_get p.nodes n ≡ Some node
  pub owner : node.owner ≡ t

pub node_of_owner : (p : Program) (n t : ℕ) → owner_of p n ≡ Some t → IsOwner p n t
node_of_owner p n t e = found (slice_get p.nodes n) refl e
  where
    found : (o : Option Node) → slice_get p.nodes n ≡ o → option_map (λ (x : Node). x.owner) o ≡ Some t → IsOwner p n t
    found None is h = absurd (cc)
    found (Some x) is h = record { node = x; stands = is; owner = cc }

pub owner_within : (p : Program) (q : Tables) → ((at : Place) → SizeAt p q at) → (n t : ℕ) → owner_of p n ≡ Some t → t < length p.threads
owner_within p q size n t e =
    let at = node_of_owner p n t e in
    let P : ℕ → Type 0 = λ k. k < length p.threads in
    subst P at.owner ((size (place.Node n)).0 at.node at.stands).owner

pub owner_there : (p : Program) (q : Tables) → ((at : Place) → SizeAt p q at) → (n t : ℕ) → owner_of p n ≡ Some t → IsThread p t
owner_there p q size n t e = thread_of p t (owner_within p q size n t e)

-- a fork has few children
pub few_children : (p : Program) (q : Tables) → ((at : Place) → SizeAt p q at) → (n j : ℕ) (ks : List ℕ) → step_at p n ≡ Some (step.Fork ks j)
    → length ks ≤ child_limit
few_children p q size n j ks e =
    let at = node_of_step p n (step.Fork ks j) e in
    let P : Step → Type 0 = λ s. StepFits p s in
    (subst P at.step ((size (place.Node n)).0 at.node at.stands).fits).0.few

pub covered_depth : (p : Program) (q : Tables) (n m : ℕ) → step_at p n ≡ Some (step.Depth m) → ((t : ℕ) → owner_of p n ≡ Some t → weight q n ≤ bound q t)
    → IsCovered p q n
covered_depth p q n m s h = record { depth = λ t k o e. h t o; join = λ t j ks o e. absurd (cc) }

pub covered_fork : (p : Program) (q : Tables) (n j : ℕ) (ks : List ℕ) → step_at p n ≡ Some (step.Fork ks j)
    → ((t : ℕ) → owner_of p j ≡ Some t → weight q j + child_bounds q ks ≤ bound q t) → IsCovered p q n
covered_fork p q n j ks s h = record { depth = λ t k o e. absurd (cc); join = λ t i ls o e. turned t i ls o (cc) (cc) }
  where
    turned : (t i : ℕ) (ls : List ℕ) → owner_of p i ≡ Some t → j ≡ i → ks ≡ ls → weight q i + child_bounds q ls ≤ bound q t
    turned t i ls o ji kl =
        let o' : owner_of p j ≡ Some t = ap (λ k. owner_of p k) ji ∙ o in
        let A : ℕ → Type 0 = λ k. weight q k + child_bounds q ks ≤ bound q t in
        let B : List ℕ → Type 0 = λ l. weight q i + child_bounds q l ≤ bound q t in
        subst B kl (subst A ji (h t o'))

pub over_depth : (p : Program) (q : Tables) → ((at : Place) → SizeAt p q at) → (n m t : ℕ) → step_at p n ≡ Some (step.Depth m) → (owner_of p n ≡ Some t)
    × (bound q t < weight q n) → ¬ BoundAt p q (place.Thread t)
over_depth p q size n m t s h kept =
    let a = owner_there p q size n t h.0 in
    let covers : weight q n ≤ bound q t = (kept a.thread a.stands).depths n m h.0 s in
    omega (arith, h.1)

pub over_fork : (p : Program) (q : Tables) → ((at : Place) → SizeAt p q at) → (n j t : ℕ) (ks : List ℕ) → step_at p n ≡ Some (step.Fork ks j)
    → (owner_of p j ≡ Some t) × (bound q t < weight q j + child_bounds q ks) → ¬ BoundAt p q (place.Thread t)
over_fork p q size n j t ks s h kept =
    let a = owner_there p q size j t h.0 in
    let covers : weight q j + child_bounds q ks ≤ bound q t = (kept a.thread a.stands).joins n j ks h.0 s in
    omega (arith, h.1)
