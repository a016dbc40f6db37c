-- What formed programs have: a tree of threads, each forked by one fork of its parent.
use Rattle.std.proofs.Common.{ℕ, zero, suc, ◌≡◌, ◌≢◌, ◌<◌, Bool, Option, Some, None, option_map, option_and_then, List, Contains, length, slice_get, inl, inr}
use Rattle.std.proofs.Common.{refl, sym, subst, ap, arith, nat_eq, eqb-true, eq-eqb}
use Rattle.std.specs.Bool.{Decides}
use Rattle.std.proofs.lemmas.List.Elements.{All-contains}
use Rattle.std.proofs.lemmas.Option.{slice_get_within}
use Rattle.sc_graph.specs.declared.program.Thread.{Thread}
use Rattle.sc_graph.specs.declared.program.Node.{Node}
use Rattle.sc_graph.specs.declared.program.Step.{Step}
use Rattle.sc_graph.specs.declared.program.Step.TheVariants as step
use Rattle.sc_graph.specs.declared.place.Place.TheVariants as place
use Rattle.sc_graph.specs.Program.{Program, step_at, owner_of, parent_of}
use Rattle.sc_graph.specs.Threads.{Below, IsFork, ForkedApart, AreConcurrent}
use Rattle.sc_graph.specs.Size.{ParentFits}
use Rattle.sc_graph.specs.Structure.{StepStays, ForksChild, ExactlyOne, IsForkedOnce}
use Rattle.sc_graph.specs.Valid.{IsFormed}
use Rattle.sc_graph.specs.Inside.Parting.{PartAt, OneFork}
use Rattle.sc_graph.proofs.Tree.{FallsUpwards, part_once, never_from_itself, below_through, below_cases}

-- who stands in a list
pub record ThreadAt (p : Program) (t : ℕ) (parent : Option ℕ) : Type 0 where
  pub thread : Thread
  pub there : slice_get p.threads t ≡ Some thread
  pub is : thread.parent ≡ parent

pub record NodeAt (p : Program) (n : ℕ) (s : Step) : Type 0 where
  pub node : Node
  pub there : slice_get p.nodes n ≡ Some node
  pub is : node.step ≡ s

abbrev parent_in : Option Thread → Option ℕ
parent_in o = option_and_then (λ x. x.parent) o

abbrev step_in : Option Node → Option Step
step_in o = option_map (λ x. x.step) o

abbrev owner_in : Option Node → Option ℕ
owner_in o = option_map (λ x. x.owner) o

thread_from : (p : Program) (t q : ℕ) (o : Option Thread) → slice_get p.threads t ≡ o → parent_in o ≡ Some q → ThreadAt p t (Some q)
thread_from p t q None at is = cc is
thread_from p t q (Some x) at is = record { thread = x; there = at; is = is }

thread_at : (p : Program) (t q : ℕ) → parent_of p t ≡ Some q → ThreadAt p t (Some q)
thread_at p t q is = thread_from p t q (slice_get p.threads t) refl is

-- a number with a parent is one of a thread
pub within_threads : (p : Program) (t q : ℕ) → parent_of p t ≡ Some q → t < length p.threads
within_threads p t q is =
    let at : ThreadAt p t (Some q) = thread_at p t q is in
    slice_get_within p.threads t at.thread at.there

node_from : (p : Program) (n : ℕ) (s : Step) (o : Option Node) → slice_get p.nodes n ≡ o → step_in o ≡ Some s → NodeAt p n s
node_from p n s None at is = cc is
node_from p n s (Some x) at is = record { node = x; there = at; is = cc is }

pub node_at : (p : Program) (n : ℕ) (s : Step) → step_at p n ≡ Some s → NodeAt p n s
node_at p n s is = node_from p n s (slice_get p.nodes n) refl is

pub owner_at : (p : Program) (n : ℕ) (x : Node) → slice_get p.nodes n ≡ Some x → owner_of p n ≡ Some x.owner
owner_at p n x there = ap owner_in there

falls_at : (t q : ℕ) → ParentFits t (Some q) → q < t
falls_at zero q fits = cc fits
falls_at (suc t) q fits = fits

-- parents have smaller numbers
pub falls_upwards : (p : Program) → IsFormed p → FallsUpwards p
falls_upwards p formed = record {
  falls = λ t q up.
      let at : ThreadAt p t (Some q) = thread_at p t q up in
      let fits : ParentFits t at.thread.parent = (formed.size (place.Thread t) at.thread at.there).parent in
      falls_at t q (subst (λ (o : Option ℕ). ParentFits t o) at.is fits);
}

-- a fork forks children of its own thread
pub parent_is_owner : (p : Program) → IsFormed p → (n t join k : ℕ) (children : List ℕ) → IsFork p n t children join → Contains children k
    → parent_of p k ≡ Some t
parent_is_owner p formed n t join k children fork child =
    let at : NodeAt p n (step.Fork children join) = node_at p n (step.Fork children join) fork.forks in
    let owned : owner_of p n ≡ Some at.node.owner = owner_at p n at.node at.there in
    let same : at.node.owner ≡ t = cc (owned, fork.owned) in
    let stays : StepStays p at.node.owner at.node.step = (formed.structure (place.Node n) at.node at.there).stays in
    let forks : StepStays p at.node.owner (step.Fork children join) = subst (λ (s : Step). StepStays p at.node.owner s) at.is stays in
    let up : parent_of p k ≡ Some at.node.owner = All-contains (λ (c : ℕ). parent_of p c ≡ Some at.node.owner) children k forks.1 child in
    subst (λ (u : ℕ). parent_of p k ≡ Some u) same up

one_fork : (p : Program) (k : ℕ) → IsForkedOnce p k → k ≢ 0 → ExactlyOne (ForksChild p k)
one_fork p zero once other = absurd (other refl)
one_fork p (suc k) once other = once

-- a test of whether a thread that isn't the root is a child of one fork
pub forked_decides : (p : Program) (t : ℕ) (b : Bool) → t ≢ 0 → Decides b (ExactlyOne (ForksChild p t)) → Decides b (IsForkedOnce p t)
forked_decides p zero b other test = absurd (other refl)
forked_decides p (suc t) b other test = test

-- a thread with a parent is a child of one fork
pub forked_once : (p : Program) → IsFormed p → (k q : ℕ) → parent_of p k ≡ Some q → ExactlyOne (ForksChild p k)
forked_once p formed k q up =
    let at : ThreadAt p k (Some q) = thread_at p k q up in
    let low : q < k = (falls_upwards p formed).falls k q up in
    one_fork p k (formed.structure (place.Thread k) at.thread at.there).forked (omega arith)

-- threads that are forked apart part at these children
pub parts : (p : Program) → IsFormed p → (t u a : ℕ) (x : ForkedApart p t u a) → PartAt p t u x.left x.right a
parts p formed t u a x = record {
  left_parent = parent_is_owner p formed x.fork a x.join x.left x.children x.is_fork x.left_child;
  right_parent = parent_is_owner p formed x.fork a x.join x.right x.children x.is_fork x.right_child;
  differ = x.differ;
  t_below = x.t_below;
  u_below = x.u_below;
}

child_forked_once : (p : Program) → IsFormed p → (k n : ℕ) → ForksChild p k n → ExactlyOne (ForksChild p k)
child_forked_once p formed k n x =
    let at : NodeAt p n (step.Fork x.children x.join) = node_at p n (step.Fork x.children x.join) x.forks in
    let owned : owner_of p n ≡ Some at.node.owner = owner_at p n at.node at.there in
    let fork : IsFork p n at.node.owner x.children x.join = record { owned = owned; forks = x.forks } in
    forked_once p formed k at.node.owner (parent_is_owner p formed n at.node.owner x.join k x.children fork x.child)

-- threads that part at two children of one fork are forked apart
pub forks_apart : (p : Program) → IsFormed p → (t u l r a : ℕ) → PartAt p t u l r a → OneFork p l r → ForkedApart p t u a
forks_apart p formed t u l r a x one =
    let left : ForksChild p l one.fork = one.first in
    let right : ForksChild p r one.fork = one.second in
    let at : NodeAt p one.fork (step.Fork left.children left.join) = node_at p one.fork (step.Fork left.children left.join) left.forks in
    let owned : owner_of p one.fork ≡ Some at.node.owner = owner_at p one.fork at.node at.there in
    let fork : IsFork p one.fork at.node.owner left.children left.join = record { owned = owned; forks = left.forks } in
    let up : parent_of p l ≡ Some at.node.owner = parent_is_owner p formed one.fork at.node.owner left.join l left.children fork left.child in
    let same : at.node.owner ≡ a = cc (up, x.left_parent) in
    let lists : right.children ≡ left.children = cc (left.forks, right.forks) in
    record {
      fork = one.fork;
      children = left.children;
      join = left.join;
      is_fork = subst (λ (w : ℕ). IsFork p one.fork w left.children left.join) same fork;
      left = l;
      right = r;
      left_child = left.child;
      right_child = subst (λ (ks : List ℕ). Contains ks r) lists right.child;
      differ = x.differ;
      t_below = x.t_below;
      u_below = x.u_below;
    }

-- threads that are forked apart part at two children of one fork
pub one_fork_apart : (p : Program) → IsFormed p → (t u l r a b : ℕ) → ForkedApart p t u b → PartAt p t u l r a → OneFork p l r
one_fork_apart p formed t u l r a b x y =
    let same : (x.left ≡ l) × (x.right ≡ r) × (b ≡ a) = part_once p (falls_upwards p formed) t u x.left x.right b l r a (parts p formed t u b x) y in
    record {
      fork = x.fork;
      first = subst (λ (k : ℕ). ForksChild p k x.fork) same.0 (record { children = x.children; join = x.join; forks = x.is_fork.forks; child = x.left_child });
      second = subst (λ (k : ℕ). ForksChild p k x.fork) same.1
          (record { children = x.children; join = x.join; forks = x.is_fork.forks; child = x.right_child });
    }

-- one fork, by the only forks of which the two are children
pub one_fork_known : (p : Program) → IsFormed p → (l r n m : ℕ) → ForksChild p l n → ForksChild p r m → Decides (nat_eq n m) (OneFork p l r)
one_fork_known p formed l r n m left right = (
  λ same.
      let e : m ≡ n = sym (eqb-true n m same) in
      record { fork = n; first = left; second = subst (λ (k : ℕ). ForksChild p r k) e right },
  λ one.
      let first : ExactlyOne (ForksChild p l) = child_forked_once p formed l n left in
      let second : ExactlyOne (ForksChild p r) = child_forked_once p formed r m right in
      let e : n ≡ first.one = first.alone n left in
      let f : one.fork ≡ first.one = first.alone one.fork one.first in
      let g : m ≡ second.one = second.alone m right in
      let h : one.fork ≡ second.one = second.alone one.fork one.second in
      eq-eqb n m (cc),
)

pub one_fork_left : (p : Program) → IsFormed p → (l r : ℕ) → OneFork p l r → ExactlyOne (ForksChild p l)
one_fork_left p formed l r one = child_forked_once p formed l one.fork one.first

pub one_fork_right : (p : Program) → IsFormed p → (l r : ℕ) → OneFork p l r → ExactlyOne (ForksChild p r)
one_fork_right p formed l r one = child_forked_once p formed r one.fork one.second

-- two threads have one common forking thread, or none
pub meet_once : (p : Program) → IsFormed p → (t u a b : ℕ) → ForkedApart p t u a → ForkedApart p t u b → a ≡ b
meet_once p formed t u a b x y =
    (part_once p (falls_upwards p formed) t u x.left x.right a y.left y.right b (parts p formed t u a x) (parts p formed t u b y)).2

pub apart_swapped : (p : Program) (t u a : ℕ) → ForkedApart p t u a → ForkedApart p u t a
apart_swapped p t u a x = record {
  fork = x.fork;
  children = x.children;
  join = x.join;
  is_fork = x.is_fork;
  left = x.right;
  right = x.left;
  left_child = x.right_child;
  right_child = x.left_child;
  differ = λ e. x.differ (sym e);
  t_below = x.u_below;
  u_below = x.t_below;
}

-- concurrency is symmetric
pub concurrent_swapped : (p : Program) (t u : ℕ) → AreConcurrent p t u → AreConcurrent p u t
concurrent_swapped p t u x = record { forking = x.forking; apart = apart_swapped p t u x.forking x.apart }

-- no thread is concurrent with itself
pub never_own : (p : Program) → IsFormed p → (t : ℕ) → ¬ AreConcurrent p t t
never_own p formed t x = never_from_itself p (falls_upwards p formed) t x.apart.left x.apart.right x.forking (parts p formed t t x.forking x.apart)

-- a thread below another is not concurrent with it
pub never_below : (p : Program) → IsFormed p → (t u : ℕ) → Below p t u → ¬ AreConcurrent p t u
never_below p formed t u below x =
    let y : PartAt p t u x.apart.left x.apart.right x.forking = parts p formed t u x.forking x.apart in
    never_from_itself p (falls_upwards p formed) t x.apart.left x.apart.right x.forking (record {
      left_parent = y.left_parent;
      right_parent = y.right_parent;
      differ = y.differ;
      t_below = y.t_below;
      u_below = below_through p t u x.apart.right below y.u_below;
    })

-- a thread that is concurrent with another is one of the program's
pub concurrent_within : (p : Program) → IsFormed p → (t u : ℕ) → AreConcurrent p t u → t < length p.threads
concurrent_within p formed t u x =
    let y : PartAt p t u x.apart.left x.apart.right x.forking = parts p formed t u x.forking x.apart in
    elim (below_cases p t x.apart.left y.t_below) [
      | inl e ↦ within_threads p t x.forking (subst (λ (k : ℕ). parent_of p k ≡ Some x.forking) (sym e) y.left_parent)
      | inr w ↦ within_threads p t w.0 w.1
    ]

-- threads that part just where two concurrent ones do are concurrent
pub alike_concurrent : (p : Program) → IsFormed p → (t u v w : ℕ) → ((l r a : ℕ) → PartAt p t u l r a → PartAt p v w l r a) → AreConcurrent p t u
    → AreConcurrent p v w
alike_concurrent p formed t u v w same x =
    let y : PartAt p t u x.apart.left x.apart.right x.forking = parts p formed t u x.forking x.apart in
    let one : OneFork p x.apart.left x.apart.right = one_fork_apart p formed t u x.apart.left x.apart.right x.forking x.forking x.apart y in
    record {
      forking = x.forking;
      apart = forks_apart p formed v w x.apart.left x.apart.right x.forking (same x.apart.left x.apart.right x.forking y) one;
    }
