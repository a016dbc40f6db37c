-- Each fork among the nodes, and each thread, comes from a place of the text; and a fork's join is the next node.
use Rattle.std.proofs.Common.{◌≡◌, ℕ, suc, ◌<◌, Some, List, [], Contains, refl, sym, ap, subst}
use Rattle.std.proofs.lemmas.Option.{same_Some}
use Rattle.sc_values.specs.Assignment.{Assignment, Inits, Combines, assignment_of}
use Rattle.sc_graph.specs.declared.program.Node.{Node}
use Rattle.sc_graph.specs.declared.program.Thread.{Thread}
use Rattle.sc_graph.specs.declared.program.Step.{Step}
use Rattle.sc_graph.specs.declared.program.Step.TheVariants as step
use Rattle.scl.specs.Block.{Block, Fork, Branches}
use Rattle.scl.specs.Places.{Place, IsBranch, here, later, IsChild, threads_of}
use Rattle.scl_graph.specs.Graph.{node, assigns}
use Rattle.scl_graph_laws.specs.Mirrors.{ForkPlace}
use Rattle.tick_laws.proofs.Lists.{contains_head, contains_tail}
use Rattle.scl_graph_laws.proofs.Spreading.{OfNodes, OfThreads}

-- where node n forks, its join is the next node, and its children are those of a fork in the text of its thread
pub record ComesFromFork (root : Block) (n : ℕ) (x : Node) (children : List ℕ) (join : ℕ) : Type 0 where
  pub next : join ≡ suc n
  pub place : ForkPlace root x.owner children
  pub at : place.fork ≡ n

abbrev pub Comes : Block → ℕ → Node → Type 0
Comes root n x = (children : List ℕ) (join : ℕ) → x.step ≡ step.Fork children join → ComesFromFork root n x children join

abbrev children_of : Step → List ℕ
children_of (step.Fork children join) = children
children_of other = []

abbrev join_of : Step → ℕ
join_of (step.Fork children join) = join
join_of other = 0

assigns_no_fork : (x : ℕ) (a : Assignment) (next : ℕ) (children : List ℕ) (join : ℕ) → assigns x a next ≡ step.Fork children join → ⊥
assigns_no_fork x (Inits e) next children join h = cc
assigns_no_fork x (Combines f e) next children join h = cc

fork_comes : (root : Block) (t n : ℕ) (branches : Branches) (rest : Block) → Place root t (Fork n branches rest)
    → Comes root n (node t (step.Fork (threads_of branches) (suc n)))
fork_comes root t n branches rest place children join h = record {
  next = sym (ap join_of h);
  place = record { fork = n; branches = branches; rest = rest; place = place; children_are = ap children_of h };
  at = refl;
}

pub nodes_come : (root : Block) → OfNodes root (Comes root)
nodes_come root = record {
  assign = λ t n x e rest next place children join h. absurd (assigns_no_fork x (assignment_of x e) next children join h);
  pause = λ t n rest place children join h. absurd (cc);
  depth = λ t n rest next place children join h. absurd (cc);
  test = λ t n e a b rest l r place children join h. absurd (cc);
  fork = fork_comes root;
  join = λ t n branches rest next place children join h. absurd (cc);
  exit = λ t n place children join h. absurd (cc);
}

-- a thread with a parent is the child of a fork of that, which has a smaller number
pub record ComesFromParent (root : Block) (u t : ℕ) : Type 0 where
  pub child : IsChild root u t
  pub less : t < u

abbrev pub HasParent : Block → ℕ → Thread → Type 0
HasParent root u x = (t : ℕ) → x.parent ≡ Some t → ComesFromParent root u t

pub branch_thread : (branches : Branches) (u : ℕ) (body : Block) → IsBranch branches u body → Contains (threads_of branches) u
branch_thread branches u body (here v first more) = contains_head v (threads_of more)
branch_thread branches u body (later v other more w last at) = contains_tail v w (threads_of more) (branch_thread more w last at)

pub threads_come : (root : Block) → OfThreads root (HasParent root)
threads_come root = record {
  child = λ t n u branches body rest entry place at lt s h.
      subst (λ s. ComesFromParent root u s) (same_Some t s h)
      (record {
        child = record { node = n; branches = branches; is_fork = record { rest = rest; place = place }; branch = branch_thread branches u body at };
        less = lt;
      });
}
