-- What a graph that mirrors a text has of it: the owners, steps and accesses of its nodes, and which threads are forked apart.
use Rattle.std.proofs.Common.{◌≡◌, ℕ, zero, suc, Some, unwrap_or}
use Rattle.std.proofs.Common.{option_map, refl, ap}
use Rattle.sc_values.specs.Access.{no_access}
use Rattle.sc_values.specs.Assignment.{Assignment, Inits, Combines, access_of_assignment}
use Rattle.sc_graph.specs.declared.program.Step.{Step}
use Rattle.sc_graph.specs.declared.program.Step.TheVariants as node_step
use Rattle.sc_graph.specs.Program.{Program, owner_of, step_at}
use Rattle.sc_graph.specs.Accesses.{accesses}
use Rattle.sc_graph.specs.Accesses.{access_of as access_of_node}
use Rattle.sc_graph.specs.Threads as threads
use Rattle.scl.specs.Block.{Fork}
use Rattle.scl.specs.Places.{threads_of}
use Rattle.scl.specs.Places as places
use Rattle.scl.specs.Numbering.{Numbered}
use Rattle.scl_graph.specs.Graph.{assigns}
use Rattle.scl_graph_laws.specs.Mirrors.{Mirrors, HasNode, HasFork, leads}

-- ---- who is apart in the text is so in the graph
module _ (p : Numbered) (q : Program) (mirrors : Mirrors p q) where
  pub owned : (n t : ℕ) (s : Step) → HasNode q n t s → owner_of q n ≡ Some t
  owned n t s has = ap (option_map (λ x. x.owner)) has.is

  pub stepped : (n t : ℕ) (s : Step) → HasNode q n t s → step_at q n ≡ Some s
  stepped n t s has = ap (option_map (λ x. x.step)) has.is

  pub node_access : (n t : ℕ) (s : Step) → HasNode q n t s → accesses q n ≡ access_of_node s
  node_access n t s has = ap (λ o. unwrap_or (option_map access_of_node o) no_access) (stepped n t s has)

  descends : (n t a : ℕ) → places.Descends p.root n t a → threads.Descends q n t a
  descends zero t a h = h
  descends (suc n) t a h = (h.0, mirrors.parents t h.0 h.1, descends n h.0 a h.2)

  below : (t a : ℕ) → places.Below p.root t a → threads.Below q t a
  below t a h = record { generations = h.generations; descends = descends h.generations t a h.descends }

  pub apart_too : (t u a : ℕ) → places.ForkedApart p.root t u a → threads.ForkedApart q t u a
  apart_too t u a h =
      let has : HasFork q h.fork a (threads_of h.branches) (leads p.root h.is_fork.rest) =
      mirrors.nodes a (Fork h.fork h.branches h.is_fork.rest) h.is_fork.place in
      let step : Step = node_step.Fork (threads_of h.branches) (suc h.fork) in
      record {
        fork = h.fork;
        children = threads_of h.branches;
        join = suc h.fork;
        is_fork = record { owned = owned h.fork a step has.nodes.first; forks = stepped h.fork a step has.nodes.first };
        left = h.left;
        right = h.right;
        left_child = h.left_branch;
        right_child = h.right_branch;
        differ = h.differ;
        t_below = below t h.left h.t_below;
        u_below = below u h.right h.u_below;
      }

-- ---- the chart and its graph
pub access_of_assigns : (x : ℕ) (a : Assignment) (next : ℕ) → access_of_node (assigns x a next) ≡ access_of_assignment x a
access_of_assigns x (Inits e) next = refl
access_of_assigns x (Combines f e) next = refl
