-- SCL and its graph go alike: the same threads are enabled, with the same access, each step leads to configurations
-- that correspond, and the same threads are concurrent.
use Rattle.std.proofs.Common.{◌≡◌, ℕ, zero, suc, Some, Contains, option_map, unwrap_or, refl, sym, ap, subst, ◌∙◌}
use Rattle.sc_values.specs.Access.{no_access}
use Rattle.sc_values.specs.Assignment.{Assignment, Inits, Combines, assignment_of, access_of_assignment}
use Rattle.sc_values.specs.Expr.{postorder}
use Rattle.sc_graph.specs.declared.control.Control.{Control}
use Rattle.sc_graph.specs.declared.program.Step.{Step}
use Rattle.sc_graph.specs.declared.program.Step.TheVariants as node_step
use Rattle.sc_graph.specs.Program.{Program}
use Rattle.sc_graph.specs.Accesses.{access_of as access_of_node, accesses}
use Rattle.sc_graph.specs.Control.{status_of, is_enabled, access_at}
use Rattle.sc_graph.specs.Machine.{machine as machine_of_nodes}
use Rattle.sc_graph.specs.Threads.{Descends as NodesDescend, Below as NodesBelow, ForkedApart as NodesApart}
use Rattle.scl.specs.Block.{Block, End, Assign, Label, Goto, Pause, If, Fork}
use Rattle.scl.specs.Labels.{before}
use Rattle.scl.specs.Places.{Place, Descends, Below, ForkedApart, threads_of}
use Rattle.scl.specs.Numbering.{Numbered}
use Rattle.scl.specs.Meaning.{Doing, State, Away, Todo, Forked, Resting, Resuming, Finished, doing, is_ready, access_of, machine}
use Rattle.scl_graph.specs.Graph.{assigns, number}
use Rattle.scl_graph_laws.specs.Alike.{IsAlike, RunsAlike}
use Rattle.scl_graph_laws.specs.Standing.{standing, IsStep, IsOfText}
use Rattle.scl_graph_laws.specs.Settling.{Settling}
use Rattle.scl_graph_laws.specs.Mirrors.{Mirrors, HasNode, HasNodes, HasFork, ForkPlace, leads}
use Rattle.scl_graph_laws.specs.Keeps.{Corresponds}
use Rattle.scl_graph_laws.proofs.Alike.{runs_alike}
use Rattle.scl_graph_laws.proofs.Targets.{step_is}
use Rattle.scl_graph_laws.proofs.Stepping.{status_is, enabled_alike, corresponds_is, steps_alike}

access_of_assigns : (x : ℕ) (a : Assignment) (next : ℕ) → access_of_assignment x a ≡ access_of_node (assigns x a next)
access_of_assigns x (Inits e) next = refl
access_of_assigns x (Combines f e) next = refl

module _ (p : Numbered) (q : Program) (graph : Mirrors p q) where
  node_access : (n t : ℕ) (s : Step) → HasNode q n t s → access_of_node s ≡ accesses q n
  node_access n t s h = ap (λ o. unwrap_or (option_map access_of_node o) no_access) (sym (step_is q n t s h))

  first_access : (t : ℕ) (todo : Block) → Place p.root t todo → IsStep todo → access_of (Todo todo) ≡ accesses q (number (Some todo))
  first_access t (End n) place is = node_access n t node_step.Exit (graph.nodes t (End n) place)
  first_access t (Assign n x e rest) place is =
      access_of_assigns x (assignment_of x e) (leads p.root rest) ∙ node_access n t (assigns x (assignment_of x e) (leads p.root rest))
      (graph.nodes t (Assign n x e rest) place)
  first_access t (Label name rest) place is = absurd is
  first_access t (Goto g name rest) place is = absurd is
  first_access t (Pause n rest) place is =
      let nodes : HasNodes q n t (node_step.Surf (suc n)) (node_step.Depth (leads p.root rest)) = graph.nodes t (Pause n rest) place in
      node_access n t (node_step.Surf (suc n)) nodes.first
  first_access t (If n e a b rest) place is = node_access n t (node_step.Cond (postorder e) (leads p.root (before a rest)) (leads p.root (before b rest)))
      (graph.nodes t (If n e a b rest) place)
  first_access t (Fork n branches rest) place is =
      let has : HasFork q n t (threads_of branches) (leads p.root rest) = graph.nodes t (Fork n branches rest) place in
      node_access n t (node_step.Fork (threads_of branches) (suc n)) has.nodes.first

  access_alike : (t : ℕ) (d : Doing) → IsOfText p.root t d → access_of d ≡ access_at q (standing d)
  access_alike t Away at = refl
  access_alike t (Todo todo) at = first_access t todo at.0 at.1
  access_alike t (Forked n branches rest) at =
      let has : HasFork q n t (threads_of branches) (leads p.root rest) = graph.nodes t (Fork n branches rest) at in
      node_access (suc n) t (node_step.Join (leads p.root rest)) has.nodes.second
  access_alike t (Resting n rest) at = refl
  access_alike t (Resuming n rest) at =
      let nodes : HasNodes q n t (node_step.Surf (suc n)) (node_step.Depth (leads p.root rest)) = graph.nodes t (Pause n rest) at in
      node_access (suc n) t (node_step.Depth (leads p.root rest)) nodes.second
  access_alike t Finished at = refl

  -- ---- the tree of threads

  descends : (n t a : ℕ) → Descends p.root n t a → NodesDescend q n t a
  descends zero t a h = h
  descends (suc n) t a h = (h.0, graph.parents t h.0 h.1, descends n h.0 a h.2)

  descends_back : (n t a : ℕ) → NodesDescend q n t a → Descends p.root n t a
  descends_back zero t a h = h
  descends_back (suc n) t a h = (h.0, graph.children t h.0 h.1, descends_back n h.0 a h.2)

  below : (t a : ℕ) → Below p.root t a → NodesBelow q t a
  below t a h = record { generations = h.generations; descends = descends h.generations t a h.descends }

  below_back : (t a : ℕ) → NodesBelow q t a → Below p.root t a
  below_back t a h = record { generations = h.generations; descends = descends_back h.generations t a h.descends }

  apart : (t u a : ℕ) → ForkedApart p.root t u a → NodesApart q t u a
  apart t u a h =
      let has : HasFork q h.fork a (threads_of h.branches) (leads p.root h.is_fork.rest) = graph.nodes a (Fork h.fork h.branches h.is_fork.rest) h.is_fork.place
      in
      record {
        fork = h.fork;
        children = threads_of h.branches;
        join = suc h.fork;
        is_fork = record {
          owned = ap (option_map (λ x. x.owner)) has.nodes.first.is;
          forks = step_is q h.fork a (node_step.Fork (threads_of h.branches) (suc h.fork)) has.nodes.first;
        };
        left = h.left;
        right = h.right;
        left_child = h.left_branch;
        right_child = h.right_branch;
        differ = h.differ;
        t_below = below t h.left h.t_below;
        u_below = below u h.right h.u_below;
      }

  apart_back : (t u a : ℕ) → NodesApart q t u a → ForkedApart p.root t u a
  apart_back t u a h =
      let at : ForkPlace p.root a h.children = graph.forks h.fork a h.children h.join h.is_fork in
      record {
        fork = at.fork;
        branches = at.branches;
        is_fork = record { rest = at.rest; place = at.place };
        left = h.left;
        right = h.right;
        left_branch = subst (λ ks. Contains ks h.left) (sym at.children_are) h.left_child;
        right_branch = subst (λ ks. Contains ks h.right) (sym at.children_are) h.right_child;
        differ = h.differ;
        t_below = below_back t h.left h.t_below;
        u_below = below_back u h.right h.u_below;
      }

  module _ (settling : Settling p.root) where
    enabled : (s : State) (c : Control) (t : ℕ) → Corresponds p s c → is_ready s (doing s t) ≡ is_enabled q c t
    enabled s c t h = subst (λ c. is_ready s (doing s t) ≡ is_enabled q c t) (corresponds_is p s c h)
        (enabled_alike p q graph settling s h.kinds t (h.places t))

    access : (s : State) (c : Control) (t : ℕ) → Corresponds p s c → access_of (doing s t) ≡ access_at q (status_of c t)
    access s c t h =
        subst (λ c. access_of (doing s t) ≡ access_at q (status_of c t)) (corresponds_is p s c h)
        (access_alike t (doing s t) (h.places t) ∙ ap (access_at q) (sym (status_is s t)))

    pub goes_alike : IsAlike (machine p) (machine_of_nodes q) (Corresponds p)
    goes_alike = record {
      enabled = enabled;
      access = access;
      step = λ s c t h. steps_alike p q graph settling s c t h;
      apart = λ t u a. (apart t u a, apart_back t u a);
    }

    pub goes_on : RunsAlike (machine p) (machine_of_nodes q) (Corresponds p)
    goes_on = runs_alike (machine p) (machine_of_nodes q) (Corresponds p) goes_alike
