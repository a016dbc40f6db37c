-- From configurations that correspond each step of SCL is one of the graph, and leads to some that correspond again.
use Rattle.std.proofs.Common.{◌≡◌, ◌&&◌, ℕ, suc, Bool, true, false, Option, Some, None, List, [], ◌∷◌, map, option_map, option_and_then, refl, sym, ap, subst}
use Rattle.std.proofs.Common.{◌∙◌}
use Rattle.std.specs.List.{list_all}
use Rattle.sc_values.specs.declared.value.Value.{Value}
use Rattle.sc_values.specs.declared.value.Value.TheVariants as value
use Rattle.sc_values.specs.declared.expression.Expr.{Expr}
use Rattle.sc_values.specs.Operator.{kind_of}
use Rattle.sc_values.specs.Expr.{postorder}
use Rattle.sc_values.specs.Expr.{value as value_of}
use Rattle.sc_values.specs.Assignment.{assignment_of}
use Rattle.sc_values.proofs.Evaluating.{tree_value}
use Rattle.sc_graph.specs.declared.control.Control.{Control}
use Rattle.sc_graph.specs.declared.control.Status.{Status}
use Rattle.sc_graph.specs.declared.control.Status.TheVariants as status
use Rattle.sc_graph.specs.declared.program.Step.{Step}
use Rattle.sc_graph.specs.declared.program.Step.TheVariants as node_step
use Rattle.sc_graph.specs.Program.{Program, step_at, entry_of, is_join}
use Rattle.sc_graph.specs.Control.{status_of, all_ended, status_enabled, is_enabled}
use Rattle.sc_graph.specs.Steps.{Keep, Effect, only_if, enters, is_entered, node_effect, branched, leaves, join_effect, status_effect, effect}
use Rattle.sc_graph.specs.Steps.{step as step_of_nodes, after as after_nodes, forked as forked_by_node, moved as nodes_moved}
use Rattle.scl.specs.Block.{Block, End, Assign, Label, Goto, Pause, If, Fork, Branches}
use Rattle.scl.specs.Labels.{before, settled}
use Rattle.scl.specs.Places.{Place, threads_of, after_assign, after_pause, in_first, in_second, after_fork, in_branch}
use Rattle.scl.specs.Numbering.{Numbered}
use Rattle.scl.specs.Meaning.{Doing, State, ThreadChange, Away, Todo, Forked, Resting, Resuming, Finished, doing, all_finished, after, chosen, forked, joined}
use Rattle.scl.specs.Meaning.{first_step, change_of, step, is_ready}
use Rattle.scl_graph.specs.Graph.{assigns, number}
use Rattle.scl_graph_laws.specs.Alike.{Both}
use Rattle.scl_graph_laws.specs.Standing.{standing, IsStep, IsOfText}
use Rattle.scl_graph_laws.specs.Settling.{Settling}
use Rattle.scl_graph_laws.specs.Mirrors.{Mirrors, HasNode, HasNodes, HasFork, leads}
use Rattle.scl_graph_laws.specs.Keeps.{Corresponds}
use Rattle.scl_graph_laws.proofs.Moving.{standing_in, moved_alike, moved_length, moved_within}
use Rattle.scl_graph_laws.proofs.Agreeing.{SameChange, Agree, agree_if, GoesTo, agree_onward}
use Rattle.scl_graph_laws.proofs.Assigning.{agree_assign}
use Rattle.scl_graph_laws.proofs.Targets.{step_is, is_a_join, is_a_depth, goes_to}
use Rattle.scl_graph_laws.proofs.Forking.{Entered, branches_enter, leave_alike, leave_within, all_ended_alike}

-- the configuration of the graph that corresponds to one of SCL
abbrev pub control_of : State → Control
control_of s = record { variables = s.variables; statuses = map standing s.threads }

pub status_is : (s : State) (t : ℕ) → status_of (control_of s) t ≡ standing (doing s t)
status_is s t = standing_in s.threads t

module _ (p : Numbered) (q : Program) (graph : Mirrors p q) (settling : Settling p.root) (s : State)
    (kinds : map kind_of s.variables ≡ map (λ x. x.kind) p.variables) (t : ℕ) where
  abbrev Alike : Option ThreadChange → Option Effect → Type 0
  Alike d e = Agree p.root s.variables d e

  at_node : (n : ℕ) (r : Step) (d : Option ThreadChange) → HasNode q n t r → Alike d (node_effect q (control_of s) t r)
      → Alike d (status_effect q (control_of s) t (status.At n))
  at_node n r d h same = subst (λ o. Alike d (option_and_then (node_effect q (control_of s) t) o)) (sym (step_is q n t r h)) same

  onward : (todo : Block) → Place p.root t todo → GoesTo q p.root t todo
  onward todo place = goes_to p q graph settling t todo place

  end : (n : ℕ) → Place p.root t (End n) → Alike (first_step p s.variables t (End n)) (status_effect q (control_of s) t (status.At n))
  end n place = at_node n node_step.Exit (first_step p s.variables t (End n)) (graph.nodes t (End n) place)
      (record { change = refl; moves = refl; kinds = refl; within = (tt, tt) })

  assign : (n x : ℕ) (e : Expr) (rest : Block) → Place p.root t (Assign n x e rest)
      → Alike (first_step p s.variables t (Assign n x e rest)) (status_effect q (control_of s) t (status.At n))
  assign n x e rest place =
      at_node n (assigns x (assignment_of x e) (leads p.root rest)) (first_step p s.variables t (Assign n x e rest)) (graph.nodes t (Assign n x e rest) place)
      (agree_assign p q (control_of s) t x e rest (onward rest (after_assign t n x e rest place)) kinds graph.variables)

  pause : (n : ℕ) (rest : Block) → Place p.root t (Pause n rest)
      → Alike (first_step p s.variables t (Pause n rest)) (status_effect q (control_of s) t (status.At n))
  pause n rest place =
      let nodes : HasNodes q n t (node_step.Surf (suc n)) (node_step.Depth (leads p.root rest)) = graph.nodes t (Pause n rest) place in
      at_node n (node_step.Surf (suc n)) (first_step p s.variables t (Pause n rest)) nodes.first
      (subst (λ b. Alike (first_step p s.variables t (Pause n rest)) (only_if b (Some (record { change = Keep; moves = (t, status.Paused (suc n)) ∷ [] }))))
      (sym (is_a_depth q (suc n) t (leads p.root rest) nodes.second))
      (record { change = refl; moves = refl; kinds = refl; within = (place, tt) }))

  choose : (a b : Block) → GoesTo q p.root t a → GoesTo q p.root t b → (v : Option Value)
      → Alike (option_and_then (chosen p t a b) v) (option_and_then (branched q t (leads p.root a) (leads p.root b)) v)
  choose a b first second None = tt
  choose a b first second (Some (value.Bool true)) = agree_onward q p.root t a s.variables first Keep Keep refl refl
  choose a b first second (Some (value.Bool false)) = agree_onward q p.root t b s.variables second Keep Keep refl refl
  choose a b first second (Some (value.Int i)) = tt

  test : (n : ℕ) (e : Expr) (a b rest : Block) → Place p.root t (If n e a b rest)
      → Alike (first_step p s.variables t (If n e a b rest)) (status_effect q (control_of s) t (status.At n))
  test n e a b rest place =
      let first : Block = before a rest in
      let second : Block = before b rest in
      at_node n (node_step.Cond (postorder e) (leads p.root first) (leads p.root second)) (first_step p s.variables t (If n e a b rest))
      (graph.nodes t (If n e a b rest) place)
      (subst (λ v. Alike (first_step p s.variables t (If n e a b rest)) (option_and_then (branched q t (leads p.root first) (leads p.root second)) v))
      (tree_value (postorder e) e s.variables refl)
      (choose first second (onward first (in_first t n e a b rest place)) (onward second (in_second t n e a b rest place)) (value_of e s.variables)))

  and_true : (a b : Bool) → a ≡ true → b ≡ true → (a && b) ≡ true
  and_true a b h k = cc

  fork : (n : ℕ) (branches : Branches) (rest : Block) → Place p.root t (Fork n branches rest)
      → Alike (first_step p s.variables t (Fork n branches rest)) (status_effect q (control_of s) t (status.At n))
  fork n branches rest place =
      let has : HasFork q n t (threads_of branches) (leads p.root rest) = graph.nodes t (Fork n branches rest) place in
      let into : Entered q p.root branches = branches_enter q p.root branches
      (λ u body h. record {
        entry = graph.entries t n u branches body rest place h;
        goes = goes_to p q graph settling u body (in_branch t n u branches body rest place h);
      }) in
      let moves : List (ℕ × Status) = (t, status.Waiting (suc n)) ∷ map (λ k. enters k (entry_of q k)) (threads_of branches) in
      at_node n (node_step.Fork (threads_of branches) (suc n)) (first_step p s.variables t (Fork n branches rest)) has.nodes.first
      (subst (λ o. Alike (option_map (forked t (Forked n branches rest)) o) (forked_by_node q t (threads_of branches) (suc n))) (sym into.is)
      (subst (λ b. Alike (Some (forked t (Forked n branches rest) into.moves)) (only_if b (Some (record { change = Keep; moves = moves }))))
      (sym (and_true (is_join q t (suc n)) (list_all (λ k. is_entered q k (entry_of q k)) (threads_of branches))
      (is_a_join q (suc n) t (leads p.root rest) has.nodes.second) into.all))
      (record { change = refl; moves = ap (λ r. (t, status.Waiting (suc n)) ∷ r) into.alike; kinds = refl; within = (place, into.within) })))

  first : (todo : Block) → Place p.root t todo → IsStep todo
      → Alike (first_step p s.variables t todo) (status_effect q (control_of s) t (status.At (number (Some todo))))
  first (End n) place is = end n place
  first (Assign n x e rest) place is = assign n x e rest place
  first (Label name rest) place is = absurd is
  first (Goto g name rest) place is = absurd is
  first (Pause n rest) place is = pause n rest place
  first (If n e a b rest) place is = test n e a b rest place
  first (Fork n branches rest) place is = fork n branches rest place

  resume : (n : ℕ) (rest : Block) → Place p.root t (Pause n rest)
      → Alike (change_of p s t (Resuming n rest)) (status_effect q (control_of s) t (status.At (suc n)))
  resume n rest place =
      let nodes : HasNodes q n t (node_step.Surf (suc n)) (node_step.Depth (leads p.root rest)) = graph.nodes t (Pause n rest) place in
      at_node (suc n) (node_step.Depth (leads p.root rest)) (change_of p s t (Resuming n rest)) nodes.second
      (agree_onward q p.root t rest s.variables (onward rest (after_pause t n rest place)) Keep Keep refl refl)

  leave : (threads : List ℕ) (rest : Block) → GoesTo q p.root t rest
      → Alike (option_map (joined t threads) (settled p.root rest)) (leaves q t (leads p.root rest) threads)
  leave threads rest to =
      let k : Block = to.to.first in
      let moves : List (ℕ × Status) = (t, status.At (number (Some k))) ∷ map (λ u. (u, status.Absent)) threads in
      subst (λ o. Alike (option_map (joined t threads) o) (leaves q t (number o) threads)) (sym to.to.is)
      (subst (λ b. Alike (Some (joined t threads k)) (only_if b (Some (record { change = Keep; moves = moves })))) (sym to.target)
      (record {
        change = refl;
        moves = ap (λ r. (t, status.At (number (Some k))) ∷ r) (leave_alike threads);
        kinds = refl;
        within = ((to.to.place, to.to.is_step), leave_within p.root threads);
      }))

  join : (n : ℕ) (branches : Branches) (rest : Block) → Place p.root t (Fork n branches rest)
      → Alike (change_of p s t (Forked n branches rest)) (status_effect q (control_of s) t (status.Waiting (suc n)))
  join n branches rest place =
      let has : HasFork q n t (threads_of branches) (leads p.root rest) = graph.nodes t (Fork n branches rest) place in
      let threads : List ℕ = threads_of branches in
      let change : Option ThreadChange = option_map (joined t threads) (settled p.root rest) in
      subst (λ o. Alike (change_of p s t (Forked n branches rest)) (only_if (all_ended (control_of s) o) (join_effect q t o (step_at q (suc n)))))
      (sym has.joined)
      (subst (λ o. Alike (change_of p s t (Forked n branches rest)) (only_if (all_ended (control_of s) (Some threads)) (join_effect q t (Some threads) o)))
      (sym (step_is q (suc n) t (node_step.Join (leads p.root rest)) has.nodes.second))
      (agree_if p.root s.variables (all_finished s threads) (all_ended (control_of s) (Some threads))
      (sym (all_ended_alike (control_of s) s (status_is s) threads)) change (leaves q t (leads p.root rest) threads)
      (λ h. leave threads rest (onward rest (after_fork t n branches rest place)))))

  change : (d : Doing) → IsOfText p.root t d → Alike (change_of p s t d) (status_effect q (control_of s) t (standing d))
  change Away at = tt
  change (Todo todo) at = first todo at.0 at.1
  change (Forked n branches rest) at = join n branches rest at
  change (Resting n rest) at = tt
  change (Resuming n rest) at = resume n rest at
  change Finished at = tt

  effects_agree : IsOfText p.root t (doing s t) → Alike (change_of p s t (doing s t)) (effect q (control_of s) t)
  effects_agree at = subst (λ r. Alike (change_of p s t (doing s t)) (status_effect q (control_of s) t r)) (sym (status_is s t)) (change (doing s t) at)

  -- ---- who is enabled

  ready : (d : Doing) → IsOfText p.root t d → is_ready s d ≡ status_enabled q (control_of s) (standing d)
  ready Away at = refl
  ready (Todo todo) at = refl
  ready (Forked n branches rest) at =
      let has : HasFork q n t (threads_of branches) (leads p.root rest) = graph.nodes t (Fork n branches rest) at in
      sym (all_ended_alike (control_of s) s (status_is s) (threads_of branches)) ∙ ap (all_ended (control_of s)) (sym has.joined)
  ready (Resting n rest) at = refl
  ready (Resuming n rest) at = refl
  ready Finished at = refl

  pub enabled_alike : IsOfText p.root t (doing s t) → is_ready s (doing s t) ≡ is_enabled q (control_of s) t
  enabled_alike at = ready (doing s t) at ∙ ap (status_enabled q (control_of s)) (sym (status_is s t))

-- ---- the configurations after a step

pub corresponds_is : (p : Numbered) (s : State) (c : Control) → Corresponds p s c → control_of s ≡ c
corresponds_is p s c h =
    let made : List Value → List Status → Control = λ v r. record { variables = v; statuses = r } in
    ap (λ v. made v (map standing s.threads)) (sym h.variables) ∙ ap (made c.variables) (sym h.statuses)

module _ (p : Numbered) (s : State) (h : Corresponds p s (control_of s)) where
  after_alike : (d : ThreadChange) (e : Effect) → SameChange p.root s.variables d e → Corresponds p (after d s) (after_nodes e (control_of s))
  after_alike d e same = record {
    variables = same.change;
    statuses = ap (λ m. nodes_moved m (map standing s.threads)) same.moves ∙ sym (moved_alike d.moves s.threads);
    kinds = same.kinds ∙ h.kinds;
    threads = moved_length d.moves s.threads ∙ h.threads;
    places = moved_within p.root d.moves s.threads same.within h.places;
  }

  pub after_both : (d : Option ThreadChange) (e : Option Effect) → Agree p.root s.variables d e
      → Both (Corresponds p) (option_map (λ d. after d s) d) (option_map (λ e. after_nodes e (control_of s)) e)
  after_both None None same = tt
  after_both (Some d) (Some e) same = after_alike d e same
  after_both None (Some e) same = absurd same
  after_both (Some d) None same = absurd same

pub steps_alike : (p : Numbered) (q : Program) → Mirrors p q → Settling p.root → (s : State) (c : Control) (t : ℕ) → Corresponds p s c
    → Both (Corresponds p) (step p t s) (step_of_nodes q t c)
steps_alike p q graph settling s c t h =
    let is : control_of s ≡ c = corresponds_is p s c h in
    let here : Corresponds p s (control_of s) = subst (λ c. Corresponds p s c) (sym is) h in
    subst (λ c. Both (Corresponds p) (step p t s) (step_of_nodes q t c)) is
    (after_both p s here (change_of p s t (doing s t)) (effect q (control_of s) t) (effects_agree p q graph settling s h.kinds t (h.places t)))
