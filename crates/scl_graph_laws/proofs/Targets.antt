-- The nodes of a graph are nodes of the right sort, so steps may go there.
use Rattle.std.proofs.Common.{◌≡◌, ◌&&◌, ℕ, suc, Bool, true, Some, refl, ap, ◌∙◌, option_map, nat_eq, eq-eqb}
use Rattle.sc_values.specs.Expr.{postorder}
use Rattle.sc_values.specs.Assignment.{Assignment, Inits, Combines, assignment_of}
use Rattle.sc_graph.specs.declared.program.Step.{Step}
use Rattle.sc_graph.specs.declared.program.Step.TheVariants as step
use Rattle.sc_graph.specs.Program.{Program, step_at, is_some_number, owns, is_ordinary_step, is_join_step, is_depth_step, is_target, is_join, is_depth}
use Rattle.scl.specs.Block.{Block, End, Assign, Label, Goto, Pause, If, Fork}
use Rattle.scl.specs.Labels.{before}
use Rattle.scl.specs.Places.{Place, threads_of}
use Rattle.scl.specs.Numbering.{Numbered}
use Rattle.scl_graph.specs.Graph.{assigns, number}
use Rattle.scl_graph_laws.specs.Standing.{IsStep}
use Rattle.scl_graph_laws.specs.Settling.{Settled, Settling}
use Rattle.scl_graph_laws.specs.Mirrors.{leads, HasNode, HasFirst, Mirrors}
use Rattle.scl_graph_laws.proofs.Agreeing.{GoesTo}

pub same_number : (t : ℕ) → nat_eq t t ≡ true
same_number t = eq-eqb t t refl

has_step : (q : Program) (n t : ℕ) (s : Step) → HasNode q n t s → step_at q n ≡ Some s
has_step q n t s h = ap (option_map (λ x. x.step)) h.is

owned : (q : Program) (n t : ℕ) (s : Step) → HasNode q n t s → owns q t n ≡ true
owned q n t s h = ap (λ o. is_some_number (option_map (λ x. x.owner) o) t) h.is ∙ same_number t

and_both : (a b : Bool) → a ≡ true → b ≡ true → (a && b) ≡ true
and_both a b h k = cc

module _ (q : Program) (n t : ℕ) where
  pub step_is : (s : Step) → HasNode q n t s → step_at q n ≡ Some s
  step_is s h = has_step q n t s h

  pub is_a_target : (s : Step) → HasNode q n t s → is_ordinary_step (Some s) ≡ true → is_target q t n ≡ true
  is_a_target s h ordinary = and_both (owns q t n) (is_ordinary_step (step_at q n)) (owned q n t s h) (ap is_ordinary_step (has_step q n t s h) ∙ ordinary)

  pub is_a_join : (next : ℕ) → HasNode q n t (step.Join next) → is_join q t n ≡ true
  is_a_join next h = and_both (owns q t n) (is_join_step (step_at q n)) (owned q n t (step.Join next) h) (ap is_join_step (has_step q n t (step.Join next) h))

  pub is_a_depth : (next : ℕ) → HasNode q n t (step.Depth next) → is_depth q t n ≡ true
  is_a_depth next h = and_both (owns q t n) (is_depth_step (step_at q n)) (owned q n t (step.Depth next) h)
      (ap is_depth_step (has_step q n t (step.Depth next) h))

ordinary : (x : ℕ) (a : Assignment) (next : ℕ) → is_ordinary_step (Some (assigns x a next)) ≡ true
ordinary x (Inits e) next = refl
ordinary x (Combines f e) next = refl

-- the node of a statement is one to which a step may go
pub target_at : (q : Program) (root : Block) (t : ℕ) (todo : Block) → IsStep todo → HasFirst q root t todo → is_target q t (number (Some todo)) ≡ true
target_at q root t (End n) is h = is_a_target q n t step.Exit h refl
target_at q root t (Assign n x e rest) is h = is_a_target q n t (assigns x (assignment_of x e) (leads root rest)) h
    (ordinary x (assignment_of x e) (leads root rest))
target_at q root t (Label name rest) is h = absurd is
target_at q root t (Goto g name rest) is h = absurd is
target_at q root t (Pause n rest) is h = is_a_target q n t (step.Surf (suc n)) h.first refl
target_at q root t (If n e a b rest) is h = is_a_target q n t (step.Cond (postorder e) (leads root (before a rest)) (leads root (before b rest))) h refl
target_at q root t (Fork n branches rest) is h = is_a_target q n t (step.Fork (threads_of branches) (suc n)) h.nodes.first refl

-- a thread may go on at each place of its text
pub goes_to : (p : Numbered) (q : Program) → Mirrors p q → Settling p.root → (t : ℕ) (todo : Block) → Place p.root t todo → GoesTo q p.root t todo
goes_to p q graph settling t todo place =
    let to : Settled p.root t todo = settling t todo place in
    record { to = to; target = target_at q p.root t to.first to.is_step (graph.nodes t to.first to.place) }
