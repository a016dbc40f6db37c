-- Past labels and gotos a place leads to a place of the same thread, where each goto finds its label in its own thread.
use Rattle.std.proofs.Common.{◌≡◌, ℕ, zero, suc, Option, Some, None, refl, subst, option_and_then}
use Rattle.std.proofs.lemmas.Option.{none-some, same_Some}
use Rattle.scl.specs.Block.{Block, End, Assign, Label, Goto, Pause, If, Fork}
use Rattle.scl.specs.Labels.{Front, Jumps, Begins, front, behind_label, label_count, reached_by, settled}
use Rattle.scl.specs.Places.{Place, after_label}
use Rattle.scl_graph_laws.specs.Standing.{IsStep}
use Rattle.scl_graph_laws.specs.Settling.{Settling, StayWithin, EachSettles}

-- a place of a thread that begins with a step
pub record StepPlace (root : Block) (t : ℕ) (first : Block) : Type 0 where
  pub place : Place root t first
  pub is_step : IsStep first

module _ (root : Block) (within : StayWithin root) where
  -- what is behind the labels at the front of a place
  abbrev FrontPlace : ℕ → Front → Type 0
  FrontPlace t (Jumps g name) = (k : Block) → behind_label root name ≡ Some k → Place root t k
  FrontPlace t (Begins todo) = StepPlace root t todo

  front_place : (t : ℕ) (todo : Block) → Place root t todo → FrontPlace t (front todo)
  front_place t (End n) place = record { place = place; is_step = tt }
  front_place t (Assign n x e rest) place = record { place = place; is_step = tt }
  front_place t (Label name rest) place = front_place t rest (after_label t name rest place)
  front_place t (Goto g name rest) place = λ k h. within t g name rest k place h
  front_place t (Pause n rest) place = record { place = place; is_step = tt }
  front_place t (If n e a b rest) place = record { place = place; is_step = tt }
  front_place t (Fork n branches rest) place = record { place = place; is_step = tt }

  reached_place : (most : ℕ) (t : ℕ) (f : Front) → FrontPlace t f → (first : Block) → reached_by root most f ≡ Some first → StepPlace root t first
  reached_place most t (Begins todo) at first h = subst (StepPlace root t) (same_Some todo first h) at
  reached_place zero t (Jumps g name) at first h = absurd (none-some first h)
  reached_place (suc most) t (Jumps g name) at first h = behind (behind_label root name) at h (reached_place most t)
    where
      behind : (o : Option Block) → ((k : Block) → o ≡ Some k → Place root t k) → option_and_then (λ k. reached_by root most (front k)) o ≡ Some first →
          ((f : Front) → FrontPlace t f → (first : Block) → reached_by root most f ≡ Some first → StepPlace root t first) → StepPlace root t first
      behind None places h next = absurd (none-some first h)
      behind (Some k) places h next = next (front k) (front_place t k (places k refl)) first h

  -- where each place leads somewhere, each leads to a statement of its thread
  pub places_settle : EachSettles root → Settling root
  places_settle settles t todo place =
      let to : (k : Block) × (settled root todo ≡ Some k) = settles t todo place in
      let step : StepPlace root t to.0 = reached_place (label_count root) t (front todo) (front_place t todo place) to.0 to.1 in
      record { first = to.0; is = to.1; place = step.place; is_step = step.is_step }
