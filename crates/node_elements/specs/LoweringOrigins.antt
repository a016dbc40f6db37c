-- For each point of the lowering of a core chart, in their order, the element of the chart from which it comes: a fold
-- beside the lowering, sentence by sentence. A goto and an assignment of a transition have its number and its effect's;
-- a label, a pause, a fork and the goto back to a pause their state's.
use Rattle.std.specs.Prelude.{ℕ, Bool, true, false, not, ◌||◌, Option, Some, None, List, [], ◌∷◌, ◌++◌, map, if◌then◌else◌}
use Rattle.sc_values.specs.declared.expression.Expr.{Expr}
use Rattle.core_charts.specs.declared.region.Transition.{Transition}
use Rattle.core_charts.specs.declared.region.Region.{Region}
use Rattle.core_charts.specs.declared.region.Region.TheOpen.{Region-F, State-F}
use Rattle.core_charts.specs.declared.region.Region.TheFolds.{fold-Region, fold-State}
use Rattle.core_charts.specs.declared.region.State.{State}
use Rattle.core_charts.specs.Chart.{Chart}
use Rattle.core_charts.specs.Tests.{is_join}
use Rattle.chart_lowering.specs.Lowering.{is_wanted}
use Rattle.core_charts.specs.declared.elements.element.Element.{Element}
use Rattle.core_charts.specs.declared.elements.element.Element.TheVariants as element
use Rattle.core_charts.specs.declared.elements.numbers.ElementNumbers.{ElementNumbers}
use Rattle.core_charts.specs.Numbers.{behind_all, behind_transition, effects, first, within_region, within_state}

abbrev pub Origins : Type 0
Origins = List Element

-- ---- transitions

-- its effects, and the goto to its target
abbrev pub taken : Transition → ElementNumbers → Origins
taken t at = effects t.effects at.effect ++ element.Transition at.transition ∷ []

-- a test, what is done where it holds, and what follows: without a trigger nothing does
abbrev pub tested : Option Expr → ℕ → Origins → Origins → Origins
tested (Some trigger) n does rest = element.Transition n ∷ does ++ rest
tested None n does rest = does

-- whether a transition is tested: on the surface of a state those that are immediate are
abbrev pub is_tested : Bool → Transition → Bool
is_tested surface t = not surface || t.immediate

abbrev pub transitions : Bool → List Transition → ElementNumbers → Origins → Origins
transitions surface [] at rest = rest
transitions surface (t ∷ others) at rest =
    if is_tested surface t
    then tested t.trigger at.transition (taken t at) (transitions surface others (behind_transition t at) rest)
    else transitions surface others (behind_transition t at) rest

-- ---- states

-- the second label, the pause, all transitions, and the goto back
abbrev pub depth : List Transition → ElementNumbers → Origins
depth own at = element.State at.state ∷ element.State at.state ∷ transitions false own at (element.State at.state ∷ [])

abbrev pub simple : List Transition → ElementNumbers → Origins
simple own at = element.State at.state ∷ transitions true own at (depth own at)

abbrev pub final : ElementNumbers → Origins
final at = element.State at.state ∷ element.State at.state ∷ []

-- behind the fork: the termination; without one the superstate is never left
abbrev pub behind_fork : List Transition → ElementNumbers → Origins
behind_fork [] at = depth [] at
behind_fork (t ∷ others) at = if is_join t.kind then taken t at else behind_fork others (behind_transition t at)

-- a region and a state with all that is in it: the numbers that come next behind it, and its points
pub record RegionPiece : Type 0 where
  pub behind : ElementNumbers → ElementNumbers
  pub body : ElementNumbers → Origins

pub record StatePiece : Type 0 where
  pub is_initial : Bool
  pub behind : ElementNumbers → ElementNumbers
  pub text : ElementNumbers → Origins

-- regions side by side
abbrev pub behind_regions : List RegionPiece → ElementNumbers → ElementNumbers
behind_regions regions at = behind_all (map (λ r. r.behind) regions) at

abbrev pub branches : List RegionPiece → ElementNumbers → Origins
branches [] at = []
branches (r ∷ regions) at = r.body at ++ branches regions (r.behind at)

abbrev pub superstate : List RegionPiece → List Transition → ElementNumbers → Origins
superstate regions own at =
    element.State at.state ∷ element.State at.state ∷ branches regions (within_state own at) ++ behind_fork own at

abbrev pub text_of : Bool → List RegionPiece → List Transition → ElementNumbers → Origins
text_of true regions own at = final at
text_of false [] own at = simple own at
text_of false (r ∷ regions) own at = superstate (r ∷ regions) own at

abbrev pub state_piece : State-F RegionPiece StatePiece → StatePiece
state_piece s =
    record {
      is_initial = s.is_initial;
      behind = λ at. behind_regions s.regions (within_state s.transitions at);
      text = text_of s.is_final s.regions s.transitions;
    }

-- ---- regions

abbrev pub behind_states : List StatePiece → ElementNumbers → ElementNumbers
behind_states states at = behind_all (map (λ s. s.behind) states) at

-- those of the states that are wanted: the initial ones, or the others
abbrev pub texts : Bool → List StatePiece → ElementNumbers → Origins
texts are_initial [] at = []
texts are_initial (s ∷ states) at =
    (if is_wanted are_initial s.is_initial then s.text at else []) ++ texts are_initial states (s.behind at)

-- the initial state, the others in order, and the label and the end of the region of this number
abbrev pub body_of : List StatePiece → ℕ → ElementNumbers → Origins
body_of states region at =
    texts true states at ++ texts false states at ++ element.Region region ∷ element.Region region ∷ []

abbrev pub region_piece : Region-F RegionPiece StatePiece → RegionPiece
region_piece r =
    record {
      behind = λ at. behind_states r.states (within_region at);
      body = λ at. body_of r.states at.region (within_region at);
    }

abbrev pub piece_of_region : Region → RegionPiece
piece_of_region = fold-Region RegionPiece StatePiece region_piece state_piece

abbrev pub piece_of_state : State → StatePiece
piece_of_state = fold-State RegionPiece StatePiece region_piece state_piece

-- the fork of the chart, its regions, and the end
abbrev pub root : List RegionPiece → Origins
root regions = element.Chart ∷ branches regions first ++ element.Chart ∷ []

abbrev pub point_origins : Chart → Origins
point_origins c = root (map piece_of_region c.regions)
