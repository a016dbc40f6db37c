-- What a walk over a chart and its core chart gives, of states and of regions, wherever they stand.
use Rattle.std.proofs.Common.{◌≡◌, ℕ, ◌+◌, ◌≤◌, Bool, true, false, Option, Some, List, [], ◌∷◌, ◌++◌, map, length}
use Rattle.std.specs.Prelude.{reverse}
use Rattle.core_charts.specs.declared.region.Region.{Region}
use Rattle.core_charts.specs.declared.region.State.{State}
use Rattle.chart_machine.specs.declared.table.TablePosition.{TablePosition}
use Rattle.chart_machine.specs.declared.table.SubtreeRows.{SubtreeRows}
use Rattle.chart_machine.specs.Table.{Subtree, states_in, side_by_side, region_numbers, state_numbers, region_at}
use Rattle.chart_machine.specs.Table.{subtree_of_region as table_of_region, subtree_of_state as table_of_state}
use Rattle.chart_machine_laws.specs.Tree.{holder}
use Rattle.chart_machine_laws.proofs.RowsOfSubtrees.{Holds, IsSized, AllSized}
use Rattle.chart_machine_laws.proofs.TableTrees.{NoneInitial, OnceInitial}
use Rattle.scl_graph_laws.proofs.Segments.{StandAt}
use Rattle.abort_expansion.specs.declared.flags.Flags.{Flags}
use Rattle.abort_expansion.specs.declared.places.RegionPlaces.{RegionPlaces}
use Rattle.abort_expansion.specs.declared.pieces.StatePieces.{StatePieces}
use Rattle.abort_expansion.specs.declared.pieces.Regions.{Regions}
use Rattle.abort_expansion.specs.declared.pieces.NextNumbers.{NextNumbers}
use Rattle.abort_expansion.specs.Flags.{weak_around}
use Rattle.abort_expansion.specs.Pieces.{StatePiece, expanded_regions, variables_in}
use Rattle.abort_expansion.specs.Expansion.{piece_of_region, piece_of_state}
use Rattle.abort_expansion_laws.specs.CoreRows.{is_final, counter_over}
use Rattle.abort_expansion_laws.proofs.InRegionRows.{InRegionAt}
use Rattle.abort_expansion_laws.proofs.EnteredAlike.{AreEntered}
use Rattle.abort_expansion_laws.proofs.Walked.{World, StateImage, ValuesAt, Range, StateFits, CoreStateFits, OwnerFits, InRegion, i}

-- what stands for some states in the order of the text, and the superstates of their flags
pub record Part : Type 0 where
  pub states : List StateImage
  pub owners : List ℕ

-- the first of these is initial
abbrev pub FirstInitial : List Subtree → Type 0
FirstInitial [] = ⊥
FirstInitial (p ∷ pieces) = p.is_initial ≡ true

abbrev pub pieces_of : List State → List Subtree
pieces_of states = map table_of_state states

module _ (w : World) where
  pub record Fits (a n b m x v : ℕ) : Type 0 where
    pub states : Range (StateFits w) a n
    pub core_states : Range (CoreStateFits w) b m
    pub owners : Range (OwnerFits w) x v

  -- where the rows, the entries and the variables of something stand that is made
  pub record Entries (numbers : NextNumbers) (a b : ℕ) (stands_for : List (Option ℕ)) (part : Part) : Type 0 where
    pub mapped : ValuesAt w.m b stands_for
    pub images : ValuesAt w.image a part.states
    pub owned : ValuesAt w.of_flag numbers.variable part.owners
    pub low : length w.k.variables ≤ numbers.variable
    pub numbered : numbers.state ≡ a

  pub record StateStands (p : Subtree) (made : StatePieces) (flags : List Flags) (places : RegionPlaces) (place : ℕ) (numbers : NextNumbers)
      (a b : TablePosition) (next : ℕ)
      (more : List Subtree) (part : Part) : Type 0 where
    pub chart : Holds w.k a (p.parts a)
    pub core : InRegionAt w.core (pieces_of made.states ++ more) next b
    pub once : OnceInitial (pieces_of made.states ++ more)
    pub declared : StandAt w.core.variables numbers.variable made.variables
    pub entries : Entries numbers a.state b.state made.stands_for part
    pub region : InRegion w a b flags places
    pub placed : StandAt (region_at w.core b.holder).states place (state_numbers (pieces_of made.states) b.state)

  pub record RegionsStand (chart : SubtreeRows) (made : Regions) (flags : List Flags) (counter : Option ℕ) (numbers : NextNumbers) (a b : TablePosition)
      (part : Part) : Type 0 where
    pub chart_rows : Holds w.k a chart
    pub core : Holds w.core b (side_by_side (map table_of_region made.regions) b)
    pub declared : StandAt w.core.variables numbers.variable made.variables
    pub entries : Entries numbers a.state b.state made.stands_for part
    pub forks : b.around ≡ map (i w).main_of a.around
    pub flags_are : flags ≡ map (i w).flags_of (reverse a.around)
    pub counter_is : counter ≡ counter_over w.k w.core (i w) a.around

-- ---- a state, as its piece in the table and what it becomes

pub record StateWalk (p : Subtree) (made : StatePieces) (variables : ℕ) (final : Bool) (width : ℕ) (flags : List Flags) (places : RegionPlaces) (place : ℕ)
    (begins : Bool) (numbers : NextNumbers) (a b : TablePosition) (next : ℕ) : Type 0 where
  pub image : StateImage
  pub inner : List StateImage
  pub owners : List ℕ
  pub entry : image.entry ≡ b.state
  pub placed : image.places ≡ places
  pub core_sized : AllSized (pieces_of made.states)
  pub core_many : states_in (pieces_of made.states) ≡ length made.stands_for
  pub long_states : length (image ∷ inner) ≡ p.states
  pub long_owners : length owners ≡ variables
  pub long_variables : length made.variables ≡ variables
  pub wide : length made.states ≡ width
  pub first : (s : State) × ((more : List State) × (made.states ≡ s ∷ more))
  pub stands : (more : List (Option ℕ)) × (made.stands_for ≡ Some numbers.state ∷ more)
  pub begun : begins ≡ true → FirstInitial (pieces_of made.states)
  pub not_initial : begins ≡ false → NoneInitial (pieces_of made.states)
  pub one_initial : OnceInitial (pieces_of made.states)
  pub final_is : (w : World) → Holds w.k a (p.parts a) → is_final w.k a.state ≡ final
  pub held_chart : (w : World) → Holds w.k a (p.parts a) → holder w.k a.state ≡ a.holder
  pub held_core : (w : World) (more : List Subtree) → InRegionAt w.core (pieces_of made.states ++ more) next b →
      OnceInitial (pieces_of made.states ++ more) → holder w.core image.main ≡ b.holder
  pub facts : (w : World) (more : List Subtree) →
      StateStands w p made flags places place numbers a b next more (record { states = image ∷ inner; owners = owners }) →
      Fits w a.state (a.state + p.states) b.state (b.state + states_in (pieces_of made.states)) numbers.variable (numbers.variable + variables)

abbrev pub StateWalksBy : Subtree → StatePiece → Type 0
StateWalksBy p x =
    (flags : List Flags) (places : RegionPlaces) (place : ℕ) (begins : Bool) (numbers : NextNumbers) (a b : TablePosition) (next : ℕ) →
    StateWalk p (x.made flags places place begins numbers) (x.variables (weak_around flags)) x.is_final (x.width flags) flags places place begins numbers a b
    next

-- what does not depend on where it stands
pub record StateCounts (p : Subtree) (x : StatePiece) : Type 0 where
  pub states : x.states ≡ p.states
  pub initial : x.is_initial ≡ p.is_initial
  pub sized : IsSized p

pub record StateWalks (s : State) : Type 0 where
  pub walks : StateWalksBy (table_of_state s) (piece_of_state s)
  pub counts : StateCounts (table_of_state s) (piece_of_state s)

-- ---- regions

pub record RegionsWalk (chart : SubtreeRows) (states : ℕ) (chart_numbers : List ℕ) (made : Regions) (variables : ℕ) (flags : List Flags)
    (counter : Option ℕ) (numbers : NextNumbers) (a b : TablePosition) : Type 0 where
  pub part : Part
  pub core_sized : AllSized (map table_of_region made.regions)
  pub core_many : states_in (map table_of_region made.regions) ≡ length made.stands_for
  pub long_states : length part.states ≡ states
  pub long_owners : length part.owners ≡ variables
  pub long_variables : length made.variables ≡ variables
  pub threads : (w : World) → RegionsStand w chart made flags counter numbers a b part →
      map (i w).thread_of chart_numbers ≡ region_numbers (map table_of_region made.regions) b.region
  pub entered : (w : World) → RegionsStand w chart made flags counter numbers a b part →
      AreEntered w.k w.core (i w) chart_numbers chart.entered (side_by_side (map table_of_region made.regions) b).entered
  pub facts : (w : World) → RegionsStand w chart made flags counter numbers a b part →
      Fits w a.state (a.state + states) b.state (b.state + states_in (map table_of_region made.regions)) numbers.variable (numbers.variable + variables)

pub record RegionWalks (r : Region) : Type 0 where
  pub walks : (flags : List Flags) (counter : Option ℕ) (numbers : NextNumbers) (a b : TablePosition) →
      RegionsWalk ((table_of_region r).parts a) (table_of_region r).states (a.region ∷ []) ((piece_of_region r).made flags counter numbers)
      ((piece_of_region r).variables (weak_around flags)) flags counter numbers a b
  pub states : (piece_of_region r).states ≡ (table_of_region r).states
  pub sized : IsSized (table_of_region r)

abbrev pub SideWalks : List Region → Type 0
SideWalks regions =
    (flags : List Flags) (counter : Option ℕ) (numbers : NextNumbers) (a b : TablePosition) →
    RegionsWalk (side_by_side (map table_of_region regions) a) (states_in (map table_of_region regions)) (region_numbers (map table_of_region regions) a.region)
    (expanded_regions (map piece_of_region regions) flags counter numbers) (variables_in (weak_around flags) (map piece_of_region regions)) flags counter
    numbers a b
