-- What pieces of a chart become, one beside the other, and how large they are.
use Rattle.std.specs.Prelude.{ℕ, ◌+◌, Bool, Option, List, [], ◌∷◌, ◌++◌}
use Rattle.abort_expansion.specs.declared.flags.Flags.{Flags}
use Rattle.abort_expansion.specs.declared.places.RegionPlaces.{RegionPlaces}
use Rattle.abort_expansion.specs.declared.pieces.StatePieces.{StatePieces}
use Rattle.abort_expansion.specs.declared.pieces.Regions.{Regions}
use Rattle.abort_expansion.specs.declared.pieces.NextNumbers.{NextNumbers}
use Rattle.abort_expansion.specs.Flags.{weak_around}

-- states with those behind them, and regions
abbrev pub beside : StatePieces → StatePieces → StatePieces
beside a b =
    record {
      states = a.states ++ b.states;
      variables = a.variables ++ b.variables;
      stands_for = a.stands_for ++ b.stands_for;
    }

abbrev pub together : Regions → Regions → Regions
together a b =
    record {
      regions = a.regions ++ b.regions;
      variables = a.variables ++ b.variables;
      stands_for = a.stands_for ++ b.stands_for;
    }

-- a region with all that is in it: how many superstates and states it has, how many variables it needs, by whether
-- weak aborts enclose it, and what it becomes, by the flags of the superstates around it, outermost first, and the
-- counter of the one that holds it
pub record RegionPiece : Type 0 where
  pub superstates : ℕ
  pub states : ℕ
  pub variables : (weak : Bool) → ℕ
  pub made : (around : List Flags) → (counter : Option ℕ) → NextNumbers → Regions

-- a state with all that is in it, and how many states it becomes
pub record StatePiece : Type 0 where
  pub is_initial : Bool
  pub is_final : Bool
  pub superstates : ℕ
  pub states : ℕ
  pub variables : (weak : Bool) → ℕ
  pub width : (around : List Flags) → ℕ
  -- from this place on; it is not initial where the region begins elsewhere
  pub made : (around : List Flags) → RegionPlaces → (place : ℕ) → (begins : Bool) → NextNumbers → StatePieces

abbrev pub superstates_in : List RegionPiece → ℕ
superstates_in [] = 0
superstates_in (r ∷ regions) = r.superstates + superstates_in regions

abbrev pub states_in : List RegionPiece → ℕ
states_in [] = 0
states_in (r ∷ regions) = r.states + states_in regions

abbrev pub variables_in : Bool → List RegionPiece → ℕ
variables_in weak [] = 0
variables_in weak (r ∷ regions) = r.variables weak + variables_in weak regions

abbrev pub past_region : Bool → RegionPiece → NextNumbers → NextNumbers
past_region weak r at =
    record {
      superstate = at.superstate + r.superstates;
      variable = at.variable + r.variables weak;
      state = at.state + r.states;
    }

-- the regions of a superstate
abbrev pub expanded_regions : List RegionPiece → List Flags → Option ℕ → NextNumbers → Regions
expanded_regions [] around counter at = record { regions = []; variables = []; stands_for = [] }
expanded_regions (r ∷ regions) around counter at =
    together (r.made around counter at)
    (expanded_regions regions around counter (past_region (weak_around around) r at))
