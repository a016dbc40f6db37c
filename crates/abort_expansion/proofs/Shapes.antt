-- The states that expansion makes: their names, and which are initial.
use Rattle.std.proofs.Common.{◌≡◌, ℕ, Bool, false, List, [], ap}
use Rattle.core_charts.specs.declared.region.Region.{Region}
use Rattle.core_charts.specs.declared.region.State.{State}
use Rattle.core_charts.specs.declared.region.Transition.{Transition}
use Rattle.core_charts.specs.declared.region.Region.TheOpen.{State-F}
use Rattle.core_charts.specs.declared.region.Region.TheViews.{roll-State, out-State, out-roll-State}
use Rattle.abort_expansion.specs.declared.flags.Flags.{Flags}
use Rattle.abort_expansion.specs.declared.places.RegionPlaces.{RegionPlaces}
use Rattle.abort_expansion.specs.Flags.{preparation_name, continuation_name}
use Rattle.abort_expansion.specs.Superstates.{preparation, continuation, fork}

-- a state of this name, initial or not
pub record IsNamed (name : List ℕ) (begins : Bool) (s : State) : Type 0 where
  pub name_is : (out-State s).name ≡ name
  pub begins_is : (out-State s).is_initial ≡ begins

pub rolled_named : (name : List ℕ) (begins final : Bool) (regions : List Region) (all : List Transition)
    → IsNamed name begins (roll-State (record { name = name; is_initial = begins; is_final = final; regions = regions; transitions = all }))
rolled_named name begins final regions all =
    let y : State-F Region State = record { name = name; is_initial = begins; is_final = final; regions = regions; transitions = all } in
    record { name_is = ap (λ z. z.name) (out-roll-State y); begins_is = ap (λ z. z.is_initial) (out-roll-State y) }

pub preparation_named : (s : ℕ) (flags : Flags) (regions : ℕ) (own : List Transition) (at : RegionPlaces) (to : ℕ) (begins : Bool)
    → IsNamed (preparation_name s) begins (preparation s flags regions own at to begins)
preparation_named s flags regions own at to begins = rolled_named (preparation_name s) begins false [] _

pub continuation_named : (s : ℕ) (around : List Flags) (flags : Flags) (at : RegionPlaces) (own : List Transition)
    → IsNamed (continuation_name s) false (continuation s around flags at own)
continuation_named s around flags at own = rolled_named (continuation_name s) false false [] _

pub fork_named : (name : List ℕ) (begins : Bool) (regions : List Region) (to : ℕ) → IsNamed name begins (fork name begins regions to)
fork_named name begins regions to = rolled_named name begins false regions _
