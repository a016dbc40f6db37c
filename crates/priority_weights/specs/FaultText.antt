-- What is printed of a fault: its number, and the nodes of the walk.
use Rattle.std.specs.Prelude.{ℕ, List, ◌++◌, codes}
use Rattle.std.specs.List.{flat_map}
use Rattle.std.specs.Fmt.{decimal}
use Rattle.priority_weights.specs.declared.fault.TablesFault.{TablesFault}
use Rattle.priority_weights.specs.declared.fault.TablesFault.TheVariants as fault

-- each node behind a space
abbrev pub walk_text : List ℕ → List ℕ
walk_text walk = flat_map (λ n. codes " " ++ decimal n) walk

abbrev pub fault_text : TablesFault → List ℕ
fault_text (fault.InstantLoop walk) = codes "E13" ++ walk_text walk
fault_text (fault.Cyclic walk) = codes "E12" ++ walk_text walk
fault_text fault.Memory = codes "E52"
