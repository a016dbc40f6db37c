-- Where ticks lead, each with its inputs and a run of its threads.
use Rattle.std.specs.Prelude.{ℕ, Option, Some, List, [], ◌∷◌, option_and_then}
use Rattle.sc_values.specs.Runs.{Machine, replay}
use Rattle.sc_graph.specs.Tick.{Inputs}

-- None where a step is undefined. The start of a tick, by its inputs, is given beside the machine
abbrev pub after_ticks : (m : Machine) → (Inputs → m.Configuration → m.Configuration) → List (Inputs × List ℕ) → m.Configuration → Option m.Configuration
after_ticks m start [] c = Some c
after_ticks m start (tick ∷ ticks) c = option_and_then (after_ticks m start ticks) (replay m tick.1 (start tick.0 c))
