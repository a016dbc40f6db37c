-- Parts of a core's run that stand for steps of its chart.
use Rattle.std.specs.Prelude.{ℕ, ◌≡◌, Some, List, [], ◌∷◌, ◌++◌, map}
use Rattle.sc_values.specs.Runs.{Machine, Act, act_of}
use Rattle.abort_expansion_laws.specs.Stages.{Entry, Correspondence, core_act, chart_log, EachFits, Climbs}

abbrev pub threads : Correspondence → List Entry → List ℕ
threads k log = map (λ (y : Entry). (core_act k y).thread) log

-- the core goes from d to e by the steps of a log; of each something is told that validity needs
abbrev pub Follows : (n : Machine) (k : Correspondence) (Told : n.Configuration → Entry → Type 0) → n.Configuration → List Entry → n.Configuration → Type 0
Follows n k Told d [] e = d ≡ e
Follows n k Told d (y ∷ log) e =
    (core_act k y ≡ act_of n d (core_act k y).thread) × Told d y × ((next : n.Configuration) × (n.step (core_act k y).thread d ≡ Some next) × Follows n k Told
    next log e)

-- a part of the core's run that stands for these steps of the chart. These stages are reached before it, and after it
pub record Segment (n : Machine) (k : Correspondence) (Told : n.Configuration → Entry → Type 0) (d : n.Configuration) (Before : ℕ → ℕ → Type 0)
    (After : n.Configuration → ℕ → ℕ → Type 0) (steps : List Act)
    (Reaches : n.Configuration → Type 0) : Type 0 where
  pub log : List Entry
  pub last : n.Configuration
  pub follows : Follows n k Told d log last
  pub charted : chart_log log ≡ steps
  pub fits : EachFits k log
  pub climbs : (rest : List Entry) → Climbs k (After last) rest → Climbs k Before (log ++ rest)
  pub reaches : Reaches last
  -- the stages that may be reached
  -- at the start of a tick the core may have to enter something first
  -- each step of the chart is followed that may be taken
  -- when the chart is over, what was held back is done
