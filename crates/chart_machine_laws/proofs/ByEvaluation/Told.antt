-- What the rows tell of a tick: the region of each step, the variables and the active states behind them, and where each region
-- stands.
use Rattle.std.proofs.Common.{ℕ, suc, zero, true, false, Option, Some, None, List, [], ◌∷◌}
use Rattle.std.specs.Prelude.{filter, drop, map, pos}
use Rattle.sc_values.specs.declared.value.Value.{Value}
use Rattle.sc_values.specs.declared.value.Value.TheVariants as value
use Rattle.sc_graph.specs.Tick.{Inputs}
use Rattle.chart_machine.specs.declared.standing.Standing.{Standing}
use Rattle.chart_machine.specs.declared.standing.Configuration.{Configuration}
use Rattle.chart_machine.specs.declared.table.StateRow.{StateRow}
use Rattle.chart_machine.specs.declared.table.Table.{Table}
use Rattle.chart_machine.specs.Turns.{first_enabled}
use Rattle.chart_machine.specs.Steps.{step}
use Rattle.chart_machine.specs.Machine.{initial, start, is_active}

-- a run, and where it leads
pub record Ran : Type 0 where
  pub steps : List ℕ
  pub end : Option Configuration

abbrev pub behind : ℕ → Ran → Ran
behind r ran = record { steps = r ∷ ran.steps; end = ran.end }

-- the step of a region, and what comes behind it; nowhere, where the step is undefined
abbrev pub led_on : (Configuration → Ran) → Option Configuration → Ran
led_on rest None = record { steps = []; end = None }
led_on rest (Some c) = rest c

abbrev pub goes_on : (Configuration → Ran) → Table → Configuration → Option ℕ → Ran
goes_on rest k c None = record { steps = []; end = Some c }
goes_on rest k c (Some r) = behind r (led_on rest (step k r c))

-- always the first region of the order steps whose turn it is, until it is nobody's; nowhere, where that takes more steps than
-- these
abbrev pub run : ℕ → Table → List ℕ → Configuration → Ran
run zero k order c = record { steps = []; end = None }
run (suc n) k order c = goes_on (run n k order) k c (first_enabled k c order)

abbrev pub counted : ℕ → List StateRow → List ℕ
counted n [] = []
counted n (row ∷ rows) = n ∷ counted (suc n) rows

abbrev pub active : Table → Configuration → List ℕ
active k c = filter (is_active k c) (counted 0 k.states)

-- a tick as a row tells it
pub record Tick : Type 0 where
  pub steps : List ℕ
  pub variables : List Value
  pub active : List ℕ

abbrev pub tick : List ℕ → List Value → List ℕ → Tick
tick steps variables active = record { steps = steps; variables = variables; active = active }

abbrev pub told_end : (Configuration → List Tick) → Table → List ℕ → Option Configuration → List Tick
told_end rest k steps None = []
told_end rest k steps (Some c) = tick steps c.variables (active k c) ∷ rest c

abbrev pub told : (Configuration → List Tick) → Table → Ran → List Tick
told rest k ran = told_end rest k ran.steps ran.end

-- the inputs of these letters are true
abbrev pub on : List ℕ → Inputs
on letters = map (λ letter. (letter ∷ [], value.Bool true)) letters

abbrev pub yes : Value
yes = value.Bool true

abbrev pub no : Value
no = value.Bool false

abbrev pub int : ℕ → Value
int n = value.Int (pos n)

-- the ticks by these inputs from a configuration on, by an order of all regions
abbrev pub ticks_from : Table → List ℕ → List Inputs → Configuration → List Tick
ticks_from k order [] c = []
ticks_from k order (inputs ∷ rest) c = told (ticks_from k order rest) k (run 16 k order (start k inputs c))

abbrev pub ticks : Table → List ℕ → List Inputs → List Tick
ticks k order inputs = ticks_from k order inputs (initial k)

-- where each region stands behind these ticks, that of number 1 first
abbrev pub led_to : (Configuration → Option Configuration) → Option Configuration → Option Configuration
led_to rest None = None
led_to rest (Some c) = rest c

abbrev pub end_from : Table → List ℕ → List Inputs → Configuration → Option Configuration
end_from k order [] c = Some c
end_from k order (inputs ∷ rest) c = led_to (end_from k order rest) (run 16 k order (start k inputs c)).end

abbrev pub others : Option Configuration → List Standing
others None = []
others (Some c) = drop 1 c.regions

abbrev pub standings : Table → List ℕ → List Inputs → List Standing
standings k order inputs = others (end_from k order inputs (initial k))
