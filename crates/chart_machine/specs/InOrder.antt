-- Runs in which always the first region of an order steps whose turn it is.
use Rattle.std.specs.Prelude.{ℕ, ◌≡◌, ◌⊎◌, Some, None, List, [], ◌∷◌, length}
use Rattle.chart_machine.specs.declared.standing.Configuration.{Configuration}
use Rattle.chart_machine.specs.declared.table.Table.{Table}
use Rattle.chart_machine.specs.Turns.{first_enabled}
use Rattle.chart_machine.specs.Steps.{step}

-- each of these is the first region of the order whose turn it is where it steps, and together they lead from c to d
abbrev pub StepsInOrder : Table → List ℕ → List ℕ → Configuration → Configuration → Type 0
StepsInOrder k order [] c d = c ≡ d
StepsInOrder k order (r ∷ run) c d =
    (first_enabled k c order ≡ Some r) × (b : Configuration) × (step k r c ≡ Some b) × StepsInOrder k order run b d

-- where such a run ends: the budget is spent, or it is the turn of none of them, or the step of the first is undefined.
-- In the table of a chart no step of an enabled region is
abbrev pub Stops : Table → List ℕ → ℕ → List ℕ → Configuration → Type 0
Stops k order budget run d =
    (length run ≡ budget) ⊎ ((first_enabled k d order ≡ None)
    ⊎ ((r : ℕ) × (first_enabled k d order ≡ Some r) × (step k r d ≡ None)))
