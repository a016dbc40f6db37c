-- What a run under rules leaves, of what its words ask.
use Rattle.std.specs.Prelude.{ℕ, Option, List}
use Rattle.command_files.specs.Files.{Contents}
use Rattle.command_words.specs.Said.{Rules as Asked}
use Rattle.ruled_runs.specs.declared.fault.RuledFault.{RuledFault}
use Rattle.ruled_runs.specs.declared.fault.RuledFault.TheVariants as run
use Rattle.ruled_runs.specs.Runs.{RefusesRun, RunsBy}
use Rattle.ruled_runs.specs.declared.traces.rules.Rules.{Rules}
use Rattle.sct_command.specs.declared.fault.Fault.{Fault}
use Rattle.sct_command.specs.declared.fault.Fault.TheVariants as fault

-- the rules for lines
abbrev pub line_rules : Asked → Rules
line_rules r = record { strict = r.strict; skips = r.skips }

-- the fault of a run
abbrev pub fault_of_run : RuledFault → Fault
fault_of_run (run.Files f) = fault.Files f
fault_of_run (run.Place shown) = fault.Place shown
fault_of_run (run.Play f cause) = fault.Play f cause

-- the run was done
abbrev pub RunsUnder : Option Contents → Option Contents → List ℕ → Asked → Option (List ℕ) → Option (List ℕ) → Option (List ℕ) → Type 0
RunsUnder files files' name rules input old new = RunsBy (line_rules rules) files files' name rules.from rules.save input old new

-- it was refused
abbrev pub RefusesUnder : Option Contents → Option Contents → List ℕ → Asked → Option (List ℕ) → Option (List ℕ) → Option (List ℕ) → Fault → Type 0
RefusesUnder files files' name rules input old new (fault.Files f) =
    RefusesRun (line_rules rules) files files' name rules.from rules.save input old new (run.Files f)
RefusesUnder files files' name rules input old new (fault.Place shown) =
    RefusesRun (line_rules rules) files files' name rules.from rules.save input old new (run.Place shown)
RefusesUnder files files' name rules input old new (fault.Play f cause) =
    RefusesRun (line_rules rules) files files' name rules.from rules.save input old new (run.Play f cause)
RefusesUnder files files' name rules input old new other = ⊥
