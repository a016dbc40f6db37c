-- What is left where the fault of some bytes is told: what is said of these bytes is said of their file then.
use Rattle.std.specs.Prelude.{ℕ, ◌≡◌, ◌⊎◌, Option, List}
use Rattle.sct_command.specs.Explaining.{IsReport}
use Rattle.sct_command.specs.Writing.{WritesPart, WritesSome, Writes}
use Rattle.command_files.specs.declared.fault.LoadFault.{LoadFault}
use Rattle.command_files.specs.declared.fault.LoadFault.TheVariants as load
use Rattle.sct_command.specs.declared.fault.Fault.{Fault}
use Rattle.sct_command.specs.declared.fault.Fault.TheVariants as fault

-- this fault is answered where one was to be told: itself, and a report of it was written; or memory was refused; or the
-- output failed, and took a beginning
abbrev pub IsTold : (name bytes : List ℕ) → LoadFault → Option (List ℕ) → Option (List ℕ) → Fault → Type 0
IsTold name bytes f old new (fault.Files load.Memory) = (new ≡ old) ⊎ WritesSome old new
IsTold name bytes f old new fault.Write = WritesPart old new
IsTold name bytes f old new (fault.Files other) = (other ≡ f) × Writes (IsReport name bytes other) old new
IsTold name bytes f old new other = ⊥
