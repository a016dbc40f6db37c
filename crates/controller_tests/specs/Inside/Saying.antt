-- What is said of a trace that differs.
use Rattle.std.specs.Prelude.{ℕ, ◌≡◌, List, ◌++◌}
use Rattle.bytecode.specs.Image.{Image}
use Rattle.command_files.specs.FaultText.{shown_name}
use Rattle.controller_tests.specs.States.{TellsActive}
use Rattle.controller_tests.specs.Verdict.{trace_name}
use Rattle.controller_tests.specs.declared.difference.Difference.{Difference}
use Rattle.controller_tests.specs.Told.{IsToldOf}

-- the first line in which it differs, and behind that the states that are active there
pub record SaysDifference (name bytes : List ℕ) (image : Image) (ticks : List ℕ) (d : Difference) (said : List ℕ) : Type 0 where
  pub told : List ℕ
  pub tells : IsToldOf (shown_name (trace_name name)) d told
  pub active : List ℕ
  pub states : TellsActive name bytes image ticks d.line active
  pub is : said ≡ told ++ active
