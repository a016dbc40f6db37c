-- The text of the chart to which an extended chart is reduced.
use Rattle.std.specs.Prelude.{ℕ, Option, List}
use Rattle.chart_texts.specs.Sources.{HasReduced}
use Rattle.command_files.specs.declared.fault.LoadFault.{LoadFault}
use Rattle.command_files.specs.Files.{Contents, HasBytes}
use Rattle.command_files.specs.Lacking.{FileLacks}
use Rattle.command_files.specs.Standing.{BytesLackReduced}

-- the text is that of the chart to which the extended chart in this file is reduced
pub record IsReducedIn (files : Option Contents) (name text : List ℕ) : Type 0 where
  pub bytes : List ℕ
  pub held : HasBytes files name bytes
  pub reduced : HasReduced bytes text

-- why a file has none
abbrev pub FileLacksReduced : Option Contents → List ℕ → LoadFault → Type 0
FileLacksReduced files name f = FileLacks BytesLackReduced files name f
