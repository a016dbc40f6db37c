-- The source in a file: what is written there, or, of the text of an extended chart, the text of the chart to which that is reduced.
use Rattle.std.specs.Prelude.{ℕ, ◌≡◌, ◌⊎◌, Option, List}
use Rattle.abort_expansion.specs.declared.fault.ExpandFault.TheVariants as expanding
use Rattle.compiler.specs.declared.fault.CompileFault.TheVariants as compiling
use Rattle.chart_texts.specs.FirstWord.{BeginsExtended}
use Rattle.chart_texts.specs.Sources.{HasReduced, SpellsNoExtended, SpellsUnreduced}
use Rattle.command_files.specs.declared.fault.LoadFault.{LoadFault}
use Rattle.command_files.specs.declared.fault.LoadFault.TheVariants as fault
use Rattle.command_files.specs.Files.{Contents, HasBytes}
use Rattle.command_files.specs.Lacking.{FileLacks}

-- ---- what is there

-- what is written does not begin as the text of an extended chart, and is itself the source
pub record AreAsWritten (written source : List ℕ) : Type 0 where
  pub other : ¬ BeginsExtended written
  pub same : source ≡ written

-- it begins as one, and the source is the text of the chart to which that is reduced
pub record AreReduced (written source : List ℕ) : Type 0 where
  pub begins : BeginsExtended written
  pub reduced : HasReduced written source

-- these bytes stand for this source
abbrev pub StandsFor : (written source : List ℕ) → Type 0
StandsFor written source = AreAsWritten written source ⊎ AreReduced written source

-- the bytes of the file of this name stand for this source
pub record HasSource (files : Option Contents) (name source : List ℕ) : Type 0 where
  pub written : List ℕ
  pub held : HasBytes files name written
  pub stands : StandsFor written source

-- ---- what is not there

-- why bytes have no text of a reduced chart: they are no text, or one that spells no extended chart, or one that is not reduced, which
-- is told as a limit that is passed
abbrev pub BytesLackReduced : List ℕ → LoadFault → Type 0
BytesLackReduced bytes fault.Memory = Unit {0}
BytesLackReduced bytes (fault.Text f) = SpellsNoExtended bytes f
BytesLackReduced bytes (fault.Program f) = (f ≡ compiling.Expansion expanding.Limit) × SpellsUnreduced bytes
BytesLackReduced bytes other = ⊥

-- why bytes stand for no source: they begin as the text of an extended chart, and have no text of a reduced one
abbrev pub BytesLackSource : List ℕ → LoadFault → Type 0
BytesLackSource bytes f = BeginsExtended bytes × BytesLackReduced bytes f

-- why there is no source in the file of this name
abbrev pub FileLacksSource : Option Contents → List ℕ → LoadFault → Type 0
FileLacksSource files name f = FileLacks BytesLackSource files name f

-- there is no source in the file of this name, or one that lacks something, for this fault
abbrev pub SourceLacks : (Lacks : List ℕ → LoadFault → Type 0) → Option Contents → List ℕ → LoadFault → Type 0
SourceLacks Lacks files name f = FileLacksSource files name f ⊎ ((source : List ℕ) × HasSource files name source × Lacks source f)
