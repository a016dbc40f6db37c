-- Texts as they are written: of a program, of a chart, or of an extended chart, which is reduced to one; and the states that are told
-- of them, which are those that their authors wrote.
use Rattle.std.specs.Prelude.{ℕ, ◌≡◌, ◌⊎◌, Option, Some, None, List, length}
use Rattle.author_states.specs.Author.{AuthorsStates, author_nodes, author_state}
use Rattle.author_states.specs.Authored.{IsAuthored}
use Rattle.bytecode.specs.Image.{Image}
use Rattle.compiled_charts.specs.Compiled.{CompiledChart}
use Rattle.command_files.specs.declared.fault.LoadFault.{LoadFault}
use Rattle.command_files.specs.Sources.{BytesLackCompiled, SpellsImage}
use Rattle.command_files.specs.Standing.{AreAsWritten, BytesLackSource, StandsFor}
use Rattle.chart_texts.specs.FirstWord.{BeginsExtended}
use Rattle.image_charts.specs.Charts.{IsChartOf, IsNoChart, IsNotChartOf, NamedStates}

-- ---- whose states are told

-- what is written is itself this source; or it is the text of an extended chart, whose author has these states, and the source that of
-- the chart to which it is reduced
abbrev pub IsWritten : (written source : List ℕ) → Option AuthorsStates → Type 0
IsWritten written source None = AreAsWritten written source
IsWritten written source (Some authors) = IsAuthored written source authors

-- the state of the author's for which the chart's state of this number stands, if there is one; of a chart it is the state itself
abbrev pub written_state : Option AuthorsStates → ℕ → Option ℕ
written_state None n = Some n
written_state (Some authors) n = author_state authors.stand n

-- the states of the author of an extended chart: a node that stands for a state of the chart to which that is reduced stands for the
-- one for which this state stands, if there is one
abbrev pub told_of_author : AuthorsStates → CompiledChart → NamedStates
told_of_author authors compiled = record {
  compiled = record {
    image = compiled.image;
    states = length authors.paths;
    nodes = author_nodes authors.stand compiled.nodes;
  };
  paths = authors.paths;
}

-- what is told of a chart: its own states; or those of the author of the extended chart that is reduced to it
abbrev pub told_by : Option AuthorsStates → NamedStates → NamedStates
told_by None own = own
told_by (Some authors) own = told_of_author authors own.compiled

-- ---- what is told of a text beside an image

-- this source spells a chart whose image this is, and these states are told of it
pub record TellsOf (source : List ℕ) (image : Image) (authors : Option AuthorsStates) (states : NamedStates) : Type 0 where
  pub own : NamedStates
  pub is : IsChartOf source image own
  pub told : states ≡ told_by authors own

-- what is written is the text of a chart, or of an extended chart, of which this is the image, and these are its author's states
pub record IsTextBeside (written : List ℕ) (image : Image) (states : NamedStates) : Type 0 where
  pub source : List ℕ
  pub authors : Option AuthorsStates
  pub stands : IsWritten written source authors
  pub tells : TellsOf source image authors states

-- it stands for a source that is not the chart of an image, for this fault, which is told of the file of this name
pub record StandsForOther (name written : List ℕ) (image : Image) (f : LoadFault) : Type 0 where
  pub source : List ℕ
  pub stands : StandsFor written source
  pub not : IsNotChartOf name source image f

-- why what is written in the file of this name is not the text of an image: it stands for no source, or for another one
abbrev pub IsNoTextBeside : List ℕ → List ℕ → Image → LoadFault → Type 0
IsNoTextBeside name written image f = BytesLackSource written f ⊎ StandsForOther name written image f

-- what is written is no text, or one of SCL, which has no states
abbrev pub HasNoChart : List ℕ → Type 0
HasNoChart written = (¬ BeginsExtended written) × IsNoChart written

-- ---- the image of a text

-- the source for which what is written stands has this image
pub record MakesImage (written : List ℕ) (image : Image) : Type 0 where
  pub source : List ℕ
  pub stands : StandsFor written source
  pub spelt : SpellsImage source image

-- it stands for a source that has no image, for this fault
pub record StandsForNone (written : List ℕ) (f : LoadFault) : Type 0 where
  pub source : List ℕ
  pub stands : StandsFor written source
  pub none : BytesLackCompiled source f

-- why what is written has no image: it stands for no source, or for one that has none
abbrev pub MakesNoImage : List ℕ → LoadFault → Type 0
MakesNoImage written f = BytesLackSource written f ⊎ StandsForNone written f
