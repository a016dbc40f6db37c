-- What is opened of a text, and what its image is as bytes: of the source for which the text stands.
use Rattle.std.specs.Prelude.{ℕ, ◌≡◌, ◌⊎◌, List}
use Rattle.sc_text.specs.declared.language.Language.{Language}
use Rattle.sc_text.specs.declared.language.Language.TheVariants as language
use Rattle.sc_text.specs.FirstToken.{IsIn}
use Rattle.core_charts.specs.Chart.{Chart}
use Rattle.chart_reader.specs.Read.{IsRead}
use Rattle.node_states.specs.StandsFor.{stands_for}
use Rattle.core_charts.specs.Paths.{paths_of}
use Rattle.author_states.specs.Author.{AuthorsStates, author_nodes}
use Rattle.author_states.specs.Authored.{IsAuthored}
use Rattle.bytecode.specs.Image.{Image}
use Rattle.bytecode.specs.Spells.{Spells}
use Rattle.command_files.specs.declared.fault.LoadFault.{LoadFault}
use Rattle.command_files.specs.Sources.{SpellsImage, BytesLackImage}
use Rattle.command_files.specs.Standing.{BytesLackSource, StandsFor}
use Rattle.embedded_machine.specs.Opened.{ChartStates, OpenedImage, no_states}
use Rattle.chart_texts.specs.FirstWord.{BeginsExtended}

-- the text spells a chart, whose states these are
pub record AreOfChart (text : List ℕ) (states : ChartStates) : Type 0 where
  pub chart : Chart
  pub read : IsRead text chart
  pub nodes : states.nodes ≡ stands_for chart
  pub paths : states.paths ≡ paths_of chart

-- of a text of this language: the states of its chart, and none of a program
abbrev pub AreStatesIn : Language → List ℕ → ChartStates → Type 0
AreStatesIn language.Chart text states = AreOfChart text states
AreStatesIn language.Scl text states = states ≡ no_states

-- the states of what this text spells, in the language that its first token tells
pub record AreStatesOf (text : List ℕ) (states : ChartStates) : Type 0 where
  pub language : Language
  pub is_in : IsIn text language
  pub are : AreStatesIn language text states

-- the image of what this source spells, and the states of that
pub record IsOpenedSource (source : List ℕ) (opened : OpenedImage) : Type 0 where
  pub image : SpellsImage source opened.image
  pub states : AreStatesOf source opened.states

-- the nodes that stand for a state of the reduced chart stand for that of the author for which this one stands, if for one
abbrev pub told_by : AuthorsStates → OpenedImage → OpenedImage
told_by a o = record { image = o.image; states = record { nodes = author_nodes a.stand o.states.nodes; paths = a.paths } }

-- the image of what this source spells, and the states of the author of the extended chart that is reduced to it
pub record IsOpenedAuthored (source : List ℕ) (authors : AuthorsStates) (opened : OpenedImage) : Type 0 where
  pub reduced : OpenedImage
  pub is : IsOpenedSource source reduced
  pub told : opened ≡ told_by authors reduced

-- this text is itself its source, of which this is the image with its states
pub record IsOpenedOwn (text : List ℕ) (opened : OpenedImage) : Type 0 where
  pub other : ¬ BeginsExtended text
  pub is : IsOpenedSource text opened

-- this text is that of an extended chart; this is the image of the chart to which it is reduced, and these its author's states
pub record IsOpenedExtended (text : List ℕ) (opened : OpenedImage) : Type 0 where
  pub source : List ℕ
  pub authors : AuthorsStates
  pub authored : IsAuthored text source authors
  pub is : IsOpenedAuthored source authors opened

-- the image and the states of what this text spells
abbrev pub IsOpenedText : List ℕ → OpenedImage → Type 0
IsOpenedText text opened = IsOpenedOwn text opened ⊎ IsOpenedExtended text opened

-- these bytes spell the image of what this source spells, in version 2 of the layout
pub record SpellsSourceImage (source bytes : List ℕ) : Type 0 where
  pub image : Image
  pub compiled : SpellsImage source image
  pub spelt : Spells 2 bytes image

-- these bytes spell the image of the source for which this text stands
pub record SpellsItsImage (text bytes : List ℕ) : Type 0 where
  pub source : List ℕ
  pub stands : StandsFor text source
  pub image : SpellsSourceImage source bytes

-- this text stands for a source that has no image which could be given
pub record StandsForNone (text : List ℕ) (f : LoadFault) : Type 0 where
  pub source : List ℕ
  pub stands : StandsFor text source
  pub lacks : BytesLackImage source f

-- why a text has no image that could be given: it stands for no source, or for one that has none
abbrev pub IsNoImageOf : List ℕ → LoadFault → Type 0
IsNoImageOf text f = BytesLackSource text f ⊎ StandsForNone text f
