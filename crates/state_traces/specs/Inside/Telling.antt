-- Where a player stands that tells more of each tick, and what a line makes of it.
use Rattle.std.specs.Prelude.{ℕ, ◌≡◌, List}
use Rattle.sc_graph.specs.declared.control.Control.{Control}
use Rattle.bytecode.specs.Image.{Image}
use Rattle.trace_player.specs.Trace.{End, EndsAt, next_number}
use Rattle.state_traces.specs.Trace.{Words, Shows}

-- what is seen of such a player between two lines: the words, the image, the number of the last tick and the configuration
pub record TellingSeen : Type 0 where
  pub words : Words
  pub image : Image
  pub ticks : ℕ
  pub control : Control

-- the next line makes a tick, of which this is shown
pub record Tells (at : TellingSeen) (line : List ℕ) (to : TellingSeen) (shown : List ℕ) : Type 0 where
  pub shows : Shows at.words at.image (next_number at.ticks) at.control line to.control shown
  pub ticks : to.ticks ≡ next_number at.ticks
  pub words : to.words ≡ at.words
  pub image : to.image ≡ at.image

-- the next line ends a trace
abbrev pub Ends : TellingSeen → List ℕ → End → Type 0
Ends at line end = EndsAt at.image.program (next_number at.ticks) line end
