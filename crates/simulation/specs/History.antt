-- A history: the ticks that were played by hand, one after the other, from the initial configuration on.
use Rattle.std.specs.Prelude.{ℕ, ◌≡◌, ◌-◌, List, [], ◌∷◌, ◌++◌, length, take}
use Rattle.sc_graph.specs.declared.control.Control.{Control}
use Rattle.sc_graph.specs.Tick.{Inputs, Rests, initial}
use Rattle.bytecode.specs.Image.{Image}
use Rattle.trace_player.specs.Trace.{GivesInputs, Reacts}
use Rattle.simulation.specs.declared.history.Played.{Played}

-- a line gives inputs under which a tick leads from c to d, a configuration between two ticks
pub record Leads (image : Image) (c : Control) (line : List ℕ) (d : Control) : Type 0 where
  pub inputs : Inputs
  pub steps : ℕ
  pub gives : GivesInputs image.program line inputs
  pub reacts : Reacts image inputs c d steps
  pub rests : Rests image.program d

-- each tick leads from where the one before it ended, the first from c
abbrev pub Follow : Image → Control → List Played → Type 0
Follow image c [] = Unit {0}
Follow image c (tick ∷ ticks) = Leads image c tick.line tick.control × Follow image tick.control ticks

abbrev pub IsHistory : Image → List Played → Type 0
IsHistory image ticks = Follow image (initial image.program) ticks

-- the configuration behind ticks from c on
abbrev pub behind : Control → List Played → Control
behind c [] = c
behind c (tick ∷ ticks) = behind tick.control ticks

-- an image, and the ticks that were played of it
pub record History : Type 0 where
  pub image : Image
  pub ticks : List Played

-- the present configuration
abbrev pub present : History → Control
present h = behind (initial h.image.program) h.ticks

-- the line was played: its tick stands behind the others
pub record Plays (old new : History) (line : List ℕ) : Type 0 where
  pub control : Control
  pub leads : Leads old.image (present old) line control
  pub is : new ≡ record old { ticks = old.ticks ++ record { line = line; control = control } ∷ [] }

-- the lines of ticks, as a run reads them
abbrev pub lines_text : List Played → List ℕ
lines_text [] = []
lines_text (tick ∷ ticks) = tick.line ++ (10 ∷ lines_text ticks)

-- one tick back, where there is one
abbrev pub undone : History → History
undone h = record h { ticks = take (length h.ticks - 1) h.ticks }

-- before the first tick of an image
abbrev pub begun : Image → History
begun image = record { image = image; ticks = [] }

-- back to the beginning
abbrev pub begun_anew : History → History
begun_anew h = record h { ticks = [] }
