-- Ticks that were run to their one end.
use Rattle.std.specs.Prelude.{ℕ, ◌≡◌, ◌<◌, ◌==◌, Option, MatchOption, count_by, slice_index}
use Rattle.sc_values.specs.Runs.{IsOver}
use Rattle.sc_graph.specs.declared.control.Control.{Control}
use Rattle.sc_graph.specs.Tick.{Inputs, AreAccepted, Rests, start}
use Rattle.sc_graph.specs.Machine.{machine}
use Rattle.sc_graph.specs.Priority.{PriorityRun}
use Rattle.bytecode.specs.Image.{Image}
use Rattle.tick_core.specs.declared.history.Report.{Report}
use Rattle.tick_core.specs.State.{InTick, threads_of}
use Rattle.tick_core.specs.Whole.{WholeTick}

-- under these inputs, which are accepted, a whole tick leads from c to d, where it rests: its history is a priority
-- run to there, and for each worker from 0 it is counted how many of its steps bear it
pub record IsTick (image : Image) (inputs : Inputs) (c d : Control) (report : Report) : Type 0 where
  pub accepted : AreAccepted image.program inputs
  pub whole : WholeTick image (start image.program inputs c) (threads_of report.history) d
  pub by_priority : PriorityRun image.program image.tables (threads_of report.history) (start image.program inputs c) d
  pub rests : Rests image.program d
  pub by : (w : ℕ) → w < 9 → slice_index report.by w ≡ count_by (λ e. e.worker == w) report.history

-- a tick of this image under these inputs, which are accepted, that began at c, and in which nobody is enabled any more
pub record Ended (image : Image) (inputs : Inputs) (c : Control) (s : InTick) : Type 0 where
  pub accepted : AreAccepted image.program inputs
  pub image_is : s.image ≡ image
  pub begun_is : s.begun ≡ start image.program inputs c
  pub over : IsOver (machine image.program) s.present

-- a tick of this image is there, and nobody is enabled in it
abbrev pub HasEnded : Image → Option InTick → Type 0
HasEnded image last = MatchOption last ⊥ (λ s. (s.image ≡ image) × IsOver (machine image.program) s.present)

-- under these inputs, which are accepted, the next tick has ended, which began where the one before had
abbrev pub NextEnded : Image → Inputs → Option InTick → Option InTick → Type 0
NextEnded image inputs last next = MatchOption last ⊥ (λ s. MatchOption next ⊥ (Ended image inputs s.present))
