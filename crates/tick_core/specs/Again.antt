-- A tick that begins again.
use Rattle.std.specs.Prelude.{None, [], map}
use Rattle.sc_graph.specs.declared.control.Control.{Control}
use Rattle.bytecode.specs.Image.{Image}
use Rattle.tick_core.specs.State.{InTick}

-- a tick of the image that begins in this configuration: nothing is committed and nothing is open
abbrev pub begun_again : Image → Control → InTick
begun_again image c = record { image = image; begun = c; present = c; history = []; claims = map (λ _. None) image.program.threads }
