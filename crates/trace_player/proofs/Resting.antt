-- Where a trace begins.
use Rattle.std.proofs.Common.{◌≡◌, Option, Some, None, refl}
use Rattle.sc_graph.specs.Tick.{initial}
use Rattle.bytecode.specs.Image.{Image}
use Rattle.tick_core.specs.State.{InTick}
use Rattle.trace_player.specs.Inside.Resting.{IsAtRest, rest_behind}

pub at_first : (image : Image) (last : Option InTick) → last ≡ None → rest_behind image last ≡ initial image.program
at_first image None none = refl
at_first image (Some last) none = let no = none in absurd cc

pub rests_first : (image : Image) (last : Option InTick) → last ≡ None → IsAtRest image last
rests_first image None none = tt
rests_first image (Some last) none = let no = none in absurd cc
