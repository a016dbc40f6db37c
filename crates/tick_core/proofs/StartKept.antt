-- The configuration in which a tick begins, which it leaves in its room.
use Rattle.std.proofs.Common.{sym, subst}
use Rattle.sc_graph.specs.declared.control.Control.{Control}
use Rattle.sc_graph.specs.Tick.{IsConfiguration}
use Rattle.sc_graph.specs.Valid.{IsValid}
use Rattle.bytecode.specs.Image.{Image}
use Rattle.tick_core.specs.State.{InTick, Holds, BeginsTick}
use Rattle.tick_core.specs.Space.Given.{HasPlaces}
use Rattle.tick_core.proofs.StateKept.{begun_configuration}

-- where a tick begins is a configuration
pub begins_configuration : (image : Image) (d : Control) → IsValid image.program image.tables → BeginsTick image.program d → IsConfiguration image.program d
begins_configuration image d valid begins =
    subst (IsConfiguration image.program) (sym begins.is) (begun_configuration image begins.resting begins.inputs valid begins.rests begins.accepted)

-- the configuration in which a tick began has a place for each variable and thread
pub begun_places : (s : InTick) → Holds s → HasPlaces s.image.program s.begun
begun_places s holds =
    let ok : IsConfiguration s.image.program s.begun = begins_configuration s.image s.begun holds.valid holds.begins in
    record { values = ok.values; statuses = ok.threads }
