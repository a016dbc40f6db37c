-- What playing came to: one record of what the player promises.
use Rattle.std.specs.Prelude.{ℕ, Result, List, IfOk, IfErr}
use Rattle.bytecode.specs.Image.{Image}
use Rattle.trace_player.specs.declared.player.PlayFault.{PlayFault}
use Rattle.trace_player.specs.Channels.{Seen, TellsFailures}
use Rattle.trace_player.specs.Trace.{Good}
use Rattle.ruled_runs.specs.Trace.{Plays, Leaves}
use Rattle.ruled_runs.specs.declared.traces.place.RunPlace.{RunPlace}
use Rattle.ruled_runs.specs.declared.traces.rules.Rules.{Rules}

-- the whole input was played from a place on, to the last one
abbrev pub PlaysWhole : Rules → Image → RunPlace → Seen → Seen → RunPlace → Type 0
PlaysWhole rules image from before after last =
    (out : List (List ℕ)) × Plays rules image from before.source.to_come before.sink.taken after.sink.taken out Good last

-- playing came to this result: what was written before it, and what failed
pub record CameTo (rules : Rules) (image : Image) (from : RunPlace) (before after : Seen) (result : Result RunPlace PlayFault) : Type 0 where
  pub whole : IfOk result (PlaysWhole rules image from before after)
  pub fault : IfErr result (Leaves rules image from before.source.to_come before.sink.taken after.sink.taken)
  pub failures : TellsFailures before after result
