-- What playing an input came to: what was written, and what failed.
use Rattle.std.specs.Prelude.{ℕ, Result, List, IfOk, IfErr}
use Rattle.trace_player.specs.declared.player.PlayFault.{PlayFault}
use Rattle.trace_player.specs.Channels.{Seen, TellsFailures}
use Rattle.trace_player.specs.Trace.{Good}
use Rattle.trace_player.specs.Played.{Making, Ending, Plays, Leaves}

-- the whole input was played from a player on, to the last one
abbrev pub PlaysWhole : {A : Type 0} → Making A → Ending A → A → Seen → Seen → A → Type 0
PlaysWhole makes ends from before after last =
    (out : List (List ℕ)) × Plays makes ends from before.source.to_come before.sink.taken after.sink.taken out Good last

-- playing came to this result: what was written before it, and what failed
pub record CameTo {A : Type 0} (makes : Making A) (ends : Ending A) (from : A) (before after : Seen) (result : Result A PlayFault) : Type 0 where
  pub whole : IfOk result (PlaysWhole makes ends from before after)
  pub fault : IfErr result (Leaves makes ends from before.source.to_come before.sink.taken after.sink.taken)
  pub failures : TellsFailures before after result
