-- What contracts see of where the lines of a trace come from, and of where its output and the ends of its ticks go.
use Rattle.std.specs.Prelude.{ℕ, ◌≡◌, ◌≢◌, ◌+◌, ◌++◌, ◌∷◌, [], ⊤, Option, Some, None, Result, Err, List}
use Rattle.std.specs.Io.KnownBytes.{Appends}
use Rattle.sc_values.specs.declared.streams.Progress.{Progress}
use Rattle.sc_values.specs.declared.value.Value.{Value}
use Rattle.sc_values.specs.Streams.{GrowsInto, IsNotReadBehind}
use Rattle.sc_graph.specs.declared.program.Variable.{Variable}
use Rattle.probe.specs.Outputs.{Outputs, IsRowOf}
use Rattle.trace_player.specs.declared.player.PlayFault.{PlayFault}
use Rattle.trace_player.specs.declared.player.PlayFault.TheVariants as play_fault

-- of a source: the bytes that are to come, how far it was read, and how often it failed
pub record SourceSeen : Type 0 where
  pub to_come : Option (List ℕ)
  pub progress : Option Progress
  pub failures : ℕ

-- of a sink: the bytes that it took, and how often it failed
pub record SinkSeen : Type 0 where
  pub taken : Option (List ℕ)
  pub failures : ℕ

-- of both, and the rows that were published, if ends of ticks are
pub record Seen : Type 0 where
  pub source : SourceSeen
  pub sink : SinkSeen
  pub rows : Option (List Outputs)

-- a sink took these bytes, and did not fail
pub record TakesAll (before after : SinkSeen) (bytes : List ℕ) : Type 0 where
  pub taken : Appends before.taken after.taken bytes
  pub failures : after.failures ≡ before.failures

-- a sink took a beginning of these bytes, and failed once
pub record TakesPart (before after : SinkSeen) (bytes : List ℕ) : Type 0 where
  pub taken : GrowsInto before.taken after.taken bytes
  pub failures : after.failures ≡ before.failures + 1

-- known rows grow by that of the outputs among these variables
abbrev pub Gains : Option (List Outputs) → Option (List Outputs) → List Variable → List Value → Type 0
Gains None new variables values = ⊤
Gains (Some old) None variables values = ⊥
Gains (Some old) (Some new) variables values = (row : Outputs) × (new ≡ old ++ row ∷ []) × IsRowOf variables values row

-- a result tells each failure: the source failed once where it says so, and else never, and so did the sink. And the source
-- was not read behind its end
pub record TellsFailures {T : Type 0} (before after : Seen) (result : Result T PlayFault) : Type 0 where
  pub read : result ≡ Err play_fault.Read → after.source.failures ≡ before.source.failures + 1
  pub not_read : result ≢ Err play_fault.Read → after.source.failures ≡ before.source.failures
  pub end : IsNotReadBehind before.source.progress after.source.progress
  pub write : result ≡ Err play_fault.Write → after.sink.failures ≡ before.sink.failures + 1
  pub not_write : result ≢ Err play_fault.Write → after.sink.failures ≡ before.sink.failures
