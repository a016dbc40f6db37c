-- What a result tells of the failures of a source and a sink.
use Rattle.std.proofs.Common.{◌≡◌, ◌≢◌, ◌+◌, ℕ, Option, Result, Ok, Err, ap, refl, sym, ◌∙◌}
use Rattle.sc_values.specs.declared.streams.Progress.{Progress}
use Rattle.sc_values.specs.Streams.{StaysOpen, IsNotReadBehind}
use Rattle.trace_lines.specs.declared.lines.LinesFault.{LinesFault}
use Rattle.trace_lines.specs.declared.lines.LinesFault.TheVariants as lines_fault
use Rattle.trace_player.specs.declared.player.PlayFault.{PlayFault}
use Rattle.trace_player.specs.declared.player.PlayFault.TheVariants as play_fault
use Rattle.trace_player.specs.Channels.{SourceSeen, SinkSeen, Seen, TellsFailures}
use Rattle.trace_player.specs.Unread.{unread}
use Rattle.trace_player.proofs.Playing.{unread_read, unread_no_write}

-- while a source has not said its end it was not read behind it
pub open_not_behind : (p p' : Option Progress) → StaysOpen p p' → IsNotReadBehind p p'
open_not_behind p p' stays e b = let o = stays e in absurd cc

-- neither failed
pub told_well : {T : Type 0} (before after : Seen) (t : T) → after.source.failures ≡ before.source.failures
    → after.sink.failures ≡ before.sink.failures → IsNotReadBehind before.source.progress after.source.progress → TellsFailures before after (Ok t)
told_well before after t reads writes end =
    record { read = λ e. absurd cc; not_read = λ _. reads; end = end; write = λ e. absurd cc; not_write = λ _. writes }

-- they failed as this fault says
pub told_off : {T : Type 0} (before after : Seen) (f : PlayFault) (result : Result T PlayFault) → result ≡ Err f
    → (f ≡ play_fault.Read → after.source.failures ≡ before.source.failures + 1) → (f ≢ play_fault.Read → after.source.failures ≡ before.source.failures)
    → (f ≡ play_fault.Write → after.sink.failures ≡ before.sink.failures + 1) → (f ≢ play_fault.Write → after.sink.failures ≡ before.sink.failures)
    → IsNotReadBehind before.source.progress after.source.progress → TellsFailures before after result
told_off before after f result is read not_read write not_write end =
    record {
      read = λ e. let same : f ≡ play_fault.Read = cc (is, e) in read same;
      not_read = λ n. not_read (λ e. n (is ∙ ap Err e));
      end = end;
      write = λ e. let same : f ≡ play_fault.Write = cc (is, e) in write same;
      not_write = λ n. not_write (λ e. n (is ∙ ap Err e));
    }

-- a line could not be had
pub told_unread : {T : Type 0} (before after : Seen) (f : LinesFault) (k : ℕ) (result : Result T PlayFault) → result ≡ Err (unread f k)
    → (f ≡ lines_fault.Read → after.source.failures ≡ before.source.failures + 1)
    → (f ≢ lines_fault.Read → after.source.failures ≡ before.source.failures) → after.sink.failures ≡ before.sink.failures
    → IsNotReadBehind before.source.progress after.source.progress → TellsFailures before after result
told_unread before after f k result is read not_read writes end =
    told_off before after (unread f k) result is (λ e. read (unread_read f k e)) (λ n. not_read (λ e. n (ap (λ g. unread g k) e)))
    (λ e. absurd (unread_no_write f k e)) (λ _. writes) end

-- a line made no tick
pub told_line : {T : Type 0} (before after : Seen) (f : PlayFault) (result : Result T PlayFault) → result ≡ Err f → ¬ (f ≡ play_fault.Read)
    → ¬ (f ≡ play_fault.Write) → after.source.failures ≡ before.source.failures → after.sink.failures ≡ before.sink.failures
    → IsNotReadBehind before.source.progress after.source.progress → TellsFailures before after result
told_line before after f result is no_read no_write reads writes end =
    told_off before after f result is (λ e. absurd (no_read e)) (λ _. reads) (λ e. absurd (no_write e)) (λ _. writes) end

-- memory was refused, and neither failed
pub told_short : {T : Type 0} (before after : Seen) (result : Result T PlayFault) → result ≡ Err play_fault.Memory
    → after.source.failures ≡ before.source.failures → after.sink.failures ≡ before.sink.failures
    → IsNotReadBehind before.source.progress after.source.progress → TellsFailures before after result
told_short before after result is reads writes end =
    told_line before after play_fault.Memory result is (λ e. cc) (λ e. cc) reads writes end

-- the sink failed
pub told_cut : {T : Type 0} (before after : Seen) (result : Result T PlayFault) → result ≡ Err play_fault.Write
    → after.source.failures ≡ before.source.failures → after.sink.failures ≡ before.sink.failures + 1
    → IsNotReadBehind before.source.progress after.source.progress → TellsFailures before after result
told_cut before after result is reads writes end =
    told_off before after play_fault.Write result is (λ e. absurd cc) (λ _. reads) (λ _. writes) (λ n. absurd (n refl)) end

pub reads_same : (now after : SourceSeen) → after ≡ now → after.failures ≡ now.failures
reads_same now after same = ap (λ (s : SourceSeen). s.failures) same

pub writes_same : (now after : SinkSeen) → after ≡ now → after.failures ≡ now.failures
writes_same now after same = ap (λ (s : SinkSeen). s.failures) same

pub same_end : (before now after : SourceSeen) → after ≡ now → IsNotReadBehind before.progress now.progress → IsNotReadBehind before.progress after.progress
same_end before now after same end was behind = end was (sym (ap (λ (s : SourceSeen). s.progress) same) ∙ behind)

-- what was told of channels is told where the source is as it was, and the sink did not fail
pub told_on : {T : Type 0} (before now after : Seen) (result : Result T PlayFault) → after.source ≡ now.source → after.sink.failures ≡ now.sink.failures
    → TellsFailures before now result → TellsFailures before after result
told_on before now after result source sink tells =
    let reads = reads_same now.source after.source source in
    record {
      read = λ e. reads ∙ tells.read e;
      not_read = λ n. reads ∙ tells.not_read n;
      end = same_end before.source now.source after.source source tells.end;
      write = λ e. sink ∙ tells.write e;
      not_write = λ n. sink ∙ tells.not_write n;
    }
