-- What a result tells of the failures of a source and a sink, whatever else it gives.
use Rattle.std.proofs.Common.{Ok, Err}
use Rattle.trace_player.specs.declared.player.PlayFault.{PlayFault}
use Rattle.trace_player.specs.Channels.{Seen, TellsFailures}

pub none_failed : {A B : Type 0} (before after : Seen) (a : A) (b : B) → TellsFailures before after (Ok a) → TellsFailures before after (Ok b)
none_failed before after a b tells =
    record {
      read = λ e. absurd cc;
      not_read = λ n. tells.not_read (λ e. absurd cc);
      end = tells.end;
      write = λ e. absurd cc;
      not_write = λ n. tells.not_write (λ e. absurd cc);
    }

pub failed : {A B : Type 0} (before after : Seen) (f : PlayFault) → TellsFailures {T = A} before after (Err f) → TellsFailures {T = B} before after (Err f)
failed before after f tells =
    record {
      read = λ e. tells.read (cc e);
      not_read = λ n. tells.not_read (λ e. n (cc e));
      end = tells.end;
      write = λ e. tells.write (cc e);
      not_write = λ n. tells.not_write (λ e. n (cc e));
    }
