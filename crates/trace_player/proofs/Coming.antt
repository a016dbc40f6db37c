-- What playing came to, at each way out.
use Rattle.std.proofs.Common.{◌≡◌, ◌≢◌, ◌+◌, ℕ, min, Result, Ok, Err, List, length, refl}
use Rattle.bytecode.specs.Image.{Image}
use Rattle.trace_player.specs.declared.player.PlayFault.{PlayFault}
use Rattle.trace_player.specs.declared.player.PlayFault.TheVariants as play_fault
use Rattle.sc_values.specs.Streams.{IsNotReadBehind}
use Rattle.trace_lines.specs.declared.lines.LineEnd.{LineEnd}
use Rattle.trace_lines.specs.declared.lines.LineEnd.TheVariants as line_end
use Rattle.trace_player.specs.Channels.{Seen, TellsFailures}
use Rattle.trace_player.specs.Trace.{Good, greatest}
use Rattle.trace_player.specs.Published.{PlaysTo, PlaysFirstTo, PlaysPartTo, LeavesTo}
use Rattle.trace_player.specs.Inside.Playing.{CameTo}
use Rattle.trace_player.proofs.Failures.{told_short, told_cut, open_not_behind}
use Rattle.trace_player.proofs.Playing.{not_begun, leaves}

-- a line that does not end with the input ends at a line feed
pub feed_of : (end : LineEnd) → (end ≢ line_end.Input) → end ≡ line_end.Feed
feed_of line_end.Feed n = refl
feed_of line_end.Input n = absurd (n refl)

-- what was written and published between two looks at the channels

abbrev pub WholeTo : Image → Seen → Seen → ℕ → Type 0
WholeTo image before after k =
    (out : List (List ℕ)) × (k ≡ min (length out) greatest)
    × PlaysTo image before.source.to_come before.sink.taken after.sink.taken before.rows after.rows out Good

abbrev pub FirstTo : Image → Seen → Seen → Type 0
FirstTo image before after = PlaysFirstTo image before.source.to_come before.sink.taken after.sink.taken before.rows after.rows

abbrev pub PartTo : Image → Seen → Seen → Type 0
PartTo image before after = PlaysPartTo image before.source.to_come before.sink.taken after.sink.taken before.rows after.rows

abbrev pub LeftTo : Image → Seen → Seen → PlayFault → Type 0
LeftTo image before after f = LeavesTo image before.source.to_come before.sink.taken after.sink.taken before.rows after.rows f

-- the input was played to its end
pub came_well : (image : Image) (before after : Seen) (k : ℕ) → WholeTo image before after k → TellsFailures before after (Ok k)
    → CameTo image before after (Ok k)
came_well image before after k plays tells =
    record {
      whole = (plays.0, plays.1, plays.2.plays);
      fault = tt;
      published = record { out = plays.0; count = plays.1; plays_to = plays.2 };
      published_before = tt;
      failures = tells;
    }

-- it was not, for this fault
pub came_off : (image : Image) (before after : Seen) (f : PlayFault) → LeftTo image before after f → TellsFailures {T = ℕ} before after (Err f)
    → CameTo image before after (Err f)
came_off image before after f left tells =
    record {
      whole = tt;
      fault = leaves image before.source.to_come before.sink.taken after.sink.taken before.rows after.rows f left;
      published = tt;
      published_before = left;
      failures = tells;
    }

-- memory was refused, after some lines
pub came_short : (image : Image) (before after : Seen) → FirstTo image before after → after.source.failures ≡ before.source.failures
    → after.sink.failures ≡ before.sink.failures → IsNotReadBehind before.source.progress after.source.progress
    → CameTo image before after (Err play_fault.Memory)
came_short image before after first reads writes end =
    came_off image before after play_fault.Memory first (told_short before after (Err play_fault.Memory) refl reads writes end)

-- a line of output was not written, or not to its end
pub came_cut : (image : Image) (before after : Seen) → PartTo image before after → after.source.failures ≡ before.source.failures
    → after.sink.failures ≡ before.sink.failures + 1 → IsNotReadBehind before.source.progress after.source.progress
    → CameTo image before after (Err play_fault.Write)
came_cut image before after part reads writes end =
    came_off image before after play_fault.Write part (told_cut before after (Err play_fault.Write) refl reads writes end)

-- memory was refused before the first line
pub came_never : (image : Image) (at : Seen) (f : PlayFault) (result : Result ℕ PlayFault) → result ≡ Err f → f ≡ play_fault.Memory
    → CameTo image at at result
came_never image at f result is memory =
    rw (is, memory)
    (came_short image at at (not_begun image at.source.to_come at.sink.taken at.rows) refl refl
    (open_not_behind at.source.progress at.source.progress (λ e. e)))
