-- What playing came to, at each way out.
use Rattle.std.proofs.Common.{◌≡◌, ◌≢◌, ◌+◌, ◌<◌, ℕ, Option, Result, Ok, Err, List, [], length, refl}
use Rattle.sc_values.specs.Streams.{IsNotReadBehind}
use Rattle.trace_lines.specs.declared.lines.LinesFault.{LinesFault}
use Rattle.trace_lines.specs.declared.lines.LinesFault.TheVariants as lines_fault
use Rattle.trace_lines.specs.Lines.{ahead, line_limit, IsTooLong, TakesLine}
use Rattle.trace_player.specs.declared.player.PlayFault.{PlayFault}
use Rattle.trace_player.specs.declared.player.PlayFault.TheVariants as play_fault
use Rattle.trace_player.specs.Channels.{Seen, TellsFailures}
use Rattle.trace_player.specs.Trace.{End, NoInputs, NoObject}
use Rattle.trace_player.specs.Unread.{unread}
use Rattle.trace_player.proofs.Failures.{told_short, told_cut, told_line, told_unread, open_not_behind}
use Rattle.trace_player.proofs.Splits.{cut_too_long}
use Rattle.trace_player.specs.Played.{Making, Ending, Tells, PlaysFirst, PlaysPart, Leaves}
use Rattle.trace_player.specs.Came.{PlaysWhole, CameTo}
use Rattle.trace_player.proofs.Played.{Played, none_played, ended_at, refused, stopped}

-- a fault of one line is none of a stream
tells_no_read : (ends : End → Type 0) (f : PlayFault) → Tells ends f → ¬ (f ≡ play_fault.Read)
tells_no_read ends (play_fault.Input n) tells is = cc
tells_no_read ends play_fault.Memory tells is = cc
tells_no_read ends play_fault.Read tells is = tells
tells_no_read ends (play_fault.NotJson n) tells is = cc
tells_no_read ends play_fault.Write tells is = cc

tells_no_write : (ends : End → Type 0) (f : PlayFault) → Tells ends f → ¬ (f ≡ play_fault.Write)
tells_no_write ends (play_fault.Input n) tells is = cc
tells_no_write ends play_fault.Memory tells is = cc
tells_no_write ends play_fault.Read tells is = cc
tells_no_write ends (play_fault.NotJson n) tells is = cc
tells_no_write ends play_fault.Write tells is = tells

module _ {A : Type 0} (makes : Making A) (ends : Ending A) (from : A) (before after : Seen) where
  -- the input was played to its end
  pub came_well : (last : A) → PlaysWhole makes ends from before after last → TellsFailures before after (Ok last)
      → CameTo makes ends from before after (Ok last)
  came_well last plays tells = record { whole = plays; fault = tt; failures = tells }

  -- it was not, for this fault
  pub came_off : (f : PlayFault) → Leaves makes ends from before.source.to_come before.sink.taken after.sink.taken f
      → TellsFailures {T = A} before after (Err f) → CameTo makes ends from before after (Err f)
  came_off f left tells = record { whole = tt; fault = left; failures = tells }

  -- memory was refused, after some lines
  pub came_short : PlaysFirst makes ends from before.source.to_come before.sink.taken after.sink.taken
      → after.source.failures ≡ before.source.failures → after.sink.failures ≡ before.sink.failures
      → IsNotReadBehind before.source.progress after.source.progress → CameTo makes ends from before after (Err play_fault.Memory)
  came_short first reads writes end = came_off play_fault.Memory first (told_short before after (Err play_fault.Memory) refl reads writes end)

  -- a line of output was not written, or not to its end
  pub came_cut : PlaysPart makes ends from before.source.to_come before.sink.taken after.sink.taken
      → after.source.failures ≡ before.source.failures → after.sink.failures ≡ before.sink.failures + 1
      → IsNotReadBehind before.source.progress after.source.progress → CameTo makes ends from before after (Err play_fault.Write)
  came_cut part reads writes end = came_off play_fault.Write part (told_cut before after (Err play_fault.Write) refl reads writes end)

  -- the next line could not be had
  left_unread : (now : Option (List ℕ)) (at : A) (k : ℕ) (f : LinesFault)
      → Played makes ends from before.source.to_come now at before.sink.taken after.sink.taken → (f ≡ lines_fault.TooLong → IsTooLong now)
      → ((line : List ℕ) → line_limit < length line → ends at line (NoObject k))
      → Leaves makes ends from before.source.to_come before.sink.taken after.sink.taken (unread f k)
  left_unread now at k lines_fault.Memory a long ending = stopped makes ends from before.source.to_come before.sink.taken now at after.sink.taken a
  left_unread now at k lines_fault.Read a long ending = stopped makes ends from before.source.to_come before.sink.taken now at after.sink.taken a
  left_unread now at k lines_fault.TooLong a long ending =
      let cut = cut_too_long now (long refl) in
      ended_at makes ends from before.source.to_come before.sink.taken now at after.sink.taken cut.0 cut.1 (NoObject k) a cut.3 (ending cut.0 cut.2)

  pub came_unread : (now : Option (List ℕ)) (at : A) (k : ℕ) (f : LinesFault)
      → Played makes ends from before.source.to_come now at before.sink.taken after.sink.taken → (f ≡ lines_fault.TooLong → IsTooLong now)
      → ((line : List ℕ) → line_limit < length line → ends at line (NoObject k))
      → (f ≡ lines_fault.Read → after.source.failures ≡ before.source.failures + 1)
      → (f ≢ lines_fault.Read → after.source.failures ≡ before.source.failures) → after.sink.failures ≡ before.sink.failures
      → IsNotReadBehind before.source.progress after.source.progress → CameTo makes ends from before after (Err (unread f k))
  came_unread now at k f a long ending read not_read writes end =
      came_off (unread f k) (left_unread now at k f a long ending)
      (told_unread before after f k (Err (unread f k)) refl read not_read writes end)

  -- the line that was taken makes nothing
  left_refused : (now now' : Option (List ℕ)) (at : A) (line : List ℕ) (f : PlayFault)
      → Played makes ends from before.source.to_come now at before.sink.taken after.sink.taken → TakesLine now now' line → Tells (ends at line) f
      → Leaves makes ends from before.source.to_come before.sink.taken after.sink.taken f
  left_refused now now' at line (play_fault.Input n) a takes tells =
      refused makes ends from before.source.to_come before.sink.taken now now' at after.sink.taken line (NoInputs n) a takes tells
  left_refused now now' at line (play_fault.NotJson n) a takes tells =
      refused makes ends from before.source.to_come before.sink.taken now now' at after.sink.taken line (NoObject n) a takes tells
  left_refused now now' at line play_fault.Memory a takes tells =
      stopped makes ends from before.source.to_come before.sink.taken now at after.sink.taken a
  left_refused now now' at line play_fault.Read a takes tells = absurd tells
  left_refused now now' at line play_fault.Write a takes tells = absurd tells

  pub came_refused : (now now' : Option (List ℕ)) (at : A) (line : List ℕ) (f : PlayFault)
      → Played makes ends from before.source.to_come now at before.sink.taken after.sink.taken → TakesLine now now' line → Tells (ends at line) f
      → after.source.failures ≡ before.source.failures → after.sink.failures ≡ before.sink.failures
      → IsNotReadBehind before.source.progress after.source.progress → CameTo makes ends from before after (Err f)
  came_refused now now' at line f a takes tells reads writes end =
      came_off f (left_refused now now' at line f a takes tells)
      (told_line before after f (Err f) refl (tells_no_read (ends at line) f tells) (tells_no_write (ends at line) f tells) reads writes end)

-- memory was refused before the first line
pub none_came : {A : Type 0} (makes : Making A) (ends : Ending A) (from : A) (at : Seen) → CameTo makes ends from at at (Err play_fault.Memory)
none_came makes ends from at =
    let start = at.source.to_come in
    let none = none_played makes ends from start at.sink.taken [] refl in
    came_short makes ends from at at (stopped makes ends from start at.sink.taken (ahead [] start) from at.sink.taken none) refl refl
    (open_not_behind at.source.progress at.source.progress (λ e. e))

pub came_never : {A : Type 0} (makes : Making A) (ends : Ending A) (from : A) (at : Seen) (f : PlayFault) (result : Result A PlayFault) → result ≡ Err f
    → f ≡ play_fault.Memory → CameTo makes ends from at at result
came_never makes ends from at f result is memory = rw (is, memory) (none_came makes ends from at)
