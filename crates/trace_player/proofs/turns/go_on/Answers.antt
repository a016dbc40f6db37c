use mathlib.Core.Bool.{true≢false}
use Rattle.std.proofs.lemmas.Grind.{common_steps}
use Rattle.std.proofs.Common.{◌≡◌, ◌∙◌, ◌+◌, ◌++◌, Err, Some, ap, sym, subst, refl, rules, arith}
use Rattle.std.specs.Io.KnownBytes.{IsAtEnd, append_known}
use Rattle.std.proofs.lemmas.Result.{err_from_is_err_and}
use Rattle.sc_values.specs.Streams.{GrowsInto}
use Rattle.trace_lines.specs.Lines.{ahead, TakesLine, IsTooLong}
use Rattle.trace_lines.specs.declared.lines.LinesFault.TheVariants as lines_fault
use Rattle.trace_lines.specs.declared.lines.LineEnd.TheVariants as line_end
use Rattle.trace_player.specs.Channels.{SourceSeen, SinkSeen, Gains}
use Rattle.trace_player.specs.Trace.{Shows, next_number}
use Rattle.trace_player.specs.declared.player.PlayFault.TheVariants as play_fault
use Rattle.trace_player.specs.Inside.Faults.{Tells}
use Rattle.trace_player.specs.Inside.HeldBack.{with_held}
use Rattle.trace_player.specs.Inside.Resting.{rest_behind}
use Rattle.trace_player.proofs.Coming.{LeftTo, came_well, came_off, came_short, came_cut, feed_of}
use Rattle.trace_player.proofs.Failures.{open_not_behind, told_well, told_unread, told_line, reads_same, writes_same, same_end}
use Rattle.trace_player.proofs.HeldBack.{holds_on, lets_go}
use Rattle.trace_player.proofs.HeldLines.{none_held, holds_none, holds_more, feedless, one_stop}
use Rattle.trace_player.proofs.Playing.{all_played, stopped, stopped_reading, stopped_reacting, one_fault}
use Rattle.trace_player.proofs.Playing.{unread_read, unread_no_write, tells_no_read, tells_no_write}
use Rattle.trace_player.proofs.Resting.{at_first, rests_first}
use Rattle.trace_player.proofs.Turning.{PlayedTo, played_on, turn, one_turn, cut_turn}
use Rattle.trace_player.proofs.turns.go_on.Goals as goal

pub loop-turn-init : goal.loop-turn-init
loop-turn-init g c =
    let i = g.J.OfImage.image in
    let last = c.args.session.now.last in
    let at = g.P.Channels.seen c.args.channels.now in
    record {
      played = none_held i at c.args.buffers.now.lines c.args.held.now.items (rest_behind i last) c.requires.lines (at_first i last c.requires.first)
          c.requires.held;
      holds = holds_none i at c.args.held.now.items c.requires.held;
      at_hand = λ _. c.requires.held;
      reader = c.requires.reader;
      rests = rests_first i last c.requires.first;
      none_read = refl;
      none_write = refl;
      not_behind = open_not_behind at.source.progress at.source.progress (λ e. e);
      going = λ _ e. e;
      ended = λ e. absurd (true≢false (sym e));
      same = refl;
    }

pub returns-then-is_ended-clause-came : goal.returns-then-is_ended-clause-came
returns-then-is_ended-clause-came g c =
    let l = c.loop-turn in
    let i = g.J.OfImage.image in
    let rest = rest_behind i l.session.last in
    let before = g.P.Channels.seen c.args.channels.now in
    let at = g.P.Channels.seen l.channels in
    let held = l.held.items in
    let now = ahead l.buffers.lines at.source.to_come in (
      came_well i before (with_held at held) l.number
          (all_played i before.source.to_come now l.number rest before.sink.taken (append_known at.sink.taken held) before.rows at.rows
          l.invariant.played (l.invariant.ended c.if-is_ended.true))
          (told_well before (with_held at held) l.number l.invariant.none_read l.invariant.none_write l.invariant.not_behind),
      l.invariant.holds,
    )

pub returns-in-Ok-None-clause-came : goal.returns-in-Ok-None-clause-came
returns-in-Ok-None-clause-came g c =
    let l = c.loop-turn in
    let i = g.J.OfImage.image in
    let rest = rest_behind i l.session.last in
    let before = g.P.Channels.seen c.args.channels.now in
    let at = g.P.Channels.seen l.channels in
    let next = g.P.Channels.seen c.next.new.self in
    let held = l.held.items in
    let now = ahead l.buffers.lines at.source.to_come in
    let ended : IsAtEnd now = rw c.in-Ok-None.field-0-is at c.in-Ok-None.ensures.end in
    let played = played_on i before at next held now l.number rest c.next.ensures.sink c.next.ensures.rows l.invariant.played in
    let reads : next.source.failures ≡ at.source.failures = search rules in (
      came_well i before (with_held next held) l.number
          (all_played i before.source.to_come now l.number rest before.sink.taken (append_known next.sink.taken held) before.rows next.rows played ended)
          (told_well before (with_held next held) l.number (reads ∙ l.invariant.none_read)
          (writes_same at.sink next.sink c.next.ensures.sink ∙ l.invariant.none_write)
          (λ e. c.next.ensures.not_behind (l.invariant.going c.if-is_ended.false e))),
      holds_on i before at next held c.next.ensures.sink c.next.ensures.rows l.invariant.holds,
    )

pub returns-in-Err-clause-came : goal.returns-in-Err-clause-came
returns-in-Err-clause-came g c =
    let l = c.loop-turn in
    let i = g.J.OfImage.image in
    let rest = rest_behind i l.session.last in
    let before = g.P.Channels.seen c.args.channels.now in
    let at = g.P.Channels.seen l.channels in
    let next = g.P.Channels.seen c.next.new.self in
    let held = l.held.items in
    let now = ahead l.buffers.lines at.source.to_come in
    let long : c.in-Err.fault ≡ lines_fault.TooLong → IsTooLong now = λ e. c.in-Err.ensures.too_long (ap Err e) in
    let played = played_on i before at next held now l.number rest c.next.ensures.sink c.next.ensures.rows l.invariant.played in
    let left : LeftTo i before (with_held next held) c.unread_line.result =
    rw (c.unread_line.ensures, c.next_number-next.ensures)
    (stopped_reading i before.source.to_come now l.number rest before.sink.taken (append_known next.sink.taken held) before.rows next.rows
    c.in-Err.fault played long) in (
      came_off i before (with_held next held) c.unread_line.result left
          (told_unread before (with_held next held) c.in-Err.fault c.next_number-next.result (Err c.unread_line.result) (ap Err c.unread_line.ensures)
          (λ e. c.in-Err.ensures.failed (ap Err e) ∙ ap (λ n. n + 1) l.invariant.none_read)
          (λ n. c.in-Err.ensures.none_failed (λ e. n (one_fault _ c.in-Err.fault lines_fault.Read refl e)) ∙ l.invariant.none_read)
          (writes_same at.sink next.sink c.next.ensures.sink ∙ l.invariant.none_write)
          (λ e. c.next.ensures.not_behind (l.invariant.going c.if-is_ended.false e))),
      holds_on i before at next held c.next.ensures.sink c.next.ensures.rows l.invariant.holds,
    )

pub returns-in_err-react-clause-came : goal.returns-in_err-react-clause-came
returns-in_err-react-clause-came g c =
    let l = c.loop-turn in
    let i = g.J.OfImage.image in
    let rest = rest_behind i l.session.last in
    let before = g.P.Channels.seen c.args.channels.now in
    let at = g.P.Channels.seen l.channels in
    let next = g.P.Channels.seen c.next.new.self in
    let held = l.held.items in
    let now = ahead l.buffers.lines at.source.to_come in
    let now' = ahead c.next.new.lines next.source.to_come in
    let fault = c.in_err-react.field-0.0 in
    let line = c.next.new.line.items in
    let tells : Tells i.program (next_number l.number) line fault =
    subst (λ k. Tells i.program k line fault) c.next_number-next.ensures
    (subst (λ bytes. Tells i.program c.next_number-next.result bytes fault) c.deref.ensures.value c.in_err-react.ensures.fault) in
    let takes : TakesLine now now' line = search rules in
    let played = played_on i before at next held now l.number rest c.next.ensures.sink c.next.ensures.rows l.invariant.played in
    let reads : next.source.failures ≡ at.source.failures = search rules in
    let exit = err_from_is_err_and c.from_residual.result c.from_residual.ensures.1 in
    let left : LeftTo i before (with_held next held) fault =
    stopped_reacting i before.source.to_come now now' l.number rest before.sink.taken (append_known next.sink.taken held) before.rows next.rows line
    fault played takes tells in (
      rw (exit.1, exit.2)
          (came_off i before (with_held next held) fault left
          (told_line before (with_held next held) fault (Err fault) refl (tells_no_read i.program (next_number l.number) line fault tells)
          (tells_no_write i.program (next_number l.number) line fault tells)
          (reads ∙ l.invariant.none_read)
          (writes_same at.sink next.sink c.next.ensures.sink ∙ l.invariant.none_write)
          (λ e. c.next.ensures.not_behind (l.invariant.going c.if-is_ended.false e)))),
      holds_on i before at next held c.next.ensures.sink c.next.ensures.rows l.invariant.holds,
    )

pub returns-in_err-publish-clause-came : goal.returns-in_err-publish-clause-came
returns-in_err-publish-clause-came g c =
    let l = c.loop-turn in
    let i = g.J.OfImage.image in
    let rest = rest_behind i l.session.last in
    let before = g.P.Channels.seen c.args.channels.now in
    let at = g.P.Channels.seen l.channels in
    let next = g.P.Channels.seen c.next.new.self in
    let told = g.P.Channels.seen c.publish.new.self in
    let held = l.held.items in
    let now = ahead l.buffers.lines at.source.to_come in
    let none : told.rows ≡ next.rows = search rules in
    let reads : next.source.failures ≡ at.source.failures = search rules in
    let sink : told.sink ≡ at.sink = c.publish.ensures.sink ∙ c.next.ensures.sink in
    let played = played_on i before at told held now l.number rest sink (none ∙ c.next.ensures.rows) l.invariant.played in
    let exit = err_from_is_err_and c.from_residual-in_err-publish.result c.from_residual-in_err-publish.ensures.1 in (
      rw (exit.1, exit.2)
          (came_short i before (with_held told held)
          (stopped i before.source.to_come now l.number rest before.sink.taken (append_known told.sink.taken held) before.rows told.rows played)
          (reads_same next.source told.source c.publish.ensures.source ∙ reads ∙ l.invariant.none_read)
          (writes_same at.sink told.sink sink ∙ l.invariant.none_write)
          (same_end before.source next.source told.source c.publish.ensures.source (λ e. c.next.ensures.not_behind (l.invariant.going c.if-is_ended.false e)))),
      holds_on i before at told held sink (none ∙ c.next.ensures.rows) l.invariant.holds,
    )

pub returns-then-not-write_or_hold-clause-came : goal.returns-then-not-write_or_hold-clause-came
returns-then-not-write_or_hold-clause-came g c =
    let l = c.loop-turn in
    let i = g.J.OfImage.image in
    let rest = rest_behind i l.session.last in
    let before = g.P.Channels.seen c.args.channels.now in
    let at = g.P.Channels.seen l.channels in
    let next = g.P.Channels.seen c.next.new.self in
    let told = g.P.Channels.seen c.publish.new.self in
    let after = g.P.Channels.seen c.write_or_hold.new.channels in
    let held = l.held.items in
    let now = ahead l.buffers.lines at.source.to_come in
    let now' = ahead c.next.new.lines next.source.to_come in
    let held' = c.write_or_hold.new.held.items in
    let line = c.next.new.line.items in
    let written = c.react.new.shown.items in
    let given : c.as_slice.result.now ≡ written = search rules in
    let d = rest_behind i c.react.new.self.last in
    let n = c.next_number-next.result in
    let shows : Shows i n rest line d written =
    subst (λ bytes. Shows i n rest bytes d written) c.deref.ensures.value c.in_ok-react.ensures.shows in
    let takes : TakesLine now now' line = search rules in
    let row : Gains next.rows told.rows c.react.new.self.verified.now.program.variables d.variables = search rules in
    let made = turn i c.react.new.self.verified.now at next told now now' l.number n rest d line written takes c.next_number-next.ensures shows
    c.react.new.self.of_image c.next.ensures.rows c.next.ensures.sink c.publish.ensures.sink row in
    let reads : next.source.failures ≡ at.source.failures = search rules in
    let source : after.source ≡ next.source = c.write_or_hold.ensures.source ∙ c.publish.ensures.source in
    let sink : told.sink ≡ at.sink = c.publish.ensures.sink ∙ c.next.ensures.sink in
    let part = c.write_or_hold.ensures.part c.if-not-write_or_hold.true in
    let sent = held ++ c.as_slice.result.now in
    let some : GrowsInto at.sink.taken after.sink.taken sent =
    subst (λ (s : SinkSeen). GrowsInto s.taken after.sink.taken sent) sink part.taken in (
      came_cut i before (with_held after held')
          (cut_turn i before at told after held held' c.as_slice.result.now now now' l.number rest d line written made l.invariant.played
          l.invariant.holds given part (c.write_or_hold.ensures.none c.if-not-write_or_hold.true) c.write_or_hold.ensures.rows
          (λ none. c.publish.ensures.unwatched (c.next.ensures.rows ∙ none)))
          (reads_same next.source after.source source ∙ reads ∙ l.invariant.none_read)
          (part.failures ∙ ap (λ n. n + 1) (writes_same at.sink told.sink sink ∙ l.invariant.none_write))
          (same_end before.source next.source after.source source (λ e. c.next.ensures.not_behind (l.invariant.going c.if-is_ended.false e))),
      lets_go i before at after sent held' l.invariant.holds.grows some (c.write_or_hold.ensures.none c.if-not-write_or_hold.true),
    )

pub loop-turn-preserved : goal.loop-turn-preserved
loop-turn-preserved g c =
    let l = c.loop-turn in
    let i = g.J.OfImage.image in
    let rest = rest_behind i l.session.last in
    let before = g.P.Channels.seen c.args.channels.now in
    let at = g.P.Channels.seen l.channels in
    let next = g.P.Channels.seen c.next.new.self in
    let told = g.P.Channels.seen c.publish.new.self in
    let after = g.P.Channels.seen c.write_or_hold.new.channels in
    let held = l.held.items in
    let now = ahead l.buffers.lines at.source.to_come in
    let now' = ahead c.next.new.lines next.source.to_come in
    let held' = c.write_or_hold.new.held.items in
    let line = c.next.new.line.items in
    let written = c.react.new.shown.items in
    let given : c.as_slice.result.now ≡ written = search rules in
    let d = rest_behind i c.react.new.self.last in
    let n = c.next_number-next.result in
    let shows : Shows i n rest line d written =
    subst (λ bytes. Shows i n rest bytes d written) c.deref.ensures.value c.in_ok-react.ensures.shows in
    let takes : TakesLine now now' line = search rules in
    let row : Gains next.rows told.rows c.react.new.self.verified.now.program.variables d.variables = search rules in
    let made = turn i c.react.new.self.verified.now at next told now now' l.number n rest d line written takes c.next_number-next.ensures shows
    c.react.new.self.of_image c.next.ensures.rows c.next.ensures.sink c.publish.ensures.sink row in
    let all = c.write_or_hold.ensures.whole c.if-not-write_or_hold.false in
    let played : PlayedTo i before (with_held after held') now' n d =
    one_turn i before at told after held held' c.as_slice.result.now now now' l.number n rest d line written made c.next_number-next.ensures
    l.invariant.played given all c.write_or_hold.ensures.rows in
    let reads : next.source.failures ≡ at.source.failures = search rules in
    let source : after.source ≡ next.source = c.write_or_hold.ensures.source ∙ c.publish.ensures.source in
    let sink : told.sink ≡ at.sink = c.publish.ensures.sink ∙ c.next.ensures.sink in
    let ahead_same : ahead c.next.new.lines after.source.to_come ≡ now' = ap (λ (s : SourceSeen). ahead c.next.new.lines s.to_come) source in
    record {
      played = subst (λ ys. PlayedTo i before (with_held after held') ys n d) (sym ahead_same) played;
      holds =
          holds_more i before at told after held held' now' l.number n d played c.next_number-next.ensures l.invariant.holds sink
          (c.write_or_hold.ensures.grows c.if-not-write_or_hold.false) c.write_or_hold.ensures.unwatched;
      at_hand = λ none. c.write_or_hold.ensures.settled (c.has_line.ensures ∙ none);
      reader = c.react.ensures.reader ∙ l.invariant.reader;
      rests = c.in_ok-react.ensures.rests;
      none_read = reads_same next.source after.source source ∙ reads ∙ l.invariant.none_read;
      none_write = all.failures ∙ writes_same at.sink told.sink sink ∙ l.invariant.none_write;
      not_behind = same_end before.source next.source after.source source (λ e. c.next.ensures.not_behind (l.invariant.going c.if-is_ended.false e));
      going = λ more e.
          let feed : c.in-Ok-Some.end ≡ line_end.Feed =
          feed_of c.in-Ok-Some.end (λ i. let yes = c.is_last-is_ended.ensures.1 i in let no = more in absurd (true≢false (sym yes ∙ no))) in
          ap (λ (s : SourceSeen). s.progress) source
          ∙ c.in-Ok-Some.ensures.going (c.in-Ok-Some.field-0-is ∙ ap Some feed) (l.invariant.going c.if-is_ended.false e);
      ended = λ e.
          let last : c.in-Ok-Some.end ≡ line_end.Input = c.is_last-is_ended.ensures.0 e in
          subst IsAtEnd (sym ahead_same) (c.in-Ok-Some.ensures.last (c.in-Ok-Some.field-0-is ∙ ap Some last));
      same = c.write_or_hold.ensures.same ∙ c.publish.ensures.same ∙ c.next.ensures.same ∙ l.invariant.same;
    }

pub returns-clause-came : goal.returns-clause-came
returns-clause-came g c =
    let l = c.loop-turn in
    let i = g.J.OfImage.image in
    let rest = rest_behind i l.session.last in
    let before = g.P.Channels.seen c.args.channels.now in
    let at = g.P.Channels.seen l.channels in
    let held = l.held.items in (
      came_short i before (with_held at held)
          (stopped i before.source.to_come (ahead l.buffers.lines at.source.to_come) l.number rest before.sink.taken
          (append_known at.sink.taken held) before.rows at.rows l.invariant.played)
          l.invariant.none_read l.invariant.none_write l.invariant.not_behind,
      l.invariant.holds,
    )

pub returns-in-Err-clause-read : goal.returns-in-Err-clause-read
returns-in-Err-clause-read g c =
    let l = c.loop-turn in
    λ e.
    let is : c.unread_line.result ≡ play_fault.Read = one_stop _ c.unread_line.result play_fault.Read refl e in
    let read = unread_read c.in-Err.fault _ (sym c.unread_line.ensures ∙ is) in
    l.invariant.at_hand (feedless _ (λ feed. c.in-Err.ensures.at_hand feed (ap Err read)))

pub returns-in-Err-clause-write : goal.returns-in-Err-clause-write
returns-in-Err-clause-write g c = λ e.
    let is : c.unread_line.result ≡ play_fault.Write = one_stop _ c.unread_line.result play_fault.Write refl e in
    absurd (unread_no_write c.in-Err.fault _ (sym c.unread_line.ensures ∙ is))

pub returns-in_err-react-clause-read : goal.returns-in_err-react-clause-read
returns-in_err-react-clause-read g c =
    let i = g.J.OfImage.image in
    let fault = c.in_err-react.field-0.0 in
    let exit = err_from_is_err_and c.from_residual.result c.from_residual.ensures.1 in
    let here = exit.1 in
    let same = exit.2 in
    λ e.
    let is : fault ≡ play_fault.Read = sym same ∙ one_stop _ _ play_fault.Read here e in
    absurd (tells_no_read i.program _ _ fault c.in_err-react.ensures.fault is)

pub returns-in_err-react-clause-write : goal.returns-in_err-react-clause-write
returns-in_err-react-clause-write g c =
    let i = g.J.OfImage.image in
    let fault = c.in_err-react.field-0.0 in
    let exit = err_from_is_err_and c.from_residual.result c.from_residual.ensures.1 in
    let here = exit.1 in
    let same = exit.2 in
    λ e.
    let is : fault ≡ play_fault.Write = sym same ∙ one_stop _ _ play_fault.Write here e in
    absurd (tells_no_write i.program _ _ fault c.in_err-react.ensures.fault is)

pub overflow_step-turn : goal.overflow_step-turn
overflow_step-turn g c = grind (arith, common_steps) steps 2000000

pub react-requires-clause-short : goal.react-requires-clause-short
react-requires-clause-short g c = grind (arith, common_steps) steps 2000000

pub returns-then-not-write_or_hold-clause-same : goal.returns-then-not-write_or_hold-clause-same
returns-then-not-write_or_hold-clause-same g c = grind (arith, common_steps) steps 2000000

pub returns-then-not-write_or_hold-clause-write : goal.returns-then-not-write_or_hold-clause-write
returns-then-not-write_or_hold-clause-write g c = grind (arith, common_steps) steps 2000000
