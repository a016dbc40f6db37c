use mathlib.Core.Bool.{true≢false}
use Rattle.std.proofs.lemmas.Grind.{common_steps}
use Rattle.std.proofs.Common.{◌≡◌, ◌∙◌, ◌+◌, Err, ap, sym, subst, refl, rules, Some, arith}
use Rattle.std.specs.Io.KnownBytes.{IsAtEnd}
use Rattle.std.proofs.lemmas.Result.{err_from_is_err_and}
use Rattle.trace_lines.specs.Lines.{ahead, TakesLine, IsTooLong}
use Rattle.trace_lines.specs.declared.lines.LinesFault.TheVariants as lines_fault
use Rattle.trace_lines.specs.declared.lines.LineEnd.TheVariants as line_end
use Rattle.trace_player.specs.Channels.{SourceSeen, SinkSeen, TakesAll, TakesPart}
use Rattle.trace_player.proofs.Coming.{feed_of}
use Rattle.trace_player.proofs.Failures.{open_not_behind, told_well, reads_same, writes_same, same_end}
use Rattle.trace_player.proofs.Playing.{one_fault}
use Rattle.trace_player.specs.Played.{Tells}
use Rattle.trace_player.proofs.LineComing.{came_well, came_short, came_cut, came_unread, came_refused}
use Rattle.trace_player.proofs.Played.{Played, none_played, one_played, all_played, stopped, stopped_writing}
use Rattle.trace_player.proofs.line_players.turns.go_on.Goals as goal

pub loop-turn-init : goal.loop-turn-init
loop-turn-init g c =
    let at = g.P.Channels.seen c.args.channels.now in
    record {
      played = none_played g.L.LinePlayer.makes g.L.LinePlayer.ends c.args.player at.source.to_come at.sink.taken c.args.lines.now c.requires.lines;
      ready = c.requires.ready;
      none_read = refl;
      none_write = refl;
      going = λ e. e;
      same = refl;
    }

pub returns-in-Ok-None-clause-came : goal.returns-in-Ok-None-clause-came
returns-in-Ok-None-clause-came g c =
    let l = c.loop-turn in
    let makes = g.L.LinePlayer.makes in
    let ends = g.L.LinePlayer.ends in
    let from = c.args.player in
    let before = g.P.Channels.seen c.args.channels.now in
    let at = g.P.Channels.seen l.channels in
    let next = g.P.Channels.seen c.next.new.self in
    let start = before.source.to_come in
    let old = before.sink.taken in
    let now = ahead l.lines at.source.to_come in
    let ended : IsAtEnd now = rw c.in-Ok-None.field-0-is at c.in-Ok-None.ensures.end in
    let played : Played makes ends from start now l.player old next.sink.taken =
    subst (λ (s : SinkSeen). Played makes ends from start now l.player old s.taken) (sym c.next.ensures.sink) l.invariant.played in
    let reads : next.source.failures ≡ at.source.failures = search rules in
    came_well makes ends from before next l.player
    (all_played makes ends from start old now l.player next.sink.taken played ended)
    (told_well before next l.player (reads ∙ l.invariant.none_read) (writes_same at.sink next.sink c.next.ensures.sink ∙ l.invariant.none_write)
    (λ e. c.next.ensures.not_behind (l.invariant.going e)))

pub returns-in-Err-clause-came : goal.returns-in-Err-clause-came
returns-in-Err-clause-came g c =
    let l = c.loop-turn in
    let makes = g.L.LinePlayer.makes in
    let ends = g.L.LinePlayer.ends in
    let from = c.args.player in
    let before = g.P.Channels.seen c.args.channels.now in
    let at = g.P.Channels.seen l.channels in
    let next = g.P.Channels.seen c.next.new.self in
    let start = before.source.to_come in
    let old = before.sink.taken in
    let now = ahead l.lines at.source.to_come in
    let long : c.in-Err.fault ≡ lines_fault.TooLong → IsTooLong now = λ e. c.in-Err.ensures.too_long (ap Err e) in
    let played : Played makes ends from start now l.player old next.sink.taken =
    subst (λ (s : SinkSeen). Played makes ends from start now l.player old s.taken) (sym c.next.ensures.sink) l.invariant.played in
    rw (c.unread_line.ensures, c.number.ensures)
    (came_unread makes ends from before next now l.player (g.L.LinePlayer.number l.player) c.in-Err.fault played long
    (g.met.L.LinePlayer.too_long l.player)
    (λ e. c.in-Err.ensures.failed (ap Err e) ∙ ap (λ n. n + 1) l.invariant.none_read)
    (λ n. c.in-Err.ensures.none_failed (λ e. n (one_fault _ c.in-Err.fault lines_fault.Read refl e)) ∙ l.invariant.none_read)
    (writes_same at.sink next.sink c.next.ensures.sink ∙ l.invariant.none_write)
    (λ e. c.next.ensures.not_behind (l.invariant.going e)))

pub returns-in_err-player-clause-came : goal.returns-in_err-player-clause-came
returns-in_err-player-clause-came g c =
    let l = c.loop-turn in
    let makes = g.L.LinePlayer.makes in
    let ends = g.L.LinePlayer.ends in
    let from = c.args.player in
    let before = g.P.Channels.seen c.args.channels.now in
    let at = g.P.Channels.seen l.channels in
    let next = g.P.Channels.seen c.next.new.self in
    let start = before.source.to_come in
    let old = before.sink.taken in
    let now = ahead l.lines at.source.to_come in
    let now' = ahead c.next.new.lines next.source.to_come in
    let line = c.next.new.line.items in
    let takes : TakesLine now now' line = search rules in
    let fault = c.in_err-player.field-0.0 in
    let given : c.as_slice.result.now ≡ line = search rules in
    let tells : Tells (ends l.player line) fault = subst (λ bytes. Tells (ends l.player bytes) fault) given c.in_err-player.ensures.fault in
    let played : Played makes ends from start now l.player old next.sink.taken =
    subst (λ (s : SinkSeen). Played makes ends from start now l.player old s.taken) (sym c.next.ensures.sink) l.invariant.played in
    let reads : next.source.failures ≡ at.source.failures = search rules in
    let exit = err_from_is_err_and c.from_residual.result c.from_residual.ensures.1 in
    rw (exit.1, exit.2)
    (came_refused makes ends from before next now now' l.player line fault played takes tells
    (reads ∙ l.invariant.none_read)
    (writes_same at.sink next.sink c.next.ensures.sink ∙ l.invariant.none_write)
    (λ e. c.next.ensures.not_behind (l.invariant.going e)))

pub returns-then-not-write-clause-came : goal.returns-then-not-write-clause-came
returns-then-not-write-clause-came g c =
    let l = c.loop-turn in
    let makes = g.L.LinePlayer.makes in
    let ends = g.L.LinePlayer.ends in
    let from = c.args.player in
    let before = g.P.Channels.seen c.args.channels.now in
    let at = g.P.Channels.seen l.channels in
    let next = g.P.Channels.seen c.next.new.self in
    let start = before.source.to_come in
    let old = before.sink.taken in
    let now = ahead l.lines at.source.to_come in
    let now' = ahead c.next.new.lines next.source.to_come in
    let line = c.next.new.line.items in
    let takes : TakesLine now now' line = search rules in
    let after = g.P.Channels.seen c.write.new.self in
    let written = c.play.new.shown.items in
    let read : c.as_slice.result.now ≡ line = search rules in
    let given : c.as_slice-in-loop-turn.result.now ≡ written = search rules in
    let to = c.in_ok-player.player in
    let made : makes l.player line to written = subst (λ bytes. makes l.player bytes to written) read c.in_ok-player.ensures.makes in
    let played : Played makes ends from start now l.player old next.sink.taken =
    subst (λ (s : SinkSeen). Played makes ends from start now l.player old s.taken) (sym c.next.ensures.sink) l.invariant.played in
    let reads : next.source.failures ≡ at.source.failures = search rules in
    let part : TakesPart next.sink after.sink written = subst (TakesPart next.sink after.sink) given (c.write.ensures.part c.if-not-write.true) in
    came_cut makes ends from before after
    (stopped_writing makes ends from start old now now' l.player to next.sink.taken after.sink.taken line written played takes made part.taken)
    (reads_same next.source after.source c.write.ensures.source ∙ reads ∙ l.invariant.none_read)
    (part.failures ∙ ap (λ n. n + 1) (writes_same at.sink next.sink c.next.ensures.sink ∙ l.invariant.none_write))
    (same_end before.source next.source after.source c.write.ensures.source (λ e. c.next.ensures.not_behind (l.invariant.going e)))

pub returns-then-is_last-clause-came : goal.returns-then-is_last-clause-came
returns-then-is_last-clause-came g c =
    let l = c.loop-turn in
    let makes = g.L.LinePlayer.makes in
    let ends = g.L.LinePlayer.ends in
    let from = c.args.player in
    let before = g.P.Channels.seen c.args.channels.now in
    let at = g.P.Channels.seen l.channels in
    let next = g.P.Channels.seen c.next.new.self in
    let start = before.source.to_come in
    let old = before.sink.taken in
    let now = ahead l.lines at.source.to_come in
    let now' = ahead c.next.new.lines next.source.to_come in
    let line = c.next.new.line.items in
    let takes : TakesLine now now' line = search rules in
    let after = g.P.Channels.seen c.write.new.self in
    let written = c.play.new.shown.items in
    let read : c.as_slice.result.now ≡ line = search rules in
    let given : c.as_slice-in-loop-turn.result.now ≡ written = search rules in
    let to = c.in_ok-player.player in
    let made : makes l.player line to written = subst (λ bytes. makes l.player bytes to written) read c.in_ok-player.ensures.makes in
    let played : Played makes ends from start now l.player old next.sink.taken =
    subst (λ (s : SinkSeen). Played makes ends from start now l.player old s.taken) (sym c.next.ensures.sink) l.invariant.played in
    let all : TakesAll next.sink after.sink written = subst (TakesAll next.sink after.sink) given (c.write.ensures.whole c.if-not-write.false) in
    let played : Played makes ends from start now' to old after.sink.taken =
    one_played makes ends from start old now now' l.player to next.sink.taken after.sink.taken line written played takes made all.taken in
    let reads : next.source.failures ≡ at.source.failures = search rules in
    let last : c.in-Ok-Some.end ≡ line_end.Input = c.is_last.ensures.0 c.if-is_last.true in
    let ended : IsAtEnd now' = c.in-Ok-Some.ensures.last (c.in-Ok-Some.field-0-is ∙ ap Some last) in
    came_well makes ends from before after to
    (all_played makes ends from start old now' to after.sink.taken played ended)
    (told_well before after to
    (reads_same next.source after.source c.write.ensures.source ∙ reads ∙ l.invariant.none_read)
    (all.failures ∙ writes_same at.sink next.sink c.next.ensures.sink ∙ l.invariant.none_write)
    (same_end before.source next.source after.source c.write.ensures.source (λ e. c.next.ensures.not_behind (l.invariant.going e))))

pub loop-turn-preserved : goal.loop-turn-preserved
loop-turn-preserved g c =
    let l = c.loop-turn in
    let makes = g.L.LinePlayer.makes in
    let ends = g.L.LinePlayer.ends in
    let from = c.args.player in
    let before = g.P.Channels.seen c.args.channels.now in
    let at = g.P.Channels.seen l.channels in
    let next = g.P.Channels.seen c.next.new.self in
    let start = before.source.to_come in
    let old = before.sink.taken in
    let now = ahead l.lines at.source.to_come in
    let now' = ahead c.next.new.lines next.source.to_come in
    let line = c.next.new.line.items in
    let takes : TakesLine now now' line = search rules in
    let after = g.P.Channels.seen c.write.new.self in
    let written = c.play.new.shown.items in
    let read : c.as_slice.result.now ≡ line = search rules in
    let given : c.as_slice-in-loop-turn.result.now ≡ written = search rules in
    let to = c.in_ok-player.player in
    let made : makes l.player line to written = subst (λ bytes. makes l.player bytes to written) read c.in_ok-player.ensures.makes in
    let played : Played makes ends from start now l.player old next.sink.taken =
    subst (λ (s : SinkSeen). Played makes ends from start now l.player old s.taken) (sym c.next.ensures.sink) l.invariant.played in
    let all : TakesAll next.sink after.sink written = subst (TakesAll next.sink after.sink) given (c.write.ensures.whole c.if-not-write.false) in
    let played : Played makes ends from start now' to old after.sink.taken =
    one_played makes ends from start old now now' l.player to next.sink.taken after.sink.taken line written played takes made all.taken in
    let reads : next.source.failures ≡ at.source.failures = search rules in
    let source = c.write.ensures.source in
    let ahead_same : ahead c.next.new.lines after.source.to_come ≡ now' = ap (λ (s : SourceSeen). ahead c.next.new.lines s.to_come) source in
    let feed : c.in-Ok-Some.end ≡ line_end.Feed =
    feed_of c.in-Ok-Some.end (λ i. let yes = c.is_last.ensures.1 i in let no = c.if-is_last.false in absurd (true≢false (sym yes ∙ no))) in
    record {
      played = subst (λ ys. Played makes ends from start ys to old after.sink.taken) (sym ahead_same) played;
      ready = c.in_ok-player.ensures.ready;
      none_read = reads_same next.source after.source source ∙ reads ∙ l.invariant.none_read;
      none_write = all.failures ∙ writes_same at.sink next.sink c.next.ensures.sink ∙ l.invariant.none_write;
      going = λ e. ap (λ (s : SourceSeen). s.progress) source ∙ c.in-Ok-Some.ensures.going (c.in-Ok-Some.field-0-is ∙ ap Some feed) (l.invariant.going e);
      same = c.write.ensures.same ∙ c.next.ensures.same ∙ l.invariant.same;
    }

pub returns-clause-came : goal.returns-clause-came
returns-clause-came g c =
    let l = c.loop-turn in
    let makes = g.L.LinePlayer.makes in
    let ends = g.L.LinePlayer.ends in
    let from = c.args.player in
    let before = g.P.Channels.seen c.args.channels.now in
    let at = g.P.Channels.seen l.channels in
    came_short makes ends from before at
    (stopped makes ends from before.source.to_come before.sink.taken (ahead l.lines at.source.to_come) l.player at.sink.taken l.invariant.played)
    l.invariant.none_read l.invariant.none_write (open_not_behind before.source.progress at.source.progress l.invariant.going)

pub overflow_step-turn : goal.overflow_step-turn
overflow_step-turn g c = grind (arith, common_steps) steps 2000000
