use Rattle.std.proofs.Common.{◌≡◌, ◌-◌, [], true, false}
use Rattle.std.specs.Io.KnownBytes.{IsAtEnd}
use Rattle.sc_values.specs.Streams.{StaysOpen, IsNotReadBehind}
use Rattle.trace_lines.specs.Lines.{ahead, has_feed}
use Rattle.trace_player.specs.Inside.HeldBack.{HoldsBack, with_held}
use Rattle.trace_player.specs.Inside.Resting.{IsAtRest, rest_behind}
use Rattle.trace_player.proofs.Turning.{PlayedTo}
use Rattle.trace_player.proofs.turns.go_on.Given as goal

abbrev pub invariant-loop-turn : goal.invariant-loop-turn
invariant-loop-turn g l = record {
  played : PlayedTo g.J.OfImage.image (g.P.Channels.seen l.fn.channels) (with_held (g.P.Channels.seen l.channels) l.held.items)
      (ahead l.buffers.lines (g.P.Channels.seen l.channels).source.to_come) l.number (rest_behind g.J.OfImage.image l.session.last);
  holds : HoldsBack g.J.OfImage.image (g.P.Channels.seen l.fn.channels) (g.P.Channels.seen l.channels) l.held.items;
  at_hand : has_feed l.buffers.lines ≡ false → l.held.items ≡ [];
  reader : l.reader.variables ≡ g.J.OfImage.image.program.variables;
  rests : IsAtRest g.J.OfImage.image l.session.last;
  none_read : (g.P.Channels.seen l.channels).source.failures ≡ (g.P.Channels.seen l.fn.channels).source.failures;
  none_write : (g.P.Channels.seen l.channels).sink.failures ≡ (g.P.Channels.seen l.fn.channels).sink.failures;
  not_behind : IsNotReadBehind (g.P.Channels.seen l.fn.channels).source.progress (g.P.Channels.seen l.channels).source.progress;
  going : l.is_ended ≡ false → StaysOpen (g.P.Channels.seen l.fn.channels).source.progress (g.P.Channels.seen l.channels).source.progress;
  ended : l.is_ended ≡ true → IsAtEnd (ahead l.buffers.lines (g.P.Channels.seen l.channels).source.to_come);
  same : g.P.Channels.names l.channels ≡ g.P.Channels.names l.fn.channels;
}

abbrev pub decreases-loop-turn : goal.decreases-loop-turn
decreases-loop-turn g l = 340282366920938463463374607431768211455 - l._turn
