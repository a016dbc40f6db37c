use Rattle.std.proofs.Common.{◌≡◌, ◌-◌}
use Rattle.sc_values.specs.Streams.{StaysOpen}
use Rattle.trace_lines.specs.Lines.{ahead}
use Rattle.trace_player.proofs.Played.{Played}
use Rattle.trace_player.proofs.line_players.turns.go_on.Given as goal

abbrev pub invariant-loop-turn : goal.invariant-loop-turn
invariant-loop-turn g l = record {
  played :
      Played g.L.LinePlayer.makes g.L.LinePlayer.ends l.fn.player (g.P.Channels.seen l.fn.channels).source.to_come
      (ahead l.lines (g.P.Channels.seen l.channels).source.to_come) l.player
      (g.P.Channels.seen l.fn.channels).sink.taken (g.P.Channels.seen l.channels).sink.taken;
  ready : g.L.LinePlayer.is_ready l.player;
  none_read : (g.P.Channels.seen l.channels).source.failures ≡ (g.P.Channels.seen l.fn.channels).source.failures;
  none_write : (g.P.Channels.seen l.channels).sink.failures ≡ (g.P.Channels.seen l.fn.channels).sink.failures;
  going : StaysOpen (g.P.Channels.seen l.fn.channels).source.progress (g.P.Channels.seen l.channels).source.progress;
  same : g.P.Channels.names l.channels ≡ g.P.Channels.names l.fn.channels;
}

abbrev pub decreases-loop-turn : goal.decreases-loop-turn
decreases-loop-turn g l = 340282366920938463463374607431768211455 - l._turn
