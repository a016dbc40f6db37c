use Rattle.std.proofs.Common.{◌≡◌, ◌++◌, ◌-◌, length, map, take}
use Rattle.trace_player.specs.Trace.{lines_of}
use Rattle.controller_tests.specs.Replay.{line_of}
use Rattle.controller_tests.proofs.replay.play_first.Given as goal

-- what is left leads to the same lines, and one was played in each turn
abbrev pub invariant-loop-turn : goal.invariant-loop-turn
invariant-loop-turn l = record {
  image : l.session.image ≡ l.fn.session.image;
  played : map line_of l.session.ticks ++ take (l.count - l._turn) (lines_of l.rest) ≡ take l.count (lines_of l.ticks);
  so_many : length (map line_of l.session.ticks) ≡ l._turn;
}
