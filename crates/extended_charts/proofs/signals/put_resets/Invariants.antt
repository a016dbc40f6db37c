use Rattle.std.proofs.Common.{◌≡◌, ◌++◌, drop}
use Rattle.extended_charts.specs.Signals.{resets}
use Rattle.extended_charts.proofs.signals.put_resets.Given as goal

abbrev pub invariant-loop-signal : goal.invariant-loop-signal
invariant-loop-signal l =
    l.made ++ resets (drop l.signal-index l.signals) ≡ l.fn.made ++ resets l.signals
