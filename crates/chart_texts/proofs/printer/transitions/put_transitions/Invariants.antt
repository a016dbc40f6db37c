use Rattle.std.proofs.Common.{◌≡◌, ◌++◌, drop, string_bytes}
use Rattle.chart_texts.specs.Layout.{transitions_text}
use Rattle.chart_texts.proofs.printer.transitions.put_transitions.Given as goal

abbrev pub invariant-loop-transition : goal.invariant-loop-transition
invariant-loop-transition l =
    string_bytes l.text ++ transitions_text l.variables l.states (drop l.transition-index l.own) l.margin ≡
    string_bytes l.initial.text ++ transitions_text l.variables l.states l.own l.margin
