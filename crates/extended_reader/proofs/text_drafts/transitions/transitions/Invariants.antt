use Rattle.std.proofs.Common.{◌-◌}
use Rattle.grammar.specs.Grammar.{many}
use Rattle.grammar.specs.Read.{read}
use Rattle.sc_text.specs.Expression.{expression}
use Rattle.chart_reader.specs.ChartText.{transition_first}
use Rattle.extended_reader.specs.ExtendedText.{transition}
use Rattle.extended_reader.specs.Inside.TextDrafts.{IsPutting, put_way}
use Rattle.extended_reader.proofs.text_drafts.transitions.transitions.Given as goal

abbrev pub invariant-loop-used : goal.invariant-loop-used
invariant-loop-used l =
    IsPutting (read (many (transition (expression 0))) l.fn.ahead.tokens.now) (transition (expression 0)) transition_first put_way (l.fn.found, l.fn.ways)
    (l.found, l.ways) (l.most - l.used) l.ahead.tokens.now
