use Rattle.std.proofs.Common.{◌-◌}
use Rattle.grammar.specs.Grammar.{many}
use Rattle.grammar.specs.Predictive.{first}
use Rattle.grammar.specs.Read.{read}
use Rattle.chart_reader.specs.Inside.TextDrafts.{IsFilling}
use Rattle.chart_reader.proofs.text_drafts.rows.put_row.Given as goal

abbrev pub invariant-loop-used : goal.invariant-loop-used
invariant-loop-used g l =
    IsFilling (read (many g.P.Part.phrase) l.fn.ahead.tokens.now) g.P.Part.phrase (first g.P.Part.phrase) l.fn.found l.found (l.most - l.used)
    l.ahead.tokens.now
