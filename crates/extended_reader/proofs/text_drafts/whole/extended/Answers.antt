use Rattle.std.proofs.Common.{rules}
use Rattle.grammar.specs.Read.{read}
use Rattle.sc_text.specs.declared.read_fault.ReadFault.{ReadFault}
use Rattle.sc_text.specs.Reading.{Stops}
use Rattle.extended_reader.specs.ExtendedText.{extended_text}
use Rattle.extended_reader.proofs.Nesting.{chart_of, extended_gives, chart_stops, word_stops}
use Rattle.extended_reader.proofs.text_drafts.whole.extended.Goals as goal

pub returns-in_err-chart : goal.returns-in_err-chart
returns-in_err-chart c =
    let stops : (f : ReadFault) → Stops c.args.end (read chart_of c.name.new.ahead.tokens.now) f
    → Stops c.args.end (read (extended_text 0) c.args.ahead.now.tokens.now) f =
    λ f. chart_stops _ _ _ c.args.end f c.in_ok-word.ensures in
    search (rules, stops)

pub returns : goal.returns
returns c = extended_gives _ _ _ _ _ _ c.in_ok-word.ensures c.in_ok-chart.ensures c.in_ok-draft.ensures

pub returns-in_err-word : goal.returns-in_err-word
returns-in_err-word c = search (rules, word_stops)
