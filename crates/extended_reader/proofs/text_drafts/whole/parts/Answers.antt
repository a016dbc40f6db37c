use Rattle.std.proofs.Common.{rules}
use Rattle.grammar.specs.Read.{read}
use Rattle.sc_text.specs.declared.read_fault.ReadFault.{ReadFault}
use Rattle.sc_text.specs.Expression.{expression}
use Rattle.sc_text.specs.Reading.{Stops}
use Rattle.core_charts.specs.Rules.{inner_depth_limit}
use Rattle.extended_reader.specs.ExtendedText.{rowed, region, within, parts}
use Rattle.extended_reader.proofs.Nesting.{parts_give, parts_stop, items_stop}
use Rattle.extended_reader.proofs.text_drafts.whole.parts.Goals as goal

pub returns-in_err-regions : goal.returns-in_err-regions
returns-in_err-regions c =
    let stops : (f : ReadFault) → Stops c.args.end
    (read (rowed (region (expression 0) (within (expression 0) inner_depth_limit))) c.put_row.new.ahead.tokens.now) f
    → Stops c.args.end (read (parts (expression 0) (within (expression 0) inner_depth_limit)) c.args.ahead.now.tokens.now) f =
    λ f. parts_stop _ _ _ _ c.args.end f c.in_ok-put_row.ensures in
    search (rules, stops)

pub returns : goal.returns
returns c =
    parts_give c.args.ahead.now.tokens.now _ _ _ _ _ _ _ _ c.in_ok-put_row.ensures c.new-all.ensures c.in_ok-regions.ensures c.new-found.ensures
    c.new-rows.ensures

pub returns-in_err-put_row : goal.returns-in_err-put_row
returns-in_err-put_row c = search (rules, items_stop)
