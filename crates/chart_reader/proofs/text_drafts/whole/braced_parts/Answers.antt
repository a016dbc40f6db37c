use Rattle.sc_text.proofs.Outcomes.{either_way}
use Rattle.chart_reader.proofs.Nesting.{braced_both, braced_both_stops, parts}
use Rattle.chart_reader.proofs.text_drafts.whole.braced_parts.Goals as goal

pub returns : goal.returns
returns c =
    either_way _ c.skip_sign-2.ensures
    (λ x. braced_both parts c.args.ahead.now.tokens.now _ _ _ _ _ _ c.in_ok-skip_sign.ensures c.in_ok-parts.ensures _)
    (λ f. braced_both_stops parts c.args.ahead.now.tokens.now _ _ _ _ _ _ c.in_ok-skip_sign.ensures c.in_ok-parts.ensures _ f)
