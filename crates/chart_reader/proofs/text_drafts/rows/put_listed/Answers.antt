use Rattle.std.proofs.Common.{[]}
use Rattle.sc_text.specs.declared.sign.Sign.TheVariants as sign
use Rattle.sc_text.specs.Expression.{after}
use Rattle.chart_reader.specs.ChartText.{the_sign}
use Rattle.chart_reader.proofs.Filling.{listed_fill, listed_further_stops}
use Rattle.sc_text.proofs.Outcomes.{either_way}
use Rattle.chart_reader.proofs.text_drafts.rows.put_listed.Goals as goal

pub returns : goal.returns
returns g c =
    let phrase = g.P.Part.phrase in
    let further = after (the_sign sign.Comma) phrase in
    either_way _ c.put_row.ensures
    (λ x. listed_fill phrase further _ _ _ _ _ c.in_ok-first.ensures _ _ c.in_ok-push.ensures.ok)
    (λ f. listed_further_stops phrase further _ _ _ [] [] c.in_ok-first.ensures _ f)
