use mathlib.Core.Bool.{true≢false}
use Rattle.std.proofs.Common.{◌≡◌, ◌∙◌, true, sym}
use Rattle.image_charts.specs.Written.{HasNoChart}
use Rattle.image_charts.proofs.Loading.{refused_so}
use Rattle.image_charts.proofs.files.states_in.Goals as goal

pub returns-then-has_no_chart-clause-none : goal.returns-then-has_no_chart-clause-none
returns-then-has_no_chart-clause-none c = c.has_no_chart.ensures.0 c.if-has_no_chart.true

pub returns-in_err-text_states-clause-refused : goal.returns-in_err-text_states-clause-refused
returns-in_err-text_states-clause-refused c =
    refused_so (¬ HasNoChart c.args.written.now) c.from_residual.result (λ is.
    let yes : c.has_no_chart.result ≡ true = c.has_no_chart.ensures.1 is in
    true≢false (sym yes ∙ c.if-has_no_chart.false))
