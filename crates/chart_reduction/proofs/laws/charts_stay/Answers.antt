use Rattle.chart_reduction.proofs.Plain.{nothing_is_added, stays}
use Rattle.chart_reduction.proofs.laws.charts_stay.Goals as goal

pub returns : goal.returns
returns c = record { nothing_is_added = nothing_is_added; stays = stays }
