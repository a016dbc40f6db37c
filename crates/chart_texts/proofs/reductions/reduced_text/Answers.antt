use Rattle.chart_texts.proofs.ReducedSpelling.{is_answer}
use Rattle.std.proofs.Common.{rules}
use Rattle.chart_texts.proofs.reductions.reduced_text.Goals as goal

pub returns-in-Ok : goal.returns-in-Ok
returns-in-Ok c = search (rules, is_answer)
