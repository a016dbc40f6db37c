use Rattle.chart_texts.proofs.Begins.{block_front, front}
use Rattle.chart_texts.proofs.first_word.front_length.Goals as goal

pub returns-in-Some : goal.returns-in-Some
returns-in-Some c = block_front c.args.text.now c.in-Some.length c.in-Some.ensures

pub returns-in-None : goal.returns-in-None
returns-in-None c = front c.args.text.now c.passed_length.result c.in-None.ensures c.passed_length.ensures
