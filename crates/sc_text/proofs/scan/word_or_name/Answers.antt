use Rattle.sc_text.proofs.Meanings.{word_spelled}
use Rattle.sc_text.proofs.scan.word_or_name.Goals as goal

pub returns-in-Some : goal.returns-in-Some
returns-in-Some c = word_spelled _ _ _ c.in-Some.ensures
