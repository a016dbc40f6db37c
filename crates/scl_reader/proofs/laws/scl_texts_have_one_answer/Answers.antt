use Rattle.scl_reader.proofs.OneSclAnswer.{one_fault}
use Rattle.scl_reader.proofs.Exactly.{one_program, no_fault}
use Rattle.scl_reader.proofs.laws.scl_texts_have_one_answer.Goals as goal

pub returns : goal.returns
returns c = record { one_program = one_program; no_fault = no_fault; one_fault = one_fault }
