use Rattle.sc_text.proofs.OneCut.{one_list, no_fault, one_fault}
use Rattle.sc_text.proofs.laws.texts_are_cut_once.Goals as goal

pub returns : goal.returns
returns c = record { one_list = one_list; no_fault = no_fault; one_fault = one_fault }
