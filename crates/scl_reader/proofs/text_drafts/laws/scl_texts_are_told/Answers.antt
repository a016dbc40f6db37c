use Rattle.grammar.proofs.Told.{told, told_spelled, told_fault}
use Rattle.scl_reader.specs.Program.{scl}
use Rattle.scl_reader.proofs.Deepens.{is_language}
use Rattle.scl_reader.proofs.text_drafts.laws.scl_texts_are_told.Goals as goal

pub returns : goal.returns
returns c = record { told = told scl is_language; spelled = told_spelled scl is_language; faulty = told_fault scl is_language }
