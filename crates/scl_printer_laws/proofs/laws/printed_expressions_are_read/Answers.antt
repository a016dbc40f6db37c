use Rattle.scl_printer_laws.proofs.PrintedTrees.{read}
use Rattle.scl_printer_laws.proofs.laws.printed_expressions_are_read.Goals as goal

pub returns : goal.returns
returns c = record { read = read }
