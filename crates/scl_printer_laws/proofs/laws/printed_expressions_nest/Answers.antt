use Rattle.scl_printer_laws.proofs.FewOpen.{nest}
use Rattle.scl_printer_laws.proofs.laws.printed_expressions_nest.Goals as goal

pub returns : goal.returns
returns c = record { nest = nest }
