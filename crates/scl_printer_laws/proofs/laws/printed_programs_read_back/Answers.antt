use Rattle.scl_printer_laws.proofs.ReadBack.{read, answered, apart}
use Rattle.scl_printer_laws.proofs.laws.printed_programs_read_back.Goals as goal

pub returns : goal.returns
returns c = record { read = read; answered = answered; apart = apart }
