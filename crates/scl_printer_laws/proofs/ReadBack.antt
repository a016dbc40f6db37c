-- What is printed of a program reads back as that program, and as no other one.
use Rattle.std.proofs.Common.{◌≡◌, sym, subst}
use Rattle.std.specs.Prelude.{Result, MatchResult}
use Rattle.sc_text.specs.declared.read_fault.ReadFault.{ReadFault}
use Rattle.sc_text.specs.declared.read_fault.ReadFault.TheVariants as fault
use Rattle.scl.specs.declared.program.Scl.{Scl}
use Rattle.scl_printer.specs.Layout.{text_of}
use Rattle.scl_reader.specs.Read.{IsRead}
use Rattle.scl_reader.specs.Laws.{AreAlike, IsExact}
use Rattle.scl_reader.proofs.Exactly.{one_program}
use Rattle.scl_printer_laws.specs.Programs.{CanWriteProgram}
use Rattle.scl_printer_laws.proofs.KeptRules.{rules_hold}
use Rattle.scl_printer_laws.proofs.ProgramReads.{program_reads}

pub read : (p : Scl) → CanWriteProgram p → IsRead (text_of p) p
read p can = program_reads p (rules_hold p) can

pub answered : (p : Scl) (answer : Result Scl ReadFault) → CanWriteProgram p → IsExact (text_of p) answer
    → MatchResult answer (λ q. AreAlike q p) (λ f. f ≡ fault.Memory)
answered p answer can exact = exact.spelled p (read p can)

pub apart : (p q : Scl) → CanWriteProgram p → CanWriteProgram q → text_of p ≡ text_of q → AreAlike p q
apart p q a b same = one_program (text_of p) p q (read p a) (subst (λ t. IsRead t q) (sym same) (read q b))
