use Rattle.std.proofs.Common.{codes, subst, inl, inr, refl, sym}
use Rattle.sct_command.specs.Words.{TellsLines, fault_line}
use Rattle.sct_command.proofs.Taken.{taken_whole}
use Rattle.sct_command.proofs.commands.refuse.Goals as goal

pub returns-in-Ok-clause-line : goal.returns-in-Ok-clause-line
returns-in-Ok-clause-line g c = record {
  text = c.as_bytes.result.now;
  is = inl (subst (TellsLines c.args.fault.now c.args.wanted c.args.report.now) (sym c.as_bytes.ensures.value) c.in-Ok.ensures);
  grows = c.write_all.ensures.some;
  whole = λ none. taken_whole c.write_all.result _ _ _ c.write_all.ensures.ok c.write_all.ensures.failed none;
}

pub returns-in-Err-clause-line : goal.returns-in-Err-clause-line
returns-in-Err-clause-line g c = record {
  text = fault_line (codes "E52");
  is = inr refl;
  grows = c.write_all-in-Err.ensures.some;
  whole = λ none. taken_whole c.write_all-in-Err.result _ _ _ c.write_all-in-Err.ensures.ok c.write_all-in-Err.ensures.failed none;
}
