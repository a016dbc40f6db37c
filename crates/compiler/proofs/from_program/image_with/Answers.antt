use Rattle.std.proofs.Common.{Err, refl}
use Rattle.compiler.proofs.Refused.{breaks_a_rule}
use Rattle.compiler.proofs.from_program.image_with.Goals as goal

pub returns-in-Err-clause-refused : goal.returns-in-Err-clause-refused
returns-in-Err-clause-refused c = (
  c.requires.tables.none,
  c.requires.tables.no_walk,
  breaks_a_rule (Err c.in-Err.refusal) c.args.program c.args.tables c.in-Some.image c.in-Err.refusal refl
      c.in-Some.ensures.parts c.requires.formed c.requires.tables.none c.requires.tables.least c.requires.tables.budget
      c.in-Err.ensures.broken,
)
