use Rattle.std.proofs.Common.{Err, refl}
use Rattle.compiler.proofs.Refused.{conflicts_by, has_a_walk}
use Rattle.compiler.proofs.from_program.least_tables.Goals as goal

pub returns-in-Err-clause-refused : goal.returns-in-Err-clause-refused
returns-in-Err-clause-refused c =
    conflicts_by (Err c.in-Err.fault) c.args.program.now c.in-Err.fault refl c.in-Err.ensures.conflict

pub returns-clause-refused : goal.returns-clause-refused
returns-clause-refused c = (
  c.in-Ok.ensures.none,
  has_a_walk (Err c.in-Err-tables.fault) c.args.program.now c.in-Err-tables.fault refl
      c.in-Err-tables.ensures.instant_loop c.in-Err-tables.ensures.cyclic c.in-Err-tables.ensures.no_loop,
)
