use Rattle.std.proofs.Common.{sym, ap, ◌∙◌, w32}
use Rattle.std.proofs.lemmas.Int.{to_z-of_z}
use Rattle.sc_values.specs.Division.{divisor_of}
use Rattle.sc_values.proofs.Division.{divisor_of-number}
use Rattle.sc_values.proofs.divisor.Divisor.of.Goals as goal

pub returns-else-number-eq0 : goal.returns-else-number-eq0
returns-else-number-eq0 c = sym (divisor_of-number _) ∙ ap divisor_of (to_z-of_z w32 c.args.number c.ranges.number)
