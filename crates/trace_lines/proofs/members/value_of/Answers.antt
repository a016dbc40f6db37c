use Rattle.std.proofs.Common.{ap}
use Rattle.json.specs.Reads.{token_of}
use Rattle.trace_lines.proofs.Standing.{spells_boolean, spells_number}
use Rattle.trace_lines.proofs.members.value_of.Goals as goal

pub returns-in-Bool-Bool : goal.returns-in-Bool-Bool
returns-in-Bool-Bool c =
    spells_boolean c.args.kind (token_of c.args.token) c.in-Bool-Bool.value c.in-Bool-Bool.is-0 (ap token_of c.in-Bool-Bool.is-1)

pub returns-in-Int-Number : goal.returns-in-Int-Number
returns-in-Int-Number c =
    spells_number c.args.kind (token_of c.args.token) c.in-Int-Number.text.now c.integer_value.result c.in-Int-Number.is-0
    (ap token_of c.in-Int-Number.is-1) c.integer_value.ensures
