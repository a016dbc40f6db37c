use Rattle.std.proofs.Common.{◌≡◌, ◌∷◌, Some, slice_get, rules}
use Rattle.json.specs.Reads.{token_of}
use Rattle.sc_values.specs.Operator.{kind_of}
use Rattle.trace_lines.specs.Inside.Members.{Spells}
use Rattle.trace_lines.specs.Inside.Ordered.{IsNamedAt}
use Rattle.trace_lines.proofs.Expecting.{first_given}
use Rattle.trace_lines.proofs.members.given_first.Goals as goal

pub returns : goal.returns
returns c =
    let es = c.args.expected.now.inputs.items in
    let place = c.in_ok-place.place in
    let input = c.in_ok-input.input.now in
    let token = token_of c.in_ok-next.field-0 in
    let named : IsNamedAt es place c.args.name.now = search rules in
    let there : slice_get es place ≡ Some input = search rules in
    let begun : c.args.reader.now ≡ token ∷ c.next.new.self = search rules in
    let spells : Spells (kind_of input.1) token c.in_ok-value.value = search rules in
    first_given c.args.variables.now es place input c.args.name.now c.args.reader.now c.next.new.self token c.in_ok-value.value c.requires there named begun
    spells
