use Rattle.std.proofs.Common.{◌≡◌, [], ◌∷◌, subst, rules}
use Rattle.std.specs.Prelude.{IfSome}
use Rattle.json.specs.Token.{begin_object}
use Rattle.trace_lines.specs.Inside.Members.{GivesAll}
use Rattle.trace_lines.proofs.Standing.{object_given}
use Rattle.trace_lines.proofs.members.given_by.Goals as goal

pub returns : goal.returns
returns c =
    let variables = c.args.variables.now in
    let ts = c.begins_object.new.reader in
    let left = c.all_given.new.reader in
    let found = c.in-Some.found.items in
    let begun : c.in_ok-reader.reader ≡ begin_object ∷ ts = search rules in
    let ended : left ≡ [] = search rules in
    let given : GivesAll variables ts left found =
    subst (λ all. IfSome all (λ f. GivesAll variables ts left f.items)) c.in-Some.is c.in_ok-found.ensures in
    object_given variables c.args.text.now c.in_ok-reader.reader ts left found c.from_vec.result c.in_ok-reader.ensures.ok begun ended given c.from_vec.ensures
