use Rattle.std.proofs.Common.{◌≡◌, Some, None, sym, subst, rules}
use Rattle.json.specs.Json.{read_key}
use Rattle.trace_lines.specs.Inside.Members.{Stands}
use Rattle.trace_lines.specs.Inside.Expected.{BeginsGivingTo, AreBehind, WasGiven}
use Rattle.trace_lines.proofs.Standing.{begins, all_read}
use Rattle.trace_lines.proofs.Expecting.{all_behind, member_given}
use Rattle.trace_lines.proofs.members.all_given.Goals as goal

pub members-init : goal.members-init
members-init c =
    let variables = c.args.variables.now in
    let whole = c.args.reader.now in
    let es = c.args.expected.now.inputs.items in record {
      stands = subst (Stands variables whole whole) (sym c.in_ok-found.ensures.items) (begins variables whole);
      behind = subst (AreBehind es 0) (sym c.in_ok-found.ensures.items) (all_behind es);
    }

pub members-preserved : goal.members-preserved
members-preserved c =
    let variables = c.args.variables.now in
    let whole = c.args.reader.now in
    let es = c.args.expected.now.inputs.items in
    let old = c.members.reader in
    let new = c.next_given.new.reader in
    let found = c.members.found.items in
    let given = c.in-Ok-Some.given in
    let begun : BeginsGivingTo variables es old new given = search rules in
    let was : WasGiven es given found c.in-Some.next c.give.new.found.items = search rules in record {
      stands = member_given variables es whole old new given found c.in-Some.next c.give.new.found.items c.members.invariant.stands begun was;
      behind = was.behind;
    }

pub returns-in-Ok-None : goal.returns-in-Ok-None
returns-in-Ok-None c =
    let variables = c.args.variables.now in
    let old = c.members.reader in
    let new = c.next_given.new.reader in
    let ended : read_key old ≡ Some (None, new) = search rules in
    all_read variables c.args.reader.now old new c.members.found.items c.members.invariant.stands ended
