use Rattle.std.proofs.lemmas.Grind.{common_steps}
use Rattle.std.proofs.Common.{◌≡◌, ◌<◌, ◌++◌, codes, length, rules, string_bytes, arith}
use Rattle.std.specs.List.{position_or_len, after_first}
use Rattle.simulation.specs.Pieces.{is_between}
use Rattle.simulation.specs.Tree.{state_line}
use Rattle.simulation.proofs.Shown.{one_slash, state_put}
use Rattle.simulation.proofs.tree.put_state.Goals as goal

pub loop-inner-preserved : goal.loop-inner-preserved
loop-inner-preserved c =
    let text = c.loop-inner.rest.now in
    let rest = c.in-Some.inner.now in
    let behind : rest ≡ after_first (is_between 47) text = search rules in
    let some : position_or_len (is_between 47) text < length text = search rules in
    let put : string_bytes c.push_str.new.self ≡ string_bytes c.loop-inner.text ++ codes "    " = search rules in
    record {
      utf8 = search rules;
      line =
          one_slash (string_bytes c.args.text.now ++ state_line c.args.is_active c.args.path.now) (string_bytes c.loop-inner.text)
          (string_bytes c.push_str.new.self) text rest c.args.is_active some behind put c.loop-inner.invariant.line;
    }

pub returns-in-None : goal.returns-in-None
returns-in-None c =
    let none : position_or_len (is_between 47) c.loop-inner.rest.now ≡ length c.loop-inner.rest.now = search rules in
    state_put c.put_own.result (string_bytes c.args.text.now ++ state_line c.args.is_active c.args.path.now) (string_bytes c.loop-inner.text)
    (string_bytes c.put_own.new.text) c.loop-inner.rest.now c.args.is_active none c.put_own.ensures c.loop-inner.invariant.line

pub loop-inner-smaller : goal.loop-inner-smaller
loop-inner-smaller c = grind (arith, common_steps) steps 2000000
