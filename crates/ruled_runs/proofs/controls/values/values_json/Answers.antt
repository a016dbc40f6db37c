use Rattle.std.proofs.lemmas.Grind.{common_steps}
use Rattle.std.proofs.Common.{◌≡◌, ◌<◌, ◌++◌, ◌∷◌, [], length, arith, rules}
use Rattle.ruled_runs.specs.Texts.{value_in}
use Rattle.ruled_runs.proofs.Lists.{one_behind, deep_behind}
use Rattle.ruled_runs.proofs.controls.values.values_json.Goals as goal

pub loop-value-preserved : goal.loop-value-preserved
loop-value-preserved c =
    let l = c.loop-value in
    let new = c.push.new.self.items in
    let made = c.value_json.result in
    let more : new ≡ l.list.items ++ made ∷ [] = search rules in
    let less : l.value-index < length c.args.values.now = search rules in
    record {
      given = one_behind value_in l.list.items new made c.args.values.now l.value-index _ more l.invariant.given c.value_json.ensures.value less;
      depth = deep_behind l.list.items new made 1 more l.invariant.depth (omega (arith, c.value_json.ensures.depth));
    }

pub returns-clause-values : goal.returns-clause-values
returns-clause-values c = grind (arith, common_steps) steps 2000000
