use Rattle.std.proofs.lemmas.Grind.{common_steps}
use Rattle.std.proofs.Common.{◌≡◌, ◌<◌, ◌++◌, ◌∷◌, [], length, rules, arith}
use Rattle.ruled_runs.specs.Texts.{status_in}
use Rattle.ruled_runs.proofs.Lists.{one_behind, deep_behind}
use Rattle.ruled_runs.proofs.controls.statuses.statuses_json.Goals as goal

pub loop-status-preserved : goal.loop-status-preserved
loop-status-preserved c =
    let l = c.loop-status in
    let new = c.push.new.self.items in
    let made = c.in_ok-status_json.field-0 in
    let more : new ≡ l.list.items ++ made ∷ [] = search rules in
    let less : l.status-index < length c.args.statuses.now = search rules in
    record {
      given = one_behind status_in l.list.items new made c.args.statuses.now l.status-index _ more l.invariant.given c.in_ok-status_json.ensures.status less;
      depth = deep_behind l.list.items new made 1 more l.invariant.depth c.in_ok-status_json.ensures.depth;
    }

pub returns-clause-statuses : goal.returns-clause-statuses
returns-clause-statuses c = grind (arith, common_steps) steps 2000000
