use Rattle.std.proofs.lemmas.Grind.{common_steps}
use Rattle.std.proofs.Common.{◌≡◌, ◌∙◌, ◌<◌, ◌∷◌, true, map, option_map, rules, subst, take, arith}
use Rattle.trace_player.specs.Trace.{lines_of}
use Rattle.controller_tests.specs.Inside.Lines.{Begins}
use Rattle.controller_tests.specs.Replay.{line_of}
use Rattle.controller_tests.proofs.Replayed.{one_more_played, one_played}
use Rattle.controller_tests.proofs.replay.play_first.Goals as goal

pub loop-turn-preserved : goal.loop-turn-preserved
loop-turn-preserved c =
    let rest = c.loop-turn.rest.now in
    let behind = c.next_line.result.1.now in
    let line = c.in-Some.line.now in
    let more : c.loop-turn._turn < c.args.count = search rules in
    let all = take c.args.count (lines_of c.args.ticks.now) in
    let yes : c.in_ok-play_line-in-Some.field-0 ≡ true = search rules in
    let begins : lines_of rest ≡ line ∷ lines_of behind =
    (subst (λ o. Begins rest (option_map (λ l. l.now) o) behind) c.in-Some.is c.next_line.ensures).0 in
    let one = c.in_ok-play_line-in-Some.ensures.played yes in
    record {
      image = c.play_line.ensures.image ∙ c.loop-turn.invariant.image;
      played =
          one_played (map line_of c.loop-turn.session.ticks) (map line_of c.play_line.new.session.ticks) all rest behind line c.args.count c.loop-turn._turn
          more one begins c.loop-turn.invariant.played;
      so_many = one_more_played (map line_of c.loop-turn.session.ticks) (map line_of c.play_line.new.session.ticks) line c.loop-turn._turn one
          c.loop-turn.invariant.so_many;
    }

pub returns-then-not-branch-clause-so_many : goal.returns-then-not-branch-clause-so_many
returns-then-not-branch-clause-so_many c = grind (arith, common_steps) steps 2000000

pub returns-then-not-branch-clause-lacks : goal.returns-then-not-branch-clause-lacks
returns-then-not-branch-clause-lacks c = search rules
