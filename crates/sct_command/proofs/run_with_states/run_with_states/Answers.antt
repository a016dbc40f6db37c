use Rattle.std.proofs.lemmas.Grind.{common_steps}
use Rattle.std.proofs.Common.{subst, sym, arith}
use Rattle.image_charts.specs.Files.{HasStates}
use Rattle.sct_command.proofs.States.{played, stopped}
use Rattle.sct_command.proofs.run_with_states.run_with_states.Goals as goal

pub returns-clause-done : goal.returns-clause-done
returns-clause-done g c = played c.play_beside.result _ _ _ _ _ _ _ _
    (subst (λ i. HasStates (g.F.Files.contents c.args.files.now) c.args.name.now c.args.chart.now i c.get-2.result.now) (sym c.get.ensures)
    (subst (HasStates (g.F.Files.contents c.args.files.now) c.args.name.now c.args.chart.now c.in_ok-image.image) (sym c.get-2.ensures)
    c.in_ok-image.ensures.loaded))
    c.play_beside.ensures.done

pub returns-clause-refused : goal.returns-clause-refused
returns-clause-refused g c = stopped c.play_beside.result _ _ _ _ _ _ _ _
    (subst (λ i. HasStates (g.F.Files.contents c.args.files.now) c.args.name.now c.args.chart.now i c.get-2.result.now) (sym c.get.ensures)
    (subst (HasStates (g.F.Files.contents c.args.files.now) c.args.name.now c.args.chart.now c.in_ok-image.image) (sym c.get-2.ensures)
    c.in_ok-image.ensures.loaded))
    c.play_beside.ensures.refused

pub returns-clause-missed : goal.returns-clause-missed
returns-clause-missed g c = grind (arith, common_steps) steps 2000000

pub returns-clause-none_missed : goal.returns-clause-none_missed
returns-clause-none_missed g c = grind (arith, common_steps) steps 2000000
