use mathlib.Core.Bool.{true≢false}
use Rattle.std.proofs.lemmas.Grind.{common_steps}
use Rattle.std.proofs.Common.{List, refl, ap, ◌∙◌, inr, arith, ◌≡◌, true, sym}
use Rattle.sc_graph.specs.declared.program.Variable.{Variable}
use Rattle.embedded_machine.specs.Inside.{values_read}
use Rattle.embedded_machine.proofs.Resting.{restless}
use Rattle.embedded_machine.proofs.controls.control_in.Goals as goal

-- what was read does not fit, and it is all that the cells can hold
pub returns-else-fits-clause-lacks : goal.returns-else-fits-clause-lacks
returns-else-fits-clause-lacks c =
    inr (record {
      told_is = refl;
      lacks = restless c.args.program.now c.thread_count-threads.ensures.layout c.args.values.now c.args.statuses.now
          (record { variables = c.in_ok-variables.variables; statuses = c.in_ok-statuses.statuses })
          (c.in_ok-variables.ensures.read ∙ ap (λ (xs : List Variable). values_read xs c.args.values.now) c.variables-2.ensures)
          c.in_ok-statuses.ensures.read
          (λ rests. absurd (let yes : c.fits.result ≡ true = c.fits.ensures.1 rests in true≢false (sym yes ∙ c.if-fits.false)));
    })

pub returns-then-fits-clause-rests : goal.returns-then-fits-clause-rests
returns-then-fits-clause-rests c = grind (arith, common_steps) steps 2000000
