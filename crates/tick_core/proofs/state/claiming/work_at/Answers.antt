use Rattle.std.proofs.Common.{subst, ap, ◌∙◌}
use Rattle.sc_values.specs.Checked.{Checks, loaded_from}
use Rattle.tick_core.proofs.Claiming.{some_work}
use Rattle.tick_core.proofs.state.claiming.work_at.Goals as goal

pub returns-in-Some : goal.returns-in-Some
returns-in-Some c =
    some_work _ _ _ c.in-Some.code.now c.known.result c.present.result c.requires.configuration c.in-Some.ensures
    (subst (λ k. Checks k c.in-Some.code.now c.known.result) c.requires.kinds c.known.ensures)
    (c.present.ensures ∙ ap (λ v. loaded_from v c.in-Some.code.now) c.as_slice.ensures)
