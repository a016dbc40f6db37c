use Rattle.std.proofs.lemmas.Grind.{common_steps}
use Rattle.std.proofs.Common.{sym, subst, arith}
use Rattle.std.proofs.lemmas.Result.{err_from_is_err_and}
use Rattle.command_files.specs.Sources.{IsCompiledFrom}
use Rattle.image_charts.proofs.TextImages.{compiled_in}
use Rattle.sct_command.proofs.Simulated.{no_states}
use Rattle.sct_command.proofs.simulate.load_model.Goals as goal

pub returns-clause-loaded : goal.returns-clause-loaded
returns-clause-loaded g c =
    subst (IsCompiledFrom _ _) (sym c.in_ok-image.ensures)
    (compiled_in _ _ _ _ _ c.in_ok-bytes.ensures.bytes c.deref.ensures.value c.in_ok-compiled.ensures.image)

pub returns-in_err-states-clause-lacks : goal.returns-in_err-states-clause-lacks
returns-in_err-states-clause-lacks g c =
    let p = err_from_is_err_and c.from_residual-in_err-states.result c.from_residual-in_err-states.ensures.1 in
    rw (p.1, p.2) (no_states (g.F.Files.contents c.args.files.now) c.args.name.now c.in_ok-bytes.bytes.items c.deref.result.now c.deref-2.result.now
    c.in_ok-compiled.compiled c.in_ok-image.image c.get.result.now c.in_err-states.field-0.0 c.in_ok-bytes.ensures.bytes c.deref.ensures.value
    c.deref-2.ensures.value c.in_ok-compiled.ensures.image c.in_ok-image.ensures c.get.ensures c.in_err-states.ensures.lacks)

pub returns-clause-none_failed : goal.returns-clause-none_failed
returns-clause-none_failed g c = grind (arith, common_steps) steps 2000000
