use Rattle.std.proofs.lemmas.Grind.{common_steps}
use Rattle.std.proofs.Common.{subst, sym, arith}
use Rattle.command_files.specs.Files.{HasBytes}
use Rattle.command_files.specs.Standing.{HasSource}
use Rattle.sct_command.proofs.Compiled.{compiles, refuses_compile, reported, warned}
use Rattle.sct_command.proofs.compile.compile.Goals as goal

pub returns-clause-done : goal.returns-clause-done
returns-clause-done g c = compiles c.compile_held.result _ _ _ _ _ _ _ _ c.source_told.ensures.same
    (subst (HasSource (g.F.Files.contents c.args.files.now) c.args.from.now) (sym c.deref.ensures.value) c.in_ok-source.ensures.source)
    c.compile_held.ensures.done

pub returns-clause-refused : goal.returns-clause-refused
returns-clause-refused g c =
    refuses_compile c.compile_held.result _ _ _ _ _ _ _ _ c.source_told.ensures.same
    (subst (HasSource (g.F.Files.contents c.args.files.now) c.args.from.now) (sym c.deref.ensures.value) c.in_ok-source.ensures.source)
    c.compile_held.ensures.refused

pub returns-clause-warned : goal.returns-clause-warned
returns-clause-warned g c = warned c.compile_held.result _ _ _ _ _
    (subst (HasBytes (g.F.Files.contents c.args.files.now) c.args.from.now) (sym c.written.ensures) c.in_ok-source.ensures.held)
    c.compile_held.ensures.warned

pub returns-clause-reported : goal.returns-clause-reported
returns-clause-reported g c = reported c.compile_held.result _ _ _ _ _
    (subst (HasSource (g.F.Files.contents c.args.files.now) c.args.from.now) (sym c.deref.ensures.value) c.in_ok-source.ensures.source)
    c.compile_held.ensures.reported

pub returns-clause-missed : goal.returns-clause-missed
returns-clause-missed g c = grind (arith, common_steps) steps 2000000
