use Rattle.std.proofs.lemmas.Grind.{common_steps}
use Rattle.std.proofs.Common.{subst, sym, arith}
use Rattle.command_files.specs.Files.{HasBytes}
use Rattle.command_files.specs.Standing.{HasSource}
use Rattle.sct_command.proofs.Compiled.{refuses_writing, reported, warned, writes_program}
use Rattle.sct_command.proofs.write_compiled.write_compiled.Goals as goal

pub returns-clause-done : goal.returns-clause-done
returns-clause-done g c = writes_program c.write_held.result _ _ _ _ _
    (subst (HasSource (g.F.Files.contents c.args.files.now) c.args.from.now) (sym c.deref.ensures.value) c.in_ok-source.ensures.source)
    c.write_held.ensures.done

pub returns-clause-refused : goal.returns-clause-refused
returns-clause-refused g c = refuses_writing c.write_held.result _ _ _ _ _
    (subst (HasSource (g.F.Files.contents c.args.files.now) c.args.from.now) (sym c.deref.ensures.value) c.in_ok-source.ensures.source)
    c.write_held.ensures.refused

pub returns-clause-warned : goal.returns-clause-warned
returns-clause-warned g c = warned c.write_held.result _ _ _ _ _
    (subst (HasBytes (g.F.Files.contents c.args.files.now) c.args.from.now) (sym c.written.ensures) c.in_ok-source.ensures.held)
    c.write_held.ensures.warned

pub returns-clause-reported : goal.returns-clause-reported
returns-clause-reported g c = reported c.write_held.result _ _ _ _ _
    (subst (HasSource (g.F.Files.contents c.args.files.now) c.args.from.now) (sym c.deref.ensures.value) c.in_ok-source.ensures.source)
    c.write_held.ensures.reported

pub returns-clause-missed : goal.returns-clause-missed
returns-clause-missed g c = grind (arith, common_steps) steps 2000000

pub returns-clause-none_missed : goal.returns-clause-none_missed
returns-clause-none_missed g c = grind (arith, common_steps) steps 2000000
