use Rattle.std.proofs.lemmas.Grind.{elements}
use Rattle.std.proofs.Common.{subst, sym, arith}
use Rattle.command_files.specs.Sources.{SpellsImage}
use Rattle.sct_command.proofs.Compiled.{keeps, none_said, refuses_keeping}
use Rattle.sct_command.proofs.compile.compile_held.Goals as goal

pub returns-clause-done : goal.returns-clause-done
returns-clause-done g c = keeps c.keep_warned.result _ _ _ _ _ _ _
    (subst (SpellsImage c.args.bytes.now) (sym c.get.ensures) c.in_ok-image.ensures.spelt) c.keep_warned.ensures.done

pub returns-clause-refused : goal.returns-clause-refused
returns-clause-refused g c = refuses_keeping c.keep_warned.result _ _ _ _ _ _ _
    (subst (SpellsImage c.args.bytes.now) (sym c.get.ensures) c.in_ok-image.ensures.spelt) c.keep_warned.ensures.refused

pub returns-clause-reported : goal.returns-clause-reported
returns-clause-reported g c = none_said c.keep_warned.result _ _ _ _ c.keep_warned.ensures.quiet

pub keep_warned-requires-clause-text : goal.keep_warned-requires-clause-text
keep_warned-requires-clause-text g c = grind (arith, elements) steps 2000000
