use Rattle.std.proofs.lemmas.Grind.{elements}
use Rattle.std.proofs.Common.{◌∙◌, subst, sym, arith}
use Rattle.command_files.specs.Sources.{SpellsImage}
use Rattle.sct_command.proofs.Compiled.{none_said, refuses_spelling, spells}
use Rattle.sct_command.proofs.write_compiled.write_held.Goals as goal

pub returns-clause-done : goal.returns-clause-done
returns-clause-done g c = spells c.write_warned.result _ _ _ _
    (subst (SpellsImage c.args.bytes.now) (sym (c.image-2.ensures.value ∙ c.get.ensures)) c.in_ok-image.ensures.spelt) c.write_warned.ensures.done

pub returns-clause-refused : goal.returns-clause-refused
returns-clause-refused g c = refuses_spelling c.write_warned.result _ _ _ _
    (subst (SpellsImage c.args.bytes.now) (sym (c.image-2.ensures.value ∙ c.get.ensures)) c.in_ok-image.ensures.spelt) c.write_warned.ensures.refused

pub returns-clause-reported : goal.returns-clause-reported
returns-clause-reported g c = none_said c.write_warned.result _ _ _ _ c.write_warned.ensures.quiet

pub write_warned-requires-clause-text : goal.write_warned-requires-clause-text
write_warned-requires-clause-text g c = grind (arith, elements) steps 2000000
