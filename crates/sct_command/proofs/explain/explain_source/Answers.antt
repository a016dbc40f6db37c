use Rattle.std.proofs.Common.{rules}
use Rattle.command_files.specs.Sources.{SpellsImage}
use Rattle.sct_command.proofs.Stands.{has_source, written_text}
use Rattle.sct_command.proofs.Told.{found_done, found_refused, told_bytes}
use Rattle.sct_command.proofs.explain.explain_source.Goals as goal

pub returns-in_ok-image-in-Ok-clause-done : goal.returns-in_ok-image-in-Ok-clause-done
returns-in_ok-image-in-Ok-clause-done g c =
    let spells : SpellsImage c.args.bytes.now c.image-in-Ok.result.now = search rules in
    λ files held. found_done c.tell_found.result files _ _ _ _ _ _ held c.requires.stands spells c.tell_found.ensures.done

pub returns-in_ok-image-in-Ok-clause-refused : goal.returns-in_ok-image-in-Ok-clause-refused
returns-in_ok-image-in-Ok-clause-refused g c =
    let spells : SpellsImage c.args.bytes.now c.image-in-Ok.result.now = search rules in
    λ files held. found_refused c.tell_found.result files _ _ _ _ _ _ held c.requires.stands spells c.tell_found.ensures.refused

pub returns-in-Err-clause-refused : goal.returns-in-Err-clause-refused
returns-in-Err-clause-refused g c = λ files held. told_bytes files _ _ _ _ _ _
    (has_source files _ _ _ held c.requires.stands) c.in-Err.ensures.fault c.refused.ensures.told

pub tell_found-requires : goal.tell_found-requires
tell_found-requires g c = written_text c.args.written.now c.args.bytes.now c.in-Ok.image c.requires.stands c.in-Ok.ensures.compiled
