use Rattle.std.proofs.lemmas.Grind.{common_steps}
use Rattle.std.proofs.Common.{◌≡◌, refl, subst, sym, arith, rules}
use Rattle.command_words.specs.Request.{WritesFiles}
use Rattle.sct_command.proofs.Wanted.{memory_refused}
use Rattle.sct_command.proofs.commands.command.Goals as goal

pub returns-in-Err-Memory-clause-refused : goal.returns-in-Err-Memory-clause-refused
returns-in-Err-Memory-clause-refused g c = λ status. memory_refused _ _ _ _ _ c.in-Err-Memory.ensures.unread refl refl refl refl c.refuse.ensures.line

pub returns-clause-files : goal.returns-clause-files
returns-clause-files g c =
    subst (λ request. ¬ WritesFiles request → g.F.Files.contents c.perform.new.files ≡ g.F.Files.contents c.args.files.now) (sym c.in-Ok.ensures.asked)
    c.perform.ensures.files

pub returns-clause-end : goal.returns-clause-end
returns-clause-end g c = grind (arith, common_steps) steps 2000000

pub returns-clause-refused : goal.returns-clause-refused
returns-clause-refused g c = grind (arith, common_steps) steps 2000000

pub returns-in-Ok-perform-clause-done : goal.returns-in-Ok-perform-clause-done
returns-in-Ok-perform-clause-done g c = grind (arith, common_steps) steps 2000000

pub returns-clause-done : goal.returns-clause-done
returns-clause-done g c = grind (arith, common_steps) steps 2000000

pub returns-in-Ok-perform-clause-beside : goal.returns-in-Ok-perform-clause-beside
returns-in-Ok-perform-clause-beside g c = grind (arith, common_steps) steps 2000000

pub returns-in-Ok-perform-clause-refused : goal.returns-in-Ok-perform-clause-refused
returns-in-Ok-perform-clause-refused g c = grind (arith, common_steps) steps 2000000

pub returns-clause-misused : goal.returns-clause-misused
returns-clause-misused g c = grind (arith, common_steps) steps 2000000

pub returns-clause-beside : goal.returns-clause-beside
returns-clause-beside g c = grind (arith, common_steps) steps 2000000

pub returns-in-Ok-perform-clause-misused : goal.returns-in-Ok-perform-clause-misused
returns-in-Ok-perform-clause-misused g c = grind (arith, common_steps) steps 2000000

pub returns-in-Ok-perform-clause-end : goal.returns-in-Ok-perform-clause-end
returns-in-Ok-perform-clause-end g c = grind (arith, common_steps) steps 2000000

pub returns-in-Ok-perform-clause-unread : goal.returns-in-Ok-perform-clause-unread
returns-in-Ok-perform-clause-unread g c = search rules
