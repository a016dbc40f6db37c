use Rattle.std.proofs.lemmas.Grind.{common_steps}
use Rattle.std.proofs.Common.{arith}
use Rattle.extended_reader.proofs.text_drafts.name_flaws.has_doubled.Goals as goal

pub returns-then-is_underscore : goal.returns-then-is_underscore
returns-then-is_underscore c = grind (arith, common_steps) steps 2000000

pub loop-byte-preserved : goal.loop-byte-preserved
loop-byte-preserved c = grind (arith, common_steps) steps 2000000
