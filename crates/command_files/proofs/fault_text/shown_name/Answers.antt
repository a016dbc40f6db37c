use Rattle.std.proofs.lemmas.Grind.{common_steps}
use Rattle.std.proofs.Common.{◌∙◌, ◌++◌, ap, string_bytes, arith}
use Rattle.std.specs.Char.{encode_utf8}
use Rattle.std.specs.Str.Iter.{chars_rest}
use Rattle.command_files.proofs.Naming.{one_shown}
use Rattle.command_files.proofs.fault_text.shown_name.Goals as goal

pub loop-letter-preserved : goal.loop-letter-preserved
loop-letter-preserved c =
    let l = c.loop-letter in
    let letter = ap (λ x. string_bytes l.shown ++ encode_utf8 x) c.shown_char.ensures in
    one_shown (string_bytes l.shown) (string_bytes c.push.new.self) (chars_rest l.letter-iterator) (chars_rest c.next.new.self) c.args.name.now c.in-Some.letter
    l.invariant c.in-Some.ensures.steps.0 (c.in_ok-push.ensures.bytes ∙ letter)

pub returns : goal.returns
returns c = grind (arith, common_steps) steps 2000000
