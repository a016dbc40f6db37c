use Rattle.std.proofs.Common.{◌<◌}
use Rattle.diagnostics.proofs.Following.{begun, adds_next, all_taken}
use Rattle.diagnostics.proofs.could_follow.continuations.words.Goals as goal

pub loop-word-init : goal.loop-word-init
loop-word-init c = begun _ _ c.new-found.ensures

pub loop-word-preserved : goal.loop-word-preserved
loop-word-preserved c =
    let within : c.loop-word.word-index < 30 = c.loop-word-test.true in
    adds_next _ _ _ _ c.loop-word.word-index _ within c.loop-word.invariant c.in_ok-add_word.ensures

pub returns : goal.returns
returns c = all_taken _ _ _ c.loop-word.word-index c.loop-word-test.false c.loop-word.invariant
