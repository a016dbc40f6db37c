use Rattle.std.proofs.Common.{string_bytes, ap}
use Rattle.drawing.specs.Labels.{effects_text, immediate_text, kind_word}
use Rattle.drawing.proofs.Putting.{finished, follows, opened_words, put_as}
use Rattle.drawing.proofs.labels.words_text.Goals as goal

pub returns : goal.returns
returns c =
    finished string_bytes _ _ _ _ c.new-text.ensures
    (put_as _ _ _ _ (opened_words _ (kind_word c.args.transition.now.kind) (immediate_text c.args.transition.now.immediate) _)
    (follows _ _ _ _ _ c.put_opening.ensures
    (follows _ _ _ _ _ c.put.ensures
    (follows _ _ _ _ _
    (put_as _ _ _ _ (ap (effects_text c.args.symbols.now c.args.signals.now _) c.as_slice-own.ensures) c.put_effects.ensures)
    (follows _ _ _ _ _ c.put-2.ensures c.put-3.ensures)))))
    c.finish.ensures
