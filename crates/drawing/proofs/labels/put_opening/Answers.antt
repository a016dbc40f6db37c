use Rattle.drawing.proofs.Putting.{follows, put_as}
use Rattle.drawing.proofs.labels.put_opening.Goals as goal

pub returns : goal.returns
returns c = follows _ _ _ _ _ c.put.ensures
    (follows _ _ _ _ _ c.put_number.ensures
    (follows _ _ _ _ _ c.put-2.ensures
    (follows _ _ _ _ _ (put_as _ _ _ _ c.kind_word.ensures c.put-3.ensures)
    (put_as _ _ _ _ c.immediate_text.ensures c.put-4.ensures))))
