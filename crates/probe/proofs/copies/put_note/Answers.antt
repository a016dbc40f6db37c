use Rattle.std.proofs.Common.{◌≡◌, List, ap, ◌∙◌, drop, fold, [], ◌∷◌, ◌++◌}
use Rattle.probe.specs.Progress.{Progress}
use Rattle.probe.proofs.Seats.{shows}
use Rattle.probe.proofs.copies.put_note.Goals as goal

pub publish_as-requires : goal.publish_as-requires
publish_as-requires g c next is =
    let logged = c.if-not-log.ensures in
    let one : drop c.log.new.writer.behind c.log.new.writer.log.items ≡ c.args.next ∷ [] = logged.log
    ∙ ap (λ (notes : List Progress). notes ++ c.args.next ∷ []) c.requires.idle in
    let same : next ≡ c.args.next = is ∙ ap (fold (λ (shown new : Progress). new) c.log.new.writer.desk.shown.value) one in
    shows _ next (rw (same, logged.desk) c.requires.next) _ _
