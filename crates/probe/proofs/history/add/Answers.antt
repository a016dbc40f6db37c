use Rattle.std.proofs.Common.{sym, ◌∙◌, ap}
use Rattle.probe.proofs.Adding.{adds_moves}
use Rattle.probe.proofs.history.add.Goals as goal

pub compare_exchange-found-requires : goal.compare_exchange-found-requires
compare_exchange-found-requires c =
    let offer = c.plain-offer.ensures in
    let pen = c.no_pen-pen.ensures in
    let book = ap (λ w. w.book) c.requires.word in (
      ap (λ w. w.tracked) c.requires.word,
      sym book,
      pen.0 ∙ sym book,
      offer.0,
      rw (pen.1, offer.1, offer.3) (adds_moves c.args.seen.now.log c.args.row.now c.args.held c.args.word.now.key c.requires.next c.requires.room),
    )
