use Rattle.std.proofs.Common.{◌≡◌, ◌+◌, [], ◌∷◌, drop, ap, sym}
use Rattle.std.proofs.lemmas.List.{drop_all}
use Rattle.drawing.specs.Labels.{further_text}
use Rattle.drawing.proofs.Putting.{follows, nothing, put_as, split_at}
use Rattle.drawing.proofs.labels.put_further.Goals as goal

pub loop-effect-preserved : goal.loop-effect-preserved
loop-effect-preserved c = λ new h.
    let xs : _ = c.args.effects.now in
    let i : _ = c.loop-effect.effect-index in
    let split : drop i xs ≡ c.effect-item.result ∷ drop (i + 1) xs = split_at xs i c.effect-item.result c.loop-effect-test.true c.effect-item.is in
    c.loop-effect.invariant new
    (put_as _ _ _ _ (sym (ap (further_text c.args.symbols.now c.args.signals.now) split))
    (follows _ _ _ _ _ c.put.ensures (follows _ _ _ _ _ c.put_effect.ensures h)))

pub returns : goal.returns
returns c =
    let xs : _ = c.args.effects.now in
    let i : _ = c.loop-effect.effect-index in
    let none : drop i xs ≡ [] = drop_all i xs c.loop-effect-test.false in
    c.loop-effect.invariant _ (put_as _ _ _ _ (sym (ap (further_text c.args.symbols.now c.args.signals.now) none)) (nothing _))
