use Rattle.std.proofs.Common.{drop}
use Rattle.drawing.specs.Labels.{further_text}
use Rattle.drawing.specs.declared.text.Text.{Text}
use Rattle.drawing.specs.Inside.Puts.{Puts}
use Rattle.drawing.proofs.labels.put_further.Given as goal

abbrev pub invariant-loop-effect : goal.invariant-loop-effect
invariant-loop-effect l = (new : Text) → Puts l.text new (further_text l.symbols l.signals (drop l.effect-index l.effects))
    → Puts l.initial.text new (further_text l.symbols l.signals l.effects)
