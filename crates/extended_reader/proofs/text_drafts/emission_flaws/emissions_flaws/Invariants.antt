use Rattle.std.proofs.Common.{◌≡◌, map, drop}
use Rattle.sc_text.specs.Told.{told_behind}
use Rattle.extended_reader.specs.Flaws.{joined, emission_flaws}
use Rattle.extended_reader.proofs.text_drafts.emission_flaws.emissions_flaws.Given as goal

abbrev pub invariant-loop-effect : goal.invariant-loop-effect
invariant-loop-effect l =
    told_behind l.found (joined (map (emission_flaws l.signals.variables.now) (drop l.effect-index l.effects)))
    ≡ told_behind l.fn.found (joined (map (emission_flaws l.signals.variables.now) l.effects))
