use Rattle.std.proofs.Common.{◌≡◌, map, drop}
use Rattle.sc_text.specs.Told.{told_behind}
use Rattle.extended_reader.specs.Flaws.{joined, emissions_flaws}
use Rattle.extended_reader.proofs.text_drafts.emission_flaws.ways_flaws.Given as goal

abbrev pub invariant-loop-transition : goal.invariant-loop-transition
invariant-loop-transition l =
    told_behind l.found (joined (map (λ t. emissions_flaws l.signals.variables.now t.effects) (drop l.transition-index l.transitions)))
    ≡ told_behind l.fn.found (joined (map (λ t. emissions_flaws l.signals.variables.now t.effects) l.transitions))
