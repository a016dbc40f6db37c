use Rattle.std.proofs.Common.{◌≡◌, map, drop}
use Rattle.sc_text.specs.Told.{told_behind}
use Rattle.extended_reader.specs.Flaws.{joined, name_flaws}
use Rattle.extended_reader.proofs.text_drafts.name_flaws.variable_name_flaws.Given as goal

abbrev pub invariant-loop-variable : goal.invariant-loop-variable
invariant-loop-variable l =
    told_behind l.found (joined (map (λ x. name_flaws x.named) (drop l.variable-index l.variables)))
    ≡ told_behind l.fn.found (joined (map (λ x. name_flaws x.named) l.variables))
