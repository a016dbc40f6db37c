use Rattle.std.proofs.Common.{◌≡◌, ◌≤◌, drop}
use Rattle.sc_text.specs.Flaws.{variable_names, variable_flaws}
use Rattle.sc_text.specs.Told.{told_behind}
use Rattle.sc_text.proofs.drafts.scope.Scope.tell_declarations.Given as goal

abbrev pub invariant-loop-at : goal.invariant-loop-at
invariant-loop-at l =
    (told_behind l.found (variable_flaws (variable_names l.self.variables.now) l.at l.outputs (drop l.at l.self.variables.now))
    ≡ told_behind l.fn.found (variable_flaws (variable_names l.self.variables.now) 0 0 l.self.variables.now)) × (l.outputs ≤ l.at)
