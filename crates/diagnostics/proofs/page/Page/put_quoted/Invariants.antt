use Rattle.diagnostics.specs.Inside.Pages.{KeepsRefusal}
use Rattle.diagnostics.proofs.page.Page.put_quoted.Given as goal

abbrev pub invariant-loop-letter : goal.invariant-loop-letter
invariant-loop-letter l = KeepsRefusal l.fn.self l.self
