use Rattle.grammar.proofs.Told.{told, told_spelled, told_fault}
use Rattle.sc_text.specs.Expression.{expression}
use Rattle.sc_text.proofs.Deepens.{is_language}
use Rattle.sc_text.proofs.Longer as longer
use Rattle.sc_text.proofs.laws.expressions_are_told.Goals as goal

pub returns : goal.returns
returns c =
    record {
      told = told expression is_language;
      spelled = told_spelled expression is_language;
      faulty = told_fault expression is_language;
      within = longer.within expression is_language;
      begun = longer.begun expression is_language;
      stopped = longer.stopped expression is_language;
    }
