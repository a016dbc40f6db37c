use Rattle.grammar.proofs.Told.{told, told_spelled, told_fault}
use Rattle.extended_reader.specs.ExtendedText.{extended_text}
use Rattle.extended_reader.proofs.Deepens.{is_language}
use Rattle.extended_reader.proofs.text_drafts.laws.extended_texts_are_told.Goals as goal

pub returns : goal.returns
returns c =
    record {
      told = told extended_text is_language;
      spelled = told_spelled extended_text is_language;
      faulty = told_fault extended_text is_language;
    }
