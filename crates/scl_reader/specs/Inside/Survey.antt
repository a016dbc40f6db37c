-- What functions that look for the flaws of a draft say of themselves. It is proved, and no public contract rests on what
-- it means.
use Rattle.std.specs.Prelude.{ℕ, List, [], ◌∷◌, ◌++◌, map}
use Rattle.sc_text.specs.declared.drafts.flaw.Flaw.{Flaw}
use Rattle.sc_text.specs.declared.drafts.parts.Named.{Named}
use Rattle.sc_text.specs.declared.drafts.parts.Declaration.{Declaration}
use Rattle.sc_text.specs.Told.{told_behind}
use Rattle.scl_reader.specs.declared.text_drafts.survey.Thread.{Thread}
use Rattle.scl_reader.specs.declared.text_drafts.survey.Found.{Found}
use Rattle.scl_reader.specs.Statements.{Statements}
use Rattle.scl_reader.specs.Flaws.{Part, nothing, parts_of}

-- what is gathered on the way through a thread's text: its labels and its gotos, all labels, and the flaws that are told
pub record Survey : Type 0 where
  pub labels : List Named
  pub gotos : List Named
  pub all : List Named
  pub told : List Flaw

abbrev pub survey : Thread → Found → Survey
survey own found = record { labels = own.labels; gotos = own.gotos; all = found.labels; told = found.told }

-- the same behind one more piece
abbrev pub behind : Survey → Part → Survey
behind s p =
    record {
      labels = s.labels ++ p.labels;
      gotos = s.gotos ++ p.gotos;
      all = s.all ++ p.all;
      told = told_behind s.told p.flaws;
    }

-- what is found in all threads, behind whole threads
abbrev pub found_behind : Found → Part → Found
found_behind found p = record { labels = found.labels ++ p.all; told = told_behind found.told p.flaws }

abbrev pub label_part : Named → Part
label_part label = record nothing { labels = label ∷ []; all = label ∷ [] }

-- the parts of branches, each with the place of its word
abbrev pub branch_parts : List Declaration → List (ℕ × Statements) → List (ℕ × List Part)
branch_parts variables branches = map (λ b. (b.0, parts_of variables b.1)) branches
