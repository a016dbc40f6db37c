-- Whether a text is written as that of an extended chart: its first token tells.
use Rattle.std.specs.Prelude.{ℕ, List, codes}
use Rattle.extended_reader.specs.Comments.{without_comments}
use Rattle.sc_text.specs.FirstToken.{BeginsWith}

abbrev pub extended : List ℕ
extended = codes "extended"

-- the first token of the text is the word `extended`, where its block comments are left out
abbrev pub BeginsExtended : List ℕ → Type 0
BeginsExtended text = BeginsWith extended (without_comments text)
