-- What private functions alone say of themselves. It is proved, and no public contract rests on what it means.
pub mod Same
use Rattle.std.specs.Prelude.{ℕ, ◌<◌, ◌≤◌, ◌↔◌, List, length, drop}
use Rattle.sc_text.specs.FirstToken.{IsNext}
use Rattle.chart_texts.specs.FirstWord.{extended, BeginsExtended}

-- whether the text is one of an extended chart, what stands behind its first n bytes tells
pub record PassesFront (text : List ℕ) (n : ℕ) : Type 0 where
  pub some : 0 < n
  pub within : n ≤ length text
  pub same : BeginsExtended (drop n text) ↔ BeginsExtended text

-- it is one exactly if its first bytes are the word
abbrev pub PassesNoFront : List ℕ → Type 0
PassesNoFront text = IsNext extended text ↔ BeginsExtended text
