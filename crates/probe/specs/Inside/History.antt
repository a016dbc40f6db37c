-- The history of published ticks: a list that only grows, with two words that count it.
use Rattle.std.specs.Prelude.{ℕ, zero, suc, ◌≡◌, ◌+◌, ◌-◌, ◌^◌, ◌<◌, ◌≤◌, true, List, [], ◌∷◌, ◌++◌, length}
use Rattle.logbook.specs.Pages.{Cell, Step, View, Book, Named}
use Rattle.probe.specs.Outputs.{Outputs}

abbrev pub greatest : ℕ
greatest = 2 ^ 64 - 1

-- the first word counts up to its greatest number, and then the second one goes on
pub record Counts (low high n : ℕ) : Type 0 where
  pub sum : n ≡ low + high
  pub fits : low ≤ greatest
  pub full : 0 < high → low ≡ greatest

pub record IsCounted (cells : List Cell) (log : List Outputs) : Type 0 where
  pub low : ℕ
  pub high : ℕ
  pub cells_are : cells ≡ (low, true) ∷ (high, true) ∷ []
  pub counts : Counts low high (length log)

-- the word that a book holds under this key
abbrev pub word_of : Book → ℕ → Named
word_of b key = record { tracked = true; key = key; book = b }

-- where the word was found as expected, the tick was added to all that had been seen
abbrev pub Adds : Step Outputs → View Outputs ℕ → ℕ → View Outputs ℕ → Type 0
Adds s v found w = found ≡ s.old → w.0 ≡ v.0 ++ s.ask ∷ []

-- after n ticks the word under this key counts the next one, and holds so much
abbrev pub IsNext : ℕ → ℕ → ℕ → Type 0
IsNext zero held n = Counts held 0 n
IsNext (suc key) held n = (key ≡ 0) × Counts greatest held n
