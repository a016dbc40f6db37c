-- What is known of a publisher's ticks.
use Rattle.std.specs.Prelude.{ℕ, ◌≡◌, ◌-◌, ◌^◌, Option, None, List, length, min, take}
use Rattle.std.specs.List.{last_or}
use mathlib.Core.List.{IsPrefix}
use Rattle.logbook.specs.Pages.{Book}
use Rattle.probe.specs.Outputs.{Outputs}

-- of which publisher it is known, and with which rows of outputs its list begins: the opening row, which shows the
-- outputs before the first tick, and a row for each published tick
pub record Progress : Type 0 where
  pub publisher : Book
  pub rows : List Outputs

-- q knows all that p knows
pub record Extends (p q : Progress) : Type 0 where
  pub publisher : q.publisher ≡ p.publisher
  pub rows : IsPrefix p.rows q.rows

-- the same publisher, before its first tick
abbrev pub origin_of : Progress → Progress
origin_of p = record p { rows = take 1 p.rows }

-- how many ticks there are, the opening row aside. The number stays at its greatest
abbrev pub count_of : Progress → ℕ
count_of p = min (length p.rows - 1) (2 ^ 64 - 1)

-- the last row
abbrev pub last_of : Progress → Option Outputs
last_of p = last_or None p.rows
