-- Where a trace is not the one that is wanted.
use Rattle.std.specs.Prelude.{ℕ, ◌≡◌, ◌≢◌, ◌+◌, Option, List, ◌++◌, length, option_map, slice_get}
use Rattle.trace_player.specs.Trace.{lines_of}
use Rattle.controller_tests.specs.declared.difference.Difference.{Difference}

-- they have the same lines: they are the same bytes, but that the line feed behind the last line may be missing
abbrev pub AreSameLines : List ℕ → List ℕ → Type 0
AreSameLines wanted got = lines_of wanted ≡ lines_of got

-- both begin with the same lines; the next is that of this number, from 1, and is not the same, or one has ended
pub record DifferAt (wanted got : List ℕ) (number : ℕ) (line other : Option (List ℕ)) : Type 0 where
  pub alike : List (List ℕ)
  pub rest : List (List ℕ)
  pub others : List (List ℕ)
  pub wanted_lines : lines_of wanted ≡ alike ++ rest
  pub got_lines : lines_of got ≡ alike ++ others
  pub count : number ≡ length alike + 1
  pub line_is : line ≡ slice_get rest 0
  pub other_is : other ≡ slice_get others 0
  pub differ : line ≢ other

-- the line that is wanted, and the one that is there
abbrev pub wanted_line : Difference → Option (List ℕ)
wanted_line d = option_map (λ bytes. bytes.items) d.wanted

abbrev pub got_line : Difference → Option (List ℕ)
got_line d = option_map (λ bytes. bytes.items) d.got

-- the first line in which they differ
abbrev pub IsFirstDifference : List ℕ → List ℕ → Difference → Type 0
IsFirstDifference wanted got d = DifferAt wanted got d.line (wanted_line d) (got_line d)
