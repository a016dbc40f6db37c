-- What private functions alone say of themselves. It is proved, and no public contract rests on what it means.
use Rattle.std.specs.Prelude.{ℕ, ◌≡◌, ◌≤◌, IsTrue, List, ◌++◌, length, map, take, drop}
use Rattle.extended_reader.specs.declared.comments.part.Part.TheVariants as part
use Rattle.extended_reader.specs.Comments.{is_closed, blank, cleared, without_comments}

-- the first n of these bytes of a block comment end it
pub record Ends (bytes : List ℕ) (n : ℕ) : Type 0 where
  pub within : n ≤ length bytes
  pub closed : IsTrue (is_closed part.Block bytes)
  pub cleared : cleared part.Block bytes ≡ map blank (take n bytes) ++ without_comments (drop n bytes)
