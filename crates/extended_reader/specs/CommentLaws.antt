-- What holds of a text without its block comments.
use Rattle.std.specs.Prelude.{ℕ, ◌≡◌, ◌↔◌, List, length, get_or}
use Rattle.extended_reader.specs.Comments.{line_feed, without_comments}

-- what is left stands where it stood, in the same line
pub record CommentsKeepPlaces : Type 0 where
  pub long : (text : List ℕ) → length (without_comments text) ≡ length text
  pub lines : (text : List ℕ) (i : ℕ) → (get_or (without_comments text) i 0 ≡ line_feed) ↔ (get_or text i 0 ≡ line_feed)
