-- Tables of names: where each name stands among those of which the table was made.
use Rattle.std.specs.Prelude.{ℕ, ◌≡◌, Option, Some, None, List, nat_eq}
use Rattle.std.specs.BTreeMap as tree
use Rattle.std.specs.HashMap as hash
use Rattle.std.specs.Cmp.Lexicographic.{pointwise, slice_cmp}
use Rattle.std.specs.Ordering.{nat_cmp}
use Rattle.sc_text.specs.declared.drafts.index.Index.{Index}
use Rattle.sc_text.specs.Flaws.{place_among}

-- what the first of two tables has, or else the second
abbrev pub first_place : Option ℕ → Option ℕ → Option ℕ
first_place (Some p) other = Some p
first_place None other = other

-- at each name stands its place among these
pub record IsIndex (names : List (List ℕ)) (index : Index) : Type 0 where
  pub places : (q : List ℕ) → first_place (hash.get (pointwise nat_eq) index.hashed q) (tree.get (slice_cmp nat_cmp) index.ordered q) ≡ place_among names q
