-- The number of a name that is found stands below the end of the names.
use Rattle.std.proofs.Common.{◌≡◌, ℕ, ◌<◌, true, Option, Some, None, List, length, refl}
use Rattle.std.specs.Prelude.{unwrap_or}
use Rattle.std.specs.Option.{is_some}
use Rattle.sc_text.specs.Flaws.{place_among, is_among}
use Rattle.sc_text.specs.Resolved.{number_of}
use Rattle.sc_text.proofs.Resolving.{place_below}

pub number_below : (names : List (List ℕ)) (name : List ℕ) → is_among names name ≡ true → number_of names name < length names
number_below names name e = by_place (place_among names name) refl e
  where
    by_place : (o : Option ℕ) → place_among names name ≡ o → is_some o ≡ true → unwrap_or o 0 < length names
    by_place None was e = absurd cc
    by_place (Some k) was e = place_below names name k was
