-- A name that is found stands below the end of the names, so the number of a variable that is declared fits.
use Rattle.std.proofs.Common.{◌≡◌, ℕ, suc, refl, ◌<◌, ◌≤◌, Bool, true, false, Option, Some, None, List, [], ◌∷◌, length, sym, arith}
use Rattle.std.specs.Str.{bytes_eq}
use Rattle.std.proofs.lemmas.List.{length-map}
use Rattle.sc_graph.specs.Limits.{variable_limit}
use Rattle.sc_text.specs.declared.drafts.parts.Declaration.{Declaration}
use Rattle.sc_text.specs.Flaws.{first_or, place_among, variable_names}

-- where a name stands among others
pub place_below : (names : List (List ℕ)) (name : List ℕ) (at : ℕ) → place_among names name ≡ Some at → at < length names
place_below [] name at e = absurd cc
place_below (n ∷ names) name at e = by_name (bytes_eq n name) (place_among names name) refl e (λ k was. place_below names name k was)
  where
    by_name : (b : Bool) (later : Option ℕ) → place_among names name ≡ later → first_or b later ≡ Some at
        → ((k : ℕ) → place_among names name ≡ Some k → k < length names) → at < suc (length names)
    by_name true later was e below = let same : 0 ≡ at = cc in omega (arith, same)
    by_name false None was e below = absurd cc
    by_name false (Some k) was e below =
        let same : suc k ≡ at = cc in
        let under = below k was in
        omega (arith, same, under)

pub number_fits : (V : List Declaration) (name : List ℕ) (at : ℕ) → Some at ≡ place_among (variable_names V) name → length V ≤ variable_limit → at ≤ 65535
number_fits V name at e few =
    let below = place_below (variable_names V) name at (sym e) in
    let long = length-map V (λ x. x.named.name) in
    omega (arith, below, long, few)
