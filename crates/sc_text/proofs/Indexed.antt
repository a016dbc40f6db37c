-- Names in a table, put there from the last to the first.
use Rattle.std.proofs.Common.{◌≡◌, ℕ, suc, ◌+◌, ◌-◌, ◌<◌, Bool, true, false, cond, Option, Some, None, List, [], drop, slice_get, refl, sym, ◌∙◌, ap, arith}
use Rattle.std.specs.Prelude.{option_map, nat_eq}
use Rattle.std.specs.Str.{bytes_eq}
use Rattle.std.specs.BTreeMap as tree
use Rattle.std.specs.HashMap as hash
use Rattle.std.specs.Map.{lookup}
use Rattle.std.specs.Cmp.Lexicographic.{pointwise, slice_cmp}
use Rattle.std.specs.Ordering.{nat_cmp, is_eq}
use Rattle.sc_text.specs.declared.drafts.index.Index.{Index}
use Rattle.sc_text.specs.Index.{IsIndex, first_place}
use Rattle.sc_text.specs.Flaws.{first_or, place_among}
use Rattle.sc_text.proofs.PartsInOrder.{drop_is}

-- the place of a name among those from this place on
abbrev pub place_from : ℕ → List (List ℕ) → List ℕ → Option ℕ
place_from at names q = option_map (λ p. at + p) (place_among (drop at names) q)

one_more : (at : ℕ) (later : Option ℕ) → option_map (λ p. (at + 1) + p) later ≡ option_map (λ p. at + p) (option_map suc later)
one_more at None = refl
one_more at (Some p) = ap Some (omega arith)

first : (at : ℕ) (b : Bool) (later : Option ℕ) → cond b (Some at) (option_map (λ p. (at + 1) + p) later) ≡ option_map (λ p. at + p) (first_or b later)
first at true later = ap Some (omega arith)
first at false later = one_more at later

-- what a table holds once the name before the others is put into it
pub one_before : (f g : List ℕ → Option ℕ) (names : List (List ℕ)) (left : ℕ) (name : List ℕ) → 0 < left → slice_get names (left - 1) ≡ Some name
    → ((q : List ℕ) → f q ≡ place_from left names q) → ((q : List ℕ) → g q ≡ cond (bytes_eq name q) (Some (left - 1)) (f q)) → (q : List ℕ)
    → g q ≡ place_from (left - 1) names q
one_before f g names left name some is was more q =
    let next : left ≡ (left - 1) + 1 = omega (arith, some) in
    more q
    ∙ ap (cond (bytes_eq name q) (Some (left - 1))) (was q ∙ ap (λ at. place_from at names q) next)
    ∙ first (left - 1) (bytes_eq name q) (place_among (drop ((left - 1) + 1) names) q)
    ∙ ap (λ some. option_map (λ p. (left - 1) + p) (place_among some q)) (sym (drop_is names (left - 1) name is))

-- ---- all names in one of two tables

first_alone : (o other : Option ℕ) → other ≡ None → first_place o other ≡ o
first_alone None other e = e
first_alone (Some p) other e = refl

pub hashed_alone : (names : List (List ℕ)) (index : Index) → index.ordered.entries ≡ []
    → ((q : List ℕ) → hash.get (pointwise nat_eq) index.hashed q ≡ place_among names q) → IsIndex names index
hashed_alone names index bare is = record {
  places = λ q. first_alone (hash.get (pointwise nat_eq) index.hashed q) (tree.get (slice_cmp nat_cmp) index.ordered q)
      (ap (lookup (λ k. is_eq (slice_cmp nat_cmp q k))) bare) ∙ is q;
}

pub ordered_alone : (names : List (List ℕ)) (index : Index) → index.hashed.entries ≡ []
    → ((q : List ℕ) → tree.get (slice_cmp nat_cmp) index.ordered q ≡ place_among names q) → IsIndex names index
ordered_alone names index bare is = record {
  places = λ q. ap (λ o. first_place o (tree.get (slice_cmp nat_cmp) index.ordered q)) (ap (lookup (pointwise nat_eq q)) bare) ∙ is q;
}
