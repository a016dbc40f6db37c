-- The core chart of a chart keeps the rules of core charts, where the variables that are added are not too many.
use Rattle.std.proofs.Common.{◌≡◌, ◌≢◌, ℕ, ◌+◌, ◌≤◌, ◌^◌, Bool, false, None, List, [], ◌∷◌, ◌++◌, map, length, count_by, refl, ap, sym, subst, ◌∙◌, arith}
use Rattle.std.specs.Prelude.{decimal}
use Rattle.std.proofs.lemmas.List.{length-append, map-append, append-nil}
use Rattle.sc_graph.specs.declared.program.Variable.{Variable}
use Rattle.sc_graph.specs.Limits.{variable_limit}
use Rattle.sc_graph.specs.Size.{is_output}
use Rattle.sc_text.specs.declared.language.Language.TheVariants as languages
use Rattle.sc_text.specs.Parts.{IsNameIn, AreVariables}
use Rattle.core_charts.specs.declared.features.Features.TheVariants as features
use Rattle.core_charts.specs.declared.region.Region.{Region}
use Rattle.core_charts.specs.Chart.{Chart}
use Rattle.core_charts.specs.Rules.{AreRegions, IsChart}
use Rattle.sc_text.proofs.AddedNames.{added_is_named}
use Rattle.sc_text.proofs.EachItem.{Each, each_append, each_of, each_at, each_more, each_map}
use Rattle.abort_expansion.specs.Flags.{local}
use Rattle.abort_expansion.specs.Pieces.{superstates_in, variables_in}
use Rattle.abort_expansion.specs.Expansion.{piece_of_region, whole, expansion, expanded, IsExpandable}
use Rattle.abort_expansion.proofs.Lists.{count, count_is, count_append, count_none}
use Rattle.abort_expansion.proofs.Apart.{Unlike, Apart, IsAdded, IsText, apart_append, apart_if_distinct, distinct_if_apart, text_is_named, text_has_no_bar}
use Rattle.abort_expansion.proofs.Added.{Located, AreAdded}
use Rattle.abort_expansion.proofs.Joined.{RegionsKeep, region_names, regions_named, regions_added, regions_keep}
use Rattle.abort_expansion.proofs.Inner.{side_by_side, as_many_names}
use Rattle.abort_expansion.proofs.CoreRulesKept.{AreInside, inner_keep}

-- ---- the variables

-- added ones stand behind the declared ones
behind : (declared more : List Variable) → Located (declared ++ more) (length declared) more
behind declared more = record {
  before = declared;
  behind = [];
  is = sym (append-nil (declared ++ more));
  number = refl;
}

no_output : (v : Variable) → v ≡ local v.name → is_output v.role ≡ false
no_output v is = ap (λ w. is_output w.role) is

as_many_outputs : (declared more : List Variable) → Each (λ v. v ≡ local v.name) more
    → count_by (λ v. is_output v.role) (declared ++ more) ≡ count_by (λ v. is_output v.role) declared
as_many_outputs declared more locals =
    let p : Variable → Bool = λ v. is_output v.role in
    let none : count p more ≡ 0 = count_none p more (each_more (λ v. v ≡ local v.name) (λ v. is_output v.role ≡ false) more no_output locals) in
    omega (arith, count_is p (declared ++ more), count_append p declared more, count_is p declared, none)

added_named : (low high : ℕ) (name : List ℕ) → IsAdded 256 low high name → IsNameIn languages.Scl name
added_named low high name h = subst (IsNameIn languages.Scl) (sym h.is) (added_is_named (h.letter ∷ decimal h.number))

text_not_added : (low high : ℕ) (text name : List ℕ) → IsText text → IsAdded 256 low high name → text ≢ name
text_not_added low high text name h k same = text_has_no_bar text (k.letter ∷ decimal k.number) h (same ∙ k.is)

abbrev names : List Variable → List (List ℕ)
names those = map (λ v. v.name) those

each_name : (P : List ℕ → Type 0) (those : List Variable) → Each P (names those) → Each (λ v. P v.name) those
each_name P [] h = tt
each_name P (v ∷ those) h = (h.0, each_name P those h.1)

texts_of : (declared : List Variable) → AreVariables languages.Chart declared → Each IsText (names declared)
texts_of declared h = each_map IsText (λ v. v.name) declared (each_of (λ v. IsText v.name) declared h.named)

all_variables : (declared more : List Variable) (low high size : ℕ) → AreVariables languages.Chart declared → AreAdded low high size more
    → length (declared ++ more) ≤ variable_limit → AreVariables languages.Scl (declared ++ more)
all_variables declared more low high size h k fits =
    let texts : Each IsText (names declared) = texts_of declared h in
    let cross : Each (Unlike (names more)) (names declared) =
    each_more IsText (Unlike (names more)) (names declared)
    (λ text is. each_more (IsAdded 256 low high) (λ name. text ≢ name) (names more) (λ name added. text_not_added low high text name is added) k.named) texts in
    let all_named : Each (IsNameIn languages.Scl) (names declared ++ names more) =
    each_append (IsNameIn languages.Scl) (names declared) (names more)
    (each_more IsText (IsNameIn languages.Scl) (names declared) text_is_named texts)
    (each_more (IsAdded 256 low high) (IsNameIn languages.Scl) (names more) (added_named low high) k.named) in
    let together : names declared ++ names more ≡ names (declared ++ more) = sym (map-append (λ v. v.name) declared more) in
    record {
      count = fits;
      outputs = omega (arith, as_many_outputs declared more k.locals, h.outputs);
      named =
          each_at (λ v. IsNameIn languages.Scl v.name) (declared ++ more)
          (each_name (IsNameIn languages.Scl) (declared ++ more) (subst (Each (IsNameIn languages.Scl)) together all_named));
      distinct =
          distinct_if_apart (names (declared ++ more))
          (subst Apart together (apart_append (names declared) (names more) (apart_if_distinct (names declared) h.distinct) k.apart cross));
    }

-- ---- the regions

-- the superstates are so few that their numbers are apart
abbrev pub AreFew : Chart → Type 0
AreFew c = 1 + superstates_in (map piece_of_region c.regions) ≤ 2 ^ 64

kept : (c : Chart) → IsChart features.Extended c → RegionsKeep (expanded c).variables 31 c.regions
kept c h = (inner_keep c.variables (expansion c).variables 32 c.regions h.regions).0

added : (c : Chart) → IsChart features.Extended c → AreFew c
    → AreAdded 1 (1 + superstates_in (map piece_of_region c.regions)) (variables_in false (map piece_of_region c.regions)) (expansion c).variables
added c h few = regions_added (expanded c).variables 31 c.regions [] None (whole (length c.variables)) (kept c h) few

-- how many variables the core chart has
pub as_many_variables : (c : Chart) → IsChart features.Extended c → AreFew c
    → length (expanded c).variables ≡ length c.variables + variables_in false (map piece_of_region c.regions)
as_many_variables c h few = omega (arith, length-append c.variables (expansion c).variables, (added c h few).many)

same_names : (c : Chart) → IsChart features.Extended c → region_names (expanded c).regions ≡ region_names c.regions
same_names c h = regions_named (expanded c).variables 31 c.regions [] None (whole (length c.variables)) (kept c h)

none_of_none : (made regions : List Region) → region_names made ≡ region_names regions → made ≡ [] → regions ≡ []
none_of_none made [] same none = refl
none_of_none [] (r ∷ regions) same none = absurd cc
none_of_none (m ∷ made) (r ∷ regions) same none = absurd cc

all_regions : (c : Chart) → IsChart features.Extended c → AreFew c → AreRegions features.Core (expanded c).variables 32 (expanded c).regions
all_regions c h few =
    let inner : AreInside c.variables (expansion c).variables 32 c.regions = inner_keep c.variables (expansion c).variables 32 c.regions h.regions in
    side_by_side (expanded c).variables 31 (expanded c).regions
    (omega (arith, as_many_names (expanded c).regions, as_many_names c.regions, ap length (same_names c h), inner.1))
    (subst Apart (sym (same_names c h)) inner.3)
    (regions_keep (expanded c).variables 31 c.regions [] None (whole (length c.variables)) (kept c h) few tt tt
    (behind c.variables (expansion c).variables))

-- ---- the whole

pub core_chart : (c : Chart) → IsChart features.Extended c → AreFew c → IsExpandable c → IsChart features.Core (expanded c)
core_chart c h few fits = record {
  named = text_is_named c.name h.named;
  variables =
      all_variables c.variables (expansion c).variables 1 (1 + superstates_in (map piece_of_region c.regions))
      (variables_in false (map piece_of_region c.regions)) h.variables (added c h few) fits;
  some_region = λ none. h.some_region (none_of_none (expanded c).regions c.regions (same_names c h) none);
  regions = all_regions c h few;
}
