-- A core chart in names of texts: names that begin with `_`, which expansion adds and no text may have, get a word in
-- front that no other name of the chart has there.
use Rattle.std.specs.Prelude.{ℕ, zero, suc, nat_eq, Bool, true, false, ◌&&◌, ◌==◌, if◌then◌else◌, List, [], ◌∷◌, ◌++◌, map, codes, decimal}
use Rattle.std.specs.List.{list_any, starts_with}
use Rattle.sc_values.specs.Name.{is_name}
use Rattle.sc_graph.specs.declared.program.Variable.{Variable}
use Rattle.core_charts.specs.declared.region.Region.{Region}
use Rattle.core_charts.specs.declared.region.State.{State}
use Rattle.core_charts.specs.declared.region.Region.TheOpen.{Region-F, State-F}
use Rattle.core_charts.specs.declared.region.Region.TheViews.{roll-Region, roll-State}
use Rattle.core_charts.specs.declared.region.Region.TheFolds.{fold-Region, fold-State}
use Rattle.core_charts.specs.Chart.{Chart}

-- ---- names

-- a name that begins with `_`
abbrev pub is_added : List ℕ → Bool
is_added [] = false
is_added (first ∷ rest) = first == 95

-- a name as texts have it: one that begins with `_` with this word in front, where both together are a name
abbrev pub shown_name : (word : List ℕ) → List ℕ → List ℕ
shown_name word name = if is_added name && is_name (word ++ name) then word ++ name else name

-- ---- the chart

abbrev pub shown_variable : (word : List ℕ) → Variable → Variable
shown_variable word v = record { name = shown_name word v.name; kind = v.kind; role = v.role }

abbrev pub region_over : (word : List ℕ) → Region-F Region State → Region
region_over word r = roll-Region (record { name = shown_name word r.name; states = r.states })

abbrev pub state_over : (word : List ℕ) → State-F Region State → State
state_over word s =
    roll-State (record {
      name = shown_name word s.name;
      is_initial = s.is_initial;
      is_final = s.is_final;
      regions = s.regions;
      transitions = s.transitions;
    })

abbrev pub shown_region : (word : List ℕ) → Region → Region
shown_region word = fold-Region Region State (region_over word) (state_over word)

abbrev pub shown_state : (word : List ℕ) → State → State
shown_state word = fold-State Region State (region_over word) (state_over word)

abbrev pub shown_by : (word : List ℕ) → Chart → Chart
shown_by word c =
    record {
      name = c.name;
      variables = map (shown_variable word) c.variables;
      regions = map (shown_region word) c.regions;
    }

-- ---- the word

-- the word of this number
abbrev pub word : ℕ → List ℕ
word zero = codes "core"
word (suc n) = codes "core" ++ decimal (suc n)

abbrev pub begins_with : (word name : List ℕ) → Bool
begins_with word name = starts_with nat_eq name word

-- a name with which one with a word in front may be confused
abbrev pub rival : List ℕ → List (List ℕ)
rival name = if begins_with (codes "core") name then name ∷ [] else []

abbrev pub rivals_in : List (List (List ℕ)) → List (List ℕ)
rivals_in [] = []
rivals_in (a ∷ others) = a ++ rivals_in others

abbrev pub region_rivals : Region-F (List (List ℕ)) (List (List ℕ)) → List (List ℕ)
region_rivals r = rival r.name ++ rivals_in r.states

abbrev pub state_rivals : State-F (List (List ℕ)) (List (List ℕ)) → List (List ℕ)
state_rivals s = rival s.name ++ rivals_in s.regions

abbrev pub rivals_of_region : Region → List (List ℕ)
rivals_of_region = fold-Region (List (List ℕ)) (List (List ℕ)) region_rivals state_rivals

abbrev pub rivals_of_state : State → List (List ℕ)
rivals_of_state = fold-State (List (List ℕ)) (List (List ℕ)) region_rivals state_rivals

-- all of a chart
abbrev pub rivals : Chart → List (List ℕ)
rivals c = rivals_in (map (λ v. rival v.name) c.variables) ++ rivals_in (map rivals_of_region c.regions)

-- whether one of the names begins with the word of this number and `_`
abbrev pub is_taken : List (List ℕ) → ℕ → Bool
is_taken names n = list_any (begins_with (word n ++ codes "_")) names

-- the first number from n on whose word is not taken, of as many as there are names, or else the next one
abbrev pub free_from : (names left : List (List ℕ)) → ℕ → ℕ
free_from names [] n = n
free_from names (name ∷ left) n = if is_taken names n then free_from names left (suc n) else n

abbrev pub word_for : Chart → List ℕ
word_for c = word (free_from (rivals c) (rivals c) 0)

-- a core chart as texts have it
abbrev pub shown : Chart → Chart
shown c = shown_by (word_for c) c
