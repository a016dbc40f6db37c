-- What states and regions side by side become, from what each becomes.
use Rattle.std.proofs.Common.{◌≡◌, ◌≢◌, ℕ, ◌+◌, ◌<◌, ◌≤◌, ◌^◌, inl, inr, Bool, not, ◌&&◌, IsTrue, Option, List, [], ◌∷◌, ◌++◌, map, length, refl, ap, sym}
use Rattle.std.proofs.Common.{subst, ◌∙◌, arith}
use Rattle.std.proofs.lemmas.List.{length-append, map-append}
use Rattle.sc_graph.specs.declared.program.Variable.{Variable}
use Rattle.core_charts.specs.declared.features.Features.TheVariants as features
use Rattle.core_charts.specs.declared.region.Region.{Region}
use Rattle.core_charts.specs.declared.region.State.{State}
use Rattle.core_charts.specs.declared.region.Region.TheViews.{out-Region, out-State}
use Rattle.core_charts.specs.Rules.{IsState, IsRegion, AreRegions}
use Rattle.sc_text.proofs.EachItem.{Each, each_append, each_more}
use Rattle.abort_expansion.specs.declared.flags.Flags.{Flags}
use Rattle.abort_expansion.specs.declared.places.RegionPlaces.{RegionPlaces}
use Rattle.abort_expansion.specs.declared.pieces.NextNumbers.{NextNumbers}
use Rattle.abort_expansion.specs.declared.pieces.Regions.{Regions}
use Rattle.abort_expansion.specs.declared.pieces.StatePieces.{StatePieces}
use Rattle.abort_expansion.specs.Flags.{one, aborts_around, weak_around}
use Rattle.abort_expansion.specs.Pieces.{RegionPiece, StatePiece, beside, expanded_regions, superstates_in, variables_in, past_region}
use Rattle.abort_expansion.specs.Expansion.{piece_of_region, piece_of_state, expanded_states, superstates_among, variables_among, widths, past_state}
use Rattle.abort_expansion.proofs.Lists.{count, count_append}
use Rattle.abort_expansion.proofs.Taken.{IsFlagIfAny, AreFlags, ArePlaces}
use Rattle.abort_expansion.proofs.Apart.{Unlike, Apart, apart_append, IsAdded, IsIn, IsCalled, IsText, called_apart}
use Rattle.abort_expansion.proofs.Added.{Located, located_first, located_later, AreAdded, none_added, both_added}

abbrev pub names_of : List State → List (List ℕ)
names_of states = map (λ s. (out-State s).name) states

abbrev pub initial_in : List State → ℕ
initial_in states = count (λ s. (out-State s).is_initial) states

-- states that come of some with these names
pub record HasShape (texts : List (List ℕ)) (low high width initial size : ℕ) (made : StatePieces) : Type 0 where
  pub wide : length made.states ≡ width
  pub begins : initial_in made.states ≡ initial
  pub called : Each (IsCalled texts 105 low high) (names_of made.states)
  pub apart : Apart (names_of made.states)
  pub added : AreAdded low high size made.variables

in_first : (ts us : List (List ℕ)) (name : List ℕ) → IsIn ts name → IsIn (ts ++ us) name
in_first [] us name h = absurd h
in_first (t ∷ ts) us name (inl same) = inl same
in_first (t ∷ ts) us name (inr later) = inr (in_first ts us name later)

in_later : (ts us : List (List ℕ)) (name : List ℕ) → IsIn us name → IsIn (ts ++ us) name
in_later [] us name h = h
in_later (t ∷ ts) us name h = inr (in_later ts us name h)

added_wider : (low high first last : ℕ) (name : List ℕ) → first ≤ low → high ≤ last → IsAdded 105 low high name → IsAdded 105 first last name
added_wider low high first last name before behind k =
    record { letter = k.letter; number = k.number; is = k.is; below = k.below; least = omega (arith, before, k.least); most = omega (arith, behind, k.most) }

called_first : (ts us : List (List ℕ)) (low mid high : ℕ) (name : List ℕ) → mid ≤ high → IsCalled ts 105 low mid name → IsCalled (ts ++ us) 105 low high name
called_first ts us low mid high name last (inl text) = inl (in_first ts us name text)
called_first ts us low mid high name last (inr added) = inr (added_wider low mid low high name (omega arith) last added)

called_later : (ts us : List (List ℕ)) (low mid high : ℕ) (name : List ℕ) → low ≤ mid → IsCalled us 105 mid high name → IsCalled (ts ++ us) 105 low high name
called_later ts us low mid high name first (inl text) = inl (in_later ts us name text)
called_later ts us low mid high name first (inr added) = inr (added_wider mid high low high name first (omega arith) added)

called_cross : (ts us : List (List ℕ)) (low mid high : ℕ) (xs ys : List (List ℕ)) → high ≤ 2 ^ 64 → Each IsText ts → Each IsText us → Each (Unlike us) ts
    → Each (IsCalled ts 105 low mid) xs → Each (IsCalled us 105 mid high) ys → Each (Unlike ys) xs
called_cross ts us low mid high xs ys small h k cross a b =
    each_more (IsCalled ts 105 low mid) (Unlike ys) xs
    (λ x g. each_more (IsCalled us 105 mid high) (λ y. x ≢ y) ys (λ y f. called_apart ts us 105 low mid high small h k cross x y g f) b) a

pub both_shapes : (ts us : List (List ℕ)) (low mid high v w width i j initial m n size : ℕ) (a b : StatePieces)
    → low ≤ mid → mid ≤ high → high ≤ 2 ^ 64 → width ≡ v + w → initial ≡ i + j → size ≡ m + n
    → Each IsText ts → Each IsText us → Each (Unlike us) ts
    → HasShape ts low mid v i m a → HasShape us mid high w j n b → HasShape (ts ++ us) low high width initial size (beside a b)
both_shapes ts us low mid high v w width i j initial m n size a b first last small is_width is_initial is_size h k cross one other =
    let whole : names_of a.states ++ names_of b.states ≡ names_of (a.states ++ b.states) = sym (map-append (λ s. (out-State s).name) a.states b.states) in
    record {
      wide = omega (arith, length-append a.states b.states, one.wide, other.wide, is_width);
      begins = omega (arith, count_append (λ s. (out-State s).is_initial) a.states b.states, one.begins, other.begins, is_initial);
      called =
          subst (Each (IsCalled (ts ++ us) 105 low high)) whole
          (each_append (IsCalled (ts ++ us) 105 low high) (names_of a.states) (names_of b.states)
          (each_more (IsCalled ts 105 low mid) (IsCalled (ts ++ us) 105 low high) (names_of a.states) (λ name g. called_first ts us low mid high name last g)
          one.called)
          (each_more (IsCalled us 105 mid high) (IsCalled (ts ++ us) 105 low high) (names_of b.states) (λ name g. called_later ts us low mid high name first g)
          other.called));
      apart =
          subst Apart whole
          (apart_append (names_of a.states) (names_of b.states) one.apart other.apart
          (called_cross ts us low mid high (names_of a.states) (names_of b.states) small h k cross one.called other.called));
      added = both_added low mid high m n size a.variables b.variables first last small is_size one.added other.added;
    }

-- ---- states

-- where a region's states are, of which the text has `m`, and expansion leaves `n`
pub record IsOuter (variables : List Variable) (m n : ℕ) (around : List Flags) (to : RegionPlaces) : Type 0 where
  pub flags : Each (AreFlags variables) around
  pub left : IsTrue (aborts_around around) → to.left < n
  pub places : ArePlaces variables m n to

-- a state of this name, in a region whose text has `m` states, with regions inside that nest this many levels deep at most
pub record StateKeeps (variables : List Variable) (levels m : ℕ) (name : List ℕ) (p : StatePiece) : Type 0 where
  pub least : (around : List Flags) → 1 ≤ p.width around
  pub shape : (around : List Flags) (to : RegionPlaces) (place : ℕ) (begins : Bool) (at : NextNumbers) → at.superstate + p.superstates ≤ 2 ^ 64
      → HasShape (name ∷ []) at.superstate (at.superstate + p.superstates) (p.width around) (one begins) (p.variables (weak_around around))
      (p.made around to place begins at)
  pub keeps : (n : ℕ) (around : List Flags) (to : RegionPlaces) (place : ℕ) (begins : Bool) (at : NextNumbers) → at.superstate + p.superstates ≤ 2 ^ 64
      → IsOuter variables m n around to → place + p.width around ≤ n → Located variables at.variable (p.made around to place begins at).variables
      → Each (IsState features.Core variables (AreRegions features.Core variables levels) n) (p.made around to place begins at).states

abbrev pub AllKeep : List Variable → ℕ → ℕ → List State → Type 0
AllKeep variables levels m states = Each (λ s. StateKeeps variables levels m (out-State s).name (piece_of_state s)) states

-- how many of these are initial still
abbrev pub initial_of : Bool → List StatePiece → ℕ
initial_of anew [] = 0
initial_of anew (s ∷ states) = one (s.is_initial && not anew) + initial_of anew states

no_shape : (low high : ℕ) → HasShape [] low high 0 0 0 (record { states = []; variables = []; stands_for = [] })
no_shape low high = record { wide = refl; begins = refl; called = tt; apart = tt; added = none_added low high }

abbrev pieces_of : List State → List StatePiece
pieces_of states = map piece_of_state states

pub states_shape : (variables : List Variable) (levels m : ℕ) (states : List State) (anew : Bool) (around : List Flags) (to : RegionPlaces)
    (place : ℕ) (at : NextNumbers)
    → AllKeep variables levels m states → Each IsText (names_of states) → Apart (names_of states)
    → at.superstate + superstates_among (pieces_of states) ≤ 2 ^ 64
    → HasShape (names_of states) at.superstate (at.superstate + superstates_among (pieces_of states)) (widths (pieces_of states) around)
    (initial_of anew (pieces_of states)) (variables_among (weak_around around) (pieces_of states)) (expanded_states anew (pieces_of states) around to place at)
states_shape variables levels m [] anew around to place at h texts apart small = no_shape at.superstate (at.superstate + 0)
states_shape variables levels m (s ∷ states) anew around to place at h texts apart small =
    let p : StatePiece = piece_of_state s in
    let rest : List StatePiece = pieces_of states in
    let next : NextNumbers = past_state (weak_around around) p at in
    let mid : ℕ = at.superstate + p.superstates in
    let first : HasShape ((out-State s).name ∷ []) at.superstate mid (p.width around) (one (p.is_initial && not anew)) (p.variables (weak_around around))
    (p.made around to place (p.is_initial && not anew) at) =
    h.0.shape around to place (p.is_initial && not anew) at (omega (arith, small)) in
    let later : HasShape (names_of states) mid (mid + superstates_among rest) (widths rest around) (initial_of anew rest)
    (variables_among (weak_around around) rest) (expanded_states anew rest around to (place + p.width around) next) =
    states_shape variables levels m states anew around to (place + p.width around) next h.1 texts.1 apart.1 (omega (arith, small)) in
    let end : mid + superstates_among rest ≡ at.superstate + (p.superstates + superstates_among rest) = omega arith in
    subst
    (λ high. HasShape (names_of (s ∷ states)) at.superstate high (p.width around + widths rest around) (one (p.is_initial && not anew) + initial_of anew rest)
    (p.variables (weak_around around) + variables_among (weak_around around) rest) (expanded_states anew (p ∷ rest) around to place at)) end
    (both_shapes ((out-State s).name ∷ []) (names_of states) at.superstate mid (mid + superstates_among rest)
    (p.width around) (widths rest around) (p.width around + widths rest around)
    (one (p.is_initial && not anew)) (initial_of anew rest) (one (p.is_initial && not anew) + initial_of anew rest)
    (p.variables (weak_around around)) (variables_among (weak_around around) rest)
    (p.variables (weak_around around) + variables_among (weak_around around) rest)
    (p.made around to place (p.is_initial && not anew) at) (expanded_states anew rest around to (place + p.width around) next)
    (omega arith) (omega arith) (omega (arith, small)) refl refl refl (texts.0, tt) texts.1 (apart.0, tt) first later)

pub states_keep : (variables : List Variable) (levels m n : ℕ) (states : List State) (anew : Bool) (around : List Flags) (to : RegionPlaces) (place : ℕ)
    (at : NextNumbers)
    → AllKeep variables levels m states → at.superstate + superstates_among (pieces_of states) ≤ 2 ^ 64
    → IsOuter variables m n around to → place + widths (pieces_of states) around ≤ n
    → Located variables at.variable (expanded_states anew (pieces_of states) around to place at).variables
    → Each (IsState features.Core variables (AreRegions features.Core variables levels) n) (expanded_states anew (pieces_of states) around to place at).states
states_keep variables levels m n [] anew around to place at h small outer within located = tt
states_keep variables levels m n (s ∷ states) anew around to place at h small outer within located =
    let p : StatePiece = piece_of_state s in
    let rest : List StatePiece = pieces_of states in
    let next : NextNumbers = past_state (weak_around around) p at in
    let a : StatePieces = p.made around to place (p.is_initial && not anew) at in
    let b : StatePieces = expanded_states anew rest around to (place + p.width around) next in
    let size : length a.variables
    ≡ p.variables (weak_around around) = (h.0.shape around to place (p.is_initial && not anew) at (omega (arith, small))).added.many in
    each_append (IsState features.Core variables (AreRegions features.Core variables levels) n) a.states b.states
    (h.0.keeps n around to place (p.is_initial && not anew) at (omega (arith, small)) outer (omega (arith, within))
    (located_first variables at.variable a.variables b.variables located))
    (states_keep variables levels m n states anew around to (place + p.width around) next h.1 (omega (arith, small)) outer (omega (arith, within))
    (located_later variables at.variable (p.variables (weak_around around)) next.variable a.variables b.variables size refl located))

-- ---- regions

-- a region of this name, in which regions nest this many levels deep at most
pub record RegionKeeps (variables : List Variable) (levels : ℕ) (name : List ℕ) (p : RegionPiece) : Type 0 where
  pub named : (around : List Flags) (counter : Option ℕ) (at : NextNumbers) → map (λ r. (out-Region r).name) (p.made around counter at).regions ≡ name ∷ []
  pub added : (around : List Flags) (counter : Option ℕ) (at : NextNumbers) → at.superstate + p.superstates ≤ 2 ^ 64
      → AreAdded at.superstate (at.superstate + p.superstates) (p.variables (weak_around around)) (p.made around counter at).variables
  pub keeps : (around : List Flags) (counter : Option ℕ) (at : NextNumbers) → at.superstate + p.superstates ≤ 2 ^ 64
      → Each (AreFlags variables) around → IsFlagIfAny variables counter → Located variables at.variable (p.made around counter at).variables
      → Each (IsRegion features.Core variables (AreRegions features.Core variables levels)) (p.made around counter at).regions

abbrev pub RegionsKeep : List Variable → ℕ → List Region → Type 0
RegionsKeep variables levels regions = Each (λ r. RegionKeeps variables levels (out-Region r).name (piece_of_region r)) regions

abbrev pub region_names : List Region → List (List ℕ)
region_names regions = map (λ r. (out-Region r).name) regions

pub regions_named : (variables : List Variable) (levels : ℕ) (regions : List Region) (around : List Flags) (counter : Option ℕ) (at : NextNumbers)
    → RegionsKeep variables levels regions
    → region_names (expanded_regions (map piece_of_region regions) around counter at).regions ≡ region_names regions
regions_named variables levels [] around counter at h = refl
regions_named variables levels (r ∷ regions) around counter at h =
    let p : RegionPiece = piece_of_region r in
    let next : NextNumbers = past_region (weak_around around) p at in
    let rest : Regions = expanded_regions (map piece_of_region regions) around counter next in
    map-append (λ r. (out-Region r).name) (p.made around counter at).regions rest.regions
    ∙ ap (λ names. names ++ region_names rest.regions) (h.0.named around counter at)
    ∙ ap (λ names. (out-Region r).name ∷ names) (regions_named variables levels regions around counter next h.1)

pub regions_added : (variables : List Variable) (levels : ℕ) (regions : List Region) (around : List Flags) (counter : Option ℕ) (at : NextNumbers)
    → RegionsKeep variables levels regions → at.superstate + superstates_in (map piece_of_region regions) ≤ 2 ^ 64
    → AreAdded at.superstate (at.superstate + superstates_in (map piece_of_region regions)) (variables_in (weak_around around) (map piece_of_region regions))
    (expanded_regions (map piece_of_region regions) around counter at).variables
regions_added variables levels [] around counter at h small = none_added at.superstate (at.superstate + 0)
regions_added variables levels (r ∷ regions) around counter at h small =
    let p : RegionPiece = piece_of_region r in
    let rest : List RegionPiece = map piece_of_region regions in
    let next : NextNumbers = past_region (weak_around around) p at in
    let mid : ℕ = at.superstate + p.superstates in
    let end : mid + superstates_in rest ≡ at.superstate + (p.superstates + superstates_in rest) = omega arith in
    subst
    (λ high. AreAdded at.superstate high (p.variables (weak_around around) + variables_in (weak_around around) rest)
    (expanded_regions (p ∷ rest) around counter at).variables) end
    (both_added at.superstate mid (mid + superstates_in rest) (p.variables (weak_around around)) (variables_in (weak_around around) rest)
    (p.variables (weak_around around) + variables_in (weak_around around) rest)
    (p.made around counter at).variables (expanded_regions rest around counter next).variables
    (omega arith) (omega arith) (omega (arith, small)) refl (h.0.added around counter at (omega (arith, small)))
    (regions_added variables levels regions around counter next h.1 (omega (arith, small))))

pub regions_keep : (variables : List Variable) (levels : ℕ) (regions : List Region) (around : List Flags) (counter : Option ℕ) (at : NextNumbers)
    → RegionsKeep variables levels regions → at.superstate + superstates_in (map piece_of_region regions) ≤ 2 ^ 64
    → Each (AreFlags variables) around → IsFlagIfAny variables counter
    → Located variables at.variable (expanded_regions (map piece_of_region regions) around counter at).variables
    → Each (IsRegion features.Core variables (AreRegions features.Core variables levels))
    (expanded_regions (map piece_of_region regions) around counter at).regions
regions_keep variables levels [] around counter at h small flags counted located = tt
regions_keep variables levels (r ∷ regions) around counter at h small flags counted located =
    let p : RegionPiece = piece_of_region r in
    let next : NextNumbers = past_region (weak_around around) p at in
    let a : Regions = p.made around counter at in
    let b : Regions = expanded_regions (map piece_of_region regions) around counter next in
    let size : length a.variables ≡ p.variables (weak_around around) = (h.0.added around counter at (omega (arith, small))).many in
    each_append (IsRegion features.Core variables (AreRegions features.Core variables levels)) a.regions b.regions
    (h.0.keeps around counter at (omega (arith, small)) flags counted (located_first variables at.variable a.variables b.variables located))
    (regions_keep variables levels regions around counter next h.1 (omega (arith, small)) flags counted
    (located_later variables at.variable (p.variables (weak_around around)) next.variable a.variables b.variables size refl located))
