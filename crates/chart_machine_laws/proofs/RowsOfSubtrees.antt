-- Where the rows of a piece of a chart stand in its table.
use Rattle.std.proofs.Common.{◌≡◌, ℕ, suc, ◌+◌, Bool, true, false, cond, List, [], ◌∷◌, ◌++◌, length, refl, ap, subst, arith}
use Rattle.std.proofs.lemmas.List.{length-append}
use Rattle.core_charts.specs.declared.region.Region.TheOpen.{Region-F, State-F}
use Rattle.chart_machine.specs.declared.table.StateRow.{StateRow}
use Rattle.chart_machine.specs.declared.table.RegionRow.{RegionRow}
use Rattle.chart_machine.specs.declared.table.Table.{Table}
use Rattle.chart_machine.specs.declared.table.TablePosition.{TablePosition}
use Rattle.chart_machine.specs.declared.table.SubtreeRows.{SubtreeRows}
use Rattle.chart_machine.specs.Table.{Subtree, states_in, regions_in, behind, side_by_side, within, state_subtree, with_region, past_states, StatesRows}
use Rattle.chart_machine.specs.Table.{rows_of_state_at, alone, next_behind, in_region, regions_in_initial, inside_region, region_subtree, state_at}
use Rattle.chart_machine.specs.Table.{region_at}

-- these rows stand in the table from this number on
abbrev pub StatesAt : Table → ℕ → List StateRow → Type 0
StatesAt k s [] = Unit {0}
StatesAt k s (x ∷ xs) = (state_at k s ≡ x) × StatesAt k (suc s) xs

abbrev pub RegionsAt : Table → ℕ → List RegionRow → Type 0
RegionsAt k r [] = Unit {0}
RegionsAt k r (x ∷ xs) = (region_at k r ≡ x) × RegionsAt k (suc r) xs

-- the rows of a piece stand where its position says
pub record Holds (k : Table) (at : TablePosition) (p : SubtreeRows) : Type 0 where
  pub states : StatesAt k at.state p.states
  pub regions : RegionsAt k at.region p.regions

module _ (k : Table) where
  pub states_from : (n m : ℕ) (xs : List StateRow) → n ≡ m → StatesAt k n xs → StatesAt k m xs
  states_from n m xs e h = subst (λ n. StatesAt k n xs) e h

  pub states_first : (n : ℕ) (xs ys : List StateRow) → StatesAt k n (xs ++ ys) → StatesAt k n xs
  states_first n [] ys h = tt
  states_first n (x ∷ xs) ys h = (h.0, states_first (suc n) xs ys h.1)

  pub states_second : (n : ℕ) (xs ys : List StateRow) → StatesAt k n (xs ++ ys) → StatesAt k (n + length xs) ys
  states_second n [] ys h = states_from n (n + 0) ys (omega arith) h
  states_second n (x ∷ xs) ys h = states_from (suc n + length xs) (n + suc (length xs)) ys (omega arith) (states_second (suc n) xs ys h.1)

  pub regions_from : (n m : ℕ) (xs : List RegionRow) → n ≡ m → RegionsAt k n xs → RegionsAt k m xs
  regions_from n m xs e h = subst (λ n. RegionsAt k n xs) e h

  pub regions_first : (n : ℕ) (xs ys : List RegionRow) → RegionsAt k n (xs ++ ys) → RegionsAt k n xs
  regions_first n [] ys h = tt
  regions_first n (x ∷ xs) ys h = (h.0, regions_first (suc n) xs ys h.1)

  pub regions_second : (n : ℕ) (xs ys : List RegionRow) → RegionsAt k n (xs ++ ys) → RegionsAt k (n + length xs) ys
  regions_second n [] ys h = regions_from n (n + 0) ys (omega arith) h
  regions_second n (x ∷ xs) ys h = regions_from (suc n + length xs) (n + suc (length xs)) ys (omega arith) (regions_second (suc n) xs ys h.1)

-- ---- how many rows a piece has

pub record IsSized (p : Subtree) : Type 0 where
  pub states : (at : TablePosition) → length (p.parts at).states ≡ p.states
  pub regions : (at : TablePosition) → length (p.parts at).regions ≡ p.regions

abbrev pub AllSized : List Subtree → Type 0
AllSized [] = Unit {0}
AllSized (p ∷ pieces) = IsSized p × AllSized pieces

pub side_states : (regions : List Subtree) (at : TablePosition) → AllSized regions → length (side_by_side regions at).states ≡ states_in regions
side_states [] at sized = refl
side_states (p ∷ regions) at sized =
    omega (arith, length-append (p.parts at).states (side_by_side regions (behind p at)).states, sized.0.states at, side_states regions (behind p at) sized.1)

pub side_regions : (regions : List Subtree) (at : TablePosition) → AllSized regions → length (side_by_side regions at).regions ≡ regions_in regions
side_regions [] at sized = refl
side_regions (p ∷ regions) at sized =
    omega (
      arith,
      length-append (p.parts at).regions (side_by_side regions (behind p at)).regions,
      sized.0.regions at,
      side_regions regions (behind p at)
          sized.1,
    )

pub state_sized : (s : State-F Subtree Subtree) → AllSized s.regions → IsSized (state_subtree s)
state_sized s sized = record {
  states = λ at. ap suc (side_states s.regions (within at) sized);
  regions = λ at. side_regions s.regions (within at) sized;
}

-- of one state: its rows, those of its regions among the first ones or among the others
pub alone_states : (b : Bool) (p : Subtree) (next : ℕ) (at : TablePosition) → IsSized p → length (rows_of_state_at b p.parts next at).states ≡ p.states
alone_states true p next at sized = sized.states at
alone_states false p next at sized = sized.states (with_region next at)

alone_first : (b : Bool) (p : Subtree) (next : ℕ) (at : TablePosition) → IsSized p → length (rows_of_state_at b p.parts next at).first ≡ cond b p.regions 0
alone_first true p next at sized = sized.regions at
alone_first false p next at sized = refl

alone_others : (b : Bool) (p : Subtree) (next : ℕ) (at : TablePosition) → IsSized p →
    cond b p.regions 0 + length (rows_of_state_at b p.parts next at).others ≡ p.regions
alone_others true p next at sized = omega arith
alone_others false p next at sized = omega (arith, sized.regions (with_region next at))

pub inner_states : (states : List Subtree) (next : ℕ) (at : TablePosition) → AllSized states → length (in_region states next at).states ≡ states_in states
inner_states [] next at sized = refl
inner_states (p ∷ states) next at sized =
    let rest : StatesRows = in_region states (next_behind p next) (past_states p.states at) in
    omega (
      arith,
      length-append (alone p next at).states rest.states,
      alone_states p.is_initial p next at sized.0,
      inner_states states (next_behind p next)
          (past_states p.states at) sized.1,
    )

pub inner_first : (states : List Subtree) (next : ℕ) (at : TablePosition) → AllSized states →
    length (in_region states next at).first ≡ regions_in_initial states
inner_first [] next at sized = refl
inner_first (p ∷ states) next at sized =
    let rest : StatesRows = in_region states (next_behind p next) (past_states p.states at) in
    omega (
      arith,
      length-append (alone p next at).first rest.first,
      alone_first p.is_initial p next at sized.0,
      inner_first states (next_behind p next)
          (past_states p.states at) sized.1,
    )

pub inner_others : (states : List Subtree) (next : ℕ) (at : TablePosition) → AllSized states →
    regions_in_initial states + length (in_region states next at).others ≡ regions_in states
inner_others [] next at sized = refl
inner_others (p ∷ states) next at sized =
    let rest : StatesRows = in_region states (next_behind p next) (past_states p.states at) in
    omega (
      arith,
      length-append (alone p next at).others rest.others,
      alone_others p.is_initial p next at sized.0,
      inner_others states (next_behind p next)
          (past_states p.states at) sized.1,
    )

pub region_sized : (r : Region-F Subtree Subtree) → AllSized r.states → IsSized (region_subtree r)
region_sized r sized = record {
  states = λ at. inner_states r.states (suc at.region + regions_in_initial r.states) (inside_region at) sized;
  regions = λ at.
      let inner : StatesRows = in_region r.states (suc at.region + regions_in_initial r.states) (inside_region at) in
      omega (
        arith,
        length-append inner.first inner.others,
        inner_first r.states (suc at.region + regions_in_initial r.states) (inside_region at) sized,
        inner_others r.states (suc at.region + regions_in_initial r.states) (inside_region at) sized,
      );
}
