-- The table of each chart is a tree: what is around a region is its innermost superstate and what is around the region
-- that holds that one; and regions that hold what is around another one have smaller numbers.
use Rattle.std.proofs.Common.{◌≡◌, ℕ, suc, ◌+◌, ◌<◌, ◌≤◌, ⊎_elim, Contains, Bool, true, false, List, [], ◌∷◌, ◌++◌, length, refl, sym, ap, subst, ◌∙◌}
use Rattle.std.proofs.Common.{arith, if◌then◌else◌}
use Rattle.core_charts.specs.declared.region.Region.TheOpen.{Region-F, State-F}
use Rattle.chart_machine.specs.declared.table.RegionRow.{RegionRow}
use Rattle.chart_machine.specs.declared.table.Table.{Table}
use Rattle.chart_machine.specs.declared.table.TablePosition.{TablePosition}
use Rattle.chart_machine.specs.declared.table.SubtreeRows.{SubtreeRows}
use Rattle.chart_machine.specs.Table.{region_numbers, Subtree, behind, side_by_side, within, state_subtree, state_numbers, with_region, past_states, StatesRows}
use Rattle.chart_machine.specs.Table.{rows_of_state_at}
use Rattle.chart_machine.specs.Table.{alone, next_behind, followed_by, in_region, regions_in_initial, inside_region, region_subtree, state_at, region_at}
use Rattle.scl_graph_laws.proofs.Segments.{EachAt, each_from, each_append}
use Rattle.chart_machine_laws.proofs.LyingIn.{around, holder, none_in, head_or_tail, head_in, tail_in}
use Rattle.chart_machine_laws.proofs.RowsOfSubtrees.{StatesAt, RegionsAt, Holds, states_from, states_first, states_second, regions_from, regions_first}
use Rattle.chart_machine_laws.proofs.RowsOfSubtrees.{regions_second, IsSized, AllSized, alone_states, inner_first}

-- at most one of these is initial
abbrev pub NoneInitial : List Subtree → Type 0
NoneInitial [] = Unit {0}
NoneInitial (p ∷ states) = (p.is_initial ≡ false) × NoneInitial states

abbrev pub OnceInitial : List Subtree → Type 0
OnceInitial [] = Unit {0}
OnceInitial (p ∷ states) = (p.is_initial ≡ true → NoneInitial states) × OnceInitial states

not_first : (b : Bool) (parts : TablePosition → SubtreeRows) (next : ℕ) (at : TablePosition) → b ≡ false → (rows_of_state_at b parts next at).first ≡ []
not_first true parts next at e = absurd cc
not_first false parts next at e = refl

pub none_first : (states : List Subtree) (next : ℕ) (at : TablePosition) → NoneInitial states → (in_region states next at).first ≡ []
none_first [] next at none = refl
none_first (p ∷ states) next at none =
    let own : (rows_of_state_at p.is_initial p.parts next at).first ≡ [] = not_first p.is_initial p.parts next at none.0 in
    let rest : (in_region states (next_behind p next) (past_states p.states at)).first ≡ [] = none_first states (next_behind p next) (past_states p.states
    at) none.1 in
    rw (own, rest) refl

module _ (k : Table) where
  abbrev pub Upward : ℕ → Type 0
  Upward q = (s : ℕ) (ss : List ℕ) → around k q ≡ s ∷ ss → (ss ≡ around k (holder k s)) × Contains (state_at k s).regions q

  -- these are around region q
  abbrev pub Enclosed : List ℕ → ℕ → Type 0
  Enclosed zs q = (s : ℕ) (ss : List ℕ) → zs ≡ s ∷ ss → (ss ≡ around k (holder k s)) × Contains (state_at k s).regions q

  -- and around each of these
  abbrev pub AllEnclosed : List ℕ → List ℕ → Type 0
  AllEnclosed zs qs = (q : ℕ) → Contains qs q → Enclosed zs q

  -- who holds one of these has a smaller number
  abbrev pub Below : List ℕ → ℕ → Type 0
  Below zs n = (s : ℕ) → Contains zs s → holder k s < n

  -- the states of region q are held by it
  abbrev pub Holding : ℕ → Type 0
  Holding q = (s : ℕ) → Contains (region_at k q).states s → holder k s ≡ q

  abbrev pub Rooted : ℕ → Type 0
  Rooted q = Upward q × Below (around k q) q × Holding q

  abbrev pub EachUpward : ℕ → List RegionRow → Type 0
  EachUpward n rows = EachAt (λ q row. Rooted q) n rows

  below_more : (zs : List ℕ) (m n : ℕ) → m ≤ n → Below zs m → Below zs n
  below_more zs m n le below s h = let lt = below s h in omega (lt, le, arith)

  abbrev pub RegionClimbs : Subtree → Type 0
  RegionClimbs p = (at : TablePosition) → Holds k at (p.parts at) → Enclosed at.around at.region → Below at.around at.region →
      EachUpward at.region (p.parts at).regions

  abbrev pub StateClimbs : Subtree → Type 0
  StateClimbs p = (at : TablePosition) → Holds k at (p.parts at) → around k at.holder ≡ at.around → at.holder < at.region → Below at.around at.region →
      EachUpward at.region (p.parts at).regions

  abbrev pub Each : (Subtree → Type 0) → List Subtree → Type 0
  Each P [] = Unit {0}
  Each P (p ∷ pieces) = P p × Each P pieces

  -- the row of a state has its holder
  abbrev pub StateHeld : Subtree → Type 0
  StateHeld p = (at : TablePosition) → StatesAt k at.state (p.parts at).states → holder k at.state ≡ at.holder

  pub state_held : (s : State-F Subtree Subtree) → StateHeld (state_subtree s)
  state_held s at rows = ap (λ z. z.holder) rows.0

  alone_held : (b : Bool) (p : Subtree) (next : ℕ) (at : TablePosition) → StateHeld p → StatesAt k at.state (rows_of_state_at b p.parts next at).states →
      holder k at.state ≡ at.holder
  alone_held true p next at held rows = held at rows
  alone_held false p next at held rows = held (with_region next at) rows

  numbers_held : (states : List Subtree) (next : ℕ) (at : TablePosition) → AllSized states → Each StateHeld states →
      StatesAt k at.state (in_region states next at).states → (s : ℕ) → Contains (state_numbers states at.state) s → holder k s ≡ at.holder
  numbers_held [] next at sized held rows s h = absurd (none_in s h)
  numbers_held (p ∷ states) next at sized held rows s h =
      let own : StatesRows = alone p next at in
      let rest : StatesRows = in_region states (next_behind p next) (past_states p.states at) in
      ⊎_elim
      (λ same. ap (holder k) (sym same) ∙ alone_held p.is_initial p next at held.0 (states_first k at.state own.states rest.states rows))
      (λ tail. numbers_held states (next_behind p next) (past_states p.states at) sized.1 held.1
      (states_from k (at.state + length own.states) (at.state + p.states) rest.states (omega (arith, alone_states p.is_initial p next at sized.0))
      (states_second k at.state own.states rest.states rows)) s tail)
      (head_or_tail at.state s (state_numbers states (at.state + p.states)) h)

  pub side_climbs : (regions : List Subtree) (at : TablePosition) → AllSized regions → Each RegionClimbs regions → Holds k at (side_by_side regions at) →
      AllEnclosed at.around (region_numbers regions at.region) → Below at.around at.region →
      EachUpward at.region (side_by_side regions at).regions
  side_climbs [] at sized climbs holds enclosed below = tt
  side_climbs (p ∷ regions) at sized climbs holds enclosed below =
      let rest : SubtreeRows = side_by_side regions (behind p at) in
      each_append (λ q row. Rooted q) at.region (p.parts at).regions rest.regions
      (climbs.0 at
      (record {
        states = states_first k at.state (p.parts at).states rest.states holds.states;
        regions = regions_first k at.region (p.parts at).regions
            rest.regions holds.regions;
      })
      (enclosed at.region (head_in at.region (region_numbers regions (at.region + p.regions)))) below)
      (each_from (λ q row. Rooted q) (at.region + p.regions) (at.region + length (p.parts at).regions) rest.regions (omega (arith, sized.0.regions at))
      (side_climbs regions (behind p at) sized.1 climbs.1
      (record {
        states =
            states_from k (at.state + length (p.parts at).states) (at.state + p.states) rest.states (omega (arith, sized.0.states at))
            (states_second k at.state (p.parts at).states rest.states holds.states);
        regions =
            regions_from k (at.region + length (p.parts at).regions) (at.region + p.regions) rest.regions (omega (arith, sized.0.regions at))
            (regions_second k at.region (p.parts at).regions rest.regions holds.regions);
      }) (λ q h. enclosed q (tail_in at.region q (region_numbers regions (at.region + p.regions)) h))
      (below_more at.around at.region (at.region + p.regions) (omega arith) below)))

  -- a superstate's own regions have it around them, and what is around the region that holds it
  encloses : (s h q : ℕ) (ss : List ℕ) → holder k s ≡ h → around k h ≡ ss → Contains (state_at k s).regions q → Enclosed (s ∷ ss) q
  encloses s h q ss held round own u us e =
      let same : s ≡ u = cc in
      let rest : ss ≡ us = cc in
      (sym rest ∙ (sym round ∙ ap (around k) (sym held ∙ ap (holder k) same)), subst (λ z. Contains (state_at k z).regions q) same own)

  pub state_climbs : (s : State-F Subtree Subtree) → AllSized s.regions → Each RegionClimbs s.regions → StateClimbs (state_subtree s)
  state_climbs s sized climbs at holds round held below =
      let own : holder k at.state ≡ at.holder = ap (λ z. z.holder) holds.states.0 in
      side_climbs s.regions (within at) sized climbs (record { states = holds.states.1; regions = holds.regions })
      (λ q h. encloses at.state at.holder q at.around own round (subst (λ zs. Contains zs q) (sym (ap (λ z. z.regions) holds.states.0)) h))
      (λ u h. ⊎_elim (λ same. let is : holder k u ≡ at.holder = ap (holder k) (sym same) ∙ own in omega (is, held, arith)) (λ tail. below u tail)
      (head_or_tail at.state u at.around h))

  record BothClimb (at : TablePosition) (next : ℕ) (inner : StatesRows) : Type 0 where
    first : EachUpward at.region inner.first
    others : EachUpward next inner.others

  -- what the states behind the first one owe, where they stand at these numbers
  abbrev RestClimbs : List Subtree → TablePosition → Type 0
  RestClimbs states at = (next : ℕ) → at.region ≤ next → StatesAt k at.state (in_region states next at).states →
      RegionsAt k at.region (in_region states next at).first →
      RegionsAt k next (in_region states next at).others → BothClimb at next (in_region states next at)

  inner_cons : (b : Bool) (p : Subtree) (states : List Subtree) (next : ℕ) (at : TablePosition) → (b ≡ true → NoneInitial states) → IsSized p → StateClimbs p →
      RestClimbs states (past_states p.states at) → around k at.holder ≡ at.around → at.holder < at.region → Below at.around at.region → at.region ≤ next →
      StatesAt k at.state ((rows_of_state_at b p.parts next at).states ++ (in_region states (if b then next else next + p.regions) (past_states p.states
      at)).states) →
      RegionsAt k at.region ((rows_of_state_at b p.parts next at).first ++ (in_region states (if b then next else next + p.regions) (past_states p.states
      at)).first) →
      RegionsAt k next ((rows_of_state_at b p.parts next at).others ++ (in_region states (if b then next else next + p.regions) (past_states p.states
      at)).others) →
      BothClimb at next (followed_by (rows_of_state_at b p.parts next at) (in_region states (if b then next else next + p.regions) (past_states p.states at)))
  inner_cons true p states next at once sized climbs rest_climbs round held below le rows first others =
      let rest : StatesRows = in_region states next (past_states p.states at) in
      let own : SubtreeRows = p.parts at in
      let none : rest.first ≡ [] = none_first states next (past_states p.states at) (once refl) in
      let theirs : BothClimb (past_states p.states at) next rest =
      rest_climbs next le
      (states_from k (at.state + length own.states) (at.state + p.states) rest.states (omega (arith, sized.states at)) (states_second k at.state own.states
      rest.states rows))
      (subst (RegionsAt k at.region) (sym none) tt) others in
      record {
        first =
            each_append (λ q row. Rooted q) at.region own.regions rest.first
            (climbs at (record {
              states = states_first k at.state own.states rest.states rows;
              regions = regions_first k at.region own.regions rest.first
                  first;
            }) round held below)
            (subst (EachUpward (at.region + length own.regions)) (sym none) tt);
        others = theirs.others;
      }
  inner_cons false p states next at once sized climbs rest_climbs round held below le rows first others =
      let there : TablePosition = with_region next at in
      let rest : StatesRows = in_region states (next + p.regions) (past_states p.states at) in
      let own : SubtreeRows = p.parts there in
      let theirs : BothClimb (past_states p.states at) (next + p.regions) rest =
      rest_climbs (next + p.regions) (omega (le, arith))
      (states_from k (at.state + length own.states) (at.state + p.states) rest.states (omega (arith, sized.states there)) (states_second k at.state
      own.states rest.states rows))
      first
      (regions_from k (next + length own.regions) (next + p.regions) rest.others (omega (arith, sized.regions there)) (regions_second k next own.regions
      rest.others others)) in
      record {
        first = theirs.first;
        others =
            each_append (λ q row. Rooted q) next own.regions rest.others
            (climbs there (record {
              states = states_first k at.state own.states rest.states rows;
              regions = regions_first k next own.regions rest.others
                  others;
            }) round (omega (held, le, arith)) (below_more at.around at.region next le below))
            (each_from (λ q row. Rooted q) (next + p.regions) (next + length own.regions) rest.others (omega (arith, sized.regions there)) theirs.others);
      }

  inner_climbs : (states : List Subtree) (next : ℕ) (at : TablePosition) → OnceInitial states → AllSized states → Each StateClimbs states →
      StatesAt k at.state (in_region states next at).states → RegionsAt k at.region (in_region states next at).first →
      RegionsAt k next (in_region states next at).others →
      around k at.holder ≡ at.around → at.holder < at.region → Below at.around at.region → at.region ≤ next → BothClimb at next (in_region states next at)
  inner_climbs [] next at once sized climbs rows first others round held below le = record { first = tt; others = tt }
  inner_climbs (p ∷ states) next at once sized climbs rows first others round held below le =
      inner_cons p.is_initial p states next at once.0 sized.0 climbs.0
      (λ later more rows first others. inner_climbs states later (past_states p.states at) once.1 sized.1 climbs.1 rows first others round held below more)
      round held below le rows first others

  pub region_climbs : (r : Region-F Subtree Subtree) → OnceInitial r.states → AllSized r.states → Each StateHeld r.states → Each StateClimbs r.states →
      RegionClimbs (region_subtree r)
  region_climbs r once sized held climbs at holds enclosed below = (
    (
      λ s ss e. enclosed s ss (sym own ∙ e),
      λ s h. below s (subst (λ zs. Contains zs s) own h),
      λ s h. numbers_held r.states next (inside_region at) sized held holds.states s (subst (λ zs. Contains zs s) (ap (λ z. z.states) holds.regions.0) h),
    ),
    each_append (λ q row. Rooted q) (suc at.region) inner.first inner.others both.first
        (each_from (λ q row. Rooted q) next (suc at.region + length inner.first) inner.others (omega (arith, size)) both.others),
  )
    where
      next : ℕ
      next = suc at.region + regions_in_initial r.states

      inner : StatesRows
      inner = in_region r.states next (inside_region at)

      size : length inner.first ≡ regions_in_initial r.states
      size = inner_first r.states next (inside_region at) sized

      own : around k at.region ≡ at.around
      own = ap (λ z. z.around) holds.regions.0

      both : BothClimb (inside_region at) next inner
      both =
          inner_climbs r.states next (inside_region at) once sized climbs holds.states
          (regions_first k (suc at.region) inner.first inner.others holds.regions.1)
          (regions_from k (suc at.region + length inner.first) next inner.others (omega (arith, size)) (regions_second k (suc at.region) inner.first
          inner.others holds.regions.1)) own (omega arith)
          (below_more at.around at.region (suc at.region) (omega arith) below) (omega arith)
