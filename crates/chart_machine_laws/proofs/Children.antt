-- The regions of a superstate have it around them; the states of a region are held by it.
use Rattle.std.proofs.Common.{◌≡◌, ℕ, suc, ◌+◌, ⊎_elim, Contains, Bool, true, false, List, [], ◌∷◌, ◌++◌, length, refl, sym, ap, subst, ◌∙◌, arith}
use Rattle.std.proofs.Common.{if◌then◌else◌}
use Rattle.core_charts.specs.declared.region.Region.TheOpen.{Region-F, State-F}
use Rattle.chart_machine.specs.declared.table.StateRow.{StateRow}
use Rattle.chart_machine.specs.declared.table.Table.{Table}
use Rattle.chart_machine.specs.declared.table.TablePosition.{TablePosition}
use Rattle.chart_machine.specs.declared.table.SubtreeRows.{SubtreeRows}
use Rattle.chart_machine.specs.Table.{Subtree, behind, side_by_side, within, region_numbers, state_subtree, state_numbers, with_region, past_states, StatesRows}
use Rattle.chart_machine.specs.Table.{rows_of_state_at}
use Rattle.chart_machine.specs.Table.{followed_by, in_region, regions_in_initial, inside_region, region_subtree, state_at, region_at}
use Rattle.scl_graph_laws.proofs.Segments.{EachAt, each_from, each_append}
use Rattle.chart_machine_laws.proofs.LyingIn.{around, none_in, head_or_tail, head_in, tail_in}
use Rattle.chart_machine_laws.proofs.RowsOfSubtrees.{StatesAt, RegionsAt, Holds, states_from, states_first, states_second, regions_from, regions_first}
use Rattle.chart_machine_laws.proofs.RowsOfSubtrees.{regions_second, IsSized, AllSized, inner_first}
use Rattle.chart_machine_laws.proofs.TableTrees.{NoneInitial, OnceInitial, none_first, Each}

module _ (k : Table) where
  -- a state with its own number
  pub record Kept (s : ℕ) (row : StateRow) : Type 0 where
    pub child : (r : ℕ) → Contains row.regions r → around k r ≡ s ∷ around k row.holder
    pub row_is : state_at k s ≡ row
    pub held : Contains (region_at k row.holder).states s

  abbrev pub EachKept : ℕ → List StateRow → Type 0
  EachKept n rows = EachAt Kept n rows

  -- the row of a region is the first one of its piece
  pub record RegionKeeps (p : Subtree) : Type 0 where
    pub own : (at : TablePosition) → Holds k at (p.parts at) → around k at.region ≡ at.around
    pub kept : (at : TablePosition) → Holds k at (p.parts at) → EachKept at.state (p.parts at).states

  abbrev pub StateKeeps : Subtree → Type 0
  StateKeeps p = (at : TablePosition) → Holds k at (p.parts at) → around k at.holder ≡ at.around → Contains (region_at k at.holder).states at.state →
      EachKept at.state (p.parts at).states

  first_holds : (p : Subtree) (regions : List Subtree) (at : TablePosition) → Holds k at (side_by_side (p ∷ regions) at) → Holds k at (p.parts at)
  first_holds p regions at holds =
      let rest : SubtreeRows = side_by_side regions (behind p at) in
      record {
        states = states_first k at.state (p.parts at).states rest.states holds.states;
        regions = regions_first k at.region (p.parts at).regions
            rest.regions holds.regions;
      }

  rest_holds : (p : Subtree) (regions : List Subtree) (at : TablePosition) → IsSized p → Holds k at (side_by_side (p ∷ regions) at) →
      Holds k (behind p at) (side_by_side regions (behind p at))
  rest_holds p regions at sized holds =
      let rest : SubtreeRows = side_by_side regions (behind p at) in
      record {
        states =
            states_from k (at.state + length (p.parts at).states) (at.state + p.states) rest.states (omega (arith, sized.states at))
            (states_second k at.state (p.parts at).states rest.states holds.states);
        regions =
            regions_from k (at.region + length (p.parts at).regions) (at.region + p.regions) rest.regions (omega (arith, sized.regions at))
            (regions_second k at.region (p.parts at).regions rest.regions holds.regions);
      }

  side_around : (regions : List Subtree) (at : TablePosition) → AllSized regions → Each k RegionKeeps regions → Holds k at (side_by_side regions at) →
      (r : ℕ) → Contains (region_numbers regions at.region) r → around k r ≡ at.around
  side_around [] at sized keeps holds r h = absurd (none_in r h)
  side_around (p ∷ regions) at sized keeps holds r h =
      ⊎_elim (λ same. ap (around k) (sym same) ∙ keeps.0.own at (first_holds p regions at holds))
      (λ tail. side_around regions (behind p at) sized.1 keeps.1 (rest_holds p regions at sized.0 holds) r tail) (head_or_tail at.region r (region_numbers
      regions (at.region + p.regions)) h)

  pub side_kept : (regions : List Subtree) (at : TablePosition) → AllSized regions → Each k RegionKeeps regions → Holds k at (side_by_side regions at) →
      EachKept at.state (side_by_side regions at).states
  side_kept [] at sized keeps holds = tt
  side_kept (p ∷ regions) at sized keeps holds =
      each_append Kept at.state (p.parts at).states (side_by_side regions (behind p at)).states (keeps.0.kept at (first_holds p regions at holds))
      (each_from Kept (at.state + p.states) (at.state + length (p.parts at).states) (side_by_side regions (behind p at)).states (omega (
        arith,
        sized.0.states at,
      ))
      (side_kept regions (behind p at) sized.1 keeps.1 (rest_holds p regions at sized.0 holds)))

  pub state_keeps : (s : State-F Subtree Subtree) → AllSized s.regions → Each k RegionKeeps s.regions → StateKeeps (state_subtree s)
  state_keeps s sized keeps at holds round listed =
      let inner : Holds k (within at) (side_by_side s.regions (within at)) = record { states = holds.states.1; regions = holds.regions } in (
        record {
          child = λ r h. side_around s.regions (within at) sized keeps inner r h ∙ ap (λ zs. at.state ∷ zs) (sym round);
          row_is = holds.states.0;
          held = listed;
        },
        side_kept s.regions (within at) sized keeps inner,
      )

  -- the region that holds these has their numbers
  abbrev AllListed : List Subtree → TablePosition → Type 0
  AllListed states at = (s : ℕ) → Contains (state_numbers states at.state) s → Contains (region_at k at.holder).states s

  abbrev RestKept : List Subtree → TablePosition → Type 0
  RestKept states at = (next : ℕ) → StatesAt k at.state (in_region states next at).states → RegionsAt k at.region (in_region states next at).first →
      RegionsAt k next (in_region states next at).others → EachKept at.state (in_region states next at).states

  inner_cons : (b : Bool) (p : Subtree) (states : List Subtree) (next : ℕ) (at : TablePosition) → (b ≡ true → NoneInitial states) → IsSized p → StateKeeps p →
      RestKept states (past_states p.states at) → around k at.holder ≡ at.around → Contains (region_at k at.holder).states at.state →
      StatesAt k at.state ((rows_of_state_at b p.parts next at).states ++ (in_region states (if b then next else next + p.regions) (past_states p.states
      at)).states) →
      RegionsAt k at.region ((rows_of_state_at b p.parts next at).first ++ (in_region states (if b then next else next + p.regions) (past_states p.states
      at)).first) →
      RegionsAt k next ((rows_of_state_at b p.parts next at).others ++ (in_region states (if b then next else next + p.regions) (past_states p.states
      at)).others) →
      EachKept at.state (followed_by (rows_of_state_at b p.parts next at) (in_region states (if b then next else next + p.regions) (past_states p.states
      at))).states
  inner_cons true p states next at once sized keeps rest_kept round listed rows first others =
      let rest : StatesRows = in_region states next (past_states p.states at) in
      let own : SubtreeRows = p.parts at in
      let none : rest.first ≡ [] = none_first states next (past_states p.states at) (once refl) in
      each_append Kept at.state own.states rest.states
      (keeps at (record { states = states_first k at.state own.states rest.states rows; regions = regions_first k at.region own.regions rest.first first })
      round listed)
      (each_from Kept (at.state + p.states) (at.state + length own.states) rest.states (omega (arith, sized.states at))
      (rest_kept next
      (states_from k (at.state + length own.states) (at.state + p.states) rest.states (omega (arith, sized.states at)) (states_second k at.state own.states
      rest.states rows))
      (subst (RegionsAt k at.region) (sym none) tt) others))
  inner_cons false p states next at once sized keeps rest_kept round listed rows first others =
      let there : TablePosition = with_region next at in
      let rest : StatesRows = in_region states (next + p.regions) (past_states p.states at) in
      let own : SubtreeRows = p.parts there in
      each_append Kept at.state own.states rest.states
      (keeps there (record { states = states_first k at.state own.states rest.states rows; regions = regions_first k next own.regions rest.others others })
      round listed)
      (each_from Kept (at.state + p.states) (at.state + length own.states) rest.states (omega (arith, sized.states there))
      (rest_kept (next + p.regions)
      (states_from k (at.state + length own.states) (at.state + p.states) rest.states (omega (arith, sized.states there)) (states_second k at.state
      own.states rest.states rows)) first
      (regions_from k (next + length own.regions) (next + p.regions) rest.others (omega (arith, sized.regions there)) (regions_second k next own.regions
      rest.others others))))

  inner_kept : (states : List Subtree) (next : ℕ) (at : TablePosition) → OnceInitial states → AllSized states → Each k StateKeeps states →
      StatesAt k at.state (in_region states next at).states → RegionsAt k at.region (in_region states next at).first →
      RegionsAt k next (in_region states next at).others →
      around k at.holder ≡ at.around → AllListed states at → EachKept at.state (in_region states next at).states
  inner_kept [] next at once sized keeps rows first others round listed = tt
  inner_kept (p ∷ states) next at once sized keeps rows first others round listed =
      let numbers : List ℕ = state_numbers states (at.state + p.states) in
      inner_cons p.is_initial p states next at once.0 sized.0 keeps.0
      (λ later rows first others. inner_kept states later (past_states p.states at) once.1 sized.1 keeps.1 rows first others round
      (λ s h. listed s (tail_in at.state s numbers h))) round (listed at.state (head_in at.state numbers)) rows first others

  pub region_keeps : (r : Region-F Subtree Subtree) → OnceInitial r.states → AllSized r.states → Each k StateKeeps r.states → RegionKeeps (region_subtree r)
  region_keeps r once sized keeps =
      record {
        own = λ at holds. ap (λ z. z.around) holds.regions.0;
        kept = λ at holds.
            let next : ℕ = suc at.region + regions_in_initial r.states in
            let inner : StatesRows = in_region r.states next (inside_region at) in
            let size : length inner.first ≡ regions_in_initial r.states = inner_first r.states next (inside_region at) sized in
            inner_kept r.states next (inside_region at) once sized keeps holds.states
            (regions_first k (suc at.region) inner.first inner.others holds.regions.1)
            (regions_from k (suc at.region + length inner.first) next inner.others (omega (arith, size)) (regions_second k (suc at.region) inner.first
            inner.others holds.regions.1))
            (ap (λ z. z.around) holds.regions.0)
            (λ s h. subst (λ zs. Contains zs s) (sym (ap (λ z. z.states) holds.regions.0)) h);
      }
