-- Where the states of one region stand in a table, one after the other, and what is inside them.
use Rattle.std.proofs.Common.{◌≡◌, ℕ, ◌+◌, Bool, true, false, List, [], ◌∷◌, ◌++◌, length, refl, sym, subst, arith, if◌then◌else◌}
use Rattle.chart_machine.specs.declared.table.Table.{Table}
use Rattle.chart_machine.specs.declared.table.TablePosition.{TablePosition}
use Rattle.chart_machine.specs.Table.{Subtree, states_in, with_region, past_states, rows_of_state_at, next_behind, in_region, followed_by, StatesRows}
use Rattle.chart_machine_laws.proofs.RowsOfSubtrees.{StatesAt, RegionsAt, Holds, states_from, states_first, states_second, regions_from, regions_first}
use Rattle.chart_machine_laws.proofs.RowsOfSubtrees.{regions_second, IsSized, AllSized}
use Rattle.chart_machine_laws.proofs.TableTrees.{NoneInitial, OnceInitial, none_first}

-- the number of the next region behind the states that are not initial
abbrev pub next_past : List Subtree → ℕ → ℕ
next_past [] next = next
next_past (p ∷ pieces) next = next_past pieces (next_behind p next)

-- where what is inside a state stands, by whether it is initial
abbrev pub position_of : Bool → ℕ → TablePosition → TablePosition
position_of initial next at = record at { region = if initial then at.region else next }

module _ (k : Table) where
  pub record InRegionAt (pieces : List Subtree) (next : ℕ) (at : TablePosition) : Type 0 where
    pub states : StatesAt k at.state (in_region pieces next at).states
    pub first : RegionsAt k at.region (in_region pieces next at).first
    pub others : RegionsAt k next (in_region pieces next at).others

  module _ (p : Subtree) (next : ℕ) (at : TablePosition) (rest : StatesRows) where
    one_there : (b : Bool) → StatesAt k at.state (followed_by (rows_of_state_at b p.parts next at) rest).states →
        RegionsAt k at.region (followed_by (rows_of_state_at b p.parts next at) rest).first →
        RegionsAt k next (followed_by (rows_of_state_at b p.parts next at) rest).others → Holds k (position_of b next at) (p.parts (position_of b next at))
    one_there true rows first others =
        record {
          states = states_first k at.state (p.parts at).states rest.states rows;
          regions = regions_first k at.region
              (p.parts at).regions rest.first first;
        }
    one_there false rows first others =
        let there : TablePosition = with_region next at in
        record {
          states = states_first k at.state (p.parts there).states rest.states rows;
          regions = regions_first k next (p.parts there).regions rest.others others;
        }

    rest_there : (b : Bool) → IsSized p → (b ≡ true → rest.first ≡ []) → StatesAt k at.state (followed_by (rows_of_state_at b p.parts next at) rest).states →
        RegionsAt k at.region (followed_by (rows_of_state_at b p.parts next at) rest).first →
        RegionsAt k next (followed_by (rows_of_state_at b p.parts next at) rest).others →
        StatesAt k (at.state + p.states) rest.states × RegionsAt k at.region rest.first × RegionsAt k (if b then next else next + p.regions) rest.others
    rest_there true sized none rows first others = (
      states_from k (at.state + length (p.parts at).states) (at.state + p.states) rest.states (omega (arith, sized.states at))
          (states_second k at.state (p.parts at).states rest.states rows),
      subst (RegionsAt k at.region) (sym (none refl)) tt,
      others,
    )
    rest_there false sized none rows first others =
        let there : TablePosition = with_region next at in (
          states_from k (at.state + length (p.parts there).states) (at.state + p.states) rest.states (omega (arith, sized.states there))
              (states_second k at.state (p.parts there).states rest.states rows),
          first,
          regions_from k (next + length (p.parts there).regions) (next + p.regions) rest.others (omega (arith, sized.regions there))
              (regions_second k next (p.parts there).regions rest.others others),
        )

  -- the first of them
  pub first_holds : (p : Subtree) (pieces : List Subtree) (next : ℕ) (at : TablePosition) → InRegionAt (p ∷ pieces) next at →
      Holds k (position_of p.is_initial next at) (p.parts (position_of p.is_initial next at))
  first_holds p pieces next at h =
      one_there p next at (in_region pieces (next_behind p next) (past_states p.states at)) p.is_initial h.states h.first h.others

  -- those behind it
  pub rest_holds : (p : Subtree) (pieces : List Subtree) (next : ℕ) (at : TablePosition) → IsSized p → OnceInitial (p ∷ pieces) →
      InRegionAt (p ∷ pieces) next at → InRegionAt pieces (next_behind p next) (past_states p.states at)
  rest_holds p pieces next at sized once h =
      let rest : StatesRows = in_region pieces (next_behind p next) (past_states p.states at) in
      let parts = rest_there p next at rest p.is_initial sized
      (λ initial. none_first pieces (next_behind p next) (past_states p.states at) (once.0 initial)) h.states h.first h.others in
      record { states = parts.0; first = parts.1; others = parts.2 }

  -- those behind a few
  pub more_hold : (xs ys : List Subtree) (next : ℕ) (at : TablePosition) → AllSized xs → OnceInitial (xs ++ ys) → InRegionAt (xs ++ ys) next at →
      InRegionAt ys (next_past xs next) (past_states (states_in xs) at)
  more_hold [] ys next at sized once h = subst (λ n. InRegionAt ys next (record at { state = n })) (no_more at.state) h
    where
      no_more : (n : ℕ) → n ≡ n + 0
      no_more n = omega arith
  more_hold (x ∷ xs) ys next at sized once h =
      subst (λ n. InRegionAt ys (next_past (x ∷ xs) next) (record at { state = n })) (sum at.state x.states (states_in xs))
      (more_hold xs ys (next_behind x next) (past_states x.states at) sized.1 once.1 (rest_holds x (xs ++ ys) next at sized.0 once h))
    where
      sum : (a b c : ℕ) → (a + b) + c ≡ a + (b + c)
      sum a b c = omega arith

-- ---- of states side by side at most one is initial

pub none_append : (xs ys : List Subtree) → NoneInitial xs → NoneInitial ys → NoneInitial (xs ++ ys)
none_append [] ys none more = more
none_append (x ∷ xs) ys none more = (none.0, none_append xs ys none.1 more)

pub once_append : (xs ys : List Subtree) → OnceInitial xs → NoneInitial ys → OnceInitial (xs ++ ys)
once_append [] ys once none = no_once ys none
  where
    no_once : (ys : List Subtree) → NoneInitial ys → OnceInitial ys
    no_once [] none = tt
    no_once (y ∷ ys) none = (λ initial. absurd (never y.is_initial none.0 initial), no_once ys none.1)
      where
        never : (b : Bool) → b ≡ false → b ≡ true → ⊥
        never true e f = absurd cc
        never false e f = absurd cc
once_append (x ∷ xs) ys once none = (λ initial. none_append xs ys (once.0 initial) none, once_append xs ys once.1 none)

pub none_once : (xs ys : List Subtree) → NoneInitial xs → OnceInitial ys → OnceInitial (xs ++ ys)
none_once [] ys none once = once
none_once (x ∷ xs) ys none once = (λ initial. absurd (never x.is_initial none.0 initial), none_once xs ys none.1 once)
  where
    never : (b : Bool) → b ≡ false → b ≡ true → ⊥
    never true e f = absurd cc
    never false e f = absurd cc
