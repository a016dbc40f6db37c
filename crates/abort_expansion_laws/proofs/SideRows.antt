-- Where the regions of one superstate stand in a table, a few of them at a time.
use Rattle.std.proofs.Common.{◌≡◌, ℕ, suc, ◌+◌, List, [], ◌∷◌, ◌++◌, length, refl, sym, ap, subst, ◌∙◌, arith}
use Rattle.std.proofs.lemmas.List.{append_assoc}
use Rattle.chart_machine.specs.declared.table.StateRow.{StateRow}
use Rattle.chart_machine.specs.declared.table.RegionRow.{RegionRow}
use Rattle.chart_machine.specs.declared.table.Table.{Table}
use Rattle.chart_machine.specs.declared.table.TablePosition.{TablePosition}
use Rattle.chart_machine.specs.declared.table.SubtreeRows.{SubtreeRows}
use Rattle.chart_machine.specs.Table.{Subtree, states_in, regions_in, behind, side_by_side, region_numbers}
use Rattle.chart_machine_laws.proofs.RowsOfSubtrees.{StatesAt, RegionsAt, Holds, states_from, states_first, states_second, regions_from, regions_first}
use Rattle.chart_machine_laws.proofs.RowsOfSubtrees.{regions_second, IsSized, AllSized}

-- behind all of these
abbrev pub past_side : List Subtree → TablePosition → TablePosition
past_side pieces at = record at { state = at.state + states_in pieces; region = at.region + regions_in pieces }

module _ (k : Table) where
  states_join : (n : ℕ) (xs ys : List StateRow) → StatesAt k n xs → StatesAt k (n + length xs) ys → StatesAt k n (xs ++ ys)
  states_join n [] ys h more = states_from k (n + 0) n ys (omega arith) more
  states_join n (x ∷ xs) ys h more =
      (h.0, states_join (suc n) xs ys h.1 (states_from k (n + suc (length xs)) (suc n + length xs) ys (omega arith) more))

  regions_join : (n : ℕ) (xs ys : List RegionRow) → RegionsAt k n xs → RegionsAt k (n + length xs) ys → RegionsAt k n (xs ++ ys)
  regions_join n [] ys h more = regions_from k (n + 0) n ys (omega arith) more
  regions_join n (x ∷ xs) ys h more =
      (h.0, regions_join (suc n) xs ys h.1 (regions_from k (n + suc (length xs)) (suc n + length xs) ys (omega arith) more))

  holds_to : (pieces : List Subtree) (at : TablePosition) (s u r q : ℕ) → s ≡ u → r ≡ q →
      Holds k (record at { state = s; region = r }) (side_by_side pieces (record at { state = s; region = r })) →
      Holds k (record at { state = u; region = q }) (side_by_side pieces (record at { state = u; region = q }))
  holds_to pieces at s u r q e f h =
      subst (λ n. Holds k (record at { state = u; region = n }) (side_by_side pieces (record at { state = u; region = n }))) f
      (subst (λ n. Holds k (record at { state = n; region = r }) (side_by_side pieces (record at { state = n; region = r }))) e h)

  -- of the first piece, and of those behind it
  pub side_head : (p : Subtree) (pieces : List Subtree) (at : TablePosition) → Holds k at (side_by_side (p ∷ pieces) at) → Holds k at (p.parts at)
  side_head p pieces at h =
      let rest : SubtreeRows = side_by_side pieces (behind p at) in
      record {
        states = states_first k at.state (p.parts at).states rest.states h.states;
        regions = regions_first k at.region (p.parts at).regions rest.regions h.regions;
      }

  pub side_tail : (p : Subtree) (pieces : List Subtree) (at : TablePosition) → IsSized p → Holds k at (side_by_side (p ∷ pieces) at) →
      Holds k (behind p at) (side_by_side pieces (behind p at))
  side_tail p pieces at sized h =
      let rest : SubtreeRows = side_by_side pieces (behind p at) in
      record {
        states =
            states_from k (at.state + length (p.parts at).states) (at.state + p.states) rest.states (omega (arith, sized.states at))
            (states_second k at.state (p.parts at).states rest.states h.states);
        regions =
            regions_from k (at.region + length (p.parts at).regions) (at.region + p.regions) rest.regions (omega (arith, sized.regions at))
            (regions_second k at.region (p.parts at).regions rest.regions h.regions);
      }

  -- the same of a few pieces
  pub side_second : (xs ys : List Subtree) (at : TablePosition) → AllSized xs → Holds k at (side_by_side (xs ++ ys) at) →
      Holds k (past_side xs at) (side_by_side ys (past_side xs at))
  side_second [] ys at sized h = holds_to ys at at.state (at.state + 0) at.region (at.region + 0) (omega arith) (omega arith) h
  side_second (x ∷ xs) ys at sized h =
      holds_to ys at ((at.state + x.states) + states_in xs) (at.state + (x.states + states_in xs)) ((at.region + x.regions) + regions_in xs)
      (at.region + (x.regions + regions_in xs)) (omega arith) (omega arith)
      (side_second xs ys (behind x at) sized.1 (side_tail x (xs ++ ys) at sized.0 h))

  pub side_first : (xs ys : List Subtree) (at : TablePosition) → AllSized xs → Holds k at (side_by_side (xs ++ ys) at) → Holds k at (side_by_side xs at)
  side_first [] ys at sized h = record { states = tt; regions = tt }
  side_first (x ∷ xs) ys at sized h =
      let own = side_head x (xs ++ ys) at h in
      let rest : Holds k (behind x at) (side_by_side xs (behind x at)) = side_first xs ys (behind x at) sized.1 (side_tail x (xs ++ ys) at sized.0 h) in
      let rows : SubtreeRows = side_by_side xs (behind x at) in
      record {
        states =
            states_join at.state (x.parts at).states rows.states own.states
            (states_from k (at.state + x.states) (at.state + length (x.parts at).states) rows.states (omega (arith, sized.0.states at)) rest.states);
        regions =
            regions_join at.region (x.parts at).regions rows.regions own.regions
            (regions_from k (at.region + x.regions) (at.region + length (x.parts at).regions) rows.regions (omega (arith, sized.0.regions at)) rest.regions);
      }

-- ---- what is entered

entered_there : (ys : List Subtree) (at : TablePosition) (s u r q : ℕ) → s ≡ u → r ≡ q →
    (side_by_side ys (record at { state = s; region = r })).entered ≡ (side_by_side ys (record at { state = u; region = q })).entered
entered_there ys at s u r q e f =
    ap (λ n. (side_by_side ys (record at { state = n; region = r })).entered) e ∙ ap (λ n. (side_by_side ys (record at { state = u; region = n })).entered) f

pub side_entered : (xs ys : List Subtree) (at : TablePosition) →
    (side_by_side (xs ++ ys) at).entered ≡ (side_by_side xs at).entered ++ (side_by_side ys (past_side xs at)).entered
side_entered [] ys at = entered_there ys at at.state (at.state + 0) at.region (at.region + 0) (omega arith) (omega arith)
side_entered (x ∷ xs) ys at =
    ap (λ zs. (x.parts at).entered ++ zs)
    (side_entered xs ys (behind x at) ∙
    ap (λ zs. (side_by_side xs (behind x at)).entered ++ zs)
    (entered_there ys at ((at.state + x.states) + states_in xs) (at.state + (x.states + states_in xs)) ((at.region + x.regions) + regions_in xs)
    (at.region + (x.regions + regions_in xs)) (omega arith) (omega arith))) ∙
    sym (append_assoc (x.parts at).entered (side_by_side xs (behind x at)).entered (side_by_side ys (past_side (x ∷ xs) at)).entered)

-- ---- how many there are, and their numbers

pub states_append : (xs ys : List Subtree) → states_in (xs ++ ys) ≡ states_in xs + states_in ys
states_append [] ys = omega arith
states_append (x ∷ xs) ys = omega (arith, states_append xs ys)

pub sized_append : (xs ys : List Subtree) → AllSized xs → AllSized ys → AllSized (xs ++ ys)
sized_append [] ys h more = more
sized_append (x ∷ xs) ys h more = (h.0, sized_append xs ys h.1 more)

pub numbers_append : (xs ys : List Subtree) (n : ℕ) → region_numbers (xs ++ ys) n ≡ region_numbers xs n ++ region_numbers ys (n + regions_in xs)
numbers_append [] ys n = subst (λ m. region_numbers ys n ≡ region_numbers ys m) (no_more n) refl
  where
    no_more : (n : ℕ) → n ≡ n + 0
    no_more n = omega arith
numbers_append (x ∷ xs) ys n =
    subst (λ m. n ∷ region_numbers (xs ++ ys) (n + x.regions) ≡ n ∷ (region_numbers xs (n + x.regions) ++ region_numbers ys m))
    (sum n x.regions (regions_in xs)) (Rattle.std.proofs.Common.ap (λ zs. n ∷ zs) (numbers_append xs ys (n + x.regions)))
  where
    sum : (a b c : ℕ) → (a + b) + c ≡ a + (b + c)
    sum a b c = omega arith
