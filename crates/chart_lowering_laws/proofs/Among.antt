-- Where the states of a region stand, the initial one and the others.
use Rattle.std.proofs.Common.{Some, slice_get, unwrap_or, ◌≡◌, ℕ, zero, suc, ◌+◌, ◌<◌, ◌≤◌, inl, inr, ⊎_elim, true, false, if◌then◌else◌, List, [], ◌∷◌, ◌++◌}
use Rattle.std.proofs.Common.{map, length, Contains, refl, sym, ap, subst, ◌∙◌, arith}
use Rattle.std.proofs.lemmas.Option.{slice_get_within}
use Rattle.std.proofs.lemmas.List.{length-map}
use Rattle.chart_lowering_laws.specs.Layout.{InRegion}
use Rattle.sc_text.proofs.EachItem.{Each}
use Rattle.core_charts.specs.declared.region.Region.{Region}
use Rattle.core_charts.specs.declared.region.State.{State}
use Rattle.core_charts.specs.declared.region.Region.TheViews.{out-Region}
use Rattle.core_charts.specs.declared.region.Region.TheFolds.{fold_out-Region}
use Rattle.chart_machine.specs.declared.table.RegionRow.{RegionRow}
use Rattle.chart_machine.specs.declared.table.Table.{Table}
use Rattle.chart_machine.specs.declared.table.TablePosition.{TablePosition}
use Rattle.chart_machine.specs.Table.{Subtree, region_at, state_numbers, states_in, regions_in, in_region, past_states, with_region, regions_in_initial}
use Rattle.chart_machine.specs.Table.{inside_region, region_subtree, state_subtree, subtree_of_state, StatesRows}
use Rattle.chart_machine.proofs.Outside.{within_or_past}
use Rattle.scl.specs.declared.statement.Statement.{Statement}
use Rattle.scl.specs.Block.{Block, End, Label}
use Rattle.scl.specs.Numbering.{Piece as TextPiece, Numbers, pieces_of, in_row}
use Rattle.scl_graph_laws.proofs.Segments.{StandAt, stand_from, stand_first, stand_second}
use Rattle.tick_laws.proofs.Lists.{contains_head, contains_tail}
use Rattle.scl_graph_laws.proofs.Searching.{own_labels}
use Rattle.scl_graph_laws.proofs.Scopes.{KeepsScopes, Distinct, distinct_first}
use Rattle.chart_lowering_laws.proofs.Labels.{text_labels, own_made, label_first}
use Rattle.chart_lowering_laws.proofs.OwnNames.{region_apart, numbers_long}
use Rattle.chart_lowering.specs.declared.targets.Targets.{Targets}
use Rattle.chart_lowering.specs.Lowering.{RegionPiece, StatePiece, label, label_name, texts, numbers, targets, labels_in_initial, state_piece as low_state}
use Rattle.chart_lowering.specs.Lowering.{labels_in_states, region_piece as low_region, piece_of_region as low_of_region, piece_of_state as low_of_state}
use Rattle.chart_lowering_laws.proofs.Texts.{made, label_piece}
use Rattle.chart_lowering_laws.proofs.Counting.{threads_in, CountsState}
use Rattle.chart_lowering_laws.proofs.Finding.{MainPlace, label_found}
use Rattle.chart_lowering_laws.proofs.Passing.{Passed, pass, Front, front_of}
use Rattle.chart_lowering_laws.proofs.Rows.{Rowed, StateRowed, open_region}
use Rattle.chart_lowering_laws.specs.Marks.{Mark, initial_among, RegionMarks, StateMarks, marks_among, region_marks, state_marks, marks_of_region}
use Rattle.chart_lowering_laws.proofs.Marking.{marks_of_state, StateMarked, low_states_same}
use Rattle.chart_lowering_laws.proofs.Walking.{HasLabel, Goes, StateAt, RegionAt, Found, WalksRegion, WalksRegionBy, WalksState, low_open_region}
use Rattle.chart_lowering_laws.proofs.InitialFirst.{others_in, NoneInitial, MostOne, both_in, none_in, joined_by, first_long, initial_threads, OneInitial}
use Rattle.chart_lowering_laws.proofs.StateTexts.{marked_by, marks_of_other, marks_of_initial, get_map, text_of_other, none_of_other, text_of_initial}
use Rattle.chart_lowering_laws.proofs.StateTexts.{none_of_initial, behind_marks, labels_of}
use Rattle.chart_lowering_laws.proofs.InitialStates.{rows_of, Initial, initial_of}

-- a label stands in front of more
pub labelled_more : (more : Block) (xs : List (List ℕ)) (k : Block) → own_labels more ≡ xs ++ own_labels k → HasLabel k → HasLabel more
labelled_more more [] k is h = (h.0, h.1, is ∙ h.2)
labelled_more more (x ∷ xs) k is h = (x, xs ++ own_labels k, is)

module _ (k : Table) (ms : List Mark) (root : Block) (keeps : KeepsScopes root) (top : List ℕ) where
  abbrev Main : ℕ → Block → Type 0
  Main t b = MainPlace root keeps t b

  -- all states of a range, and all regions of two
  record Among (lo hi a b c d : ℕ) : Type 0 where
    states : (s : ℕ) → lo ≤ s → s < hi → StateAt k ms root keeps top s
    first : (q : ℕ) → a ≤ q → q < b → RegionAt k ms root keeps top q
    others : (q : ℕ) → c ≤ q → q < d → RegionAt k ms root keeps top q

  record Others (lo hi c d : ℕ) : Type 0 where
    states : (s : ℕ) → lo ≤ s → s < hi → StateAt k ms root keeps top s
    others : (q : ℕ) → c ≤ q → q < d → RegionAt k ms root keeps top q

  -- a region of this many states
  module _ (size : ℕ) where
    -- one state that is not initial
    module _ (s : State) (ps : List Subtree) (walks : WalksState k ms root keeps top size s) (rowed : StateRowed s)
        (is : (subtree_of_state s).is_initial ≡ false)
        (sc : TablePosition) (next before : ℕ) (follows : next ≡ suc before) (above : sc.holder < next) (sized : length (region_at k sc.holder).states ≡ size)
        (states : StandAt k.states sc.state (in_region (subtree_of_state s ∷ ps) next sc).states)
        (rows : StandAt k.regions before (in_region (subtree_of_state s ∷ ps) next sc).others) where
      abbrev p : Subtree
      p = subtree_of_state s

      own_states : StandAt k.states sc.state ((p.parts (with_region next sc)).states ++ (in_region ps (next + p.regions) (past_states p.states sc)).states)
      own_states = subst (λ b. StandAt k.states sc.state (joined_by b p ps next sc).states) is states

      own_rows : StandAt k.regions before ((p.parts (with_region next sc)).regions ++ (in_region ps (next + p.regions) (past_states p.states sc)).others)
      own_rows = subst (λ b. StandAt k.regions before (joined_by b p ps next sc).others) is rows

      rest_states : StandAt k.states (sc.state + p.states) (in_region ps (next + p.regions) (past_states p.states sc)).states
      rest_states =
          let long : length (p.parts (with_region next sc)).states ≡ p.states = rowed.states (with_region next sc) in
          stand_from k.states (sc.state + length (p.parts (with_region next sc)).states) (sc.state + p.states)
          (in_region ps (next + p.regions) (past_states p.states sc)).states (omega (arith, long))
          (stand_second k.states sc.state (p.parts (with_region next sc)).states (in_region ps (next + p.regions) (past_states p.states sc)).states own_states)

      rest_rows : StandAt k.regions (before + p.regions) (in_region ps (next + p.regions) (past_states p.states sc)).others
      rest_rows =
          let long : length (p.parts (with_region next sc)).regions ≡ p.regions = rowed.regions (with_region next sc) in
          stand_from k.regions (before + length (p.parts (with_region next sc)).regions) (before + p.regions)
          (in_region ps (next + p.regions) (past_states p.states sc)).others (omega (arith, long))
          (stand_second k.regions before (p.parts (with_region next sc)).regions (in_region ps (next + p.regions) (past_states p.states sc)).others own_rows)

      own_found : Contains (region_at k sc.holder).states sc.state → (at : Targets) (n : ℕ) (nums : Numbers) (following : Block) → HasLabel following →
          Goes k ms root keeps top sc.holder sc.around at → StandAt ms sc.state ((marks_of_state s).marks n) → nums.thread ≡ next →
          Main sc.holder (made ((low_of_state s).text at n) nums following) → Found k ms root keeps top sc.state (sc.state + p.states) next
          (next + p.regions)
      own_found listed at n nums following labelled goes marks thread main =
          walks (with_region next sc) before follows above sized listed
          (stand_first k.states sc.state (p.parts (with_region next sc)).states (in_region ps (next + p.regions) (past_states p.states sc)).states own_states)
          (stand_first k.regions before (p.parts (with_region next sc)).regions (in_region ps (next + p.regions) (past_states p.states sc)).others own_rows)
          at n nums following labelled goes marks thread main

    walk_others : (states : List State) → Each (WalksState k ms root keeps top size) states → Each StateRowed states → Each CountsState states →
        Each StateMarked states → NoneInitial (map subtree_of_state states) →
        (sc : TablePosition) (next before : ℕ) → next ≡ suc before → sc.holder < next → length (region_at k sc.holder).states ≡ size →
        ((q : ℕ) → Contains (state_numbers (map subtree_of_state states) sc.state) q → Contains (region_at k sc.holder).states q) →
        StandAt k.states sc.state (in_region (map subtree_of_state states) next sc).states →
        StandAt k.regions before (in_region (map subtree_of_state states) next sc).others →
        (at : Targets) (first m : ℕ) (nums : Numbers) (following : Block) → HasLabel following → Goes k ms root keeps top sc.holder sc.around at →
        StandAt ms sc.state (marked_by states first m) → nums.thread ≡ next →
        Main sc.holder (made (texts false at (map low_of_state states) (numbers (map low_of_state states) first m)) nums following) →
        Others sc.state (sc.state + states_in (map subtree_of_state states)) next (next + others_in (map subtree_of_state states))
    walk_others [] walks rowed counts marked none sc next before follows above sized listed states rows at first m nums following labelled goes marks thread
        main = record { states = λ s lo hi. absurd (omega (arith, lo, hi)); others = λ q lo hi. absurd (omega (arith, lo, hi)) }
    walk_others (s ∷ ss) walks rowed counts marked none sc next before follows above sized listed states rows at first m nums following labelled goes marks
        thread main =
        let marks_too : StandAt ms sc.state ((marks_of_state s).marks m ++ marked_by ss first (m + (low_of_state s).labels)) = subst (StandAt ms sc.state)
        (marks_of_other s ss none.0 first m) marks in
        let ps : List Subtree = map subtree_of_state ss in
        let p : Subtree = subtree_of_state s in
        let rest : List Statement = texts false at (map low_of_state ss) (numbers (map low_of_state ss) first (m + (low_of_state s).labels)) in
        let here : Main sc.holder (made ((low_of_state s).text at m ++ rest) nums following) = subst (λ xs. Main sc.holder (made xs nums following))
        (text_of_other s ss none.0 at first m) main in
        let front : Front root keeps sc.holder ((low_of_state s).text at m) rest nums following = front_of root keeps sc.holder
        ((low_of_state s).text at m) rest nums following here in
        let passed : Passed root keeps sc.holder ((low_of_state s).text at m) rest nums following = pass root keeps sc.holder
        ((low_of_state s).text at m) rest nums following here in
        let own : Found k ms root keeps top sc.state (sc.state + p.states) next (next + p.regions) =
        own_found s ps walks.0 rowed.0 none.0 sc next before follows above sized states rows
        (listed sc.state (contains_head sc.state (state_numbers ps (sc.state + p.states)))) at m nums front.more
        (labelled_more front.more (text_labels rest) following front.labels labelled) goes
        (stand_first ms sc.state ((marks_of_state s).marks m) (marked_by ss first (m + (low_of_state s).labels)) marks_too) thread front.place
        in
        let count : threads_in ((low_of_state s).text at m) ≡ p.regions = counts.0 at m in
        let now : passed.next.thread ≡ nums.thread + threads_in ((low_of_state s).text at m) = passed.thread in
        let more : Others (sc.state + p.states) ((sc.state + p.states) + states_in ps) (next + p.regions) ((next + p.regions) + others_in ps) =
        walk_others ss walks.1 rowed.1 counts.1 marked.1 none.1 (past_states p.states sc) (next + p.regions) (before + p.regions) (omega (arith, follows))
        (omega (arith, above)) sized (λ q h. listed q (contains_tail sc.state q (state_numbers ps (sc.state + p.states)) h))
        (rest_states s ps walks.0 rowed.0 none.0 sc next before follows above sized states rows)
        (rest_rows s ps walks.0 rowed.0 none.0 sc next before follows above sized states rows)
        at first (m + (low_of_state s).labels) passed.next following labelled goes
        (behind_marks ms ((marks_of_state s).marks m) (marked_by ss first (m + (low_of_state s).labels)) sc.state p.states (marked.0.long m) marks_too)
        (omega (arith, now, count, thread)) passed.place in
        let sum : others_in (p ∷ ps) ≡ p.regions + others_in ps = ap (λ b. (if b then 0 else p.regions) + others_in ps) none.0 in
        record {
          states = λ q lo hi. ⊎_elim (λ less. own.states q lo less) (λ later. more.states q later (omega (arith, hi))) (within_or_past q (sc.state + p.states));
          others = λ q lo hi.
              ⊎_elim (λ less. own.regions q lo less) (λ later. more.others q later (omega (arith, hi, sum))) (within_or_past q (next + p.regions));
        }

    -- the initial state, and what the others have behind it
    module _ (s : State) (ps : List Subtree) (walks : WalksState k ms root keeps top size s) (rowed : StateRowed s)
        (is : (subtree_of_state s).is_initial ≡ true)
        (sc : TablePosition) (next before : ℕ) (follows : sc.region ≡ suc before) (above : sc.holder < sc.region)
        (sized : length (region_at k sc.holder).states ≡ size)
        (states : StandAt k.states sc.state (in_region (subtree_of_state s ∷ ps) next sc).states)
        (rows : StandAt k.regions before (in_region (subtree_of_state s ∷ ps) next sc).first) where
      abbrev q : Subtree
      q = subtree_of_state s

      initial_states : StandAt k.states sc.state ((q.parts sc).states ++ (in_region ps next (past_states q.states sc)).states)
      initial_states = subst (λ b. StandAt k.states sc.state (joined_by b q ps next sc).states) is states

      initial_rows : StandAt k.regions before ((q.parts sc).regions ++ (in_region ps next (past_states q.states sc)).first)
      initial_rows = subst (λ b. StandAt k.regions before (joined_by b q ps next sc).first) is rows

      behind_states : StandAt k.states (sc.state + q.states) (in_region ps next (past_states q.states sc)).states
      behind_states =
          let long : length (q.parts sc).states ≡ q.states = rowed.states sc in
          stand_from k.states (sc.state + length (q.parts sc).states) (sc.state + q.states) (in_region ps next (past_states q.states sc)).states
          (omega (arith, long))
          (stand_second k.states sc.state (q.parts sc).states (in_region ps next (past_states q.states sc)).states initial_states)

      initial_found : Contains (region_at k sc.holder).states sc.state → (at : Targets) (n : ℕ) (nums : Numbers) (following : Block) → HasLabel following →
          Goes k ms root keeps top sc.holder sc.around at → StandAt ms sc.state ((marks_of_state s).marks n) → nums.thread ≡ sc.region →
          Main sc.holder (made ((low_of_state s).text at n) nums following) → Found k ms root keeps top sc.state (sc.state + q.states) sc.region
          (sc.region + q.regions)
      initial_found listed at n nums following labelled goes marks thread main =
          walks sc before follows above sized listed
          (stand_first k.states sc.state (q.parts sc).states (in_region ps next (past_states q.states sc)).states initial_states)
          (stand_first k.regions before (q.parts sc).regions (in_region ps next (past_states q.states sc)).first initial_rows)
          at n nums following labelled goes marks thread main

    walk_states : (states : List State) → Each (WalksState k ms root keeps top size) states → Each StateRowed states → Each CountsState states →
        Each StateMarked states → MostOne (map subtree_of_state states) →
        (sc : TablePosition) (next before behind : ℕ) → sc.region ≡ suc before → next ≡ suc behind → sc.holder < sc.region → sc.holder < next →
        length (region_at k sc.holder).states ≡ size →
        ((q : ℕ) → Contains (state_numbers (map subtree_of_state states) sc.state) q → Contains (region_at k sc.holder).states q) →
        StandAt k.states sc.state (in_region (map subtree_of_state states) next sc).states →
        StandAt k.regions before (in_region (map subtree_of_state states) next sc).first →
        StandAt k.regions behind (in_region (map subtree_of_state states) next sc).others →
        (at : Targets) (first m : ℕ) (one two : Numbers) (then_one then_two : Block) → HasLabel then_one → HasLabel then_two →
        Goes k ms root keeps top sc.holder sc.around at → StandAt ms sc.state (marked_by states first m) → one.thread ≡ sc.region → two.thread ≡ next →
        Main sc.holder (made (texts true at (map low_of_state states) (numbers (map low_of_state states) first m)) one then_one) →
        Main sc.holder (made (texts false at (map low_of_state states) (numbers (map low_of_state states) first m)) two then_two) →
        Among sc.state (sc.state + states_in (map subtree_of_state states)) sc.region (sc.region + regions_in_initial (map subtree_of_state states)) next
        (next + others_in (map subtree_of_state states))
    walk_states [] walks rowed counts marked most sc next before behind follows after above beyond sized listed states rows others at first m one two then_one
        then_two labelled labelled_too goes marks thread thread_two main main_two =
        record {
          states = λ s lo hi. absurd (omega (arith, lo, hi));
          first = λ q lo hi. absurd (omega (arith, lo, hi));
          others =
              λ q lo hi. absurd (omega (arith, lo, hi));
        }
    walk_states (s ∷ ss) walks rowed counts marked (inl most) sc next before behind follows after above beyond sized listed states rows others at first m one
        two then_one then_two labelled labelled_too goes marks thread thread_two main main_two =
        let marks_too : StandAt ms sc.state ((marks_of_state s).marks first ++ marked_by ss first m) = subst (StandAt ms sc.state)
        (marks_of_initial s ss most.0 first m) marks in
        let ps : List Subtree = map subtree_of_state ss in
        let p : Subtree = subtree_of_state s in
        let rest : List Statement = texts true at (map low_of_state ss) (numbers (map low_of_state ss) first m) in
        let here : Main sc.holder (made ((low_of_state s).text at first ++ rest) one then_one) = subst (λ xs. Main sc.holder (made xs one then_one))
        (text_of_initial s ss most.0 at first m) main in
        let front : Front root keeps sc.holder ((low_of_state s).text at first) rest one then_one = front_of root keeps sc.holder
        ((low_of_state s).text at first) rest one then_one here in
        let own : Found k ms root keeps top sc.state (sc.state + p.states) sc.region (sc.region + p.regions) =
        initial_found s ps walks.0 rowed.0 most.0 sc next before follows above sized states rows
        (listed sc.state (contains_head sc.state (state_numbers ps (sc.state + p.states)))) at first one front.more
        (labelled_more front.more (text_labels rest) then_one front.labels labelled) goes
        (stand_first ms sc.state ((marks_of_state s).marks first) (marked_by ss first m) marks_too) thread front.place in
        let more : Others (sc.state + p.states) ((sc.state + p.states) + states_in ps) next (next + others_in ps) =
        walk_others ss walks.1 rowed.1 counts.1 marked.1 most.1 (past_states p.states sc) next behind after beyond sized
        (λ q h. listed q (contains_tail sc.state q (state_numbers ps (sc.state + p.states)) h))
        (behind_states s ps walks.0 rowed.0 most.0 sc next before follows above sized states rows)
        (subst (λ b. StandAt k.regions behind (joined_by b p ps next sc).others) most.0 others)
        at first m two then_two labelled_too goes (behind_marks ms ((marks_of_state s).marks first) (marked_by ss first m) sc.state p.states
        (marked.0.long first) marks_too) thread_two
        (subst (λ xs. Main sc.holder (made xs two then_two)) (none_of_initial s ss most.0 at first m) main_two) in
        let init : regions_in_initial (p ∷ ps) ≡ p.regions + regions_in_initial ps = ap (λ b. (if b then p.regions else 0) + regions_in_initial ps) most.0 in
        let no_more : regions_in_initial ps ≡ 0 = none_in ps most.1 in
        let sum : others_in (p ∷ ps) ≡ 0 + others_in ps = ap (λ b. (if b then 0 else p.regions) + others_in ps) most.0 in
        record {
          states = λ q lo hi. ⊎_elim (λ less. own.states q lo less) (λ later. more.states q later (omega (arith, hi))) (within_or_past q (sc.state + p.states));
          first = λ q lo hi. own.regions q lo (omega (arith, hi, init, no_more));
          others = λ q lo hi. more.others q lo (omega (arith, hi, sum));
        }
    walk_states (s ∷ ss) walks rowed counts marked (inr most) sc next before behind follows after above beyond sized listed states rows others at first m one
        two then_one then_two labelled labelled_too goes marks thread thread_two main main_two =
        let marks_too : StandAt ms sc.state ((marks_of_state s).marks m ++ marked_by ss first (m + (low_of_state s).labels)) = subst (StandAt ms sc.state)
        (marks_of_other s ss most.0 first m) marks in
        let ps : List Subtree = map subtree_of_state ss in
        let p : Subtree = subtree_of_state s in
        let n : ℕ = m + (low_of_state s).labels in
        let rest : List Statement = texts false at (map low_of_state ss) (numbers (map low_of_state ss) first n) in
        let here : Main sc.holder (made ((low_of_state s).text at m ++ rest) two then_two) = subst (λ xs. Main sc.holder (made xs two then_two))
        (text_of_other s ss most.0 at first m) main_two in
        let front : Front root keeps sc.holder ((low_of_state s).text at m) rest two then_two = front_of root keeps sc.holder
        ((low_of_state s).text at m) rest two then_two here in
        let passed : Passed root keeps sc.holder ((low_of_state s).text at m) rest two then_two = pass root keeps sc.holder
        ((low_of_state s).text at m) rest two then_two here in
        let own : Found k ms root keeps top sc.state (sc.state + p.states) next (next + p.regions) =
        own_found s ps walks.0 rowed.0 most.0 sc next behind after beyond sized states others
        (listed sc.state (contains_head sc.state (state_numbers ps (sc.state + p.states)))) at m two front.more
        (labelled_more front.more (text_labels rest) then_two front.labels labelled_too) goes
        (stand_first ms sc.state ((marks_of_state s).marks m) (marked_by ss first n) marks_too) thread_two front.place in
        let count : threads_in ((low_of_state s).text at m) ≡ p.regions = counts.0 at m in
        let now : passed.next.thread ≡ two.thread + threads_in ((low_of_state s).text at m) = passed.thread in
        let more : Among (sc.state + p.states) ((sc.state + p.states) + states_in ps) sc.region (sc.region + regions_in_initial ps) (next + p.regions)
        ((next + p.regions) + others_in ps) =
        walk_states ss walks.1 rowed.1 counts.1 marked.1 most.1 (past_states p.states sc) (next + p.regions) before (behind + p.regions) follows
        (omega (arith, after)) above (omega (arith, beyond)) sized (λ q h. listed q (contains_tail sc.state q (state_numbers ps (sc.state + p.states)) h))
        (rest_states s ps walks.0 rowed.0 most.0 sc next behind after beyond sized states others)
        (subst (λ b. StandAt k.regions before (joined_by b p ps next sc).first) most.0 rows)
        (rest_rows s ps walks.0 rowed.0 most.0 sc next behind after beyond sized states others)
        at first n one passed.next then_one then_two labelled labelled_too goes
        (behind_marks ms ((marks_of_state s).marks m) (marked_by ss first n) sc.state p.states (marked.0.long m) marks_too) thread
        (omega (arith, now, count, thread_two))
        (subst (λ xs. Main sc.holder (made xs one then_one)) (none_of_other s ss most.0 at first m) main)
        passed.place in
        let init : regions_in_initial (p ∷ ps) ≡ 0 + regions_in_initial ps = ap (λ b. (if b then p.regions else 0) + regions_in_initial ps) most.0 in
        let sum : others_in (p ∷ ps) ≡ p.regions + others_in ps = ap (λ b. (if b then 0 else p.regions) + others_in ps) most.0 in
        record {
          states = λ q lo hi. ⊎_elim (λ less. own.states q lo less) (λ later. more.states q later (omega (arith, hi))) (within_or_past q (sc.state + p.states));
          first = λ q lo hi. more.first q lo (omega (arith, hi, init));
          others = λ q lo hi.
              ⊎_elim (λ less. own.regions q lo less) (λ later. more.others q later (omega (arith, hi, sum))) (within_or_past q (next + p.regions));
        }

  -- a region, over its states
  pub walk_region : (r : Region) → Each (WalksState k ms root keeps top (length (out-Region r).states)) (out-Region r).states →
      Each StateRowed (out-Region r).states → Each CountsState (out-Region r).states → Each StateMarked (out-Region r).states →
      MostOne (map subtree_of_state (out-Region r).states) → OneInitial (out-Region r).states → WalksRegion k ms root keeps top r
  walk_region r walks rowed counts marked most exactly =
      subst (λ p. WalksRegionBy k ms root keeps top p (low_of_region r) (marks_of_region r))
      (sym (fold_out-Region Subtree Subtree region_subtree state_subtree r))
      (subst (λ low. WalksRegionBy k ms root keeps top (region_subtree (open_region r)) low (marks_of_region r))
      (sym (fold_out-Region RegionPiece StatePiece low_region low_state r))
      (subst (λ m. WalksRegionBy k ms root keeps top (region_subtree (open_region r)) (low_region (low_open_region r)) m)
      (sym (fold_out-Region RegionMarks StateMarks region_marks state_marks r)) opened))
    where
      opened : WalksRegionBy k ms root keeps top (region_subtree (open_region r)) (low_region (low_open_region r))
          (region_marks (record { name = (out-Region r).name; states = map marks_of_state (out-Region r).states }))
      opened at before follows held states rows n base nums marks thread main =
          let ss : List State = (out-Region r).states in
          let ps : List Subtree = map subtree_of_state ss in
          let low : List StatePiece = map low_of_state ss in
          let init : ℕ = regions_in_initial ps in
          let next : ℕ = suc at.region + init in
          let sc : TablePosition = inside_region at in
          let inner : StatesRows = in_region ps next sc in
          let ns : List ℕ = numbers low n (n + labels_in_initial low) in
          let end : ℕ = n + labels_in_states low in
          let goes : Targets = targets ns end in
          let a : List Statement = texts true goes low ns in
          let b : List Statement = texts false goes low ns in
          let own_nums : Numbers = record nums { node = base } in
          let final_block : Block = End (base + (in_row (pieces_of ((low_region (low_open_region r)).body n))).counts.nodes) in
          let both : Front root keeps at.region (a ++ b) (label end ∷ []) own_nums final_block = front_of root keeps at.region (a ++ b)
          (label end ∷ []) own_nums final_block main in
          let one : Front root keeps at.region a b own_nums both.more = front_of root keeps at.region a b own_nums both.more both.place in
          let two : Passed root keeps at.region a b own_nums both.more = pass root keeps at.region a b own_nums both.more both.place in
          let labelled : HasLabel both.more = (label_name end, [], both.labels ∙ ap (λ xs. xs ++ []) (label_first end [])) in
          let long : length inner.first ≡ init = first_long ps (rowed_pieces ss rowed) next sc in
          let count : threads_in a ≡ init = initial_threads ss counts goes n (n + labels_in_initial low) in
          let now : two.next.thread ≡ nums.thread + threads_in a = two.thread in
          let marks_too : StandAt ms at.state (marked_by ss n (n + labels_in_initial low)) =
          subst (λ xs. StandAt ms at.state (marks_among (map marks_of_state ss) (numbers xs n (n + labels_in_initial xs))))
          (low_states_same ss marked) marks in
          let at_end : Passed root keeps at.region (a ++ b) (label end ∷ []) own_nums final_block = pass root keeps at.region (a ++ b)
          (label end ∷ []) own_nums final_block main in
          let end_place : Main at.region (Label (label_name end) final_block) = subst (λ (x : TextPiece). Main at.region (x.made at_end.next final_block))
          (label_piece (label_name end)) at_end.place in
          let own_row : (region_at k at.region).states ≡ state_numbers ps at.state = ap (λ x. (region_at k x).states) follows
          ∙ ap (λ o. (unwrap_or {T = RegionRow} o (record { around = []; states = [] })).states) rows.0 in
          let initial : Initial k ms (state_numbers ps at.state) n inner.entered = initial_of k ms ss rowed marked exactly sc next n
          (n + labels_in_initial low) states marks_too in
          let own_rows : (i u : ℕ) → slice_get (region_at k at.region).states i ≡ Some u → InRegion k at.region u =
          λ i u is. rows_of k ms ss rowed sc next states i u (subst (λ xs. slice_get xs i ≡ Some u) own_row is) in
          let region_goes : Goes k ms root keeps top at.region at.around goes = record {
            around_is = ap (λ x. (region_at k x).around) follows ∙ ap (λ o. (unwrap_or {T = RegionRow} o (record { around = []; states = [] })).around) rows.0;
            states = λ i u is.
                let found : (m : Mark) × (slice_get ms u ≡ Some m) × (slice_get ns i ≡ Some m.label) = labels_of ms ss marked at.state n
                (n + labels_in_initial low) marks_too i u (subst (λ xs. slice_get xs i ≡ Some u) own_row is) in
                (found.0, found.1, get_map label_name ns i found.0.label found.2);
            is_region = (
              subst (λ n. zero < n) (sym follows) (omega arith),
              subst (λ n. n < suc (length k.regions)) (sym follows)
                  (let within : before < length k.regions = slice_get_within k.regions before _ rows.0 in omega (arith, within)),
            );
            own = own_rows;
            initial = subst (λ xs. InRegion k at.region (initial_among ms xs)) (sym own_row)
                (rows_of k ms ss rowed sc next states initial.place (initial_among ms (state_numbers ps at.state)) initial.is);
            apart = region_apart goes ss ns (label end ∷ []) (numbers_long low n (n + labels_in_initial low) ∙ length-map ss low_of_state)
                (distinct_first (text_labels ((a ++ b) ++ label end ∷ [])) []
                (subst Distinct (own_made ((a ++ b) ++ label end ∷ []) own_nums final_block) main.distinct));
            end = (
              base + (in_row (pieces_of ((low_region (low_open_region r)).body n))).counts.nodes,
              label_found root keeps at.region
                  (label_name end) final_block end_place,
            );
          } in
          let among : Among at.state (at.state + states_in ps) (suc at.region) (suc at.region + init) next (next + others_in ps) =
          walk_states (length ss) ss walks rowed counts marked most sc next (suc before) (suc before + length inner.first) (ap suc follows)
          (omega (arith, follows, long)) (omega arith) (omega arith) (ap length own_row ∙ many_numbers ss at.state)
          (λ q h. subst (λ xs. Contains xs q) (sym own_row) h)
          states (stand_first k.regions (suc before) inner.first inner.others rows.1) (stand_second k.regions (suc before) inner.first inner.others rows.1)
          goes n (n + labels_in_initial low) own_nums two.next one.more both.more (labelled_more one.more (text_labels b) both.more one.labels labelled)
          labelled region_goes (subst (λ xs. StandAt ms at.state (marks_among (map marks_of_state ss) (numbers xs n (n + labels_in_initial xs))))
          (low_states_same ss marked) marks) thread (omega (arith, now, count, thread)) one.place two.place in
          let sum : init + others_in ps ≡ regions_in ps = both_in ps in
          let own : RegionAt k ms root keeps top at.region = record {
            region = r;
            at = at;
            is = refl;
            before = before;
            follows = follows;
            held = held;
            targets = goes;
            goes = region_goes;
            row = rows.0;
            label = n;
            base = base;
            numbers = nums;
            thread = thread;
            text = main;
          } in
          record {
            states = among.states;
            regions = λ q lo hi.
                ⊎_elim
                (λ less. subst (RegionAt k ms root keeps top) (omega (arith, lo, less)) own)
                (λ more. ⊎_elim (λ less. among.first q more less) (λ later. among.others q later (omega (arith, hi, sum)))
                (within_or_past q (suc at.region + init)))
                (within_or_past q (suc at.region));
          }
        where
          many_numbers : (ss : List State) (n : ℕ) → length (state_numbers (map subtree_of_state ss) n) ≡ length ss
          many_numbers [] n = refl
          many_numbers (s ∷ ss) n = ap suc (many_numbers ss (n + (subtree_of_state s).states))

          rowed_pieces : (ss : List State) → Each StateRowed ss → Each Rowed (map subtree_of_state ss)
          rowed_pieces [] h = tt
          rowed_pieces (s ∷ ss) h = (h.0, rowed_pieces ss h.1)
