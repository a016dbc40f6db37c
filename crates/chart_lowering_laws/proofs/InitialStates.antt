-- A region's initial state: which it is, its label, and what entering it makes.
use Rattle.std.proofs.Common.{Some, slice_get, unwrap_or, ◌≡◌, ℕ, zero, suc, ◌+◌, inl, inr, Bool, true, false, if◌then◌else◌, List, [], ◌∷◌, ◌++◌, map}
use Rattle.std.proofs.Common.{length, refl, sym, ap, subst, ◌∙◌, arith}
use Rattle.std.proofs.lemmas.Option.{none-some, same_Some, slice_get_within}
use Rattle.std.proofs.lemmas.List.{append-nil}
use Rattle.chart_machine.specs.declared.standing.Move.{Move}
use Rattle.chart_machine.specs.declared.table.StateRow.{StateRow}
use Rattle.chart_lowering_laws.specs.Layout.{InRegion}
use Rattle.sc_text.proofs.EachItem.{Each}
use Rattle.core_charts.specs.declared.region.State.{State}
use Rattle.core_charts.specs.declared.region.Region.TheFolds.{fold_out-State}
use Rattle.chart_machine.specs.declared.table.Table.{Table}
use Rattle.chart_machine.specs.declared.table.TablePosition.{TablePosition}
use Rattle.chart_machine.specs.Table.{Subtree, state_at, state_numbers, in_region, past_states, with_region, region_subtree, state_subtree, subtree_of_state}
use Rattle.scl_graph_laws.proofs.Segments.{StandAt, stand_from, stand_first, stand_second}
use Rattle.chart_lowering.specs.Lowering.{piece_of_state as low_of_state}
use Rattle.chart_lowering_laws.proofs.Rows.{StateRowed, open_state}
use Rattle.chart_lowering_laws.specs.Marks.{Mark, mark_at, initial_among, RegionMarks, StateMarks, region_marks, state_marks}
use Rattle.chart_lowering_laws.proofs.Marking.{marks_of_state, StateMarked}
use Rattle.chart_lowering_laws.proofs.Walking.{mark_open_state}
use Rattle.chart_lowering_laws.proofs.InitialFirst.{NoneInitial, joined_by, OneInitial, piece_initial}
use Rattle.chart_lowering_laws.proofs.StateTexts.{marked_by, marks_of_other, marks_of_initial, behind_marks}

pub none_entered : (ps : List Subtree) → NoneInitial ps → (next : ℕ) (at : TablePosition) → (in_region ps next at).entered ≡ []
none_entered [] none next at = refl
none_entered (p ∷ ps) none next at = ap (λ b. (joined_by b p ps next at).entered) none.0 ∙ none_entered ps none.1 (next + p.regions) (past_states p.states at)

module _ (k : Table) (ms : List Mark) where
  -- the rows of a region's states
  pub rows_of : (states : List State) → Each StateRowed states → (sc : TablePosition) (next : ℕ) →
      StandAt k.states sc.state (in_region (map subtree_of_state states) next sc).states →
      (i u : ℕ) → slice_get (state_numbers (map subtree_of_state states) sc.state) i ≡ Some u → InRegion k sc.holder u
  rows_of [] rowed sc next h i u is = absurd (none-some u is)
  rows_of (s ∷ ss) rowed sc next h i u is = by (subtree_of_state s).is_initial h (λ m. rows_of ss rowed.1 (past_states (subtree_of_state s).states sc) m)
    where
      at : (here : TablePosition) → here.state ≡ sc.state → here.holder ≡ sc.holder → (others : List StateRow) →
          StandAt k.states sc.state (((subtree_of_state s).parts here).states ++ others) →
          (StandAt k.states (sc.state + (subtree_of_state s).states) others → (j u : ℕ) →
          slice_get (state_numbers (map subtree_of_state ss) (sc.state + (subtree_of_state s).states)) j ≡ Some u → InRegion k sc.holder u) →
          (i : ℕ) → slice_get (sc.state ∷ state_numbers (map subtree_of_state ss) (sc.state + (subtree_of_state s).states)) i ≡ Some u → InRegion k sc.holder u
      at here place holder others h rest zero is =
          let own : StandAt k.states sc.state ((state_subtree (open_state s)).parts here).states = subst (λ p. StandAt k.states sc.state (p.parts here).states)
          (fold_out-State Subtree Subtree region_subtree state_subtree s) (stand_first k.states sc.state ((subtree_of_state s).parts here).states others h) in
          subst (InRegion k sc.holder) (same_Some sc.state u is)
          (record {
            there = slice_get_within k.states sc.state _ own.0;
            holder =
                ap (λ o. (unwrap_or {T = StateRow} o (state_at (record k { states = [] }) 0)).holder) own.0 ∙ holder;
          })
      at here place holder others h rest (suc j) is =
          let long : length ((subtree_of_state s).parts here).states ≡ (subtree_of_state s).states = rowed.0.states here in
          rest (stand_from k.states (sc.state + length ((subtree_of_state s).parts here).states) (sc.state + (subtree_of_state s).states) others
          (omega (arith, long)) (stand_second k.states sc.state ((subtree_of_state s).parts here).states others h)) j u is

      by : (b : Bool) → StandAt k.states sc.state (joined_by b (subtree_of_state s) (map subtree_of_state ss) next sc).states →
          ((m : ℕ) → StandAt k.states (sc.state + (subtree_of_state s).states)
          (in_region (map subtree_of_state ss) m (past_states (subtree_of_state s).states sc)).states → (j u : ℕ) →
          slice_get (state_numbers (map subtree_of_state ss) (sc.state + (subtree_of_state s).states)) j ≡ Some u → InRegion k sc.holder u) →
          InRegion k sc.holder u
      by true h rest = at sc refl refl (in_region (map subtree_of_state ss) next (past_states (subtree_of_state s).states sc)).states h (rest next) i is
      by false h rest = at (with_region next sc) refl refl (in_region (map subtree_of_state ss) (next + (subtree_of_state s).regions)
          (past_states (subtree_of_state s).states sc)).states h (rest (next + (subtree_of_state s).regions)) i is

  -- a region's initial state: which it is, its label, and what entering it makes
  pub record Initial (xs : List ℕ) (first : ℕ) (entered : List Move) : Type 0 where
    pub place : ℕ
    pub is : slice_get xs place ≡ Some (initial_among ms xs)
    pub label : (mark_at ms (initial_among ms xs)).label ≡ first
    pub enters : (state_at k (initial_among ms xs)).entered ≡ entered

  pub initial_of : (states : List State) → Each StateRowed states → Each StateMarked states → OneInitial states → (sc : TablePosition) (next first m : ℕ) →
      StandAt k.states sc.state (in_region (map subtree_of_state states) next sc).states → StandAt ms sc.state (marked_by states first m) →
      Initial (state_numbers (map subtree_of_state states) sc.state) first (in_region (map subtree_of_state states) next sc).entered
  initial_of [] rowed marked one sc next first m states marks = absurd one
  initial_of (s ∷ ss) rowed marked (inl one) sc next first m states marks =
      let p : Subtree = subtree_of_state s in
      let ps : List Subtree = map subtree_of_state ss in
      let is : p.is_initial ≡ true = piece_initial s true one.0 in
      let xs : List ℕ = state_numbers ps (sc.state + p.states) in
      let own_marks : StandAt ms sc.state ((marks_of_state s).marks first) = stand_first ms sc.state ((marks_of_state s).marks first) (marked_by ss first m)
      (subst (StandAt ms sc.state) (marks_of_initial s ss is first m) marks) in
      let open_marks : StandAt ms sc.state ((state_marks (mark_open_state s)).marks first) = subst (λ m. StandAt ms sc.state (m.marks first))
      (fold_out-State RegionMarks StateMarks region_marks state_marks s) own_marks in
      let chosen : initial_among ms (sc.state ∷ xs) ≡ sc.state = ap (λ b. if b then sc.state else initial_among ms xs)
      (ap (λ o. (unwrap_or {T = Mark} o (mark_at [] 0)).is_initial) open_marks.0 ∙ one.0) in
      let rows : StandAt k.states sc.state ((p.parts sc).states ++ (in_region ps next (past_states p.states sc)).states) =
      subst (λ b. StandAt k.states sc.state (joined_by b p ps next sc).states) is states in
      let own : StandAt k.states sc.state ((state_subtree (open_state s)).parts sc).states = subst (λ p. StandAt k.states sc.state (p.parts sc).states)
      (fold_out-State Subtree Subtree region_subtree state_subtree s)
      (stand_first k.states sc.state (p.parts sc).states (in_region ps next (past_states p.states sc)).states rows) in
      let enters : (state_at k sc.state).entered ≡ (p.parts sc).entered = ap (λ o. (unwrap_or {T = StateRow} o (state_at (record k { states = [] }) 0)).entered)
      own.0 ∙ sym (ap (λ p. (p.parts sc).entered) (fold_out-State Subtree Subtree region_subtree state_subtree s)) in
      let all : (in_region (p ∷ ps) next sc).entered ≡ (p.parts sc).entered =
      ap (λ b. (joined_by b p ps next sc).entered) is ∙ ap (λ ys. (p.parts sc).entered ++ ys) (none_entered ps one.1 next (past_states p.states sc))
      ∙ append-nil (p.parts sc).entered in
      record {
        place = 0;
        is = ap Some (sym chosen);
        label = ap (λ z. (mark_at ms z).label) chosen ∙ ap (λ o. (unwrap_or {T = Mark} o (mark_at [] 0)).label) open_marks.0;
        enters = ap (λ z. (state_at k z).entered) chosen ∙ enters ∙ sym all;
      }
  initial_of (s ∷ ss) rowed marked (inr one) sc next first m states marks =
      let p : Subtree = subtree_of_state s in
      let ps : List Subtree = map subtree_of_state ss in
      let is : p.is_initial ≡ false = piece_initial s false one.0 in
      let xs : List ℕ = state_numbers ps (sc.state + p.states) in
      let n : ℕ = m + (low_of_state s).labels in
      let marks_too : StandAt ms sc.state ((marks_of_state s).marks m ++ marked_by ss first n) = subst (StandAt ms sc.state)
      (marks_of_other s ss is first m) marks in
      let open_marks : StandAt ms sc.state ((state_marks (mark_open_state s)).marks m) = subst (λ x. StandAt ms sc.state (x.marks m))
      (fold_out-State RegionMarks StateMarks region_marks state_marks s)
      (stand_first ms sc.state ((marks_of_state s).marks m) (marked_by ss first n) marks_too) in
      let chosen : initial_among ms (sc.state ∷ xs) ≡ initial_among ms xs = ap (λ b. if b then sc.state else initial_among ms xs)
      (ap (λ o. (unwrap_or {T = Mark} o (mark_at [] 0)).is_initial) open_marks.0 ∙ one.0) in
      let rows : StandAt k.states sc.state ((p.parts (with_region next sc)).states ++ (in_region ps (next + p.regions) (past_states p.states sc)).states) =
      subst (λ b. StandAt k.states sc.state (joined_by b p ps next sc).states) is states in
      let long : length (p.parts (with_region next sc)).states ≡ p.states = rowed.0.states (with_region next sc) in
      let rest : Initial xs first (in_region ps (next + p.regions) (past_states p.states sc)).entered =
      initial_of ss rowed.1 marked.1 one.1 (past_states p.states sc) (next + p.regions) first n
      (stand_from k.states (sc.state + length (p.parts (with_region next sc)).states) (sc.state + p.states)
      (in_region ps (next + p.regions) (past_states p.states sc)).states (omega (arith, long))
      (stand_second k.states sc.state (p.parts (with_region next sc)).states (in_region ps (next + p.regions) (past_states p.states sc)).states rows))
      (behind_marks ms ((marks_of_state s).marks m) (marked_by ss first n) sc.state p.states (marked.0.long m) marks_too) in
      let all : (in_region (p ∷ ps) next sc).entered ≡ (in_region ps (next + p.regions) (past_states p.states sc)).entered =
      ap (λ b. (joined_by b p ps next sc).entered) is in
      record {
        place = suc rest.place;
        is = rest.is ∙ ap Some (sym chosen);
        label = ap (λ z. (mark_at ms z).label) chosen ∙ rest.label;
        enters = ap (λ z. (state_at k z).entered) chosen ∙ rest.enters ∙ sym all;
      }
