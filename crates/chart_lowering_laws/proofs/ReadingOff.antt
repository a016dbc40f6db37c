-- Reading off what a state's text says: where its label leads, where its transitions lead, and what a final state does.
use Rattle.std.proofs.Common.{◌+◌, ⊎_elim, length, Contains, arith, ◌≡◌, ℕ, suc, true, false, if◌then◌else◌, None, Some, map, List, [], ◌∷◌, slice_get}
use Rattle.std.proofs.Common.{unwrap_or, sym, ap, subst, ◌∙◌}
use Rattle.core_charts.specs.declared.region.Transition.{Transition}
use Rattle.core_charts.specs.declared.region.Region.TheViews.{out-State}
use Rattle.chart_machine.specs.declared.table.Table.{Table}
use Rattle.chart_machine.specs.Table.{region_at}
use Rattle.scl.specs.declared.statement.Statement.{Statement}
use Rattle.scl.specs.declared.statement.Statement.TheVariants as statement
use Rattle.scl.specs.declared.statement.Statement.TheOpen as text
use Rattle.scl.specs.Block.{Block, End, Label, Pause}
use Rattle.scl.specs.Labels.{behind_label, settled}
use Rattle.scl.specs.Numbering.{Piece, Numbers, piece, beyond}
use Rattle.scl_graph_laws.specs.Settling.{EachSettles}
use Rattle.scl_graph_laws.proofs.Scopes.{KeepsScopes}
use Rattle.chart_lowering.specs.Lowering.{label, label_name, label_at, text_of, depth, transitions, goto}
use Rattle.chart_lowering.specs.Lowering.{state_piece as low_state}
use Rattle.chart_lowering_laws.specs.Marks.{Mark, mark_at, behind, behind_some, second_of, lows, marks_of_region}
use Rattle.chart_lowering_laws.proofs.Labels.{first_label}
use Rattle.chart_lowering_laws.proofs.Texts.{made, label_piece, pause_piece}
use Rattle.chart_lowering_laws.proofs.Finding.{MainPlace, label_found, main_label}
use Rattle.chart_lowering_laws.proofs.Walking.{StateAt, low_open_state}
use Rattle.core_charts.specs.declared.region.Region.{Region}
use Rattle.core_charts.specs.declared.region.Region.TheFolds.{fold_out-Region}
use Rattle.chart_machine.specs.declared.table.StateRow.{StateRow}
use Rattle.chart_machine.specs.declared.table.RegionRow.{RegionRow}
use Rattle.chart_machine.specs.declared.table.TablePosition.{TablePosition}
use Rattle.chart_machine.specs.Table.{state_at, within, side_by_side, region_numbers, subtree_of_region, region_subtree, state_subtree}
use Rattle.chart_machine.specs.Table.{Subtree as Piece_of_chart, behind as behind_piece}
use Rattle.scl_graph_laws.proofs.Segments.{StandAt, stand_from, stand_first, stand_second}
use Rattle.tick_laws.proofs.Lists.{contains_none, contains_cons}
use Rattle.chart_lowering_laws.proofs.Rows.{RegionRowed, open_region}
use Rattle.chart_lowering_laws.proofs.Reading.{acts_at, tries_at}
use Rattle.sc_text.proofs.EachItem.{Each}
use Rattle.chart_machine.specs.Steps.{state_in}
use Rattle.core_charts.specs.Tests.{at_once}
use Rattle.chart_lowering_laws.specs.Layout.{Acts, Tries}
use Rattle.chart_lowering.specs.Lowering.{piece_of_region as low_of_region}

module _ (k : Table) (ms : List Mark) (root : Block) (keeps : KeepsScopes root) (top : List ℕ) where
  abbrev pub begin_of : ℕ → Block
  begin_of s = behind root (mark_at ms s).label

  -- what stands behind the label of a state
  pub record BeginsWith (s region holder : ℕ) (rest : List Statement) (following : Block) : Type 0 where
    pub next : Numbers
    pub thread : next.thread ≡ region
    pub found : behind_label root (label_name (mark_at ms s).label) ≡ Some (made rest next following)
    pub begin : begin_of s ≡ made rest next following
    pub place : MainPlace root keeps holder (made rest next following)

  pub begins_with : (s : ℕ) (x : StateAt k ms root keeps top s) (rest : List Statement) →
      (low_state (low_open_state x.state)).text x.targets x.label ≡ label x.label ∷ rest → BeginsWith s x.at.region x.at.holder rest x.following
  begins_with s x rest same =
      let next : Numbers = beyond x.numbers (piece (text.Label (label_name x.label))).counts in
      let whole : MainPlace root keeps x.at.holder (made (label x.label ∷ rest) x.numbers x.following) =
      subst (λ xs. MainPlace root keeps x.at.holder (made xs x.numbers x.following)) same x.text in
      let opened : MainPlace root keeps x.at.holder (Label (label_name x.label) (made rest next x.following)) =
      subst (λ (p : Piece). MainPlace root keeps x.at.holder (p.made x.numbers (made rest (beyond x.numbers p.counts) x.following)))
      (label_piece (label_name x.label)) whole in
      let number : (mark_at ms s).label ≡ x.label = subst (λ z. (mark_at ms z).label ≡ x.label) x.is
      (ap (λ o. (unwrap_or {T = Mark} o (mark_at [] 0)).label) x.mark) in
      let here : behind_label root (label_name x.label) ≡ Some (made rest next x.following) = label_found root keeps x.at.holder (label_name x.label)
      (made rest next x.following) opened in
      let found : behind_label root (label_name (mark_at ms s).label) ≡ Some (made rest next x.following) =
      subst (λ n. behind_label root (label_name n) ≡ Some (made rest next x.following)) (sym number) here in
      record {
        next = next;
        thread = (let own : x.numbers.thread ≡ x.at.region = x.thread in omega (arith, own));
        found = found;
        begin = ap (λ o. unwrap_or o (End 0)) found;
        place = main_label root keeps x.at.holder (label_name x.label) (made rest next x.following) opened;
      }

  -- each state's label is found
  pub state_found : (s : ℕ) → StateAt k ms root keeps top s → behind_label root (label_name (mark_at ms s).label) ≡ Some (begin_of s)
  state_found s x =
      let l : (rest : List Statement) × ((low_state (low_open_state x.state)).text x.targets x.label ≡ label x.label ∷ rest) =
      first_label (out-State x.state).is_final (low_open_state x.state).regions (out-State x.state).transitions x.targets x.label in
      let b : BeginsWith s x.at.region x.at.holder l.0 x.following = begins_with s x l.0 l.1 in
      b.found ∙ ap Some (sym b.begin)

  -- and so is that of a transition's target
  pub target_found : (s : ℕ) (x : StateAt k ms root keeps top s) (i u : ℕ) → slice_get (region_at k x.at.holder).states i ≡ Some u →
      StateAt k ms root keeps top u → behind_label root (label_at x.targets i) ≡ Some (begin_of u)
  target_found s x i u is y =
      let g : (m : Mark) × (slice_get ms u ≡ Some m) × (slice_get x.targets.states i ≡ Some (label_name m.label)) = x.goes.states i u is in
      let name : label_at x.targets i ≡ label_name g.0.label = ap (λ o. unwrap_or o x.targets.end) g.2 in
      let number : (mark_at ms u).label ≡ g.0.label = ap (λ o. (unwrap_or {T = Mark} o (mark_at [] 0)).label) g.1 in
      ap (behind_label root) (name ∙ ap label_name (sym number)) ∙ state_found u y

  -- the transitions of a simple state, and its pause
  pub record Leads (s : ℕ) (x : StateAt k ms root keeps top s) (t : Transition) : Type 0 where
    pub target : ℕ
    pub is : slice_get (region_at k x.at.holder).states t.target ≡ Some target
    pub there : StateAt k ms root keeps top target

  abbrev pub into_of : (s : ℕ) (x : StateAt k ms root keeps top s) → Transition → Block
  into_of s x t = begin_of (state_in k x.at.holder t.target)

  pub leads_found : (s : ℕ) (x : StateAt k ms root keeps top s) (t : Transition) → Leads s x t → behind_label root (label_at x.targets t.target) ≡ Some
      (into_of s x t)
  leads_found s x t h = target_found s x t.target h.target h.is h.there ∙ ap (λ o. Some (begin_of (unwrap_or o 0))) (sym h.is)

  pub each_found : (s : ℕ) (x : StateAt k ms root keeps top s) (ts : List Transition) → Each (Leads s x) ts →
      Each (λ t. behind_label root (label_at x.targets t.target) ≡ Some (into_of s x t)) ts
  each_found s x [] h = tt
  each_found s x (t ∷ ts) h = (leads_found s x t h.0, each_found s x ts h.1)

  abbrev pub pause_of : ℕ → Block
  pause_of s = behind_some root (mark_at ms s).second

  -- its surface tries its immediate transitions
  pub simple_begins : EachSettles root → (s : ℕ) (x : StateAt k ms root keeps top s) → (out-State x.state).is_final ≡ false → (out-State x.state).regions ≡ [] →
      Each (Leads s x) (at_once (out-State x.state).transitions) →
      Tries root (λ t todo. Acts root (into_of s x t) t.effects todo) (pause_of s) (at_once (out-State x.state).transitions) (begin_of s)
  simple_begins settles s x final bare leads =
      let all : List Transition = (out-State x.state).transitions in
      let surface : List Transition = at_once all in
      let deep : List Statement = depth x.targets all (suc x.label) in
      let rest : List Statement = transitions x.targets surface deep in
      let same : (low_state (low_open_state x.state)).text x.targets x.label ≡ label x.label ∷ rest =
      ap (λ b. text_of b (low_open_state x.state).regions all x.targets x.label) final
      ∙ ap (λ rs. text_of false (map low_of_region rs) all x.targets x.label) bare in
      let b : BeginsWith s x.at.region x.at.holder rest x.following = begins_with s x rest same in
      let second : (mark_at ms s).second ≡ second_of false [] all x.label = subst (λ z. (mark_at ms z).second ≡ second_of false [] all x.label) x.is
      (ap (λ o. (unwrap_or {T = Mark} o (mark_at [] 0)).second) x.mark
      ∙ ap (λ b. second_of b (lows (map marks_of_region (out-State x.state).regions)) all x.label) final
      ∙ ap (λ rs. second_of false (lows (map marks_of_region rs)) all x.label) bare) in
      subst (Tries root (λ t todo. Acts root (into_of s x t) t.effects todo) (pause_of s) surface) (sym b.begin)
      (tries_at root keeps settles x.at.holder (pause_of s) x.targets (into_of s x) surface (each_found s x surface leads) deep b.next x.following b.place
      (λ stays m place.
      let more : List Statement = transitions x.targets all (goto (suc x.label) ∷ []) in
      let next : Numbers = beyond m (piece (text.Label (label_name (suc x.label)))).counts in
      let after : Block = made more (beyond next (piece text.Pause).counts) x.following in
      let here : MainPlace root keeps x.at.holder (Label (label_name (suc x.label)) (made (statement.Pause ∷ more) next x.following)) =
      subst (λ (p : Piece). MainPlace root keeps x.at.holder (p.made m (made (statement.Pause ∷ more) (beyond m p.counts) x.following)))
      (label_piece (label_name (suc x.label))) place in
      let is_pause : made (statement.Pause ∷ more) next x.following ≡ Pause next.node after =
      ap (λ (p : Piece). p.made next (made more (beyond next p.counts) x.following)) pause_piece in
      let found : behind_label root (label_name (suc x.label)) ≡ Some (Pause next.node after) = label_found root keeps x.at.holder (label_name (suc x.label))
      (made (statement.Pause ∷ more) next x.following) here ∙ ap Some is_pause in
      let two : second_of false [] all x.label ≡ Some (suc x.label) = ap (λ b. if b then None else Some (suc x.label)) stays in
      let paused : pause_of s ≡ Pause next.node after = ap (behind_some root) (second ∙ two) ∙ ap (λ o. unwrap_or o (End 0)) found in
      let text_is : made deep m x.following ≡ Label (label_name (suc x.label)) (made (statement.Pause ∷ more) next x.following) =
      ap (λ (p : Piece). p.made m (made (statement.Pause ∷ more) (beyond m p.counts) x.following)) (label_piece (label_name (suc x.label))) in
      (next.node, after, paused, ap (settled root) text_is ∙ ap (settled root) is_pause)))

  -- a final state leads to the end of its region
  pub final_begins : EachSettles root → (s : ℕ) (x : StateAt k ms root keeps top s) → (out-State x.state).is_final ≡ true →
      (e : ℕ) × (settled root (begin_of s) ≡ Some (End e))
  final_begins settles s x final =
      let same : (low_state (low_open_state x.state)).text x.targets x.label ≡ label x.label ∷ statement.Goto x.targets.end ∷ [] =
      ap (λ b. text_of b (low_open_state x.state).regions (out-State x.state).transitions x.targets x.label) final in
      let end : List Statement = statement.Goto x.targets.end ∷ [] in
      let b : BeginsWith s x.at.region x.at.holder end x.following = begins_with s x end same in (
        x.goes.end.0,
        ap (settled root) b.begin ∙ acts_at root keeps settles x.at.holder x.targets.end
            (End x.goes.end.0) x.goes.end.1 [] b.next x.following b.place.place,
      )

  -- the regions that a state's row lists lie in it
  pub rows_around : (regions : List Region) → Each RegionRowed regions → (at : TablePosition) (before : ℕ) → at.region ≡ suc before →
      StandAt k.regions before (side_by_side (map subtree_of_region regions) at).regions →
      (q : ℕ) → Contains (region_numbers (map subtree_of_region regions) at.region) q → (region_at k q).around ≡ at.around
  rows_around [] rowed at before follows rows q here = absurd (contains_none q here)
  rows_around (r ∷ regions) rowed at before follows rows q here =
      let p : Piece_of_chart = subtree_of_region r in
      let ps : List Piece_of_chart = map subtree_of_region regions in
      ⊎_elim
      (λ same. ap (λ x. (region_at k x).around) (sym same ∙ follows)
      ∙ first r at before (stand_first k.regions before (p.parts at).regions (side_by_side ps (behind_piece p at)).regions rows))
      (λ later.
      let wide : length (p.parts at).regions ≡ p.regions = rowed.0.regions at in
      rows_around regions rowed.1 (behind_piece p at) (before + p.regions) (omega (arith, follows))
      (stand_from k.regions (before + length (p.parts at).regions) (before + p.regions) (side_by_side ps (behind_piece p at)).regions (omega (arith, wide))
      (stand_second k.regions before (p.parts at).regions (side_by_side ps (behind_piece p at)).regions rows)) q later)
      (contains_cons at.region q (region_numbers ps (at.region + p.regions)) here)
    where
      first : (r : Region) (at : TablePosition) (before : ℕ) → StandAt k.regions before ((subtree_of_region r).parts at).regions →
          (region_at k (suc before)).around ≡ at.around
      first r at before rows =
          let opened : StandAt k.regions before ((region_subtree (open_region r)).parts at).regions = subst (λ p. StandAt k.regions before (p.parts at).regions)
          (fold_out-Region Piece_of_chart Piece_of_chart region_subtree state_subtree r) rows in
          ap (λ o. (unwrap_or {T = RegionRow} o (record { around = []; states = [] })).around) opened.0

  -- around a region of a state stand the state and what is around it
  pub state_holds : (s : ℕ) (x : StateAt k ms root keeps top s) (q : ℕ) → Contains (state_at k s).regions q →
      (region_at k q).around ≡ s ∷ (region_at k (state_at k s).holder).around
  state_holds s x q here =
      let number : (state_at k s).regions ≡ region_numbers (map subtree_of_region (out-State x.state).regions) x.at.region =
      subst (λ z. (state_at k z).regions ≡ region_numbers (map subtree_of_region (out-State x.state).regions) x.at.region) x.is
      (ap (λ o. (unwrap_or {T = StateRow} o (state_at (record k { states = [] }) 0)).regions) x.row) in
      let holder : (state_at k s).holder ≡ x.at.holder = subst (λ z. (state_at k z).holder ≡ x.at.holder) x.is
      (ap (λ o. (unwrap_or {T = StateRow} o (state_at (record k { states = [] }) 0)).holder) x.row) in
      let around : (region_at k q).around ≡ x.at.state ∷ x.at.around = rows_around (out-State x.state).regions x.rowed
      (within x.at) x.before x.follows x.inside q (subst (λ xs. Contains xs q) number here) in
      around ∙ ap (λ z. z ∷ x.at.around) x.is ∙ ap (λ xs. s ∷ xs) (sym x.goes.around_is ∙ ap (λ z. (region_at k z).around) (sym holder))
