-- Simple and final states, read off what the walk finds.
use Rattle.std.proofs.Common.{◌≡◌, ℕ, zero, suc, ◌<◌, ◌≤◌, ⊎_elim, Bool, true, false, if◌then◌else◌, Option, Some, None, List, [], ◌∷◌, map, length}
use Rattle.std.proofs.Common.{unwrap_or, Contains, refl, sym, ap, subst, ◌∙◌, arith}
use Rattle.std.proofs.lemmas.Option.{slice_get_past}
use Rattle.sc_text.proofs.EachItem.{Each, each_filter}
use Rattle.sc_values.specs.declared.expression.Expr.{Expr}
use Rattle.core_charts.specs.declared.region.Region.TheViews.{out-State}
use Rattle.core_charts.specs.declared.region.Transition.{Transition}
use Rattle.core_charts.specs.Tests.{at_once}
use Rattle.chart_machine.specs.declared.standing.Standing.TheVariants as stand
use Rattle.chart_machine.specs.declared.table.StateRow.{StateRow}
use Rattle.chart_machine.specs.declared.table.RegionRow.{RegionRow}
use Rattle.chart_machine.specs.declared.table.Table.{Table}
use Rattle.chart_machine.specs.Steps.{to}
use Rattle.chart_machine.specs.Table.{state_at, region_at, side_by_side, within, subtree_of_region, entered_state, is_superstate}
use Rattle.chart_machine.proofs.Outside.{within_or_past}
use Rattle.scl.specs.declared.statement.Statement.{Statement}
use Rattle.scl.specs.declared.statement.Statement.TheVariants as statement
use Rattle.scl.specs.declared.statement.Statement.TheOpen as text
use Rattle.scl.specs.Block.{Block, End, Label, Pause}
use Rattle.scl.specs.Labels.{behind_label, settled}
use Rattle.scl.specs.Numbering.{Numbers, piece, piece_of, beyond}
use Rattle.scl.specs.Numbering.{Piece as TextPiece}
use Rattle.scl_graph_laws.specs.Settling.{EachSettles}
use Rattle.scl_graph_laws.proofs.Scopes.{KeepsScopes}
use Rattle.scl_graph_laws.proofs.Searching.{unlike}
use Rattle.chart_lowering.specs.declared.targets.Targets.{Targets}
use Rattle.chart_lowering.specs.Lowering.{label, label_name, label_at, goto, text_of, depth, transitions, tested, taken, is_sure, leaves_surely}
use Rattle.chart_lowering.specs.Lowering.{state_piece as low_state, piece_of_region as low_of_region}
use Rattle.chart_lowering_laws.specs.Layout.{Layout, Acts, Tries, Takes, TriesOut, InRegion, LiesIn, IsTree, IsSimple, IsFinal, goes_on}
use Rattle.chart_lowering_laws.specs.Marks.{Mark, mark_at, behind_some, second_of, lows, marks_of_region, layout_of}
use Rattle.tick_laws.proofs.Lists.{contains_none, contains_cons}
use Rattle.chart_lowering_laws.proofs.Texts.{made, label_piece, pause_piece, if_piece}
use Rattle.chart_lowering_laws.proofs.Finding.{MainPlace, label_found, main_label, main_pause, main_if}
use Rattle.chart_lowering_laws.proofs.Reading.{acts_at, tries_at, tries_map}
use Rattle.chart_lowering_laws.proofs.Walking.{StateAt, low_open_state}
use Rattle.chart_lowering_laws.proofs.ReadingOff.{begin_of, pause_of, into_of, BeginsWith, begins_with, Leads, each_found, simple_begins, final_begins}
use Rattle.chart_lowering_laws.proofs.Leading.{holder_is, transitions_are, all_lead}

-- who has no regions has nothing inside
pub none_around : (k : Table) (l : Layout) → IsTree k l → (s : ℕ) → (state_at k s).regions ≡ [] → (q : ℕ) → ¬ Contains (region_at k q).around s
none_around k l tree s bare q = up_to (suc q) q (omega arith)
  where
    no_region : (q : ℕ) → length k.regions ≤ q → (region_at k (suc q)).around ≡ []
    no_region q past = ap (λ o. (unwrap_or {T = RegionRow} o (record { around = []; states = [] })).around) (slice_get_past k.regions q past)

    up_to : (bound q : ℕ) → q < bound → ¬ Contains (region_at k q).around s
    up_to zero q less here = absurd (omega (arith, less))
    up_to (suc bound) zero less here = contains_none s here
    up_to (suc bound) (suc q) less here = ⊎_elim (λ within. inside within (up_to bound))
        (λ past. contains_none s (subst (λ xs. Contains xs s) (no_region q past) here)) (within_or_past q (length k.regions))
      where
        inside : q < length k.regions → ((q : ℕ) → q < bound → ¬ Contains (region_at k q).around s) → ⊥
        inside within smaller_ones =
            ⊎_elim
            (λ at_top. contains_none s (subst (λ xs. Contains xs s) at_top.1 here))
            (λ (in_state : (u : ℕ) × LiesIn k (suc q) u).
            let u : ℕ = in_state.0 in
            let lies : LiesIn k (suc q) u = in_state.1 in
            let smaller : (state_at k u).holder < suc q = lies.less in
            ⊎_elim
            (λ same. contains_none (suc q) (subst (λ xs. Contains xs (suc q)) bare (subst (λ u. Contains (state_at k u).regions (suc q)) same lies.held)))
            (λ further. smaller_ones (state_at k u).holder (omega (arith, smaller, less)) further)
            (contains_cons u s (region_at k (state_at k u).holder).around (subst (λ xs. Contains xs s) lies.around here)))
            (tree.each (suc q) (omega arith, omega (arith, within)))

module _ (root : Block) (keeps : KeepsScopes root) (settles : EachSettles root) (v : ℕ) (targets : Targets) (into : Transition → Block) where
  -- past tests of which each may fail
  pub past_tests : (ts : List Transition) → leaves_surely ts ≡ false → (rest : List Statement) (n : Numbers) (k : Block) →
      MainPlace root keeps v (made (transitions targets ts rest) n k) → (m : Numbers) × MainPlace root keeps v (made rest m k)
  past_tests [] stays rest n k place = (n, place)
  past_tests (t ∷ ts) stays rest n k place = by t.trigger stays place (λ stays m here. past_tests ts stays rest m k here)
    where
      by : (o : Option Expr) → (if is_sure o then true else leaves_surely ts) ≡ false →
          MainPlace root keeps v (made (tested o (taken targets t) (transitions targets ts rest)) n k) →
          (leaves_surely ts ≡ false → (m : Numbers) → MainPlace root keeps v (made (transitions targets ts rest) m k) →
          (m : Numbers) × MainPlace root keeps v (made rest m k)) → (m : Numbers) × MainPlace root keeps v (made rest m k)
      by None stays here further = absurd (unlike true refl stays)
      by (Some e) stays here further =
          let does : List Statement = taken targets t in
          let others : List Statement = transitions targets ts rest in
          let whole : TextPiece = piece (text.If e (map piece_of does) []) in
          further stays (beyond n whole.counts)
          (main_if root keeps v n.node e _ _ (made others (beyond n whole.counts) k)
          (subst (λ (p : TextPiece). MainPlace root keeps v (p.made n (made others (beyond n p.counts) k))) (if_piece e does []) here))

  -- a second label, the pause, all transitions, and the goto back
  pub record Depth (all : List Transition) (n : ℕ) (m : Numbers) (k : Block) : Type 0 where
    pub node : ℕ
    pub after : Block
    pub found : behind_label root (label_name n) ≡ Some (Pause node after)
    pub settles_there : settled root (made (depth targets all n) m k) ≡ Some (Pause node after)
    pub tries : Tries root (λ t todo. Acts root (into t) t.effects todo) (Pause node after) all after
    pub stays : goes_on (made (depth targets all n) m k) ≡ false

  pub depth_at : (all : List Transition) → Each (λ t. behind_label root (label_at targets t.target) ≡ Some (into t)) all → (n : ℕ) (m : Numbers) (k : Block) →
      MainPlace root keeps v (made (depth targets all n) m k) → Depth all n m k
  depth_at all each n m k place =
      let more : List Statement = transitions targets all (goto n ∷ []) in
      let next : Numbers = beyond m (piece (text.Label (label_name n))).counts in
      let last : Numbers = beyond next (piece text.Pause).counts in
      let after : Block = made more last k in
      let is_label : made (depth targets all n) m k ≡ Label (label_name n) (made (statement.Pause ∷ more) next k) =
      ap (λ (p : TextPiece). p.made m (made (statement.Pause ∷ more) (beyond m p.counts) k)) (label_piece (label_name n)) in
      let is_pause : made (statement.Pause ∷ more) next k ≡ Pause next.node after =
      ap (λ (p : TextPiece). p.made next (made more (beyond next p.counts) k)) pause_piece in
      let here : MainPlace root keeps v (Label (label_name n) (made (statement.Pause ∷ more) next k)) = subst (MainPlace root keeps v) is_label place in
      let found : behind_label root (label_name n) ≡ Some (Pause next.node after) = label_found root keeps v (label_name n)
      (made (statement.Pause ∷ more) next k) here ∙ ap Some is_pause in
      let paused : MainPlace root keeps v (Pause next.node after) = subst (MainPlace root keeps v) is_pause
      (main_label root keeps v (label_name n) (made (statement.Pause ∷ more) next k) here) in
      let behind_pause : MainPlace root keeps v after = main_pause root keeps v next.node after paused in
      record {
        node = next.node;
        after = after;
        found = found;
        settles_there = ap (settled root) is_label ∙ ap (settled root) is_pause;
        tries = tries_at root keeps settles v (Pause next.node after) targets into all each (goto n ∷ []) last k behind_pause
            (λ stays m at. (next.node, after, refl, acts_at root keeps settles v (label_name n) (Pause next.node after) found [] m k at.place));
        stays = ap goes_on is_label;
      }

module _ (k : Table) (ms : List Mark) (root : Block) (keeps : KeepsScopes root) (top : List ℕ) (found : (s : ℕ) → s < length k.states →
    StateAt k ms root keeps top s) (settles : EachSettles root) where
  abbrev l : Layout
  l = layout_of k top ms root

  pub entered_is : (s : ℕ) (x : StateAt k ms root keeps top s) →
      (state_at k s).entered ≡ entered_state (out-State x.state).is_final (is_superstate (map subtree_of_region (out-State x.state).regions)) x.at
      (out-State x.state).transitions (side_by_side (map subtree_of_region (out-State x.state).regions) (within x.at)).entered
  entered_is s x =
      subst (λ z. (state_at k z).entered ≡ entered_state (out-State x.state).is_final (is_superstate (map subtree_of_region (out-State x.state).regions)) x.at
      (out-State x.state).transitions (side_by_side (map subtree_of_region (out-State x.state).regions) (within x.at)).entered) x.is
      (ap (λ o. (unwrap_or {T = StateRow} o (state_at (record k { states = [] }) 0)).entered) x.row)

  -- what is known of transitions is what the layout says of them
  pub takes_of : (s : ℕ) (x : StateAt k ms root keeps top s) (t : Transition) → Leads k ms root keeps top s x t → (todo : Block) →
      Acts root (into_of k ms root keeps top s x t) t.effects todo → Takes k root l (state_at k s).holder t todo
  takes_of s x t leads todo acts =
      subst (λ h. Takes k root l h t todo) (sym (holder_is k ms root keeps top found s x))
      (subst (InRegion k x.at.holder) (ap (λ o. unwrap_or o 0) (sym leads.is)) (x.goes.own t.target leads.target leads.is), acts)

  pub all_taken : (s : ℕ) (x : StateAt k ms root keeps top s) (ts : List Transition) → Each (Leads k ms root keeps top s x) ts →
      Each (λ t. (todo : Block) → Acts root (into_of k ms root keeps top s x t) t.effects todo → Takes k root l (state_at k s).holder t todo) ts
  all_taken s x [] h = tt
  all_taken s x (t ∷ ts) h = (λ todo acts. takes_of s x t h.0 todo acts, all_taken s x ts h.1)

  pub final_state : IsTree k l → (s : ℕ) (x : StateAt k ms root keeps top s) → (state_at k s).regions ≡ [] → (out-State x.state).is_final ≡ true →
      IsFinal k root l s
  final_state tree s x none final =
      let e : (e : ℕ) × (settled root (begin_of k ms root keeps top s) ≡ Some (End e)) = final_begins k ms root keeps top settles s x final in
      let entered : _ = entered_is s x in
      record {
        entered = entered ∙ ap (λ b. entered_state b (is_superstate (map subtree_of_region (out-State x.state).regions)) x.at (out-State x.state).transitions
            (side_by_side (map subtree_of_region (out-State x.state).regions) (within x.at)).entered) final
            ∙ ap (λ h. to h stand.Ended ∷ []) (sym (holder_is k ms root keeps top found s x));
        none_inside = none_around k l tree s none;
        end = e.0;
        begins = e.1;
      }

  pub simple_state : IsTree k l → (s : ℕ) (x : StateAt k ms root keeps top s) → (state_at k s).regions ≡ [] → (out-State x.state).is_final ≡ false →
      (out-State x.state).regions ≡ [] → IsSimple k root l s
  simple_state tree s x none final bare =
      let all : List Transition = (out-State x.state).transitions in
      let lead : Each (Leads k ms root keeps top s x) all = all_lead k ms root keeps top found s x in
      let at_first : Each (Leads k ms root keeps top s x) (at_once all) = each_filter (Leads k ms root keeps top s x) (λ t. t.immediate) all lead in
      let own : (state_at k s).transitions ≡ all = transitions_are k ms root keeps top found s x in
      let begins : Tries root (λ t todo. Acts root (into_of k ms root keeps top s x t) t.effects todo) (pause_of k ms root keeps top s) (at_once all)
      (begin_of k ms root keeps top s) = simple_begins k ms root keeps top settles s x final bare at_first in
      record {
        entered = entered_is s x
            ∙ ap (λ b. entered_state b (is_superstate (map subtree_of_region (out-State x.state).regions)) x.at all
            (side_by_side (map subtree_of_region (out-State x.state).regions) (within x.at)).entered) final
            ∙ ap (λ rs. entered_state false (is_superstate (map subtree_of_region rs)) x.at all (side_by_side (map subtree_of_region rs) (within x.at)).entered)
            bare
            ∙ ap (λ h. to h (stand.Trying x.at.state (at_once all)) ∷ []) (sym (holder_is k ms root keeps top found s x))
            ∙ ap (λ u. to (state_at k s).holder (stand.Trying u (at_once all)) ∷ []) x.is
            ∙ ap (λ ts. to (state_at k s).holder (stand.Trying s (at_once ts)) ∷ []) (sym own);
        none_inside = none_around k l tree s none;
        begins = subst (λ ts. TriesOut k root l s (at_once ts) (l.begin s)) (sym own)
            (tries_map root (l.pause s) (λ t todo. Acts root (into_of k ms root keeps top s x t) t.effects todo) (Takes k root l (state_at k s).holder)
            (at_once all) (all_taken s x (at_once all) at_first) (l.begin s) begins);
        wakes = λ n rest paused. subst (λ ts. TriesOut k root l s ts rest) (sym own)
            (tries_map root (l.pause s) (λ t todo. Acts root (into_of k ms root keeps top s x t) t.effects todo) (Takes k root l (state_at k s).holder) all
            (all_taken s x all lead) rest
            (by (leaves_surely (at_once all)) refl n rest paused));
      }
    where
      second_is : (mark_at ms s).second ≡ second_of false [] (out-State x.state).transitions x.label
      second_is =
          subst (λ z. (mark_at ms z).second ≡ second_of false [] (out-State x.state).transitions x.label) x.is
          (ap (λ o. (unwrap_or {T = Mark} o (mark_at [] 0)).second) x.mark
          ∙ ap (λ b. second_of b (lows (map marks_of_region (out-State x.state).regions)) (out-State x.state).transitions x.label) final
          ∙ ap (λ rs. second_of false (lows (map marks_of_region rs)) (out-State x.state).transitions x.label) bare)

      no_pause : (n e : ℕ) (rest : Block) → End e ≡ Pause n rest → ⊥
      no_pause n e rest h = cc

      after_of : Block → Block
      after_of (Pause n rest) = rest
      after_of other = other

      by : (b : Bool) → leaves_surely (at_once (out-State x.state).transitions) ≡ b → (n : ℕ) (rest : Block) → l.pause s ≡ Pause n rest →
          Tries root (λ t todo. Acts root (into_of k ms root keeps top s x t) t.effects todo) (l.pause s) (out-State x.state).transitions rest
      by true surely n rest paused = absurd
          (no_pause n 0 rest (sym (ap (behind_some root) (second_is ∙ ap (λ b. if b then None else Some (suc x.label)) surely)) ∙ paused))
      by false stays n rest paused =
          let all : List Transition = (out-State x.state).transitions in
          let deep : List Statement = depth x.targets all (suc x.label) in
          let first : List Statement = transitions x.targets (at_once all) deep in
          let same : (low_state (low_open_state x.state)).text x.targets x.label ≡ label x.label ∷ first =
          ap (λ b. text_of b (low_open_state x.state).regions all x.targets x.label) final
          ∙ ap (λ rs. text_of false (map low_of_region rs) all x.targets x.label) bare in
          let b : BeginsWith k ms root keeps top s x.at.region x.at.holder first x.following = begins_with k ms root keeps top s x first same in
          let place : (m : Numbers) × MainPlace root keeps x.at.holder (made deep m x.following) = past_tests root keeps settles x.at.holder x.targets
          (into_of k ms root keeps top s x) (at_once all) stays deep b.next x.following b.place in
          let d : Depth root keeps settles x.at.holder x.targets (into_of k ms root keeps top s x) all (suc x.label) place.0 x.following =
          depth_at root keeps settles x.at.holder x.targets (into_of k ms root keeps top s x) all
          (each_found k ms root keeps top s x all (all_lead k ms root keeps top found s x)) (suc x.label) place.0 x.following place.1 in
          let pause_is : l.pause s ≡ Pause d.node d.after = ap (behind_some root) (second_is ∙ ap (λ b. if b then None else Some (suc x.label)) stays)
          ∙ ap (λ o. unwrap_or o (End 0)) d.found in
          subst (λ z. Tries root (λ t todo. Acts root (into_of k ms root keeps top s x t) t.effects todo) (l.pause s) all z)
          (ap after_of (sym pause_is ∙ paused))
          (subst (λ z. Tries root (λ t todo. Acts root (into_of k ms root keeps top s x t) t.effects todo) z all d.after) (sym pause_is) d.tries)
