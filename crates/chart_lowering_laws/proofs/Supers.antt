-- Superstates, read off what the walk finds.
use Rattle.std.proofs.Common.{◌≡◌, ℕ, suc, ◌+◌, ◌<◌, ◌≤◌, true, false, Some, None, List, [], ◌∷◌, ◌++◌, map, length, unwrap_or, count_by, refl, sym, ap}
use Rattle.std.proofs.Common.{subst, ◌∙◌, arith}
use Rattle.std.proofs.lemmas.List.Sums.{length-filter}
use Rattle.sc_text.proofs.EachItem.{Each, each_filter}
use Rattle.core_charts.specs.declared.region.Effect.{Effect}
use Rattle.core_charts.specs.declared.region.Region.{Region}
use Rattle.core_charts.specs.declared.region.Region.TheViews.{out-State}
use Rattle.core_charts.specs.declared.region.Transition.{Transition}
use Rattle.core_charts.specs.declared.region.TransitionKind.TheVariants as kind
use Rattle.core_charts.specs.Rules.{has_regions}
use Rattle.core_charts.specs.Tests.{is_join, is_strong, is_weak, at_once, strong_aborts, weak_aborts, terminations, closing_tests, first_closing_tests}
use Rattle.chart_machine.specs.declared.standing.Move.{Move}
use Rattle.chart_machine.specs.declared.standing.Standing.TheVariants as stand
use Rattle.chart_machine.specs.declared.table.StateRow.{StateRow}
use Rattle.chart_machine.specs.declared.table.Table.{Table}
use Rattle.chart_machine.specs.Steps.{to}
use Rattle.chart_machine.specs.Table.{state_at, region_numbers, side_by_side, within, subtree_of_region, entered_state, is_superstate, come_to}
use Rattle.scl.specs.declared.statement.Statement.{Statement}
use Rattle.scl.specs.declared.statement.Statement.TheVariants as statement
use Rattle.scl.specs.declared.statement.Statement.TheOpen as text
use Rattle.scl.specs.Block.{Block, End, Pause, Fork, Branches}
use Rattle.scl.specs.Labels.{settled}
use Rattle.scl.specs.Places.{Place}
use Rattle.scl.specs.Numbering.{Numbers, piece, piece_of, beyond, branches_from}
use Rattle.scl.specs.Numbering.{Piece as TextPiece}
use Rattle.scl_graph_laws.specs.Settling.{EachSettles}
use Rattle.scl_graph_laws.proofs.Scopes.{KeepsScopes}
use Rattle.chart_lowering.specs.Lowering.{label, label_at, text_of, branches, behind, labels_in, assignment}
use Rattle.chart_lowering.specs.Lowering.{state_piece as low_state, piece_of_region as low_of_region}
use Rattle.chart_lowering_laws.specs.Layout.{Layout, IsSuper, Opens, Behind, all_entered, goes_on}
use Rattle.chart_lowering_laws.specs.Marks.{Mark, mark_at, behind_some, second_of, second_behind, lows, marks_of_region, layout_of}
use Rattle.chart_lowering_laws.proofs.Texts.{made, fork_piece, goto_piece, assign_piece}
use Rattle.chart_lowering_laws.proofs.Counting.{regions_count}
use Rattle.chart_lowering_laws.proofs.Finding.{MainPlace, main_branch, main_fork}
use Rattle.chart_lowering_laws.proofs.Marking.{lows_same, regions_marked}
use Rattle.chart_lowering_laws.proofs.Reading.{acts_at}
use Rattle.chart_lowering_laws.proofs.Walking.{StateAt, low_open_state}
use Rattle.chart_lowering_laws.proofs.ReadingOff.{into_of, BeginsWith, begins_with, Leads, leads_found}
use Rattle.chart_lowering_laws.proofs.Leading.{holder_is, transitions_are, all_lead, all_joins, none_filtered}
use Rattle.chart_lowering_laws.proofs.Depths.{Depth, depth_at, entered_is, takes_of}
use Rattle.chart_lowering_laws.proofs.Opening.{OpenBeside, open_beside, regions_begin}

each_map : {X : Type 0} (P Q : X → Type 0) → ((x : X) → P x → Q x) → (xs : List X) → Each P xs → Each Q xs
each_map P Q f [] h = tt
each_map P Q f (x ∷ xs) h = (f x h.0, each_map P Q f xs h.1)

none_more : {X : Type 0} (x : X) (xs : List X) → length (x ∷ xs) ≤ 1 → xs ≡ []
none_more x [] h = refl
none_more x (y ∷ ys) h = absurd (omega (arith, h))

-- effects and a goto go on
taken_goes_on : (effects : List Effect) (name : List ℕ) (m : Numbers) (k : Block) → goes_on (made (map assignment effects ++ statement.Goto name ∷ []) m k)
    ≡ true
taken_goes_on [] name m k = ap (λ (p : TextPiece). goes_on (p.made m k)) (goto_piece name)
taken_goes_on (e ∷ effects) name m k =
    let rest : List Statement = map assignment effects ++ statement.Goto name ∷ [] in
    ap (λ (p : TextPiece). goes_on (p.made m (made rest (beyond m p.counts) k))) (assign_piece e.variable e.value)

abbrev IsJoin : Transition → Type 0
IsJoin t = (t.kind ≡ kind.Join) × (t.immediate ≡ false) × (t.trigger ≡ None)

module _ (k : Table) (ms : List Mark) (root : Block) (keeps : KeepsScopes root) (top : List ℕ) (found : (s : ℕ) → s < length k.states →
    StateAt k ms root keeps top s) (settles : EachSettles root) where
  abbrev l : Layout
  l = layout_of k top ms root

  module _ (s : ℕ) (x : StateAt k ms root keeps top s) (final : (out-State x.state).is_final ≡ false) (r : Region) (rs : List Region)
      (regions_are : (out-State x.state).regions ≡ r ∷ rs) where
    abbrev all : List Transition
    all = (out-State x.state).transitions

    abbrev regions : List Region
    regions = (out-State x.state).regions

    abbrev N : ℕ
    N = suc x.label + labels_in (map low_of_region regions)

    joins : Each IsJoin all
    joins = all_joins k ms root keeps top found s x (ap has_regions regions_are)

    strong : strong_aborts all ≡ []
    strong = none_filtered (λ t. is_strong t.kind) all (each_map IsJoin (λ t. is_strong t.kind ≡ false) (λ t j. ap is_strong j.0) all joins)

    weak : weak_aborts all ≡ []
    weak = none_filtered (λ t. is_weak t.kind) all (each_map IsJoin (λ t. is_weak t.kind ≡ false) (λ t j. ap is_weak j.0) all joins)

    own : (state_at k s).transitions ≡ all
    own = transitions_are k ms root keeps top found s x

    holder : (state_at k s).holder ≡ x.at.holder
    holder = holder_is k ms root keeps top found s x

    numbers_own : (state_at k s).regions ≡ region_numbers (map subtree_of_region regions) x.at.region
    numbers_own = subst (λ z. (state_at k z).regions ≡ region_numbers (map subtree_of_region regions) x.at.region) x.is
        (ap (λ o. (unwrap_or {T = StateRow} o (state_at (record k { states = [] }) 0)).regions) x.row)

    opened_own : (state_at k s).opened ≡ (side_by_side (map subtree_of_region regions) (within x.at)).entered
    opened_own = subst (λ z. (state_at k z).opened ≡ (side_by_side (map subtree_of_region regions) (within x.at)).entered) x.is
        (ap (λ o. (unwrap_or {T = StateRow} o (state_at (record k { states = [] }) 0)).opened) x.row)

    first_closing_own : first_closing_tests all ≡ terminations all
    first_closing_own = ap (λ w. at_once w ++ terminations all) weak

    entered_own : (state_at k s).entered ≡ to (state_at k s).holder (stand.Within s (terminations (state_at k s).transitions)) ∷ (state_at k s).opened
    entered_own =
        let opened : List Move = (side_by_side (map subtree_of_region regions) (within x.at)).entered in
        entered_is k ms root keeps top found settles s x
        ∙ ap (λ b. entered_state b (is_superstate (map subtree_of_region regions)) x.at all opened) final
        ∙ ap (λ rs. entered_state false (is_superstate (map subtree_of_region rs)) x.at all opened) regions_are
        ∙ ap (λ ts. come_to x.at.holder x.at.state (at_once ts) (first_closing_tests all) opened) strong
        ∙ ap (λ ts. to x.at.holder (stand.Within x.at.state ts) ∷ opened) (first_closing_own ∙ ap terminations (sym own))
        ∙ ap (λ h. to h (stand.Within x.at.state (terminations (state_at k s).transitions)) ∷ opened) (sym holder)
        ∙ ap (λ u. to (state_at k s).holder (stand.Within u (terminations (state_at k s).transitions)) ∷ opened) x.is
        ∙ ap (λ ms. to (state_at k s).holder (stand.Within s (terminations (state_at k s).transitions)) ∷ ms) (sym opened_own)

    second_is : (mark_at ms s).second ≡ second_behind (terminations all) N
    second_is =
        subst (λ z. (mark_at ms z).second ≡ second_behind (terminations all) N) x.is
        (ap (λ o. (unwrap_or {T = Mark} o (mark_at [] 0)).second) x.mark
        ∙ ap (λ b. second_of b (lows (map marks_of_region regions)) all x.label) final
        ∙ ap (λ rs. second_of false rs all x.label) (lows_same regions (regions_marked x.variables x.levels regions x.regions_rules))
        ∙ ap (λ rs. second_of false (map low_of_region rs) all x.label) regions_are
        ∙ ap (λ rs. second_behind (terminations all) (suc x.label + labels_in (map low_of_region rs))) (sym regions_are))

    -- what is behind the fork
    behind_own : (ts : List Transition) → terminations all ≡ ts → (m : Numbers) → MainPlace root keeps x.at.holder (made (behind x.targets ts N) m x.following)
        → Behind k root l s ts (made (behind x.targets ts N) m x.following)
    behind_own [] is m place =
        let d : Depth root keeps settles x.at.holder x.targets (into_of k ms root keeps top s x) [] N m x.following =
        depth_at root keeps settles x.at.holder x.targets (into_of k ms root keeps top s x) [] tt N m x.following place in
        let pause_is : l.pause s ≡ Pause d.node d.after = ap (behind_some root) (second_is ∙ ap (λ ts. second_behind ts N) is)
        ∙ ap (λ o. unwrap_or o (End 0)) d.found in
        let again : (n : ℕ) × (rest : Block) × (Pause d.node d.after ≡ Pause n rest) × (settled root d.after ≡ Some (Pause n rest)) = d.tries in
        (d.node, d.after, pause_is, d.settles_there, again.3 ∙ ap Some (sym again.2), d.stays)
    behind_own (join ∷ others) is m place =
        let leads : Each (Leads k ms root keeps top s x) (join ∷ others) = subst (Each (Leads k ms root keeps top s x)) is
        (each_filter (Leads k ms root keeps top s x) (λ t. is_join t.kind) all (all_lead k ms root keeps top found s x)) in
        let kinds : Each IsJoin (join ∷ others) = subst (Each IsJoin) is (each_filter IsJoin (λ t. is_join t.kind) all joins) in
        let count : length (terminations all) ≡ count_by (λ t. is_join t.kind) all = length-filter (λ (t : Transition). is_join t.kind) all in
        let most : count_by (λ t. is_join t.kind) all ≤ 1 = x.one_join in
        let few : length (join ∷ others) ≤ 1 = subst (λ ts. length ts ≤ 1) is (omega (arith, count, most)) in (
          takes_of k ms root keeps top found settles s x join leads.0 (made (behind x.targets (join ∷ others) N) m x.following)
              (acts_at root keeps settles x.at.holder (label_at x.targets join.target) (into_of k ms root keeps top s x join)
              (leads_found k ms root keeps top s x join leads.0) join.effects m x.following place.place),
          none_more join others few,
          kinds.0.2,
          taken_goes_on join.effects (label_at x.targets join.target) m x.following,
        )

    pub super_state : IsSuper k root l s
    super_state =
        let bodies : List (List Statement) = branches (map low_of_region regions) (suc x.label) in
        let more : List Statement = behind x.targets (terminations all) N in
        let same : (low_state (low_open_state x.state)).text x.targets x.label ≡ label x.label ∷ statement.Fork bodies ∷ more =
        ap (λ b. text_of b (map low_of_region regions) all x.targets x.label) final
        ∙ ap (λ rs. text_of false (map low_of_region rs) all x.targets x.label) regions_are
        ∙ ap (λ rs. label x.label ∷ statement.Fork (branches (map low_of_region rs) (suc x.label)) ∷ behind x.targets (terminations all)
        (suc x.label + labels_in (map low_of_region rs))) (sym regions_are) in
        let b : BeginsWith k ms root keeps top s x.at.region x.at.holder (statement.Fork bodies ∷ more) x.following = begins_with k ms root keeps top s x
        (statement.Fork bodies ∷ more) same in
        let bs : Branches = branches_from (map (map piece_of) bodies) b.next in
        let last : Numbers = beyond b.next (piece (text.Fork (map (map piece_of) bodies))).counts in
        let after : Block = made more last x.following in
        let fork_is : made (statement.Fork bodies ∷ more) b.next x.following ≡ Fork b.next.node bs after =
        ap (λ (p : TextPiece). p.made b.next (made more (beyond b.next p.counts) x.following)) (fork_piece bodies) in
        let place : MainPlace root keeps x.at.holder (Fork b.next.node bs after) = subst (MainPlace root keeps x.at.holder) fork_is b.place in
        let beside : OpenBeside k ms root keeps top regions (within x.at) bs =
        open_beside k ms root keeps top regions (regions_begin k ms root keeps top x.variables x.levels regions x.regions_rules) x.rowed
        (regions_count x.variables x.levels regions x.regions_rules) (regions_marked x.variables x.levels regions x.regions_rules)
        (within x.at) x.before x.follows x.inside_states x.inside (suc x.label) b.next x.inside_marks b.thread
        (λ u c h. main_branch root keeps x.at.holder b.next.node u bs c after place h) in
        let behind_fork : Behind k root l s (terminations all) after = behind_own (terminations all) refl last
        (main_fork root keeps x.at.holder b.next.node bs after place) in
        record {
          no_strong = ap strong_aborts own ∙ strong;
          closing = ap closing_tests own ∙ ap (λ w. w ++ terminations all) weak ∙ ap terminations (sym own);
          first_closing = ap first_closing_tests own ∙ first_closing_own ∙ ap terminations (sym own);
          opened = opened_own ∙ beside.entered ∙ ap (all_entered k l) (sym numbers_own);
          entered = entered_own;
          node = b.next.node;
          branches = bs;
          rest = after;
          fork = b.begin ∙ fork_is;
          place = subst (λ t. Place root t (Fork b.next.node bs after)) (sym holder) place.place;
          begins = ap (settled root) (b.begin ∙ fork_is);
          opens = subst (λ rs. Opens root l rs bs) (sym numbers_own) beside.opens;
          behind = subst (λ ts. Behind k root l s ts after) (sym (ap terminations own)) behind_fork;
        }
