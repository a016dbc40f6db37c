-- At the depth of a state's pause, and at the join of its fork, the row of nodes to states has that state.
use Rattle.std.proofs.Common.{◌≡◌, ℕ, suc, ◌+◌, Bool, true, false, if◌then◌else◌, Option, Some, None, List, [], ◌∷◌, ◌++◌, map, length, slice_get}
use Rattle.std.proofs.Common.{unwrap_or, length-append, refl, sym, ap, subst, ◌∙◌, arith}
use Rattle.sc_values.specs.declared.expression.Expr.{Expr}
use Rattle.scl_graph.proofs.Resolved.{pieces_map}
use Rattle.core_charts.specs.declared.region.Region.{Region}
use Rattle.core_charts.specs.declared.region.Region.TheViews.{out-State}
use Rattle.core_charts.specs.declared.region.Transition.{Transition}
use Rattle.core_charts.specs.Tests.{at_once, terminations}
use Rattle.scl.specs.declared.statement.Statement.{Statement}
use Rattle.scl.specs.declared.statement.Statement.TheVariants as statement
use Rattle.scl.specs.declared.statement.Statement.TheOpen as text
use Rattle.scl.specs.Block.{Block, End, Pause, Fork, Branches}
use Rattle.scl.specs.Numbering.{Numbers, Piece, piece, piece_of, beyond, branches_from, all_branch_counts, in_row}
use Rattle.scl_graph_laws.proofs.Segments.{StandAt, stand_second}
use Rattle.scl_graph_laws.proofs.Scopes.{KeepsScopes}
use Rattle.scl_graph_laws.proofs.Searching.{unlike}
use Rattle.scl_graph_laws.proofs.Numbers.{no_nodes}
use Rattle.chart_lowering.specs.declared.targets.Targets.{Targets}
use Rattle.chart_lowering.specs.Lowering.{label, label_name, goto, transitions, tested, taken}
use Rattle.chart_lowering.specs.Lowering.{depth, behind, branches, labels_in, text_of, is_sure, leaves_surely}
use Rattle.chart_lowering.specs.Lowering.{piece_of_region as low_of_region}
use Rattle.node_states.specs.Nodes as row
use Rattle.chart_lowering_laws.specs.Marks.{Mark, mark_at, second_of, second_behind}
use Rattle.chart_lowering_laws.specs.Marks.{behind as behind_number, behind_some}
use Rattle.chart_lowering_laws.proofs.Texts.{made, label_piece, pause_piece, if_piece, fork_piece}
use Rattle.chart_lowering_laws.proofs.Finding.{MainPlace, label_found}
use Rattle.chart_lowering_laws.proofs.Passing.{pass_one}
use Rattle.chart_lowering_laws.proofs.Marking.{lows_same}
use Rattle.chart_lowering_laws.proofs.Telling.{is_fork, taken_no_fork, tests_no_fork}
use Rattle.compiled_charts_laws.proofs.NodeCounts.{taken_has, counts_of}
use Rattle.compiled_charts_laws.proofs.Walking.{StateAt}

abbrev pub node_of : Block → ℕ
node_of (Pause n rest) = n
node_of (Fork n branches rest) = n
node_of other = 0

abbrev is_pause : Block → Bool
is_pause (Pause n rest) = true
is_pause other = false

module _ (root : Block) (keeps : KeepsScopes root) (t : ℕ) where
  -- what is found behind a label of the text
  label_leads : (n : ℕ) (rest : List Statement) (at : Numbers) (k : Block) → MainPlace root keeps t (made (label n ∷ rest) at k) →
      behind_number root n ≡ made rest (beyond at (piece_of (label n)).counts) k
  label_leads n rest at k place =
      let next : Block = made rest (beyond at (piece_of (label n)).counts) k in
      ap (λ o. unwrap_or o (End 0))
      (label_found root keeps t (label_name n) next (subst (λ (p : Piece). MainPlace root keeps t (p.made at next)) (label_piece (label_name n)) place))

  same_node : (n : ℕ) (at : Numbers) → (beyond at (piece_of (label n)).counts).node ≡ at.node
  same_node n at = let none : (piece_of (label n)).counts.nodes ≡ 0 = ap (λ (p : Piece). p.counts.nodes) (label_piece (label_name n)) in omega (arith, none)

  -- the pause of a depth: what is behind its label, and its node
  record AtPause (n : ℕ) (at : Numbers) : Type 0 where
    after : Block
    found : behind_number root n ≡ Pause at.node after

  depth_found : (targets : Targets) (all : List Transition) (n : ℕ) (at : Numbers) (k : Block) →
      MainPlace root keeps t (made (depth targets all n) at k) → AtPause n at
  depth_found targets all n at k place =
      let more : List Statement = transitions targets all (goto n ∷ []) in
      let next : Numbers = beyond at (piece_of (label n)).counts in
      let after : Block = made more (beyond next (piece text.Pause).counts) k in
      record {
        after = after;
        found =
            label_leads n (statement.Pause ∷ more) at k place
            ∙ ap (λ (p : Piece). p.made next (made more (beyond next p.counts) k)) pause_piece
            ∙ ap (λ m. Pause m after) (same_node n at);
      }

  -- past tests of which each may fail: so many nodes further
  record Past (many : ℕ) (rest : List Statement) (at : Numbers) (k : Block) : Type 0 where
    next : Numbers
    node : next.node ≡ at.node + many
    place : MainPlace root keeps t (made rest next k)

  past_tests : (targets : Targets) (ts : List Transition) → leaves_surely ts ≡ false → (rest : List Statement) (at : Numbers) (k : Block) →
      MainPlace root keeps t (made (transitions targets ts rest) at k) → Past (length (row.tests ts)) rest at k
  past_tests targets [] stays rest at k place = record { next = at; node = omega arith; place = place }
  past_tests targets (x ∷ ts) stays rest at k place = by x.trigger stays place (λ stays m here. past_tests targets ts stays rest m k here)
    where
      by : (o : Option Expr) → (if is_sure o then true else leaves_surely ts) ≡ false →
          MainPlace root keeps t (made (tested o (taken targets x) (transitions targets ts rest)) at k) →
          (leaves_surely ts ≡ false → (m : Numbers) → MainPlace root keeps t (made (transitions targets ts rest) m k) → Past (length (row.tests ts)) rest m k) →
          Past (length (row.tested o (row.effects x) (row.tests ts))) rest at k
      by None stays here further = absurd (unlike true refl stays)
      by (Some e) stays here further =
          let s : Statement = statement.If e (taken targets x) [] in
          let p : Past (length (row.tests ts)) rest (beyond at (piece_of s).counts) k = further stays (beyond at (piece_of s).counts)
          (pass_one root keeps t s at (made (transitions targets ts rest) (beyond at (piece_of s).counts) k) here) in
          let node : p.next.node ≡ (at.node + (piece_of s).counts.nodes) + length (row.tests ts) = p.node in
          let inside : (counts_of (taken targets x)).nodes ≡ length (row.effects x) = (taken_has targets x).nodes in
          let same : (in_row (map piece_of (taken targets x))).counts.nodes ≡ (counts_of (taken targets x)).nodes =
          ap (λ ps. (in_row ps).counts.nodes) (sym (pieces_map (taken targets x))) in
          let own : (piece_of s).counts.nodes ≡ 1 + ((in_row (map piece_of (taken targets x))).counts.nodes + 0) =
          ap (λ (p : Piece). p.counts.nodes) (if_piece e (taken targets x) []) in
          let sum : length (row.effects x ++ row.tests ts) ≡ length (row.effects x) + length (row.tests ts) = length-append (row.effects x) (row.tests ts) in
          record { next = p.next; node = omega (arith, node, inside, same, own, sum); place = p.place }

-- a state of which the text and the nodes are known
module _ (root : Block) (keeps : KeepsScopes root) (ms : List Mark) (nodes : List (Option ℕ)) (s : ℕ) (x : StateAt root keeps ms nodes s) where
  abbrev all : List Transition
  all = (out-State x.state).transitions

  -- by what it is: whether it is final, and its regions
  record Is (is_final : Bool) (regions : List Region) : Type 0 where
    label_is : (mark_at ms s).label ≡ x.label
    second : (mark_at ms s).second ≡ second_of is_final (map low_of_region regions) all x.label
    text : MainPlace root keeps x.thread (made (text_of is_final (map low_of_region regions) all x.targets x.label) x.numbers x.following)
    own : StandAt nodes x.numbers.node (row.own_of is_final (map row.piece_of_region regions) all s)

  is : (is_final : Bool) (regions : List Region) → (out-State x.state).is_final ≡ is_final → (out-State x.state).regions ≡ regions → Is is_final regions
  is is_final regions final are = record {
    label_is = ap (λ o. (unwrap_or {T = Mark} o (mark_at [] 0)).label) x.mark;
    second =
        ap (λ o. (unwrap_or {T = Mark} o (mark_at [] 0)).second) x.mark
        ∙ ap (λ rs. second_of (out-State x.state).is_final rs all x.label) (lows_same (out-State x.state).regions x.marked)
        ∙ ap (λ b. second_of b (map low_of_region (out-State x.state).regions) all x.label) final
        ∙ ap (λ rs. second_of is_final (map low_of_region rs) all x.label) are;
    text =
        subst (λ rs. MainPlace root keeps x.thread (made (text_of is_final (map low_of_region rs) all x.targets x.label) x.numbers x.following)) are
        (subst (λ b. MainPlace root keeps x.thread
        (made (text_of b (map low_of_region (out-State x.state).regions) all x.targets x.label) x.numbers x.following)) final x.text);
    own =
        subst (λ rs. StandAt nodes x.numbers.node (row.own_of is_final (map row.piece_of_region rs) all s)) are
        (subst (λ b. StandAt nodes x.numbers.node (row.own_of b (map row.piece_of_region (out-State x.state).regions) all s)) final x.own);
  }

  -- at the node that follows this one the row has the state
  abbrev Told : ℕ → Type 0
  Told n = slice_get nodes (suc n) ≡ Some (Some s)

  told_at : (m n : ℕ) → m ≡ n → Told m → Told n
  told_at m n same h = subst Told same h

  pause_is : {n : ℕ} {rest : Block} → (m : ℕ) (after : Block) → behind_some root (mark_at ms s).second ≡ Pause n rest →
      behind_some root (mark_at ms s).second ≡ Pause m after → m ≡ n
  pause_is m after asked found = ap node_of (sym found ∙ asked)

  no_pause : {n : ℕ} {rest : Block} → behind_some root (mark_at ms s).second ≡ Pause n rest → (mark_at ms s).second ≡ None → ⊥
  no_pause asked none = unlike (is_pause (behind_some root (mark_at ms s).second)) (ap is_pause asked) (ap (λ o. is_pause (behind_some root o)) none)

  pub pause_told : (n : ℕ) (rest : Block) → behind_some root (mark_at ms s).second ≡ Pause n rest → Told n
  pause_told n rest asked = by (out-State x.state).is_final refl (out-State x.state).regions refl
    where
      simple : Is false [] → (b : Bool) → leaves_surely (at_once all) ≡ b → Told n
      simple i true sure = absurd (no_pause asked (i.second ∙ ap (λ b. if b then None else Some (suc x.label)) sure))
      simple i false stays =
          let deep : List Statement = depth x.targets all (suc x.label) in
          let surface : List Statement = transitions x.targets (at_once all) deep in
          let next : Numbers = beyond x.numbers (piece_of (label x.label)).counts in
          let behind_label_place : MainPlace root keeps x.thread (made surface next x.following) = pass_one root keeps x.thread (label x.label) x.numbers
          (made surface next x.following) i.text in
          let past : Past root keeps x.thread (length (row.tests (at_once all))) deep next x.following =
          past_tests root keeps x.thread x.targets (at_once all) stays
          deep next x.following behind_label_place in
          let pause : AtPause root keeps x.thread (suc x.label) past.next = depth_found root keeps x.thread x.targets all (suc x.label) past.next x.following
          past.place in
          let node : past.next.node ≡ next.node + length (row.tests (at_once all)) = past.node in
          let same : next.node ≡ x.numbers.node = same_node root keeps x.thread x.label x.numbers in
          let stands : StandAt nodes (x.numbers.node + length (row.tests (at_once all))) (row.depth false all s) =
          stand_second nodes x.numbers.node (row.tests (at_once all)) (row.depth false all s)
          (subst (λ b. StandAt nodes x.numbers.node (row.tests (at_once all) ++ row.depth b all s)) stays i.own) in
          told_at (x.numbers.node + length (row.tests (at_once all))) n
          (omega (arith, same, node) ∙ pause_is past.next.node pause.after asked
          (ap (behind_some root) (i.second ∙ ap (λ b. if b then None else Some (suc x.label)) stays) ∙ pause.found)) stands.1.0

      super : (r : Region) (rs : List Region) → Is false (r ∷ rs) → (joins : List Transition) → terminations all ≡ joins → Told n
      super r rs i (join ∷ joins) are =
          absurd (no_pause asked (i.second ∙ ap (λ js. second_behind js (suc x.label + labels_in (map low_of_region (r ∷ rs)))) are))
      super r rs i [] are =
          let whole : List Region = r ∷ rs in
          let bodies : List (List Statement) = branches (map low_of_region whole) (suc x.label) in
          let second : ℕ = suc x.label + labels_in (map low_of_region whole) in
          let rest : List Statement = behind x.targets (terminations all) second in
          let next : Numbers = beyond x.numbers (piece_of (label x.label)).counts in
          let last : Numbers = beyond next (piece_of (statement.Fork bodies)).counts in
          let at_fork : MainPlace root keeps x.thread (made (statement.Fork bodies ∷ rest) next x.following) =
          pass_one root keeps x.thread (label x.label) x.numbers
          (made (statement.Fork bodies ∷ rest) next x.following) i.text in
          let deep : MainPlace root keeps x.thread (made rest last x.following) = pass_one root keeps x.thread (statement.Fork bodies) next
          (made rest last x.following) at_fork in
          let pause : AtPause root keeps x.thread second last = depth_found root keeps x.thread x.targets [] second last x.following
          (subst (λ js. MainPlace root keeps x.thread (made (behind x.targets js second) last x.following)) are deep) in
          let none : (all_branch_counts (map (map piece_of) bodies)).nodes ≡ 0 = no_nodes (map (map piece_of) bodies) in
          let two : (piece_of (statement.Fork bodies)).counts.nodes ≡ 2 + (all_branch_counts (map (map piece_of) bodies)).nodes =
          ap (λ (p : Piece). p.counts.nodes) (fork_piece bodies) in
          let same : next.node ≡ x.numbers.node = same_node root keeps x.thread x.label x.numbers in
          let stands : StandAt nodes x.numbers.node (row.rests s ++ row.behind [] s) =
          subst (λ js. StandAt nodes x.numbers.node (row.rests s ++ row.behind js s)) are i.own in
          told_at (suc (suc x.numbers.node)) n
          (omega (arith, same, two, none) ∙ pause_is last.node pause.after asked
          (ap (behind_some root) (i.second ∙ ap (λ js. second_behind js second) are) ∙ pause.found)) stands.1.1.1.0

      by : (b : Bool) → (out-State x.state).is_final ≡ b → (rs : List Region) → (out-State x.state).regions ≡ rs → Told n
      by true final rs are = absurd (no_pause asked (is true rs final are).second)
      by false final [] are = simple (is false [] final are) (leaves_surely (at_once all)) refl
      by false final (r ∷ rs) are = super r rs (is false (r ∷ rs) final are) (terminations all) refl

  pub fork_told : (n : ℕ) (bs : Branches) (rest : Block) → behind_number root (mark_at ms s).label ≡ Fork n bs rest → Told n
  fork_told n bs rest asked = by (out-State x.state).is_final refl (out-State x.state).regions refl
    where
      begins : {is_final : Bool} {regions : List Region} → (i : Is is_final regions) → (more : List Statement) →
          text_of is_final (map low_of_region regions) all x.targets x.label ≡ label x.label ∷ more →
          behind_number root (mark_at ms s).label ≡ made more (beyond x.numbers (piece_of (label x.label)).counts) x.following
      begins i more same = ap (behind_number root) i.label_is
          ∙ label_leads root keeps x.thread x.label more x.numbers x.following
          (subst (λ xs. MainPlace root keeps x.thread (made xs x.numbers x.following)) same i.text)

      by : (b : Bool) → (out-State x.state).is_final ≡ b → (rs : List Region) → (out-State x.state).regions ≡ rs → Told n
      by true final rs are =
          let i : Is true rs = is true rs final are in
          let more : List Statement = statement.Goto x.targets.end ∷ [] in
          absurd (unlike (is_fork (behind_number root (mark_at ms s).label)) (ap is_fork asked)
          (ap is_fork (begins i more refl) ∙ taken_no_fork [] x.targets.end (beyond x.numbers (piece_of (label x.label)).counts) x.following))
      by false final [] are =
          let i : Is false [] = is false [] final are in
          let more : List Statement = transitions x.targets (at_once all) (depth x.targets all (suc x.label)) in
          absurd (unlike (is_fork (behind_number root (mark_at ms s).label)) (ap is_fork asked)
          (ap is_fork (begins i more refl)
          ∙ tests_no_fork x.targets (at_once all) all (suc x.label) (beyond x.numbers (piece_of (label x.label)).counts) x.following))
      by false final (r ∷ rs) are =
          let i : Is false (r ∷ rs) = is false (r ∷ rs) final are in
          let bodies : List (List Statement) = branches (map low_of_region (r ∷ rs)) (suc x.label) in
          let more : List Statement = behind x.targets (terminations all) (suc x.label + labels_in (map low_of_region (r ∷ rs))) in
          let next : Numbers = beyond x.numbers (piece_of (label x.label)).counts in
          let whole : Piece = piece (text.Fork (map (map piece_of) bodies)) in
          let found : behind_number root (mark_at ms s).label ≡ Fork next.node (branches_from (map (map piece_of) bodies) next)
          (made more (beyond next whole.counts) x.following) =
          begins i (statement.Fork bodies ∷ more) refl
          ∙ ap (λ (p : Piece). p.made next (made more (beyond next p.counts) x.following)) (fork_piece bodies) in
          told_at x.numbers.node n (sym (same_node root keeps x.thread x.label x.numbers) ∙ ap node_of (sym found ∙ asked)) i.own.1.0
