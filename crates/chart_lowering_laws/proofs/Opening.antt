-- What entering regions makes, and where the branches of their fork begin.
use Rattle.std.proofs.Common.{◌≡◌, ℕ, zero, suc, ◌+◌, ◌⊎◌, inl, inr, ⊎_elim, true, false, Some, List, [], ◌∷◌, ◌++◌, map, length, unwrap_or, refl, sym, ap}
use Rattle.std.proofs.Common.{subst, ◌∙◌, arith}
use Rattle.sc_graph.specs.declared.program.Variable.{Variable}
use Rattle.sc_text.proofs.EachItem.{Each, each_of}
use Rattle.scl_graph.proofs.Resolved.{pieces_map}
use Rattle.core_charts.specs.declared.features.Features.TheVariants as features
use Rattle.core_charts.specs.declared.region.Region.{Region}
use Rattle.core_charts.specs.declared.region.State.{State}
use Rattle.core_charts.specs.declared.region.Region.TheViews.{out-Region, out-State}
use Rattle.core_charts.specs.declared.region.Region.TheFolds.{fold_out-Region, fold_out-State}
use Rattle.core_charts.specs.Rules.{IsRegion, AreRegions}
use Rattle.chart_machine.specs.declared.table.RegionRow.{RegionRow}
use Rattle.chart_machine.specs.declared.table.Table.{Table}
use Rattle.chart_machine.specs.declared.table.TablePosition.{TablePosition}
use Rattle.chart_machine.specs.Table.{Subtree, state_at, region_at, region_numbers, state_numbers, regions_in_initial, inside_region, side_by_side, in_region}
use Rattle.chart_machine.specs.Table.{behind, region_subtree, state_subtree, subtree_of_region, subtree_of_state}
use Rattle.scl.specs.declared.statement.Statement.{Statement}
use Rattle.scl.specs.Block.{Block, End, Label, Branches, NoMore, Branch}
use Rattle.scl.specs.Labels.{behind_label, settled}
use Rattle.scl.specs.Places.{IsBranch, here, later, threads_of}
use Rattle.scl.specs.Numbering.{Numbers, piece_of, pieces_of, in_row, beyond, thread_body, branches_from, branch_counts}
use Rattle.scl.specs.Numbering.{Piece as TextPiece, inside as inside_numbers}
use Rattle.scl_graph_laws.proofs.Segments.{StandAt, stand_from, stand_first, stand_second}
use Rattle.scl_graph_laws.proofs.Scopes.{KeepsScopes}
use Rattle.scl_graph_laws.proofs.Coming.{branch_thread}
use Rattle.tick_laws.proofs.Lists.{contains_none}
use Rattle.chart_lowering.specs.declared.targets.Targets.{Targets}
use Rattle.chart_lowering.specs.Lowering.{RegionPiece, StatePiece, label, label_name, branches, texts, numbers, targets, labels_in_initial, labels_in_states}
use Rattle.chart_lowering.specs.Lowering.{region_piece as low_region, state_piece as low_state, piece_of_region as low_of_region}
use Rattle.chart_lowering.specs.Lowering.{piece_of_state as low_of_state}
use Rattle.chart_lowering_laws.specs.Layout.{Layout, Opens, all_entered}
use Rattle.chart_lowering_laws.specs.Marks.{Mark, RegionMarks, StateMarks, mark_at, initial_among, marks_beside, marks_among, region_marks, state_marks}
use Rattle.chart_lowering_laws.specs.Marks.{marks_of_region, layout_of}
use Rattle.chart_lowering_laws.specs.Marks.{behind as behind_number}
use Rattle.chart_lowering_laws.proofs.Texts.{made, label_piece}
use Rattle.chart_lowering_laws.proofs.Counting.{threads_in, CountsRegion}
use Rattle.chart_lowering_laws.proofs.Finding.{MainPlace, label_found}
use Rattle.chart_lowering_laws.proofs.Rows.{RegionRowed, StateRowed, open_region, state_is_rowed, regions_rowed}
use Rattle.chart_lowering_laws.proofs.Marking.{marks_of_state, RegionMarked, StateMarked, low_states_same, state_is_marked, regions_marked}
use Rattle.chart_lowering_laws.proofs.Walking.{low_open_state}
use Rattle.chart_lowering_laws.proofs.InitialFirst.{OneInitial, one_initial, piece_initial}
use Rattle.chart_lowering_laws.proofs.InitialStates.{Initial, initial_of}
use Rattle.chart_lowering_laws.proofs.StateTexts.{text_of_initial, none_of_other, marked_by}
use Rattle.chart_lowering_laws.proofs.Labels.{first_label}

-- a branch is the first one, or another
branch_cases : (t : ℕ) (first : Block) (more : Branches) (q : ℕ) (body : Block) → IsBranch (Branch t first more) q body →
    ((t ≡ q) × (first ≡ body)) ⊎ IsBranch more q body
branch_cases t first more q body (here u b others) = inl (refl, refl)
branch_cases t first more q body (later u other others v b at) = inr at

module _ (k : Table) (ms : List Mark) (root : Block) (keeps : KeepsScopes root) (top : List ℕ) where
  abbrev l : Layout
  l = layout_of k top ms root

  -- the text of the initial state begins with its label
  text_begins : (states : List State) → OneInitial states → (at : Targets) (first m : ℕ) →
      (rest : List Statement) × (texts true at (map low_of_state states) (numbers (map low_of_state states) first m) ≡ label first ∷ rest)
  text_begins [] one at first m = absurd one
  text_begins (s ∷ ss) (inl one) at first m =
      let others : List Statement = texts true at (map low_of_state ss) (numbers (map low_of_state ss) first m) in
      let own : (rest : List Statement) × ((low_state (low_open_state s)).text at first ≡ label first ∷ rest) = first_label (out-State s).is_final
      (low_open_state s).regions (out-State s).transitions at first in (
        own.0 ++ others,
        text_of_initial s ss (piece_initial s true one.0) at first m
            ∙ ap (λ p. p.text at first ++ others) (fold_out-State RegionPiece StatePiece low_region low_state s) ∙ ap (λ xs. xs ++ others) own.1,
      )
  text_begins (s ∷ ss) (inr one) at first m =
      let rest : (rest : List Statement) × (texts true at (map low_of_state ss) (numbers (map low_of_state ss) first (m + (low_of_state s).labels))
      ≡ label first ∷ rest) = text_begins ss one.1 at first (m + (low_of_state s).labels) in
      (rest.0, none_of_other s ss (piece_initial s false one.0) at first m ∙ rest.1)

  -- what is said of a region where it stands: what entering it makes, the label of its initial state, and how its text begins
  pub record Begins (r : Region) (at : TablePosition) (n : ℕ) : Type 0 where
    pub enters : ((subtree_of_region r).parts at).entered ≡ (state_at k (l.initial at.region)).entered
    pub label_is : (mark_at ms (l.initial at.region)).label ≡ n
    pub rest : List Statement
    pub text : (low_of_region r).body n ≡ label n ∷ rest

  abbrev pub BeginsThere : Region → Type 0
  BeginsThere r = (at : TablePosition) (before : ℕ) → at.region ≡ suc before → StandAt k.states at.state ((subtree_of_region r).parts at).states →
      StandAt k.regions before ((subtree_of_region r).parts at).regions →
      (n : ℕ) → StandAt ms at.state ((marks_of_region r).marks n) → Begins r at n

  region_begins : (variables : List Variable) (levels : ℕ) (r : Region) → IsRegion features.Core variables (AreRegions features.Core variables levels) r →
      BeginsThere r
  region_begins variables levels r rules at before follows states rows n marks =
      let ss : List State = (out-Region r).states in
      let ps : List Subtree = map subtree_of_state ss in
      let low : List StatePiece = map low_of_state ss in
      let next : ℕ = suc at.region + regions_in_initial ps in
      let sc : TablePosition = inside_region at in
      let ns : List ℕ = numbers low n (n + labels_in_initial low) in
      let goes : Targets = targets ns (n + labels_in_states low) in
      let one : OneInitial ss = one_initial ss rules.one_initial in
      let rowed : Each StateRowed ss = each_of StateRowed ss (λ i s at. state_is_rowed variables levels (length ss) (regions_rowed variables levels) s
      (rules.states i s at)) in
      let marked : Each StateMarked ss = each_of StateMarked ss
      (λ i s at. state_is_marked s (regions_marked variables levels (out-State s).regions (rules.states i s at).regions)) in
      let open_states : StandAt k.states at.state (in_region ps next sc).states = subst (λ p. StandAt k.states at.state (p.parts at).states)
      (fold_out-Region Subtree Subtree region_subtree state_subtree r) states in
      let open_rows : StandAt k.regions before ((region_subtree (open_region r)).parts at).regions = subst (λ p. StandAt k.regions before (p.parts at).regions)
      (fold_out-Region Subtree Subtree region_subtree state_subtree r) rows in
      let open_marks : StandAt ms at.state ((region_marks (record { name = (out-Region r).name; states = map marks_of_state ss })).marks n) =
      subst (λ m. StandAt ms at.state (m.marks n)) (fold_out-Region RegionMarks StateMarks region_marks state_marks r) marks in
      let marks_too : StandAt ms at.state (marked_by ss n (n + labels_in_initial low)) =
      subst (λ xs. StandAt ms at.state (marks_among (map marks_of_state ss) (numbers xs n (n + labels_in_initial xs))))
      (low_states_same ss marked) open_marks in
      let own_row : (region_at k at.region).states ≡ state_numbers ps at.state = ap (λ x. (region_at k x).states) follows
      ∙ ap (λ o. (unwrap_or {T = RegionRow} o (record { around = []; states = [] })).states) open_rows.0 in
      let initial : Initial k ms (state_numbers ps at.state) n (in_region ps next sc).entered = initial_of k ms ss rowed marked one sc next n
      (n + labels_in_initial low) open_states marks_too in
      let begins : (rest : List Statement) × (texts true goes low ns ≡ label n ∷ rest) = text_begins ss one goes n (n + labels_in_initial low) in
      record {
        enters = ap (λ p. (p.parts at).entered) (fold_out-Region Subtree Subtree region_subtree state_subtree r) ∙ sym initial.enters
            ∙ ap (λ xs. (state_at k (initial_among ms xs)).entered) (sym own_row);
        label_is = ap (λ xs. (mark_at ms (initial_among ms xs)).label) own_row ∙ initial.label;
        rest = (begins.0 ++ texts false goes low ns) ++ label (n + labels_in_states low) ∷ [];
        text = ap (λ p. p.body n) (fold_out-Region RegionPiece StatePiece low_region low_state r)
            ∙ ap (λ xs. (xs ++ texts false goes low ns) ++ label (n + labels_in_states low) ∷ []) begins.1;
      }

  pub regions_begin : (variables : List Variable) (levels : ℕ) (regions : List Region) → AreRegions features.Core variables levels regions →
      Each BeginsThere regions
  regions_begin variables zero regions h = subst (Each BeginsThere) (sym h) tt
  regions_begin variables (suc levels) regions h = each_of BeginsThere regions (λ i r at. region_begins variables levels r (h.each i r at))

  -- a text that begins with a label leads where the label does
  label_leads : (q n : ℕ) (xs rest : List Statement) → xs ≡ label n ∷ rest → (m : Numbers) (after : Block) → MainPlace root keeps q (made xs m after) →
      settled root (made xs m after) ≡ settled root (behind_number root n)
  label_leads q n xs rest same m after place =
      let is_label : made xs m after ≡ Label (label_name n)
      (made rest (beyond m (Rattle.scl.specs.Numbering.piece (Rattle.scl.specs.declared.statement.Statement.TheOpen.Label (label_name n))).counts) after) =
      ap (λ ys. made ys m after) same ∙ ap (λ (p : TextPiece). p.made m (made rest (beyond m p.counts) after)) (label_piece (label_name n)) in
      let block : Block = made rest (beyond m
      (Rattle.scl.specs.Numbering.piece (Rattle.scl.specs.declared.statement.Statement.TheOpen.Label (label_name n))).counts) after in
      let found : behind_label root (label_name n) ≡ Some block = label_found root keeps q (label_name n) block
      (subst (MainPlace root keeps q) is_label place) in
      ap (settled root) is_label ∙ ap (λ o. settled root (unwrap_or o (End 0))) (sym found)

  -- regions side by side
  pub record OpenBeside (regions : List Region) (at : TablePosition) (branches : Branches) : Type 0 where
    pub entered : (side_by_side (map subtree_of_region regions) at).entered ≡ all_entered k l (region_numbers (map subtree_of_region regions) at.region)
    pub opens : Opens root l (region_numbers (map subtree_of_region regions) at.region) branches

  pub open_beside : (regions : List Region) → Each BeginsThere regions → Each RegionRowed regions → Each CountsRegion regions → Each RegionMarked regions →
      (at : TablePosition) (before : ℕ) → at.region ≡ suc before → StandAt k.states at.state (side_by_side (map subtree_of_region regions) at).states →
      StandAt k.regions before (side_by_side (map subtree_of_region regions) at).regions →
      (n : ℕ) (nums : Numbers) → StandAt ms at.state (marks_beside (map marks_of_region regions) n) → nums.thread ≡ at.region →
      ((u : ℕ) (b : Block) → IsBranch (branches_from (map (map piece_of) (branches (map low_of_region regions) n)) nums) u b → MainPlace root keeps u b) →
      OpenBeside regions at (branches_from (map (map piece_of) (branches (map low_of_region regions) n)) nums)
  open_beside [] begins rowed counts marked at before follows states rows n nums marks thread inside =
      record { entered = refl; opens = record { threads = refl; bodies = λ q body h. absurd (contains_none q (branch_thread NoMore q body h)) } }
  open_beside (r ∷ regions) begins rowed counts marked at before follows states rows n nums marks thread inside =
      let p : Subtree = subtree_of_region r in
      let ps : List Subtree = map subtree_of_region regions in
      let body : List Statement = (low_of_region r).body n in
      let own_marks : List Mark = (marks_of_region r).marks n in
      let more_marks : List Mark = marks_beside (map marks_of_region regions) (n + (marks_of_region r).low.labels) in
      let many : length own_marks ≡ p.states = marked.0.long n in
      let b : List TextPiece = map piece_of body in
      let same : in_row (pieces_of body) ≡ in_row b = ap in_row (pieces_map body) in
      let count : suc (threads_in body) ≡ p.regions = counts.0 n in
      let count_b : (in_row b).counts.threads ≡ threads_in body = ap (λ x. x.counts.threads) (sym same) in
      let first_body : Block = thread_body (in_row b) nums.base (inside_numbers nums (in_row b).counts) in
      let others : Branches = branches_from (map (map piece_of) (branches (map low_of_region regions) (n + (low_of_region r).labels)))
      (beyond nums (branch_counts (in_row b).counts)) in
      let here_place : MainPlace root keeps nums.thread first_body = inside nums.thread first_body (here nums.thread first_body others) in
      let own : Begins r at n =
      begins.0 at before follows (stand_first k.states at.state (p.parts at).states (side_by_side ps (behind p at)).states states)
      (stand_first k.regions before (p.parts at).regions (side_by_side ps (behind p at)).regions rows)
      n (stand_first ms at.state own_marks more_marks marks) in
      let long : length (p.parts at).states ≡ p.states = rowed.0.states at in
      let wide : length (p.parts at).regions ≡ p.regions = rowed.0.regions at in
      let rest : OpenBeside regions (behind p at) others =
      open_beside regions begins.1 rowed.1 counts.1 marked.1 (behind p at) (before + p.regions) (omega (arith, follows))
      (stand_from k.states (at.state + length (p.parts at).states) (at.state + p.states) (side_by_side ps (behind p at)).states (omega (arith, long))
      (stand_second k.states at.state (p.parts at).states (side_by_side ps (behind p at)).states states))
      (stand_from k.regions (before + length (p.parts at).regions) (before + p.regions) (side_by_side ps (behind p at)).regions (omega (arith, wide))
      (stand_second k.regions before (p.parts at).regions (side_by_side ps (behind p at)).regions rows))
      (n + (low_of_region r).labels) (beyond nums (branch_counts (in_row b).counts))
      (subst (λ x. StandAt ms (at.state + p.states) (marks_beside (map marks_of_region regions) (n + x.labels))) marked.0.same
      (stand_from ms (at.state + length own_marks) (at.state + p.states) more_marks (omega (arith, many))
      (stand_second ms at.state own_marks more_marks marks)))
      (omega (arith, thread, count, count_b))
      (λ u c h. inside u c (later nums.thread first_body others u c h)) in
      let leads : settled root first_body ≡ settled root (behind_number root n) =
      subst (λ x. MainPlace root keeps nums.thread (thread_body x nums.base (inside_numbers nums (in_row b).counts)) →
      settled root (thread_body x nums.base (inside_numbers nums (in_row b).counts)) ≡ settled root (behind_number root n)) same
      (λ place. label_leads nums.thread n body own.rest own.text (record (inside_numbers nums (in_row b).counts) { node = nums.base })
      (End (nums.base + (in_row (pieces_of body)).counts.nodes)) place) here_place in
      let initial_leads : settled root first_body ≡ settled root (l.begin (l.initial at.region)) = leads ∙ ap (λ m. settled root (behind_number root m))
      (sym own.label_is) in
      record {
        entered = ap (λ xs. xs ++ (side_by_side ps (behind p at)).entered) own.enters
            ∙ ap (λ xs. (state_at k (l.initial at.region)).entered ++ xs) rest.entered;
        opens = record {
          threads = ap (λ t. t ∷ threads_of others) thread ∙ ap (λ ts. at.region ∷ ts) rest.opens.threads;
          bodies = λ q c h.
              ⊎_elim
              (λ (first : (nums.thread ≡ q) × (first_body ≡ c)). subst (λ z. settled root z ≡ settled root (l.begin (l.initial q))) first.1
              (subst (λ z. settled root first_body ≡ settled root (l.begin (l.initial z))) (sym thread ∙ first.0) initial_leads))
              (λ more. rest.opens.bodies q c more)
              (branch_cases nums.thread first_body others q c h);
        };
      }
