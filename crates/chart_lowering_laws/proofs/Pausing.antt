-- No two states of a region have one pause: the same label would stand behind their second labels, so these would be one
-- label, and so their first ones.
use Rattle.std.proofs.Common.{◌≡◌, ℕ, suc, ◌+◌, inl, inr, Bool, true, false, if◌then◌else◌, Some, None, List, [], ◌∷◌, ◌++◌, map, slice_get, unwrap_or}
use Rattle.std.proofs.Common.{Contains, refl, sym, ap, subst, ◌∙◌}
use Rattle.std.proofs.lemmas.Option.{same_Some}
use Rattle.core_charts.specs.declared.region.Region.{Region}
use Rattle.core_charts.specs.declared.region.Region.TheViews.{out-State}
use Rattle.core_charts.specs.declared.region.Transition.{Transition}
use Rattle.core_charts.specs.Tests.{at_once, terminations}
use Rattle.chart_machine.specs.declared.table.Table.{Table}
use Rattle.chart_machine.specs.Table.{region_at}
use Rattle.scl.specs.declared.statement.Statement.{Statement}
use Rattle.scl.specs.declared.statement.Statement.TheVariants as statement
use Rattle.scl.specs.declared.statement.Statement.TheOpen as text
use Rattle.scl.specs.Block.{Block, End, Label, Pause}
use Rattle.scl.specs.Labels.{behind_label}
use Rattle.scl.specs.Numbering.{Numbers, piece, beyond}
use Rattle.scl.specs.Numbering.{Piece as TextPiece}
use Rattle.scl_graph_laws.proofs.Fitting.{stands_at}
use Rattle.scl_graph_laws.proofs.Scopes.{KeepsScopes}
use Rattle.scl_graph_laws.proofs.Searching.{own_labels}
use Rattle.chart_lowering.specs.declared.targets.Targets.{Targets}
use Rattle.chart_lowering.specs.Lowering.{label, label_name, goto, depth, transitions, text_of, branches, behind, labels_in, leaves_surely}
use Rattle.chart_lowering.specs.Lowering.{state_piece as low_state, piece_of_region as low_of_region}
use Rattle.chart_lowering_laws.specs.Marks.{Mark, mark_at, behind_some, second_of, second_behind, lows, marks_of_region}
use Rattle.chart_lowering_laws.proofs.Behind.{IsBehind, behind_one}
use Rattle.chart_lowering_laws.proofs.Finding.{MainPlace, all_labels, label_found}
use Rattle.chart_lowering_laws.proofs.Labels.{text_labels, own_made, labels_append, depth_labels, surface_labels, fork_labels, behind_pause, tests_split}
use Rattle.chart_lowering_laws.proofs.Marking.{lows_same, regions_marked}
use Rattle.chart_lowering_laws.proofs.Passing.{Passed, pass}
use Rattle.chart_lowering_laws.proofs.ReadingOff.{pause_of}
use Rattle.chart_lowering_laws.proofs.Texts.{made, label_piece, pause_piece}
use Rattle.chart_lowering_laws.proofs.Walking.{StateAt, low_open_state}

no_pause : (n e : ℕ) (rest : Block) → End e ≡ Pause n rest → ⊥
no_pause n e rest h = cc

abbrev after_of : Block → Block
after_of (Pause n rest) = rest
after_of other = other

module _ (k : Table) (ms : List Mark) (root : Block) (keeps : KeepsScopes root) (top : List ℕ) where
  abbrev At : ℕ → Type 0
  At s = StateAt k ms root keeps top s

  abbrev text_at : (s : ℕ) → At s → List Statement
  text_at s x = (low_state (low_open_state x.state)).text x.targets x.label

  abbrev all_of : (s : ℕ) → At s → List Transition
  all_of s x = (out-State x.state).transitions

  -- a state whose text goes from its label to a second one, with a pause behind it
  record HasPause (s : ℕ) (x : At s) : Type 0 where
    front : List Statement
    all : List Transition
    second : ℕ
    text : text_at s x ≡ front ++ depth x.targets all second
    labels : text_labels front ≡ label_name x.label ∷ []
    mark : (mark_at ms s).second ≡ Some second

  -- the second label is found, and behind the pause stand the labels that follow
  record SecondFound (n : ℕ) (following : Block) : Type 0 where
    node : ℕ
    after : Block
    found : behind_label root (label_name n) ≡ Some (Pause node after)
    labels : own_labels after ≡ own_labels following

  second_found : (t : ℕ) (at : Targets) (all : List Transition) (n : ℕ) (m : Numbers) (following : Block) →
      MainPlace root keeps t (made (depth at all n) m following) → SecondFound n following
  second_found t at all n m following place =
      let more : List Statement = transitions at all (goto n ∷ []) in
      let next : Numbers = beyond m (piece (text.Label (label_name n))).counts in
      let last : Numbers = beyond next (piece text.Pause).counts in
      let opened : MainPlace root keeps t (Label (label_name n) (made (statement.Pause ∷ more) next following)) =
      subst (λ (p : TextPiece). MainPlace root keeps t (p.made m (made (statement.Pause ∷ more) (beyond m p.counts) following)))
      (label_piece (label_name n)) place in
      let is_pause : made (statement.Pause ∷ more) next following ≡ Pause next.node (made more last following) =
      ap (λ (p : TextPiece). p.made next (made more (beyond next p.counts) following)) pause_piece in
      record {
        node = next.node;
        after = made more last following;
        found = label_found root keeps t (label_name n) (made (statement.Pause ∷ more) next following) opened ∙ ap Some is_pause;
        labels = own_made more last following ∙ ap (λ xs. xs ++ own_labels following) (behind_pause at all n);
      }

  -- what stands behind its pause
  behind_its_pause : (s : ℕ) (x : At s) (h : HasPause s x) (n : ℕ) (rest : Block) → pause_of k ms root keeps top s ≡ Pause n rest →
      own_labels rest ≡ own_labels x.following
  behind_its_pause s x h n rest paused =
      let place : MainPlace root keeps x.at.holder (made (h.front ++ depth x.targets h.all h.second) x.numbers x.following) =
      subst (λ xs. MainPlace root keeps x.at.holder (made xs x.numbers x.following)) h.text x.text in
      let passed : Passed root keeps x.at.holder h.front (depth x.targets h.all h.second) x.numbers x.following = pass root keeps x.at.holder h.front
      (depth x.targets h.all h.second) x.numbers x.following place in
      let d : SecondFound h.second x.following = second_found x.at.holder x.targets h.all h.second passed.next x.following passed.place in
      let is : pause_of k ms root keeps top s ≡ Pause d.node d.after = ap (behind_some root) h.mark ∙ ap (λ o. unwrap_or o (End 0)) d.found in
      ap (λ b. own_labels (after_of b)) (sym paused ∙ is) ∙ d.labels

  -- its labels, and those that follow
  labels_from : (s : ℕ) (x : At s) (h : HasPause s x) → own_labels (made (text_at s x) x.numbers x.following) ≡ label_name x.label ∷ label_name h.second
      ∷ own_labels x.following
  labels_from s x h =
      own_made (text_at s x) x.numbers x.following
      ∙ ap (λ xs. text_labels xs ++ own_labels x.following) h.text
      ∙ ap (λ xs. xs ++ own_labels x.following) (labels_append h.front (depth x.targets h.all h.second))
      ∙ ap (λ xs. (xs ++ text_labels (depth x.targets h.all h.second)) ++ own_labels x.following) h.labels
      ∙ ap (λ xs. label_name x.label ∷ xs ++ own_labels x.following) (depth_labels x.targets h.all h.second)

  -- who pauses somewhere
  has_pause : (s : ℕ) (x : At s) (n : ℕ) (rest : Block) → pause_of k ms root keeps top s ≡ Pause n rest → HasPause s x
  has_pause s x n rest paused = by (out-State x.state).is_final refl (out-State x.state).regions refl
    where
      second_is : (mark_at ms s).second ≡ second_of (out-State x.state).is_final (map low_of_region (out-State x.state).regions) (all_of s x) x.label
      second_is =
          subst (λ z. (mark_at ms z).second ≡ second_of (out-State x.state).is_final (lows (map marks_of_region (out-State x.state).regions))
          (all_of s x) x.label) x.is (ap (λ o. (unwrap_or {T = Mark} o (mark_at [] 0)).second) x.mark)
          ∙ ap (λ rs. second_of (out-State x.state).is_final rs (all_of s x) x.label)
          (lows_same (out-State x.state).regions (regions_marked x.variables x.levels (out-State x.state).regions x.regions_rules))

      never : (mark_at ms s).second ≡ None → ⊥
      never none = no_pause n 0 rest (sym (ap (behind_some root) none) ∙ paused)

      -- a simple state, by whether its surface is surely left
      simple : text_at s x ≡ text_of false [] (all_of s x) x.targets x.label → (b : Bool) → leaves_surely (at_once (all_of s x)) ≡ b →
          (mark_at ms s).second ≡ (if b then None else Some (suc x.label)) → HasPause s x
      simple is true surely mark = absurd (never mark)
      simple is false stays mark = record {
        front = label x.label ∷ transitions x.targets (at_once (all_of s x)) [];
        all = all_of s x;
        second = suc x.label;
        text = is ∙ ap (λ xs. label x.label ∷ xs) (tests_split x.targets (at_once (all_of s x)) (depth x.targets (all_of s x) (suc x.label)) stays);
        labels = surface_labels x.targets (at_once (all_of s x)) x.label;
        mark = mark;
      }

      -- a superstate, by its terminations
      super : (r : Region) (rs : List Region) → text_at s x ≡ text_of false (map low_of_region (r ∷ rs)) (all_of s x) x.targets x.label →
          (ts : List Transition) → terminations (all_of s x) ≡ ts → (mark_at ms s).second ≡ second_behind ts
          (suc x.label + labels_in (map low_of_region (r ∷ rs))) → HasPause s x
      super r rs is (t ∷ ts) ends mark = absurd (never mark)
      super r rs is [] ends mark =
          let low : _ = map low_of_region (r ∷ rs) in
          let bodies : List (List Statement) = branches low (suc x.label) in
          record {
            front = label x.label ∷ statement.Fork bodies ∷ [];
            all = [];
            second = suc x.label + labels_in low;
            text = is ∙ ap (λ ts. label x.label ∷ statement.Fork bodies ∷ behind x.targets ts (suc x.label + labels_in low)) ends;
            labels = fork_labels bodies x.label;
            mark = mark;
          }

      by : (b : Bool) → (out-State x.state).is_final ≡ b → (rs : List Region) → (out-State x.state).regions ≡ rs → HasPause s x
      by true final rs regions = absurd (never (second_is ∙ ap (λ b. second_of b (map low_of_region (out-State x.state).regions) (all_of s x) x.label) final))
      by false final [] regions =
          let opened : (b : Bool) (rs : List Region) → (out-State x.state).is_final ≡ b → (out-State x.state).regions ≡ rs →
          text_at s x ≡ text_of b (map low_of_region rs) (all_of s x) x.targets x.label =
          λ b rs f r. ap (λ b. text_of b (map low_of_region (out-State x.state).regions) (all_of s x) x.targets x.label) f
          ∙ ap (λ rs. text_of b (map low_of_region rs) (all_of s x) x.targets x.label) r in
          simple (opened false [] final regions) (leaves_surely (at_once (all_of s x))) refl
          (second_is ∙ ap (λ b. second_of b (map low_of_region (out-State x.state).regions) (all_of s x) x.label) final
          ∙ ap (λ rs. second_of false (map low_of_region rs) (all_of s x) x.label) regions)
      by false final (r ∷ rs) regions =
          let opened : text_at s x ≡ text_of false (map low_of_region (r ∷ rs)) (all_of s x) x.targets x.label =
          ap (λ b. text_of b (map low_of_region (out-State x.state).regions) (all_of s x) x.targets x.label) final
          ∙ ap (λ rs. text_of false (map low_of_region rs) (all_of s x) x.targets x.label) regions in
          super r rs opened (terminations (all_of s x)) refl
          (second_is ∙ ap (λ b. second_of b (map low_of_region (out-State x.state).regions) (all_of s x) x.label) final
          ∙ ap (λ rs. second_of false (map low_of_region rs) (all_of s x) x.label) regions)

  -- two states of a region whose labels have one name are one state
  names_tell : (u v : ℕ) (x : At u) (y : At v) → x.at.holder ≡ y.at.holder → label_name x.label ≡ label_name y.label → u ≡ v
  names_tell u v x y holders same =
      let states : List ℕ = (region_at k x.at.holder).states in
      let listed : Contains states y.at.state = subst (λ h. Contains (region_at k h).states y.at.state) (sym holders) y.listed in
      let i : (i : ℕ) × (slice_get states i ≡ Some x.at.state) = stands_at states x.at.state x.listed in
      let j : (j : ℕ) × (slice_get states j ≡ Some y.at.state) = stands_at states y.at.state listed in
      let a : (m : Mark) × (slice_get ms x.at.state ≡ Some m) × (slice_get x.targets.states i.0 ≡ Some (label_name m.label)) =
      x.goes.states i.0 x.at.state i.1 in
      let b : (m : Mark) × (slice_get ms y.at.state ≡ Some m) × (slice_get x.targets.states j.0 ≡ Some (label_name m.label)) =
      x.goes.states j.0 y.at.state j.1 in
      let own_a : a.0.label ≡ x.label = ap (λ (m : Mark). m.label) (same_Some a.0 _ (sym a.1 ∙ x.mark)) in
      let own_b : b.0.label ≡ y.label = ap (λ (m : Mark). m.label) (same_Some b.0 _ (sym b.1 ∙ y.mark)) in
      let at_i : slice_get x.targets.states i.0 ≡ Some (label_name x.label) = a.2 ∙ ap (λ n. Some (label_name n)) own_a in
      let at_j : slice_get x.targets.states j.0 ≡ Some (label_name x.label) = b.2 ∙ ap (λ n. Some (label_name n)) own_b ∙ ap Some (sym same) in
      let one : i.0 ≡ j.0 = x.goes.apart i.0 j.0 (label_name x.label) at_i at_j in
      sym x.is ∙ same_Some x.at.state y.at.state (sym i.1 ∙ ap (slice_get states) one ∙ j.1) ∙ y.is

  -- two states of a region with one pause are one state
  pub pauses_tell : (u v : ℕ) (x : At u) (y : At v) → x.at.holder ≡ y.at.holder → (n : ℕ) (rest : Block) → pause_of k ms root keeps top u ≡ Pause n rest →
      pause_of k ms root keeps top v ≡ Pause n rest → u ≡ v
  pauses_tell u v x y holders n rest paused paused_too =
      let h : HasPause u x = has_pause u x n rest paused in
      let i : HasPause v y = has_pause v y n rest paused_too in
      let z : List ℕ = x.labelled.0 in
      let here : own_labels x.following ≡ z ∷ x.labelled.1 = x.labelled.2 in
      let there : own_labels y.following ≡ z ∷ x.labelled.1 = sym (behind_its_pause v y i n rest paused_too) ∙ behind_its_pause u x h n rest paused ∙ here in
      let a : own_labels (made (text_at u x) x.numbers x.following) ≡ label_name x.label ∷ label_name h.second ∷ z ∷ x.labelled.1 = labels_from u x h
      ∙ ap (λ xs. label_name x.label ∷ label_name h.second ∷ xs) here in
      let b : own_labels (made (text_at v y) y.numbers y.following) ≡ label_name y.label ∷ label_name i.second ∷ z ∷ x.labelled.1 = labels_from v y i
      ∙ ap (λ xs. label_name y.label ∷ label_name i.second ∷ xs) there in
      let all : List (List ℕ) = all_labels root keeps in
      let second : label_name h.second ≡ label_name i.second =
      behind_one all (label_name h.second) (label_name i.second) z keeps.distinct
      (x.text.own (label_name h.second) z (subst (λ xs. IsBehind xs (label_name h.second) z) (sym a) (inr (inl (refl, refl)))))
      (y.text.own (label_name i.second) z (subst (λ xs. IsBehind xs (label_name i.second) z) (sym b) (inr (inl (refl, refl))))) in
      let first : label_name x.label ≡ label_name y.label =
      behind_one all (label_name x.label) (label_name y.label) (label_name i.second) keeps.distinct
      (subst (λ name. IsBehind all (label_name x.label) name) second
      (x.text.own (label_name x.label) (label_name h.second) (subst (λ xs. IsBehind xs (label_name x.label) (label_name h.second)) (sym a)
      (inl (refl, refl)))))
      (y.text.own (label_name y.label) (label_name i.second) (subst (λ xs. IsBehind xs (label_name y.label) (label_name i.second)) (sym b) (inl (refl, refl))))
      in
      names_tell u v x y holders first
