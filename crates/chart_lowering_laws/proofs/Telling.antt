-- No two states of a region have one pause, or one fork.
use Rattle.std.proofs.Common.{◌≡◌, ℕ, zero, suc, ◌<◌, Bool, true, false, Option, Some, None, List, [], ◌∷◌, ◌++◌, map, length, Contains, refl, sym, ap, subst}
use Rattle.std.proofs.Common.{◌∙◌}
use Rattle.sc_values.specs.declared.expression.Expr.{Expr}
use Rattle.core_charts.specs.declared.region.Effect.{Effect}
use Rattle.core_charts.specs.declared.region.Region.{Region}
use Rattle.core_charts.specs.declared.region.Region.TheViews.{out-State}
use Rattle.core_charts.specs.declared.region.Transition.{Transition}
use Rattle.core_charts.specs.Chart.{Chart}
use Rattle.core_charts.specs.Tests.{at_once}
use Rattle.chart_machine.specs.Table.{state_at}
use Rattle.scl.specs.declared.program.Scl.{Scl}
use Rattle.scl.specs.declared.statement.Statement.{Statement}
use Rattle.scl.specs.declared.statement.Statement.TheVariants as statement
use Rattle.scl.specs.Block.{Block, Pause, Fork, Branches}
use Rattle.scl.specs.Places.{threads_of}
use Rattle.scl.specs.Numbering.{Piece, Numbers, beyond}
use Rattle.scl_graph_laws.proofs.Searching.{unlike}
use Rattle.chart_lowering.specs.declared.targets.Targets.{Targets}
use Rattle.chart_lowering.specs.Lowering.{label, label_name, label_at, goto, text_of, depth, transitions, tested, taken, assignment}
use Rattle.chart_lowering.specs.Lowering.{state_piece as low_state, piece_of_region as low_of_region}
use Rattle.chart_lowering_laws.specs.Layout.{IsSuper, LiesIn, Layout}
use Rattle.chart_lowering_laws.specs.Active.{TellsStates, AreNeighbours}
use Rattle.chart_lowering_laws.specs.Laws.{IsLowering}
use Rattle.chart_lowering_laws.specs.Marks.{marks}
use Rattle.chart_lowering_laws.proofs.Texts.{made, label_piece, assign_piece, goto_piece, if_piece}
use Rattle.chart_lowering_laws.proofs.Walking.{StateAt, low_open_state}
use Rattle.chart_lowering_laws.proofs.ReadingOff.{BeginsWith, begins_with}
use Rattle.chart_lowering_laws.proofs.Supers.{super_state}
use Rattle.chart_lowering_laws.proofs.Forks.{some_branch}
use Rattle.chart_lowering_laws.proofs.Leading.{holder_is}
use Rattle.chart_lowering_laws.proofs.Pausing.{pauses_tell}
use Rattle.chart_lowering_laws.proofs.Lowered.{k, root, top, l, keeps, settles, state_there, tree}

abbrev pub is_fork : Block → Bool
is_fork (Fork n branches rest) = true
is_fork other = false

abbrev forked_by : Block → List ℕ
forked_by (Fork n branches rest) = threads_of branches
forked_by other = []

abbrev first_of : List ℕ → ℕ
first_of [] = zero
first_of (x ∷ xs) = x

pub taken_no_fork : (effects : List Effect) (name : List ℕ) (m : Numbers) (after : Block) →
    is_fork (made (map assignment effects ++ statement.Goto name ∷ []) m after) ≡ false
taken_no_fork [] name m after = ap (λ (p : Piece). is_fork (p.made m after)) (goto_piece name)
taken_no_fork (e ∷ effects) name m after =
    let rest : List Statement = map assignment effects ++ statement.Goto name ∷ [] in
    ap (λ (p : Piece). is_fork (p.made m (made rest (beyond m p.counts) after))) (assign_piece e.variable e.value)

pub tests_no_fork : (at : Targets) (ts all : List Transition) (n : ℕ) (m : Numbers) (after : Block) →
    is_fork (made (transitions at ts (depth at all n)) m after) ≡ false
tests_no_fork at [] all n m after =
    let rest : List Statement = statement.Pause ∷ transitions at all (goto n ∷ []) in
    ap (λ (p : Piece). is_fork (p.made m (made rest (beyond m p.counts) after))) (label_piece (label_name n))
tests_no_fork at (t ∷ ts) all n m after = by t.trigger
  where
    by : (o : Option Expr) → is_fork (made (tested o (taken at t) (transitions at ts (depth at all n))) m after) ≡ false
    by None = taken_no_fork t.effects (label_at at t.target) m after
    by (Some e) = ap (λ (p : Piece). is_fork (p.made m (made (transitions at ts (depth at all n)) (beyond m p.counts) after))) (if_piece e (taken at t) [])

module _ (c : Chart) (p : Scl) (low : IsLowering c p) where
  abbrev K : Rattle.chart_machine.specs.declared.table.Table.Table
  K = k c p low

  abbrev R : Block
  R = root c p low

  abbrev L : Layout
  L = l c p low

  abbrev T : List ℕ
  T = top c p low

  abbrev At : ℕ → Type 0
  At s = StateAt K (marks c) R (keeps c p low) T s

  -- a state whose text begins with a fork is a superstate
  forks_super : (s : ℕ) → s < length K.states → is_fork (L.fork s) ≡ true → IsSuper K R L s
  forks_super s less forks = let x : At s = state_there c p low s less in by x (out-State x.state).is_final refl (out-State x.state).regions refl
    where
      by : (x : At s) → (b : Bool) → (out-State x.state).is_final ≡ b → (rs : List Region) → (out-State x.state).regions ≡ rs → IsSuper K R L s
      by x true final rs regions =
          let rest : List Statement = statement.Goto x.targets.end ∷ [] in
          let same : (low_state (low_open_state x.state)).text x.targets x.label ≡ label x.label ∷ rest =
          ap (λ b. text_of b (low_open_state x.state).regions (out-State x.state).transitions x.targets x.label) final in
          let b : BeginsWith K (marks c) R (keeps c p low) T s x.at.region x.at.holder rest x.following = begins_with K (marks c) R
          (keeps c p low) T s x rest same in
          absurd (unlike (is_fork (L.fork s)) forks (ap is_fork b.begin ∙ taken_no_fork [] x.targets.end b.next x.following))
      by x false final [] regions =
          let all : List Transition = (out-State x.state).transitions in
          let rest : List Statement = transitions x.targets (at_once all) (depth x.targets all (suc x.label)) in
          let same : (low_state (low_open_state x.state)).text x.targets x.label ≡ label x.label ∷ rest =
          ap (λ b. text_of b (low_open_state x.state).regions all x.targets x.label) final
          ∙ ap (λ rs. text_of false (map low_of_region rs) all x.targets x.label) regions in
          let b : BeginsWith K (marks c) R (keeps c p low) T s x.at.region x.at.holder rest x.following = begins_with K (marks c) R
          (keeps c p low) T s x rest same in
          absurd (unlike (is_fork (L.fork s)) forks (ap is_fork b.begin ∙ tests_no_fork x.targets (at_once all) all (suc x.label) b.next x.following))
      by x false final (r ∷ rs) regions = super_state K (marks c) R (keeps c p low) T (state_there c p low) (settles c p low) s x final r rs regions

  -- two states with one fork are one state
  forks_tell : (u v n : ℕ) (branches : Branches) (rest : Block) → u < length K.states → v < length K.states → L.fork u ≡ Fork n branches rest →
      L.fork v ≡ Fork n branches rest → u ≡ v
  forks_tell u v n branches rest in_u in_v at_u at_v =
      let a : IsSuper K R L u = forks_super u in_u (ap is_fork at_u) in
      let b : IsSuper K R L v = forks_super v in_v (ap is_fork at_v) in
      let regions : (state_at K u).regions ≡ (state_at K v).regions = sym a.opens.threads ∙ ap forked_by (sym a.fork ∙ at_u ∙ sym at_v ∙ b.fork)
      ∙ b.opens.threads in
      let q : (q : ℕ) × Contains (threads_of a.branches) q = some_branch p low.rules (state_at K u).holder a.node a.branches a.rest a.place in
      let own : Contains (state_at K u).regions q.0 = subst (λ xs. Contains xs q.0) a.opens.threads q.1 in
      let x : LiesIn K q.0 u = ((tree c p low).regions u q.0 in_u own).1 in
      let y : LiesIn K q.0 v = ((tree c p low).regions v q.0 in_v (subst (λ xs. Contains xs q.0) regions own)).1 in
      ap first_of (sym x.around ∙ y.around)

  -- and so are two states of a region with one pause
  same_pause : (u v n : ℕ) (rest : Block) → AreNeighbours K u v → L.pause u ≡ Pause n rest → L.pause v ≡ Pause n rest → u ≡ v
  same_pause u v n rest beside at_u at_v =
      let x : At u = state_there c p low u beside.first in
      let y : At v = state_there c p low v beside.second in
      let holder : (s : ℕ) (z : At s) → (state_at K s).holder ≡ z.at.holder = λ s z. holder_is K (marks c) R (keeps c p low) T (state_there c p low) s z in
      pauses_tell K (marks c) R (keeps c p low) T u v x y (sym (holder u x) ∙ beside.holders ∙ holder v y) n rest at_u at_v

  pub tells_states : TellsStates K L
  tells_states = record { pauses = same_pause; forks = λ u v n branches rest beside. forks_tell u v n branches rest beside.first beside.second }
