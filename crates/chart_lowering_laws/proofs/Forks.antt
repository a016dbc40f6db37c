-- Each thread is a branch of one fork alone, so each fork of the text is one that the states' texts tell of: it forks the
-- regions of a superstate, or those of the chart.
use Rattle.std.proofs.Common.{◌≡◌, ℕ, zero, suc, ◌+◌, ◌<◌, ◌≤◌, ⊎_elim, Some, List, [], ◌∷◌, ◌++◌, length, slice_get, Contains, refl, sym, ap, subst, ◌∙◌}
use Rattle.std.proofs.Common.{arith}
use Rattle.std.proofs.lemmas.List.{append-nil}
use Rattle.std.proofs.lemmas.Option.{none-some, same_Some}
use Rattle.sc_graph.specs.declared.program.Node.{Node}
use Rattle.sc_graph.specs.declared.program.Step.{Step}
use Rattle.sc_graph.specs.declared.program.Step.TheVariants as step
use Rattle.sc_graph.specs.Program.{Program, parent_of}
use Rattle.sc_graph.proofs.Formed.{within_threads}
use Rattle.chart_machine.specs.declared.table.Table.{Table}
use Rattle.chart_machine.specs.Table.{state_at, region_at}
use Rattle.scl.specs.declared.program.Scl.{Scl}
use Rattle.scl.specs.Block.{Block, End, Fork, Branches}
use Rattle.scl.specs.Places.{Place, whole, threads_of, IsChild}
use Rattle.scl.specs.Numbering.{Piece, in_row, pieces_of, numbered}
use Rattle.scl.specs.Rules.{Part, KeepsRules, parts_of}
use Rattle.scl.specs.Rules.{in_row as parts_in_row}
use Rattle.scl_graph.specs.Graph.{node, program_of}
use Rattle.scl_graph_laws.specs.Mirrors.{leads, HasFork, Mirrors}
use Rattle.tick_laws.proofs.Lists.{contains_head}
use Rattle.scl_graph_laws.proofs.Numbers.{own_nodes, row_runs_on}
use Rattle.scl_graph_laws.proofs.Segments.{stand_all}
use Rattle.scl_graph_laws.proofs.Whole.{IsWhole}
use Rattle.scl_graph_laws.proofs.Texts.{at_first, text_is_whole, all_run_on, program_mirrors}
use Rattle.scl_graph_laws.proofs.Contents.{content, content_among, content_at, forks_in}
use Rattle.scl_graph_laws.proofs.Gathering.{Gathers, text_gathers}
use Rattle.scl_graph_laws.proofs.Forkers.{forkers, ForkedIn, forked_in, forker_of}
use Rattle.scl_graph_laws.proofs.Fitting.{stands_at}
use Rattle.chart_lowering_laws.specs.Layout.{Layout, IsTree, IsRoot, IsRegionOf, LiesIn, IsSimple, IsFinal, IsSuper, StandsThere, ForksRegions, of_chart}
use Rattle.chart_lowering_laws.specs.Layout.{of_state}

abbrev children_of : Step → List ℕ
children_of (step.Fork children join) = children
children_of other = []

module _ (p : Scl) (kept : KeepsRules p.name p.variables p.body) where
  abbrev q : Program
  q = program_of (numbered p)

  abbrev root : Block
  root = (numbered p).root

  is_whole : IsWhole (numbered p)
  is_whole = text_is_whole p.variables (in_row (pieces_of p.body)) (row_runs_on (pieces_of p.body) (all_run_on p.body))

  mirror : Mirrors (numbered p) q
  mirror = program_mirrors p

  abbrev all : List (ℕ × ℕ)
  all = (0, 0) ∷ forkers root

  all_forked : ForkedIn all root
  all_forked = forked_in all root 0 1 (suc (own_nodes root)) is_whole.numbers (stand_all all).1

  -- two forks with a branch of one thread are one fork
  pub one_fork : (t n : ℕ) (bs : Branches) (rest : Block) → Place root t (Fork n bs rest) → (s m : ℕ) (cs : Branches) (more : Block) →
      Place root s (Fork m cs more) →
      (u : ℕ) → Contains (threads_of bs) u → Contains (threads_of cs) u → (t ≡ s) × (threads_of bs ≡ threads_of cs)
  one_fork t n bs rest place s m cs more other u here there =
      let i : (i : ℕ) × (slice_get (threads_of bs) i ≡ Some u) = stands_at (threads_of bs) u here in
      let j : (j : ℕ) × (slice_get (threads_of cs) j ≡ Some u) = stands_at (threads_of cs) u there in
      let a : slice_get all u ≡ Some (n, 0 + i.0) = forker_of all root all_forked t n bs rest place i.0 u i.1 in
      let b : slice_get all u ≡ Some (m, 0 + j.0) = forker_of all root all_forked s m cs more other j.0 u j.1 in
      let same : n ≡ m = ap (λ (x : ℕ × ℕ). x.0) (same_Some (n, 0 + i.0) (m, 0 + j.0) (sym a ∙ b)) in
      let x : HasFork q n t (threads_of bs) (leads root rest) = mirror.nodes t (Fork n bs rest) place in
      let y : HasFork q m s (threads_of cs) (leads root more) = mirror.nodes s (Fork m cs more) other in
      let nodes : node t (step.Fork (threads_of bs) (suc n)) ≡ node s (step.Fork (threads_of cs) (suc m)) =
      same_Some (node t (step.Fork (threads_of bs) (suc n))) (node s (step.Fork (threads_of cs) (suc m))) (sym x.nodes.first.is ∙ ap (slice_get q.nodes) same
      ∙ y.nodes.first.is) in
      (ap (λ (z : Node). z.owner) nodes, ap (λ (z : Node). children_of z.step) nodes)

  -- each fork has a branch
  pub some_branch : (t n : ℕ) (bs : Branches) (rest : Block) → Place root t (Fork n bs rest) → (u : ℕ) × Contains (threads_of bs) u
  some_branch t n bs rest place =
      let gathered : Part = parts_in_row (parts_of p.body) in
      let made : Piece = in_row (pieces_of p.body) in
      let gathers : Gathers gathered made = text_gathers p.body in
      let count : ℕ = length (threads_of bs) in
      let is : content forks_in root ≡ gathered.forks ++ [] = gathers.forks (at_first made) (End (0 + made.counts.nodes)) in
      let held : Contains gathered.forks count =
      subst (λ xs. Contains xs count) (is ∙ append-nil gathered.forks)
      (content_at forks_in root t (Fork n bs rest) place count (contains_head count (content_among forks_in bs ++ content forks_in rest))) in
      let at : (k : ℕ) × (slice_get gathered.forks k ≡ Some count) = stands_at gathered.forks count held in
      first (threads_of bs) (kept.text.branches at.0 count at.1).0
    where
      first : (xs : List ℕ) → 1 ≤ length xs → (u : ℕ) × Contains xs u
      first [] h = absurd (omega (arith, h))
      first (x ∷ xs) h = (x, contains_head x xs)

  -- a branch's thread is one of the program, and not the first one
  pub branch_within : (t n : ℕ) (bs : Branches) (rest : Block) → Place root t (Fork n bs rest) → (u : ℕ) → Contains (threads_of bs) u →
      (zero < u) × (u < (numbered p).threads)
  branch_within t n bs rest place u here =
      let child : IsChild root u t = record { node = n; branches = bs; is_fork = record { rest = rest; place = place }; branch = here } in
      let parent : parent_of q u ≡ Some t = mirror.parents u t child in
      (not_first u parent, subst (λ k. u < k) mirror.threads (within_threads q u t parent))
    where
      not_first : (u : ℕ) → parent_of q u ≡ Some t → zero < u
      not_first zero h = absurd (none-some t h)
      not_first (suc u) h = omega arith

  module _ (k : Table) (l : Layout) (tree : IsTree k l) (is_root : IsRoot k root l) (states : (s : ℕ) → s < length k.states → StandsThere k root l s)
      (threads : (numbered p).threads ≡ suc (length k.regions)) where
    -- a fork that has this region's thread, and forks regions
    record Known (r : ℕ) : Type 0 where
      thread : ℕ
      fork : ℕ
      branches : Branches
      rest : Block
      place : Place root thread (Fork fork branches rest)
      branch : Contains (threads_of branches) r
      regions : ForksRegions k l thread (threads_of branches)

    of_super : (r s : ℕ) → LiesIn k r s → IsSuper k root l s → Known r
    of_super r s lies super = record {
      thread = (state_at k s).holder;
      fork = super.node;
      branches = super.branches;
      rest = super.rest;
      place = super.place;
      branch = subst (λ xs. Contains xs r) (sym super.opens.threads) lies.held;
      regions = of_state s (record { there = lies.there; holder = refl }) super.opens.threads;
    }

    stands_around : (r s : ℕ) → LiesIn k r s → Contains (region_at k r).around s
    stands_around r s lies = subst (λ xs. Contains xs s) (sym lies.around) (contains_head s (region_at k (state_at k s).holder).around)

    known : (r : ℕ) → IsRegionOf k r → Known r
    known r is =
        ⊎_elim
        (λ top. record {
          thread = zero;
          fork = is_root.node;
          branches = is_root.branches;
          rest = End is_root.end;
          place = subst (Place root zero) is_root.is whole;
          branch = subst (λ xs. Contains xs r) (sym is_root.opens.threads) top.0;
          regions = of_chart refl is_root.opens.threads;
        })
        (λ in_state.
        let s : ℕ = in_state.0 in
        let lies : LiesIn k r s = in_state.1 in
        ⊎_elim (λ (simple : IsSimple k root l s). absurd (simple.none_inside r (stands_around r s lies)))
        (λ other. ⊎_elim (λ (final : IsFinal k root l s). absurd (final.none_inside r (stands_around r s lies)))
        (λ (super : IsSuper k root l s). of_super r s lies super) other)
        (states s lies.there))
        (tree.each r is)

    -- so each fork of the text forks regions
    pub forks_regions : (t n : ℕ) (branches : Branches) (rest : Block) → Place root t (Fork n branches rest) → ForksRegions k l t (threads_of branches)
    forks_regions t n branches rest place =
        let u : (u : ℕ) × Contains (threads_of branches) u = some_branch t n branches rest place in
        let within : (zero < u.0) × (u.0 < (numbered p).threads) = branch_within t n branches rest place u.0 u.1 in
        let less : u.0 < suc (length k.regions) = subst (λ m. u.0 < m) threads within.1 in
        let at : Known u.0 = known u.0 (within.0, less) in
        let same : (t ≡ at.thread) × (threads_of branches ≡ threads_of at.branches) =
        one_fork t n branches rest place at.thread at.fork at.branches at.rest at.place u.0 u.1 at.branch in
        subst (λ x. ForksRegions k l x (threads_of branches)) (sym same.0) (subst (ForksRegions k l at.thread) (sym same.1) at.regions)
