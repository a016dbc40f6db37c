-- Each node of the program of an SCL program is of the size and the structure that rules ask for, and its step keeps those of codes.
use Rattle.std.proofs.Common.{◌≡◌, ℕ, suc, ◌+◌, ◌<◌, ◌≤◌, true, Some, List, [], ◌∷◌, ◌++◌, map, length, slice_get}
use Rattle.std.proofs.Common.{Contains, All, sym, ap, subst, ◌∙◌, arith}
use Rattle.std.proofs.lemmas.List.Elements.{All-contains_itself}
use Rattle.std.proofs.lemmas.Option.{same_Some, slice_get_within}
use Rattle.std.proofs.lemmas.List.{append-nil}
use Rattle.sc_values.specs.declared.value.Kind.TheVariants as kind_is
use Rattle.sc_values.specs.declared.expression.Expr.{Expr}
use Rattle.sc_values.specs.Expr.{postorder}
use Rattle.sc_values.specs.Assignment.{operand, assignment_of}
use Rattle.sc_graph.specs.declared.program.Node.{Node}
use Rattle.sc_graph.specs.declared.program.Step.{Step}
use Rattle.sc_graph.specs.declared.program.Step.TheVariants as step
use Rattle.sc_graph.specs.Limits.{ancestor_limit, child_limit}
use Rattle.sc_graph.specs.Program.{Program, step_at, parent_of, is_target}
use Rattle.sc_graph.specs.Size.{InNodes, AreDistinct, StepFits, NodeFits}
use Rattle.sc_graph.specs.Structure.{StepStays, JoinsAt, ForksChild, BelongsToOne, NodeStands}
use Rattle.sc_graph.proofs.Formed.{NodeAt, node_at, within_threads}
use Rattle.scl.specs.declared.program.Scl.{Scl}
use Rattle.scl.specs.Block.{Block, End, Assign, Label, Goto, Pause, If, Fork, Branches}
use Rattle.scl.specs.Labels.{before}
use Rattle.scl.specs.Places.{Place, whole, after_assign, after_label, after_goto, after_pause, in_first, in_second, after_if, after_fork, in_branch, threads_of}
use Rattle.scl.specs.Numbering.{Piece, in_row, pieces_of, numbered}
use Rattle.scl.specs.Rules.{Part, KeepsRules, IsAssignment, parts_of}
use Rattle.scl.specs.Rules.{in_row as parts_in_row}
use Rattle.sc_text.specs.Parts.{IsExpression}
use Rattle.scl_graph.specs.Graph.{assigns, node, number, program_of}
use Rattle.scl_graph.specs.Loops.{HasNoEmptyLoop}
use Rattle.scl_graph_laws.specs.Standing.{IsStep}
use Rattle.scl_graph_laws.specs.Settling.{Settling}
use Rattle.scl_graph_laws.specs.Mirrors.{leads, HasNode, HasNodes, HasFork, Mirrors}
use Rattle.scl_graph_laws.proofs.Agreeing.{GoesTo}
use Rattle.scl_graph_laws.proofs.Targets.{step_is, is_a_join, is_a_depth, goes_to}
use Rattle.tick_laws.proofs.Lists.{contains_head}
use Rattle.scl_graph_laws.proofs.Numbers.{RunsOn, own_nodes, row_runs_on}
use Rattle.scl_graph_laws.proofs.Segments.{stand_all, each_at}
use Rattle.scl_graph_laws.proofs.Spreading.{OfNodes}
use Rattle.scl_graph_laws.proofs.Coming.{ComesFromFork, Comes, nodes_come}
use Rattle.scl_graph_laws.proofs.Whole.{IsWhole, each_node}
use Rattle.scl_graph_laws.proofs.Texts.{at_first, text_is_whole, all_run_on, program_mirrors}
use Rattle.scl_graph_laws.proofs.Contents.{Gathered, content, content_among, content_at, assigned_in, tests_in, forks_in, Shallow}
use Rattle.scl_graph_laws.proofs.Gathering.{Gathers, text_gathers}
use Rattle.scl_graph_laws.proofs.Scopes.{stay_within}
use Rattle.scl_graph_laws.proofs.Jumping.{places_settle}
use Rattle.scl_graph_laws.proofs.Looping.{no_loop_settles}
use Rattle.scl_graph_laws.proofs.RunsKept.{keeps_scopes}
use Rattle.scl_graph_laws.proofs.Levels.{branch_parent}
use Rattle.scl_graph_laws.proofs.Forkers.{forkers, forked_in, forker_of}
use Rattle.scl_graph_laws.proofs.Sources.{NodeFrom, at_statement, at_depth, at_join, node_sources, Pauses, nodes_pause}
use Rattle.scl_graph_laws.proofs.Operands.{HasKind, operand_kinded, loads_within}
use Rattle.scl_graph_laws.proofs.Coding.{KeepsBoth, assignment_keeps_both, test_keeps_both}
use Rattle.scl_graph_laws.proofs.Fitting.{stands_at, target_within, node_within, assigns_fit, assigns_stay, assigns_alone}

module _ (p : Scl) (kept : KeepsRules p.name p.variables p.body) (no_loop : HasNoEmptyLoop (numbered p).root) where
  abbrev q : Program
  q = program_of (numbered p)

  abbrev root : Block
  root = (numbered p).root

  abbrev gathered : Part
  gathered = parts_in_row (parts_of p.body)

  abbrev made : Piece
  made = in_row (pieces_of p.body)

  abbrev last : Block
  last = End (0 + made.counts.nodes)

  runs_on : RunsOn made
  runs_on = row_runs_on (pieces_of p.body) (all_run_on p.body)

  is_whole : IsWhole (numbered p)
  is_whole = text_is_whole p.variables made runs_on

  mirror : Mirrors (numbered p) q
  mirror = program_mirrors p

  settling : Settling root
  settling = places_settle root (stay_within root (keeps_scopes p kept)) (no_loop_settles root (keeps_scopes p kept) no_loop)

  gathers : Gathers gathered made
  gathers = text_gathers p.body

  -- ---- what the rules say at each place
  content_of_root : {X : Type 0} (g : Gathered X) (t : ℕ) (todo : Block) (y : X) (xs : List X) → Place root t todo → Contains (content g todo) y
      → content g root ≡ xs ++ [] → Contains xs y
  content_of_root g t todo y xs place h is = subst (λ xs. Contains xs y) (is ∙ append-nil xs) (content_at g root t todo place y h)

  assignment_at : (t n x : ℕ) (e : Expr) (rest : Block) → Place root t (Assign n x e rest) → IsAssignment p.variables x e
  assignment_at t n x e rest place =
      let at : (k : ℕ) × (slice_get gathered.assigned k ≡ Some (x, e)) =
      stands_at gathered.assigned (x, e)
      (content_of_root assigned_in t (Assign n x e rest) (x, e) gathered.assigned place (contains_head (x, e) (content assigned_in rest))
      (gathers.assigned (at_first made) last)) in
      kept.text.assignments at.0 x e at.1

  test_at : (t n : ℕ) (e : Expr) (a b rest : Block) → Place root t (If n e a b rest) → IsExpression (map (λ v. v.kind) p.variables) kind_is.Bool e
  test_at t n e a b rest place =
      let at : (k : ℕ) × (slice_get gathered.tests k ≡ Some e) =
      stands_at gathered.tests e
      (content_of_root tests_in t (If n e a b rest) e gathered.tests place
      (contains_head e ((content tests_in a ++ content tests_in b) ++ content tests_in rest)) (gathers.tests (at_first made) last)) in
      kept.text.tests at.0 e at.1

  branches_at : (t n : ℕ) (branches : Branches) (rest : Block) → Place root t (Fork n branches rest) → (1 ≤ length (threads_of branches))
      × (length (threads_of branches) ≤ child_limit)
  branches_at t n branches rest place =
      let count : ℕ = length (threads_of branches) in
      let at : (k : ℕ) × (slice_get gathered.forks k ≡ Some count) =
      stands_at gathered.forks count
      (content_of_root forks_in t (Fork n branches rest) count gathered.forks place
      (contains_head count (content_among forks_in branches ++ content forks_in rest)) (gathers.forks (at_first made) last)) in
      kept.text.branches at.0 count at.1

  pub shallow_root : Shallow ancestor_limit root
  shallow_root = gathers.shallow ancestor_limit kept.text.forks (at_first made) last tt

  -- ---- threads
  thread_at_place : (t : ℕ) (todo : Block) → Place root t todo → t < length q.threads
  thread_at_place t todo whole = let threads_are : length q.threads ≡ suc made.counts.threads = mirror.threads in omega (arith, threads_are)
  thread_at_place t todo (after_assign s n x e rest place) = thread_at_place s (Assign n x e rest) place
  thread_at_place t todo (after_label s name rest place) = thread_at_place s (Label name rest) place
  thread_at_place t todo (after_goto s g name rest place) = thread_at_place s (Goto g name rest) place
  thread_at_place t todo (after_pause s n rest place) = thread_at_place s (Pause n rest) place
  thread_at_place t todo (in_first s n e a b rest place) = thread_at_place s (If n e a b rest) place
  thread_at_place t todo (in_second s n e a b rest place) = thread_at_place s (If n e a b rest) place
  thread_at_place t todo (after_if s n e a b rest place) = thread_at_place s (If n e a b rest) place
  thread_at_place t todo (after_fork s n branches rest place) = thread_at_place s (Fork n branches rest) place
  thread_at_place t todo (in_branch s n u branches body rest place at) = within_threads q u s
      (branch_parent (numbered p) q mirror s n u branches body rest place at)

  -- ---- targets
  pub leads_target : (t : ℕ) (todo : Block) → Place root t todo → is_target q t (leads root todo) ≡ true
  leads_target t todo place =
      let g : GoesTo q root t todo = goes_to (numbered p) q mirror settling t todo place in
      ap (λ o. is_target q t (number o)) g.to.is ∙ g.target

  leads_within : (t : ℕ) (todo : Block) → Place root t todo → InNodes q (leads root todo)
  leads_within t todo place = (target_within q t (leads root todo) (leads_target t todo place)).1

  -- ---- one fork for each join and each thread, one pause for each depth
  node_fact : (P : ℕ → Node → Type 0) → OfNodes root P → (n : ℕ) (x : Node) → slice_get q.nodes n ≡ Some x → P n x
  node_fact P of n x h = subst (λ m. P m x) (plus n) (each_at P 0 q.nodes n x (each_node (numbered p) is_whole P of) h)
    where
      plus : (n : ℕ) → 0 + n ≡ n
      plus n = omega arith

  fork_source : (m : ℕ) (children : List ℕ) (join : ℕ) → step_at q m ≡ Some (step.Fork children join) → (x : Node) × ComesFromFork root m x children join
  fork_source m children join h =
      let at : NodeAt q m (step.Fork children join) = node_at q m (step.Fork children join) h in
      (at.node, node_fact (Comes root) (nodes_come root) m at.node at.there children join at.is)

  pause_source : (m d : ℕ) → step_at q m ≡ Some (step.Surf d) → d ≡ suc m
  pause_source m d h =
      let at : NodeAt q m (step.Surf d) = node_at q m (step.Surf d) h in
      node_fact Pauses (nodes_pause root) m at.node at.there d at.is

  joins_alone : (n m : ℕ) → JoinsAt q (suc n) m → m ≡ n
  joins_alone n m h = let from : (x : Node) × ComesFromFork root m x h.children (suc n) = fork_source m h.children (suc n) h.forks in
      let is : suc n ≡ suc m = from.1.next in omega (arith, is)

  pauses_alone : (n m : ℕ) → step_at q m ≡ Some (step.Surf (suc n)) → m ≡ n
  pauses_alone n m h = let is : suc n ≡ suc m = pause_source m (suc n) h in omega (arith, is)

  abbrev forks : List (ℕ × ℕ)
  forks = (0, 0) ∷ forkers root

  forked_once : (t n : ℕ) (branches : Branches) (rest : Block) → Place root t (Fork n branches rest) → (k u : ℕ) → slice_get (threads_of branches) k ≡ Some u
      → slice_get forks u ≡ Some (n, 0 + k)
  forked_once t n branches rest place k u there = forker_of forks root (forked_in forks root 0 1 (suc (own_nodes root)) is_whole.numbers (stand_all forks).1) t
      n branches rest place k u there

  children_distinct : (t n : ℕ) (branches : Branches) (rest : Block) → Place root t (Fork n branches rest) → AreDistinct (threads_of branches)
  children_distinct t n branches rest place i j a b lt h k same =
      let first : slice_get forks a ≡ Some (n, 0 + i) = forked_once t n branches rest place i a h in
      let second : slice_get forks b ≡ Some (n, 0 + j) = forked_once t n branches rest place j b k in
      let both : 0 + i ≡ 0 + j = ap (λ x. x.1) (same_Some (n, 0 + i) (n, 0 + j) (sym first ∙ ap (slice_get forks) same ∙ second)) in
      absurd (omega (arith, lt, both))

  pub fork_alone : (t n u : ℕ) (branches : Branches) (rest : Block) → Place root t (Fork n branches rest) → Contains (threads_of branches) u → (m : ℕ)
      → ForksChild q u m → m ≡ n
  fork_alone t n u branches rest place here m h =
      let from : (x : Node) × ComesFromFork root m x h.children h.join = fork_source m h.children h.join h.forks in
      let mine : (k : ℕ) × (slice_get (threads_of branches) k ≡ Some u) = stands_at (threads_of branches) u here in
      let other : (k : ℕ) × (slice_get (threads_of from.1.place.branches) k ≡ Some u) = stands_at (threads_of from.1.place.branches) u
      (subst (λ ks. Contains ks u) (sym from.1.place.children_are) h.child) in
      let first : slice_get forks u ≡ Some (n, 0 + mine.0) = forked_once t n branches rest place mine.0 u mine.1 in
      let second : slice_get forks u ≡ Some (from.1.place.fork, 0 + other.0) = forked_once from.0.owner from.1.place.fork from.1.place.branches
      from.1.place.rest from.1.place.place other.0 u other.1 in
      sym from.1.at ∙ ap (λ x. x.0) (same_Some (from.1.place.fork, 0 + other.0) (n, 0 + mine.0) (sym second ∙ first))

  -- ---- each node
  record Good (n t : ℕ) : Type 0 where
    taken : Step
    has : HasNode q n t taken
    fits : StepFits q taken
    stays : StepStays q t taken
    belongs : BelongsToOne q n taken
    keeps : KeepsBoth q taken

  of_each : (P : ℕ → Type 0) (xs : List ℕ) → ((x : ℕ) → Contains xs x → P x) → All P xs
  of_each P xs f k d lt = f _ (All-contains_itself xs k d lt)

  good_assign : (t n x : ℕ) (e : Expr) (rest : Block) → Place root t (Assign n x e rest) → Good n t
  good_assign t n x e rest place =
      let kept_here : IsAssignment p.variables x e = assignment_at t n x e rest place in
      let onward : Place root t rest = after_assign t n x e rest place in
      let kinded : HasKind (map (λ v. v.kind) p.variables) (operand (assignment_of x e)) = operand_kinded (map (λ v. v.kind) p.variables) x e
      (kept_here.variable.kind, kept_here.becomes.kinded) in
      record {
        taken = assigns x (assignment_of x e) (leads root rest);
        has = mirror.nodes t (Assign n x e rest) place;
        fits = assigns_fit q x (assignment_of x e) (leads root rest) (slice_get_within p.variables x kept_here.variable kept_here.is_there)
            (loads_within p.variables (operand (assignment_of x e)) kinded) (leads_within t rest onward);
        stays = assigns_stay q t x (assignment_of x e) (leads root rest) (leads_target t rest onward);
        belongs = assigns_alone q n x (assignment_of x e) (leads root rest);
        keeps = assignment_keeps_both q x e (leads root rest) kept_here;
      }

  good_test : (t n : ℕ) (e : Expr) (a b rest : Block) → Place root t (If n e a b rest) → Good n t
  good_test t n e a b rest place =
      let kept_here : IsExpression (map (λ v. v.kind) p.variables) kind_is.Bool e = test_at t n e a b rest place in
      let first : Place root t (before a rest) = in_first t n e a b rest place in
      let second : Place root t (before b rest) = in_second t n e a b rest place in
      record {
        taken = step.Cond (postorder e) (leads root (before a rest)) (leads root (before b rest));
        has = mirror.nodes t (If n e a b rest) place;
        fits = (loads_within p.variables e (kind_is.Bool, kept_here.kinded), leads_within t (before a rest) first, leads_within t (before b rest) second);
        stays = (leads_target t (before a rest) first, leads_target t (before b rest) second);
        belongs = tt;
        keeps = test_keeps_both q e (leads root (before a rest)) (leads root (before b rest)) kept_here;
      }

  good_fork : (t n : ℕ) (branches : Branches) (rest : Block) → Place root t (Fork n branches rest) → Good n t
  good_fork t n branches rest place =
      let has : HasFork q n t (threads_of branches) (leads root rest) = mirror.nodes t (Fork n branches rest) place in
      let counts : (1 ≤ length (threads_of branches)) × (length (threads_of branches) ≤ child_limit) = branches_at t n branches rest place in
      let parent : (u : ℕ) → Contains (threads_of branches) u
      → parent_of q u ≡ Some t = λ u h.
      mirror.parents u t (record { node = n; branches = branches; is_fork = record { rest = rest; place = place }; branch = h }) in
      record {
        taken = step.Fork (threads_of branches) (suc n);
        has = has.nodes.first;
        fits = (
          record {
            some_child = counts.0;
            few = counts.1;
            threads = of_each (λ k. k < length q.threads) (threads_of branches) (λ u h. within_threads q u t (parent u h));
            distinct = children_distinct t n branches rest place;
          },
          node_within q (suc n) t (step.Join (leads root rest)) has.nodes.second,
        );
        stays = (is_a_join q (suc n) t (leads root rest) has.nodes.second, of_each (λ k. parent_of q k ≡ Some t) (threads_of branches) parent);
        belongs = tt;
        keeps = (tt, tt);
      }

  good_first : (t : ℕ) (todo : Block) → Place root t todo → IsStep todo → Good (number (Some todo)) t
  good_first t (End n) place is = record { taken = step.Exit; has = mirror.nodes t (End n) place; fits = tt; stays = tt; belongs = tt; keeps = (tt, tt) }
  good_first t (Assign n x e rest) place is = good_assign t n x e rest place
  good_first t (Label name rest) place is = absurd is
  good_first t (Goto g name rest) place is = absurd is
  good_first t (Pause n rest) place is =
      let has : HasNodes q n t (step.Surf (suc n)) (step.Depth (leads root rest)) = mirror.nodes t (Pause n rest) place in
      record {
        taken = step.Surf (suc n);
        has = has.first;
        fits = node_within q (suc n) t (step.Depth (leads root rest)) has.second;
        stays = is_a_depth q (suc n) t (leads root rest) has.second;
        belongs = tt;
        keeps = (tt, tt);
      }
  good_first t (If n e a b rest) place is = good_test t n e a b rest place
  good_first t (Fork n branches rest) place is = good_fork t n branches rest place

  good_depth : (t n : ℕ) (rest : Block) → Place root t (Pause n rest) → Good (suc n) t
  good_depth t n rest place =
      let has : HasNodes q n t (step.Surf (suc n)) (step.Depth (leads root rest)) = mirror.nodes t (Pause n rest) place in
      let onward : Place root t rest = after_pause t n rest place in
      record {
        taken = step.Depth (leads root rest);
        has = has.second;
        fits = leads_within t rest onward;
        stays = leads_target t rest onward;
        belongs = record { one = n; is = step_is q n t (step.Surf (suc n)) has.first; alone = λ m h. pauses_alone n m h };
        keeps = (tt, tt);
      }

  good_join : (t n : ℕ) (branches : Branches) (rest : Block) → Place root t (Fork n branches rest) → Good (suc n) t
  good_join t n branches rest place =
      let has : HasFork q n t (threads_of branches) (leads root rest) = mirror.nodes t (Fork n branches rest) place in
      let onward : Place root t rest = after_fork t n branches rest place in
      record {
        taken = step.Join (leads root rest);
        has = has.nodes.second;
        fits = leads_within t rest onward;
        stays = leads_target t rest onward;
        belongs = record {
          one = n;
          is = record { children = threads_of branches; forks = step_is q n t (step.Fork (threads_of branches) (suc n)) has.nodes.first };
          alone = λ m h. joins_alone n m h;
        };
        keeps = (tt, tt);
      }

  by_good : (n m : ℕ) (x : Node) → slice_get q.nodes n ≡ Some x → n ≡ m → x.owner < length q.threads → Good m x.owner →
      NodeFits q x × NodeStands q n x × KeepsBoth q x.step
  by_good n m x there same within good =
      let is : x ≡ node x.owner good.taken = same_Some x (node x.owner good.taken) (sym there ∙ ap (slice_get q.nodes) same ∙ good.has.is) in
      let steps : good.taken ≡ x.step = sym (ap (λ y. y.step) is) in (
        record { owner = within; fits = subst (StepFits q) steps good.fits },
        record {
          stays = subst (StepStays q x.owner) steps good.stays;
          belongs = subst (λ n. BelongsToOne q n x.step) (sym same) (subst (BelongsToOne q m) steps good.belongs);
        },
        subst (KeepsBoth q) steps good.keeps,
      )

  node_good : (n : ℕ) (x : Node) → slice_get q.nodes n ≡ Some x → NodeFrom root n x → NodeFits q x × NodeStands q n x × KeepsBoth q x.step
  node_good n x there (at_statement todo place is same) = by_good n (number (Some todo)) x there same (thread_at_place x.owner todo place)
      (good_first x.owner todo place is)
  node_good n x there (at_depth m rest place same) = by_good n (suc m) x there same (thread_at_place x.owner (Pause m rest) place)
      (good_depth x.owner m rest place)
  node_good n x there (at_join m branches rest place same) = by_good n (suc m) x there same (thread_at_place x.owner (Fork m branches rest) place)
      (good_join x.owner m branches rest place)

  pub each_node_good : (n : ℕ) (x : Node) → slice_get q.nodes n ≡ Some x → NodeFits q x × NodeStands q n x × KeepsBoth q x.step
  each_node_good n x there = node_good n x there (node_fact (NodeFrom root) (node_sources root) n x there)
