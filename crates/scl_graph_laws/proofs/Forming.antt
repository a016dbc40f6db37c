-- The program of an SCL program keeps the size rule, the budget aside, and the structure rule, and each step those of codes.
use Rattle.std.proofs.Common.{◌≡◌, ℕ, zero, suc, ◌+◌, ◌≤◌, true, Some, None, map, length, take, slice_get, option_map, count_by}
use Rattle.std.proofs.Common.{Contains, refl, sym, ap, subst, ◌∙◌, length-append, arith}
use Rattle.std.proofs.lemmas.Option.{same_Some}
use Rattle.sc_graph.specs.declared.program.Variable.{Variable}
use Rattle.sc_graph.specs.declared.program.Node.{Node}
use Rattle.sc_graph.specs.declared.program.Thread.{Thread}
use Rattle.sc_graph.specs.declared.program.Step.{Step}
use Rattle.sc_graph.specs.declared.program.Step.TheVariants as step
use Rattle.sc_graph.specs.Limits.{ancestor_limit, output_limit, node_limit, thread_limit}
use Rattle.sc_graph.specs.Program.{Program, step_at, entry_of, is_target}
use Rattle.sc_graph.specs.Size.{is_output, CountsFit, VariableFits, ParentFits, ThreadFits, NodeFits}
use Rattle.sc_graph.specs.Structure.{ForksChild, NodeStands, IsForkedOnce, ThreadStands}
use Rattle.sc_graph.specs.Valid.{IsFormed}
use Rattle.sc_graph.proofs.Formed.{NodeAt, node_at}
use Rattle.sc_graph.proofs.Places.{fits_everywhere, stands_everywhere}
use Rattle.scl.specs.declared.program.Scl.{Scl}
use Rattle.scl.specs.Block.{Block, End, Fork, Branches}
use Rattle.scl.specs.Places.{Place, whole, in_branch, threads_of}
use Rattle.scl.specs.Numbering.{Piece, in_row, pieces_of, numbered}
use Rattle.scl.specs.Rules.{KeepsRules}
use Rattle.scl_graph.specs.declared.way.Way.TheVariants as goes
use Rattle.scl_graph.specs.Graph.{way, end, of_thread, below, target, program_of}
use Rattle.scl_graph.specs.Loops.{HasNoEmptyLoop}
use Rattle.scl_graph.specs.Answers.{FitsImage, counts_in}
use Rattle.scl_graph_laws.specs.Mirrors.{leads, HasFork, Mirrors}
use Rattle.scl_graph_laws.proofs.Targets.{step_is}
use Rattle.scl_graph_laws.proofs.Numbers.{RunsOn, own_nodes, lower_nodes, row_runs_on}
use Rattle.scl_graph_laws.proofs.Segments.{each_at}
use Rattle.scl_graph_laws.proofs.Laying.{thread_length, below_length}
use Rattle.scl_graph_laws.proofs.Spreading.{OfThreads}
use Rattle.scl_graph_laws.proofs.Coming.{branch_thread}
use Rattle.scl_graph_laws.proofs.Whole.{IsWhole, each_thread}
use Rattle.scl_graph_laws.proofs.Texts.{at_first, text_is_whole, all_run_on, program_mirrors}
use Rattle.scl_graph_laws.proofs.Contents.{Shallow}
use Rattle.scl_graph_laws.proofs.Gathering.{distinct_names}
use Rattle.scl_graph_laws.proofs.Levels.{few_ancestors}
use Rattle.scl_graph_laws.proofs.Coding.{KeepsBoth}
use Rattle.scl_graph_laws.proofs.Fitting.{differs_before, count_take, target_within}
use Rattle.scl_graph_laws.proofs.Fitting.{thread_sources, thread_parents, ThreadFrom, as_root, as_branch}
use Rattle.scl_graph_laws.proofs.NodesFormed as formed_nodes

module _ (p : Scl) (kept : KeepsRules p.name p.variables p.body) (no_loop : HasNoEmptyLoop (numbered p).root) (room : FitsImage (counts_in p)) where
  abbrev q : Program
  q = program_of (numbered p)

  abbrev root : Block
  root = (numbered p).root

  abbrev made : Piece
  made = in_row (pieces_of p.body)

  abbrev last : Block
  last = End (0 + made.counts.nodes)

  runs_on : RunsOn made
  runs_on = row_runs_on (pieces_of p.body) (all_run_on p.body)

  is_whole : IsWhole (numbered p)
  is_whole = text_is_whole p.variables made runs_on

  mirror : Mirrors (numbered p) q
  mirror = program_mirrors p

  abbrev shallow_root : Shallow ancestor_limit root
  shallow_root = formed_nodes.shallow_root p kept no_loop

  abbrev leads_target : (t : ℕ) (todo : Block) → Place root t todo → is_target q t (leads root todo) ≡ true
  leads_target = formed_nodes.leads_target p kept no_loop

  abbrev fork_alone : (t n u : ℕ) (branches : Branches) (rest : Block) → Place root t (Fork n branches rest) → Contains (threads_of branches) u → (m : ℕ)
      → ForksChild q u m → m ≡ n
  fork_alone = formed_nodes.fork_alone p kept no_loop

  abbrev each_node_good : (n : ℕ) (x : Node) → slice_get q.nodes n ≡ Some x → NodeFits q x × NodeStands q n x × KeepsBoth q x.step
  each_node_good = formed_nodes.each_node_good p kept no_loop

  -- ---- each thread
  thread_fact : (Q : ℕ → Thread → Type 0) → OfThreads root Q → Q 0 (record { parent = None; entry = target root (way root (goes.At (end root))) })
      → (t : ℕ) (x : Thread) → slice_get q.threads t ≡ Some x → Q t x
  thread_fact Q of first t x h = subst (λ m. Q m x) (plus t) (each_at Q 0 q.threads t x (each_thread (numbered p) is_whole Q of first) h)
    where
      plus : (n : ℕ) → 0 + n ≡ n
      plus n = omega arith

  -- where it begins
  record Begins (t : ℕ) : Type 0 where
    body : Block
    place : Place root t body
    entry : entry_of q t ≡ Some (leads root body)

  begins : (t : ℕ) → ThreadFrom root t → Begins t
  begins t (as_root is) = record { body = root; place = subst (λ t. Place root t root) (sym is) whole; entry = ap (entry_of q) is ∙ mirror.root }
  begins t (as_branch s n branches body rest place at) = record {
    body = body;
    place = in_branch s n t branches body rest place at;
    entry = mirror.entries s n t branches body rest place at;
  }

  forked_by_one : (t : ℕ) → ThreadFrom root t → IsForkedOnce q t
  forked_by_one zero from = tt
  forked_by_one (suc t) (as_root is) = absurd (cc)
  forked_by_one (suc t) (as_branch s n branches body rest place at) =
      let has : HasFork q n s (threads_of branches) (leads root rest) = mirror.nodes s (Fork n branches rest) place in
      let here : Contains (threads_of branches) (suc t) = branch_thread branches (suc t) body at in
      record {
        one = n;
        is = record {
          children = threads_of branches;
          join = suc n;
          forks = step_is q n s (step.Fork (threads_of branches) (suc n)) has.nodes.first;
          child = here;
        };
        alone = λ m h. fork_alone s n (suc t) branches rest place here m h;
      }

  each_thread_good : (t : ℕ) (x : Thread) → slice_get q.threads t ≡ Some x → ThreadFits q t x × ThreadStands q t x
  each_thread_good t x there =
      let from : ThreadFrom root t = thread_fact (λ u x. ThreadFrom root u) (thread_sources root) (as_root refl) t x there in
      let at : Begins t = begins t from in
      let entry : leads root at.body ≡ x.entry = same_Some (leads root at.body) x.entry (sym at.entry ∙ ap (option_map (λ x. x.entry)) there) in
      let is_entry : is_target q t x.entry ≡ true = subst (λ n. is_target q t n ≡ true) entry (leads_target t at.body at.place) in (
        record {
          parent = thread_fact (λ u x. ParentFits u x.parent) (thread_parents root) refl t x there;
          ancestors = few_ancestors (numbered p) q mirror refl ancestor_limit shallow_root t at.body at.place (ancestor_limit + 1) (omega arith);
          entry = (target_within q t x.entry is_entry).0;
        },
        record { entry = is_entry; forked = forked_by_one t from },
      )

  -- ---- the whole
  counts_fit : CountsFit q
  counts_fit =
      let own : own_nodes root ≡ made.counts.nodes + 0 = runs_on.own (at_first made) last in
      let lower : lower_nodes root ≡ made.counts.lower + 0 = runs_on.lower (at_first made) last in
      let first : length (of_thread (target root) 0 root) ≡ suc (own_nodes root) = thread_length (target root) 0 root in
      let second : length (below (target root) root) ≡ lower_nodes root = below_length (target root) root in
      let both : length q.nodes ≡ length (of_thread (target root) 0 root) + length (below (target root) root) = length-append (of_thread (target root) 0 root)
      (below (target root) root) in
      let threads_are : length q.threads ≡ suc made.counts.threads = mirror.threads in
      let few_nodes : suc made.counts.nodes + made.counts.lower ≤ node_limit = room.nodes in
      let few_threads : suc made.counts.threads ≤ thread_limit = room.threads in
      record {
        variables = kept.declared.count;
        some_thread = omega (arith, threads_are);
        threads = omega (arith, threads_are, few_threads);
        some_node = omega (arith, both, first);
        nodes = omega (arith, both, first, second, own, lower, few_nodes);
      }

  variable_good : (x : ℕ) (a : Variable) → slice_get q.variables x ≡ Some a → VariableFits q x a
  variable_good x a there = record {
    new_name = λ y b lt other. differs_before p.variables (distinct_names (map (λ x. x.name) p.variables) kept.declared.distinct) y x a b lt there other;
    outputs = λ is.
        let few : count_by (λ b. is_output b.role) (take (x + 1) p.variables) ≤ count_by (λ b. is_output b.role) p.variables = count_take
        (λ b. is_output b.role) p.variables (x + 1) in
        let all : count_by (λ b. is_output b.role) p.variables ≤ output_limit = kept.declared.outputs in
        omega (arith, few, all);
  }

  pub program_is_formed : IsFormed q
  program_is_formed = record {
    size = fits_everywhere q counts_fit variable_good (λ t x there. (each_thread_good t x there).0) (λ n x there. (each_node_good n x there).0);
    structure = stands_everywhere q (λ t x there. (each_thread_good t x there).1) (λ n x there. (each_node_good n x there).1);
  }

  pub step_keeps : (n : ℕ) (s : Step) → step_at q n ≡ Some s → KeepsBoth q s
  step_keeps n s h =
      let at : NodeAt q n s = node_at q n s h in
      subst (KeepsBoth q) at.is (each_node_good n at.node at.there).2
