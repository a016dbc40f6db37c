-- The program of a numbered text is its graph.
use Rattle.std.proofs.Common.{◌≡◌, ℕ, zero, suc, ◌+◌, Bool, true, false, nat_eq, eq-eqb, eqb-true, Option, Some, None, List, [], ◌∷◌, length, slice_get}
use Rattle.std.proofs.Common.{option_map, option_and_then, Contains, ⊎_elim, if◌then◌else◌, refl, sym, ap, subst, ◌∙◌, arith}
use Rattle.std.proofs.lemmas.Option.{none-some, same_Some}
use Rattle.sc_graph.specs.declared.program.Node.{Node}
use Rattle.sc_graph.specs.declared.program.Thread.{Thread}
use Rattle.sc_graph.specs.declared.program.Step.{Step}
use Rattle.sc_graph.specs.declared.program.Step.TheVariants as step
use Rattle.sc_graph.specs.Program.{Program, parent_of}
use Rattle.sc_graph.specs.Control.{joined_by, first_of, joined_among, joined_at}
use Rattle.scl.specs.Block.{Block, End, Assign, Label, Goto, Pause, If, Fork, Branches, NoMore, Branch}
use Rattle.scl.specs.Places.{Place, whole, IsBranch, here, later, IsChild, threads_of}
use Rattle.scl.specs.Numbering.{Numbered}
use Rattle.scl_graph.specs.declared.way.Way.{Way}
use Rattle.scl_graph.specs.declared.way.Way.TheVariants as goes
use Rattle.scl_graph.specs.Graph.{node, thread, own, end, of_thread, below, target, program_of}
use Rattle.scl_graph_laws.specs.Mirrors.{HasNode, HasFirst, ForkPlace, Mirrors}
use Rattle.tick_laws.proofs.Lists.{contains_none, contains_cons}
use Rattle.scl_graph_laws.proofs.Numbers.{own_nodes, thread_count, IsNumbered}
use Rattle.scl_graph_laws.proofs.Segments.{StandAt, stand_first, stand_second, stand_all, EachAt, each_from, each_append, each_at}
use Rattle.scl_graph_laws.proofs.Laying.{own_length, thread_length, forked_length, HasThread, LaidIn, laid_in}
use Rattle.scl_graph_laws.proofs.Ways.{before_end, body_leads}
use Rattle.scl_graph_laws.proofs.Reaching.{HasBranch, Laid, body_goes, laid_at}
use Rattle.scl_graph_laws.proofs.Spreading.{OfNodes, OfThreads, thread_each, below_each, forked_each}
use Rattle.scl_graph_laws.proofs.Coming.{ComesFromFork, Comes, HasParent, nodes_come, threads_come}

-- ---- the fork of a join

not_equal : (m n : ℕ) → (m ≡ n → ⊥) → nat_eq m n ≡ false
not_equal m n h = by (nat_eq m n) refl
  where
    by : (b : Bool) → nat_eq m n ≡ b → nat_eq m n ≡ false
    by true e = absurd (h (eqb-true m n e))
    by false e = e

-- no other fork has this join
other_join : (root : Block) (n j : ℕ) (x : Node) → Comes root n x → (suc n ≡ j → ⊥) → joined_by j x.step ≡ None
other_join root n j x comes differ = by x.step refl
  where
    by : (s : Step) → x.step ≡ s → joined_by j x.step ≡ None
    by (step.Fork children join) is =
        let from : ComesFromFork root n x children join = comes children join is in
        ap (joined_by j) is ∙ ap (λ b. if b then Some children else None) (not_equal join j (λ e. differ (sym from.next ∙ e)))
    by (step.Assign v code m) is = ap (joined_by j) is
    by (step.Update v f code m) is = ap (joined_by j) is
    by (step.Cond code m k) is = ap (joined_by j) is
    by (step.Join m) is = ap (joined_by j) is
    by (step.Surf m) is = ap (joined_by j) is
    by (step.Depth m) is = ap (joined_by j) is
    by step.Exit is = ap (joined_by j) is

own_join : (t j : ℕ) (children : List ℕ) (x : Node) → x ≡ node t (step.Fork children j) → joined_by j x.step ≡ Some children
own_join t j children x is = ap (λ x. joined_by j x.step) is ∙ ap (λ b. if b then Some children else None) (eq-eqb j j refl)

find_join : (root : Block) (nodes : List Node) (n i j t : ℕ) (children : List ℕ) → EachAt (Comes root) n nodes → j ≡ suc (n + i) → slice_get nodes i
    ≡ Some (node t (step.Fork children j)) → joined_among j nodes ≡ Some children
find_join root [] n i j t children each is there = absurd (none-some _ there)
find_join root (x ∷ nodes) n zero j t children each is there = ap (λ o. first_of o (joined_among j nodes)) (own_join t j children x (same_Some x _ there))
find_join root (x ∷ nodes) n (suc i) j t children each is there =
    ap (λ o. first_of o (joined_among j nodes)) (other_join root n j x each.0 (λ e. absurd (omega (arith, e, is))))
    ∙ find_join root nodes (suc n) i j t children each.1 (omega (arith, is)) there

-- ---- the branch of a thread

pub branch_of : (branches : Branches) (u : ℕ) → Contains (threads_of branches) u → (body : Block) × IsBranch branches u body
branch_of NoMore u h = absurd (contains_none u h)
branch_of (Branch t body more) u h =
    ⊎_elim
    (λ same. (body, subst (λ u. IsBranch (Branch t body more) u body) same (here t body more)))
    (λ tail. let rest : (b : Block) × IsBranch more u b = branch_of more u tail in (rest.0, later t body more u rest.0 rest.1))
    (contains_cons t u (threads_of more) h)

-- ---- the whole

-- the numbers of a whole text: its root is thread 0 and begins at node 0
pub record IsWhole (p : Numbered) : Type 0 where
  pub threads : p.threads ≡ suc (thread_count p.root)
  pub end : end p.root ≡ own_nodes p.root
  pub numbers : IsNumbered p.root 0 1 (suc (own_nodes p.root))

module _ (p : Numbered) (is_whole : IsWhole p) where
  abbrev q : Program
  q = program_of p

  abbrev root : Block
  root = p.root

  abbrev to : Way → ℕ
  to = target p.root

  nodes_stand : StandAt q.nodes 0 q.nodes
  nodes_stand = stand_all q.nodes

  root_stands : StandAt q.nodes 0 (of_thread to 0 root)
  root_stands = stand_first q.nodes 0 (of_thread to 0 root) (below to root) nodes_stand

  below_stand : StandAt q.nodes (suc (own_nodes root)) (below to root)
  below_stand =
      subst (λ n. StandAt q.nodes n (below to root)) (plus (thread_length to 0 root))
      (stand_second q.nodes 0 (of_thread to 0 root) (below to root) nodes_stand)
    where
      plus : length (of_thread to 0 root) ≡ suc (own_nodes root) → 0 + length (of_thread to 0 root) ≡ suc (own_nodes root)
      plus e = omega (arith, e)

  exit : HasNode q (end root) 0 step.Exit
  exit =
      let stands : StandAt q.nodes (0 + length (own to 0 root (goes.At (end root)))) (node 0 step.Exit ∷ []) = stand_second q.nodes 0
      (own to 0 root (goes.At (end root))) (node 0 step.Exit ∷ []) root_stands in
      record { is = ap (slice_get q.nodes) (plus (own_length to 0 root (goes.At (end root)))) ∙ stands.0 }
    where
      plus : length (own to 0 root (goes.At (end root))) ≡ own_nodes root → end root ≡ 0 + length (own to 0 root (goes.At (end root)))
      plus e = omega (arith, e, is_whole.end)

  laid : LaidIn q root 0 root (End (end root))
  laid = laid_in q root 0 root (End (end root)) (goes.At (end root)) 0 1 (suc (own_nodes root)) refl is_whole.numbers
      (stand_first q.nodes 0 (own to 0 root (goes.At (end root))) (node 0 step.Exit ∷ []) root_stands)
      (stand_all q.threads).1
      below_stand

  all_laid : (t : ℕ) (todo : Block) → Place root t todo → Laid q root t todo
  all_laid t todo place = laid_at q root (body_goes q root 0 root exit laid) t todo place

  -- ---- back from nodes and threads to places

  pub each_node : (P : ℕ → Node → Type 0) → OfNodes root P → EachAt P 0 q.nodes
  each_node P of =
      each_append P 0 (of_thread to 0 root) (below to root)
      (thread_each to root P of 0 root 0 1 (suc (own_nodes root)) (begins is_whole.end) is_whole.numbers whole)
      (each_from P (suc (own_nodes root)) (0 + length (of_thread to 0 root)) (below to root) (plus (thread_length to 0 root))
      (below_each to root P of 0 root (End (end root)) 0 1 (suc (own_nodes root)) is_whole.numbers (subst (Place root 0) (sym (before_end root)) whole)))
    where
      begins : end root ≡ own_nodes root → end root ≡ 0 + own_nodes root
      begins e = omega (arith, e)

      plus : length (of_thread to 0 root) ≡ suc (own_nodes root) → suc (own_nodes root) ≡ 0 + length (of_thread to 0 root)
      plus e = omega (arith, e)

  pub each_thread : (Q : ℕ → Thread → Type 0) → OfThreads root Q → Q 0 (thread to None root) → EachAt Q 0 q.threads
  each_thread Q of first = (
    first,
    forked_each to root Q of 0 root (End (end root)) 0 1 (suc (own_nodes root)) (omega arith) is_whole.numbers
        (subst (Place root 0) (sym (before_end root)) whole),
  )

  forks_come : EachAt (Comes root) 0 q.nodes
  forks_come = each_node (Comes root) (nodes_come root)

  parents_come : EachAt (HasParent root) 0 q.threads
  parents_come = each_thread (HasParent root) (threads_come root) (λ t h. absurd (none-some t h))

  joined : (n t : ℕ) (children : List ℕ) → HasNode q n t (step.Fork children (suc n)) → joined_at q (suc n) ≡ Some children
  joined n t children h = find_join root q.nodes 0 n (suc n) t children forks_come (ap suc (plus n)) h.is
    where
      plus : (n : ℕ) → n ≡ 0 + n
      plus n = omega arith

  first : (t : ℕ) (todo : Block) → Laid q root t todo → HasFirst q root t todo
  first t (End n) h = h
  first t (Assign n x e rest) h = h.0
  first t (Label name rest) h = tt
  first t (Goto g name rest) h = tt
  first t (Pause n rest) h = h.0
  first t (If n e a b rest) h = h.0
  first t (Fork n branches rest) h = record { nodes = h.0; joined = joined n t (threads_of branches) h.0.first }

  branch : (t n u : ℕ) (branches : Branches) (body rest : Block) → Place root t (Fork n branches rest) → IsBranch branches u body → HasThread q root t u body
  branch t n u branches body rest place at = let h : HasBranch q root t u body = (all_laid t (Fork n branches rest) place).1 u body at in h.thread

  parent : (u t : ℕ) → IsChild root u t → parent_of q u ≡ Some t
  parent u t child =
      let body : (b : Block) × IsBranch child.branches u b = branch_of child.branches u child.branch in
      ap (option_and_then (λ x. x.parent)) (branch t child.node u child.branches body.0 child.is_fork.rest child.is_fork.place body.1)

  child_at : (u t : ℕ) (o : Option Thread) → slice_get q.threads u ≡ o → option_and_then (λ x. x.parent) o ≡ Some t → IsChild root u t
  child_at u t None there h = absurd (none-some t h)
  child_at u t (Some x) there h = subst (λ u. IsChild root u t) (plus u) (each_at (HasParent root) 0 q.threads u x parents_come there t h).child
    where
      plus : (u : ℕ) → 0 + u ≡ u
      plus u = omega arith

  fork_at : (n t : ℕ) (children : List ℕ) (join : ℕ) (o : Option Node) → slice_get q.nodes n ≡ o → option_map (λ x. x.owner) o ≡ Some t
      → option_map (λ x. x.step) o ≡ Some (step.Fork children join) → ForkPlace root t children
  fork_at n t children join None there owner forks = absurd (none-some t owner)
  fork_at n t children join (Some x) there owner forks =
      let from : ComesFromFork root (0 + n) x children join = each_at (Comes root) 0 q.nodes n x forks_come there children join
      (same_Some x.step (step.Fork children join) forks) in
      subst (λ t. ForkPlace root t children) (same_Some x.owner t owner) from.place

  pub mirrors : Mirrors p q
  mirrors = record {
    variables = refl;
    threads = ap suc (forked_length to 0 root) ∙ sym is_whole.threads;
    root = ap Some (body_leads root root);
    nodes = λ t todo place. first t todo (all_laid t todo place);
    entries = λ t n u branches body rest place at. ap (option_map (λ x. x.entry)) (branch t n u branches body rest place at);
    parents = parent;
    children = λ u t h. child_at u t (slice_get q.threads u) refl h;
    forks = λ n t children join h. fork_at n t children join (slice_get q.nodes n) refl h.owned h.forks;
  }
