-- A text's nodes stand at their numbers, and its threads at theirs.
use Rattle.std.proofs.Common.{◌≡◌, ℕ, suc, ◌+◌, Some, List, [], ◌∷◌, ◌++◌, length, slice_get, refl, ap, subst, ◌∙◌, length-append, arith}
use Rattle.sc_values.specs.Expr.{postorder}
use Rattle.sc_values.specs.Assignment.{assignment_of}
use Rattle.sc_graph.specs.declared.program.Node.{Node}
use Rattle.sc_graph.specs.declared.program.Thread.{Thread}
use Rattle.sc_graph.specs.declared.program.Step.TheVariants as step
use Rattle.sc_graph.specs.Program.{Program}
use Rattle.scl.specs.Block.{Block, End, Assign, Label, Goto, Pause, If, Fork, Branches, NoMore, Branch}
use Rattle.scl.specs.Labels.{before}
use Rattle.scl.specs.Places.{threads_of}
use Rattle.scl.proofs.Sums.{AreRelated, totals_related, totals_among_related}
use Rattle.scl_graph.specs.declared.way.Way.{Way}
use Rattle.scl_graph.specs.declared.way.Way.TheVariants as goes
use Rattle.scl_graph.specs.Graph.{way, node, assigns, own, end, of_thread, nodes_below, below, among, forked, forked_among, target}
use Rattle.scl_graph_laws.specs.Mirrors.{leads, HasNode, HasNodes}
use Rattle.scl_graph_laws.proofs.Numbers.{own_nodes, thread_count, threads_among, lower_nodes, nodes_counted, lower_among, IsNumbered, AreNumbered}
use Rattle.scl_graph_laws.proofs.Segments.{StandAt, stand_from, stand_first, stand_second}
use Rattle.scl_graph_laws.proofs.Ways.{way_leads, body_leads}

-- ---- how many they are

module _ (to : Way → ℕ) where
  pub own_length : (t : ℕ) (b : Block) (behind : Way) → length (own to t b behind) ≡ own_nodes b
  own_length t (End n) behind = refl
  own_length t (Assign n x e rest) behind = ap suc (own_length t rest behind)
  own_length t (Label name rest) behind = own_length t rest behind
  own_length t (Goto g name rest) behind = own_length t rest behind
  own_length t (Pause n rest) behind = ap (λ m. suc (suc m)) (own_length t rest behind)
  own_length t (If n e first second rest) behind =
      let a : List Node = own to t first (way rest behind) in
      let b : List Node = own to t second (way rest behind) in
      let c : List Node = own to t rest behind in
      let i : length ((a ++ b) ++ c) ≡ length (a ++ b) + length c = length-append (a ++ b) c in
      let j : length (a ++ b) ≡ length a + length b = length-append a b in
      omega (arith, i, j, own_length t first (way rest behind), own_length t second (way rest behind), own_length t rest behind)
  own_length t (Fork n branches rest) behind = ap (λ m. suc (suc m)) (own_length t rest behind)

  pub thread_length : (t : ℕ) (b : Block) → length (of_thread to t b) ≡ suc (own_nodes b)
  thread_length t b =
      let i : length (own to t b (goes.At (end b)) ++ node t step.Exit ∷ []) ≡ length (own to t b (goes.At (end b))) + 1 = length-append
      (own to t b (goes.At (end b))) (node t step.Exit ∷ []) in
      omega (arith, i, own_length t b (goes.At (end b)))

  of_two : (a b : List Node) (m n : ℕ) → length a ≡ m → length b ≡ n → length (a ++ b) ≡ m + n
  of_two a b m n h i = omega (arith, length-append a b, h, i)

  lengths_below : AreRelated (λ nodes n. length nodes ≡ n) (nodes_below to) nodes_counted
  lengths_below = record {
    nothing = refl;
    together = of_two;
    label = λ name nodes n h. h;
    fork = of_two;
    branch = λ t body nodes n. of_two (of_thread to t body) nodes (suc (own_nodes body)) n (thread_length t body);
  }

  pub below_length : (b : Block) → length (below to b) ≡ lower_nodes b
  below_length = totals_related (nodes_below to) nodes_counted lengths_below

  pub among_length : (branches : Branches) → length (among to branches) ≡ lower_among branches
  among_length = totals_among_related (nodes_below to) nodes_counted lengths_below

  of_three_threads : (a b c : List Thread) (l m n : ℕ) → length a ≡ l → length b ≡ m → length c ≡ n → length ((a ++ b) ++ c) ≡ (l + m) + n
  of_three_threads a b c l m n h i j =
      let x : length ((a ++ b) ++ c) ≡ length (a ++ b) + length c = length-append (a ++ b) c in
      let y : length (a ++ b) ≡ length a + length b = length-append a b in
      omega (arith, x, y, h, i, j)

  mutual
    pub forked_length : (t : ℕ) (b : Block) → length (forked to t b) ≡ thread_count b
    forked_length t (End n) = refl
    forked_length t (Assign n x e rest) = forked_length t rest
    forked_length t (Label name rest) = forked_length t rest
    forked_length t (Goto g name rest) = forked_length t rest
    forked_length t (Pause n rest) = forked_length t rest
    forked_length t (If n e first second rest) = of_three_threads (forked to t first) (forked to t second) (forked to t rest) (thread_count first)
        (thread_count second) (thread_count rest) (forked_length t first) (forked_length t second) (forked_length t rest)
    forked_length t (Fork n branches rest) =
        let i : length (forked_among to t branches ++ forked to t rest) ≡ length (forked_among to t branches) + length (forked to t rest) = length-append
        (forked_among to t branches) (forked to t rest) in
        let j : length (forked_among to t branches) ≡ threads_among branches = forked_among_length t branches in
        let k : length (forked to t rest) ≡ thread_count rest = forked_length t rest in
        omega (arith, i, j, k)

    pub forked_among_length : (t : ℕ) (branches : Branches) → length (forked_among to t branches) ≡ threads_among branches
    forked_among_length t NoMore = refl
    forked_among_length t (Branch u body more) =
        let i : length (forked to u body ++ forked_among to t more) ≡ length (forked to u body) + length (forked_among to t more) = length-append
        (forked to u body) (forked_among to t more) in
        let j : length (forked to u body) ≡ thread_count body = forked_length u body in
        let k : length (forked_among to t more) ≡ threads_among more = forked_among_length t more in
        omega (arith, i, j, k)

-- ---- where they stand

-- a thread stands at its number, forked by thread t
abbrev pub HasThread : Program → Block → ℕ → ℕ → Block → Type 0
HasThread q root t u body = slice_get q.threads u ≡ Some (record { parent = Some t; entry = leads root body })

abbrev mutual
  -- the nodes of a part of thread t's text stand at their numbers, and so do those of the threads that it forks. Behind
  -- it the thread goes on with k
  pub LaidIn : Program → Block → ℕ → Block → Block → Type 0
  LaidIn q root t (End n) k = Unit {0}
  LaidIn q root t (Assign n x e rest) k = HasNode q n t (assigns x (assignment_of x e) (leads root (before rest k))) × LaidIn q root t rest k
  LaidIn q root t (Label name rest) k = LaidIn q root t rest k
  LaidIn q root t (Goto g name rest) k = LaidIn q root t rest k
  LaidIn q root t (Pause n rest) k = HasNodes q n t (step.Surf (suc n)) (step.Depth (leads root (before rest k))) × LaidIn q root t rest k
  LaidIn q root t (If n e first second rest) k =
      HasNode q n t (step.Cond (postorder e) (leads root (before first (before rest k))) (leads root (before second (before rest k))))
      × LaidIn q root t first (before rest k) × LaidIn q root t second (before rest k) × LaidIn q root t rest k
  LaidIn q root t (Fork n branches rest) k =
      HasNodes q n t (step.Fork (threads_of branches) (suc n)) (step.Join (leads root (before rest k)))
      × LaidAmong q root t branches × LaidIn q root t rest k

  pub LaidAmong : Program → Block → ℕ → Branches → Type 0
  LaidAmong q root t NoMore = Unit {0}
  LaidAmong q root t (Branch u body more) =
      HasThread q root t u body × HasNode q (end body) u step.Exit × LaidIn q root u body (End (end body)) × LaidAmong q root t more

module _ (q : Program) (root : Block) where
  abbrev to : Way → ℕ
  to = target root

  -- of three parts in a row
  part_first : {X : Type 0} (all : List X) (n : ℕ) (a b c : List X) → StandAt all n ((a ++ b) ++ c) → StandAt all n a
  part_first all n a b c h = stand_first all n a b (stand_first all n (a ++ b) c h)

  part_second : {X : Type 0} (all : List X) (n l : ℕ) (a b c : List X) → length a ≡ l → StandAt all n ((a ++ b) ++ c) → StandAt all (n + l) b
  part_second all n l a b c e h = subst (λ l. StandAt all (n + l) b) e (stand_second all n a b (stand_first all n (a ++ b) c h))

  part_third : {X : Type 0} (all : List X) (n l m : ℕ) (a b c : List X) → length a ≡ l → length b ≡ m → StandAt all n ((a ++ b) ++ c)
      → StandAt all (n + (l + m)) c
  part_third all n l m a b c e f h =
      let both : length (a ++ b) ≡ length a + length b = length-append a b in
      subst (λ l. StandAt all (n + l) c) (sum both) (stand_second all n (a ++ b) c h)
    where
      sum : length (a ++ b) ≡ length a + length b → length (a ++ b) ≡ l + m
      sum both = omega (arith, both, e, f)

  part_after : {X : Type 0} (all : List X) (n l : ℕ) (a b : List X) → length a ≡ l → StandAt all n (a ++ b) → StandAt all (n + l) b
  part_after all n l a b e h = subst (λ l. StandAt all (n + l) b) e (stand_second all n a b h)

  mutual
    pub laid_in : (t : ℕ) (b k : Block) (behind : Way) (n th base : ℕ) → target root behind ≡ leads root k → IsNumbered b n th base →
        StandAt q.nodes n (own to t b behind) → StandAt q.threads th (forked to t b) → StandAt q.nodes base (below to b) → LaidIn q root t b k
    laid_in t (End m) k behind n th base w num own_at threads_at below_at = tt
    laid_in t (Assign m x e rest) k behind n th base w num own_at threads_at below_at = (
      record { is = ap (slice_get q.nodes) num.0 ∙ own_at.0 ∙ ap (λ r. Some (node t (assigns x (assignment_of x e) r))) (way_leads root rest k behind w) },
      laid_in t rest k behind (suc n) th base w num.1 own_at.1 threads_at below_at,
    )
    laid_in t (Label name rest) k behind n th base w num own_at threads_at below_at = laid_in t rest k behind n th base w num own_at threads_at below_at
    laid_in t (Goto g name rest) k behind n th base w num own_at threads_at below_at = laid_in t rest k behind n th base w num own_at threads_at below_at
    laid_in t (Pause m rest) k behind n th base w num own_at threads_at below_at = (
      record {
        first = record { is = ap (slice_get q.nodes) num.0 ∙ own_at.0 };
        second = record {
          is = ap (λ m. slice_get q.nodes (suc m)) num.0 ∙ own_at.1.0
              ∙ ap (λ r. Some (node t (step.Depth r))) (way_leads root rest k behind w);
        };
      },
      laid_in t rest k behind (suc (suc n)) th base w num.1 own_at.1.1 threads_at below_at,
    )
    laid_in t (If m e first second rest) k behind n th base w num own_at threads_at below_at =
        let inside : Way = way rest behind in
        let v : target root inside ≡ leads root (before rest k) = way_leads root rest k behind w in
        let a : List Node = own to t first inside in
        let b : List Node = own to t second inside in
        let c : List Node = own to t rest behind in (
          record {
            is = ap (slice_get q.nodes) num.0 ∙ own_at.0
                ∙ ap (λ r. Some (node t (step.Cond (postorder e) r (target root (way second inside))))) (way_leads root first (before rest k) inside v)
                ∙ ap (λ r. Some (node t (step.Cond (postorder e) (leads root (before first (before rest k))) r)))
                (way_leads root second (before rest k) inside v);
          },
          laid_in t first (before rest k) inside (suc n) th base v num.1
              (part_first q.nodes (suc n) a b c own_at.1)
              (part_first q.threads th (forked to t first) (forked to t second) (forked to t rest) threads_at)
              (part_first q.nodes base (below to first) (below to second) (below to rest) below_at),
          laid_in t second (before rest k) inside (suc n + own_nodes first) (th + thread_count first) (base + lower_nodes first) v num.2
              (part_second q.nodes (suc n) (own_nodes first) a b c (own_length to t first inside) own_at.1)
              (part_second q.threads th (thread_count first) (forked to t first) (forked to t second) (forked to t rest) (forked_length to t first) threads_at)
              (part_second q.nodes base (lower_nodes first) (below to first) (below to second) (below to rest) (below_length to first) below_at),
          laid_in t rest k behind (suc n + (own_nodes first + own_nodes second)) (th + (thread_count first + thread_count second))
              (base + (lower_nodes first + lower_nodes second)) w num.3
              (part_third q.nodes (suc n) (own_nodes first) (own_nodes second) a b c (own_length to t first inside) (own_length to t second inside) own_at.1)
              (part_third q.threads th (thread_count first) (thread_count second) (forked to t first) (forked to t second) (forked to t rest)
              (forked_length to t first) (forked_length to t second) threads_at)
              (part_third q.nodes base (lower_nodes first) (lower_nodes second) (below to first) (below to second) (below to rest) (below_length to first)
              (below_length to second) below_at),
        )
    laid_in t (Fork m branches rest) k behind n th base w num own_at threads_at below_at = (
      record {
        first = record { is = ap (slice_get q.nodes) num.0 ∙ own_at.0 };
        second = record {
          is = ap (λ m. slice_get q.nodes (suc m)) num.0 ∙ own_at.1.0
              ∙ ap (λ r. Some (node t (step.Join r))) (way_leads root rest k behind w);
        };
      },
      laid_among t branches th base num.1
          (stand_first q.threads th (forked_among to t branches) (forked to t rest) threads_at)
          (stand_first q.nodes base (among to branches) (below to rest) below_at),
      laid_in t rest k behind (suc (suc n)) (th + threads_among branches) (base + lower_among branches) w num.2 own_at.1.1
          (part_after q.threads th (threads_among branches) (forked_among to t branches) (forked to t rest) (forked_among_length to t branches) threads_at)
          (part_after q.nodes base (lower_among branches) (among to branches) (below to rest) (among_length to branches) below_at),
    )

    laid_among : (t : ℕ) (branches : Branches) (th base : ℕ) → AreNumbered branches th base →
        StandAt q.threads th (forked_among to t branches) → StandAt q.nodes base (among to branches) → LaidAmong q root t branches
    laid_among t NoMore th base num threads_at nodes_at = tt
    laid_among t (Branch u body more) th base num threads_at nodes_at =
        let a : List Node = of_thread to u body in
        let mine : List Node = own to u body (goes.At (end body)) in
        let whole : StandAt q.nodes base a = part_first q.nodes base a (below to body) (among to more) nodes_at in
        let exit : StandAt q.nodes (base + own_nodes body) (node u step.Exit ∷ []) = part_after q.nodes base (own_nodes body) mine (node u step.Exit ∷ [])
        (own_length to u body (goes.At (end body))) whole in (
          ap (slice_get q.threads) num.0 ∙ threads_at.0 ∙ ap (λ r. Some (record { parent = Some t; entry = r })) (body_leads root body),
          record { is = ap (slice_get q.nodes) num.1 ∙ exit.0 },
          laid_in u body (End (end body)) (goes.At (end body)) base (suc th) (base + suc (own_nodes body)) refl num.2
              (stand_first q.nodes base mine (node u step.Exit ∷ []) whole)
              (stand_first q.threads (suc th) (forked to u body) (forked_among to t more) threads_at.1)
              (part_second q.nodes base (suc (own_nodes body)) a (below to body) (among to more) (thread_length to u body) nodes_at),
          laid_among t more (th + suc (thread_count body)) (base + suc (own_nodes body + lower_nodes body)) num.3
              (stand_from q.threads (suc th + thread_count body) (th + suc (thread_count body)) (forked_among to t more) (omega arith)
              (part_after q.threads (suc th) (thread_count body) (forked to u body) (forked_among to t more) (forked_length to u body) threads_at.1))
              (stand_from q.nodes (base + (suc (own_nodes body) + lower_nodes body)) (base + suc (own_nodes body + lower_nodes body)) (among to more)
              (omega arith)
              (part_third q.nodes base (suc (own_nodes body)) (lower_nodes body) a (below to body) (among to more) (thread_length to u body)
              (below_length to body) nodes_at)),
        )
