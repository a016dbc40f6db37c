-- What holds of each statement's nodes at its place holds of each node of a numbered text, with its number; and so for
-- the threads that are forked.
use Rattle.std.proofs.Common.{◌≡◌, ℕ, suc, ◌+◌, ◌<◌, Some, List, [], ◌∷◌, ◌++◌, length, sym, subst, length-append, arith}
use Rattle.sc_values.specs.declared.expression.Expr.{Expr}
use Rattle.sc_values.specs.Expr.{postorder}
use Rattle.sc_values.specs.Assignment.{assignment_of}
use Rattle.sc_graph.specs.declared.program.Node.{Node}
use Rattle.sc_graph.specs.declared.program.Thread.{Thread}
use Rattle.sc_graph.specs.declared.program.Step.TheVariants as step
use Rattle.scl.specs.Block.{Block, End, Assign, Label, Goto, Pause, If, Fork, Branches, NoMore, Branch}
use Rattle.scl.specs.Labels.{before}
use Rattle.scl.specs.Places.{Place, after_assign, after_label, after_goto, after_pause, in_first, in_second, after_if, after_fork, in_branch, IsBranch, here}
use Rattle.scl.specs.Places.{later, threads_of}
use Rattle.scl_graph.specs.declared.way.Way.{Way}
use Rattle.scl_graph.specs.declared.way.Way.TheVariants as goes
use Rattle.scl_graph.specs.Graph.{way, node, assigns, own, end, of_thread, below, among, forked, forked_among}
use Rattle.scl_graph_laws.proofs.Numbers.{own_nodes, thread_count, threads_among, lower_nodes, lower_among, IsNumbered, AreNumbered}
use Rattle.scl_graph_laws.proofs.Segments.{EachAt, each_from, each_append}
use Rattle.scl_graph_laws.proofs.Laying.{own_length, thread_length, below_length, among_length, forked_length, forked_among_length}
use Rattle.scl_graph_laws.proofs.Ways.{before_end}

-- what holds of the nodes of a statement at its place, wherever they go on
pub record OfNodes (root : Block) (P : ℕ → Node → Type 0) : Type 0 where
  pub assign : (t n x : ℕ) (e : Expr) (rest : Block) (next : ℕ) → Place root t (Assign n x e rest) → P n (node t (assigns x (assignment_of x e) next))
  pub pause : (t n : ℕ) (rest : Block) → Place root t (Pause n rest) → P n (node t (step.Surf (suc n)))
  pub depth : (t n : ℕ) (rest : Block) (next : ℕ) → Place root t (Pause n rest) → P (suc n) (node t (step.Depth next))
  pub test : (t n : ℕ) (e : Expr) (a b rest : Block) (l r : ℕ) → Place root t (If n e a b rest) → P n (node t (step.Cond (postorder e) l r))
  pub fork : (t n : ℕ) (branches : Branches) (rest : Block) → Place root t (Fork n branches rest) → P n (node t (step.Fork (threads_of branches) (suc n)))
  pub join : (t n : ℕ) (branches : Branches) (rest : Block) (next : ℕ) → Place root t (Fork n branches rest) → P (suc n) (node t (step.Join next))
  pub exit : (t n : ℕ) → Place root t (End n) → P n (node t step.Exit)

-- what holds of the thread of a branch of a fork, wherever it begins
pub record OfThreads (root : Block) (Q : ℕ → Thread → Type 0) : Type 0 where
  pub child : (t n u : ℕ) (branches : Branches) (body rest : Block) (entry : ℕ) → Place root t (Fork n branches rest) → IsBranch branches u body → t < u
      → Q u (record { parent = Some t; entry = entry })

-- the end of a thread's text is a place of it
pub end_place : (root : Block) (t : ℕ) (b : Block) → Place root t b → Place root t (End (end b))
end_place root t (End n) place = place
end_place root t (Assign n x e rest) place = end_place root t rest (after_assign t n x e rest place)
end_place root t (Label name rest) place = end_place root t rest (after_label t name rest place)
end_place root t (Goto g name rest) place = end_place root t rest (after_goto t g name rest place)
end_place root t (Pause n rest) place = end_place root t rest (after_pause t n rest place)
end_place root t (If n e a b rest) place = end_place root t rest (after_if t n e a b rest place)
end_place root t (Fork n branches rest) place = end_place root t rest (after_fork t n branches rest place)

-- of parts in a row
three : {X : Type 0} (P : ℕ → X → Type 0) (n l m : ℕ) (a b c : List X) → length a ≡ l → length b ≡ m → EachAt P n a → EachAt P (n + l) b
    → EachAt P (n + (l + m)) c → EachAt P n ((a ++ b) ++ c)
three P n l m a b c i j h k r =
    let f : EachAt P n (a ++ b) = each_append P n a b h (subst (λ l. EachAt P (n + l) b) (sym i) k) in
    each_append P n (a ++ b) c f (each_from P (n + (l + m)) (n + length (a ++ b)) c (sum (length-append a b)) r)
  where
    sum : length (a ++ b) ≡ length a + length b → n + (l + m) ≡ n + length (a ++ b)
    sum e = omega (arith, e, i, j)

two : {X : Type 0} (P : ℕ → X → Type 0) (n l : ℕ) (a b : List X) → length a ≡ l → EachAt P n a → EachAt P (n + l) b → EachAt P n (a ++ b)
two P n l a b i h k = each_append P n a b h (subst (λ l. EachAt P (n + l) b) (sym i) k)

module _ (to : Way → ℕ) (root : Block) where
  module _ (P : ℕ → Node → Type 0) (of : OfNodes root P) where
    at : (n m : ℕ) (x : Node) → m ≡ n → P m x → P n x
    at n m x is h = subst (λ n. P n x) is h

    at_next : (n m : ℕ) (x : Node) → m ≡ n → P (suc m) x → P (suc n) x
    at_next n m x is h = subst (λ n. P (suc n) x) is h

    own_each : (t : ℕ) (b k : Block) (behind : Way) (n th base : ℕ) → IsNumbered b n th base → Place root t (before b k) → EachAt P n (own to t b behind)
    own_each t (End m) k behind n th base num place = tt
    own_each t (Assign m x e rest) k behind n th base num place = (
      at n m (node t (assigns x (assignment_of x e) (to (way rest behind)))) num.0 (of.assign t m x e (before rest k) (to (way rest behind)) place),
      own_each t rest k behind (suc n) th base num.1 (after_assign t m x e (before rest k) place),
    )
    own_each t (Label name rest) k behind n th base num place = own_each t rest k behind n th base num (after_label t name (before rest k) place)
    own_each t (Goto g name rest) k behind n th base num place = own_each t rest k behind n th base num (after_goto t g name (before rest k) place)
    own_each t (Pause m rest) k behind n th base num place = (
      at n m (node t (step.Surf (suc m))) num.0 (of.pause t m (before rest k) place),
      (
        at_next n m (node t (step.Depth (to (way rest behind)))) num.0 (of.depth t m (before rest k) (to (way rest behind)) place),
        own_each t rest k behind (suc (suc n)) th base num.1 (after_pause t m (before rest k) place),
      ),
    )
    own_each t (If m e first second rest) k behind n th base num place =
        let inside : Way = way rest behind in (
          at n m (node t (step.Cond (postorder e) (to (way first inside)) (to (way second inside)))) num.0
              (of.test t m e first second (before rest k) (to (way first inside)) (to (way second inside)) place),
          three P (suc n) (own_nodes first) (own_nodes second) (own to t first inside) (own to t second inside) (own to t rest behind)
              (own_length to t first inside) (own_length to t second inside)
              (own_each t first (before rest k) inside (suc n) th base num.1 (in_first t m e first second (before rest k) place))
              (own_each t second (before rest k) inside (suc n + own_nodes first) (th + thread_count first) (base + lower_nodes first) num.2
              (in_second t m e first second (before rest k) place))
              (own_each t rest k behind (suc n + (own_nodes first + own_nodes second)) (th + (thread_count first + thread_count second))
              (base + (lower_nodes first + lower_nodes second)) num.3 (after_if t m e first second (before rest k) place)),
        )
    own_each t (Fork m branches rest) k behind n th base num place = (
      at n m (node t (step.Fork (threads_of branches) (suc m))) num.0 (of.fork t m branches (before rest k) place),
      (
        at_next n m (node t (step.Join (to (way rest behind)))) num.0 (of.join t m branches (before rest k) (to (way rest behind)) place),
        own_each t rest k behind (suc (suc n)) (th + threads_among branches) (base + lower_among branches) num.2
            (after_fork t m branches (before rest k) place),
      ),
    )

    -- a whole thread
    pub thread_each : (t : ℕ) (body : Block) (n th base : ℕ) → end body ≡ n + own_nodes body → IsNumbered body n th base → Place root t body
        → EachAt P n (of_thread to t body)
    thread_each t body n th base is num place =
        two P n (own_nodes body) (own to t body (goes.At (end body))) (node t step.Exit ∷ []) (own_length to t body (goes.At (end body)))
        (own_each t body (End (end body)) (goes.At (end body)) n th base num (subst (Place root t) (sym (before_end body)) place))
        (at (n + own_nodes body) (end body) (node t step.Exit) is (of.exit t (end body) (end_place root t body place)), tt)

    mutual
      pub below_each : (t : ℕ) (b k : Block) (n th base : ℕ) → IsNumbered b n th base → Place root t (before b k) → EachAt P base (below to b)
      below_each t (End m) k n th base num place = tt
      below_each t (Assign m x e rest) k n th base num place = below_each t rest k (suc n) th base num.1 (after_assign t m x e (before rest k) place)
      below_each t (Label name rest) k n th base num place = below_each t rest k n th base num (after_label t name (before rest k) place)
      below_each t (Goto g name rest) k n th base num place = below_each t rest k n th base num (after_goto t g name (before rest k) place)
      below_each t (Pause m rest) k n th base num place = below_each t rest k (suc (suc n)) th base num.1 (after_pause t m (before rest k) place)
      below_each t (If m e first second rest) k n th base num place =
          three P base (lower_nodes first) (lower_nodes second) (below to first) (below to second) (below to rest) (below_length to first)
          (below_length to second)
          (below_each t first (before rest k) (suc n) th base num.1 (in_first t m e first second (before rest k) place))
          (below_each t second (before rest k) (suc n + own_nodes first) (th + thread_count first) (base + lower_nodes first) num.2
          (in_second t m e first second (before rest k) place))
          (below_each t rest k (suc n + (own_nodes first + own_nodes second)) (th + (thread_count first + thread_count second))
          (base + (lower_nodes first + lower_nodes second)) num.3 (after_if t m e first second (before rest k) place))
      below_each t (Fork m branches rest) k n th base num place =
          two P base (lower_among branches) (among to branches) (below to rest) (among_length to branches)
          (among_each branches th base num.1 (λ u body at. in_branch t m u branches body (before rest k) place at))
          (below_each t rest k (suc (suc n)) (th + threads_among branches) (base + lower_among branches) num.2 (after_fork t m branches (before rest k) place))

      among_each : (branches : Branches) (th base : ℕ) → AreNumbered branches th base → ((u : ℕ) (body : Block) → IsBranch branches u body → Place root u body)
          → EachAt P base (among to branches)
      among_each NoMore th base num each = tt
      among_each (Branch u body more) th base num each =
          let place : Place root u body = each u body (here u body more) in
          three P base (suc (own_nodes body)) (lower_nodes body) (of_thread to u body) (below to body) (among to more) (thread_length to u body)
          (below_length to body)
          (thread_each u body base (suc th) (base + suc (own_nodes body)) num.1 num.2 place)
          (below_each u body (End (end body)) base (suc th) (base + suc (own_nodes body)) num.2 (subst (Place root u) (sym (before_end body)) place))
          (each_from P (base + suc (own_nodes body + lower_nodes body)) (base + (suc (own_nodes body) + lower_nodes body)) (among to more) (omega arith)
          (among_each more (th + suc (thread_count body)) (base + suc (own_nodes body + lower_nodes body)) num.3
          (λ v b at. each v b (later u body more v b at))))

  module _ (Q : ℕ → Thread → Type 0) (of : OfThreads root Q) where
    mutual
      pub forked_each : (t : ℕ) (b k : Block) (n th base : ℕ) → t < th → IsNumbered b n th base → Place root t (before b k) → EachAt Q th (forked to t b)
      forked_each t (End m) k n th base lt num place = tt
      forked_each t (Assign m x e rest) k n th base lt num place = forked_each t rest k (suc n) th base lt num.1 (after_assign t m x e (before rest k) place)
      forked_each t (Label name rest) k n th base lt num place = forked_each t rest k n th base lt num (after_label t name (before rest k) place)
      forked_each t (Goto g name rest) k n th base lt num place = forked_each t rest k n th base lt num (after_goto t g name (before rest k) place)
      forked_each t (Pause m rest) k n th base lt num place = forked_each t rest k (suc (suc n)) th base lt num.1 (after_pause t m (before rest k) place)
      forked_each t (If m e first second rest) k n th base lt num place =
          three Q th (thread_count first) (thread_count second) (forked to t first) (forked to t second) (forked to t rest) (forked_length to t first)
          (forked_length to t second)
          (forked_each t first (before rest k) (suc n) th base lt num.1 (in_first t m e first second (before rest k) place))
          (forked_each t second (before rest k) (suc n + own_nodes first) (th + thread_count first) (base + lower_nodes first) (omega (arith, lt)) num.2
          (in_second t m e first second (before rest k) place))
          (forked_each t rest k (suc n + (own_nodes first + own_nodes second)) (th + (thread_count first + thread_count second))
          (base + (lower_nodes first + lower_nodes second)) (omega (arith, lt)) num.3 (after_if t m e first second (before rest k) place))
      forked_each t (Fork m branches rest) k n th base lt num place =
          two Q th (threads_among branches) (forked_among to t branches) (forked to t rest) (forked_among_length to t branches)
          (children_each t m branches (before rest k) place branches th base lt num.1 (λ u body at. at))
          (forked_each t rest k (suc (suc n)) (th + threads_among branches) (base + lower_among branches) (omega (arith, lt)) num.2
          (after_fork t m branches (before rest k) place))

      -- some of the branches of a fork
      children_each : (t m : ℕ) (all : Branches) (rest : Block) → Place root t (Fork m all rest) → (branches : Branches) (th base : ℕ) → t < th
          → AreNumbered branches th base → ((u : ℕ) (body : Block) → IsBranch branches u body → IsBranch all u body) → EachAt Q th (forked_among to t branches)
      children_each t m all rest place NoMore th base lt num each = tt
      children_each t m all rest place (Branch u body more) th base lt num each =
          let at : IsBranch all u body = each u body (here u body more) in
          let inner : Place root u (before body (End (end body))) = subst (Place root u) (sym (before_end body)) (in_branch t m u all body rest place at) in (
            subst (λ v. Q v (record { parent = Some t; entry = to (way body (goes.At (end body))) })) num.0
                (of.child t m u all body rest (to (way body (goes.At (end body)))) place at (subst (λ v. t < v) (sym num.0) lt)),
            two Q (suc th) (thread_count body) (forked to u body) (forked_among to t more) (forked_length to u body)
                (forked_each u body (End (end body)) base (suc th) (base + suc (own_nodes body)) (subst (λ v. u < suc v) num.0 (omega arith)) num.2 inner)
                (each_from Q (th + suc (thread_count body)) (suc th + thread_count body) (forked_among to t more) (omega arith)
                (children_each t m all rest place more (th + suc (thread_count body)) (base + suc (own_nodes body + lower_nodes body)) (omega (arith, lt)) num.3
                (λ v b i. each v b (later u body more v b i)))),
          )
