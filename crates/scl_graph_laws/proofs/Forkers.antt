-- The fork of each thread, and its place among the branches there: one for each thread.
use Rattle.std.proofs.Common.{◌≡◌, ℕ, zero, suc, ◌+◌, Some, List, [], ◌∷◌, ◌++◌, length, slice_get, refl, sym, ap, ◌∙◌, length-append, arith}
use Rattle.std.proofs.lemmas.Option.{none-some, same_Some}
use Rattle.scl.specs.Block.{Block, End, Assign, Label, Goto, Pause, If, Fork, Branches, NoMore, Branch}
use Rattle.scl.specs.Labels.{before}
use Rattle.scl.specs.Places.{Place, whole, after_assign, after_label, after_goto, after_pause, in_first, in_second, after_if, after_fork, in_branch, IsBranch}
use Rattle.scl.specs.Places.{here, later, threads_of}
use Rattle.scl_graph_laws.proofs.Numbers.{thread_count, threads_among, IsNumbered, AreNumbered, own_nodes, lower_nodes, lower_among}
use Rattle.scl_graph_laws.proofs.Segments.{StandAt, stand_from, stand_first, stand_second}

abbrev mutual
  -- the forks of the threads below, each at the place of its thread
  pub forkers : Block → List (ℕ × ℕ)
  forkers (End n) = []
  forkers (Assign n x e rest) = forkers rest
  forkers (Label name rest) = forkers rest
  forkers (Goto g name rest) = forkers rest
  forkers (Pause n rest) = forkers rest
  forkers (If n e first second rest) = (forkers first ++ forkers second) ++ forkers rest
  forkers (Fork n branches rest) = forkers_among n 0 branches ++ forkers rest

  pub forkers_among : ℕ → ℕ → Branches → List (ℕ × ℕ)
  forkers_among n i NoMore = []
  forkers_among n i (Branch u body more) = (n, i) ∷ (forkers body ++ forkers_among n (suc i) more)

mutual
  forkers_length : (b : Block) → length (forkers b) ≡ thread_count b
  forkers_length (End n) = refl
  forkers_length (Assign n x e rest) = forkers_length rest
  forkers_length (Label name rest) = forkers_length rest
  forkers_length (Goto g name rest) = forkers_length rest
  forkers_length (Pause n rest) = forkers_length rest
  forkers_length (If n e first second rest) =
      let a : length (forkers first) ≡ thread_count first = forkers_length first in
      let b : length (forkers second) ≡ thread_count second = forkers_length second in
      let c : length (forkers rest) ≡ thread_count rest = forkers_length rest in
      let i : length ((forkers first ++ forkers second) ++ forkers rest) ≡ length (forkers first ++ forkers second) + length (forkers rest) = length-append
      (forkers first ++ forkers second) (forkers rest) in
      let j : length (forkers first ++ forkers second) ≡ length (forkers first) + length (forkers second) = length-append (forkers first) (forkers second) in
      omega (arith, a, b, c, i, j)
  forkers_length (Fork n branches rest) =
      let a : length (forkers_among n 0 branches) ≡ threads_among branches = forkers_among_length n 0 branches in
      let c : length (forkers rest) ≡ thread_count rest = forkers_length rest in
      let k : length (forkers_among n 0 branches ++ forkers rest) ≡ length (forkers_among n 0 branches) + length (forkers rest) = length-append
      (forkers_among n 0 branches) (forkers rest) in
      omega (arith, a, c, k)

  forkers_among_length : (n i : ℕ) (branches : Branches) → length (forkers_among n i branches) ≡ threads_among branches
  forkers_among_length n i NoMore = refl
  forkers_among_length n i (Branch u body more) =
      let a : length (forkers body) ≡ thread_count body = forkers_length body in
      let b : length (forkers_among n (suc i) more) ≡ threads_among more = forkers_among_length n (suc i) more in
      let k : length (forkers body ++ forkers_among n (suc i) more) ≡ length (forkers body) + length (forkers_among n (suc i) more) = length-append
      (forkers body) (forkers_among n (suc i) more) in
      omega (arith, a, b, k)

abbrev mutual
  -- each thread below has its fork at its place
  pub ForkedIn : List (ℕ × ℕ) → Block → Type 0
  ForkedIn all (End n) = Unit {0}
  ForkedIn all (Assign n x e rest) = ForkedIn all rest
  ForkedIn all (Label name rest) = ForkedIn all rest
  ForkedIn all (Goto g name rest) = ForkedIn all rest
  ForkedIn all (Pause n rest) = ForkedIn all rest
  ForkedIn all (If n e first second rest) = ForkedIn all first × ForkedIn all second × ForkedIn all rest
  ForkedIn all (Fork n branches rest) = ForkedBy all n 0 branches × ForkedIn all rest

  pub ForkedBy : List (ℕ × ℕ) → ℕ → ℕ → Branches → Type 0
  ForkedBy all n i NoMore = Unit {0}
  ForkedBy all n i (Branch u body more) = (slice_get all u ≡ Some (n, i)) × ForkedIn all body × ForkedBy all n (suc i) more

mutual
  pub forked_in : (all : List (ℕ × ℕ)) (b : Block) (n th base : ℕ) → IsNumbered b n th base → StandAt all th (forkers b) → ForkedIn all b
  forked_in all (End m) n th base num at = tt
  forked_in all (Assign m x e rest) n th base num at = forked_in all rest (suc n) th base num.1 at
  forked_in all (Label name rest) n th base num at = forked_in all rest n th base num at
  forked_in all (Goto g name rest) n th base num at = forked_in all rest n th base num at
  forked_in all (Pause m rest) n th base num at = forked_in all rest (suc (suc n)) th base num.1 at
  forked_in all (If m e first second rest) n th base num at =
      let a : List (ℕ × ℕ) = forkers first in
      let b : List (ℕ × ℕ) = forkers second in
      let i : length a ≡ thread_count first = forkers_length first in
      let j : length (a ++ b) ≡ length a + length b = length-append a b in
      let k : length b ≡ thread_count second = forkers_length second in (
        forked_in all first (suc n) th base num.1 (stand_first all th a b (stand_first all th (a ++ b) (forkers rest) at)),
        forked_in all second (suc n + own_nodes first) (th + thread_count first) (base + lower_nodes first) num.2
            (stand_from all (th + length a) (th + thread_count first) b (omega (arith, i))
            (stand_second all th a b (stand_first all th (a ++ b) (forkers rest) at))),
        forked_in all rest (suc n + (own_nodes first + own_nodes second)) (th + (thread_count first + thread_count second))
            (base + (lower_nodes first + lower_nodes second)) num.3
            (stand_from all (th + length (a ++ b)) (th + (thread_count first + thread_count second)) (forkers rest) (omega (arith, i, j, k))
            (stand_second all th (a ++ b) (forkers rest) at)),
      )
  forked_in all (Fork m branches rest) n th base num at =
      let i : length (forkers_among m 0 branches) ≡ threads_among branches = forkers_among_length m 0 branches in (
        forked_by all m 0 branches th base num.1 (stand_first all th (forkers_among m 0 branches) (forkers rest) at),
        forked_in all rest (suc (suc n)) (th + threads_among branches) (base + lower_among branches) num.2
            (stand_from all (th + length (forkers_among m 0 branches)) (th + threads_among branches) (forkers rest) (omega (arith, i))
            (stand_second all th (forkers_among m 0 branches) (forkers rest) at)),
      )

  forked_by : (all : List (ℕ × ℕ)) (n i : ℕ) (branches : Branches) (th base : ℕ) → AreNumbered branches th base → StandAt all th (forkers_among n i branches)
      → ForkedBy all n i branches
  forked_by all n i NoMore th base num at = tt
  forked_by all n i (Branch u body more) th base num at =
      let k : length (forkers body) ≡ thread_count body = forkers_length body in (
        ap (slice_get all) num.0 ∙ at.0,
        forked_in all body base (suc th) (base + suc (own_nodes body)) num.2 (stand_first all (suc th) (forkers body) (forkers_among n (suc i) more) at.1),
        forked_by all n (suc i) more (th + suc (thread_count body)) (base + suc (own_nodes body + lower_nodes body)) num.3
            (stand_from all (suc th + length (forkers body)) (th + suc (thread_count body)) (forkers_among n (suc i) more) (omega (arith, k))
            (stand_second all (suc th) (forkers body) (forkers_among n (suc i) more) at.1)),
      )

forked_before : (all : List (ℕ × ℕ)) (b k : Block) → ForkedIn all b → ForkedIn all k → ForkedIn all (before b k)
forked_before all (End n) k h i = i
forked_before all (Assign n x e rest) k h i = forked_before all rest k h i
forked_before all (Label name rest) k h i = forked_before all rest k h i
forked_before all (Goto g name rest) k h i = forked_before all rest k h i
forked_before all (Pause n rest) k h i = forked_before all rest k h i
forked_before all (If n e first second rest) k h i = (h.0, h.1, forked_before all rest k h.2 i)
forked_before all (Fork n branches rest) k h i = (h.0, forked_before all rest k h.1 i)

branch_forked : (all : List (ℕ × ℕ)) (n i : ℕ) (branches : Branches) (u : ℕ) (body : Block) → IsBranch branches u body → ForkedBy all n i branches
    → ForkedIn all body
branch_forked all n i branches u body (here t first more) h = h.1
branch_forked all n i branches u body (later t other more v last at) h = branch_forked all n (suc i) more v last at h.2

child_forked : (all : List (ℕ × ℕ)) (n i : ℕ) (branches : Branches) → ForkedBy all n i branches → (k u : ℕ) → slice_get (threads_of branches) k ≡ Some u
    → slice_get all u ≡ Some (n, i + k)
child_forked all n i NoMore h k u there = absurd (none-some u there)
child_forked all n i (Branch v body more) h zero u there = ap (slice_get all) (sym (same_Some v u there)) ∙ h.0 ∙ ap (λ m. Some (n, m)) (plus i)
  where
    plus : (i : ℕ) → i ≡ i + 0
    plus i = omega arith
child_forked all n i (Branch v body more) h (suc k) u there = child_forked all n (suc i) more h.2 k u there ∙ ap (λ m. Some (n, m)) (plus i k)
  where
    plus : (i k : ℕ) → suc i + k ≡ i + suc k
    plus i k = omega arith

module _ (all : List (ℕ × ℕ)) (root : Block) (in_root : ForkedIn all root) where
  forked_at : (t : ℕ) (todo : Block) → Place root t todo → ForkedIn all todo
  forked_at t todo whole = in_root
  forked_at t todo (after_assign s n x e rest place) = forked_at s (Assign n x e rest) place
  forked_at t todo (after_label s name rest place) = forked_at s (Label name rest) place
  forked_at t todo (after_goto s g name rest place) = forked_at s (Goto g name rest) place
  forked_at t todo (after_pause s n rest place) = forked_at s (Pause n rest) place
  forked_at t todo (in_first s n e a b rest place) = let h : ForkedIn all (If n e a b rest) = forked_at s (If n e a b rest) place in
      forked_before all a rest h.0 h.2
  forked_at t todo (in_second s n e a b rest place) = let h : ForkedIn all (If n e a b rest) = forked_at s (If n e a b rest) place in
      forked_before all b rest h.1 h.2
  forked_at t todo (after_if s n e a b rest place) = (forked_at s (If n e a b rest) place).2
  forked_at t todo (after_fork s n branches rest place) = (forked_at s (Fork n branches rest) place).1
  forked_at t todo (in_branch s n u branches body rest place at) = branch_forked all n 0 branches u body at (forked_at s (Fork n branches rest) place).0

  -- a thread that is a branch of a fork has that fork's node at its place, and which branch it is
  pub forker_of : (t n : ℕ) (branches : Branches) (rest : Block) → Place root t (Fork n branches rest) → (k u : ℕ) → slice_get (threads_of branches) k ≡ Some u
      → slice_get all u ≡ Some (n, 0 + k)
  forker_of t n branches rest place k u there = child_forked all n 0 branches (forked_at t (Fork n branches rest) place).0 k u there
