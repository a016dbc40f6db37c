-- Where points stand in a text, and rows of nodes that do what stands at their points.
use Rattle.std.proofs.Common.{◌≡◌, ℕ, zero, suc, Some, List, [], ◌∷◌, ◌++◌, length, slice_get, refl, ap, subst, ◌∙◌}
use Rattle.sc_graph.specs.declared.program.Node.{Node}
use Rattle.node_elements.specs.declared.graph.origin.NodeOrigin.{NodeOrigin}
use Rattle.node_elements.specs.Points.{Point}
use Rattle.node_elements.specs.GraphLaws.{IsDone}

-- the number behind these points, whose first one has number n
abbrev pub reach : List Point → ℕ → ℕ
reach [] n = n
reach (p ∷ points) n = reach points (suc n)

pub reach_append : (a b : List Point) (n : ℕ) → reach (a ++ b) n ≡ reach b (reach a n)
reach_append [] b n = refl
reach_append (p ∷ a) b n = reach_append a b (suc n)

-- these points stand in a text from number n on
abbrev pub StandAt : List Point → ℕ → List Point → Type 0
StandAt all n [] = Unit {0}
StandAt all n (p ∷ points) = (slice_get all n ≡ Some p) × StandAt all (suc n) points

pub stand_first : (all : List Point) (n : ℕ) (a b : List Point) → StandAt all n (a ++ b) → StandAt all n a
stand_first all n [] b h = tt
stand_first all n (p ∷ a) b h = (h.0, stand_first all (suc n) a b h.1)

pub stand_behind : (all : List Point) (n : ℕ) (a b : List Point) → StandAt all n (a ++ b) → StandAt all (reach a n) b
stand_behind all n [] b h = h
stand_behind all n (p ∷ a) b h = stand_behind all (suc n) a b h.1

stand_later : (p : Point) (all : List Point) (n : ℕ) (points : List Point) → StandAt all n points → StandAt (p ∷ all) (suc n) points
stand_later p all n [] h = tt
stand_later p all n (q ∷ points) h = (h.0, stand_later p all (suc n) points h.1)

pub stand_whole : (all : List Point) → StandAt all 0 all
stand_whole [] = tt
stand_whole (p ∷ all) = (refl, stand_later p all 0 all (stand_whole all))

-- each of these nodes does what stands at the point of its origin
abbrev pub AllDone : List Point → List NodeOrigin → List Node → Type 0
AllDone all [] [] = Unit {0}
AllDone all (o ∷ origins) (n ∷ nodes) = IsDone all o n.step × AllDone all origins nodes
AllDone all origins nodes = ⊥

pub done_append : (all : List Point) (a b : List NodeOrigin) (x y : List Node) → AllDone all a x → AllDone all b y → AllDone all (a ++ b) (x ++ y)
done_append all [] b [] y h i = i
done_append all [] b (n ∷ x) y h i = absurd h
done_append all (o ∷ a) b [] y h i = absurd h
done_append all (o ∷ a) b (n ∷ x) y h i = (h.0, done_append all a b x y h.1 i)

pub done_length : (all : List Point) (origins : List NodeOrigin) (nodes : List Node) → AllDone all origins nodes → length origins ≡ length nodes
done_length all [] [] h = refl
done_length all [] (n ∷ nodes) h = absurd h
done_length all (o ∷ origins) [] h = absurd h
done_length all (o ∷ origins) (n ∷ nodes) h = ap suc (done_length all origins nodes h.1)

pub done_at : (all : List Point) (origins : List NodeOrigin) (nodes : List Node) → AllDone all origins nodes → (k : ℕ) (o : NodeOrigin) (n : Node) →
    slice_get origins k ≡ Some o → slice_get nodes k ≡ Some n → IsDone all o n.step
done_at all [] [] h k o n i j = absurd (cc)
done_at all [] (m ∷ nodes) h k o n i j = absurd h
done_at all (p ∷ origins) [] h k o n i j = absurd h
done_at all (p ∷ origins) (m ∷ nodes) h zero o n i j = subst (λ q. IsDone all q n.step) (some i) (subst (λ q. IsDone all p q.step) (some j) h.0)
  where
    some : {A : Type 0} {x y : A} → Some x ≡ Some y → x ≡ y
    some e = cc
done_at all (p ∷ origins) (m ∷ nodes) h (suc k) o n i j = done_at all origins nodes h.1 k o n i j
