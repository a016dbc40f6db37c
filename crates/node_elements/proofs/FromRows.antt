-- Rows of points that come from their origins.
use Rattle.std.proofs.Common.{◌≡◌, ℕ, zero, suc, Some, List, [], ◌∷◌, ◌++◌, length, slice_get, refl, ap, subst}
use Rattle.node_elements.specs.Points.{Point}
use Rattle.core_charts.specs.declared.elements.element.Element.{Element}
use Rattle.core_charts.specs.Elements.{Contents}
use Rattle.node_elements.specs.LoweringLaws.{IsFrom}

abbrev pub AllFrom : Contents → List Element → List Point → Type 0
AllFrom all [] [] = Unit {0}
AllFrom all (o ∷ origins) (p ∷ points) = IsFrom all o p × AllFrom all origins points
AllFrom all origins points = ⊥

pub from_append : (all : Contents) (a b : List Element) (x y : List Point) → AllFrom all a x → AllFrom all b y →
    AllFrom all (a ++ b) (x ++ y)
from_append all [] b [] y h i = i
from_append all [] b (p ∷ x) y h i = absurd h
from_append all (o ∷ a) b [] y h i = absurd h
from_append all (o ∷ a) b (p ∷ x) y h i = (h.0, from_append all a b x y h.1 i)

pub from_length : (all : Contents) (origins : List Element) (points : List Point) → AllFrom all origins points →
    length origins ≡ length points
from_length all [] [] h = refl
from_length all [] (p ∷ points) h = absurd h
from_length all (o ∷ origins) [] h = absurd h
from_length all (o ∷ origins) (p ∷ points) h = ap suc (from_length all origins points h.1)

pub from_at : (all : Contents) (origins : List Element) (points : List Point) → AllFrom all origins points →
    (k : ℕ) (o : Element) (p : Point) → slice_get origins k ≡ Some o → slice_get points k ≡ Some p → IsFrom all o p
from_at all [] [] h k o p i j = absurd (cc)
from_at all [] (q ∷ points) h k o p i j = absurd h
from_at all (n ∷ origins) [] h k o p i j = absurd h
from_at all (n ∷ origins) (q ∷ points) h zero o p i j = subst (λ o. IsFrom all o p) (some i) (subst (λ p. IsFrom all n p) (some j) h.0)
  where
    some : {A : Type 0} {x y : A} → Some x ≡ Some y → x ≡ y
    some e = cc
from_at all (n ∷ origins) (q ∷ points) h (suc k) o p i j = from_at all origins points h.1 k o p i j
