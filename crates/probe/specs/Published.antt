-- What is shown of a publisher's ticks, and what is known of that at the seats from which it is looked at.
use Rattle.std.specs.Prelude.{ℕ, ◌≡◌, ◌⊎◌, Option, Some, None, List, slice_set}
use mathlib.Core.Option.{some}
use lib.ListN.{get_elem?}
use Rattle.probe.specs.Progress.{Progress, Extends}

-- what a seat knows is a beginning of what is shown
abbrev pub Fits : Progress → Option Progress → Type 0
Fits shown None = Unit {0}
Fits shown (Some p) = Extends p shown

-- so it is with every seat: the rule that each step at what is shown keeps
abbrev pub AllFit : Progress → List (Option Progress) → Type 0
AllFit shown seats = (number : ℕ) (v : Option Progress) → get_elem? seats number ≡ some v → Fits shown v

-- one step of a publisher, at whose seat v was known: under the rule x was shown before it, and after it y, which is known at
-- its seat from then on
pub record Shows (v : Option Progress) (x y : Progress) (w : Option Progress) : Type 0 where
  pub seats : List (Option Progress)
  pub number : ℕ
  pub among : get_elem? seats number ≡ some v
  pub before : AllFit x seats
  pub after : AllFit y (slice_set seats number w)
  pub knows : w ≡ Some y

-- one step of an observer, at whose seat v was known: under the rule x was shown before it and is still shown, which extends
-- v, and is known at its seat from then on
pub record Sees (v : Option Progress) (x y : Progress) (w : Option Progress) : Type 0 where
  pub seats : List (Option Progress)
  pub number : ℕ
  pub among : get_elem? seats number ≡ some v
  pub before : AllFit x seats
  pub after : AllFit x (slice_set seats number w)
  pub fits : Fits x v
  pub same : y ≡ x
  pub knows : w ≡ Some x

-- what an observer's seat knows, its observer knows
abbrev pub Sits : Option Progress → Progress → Type 0
Sits None q = ⊥
Sits (Some p) q = Extends p q

-- an observer that knew p knows q after a look, which is all that was shown at one moment of it
pub record SeesAll (p q : Progress) : Type 0 where
  pub seat : Option Progress
  pub sits : Sits seat p
  pub sees : Sees seat q q (Some q)

-- it knows that, or what it knew, where it had learnt more than is shown or its publisher is gone
abbrev pub Looks : Progress → Progress → Type 0
Looks p q = (q ≡ p) ⊎ SeesAll p q
