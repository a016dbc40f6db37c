-- The first of some flaws.
use Rattle.std.specs.Prelude.{ℕ, ◌≡◌, nat_lt, nat_eq, Bool, false, ◌&&◌, ◌||◌, Option, Some, None, List, [], ◌∷◌, if◌then◌else◌, slice_get}
use Rattle.sc_text.specs.FaultText.{broken_number}
use Rattle.sc_text.specs.declared.drafts.flaw.Flaw.{Flaw}

-- it stands before the other, or at the same place with a smaller number
abbrev pub comes_before : Flaw → Flaw → Bool
comes_before f g = nat_lt f.at g.at || (nat_eq f.at g.at && nat_lt (broken_number f.broken) (broken_number g.broken))

-- it is one of the flaws, and none of them comes before it
pub record IsFirst (flaws : List Flaw) (f : Flaw) : Type 0 where
  pub index : ℕ
  pub stands : slice_get flaws index ≡ Some f
  pub first : (i : ℕ) (g : Flaw) → slice_get flaws i ≡ Some g → comes_before g f ≡ false

-- the first of a flaw and of one found before it
abbrev pub earlier : Option Flaw → Flaw → Flaw
earlier None g = g
earlier (Some f) g = if comes_before g f then g else f

-- the first of these, and of the one found before them
abbrev pub first_behind : Option Flaw → List Flaw → Option Flaw
first_behind found [] = found
first_behind found (f ∷ flaws) = first_behind (Some (earlier found f)) flaws
