-- Spaces that are left to be put.
use Rattle.std.proofs.Common.{◌≡◌, ℕ, zero, suc, ◌+◌, ◌-◌, ◌<◌, ◌≤◌, List, [], ◌∷◌, ◌++◌, codes, refl, ap, ◌∙◌, arith}
use Rattle.image_listing.specs.Cells.{spaces}

one_more : (n m : ℕ) → n ≡ suc m → spaces n ≡ 32 ∷ spaces m
one_more n m e = ap spaces e

pub spaces_left : (count at : ℕ) → at < count → spaces (count - at) ≡ codes " " ++ spaces (count - (at + 1))
spaces_left count at within = one_more (count - at) (count - (at + 1)) (omega arith)

pub none_left : (count at : ℕ) → count ≤ at → spaces (count - at) ≡ []
none_left count at over = ap spaces (let e : count - at ≡ 0 = omega arith in e)
