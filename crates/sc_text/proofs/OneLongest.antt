-- A text has one longest piece at its front.
use Rattle.std.proofs.Common.{◌≡◌, ℕ, List, [], ◌∷◌, ◌++◌, length, drop, refl, sym, ◌∙◌, ap, subst, ◌⊎◌, inl, inr}
use Rattle.std.proofs.lemmas.List.{append-nil}
use Rattle.std.proofs.Math.Seq.{drop-append_seam}
use Rattle.sc_text.specs.Pieces.{IsPiece, IsLongest}

-- one of two fronts of a text begins with the other
pub record Longer (p r q s : List ℕ) : Type 0 where
  pub more : List ℕ
  pub front : q ≡ p ++ more
  pub rest : r ≡ more ++ s

fronts : (p r q s : List ℕ) → p ++ r ≡ q ++ s → Longer p r q s ⊎ Longer q s p r
fronts [] r q s e = inl (record { more = q; front = refl; rest = e })
fronts (a ∷ p) r [] s e = inr (record { more = a ∷ p; front = refl; rest = sym e })
fronts (a ∷ p) r (b ∷ q) s e = go (fronts p r q s cc)
  where
    go : Longer p r q s ⊎ Longer q s p r → Longer (a ∷ p) r (b ∷ q) s ⊎ Longer (b ∷ q) s (a ∷ p) r
    go (inl l) = let f = l.front in inl (record { more = l.more; front = cc; rest = l.rest })
    go (inr l) = let f = l.front in inr (record { more = l.more; front = cc; rest = l.rest })

not_longer : (p r q s more : List ℕ) → q ≡ p ++ more → r ≡ more ++ s → IsLongest p r → IsPiece q → p ≡ q
not_longer p r q s [] front rest longest piece = sym (front ∙ append-nil p)
not_longer p r q s (c ∷ more) front rest longest piece =
    absurd (longest.longest (c ∷ more) s rest (λ none. cc) (subst IsPiece front piece))

pub one_longest : (p r q s : List ℕ) → p ++ r ≡ q ++ s → IsLongest p r → IsLongest q s → p ≡ q
one_longest p r q s e first second = go (fronts p r q s e)
  where
    go : Longer p r q s ⊎ Longer q s p r → p ≡ q
    go (inl l) = not_longer p r q s l.more l.front l.rest first second.is_piece
    go (inr l) = sym (not_longer q s p r l.more l.front l.rest second first.is_piece)

pub same_rest : (p r q s : List ℕ) → p ++ r ≡ q ++ s → p ≡ q → r ≡ s
same_rest p r q s e same =
    sym (drop-append_seam p r) ∙ ap (drop (length p)) (e ∙ ap (λ f. f ++ s) (sym same)) ∙ drop-append_seam p s
