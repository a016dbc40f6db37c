-- Looking a thing up in a table of all of its kind, from the front.
use Rattle.std.proofs.Common.{◌≡◌, ℕ, suc, ◌+◌, ◌<◌, ◌≤◌, List, [], ◌∷◌, ◌⊎◌, length, get_or, drop, ⊎_elim, refl, sym, subst, ◌∙◌, drop-cons, add-one}
use Rattle.std.proofs.lemmas.List.{drop_all}
use Rattle.std.specs.Prelude.{true, false, nat_eq}
use Rattle.std.specs.Cmp.{unsigned_Decides}
use Rattle.std.specs.Cmp.Lexicographic.{pointwise}
use Rattle.std.proofs.lemmas.Slice.Eq.{slice_eq-Decides}

abbrev pub StandsIn : {X : Type 0} → X → List X → Type 0
StandsIn x [] = ⊥
StandsIn x (y ∷ ys) = (x ≡ y) ⊎ StandsIn x ys

-- what has the property stands in the table behind the first i
abbrev pub Left : {X : Type 0} → (X → Type 0) → List X → ℕ → Type 0
Left {X = X} P table i = (x : X) → P x → StandsIn x (drop i table)

pub left_next : {X : Type 0} (P : X → Type 0) (table : List X) (i : ℕ) (x d : X) → i < length table → x ≡ get_or table i d → ¬ P x → Left P table i
    → Left P table (i + 1)
left_next P table i x d within is unlike h y p =
    let parted : drop i table ≡ get_or table i d ∷ drop (suc i) table = drop-cons table i d within in
    ⊎_elim (λ same. absurd (unlike (subst P (same ∙ sym is) p))) (λ later. rw add-one later) (subst (StandsIn y) parted (h y p))

pub left_none : {X : Type 0} (P : X → Type 0) (table : List X) (i : ℕ) → length table ≤ i → Left P table i → (x : X) → ¬ P x
left_none P table i past h x p = subst (StandsIn x) (drop_all i table past) (h x p)

-- bytes that differ from those of x aren't how x is spelled
pub unequal : {X : Type 0} (text : X → List ℕ) (x : X) (bytes a b : List ℕ) → a ≡ text x → b ≡ a → false ≡ pointwise nat_eq bytes b → ¬ (bytes ≡ text x)
unequal text x bytes a b e f n h =
    let same : bytes ≡ b = h ∙ sym e ∙ sym f in
    let yes_equal : pointwise nat_eq bytes b ≡ true = (slice_eq-Decides unsigned_Decides bytes b (pointwise nat_eq bytes b) refl).1 same in
    absurd (cc)
