-- What holds of each phrase of a grammar, where something holds of each of its tokens.
use Rattle.std.proofs.Common.{ℕ, zero, suc, ◌≡◌, map, IsTrue, ⊎_elim, List, [], ◌∷◌, ◌++◌, Option, Some, None, sym, subst}
use Rattle.std.specs.List.{slice_get}
use Rattle.grammar.specs.Grammar.{Tokens, Grammar, One, Seq, Either, Maybe, Many, Made, Headed, Barred, is_in, each_spelled, spells}

-- it holds of each item
abbrev pub Every : {X : Type 0} → (X → Type 0) → List X → Type 0
Every P [] = Unit {0}
Every P (x ∷ xs) = P x × Every P xs

-- it holds of what is there
abbrev pub OfIt : {X : Type 0} → (X → Type 0) → Option X → Type 0
OfIt P None = Unit {0}
OfIt P (Some x) = P x

-- what each phrase means has P, where each of its tokens has Q
pub record Each {L : Tokens} {A : Type 0} (Q : L.Token → Type 0) (g : Grammar L A) (P : A → Type 0) : Type 0 where
  pub holds : (text : List L.Token) (x : A) → Every Q text → spells g text x → P x

module _ {X : Type 0} (P : X → Type 0) where
  pub every_front : (xs ys : List X) → Every P (xs ++ ys) → Every P xs
  every_front [] ys e = tt
  every_front (x ∷ xs) ys e = (e.0, every_front xs ys e.1)

  pub every_behind : (xs ys : List X) → Every P (xs ++ ys) → Every P ys
  every_behind [] ys e = e
  every_behind (x ∷ xs) ys e = every_behind xs ys e.1

  pub every_joined : (xs ys : List X) → Every P xs → Every P ys → Every P (xs ++ ys)
  every_joined [] ys e f = f
  every_joined (x ∷ xs) ys e f = (e.0, every_joined xs ys e.1 f)

  pub every_at : (xs : List X) → Every P xs → (n : ℕ) (x : X) → slice_get xs n ≡ Some x → P x
  every_at [] e n x s = absurd (cc)
  every_at (y ∷ xs) e zero x s =
      let same : y ≡ x = cc in
      subst P same e.0
  every_at (y ∷ xs) e (suc n) x s = every_at xs e.1 n x s

pub every_map : {X Y : Type 0} (P : Y → Type 0) (f : X → Y) (xs : List X) → Every (λ x. P (f x)) xs → Every P (map f xs)
every_map P f [] e = tt
every_map P f (x ∷ xs) e = (e.0, every_map P f xs e.1)

module _ {L : Tokens} {Q : L.Token → Type 0} where
  pub each_one : (classes : List L.Class) (P : L.Token → Type 0) → ((t : L.Token) → Q t → IsTrue (is_in L classes (L.class t)) → P t)
      → Each {L = L} Q (One classes) P
  each_one classes P step = record { holds = λ text x q s. step x (subst (Every Q) s.0 q).0 s.1 }

  pub each_seq : (A B : Type 0) (g : Grammar L A) (h : Grammar L B) (P : A → Type 0) (R : B → Type 0) → Each Q g P → Each Q h R
      → Each Q (Seq A B g h) (λ x. P x.0 × R x.1)
  each_seq A B g h P R a b =
      record {
        holds =
            λ text x q s. let both = subst (Every Q) s.2 q in
            (a.holds s.0 x.0 (every_front Q s.0 s.1 both) s.3, b.holds s.1 x.1 (every_behind Q s.0 s.1 both) s.4);
      }

  pub each_either : (A : Type 0) (g h : Grammar L A) (P : A → Type 0) → Each Q g P → Each Q h P → Each Q (Either A g h) P
  each_either A g h P a b = record { holds = λ text x q s. ⊎_elim (a.holds text x q) (b.holds text x q) s }

  maybe_holds : (A : Type 0) (g : Grammar L A) (P : A → Type 0) → Each Q g P → (text : List L.Token) (x : Option A) → Every Q text → spells (Maybe A g) text x
      → OfIt P x
  maybe_holds A g P a text None q s = tt
  maybe_holds A g P a text (Some x) q s = a.holds text x q s

  pub each_maybe : (A : Type 0) (g : Grammar L A) (P : A → Type 0) → Each Q g P → Each Q (Maybe A g) (OfIt P)
  each_maybe A g P a = record { holds = maybe_holds A g P a }

  many_holds : (A : Type 0) (g : Grammar L A) (P : A → Type 0) → Each Q g P → (text : List L.Token) (xs : List A) → Every Q text
      → each_spelled (spells g) text xs → Every P xs
  many_holds A g P a text [] q s = tt
  many_holds A g P a text (x ∷ xs) q s =
      let both = subst (Every Q) s.2 q in
      (a.holds s.0 x (every_front Q s.0 s.1 both) s.3, many_holds A g P a s.1 xs (every_behind Q s.0 s.1 both) s.4)

  pub each_many : (A : Type 0) (g : Grammar L A) (P : A → Type 0) → Each Q g P → Each Q (Many A g) (Every P)
  each_many A g P a = record { holds = many_holds A g P a }

  pub each_made : (A B : Type 0) (f : A → B) (g : Grammar L A) (P : A → Type 0) (R : B → Type 0) → Each Q g P → ((a : A) → P a → R (f a))
      → Each Q (Made A B f g) R
  each_made A B f g P R a step = record { holds = λ text x q s. subst R (sym s.1) (step s.0 (a.holds text s.0 q s.2)) }

  pub each_headed : (A : Type 0) (g : Grammar L A) (P : A → Type 0) → Each Q g P → Each Q (Headed A g) (λ x. P x.1)
  each_headed A g P a = record { holds = λ text x q s. a.holds text x.1 q s.2 }

  pub each_barred : (A : Type 0) (ks : List L.Class) (g : Grammar L A) (P : A → Type 0) → Each Q g P → Each Q (Barred A ks g) P
  each_barred A ks g P a = record { holds = λ text x q s. a.holds text x q s }

  pub each_as : (A : Type 0) (g : Grammar L A) (P R : A → Type 0) → Each Q g P → ((x : A) → P x → R x) → Each Q g R
  each_as A g P R a step = record { holds = λ text x q s. step x (a.holds text x q s) }
