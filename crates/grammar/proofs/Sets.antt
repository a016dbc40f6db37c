-- Lists of classes as sets, and the class of a text's next token.
use Rattle.std.proofs.Common.{◌≡◌, Bool, true, false, not, ◌||◌, cond, List, [], ◌∷◌, ◌++◌, refl, sym, ◌∙◌, ap, subst}
use Rattle.std.proofs.lemmas.Bool.{and_parts, not-true}
use Rattle.std.specs.List.{filter}
use Rattle.grammar.specs.Grammar.{Tokens, is_in}
use Rattle.grammar.specs.Predictive.{union, disjoint}
use Rattle.grammar.specs.Read.{starts}

-- the next token is the same, or both texts are at their end
abbrev pub Alike : {T : Type 0} → List T → List T → Type 0
Alike [] [] = Unit {0}
Alike [] (u ∷ ys) = ⊥
Alike (t ∷ xs) [] = ⊥
Alike (t ∷ xs) (u ∷ ys) = t ≡ u

pub alike_same : {T : Type 0} (xs : List T) → Alike xs xs
alike_same [] = tt
alike_same (t ∷ xs) = refl

pub alike_behind : {T : Type 0} (front rest more : List T) → Alike rest more → Alike (front ++ rest) (front ++ more)
alike_behind [] rest more h = h
alike_behind (t ∷ front) rest more h = refl

or_assoc3 : (a b c : Bool) → ((a || b) || c) ≡ (a || (b || c))
or_assoc3 true b c = refl
or_assoc3 false b c = refl

or_true : (a : Bool) → (a || true) ≡ true
or_true true = refl
or_true false = refl

or_parts : (a b : Bool) → (a || b) ≡ false → (a ≡ false) × (b ≡ false)
or_parts true b e = absurd (cc)
or_parts false b e = (refl, e)

module _ (L : Tokens) where
  in_append : (ks ls : List L.Class) (c : L.Class) → is_in L (ks ++ ls) c ≡ (is_in L ks c || is_in L ls c)
  in_append [] ls c = refl
  in_append (k ∷ ks) ls c = ap (λ b. L.same k c || b) (in_append ks ls c) ∙ sym (or_assoc3 (L.same k c) (is_in L ks c) (is_in L ls c))

  -- a class that isn't among these stays when they are left out
  in_rest : (ks ls : List L.Class) (c : L.Class) → is_in L ks c ≡ false → is_in L (filter (λ d. not (is_in L ks d)) ls) c ≡ is_in L ls c
  in_rest ks [] c out = refl
  in_rest ks (l ∷ ls) c out = go (in_rest ks ls c out) (is_in L ks l) refl (L.same l c) refl
    where
      go : is_in L (filter (λ d. not (is_in L ks d)) ls) c ≡ is_in L ls c → (b : Bool) → is_in L ks l ≡ b → (s : Bool) → L.same l c ≡ s
          → is_in L (cond (not b) (l ∷ filter (λ d. not (is_in L ks d)) ls) (filter (λ d. not (is_in L ks d)) ls)) c ≡ (s || is_in L ls c)
      go rest false e s f = ap (λ b. b || is_in L (filter (λ d. not (is_in L ks d)) ls) c) f ∙ ap (λ b. s || b) rest
      go rest true e false f = rest
      go rest true e true f =
          let same : l ≡ c = (L.same_is l c).0 f in
          let yes_in : is_in L ks c ≡ true = subst (λ d. is_in L ks d ≡ true) same e in
          absurd (cc)

  pub in_union : (ks ls : List L.Class) (c : L.Class) → is_in L (union L ks ls) c ≡ (is_in L ks c || is_in L ls c)
  in_union ks ls c = in_append ks (filter (λ d. not (is_in L ks d)) ls) c ∙ go (is_in L ks c) refl
    where
      go : (b : Bool) → is_in L ks c ≡ b → (b || is_in L (filter (λ d. not (is_in L ks d)) ls) c) ≡ (b || is_in L ls c)
      go true e = refl
      go false e = in_rest ks ls c e

  pub apart : (ks ls : List L.Class) (c : L.Class) → disjoint L ks ls ≡ true → is_in L ks c ≡ true → is_in L ls c ≡ false
  apart [] ls c d h = absurd (cc)
  apart (k ∷ ks) ls c d h =
      go (L.same k c) refl (λ i. apart ks ls c (and_parts (not (is_in L ls k)) (disjoint L ks ls) d).1 i)
    where
      go : (b : Bool) → L.same k c ≡ b → (is_in L ks c ≡ true → is_in L ls c ≡ false) → is_in L ls c ≡ false
      go true e rest =
          subst (λ x. is_in L ls x ≡ false) ((L.same_is k c).0 e) (not-true (is_in L ls k) (and_parts (not (is_in L ls k)) (disjoint L ks ls) d).0)
      go false e rest = rest (ap (λ b. b || is_in L ks c) (sym e) ∙ h)

  -- ---- the next token

  pub starts_alike : (ks : List L.Class) (xs ys : List L.Token) → Alike xs ys → starts L ks xs ≡ starts L ks ys
  starts_alike ks [] [] h = refl
  starts_alike ks [] (u ∷ ys) h = absurd h
  starts_alike ks (t ∷ xs) [] h = absurd h
  starts_alike ks (t ∷ xs) (u ∷ ys) h = ap (λ v. is_in L ks (L.class v)) h

  pub starts_behind : (ks : List L.Class) (front rest : List L.Token) → starts L ks front ≡ true → starts L ks (front ++ rest) ≡ true
  starts_behind ks [] rest h = absurd (cc)
  starts_behind ks (t ∷ front) rest h = h

  pub starts_union : (ks ls : List L.Class) (text : List L.Token) → starts L (union L ks ls) text ≡ (starts L ks text || starts L ls text)
  starts_union ks ls [] = refl
  starts_union ks ls (t ∷ text) = in_union ks ls (L.class t)

  pub union_none : (ks ls : List L.Class) (text : List L.Token) → starts L (union L ks ls) text ≡ false → (starts L ks text ≡ false)
      × (starts L ls text ≡ false)
  union_none ks ls text h = or_parts (starts L ks text) (starts L ls text) (sym (starts_union ks ls text) ∙ h)

  pub union_left : (ks ls : List L.Class) (text : List L.Token) → starts L ks text ≡ true → starts L (union L ks ls) text ≡ true
  union_left ks ls text h = starts_union ks ls text ∙ ap (λ b. b || starts L ls text) h

  pub union_right : (ks ls : List L.Class) (text : List L.Token) → starts L ls text ≡ true → starts L (union L ks ls) text ≡ true
  union_right ks ls text h = starts_union ks ls text ∙ ap (λ b. starts L ks text || b) h ∙ or_true (starts L ks text)

  pub starts_apart : (ks ls : List L.Class) (text : List L.Token) → disjoint L ks ls ≡ true → starts L ks text ≡ true → starts L ls text ≡ false
  starts_apart ks ls [] d h = refl
  starts_apart ks ls (t ∷ text) d h = apart ks ls (L.class t) d h
