-- A grammar with more levels of nesting is read alike, up to where the first one finds a text too deep.
use Rattle.std.proofs.Common.{◌≡◌, ℕ, zero, suc, ◌≤◌, ◌<◌, Bool, true, false, ◌||◌, ◌&&◌, cond, List, [], ◌∷◌, Some, None, length, refl, sym, ◌∙◌, ap, subst}
use Rattle.std.proofs.Common.{arith}
use Rattle.grammar.specs.Grammar.{Tokens, Grammar, is_in}
use Rattle.grammar.specs.Predictive.{union, empties, first}
use Rattle.grammar.specs.Read.{Wrong, Deep, Outcome, Got, Failed, starts, next, choose, read_one, read_each, with_head, read}
use Rattle.grammar.specs.Deeper.{Opens, with_one, with_seq, with_either, with_made, with_headed, Deeper, same_one, deeper_seq, deeper_either, deeper_maybe}
use Rattle.grammar.specs.Deeper.{deeper_many, deeper_made, deeper_headed, opened}
use Rattle.grammar.proofs.Sets.{starts_union}
use Rattle.grammar.proofs.Shorter.{left, pair, next_left, each_left, head_left, read_left}

-- the same, or past the token at which the first went too deep
abbrev pub Follows : {T A : Type 0} → Outcome T A → Outcome T A → Type 0
Follows (Got x rest) o = o ≡ Got x rest
Follows (Failed Wrong rest) o = o ≡ Failed Wrong rest
Follows (Failed Deep rest) o = left o < length rest

module _ {T : Type 0} where
  pub next_follows : {A B : Type 0} (o o' : Outcome T A) (go go' : A → List T → Outcome T B) → Follows o o'
      → ((x : A) (rest : List T) → Follows (go x rest) (go' x rest)) → ((x : A) (rest : List T) → left (go' x rest) ≤ length rest)
      → Follows (next o go) (next o' go')
  next_follows (Got x rest) o' go go' e f s = subst (λ p. Follows (go x rest) (next p go')) (sym e) (f x rest)
  next_follows (Failed Wrong rest) o' go go' e f s = ap (λ p. next p go') e
  next_follows (Failed Deep rest) o' go go' e f s = let less = next_left o' go' s in omega arith

  choose_follows : {A : Type 0} (b b' : Bool) (o o' p p' : Outcome T A) → b ≡ b' → Follows o o' → Follows p p' → Follows (choose b o p) (choose b' o' p')
  choose_follows true true o o' p p' e h i = h
  choose_follows false false o o' p p' e h i = i
  choose_follows true false o o' p p' e h i = absurd (cc)
  choose_follows false true o o' p p' e h i = absurd (cc)

  one_follows : (fits : T → Bool) (text : List T) → Follows (read_one fits text) (read_one fits text)
  one_follows fits [] = refl
  one_follows fits (t ∷ text) = choose_follows (fits t) (fits t) (Got t text) (Got t text) (Failed Wrong (t ∷ text)) (Failed Wrong (t ∷ text)) refl refl refl

  head_follows : {A : Type 0} (text : List T) (x : A) (rest : List T) → Follows (with_head text x rest) (with_head text x rest)
  head_follows [] x rest = refl
  head_follows (t ∷ text) x rest = refl

  each_follows : {A : Type 0} (begins begins' : List T → Bool) (r r' : List T → Outcome T A) → ((text : List T) → begins text ≡ begins' text)
      → ((text : List T) → Follows (r text) (r' text)) → ((n : ℕ) (text : List T) → left (read_each begins' r' n text) ≤ length text) → (n : ℕ) (text : List T)
      → Follows (read_each begins r n text) (read_each begins' r' n text)
  each_follows begins begins' r r' same f s zero text = refl
  each_follows {A = A} begins begins' r r' same f s (suc n) text =
      choose_follows (begins text) (begins' text)
      (next (r text) (λ x rest. next (read_each begins r n rest) (λ xs end. Got (x ∷ xs) end)))
      (next (r' text) (λ x rest. next (read_each begins' r' n rest) (λ xs end. Got (x ∷ xs) end)))
      (Got [] text) (Got [] text) (same text)
      (next_follows (r text) (r' text) (λ x rest. next (read_each begins r n rest) (λ xs end. Got (x ∷ xs) end))
      (λ x rest. next (read_each begins' r' n rest) (λ xs end. Got (x ∷ xs) end)) (f text)
      (λ x rest. next_follows (read_each begins r n rest) (read_each begins' r' n rest) (λ xs end. Got (x ∷ xs) end) (λ xs end. Got (x ∷ xs) end)
      (each_follows begins begins' r r' same f s n rest) (λ xs end. refl) (λ xs end. omega arith))
      more)
      refl
    where
      more : (x : A) (rest : List T) → left (next (read_each begins' r' n rest) (λ xs end. Got (x ∷ xs) end)) ≤ length rest
      more x rest =
          let given = s n rest in
          let less = next_left (read_each begins' r' n rest) (λ xs end. Got (x ∷ xs) end) (λ xs end. omega arith) in
          omega arith

-- ---- what begins a phrase is the same

opens_some : {L : Tokens} (A : Type 0) (g : Grammar L A) (ks : List L.Class) → Opens A g ks → empties g ≡ false
opens_some A g ks (with_one classes) = refl
opens_some A g ks (with_seq X Y p q classes o) = ap (λ b. b && empties q) (opens_some X p classes o)
opens_some A g ks (with_either X p q k l o u) = refl
opens_some A g ks (with_made X Y f p classes o) = opens_some X p classes o
opens_some A g ks (with_headed X p classes o) = refl

opens_first : {L : Tokens} (A : Type 0) (g : Grammar L A) (ks : List L.Class) → Opens A g ks → first g ≡ ks
opens_first A g ks (with_one classes) = refl
opens_first {L} A g ks (with_seq X Y p q classes o) =
    ap (λ b. cond b (union L (first p) (first q)) (first p)) (opens_some X p classes o) ∙ opens_first X p classes o
opens_first {L} A g ks (with_either X p q k l o u) =
    ap (λ x. union L x (first q)) (opens_first X p k o) ∙ ap (λ x. union L k x) (opens_first X q l u)
opens_first A g ks (with_made X Y f p classes o) = opens_first X p classes o
opens_first A g ks (with_headed X p classes o) = opens_first X p classes o

empties_same : {L : Tokens} (A : Type 0) (g g' : Grammar L A) → Deeper A g g' → empties g ≡ empties g'
empties_same A g g' (same_one classes) = refl
empties_same A g g' (deeper_seq X Y p p' q q' d e) =
    ap (λ b. b && empties q) (empties_same X p p' d) ∙ ap (λ b. empties p' && b) (empties_same Y q q' e)
empties_same A g g' (deeper_either X p p' q q' d e) = refl
empties_same A g g' (deeper_maybe X p p' d) = refl
empties_same A g g' (deeper_many X p p' d) = refl
empties_same A g g' (deeper_made X Y f p p' d) = empties_same X p p' d
empties_same A g g' (deeper_headed X p p' d) = refl
empties_same A g g' (opened X ks p p' h o d) = refl

first_same : {L : Tokens} (A : Type 0) (g g' : Grammar L A) → Deeper A g g' → first g ≡ first g'
first_same A g g' (same_one classes) = refl
first_same {L} A g g' (deeper_seq X Y p p' q q' d e) =
    ap (λ b. cond b (union L (first p) (first q)) (first p)) (empties_same X p p' d)
    ∙ ap (λ f. cond (empties p') (union L f (first q)) f) (first_same X p p' d)
    ∙ ap (λ f. cond (empties p') (union L (first p') f) (first p')) (first_same Y q q' e)
first_same {L} A g g' (deeper_either X p p' q q' d e) =
    ap (λ f. union L f (first q)) (first_same X p p' d) ∙ ap (λ f. union L (first p') f) (first_same X q q' e)
first_same A g g' (deeper_maybe X p p' d) = first_same X p p' d
first_same A g g' (deeper_many X p p' d) = first_same X p p' d
first_same A g g' (deeper_made X Y f p p' d) = first_same X p p' d
first_same A g g' (deeper_headed X p p' d) = first_same X p p' d
first_same {L} A g g' (opened X ks p p' h o d) =
    ap (λ f. union L ks f) (first_same X p p' d) ∙ ap (λ f. union L f (first p')) (sym (opens_first X h ks o))

-- ---- the token that was too deep is taken

one_taken : {T : Type 0} (fits : T → Bool) (t : T) (text : List T) → fits t ≡ true → left (read_one fits (t ∷ text)) < length (t ∷ text)
one_taken fits t text e = subst (λ b. left (choose b (Got t text) (Failed Wrong (t ∷ text))) < suc (length text)) (sym e) (omega arith)

either_taken : {T A : Type 0} (b c : Bool) (o p : Outcome T A) (n : ℕ) → (b || c) ≡ true → (b ≡ true → left o < n) → (c ≡ true → left p < n)
    → left (choose b o p) < n
either_taken true c o p n e h i = h refl
either_taken false c o p n e h i = i e

opens_taken : {L : Tokens} (A : Type 0) (g : Grammar L A) (ks : List L.Class) → Opens A g ks → (text : List L.Token) → starts L ks text ≡ true
    → left (read g text) < length text
opens_taken A g ks (with_one classes) [] e = absurd (cc)
opens_taken {L} A g ks (with_one classes) (t ∷ text) e = one_taken (λ u. is_in L classes (L.class u)) t text e
opens_taken {L} A g ks (with_seq X Y p q classes o) text e =
    let taken = opens_taken X p classes o text e in
    let less = next_left (read p text) (λ a rest. next (read q rest) (pair a)) second in
    omega arith
  where
    second : (a : X) (rest : List L.Token) → left (next (read q rest) (pair a)) ≤ length rest
    second a rest =
        let given = read_left q rest in
        let less = next_left (read q rest) (pair a) (λ b end. omega arith) in
        omega arith
opens_taken {L} A g ks (with_either X p q k l o u) text e =
    subst (λ f. left (choose (starts L f text) (read p text) (read q text)) < length text) (sym (opens_first X p k o))
    (either_taken (starts L k text) (starts L l text) (read p text) (read q text) (length text) (sym (starts_union L k l text) ∙ e)
    (opens_taken X p k o text) (opens_taken X q l u text))
opens_taken A g ks (with_made X Y f p classes o) text e =
    let taken = opens_taken X p classes o text e in
    let less = next_left (read p text) (λ a rest. Got (f a) rest) (λ a rest. omega arith) in
    omega arith
opens_taken A g ks (with_headed X p classes o) text e =
    let taken = opens_taken X p classes o text e in
    let less = next_left (read p text) (with_head text) (head_left text) in
    omega arith

-- ---- both readings

barred_follows : {T A : Type 0} (b : Bool) (text : List T) (o p q : Outcome T A) → (b ≡ true → left q < length text) → Follows o p
    → Follows (choose b (Failed Deep text) o) (choose b q p)
barred_follows true text o p q h f = h refl
barred_follows false text o p q h f = f

pub deeper_follows : {L : Tokens} (A : Type 0) (g g' : Grammar L A) → Deeper A g g' → (text : List L.Token) → Follows (read g text) (read g' text)
deeper_follows {L} A g g' (same_one classes) text = one_follows (λ t. is_in L classes (L.class t)) text
deeper_follows {L} A g g' (deeper_seq X Y p p' q q' d e) text =
    next_follows (read p text) (read p' text) (λ a rest. next (read q rest) (pair a)) (λ a rest. next (read q' rest) (pair a)) (deeper_follows X p p' d text)
    (second (deeper_follows Y q q' e)) shorter
  where
    shorter : (a : X) (rest : List L.Token) → left (next (read q' rest) (pair a)) ≤ length rest
    shorter a rest =
        let given = read_left q' rest in
        let less = next_left (read q' rest) (pair a) (λ b end. omega arith) in
        omega arith

    second : ((rest : List L.Token) → Follows (read q rest) (read q' rest)) → (a : X) (rest : List L.Token)
        → Follows (next (read q rest) (pair a)) (next (read q' rest) (pair a))
    second h a rest = next_follows (read q rest) (read q' rest) (pair a) (pair a) (h rest) (λ b end. refl) (λ b end. omega arith)
deeper_follows {L} A g g' (deeper_either X p p' q q' d e) text =
    choose_follows (starts L (first p) text) (starts L (first p') text) (read p text) (read p' text) (read q text) (read q' text)
    (ap (λ f. starts L f text) (first_same X p p' d))
    (deeper_follows X p p' d text) (deeper_follows X q q' e text)
deeper_follows {L} A g g' (deeper_maybe X p p' d) text =
    choose_follows (starts L (first p) text) (starts L (first p') text)
    (next (read p text) (λ a rest. Got (Some a) rest)) (next (read p' text) (λ a rest. Got (Some a) rest)) (Got None text) (Got None text)
    (ap (λ f. starts L f text) (first_same X p p' d))
    (next_follows (read p text) (read p' text) (λ a rest. Got (Some a) rest) (λ a rest. Got (Some a) rest) (deeper_follows X p p' d text) (λ a rest. refl)
    (λ a rest. omega arith))
    refl
deeper_follows {L} A g g' (deeper_many X p p' d) text =
    each_follows (starts L (first p)) (starts L (first p')) (read p) (read p') (λ t. ap (λ f. starts L f t) (first_same X p p' d)) (deeper_follows X p p' d)
    (each_left (starts L (first p')) (read p') (read_left p')) (length text) text
deeper_follows A g g' (deeper_made X Y f p p' d) text =
    next_follows (read p text) (read p' text) (λ a rest. Got (f a) rest) (λ a rest. Got (f a) rest) (deeper_follows X p p' d text) (λ a rest. refl)
    (λ a rest. omega arith)
deeper_follows A g g' (deeper_headed X p p' d) text =
    next_follows (read p text) (read p' text) (with_head text) (with_head text) (deeper_follows X p p' d text) (head_follows text) (head_left text)
deeper_follows {L} A g g' (opened X ks p p' h o d) text =
    subst (λ f. Follows (choose (starts L ks text) (Failed Deep text) (read p text)) (choose (starts L f text) (read h text) (read p' text)))
    (sym (opens_first X h ks o))
    (barred_follows (starts L ks text) text (read p text) (read p' text) (read h text) (opens_taken X h ks o text) (deeper_follows X p p' d text))
