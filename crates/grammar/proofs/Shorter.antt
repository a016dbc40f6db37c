-- Reading leaves no more than it was given.
use Rattle.std.proofs.Common.{ℕ, zero, suc, ◌≤◌, Bool, true, false, List, [], ◌∷◌, Some, None, length, arith}
use Rattle.grammar.specs.Grammar.{Tokens, Grammar, One, Seq, Either, Maybe, Many, Made, Headed, Barred, is_in}
use Rattle.grammar.specs.Predictive.{first}
use Rattle.grammar.specs.Read.{Wrong, Deep, Outcome, Got, Failed, starts, next, choose, read_one, read_each, with_head, read}

-- the tokens from the end of the phrase, or from the flaw on
abbrev pub left : {T A : Type 0} → Outcome T A → ℕ
left (Got x rest) = length rest
left (Failed flaw rest) = length rest

-- the pair, once its second is there
abbrev pub pair : {T A B : Type 0} → A → B → List T → Outcome T (A × B)
pair a b end = Got (a, b) end

module _ {T : Type 0} where
  pub next_left : {A B : Type 0} (o : Outcome T A) (go : A → List T → Outcome T B) → ((x : A) (rest : List T) → left (go x rest) ≤ length rest)
      → left (next o go) ≤ left o
  next_left (Got x rest) go h = h x rest
  next_left (Failed flaw rest) go h = omega arith

  pub choose_left : {A : Type 0} (b : Bool) (o p : Outcome T A) (n : ℕ) → left o ≤ n → left p ≤ n → left (choose b o p) ≤ n
  choose_left true o p n h i = h
  choose_left false o p n h i = i

  pub one_left : (fits : T → Bool) (text : List T) → left (read_one fits text) ≤ length text
  one_left fits [] = omega arith
  one_left fits (t ∷ text) = choose_left (fits t) (Got t text) (Failed Wrong (t ∷ text)) (length (t ∷ text)) (omega arith) (omega arith)

  pub each_left : {A : Type 0} (begins : List T → Bool) (r : List T → Outcome T A) → ((text : List T) → left (r text) ≤ length text) → (n : ℕ) (text : List T)
      → left (read_each begins r n text) ≤ length text
  each_left begins r h zero text = omega arith
  each_left {A = A} begins r h (suc n) text =
      let some : left (next (r text) (λ x rest. next (read_each begins r n rest) (λ xs end. Got (x ∷ xs) end))) ≤ left (r text) =
      next_left (r text) (λ x rest. next (read_each begins r n rest) (λ xs end. Got (x ∷ xs) end)) (λ x rest. more x rest (each_left begins r h n rest)) in
      let given = h text in
      choose_left (begins text) (next (r text) (λ x rest. next (read_each begins r n rest) (λ xs end. Got (x ∷ xs) end))) (Got [] text) (length text)
      (omega arith) (omega arith)
    where
      more : (x : A) (rest : List T) → left (read_each begins r n rest) ≤ length rest
          → left (next (read_each begins r n rest) (λ xs end. Got (x ∷ xs) end)) ≤ length rest
      more x rest le =
          let less = next_left (read_each begins r n rest) (λ xs end. Got (x ∷ xs) end) (λ xs end. omega arith) in
          omega arith

  pub head_left : {A : Type 0} (text : List T) (x : A) (rest : List T) → left (with_head text x rest) ≤ length rest
  head_left [] x rest = omega arith
  head_left (t ∷ text) x rest = omega arith

pub read_left : {L : Tokens} {A : Type 0} (g : Grammar L A) (text : List L.Token) → left (read g text) ≤ length text
read_left {L} (One classes) text = one_left (λ t. is_in L classes (L.class t)) text
read_left {L} (Seq A B g h) text =
    let given = read_left g text in
    let less = next_left (read g text) (λ a rest. next (read h rest) (pair a))
    (λ a rest. second a rest (read_left h rest)) in
    omega arith
  where
    second : (a : A) (rest : List L.Token) → left (read h rest) ≤ length rest → left (next (read h rest) (pair a)) ≤ length rest
    second a rest le =
        let less = next_left (read h rest) (pair a) (λ b end. omega arith) in
        omega arith
read_left {L} (Either A g h) text = choose_left (starts L (first g) text) (read g text) (read h text) (length text) (read_left g text) (read_left h text)
read_left {L} (Maybe A g) text =
    let given = read_left g text in
    let less = next_left (read g text) (λ a rest. Got (Some a) rest) (λ a rest. omega arith) in
    choose_left (starts L (first g) text) (next (read g text) (λ a rest. Got (Some a) rest)) (Got None text) (length text) (omega arith) (omega arith)
read_left {L} (Many A g) text = each_left (starts L (first g)) (read g) (read_left g) (length text) text
read_left (Made A B f g) text =
    let given = read_left g text in
    let less = next_left (read g text) (λ a rest. Got (f a) rest) (λ a rest. omega arith) in
    omega arith
read_left (Headed A g) text =
    let given = read_left g text in
    let less = next_left (read g text) (with_head text) (head_left text) in
    omega arith
read_left {L} (Barred A openers g) text = choose_left (starts L openers text) (Failed Deep text) (read g text) (length text) (omega arith) (read_left g text)
