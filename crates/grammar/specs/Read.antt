-- Reading a phrase from the front of a text, with one token ahead.
use Rattle.std.specs.Prelude.{ℕ, zero, suc, Bool, true, false, List, [], ◌∷◌, Some, None, length}
use Rattle.grammar.specs.Grammar.{Tokens, Grammar, One, Seq, Either, Maybe, Many, Made, Headed, Barred, is_in}
use Rattle.grammar.specs.Predictive.{first}

-- the token can't go on, however deep phrases may be nested; or it could, but in deeper ones than are allowed
pub data Flaw : Type 0 where
  Wrong : Flaw
  Deep : Flaw

-- a phrase with what it means, or the flaw at the token where reading ends; and the text from there on
pub data Outcome (T A : Type 0) : Type 0 where
  Got : (x : A) (rest : List T) → Outcome T A
  Failed : (flaw : Flaw) (rest : List T) → Outcome T A

-- the next token is of one of these classes
abbrev pub starts : (L : Tokens) → List L.Class → List L.Token → Bool
starts L ks [] = false
starts L ks (t ∷ text) = is_in L ks (L.class t)

abbrev pub next : {T A B : Type 0} → Outcome T A → (A → List T → Outcome T B) → Outcome T B
next (Got x rest) go = go x rest
next (Failed flaw rest) go = Failed flaw rest

abbrev pub choose : {X : Type 0} → Bool → X → X → X
choose true x y = x
choose false x y = y

abbrev pub read_one : {T : Type 0} → (T → Bool) → List T → Outcome T T
read_one fits [] = Failed Wrong []
read_one fits (t ∷ text) = choose (fits t) (Got t text) (Failed Wrong (t ∷ text))

abbrev pub read_each : {T A : Type 0} → (List T → Bool) → (List T → Outcome T A) → ℕ → List T → Outcome T (List A)
read_each begins reading zero text = Got [] text
read_each begins reading (suc n) text =
    choose (begins text)
    (next (reading text) (λ x rest. next (read_each begins reading n rest) (λ xs end. Got (x ∷ xs) end)))
    (Got [] text)

abbrev pub with_head : {T A : Type 0} → List T → A → List T → Outcome T (T × A)
with_head [] x rest = Failed Wrong []
with_head (t ∷ text) x rest = Got (t, x) rest

abbrev pub read : {L : Tokens} {A : Type 0} → Grammar L A → List L.Token → Outcome L.Token A
read {L = L} (One classes) text = read_one (λ t. is_in L classes (L.class t)) text
read (Seq A B g h) text = next (read g text) (λ a rest. next (read h rest) (λ b end. Got (a, b) end))
read {L = L} (Either A g h) text = choose (starts L (first g) text) (read g text) (read h text)
read {L = L} (Maybe A g) text =
    choose (starts L (first g) text) (next (read g text) (λ a rest. Got (Some a) rest)) (Got None text)
read {L = L} (Many A g) text = read_each (starts L (first g)) (read g) (length text) text
read (Made A B f g) text = next (read g text) (λ a rest. Got (f a) rest)
read (Headed A g) text = next (read g text) (with_head text)
read {L = L} (Barred A openers g) text = choose (starts L openers text) (Failed Deep text) (read g text)

-- a text that is one phrase to its end
abbrev pub ended : {T A : Type 0} → A → List T → Outcome T A
ended x [] = Got x []
ended x (t ∷ text) = Failed Wrong (t ∷ text)

abbrev pub read_all : {L : Tokens} {A : Type 0} → Grammar L A → List L.Token → Outcome L.Token A
read_all g text = next (read g text) ended
