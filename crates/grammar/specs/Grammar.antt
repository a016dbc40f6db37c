-- Grammars as data, and what they spell.
use Rattle.std.specs.Prelude.{◌≡◌, Bool, IsTrue, ◌↔◌, ◌⊎◌, false, ◌||◌, List, [], ◌∷◌, ◌++◌, Option, Some, None}

-- the tokens of a language, and the classes by which its grammar tells them apart
pub record Tokens : Type 1 where
  pub Token : Type 0
  pub Class : Type 0
  pub class : Token → Class
  pub same : Class → Class → Bool
  pub same_is : (a b : Class) → IsTrue (same a b) ↔ (a ≡ b)
  -- no class is empty
  pub sample : Class → Token
  pub sample_is : (c : Class) → class (sample c) ≡ c

-- a grammar, by the type of what its phrases mean
pub data Grammar (L : Tokens) : Type 0 → Type 1 where
  -- a token of one of these classes
  One : (classes : List L.Class) → Grammar L L.Token
  -- one phrase behind the other
  Seq : (A B : Type 0) (first : Grammar L A) (second : Grammar L B) → Grammar L (A × B)
  Either : (A : Type 0) (left right : Grammar L A) → Grammar L A
  Maybe : (A : Type 0) (inner : Grammar L A) → Grammar L (Option A)
  Many : (A : Type 0) (inner : Grammar L A) → Grammar L (List A)
  -- what a phrase of the inner grammar means, put otherwise
  Made : (A B : Type 0) (f : A → B) (inner : Grammar L A) → Grammar L B
  -- the same phrases, each with its first token
  Headed : (A : Type 0) (inner : Grammar L A) → Grammar L (L.Token × A)
  -- the same phrases; a token of these classes would begin one that is nested too deep
  Barred : (A : Type 0) (openers : List L.Class) (inner : Grammar L A) → Grammar L A

abbrev pub one : {L : Tokens} → List L.Class → Grammar L L.Token
one classes = One classes

abbrev pub seq : {L : Tokens} {A B : Type 0} → Grammar L A → Grammar L B → Grammar L (A × B)
seq {A = A} {B = B} g h = Seq A B g h

abbrev pub either : {L : Tokens} {A : Type 0} → Grammar L A → Grammar L A → Grammar L A
either {A = A} g h = Either A g h

abbrev pub maybe : {L : Tokens} {A : Type 0} → Grammar L A → Grammar L (Option A)
maybe {A = A} g = Maybe A g

abbrev pub many : {L : Tokens} {A : Type 0} → Grammar L A → Grammar L (List A)
many {A = A} g = Many A g

abbrev pub made : {L : Tokens} {A B : Type 0} → (A → B) → Grammar L A → Grammar L B
made {A = A} {B = B} f g = Made A B f g

abbrev pub headed : {L : Tokens} {A : Type 0} → Grammar L A → Grammar L (L.Token × A)
headed {A = A} g = Headed A g

abbrev pub barred : {L : Tokens} {A : Type 0} → List L.Class → Grammar L A → Grammar L A
barred {A = A} openers g = Barred A openers g

-- the class stands in the list
abbrev pub is_in : (L : Tokens) → List L.Class → L.Class → Bool
is_in L [] c = false
is_in L (k ∷ ks) c = L.same k c || is_in L ks c

-- the phrases one behind the other are the text
abbrev pub each_spelled : {T A : Type 0} → (List T → A → Type 0) → List T → List A → Type 0
each_spelled spelled text [] = text ≡ []
each_spelled {T = T} spelled text (x ∷ xs) =
    (front : List T) × (rest : List T) × (text ≡ front ++ rest) × spelled front x × each_spelled spelled rest xs

abbrev pub maybe_spelled : {T A : Type 0} → (List T → A → Type 0) → List T → Option A → Type 0
maybe_spelled spelled text None = text ≡ []
maybe_spelled spelled text (Some x) = spelled text x

-- the whole text is a phrase of the grammar, and means x
abbrev pub spells : {L : Tokens} {A : Type 0} → Grammar L A → List L.Token → A → Type 0
spells {L = L} (One classes) text x = (text ≡ x ∷ []) × IsTrue (is_in L classes (L.class x))
spells {L = L} (Seq A B g h) text x =
    (front : List L.Token) × (rest : List L.Token) × (text ≡ front ++ rest) × spells g front x.0 × spells h rest x.1
spells (Either A g h) text x = spells g text x ⊎ spells h text x
spells (Maybe A g) text x = maybe_spelled (spells g) text x
spells (Many A g) text xs = each_spelled (spells g) text xs
spells (Made A B f g) text x = (a : A) × (x ≡ f a) × spells g text a
spells {L = L} (Headed A g) text x = (rest : List L.Token) × (text ≡ x.0 ∷ rest) × spells g text x.1
spells (Barred A openers g) text x = spells g text x
