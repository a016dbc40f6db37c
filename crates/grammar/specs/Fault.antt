-- The first fault of a text, by what it means. No word of it speaks of a reader.
use Rattle.std.specs.Prelude.{ℕ, ◌≡◌, List, [], ◌∷◌, ◌++◌}
use Rattle.grammar.specs.Grammar.{Tokens, Grammar, spells}
use Rattle.grammar.specs.Read.{Flaw, Wrong, Deep, Outcome, Got, Failed}

-- some phrase begins so
abbrev pub Begins : {T A : Type 0} → (List T → A → Type 0) → List T → Type 0
Begins {T = T} {A = A} spelled front = (rest : List T) × (x : A) × spelled (front ++ rest) x

-- what it means that a text goes wrong behind `front`, where `g k` is the grammar with k more levels of nesting
abbrev pub IsFlaw : {L : Tokens} {A : Type 0} → (ℕ → Grammar L A) → Flaw → List L.Token → List L.Token → Type 0
-- the text ends where no phrase may end
IsFlaw {A = A} g Wrong front [] = (x : A) → ¬ spells (g 0) front x
-- no text goes on so, however deep it may be nested
IsFlaw g Wrong front (t ∷ rest) = (k : ℕ) → ¬ Begins (spells (g k)) (front ++ t ∷ [])
IsFlaw g Deep front [] = ⊥
-- texts go on so, but only ones that are nested too deep
IsFlaw g Deep front (t ∷ rest) =
    (k : ℕ) × Begins (spells (g k)) (front ++ t ∷ []) × (¬ Begins (spells (g 0)) (front ++ t ∷ []))

-- the text is no phrase: up to `rest` it begins one, and there it goes wrong
pub record Fault {L : Tokens} {A : Type 0} (g : ℕ → Grammar L A) (text : List L.Token) (flaw : Flaw)
    (rest : List L.Token) : Type 0 where
  pub front : List L.Token
  pub parts : text ≡ front ++ rest
  pub begins : Begins (spells (g 0)) front
  pub flawed : IsFlaw g flaw front rest

-- what reading a whole text tells of it: what it spells, or its one fault
abbrev pub Told : {L : Tokens} {A : Type 0} → (ℕ → Grammar L A) → List L.Token → Outcome L.Token A → Type 0
Told g text (Got x rest) = (rest ≡ []) × spells (g 0) text x
Told g text (Failed flaw rest) = Fault g text flaw rest
