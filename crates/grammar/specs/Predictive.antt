-- Which grammars can be read with one token ahead.
use Rattle.std.specs.Prelude.{Bool, true, false, not, ◌&&◌, IsTrue, IsFalse, List, [], ◌∷◌, ◌++◌, if◌then◌else◌}
use Rattle.std.specs.List.{list_all, filter}
use Rattle.grammar.specs.Grammar.{Tokens, Grammar, One, Seq, Either, Maybe, Many, Made, Headed, Barred, is_in}

-- both lists of classes, each class once
abbrev pub union : (L : Tokens) → List L.Class → List L.Class → List L.Class
union L ks ls = ks ++ filter (λ c. not (is_in L ks c)) ls

abbrev pub disjoint : (L : Tokens) → List L.Class → List L.Class → Bool
disjoint L ks ls = list_all (λ c. not (is_in L ls c)) ks

abbrev pub is_filled : {X : Type 0} → List X → Bool
is_filled [] = false
is_filled (x ∷ xs) = true

-- the empty text is a phrase
abbrev pub empties : {L : Tokens} {A : Type 0} → Grammar L A → Bool
empties (One classes) = false
empties (Seq A B g h) = empties g && empties h
empties (Either A g h) = false
empties (Maybe A g) = true
empties (Many A g) = true
empties (Made A B f g) = empties g
empties (Headed A g) = false
empties (Barred A openers g) = false

-- the classes of the tokens that begin a phrase, or one that is nested too deep
abbrev pub first : {L : Tokens} {A : Type 0} → Grammar L A → List L.Class
first (One classes) = classes
first {L = L} (Seq A B g h) = if empties g then union L (first g) (first h) else first g
first {L = L} (Either A g h) = union L (first g) (first h)
first (Maybe A g) = first g
first (Many A g) = first g
first (Made A B f g) = first g
first (Headed A g) = first g
first {L = L} (Barred A openers g) = union L openers (first g)

-- the classes of the tokens by which a phrase may go on where it may end too
abbrev pub tails : {L : Tokens} {A : Type 0} → Grammar L A → List L.Class
tails (One classes) = []
tails {L = L} (Seq A B g h) = if empties h then union L (tails h) (tails g) else tails h
tails {L = L} (Either A g h) = union L (tails g) (tails h)
tails {L = L} (Maybe A g) = union L (first g) (tails g)
tails {L = L} (Many A g) = union L (first g) (tails g)
tails (Made A B f g) = tails g
tails (Headed A g) = tails g
tails (Barred A openers g) = tails g

-- at each choice the next token decides
abbrev pub Predictive : {L : Tokens} {A : Type 0} → Grammar L A → Type 0
Predictive (One classes) = IsTrue (is_filled classes)
Predictive {L = L} (Seq A B g h) = Predictive g × Predictive h × IsTrue (disjoint L (first h) (tails g))
Predictive {L = L} (Either A g h) =
    Predictive g × Predictive h × IsFalse (empties g) × IsFalse (empties h) × IsTrue (disjoint L (first h) (first g))
Predictive (Maybe A g) = Predictive g × IsFalse (empties g)
Predictive {L = L} (Many A g) = Predictive g × IsFalse (empties g) × IsTrue (disjoint L (first g) (tails g))
Predictive (Made A B f g) = Predictive g
Predictive (Headed A g) = Predictive g × IsFalse (empties g)
Predictive {L = L} (Barred A openers g) = Predictive g × IsFalse (empties g) × IsTrue (disjoint L (first g) openers)
