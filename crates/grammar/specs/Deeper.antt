-- The same grammar with more levels of nesting: where the one bars what would be too deep, the other has it.
use Rattle.std.specs.Prelude.{ℕ, suc, List, Option}
use Rattle.grammar.specs.Grammar.{Tokens, Grammar, One, Seq, Either, Maybe, Many, Made, Headed, Barred}
use Rattle.grammar.specs.Predictive.{union, Predictive}

-- each phrase begins with a token of these classes, and nothing bars that token
pub data Opens {L : Tokens} : (A : Type 0) → Grammar L A → List L.Class → Type 1 where
  with_one : (classes : List L.Class) → Opens L.Token (One classes) classes
  with_seq : (A B : Type 0) (g : Grammar L A) (h : Grammar L B) (classes : List L.Class) → Opens A g classes
      → Opens (A × B) (Seq A B g h) classes
  with_either : (A : Type 0) (g h : Grammar L A) (ks ls : List L.Class) → Opens A g ks → Opens A h ls
      → Opens A (Either A g h) (union L ks ls)
  with_made : (A B : Type 0) (f : A → B) (g : Grammar L A) (classes : List L.Class) → Opens A g classes
      → Opens B (Made A B f g) classes
  with_headed : (A : Type 0) (g : Grammar L A) (classes : List L.Class) → Opens A g classes
      → Opens (L.Token × A) (Headed A g) classes

pub data Deeper {L : Tokens} : (A : Type 0) → Grammar L A → Grammar L A → Type 1 where
  same_one : (classes : List L.Class) → Deeper L.Token (One classes) (One classes)
  deeper_seq : (A B : Type 0) (g g' : Grammar L A) (h h' : Grammar L B) → Deeper A g g' → Deeper B h h'
      → Deeper (A × B) (Seq A B g h) (Seq A B g' h')
  deeper_either : (A : Type 0) (g g' h h' : Grammar L A) → Deeper A g g' → Deeper A h h'
      → Deeper A (Either A g h) (Either A g' h')
  deeper_maybe : (A : Type 0) (g g' : Grammar L A) → Deeper A g g' → Deeper (Option A) (Maybe A g) (Maybe A g')
  deeper_many : (A : Type 0) (g g' : Grammar L A) → Deeper A g g' → Deeper (List A) (Many A g) (Many A g')
  deeper_made : (A B : Type 0) (f : A → B) (g g' : Grammar L A) → Deeper A g g'
      → Deeper B (Made A B f g) (Made A B f g')
  deeper_headed : (A : Type 0) (g g' : Grammar L A) → Deeper A g g' → Deeper (L.Token × A) (Headed A g) (Headed A g')
  -- what was barred is open
  opened : (A : Type 0) (openers : List L.Class) (g g' h : Grammar L A) → Opens A h openers → Deeper A g g'
      → Deeper A (Barred A openers g) (Either A h g')

-- a language by its levels of nesting: with k more of them than are allowed, for each k
pub record IsLanguage {L : Tokens} {A : Type 0} (g : ℕ → Grammar L A) : Type 1 where
  pub predictive : (k : ℕ) → Predictive (g k)
  pub deeper : (k : ℕ) → Deeper A (g 0) (g (suc k))
