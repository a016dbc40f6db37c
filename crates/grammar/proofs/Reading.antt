-- What is asked of a way of reading: what is spelled is read, and each text begins with a phrase or
-- with the beginning of one, in either case whatever stands behind the next token.
use Rattle.std.proofs.Common.{◌≡◌, Bool, true, false, List, [], ◌++◌, ◌⊎◌, ⊎_elim}
use Rattle.grammar.specs.Grammar.{Tokens}
use Rattle.grammar.specs.Read.{Flaw, Outcome, Got, Failed, starts}
use Rattle.grammar.specs.Fault.{Begins}
use Rattle.grammar.proofs.Sets.{Alike}

pub data Verdict {T A : Type 0} (spelled : List T → A → Type 0) (reading : List T → Outcome T A) (text : List T) : Type 0 where
  good : (front rest : List T) (x : A) → text ≡ front ++ rest → spelled front x → ((more : List T) → Alike rest more → reading (front ++ more) ≡ Got x more)
      → Verdict spelled reading text
  bad : (front rest : List T) (flaw : Flaw) → text ≡ front ++ rest → Begins spelled front
      → ((more : List T) → Alike rest more → reading (front ++ more) ≡ Failed flaw more) → Verdict spelled reading text

pub record Reading (L : Tokens) (A : Type 0) (spelled : List L.Token → A → Type 0) (reading : List L.Token → Outcome L.Token A) (opens stops : List L.Class)
    (void : Bool) : Type 0 where
  pub complete : (front rest : List L.Token) (x : A) → spelled front x → starts L stops rest ≡ false → reading (front ++ rest) ≡ Got x rest
  pub verdict : (text : List L.Token) → Verdict spelled reading text
  pub begins : (front : List L.Token) (x : A) → spelled front x → ((front ≡ []) × (void ≡ true)) ⊎ (starts L opens front ≡ true)
  pub phrase : (front : List L.Token) × (x : A) × spelled front x

-- a phrase of what is never void begins with one of its classes
pub begins_some : (L : Tokens) (A : Type 0) (spelled : List L.Token → A → Type 0) (reading : List L.Token → Outcome L.Token A) (opens stops : List L.Class)
    (void : Bool) → Reading L A spelled reading opens stops void → void ≡ false → (front : List L.Token) (x : A) → spelled front x → starts L opens front ≡ true
begins_some L A spelled reading opens stops void r v front x s =
    ⊎_elim (λ h. let e = h.1 in absurd (cc)) (λ h. h) (r.begins front x s)
