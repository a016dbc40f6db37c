-- What is told of a text: something, or a fault at a place.
use Rattle.std.specs.Prelude.{ℕ, ◌≡◌, List}
use Rattle.grammar.specs.Read.{Outcome, Got, Failed}
use Rattle.sc_text.specs.declared.token.Token.{Token}
use Rattle.sc_text.specs.declared.read_fault.FaultKind.{FaultKind}
use Rattle.sc_text.specs.declared.read_fault.ReadFault.{ReadFault}
use Rattle.sc_text.specs.declared.read_fault.ReadFault.TheVariants as fault
use Rattle.sc_text.specs.Reading.{broken_by, place_of}

pub data Answer (A : Type 0) : Type 0 where
  Good : (x : A) → Answer A
  Bad : (b : FaultKind) (at : ℕ) → Answer A

-- what follows of what is good; of two faults the first is told
abbrev pub next : {A B : Type 0} → Answer A → (A → Answer B) → Answer B
next (Good x) go = go x
next (Bad b at) go = Bad b at

-- a phrase that was read, and the text behind it
abbrev pub read_as : {A : Type 0} → (end : ℕ) → Outcome Token A → Answer (A × List Token)
read_as end (Got x rest) = Good (x, rest)
read_as end (Failed flaw rest) = Bad (broken_by flaw) (place_of end rest)

-- the answer is this fault. That memory was refused says nothing
abbrev pub Tells : {A : Type 0} → Answer A → ReadFault → Type 0
Tells a (fault.Text b at) = a ≡ Bad b at
Tells a fault.Memory = Unit {0}
