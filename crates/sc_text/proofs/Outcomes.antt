-- What the outcome of a reader says in one way it says in the other.
use Rattle.std.specs.Prelude.{Result, Ok, Err, MatchResult, IfOk, IfErr}
use Rattle.sc_text.specs.declared.read_fault.ReadFault.{ReadFault}

pub either_way : {T : Type 0} {K L : T → Type 0} {P Q : ReadFault → Type 0} (r : Result T ReadFault) → MatchResult r K P → ((x : T) → K x → L x)
    → ((f : ReadFault) → P f → Q f) → MatchResult r L Q
either_way (Ok x) m k p = k x m
either_way (Err f) m k p = p f m

pub when_ok : {T : Type 0} {K L : T → Type 0} (P : ReadFault → Type 0) (r : Result T ReadFault) → MatchResult r K P → ((x : T) → K x → L x) → IfOk r L
when_ok P (Ok x) m k = k x m
when_ok P (Err f) m k = tt

pub when_err : {T : Type 0} (K : T → Type 0) {P Q : ReadFault → Type 0} (r : Result T ReadFault) → MatchResult r K P → ((f : ReadFault) → P f → Q f)
    → IfErr r Q
when_err K (Ok x) m p = tt
when_err K (Err f) m p = p f m
