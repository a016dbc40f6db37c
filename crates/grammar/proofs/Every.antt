-- Every predictive grammar is read as is asked.
use Rattle.std.proofs.Common.{◌≡◌, Bool, false, List, subst}
use Rattle.grammar.specs.Grammar.{Tokens, Grammar, One, Seq, Either, Maybe, Many, Made, Headed, Barred, spells}
use Rattle.grammar.specs.Predictive.{empties, first, tails, Predictive}
use Rattle.grammar.specs.Read.{Outcome, read}
use Rattle.grammar.proofs.Reading.{Reading}
use Rattle.grammar.proofs.Parts.{one_reads, made_reads, headed_reads, barred_reads, maybe_reads}
use Rattle.grammar.proofs.Joined.{seq_reads, either_reads}
use Rattle.grammar.proofs.Repeated.{many_reads}

never_void : (L : Tokens) (A : Type 0) (s : List L.Token → A → Type 0) (r : List L.Token → Outcome L.Token A) (o t : List L.Class) (v : Bool) → v ≡ false
    → Reading L A s r o t v → Reading L A s r o t false
never_void L A s r o t v e h = subst (λ b. Reading L A s r o t b) e h

pub reads : {L : Tokens} {A : Type 0} (g : Grammar L A) → Predictive g → Reading L A (spells g) (read g) (first g) (tails g) (empties g)
reads {L} (One classes) p = one_reads L classes p
reads {L} (Seq A B g h) p = seq_reads L A B _ _ _ _ _ (reads g p.0) _ _ _ _ _ (reads h p.1) p.2
reads {L} (Either A g h) p =
    either_reads L A _ _ _ _ (never_void L A _ _ _ _ _ p.2 (reads g p.0)) _ _ _ _ (never_void L A _ _ _ _ _ p.3 (reads h p.1)) p.4
reads {L} (Maybe A g) p = maybe_reads L A _ _ _ _ (never_void L A _ _ _ _ _ p.1 (reads g p.0))
reads {L} (Many A g) p = many_reads L A _ _ _ _ (never_void L A _ _ _ _ _ p.1 (reads g p.0)) p.2
reads {L} (Made A B f g) p = made_reads L A B f _ _ _ _ _ (reads g p)
reads {L} (Headed A g) p = headed_reads L A _ _ _ _ (never_void L A _ _ _ _ _ p.1 (reads g p.0))
reads {L} (Barred A openers g) p = barred_reads L A _ _ _ _ (never_void L A _ _ _ _ _ p.1 (reads g p.0)) openers p.2
