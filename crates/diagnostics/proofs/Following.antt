-- Where a text stops, by its one fault.
use Rattle.std.proofs.Common.{ℕ, ◌≡◌, ◌↔◌, ◌<◌, ◌≤◌, ◌+◌, Bool, true, false, not, Option, Some, None, IsTrue, List, [], length, take, get_or, refl, sym, subst}
use Rattle.std.proofs.lemmas.List.{take_more, take_all}
use Rattle.sc_text.specs.declared.read_fault.FaultKind.{FaultKind}
use Rattle.sc_text.specs.declared.read_fault.ReadFault.TheVariants as fault
use Rattle.diagnostics.specs.Continuations.{IsFaultOf, StopsAt, is_of_grammar, AreThose, none, taken, left}
use Rattle.diagnostics.specs.declared.could_follow.grammars.Grammar.{Grammar}
use Rattle.diagnostics.specs.Inside.CouldFollow.{TellsFault, IsStop, Adds, added, kept}

stop_is : (g : Grammar) (text : List ℕ) (at : ℕ) (o : Option (FaultKind × ℕ)) → TellsFault g text o → IsStop o at ↔ StopsAt g text at
stop_is g text at None tells = (λ stop. absurd stop, λ s. absurd (tells.none s.broken at s.fault))
stop_is g text at (Some found) tells = (
  λ stop. record {
    broken = found.0;
    of_grammar = stop.1;
    fault = subst (λ place. IsFaultOf g text (fault.Text found.0 place)) stop.0 tells.has;
  },
  λ s. let same = tells.one s.broken at s.fault in (sym same.1, subst (λ b. IsTrue (is_of_grammar b)) same.0 s.of_grammar),
)

pub follows : (g : Grammar) (text : List ℕ) (at : ℕ) (o : Option (FaultKind × ℕ)) (stop : Bool) → TellsFault g text o
    → IsTrue stop ↔ IsStop o at → IsTrue (not stop) ↔ (¬ StopsAt g text at)
follows g text at o true tells is = (λ f. cc, λ free. absurd (free ((stop_is g text at o tells).0 (is.0 refl))))
follows g text at o false tells is = (λ t stops. let no = is.1 ((stop_is g text at o tells).1 stops) in cc, λ free. cc)

pub begun : {X : Type 0} (P : X → Type 0) (found : List X) → found ≡ [] → AreThose P [] found
begun P found is = subst (AreThose P []) (sym is) none

pub adds_next : {X : Type 0} (P : X → Type 0) (items found new : List X) (i : ℕ) (d : X) → i < length items
    → AreThose P (take i items) found → Adds P (get_or items i d) found new → AreThose P (take (i + 1) items) new
adds_next P items found new i d within those (added holds is) =
    subst (λ front. AreThose P front new) (sym (take_more items i d within)) (subst (AreThose P _) (sym is) (taken _ _ _ those holds))
adds_next P items found new i d within those (kept lacks is) =
    subst (λ front. AreThose P front new) (sym (take_more items i d within)) (subst (AreThose P _) (sym is) (left _ _ _ those lacks))

pub all_taken : {X : Type 0} (P : X → Type 0) (items found : List X) (i : ℕ) → length items ≤ i → AreThose P (take i items) found
    → AreThose P items found
all_taken P items found i past those = subst (λ front. AreThose P front found) (take_all i items past) those

-- what cannot follow is not added
pub unadded : {X : Type 0} (P : X → Type 0) (x : X) (old : List X) (can : Bool) (Q : Type 0) → can ≡ false → IsTrue can ↔ Q → (P x → Q)
    → Adds P x old old
unadded P x old can Q lacks is may = kept (λ holds. let yes = is.1 (may holds) in absurd (cc)) refl
