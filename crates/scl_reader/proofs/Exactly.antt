-- What is read, and what is told, is the one answer that the text has.
use Rattle.std.proofs.Common.{◌≡◌, ◌⊎◌, ℕ, List, refl, sym, ◌∙◌, ap, inl, inr}
use Rattle.std.specs.Prelude.{Ok, Err}
use Rattle.sc_text.specs.declared.read_fault.FaultKind.{FaultKind}
use Rattle.sc_text.specs.declared.read_fault.ReadFault.{ReadFault}
use Rattle.sc_text.specs.declared.read_fault.ReadFault.TheVariants as fault
use Rattle.scl.specs.declared.program.Scl.{Scl}
use Rattle.sc_text.specs.Flaws.{variable_names}
use Rattle.sc_text.specs.Resolved.{variables_of}
use Rattle.scl_reader.specs.Checked.{IsTextFault}
use Rattle.scl_reader.specs.Read.{IsRead}
use Rattle.scl_reader.specs.Resolved.{statements_of}
use Rattle.scl_reader.specs.Laws.{AreAlike, IsExact}
use Rattle.scl_reader.proofs.OneSclAnswer as one

pub one_program : (text : List ℕ) (p q : Scl) → IsRead text p → IsRead text q → AreAlike p q
one_program text p q a b =
    let same : a.draft ≡ b.draft = one.one_draft text a.draft b.draft a.drafted b.drafted in
    record {
      names = a.spelled.named ∙ ap (λ d. d.name) same ∙ sym b.spelled.named;
      variables = a.spelled.declared ∙ ap (λ d. variables_of d.declarations) same ∙ sym b.spelled.declared;
      bodies = a.spelled.body ∙ ap (λ d. statements_of (variable_names d.declarations) d.statements) same ∙ sym b.spelled.body;
    }

pub no_fault : (text : List ℕ) (p : Scl) (b : FaultKind) (at : ℕ) → IsRead text p → ¬ IsTextFault text (fault.Text b at)
no_fault text p b at read = one.no_fault text read.draft b at read.drafted read.flawless

pub read_exactly : (text : List ℕ) (p : Scl) → IsRead text p → IsExact text (Ok p)
read_exactly text p read = record { spelled = λ q other. one_program text p q read other; faulty = λ b at. no_fault text p b at read }

only_memory : (text : List ℕ) (f : ReadFault) → IsTextFault text f → (p : Scl) → IsRead text p → f ≡ fault.Memory
only_memory text (fault.Text b at) told p read = absurd (no_fault text p b at read told)
only_memory text fault.Memory told p read = refl

this_or_memory : (text : List ℕ) (f : ReadFault) → IsTextFault text f → (b : FaultKind) (at : ℕ) → IsTextFault text (fault.Text b at)
    → (f ≡ fault.Text b at) ⊎ (f ≡ fault.Memory)
this_or_memory text (fault.Text c place) told b at other =
    let same = one.one_fault text c b place at told other in inl (ap (λ x. fault.Text x place) same.0 ∙ ap (fault.Text b) same.1)
this_or_memory text fault.Memory told b at other = inr refl

pub faulty_exactly : (text : List ℕ) (f : ReadFault) → IsTextFault text f → IsExact text (Err f)
faulty_exactly text f told = record { spelled = only_memory text f told; faulty = this_or_memory text f told }
