-- What is read, and what is told, is the one answer that the text has.
use Rattle.std.proofs.Common.{◌≡◌, ◌⊎◌, ℕ, List, refl, sym, ◌∙◌, ap, inl, inr}
use Rattle.std.specs.Prelude.{Ok, Err}
use Rattle.sc_text.specs.declared.read_fault.FaultKind.{FaultKind}
use Rattle.sc_text.specs.declared.read_fault.ReadFault.{ReadFault}
use Rattle.sc_text.specs.declared.read_fault.ReadFault.TheVariants as fault
use Rattle.extended_charts.specs.declared.extended.ExtendedChart.{ExtendedChart}
use Rattle.extended_reader.specs.Checked.{IsTextFault}
use Rattle.extended_reader.specs.Read.{IsRead, IsExact}
use Rattle.extended_reader.specs.Resolved.{extended_of}
use Rattle.extended_reader.proofs.OneAnswer as one

pub one_chart : (text : List ℕ) (c d : ExtendedChart) → IsRead text c → IsRead text d → c ≡ d
one_chart text c d a b = a.spelled ∙ ap extended_of (one.one_draft text a.draft b.draft a.drafted b.drafted) ∙ sym b.spelled

pub no_fault : (text : List ℕ) (c : ExtendedChart) (b : FaultKind) (at : ℕ) → IsRead text c → ¬ IsTextFault text (fault.Text b at)
no_fault text c b at read = one.no_fault text read.draft b at read.drafted read.flawless

pub read_exactly : (text : List ℕ) (c : ExtendedChart) → IsRead text c → IsExact text (Ok c)
read_exactly text c read = record { spelled = λ d other. one_chart text c d read other; faulty = λ b at. no_fault text c b at read }

only_memory : (text : List ℕ) (f : ReadFault) → IsTextFault text f → (c : ExtendedChart) → IsRead text c → f ≡ fault.Memory
only_memory text (fault.Text b at) told c read = absurd (no_fault text c b at read told)
only_memory text fault.Memory told c read = refl

this_or_memory : (text : List ℕ) (f : ReadFault) → IsTextFault text f → (b : FaultKind) (at : ℕ) → IsTextFault text (fault.Text b at)
    → (f ≡ fault.Text b at) ⊎ (f ≡ fault.Memory)
this_or_memory text (fault.Text c place) told b at other =
    let same = one.one_fault text c b place at told other in inl (ap (λ x. fault.Text x place) same.0 ∙ ap (fault.Text b) same.1)
this_or_memory text fault.Memory told b at other = inr refl

pub faulty_exactly : (text : List ℕ) (f : ReadFault) → IsTextFault text f → IsExact text (Err f)
faulty_exactly text f told = record { spelled = only_memory text f told; faulty = this_or_memory text f told }
