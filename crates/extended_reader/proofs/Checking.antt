-- What the first flaw of a draft tells of the text.
use Rattle.std.proofs.Common.{◌≡◌, ℕ, Some, None, List, [], inl, inr, ◌∙◌, ap, sym}
use Rattle.sc_text.specs.declared.read_fault.ReadFault.{ReadFault}
use Rattle.sc_text.specs.declared.read_fault.ReadFault.TheVariants as fault
use Rattle.sc_text.specs.declared.drafts.flaw.Flaw.{Flaw}
use Rattle.sc_text.specs.Told.{told_behind, told_of}
use Rattle.sc_text.specs.First.{first_behind}
use Rattle.sc_text.proofs.Firsts.{first_found, none_found}
use Rattle.sc_text.proofs.ToldInOrder.{told_both, told_found}
use Rattle.chart_reader.specs.Flaws.{chart_flaws}
use Rattle.extended_reader.specs.declared.text_drafts.draft.ExtendedDraft.{ExtendedDraft}
use Rattle.extended_reader.specs.Flaws.{new_flaws, extended_flaws}
use Rattle.extended_reader.specs.Reading.{IsExtendedDraft, IsDraftFault}
use Rattle.extended_reader.specs.Checked.{IsSound, IsTextFault}

pub undrafted : (text : List ℕ) (f : ReadFault) → IsDraftFault text f → IsTextFault text f
undrafted text (fault.Text b at) s = inl s
undrafted text fault.Memory s = tt

pub flawed : (text : List ℕ) (d : ExtendedDraft) (f : Flaw) → IsExtendedDraft text d → Some f ≡ first_behind None (extended_flaws d)
    → IsTextFault text (fault.Text f.broken f.at)
flawed text d f s e = inr (record { draft = d; drafted = s; first = first_found (extended_flaws d) f (sym e) })

pub sound : (text : List ℕ) (d : ExtendedDraft) → IsExtendedDraft text d → None ≡ first_behind None (extended_flaws d) → IsSound text d
sound text d s e = record { drafted = s; flawless = none_found (extended_flaws d) (sym e) }

pub both_told : (d : ExtendedDraft) (f0 f1 : List Flaw) → f0 ≡ told_of (chart_flaws d.core) → f1 ≡ told_behind f0 (new_flaws d)
    → f1 ≡ told_of (extended_flaws d)
both_told d f0 f1 e f =
    f ∙ ap (λ g. told_behind g (new_flaws d)) (e ∙ sym (told_found (chart_flaws d.core)))
    ∙ sym (told_both [] (chart_flaws d.core) (new_flaws d)) ∙ told_found (extended_flaws d)
