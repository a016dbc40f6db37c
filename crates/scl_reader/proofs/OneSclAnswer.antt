-- A text has one answer: one draft, or one fault, and not both.
use Rattle.std.proofs.Common.{◌≡◌, ℕ, List, [], length, sym, ◌∙◌, ap, subst, inl, inr}
use Rattle.sc_text.specs.declared.language.Language.TheVariants as language
use Rattle.sc_text.specs.declared.read_fault.FaultKind.{FaultKind}
use Rattle.sc_text.specs.declared.read_fault.ReadFault.TheVariants as fault
use Rattle.sc_text.specs.Reading.{broken_by, place_of}
use Rattle.sc_text.proofs.OneCut as cut
use Rattle.sc_text.proofs.OneReading.{one_phrase, no_stop, one_stop}
use Rattle.sc_text.specs.First.{IsFirst}
use Rattle.sc_text.proofs.OneFirst.{one_first, no_first}
use Rattle.scl_reader.specs.declared.text_drafts.draft.Draft.{Draft}
use Rattle.scl_reader.specs.Program.{scl}
use Rattle.scl_reader.specs.Draft.{IsDraft, IsDraftFault, draft_of}
use Rattle.scl_reader.specs.Flaws.{scl_flaws}
use Rattle.scl_reader.specs.Checked.{IsTextFault}
use Rattle.scl_reader.proofs.Deepens.{is_language}

pub one_draft : (text : List ℕ) (d e : Draft) → IsDraft text d → IsDraft text e → d ≡ e
one_draft text d e a b =
    a.drafted
    ∙ ap draft_of (one_phrase language.Scl scl is_language text a.tokens b.tokens a.cut b.cut a.program b.program a.spelled b.spelled)
    ∙ sym b.drafted

no_draft_fault : (text : List ℕ) (d : Draft) (b : FaultKind) (at : ℕ) → IsDraft text d → ¬ IsDraftFault text (fault.Text b at)
no_draft_fault text d b at a (inl f) = cut.no_fault language.Scl text a.tokens b at a.cut f
no_draft_fault text d b at a (inr f) = no_stop language.Scl scl is_language text a.tokens f.tokens a.cut f.cut a.program f.flaw f.rest a.spelled f.faulty

one_draft_fault : (text : List ℕ) (b c : FaultKind) (at place : ℕ) → IsDraftFault text (fault.Text b at) → IsDraftFault text (fault.Text c place)
    → (b ≡ c) × (at ≡ place)
one_draft_fault text b c at place (inl f) (inl h) = cut.one_fault language.Scl text b c at place f h
one_draft_fault text b c at place (inl f) (inr h) = absurd (cut.no_fault language.Scl text h.tokens b at h.cut f)
one_draft_fault text b c at place (inr f) (inl h) = absurd (cut.no_fault language.Scl text f.tokens c place f.cut h)
one_draft_fault text b c at place (inr f) (inr h) =
    let s = one_stop language.Scl scl is_language text f.tokens h.tokens f.cut h.cut f.flaw h.flaw f.rest h.rest f.faulty h.faulty in
    (f.breaks ∙ ap broken_by s.flaws ∙ sym h.breaks, f.place ∙ ap (place_of (length text)) s.rests ∙ sym h.place)

pub no_fault : (text : List ℕ) (d : Draft) (b : FaultKind) (at : ℕ) → IsDraft text d → scl_flaws d ≡ [] → ¬ IsTextFault text (fault.Text b at)
no_fault text d b at a none (inl f) = no_draft_fault text d b at a f
no_fault text d b at a none (inr f) =
    no_first b at (scl_flaws f.draft) (ap scl_flaws (one_draft text f.draft d f.drafted a) ∙ none) f.first

pub one_fault : (text : List ℕ) (b c : FaultKind) (at place : ℕ) → IsTextFault text (fault.Text b at) → IsTextFault text (fault.Text c place)
    → (b ≡ c) × (at ≡ place)
one_fault text b c at place (inl f) (inl h) = one_draft_fault text b c at place f h
one_fault text b c at place (inl f) (inr h) = absurd (no_draft_fault text h.draft b at h.drafted f)
one_fault text b c at place (inr f) (inl h) = absurd (no_draft_fault text f.draft c place f.drafted h)
one_fault text b c at place (inr f) (inr h) =
    let same : scl_flaws h.draft ≡ scl_flaws f.draft = ap scl_flaws (one_draft text h.draft f.draft h.drafted f.drafted) in
    one_first (scl_flaws f.draft) b c at place f.first (subst (λ l. IsFirst l (record { broken = c; at = place })) same h.first)
