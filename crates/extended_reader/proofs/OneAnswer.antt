-- A text has one answer: one draft, or one fault, and not both.
use Rattle.std.proofs.Common.{◌≡◌, ℕ, List, [], length, sym, ◌∙◌, ap, subst, inl, inr}
use Rattle.extended_reader.specs.Comments.{without_comments}
use Rattle.grammar.specs.Read.{Got, Failed, read_all}
use Rattle.grammar.proofs.Told.{told_spelled, told_fault}
use Rattle.sc_text.specs.declared.language.Language.TheVariants as language
use Rattle.sc_text.specs.declared.token.Token.{Token}
use Rattle.sc_text.specs.Tokens.{AreTokens}
use Rattle.extended_reader.specs.Answer.{Answer, Good, Bad}
use Rattle.extended_reader.specs.Modules.{plain_text}
use Rattle.sc_text.specs.declared.read_fault.FaultKind.{FaultKind}
use Rattle.sc_text.specs.declared.read_fault.ReadFault.TheVariants as fault
use Rattle.sc_text.specs.Reading.{broken_by, place_of}
use Rattle.sc_text.proofs.OneCut as cut
use Rattle.sc_text.proofs.OneCut.{one_list}
use Rattle.sc_text.specs.First.{IsFirst}
use Rattle.sc_text.proofs.OneFirst.{one_first, no_first}
use Rattle.extended_reader.specs.declared.text_drafts.draft.ExtendedDraft.{ExtendedDraft}
use Rattle.extended_reader.specs.ExtendedText.{extended_text}
use Rattle.extended_reader.specs.Reading.{IsExtendedDraft, IsModuleFault, IsGrammarFault, IsDraftFault}
use Rattle.extended_reader.specs.Flaws.{extended_flaws}
use Rattle.extended_reader.specs.Checked.{IsTextFault}
use Rattle.extended_reader.proofs.Deepens.{is_language}

module _ (text : List ℕ) where
  abbrev Cut : List Token → Type 0
  Cut tokens = AreTokens language.Chart 0 (without_comments text) tokens

  abbrev plain_of : List Token → Answer (List Token)
  plain_of tokens = plain_text (length text) tokens

  -- the tokens of the text are told once
  one_told : (tokens others : List Token) (a b : Answer (List Token)) → Cut tokens → Cut others → plain_of tokens ≡ a → plain_of others ≡ b → a ≡ b
  one_told tokens others a b cut other e f =
      sym e ∙ ap plain_of (one_list language.Chart (without_comments text) tokens others cut other) ∙ f

  one_plain : (tokens others plain left : List Token) → Cut tokens → Cut others → plain_of tokens ≡ Good plain → plain_of others ≡ Good left → plain ≡ left
  one_plain tokens others plain left cut other e f =
      let both : Good plain ≡ Good left = one_told tokens others (Good plain) (Good left) cut other e f in cc

  good_or_bad : (tokens others plain : List Token) (b : FaultKind) (at : ℕ) → Cut tokens → Cut others → plain_of tokens ≡ Good plain
      → ¬ (plain_of others ≡ Bad b at)
  good_or_bad tokens others plain b at cut other e f =
      let both : Good plain ≡ Bad b at = one_told tokens others (Good plain) (Bad b at) cut other e f in absurd (cc)

  one_module_fault : (b c : FaultKind) (at place : ℕ) → IsModuleFault text b at → IsModuleFault text c place → (b ≡ c) × (at ≡ place)
  one_module_fault b c at place f h =
      let both : Bad b at ≡ Bad c place = one_told f.tokens h.tokens (Bad b at) (Bad c place) f.cut h.cut f.is h.is in
      let kinds : b ≡ c = cc in
      let places : at ≡ place = cc in
      (kinds, places)

  one_grammar_fault : (b c : FaultKind) (at place : ℕ) → IsGrammarFault text b at → IsGrammarFault text c place → (b ≡ c) × (at ≡ place)
  one_grammar_fault b c at place f h =
      let same : f.plain ≡ h.plain = one_plain f.tokens h.tokens f.plain h.plain f.cut h.cut f.without h.without in
      let stop : read_all (extended_text 0) f.plain ≡ Failed f.flaw f.rest = told_fault extended_text is_language f.plain f.rest f.flaw f.faulty in
      let again : read_all (extended_text 0) h.plain ≡ Failed h.flaw h.rest = told_fault extended_text is_language h.plain h.rest h.flaw h.faulty in
      let both : Failed f.flaw f.rest ≡ Failed h.flaw h.rest = sym stop ∙ ap (read_all (extended_text 0)) same ∙ again in
      let flaws : f.flaw ≡ h.flaw = cc in
      let rests : f.rest ≡ h.rest = cc in
      (f.breaks ∙ ap broken_by flaws ∙ sym h.breaks, f.place ∙ ap (place_of (length text)) rests ∙ sym h.place)

  no_grammar_fault : (d : ExtendedDraft) (b : FaultKind) (at : ℕ) → IsExtendedDraft text d → ¬ IsGrammarFault text b at
  no_grammar_fault d b at a f =
      let same : a.plain ≡ f.plain = one_plain a.tokens f.tokens a.plain f.plain a.cut f.cut a.without f.without in
      let read : read_all (extended_text 0) a.plain ≡ Got d [] = told_spelled extended_text is_language a.plain d a.spelled in
      let stop : read_all (extended_text 0) f.plain ≡ Failed f.flaw f.rest = told_fault extended_text is_language f.plain f.rest f.flaw f.faulty in
      let both : Got d [] ≡ Failed f.flaw f.rest = sym read ∙ ap (read_all (extended_text 0)) same ∙ stop in
      absurd (cc)

pub one_draft : (text : List ℕ) (d e : ExtendedDraft) → IsExtendedDraft text d → IsExtendedDraft text e → d ≡ e
one_draft text d e a b =
    let same : a.plain ≡ b.plain = one_plain text a.tokens b.tokens a.plain b.plain a.cut b.cut a.without b.without in
    let read : read_all (extended_text 0) a.plain ≡ Got d [] = told_spelled extended_text is_language a.plain d a.spelled in
    let again : read_all (extended_text 0) b.plain ≡ Got e [] = told_spelled extended_text is_language b.plain e b.spelled in
    let both : Got d [] ≡ Got e [] = sym read ∙ ap (read_all (extended_text 0)) same ∙ again in
    cc

no_draft_fault : (text : List ℕ) (d : ExtendedDraft) (b : FaultKind) (at : ℕ) → IsExtendedDraft text d → ¬ IsDraftFault text (fault.Text b at)
no_draft_fault text d b at a (inl f) = cut.no_fault language.Chart (without_comments text) a.tokens b at a.cut f
no_draft_fault text d b at a (inr (inl f)) = good_or_bad text a.tokens f.tokens a.plain b at a.cut f.cut a.without f.is
no_draft_fault text d b at a (inr (inr f)) = no_grammar_fault text d b at a f

one_draft_fault : (text : List ℕ) (b c : FaultKind) (at place : ℕ) → IsDraftFault text (fault.Text b at) → IsDraftFault text (fault.Text c place)
    → (b ≡ c) × (at ≡ place)
one_draft_fault text b c at place (inl f) (inl h) = cut.one_fault language.Chart (without_comments text) b c at place f h
one_draft_fault text b c at place (inl f) (inr (inl h)) = absurd (cut.no_fault language.Chart (without_comments text) h.tokens b at h.cut f)
one_draft_fault text b c at place (inl f) (inr (inr h)) = absurd (cut.no_fault language.Chart (without_comments text) h.tokens b at h.cut f)
one_draft_fault text b c at place (inr (inl f)) (inl h) = absurd (cut.no_fault language.Chart (without_comments text) f.tokens c place f.cut h)
one_draft_fault text b c at place (inr (inr f)) (inl h) = absurd (cut.no_fault language.Chart (without_comments text) f.tokens c place f.cut h)
one_draft_fault text b c at place (inr (inl f)) (inr (inl h)) = one_module_fault text b c at place f h
one_draft_fault text b c at place (inr (inl f)) (inr (inr h)) = absurd (good_or_bad text h.tokens f.tokens h.plain b at h.cut f.cut h.without f.is)
one_draft_fault text b c at place (inr (inr f)) (inr (inl h)) = absurd (good_or_bad text f.tokens h.tokens f.plain c place f.cut h.cut f.without h.is)
one_draft_fault text b c at place (inr (inr f)) (inr (inr h)) = one_grammar_fault text b c at place f h

pub no_fault : (text : List ℕ) (d : ExtendedDraft) (b : FaultKind) (at : ℕ) → IsExtendedDraft text d → extended_flaws d ≡ []
    → ¬ IsTextFault text (fault.Text b at)
no_fault text d b at a none (inl f) = no_draft_fault text d b at a f
no_fault text d b at a none (inr f) =
    no_first b at (extended_flaws f.draft) (ap extended_flaws (one_draft text f.draft d f.drafted a) ∙ none) f.first

pub one_fault : (text : List ℕ) (b c : FaultKind) (at place : ℕ) → IsTextFault text (fault.Text b at) → IsTextFault text (fault.Text c place)
    → (b ≡ c) × (at ≡ place)
one_fault text b c at place (inl f) (inl h) = one_draft_fault text b c at place f h
one_fault text b c at place (inl f) (inr h) = absurd (no_draft_fault text h.draft b at h.drafted f)
one_fault text b c at place (inr f) (inl h) = absurd (no_draft_fault text f.draft c place f.drafted h)
one_fault text b c at place (inr f) (inr h) =
    let same : extended_flaws h.draft ≡ extended_flaws f.draft = ap extended_flaws (one_draft text h.draft f.draft h.drafted f.drafted) in
    one_first (extended_flaws f.draft) b c at place f.first (subst (λ l. IsFirst l (record { broken = c; at = place })) same h.first)
