-- What the tokens of a text tell of the text.
use Rattle.std.proofs.Common.{◌≡◌, ℕ, List, [], ◌∷◌, length, inl, inr, refl, ◌∙◌, ap, subst, sym}
use Rattle.grammar.specs.Read.{Wrong, Got, Failed, next, ended, read, read_all}
use Rattle.grammar.specs.Fault.{Told}
use Rattle.grammar.proofs.Told.{told}
use Rattle.extended_reader.specs.Comments.{without_comments}
use Rattle.sc_text.specs.declared.language.Language.TheVariants as language
use Rattle.sc_text.specs.declared.token.Token.{Token}
use Rattle.sc_text.specs.declared.read_fault.ReadFault.{ReadFault}
use Rattle.sc_text.specs.declared.read_fault.ReadFault.TheVariants as fault
use Rattle.sc_text.specs.Tokens.{AreTokens, IsScanFault}
use Rattle.sc_text.specs.Reading.{Stops}
use Rattle.sc_text.proofs.Steps.{wrong_at, next_stops}
use Rattle.extended_reader.specs.Answer.{Good, Tells}
use Rattle.extended_reader.specs.Modules.{plain_text}
use Rattle.extended_reader.specs.declared.text_drafts.draft.ExtendedDraft.{ExtendedDraft}
use Rattle.extended_reader.specs.ExtendedText.{extended_text}
use Rattle.extended_reader.specs.Reading.{IsExtendedDraft, IsDraftFault}
use Rattle.chart_reader.specs.Phrase.{Gives}
use Rattle.extended_reader.proofs.Deepens.{is_language}

-- ---- an extended chart up to the end of its tokens

module _ (tokens : List Token) where
  pub whole_gives : (d : ExtendedDraft) (rest : List Token) → Gives (read (extended_text 0) tokens) d rest → rest ≡ []
      → Gives (read_all (extended_text 0) tokens) d []
  whole_gives d rest r e = record { is = ap (λ o. next o ended) (r.is ∙ ap (λ t. Got d t) e) }

  pub chart_stops : (end : ℕ) (f : ReadFault) → Stops end (read (extended_text 0) tokens) f → Stops end (read_all (extended_text 0) tokens) f
  chart_stops end f s = next_stops end (read (extended_text 0) tokens) ended f s

  more_wrong : (d : ExtendedDraft) (rest : List Token) → read (extended_text 0) tokens ≡ Got d rest → ¬ (rest ≡ []) → read_all (extended_text 0) tokens
      ≡ Failed Wrong rest
  more_wrong d [] e n = absurd (n refl)
  more_wrong d (t ∷ rest) e n = ap (λ o. next o ended) e

  pub more_stops : (d : ExtendedDraft) (rest : List Token) (end : ℕ) (f : ReadFault) → Gives (read (extended_text 0) tokens) d rest → ¬ (rest ≡ [])
      → f ≡ wrong_at end rest → Stops end (read_all (extended_text 0) tokens) f
  more_stops d rest end f r n w =
      subst (Stops end (read_all (extended_text 0) tokens)) (sym w)
      (record { flaw = Wrong; rest = rest; is = more_wrong d rest r.is n; breaks = refl; place = refl })

-- ---- the text of the tokens

module _ (text : List ℕ) where
  pub scanned : (f : ReadFault) → IsScanFault language.Chart (without_comments text) f → IsDraftFault text f
  scanned (fault.Text b at) s = inl s
  scanned fault.Memory s = tt

  module _ (tokens : List Token) (cut : AreTokens language.Chart 0 (without_comments text) tokens) where
    pub modules_wrong : (f : ReadFault) → Tells (plain_text (length text) tokens) f → IsDraftFault text f
    modules_wrong (fault.Text b at) t = inr (inl (record { tokens = tokens; cut = cut; is = t }))
    modules_wrong fault.Memory t = tt

    module _ (plain : List Token) (without : plain_text (length text) tokens ≡ Good plain) where
      pub drafted : (d : ExtendedDraft) → Gives (read_all (extended_text 0) plain) d [] → IsExtendedDraft text d
      drafted d r =
          record {
            tokens = tokens;
            cut = cut;
            plain = plain;
            without = without;
            spelled = (subst (Told extended_text plain) r.is (told extended_text is_language plain)).1;
          }

      pub stopped : (f : ReadFault) → Stops (length text) (read_all (extended_text 0) plain) f → IsDraftFault text f
      stopped (fault.Text b at) s =
          inr (inr (record {
            tokens = tokens;
            cut = cut;
            plain = plain;
            without = without;
            flaw = s.flaw;
            rest = s.rest;
            faulty = subst (Told extended_text plain) s.is (told extended_text is_language plain);
            breaks = s.breaks;
            place = s.place;
          }))
      stopped fault.Memory s = tt
