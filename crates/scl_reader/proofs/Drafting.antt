-- What the tokens of a text tell of the text.
use Rattle.std.proofs.Common.{◌≡◌, ℕ, List, length, inl, inr, sym, ◌∙◌, ap, subst}
use Rattle.grammar.specs.Read.{read_all}
use Rattle.grammar.specs.Fault.{Told}
use Rattle.grammar.proofs.Told.{told}
use Rattle.sc_text.specs.declared.language.Language.TheVariants as language
use Rattle.sc_text.specs.declared.token.Token.{Token}
use Rattle.sc_text.specs.declared.read_fault.ReadFault.{ReadFault}
use Rattle.sc_text.specs.declared.read_fault.ReadFault.TheVariants as fault
use Rattle.sc_text.specs.Tokens.{AreTokens, IsScanFault}
use Rattle.sc_text.specs.Reading.{Stops, place_of}
use Rattle.scl_reader.specs.declared.text_drafts.draft.Draft.{Draft}
use Rattle.scl_reader.specs.Program.{scl}
use Rattle.scl_reader.specs.Draft.{IsDraft, IsDraftFault}
use Rattle.scl_reader.specs.Inside.TextDrafts.{Drafts}
use Rattle.scl_reader.proofs.Deepens.{is_language}

module _ (text : List ℕ) where
  pub scanned : (f : ReadFault) → IsScanFault language.Scl text f → IsDraftFault text f
  scanned (fault.Text b at) s = inl s
  scanned fault.Memory s = tt

  module _ (tokens slice : List Token) (same : slice ≡ tokens) (cut : AreTokens language.Scl 0 text tokens) where
    cut_so : AreTokens language.Scl 0 text slice
    cut_so = subst (AreTokens language.Scl 0 text) (sym same) cut

    pub drafted : (draft : Draft) → Drafts (read_all (scl 0) slice) draft → IsDraft text draft
    drafted draft d =
        record {
          tokens = slice;
          cut = cut_so;
          program = d.program;
          spelled = (subst (Told scl slice) d.is (told scl is_language slice)).1;
          drafted = d.drafted;
        }

    pub stopped : (end : ℕ) (f : ReadFault) → end ≡ length text → Stops end (read_all (scl 0) slice) f → IsDraftFault text f
    stopped end (fault.Text b at) e s =
        inr (record {
          tokens = slice;
          cut = cut_so;
          flaw = s.flaw;
          rest = s.rest;
          faulty = subst (Told scl slice) s.is (told scl is_language slice);
          breaks = s.breaks;
          place = s.place ∙ ap (λ n. place_of n s.rest) e;
        })
    stopped end fault.Memory e s = tt
