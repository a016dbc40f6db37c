-- What reading gives for each rule of where transitions lead.
use Rattle.std.proofs.Common.{◌≡◌, ℕ, true, false, Option, Some, None, List, [], ◌∷◌, sym, subst}
use Rattle.grammar.specs.Grammar.{seq}
use Rattle.grammar.specs.Read.{starts, read}
use Rattle.sc_text.specs.declared.token.Token.{Token}
use Rattle.sc_text.specs.declared.read_fault.ReadFault.{ReadFault}
use Rattle.sc_text.specs.Classes.{AName}
use Rattle.sc_text.specs.Expression.{text_tokens}
use Rattle.sc_text.specs.Reading.{Stops}
use Rattle.sc_text.specs.declared.drafts.parts.Named.{Named}
use Rattle.chart_reader.specs.ChartText.{name}
use Rattle.chart_reader.specs.Phrase.{Gives}
use Rattle.chart_reader.proofs.Parts.{seq_gives, made_gives, maybe_none, maybe_some, maybe_stops}
use Rattle.extended_reader.specs.declared.text_drafts.draft.DraftLead.{DraftLead}
use Rattle.extended_reader.specs.Draft.{lead_of}
use Rattle.extended_reader.specs.ExtendedText.{two_names, two_more, lead}
use Rattle.extended_reader.proofs.Shapes.{two_names_are}

pub more_missing : (text : List Token) → starts text_tokens (AName ∷ []) text ≡ false → Gives (read two_more text) None text
unfolding two_more
more_missing text e = maybe_none two_names (AName ∷ []) two_names_are.begins text e

pub more_there : (text rest : List Token) (x : Named × Named) → starts text_tokens (AName ∷ []) text ≡ true → Gives (read two_names text) x rest
    → Gives (read two_more text) (Some x) rest
unfolding two_more
more_there text rest x e r = maybe_some two_names (AName ∷ []) two_names_are.begins text x rest e r

pub more_stops : (text : List Token) (end : ℕ) (f : ReadFault) → starts text_tokens (AName ∷ []) text ≡ true → Stops end (read two_names text) f
    → Stops end (read two_more text) f
unfolding two_more
more_stops text end f e s = maybe_stops two_names (AName ∷ []) two_names_are.begins text end f e s

pub lead_gives : (text a rest : List Token) (n : Named) (x : Option (Named × Named)) (l : DraftLead) → Gives (read name text) n a
    → Gives (read two_more a) x rest → l ≡ lead_of n x → Gives (read lead text) l rest
unfolding lead
lead_gives text a rest n x l p q e =
    subst (λ z. Gives (read lead text) z rest) (sym e)
    (made_gives (λ x. lead_of x.0 x.1) (seq name two_more) text (n, x) rest (seq_gives name two_more text a rest n x p q))
