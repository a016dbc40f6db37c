-- Names among the tokens.
use Rattle.std.proofs.Common.{◌≡◌, ℕ, false, true, List, [], ◌∷◌, drop, get_or, refl, sym, ◌∙◌, ap}
use Rattle.grammar.specs.Read.{Got, starts, read}
use Rattle.sc_text.specs.declared.token.Token.{Token}
use Rattle.sc_text.specs.declared.read_fault.ReadFault.{ReadFault}
use Rattle.sc_text.specs.Classes.{AName}
use Rattle.sc_text.specs.Expression.{text_tokens}
use Rattle.sc_text.specs.Reading.{Stops}
use Rattle.sc_text.proofs.Steps.{wrong_at, one_fails, one_got}
use Rattle.sc_text.specs.declared.drafts.parts.Named.{Named}
use Rattle.sc_text.specs.DraftParts.{name_of}
use Rattle.scl_reader.specs.Program.{name}
use Rattle.scl_reader.specs.Inside.TextDrafts.{TakesName}

pub no_name : (text : List Token) (end : ℕ) (f : ReadFault) → starts text_tokens (AName ∷ []) text ≡ false → f ≡ wrong_at end text
    → Stops end (read name text) f
no_name text end f e w = one_fails (AName ∷ []) text end f e w

pub name_taken : (text : List Token) (t d : Token) (called : List ℕ) → starts text_tokens (AName ∷ []) text ≡ true → t ≡ get_or text 0 d
    → called ≡ name_of t.kind → TakesName text (record { name = called; at = t.at })
name_taken [] t d called e g n = absurd cc
name_taken (u ∷ text) t d called e g n =
    record { token = t; is = one_got (AName ∷ []) u text e ∙ ap (λ v. Got v text) (sym g); means = ap (λ c. record { name = c; at = t.at }) n }

-- the tokens behind the name
pub name_got : (text rest : List Token) (called : Named) → (t : TakesName text called) → rest ≡ drop 1 text → read name text ≡ Got t.token rest
name_got text rest called t d = t.is ∙ ap (λ r. Got t.token r) (sym d)
