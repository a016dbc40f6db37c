-- What each name of a text keeps.
use Rattle.std.proofs.Common.{pos, negsuc, zero, suc, IsTrue, [], ◌∷◌}
use Rattle.grammar.specs.Grammar.{One, is_in}
use Rattle.grammar.proofs.Each.{Each, each_one}
use Rattle.sc_text.specs.declared.language.Language.{Language}
use Rattle.sc_text.specs.declared.token.TokenKind.{TokenKind}
use Rattle.sc_text.specs.declared.token.TokenKind.TheVariants as token
use Rattle.sc_text.specs.Classes.{AName, class_of}
use Rattle.sc_text.specs.Expression.{text_tokens}
use Rattle.sc_text.specs.Parts.{IsNameIn}
use Rattle.sc_text.proofs.WellTokens.{IsWellKind, IsWell}
use Rattle.sc_text.specs.DraftParts.{name_of}

name_well : (l : Language) (k : TokenKind) → IsWellKind l k → IsTrue (is_in text_tokens (AName ∷ []) (class_of k)) → IsNameIn l (name_of k)
name_well l (token.Name name) h c = h
name_well l (token.Number (pos zero)) h c = absurd (cc)
name_well l (token.Number (pos (suc n))) h c = absurd (cc)
name_well l (token.Number (negsuc n)) h c = absurd (cc)
name_well l (token.Word w) h c = absurd (cc)
name_well l (token.Sign s) h c = absurd (cc)

pub each_name : (l : Language) → Each {L = text_tokens} (IsWell l) (One (AName ∷ [])) (λ t. IsNameIn l (name_of t.kind))
each_name l = each_one (AName ∷ []) (λ t. IsNameIn l (name_of t.kind)) (λ t q c. name_well l t.kind q c)
