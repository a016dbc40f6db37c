-- What holds of each phrase that stands behind a token or before one.
use Rattle.std.proofs.Common.{List}
use Rattle.grammar.specs.Grammar.{Grammar, One}
use Rattle.grammar.proofs.Each.{Each, each_one, each_seq, each_made}
use Rattle.sc_text.specs.declared.token.Token.{Token}
use Rattle.sc_text.specs.Classes.{Class}
use Rattle.sc_text.specs.Expression.{text_tokens, after, before}

-- of a token, nothing
abbrev pub Anything : Token → Type 0
Anything t = Unit {0}

module _ {Q : Token → Type 0} where
  pub each_token : (classes : List Class) → Each {L = text_tokens} Q (One classes) Anything
  each_token classes = each_one classes Anything (λ t q c. tt)

  pub each_kept : (classes : List Class) → Each {L = text_tokens} Q (One classes) Q
  each_kept classes = each_one classes Q (λ t q c. q)

  pub each_after : {A : Type 0} (classes : List Class) (g : Grammar text_tokens A) (P : A → Type 0) → Each {L = text_tokens} Q g P
      → Each {L = text_tokens} Q (after classes g) P
  each_after classes g P a = each_made _ _ _ _ _ P (each_seq _ _ _ _ _ _ (each_token classes) a) (λ x h. h.1)

  pub each_before : {A : Type 0} (classes : List Class) (g : Grammar text_tokens A) (P : A → Type 0) → Each {L = text_tokens} Q g P
      → Each {L = text_tokens} Q (before g classes) P
  each_before classes g P a = each_made _ _ _ _ _ P (each_seq _ _ _ _ _ _ a (each_token classes)) (λ x h. h.0)
