-- One piece more at the front of what is left of a text.
use Rattle.std.proofs.Common.{◌≡◌, ℕ, ◌+◌, ◌-◌, ◌*◌, ◌<◌, ◌≤◌, List, [], ◌∷◌, ◌++◌, length, take, drop, sym, ◌∙◌, ap, subst, arith}
use Rattle.std.proofs.lemmas.List.{take-append-drop, length-take-le, append_assoc, append-nil, length-drop, drop_all, drop-drop}
use Rattle.std.proofs.Math.Seq.{take-length}
use Rattle.std.specs.Prelude.{Option, Some, None, MatchOption}
use Rattle.sc_text.specs.declared.token.Token.{Token}
use Rattle.sc_text.specs.declared.token.TokenKind.{TokenKind}
use Rattle.sc_text.specs.declared.read_fault.FaultKind.{FaultKind}
use Rattle.sc_text.specs.declared.language.Language.{Language}
use Rattle.sc_text.specs.Tokens as scanned
use Rattle.sc_text.specs.Tokens.{AreTokens, IsFirstFault, IsPassed, IsRefused, Spells, written_behind}
use Rattle.sc_text.specs.Inside.{Cuts, IsNoStep, nothing, refused, token_at}

module _ (l : Language) (at n : ℕ) (text : List ℕ) (c : Cuts text n) where
  long : at + length (take n text) ≡ at + n
  long = ap (λ k. at + k) (length-take-le n text c.within)

  pub tokens_passed : (tokens : List Token) → IsPassed (take n text) → AreTokens l (at + n) (drop n text) tokens → AreTokens l at text tokens
  tokens_passed tokens p a =
      subst (λ t. AreTokens l at t tokens) (take-append-drop n text)
      (scanned.passes at (take n text) (drop n text) tokens c.piece p (subst (λ k. AreTokens l k (drop n text) tokens) (sym long) a))

  pub tokens_more : (k : TokenKind) (tokens : List Token) → Spells l (take n text) k → AreTokens l (at + n) (drop n text) tokens
      → AreTokens l at text (record { kind = k; at = at } ∷ tokens)
  tokens_more k tokens s a =
      subst (λ t. AreTokens l at t (record { kind = k; at = at } ∷ tokens)) (take-append-drop n text)
      (scanned.token at (take n text) (drop n text) k tokens c.piece s (subst (λ m. AreTokens l m (drop n text) tokens) (sym long) a))

  pub fault_passed : (b : FaultKind) (place : ℕ) → IsPassed (take n text) → IsFirstFault l (at + n) (drop n text) b place → IsFirstFault l at text b place
  fault_passed b place p a =
      subst (λ t. IsFirstFault l at t b place) (take-append-drop n text)
      (scanned.behind_passed at (take n text) (drop n text) b place c.piece p (subst (λ m. IsFirstFault l m (drop n text) b place) (sym long) a))

  pub fault_more : (k : TokenKind) (b : FaultKind) (place : ℕ) → Spells l (take n text) k → IsFirstFault l (at + n) (drop n text) b place
      → IsFirstFault l at text b place
  fault_more k b place s a =
      subst (λ t. IsFirstFault l at t b place) (take-append-drop n text)
      (scanned.behind_token at (take n text) (drop n text) k b place c.piece s (subst (λ m. IsFirstFault l m (drop n text) b place) (sym long) a))

  pub fault_here : (b : FaultKind) → IsRefused l (take n text) b → IsFirstFault l at text b at
  fault_here b r =
      subst (λ t. IsFirstFault l at t b at) (take-append-drop n text) (scanned.refused at (take n text) (drop n text) b c.piece r)

-- more digits write no smaller number
pub written_grows : (n : ℕ) (digits : List ℕ) → n ≤ written_behind n digits
written_grows n [] = omega arith
written_grows n (digit ∷ digits) =
    let more = written_grows (n * 10 + (digit - 48)) digits in
    omega arith

-- where no step is made, the first fault is here
pub fault_at : (l : Language) (at : ℕ) (text : List ℕ) (b : FaultKind) → 0 < length text → IsNoStep l text b → IsFirstFault l at text b at
fault_at l at text b some (refused n other c r) = fault_here l at n text c other r
fault_at l at [] b some (nothing h) = absurd (omega arith)
fault_at l at (first ∷ rest) b some (nothing h) = scanned.no_piece at first rest h

module _ (l : Language) (at n : ℕ) (bytes : List ℕ) (k : Option TokenKind) (c : Cuts (drop at bytes) n)
    (g : MatchOption k (IsPassed (take n (drop at bytes))) (λ t. Spells l (take n (drop at bytes)) t)) where
  behind : drop n (drop at bytes) ≡ drop (at + n) bytes
  behind = drop-drop n at bytes

  pub step_within : at ≤ length bytes → at + n ≤ length bytes
  step_within le = let h = c.within in let d = length-drop at bytes in omega arith

  kept_tokens : (o : Option TokenKind) → MatchOption o (IsPassed (take n (drop at bytes))) (λ t. Spells l (take n (drop at bytes)) t) → (more : List Token)
      → AreTokens l (at + n) (drop n (drop at bytes)) more → AreTokens l at (drop at bytes) (token_at at o ++ more)
  kept_tokens None h more a = tokens_passed l at n (drop at bytes) c more h a
  kept_tokens (Some t) h more a = tokens_more l at n (drop at bytes) c t more h a

  pub step_tokens : (tokens more : List Token) → ((rest : List Token) → AreTokens l at (drop at bytes) rest → AreTokens l 0 bytes (tokens ++ rest))
      → AreTokens l (at + n) (drop (at + n) bytes) more → AreTokens l 0 bytes ((tokens ++ token_at at k) ++ more)
  step_tokens tokens more done a =
      subst (λ t. AreTokens l 0 bytes t) (sym (append_assoc tokens (token_at at k) more))
      (done (token_at at k ++ more) (kept_tokens k g more (subst (λ t. AreTokens l (at + n) t more) (sym behind) a)))

  kept_fault : (o : Option TokenKind) → MatchOption o (IsPassed (take n (drop at bytes))) (λ t. Spells l (take n (drop at bytes)) t) →
      (b : FaultKind) (place : ℕ)
      → IsFirstFault l (at + n) (drop n (drop at bytes)) b place → IsFirstFault l at (drop at bytes) b place
  kept_fault None h b place a = fault_passed l at n (drop at bytes) c b place h a
  kept_fault (Some t) h b place a = fault_more l at n (drop at bytes) c t b place h a

  pub step_fault : (b : FaultKind) (place : ℕ) → (IsFirstFault l at (drop at bytes) b place → IsFirstFault l 0 bytes b place)
      → IsFirstFault l (at + n) (drop (at + n) bytes) b place → IsFirstFault l 0 bytes b place
  step_fault b place faulty a = faulty (kept_fault k g b place (subst (λ t. IsFirstFault l (at + n) t b place) (sym behind) a))

-- at the end nothing is left
pub tokens_end : (l : Language) (at : ℕ) (bytes : List ℕ) (tokens : List Token) → length bytes ≤ at
    → ((rest : List Token) → AreTokens l at (drop at bytes) rest → AreTokens l 0 bytes (tokens ++ rest)) → AreTokens l 0 bytes tokens
tokens_end l at bytes tokens past done =
    subst (λ t. AreTokens l 0 bytes t) (append-nil tokens)
    (done [] (subst (λ t. AreTokens l at t []) (sym (drop_all at bytes past)) (scanned.no_more at)))

-- what the slice of the text from a place on is
pub slice_rest : (at : ℕ) (bytes : List ℕ) → take (length bytes - at) (drop at bytes) ≡ drop at bytes
slice_rest at bytes = ap (λ n. take n (drop at bytes)) (sym (length-drop at bytes)) ∙ take-length (drop at bytes)
