-- What reading gives for each rule of items.
use Rattle.std.proofs.Common.{◌≡◌, ℕ, ◌-◌, true, false, Option, Some, None, List, [], ◌∷◌, refl, sym, subst}
use Rattle.sc_values.specs.declared.value.Kind.{Kind}
use Rattle.sc_graph.specs.declared.program.Role.{Role}
use Rattle.grammar.specs.Grammar.{seq}
use Rattle.grammar.specs.Read.{starts, read}
use Rattle.sc_text.specs.declared.sign.Sign.TheVariants as sign
use Rattle.sc_text.specs.declared.token.Token.{Token}
use Rattle.sc_text.specs.declared.read_fault.ReadFault.{ReadFault}
use Rattle.sc_text.specs.Classes.{AName}
use Rattle.sc_text.specs.Phrases.{Phrase}
use Rattle.sc_text.specs.Expression.{text_tokens, after, expression}
use Rattle.sc_text.specs.Reading.{Stops}
use Rattle.sc_text.proofs.Shapes.{expression_is}
use Rattle.sc_text.proofs.Steps.{stops_as}
use Rattle.sc_text.specs.declared.drafts.parts.Named.{Named}
use Rattle.sc_text.specs.declared.drafts.parts.TextExpression.{TextExpression}
use Rattle.sc_text.specs.DraftParts.{roles}
use Rattle.chart_reader.specs.ChartText.{Grows, the_sign, declared_role, declared_kind, name, last_name, placed}
use Rattle.chart_reader.specs.Phrase.{Gives}
use Rattle.chart_reader.proofs.Parts.{seq_gives, made_gives, made_stops, maybe_none, maybe_some, maybe_stops, left_read}
use Rattle.chart_reader.proofs.Parts.{right_read, gives_as}
use Rattle.extended_reader.specs.declared.text_drafts.draft.ItemBody.{ItemBody}
use Rattle.extended_reader.specs.declared.text_drafts.draft.DraftItem.{DraftItem}
use Rattle.extended_reader.specs.Draft.{typed_body, signal_body, plain_item, worded_item}
use Rattle.extended_reader.specs.ExtendedText.{item_value, last_value, typed, signalled, bare_signal, plain_body, worded_body, plain, worded, item}
use Rattle.extended_reader.proofs.Shapes.{signalled_is, bare_signal_is, plain_is}

abbrev e0 : Grows Phrase
e0 = expression 0

pub value_missing : (text : List Token) → starts text_tokens (the_sign sign.Becomes) text ≡ false → Gives (read (item_value e0) text) None text
unfolding item_value
value_missing text e = maybe_none (after (the_sign sign.Becomes) (placed e0)) (the_sign sign.Becomes) refl text e

pub value_there : (text rest : List Token) (x : TextExpression) → starts text_tokens (the_sign sign.Becomes) text ≡ true
    → Gives (read (after (the_sign sign.Becomes) (placed e0)) text) x rest → Gives (read (item_value e0) text) (Some x) rest
unfolding item_value
value_there text rest x e r = maybe_some (after (the_sign sign.Becomes) (placed e0)) (the_sign sign.Becomes) refl text x rest e r

pub value_stops : (text : List Token) (end : ℕ) (f : ReadFault) → starts text_tokens (the_sign sign.Becomes) text ≡ true
    → Stops end (read (after (the_sign sign.Becomes) (placed e0)) text) f → Stops end (read (item_value e0) text) f
unfolding item_value
value_stops text end f e s = maybe_stops (after (the_sign sign.Becomes) (placed e0)) (the_sign sign.Becomes) refl text end f e s

-- ---- what is declared behind the first word

pub typed_gives : (text a b rest : List Token) (k : Kind) (n : Named) (v : Option TextExpression) → Gives (read declared_kind text) k a
    → Gives (read name a) n b → Gives (read (last_value e0) b) v rest → Gives (read (typed e0) text) (typed_body k n v) rest
unfolding typed
typed_gives text a b rest k n v x y z =
    made_gives (λ x. typed_body x.0 x.1.0 x.1.1) (seq declared_kind (seq name (last_value e0))) text (k, (n, v)) rest
    (seq_gives declared_kind (seq name (last_value e0)) text a rest k (n, v) x (seq_gives name (last_value e0) a b rest n v y z))

pub signalled_gives : (text a rest : List Token) (w n : Named) (b : ItemBody) → Gives (read name text) w a → Gives (read last_name a) n rest
    → b ≡ signal_body w n → Gives (read signalled text) b rest
unfolding signalled
signalled_gives text a rest w n b x y same =
    subst (λ z. Gives (read signalled text) z rest) (sym same)
    (made_gives (λ x. signal_body x.0 x.1) (seq name last_name) text (w, n) rest (seq_gives name last_name text a rest w n x y))

module _ (text : List Token) where
  pub is_signalled : starts text_tokens (AName ∷ []) text ≡ true → read (plain_body e0) text ≡ read signalled text
  unfolding plain_body
  is_signalled e = left_read signalled (AName ∷ []) signalled_is.begins text (typed e0) e

  pub is_plain_typed : starts text_tokens (AName ∷ []) text ≡ false → read (plain_body e0) text ≡ read (typed e0) text
  unfolding plain_body
  is_plain_typed e = right_read signalled (AName ∷ []) signalled_is.begins text (typed e0) e

  pub is_bare_signal : starts text_tokens (AName ∷ []) text ≡ true → read (worded_body e0) text ≡ read bare_signal text
  unfolding worded_body
  is_bare_signal e = left_read bare_signal (AName ∷ []) bare_signal_is.begins text (typed e0) e

  pub is_worded_typed : starts text_tokens (AName ∷ []) text ≡ false → read (worded_body e0) text ≡ read (typed e0) text
  unfolding worded_body
  is_worded_typed e = right_read bare_signal (AName ∷ []) bare_signal_is.begins text (typed e0) e

  pub bare_signal_read : (n : Named) (b : ItemBody) (rest : List Token) → starts text_tokens (AName ∷ []) text ≡ true
      → Gives (read last_name text) n rest → b ≡ signal_body n n → Gives (read (worded_body e0) text) b rest
  unfolding bare_signal
  bare_signal_read n b rest e g same =
      subst (λ z. Gives (read (worded_body e0) text) z rest) (sym same)
      (gives_as _ _ (signal_body n n) rest (is_bare_signal e) (made_gives (λ n. signal_body n n) last_name text n rest g))

  pub bare_signal_fails : (end : ℕ) (f : ReadFault) → starts text_tokens (AName ∷ []) text ≡ true → Stops end (read last_name text) f
      → Stops end (read (worded_body e0) text) f
  unfolding bare_signal
  bare_signal_fails end f e s = stops_as end _ _ f (is_bare_signal e) (made_stops (λ n. signal_body n n) last_name text end f s)

-- ---- items

pub plain_gives : (text a rest : List Token) (r : Role) (b : ItemBody) (x : DraftItem) → Gives (read declared_role text) r a
    → Gives (read (plain_body e0) a) b rest → x ≡ plain_item r b → Gives (read (plain e0) text) x rest
unfolding plain
plain_gives text a rest r b x p q e =
    subst (λ z. Gives (read (plain e0) text) z rest) (sym e)
    (made_gives (λ x. plain_item x.0 x.1) (seq declared_role (plain_body e0)) text (r, b) rest
    (seq_gives declared_role (plain_body e0) text a rest r b p q))

pub worded_gives : (text a rest : List Token) (w : Named) (b : ItemBody) (x : DraftItem) → Gives (read name text) w a
    → Gives (read (worded_body e0) a) b rest → x ≡ worded_item w b → Gives (read (worded e0) text) x rest
unfolding worded
worded_gives text a rest w b x p q e =
    subst (λ z. Gives (read (worded e0) text) z rest) (sym e)
    (made_gives (λ x. worded_item x.0 x.1) (seq name (worded_body e0)) text (w, b) rest (seq_gives name (worded_body e0) text a rest w b p q))

module _ (text : List Token) where
  pub is_plain : starts text_tokens roles text ≡ true → read (item e0) text ≡ read (plain e0) text
  unfolding item
  is_plain e = left_read (plain e0) roles (plain_is e0 (expression_is 0)).begins text (worded e0) e

  pub is_worded : starts text_tokens roles text ≡ false → read (item e0) text ≡ read (worded e0) text
  unfolding item
  is_worded e = right_read (plain e0) roles (plain_is e0 (expression_is 0)).begins text (worded e0) e
