-- Reading infix operators: what one round of the loop over operands adds, and where it stops.
use Rattle.std.proofs.Common.{◌≡◌, ℕ, zero, suc, ◌<◌, Bool, ◌||◌, true, false, Some, None, List, [], ◌∷◌, ◌++◌, length, refl, sym, ◌∙◌, ap, subst, arith}
use Rattle.std.proofs.lemmas.List.{append_assoc, append-nil}
use Rattle.sc_values.specs.declared.operator.BinaryOperator.{BinaryOperator}
use Rattle.grammar.specs.Grammar.{Grammar, is_in, one}
use Rattle.grammar.specs.Predictive.{first}
use Rattle.grammar.specs.Read.{Wrong, Outcome, Got, Failed, starts, next, choose, read_each, read}
use Rattle.sc_text.specs.declared.token.Token.{Token}
use Rattle.sc_text.specs.declared.operation.TextOperation.{TextOperation}
use Rattle.sc_text.specs.declared.operation.TextOperation.TheVariants as op
use Rattle.sc_text.specs.declared.read_fault.ReadFault.{ReadFault}
use Rattle.sc_text.specs.declared.sign.Sign.TheVariants as sign
use Rattle.sc_text.specs.declared.level.Level.{Level}
use Rattle.sc_text.specs.declared.level.Level.TheVariants as level
use Rattle.sc_text.specs.Classes.{Class, TheSign, class_of, same_class, class_same}
use Rattle.sc_text.specs.Phrases.{Phrase, all_of, none_or_it}
use Rattle.sc_text.specs.Expression.{text_tokens, right, chain, comparisons, Inner, unary, quotient, factor, product, sum, comparison, conjunction, disjunction}
use Rattle.sc_text.specs.Levels.{operators, operand, behind_operand, begins_behind, quotients, divisions, whole, TakesOperator, IsGoing}
use Rattle.sc_text.specs.Reading.{Stops, Reads}
use Rattle.sc_text.proofs.Steps.{next_stops, stops_as, seq_got, seq_stops_first, seq_stops_second}

-- ---- an operator and its right operand

module _ (ks : List Class) (g : Grammar text_tokens Phrase) where
  pub right_stops_at_operand : (end : ℕ) (text more : List Token) (o : BinaryOperator) (f : ReadFault)
      → TakesOperator (read (one {L = text_tokens} ks) text) o more → Stops end (read g more) f → Stops end (read (right ks g) text) f
  right_stops_at_operand end text more o f t s = seq_stops_second _ (one ks) g end text more t.token f t.is s

  pub right_reads_both : (text more rest : List Token) (o : BinaryOperator) (old mid new : List TextOperation)
      → TakesOperator (read (one {L = text_tokens} ks) text) o more → Reads (read g more) old mid rest → new ≡ mid ++ op.Binary o ∷ []
      → Reads (read (right ks g) text) old new rest
  right_reads_both text more rest o old mid new t r b =
      record {
        phrase = r.phrase ++ op.Binary o ∷ [];
        is = seq_got _ (one ks) g text more rest t.token r.phrase t.is r.is ∙ ap (λ v. Got (r.phrase ++ op.Binary v ∷ []) rest) (sym t.writes);
        behind = b ∙ ap (λ m. m ++ op.Binary o ∷ []) r.behind ∙ append_assoc old r.phrase (op.Binary o ∷ []);
      }

starts_none : (text : List Token) → starts text_tokens [] text ≡ false
starts_none [] = refl
starts_none (t ∷ text) = refl

starts_got : (ks : List Class) (text rest : List Token) (t : Token) → read (one {L = text_tokens} ks) text ≡ Got t rest → starts text_tokens ks text ≡ true
starts_got ks [] rest t e = absurd cc
starts_got ks (u ∷ text) rest t e = by_test (is_in text_tokens ks (class_of u.kind)) e
  where
    by_test : (b : Bool) → choose b (Got u text) (Failed Wrong (u ∷ text)) ≡ Got t rest → b ≡ true
    by_test true h = refl
    by_test false h = absurd cc

is_division : (c : Class) → is_in text_tokens divisions c ≡ true → is_in text_tokens (TheSign sign.Star ∷ []) c ≡ false
is_division c e = by_tests (same_class (TheSign sign.Slash) c) (same_class (TheSign sign.Percent) c) (class_same (TheSign sign.Slash) c).0
    (class_same (TheSign sign.Percent) c).0 e
  where
    by_tests : (a b : Bool) → (a ≡ true → TheSign sign.Slash ≡ c) → (b ≡ true → TheSign sign.Percent ≡ c) → (a || (b || false)) ≡ true
        → is_in text_tokens (TheSign sign.Star ∷ []) c ≡ false
    by_tests true b h i e = subst (λ d. is_in text_tokens (TheSign sign.Star ∷ []) d ≡ false) (h refl) refl
    by_tests false true h i e = subst (λ d. is_in text_tokens (TheSign sign.Star ∷ []) d ≡ false) (i refl) refl
    by_tests false false h i e = absurd cc

not_star : (text : List Token) → starts text_tokens divisions text ≡ true → starts text_tokens (TheSign sign.Star ∷ []) text ≡ false
not_star [] e = refl
not_star (t ∷ text) e = is_division (class_of t.kind) e

-- ---- a level's operator and operand, or a division

divided_read : (l : Level) (i : Inner) (text : List Token) → starts text_tokens (quotients l) text ≡ true → read (behind_operand l i) text ≡ read quotient text
unfolding factor
divided_read level.Disjunction i text e = let none = starts_none text in absurd cc
divided_read level.Conjunction i text e = let none = starts_none text in absurd cc
divided_read level.Sum i text e = let none = starts_none text in absurd cc
divided_read level.Product i text e =
    ap (λ b. choose b (read (right (TheSign sign.Star ∷ []) (unary i)) text) (read quotient text)) (not_star text e)

pub divided_stops : (l : Level) (i : Inner) (text : List Token) (end : ℕ) (f : ReadFault) → starts text_tokens (quotients l) text ≡ true
    → Stops end (read quotient text) f → Stops end (read (behind_operand l i) text) f
divided_stops l i text end f e s = stops_as end _ _ f (divided_read l i text e) s

pub divided_reads : (l : Level) (i : Inner) (text rest : List Token) (old new : List TextOperation) → starts text_tokens (quotients l) text ≡ true
    → Reads (read quotient text) old new rest → Reads (read (behind_operand l i) text) old new rest
divided_reads l i text rest old new e r = record { phrase = r.phrase; is = divided_read l i text e ∙ r.is; behind = r.behind }

operator_read : (l : Level) (i : Inner) (text : List Token) → starts text_tokens (operators l) text ≡ true → read (behind_operand l i) text
    ≡ read (right (operators l) (operand l i)) text
unfolding factor
operator_read level.Disjunction i text e = refl
operator_read level.Conjunction i text e = refl
operator_read level.Sum i text e = refl
operator_read level.Product i text e =
    ap (λ b. choose b (read (right (TheSign sign.Star ∷ []) (unary i)) text) (read quotient text)) e

wrong_one : (ks : List Class) (text : List Token) → starts text_tokens ks text ≡ false → read (one {L = text_tokens} ks) text ≡ Failed Wrong text
wrong_one ks [] e = refl
wrong_one ks (t ∷ text) e = ap (λ b. choose b (Got t text) (Failed Wrong (t ∷ text))) e

-- neither a product nor a division goes on
no_factor : (i : Inner) (text : List Token) (end : ℕ) (f : ReadFault) (b : Bool) → starts text_tokens (TheSign sign.Star ∷ []) text ≡ b
    → starts text_tokens divisions text ≡ false → Stops end (read (one {L = text_tokens} (TheSign sign.Star ∷ [])) text) f → Stops end (read (factor i) text) f
unfolding factor quotient
no_factor i text end f true e d s =
    stops_as end _ _ f (ap (λ b. choose b (read (right (TheSign sign.Star ∷ []) (unary i)) text) (read quotient text)) e)
    (seq_stops_first _ (one (TheSign sign.Star ∷ [])) (unary i) end text f s)
no_factor i text end f false e d s =
    stops_as end _ _ f (ap (λ b. choose b (read (right (TheSign sign.Star ∷ []) (unary i)) text) (read quotient text)) e)
    (next_stops end _ _ f (next_stops end _ _ f
    (stops_as end (read (one {L = text_tokens} divisions) text) (read (one {L = text_tokens} (TheSign sign.Star ∷ [])) text) f
    (wrong_one divisions text d ∙ sym (wrong_one (TheSign sign.Star ∷ []) text e)) s)))

pub operator_stops : (l : Level) (i : Inner) (text : List Token) (end : ℕ) (f : ReadFault) → starts text_tokens (quotients l) text ≡ false
    → Stops end (read (one {L = text_tokens} (operators l)) text) f → Stops end (read (behind_operand l i) text) f
operator_stops level.Disjunction i text end f e s = seq_stops_first _ (one (operators level.Disjunction)) (conjunction i) end text f s
operator_stops level.Conjunction i text end f e s = seq_stops_first _ (one (operators level.Conjunction)) (operand level.Conjunction i) end text f s
operator_stops level.Sum i text end f e s = seq_stops_first _ (one (operators level.Sum)) (product i) end text f s
operator_stops level.Product i text end f e s = no_factor i text end f (starts text_tokens (TheSign sign.Star ∷ []) text) refl e s

pub right_stops : (l : Level) (i : Inner) (text more : List Token) (o : BinaryOperator) (end : ℕ) (f : ReadFault)
    → TakesOperator (read (one {L = text_tokens} (operators l)) text) o more → Stops end (read (operand l i) more) f
    → Stops end (read (behind_operand l i) text) f
right_stops l i text more o end f t s =
    stops_as end _ _ f (operator_read l i text (starts_got (operators l) text more t.token t.is))
    (right_stops_at_operand (operators l) (operand l i) end text more o f t s)

pub right_reads : (l : Level) (i : Inner) (text more rest : List Token) (o : BinaryOperator) (old mid new : List TextOperation)
    → TakesOperator (read (one {L = text_tokens} (operators l)) text) o more → Reads (read (operand l i) more) old mid rest → new ≡ mid ++ op.Binary o ∷ []
    → Reads (read (behind_operand l i) text) old new rest
right_reads l i text more rest o old mid new t r b =
    let both = right_reads_both (operators l) (operand l i) text more rest o old mid new t r b in
    record { phrase = both.phrase; is = operator_read l i text (starts_got (operators l) text more t.token t.is) ∙ both.is; behind = both.behind }

-- ---- all operands of a level

whole_is : (l : Level) (i : Inner) → whole l i ≡ chain (operand l i) (behind_operand l i)
unfolding disjunction conjunction sum product
whole_is level.Disjunction i = refl
whole_is level.Conjunction i = refl
whole_is level.Sum i = refl
whole_is level.Product i = refl

first_behind : (l : Level) (i : Inner) → first (behind_operand l i) ≡ begins_behind l
unfolding factor quotient
first_behind level.Disjunction i = refl
first_behind level.Conjunction i = refl
first_behind level.Sum i = refl
first_behind level.Product i = refl

abbrev paired : {A B : Type 0} → A → B → A × B
paired a b = (a, b)

both_next : (p : Phrase) (o : Outcome Token (List Phrase)) → next (next o (λ b end. Got (paired p b) end)) (λ x r. Got (x.0 ++ all_of x.1) r)
    ≡ next o (λ xs end. Got (p ++ all_of xs) end)
both_next p (Got xs rest) = refl
both_next p (Failed flaw rest) = refl

pub going_first_stops : (l : Level) (i : Inner) (text : List Token) (end : ℕ) (f : ReadFault) → Stops end (read (operand l i) text) f
    → Stops end (read (whole l i) text) f
going_first_stops l i text end f s =
    stops_as end _ _ f (ap (λ g. read g text) (whole_is l i)) (next_stops end _ _ f (next_stops end (read (operand l i) text) _ f s))

pub going_first : (l : Level) (i : Inner) (text rest : List Token) (left : ℕ) (old new : List TextOperation) → left ≡ length rest
    → Reads (read (operand l i) text) old new rest → IsGoing (read (whole l i) text) old new l i left rest
going_first l i text rest left old new e r =
    record {
      done = r.phrase;
      is =
          ap (λ g. read g text) (whole_is l i)
          ∙ ap (λ o. next (next o (λ a rest. next (read_each (starts text_tokens (first (behind_operand l i))) (read (behind_operand l i)) (length rest) rest)
          (λ b end. Got (paired a b) end))) (λ x r. Got (x.0 ++ all_of x.1) r)) r.is
          ∙ both_next r.phrase (read_each (starts text_tokens (first (behind_operand l i))) (read (behind_operand l i)) (length rest) rest)
          ∙ ap (λ n. next (read_each (starts text_tokens (first (behind_operand l i))) (read (behind_operand l i)) n rest)
          (λ xs end. Got (r.phrase ++ all_of xs) end)) (sym e);
      behind = r.behind;
    }

ends_each : (begins : List Token → Bool) (reading : List Token → Outcome Token Phrase) (left : ℕ) (rest : List Token) → begins rest ≡ false
    → read_each begins reading left rest ≡ Got [] rest
ends_each begins reading zero rest e = refl
ends_each begins reading (suc n) rest e =
    ap (λ b. choose b (next (reading rest) (λ x r. next (read_each begins reading n r) (λ xs end. Got (x ∷ xs) end))) (Got [] rest)) e

module _ (o : Outcome Token Phrase) (old mid : List TextOperation) (l : Level) (i : Inner) where
  ended : (left : ℕ) (rest : List Token) → IsGoing o old mid l i left rest
      → read_each (starts text_tokens (first (behind_operand l i))) (read (behind_operand l i)) left rest ≡ Got [] rest → Reads o old mid rest
  ended left rest g e =
      record {
        phrase = g.done ++ [];
        is = g.is ∙ ap (λ q. next q (λ xs end. Got (g.done ++ all_of xs) end)) e;
        behind = g.behind ∙ ap (λ d. old ++ d) (sym (append-nil g.done));
      }

  pub going_ends : (left : ℕ) (rest : List Token) → IsGoing o old mid l i left rest → starts text_tokens (begins_behind l) rest ≡ false → Reads o old mid rest
  going_ends left rest g e =
      ended left rest g
      (ends_each (starts text_tokens (first (behind_operand l i))) (read (behind_operand l i)) left rest
      (ap (λ ks. starts text_tokens ks rest) (first_behind l i) ∙ e))

  pub going_over : (left : ℕ) (rest : List Token) → left ≡ 0 → IsGoing o old mid l i left rest → Reads o old mid rest
  going_over left rest z g =
      ended left rest g (ap (λ n. read_each (starts text_tokens (first (behind_operand l i))) (read (behind_operand l i)) n rest) z)

  one_round : (n : ℕ) (rest : List Token) → IsGoing o old mid l i (suc n) rest → (g : starts text_tokens (begins_behind l) rest ≡ true) → (done : Phrase)
      × (mid ≡ old ++ done)
      × (o ≡ next (next (read (behind_operand l i) rest)
      (λ x r. next (read_each (starts text_tokens (first (behind_operand l i))) (read (behind_operand l i)) n r) (λ xs end. Got (x ∷ xs) end)))
      (λ xs end. Got (done ++ all_of xs) end))
  one_round n rest g e = (
    g.done,
    g.behind,
    g.is
        ∙ ap (λ b. next (choose b
        (next (read (behind_operand l i) rest) (λ x r. next (read_each (starts text_tokens (first (behind_operand l i))) (read (behind_operand l i)) n r)
        (λ xs end. Got (x ∷ xs) end))) (Got [] rest)) (λ xs end. Got (g.done ++ all_of xs) end)) (ap (λ ks. starts text_tokens ks rest) (first_behind l i)
        ∙ e),
  )

  pub going_stops : (left : ℕ) (rest : List Token) (end : ℕ) (f : ReadFault) → 0 < left → IsGoing o old mid l i left rest
      → starts text_tokens (begins_behind l) rest ≡ true → Stops end (read (behind_operand l i) rest) f → Stops end o f
  going_stops zero rest end f m g e s = absurd (omega arith)
  going_stops (suc n) rest end f m g e s =
      let round = one_round n rest g e in
      stops_as end o _ f round.2 (next_stops end _ _ f (next_stops end (read (behind_operand l i) rest) _ f s))

  more_done : (done p : Phrase) (r : Outcome Token (List Phrase)) → next (next r (λ xs end. Got (p ∷ xs) end)) (λ xs end. Got (done ++ all_of xs) end)
      ≡ next r (λ xs end. Got ((done ++ p) ++ all_of xs) end)
  more_done done p (Got xs rest) = ap (λ d. Got d rest) (sym (append_assoc done p (all_of xs)))
  more_done done p (Failed flaw rest) = refl

  pub going_on : (left less : ℕ) (rest after : List Token) (new : List TextOperation) → left ≡ suc less → IsGoing o old mid l i left rest
      → starts text_tokens (begins_behind l) rest ≡ true → Reads (read (behind_operand l i) rest) mid new after → IsGoing o old new l i less after
  going_on left less rest after new m g e r =
      let round = one_round less rest (subst (λ n. IsGoing o old mid l i n rest) m g) e in
      record {
        done = round.0 ++ r.phrase;
        is =
            round.2
            ∙ ap (λ q. next (next q (λ x r. next (read_each (starts text_tokens (first (behind_operand l i))) (read (behind_operand l i)) less r)
            (λ xs end. Got (x ∷ xs) end))) (λ xs end. Got (round.0 ++ all_of xs) end)) r.is
            ∙ more_done round.0 r.phrase (read_each (starts text_tokens (first (behind_operand l i))) (read (behind_operand l i)) less after);
        behind = r.behind ∙ ap (λ m. m ++ r.phrase) round.1 ∙ append_assoc old round.0 r.phrase;
      }

-- ---- comparisons

maybe_read : (i : Inner) (p : Phrase) (text rest : List Token) → read (sum i) text ≡ Got p rest → read (comparison i) text
    ≡ next (next (choose (starts text_tokens comparisons rest) (next (read (right comparisons (sum i)) rest) (λ a r. Got (Some a) r)) (Got None rest))
    (λ b end. Got (paired p b) end)) (λ x r. Got (x.0 ++ none_or_it x.1) r)
unfolding comparison
maybe_read i p text rest e =
    ap (λ o. next (next o
    (λ a rest. next (choose (starts text_tokens comparisons rest) (next (read (right comparisons (sum i)) rest) (λ a r. Got (Some a) r)) (Got None rest))
    (λ b end. Got (paired a b) end))) (λ x r. Got (x.0 ++ none_or_it x.1) r)) e

compared_read : (i : Inner) (p : Phrase) (text rest : List Token) → read (sum i) text ≡ Got p rest → starts text_tokens comparisons rest ≡ true
    → read (comparison i) text ≡ next (next (next (read (right comparisons (sum i)) rest) (λ a r. Got (Some a) r)) (λ b end. Got (paired p b) end))
    (λ x r. Got (x.0 ++ none_or_it x.1) r)
compared_read i p text rest e s =
    maybe_read i p text rest e
    ∙ ap (λ b. next (next (choose b (next (read (right comparisons (sum i)) rest) (λ a r. Got (Some a) r)) (Got None rest)) (λ b end. Got (paired p b) end))
    (λ x r. Got (x.0 ++ none_or_it x.1) r)) s

module _ (i : Inner) (text : List Token) where
  pub first_sum_stops : (end : ℕ) (f : ReadFault) → Stops end (read (sum i) text) f → Stops end (read (comparison i) text) f
  unfolding comparison
  first_sum_stops end f s = next_stops end _ _ f (next_stops end (read (sum i) text) _ f s)

  pub lone_sum_reads : (rest : List Token) (old new : List TextOperation) → Reads (read (sum i) text) old new rest → starts text_tokens comparisons rest ≡ false
      → Reads (read (comparison i) text) old new rest
  lone_sum_reads rest old new r s =
      record {
        phrase = r.phrase ++ [];
        is = maybe_read i r.phrase text rest r.is
            ∙ ap (λ b. next (next (choose b (next (read (right comparisons (sum i)) rest) (λ a r. Got (Some a) r)) (Got None rest))
            (λ b end. Got (paired r.phrase b) end)) (λ x r. Got (x.0 ++ none_or_it x.1) r)) s;
        behind = r.behind ∙ ap (λ d. old ++ d) (sym (append-nil r.phrase));
      }

  pub second_sum_stops : (rest second : List Token) (o : BinaryOperator) (old new : List TextOperation) (end : ℕ) (f : ReadFault)
      → Reads (read (sum i) text) old new rest → starts text_tokens comparisons rest ≡ true
      → TakesOperator (read (one {L = text_tokens} comparisons) rest) o second → Stops end (read (sum i) second) f → Stops end (read (comparison i) text) f
  second_sum_stops rest second o old new end f r e t s =
      stops_as end _ _ f (compared_read i r.phrase text rest r.is e)
      (next_stops end _ _ f (next_stops end _ _ f (next_stops end _ _ f (right_stops_at_operand comparisons (sum i) end rest second o f t s))))

  pub compared_reads : (rest second after : List Token) (o : BinaryOperator) (old mid later new : List TextOperation) → Reads (read (sum i) text) old mid rest
      → starts text_tokens comparisons rest ≡ true → TakesOperator (read (one {L = text_tokens} comparisons) rest) o second
      → Reads (read (sum i) second) mid later after → new ≡ later ++ op.Binary o ∷ [] → Reads (read (comparison i) text) old new after
  compared_reads rest second after o old mid later new r e t q b =
      let both = right_reads_both comparisons (sum i) rest second after o mid later new t q b in
      record {
        phrase = r.phrase ++ both.phrase;
        is = compared_read i r.phrase text rest r.is e
            ∙ ap (λ q. next (next (next q (λ a r. Got (Some a) r)) (λ b end. Got (paired r.phrase b) end)) (λ x r. Got (x.0 ++ none_or_it x.1) r)) both.is;
        behind = both.behind ∙ ap (λ m. m ++ both.phrase) r.behind ∙ append_assoc old r.phrase both.phrase;
      }
