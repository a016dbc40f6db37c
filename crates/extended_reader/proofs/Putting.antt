-- Reading a row of phrases, of which each puts what it adds behind what there was.
use Rattle.std.proofs.Common.{◌≡◌, ℕ, ◌+◌, ◌-◌, ◌≤◌, ◌<◌, true, false, List, [], ◌∷◌, ◌++◌, length, refl, sym, ◌∙◌, ap}
use Rattle.std.proofs.lemmas.List.{append_assoc, append-nil}
use Rattle.grammar.specs.Grammar.{one, many}
use Rattle.grammar.specs.Predictive.{first}
use Rattle.grammar.specs.Read.{Outcome, Got, starts, next, read}
use Rattle.sc_text.specs.declared.token.Token.{Token}
use Rattle.sc_text.specs.declared.read_fault.ReadFault.{ReadFault}
use Rattle.sc_text.specs.Classes.{Class}
use Rattle.sc_text.specs.Expression.{text_tokens, before}
use Rattle.sc_text.specs.Reading.{Stops, Takes}
use Rattle.sc_text.proofs.Steps.{next_stops}
use Rattle.chart_reader.specs.declared.text_drafts.draft.DraftTransition.{DraftTransition}
use Rattle.chart_reader.specs.ChartText.{Grows, listed}
use Rattle.chart_reader.specs.Phrase.{Gives}
use Rattle.chart_reader.proofs.Parts.{before_gives, before_stops_second}
use Rattle.chart_reader.proofs.RowReading.{many_goes, listed_goes, going_ends, going_over, going_stops, going_on}
use Rattle.extended_reader.specs.declared.text_drafts.draft.DraftWay.{DraftWay}
use Rattle.extended_reader.specs.declared.text_drafts.draft.DraftRows.{DraftRows}
use Rattle.extended_reader.specs.Draft.{both_rows, all_rows, gathered, parted}
use Rattle.extended_reader.specs.Inside.TextDrafts.{Puts, IsPutting, put_each, put_way, put_ways, put_part, put_parts}

module _ {A S : Type 0} (put : A → S → S) where
  put_more : (s : S) (xs : List A) (x : A) → put_each put s (xs ++ x ∷ []) ≡ put x (put_each put s xs)
  put_more s [] x = refl
  put_more s (y ∷ xs) x = put_more (put y s) xs x

  module _ (g : Grows A) (ks : List Class) where
    pub put_none : first g ≡ ks → (text : List Token) (most : ℕ) (s : S) → most ≡ length text → IsPutting (read (many g) text) g ks put s s (most - 0) text
    put_none b text most s e = record { done = []; going = many_goes g ks b text most [] e refl; behind = refl }

    pub put_first : first g ≡ ks → (h : Grows A) (text rest : List Token) (most : ℕ) (old s : S) → Puts (read h text) put old s rest → most ≡ length rest
        → IsPutting (read (listed h g) text) g ks put old s (most - 0) rest
    put_first b h text rest most old s p e =
        record {
          done = p.part ∷ [];
          going = listed_goes g ks b h text rest p.part most [] (p.part ∷ []) (record { is = p.is }) e refl refl;
          behind = p.behind;
        }

    module _ (o : Outcome Token (List A)) (old s : S) where
      pub putting_on : (new : S) (most used : ℕ) (rest after : List Token) → used < most → IsPutting o g ks put old s (most - used) rest
          → starts text_tokens ks rest ≡ true → Puts (read g rest) put s new after → IsPutting o g ks put old new (most - (used + 1)) after
      putting_on new most used rest after lt i e p =
          record {
            done = i.done ++ p.part ∷ [];
            going = going_on g ks o i.done most used rest after p.part (i.done ++ p.part ∷ []) lt i.going e (record { is = p.is }) refl;
            behind = p.behind ∙ ap (put p.part) i.behind ∙ sym (put_more old i.done p.part);
          }

      module _ {B : Type 0} (F : List A → B) (whole : B → S → S) (same : (xs : List A) (s : S) → put_each put s xs ≡ whole (F xs) s) where
        pub putting_ends : (left : ℕ) (rest : List Token) → IsPutting o g ks put old s left rest → starts text_tokens ks rest ≡ false
            → Puts (next o (λ xs r. Got (F xs) r)) whole old s rest
        putting_ends left rest i e =
            let r = going_ends g ks o i.done left rest i.going e in
            record { part = F i.done; is = ap (λ p. next p (λ xs r. Got (F xs) r)) r.is; behind = i.behind ∙ same i.done old }

        pub putting_over : (most used : ℕ) (rest : List Token) → most ≤ used → IsPutting o g ks put old s (most - used) rest
            → Puts (next o (λ xs r. Got (F xs) r)) whole old s rest
        putting_over most used rest le i =
            let r = going_over g ks o i.done most used rest le i.going in
            record { part = F i.done; is = ap (λ p. next p (λ xs r. Got (F xs) r)) r.is; behind = i.behind ∙ same i.done old }

        pub putting_stops : (most used : ℕ) (rest : List Token) (end : ℕ) (f : ReadFault) → used < most → IsPutting o g ks put old s (most - used) rest
            → starts text_tokens ks rest ≡ true → Stops end (read g rest) f → Stops end (next o (λ xs r. Got (F xs) r)) f
        putting_stops most used rest end f lt i e t =
            next_stops end o (λ xs r. Got (F xs) r) f (going_stops g ks o i.done most used rest end f lt i.going e t)

-- ---- transitions with what is new of them

pub ways_put : (xs : List (DraftTransition × DraftWay)) (s : List DraftTransition × List DraftWay) → put_each put_way s xs ≡ put_ways (parted xs) s
ways_put [] s = ap (λ l. (l, s.1)) (sym (append-nil s.0)) ∙ ap (λ l. (s.0 ++ [], l)) (sym (append-nil s.1))
ways_put (x ∷ xs) s =
    ways_put xs (put_way x s)
    ∙ ap (λ l. (l, (s.1 ++ x.1 ∷ []) ++ (parted xs).1)) (append_assoc s.0 (x.0 ∷ []) (parted xs).0)
    ∙ ap (λ l. (s.0 ++ x.0 ∷ (parted xs).0, l)) (append_assoc s.1 (x.1 ∷ []) (parted xs).1)

pub both_put : (o : Outcome Token (DraftTransition × DraftWay)) (x : DraftTransition) (y : DraftWay) (rest : List Token) (ts new : List DraftTransition)
    (ways all : List DraftWay) → Gives o (x, y) rest → new ≡ ts ++ x ∷ [] → all ≡ ways ++ y ∷ [] → Puts o put_way (ts, ways) (new, all) rest
both_put o x y rest ts new ways all r e f =
    record { part = (x, y); is = r.is; behind = ap (λ l. (l, all)) e ∙ ap (λ l. (ts ++ x ∷ [], l)) f }

-- ---- before a token

module _ {A S : Type 0} (ks : List Class) (g : Grows A) (put : A → S → S) (text mid : List Token) (old new : S) (p : Puts (read g text) put old new mid) where
  pub before_puts : (rest : List Token) → Takes (read (one {L = text_tokens} ks) mid) rest → Puts (read (before g ks) text) put old new rest
  before_puts rest t =
      let r = before_gives ks g text mid rest p.part (record { is = p.is }) t in record { part = p.part; is = r.is; behind = p.behind }

  pub before_puts_stops : (end : ℕ) (f : ReadFault) → Stops end (read (one {L = text_tokens} ks) mid) f → Stops end (read (before g ks) text) f
  before_puts_stops end f s = before_stops_second ks g text mid p.part end f (record { is = p.is }) s

-- ---- parts with their rows

pub both_assoc : (r s t : DraftRows) → both_rows (both_rows r s) t ≡ both_rows r (both_rows s t)
both_assoc r s t =
    ap (λ l. record { entries = l; ways = (r.ways ++ s.ways) ++ t.ways }) (append_assoc r.entries s.entries t.entries)
    ∙ ap (λ l. record { entries = r.entries ++ (s.entries ++ t.entries); ways = l }) (append_assoc r.ways s.ways t.ways)

pub both_none : (r : DraftRows) → both_rows r (all_rows []) ≡ r
both_none r =
    ap (λ l. record { entries = l; ways = r.ways ++ [] }) (append-nil r.entries)
    ∙ ap (λ l. record { entries = r.entries; ways = l }) (append-nil r.ways)

pub parts_put : {A : Type 0} (xs : List (A × DraftRows)) (s : List A × DraftRows) → put_each put_part s xs ≡ put_parts (gathered xs) s
parts_put [] s = ap (λ l. (l, s.1)) (sym (append-nil s.0)) ∙ ap (λ l. (s.0 ++ [], l)) (sym (both_none s.1))
parts_put (x ∷ xs) s =
    parts_put xs (put_part x s)
    ∙ ap (λ l. (l, both_rows (both_rows s.1 x.1) (gathered xs).1)) (append_assoc s.0 (x.0 ∷ []) (gathered xs).0)
    ∙ ap (λ l. (s.0 ++ x.0 ∷ (gathered xs).0, l)) (both_assoc s.1 x.1 (gathered xs).1)
