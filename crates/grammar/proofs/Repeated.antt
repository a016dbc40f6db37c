-- Phrases in a row keep what is asked of reading. No more of them stand in a text than it has tokens.
use Rattle.std.proofs.Common.{◌≡◌, ℕ, zero, suc, ◌+◌, ◌≤◌, ◌<◌, Bool, true, false, List, [], ◌∷◌, ◌++◌, ◌⊎◌, length, inl, inr, refl, sym, ◌∙◌, ap, subst, arith}
use Rattle.std.proofs.Common.{length-append}
use Rattle.std.proofs.lemmas.List.{append_assoc, append-nil}
use Rattle.grammar.specs.Grammar.{Tokens, each_spelled}
use Rattle.grammar.specs.Predictive.{union, disjoint}
use Rattle.grammar.specs.Read.{Flaw, Outcome, Got, Failed, starts, next, choose, read_each}
use Rattle.grammar.specs.Fault.{Begins}
use Rattle.grammar.proofs.Sets.{Alike, alike_behind, starts_behind, union_none, starts_apart}
use Rattle.grammar.proofs.Reading.{Verdict, good, bad, Reading, begins_some}
use Rattle.grammar.proofs.Parts.{same_way}

module _ (L : Tokens) (A : Type 0)
    (sa : List L.Token → A → Type 0) (ra : List L.Token → Outcome L.Token A) (oa ta : List L.Class) (a : Reading L A sa ra oa ta false)
    (d : disjoint L oa ta ≡ true) where
  abbrev each_r : ℕ → List L.Token → Outcome L.Token (List A)
  each_r n text = read_each (starts L oa) ra n text

  abbrev many_r : List L.Token → Outcome L.Token (List A)
  many_r text = each_r (length text) text

  abbrev then_each : ℕ → A → List L.Token → Outcome L.Token (List A)
  then_each n x rest = next (each_r n rest) (λ xs end. Got (x ∷ xs) end)

  sure : (front : List L.Token) (x : A) → sa front x → starts L oa front ≡ true
  sure = begins_some L A sa ra oa ta false a refl

  some_token : (front : List L.Token) → starts L oa front ≡ true → 0 < length front
  some_token [] h = absurd (cc)
  some_token (t ∷ front) h = omega arith

  -- one more phrase
  more_r : (n : ℕ) (text rest : List L.Token) (x : A) → starts L oa text ≡ true → ra text ≡ Got x rest → each_r (suc n) text ≡ then_each n x rest
  more_r n text rest x s e =
      ap (λ b. choose b (next (ra text) (then_each n)) (Got [] text)) s ∙ ap (λ o. next o (then_each n)) e

  no_more : (n : ℕ) (text : List L.Token) → starts L oa text ≡ false → each_r n text ≡ Got [] text
  no_more zero text s = refl
  no_more (suc n) text s = ap (λ b. choose b (next (ra text) (then_each n)) (Got [] text)) s

  row_stops : (second rest : List L.Token) (xs : List A) → each_spelled sa second xs → starts L (union L oa ta) rest ≡ false → starts L ta (second ++ rest)
      ≡ false
  row_stops second rest [] s h = subst (λ f. starts L ta (f ++ rest) ≡ false) (sym s) (union_none L oa ta rest h).1
  row_stops second rest (x ∷ xs) s h =
      starts_apart L oa ta (second ++ rest) d
      (starts_behind L oa second rest (subst (λ f. starts L oa f ≡ true) (sym s.2) (starts_behind L oa s.0 s.1 (sure s.0 x s.3))))

  row_complete : (n : ℕ) (front rest : List L.Token) (xs : List A) → length front ≤ n → each_spelled sa front xs → starts L (union L oa ta) rest ≡ false
      → each_r n (front ++ rest) ≡ Got xs rest
  row_complete n front rest [] le s h =
      subst (λ f. each_r n (f ++ rest) ≡ Got [] rest) (sym s) (no_more n rest (union_none L oa ta rest h).0)
  row_complete zero front rest (x ∷ xs) le s h =
      let some = some_token s.0 (sure s.0 x s.3) in
      let len : length front ≡ length s.0 + length s.1 = ap length s.2 ∙ length-append s.0 s.1 in
      absurd (omega arith)
  row_complete (suc n) front rest (x ∷ xs) le s h =
      let some = some_token s.0 (sure s.0 x s.3) in
      let len : length front ≡ length s.0 + length s.1 = ap length s.2 ∙ length-append s.0 s.1 in
      let text : front ++ rest ≡ s.0 ++ (s.1 ++ rest) = ap (λ f. f ++ rest) s.2 ∙ append_assoc s.0 s.1 rest in
      ap (each_r (suc n)) text
      ∙ more_r n (s.0 ++ (s.1 ++ rest)) (s.1 ++ rest) x (starts_behind L oa s.0 (s.1 ++ rest) (sure s.0 x s.3))
      (a.complete s.0 (s.1 ++ rest) x s.3 (row_stops s.1 rest xs s.4 h))
      ∙ ap (λ o. next o (λ ys end. Got (x ∷ ys) end)) (row_complete n s.1 rest xs (omega arith) s.4 h)

  -- a verdict that tells of every bound from the text's length on
  data RowVerdict (text : List L.Token) : Type 0 where
    row_good : (front rest : List L.Token) (xs : List A) → text ≡ front ++ rest → each_spelled sa front xs
        → ((n : ℕ) (more : List L.Token) → length (front ++ more) ≤ n → Alike rest more → each_r n (front ++ more) ≡ Got xs more) → RowVerdict text
    row_bad : (front rest : List L.Token) (flaw : Flaw) → text ≡ front ++ rest → Begins (each_spelled sa) front
        → ((n : ℕ) (more : List L.Token) → length (front ++ more) ≤ n → Alike rest more → each_r n (front ++ more) ≡ Failed flaw more) → RowVerdict text

  -- where a phrase begins, the bound isn't used up
  begun_r : (n : ℕ) (text : List L.Token) → length text ≤ n → starts L oa text ≡ true → (m : ℕ) × (n ≡ suc m)
  begun_r zero text le s = let some = some_token text s in absurd (omega arith)
  begun_r (suc m) text le s = (m, refl)

  row_more : (front rest : List L.Token) (x : A) → sa front x → starts L oa (front ++ rest) ≡ true
      → ((more : List L.Token) → Alike rest more → ra (front ++ more) ≡ Got x more) → (n : ℕ) (more : List L.Token) → length (front ++ more) ≤ n
      → Alike rest more → (m : ℕ) × (each_r n (front ++ more) ≡ then_each m x more) × (length more ≤ m)
  row_more front rest x s b again zero more le h =
      let some = some_token front (sure front x s) in
      let len = length-append front more in
      absurd (omega arith)
  row_more front rest x s b again (suc m) more le h =
      let some = some_token front (sure front x s) in
      let len = length-append front more in
      (m, more_r m (front ++ more) more x (same_way L oa front rest more h ∙ b) (again more h), omega arith)

  row_good_more : (front rest text : List L.Token) (x : A) → text ≡ front ++ rest → sa front x → starts L oa (front ++ rest) ≡ true
      → ((more : List L.Token) → Alike rest more → ra (front ++ more) ≡ Got x more) → RowVerdict rest → RowVerdict text
  row_good_more front rest text x e s b again (row_good second end xs f t other) =
      row_good (front ++ second) end (x ∷ xs) (e ∙ ap (λ r. front ++ r) f ∙ sym (append_assoc front second end)) (front, second, refl, s, t)
      (λ n more le h.
      let assoc = append_assoc front second more in
      let alike : Alike rest (second ++ more) = subst (λ r. Alike r (second ++ more)) (sym f) (alike_behind second end more h) in
      let step = row_more front rest x s b again n (second ++ more) (subst (λ r. length r ≤ n) assoc le) alike in
      ap (each_r n) assoc ∙ step.1 ∙ ap (λ o. next o (λ ys left. Got (x ∷ ys) left)) (other step.0 more step.2 h))
  row_good_more front rest text x e s b again (row_bad second end flaw f t other) =
      row_bad (front ++ second) end flaw (e ∙ ap (λ r. front ++ r) f ∙ sym (append_assoc front second end))
      (t.0, x ∷ t.1, (front, second ++ t.0, append_assoc front second t.0, s, t.2))
      (λ n more le h.
      let assoc = append_assoc front second more in
      let alike : Alike rest (second ++ more) = subst (λ r. Alike r (second ++ more)) (sym f) (alike_behind second end more h) in
      let step = row_more front rest x s b again n (second ++ more) (subst (λ r. length r ≤ n) assoc le) alike in
      ap (each_r n) assoc ∙ step.1 ∙ ap (λ o. next o (λ ys left. Got (x ∷ ys) left)) (other step.0 more step.2 h))

  row_fails : (front rest : List L.Token) (flaw : Flaw) → starts L oa (front ++ rest) ≡ true
      → ((more : List L.Token) → Alike rest more → ra (front ++ more) ≡ Failed flaw more) → (n : ℕ) (more : List L.Token) → length (front ++ more) ≤ n
      → Alike rest more → each_r n (front ++ more) ≡ Failed flaw more
  row_fails front rest flaw b again n more le h =
      let begun : starts L oa (front ++ more) ≡ true = same_way L oa front rest more h ∙ b in
      let m = begun_r n (front ++ more) le begun in
      ap (λ k. each_r k (front ++ more)) m.1
      ∙ ap (λ v. choose v (next (ra (front ++ more)) (then_each m.0)) (Got [] (front ++ more))) begun
      ∙ ap (λ o. next o (then_each m.0)) (again more h)

  row_begun : (bound : ℕ) (text : List L.Token) → length text ≤ suc bound → starts L oa text ≡ true
      → ((rest : List L.Token) → length rest ≤ bound → RowVerdict rest) → Verdict sa ra text → RowVerdict text
  row_begun bound text le b deeper (good front rest x e s again) =
      let some = some_token front (sure front x s) in
      let len : length text ≡ length front + length rest = ap length e ∙ length-append front rest in
      row_good_more front rest text x e s (ap (starts L oa) (sym e) ∙ b) again (deeper rest (omega arith))
  row_begun bound text le b deeper (bad front rest flaw e s again) =
      row_bad front rest flaw e (s.0, s.1 ∷ [], (front ++ s.0, [], sym (append-nil (front ++ s.0)), s.2, refl))
      (row_fails front rest flaw (ap (starts L oa) (sym e) ∙ b) again)

  row_ended : (text : List L.Token) → starts L oa text ≡ false → RowVerdict text
  row_ended text e = row_good [] text [] refl refl (λ n more le h. no_more n more (same_way L oa [] text more h ∙ e))

  row_verdict : (bound : ℕ) (text : List L.Token) → length text ≤ bound → (v : Bool) → starts L oa text ≡ v → RowVerdict text
  row_verdict bound text le false e = row_ended text e
  row_verdict zero text le true e = let some = some_token text e in absurd (omega arith)
  row_verdict (suc bound) text le true e =
      row_begun bound text le e (λ rest lt. row_verdict bound rest lt (starts L oa rest) refl) (a.verdict text)

  many_verdict : (text : List L.Token) → RowVerdict text → Verdict (each_spelled sa) many_r text
  many_verdict text (row_good front rest xs e s again) =
      good front rest xs e s (λ more h. again (length (front ++ more)) more (omega arith) h)
  many_verdict text (row_bad front rest flaw e s again) =
      bad front rest flaw e s (λ more h. again (length (front ++ more)) more (omega arith) h)

  many_complete : (front rest : List L.Token) (xs : List A) → each_spelled sa front xs → starts L (union L oa ta) rest ≡ false → many_r (front ++ rest)
      ≡ Got xs rest
  many_complete front rest xs s h =
      let len = length-append front rest in
      row_complete (length (front ++ rest)) front rest xs (omega arith) s h

  many_begins : (front : List L.Token) (xs : List A) → each_spelled sa front xs → ((front ≡ []) × (true ≡ true)) ⊎ (starts L oa front ≡ true)
  many_begins front [] s = inl (s, refl)
  many_begins front (x ∷ xs) s =
      inr (subst (λ f. starts L oa f ≡ true) (sym s.2) (starts_behind L oa s.0 s.1 (sure s.0 x s.3)))

  pub many_reads : Reading L (List A) (each_spelled sa) many_r oa (union L oa ta) true
  many_reads = record {
    complete = many_complete;
    verdict = λ text. many_verdict text (row_verdict (length text) text (omega arith) (starts L oa text) refl);
    begins = many_begins;
    phrase = ([], [], refl);
  }
