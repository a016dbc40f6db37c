-- Each way of making a grammar of others keeps what is asked of reading it.
use Rattle.std.proofs.Common.{◌≡◌, Bool, true, false, ◌||◌, List, [], ◌∷◌, ◌++◌, ◌⊎◌, Option, Some, None, inl, inr, refl, sym, ◌∙◌, ap, subst}
use Rattle.grammar.specs.Grammar.{Tokens, is_in, maybe_spelled}
use Rattle.grammar.specs.Predictive.{union, disjoint, is_filled}
use Rattle.grammar.specs.Read.{Wrong, Deep, Outcome, Got, Failed, starts, next, choose, read_one, with_head}
use Rattle.grammar.proofs.Sets.{Alike, alike_behind, starts_alike, starts_behind, union_none, union_right, starts_apart}
use Rattle.grammar.proofs.Reading.{Verdict, good, bad, Reading, begins_some}

module _ (L : Tokens) where
  -- the way a reading of the next token goes is the same whatever stands behind that token
  pub same_way : (ks : List L.Class) (front rest more : List L.Token) → Alike rest more → starts L ks (front ++ more) ≡ starts L ks (front ++ rest)
  same_way ks front rest more h = sym (starts_alike L ks (front ++ rest) (front ++ more) (alike_behind front rest more h))

  -- the first class of the list
  filled_one : (ks : List L.Class) → is_filled ks ≡ true → (c : L.Class) × (is_in L ks c ≡ true)
  filled_one [] e = absurd (cc)
  filled_one (k ∷ ks) e = (k, ap (λ b. b || is_in L ks k) ((L.same_is k k).1 refl))

  abbrev One-s : List L.Class → List L.Token → L.Token → Type 0
  One-s ks text x = (text ≡ x ∷ []) × (is_in L ks (L.class x) ≡ true)

  abbrev one_r : List L.Class → List L.Token → Outcome L.Token L.Token
  one_r ks text = read_one (λ t. is_in L ks (L.class t)) text

  one_phrase : (ks : List L.Class) → is_filled ks ≡ true → (front : List L.Token) × (x : L.Token) × One-s ks front x
  one_phrase ks e =
      let c = filled_one ks e in
      (L.sample c.0 ∷ [], L.sample c.0, (refl, ap (is_in L ks) (L.sample_is c.0) ∙ c.1))

  one_fails : (ks : List L.Class) (t : L.Token) (rest more : List L.Token) → is_in L ks (L.class t) ≡ false → Alike (t ∷ rest) more
      → one_r ks more ≡ Failed Wrong more
  one_fails ks t rest [] e h = absurd h
  one_fails ks t rest (u ∷ more) e h =
      let no : is_in L ks (L.class u) ≡ false = subst (λ v. is_in L ks (L.class v) ≡ false) h e in
      ap (λ b. choose b (Got u more) (Failed Wrong (u ∷ more))) no

  one_ends : (ks : List L.Class) (more : List L.Token) → Alike [] more → one_r ks more ≡ Failed Wrong more
  one_ends ks [] h = refl
  one_ends ks (u ∷ more) h = absurd h

  one_verdict : (ks : List L.Class) → is_filled ks ≡ true → (text : List L.Token) → Verdict (One-s ks) (one_r ks) text
  one_verdict ks e [] = bad [] [] Wrong refl (one_phrase ks e) (one_ends ks)
  one_verdict ks e (t ∷ text) = go (is_in L ks (L.class t)) refl
    where
      go : (b : Bool) → is_in L ks (L.class t) ≡ b → Verdict (One-s ks) (one_r ks) (t ∷ text)
      go true f = good (t ∷ []) text t refl (refl, f) (λ more h. ap (λ b. choose b (Got t more) (Failed Wrong (t ∷ more))) f)
      go false f = bad [] (t ∷ text) Wrong refl (one_phrase ks e) (λ more h. one_fails ks t text more f h)

  pub one_reads : (ks : List L.Class) → is_filled ks ≡ true → Reading L L.Token (One-s ks) (one_r ks) ks [] false
  one_reads ks e = record {
    complete = λ front rest x s h.
        subst (λ f. one_r ks (f ++ rest) ≡ Got x rest) (sym s.0) (ap (λ b. choose b (Got x rest) (Failed Wrong (x ∷ rest))) s.1);
    verdict = one_verdict ks e;
    begins = λ front x s. inr (subst (λ f. starts L ks f ≡ true) (sym s.0) s.1);
    phrase = one_phrase ks e;
  }

  module _ (A B : Type 0) (f : A → B) (sa : List L.Token → A → Type 0) (ra : List L.Token → Outcome L.Token A) (oa ta : List L.Class) (va : Bool)
      (a : Reading L A sa ra oa ta va) where
    abbrev Made-s : List L.Token → B → Type 0
    Made-s text x = (y : A) × (x ≡ f y) × sa text y

    abbrev made_r : List L.Token → Outcome L.Token B
    made_r text = next (ra text) (λ y rest. Got (f y) rest)

    made_verdict : (text : List L.Token) → Verdict sa ra text → Verdict Made-s made_r text
    made_verdict text (good front rest x e s again) =
        good front rest (f x) e (x, refl, s) (λ more h. ap (λ o. next o (λ y end. Got (f y) end)) (again more h))
    made_verdict text (bad front rest flaw e s again) =
        bad front rest flaw e (s.0, f s.1, (s.1, refl, s.2)) (λ more h. ap (λ o. next o (λ y end. Got (f y) end)) (again more h))

    pub made_reads : Reading L B Made-s made_r oa ta va
    made_reads = record {
      complete = λ front rest x s h.
          ap (λ o. next o (λ y end. Got (f y) end)) (a.complete front rest s.0 s.2 h) ∙ ap (λ y. Got y rest) (sym s.1);
      verdict = λ text. made_verdict text (a.verdict text);
      begins = λ front x s. a.begins front s.0 s.2;
      phrase = (a.phrase.0, f a.phrase.1, (a.phrase.1, refl, a.phrase.2));
    }

  module _ (A : Type 0) (sa : List L.Token → A → Type 0) (ra : List L.Token → Outcome L.Token A) (oa ta : List L.Class) (a : Reading L A sa ra oa ta false)
    where
      sure : (front : List L.Token) (x : A) → sa front x → starts L oa front ≡ true
      sure = begins_some L A sa ra oa ta false a refl

      -- ---- with its first token
      abbrev Headed-s : List L.Token → (L.Token × A) → Type 0
      Headed-s text x = (rest : List L.Token) × (text ≡ x.0 ∷ rest) × sa text x.1

      abbrev headed_r : List L.Token → Outcome L.Token (L.Token × A)
      headed_r text = next (ra text) (with_head text)

      headed_phrase : (front : List L.Token) (x : A) → sa front x → (t : L.Token) × Headed-s front (t, x)
      headed_phrase [] x s = let e = sure [] x s in absurd (cc)
      headed_phrase (t ∷ front) x s = (t, (front, refl, s))

      headed_good : (front rest : List L.Token) (x : A) (t : L.Token) → Headed-s front (t, x) → ra (front ++ rest) ≡ Got x rest → headed_r (front ++ rest)
          ≡ Got (t, x) rest
      headed_good front rest x t s e =
          ap (λ o. next o (with_head (front ++ rest))) e ∙ ap (λ text. with_head (text ++ rest) x rest) s.1

      headed_verdict : (text : List L.Token) → Verdict sa ra text → Verdict Headed-s headed_r text
      headed_verdict text (good front rest x e s again) =
          let p = headed_phrase front x s in
          good front rest (p.0, x) e p.1 (λ more h. headed_good front more x p.0 p.1 (again more h))
      headed_verdict text (bad front rest flaw e s again) =
          let p = headed_phrase (front ++ s.0) s.1 s.2 in
          bad front rest flaw e (s.0, (p.0, s.1), p.1) (λ more h. ap (λ o. next o (with_head (front ++ more))) (again more h))

      pub headed_reads : Reading L (L.Token × A) Headed-s headed_r oa ta false
      headed_reads = record {
        complete = λ front rest x s h. headed_good front rest x.1 x.0 s (a.complete front rest x.1 s.2 h);
        verdict = λ text. headed_verdict text (a.verdict text);
        begins = λ front x s. a.begins front x.1 s.2;
        phrase = let p = headed_phrase a.phrase.0 a.phrase.1 a.phrase.2 in (a.phrase.0, (p.0, a.phrase.1), p.1);
      }

      -- ---- barred
      module _ (ks : List L.Class) (d : disjoint L oa ks ≡ true) where
        abbrev barred_r : List L.Token → Outcome L.Token A
        barred_r text = choose (starts L ks text) (Failed Deep text) (ra text)

        barred_complete : (front rest : List L.Token) (x : A) → sa front x → starts L ta rest ≡ false → barred_r (front ++ rest) ≡ Got x rest
        barred_complete front rest x s h =
            let o : starts L oa (front ++ rest) ≡ true = starts_behind L oa front rest (sure front x s) in
            ap (λ b. choose b (Failed Deep (front ++ rest)) (ra (front ++ rest))) (starts_apart L oa ks (front ++ rest) d o) ∙ a.complete front rest x s h

        barred_inner : (text : List L.Token) → starts L ks text ≡ false → Verdict sa ra text → Verdict sa barred_r text
        barred_inner text n (good front rest x e s again) =
            good front rest x e s
            (λ more h. ap (λ b. choose b (Failed Deep (front ++ more)) (ra (front ++ more))) (same_way ks front rest more h ∙ ap (starts L ks) (sym e) ∙ n)
            ∙ again more h)
        barred_inner text n (bad front rest flaw e s again) =
            bad front rest flaw e s
            (λ more h. ap (λ b. choose b (Failed Deep (front ++ more)) (ra (front ++ more))) (same_way ks front rest more h ∙ ap (starts L ks) (sym e) ∙ n)
            ∙ again more h)

        barred_verdict : (text : List L.Token) (b : Bool) → starts L ks text ≡ b → Verdict sa barred_r text
        barred_verdict text true e =
            bad [] text Deep refl a.phrase (λ more h. ap (λ b. choose b (Failed Deep more) (ra more)) (same_way ks [] text more h ∙ e))
        barred_verdict text false e = barred_inner text e (a.verdict text)

        pub barred_reads : Reading L A sa barred_r (union L ks oa) ta false
        barred_reads = record {
          complete = barred_complete;
          verdict = λ text. barred_verdict text (starts L ks text) refl;
          begins = λ front x s. inr (union_right L ks oa front (sure front x s));
          phrase = a.phrase;
        }

      -- ---- or nothing
      abbrev maybe_r : List L.Token → Outcome L.Token (Option A)
      maybe_r text = choose (starts L oa text) (next (ra text) (λ x rest. Got (Some x) rest)) (Got None text)

      maybe_complete : (front rest : List L.Token) (x : Option A) → maybe_spelled sa front x → starts L (union L oa ta) rest ≡ false → maybe_r (front ++ rest)
          ≡ Got x rest
      maybe_complete front rest None s h =
          subst (λ f. maybe_r (f ++ rest) ≡ Got None rest) (sym s)
          (ap (λ b. choose b (next (ra rest) (λ x end. Got (Some x) end)) (Got None rest)) (union_none L oa ta rest h).0)
      maybe_complete front rest (Some x) s h =
          let text = front ++ rest in
          ap (λ b. choose b (next (ra text) (λ y end. Got (Some y) end)) (Got None text)) (starts_behind L oa front rest (sure front x s))
          ∙ ap (λ o. next o (λ y end. Got (Some y) end)) (a.complete front rest x s (union_none L oa ta rest h).1)

      maybe_inner : (text : List L.Token) → starts L oa text ≡ true → Verdict sa ra text → Verdict (maybe_spelled sa) maybe_r text
      maybe_inner text n (good front rest x e s again) =
          good front rest (Some x) e s
          (λ more h. ap (λ b. choose b (next (ra (front ++ more)) (λ y end. Got (Some y) end)) (Got None (front ++ more)))
          (same_way oa front rest more h ∙ ap (starts L oa) (sym e) ∙ n) ∙ ap (λ o. next o (λ y end. Got (Some y) end)) (again more h))
      maybe_inner text n (bad front rest flaw e s again) =
          bad front rest flaw e (s.0, Some s.1, s.2)
          (λ more h. ap (λ b. choose b (next (ra (front ++ more)) (λ y end. Got (Some y) end)) (Got None (front ++ more)))
          (same_way oa front rest more h ∙ ap (starts L oa) (sym e) ∙ n) ∙ ap (λ o. next o (λ y end. Got (Some y) end)) (again more h))

      maybe_verdict : (text : List L.Token) (b : Bool) → starts L oa text ≡ b → Verdict (maybe_spelled sa) maybe_r text
      maybe_verdict text true e = maybe_inner text e (a.verdict text)
      maybe_verdict text false e =
          good [] text None refl refl (λ more h. ap (λ b. choose b (next (ra more) (λ x end. Got (Some x) end)) (Got None more))
          (same_way oa [] text more h ∙ e))

      maybe_begins : (front : List L.Token) (x : Option A) → maybe_spelled sa front x → ((front ≡ []) × (true ≡ true)) ⊎ (starts L oa front ≡ true)
      maybe_begins front None s = inl (s, refl)
      maybe_begins front (Some x) s = inr (sure front x s)

      pub maybe_reads : Reading L (Option A) (maybe_spelled sa) maybe_r oa (union L oa ta) true
      maybe_reads = record {
        complete = maybe_complete;
        verdict = λ text. maybe_verdict text (starts L oa text) refl;
        begins = maybe_begins;
        phrase = (a.phrase.0, Some a.phrase.1, a.phrase.2);
      }
