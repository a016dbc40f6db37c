-- One phrase behind another, and one of two, keep what is asked of reading.
use Rattle.std.proofs.Common.{◌≡◌, Bool, true, false, ◌&&◌, cond, List, [], ◌++◌, ◌⊎◌, ⊎_elim, inl, inr, refl, sym, ◌∙◌, ap, subst}
use Rattle.std.proofs.lemmas.List.{append_assoc}
use Rattle.grammar.specs.Grammar.{Tokens}
use Rattle.grammar.specs.Predictive.{union, disjoint}
use Rattle.grammar.specs.Read.{Outcome, Got, starts, next, choose}
use Rattle.grammar.proofs.Sets.{Alike, alike_behind, starts_behind, union_none, union_left, union_right, starts_apart}
use Rattle.grammar.proofs.Reading.{Verdict, good, bad, Reading, begins_some}
use Rattle.grammar.proofs.Parts.{same_way}

module _ (L : Tokens) (A B : Type 0)
    (sa : List L.Token → A → Type 0) (ra : List L.Token → Outcome L.Token A) (oa ta : List L.Class) (va : Bool) (a : Reading L A sa ra oa ta va)
    (sb : List L.Token → B → Type 0) (rb : List L.Token → Outcome L.Token B) (ob tb : List L.Class) (vb : Bool) (b : Reading L B sb rb ob tb vb)
    (d : disjoint L ob ta ≡ true) where
  abbrev Seq-s : List L.Token → (A × B) → Type 0
  Seq-s text x = (front : List L.Token) × (rest : List L.Token) × (text ≡ front ++ rest) × sa front x.0 × sb rest x.1

  abbrev seq_r : List L.Token → Outcome L.Token (A × B)
  seq_r text = next (ra text) (λ x rest. next (rb rest) (λ y end. Got (x, y) end))

  abbrev then_b : A → List L.Token → Outcome L.Token (A × B)
  then_b x rest = next (rb rest) (λ y end. Got (x, y) end)

  -- of what may stand behind the whole, what may stand behind the first
  seq_stops : (second rest : List L.Token) (y : B) → sb second y → (v : Bool) → vb ≡ v → starts L (cond v (union L tb ta) tb) rest ≡ false
      → (starts L tb rest ≡ false) × (starts L ta (second ++ rest) ≡ false)
  seq_stops second rest y s true e h =
      let parts = union_none L tb ta rest h in (
        parts.0,
        ⊎_elim (λ i. subst (λ f. starts L ta (f ++ rest) ≡ false) (sym i.0) parts.1)
            (λ i. starts_apart L ob ta (second ++ rest) d (starts_behind L ob second rest i)) (b.begins second y s),
      )
  seq_stops second rest y s false e h =
      (h, starts_apart L ob ta (second ++ rest) d (starts_behind L ob second rest (begins_some L B sb rb ob tb vb b e second y s)))

  seq_complete : (front rest : List L.Token) (x : A × B) → Seq-s front x → starts L (cond vb (union L tb ta) tb) rest ≡ false → seq_r (front ++ rest)
      ≡ Got x rest
  seq_complete front rest x s h =
      let stops = seq_stops s.1 rest x.1 s.4 vb refl h in
      let text : front ++ rest ≡ s.0 ++ (s.1 ++ rest) = ap (λ f. f ++ rest) s.2 ∙ append_assoc s.0 s.1 rest in
      ap seq_r text
      ∙ ap (λ o. next o then_b) (a.complete s.0 (s.1 ++ rest) x.0 s.3 stops.1)
      ∙ ap (λ o. next o (λ y end. Got (x.0, y) end)) (b.complete s.1 rest x.1 s.4 stops.0)

  seq_second : (front rest text : List L.Token) (x : A) → text ≡ front ++ rest → sa front x
      → ((more : List L.Token) → Alike rest more → ra (front ++ more) ≡ Got x more) → Verdict sb rb rest → Verdict Seq-s seq_r text
  seq_second front rest text x e s again (good second end y f t other) =
      good (front ++ second) end (x, y) (e ∙ ap (λ r. front ++ r) f ∙ sym (append_assoc front second end)) (front, second, refl, s, t)
      (λ more h. ap seq_r (append_assoc front second more)
      ∙ ap (λ o. next o then_b) (again (second ++ more) (subst (λ r. Alike r (second ++ more)) (sym f) (alike_behind second end more h)))
      ∙ ap (λ o. next o (λ z left. Got (x, z) left)) (other more h))
  seq_second front rest text x e s again (bad second end flaw f t other) =
      bad (front ++ second) end flaw (e ∙ ap (λ r. front ++ r) f ∙ sym (append_assoc front second end))
      (t.0, (x, t.1), (front, second ++ t.0, append_assoc front second t.0, s, t.2))
      (λ more h. ap seq_r (append_assoc front second more)
      ∙ ap (λ o. next o then_b) (again (second ++ more) (subst (λ r. Alike r (second ++ more)) (sym f) (alike_behind second end more h)))
      ∙ ap (λ o. next o (λ z left. Got (x, z) left)) (other more h))

  seq_verdict : (text : List L.Token) → Verdict sa ra text → Verdict Seq-s seq_r text
  seq_verdict text (good front rest x e s again) = seq_second front rest text x e s again (b.verdict rest)
  seq_verdict text (bad front rest flaw e s again) =
      let p = b.phrase in
      bad front rest flaw e (s.0 ++ p.0, (s.1, p.1), (front ++ s.0, p.0, sym (append_assoc front s.0 p.0), s.2, p.2))
      (λ more h. ap (λ o. next o then_b) (again more h))

  seq_begins : (front : List L.Token) (x : A × B) → Seq-s front x → (v : Bool) → va ≡ v → ((front ≡ []) × ((v && vb) ≡ true))
      ⊎ (starts L (cond v (union L oa ob) oa) front ≡ true)
  seq_begins front x s false e =
      inr (subst (λ f. starts L oa f ≡ true) (sym s.2) (starts_behind L oa s.0 s.1 (begins_some L A sa ra oa ta va a e s.0 x.0 s.3)))
  seq_begins front x s true e =
      ⊎_elim
      (λ i. let whole : front ≡ s.1 = s.2 ∙ ap (λ f. f ++ s.1) i.0 in
      ⊎_elim (λ j. inl (whole ∙ j.0, j.1)) (λ j. inr (union_right L oa ob front (subst (λ f. starts L ob f ≡ true) (sym whole) j))) (b.begins s.1 x.1 s.4))
      (λ i. inr (union_left L oa ob front (subst (λ f. starts L oa f ≡ true) (sym s.2) (starts_behind L oa s.0 s.1 i))))
      (a.begins s.0 x.0 s.3)

  pub seq_reads : Reading L (A × B) Seq-s seq_r (cond va (union L oa ob) oa) (cond vb (union L tb ta) tb) (va && vb)
  seq_reads = record {
    complete = seq_complete;
    verdict = λ text. seq_verdict text (a.verdict text);
    begins = λ front x s. seq_begins front x s va refl;
    phrase = (a.phrase.0 ++ b.phrase.0, (a.phrase.1, b.phrase.1), (a.phrase.0, b.phrase.0, refl, a.phrase.2, b.phrase.2));
  }

module _ (L : Tokens) (A : Type 0)
    (sa : List L.Token → A → Type 0) (ra : List L.Token → Outcome L.Token A) (oa ta : List L.Class) (a : Reading L A sa ra oa ta false)
    (sb : List L.Token → A → Type 0) (rb : List L.Token → Outcome L.Token A) (ob tb : List L.Class) (b : Reading L A sb rb ob tb false)
    (d : disjoint L ob oa ≡ true) where
  abbrev Either-s : List L.Token → A → Type 0
  Either-s text x = sa text x ⊎ sb text x

  abbrev either_r : List L.Token → Outcome L.Token A
  either_r text = choose (starts L oa text) (ra text) (rb text)

  goes : (text : List L.Token) (v : Bool) → starts L oa text ≡ v → either_r text ≡ choose v (ra text) (rb text)
  goes text v e = ap (λ w. choose w (ra text) (rb text)) e

  begins_a : (front : List L.Token) (x : A) → sa front x → starts L oa front ≡ true
  begins_a = begins_some L A sa ra oa ta false a refl

  begins_b : (front : List L.Token) (x : A) → sb front x → starts L ob front ≡ true
  begins_b = begins_some L A sb rb ob tb false b refl

  either_complete : (front rest : List L.Token) (x : A) → Either-s front x → starts L (union L ta tb) rest ≡ false → either_r (front ++ rest) ≡ Got x rest
  either_complete front rest x s h =
      ⊎_elim
      (λ i. goes (front ++ rest) true (starts_behind L oa front rest (begins_a front x i)) ∙ a.complete front rest x i (union_none L ta tb rest h).0)
      (λ i. goes (front ++ rest) false (starts_apart L ob oa (front ++ rest) d (starts_behind L ob front rest (begins_b front x i)))
      ∙ b.complete front rest x i (union_none L ta tb rest h).1)
      s

  either_left : (text : List L.Token) → starts L oa text ≡ true → Verdict sa ra text → Verdict Either-s either_r text
  either_left text n (good front rest x e s again) =
      good front rest x e (inl s) (λ more h. goes (front ++ more) true (same_way L oa front rest more h ∙ ap (starts L oa) (sym e) ∙ n) ∙ again more h)
  either_left text n (bad front rest flaw e s again) =
      bad front rest flaw e (s.0, s.1, inl s.2) (λ more h. goes (front ++ more) true (same_way L oa front rest more h ∙ ap (starts L oa) (sym e) ∙ n)
      ∙ again more h)

  either_right : (text : List L.Token) → starts L oa text ≡ false → Verdict sb rb text → Verdict Either-s either_r text
  either_right text n (good front rest x e s again) =
      good front rest x e (inr s) (λ more h. goes (front ++ more) false (same_way L oa front rest more h ∙ ap (starts L oa) (sym e) ∙ n) ∙ again more h)
  either_right text n (bad front rest flaw e s again) =
      bad front rest flaw e (s.0, s.1, inr s.2) (λ more h. goes (front ++ more) false (same_way L oa front rest more h ∙ ap (starts L oa) (sym e) ∙ n)
      ∙ again more h)

  either_verdict : (text : List L.Token) (v : Bool) → starts L oa text ≡ v → Verdict Either-s either_r text
  either_verdict text true e = either_left text e (a.verdict text)
  either_verdict text false e = either_right text e (b.verdict text)

  either_begins : (front : List L.Token) (x : A) → Either-s front x → starts L (union L oa ob) front ≡ true
  either_begins front x s =
      ⊎_elim (λ i. union_left L oa ob front (begins_a front x i)) (λ i. union_right L oa ob front (begins_b front x i)) s

  pub either_reads : Reading L A Either-s either_r (union L oa ob) (union L ta tb) false
  either_reads = record {
    complete = either_complete;
    verdict = λ text. either_verdict text (starts L oa text) refl;
    begins = λ front x s. inr (either_begins front x s);
    phrase = (a.phrase.0, a.phrase.1, inl a.phrase.2);
  }
