-- Reading a whole text tells what it spells, or its one fault; and what it tells holds of no other answer.
use Rattle.std.proofs.Common.{◌≡◌, ℕ, zero, suc, ◌+◌, ◌≤◌, ◌<◌, List, [], ◌∷◌, ◌++◌, ◌⊎◌, ⊎_elim, length, refl, sym, ◌∙◌, ap, subst, arith, length-append}
use Rattle.std.proofs.lemmas.List.{append_assoc, append-nil}
use Rattle.grammar.specs.Grammar.{Tokens, Grammar, spells}
use Rattle.grammar.specs.Predictive.{Predictive}
use Rattle.grammar.specs.Read.{Flaw, Wrong, Deep, Outcome, Got, Failed, next, read, ended, read_all}
use Rattle.grammar.specs.Deeper.{IsLanguage}
use Rattle.grammar.specs.Fault.{Begins, IsFlaw, Fault, Told}
use Rattle.grammar.proofs.Sets.{Alike, alike_same}
use Rattle.grammar.proofs.Reading.{Verdict, good, bad}
use Rattle.grammar.proofs.Every.{reads}
use Rattle.grammar.proofs.Shorter.{left}
use Rattle.grammar.proofs.Levels.{Follows, next_follows, deeper_follows}

-- of two ways to part a list, the one that parts it later
split : {X : Type 0} (xs ys us vs : List X) → xs ++ ys ≡ us ++ vs → length vs ≤ length ys → (mid : List X) × (us ≡ xs ++ mid) × (ys ≡ mid ++ vs)
split [] ys us vs e le = (us, refl, e)
split (x ∷ xs) ys [] vs e le =
    let len : length (x ∷ (xs ++ ys)) ≡ length vs = ap length e in
    let more = length-append xs ys in
    absurd (omega arith)
split (x ∷ xs) ys (u ∷ us) vs e le =
    let same : x ≡ u = cc in
    let rest : xs ++ ys ≡ us ++ vs = cc in
    let s = split xs ys us vs rest le in
    (s.0, ap (λ l. u ∷ l) s.1 ∙ ap (λ v. v ∷ (xs ++ s.0)) (sym same), s.2)

one_more : {X : Type 0} (front : List X) (t : X) (rest : List X) → front ++ t ∷ rest ≡ (front ++ t ∷ []) ++ rest
one_more front t rest = sym (append_assoc front (t ∷ []) rest)

begins_less : {T A : Type 0} (s : List T → A → Type 0) (front more : List T) → Begins s (front ++ more) → Begins s front
begins_less s front more b = (more ++ b.0, b.1, subst (λ t. s t b.1) (append_assoc front more b.0) b.2)

module _ {L : Tokens} {A : Type 0} (g : Grammar L A) (p : Predictive g) where
  complete_all : (text : List L.Token) (x : A) → spells g text x → read_all g text ≡ Got x []
  complete_all text x s =
      ap (λ o. next o ended) (subst (λ t. read g t ≡ Got x []) (append-nil text) ((reads g p).complete text [] x s refl))

  data Whole (text : List L.Token) : Type 0 where
    whole : (x : A) → spells g text x → Whole text
    broken : (front rest : List L.Token) (flaw : Flaw) → text ≡ front ++ rest → Begins (spells g) front
        → ((more : List L.Token) → Alike rest more → read_all g (front ++ more) ≡ Failed flaw more) → Whole text

  goes_on : (front : List L.Token) (t : L.Token) (rest : List L.Token) (x : A)
      → ((more : List L.Token) → Alike (t ∷ rest) more → read g (front ++ more) ≡ Got x more) → (more : List L.Token) → Alike (t ∷ rest) more
      → read_all g (front ++ more) ≡ Failed Wrong more
  goes_on front t rest x again [] h = absurd h
  goes_on front t rest x again (u ∷ more) h = ap (λ o. next o ended) (again (u ∷ more) h)

  whole_of : (text : List L.Token) → Verdict (spells g) (read g) text → Whole text
  whole_of text (good front [] x e s again) = whole x (subst (λ t. spells g t x) (sym (e ∙ append-nil front)) s)
  whole_of text (good front (t ∷ rest) x e s again) =
      broken front (t ∷ rest) Wrong e ([], x, subst (λ f. spells g f x) (sym (append-nil front)) s) (goes_on front t rest x again)
  whole_of text (bad front rest flaw e s again) = broken front rest flaw e s (λ more h. ap (λ o. next o ended) (again more h))

  every_text : (text : List L.Token) → Whole text
  every_text text = whole_of text ((reads g p).verdict text)

  -- no phrase goes on with the token at which reading fails
  no_phrase : (front : List L.Token) (t : L.Token) (flaw : Flaw) → ((more : List L.Token) → read_all g (front ++ t ∷ more) ≡ Failed flaw (t ∷ more))
      → ¬ Begins (spells g) (front ++ t ∷ [])
  no_phrase front t flaw again b =
      let fails = again b.0 in
      let reads_it : read_all g (front ++ t ∷ b.0) ≡ Got b.1 [] =
      subst (λ s. read_all g s ≡ Got b.1 []) (sym (one_more front t b.0)) (complete_all ((front ++ t ∷ []) ++ b.0) b.1 b.2) in
      absurd (cc)

  no_end : (front : List L.Token) (flaw : Flaw) → read_all g (front ++ []) ≡ Failed flaw [] → (x : A) → ¬ spells g front x
  no_end front flaw fails x s =
      let reads_it : read_all g (front ++ []) ≡ Got x [] = subst (λ t. read_all g t ≡ Got x []) (sym (append-nil front)) (complete_all front x s) in
      absurd (cc)

module _ {L : Tokens} {A : Type 0} (g : ℕ → Grammar L A) (l : IsLanguage g) where
  end_follows : (x : A) (rest : List L.Token) → Follows (ended x rest) (ended x rest)
  end_follows x [] = refl
  end_follows x (t ∷ rest) = refl

  end_left : (x : A) (rest : List L.Token) → left (ended x rest) ≤ length rest
  end_left x [] = omega arith
  end_left x (t ∷ rest) = omega arith

  all_follows : (k : ℕ) (text : List L.Token) → Follows (read_all (g 0) text) (read_all (g (suc k)) text)
  all_follows k text =
      next_follows (read (g 0) text) (read (g (suc k)) text) ended ended (deeper_follows A (g 0) (g (suc k)) (l.deeper k) text) end_follows end_left

  -- what is wrong stays wrong in every deeper grammar
  always_wrong : (front : List L.Token) (t : L.Token) → ((more : List L.Token) → read_all (g 0) (front ++ t ∷ more) ≡ Failed Wrong (t ∷ more)) → (k : ℕ)
      → ¬ Begins (spells (g k)) (front ++ t ∷ [])
  always_wrong front t again zero = no_phrase (g 0) (l.predictive 0) front t Wrong again
  always_wrong front t again (suc k) =
      no_phrase (g (suc k)) (l.predictive (suc k)) front t Wrong
      (λ more. subst (λ o. Follows o (read_all (g (suc k)) (front ++ t ∷ more))) (again more) (all_follows k (front ++ t ∷ more)))

  deep_past : (text front : List L.Token) (t : L.Token) (rest : List L.Token) → text ≡ front ++ t ∷ rest → left (read_all (g 1) text) < length (t ∷ rest)
      → Whole (g 1) (l.predictive 1) text → Begins (spells (g 1)) (front ++ t ∷ [])
  deep_past text front t rest e less (whole x s) = (rest, x, subst (λ u. spells (g 1) u x) (e ∙ one_more front t rest) s)
  deep_past text front t rest e less (broken other behind flaw f b again) =
      let fails : read_all (g 1) text ≡ Failed flaw behind = subst (λ u. read_all (g 1) u ≡ Failed flaw behind) (sym f) (again behind (alike_same behind)) in
      let less_left : length behind < suc (length rest) = subst (λ o. left o < suc (length rest)) fails less in
      let s = split (front ++ t ∷ []) rest other behind (sym (one_more front t rest) ∙ sym e ∙ f) (omega arith) in
      begins_less (spells (g 1)) (front ++ t ∷ []) s.0 (subst (λ u. Begins (spells (g 1)) u) s.1 b)

  flawed : (text front rest : List L.Token) (flaw : Flaw) → text ≡ front ++ rest
      → ((more : List L.Token) → Alike rest more → read_all (g 0) (front ++ more) ≡ Failed flaw more) → IsFlaw g flaw front rest
  flawed text front [] Wrong e again = no_end (g 0) (l.predictive 0) front Wrong (again [] tt)
  flawed text front (t ∷ rest) Wrong e again = always_wrong front t (λ more. again (t ∷ more) refl)
  flawed text front [] Deep e again =
      let less : left (read_all (g 1) (front ++ [])) < 0 = subst (λ o. Follows o (read_all (g 1) (front ++ []))) (again [] tt) (all_follows 0 (front ++ [])) in
      absurd (omega arith)
  flawed text front (t ∷ rest) Deep e again =
      let less : left (read_all (g 1) (front ++ t ∷ rest)) < length (t ∷ rest) =
      subst (λ o. Follows o (read_all (g 1) (front ++ t ∷ rest))) (again (t ∷ rest) refl) (all_follows 0 (front ++ t ∷ rest)) in (
        1,
        deep_past text front t rest e (subst (λ u. left (read_all (g 1) u) < length (t ∷ rest)) (sym e) less) (every_text (g 1) (l.predictive 1) text),
        no_phrase (g 0) (l.predictive 0) front t Deep (λ more. again (t ∷ more) refl),
      )

  told_whole : (text : List L.Token) → Whole (g 0) (l.predictive 0) text → Told g text (read_all (g 0) text)
  told_whole text (whole x s) = subst (Told g text) (sym (complete_all (g 0) (l.predictive 0) text x s)) (refl, s)
  told_whole text (broken front rest flaw e b again) =
      subst (Told g text) (sym (ap (read_all (g 0)) e ∙ again rest (alike_same rest)))
      (record { front = front; parts = e; begins = b; flawed = flawed text front rest flaw e again })

  -- reading tells what the text spells, or its fault
  pub told : (text : List L.Token) → Told g text (read_all (g 0) text)
  told text = told_whole text (every_text (g 0) (l.predictive 0) text)

  -- what the text spells is told
  pub told_spelled : (text : List L.Token) (x : A) → spells (g 0) text x → read_all (g 0) text ≡ Got x []
  told_spelled text x s = complete_all (g 0) (l.predictive 0) text x s

  not_on : (flaw : Flaw) (front : List L.Token) (t : L.Token) (rest : List L.Token) → IsFlaw g flaw front (t ∷ rest) → ¬ Begins (spells (g 0)) (front ++ t ∷ [])
  not_on Wrong front t rest h = h 0
  not_on Deep front t rest h = h.2

  same_flaw : (flaw other : Flaw) (front rest : List L.Token) → IsFlaw g flaw front rest → IsFlaw g other front rest → flaw ≡ other
  same_flaw Wrong Wrong front rest h i = refl
  same_flaw Deep Deep front rest h i = refl
  same_flaw Wrong Deep front [] h i = absurd i
  same_flaw Wrong Deep front (t ∷ rest) h i = absurd (h i.0 i.1)
  same_flaw Deep Wrong front [] h i = absurd h
  same_flaw Deep Wrong front (t ∷ rest) h i = absurd (i h.0 h.1)

  no_later : (text rest rest' : List L.Token) (flaw flaw' : Flaw) → Fault g text flaw rest → Fault g text flaw' rest' → length rest' < length rest → ⊥
  no_later text [] rest' flaw flaw' f h less = absurd (omega arith)
  no_later text (t ∷ rest) rest' flaw flaw' f h less =
      let s = split (f.front ++ t ∷ []) rest h.front rest' (sym (one_more f.front t rest) ∙ sym f.parts ∙ h.parts) (omega arith) in
      not_on flaw f.front t rest f.flawed (begins_less (spells (g 0)) (f.front ++ t ∷ []) s.0 (subst (λ u. Begins (spells (g 0)) u) s.1 h.begins))

  no_tokens : {X : Type 0} (xs : List X) → length xs ≡ 0 → xs ≡ []
  no_tokens [] e = refl
  no_tokens (x ∷ xs) e = absurd (omega arith)

  one_fault : (text rest rest' : List L.Token) (flaw flaw' : Flaw) → Fault g text flaw rest → Fault g text flaw' rest' → length rest ≡ length rest'
      → (flaw ≡ flaw') × (rest ≡ rest')
  one_fault text rest rest' flaw flaw' f h same =
      let s = split f.front rest h.front rest' (sym f.parts ∙ h.parts) (omega arith) in
      let len : length rest ≡ length s.0 + length rest' = ap length s.2 ∙ length-append s.0 rest' in
      let none : s.0 ≡ [] = no_tokens s.0 (omega arith) in
      let fronts : h.front ≡ f.front = s.1 ∙ ap (λ m. f.front ++ m) none ∙ append-nil f.front in
      let rests : rest ≡ rest' = s.2 ∙ ap (λ m. m ++ rest') none in (
        same_flaw flaw flaw' f.front rest f.flawed (subst (λ u. IsFlaw g flaw' u rest) fronts (subst (λ u. IsFlaw g flaw' h.front u) (sym rests) h.flawed)),
        rests,
      )

  less_or_same : (m n : ℕ) → (m < n) ⊎ ((n < m) ⊎ (m ≡ n))
  less_or_same m n = grind arith

  no_phrase_too : (text rest : List L.Token) (flaw : Flaw) (x : A) → Fault g text flaw rest → spells (g 0) text x → ⊥
  no_phrase_too text [] Wrong x f s = f.flawed x (subst (λ u. spells (g 0) u x) (f.parts ∙ append-nil f.front) s)
  no_phrase_too text [] Deep x f s = f.flawed
  no_phrase_too text (t ∷ rest) flaw x f s =
      not_on flaw f.front t rest f.flawed (rest, x, subst (λ u. spells (g 0) u x) (f.parts ∙ one_more f.front t rest) s)

  told_as : (text rest : List L.Token) (flaw : Flaw) → Fault g text flaw rest → (o : Outcome L.Token A) → Told g text o → o ≡ Failed flaw rest
  told_as text rest flaw f (Got x more) h = absurd (no_phrase_too text rest flaw x f h.1)
  told_as text rest flaw f (Failed flaw' rest') h =
      ⊎_elim (λ less. absurd (no_later text rest' rest flaw' flaw h f less))
      (λ i. ⊎_elim (λ less. absurd (no_later text rest rest' flaw flaw' f h less))
      (λ same. let e = one_fault text rest rest' flaw flaw' f h same in ap (λ w. Failed w rest') (sym e.0) ∙ ap (λ r. Failed flaw r) (sym e.1)) i)
      (less_or_same (length rest) (length rest'))

  -- a text has one fault, and that is told
  pub told_fault : (text rest : List L.Token) (flaw : Flaw) → Fault g text flaw rest → read_all (g 0) text ≡ Failed flaw rest
  told_fault text rest flaw f = told_as text rest flaw f (read_all (g 0) text) (told text)
