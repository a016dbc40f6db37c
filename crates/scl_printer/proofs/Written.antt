-- A text that is written piece by piece.
use Rattle.std.proofs.Common.{◌≡◌, ℕ, zero, suc, ◌+◌, ◌<◌, true, false, if◌then◌else◌, Option, None, Some, Result, Ok, Err, OnOk, OnErr, List, [], ◌∷◌, ◌++◌}
use Rattle.std.proofs.Common.{take, drop, length, get_or, refl, sym, subst, ap, ◌∙◌, append_assoc, arith, add-one, drop-cons}
use Rattle.std.proofs.lemmas.List.{append-nil}
use Rattle.std.proofs.Math.Seq.{take-append_seam}
use Rattle.std.proofs.KnownBytes.{Appends-nil}
use Rattle.std.specs.Io.KnownBytes.{Appends}
use Rattle.sc_values.specs.Streams.{GrowsInto}
use Rattle.scl_printer.specs.Inside.Writing.{Page, Bears, Writes, Sends}

-- ---- one text behind another

pub follows : (a b c : Page) (s t : List ℕ) → Writes a b s → Writes b c t → Writes a c (s ++ t)
follows a b c s t f g start n before h =
    let At : List ℕ → Type 0 = λ xs. Bears start n xs c in
    subst At (append_assoc before s t) (g start n (before ++ s) (f start n before h))

pub nothing : (a : Page) → Writes a a []
nothing a start n before h =
    let At : List ℕ → Type 0 = λ xs. Bears start n xs a in
    subst At (sym (append-nil before)) h

-- some bytes more are held, or the sink had failed
pub held_more : (p : Page) (held more : List ℕ) → held ≡ p.held ++ more → Writes p (record p { held = held }) more
held_more p held more is start n before h = record {
  done = h.done;
  left = h.left ++ more;
  parts = ap (λ xs. xs ++ more) h.parts ∙ append_assoc h.done h.left more;
  took = h.took;
  rest = λ fine. is ∙ ap (λ xs. xs ++ more) (h.rest fine);
  failed = h.failed;
}

-- ---- bytes that are handed over

appends_both : (a b c : Option (List ℕ)) (xs ys zs : List ℕ) → xs ++ ys ≡ zs → Appends a b xs → Appends b c ys → Appends a c zs
appends_both None b c xs ys zs e p q = tt
appends_both (Some x) None c xs ys zs e p q = absurd p
appends_both (Some x) (Some y) None xs ys zs e p q = absurd q
appends_both (Some x) (Some y) (Some z) xs ys zs e p q = q ∙ ap (λ l. l ++ ys) p ∙ append_assoc x xs ys ∙ ap (λ l. x ++ l) e

front_and_rest : (text : List ℕ) (n : ℕ) → take n text ++ drop n text ≡ text
front_and_rest text zero = refl
front_and_rest [] (suc n) = refl
front_and_rest (b ∷ text) (suc n) = ap (λ xs. b ∷ xs) (front_and_rest text n)

pub sent_whole : (taken taken' : Option (List ℕ)) (failures failures' : ℕ) (held : List ℕ) → Appends taken taken' held → failures' ≡ failures
    → Sends taken failures false taken' failures' false held
sent_whole taken taken' failures failures' held appends same start n text h = record {
  done = text;
  left = [];
  parts = sym (append-nil text);
  took = appends_both start taken taken' h.done held text (ap (λ xs. h.done ++ xs) (h.rest refl) ∙ sym h.parts) h.took appends;
  rest = λ fine. refl;
  failed = same ∙ h.failed;
}

-- a beginning of what was held was taken
pub record Took (old new : Option (List ℕ)) (held : List ℕ) : Type 0 where
  pub count : ℕ
  pub appends : Appends old new (take count held)

grown : (old new : Option (List ℕ)) (held : List ℕ) → GrowsInto old new held → Took old new held
grown None new held h = record { count = 0; appends = tt }
grown (Some x) None held h = absurd h
grown (Some x) (Some y) held h = record { count = h.0; appends = h.1 }

pub sent_part : (taken taken' : Option (List ℕ)) (failures failures' : ℕ) (held : List ℕ) → GrowsInto taken taken' held → failures' ≡ failures + 1
    → Sends taken failures false taken' failures' true held
sent_part taken taken' failures failures' held grows more start n text h =
    let some : Took taken taken' held = grown taken taken' held grows in
    let front : List ℕ = take some.count held in
    let back : List ℕ = drop some.count held in
    record {
      done = h.done ++ front;
      left = back;
      parts = h.parts
          ∙ ap (λ xs. h.done ++ xs) (sym (h.rest refl) ∙ sym (front_and_rest held some.count))
          ∙ sym (append_assoc h.done front back);
      took = appends_both start taken taken' h.done front (h.done ++ front) refl h.took some.appends;
      rest = λ fine. absurd (let e : true ≡ false = fine in cc);
      failed = let e : failures ≡ n + 0 = h.failed in omega (arith, more, e);
    }

-- ---- one text is another

pub written_as : (a b : Page) (s t : List ℕ) → s ≡ t → Writes a b s → Writes a b t
written_as a b s t e h = let At : List ℕ → Type 0 = λ xs. Writes a b xs in subst At e h

-- ---- a whole text

-- nothing was written yet
pub blank : (p : Page) → p.held ≡ [] → p.failed ≡ false → Bears p.taken p.failures [] p
blank p none fine = record {
  done = [];
  left = [];
  parts = refl;
  took = Appends-nil p.taken;
  rest = λ _. none;
  failed = let e : p.failures ≡ p.failures + 0 = omega arith in e ∙ ap (λ b. p.failures + (if b then 1 else 0)) (sym fine);
}

-- a whole text was written, and then nothing but what was held
pub printed : (old between new : Page) (text : List ℕ) → old.held ≡ [] → old.failed ≡ false → Writes old between text → Writes between new []
    → Bears old.taken old.failures text new
printed old between new text none fine written passed =
    written_as old new (text ++ []) text (append-nil text) (follows old between new text [] written passed) old.taken old.failures [] (blank old none fine)

pub ended : (start : Option (List ℕ)) (n : ℕ) (text : List ℕ) (p : Page) → Bears start n text p → p.held ≡ [] → p.failed ≡ false → Appends start p.taken text
ended start n text p h none fine =
    let all : h.done ≡ text = sym (append-nil h.done) ∙ ap (λ xs. h.done ++ xs) (sym none ∙ h.rest fine) ∙ sym h.parts in
    let At : List ℕ → Type 0 = λ xs. Appends start p.taken xs in
    subst At all h.took

grows_by : (a b : Option (List ℕ)) (text done left : List ℕ) → text ≡ done ++ left → Appends a b done → GrowsInto a b text
grows_by None b text done left parts took = tt
grows_by (Some x) None text done left parts took = absurd took
grows_by (Some x) (Some y) text done left parts took =
    (length done, took ∙ ap (λ xs. x ++ xs) (sym (take-append_seam done left) ∙ ap (take (length done)) (sym parts)))

pub grows : (start : Option (List ℕ)) (n : ℕ) (text : List ℕ) (p : Page) → Bears start n text p → GrowsInto start p.taken text
grows start n text p h = grows_by start p.taken text h.done h.left h.parts h.took

pub none_failed : (start : Option (List ℕ)) (n : ℕ) (text : List ℕ) (p : Page) → Bears start n text p → p.failed ≡ false → p.failures ≡ n
none_failed start n text p h fine =
    let e : p.failures ≡ n + 0 = h.failed ∙ ap (λ b. n + (if b then 1 else 0)) fine in omega (arith, e)

pub one_failed : (start : Option (List ℕ)) (n : ℕ) (text : List ℕ) (p : Page) → Bears start n text p → p.failed ≡ true → p.failures ≡ n + 1
one_failed start n text p h failed = h.failed ∙ ap (λ b. n + (if b then 1 else 0)) failed

pub ok_then : {E : Type 0} (r : Result (Unit {0}) E) (P Q : Type 0) → (P → Q) → OnOk r P → OnOk r Q
ok_then (Ok v) P Q f h = f h
ok_then (Err e) P Q f h = tt

pub err_then : {E : Type 0} (r : Result (Unit {0}) E) (P Q : Type 0) → (P → Q) → OnErr r P → OnErr r Q
err_then (Ok v) P Q f h = tt
err_then (Err e) P Q f h = f h

-- ---- lists, from an index on

pub split_at : {A : Type 0} (xs : List A) (i : ℕ) (x : A) → i < length xs → x ≡ get_or xs i x → drop i xs ≡ x ∷ drop (i + 1) xs
split_at xs i x lt is = rw add-one (drop-cons xs i x lt ∙ ap (λ y. y ∷ drop (suc i) xs) (sym is))
