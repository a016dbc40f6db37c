-- Tests, one after the other, and what is told of them.
use Rattle.std.proofs.Common.{◌≡◌, ◌∙◌, ℕ, Bool, Option, List, [], ◌∷◌, ◌++◌, map, refl, ap, sym, subst, inr, append-nil, append_assoc}
use Rattle.std.proofs.Common.{Result, Ok, Err, OnErr}
use Rattle.command_files.specs.Files.{Contents}
use Rattle.controller_tests.specs.Inside.Putting.{PutsFirst, PutsTold}
use Rattle.controller_tests.specs.Naming.{AreNamed}
use Rattle.controller_tests.specs.Run.{ComeTo, TriesSome, TriesTests, counts_line, failed, passed, told}
use Rattle.controller_tests.specs.Verdict.{ComesTo, Verdict, verdict_text}

-- ---- one after the other

pub none_tried : (writes : Bool) (files : Option Contents) (text : List ℕ) → PutsTold writes files files [] text text 0 0
none_tried writes files text = record { verdicts = []; come = refl; passes = refl; fails = refl; put = sym (append-nil text) }

pub one_tried : {A : Type 0} (name : A → List ℕ) (words : List A) (word : A) (rest : List A) (writes : Bool) (old middle new : Option Contents)
    (shown other before between after : List ℕ) (verdict : Verdict) (passing failing passing' failing' : ℕ) → words ≡ word ∷ rest → shown ≡ name word
    → other ≡ name word → ComesTo writes old middle shown verdict → between ≡ before ++ verdict_text other verdict
    → PutsTold writes middle new (map name rest) between after passing failing
    → ((verdicts : List Verdict) → passing ≡ passed verdicts → passing' ≡ passed (verdict ∷ verdicts))
    → ((verdicts : List Verdict) → failing ≡ failed verdicts → failing' ≡ failed (verdict ∷ verdicts))
    → PutsTold writes old new (map name words) before after passing' failing'
one_tried name words word rest writes old middle new shown other before between after v passing failing passing' failing' cut is same comes put p passes fails =
    subst (λ ws. PutsTold writes old new (map name ws) before after passing' failing') (sym cut) (record {
      verdicts = v ∷ p.verdicts;
      come = (middle, subst (λ n. ComesTo writes old middle n v) is comes, p.come);
      passes = passes p.verdicts p.passes;
      fails = fails p.verdicts p.fails;
      put = p.put ∙ ap (λ xs. xs ++ told (map name rest) p.verdicts) put
          ∙ append_assoc before (verdict_text other v) (told (map name rest) p.verdicts)
          ∙ ap (λ n. before ++ (verdict_text n v ++ told (map name rest) p.verdicts)) same;
    })

-- ---- where memory is refused

pub first_untold : (writes : Bool) (old new : Option Contents) (names : List (List ℕ)) → new ≡ old → PutsFirst writes old new names
first_untold writes old new names same = record { first = []; rest = names; cut = refl; verdicts = []; come = same }

pub first_told : {A : Type 0} (name : A → List ℕ) (words : List A) (word : A) (rest : List A) (writes : Bool) (old new : Option Contents) (shown : List ℕ)
    (verdict : Verdict) → words ≡ word ∷ rest → shown ≡ name word → ComesTo writes old new shown verdict → PutsFirst writes old new (map name words)
first_told name words word rest writes old new shown verdict cut is comes =
    record {
      first = name word ∷ [];
      rest = map name rest;
      cut = ap (λ ws. map name ws) cut;
      verdicts = verdict ∷ [];
      come = (new, subst (λ n. ComesTo writes old new n verdict) is comes, refl);
    }

pub more_tried : {A : Type 0} (name : A → List ℕ) (words : List A) (word : A) (rest : List A) (writes : Bool) (old middle new : Option Contents)
    (shown : List ℕ) (verdict : Verdict) → words ≡ word ∷ rest → shown ≡ name word → ComesTo writes old middle shown verdict
    → PutsFirst writes middle new (map name rest) → PutsFirst writes old new (map name words)
more_tried name words word rest writes old middle new shown verdict cut is comes p =
    record {
      first = name word ∷ p.first;
      rest = p.rest;
      cut = ap (λ ws. map name ws) cut ∙ ap (λ xs. name word ∷ xs) p.cut;
      verdicts = verdict ∷ p.verdicts;
      come = (middle, subst (λ n. ComesTo writes old middle n verdict) is comes, p.come);
    }

-- what holds of a refusal
pub of_refusal : {A E : Type 0} (r : Result A E) (P : Type 0) → P → OnErr r P
of_refusal (Ok a) P holds = tt
of_refusal (Err e) P holds = holds

-- ---- all of them

pub all_tried : (writes : Bool) (old middle new : Option Contents) (words names : List (List ℕ)) (before line text : List ℕ) (passing failing : ℕ)
    → middle ≡ old → AreNamed old words names → PutsTold writes middle new names [] before passing failing → line ≡ counts_line passing failing
    → text ≡ before ++ line → TriesTests writes old new words failing text
all_tried writes old middle new words names before line text passing failing same named p counts is =
    record {
      names = names;
      named = named;
      verdicts = p.verdicts;
      come = subst (λ f. ComeTo writes f new names p.verdicts) same p.come;
      count = p.fails;
      is = is ∙ ap (λ xs. xs ++ line) p.put ∙ ap (λ xs. told names p.verdicts ++ xs) (counts ∙ ap (λ n. counts_line n failing) p.passes);
    }

pub tried_first : (writes : Bool) (old middle new : Option Contents) (words names : List (List ℕ)) → middle ≡ old → AreNamed old words names
    → PutsFirst writes middle new names → TriesSome writes old new words
tried_first writes old middle new words names same named p =
    inr (record {
      names = names;
      named = named;
      first = p.first;
      rest = p.rest;
      cut = p.cut;
      verdicts = p.verdicts;
      come = subst (λ f. ComeTo writes f new p.first p.verdicts) same p.come;
    })

-- all of them were, and the line that counts them could not be told
pub tried_untold : (writes : Bool) (old middle new : Option Contents) (words names : List (List ℕ)) (before after : List ℕ) (passing failing : ℕ)
    → middle ≡ old → AreNamed old words names → PutsTold writes middle new names before after passing failing → TriesSome writes old new words
tried_untold writes old middle new words names before after passing failing same named p =
    inr (record {
      names = names;
      named = named;
      first = names;
      rest = [];
      cut = sym (append-nil names);
      verdicts = p.verdicts;
      come = subst (λ f. ComeTo writes f new names p.verdicts) same p.come;
    })
