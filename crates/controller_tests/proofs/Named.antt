-- Words, one after the other, and the tests that they name.
use Rattle.std.proofs.Common.{◌≡◌, ◌∙◌, ℕ, Option, List, [], ◌∷◌, ◌++◌, refl, ap, sym, subst, append-nil, append_assoc}
use Rattle.command_files.specs.Files.{Contents, Lists}
use Rattle.controller_tests.specs.Inside.Putting.{PutsNamed}
use Rattle.controller_tests.specs.Naming.{AreNamed, named_by}

pub puts_none : (files : Option Contents) (tests : List (List ℕ)) → PutsNamed files [] tests tests
puts_none files tests = record { named = []; are = refl; put = sym (append-nil tests) }

pub puts_more : (files middle : Option Contents) (word : List ℕ) (words old own between new : List (List ℕ)) (names : Option (List (List ℕ)))
    → middle ≡ files → Lists files word names → own ≡ named_by word names → between ≡ old ++ own → PutsNamed middle words between new
    → PutsNamed files (word ∷ words) old new
puts_more files middle word words old own between new names same lists is put more =
    record {
      named = named_by word names ++ more.named;
      are = (names, more.named, lists, subst (λ f. AreNamed f words more.named) same more.are, refl);
      put = more.put ∙ ap (λ xs. xs ++ more.named) put ∙ append_assoc old own more.named ∙ ap (λ xs. old ++ (xs ++ more.named)) is;
    }
