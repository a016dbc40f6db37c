-- The names in a folder, and those of tests among them.
use Rattle.std.proofs.Common.{◌≡◌, ◌∙◌, ℕ, Bool, true, false, cond, ◌||◌, List, []}
use Rattle.std.proofs.Common.{◌∷◌, ◌++◌, String, Global, filter, map, string_bytes, refl, ap, sym, append_assoc}
use Rattle.std.proofs.Common.{◌&&◌, codes}
use Rattle.std.specs.List.{list_any}
use Rattle.std.specs.Str.{bytes_eq}
use Rattle.controller_tests.specs.Names.{beside, in_folder, is_test, is_text}

-- whether a name is among names, by what these are
pub among : (name : List ℕ) (names : List (String Global))
    → list_any (λ other. bytes_eq name (string_bytes other)) names ≡ list_any (bytes_eq name) (map string_bytes names)
among name [] = refl
among name (other ∷ names) = ap (λ b. bytes_eq name (string_bytes other) || b) (among name names)

-- the names of tests, in a folder
abbrev pub tests_from : List ℕ → List (List ℕ) → List (List ℕ) → List (List ℕ)
tests_from folder all names = map (in_folder folder) (filter (is_test all) names)

tests_by : (c : Bool) (folder : List ℕ) (all : List (List ℕ)) (name : List ℕ) (names : List (List ℕ)) → is_test all name ≡ c
    → tests_from folder all (name ∷ names) ≡ cond c (in_folder folder name ∷ tests_from folder all names) (tests_from folder all names)
tests_by true folder all name names e = ap (λ c. map (in_folder folder) (cond c (name ∷ filter (is_test all) names) (filter (is_test all) names))) e
tests_by false folder all name names e = ap (λ c. map (in_folder folder) (cond c (name ∷ filter (is_test all) names) (filter (is_test all) names))) e

-- one more is a test
pub is_one : (folder : List ℕ) (all tests : List (List ℕ)) (name new : List ℕ) (names more : List (List ℕ)) → is_test all name ≡ true
    → new ≡ in_folder folder name → more ≡ tests ++ new ∷ []
    → more ++ tests_from folder all names ≡ tests ++ tests_from folder all (name ∷ names)
is_one folder all tests name new names more is made put =
    ap (λ xs. xs ++ tests_from folder all names) put
    ∙ append_assoc tests (new ∷ []) (tests_from folder all names)
    ∙ ap (λ n. tests ++ (n ∷ tests_from folder all names)) made
    ∙ ap (λ xs. tests ++ xs) (sym (tests_by true folder all name names is))

-- it is none
pub is_none : (folder : List ℕ) (all tests : List (List ℕ)) (name : List ℕ) (names : List (List ℕ)) → is_test all name ≡ false
    → tests ++ tests_from folder all names ≡ tests ++ tests_from folder all (name ∷ names)
is_none folder all tests name names is = ap (λ xs. tests ++ xs) (sym (tests_by false folder all name names is))

-- the ticks beside a text are among names, or not
pub test_there : (names : List (String Global)) (name ticks : List ℕ) (is found : Bool) → is ≡ is_text name → is ≡ true
    → ticks ≡ beside name (codes ".ticks") → found ≡ list_any (λ other. bytes_eq ticks (string_bytes other)) names
    → found ≡ is_test (map string_bytes names) name
test_there names name ticks is found texts holds there any =
    let all = map string_bytes names in
    any ∙ among ticks names
    ∙ ap (λ t. list_any (bytes_eq t) all) there
    ∙ ap (λ b. b && list_any (bytes_eq (beside name (codes ".ticks"))) all) (sym holds ∙ texts)
