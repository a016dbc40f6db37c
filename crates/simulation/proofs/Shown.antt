-- The lines of states, one after another.
use Rattle.std.proofs.Common.{◌≡◌, ◌∙◌, ℕ, zero, suc, ◌+◌, ◌<◌, Bool, true, false, Some}
use Rattle.std.proofs.Common.{None, List, [], ◌∷◌, ◌++◌, length, String, Global, map, get_or, slice_get, string_bytes}
use Rattle.std.proofs.Common.{refl, ap, sym, arith, append_assoc, codes}
use Rattle.std.specs.Prelude.{Result, Ok, Err, OnOk}
use Rattle.std.specs.List.{position_or_len, before_first, after_first}
use Rattle.simulation.specs.Pieces.{is_between, onto_piece, pieces}
use Rattle.simulation.specs.Tree.{mark, set_in}
use Rattle.simulation.proofs.Split.{whole, cut, pieces_by}

-- there is always a piece
some_piece : (ps : List (List ℕ)) (x : ℕ) → (piece : List ℕ) × (more : List (List ℕ)) × (onto_piece x ps ≡ piece ∷ more)
some_piece [] x = (x ∷ [], [], refl)
some_piece (p ∷ ps) x = (x ∷ p, ps, refl)

piece_by : (c : Bool) (between x : ℕ) (xs : List ℕ) → is_between between x ≡ c
    → (piece : List ℕ) × (more : List (List ℕ)) × (pieces between (x ∷ xs) ≡ piece ∷ more)
piece_by true between x xs e = ([], pieces between xs, pieces_by true between x xs e)
piece_by false between x xs e =
    let s = some_piece (pieces between xs) x in
    (s.0, s.1, pieces_by false between x xs e ∙ s.2)

first_piece : (between : ℕ) (xs : List ℕ) → (piece : List ℕ) × (more : List (List ℕ)) × (pieces between xs ≡ piece ∷ more)
first_piece between [] = ([], [], refl)
first_piece between (x ∷ xs) = piece_by (is_between between x) between x xs refl

set_in_by : (active : Bool) (outer : List ℕ) (text : List ℕ) → set_in active (outer ∷ pieces 47 text) ≡ codes "    " ++ set_in active (pieces 47 text)
set_in_by active outer text =
    let p = first_piece 47 text in
    ap (λ ps. set_in active (outer ∷ ps)) p.2 ∙ ap (λ ps. codes "    " ++ set_in active ps) (sym p.2)

-- one slash more was passed
pub one_slash : (all now new text rest : List ℕ) (active : Bool) → position_or_len (is_between 47) text < length text
    → rest ≡ after_first (is_between 47) text → new ≡ now ++ codes "    " → now ++ set_in active (pieces 47 text) ≡ all
    → new ++ set_in active (pieces 47 rest) ≡ all
one_slash all now new text rest active some behind put before =
    ap (λ t. t ++ set_in active (pieces 47 rest)) put
    ∙ append_assoc now (codes "    ") (set_in active (pieces 47 rest))
    ∙ ap (λ r. now ++ (codes "    " ++ set_in active (pieces 47 r))) behind
    ∙ ap (λ t. now ++ t) (sym (set_in_by active (before_first (is_between 47) text) (after_first (is_between 47) text)))
    ∙ ap (λ ps. now ++ set_in active ps) (sym (cut 47 text some)) ∙ before

-- there is no slash more
pub no_slash : (all now new text : List ℕ) (active : Bool) → position_or_len (is_between 47) text ≡ length text
    → new ≡ now ++ (mark active ++ (text ++ 10 ∷ [])) → now ++ set_in active (pieces 47 text) ≡ all → new ≡ all
no_slash all now new text active none put before =
    put ∙ ap (λ ps. now ++ set_in active ps) (sym (whole 47 text none)) ∙ before

pub path_there : (paths : List (String Global)) (n : ℕ) (path : String Global) → slice_get paths n ≡ Some path
    → get_or (map string_bytes paths) n [] ≡ string_bytes path
path_there [] n path there = absurd cc
path_there (first ∷ paths) zero path there = ap string_bytes (let same : first ≡ path = cc in same)
path_there (first ∷ paths) (suc n) path there = path_there paths n path there

pub path_missing : (paths : List (String Global)) (n : ℕ) → slice_get paths n ≡ None → get_or (map string_bytes paths) n [] ≡ []
path_missing [] n none = refl
path_missing (first ∷ paths) zero none = absurd cc
path_missing (first ∷ paths) (suc n) none = path_missing paths n none

pub state_put : {A E : Type 0} (r : Result A E) (all now new text : List ℕ) (active : Bool) → position_or_len (is_between 47) text ≡ length text
    → OnOk r (new ≡ now ++ (mark active ++ (text ++ 10 ∷ []))) → now ++ set_in active (pieces 47 text) ≡ all → OnOk r (new ≡ all)
state_put (Ok a) all now new text active none put before = no_slash all now new text active none put before
state_put (Err e) all now new text active none put before = tt
