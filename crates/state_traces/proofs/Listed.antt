-- The active states, as a line tells of them.
use Rattle.std.specs.Prelude.{Result, Ok, Err, OnOk, is_ok, if◌then◌else◌}
use Rattle.std.proofs.Common.{◌≡◌, ◌∙◌, ℕ, zero, suc, Bool, true, false, Some, None, List, []}
use Rattle.std.proofs.Common.{◌∷◌, ◌++◌, String, Global, map, get_or, slice_get, string_bytes, codes, refl, ap, sym, append_assoc}
use Rattle.json.specs.Print.{quoted}
use Rattle.serde_json.specs.Written.{comma_if, items_text, members_text}
use Rattle.serde_json.proofs.OnLiterals.{serde_json_on_literals}
use Rattle.state_traces.specs.Lines.{paths_at, states_member, texts}
use Rattle.state_traces.specs.Listed.{list_text, states_text, text_at}

pub text_there : (shown : List (String Global)) (n : ℕ) (text : String Global) → slice_get shown n ≡ Some text
    → text_at (map string_bytes shown) n ≡ string_bytes text
text_there [] n text there = absurd cc
text_there (first ∷ shown) zero text there = ap string_bytes (let same : first ≡ text = cc in same)
text_there (first ∷ shown) (suc n) text there = text_there shown n text there

pub text_missing : (shown : List (String Global)) (n : ℕ) → slice_get shown n ≡ None → text_at (map string_bytes shown) n ≡ 34 ∷ 34 ∷ []
text_missing [] n none = refl
text_missing (first ∷ shown) zero none = absurd cc
text_missing (first ∷ shown) (suc n) none = text_missing shown n none

-- a path as JSON writes it
text_of_path : (paths : List (List ℕ)) (n : ℕ) → text_at (map quoted paths) n ≡ quoted (get_or paths n [])
text_of_path [] n = refl
text_of_path (path ∷ paths) zero = refl
text_of_path (path ∷ paths) (suc n) = text_of_path paths n

-- the array of the paths of states
list_is : (later : Bool) (paths : List (List ℕ)) (ns : List ℕ) → list_text later (map quoted paths) ns ≡ items_text later (texts (paths_at paths ns))
list_is later paths [] = refl
list_is later paths (n ∷ ns) =
    ap (λ t. comma_if later ++ (t ++ list_text true (map quoted paths) ns)) (text_of_path paths n)
    ∙ ap (λ t. comma_if later ++ (quoted (get_or paths n []) ++ t)) (list_is true paths ns)

member_is : (paths : List (List ℕ)) → members_text true (states_member paths) ≡ codes ",\"states\":[" ++ (items_text false (texts paths) ++ 125 ∷ [])
unfolding serde_json_on_literals
member_is paths = refl

-- the member of the paths of states is told by their texts
pub told_by : (shown paths : List (List ℕ)) (ns : List ℕ) → shown ≡ map quoted paths
    → states_text shown ns ≡ members_text true (states_member (paths_at paths ns))
told_by shown paths ns same =
    ap (λ all. codes ",\"states\":[" ++ (list_text false all ns ++ 125 ∷ [])) same
    ∙ ap (λ t. codes ",\"states\":[" ++ (t ++ 125 ∷ [])) (list_is false paths ns)
    ∙ sym (member_is (paths_at paths ns))

regroup : (line head all : List ℕ) → ((line ++ head) ++ all) ++ 125 ∷ [] ≡ line ++ (head ++ (all ++ 125 ∷ []))
regroup line head all = simp append_assoc

-- the three pieces of the member, one behind the other
pub states_put : (line begun listed ended : List ℕ) (shown : List (List ℕ)) (ns : List ℕ) → begun ≡ line ++ codes ",\"states\":["
    → listed ++ 93 ∷ [] ≡ begun ++ list_text false shown ns
    → ended ≡ listed ++ codes "]}" → ended ≡ line ++ states_text shown ns
states_put line begun listed ended shown ns is_begun is_listed is_ended =
    let closed : listed ++ 93 ∷ 125 ∷ [] ≡ (listed ++ 93 ∷ []) ++ 125 ∷ [] = sym (append_assoc listed (93 ∷ []) (125 ∷ [])) in
    is_ended ∙ closed ∙ ap (λ t. t ++ 125 ∷ []) is_listed
    ∙ ap (λ t. (t ++ list_text false shown ns) ++ 125 ∷ []) is_begun
    ∙ regroup line (codes ",\"states\":[") (list_text false shown ns)

pub ended : {A E : Type 0} (r : Result A E) (line begun listed end : List ℕ) (shown : List (List ℕ)) (ns : List ℕ) → begun ≡ line ++ codes ",\"states\":["
    → listed ++ 93 ∷ [] ≡ begun ++ list_text false shown ns → end ≡ (if is_ok r then listed ++ codes "]}" else listed)
    → OnOk r (end ≡ line ++ states_text shown ns)
ended (Ok a) line begun listed end shown ns is_begun is_listed is_ended = states_put line begun listed end shown ns is_begun is_listed is_ended
ended (Err e) line begun listed end shown ns is_begun is_listed is_ended = tt
