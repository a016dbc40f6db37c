-- Lists of what data give.
use Rattle.std.proofs.Common.{◌≡◌, ◌≢◌, ◌≤◌, ℕ, max, length, drop, append-nil, List, [], ◌∷◌}
use Rattle.std.proofs.Common.{◌++◌, Option, Some, None, option_map, refl, sym, ap, subst, ◌∙◌, append_assoc, arith}
use Rattle.std.specs.Option.{option_and_then}
use Rattle.std.specs.Prelude.{◌+◌, ◌<◌, get_or, take}
use Rattle.std.proofs.lemmas.List.{drop_all, take_more}
use Rattle.std.proofs.lemmas.Option.{none-some, same_Some}
use Rattle.serde_json.specs.Data.{Data, Items, item, depth, items_depth}
use Rattle.serde_json.specs.View.{items_view, view}
use Rattle.serde_json.specs.declared.value.Value.{Value as Json}
use Rattle.std.proofs.Common.{Result, Ok, Err, IfOk, String, Global, string_bytes}
use Rattle.std.proofs.lemmas.Str.{IsUtf8-string_bytes}
use Rattle.serde_json.specs.Read.{read}
use Rattle.sc_graph.specs.declared.control.Control.{Control}
use Rattle.ruled_runs.specs.Texts.{all_in, Holds, IsSaved, waits_at}

behind : {A : Type 0} (vs : List A) (v : A) (o : Option (List A))
    → option_map (λ rest. vs ++ rest) (option_map (λ rest. v ∷ rest) o) ≡ option_map (λ rest. (vs ++ v ∷ []) ++ rest) o
behind vs v None = refl
behind vs v (Some rest) = ap Some (sym (append_assoc vs (v ∷ []) rest))

-- the first of data gives one more
pub one_more : {A : Type 0} (f : Data → Option A) (vs : List A) (v : A) (d : Data) (ds : Items) → f d ≡ Some v
    → option_map (λ rest. vs ++ rest) (all_in f (item d ds)) ≡ option_map (λ rest. (vs ++ v ∷ []) ++ rest) (all_in f ds)
one_more f vs v d ds is = rw is (behind vs v (all_in f ds))

-- it gives nothing
pub one_lacks : {A : Type 0} (f : Data → Option A) (vs : List A) (d : Data) (ds : Items) → f d ≡ None
    → option_map (λ rest. vs ++ rest) (all_in f (item d ds)) ≡ None
one_lacks f vs d ds is = rw is refl

-- all gave something
pub all_found : {A : Type 0} (f : Data → Option A) (js : List Json) (vs : List A) (n : ℕ) (o : Option (List A)) → length js ≤ n
    → option_map (λ rest. vs ++ rest) (all_in f (items_view (drop n js))) ≡ o → Some vs ≡ o
all_found f js vs n o all is =
    let none : drop n js ≡ [] = drop_all n js all in
    ap Some (sym (append-nil vs)) ∙ sym (ap (λ ks. option_map (λ rest. vs ++ rest) (all_in f (items_view ks))) none) ∙ is

-- data with one more behind them
behind_by : {A : Type 0} (first : Option A) (rest more : Option (List A)) (vs : List A) (v : A)
    → option_and_then (λ a. option_map (λ xs. a ∷ xs) rest) first ≡ Some vs → ((ws : List A) → rest ≡ Some ws → more ≡ Some (ws ++ v ∷ []))
    → option_and_then (λ a. option_map (λ xs. a ∷ xs) more) first ≡ Some (vs ++ v ∷ [])
behind_by None rest more vs v e later = absurd (none-some vs e)
behind_by (Some a) None more vs v e later = absurd (none-some vs e)
behind_by (Some a) (Some ws) more vs v e later =
    rw (later ws refl) (ap (λ xs. Some (xs ++ v ∷ [])) (same_Some (a ∷ ws) vs e))

all_behind : {A : Type 0} (f : Data → Option A) (js : List Json) (j : Json) (vs : List A) (v : A) → all_in f (items_view js) ≡ Some vs → f (view j) ≡ Some v
    → all_in f (items_view (js ++ j ∷ [])) ≡ Some (vs ++ v ∷ [])
all_behind f [] j vs v all is = rw is (ap (λ xs. Some (xs ++ v ∷ [])) (same_Some [] vs all))
all_behind f (k ∷ js) j vs v all is =
    behind_by (f (view k)) (all_in f (items_view js)) (all_in f (items_view (js ++ j ∷ []))) vs v all (λ ws e. all_behind f js j ws v e is)

-- one more value was put behind them
pub one_behind : {A : Type 0} (f : Data → Option A) (js new : List Json) (j : Json) (vs : List A) (n : ℕ) (a : A) → new ≡ js ++ j ∷ []
    → all_in f (items_view js) ≡ Some (take n vs) → f (view j) ≡ Some (get_or vs n a) → n < length vs → all_in f (items_view new) ≡ Some (take (n + 1) vs)
one_behind f js new j vs n a more all is less =
    ap (λ ks. all_in f (items_view ks)) more
    ∙ all_behind f js j (take n vs) (get_or vs n a) all is
    ∙ ap Some (sym (take_more vs n a less))

max_of : (n m k : ℕ) → n ≤ k → m ≤ k → max n m ≤ k
max_of n m k first second = omega (arith, first, second)

-- depths
deep_by : (js : List Json) (j : Json) (k : ℕ) → items_depth (items_view js) ≤ k → depth (view j) ≤ k → items_depth (items_view (js ++ j ∷ [])) ≤ k
deep_by [] j k all is = max_of (depth (view j)) 0 k is (omega arith)
deep_by (i ∷ js) j k all is =
    let rest : items_depth (items_view js) ≤ k = omega (arith, all) in
    max_of (depth (view i)) (items_depth (items_view (js ++ j ∷ []))) k (omega (arith, all)) (deep_by js j k rest is)

pub deep_behind : (js new : List Json) (j : Json) (k : ℕ) → new ≡ js ++ j ∷ [] → items_depth (items_view js) ≤ k → depth (view j) ≤ k
    → items_depth (items_view new) ≤ k
deep_behind js new j k more all is = subst (λ ks. items_depth (items_view ks) ≤ k) (sym more) (deep_by js j k all is)

-- a list with one behind its first tells of no join
pub waits_more : (js rest : List Json) (j : Json) → js ≡ j ∷ rest → rest ≢ [] → None ≡ waits_at (items_view js)
waits_more js rest j begins some = sym (ap (λ ks. waits_at (items_view ks)) begins ∙ at rest some)
  where
    at : (rest : List Json) → rest ≢ [] → waits_at (items_view (j ∷ rest)) ≡ None
    at [] some = absurd (some refl)
    at (k ∷ more) some = refl

-- what was written is read
pub saved_text : {E : Type 0} (r : Result (String Global) E) (json : Data) (t : ℕ) (c : Control) → Holds json t c
    → IfOk r (λ text. read (string_bytes text) ≡ Some json) → IfOk r (λ text. IsSaved (string_bytes text) t c)
saved_text (Ok text) json t c holds reads = record { is = json; utf8 = IsUtf8-string_bytes text; reads = reads; holds = holds }
saved_text (Err e) json t c holds reads = tt
