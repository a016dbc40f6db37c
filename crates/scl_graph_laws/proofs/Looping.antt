-- Where no goto leads back to itself through labels and gotos alone, each place leads to a statement: a way through more
-- gotos than there are labels comes to one of them twice.
use Rattle.std.proofs.Common.{◌≡◌, ℕ, zero, suc, ◌+◌, ◌≤◌, Option, Some, None, List, [], ◌∷◌, ◌++◌, length, Contains, ⊎_elim, refl, sym, ap, subst, ◌∙◌}
use Rattle.std.proofs.Common.{option_and_then, length-append, arith}
use Rattle.scl.specs.Block.{Block, End, Assign, Label, Goto, Pause, If, Fork, Branches, NoMore, Branch}
use Rattle.scl.specs.Labels.{Front, Jumps, Begins, front, behind_label, label_count, label_count_among, reached_by, settled}
use Rattle.scl.specs.Places.{Place, after_label}
use Rattle.scl_graph.specs.Loops.{ComesTo, at_once, through, HasNoEmptyLoop}
use Rattle.scl_graph_laws.specs.Settling.{EachSettles}
use Rattle.tick_laws.proofs.Lists.{contains_head, contains_tail, contains_none, contains_cons}
use Rattle.scl_graph_laws.proofs.Searching.{own_labels, lower_labels, labels_among, Found, label_stands}
use Rattle.scl_graph_laws.proofs.Scopes.{Distinct, KeepsScopes, goto_found, stay_within}

-- ---- distinct names among others are no more than these

-- a list without what stands at one place of it
pub record Without (xs : List (List ℕ)) (x : List ℕ) : Type 0 where
  pub others : List (List ℕ)
  pub count : length xs ≡ suc (length others)
  pub rest : (y : List ℕ) → Contains xs y → ¬ (x ≡ y) → Contains others y

without : (xs : List (List ℕ)) (x : List ℕ) → Contains xs x → Without xs x
without [] x h = absurd (contains_none x h)
without (z ∷ xs) x h =
    ⊎_elim
    (λ same. record { others = xs; count = refl; rest = λ y i differ. ⊎_elim (λ j. absurd (differ (sym same ∙ j))) (λ tail. tail) (contains_cons z y xs i) })
    (λ tail.
    let less : Without xs x = without xs x tail in
    record {
      others = z ∷ less.others;
      count = ap suc less.count;
      rest = λ y i differ. ⊎_elim (λ j. subst (Contains (z ∷ less.others)) j (contains_head z less.others))
          (λ k. contains_tail z y less.others (less.rest y k differ)) (contains_cons z y xs i);
    })
    (contains_cons z x xs h)

few : (xs ys : List (List ℕ)) → Distinct xs → ((x : List ℕ) → Contains xs x → Contains ys x) → length xs ≤ length ys
few [] ys distinct among = omega arith
few (x ∷ xs) ys distinct among =
    let less : Without ys x = without ys x (among x (contains_head x xs)) in
    let rest : length xs ≤ length less.others = few xs less.others distinct.1
    (λ y h. less.rest y (among y (contains_tail x y xs h)) (λ same. distinct.0 (subst (Contains xs) (sym same) h))) in
    omega (arith, rest, less.count)

-- ---- as many labels as are counted

mutual
  lower_count_is : (b : Block) → length (own_labels b) + length (lower_labels b) ≡ label_count b
  lower_count_is (End n) = refl
  lower_count_is (Assign n x e rest) = lower_count_is rest
  lower_count_is (Label name rest) = let h : length (own_labels rest) + length (lower_labels rest) ≡ label_count rest = lower_count_is rest in omega (arith, h)
  lower_count_is (Goto g name rest) = lower_count_is rest
  lower_count_is (Pause n rest) = lower_count_is rest
  lower_count_is (If n e first second rest) =
      let a : length (own_labels first) + length (lower_labels first) ≡ label_count first = lower_count_is first in
      let b : length (own_labels second) + length (lower_labels second) ≡ label_count second = lower_count_is second in
      let c : length (own_labels rest) + length (lower_labels rest) ≡ label_count rest = lower_count_is rest in
      let o : length ((own_labels first ++ own_labels second) ++ own_labels rest) ≡ length (own_labels first ++ own_labels second) + length (own_labels rest) =
      length-append (own_labels first ++ own_labels second) (own_labels rest) in
      let p : length (own_labels first ++ own_labels second) ≡ length (own_labels first) + length (own_labels second) = length-append (own_labels first)
      (own_labels second) in
      let l : length ((lower_labels first ++ lower_labels second) ++ lower_labels rest) ≡ length (lower_labels first ++ lower_labels second) + length
      (lower_labels rest) = length-append (lower_labels first ++ lower_labels second) (lower_labels rest) in
      let m : length (lower_labels first ++ lower_labels second) ≡ length (lower_labels first) + length (lower_labels second) = length-append
      (lower_labels first) (lower_labels second) in
      omega (arith, a, b, c, o, p, l, m)
  lower_count_is (Fork n branches rest) =
      let a : length (labels_among branches) ≡ label_count_among branches = among_count_is branches in
      let b : length (own_labels rest) + length (lower_labels rest) ≡ label_count rest = lower_count_is rest in
      let l : length (labels_among branches ++ lower_labels rest) ≡ length (labels_among branches) + length (lower_labels rest) = length-append
      (labels_among branches) (lower_labels rest) in
      omega (arith, a, b, l)

  among_count_is : (branches : Branches) → length (labels_among branches) ≡ label_count_among branches
  among_count_is NoMore = refl
  among_count_is (Branch t body more) =
      let a : length (own_labels body) + length (lower_labels body) ≡ label_count body = lower_count_is body in
      let b : length (labels_among more) ≡ label_count_among more = among_count_is more in
      let l : length ((own_labels body ++ lower_labels body) ++ labels_among more) ≡ length (own_labels body ++ lower_labels body) + length
      (labels_among more) = length-append (own_labels body ++ lower_labels body) (labels_among more) in
      let m : length (own_labels body ++ lower_labels body) ≡ length (own_labels body) + length (lower_labels body) = length-append (own_labels body)
      (lower_labels body) in
      omega (arith, a, b, l, m)

-- ---- the labels on a way through gotos

abbrev follow : (Front → List (List ℕ)) → Option Block → List (List ℕ)
follow trail None = []
follow trail (Some k) = trail (front k)

abbrev trail : Block → ℕ → Front → List (List ℕ)
trail root zero f = []
trail root (suc m) (Begins todo) = []
trail root (suc m) (Jumps g name) = name ∷ follow (trail root m) (behind_label root name)

module _ (root : Block) (keeps : KeepsScopes root) where
  -- a goto of some place, or a statement
  abbrev OfPlace : Front → Type 0
  OfPlace (Begins todo) = Unit {0}
  OfPlace (Jumps g name) = (k : Block) × (behind_label root name ≡ Some k) × ((t : ℕ) × Place root t k)

  of_place : (t : ℕ) (todo : Block) → Place root t todo → OfPlace (front todo)
  of_place t (End n) place = tt
  of_place t (Assign n x e rest) place = tt
  of_place t (Label name rest) place = of_place t rest (after_label t name rest place)
  of_place t (Goto g name rest) place =
      let found : Found (behind_label root name) = goto_found root keeps t g name rest place in
      (found.0, found.1, (t, stay_within root keeps t g name rest found.0 place found.1))
  of_place t (Pause n rest) place = tt
  of_place t (If n e a b rest) place = tt
  of_place t (Fork n branches rest) place = tt

  -- a way that has not come to a statement has as many labels as it has gotos
  trail_length : (m : ℕ) (f : Front) → OfPlace f → reached_by root m f ≡ None → length (trail root (suc m) f) ≡ suc m
  trail_length m (Begins todo) at h = absurd (cc)
  trail_length zero (Jumps g name) at h = ap suc (ends (behind_label root name))
    where
      ends : (o : Option Block) → length (follow (trail root zero) o) ≡ 0
      ends None = refl
      ends (Some k) = refl
  trail_length (suc m) (Jumps g name) at h =
      let k : Block = at.0 in
      let rest : length (trail root (suc m) (front k)) ≡ suc m = trail_length m (front k) (of_place at.2.0 k at.2.1)
      (sym (ap (option_and_then (λ k. reached_by root m (front k))) at.1) ∙ h) in
      ap suc (ap (λ o. length (follow (trail root (suc m)) o)) at.1 ∙ rest)

  -- each of them is a label of the text
  trail_labels : (m : ℕ) (f : Front) → OfPlace f → (name : List ℕ) → Contains (trail root m f) name → Contains (own_labels root ++ lower_labels root) name
  trail_labels zero f at name h = absurd (contains_none name h)
  trail_labels (suc m) (Begins todo) at name h = absurd (contains_none name h)
  trail_labels (suc m) (Jumps g l) at name h =
      ⊎_elim
      (λ same. subst (Contains (own_labels root ++ lower_labels root)) same (label_stands root l at.0 at.1))
      (λ tail. trail_labels m (front at.0) (of_place at.2.0 at.0 at.2.1) name (subst (λ o. Contains (follow (trail root m) o) name) at.1 tail))
      (contains_cons l name (follow (trail root m) (behind_label root l)) h)

-- a label on the way behind a label is come to from there
come : (root : Block) (m : ℕ) (name : List ℕ) (k : Block) (f : Front) → behind_label root name ≡ Some k → front k ≡ f → (last : List ℕ)
    → Contains (trail root m f) last → (g : ℕ) × ComesTo root name g last
come root zero name k f is at last h = absurd (contains_none last h)
come root (suc m) name k (Begins todo) is at last h = absurd (contains_none last h)
come root (suc m) name k (Jumps g middle) is at last h =
    ⊎_elim
    (λ same. (g, subst (λ l. ComesTo root name g l) same (at_once name k g middle is at)))
    (λ tail. further (behind_label root middle) refl tail (λ j f i e l c. come root m middle j f i e l c))
    (contains_cons middle last (follow (trail root m) (behind_label root middle)) h)
  where
    further : (o : Option Block) → behind_label root middle ≡ o → Contains (follow (trail root m) o) last →
        ((j : Block) (f : Front) → behind_label root middle ≡ Some j → front j ≡ f → (last : List ℕ) → Contains (trail root m f) last
        → (g : ℕ) × ComesTo root middle g last) → (g : ℕ) × ComesTo root name g last
    further None there tail more = absurd (contains_none last tail)
    further (Some j) there tail more =
        let rest : (g : ℕ) × ComesTo root middle g last = more j (front j) there refl last tail in
        (rest.0, through name k g middle rest.0 last is at rest.1)

-- where no goto leads back to itself, no label comes twice
trail_distinct : (root : Block) → HasNoEmptyLoop root → (m : ℕ) (f : Front) → Distinct (trail root m f)
trail_distinct root no_loop zero f = tt
trail_distinct root no_loop (suc m) (Begins todo) = tt
trail_distinct root no_loop (suc m) (Jumps g name) = behind (behind_label root name) refl (λ f. trail_distinct root no_loop m f)
  where
    behind : (o : Option Block) → behind_label root name ≡ o → ((f : Front) → Distinct (trail root m f)) → Distinct (name ∷ follow (trail root m) o)
    behind None is more = (λ h. contains_none name h, tt)
    behind (Some k) is more = (
      λ h. let c : (g : ℕ) × ComesTo root name g name = come root m name k (front k) is refl name h in no_loop.none c.0 name c.1,
      more (front k),
    )

pub no_loop_settles : (root : Block) → KeepsScopes root → HasNoEmptyLoop root → EachSettles root
no_loop_settles root keeps no_loop t todo place = by (settled root todo) refl
  where
    by : (o : Option Block) → settled root todo ≡ o → (first : Block) × (settled root todo ≡ Some first)
    by (Some first) is = (first, is)
    by None is =
        let m : ℕ = label_count root in
        let at : OfPlace root keeps (front todo) = of_place root keeps t todo place in
        let long : length (trail root (suc m) (front todo)) ≡ suc m = trail_length root keeps m (front todo) at is in
        let short : length (trail root (suc m) (front todo)) ≤ length (own_labels root ++ lower_labels root) =
        few (trail root (suc m) (front todo)) (own_labels root ++ lower_labels root) (trail_distinct root no_loop (suc m) (front todo))
        (trail_labels root keeps (suc m) (front todo) at) in
        let both : length (own_labels root ++ lower_labels root) ≡ length (own_labels root) + length (lower_labels root) = length-append (own_labels root)
        (lower_labels root) in
        let count : length (own_labels root) + length (lower_labels root) ≡ label_count root = lower_count_is root in
        absurd (omega (arith, long, short, both, count))
