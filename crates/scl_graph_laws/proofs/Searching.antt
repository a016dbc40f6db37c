-- What the search for a label finds: the labels of a text, and where they stand.
use Rattle.std.proofs.Common.{◌≡◌, ℕ, ◌⊎◌, Bool, true, false, Option, Some, None, List, [], ◌∷◌, ◌++◌, Contains, if◌then◌else◌, inl, inr, ⊎_elim, refl, sym, ap}
use Rattle.std.proofs.Common.{subst, ◌∙◌, option_map}
use Rattle.std.proofs.lemmas.List.Elements.{Contains-append_left, Contains-append_right, Contains-append_cases}
use Rattle.std.specs.Str.{bytes_eq}
use Rattle.std.proofs.lemmas.Slice.Eq.{bytes_eq-Decides}
use Rattle.std.proofs.lemmas.Option.{none-some, same_Some}
use Rattle.scl.specs.Block.{Block, End, Assign, Label, Goto, Pause, If, Fork, Branches}
use Rattle.scl.specs.Labels.{before, or_else, behind_own_label, behind_lower, behind_lower_label, behind_label_among, behind_label}
use Rattle.scl.specs.Places.{Place, after_assign, after_label, after_goto, after_pause, in_first, in_second, after_if, after_fork}
use Rattle.scl.specs.Sums.{Sum, total, total_among}
use Rattle.scl.proofs.Sums.{AreRelated, totals_related, totals_among_related}
use Rattle.scl_graph.specs.Graph.{end}
use Rattle.scl_graph.proofs.Before.{before_before}
use Rattle.scl_graph.proofs.Fronts.{own_end}
use Rattle.tick_laws.proofs.Lists.{contains_head, contains_tail, contains_none, contains_cons}
use Rattle.scl_graph_laws.proofs.Ways.{before_end}

-- the labels of a thread's text
abbrev pub own_listed : Sum (List (List ℕ))
own_listed =
    record {
      nothing = [];
      together = λ first second. first ++ second;
      label = λ name names. name ∷ names;
      fork = λ below names. names;
      branch = λ t body names. names;
    }

abbrev pub own_labels : Block → List (List ℕ)
own_labels = total own_listed

-- its gotos
abbrev pub own_gotos : Block → List (List ℕ)
own_gotos (End n) = []
own_gotos (Assign n x e rest) = own_gotos rest
own_gotos (Label name rest) = own_gotos rest
own_gotos (Goto g name rest) = name ∷ own_gotos rest
own_gotos (Pause n rest) = own_gotos rest
own_gotos (If n e first second rest) = (own_gotos first ++ own_gotos second) ++ own_gotos rest
own_gotos (Fork n branches rest) = own_gotos rest

-- the labels of the threads that it forks
abbrev pub lower_listed : Sum (List (List ℕ))
lower_listed =
    record own_listed { label = λ name names. names; fork = λ first second. first ++ second; branch = λ t body names. own_labels body ++ names }

abbrev pub lower_labels : Block → List (List ℕ)
lower_labels = total lower_listed

abbrev pub labels_among : Branches → List (List ℕ)
labels_among = total_among lower_listed

-- ---- what is found in one place or in another

pub unlike : (b : Bool) → b ≡ true → b ≡ false → ⊥
unlike b h k = cc

-- something is found
abbrev pub Found : Option Block → Type 0
Found o = (k : Block) × (o ≡ Some k)

pub found_first : (o p : Option Block) → Found o → or_else o p ≡ o
found_first o p h = ap (λ o. or_else o p) h.1 ∙ sym h.1

pub found_second : (o p : Option Block) → o ≡ None → or_else o p ≡ p
found_second o p h = ap (λ o. or_else o p) h

found_here : (o p : Option Block) → Found o → Found (or_else o p)
found_here o p h = (h.0, found_first o p h ∙ h.1)

found_there : (o p : Option Block) → Found p → Found (or_else o p)
found_there None p h = h
found_there (Some k) p h = (k, refl)

found_cases : (o p : Option Block) (k : Block) → or_else o p ≡ Some k → (o ≡ Some k) ⊎ (p ≡ Some k)
found_cases None p k h = inr h
found_cases (Some j) p k h = inl h

found_mapped : (f : Block → Block) (o : Option Block) → Found o → Found (option_map f o)
found_mapped f o h = (f h.0, ap (option_map f) h.1)

before_mapped : (f : Block → Block) (o : Option Block) (k : Block) → option_map f o ≡ Some k → (j : Block) × (o ≡ Some j) × (f j ≡ k)
before_mapped f None k h = absurd (none-some k h)
before_mapped f (Some j) k h = (j, refl, same_Some (f j) k h)

pub or_else_assoc : (o p r : Option Block) → or_else (or_else o p) r ≡ or_else o (or_else p r)
or_else_assoc None p r = refl
or_else_assoc (Some k) p r = refl

none_or : (P : Type 0) (o : Option Block) → ((k : Block) → o ≡ Some k → P) → ¬ P → o ≡ None
none_or P None h without = refl
none_or P (Some k) h without = absurd (without (h k refl))

-- ---- the labels of the thread itself

pub own_found : (b : Block) (name : List ℕ) → Contains (own_labels b) name → Found (behind_own_label b name)
own_found (End n) name h = absurd (contains_none name h)
own_found (Assign n x e rest) name h = own_found rest name h
own_found (Label l rest) name h = at (bytes_eq l name) refl (own_found rest name)
  where
    at : (b : Bool) → bytes_eq l name ≡ b → (Contains (own_labels rest) name → Found (behind_own_label rest name))
        → Found (if b then Some rest else behind_own_label rest name)
    at true is more = (rest, refl)
    at false is more = ⊎_elim (λ same. absurd (unlike (bytes_eq l name) ((bytes_eq-Decides l name).1 same) is)) more (contains_cons l name (own_labels rest) h)
own_found (Goto g l rest) name h = own_found rest name h
own_found (Pause n rest) name h = own_found rest name h
own_found (If n e first second rest) name h =
    let a : Option Block = option_map (λ k. before k rest) (behind_own_label first name) in
    let b : Option Block = option_map (λ k. before k rest) (behind_own_label second name) in
    let c : Option Block = behind_own_label rest name in
    ⊎_elim
    (λ i. ⊎_elim
    (λ j. found_here a (or_else b c) (found_mapped (λ k. before k rest) (behind_own_label first name) (own_found first name j)))
    (λ j. found_there a (or_else b c) (found_here b c (found_mapped (λ k. before k rest) (behind_own_label second name) (own_found second name j))))
    (Contains-append_cases (own_labels first) (own_labels second) name i))
    (λ i. found_there a (or_else b c) (found_there b c (own_found rest name i)))
    (Contains-append_cases (own_labels first ++ own_labels second) (own_labels rest) name h)
own_found (Fork n branches rest) name h = own_found rest name h

own_stands : (b : Block) (name : List ℕ) (k : Block) → behind_own_label b name ≡ Some k → Contains (own_labels b) name
own_stands (End n) name k h = absurd (none-some k h)
own_stands (Assign n x e rest) name k h = own_stands rest name k h
own_stands (Label l rest) name k h = at (bytes_eq l name) refl h (own_stands rest name)
  where
    at : (b : Bool) → bytes_eq l name ≡ b → (if b then Some rest else behind_own_label rest name) ≡ Some k
        → ((k : Block) → behind_own_label rest name ≡ Some k → Contains (own_labels rest) name) → Contains (l ∷ own_labels rest) name
    at true is h more = subst (λ l. Contains (l ∷ own_labels rest) name) (sym ((bytes_eq-Decides l name).0 is)) (contains_head name (own_labels rest))
    at false is h more = contains_tail l name (own_labels rest) (more k h)
own_stands (Goto g l rest) name k h = own_stands rest name k h
own_stands (Pause n rest) name k h = own_stands rest name k h
own_stands (If n e first second rest) name k h =
    let a : Option Block = option_map (λ k. before k rest) (behind_own_label first name) in
    let b : Option Block = option_map (λ k. before k rest) (behind_own_label second name) in
    let c : Option Block = behind_own_label rest name in
    ⊎_elim
    (λ i.
    let j : (j : Block) × (behind_own_label first name ≡ Some j) × (before j rest ≡ k) = before_mapped (λ k. before k rest) (behind_own_label first name) k i in
    Contains-append_left (own_labels first ++ own_labels second) (own_labels rest) name
    (Contains-append_left (own_labels first) (own_labels second) name (own_stands first name j.0 j.1)))
    (λ i. ⊎_elim
    (λ i.
    let j : (j : Block) × (behind_own_label second name ≡ Some j) × (before j rest ≡ k) = before_mapped (λ k. before k rest) (behind_own_label second name) k i
    in
    Contains-append_left (own_labels first ++ own_labels second) (own_labels rest) name
    (Contains-append_right (own_labels first) (own_labels second) name (own_stands second name j.0 j.1)))
    (λ i. Contains-append_right (own_labels first ++ own_labels second) (own_labels rest) name (own_stands rest name k i))
    (found_cases b c k i))
    (found_cases a (or_else b c) k h)
own_stands (Fork n branches rest) name k h = own_stands rest name k h

pub own_none : (b : Block) (name : List ℕ) → ¬ Contains (own_labels b) name → behind_own_label b name ≡ None
own_none b name without = none_or (Contains (own_labels b) name) (behind_own_label b name) (own_stands b name) without

-- ---- those of the threads below

module _ (name : List ℕ) where
  either_found : (o p : Option Block) (xs ys : List (List ℕ)) → (Contains xs name → Found o) → (Contains ys name → Found p) → Contains (xs ++ ys) name
      → Found (or_else o p)
  either_found o p xs ys h k i = ⊎_elim (λ j. found_here o p (h j)) (λ j. found_there o p (k j)) (Contains-append_cases xs ys name i)

  found_by_parts : AreRelated (λ o xs. Contains xs name → Found o) (behind_lower name) lower_listed
  found_by_parts = record {
    nothing = λ h. absurd (contains_none name h);
    together = either_found;
    label = λ other o xs h. h;
    fork = either_found;
    branch = λ t body o xs. either_found (behind_own_label body name) o (own_labels body) xs (own_found body name);
  }

  either_stands : (o p : Option Block) (xs ys : List (List ℕ)) → ((k : Block) → o ≡ Some k → Contains xs name)
      → ((k : Block) → p ≡ Some k → Contains ys name) → (k : Block) → or_else o p ≡ Some k → Contains (xs ++ ys) name
  either_stands o p xs ys h i k is =
      ⊎_elim (λ j. Contains-append_left xs ys name (h k j)) (λ j. Contains-append_right xs ys name (i k j)) (found_cases o p k is)

  stands_by_parts : AreRelated (λ o xs. (k : Block) → o ≡ Some k → Contains xs name) (behind_lower name) lower_listed
  stands_by_parts = record {
    nothing = λ k h. absurd (none-some k h);
    together = either_stands;
    label = λ other o xs h. h;
    fork = either_stands;
    branch = λ t body o xs. either_stands (behind_own_label body name) o (own_labels body) xs (own_stands body name);
  }

pub lower_found : (b : Block) (name : List ℕ) → Contains (lower_labels b) name → Found (behind_lower_label b name)
lower_found b name = totals_related (behind_lower name) lower_listed (found_by_parts name) b

pub among_found : (branches : Branches) (name : List ℕ) → Contains (labels_among branches) name → Found (behind_label_among branches name)
among_found branches name = totals_among_related (behind_lower name) lower_listed (found_by_parts name) branches

lower_stands : (b : Block) (name : List ℕ) (k : Block) → behind_lower_label b name ≡ Some k → Contains (lower_labels b) name
lower_stands b name = totals_related (behind_lower name) lower_listed (stands_by_parts name) b

among_stands : (branches : Branches) (name : List ℕ) (k : Block) → behind_label_among branches name ≡ Some k → Contains (labels_among branches) name
among_stands branches name = totals_among_related (behind_lower name) lower_listed (stands_by_parts name) branches

pub lower_none : (b : Block) (name : List ℕ) → ¬ Contains (lower_labels b) name → behind_lower_label b name ≡ None
lower_none b name without = none_or (Contains (lower_labels b) name) (behind_lower_label b name) (lower_stands b name) without

pub among_none : (branches : Branches) (name : List ℕ) → ¬ Contains (labels_among branches) name → behind_label_among branches name ≡ None
among_none branches name without = none_or (Contains (labels_among branches) name) (behind_label_among branches name) (among_stands branches name) without

-- ---- where a thread's own label leads

own_place : (root : Block) (t : ℕ) (b r : Block) (name : List ℕ) (k : Block) → Place root t (before b r) → behind_own_label b name ≡ Some k
    → Place root t (before k r)
own_place root t (End n) r name k place h = absurd (none-some k h)
own_place root t (Assign n x e rest) r name k place h = own_place root t rest r name k (after_assign t n x e (before rest r) place) h
own_place root t (Label l rest) r name k place h = at (bytes_eq l name) h (after_label t l (before rest r) place) (own_place root t rest r name k)
  where
    at : (b : Bool) → (if b then Some rest else behind_own_label rest name) ≡ Some k → Place root t (before rest r)
        → (Place root t (before rest r) → behind_own_label rest name ≡ Some k → Place root t (before k r)) → Place root t (before k r)
    at true h here more = subst (λ k. Place root t (before k r)) (same_Some rest k h) here
    at false h here more = more here h
own_place root t (Goto g l rest) r name k place h = own_place root t rest r name k (after_goto t g l (before rest r) place) h
own_place root t (Pause n rest) r name k place h = own_place root t rest r name k (after_pause t n (before rest r) place) h
own_place root t (If n e first second rest) r name k place h =
    let a : Option Block = option_map (λ k. before k rest) (behind_own_label first name) in
    let b : Option Block = option_map (λ k. before k rest) (behind_own_label second name) in
    let c : Option Block = behind_own_label rest name in
    ⊎_elim
    (λ i.
    let j : (j : Block) × (behind_own_label first name ≡ Some j) × (before j rest ≡ k) = before_mapped (λ k. before k rest) (behind_own_label first name) k i in
    subst (λ k. Place root t (before k r)) j.2
    (subst (Place root t) (sym (before_before j.0 rest r))
    (own_place root t first (before rest r) name j.0 (in_first t n e first second (before rest r) place) j.1)))
    (λ i. ⊎_elim
    (λ i.
    let j : (j : Block) × (behind_own_label second name ≡ Some j) × (before j rest ≡ k) = before_mapped (λ k. before k rest) (behind_own_label second name) k i
    in
    subst (λ k. Place root t (before k r)) j.2
    (subst (Place root t) (sym (before_before j.0 rest r))
    (own_place root t second (before rest r) name j.0 (in_second t n e first second (before rest r) place) j.1)))
    (λ i. own_place root t rest r name k (after_if t n e first second (before rest r) place) i)
    (found_cases b c k i))
    (found_cases a (or_else b c) k h)
own_place root t (Fork n branches rest) r name k place h = own_place root t rest r name k (after_fork t n branches (before rest r) place) h

-- what is behind a label of a thread's whole text is a place of the thread
pub label_place : (root : Block) (t : ℕ) (body : Block) (name : List ℕ) (k : Block) → Place root t body → behind_own_label body name ≡ Some k → Place root t k
label_place root t body name k place h =
    let found : Place root t (before k (End (end body))) = own_place root t body (End (end body)) name k (subst (Place root t) (sym (before_end body)) place) h
    in
    subst (Place root t) (before_end k) (subst (λ n. Place root t (before k (End n))) (sym (own_end body name k h)) found)

-- what is found stands in the text
pub label_stands : (b : Block) (name : List ℕ) (k : Block) → behind_label b name ≡ Some k → Contains (own_labels b ++ lower_labels b) name
label_stands b name k h =
    ⊎_elim
    (λ i. Contains-append_left (own_labels b) (lower_labels b) name (own_stands b name k i))
    (λ i. Contains-append_right (own_labels b) (lower_labels b) name (lower_stands b name k i))
    (found_cases (behind_own_label b name) (behind_lower_label b name) k h)
