-- Each goto finds its label in its own thread, where each thread's gotos name labels of its own and no label stands
-- twice.
use Rattle.std.proofs.Common.{◌≡◌, ℕ, Option, Some, None, List, [], ◌∷◌, ◌++◌, Contains, ⊎_elim, refl, sym, ap, subst, ◌∙◌, append_assoc}
use Rattle.std.proofs.lemmas.List.Elements.{Contains-append_left, Contains-append_right, Contains-append_cases}
use Rattle.sc_values.specs.declared.expression.Expr.{Expr}
use Rattle.scl.specs.Block.{Block, End, Assign, Label, Goto, Pause, If, Fork, Branches, NoMore, Branch}
use Rattle.scl.specs.Labels.{before, or_else, behind_own_label, behind_lower, behind_lower_label, behind_label_among, behind_label}
use Rattle.scl.specs.Places.{Place, whole, after_assign, after_label, after_goto, after_pause, in_first, in_second, after_if, after_fork, in_branch, IsBranch}
use Rattle.scl.specs.Places.{here, later}
use Rattle.scl.proofs.Sums.{total_before}
use Rattle.scl_graph_laws.specs.Settling.{StayWithin}
use Rattle.tick_laws.proofs.Lists.{contains_head, contains_tail, contains_none, contains_cons}
use Rattle.scl_graph_laws.proofs.Searching.{own_labels, own_gotos, lower_listed, lower_labels, labels_among, Found, found_first, found_second}
use Rattle.scl_graph_laws.proofs.Searching.{or_else_assoc, own_found, own_none, lower_found, lower_none, among_found, among_none, label_place}

-- ---- lists in which nothing stands twice

abbrev pub Distinct : List (List ℕ) → Type 0
Distinct [] = Unit {0}
Distinct (x ∷ xs) = (¬ Contains xs x) × Distinct xs

pub distinct_first : (xs ys : List (List ℕ)) → Distinct (xs ++ ys) → Distinct xs
distinct_first [] ys h = tt
distinct_first (x ∷ xs) ys h = (λ i. h.0 (Contains-append_left xs ys x i), distinct_first xs ys h.1)

pub distinct_second : (xs ys : List (List ℕ)) → Distinct (xs ++ ys) → Distinct ys
distinct_second [] ys h = h
distinct_second (x ∷ xs) ys h = distinct_second xs ys h.1

-- nothing stands in both of two lists in a row
pub distinct_apart : (xs ys : List (List ℕ)) (x : List ℕ) → Distinct (xs ++ ys) → Contains xs x → Contains ys x → ⊥
distinct_apart [] ys x h i j = contains_none x i
distinct_apart (z ∷ xs) ys x h i j =
    ⊎_elim (λ same. h.0 (subst (Contains (xs ++ ys)) (sym same) (Contains-append_right xs ys x j))) (λ tail. distinct_apart xs ys x h.1 tail j)
    (contains_cons z x xs i)

distinct_both : (xs ys : List (List ℕ)) → Distinct xs → Distinct ys → ((x : List ℕ) → Contains xs x → Contains ys x → ⊥) → Distinct (xs ++ ys)
distinct_both [] ys h k apart = k
distinct_both (x ∷ xs) ys h k apart = (
  λ i. ⊎_elim (λ j. h.0 j) (λ j. apart x (contains_head x xs) j) (Contains-append_cases xs ys x i),
  distinct_both xs ys h.1 k (λ y i j. apart y (contains_tail x y xs i) j),
)

-- of three lists in a row, the first and the third, and the second and the third
outer_distinct : (a b c : List (List ℕ)) → Distinct ((a ++ b) ++ c) → Distinct (a ++ c)
outer_distinct a b c h =
    distinct_both a c (distinct_first a b (distinct_first (a ++ b) c h)) (distinct_second (a ++ b) c h)
    (λ x i j. distinct_apart (a ++ b) c x h (Contains-append_left a b x i) j)

inner_distinct : (a b c : List (List ℕ)) → Distinct ((a ++ b) ++ c) → Distinct (b ++ c)
inner_distinct a b c h =
    distinct_both b c (distinct_second a b (distinct_first (a ++ b) c h)) (distinct_second (a ++ b) c h)
    (λ x i j. distinct_apart (a ++ b) c x h (Contains-append_right a b x i) j)

-- ---- what a text has to keep

-- the gotos of a thread name labels of its own
abbrev pub FindsLabels : Block → Type 0
FindsLabels body = (name : List ℕ) → Contains (own_gotos body) name → Contains (own_labels body) name

abbrev mutual
  -- so do those of each thread that is forked in a text
  pub NoneLost : Block → Type 0
  NoneLost (End n) = Unit {0}
  NoneLost (Assign n x e rest) = NoneLost rest
  NoneLost (Label name rest) = NoneLost rest
  NoneLost (Goto g name rest) = NoneLost rest
  NoneLost (Pause n rest) = NoneLost rest
  NoneLost (If n e first second rest) = NoneLost first × NoneLost second × NoneLost rest
  NoneLost (Fork n branches rest) = NoneLostAmong branches × NoneLost rest

  pub NoneLostAmong : Branches → Type 0
  NoneLostAmong NoMore = Unit {0}
  NoneLostAmong (Branch t body more) = FindsLabels body × NoneLost body × NoneLostAmong more

pub record KeepsScopes (root : Block) : Type 0 where
  pub distinct : Distinct (own_labels root ++ lower_labels root)
  pub found : FindsLabels root
  pub none_lost : NoneLost root

-- ---- a list of statements, and then what follows it

lower_before : (b k : Block) → lower_labels (before b k) ≡ lower_labels b ++ lower_labels k
lower_before =
    total_before lower_listed (record { nothing = λ names. refl; three = append_assoc; label = λ name first second. refl; fork = append_assoc })

gotos_before : (b k : Block) → own_gotos (before b k) ≡ own_gotos b ++ own_gotos k
gotos_before (End n) k = refl
gotos_before (Assign n x e rest) k = gotos_before rest k
gotos_before (Label name rest) k = gotos_before rest k
gotos_before (Goto g name rest) k = ap (λ r. name ∷ r) (gotos_before rest k)
gotos_before (Pause n rest) k = gotos_before rest k
gotos_before (If n e first second rest) k = ap (λ r. (own_gotos first ++ own_gotos second) ++ r) (gotos_before rest k)
    ∙ sym (append_assoc (own_gotos first ++ own_gotos second) (own_gotos rest) (own_gotos k))
gotos_before (Fork n branches rest) k = gotos_before rest k

none_lost_before : (b k : Block) → NoneLost b → NoneLost k → NoneLost (before b k)
none_lost_before (End n) k h i = i
none_lost_before (Assign n x e rest) k h i = none_lost_before rest k h i
none_lost_before (Label name rest) k h i = none_lost_before rest k h i
none_lost_before (Goto g name rest) k h i = none_lost_before rest k h i
none_lost_before (Pause n rest) k h i = none_lost_before rest k h i
none_lost_before (If n e first second rest) k h i = (h.0, h.1, none_lost_before rest k h.2 i)
none_lost_before (Fork n branches rest) k h i = (h.0, none_lost_before rest k h.1 i)

search_before : (b k : Block) (name : List ℕ) → behind_lower_label (before b k) name ≡ or_else (behind_lower_label b name) (behind_lower_label k name)
search_before b k name =
    total_before (behind_lower name) (record { nothing = λ found. refl; three = or_else_assoc; label = λ other o p. refl; fork = or_else_assoc }) b k

-- ---- what holds at each place

pub record Scope (root : Block) (t : ℕ) (todo : Block) : Type 0 where
  -- the whole text of the thread, whose labels are found in the text itself
  pub body : Block
  pub place : Place root t body
  pub finds : (name : List ℕ) → Contains (own_labels body) name → behind_label root name ≡ behind_own_label body name
  pub gotos : (name : List ℕ) → Contains (own_gotos todo) name → Contains (own_labels body) name
  pub none_lost : NoneLost todo
  -- and the labels below it are found there
  pub distinct : Distinct (lower_labels todo)
  pub lower : (name : List ℕ) → Contains (lower_labels todo) name → behind_label root name ≡ behind_lower_label todo name

module _ (root : Block) where
  -- the text of a thread of which all labels are found in it
  whole_scope : (t : ℕ) (body : Block) → Place root t body → Distinct (own_labels body ++ lower_labels body) → FindsLabels body → NoneLost body →
      ((name : List ℕ) → Contains (own_labels body ++ lower_labels body) name → behind_label root name ≡ behind_label body name) → Scope root t body
  whole_scope t body place distinct found none_lost finds = record {
    body = body;
    place = place;
    finds = λ name h. finds name (Contains-append_left (own_labels body) (lower_labels body) name h)
        ∙ found_first (behind_own_label body name) (behind_lower_label body name) (own_found body name h);
    gotos = found;
    none_lost = none_lost;
    distinct = distinct_second (own_labels body) (lower_labels body) distinct;
    lower = λ name h.
        finds name (Contains-append_right (own_labels body) (lower_labels body) name h)
        ∙ found_second (behind_own_label body name) (behind_lower_label body name)
        (own_none body name (λ i. distinct_apart (own_labels body) (lower_labels body) name distinct i h));
  }

  pub all_found : (b : Block) (name : List ℕ) → Contains (own_labels b ++ lower_labels b) name → Found (behind_label b name)
  all_found b name h =
      ⊎_elim
      (λ i. let k : Found (behind_own_label b name) = own_found b name i in (k.0, found_first (behind_own_label b name) (behind_lower_label b name) k ∙ k.1))
      (λ i. below (behind_own_label b name) (lower_found b name i))
      (Contains-append_cases (own_labels b) (lower_labels b) name h)
    where
      below : (o : Option Block) → Found (behind_lower_label b name) → Found (or_else o (behind_lower_label b name))
      below None k = k
      below (Some j) k = (j, refl)

  all_none : (b : Block) (name : List ℕ) → ¬ Contains (own_labels b ++ lower_labels b) name → behind_label b name ≡ None
  all_none b name without =
      found_second (behind_own_label b name) (behind_lower_label b name)
      (own_none b name (λ i. without (Contains-append_left (own_labels b) (lower_labels b) name i)))
      ∙ lower_none b name (λ i. without (Contains-append_right (own_labels b) (lower_labels b) name i))

  pub among_branch : (branches : Branches) (u : ℕ) (body : Block) → IsBranch branches u body → (name : List ℕ)
      → Contains (own_labels body ++ lower_labels body) name → Contains (labels_among branches) name
  among_branch branches u body (here t first more) name h = Contains-append_left (own_labels first ++ lower_labels first) (labels_among more) name h
  among_branch branches u body (later t other more v last at) name h = Contains-append_right (own_labels other ++ lower_labels other) (labels_among more) name
      (among_branch more v last at name h)

  pub distinct_branch : (branches : Branches) (u : ℕ) (body : Block) → IsBranch branches u body → Distinct (labels_among branches)
      → Distinct (own_labels body ++ lower_labels body)
  distinct_branch branches u body (here t first more) h = distinct_first (own_labels first ++ lower_labels first) (labels_among more) h
  distinct_branch branches u body (later t other more v last at) h = distinct_branch more v last at
      (distinct_second (own_labels other ++ lower_labels other) (labels_among more) h)

  branch_finds : (branches : Branches) (u : ℕ) (body : Block) → IsBranch branches u body → NoneLostAmong branches → FindsLabels body × NoneLost body
  branch_finds branches u body (here t first more) h = (h.0, h.1)
  branch_finds branches u body (later t other more v last at) h = branch_finds more v last at h.2

  -- a label of a branch is found in the branch
  pub found_in_branch : (branches : Branches) (u : ℕ) (body : Block) → IsBranch branches u body → Distinct (labels_among branches) → (name : List ℕ)
      → Contains (own_labels body ++ lower_labels body) name → behind_label_among branches name ≡ behind_label body name
  found_in_branch branches u body (here t first more) distinct name h = found_first (behind_label first name) (behind_label_among more name)
      (all_found first name h)
  found_in_branch branches u body (later t other more v last at) distinct name h =
      let elsewhere : ¬ Contains (own_labels other ++ lower_labels other) name = λ i. distinct_apart (own_labels other ++ lower_labels other)
      (labels_among more) name distinct i (among_branch more v last at name h) in
      found_second (behind_label other name) (behind_label_among more name) (all_none other name elsewhere)
      ∙ found_in_branch more v last at (distinct_second (own_labels other ++ lower_labels other) (labels_among more) distinct) name h

  -- ---- from place to place

  -- a part of the same thread, whose gotos and threads are among those of the place
  module _ (t : ℕ) (todo : Block) (s : Scope root t todo) where
    part_scope : (part : Block) → ((name : List ℕ) → Contains (own_gotos part) name → Contains (own_gotos todo) name) → NoneLost part
        → Distinct (lower_labels part) →
        ((name : List ℕ) → Contains (lower_labels part) name → Contains (lower_labels todo) name
        × (behind_lower_label todo name ≡ behind_lower_label part name)) → Scope root t part
    part_scope part gotos none_lost distinct lower = record {
      body = s.body;
      place = s.place;
      finds = s.finds;
      gotos = λ name h. s.gotos name (gotos name h);
      none_lost = none_lost;
      distinct = distinct;
      lower = λ name h. let at : _ = lower name h in s.lower name at.0 ∙ at.1;
    }

  module _ (t n : ℕ) (e : Expr) (a b rest : Block) (s : Scope root t (If n e a b rest)) where
    first_scope : Scope root t (before a rest)
    first_scope =
        part_scope t (If n e a b rest) s (before a rest)
        (λ name h. gotos_of name (subst (λ xs. Contains xs name) (gotos_before a rest) h))
        (none_lost_before a rest s.none_lost.0 s.none_lost.2)
        (subst Distinct (sym (lower_before a rest)) (outer_distinct (lower_labels a) (lower_labels b) (lower_labels rest) s.distinct))
        (λ name h. lower_of name (subst (λ xs. Contains xs name) (lower_before a rest) h))
      where
        gotos_of : (name : List ℕ) → Contains (own_gotos a ++ own_gotos rest) name → Contains ((own_gotos a ++ own_gotos b) ++ own_gotos rest) name
        gotos_of name h =
            ⊎_elim
            (λ i. Contains-append_left (own_gotos a ++ own_gotos b) (own_gotos rest) name (Contains-append_left (own_gotos a) (own_gotos b) name i))
            (λ i. Contains-append_right (own_gotos a ++ own_gotos b) (own_gotos rest) name i)
            (Contains-append_cases (own_gotos a) (own_gotos rest) name h)

        lower_of : (name : List ℕ) → Contains (lower_labels a ++ lower_labels rest) name →
            Contains (lower_labels (If n e a b rest)) name × (behind_lower_label (If n e a b rest) name ≡ behind_lower_label (before a rest) name)
        lower_of name h =
            let x : Option Block = behind_lower_label a name in
            let y : Option Block = behind_lower_label b name in
            let z : Option Block = behind_lower_label rest name in
            ⊎_elim
            (λ i. (
              Contains-append_left (lower_labels a ++ lower_labels b) (lower_labels rest) name (Contains-append_left (lower_labels a) (lower_labels b) name i),
              ap (λ o. or_else o z) (found_first x y (lower_found a name i)) ∙ sym (search_before a rest name),
            ))
            (λ i. (
              Contains-append_right (lower_labels a ++ lower_labels b) (lower_labels rest) name i,
              or_else_assoc x y z
                  ∙ ap (or_else x) (found_second y z
                  (lower_none b name (λ j. distinct_apart (lower_labels a ++ lower_labels b) (lower_labels rest) name s.distinct
                  (Contains-append_right (lower_labels a) (lower_labels b) name j) i)))
                  ∙ sym (search_before a rest name),
            ))
            (Contains-append_cases (lower_labels a) (lower_labels rest) name h)

    second_scope : Scope root t (before b rest)
    second_scope =
        part_scope t (If n e a b rest) s (before b rest)
        (λ name h. gotos_of name (subst (λ xs. Contains xs name) (gotos_before b rest) h))
        (none_lost_before b rest s.none_lost.1 s.none_lost.2)
        (subst Distinct (sym (lower_before b rest)) (inner_distinct (lower_labels a) (lower_labels b) (lower_labels rest) s.distinct))
        (λ name h. lower_of name (subst (λ xs. Contains xs name) (lower_before b rest) h))
      where
        gotos_of : (name : List ℕ) → Contains (own_gotos b ++ own_gotos rest) name → Contains ((own_gotos a ++ own_gotos b) ++ own_gotos rest) name
        gotos_of name h =
            ⊎_elim
            (λ i. Contains-append_left (own_gotos a ++ own_gotos b) (own_gotos rest) name (Contains-append_right (own_gotos a) (own_gotos b) name i))
            (λ i. Contains-append_right (own_gotos a ++ own_gotos b) (own_gotos rest) name i)
            (Contains-append_cases (own_gotos b) (own_gotos rest) name h)

        apart : (name : List ℕ) → Contains (lower_labels b ++ lower_labels rest) name → ¬ Contains (lower_labels a) name
        apart name h j =
            ⊎_elim
            (λ i. distinct_apart (lower_labels a) (lower_labels b) name (distinct_first (lower_labels a ++ lower_labels b) (lower_labels rest) s.distinct) j i)
            (λ i. distinct_apart (lower_labels a ++ lower_labels b) (lower_labels rest) name s.distinct
            (Contains-append_left (lower_labels a) (lower_labels b) name j) i)
            (Contains-append_cases (lower_labels b) (lower_labels rest) name h)

        stands : (name : List ℕ) → Contains (lower_labels b ++ lower_labels rest) name → Contains ((lower_labels a ++ lower_labels b) ++ lower_labels rest) name
        stands name h =
            ⊎_elim
            (λ i. Contains-append_left (lower_labels a ++ lower_labels b) (lower_labels rest) name
            (Contains-append_right (lower_labels a) (lower_labels b) name i))
            (λ i. Contains-append_right (lower_labels a ++ lower_labels b) (lower_labels rest) name i)
            (Contains-append_cases (lower_labels b) (lower_labels rest) name h)

        lower_of : (name : List ℕ) → Contains (lower_labels b ++ lower_labels rest) name →
            Contains (lower_labels (If n e a b rest)) name × (behind_lower_label (If n e a b rest) name ≡ behind_lower_label (before b rest) name)
        lower_of name h = (
          stands name h,
          ap (λ o. or_else o (behind_lower_label rest name))
              (found_second (behind_lower_label a name) (behind_lower_label b name) (lower_none a name (apart name h)))
              ∙ sym (search_before b rest name),
        )

    behind_scope : Scope root t rest
    behind_scope =
        part_scope t (If n e a b rest) s rest
        (λ name h. Contains-append_right (own_gotos a ++ own_gotos b) (own_gotos rest) name h)
        s.none_lost.2
        (distinct_second (lower_labels a ++ lower_labels b) (lower_labels rest) s.distinct)
        (λ name h. (
          Contains-append_right (lower_labels a ++ lower_labels b) (lower_labels rest) name h,
          or_else_assoc (behind_lower_label a name) (behind_lower_label b name) (behind_lower_label rest name)
              ∙ found_second (behind_lower_label a name) (or_else (behind_lower_label b name) (behind_lower_label rest name))
              (lower_none a name (λ j. distinct_apart (lower_labels a ++ lower_labels b) (lower_labels rest) name s.distinct
              (Contains-append_left (lower_labels a) (lower_labels b) name j) h))
              ∙ found_second (behind_lower_label b name) (behind_lower_label rest name)
              (lower_none b name (λ j. distinct_apart (lower_labels a ++ lower_labels b) (lower_labels rest) name s.distinct
              (Contains-append_right (lower_labels a) (lower_labels b) name j) h)),
        ))

  module _ (t n : ℕ) (branches : Branches) (rest : Block) (s : Scope root t (Fork n branches rest)) where
    joined_scope : Scope root t rest
    joined_scope =
        part_scope t (Fork n branches rest) s rest
        (λ name h. h)
        s.none_lost.1
        (distinct_second (labels_among branches) (lower_labels rest) s.distinct)
        (λ name h. (
          Contains-append_right (labels_among branches) (lower_labels rest) name h,
          found_second (behind_label_among branches name) (behind_lower_label rest name)
              (among_none branches name (λ j. distinct_apart (labels_among branches) (lower_labels rest) name s.distinct j h)),
        ))

    branch_scope : (u : ℕ) (body : Block) → Place root u body → IsBranch branches u body → Scope root u body
    branch_scope u body place at =
        let among : Distinct (labels_among branches) = distinct_first (labels_among branches) (lower_labels rest) s.distinct in
        let finds : FindsLabels body × NoneLost body = branch_finds branches u body at s.none_lost.0 in
        whole_scope u body place (distinct_branch branches u body at among) finds.0 finds.1
        (λ name h.
        let i : Contains (labels_among branches) name = among_branch branches u body at name h in
        s.lower name (Contains-append_left (labels_among branches) (lower_labels rest) name i)
        ∙ found_first (behind_label_among branches name) (behind_lower_label rest name) (among_found branches name i)
        ∙ found_in_branch branches u body at among name h)

  same_part : (t : ℕ) (todo rest : Block) → Scope root t todo → ((name : List ℕ) → Contains (own_gotos rest) name → Contains (own_gotos todo) name)
      → NoneLost rest → lower_labels todo ≡ lower_labels rest → ((name : List ℕ) → behind_lower_label todo name ≡ behind_lower_label rest name)
      → Scope root t rest
  same_part t todo rest s gotos none_lost same found =
      part_scope t todo s rest gotos none_lost (subst Distinct same s.distinct) (λ name h. (subst (λ xs. Contains xs name) (sym same) h, found name))

  module _ (keeps : KeepsScopes root) where
    pub scope_at : (t : ℕ) (todo : Block) → Place root t todo → Scope root t todo
    scope_at t todo whole = whole_scope 0 root whole keeps.distinct keeps.found keeps.none_lost (λ name h. refl)
    scope_at t todo (after_assign v n x e rest place) =
        let s : Scope root v (Assign n x e rest) = scope_at v (Assign n x e rest) place in
        same_part v (Assign n x e rest) rest s (λ name h. h) s.none_lost refl (λ name. refl)
    scope_at t todo (after_label v l rest place) =
        let s : Scope root v (Label l rest) = scope_at v (Label l rest) place in
        same_part v (Label l rest) rest s (λ name h. h) s.none_lost refl (λ name. refl)
    scope_at t todo (after_goto v g l rest place) =
        let s : Scope root v (Goto g l rest) = scope_at v (Goto g l rest) place in
        same_part v (Goto g l rest) rest s (λ name h. contains_tail l name (own_gotos rest) h) s.none_lost refl (λ name. refl)
    scope_at t todo (after_pause v n rest place) =
        let s : Scope root v (Pause n rest) = scope_at v (Pause n rest) place in
        same_part v (Pause n rest) rest s (λ name h. h) s.none_lost refl (λ name. refl)
    scope_at t todo (in_first v n e a b rest place) = first_scope v n e a b rest (scope_at v (If n e a b rest) place)
    scope_at t todo (in_second v n e a b rest place) = second_scope v n e a b rest (scope_at v (If n e a b rest) place)
    scope_at t todo (after_if v n e a b rest place) = behind_scope v n e a b rest (scope_at v (If n e a b rest) place)
    scope_at t todo (after_fork v n branches rest place) = joined_scope v n branches rest (scope_at v (Fork n branches rest) place)
    scope_at t todo (in_branch v n u branches body rest place at) = branch_scope v n branches rest (scope_at v (Fork n branches rest) place) u body
        (in_branch v n u branches body rest place at) at

    pub stay_within : StayWithin root
    stay_within t g name rest k place h =
        let s : Scope root t (Goto g name rest) = scope_at t (Goto g name rest) place in
        label_place root t s.body name k s.place (sym (s.finds name (s.gotos name (contains_head name (own_gotos rest)))) ∙ h)

    -- each goto finds its label
    pub goto_found : (t g : ℕ) (name : List ℕ) (rest : Block) → Place root t (Goto g name rest) → Found (behind_label root name)
    goto_found t g name rest place =
        let s : Scope root t (Goto g name rest) = scope_at t (Goto g name rest) place in
        let at : Contains (own_labels s.body) name = s.gotos name (contains_head name (own_gotos rest)) in
        let k : Found (behind_own_label s.body name) = own_found s.body name at in
        (k.0, s.finds name at ∙ k.1)
