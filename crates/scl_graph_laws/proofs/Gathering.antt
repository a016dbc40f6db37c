-- What SCL's rules gather of a text is what stands in its numbered statements.
use Rattle.std.proofs.Common.{◌≡◌, ℕ, zero, suc, ◌+◌, ◌≤◌, max, Bool, true, false, not, ◌||◌, List, [], ◌∷◌, ◌++◌, map, length, Contains, ⊎_elim, refl, sym, ap}
use Rattle.std.proofs.Common.{subst, ◌∙◌, append_assoc, if◌then◌else◌, arith}
use Rattle.std.specs.List.{filter, list_any}
use Rattle.std.specs.Str.{bytes_eq}
use Rattle.std.proofs.lemmas.Bool.{and_parts}
use Rattle.std.proofs.Math.Nat.{le-max_left, le-max_right}
use Rattle.std.proofs.lemmas.List.{append-nil}
use Rattle.std.proofs.lemmas.Slice.Eq.{bytes_eq-Decides}
use Rattle.sc_values.specs.declared.expression.Expr.{Expr}
use Rattle.sc_text.specs.Parts.{are_distinct}
use Rattle.scl.specs.declared.statement.Statement.{Statement}
use Rattle.scl.specs.declared.statement.Statement.TheOpen.{Statement-F}
use Rattle.scl.specs.declared.statement.Statement.TheOpen as text
use Rattle.scl.specs.declared.statement.Statement.TheViews.{roll-Statement}
use Rattle.scl.specs.declared.statement.Statement.TheFolds.{fold-roll-Statement, ind-Statement, map-Statement}
use Rattle.scl.specs.Block.{Block, End, Branches}
use Rattle.scl.specs.Places.{threads_of}
use Rattle.scl.specs.Numbering.{Piece, Numbers, Counts, piece, piece_of, pieces_of, in_row, beyond, inside, thread_body, branches_from, branch_counts}
use Rattle.scl.specs.Rules.{Part, both, is_in, side_by_side, part, part_of, parts_of}
use Rattle.scl.specs.Rules.{in_row as parts_in_row, thread as whole_thread}
use Rattle.scl_graph_laws.proofs.Contents.{Gathered, content, content_among, assigned_in, tests_in, forks_in, Shallow, ShallowAmong}
use Rattle.tick_laws.proofs.Lists.{contains_none, contains_cons, contains_head, contains_tail}
use Rattle.scl_graph_laws.proofs.Searching.{unlike, own_labels, own_gotos, lower_labels, labels_among}
use Rattle.scl_graph_laws.proofs.Scopes.{Distinct, FindsLabels, NoneLost, NoneLostAmong}

-- a part of what is gathered is that of a piece of the text
pub record Gathers (q : Part) (p : Piece) : Type 0 where
  pub labels : (at : Numbers) (k : Block) → own_labels (p.made at k) ≡ q.labels ++ own_labels k
  pub gotos : (at : Numbers) (k : Block) → own_gotos (p.made at k) ≡ q.gotos ++ own_gotos k
  pub lower : (at : Numbers) (k : Block) → lower_labels (p.made at k) ≡ q.lower ++ lower_labels k
  pub lost : q.lost ≡ [] → (at : Numbers) (k : Block) → NoneLost k → NoneLost (p.made at k)
  pub assigned : (at : Numbers) (k : Block) → content assigned_in (p.made at k) ≡ q.assigned ++ content assigned_in k
  pub tests : (at : Numbers) (k : Block) → content tests_in (p.made at k) ≡ q.tests ++ content tests_in k
  pub forks : (at : Numbers) (k : Block) → content forks_in (p.made at k) ≡ q.forks ++ content forks_in k
  pub shallow : (d : ℕ) → q.depth ≤ d → (at : Numbers) (k : Block) → Shallow d k → Shallow d (p.made at k)

abbrev GatherEach : List Part → List Piece → Type 0
GatherEach [] [] = Unit {0}
GatherEach (q ∷ parts) (p ∷ pieces) = Gathers q p × GatherEach parts pieces
GatherEach [] (p ∷ pieces) = ⊥
GatherEach (q ∷ parts) [] = ⊥

-- of two lists in a row that are empty each is
nothing_first : {X : Type 0} (xs ys : List X) → xs ++ ys ≡ [] → xs ≡ []
nothing_first [] ys h = refl
nothing_first (x ∷ xs) ys h = absurd (cc)

nothing_second : {X : Type 0} (xs ys : List X) → xs ++ ys ≡ [] → ys ≡ []
nothing_second [] ys h = h
nothing_second (x ∷ xs) ys h = absurd (cc)

max_first : (a b d : ℕ) → max a b ≤ d → a ≤ d
max_first a b d h = let l : a ≤ max a b = le-max_left a b in omega (arith, l, h)

max_second : (a b d : ℕ) → max a b ≤ d → b ≤ d
max_second a b d h = let l : b ≤ max a b = le-max_right a b in omega (arith, l, h)

pub row_gathers : (parts : List Part) (pieces : List Piece) → GatherEach parts pieces → Gathers (parts_in_row parts) (in_row pieces)
row_gathers [] [] h = record {
  labels = λ at k. refl;
  gotos = λ at k. refl;
  lower = λ at k. refl;
  lost = λ none at k h. h;
  assigned = λ at k. refl;
  tests = λ at k. refl;
  forks = λ at k. refl;
  shallow = λ d le at k h. h;
}
row_gathers [] (p ∷ pieces) h = absurd h
row_gathers (q ∷ parts) [] h = absurd h
row_gathers (q ∷ parts) (p ∷ pieces) h =
    let others : Gathers (parts_in_row parts) (in_row pieces) = row_gathers parts pieces h.1 in
    let r : Part = parts_in_row parts in
    let next : Numbers → Numbers = λ at. beyond at p.counts in
    let rest : Numbers → Block → Block = λ at k. (in_row pieces).made (next at) k in
    record {
      labels = λ at k. h.0.labels at (rest at k) ∙ ap (λ xs. q.labels ++ xs) (others.labels (next at) k) ∙ sym (append_assoc q.labels r.labels (own_labels k));
      gotos = λ at k. h.0.gotos at (rest at k) ∙ ap (λ xs. q.gotos ++ xs) (others.gotos (next at) k) ∙ sym (append_assoc q.gotos r.gotos (own_gotos k));
      lower = λ at k. h.0.lower at (rest at k) ∙ ap (λ xs. q.lower ++ xs) (others.lower (next at) k) ∙ sym (append_assoc q.lower r.lower (lower_labels k));
      lost = λ none at k i. h.0.lost (nothing_first q.lost r.lost none) at (rest at k) (others.lost (nothing_second q.lost r.lost none) (next at) k i);
      assigned = λ at k. h.0.assigned at (rest at k) ∙ ap (λ xs. q.assigned ++ xs) (others.assigned (next at) k)
          ∙ sym (append_assoc q.assigned r.assigned (content assigned_in k));
      tests = λ at k. h.0.tests at (rest at k) ∙ ap (λ xs. q.tests ++ xs) (others.tests (next at) k) ∙ sym (append_assoc q.tests r.tests (content tests_in k));
      forks = λ at k. h.0.forks at (rest at k) ∙ ap (λ xs. q.forks ++ xs) (others.forks (next at) k) ∙ sym (append_assoc q.forks r.forks (content forks_in k));
      shallow = λ d le at k i. h.0.shallow d (max_first q.depth r.depth d le) at (rest at k) (others.shallow d (max_second q.depth r.depth d le) (next at) k i);
    }

-- ---- each statement

assign_gathers : (x : ℕ) (e : Expr) → Gathers (part (text.Assign x e)) (piece (text.Assign x e))
assign_gathers x e = record {
  labels = λ at k. refl;
  gotos = λ at k. refl;
  lower = λ at k. refl;
  lost = λ none at k h. h;
  assigned = λ at k. refl;
  tests = λ at k. refl;
  forks = λ at k. refl;
  shallow = λ d le at k h. h;
}

label_gathers : (name : List ℕ) → Gathers (part (text.Label name)) (piece (text.Label name))
label_gathers name = record {
  labels = λ at k. refl;
  gotos = λ at k. refl;
  lower = λ at k. refl;
  lost = λ none at k h. h;
  assigned = λ at k. refl;
  tests = λ at k. refl;
  forks = λ at k. refl;
  shallow = λ d le at k h. h;
}

goto_gathers : (name : List ℕ) → Gathers (part (text.Goto name)) (piece (text.Goto name))
goto_gathers name = record {
  labels = λ at k. refl;
  gotos = λ at k. refl;
  lower = λ at k. refl;
  lost = λ none at k h. h;
  assigned = λ at k. refl;
  tests = λ at k. refl;
  forks = λ at k. refl;
  shallow = λ d le at k h. h;
}

pause_gathers : Gathers (part text.Pause) (piece text.Pause)
pause_gathers = record {
  labels = λ at k. refl;
  gotos = λ at k. refl;
  lower = λ at k. refl;
  lost = λ none at k h. h;
  assigned = λ at k. refl;
  tests = λ at k. refl;
  forks = λ at k. refl;
  shallow = λ d le at k h. h;
}

if_gathers : (e : Expr) (parts others : List Part) (a b : List Piece) → Gathers (parts_in_row parts) (in_row a) → Gathers (parts_in_row others) (in_row b)
    → Gathers (part (text.If e parts others)) (piece (text.If e a b))
if_gathers e parts others a b first second =
    let q : Part = parts_in_row parts in
    let r : Part = parts_in_row others in
    let in_first : Numbers → Numbers = λ at. record at { node = 1 + at.node } in
    let in_second : Numbers → Numbers = λ at. beyond (in_first at) (in_row a).counts in
    record {
      labels = λ at k. ap (λ xs. (xs ++ own_labels ((in_row b).made (in_second at) (End 0))) ++ own_labels k) (first.labels (in_first at) (End 0)
          ∙ append-nil q.labels)
          ∙ ap (λ xs. (q.labels ++ xs) ++ own_labels k) (second.labels (in_second at) (End 0) ∙ append-nil r.labels);
      gotos = λ at k. ap (λ xs. (xs ++ own_gotos ((in_row b).made (in_second at) (End 0))) ++ own_gotos k) (first.gotos (in_first at) (End 0)
          ∙ append-nil q.gotos)
          ∙ ap (λ xs. (q.gotos ++ xs) ++ own_gotos k) (second.gotos (in_second at) (End 0) ∙ append-nil r.gotos);
      lower = λ at k. ap (λ xs. (xs ++ lower_labels ((in_row b).made (in_second at) (End 0))) ++ lower_labels k) (first.lower (in_first at) (End 0)
          ∙ append-nil q.lower)
          ∙ ap (λ xs. (q.lower ++ xs) ++ lower_labels k) (second.lower (in_second at) (End 0) ∙ append-nil r.lower);
      lost = λ none at k h. (
        first.lost (nothing_first q.lost r.lost none) (in_first at) (End 0) tt,
        second.lost (nothing_second q.lost r.lost none) (in_second at) (End 0) tt,
        h,
      );
      assigned = λ at k.
          ap (λ xs. (xs ++ content assigned_in ((in_row b).made (in_second at) (End 0))) ++ content assigned_in k) (first.assigned (in_first at) (End 0)
          ∙ append-nil q.assigned)
          ∙ ap (λ xs. (q.assigned ++ xs) ++ content assigned_in k) (second.assigned (in_second at) (End 0) ∙ append-nil r.assigned);
      tests = λ at k.
          ap (λ xs. (e ∷ (xs ++ content tests_in ((in_row b).made (in_second at) (End 0)))) ++ content tests_in k) (first.tests (in_first at) (End 0)
          ∙ append-nil q.tests)
          ∙ ap (λ xs. (e ∷ (q.tests ++ xs)) ++ content tests_in k) (second.tests (in_second at) (End 0) ∙ append-nil r.tests);
      forks = λ at k.
          ap (λ xs. (xs ++ content forks_in ((in_row b).made (in_second at) (End 0))) ++ content forks_in k) (first.forks (in_first at) (End 0)
          ∙ append-nil q.forks)
          ∙ ap (λ xs. (q.forks ++ xs) ++ content forks_in k) (second.forks (in_second at) (End 0) ∙ append-nil r.forks);
      shallow = λ d le at k h. (
        first.shallow d (max_first q.depth r.depth d le) (in_first at) (End 0) tt,
        second.shallow d (max_second q.depth r.depth d le) (in_second at) (End 0) tt,
        h,
      );
    }

-- ---- threads

is_in_stands : (names : List (List ℕ)) (name : List ℕ) → is_in names name ≡ true → Contains names name
is_in_stands [] name h = absurd (cc)
is_in_stands (l ∷ names) name h = at (bytes_eq l name) refl h (is_in_stands names name)
  where
    at : (b : Bool) → bytes_eq l name ≡ b → (b || is_in names name) ≡ true → (is_in names name ≡ true → Contains names name) → Contains (l ∷ names) name
    at true is h more = subst (λ l. Contains (l ∷ names) name) (sym ((bytes_eq-Decides l name).0 is)) (contains_head name names)
    at false is h more = contains_tail l name names (more h)

-- nothing is lost where each goto names a label
all_found : (labels gotos : List (List ℕ)) → filter (λ name. not (is_in labels name)) gotos ≡ [] → (name : List ℕ) → Contains gotos name → Contains labels name
all_found labels [] none name h = absurd (contains_none name h)
all_found labels (g ∷ gotos) none name h = at (is_in labels g) refl none (all_found labels gotos)
  where
    at : (b : Bool) → is_in labels g ≡ b
        → (if not b then g ∷ filter (λ name. not (is_in labels name)) gotos else filter (λ name. not (is_in labels name)) gotos) ≡ [] →
        (filter (λ name. not (is_in labels name)) gotos ≡ [] → (name : List ℕ) → Contains gotos name → Contains labels name) → Contains labels name
    at true is none more = ⊎_elim (λ same. subst (Contains labels) same (is_in_stands labels g is)) (λ tail. more none name tail) (contains_cons g name gotos h)
    at false is none more = absurd (cc)

pub thread_finds : (q : Part) (p : Piece) → Gathers q p → (whole_thread q).lost ≡ [] → (at : Numbers) (n : ℕ) → FindsLabels (p.made at (End n))
thread_finds q p g none at n name h =
    let stands : Contains q.gotos name = subst (λ xs. Contains xs name) (g.gotos at (End n) ∙ append-nil q.gotos) h in
    let found : Contains q.labels name = all_found q.labels q.gotos (nothing_first (filter (λ name. not (is_in q.labels name)) q.gotos) q.lost none) name stands
    in
    subst (λ xs. Contains xs name) (sym (g.labels at (End n) ∙ append-nil q.labels)) found

pub thread_loses_none : (q : Part) (p : Piece) → Gathers q p → (whole_thread q).lost ≡ [] → (at : Numbers) (n : ℕ) → NoneLost (p.made at (End n))
thread_loses_none q p g none at n = g.lost (nothing_second (filter (λ name. not (is_in q.labels name)) q.gotos) q.lost none) at (End n) tt

abbrev GatherRows : List (List Part) → List (List Piece) → Type 0
GatherRows [] [] = Unit {0}
GatherRows (q ∷ parts) (p ∷ pieces) = Gathers (parts_in_row q) (in_row p) × GatherRows parts pieces
GatherRows [] (p ∷ pieces) = ⊥
GatherRows (q ∷ parts) [] = ⊥

pub no_labels : (parts : List (List Part)) → (side_by_side parts).labels ≡ []
no_labels [] = refl
no_labels (q ∷ parts) = no_labels parts

no_gotos : (parts : List (List Part)) → (side_by_side parts).gotos ≡ []
no_gotos [] = refl
no_gotos (q ∷ parts) = no_gotos parts

among_labels : (parts : List (List Part)) (pieces : List (List Piece)) → GatherRows parts pieces → (at : Numbers) → labels_among (branches_from pieces at)
    ≡ (side_by_side parts).lower
among_labels [] [] h at = refl
among_labels [] (p ∷ pieces) h at = absurd h
among_labels (q ∷ parts) [] h at = absurd h
among_labels (q ∷ parts) (p ∷ pieces) h at =
    let c : Counts = (in_row p).counts in
    let r : Part = parts_in_row q in
    let from : Numbers = record (inside at c) { node = at.base } in
    let more : Branches = branches_from pieces (beyond at (branch_counts c)) in
    ap (λ xs. (xs ++ lower_labels (thread_body (in_row p) at.base (inside at c))) ++ labels_among more) (h.0.labels from (End (at.base + c.nodes))
    ∙ append-nil r.labels)
    ∙ ap (λ xs. (r.labels ++ xs) ++ labels_among more) (h.0.lower from (End (at.base + c.nodes)) ∙ append-nil r.lower)
    ∙ ap (λ xs. (r.labels ++ r.lower) ++ xs) (among_labels parts pieces h.1 (beyond at (branch_counts c)))

among_lost : (parts : List (List Part)) (pieces : List (List Piece)) → GatherRows parts pieces → (side_by_side parts).lost ≡ [] → (at : Numbers)
    → NoneLostAmong (branches_from pieces at)
among_lost [] [] h none at = tt
among_lost [] (p ∷ pieces) h none at = absurd h
among_lost (q ∷ parts) [] h none at = absurd h
among_lost (q ∷ parts) (p ∷ pieces) h none at =
    let c : Counts = (in_row p).counts in
    let here : (whole_thread (parts_in_row q)).lost ≡ [] = nothing_first (whole_thread (parts_in_row q)).lost (side_by_side parts).lost none in
    let from : Numbers = record (inside at c) { node = at.base } in (
      thread_finds (parts_in_row q) (in_row p) h.0 here from (at.base + c.nodes),
      thread_loses_none (parts_in_row q) (in_row p) h.0 here from (at.base + c.nodes),
      among_lost parts pieces h.1 (nothing_second (whole_thread (parts_in_row q)).lost (side_by_side parts).lost none) (beyond at (branch_counts c)),
    )

-- what is gathered of each branch in a row
module _ {X : Type 0} (g : Gathered X) (gathered : Part → List X) (keeps : (q : Part) → gathered (whole_thread q) ≡ gathered q)
    (none : gathered (side_by_side []) ≡ [])
    (row : (q : Part) (parts : List (List Part)) → gathered (both q (side_by_side parts)) ≡ gathered q ++ gathered (side_by_side parts)) where
  abbrev RowsHold : List (List Part) → List (List Piece) → Type 0
  RowsHold [] [] = Unit {0}
  RowsHold (q ∷ parts) (p ∷ pieces) = ((at : Numbers) (k : Block) → content g ((in_row p).made at k) ≡ gathered (parts_in_row q) ++ content g k)
      × RowsHold parts pieces
  RowsHold [] (p ∷ pieces) = ⊥
  RowsHold (q ∷ parts) [] = ⊥

  among_content : (parts : List (List Part)) (pieces : List (List Piece)) → RowsHold parts pieces → (at : Numbers) → content_among g (branches_from pieces at)
      ≡ gathered (side_by_side parts)
  among_content [] [] h at = sym none
  among_content [] (p ∷ pieces) h at = absurd h
  among_content (q ∷ parts) [] h at = absurd h
  among_content (q ∷ parts) (p ∷ pieces) h at =
      let c : Counts = (in_row p).counts in
      let r : Part = parts_in_row q in
      let from : Numbers = record (inside at c) { node = at.base } in
      ap (λ xs. xs ++ content_among g (branches_from pieces (beyond at (branch_counts c)))) (h.0 from (End (at.base + c.nodes)) ∙ append-nil (gathered r))
      ∙ ap (λ xs. gathered r ++ xs) (among_content parts pieces h.1 (beyond at (branch_counts c)))
      ∙ ap (λ xs. xs ++ gathered (side_by_side parts)) (sym (keeps r))
      ∙ sym (row (whole_thread r) parts)

rows_assigned : (parts : List (List Part)) (pieces : List (List Piece)) → GatherRows parts pieces
    → RowsHold assigned_in (λ q. q.assigned) (λ q. refl) refl (λ q parts. refl) parts pieces
rows_assigned [] [] h = tt
rows_assigned [] (p ∷ pieces) h = h
rows_assigned (q ∷ parts) [] h = h
rows_assigned (q ∷ parts) (p ∷ pieces) h = (h.0.assigned, rows_assigned parts pieces h.1)

rows_tests : (parts : List (List Part)) (pieces : List (List Piece)) → GatherRows parts pieces
    → RowsHold tests_in (λ q. q.tests) (λ q. refl) refl (λ q parts. refl) parts pieces
rows_tests [] [] h = tt
rows_tests [] (p ∷ pieces) h = h
rows_tests (q ∷ parts) [] h = h
rows_tests (q ∷ parts) (p ∷ pieces) h = (h.0.tests, rows_tests parts pieces h.1)

rows_forks : (parts : List (List Part)) (pieces : List (List Piece)) → GatherRows parts pieces
    → RowsHold forks_in (λ q. q.forks) (λ q. refl) refl (λ q parts. refl) parts pieces
rows_forks [] [] h = tt
rows_forks [] (p ∷ pieces) h = h
rows_forks (q ∷ parts) [] h = h
rows_forks (q ∷ parts) (p ∷ pieces) h = (h.0.forks, rows_forks parts pieces h.1)

among_count : (parts : List (List Part)) (pieces : List (List Piece)) → GatherRows parts pieces → (at : Numbers) → length (threads_of (branches_from pieces at))
    ≡ length parts
among_count [] [] h at = refl
among_count [] (p ∷ pieces) h at = absurd h
among_count (q ∷ parts) [] h at = absurd h
among_count (q ∷ parts) (p ∷ pieces) h at = ap suc (among_count parts pieces h.1 (beyond at (branch_counts (in_row p).counts)))

among_shallow : (d : ℕ) (parts : List (List Part)) (pieces : List (List Piece)) → GatherRows parts pieces → (side_by_side parts).depth ≤ d → (at : Numbers)
    → ShallowAmong (suc d) (branches_from pieces at)
among_shallow d [] [] h le at = tt
among_shallow d [] (p ∷ pieces) h le at = absurd h
among_shallow d (q ∷ parts) [] h le at = absurd h
among_shallow d (q ∷ parts) (p ∷ pieces) h le at =
    let c : Counts = (in_row p).counts in
    let r : Part = parts_in_row q in (
      h.0.shallow d (max_first r.depth (side_by_side parts).depth d le) (record (inside at c) { node = at.base }) (End (at.base + c.nodes)) tt,
      among_shallow d parts pieces h.1 (max_second r.depth (side_by_side parts).depth d le) (beyond at (branch_counts c)),
    )

fork_shallow : (d : ℕ) (parts : List (List Part)) (pieces : List (List Piece)) → GatherRows parts pieces → suc (side_by_side parts).depth ≤ d → (at : Numbers)
    → ShallowAmong d (branches_from pieces at)
fork_shallow zero parts pieces h le at = absurd (omega (arith, le))
fork_shallow (suc d) parts pieces h le at = among_shallow d parts pieces h (omega (arith, le)) at

fork_gathers : (parts : List (List Part)) (pieces : List (List Piece)) → GatherRows parts pieces → Gathers (part (text.Fork parts)) (piece (text.Fork pieces))
fork_gathers parts pieces h = record {
  labels = λ at k. ap (λ xs. xs ++ own_labels k) (sym (no_labels parts));
  gotos = λ at k. ap (λ xs. xs ++ own_gotos k) (sym (no_gotos parts));
  lower = λ at k. ap (λ xs. xs ++ lower_labels k) (among_labels parts pieces h at);
  lost = λ none at k i. (among_lost parts pieces h none at, i);
  assigned = λ at k. ap (λ xs. xs ++ content assigned_in k) (among_content assigned_in (λ q. q.assigned) (λ q. refl) refl (λ q parts. refl) parts pieces
      (rows_assigned parts pieces h) at);
  tests = λ at k. ap (λ xs. xs ++ content tests_in k) (among_content tests_in (λ q. q.tests) (λ q. refl) refl (λ q parts. refl) parts pieces
      (rows_tests parts pieces h) at);
  forks = λ at k.
      ap (λ n. (n ∷ content_among forks_in (branches_from pieces at)) ++ content forks_in k) (among_count parts pieces h at)
      ∙ ap (λ xs. (length parts ∷ xs) ++ content forks_in k) (among_content forks_in (λ q. q.forks) (λ q. refl) refl (λ q parts. refl) parts pieces
      (rows_forks parts pieces h) at);
  shallow = λ d le at k i. (fork_shallow d parts pieces h le at, i);
}

-- ---- each text

abbrev Known : Type 0
Known = (s : Statement) × Gathers (part_of s) (piece_of s)

known_each : (xs : List Known) → GatherEach (map part_of (map (λ x. x.0) xs)) (map piece_of (map (λ x. x.0) xs))
known_each [] = tt
known_each (x ∷ xs) = (x.1, known_each xs)

known_row : (xs : List Known) → Gathers (parts_in_row (map part_of (map (λ x. x.0) xs))) (in_row (map piece_of (map (λ x. x.0) xs)))
known_row xs = row_gathers (map part_of (map (λ x. x.0) xs)) (map piece_of (map (λ x. x.0) xs)) (known_each xs)

known_rows : (xss : List (List Known)) → GatherRows (map (map part_of) (map (map (λ x. x.0)) xss)) (map (map piece_of) (map (map (λ x. x.0)) xss))
known_rows [] = tt
known_rows (xs ∷ xss) = (known_row xs, known_rows xss)

at_layer : (y : Statement-F Known) → Gathers (part (map-Statement Statement Part part_of (map-Statement Known Statement (λ x. x.0) y)))
    (piece (map-Statement Statement Piece piece_of (map-Statement Known Statement (λ x. x.0) y)))
at_layer (text.Assign x e) = assign_gathers x e
at_layer (text.Label name) = label_gathers name
at_layer (text.Goto name) = goto_gathers name
at_layer text.Pause = pause_gathers
at_layer (text.If e a b) = if_gathers e (map part_of (map (λ x. x.0) a)) (map part_of (map (λ x. x.0) b)) (map piece_of (map (λ x. x.0) a))
    (map piece_of (map (λ x. x.0) b)) (known_row a) (known_row b)
at_layer (text.Fork branches) = fork_gathers (map (map part_of) (map (map (λ x. x.0)) branches)) (map (map piece_of) (map (map (λ x. x.0)) branches))
    (known_rows branches)

statement_gathers : (s : Statement) → Gathers (part_of s) (piece_of s)
statement_gathers = ind-Statement (λ s. Gathers (part_of s) (piece_of s)) (λ x y is.
    subst (λ q. Gathers q (piece_of (roll-Statement x))) (sym (fold-roll-Statement Part part x))
    (subst (λ p. Gathers (part (map-Statement Statement Part part_of x)) p) (sym (fold-roll-Statement Piece piece x))
    (subst (λ z. Gathers (part (map-Statement Statement Part part_of z)) (piece (map-Statement Statement Piece piece_of z))) is (at_layer y))))

each_gathers : (statements : List Statement) → GatherEach (parts_of statements) (pieces_of statements)
each_gathers [] = tt
each_gathers (s ∷ statements) = (statement_gathers s, each_gathers statements)

pub text_gathers : (statements : List Statement) → Gathers (parts_in_row (parts_of statements)) (in_row (pieces_of statements))
text_gathers statements = row_gathers (parts_of statements) (pieces_of statements) (each_gathers statements)

-- ---- names that differ

any_stands : (name : List ℕ) (names : List (List ℕ)) → Contains names name → list_any (bytes_eq name) names ≡ true
any_stands name [] h = absurd (contains_none name h)
any_stands name (l ∷ names) h = at (bytes_eq name l) refl (any_stands name names)
  where
    at : (b : Bool) → bytes_eq name l ≡ b → (Contains names name → list_any (bytes_eq name) names ≡ true) → (b || list_any (bytes_eq name) names) ≡ true
    at true is more = refl
    at false is more = ⊎_elim (λ same. absurd (unlike (bytes_eq name l) ((bytes_eq-Decides name l).1 (sym same)) is)) more (contains_cons l name names h)

pub distinct_names : (names : List (List ℕ)) → are_distinct names ≡ true → Distinct names
distinct_names [] h = tt
distinct_names (name ∷ names) h =
    let parts : _ = and_parts (not (list_any (bytes_eq name) names)) (are_distinct names) h in
    (λ i. differs (any_stands name names i) parts.0, distinct_names names parts.1)
  where
    differs : list_any (bytes_eq name) names ≡ true → not (list_any (bytes_eq name) names) ≡ true → ⊥
    differs i j = cc
