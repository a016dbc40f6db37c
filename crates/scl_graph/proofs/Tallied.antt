-- What the tallies of a text tell.
use Rattle.std.proofs.Common.{◌≡◌, ℕ, zero, suc, ◌<◌, List, [], ◌∷◌, ◌++◌, get_or, length, map, refl, ap, sym, subst, ◌∙◌, arith}
use Rattle.std.specs.Prelude.{slice_get, unwrap_or}
use Rattle.std.proofs.lemmas.List.{append-nil, length-map}
use Rattle.sc_values.specs.declared.expression.Expr.{Expr}
use Rattle.scl.specs.declared.statement.Statement.{Statement}
use Rattle.scl.specs.declared.statement.Statement.TheOpen.{Statement-F}
use Rattle.scl.specs.declared.statement.Statement.TheOpen as text
use Rattle.scl.specs.declared.statement.Statement.TheVariants as variant
use Rattle.scl.specs.declared.statement.Statement.TheVariants.{rolls-Assign, rolls-Label, rolls-Goto, rolls-Pause, rolls-If, rolls-Fork}
use Rattle.scl.specs.declared.statement.Statement.TheViews.{roll-Statement}
use Rattle.scl.specs.declared.statement.Statement.TheFolds.{fold-roll-Statement, ind-Statement, map-Statement}
use Rattle.scl.specs.Numbering.{Piece, all_branch_counts, in_row, piece, piece_of}
use Rattle.scl_graph.specs.declared.tallies.Tally.{Tally}
use Rattle.scl_graph.specs.declared.tallies.Tally.TheViews.{out-Tally, out-roll-Tally}
use Rattle.scl_graph.specs.declared.totals.Totals.{Totals}
use Rattle.scl_graph.specs.Inside.Totals.{AreCounted, as_branch, branches_totals, sum, totals, totals_of, totals_of_all}
use Rattle.scl_graph.specs.Inside.Tallies.{branches_total, fork_tally, if_tally, of_nodes, part, tallied, tally, tally_of, total}
use Rattle.scl_graph.proofs.Pieces.{piece_of_if, piece_of_fork}

-- ---- each statement

pub tally_of_assign : (x : ℕ) (e : Expr) → tally_of (variant.Assign x e) ≡ tallied (of_nodes 1) []
tally_of_assign x e = ap tally_of (sym (rolls-Assign x e)) ∙ fold-roll-Statement Tally tally (text.Assign x e)

pub tally_of_label : (name : List ℕ) → tally_of (variant.Label name) ≡ tallied (of_nodes 0) []
tally_of_label name = ap tally_of (sym (rolls-Label name)) ∙ fold-roll-Statement Tally tally (text.Label name)

pub tally_of_goto : (name : List ℕ) → tally_of (variant.Goto name) ≡ tallied (record { nodes = 0; threads = 0; lower = 0; jumps = 1 }) []
tally_of_goto name = ap tally_of (sym (rolls-Goto name)) ∙ fold-roll-Statement Tally tally (text.Goto name)

pub tally_of_pause : tally_of variant.Pause ≡ tallied (of_nodes 2) []
tally_of_pause = ap tally_of (sym rolls-Pause) ∙ fold-roll-Statement Tally tally text.Pause

pub tally_of_if : (e : Expr) (a b : List Statement) → tally_of (variant.If e a b) ≡ if_tally (map tally_of a) (map tally_of b)
tally_of_if e a b = ap tally_of (sym (rolls-If e a b)) ∙ fold-roll-Statement Tally tally (text.If e a b)

pub tally_of_fork : (branches : List (List Statement)) → tally_of (variant.Fork branches) ≡ fork_tally (map (map tally_of) branches)
tally_of_fork branches = ap tally_of (sym (rolls-Fork branches)) ∙ fold-roll-Statement Tally tally (text.Fork branches)

-- ---- its totals

tallied_totals : (c : Totals) (parts : List (List Tally)) → (out-Tally (tallied c parts)).totals ≡ c
tallied_totals c parts = ap (λ z. z.totals) (out-roll-Tally (record { totals = c; parts = parts }))

abbrev IsRight : Statement → Type 0
IsRight s = (out-Tally (tally_of s)).totals ≡ totals_of s

abbrev Known : Type 0
Known = (s : Statement) × IsRight s

abbrev those : List Known → List Statement
those xs = map (λ x. x.0) xs

known_total : (xs : List Known) → total (map tally_of (those xs)) ≡ totals (in_row (map piece_of (those xs))).counts
known_total [] = refl
known_total (x ∷ xs) = ap (λ c. sum c (total (map tally_of (those xs)))) x.1 ∙ ap (λ c. sum (totals_of x.0) c) (known_total xs)

known_branches : (xss : List (List Known)) → branches_total (map (map tally_of) (map (map (λ x. x.0)) xss))
    ≡ totals (all_branch_counts (map (map piece_of) (map (map (λ x. x.0)) xss)))
known_branches [] = refl
known_branches (xs ∷ xss) =
    ap (λ c. sum (as_branch c) (branches_total (map (map tally_of) (map (map (λ x. x.0)) xss)))) (known_total xs)
    ∙ ap (λ c. sum (as_branch (totals (in_row (map piece_of (those xs))).counts)) c) (known_branches xss)

abbrev Layer : Statement-F Statement → Type 0
Layer z = (out-Tally (tally (map-Statement Statement Tally tally_of z))).totals ≡ totals (piece (map-Statement Statement Piece piece_of z)).counts

at_layer : (y : Statement-F Known) → Layer (map-Statement Known Statement (λ x. x.0) y)
at_layer (text.Assign x e) = tallied_totals (of_nodes 1) []
at_layer (text.Label name) = tallied_totals (of_nodes 0) []
at_layer (text.Goto name) = tallied_totals (record { nodes = 0; threads = 0; lower = 0; jumps = 1 }) []
at_layer text.Pause = tallied_totals (of_nodes 2) []
at_layer (text.If e a b) =
    let p : List Tally = map tally_of (those a) in
    let q : List Tally = map tally_of (those b) in
    tallied_totals (sum (of_nodes 1) (sum (total p) (total q))) (p ∷ q ∷ [])
    ∙ ap (λ c. sum (of_nodes 1) (sum c (total q))) (known_total a)
    ∙ ap (λ c. sum (of_nodes 1) (sum (totals (in_row (map piece_of (those a))).counts) c)) (known_total b)
at_layer (text.Fork branches) =
    let parts : List (List Tally) = map (map tally_of) (map (map (λ x. x.0)) branches) in
    tallied_totals (sum (of_nodes 2) (branches_total parts)) parts ∙ ap (λ c. sum (of_nodes 2) c) (known_branches branches)

pub statement_tallied : (s : Statement) → (out-Tally (tally_of s)).totals ≡ totals_of s
statement_tallied = ind-Statement IsRight (λ x y is.
    subst (λ t. (out-Tally t).totals ≡ totals_of (roll-Statement x)) (sym (fold-roll-Statement Tally tally x))
    (subst (λ p. (out-Tally (tally (map-Statement Statement Tally tally_of x))).totals ≡ totals p.counts) (sym (fold-roll-Statement Piece piece x))
    (subst Layer is (at_layer y))))

pub tally_totals : (s : Statement) (t : Tally) → t ≡ tally_of s → (out-Tally t).totals ≡ totals_of s
tally_totals s t is = ap (λ x. (out-Tally x).totals) is ∙ statement_tallied s

-- ---- lists of statements

row_total : (xs : List Statement) → total (map tally_of xs) ≡ totals_of_all xs
row_total [] = refl
row_total (s ∷ xs) = ap (λ c. sum c (total (map tally_of xs))) (statement_tallied s) ∙ ap (λ c. sum (totals_of s) c) (row_total xs)

pub total_is : (xs : List Statement) (ts : List Tally) → ts ≡ map tally_of xs → total ts ≡ totals_of_all xs
total_is xs ts is = ap total is ∙ row_total xs

rows_total : (bodies : List (List Statement)) → branches_total (map (map tally_of) bodies) ≡ branches_totals bodies
rows_total [] = refl
rows_total (b ∷ bodies) =
    ap (λ c. sum (as_branch c) (branches_total (map (map tally_of) bodies))) (row_total b)
    ∙ ap (λ c. sum (as_branch (totals_of_all b)) c) (rows_total bodies)

pub branches_total_is : (bodies : List (List Statement)) (parts : List (List Tally)) → parts ≡ map (map tally_of) bodies →
    branches_total parts ≡ branches_totals bodies
branches_total_is bodies parts is = ap branches_total is ∙ rows_total bodies

tally_in : (xs : List Statement) (i : ℕ) (s : Statement) (t : Tally) → i < length xs → s ≡ get_or xs i s → t ≡ get_or (map tally_of xs) i t → t ≡ tally_of s
tally_in [] i s t lt is at = absurd (omega (arith, lt))
tally_in (x ∷ xs) zero s t lt is at = at ∙ ap tally_of (sym is)
tally_in (x ∷ xs) (suc i) s t lt is at = tally_in xs i s t (omega (arith, lt)) is at

-- the tally at a place is that of the statement there
pub tally_at : (xs : List Statement) (ts : List Tally) (i : ℕ) (s : Statement) (t : Tally) → ts ≡ map tally_of xs → i < length xs →
    s ≡ get_or xs i s → t ≡ get_or ts i t → t ≡ tally_of s
tally_at xs ts i s t all lt is at = tally_in xs i s t lt is (at ∙ ap (λ zs. get_or zs i t) all)

pub within_tallies : (xs : List Statement) (ts : List Tally) (i : ℕ) → ts ≡ map tally_of xs → i < length xs → i < length ts
within_tallies xs ts i is lt = let e : length ts ≡ length xs = ap length is ∙ length-map xs tally_of in omega (arith, e, lt)

-- ---- the lists of a statement

part_of : (c : Totals) (parts : List (List Tally)) (i : ℕ) → part (tallied c parts) i ≡ unwrap_or (slice_get parts i) []
part_of c parts i = ap (λ z. unwrap_or (slice_get z.parts i) []) (out-roll-Tally (record { totals = c; parts = parts }))

pub first_part : (s : Statement) (t : Tally) (e : Expr) (a b : List Statement) → s ≡ variant.If e a b → t ≡ tally_of s → part t 0 ≡ map tally_of a
first_part s t e a b is of =
    let p : List Tally = map tally_of a in
    let q : List Tally = map tally_of b in
    ap (λ x. part x 0) (of ∙ ap tally_of is ∙ tally_of_if e a b) ∙ part_of (sum (of_nodes 1) (sum (total p) (total q))) (p ∷ q ∷ []) 0

pub second_part : (s : Statement) (t : Tally) (e : Expr) (a b : List Statement) → s ≡ variant.If e a b → t ≡ tally_of s → part t 1 ≡ map tally_of b
second_part s t e a b is of =
    let p : List Tally = map tally_of a in
    let q : List Tally = map tally_of b in
    ap (λ x. part x 1) (of ∙ ap tally_of is ∙ tally_of_if e a b) ∙ part_of (sum (of_nodes 1) (sum (total p) (total q))) (p ∷ q ∷ []) 1

pub fork_is : (s : Statement) (t : Tally) (bodies : List (List Statement)) → s ≡ variant.Fork bodies → t ≡ tally_of s →
    t ≡ fork_tally (map (map tally_of) bodies)
fork_is s t bodies is of = of ∙ ap tally_of is ∙ tally_of_fork bodies

part_in : (bodies : List (List Statement)) (i : ℕ) (b : List Statement) → i < length bodies → b ≡ get_or bodies i b
    → unwrap_or (slice_get (map (map tally_of) bodies) i) [] ≡ map tally_of b
part_in [] i b lt is = absurd (omega (arith, lt))
part_in (x ∷ bodies) zero b lt is = ap (map tally_of) (sym is)
part_in (x ∷ bodies) (suc i) b lt is = part_in bodies i b (omega (arith, lt)) is

pub branch_part : (t : Tally) (bodies : List (List Statement)) (i : ℕ) (b : List Statement) → t ≡ fork_tally (map (map tally_of) bodies) → i < length bodies
    → b ≡ get_or bodies i b → part t i ≡ map tally_of b
branch_part t bodies i b of lt is =
    let parts : List (List Tally) = map (map tally_of) bodies in
    ap (λ x. part x i) of ∙ part_of (sum (of_nodes 2) (branches_total parts)) parts i ∙ part_in bodies i b lt is

-- ---- what is counted of a statement is counted of its lists

pub if_counted : (s : Statement) (e : Expr) (a b : List Statement) (p q : List Tally) → s ≡ variant.If e a b → p ≡ map tally_of a → q ≡ map tally_of b
    → AreCounted (totals_of s) → AreCounted (sum (of_nodes 1) (sum (total p) (total q)))
if_counted s e a b p q is first second h =
    let whole : totals_of s ≡ sum (of_nodes 1) (sum (totals_of_all a) (totals_of_all b)) =
    ap totals_of is ∙ ap (λ x. totals x.counts) (piece_of_if e a b) in
    let lists : sum (of_nodes 1) (sum (total p) (total q)) ≡ sum (of_nodes 1) (sum (totals_of_all a) (totals_of_all b)) =
    ap (λ c. sum (of_nodes 1) (sum c (total q))) (total_is a p first) ∙ ap (λ c. sum (of_nodes 1) (sum (totals_of_all a) c)) (total_is b q second) in
    subst AreCounted (whole ∙ sym lists) h

pub fork_counted : (s : Statement) (bodies : List (List Statement)) (parts : List (List Tally)) → s ≡ variant.Fork bodies → parts ≡ map (map tally_of) bodies
    → AreCounted (totals_of s) → AreCounted (sum (of_nodes 2) (branches_total parts))
fork_counted s bodies parts is made h =
    let whole : totals_of s ≡ sum (of_nodes 2) (branches_totals bodies) = ap totals_of is ∙ ap (λ x. totals x.counts) (piece_of_fork bodies) in
    subst AreCounted (whole ∙ ap (λ c. sum (of_nodes 2) c) (sym (branches_total_is bodies parts made))) h

-- behind the last branch all of them are made
pub all_made : (bodies rest : List (List Statement)) (parts : List (List Tally)) → rest ≡ []
    → parts ++ map (map tally_of) rest ≡ map (map tally_of) bodies → parts ≡ map (map tally_of) bodies
all_made bodies rest parts none made = sym (append-nil parts) ∙ ap (λ zs. parts ++ map (map tally_of) zs) (sym none) ∙ made
