-- What the threads that a text forks gather of their labels, branch by branch; and so what a whole thread does.
use Rattle.std.proofs.Common.{◌≡◌, ℕ, suc, ◌+◌, ◌≤◌, Option, List, [], ◌∷◌, map, refl, ap, sym, subst}
use Rattle.std.proofs.Common.{◌∙◌, arith}
use Rattle.std.specs.Option.{option_or}
use Rattle.sc_values.specs.declared.expression.Expr.{Expr}
use Rattle.scl.specs.declared.statement.Statement.{Statement}
use Rattle.scl.specs.declared.statement.Statement.TheOpen as tree
use Rattle.scl.specs.declared.statement.Statement.TheVariants as variant
use Rattle.scl.specs.Block.{Block, End, Assign, Label, Goto, Pause, Branches, NoMore}
use Rattle.scl.specs.Labels.{before}
use Rattle.scl.specs.Numbering.{Piece, piece, piece_of}
use Rattle.scl.proofs.Sums.{total_before}
use Rattle.scl_graph.specs.declared.landing.Landing.{Landing}
use Rattle.scl_graph.specs.declared.landing.Landing.TheVariants as lands
use Rattle.scl_graph.specs.declared.numbers_ahead.NumbersAhead.{NumbersAhead}
use Rattle.scl_graph.specs.declared.totals.Totals.{Totals}
use Rattle.scl_graph.specs.Inside.Totals.{after, branches_totals, inside, numbers, past, past_branch, totals_of, totals_of_all}
use Rattle.scl_graph.specs.Inside.Gathering.{AreBranchesGathered, AreForkedGathered, Gathers, IsGathered, IsThreadGathered, Noted}
use Rattle.scl_graph.specs.Inside.Gathering.{body, branches, count_among, find, label_among, lower, lower_count, lower_counted}
use Rattle.scl_graph.specs.Inside.Gathering.{lower_label, own_count, own_label, text, thread_label}
use Rattle.scl_graph.proofs.Before.{made_before, end_before}
use Rattle.scl_graph.proofs.Branching.{all_before}
use Rattle.scl_graph.proofs.Pieces.{piece_of_assign, piece_of_label, piece_of_goto, piece_of_pause, piece_of_if, piece_of_fork}
use Rattle.scl_graph.proofs.Gathered.{or_assoc, or_none, own_label_before, own_count_before, nothing, in_turn, node_within}

pub lower_label_before : (b k : Block) (name : List ℕ) → lower_label (before b k) name ≡ option_or (lower_label b name) (lower_label k name)
lower_label_before b k name =
    total_before (lower name) (record { nothing = λ found. refl; three = or_assoc; label = λ other v w. refl; fork = or_assoc }) b k

pub lower_count_before : (b k : Block) → lower_count (before b k) ≡ lower_count b + lower_count k
lower_count_before =
    total_before lower_counted
    (record { nothing = λ n. omega arith; three = λ n m o. omega arith; label = λ name n m. refl; fork = λ n m o. omega arith })

-- the same for the threads that are forked
by_lower : (s : Statement) (at : NumbersAhead) (old new : Noted) (p : Piece) → piece_of s ≡ p
    → Gathers (lower_label (p.made (numbers at) (End 0))) (lower_count (p.made (numbers at) (End 0))) (at.base + (p.counts.lower + 0)) (lands.Node 0) old new
    → AreForkedGathered (s ∷ []) at old new
by_lower s at old new p is h =
    let Of : Piece → Type 0 = λ q. Gathers (lower_label (q.made (numbers at) (End 0))) (lower_count (q.made (numbers at) (End 0)))
    (at.base + (q.counts.lower + 0)) (lands.Node 0) old new in
    subst Of (sym is) h

pub lower_assign : (s : Statement) (at : NumbersAhead) (labels : Noted) (x : ℕ) (e : Expr) → s ≡ variant.Assign x e →
    AreForkedGathered (s ∷ []) at labels labels
lower_assign s at labels x e is =
    by_lower s at labels labels (piece (tree.Assign x e)) (ap piece_of is ∙ piece_of_assign x e)
    (nothing (lower_label (Assign at.node x e (End 0))) (at.base + (0 + 0)) (lands.Node 0) labels (λ name. refl))

pub lower_of_label : (s : Statement) (at : NumbersAhead) (labels : Noted) (name : List ℕ) → s ≡ variant.Label name → AreForkedGathered (s ∷ []) at labels labels
lower_of_label s at labels name is =
    by_lower s at labels labels (piece (tree.Label name)) (ap piece_of is ∙ piece_of_label name)
    (nothing (lower_label (Label name (End 0))) (at.base + (0 + 0)) (lands.Node 0) labels (λ name. refl))

pub lower_goto : (s : Statement) (at : NumbersAhead) (labels : Noted) (name : List ℕ) → s ≡ variant.Goto name → AreForkedGathered (s ∷ []) at labels labels
lower_goto s at labels name is =
    by_lower s at labels labels (piece (tree.Goto name)) (ap piece_of is ∙ piece_of_goto name)
    (nothing (lower_label (Goto at.goto name (End 0))) (at.base + (0 + 0)) (lands.Node 0) labels (λ name. refl))

pub lower_pause : (s : Statement) (at : NumbersAhead) (labels : Noted) → s ≡ variant.Pause → AreForkedGathered (s ∷ []) at labels labels
lower_pause s at labels is =
    by_lower s at labels labels (piece tree.Pause) (ap piece_of is ∙ piece_of_pause)
    (nothing (lower_label (Pause at.node (End 0))) (at.base + (0 + 0)) (lands.Node 0) labels (λ name. refl))

pub lower_if : (s : Statement) (at : NumbersAhead) (x y z : Noted) (e : Expr) (a b : List Statement) → s ≡ variant.If e a b
    → AreForkedGathered a (after 1 at) x y → AreForkedGathered b (past (after 1 at) (totals_of_all a)) y z → AreForkedGathered (s ∷ []) at x z
lower_if s at x y z e a b is first second =
    let p : Piece = piece (tree.If e (map piece_of a) (map piece_of b)) in
    let further : NumbersAhead = past (after 1 at) (totals_of_all a) in
    let in_first : List ℕ → Option Landing = lower_label (text a (after 1 at)) in
    let in_second : List ℕ → Option Landing = lower_label (text b further) in
    let c : Totals = totals_of_all a in
    let d : Totals = totals_of_all b in
    let none : Landing = lands.Node 0 in
    by_lower s at x z p (ap piece_of is ∙ piece_of_if e a b)
    (in_turn (lower_label (p.made (numbers at) (End 0))) in_first in_second (lower_count (p.made (numbers at) (End 0))) (lower_count (text a (after 1 at)))
    (lower_count (text b further)) (at.base + (p.counts.lower + 0)) (at.base + c.lower) (at.base + c.lower + d.lower) none none none x y z
    (λ name. or_none (option_or (in_first name) (in_second name))) (omega arith) (omega arith) (omega arith) (λ most low h. h) (λ most h. h) first second)

pub lower_fork : (s : Statement) (at : NumbersAhead) (old new : Noted) (bodies : List (List Statement)) → s ≡ variant.Fork bodies
    → AreBranchesGathered bodies at old new → AreForkedGathered (s ∷ []) at old new
lower_fork s at old new bodies is h =
    let p : Piece = piece (tree.Fork (map (map piece_of) bodies)) in
    let le : _ = h.most in
    by_lower s at old new p (ap piece_of is ∙ piece_of_fork bodies)
    (record {
      each = λ name. h.each name ∙ ap (option_or (find old name)) (sym (or_none (label_among (branches bodies at) name)));
      most = omega (arith, le);
      within = λ most low here all. h.within most (omega (arith, low)) here all;
    })

pub lower_none : (at : NumbersAhead) (labels : Noted) → AreForkedGathered [] at labels labels
lower_none at labels = nothing (lower_label (End 0)) (at.base + 0) (lands.Node 0) labels (λ name. refl)

pub lower_more : (s : Statement) (rest : List Statement) (at : NumbersAhead) (a b c : Noted)
    → AreForkedGathered (s ∷ []) at a b → AreForkedGathered rest (past at (totals_of s)) b c → AreForkedGathered (s ∷ rest) at a c
lower_more s rest at a b c one others =
    let next : NumbersAhead = past at (totals_of s) in
    let k : Block = text rest next in
    let f : Block = (piece_of s).made (numbers at) (End 0) in
    let is : text (s ∷ rest) at ≡ before f k = made_before s (numbers at) k in
    let m : ℕ = (totals_of s).lower in
    let n : ℕ = (totals_of_all rest).lower in
    let none : Landing = lands.Node 0 in
    in_turn (lower_label (text (s ∷ rest) at)) (lower_label f) (lower_label k) (lower_count (text (s ∷ rest) at)) (lower_count f) (lower_count k)
    (at.base + (m + n)) (at.base + (m + 0)) (at.base + m + n) none none none a b c
    (λ name. ap (λ r. lower_label r name) is ∙ lower_label_before f k name)
    (ap lower_count is ∙ lower_count_before f k) (omega arith) (omega arith) (λ most low h. h) (λ most h. h) one others

-- a thread, and those that it forks
pub thread_gathered : (statements : List Statement) (at : NumbersAhead) (a b c : Noted) → at.node + (totals_of_all statements).nodes ≤ at.base
    → IsGathered statements at (lands.Node (at.node + (totals_of_all statements).nodes)) a b
    → AreForkedGathered statements at b c
    → IsThreadGathered statements at a c
thread_gathered statements at a b c le own lower =
    let e : ℕ = at.node + (totals_of_all statements).nodes in
    let t : Block = text statements at in
    let whole : Block = before t (End e) in
    let is : body statements at ≡ whole = all_before statements (numbers at) (End e) in
    let in_own : List ℕ → Option Landing = own_label t (lands.Node e) in
    let in_lower : List ℕ → Option Landing = lower_label t in
    let split : (name : List ℕ) → thread_label (body statements at) name ≡ option_or (in_own name) (in_lower name) = λ name.
    ap (λ r. thread_label r name) is
    ∙ ap (λ n. option_or (own_label whole (lands.Node n) name) (lower_label whole name)) (end_before t (End e))
    ∙ ap (λ r. option_or r (lower_label whole name)) (own_label_before t (End e) (lands.Node e) name ∙ or_none (in_own name))
    ∙ ap (option_or (in_own name)) (lower_label_before t (End e) name ∙ or_none (in_lower name)) in
    let own_sum : _ = own_count_before t (End e) in
    let lower_sum : _ = lower_count_before t (End e) in
    let sum : own_count (body statements at) + lower_count (body statements at) ≡ own_count t + lower_count t =
    ap (λ r. own_count r + lower_count r) is ∙ omega (arith, own_sum, lower_sum) in
    let l : ℕ = (totals_of_all statements).lower in
    in_turn (thread_label (body statements at)) in_own in_lower (own_count (body statements at) + lower_count (body statements at)) (own_count t)
    (lower_count t) (at.base + l) e (at.base + l) (lands.Node 0) (lands.Node e) (lands.Node 0) a b c
    split sum (omega (arith, le)) (omega arith) (λ most low h. node_within e most (omega (arith, le, low))) (λ most h. h) own lower

pub branches_gathered_none : (at : NumbersAhead) (labels : Noted) → AreBranchesGathered [] at labels labels
branches_gathered_none at labels = nothing (label_among NoMore) (at.base + 0) (lands.Node 0) labels (λ name. refl)

-- a branch, and then those behind it
pub branches_gathered_more : (b : List Statement) (bodies : List (List Statement)) (at : NumbersAhead) (w x y z : Noted)
    → IsGathered b (inside at (totals_of_all b)) (lands.Node (at.base + (totals_of_all b).nodes)) w x
    → AreForkedGathered b (inside at (totals_of_all b)) x y
    → AreBranchesGathered bodies (past_branch at (totals_of_all b)) y z
    → AreBranchesGathered (b ∷ bodies) at w z
branches_gathered_more b bodies at w x y z own lower others =
    let c : Totals = totals_of_all b in
    let within : NumbersAhead = inside at c in
    let next : NumbersAhead = past_branch at c in
    let one : IsThreadGathered b within w y = thread_gathered b within w x y (omega arith) own lower in
    let t : Block = body b within in
    let more : Branches = branches bodies next in
    let rest : ℕ = (branches_totals bodies).lower in
    let none : Landing = lands.Node 0 in
    in_turn (label_among (branches (b ∷ bodies) at)) (thread_label t) (label_among more) (count_among (branches (b ∷ bodies) at)) (own_count t + lower_count t)
    (count_among more) (at.base + (suc c.nodes + c.lower + rest)) (at.base + suc c.nodes + c.lower) (at.base + (suc c.nodes + c.lower) + rest) none none
    none w y z
    (λ name. refl) refl (omega arith) (omega arith) (λ most low h. h) (λ most h. h) one others
