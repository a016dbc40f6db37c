-- What has room for a text has room for its parts, in numbers that hold for a text of any length.
use Rattle.std.proofs.Common.{◌≡◌, ℕ, ◌+◌, ◌<◌, ◌≤◌, List, ◌∷◌, drop, get_or, length, map, ap, sym, subst, ◌∙◌, arith}
use Rattle.sc_values.specs.declared.expression.Expr.{Expr}
use Rattle.scl.specs.declared.statement.Statement.{Statement}
use Rattle.scl.specs.declared.statement.Statement.TheOpen as tree
use Rattle.scl.specs.declared.statement.Statement.TheVariants as variant
use Rattle.scl.specs.Numbering.{piece, piece_of}
use Rattle.scl_graph.specs.declared.numbers_ahead.NumbersAhead.{NumbersAhead}
use Rattle.scl_graph.specs.declared.totals.Totals.{Totals}
use Rattle.scl_graph.specs.Inside.Totals.{HasBranchRoom, HasBranchesRoom, HasRoom, after, inside, number_limit, past, past_branch}
use Rattle.scl_graph.specs.Inside.Totals.{totals, totals_of, totals_of_all}
use Rattle.scl_graph.proofs.Laid.{split_at}
use Rattle.scl_graph.proofs.Pieces.{piece_of_fork, piece_of_if}

-- what has room for statements has room for the first of them
pub numbers_room_first : (at : NumbersAhead) (s : Statement) (rest : List Statement) → HasRoom at (totals_of_all (s ∷ rest)) → HasRoom at (totals_of s)
numbers_room_first at s rest h =
    let small : _ = h.counted in
    record {
      counted = record {
        nodes = omega (arith, small.nodes);
        threads = omega (arith, small.threads);
        lower = omega (arith, small.lower);
        gotos = omega (arith, small.gotos);
      };
      node = omega (arith, h.node);
      thread = omega (arith, h.thread);
      base = omega (arith, h.base);
      goto = omega (arith, h.goto);
    }

pub numbers_room_at : (at : NumbersAhead) (xs : List Statement) (i : ℕ) (s : Statement) → HasRoom at (totals_of_all (drop i xs)) → i < length xs →
    s ≡ get_or xs i s
    → HasRoom at (totals_of s)
numbers_room_at at xs i s room lt is =
    let Fits : List Statement → Type 0 = λ zs. HasRoom at (totals_of_all zs) in
    numbers_room_first at s (drop (i + 1) xs) (subst Fits (split_at xs i s lt is) room)

-- and behind it
pub numbers_room_more : (at : NumbersAhead) (s : Statement) (rest : List Statement) → HasRoom at (totals_of_all (s ∷ rest))
    → HasRoom (past at (totals_of s)) (totals_of_all rest)
numbers_room_more at s rest h =
    let nodes : _ = h.node in
    let threads : _ = h.thread in
    let base : _ = h.base in
    let gotos : _ = h.goto in
    let small : _ = h.counted in
    record {
      counted = record {
        nodes = omega (arith, small.nodes);
        threads = omega (arith, small.threads);
        lower = omega (arith, small.lower);
        gotos = omega (arith, small.gotos);
      };
      node = omega (arith, nodes);
      thread = omega (arith, threads);
      base = omega (arith, base);
      goto = omega (arith, gotos);
    }

-- a branch and what follows it have room where all have
pub numbers_branch_room : (at : NumbersAhead) (b : List Statement) (bodies : List (List Statement)) → HasBranchesRoom at (b ∷ bodies) →
    HasBranchRoom at (totals_of_all b)
numbers_branch_room at b bodies h = record { thread = omega (arith, h.thread); base = omega (arith, h.base); goto = omega (arith, h.goto) }

pub numbers_inner_room : (at : NumbersAhead) (b : List Statement) (bodies : List (List Statement)) → HasBranchesRoom at (b ∷ bodies)
    → HasRoom (inside at (totals_of_all b)) (totals_of_all b)
numbers_inner_room at b bodies h =
    record {
      counted = record {
        nodes = omega (arith, h.counted.lower);
        threads = omega (arith, h.counted.threads);
        lower = omega (arith, h.counted.lower);
        gotos = omega (arith, h.counted.gotos);
      };
      node = omega (arith, h.base);
      thread = omega (arith, h.thread);
      base = omega (arith, h.base);
      goto = omega (arith, h.goto);
    }

pub numbers_further_room : (at : NumbersAhead) (b : List Statement) (bodies : List (List Statement)) → HasBranchesRoom at (b ∷ bodies)
    → HasBranchesRoom (past_branch at (totals_of_all b)) bodies
numbers_further_room at b bodies h =
    record {
      counted = record {
        nodes = omega (arith, h.counted.nodes);
        threads = omega (arith, h.counted.threads);
        lower = omega (arith, h.counted.lower);
        gotos = omega (arith, h.counted.gotos);
      };
      thread = omega (arith, h.thread);
      base = omega (arith, h.base);
      goto = omega (arith, h.goto);
    }

-- the branches from an index on begin with what stands there
pub numbers_branches_at : (at : NumbersAhead) (items : List (List Statement)) (i : ℕ) (b body : List Statement) → HasBranchesRoom at (drop i items)
    → i < length items → b ≡ get_or items i b → body ≡ b → HasBranchesRoom at (body ∷ drop (i + 1) items)
numbers_branches_at at items i b body room lt is same =
    subst (λ x. HasBranchesRoom at (x ∷ drop (i + 1) items)) (sym same) (subst (λ zs. HasBranchesRoom at zs) (split_at items i b lt is) room)

-- the branches of a fork have room where the fork has
pub numbers_fork_room : (at : NumbersAhead) (s : Statement) (bodies : List (List Statement)) → s ≡ variant.Fork bodies → HasRoom at (totals_of s)
    → HasBranchesRoom at bodies
numbers_fork_room at s bodies is room =
    let Fits : Totals → Type 0 = λ c. HasRoom at c in
    let h : HasRoom at (totals (piece (tree.Fork (map (map piece_of) bodies))).counts) = subst Fits
    (ap totals_of is ∙ ap (λ p. totals p.counts) (piece_of_fork bodies)) room in
    record {
      counted = record {
        nodes = omega (arith, h.counted.nodes);
        threads = omega (arith, h.counted.threads);
        lower = omega (arith, h.counted.lower);
        gotos = omega (arith, h.counted.gotos);
      };
      thread = omega (arith, h.thread);
      base = omega (arith, h.base);
      goto = omega (arith, h.goto);
    }

-- the lists of an if have room where the if has
if_totals : (s : Statement) (e : Expr) (a b : List Statement) → s ≡ variant.If e a b
    → totals_of s ≡ totals (piece (tree.If e (map piece_of a) (map piece_of b))).counts
if_totals s e a b is = ap totals_of is ∙ ap (λ p. totals p.counts) (piece_of_if e a b)

pub numbers_if_node : (at : NumbersAhead) (s : Statement) (e : Expr) (a b : List Statement) → s ≡ variant.If e a b → HasRoom at (totals_of s)
    → at.node + 1 ≤ number_limit
numbers_if_node at s e a b is room =
    let h : _ = (subst (λ c. HasRoom at c) (if_totals s e a b is) room).node in omega (arith, h)

pub numbers_if_first : (at : NumbersAhead) (s : Statement) (e : Expr) (a b : List Statement) → s ≡ variant.If e a b → HasRoom at (totals_of s)
    → HasRoom (after 1 at) (totals_of_all a)
numbers_if_first at s e a b is room =
    let h : HasRoom at (totals (piece (tree.If e (map piece_of a) (map piece_of b))).counts) = subst (λ c. HasRoom at c) (if_totals s e a b is) room in
    record {
      counted = record {
        nodes = omega (arith, h.counted.nodes);
        threads = omega (arith, h.counted.threads);
        lower = omega (arith, h.counted.lower);
        gotos = omega (arith, h.counted.gotos);
      };
      node = omega (arith, h.node);
      thread = omega (arith, h.thread);
      base = omega (arith, h.base);
      goto = omega (arith, h.goto);
    }

pub numbers_if_second : (at : NumbersAhead) (s : Statement) (e : Expr) (a b : List Statement) → s ≡ variant.If e a b → HasRoom at (totals_of s)
    → HasRoom (past (after 1 at) (totals_of_all a)) (totals_of_all b)
numbers_if_second at s e a b is room =
    let h : HasRoom at (totals (piece (tree.If e (map piece_of a) (map piece_of b))).counts) = subst (λ c. HasRoom at c) (if_totals s e a b is) room in
    record {
      counted = record {
        nodes = omega (arith, h.counted.nodes);
        threads = omega (arith, h.counted.threads);
        lower = omega (arith, h.counted.lower);
        gotos = omega (arith, h.counted.gotos);
      };
      node = omega (arith, h.node);
      thread = omega (arith, h.thread);
      base = omega (arith, h.base);
      goto = omega (arith, h.goto);
    }
