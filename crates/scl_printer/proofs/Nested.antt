-- How deep the statements within a statement are nested.
use Rattle.std.proofs.Common.{◌≡◌, ℕ, ◌≤◌, List, [], ◌∷◌, map, refl, ap, subst, arith}
use Rattle.std.proofs.Math.Bridge.{le_prop}
use Rattle.std.proofs.Math.Logic.{∥∥₁_elim}
use Rattle.sc_graph.specs.declared.program.Variable.{Variable}
use Rattle.scl.specs.declared.statement.Statement.{Statement}
use Rattle.scl.specs.Rules.{Part, part_of, parts_of, both, in_row, thread, side_by_side, forked, fork_limit, if_limit, KeepsRules}
use Rattle.scl_printer.specs.Inside.Levels.{HasLevels}

-- of two parts beside each other
pub second_levels : (level : ℕ) (p q : Part) → HasLevels level (both p q) → HasLevels level q
second_levels level p q h = record { own = omega (arith, h.own); lower = omega (arith, h.lower) }

-- of the branches behind the first
pub later_branches : (level count : ℕ) (b : List Part) (branches : List (List Part)) → HasLevels level (forked count (side_by_side (b ∷ branches)))
    → HasLevels level (forked count (side_by_side branches))
later_branches level count b branches h = record { own = omega (arith, h.own); lower = omega (arith, h.lower) }

-- ---- within a program

pub parts_are : (statements : List Statement) → parts_of statements ≡ map part_of statements
parts_are [] = refl
parts_are (s ∷ statements) = ap (λ ps. part_of s ∷ ps) (parts_are statements)

levels_are : (p : Part) → (thread p).depth ≤ fork_limit → (thread p).lower_ifs ≤ if_limit → HasLevels 1 p
levels_are p forks ifs = record { own = omega (arith, forks, ifs); lower = omega (arith, ifs) }

levels_prop : (level : ℕ) (p : Part) → IsProp (HasLevels level p)
levels_prop level p a b = λ i. record { own = le_prop a.own b.own i; lower = le_prop a.lower b.lower i }

pub program_levels : (name : List ℕ) (variables : List Variable) (body : List Statement) → ∥ KeepsRules name variables body ∥₁
    → HasLevels 1 (in_row (map part_of body))
program_levels name variables body kept =
    let At : List Part → Type 0 = λ ps. HasLevels 1 (in_row ps) in
    ∥∥₁_elim kept (levels_prop 1 (in_row (map part_of body)))
    (λ k. subst At (parts_are body) (levels_are (in_row (parts_of body)) k.text.forks k.text.ifs))
