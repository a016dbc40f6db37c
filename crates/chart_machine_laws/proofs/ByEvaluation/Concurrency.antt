-- Rows of charts: which regions are concurrent, what each step reads and writes, and which runs are admissible.
use Rattle.std.proofs.Common.{ℕ, zero, suc, ◌≡◌, ◌<◌, Option, Some, None, List, [], ◌∷◌, refl, sym, ap, subst, arith}
use Rattle.std.specs.Prelude.{slice_get, pos}
use Rattle.sc_values.specs.declared.value.Value.TheVariants as value
use Rattle.sc_values.specs.declared.operation.Operation.{Operation}
use Rattle.sc_values.specs.declared.operation.Operation.TheVariants as op
use Rattle.sc_values.specs.declared.expression.Expr.TheOpen as tree
use Rattle.sc_values.specs.declared.expression.Expr.TheViews.{out-Expr, out-roll-Expr}
use Rattle.sc_values.specs.declared.expression.Expr.TheFolds.{fold-roll-Expr}
use Rattle.sc_values.specs.Expr.{postorder, postorder_step}
use Rattle.sc_values.specs.Access.{Access, Init, no_access, Precedes, init_update, init_read, update_read, Clash, two_inits, two_updates, MayPrecede}
use Rattle.sc_values.specs.Runs.{Act, acts, ConcurrentSteps, IsOrdered, IsAdmissible}
use Rattle.chart_machine.specs.declared.standing.Configuration.{Configuration}
use Rattle.chart_machine.specs.declared.table.Table.{Table}
use Rattle.chart_machine.specs.Turns.{itself, deeper, SideBySide, ForkedApart}
use Rattle.chart_machine.specs.Machine.{machine, initial, start}
use Rattle.chart_machine_laws.proofs.ByEvaluation.Charts.{letter_m, letter_n, output, read, number, becomes, of_read, of_number}
use Rattle.chart_machine_laws.proofs.ByEvaluation.Charts.{go, immediate, doing, initial_state, state, region, chart}
use Rattle.chart_machine_laws.proofs.ByEvaluation.Told.{int}

-- region M {
--   initial state S {
--     region P { initial state a; }
--     region Q { initial state U { region V { initial state b; } } }
--   }
-- }
-- region N { initial state c; }
abbrev nested : Table
nested = chart [] (region (
    initial_state (region (initial_state [] [] ∷ []) ∷ region (initial_state (region (initial_state [] [] ∷ []) ∷ []) [] ∷ []) ∷ []) []
    ∷ []) ∷ region (
    initial_state [] []
    ∷ []) ∷ [])

abbrev regions_of_the_chart : SideBySide nested 1 5
regions_of_the_chart = record {
  differ = λ e. absurd (omega (e, arith));
  first = omega arith;
  second = omega arith;
  first_there = omega arith;
  second_there = omega arith;
  around = refl;
}

-- regions of the chart are forked apart by number 0, which never steps
of_the_chart : ForkedApart nested 1 5 0
of_the_chart = record { left = 1; right = 5; beside = regions_of_the_chart; r_in = itself refl; u_in = itself refl; held = refl }

-- and so is what lies inside them, however deep
inside_the_chart : ForkedApart nested 4 5 0
inside_the_chart = record {
  left = 1;
  right = 5;
  beside = regions_of_the_chart;
  r_in = deeper 0 (1, omega arith, refl) refl;
  u_in = itself refl;
  held = refl;
}

-- regions of a superstate, and what lies inside them, by the region that holds it
of_a_superstate : ForkedApart nested 2 4 1
of_a_superstate = record {
  left = 2;
  right = 3;
  beside = record {
    differ = λ e. absurd (omega (e, arith));
    first = omega arith;
    second = omega arith;
    first_there = omega arith;
    second_there = omega arith;
    around = refl;
  };
  r_in = itself refl;
  u_in = deeper 2 (0, omega arith, refl) refl;
  held = refl;
}

-- output int n; output int m;
-- region M { initial state a { go immediate do n = 1 -> b; } state b; }
-- region N { initial state c { go immediate do m = n -> d; } state d; }
abbrev shared : Table
shared = chart (output letter_n ∷ output letter_m ∷ []) (region (
    initial_state [] (immediate (doing (becomes 0 (number 1) ∷ []) (go 1)) ∷ [])
    ∷ state [] []
    ∷ []) ∷ region (
    initial_state [] (immediate (doing (becomes 1 (read 0) ∷ []) (go 1)) ∷ [])
    ∷ state [] []
    ∷ []) ∷ [])

abbrev first_tick : Configuration
first_tick = start shared [] (initial shared)

abbrev act : ℕ → Access → Act
act r a = record { thread = r; access = a }

abbrev writing_n : Access
writing_n = record { reads = []; writes = Init 0 (Some (int 1)) }

abbrev reading_n : Access
reading_n = record { reads = 0 ∷ []; writes = Init 1 None }

postorder_read : (x : ℕ) → postorder (read x) ≡ op.Load x ∷ []
postorder_read x = fold-roll-Expr (List Operation) postorder_step (tree.Load x)

postorder_number : (n : ℕ) → postorder (number n) ≡ op.Literal (value.Int (pos n)) ∷ []
postorder_number n = fold-roll-Expr (List Operation) postorder_step (tree.Literal (value.Int (pos n)))

out_read : (x : ℕ) → out-Expr (read x) ≡ tree.Load x
out_read x = out-roll-Expr (tree.Load x)

out_number : (n : ℕ) → out-Expr (number n) ≡ tree.Literal (value.Int (pos n))
out_number n = out-roll-Expr (tree.Literal (value.Int (pos n)))

-- a test without a trigger has no access, an effect that of the assignment that it is
abbrev write_first : List Act
write_first = act 1 no_access ∷ act 1 writing_n ∷ act 2 no_access ∷ act 2 reading_n ∷ []

accesses_of_write_first : acts (machine shared) (1 ∷ 1 ∷ 2 ∷ 2 ∷ []) first_tick ≡ write_first
accesses_of_write_first = simp (of_read, of_number, postorder_read, postorder_number, out_read, out_number) refl

abbrev read_first : List Act
read_first = act 2 no_access ∷ act 2 reading_n ∷ act 1 no_access ∷ act 1 writing_n ∷ []

accesses_of_read_first : acts (machine shared) (2 ∷ 2 ∷ 1 ∷ 1 ∷ []) first_tick ≡ read_first
accesses_of_read_first = simp (of_read, of_number, postorder_read, postorder_number, out_read, out_number) refl

-- ---- which runs are admissible

-- each of these steps may precede each one behind it
abbrev MayPrecedeAll : Access → List Act → Type 0
MayPrecedeAll a [] = Unit {0}
MayPrecedeAll a (y ∷ ys) = MayPrecede a y.access × MayPrecedeAll a ys

abbrev AllInOrder : List Act → Type 0
AllInOrder [] = Unit {0}
AllInOrder (x ∷ xs) = MayPrecedeAll x.access xs × AllInOrder xs

abbrev access_at : Option Act → Access
access_at None = no_access
access_at (Some x) = x.access

abbrev thread_at : Option Act → ℕ
thread_at None = 0
thread_at (Some x) = x.thread

each_behind : (a : Access) (ys : List Act) → MayPrecedeAll a ys → (j : ℕ) (y : Act) → slice_get ys j ≡ Some y → MayPrecede a y.access
each_behind a [] all j y is = absurd cc
each_behind a (x ∷ ys) all zero y is = subst (MayPrecede a) (ap access_at is) all.0
each_behind a (x ∷ ys) all (suc j) y is = each_behind a ys all.1 j y is

each_pair : (xs : List Act) → AllInOrder xs → (i j : ℕ) (x y : Act) → i < j → slice_get xs i ≡ Some x → slice_get xs j ≡ Some y →
    MayPrecede x.access y.access
each_pair [] all i j x y lt is_x is_y = absurd cc
each_pair (z ∷ xs) all zero zero x y lt is_x is_y = absurd (omega (lt, arith))
each_pair (z ∷ xs) all (suc i) zero x y lt is_x is_y = absurd (omega (lt, arith))
each_pair (z ∷ xs) all zero (suc j) x y lt is_x is_y =
    subst (λ a. MayPrecede a y.access) (ap access_at is_x) (each_behind z.access xs all.0 j y is_y)
each_pair (z ∷ xs) all (suc i) (suc j) x y lt is_x is_y = each_pair xs all.1 i j x y (omega (lt, arith)) is_x is_y

-- what has no access may stand on either side
silent_first : (b : Access) → MayPrecede no_access b
silent_first b = record { no_order = ordered; no_clash = clashes }
  where
    ordered : Precedes b no_access → ⊥
    ordered (init_update x f inits updates) = cc
    ordered (init_read x inits reads) = let lt = reads.1 in absurd (omega (lt, arith))
    ordered (update_read x f updates reads) = let lt = reads.1 in absurd (omega (lt, arith))

    clashes : Clash no_access b → ⊥
    clashes (two_inits x here there differ) = let is = here.1 in cc
    clashes (two_updates x f g here there differ) = cc

silent_second : (a : Access) → MayPrecede a no_access
silent_second a = record { no_order = ordered; no_clash = clashes }
  where
    ordered : Precedes no_access a → ⊥
    ordered (init_update x f inits updates) = let is = inits.1 in cc
    ordered (init_read x inits reads) = let is = inits.1 in cc
    ordered (update_read x f updates reads) = cc

    clashes : Clash a no_access → ⊥
    clashes (two_inits x here there differ) = let is = there.1 in cc
    clashes (two_updates x f g here there differ) = cc

-- an init of n before a step that reads it and inits m
init_first : MayPrecede writing_n reading_n
init_first = record { no_order = ordered; no_clash = clashes }
  where
    ordered : Precedes reading_n writing_n → ⊥
    ordered (init_update x f inits updates) = cc
    ordered (init_read x inits reads) = let lt = reads.1 in absurd (omega (lt, arith))
    ordered (update_read x f updates reads) = cc

    clashes : Clash writing_n reading_n → ⊥
    clashes (two_inits x here there differ) = let is_n = here.1 in let is_m = there.1 in cc
    clashes (two_updates x f g here there differ) = cc

-- of two concurrent steps the one that inits comes first
is_admissible : IsAdmissible (machine shared) (1 ∷ 1 ∷ 2 ∷ 2 ∷ []) first_tick
is_admissible = subst (IsOrdered (ForkedApart shared)) (sym accesses_of_write_first) ordered
  where
    all : AllInOrder write_first
    all = ((silent_first _, (silent_first _, (silent_first _, tt))), ((silent_second _, (init_first, tt)), ((silent_first _, tt), (tt, tt))))

    ordered : IsOrdered (ForkedApart shared) write_first
    ordered i j lt both = each_pair write_first all i j both.first both.second lt both.is_first both.is_second

-- a run in which the one that reads does is not admissible
is_not_admissible : IsAdmissible (machine shared) (2 ∷ 2 ∷ 1 ∷ 1 ∷ []) first_tick → ⊥
is_not_admissible h = (ordered 1 3 (omega arith) both).no_order (init_read 0 (Some (int 1), refl) (0, omega arith, refl))
  where
    ordered : IsOrdered (ForkedApart shared) read_first
    ordered = subst (IsOrdered (ForkedApart shared)) accesses_of_read_first h

    apart : ForkedApart shared 2 1 0
    apart = record {
      left = 2;
      right = 1;
      beside = record {
        differ = λ e. absurd (omega (e, arith));
        first = omega arith;
        second = omega arith;
        first_there = omega arith;
        second_there = omega arith;
        around = refl;
      };
      r_in = itself refl;
      u_in = itself refl;
      held = refl;
    }

    nobody : (k : ℕ) (x : Act) → 1 < k → k < 3 → slice_get read_first k ≡ Some x → x.thread ≡ 0 → ⊥
    nobody k x above below is same =
        let two : k ≡ 2 = omega (above, below, arith) in
        let one : 1 ≡ x.thread = ap thread_at (subst (λ n. slice_get read_first n ≡ Some x) two is) in
        absurd (omega (one, same, arith))

    both : ConcurrentSteps (ForkedApart shared) read_first 1 3
    both = record {
      first = act 2 reading_n;
      second = act 1 writing_n;
      is_first = refl;
      is_second = refl;
      forking = 0;
      apart = apart;
      between = nobody;
    }
