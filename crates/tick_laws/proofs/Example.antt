-- The law is not empty: a program that forks two threads in each tick, of which one updates a variable that
-- the other reads, and then pauses, with tables that make it valid (`ExampleStands` has both).
use Rattle.std.proofs.Common.{◌≡◌, ℕ, zero, suc, ◌+◌, ◌≤◌, ◌<◌, true, Option, Some, List, [], ◌∷◌, length, take}
use Rattle.std.proofs.Common.{option_and_then, Contains, refl, ap, subst, sym, ◌∙◌, ⊎_elim, arith, pos}
use Rattle.std.proofs.lemmas.Option.{same_Some}
use Rattle.sc_values.specs.declared.value.Kind.TheVariants as kind_is
use Rattle.sc_values.specs.declared.value.Value.{Value}
use Rattle.sc_values.specs.declared.value.Value.TheVariants as value_is
use Rattle.sc_values.specs.declared.operation.Operation.{Operation}
use Rattle.sc_values.specs.declared.operation.Operation.TheVariants as op
use Rattle.sc_values.specs.declared.operator.Combination.{Combination}
use Rattle.sc_values.specs.declared.operator.Combination.TheVariants as combine
use Rattle.sc_values.specs.declared.expression.Expr.{Expr}
use Rattle.sc_values.specs.declared.expression.Expr.TheOpen as tree
use Rattle.sc_values.specs.declared.expression.Expr.TheViews.{roll-Expr}
use Rattle.sc_values.specs.Access.{Update, Init, Precedes, init_update, init_read, update_read, Clash, two_inits, two_updates}
use Rattle.sc_values.specs.Code.{IsWellFormed, grown, trees}
use Rattle.sc_values.proofs.Induction.{postorder-literal, postorder-load, kind-literal, kind-load}
use Rattle.sc_graph.specs.declared.program.Variable.{Variable}
use Rattle.sc_graph.specs.declared.program.Thread.{Thread}
use Rattle.sc_graph.specs.declared.program.Node.{Node}
use Rattle.sc_graph.specs.declared.program.Step.{Step}
use Rattle.sc_graph.specs.declared.place.Place.{Place}
use Rattle.sc_graph.specs.declared.place.Place.TheVariants as place
use Rattle.sc_graph.specs.Program.{step_at, owner_of, kinds}
use Rattle.sc_graph.specs.Accesses.{accesses}
use Rattle.sc_graph.specs.Tables.{priority, weight, end_bit, bound}
use Rattle.sc_graph.specs.Codes.{CodeAt, AssignmentAt, StepIsWellFormed, StepIsAssigned}
use Rattle.sc_graph.specs.Protocol.{NoConflictAt, FlowAt, ProtocolAt, successors, Instant, by_successor, by_entry, by_exit}
use Rattle.sc_graph.specs.Costs.{EndBitAt, WeightAt, BoundAt, BoundHolds, may_end, needed_weight, child_bounds}
use Rattle.sc_graph.specs.Valid.{IsValid}
use Rattle.tick_laws.proofs.Lists.{contains_none, contains_cons}
use Rattle.tick_laws.proofs.ExampleStands.{example, example_tables, each_step, IsTheFork, the_fork, the_depth, example_size, example_structure}

-- codes
one_operation : (o : Operation) (e : Expr) → grown o [] ≡ Some (e ∷ []) → (n : ℕ) (stack : List Expr) → trees (take n (o ∷ [])) [] ≡ Some stack
    → length stack ≤ 16
one_operation o e g zero stack h = omega (arith, ap (λ (l : List Expr). length l) (same_Some [] stack h))
one_operation o e g (suc zero) stack h = omega
    (arith, ap (λ (l : List Expr). length l) (same_Some (e ∷ []) stack (sym (ap (option_and_then (trees [])) g) ∙ h)))
one_operation o e g (suc (suc n)) stack h = omega
    (arith, ap (λ (l : List Expr). length l) (same_Some (e ∷ []) stack (sym (ap (option_and_then (trees [])) g) ∙ h)))

literal_formed : IsWellFormed (kinds example) (op.Literal (value_is.Int (pos 1)) ∷ [])
literal_formed =
    record {
      spelt = roll-Expr (tree.Literal (value_is.Int (pos 1)));
      spells = postorder-literal (value_is.Int (pos 1));
      gives = kind_is.Int;
      kinded = kind-literal (value_is.Int (pos 1)) (kinds example);
      within = record {
        operations = omega arith;
        operands = one_operation (op.Literal (value_is.Int (pos 1))) (roll-Expr (tree.Literal (value_is.Int (pos 1))))
            refl;
        loaded = omega arith;
      };
    }

load_formed : IsWellFormed (kinds example) (op.Load 0 ∷ [])
load_formed =
    record {
      spelt = roll-Expr (tree.Load 0);
      spells = postorder-load 0;
      gives = kind_is.Int;
      kinded = kind-load 0 (kinds example);
      within = record { operations = omega arith; operands = one_operation (op.Load 0) (roll-Expr (tree.Load 0)) refl; loaded = omega arith };
    }

example_codes : (n : ℕ) (s : Step) → step_at example n ≡ Some s → StepIsWellFormed example s
example_codes = each_step (λ n s. StepIsWellFormed example s) (tt, (tt, (tt, (tt, (literal_formed, (tt, (load_formed, (tt, tt))))))))

example_writes : (n : ℕ) (s : Step) → step_at example n ≡ Some s → StepIsAssigned example s
example_writes =
    each_step (λ n s. StepIsAssigned example s) (
      tt,
      (
        tt,
        (
          tt,
          (
            tt,
            (
              (
                record {
                  gives = kind_is.Int;
                  code_gives = kind-literal (value_is.Int (pos 1)) (kinds example);
                  variable_takes = refl;
                  no_input = λ e. cc;
                },
                refl,
                λ h. contains_none 0 h,
              ),
              (tt, (record { gives = kind_is.Int; code_gives = kind-load 0 (kinds example); variable_takes = refl; no_input = λ e. cc }, (tt, tt))),
            ),
          ),
        ),
      ),
    )

example_code : (at : Place) → CodeAt example at
example_code place.Image = tt
example_code (place.Variable x) = tt
example_code (place.Thread t) = tt
example_code (place.Node n) = example_codes n
example_code (place.Pair m n) = tt

example_assignment : (at : Place) → AssignmentAt example at
example_assignment place.Image = tt
example_assignment (place.Variable x) = tt
example_assignment (place.Thread t) = tt
example_assignment (place.Node n) = example_writes n
example_assignment (place.Pair m n) = tt

-- needed weights and end bits
example_weights : (n : ℕ) (s : Step) → step_at example n ≡ Some s → needed_weight example example_tables s ≤ weight example_tables n
example_weights = each_step (λ n s. needed_weight example example_tables s ≤ weight example_tables n)
    (omega arith, (omega arith, (omega arith, (omega arith, (omega arith, (omega arith, (omega arith, (omega arith, tt))))))))

example_end_bits : (n : ℕ) (s : Step) → step_at example n ≡ Some s → may_end example example_tables s ≡ true → end_bit example_tables n ≡ true
example_end_bits = each_step (λ n s. may_end example example_tables s ≡ true → end_bit example_tables n ≡ true)
    (λ none. none, (λ none. none, (λ none. none, (λ none. none, (λ _. refl, (λ _. refl, (λ _. refl, (λ _. refl, tt))))))))

-- costs
example_bounds : (t : ℕ) → BoundHolds example example_tables t
example_bounds t = record { depths = λ d m owned at. woken d owned (the_depth d m at); joins = λ n j ks owned at. covered n j ks owned (the_fork n ks j at) }
  where
    woken : (d : ℕ) → owner_of example d ≡ Some t → d ≡ 3 → weight example_tables d ≤ bound example_tables t
    woken d owned is =
        let root : 0 ≡ t = same_Some 0 t (ap (owner_of example) (sym is) ∙ owned) in
        omega (arith, ap (weight example_tables) is, ap (bound example_tables) root)

    covered : (n j : ℕ) (ks : List ℕ) → owner_of example j ≡ Some t → IsTheFork n ks j
        → weight example_tables j + child_bounds example_tables ks ≤ bound example_tables t
    covered n j ks owned f =
        let root : 0 ≡ t = same_Some 0 t (ap (owner_of example) (sym f.join) ∙ owned) in
        omega (arith, ap (weight example_tables) f.join, ap (child_bounds example_tables) f.forked, ap (bound example_tables) root)

example_end_bit : (at : Place) → EndBitAt example example_tables at
example_end_bit place.Image = tt
example_end_bit (place.Variable x) = tt
example_end_bit (place.Thread t) = tt
example_end_bit (place.Node n) = example_end_bits n
example_end_bit (place.Pair m n) = tt

example_weight : (at : Place) → WeightAt example example_tables at
example_weight place.Image = tt
example_weight (place.Variable x) = tt
example_weight (place.Thread t) = tt
example_weight (place.Node n) = example_weights n
example_weight (place.Pair m n) = tt

example_bound : (at : Place) → BoundAt example example_tables at
example_bound place.Image = record { root = omega arith; entry = omega arith }
example_bound (place.Variable x) = tt
example_bound (place.Thread t) = λ a h. example_bounds t
example_bound (place.Node n) = tt
example_bound (place.Pair m n) = tt

-- flow
highest : (n : ℕ) → priority example_tables n ≤ 1
highest zero = omega arith
highest (suc zero) = omega arith
highest (suc (suc zero)) = omega arith
highest (suc (suc (suc zero))) = omega arith
highest (suc (suc (suc (suc zero)))) = omega arith
highest (suc (suc (suc (suc (suc zero))))) = omega arith
highest (suc (suc (suc (suc (suc (suc zero)))))) = omega arith
highest (suc (suc (suc (suc (suc (suc (suc zero))))))) = omega arith
highest (suc (suc (suc (suc (suc (suc (suc (suc n)))))))) = omega arith

low_next : (x n top : ℕ) → Contains (x ∷ []) n → priority example_tables x ≤ top → priority example_tables n ≤ top
low_next x n top h le = ⊎_elim (λ e. subst (λ m. priority example_tables m ≤ top) e le) (λ none. absurd (contains_none n none)) (contains_cons x n [] h)

example_successors : (m : ℕ) (s : Step) → step_at example m ≡ Some s → (n : ℕ) → Contains (successors s) n
    → priority example_tables n ≤ priority example_tables m
example_successors =
    each_step (λ m s. (n : ℕ) → Contains (successors s) n → priority example_tables n ≤ priority example_tables m) (
      λ n h. absurd (contains_none n h),
      (
        λ n h. low_next 2 n 0 h (omega arith),
        (
          λ n h. absurd (contains_none n h),
          (
            λ n h. low_next 0 n 1 h (omega arith),
            (
              λ n h. low_next 5 n 1 h (omega arith),
              (λ n h. absurd (contains_none n h), (λ n h. low_next 7 n 0 h (omega arith), (λ n h. absurd (contains_none n h), tt))),
            ),
          ),
        ),
      ),
    )

example_falls : (m n : ℕ) → Instant example m n → priority example_tables n ≤ priority example_tables m
example_falls m n (by_successor s at h) = example_successors m s at n h
example_falls m n (by_entry t children j k fork child entry) = omega (arith, highest n, ap (priority example_tables) (the_fork m children j fork.forks).node)
example_falls m n (by_exit f t children k fork child owned exit) = omega (arith, ap (priority example_tables) (the_fork f children n fork.forks).join)

-- accesses
updates_at : (m x : ℕ) (f : Combination) → (accesses example m).writes ≡ Update x f → (m ≡ 4) × (x ≡ 0) × (f ≡ combine.Add)
updates_at zero x f h = absurd (cc)
updates_at (suc zero) x f h = absurd (cc)
updates_at (suc (suc zero)) x f h = absurd (cc)
updates_at (suc (suc (suc zero))) x f h = absurd (cc)
updates_at (suc (suc (suc (suc zero)))) x f h = (refl, cc, cc)
updates_at (suc (suc (suc (suc (suc zero))))) x f h = absurd (cc)
updates_at (suc (suc (suc (suc (suc (suc zero)))))) x f h = absurd (cc)
updates_at (suc (suc (suc (suc (suc (suc (suc zero))))))) x f h = absurd (cc)
updates_at (suc (suc (suc (suc (suc (suc (suc (suc m)))))))) x f h = absurd (cc)

inits_at : (m x : ℕ) (literal : Option Value) → (accesses example m).writes ≡ Init x literal → (m ≡ 6) × (x ≡ 1)
inits_at zero x literal h = absurd (cc)
inits_at (suc zero) x literal h = absurd (cc)
inits_at (suc (suc zero)) x literal h = absurd (cc)
inits_at (suc (suc (suc zero))) x literal h = absurd (cc)
inits_at (suc (suc (suc (suc zero)))) x literal h = absurd (cc)
inits_at (suc (suc (suc (suc (suc zero))))) x literal h = absurd (cc)
inits_at (suc (suc (suc (suc (suc (suc zero)))))) x literal h = (refl, cc)
inits_at (suc (suc (suc (suc (suc (suc (suc zero))))))) x literal h = absurd (cc)
inits_at (suc (suc (suc (suc (suc (suc (suc (suc m)))))))) x literal h = absurd (cc)

reads_at : (m x : ℕ) → Contains (accesses example m).reads x → (m ≡ 6) × (x ≡ 0)
reads_at zero x h = absurd (contains_none x h)
reads_at (suc zero) x h = absurd (contains_none x h)
reads_at (suc (suc zero)) x h = absurd (contains_none x h)
reads_at (suc (suc (suc zero))) x h = absurd (contains_none x h)
reads_at (suc (suc (suc (suc zero)))) x h = absurd (contains_none x h)
reads_at (suc (suc (suc (suc (suc zero))))) x h = absurd (contains_none x h)
reads_at (suc (suc (suc (suc (suc (suc zero)))))) x h = (refl, ⊎_elim (λ e. sym e) (λ none. absurd (contains_none x none)) (contains_cons 0 x [] h))
reads_at (suc (suc (suc (suc (suc (suc (suc zero))))))) x h = absurd (contains_none x h)
reads_at (suc (suc (suc (suc (suc (suc (suc (suc m)))))))) x h = absurd (contains_none x h)

example_precedes : (m n : ℕ) → Precedes (accesses example m) (accesses example n) → priority example_tables n < priority example_tables m
example_precedes m n (init_update x f i u) = absurd (omega (arith, (inits_at m x i.0 i.1).1, (updates_at n x f u).1))
example_precedes m n (init_read x i r) = absurd (omega (arith, (inits_at m x i.0 i.1).1, (reads_at n x r).1))
example_precedes m n (update_read x f u r) = omega (arith, ap (priority example_tables) (updates_at m x f u).0, ap (priority example_tables) (reads_at n x r).0)

example_clash : (m n : ℕ) → m < n → Clash (accesses example m) (accesses example n) → ⊥
example_clash m n lt (two_inits x i j other) = absurd (omega (arith, lt, (inits_at m x i.0 i.1).0, (inits_at n x j.0 j.1).0))
example_clash m n lt (two_updates x f g u v differ) = differ ((updates_at m x f u).2 ∙ sym (updates_at n x g v).2)

example_flow : (at : Place) → FlowAt example example_tables at
example_flow place.Image = tt
example_flow (place.Variable x) = tt
example_flow (place.Thread t) = tt
example_flow (place.Node n) = tt
example_flow (place.Pair m n) = example_falls m n

example_no_conflict : (at : Place) → NoConflictAt example at
example_no_conflict place.Image = tt
example_no_conflict (place.Variable x) = tt
example_no_conflict (place.Thread t) = tt
example_no_conflict (place.Node n) = tt
example_no_conflict (place.Pair m n) = λ h. example_clash m n h.in_order h.clash

example_protocol : (at : Place) → ProtocolAt example example_tables at
example_protocol place.Image = tt
example_protocol (place.Variable x) = tt
example_protocol (place.Thread t) = tt
example_protocol (place.Node n) = tt
example_protocol (place.Pair m n) = λ edge. example_precedes m n edge.precedes

pub example_valid : IsValid example example_tables
example_valid =
    record {
      size = example_size;
      structure = example_structure;
      code = example_code;
      assignment = example_assignment;
      end_bit = example_end_bit;
      no_conflict = example_no_conflict;
      flow = example_flow;
      protocol = example_protocol;
      weight = example_weight;
      bound = example_bound;
    }
