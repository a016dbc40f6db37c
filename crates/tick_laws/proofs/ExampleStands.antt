-- The program of the example, with its tables: what its nodes are, that it has the size and the range of an image, and that its threads and
-- nodes stand as they have to.
use Rattle.std.proofs.Common.{◌≡◌, ◌≢◌, ℕ, zero, suc, ◌<◌, true, false, Some, None, List, [], ◌∷◌, get_or, slice_get}
use Rattle.std.proofs.Common.{Contains, refl, ap, subst, sym, ◌∙◌, arith, pos}
use Rattle.std.proofs.lemmas.Option.{none-some, same_Some}
use Rattle.std.proofs.lemmas.List.Elements.{All-nil, All-cons}
use Rattle.sc_values.specs.declared.value.Kind.TheVariants as kind_is
use Rattle.sc_values.specs.declared.value.Value.TheVariants as value_is
use Rattle.sc_values.specs.declared.operation.Operation.TheVariants as op
use Rattle.sc_values.specs.declared.operator.Combination.TheVariants as combine
use Rattle.sc_values.specs.Access.{Update}
use Rattle.sc_graph.specs.declared.program.Variable.{Variable}
use Rattle.sc_graph.specs.declared.program.Role.TheVariants as role
use Rattle.sc_graph.specs.declared.program.Thread.{Thread}
use Rattle.sc_graph.specs.declared.program.Node.{Node}
use Rattle.sc_graph.specs.declared.program.Step.{Step}
use Rattle.sc_graph.specs.declared.program.Step.TheVariants as step
use Rattle.sc_graph.specs.declared.tables.Tables.{Tables}
use Rattle.sc_graph.specs.declared.place.Place.{Place}
use Rattle.sc_graph.specs.declared.place.Place.TheVariants as place
use Rattle.sc_graph.specs.Program.{Program, step_at, parent_of}
use Rattle.sc_graph.specs.Threads.{Descends}
use Rattle.sc_graph.specs.Size.{SizeAt, VariableFits, ThreadFits, NodeFits, ChildrenFit, AreDistinct}
use Rattle.sc_graph.specs.Structure.{StructureAt, ThreadStands, NodeStands, JoinsAt, ForksChild, ExactlyOne}
use Rattle.tick_laws.proofs.Lists.{map_some}

-- again and again the root forks two threads, of which one adds 1 to x and the other sets y to x, and pauses
abbrev pub example : Program
example =
    record {
      variables =
          record { name = 120 ∷ []; kind = kind_is.Int; role = role.Output }
          ∷ record { name = 121 ∷ []; kind = kind_is.Int; role = role.Output } ∷ [];
      threads =
          record { parent = None; entry = 0 } ∷ record { parent = Some 0; entry = 4 } ∷ record { parent = Some 0; entry = 6 } ∷ [];
      nodes =
          record { owner = 0; step = step.Fork (1 ∷ 2 ∷ []) 1 }
          ∷ record { owner = 0; step = step.Join 2 }
          ∷ record { owner = 0; step = step.Surf 3 }
          ∷ record { owner = 0; step = step.Depth 0 }
          ∷ record { owner = 1; step = step.Update 0 combine.Add (op.Literal (value_is.Int (pos 1)) ∷ []) 5 }
          ∷ record { owner = 1; step = step.Exit }
          ∷ record { owner = 2; step = step.Assign 1 (op.Load 0 ∷ []) 7 }
          ∷ record { owner = 2; step = step.Exit } ∷ [];
    }

-- the one that adds goes first
abbrev pub example_tables : Tables
example_tables =
    record {
      priorities = 1 ∷ 0 ∷ 0 ∷ 1 ∷ 1 ∷ 0 ∷ 0 ∷ 0 ∷ [];
      weights = 7 ∷ 2 ∷ 1 ∷ 8 ∷ 2 ∷ 1 ∷ 2 ∷ 1 ∷ [];
      end_bits = false ∷ false ∷ false ∷ false ∷ true ∷ true ∷ true ∷ true ∷ [];
      bounds = 8 ∷ 0 ∷ 0 ∷ [];
      budget = 8;
    }

-- a fact of each element, with its number
abbrev Each : {X : Type 0} → (ℕ → X → Type 0) → List X → Type 0
Each P [] = Unit {0}
Each P (x ∷ xs) = P 0 x × Each (λ n. P (suc n)) xs

each : {X : Type 0} (P : ℕ → X → Type 0) (xs : List X) → Each P xs → (n : ℕ) (x : X) → slice_get xs n ≡ Some x → P n x
each P [] h n x e = absurd (none-some x e)
each P (y ∷ xs) h zero x e = subst (P 0) (same_Some y x e) h.0
each P (y ∷ xs) h (suc n) x e = each (λ n. P (suc n)) xs h.1 n x e

pub each_step : (P : ℕ → Step → Type 0) → Each (λ n x. P n x.step) example.nodes → (n : ℕ) (s : Step) → step_at example n ≡ Some s → P n s
each_step P h n s e =
    let a = map_some (λ (x : Node). x.step) (slice_get example.nodes n) s e in
    subst (P n) a.2 (each (λ n x. P n x.step) example.nodes h n a.0 a.1)

-- who forks, who joins, and where the pause is
pub record IsTheFork (n : ℕ) (children : List ℕ) (j : ℕ) : Type 0 where
  pub node : n ≡ 0
  pub forked : children ≡ 1 ∷ 2 ∷ []
  pub join : j ≡ 1

pub the_fork : (n : ℕ) (children : List ℕ) (j : ℕ) → step_at example n ≡ Some (step.Fork children j) → IsTheFork n children j
the_fork n children j h =
    each_step (λ n s. (children : List ℕ) (j : ℕ) → s ≡ step.Fork children j → IsTheFork n children j) (
      here,
      (
        λ ks j e. absurd (cc),
        (
          λ ks j e. absurd (cc),
          (λ ks j e. absurd (cc), (λ ks j e. absurd (cc), (λ ks j e. absurd (cc), (λ ks j e. absurd (cc), (λ ks j e. absurd (cc), tt))))),
        ),
      ),
    )
    n (step.Fork children j) h children j refl
  where
    here : (children : List ℕ) (j : ℕ) → step.Fork (1 ∷ 2 ∷ []) 1 ≡ step.Fork children j → IsTheFork 0 children j
    here children j e = record { node = refl; forked = cc; join = cc }

pub the_depth : (n m : ℕ) → step_at example n ≡ Some (step.Depth m) → n ≡ 3
the_depth n m h =
    each_step (λ n s. (m : ℕ) → s ≡ step.Depth m → n ≡ 3) (
      λ m e. absurd (cc),
      (
        λ m e. absurd (cc),
        (λ m e. absurd (cc), (λ m e. refl, (λ m e. absurd (cc), (λ m e. absurd (cc), (λ m e. absurd (cc), (λ m e. absurd (cc), tt)))))),
      ),
    )
    n (step.Depth m) h m refl

the_pause : (n : ℕ) → step_at example n ≡ Some (step.Surf 3) → n ≡ 2
the_pause n h =
    each_step (λ n s. s ≡ step.Surf 3 → n ≡ 2)
    (λ e. absurd (cc), (λ e. absurd (cc), (λ e. refl, (λ e. absurd (cc), (λ e. absurd (cc), (λ e. absurd (cc), (λ e. absurd (cc), (λ e. absurd (cc), tt))))))))
    n (step.Surf 3) h refl

-- size and range
root_has_none : (n u : ℕ) → Descends example (suc n) 0 u → ⊥
root_has_none n u d = none-some d.0 d.1

no_grandchild : (n t u : ℕ) → parent_of example t ≡ Some 0 → Descends example (suc (suc n)) t u → ⊥
no_grandchild n t u parent d = root_has_none n u (subst (λ v. Descends example (suc n) v u) (same_Some d.0 0 (sym d.1 ∙ parent)) d.2)

example_variables : (x : ℕ) (a : Variable) → slice_get example.variables x ≡ Some a → VariableFits example x a
example_variables =
    each (VariableFits example) example.variables (
      record { new_name = λ y b lt. absurd (omega (arith, lt)); outputs = λ _. omega arith },
      (record { new_name = other_name; outputs = λ _. omega arith }, tt),
    )
  where
    other_name : (y : ℕ) (b : Variable) → y < 1 → slice_get example.variables y ≡ Some b → b.name ≢ 121 ∷ []
    other_name zero b lt h e = absurd
        (omega (
          arith,
          ap (λ (l : List ℕ). get_or l 0 0)
              (ap (λ (v : Variable). v.name) (same_Some (record { name = 120 ∷ []; kind = kind_is.Int; role = role.Output }) b h) ∙ e),
        ))
    other_name (suc y) b lt h e = absurd (omega (arith, lt))

example_threads : (t : ℕ) (a : Thread) → slice_get example.threads t ≡ Some a → ThreadFits example t a
example_threads =
    each (ThreadFits example) example.threads (
      record { parent = refl; ancestors = λ u d. root_has_none 32 u d; entry = refl },
      (
        record { parent = omega arith; ancestors = λ u d. no_grandchild 31 1 u refl d; entry = refl },
        (record { parent = omega arith; ancestors = λ u d. no_grandchild 31 2 u refl d; entry = refl }, tt),
      ),
    )

children_fit : ChildrenFit example (1 ∷ 2 ∷ [])
children_fit =
    record {
      some_child = omega arith;
      few = omega arith;
      threads = All-cons (λ k. k < 3) 1 (2 ∷ []) (omega arith) (All-cons (λ k. k < 3) 2 [] (omega arith) (All-nil (λ k. k < 3)));
      distinct = differ;
    }
  where
    differ : AreDistinct (1 ∷ 2 ∷ [])
    differ i zero a b lt h k e = absurd (omega (arith, lt))
    differ zero (suc zero) a b lt h k e = absurd (omega (arith, same_Some 1 a h, same_Some 2 b k, e))
    differ (suc i) (suc zero) a b lt h k e = absurd (omega (arith, lt))
    differ i (suc (suc j)) a b lt h k e = absurd (none-some b k)

example_nodes : (n : ℕ) (a : Node) → slice_get example.nodes n ≡ Some a → NodeFits example a
example_nodes =
    each (λ n. NodeFits example) example.nodes (
      record { owner = omega arith; fits = (children_fit, omega arith) },
      (
        record { owner = omega arith; fits = omega arith },
        (
          record { owner = omega arith; fits = omega arith },
          (
            record { owner = omega arith; fits = omega arith },
            (
              record { owner = omega arith; fits = (omega arith, All-nil (λ x. x < 2), omega arith) },
              (
                record { owner = omega arith; fits = tt },
                (
                  record { owner = omega arith; fits = (omega arith, All-cons (λ x. x < 2) 0 [] (omega arith) (All-nil (λ x. x < 2)), omega arith) },
                  (record { owner = omega arith; fits = tt }, tt),
                ),
              ),
            ),
          ),
        ),
      ),
    )

pub example_size : (at : Place) → SizeAt example example_tables at
example_size place.Image = (
  record { variables = omega arith; some_thread = omega arith; threads = omega arith; some_node = omega arith; nodes = omega arith },
  omega arith,
)
example_size (place.Variable x) = (example_variables x, tt)
example_size (place.Thread t) = (example_threads t, tt)
example_size (place.Node n) = (example_nodes n, tt)
example_size (place.Pair m n) = (tt, tt)

-- structure
forks_once : (k : ℕ) → Contains (1 ∷ 2 ∷ []) k → ExactlyOne (ForksChild example k)
forks_once k child =
    record {
      one = 0;
      is = record { children = 1 ∷ 2 ∷ []; join = 1; forks = refl; child = child };
      alone = λ n f. (the_fork n f.children f.join f.forks).node;
    }

example_stands : (t : ℕ) (a : Thread) → slice_get example.threads t ≡ Some a → ThreadStands example t a
example_stands =
    each (ThreadStands example) example.threads (
      record { entry = refl; forked = tt },
      (
        record { entry = refl; forked = forks_once 1 (0, omega arith, refl) },
        (record { entry = refl; forked = forks_once 2 (1, omega arith, refl) }, tt),
      ),
    )

example_joins : ExactlyOne (JoinsAt example 1)
example_joins =
    record { one = 0; is = record { children = 1 ∷ 2 ∷ []; forks = refl }; alone = λ n f. (the_fork n f.children 1 f.forks).node }

example_pauses : ExactlyOne (λ m. step_at example m ≡ Some (step.Surf 3))
example_pauses = record { one = 2; is = refl; alone = the_pause }

example_nodes_stand : (n : ℕ) (a : Node) → slice_get example.nodes n ≡ Some a → NodeStands example n a
example_nodes_stand =
    each (NodeStands example) example.nodes (
      record {
        stays = (
          refl,
          All-cons (λ k. parent_of example k ≡ Some 0) 1 (2 ∷ []) refl
              (All-cons (λ k. parent_of example k ≡ Some 0) 2 [] refl (All-nil (λ k. parent_of example k ≡ Some 0))),
        );
        belongs = tt;
      },
      (
        record { stays = refl; belongs = example_joins },
        (
          record { stays = refl; belongs = tt },
          (
            record { stays = refl; belongs = example_pauses },
            (
              record { stays = refl; belongs = tt },
              (record { stays = tt; belongs = tt }, (record { stays = refl; belongs = tt }, (record { stays = tt; belongs = tt }, tt))),
            ),
          ),
        ),
      ),
    )

pub example_structure : (at : Place) → StructureAt example at
example_structure place.Image = tt
example_structure (place.Variable x) = tt
example_structure (place.Thread t) = example_stands t
example_structure (place.Node n) = example_nodes_stand n
example_structure (place.Pair m n) = tt
