-- The rules of end bits, weights, bounds and the budget. Each says what an entry must at least be.
use Rattle.std.specs.Prelude.{ℕ, ◌≡◌, ◌≤◌, ◌+◌, max, Bool, true, false, ◌&&◌, ◌||◌, Option, Some, None, List, [], ◌∷◌, slice_get, if◌then◌else◌}
use Rattle.std.specs.List.{list_all}
use Rattle.sc_graph.specs.declared.program.Thread.{Thread}
use Rattle.sc_graph.specs.declared.program.Step.{Step}
use Rattle.sc_graph.specs.declared.program.Step.TheVariants as step
use Rattle.sc_graph.specs.declared.tables.Tables.{Tables}
use Rattle.sc_graph.specs.declared.place.Place.{Place}
use Rattle.sc_graph.specs.declared.place.Place.TheVariants as place
use Rattle.sc_graph.specs.Program.{Program, step_at, owner_of, entry_of}
use Rattle.sc_graph.specs.Tables.{weight, end_bit, bound}

abbrev pub entry_end_bit : Tables → Option ℕ → Bool
entry_end_bit q None = false
entry_end_bit q (Some n) = end_bit q n

-- whether all children may end in the tick in which they are forked
abbrev pub entries_end : Program → Tables → List ℕ → Bool
entries_end p q children = list_all (λ k. entry_end_bit q (entry_of p k)) children

-- whether a thread at this node may end in this tick, by the end bits of what follows
abbrev pub may_end : Program → Tables → Step → Bool
may_end p q (step.Assign x code next) = end_bit q next
may_end p q (step.Update x f code next) = end_bit q next
may_end p q (step.Cond code on_true on_false) = end_bit q on_true || end_bit q on_false
may_end p q (step.Fork children join) = entries_end p q children && end_bit q join
may_end p q (step.Join next) = end_bit q next
may_end p q (step.Surf depth) = false
may_end p q (step.Depth next) = end_bit q next
may_end p q step.Exit = true

-- the end-bit rule at a place
abbrev pub EndBitAt : Program → Tables → Place → Type 0
EndBitAt p q (place.Node n) = (s : Step) → step_at p n ≡ Some s → may_end p q s ≡ true → end_bit q n ≡ true
EndBitAt p q other = Unit {0}

abbrev pub entry_weight : Tables → Option ℕ → ℕ
entry_weight q None = 0
entry_weight q (Some n) = weight q n

abbrev pub entry_weights : Program → Tables → List ℕ → ℕ
entry_weights p q [] = 0
entry_weights p q (k ∷ children) = entry_weight q (entry_of p k) + entry_weights p q children

-- the steps that a thread at this node and what it forks may still take in this tick
abbrev pub needed_weight : Program → Tables → Step → ℕ
needed_weight p q (step.Assign x code next) = 1 + weight q next
needed_weight p q (step.Update x f code next) = 1 + weight q next
needed_weight p q (step.Cond code on_true on_false) = 1 + max (weight q on_true) (weight q on_false)
needed_weight p q (step.Fork children join) =
    1 + entry_weights p q children + (if entries_end p q children then weight q join else 0)
needed_weight p q (step.Join next) = 1 + weight q next
needed_weight p q (step.Surf depth) = 1
needed_weight p q (step.Depth next) = 1 + weight q next
needed_weight p q step.Exit = 1

-- the step-weight rule at a place
abbrev pub WeightAt : Program → Tables → Place → Type 0
WeightAt p q (place.Node n) = (s : Step) → step_at p n ≡ Some s → needed_weight p q s ≤ weight q n
WeightAt p q other = Unit {0}

abbrev pub child_bounds : Tables → List ℕ → ℕ
child_bounds q [] = 0
child_bounds q (k ∷ children) = bound q k + child_bounds q children

-- the bound of thread t covers each of its depths, and each of its joins with what is forked there
pub record BoundHolds (p : Program) (q : Tables) (t : ℕ) : Type 0 where
  pub depths : (d next : ℕ) → owner_of p d ≡ Some t → step_at p d ≡ Some (step.Depth next) → weight q d ≤ bound q t
  pub joins : (n j : ℕ) (children : List ℕ) → owner_of p j ≡ Some t → step_at p n ≡ Some (step.Fork children j) →
      weight q j + child_bounds q children ≤ bound q t

pub record BudgetHolds (p : Program) (q : Tables) : Type 0 where
  pub root : bound q 0 ≤ q.budget
  pub entry : entry_weight q (entry_of p 0) ≤ q.budget

-- the tick-bound and budget rule at a place
abbrev pub BoundAt : Program → Tables → Place → Type 0
BoundAt p q (place.Thread t) = (a : Thread) → slice_get p.threads t ≡ Some a → BoundHolds p q t
BoundAt p q place.Image = BudgetHolds p q
BoundAt p q other = Unit {0}
