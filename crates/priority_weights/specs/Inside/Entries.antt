-- The rules of tables for one table at a time, which is a function of the place.
use Rattle.std.specs.Prelude.{ℕ, ◌≡◌, ◌<◌, ◌≤◌, ◌+◌, max, Bool, true, false, ◌&&◌, ◌||◌, nat_lt, Option, Some, None, List, [], ◌∷◌, if◌then◌else◌}
use Rattle.std.specs.List.{list_all}
use Rattle.sc_graph.specs.declared.program.Step.{Step}
use Rattle.sc_graph.specs.declared.program.Step.TheVariants as step
use Rattle.sc_graph.specs.Program.{Program, step_at, entry_of}

-- the end bits of a table of numbers
abbrev pub bits : (ℕ → ℕ) → ℕ → Bool
bits q n = nat_lt 0 (q n)

abbrev pub entry_bit : (ℕ → Bool) → Option ℕ → Bool
entry_bit e None = false
entry_bit e (Some n) = e n

abbrev pub entry_bits : Program → (ℕ → Bool) → List ℕ → Bool
entry_bits p e children = list_all (λ k. entry_bit e (entry_of p k)) children

-- whether a thread at this node may end in this tick
abbrev pub step_bit : Program → (ℕ → Bool) → Step → Bool
step_bit p e (step.Assign x code next) = e next
step_bit p e (step.Update x f code next) = e next
step_bit p e (step.Cond code on_true on_false) = e on_true || e on_false
step_bit p e (step.Fork children join) = entry_bits p e children && e join
step_bit p e (step.Join next) = e next
step_bit p e (step.Surf depth) = false
step_bit p e (step.Depth next) = e next
step_bit p e step.Exit = true

-- the end-bit rule at a node
pub record BitKept (p : Program) (q : ℕ → ℕ) (n : ℕ) : Type 0 where
  pub kept : (s : Step) → step_at p n ≡ Some s → step_bit p (bits q) s ≡ true → 0 < q n

abbrev pub entry_number : (ℕ → ℕ) → Option ℕ → ℕ
entry_number w None = 0
entry_number w (Some n) = w n

abbrev pub entry_sum : Program → (ℕ → ℕ) → List ℕ → ℕ
entry_sum p w [] = 0
entry_sum p w (k ∷ children) = entry_number w (entry_of p k) + entry_sum p w children

-- the weight of a fork's join, where its children may all end at once
abbrev pub join_weight : Program → (ℕ → Bool) → (ℕ → ℕ) → List ℕ → ℕ → ℕ
join_weight p e w children join = if entry_bits p e children then w join else 0

-- what a step asks of the weight of its node
abbrev pub step_weight : Program → (ℕ → Bool) → (ℕ → ℕ) → Step → ℕ
step_weight p e w (step.Assign x code next) = 1 + w next
step_weight p e w (step.Update x f code next) = 1 + w next
step_weight p e w (step.Cond code on_true on_false) = 1 + max (w on_true) (w on_false)
step_weight p e w (step.Fork children join) = 1 + entry_sum p w children + join_weight p e w children join
step_weight p e w (step.Join next) = 1 + w next
step_weight p e w (step.Surf depth) = 1
step_weight p e w (step.Depth next) = 1 + w next
step_weight p e w step.Exit = 1

-- the step-weight rule at a node, by these end bits
pub record WeightKept (p : Program) (e : ℕ → Bool) (w : ℕ → ℕ) (n : ℕ) : Type 0 where
  pub kept : (s : Step) → step_at p n ≡ Some s → step_weight p e w s ≤ w n
