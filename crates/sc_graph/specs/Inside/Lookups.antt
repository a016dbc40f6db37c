-- More of what stands at a number in a program, and of what an operation loads.
use Rattle.std.specs.Prelude.{ℕ, Bool, false, nat_eq, Option, List, slice_get, option_map}
use Rattle.sc_values.specs.declared.operation.Operation.{Operation}
use Rattle.sc_values.specs.declared.operation.Operation.TheVariants as op
use Rattle.sc_graph.specs.Program.{Program}
use Rattle.sc_graph.specs.Threads.{Descends}

-- the name of a variable, as its bytes
abbrev pub name_at : Program → ℕ → Option (List ℕ)
name_at p x = option_map (λ v. v.name) (slice_get p.variables x)

-- no thread is n generations above thread t
pub record HasNoAncestor (p : Program) (n t : ℕ) : Type 0 where
  pub none : (u : ℕ) → ¬ Descends p n t u

-- whether an operation loads variable x
abbrev pub is_load : ℕ → Operation → Bool
is_load x (op.Load y) = nat_eq y x
is_load x other = false
