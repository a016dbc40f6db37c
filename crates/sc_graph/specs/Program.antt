-- Programs, and what stands at a number in one.
use Rattle.std.specs.Prelude.{ℕ, Bool, true, false, ◌&&◌, nat_eq, Option, Some, None, List, map, slice_get, option_map, option_and_then}
use Rattle.sc_values.specs.declared.value.Kind.{Kind}
use Rattle.sc_graph.specs.declared.program.Variable.{Variable}
use Rattle.sc_graph.specs.declared.program.Thread.{Thread}
use Rattle.sc_graph.specs.declared.program.Role.{Role}
use Rattle.sc_graph.specs.declared.program.Node.{Node}
use Rattle.sc_graph.specs.declared.program.Step.{Step}
use Rattle.sc_graph.specs.declared.program.Step.TheVariants as step

-- variables, threads and nodes, each named by its number from 0
pub record Program : Type 0 where
  pub variables : List Variable
  pub threads : List Thread
  pub nodes : List Node

abbrev pub step_at : Program → ℕ → Option Step
step_at p n = option_map (λ x. x.step) (slice_get p.nodes n)

-- the thread that owns a node
abbrev pub owner_of : Program → ℕ → Option ℕ
owner_of p n = option_map (λ x. x.owner) (slice_get p.nodes n)

abbrev pub parent_of : Program → ℕ → Option ℕ
parent_of p t = option_and_then (λ x. x.parent) (slice_get p.threads t)

abbrev pub entry_of : Program → ℕ → Option ℕ
entry_of p t = option_map (λ x. x.entry) (slice_get p.threads t)

abbrev pub kind_at : Program → ℕ → Option Kind
kind_at p x = option_map (λ v. v.kind) (slice_get p.variables x)

abbrev pub role_at : Program → ℕ → Option Role
role_at p x = option_map (λ v. v.role) (slice_get p.variables x)

-- the kinds of all variables
abbrev pub kinds : Program → List Kind
kinds p = map (λ v. v.kind) p.variables

abbrev pub is_some_number : Option ℕ → ℕ → Bool
is_some_number None t = false
is_some_number (Some u) t = nat_eq u t

-- whether thread t owns node n
abbrev pub owns : Program → ℕ → ℕ → Bool
owns p t n = is_some_number (owner_of p n) t

abbrev pub is_join_step : Option Step → Bool
is_join_step (Some (step.Join next)) = true
is_join_step other = false

abbrev pub is_depth_step : Option Step → Bool
is_depth_step (Some (step.Depth next)) = true
is_depth_step other = false

abbrev pub is_ordinary_step : Option Step → Bool
is_ordinary_step None = false
is_ordinary_step (Some (step.Join next)) = false
is_ordinary_step (Some (step.Depth next)) = false
is_ordinary_step (Some other) = true

-- whether node n is a join of thread t
abbrev pub is_join : Program → ℕ → ℕ → Bool
is_join p t n = owns p t n && is_join_step (step_at p n)

-- whether node n is a depth of thread t
abbrev pub is_depth : Program → ℕ → ℕ → Bool
is_depth p t n = owns p t n && is_depth_step (step_at p n)

-- whether node n is one of thread t to which a step may go: no join and no depth
abbrev pub is_target : Program → ℕ → ℕ → Bool
is_target p t n = owns p t n && is_ordinary_step (step_at p n)
