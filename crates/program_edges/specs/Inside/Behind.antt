-- How the join behind an exit is found: by the fork that is linked to its thread.
use Rattle.std.specs.Prelude.{ℕ, Bool, true, false, Option, Some, None, option_and_then}
use Rattle.sc_graph.specs.declared.links.Links.{Links}
use Rattle.sc_graph.specs.declared.program.Step.{Step}
use Rattle.sc_graph.specs.declared.program.Step.TheVariants as step
use Rattle.sc_graph.specs.Links.{only_at}
use Rattle.sc_graph.specs.Program.{Program, step_at, owner_of}

abbrev pub is_exit : Step → Bool
is_exit step.Exit = true
is_exit other = false

abbrev pub fork_join : Option Step → Option ℕ
fork_join (Some (step.Fork children join)) = Some join
fork_join other = None

-- the join of the fork of which a thread is a child
abbrev pub join_of_child : Program → Links → ℕ → Option ℕ
join_of_child p l k = fork_join (option_and_then (λ f. step_at p f) (only_at l.forks k))

-- the join of the fork of the thread that owns node m
abbrev pub join_behind : Program → Links → ℕ → Option ℕ
join_behind p l m = option_and_then (λ k. join_of_child p l k) (owner_of p m)
