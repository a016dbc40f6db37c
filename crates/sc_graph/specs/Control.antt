-- Where threads stand in a configuration, and which of them are enabled.
use Rattle.std.specs.Prelude.{ℕ, ◌≡◌, Bool, true, false, nat_eq, Option, Some, None, List, [], ◌∷◌, slice_get, unwrap_or, if◌then◌else◌}
use Rattle.std.specs.List.{list_all}
use Rattle.sc_values.specs.Access.{Access, no_access}
use Rattle.sc_graph.specs.declared.program.Node.{Node}
use Rattle.sc_graph.specs.declared.program.Step.{Step}
use Rattle.sc_graph.specs.declared.program.Step.TheVariants as step
use Rattle.sc_graph.specs.declared.control.Control.{Control}
use Rattle.sc_graph.specs.declared.control.Status.{Status}
use Rattle.sc_graph.specs.declared.control.Status.TheVariants as status
use Rattle.sc_graph.specs.Program.{Program}
use Rattle.sc_graph.specs.Accesses.{accesses}

-- a number without a thread counts as absent
abbrev pub status_of : Control → ℕ → Status
status_of c t = unwrap_or (slice_get c.statuses t) status.Absent

abbrev pub has_ended : Status → Bool
has_ended status.Ended = true
has_ended other = false

-- the children of a fork whose join is j
abbrev pub joined_by : ℕ → Step → Option (List ℕ)
joined_by j (step.Fork children join) = if nat_eq join j then Some children else None
joined_by j other = None

abbrev pub first_of : Option (List ℕ) → Option (List ℕ) → Option (List ℕ)
first_of (Some children) others = Some children
first_of None others = others

abbrev pub joined_among : ℕ → List Node → Option (List ℕ)
joined_among j [] = None
joined_among j (x ∷ nodes) = first_of (joined_by j x.step) (joined_among j nodes)

-- the children of the fork to which the join j belongs
abbrev pub joined_at : Program → ℕ → Option (List ℕ)
joined_at p j = joined_among j p.nodes

abbrev pub all_ended : Control → Option (List ℕ) → Bool
all_ended c None = false
all_ended c (Some children) = list_all (λ k. has_ended (status_of c k)) children

abbrev pub status_enabled : Program → Control → Status → Bool
status_enabled p c (status.At n) = true
status_enabled p c (status.Waiting j) = all_ended c (joined_at p j)
status_enabled p c other = false

-- whether thread t is enabled: at a node, or waiting at a join of which all children have ended
abbrev pub is_enabled : Program → Control → ℕ → Bool
is_enabled p c t = status_enabled p c (status_of c t)

abbrev pub IsEnabled : Program → Control → ℕ → Type 0
IsEnabled p c t = is_enabled p c t ≡ true

-- what a step from this status does to the variables
abbrev pub access_at : Program → Status → Access
access_at p (status.At n) = accesses p n
access_at p (status.Waiting j) = accesses p j
access_at p other = no_access
