-- Which states of a chart are active between two ticks, told by where the threads of its program rest. States are
-- numbered from 0 in the order of the text.
use Rattle.std.specs.Prelude.{ℕ, zero, suc, Bool, false, nat_eq, Option, Some, None, List, [], ◌∷◌, slice_get, unwrap_or, option_and_then, if◌then◌else◌}
use Rattle.std.specs.List.{list_any}
use Rattle.sc_graph.specs.declared.control.Control.{Control}
use Rattle.sc_graph.specs.declared.control.Status.{Status}
use Rattle.sc_graph.specs.declared.control.Status.TheVariants as status

-- the node at which a thread rests: the join at which it waits, or the depth at which it is paused
abbrev pub rests_at : Status → Option ℕ
rests_at (status.Waiting n) = Some n
rests_at (status.Paused n) = Some n
rests_at other = None

-- the state for which a node stands; a number without a node stands for none
abbrev pub state_of : List (Option ℕ) → ℕ → Option ℕ
state_of nodes n = unwrap_or (slice_get nodes n) None

-- the state in which a thread rests, if there is one
abbrev pub rests_in : List (Option ℕ) → Status → Option ℕ
rests_in nodes s = option_and_then (state_of nodes) (rests_at s)

abbrev pub is_number : ℕ → Option ℕ → Bool
is_number m None = false
is_number m (Some n) = nat_eq n m

-- whether some thread rests in this state
abbrev pub is_active : List (Option ℕ) → Control → ℕ → Bool
is_active nodes c m = list_any (λ s. is_number m (rests_in nodes s)) c.statuses

-- those of so many numbers, from this one on, that are wanted
abbrev pub numbers_where : (ℕ → Bool) → (from count : ℕ) → List ℕ
numbers_where wanted from zero = []
numbers_where wanted from (suc count) =
    if wanted from then from ∷ numbers_where wanted (suc from) count else numbers_where wanted (suc from) count

-- those of the chart's states that are active, ascending
abbrev pub active_states : List (Option ℕ) → (states : ℕ) → Control → List ℕ
active_states nodes states c = numbers_where (is_active nodes c) 0 states
