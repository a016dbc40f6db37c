-- One step of a thread: what it changes and whom it moves, for each of the eight nodes.
use Rattle.std.specs.Prelude.{ℕ, Bool, true, false, ◌&&◌, Option, Some, None, List, [], ◌∷◌, map, slice_get, slice_set, option_map, option_and_then}
use Rattle.std.specs.List.{list_all}
use Rattle.sc_values.specs.declared.value.Value.{Value}
use Rattle.sc_values.specs.declared.value.Value.TheVariants as value
use Rattle.sc_values.specs.declared.value.Kind.{Kind}
use Rattle.sc_values.specs.declared.value.Kind.TheVariants as kind
use Rattle.sc_values.specs.declared.operator.Combination.{Combination}
use Rattle.sc_values.specs.Operator.{kind_of, kind_combined, combined}
use Rattle.sc_values.specs.Code.{code_value}
use Rattle.sc_graph.specs.declared.program.Step.{Step}
use Rattle.sc_graph.specs.declared.program.Step.TheVariants as steps
use Rattle.sc_graph.specs.declared.control.Control.{Control}
use Rattle.sc_graph.specs.declared.control.Status.{Status}
use Rattle.sc_graph.specs.declared.control.Status.TheVariants as status
use Rattle.sc_graph.specs.Program.{Program, step_at, entry_of, kind_at, is_join, is_depth, is_target}
use Rattle.sc_graph.specs.Control.{status_of, joined_at, all_ended}

-- what a step does to the variables: nothing, a new value for one, or one combined with a value
pub data Change : Type 0 where
  Keep : Change
  Put : (x : ℕ) (v : Value) → Change
  Combine : (x : ℕ) (f : Combination) (v : Value) → Change

-- what a step does: a change of the variables, and new statuses of threads
pub record Effect : Type 0 where
  pub change : Change
  pub moves : List (ℕ × Status)

abbrev pub combined_at : List Value → ℕ → Combination → Value → Option Value → List Value
combined_at values x f v None = values
combined_at values x f v (Some present) = slice_set values x (combined f present v)

abbrev pub changed : Change → List Value → List Value
changed Keep values = values
changed (Put x v) values = slice_set values x v
changed (Combine x f v) values = combined_at values x f v (slice_get values x)

abbrev pub moved : List (ℕ × Status) → List Status → List Status
moved [] statuses = statuses
moved (m ∷ moves) statuses = moved moves (slice_set statuses m.0 m.1)

-- the configuration after an effect
abbrev pub after : Effect → Control → Control
after e c = record { variables = changed e.change c.variables; statuses = moved e.moves c.statuses }

abbrev pub only_if : {A : Type 0} → Bool → Option A → Option A
only_if true answer = answer
only_if false answer = None

abbrev pub is_kind : Kind → Kind → Bool
is_kind kind.Bool kind.Bool = true
is_kind kind.Int kind.Int = true
is_kind a b = false

-- whether variable x is there and of this kind
abbrev pub takes_kind : Option Kind → Kind → Bool
takes_kind None k = false
takes_kind (Some kind) k = is_kind kind k

-- thread t goes on at node n, if it may
abbrev pub goes : Program → ℕ → Change → ℕ → Option Effect
goes p t change n = only_if (is_target p t n) (Some (record { change = change; moves = (t, status.At n) ∷ [] }))

abbrev pub assigned : Program → ℕ → ℕ → ℕ → Value → Option Effect
assigned p t x n v = only_if (takes_kind (kind_at p x) (kind_of v)) (goes p t (Put x v) n)

abbrev pub updated : Program → ℕ → ℕ → Combination → ℕ → Value → Option Effect
updated p t x f n v =
    only_if (takes_kind (kind_at p x) (kind_of v) && is_kind (kind_combined f) (kind_of v)) (goes p t (Combine x f v) n)

abbrev pub branched : Program → ℕ → ℕ → ℕ → Value → Option Effect
branched p t on_true on_false (value.Bool true) = goes p t Keep on_true
branched p t on_true on_false (value.Bool false) = goes p t Keep on_false
branched p t on_true on_false (value.Int n) = None

-- a child comes to stand at its entry
abbrev pub enters : ℕ → Option ℕ → ℕ × Status
enters k None = (k, status.Absent)
enters k (Some n) = (k, status.At n)

abbrev pub is_entered : Program → ℕ → Option ℕ → Bool
is_entered p k None = false
is_entered p k (Some n) = is_target p k n

abbrev pub forked : Program → ℕ → List ℕ → ℕ → Option Effect
forked p t children j =
    only_if (is_join p t j && list_all (λ k. is_entered p k (entry_of p k)) children)
    (Some (record { change = Keep; moves = (t, status.Waiting j) ∷ map (λ k. enters k (entry_of p k)) children }))

abbrev pub paused : Program → ℕ → ℕ → Option Effect
paused p t d = only_if (is_depth p t d) (Some (record { change = Keep; moves = (t, status.Paused d) ∷ [] }))

-- the step of thread t at a node. Nobody stands at a join
abbrev pub node_effect : Program → Control → ℕ → Step → Option Effect
node_effect p c t (steps.Assign x code next) = option_and_then (assigned p t x next) (code_value code c.variables)
node_effect p c t (steps.Update x f code next) = option_and_then (updated p t x f next) (code_value code c.variables)
node_effect p c t (steps.Cond code on_true on_false) = option_and_then (branched p t on_true on_false)
    (code_value code c.variables)
node_effect p c t (steps.Fork children join) = forked p t children join
node_effect p c t (steps.Join next) = None
node_effect p c t (steps.Surf depth) = paused p t depth
node_effect p c t (steps.Depth next) = goes p t Keep next
node_effect p c t steps.Exit = Some (record { change = Keep; moves = (t, status.Ended) ∷ [] })

-- the children of a finished fork become absent, and the thread goes on behind the join
abbrev pub leaves : Program → ℕ → ℕ → List ℕ → Option Effect
leaves p t next children =
    only_if (is_target p t next)
    (Some (record { change = Keep; moves = (t, status.At next) ∷ map (λ k. (k, status.Absent)) children }))

abbrev pub join_effect : Program → ℕ → Option (List ℕ) → Option Step → Option Effect
join_effect p t (Some children) (Some (steps.Join next)) = leaves p t next children
join_effect p t children other = None

-- the step of thread t from its status; None where it isn't enabled or its step is undefined
abbrev pub status_effect : Program → Control → ℕ → Status → Option Effect
status_effect p c t (status.At n) = option_and_then (node_effect p c t) (step_at p n)
status_effect p c t (status.Waiting j) = only_if (all_ended c (joined_at p j))
    (join_effect p t (joined_at p j) (step_at p j))
status_effect p c t other = None

abbrev pub effect : Program → Control → ℕ → Option Effect
effect p c t = status_effect p c t (status_of c t)

abbrev pub step : Program → ℕ → Control → Option Control
step p t c = option_map (λ e. after e c) (effect p c t)
