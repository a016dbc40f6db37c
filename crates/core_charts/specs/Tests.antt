-- Which transitions are tested when.
use Rattle.std.specs.Prelude.{Bool, true, false, List, filter, ◌++◌}
use Rattle.core_charts.specs.declared.region.Transition.{Transition}
use Rattle.core_charts.specs.declared.region.TransitionKind.{TransitionKind}
use Rattle.core_charts.specs.declared.region.TransitionKind.TheVariants as kind

abbrev pub is_strong : TransitionKind → Bool
is_strong kind.Strong = true
is_strong other = false

abbrev pub is_weak : TransitionKind → Bool
is_weak kind.Weak = true
is_weak other = false

abbrev pub is_join : TransitionKind → Bool
is_join kind.Join = true
is_join other = false

-- those that are tested in the tick of entry too
abbrev pub at_once : List Transition → List Transition
at_once transitions = filter (λ t. t.immediate) transitions

abbrev pub strong_aborts : List Transition → List Transition
strong_aborts transitions = filter (λ t. is_strong t.kind) transitions

abbrev pub weak_aborts : List Transition → List Transition
weak_aborts transitions = filter (λ t. is_weak t.kind) transitions

abbrev pub terminations : List Transition → List Transition
terminations transitions = filter (λ t. is_join t.kind) transitions

-- what is tested when nobody inside can step: weak aborts, then the termination
abbrev pub closing_tests : List Transition → List Transition
closing_tests transitions = weak_aborts transitions ++ terminations transitions

-- in the tick of entry only the immediate weak aborts
abbrev pub first_closing_tests : List Transition → List Transition
first_closing_tests transitions = at_once (weak_aborts transitions) ++ terminations transitions
