-- Strong and weak aborts, by their sort.
use Rattle.std.specs.Prelude.{Bool, false, List, filter}
use Rattle.core_charts.specs.declared.region.Transition.{Transition}
use Rattle.core_charts.specs.declared.region.TransitionKind.{TransitionKind}
use Rattle.core_charts.specs.Tests.{is_strong, is_weak}
use Rattle.abort_expansion.specs.declared.checks.AbortSort.{AbortSort}
use Rattle.abort_expansion.specs.declared.checks.AbortSort.TheVariants as sort

abbrev pub is_abort_of : AbortSort → TransitionKind → Bool
is_abort_of sort.Strong k = is_strong k
is_abort_of sort.Weak k = is_weak k

abbrev pub aborts_of : AbortSort → List Transition → List Transition
aborts_of s all = filter (λ t. is_abort_of s t.kind) all

-- whether an abort raises its flag in the tick of entry too: strong ones are tested there before
abbrev pub is_told_at_once : AbortSort → Transition → Bool
is_told_at_once sort.Strong t = false
is_told_at_once sort.Weak t = t.immediate
