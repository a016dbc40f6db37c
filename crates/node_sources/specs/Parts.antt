-- What is done at the place of a chart's node: it follows from the node's step and from the element of the chart from which
-- the node comes. Where it comes from a transition, the variable that the step concerns tells whether the transition
-- stands in the text, or was added for an abort or for a count.
use Rattle.std.specs.Prelude.{ℕ, Bool, false, not, Option, Some, None, List, slice_get, unwrap_or, ◌==◌, if◌then◌else◌}
use Rattle.sc_values.specs.declared.operation.Operation.{Operation}
use Rattle.sc_values.specs.declared.operation.Operation.TheVariants as operation
use Rattle.sc_graph.specs.declared.program.Variable.{Variable}
use Rattle.sc_graph.specs.declared.program.Step.{Step}
use Rattle.sc_graph.specs.declared.program.Step.TheVariants as step
use Rattle.core_charts.specs.declared.elements.element.Element.{Element}
use Rattle.core_charts.specs.declared.elements.element.Element.TheVariants as element
use Rattle.node_sources.specs.declared.origin.SourcePart.{SourcePart}
use Rattle.node_sources.specs.declared.origin.SourcePart.TheVariants as part

-- ---- what an added variable is for

abbrev pub is_byte : ℕ → Option ℕ → Bool
is_byte byte None = false
is_byte byte (Some found) = found == byte

-- a name that expansion adds begins with `_`, and that of a counter with `_r`; the others are those of flags
abbrev pub added_for : List ℕ → Option SourcePart
added_for name =
    if not (is_byte 95 (slice_get name 0)) then None
    else if is_byte 114 (slice_get name 1) then Some part.Count
    else Some part.Abort

abbrev pub variable_for : Option Variable → Option SourcePart
variable_for None = None
variable_for (Some x) = added_for x.name

-- ---- the variable that a step concerns: it is written, or tested first

abbrev pub loaded : Option Operation → Option ℕ
loaded (Some (operation.Load x)) = Some x
loaded other = None

abbrev pub concerned : Step → Option ℕ
concerned (step.Assign x code next) = Some x
concerned (step.Update x f code next) = Some x
concerned (step.Cond code on_true on_false) = loaded (slice_get code 0)
concerned other = None

abbrev pub concerned_for : List Variable → Option ℕ → Option SourcePart
concerned_for variables None = None
concerned_for variables (Some x) = variable_for (slice_get variables x)

-- ---- the part

-- what is done for a state: its flags and its counter are set where it is entered, and a new initial state counts down
abbrev pub of_state : Step → SourcePart
of_state (step.Assign x code next) = part.Entry
of_state (step.Update x f code next) = part.Count
of_state other = part.State

-- what is done for a transition without an added variable: its trigger is tested, or its abort monitor waits and ends
abbrev pub of_transition : Step → SourcePart
of_transition (step.Cond code on_true on_false) = part.Transition
of_transition other = part.Abort

abbrev pub part_of : List Variable → Step → Element → SourcePart
part_of variables s element.Chart = part.Chart
part_of variables s (element.Region n) = part.Region
part_of variables s (element.State n) = of_state s
part_of variables s (element.Transition n) = unwrap_or (concerned_for variables (concerned s)) (of_transition s)
part_of variables s (element.Effect n) = part.Transition
