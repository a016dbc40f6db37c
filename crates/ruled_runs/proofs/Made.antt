-- What one line makes.
use Rattle.std.proofs.Common.{◌≡◌, ◌∙◌, ℕ, List, inl, ap, subst}
use Rattle.sc_graph.specs.declared.program.Variable.{Variable}
use Rattle.sc_graph.specs.Program.{Program}
use Rattle.sc_graph.specs.Tick.{Inputs}
use Rattle.bytecode.specs.Image.{Image}
use Rattle.trace_lines.specs.Output.{outputs_of, tick_line}
use Rattle.trace_player.specs.Trace.{Reacts, Shows, next_number}
use Rattle.ruled_runs.specs.Lines.{Gives}
use Rattle.ruled_runs.specs.Trace.{Makes, MakesTick}
use Rattle.ruled_runs.specs.declared.traces.place.RunPlace.{RunPlace}
use Rattle.ruled_runs.specs.declared.traces.rules.Rules.{Rules}

-- a line that gives inputs makes a tick
pub makes_tick : (rules : Rules) (image : Image) (p : Program) (variables : List Variable) (at to : RunPlace) (line : List ℕ) (inputs : Inputs) (steps : ℕ)
    (shown : List ℕ)
    → p ≡ image.program → variables ≡ p.variables → to.lines ≡ next_number at.lines → to.ticks ≡ next_number at.ticks → Gives rules p line inputs
    → Reacts image inputs at.control to.control steps → shown ≡ tick_line to.ticks steps (outputs_of variables to.control.variables)
    → Makes rules image at line to shown
makes_tick rules image p variables at to line inputs steps shown here named lines ticks gives reacts is =
    let given : Gives rules image.program line inputs = subst (λ q. Gives rules q line inputs) here gives in
    let shown_is : shown ≡ tick_line (next_number at.ticks) steps (outputs_of image.program.variables to.control.variables) =
    is
    ∙ ap (λ k. tick_line k steps (outputs_of variables to.control.variables)) ticks
    ∙ ap (λ xs. tick_line (next_number at.ticks) steps (outputs_of xs to.control.variables)) (named ∙ ap (λ (q : Program). q.variables) here) in
    let shows : Shows image (next_number at.ticks) at.control line to.control shown =
    record { inputs = inputs; steps = steps; gives = given.gives; reacts = reacts; is = shown_is } in
    let tick : MakesTick rules image at line to shown = record { shows = shows; named = given.named; ticks = ticks } in
    record { lines = lines; made = inl tick }
