-- Traces that tell nothing more.
use Rattle.std.proofs.Common.{ℕ, List, [], ◌∷◌}
use Rattle.sc_graph.specs.declared.control.Control.{Control}
use Rattle.bytecode.specs.Image.{Image}
use Rattle.trace_player.specs.Trace.{End, next_number}
use Rattle.trace_player.specs.Trace as plain
use Rattle.state_traces.specs.Trace.{Goes, no_words}

pub to_plain : (image : Image) (k : ℕ) (c : Control) (lines out : List (List ℕ)) (end : End) → Goes no_words image k c lines out end
    → plain.Goes image k c lines out end
to_plain image k c [] [] end goes = goes
to_plain image k c [] (shown ∷ out) end goes = goes
to_plain image k c (line ∷ lines) [] end goes = goes
to_plain image k c (line ∷ lines) (shown ∷ out) end goes =
    let d = goes.0 in
    let shows = goes.1 in (
      d,
      record { inputs = shows.inputs; steps = shows.steps; gives = shows.gives; reacts = shows.reacts; is = shows.is },
      to_plain image (next_number k) d lines out end goes.2,
    )

pub of_plain : (image : Image) (k : ℕ) (c : Control) (lines out : List (List ℕ)) (end : End) → plain.Goes image k c lines out end
    → Goes no_words image k c lines out end
of_plain image k c [] [] end goes = goes
of_plain image k c [] (shown ∷ out) end goes = goes
of_plain image k c (line ∷ lines) [] end goes = goes
of_plain image k c (line ∷ lines) (shown ∷ out) end goes =
    let d = goes.0 in
    let shows = goes.1 in (
      d,
      record { inputs = shows.inputs; steps = shows.steps; gives = shows.gives; reacts = shows.reacts; is = shows.is },
      of_plain image (next_number k) d lines out end goes.2,
    )
