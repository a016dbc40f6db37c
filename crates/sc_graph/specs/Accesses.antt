-- What the nodes of a program do to its variables.
use Rattle.std.specs.Prelude.{ℕ, unwrap_or, option_map}
use Rattle.sc_values.specs.Access.{Access, Nothing, Init, Update, no_access}
use Rattle.sc_values.specs.Code.{loads, literal_of}
use Rattle.sc_graph.specs.declared.program.Step.{Step}
use Rattle.sc_graph.specs.declared.program.Step.TheVariants as step
use Rattle.sc_graph.specs.Program.{Program, step_at}

abbrev pub access_of : Step → Access
access_of (step.Assign x code next) = record { reads = loads code; writes = Init x (literal_of code) }
access_of (step.Update x f code next) = record { reads = loads code; writes = Update x f }
access_of (step.Cond code on_true on_false) = record { reads = loads code; writes = Nothing }
access_of other = no_access

-- of node n; no access where there is none
abbrev pub accesses : Program → ℕ → Access
accesses p n = unwrap_or (option_map access_of (step_at p n)) no_access
