-- A program as a machine of threads: its runs are those of the words for any machine.
use Rattle.sc_values.specs.Runs.{Machine}
use Rattle.sc_graph.specs.declared.control.Control.{Control}
use Rattle.sc_graph.specs.Program.{Program}
use Rattle.sc_graph.specs.Threads.{ForkedApart}
use Rattle.sc_graph.specs.Control.{status_of, is_enabled, access_at}
use Rattle.sc_graph.specs.Steps.{step}

abbrev pub machine : Program → Machine
machine p =
    record {
      Configuration = Control;
      enabled = is_enabled p;
      step = step p;
      access = λ c t. access_at p (status_of c t);
      ForkedApart = ForkedApart p;
    }
