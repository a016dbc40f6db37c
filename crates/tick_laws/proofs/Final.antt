-- The law of one end.
use Rattle.std.proofs.Common.{◌≡◌, ℕ, List, subst, IsPermutation}
use Rattle.sc_values.specs.Runs.{acts, IsOver, IsAdmissible, Completes}
use Rattle.sc_values.proofs.Order.{orderly_from_admissible, admissible_from_orderly}
use Rattle.sc_graph.specs.declared.control.Control.{Control}
use Rattle.sc_graph.specs.declared.tables.Tables.{Tables}
use Rattle.sc_graph.specs.Program.{Program}
use Rattle.sc_graph.specs.Threads.{ForkedApart}
use Rattle.sc_graph.specs.Machine.{machine}
use Rattle.sc_graph.specs.Priority.{PriorityRun}
use Rattle.sc_graph.specs.Tick.{IsConfiguration, start}
use Rattle.sc_graph.specs.Valid.{IsValid}
use Rattle.tick_laws.specs.OneEnd.{OfPriority, OneEndOfTick}
use Rattle.tick_laws.specs.WithinTick.{Paid}
use Rattle.tick_laws.proofs.Formed.{valid_formed}
use Rattle.tick_laws.proofs.Starting.{start_config}
use Rattle.tick_laws.proofs.Serving.{start_paid}
use Rattle.tick_laws.proofs.Finishing.{has_end, of_each}
use Rattle.tick_laws.proofs.RunsOn.{priority_replay}
use Rattle.tick_laws.proofs.Confluent.{same_end}
use Rattle.tick_laws.proofs.Following.{follows_run, threads_acts, orderly_priority}

module _ (p : Program) (q : Tables) (valid : IsValid p q) (c : Control) (ok : IsConfiguration p c) (run : List ℕ) (d : Control)
    (by_priority : PriorityRun p q run c d) where
  -- an admissible complete run ends where the priority run ends, with the same steps
  same_as : IsOver (machine p) d → (other : List ℕ) (end : Control) → Completes (machine p) other c end → IsAdmissible (machine p) other c
      → (end ≡ d) × IsPermutation other run
  same_as over other end complete admissible =
      let both = same_end p q valid run (acts (machine p) other c) c d end ok by_priority over (follows_run p other c end complete.runs) complete.over
      (orderly_from_admissible (ForkedApart p) (acts (machine p) other c) admissible) in
      (both.0, subst (λ l. IsPermutation l run) (threads_acts p other c end complete.runs) both.1)

  admissible_run : IsAdmissible (machine p) run c
  admissible_run = admissible_from_orderly (ForkedApart p) (acts (machine p) run c) (orderly_priority p q valid run c d ok by_priority)

  of_priority : OfPriority p q c run d
  of_priority =
      record {
        runs = priority_replay p q run c d by_priority;
        admissible = admissible_run;
        ends = λ over. record { run = run; complete = record { runs = priority_replay p q run c d by_priority; over = over }; admissible = admissible_run };
        one_end = λ over other ends. (same_as over ends.run other ends.complete ends.admissible).0;
        reordered = λ over other end complete admissible. (same_as over other end complete admissible).1;
      }

pub one_end_of_tick : OneEndOfTick
one_end_of_tick p q c inputs valid rests accepted =
    let begun = start p inputs c in
    let ok : IsConfiguration p begun = start_config p (valid_formed p q valid) inputs accepted c rests in
    let paid : Paid p q q.budget begun 0 = start_paid p q valid inputs c rests accepted in
    record {
      exists = has_end p q valid begun ok paid;
      of_priority = λ run d by_priority. of_priority p q valid begun ok run d by_priority;
      of_each = λ run d runs. of_each p q valid begun ok paid run d runs;
    }
