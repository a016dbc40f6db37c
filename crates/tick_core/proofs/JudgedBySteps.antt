-- What is judged of the steps of a run is a judgement of the run.
use Rattle.std.proofs.Common.{◌≡◌, ℕ, List, Some, sym, subst, ◌∙◌}
use Rattle.sc_values.specs.Runs.{replay, IsOrdered, IsAdmissible, IsOver, Completes, Ends}
use Rattle.sc_graph.specs.declared.control.Control.{Control}
use Rattle.sc_graph.specs.declared.tables.Tables.{Tables}
use Rattle.sc_graph.specs.Program.{Program}
use Rattle.sc_graph.specs.Threads.{ForkedApart}
use Rattle.sc_graph.specs.Machine.{machine}
use Rattle.sc_graph.specs.Valid.{IsValid}
use Rattle.tick_core.specs.declared.judging.Judged.{Judged}
use Rattle.tick_core.specs.declared.judging.Judged.TheVariants as judged
use Rattle.tick_core.specs.declared.judging.replaying.Taken.{Taken}
use Rattle.tick_core.specs.State.{BeginsTick}
use Rattle.tick_core.specs.Judging.{IsFirstForbidden, Judges, IsJudgement, LeadsToEnd}
use Rattle.tick_core.specs.Inside.Judging.{JudgesSteps, RunsBy}
use Rattle.tick_core.proofs.Replaying.{law_of_tick}
use Rattle.tick_core.proofs.OneJudgement.{one_judgement}

module _ (p : Program) (q : Tables) (begun : Control) (valid : IsValid p q) (begins : BeginsTick p begun) where
  -- all ends of a tick are one
  pub same_ends : (c d : Control) → Ends (machine p) begun c → Ends (machine p) begun d → c ≡ d
  same_ends c d of_c of_d =
      let law = law_of_tick p q begun valid begins in
      let one = (law.of_priority law.exists.run law.exists.end law.exists.by_priority).one_end law.exists.complete.over in
      one c of_c ∙ sym (one d of_d)

  pub leads_to_end : (run : List ℕ) (end : Control) → Completes (machine p) run begun end → IsAdmissible (machine p) run begun → LeadsToEnd p begun run end
  leads_to_end run end complete admissible =
      record {
        complete = complete;
        admissible = admissible;
        only = λ other ends. same_ends other end ends (record { run = run; complete = complete; admissible = admissible });
      }

  pub judged_by_steps : (run : List ℕ) (reached : Control) (steps : List Taken) → RunsBy p begun run reached steps →
      (j : Judged) → JudgesSteps p steps reached j → Judges p begun run j
  judged_by_steps run reached steps by (judged.NotRun i) h = absurd h
  judged_by_steps run reached steps by (judged.NotAdmissible i j) h =
      record { reached = reached; runs = by.runs; first = subst (λ l. IsFirstForbidden (ForkedApart p) l i j) by.steps_are h }
  judged_by_steps run reached steps by judged.Incomplete h =
      record {
        reached = reached;
        runs = by.runs;
        admissible = subst (IsOrdered (ForkedApart p)) by.steps_are h.admissible;
        someone = h.someone;
        enabled = h.enabled;
      }
  judged_by_steps run reached steps by (judged.Ends end) h =
      leads_to_end run end
      (record {
        runs = subst (λ (d : Control). replay (machine p) run begun ≡ Some d) (sym h.same) by.runs;
        over = subst (IsOver (machine p)) (sym h.same) h.over;
      })
      (subst (IsOrdered (ForkedApart p)) by.steps_are h.admissible)

  pub judged_run : (run : List ℕ) (reached : Control) (kept steps : List Taken) → RunsBy p begun run reached kept → steps ≡ kept →
      (j : Judged) → JudgesSteps p steps reached j → (c : Control) → begun ≡ c → IsJudgement p c run j
  judged_run run reached kept steps by same j h c is =
      subst (λ (b : Control). IsJudgement p b run j) is
      (one_judgement p begun run j (judged_by_steps run reached kept by j (subst (λ (s : List Taken). JudgesSteps p s reached j) same h)))
