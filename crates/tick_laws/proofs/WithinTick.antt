-- The laws of the steps within a tick: what the other files show of one step, gathered, and along runs.
use Rattle.std.proofs.Common.{◌≡◌, ℕ, Some, List, [], ◌∷◌, sym, subst}
use Rattle.std.proofs.lemmas.Option.{same_Some}
use Rattle.sc_values.specs.Runs.{replay}
use Rattle.sc_graph.specs.declared.control.Control.{Control}
use Rattle.sc_graph.specs.declared.tables.Tables.{Tables}
use Rattle.sc_graph.specs.Program.{Program}
use Rattle.sc_graph.specs.Control.{IsEnabled}
use Rattle.sc_graph.specs.Steps.{after, step}
use Rattle.sc_graph.specs.Machine.{machine}
use Rattle.sc_graph.specs.Tick.{IsConfiguration}
use Rattle.sc_graph.specs.Valid.{IsValid}
use Rattle.tick_laws.specs.WithinTick.{Tops, NoHigher, LawsWithinTick}
use Rattle.tick_laws.proofs.Lists.{and_then_some}
use Rattle.tick_laws.proofs.Formed.{valid_formed}
use Rattle.tick_laws.proofs.Views.{enabled_view}
use Rattle.tick_laws.proofs.RunsOn.{SteppedBy, stepped_by}
use Rattle.tick_laws.proofs.ConfigurationKept.{configuration_kept}
use Rattle.tick_laws.proofs.Progress.{step_defined}
use Rattle.tick_laws.proofs.Falling.{never_higher, low_kept}
use Rattle.tick_laws.proofs.Serving.{start_paid}
use Rattle.tick_laws.proofs.Finishing.{reached}

module _ (p : Program) (q : Tables) (valid : IsValid p q) where
  step_kept : (c d : Control) (t : ℕ) → IsConfiguration p c → step p t c ≡ Some d → IsConfiguration p d
  step_kept c d t ok h =
      let s : SteppedBy p t c d = stepped_by p t c d h in
      subst (IsConfiguration p) s.leads (configuration_kept p (valid_formed p q valid) c t s.e ok s.is)

  step_falls : (c d : Control) (t u : ℕ) → IsConfiguration p c → step p t c ≡ Some d → IsEnabled p d u → NoHigher p q c d t u
  step_falls c d t u ok h on =
      let s : SteppedBy p t c d = stepped_by p t c d h in
      subst (λ d. NoHigher p q c d t u) s.leads
      (never_higher p q valid c ok t s.e s.is u (enabled_view p (after s.e c) u (subst (λ d. IsEnabled p d u) (sym s.leads) on)))

  step_tops : (c d : Control) (t top : ℕ) → IsConfiguration p c → step p t c ≡ Some d → Tops p q top c → Tops p q top d
  step_tops c d t top ok h low =
      let s : SteppedBy p t c d = stepped_by p t c d h in
      subst (Tops p q top) s.leads (low_kept p q valid top c ok t s.e s.is low)

  run_kept : (run : List ℕ) (c d : Control) → IsConfiguration p c → replay (machine p) run c ≡ Some d → IsConfiguration p d
  run_kept [] c d ok h = subst (IsConfiguration p) (same_Some c d h) ok
  run_kept (t ∷ run) c d ok h =
      let mid = and_then_some (replay (machine p) run) (step p t c) d h in
      run_kept run mid.0 d (step_kept c mid.0 t ok mid.1) mid.2

  run_tops : (run : List ℕ) (c d : Control) (top : ℕ) → IsConfiguration p c → replay (machine p) run c ≡ Some d → Tops p q top c → Tops p q top d
  run_tops [] c d top ok h low = subst (Tops p q top) (same_Some c d h) low
  run_tops (t ∷ run) c d top ok h low =
      let mid = and_then_some (replay (machine p) run) (step p t c) d h in
      run_tops run mid.0 d top (step_kept c mid.0 t ok mid.1) mid.2 (step_tops c mid.0 t top ok mid.1 low)

pub laws_within_tick : LawsWithinTick
laws_within_tick p q valid =
    record {
      defined = λ c t ok on. step_defined p q valid c ok t (enabled_view p c t on);
      kept = run_kept p q valid;
      falls = step_falls p q valid;
      tops = run_tops p q valid;
      paid = λ run c d bound spent ok paid h. (reached p q valid run c d bound spent ok paid h).paid;
      begins = λ c inputs rests accepted. start_paid p q valid inputs c rests accepted;
    }
