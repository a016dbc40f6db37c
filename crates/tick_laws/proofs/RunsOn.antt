-- Runs that go on by one step.
use Rattle.std.proofs.Common.{◌≡◌, ℕ, Some, List, [], ◌∷◌, ◌++◌, option_map, option_and_then, refl, sym, ap, subst, ◌∙◌}
use Rattle.sc_values.specs.Runs.{replay}
use Rattle.sc_graph.specs.declared.tables.Tables.{Tables}
use Rattle.sc_graph.specs.declared.control.Control.{Control}
use Rattle.sc_graph.specs.Program.{Program}
use Rattle.sc_graph.specs.Machine.{machine}
use Rattle.sc_graph.specs.Priority.{Leads, PriorityRun}
use Rattle.sc_graph.specs.Steps.{Effect, after, effect, step}
use Rattle.tick_laws.proofs.Lists.{map_some, and_then_some}

-- a defined step is that of an effect
pub record SteppedBy (p : Program) (t : ℕ) (c d : Control) : Type 0 where
  pub e : Effect
  pub is : effect p c t ≡ Some e
  pub leads : after e c ≡ d

pub stepped_by : (p : Program) (t : ℕ) (c d : Control) → step p t c ≡ Some d → SteppedBy p t c d
stepped_by p t c d h = let m = map_some (λ e. after e c) (effect p c t) d h in record { e = m.0; is = m.1; leads = m.2 }

pub effect_steps : (p : Program) (t : ℕ) (c : Control) (e : Effect) → effect p c t ≡ Some e → step p t c ≡ Some (after e c)
effect_steps p t c e h = ap (option_map (λ e. after e c)) h

-- two runs one after the other
pub replay_append : (p : Program) (run more : List ℕ) (c d : Control) → replay (machine p) run c ≡ Some d → replay (machine p) (run ++ more) c
    ≡ replay (machine p) more d
replay_append p [] more c d h = ap (λ o. option_and_then (replay (machine p) more) o) h
replay_append p (t ∷ run) more c d h =
    let f = and_then_some (replay (machine p) run) (step p t c) d h in
    ap (option_and_then (replay (machine p) (run ++ more))) f.1 ∙ replay_append p run more f.0 d f.2

pub replay_push : (p : Program) (run : List ℕ) (t : ℕ) (c d e : Control) → replay (machine p) run c ≡ Some d → step p t d ≡ Some e
    → replay (machine p) (run ++ t ∷ []) c ≡ Some e
replay_push p run t c d e h k = replay_append p run (t ∷ []) c d h ∙ ap (option_and_then (replay (machine p) [])) k

pub priority_push : (p : Program) (q : Tables) (run : List ℕ) (t : ℕ) (c d e : Control) → PriorityRun p q run c d → Leads p q d t → step p t d ≡ Some e
    → PriorityRun p q (run ++ t ∷ []) c e
priority_push p q [] t c d e h leads k = (subst (λ d. Leads p q d t) (sym h) leads, (e, (subst (λ d. step p t d ≡ Some e) (sym h) k), refl))
priority_push p q (u ∷ run) t c d e h leads k = (h.0, (h.1.0, h.1.1, priority_push p q run t h.1.0 d e h.1.2 leads k))

-- a priority run is a run
pub priority_replay : (p : Program) (q : Tables) (run : List ℕ) (c d : Control) → PriorityRun p q run c d → replay (machine p) run c ≡ Some d
priority_replay p q [] c d h = ap Some h
priority_replay p q (t ∷ run) c d h = ap (option_and_then (replay (machine p) run)) h.1.1 ∙ priority_replay p q run h.1.0 d h.1.2
