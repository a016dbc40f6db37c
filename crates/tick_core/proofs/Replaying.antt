-- A run that goes on by one step, and what the law of one end says of it.
use Rattle.std.proofs.Common.{◌≡◌, ℕ, List, [], ◌∷◌, ◌++◌, Option, Some, None, refl, sym, ap, subst, subst₂, ◌∙◌, ◌+◌, ◌<◌, length, take, get_or}
use Rattle.std.proofs.lemmas.Option.{same_Some}
use Rattle.std.proofs.lemmas.List.{map-append, take_more}
use Rattle.std.specs.Prelude.{IsSome}
use Rattle.sc_values.specs.Access.{Access}
use Rattle.sc_values.specs.Runs.{Act, replay, acts, act_of, acts_after}
use Rattle.sc_graph.specs.declared.control.Control.{Control}
use Rattle.sc_graph.specs.declared.tables.Tables.{Tables}
use Rattle.sc_graph.specs.Program.{Program}
use Rattle.sc_graph.specs.Machine.{machine}
use Rattle.sc_graph.specs.Steps.{step}
use Rattle.sc_graph.specs.Valid.{IsValid}
use Rattle.tick_laws.specs.OneEnd.{OneEnd, OfEach}
use Rattle.tick_laws.proofs.Lists.{and_then_some}
use Rattle.tick_laws.proofs.RunsOn.{replay_push}
use Rattle.tick_laws.proofs.Final.{one_end_of_tick}
use Rattle.tick_core.specs.declared.judging.replaying.Taken.{Taken}
use Rattle.tick_core.specs.State.{BeginsTick}
use Rattle.tick_core.specs.Inside.Judging.{act_at, StepsAt, RunsBy}

nothing_after : (p : Program) (o : Option Control) → acts_after (machine p) (acts (machine p) []) o ≡ []
nothing_after p None = refl
nothing_after p (Some d) = refl

-- the steps of a run that goes on
pub acts_push : (p : Program) (run : List ℕ) (t : ℕ) (c d : Control) → replay (machine p) run c ≡ Some d →
    acts (machine p) (run ++ t ∷ []) c ≡ acts (machine p) run c ++ act_of (machine p) d t ∷ []
acts_push p [] t c d h =
    ap (λ l. act_of (machine p) c t ∷ l) (nothing_after p (step p t c)) ∙ ap (λ e. act_of (machine p) e t ∷ []) (same_Some c d h)
acts_push p (u ∷ run) t c d h =
    let f = and_then_some (replay (machine p) run) (step p u c) d h in
    ap (λ l. act_of (machine p) c u ∷ l)
    (ap (acts_after (machine p) (acts (machine p) (run ++ t ∷ []))) f.1
    ∙ acts_push p run t f.0 d f.2
    ∙ ap (λ l. l ++ act_of (machine p) d t ∷ []) (sym (ap (acts_after (machine p) (acts (machine p) run)) f.1)))

pub runs_push : (p : Program) (begun c d : Control) (run : List ℕ) (t n : ℕ) (steps : List Taken) → RunsBy p begun run c steps → StepsAt p c t n d →
    RunsBy p begun (run ++ t ∷ []) d (steps ++ record { thread = t; node = n } ∷ [])
runs_push p begun c d run t n steps by at =
    let s : Taken = record { thread = t; node = n } in
    let act : Access → Act = λ a. record { thread = t; access = a } in
    record {
      runs = replay_push p run t begun c d by.runs at.stepped;
      steps_are =
          map-append (act_at p) steps (s ∷ [])
          ∙ ap (λ l. l ++ act_at p s ∷ []) by.steps_are
          ∙ ap (λ a. acts (machine p) run begun ++ act a ∷ []) (sym at.access)
          ∙ sym (acts_push p run t begun c by.runs);
    }

pub law_of_tick : (p : Program) (q : Tables) (begun : Control) → IsValid p q → BeginsTick p begun → OneEnd p q begun
law_of_tick p q begun valid begins =
    subst (OneEnd p q) (sym begins.is) (one_end_of_tick p q begins.resting begins.inputs valid begins.rests begins.accepted)

pub reached_by : (p : Program) (q : Tables) (begun : Control) → IsValid p q → BeginsTick p begun → (run : List ℕ) (c : Control) (steps : List Taken) →
    RunsBy p begun run c steps → OfEach p q run c
reached_by p q begun valid begins run c steps by = (law_of_tick p q begun valid begins).of_each run c by.runs

pub some_step : {c : Option Control} → ((e : Control) × (c ≡ Some e)) → IsSome c
some_step found = subst IsSome (sym found.1) refl

-- the run goes on by its next thread
pub runs_more : (p : Program) (begun c d : Control) (run : List ℕ) (at n : ℕ) (steps more : List Taken) → at < length run
    → RunsBy p begun (take at run) c steps →
    StepsAt p c (get_or run at 0) n d → more ≡ steps ++ record { thread = get_or run at 0; node = n } ∷ [] → RunsBy p begun (take (at + 1) run) d more
runs_more p begun c d run at n steps more within by stepped is =
    subst₂ (λ (l : List ℕ) (s : List Taken). RunsBy p begun l d s) (sym (take_more run at 0 within)) (sym is)
    (runs_push p begun c d (take at run) (get_or run at 0) n steps by stepped)
