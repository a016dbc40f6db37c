-- A step of a core chart is followed in the graph of its lowering: its thread leaves the join at which it waits, and nobody else leaves one.
use Rattle.std.proofs.Common.{◌≡◌, ◌≢◌, ℕ, zero, suc, ◌⊎◌, inl, inr, ⊎_elim, Bool, true, false, Option, Some, None, List, [], ◌∷◌, map}
use Rattle.std.proofs.Common.{slice_get, unwrap_or, option_and_then, Contains, refl, sym, ap, subst, ◌∙◌}
use Rattle.std.proofs.lemmas.Option.{same_Some}
use Rattle.sc_values.specs.Runs.{Machine, Act, replay, act_of}
use Rattle.sc_graph.specs.declared.control.Control.{Control}
use Rattle.sc_graph.specs.declared.control.Status.TheVariants as status
use Rattle.sc_graph.specs.Program.{Program}
use Rattle.sc_graph.specs.Control.{status_of}
use Rattle.sc_graph.specs.Machine as graph
use Rattle.sc_graph.specs.Steps as of_nodes
use Rattle.sc_graph.specs.Tick.{IsConfiguration}
use Rattle.sc_graph.specs.Valid.{IsFormed}
use Rattle.tick_laws.proofs.Lists.{map_some, contains_none, contains_cons, contains_head, contains_tail}
use Rattle.tick_laws.proofs.Views.{does}
use Rattle.tick_laws.proofs.StepMoves.{StepMoves, step_moves}
use Rattle.tick_laws.proofs.ConfigurationKept.{after_other, configuration_kept}
use Rattle.core_charts.specs.declared.region.Transition.{Transition}
use Rattle.core_charts.specs.Chart.{Chart}
use Rattle.chart_machine.specs.declared.standing.Standing.{Standing}
use Rattle.chart_machine.specs.declared.standing.Standing.TheVariants as stand
use Rattle.chart_machine.specs.declared.standing.Configuration.{Configuration}
use Rattle.chart_machine.specs.declared.table.Table.{Table}
use Rattle.chart_machine.specs.Table.{table, region_at}
use Rattle.chart_machine.specs.Turns.{standing_of}
use Rattle.chart_machine.specs.Steps.{step}
use Rattle.chart_machine.specs.Machine as chart
use Rattle.scl.specs.declared.program.Scl.{Scl}
use Rattle.scl.specs.Numbering.{Numbered, numbered}
use Rattle.scl.specs.Meaning.{State, Doing, Away, Todo, Forked, Resting, Resuming, Finished, doing}
use Rattle.scl.specs.Meaning as text
use Rattle.scl_graph.specs.Graph.{program_of}
use Rattle.scl_graph_laws.specs.Standing.{standing}
use Rattle.scl_graph_laws.specs.Mirrors.{leads}
use Rattle.scl_graph_laws.specs.Keeps.{Keeps}
use Rattle.scl_graph_laws.specs.Keeps.{Corresponds as StandsInGraph}
use Rattle.scl_graph_laws.proofs.Alike.{from_both}
use Rattle.scl_graph_laws.proofs.RunsKept.{program_keeps_runs}
use Rattle.chart_lowering_laws.specs.Layout.{Layout, IsRegionOf}
use Rattle.chart_lowering_laws.specs.Corresponds.{Live, Giving, Nothing, Ready, Turn, Past, given, Fits, Corresponds}
use Rattle.chart_lowering_laws.specs.Follows.{AnswersBy, EachMay, HoldsAfter}
use Rattle.chart_lowering_laws.specs.Keeps.{IsForked, LeavesJoins, KeepsSteps}
use Rattle.chart_lowering_laws.specs.Laws.{IsLowering}
use Rattle.chart_lowering_laws.specs.Marks.{layout}
use Rattle.chart_lowering_laws.specs.Shown.{move, moves, moves_after, shown_acts, Showing}
use Rattle.chart_lowering_laws.specs.WhichShow.{shows_standing, region_shows, thread_shows}
use Rattle.chart_lowering_laws.specs.Stands.{Followed}
use Rattle.chart_lowering_laws.proofs.NumberTests.{same_or_not}
use Rattle.chart_lowering_laws.proofs.Following.{first_step}
use Rattle.chart_lowering_laws.proofs.Lowered.{chart_is_lowered}
use Rattle.chart_lowering_laws.proofs.Showing.{region_of}
use Rattle.chart_lowering_laws.proofs.TicksKept.{keeps_runs}
use Rattle.compiled_charts_laws.specs.Stands.{StandAlike}

-- ---- where threads stand

pub standing_in : (ds : List Doing) (t : ℕ) → unwrap_or (slice_get (map standing ds) t) status.Absent ≡ standing (unwrap_or (slice_get ds t) Away)
standing_in [] t = refl
standing_in (d ∷ ds) zero = refl
standing_in (d ∷ ds) (suc t) = standing_in ds t

pub status_is : (p : Numbered) (s : State) (m : Control) → StandsInGraph p s m → (t : ℕ) → status_of m t ≡ standing (doing s t)
status_is p s m x t = ap (λ z. unwrap_or (slice_get z t) status.Absent) x.statuses ∙ standing_in s.threads t

pub waits_forked : (d : Doing) (j : ℕ) → standing d ≡ status.Waiting j → IsForked d
waits_forked (Forked n branches rest) j h = tt
waits_forked Away j h = absurd (cc)
waits_forked (Todo todo) j h = absurd (cc)
waits_forked (Resting n rest) j h = absurd (cc)
waits_forked (Resuming n rest) j h = absurd (cc)
waits_forked Finished j h = absurd (cc)

-- ---- a run that shows a step has it taken by its thread

shown_by : (n : Machine) (shows : Showing n) (run : List ℕ) (b : n.Configuration) (a : Act) → shown_acts (moves n shows run b) ≡ a ∷ [] →
    Contains run a.thread
shown_by n shows [] b a is = let none : [] ≡ a ∷ [] = is in absurd cc
shown_by n shows (u ∷ run) b a is = by (λ e rest. shown_by n shows run e a rest) (shows b u) is
  where
    later : ((e : n.Configuration) → shown_acts (moves n shows run e) ≡ a ∷ [] → Contains run a.thread) → (o : Option n.Configuration) →
        shown_acts (moves_after n (moves n shows run) o) ≡ a ∷ [] → Contains run a.thread
    later further None rest = let none : [] ≡ a ∷ [] = rest in absurd cc
    later further (Some e) rest = further e rest

    by : ((e : n.Configuration) → shown_acts (moves n shows run e) ≡ a ∷ [] → Contains run a.thread) → (shown : Bool) →
        shown_acts (move shown (act_of n b u) ∷ moves_after n (moves n shows run) (n.step u b)) ≡ a ∷ [] → Contains (u ∷ run) a.thread
    by further true rest =
        let first : act_of n b u ∷ shown_acts (moves_after n (moves n shows run) (n.step u b)) ≡ a ∷ [] = rest in
        let same : act_of n b u ≡ a = cc in
        subst (Contains (u ∷ run)) (ap (λ (z : Act). z.thread) same) (contains_head u run)
    by further false rest = contains_tail u a.thread run (later further (n.step u b) rest)

module _ (c : Chart) (p : Scl) (low : IsLowering c p) (formed : IsFormed (program_of (numbered p))) where
  abbrev K : Table
  K = table c

  abbrev P : Numbered
  P = numbered p

  abbrev G : Program
  G = program_of P

  abbrev L : Layout
  L = layout c P.root

  abbrev Alike : Configuration → Control → Type 0
  Alike = StandAlike K P L G

  steps : KeepsSteps K P L
  steps = (keeps_runs K P L (chart_is_lowered c p low)).steps

  nodes : Keeps P G
  nodes = program_keeps_runs p low.rules low.no_loop

  -- ---- a step of the chart is followed

  replay_kept : (run : List ℕ) (m last : Control) → IsConfiguration G m → replay (graph.machine G) run m ≡ Some last → IsConfiguration G last
  replay_kept [] m last ok h = subst (IsConfiguration G) (same_Some m last h) ok
  replay_kept (u ∷ run) m last ok h =
      let s : (f : Control) × (of_nodes.step G u m ≡ Some f) × (replay (graph.machine G) run f ≡ Some last) = first_step (graph.machine G) u run m last h in
      let e = map_some (λ z. of_nodes.after z m) (of_nodes.effect G m u) s.0 s.1 in
      replay_kept run s.0 last (subst (IsConfiguration G) e.2 (configuration_kept G formed m u e.0 ok e.1)) s.2

  -- one step of the text, in the graph
  step_too : (v : ℕ) (s e : State) (m : Control) → StandsInGraph P s m → text.step P v s ≡ Some e →
      (f : Control) × (of_nodes.step G v m ≡ Some f) × StandsInGraph P e f
  step_too v s e m x goes =
      let r : (f : Control) × (replay (graph.machine G) (v ∷ []) m ≡ Some f) × StandsInGraph P e f = from_both (StandsInGraph P)
      (replay (text.machine P) (v ∷ []) s) (replay (graph.machine G) (v ∷ []) m) e (nodes.goes_on.runs (v ∷ []) s m x)
      (ap (option_and_then (replay (text.machine P) [])) goes) in
      let h : (f : Control) × (of_nodes.step G v m ≡ Some f) × (replay (graph.machine G) [] f ≡ Some r.0) = first_step (graph.machine G) v [] m r.0 r.1 in
      (r.0, h.1 ∙ h.2, r.2)

  -- who waits is moved by nobody else
  waits_still : (m f : Control) (v u j : ℕ) → IsConfiguration G m → of_nodes.step G v m ≡ Some f → u ≢ v → status_of m u ≡ status.Waiting j →
      status_of f u ≡ status.Waiting j
  waits_still m f v u j ok goes differ waits =
      let e = map_some (λ z. of_nodes.after z m) (of_nodes.effect G m v) f goes in
      let moves : StepMoves G m v e.0 = step_moves G formed m ok v e.0 (does G m v e.0 e.1) in
      subst (λ z. status_of z u ≡ status.Waiting j) e.2
      (after_other G formed m v e.0 moves u differ (λ child. moves.was_idle u j child waits) ∙ waits)

  abbrev Free : ℕ → Control → ℕ → Type 0
  Free t m u = (u ≡ t) ⊎ ((j : ℕ) → status_of m u ≢ status.Waiting j)

  by_run : (t : ℕ) (run : List ℕ) (s last : State) (m : Control) → StandsInGraph P s m → IsConfiguration G m → replay (text.machine P) run s ≡ Some last →
      EachMay (text.machine P) (LeavesJoins t) run s → (u : ℕ) → Contains run u → Free t m u
  by_run t [] s last m x ok leads each u inside = absurd (contains_none u inside)
  by_run t (v ∷ run) s last m x ok leads each u inside = ⊎_elim (λ same. now (sym same)) (λ tail. ⊎_elim now
      (further (λ e f y kept goes may. by_run t run e last f y kept goes may u tail)) (same_or_not u v))
      (contains_cons v u run inside)
    where
      now : u ≡ v → Free t m u
      now same =
          ⊎_elim (λ own. inl (same ∙ own))
          (λ free. inr (λ j waits. free (subst (λ z. IsForked (doing s z)) same (waits_forked (doing s u) j (sym (status_is P s m x u) ∙ waits))))) each.0

      further : ((e : State) (f : Control) → StandsInGraph P e f → IsConfiguration G f → replay (text.machine P) run e ≡ Some last →
          EachMay (text.machine P) (LeavesJoins t) run e → Free t f u) → u ≢ v → Free t m u
      further rest_free differ =
          let g : (e : State) × (text.step P v s ≡ Some e) × (replay (text.machine P) run e ≡ Some last) = first_step (text.machine P) v run s last leads in
          let f : (f : Control) × (of_nodes.step G v m ≡ Some f) × StandsInGraph P g.0 f = step_too v s g.0 m x g.1 in
          let e = map_some (λ z. of_nodes.after z m) (of_nodes.effect G m v) f.0 f.1 in
          let ok_too : IsConfiguration G f.0 = subst (IsConfiguration G) e.2 (configuration_kept G formed m v e.0 ok e.1) in
          let rest : EachMay (text.machine P) (LeavesJoins t) run g.0 = subst (HoldsAfter (text.machine P) (EachMay (text.machine P) (LeavesJoins t) run)) g.1
          each.1 in
          ⊎_elim inl (λ free. inr (λ j waits. free j (waits_still m f.0 v u j ok f.1 differ waits))) (rest_free g.0 f.0 f.2 ok_too g.2 rest)

  -- a step shows where the thread waits at a join: its region stands in no simple state
  forked_shows : (d : Configuration) (s : State) (t : ℕ) → Corresponds K P L d s → IsForked (doing s t) → region_shows d t ≡ true
  forked_shows d s t corr forked = by (standing_of d t) refl
    where
      none_live : (u : ℕ) (y : Transition) (tests : List Transition) (z : Doing) → Live K P.root L t (stand.Trying u (y ∷ tests)) z → IsForked z → ⊥
      none_live u y tests (Forked n branches rest) live waits = live
      none_live u y tests Away live waits = waits
      none_live u y tests (Todo todo) live waits = waits
      none_live u y tests (Resting n rest) live waits = waits
      none_live u y tests (Resuming n rest) live waits = waits
      none_live u y tests Finished live waits = waits

      none_fits : (u : ℕ) (y : Transition) (tests : List Transition) (g : Giving) → Fits K P.root L t g (stand.Trying u (y ∷ tests)) (doing s t) → ⊥
      none_fits u y tests Nothing fits = subst IsForked fits.1 forked
      none_fits u y tests Ready fits = subst IsForked fits.1 forked
      none_fits u y tests Past fits = subst IsForked fits.1 forked
      none_fits u y tests Turn fits = none_live u y tests (doing s t) fits.0 forked

      by : (x : Standing) → standing_of d t ≡ x → shows_standing (standing_of d t) ≡ true
      by (stand.Trying u (y ∷ tests)) is =
          let there : IsRegionOf K t =
          region_of K P L d s corr t (λ out. let wrong : stand.Trying u (y ∷ tests) ≡ stand.Outside = sym is ∙ out in absurd cc) in
          absurd (none_fits u y tests (given K d s (region_at K t).around)
          (subst (λ z. Fits K P.root L t (given K d s (region_at K t).around) z (doing s t)) is (corr.each t there)))
      by (stand.Trying u []) is = ap shows_standing is
      by stand.Outside is = ap shows_standing is
      by stand.Ended is = ap shows_standing is
      by (stand.Entering u tests) is = ap shows_standing is
      by (stand.Guarding u tests) is = ap shows_standing is
      by (stand.Within u tests) is = ap shows_standing is
      by (stand.Acting u effects place) is = ap shows_standing is

  pub follow : (d next : Configuration) (m : Control) (t : ℕ) → Alike d m → step K t d ≡ Some next → Followed K G Alike next m t
  follow d next m t x goes =
      let a : AnswersBy (text.machine P) thread_shows x.state (LeavesJoins t) (Corresponds K P L next)
      (shown_acts (move
      (region_shows d t) (act_of (chart.machine K) d t) ∷ [])) =
      steps.joins d next x.state t x.of_chart goes in
      let r : (f : Control) × (replay (graph.machine G) a.answers.run m ≡ Some f) × StandsInGraph P a.answers.end f = from_both (StandsInGraph P)
      (replay (text.machine P) a.answers.run x.state) (replay (graph.machine G) a.answers.run m) a.answers.end
      (nodes.goes_on.runs a.answers.run x.state m x.of_graph) a.answers.runs in
      record {
        run = a.answers.run;
        last = r.0;
        leads = r.1;
        stands = record {
          state = a.answers.end;
          of_chart = a.answers.good;
          of_graph = r.2;
          is_configuration = replay_kept a.answers.run m r.0 x.is_configuration r.1;
        };
        by = λ u inside. by_run t a.answers.run x.state a.answers.end m x.of_graph x.is_configuration a.answers.runs a.each u inside;
        leaves = λ j waits.
            shown_by (text.machine P) thread_shows a.answers.run x.state (act_of (chart.machine K) d t)
            (a.answers.shown
            ∙ ap (λ b. shown_acts (move b (act_of (chart.machine K) d t) ∷ []))
            (forked_shows d x.state t x.of_chart (waits_forked (doing x.state t) j (sym (status_is P x.state m x.of_graph t) ∙ waits))));
      }
