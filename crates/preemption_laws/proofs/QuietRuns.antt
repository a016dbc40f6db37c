-- What is beside a monitor with a delayed test to make stays low, while the core chart takes steps and the threads of its graph catch up.
use Rattle.std.proofs.Common.{◌≡◌, ◌≢◌, ℕ, true, false, not, Some, List, Contains, ⊎_elim, sym, ap, subst, ◌∙◌}
use Rattle.std.proofs.lemmas.Bool.{not-true}
use Rattle.sc_values.specs.Runs.{replay}
use Rattle.sc_graph.specs.declared.control.Control.{Control}
use Rattle.sc_graph.specs.declared.tables.Tables.{Tables}
use Rattle.sc_graph.specs.declared.control.Status.TheVariants as status
use Rattle.sc_graph.specs.Control.{status_of}
use Rattle.sc_graph.specs.Machine as graph
use Rattle.sc_graph.specs.Program.{Program}
use Rattle.sc_graph.specs.Tables.{priority}
use Rattle.sc_graph.specs.Valid.{IsValid}
use Rattle.tick_laws.proofs.Lists.{list_all_at}
use Rattle.core_charts.specs.declared.features.Features.TheVariants as features
use Rattle.core_charts.specs.Aborts.{has_aborts}
use Rattle.core_charts.specs.Chart.{Chart}
use Rattle.core_charts.specs.Rules.{IsChart}
use Rattle.chart_machine.specs.declared.standing.Standing.TheVariants as at
use Rattle.chart_machine.specs.declared.standing.Configuration.{Configuration}
use Rattle.chart_machine.specs.declared.table.Table.{Table}
use Rattle.chart_machine.specs.Table.{table}
use Rattle.chart_machine.specs.Turns.{standing_of, has_work, inside_is_done, inside}
use Rattle.chart_machine.specs.Steps.{step}
use Rattle.scl.specs.declared.program.Scl.{Scl}
use Rattle.scl.specs.Numbering.{numbered}
use Rattle.scl_graph.specs.Graph.{program_of}
use Rattle.abort_expansion.specs.Expansion.{expanded}
use Rattle.chart_lowering_laws.specs.Laws.{IsLowering}
use Rattle.chart_lowering_laws.specs.Stands.{Followed}
use Rattle.chart_machine_laws.proofs.LyingIn.{IsNested, around, holder, head_in}
use Rattle.compiled_charts_laws.proofs.LateTests.{is_late}
use Rattle.abort_expansion_laws.specs.CoreRows.{own, IsState, Images, CoreRows}
use Rattle.abort_expansion_laws.proofs.ChecksUpTo.{strong_around}
use Rattle.abort_expansion_laws.proofs.KnownVariables.{stepped}
use Rattle.abort_expansion_laws.proofs.QuietBegins.{LoweredTests, Beside, late_works}
use Rattle.abort_expansion_laws.proofs.RowsOfCharts as whole
use Rattle.abort_expansion_laws.proofs.StageReached.{inside_in}
use Rattle.abort_expansion_laws.proofs.StrongTestsQuiet.{along}
use Rattle.abort_expansion_laws.proofs.TicksOfCharts as ticks
use Rattle.preemption_laws.specs.StepNodes.{Alike}
use Rattle.preemption_laws.proofs.GraphRuns.{KeptByFollowing}
use Rattle.preemption_laws.proofs.MonitorsLow.{lowered, Stays, MonitorsQuiet}
use Rattle.preemption_laws.proofs.StepNodes.{AllCome}

module _ (c : Chart) (rules : IsChart features.Extended c) (core_rules : IsChart features.Core (expanded c)) (p : Scl) (q : Tables)
    (low : IsLowering (expanded c) p) (valid : IsValid (program_of (numbered p)) q)
    (lowered_tests : LoweredTests (table (expanded c)) (program_of (numbered p)) (Alike (expanded c) p) (lowered c rules core_rules p q low valid))
    (earlier : (d next : Configuration) (t g : ℕ) → step (table (expanded c)) t d ≡ Some next → is_late (standing_of next g) ≡ true →
    is_late (standing_of d g) ≡ true) where
  abbrev k : Table
  k = table c

  abbrev core : Table
  core = table (expanded c)

  abbrev i : Images
  i = ticks.i c rules core_rules

  abbrev rows : CoreRows k core i
  rows = ticks.rows c rules core_rules

  abbrev tree : IsNested core
  tree = (whole.core_tree c rules core_rules).nested

  abbrev G : Program
  G = program_of (numbered p)

  abbrev Quiet : Configuration → Control → Type 0
  Quiet = MonitorsQuiet c rules core_rules p q low valid lowered_tests earlier

  abbrev home : ℕ → ℕ
  home o = i.thread_of (holder k o)

  abbrev join : ℕ → ℕ
  join o = (lowered c rules core_rules p q low valid).join_of (i.main_of o)

  -- the holder takes no step while its monitor has a delayed test to make
  holder_idle : (d next : Configuration) (m : Control) (o : ℕ) → Alike (expanded c) p d m → IsState k o → has_aborts (own k o) ≡ true →
      is_late (standing_of d (i.watcher_of o)) ≡ true → status_of m (home o) ≡ status.Waiting (join o) → step core (home o) d ≡ Some next → ⊥
  holder_idle d next m o alike there has late waits steps =
      let within = (lowered c rules core_rules p q low valid).waits_back d m (home o) (i.main_of o) alike waits in
      let done : inside_is_done core d (at.Within (i.main_of o) within.0) ≡ true =
      ap (inside_is_done core d) (sym within.1) ∙ (stepped core (home o) d next steps).done in
      let image = rows.watcher o there has in
      let inner : Contains (inside core (i.main_of o)) (i.watcher_of o) =
      inside_in core (i.main_of o) (i.watcher_of o) image.there
      (subst (λ zs. Contains zs (i.main_of o)) (sym image.encloses) (head_in (i.main_of o) (around core (home o)))) in
      let idle : has_work core d (standing_of d (i.watcher_of o)) ≡ false =
      not-true (has_work core d (standing_of d (i.watcher_of o)))
      (list_all_at (λ r. not (has_work core d (standing_of d r))) (inside core (i.main_of o)) (i.watcher_of o) done inner) in
      let wrong : true ≡ false = sym (late_works core d (standing_of d (i.watcher_of o)) late) ∙ idle in absurd cc

  -- along a run in which it takes no step
  goes_quiet : (d : Configuration) (m n : Control) (run : List ℕ) (o g : ℕ) → replay (graph.machine G) run m ≡ Some n →
      ((u : ℕ) → Contains run u → u ≢ home o) → Stays c rules core_rules p q low valid lowered_tests earlier o g m →
      Stays c rules core_rules p q low valid lowered_tests earlier o g n
  goes_quiet d m n run o g leads others before =
      along G q valid
      (Beside k core i rows tree G q valid (Alike (expanded c) p) (lowered c rules core_rules p q low valid) lowered_tests earlier o) (home o) (join o)
      (priority q g) (strong_around k o) (λ u child. child.0) run m n others leads before

  -- a step of the core chart
  pub steps_keep : KeptByFollowing (expanded c) p q low valid Quiet
  steps_keep d next m t alike steps quiet o there has late g raises_it =
      goes_quiet d m f.last f.run o g f.leads nobody before
    where
      f : Followed core G (Alike (expanded c) p) next m t
      f = (lowered c rules core_rules p q low valid).follow d next m t alike steps

      was_late : is_late (standing_of d (i.watcher_of o)) ≡ true
      was_late = earlier d next t (i.watcher_of o) steps late

      before : Stays c rules core_rules p q low valid lowered_tests earlier o g m
      before = quiet o there has was_late g raises_it

      nobody : (u : ℕ) → Contains f.run u → u ≢ home o
      nobody u inside same =
          ⊎_elim (λ is. holder_idle d next m o alike there has was_late before.waits (subst (λ v. step core v d ≡ Some next) (sym is ∙ same) steps))
          (λ awake. awake (join o) (ap (status_of m) same ∙ before.waits)) (f.by u inside)

  -- and the threads that catch up
  pub coming_keeps : (d : Configuration) (m : Control) (come : AllCome (expanded c) p low q valid d m) → Quiet d m → Quiet d come.nodes.last
  coming_keeps d m come quiet o there has late n raises_it =
      let before : Stays c rules core_rules p q low valid lowered_tests earlier o n m = quiet o there has late n raises_it in
      goes_quiet d m come.nodes.last come.nodes.run o n come.nodes.leads
      (λ u inside same. come.awake u (join o) inside (ap (status_of m) same ∙ before.waits)) before
