-- What a valid image gives of its core chart: within a tick no strong test is overwritten.
use Rattle.std.proofs.Common.{◌≡◌, ◌≢◌, ℕ, inl, inr, ⊎_elim, true, false, Some, List, [], ◌∷◌, refl, sym, ap, subst, ◌∙◌}
use Rattle.std.proofs.Common.{option_map}
use Rattle.std.proofs.Math.Logic.{∥∥₁_map}
use Rattle.std.proofs.lemmas.Grind.{not_there}
use Rattle.sc_values.specs.Access.{Access, Precedes, no_access}
use Rattle.sc_graph.specs.declared.control.Control.{Control}
use Rattle.sc_graph.specs.declared.tables.Tables.{Tables}
use Rattle.sc_graph.specs.Program.{Program}
use Rattle.sc_graph.specs.Tick.{Inputs, AreAccepted}
use Rattle.sc_graph.specs.Tick as graph_tick
use Rattle.sc_graph.specs.Valid.{IsValid}
use Rattle.tick_laws.proofs.Formed.{valid_formed}
use Rattle.tick_laws.proofs.Views.{only_if_some}
use Rattle.core_charts.specs.declared.features.Features.TheVariants as features
use Rattle.core_charts.specs.declared.region.Transition.{Transition}
use Rattle.core_charts.specs.Chart.{Chart}
use Rattle.core_charts.specs.Rules.{IsChart}
use Rattle.core_charts.specs.Aborts.{has_aborts}
use Rattle.core_charts.specs.Tests.{strong_aborts, closing_tests}
use Rattle.chart_machine.specs.declared.standing.Standing.{Standing}
use Rattle.chart_machine.specs.declared.standing.Standing.TheVariants as at
use Rattle.chart_machine.specs.declared.standing.Configuration.{Configuration}
use Rattle.chart_machine.specs.declared.table.Table.{Table}
use Rattle.chart_machine.specs.Table.{table}
use Rattle.chart_machine.specs.Turns.{standing_of, is_enabled}
use Rattle.chart_machine.specs.Steps.{step, after, change_of}
use Rattle.chart_machine.specs.Machine.{machine, start, woken, guarded_first}
use Rattle.scl.specs.declared.program.Scl.{Scl}
use Rattle.scl.specs.Numbering.{numbered}
use Rattle.scl.specs.Rules.{KeepsRules}
use Rattle.scl_graph.specs.Graph.{program_of}
use Rattle.abort_expansion.specs.Expansion.{expanded}
use Rattle.chart_lowering_laws.specs.Laws.{IsLowering}
use Rattle.chart_lowering_laws.specs.Marks.{layout}
use Rattle.chart_lowering_laws.specs.Stands.{Lowered}
use Rattle.compiled_charts_laws.specs.Stands.{StandAlike}
use Rattle.compiled_charts_laws.proofs.LateTests.{is_late}
use Rattle.compiled_charts_laws.proofs.Stands.{stand_alike, waits_there}
use Rattle.compiled_charts_laws.proofs.TestNodes.{test_node}
use Rattle.compiled_charts_laws.proofs.TickStarts as tick_starts
use Rattle.chart_machine_laws.specs.Tree.{holder}
use Rattle.abort_expansion_laws.specs.Preemption.{HasImage}
use Rattle.abort_expansion_laws.specs.Segments.{Follows}
use Rattle.abort_expansion_laws.specs.Stages.{Entry, Image, Watched, Silent, Correspondence, IsSpared, EachSpared}
use Rattle.abort_expansion_laws.specs.CoreRows.{own, IsState, Images, CoreRows}
use Rattle.abort_expansion_laws.proofs.CheckNodes.{wakes_low}
use Rattle.abort_expansion_laws.proofs.DelayedBefore.{late_before, first_prompt}
use Rattle.abort_expansion_laws.proofs.EachSpared.{each_spared}
use Rattle.abort_expansion_laws.proofs.TickRows.{alone_rows, start_rows, started_related}
use Rattle.abort_expansion_laws.proofs.LaterTicks.{chart_has_begun, never}
use Rattle.abort_expansion_laws.proofs.Owed.{Resting}
use Rattle.abort_expansion_laws.proofs.BetweenTicks.{RestsAlike, SparesTests}
use Rattle.abort_expansion_laws.proofs.QuietBegins.{LoweredTests, MonitorsLow, IsRaising, StaysLow, StaysQuiet, monitors_stay_low}
use Rattle.abort_expansion_laws.proofs.QuietBegins.{stays_quiet, quiet_begins, spared_quietly}
use Rattle.abort_expansion_laws.proofs.QuietAtStart.{starts_low}
use Rattle.abort_expansion_laws.proofs.RowsOfCharts as whole
use Rattle.abort_expansion_laws.proofs.StrongTestsQuiet.{ToldOf, precedes_writes, spares}
use Rattle.abort_expansion_laws.proofs.TicksOfCharts as ticks
use Rattle.abort_expansion_laws.proofs.ToldSteps.{ImageTold, Told, fork_around}
use Rattle.abort_expansion_laws.proofs.WokenConfigurations.{woken_at}
use Rattle.abort_expansion_laws.proofs.FlagStages.{FlagStages}

-- ---- that it is spared is a denial

module _ (k : Correspondence) where
  stable_spared : (r : ℕ) (a : Access) (log : List Entry) → ¬ (¬ IsSpared k r a log) → IsSpared k r a log
  stable_spared r a [] often = tt
  stable_spared r a (y ∷ log) often = (
    λ o. often (λ s. s.0 o),
    λ other. stable_spared r a log (λ none. often (λ s. none (s.1 other))),
  )

  stable_all : (log : List Entry) → ¬ (¬ EachSpared k log) → EachSpared k log
  stable_all [] often = tt
  stable_all (Image q b ∷ log) often = stable_all log often
  stable_all (Silent t at b ∷ log) often = stable_all log often
  stable_all (Watched r g stage a ∷ log) often = (
    λ first. stable_spared r a log (λ none. often (λ s. none (s.0 first))),
    stable_all log (λ none. often (λ s. none s.1)),
  )

-- ---- who comes to stand in an open superstate when it wakes has no strong aborts

opened_plain : (k : Table) (x : Standing) (o : ℕ) (tests : List Transition) → ((u : ℕ) (others : List Transition) → x ≢ at.Guarding u others) →
    woken k x ≡ at.Within o tests → strong_aborts (own k o) ≡ []
opened_plain k at.Outside o tests never e = absurd cc
opened_plain k at.Ended o tests never e = absurd cc
opened_plain k (at.Trying u others) o tests never e = absurd cc
opened_plain k (at.Acting u effects p) o tests never e = absurd cc
opened_plain k (at.Entering u others) o tests never e = absurd cc
opened_plain k (at.Guarding u others) o tests never e = absurd (never u others refl)
opened_plain k (at.Within u others) o tests never e = by (strong_aborts (own k u)) refl e
  where
    by : (strong : List Transition) → strong_aborts (own k u) ≡ strong → guarded_first u strong (closing_tests (own k u)) ≡ at.Within o tests →
        strong_aborts (own k o) ≡ []
    by [] none e = let same : u ≡ o = cc in ap (λ v. strong_aborts (own k v)) (sym same) ∙ none
    by (t ∷ strong) some e = absurd cc

-- what does not write comes before nothing
writes_not : (b a : Access) → b ≡ no_access → ¬ Precedes b a
writes_not b a none first = precedes_writes b a first (ap (λ z. z.writes) none)

-- ---- the image of a chart

module _ (c : Chart) (rules : IsChart features.Extended c) (core_rules : IsChart features.Core (expanded c))
    (scl : Scl) (low : IsLowering (expanded c) scl) (q : Tables) (valid : IsValid (program_of (numbered scl)) q) where
  abbrev k : Table
  k = table c

  abbrev core : Table
  core = table (expanded c)

  abbrev i : Images
  i = whole.i c rules core_rules

  abbrev rows : CoreRows k core i
  rows = whole.rows_of_chart c rules core_rules

  abbrev p : Program
  p = program_of (numbered scl)

  abbrev Alike : Configuration → Control → Type 0
  Alike = StandAlike core (numbered scl) (layout (expanded c) (numbered scl).root) p

  abbrev pub lowered : Lowered core p Alike
  lowered = stand_alike (expanded c) scl low (valid_formed p q valid)

  pub lowered_tests : LoweredTests core p Alike lowered
  lowered_tests =
      record {
        test_node = λ d m x t s test others e f fs stands late triggered effects.
            test_node (expanded c) scl low t s test others e triggered f fs effects d m x stands late;
        waits_there = λ d m g s ss x round late. waits_there (expanded c) scl low (valid_formed p q valid) d m g s ss x round late;
      }

  pub earlier : (d next : Configuration) (t g : ℕ) → step core t d ≡ Some next → is_late (standing_of next g) ≡ true → is_late (standing_of d g) ≡ true
  earlier = late_before features.Core (expanded c) core_rules

  abbrev Keeps : Configuration → Type 0
  Keeps = MonitorsLow k core i rows (whole.core_tree c rules core_rules).nested p q valid Alike lowered lowered_tests earlier

  abbrev Quiet : ℕ → Access → Configuration → Type 0
  Quiet = StaysQuiet k core i rows (whole.core_tree c rules core_rules).nested p q valid Alike lowered lowered_tests earlier

  -- within a tick
  told_of : (d next : Configuration) (u : ℕ) → ImageTold k core i d u → step core (i.thread_of u) d ≡ Some next →
      ToldOf k core i rows (whole.core_tree c rules core_rules).nested p q valid Alike lowered d u
  told_of d next u told goes =
      record {
        enabled =
            (only_if_some (is_enabled core d (i.thread_of u))
            (option_map (λ e. after e d) (change_of core d (i.thread_of u) (standing_of d (i.thread_of u)))) next goes).0;
        enclosed = fork_around k core i rows d u told;
      }

  tick_spared : (stages : FlagStages c rules core_rules) (log : List Entry) (d e : Configuration) →
      Follows (machine core) (ticks.corr_at c rules core_rules stages) (Told k core i) d log e → Keeps d →
      EachSpared (ticks.corr_at c rules core_rules stages) log
  tick_spared stages log d e follows keeps =
      each_spared (machine core) (ticks.corr_at c rules core_rules stages) (Told k core i) Keeps Quiet
      (λ d next t keeps goes.
      monitors_stay_low k core i rows (whole.core_tree c rules core_rules).nested p q valid Alike lowered lowered_tests earlier d next t keeps goes)
      (λ r g a d next keeps told goes.
      quiet_begins k core i rows (whole.core_tree c rules core_rules).nested p q valid Alike lowered lowered_tests earlier r g a d next keeps (told refl) goes)
      (λ r a d next t quiet goes ne.
      stays_quiet k core i rows (whole.core_tree c rules core_rules).nested p q valid Alike lowered lowered_tests earlier r a d next t quiet goes ne)
      (λ r a d u b quiet inner told acts next goes.
      spared_quietly k core i rows (whole.core_tree c rules core_rules).nested p q valid Alike lowered lowered_tests earlier r a b d quiet
      (λ is.
      ⊎_elim (λ none. writes_not b a none)
      (λ image.
      spares k core i rows (whole.core_tree c rules core_rules).nested p q valid Alike lowered r a d u b is inner
      (told_of d next u image goes) (ap (λ z. z.access) acts)) told)) log d e follows keeps

  -- as it starts
  abbrev pub Between : Configuration → Control → Type 0
  Between = tick_starts.Between (expanded c) scl q low valid

  module _ (inputs : Inputs) (accepted : AreAccepted p inputs) (before d : Configuration) (m : Control) (between : Between d m) where
    never_guards : Resting k core i before d → (r u : ℕ) (others : List Transition) → standing_of before r ≢ at.Guarding u others
    never_guards rests r u others e =
        never k core i rows (alone_rows c rules core_rules) (whole.tree c rules core_rules).nested
        (start_rows c rules core_rules) before d rests inputs r u others e

    plain_open : Resting k core i before d → (o : ℕ) (others : List Transition) → standing_of (start k inputs before) (holder k o) ≡ at.Within o others →
        strong_aborts (own k o) ≡ []
    plain_open rests o others e =
        opened_plain k (standing_of before (holder k o)) o others (never_guards rests (holder k o)) (sym (here rests (holder k o)) ∙ e)
      where
        here : Resting k core i before d → (r : ℕ) → standing_of (start k inputs before) r ≡ woken k (standing_of before r)
        here rests r = rw (chart_has_begun k core i before d rests) (woken_at k before.regions r)

    pub starts_quiet : RestsAlike c rules core_rules before d → (o : ℕ) → IsState k o → has_aborts (own k o) ≡ true →
        is_late (standing_of (start core inputs d) (i.watcher_of o)) ≡ true → (n : ℕ) →
        IsRaising k core i rows (whole.core_tree c rules core_rules).nested p q valid Alike lowered lowered_tests earlier o n →
        StaysLow k core i rows (whole.core_tree c rules core_rules).nested p q valid Alike lowered lowered_tests earlier o n (graph_tick.start p inputs m)
    starts_quiet (inl (first, core_first)) o there has late n raises_it =
        let wrong : true ≡ false =
        sym late ∙ (ap (λ z. is_late (standing_of (start core inputs z) (i.watcher_of o))) core_first
        ∙ first_prompt features.Core (expanded c) core_rules inputs (i.watcher_of o)) in
        absurd cc
    starts_quiet (inr rested) o there has late n raises_it =
        starts_low k core i rows (alone_rows c rules core_rules) (whole.tree c rules core_rules).nested
        (whole.core_tree c rules core_rules).nested (whole.core_tree c rules core_rules).children (whole.tree c rules core_rules).children
        (whole.super_there c rules core_rules) (λ s here. (whole.state_fits c rules core_rules s here).region.here)
        (start_rows c rules core_rules).strong_for p q valid Alike lowered lowered_tests earlier
        (λ t there none. tick_starts.top_parent (expanded c) scl q low valid t there none) (start k inputs before) (start core inputs d)
        (started_related c rules core_rules before d rested.rests inputs) (graph_tick.start p inputs m)
        (tick_starts.starts_alike (expanded c) scl q low valid inputs accepted d m between)
        (wakes_low (expanded c) scl low q valid inputs accepted d m between) (plain_open rested.rests) o there has late n raises_it

    starts_keeping : RestsAlike c rules core_rules before d → Keeps (start core inputs d)
    starts_keeping rests =
        record {
          control = graph_tick.start p inputs m;
          stands = tick_starts.starts_alike (expanded c) scl q low valid inputs accepted d m between;
          low = λ o there has late n raises_it. starts_quiet rests o there has late n raises_it;
        }

    pub spared_in_tick : RestsAlike c rules core_rules before d → (stages : FlagStages c rules core_rules) (log : List Entry) (e : Configuration) →
        Follows (machine core) (ticks.corr_at c rules core_rules stages) (Told k core i) (start core inputs d) log e →
        EachSpared (ticks.corr_at c rules core_rules stages) log
    spared_in_tick rests stages log e follows = tick_spared stages log (start core inputs d) e follows (starts_keeping rests)

-- ---- over lists of ticks

-- the program of the image is that of the text
module _ (c : Chart) (image : HasImage c) where
  pub is_valid : IsValid (program_of (numbered image.scl)) image.tables
  is_valid = subst (λ z. IsValid z image.tables) image.graph.is image.valid

  pub takes : (inputs : Inputs) → AreAccepted image.program inputs → AreAccepted (program_of (numbered image.scl)) inputs
  takes inputs accepted = subst (λ z. AreAccepted z inputs) image.graph.is accepted

module _ (c : Chart) (rules : IsChart features.Extended c) (core_rules : IsChart features.Core (expanded c))
    (image : HasImage c) where
  abbrev Kept : Type 0
  Kept = KeepsRules image.scl.name image.scl.variables image.scl.body

  lowers : Kept → IsLowering (expanded c) image.scl
  lowers kept =
      record { core = core_rules; rules = kept; variables = image.declared; body = image.body; no_loop = image.graph.no_loop }

  -- the graph rests where the core chart does
  abbrev Rests : Configuration → Type 0
  Rests d = (kept : Kept) × (m : Control) × Between c rules core_rules image.scl (lowers kept) image.tables (is_valid c image) d m

  pub tests_are_spared : SparesTests c rules core_rules (AreAccepted image.program) (Told (table c) (table (expanded c)) (whole.i c rules core_rules))
  tests_are_spared =
      record {
        Rests = λ d. ∥ Rests d ∥₁;
        begins = ∥∥₁_map image.scl.kept (λ kept. (
          kept,
          graph_tick.initial (program_of (numbered image.scl)),
          tick_starts.begins (expanded c) image.scl image.tables (lowers kept) (is_valid c image),
        ));
        goes_on = λ inputs d e accepted rests ends. ∥∥₁_map rests (λ x.
            let to =
            tick_starts.goes_to (expanded c) image.scl image.tables (lowers x.0) (is_valid c image) inputs (takes c image inputs accepted) d x.1 x.2 e ends in
            (x.0, to.0, to.1));
        spared = λ inputs before d accepted rests alike stages log e follows.
            stable_all (ticks.corr_at c rules core_rules stages) log
            (λ none. not_there rests (λ x.
            none (spared_in_tick c rules core_rules image.scl (lowers x.0) image.tables (is_valid c image) inputs (takes c image inputs accepted) before d
            x.1 x.2 alike stages log e follows)));
      }
