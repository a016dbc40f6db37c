-- The core chart's run that follows a tick of its chart, each step at stages of its own: with looks silenced it is ordered, however aborts lie in others.
use Rattle.std.proofs.Common.{◌≡◌, ℕ, List, [], ◌∷◌, Option, Some, None, option_and_then, length, refl, sym, ap, subst, ◌∙◌}
use Rattle.std.proofs.lemmas.List.{append-nil}
use Rattle.std.proofs.lemmas.Option.{same_Some}
use Rattle.sc_values.specs.Runs.{Act, act_of, acts, acts_after, replay, IsOver, IsOrdered, Ends}
use Rattle.sc_graph.specs.Tick.{Inputs, AreAccepted}
use Rattle.core_charts.specs.declared.features.Features.TheVariants as features
use Rattle.core_charts.specs.Chart.{Chart}
use Rattle.core_charts.specs.Rules.{IsChart}
use Rattle.chart_machine.specs.declared.standing.Configuration.{Configuration}
use Rattle.chart_machine.specs.declared.table.Table.{Table}
use Rattle.chart_machine.specs.Table.{table}
use Rattle.chart_machine.specs.Turns.{ForkedApart}
use Rattle.chart_machine.specs.Steps.{step}
use Rattle.chart_machine.specs.Machine.{machine, start}
use Rattle.abort_expansion.specs.Expansion.{expanded}
use Rattle.chart_machine_laws.specs.Tree.{around}
use Rattle.abort_expansion_laws.specs.CoreRows.{Images, expanded_of}
use Rattle.abort_expansion_laws.specs.Preemption.{HasImage}
use Rattle.abort_expansion_laws.specs.Related.{Related}
use Rattle.abort_expansion_laws.specs.Segments.{threads}
use Rattle.abort_expansion_laws.specs.StageReached.{Stage}
use Rattle.abort_expansion_laws.specs.Stages.{Entry, Correspondence, Climbs, NoneReached, EachSpared}
use Rattle.abort_expansion_laws.proofs.FlagStages.{usual, early_stages}
use Rattle.abort_expansion_laws.proofs.OwnTests.{OwnTests}
use Rattle.abort_expansion_laws.proofs.Owed.{Resting, Started}
use Rattle.abort_expansion_laws.proofs.BetweenTicks.{SparesTests, BothRest, started}
use Rattle.abort_expansion_laws.proofs.OwnTestsKept.{own_tests_kept}
use Rattle.abort_expansion_laws.proofs.RowsOfCharts as whole
use Rattle.abort_expansion_laws.proofs.Segments.{follows_replay, follows_acts}
use Rattle.abort_expansion_laws.proofs.StagesKept.{stages_kept_freely}
use Rattle.abort_expansion_laws.proofs.StepsByCase.{each_step_followed}
use Rattle.abort_expansion_laws.proofs.StillBegun.{HasBegun, charts_stay_begun}
use Rattle.abort_expansion_laws.proofs.TablesCorrespond.{is_pair}
use Rattle.abort_expansion_laws.proofs.TestsSpared.{tests_are_spared}
use Rattle.abort_expansion_laws.proofs.TicksOfCharts as ticks
use Rattle.abort_expansion_laws.proofs.TicksBegin.{ticks_begin}
use Rattle.abort_expansion_laws.proofs.TicksFinish.{ticks_finish}
use Rattle.abort_expansion_laws.proofs.ToldSteps.{told_silent, ToldHere}
use Rattle.preemption_laws.proofs.QuietParts.{Part, part_on, quieted, like_spared}
use Rattle.preemption_laws.proofs.QuietSteps.{quiet_machine, looks, IsWeakFlag, KnowsLooks, usual_are, early_are}
use Rattle.preemption_laws.proofs.ByRank.{holds_along}

module _ (c : Chart) (rules : IsChart features.Extended c) (core_rules : IsChart features.Core (expanded c)) (Sound : Configuration → Type 0)
    (knows : KnowsLooks c rules core_rules Sound) where
  abbrev k : Table
  k = table c

  abbrev core : Table
  core = table (expanded c)

  abbrev i : Images
  i = ticks.i c rules core_rules

  abbrev corr : Correspondence
  corr = ticks.corr c rules core_rules

  abbrev Told : Configuration → Entry → Type 0
  Told = ToldHere c rules core_rules

  abbrev Parts : (d : Configuration) (Before : ℕ → ℕ → Type 0) (After : Configuration → ℕ → ℕ → Type 0) (steps : List Act)
      (Reaches : Configuration → Type 0) → Type 0
  Parts d Before After steps Reaches = Part c rules core_rules Sound d Before After steps Reaches

  abbrev Stages : Configuration → Configuration → ℕ → ℕ → Type 0
  Stages now d h s = Stage k i.thread_of now d h s

  -- ---- one step after the other

  advance : (now d : Configuration) → Related k core i now d → OwnTests k now → Sound d → (r : ℕ) (next : Configuration) → step k r now ≡ Some next →
      Parts d (Stages now d) (Stages next) (act_of (machine k) now r ∷ []) (Related k core i next)
  advance now d related owns sound r next goes =
      quieted c rules core_rules Sound knows (early_stages c rules core_rules (around k r)) (early_are c rules core_rules (around k r)) d (Stages now d)
      (Stages next) (act_of (machine k) now r ∷ []) (Related k core i next) sound (each_step_followed c rules core_rules now d related owns r next goes)

  finish : (now d : Configuration) → Related k core i now d → Sound d → HasBegun k now → IsOver (machine k) now →
      Parts d (Stages now d) (Stages now) [] (Resting k core i now)
  finish now d related sound begun over =
      quieted c rules core_rules Sound knows (usual c rules core_rules) (usual_are c rules core_rules) d (Stages now d) (Stages now) []
      (Resting k core i now) sound (ticks_finish c rules core_rules (usual c rules core_rules) Told (told_silent k core i) now d related over begun)

  -- where the chart stands, and its core beside it
  record IsHere (now d : Configuration) : Type 0 where
    related : Related k core i now d
    owns : OwnTests k now
    begun : HasBegun k now
    sound : Sound d

  abbrev RestsThere : Configuration → Configuration → Type 0
  RestsThere last e = Resting k core i last e

  first_followed : (r : ℕ) (run : List ℕ) (now last d : Configuration) → IsHere now d →
      ((next e : Configuration) → IsHere next e → replay (machine k) run next ≡ Some last → IsOver (machine k) last →
      Parts e (Stages next e) (Stages last) (acts (machine k) run next) (RestsThere last)) →
      (next : Option Configuration) → step k r now ≡ next → replay (machine k) (r ∷ run) now ≡ Some last → IsOver (machine k) last →
      Parts d (Stages now d) (Stages last) (acts (machine k) (r ∷ run) now) (RestsThere last)
  first_followed r run now last d here rest None e runs over =
      let none : option_and_then (replay (machine k) run) None ≡ Some last = ap (option_and_then (replay (machine k) run)) (sym e) ∙ runs in absurd cc
  first_followed r run now last d here rest (Some next) e runs over =
      let one = advance now d here.related here.owns here.sound r next e in
      let runs_on : replay (machine k) run next ≡ Some last = ap (option_and_then (replay (machine k) run)) (sym e) ∙ runs in
      let logs : act_of (machine k) now r ∷ acts (machine k) run next ≡ acts (machine k) (r ∷ run) now =
      ap (λ z. act_of (machine k) now r ∷ acts_after (machine k) (acts (machine k) run) z) (sym e) in
      subst (λ z. Parts d (Stages now d) (Stages last) z (RestsThere last)) logs
      (part_on c rules core_rules Sound d (Stages now d) (Stages next) (Stages last) (act_of (machine k) now r ∷ []) (acts (machine k) run next)
      (Related k core i next) (RestsThere last) one
      (rest next one.last
      (record {
        related = one.reaches;
        owns = (own_tests_kept c rules core_rules).steps now next r here.owns e;
        begun = charts_stay_begun features.Extended c rules now next r e here.begun;
        sound = one.sound;
      }) runs_on over))

  followed : (run : List ℕ) (now last d : Configuration) → IsHere now d → replay (machine k) run now ≡ Some last → IsOver (machine k) last →
      Parts d (Stages now d) (Stages last) (acts (machine k) run now) (RestsThere last)
  followed [] now last d here runs over =
      subst (λ z. Parts d (Stages now d) (Stages z) [] (RestsThere z)) (same_Some now last runs)
      (finish now d here.related here.sound here.begun (subst (IsOver (machine k)) (sym (same_Some now last runs)) over))
  followed (r ∷ run) now last d here runs over =
      first_followed r run now last d here (λ next e. followed run next last e) (step k r now) refl runs over

  -- ---- a tick

  tick_part : (now last d : Configuration) → Started k core i now d → OwnTests k now → Sound d → (ends : Ends (machine k) now last) →
      Parts d NoneReached (Stages last) (acts (machine k) ends.run now) (RestsThere last)
  tick_part now last d starts owns sound ends =
      part_on c rules core_rules Sound d NoneReached (Stages now) (Stages last) [] (acts (machine k) ends.run now) (Related k core i now)
      (RestsThere last) first
      (followed ends.run now last first.last
      (record { related = first.reaches; owns = owns; begun = ticks.started_begun c rules core_rules now d starts; sound = first.sound })
      ends.complete.runs ends.complete.over)
    where
      first : Parts d NoneReached (Stages now) [] (Related k core i now)
      first =
          quieted c rules core_rules Sound knows (usual c rules core_rules) (usual_are c rules core_rules) d NoneReached (Stages now) []
          (Related k core i now) sound (ticks_begin c rules core_rules (usual c rules core_rules) Told (told_silent k core i) now d starts)

  -- a run of the core that follows the chart's tick to its end, and is ordered but for looks
  pub record QuietRun (d last : Configuration) : Type 0 where
    pub run : List ℕ
    pub core_last : Configuration
    pub runs : replay (machine core) run d ≡ Some core_last
    pub ordered : IsOrdered (ForkedApart core) (acts (quiet_machine core (looks c rules core_rules)) run d)
    pub rested : ticks.HasRested c rules core_rules last core_last
    pub owns : OwnTests k last
    pub sound : Sound core_last

  module _ (image : HasImage c) where
    abbrev spares : SparesTests c rules core_rules (AreAccepted image.program) Told
    spares = tests_are_spared c rules core_rules image

    abbrev pub BothRestHere : Configuration → Configuration → Type 0
    BothRestHere =
        BothRest c rules core_rules (AreAccepted image.program) Told spares (OwnTests k)

    pub quiet_run : (inputs : Inputs) (before last d : Configuration) → AreAccepted image.program inputs → BothRestHere before d →
        Sound (start core inputs d) → Ends (machine k) (start k inputs before) last → QuietRun (start core inputs d) last
    quiet_run inputs before last d accepted both sound ends =
        record {
          run = threads corr s.log;
          core_last = s.last;
          runs = follows_replay (quiet_machine core (looks c rules core_rules)) corr Told s.log (start core inputs d) s.last s.quietly;
          ordered =
              subst (IsOrdered (ForkedApart core))
              (sym (follows_acts (quiet_machine core (looks c rules core_rules)) corr Told s.log (start core inputs d) s.last s.quietly))
              (stages_kept_freely corr
              (is_pair k core (expanded_of k core i (ticks.rows c rules core_rules)) (ticks.nested c rules core_rules)
              (whole.core_tree c rules core_rules).nested (length k.variables) (ticks.counts c rules core_rules)
              (ticks.written_at c rules core_rules)) (IsWeakFlag c rules core_rules) s.log s.fits spared climbs
              (subst (IsOrdered (ForkedApart k)) (sym s.charted) ends.admissible));
          rested = record { rests = s.reaches; over = ends.complete.over };
          owns =
              holds_along (machine k) (OwnTests k) (own_tests_kept c rules core_rules).steps ends.run (start k inputs before) last owned
              ends.complete.runs;
          sound = s.sound;
        }
      where
        owned : OwnTests k (start k inputs before)
        owned = (own_tests_kept c rules core_rules).starts inputs before both.holds

        s : Parts (start core inputs d) NoneReached (Stages last) (acts (machine k) ends.run (start k inputs before)) (RestsThere last)
        s =
            tick_part (start k inputs before) last (start core inputs d)
            (started c rules core_rules inputs before d both.alike) owned sound ends

        climbs : Climbs corr NoneReached s.log
        climbs = subst (Climbs corr NoneReached) (append-nil s.log) (s.climbs [] tt)

        spared : EachSpared corr s.log
        spared =
            like_spared c rules core_rules s.plain s.log s.like
            (spares.spared inputs before d accepted both.rests both.alike (usual c rules core_rules) s.plain s.last s.follows)
