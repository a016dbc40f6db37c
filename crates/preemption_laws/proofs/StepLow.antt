-- Behind each step all lines are within the new cap, where the thread of a region that tests an opened superstate has stepped, or nobody inside has
-- anything left to do.
use Rattle.std.proofs.Common.{◌≡◌, ℕ, ◌≤◌, Bool, true, false, Some, List, [], ◌∷◌, Contains, if◌then◌else◌, refl, sym, subst, arith}
use Rattle.std.specs.List.{list_any}
use Rattle.sc_values.specs.Runs.{replay}
use Rattle.sc_graph.specs.declared.control.Control.{Control}
use Rattle.sc_graph.specs.declared.tables.Tables.{Tables}
use Rattle.sc_graph.specs.Machine.{machine}
use Rattle.sc_graph.specs.Program.{Program}
use Rattle.sc_graph.specs.Valid.{IsValid}
use Rattle.core_charts.specs.declared.features.Features.TheVariants as features
use Rattle.core_charts.specs.declared.region.Transition.{Transition}
use Rattle.core_charts.specs.Aborts.{has_aborts}
use Rattle.core_charts.specs.Chart.{Chart}
use Rattle.core_charts.specs.Rules.{IsChart}
use Rattle.core_charts.specs.Tests.{is_weak}
use Rattle.chart_machine.specs.declared.standing.Standing.{Standing}
use Rattle.chart_machine.specs.declared.standing.Standing.TheVariants as at
use Rattle.chart_machine.specs.declared.standing.Configuration.{Configuration}
use Rattle.chart_machine.specs.declared.standing.Move.{Move}
use Rattle.chart_machine.specs.declared.table.Table.{Table}
use Rattle.chart_machine.specs.Table.{table}
use Rattle.chart_machine.specs.Turns.{standing_of, is_enabled}
use Rattle.chart_machine.specs.Steps.{step}
use Rattle.scl.specs.declared.program.Scl.{Scl}
use Rattle.scl.specs.Numbering.{numbered}
use Rattle.scl_graph.specs.Graph.{program_of}
use Rattle.abort_expansion.specs.Expansion.{expanded}
use Rattle.chart_lowering_laws.specs.Laws.{IsLowering}
use Rattle.abort_expansion_laws.specs.CoreRows.{own, Images}
use Rattle.abort_expansion_laws.specs.StageReached.{some_work, stage_of}
use Rattle.abort_expansion_laws.proofs.ChartSteps.{Makes, takes_trying, takes_entering, takes_guarding, takes_within, tries_on, enters_on, guards_on}
use Rattle.abort_expansion_laws.proofs.ChartSteps.{waits_on, acts_on, StepMade, step_made}
use Rattle.abort_expansion_laws.proofs.StageReached.{staged, one_at_most}
use Rattle.abort_expansion_laws.proofs.TicksOfCharts as ticks
use Rattle.preemption_laws.proofs.CappedSteps.{IsCapped}
use Rattle.preemption_laws.proofs.ChartOrder.{AllAt}
use Rattle.preemption_laws.proofs.IdleInside.{lines_idle, joins_idle}
use Rattle.preemption_laws.proofs.LinesAhead.{LowAhead, LowOnceStepped}
use Rattle.preemption_laws.proofs.NextLow.{ahead_free, ahead_behind, lines_next, joins_next}
use Rattle.preemption_laws.proofs.OthersLow.{RanksWithin}
use Rattle.preemption_laws.proofs.StepsInside.{IsWithin}

module _ (c : Chart) (rules : IsChart features.Extended c) (core_rules : IsChart features.Core (expanded c)) where
  abbrev k : Table
  k = table c

  abbrev i : Images
  i = ticks.i c rules core_rules

  -- who has no test left takes no step
  none_left : (r s : ℕ) (x : Standing) (ms : List Move) → Makes k r x ms → x ≡ at.Within s [] → ⊥
  none_left r s _ _ (takes_trying u w others) e = absurd cc
  none_left r s _ _ (takes_entering u w others) e = absurd cc
  none_left r s _ _ (takes_guarding u w others) e = absurd cc
  none_left r s _ _ (takes_within u w others) e = absurd cc
  none_left r s _ _ (tries_on u w others) e = absurd cc
  none_left r s _ _ (enters_on u w others) e = absurd cc
  none_left r s _ _ (guards_on u w others) e = absurd cc
  none_left r s _ _ (waits_on u w others) e = absurd cc
  none_left r s _ _ (acts_on u place f effects) e = absurd cc

  -- ---- a step

  -- who tests an opened superstate has his thread step, unless that leads to where the inside of one has nothing left to do
  abbrev pub StepsItself : Configuration → Configuration → ℕ → List ℕ → Type 0
  StepsItself now next r run =
      (s : ℕ) (t : Transition) (tests : List Transition) → standing_of now r ≡ at.Within s (t ∷ tests) → stage_of k next (standing_of next r) ≤ 1 →
      Contains run (i.thread_of r)

  module _ (p : Scl) (q : Tables) (low : IsLowering (expanded c) p) (valid : IsValid (program_of (numbered p)) q) where
    abbrev G : Program
    G = program_of (numbered p)

    -- all that have their turn are within the number
    pub record LinesLow (now : Configuration) (m : Control) (least : ℕ) : Type 0 where
      pub lines : (t : ℕ) → is_enabled k now t ≡ true → ¬ IsWithin (standing_of now t) → LowAhead G q least (i.thread_of t) m
      pub joins : (t : ℕ) → is_enabled k now t ≡ true → IsWithin (standing_of now t) → LowOnceStepped G q least (i.thread_of t) m

    module _ (now d next e : Configuration) (m n : Control) (most least r : ℕ) (run : List ℕ)
        (known : IsCapped c rules core_rules p q low valid now d m most) (ranks : RanksWithin c rules core_rules p q low valid now m most least)
        (steps : step k r now ≡ Some next) (leads : replay (machine G) run m ≡ Some n) (there : AllAt c rules core_rules p q low valid next e n)
        (itself : StepsItself now next r run) where
      by_ahead : LowAhead G q least (i.thread_of r) n → LinesLow next n least
      by_ahead ahead =
          record {
            lines = lines_next c rules core_rules p q low valid now d m most least known ranks next n r run steps leads ahead;
            joins = joins_next c rules core_rules p q low valid now d m most least known ranks next n r run steps leads ahead;
          }

      by_idle : IsWithin (standing_of now r) → (u : ℕ) (left : List Transition) → standing_of next r ≡ at.Within u left → some_work k next u ≡ false →
          LinesLow next n least
      by_idle inside u left stands idle =
          record {
            lines =
                lines_idle c rules core_rules p q low valid now d next e m n most least r known ranks steps inside run leads there u left stands idle;
            joins =
                joins_idle c rules core_rules p q low valid now d next e m n most least r known ranks steps inside run leads there u left stands idle;
          }

      by_free : ¬ IsWithin (standing_of now r) → LinesLow next n least
      by_free out = by_ahead (ahead_free c rules core_rules p q low valid now d m most least known ranks next n r run steps leads out)

      made : StepMade k r now next
      made = step_made k r now next steps

      by_tests : (s : ℕ) (tests : List Transition) → standing_of now r ≡ at.Within s tests → LinesLow next n least
      by_tests s [] was = absurd (none_left r s (standing_of now r) made.change.moves made.makes was)
      by_tests s (t ∷ tests) was = behind (standing_of next r) refl
        where
          inside : IsWithin (standing_of now r)
          inside = subst IsWithin (sym was) tt

          by_thread : stage_of k next (standing_of next r) ≤ 1 → LinesLow next n least
          by_thread low_stage =
              by_ahead (ahead_behind c rules core_rules p q low valid now d m most least known ranks next n r run steps leads inside
              (itself s t tests was low_stage))

          by_work : (u : ℕ) (left : List Transition) → standing_of next r ≡ at.Within u left → (b : Bool) → some_work k next u ≡ b → LinesLow next n least
          by_work u left stands false idle = by_idle inside u left stands idle
          by_work u left stands true works =
              by_thread (subst (λ x. stage_of k next x ≤ 1) (sym stands)
              (subst (λ b. (if has_aborts (own k u) then staged b (list_any (λ z. is_weak z.kind) left) else 1) ≤ 1) (sym works)
              (one_at_most (has_aborts (own k u)))))

          behind : (x : Standing) → standing_of next r ≡ x → LinesLow next n least
          behind (at.Within u left) is = by_work u left is (some_work k next u) refl
          behind (at.Guarding u left) is = by_thread (subst (λ x. stage_of k next x ≤ 1) (sym is) (omega arith))
          behind at.Outside is = by_thread (subst (λ x. stage_of k next x ≤ 1) (sym is) (omega arith))
          behind at.Ended is = by_thread (subst (λ x. stage_of k next x ≤ 1) (sym is) (omega arith))
          behind (at.Trying u left) is = by_thread (subst (λ x. stage_of k next x ≤ 1) (sym is) (omega arith))
          behind (at.Entering u left) is = by_thread (subst (λ x. stage_of k next x ≤ 1) (sym is) (omega arith))
          behind (at.Acting u effects place) is = by_thread (subst (λ x. stage_of k next x ≤ 1) (sym is) (omega arith))

      by_standing : (x : Standing) → standing_of now r ≡ x → LinesLow next n least
      by_standing (at.Within s tests) was = by_tests s tests was
      by_standing at.Outside was = by_free (λ h. subst IsWithin was h)
      by_standing at.Ended was = by_free (λ h. subst IsWithin was h)
      by_standing (at.Trying s tests) was = by_free (λ h. subst IsWithin was h)
      by_standing (at.Entering s tests) was = by_free (λ h. subst IsWithin was h)
      by_standing (at.Guarding s tests) was = by_free (λ h. subst IsWithin was h)
      by_standing (at.Acting s effects place) was = by_free (λ h. subst IsWithin was h)

      pub step_low : LinesLow next n least
      step_low = by_standing (standing_of now r) refl
