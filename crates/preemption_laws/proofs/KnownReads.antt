-- What is known of reads of weak flags, of each configuration that a core chart comes to: who waits looks at one, and else the thread of the region that
-- holds its superstate alone reads it.
use Rattle.std.proofs.Common.{◌≡◌, ℕ, true, false, Some, List, [], ◌∷◌, Contains, sym, ap, subst, ◌∙◌}
use Rattle.sc_values.specs.Access.{Reads}
use Rattle.sc_values.specs.Assignment.{assignment_of, access_of_assignment}
use Rattle.sc_text.proofs.EachItem.{Each}
use Rattle.sc_graph.specs.Tick.{Inputs}
use Rattle.core_charts.specs.declared.features.Features.TheVariants as features
use Rattle.core_charts.specs.declared.region.Effect.{Effect}
use Rattle.core_charts.specs.declared.region.Transition.{Transition}
use Rattle.core_charts.specs.Chart.{Chart}
use Rattle.core_charts.specs.Rules.{IsChart}
use Rattle.chart_machine.specs.declared.standing.Configuration.{Configuration}
use Rattle.chart_machine.specs.declared.standing.Standing.{Standing}
use Rattle.chart_machine.specs.declared.standing.Standing.TheVariants as at
use Rattle.chart_machine.specs.declared.table.Table.{Table}
use Rattle.chart_machine.specs.Table.{table}
use Rattle.chart_machine.specs.Machine.{initial, start}
use Rattle.chart_machine.specs.Steps.{access_of, access_of_trigger, step}
use Rattle.chart_machine.specs.Turns.{standing_of, has_work}
use Rattle.chart_machine_laws.specs.Tree.{around, holder}
use Rattle.chart_machine_laws.proofs.LyingIn.{none_in}
use Rattle.tick_laws.proofs.Lists.{contains_map, contains_head}
use Rattle.abort_expansion.specs.Expansion.{expanded}
use Rattle.abort_expansion_laws.specs.CoreRows.{own, IsState, Images}
use Rattle.abort_expansion_laws.proofs.FlagAccess.{raised_access}
use Rattle.abort_expansion_laws.proofs.KnownVariables.{stepped}
use Rattle.abort_expansion_laws.proofs.TicksOfCharts as ticks
use Rattle.preemption_laws.specs.Looks.{look, Looks, looks_of}
use Rattle.preemption_laws.specs.Waiting.{is_waiting}
use Rattle.preemption_laws.proofs.CoreGround.{core_ground, core_tops}
use Rattle.preemption_laws.proofs.CoreStarts.{core_initially, core_at_start}
use Rattle.preemption_laws.proofs.Ground.{Ground, MayOn}
use Rattle.preemption_laws.proofs.QuietSteps.{KnowsLooks}
use Rattle.preemption_laws.proofs.ReadsStill.{AllRead, ReadsSo, reads_still, reads_initially, reads_at_start, next_look, next_test, next_closing, next_effect}
use Rattle.preemption_laws.proofs.SoundCores.{IsCore, core_still}
use Rattle.preemption_laws.proofs.TameTransitions.{IsWeak, TameTrigger}
use Rattle.preemption_laws.proofs.WaitsOver.{LooksAround}

module _ (c : Chart) (rules : IsChart features.Extended c) (core_rules : IsChart features.Core (expanded c)) where
  abbrev k : Table
  k = table c

  abbrev core : Table
  core = table (expanded c)

  abbrev i : Images
  i = ticks.i c rules core_rules

  abbrev looks : ℕ → List Transition
  looks = looks_of k core i

  abbrev ground : Ground core
  ground = core_ground c rules core_rules

  -- an effect that reads no weak flag
  abbrev pub ReadsNone : Effect → Type 0
  ReadsNone e = (u x : ℕ) → IsWeak c rules core_rules u x → ¬ Reads (access_of_assignment e.variable (assignment_of e.variable e.value)) x

  abbrev pub TestsTame : ℕ → Transition → Type 0
  TestsTame s t = TameTrigger c rules core_rules s t.trigger

  -- what is known of the rows of the core chart
  pub record CoreReads : Type 0 where
    pub known : Looks core looks
    pub fronts : (s : ℕ) → Each (TestsTame s) (known.others s)
    pub effects : (s : ℕ) → Each (λ t. Each ReadsNone t.effects) (own core s)
    pub seen_weak : (s x : ℕ) → Contains (known.seen s) x →
        (u : ℕ) × IsState k u × IsWeak c rules core_rules u x × Contains (around core (holder core s)) (i.main_of u)

  module _ (rows : CoreReads) where
    abbrev pub Core : Configuration → Type 0
    Core d = IsCore core looks rows.known ground d

    abbrev So : Standing → Type 0
    So x = ReadsSo core looks rows.known ground TestsTame ReadsNone rows.fronts rows.effects x

    -- a configuration that the core chart may come to
    pub record IsKnown (d : Configuration) : Type 0 where
      pub is_core : Core d
      pub reads : AllRead core looks rows.known ground TestsTame ReadsNone rows.fronts rows.effects d

    pub known_still : (d e : Configuration) (t : ℕ) → IsKnown d → step core t d ≡ Some e → IsKnown e
    known_still d e t is steps =
        record {
          is_core = core_still core looks rows.known ground d e t is.is_core steps;
          reads = reads_still core looks rows.known ground TestsTame ReadsNone rows.fronts rows.effects d e t is.is_core is.reads steps;
        }

    pub known_initially : IsKnown (initial core)
    known_initially =
        record {
          is_core = core_initially core looks rows.known ground (core_tops c rules core_rules);
          reads = reads_initially core looks rows.known ground TestsTame ReadsNone rows.fronts rows.effects;
        }

    pub known_at_start : (inputs : Inputs) (d : Configuration) → IsKnown d → IsKnown (start core inputs d)
    known_at_start inputs d is =
        record {
          is_core = core_at_start core looks rows.known ground (core_tops c rules core_rules) inputs d is.is_core;
          reads = reads_at_start core looks rows.known ground TestsTame ReadsNone rows.fronts rows.effects (core_tops c rules core_rules) inputs d is.reads;
        }

    -- ---- looks

    -- a look is one at the weak flag of a superstate around
    pub looks_around : (s : ℕ) (t : Transition) → Contains (looks s) t → LooksAround c rules core_rules s t
    looks_around s t among =
        record {
          superstate = its.0;
          flag = one.0;
          there = its.1;
          weak = its.2;
          looks_at = sym (ap (λ (z : Transition). z.trigger) one.2);
          inside = its.3;
        }
      where
        one : (x : ℕ) × Contains (rows.known.seen s) x × (look (rows.known.left s) x ≡ t)
        one = contains_map (look (rows.known.left s)) (rows.known.seen s) t (subst (λ ts. Contains ts t) (rows.known.are_looks s) among)

        its : (u : ℕ) × IsState k u × IsWeak c rules core_rules u one.0 × Contains (around core (holder core s)) (i.main_of u)
        its = rows.seen_weak s one.0 one.1

    -- ---- who reads

    abbrev LooksAtOne : Standing → Type 0
    LooksAtOne y = (u : ℕ) × (x : ℕ) × ((i.flags_of u).weak ≡ Some x) × Reads (access_of y) x

    looking : (d : Configuration) (y : Standing) → So y → has_work core d y ≡ true → is_waiting core looks y ≡ true → LooksAtOne y
    looking d (at.Trying s []) so works waits = absurd cc
    looking d (at.Trying s (t ∷ ts)) so works waits =
        let it : LooksAround c rules core_rules s t =
        looks_around s t (next_look core looks rows.known ground TestsTame ReadsNone rows.fronts rows.effects s t ts so waits) in (
          it.superstate,
          it.flag,
          it.weak,
          subst (λ o. Reads (access_of_trigger o) it.flag) (sym it.looks_at)
              (subst (λ a. Reads a it.flag) (sym (raised_access it.flag)) (contains_head it.flag [])),
        )
    looking d at.Outside so works waits = absurd cc
    looking d at.Ended so works waits = absurd cc
    looking d (at.Entering s ts) so works waits = absurd cc
    looking d (at.Guarding s ts) so works waits = absurd cc
    looking d (at.Within s ts) so works waits = absurd cc
    looking d (at.Acting s effects p) so works waits = absurd cc

    reading : (r : ℕ) (y : Standing) → So y → MayOn core ground r y → is_waiting core looks y ≡ false → (u x : ℕ) → IsWeak c rules core_rules u x →
        Reads (access_of y) x → r ≡ holder core (i.main_of u)
    reading r at.Outside so may goes u x weak read = absurd (none_in x read)
    reading r at.Ended so may goes u x weak read = absurd (none_in x read)
    reading r (at.Trying s []) so may goes u x weak read = absurd (none_in x read)
    reading r (at.Trying s (t ∷ ts)) so may goes u x weak read =
        sym may.1
        ∙ (next_test core looks rows.known ground TestsTame ReadsNone rows.fronts rows.effects s t ts so goes).reads_home u x weak read
    reading r (at.Entering s ts) so may goes u x weak read = absurd so
    reading r (at.Guarding s ts) so may goes u x weak read = absurd so
    reading r (at.Within s []) so may goes u x weak read = absurd (none_in x read)
    reading r (at.Within s (t ∷ ts)) so may goes u x weak read =
        sym may.1
        ∙ (next_closing core looks rows.known ground TestsTame ReadsNone rows.fronts rows.effects s t ts so).reads_home u x weak read
    reading r (at.Acting s [] p) so may goes u x weak read = absurd (none_in x read)
    reading r (at.Acting s (e ∷ effects) p) so may goes u x weak read =
        absurd (next_effect core looks rows.known ground TestsTame ReadsNone rows.fronts rows.effects s e effects p so u x weak read)

    pub knows : KnowsLooks c rules core_rules IsKnown
    knows =
        record {
          kept = known_still;
          looks_at = λ d e t is steps waits. looking d (standing_of d t) (is.reads t) (stepped core t d e steps).works waits;
          reads_home = λ d t u x is weak goes read. reading t (standing_of d t) (is.reads t) (is.is_core.sits.stands t) goes u x weak read;
        }
