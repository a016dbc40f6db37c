-- What lies in a region of a chart has its thread, in the graph of the core chart, below that of the region.
use Rattle.std.proofs.Common.{◌≡◌, ℕ, List, [], ◌∷◌, Contains, refl, sym, subst, ⊎_elim}
use Rattle.sc_graph.specs.declared.tables.Tables.{Tables}
use Rattle.sc_graph.specs.Program.{Program}
use Rattle.sc_graph.specs.Threads.{Below}
use Rattle.sc_graph.specs.Valid.{IsValid}
use Rattle.tick_laws.proofs.Formed.{valid_formed}
use Rattle.tick_laws.proofs.Kin.{below_self, below_parent}
use Rattle.core_charts.specs.declared.features.Features.TheVariants as features
use Rattle.core_charts.specs.Chart.{Chart}
use Rattle.core_charts.specs.Rules.{IsChart}
use Rattle.chart_machine.specs.declared.table.Table.{Table}
use Rattle.chart_machine.specs.Table.{table}
use Rattle.chart_machine.specs.Turns.{LiesIn, itself, deeper}
use Rattle.scl.specs.declared.program.Scl.{Scl}
use Rattle.scl.specs.Numbering.{numbered}
use Rattle.scl_graph.specs.Graph.{program_of}
use Rattle.abort_expansion.specs.Expansion.{expanded}
use Rattle.chart_machine_laws.proofs.LyingIn.{IsNested, around, holder, none_in, head_or_tail}
use Rattle.chart_lowering_laws.specs.Laws.{IsLowering}
use Rattle.chart_lowering_laws.specs.Stands.{Lowered}
use Rattle.compiled_charts_laws.proofs.Stands.{stand_alike}
use Rattle.abort_expansion_laws.specs.CoreRows.{Images}
use Rattle.abort_expansion_laws.proofs.RowsOfCharts as whole
use Rattle.abort_expansion_laws.proofs.TicksOfCharts as ticks
use Rattle.preemption_laws.specs.StepNodes.{Alike}
use Rattle.preemption_laws.proofs.ApartInCore.{LiesThere}

module _ (c : Chart) (rules : IsChart features.Extended c) (core_rules : IsChart features.Core (expanded c)) (p : Scl) (q : Tables)
    (low : IsLowering (expanded c) p) (valid : IsValid (program_of (numbered p)) q) where
  abbrev k : Table
  k = table c

  abbrev core : Table
  core = table (expanded c)

  abbrev i : Images
  i = ticks.i c rules core_rules

  abbrev G : Program
  G = program_of (numbered p)

  lowered : Lowered core G (Alike (expanded c) p)
  lowered = stand_alike (expanded c) p low (valid_formed G q valid)

  core_nested : IsNested core
  core_nested = (whole.core_tree c rules core_rules).nested

  -- each thread is below the one that holds a superstate around it
  below_around : (ss : List ℕ) (t u : ℕ) → around core t ≡ ss → Contains ss u → Below G t (holder core u)
  below_around [] t u e h = absurd (none_in u h)
  below_around (s ∷ ss) t u e h =
      ⊎_elim (λ same. below_parent G t (holder core s) (holder core u) (lowered.parent t s ss e)
      (subst (λ v. Below G (holder core s) (holder core v)) same (below_self G (holder core s))))
      (λ tail. below_parent G t (holder core s) (holder core u) (lowered.parent t s ss e)
      (below_around ss (holder core s) u (sym (core_nested.upward t s ss e)) tail))
      (head_or_tail s u ss h)

  below_lying : (t a : ℕ) → LiesIn core t a → Below G t a
  below_lying t a (itself same) = subst (Below G t) same (below_self G t)
  below_lying t a (deeper s inner held) = subst (Below G t) held (below_around (around core t) t s refl inner)

  -- a thread that lies where region r does is below those of all that r lies in
  pub below_there : (r t a : ℕ) → LiesThere c rules core_rules r t → LiesIn k r a → Below G t (i.thread_of a)
  below_there r t a there inner = below_lying t (i.thread_of a) (there a inner)
