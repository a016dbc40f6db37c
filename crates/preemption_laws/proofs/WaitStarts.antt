-- As a tick starts nobody has looked at a flag: the configuration is in normal form, and the machine that waits has ranks from there.
use Rattle.std.proofs.Common.{◌≡◌, ℕ, suc, List, [], ◌∷◌, ◌++◌, map, refl, sym, ap, ap₂, subst}
use Rattle.std.proofs.Common.{arith}
use Rattle.sc_graph.specs.declared.control.Control.{Control}
use Rattle.sc_graph.specs.declared.tables.Tables.{Tables}
use Rattle.sc_graph.specs.Program.{Program}
use Rattle.sc_graph.specs.Tick.{Inputs}
use Rattle.sc_graph.specs.Valid.{IsValid}
use Rattle.core_charts.specs.declared.features.Features.TheVariants as features
use Rattle.core_charts.specs.declared.region.Transition.{Transition}
use Rattle.core_charts.specs.Chart.{Chart}
use Rattle.core_charts.specs.Rules.{IsChart}
use Rattle.chart_machine.specs.declared.standing.Configuration.{Configuration}
use Rattle.chart_machine.specs.declared.standing.Standing.{Standing}
use Rattle.chart_machine.specs.declared.standing.Standing.TheVariants as at
use Rattle.chart_machine.specs.declared.table.Table.{Table}
use Rattle.chart_machine.specs.Table.{table}
use Rattle.chart_machine.specs.Turns.{standing_of}
use Rattle.chart_machine_laws.specs.Progress.{IsReached}
use Rattle.scl.specs.declared.program.Scl.{Scl}
use Rattle.scl.specs.Numbering.{numbered}
use Rattle.scl_graph.specs.Graph.{program_of}
use Rattle.abort_expansion_laws.proofs.Leaving.{at_number}
use Rattle.chart_lowering_laws.specs.Laws.{IsLowering}
use Rattle.preemption_laws.specs.StepNodes.{Alike}
use Rattle.preemption_laws.proofs.GreatestPriority.{greatest_priority, all_ahead, within_greatest}
use Rattle.preemption_laws.specs.Looks.{Looks}
use Rattle.preemption_laws.specs.Waiting.{waiting_at, still, waiting_machine}
use Rattle.preemption_laws.proofs.GraphMoves as moves
use Rattle.preemption_laws.proofs.Ground.{Ground}
use Rattle.preemption_laws.proofs.NormalForms.{IsNormal, normal_behind}
use Rattle.preemption_laws.proofs.SoundCores.{IsCore}
use Rattle.preemption_laws.proofs.WaitLow.{Low, Stands, join_at}
use Rattle.preemption_laws.proofs.WaitRanks.{RanksFrom, HoldsAt, ranks_from}

all_normal : (k : Table) (looks : ℕ → List Transition) (zs : List Standing) → ((q : ℕ) → IsNormal k looks (at_number zs q)) → map (waiting_at k looks) zs ≡ zs
all_normal k looks [] each = refl
all_normal k looks (z ∷ zs) each = ap₂ (λ x xs. x ∷ xs) (each 0) (all_normal k looks zs (λ q. each (suc q)))

-- who does not try is in normal form
module _ (k : Table) (looks : ℕ → List Transition) where
  normal_at : (x : Standing) → ((s : ℕ) (tests : List Transition) → x ≡ at.Trying s tests → (front : List Transition) × (tests ≡ front ++ looks s)) →
      IsNormal k looks x
  normal_at at.Outside fresh = refl
  normal_at at.Ended fresh = refl
  normal_at (at.Trying s tests) fresh = let its = fresh s tests refl in normal_behind k looks s its.0 tests its.1
  normal_at (at.Entering s tests) fresh = refl
  normal_at (at.Guarding s tests) fresh = refl
  normal_at (at.Within s tests) fresh = refl
  normal_at (at.Acting s effects p) fresh = refl

  pub none_normal : (c : Configuration) → ((r s : ℕ) (tests : List Transition) → standing_of c r ≡ at.Trying s tests →
      (front : List Transition) × (tests ≡ front ++ looks s)) → (q : ℕ) → IsNormal k looks (standing_of c q)
  none_normal c fresh q = normal_at (standing_of c q) (λ s tests is. fresh q s tests is)

  pub still_same : (c : Configuration) → ((q : ℕ) → IsNormal k looks (standing_of c q)) → still k looks c ≡ c
  still_same c normal = ap (λ zs. record { variables = c.variables; regions = zs }) (all_normal k looks c.regions normal)

module _ (e : Chart) (rules : IsChart features.Core e) (p : Scl) (q : Tables) (low : IsLowering e p) (valid : IsValid (program_of (numbered p)) q)
    (looks : ℕ → List Transition) (l : Looks (table e) looks) (g : Ground (table e)) where
  abbrev K : Table
  K = table e

  abbrev G : Program
  G = program_of (numbered p)

  -- from where the core chart stands alike with its graph, and nobody has looked
  module _ (c : Configuration) (m : Control) (alike : Alike e p c m) (core : IsCore K looks l g c) (reached : IsReached K c)
      (fresh : (r s : ℕ) (tests : List Transition) → standing_of c r ≡ at.Trying s tests → (front : List Transition) × (tests ≡ front ++ looks s)) where
    n : Control
    n = moves.there e p q low valid [] c c m alike refl

    stands : Stands e p q low valid looks l g c n
    unfolding n
    stands =
        record {
          sound = record { core = core; normal = none_normal K looks c fresh };
          reached = reached;
          alike = moves.alike_there e p q low valid [] c c m alike refl;
          nodes = moves.nodes_there e p q low valid [] c c m alike refl;
          waits = moves.waits_there e p q low valid [] c c m alike refl;
        }

    low_first : Low e p q low valid looks l g c n (greatest_priority q)
    low_first =
        record {
          lines = λ u on goes out. all_ahead G q u n;
          joins = λ u v ws on is. within_greatest q.priorities (moves_join v);
          leaves = λ u v ss waits up round. within_greatest q.priorities (moves_join v);
        }
      where
        moves_join : ℕ → ℕ
        moves_join v = join_at e p q low valid looks l g v

    here : HoldsAt e rules p q low valid looks l g c (record { now = c; control = n }) (greatest_priority q)
    here = record { same = refl; stands = stands; known = low_first }

    pub ranks_first : Inputs → RanksFrom (waiting_machine K looks) (still K looks c)
    ranks_first inputs =
        subst (RanksFrom (waiting_machine K looks)) (sym (still_same K looks c (none_normal K looks c fresh)))
        (ranks_from e rules p q low valid looks l g c (record { now = c; control = n }) (greatest_priority q) here inputs)
