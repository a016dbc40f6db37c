-- What was entered settles, one region after the other, from what the structure of the expansion owes.
use Rattle.std.proofs.Common.{◌≡◌, ℕ, ◌<◌, Bool, Option, Some, [], ◌∷◌, Contains}
use Rattle.sc_values.specs.Access.{Access}
use Rattle.chart_machine.specs.declared.standing.Configuration.{Configuration}
use Rattle.chart_machine.specs.declared.table.Table.{Table}
use Rattle.chart_machine.specs.Table.{state_at}
use Rattle.chart_machine.specs.Machine.{machine}
use Rattle.abort_expansion_laws.specs.Stages.{Entry, Silent}
use Rattle.chart_machine_laws.proofs.LyingIn.{IsNested, around, holder}
use Rattle.abort_expansion_laws.proofs.TablesCorrespond.{IsThere}
use Rattle.abort_expansion_laws.specs.CoreRows.{IsState, Images, CoreRows}
use Rattle.abort_expansion_laws.proofs.Segments.{Segment}
use Rattle.abort_expansion_laws.proofs.OpenedRows.{OpenedRows, ForkRows}
use Rattle.abort_expansion_laws.proofs.StageReached.{Stage}
use Rattle.abort_expansion_laws.proofs.ImageSteps.{pair}
use Rattle.abort_expansion_laws.proofs.Pending.{Sound, Pending, Reached}
use Rattle.abort_expansion_laws.proofs.StartingRegions.{CounterRows}
use Rattle.abort_expansion_laws.specs.Related.{Related}
use Rattle.abort_expansion_laws.proofs.SettledInOrder.{Steps, settles}
use Rattle.abort_expansion_laws.proofs.CountedDown.{counted_down}
use Rattle.abort_expansion_laws.proofs.ForkJoined.{joined_up}
use Rattle.abort_expansion_laws.proofs.OpensFork.{OpeningRows}
use Rattle.abort_expansion_laws.proofs.ForkOpened.{opened_up}

-- ---- what was entered settles

module _ (k core : Table) (i : Images) (rows : CoreRows k core i) (tree : IsNested k) (core_tree : IsNested core) (counts : ℕ → Bool) (written_at : ℕ → ℕ)
    (Told : Configuration → Entry → Type 0)
    (told : (d : Configuration) (t : ℕ) (stage : Option (ℕ × ℕ)) (a : Access) → Told d (Silent t stage a))
    (deeper : (q s : ℕ) → Contains (around k q) s → holder k s < q)
    (children : (s r : ℕ) → Contains (state_at k s).regions r → around k r ≡ s ∷ around k (holder k s))
    (core_children : (s t : ℕ) → Contains (state_at core s).regions t → IsThere core t × (around core t ≡ s ∷ around core (holder core s)))
    (more : OpeningRows k core i rows) (fork_rows : ForkRows k core i) (opened_rows : OpenedRows k core i)
    (counters : CounterRows k core i rows counts written_at)
    (strong_of : (s x : ℕ) → (i.flags_of s).strong ≡ Some x → rows.of_flag x ≡ s) (strong_at : (s x : ℕ) → (i.flags_of s).strong ≡ Some x → written_at x ≡ 0)
    (super_there : (q s : ℕ) → IsThere k q → Contains (around k q) s → IsState k s)
    (c : Configuration) (sound : Sound k core i c) where
  steps : Steps k core i rows tree counts written_at Told deeper c sound
  steps =
      record {
        starts = λ n d p there s o. counted_down k core i rows tree counts written_at Told told deeper children counters c sound n d p there s o;
        joins = λ n d p there s held o. joined_up k core i rows tree counts written_at Told told deeper core_children counters strong_of strong_at super_there
            c sound n d p there s held o;
        opens = λ n d p there s held o.
            opened_up k core i rows tree core_tree counts written_at Told told deeper children more fork_rows opened_rows c sound n d p there s held o;
      }

  pub entered_settles : (d : Configuration) → Pending k core i c 0 d →
      Segment (machine core) (pair k core i rows tree counts written_at) Told d (Reached k core i c d) (Stage k i.thread_of c) [] (Related k core i c)
  entered_settles d p = settles k core i rows tree counts written_at Told deeper c sound steps d p
