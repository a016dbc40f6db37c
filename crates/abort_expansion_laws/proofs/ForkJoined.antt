-- A fork of what is over is joined: the second of the steps by which what was entered settles.
use Rattle.std.proofs.Common.{◌≡◌, ◌≢◌, ℕ, ◌<◌, Bool, Option, Some, ◌∷◌, length, Contains, ◌∙◌}
use Rattle.std.proofs.lemmas.List.{length-set}
use Rattle.sc_values.specs.Access.{Access}
use Rattle.chart_machine.specs.declared.standing.Standing.TheVariants as at
use Rattle.chart_machine.specs.declared.standing.Configuration.{Configuration}
use Rattle.chart_machine.specs.declared.table.Table.{Table}
use Rattle.chart_machine.specs.Table.{state_at}
use Rattle.chart_machine.specs.Turns.{standing_of, inside}
use Rattle.chart_machine.specs.Steps.{moved}
use Rattle.abort_expansion_laws.specs.Stages.{Entry, Silent, Correspondence}
use Rattle.chart_machine_laws.proofs.LyingIn.{IsNested, around, holder}
use Rattle.abort_expansion_laws.proofs.TablesCorrespond.{IsThere}
use Rattle.abort_expansion_laws.specs.CoreRows.{IsState, Images, CoreRows}
use Rattle.abort_expansion_laws.proofs.Leaving.{drops, set_other, drops_in, drops_out, drops_length}
use Rattle.abort_expansion_laws.proofs.ImageSteps.{pair}
use Rattle.abort_expansion_laws.proofs.Pending.{Sound, IsJoining, Pending, Reached}
use Rattle.abort_expansion_laws.proofs.StartingRegions.{CounterRows}
use Rattle.abort_expansion_laws.proofs.Supplying.{climbs_fewer}
use Rattle.abort_expansion_laws.proofs.SettledInOrder.{Piece}
use Rattle.abort_expansion_laws.proofs.JoinsFork.{joins_fork, after_join, Left}
use Rattle.abort_expansion_laws.proofs.WaitsAfterJoin.{joined_pending, reached_then}

module _ (k core : Table) (i : Images) (rows : CoreRows k core i) (tree : IsNested k) (counts : ℕ → Bool) (written_at : ℕ → ℕ)
    (Told : Configuration → Entry → Type 0)
    (told : (d : Configuration) (t : ℕ) (stage : Option (ℕ × ℕ)) (a : Access) → Told d (Silent t stage a))
    (deeper : (q s : ℕ) → Contains (around k q) s → holder k s < q)
    (core_children : (s t : ℕ) → Contains (state_at core s).regions t → IsThere core t × (around core t ≡ s ∷ around core (holder core s)))
    (counters : CounterRows k core i rows counts written_at)
    (strong_of : (s x : ℕ) → (i.flags_of s).strong ≡ Some x → rows.of_flag x ≡ s) (strong_at : (s x : ℕ) → (i.flags_of s).strong ≡ Some x → written_at x ≡ 0)
    (super_there : (q s : ℕ) → IsThere k q → Contains (around k q) s → IsState k s)
    (c : Configuration) (sound : Sound k core i c)
    (r : ℕ) (d : Configuration) (p : Pending k core i c r d) (there : IsThere k r) (s : ℕ) (held : holder k s ≡ r) (o : IsJoining k core i c d s) where
  abbrev g : ℕ
  g = i.thread_of r

  abbrev e1 : Configuration
  e1 = after_join k core i rows tree counts written_at Told told deeper counters strong_of strong_at super_there c sound r d p there s held o

  abbrev corr : Correspondence
  corr = pair k core i rows tree counts written_at

  in_drop : (t : ℕ) → t ≢ g → Contains (inside core (i.main_of s)) t → standing_of e1 t ≡ at.Outside
  in_drop t ne h = set_other (moved (drops (inside core (i.main_of s))) d.regions) g t _ ne ∙ drops_in (inside core (i.main_of s)) d.regions t h

  out_drop : (t : ℕ) → t ≢ g → ¬ Contains (inside core (i.main_of s)) t → standing_of e1 t ≡ standing_of d t
  out_drop t ne out = set_other (moved (drops (inside core (i.main_of s))) d.regions) g t _ ne ∙ drops_out (inside core (i.main_of s)) d.regions t out

  size_after : length e1.regions ≡ length d.regions
  size_after = length-set (moved (drops (inside core (i.main_of s))) d.regions) g _ ∙ drops_length (inside core (i.main_of s)) d.regions

  pub joined_up : Piece k core i rows tree counts written_at Told deeper c sound r d
  joined_up =
      let t = joins_fork k core i rows tree counts written_at Told told deeper counters strong_of strong_at super_there c sound r d p there s held o in
      let dropped : (q : ℕ) → q ≢ g → Contains (inside core (i.main_of s)) q → standing_of t.last q ≡ at.Outside = λ q ne h. t.reaches.1.1.0 q ne ∙
      in_drop q ne h in
      let same : (q : ℕ) → q ≢ g → ¬ Contains (inside core (i.main_of s)) q → standing_of t.last q ≡ standing_of d q = λ q ne out. t.reaches.1.1.0 q ne ∙
      out_drop q ne out in
      let size : length t.last.regions ≡ length d.regions = t.reaches.1.1.1 ∙ size_after in
      record {
        log = t.log;
        last = t.last;
        follows = t.follows;
        charted = t.charted;
        fits = t.fits;
        climbs = λ rest climbs.
            t.climbs rest
            (climbs_fewer corr (Reached k core i c t.last) (Left k core i rows tree counts written_at Told told deeper counters strong_of strong_at
            super_there c sound r d p there s held o) rest
            (λ h n before. reached_then k core i rows tree counts written_at Told deeper core_children c sound r d p there s held o t.last t.reaches.0
            t.reaches.1.0 dropped same size h n before.1) climbs);
        reaches = joined_pending k core i rows tree counts written_at Told deeper core_children c sound r d p there s held o t.last t.reaches.0 t.reaches.1.0
            dropped same size;
      }
