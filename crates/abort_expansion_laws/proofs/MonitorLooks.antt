-- A monitor that has yet to look at strong flags around its superstate looks, before its first test: all of them are down.
use Rattle.std.proofs.Common.{◌≡◌, ◌≢◌, ℕ, Bool, true, false, Option, Some, List, [], ◌++◌, map, length}
use Rattle.std.proofs.Common.{Contains, sym, subst, ◌∙◌, arith}
use Rattle.std.specs.Prelude.{reverse}
use Rattle.sc_values.specs.Access.{Access}
use Rattle.sc_values.specs.Runs.{Act}
use Rattle.core_charts.specs.declared.region.Transition.{Transition}
use Rattle.core_charts.specs.Aborts.{has_aborts}
use Rattle.chart_machine.specs.declared.standing.Standing.TheVariants as at
use Rattle.chart_machine.specs.declared.standing.Configuration.{Configuration}
use Rattle.chart_machine.specs.declared.table.Table.{Table}
use Rattle.chart_machine.specs.Turns.{standing_of, guards as has_to_guard, has_work, is_guarded, inside}
use Rattle.chart_machine.specs.Machine.{machine}
use Rattle.abort_expansion.specs.Transitions.{strong_checks}
use Rattle.abort_expansion_laws.specs.Stages.{Entry, Silent, Correspondence}
use Rattle.chart_machine_laws.proofs.LyingIn.{IsNested, around, holder}
use Rattle.chart_machine_laws.specs.Tree.{IsThere}
use Rattle.abort_expansion_laws.specs.CoreRows.{own, IsState, Images, CoreRows, WatcherImage}
use Rattle.abort_expansion_laws.specs.Related.{Watches, LooksFirst, Related}
use Rattle.abort_expansion_laws.proofs.StageReached.{Stage, any_in, inside_in}
use Rattle.abort_expansion_laws.proofs.ImageSteps.{pair}
use Rattle.abort_expansion_laws.proofs.Segments.{Segment}
use Rattle.abort_expansion_laws.proofs.Unchanged.{no_guards, none_among}
use Rattle.abort_expansion_laws.proofs.StartingRegions.{CounterRows}
use Rattle.abort_expansion_laws.proofs.OpensFork.{OpeningRows}
use Rattle.abort_expansion_laws.proofs.FailedChecks.{looks_fail}
use Rattle.abort_expansion_laws.proofs.FlagsDown.{IsOpen, all_down, monitor_lies}
use Rattle.abort_expansion_laws.proofs.MonitorMoved.{moved_related, then_on}
use Rattle.abort_expansion_laws.proofs.YetToLook.{yet_among}

-- region r holds superstate o, and has its turn with a test of it; the monitor of o has its checks in front of these tests
module _ (k core : Table) (i : Images) (rows : CoreRows k core i) (tree : IsNested k) (counts : ℕ → Bool) (written_at : ℕ → ℕ)
    (counters : CounterRows k core i rows counts written_at) (opening : OpeningRows k core i rows)
    (strong_at : (s x : ℕ) → (i.flags_of s).strong ≡ Some x → written_at x ≡ 0) (super_there : (q s : ℕ) → Contains (around k q) s → IsState k s)
    (Told : Configuration → Entry → Type 0)
    (told : (e : Configuration) (t : ℕ) (stage : Option (ℕ × ℕ)) (a : Access) → Told e (Silent t stage a))
    (c d : Configuration) (related : Related k core i c d) (r o : ℕ) (o_there : IsState k o) (has : has_aborts (own k o) ≡ true) (held : holder k o ≡ r)
    (there : IsThere k r) (present : standing_of c r ≢ at.Outside) (works : has_work k c (standing_of c r) ≡ true)
    (free : is_guarded k c (around k r) ≡ false) (yet seen : List ℕ) (parted : around k (holder k o) ≡ reverse yet ++ seen) (rest : List Transition)
    (waits : standing_of d (i.watcher_of o) ≡ at.Trying (i.watching_of o) (strong_checks false 1 (map i.flags_of yet) ++ rest))
    (watches : Watches k core i o (standing_of c (holder k o)) (at.Trying (i.watching_of o) rest)) where
  abbrev corr : Correspondence
  corr = pair k core i rows tree counts written_at

  abbrev g : ℕ
  g = i.watcher_of o

  image : WatcherImage k core i o
  image = rows.watcher o o_there has

  abbrev Now : ℕ → ℕ → Type 0
  Now = Stage k i.thread_of c d

  -- ---- a superstate around has work inside, and does not guard

  each_open : (s : ℕ) → Contains (around k r) s → IsOpen k core i rows tree counts written_at counters opening strong_at Told told c d related g
      (i.watching_of o) s
  each_open s around_it =
      record {
        here = super_there r s around_it;
        opened = related.enclosed r s there present around_it;
        busy = any_in (λ q. has_work k c (standing_of c q)) (inside k s) r (inside_in k s r there around_it) works;
        free = none_among (λ v. has_to_guard (standing_of c (holder k v))) (around k r) s free around_it;
        lies = monitor_lies k core i rows o o_there has s (subst (λ q. Contains (around k q) s) (sym held) around_it);
      }

  -- ---- what is reached is related too

  none_unseen : (s : ℕ) → Contains (around k (holder k o)) s → has_to_guard (standing_of c (holder k s)) ≡ true →
      LooksFirst k core i o s (at.Trying (i.watching_of o) rest)
  none_unseen s inner guards =
      let around_r : Contains (around k r) s = subst (λ q. Contains (around k q) s) held inner in
      let wrong : true ≡ false = sym guards ∙ none_among (λ v. has_to_guard (standing_of c (holder k v))) (around k r) s free around_r in absurd cc

  -- ---- it looks, and what follows does so from there

  abbrev HasLooked : Configuration → Type 0
  HasLooked z = (z.variables ≡ d.variables) × ((standing_of z g ≡ at.Trying (i.watching_of o) rest)
      × (((t : ℕ) → t ≢ g → standing_of z t ≡ standing_of d t) × (length z.regions ≡ length d.regions)))

  looks_now : Segment (machine core) corr Told d Now (λ last. Now) [] HasLooked
  looks_now =
      looks_fail core corr Told told g (i.watching_of o) 1 Now false (map i.flags_of yet) rest d (no_guards k core i rows c d related)
      (let lt = image.there.1 in omega (lt, related.core_regions, arith))
      (all_down k core i rows tree counts written_at counters opening strong_at Told told c d related g (i.watching_of o) yet
      (λ s h. each_open s (subst (λ q. Contains (around k q) s) held (yet_among (around k (holder k o)) yet seen parted s h)))) waits

  pub looked_before : (steps : List Act) (After : Configuration → ℕ → ℕ → Type 0) (Reaches : Configuration → Type 0) →
      ((z : Configuration) → Related k core i c z → standing_of z g ≡ at.Trying (i.watching_of o) rest →
      ((t : ℕ) → t ≢ g → standing_of z t ≡ standing_of d t) →
      Segment (machine core) corr Told z (Stage k i.thread_of c z) After steps Reaches) →
      Segment (machine core) corr Told d Now After steps Reaches
  looked_before steps After Reaches goes_on =
      let z = looks_now.last in
      let is = looks_now.reaches in
      then_on k core i corr Told c d steps After HasLooked Reaches looks_now
      (goes_on z
      (moved_related k core i rows c d related o o_there has rest watches none_unseen z
      (record { values = is.0; here = is.1.0; others = is.1.1.0; size = is.1.1.1 })) is.1.0 is.1.1.0)
