-- A transition enters a final state: flags and forks wait as they should too, and which stages may be reached then.
use Rattle.std.proofs.Common.{◌≡◌, ◌≢◌, ℕ, ◌≤◌, ◌⊎◌, inl, ⊎_elim, Bool, true, false, List, [], ◌∷◌, Contains, refl, sym, ap}
use Rattle.std.proofs.Common.{subst, ◌∙◌, arith, if◌then◌else◌}
use Rattle.sc_values.specs.declared.value.Value.{Value}
use Rattle.scl_graph_laws.proofs.Searching.{unlike}
use Rattle.core_charts.specs.declared.region.Effect.{Effect}
use Rattle.chart_machine.specs.declared.standing.Standing.TheVariants as at
use Rattle.chart_machine.specs.declared.standing.Configuration.{Configuration}
use Rattle.chart_machine.specs.declared.table.Table.{Table}
use Rattle.chart_machine.specs.Table.{state_at}
use Rattle.chart_machine.specs.Turns.{standing_of, has_ended, has_work, is_guarded, guards as has_to_guard}
use Rattle.chart_machine.specs.Steps.{state_in}
use Rattle.tick_laws.proofs.Lists.{same_or_not}
use Rattle.chart_machine_laws.specs.Tree.{IsThere, around, holder}
use Rattle.chart_machine_laws.proofs.LyingIn.{head_in, tail_in}
use Rattle.chart_machine_laws.proofs.ChartTables.{around_there}
use Rattle.abort_expansion_laws.specs.CoreRows.{IsState, is_final, Images, counter_over}
use Rattle.abort_expansion_laws.specs.Related.{Related, IsInside, FlagsAreDown, Stores, still_in}
use Rattle.abort_expansion_laws.proofs.StageReached.{stage_of, Stage}
use Rattle.abort_expansion_laws.proofs.SettledInOrder.{ended_back}
use Rattle.abort_expansion_laws.proofs.Owed.{Counts}
use Rattle.abort_expansion_laws.proofs.StartingRegions.{CounterRows}
use Rattle.abort_expansion_laws.proofs.JustEntered.{EntryRows}
use Rattle.abort_expansion_laws.proofs.StagesEntered.{reached_then}
use Rattle.abort_expansion_laws.proofs.Pending.{IsOpening, IsStarting, Flagged, Pending, IsBusy, starts, opens, joins_then, Reached}
use Rattle.abort_expansion_laws.proofs.Pending.{goes_in, still_going, is_trying, quiet, never_settled}
use Rattle.abort_expansion_laws.proofs.FinalTarget as target
use Rattle.abort_expansion_laws.proofs.FinalTargetValues as values_now
use Rattle.abort_expansion_laws.proofs.FinalTargetWaits.{watcher_apart, final_waits, final_watched}
use Rattle.abort_expansion_laws.proofs.FinalTargetOver.{child, final_over}
use Rattle.abort_expansion_laws.proofs.LooksFirst.{still_looks}

module _ (k core : Table) (i : Images) (more : EntryRows k core i) (holds_there : (s : ℕ) → IsState k s → IsThere k (holder k s))
    (counts : ℕ → Bool) (written_at : ℕ → ℕ) (counters : CounterRows k core i more.rows counts written_at)
    (c d : Configuration) (related : Related k core i c d) (r s p : ℕ) (e : Effect)
    (stands : standing_of c r ≡ at.Acting s (e ∷ []) p) (free : is_guarded k c (around k r) ≡ false) (values : List Value)
    (final : is_final k (state_in k r p) ≡ true) (counted : Counts k core i true (counter_over k core i (around k r)) d.variables values) where
  abbrev next : Configuration
  next = target.next k core i more c d related r s p e stands values final

  abbrev core_next : Configuration
  core_next = target.core_next k core i more c d related r s p e stands values final

  here : standing_of next r ≡ at.Ended
  here = target.here k core i more c d related r s p e stands values final

  core_here : standing_of core_next (i.thread_of r) ≡ at.Ended
  core_here = target.core_here k core i more c d related r s p e stands values final

  same : (q : ℕ) → q ≢ r → standing_of next q ≡ standing_of c q
  same q ne = target.elsewhere k core i more c d related r s p e stands values final q ne

  thread_same : (q : ℕ) → q ≢ r → standing_of core_next (i.thread_of q) ≡ standing_of d (i.thread_of q)
  thread_same q ne = target.thread_elsewhere k core i more c d related r s p e stands values final q ne

  -- ---- flags

  one_going : (q : ℕ) → IsThere k q → ◌≡◌ {A = ℕ} (if goes_in k core i next core_next q then 1 else 0) (if has_ended (standing_of next q) then 0 else 1)
  one_going q there = by_ended (has_ended (standing_of next q)) refl
    where
      no_test : standing_of next q ≡ at.Ended → is_trying (standing_of core_next (i.thread_of q)) ≡ false
      no_test is =
          ⊎_elim (λ its. ap (λ z. is_trying (standing_of core_next (i.thread_of z))) its ∙ ap is_trying core_here)
          (λ ne.
          ap is_trying (thread_same q ne) ∙
          quiet k core i c q (standing_of c q) (standing_of d (i.thread_of q)) (related.regions q there) (sym (same q ne) ∙ is))
          (same_or_not q r)

      by_ended : (b : Bool) → has_ended (standing_of next q) ≡ b →
          ◌≡◌ {A = ℕ} (if goes_in k core i next core_next q then 1 else 0) (if has_ended (standing_of next q) then 0 else 1)
      by_ended false goes = rw (goes) refl
      by_ended true over = let none = no_test (ended_back (standing_of next q) over) in rw (over, none) refl

  as_many : (qs : List ℕ) → ((q : ℕ) → Contains qs q → IsThere k q) → still_going k core i next core_next qs ≡ still_in k core i next qs
  as_many [] there = refl
  as_many (q ∷ qs) there =
      let first = one_going q (there q (head_in q qs)) in
      let rest = as_many qs (λ z h. there z (tail_in q z qs h)) in rw (first, rest) refl

  child_there : (u q : ℕ) → Contains (state_at k u).regions q → IsThere k q
  child_there u q inner =
      around_there k q u (subst (λ zs. Contains zs u) (sym (more.tree.children u q inner)) (head_in u (around k (holder k u))))

  flagged : (u : ℕ) → IsState k u → IsInside k core i u (standing_of next (holder k u)) → Flagged k core i next core_next u
  flagged u is inner =
      let down : FlagsAreDown k core i c d.variables u =
      related.flags u is (target.was_inside k core i more c d related r s p e stands values final u inner) in
      record {
        strong = values_now.flag_stored k core i more counts written_at counters c d related r s p e stands values final counted (i.flags_of u).strong 0
            (λ z its. counters.strong_not u z its) down.strong;
        weak = values_now.flag_stored k core i more counts written_at counters c d related r s p e stands values final counted (i.flags_of u).weak 0
            (λ z its. counters.weak_not u z its) down.weak;
        counter =
            subst (Stores k core i values (i.flags_of u).counter) (sym (as_many (state_at k u).regions (child_there u)))
            (values_now.counter_stored k core i more counts written_at counters c d related r s p e stands values final counted u down);
      }

  -- ---- nothing is opened

  not_opening : (u : ℕ) → IsOpening k core i next core_next u → ⊥
  not_opening u a =
      never_settled k core i c d u (holder k u) (standing_of c (holder k u)) (standing_of d (i.thread_of (holder k u))) a.tests (i.entry_of u) _ a.prepared
      (related.regions (holder k u) (holds_there u a.there)) (sym (same (holder k u) other) ∙ a.open_in_chart)
      (sym (thread_same (holder k u) other) ∙ a.preparing)
    where
      other : holder k u ≢ r
      other its = let wrong : at.Within u a.tests ≡ at.Ended = sym a.open_in_chart ∙ (ap (standing_of next) its ∙ here) in absurd cc

  no_guard : (u : ℕ) → has_to_guard (standing_of next (holder k u)) ≡ true → holder k u ≢ r
  no_guard u guarded_by its = let wrong : true ≡ false = sym guarded_by ∙ (ap (λ q. has_to_guard (standing_of next q)) its ∙ ap has_to_guard here) in absurd cc

  pub final_pending : Pending k core i next 0 core_next
  final_pending =
      let added = values_now.added k core i more counts written_at counters c d related r s p e stands values final counted in
      record {
        more = added.0;
        variables = added.1;
        flag_count = values_now.as_long k core i more counts written_at counters c d related r s p e stands values final counted ∙ related.flag_count;
        core_regions = target.core_size k core i more c d related r s p e stands values final;
        no_core =
            target.core_elsewhere k core i more c d related r s p e stands values final 0
            (λ w. let lt = (target.thread_there k core i more c d related r s p e stands values final).0 in absurd (omega (lt, w, arith))) ∙
            related.no_core;
        waits = λ q there. final_waits k core i more holds_there c d related r s p e stands free values final q there;
        done = λ q there lt. absurd (omega (lt, arith));
        watchers = λ o is has. inl (final_watched k core i more holds_there c d related r s p e stands free values final o is has);
        unseen = λ o u is has inner guarded_by.
            still_looks k core i o (standing_of d (i.watcher_of o)) (standing_of core_next (i.watcher_of o))
            (watcher_apart k core i more holds_there c d related r s p e stands free values final o is has)
            (related.unseen o u is has inner (sym (ap has_to_guard (same (holder k u) (no_guard u guarded_by))) ∙ guarded_by));
        flags = λ u is inner. inl (flagged u is inner);
        late = λ u a. omega arith;
        joinable = λ u a. final_over k core i more holds_there c d related r s p e stands free values final u a;
        ready = λ u a. absurd (not_opening u a);
      }

  -- ---- stages

  low_here : (q : ℕ) → q ≡ r → stage_of k c (standing_of c q) ≤ 1
  low_here q is =
      let one : stage_of k c (standing_of c q) ≡ 1 = ap (λ z. stage_of k c (standing_of c z)) is ∙ ap (stage_of k c) stands in omega (one, arith)

  high_here : (q : ℕ) → q ≡ r → 1 ≤ stage_of k next (standing_of next q)
  high_here q is =
      let one : stage_of k next (standing_of next q) ≡ 1 = ap (λ z. stage_of k next (standing_of next z)) is ∙ ap (stage_of k next) here in omega (one, arith)

  not_starting : (q u : ℕ) → IsThere k q → IsStarting k core i next core_next q u → ⊥
  not_starting q u there a =
      unlike (is_trying (standing_of core_next (i.thread_of q))) (ap is_trying a.counting)
      (⊎_elim (λ its. ap (λ z. is_trying (standing_of core_next (i.thread_of z))) its ∙ ap is_trying core_here)
      (λ ne.
      ap is_trying (thread_same q ne) ∙
      quiet k core i c q (standing_of c q) (standing_of d (i.thread_of q)) (related.regions q there) (sym (same q ne) ∙ a.over_in_chart))
      (same_or_not q r))

  -- who has still to step holds the superstate around the region
  busy_around : (q u o : ℕ) → IsThere k q → IsBusy k core i next core_next q u → Contains (around k q) o → Contains (around k r) o ⊎ (holder k o ≡ r)
  busy_around q u o there (starts a) inner = absurd (not_starting q u there a)
  busy_around q u o there (opens its a) inner = absurd (not_opening u a)
  busy_around q u o there (joins_then its a) inner =
      inl (subst (λ zs. Contains zs o)
      (sym (more.tree.children u r (child k core i more holds_there c d related r s p e stands free values final u a)))
      (tail_in u o (around k (holder k u)) (subst (λ z. Contains (around k z) o) (sym its) inner)))

  pub final_stages : (h n : ℕ) → Stage k i.thread_of c d h n → Reached k core i next core_next h n
  final_stages h n before =
      reached_then k core i more.tree c d related r (λ w. let wrong : at.Acting s (e ∷ []) p ≡ at.Outside = sym stands ∙ w in absurd cc)
      (ap (has_work k c) stands) (λ q. q ≡ r) (λ q. same_or_not q r) (λ q u is inner out. subst (λ z. Contains (around k z) u) is inner) next same core_next
      low_here high_here (λ q o inner. holds_there o (more.super_around q o inner).0) busy_around h n before
