-- Of what was just entered: who is opened later is fresh and empty, and who is over already has nobody left inside.
use Rattle.std.proofs.Common.{◌≡◌, ℕ, suc, true, false, Some, None, [], ◌∷◌, length, Contains, sym, ◌∙◌}
use Rattle.scl_graph_laws.proofs.Searching.{unlike}
use Rattle.chart_machine.specs.declared.standing.Standing.TheVariants as at
use Rattle.chart_machine.specs.declared.standing.Configuration.{Configuration}
use Rattle.chart_machine.specs.declared.table.Table.{Table}
use Rattle.chart_machine.specs.Table.{state_at}
use Rattle.chart_machine.specs.Turns.{is_guarded}
use Rattle.abort_expansion.specs.Flags.{has_join}
use Rattle.abort_expansion.specs.Transitions.{go}
use Rattle.abort_expansion.specs.Superstates.{is_prepared, resets}
use Rattle.chart_machine_laws.specs.Tree.{IsThere, around, holder}
use Rattle.abort_expansion_laws.specs.CoreRows.{own, joins, Images, flags_around}
use Rattle.abort_expansion_laws.proofs.Pending.{IsOpening, IsEmpty, IsFresh, IsJoining, Over, behind_unprepared}
use Rattle.abort_expansion_laws.proofs.JustEntered.{EntryRows, Reach}
use Rattle.abort_expansion_laws.proofs.EnteredMonitors.{IsOpen, to_prepare, opened_now, covered_by, entered_open}
use Rattle.abort_expansion_laws.proofs.EnteredOver.{entered_over}
use Rattle.abort_expansion_laws.proofs.ThreadsAround.{thread_within}

module _ (k core : Table) (i : Images) (more : EntryRows k core i) (c e : Configuration) where
  pub opened_later : length c.regions ≡ suc (length k.regions) → (u : ℕ) → IsOpening k core i c e u → Reach k core i more c e (holder k u) →
      IsFresh k core i c u × (IsEmpty k core i c e u × (is_guarded k c (around k (holder k u)) ≡ false))
  opened_later chart_size u a reached = by_open (entered_open k core i more c e u a.tests a.open_in_chart reached)
    where
      by_open : IsOpen k core i more c e u → IsFresh k core i c u × (IsEmpty k core i c e u × (is_guarded k c (around k (holder k u)) ≡ false))
      by_open (to_prepare free young empty opening) = ((λ zs size none q in_u. young zs (size ∙ chart_size) none q in_u), (empty, free))
      by_open (opened_now free super plain) = absurd (unlike (is_prepared (flags_around k core i (holder k u)) (own k u)) a.prepared plain)
      by_open (covered_by w round opening empty) =
          let wrong : at.Trying (i.entry_of u) (go true None (resets (i.flags_of u) (length (state_at k u).regions)) a.fork ∷ []) ≡ at.Outside =
          sym a.preparing ∙ empty (i.thread_of (holder k u)) (thread_within k core i more.rows (holder k u) w round) in
          absurd cc

  pub over_now : ((s x : ℕ) → (i.flags_of s).counter ≡ Some x → has_join (own k s) ≡ true) → (u : ℕ) → IsJoining k core i c e u →
      Reach k core i more c e (holder k u) → ((q : ℕ) → IsThere k q → Contains (around k q) u → Reach k core i more c e q) → Over k core i c e u
  over_now counter_joins u a reached inside = by_open (entered_open k core i more c e u a.tests a.open_in_chart reached)
    where
      plain : is_prepared (flags_around k core i (holder k u)) (own k u) ≡ false
      plain = behind_unprepared k core i c u a.over

      by_open : IsOpen k core i more c e u → Over k core i c e u
      by_open (to_prepare free young empty opening) =
          absurd (unlike (is_prepared (flags_around k core i (holder k u)) (own k u)) opening.prepared plain)
      by_open (opened_now free super unprepared) = entered_over k core i more c e counter_joins u a free inside
      by_open (covered_by w round opening empty) =
          let wrong : at.Within (i.main_of u) (joins a.join ∷ []) ≡ at.Outside =
          sym a.forked ∙ empty (i.thread_of (holder k u)) (thread_within k core i more.rows (holder k u) w round) in
          absurd cc
