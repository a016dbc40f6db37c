-- A superstate that can only be left from outside, with nobody left inside: nobody is left inside of its fork either.
use Rattle.std.proofs.Common.{◌≡◌, ℕ, ◌⊎◌, inl, inr, ⊎_elim, Bool, true, false, List, [], ◌∷◌, ◌++◌, map, Contains, sym, ap, subst, ◌∙◌, if◌then◌else◌}
use Rattle.std.proofs.lemmas.List.{append-nil}
use Rattle.scl_graph_laws.proofs.Searching.{unlike}
use Rattle.core_charts.specs.Aborts.{has_aborts}
use Rattle.chart_machine.specs.declared.standing.Standing.TheVariants as at
use Rattle.chart_machine.specs.declared.standing.Configuration.{Configuration}
use Rattle.chart_machine.specs.declared.table.Table.{Table}
use Rattle.chart_machine.specs.Table.{state_at}
use Rattle.chart_machine.specs.Turns.{standing_of, is_guarded}
use Rattle.chart_machine_laws.specs.Tree.{IsThere, around, holder}
use Rattle.chart_machine_laws.proofs.LyingIn.{head_in, head_or_tail}
use Rattle.chart_machine_laws.proofs.ChartTables.{around_there}
use Rattle.abort_expansion_laws.specs.CoreRows.{own, IsState, Images}
use Rattle.abort_expansion_laws.proofs.InsideAround.{inside_around}
use Rattle.abort_expansion_laws.proofs.JustEntered.{EntryRows}
use Rattle.abort_expansion_laws.proofs.Pending.{IsJoining, Over, behind_parts}
use Rattle.abort_expansion_laws.proofs.ThreadsAround.{region_within}
use Rattle.tick_laws.proofs.Lists.{contains_map}

module _ (k core : Table) (i : Images) (more : EntryRows k core i) (c e : Configuration) (u : ℕ) (joining : IsJoining k core i c e u) where
  -- who lies in it is gone: its own regions have ended, and nobody is deeper inside
  abbrev pub Gone : ℕ → Type 0
  Gone q = ((ss : List ℕ) × (around k q ≡ u ∷ ss) × (standing_of c q ≡ at.Ended)) ⊎ (standing_of c q ≡ at.Outside)

  abbrev pub CoreGone : ℕ → Type 0
  CoreGone q = (standing_of e (i.thread_of q) ≡ at.Ended) ⊎ (standing_of e (i.thread_of q) ≡ at.Outside)

  module _ (free : is_guarded k c (around k (holder k u)) ≡ false) (all_gone : (q : ℕ) → IsThere k q → Contains (around k q) u → Gone q)
      (own_ended : (q : ℕ) (ss : List ℕ) → IsThere k q → around k q ≡ u ∷ ss → standing_of e (i.thread_of q) ≡ at.Ended)
      (core_gone : (q : ℕ) → IsThere k q → Contains (around k q) u → CoreGone q)
      (watcher_gone : (o : ℕ) → IsState k o → has_aborts (own k o) ≡ true → Contains (around k (holder k o)) u → standing_of e (i.watcher_of o) ≡ at.Outside)
    where
      no_aborts : has_aborts (own k u) ≡ false
      no_aborts = (behind_parts k core i c u joining.over).1

      core_regions : (state_at core (i.main_of u)).regions ≡ map i.thread_of (state_at k u).regions
      core_regions =
          ap (λ z. z.regions) (more.rows.split u joining.there joining.super (behind_parts k core i c u joining.over).0).row ∙
          unwatched (has_aborts (own k u)) no_aborts
        where
          unwatched : (b : Bool) → b ≡ false → map i.thread_of (state_at k u).regions ++ (if b then i.watcher_of u ∷ [] else []) ≡
              map i.thread_of (state_at k u).regions
          unwatched true wrong = absurd cc
          unwatched false none = append-nil (map i.thread_of (state_at k u).regions)

      child_over : (t : ℕ) → Contains (state_at core (i.main_of u)).regions t → standing_of e t ≡ at.Ended
      child_over t child =
          let r = contains_map i.thread_of (state_at k u).regions t (subst (λ zs. Contains zs t) core_regions child) in
          let direct = more.tree.children u r.0 r.1 in
          subst (λ z. standing_of e z ≡ at.Ended) r.2
          (own_ended r.0 (around k (holder k u)) (around_there k r.0 u (subst (λ zs. Contains zs u) (sym direct) (head_in u (around k (holder k u))))) direct)

      region_in : (q : ℕ) → Contains (around core (i.thread_of q)) (i.main_of u) → Contains (around k q) u
      region_in q inner =
          region_within k core i more.rows q u inner

      thread_gone : (t : ℕ) → Contains (around core t) (i.main_of u) → (standing_of e t ≡ at.Ended) ⊎ (standing_of e t ≡ at.Outside)
      thread_gone t inner = by_origin (more.rows.each t (around_there core t (i.main_of u) inner))
        where
          by_origin : ((r : ℕ) × IsThere k r × (t ≡ i.thread_of r)) ⊎ ((s : ℕ) × IsState k s × (has_aborts (own k s) ≡ true) × (t ≡ i.watcher_of s)) →
              (standing_of e t ≡ at.Ended) ⊎ (standing_of e t ≡ at.Outside)
          by_origin (inl r) =
              let round : Contains (around k r.0) u = region_in r.0 (subst (λ z. Contains (around core z) (i.main_of u)) r.2 inner) in
              subst (λ z. (standing_of e z ≡ at.Ended) ⊎ (standing_of e z ≡ at.Outside)) (sym r.2) (core_gone r.0 r.1 round)
          by_origin (inr s) =
              ⊎_elim
              (λ same.
              absurd (unlike (has_aborts (own k u)) (subst (λ z. has_aborts (own k z) ≡ true) (more.rows.main_once s.0 u same) s.2) no_aborts))
              (λ tail. inr (ap (standing_of e) s.3 ∙ watcher_gone s.0 s.1 s.2 (region_in (holder k s.0) tail)))
              (head_or_tail (i.main_of s.0) (i.main_of u) (around core (i.thread_of (holder k s.0)))
              (subst (λ zs. Contains zs (i.main_of u)) (ap (around core) s.3 ∙ (more.rows.watcher s.0 s.1 s.2).encloses) inner))

      pub fork_over : Over k core i c e u
      fork_over =
          record {
            free = free;
            chart_inside = all_gone;
            ended_there = child_over;
            over_inside = λ t inner. thread_gone t (inside_around core (i.main_of u) t inner);
          }
