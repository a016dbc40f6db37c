-- A region comes to where something begins: monitors and flags wait as they should too.
use Rattle.std.proofs.Common.{◌≡◌, ℕ, suc, ◌⊎◌, inl, ⊎_elim, Bool, true, false, Some, List, [], ◌∷◌, ◌++◌, length, Contains, refl, sym, ap}
use Rattle.std.proofs.Common.{subst, ◌∙◌, arith, if◌then◌else◌, inr}
use Rattle.core_charts.specs.Aborts.{has_aborts}
use Rattle.chart_machine.specs.declared.standing.Standing.TheVariants as at
use Rattle.chart_machine.specs.declared.standing.Configuration.{Configuration}
use Rattle.chart_machine.specs.declared.table.Table.{Table}
use Rattle.chart_machine.specs.Table.{state_at}
use Rattle.chart_machine.specs.Turns.{standing_of, has_ended, inside, is_guarded, LiesIn, itself, deeper, guards as has_to_guard}
use Rattle.abort_expansion.specs.Flags.{has_join}
use Rattle.abort_expansion.specs.Superstates.{is_prepared}
use Rattle.chart_machine_laws.specs.Tree.{IsThere, around, holder}
use Rattle.chart_machine_laws.proofs.LyingIn.{none_in, head_in, tail_in, head_or_tail, lies_in_outer}
use Rattle.abort_expansion_laws.specs.CoreRows.{own, IsState, IsSuper, Images, flags_around}
use Rattle.abort_expansion_laws.specs.Related.{Related, Watches, IsInside, FlagsAreDown, Stores, still_in, LooksFirst}
use Rattle.chart_machine_laws.proofs.ChartTables.{around_there}
use Rattle.abort_expansion_laws.proofs.SettledInOrder.{ended_back}
use Rattle.abort_expansion_laws.proofs.JustEntered.{EntryRows, Reach}
use Rattle.abort_expansion_laws.proofs.EnteredMonitors.{Unflagged, entered_watched, entered_flags}
use Rattle.abort_expansion_laws.proofs.EnteredReady.{opened_later, over_now}
use Rattle.abort_expansion_laws.proofs.Pending.{IsOpening, IsJoining, IsFresh, IsEmpty, Over, Covered, Flagged, Pending, goes_in, still_going, is_trying, quiet}
use Rattle.abort_expansion_laws.proofs.Pending.{never_joined, never_settled}
use Rattle.abort_expansion_laws.proofs.Arrives.{Arrives}
use Rattle.abort_expansion_laws.proofs.ArrivedReached.{arrived_reached}
use Rattle.abort_expansion_laws.proofs.ArrivedWaits.{lies_or_not, lies_back, core_same_at, ends_same, behind_same, arrived_waits}
use Rattle.abort_expansion_laws.proofs.LooksFirst.{out_looks, still_looks, watch_gone}
use Rattle.abort_expansion_laws.proofs.ArrivedSound.{guards_alone, none_guards}

module _ (k core : Table) (i : Images) (more : EntryRows k core i) (holds_there : (s : ℕ) → IsState k s → IsThere k (holder k s))
    (alone : (v : ℕ) → (state_at core v).regions ≡ [] → inside core v ≡ [])
    (counter_joins : (s x : ℕ) → (i.flags_of s).counter ≡ Some x → has_join (own k s) ≡ true)
    (unflagged : (u : ℕ) → IsSuper k u → is_prepared (flags_around k core i (holder k u)) (own k u) ≡ false → Unflagged k core i u)
    (c d : Configuration) (related : Related k core i c d) (r : ℕ) (next core_next : Configuration)
    (arrives : Arrives k core i more c d r next core_next) where
  reached_in : (q : ℕ) → IsThere k q → LiesIn k q r → Reach k core i more next core_next q
  reached_in q q_there lies = arrived_reached k core i more holds_there c d related r next core_next arrives q q_there lies

  in_or_out : (q : ℕ) → LiesIn k q r ⊎ ¬ LiesIn k q r
  in_or_out q = lies_or_not k core i more holds_there alone c d related r next core_next arrives q

  same : (q : ℕ) → ¬ LiesIn k q r → standing_of next q ≡ standing_of c q
  same q out = arrives.unchanged q out

  core_same : (q : ℕ) → ¬ LiesIn k q r → standing_of core_next (i.thread_of q) ≡ standing_of d (i.thread_of q)
  core_same q out = core_same_at k core i more holds_there alone c d related r next core_next arrives q out

  -- ---- monitors

  watch_same : (o : ℕ) → IsState k o → has_aborts (own k o) ≡ true → ¬ LiesIn k (holder k o) r →
      standing_of core_next (i.watcher_of o) ≡ standing_of d (i.watcher_of o)
  watch_same o here has out =
      arrives.core_unchanged (i.watcher_of o) never
    where
      never : ¬ LiesIn core (i.watcher_of o) (i.thread_of r)
      never (itself is) = (more.rows.watcher o here has).no_thread r (sym is)
      never (deeper y inner held) =
          ⊎_elim
          (λ first. out (itself (more.rows.region_once (holder k o) r (sym (more.rows.held o) ∙ (ap (holder core) first ∙ held)))))
          (λ tail. out (lies_back k core i more holds_there alone c d related r next core_next arrives (holder k o) (deeper y tail held)))
          (head_or_tail (i.main_of o) y (around core (i.thread_of (holder k o)))
          (subst (λ zs. Contains zs y) (more.rows.watcher o here has).encloses inner))

  watched : (o : ℕ) → IsState k o → has_aborts (own k o) ≡ true →
      Watches k core i o (standing_of next (holder k o)) (standing_of core_next (i.watcher_of o)) ⊎
      ((standing_of core_next (i.watcher_of o) ≡ at.Outside) × Covered k core i next core_next o)
  watched o here has =
      ⊎_elim (λ lies. entered_watched k core i more next core_next o here has (reached_in (holder k o) (holds_there o here) lies))
      (λ out.
      inl (subst (λ z. Watches k core i o z (standing_of core_next (i.watcher_of o))) (sym (same (holder k o) out))
      (subst (Watches k core i o (standing_of c (holder k o))) (sym (watch_same o here has out)) (related.watchers o here has))))
      (in_or_out (holder k o))

  -- nobody is inside of what comes to guard, and nobody guards around the region
  unseen_now : (o u : ℕ) → IsState k o → has_aborts (own k o) ≡ true → Contains (around k (holder k o)) u →
      has_to_guard (standing_of next (holder k u)) ≡ true → LooksFirst k core i o u (standing_of core_next (i.watcher_of o))
  unseen_now o u here has inner guards =
      ⊎_elim
      (λ lies.
      let gone : standing_of next (holder k o) ≡ at.Outside =
      guards_alone k core i more holds_there alone c d related r next core_next arrives (holder k o) u lies inner guards in
      out_looks k core i o (standing_of core_next (i.watcher_of o))
      (⊎_elim (λ w. watch_gone k core i o (standing_of next (holder k o)) (standing_of core_next (i.watcher_of o)) w (inr gone)) (λ hides. hides.0)
      (watched o here has)))
      (λ out.
      let before : has_to_guard (standing_of c (holder k u)) ≡ true = sym (ap has_to_guard (same (holder k u) out)) ∙ guards in
      ⊎_elim
      (λ lies_o. absurd (none_guards k core i more holds_there alone c d related r next core_next arrives (holder k o) u lies_o inner out before))
      (λ out_o.
      still_looks k core i o (standing_of d (i.watcher_of o)) (standing_of core_next (i.watcher_of o)) (watch_same o here has out_o)
      (related.unseen o u here has inner before)) (in_or_out (holder k o)))
      (in_or_out (holder k u))

  -- ---- flags

  module _ (u : ℕ) (out : ¬ LiesIn k (holder k u) r) where
    child_out : (q : ℕ) → Contains (state_at k u).regions q → standing_of c q ≡ at.Ended → ¬ LiesIn k q r
    child_out q child over (itself is) =
        let wrong : true ≡ false = sym (ap has_ended over) ∙ (ap (λ z. has_ended (standing_of c z)) is ∙ arrives.going) in absurd cc
    child_out q child over (deeper y inner held) =
        ⊎_elim (λ first. out (itself (ap (holder k) first ∙ held))) (λ tail. out (deeper y tail held))
        (head_or_tail u y (around k (holder k u)) (subst (λ zs. Contains zs y) (more.tree.children u q child) inner))

    one_going : (q : ℕ) → Contains (state_at k u).regions q → IsThere k q → (b : Bool) → has_ended (standing_of c q) ≡ b →
        ◌≡◌ {A = ℕ} (if goes_in k core i next core_next q then 1 else 0) (if b then 0 else 1)
    one_going q child q_there false goes =
        let ends : has_ended (standing_of next q) ≡ false =
        ends_same k core i more holds_there alone c d related r next core_next arrives u q out child ∙ goes in rw (ends) refl
    one_going q child q_there true over =
        let is : standing_of c q ≡ at.Ended = ended_back (standing_of c q) over in
        let ends : has_ended (standing_of next q) ≡ true =
        ends_same k core i more holds_there alone c d related r next core_next arrives u q out child ∙ over in
        let calm : is_trying (standing_of core_next (i.thread_of q)) ≡ false =
        ap is_trying (core_same q (child_out q child is)) ∙
        quiet k core i c q (standing_of c q) (standing_of d (i.thread_of q)) (related.regions q q_there) is in
        rw (ends, calm) refl

    as_many : (qs : List ℕ) → ((q : ℕ) → Contains qs q → Contains (state_at k u).regions q × IsThere k q) →
        still_going k core i next core_next qs ≡ still_in k core i c qs
    as_many [] among = refl
    as_many (q ∷ qs) among =
        let first = among q (head_in q qs) in
        let own_one = one_going q first.0 first.1 (has_ended (standing_of c q)) refl in
        let rest = as_many qs (λ z h. among z (tail_in q z qs h)) in rw (own_one, rest) refl

  flagged : (u : ℕ) → IsState k u → IsInside k core i u (standing_of next (holder k u)) → Flagged k core i next core_next u ⊎ Covered k core i next core_next u
  flagged u here inner =
      ⊎_elim
      (λ lies. entered_flags k core i more next core_next unflagged u (standing_of next (holder k u)) refl inner
      (reached_in (holder k u) (holds_there u here) lies))
      (λ out.
      let down : FlagsAreDown k core i c d.variables u = related.flags u here (subst (IsInside k core i u) (same (holder k u) out) inner) in
      inl (record {
        strong = subst (λ vs. Stores k core i vs (i.flags_of u).strong 0) (sym arrives.core_values) down.strong;
        weak = subst (λ vs. Stores k core i vs (i.flags_of u).weak 0) (sym arrives.core_values) down.weak;
        counter =
            subst (Stores k core i core_next.variables (i.flags_of u).counter)
            (sym (as_many u out (state_at k u).regions (λ q h. (h, child_there u q h))))
            (subst (λ vs. Stores k core i vs (i.flags_of u).counter (still_in k core i c (state_at k u).regions)) (sym arrives.core_values) down.counter);
      }))
      (in_or_out (holder k u))
    where
      child_there : (u q : ℕ) → Contains (state_at k u).regions q → IsThere k q
      child_there u q child =
          around_there k q u
          (subst (λ zs. Contains zs u) (sym (more.tree.children u q child)) (head_in u (around k (holder k u))))

  -- ---- who is opened later, and who is over already

  chart_size : length next.regions ≡ suc (length k.regions)
  chart_size = arrives.chart_regions

  joined : (u : ℕ) → IsJoining k core i next core_next u → Over k core i next core_next u
  joined u a =
      ⊎_elim
      (λ lies.
      over_now k core i more next core_next counter_joins u a (reached_in (holder k u) (holds_there u a.there) lies)
      (λ q q_there inner. reached_in q q_there (lies_in_outer k more.tree.nested (around k q) q (holder k u) r refl (deeper u inner refl) lies)))
      (λ out.
      absurd (never_joined k core i c u (holder k u) (standing_of c (holder k u)) (standing_of d (i.thread_of (holder k u))) a.tests _
      (sym (behind_same k core i more holds_there alone c d related r next core_next arrives u out) ∙ a.over)
      (related.regions (holder k u) (holds_there u a.there)) (sym (same (holder k u) out) ∙ a.open_in_chart) (sym (core_same (holder k u) out) ∙ a.forked)))
      (in_or_out (holder k u))

  readied : (u : ℕ) → IsOpening k core i next core_next u →
      IsFresh k core i next u × (IsEmpty k core i next core_next u × (is_guarded k next (around k (holder k u)) ≡ false))
  readied u a =
      ⊎_elim
      (λ lies. opened_later k core i more next core_next chart_size u a (reached_in (holder k u) (holds_there u a.there) lies))
      (λ out.
      absurd (never_settled k core i c d u (holder k u) (standing_of c (holder k u)) (standing_of d (i.thread_of (holder k u)))
      a.tests (i.entry_of u) _ a.prepared
      (related.regions (holder k u) (holds_there u a.there)) (sym (same (holder k u) out) ∙ a.open_in_chart) (sym (core_same (holder k u) out) ∙ a.preparing)))
      (in_or_out (holder k u))

  no_thread : standing_of core_next 0 ≡ at.Outside
  no_thread =
      arrives.core_unchanged 0 never ∙ related.no_core
    where
      never : ¬ LiesIn core 0 (i.thread_of r)
      never (itself is) =
          let lt = (more.rows.region r arrives.there).there.0 in absurd (omega (lt, is, arith))
      never (deeper y inner held) = none_in y inner

  pub arrived_pending : Pending k core i next 0 core_next
  arrived_pending =
      record {
        more = related.more;
        variables = arrives.core_values ∙ (related.variables ∙ ap (λ vs. vs ++ related.more) (sym arrives.chart_values));
        flag_count = ap length arrives.core_values ∙ related.flag_count;
        core_regions = arrives.core_regions;
        no_core = no_thread;
        waits = λ q q_there. arrived_waits k core i more holds_there alone c d related r next core_next arrives q q_there;
        done = λ q q_there lt. absurd (omega (lt, arith));
        watchers = watched;
        unseen = unseen_now;
        flags = flagged;
        late = λ u o. omega arith;
        joinable = joined;
        ready = readied;
      }
