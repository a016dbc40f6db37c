-- A transition enters a final state, and with it the superstate around is over: nobody is left inside of its fork.
use Rattle.std.proofs.Common.{◌≡◌, ◌≢◌, ℕ, zero, suc, ◌<◌, ◌⊎◌, inl, inr, ⊎_elim, true, false, List, [], ◌∷◌, Contains, refl, sym, ap, subst, ◌∙◌}
use Rattle.std.proofs.Common.{arith}
use Rattle.std.proofs.lemmas.Bool.{or_parts}
use Rattle.sc_values.specs.declared.value.Value.{Value}
use Rattle.core_charts.specs.declared.region.Effect.{Effect}
use Rattle.core_charts.specs.Aborts.{has_aborts}
use Rattle.chart_machine.specs.declared.standing.Standing.{Standing}
use Rattle.chart_machine.specs.declared.standing.Standing.TheVariants as at
use Rattle.chart_machine.specs.declared.standing.Configuration.{Configuration}
use Rattle.chart_machine.specs.declared.table.Table.{Table}
use Rattle.chart_machine.specs.Table.{state_at}
use Rattle.chart_machine.specs.Turns.{standing_of, has_ended, guards as has_to_guard, is_guarded}
use Rattle.chart_machine.specs.Steps.{state_in}
use Rattle.tick_laws.proofs.Lists.{same_or_not, list_all_at}
use Rattle.chart_machine_laws.specs.Tree.{IsThere, around, holder}
use Rattle.chart_machine_laws.proofs.LyingIn.{none_in, head_in, head_or_tail}
use Rattle.chart_machine_laws.proofs.ChartTables.{around_there}
use Rattle.abort_expansion_laws.specs.CoreRows.{own, IsState, is_final, Images}
use Rattle.abort_expansion_laws.specs.Related.{Related, Stands, outside, ended, left, trying, acting, entering, guarding, staying, within, behind, is_behind}
use Rattle.abort_expansion_laws.specs.Related.{IsInside, guarded, open_inside}
use Rattle.abort_expansion_laws.proofs.SettledInOrder.{ended_back}
use Rattle.abort_expansion_laws.proofs.JustEntered.{EntryRows}
use Rattle.abort_expansion_laws.proofs.TargetEntered.{thread_out}
use Rattle.abort_expansion_laws.proofs.Unchanged.{there_or_not}
use Rattle.abort_expansion_laws.proofs.OpenForks.{all_over}
use Rattle.abort_expansion_laws.proofs.ForkOver.{Gone, CoreGone, fork_over}
use Rattle.abort_expansion_laws.proofs.Pending.{Sound, IsJoining, Over, never_joined}
use Rattle.abort_expansion_laws.proofs.FinalTarget as target
use Rattle.abort_expansion_laws.proofs.FinalTargetWaits.{over_or_not, was_not, final_watched}
use Rattle.abort_expansion_laws.proofs.LooksFirst.{watch_gone}

module _ (k core : Table) (i : Images) (more : EntryRows k core i) (holds_there : (s : ℕ) → IsState k s → IsThere k (holder k s))
    (c d : Configuration) (related : Related k core i c d) (r s p : ℕ) (e : Effect)
    (stands : standing_of c r ≡ at.Acting s (e ∷ []) p) (free : is_guarded k c (around k r) ≡ false) (values : List Value)
    (final : is_final k (state_in k r p) ≡ true) where
  abbrev next : Configuration
  next = target.next k core i more c d related r s p e stands values final

  abbrev core_next : Configuration
  core_next = target.core_next k core i more c d related r s p e stands values final

  sound : Sound k core i next
  sound = target.final_sound k core i more c d related r s p e stands values final

  same : (q : ℕ) → q ≢ r → standing_of next q ≡ standing_of c q
  same q ne = target.elsewhere k core i more c d related r s p e stands values final q ne

  thread_same : (q : ℕ) → q ≢ r → standing_of core_next (i.thread_of q) ≡ standing_of d (i.thread_of q)
  thread_same q ne = target.thread_elsewhere k core i more c d related r s p e stands values final q ne

  module _ (u : ℕ) (joining : IsJoining k core i next core_next u) where
    holder_other : holder k u ≢ r
    holder_other its =
        let wrong : at.Within u joining.tests ≡ at.Ended = sym joining.open_in_chart ∙
        (ap (standing_of next) its ∙ target.here k core i more c d related r s p e stands values final) in
        absurd cc

    -- it is over since the region ended
    pub child : Contains (state_at k u).regions r
    child =
        ⊎_elim
        (λ as_before.
        absurd (never_joined k core i c u (holder k u) (standing_of c (holder k u)) (standing_of d (i.thread_of (holder k u))) joining.tests _
        (sym as_before ∙ joining.over) (related.regions (holder k u) (holds_there u joining.there))
        (sym (same (holder k u) holder_other) ∙ joining.open_in_chart) (sym (thread_same (holder k u) holder_other) ∙ joining.forked)))
        (λ now. now.0) (over_or_not k core i more holds_there c d related r s p e stands free values final u)

    free_there : is_guarded k next (around k (holder k u)) ≡ false
    free_there =
        target.guarded_alike k core i more c d related r s p e stands values final (around k (holder k u)) ∙
        outer_free (subst (λ zs. is_guarded k c zs ≡ false) (more.tree.children u r child) free)
      where
        outer_free : is_guarded k c (u ∷ around k (holder k u)) ≡ false → is_guarded k c (around k (holder k u)) ≡ false
        outer_free none = (or_parts (has_to_guard (standing_of c (holder k u))) _ none).1

    -- ---- in the chart

    abbrev IsGone : ℕ → Type 0
    IsGone q = Gone k core i more next core_next u joining q

    own_over : (q : ℕ) (ss : List ℕ) → around k q ≡ u ∷ ss → standing_of next q ≡ at.Ended
    own_over q ss direct =
        ended_back (standing_of next q)
        (list_all_at (λ z. has_ended (standing_of next z)) (state_at k u).regions q (all_over k core i next u joining.over) (more.tree.innermost q u ss direct))

    gone_empty : (q v : ℕ) → IsGone q → IsInside k core i v (standing_of next q) → ⊥
    gone_empty q v gone inner = ⊎_elim (λ over. never (standing_of next q) inner (inl over.2)) (λ out. never (standing_of next q) inner (inr out)) gone
      where
        never : (x : Standing) → IsInside k core i v x → (x ≡ at.Ended) ⊎ (x ≡ at.Outside) → ⊥
        never _ (guarded tests) is = ⊎_elim (λ w. absurd cc) (λ w. absurd cc) is
        never _ (open_inside tests) is = ⊎_elim (λ w. absurd cc) (λ w. absurd cc) is

    gone : (bound q : ℕ) → q < bound → IsThere k q → Contains (around k q) u → IsGone q
    gone zero q lt q_there inner = absurd (omega (lt, arith))
    gone (suc bound) q lt q_there inner =
        by_round (around k q) refl
        (λ v in_v up. let low = more.tree.deeper q v in_v in gone bound (holder k v) (omega (low, lt, arith)) (around_there k (holder k v) u up) up)
      where
        by_round : (zs : List ℕ) → around k q ≡ zs → ((v : ℕ) → Contains (around k q) v → Contains (around k (holder k v)) u → IsGone (holder k v)) → IsGone q
        by_round [] round rest = absurd (none_in u (subst (λ zs. Contains zs u) round inner))
        by_round (v ∷ vs) round rest =
            ⊎_elim
            (λ is.
            let direct : around k q ≡ u ∷ vs = round ∙ ap (λ z. z ∷ vs) is in
            inl (vs, direct, own_over q vs direct))
            (λ tail.
            let in_v : Contains (around k q) v = subst (λ zs. Contains zs v) (sym round) (head_in v vs) in
            let up : Contains (around k (holder k v)) u = subst (λ zs. Contains zs u) (more.tree.nested.upward q v vs round) tail in
            ⊎_elim (λ out. inr out)
            (λ present. absurd (gone_empty (holder k v) v (rest v in_v up) (sound.enclosed q v q_there present in_v)))
            (there_or_not (standing_of next q)))
            (head_or_tail v u vs (subst (λ zs. Contains zs u) round inner))

    all_gone : (q : ℕ) → IsThere k q → Contains (around k q) u → IsGone q
    all_gone q q_there inner = gone (suc q) q (omega arith) q_there inner

    -- ---- in the core

    -- the thread of a region of a superstate that was not over
    thread_by : (q : ℕ) (ss : List ℕ) → around k q ≡ u ∷ ss → (x y : Standing) → Stands k core i c q x y → x ≡ at.Ended → y ≡ at.Ended
    thread_by q ss direct _ _ outside w = absurd cc
    thread_by q ss direct _ _ (ended inner) w = refl
    thread_by q ss direct _ _ (left v vs round over) w =
        let is_u : v ≡ u = let both : v ∷ vs ≡ u ∷ ss = sym round ∙ direct in cc in
        absurd (was_not k core i more holds_there c d related r s p e stands free values final u child
        (subst (λ z. is_behind k core i c z ≡ true) is_u over))
    thread_by q ss direct _ _ (trying v tests simple its) w = absurd cc
    thread_by q ss direct _ _ (acting v b g f effects lt) w = absurd cc
    thread_by q ss direct _ _ (entering v fork t tests super its leads) w = absurd cc
    thread_by q ss direct _ _ (guarding v join t tests has its leads) w = absurd cc
    thread_by q ss direct _ _ (staying v tests super its stay) w = absurd cc
    thread_by q ss direct _ _ (within v join tests super its apart still leads) w = absurd cc
    thread_by q ss direct _ _ (behind v tests super its over) w = absurd cc

    thread_over : (q : ℕ) (ss : List ℕ) → IsThere k q → around k q ≡ u ∷ ss → standing_of core_next (i.thread_of q) ≡ at.Ended
    thread_over q ss q_there direct =
        ⊎_elim
        (λ is. ap (λ z. standing_of core_next (i.thread_of z)) is ∙ target.core_here k core i more c d related r s p e stands values final)
        (λ ne.
        thread_same q ne ∙
        thread_by q ss direct (standing_of c q) (standing_of d (i.thread_of q)) (related.regions q q_there) (sym (same q ne) ∙ own_over q ss direct))
        (same_or_not q r)

    core_gone : (q : ℕ) → IsThere k q → Contains (around k q) u → CoreGone k core i more next core_next u joining q
    core_gone q q_there inner =
        ⊎_elim (λ over. inl (thread_over q over.0 q_there over.1))
        (λ out.
        ⊎_elim
        (λ is.
        let wrong : at.Ended ≡ at.Outside = sym (target.here k core i more c d related r s p e stands values final) ∙ (ap (standing_of next) (sym is) ∙ out) in
        absurd cc)
        (λ ne.
        inr (thread_same q ne ∙
        thread_out k core i more c d related q (standing_of c q) (standing_of d (i.thread_of q)) (related.regions q q_there) (sym (same q ne) ∙ out)))
        (same_or_not q r))
        (all_gone q q_there inner)

    watcher_gone : (o : ℕ) → IsState k o → has_aborts (own k o) ≡ true → Contains (around k (holder k o)) u →
        standing_of core_next (i.watcher_of o) ≡ at.Outside
    watcher_gone o is has inner =
        watch_gone k core i o (standing_of next (holder k o)) (standing_of core_next (i.watcher_of o))
        (final_watched k core i more holds_there c d related r s p e stands free values final o is has)
        (⊎_elim (λ over. inl over.2) (λ out. inr out) (all_gone (holder k o) (around_there k (holder k o) u inner) inner))

    pub final_over : Over k core i next core_next u
    final_over = fork_over k core i more next core_next u joining free_there all_gone thread_over core_gone watcher_gone
