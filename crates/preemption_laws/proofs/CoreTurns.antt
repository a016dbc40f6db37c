-- Each step of a chart that reads or writes is one that a thread of its core chart may take now: that of its region, or a monitor.
use Rattle.std.proofs.Common.{◌≡◌, ℕ, Bool, true, false, not, if◌then◌else◌, ◌&&◌, None, List, [], ◌∷◌, ◌++◌}
use Rattle.std.proofs.Common.{map, Contains, refl, sym, ap, subst}
use Rattle.std.proofs.lemmas.Bool.{cases_Bool, or_right, and_parts, not-true}
use Rattle.std.proofs.Common.{◌∙◌, ◌⊎◌, ⊎_elim, length}
use Rattle.sc_values.specs.Access.{Access, no_access}
use Rattle.core_charts.specs.declared.features.Features.TheVariants as features
use Rattle.core_charts.specs.declared.region.Effect.{Effect}
use Rattle.core_charts.specs.declared.region.Transition.{Transition}
use Rattle.core_charts.specs.Aborts.{has_aborts, has_strong, has_weak}
use Rattle.core_charts.specs.Chart.{Chart}
use Rattle.core_charts.specs.Rules.{IsChart}
use Rattle.core_charts.specs.Tests.{is_join, is_weak, weak_aborts}
use Rattle.chart_machine.specs.declared.standing.Standing.{Standing}
use Rattle.chart_machine.specs.declared.standing.Standing.TheVariants as at
use Rattle.chart_machine.specs.declared.standing.Configuration.{Configuration}
use Rattle.chart_machine.specs.declared.table.Table.{Table}
use Rattle.chart_machine.specs.Table.{table, state_at}
use Rattle.chart_machine.specs.Turns.{standing_of, has_work, is_guarded, inside_is_done, is_enabled}
use Rattle.chart_machine.specs.Steps.{access_of, access_of_trigger}
use Rattle.abort_expansion.specs.Expansion.{expanded}
use Rattle.abort_expansion.specs.Superstates.{resets}
use Rattle.abort_expansion.specs.Transitions.{counting, go, led, led_by, place_of, raising}
use Rattle.chart_machine_laws.specs.Tree.{IsThere, around, holder}
use Rattle.abort_expansion_laws.specs.CoreRows.{own, IsState, Images, CoreRows}
use Rattle.abort_expansion_laws.specs.Related.{monitor_last}
use Rattle.abort_expansion_laws.specs.Related.{Related, held_back, raises, raise_each}
use Rattle.abort_expansion_laws.proofs.CasesFollowed.{has_from}
use Rattle.abort_expansion_laws.proofs.EffectFollowed.{IsActing, acting_back}
use Rattle.abort_expansion_laws.proofs.EntryTestFails.{IsEntering, entering_back}
use Rattle.abort_expansion_laws.proofs.KnownVariables.{present_there}
use Rattle.abort_expansion_laws.proofs.OwnTests.{OwnTests, IsOwn, IsClosing}
use Rattle.abort_expansion_laws.proofs.QuietBegins.{state_with_aborts}
use Rattle.abort_expansion_laws.proofs.StrongNotTaken.{IsGuarding, guarding_back, MonitorGuards}
use Rattle.abort_expansion_laws.proofs.TestFails.{IsTrying, trying_back, no_front}
use Rattle.abort_expansion_laws.proofs.TestHolds.{counting_first}
use Rattle.abort_expansion_laws.proofs.TestTargets.{ends_untested}
use Rattle.abort_expansion_laws.proofs.TicksOfCharts as ticks
use Rattle.abort_expansion_laws.proofs.Unchanged.{never_guarded}
use Rattle.abort_expansion_laws.proofs.WeakNotTaken.{IsWithin, within_back, MonitorWaits}
use Rattle.abort_expansion_laws.proofs.HasLooked.{looked_strong, looked_weak}
use Rattle.abort_expansion_laws.proofs.MonitorsReady.{IsReady}

module _ (c : Chart) (rules : IsChart features.Extended c) (core_rules : IsChart features.Core (expanded c)) where
  abbrev k : Table
  k = table c

  abbrev core : Table
  core = table (expanded c)

  abbrev i : Images
  i = ticks.i c rules core_rules

  abbrev rows : CoreRows k core i
  rows = ticks.rows c rules core_rules

  -- a thread has its turn, to do this
  pub record HasTurn (d : Configuration) (t : ℕ) (a : Access) : Type 0 where
    pub on : is_enabled core d t ≡ true
    pub does : access_of (standing_of d t) ≡ a

  -- the thread that takes the step of a region that stands there: that of a monitor, while it makes tests, or its own
  abbrev pub taker : Standing → ℕ → ℕ
  taker (at.Guarding o tests) q = i.watcher_of o
  taker (at.Within o (t ∷ tests)) q = if is_join t.kind then i.thread_of q else i.watcher_of o
  taker other q = i.thread_of q

  -- the step of region q is taken so, or it neither reads nor writes
  pub data TakenBy (now d : Configuration) (q : ℕ) : Type 0 where
    by_thread : taker (standing_of now q) q ≡ i.thread_of q → HasTurn d (i.thread_of q) (access_of (standing_of now q)) → TakenBy now d q
    by_monitor : (o : ℕ) → IsState k o → holder k o ≡ q → has_aborts (own k o) ≡ true → taker (standing_of now q) q ≡ i.watcher_of o →
        HasTurn d (i.watcher_of o) (access_of (standing_of now q)) → TakenBy now d q
    by_nobody : access_of (standing_of now q) ≡ no_access → TakenBy now d q

  module _ (now d : Configuration) (related : Related k core i now d) (ready : (o : ℕ) → IsReady k core i now d o) where
    tries : (t n : ℕ) (w : Transition) (ws : List Transition) (a : Access) → access_of_trigger w.trigger ≡ a → standing_of d t ≡ at.Trying n (w ∷ ws) →
        HasTurn d t a
    tries t n w ws a does stands =
        record { on = rw (stands, never_guarded k core i rows now d related (around core t)) refl; does = ap access_of stands ∙ does }

    acts : (t n p : ℕ) (e : Effect) (es : List Effect) (a : Access) → access_of (at.Acting n (e ∷ es) p) ≡ a → standing_of d t ≡ at.Acting n (e ∷ es) p →
        HasTurn d t a
    acts t n p e es a does stands =
        record { on = rw (stands, never_guarded k core i rows now d related (around core t)) refl; does = ap access_of stands ∙ does }

    module _ (owns : OwnTests k now) (q : ℕ) (on : is_enabled k now q ≡ true) where
      both : (has_work k now (standing_of now q) ≡ true)
          × ((not (is_guarded k now (around k q)) && inside_is_done k now (standing_of now q)) ≡ true)
      both = and_parts (has_work k now (standing_of now q)) (not (is_guarded k now (around k q)) && inside_is_done k now (standing_of now q)) on

      free : is_guarded k now (around k q) ≡ false
      free = not-true (is_guarded k now (around k q)) (and_parts (not (is_guarded k now (around k q))) (inside_is_done k now (standing_of now q)) both.1).0

      there : IsThere k q
      there = present_there k core i now d related q (λ out. let wrong : true ≡ false = sym both.0 ∙ ap (has_work k now) out in absurd cc)

      by_trying : (s : ℕ) (t : Transition) (tests : List Transition) → standing_of now q ≡ at.Trying s (t ∷ tests) → TakenBy now d q
      by_trying s t tests is =
          let b : IsTrying k core i now q s (t ∷ tests) (standing_of d (i.thread_of q)) =
          trying_back k core i now q (standing_of now q) (standing_of d (i.thread_of q)) (related.regions q there) s (t ∷ tests) is in
          by_thread (ap (λ x. taker x q) is)
          (tries (i.thread_of q) (i.main_of s) (led (i.places_of q) t) (map (led (i.places_of q)) tests ++ held_back k core i q)
          (access_of (standing_of now q)) (sym (ap access_of is)) (b.is ∙ ap (at.Trying (i.main_of s)) (no_front k core i now q (t ∷ tests) free)))

      by_acting : (s p : ℕ) (e : Effect) (es : List Effect) → standing_of now q ≡ at.Acting s (e ∷ es) p → TakenBy now d q
      by_acting s p e es is =
          let b : IsActing k i q p (e ∷ es) (standing_of d (i.thread_of q)) =
          acting_back k core i now q (standing_of now q) (standing_of d (i.thread_of q)) (related.regions q there) s p (e ∷ es) is in
          by_thread (ap (λ x. taker x q) is)
          (acts (i.thread_of q) b.from (place_of (i.places_of q) p) e (counting (i.places_of q) p es) (access_of (standing_of now q)) (sym (ap access_of is))
          (b.is ∙ ap (λ zs. at.Acting b.from zs (place_of (i.places_of q) p)) (counting_first (i.places_of q) p e es)))

      by_entering : (s : ℕ) (t : Transition) (tests : List Transition) → standing_of now q ≡ at.Entering s (t ∷ tests) → TakenBy now d q
      by_entering s t tests is =
          let b : IsEntering k core i q s (t ∷ tests) (standing_of d (i.thread_of q)) =
          entering_back k core i now q (standing_of now q) (standing_of d (i.thread_of q)) (related.regions q there) s (t ∷ tests) is in
          by_thread (ap (λ x. taker x q) is)
          (tries (i.thread_of q) (i.entry_of s) (led_by (i.places_of q) t.trigger t)
          (map (λ z. led_by (i.places_of q) z.trigger z) tests ++ go true None (resets (i.flags_of s) (length (state_at k s).regions)) b.fork ∷ [])
          (access_of (standing_of now q)) (sym (ap access_of is)) b.is)

      by_guarding : (o : ℕ) (t : Transition) (tests : List Transition) → standing_of now q ≡ at.Guarding o (t ∷ tests) → TakenBy now d q
      by_guarding o t tests is =
          let b : IsGuarding k core i q o (standing_of d (i.thread_of q)) =
          guarding_back k core i now q (standing_of now q) (standing_of d (i.thread_of q)) (related.regions q there) o (t ∷ tests) is in
          let here : IsState k o = state_with_aborts k o b.has in
          let m : MonitorGuards k core i o t tests (standing_of d (i.watcher_of o)) =
          looked_strong k core i o (standing_of now (holder k o)) (standing_of d (i.watcher_of o))
          ((ready o).looked here b.has (subst (λ p. is_guarded k now (around k p) ≡ false) (sym b.held) free)) t tests (ap (standing_of now) b.held ∙ is) in
          let flag = rows.strong_there o m.number t here m.first in
          by_monitor o here b.held b.has (ap (λ x. taker x q) is)
          (tries (i.watcher_of o) (i.watching_of o) (raises (λ z. false) flag.0 (m.number, t)) (map (raises (λ z. false) flag.0) m.others
          ++ (raising (λ z. z.immediate) 1 (i.flags_of o).weak 1 (weak_aborts (own k o)) ++ monitor_last k core i o))
          (access_of (standing_of now q)) (sym (ap access_of is))
          (m.is
          ∙ ap (λ f. at.Trying (i.watching_of o) (raise_each (λ z. false) f ((m.number, t) ∷ m.others)
          ++ (raising (λ z. z.immediate) 1 (i.flags_of o).weak 1 (weak_aborts (own k o)) ++ monitor_last k core i o))) flag.1))

      by_weak : (o : ℕ) (t : Transition) (tests : List Transition) → standing_of now q ≡ at.Within o (t ∷ tests) → Contains (own k o) t →
          is_join t.kind ≡ false → is_weak t.kind ≡ true → TakenBy now d q
      by_weak o t tests is own_one no_join weak =
          let has : has_aborts (own k o) ≡ true =
          or_right (has_strong (own k o)) (has_weak (own k o)) (has_from (λ z. is_weak z.kind) (own k o) t own_one weak) in
          let b : IsWithin k core i now q o (standing_of d (i.thread_of q)) =
          within_back k core i now q o has (standing_of now q) (standing_of d (i.thread_of q)) (related.regions q there) (t ∷ tests) is in
          let here : IsState k o = state_with_aborts k o has in
          let m : MonitorWaits k core i o t tests (standing_of d (i.watcher_of o)) =
          looked_weak k core i o (standing_of now (holder k o)) (standing_of d (i.watcher_of o))
          ((ready o).looked here has (subst (λ p. is_guarded k now (around k p) ≡ false) (sym b.held) free)) t
          tests (ap (standing_of now) b.held ∙ is) no_join in
          let flag = rows.weak_there o m.number t here m.first in
          by_monitor o here b.held has
          (ap (λ x. taker x q) is ∙ ap (λ (z : Bool). if z then i.thread_of q else i.watcher_of o) no_join)
          (tries (i.watcher_of o) (i.watching_of o) (raises (λ z. z.immediate) flag.0 (m.number, t))
          (map (raises (λ z. z.immediate) flag.0) m.others ++ monitor_last k core i o) (access_of (standing_of now q)) (sym (ap access_of is))
          (m.is ∙ ap (λ f. at.Trying (i.watching_of o) (raise_each (λ z. z.immediate) f ((m.number, t) ∷ m.others) ++ monitor_last k core i o))
          flag.1))

      by_within : (o : ℕ) (t : Transition) (tests : List Transition) → standing_of now q ≡ at.Within o (t ∷ tests) → IsClosing k o t → TakenBy now d q
      by_within o t tests is closes = by (cases_Bool (is_join t.kind))
        where
          weak_one : is_join t.kind ≡ false → (is_weak t.kind ≡ true) ⊎ (is_join t.kind ≡ true) → is_weak t.kind ≡ true
          weak_one none s = ⊎_elim (λ weak. weak) (λ join. let wrong : true ≡ false = sym join ∙ none in absurd cc) s

          by : (is_join t.kind ≡ true) ⊎ (is_join t.kind ≡ false) → TakenBy now d q
          by s = ⊎_elim
              (λ join. by_nobody (ap access_of is ∙ ap access_of_trigger (ends_untested features.Extended c rules o t closes.0 join)))
              (λ none. by_weak o t tests is closes.0 none (weak_one none closes.1)) s

      by_standing : (x : Standing) → standing_of now q ≡ x → TakenBy now d q
      by_standing (at.Trying s (t ∷ tests)) is = by_trying s t tests is
      by_standing (at.Acting s (e ∷ es) p) is = by_acting s p e es is
      by_standing (at.Entering s (t ∷ tests)) is = by_entering s t tests is
      by_standing (at.Guarding o (t ∷ tests)) is = by_guarding o t tests is
      by_standing (at.Within o (t ∷ tests)) is = by_within o t tests is (subst (IsOwn k) is (owns q)).0
      by_standing at.Outside is = by_nobody (ap access_of is)
      by_standing at.Ended is = by_nobody (ap access_of is)
      by_standing (at.Trying s []) is = by_nobody (ap access_of is)
      by_standing (at.Acting s [] p) is = by_nobody (ap access_of is)
      by_standing (at.Entering s []) is = by_nobody (ap access_of is)
      by_standing (at.Guarding o []) is = by_nobody (ap access_of is)
      by_standing (at.Within o []) is = by_nobody (ap access_of is)

      pub taken_by : TakenBy now d q
      taken_by = by_standing (standing_of now q) refl
