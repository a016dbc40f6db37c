-- Who stands in a state of a chart has tests of that state, as the table has them.
use Rattle.std.proofs.Common.{◌≡◌, ℕ, zero, suc, ◌+◌, ◌<◌, ◌≤◌, ◌⊎◌, ⊎_elim, Option, Some, List, [], ◌∷◌, map, length, slice_get, slice_set}
use Rattle.std.proofs.Common.{unwrap_or, Contains, refl, sym, ap, subst, ◌∙◌, arith, Bool, true, false, inl, inr, filter, cond}
use Rattle.std.proofs.lemmas.Option.{slice_get_past}
use Rattle.std.specs.List.{list_all}
use Rattle.std.proofs.lemmas.Bool.{cases_lt}
use Rattle.sc_text.proofs.EachItem.{Each, each_append, each_more, each_of, each_filter}
use Rattle.sc_graph.specs.Tick.{Inputs}
use Rattle.core_charts.specs.declared.region.Effect.{Effect}
use Rattle.core_charts.specs.declared.region.Transition.{Transition}
use Rattle.core_charts.specs.Tests.{is_strong, is_weak, is_join, at_once, strong_aborts, weak_aborts, terminations, closing_tests, first_closing_tests}
use Rattle.chart_machine.specs.declared.standing.Standing.{Standing}
use Rattle.chart_machine.specs.declared.standing.Standing.TheVariants as at
use Rattle.chart_machine.specs.declared.standing.Move.{Move}
use Rattle.chart_machine.specs.declared.standing.Configuration.{Configuration}
use Rattle.chart_machine.specs.declared.table.StateRow.{StateRow}
use Rattle.chart_machine.specs.declared.table.Table.{Table}
use Rattle.chart_machine.specs.Table.{state_at}
use Rattle.chart_machine.specs.Turns.{standing_of, inside}
use Rattle.chart_machine.specs.Steps.{to, moved, state_in, dropped, acts, taken, entering_on, guarding_on, step}
use Rattle.chart_machine.specs.Machine.{initial, start, woken, guarded_first, is_outside, regions_at_start}
use Rattle.chart_machine.proofs.Outside.{within_or_past}
use Rattle.tick_laws.proofs.Lists.{same_or_not, contains_get}
use Rattle.chart_machine_laws.proofs.LyingIn.{around, holder, head_in, tail_in}
use Rattle.chart_machine_laws.proofs.ChartTables.{around_there}
use Rattle.chart_lowering_laws.proofs.Entering.{moved_length}
use Rattle.abort_expansion_laws.specs.CoreRows.{own, IsState, IsSuper, Images}
use Rattle.abort_expansion_laws.proofs.ChartSteps.{Makes, takes_trying, takes_entering, takes_guarding, takes_within, tries_on, enters_on, guards_on}
use Rattle.abort_expansion_laws.proofs.ChartSteps.{waits_on, acts_on, StepMade, step_made}
use Rattle.abort_expansion_laws.proofs.EnteredAlike.{AreEntered}
use Rattle.abort_expansion_laws.proofs.FreshInside.{nobody_there}
use Rattle.abort_expansion_laws.proofs.StateEntry.{Entry, entry_ends, entry_tries, entry_guards, entry_opens}
use Rattle.abort_expansion_laws.proofs.Unchanged.{get_same, get_other}
use Rattle.abort_expansion_laws.proofs.WokenConfigurations.{woken_at}

module _ (k : Table) where
  abbrev pub AreOwn : ℕ → List Transition → Type 0
  AreOwn s tests = Each (λ t. Contains (own k s) t) tests

  -- in an opened superstate only weak aborts and terminations are tested
  abbrev pub IsClosing : ℕ → Transition → Type 0
  IsClosing s t = Contains (own k s) t × ((is_weak t.kind ≡ true) ⊎ (is_join t.kind ≡ true))

  abbrev pub AreClosing : ℕ → List Transition → Type 0
  AreClosing s tests = Each (λ t. IsClosing s t) tests

  abbrev pub IsOwn : Standing → Type 0
  IsOwn (at.Trying s tests) = AreOwn s tests
  IsOwn (at.Entering s tests) = IsSuper k s × AreOwn s tests
  IsOwn (at.Guarding s tests) = AreOwn s tests
  IsOwn (at.Within s tests) = AreClosing s tests
  IsOwn other = Unit {0}

  abbrev IsOwnMove : Move → Type 0
  IsOwnMove m = IsOwn m.standing

  abbrev pub OwnTests : Configuration → Type 0
  OwnTests c = (r : ℕ) → IsOwn (standing_of c r)

  -- ---- the tests of a state

  all_own : (s : ℕ) → AreOwn s (own k s)
  all_own s = each_of (λ t. Contains (own k s) t) (own k s) (λ n t is. contains_get (own k s) n t is)

  at_once_own : (s : ℕ) → AreOwn s (at_once (own k s))
  at_once_own s = each_filter (λ t. Contains (own k s) t) (λ t. t.immediate) (own k s) (all_own s)

  strong_own : (s : ℕ) → AreOwn s (strong_aborts (own k s))
  strong_own s = each_filter (λ t. Contains (own k s) t) (λ t. is_strong t.kind) (own k s) (all_own s)

  kept_own : (p : Transition → Bool) (s : ℕ) (ts : List Transition) → AreOwn s ts → Each (λ t. Contains (own k s) t × (p t ≡ true)) (filter p ts)
  kept_own p s [] h = tt
  kept_own p s (t ∷ ts) h = by (p t) refl (kept_own p s ts h.1)
    where
      by : (b : Bool) → p t ≡ b → Each (λ z. Contains (own k s) z × (p z ≡ true)) (filter p ts) →
          Each (λ z. Contains (own k s) z × (p z ≡ true)) (cond b (t ∷ filter p ts) (filter p ts))
      by true is rest = ((h.0, is), rest)
      by false is rest = rest

  weak_closing : (s : ℕ) → AreClosing s (weak_aborts (own k s))
  weak_closing s =
      each_more (λ t. Contains (own k s) t × (is_weak t.kind ≡ true)) (λ t. IsClosing s t) (weak_aborts (own k s)) (λ t h. (h.0, inl h.1))
      (kept_own (λ t. is_weak t.kind) s (own k s) (all_own s))

  ends_closing : (s : ℕ) → AreClosing s (terminations (own k s))
  ends_closing s =
      each_more (λ t. Contains (own k s) t × (is_join t.kind ≡ true)) (λ t. IsClosing s t) (terminations (own k s)) (λ t h. (h.0, inr h.1))
      (kept_own (λ t. is_join t.kind) s (own k s) (all_own s))

  closing_own : (s : ℕ) → AreClosing s (closing_tests (own k s))
  closing_own s = each_append (λ t. IsClosing s t) (weak_aborts (own k s)) (terminations (own k s)) (weak_closing s) (ends_closing s)

  first_closing_own : (s : ℕ) → AreClosing s (first_closing_tests (own k s))
  first_closing_own s =
      each_append (λ t. IsClosing s t) (at_once (weak_aborts (own k s))) (terminations (own k s))
      (each_filter (λ t. IsClosing s t) (λ t. t.immediate) (weak_aborts (own k s)) (weak_closing s)) (ends_closing s)

  -- ---- moves

  one_moved : (m : Move) (zs : List Standing) (q : ℕ) → IsOwnMove m → IsOwn (unwrap_or (slice_get zs q) at.Outside) →
      IsOwn (unwrap_or (slice_get (slice_set zs m.region m.standing) q) at.Outside)
  one_moved m zs q of_move before =
      ⊎_elim here (λ ne. subst (λ o. IsOwn (unwrap_or o at.Outside)) (sym (get_other zs m.region q m.standing ne)) before) (same_or_not q m.region)
    where
      here : q ≡ m.region → IsOwn (unwrap_or (slice_get (slice_set zs m.region m.standing) q) at.Outside)
      here same =
          ⊎_elim
          (λ lt.
          subst (λ o. IsOwn (unwrap_or o at.Outside))
          (sym (ap (λ r. slice_get (slice_set zs r m.standing) q) (sym same) ∙ get_same zs q m.standing lt)) of_move)
          (λ past.
          subst (λ o. IsOwn (unwrap_or o at.Outside))
          (sym (slice_get_past (slice_set zs m.region m.standing) q (let size = moved_length (m ∷ []) zs in omega (size, past, arith)))) tt)
          (cases_lt q (length zs))

  all_moved : (ms : List Move) (zs : List Standing) → Each IsOwnMove ms → ((q : ℕ) → IsOwn (unwrap_or (slice_get zs q) at.Outside)) → (q : ℕ) →
      IsOwn (unwrap_or (slice_get (moved ms zs) q) at.Outside)
  all_moved [] zs owns before q = before q
  all_moved (m ∷ ms) zs owns before q = all_moved ms (slice_set zs m.region m.standing) owns.1 (λ u. one_moved m zs u owns.0 (before u)) q

  -- ---- between two ticks, and as one starts

  pub owns_initially : OwnTests (initial k)
  owns_initially r = subst IsOwn (sym (nobody_there k r)) tt

  woken_own : (x : Standing) → IsOwn x → IsOwn (woken k x)
  woken_own at.Outside h = tt
  woken_own at.Ended h = tt
  woken_own (at.Trying s tests) h = all_own s
  woken_own (at.Entering s tests) h = h
  woken_own (at.Guarding s tests) h = h
  woken_own (at.Acting s effects p) h = tt
  woken_own (at.Within s tests) h = by (strong_aborts (own k s)) (strong_own s)
    where
      by : (strong : List Transition) → AreOwn s strong → IsOwn (guarded_first s strong (closing_tests (own k s)))
      by [] owns = closing_own s
      by (t ∷ strong) owns = owns

nothing_entered_past : (k : Table) (s : ℕ) → length k.states ≤ s → (state_at k s).entered ≡ []
nothing_entered_past k s past =
    ap (λ (o : Option StateRow). (unwrap_or {T = StateRow} o (record { holder = 0; regions = []; transitions = []; entered = []; opened = [] })).entered)
    (slice_get_past k.states s past)

module _ (k core : Table) (i : Images) (entries : (x : ℕ) → IsState k x → Entry k x)
    (children : (s r : ℕ) → Contains (state_at k s).regions r → around k r ≡ s ∷ around k (holder k s))
    (deeper : (q s : ℕ) → Contains (around k q) s → holder k s < q)
    (opens : (s : ℕ) → IsState k s → IsSuper k s → (inner : List Move) × AreEntered k core i (state_at k s).regions (state_at k s).opened inner)
    (tops : List ℕ) (top_moves : List Move) (top_opens : AreEntered k core i tops k.opened top_moves)
    (super_state : (s : ℕ) → IsSuper k s → IsState k s) where
  abbrev Owned : List Move → Type 0
  Owned ms = Each (λ m. IsOwn k m.standing) ms

  -- what enters these regions, where entering their first states is owned
  regions_owned : (rs : List ℕ) (ms inner : List Move) → AreEntered k core i rs ms inner →
      ((r : ℕ) → Contains rs r → (x : ℕ) → holder k x ≡ r → Owned (state_at k x).entered) → Owned ms
  regions_owned [] ms inner h each = subst Owned (sym h.0) tt
  regions_owned (r ∷ rs) ms inner h each =
      let one = h.1.1.0 in
      subst Owned (sym one.chart)
      (each_append (λ m. IsOwn k m.standing) (state_at k one.first).entered h.0 (each r (head_in r rs) one.first one.held)
      (regions_owned rs h.0 h.1.0 h.1.1.1 (λ u inside x held. each u (tail_in r u rs inside) x held)))

  by_entry : (s : ℕ) → (IsSuper k s → Owned (state_at k s).opened) → Entry k s → Owned (state_at k s).entered
  by_entry s opened (entry_ends e) = subst Owned (sym e) (tt, tt)
  by_entry s opened (entry_tries none e) = subst Owned (sym e) (at_once_own k s, tt)
  by_entry s opened (entry_guards t tests some strong e) =
      subst Owned (sym e) (
        (
          some,
          subst (λ ts. AreOwn k s ts) strong
              (each_filter (λ z. Contains (own k s) z) (λ z. z.immediate) (strong_aborts (own k s)) (strong_own k s)),
        ),
        tt,
      )
  by_entry s opened (entry_opens some strong e) = subst Owned (sym e) (first_closing_own k s, opened some)

  entered_from : (s : ℕ) → (IsSuper k s → Owned (state_at k s).opened) → Owned (state_at k s).entered
  entered_from s opened =
      ⊎_elim (λ lt. by_entry s opened (entries s lt)) (λ past. subst Owned (sym (nothing_entered_past k s past)) tt) (within_or_past s (length k.states))

  -- as many levels further in as regions are left
  opened_within : (fuel s : ℕ) → IsSuper k s → suc (length k.regions) ≤ holder k s + fuel → Owned (state_at k s).opened
  opened_within zero s super few =
      let parts = opens s (super_state s super) super in
      regions_owned (state_at k s).regions (state_at k s).opened parts.0 parts.1
      (λ r child x held.
      let inner : Contains (around k r) s = subst (λ zs. Contains zs s) (sym (children s r child)) (head_in s (around k (holder k s))) in
      let up = deeper r s inner in
      let low = (around_there k r s inner).1 in
      absurd (omega (up, low, few, arith)))
  opened_within (suc fuel) s super few =
      let parts = opens s (super_state s super) super in
      regions_owned (state_at k s).regions (state_at k s).opened parts.0 parts.1
      (λ r child x held.
      let inner : Contains (around k r) s = subst (λ zs. Contains zs s) (sym (children s r child)) (head_in s (around k (holder k s))) in
      let up = deeper r s inner in
      entered_from x (λ inside. opened_within fuel x inside (omega (up, held, few, arith))))

  opened_owned : (s : ℕ) → IsSuper k s → Owned (state_at k s).opened
  opened_owned s super = opened_within (suc (length k.regions)) s super (omega arith)

  entered_owned : (s : ℕ) → Owned (state_at k s).entered
  entered_owned s = entered_from s (opened_owned s)

  top_owned : Owned k.opened
  top_owned = regions_owned tops k.opened top_moves top_opens (λ r among x held. entered_owned x)

  -- ---- as a tick starts

  pub owns_at_start : (inputs : Inputs) (before : Configuration) → OwnTests k before → OwnTests k (start k inputs before)
  owns_at_start inputs before owns r = by (list_all is_outside before.regions)
    where
      by : (b : Bool) → IsOwn k (unwrap_or (slice_get (regions_at_start k b before.regions) r) at.Outside)
      by true = all_moved k k.opened before.regions top_owned owns r
      by false = subst (IsOwn k) (sym (woken_at k before.regions r)) (woken_own k (standing_of before r) (owns r))

  -- ---- a step

  all_dropped : (rs : List ℕ) → Owned (map (λ r. to r at.Outside) rs)
  all_dropped [] = tt
  all_dropped (r ∷ rs) = (tt, all_dropped rs)

  acts_owned : (r s : ℕ) (effects : List Effect) (target : ℕ) → Owned (acts k r s effects target)
  acts_owned r s [] target = entered_owned (state_in k r target)
  acts_owned r s (e ∷ effects) target = (tt, tt)

  taken_owned : (r s : ℕ) (t : Transition) → Owned (taken k r s t)
  taken_owned r s t =
      each_append (λ m. IsOwn k m.standing) (dropped k s) (acts k r s t.effects t.target) (all_dropped (inside k s)) (acts_owned r s t.effects t.target)

  entering_owned : (r s : ℕ) (tests : List Transition) → IsSuper k s → AreOwn k s tests → Owned (entering_on k r s tests)
  entering_owned r s [] super owns = (first_closing_own k s, opened_owned s super)
  entering_owned r s (t ∷ tests) super owns = ((super, owns), tt)

  guarding_owned : (r s : ℕ) (tests : List Transition) → AreOwn k s tests → Owned (guarding_on k r s tests)
  guarding_owned r s [] owns = (closing_own k s, tt)
  guarding_owned r s (t ∷ tests) owns = (owns, tt)

  moves_owned : (r : ℕ) (x : Standing) (ms : List Move) → IsOwn k x → Makes k r x ms → Owned ms
  moves_owned r _ _ owns (takes_trying s t tests) = taken_owned r s t
  moves_owned r _ _ owns (takes_entering s t tests) = taken_owned r s t
  moves_owned r _ _ owns (takes_guarding s t tests) = taken_owned r s t
  moves_owned r _ _ owns (takes_within s t tests) = taken_owned r s t
  moves_owned r _ _ owns (tries_on s t tests) = (owns.1, tt)
  moves_owned r _ _ owns (enters_on s t tests) = entering_owned r s tests owns.0 owns.1.1
  moves_owned r _ _ owns (guards_on s t tests) = guarding_owned r s tests owns.1
  moves_owned r _ _ owns (waits_on s t tests) = (owns.1, tt)
  moves_owned r _ _ owns (acts_on s target e effects) = acts_owned r s effects target

  pub owns_still : (c next : Configuration) (r : ℕ) → OwnTests k c → step k r c ≡ Some next → OwnTests k next
  owns_still c next r owns steps =
      let made : StepMade k r c next = step_made k r c next steps in
      subst (OwnTests k) made.is
      (λ q. all_moved k made.change.moves c.regions (moves_owned r (standing_of c r) made.change.moves (owns r) made.makes) owns q)
