-- Who leads, and whether anybody does, by the rows.
use Rattle.std.proofs.Common.{◌≡◌, ◌≢◌, ℕ, zero, suc, ◌<◌, ◌≤◌, ◌⊎◌, Bool, true, false, List, length, get_or, Option, Some, None, slice_get, refl, sym, ap, ◌∙◌}
use Rattle.std.proofs.Common.{subst, inl, inr, ⊎_elim, arith}
use Rattle.std.specs.Prelude.{◌↔◌, IfSome, IsTrue, MatchOption, replicate}
use Rattle.std.proofs.lemmas.Option.{slice_get_within, same_Some, get_or_from_slice_get}
use Rattle.std.proofs.lemmas.List.{length-replicate, get_or-replicate}
use Rattle.tick_core.specs.Rows.{Rows, IsIn, IsRow, AreEmpty, IsFirst, HasRooms}
use Rattle.sc_values.specs.Runs.{IsOver}
use Rattle.sc_graph.specs.declared.control.Status.{Status}
use Rattle.sc_graph.specs.declared.tables.Tables.{Tables}
use Rattle.sc_graph.specs.Machine.{machine}
use Rattle.sc_graph.specs.Program.{Program}
use Rattle.sc_graph.specs.Control.{status_of, is_enabled, IsEnabled}
use Rattle.sc_graph.specs.Priority.{Leads}
use Rattle.sc_graph.specs.Tables.{priority_of}
use Rattle.tick_laws.proofs.Lists.{get_set_same}
use Rattle.tick_core.specs.Claims.{Claim}
use Rattle.tick_core.specs.State.{InTick, Holds, Advances}
use Rattle.tick_core.specs.Turns.{claim_of, IsReady, AreReady}
use Rattle.tick_core.specs.Space.Sorting.{row_at, step_priority, unless_claimed, ready_row, NodePriorities, OwnRows, AreSorted}
use Rattle.tick_core.specs.Inside.Onward.{LeadsOn}
use Rattle.tick_core.specs.Inside.Turns.{OpenAt, NothingToClaim, IsUnclaimed, IsNext, DropsClaims, RunsBy}
use Rattle.tick_core.proofs.StateKept.{enabled_within, configuration, has_place, alone_begins, alone_goes_on}
use Rattle.tick_core.proofs.Opened.{none_open, some_open, open_or_not}

-- of what is not so the answer is no
pub answer_no : (X : Type 0) (answer : Bool) → ¬ IsTrue answer → ¬ X → IsTrue answer ↔ X
answer_no X answer not_yes never = (λ yes. absurd (not_yes yes), λ x. absurd (never x))

zero_or_more : (n : ℕ) → (n ≡ 0) ⊎ (0 < n)
zero_or_more zero = inl refl
zero_or_more (suc n) = inr (omega arith)

pub ready_of : (o : Option (Option Claim)) (b : Bool) (n prior : ℕ) → unless_claimed o (row_at b n) ≡ Some prior → (o ≡ Some None) × (b ≡ true) × (n ≡ prior)
ready_of (Some None) true n prior is = (refl, refl, same_Some n prior is)
ready_of (Some None) false n prior is = absurd cc
ready_of (Some (Some a)) b n prior is = absurd cc
ready_of None b n prior is = absurd cc

module _ (s : InTick) (h : Holds s) (rows : Rows) (sorted : AreSorted s.image.program s.image.tables s.present s.claims rows) where
  -- who stands in a row is ready
  stands : (t prior : ℕ) → IsIn rows.classes t prior → IsReady s prior t
  stands t prior is =
      let below : t < length s.image.program.threads = omega (arith, slice_get_within rows.classes t (Some prior) is, sorted.own_rows.long) in
      let parts = ready_of (slice_get s.claims t) (is_enabled s.image.program s.present t) (priority_of s.image.tables (status_of s.present t)) prior
      (same_Some (ready_row s.image.program s.image.tables s.present s.claims t) (Some prior) (sym (sorted.each t below) ∙ is)) in
      record { enabled = parts.1; unclaimed = parts.0; has = parts.2 }

  -- and who is ready stands in a row
  ready_in : (t prior : ℕ) → IsReady s prior t → IsIn rows.classes t prior
  ready_in t prior ready =
      let below : t < length s.image.program.threads = omega (arith, enabled_within s.image.program s.present t ready.enabled, (configuration s h).threads) in
      sorted.each t below ∙ ap Some (ap (λ o. unless_claimed o (step_priority s.image.program s.image.tables s.present t)) ready.unclaimed
      ∙ (ap (λ b. row_at b (priority_of s.image.tables (status_of s.present t))) ready.enabled ∙ ap Some ready.has))

  -- the row of a priority holds who is ready at it
  pub row_ready : (prior : ℕ) (row : List ℕ) → IsRow rows.classes prior row → AreReady s prior row
  row_ready prior row is =
      record {
        each = λ t within. stands t prior (is.each t within);
        all = λ t ready. is.all t (ready_in t prior ready);
        once = is.once;
      }

  module _ (count level : ℕ) (at : OpenAt s count level) where
    -- an enabled thread without an open claim stands in the row of its priority
    free_in : (t : ℕ) → IsEnabled s.image.program s.present t → claim_of s t ≡ Some None
        → IsIn rows.classes t (priority_of s.image.tables (status_of s.present t))
    free_in t enabled free = ready_in t (priority_of s.image.tables (status_of s.present t)) (record { enabled = enabled; unclaimed = free; has = refl })

    enabled_place : (t : ℕ) → IsEnabled s.image.program s.present t → t < length s.claims
    enabled_place t enabled = omega (arith, enabled_within s.image.program s.present t enabled, (configuration s h).threads, h.places)

    -- an enabled thread has an open claim or stands in a row
    claimed_or_in : (t : ℕ) → IsEnabled s.image.program s.present t → ((a : Claim) × (claim_of s t ≡ Some (Some a)))
        ⊎ IsIn rows.classes t (priority_of s.image.tables (status_of s.present t))
    claimed_or_in t enabled = go (open_or_not s.claims t (enabled_place t enabled))
      where
        go : (slice_get s.claims t ≡ Some None) ⊎ ((a : Claim) × (slice_get s.claims t ≡ Some (Some a))) → ((a : Claim) × (claim_of s t ≡ Some (Some a)))
            ⊎ IsIn rows.classes t (priority_of s.image.tables (status_of s.present t))
        go (inl free) = inr (free_in t enabled free)
        go (inr opened) = inl opened

    pub nobody_open : count ≡ 0 → (t : ℕ) (a : Claim) → claim_of s t ≢ Some (Some a)
    nobody_open zero_is t a is = none_open s.claims (sym at.counted ∙ zero_is) t a is

    -- a leading thread that has an open claim, where one is open
    claimed_leader : 0 < count → (t : ℕ) × Leads s.image.program s.image.tables s.present t × (priority_of s.image.tables (status_of s.present t) ≡ level)
    claimed_leader some =
        let found = some_open s.claims (omega (arith, at.counted)) in
        (found.0, (h.fresh found.0 found.1 found.2).leads, at.level_is found.0 found.1 found.2)

    pub over_is : (count ≡ 0) × AreEmpty rows ↔ IsOver (machine s.image.program) s.present
    over_is = (
      λ both t. idle both t (is_enabled s.image.program s.present t) refl,
      λ over. (
        none_left over (zero_or_more count),
        record { each = λ t prior is. absurd (let enabled = (stands t prior is).enabled in let no = over t in never t enabled no) },
      ),
    )
      where
        never : (t : ℕ) → is_enabled s.image.program s.present t ≡ true → is_enabled s.image.program s.present t ≡ false → ⊥
        never t enabled asleep = cc

        none_left : IsOver (machine s.image.program) s.present → (count ≡ 0) ⊎ (0 < count) → count ≡ 0
        none_left over (inl none) = none
        none_left over (inr some) = let it = claimed_leader some in absurd (never it.0 it.1.enabled (over it.0))

        idle : (count ≡ 0) × AreEmpty rows → (t : ℕ) (b : Bool) → is_enabled s.image.program s.present t ≡ b → is_enabled s.image.program s.present t ≡ false
        idle both t true enabled =
            absurd (⊎_elim (λ opened. nobody_open both.0 t opened.0 opened.1) (λ is. both.1.each t (priority_of s.image.tables (status_of s.present t)) is)
            (claimed_or_in t enabled))
        idle both t false asleep = asleep

    -- where nobody stands in a row there is nothing to claim
    pub nothing_in : AreEmpty rows → NothingToClaim s
    nothing_in empty = go (zero_or_more count)
      where
        go : (count ≡ 0) ⊎ (0 < count) → NothingToClaim s
        go (inl none) = inl (over_is.0 (none, empty))
        go (inr some) =
            let it = claimed_leader some in
            inr (record {
              someone = it.0;
              leads = it.1;
              each = λ t leads. claimed t (claimed_or_in t leads.enabled);
            })
          where
            claimed : (t : ℕ) → ((a : Claim) × (claim_of s t ≡ Some (Some a))) ⊎ IsIn rows.classes t (priority_of s.image.tables (status_of s.present t))
                → (a : Claim) × (claim_of s t ≡ Some (Some a))
            claimed t (inl opened) = opened
            claimed t (inr is) = absurd (empty.each t (priority_of s.image.tables (status_of s.present t)) is)

    -- the first in the rows leads, where no claim is open or it has the priority of those that are
    pub first_leads : (t : ℕ) → IsFirst rows t → (count ≡ 0) ⊎ (priority_of s.image.tables (status_of s.present t) ≡ level) → IsUnclaimed s t
    first_leads t first either =
        let ready = stands t first.class first.is_in in
        record {
          leads = record { enabled = ready.enabled; greatest = λ u enabled. below u enabled ready either (claimed_or_in u enabled) };
          unclaimed = ready.unclaimed;
        }
      where
        below : (u : ℕ) → IsEnabled s.image.program s.present u → IsReady s first.class t
            → (count ≡ 0) ⊎ (priority_of s.image.tables (status_of s.present t) ≡ level) →
            ((a : Claim) × (claim_of s u ≡ Some (Some a))) ⊎ IsIn rows.classes u (priority_of s.image.tables (status_of s.present u)) →
            priority_of s.image.tables (status_of s.present u) ≤ priority_of s.image.tables (status_of s.present t)
        below u enabled ready either (inr is) = omega (arith, first.greatest u (priority_of s.image.tables (status_of s.present u)) is, ready.has)
        below u enabled ready (inl none) (inl opened) = absurd (nobody_open none u opened.0 opened.1)
        below u enabled ready (inr same) (inl opened) = omega (arith, at.level_is u opened.0 opened.1, same)

    -- where it has another, each leading thread is claimed
    pub first_waits : (t : ℕ) → IsFirst rows t → count ≢ 0 → priority_of s.image.tables (status_of s.present t) ≢ level → NothingToClaim s
    first_waits t first some other =
        let it = claimed_leader (positive (zero_or_more count)) in
        inr (record { someone = it.0; leads = it.1; each = λ u leads. claimed it.0 it.1 it.2 u leads (claimed_or_in u leads.enabled) })
      where
        positive : (count ≡ 0) ⊎ (0 < count) → 0 < count
        positive (inl none) = absurd (some none)
        positive (inr more) = more

        claimed : (v : ℕ) → Leads s.image.program s.image.tables s.present v → priority_of s.image.tables (status_of s.present v) ≡ level →
            (u : ℕ) → Leads s.image.program s.image.tables s.present u →
            ((a : Claim) × (claim_of s u ≡ Some (Some a))) ⊎ IsIn rows.classes u (priority_of s.image.tables (status_of s.present u))
            → (a : Claim) × (claim_of s u ≡ Some (Some a))
        claimed v leader level_is u leads (inl opened) = opened
        claimed v leader level_is u leads (inr is) =
            let ready = stands t first.class first.is_in in
            absurd (other (omega (
              arith,
              level_is,
              ready.has,
              first.greatest u (priority_of s.image.tables (status_of s.present u)) is,
              leader.greatest t ready.enabled,
              leads.greatest v leader.enabled,
            )))

-- rows as they are made for an image
pub own_none : (p : Program) (q : Tables) (rows : Rows) (priorities : List ℕ) → NodePriorities p q priorities → HasRooms rows.rooms priorities
    → rows.classes ≡ replicate (length p.threads) None → OwnRows p q rows
own_none p q rows priorities are rooms empty =
    record {
      long = ap length empty ∙ length-replicate (length p.threads) None;
      fits = record { priorities = priorities; long = are.long; are = are.are; rooms_are = rooms };
      own = λ t prior is. absurd (nobody t prior is);
    }
  where
    nobody : (t prior : ℕ) → IsIn rows.classes t prior → ⊥
    nobody t prior is =
        let below : t < length p.threads = omega (
          arith,
          slice_get_within rows.classes t (Some prior) is,
          ap length empty,
          length-replicate {A = Option ℕ} (length p.threads) None,
        ) in
        let none : get_or rows.classes t None ≡ None = ap (λ xs. get_or xs t None) empty ∙ get_or-replicate (length p.threads) t None None below in
        let some : get_or rows.classes t None ≡ Some prior = get_or_from_slice_get rows.classes t (Some prior) None is in
        let never : None ≡ Some prior = sym none ∙ some in
        cc

-- a thread that led on behind its step steps next
pub leads_next : (s s' : InTick) (h : Holds s) (t worker : ℕ) → Leads s.image.program s.image.tables s.present t → Advances s s' t worker → (rows : Rows)
    → AreSorted s.image.program s.image.tables s.present s.claims rows → (r : Option Status)
    → IfSome r (LeadsOn s.image.program s.image.tables s.present s'.present t rows) → IfSome r (IsNext s' t)
leads_next s s' h t worker leads advances rows sorted None on = tt
leads_next s s' h t worker leads advances rows sorted (Some st) on =
    record {
      next = record {
        leads = subst (λ i. Leads i.program i.tables s'.present t) (sym advances.image_is) (on.leads s.claims sorted leads);
        unclaimed = ap (λ xs. slice_get xs t) advances.claims_are ∙ get_set_same s.claims t None (has_place s h t leads);
      };
      standing = on.standing;
    }

-- steps of one worker, from where no claim is open to where nobody is enabled
pub run_begins : (worker : ℕ) (s s' : InTick) (next : Option (ℕ × Status)) → DropsClaims s s'
    → MatchOption next (NothingToClaim s') (λ n. IsNext s' n.0 n.1) → RunsBy worker s s' next
run_begins worker s s' next drops is = record { goes = alone_begins worker s s' drops; next_is = is }

pub run_goes_on : (worker : ℕ) (s s' s'' : InTick) (t : ℕ) (next more : Option (ℕ × Status)) → RunsBy worker s s' next → Advances s' s'' t worker
    → MatchOption more (NothingToClaim s'') (λ n. IsNext s'' n.0 n.1) → RunsBy worker s s'' more
run_goes_on worker s s' s'' t next more runs advances is = record { goes = alone_goes_on worker s s' s'' t runs.goes advances; next_is = is }

pub run_steps : (worker : ℕ) (s s' : InTick) (next : Option (ℕ × Status)) (t : ℕ) (st : Status) → RunsBy worker s s' next → next ≡ Some (t, st)
    → IsNext s' t st
run_steps worker s s' next t st runs is = subst (λ o. MatchOption o (NothingToClaim s') (λ n. IsNext s' n.0 n.1)) is runs.next_is

pub run_is_over : (worker : ℕ) (s s' : InTick) (next : Option (ℕ × Status)) → RunsBy worker s s' next → next ≡ None
    → IsOver (machine s'.image.program) s'.present
run_is_over worker s s' next runs is = go (subst (λ o. MatchOption o (NothingToClaim s') (λ n. IsNext s' n.0 n.1)) is runs.next_is)
  where
    go : NothingToClaim s' → IsOver (machine s'.image.program) s'.present
    go (inl over) = over
    go (inr all) = let claimed = all.each all.someone all.leads in absurd (runs.goes.no_claim all.someone claimed.0 claimed.1)
