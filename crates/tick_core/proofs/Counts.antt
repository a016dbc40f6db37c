-- What the rows and the number of open claims are after a claim was opened or closed, or a step was taken.
use Rattle.std.proofs.Common.{◌≡◌, ◌≢◌, ℕ, ◌+◌, ◌<◌, ◌⊎◌, List, length, Option, Some, None, slice_get, slice_set, sym, ap, subst, ◌∙◌, inl, inr, arith}
use Rattle.std.specs.Prelude.{count_by, is_some}
use Rattle.tick_core.specs.Rows.{Rows}
use Rattle.sc_graph.specs.declared.control.Control.{Control}
use Rattle.sc_graph.specs.declared.tables.Tables.{Tables}
use Rattle.sc_graph.specs.Program.{Program}
use Rattle.sc_graph.specs.Control.{status_of}
use Rattle.sc_graph.specs.Priority.{Leads}
use Rattle.sc_graph.specs.Tables.{priority_of}
use Rattle.tick_laws.proofs.Lists.{same_or_not, get_set_same, get_set_other}
use Rattle.tick_laws.proofs.Formed.{valid_formed}
use Rattle.tick_laws.proofs.RunsOn.{stepped_by}
use Rattle.tick_laws.proofs.Sound.{keeps_self}
use Rattle.tick_laws.proofs.Views.{enabled_view, does}
use Rattle.tick_core.specs.Claims.{Claim}
use Rattle.tick_core.specs.State.{InTick, Holds, Advances}
use Rattle.tick_core.specs.Space.Sorting.{step_priority, unless_claimed, ready_row, OwnRows, AreSorted, StandSorted, sorted_one}
use Rattle.tick_core.specs.Inside.Turns.{OpenAt}
use Rattle.tick_core.proofs.StateKept.{still_open, configuration}
use Rattle.tick_core.proofs.Opened.{none_counted, none_counted_at, count_opened}
use Rattle.tick_core.proofs.OwnRoom.{kept_out}
use Rattle.tick_core.proofs.Unmoved.{one_at, one_other}

-- a write to the claim of one thread leaves all others in their rows
module _ (p : Program) (q : Tables) (c : Control) (claims : List (Option Claim)) (t : ℕ) (o : Option Claim) where
  other_row : (u : ℕ) → u ≢ t → ready_row p q c claims u ≡ ready_row p q c (slice_set claims t o) u
  other_row u other = ap (λ x. unless_claimed x (step_priority p q c u)) (sym (get_set_other claims t u o other))

  pub sorted_with : (rows after_rows : Rows) → AreSorted p q c claims rows → t < length p.threads →
      after_rows ≡ sorted_one (ready_row p q c (slice_set claims t o)) rows t → OwnRows p q after_rows → AreSorted p q c (slice_set claims t o) after_rows
  sorted_with rows after_rows h below is own =
      record { own_rows = own; each = λ u within. ap (λ (r : Rows). slice_get r.classes u) is ∙ go u within (same_or_not u t) }
    where
      go : (u : ℕ) → u < length p.threads → (u ≡ t) ⊎ (u ≢ t) →
          slice_get (sorted_one (ready_row p q c (slice_set claims t o)) rows t).classes u ≡ Some (ready_row p q c (slice_set claims t o) u)
      go u within (inl same) = one_at (ready_row p q c (slice_set claims t o)) rows t u (omega (arith, h.own_rows.long)) same
      go u within (inr other) = one_other (ready_row p q c (slice_set claims t o)) rows t u other ∙ (h.each u within ∙ ap Some (other_row u other))

  -- the same of a program, tables and claims that are given twice
  pub sorted_with_at : (rows after_rows : Rows) → AreSorted p q c claims rows → t < length p.threads →
      (p' : Program) (q' : Tables) (claims' after_claims : List (Option Claim)) → p' ≡ p → q' ≡ q → claims' ≡ after_claims
      → after_claims ≡ slice_set claims t o →
      after_rows ≡ sorted_one (ready_row p' q' c claims') rows t → OwnRows p' q' after_rows → AreSorted p q c after_claims after_rows
  sorted_with_at rows after_rows h below p' q' claims' after_claims p_is q_is shown are is own =
      subst (λ xs. AreSorted p q c xs after_rows) (sym are)
      (sorted_with rows after_rows h below
      (is ∙ (ap (λ x. sorted_one (ready_row x q' c claims') rows t) p_is ∙ (ap (λ y. sorted_one (ready_row p y c claims') rows t) q_is
      ∙ ap (λ xs. sorted_one (ready_row p q c xs) rows t) (shown ∙ are))))
      (subst (λ y. OwnRows p y after_rows) q_is (subst (λ x. OwnRows x q' after_rows) p_is own)))

-- all threads sorted, of a program, tables and claims that are given twice
pub sorted_every_at : (p p' : Program) (q q' : Tables) (c : Control) (claims claims' : List (Option Claim)) (rows : Rows) → p' ≡ p → q' ≡ q → claims' ≡ claims →
    AreSorted p' q' c claims' rows → AreSorted p q c claims rows
sorted_every_at p p' q q' c claims claims' rows p_is q_is claims_are h =
    subst (λ xs. AreSorted p q c xs rows) claims_are (subst (λ y. AreSorted p y c claims' rows) q_is (subst (λ x. AreSorted x q' c claims' rows) p_is h))

-- where no claim is open, each thread is ready where it can step
pub sorted_free : (p : Program) (q : Tables) (c : Control) (claims : List (Option Claim)) (rows : Rows) → length claims ≡ length p.threads
    → count_by is_some claims ≡ 0 → StandSorted p q c rows → AreSorted p q c claims rows
sorted_free p q c claims rows long none h =
    record {
      own_rows = h.own_rows;
      each = λ t within. h.each t within
          ∙ ap Some (sym (ap (λ o. unless_claimed o (step_priority p q c t)) (none_counted_at claims t none (omega (arith, long, within)))));
    }

-- where no claim is open, none is counted
pub none_open_at : (s : InTick) (level : ℕ) → ((t : ℕ) (a : Claim) → slice_get s.claims t ≢ Some (Some a)) → OpenAt s 0 level
none_open_at s level none = record { counted = sym (none_counted s.claims none); level_is = λ t a is. absurd (none t a is) }

-- a thread with an open claim is in no row
pub claimed_row : (p : Program) (q : Tables) (c : Control) (claims : List (Option Claim)) (t : ℕ) (a : Claim) → t < length claims →
    ready_row p q c (slice_set claims t (Some a)) t ≡ None
claimed_row p q c claims t a below = ap (λ x. unless_claimed x (step_priority p q c t)) (get_set_same claims t (Some a) below)

module _ (s : InTick) (h : Holds s) (count level : ℕ) (at : OpenAt s count level) where
  pub open_closed : (t less : ℕ) (claims : List (Option Claim)) → claims ≡ slice_set s.claims t None → less ≡ count_by is_some claims
      → OpenAt (record s { claims = claims }) less level
  open_closed t less claims are is =
      record { counted = is; level_is = λ u a opened. at.level_is u a (still_open s.claims t u a (sym (ap (λ xs. slice_get xs u) are) ∙ opened)).1 }

  -- the claim of another leader is of the same priority
  pub open_opened : (t : ℕ) (b : Claim) (more : ℕ) → Leads s.image.program s.image.tables s.present t → slice_get s.claims t ≡ Some None → more ≡ count + 1 →
      OpenAt (record s { claims = slice_set s.claims t (Some b) }) more (priority_of s.image.tables (status_of s.present t))
  open_opened t b more leads free is =
      record {
        counted = omega (arith, is, at.counted, count_opened s.claims t b free);
        level_is = λ u a opened. stands u a opened (same_or_not u t);
      }
    where
      stands : (u : ℕ) (a : Claim) → slice_get (slice_set s.claims t (Some b)) u ≡ Some (Some a) → (u ≡ t) ⊎ (u ≢ t) →
          priority_of s.image.tables (status_of s.present u) ≡ priority_of s.image.tables (status_of s.present t)
      stands u a opened (inl same) = ap (λ v. priority_of s.image.tables (status_of s.present v)) same
      stands u a opened (inr other) =
          let own = (h.fresh u a (sym (get_set_other s.claims t u (Some b) other) ∙ opened)).leads in
          omega (arith, own.greatest t leads.enabled, leads.greatest u own.enabled)

  -- who has another open claim stands as before
  pub open_advanced : (s' : InTick) (t worker less : ℕ) → Advances s s' t worker → less ≡ count_by is_some s'.claims → OpenAt s' less level
  open_advanced s' t worker less advances is =
      record {
        counted = is;
        level_is = λ u a opened. stands u a (still_open s.claims t u a (sym (ap (λ xs. slice_get xs u) advances.claims_are) ∙ opened));
      }
    where
      stays : (u : ℕ) (a : Claim) → u ≢ t → slice_get s.claims u ≡ Some (Some a) → status_of s'.present u ≡ status_of s.present u
      stays u a other opened =
          let by = stepped_by s.image.program t s.present s'.present advances.stepped in
          ap (λ c. status_of c u) (sym by.leads)
          ∙ keeps_self s.image.program (valid_formed s.image.program s.image.tables h.valid) s.present (configuration s h) u t other
          (enabled_view s.image.program s.present u (h.fresh u a opened).leads.enabled) by.e (does s.image.program s.present t by.e by.is)

      stands : (u : ℕ) (a : Claim) → (u ≢ t) × (slice_get s.claims u ≡ Some (Some a)) → priority_of s'.image.tables (status_of s'.present u) ≡ level
      stands u a opened =
          ap (λ i. priority_of i.tables (status_of s'.present u)) advances.image_is
          ∙ (ap (priority_of s.image.tables) (stays u a opened.0 opened.1) ∙ at.level_is u a opened.1)

  -- the same of a claim, its thread, rows and a priority that are given twice
  pub open_opened_at : (t t' : ℕ) (a b : Claim) (more prior : ℕ) → Leads s.image.program s.image.tables s.present t → slice_get s.claims t ≡ Some None
      → more ≡ count + 1 →
      t' ≡ t → b ≡ a → prior ≡ priority_of s.image.tables (status_of s.present t') → OpenAt (record s { claims = slice_set s.claims t' (Some b) }) more prior
  open_opened_at t t' a b more prior leads free is t_is b_is prior_is =
      subst (λ n. OpenAt (record s { claims = slice_set s.claims t' (Some b) }) more n) (sym prior_is)
      (subst (λ u. OpenAt (record s { claims = slice_set s.claims u (Some b) }) more (priority_of s.image.tables (status_of s.present u))) (sym t_is)
      (open_opened t b more leads free is))

-- with a claim opened, its thread stands in no row
pub sorted_opened : (p : Program) (q : Tables) (c : Control) (claims : List (Option Claim)) (t : ℕ) (a : Claim) (rows after_rows : Rows)
    → AreSorted p q c claims rows →
    t < length p.threads → t < length claims → after_rows ≡ record rows { classes = slice_set rows.classes t None }
    → AreSorted p q c (slice_set claims t (Some a)) after_rows
sorted_opened p q c claims t a rows after_rows h below place is =
    let row_is : ready_row p q c (slice_set claims t (Some a)) t ≡ None = claimed_row p q c claims t a place in
    sorted_with p q c claims t (Some a) rows after_rows h below
    (is ∙ ap (λ (o : Option ℕ). record rows { classes = slice_set rows.classes t o }) (sym row_is))
    (subst (OwnRows p q) (sym is) (kept_out p q rows h.own_rows t below))
