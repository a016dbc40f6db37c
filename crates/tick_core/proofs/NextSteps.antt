-- What a step leaves of counts and rows.
use Rattle.std.proofs.Common.{◌≡◌, ◌≢◌, ◌∙◌, ◌<◌, ◌≤◌, ◌⊎◌, ℕ, zero, suc, List, [], ◌∷◌, length, Option, Some, None, slice_get, slice_set, refl, sym, ap, subst}
use Rattle.std.proofs.Common.{Contains, inl, inr, arith}
use Rattle.std.proofs.lemmas.Option.{same_Some}
use Rattle.std.specs.Prelude.{unwrap_or}
use Rattle.tick_core.specs.Rows.{Rows, HasRoom, IsIn}
use Rattle.sc_graph.specs.declared.control.Control.{Control}
use Rattle.sc_graph.specs.declared.control.Status.{Status}
use Rattle.sc_graph.specs.declared.control.Status.TheVariants as status
use Rattle.sc_graph.specs.declared.tables.Tables.{Tables}
use Rattle.sc_graph.specs.Program.{Program}
use Rattle.sc_graph.specs.Control.{status_of, status_enabled, is_enabled, IsEnabled}
use Rattle.sc_graph.specs.Priority.{Leads}
use Rattle.sc_graph.specs.Steps.{step}
use Rattle.sc_graph.specs.Tables.{priority, priority_of}
use Rattle.sc_graph.specs.Tick.{IsConfiguration}
use Rattle.sc_graph.specs.Valid.{IsValid}
use Rattle.tick_laws.proofs.Lists.{get_set_same, same_or_not, contains_none}
use Rattle.tick_core.specs.Claims.{Claim}
use Rattle.tick_core.specs.Space.Living.{CountsLiving, counted_at}
use Rattle.tick_core.specs.Inside.Onward.{IsOwnAffair, own_row, MovesAlone, Goes, LeadsOn, StaysAt}
use Rattle.tick_core.specs.Space.Sorting.{row_at, step_priority, unless_claimed, ready_row, OwnRows, AreSorted, sorted_one, sorted_parent, sorted_all}
use Rattle.tick_core.specs.Space.Sorting.{ended_parent, children_at}
use Rattle.tick_core.proofs.LeadingThreads.{ready_of}
use Rattle.tick_core.proofs.LivingChildren.{counts_after}
use Rattle.tick_core.proofs.OwnRoom.{has_room, kept_one}
use Rattle.tick_core.proofs.Unmoved.{sorted_after, sorted_after_at, stays_configuration, alike_behind}

-- who comes to stand so is counted with nobody, and has no parent that waits for one less
same_counts : (p : Program) (d : Control) (counts : List ℕ) (t : ℕ) (st : Status) → IsOwnAffair st → counted_at p d counts t st ≡ counts
same_counts p d counts t (status.At n) own = refl
same_counts p d counts t (status.Paused n) own = refl
same_counts p d counts t status.Absent own = absurd own
same_counts p d counts t (status.Waiting j) own = absurd own
same_counts p d counts t status.Ended own = absurd own

no_parent : (p : Program) (t : ℕ) (st : Status) → IsOwnAffair st → ended_parent p t st ≡ None
no_parent p t (status.At n) own = refl
no_parent p t (status.Paused n) own = refl
no_parent p t status.Absent own = absurd own
no_parent p t (status.Waiting j) own = absurd own
no_parent p t status.Ended own = absurd own

row_at_own : (p : Program) (q : Tables) (d : Control) (st : Status) → IsOwnAffair st → row_at (status_enabled p d st) (priority_of q st) ≡ own_row q st
row_at_own p q d (status.At n) own = refl
row_at_own p q d (status.Paused n) own = refl
row_at_own p q d status.Absent own = absurd own
row_at_own p q d (status.Waiting j) own = absurd own
row_at_own p q d status.Ended own = absurd own

-- a step that concerns its own thread alone
module _ (p : Program) (q : Tables) (valid : IsValid p q) (c d : Control) (ok : IsConfiguration p c) (t : ℕ) (below : t < length p.threads) (st : Status)
    (stepped : step p t c ≡ Some d) (on : MovesAlone p c d t st) where
  stands : status_of d t ≡ st
  stands =
      ap (λ xs. unwrap_or (slice_get xs t) status.Absent) on.statuses
      ∙ ap (λ (o : Option Status). unwrap_or o status.Absent) (get_set_same c.statuses t st (omega (arith, below, ok.threads)))

  still_ok : IsConfiguration p d
  still_ok = stays_configuration p q valid c d ok t stepped

  row_is : (claims : List (Option Claim)) → slice_get claims t ≡ Some None → ready_row p q d claims t ≡ own_row q st
  row_is claims none =
      ap (λ o. unless_claimed o (step_priority p q d t)) none
      ∙ (ap (λ s. row_at (status_enabled p d s) (priority_of q s)) stands ∙ row_at_own p q d st on.own)

  module _ (claims : List (Option Claim)) (none : slice_get claims t ≡ Some None) (rows : Rows) (own : OwnRows p q rows) where
    -- the row of the node has room for it
    pub next_room : HasRoom rows t (own_row q st)
    next_room = subst (λ (o : Option ℕ). HasRoom rows t o) (row_is claims none) (has_room p q rows own t below d valid still_ok claims)

    pub moves_on : IsEnabled p c t → (counts : List ℕ) → CountsLiving p c counts → (after_rows : Rows)
        → after_rows ≡ record rows { classes = slice_set rows.classes t (own_row q st) } → Goes p q c d t claims rows after_rows counts
    moves_on enabled counts counted after_rows after_is =
        record {
          stepped = stepped;
          counts = counts_after p q valid c d ok t below stepped enabled counts counts counted p (status_of d t) refl refl
              (sym (ap (counted_at p d counts t) stands ∙ same_counts p d counts t st on.own));
          sorted = λ before h is. subst (λ xs. AreSorted p q d xs after_rows) (sym is)
              (sorted_after p q valid c d ok t below stepped before rows after_rows h (sorted_so before is)
              (subst (OwnRows p q) (sym (after_is ∙ one_is claims none)) (kept_one p q rows own t below d valid still_ok claims)));
        }
      where
        one_is : (xs : List (Option Claim)) → slice_get xs t ≡ Some None
            → record rows { classes = slice_set rows.classes t (own_row q st) } ≡ sorted_one (ready_row p q d xs) rows t
        one_is xs free = ap (λ (o : Option ℕ). record rows { classes = slice_set rows.classes t o }) (sym (row_is xs free))

        sorted_so : (before : List (Option Claim)) → claims ≡ slice_set before t None →
            after_rows ≡ sorted_all (ready_row p q d (slice_set before t None)) (children_at p (status_of c t))
            (sorted_parent (ready_row p q d (slice_set before t None)) (sorted_one (ready_row p q d (slice_set before t None)) rows t)
            (ended_parent p t (status_of d t)))
        sorted_so before is =
            let row : ℕ → Option ℕ = ready_row p q d (slice_set before t None) in
            after_is ∙ (one_is (slice_set before t None) (sym (ap (λ xs. slice_get xs t) is) ∙ none)
            ∙ (sym (ap (sorted_parent row (sorted_one row rows t)) (ap (ended_parent p t) stands ∙ no_parent p t st on.own))
            ∙ sym (ap (λ ks. sorted_all row ks (sorted_parent row (sorted_one row rows t) (ended_parent p t (status_of d t)))) on.alone)))

  -- where it stays in its row it leads on
  module _ (rows : Rows) (stays : StaysAt q t rows st) (claims : List (Option Claim)) (sorted : AreSorted p q c claims rows) (leads : Leads p q c t) where
    stood_at : priority_of q (status_of c t) ≡ priority q stays.node
    stood_at = (ready_of (slice_get claims t) (is_enabled p c t) (priority_of q (status_of c t)) (priority q stays.node)
        (same_Some (ready_row p q c claims t) (Some (priority q stays.node)) (sym (sorted.each t below) ∙ stays.is_in))).2

    stands_at : priority_of q (status_of d t) ≡ priority q stays.node
    stands_at = ap (priority_of q) (stands ∙ stays.is)

    no_less : (u : ℕ) → IsEnabled p d u → (u ≡ t) ⊎ (u ≢ t) → priority_of q (status_of d u) ≤ priority_of q (status_of d t)
    no_less u enabled (inl same) = omega (arith, ap (λ v. priority_of q (status_of d v)) same)
    no_less u enabled (inr other) =
        let was = ready_of (Some None) (is_enabled p c u) (priority_of q (status_of c u)) (priority_of q (status_of d u))
        (sym (alike_behind p q valid c d ok t stepped u other (λ some. none_some u (sym (ap (ended_parent p t) stands ∙ no_parent p t st on.own) ∙ some))
        (λ within. contains_none u (subst (λ ks. Contains ks u) on.alone within)))
        ∙ ap (λ b. row_at b (priority_of q (status_of d u))) enabled) in
        omega (arith, leads.greatest u was.1, was.2, stood_at, stands_at)
      where
        none_some : (w : ℕ) → None ≡ Some w → ⊥
        none_some w never = cc

    goes_on : Leads p q d t
    goes_on = record { enabled = ap (status_enabled p d) (stands ∙ stays.is); greatest = λ u enabled. no_less u enabled (same_or_not u t) }

  pub leads_on : (rows : Rows) → StaysAt q t rows st → LeadsOn p q c d t rows st
  leads_on rows stays = record { standing = sym stands; leads = λ claims sorted leads. goes_on rows stays claims sorted leads }

-- the row of a thread that stands in one
pub own_row_at : (q : Tables) (st : Status) (prior : ℕ) → own_row q st ≡ Some prior → (rows : Rows) (t : ℕ) → IsIn rows.classes t prior → StaysAt q t rows st
own_row_at q (status.At n) prior is rows t is_in =
    record { node = n; is = refl; is_in = subst (IsIn rows.classes t) (sym (same_Some (priority q n) prior is)) is_in }
own_row_at q (status.Paused n) prior is rows t is_in = absurd cc
own_row_at q status.Absent prior is rows t is_in = absurd cc
own_row_at q (status.Waiting j) prior is rows t is_in = absurd cc
own_row_at q status.Ended prior is rows t is_in = absurd cc

-- what stands there already, set again
pub set_there : (classes : List (Option ℕ)) (t : ℕ) (row : Option ℕ) → slice_get classes t ≡ Some row → slice_set classes t row ≡ classes
set_there [] t row is = absurd cc
set_there (x ∷ classes) zero row is = ap (λ y. y ∷ classes) (sym (same_Some x row is))
set_there (x ∷ classes) (suc t) row is = ap (λ ys. x ∷ ys) (set_there classes t row is)

-- any step
pub steps_anew : (p : Program) (q : Tables) → IsValid p q → (c d : Control) → IsConfiguration p c → (t : ℕ) → t < length p.threads → step p t c ≡ Some d
    → (claims : List (Option Claim)) (rows after_rows : Rows) (after_counts : List ℕ) → CountsLiving p d after_counts →
    (st : Status) (children : List ℕ) → st ≡ status_of c t → children ≡ children_at p st →
    after_rows ≡ sorted_all (ready_row p q d claims) children
    (sorted_parent (ready_row p q d claims) (sorted_one (ready_row p q d claims) rows t) (ended_parent p t (status_of d t))) → OwnRows p q after_rows
    → Goes p q c d t claims rows after_rows after_counts
steps_anew p q valid c d ok t below stepped claims rows after_rows after_counts counted st children st_is children_are is own =
    record {
      stepped = stepped;
      counts = counted;
      sorted = λ before h claims_are. sorted_after_at p q valid c d ok t below stepped before rows after_rows h p q st children refl refl st_is children_are
          claims claims_are is own;
    }
