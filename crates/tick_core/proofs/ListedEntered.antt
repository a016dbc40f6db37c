-- As a tick begins, where all that are astir are sorted, everybody is.
use Rattle.std.proofs.Common.{◌≡◌, ◌≢◌, ℕ, ◌+◌, ◌<◌, ◌≤◌, ◌⊎◌, List, length, Option, Some, None, slice_get, slice_set, get_or}
use Rattle.std.proofs.Common.{refl, sym, ap, subst, ◌∙◌, inl, inr, ⊎_elim, arith}
use Rattle.std.proofs.lemmas.Option.{same_Some, slice_get-get_or, slice_get_within}
use Rattle.tick_core.specs.Rows.{Rows, IsIn, AreEmpty}
use Rattle.sc_graph.specs.declared.control.Control.{Control}
use Rattle.sc_graph.specs.declared.control.Status.{Status}
use Rattle.sc_graph.specs.declared.control.Status.TheVariants as status
use Rattle.sc_graph.specs.declared.tables.Tables.{Tables}
use Rattle.sc_graph.specs.Program.{Program}
use Rattle.sc_graph.specs.Control.{status_of, status_enabled}
use Rattle.sc_graph.specs.Tables.{priority_of}
use Rattle.sc_graph.specs.Tick.{IsConfiguration}
use Rattle.sc_graph.specs.Valid.{IsValid}
use Rattle.tick_laws.proofs.Lists.{same_or_not, get_contains, get_set_same, get_set_other}
use Rattle.tick_core.specs.Space.Sorting.{OwnRows, StandSorted, row_at, step_priority, sorted_one}
use Rattle.tick_core.specs.Inside.Astir.{IsAstir, AstirListed}
use Rattle.tick_core.specs.Inside.Waking.{EntersRow, EnteredThose, NobodyElse}
use Rattle.tick_core.proofs.Covered.{astir_of}
use Rattle.tick_core.proofs.OwnRoom.{kept_there}

pub enters_row : (p : Program) (q : Tables) (c : Control) (t : ℕ) (rows : Rows) → IsValid p q → IsConfiguration p c → OwnRows p q rows → t < length p.threads
    → EntersRow p q c t rows (sorted_one (step_priority p q c) rows t)
enters_row p q c t rows valid ok own below =
    record {
      own_rows = kept_there p q rows own t below c valid ok;
      own = λ less. there;
      others = λ u right. others u right (same_or_not u t);
      rest = λ u prior stands. rest u prior stands (same_or_not u t);
    }
  where
    row : ℕ → Option ℕ
    row = step_priority p q c

    there : slice_get (slice_set rows.classes t (step_priority p q c t)) t ≡ Some (step_priority p q c t)
    there = get_set_same rows.classes t (step_priority p q c t) (omega (arith, below, own.long))

    others : (u : ℕ) → slice_get rows.classes u ≡ Some (step_priority p q c u) → (u ≡ t) ⊎ (u ≢ t)
        → slice_get (slice_set rows.classes t (step_priority p q c t)) u ≡ Some (step_priority p q c u)
    others u right (inl same) =
        ap (slice_get (slice_set rows.classes t (step_priority p q c t))) same ∙ (there ∙ ap (λ v. Some (step_priority p q c v)) (sym same))
    others u right (inr other) = get_set_other rows.classes t u (step_priority p q c t) other ∙ right

    rest : (u prior : ℕ) → IsIn (slice_set rows.classes t (step_priority p q c t)) u prior → (u ≡ t) ⊎ (u ≢ t)
        → IsIn rows.classes u prior ⊎ (step_priority p q c u ≡ Some prior)
    rest u prior stands (inl same) =
        inr (ap (step_priority p q c) same ∙ same_Some (step_priority p q c t) (Some prior)
        (sym there ∙ (ap (slice_get (slice_set rows.classes t (step_priority p q c t))) (sym same) ∙ stands)))
    rest u prior stands (inr other) = inl (sym (get_set_other rows.classes t u (step_priority p q c t) other) ∙ stands)

-- who is no thread of the program is passed by
pub passes_row : (p : Program) (q : Tables) (c : Control) (t : ℕ) (rows : Rows) → OwnRows p q rows → ¬ (t < length p.threads) → EntersRow p q c t rows rows
passes_row p q c t rows own past =
    record { own_rows = own; own = λ less. absurd (past less); others = λ u right. right; rest = λ u prior stands. inl stands }

-- so is who cannot step and, where everybody in a row can, stands in none
pub passes_idle : (p : Program) (q : Tables) (c : Control) (t : ℕ) (rows : Rows) → OwnRows p q rows → NobodyElse p q c rows → t < length p.threads
    → step_priority p q c t ≡ None → EntersRow p q c t rows rows
passes_idle p q c t rows own right below idle =
    record {
      own_rows = own;
      own = λ less. nowhere (get_or rows.classes t None) refl;
      others = λ u stands. stands;
      rest = λ u prior stands. inl stands;
    }
  where
    there : slice_get rows.classes t ≡ Some (get_or rows.classes t None)
    there = slice_get-get_or rows.classes t None (omega (arith, below, own.long))

    nowhere : (o : Option ℕ) → get_or rows.classes t None ≡ o → slice_get rows.classes t ≡ Some (step_priority p q c t)
    nowhere None is = there ∙ (ap Some is ∙ ap Some (sym idle))
    nowhere (Some prior) is =
        let some : Some prior ≡ None = sym (right t prior (there ∙ ap Some is)) ∙ idle in absurd (cc)

pub entered_none : (p : Program) (q : Tables) (c : Control) (threads : List ℕ) (rows : Rows) → OwnRows p q rows → AreEmpty rows
    → EnteredThose p q c threads 0 rows
entered_none p q c threads rows own bare =
    record {
      own_rows = own;
      placed = λ i t less. absurd (omega (arith, less));
      rest = λ u prior stands. absurd (bare.each u prior stands);
    }

pub entered_more : (p : Program) (q : Tables) (c : Control) (threads : List ℕ) (n : ℕ) (rows after_rows : Rows) (t : ℕ) → EnteredThose p q c threads n rows
    → slice_get threads n ≡ Some t → EntersRow p q c t rows after_rows → EnteredThose p q c threads (n + 1) after_rows
entered_more p q c threads n rows after_rows t h is row =
    record {
      own_rows = row.own_rows;
      placed = λ i u less at below. placed i u less at below (same_or_not i n);
      rest = λ u prior stands. ⊎_elim (h.rest u prior) (λ right. right) (row.rest u prior stands);
    }
  where
    placed : (i u : ℕ) → i < n + 1 → slice_get threads i ≡ Some u → u < length p.threads → (i ≡ n) ⊎ (i ≢ n)
        → slice_get after_rows.classes u ≡ Some (step_priority p q c u)
    placed i u less at below (inl same) =
        let alike : u ≡ t = same_Some u t (sym at ∙ (ap (slice_get threads) same ∙ is)) in
        subst (λ v. slice_get after_rows.classes v ≡ Some (step_priority p q c v)) (sym alike) (row.own (subst (λ v. v < length p.threads) alike below))
    placed i u less at below (inr other) = row.others u (h.placed i u (omega (arith, less, other)) at below)

module _ (p : Program) (q : Tables) (c : Control) (threads : List ℕ) (rows : Rows) (n : ℕ) (past : length threads ≤ n)
    (listed : AstirListed c.statuses threads) (h : EnteredThose p q c threads n rows) where
  placed_there : (t : ℕ) → t < length p.threads → IsAstir (status_of c t) → slice_get rows.classes t ≡ Some (step_priority p q c t)
  placed_there t below astir =
      let at : (i : ℕ) × (slice_get threads i ≡ Some t) = get_contains threads t (astir_of c threads listed t astir) in
      h.placed at.0 t (omega (arith, slice_get_within threads at.0 t at.1, past)) at.1 below

  idle_nowhere : (t : ℕ) → t < length p.threads → step_priority p q c t ≡ None → (o : Option ℕ) → get_or rows.classes t None ≡ o
      → slice_get rows.classes t ≡ Some (step_priority p q c t)
  idle_nowhere t below idle None is =
      slice_get-get_or rows.classes t None (omega (arith, below, h.own_rows.long)) ∙ (ap Some is ∙ ap Some (sym idle))
  idle_nowhere t below idle (Some prior) is =
      let stands : IsIn rows.classes t prior = slice_get-get_or rows.classes t None (omega (arith, below, h.own_rows.long)) ∙ ap Some is in
      let some : Some prior ≡ None = sym (h.rest t prior stands) ∙ idle in
      absurd (cc)

  placed : (t : ℕ) → t < length p.threads → (s : Status) → status_of c t ≡ s → slice_get rows.classes t ≡ Some (step_priority p q c t)
  placed t below status.Absent is =
      idle_nowhere t below (ap (λ s. row_at (status_enabled p c s) (priority_of q s)) is) (get_or rows.classes t None) refl
  placed t below status.Ended is =
      idle_nowhere t below (ap (λ s. row_at (status_enabled p c s) (priority_of q s)) is) (get_or rows.classes t None) refl
  placed t below (status.At n) is = placed_there t below (subst IsAstir (sym is) tt)
  placed t below (status.Waiting j) is = placed_there t below (subst IsAstir (sym is) tt)
  placed t below (status.Paused d) is = placed_there t below (subst IsAstir (sym is) tt)

  pub all_listed_sorted : StandSorted p q c rows
  all_listed_sorted = record { own_rows = h.own_rows; each = λ t below. placed t below (status_of c t) refl }
