-- As a tick begins, one more thread is counted and sorted, or passed by.
use Rattle.std.proofs.Common.{◌≡◌, ◌≢◌, ℕ, ◌+◌, ◌<◌, ◌≤◌, ◌⊎◌, Bool, IsTrue, List, length, length-set, Option, Some, None}
use Rattle.std.proofs.Common.{slice_get, slice_set, slice_index, get_or, refl, sym, ap, subst, ◌∙◌, inl, inr, arith}
use Rattle.std.proofs.lemmas.Option.{slice_get-get_or}
use Rattle.tick_core.specs.Rows.{Rows}
use Rattle.sc_graph.specs.declared.control.Control.{Control}
use Rattle.sc_graph.specs.declared.control.Status.{Status}
use Rattle.sc_graph.specs.declared.control.Status.TheVariants as status
use Rattle.sc_graph.specs.declared.tables.Tables.{Tables}
use Rattle.sc_graph.specs.Program.{Program}
use Rattle.sc_graph.specs.Control.{status_of, status_enabled, joined_at}
use Rattle.sc_graph.specs.Tables.{priority_of}
use Rattle.sc_graph.specs.Tick.{IsConfiguration}
use Rattle.sc_graph.specs.Valid.{IsValid}
use Rattle.tick_laws.proofs.Lists.{same_or_not}
use Rattle.tick_core.specs.Space.Living.{living}
use Rattle.tick_core.specs.Space.Sorting.{OwnRows, row_at, step_priority, sorted_one}
use Rattle.tick_core.specs.Inside.Waking.{IsPassedBy, EnteredBelow}
use Rattle.tick_core.proofs.LivingChildren.{counts_more}
use Rattle.tick_core.proofs.OwnRoom.{kept_there}
use Rattle.tick_core.proofs.Unmoved.{one_other, sorted_more}

module _ (p : Program) (q : Tables) (c : Control) (b : Bool) (n : ℕ) (counts : List ℕ) (rows : Rows) (h : EnteredBelow p q c b n counts rows)
    (below : n < length p.threads) where
  pub enters : IsValid p q → IsConfiguration p c → (v : ℕ) → ((j : ℕ) → status_of c n ≡ status.Waiting j → v ≡ living c (joined_at p j))
      → (after_counts : List ℕ) → after_counts ≡ slice_set counts n v → (after_rows : Rows) → after_rows ≡ sorted_one (step_priority p q c) rows n
      → EnteredBelow p q c b (n + 1) after_counts after_rows
  enters valid ok v counted after_counts counts_are after_rows rows_are =
      subst (λ xs. EnteredBelow p q c b (n + 1) xs after_rows) (sym counts_are)
      (record {
        long = length-set counts n v ∙ h.long;
        counted = counts_more p c counts n (omega (arith, below, h.long)) v counted h.counted;
        own = subst (OwnRows p q) (sym rows_are) (kept_there p q rows h.own n below c valid ok);
        each = sorted_more p q (step_priority p q c) n rows after_rows h.own below h.each rows_are;
        rest = λ bare t prior least stands. h.rest bare t prior (omega (arith, least))
            (sym (one_other (step_priority p q c) rows n t (λ same. beyond t least same)) ∙ (sym (ap (λ (r : Rows). slice_get r.classes t) rows_are) ∙ stands));
      })
    where
      beyond : (t : ℕ) → n + 1 ≤ t → t ≡ n → ⊥
      beyond t least same = omega (arith, least, same)

  waits_never : (st : Status) → status_of c n ≡ st → IsPassedBy b st → (j : ℕ) → status_of c n ≡ status.Waiting j → ⊥
  waits_never (status.At m) is passed j waits = passed
  waits_never (status.Waiting m) is passed j waits = passed
  waits_never status.Absent is passed j waits = let same : status.Absent ≡ status.Waiting j = sym is ∙ waits in cc
  waits_never (status.Paused m) is passed j waits = let same : status.Paused m ≡ status.Waiting j = sym is ∙ waits in cc
  waits_never status.Ended is passed j waits = let same : status.Ended ≡ status.Waiting j = sym is ∙ waits in cc

  idle : (st : Status) → status_of c n ≡ st → IsPassedBy b st → step_priority p q c n ≡ None
  idle (status.At m) is passed = absurd passed
  idle (status.Waiting m) is passed = absurd passed
  idle status.Absent is passed = ap (λ s. row_at (status_enabled p c s) (priority_of q s)) is
  idle (status.Paused m) is passed = ap (λ s. row_at (status_enabled p c s) (priority_of q s)) is
  idle status.Ended is passed = ap (λ s. row_at (status_enabled p c s) (priority_of q s)) is

  are_bare : (st : Status) → IsPassedBy b st → IsTrue b
  are_bare (status.At m) passed = absurd passed
  are_bare (status.Waiting m) passed = absurd passed
  are_bare status.Absent passed = passed
  are_bare (status.Paused m) passed = passed
  are_bare status.Ended passed = passed

  in_none : IsTrue b → slice_get rows.classes n ≡ Some None
  in_none bare = go (get_or rows.classes n None) refl
    where
      found : slice_get rows.classes n ≡ Some (get_or rows.classes n None)
      found = slice_get-get_or rows.classes n None (omega (arith, below, h.own.long))

      go : (o : Option ℕ) → get_or rows.classes n None ≡ o → slice_get rows.classes n ≡ Some None
      go None is = found ∙ ap Some is
      go (Some prior) is = absurd (h.rest bare n prior (omega arith) (found ∙ ap Some is))

  pub passes : (st : Status) → status_of c n ≡ st → IsPassedBy b st → EnteredBelow p q c b (n + 1) counts rows
  passes st is passed =
      record {
        long = h.long;
        counted = λ t j less waits. counted t j less waits (same_or_not t n);
        own = h.own;
        each = λ t less. each t less (same_or_not t n);
        rest = λ bare t prior least stands. h.rest bare t prior (omega (arith, least)) stands;
      }
    where
      counted : (t j : ℕ) → t < n + 1 → status_of c t ≡ status.Waiting j → (t ≡ n) ⊎ (t ≢ n) → slice_index counts t ≡ living c (joined_at p j)
      counted t j less waits (inl same) = absurd (waits_never st is passed j (ap (status_of c) (sym same) ∙ waits))
      counted t j less waits (inr other) = h.counted t j (omega (arith, less, other)) waits

      each : (t : ℕ) → t < n + 1 → (t ≡ n) ⊎ (t ≢ n) → slice_get rows.classes t ≡ Some (step_priority p q c t)
      each t less (inl same) =
          ap (slice_get rows.classes) same
          ∙ (in_none (are_bare st passed) ∙ (ap Some (sym (idle st is passed)) ∙ ap (λ u. Some (step_priority p q c u)) (sym same)))
      each t less (inr other) = h.each t (omega (arith, less, other))

-- the same of lists and rows that are given twice
pub passes_at : (p : Program) (q : Tables) (c : Control) (b : Bool) (n : ℕ) (counts after_counts : List ℕ) (rows after_rows : Rows) →
    EnteredBelow p q c b n counts rows → n < length p.threads → (st : Status) → status_of c n ≡ st → IsPassedBy b st → after_counts ≡ counts
    → after_rows ≡ rows → EnteredBelow p q c b (n + 1) after_counts after_rows
passes_at p q c b n counts after_counts rows after_rows h below st is passed counts_are rows_are =
    subst (λ xs. EnteredBelow p q c b (n + 1) xs after_rows) (sym counts_are)
    (subst (EnteredBelow p q c b (n + 1) counts) (sym rows_are) (passes p q c b n counts rows h below st is passed))
