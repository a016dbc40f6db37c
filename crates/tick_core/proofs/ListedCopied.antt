-- Statuses made absent one by one, where all that are present are listed, and copied one by one, where all that stand otherwise are.
use Rattle.std.proofs.Common.{◌≡◌, ◌≢◌, ℕ, suc, ◌+◌, ◌<◌, ◌≤◌, ◌⊎◌, List, [], ◌∷◌, length, length-set, map}
use Rattle.std.proofs.Common.{Option, Some, None, Contains, slice_get, slice_set, refl, sym, ap, subst, ◌∙◌, inl, inr, ⊎_elim, arith}
use Rattle.std.proofs.lemmas.Option.{same_Some, slice_get_within, slice_get_past, slice_get-map}
use Rattle.std.proofs.lemmas.Bool.{cases_lt}
use Rattle.sc_graph.specs.declared.control.Status.{Status}
use Rattle.sc_graph.specs.declared.control.Status.TheVariants as status
use Rattle.sc_graph.specs.declared.control.Control.{Control}
use Rattle.sc_graph.specs.Program.{Program}
use Rattle.sc_graph.specs.Tick.{IsPresent, initial}
use Rattle.tick_laws.proofs.Lists.{contained, get_contains, get_set_same, get_set_other, map_some, same_or_not, slice_get_there}
use Rattle.tick_core.specs.Space.There.{AllListed, AreAbsent, AbsentBelow, ClearedBelow, StandsFrom, CopiedBelow, copied_by, copied_at}
use Rattle.tick_core.specs.Inside.Astir.{ChangedListed}

-- where nobody is present, everybody who is present is listed
pub absent_listed : (ss : List Status) (threads : List ℕ) → AreAbsent ss → AllListed ss threads
absent_listed ss threads h = record { each = λ t s is present. absurd (subst IsPresent (h.each t s is) present) }

-- before the first tick nobody is present
pub spare_listed : (p : Program) (c : Control) (threads : List ℕ) → c ≡ initial p → AllListed c.statuses threads
spare_listed p c threads is =
    absent_listed c.statuses threads (record { each = λ t s at. absent t s (sym (ap (λ (d : Control). slice_get d.statuses t) is) ∙ at) })
  where
    absent : (t : ℕ) (s : Status) → slice_get (map (λ _. status.Absent) p.threads) t ≡ Some s → s ≡ status.Absent
    absent t s at =
        let was = map_some (λ _. status.Absent) (slice_get p.threads t) s (sym (slice_get-map (λ _. status.Absent) p.threads t) ∙ at) in sym was.2

-- with one thread more made absent
pub absent_more : (ss : List Status) (n : ℕ) → AbsentBelow ss n → AbsentBelow (slice_set ss n status.Absent) (n + 1)
absent_more ss n h = record { each = λ t s less is. each t s less is (same_or_not t n) }
  where
    each : (t : ℕ) (s : Status) → t < n + 1 → slice_get (slice_set ss n status.Absent) t ≡ Some s → (t ≡ n) ⊎ (t ≢ n) → s ≡ status.Absent
    each t s less is (inl same) =
        let there : slice_get (slice_set ss n status.Absent) n ≡ Some s = ap (slice_get (slice_set ss n status.Absent)) (sym same) ∙ is in
        let within : n < length (slice_set ss n status.Absent) = slice_get_within (slice_set ss n status.Absent) n s there in
        sym (same_Some status.Absent s (sym (get_set_same ss n status.Absent (omega (arith, within, length-set ss n status.Absent))) ∙ there))
    each t s less is (inr other) = h.each t s (omega (arith, less, other)) (sym (get_set_other ss n t status.Absent other) ∙ is)

pub absent_all : (ss : List Status) (n : ℕ) → length ss ≤ n → AbsentBelow ss n → AreAbsent ss
absent_all ss n past h = record { each = λ t s is. h.each t s (omega (arith, slice_get_within ss t s is, past)) is }

below_then : (threads : List ℕ) (n t i u : ℕ) → slice_get threads n ≡ Some t → i < n + 1 → slice_get threads i ≡ Some u → u ≢ t → (i ≡ n) ⊎ (i ≢ n) → i < n
below_then threads n t i u is less at other (inl same) = absurd (other (same_Some u t (sym at ∙ (ap (slice_get threads) same ∙ is))))
below_then threads n t i u is less at other (inr apart) = omega (arith, less, apart)

pub cleared_none : (ss : List Status) (threads : List ℕ) → ClearedBelow ss ss threads 0
cleared_none ss threads = record { long = refl; cleared = λ i t s less. absurd (omega (arith, less)); rest = λ t s is. inr is }

pub cleared_more : (before after : List Status) (threads : List ℕ) (n t : ℕ) → ClearedBelow before after threads n → slice_get threads n ≡ Some t
    → ClearedBelow before (slice_set after t status.Absent) threads (n + 1)
cleared_more before after threads n t h is =
    record {
      long = length-set after t status.Absent ∙ h.long;
      cleared = λ i u s less at now. cleared i u s less at now (same_or_not u t);
      rest = λ u s now. rest u s now (same_or_not u t);
    }
  where
    own : (u : ℕ) (s : Status) → slice_get (slice_set after t status.Absent) u ≡ Some s → u ≡ t → s ≡ status.Absent
    own u s now same =
        let there : slice_get (slice_set after t status.Absent) t ≡ Some s = ap (slice_get (slice_set after t status.Absent)) (sym same) ∙ now in
        let within : t < length (slice_set after t status.Absent) = slice_get_within (slice_set after t status.Absent) t s there in
        sym (same_Some status.Absent s (sym (get_set_same after t status.Absent (omega (arith, within, length-set after t status.Absent))) ∙ there))

    cleared : (i u : ℕ) (s : Status) → i < n + 1 → slice_get threads i ≡ Some u → slice_get (slice_set after t status.Absent) u ≡ Some s → (u ≡ t) ⊎ (u ≢ t)
        → s ≡ status.Absent
    cleared i u s less at now (inl same) = own u s now same
    cleared i u s less at now (inr other) =
        h.cleared i u s (below_then threads n t i u is less at other (same_or_not i n)) at (sym (get_set_other after t u status.Absent other) ∙ now)

    rest : (u : ℕ) (s : Status) → slice_get (slice_set after t status.Absent) u ≡ Some s → (u ≡ t) ⊎ (u ≢ t)
        → (s ≡ status.Absent) ⊎ (slice_get before u ≡ Some s)
    rest u s now (inl same) = inl (own u s now same)
    rest u s now (inr other) = h.rest u s (sym (get_set_other after t u status.Absent other) ∙ now)

-- where all that were present are made absent, nobody is present
pub all_cleared : (before after : List Status) (threads : List ℕ) (n : ℕ) → length threads ≤ n → AllListed before threads
    → ClearedBelow before after threads n → AreAbsent after
all_cleared before after threads n past all h = record { each = λ t s is. ⊎_elim (λ absent. absent) (λ was. each t s is was) (h.rest t s is) }
  where
    listed : (t : ℕ) (s : Status) → slice_get after t ≡ Some s → slice_get before t ≡ Some s → IsPresent s → s ≡ status.Absent
    listed t s is was present =
        let at : (i : ℕ) × (slice_get threads i ≡ Some t) = get_contains threads t (all.each t s was present) in
        h.cleared at.0 t s (omega (arith, slice_get_within threads at.0 t at.1, past)) at.1 is

    each : (t : ℕ) (s : Status) → slice_get after t ≡ Some s → slice_get before t ≡ Some s → s ≡ status.Absent
    each t status.Absent is was = refl
    each t (status.At n) is was = listed t (status.At n) is was tt
    each t (status.Waiting j) is was = listed t (status.Waiting j) is was tt
    each t (status.Paused d) is was = listed t (status.Paused d) is was tt
    each t status.Ended is was = listed t status.Ended is was tt

-- where all that are present are listed, and nobody is present by the others, whoever stands otherwise is listed
pub changed_absent : (from to : List Status) (threads : List ℕ) → length to ≡ length from → AllListed from threads → AreAbsent to
    → ChangedListed from to threads
changed_absent from to threads long all absent = record { each = λ t. by t (contained threads t) }
  where
    absent_there : (t : ℕ) (s : Status) → slice_get from t ≡ Some s → ¬ Contains threads t → s ≡ status.Absent
    absent_there t status.Absent is none = refl
    absent_there t (status.At n) is none = absurd (none (all.each t (status.At n) is tt))
    absent_there t (status.Waiting j) is none = absurd (none (all.each t (status.Waiting j) is tt))
    absent_there t (status.Paused d) is none = absurd (none (all.each t (status.Paused d) is tt))
    absent_there t status.Ended is none = absurd (none (all.each t status.Ended is tt))

    unlisted : (t : ℕ) → ¬ Contains threads t → (t < length from) ⊎ (length from ≤ t) → slice_get to t ≡ slice_get from t
    unlisted t none (inr more) = slice_get_past to t (omega (arith, more, long)) ∙ sym (slice_get_past from t more)
    unlisted t none (inl less) =
        let was : (x : Status) × (slice_get from t ≡ Some x) = slice_get_there from t less in
        let now : (x : Status) × (slice_get to t ≡ Some x) = slice_get_there to t (omega (arith, less, long)) in
        now.1 ∙ (ap Some (absent.each t now.0 now.1 ∙ sym (absent_there t was.0 was.1 none)) ∙ sym was.1)

    by : (t : ℕ) → Contains threads t ⊎ ¬ Contains threads t → Contains threads t ⊎ (slice_get to t ≡ slice_get from t)
    by t (inl inside) = inl inside
    by t (inr none) = inr (unlisted t none (cases_lt t (length from)))

pub copied_none : (from to : List Status) (threads : List ℕ) → length to ≡ length from → ChangedListed from to threads → CopiedBelow from to threads 0
copied_none from to threads long h = record { long = long; rest = λ t. by t (h.each t) }
  where
    by : (t : ℕ) → Contains threads t ⊎ (slice_get to t ≡ slice_get from t) → StandsFrom threads 0 t ⊎ (slice_get to t ≡ slice_get from t)
    by t (inl inside) =
        let at : (i : ℕ) × (slice_get threads i ≡ Some t) = get_contains threads t inside in inl (record { at = at.0; past = omega arith; is = at.1 })
    by t (inr same) = inr same

module _ (from to : List Status) (threads : List ℕ) (n t : ℕ) (h : CopiedBelow from to threads n) (is : slice_get threads n ≡ Some t) where
  long_by : (o : Option Status) → length (copied_by to t o) ≡ length from
  long_by None = h.long
  long_by (Some s) = length-set to t s ∙ h.long

  same_there : (o : Option Status) → slice_get from t ≡ o → slice_get (copied_by to t o) t ≡ o
  same_there None none = past (cases_lt t (length from))
    where
      past : (t < length from) ⊎ (length from ≤ t) → slice_get to t ≡ None
      past (inl less) =
          let some : (x : Status) × (slice_get from t ≡ Some x) = slice_get_there from t less in
          let never : None ≡ Some some.0 = sym none ∙ some.1 in
          absurd (cc)
      past (inr more) = slice_get_past to t (omega (arith, more, h.long))
  same_there (Some s) some = get_set_same to t s (omega (arith, slice_get_within from t s some, h.long))

  other_there : (u : ℕ) (o : Option Status) → u ≢ t → slice_get (copied_by to t o) u ≡ slice_get to u
  other_there u None other = refl
  other_there u (Some s) other = get_set_other to t u s other

  later : (u : ℕ) → u ≢ t → (s : StandsFrom threads n u) → (s.at ≡ n) ⊎ (s.at ≢ n) → StandsFrom threads (n + 1) u
  later u other s (inl same) = absurd (other (same_Some u t (sym s.is ∙ (ap (slice_get threads) same ∙ is))))
  later u other s (inr apart) = record { at = s.at; past = omega (arith, s.past, apart); is = s.is }

  rest_other : (u : ℕ) → u ≢ t → StandsFrom threads n u ⊎ (slice_get to u ≡ slice_get from u)
      → StandsFrom threads (n + 1) u ⊎ (slice_get (copied_at from to t) u ≡ slice_get from u)
  rest_other u other (inl s) = inl (later u other s (same_or_not s.at n))
  rest_other u other (inr same) = inr (other_there u (slice_get from t) other ∙ same)

  rest_here : (u : ℕ) → (u ≡ t) ⊎ (u ≢ t) → StandsFrom threads (n + 1) u ⊎ (slice_get (copied_at from to t) u ≡ slice_get from u)
  rest_here u (inl same) =
      inr (ap (slice_get (copied_at from to t)) same ∙ (same_there (slice_get from t) refl ∙ ap (slice_get from) (sym same)))
  rest_here u (inr other) = rest_other u other (h.rest u)

  pub copied_more : CopiedBelow from (copied_at from to t) threads (n + 1)
  copied_more = record { long = long_by (slice_get from t); rest = λ u. rest_here u (same_or_not u t) }

same_lists : (xs ys : List Status) → ((t : ℕ) → slice_get xs t ≡ slice_get ys t) → xs ≡ ys
same_lists [] [] each = refl
same_lists [] (y ∷ ys) each = let never : None ≡ Some y = each 0 in absurd (cc)
same_lists (x ∷ xs) [] each = let never : Some x ≡ None = each 0 in absurd (cc)
same_lists (x ∷ xs) (y ∷ ys) each =
    ap (λ v. v ∷ xs) (same_Some x y (each 0)) ∙ ap (λ zs. y ∷ zs) (same_lists xs ys (λ t. each (suc t)))

-- where all that stood otherwise are copied, all statuses are the same
pub all_copied : (from to : List Status) (threads : List ℕ) (n : ℕ) → length threads ≤ n → CopiedBelow from to threads n → to ≡ from
all_copied from to threads n past h = same_lists to from (λ t. by t (h.rest t))
  where
    by : (t : ℕ) → StandsFrom threads n t ⊎ (slice_get to t ≡ slice_get from t) → slice_get to t ≡ slice_get from t
    by t (inl s) = absurd (omega (arith, s.past, past, slice_get_within threads s.at t s.is))
    by t (inr same) = same
