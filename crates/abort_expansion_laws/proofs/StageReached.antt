-- Which stages may be reached, by the chart's configuration alone; and the step of a thread that stands for one of its region.
use Rattle.std.proofs.Common.{◌≡◌, ◌≢◌, ℕ, zero, suc, ◌+◌, ◌<◌, ◌≤◌, ⊎_elim, Bool, true, false, nat_eq, List, [], ◌∷◌, length, Contains, refl, sym, ap}
use Rattle.std.proofs.Common.{subst, ◌∙◌, arith, if◌then◌else◌}
use Rattle.std.specs.Prelude.{filter}
use Rattle.std.specs.List.{list_any}
use Rattle.std.proofs.lemmas.Bool.Decides.{Decides-eqb}
use Rattle.std.proofs.lemmas.Bool.{or_parts, or_right}
use Rattle.core_charts.specs.declared.region.Transition.{Transition}
use Rattle.core_charts.specs.Tests.{is_weak}
use Rattle.core_charts.specs.Aborts.{has_aborts}
use Rattle.chart_machine.specs.declared.standing.Standing.{Standing}
use Rattle.chart_machine.specs.declared.standing.Standing.TheVariants as at
use Rattle.chart_machine.specs.declared.standing.Configuration.{Configuration}
use Rattle.chart_machine.specs.declared.table.Table.{Table}
use Rattle.chart_machine.specs.declared.table.RegionRow.{RegionRow}
use Rattle.chart_machine.specs.Table.{state_at, region_at}
use Rattle.chart_machine.specs.Turns.{standing_of, has_ended, may_close, has_work, inside, numbered_from}
use Rattle.tick_laws.proofs.Lists.{same_or_not}
use Rattle.chart_machine_laws.proofs.LyingIn.{around, holder, IsNested, none_in, head_or_tail, head_in, tail_in}
use Rattle.abort_expansion_laws.proofs.TablesCorrespond.{IsThere}
use Rattle.abort_expansion_laws.specs.CoreRows.{own, Images}
use Rattle.abort_expansion_laws.proofs.Unchanged.{SameShape, all_ended_by}
pub use Rattle.abort_expansion_laws.specs.StageReached.{some_work, stage_of, Stage}

-- ---- who is inside

module _ where
  head_or : (p : ℕ → Bool) (x : ℕ) (xs : List ℕ) → p x ≡ true → list_any p (x ∷ xs) ≡ true
  head_or p x xs e = rw (e) refl

  keep_head : (b : Bool) (x : ℕ) (xs : List ℕ) → b ≡ true → Contains (if b then x ∷ xs else xs) x
  keep_head true x xs e = (0, omega arith, refl)
  keep_head false x xs e = absurd cc

module _ where
  pub any_in : (p : ℕ → Bool) (xs : List ℕ) (y : ℕ) → Contains xs y → p y ≡ true → list_any p xs ≡ true
  any_in p [] y h e = absurd (none_in y h)
  any_in p (x ∷ xs) y h e =
      ⊎_elim (λ same. head_or p x xs (ap p same ∙ e)) (λ tail. or_right (p x) (list_any p xs) (any_in p xs y tail e)) (head_or_tail x y xs h)

  later : (b : Bool) (x : ℕ) (zs : List ℕ) (y : ℕ) → Contains zs y → Contains (if b then x ∷ zs else zs) y
  later true x zs y inner = tail_in x y zs inner
  later false x zs y inner = inner

  chosen : (p : ℕ → Bool) (xs : List ℕ) (y : ℕ) → Contains xs y → p y ≡ true → Contains (filter p xs) y
  chosen p [] y h e = absurd (none_in y h)
  chosen p (x ∷ xs) y h e =
      ⊎_elim (λ same. subst (Contains (filter p (x ∷ xs))) same (keep_head (p x) x (filter p xs) (ap p same ∙ e)))
      (λ tail. later (p x) x (filter p xs) y (chosen p xs y tail e)) (head_or_tail x y xs h)

  numbered_in : (rows : List RegionRow) (n j : ℕ) → j < length rows → Contains (numbered_from n rows) (n + j)
  numbered_in [] n j lt = absurd (omega (lt, arith))
  numbered_in (x ∷ rows) n zero lt = subst (Contains (n ∷ numbered_from (n + 1) rows)) (none_more n) (head_in n (numbered_from (n + 1) rows))
    where
      none_more : (m : ℕ) → m ≡ m + 0
      none_more m = omega arith
  numbered_in (x ∷ rows) n (suc j) lt =
      tail_in n (n + suc j) (numbered_from (n + 1) rows) (subst (Contains (numbered_from (n + 1) rows)) (one_more n j)
      (numbered_in rows (n + 1) j (omega (lt, arith))))
    where
      one_more : (m i : ℕ) → m + 1 + i ≡ m + suc i
      one_more m i = omega arith

  same_number : (n : ℕ) → nat_eq n n ≡ true
  same_number n = (Decides-eqb n n).1 refl

  pub inside_in : (k : Table) (s r : ℕ) → IsThere k r → Contains (around k r) s → Contains (inside k s) r
  inside_in k s zero there inner = let lt = there.0 in absurd (omega (lt, arith))
  inside_in k s (suc j) there inner =
      chosen (λ q. list_any (nat_eq s) (region_at k q).around) (numbered_from 1 k.regions) (suc j)
      (subst (Contains (numbered_from 1 k.regions)) (after_one j) (numbered_in k.regions 1 j (let lt = there.1 in omega (lt, arith))))
      (any_in (nat_eq s) (around k (suc j)) s inner (same_number s))
    where
      after_one : (m : ℕ) → 1 + m ≡ suc m
      after_one m = omega arith

  -- what is around a region is held further out
  outer_shorter : (k : Table) → IsNested k → (ss : List ℕ) (r s : ℕ) → around k r ≡ ss → Contains ss s → length (around k (holder k s)) < length ss
  outer_shorter k tree [] r s e h = absurd (none_in s h)
  outer_shorter k tree (x ∷ ss) r s e h =
      ⊎_elim
      (λ same. let n : length (around k (holder k s)) ≡ length ss = ap (λ z. length (around k (holder k z))) (sym same) ∙
      ap length (sym (tree.upward r x ss e)) in omega (n, arith))
      (λ tail. let n = outer_shorter k tree ss (holder k x) s (sym (tree.upward r x ss e)) tail in omega (n, arith)) (head_or_tail x s ss h)

  pub holds_other : (k : Table) → IsNested k → (r s : ℕ) → Contains (around k r) s → holder k s ≢ r
  holds_other k tree r s inner e =
      let n = outer_shorter k tree (around k r) r s refl inner in
      let m : length (around k (holder k s)) ≡ length (around k r) = ap (λ z. length (around k z)) e in absurd (omega (n, m, arith))

-- ---- stages rise

quiet_kept : (w w' : ℕ → Bool) (q : ℕ) → w q ≡ true → ((r : ℕ) → r ≢ q → w' r ≡ w r) → (xs : List ℕ) → list_any w xs ≡ false → list_any w' xs ≡ false
quiet_kept w w' q works alike [] e = refl
quiet_kept w w' q works alike (x ∷ xs) e =
    let both = or_parts (w x) (list_any w xs) e in
    ⊎_elim (λ same. let wrong : true ≡ false = sym works ∙ (ap w (sym same) ∙ both.0) in absurd cc)
    (λ ne. rw (alike x ne, both.0, quiet_kept w w' q works alike xs both.1) refl) (same_or_not x q)

abbrev pub staged : Bool → Bool → ℕ
staged busy weak = if busy then 1 else (if weak then 2 else 3)

pub at_least_one : (b w : Bool) → 1 ≤ staged b w
at_least_one true w = omega arith
at_least_one false true = omega arith
at_least_one false false = omega arith

pub one_at_least : (a b w : Bool) → 1 ≤ (if a then staged b w else 1)
one_at_least true b w = at_least_one b w
one_at_least false b w = omega arith

pub one_at_most : (a : Bool) → (if a then 1 else 1) ≤ 1
one_at_most true = omega arith
one_at_most false = omega arith

stage_rises : (b b' w : Bool) → (b ≡ false → b' ≡ false) → staged b w ≤ staged b' w
stage_rises true b' w calm = at_least_one b' w
stage_rises false true w calm = let wrong : true ≡ false = calm refl in absurd cc
stage_rises false false w calm = omega arith

pub either_rises : (a b b' w : Bool) → (b ≡ false → b' ≡ false) → (if a then staged b w else 1) ≤ (if a then staged b' w else 1)
either_rises true b b' w calm = stage_rises b b' w calm
either_rises false b b' w calm = omega arith

module _ (k : Table) (c d : Configuration) (ends : (q : ℕ) → has_ended (standing_of d q) ≡ has_ended (standing_of c q)) where
  may_close_so : (s : ℕ) (tests : List Transition) → may_close k d s tests ≡ may_close k c s tests
  may_close_so s [] = refl
  may_close_so s (t ∷ tests) = rw (all_ended_by c d ends (state_at k s).regions) refl

  pub has_work_so : (x : Standing) → has_work k d x ≡ has_work k c x
  has_work_so at.Outside = refl
  has_work_so at.Ended = refl
  has_work_so (at.Trying s []) = refl
  has_work_so (at.Trying s (t ∷ tests)) = refl
  has_work_so (at.Entering s tests) = refl
  has_work_so (at.Guarding s tests) = refl
  has_work_so (at.Acting s effects target) = refl
  has_work_so (at.Within s tests) = may_close_so s tests

  -- where a region with work steps, and no other one, no stage falls
  pub stage_so : (q : ℕ) → has_work k c (standing_of c q) ≡ true → ((r : ℕ) → r ≢ q → standing_of d r ≡ standing_of c r) → (x : Standing) →
      stage_of k c x ≤ stage_of k d x
  stage_so q works alike at.Outside = omega arith
  stage_so q works alike at.Ended = omega arith
  stage_so q works alike (at.Trying s tests) = omega arith
  stage_so q works alike (at.Entering s tests) = omega arith
  stage_so q works alike (at.Guarding s tests) = omega arith
  stage_so q works alike (at.Acting s effects target) = omega arith
  stage_so q works alike (at.Within s tests) =
      either_rises (has_aborts (own k s)) (some_work k c s) (some_work k d s) (list_any (λ t. is_weak t.kind) tests)
      (quiet_kept (λ r. has_work k c (standing_of c r)) (λ r. has_work k d (standing_of d r)) q works
      (λ r ne. has_work_so (standing_of d r) ∙ ap (has_work k c) (alike r ne)) (inside k s))

module _ (k core : Table) (i : Images) (c d : Configuration) (same : SameShape c d) where
  pub has_work_same : (x : Standing) → has_work k d x ≡ has_work k c x
  has_work_same x = has_work_so k c d same.ends x

  pub stage_kept : (q : ℕ) → has_work k c (standing_of c q) ≡ true → ((r : ℕ) → r ≢ q → standing_of d r ≡ standing_of c r) → (x : Standing) →
      stage_of k c x ≤ stage_of k d x
  stage_kept q works alike x = stage_so k c d same.ends q works alike x
