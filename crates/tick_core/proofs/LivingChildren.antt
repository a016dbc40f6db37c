-- The counts of living children tell who is enabled, and a step keeps them with one change.
use Rattle.std.proofs.Common.{◌≡◌, ◌≢◌, ℕ, suc, ◌+◌, ◌<◌, ◌⊎◌, ◌&&◌, Bool, true, false, nat_eq, List, [], ◌∷◌, length, length-set, Option, Some, None}
use Rattle.std.proofs.Common.{slice_index, slice_set, Contains, refl, sym, ap, subst, ◌∙◌, inl, inr, ⊎_elim, arith, eqb-true}
use Rattle.std.specs.Prelude.{count_by, not}
use Rattle.std.specs.List.{list_all}
use Rattle.std.proofs.lemmas.List.Sums.{sum_by-cons}
use Rattle.std.proofs.lemmas.Option.{same_Some}
use Rattle.tick_core.proofs.Lists.{counts_one, index_same, index_other}
use Rattle.sc_graph.specs.declared.control.Control.{Control}
use Rattle.sc_graph.specs.declared.control.Status.{Status}
use Rattle.sc_graph.specs.declared.control.Status.TheVariants as status
use Rattle.sc_graph.specs.declared.tables.Tables.{Tables}
use Rattle.sc_graph.specs.Program.{Program, parent_of}
use Rattle.sc_graph.specs.Control.{status_of, status_enabled, has_ended, joined_at, all_ended, IsEnabled}
use Rattle.sc_graph.specs.Size.{AreDistinct}
use Rattle.sc_graph.specs.Steps.{Effect, effect, after, moved, step}
use Rattle.sc_graph.specs.Tick.{IsConfiguration}
use Rattle.sc_graph.specs.Valid.{IsValid}
use Rattle.tick_laws.proofs.Lists.{same_or_not, contains_cons, contains_none, contains_head, contains_tail, get_contains, map_some}
use Rattle.tick_laws.proofs.Formed.{valid_formed, ChildOf, JoinOf, join_of, fork_of, joined_is, child_parent, distinct_children}
use Rattle.tick_laws.proofs.Kin.{enabled_present}
use Rattle.tick_laws.proofs.Moves.{IsMoved, standing, known, moved_other, movers_of, moved_all}
use Rattle.tick_laws.proofs.Sound.{whom, IsIdleChild, fork_of_join}
use Rattle.tick_laws.proofs.StepMoves.{StepMoves, step_moves}
use Rattle.tick_laws.proofs.Views.{Does, Enabled, stands, completes, enabled_view}
use Rattle.tick_laws.proofs.Views.{does as what_does}
use Rattle.sc_graph.specs.Tables.{priority, priority_of}
use Rattle.tick_core.specs.Space.Sorting.{row_at, step_priority}
use Rattle.tick_core.specs.Space.Living.{lives, living, CountsLiving, one_less, counted_at}

one_more : (f : ℕ → Bool) (k : ℕ) (ks : List ℕ) → count_by f (k ∷ ks) ≡ counts_one (f k) + count_by f ks
one_more f k ks = sum_by-cons (λ i. counts_one (f i)) k ks

never_zero : (n : ℕ) (b : Bool) → nat_eq (1 + n) 0 ≡ b → nat_eq (1 + n) 0 ≡ false
never_zero n true is = absurd (omega (arith, eqb-true (1 + n) 0 is))
never_zero n false is = is

none_before : (n : ℕ) → 0 + n ≡ n
none_before n = omega arith

none_more : (f : ℕ → Bool) (k : ℕ) (ks : List ℕ) → nat_eq (count_by (λ i. not (f i)) ks) 0 ≡ list_all f ks → (b : Bool) → f k ≡ b →
    nat_eq (counts_one (not (f k)) + count_by (λ i. not (f i)) ks) 0 ≡ f k && list_all f ks
none_more f k ks rest true is =
    ap (λ b. nat_eq (counts_one (not b) + count_by (λ i. not (f i)) ks) 0) is
    ∙ (ap (λ n. nat_eq n 0) (none_before (count_by (λ i. not (f i)) ks)) ∙ (rest ∙ sym (ap (λ b. b && list_all f ks) is)))
none_more f k ks rest false is =
    ap (λ b. nat_eq (counts_one (not b) + count_by (λ i. not (f i)) ks) 0) is
    ∙ (never_zero (count_by (λ i. not (f i)) ks) (nat_eq (1 + count_by (λ i. not (f i)) ks) 0) refl ∙ sym (ap (λ b. b && list_all f ks) is))

-- where none is counted, all have ended
pub none_living : (f : ℕ → Bool) (ks : List ℕ) → nat_eq (count_by (λ k. not (f k)) ks) 0 ≡ list_all f ks
none_living f [] = refl
none_living f (k ∷ ks) = ap (λ n. nat_eq n 0) (one_more (λ i. not (f i)) k ks) ∙ none_more f k ks (none_living f ks) (f k) refl

-- who waits is enabled where its count is 0
pub ended_is : (c : Control) (o : Option (List ℕ)) → nat_eq (living c o) 0 ≡ all_ended c o
ended_is c None = refl
ended_is c (Some children) = none_living (λ k. has_ended (status_of c k)) children

-- at which priority a waiting thread can step, by how many children live for whom it waits
pub waiting_row_by : (p : Program) (q : Tables) (c : Control) (t j : ℕ) → status_of c t ≡ status.Waiting j → (n : ℕ) → n ≡ living c (joined_at p j) →
    step_priority p q c t ≡ row_at (nat_eq n 0) (priority q j)
waiting_row_by p q c t j waits n is =
    ap (λ st. row_at (status_enabled p c st) (priority_of q st)) waits
    ∙ ap (λ b. row_at b (priority q j)) (sym (ended_is c (joined_at p j)) ∙ ap (λ m. nat_eq m 0) (sym is))

-- at which priority a waiting thread can step, by its count
pub waiting_row : (p : Program) (q : Tables) (c : Control) (t j : ℕ) (counts : List ℕ) → CountsLiving p c counts → status_of c t ≡ status.Waiting j → (n : ℕ)
    → n ≡ slice_index counts t →
    step_priority p q c t ≡ row_at (nat_eq n 0) (priority q j)
waiting_row p q c t j counts h waits n is = waiting_row_by p q c t j waits n (is ∙ h.each t j waits)

pub waits_on : (n prior : ℕ) → n ≢ 0 → None ≡ row_at (nat_eq n 0) prior
waits_on n prior some = go (nat_eq n 0) refl
  where
    go : (b : Bool) → nat_eq n 0 ≡ b → None ≡ row_at (nat_eq n 0) prior
    go true is = absurd (some (eqb-true n 0 is))
    go false is = sym (ap (λ b. row_at b prior) is)

pub same_counts : (f g : ℕ → Bool) (ks : List ℕ) → ((k : ℕ) → Contains ks k → f k ≡ g k) → count_by f ks ≡ count_by g ks
same_counts f g [] each = refl
same_counts f g (k ∷ ks) each =
    one_more f k ks ∙ (ap (λ b. counts_one b + count_by f ks) (each k (contains_head k ks))
    ∙ (ap (λ n. counts_one (g k) + n) (same_counts f g ks (λ i within. each i (contains_tail k i ks within))) ∙ sym (one_more g k ks)))

distinct_tail : (k : ℕ) (ks : List ℕ) → AreDistinct (k ∷ ks) → AreDistinct ks
distinct_tail k ks distinct = λ i j a b less x y. distinct (suc i) (suc j) a b (omega arith) x y

not_again : (k : ℕ) (ks : List ℕ) → AreDistinct (k ∷ ks) → ¬ Contains ks k
not_again k ks distinct within =
    let at = get_contains ks k within in
    distinct 0 (suc at.0) k k (omega arith) refl at.1 refl

one_ended_more : (f g : ℕ → Bool) (k : ℕ) (ks : List ℕ) (t : ℕ) → AreDistinct (k ∷ ks) → Contains (k ∷ ks) t → f t ≡ true → g t ≡ false
    → ((i : ℕ) → Contains (k ∷ ks) i → i ≢ t → f i ≡ g i) →
    (Contains ks t → count_by g ks + 1 ≡ count_by f ks) → (k ≡ t) ⊎ (k ≢ t) → count_by g (k ∷ ks) + 1 ≡ count_by f (k ∷ ks)
one_ended_more f g k ks t distinct within was is each rest (inl same) =
    let others : count_by f ks ≡ count_by g ks =
    same_counts f g ks (λ i inside. each i (contains_tail k i ks inside) (λ e. not_again k ks distinct (subst (Contains ks) (e ∙ sym same) inside))) in
    omega (arith, one_more f k ks, one_more g k ks, others, ap counts_one (ap f same ∙ was), ap counts_one (ap g same ∙ is))
one_ended_more f g k ks t distinct within was is each rest (inr other) =
    let tail : Contains ks t = ⊎_elim (λ same. absurd (other same)) (λ inside. inside) (contains_cons k t ks within) in
    omega (arith, one_more f k ks, one_more g k ks, ap counts_one (each k (contains_head k ks) other), rest tail)

-- where one of them ended and the others stand as before, one less is counted
one_ended : (f g : ℕ → Bool) (ks : List ℕ) (t : ℕ) → AreDistinct ks → Contains ks t → f t ≡ true → g t ≡ false → ((k : ℕ) → Contains ks k → k ≢ t → f k ≡ g k) →
    count_by g ks + 1 ≡ count_by f ks
one_ended f g [] t distinct within was is each = absurd (contains_none t within)
one_ended f g (k ∷ ks) t distinct within was is each =
    one_ended_more f g k ks t distinct within was is each
    (λ tail. one_ended f g ks t (distinct_tail k ks distinct) tail was is (λ i inside differ. each i (contains_tail k i ks inside) differ)) (same_or_not k t)

abbrev lives_at : Status → Bool
lives_at st = not (has_ended st)

module _ (p : Program) (q : Tables) (valid : IsValid p q) (c : Control) (ok : IsConfiguration p c) (t : ℕ) (enabled : Enabled p c t) (e : Effect)
    (does : Does p c t e) where
  -- who steps has not ended
  lives_before : Enabled p c t → lives c t ≡ true
  lives_before (stands n at) = ap lives_at at
  lives_before (completes w) = ap lives_at w.at

  -- who waits after the step of another waited before
  waited : (u j : ℕ) → u ≢ t → status_of (after e c) u ≡ status.Waiting j → status_of (after e c) u ≡ status_of c u
  waited u j other waits = moved_other e.moves c.statuses u (λ moves. not_moved moves)
    where
      m : StepMoves p c t e
      m = step_moves p (valid_formed p q valid) c ok t e does

      child_waits : Contains m.children u → ⊥
      child_waits child =
          m.is_idle u j child
          (sym (moved_all m.f m.own m.children (slice_set c.statuses t m.to) u child (omega (arith, m.within u child, length-set c.statuses t m.to)))
          ∙ (sym (ap (λ moves. standing (moved moves c.statuses) u) m.moves) ∙ waits))

      not_moved : IsMoved e.moves u → ⊥
      not_moved moves =
          ⊎_elim (λ same. other (sym same)) (λ tail. child_waits (movers_of m.f m.own m.children u tail))
          (contains_cons t u _ (subst (λ moves. IsMoved moves u) m.moves moves))

  -- the children of another thread stand as before, but for the thread of the step
  same_child : (u k : ℕ) → u ≢ t → parent_of p k ≡ Some u → k ≢ t → lives c k ≡ lives (after e c) k
  same_child u k other parent differ =
      ap lives_at (sym (moved_other e.moves c.statuses k
      (λ moves. ⊎_elim differ (λ (idle : IsIdleChild p c t k). other (same_Some u t (sym parent ∙ idle.parent)))
      (whom p (valid_formed p q valid) c ok t e does k moves))))

  module _ (counts : List ℕ) (h : CountsLiving p c counts) (below : t < length p.threads) where
    -- who waits and is neither the thread of the step nor its parent
    others : (u j : ℕ) → u ≢ t → parent_of p t ≢ Some u → status_of c u ≡ status.Waiting j → (o : Option (List ℕ)) → joined_at p j ≡ o
        → living c o ≡ living (after e c) o
    others u j other no_parent waits None joined = refl
    others u j other no_parent waits (Some children) joined =
        let of : JoinOf p j children = join_of p j children joined in
        same_counts (lives c) (lives (after e c)) children
        (λ k within. let parent : parent_of p k ≡ Some u =
        child_parent p (valid_formed p q valid) of.fork u children j k (fork_of_join p (valid_formed p q valid) c ok u j children waits of) within in
        same_child u k other parent (λ same. no_parent (ap (parent_of p) (sym same) ∙ parent)))

    less_other : (u : ℕ) (o : Option ℕ) → o ≢ Some u → slice_index (one_less counts o) u ≡ slice_index counts u
    less_other u None other = refl
    less_other u (Some w) other = index_other counts w u _ (λ same. other (ap Some (sym same)))

    kept_other : (u : ℕ) → u ≢ t → parent_of p t ≢ Some u → (st : Status) → slice_index (counted_at p (after e c) counts t st) u ≡ slice_index counts u
    kept_other u other no_parent (status.Waiting j) = index_other counts t u _ other
    kept_other u other no_parent status.Ended = less_other u (parent_of p t) no_parent
    kept_other u other no_parent status.Absent = refl
    kept_other u other no_parent (status.At n) = refl
    kept_other u other no_parent (status.Paused n) = refl

    -- the parent waits for the thread of the step among others
    module _ (u : ℕ) (other : u ≢ t) (parent : parent_of p t ≡ Some u) (within : u < length counts) where
      of : ChildOf p t u
      of = fork_of p (valid_formed p q valid) t u parent

      waits_there : status_of c u ≡ status.Waiting of.join
      waits_there = (ok.present of.fork u of.children of.join t of.is of.child).0 (enabled_present p c t enabled)

      was : slice_index counts u ≡ count_by (lives c) of.children
      was = h.each u of.join waits_there ∙ ap (living c) (joined_is p (valid_formed p q valid) of.fork u of.children of.join of.is)

      sibling : (k : ℕ) → Contains of.children k → k ≢ t → lives c k ≡ lives (after e c) k
      sibling k inside differ = same_child u k other (child_parent p (valid_formed p q valid) of.fork u of.children of.join k of.is inside) differ

      same_or_sibling : lives (after e c) t ≡ true → (k : ℕ) → Contains of.children k → (k ≡ t) ⊎ (k ≢ t) → lives c k ≡ lives (after e c) k
      same_or_sibling living_on k inside (inl same) = ap (lives c) same ∙ (lives_before enabled ∙ (sym living_on ∙ ap (lives (after e c)) (sym same)))
      same_or_sibling living_on k inside (inr differ) = sibling k inside differ

      unchanged : lives (after e c) t ≡ true → slice_index counts u ≡ count_by (lives (after e c)) of.children
      unchanged living_on = was ∙ same_counts (lives c) (lives (after e c)) of.children (λ k inside. same_or_sibling living_on k inside (same_or_not k t))

      of_parent : (st : Status) → status_of (after e c) t ≡ st → slice_index (counted_at p (after e c) counts t st) u ≡ count_by (lives (after e c)) of.children
      of_parent (status.Waiting j) is = index_other counts t u _ other ∙ unchanged (ap lives_at is)
      of_parent status.Ended is =
          let one = one_ended (lives c) (lives (after e c)) of.children t (distinct_children p (valid_formed p q valid) of.fork u of.children of.join of.is)
          of.child
          (lives_before enabled) (ap lives_at is) sibling in
          ap (λ o. slice_index (one_less counts o) u) parent ∙ (index_same counts u _ within ∙ omega (arith, was, one))
      of_parent status.Absent is = unchanged (ap lives_at is)
      of_parent (status.At n) is = unchanged (ap lives_at is)
      of_parent (status.Paused n) is = unchanged (ap lives_at is)

      parent_counted : (j : ℕ) → status_of c u ≡ status.Waiting j → slice_index (counted_at p (after e c) counts t (status_of (after e c) t)) u
          ≡ living (after e c) (joined_at p j)
      parent_counted j waits =
          let same : of.join ≡ j = same_join (sym waits_there ∙ waits) in
          of_parent (status_of (after e c) t) refl
          ∙ sym (ap (living (after e c)) (ap (joined_at p) (sym same) ∙ joined_is p (valid_formed p q valid) of.fork u of.children of.join of.is))
        where
          same_join : {a b : ℕ} → status.Waiting a ≡ status.Waiting b → a ≡ b
          same_join same = cc

    long_at : (st : Status) → length (counted_at p (after e c) counts t st) ≡ length p.threads
    long_at (status.Waiting j) = length-set counts t _ ∙ h.long
    long_at status.Ended = long_less (parent_of p t)
      where
        long_less : (o : Option ℕ) → length (one_less counts o) ≡ length p.threads
        long_less None = h.long
        long_less (Some w) = length-set counts w _ ∙ h.long
    long_at status.Absent = h.long
    long_at (status.At n) = h.long
    long_at (status.Paused n) = h.long

    pub counted_after : CountsLiving p (after e c) (counted_at p (after e c) counts t (status_of (after e c) t))
    counted_after = record { long = long_at (status_of (after e c) t); each = λ u j waits. each u j waits (same_or_not u t) }
      where
        each : (u j : ℕ) → status_of (after e c) u ≡ status.Waiting j → (u ≡ t) ⊎ (u ≢ t) →
            slice_index (counted_at p (after e c) counts t (status_of (after e c) t)) u ≡ living (after e c) (joined_at p j)
        each u j waits (inl same) =
            ap (slice_index (counted_at p (after e c) counts t (status_of (after e c) t))) same
            ∙ (ap (λ st. slice_index (counted_at p (after e c) counts t st) t) (ap (status_of (after e c)) (sym same) ∙ waits)
            ∙ index_same counts t (living (after e c) (joined_at p j)) (omega (arith, below, h.long)))
        each u j waits (inr other) =
            let before : status_of c u ≡ status.Waiting j = sym (waited u j other waits) ∙ waits in
            by_parent before (parent_of p t) refl
          where
            waiting_within : status_of c u ≡ status.Waiting j → u < length counts
            waiting_within before =
                omega (arith, known c.statuses u (λ absent. never (sym absent ∙ before)), ok.threads, h.long)
              where
                never : status.Absent ≡ status.Waiting j → ⊥
                never same = cc

            no_more : parent_of p t ≢ Some u → status_of c u ≡ status.Waiting j →
                slice_index (counted_at p (after e c) counts t (status_of (after e c) t)) u ≡ living (after e c) (joined_at p j)
            no_more no_parent before =
                kept_other u other no_parent (status_of (after e c) t) ∙ (h.each u j before ∙ others u j other no_parent before (joined_at p j) refl)

            by_parent : status_of c u ≡ status.Waiting j → (o : Option ℕ) → parent_of p t ≡ o →
                slice_index (counted_at p (after e c) counts t (status_of (after e c) t)) u ≡ living (after e c) (joined_at p j)
            by_parent before None parent = no_more (λ some. none_some u (sym parent ∙ some)) before
              where
                none_some : (w : ℕ) → None ≡ Some w → ⊥
                none_some w never = cc
            by_parent before (Some w) parent = go (same_or_not u w)
              where
                go : (u ≡ w) ⊎ (u ≢ w) → slice_index (counted_at p (after e c) counts t (status_of (after e c) t)) u ≡ living (after e c) (joined_at p j)
                go (inl same) =
                    parent_counted u other (parent ∙ ap Some (sym same)) (waiting_within before) j before
                go (inr differ) = no_more (λ some. differ (same_Some u w (sym some ∙ parent))) before

-- the counts after a step of an enabled thread
pub counts_after : (p : Program) (q : Tables) → IsValid p q → (c d : Control) → IsConfiguration p c → (t : ℕ) → t < length p.threads → step p t c ≡ Some d
    → IsEnabled p c t →
    (counts after_counts : List ℕ) → CountsLiving p c counts → (p' : Program) (st : Status) → p' ≡ p → st ≡ status_of d t
    → after_counts ≡ counted_at p' d counts t st → CountsLiving p d after_counts
counts_after p q valid c d ok t below stepped enabled counts after_counts h p' st p_is st_is is =
    let found : (e : Effect) × (effect p c t ≡ Some e) × (after e c ≡ d) = map_some (λ (e : Effect). after e c) (effect p c t) d stepped in
    subst (CountsLiving p d) (sym (is ∙ (ap (λ x. counted_at x d counts t st) p_is ∙ ap (counted_at p d counts t) st_is)))
    (subst (λ x. CountsLiving p x (counted_at p x counts t (status_of x t))) found.2
    (counted_after p q valid c ok t (enabled_view p c t enabled) found.0 (what_does p c t found.0 found.1) counts h below))

-- one more thread is counted
pub counts_more : (p : Program) (c : Control) (counts : List ℕ) (n : ℕ) → n < length counts → (v : ℕ)
    → ((j : ℕ) → status_of c n ≡ status.Waiting j → v ≡ living c (joined_at p j)) →
    ((t j : ℕ) → t < n → status_of c t ≡ status.Waiting j → slice_index counts t ≡ living c (joined_at p j)) →
    (t j : ℕ) → t < n + 1 → status_of c t ≡ status.Waiting j → slice_index (slice_set counts n v) t ≡ living c (joined_at p j)
counts_more p c counts n below v is each t j less waits = go (same_or_not t n)
  where
    go : (t ≡ n) ⊎ (t ≢ n) → slice_index (slice_set counts n v) t ≡ living c (joined_at p j)
    go (inl same) = ap (slice_index (slice_set counts n v)) same ∙ (index_same counts n v below ∙ is j (ap (status_of c) (sym same) ∙ waits))
    go (inr other) = index_other counts n t v other ∙ each t j (omega arith) waits

-- all threads are counted
pub all_counted : (p : Program) (c : Control) (counts : List ℕ) → IsConfiguration p c → length counts ≡ length p.threads →
    ((t j : ℕ) → t < length p.threads → status_of c t ≡ status.Waiting j → slice_index counts t ≡ living c (joined_at p j)) → CountsLiving p c counts
all_counted p c counts ok long each =
    record { long = long; each = λ t j waits. each t j (omega (arith, known c.statuses t (λ absent. never j (sym absent ∙ waits)), ok.threads)) waits }
  where
    never : (j : ℕ) → status.Absent ≡ status.Waiting j → ⊥
    never j same = cc
