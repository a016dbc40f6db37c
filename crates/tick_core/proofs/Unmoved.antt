-- Whom a step leaves as enabled as they were: all but its thread, the parent where the thread ends, and the children that it forks
-- or leaves.
use Rattle.std.proofs.Common.{◌≡◌, ◌≢◌, ℕ, ◌+◌, ◌<◌, ◌⊎◌, ◌&&◌, Bool, false, List, [], ◌∷◌, length, length-set, All, Option, Some, None, slice_get, slice_set}
use Rattle.std.proofs.Common.{Contains, refl, sym, ap, subst, ◌∙◌, inl, inr, ⊎_elim, arith}
use Rattle.std.specs.List.{list_all}
use Rattle.tick_core.specs.Rows.{Rows}
use Rattle.sc_graph.specs.declared.program.Step.{Step}
use Rattle.sc_graph.specs.declared.program.Step.TheVariants as steps
use Rattle.sc_graph.specs.declared.control.Control.{Control}
use Rattle.sc_graph.specs.declared.control.Status.{Status}
use Rattle.sc_graph.specs.declared.control.Status.TheVariants as status
use Rattle.sc_graph.specs.declared.tables.Tables.{Tables}
use Rattle.sc_graph.specs.Program.{Program, step_at, parent_of}
use Rattle.sc_graph.specs.Control.{status_of, status_enabled, is_enabled, has_ended, joined_at, all_ended}
use Rattle.sc_graph.specs.Steps.{Effect, effect, after, step}
use Rattle.sc_graph.specs.Tables.{priority_of}
use Rattle.sc_graph.specs.Tick.{IsConfiguration}
use Rattle.sc_graph.specs.Valid.{IsValid, IsFormed}
use Rattle.tick_laws.proofs.Lists.{same_or_not, contains_cons, contains_none, contains_head, contains_tail, contained, map_some, get_set_same, get_set_other}
use Rattle.tick_laws.proofs.Formed.{valid_formed, join_of, child_parent, step_fits, JoinOf}
use Rattle.tick_laws.proofs.Views.{Does, simple, forks, joins}
use Rattle.tick_laws.proofs.Views.{does as what_does}
use Rattle.tick_laws.proofs.ConfigurationKept.{configuration_kept}
use Rattle.tick_laws.proofs.Moves.{IsMoved, moved_other, entering_movers, leaving_movers}
use Rattle.tick_laws.proofs.Sound.{whom, IsIdleChild, fork_of_join}
use Rattle.tick_core.specs.Claims.{Claim}
use Rattle.tick_core.specs.Space.Sorting.{row_at, step_priority, unless_claimed, ready_row, OwnRows, AreSorted, sorted_one, sorted_parent, sorted_all}
use Rattle.tick_core.specs.Space.Sorting.{ended_parent, children_at, or_none, children_at_step}

same_tests : (f g : ℕ → Bool) (ks : List ℕ) → ((k : ℕ) → Contains ks k → f k ≡ g k) → list_all f ks ≡ list_all g ks
same_tests f g [] each = refl
same_tests f g (k ∷ ks) each =
    ap (λ b. b && list_all f ks) (each k (contains_head k ks)) ∙ ap (λ b. g k && b) (same_tests f g ks (λ i within. each i (contains_tail k i ks within)))

module _ (p : Program) (q : Tables) (valid : IsValid p q) (c : Control) (ok : IsConfiguration p c) (t : ℕ) (e : Effect) (does : Does p c t e) where
  -- the children who are moved are those of the step
  moved_child : (k : ℕ) → IsMoved e.moves k → (k ≡ t) ⊎ Contains (children_at p (status_of c t)) k
  moved_child k moves = by does
    where
      by : Does p c t e → (k ≡ t) ⊎ Contains (children_at p (status_of c t)) k
      by (simple d) =
          ⊎_elim (λ same. inl (sym same)) (λ none. absurd (contains_none k none))
          (contains_cons t k [] (subst (λ (x : Effect). IsMoved x.moves k) d.is moves))
      by (forks d) =
          ⊎_elim (λ same. inl (sym same))
          (λ tail. inr (subst (λ ks. Contains ks k) (sym (ap (children_at p) d.at ∙ ap children_at_step d.found)) (entering_movers p d.children k tail)))
          (contains_cons t k _ (subst (λ (x : Effect). IsMoved x.moves k) d.is moves))
      by (joins d) =
          ⊎_elim (λ same. inl (sym same))
          (λ tail. inr (subst (λ ks. Contains ks k) (sym (ap (children_at p) d.at ∙ ap or_none d.joined)) (leaving_movers d.children k tail)))
          (contains_cons t k _ (subst (λ (x : Effect). IsMoved x.moves k) d.is moves))

  -- who isn't moved stands as before
  stands_still : (k : ℕ) → ¬ IsMoved e.moves k → status_of (after e c) k ≡ status_of c k
  stands_still k still = moved_other e.moves c.statuses k still

  -- who steps has not ended
  lives_before : Does p c t e → has_ended (status_of c t) ≡ false
  lives_before (simple d) = ap has_ended d.at
  lives_before (forks d) = ap has_ended d.at
  lives_before (joins d) = ap has_ended d.at

  lives_on : (u : ℕ) (s : Status) → ended_parent p t s ≢ Some u → parent_of p t ≡ Some u → has_ended s ≡ false
  lives_on u status.Ended no_parent child = absurd (no_parent child)
  lives_on u status.Absent no_parent child = refl
  lives_on u (status.At n) no_parent child = refl
  lives_on u (status.Waiting j) no_parent child = refl
  lives_on u (status.Paused n) no_parent child = refl

  -- of the children of a thread that is neither the step's, nor its parent where it ends, the same have ended as before
  child_alike : (u k : ℕ) → u ≢ t → ended_parent p t (status_of (after e c) t) ≢ Some u → parent_of p k ≡ Some u
      → has_ended (status_of (after e c) k) ≡ has_ended (status_of c k)
  child_alike u k other no_parent child = go (same_or_not k t)
    where
      one : (a b : ℕ) → Some a ≡ Some b → a ≡ b
      one a b same = cc

      go : (k ≡ t) ⊎ (k ≢ t) → has_ended (status_of (after e c) k) ≡ has_ended (status_of c k)
      go (inl same) =
          ap (λ i. has_ended (status_of (after e c) i)) same
          ∙ (lives_on u (status_of (after e c) t) no_parent (ap (parent_of p) (sym same) ∙ child)
          ∙ (sym (lives_before does) ∙ ap (λ i. has_ended (status_of c i)) (sym same)))
      go (inr another) =
          ap has_ended (stands_still k (λ moves. ⊎_elim another
          (λ (idle : IsIdleChild p c t k). other (one u t (sym child ∙ idle.parent)))
          (whom p (valid_formed p q valid) c ok t e does k moves)))

  ended_alike : (u j : ℕ) → u ≢ t → ended_parent p t (status_of (after e c) t) ≢ Some u → status_of c u ≡ status.Waiting j → (o : Option (List ℕ))
      → joined_at p j ≡ o → all_ended (after e c) o ≡ all_ended c o
  ended_alike u j other no_parent waits None joined = refl
  ended_alike u j other no_parent waits (Some children) joined =
      let of : JoinOf p j children = join_of p j children joined in
      same_tests (λ k. has_ended (status_of (after e c) k)) (λ k. has_ended (status_of c k)) children
      (λ k within. child_alike u k other no_parent
      (child_parent p (valid_formed p q valid) of.fork u children j k (fork_of_join p (valid_formed p q valid) c ok u j children waits of) within))

  enabled_alike : (u : ℕ) → u ≢ t → ended_parent p t (status_of (after e c) t) ≢ Some u → (s : Status) → status_of c u ≡ s
      → status_enabled p (after e c) s ≡ status_enabled p c s
  enabled_alike u other no_parent (status.At n) is = refl
  enabled_alike u other no_parent (status.Waiting j) is = ended_alike u j other no_parent is (joined_at p j) refl
  enabled_alike u other no_parent status.Absent is = refl
  enabled_alike u other no_parent (status.Paused d) is = refl
  enabled_alike u other no_parent status.Ended is = refl

  -- all others can step at the same priority as before
  alike : (u : ℕ) → u ≢ t → ended_parent p t (status_of (after e c) t) ≢ Some u → ¬ Contains (children_at p (status_of c t)) u
      → step_priority p q (after e c) u ≡ step_priority p q c u
  alike u other no_parent no_child =
      let still : status_of (after e c) u ≡ status_of c u = stands_still u (λ moves. ⊎_elim other no_child (moved_child u moves)) in
      let enabled : is_enabled p (after e c) u ≡ is_enabled p c u =
      ap (status_enabled p (after e c)) still ∙ enabled_alike u other no_parent (status_of c u) refl in
      ap (λ b. row_at b (priority_of q (status_of (after e c) u))) enabled ∙ ap (λ s. row_at (is_enabled p c u) (priority_of q s)) still

-- who was sorted anew, and who was left
module _ (row : ℕ → Option ℕ) where
  pub one_at : (rows : Rows) (t u : ℕ) → t < length rows.classes → (u ≡ t) → slice_get (sorted_one row rows t).classes u ≡ Some (row u)
  one_at rows t u below same =
      ap (slice_get (slice_set rows.classes t (row t))) same ∙ (get_set_same rows.classes t (row t) below ∙ ap (λ v. Some (row v)) (sym same))

  pub one_other : (rows : Rows) (t u : ℕ) → u ≢ t → slice_get (sorted_one row rows t).classes u ≡ slice_get rows.classes u
  one_other rows t u other = get_set_other rows.classes t u (row t) other

  -- a place that is right stays right
  one_right : (rows : Rows) (t u : ℕ) → u < length rows.classes → slice_get rows.classes u ≡ Some (row u) → slice_get (sorted_one row rows t).classes u
      ≡ Some (row u)
  one_right rows t u below right = go (same_or_not u t)
    where
      go : (u ≡ t) ⊎ (u ≢ t) → slice_get (sorted_one row rows t).classes u ≡ Some (row u)
      go (inl same) = one_at rows t u (omega (arith, below)) same
      go (inr other) = one_other rows t u other ∙ right

  all_right : (ks : List ℕ) (rows : Rows) (u : ℕ) → u < length rows.classes → slice_get rows.classes u ≡ Some (row u)
      → slice_get (sorted_all row ks rows).classes u ≡ Some (row u)
  all_right [] rows u below right = right
  all_right (k ∷ ks) rows u below right =
      all_right ks (sorted_one row rows k) u (omega (arith, below, length-set rows.classes k (row k))) (one_right rows k u below right)

  -- each of a list that was sorted stands right
  all_in : (ks : List ℕ) (rows : Rows) (u : ℕ) → u < length rows.classes → Contains ks u → slice_get (sorted_all row ks rows).classes u ≡ Some (row u)
  all_in [] rows u below within = absurd (contains_none u within)
  all_in (k ∷ ks) rows u below within =
      ⊎_elim
      (λ same. all_right ks (sorted_one row rows k) u (omega (arith, below, length-set rows.classes k (row k)))
      (one_at rows k u (omega (arith, below, same)) (sym same)))
      (λ tail. all_in ks (sorted_one row rows k) u (omega (arith, below, length-set rows.classes k (row k))) tail)
      (contains_cons k u ks within)

  all_out : (ks : List ℕ) (rows : Rows) (u : ℕ) → ¬ Contains ks u → slice_get (sorted_all row ks rows).classes u ≡ slice_get rows.classes u
  all_out [] rows u out = refl
  all_out (k ∷ ks) rows u out =
      all_out ks (sorted_one row rows k) u (λ tail. out (contains_tail k u ks tail))
      ∙ one_other rows k u (λ same. out (subst (λ i. Contains (k ∷ ks) i) (sym same) (contains_head k ks)))

pub ended_is_parent : (p : Program) (t : ℕ) (s : Status) (w : ℕ) → ended_parent p t s ≡ Some w → parent_of p t ≡ Some w
ended_is_parent p t status.Ended w is = is
ended_is_parent p t status.Absent w is = absurd cc
ended_is_parent p t (status.At n) w is = absurd cc
ended_is_parent p t (status.Waiting j) w is = absurd cc
ended_is_parent p t (status.Paused n) w is = absurd cc

-- after a step, who was sorted anew and who was left stand in the rows of their priorities
pub sorted_after : (p : Program) (q : Tables) → IsValid p q → (c d : Control) → IsConfiguration p c → (t : ℕ) → t < length p.threads → step p t c ≡ Some d
    → (claims : List (Option Claim)) (rows after_rows : Rows) → AreSorted p q c claims rows →
    after_rows ≡ sorted_all (ready_row p q d (slice_set claims t None)) (children_at p (status_of c t))
    (sorted_parent (ready_row p q d (slice_set claims t None)) (sorted_one (ready_row p q d (slice_set claims t None)) rows t)
    (ended_parent p t (status_of d t)))
    → OwnRows p q after_rows → AreSorted p q d (slice_set claims t None) after_rows
sorted_after p q valid c d ok t t_below stepped claims rows after_rows h is own =
    let found : (e : Effect) × (effect p c t ≡ Some e) × (after e c ≡ d) = map_some (λ (e : Effect). after e c) (effect p c t) d stepped in
    record {
      own_rows = own;
      each = λ u below. ap (λ (r : Rows). slice_get r.classes u) is ∙ each found.0 (what_does p c t found.0 found.1) found.2 u below
          (contained (children_at p (status_of c t)) u);
    }
  where
    row : ℕ → Option ℕ
    row = ready_row p q d (slice_set claims t None)

    parent_long : (o : Option ℕ) → length (sorted_parent row (sorted_one row rows t) o).classes ≡ length p.threads
    parent_long None = length-set rows.classes t (row t) ∙ h.own_rows.long
    parent_long (Some w) = length-set (sorted_one row rows t).classes w (row w) ∙ (length-set rows.classes t (row t) ∙ h.own_rows.long)

    own_at : (e : Effect) → Does p c t e → after e c ≡ d → (u : ℕ) → u < length p.threads → ended_parent p t (status_of d t) ≢ Some u
        → ¬ Contains (children_at p (status_of c t)) u → (u ≡ t) ⊎ (u ≢ t) →
        slice_get (sorted_one row rows t).classes u ≡ Some (row u)
    own_at e does same u below no_parent no_child (inl here) = one_at row rows t u (omega (arith, h.own_rows.long)) here
    own_at e does same u below no_parent no_child (inr other) =
        one_other row rows t u other ∙ (h.each u below ∙ ap Some (ap (λ o. unless_claimed o (step_priority p q c u)) (sym (get_set_other claims t u None other))
        ∙ ap (unless_claimed (slice_get (slice_set claims t None) u)) (sym (alike p q valid c ok t e does u other
        (λ some. no_parent (sym (ap (λ x. ended_parent p t (status_of x t)) same) ∙ some)) no_child)
        ∙ ap (λ x. step_priority p q x u) same)))

    at_parent : (e : Effect) → Does p c t e → after e c ≡ d → (u : ℕ) → u < length p.threads → ¬ Contains (children_at p (status_of c t)) u → (o : Option ℕ)
        → ended_parent p t (status_of d t) ≡ o →
        slice_get (sorted_parent row (sorted_one row rows t) o).classes u ≡ Some (row u)
    at_parent e does same u below no_child None parent = own_at e does same u below (λ some. none_some u (sym parent ∙ some)) no_child (same_or_not u t)
      where
        none_some : (w : ℕ) → None ≡ Some w → ⊥
        none_some w never = cc
    at_parent e does same u below no_child (Some w) parent = go (same_or_not u w)
      where
        go : (u ≡ w) ⊎ (u ≢ w) → slice_get (sorted_one row (sorted_one row rows t) w).classes u ≡ Some (row u)
        go (inl here) = one_at row (sorted_one row rows t) w u (omega (arith, here, length-set rows.classes t (row t), h.own_rows.long)) here
        go (inr other) =
            one_other row (sorted_one row rows t) w u other
            ∙ own_at e does same u below (λ some. other (same_number u w (sym some ∙ parent))) no_child (same_or_not u t)
          where
            same_number : (a b : ℕ) → Some a ≡ Some b → a ≡ b
            same_number a b e = cc

    each : (e : Effect) → Does p c t e → after e c ≡ d → (u : ℕ) → u < length p.threads → Contains (children_at p (status_of c t)) u
        ⊎ ¬ Contains (children_at p (status_of c t)) u →
        slice_get (sorted_all row (children_at p (status_of c t))
        (sorted_parent row (sorted_one row rows t) (ended_parent p t (status_of d t)))).classes u ≡ Some (row u)
    each e does same u below (inl child) =
        all_in row (children_at p (status_of c t)) (sorted_parent row (sorted_one row rows t) (ended_parent p t (status_of d t))) u
        (omega (arith, parent_long (ended_parent p t (status_of d t))))
        child
    each e does same u below (inr no_child) =
        all_out row (children_at p (status_of c t)) (sorted_parent row (sorted_one row rows t) (ended_parent p t (status_of d t))) u no_child
        ∙ at_parent e does same u below no_child (ended_parent p t (status_of d t)) refl

-- behind a step all others can step at the same priority as before
pub alike_behind : (p : Program) (q : Tables) → IsValid p q → (c d : Control) → IsConfiguration p c → (t : ℕ) → step p t c ≡ Some d → (u : ℕ) → u ≢ t
    → ended_parent p t (status_of d t) ≢ Some u → ¬ Contains (children_at p (status_of c t)) u → step_priority p q d u ≡ step_priority p q c u
alike_behind p q valid c d ok t stepped u other no_parent no_child =
    let found : (e : Effect) × (effect p c t ≡ Some e) × (after e c ≡ d) = map_some (λ (e : Effect). after e c) (effect p c t) d stepped in
    ap (λ x. step_priority p q x u) (sym found.2)
    ∙ alike p q valid c ok t found.0 (what_does p c t found.0 found.1) u other
    (λ some. no_parent (sym (ap (λ x. ended_parent p t (status_of x t)) found.2) ∙ some)) no_child

-- who neither steps nor is a child of the step stands behind it as before
pub same_behind : (p : Program) (q : Tables) → IsValid p q → (c d : Control) → IsConfiguration p c → (t : ℕ) → step p t c ≡ Some d → (u : ℕ) → u ≢ t
    → ¬ Contains (children_at p (status_of c t)) u → status_of d u ≡ status_of c u
same_behind p q valid c d ok t stepped u other no_child =
    let found : (e : Effect) × (effect p c t ≡ Some e) × (after e c ≡ d) = map_some (λ (e : Effect). after e c) (effect p c t) d stepped in
    let does : Does p c t found.0 = what_does p c t found.0 found.1 in
    ap (λ x. status_of x u) (sym found.2)
    ∙ stands_still p q valid c ok t found.0 does u (λ moves. ⊎_elim other no_child (moved_child p q valid c ok t found.0 does u moves))

-- the children of a step are threads
pub children_in : (p : Program) → IsFormed p → (s : Status) → All (λ k. k < length p.threads) (children_at p s)
children_in p formed (status.At n) = at_step (step_at p n) refl
  where
    at_step : (o : Option Step) → step_at p n ≡ o → All (λ k. k < length p.threads) (children_at_step o)
    at_step None is = λ k d lt. absurd (omega arith)
    at_step (Some (steps.Fork children join)) is = (step_fits p formed n (steps.Fork children join) is).0.threads
    at_step (Some (steps.Assign x code next)) is = λ k d lt. absurd (omega arith)
    at_step (Some (steps.Update x f code next)) is = λ k d lt. absurd (omega arith)
    at_step (Some (steps.Cond code on_true on_false)) is = λ k d lt. absurd (omega arith)
    at_step (Some (steps.Join next)) is = λ k d lt. absurd (omega arith)
    at_step (Some (steps.Surf depth)) is = λ k d lt. absurd (omega arith)
    at_step (Some (steps.Depth next)) is = λ k d lt. absurd (omega arith)
    at_step (Some steps.Exit) is = λ k d lt. absurd (omega arith)
children_in p formed (status.Waiting j) = at_join (joined_at p j) refl
  where
    at_join : (o : Option (List ℕ)) → joined_at p j ≡ o → All (λ k. k < length p.threads) (or_none o)
    at_join None is = λ k d lt. absurd (omega arith)
    at_join (Some children) is = let of : JoinOf p j children = join_of p j children is in
        (step_fits p formed of.fork (steps.Fork children j) of.is.forks).0.threads
children_in p formed status.Absent = λ k d lt. absurd (omega arith)
children_in p formed (status.Paused n) = λ k d lt. absurd (omega arith)
children_in p formed status.Ended = λ k d lt. absurd (omega arith)

pub children_in_at : (p p' : Program) (q : Tables) → IsValid p q → p' ≡ p → (st : Status) (children : List ℕ) → children ≡ children_at p' st
    → All (λ k. k < length p'.threads) children
children_in_at p p' q valid p_is st children are =
    subst (All (λ k. k < length p'.threads)) (sym are)
    (subst (λ x. All (λ k. k < length x.threads) (children_at x st)) (sym p_is) (children_in p (valid_formed p q valid) st))

-- the same, of a program, tables and status that are given twice
pub sorted_after_at : (p : Program) (q : Tables) → IsValid p q → (c d : Control) → IsConfiguration p c → (t : ℕ) → t < length p.threads → step p t c ≡ Some d
    → (claims : List (Option Claim)) (rows after_rows : Rows) → AreSorted p q c claims rows →
    (p' : Program) (q' : Tables) (st : Status) (children : List ℕ) → p' ≡ p → q' ≡ q → st ≡ status_of c t → children ≡ children_at p' st
    → (after_claims : List (Option Claim)) → after_claims ≡ slice_set claims t None →
    after_rows ≡ sorted_all (ready_row p' q' d after_claims) children
    (sorted_parent (ready_row p' q' d after_claims) (sorted_one (ready_row p' q' d after_claims) rows t) (ended_parent p' t (status_of d t)))
    → OwnRows p' q' after_rows
    → AreSorted p q d after_claims after_rows
sorted_after_at p q valid c d ok t below stepped claims rows after_rows h p' q' st children p_is q_is st_is children_are after_claims claims_are is own =
    let F : Program → Tables → List ℕ → List (Option Claim)
    → Rows = λ x y ks o. sorted_all (ready_row x y d o) ks (sorted_parent (ready_row x y d o) (sorted_one (ready_row x y d o) rows t)
    (ended_parent x t (status_of d t))) in
    let own_children : children ≡ children_at p (status_of c t) = children_are ∙ (ap (λ x. children_at x st) p_is ∙ ap (children_at p) st_is) in
    subst (λ o. AreSorted p q d o after_rows) (sym claims_are)
    (sorted_after p q valid c d ok t below stepped claims rows after_rows h
    (is ∙ (ap (λ x. F x q' children after_claims) p_is
    ∙ (ap (λ y. F p y children after_claims) q_is
    ∙ (ap (λ ks. F p q ks after_claims) own_children ∙ ap (F p q (children_at p (status_of c t))) claims_are))))
    (subst (λ y. OwnRows p y after_rows) q_is (subst (λ x. OwnRows x q' after_rows) p_is own)))

-- a step keeps what a configuration is
pub stays_configuration : (p : Program) (q : Tables) → IsValid p q → (c d : Control) → IsConfiguration p c → (t : ℕ) → step p t c ≡ Some d → IsConfiguration p d
stays_configuration p q valid c d ok t stepped =
    let found : (e : Effect) × (effect p c t ≡ Some e) × (after e c ≡ d) = map_some (λ (e : Effect). after e c) (effect p c t) d stepped in
    subst (IsConfiguration p) found.2 (configuration_kept p (valid_formed p q valid) c t found.0 ok found.1)

-- one more thread is sorted
pub sorted_more : (p : Program) (q : Tables) (row : ℕ → Option ℕ) (n : ℕ) (rows after_rows : Rows) → OwnRows p q rows → n < length p.threads
    → ((t : ℕ) → t < n → slice_get rows.classes t ≡ Some (row t)) →
    after_rows ≡ sorted_one row rows n → (t : ℕ) → t < n + 1 → slice_get after_rows.classes t ≡ Some (row t)
sorted_more p q row n rows after_rows own below each is t t_below = ap (λ (r : Rows). slice_get r.classes t) is ∙ go (same_or_not t n)
  where
    go : (t ≡ n) ⊎ (t ≢ n) → slice_get (sorted_one row rows n).classes t ≡ Some (row t)
    go (inl same) = one_at row rows n t (omega (arith, own.long)) same
    go (inr other) = one_other row rows n t other ∙ each t (omega arith)
