-- What is inside of the outermost superstate that guards can leave: each thread there sees the raised flag first, and each monitor does so
-- behind the strong flags further out, which are down.
use Rattle.std.proofs.Common.{◌≡◌, ◌≢◌, ℕ, ◌⊎◌, inl, inr, ⊎_elim, Bool, true, false, not, ◌||◌, Option, Some, None, List, [], ◌∷◌, ◌++◌, map, slice_get}
use Rattle.std.proofs.Common.{Contains, refl, sym, ap, subst, ◌∙◌, arith}
use Rattle.std.specs.Prelude.{reverse, flat_map}
use Rattle.std.proofs.lemmas.List.{append_assoc, append-nil}
use Rattle.std.proofs.lemmas.List.Elements.{Contains-append_left}
use Rattle.std.proofs.lemmas.List.Folds.{flat_map-map}
use Rattle.core_charts.specs.declared.region.Transition.{Transition}
use Rattle.core_charts.specs.Tests.{at_once, strong_aborts, weak_aborts, terminations}
use Rattle.core_charts.specs.Aborts.{has_aborts}
use Rattle.chart_machine.specs.declared.standing.Standing.{Standing}
use Rattle.chart_machine.specs.declared.standing.Standing.TheVariants as at
use Rattle.chart_machine.specs.declared.standing.Configuration.{Configuration}
use Rattle.chart_machine.specs.declared.table.Table.{Table}
use Rattle.chart_machine.specs.Table.{state_at}
use Rattle.chart_machine.specs.Turns.{standing_of, guards, is_guarded}
use Rattle.chart_machine.specs.Steps.{to, state_in, verdict, access_of_trigger}
use Rattle.abort_expansion.specs.declared.flags.Flags.{Flags}
use Rattle.abort_expansion.specs.Flags.{aborts_around}
use Rattle.abort_expansion.specs.Transitions.{is_raised, go, check, led, strong_checks, answers}
use Rattle.abort_expansion.specs.Superstates.{stays, closing}
use Rattle.abort_expansion_laws.specs.Stages.{Correspondence, IsSilent}
use Rattle.abort_expansion_laws.proofs.Supplying.{silent_test}
use Rattle.chart_machine_laws.proofs.LyingIn.{IsNested, around, holder, none_in, head_or_tail, head_in, tail_in}
use Rattle.abort_expansion_laws.proofs.TablesCorrespond.{IsThere}
use Rattle.abort_expansion_laws.proofs.StageReached.{holds_other}
use Rattle.abort_expansion_laws.proofs.MoreValues.{lowered_verdict}
use Rattle.abort_expansion_laws.proofs.FlagAccess.{raised_access}
use Rattle.abort_expansion_laws.specs.CoreRows.{own, IsState, IsSimple, IsSuper, joins, Images, CoreRows, flags_around, pair}
use Rattle.abort_expansion_laws.specs.CoreRows.{WatcherImage}
use Rattle.abort_expansion_laws.specs.Related.{IsCalm, ahead, front, held_back, tests_of, is_behind, Stands}
use Rattle.abort_expansion_laws.specs.Related.{outside, ended, left, trying, acting, entering, guarding, staying, within, behind}
use Rattle.abort_expansion_laws.specs.Related.{Related, IsInside, guarded, open_inside, Stores}
use Rattle.abort_expansion_laws.specs.Related.{LooksFirst, looks_never, looks_first}
use Rattle.abort_expansion_laws.proofs.KnownVariables.{present_there}
use Rattle.abort_expansion_laws.proofs.StartingRegions.{CounterRows}
use Rattle.abort_expansion_laws.proofs.OpensFork.{OpeningRows}
use Rattle.abort_expansion_laws.proofs.Fronts.{reversed, guards_not, guards_here}
use Rattle.abort_expansion_laws.proofs.AbortsHere.{aborts_here}
use Rattle.abort_expansion_laws.proofs.YetToLook.{in_reversed, checks_are}
use Rattle.abort_expansion_laws.proofs.QuietBegins.{state_with_aborts}
use Rattle.abort_expansion_laws.proofs.SplitTests.{continuation_tests}
use Rattle.abort_expansion_laws.proofs.MayLeave.{LeavesBy, leads_out, fails_before, MayLeave, out, over, tries}
use Rattle.abort_expansion_laws.proofs.CalmStandings.{calm_acting, calm_entering}
use Rattle.abort_expansion_laws.proofs.InsideLeaves.{AloneRows, fork_leaves, all_may_leave}
use Rattle.abort_expansion_laws.proofs.Unchanged.{none_among}
use Rattle.abort_expansion_laws.proofs.ThreadsAround.{thread_within}

module _ (k core : Table) (i : Images) (rows : CoreRows k core i) (more : AloneRows k core i) (tree : IsNested k)
    (core_children : (s r : ℕ) → Contains (state_at core s).regions r → around core r ≡ s ∷ around core (holder core s))
    (children : (s r : ℕ) → Contains (state_at k s).regions r → around k r ≡ s ∷ around k (holder k s))
    (counts : ℕ → Bool) (written_at : ℕ → ℕ) (counters : CounterRows k core i rows counts written_at) (opening : OpeningRows k core i rows)
    (strong_at : (s x : ℕ) → (i.flags_of s).strong ≡ Some x → written_at x ≡ 0) (super_there : (q s : ℕ) → Contains (around k q) s → IsState k s)
    (super_of : (s : ℕ) → IsState k s → has_aborts (own k s) ≡ true → IsSuper k s)
    (o x : ℕ) (has : has_aborts (own k o) ≡ true) (flag : (i.flags_of o).strong ≡ Some x) (o_there : IsState k o)
    (c d : Configuration) (related : Related k core i c d) (guarding_now : guards (standing_of c (holder k o)) ≡ true)
    (free : is_guarded k c (around k (holder k o)) ≡ false) (calm : (q : ℕ) → Contains (around k q) o → IsCalm (standing_of c q))
    (first : Configuration) (raised : verdict first.variables (Some (is_raised x)) ≡ Some true)
    (values : (y : ℕ) → y ≢ x → slice_get first.variables y ≡ slice_get d.variables y)
    (same : (g : ℕ) → g ≢ i.watcher_of o → standing_of first g ≡ standing_of d g)
    (silent : (t : ℕ) → Contains (around core t) (i.main_of o) →
    IsSilent (pair k core i rows tree counts written_at) t (Some (i.thread_of (holder k o), 1)) (access_of_trigger (Some (is_raised x)))) where
  abbrev corr : Correspondence
  corr = pair k core i rows tree counts written_at

  abbrev home : ℕ
  home = i.thread_of (holder k o)

  abbrev pub Leaves : ℕ → Standing → Type 0
  Leaves t z = MayLeave core corr home 1 (i.main_of o) first t z

  abbrev LeavesTests : ℕ → List Transition → Type 0
  LeavesTests t tests = LeavesBy core corr home 1 (i.main_of o) first t tests

  in_fork : (q s : ℕ) → Contains (around k q) s → Contains (around core (i.thread_of q)) (i.main_of s)
  in_fork q s in_s = thread_within k core i rows q s in_s

  holder_present : standing_of c (holder k o) ≢ at.Outside
  holder_present gone = let wrong : true ≡ false = sym guarding_now ∙ ap guards gone in absurd cc

  holder_there : IsThere k (holder k o)
  holder_there = present_there k core i c d related (holder k o) holder_present

  -- ---- a thread that lies where region q does; its checks lead to its end

  module _ (t place q : ℕ) (b : Bool) (q_in : Contains (around k q) o)
      (lies : (s : ℕ) → Contains (around k q) s → Contains (around core t) (i.main_of s))
      (ends : (state_at core (state_in core t place)).entered ≡ to t at.Ended ∷ []) where
    abbrev looks_at : ℕ → Transition
    looks_at y = go b (Some (is_raised y)) [] place

    -- a flag further out is down, and its stage is 1: there is work inside of its superstate, since o has its turn
    outer_fails : (s y : ℕ) → Contains (around k (holder k o)) s → Contains (around k q) s → (i.flags_of s).strong ≡ Some y → (rest : List Transition) →
        LeavesTests t rest → LeavesTests t (looks_at y ∷ rest)
    outer_fails s y outer in_s strong rest then_leaves =
        fails_before (looks_at y) rest low (Some (i.thread_of (holder k s), 1))
        (inr (inr (inr (record {
          superstate = i.main_of s;
          around_home = in_fork (holder k o) s outer;
          is = ap (λ (h : ℕ). Some (h, 1)) (sym (rows.held s));
        }))))
        (subst (IsSilent corr t (Some (i.thread_of (holder k s), 1))) (sym (raised_access y))
        (silent_test corr t (Some (i.thread_of (holder k s), 1)) y (rows.strong_added s y strong)
        (inr (
          inr (counters.strong_not s y strong, subst (λ v. Contains (around core t) (i.main_of v)) (sym owner) (lies s in_s)),
          (
            1,
            ap (λ (h : ℕ). Some (h, 1)) (sym (ap (λ v. holder core (i.main_of v)) owner ∙ rows.held s)),
            (let zero_is = strong_at s y strong in omega (zero_is, arith)),
          ),
        )))) then_leaves
      where
        owner : rows.of_flag y ≡ s
        owner = (opening.flag_of s y (inl strong)).0

        differs : y ≢ x
        differs e =
            let is : s ≡ o = sym owner ∙ (ap rows.of_flag e ∙ (opening.flag_of o x (inl flag)).0) in
            holds_other k tree (holder k o) o (subst (Contains (around k (holder k o))) is outer) refl

        low : verdict first.variables (Some (is_raised y)) ≡ Some false
        low =
            lowered_verdict y first.variables
            (values y differs
            ∙ subst (λ f. Stores k core i d.variables f 0) strong
            (related.flags s (super_there (holder k o) s outer) (related.enclosed (holder k o) s holder_there holder_present outer)).strong)

    own_leads : (rest : List Transition) → LeavesTests t (looks_at x ∷ rest)
    own_leads rest =
        leads_out (looks_at x) rest raised refl ends (Some (home, 1)) (inr (inl refl)) (silent t (lies o q_in))

    -- what each superstate around has in front: its own leads out, and those further out fail or are none
    module _ (f : ℕ → List Transition) (own_one : f o ≡ looks_at x ∷ [])
        (outer_one : (s : ℕ) → Contains (around k (holder k o)) s → (f s ≡ []) ⊎ (f s ≡ check b place (i.flags_of s).strong)) where
      by_flag : (s : ℕ) → Contains (around k (holder k o)) s → Contains (around k q) s → (z : Option ℕ) → (i.flags_of s).strong ≡ z →
          (rest : List Transition) → LeavesTests t rest → LeavesTests t ((check b place z ++ []) ++ rest)
      by_flag s outer in_s None e rest then_leaves = then_leaves
      by_flag s outer in_s (Some y) e rest then_leaves = outer_fails s y outer in_s e rest then_leaves

      one_outer : (s : ℕ) → Contains (around k (holder k o)) s → Contains (around k q) s → (rest : List Transition) → LeavesTests t rest →
          LeavesTests t ((f s ++ []) ++ rest)
      one_outer s outer in_s rest then_leaves =
          ⊎_elim (λ none. subst (λ zs. LeavesTests t ((zs ++ []) ++ rest)) (sym none) then_leaves)
          (λ checks. subst (λ zs. LeavesTests t ((zs ++ []) ++ rest)) (sym checks) (by_flag s outer in_s (i.flags_of s).strong refl rest then_leaves))
          (outer_one s outer)

      taken_apart : (s : ℕ) (zs : List ℕ) (rest : List Transition) → LeavesTests t (flat_map f (reverse zs) ++ ((f s ++ []) ++ rest)) →
          LeavesTests t (flat_map f (reverse (s ∷ zs)) ++ rest)
      taken_apart s zs rest leaves =
          subst (LeavesTests t) (sym (ap (λ ys. ys ++ rest) (reversed f s zs) ∙ append_assoc (flat_map f (reverse zs)) (f s ++ []) rest)) leaves

      all_outer : (zs : List ℕ) → ((s : ℕ) → Contains zs s → Contains (around k (holder k o)) s × Contains (around k q) s) → (rest : List Transition) →
          LeavesTests t rest → LeavesTests t (flat_map f (reverse zs) ++ rest)
      all_outer [] among rest then_leaves = then_leaves
      all_outer (s ∷ zs) among rest then_leaves =
          let here = among s (head_in s zs) in
          taken_apart s zs rest
          (all_outer zs (λ u h. among u (tail_in s u zs h)) ((f s ++ []) ++ rest) (one_outer s here.0 here.1 rest then_leaves))

      up_to_own : (zs more : List ℕ) (p : ℕ) → around k p ≡ zs ++ more → Contains zs o → ((s : ℕ) → Contains zs s → Contains (around k q) s) →
          (rest : List Transition) → LeavesTests t (flat_map f (reverse zs) ++ rest)
      up_to_own [] more p e h among rest = absurd (none_in o h)
      up_to_own (s ∷ zs) more p e h among rest =
          ⊎_elim
          (λ is.
          taken_apart s zs rest
          (all_outer zs
          (λ u inner. (
            subst (λ v. Contains (around k (holder k v)) u) is
                (subst (λ ys. Contains ys u) (tree.upward p s (zs ++ more) e) (Contains-append_left zs more u inner)),
            among u (tail_in s u zs inner),
          )) ((f s ++ []) ++ rest)
          (subst (λ ys. LeavesTests t ((ys ++ []) ++ rest)) (sym (ap f is ∙ own_one)) (own_leads rest))))
          (λ tail.
          taken_apart s zs rest
          (up_to_own zs more (holder k s) (sym (tree.upward p s (zs ++ more) e)) tail (λ u inner. among u (tail_in s u zs inner)) ((f s ++ []) ++ rest)))
          (head_or_tail s o zs h)

      -- those of the innermost ones, o among them
      some_leave : (zs more : List ℕ) → around k q ≡ zs ++ more → Contains zs o → (rest : List Transition) → LeavesTests t (flat_map f (reverse zs) ++ rest)
      some_leave zs more e h rest =
          up_to_own zs more q e h (λ s inner. subst (λ ys. Contains ys s) (sym e) (Contains-append_left zs more s inner)) rest

      whole_leaves : (rest : List Transition) → LeavesTests t (flat_map f (reverse (around k q)) ++ rest)
      whole_leaves rest = some_leave (around k q) [] (sym (append-nil (around k q))) q_in rest

    -- those that are left
    looks_leave : (yet seen : List ℕ) → around k q ≡ reverse yet ++ seen → Contains yet o → (rest : List Transition) →
        LeavesTests t (strong_checks b place (map i.flags_of yet) ++ rest)
    looks_leave yet seen parted inner rest =
        subst (λ zs. LeavesTests t (zs ++ rest)) (sym (checks_are i b place yet))
        (some_leave (λ s. check b place (i.flags_of s).strong) (ap (check b place) flag) (λ s outer. inr refl) (reverse yet) seen parted
        (in_reversed yet o inner) rest)

    -- all strong checks
    checks_leave : (rest : List Transition) → LeavesTests t (strong_checks b place (flags_around k core i q) ++ rest)
    checks_leave rest =
        subst (λ zs. LeavesTests t (zs ++ rest))
        (sym (flat_map-map (λ (f : Flags). check b place f.strong) i.flags_of (reverse (around k q))))
        (whole_leaves (λ s. check b place (i.flags_of s).strong) (ap (check b place) flag) (λ s outer. inr refl) rest)

  -- the thread of a region inside
  left_ends : (q : ℕ) → IsThere k q → Contains (around k q) o →
      (state_at core (state_in core (i.thread_of q) (i.places_of q).left)).entered ≡ to (i.thread_of q) at.Ended ∷ []
  left_ends q there in_o = (rows.region q there).left (aborts_here k core i o x flag q in_o)

  fronts_leave : (q : ℕ) (b : Bool) → IsThere k q → Contains (around k q) o → (rest : List Transition) →
      LeavesTests (i.thread_of q) (front k core i b c q ++ rest)
  fronts_leave q b there in_o rest =
      whole_leaves (i.thread_of q) (i.places_of q).left q b in_o (in_fork q) (left_ends q there in_o)
      (λ s. ahead k core i b (i.places_of q).left c s)
      (guards_here k core i b (i.places_of q).left c o guarding_now ∙ ap (check b (i.places_of q).left) flag)
      (λ s outer.
      inl (guards_not k core i b (i.places_of q).left c s (none_among (λ v. guards (standing_of c (holder k v))) (around k (holder k o)) s free outer)))
      rest

  -- a monitor inside has yet to look
  monitor_leaves : (u : ℕ) → IsState k u → has_aborts (own k u) ≡ true → Contains (around k (holder k u)) o → (y : Standing) →
      LooksFirst k core i u o y → Leaves (i.watcher_of u) y
  monitor_leaves u u_there some in_o _ looks_never = out
  monitor_leaves u u_there some in_o _ (looks_first yet seen rest parted inner) =
      tries (i.watching_of u) (strong_checks false 1 (map i.flags_of yet) ++ rest) (more.watching_alone u u_there some)
      (looks_leave (i.watcher_of u) 1 (holder k u) false in_o
      (λ s in_s.
      subst (λ zs. Contains zs (i.main_of s)) (sym image.encloses)
      (tail_in (i.main_of u) (i.main_of s) (around core (i.thread_of (holder k u))) (in_fork (holder k u) s in_s)))
      (ap (λ n. (state_at core n).entered) image.ended ∙ image.watched) yet seen parted inner rest)
    where
      image : WatcherImage k core i u
      image = rows.watcher u u_there some

  -- a simple state
  by_trying : (q s : ℕ) (tests : List Transition) → IsThere k q → Contains (around k q) o → IsSimple k s →
      Leaves (i.thread_of q) (at.Trying (i.main_of s) (tests_of k core i c q tests))
  by_trying q s tests there in_o simple =
      tries (i.main_of s) (tests_of k core i c q tests) (more.simple_alone s simple)
      (subst (LeavesTests (i.thread_of q)) (sym (append_assoc (front k core i false c q) (map (led (i.places_of q)) tests) (held_back k core i q)))
      (fronts_leave q false there in_o (map (led (i.places_of q)) tests ++ held_back k core i q)))

  -- behind a fork that is over
  by_behind : (q s : ℕ) → IsThere k q → Contains (around k q) o → Leaves (i.thread_of q)
      (at.Trying (i.behind_of s) (front k core i true c q ++ held_back k core i q))
  by_behind q s there in_o =
      tries (i.behind_of s) (front k core i true c q ++ held_back k core i q) (more.behind_alone s) (fronts_leave q true there in_o (held_back k core i q))

  -- behind them, in a continuation
  abbrev later_tests : ℕ → ℕ → List Transition
  later_tests q s =
      (answers (i.places_of q) (i.flags_of s).strong 1 (strong_aborts (own k s)) ++ answers (i.places_of q) (i.flags_of s).weak 1 (weak_aborts (own k s)))
      ++ at_once (closing (flags_around k core i q) (i.flags_of s) (i.places_of q) (terminations (own k s)))

  -- one that stands in a fork
  by_fork : (q s join : ℕ) → IsThere k q → Contains (around k q) o → IsInside k core i s (standing_of c q) → IsSuper k s → holder k s ≡ q →
      stays (flags_around k core i q) (own k s) ≡ false → is_behind k core i c s ≡ false → state_in core (i.thread_of q) join ≡ i.behind_of s →
      Leaves (i.thread_of q) (at.Within (i.main_of s) (joins join ∷ []))
  by_fork q s join there in_o inner super held not_staying open_still leads =
      fork_leaves k core i rows more tree core_children children o has c d related corr home 1 first same o_there q s join in_o inner super held
      not_staying open_still leads
      (subst (LeavesTests (i.thread_of q)) (sym (continuation_tests k core i q s))
      (checks_leave (i.thread_of q) (i.places_of q).left q true in_o (in_fork q) (left_ends q there in_o) (later_tests q s)))

  never_stays : (q s : ℕ) → Contains (around k q) o → stays (flags_around k core i q) (own k s) ≡ true → ⊥
  never_stays q s in_o e = by_aborts (has_aborts (own k s)) (aborts_around (flags_around k core i q)) (aborts_here k core i o x flag q in_o) e
    where
      by_aborts : (a b : Bool) → b ≡ true → not (a || b) ≡ true → ⊥
      by_aborts true b e f = absurd cc
      by_aborts false true e f = absurd cc
      by_aborts false false e f = absurd cc

  by_stands : (q : ℕ) → IsThere k q → Contains (around k q) o → (z y : Standing) → Stands k core i c q z y → standing_of c q ≡ z → IsCalm z →
      Leaves (i.thread_of q) y
  by_stands q there in_o _ _ outside is quiet = out
  by_stands q there in_o _ _ (ended inner) is quiet = over
  by_stands q there in_o _ _ (left s ss e over_it) is quiet = out
  by_stands q there in_o _ _ (trying s tests simple held) is quiet = by_trying q s tests there in_o simple
  by_stands q there in_o _ _ (acting s u p g effects lt) is quiet = absurd (calm_acting (at.Acting s (g ∷ effects) p) quiet s p (g ∷ effects) refl)
  by_stands q there in_o _ _ (entering s fork t tests super held leads) is quiet =
      absurd (calm_entering (at.Entering s (t ∷ tests)) quiet s (t ∷ tests) refl)
  by_stands q there in_o _ _ (guarding s join t tests has_some held leads) is quiet =
      by_fork q s join there in_o (subst (IsInside k core i s) (sym is) (guarded (t ∷ tests)))
      (super_of s (state_with_aborts k s has_some) has_some) held (rw (has_some) refl) (rw (has_some) refl) leads
  by_stands q there in_o _ _ (staying s tests super held stay) is quiet = absurd (never_stays q s in_o stay)
  by_stands q there in_o _ _ (within s join tests super held stay open_still leads) is quiet =
      by_fork q s join there in_o (subst (IsInside k core i s) (sym is) (open_inside tests)) super held stay open_still leads
  by_stands q there in_o _ _ (behind s tests super held over_it) is quiet = by_behind q s there in_o

  -- each thread of the fork can leave, where its monitor has ended
  pub may_leave : standing_of first (i.watcher_of o) ≡ at.Ended → (t : ℕ) → Contains (around core t) (i.main_of o) → Leaves t (standing_of first t)
  may_leave =
      all_may_leave k core i rows more tree core_children children o has c d related corr home 1 first same o_there
      (λ u u_there some in_o. monitor_leaves u u_there some in_o (standing_of d (i.watcher_of u)) (related.unseen u o u_there some in_o guarding_now))
      (λ q there in_o. by_stands q there in_o (standing_of c q) (standing_of d (i.thread_of q)) (related.regions q there) refl (calm q in_o))
