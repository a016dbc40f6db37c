-- What is inside of a superstate whose weak abort is taken sees the raised flag, and all strong flags around it are down.
use Rattle.std.proofs.Common.{◌≡◌, ◌≢◌, ℕ, ◌+◌, ◌<◌, ◌≤◌, inl, inr, Bool, true, false, not, ◌&&◌, ◌||◌, ⊎_elim, Option, Some, None, List, [], map, ◌⊎◌}
use Rattle.std.proofs.Common.{◌∷◌, ◌++◌, length, slice_get, Contains, refl, sym, ap, subst, ◌∙◌, arith, if◌then◌else◌}
use Rattle.std.specs.Prelude.{reverse, flat_map}
use Rattle.std.specs.List.{list_all}
use Rattle.std.proofs.lemmas.Bool.{true_from_ne_false}
use Rattle.std.proofs.lemmas.List.{append_assoc}
use Rattle.std.proofs.lemmas.List.Folds.{flat_map-map}
use Rattle.core_charts.specs.declared.region.Transition.{Transition}
use Rattle.core_charts.specs.Tests.{terminations, is_join}
use Rattle.core_charts.specs.Aborts.{has_strong, has_aborts}
use Rattle.chart_machine.specs.declared.standing.Standing.{Standing}
use Rattle.chart_machine.specs.declared.standing.Standing.TheVariants as at
use Rattle.chart_machine.specs.declared.standing.Configuration.{Configuration}
use Rattle.chart_machine.specs.declared.table.Table.{Table}
use Rattle.chart_machine.specs.Table.{state_at}
use Rattle.chart_machine.specs.Turns.{standing_of, has_ended, has_work, may_close, inside}
use Rattle.chart_machine.specs.Steps.{to, state_in, verdict, access_of_trigger}
use Rattle.abort_expansion.specs.Flags.{aborts_around, weak_around, is_there}
use Rattle.abort_expansion.specs.Transitions.{is_raised, go, check, strong_checks, weak_checks}
use Rattle.abort_expansion.proofs.Assembled.{weak_none}
use Rattle.abort_expansion_laws.specs.Stages.{Correspondence, IsSilent}
use Rattle.abort_expansion_laws.proofs.Supplying.{silent_test, tests}
use Rattle.chart_machine_laws.proofs.LyingIn.{IsNested, around, holder, none_in, head_or_tail, head_in, tail_in, around_around}
use Rattle.abort_expansion_laws.proofs.TablesCorrespond.{IsThere}
use Rattle.abort_expansion_laws.proofs.MoreValues.{lowered_verdict}
use Rattle.abort_expansion_laws.proofs.FlagAccess.{raised_access}
use Rattle.abort_expansion_laws.specs.CoreRows.{own, IsState, Images, CoreRows, flags_around, pair}
use Rattle.abort_expansion_laws.specs.Related.{held_back}
use Rattle.abort_expansion_laws.specs.Related.{IsInside, guarded, open_inside, still_in, not_ended, Stores, Closes, Related}
use Rattle.abort_expansion_laws.proofs.KnownVariables.{present_there}
use Rattle.abort_expansion_laws.proofs.StartingRegions.{CounterRows}
use Rattle.abort_expansion_laws.proofs.Resets.{Apart}
use Rattle.abort_expansion_laws.proofs.OpensFork.{OpeningRows}
use Rattle.abort_expansion_laws.proofs.TickStarts.{StartRows}
use Rattle.abort_expansion_laws.proofs.YetToLook.{in_reverse, in_reversed}
use Rattle.abort_expansion_laws.proofs.MayLeave.{LeavesBy, leads_out, fails_before, MayLeave, is_forked}
use Rattle.abort_expansion_laws.proofs.InsideLeaves.{AloneRows}
use Rattle.abort_expansion_laws.proofs.WeakNotTaken.{IsWithin, within_back}
use Rattle.abort_expansion_laws.proofs.InsideAround.{one_in_other}
use Rattle.abort_expansion_laws.proofs.StandsInside.{inside_present}
use Rattle.abort_expansion_laws.proofs.Fronts.{reversed}
use Rattle.abort_expansion_laws.proofs.StageReached.{holds_other}
use Rattle.abort_expansion_laws.proofs.ThreadsAround.{thread_within}

-- ---- weak flags around

-- ---- counters

module _ (k core : Table) (i : Images) (c : Configuration) where
  pub still_none : (rs : List ℕ) → still_in k core i c rs ≡ 0 → list_all (λ r. has_ended (standing_of c r)) rs ≡ true
  still_none [] e = refl
  still_none (r ∷ rs) e = by_end (has_ended (standing_of c r)) refl e (λ rest. still_none rs rest)
    where
      by_end : (b : Bool) → has_ended (standing_of c r) ≡ b → (if b then 0 else 1) + still_in k core i c rs ≡ 0 →
          (still_in k core i c rs ≡ 0 → list_all (λ q. has_ended (standing_of c q)) rs ≡ true) →
          (has_ended (standing_of c r) && list_all (λ q. has_ended (standing_of c q)) rs) ≡ true
      by_end true is e rest = rw (is) (rest (omega (e, arith)))
      by_end false is e rest = absurd (omega (e, arith))

  -- a superstate whose termination has not its turn has a region that has not ended
  pub some_still_in : (s : ℕ) (tests : List Transition) → Closes k core i s tests → (t : Transition) (more : List Transition) →
      terminations (own k s) ≡ t ∷ more → may_close k c s tests ≡ false → not_ended k core i c s ≢ 0
  some_still_in s [] closes t more some idle none = none_left closes.some closes.are
    where
      none_left : (first : List Transition) → [] ≡ first ++ terminations (own k s) → ⊥
      none_left [] are = let wrong : [] ≡ t ∷ more = are ∙ some in absurd cc
      none_left (u ∷ first) are = absurd cc
  some_still_in s (u ∷ tests) closes t more some idle none =
      let all = still_none (state_at k s).regions none in
      let wrong : true ≡ false = sym (or_true (not (is_join u.kind))) ∙ (ap (λ b. not (is_join u.kind) || b) (sym all) ∙ idle) in absurd cc
    where
      or_true : (b : Bool) → (b || true) ≡ true
      or_true true = refl
      or_true false = refl

module _ (k core : Table) (i : Images) (rows : CoreRows k core i) (lone : AloneRows k core i) (tree : IsNested k)
    (deep : (q s : ℕ) → Contains (around core q) s → holder core s < q) (alone : (v : ℕ) → (state_at core v).regions ≡ [] → inside core v ≡ [])
    (core_children : (s r : ℕ) → Contains (state_at core s).regions r → around core r ≡ s ∷ around core (holder core s))
    (children : (s r : ℕ) → Contains (state_at k s).regions r → around k r ≡ s ∷ around k (holder k s))
    (counts : ℕ → Bool) (written_at : ℕ → ℕ) (counters : CounterRows k core i rows counts written_at) (opening : OpeningRows k core i rows)
    (start_rows : StartRows k core i rows) (written_low : (x : ℕ) → written_at x < 3)
    (strong_at : (s x : ℕ) → (i.flags_of s).strong ≡ Some x → written_at x ≡ 0)
    (c d : Configuration) (related : Related k core i c d) (r o x : ℕ) (flag : (i.flags_of o).weak ≡ Some x) (held : holder k o ≡ r)
    (early : (s y : ℕ) → Contains (around k r) s → (i.flags_of s).weak ≡ Some y → written_at y ≡ 0)
    (o_there : IsState k o) (open_tests : List Transition) (stands : standing_of c r ≡ at.Within o open_tests)
    (idle : (q : ℕ) → IsThere k q → Contains (around k q) o → has_work k c (standing_of c q) ≡ false)
    (first : Configuration) (raised : verdict first.variables (Some (is_raised x)) ≡ Some true)
    (values : (y : ℕ) → y ≢ x → slice_get first.variables y ≡ slice_get d.variables y)
    (same : (g : ℕ) → g ≢ i.watcher_of o → standing_of first g ≡ standing_of d g) where
  abbrev pub corr : Correspondence
  corr = pair k core i rows tree counts written_at

  pub has : has_aborts (own k o) ≡ true
  has = rw (start_rows.weak_for o x flag) (either (has_strong (own k o)))
    where
      either : (a : Bool) → (a || true) ≡ true
      either true = refl
      either false = refl

  abbrev pub Leaves : ℕ → Standing → Type 0
  Leaves t z = MayLeave core corr (i.thread_of r) 3 (i.main_of o) first t z

  abbrev pub LeavesAt : ℕ → List Transition → Type 0
  LeavesAt t ws = LeavesBy core corr (i.thread_of r) 3 (i.main_of o) first t ws

  abbrev pub LeavesTests : ℕ → List Transition → Type 0
  LeavesTests q ws = LeavesAt (i.thread_of q) ws

  same_first : (q : ℕ) → standing_of first (i.thread_of q) ≡ standing_of d (i.thread_of q)
  same_first q = same (i.thread_of q) ((rows.watcher o o_there has).no_thread q)

  -- ---- what each sees

  abbrev pub sees_at : ℕ → Transition
  sees_at place = go true (Some (is_raised x)) [] place

  weak_among : (zs : List ℕ) → Contains zs o → weak_around (map i.flags_of zs) ≡ true
  weak_among [] h = absurd (none_in o h)
  weak_among (s ∷ zs) h =
      ⊎_elim (λ same. let its : (i.flags_of s).weak ≡ Some x = ap (λ v. (i.flags_of v).weak) same ∙ flag in rw (its) refl)
      (λ tail. or_second (is_there (i.flags_of s).weak) (weak_around (map i.flags_of zs)) (weak_among zs tail)) (head_or_tail s o zs h)
    where
      or_second : (p q : Bool) → q ≡ true → (p || q) ≡ true
      or_second true q e = refl
      or_second false q e = e

  pub weak_here : (q : ℕ) → Contains (around k q) o → weak_around (flags_around k core i q) ≡ true
  weak_here q in_o = weak_among (reverse (around k q)) (in_reversed (around k q) o in_o)

  pub aborts_here : (q : ℕ) → Contains (around k q) o → aborts_around (flags_around k core i q) ≡ true
  aborts_here q in_o =
      true_from_ne_false (aborts_around (flags_around k core i q))
      (λ e. let wrong : true ≡ false = sym (weak_here q in_o) ∙ weak_none (flags_around k core i q) e in absurd cc)

  home_is : (y : ℕ) → rows.of_flag y ≡ o → corr.home y ≡ i.thread_of r
  home_is y owner = ap (λ s. holder core (i.main_of s)) owner ∙ (rows.held o ∙ ap i.thread_of held)

  pub in_fork : (q s : ℕ) → Contains (around k q) s → Contains (around core (i.thread_of q)) (i.main_of s)
  in_fork q s inner = thread_within k core i rows q s inner

  -- a flag of o may be looked at from inside
  pub looks_from : (t y : ℕ) → Contains (around core t) (i.main_of o) → length k.variables ≤ y → rows.of_flag y ≡ o → counts y ≡ false →
      IsSilent corr t (Some (i.thread_of r, 3)) (access_of_trigger (Some (is_raised y)))
  looks_from t y in_it added owner no_counter =
      subst (IsSilent corr t (Some (i.thread_of r, 3))) (sym (raised_access y))
      (silent_test corr t (Some (i.thread_of r, 3)) y added
      (inr (inr (no_counter, subst (λ s. Contains (around core t) (i.main_of s)) (sym owner) in_it), (3, stage_is, written_low y))))
    where
      stage_is : ◌≡◌ {A = Option (ℕ × ℕ)} (Some (i.thread_of r, 3)) (Some (holder core (i.main_of (rows.of_flag y)), 3))
      stage_is = ap (λ (h : ℕ). Some (h, 3)) (sym (home_is y owner))

  looks_at : (q y : ℕ) → Contains (around k q) o → length k.variables ≤ y → rows.of_flag y ≡ o → counts y ≡ false →
      IsSilent corr (i.thread_of q) (Some (i.thread_of r, 3)) (access_of_trigger (Some (is_raised y)))
  looks_at q y in_o added owner no_counter = looks_from (i.thread_of q) y (in_fork q o in_o) added owner no_counter

  pub ends_there : (q : ℕ) → IsThere k q → Contains (around k q) o →
      (state_at core (state_in core (i.thread_of q) (i.places_of q).left)).entered ≡ to (i.thread_of q) at.Ended ∷ []
  ends_there q there in_o = (rows.region q there).left (aborts_here q in_o)

  -- who holds o is there, and so inside of all that is around it
  inside_outer : (s : ℕ) → Contains (around k r) s → IsInside k core i s (standing_of c (holder k s))
  inside_outer s outer = related.enclosed r s (present_there k core i c d related r present) present outer
    where
      present : standing_of c r ≢ at.Outside
      present e = let wrong : at.Within o open_tests ≡ at.Outside = sym stands ∙ e in absurd cc

  -- the weak flag of a superstate around o is down, and is looked at first: early, since that superstate has yet to test
  module _ (t place : ℕ) (in_o : Contains (around core t) (i.main_of o))
      (in_outer : (s : ℕ) → Contains (around k r) s → Contains (around core t) (i.main_of s)) where
    outer_fails : (s y : ℕ) → Contains (around k r) s → (i.flags_of s).weak ≡ Some y → (rest : List Transition) → LeavesAt t rest →
        LeavesAt t (go true (Some (is_raised y)) [] place ∷ rest)
    outer_fails s y outer weak rest then_leaves =
        fails_before (go true (Some (is_raised y)) [] place) rest low (Some (i.thread_of (holder k s), 1))
        (inr (inr (inr (record {
          superstate = i.main_of s;
          around_home = in_fork r s outer;
          is = ap (λ (h : ℕ). Some (h, 1)) (sym (rows.held s));
        }))))
        (subst (IsSilent corr t (Some (i.thread_of (holder k s), 1))) (sym (raised_access y))
        (silent_test corr t (Some (i.thread_of (holder k s), 1)) y (rows.weak_added s y weak)
        (inr (
          inr (counters.weak_not s y weak, subst (λ v. Contains (around core t) (i.main_of v)) (sym owner_is) (in_outer s outer)),
          (
            1,
            ap (λ (h : ℕ). Some (h, 1)) (sym (ap (λ v. holder core (i.main_of v)) owner_is ∙ rows.held s)),
            (let zero_is = early s y outer weak in omega (zero_is, arith)),
          ),
        )))) then_leaves
      where
        owner_is : rows.of_flag y ≡ s
        owner_is = (opening.flag_of s y (inr (inl weak))).0

        differs : y ≢ x
        differs e =
            let owner : s ≡ o = sym owner_is ∙ (ap rows.of_flag e ∙ (opening.flag_of o x (inr (inl flag))).0) in
            holds_other k tree r o (subst (Contains (around k r)) owner outer) held

        low : verdict first.variables (Some (is_raised y)) ≡ Some false
        low =
            lowered_verdict y first.variables
            (values y differs
            ∙ subst (λ f. Stores k core i d.variables f 0) weak (related.flags s (start_rows.super_there r s outer) (inside_outer s outer)).weak)

    all_fail : (zs : List ℕ) → ((s : ℕ) → Contains zs s → Contains (around k r) s) → (rest : List Transition) → LeavesAt t rest →
        LeavesAt t (flat_map (λ s. check true place (i.flags_of s).weak) zs ++ rest)
    all_fail [] outer rest then_leaves = then_leaves
    all_fail (s ∷ zs) outer rest then_leaves =
        subst (LeavesAt t)
        (sym (append_assoc (check true place (i.flags_of s).weak) (flat_map (λ u. check true place (i.flags_of u).weak) zs) rest))
        (by_flag (i.flags_of s).weak refl (flat_map (λ u. check true place (i.flags_of u).weak) zs ++ rest)
        (all_fail zs (λ u h. outer u (tail_in s u zs h)) rest then_leaves))
      where
        by_flag : (f : Option ℕ) → (i.flags_of s).weak ≡ f → (others : List Transition) → LeavesAt t others → LeavesAt t (check true place f ++ others)
        by_flag None e others leaves = leaves
        by_flag (Some y) e others leaves = outer_fails s y (outer s (head_in s zs)) e others leaves

    more_behind : (xs ys : List Transition) → LeavesAt t xs → LeavesAt t (xs ++ ys)
    more_behind _ ys (leads_out w rest holds none ends staged within silent) = leads_out w (rest ++ ys) holds none ends staged within silent
    more_behind _ ys (fails_before w rest fails staged within silent others) =
        fails_before w (rest ++ ys) fails staged within silent (more_behind rest ys others)

    module _ (ends_at : (state_at core (state_in core t place)).entered ≡ to t at.Ended ∷ []) where
      own_leads : (rest : List Transition) → LeavesAt t (sees_at place ∷ rest)
      own_leads rest =
          leads_out (sees_at place) rest raised refl ends_at (Some (i.thread_of r, 3)) (inr (inl refl))
          (looks_from t x in_o (rows.weak_added o x flag) (opening.flag_of o x (inr (inl flag))).0 (counters.weak_not o x flag))

      each_leaves : (zs : List ℕ) (q : ℕ) → around k q ≡ zs → Contains zs o →
          LeavesAt t (flat_map (λ s. check true place (i.flags_of s).weak) (reverse zs))
      each_leaves [] q round h = absurd (none_in o h)
      each_leaves (s ∷ zs) q round h =
          subst (LeavesAt t) (sym (reversed (λ u. check true place (i.flags_of u).weak) s zs))
          (⊎_elim (λ same. here same)
          (λ tail.
          more_behind (flat_map (λ u. check true place (i.flags_of u).weak) (reverse zs)) (check true place (i.flags_of s).weak ++ [])
          (each_leaves zs (holder k s) (sym (tree.upward q s zs round)) tail)) (head_or_tail s o zs h))
        where
          here : s ≡ o →
              LeavesAt t (flat_map (λ u. check true place (i.flags_of u).weak) (reverse zs) ++ (check true place (i.flags_of s).weak ++ []))
          here same =
              all_fail (reverse zs)
              (λ u inner.
              subst (λ ys. Contains ys u) (tree.upward q s zs round ∙ ap (λ v. around k (holder k v)) same ∙ ap (around k) held)
              (in_reverse zs u inner)) (check true place (i.flags_of s).weak ++ [])
              (subst (λ f. LeavesAt t (check true place f ++ [])) (sym (ap (λ v. (i.flags_of v).weak) same ∙ flag)) (own_leads []))

      -- so the checks of all weak flags around lead out
      pub checks_leave : (q : ℕ) → Contains (around k q) o → LeavesAt t (weak_checks true place (flags_around k core i q))
      checks_leave q round =
          subst (LeavesAt t) (sym (flat_map-map (λ f. check true place f.weak) i.flags_of (reverse (around k q))))
          (each_leaves (around k q) q refl round)

  -- what is around o is around whatever lies inside of it
  pub outer_around : (q s : ℕ) → Contains (around k q) o → Contains (around k r) s → Contains (around k q) s
  outer_around q s in_o outer = around_around k tree (around k q) q o s refl in_o (subst (λ p. Contains (around k p) s) (sym held) outer)

  pub held_leaves : (q : ℕ) → IsThere k q → Contains (around k q) o → LeavesTests q (held_back k core i q)
  held_leaves q there in_o =
      checks_leave (i.thread_of q) (i.places_of q).left (in_fork q o in_o) (λ s outer. in_fork q s (outer_around q s in_o outer))
      (ends_there q there in_o) q in_o

  -- ---- strong checks fail

  not_strong : (y : ℕ) → (i.flags_of o).strong ≡ Some y → y ≢ x
  not_strong y strong e =
      let both : Apart (Some y) (Some x) = subst (Apart (Some y)) flag (subst (λ f. Apart f (i.flags_of o).weak) strong (opening.flags_apart o).0) in both e

  -- who holds an opened superstate inside stands in its fork
  pub in_its_fork : (s : ℕ) → IsState k s → has_aborts (own k s) ≡ true → IsThere k (holder k s) → (tests : List Transition) →
      standing_of c (holder k s) ≡ at.Within s tests → is_forked (standing_of first (i.thread_of (holder k s))) ≡ true
  in_its_fork s s_there some is tests stood =
      let image : IsWithin k core i c (holder k s) s (standing_of d (i.thread_of (holder k s))) =
      within_back k core i c (holder k s) s some (standing_of c (holder k s)) (standing_of d (i.thread_of (holder k s)))
      (related.regions (holder k s) is) tests stood in
      ap is_forked (same_first (holder k s) ∙ image.is)

  -- who is inside of o, and opened, has no strong tests left
  opened_inside : (s : ℕ) → IsThere k (holder k s) → Contains (around k (holder k s)) o → (w : Standing) → standing_of c (holder k s) ≡ w →
      IsInside k core i s w → (tests : List Transition) × (standing_of c (holder k s) ≡ at.Within s tests)
  opened_inside s is in_o _ e (open_inside tests) = (tests, e)
  opened_inside s is in_o _ e (guarded tests) =
      let wrong : true ≡ false = sym (ap (has_work k c) e) ∙ idle (holder k s) is in_o in absurd cc

  -- a strong flag around is down, and may be looked at
  strong_fails_one : (q s y : ℕ) → IsThere k q → standing_of c q ≢ at.Outside → Contains (around k q) o → Contains (around k q) s →
      (i.flags_of s).strong ≡ Some y → (rest : List Transition) → LeavesTests q rest →
      LeavesTests q (go true (Some (is_raised y)) [] (i.places_of q).left ∷ rest)
  strong_fails_one q s y q_there present in_o in_s strong rest then_leaves =
      by_place (one_in_other k tree (around k q) q s o refl in_s in_o)
    where
      has_it : has_strong (own k s) ≡ true
      has_it = start_rows.strong_for s y strong

      some : has_aborts (own k s) ≡ true
      some = rw (has_it) refl

      s_there : IsState k s
      s_there = start_rows.super_there q s in_s

      opened_s : IsInside k core i s (standing_of c (holder k s))
      opened_s = related.enclosed q s q_there present in_s

      differs : y ≢ x
      differs e =
          let owner : s ≡ o = sym (opening.flag_of s y (inl strong)).0 ∙ (ap rows.of_flag e ∙ (opening.flag_of o x (inr (inl flag))).0) in
          not_strong y (subst (λ v. (i.flags_of v).strong ≡ Some y) owner strong) e

      low : verdict first.variables (Some (is_raised y)) ≡ Some false
      low = lowered_verdict y first.variables (values y differs ∙ subst (λ f. Stores k core i d.variables f 0) strong (related.flags s s_there opened_s).strong)

      owner_is : rows.of_flag y ≡ s
      owner_is = (opening.flag_of s y (inl strong)).0

      by_place : (s ≡ o) ⊎ (Contains (around k (holder k s)) o ⊎ Contains (around k (holder k o)) s) →
          LeavesTests q (go true (Some (is_raised y)) [] (i.places_of q).left ∷ rest)
      by_place (inl is) =
          fails_before (go true (Some (is_raised y)) [] (i.places_of q).left) rest low (Some (i.thread_of r, 3)) (inr (inl refl))
          (looks_at q y in_o (rows.strong_added s y strong) (owner_is ∙ is) (counters.strong_not s y strong)) then_leaves
      by_place (inr (inl deeper)) =
          let holder_is : IsThere k (holder k s) = present_there k core i c d related (holder k s)
          (inside_present k core i s (standing_of c (holder k s)) opened_s) in
          let found = opened_inside s holder_is deeper (standing_of c (holder k s)) refl opened_s in
          fails_before (go true (Some (is_raised y)) [] (i.places_of q).left) rest low (Some (i.thread_of (holder k s), 3))
          (inr (inr (inl (record {
            inner = i.thread_of (holder k s);
            is = refl;
            later = let up = deep (i.thread_of q) (i.main_of s) (in_fork q s in_s) in let its = rows.held s in omega (up, its, arith);
            lies_in = in_fork (holder k s) o deeper;
            forked = in_its_fork s s_there some holder_is found.0 found.1;
          }))))
          (subst (IsSilent corr (i.thread_of q) (Some (i.thread_of (holder k s), 3))) (sym (raised_access y))
          (silent_test corr (i.thread_of q) (Some (i.thread_of (holder k s), 3)) y (rows.strong_added s y strong)
          (inr (
            inr (counters.strong_not s y strong, subst (λ v. Contains (around core (i.thread_of q)) (i.main_of v)) (sym owner_is) (in_fork q s in_s)),
            (3, ap (λ (h : ℕ). Some (h, 3)) (sym (ap (λ v. holder core (i.main_of v)) owner_is ∙ rows.held s)), written_low y),
          )))) then_leaves
      -- of one further out, at stage 1: there is work inside of it, since o has its turn
      by_place (inr (inr outer)) =
          fails_before (go true (Some (is_raised y)) [] (i.places_of q).left) rest low (Some (i.thread_of (holder k s), 1))
          (inr (inr (inr (record {
            superstate = i.main_of s;
            around_home = subst (λ p. Contains (around core (i.thread_of p)) (i.main_of s)) held (in_fork (holder k o) s outer);
            is = ap (λ (h : ℕ). Some (h, 1)) (sym (rows.held s));
          }))))
          (subst (IsSilent corr (i.thread_of q) (Some (i.thread_of (holder k s), 1))) (sym (raised_access y))
          (silent_test corr (i.thread_of q) (Some (i.thread_of (holder k s), 1)) y (rows.strong_added s y strong)
          (inr (
            inr (counters.strong_not s y strong, subst (λ v. Contains (around core (i.thread_of q)) (i.main_of v)) (sym owner_is) (in_fork q s in_s)),
            (
              1,
              ap (λ (h : ℕ). Some (h, 1)) (sym (ap (λ v. holder core (i.main_of v)) owner_is ∙ rows.held s)),
              (let zero_is = strong_at s y strong in omega (zero_is, arith)),
            ),
          )))) then_leaves

  pub strong_fails : (q : ℕ) → IsThere k q → standing_of c q ≢ at.Outside → Contains (around k q) o → (rest : List Transition) → LeavesTests q rest →
      LeavesTests q (strong_checks true (i.places_of q).left (flags_around k core i q) ++ rest)
  strong_fails q q_there present in_o rest then_leaves = each_fails (reverse (around k q)) (λ s h. in_reverse (around k q) s h)
    where
      by_flag : (s : ℕ) → Contains (around k q) s → (f : Option ℕ) → (i.flags_of s).strong ≡ f → (others : List Transition) → LeavesTests q others →
          LeavesTests q (check true (i.places_of q).left f ++ others)
      by_flag s in_s None e others leaves = leaves
      by_flag s in_s (Some y) e others leaves = strong_fails_one q s y q_there present in_o in_s e others leaves

      each_fails : (zs : List ℕ) → ((s : ℕ) → Contains zs s → Contains (around k q) s) →
          LeavesTests q (strong_checks true (i.places_of q).left (map i.flags_of zs) ++ rest)
      each_fails [] around_it = then_leaves
      each_fails (s ∷ zs) around_it =
          subst (LeavesTests q)
          (sym (append_assoc (check true (i.places_of q).left (i.flags_of s).strong) (strong_checks true (i.places_of q).left (map i.flags_of zs)) rest))
          (by_flag s (around_it s (head_in s zs)) (i.flags_of s).strong refl (strong_checks true (i.places_of q).left (map i.flags_of zs) ++ rest)
          (each_fails zs (λ u h. around_it u (tail_in s u zs h))))

  pub works_not : (q : ℕ) → IsThere k q → Contains (around k q) o → (w : Standing) → standing_of c q ≡ w → has_work k c w ≡ true → ⊥
  works_not q there in_o w e works = let wrong : true ≡ false = sym works ∙ (sym (ap (has_work k c) e) ∙ idle q there in_o) in absurd cc
