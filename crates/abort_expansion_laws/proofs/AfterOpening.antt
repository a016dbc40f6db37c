-- What waits still does after the fork of a prepared superstate was entered, and its region is settled.
use Rattle.std.proofs.Common.{◌≡◌, ◌≢◌, ℕ, suc, ◌<◌, ◌≤◌, ◌⊎◌, inl, inr, ⊎_elim, Bool, true, false, Option, Some, None, List, []}
use Rattle.std.proofs.Common.{◌∷◌, length, slice_set, Contains, refl, sym, ap, subst, ◌∙◌, arith}
use Rattle.sc_values.specs.Access.{Access}
use Rattle.core_charts.specs.declared.region.Transition.{Transition}
use Rattle.core_charts.specs.Aborts.{has_aborts}
use Rattle.chart_machine.specs.declared.standing.Standing.{Standing}
use Rattle.chart_machine.specs.declared.standing.Standing.TheVariants as at
use Rattle.chart_machine.specs.declared.standing.Configuration.{Configuration}
use Rattle.chart_machine.specs.declared.table.Table.{Table}
use Rattle.chart_machine.specs.Table.{state_at}
use Rattle.chart_machine.specs.Turns.{standing_of, is_guarded}
use Rattle.chart_machine.specs.Steps.{state_in}
use Rattle.abort_expansion.specs.Superstates.{stays}
use Rattle.tick_laws.proofs.Lists.{same_or_not, contained}
use Rattle.abort_expansion_laws.specs.Stages.{Entry, Silent}
use Rattle.abort_expansion_laws.specs.CoreRows.{own, IsState, Images, CoreRows, SplitImage, joins, flags_around}
use Rattle.abort_expansion_laws.specs.Related.{Stands, within, IsInside, guarded, open_inside, Stores, Watches, is_behind}
use Rattle.chart_machine_laws.proofs.LyingIn.{IsNested, around, holder, none_in, head_in, tail_in, head_or_tail, around_around}
use Rattle.abort_expansion_laws.proofs.TablesCorrespond.{IsThere}
use Rattle.abort_expansion_laws.proofs.InsideAround.{inside_around, one_in_other}
use Rattle.abort_expansion_laws.proofs.StageReached.{stage_of}
use Rattle.abort_expansion_laws.proofs.MonitorsOpened.{still_unseen}
use Rattle.abort_expansion_laws.proofs.Pending.{Sound, IsOpening, IsStarting, IsJoining, Over, Waits, settled, opening, starting, joining, ending}
use Rattle.abort_expansion_laws.proofs.Pending.{hidden, Covered, goes_in, still_going, Flagged, IsFresh, IsEmpty, Pending, IsBusy, starts, opens, joins_then}
use Rattle.abort_expansion_laws.proofs.Pending.{Reached}
use Rattle.abort_expansion_laws.proofs.SettledInOrder.{skips, there_in}
use Rattle.abort_expansion_laws.proofs.Resets.{Every, set_all, set_all_other, set_all_size, one_of}
use Rattle.abort_expansion_laws.proofs.OpenedKept.{set_all_behind}
use Rattle.abort_expansion_laws.proofs.OpensFork.{OpeningRows, every_one, forked, image, list, strong_down, weak_down, counter_full}
use Rattle.abort_expansion_laws.proofs.OpenedRows.{Opens, WithinIt, OpenedRows, ForkRows}
use Rattle.abort_expansion_laws.proofs.StandsInside.{inside_present}
use Rattle.abort_expansion_laws.proofs.OpenedKept as unmoved

module _ (k core : Table) (i : Images) (rows : CoreRows k core i) (tree : IsNested k) (core_tree : IsNested core) (counts : ℕ → Bool) (written_at : ℕ → ℕ)
    (Told : Configuration → Entry → Type 0) (told : (d : Configuration) (t : ℕ) (stage : Option (ℕ × ℕ)) (a : Access) → Told d (Silent t stage a))
    (deeper : (q s : ℕ) → Contains (around k q) s → holder k s < q)
    (children : (s r : ℕ) → Contains (state_at k s).regions r → around k r ≡ s ∷ around k (holder k s))
    (more : OpeningRows k core i rows) (fork_rows : ForkRows k core i) (opened_rows : OpenedRows k core i) (c : Configuration) (sound : Sound k core i c)
    (r : ℕ) (d : Configuration) (p : Pending k core i c r d) (there : IsThere k r) (s : ℕ) (held : holder k s ≡ r) (o : IsOpening k core i c d s) where
  abbrev h : ℕ
  h = i.thread_of (holder k s)

  abbrev n : ℕ
  n = length (state_at k s).regions

  abbrev fork : SplitImage k core i s
  fork = image k core i rows tree counts written_at Told told more c r d p there s held o

  abbrev W : Standing
  W = at.Within (i.main_of s) (joins fork.join ∷ [])

  abbrev z : Configuration
  z = forked k core i rows tree counts written_at Told told more c r d p there s held o

  abbrev d1 : Configuration
  d1 = record { variables = d.variables; regions = slice_set d.regions h W }

  in_chart : standing_of c r ≡ at.Within s o.tests
  in_chart = ap (standing_of c) (sym held) ∙ o.open_in_chart

  free : is_guarded k c (around k (holder k s)) ≡ false
  free = (p.ready s o).1.1

  holder_there : IsThere k (holder k s)
  holder_there = subst (IsThere k) (sym held) there

  abbrev region_in : (u q : ℕ) → Contains (around core (i.thread_of q)) (i.main_of u) → Contains (around k q) u
  region_in = unmoved.region_in k core i rows tree counts written_at Told told deeper more fork_rows c sound r d p there s held o

  abbrev in_thread : (u q : ℕ) → Contains (around k q) u → Contains (around core (i.thread_of q)) (i.main_of u)
  in_thread = unmoved.in_thread k core i rows tree counts written_at Told told deeper more fork_rows c sound r d p there s held o

  abbrev here : standing_of z h ≡ W
  here = unmoved.here k core i rows tree counts written_at Told told deeper more fork_rows c sound r d p there s held o

  abbrev same : (t : ℕ) → t ≢ h → ¬ Contains (around core t) (i.main_of s) → standing_of z t ≡ standing_of d t
  same = unmoved.same k core i rows tree counts written_at Told told deeper more fork_rows c sound r d p there s held o

  abbrev size : length z.regions ≡ length d.regions
  size = unmoved.size k core i rows tree counts written_at Told told deeper more fork_rows c sound r d p there s held o

  abbrev opens_it : Opens k core i c d1 z s
  opens_it = unmoved.opens_it k core i rows tree counts written_at Told told deeper more fork_rows c sound r d p there s held o

  abbrev keeps : (t : ℕ) (w : Standing) → t ≢ h → standing_of d t ≡ w → w ≢ at.Outside → standing_of z t ≡ w
  keeps = unmoved.keeps k core i rows tree counts written_at Told told deeper more fork_rows c sound r d p there s held o

  abbrev thread_same : (q : ℕ) → q ≢ r → ¬ Contains (around k q) s → standing_of z (i.thread_of q) ≡ standing_of d (i.thread_of q)
  thread_same = unmoved.thread_same k core i rows tree counts written_at Told told deeper more fork_rows c sound r d p there s held o

  abbrev opening_z : (u : ℕ) → u ≢ s → IsOpening k core i c d u → IsOpening k core i c z u
  opening_z = unmoved.opening_z k core i rows tree counts written_at Told told deeper more fork_rows c sound r d p there s held o

  abbrev opening_not_here : (u : ℕ) → IsOpening k core i c z u → i.thread_of (holder k u) ≢ h
  opening_not_here = unmoved.opening_not_here k core i rows tree counts written_at Told told deeper more fork_rows c sound r d p there s held o

  abbrev opening_back : (u : ℕ) → ¬ Contains (around k (holder k u)) s → IsOpening k core i c z u → IsOpening k core i c d u
  opening_back = unmoved.opening_back k core i rows tree counts written_at Told told deeper more fork_rows c sound r d p there s held o

  abbrev starting_z : (q u : ℕ) → q ≢ r → IsStarting k core i c d q u → IsStarting k core i c z q u
  starting_z = unmoved.starting_z k core i rows tree counts written_at Told told deeper more fork_rows c sound r d p there s held o

  abbrev starting_back : (q u : ℕ) → ¬ Contains (around k q) s → IsStarting k core i c z q u → IsStarting k core i c d q u
  starting_back = unmoved.starting_back k core i rows tree counts written_at Told told deeper more fork_rows c sound r d p there s held o

  abbrev not_joining : (u : ℕ) → is_behind k core i c u ≡ true → u ≢ s
  not_joining = unmoved.not_joining k core i rows tree counts written_at Told told deeper more fork_rows c sound r d p there s held o

  abbrev joining_z : (u : ℕ) → IsJoining k core i c d u → IsJoining k core i c z u
  joining_z = unmoved.joining_z k core i rows tree counts written_at Told told deeper more fork_rows c sound r d p there s held o

  abbrev joining_back : (u : ℕ) → ¬ Contains (around k (holder k u)) s → IsJoining k core i c z u → IsJoining k core i c d u
  joining_back = unmoved.joining_back k core i rows tree counts written_at Told told deeper more fork_rows c sound r d p there s held o

  -- ---- each region
  still : is_behind k core i c s ≡ false
  still = by_case (is_behind k core i c s) refl
    where
      by_case : (b : Bool) → is_behind k core i c s ≡ b → is_behind k core i c s ≡ false
      by_case false e = e
      by_case true e = absurd (not_joining s e refl)

  settled_now : Stands k core i c r (standing_of c r) (standing_of z (i.thread_of r))
  settled_now =
      subst (λ w. Stands k core i c r w (standing_of z (i.thread_of r))) (sym in_chart)
      (subst (Stands k core i c r (at.Within s o.tests)) (sym (ap (λ q. standing_of z (i.thread_of q)) (sym held) ∙ here))
      (within s fork.join o.tests o.super held (subst (λ q. stays (flags_around k core i q) (own k s) ≡ false) held o.split) still
      (subst (λ q. state_in core (i.thread_of q) fork.join ≡ i.behind_of s) held fork.joined)))

  waits_other : (q : ℕ) → q ≢ r → ¬ Contains (around k q) s → standing_of z (i.thread_of q) ≡ standing_of d (i.thread_of q) → Waits k core i c d q →
      Waits k core i c z q
  waits_other q ne out is (settled stands) = settled (subst (Stands k core i c q (standing_of c q)) (sym is) stands)
  waits_other q ne out is (opening u its a) = opening u its (opening_z u (λ e. ne (sym its ∙ (ap (holder k) e ∙ held))) a)
  waits_other q ne out is (starting u a) = starting u (starting_z q u ne a)
  waits_other q ne out is (joining u its a) = joining u its (joining_z u a)
  waits_other q ne out is (ending u us direct a over idle) = ending u us direct (joining_z u a) over (is ∙ idle)
  waits_other q ne out is (hidden u inner a gone) = hidden u inner (opening_z u (λ e. out (subst (Contains (around k q)) e inner)) a) (is ∙ gone)

  -- ---- flags and watchers
  within_or_not : (u : ℕ) → WithinIt k core i s u ⊎ ¬ WithinIt k core i s u
  within_or_not u =
      ⊎_elim (λ e. inl (inl e))
      (λ ne. ⊎_elim (λ inner. inl (inr inner)) (λ out. inr (λ w. ⊎_elim ne out w)) (contained (around k (holder k u)) s)) (same_or_not u s)

  covered_z : (u : ℕ) → ¬ WithinIt k core i s u → Covered k core i c d u → Covered k core i c z u
  covered_z u out a =
      (a.0, opening_z a.0 (λ e. out (⊎_elim (λ f. inl (sym f ∙ e)) (λ inner. inr (subst (Contains (around k (holder k u))) e inner)) a.2)) a.1, a.2)

  goes_same : (q : ℕ) → ¬ Contains (around k q) s → goes_in k core i c z q ≡ goes_in k core i c d q
  goes_same q out = ⊎_elim here_too other (same_or_not q r)
    where
      here_too : q ≡ r → goes_in k core i c z q ≡ goes_in k core i c d q
      here_too e = let is : standing_of c q ≡ at.Within s o.tests = ap (standing_of c) e ∙ in_chart in rw (is) refl

      other : q ≢ r → goes_in k core i c z q ≡ goes_in k core i c d q
      other ne = let is = thread_same q ne out in rw (is) refl

  as_many : (rs : List ℕ) → ((q : ℕ) → Contains rs q → ¬ Contains (around k q) s) → still_going k core i c z rs ≡ still_going k core i c d rs
  as_many [] out = refl
  as_many (q ∷ rs) out = rw (goes_same q (out q (head_in q rs)), as_many rs (λ v w. out v (tail_in q v rs w))) refl

  not_child : (u : ℕ) → ¬ WithinIt k core i s u → (q : ℕ) → Contains (state_at k u).regions q → ¬ Contains (around k q) s
  not_child u out q child inner =
      ⊎_elim (λ e. out (inl e)) (λ t. out (inr t)) (head_or_tail u s (around k (holder k u)) (subst (λ zs. Contains zs s) (children u q child) inner))

  abbrev Which : ℕ → ℕ → Type 0
  Which u y = ((i.flags_of u).strong ≡ Some y) ⊎ (((i.flags_of u).weak ≡ Some y) ⊎ ((i.flags_of u).counter ≡ Some y))

  abbrev resets_list : List (ℕ × ℕ)
  resets_list = list k core i rows tree counts written_at Told told more c r d p there s held o

  each_reset : (P : ℕ × ℕ → Type 0) → ((x m : ℕ) → Which s x → P (x, m)) → Every P resets_list
  each_reset P its =
      every_one P (i.flags_of s).strong 0 (one_of (i.flags_of s).weak 0 (one_of (i.flags_of s).counter n [])) (λ x e. its x 0 (inl e))
      (every_one P (i.flags_of s).weak 0 (one_of (i.flags_of s).counter n []) (λ x e. its x 0 (inr (inl e)))
      (every_one P (i.flags_of s).counter n [] (λ x e. its x n (inr (inr e))) tt))

  differs : (u y : ℕ) → u ≢ s → Which u y → Every (λ (x : ℕ × ℕ). y ≢ x.0) resets_list
  differs u y ne its = each_reset (λ (x : ℕ × ℕ). y ≢ x.0) (λ x m which e. ne (sym (more.flag_of u y its).0 ∙ (ap rows.of_flag e ∙ (more.flag_of s x which).0)))

  stored_other : (u : ℕ) → u ≢ s → (flag : Option ℕ) (m : ℕ) → ((y : ℕ) → flag ≡ Some y → Which u y) → Stores k core i d.variables flag m →
      Stores k core i z.variables flag m
  stored_other u ne None m its stores = tt
  stored_other u ne (Some y) m its stores = set_all_other resets_list d.variables y (differs u y ne (its y refl)) ∙ stores

  flagged_z : (u : ℕ) → ¬ WithinIt k core i s u → Flagged k core i c d u → Flagged k core i c z u
  flagged_z u out f =
      let ne : u ≢ s = λ e. out (inl e) in
      record {
        strong = stored_other u ne (i.flags_of u).strong 0 (λ y e. inl e) f.strong;
        weak = stored_other u ne (i.flags_of u).weak 0 (λ y e. inr (inl e)) f.weak;
        counter =
            subst (Stores k core i z.variables (i.flags_of u).counter) (sym (as_many (state_at k u).regions (not_child u out)))
            (stored_other u ne (i.flags_of u).counter (still_going k core i c d (state_at k u).regions) (λ y e. inr (inr e)) f.counter);
      }

  counter_now : (flag : Option ℕ) → (i.flags_of s).counter ≡ flag → Stores k core i z.variables flag n →
      Stores k core i z.variables flag (still_going k core i c z (state_at k s).regions)
  counter_now None e stores = tt
  counter_now (Some x) e stores = subst (Stores k core i z.variables (Some x)) (sym (opened_rows.all_go c d1 z s x opens_it e)) stores

  flagged_here : Flagged k core i c z s
  flagged_here =
      record {
        strong = strong_down k core i rows tree counts written_at Told told more c r d p there s held o;
        weak = weak_down k core i rows tree counts written_at Told told more c r d p there s held o;
        counter = counter_now (i.flags_of s).counter refl (counter_full k core i rows tree counts written_at Told told more c r d p there s held o);
      }

  watcher_same : (u : ℕ) → IsState k u → has_aborts (own k u) ≡ true → ¬ WithinIt k core i s u → standing_of z (i.watcher_of u) ≡ standing_of d (i.watcher_of u)
  watcher_same u u_there has out =
      let w = rows.watcher u u_there has in
      same (i.watcher_of u) (λ e. w.no_thread (holder k s) (sym e))
      (λ inner.
      ⊎_elim (λ e. out (inl (rows.main_once u s e))) (λ t. out (inr (region_in s (holder k u) t)))
      (head_or_tail (i.main_of u) (i.main_of s) (around core (i.thread_of (holder k u))) (subst (λ zs. Contains zs (i.main_of s)) w.encloses inner)))

  watchers_now : (u : ℕ) → IsState k u → has_aborts (own k u) ≡ true →
      Watches k core i u (standing_of c (holder k u)) (standing_of z (i.watcher_of u)) ⊎
      ((standing_of z (i.watcher_of u) ≡ at.Outside) × Covered k core i c z u)
  watchers_now u u_there has =
      ⊎_elim (λ w. opened_rows.watchers c d1 z s opens_it u u_there has w)
      (λ out.
      let kept = watcher_same u u_there has out in
      ⊎_elim (λ w. inl (subst (Watches k core i u (standing_of c (holder k u))) (sym kept) w)) (λ hides. inr (kept ∙ hides.0, covered_z u out hides.1))
      (p.watchers u u_there has))
      (within_or_not u)

  flags_now : (u : ℕ) → IsState k u → IsInside k core i u (standing_of c (holder k u)) → Flagged k core i c z u ⊎ Covered k core i c z u
  flags_now u u_there inside_u =
      ⊎_elim
      (λ w.
      ⊎_elim (λ e. inl (subst (Flagged k core i c z) (sym e) flagged_here)) (λ inner. opened_rows.flags c d1 z s opens_it u u_there inside_u inner) w)
      (λ out. ⊎_elim (λ f. inl (flagged_z u out f)) (λ covered. inr (covered_z u out covered)) (p.flags u u_there inside_u)) (within_or_not u)

  -- ---- forks that are still to be joined, and preparations
  not_preparing : (t : ℕ) (w : Standing) → standing_of d t ≡ w → ((tests : List Transition) → w ≢ at.Trying (i.entry_of s) tests) → t ≢ h
  not_preparing t w is other e = other _ (sym is ∙ (ap (standing_of d) e ∙ o.preparing))

  -- whatever is in both forks: one is the other, or lies in it
  both_forks : (t u : ℕ) → Contains (around core t) (i.main_of s) → Contains (around core t) (i.main_of u) →
      (s ≡ u) ⊎ (Contains (around k (holder k s)) u ⊎ Contains (around k (holder k u)) s)
  both_forks t u in_s in_u =
      ⊎_elim (λ e. inl (rows.main_once s u e))
      (λ other.
      ⊎_elim (λ x. inr (inl (region_in u (holder k s) (subst (λ v. Contains (around core v) (i.main_of u)) (rows.held s) x))))
      (λ x. inr (inr (region_in s (holder k u) (subst (λ v. Contains (around core v) (i.main_of s)) (rows.held u) x)))) other)
      (one_in_other core core_tree (around core t) t (i.main_of s) (i.main_of u) refl in_s in_u)

  over_z : (u : ℕ) → IsJoining k core i c z u → ¬ Contains (around k (holder k u)) s → Over k core i c d u → Over k core i c z u
  over_z u a out before =
      record {
        free = before.free;
        chart_inside = before.chart_inside;
        ended_there = λ t child.
            let is = before.ended_there t child in
            keeps t at.Ended (not_preparing t at.Ended is (λ tests e. absurd cc)) is (λ e. absurd cc);
        over_inside = λ t inner.
            ⊎_elim (λ is. inl (keeps t at.Ended (not_preparing t at.Ended is (λ tests e. absurd cc)) is (λ e. absurd cc)))
            (λ is.
            let ne = not_preparing t at.Outside is (λ tests e. absurd cc) in
            ⊎_elim (λ in_s. absurd (apart t in_s (inside_around core (i.main_of u) t inner))) (λ out_s. inr (same t ne out_s ∙ is))
            (contained (around core t) (i.main_of s)))
            (before.over_inside t inner);
      }
    where
      open_here : Contains (around k (holder k s)) u → ⊥
      open_here inner =
          ⊎_elim (λ e. let wrong : at.Within s o.tests ≡ at.Ended = sym o.open_in_chart ∙ e.2 in absurd cc)
          (λ e. let wrong : at.Within s o.tests ≡ at.Outside = sym o.open_in_chart ∙ e in absurd cc) (before.chart_inside (holder k s) holder_there inner)

      apart : (t : ℕ) → Contains (around core t) (i.main_of s) → Contains (around core t) (i.main_of u) → ⊥
      apart t in_s in_u = ⊎_elim (λ e. not_joining u a.over (sym e)) (λ other. ⊎_elim open_here out other) (both_forks t u in_s in_u)

  empty_z : (u : ℕ) → IsOpening k core i c z u → ¬ Contains (around k (holder k u)) s → IsEmpty k core i c d u → IsEmpty k core i c z u
  empty_z u a out before t inner =
      let is = before t inner in
      let ne = not_preparing t at.Outside is (λ tests e. absurd cc) in
      ⊎_elim (λ in_s. absurd (apart in_s)) (λ out_s. same t ne out_s ∙ is) (contained (around core t) (i.main_of s))
    where
      preparing_here : Contains (around k (holder k s)) u → ⊥
      preparing_here round = let wrong = sym o.preparing ∙ before h (in_thread u (holder k s) round) in absurd cc

      apart : Contains (around core t) (i.main_of s) → ⊥
      apart in_s = ⊎_elim (λ e. opening_not_here u a (ap (λ v. i.thread_of (holder k v)) (sym e))) (λ other. ⊎_elim preparing_here out other)
          (both_forks t u in_s inner)

  ready_z : (u : ℕ) → IsOpening k core i c z u → IsFresh k core i c u × (IsEmpty k core i c z u × (is_guarded k c (around k (holder k u)) ≡ false))
  ready_z u a =
      ⊎_elim (λ inner. opened_rows.within c d1 z s opens_it u a inner)
      (λ out. let before = p.ready u (opening_back u out a) in (before.0, (empty_z u a out before.1.0, before.1.1)))
      (contained (around k (holder k u)) s)

  still_pending : Pending k core i c r z
  still_pending =
      let behind = set_all_behind resets_list c.variables p.more
      (each_reset (λ (x : ℕ × ℕ). length c.variables ≤ x.0) (λ x m which. let le = added x which in let values = sound.values in
      omega (le, values, arith))) in
      record {
        more = behind.0;
        variables = ap (set_all resets_list) p.variables ∙ behind.1;
        flag_count = set_all_size resets_list d.variables ∙ p.flag_count;
        core_regions = size ∙ p.core_regions;
        no_core = same 0 zero_ne (λ inner. none_in_zero inner) ∙ p.no_core;
        waits = λ q q_there.
            ⊎_elim (λ e. subst (Waits k core i c z) (sym e) (settled settled_now))
            (λ ne.
            ⊎_elim (λ inner. opened_rows.waits c d1 z s opens_it q q_there inner) (λ out. waits_other q ne out (thread_same q ne out) (p.waits q q_there))
            (contained (around k q) s)) (same_or_not q r);
        done = λ q q_there lt.
            subst (Stands k core i c q (standing_of c q))
            (sym (thread_same q (λ e. absurd (omega (lt, e, arith))) (λ inner. let up = deeper q s inner in let its = held in
            absurd (omega (up, its, lt, arith)))))
            (p.done q q_there lt);
        watchers = watchers_now;
        unseen = still_unseen k core i rows opened_rows c d1 z s opens_it (λ u a. (ready_z u a).1.0) d p.unseen watcher_same free within_or_not;
        flags = flags_now;
        late = λ u a.
            ⊎_elim (λ inner. let up = deeper (holder k u) s inner in let its = held in omega (up, its, arith)) (λ out. p.late u (opening_back u out a))
            (contained (around k (holder k u)) s);
        joinable = λ u a.
            ⊎_elim (λ inner. opened_rows.joinable c d1 z s opens_it u a inner) (λ out. over_z u a out (p.joinable u (joining_back u out a)))
            (contained (around k (holder k u)) s);
        ready = ready_z;
      }
    where
      added : (x : ℕ) → Which s x → length k.variables ≤ x
      added x which = ⊎_elim (λ e. rows.strong_added s x e) (λ w. ⊎_elim (λ e. rows.weak_added s x e) (λ e. rows.counter_added s x e) w) which

      zero_ne : 0 ≢ h
      zero_ne e = let lt = (rows.region (holder k s) holder_there).there.0 in absurd (omega (lt, e, arith))

      none_in_zero : ¬ Contains (around core 0) (i.main_of s)
      none_in_zero inner = none_in (i.main_of s) inner

  pub opened_pending : Pending k core i c (suc r) z
  opened_pending = skips k core i rows tree counts written_at Told deeper c sound r z still_pending (λ _. settled_now)

  -- ---- which stages may be reached
  busy_back : (q u : ℕ) → ¬ Contains (around k q) s → IsBusy k core i c z q u → IsBusy k core i c d q u
  busy_back q u out (starts a) = starts (starting_back q u out a)
  busy_back q u out (opens its a) = opens its (opening_back u (λ inner. out (subst (λ v. Contains (around k v) s) its inner)) a)
  busy_back q u out (joins_then its a) = joins_then its (joining_back u (λ inner. out (subst (λ v. Contains (around k v) s) its inner)) a)

  busy_present : (q u : ℕ) → IsBusy k core i c z q u → standing_of c q ≢ at.Outside
  busy_present q u (starts a) e = let wrong : at.Ended ≡ at.Outside = sym a.over_in_chart ∙ e in absurd cc
  busy_present q u (opens its a) e = let wrong : at.Within u a.tests ≡ at.Outside = sym a.open_in_chart ∙ (ap (standing_of c) its ∙ e) in absurd cc
  busy_present q u (joins_then its a) e = let wrong : at.Within u a.tests ≡ at.Outside = sym a.open_in_chart ∙ (ap (standing_of c) its ∙ e) in absurd cc

  plain_stage : (u : ℕ) (x : Standing) → has_aborts (own k u) ≡ false → IsInside k core i u x → stage_of k c x ≤ 1
  plain_stage u _ plain (guarded tests) = omega arith
  plain_stage u _ plain (open_inside tests) = let is : stage_of k c (at.Within u tests) ≡ 1 = rw (plain) refl in omega (is, arith)

  -- who has still to step is there
  busy_there : (q v : ℕ) → IsBusy k core i c z q v → standing_of z (i.thread_of q) ≢ at.Outside
  busy_there q v (starts a) e = let wrong : at.Trying a.first _ ≡ at.Outside = sym a.counting ∙ e in absurd cc
  busy_there q v (opens its a) e =
      let wrong : at.Trying (i.entry_of v) _ ≡ at.Outside = sym a.preparing ∙ (ap (λ w. standing_of z (i.thread_of w)) its ∙ e) in absurd cc
  busy_there q v (joins_then its a) e =
      let wrong : at.Within (i.main_of v) _ ≡ at.Outside = sym a.forked ∙ (ap (λ w. standing_of z (i.thread_of w)) its ∙ e) in absurd cc

  -- so it is in no superstate with aborts that is inside: such a one was not opened at once
  never_busy : (q v u : ℕ) → IsThere k q → IsBusy k core i c z q v → Contains (around k q) u → Contains (around k (holder k u)) s →
      IsInside k core i u (standing_of c (holder k u)) → has_aborts (own k u) ≡ false
  never_busy q v u q_there b round inner inside_u = by_aborts (has_aborts (own k u)) refl
    where
      by_aborts : (a : Bool) → has_aborts (own k u) ≡ a → has_aborts (own k u) ≡ false
      by_aborts false none = none
      by_aborts true has =
          let over : Covered k core i c z u = opened_rows.covered c d1 z s opens_it u has inner inside_u in
          let in_it : Contains (around k q) over.0 =
          ⊎_elim (λ same. subst (Contains (around k q)) (sym same) round)
          (λ outer. around_around k tree (around k q) q u over.0 refl round outer) over.2 in
          absurd (busy_there q v b ((opened_pending.ready over.0 over.1).1.0 (i.thread_of q) (in_thread over.0 q in_it)))

  pub reached_then : (t m : ℕ) → (h ≢ t) × Reached k core i c d t m → Reached k core i c z t m
  reached_then t m before =
      record {
        staged = record { regions = before.1.staged.regions; chart = before.1.staged.chart };
        busy = λ q v u q_there b round e.
            ⊎_elim (λ inner. by_place q v u q_there b round e (one_in_other k tree (around k q) q s u refl inner round))
            (λ out. before.1.busy q v u q_there (busy_back q v out b) round e) (contained (around k q) s);
      }
    where
      by_place : (q v u : ℕ) → IsThere k q → IsBusy k core i c z q v → Contains (around k q) u → t ≡ i.thread_of (holder k u) →
          (s ≡ u) ⊎ (Contains (around k (holder k s)) u ⊎ Contains (around k (holder k u)) s) → m ≤ 1
      by_place q v u q_there b round e (inl is) = absurd (before.0 (ap (λ w. i.thread_of (holder k w)) is ∙ sym e))
      by_place q v u q_there b round e (inr (inl outer)) = before.1.busy (holder k s) s u holder_there (opens refl o) outer e
      by_place q v u q_there b round e (inr (inr inner)) =
          let inside_u = sound.enclosed q u q_there (busy_present q v b) round in
          let holds : IsThere k (holder k u) = there_in k core i rows tree counts written_at Told deeper c sound (holder k u)
          (inside_present k core i u (standing_of c (holder k u)) inside_u) in
          let le = before.1.staged.regions (holder k u) holds e in
          let low = plain_stage u (standing_of c (holder k u)) (never_busy q v u q_there b round inner inside_u) inside_u in omega (le, low, arith)
