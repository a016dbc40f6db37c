-- What waits still does after a fork was joined, and its region is settled.
use Rattle.std.proofs.Common.{◌≡◌, ◌≢◌, ℕ, suc, ◌<◌, inl, inr, ⊎_elim, Bool, true, false, not, ◌||◌, List, [], ◌∷◌, ◌++◌, length, Contains, refl, sym}
use Rattle.std.proofs.Common.{ap, subst, ◌∙◌, arith}
use Rattle.core_charts.specs.declared.region.Transition.{Transition}
use Rattle.chart_machine.specs.declared.standing.Standing.{Standing}
use Rattle.chart_machine.specs.declared.standing.Standing.TheVariants as at
use Rattle.chart_machine.specs.declared.standing.Configuration.{Configuration}
use Rattle.chart_machine.specs.declared.table.Table.{Table}
use Rattle.chart_machine.specs.Table.{state_at}
use Rattle.chart_machine.specs.Turns.{standing_of, has_ended, is_guarded, inside}
use Rattle.tick_laws.proofs.Lists.{same_or_not, contained, contains_map}
use Rattle.abort_expansion_laws.specs.Stages.{Entry}
use Rattle.chart_machine_laws.proofs.LyingIn.{IsNested, around, holder, head_in, head_or_tail}
use Rattle.abort_expansion_laws.specs.CoreRows.{Images, CoreRows, joins}
use Rattle.abort_expansion_laws.specs.Related.{held_back, Stores, LooksFirst}
use Rattle.abort_expansion_laws.proofs.Pending.{Sound, IsJoining, Over, Covered, Flagged, Pending, IsBusy, joins_then, Reached, opening_kept, starting_kept}
use Rattle.abort_expansion_laws.specs.Related.{is_behind, front, Stands, outside, left, behind}
use Rattle.abort_expansion_laws.specs.Related.{Watches, guards as watch_guards, waits, looks_strong, looks, elsewhere}
use Rattle.abort_expansion_laws.proofs.Fronts.{front_free}
use Rattle.abort_expansion_laws.proofs.TablesCorrespond.{IsThere}
use Rattle.abort_expansion_laws.proofs.InsideAround.{inside_around}
use Rattle.abort_expansion_laws.proofs.StageReached.{inside_in}
use Rattle.abort_expansion_laws.proofs.Pending.{is_trying, IsOpening, IsStarting, Waits, settled, opening, starting, joining, ending, hidden, goes_in}
use Rattle.abort_expansion_laws.proofs.Pending.{still_going, starts, opens, behind_unprepared, joining_kept}
use Rattle.abort_expansion_laws.proofs.SettledInOrder.{skips, there_in}
use Rattle.abort_expansion_laws.proofs.LooksFirst.{still_looks, looks_not_ended}
use Rattle.abort_expansion_laws.proofs.ThreadsAround.{thread_within}

module _ (k core : Table) (i : Images) (rows : CoreRows k core i) (tree : IsNested k) (counts : ℕ → Bool) (written_at : ℕ → ℕ)
    (Told : Configuration → Entry → Type 0)
    (deeper : (q s : ℕ) → Contains (around k q) s → holder k s < q)
    (core_children : (s t : ℕ) → Contains (state_at core s).regions t → IsThere core t × (around core t ≡ s ∷ around core (holder core s)))
    (c : Configuration) (sound : Sound k core i c)
    (r : ℕ) (d : Configuration) (p : Pending k core i c r d) (there : IsThere k r) (s : ℕ) (held : holder k s ≡ r) (o : IsJoining k core i c d s)
    (z : Configuration)
    (values : z.variables ≡ d.variables) (here : standing_of z (i.thread_of r) ≡ at.Trying (i.behind_of s) (held_back k core i r))
    (dropped : (t : ℕ) → t ≢ i.thread_of r → Contains (inside core (i.main_of s)) t → standing_of z t ≡ at.Outside)
    (same : (t : ℕ) → t ≢ i.thread_of r → ¬ Contains (inside core (i.main_of s)) t → standing_of z t ≡ standing_of d t)
    (size : length z.regions ≡ length d.regions) where
  abbrev g : ℕ
  g = i.thread_of r

  over_it : Over k core i c d s
  over_it = p.joinable s o

  forked : standing_of d g ≡ at.Within (i.main_of s) (joins o.join ∷ [])
  forked = ap (λ q. standing_of d (i.thread_of q)) (sym held) ∙ o.forked

  in_chart : standing_of c r ≡ at.Within s o.tests
  in_chart = ap (standing_of c) (sym held) ∙ o.open_in_chart

  -- who stands in something that is neither ended nor outside stays there
  keeps : (t : ℕ) (w : Standing) → t ≢ g → standing_of d t ≡ w → w ≢ at.Ended → w ≢ at.Outside → standing_of z t ≡ w
  keeps t w ne is not_ended not_out =
      ⊎_elim (λ h. ⊎_elim (λ e. absurd (not_ended (sym is ∙ e))) (λ e. absurd (not_out (sym is ∙ e))) (over_it.over_inside t h)) (λ out. same t ne out ∙ is)
      (contained (inside core (i.main_of s)) t)

  back_keeps : (t : ℕ) (w : Standing) → t ≢ g → standing_of z t ≡ w → w ≢ at.Outside → standing_of d t ≡ w
  back_keeps t w ne is not_out = ⊎_elim (λ h. absurd (not_out (sym is ∙ dropped t ne h))) (λ out. sym (same t ne out) ∙ is)
      (contained (inside core (i.main_of s)) t)

  not_g : (t : ℕ) (u : ℕ) (ts : List Transition) → standing_of d t ≡ at.Trying u ts → t ≢ g
  not_g t u ts is e = let wrong : at.Trying u ts ≡ at.Within (i.main_of s) (joins o.join ∷ []) = sym is ∙ (ap (standing_of d) e ∙ forked) in absurd cc

  same_super : (u : ℕ) (tests : List Transition) → standing_of c (holder k u) ≡ at.Within u tests → holder k u ≡ r → u ≡ s
  same_super u tests is e = let both : at.Within u tests ≡ at.Within s o.tests = sym is ∙ (ap (standing_of c) e ∙ in_chart) in cc

  opening_z : (u : ℕ) → IsOpening k core i c d u → IsOpening k core i c z u
  opening_z u a =
      opening_kept k core i c d z u a
      (keeps (i.thread_of (holder k u)) _ (not_g (i.thread_of (holder k u)) _ _ a.preparing) a.preparing (λ e. absurd cc) (λ e. absurd cc))

  opening_back : (u : ℕ) → IsOpening k core i c z u → IsOpening k core i c d u
  opening_back u a =
      opening_kept k core i c z d u a
      (back_keeps (i.thread_of (holder k u)) _
      (λ e.
      let is_s : u ≡ s = same_super u a.tests a.open_in_chart (rows.region_once (holder k u) r e) in
      let none = behind_unprepared k core i c u (subst (λ v. is_behind k core i c v ≡ true) (sym is_s) o.over) in
      let wrong : true ≡ false = sym a.prepared ∙ none in absurd cc) a.preparing (λ e. absurd cc))

  starting_z : (q u : ℕ) → IsStarting k core i c d q u → IsStarting k core i c z q u
  starting_z q u a =
      starting_kept k core i c d z q u a
      (keeps (i.thread_of q) _ (not_g (i.thread_of q) _ _ a.counting) a.counting (λ e. absurd cc) (λ e. absurd cc))

  joining_z : (u : ℕ) → u ≢ s → IsJoining k core i c d u → IsJoining k core i c z u
  joining_z u ne a =
      joining_kept k core i c d z u a
      (keeps (i.thread_of (holder k u)) _ (λ e. ne (same_super u a.tests a.open_in_chart (rows.region_once (holder k u) r e))) a.forked
      (λ e. absurd cc) (λ e. absurd cc))

  holder_not_g : (u : ℕ) → IsJoining k core i c z u → i.thread_of (holder k u) ≢ g
  holder_not_g u a e = let wrong : at.Within (i.main_of u) (joins a.join ∷ []) ≡ at.Trying (i.behind_of s) (held_back k core i r) = sym a.forked ∙
      (ap (standing_of z) e ∙ here) in absurd cc

  joining_back : (u : ℕ) → IsJoining k core i c z u → IsJoining k core i c d u
  joining_back u a =
      joining_kept k core i c z d u a
      (back_keeps (i.thread_of (holder k u)) _ (holder_not_g u a) a.forked (λ e. absurd cc))

  -- a region's thread is in the fork where the superstate is around the region
  thread_in : (q : ℕ) → Contains (inside core (i.main_of s)) (i.thread_of q) → Contains (around k q) s
  thread_in q h =
      let u = contains_map i.main_of (around k q) (i.main_of s) (subst (λ zs. Contains zs (i.main_of s)) (rows.encloses q)
      (inside_around core (i.main_of s) (i.thread_of q) h)) in
      subst (Contains (around k q)) (rows.main_once u.0 s u.2) u.1

  in_thread : (q : ℕ) → IsThere k q → Contains (around k q) s → Contains (inside core (i.main_of s)) (i.thread_of q)
  in_thread q q_there h =
      inside_in core (i.main_of s) (i.thread_of q) (rows.region q q_there).there
      (thread_within k core i rows q s h)

  thread_ne : (q : ℕ) → q ≢ r → i.thread_of q ≢ g
  thread_ne q ne e = ne (rows.region_once q r e)

  no_front : front k core i true c r ≡ []
  no_front = front_free k core i c r (subst (λ q. is_guarded k c (around k q) ≡ false) held over_it.free) true

  settled_now : Stands k core i c r (standing_of c r) (standing_of z g)
  settled_now =
      subst (λ w. Stands k core i c r w (standing_of z g)) (sym in_chart)
      (subst (Stands k core i c r (at.Within s o.tests)) (ap (λ ts. at.Trying (i.behind_of s) (ts ++ held_back k core i r)) no_front ∙ sym here)
      (behind s o.tests o.super held o.over))

  waits_inside : (q : ℕ) → IsThere k q → q ≢ r → Contains (around k q) s → Waits k core i c z q
  waits_inside q q_there ne h =
      let out : standing_of z (i.thread_of q) ≡ at.Outside = dropped (i.thread_of q) (thread_ne q ne) (in_thread q q_there h) in
      settled
      (subst (Stands k core i c q (standing_of c q)) (sym out)
      (⊎_elim (λ e. subst (λ w. Stands k core i c q w at.Outside) (sym e.2) (left s e.0 e.1 o.over))
      (λ e. subst (λ w. Stands k core i c q w at.Outside) (sym e) outside) (over_it.chart_inside q q_there h)))

  waits_other : (q : ℕ) → q ≢ r → ¬ Contains (around k q) s → standing_of z (i.thread_of q) ≡ standing_of d (i.thread_of q) → Waits k core i c d q →
      Waits k core i c z q
  waits_other q ne out is (settled stands) = settled (subst (Stands k core i c q (standing_of c q)) (sym is) stands)
  waits_other q ne out is (opening u its a) = opening u its (opening_z u a)
  waits_other q ne out is (starting u a) = starting u (starting_z q u a)
  waits_other q ne out is (joining u its a) = joining u its (joining_z u (λ e. ne (sym its ∙ (ap (holder k) e ∙ held))) a)
  waits_other q ne out is (ending u us direct a over idle) =
      ending u us direct (joining_z u (λ e. out (subst (Contains (around k q)) e (subst (λ zs. Contains zs u) (sym direct) (head_in u us)))) a) over (is ∙ idle)
  waits_other q ne out is (hidden u inner a gone) = hidden u inner (opening_z u a) (is ∙ gone)

  thread_same : (q : ℕ) → q ≢ r → ¬ Contains (around k q) s → standing_of z (i.thread_of q) ≡ standing_of d (i.thread_of q)
  thread_same q ne out = same (i.thread_of q) (thread_ne q ne) (λ h. out (thread_in q h))

  -- ---- flags and watchers

  goes_same : (q : ℕ) → goes_in k core i c z q ≡ goes_in k core i c d q
  goes_same q = ⊎_elim here_too other (same_or_not q r)
    where
      here_too : q ≡ r → goes_in k core i c z q ≡ goes_in k core i c d q
      here_too e = let is : standing_of c q ≡ at.Within s o.tests = ap (standing_of c) e ∙ in_chart in rw (is) refl

      other : q ≢ r → goes_in k core i c z q ≡ goes_in k core i c d q
      other ne =
          let trying_same : is_trying (standing_of z (i.thread_of q)) ≡ is_trying (standing_of d (i.thread_of q)) =
          ⊎_elim
          (λ h. ap is_trying (dropped (i.thread_of q) (thread_ne q ne) h) ∙
          ⊎_elim (λ e. sym (ap is_trying e)) (λ e. sym (ap is_trying e)) (over_it.over_inside (i.thread_of q) h))
          (λ out. ap is_trying (same (i.thread_of q) (thread_ne q ne) out)) (contained (inside core (i.main_of s)) (i.thread_of q)) in
          ap (λ b. not (has_ended (standing_of c q)) || b) trying_same

  as_many : (rs : List ℕ) → still_going k core i c z rs ≡ still_going k core i c d rs
  as_many [] = refl
  as_many (q ∷ rs) = rw (goes_same q, as_many rs) refl

  flagged_z : (u : ℕ) → Flagged k core i c d u → Flagged k core i c z u
  flagged_z u f =
      record {
        strong = subst (λ vs. Stores k core i vs (i.flags_of u).strong 0) (sym values) f.strong;
        weak = subst (λ vs. Stores k core i vs (i.flags_of u).weak 0) (sym values) f.weak;
        counter =
            subst (λ vs. Stores k core i vs (i.flags_of u).counter (still_going k core i c z (state_at k u).regions)) (sym values)
            (subst (Stores k core i d.variables (i.flags_of u).counter) (sym (as_many (state_at k u).regions)) f.counter);
      }

  covered_z : (u : ℕ) → Covered k core i c d u → Covered k core i c z u
  covered_z u a = (a.0, opening_z a.0 a.1, a.2)

  watch_not_ended : (u : ℕ) (x y : Standing) → Watches k core i u x y → y ≢ at.Ended
  watch_not_ended u _ _ (watch_guards some among) e = absurd cc
  watch_not_ended u _ _ (looks_strong yet seen parted some among) e = absurd cc
  watch_not_ended u _ _ (waits some others among all) e = absurd cc
  watch_not_ended u _ _ (looks yet seen parted first some others among all) e = absurd cc
  watch_not_ended u x _ (elsewhere w a b) e = absurd cc

  watcher_same : (t : ℕ) → t ≢ g → standing_of d t ≢ at.Ended → standing_of z t ≡ standing_of d t
  watcher_same t ne not_ended =
      ⊎_elim (λ h. ⊎_elim (λ e. absurd (not_ended e)) (λ e. dropped t ne h ∙ sym e) (over_it.over_inside t h)) (λ out. same t ne out)
      (contained (inside core (i.main_of s)) t)

  -- ---- a fork that is still to be joined

  over_z : (u : ℕ) → IsJoining k core i c z u → Over k core i c d u → Over k core i c z u
  over_z u a before =
      record {
        free = before.free;
        chart_inside = before.chart_inside;
        ended_there = λ t h. stays_ended t h (before.ended_there t h);
        over_inside = λ t h.
            ⊎_elim (λ e. absurd (⊎_elim (λ is. let wrong : at.Within (i.main_of s) (joins o.join ∷ []) ≡ at.Ended = sym forked ∙
            (ap (standing_of d) (sym e) ∙ is) in absurd cc)
            (λ is. let wrong : at.Within (i.main_of s) (joins o.join ∷ []) ≡ at.Outside = sym forked ∙ (ap (standing_of d) (sym e) ∙ is) in absurd cc)
            (before.over_inside t h)))
            (λ ne. ⊎_elim (λ inner. inr (dropped t ne inner)) (λ out. ⊎_elim (λ is. inl (same t ne out ∙ is)) (λ is. inr (same t ne out ∙ is))
            (before.over_inside t h)) (contained (inside core (i.main_of s)) t)) (same_or_not t g);
      }
    where
      not_in : (t : ℕ) → Contains (state_at core (i.main_of u)).regions t → ¬ Contains (inside core (i.main_of s)) t
      not_in t h inner =
          let its = core_children (i.main_of u) t h in
          let round = subst (λ zs. Contains zs (i.main_of s)) its.1 (inside_around core (i.main_of s) t inner) in
          ⊎_elim
          (λ e. holder_not_g u a (ap (λ v. i.thread_of (holder k v)) (rows.main_once u s e) ∙ ap i.thread_of held))
          (λ tail.
          let outer : Contains (around core (i.thread_of (holder k u))) (i.main_of s) =
          subst (λ v. Contains (around core v) (i.main_of s)) (rows.held u) tail in
          let holds : IsThere k (holder k u) = there_in k core i rows tree counts written_at Told deeper c sound (holder k u)
          (λ e. let wrong : at.Within u a.tests ≡ at.Outside = sym a.open_in_chart ∙ e in absurd cc) in
          let out = dropped (i.thread_of (holder k u)) (holder_not_g u a)
          (inside_in core (i.main_of s) (i.thread_of (holder k u)) (rows.region (holder k u) holds).there outer) in
          let wrong : at.Within (i.main_of u) (joins a.join ∷ []) ≡ at.Outside = sym a.forked ∙ out in absurd cc)
          (head_or_tail (i.main_of u) (i.main_of s) (around core (holder core (i.main_of u))) round)

      stays_ended : (t : ℕ) → Contains (state_at core (i.main_of u)).regions t → standing_of d t ≡ at.Ended → standing_of z t ≡ at.Ended
      stays_ended t h is =
          same t (λ e. let wrong : at.Within (i.main_of s) (joins o.join ∷ []) ≡ at.Ended = sym forked ∙ (ap (standing_of d) (sym e) ∙ is) in absurd cc)
          (not_in t h) ∙ is

  -- who is outside stays there
  still_empty : (t : ℕ) → standing_of d t ≡ at.Outside → standing_of z t ≡ at.Outside
  still_empty t out =
      ⊎_elim
      (λ e.
      let wrong : at.Within (i.main_of s) (joins o.join ∷ []) ≡ at.Outside = sym forked ∙ (ap (standing_of d) (sym e) ∙ out) in
      absurd cc)
      (λ ne. ⊎_elim (λ inner. dropped t ne inner) (λ other. same t ne other ∙ out) (contained (inside core (i.main_of s)) t)) (same_or_not t g)

  still_pending : Pending k core i c r z
  still_pending =
      record {
        more = p.more;
        variables = values ∙ p.variables;
        flag_count = ap length values ∙ p.flag_count;
        core_regions = size ∙ p.core_regions;
        no_core = watcher_same 0 (λ e. let lt = (rows.region r there).there.0 in absurd (omega (lt, e, arith)))
            (λ e. let wrong : at.Outside ≡ at.Ended = sym p.no_core ∙ e in absurd cc) ∙ p.no_core;
        waits = λ q q_there.
            ⊎_elim (λ e. subst (Waits k core i c z) (sym e) (settled settled_now))
            (λ ne. ⊎_elim (λ h. waits_inside q q_there ne h) (λ out. waits_other q ne out (thread_same q ne out) (p.waits q q_there))
            (contained (around k q) s)) (same_or_not q r);
        done = λ q q_there lt.
            subst (Stands k core i c q (standing_of c q))
            (sym (thread_same q (λ e. absurd (omega (lt, e, arith))) (λ h. let up = deeper q s h in let its = held in absurd (omega (up, its, lt, arith)))))
            (p.done q q_there lt);
        watchers = λ u u_there has.
            let ne : i.watcher_of u ≢ g = λ e. (rows.watcher u u_there has).no_thread r (sym e) in
            ⊎_elim
            (λ w. inl (subst (Watches k core i u (standing_of c (holder k u)))
            (sym (watcher_same (i.watcher_of u) ne (watch_not_ended u (standing_of c (holder k u)) (standing_of d (i.watcher_of u)) w))) w))
            (λ hides. inr (
              watcher_same (i.watcher_of u) ne (λ e. let wrong : at.Outside ≡ at.Ended = sym hides.0 ∙ e in absurd cc) ∙
                  hides.0,
              covered_z u hides.1,
            )) (p.watchers u u_there has);
        unseen = λ u v u_there has inner guarded_by.
            let before : LooksFirst k core i u v (standing_of d (i.watcher_of u)) = p.unseen u v u_there has inner guarded_by in
            still_looks k core i u (standing_of d (i.watcher_of u)) (standing_of z (i.watcher_of u))
            (watcher_same (i.watcher_of u) (λ e. (rows.watcher u u_there has).no_thread r (sym e))
            (looks_not_ended k core i u (standing_of d (i.watcher_of u)) before)) before;
        flags = λ u u_there inside_u. ⊎_elim (λ f. inl (flagged_z u f)) (λ covered. inr (covered_z u covered)) (p.flags u u_there inside_u);
        late = λ u a. p.late u (opening_back u a);
        joinable = λ u a. over_z u a (p.joinable u (joining_back u a));
        ready = λ u a.
            let before = p.ready u (opening_back u a) in
            (before.0, (λ t h. still_empty t (before.1.0 t h), before.1.1));
      }

  pub joined_pending : Pending k core i c (suc r) z
  joined_pending = skips k core i rows tree counts written_at Told deeper c sound r z still_pending (λ _. settled_now)

  -- ---- which stages may be reached

  starting_back : (q u : ℕ) → IsStarting k core i c z q u → IsStarting k core i c d q u
  starting_back q u a =
      starting_kept k core i c z d q u a
      (back_keeps (i.thread_of q) _
      (λ e. let wrong : at.Within s o.tests ≡ at.Ended = sym in_chart ∙ (ap (standing_of c) (sym (rows.region_once q r e)) ∙ a.over_in_chart) in
      absurd cc) a.counting (λ e. absurd cc))

  busy_back : (q u : ℕ) → IsBusy k core i c z q u → IsBusy k core i c d q u
  busy_back q u (starts a) = starts (starting_back q u a)
  busy_back q u (opens its a) = opens its (opening_back u a)
  busy_back q u (joins_then its a) = joins_then its (joining_back u a)

  pub reached_then : (h n : ℕ) → Reached k core i c d h n → Reached k core i c z h n
  reached_then h n before =
      record {
        staged = record { regions = before.staged.regions; chart = before.staged.chart };
        busy = λ q u v q_there b around_it e. before.busy q u v q_there (busy_back q u b) around_it e;
      }
