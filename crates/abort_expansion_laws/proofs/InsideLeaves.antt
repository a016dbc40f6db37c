-- What is inside of a superstate whose flag was raised can leave, where each thread of its regions and the monitors inside can.
use Rattle.std.proofs.Common.{◌≡◌, ◌≢◌, ℕ, zero, suc, ◌⊎◌, inl, inr, ⊎_elim, Bool, true, false, ◌||◌, Option, Some, None, List, [], ◌∷◌, ◌++◌, map}
use Rattle.std.proofs.Common.{length, Contains, refl, sym, ap, subst, ◌∙◌, arith}
use Rattle.std.proofs.lemmas.Bool.{or_parts}
use Rattle.core_charts.specs.Tests.{at_once}
use Rattle.core_charts.specs.Aborts.{has_strong, has_aborts}
use Rattle.chart_machine.specs.declared.standing.Standing.{Standing}
use Rattle.chart_machine.specs.declared.standing.Standing.TheVariants as at
use Rattle.chart_machine.specs.declared.standing.Configuration.{Configuration}
use Rattle.chart_machine.specs.declared.table.Table.{Table}
use Rattle.chart_machine.specs.Table.{state_at}
use Rattle.chart_machine.specs.Turns.{standing_of, inside}
use Rattle.chart_machine.specs.Steps.{to, state_in}
use Rattle.chart_machine.proofs.Outside.{within_or_past}
use Rattle.abort_expansion.specs.declared.flags.Flags.{Flags}
use Rattle.abort_expansion.specs.Flags.{aborts_around, is_there}
use Rattle.abort_expansion.specs.Transitions.{check, strong_checks}
use Rattle.abort_expansion.specs.Superstates.{stays}
use Rattle.compiled_charts_laws.proofs.Stands.{heads}
use Rattle.abort_expansion_laws.specs.Stages.{Correspondence}
use Rattle.chart_machine_laws.proofs.LyingIn.{IsNested, around, holder, none_in, head_or_tail}
use Rattle.abort_expansion_laws.proofs.StageReached.{holds_other}
use Rattle.abort_expansion_laws.proofs.TablesCorrespond.{IsThere}
use Rattle.chart_machine_laws.proofs.ChartTables.{nothing_around}
use Rattle.abort_expansion_laws.proofs.KnownVariables.{present_there, in_either}
use Rattle.abort_expansion_laws.specs.CoreRows.{own, IsState, IsSimple, IsSuper, joins, Images, CoreRows, SplitImage, flags_around, watchers}
use Rattle.abort_expansion_laws.specs.CoreRows.{behind_transitions}
use Rattle.abort_expansion_laws.specs.Related.{is_behind, Stands}
use Rattle.abort_expansion_laws.specs.Related.{outside, ended, left, trying, acting, entering}
use Rattle.abort_expansion_laws.specs.Related.{guarding, staying, within, behind, IsInside, guarded, open_inside}
use Rattle.abort_expansion_laws.specs.Related.{Related, Watches, waits, looks_strong, looks, elsewhere}
use Rattle.abort_expansion_laws.specs.Related.{guards as watch_guards}
use Rattle.abort_expansion_laws.proofs.MayLeave.{LeavesBy, MayLeave, over, forks}
use Rattle.abort_expansion_laws.proofs.OneMonitor.{one_monitor}
use Rattle.abort_expansion_laws.proofs.ThreadsAround.{region_within}
use Rattle.abort_expansion_laws.proofs.NumberedRegions.{super_is_state}
use Rattle.tick_laws.proofs.Lists.{contains_map}

-- ---- what more is asked of the rows

pub record AloneRows (k core : Table) (i : Images) : Type 0 where
  pub no_strong : (s : ℕ) → has_strong (own k s) ≡ false → (i.flags_of s).strong ≡ None
  -- nothing is inside of what is no fork
  pub simple_alone : (s : ℕ) → IsSimple k s → inside core (i.main_of s) ≡ []
  pub behind_alone : (s : ℕ) → inside core (i.behind_of s) ≡ []
  pub watching_alone : (s : ℕ) → IsState k s → has_aborts (own k s) ≡ true → inside core (i.watching_of s) ≡ []

pub true_or_false : (b : Bool) → (b ≡ true) ⊎ (b ≡ false)
true_or_false true = inl refl
true_or_false false = inr refl

none_there : (b : Bool) (place : ℕ) (o : Option ℕ) → is_there o ≡ false → check b place o ≡ []
none_there b place None e = refl
none_there b place (Some x) e = absurd cc

pub no_checks : (b : Bool) (place : ℕ) (fs : List Flags) → aborts_around fs ≡ false → strong_checks b place fs ≡ []
no_checks b place [] e = refl
no_checks b place (f ∷ fs) e =
    let both = or_parts (is_there f.strong || is_there f.weak) (aborts_around fs) e in
    let two = or_parts (is_there f.strong) (is_there f.weak) both.0 in
    let own : check b place f.strong ≡ [] = none_there b place f.strong two.0 in
    let rest : strong_checks b place fs ≡ [] = no_checks b place fs both.1 in rw (own, rest) refl

module _ (k core : Table) (i : Images) (c : Configuration) where
  pub there_too : (r : ℕ) (z y : Standing) → Stands k core i c r z y → z ≢ at.Outside →
      ((s : ℕ) (ss : List ℕ) → around k r ≡ s ∷ ss → is_behind k core i c s ≡ false) → y ≢ at.Outside
  there_too r _ _ outside present open_around e = present refl
  there_too r _ _ (ended inner) present open_around e = absurd cc
  there_too r _ _ (left s ss round over_it) present open_around e = let wrong : true ≡ false = sym over_it ∙ open_around s ss round in absurd cc
  there_too r _ _ (trying s tests simple held) present open_around e = absurd cc
  there_too r _ _ (acting s u p g effects lt) present open_around e = absurd cc
  there_too r _ _ (entering s fork t tests super held leads) present open_around e = absurd cc
  there_too r _ _ (guarding s join t tests has_some held leads) present open_around e = absurd cc
  there_too r _ _ (staying s tests super held stay) present open_around e = absurd cc
  there_too r _ _ (within s join tests super held stay open_still leads) present open_around e = absurd cc
  there_too r _ _ (behind s tests super held over_it) present open_around e = absurd cc

-- ---- each thread inside, whatever it sees

-- the monitor of a superstate that is guarded, or open, is there
monitor_there : (k core : Table) (i : Images) (o : ℕ) (x y : Standing) → Watches k core i o x y → IsInside k core i o x → y ≢ at.Outside
monitor_there k core i o _ _ (watch_guards some among) inner away = absurd cc
monitor_there k core i o _ _ (looks_strong yet seen parted some among) inner away = absurd cc
monitor_there k core i o _ _ (waits some ends among only) inner away = absurd cc
monitor_there k core i o _ _ (looks yet seen parted first some ends among only) inner away = absurd cc
monitor_there k core i o _ _ (elsewhere z a b) (guarded tests) away = a tests refl
monitor_there k core i o _ _ (elsewhere z a b) (open_inside tests) away = b tests refl

module _ (k core : Table) (i : Images) (rows : CoreRows k core i) (more : AloneRows k core i) (tree : IsNested k)
    (core_children : (s r : ℕ) → Contains (state_at core s).regions r → around core r ≡ s ∷ around core (holder core s))
    (children : (s r : ℕ) → Contains (state_at k s).regions r → around k r ≡ s ∷ around k (holder k s))
    (o : ℕ) (has : has_aborts (own k o) ≡ true) (c d : Configuration) (related : Related k core i c d)
    (corr : Correspondence) (home stage : ℕ) (first : Configuration)
    (same : (g : ℕ) → g ≢ i.watcher_of o → standing_of first g ≡ standing_of d g) (o_there : IsState k o) where
  same_first : (q : ℕ) → standing_of first (i.thread_of q) ≡ standing_of d (i.thread_of q)
  same_first q = same (i.thread_of q) ((rows.watcher o o_there has).no_thread q)

  -- a monitor inside is another one
  other_monitor : (s : ℕ) → IsState k s → has_aborts (own k s) ≡ true → Contains (around k (holder k s)) o → i.watcher_of s ≢ i.watcher_of o
  other_monitor s s_there has_some in_o e =
      let is : s ≡ o = one_monitor k core i rows s o s_there has_some o_there has e in
      holds_other k tree (holder k o) o (subst (λ v. Contains (around k (holder k v)) o) is in_o) refl

  pub same_monitor : (s : ℕ) → IsState k s → has_aborts (own k s) ≡ true → Contains (around k (holder k s)) o →
      standing_of first (i.watcher_of s) ≡ standing_of d (i.watcher_of s)
  same_monitor s s_there has_some in_o = same (i.watcher_of s) (other_monitor s s_there has_some in_o)

  -- a superstate inside: its fork ends, and its continuation leaves
  pub fork_leaves : (q s join : ℕ) → Contains (around k q) o → IsInside k core i s (standing_of c q) → IsSuper k s → holder k s ≡ q →
      stays (flags_around k core i q) (own k s) ≡ false → is_behind k core i c s ≡ false →
      state_in core (i.thread_of q) join ≡ i.behind_of s →
      LeavesBy core corr home stage (i.main_of o) first (i.thread_of q) (at_once (behind_transitions k core i q s)) →
      MayLeave core corr home stage (i.main_of o) first (i.thread_of q) (at.Within (i.main_of s) (joins join ∷ []))
  fork_leaves q s join in_o inner super held not_staying open_still leads leaves_by =
      forks (i.main_of s) join (i.behind_of s) (at_once (behind_transitions k core i q s)) fork_held enters (more.behind_alone s) leaves_by direct
    where
      split : SplitImage k core i s
      split = rows.split s (super_is_state k s super) super (subst (λ p. stays (flags_around k core i p) (own k s) ≡ false) (sym held) not_staying)

      fork_held : holder core (i.main_of s) ≡ i.thread_of q
      fork_held = rows.held s ∙ ap i.thread_of held

      enters : (state_at core (state_in core (i.thread_of q) join)).entered ≡ to (i.thread_of q)
          (at.Trying (i.behind_of s) (at_once (behind_transitions k core i q s))) ∷ []
      enters =
          ap (λ n. (state_at core n).entered) leads
          ∙ (ap (λ z. z.entered) split.behind
          ∙ ap (λ p. to (i.thread_of p) (at.Trying (i.behind_of s) (at_once (behind_transitions k core i p s))) ∷ []) held)

      regions_are : (state_at core (i.main_of s)).regions ≡ map i.thread_of (state_at k s).regions ++ watchers k core i s
      regions_are = ap (λ z. z.regions) split.row

      inside_s : IsInside k core i s (standing_of c (holder k s))
      inside_s = subst (λ p. IsInside k core i s (standing_of c p)) (sym held) inner

      present : (r : ℕ) → Contains (state_at k s).regions r → standing_of first (i.thread_of r) ≢ at.Outside
      present r child e =
          let was : standing_of c r ≢ at.Outside = related.opened s r (super_is_state k s super) inside_s child in
          there_too k core i c r (standing_of c r) (standing_of d (i.thread_of r)) (related.regions r (present_there k core i c d related r was)) was
          (λ u us round. subst (λ v. is_behind k core i c v ≡ false) (heads s u (around k (holder k s)) us (sym (children s r child) ∙ round)) open_still)
          (sym (same_first r) ∙ e)

      in_s : Contains (around k (holder k s)) o
      in_s = subst (λ p. Contains (around k p) o) (sym held) in_o

      monitor_present : (t : ℕ) → Contains (watchers k core i s) t → standing_of first t ≢ at.Outside
      monitor_present t h = by_aborts (has_aborts (own k s)) refl
        where
          by_aborts : (b : Bool) → has_aborts (own k s) ≡ b → standing_of first t ≢ at.Outside
          by_aborts false none e = let no_monitor : watchers k core i s ≡ [] = rw (none) refl in none_in t (subst (λ zs. Contains zs t) no_monitor h)
          by_aborts true some e =
              let its_own : watchers k core i s ≡ i.watcher_of s ∷ [] = rw (some) refl in
              let one : i.watcher_of s ≡ t =
              ⊎_elim (λ is. is) (λ rest. absurd (none_in t rest))
              (head_or_tail (i.watcher_of s) t [] (subst (λ zs. Contains zs t) its_own h)) in
              monitor_there k core i s (standing_of c (holder k s)) (standing_of d (i.watcher_of s))
              (related.watchers s (super_is_state k s super) some) inside_s
              (sym (same_monitor s (super_is_state k s super) some in_s) ∙ (ap (standing_of first) one ∙ e))

      direct : (t : ℕ) → Contains (state_at core (i.main_of s)).regions t →
          (around core t ≡ i.main_of s ∷ around core (i.thread_of q)) × (standing_of first t ≢ at.Outside)
      direct t h = (
        core_children (i.main_of s) t h ∙ ap (λ p. i.main_of s ∷ around core p) fork_held,
        ⊎_elim
            (λ m. let r = contains_map i.thread_of (state_at k s).regions t m in subst (λ v. standing_of first v ≢ at.Outside) r.2 (present r.0 r.1))
            (monitor_present t)
            (in_either (map i.thread_of (state_at k s).regions) (watchers k core i s) t (subst (λ zs. Contains zs t) regions_are h)),
      )

  from_core : (q : ℕ) → Contains (around core (i.thread_of q)) (i.main_of o) → Contains (around k q) o
  from_core q h =
      region_within k core i rows q o h

  core_there : (t : ℕ) → Contains (around core t) (i.main_of o) → IsThere core t
  core_there zero h = absurd (none_in (i.main_of o) h)
  core_there (suc j) h =
      ⊎_elim (λ lt. (omega arith, omega (lt, arith))) (λ past. absurd
      (none_in (i.main_of o) (subst (λ zs. Contains zs (i.main_of o)) (nothing_around core j past) h))) (within_or_past j (length core.regions))

  -- each thread of the fork can leave where those of its regions and the monitors inside can, and its own monitor has ended
  pub all_may_leave : ((u : ℕ) → IsState k u → has_aborts (own k u) ≡ true → Contains (around k (holder k u)) o →
      MayLeave core corr home stage (i.main_of o) first (i.watcher_of u) (standing_of d (i.watcher_of u))) →
      ((q : ℕ) → IsThere k q → Contains (around k q) o →
      MayLeave core corr home stage (i.main_of o) first (i.thread_of q) (standing_of d (i.thread_of q))) →
      standing_of first (i.watcher_of o) ≡ at.Ended → (t : ℕ) → Contains (around core t) (i.main_of o) →
      MayLeave core corr home stage (i.main_of o) first t (standing_of first t)
  all_may_leave each_monitor each monitor_over t h = by_sort (rows.each t (core_there t h))
    where
      by_region : (q : ℕ) → IsThere k q → t ≡ i.thread_of q → MayLeave core corr home stage (i.main_of o) first t (standing_of first t)
      by_region q there e =
          let in_o : Contains (around k q) o = from_core q (subst (λ v. Contains (around core v) (i.main_of o)) e h) in
          subst (λ v. MayLeave core corr home stage (i.main_of o) first v (standing_of first v)) (sym e)
          (subst (MayLeave core corr home stage (i.main_of o) first (i.thread_of q)) (sym (same_first q)) (each q there in_o))

      by_monitor : (u : ℕ) → IsState k u → has_aborts (own k u) ≡ true → t ≡ i.watcher_of u → MayLeave core corr home stage (i.main_of o) first t
          (standing_of first t)
      by_monitor u there has_some e =
          ⊎_elim
          (λ same. subst (λ v. MayLeave core corr home stage (i.main_of o) first v (standing_of first v)) (sym (e ∙ ap i.watcher_of (rows.main_once u o same)))
          (subst (MayLeave core corr home stage (i.main_of o) first (i.watcher_of o)) (sym monitor_over) over))
          (λ tail.
          let in_o : Contains (around k (holder k u)) o = from_core (holder k u) tail in
          subst (λ v. MayLeave core corr home stage (i.main_of o) first v (standing_of first v)) (sym e)
          (subst (MayLeave core corr home stage (i.main_of o) first (i.watcher_of u)) (sym (same_monitor u there has_some in_o))
          (each_monitor u there has_some in_o)))
          (head_or_tail (i.main_of u) (i.main_of o) (around core (i.thread_of (holder k u)))
          (subst (λ zs. Contains zs (i.main_of o)) ((rows.watcher u there has_some).encloses) (subst (λ v. Contains (around core v) (i.main_of o)) e h)))

      by_sort : ((r : ℕ) × IsThere k r × (t ≡ i.thread_of r)) ⊎ ((s : ℕ) × IsState k s × (has_aborts (own k s) ≡ true) × (t ≡ i.watcher_of s)) →
          MayLeave core corr home stage (i.main_of o) first t (standing_of first t)
      by_sort (inl r) = by_region r.0 r.1 r.2
      by_sort (inr s) = by_monitor s.0 s.1 s.2 s.3
