-- Whatever else lies in a superstate is apart from its monitor, and the region that holds the superstate forks them apart.
use Rattle.std.proofs.Common.{◌≡◌, ◌≢◌, ℕ, true, List, [], ◌∷◌, Contains, refl, sym, ap, subst, ◌∙◌, ⊎_elim}
use Rattle.chart_machine.specs.declared.table.Table.{Table}
use Rattle.chart_machine.specs.Turns.{LiesIn, itself, deeper, ForkedApart, holder_of}
use Rattle.chart_machine_laws.proofs.LyingIn.{IsNested, around, holder, none_in, head_or_tail, head_in, inwards}
use Rattle.chart_machine_laws.proofs.ChartTables.{around_there}
use Rattle.chart_machine_laws.specs.Tree.{IsThere}
use Rattle.core_charts.specs.Aborts.{has_aborts}
use Rattle.abort_expansion_laws.specs.CoreRows.{IsState, own, Images, CoreRows}
use Rattle.tick_laws.proofs.Lists.{contains_map}

module _ (k : Table) (tree : IsNested k) where
  -- the region of a superstate in which another one lies
  pub record ChildUnder (t f : ℕ) : Type 0 where
    pub child : ℕ
    pub lies : LiesIn k t child
    pub around_child : around k child ≡ f ∷ around k (holder k f)

  pub child_under : (ss : List ℕ) (t f : ℕ) → around k t ≡ ss → Contains ss f → ChildUnder t f
  child_under [] t f e h = absurd (none_in f h)
  child_under (s ∷ ss) t f e h =
      ⊎_elim
      (λ same. record {
        child = t;
        lies = itself refl;
        around_child = subst (λ z. around k t ≡ z ∷ around k (holder k z)) same (e ∙ ap (λ zs. s ∷ zs) (tree.upward t s ss e));
      })
      (λ tail.
      let up : ChildUnder (holder k s) f = child_under ss (holder k s) f (sym (tree.upward t s ss e)) tail in
      record { child = up.child; lies = inwards k tree t up.child s ss e up.lies; around_child = up.around_child }) (head_or_tail s f ss h)

-- a thread of the fork of superstate o that does not lie in its monitor g
module _ (k core : Table) (i : Images) (rows : CoreRows k core i) (tree : IsNested core) (o g : ℕ)
    (around_monitor : around core g ≡ i.main_of o ∷ around core (i.thread_of (holder k o)))
    (t : ℕ) (in_o : Contains (around core t) (i.main_of o)) (not_in_monitor : LiesIn core t g → ⊥) where
  thread_in : ChildUnder core tree t (i.main_of o)
  thread_in = child_under core tree (around core t) t (i.main_of o) refl in_o

  thread_around : around core thread_in.child ≡ i.main_of o ∷ around core (i.thread_of (holder k o))
  thread_around = thread_in.around_child ∙ ap (λ z. i.main_of o ∷ around core z) (rows.held o)

  not_itself : thread_in.child ≢ g
  not_itself e = not_in_monitor (subst (LiesIn core t) e thread_in.lies)

  is_there : (v : ℕ) → around core v ≡ i.main_of o ∷ around core (i.thread_of (holder k o)) → IsThere core v
  is_there v round =
      around_there core v (i.main_of o)
      (subst (λ zs. Contains zs (i.main_of o)) (sym round) (head_in (i.main_of o) (around core (i.thread_of (holder k o)))))

  pub apart_from_monitor : ForkedApart core t g (i.thread_of (holder k o))
  apart_from_monitor =
      record {
        left = thread_in.child;
        right = g;
        beside =
            record {
              differ = not_itself;
              first = (is_there thread_in.child thread_around).0;
              second = (is_there g around_monitor).0;
              first_there = (is_there thread_in.child thread_around).1;
              second_there = (is_there g around_monitor).1;
              around = thread_around ∙ sym around_monitor;
            };
        r_in = thread_in.lies;
        u_in = itself refl;
        held = ap (holder_of core) thread_around ∙ rows.held o;
      }

module _ (k core : Table) (i : Images) (rows : CoreRows k core i) (tree : IsNested core) (o g : ℕ)
    (around_monitor : around core g ≡ i.main_of o ∷ around core (i.thread_of (holder k o))) (no_thread : (u : ℕ) → i.thread_of u ≢ g) where
  -- nothing lies in a monitor
  held_by_threads : (q v : ℕ) → Contains (around core (i.thread_of q)) v → holder core v ≢ g
  held_by_threads q v h e =
      let w = contains_map i.main_of (around k q) v (subst (λ zs. Contains zs v) (rows.encloses q) h) in
      no_thread (holder k w.0) (sym (rows.held w.0) ∙ (ap (holder core) w.2 ∙ e))

  thread_not_in : (u : ℕ) → LiesIn core (i.thread_of u) g → ⊥
  thread_not_in u (itself same) = no_thread u same
  thread_not_in u (deeper v around_v held_v) = held_by_threads u v around_v held_v

  monitor_not_in : (s : ℕ) → IsState k s → has_aborts (own k s) ≡ true → i.watcher_of s ≢ g → LiesIn core (i.watcher_of s) g → ⊥
  monitor_not_in s there has differ (itself same) = differ same
  monitor_not_in s there has differ (deeper v around_v held_v) =
      ⊎_elim (λ same. no_thread (holder k s) (sym (rows.held s) ∙ (ap (holder core) same ∙ held_v)))
      (λ tail. held_by_threads (holder k s) v tail held_v)
      (head_or_tail (i.main_of s) v (around core (i.thread_of (holder k s))) (subst (λ zs. Contains zs v) (rows.watcher s there has).encloses around_v))

  -- in which region of the fork a region lies, and that this is not the monitor
  pub region_in : (u : ℕ) → Contains (around core (i.thread_of u)) (i.main_of o) → ChildUnder core tree (i.thread_of u) (i.main_of o)
  region_in u in_o = thread_in k core i rows tree o g around_monitor (i.thread_of u) in_o (thread_not_in u)

  pub differs : (u : ℕ) (in_o : Contains (around core (i.thread_of u)) (i.main_of o)) → (region_in u in_o).child ≢ g
  unfolding region_in
  differs u in_o = not_itself k core i rows tree o g around_monitor (i.thread_of u) in_o (thread_not_in u)

  pub monitor_apart : (u : ℕ) → Contains (around core (i.thread_of u)) (i.main_of o) → ForkedApart core (i.thread_of u) g (i.thread_of (holder k o))
  monitor_apart u in_o = apart_from_monitor k core i rows tree o g around_monitor (i.thread_of u) in_o (thread_not_in u)

  -- the monitor of a superstate inside is concurrent with it too
  pub monitors_apart : (s : ℕ) → IsState k s → has_aborts (own k s) ≡ true → i.watcher_of s ≢ g → Contains (around core (i.watcher_of s)) (i.main_of o) →
      ForkedApart core (i.watcher_of s) g (i.thread_of (holder k o))
  monitors_apart s there has differ in_o =
      apart_from_monitor k core i rows tree o g around_monitor (i.watcher_of s) in_o (monitor_not_in s there has differ)
