-- How the tables of a chart and of its core chart correspond.
use Rattle.std.specs.Prelude.{◌≡◌, ℕ, ◌⊎◌, Bool, ◌∷◌, map, Contains}
use Rattle.sc_values.specs.declared.operator.Combination.TheVariants as combine
use Rattle.chart_machine.specs.declared.table.Table.{Table}
use Rattle.chart_machine.specs.Turns.{ForkedApart}
use Rattle.abort_expansion_laws.specs.Stages.{Correspondence}
use Rattle.chart_machine_laws.specs.Tree.{LiesUnder, around, holder, IsThere}

-- what the expansion gives: the thread of each region; the fork of each superstate, and its watcher, where it has aborts
pub record Expanded (chart core : Table) : Type 1 where
  pub thread_of : ℕ → ℕ
  pub fork_of : ℕ → ℕ
  pub watcher_of : ℕ → ℕ
  pub Owns : ℕ → Type 0
  pub root : thread_of 0 ≡ 0
  pub one_region : (r q : ℕ) → thread_of r ≡ thread_of q → r ≡ q
  pub one_fork : (s o : ℕ) → fork_of s ≡ fork_of o → s ≡ o
  pub there_back : (r : ℕ) → IsThere core (thread_of r) → IsThere chart r
  pub around_of : (r : ℕ) → around core (thread_of r) ≡ map fork_of (around chart r)
  pub held : (s : ℕ) → holder core (fork_of s) ≡ thread_of (holder chart s)
  pub around_watcher : (o : ℕ) → Owns o → around core (watcher_of o) ≡ fork_of o ∷ around core (thread_of (holder chart o))
  -- of a flag: its superstate. Of another variable a number without a superstate
  pub of_flag : ℕ → ℕ
  -- a superstate that has a counter, but no aborts, has no watcher; one of its regions stands for it
  pub watcher_around : (x : ℕ) →
      (around core (watcher_of (of_flag x)) ≡ fork_of (of_flag x) ∷ around core (holder core (fork_of (of_flag x))))
      ⊎ ((watcher_of (of_flag x) ≡ holder core (fork_of (of_flag x))) × ((t : ℕ) → ¬ Contains (around core t) (fork_of (of_flag x))))

-- thread t lies in the superstate
abbrev pub LiesInState : Table → ℕ → ℕ → Type 0
LiesInState k s t = Contains (around k t) s

module _ (chart core : Table) (e : Expanded chart core) where
  abbrev pub pair_of : ℕ → (ℕ → Bool) → (ℕ → ℕ) → Correspondence
  pair_of declared counts written_at =
      record {
        ChartApart = ForkedApart chart;
        CoreApart = ForkedApart core;
        thread_of = e.thread_of;
        Inside = LiesUnder chart;
        Watches = λ g r. (o : ℕ) × e.Owns o × (g ≡ e.watcher_of o) × (holder chart o ≡ r);
        declared = declared;
        home = λ x. holder core (e.fork_of (e.of_flag x));
        watcher = λ x. e.watcher_of (e.of_flag x);
        counts = counts;
        written_at = written_at;
        Within = λ t x. LiesInState core (e.fork_of (e.of_flag x)) t;
        counting = combine.Add;
      }
