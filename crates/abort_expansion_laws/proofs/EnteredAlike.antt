-- The moves that enter regions, and those that enter their threads: of each region those of its initial state, of its thread
-- those of what stands for that state, or of a state that counts down in front of it.
use Rattle.std.proofs.Common.{◌≡◌, ℕ, true, false, Some, None, List, [], ◌∷◌, ◌++◌, slice_get, sym, ap, subst, ◌∙◌, if◌then◌else◌}
use Rattle.std.proofs.lemmas.List.{append_assoc, append-nil}
use Rattle.core_charts.specs.Aborts.{has_aborts}
use Rattle.core_charts.specs.Tests.{at_once}
use Rattle.chart_machine.specs.declared.standing.Standing.TheVariants as at
use Rattle.chart_machine.specs.declared.standing.Move.{Move}
use Rattle.chart_machine.specs.declared.table.Table.{Table}
use Rattle.chart_machine.specs.Table.{state_at, region_at}
use Rattle.chart_machine.specs.Steps.{to, state_in}
use Rattle.abort_expansion.specs.Transitions.{go, count_down}
use Rattle.abort_expansion.specs.Superstates.{monitor_transitions}
use Rattle.chart_machine_laws.specs.Tree.{around, holder}
use Rattle.abort_expansion_laws.specs.CoreRows.{own, is_final, simple_row, Images, flags_around, counter_over}

module _ (k core : Table) (i : Images) where
  -- region r begins in state x, and its thread in core state y
  pub data BeginsAs (r x y : ℕ) : Type 0 where
    begins_there : (place : ℕ) → slice_get (region_at core (i.thread_of r)).states place ≡ Some y → y ≡ i.entry_of x →
        (is_final k x ≡ true → counter_over k core i (around k r) ≡ None) → BeginsAs r x y
    -- the region ends where it is entered, which is counted
    begins_counting : (place counter : ℕ) → is_final k x ≡ true → counter_over k core i (around k r) ≡ Some counter →
        state_at core y ≡ simple_row (i.thread_of r) y (go true None (count_down counter ∷ []) place ∷ []) →
        state_in core (i.thread_of r) place ≡ i.entry_of x → BeginsAs r x y

  -- these moves enter the region first, and those of the core its thread
  pub record OneEntered (r : ℕ) (moves core_moves later core_later : List Move) : Type 0 where
    pub first : ℕ
    pub core_first : ℕ
    pub held : holder k first ≡ r
    pub begins : BeginsAs r first core_first
    pub chart : moves ≡ (state_at k first).entered ++ later
    pub in_core : core_moves ≡ (state_at core core_first).entered ++ core_later

  abbrev pub AreEntered : List ℕ → List Move → List Move → Type 0
  AreEntered [] moves core_moves = (moves ≡ []) × (core_moves ≡ [])
  AreEntered (r ∷ rs) moves core_moves =
      (later : List Move) × ((core_later : List Move) × (OneEntered r moves core_moves later core_later × AreEntered rs later core_later))

  pub entered_both : (rs qs : List ℕ) (ms os ns ps : List Move) → AreEntered rs ms os → AreEntered qs ns ps → AreEntered (rs ++ qs) (ms ++ ns) (os ++ ps)
  entered_both [] qs ms os ns ps h more =
      subst (λ zs. AreEntered qs (zs ++ ns) (os ++ ps)) (sym h.0) (subst (λ zs. AreEntered qs ns (zs ++ ps)) (sym h.1) more)
  entered_both (r ∷ rs) qs ms os ns ps h more =
      let one = h.1.1.0 in (
        h.0 ++ ns,
        (
          h.1.0 ++ ps,
          (
            record {
              first = one.first;
              core_first = one.core_first;
              held = one.held;
              begins = one.begins;
              chart = ap (λ zs. zs ++ ns) one.chart ∙ append_assoc (state_at k one.first).entered h.0 ns;
              in_core = ap (λ zs. zs ++ ps) one.in_core ∙ append_assoc (state_at core one.core_first).entered h.1.0 ps;
            },
            entered_both rs qs h.0 h.1.0 ns ps h.1.1.1 more,
          ),
        ),
      )

  -- the monitor of a superstate with aborts is entered behind its regions
  abbrev pub watcher_enters : ℕ → List Move
  watcher_enters s =
      if has_aborts (own k s) then to (i.watcher_of s) (at.Trying (i.watching_of s)
      (at_once (monitor_transitions (flags_around k core i (holder k s)) (i.flags_of s) (own k s)))) ∷ [] else []

  pub unwatched : (s : ℕ) (moves : List Move) → has_aborts (own k s) ≡ false → moves ≡ moves ++ watcher_enters s
  unwatched s moves none = rw (none) (sym (append-nil moves))

  -- what opening a superstate enters, and what its fork enters
  pub record OpensAlike (s : ℕ) : Type 0 where
    pub inner : List Move
    pub regions : AreEntered (state_at k s).regions (state_at k s).opened inner
    pub fork : (state_at core (i.main_of s)).opened ≡ inner ++ watcher_enters s
