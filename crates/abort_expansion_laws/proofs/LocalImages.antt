-- What stands for a state, from the rows that its own pieces have in the table of the core chart.
use Rattle.std.proofs.Common.{◌≡◌, ℕ, Bool, true, false, List, [], ◌∷◌, ◌++◌, map, length, refl, sym, subst, ◌∙◌}
use Rattle.core_charts.specs.declared.region.Transition.{Transition}
use Rattle.chart_machine.specs.declared.standing.Standing.TheVariants as at
use Rattle.chart_machine.specs.declared.table.Table.{Table}
use Rattle.chart_machine.specs.Table.{state_at}
use Rattle.chart_machine.specs.Steps.{to, state_in}
use Rattle.abort_expansion.specs.declared.flags.Flags.{Flags}
use Rattle.abort_expansion.specs.declared.places.RegionPlaces.{RegionPlaces}
use Rattle.abort_expansion.specs.Transitions.{go, led, led_by, strong_checks, answers}
use Rattle.abort_expansion.specs.Superstates.{simple_transitions, is_prepared, resets, closing}
use Rattle.core_charts.specs.Tests.{at_once, strong_aborts, weak_aborts, terminations}
use Rattle.chart_machine_laws.specs.Tree.{holder}
use Rattle.abort_expansion_laws.specs.CoreRows.{own, joins, simple_row, fork_row, Images, flags_around, watchers, prepared_transitions}
use Rattle.abort_expansion_laws.specs.CoreRows.{SimpleImage, FinalImage, StayingImage, SplitImage}

-- a preparation, and a continuation, by what stands around them
abbrev pub preparing : RegionPlaces → Flags → ℕ → List Transition → ℕ → List Transition
preparing places flags regions all fork =
    map (λ t. led_by places t.trigger t) (at_once (strong_aborts all)) ++ go true Rattle.std.proofs.Common.None (resets flags regions) fork ∷ []

abbrev pub continuing : List Flags → RegionPlaces → Flags → List Transition → List Transition
continuing around places flags all =
    strong_checks true places.left around ++ answers places flags.strong 1 (strong_aborts all) ++ answers places flags.weak 1 (weak_aborts all)
    ++ closing around flags places (terminations all)

module _ (k core : Table) (i : Images) (s : ℕ) where
  -- what is around a state, and its transitions
  pub record Located (thread : ℕ) (around : List Flags) (places : RegionPlaces) (all : List Transition) : Type 0 where
    pub thread_is : i.thread_of (holder k s) ≡ thread
    pub flags_are : flags_around k core i (holder k s) ≡ around
    pub places_are : i.places_of (holder k s) ≡ places
    pub own_is : own k s ≡ all

  module _ (thread : ℕ) (around : List Flags) (places : RegionPlaces) (all : List Transition) (here : Located thread around places all) where
    pub simple_image : (n : ℕ) → i.main_of s ≡ n → i.entry_of s ≡ n → state_at core n ≡ simple_row thread n (simple_transitions around places all) →
        SimpleImage k core i s
    simple_image n main entry row =
        record { row = rw (main, here.thread_is, here.flags_are, here.places_are, here.own_is) row; entry = entry ∙ sym main }

    pub final_image : (n : ℕ) → i.entry_of s ≡ n → (state_at core n).entered ≡ to thread at.Ended ∷ [] → FinalImage k core i s
    final_image n entry row = record { ended = rw (entry, here.thread_is) row }

    pub staying_image : (n : ℕ) → i.main_of s ≡ n → i.entry_of s ≡ n →
        state_at core n ≡ fork_row thread n (map i.thread_of (state_at k s).regions) (map (led places) all) (state_at core n).opened → StayingImage k core i s
    staying_image n main entry row = record { row = rw (main, here.thread_is, here.places_are, here.own_is) row; entry = entry ∙ sym main }

    -- the preparation, by where its last test leads
    prepare : (n m : ℕ) (flags : Flags) (regions fork : ℕ) → i.main_of s ≡ n → i.entry_of s ≡ m → i.flags_of s ≡ flags →
        length (state_at k s).regions ≡ regions → state_in core thread fork ≡ n →
        state_at core m ≡ simple_row thread m (preparing places flags regions all fork) →
        (to_fork : ℕ) × (state_in core (i.thread_of (holder k s)) to_fork ≡ i.main_of s)
        × (state_at core (i.entry_of s) ≡ simple_row (i.thread_of (holder k s)) (i.entry_of s) (prepared_transitions k core i (holder k s) s to_fork))
    prepare n m flags regions fork main entry flags_is size leads row =
        (fork, rw (main, here.thread_is) leads, rw (entry, here.thread_is, here.places_are, here.own_is, flags_is, size) row)

    pub split_image : (n m b join : ℕ) (flags : Flags) (regions : ℕ) → i.main_of s ≡ n → i.entry_of s ≡ m → i.behind_of s ≡ b → i.flags_of s ≡ flags →
        length (state_at k s).regions ≡ regions →
        state_at core n ≡ fork_row thread n (map i.thread_of (state_at k s).regions ++ watchers k core i s) (joins join ∷ []) (state_at core n).opened →
        state_in core thread join ≡ b → state_at core b ≡ simple_row thread b (continuing around places flags all) →
        (is_prepared around all ≡ true →
        (fork : ℕ) × (state_in core thread fork ≡ n) × (state_at core m ≡ simple_row thread m (preparing places flags regions all fork))) →
        (is_prepared around all ≡ false → m ≡ n) → SplitImage k core i s
    split_image n m b join flags regions main entry behind flags_is size row joined after prepared plain =
        record {
          join = join;
          row = rw (main, here.thread_is) row;
          joined = rw (behind, here.thread_is) joined;
          behind = rw (behind, here.thread_is, here.flags_are, here.places_are, here.own_is, flags_is) after;
          prepared = λ certain.
              let made = prepared (subst (λ z. is_prepared z all ≡ true) here.flags_are
              (subst (λ z. is_prepared (flags_around k core i (holder k s)) z ≡ true) here.own_is certain)) in
              prepare n m flags regions made.0 main entry flags_is size made.1 made.2;
          plain = λ e. entry ∙ (plain (subst (λ z. is_prepared z all ≡ false) here.flags_are
              (subst (λ z. is_prepared (flags_around k core i (holder k s)) z ≡ false) here.own_is e)) ∙ sym main);
        }
