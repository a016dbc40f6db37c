-- What goes on by the least end bits goes on within one tick; where tables fall along edges, no walk closes.
use Rattle.std.proofs.Common.{ℕ, ◌≡◌, ◌<◌, true, Result, Ok, Err, List, [], ◌∷◌, length, map, refl, sym, ◌∙◌}
use Rattle.std.specs.Prelude.{slice_index, nat_lt, ◌↔◌, IfOk}
use Rattle.sc_graph.specs.declared.program.Step.TheVariants as step
use Rattle.sc_graph.specs.declared.tables.Tables.{Tables}
use Rattle.sc_graph.specs.Program.{Program}
use Rattle.sc_graph.specs.Tables.{end_bit}
use Rattle.sc_graph.proofs.Nodes.{step_within}
use Rattle.least_or_cycle.specs.Least.{IsLeast}
use Rattle.least_or_cycle.specs.Walks.{Walk, Closes, Falls}
use Rattle.least_or_cycle.proofs.Closing.{no_cycle}
use Rattle.priority_weights.specs.declared.falling.Falling.{Falling}
use Rattle.priority_weights.specs.declared.falling.Falling.TheVariants as falling
use Rattle.priority_weights.specs.Edges.{MayAllEnd, GoesOn, to_successor, over_fork, InTick, InOrder, IsInstantLoop, IsOrderCycle}
use Rattle.priority_weights.specs.Inside.Entries.{bits, entry_bits, BitKept}
use Rattle.priority_weights.specs.Inside.Falling.{IsFalling}
use Rattle.priority_weights.specs.Inside.Next.{GoesOnBy, LeadsOn, successor, over}
use Rattle.priority_weights.proofs.Asking.{least_alike}
use Rattle.priority_weights.proofs.Assembly.{order_within}
use Rattle.priority_weights.proofs.Bits.{entries_more}
use Rattle.priority_weights.proofs.Bridging.{bits_below, bits_kept, end_bit_is, entry_bits_are}

may_all : (p : Program) (ends : List ℕ) → IsLeast (BitKept p) (length p.nodes) ends → (ks : List ℕ) → entry_bits p (bits (slice_index ends)) ks ≡ true
    → MayAllEnd p ks
may_all p ends l ks e = record {
  said = λ q h. sym (entry_bits_are p q ks) ∙ entries_more p (bits (slice_index ends)) (end_bit q)
      (bits_below p ends l q h) ks e;
}

all_may : (p : Program) (ends : List ℕ) → IsLeast (BitKept p) (length p.nodes) ends → (ks : List ℕ) → MayAllEnd p ks → entry_bits p (bits (slice_index ends)) ks
    ≡ true
all_may p ends l ks may =
    let q : Tables = record { priorities = []; weights = []; end_bits = map (nat_lt 0) ends; bounds = []; budget = 0 } in
    let e = may.said q (bits_kept p ends l q (end_bit_is q ends refl)) in
    entries_more p (end_bit q) (bits (slice_index ends)) (λ n x. sym (end_bit_is q ends refl n) ∙ x) ks (entry_bits_are p q ks ∙ e)

pub on_is : (p : Program) (ends : List ℕ) → IsLeast (BitKept p) (length p.nodes) ends → (m n w : ℕ) → LeadsOn p (slice_index ends) m n w ↔ InTick p m n w
on_is p ends l m n w = (λ h. (there h.0, h.1), λ h. (back h.0, h.1))
  where
    there : GoesOnBy p (slice_index ends) m n → GoesOn p m n
    there (successor s at c) = to_successor s at c
    there (over ks at e) = over_fork ks at (may_all p ends l ks e)

    back : GoesOn p m n → GoesOnBy p (slice_index ends) m n
    back (to_successor s at c) = successor s at c
    back (over_fork ks at may) = over ks at (all_may p ends l ks may)

walk_map : (leads others : ℕ → ℕ → ℕ → Type 0) → ((m n w : ℕ) → leads m n w → others m n w) → (m : ℕ) (way : List ℕ) (n w : ℕ) → Walk leads m way n w
    → Walk others m way n w
walk_map leads others f m [] n w a = f m n w a
walk_map leads others f m (k ∷ way) n w a = (a.0, a.1, f m k a.0 a.2, walk_map leads others f k way n a.1 a.3, a.4)

closes_map : (leads others : ℕ → ℕ → ℕ → Type 0) → ((m n w : ℕ) → leads m n w → others m n w) → (walk : List ℕ) (w : ℕ) → Closes leads walk w
    → Closes others walk w
closes_map leads others f [] w c = c
closes_map leads others f (m ∷ way) w c = walk_map leads others f m way m w c

-- a search along edges, said of the same edges in other words
pub falling_alike : (leads others : ℕ → ℕ → ℕ → Type 0) → ((m n w : ℕ) → leads m n w ↔ others m n w) → (count : ℕ) (f : Falling) → IsFalling leads count f
    → IsFalling others count f
falling_alike leads others same count (falling.Table table) h = (
  least_alike (Falls leads) (Falls others) count table.items
      (λ q m. (λ x. record { falls = λ n w e. x.falls n w ((same m n w).1 e) }, λ x. record { falls = λ n w e. x.falls n w ((same m n w).0 e) })) h.0,
  h.1,
)
falling_alike leads others same count (falling.Cycle walk) h = record {
  weight = h.weight;
  closes = closes_map leads others (λ m n w e. (same m n w).0 e) walk.items h.weight h.closes;
  strict = h.strict;
  distinct = h.distinct;
  least = h.least;
}

pub if_ok_turned : {T E : Type 0} (r : Result T E) (P Q : T → Type 0) → ((t : T) → P t → Q t) → IfOk r P → IfOk r Q
if_ok_turned (Ok t) P Q f h = f t h
if_ok_turned (Err e) P Q f h = h

on_within : (p : Program) (m n w : ℕ) → InTick p m n w → m < length p.nodes
on_within p m n w edge = within edge.0
  where
    within : GoesOn p m n → m < length p.nodes
    within (to_successor s at c) = step_within p m s at
    within (over_fork ks at may) = step_within p m (step.Fork ks n) at

pub no_instant_loop : (p : Program) (ranks : List ℕ) → IsLeast (Falls (InTick p)) (length p.nodes) ranks → (walk : List ℕ) → ¬ IsInstantLoop p walk
no_instant_loop p ranks l walk = no_cycle (InTick p) (length p.nodes) (slice_index ranks) (on_within p) l.keeps walk

pub no_order_cycle : (p : Program) (priorities : List ℕ) → IsLeast (Falls (InOrder p)) (length p.nodes) priorities → (walk : List ℕ) → ¬ IsOrderCycle p walk
no_order_cycle p priorities l walk = no_cycle (InOrder p) (length p.nodes) (slice_index priorities) (order_within p) l.keeps walk
