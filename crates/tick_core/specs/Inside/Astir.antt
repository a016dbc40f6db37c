-- The threads that a tick tells the next one of, in a list: whoever is absent or has ended, and was so as the tick began, need not be looked at.
use Rattle.std.specs.Prelude.{ℕ, ◌≡◌, ◌<◌, ◌≤◌, ◌+◌, ◌⊎◌, IsTrue, List, Contains, Some, length, slice_get, vec_capacity}
use Rattle.std.specs.Bool.{OnTrue}
use Rattle.sc_graph.specs.declared.control.Control.{Control}
use Rattle.sc_graph.specs.declared.control.Status.{Status}
use Rattle.sc_graph.specs.declared.control.Status.TheVariants as status
use Rattle.sc_graph.specs.Program.{Program}
use Rattle.sc_graph.specs.Control.{status_of}
use Rattle.tick_core.specs.declared.listed.Listed.{Listed}
use Rattle.tick_core.specs.Space.There.{AllListed}

-- at a node, at a join or paused
abbrev pub IsAstir : Status → Type 0
IsAstir status.Absent = ⊥
IsAstir status.Ended = ⊥
IsAstir other = Unit {0}

-- by these statuses each thread that is astir stands in the list
pub record AstirListed (statuses : List Status) (threads : List ℕ) : Type 0 where
  pub each : (t : ℕ) (s : Status) → slice_get statuses t ≡ Some s → IsAstir s → Contains threads t

-- whoever stands otherwise by the ones than by the others is listed
pub record ChangedListed (from to : List Status) (threads : List ℕ) : Type 0 where
  pub each : (t : ℕ) → Contains threads t ⊎ (slice_get to t ≡ slice_get from t)

-- of a tick that began so, and in which threads stand so now, the root is listed, and who is astir, and who stands otherwise than as the tick began
pub record Covers (begun present : List Status) (threads : List ℕ) : Type 0 where
  pub root : Contains threads 0
  pub astir : AstirListed present threads
  pub changed : ChangedListed present begun threads

-- what a tick keeps of its list: room for each thread; where it is whole it covers the tick; and whether it holds all that were present as the tick began
pub record FitsTick (p : Program) (begun present : Control) (listed : Listed) : Type 0 where
  pub room : length p.threads ≤ vec_capacity listed.threads
  pub whole : OnTrue listed.is_whole (Covers begun.statuses present.statuses listed.threads.items)
  pub all : OnTrue listed.is_all (AllListed begun.statuses listed.threads.items)

-- whoever was listed is, and so is each of these threads, unless the list tells that it is not whole
pub record Gains (before : Listed) (threads : List ℕ) (after : Listed) : Type 0 where
  pub room : vec_capacity after.threads ≡ vec_capacity before.threads
  pub all : after.is_all ≡ before.is_all
  pub kept : (t : ℕ) → Contains before.threads.items t → Contains after.threads.items t
  pub whole : IsTrue after.is_whole → IsTrue before.is_whole
  pub gained : IsTrue after.is_whole → (t : ℕ) → Contains threads t → Contains after.threads.items t

-- the same with one thread
pub record GainsOne (before : Listed) (t : ℕ) (after : Listed) : Type 0 where
  pub room : vec_capacity after.threads ≡ vec_capacity before.threads
  pub all : after.is_all ≡ before.is_all
  pub kept : (u : ℕ) → Contains before.threads.items u → Contains after.threads.items u
  pub whole : IsTrue after.is_whole → IsTrue before.is_whole
  pub gained : IsTrue after.is_whole → Contains after.threads.items t

-- the same with those of the threads at places below n
pub record GainsBelow (before : Listed) (threads : List ℕ) (n : ℕ) (after : Listed) : Type 0 where
  pub room : vec_capacity after.threads ≡ vec_capacity before.threads
  pub all : after.is_all ≡ before.is_all
  pub kept : (t : ℕ) → Contains before.threads.items t → Contains after.threads.items t
  pub whole : IsTrue after.is_whole → IsTrue before.is_whole
  pub gained : IsTrue after.is_whole → (i t : ℕ) → i < n → slice_get threads i ≡ Some t → Contains after.threads.items t

-- the root, or astir
abbrev pub MustStay : Control → ℕ → Type 0
MustStay c t = (t ≡ 0) ⊎ IsAstir (status_of c t)

-- each thread that was listed and must stay is listed still
pub record StaysListed (c : Control) (before after : List ℕ) : Type 0 where
  pub each : (t : ℕ) → Contains before t → MustStay c t → Contains after t

-- thread t stands at a place below n of the list
pub record StandsBelow (threads : List ℕ) (n t : ℕ) : Type 0 where
  pub at : ℕ
  pub below : at < n
  pub is : slice_get threads at ≡ Some t

-- thread t is put to the first n, where it must stay and stands not among them; there are so many then
pub record KeepsOne (c : Control) (before : List ℕ) (n t : ℕ) (after : List ℕ) (m : ℕ) : Type 0 where
  pub long : length after ≡ length before
  pub few : m ≤ n + 1
  pub rest : (i : ℕ) → n < i → slice_get after i ≡ slice_get before i
  pub kept : (u : ℕ) → StandsBelow before n u → StandsBelow after m u
  pub own : MustStay c t → StandsBelow after m t

-- of the threads at places below n those that must stay stand among the first m
pub record KeptBelow (c : Control) (before : List ℕ) (n : ℕ) (after : List ℕ) (m : ℕ) : Type 0 where
  pub few : m ≤ n
  pub long : length after ≡ length before
  pub rest : (i : ℕ) → n ≤ i → slice_get after i ≡ slice_get before i
  pub kept : (i t : ℕ) → i < n → slice_get before i ≡ Some t → MustStay c t → StandsBelow after m t
