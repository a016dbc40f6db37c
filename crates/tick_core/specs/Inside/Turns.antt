-- Who may be claimed next, and which claim may be committed.
use Rattle.std.specs.Prelude.{ℕ, ◌≡◌, ◌≢◌, ◌⊎◌, Option, MatchOption, Some, None, length, slice_get, count_by, is_some}
use Rattle.sc_values.specs.Runs.{IsOver}
use Rattle.sc_graph.specs.declared.control.Status.{Status}
use Rattle.sc_graph.specs.Control.{status_of}
use Rattle.sc_graph.specs.Machine.{machine}
use Rattle.sc_graph.specs.Tables.{priority_of}
use Rattle.sc_graph.specs.Priority.{Leads}
use Rattle.tick_core.specs.Claims.{Claim, value_by}
use Rattle.tick_core.specs.Inside.Work.{value_at}
use Rattle.tick_core.specs.State.{InTick, IsFresh, GoesBy}
use Rattle.tick_core.specs.Turns.{claim_of, IsOpen, AllClaimed}

-- so many claims are open, each of a thread that stands at this priority
pub record OpenAt (s : InTick) (count level : ℕ) : Type 0 where
  pub counted : count ≡ count_by is_some s.claims
  pub level_is : (t : ℕ) (a : Claim) → claim_of s t ≡ Some (Some a) → priority_of s.image.tables (status_of s.present t) ≡ level

-- nobody is enabled, or every leading thread has an open claim
abbrev pub NothingToClaim : InTick → Type 0
NothingToClaim s = IsOver (machine s.image.program) s.present ⊎ AllClaimed s

-- thread t leads and has no open claim
pub record IsUnclaimed (s : InTick) (t : ℕ) : Type 0 where
  pub leads : Leads s.image.program s.image.tables s.present t
  pub unclaimed : claim_of s t ≡ Some None

-- thread t leads, has no open claim, and stands so
pub record IsNext (s : InTick) (t : ℕ) (st : Status) : Type 0 where
  pub next : IsUnclaimed s t
  pub standing : st ≡ status_of s.present t

-- steps of one worker alone led from one state to another, in which this thread steps next, as it stands, or nobody can be claimed
pub record RunsBy (worker : ℕ) (s s' : InTick) (next : Option (ℕ × Status)) : Type 0 where
  pub goes : GoesBy worker s s'
  pub next_is : MatchOption next (NothingToClaim s') (λ n. IsNext s' n.0 n.1)

-- this claim of a leading thread is as things stand, by this worker
pub record IsNew (s : InTick) (worker t : ℕ) (a : Claim) : Type 0 where
  pub thread : a.thread ≡ t
  pub fresh : IsFresh s.image.program s.image.tables s.present (length s.history) a.thread a
  pub by : a.worker ≡ worker
  pub commits : a.commits ≡ length s.history

-- this claim is open, and its step may be taken with the value of its code over its operands
pub record MayCommit (s : InTick) (a : Claim) : Type 0 where
  pub is_open : IsOpen s a
  pub leads : Leads s.image.program s.image.tables s.present a.thread
  pub value : value_by a.code a.operands ≡ value_at s.image.program s.present (status_of s.present a.thread)

-- the same state without open claims
pub record DropsClaims (s s' : InTick) : Type 0 where
  pub image_is : s'.image ≡ s.image
  pub begun_is : s'.begun ≡ s.begun
  pub present_is : s'.present ≡ s.present
  pub history_is : s'.history ≡ s.history
  pub no_claim : (t : ℕ) (a : Claim) → slice_get s'.claims t ≢ Some (Some a)
