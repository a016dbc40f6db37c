-- What has gone through a queue, and what stands in it.
use Rattle.std.specs.Prelude.{ℕ, ◌≡◌, ◌≤◌, nat_eq, if◌then◌else◌, List, [], ◌∷◌, ◌++◌, length, map, slice_set}
use Rattle.std.specs.List.{sum_by}
use mathlib.Core.Option.{some}
use lib.ListN.{get_elem?}
use Rattle.tick_core.specs.Claims.{Claim}
use Rattle.ready_queue.specs.declared.queue.Hand.{Hand}

-- what a pass has put, and what it has taken
abbrev pub hand : List Claim → List Claim → Hand
hand put taken = record { put = put; taken = taken }

-- claims, each with the pass that put it, in the order in which they were put
abbrev pub Given : Type 0
Given = List (ℕ × Claim)

abbrev pub claims_of : Given → List Claim
claims_of given = map (λ e. e.1) given

-- those that one pass put
abbrev pub put_by : ℕ → Given → List Claim
put_by p [] = []
put_by p (e ∷ given) = if nat_eq e.0 p then e.1 ∷ put_by p given else put_by p given

-- a queue holds these claims, and its passes, by their numbers, have put and taken those: all that was put has gone or
-- stands, in one order, in which what has gone comes first; each pass has put what is its own in it, and no others
-- have put anything; and what the passes have taken is what has gone, each claim as often
pub record Keeps (items : List Claim) (hands : List Hand) : Type 0 where
  pub gone : Given
  pub stand : Given
  pub items_are : claims_of stand ≡ items
  pub put : (p : ℕ) (v : Hand) → get_elem? hands p ≡ some v → v.put ≡ put_by p (gone ++ stand)
  pub no_others : (p : ℕ) → length hands ≤ p → put_by p (gone ++ stand) ≡ []
  pub taken : (weight : Claim → ℕ) → sum_by (λ v. sum_by weight v.taken) hands ≡ sum_by weight (claims_of gone)

-- this pass was among those of a queue that held these claims
pub record Stands (v : Hand) (items : List Claim) : Type 0 where
  pub hands : List Hand
  pub number : ℕ
  pub among : get_elem? hands number ≡ some v
  pub keeps : Keeps items hands

-- one step of a queue, in which this pass, that had put and taken v and then w, put a claim behind all that stood
pub record PutBehind (v : Hand) (x : Claim) (w : Hand) : Type 0 where
  pub items : List Claim
  pub hands : List Hand
  pub number : ℕ
  pub among : get_elem? hands number ≡ some v
  pub before : Keeps items hands
  pub after : Keeps (items ++ x ∷ []) (slice_set hands number w)
  pub gone_stays : after.gone ≡ before.gone
  pub behind : after.stand ≡ before.stand ++ (number, x) ∷ []
  pub hand_is : w ≡ hand (v.put ++ x ∷ []) v.taken

-- one step of a queue, in which this pass, that had put and taken v and then w, took the claim that stood before all others
pub record TakenFirst (v : Hand) (x : Claim) (w : Hand) : Type 0 where
  pub items : List Claim
  pub hands : List Hand
  pub number : ℕ
  pub among : get_elem? hands number ≡ some v
  pub before : Keeps (x ∷ items) hands
  pub after : Keeps items (slice_set hands number w)
  pub first : ℕ × Claim
  pub claim_is : first.1 ≡ x
  pub stood : before.stand ≡ first ∷ after.stand
  pub goes : after.gone ≡ before.gone ++ first ∷ []
  pub hand_is : w ≡ hand v.put (v.taken ++ x ∷ [])
