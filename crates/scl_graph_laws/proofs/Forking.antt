-- Branches come to their first statements, and their threads to the nodes of these; at the join they all go away.
use Rattle.std.proofs.Common.{◌≡◌, ◌&&◌, ℕ, Bool, true, Some, List, [], ◌∷◌, map, refl, ap, ◌∙◌}
use Rattle.std.specs.List.{list_all}
use Rattle.sc_graph.specs.declared.control.Control.{Control}
use Rattle.sc_graph.specs.declared.control.Status.TheVariants as status
use Rattle.sc_graph.specs.Program.{Program, entry_of, is_target}
use Rattle.sc_graph.specs.Control.{status_of, has_ended}
use Rattle.sc_graph.specs.Steps.{enters, is_entered}
use Rattle.scl.specs.Block.{Block, Branches, NoMore, Branch}
use Rattle.scl.specs.Places.{IsBranch, here, later, threads_of}
use Rattle.scl.specs.Meaning.{Doing, State, Away, Todo, Forked, Resting, Resuming, Finished, doing, has_finished, entered, all_entered}
use Rattle.scl_graph.specs.Graph.{number}
use Rattle.scl_graph_laws.specs.Standing.{standing}
use Rattle.scl_graph_laws.specs.Mirrors.{leads}
use Rattle.scl_graph_laws.proofs.Moving.{stands, MoveWithin}
use Rattle.scl_graph_laws.proofs.Agreeing.{GoesTo}

-- the thread of a branch begins at the node of its first statement
pub record Enters (q : Program) (root : Block) (u : ℕ) (body : Block) : Type 0 where
  pub entry : entry_of q u ≡ Some (leads root body)
  pub goes : GoesTo q root u body

-- what entering the branches of a fork moves
pub record Entered (q : Program) (root : Block) (branches : Branches) : Type 0 where
  pub moves : List (ℕ × Doing)
  pub is : all_entered root branches ≡ Some moves
  pub alike : map (λ k. enters k (entry_of q k)) (threads_of branches) ≡ map stands moves
  pub all : list_all (λ k. is_entered q k (entry_of q k)) (threads_of branches) ≡ true
  pub within : MoveWithin root moves

both_true : (a b : Bool) → a ≡ true → b ≡ true → (a && b) ≡ true
both_true a b h k = cc

pub branches_enter : (q : Program) (root : Block) (branches : Branches) → ((u : ℕ) (body : Block) → IsBranch branches u body → Enters q root u body)
    → Entered q root branches
branches_enter q root NoMore each = record { moves = []; is = refl; alike = refl; all = refl; within = tt }
branches_enter q root (Branch t body more) each =
    let first : Enters q root t body = each t body (here t body more) in
    let rest : Entered q root more = branches_enter q root more (λ u b h. each u b (later t body more u b h)) in
    record {
      moves = (t, Todo first.goes.to.first) ∷ rest.moves;
      is = ap (λ o. entered t o (all_entered root more)) first.goes.to.is ∙ ap (entered t (Some first.goes.to.first)) rest.is;
      alike =
          ap (λ o. enters t o ∷ map (λ k. enters k (entry_of q k)) (threads_of more)) first.entry
          ∙ ap (λ o. (t, status.At (number o)) ∷ map (λ k. enters k (entry_of q k)) (threads_of more)) first.goes.to.is
          ∙ ap (λ r. (t, status.At (number (Some first.goes.to.first))) ∷ r) rest.alike;
      all =
          both_true (is_entered q t (entry_of q t)) (list_all (λ k. is_entered q k (entry_of q k)) (threads_of more))
          (ap (is_entered q t) first.entry ∙ ap (λ o. is_target q t (number o)) first.goes.to.is ∙ first.goes.target) rest.all;
      within = ((first.goes.to.place, first.goes.to.is_step), rest.within);
    }

pub leave_alike : (threads : List ℕ) → map (λ k. (k, status.Absent)) threads ≡ map stands (map (λ u. (u, Away)) threads)
leave_alike [] = refl
leave_alike (t ∷ threads) = ap (λ r. (t, status.Absent) ∷ r) (leave_alike threads)

pub leave_within : (root : Block) (threads : List ℕ) → MoveWithin root (map (λ u. (u, Away)) threads)
leave_within root [] = tt
leave_within root (t ∷ threads) = (tt, leave_within root threads)

pub ended_alike : (d : Doing) → has_ended (standing d) ≡ has_finished d
ended_alike Away = refl
ended_alike (Todo todo) = refl
ended_alike (Forked n branches rest) = refl
ended_alike (Resting n rest) = refl
ended_alike (Resuming n rest) = refl
ended_alike Finished = refl

-- all of them have ended where they have finished
pub all_ended_alike : (c : Control) (s : State) → ((t : ℕ) → status_of c t ≡ standing (doing s t)) → (threads : List ℕ)
    → list_all (λ k. has_ended (status_of c k)) threads ≡ list_all (λ t. has_finished (doing s t)) threads
all_ended_alike c s at [] = refl
all_ended_alike c s at (t ∷ threads) =
    ap (λ b. b && list_all (λ k. has_ended (status_of c k)) threads) (ap has_ended (at t) ∙ ended_alike (doing s t))
    ∙ ap (λ b. has_finished (doing s t) && b) (all_ended_alike c s at threads)
