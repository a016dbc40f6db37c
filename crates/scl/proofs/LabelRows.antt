-- Rows of what is to be done from behind a label.
use Rattle.std.proofs.Common.{◌≡◌, ℕ, Some, None, List, [], ◌∷◌, refl}
use Rattle.sc_values.specs.declared.expression.Expr.{Expr}
use Rattle.scl.specs.Block.{Block, End, Label, Goto, Pause, If, Fork, NoMore, Branch}
use Rattle.scl.specs.Labels.{behind_label, settled}
use Rattle.scl.specs.Places.{Place, whole, in_first, in_branch, after_label, here}

abbrev name_l : List ℕ
name_l = 76 ∷ []

abbrev name_m : List ℕ
name_m = 77 ∷ []

-- if (e) { L: } else { M: pause; } pause;
abbrev of_an_if : Expr → Block
of_an_if e = If 0 e (Label name_l (End 0)) (Label name_m (Pause 1 (End 0))) (Pause 3 (End 5))

-- what follows an if is behind the labels of both of its lists
behind_first : (e : Expr) → behind_label (of_an_if e) name_l ≡ Some (Pause 3 (End 5))
behind_first e = refl

behind_second : (e : Expr) → behind_label (of_an_if e) name_m ≡ Some (Pause 1 (Pause 3 (End 5)))
behind_second e = refl

-- if (e) { fork { L: pause; if (e) { M: } } join; } pause;
abbrev inner_if : Expr → Block
inner_if e = If 9 e (Label name_m (End 0)) (End 0) (End 10)

abbrev branch : Expr → Block
branch e = Label name_l (Pause 7 (inner_if e))

abbrev fork_in_an_if : Expr → Block
fork_in_an_if e = If 0 e (Fork 1 (Branch 1 (branch e) NoMore) (End 0)) (End 0) (Pause 3 (End 5))

-- a thread forked within an if ends with its own text: what follows the if is the other thread's
behind_forked : (e : Expr) → behind_label (fork_in_an_if e) name_l ≡ Some (Pause 7 (inner_if e))
behind_forked e = refl

behind_deeper : (e : Expr) → behind_label (fork_in_an_if e) name_m ≡ Some (End 10)
behind_deeper e = refl

forked_goes_on : (e : Expr) → settled (fork_in_an_if e) (Goto 0 name_m (End 10)) ≡ Some (End 10)
forked_goes_on e = refl

-- and this is what that thread has to do from that place of the text on
abbrev forked_place : (e : Expr) → Place (fork_in_an_if e) 1 (Pause 7 (inner_if e))
forked_place e =
    after_label 1 name_l (Pause 7 (inner_if e))
    (in_branch 0 1 1 (Branch 1 (branch e) NoMore) (branch e) (Pause 3 (End 5))
    (in_first 0 0 e (Fork 1 (Branch 1 (branch e) NoMore) (End 0)) (End 0) (Pause 3 (End 5)) whole)
    (here 1 (branch e) NoMore))

-- a label of no thread
behind_none : (e : Expr) → behind_label (fork_in_an_if e) [] ≡ None
behind_none e = refl
