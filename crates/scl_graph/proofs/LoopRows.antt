-- Rows of empty loops.
use Rattle.std.proofs.Common.{◌≡◌, ℕ, ◌≤◌, Bool, true, false, Some, None, List, [], ◌∷◌, if◌then◌else◌, refl, ap, ◌∙◌, arith}
use Rattle.std.specs.Str.{bytes_eq}
use Rattle.std.proofs.lemmas.Option.{none-some}
use Rattle.sc_values.specs.declared.expression.Expr.{Expr}
use Rattle.scl.specs.Block.{Block, End, Label, Goto, If}
use Rattle.scl.specs.Labels.{Front, Begins, Jumps, behind_label, front, or_else}
use Rattle.scl_graph.specs.Loops.{ComesTo, IsEmptyLoop, IsFirstEmptyLoop, at_once, through}
use Rattle.scl_graph.proofs.Fronts.{same_block}

abbrev name_l : List ℕ
name_l = 76 ∷ []

abbrev name_m : List ℕ
name_m = 77 ∷ []

abbrev name_n : List ℕ
name_n = 78 ∷ []

-- L: goto L;
abbrev own_label : Block
own_label = Label name_l (Goto 0 name_l (End 0))

own_label_loops : IsFirstEmptyLoop own_label name_l
own_label_loops = record { goto = 0; loops = at_once name_l (Goto 0 name_l (End 0)) 0 name_l refl refl; first = λ h other loops. omega arith }

-- if (e) { L: } goto L; a loop goes through the end of an if's list, which is no statement
abbrev out_of_if : Expr → Block
out_of_if e = If 0 e (Label name_l (End 0)) (End 0) (Goto 0 name_l (End 1))

out_of_if_loops : (e : Expr) → IsFirstEmptyLoop (out_of_if e) name_l
out_of_if_loops e = record { goto = 0; loops = at_once name_l (Goto 0 name_l (End 1)) 0 name_l refl refl; first = λ h other loops. omega arith }

-- goto M; N: goto N; M: goto M; the first goto leads into a loop, and is not on it
abbrev behind_m : Block
behind_m = Goto 2 name_m (End 0)

abbrev behind_n : Block
behind_n = Goto 1 name_n (Label name_m behind_m)

abbrev into_a_loop : Block
into_a_loop = Goto 0 name_m (Label name_n behind_n)

on_a_loop : IsEmptyLoop into_a_loop 1 name_n
on_a_loop = at_once name_n behind_n 1 name_n refl refl

abbrev goto_number : Front → ℕ
goto_number (Jumps g name) = g
goto_number (Begins todo) = 0

ends_behind : (name : List ℕ) (k : Block) (h : ℕ) (last : List ℕ) → behind_label into_a_loop name ≡ Some k → front k ≡ Jumps h last → 1 ≤ h
ends_behind name k h last behind is = by (bytes_eq name_n name) (bytes_eq name_m name) behind
  where
    by : (first second : Bool) → or_else (if first then Some behind_n else (if second then Some behind_m else None)) None ≡ Some k → 1 ≤ h
    by true second found = let same : 1 ≡ h = ap goto_number (ap front (same_block behind_n k found) ∙ is) in omega (arith, same)
    by false true found = let same : 2 ≡ h = ap goto_number (ap front (same_block behind_m k found) ∙ is) in omega (arith, same)
    by false false found = absurd (none-some k found)

comes_behind : (name : List ℕ) (h : ℕ) (last : List ℕ) → ComesTo into_a_loop name h last → 1 ≤ h
comes_behind name h last (at_once _ k _ _ behind is) = ends_behind name k h last behind is
comes_behind name h last (through _ k m middle _ _ behind is more) = comes_behind middle h last more

first_on_a_loop : IsFirstEmptyLoop into_a_loop name_n
first_on_a_loop = record { goto = 1; loops = on_a_loop; first = λ h other loops. comes_behind other h other loops }

-- goto L; M: goto L; L: goto M; through two labels
abbrev two_labels : Block
two_labels = Goto 0 name_l (Label name_m (Goto 1 name_l (Label name_l (Goto 2 name_m (End 0)))))

through_two : IsEmptyLoop two_labels 1 name_l
through_two =
    through name_l (Goto 2 name_m (End 0)) 2 name_m 1 name_l refl refl
    (at_once name_m (Goto 1 name_l (Label name_l (Goto 2 name_m (End 0)))) 1 name_l refl refl)
