-- Which of some flaws are told: the first twenty of them, in the order of the text.
use Rattle.std.specs.Prelude.{ℕ, List, [], ◌∷◌, if◌then◌else◌, take}
use Rattle.sc_text.specs.declared.drafts.flaw.Flaw.{Flaw}
use Rattle.sc_text.specs.First.{comes_before}

-- a flaw at its place among others that stand in their order. One that is there already stands there once
abbrev pub inserted : Flaw → List Flaw → List Flaw
inserted f [] = f ∷ []
inserted f (g ∷ found) = if comes_before f g then f ∷ (g ∷ found) else (if comes_before g f then g ∷ inserted f found else g ∷ found)

-- flaws at their places among others
abbrev pub in_order_with : List Flaw → List Flaw → List Flaw
in_order_with found [] = found
in_order_with found (f ∷ flaws) = in_order_with (inserted f found) flaws

-- how many are told at most
abbrev pub told_limit : ℕ
told_limit = 20

abbrev pub told_of : List Flaw → List Flaw
told_of flaws = take told_limit (in_order_with [] flaws)

-- what is told of these behind what was found before them: found by going over them, with no more than that kept at a time
abbrev pub told_behind : List Flaw → List Flaw → List Flaw
told_behind found [] = found
told_behind found (f ∷ flaws) = told_behind (take told_limit (inserted f found)) flaws
