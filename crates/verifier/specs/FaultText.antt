-- What is printed of a broken rule: the number of its fault, and the place.
use Rattle.std.specs.Prelude.{ℕ, List, ◌++◌, codes}
use Rattle.std.specs.Fmt.{decimal}
use Rattle.sc_graph.specs.declared.place.Place.{Place}
use Rattle.sc_graph.specs.declared.place.Place.TheVariants as place
use Rattle.verifier.specs.declared.rule.Broken.{Broken}
use Rattle.verifier.specs.declared.rule.Refusal.{Refusal}
use Rattle.verifier.specs.declared.rule.Refusal.TheVariants as refusal
use Rattle.verifier.specs.Verdict.{fault_number}

-- a node is named by its number alone, and of two the first comes first
abbrev pub place_text : Place → List ℕ
place_text place.Image = codes "image"
place_text (place.Variable x) = codes "variable " ++ decimal x
place_text (place.Thread t) = codes "thread " ++ decimal t
place_text (place.Node n) = decimal n
place_text (place.Pair m n) = decimal m ++ codes " " ++ decimal n

abbrev pub fault_text : Broken → List ℕ
fault_text broken = codes "E" ++ decimal (fault_number broken.rule) ++ codes " " ++ place_text broken.place

-- of an image that is not verified
abbrev pub refusal_text : Refusal → List ℕ
refusal_text (refusal.Broken broken) = fault_text broken
refusal_text refusal.Memory = codes "E52"
