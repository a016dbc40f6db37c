-- What is left where the last of all is taken.
use Rattle.std.proofs.Common.{◌≡◌, ◌++◌, List, Option, All, IfSome}
use Rattle.std.specs.Option.{option_to_list}
use Rattle.std.proofs.lemmas.List.Elements.{All-pop}

module _ {X : Type 0} (P : X → Type 0) (xs ys : List X) (last : Option X) (popped : xs ≡ ys ++ option_to_list last) (all : All P xs) where
  pub all_left : All P ys
  all_left = (All-pop P xs ys last popped all).0

  pub last_of_all : IfSome last P
  last_of_all = (All-pop P xs ys last popped all).1
