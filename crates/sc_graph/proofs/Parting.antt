-- Climbing to the place where two threads part.
use Rattle.std.proofs.Common.{ℕ, ◌≡◌, ◌<◌, Some}
use Rattle.sc_graph.specs.Program.{Program, parent_of}
use Rattle.sc_graph.specs.Inside.Parting.{PartAt}
use Rattle.sc_graph.proofs.Tree.{FallsUpwards, part_up, part_down, part_swapped}

-- v and w part just where t and u do
pub record PartAlike (p : Program) (t u v w : ℕ) : Type 0 where
  pub up : (l r a : ℕ) → PartAt p t u l r a → PartAt p v w l r a
  pub down : (l r a : ℕ) → PartAt p v w l r a → PartAt p t u l r a

pub alike_at_first : (p : Program) (t u : ℕ) → PartAlike p t u t u
alike_at_first p t u = record { up = λ l r a x. x; down = λ l r a x. x }

pub alike_left : (p : Program) → FallsUpwards p → (t u v w q s : ℕ) → parent_of p v ≡ Some q → parent_of p w ≡ Some s → s < q → PartAlike p t u v w
    → PartAlike p t u q w
alike_left p tree t u v w q s up other less same = record {
  up = λ l r a x. part_up p tree v w q s l r a up other less (same.up l r a x);
  down = λ l r a x. same.down l r a (part_down p v w q l r a up x);
}

pub alike_right : (p : Program) → FallsUpwards p → (t u v w q s : ℕ) → parent_of p v ≡ Some q → parent_of p w ≡ Some s → q < s → PartAlike p t u v w
    → PartAlike p t u v s
alike_right p tree t u v w q s other up less same = record {
  up = λ l r a x. part_swapped p s v r l a (part_up p tree w v s q r l a up other less (part_swapped p v w l r a (same.up l r a x)));
  down = λ l r a x. same.down l r a (part_swapped p w v r l a (part_down p w v s r l a up (part_swapped p v s l r a x)));
}
