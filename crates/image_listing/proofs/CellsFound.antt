-- The cells of nodes.
use Rattle.std.proofs.Common.{◌≡◌, ℕ, zero, suc, Some, None, List, [], ◌∷◌, map, slice_get, refl, ap}
use Rattle.image_listing.specs.Nodes.{cell_of}

pub cell_found : {A : Type 0} (f : A → List ℕ) (cells : List A) (n : ℕ) (c : A) → slice_get cells n ≡ Some c → cell_of (map f cells) n ≡ f c
cell_found f [] n c h = absurd cc
cell_found f (b ∷ cells) zero c h = let is : b ≡ c = cc in ap f is
cell_found f (b ∷ cells) (suc n) c h = cell_found f cells n c h

pub no_cell : {A : Type 0} (f : A → List ℕ) (cells : List A) (n : ℕ) → slice_get cells n ≡ None → cell_of (map f cells) n ≡ []
no_cell f [] n h = refl
no_cell f (b ∷ cells) zero h = absurd cc
no_cell f (b ∷ cells) (suc n) h = no_cell f cells n h
