-- Bad fields.
use Rattle.std.specs.Prelude.{◌≡◌, ℕ, List, ◌∷◌, ◌++◌, length}
use Rattle.std.specs.List.{concat}
use Rattle.bytecode.specs.Image.{Image}
use Rattle.bytecode.specs.Fits.{SayableImage}
use Rattle.bytecode.specs.Beginnings.{IsSpelling}
use Rattle.bytecode.specs.FieldList.{fields}

-- A field of an image begins behind so many bytes, which are those of the fields before it. In these bytes another of
-- its length stands there, and no spelling begins so.
pub record IsBadField (version : ℕ) (bytes : List ℕ) (offset : ℕ) : Type 0 where
  pub image : Image
  pub fits : SayableImage version image
  pub before : List (List ℕ)
  pub field : List ℕ
  pub after : List (List ℕ)
  pub parted : fields version image ≡ before ++ field ∷ after
  pub begins : length (concat before) ≡ offset
  pub bad : List ℕ
  pub rest : List ℕ
  pub stands : bytes ≡ concat before ++ (bad ++ rest)
  pub long : length bad ≡ length field
  pub never : (more : List ℕ) → IsSpelling version (concat before ++ (bad ++ more)) → ⊥
