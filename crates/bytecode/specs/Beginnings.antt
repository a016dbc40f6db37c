-- Beginnings of spellings, and what stands behind one.
use Rattle.std.specs.Prelude.{◌≡◌, ◌≢◌, ℕ, List, [], ◌++◌}
use Rattle.bytecode.specs.Image.{Image}
use Rattle.bytecode.specs.Spells.{Spells}

-- the bytes spell an image
abbrev pub IsSpelling : ℕ → List ℕ → Type 0
IsSpelling version bytes = (i : Image) × Spells version bytes i

-- a spelling goes on behind these bytes
abbrev pub IsCutSpelling : ℕ → List ℕ → Type 0
IsCutSpelling version bytes = (rest : List ℕ) × (rest ≢ []) × IsSpelling version (bytes ++ rest)

-- bytes stand behind a spelling
abbrev pub HasTail : ℕ → List ℕ → Type 0
HasTail version bytes =
    (text : List ℕ) × (tail : List ℕ) × (tail ≢ []) × IsSpelling version text × (bytes ≡ text ++ tail)
