-- What files and folders hold, by their names.
use Rattle.std.specs.Prelude.{ℕ, ◌≡◌, ◌≢◌, Bool, true, false, Option, Some, None, List}

-- the bytes of the file of each name, and the names in the folder of each; None where no file, or no folder, of the name can be read;
-- and whether nothing stands at a name
pub record Contents : Type 0 where
  pub bytes : List ℕ → Option (List ℕ)
  pub names : List ℕ → Option (List (List ℕ))
  pub free : List ℕ → Bool

-- the file of this name has these bytes, where that is known
abbrev pub HasBytes : Option Contents → List ℕ → List ℕ → Type 0
HasBytes None name bytes = Unit {0}
HasBytes (Some files) name bytes = files.bytes name ≡ Some bytes

-- no file of this name can be read, where that is known
abbrev pub LacksFile : Option Contents → List ℕ → Type 0
LacksFile None name = Unit {0}
LacksFile (Some files) name = files.bytes name ≡ None

-- these are the names in the folder of this name, or there is none that can be read, where that is known
abbrev pub Lists : Option Contents → List ℕ → Option (List (List ℕ)) → Type 0
Lists None folder names = Unit {0}
Lists (Some files) folder names = files.names folder ≡ names

-- nothing stands at this name, or something does, where that is known
abbrev pub IsFree : Option Contents → List ℕ → Type 0
IsFree None name = Unit {0}
IsFree (Some files) name = files.free name ≡ true

abbrev pub IsTaken : Option Contents → List ℕ → Type 0
IsTaken None name = Unit {0}
IsTaken (Some files) name = files.free name ≡ false

-- of known files the one of this name has these bytes now, and no other changed. Nothing more is said
abbrev pub Stores : Option Contents → Option Contents → List ℕ → List ℕ → Type 0
Stores None new name bytes = Unit {0}
Stores (Some old) None name bytes = ⊥
Stores (Some old) (Some new) name bytes = (new.bytes name ≡ Some bytes)
    × ((other : List ℕ) → other ≢ name → new.bytes other ≡ old.bytes other)
