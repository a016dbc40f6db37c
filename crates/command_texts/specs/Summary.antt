-- What is said of a good image.
use Rattle.std.specs.Prelude.{ℕ, ◌≡◌, codes, decimal, Option, List, ◌++◌, length}
use Rattle.bytecode.specs.Image.{Image}
use Rattle.command_files.specs.Files.{Contents}
use Rattle.command_files.specs.Images.{IsLoaded}

-- its counts and its budget, and a line feed
abbrev pub summary_line : ℕ → ℕ → ℕ → List ℕ
summary_line nodes threads budget =
    codes "ok nodes=" ++ (decimal nodes ++ (codes " threads="
    ++ (decimal threads ++ (codes " budget=" ++ (decimal budget ++ codes "\n")))))

abbrev pub summary_of : Image → List ℕ
summary_of i = summary_line (length i.program.nodes) (length i.program.threads) i.tables.budget

-- the summary of the image in this file
pub record IsSummaryIn (files : Option Contents) (name text : List ℕ) : Type 0 where
  pub image : Image
  pub loaded : IsLoaded files name image
  pub is : text ≡ summary_of image
