-- The names of labels: they are names of SCL, and of different numbers different.
use Rattle.std.proofs.Common.{◌≡◌, ℕ, ◌<◌, ◌^◌, ◌∷◌}
use Rattle.std.specs.Prelude.{decimal}
use Rattle.std.proofs.lemmas.Fmt.{decimal_injective}
use Rattle.sc_text.specs.declared.language.Language.TheVariants as language
use Rattle.sc_text.specs.Parts.{IsNameIn}
use Rattle.sc_text.proofs.AddedNames.{added_is_named}
use Rattle.chart_lowering.specs.Lowering.{label_name}

-- a number that a machine word holds
abbrev pub IsCountable : ℕ → Type 0
IsCountable n = n < 2 ^ 64

pub label_in_scl : (n : ℕ) → IsNameIn language.Scl (label_name n)
label_in_scl n = added_is_named (76 ∷ decimal n)

pub names_differ : (m n : ℕ) → IsCountable m → IsCountable n → label_name m ≡ label_name n → m ≡ n
names_differ m n small_m small_n same =
    let digits : decimal m ≡ decimal n = cc in
    decimal_injective m n small_m small_n digits
