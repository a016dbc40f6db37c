-- Names: a letter or `_`, then letters, digits and `_`, 64 bytes at most.
use Rattle.std.specs.Prelude.{ℕ, ◌-◌, Bool, false, ◌||◌, ◌&&◌, ◌==◌, nat_le, List, [], ◌∷◌, ◌++◌, length, replicate}
use Rattle.std.specs.List.{list_all}
use Rattle.sc_values.specs.Limits.{name_limit}

-- `A` to `Z`, `a` to `z` and `_`
abbrev pub is_letter : ℕ → Bool
is_letter byte = (nat_le 65 byte && nat_le byte 90) || (nat_le 97 byte && nat_le byte 122) || (byte == 95)

-- `0` to `9`
abbrev pub is_digit : ℕ → Bool
is_digit byte = nat_le 48 byte && nat_le byte 57

abbrev pub is_name : List ℕ → Bool
is_name [] = false
is_name (first ∷ rest) =
    is_letter first && list_all (λ byte. is_letter byte || is_digit byte) rest
    && nat_le (length (first ∷ rest)) name_limit

-- the bytes, and behind them zeros up to the limit
abbrev pub padded : List ℕ → List ℕ
padded bytes = bytes ++ replicate (name_limit - length bytes) 0
