-- A line that is written piece by piece.
use Rattle.std.proofs.Common.{◌≡◌, ℕ, List, ◌++◌, codes, ap, sym, ◌∙◌, append_assoc}
use Rattle.scl_printer.specs.Layout.{indentation, line}
use Rattle.scl_printer.specs.Inside.Writing.{Page, Writes}
use Rattle.scl_printer.proofs.Written.{follows, written_as}

-- its level, and then what it says, with its end
pub as_line : (a b c : Page) (level : ℕ) (text rest : List ℕ) → rest ≡ text ++ codes "\n" → Writes a b (indentation level) → Writes b c rest
    → Writes a c (line text level)
as_line a b c level text rest is before behind =
    follows a b c (indentation level) (text ++ codes "\n") before (written_as b c rest (text ++ codes "\n") is behind)

-- a text of two and of three pieces, of which the last one ends the line too
pub ends_second : (a b : List ℕ) → a ++ (b ++ codes "\n") ≡ (a ++ b) ++ codes "\n"
ends_second a b = sym (append_assoc a b (codes "\n"))

pub ends_third : (a b c : List ℕ) → a ++ (b ++ (c ++ codes "\n")) ≡ (a ++ (b ++ c)) ++ codes "\n"
ends_third a b c = ap (λ s. a ++ s) (ends_second b c) ∙ ends_second a (b ++ c)

pub ends_fourth : (a b c d : List ℕ) → a ++ (b ++ (c ++ (d ++ codes "\n"))) ≡ (a ++ (b ++ (c ++ d))) ++ codes "\n"
ends_fourth a b c d = ap (λ s. a ++ s) (ends_third b c d) ∙ ends_second a (b ++ (c ++ d))
