-- What holds of bytes from one place on, by that at the place and those behind it.
use Rattle.std.proofs.Common.{◌≡◌, ℕ, suc, ◌+◌, ◌<◌, nat_eq, not, ◌&&◌, ◌||◌, List, drop, get_or, length, codes}
use Rattle.std.proofs.Common.{refl, add-one, drop-cons}
use Rattle.std.specs.List.{starts_with}
use Rattle.chart_warnings.specs.Allowance.{allows, has}
use Rattle.chart_warnings.specs.Lines.{are_lines, left_behind}

pub has_more : (piece line : List ℕ) (at : ℕ) → at < length line
    → has piece (drop at line) ≡ (starts_with nat_eq (drop at line) piece || has piece (drop (at + 1) line))
has_more piece line at within = rw (add-one, drop-cons line at 0) refl

pub allows_more : (code line : List ℕ) (at : ℕ) → at < length line
    → allows code (drop at line)
    ≡ ((starts_with nat_eq (drop at line) (codes "// sct: allow") && has code (drop at line)) || allows code (drop (at + 1) line))
allows_more code line at within = rw (add-one, drop-cons line at 0) refl

pub are_more : (count : ℕ) (text : List ℕ) (at : ℕ) → at < length text
    → are_lines count (drop at text) ≡ (not (nat_eq count 0) && are_lines (left_behind count (get_or text at 0)) (drop (at + 1) text))
are_more count text at within = rw (add-one, drop-cons text at 0) refl
