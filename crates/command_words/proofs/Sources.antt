-- What an option says in one word: the source of `--source=FILE`, the chart of `--chart=FILE`, the files of `--from=FILE` and `--save=FILE`.
use Rattle.std.proofs.Common.{◌≡◌, ◌∙◌, ℕ, List, true, false, refl, sym, ap, subst, codes, drop, length, if◌then◌else◌, Option, Some, None}
use Rattle.std.specs.Prelude.{option_map, MatchOption, nat_eq}
use Rattle.std.specs.List.{starts_with}
use Rattle.std.specs.Str.{IsCharBoundary}
use Rattle.std.specs.Str.Pattern.{FindsTextPrefix, LacksTextAt, StripsPrefix}
use Rattle.std.proofs.lemmas.Str.Pattern.{starts_text}
use Rattle.command_words.specs.Said.{chart_in, from_in, save_in, source_in}
use denote.Ref.{Bor}

-- what stands behind an option
abbrev behind : List ℕ → List ℕ → Option (List ℕ)
behind option word = if starts_with nat_eq word option then Some (drop (length option) word) else None

there : (option word : List ℕ) (k : ℕ) → FindsTextPrefix option word (Some k) → behind option word ≡ Some (drop k word)
there option word k (size, is, at) =
    subst (λ b. (if b then Some (drop (length option) word) else None) ≡ Some (drop k word))
    (starts_text true option word (k, (size, is, at), subst (IsCharBoundary word) (sym size) at))
    (ap (λ n. Some (drop n word)) (sym size))

absent : (option word : List ℕ) → LacksTextAt option word 0 → behind option word ≡ None
absent option word lacks =
    subst (λ b. (if b then Some (drop (length option) word) else None) ≡ None) (starts_text false option word lacks) refl

stripped : (option word : List ℕ) (r : Option (Bor (List ℕ)))
    → MatchOption r (FindsTextPrefix option word None) (λ x. StripsPrefix (FindsTextPrefix option) word x.now)
    → option_map (λ s. s.now) r ≡ behind option word
stripped option word None lacks = sym (absent option word lacks)
stripped option word (Some x) (k, found, rest, size) = ap Some rest ∙ sym (there option word k found)

abbrev source_option : List ℕ
source_option = codes "--source="

abbrev chart_option : List ℕ
chart_option = codes "--chart="

pub said : (word : List ℕ) (r : Option (Bor (List ℕ)))
    → MatchOption r (FindsTextPrefix source_option word None) (λ x. StripsPrefix (FindsTextPrefix source_option) word x.now)
    → option_map (λ s. s.now) r ≡ source_in word
said word r finds = stripped source_option word r finds

pub chart_said : (word : List ℕ) (r : Option (Bor (List ℕ)))
    → MatchOption r (FindsTextPrefix chart_option word None) (λ x. StripsPrefix (FindsTextPrefix chart_option) word x.now)
    → option_map (λ s. s.now) r ≡ chart_in word
chart_said word r finds = stripped chart_option word r finds

abbrev from_option : List ℕ
from_option = codes "--from="

abbrev save_option : List ℕ
save_option = codes "--save="

pub from_said : (word : List ℕ) (r : Option (Bor (List ℕ)))
    → MatchOption r (FindsTextPrefix from_option word None) (λ x. StripsPrefix (FindsTextPrefix from_option) word x.now)
    → option_map (λ s. s.now) r ≡ from_in word
from_said word r finds = stripped from_option word r finds

pub save_said : (word : List ℕ) (r : Option (Bor (List ℕ)))
    → MatchOption r (FindsTextPrefix save_option word None) (λ x. StripsPrefix (FindsTextPrefix save_option) word x.now)
    → option_map (λ s. s.now) r ≡ save_in word
save_said word r finds = stripped save_option word r finds
