-- An example: sums of ones and of sums in parentheses, of which two may be open at once.
use Rattle.std.specs.Prelude.{ℕ, zero, suc, ◌+◌, nat_eq, ◌≡◌, List, [], ◌∷◌, refl, sum}
use Rattle.std.specs.Cmp.{unsigned_Decides}
use Rattle.grammar.specs.Grammar.{Tokens, Grammar, one, seq, either, many, made, barred, spells}
use Rattle.grammar.specs.Read.{Flaw, Got, Failed, read_all}
use Rattle.grammar.specs.Fault.{Fault, Told}

-- each number is a token and its own class
abbrev pub numbers : Tokens
numbers = record {
  Token = ℕ;
  Class = ℕ;
  class = λ t. t;
  same = nat_eq;
  same_is = unsigned_Decides;
  sample = λ c. c;
  sample_is = λ c. refl;
}

abbrev pub one_word : ℕ
one_word = 0

abbrev pub plus : ℕ
plus = 1

abbrev pub opening : ℕ
opening = 2

abbrev pub closing : ℕ
closing = 3

abbrev pub sum_of : Grammar numbers ℕ → Grammar numbers ℕ
sum_of operand = made (λ x. x.0 + sum x.1) (seq operand (many (made (λ x. x.1) (seq (one (plus ∷ [])) operand))))

abbrev pub unit : Grammar numbers ℕ
unit = made (λ t. 1) (one (one_word ∷ []))

-- a one, or a sum in parentheses where so many more may be open
abbrev pub operand : ℕ → Grammar numbers ℕ
operand zero = barred (opening ∷ []) unit
operand (suc n) =
    either (made (λ x. x.1) (seq (one (opening ∷ [])) (made (λ x. x.0)
    (seq (sum_of (operand n)) (one (closing ∷ [])))))) unit

abbrev pub sums : ℕ → Grammar numbers ℕ
sums k = sum_of (operand (suc (suc k)))

-- each text is told: what it sums to, or its one fault
pub record SumsAreTold : Type 0 where
  pub told : (text : List ℕ) → Told sums text (read_all (sums 0) text)
  pub spelled : (text : List ℕ) (n : ℕ) → spells (sums 0) text n → read_all (sums 0) text ≡ Got n []
  pub faulty : (text rest : List ℕ) (flaw : Flaw) → Fault sums text flaw rest
      → read_all (sums 0) text ≡ Failed flaw rest
