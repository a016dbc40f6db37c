-- A printed number is one token, which is that number.
use Rattle.std.proofs.Common.{◌≡◌, ℕ, zero, suc, ◌+◌, ◌-◌, ◌*◌, ◌/◌, ◌%◌, ◌^◌, ◌<◌, ◌≤◌, Bool, true, false, ◌&&◌, nat_eq, nat_le, pos, List, [], ◌∷◌}
use Rattle.std.proofs.Common.{◌++◌, refl, sym, ap, subst, ◌∙◌, ◌⊎◌, inl, inr, arith}
use Rattle.std.specs.Fmt.{decimal}
use Rattle.std.specs.Cmp.{unsigned_Decides}
use Rattle.std.specs.List.{list_all}
use Rattle.std.proofs.lemmas.Fmt.{decimal_step, decimal_digit}
use Rattle.std.proofs.lemmas.List.Folds.{list_all-append}
use Rattle.sc_values.specs.Name.{is_digit}
use Rattle.sc_text.specs.declared.token.TokenKind.TheVariants as kind
use Rattle.sc_text.specs.Tokens.{written, written_behind, has_idle_zero, number_limit, a_number}
use Rattle.scl_printer_laws.proofs.Longest.{Closes, closes_digits, Quiet, quiet_digit, digits_longest}
use Rattle.scl_printer_laws.proofs.Cuts.{Cuts, cuts_one}

le_true : (a b : ℕ) → a ≤ b → nat_le a b ≡ true
le_true a b h = grind (arith, h)

both_true : (a b : Bool) → a ≡ true → b ≡ true → a && b ≡ true
both_true a b e f = ap (λ x. x && b) e ∙ f

digit_is : (d : ℕ) → d < 10 → is_digit (48 + d) ≡ true
digit_is d low = both_true (nat_le 48 (48 + d)) (nat_le (48 + d) 57) (le_true 48 (48 + d) (omega (arith, low))) (le_true (48 + d) 57 (omega (arith, low)))

written_last : (n : ℕ) (xs : List ℕ) (c : ℕ) → written_behind n (xs ++ c ∷ []) ≡ written_behind n xs * 10 + (c - 48)
written_last n [] c = refl
written_last n (x ∷ xs) c = written_last (n * 10 + (x - 48)) xs c

-- the digits of a number: the first is 0 where it is alone
pub record Digits (n : ℕ) (text : List ℕ) : Type 0 where
  pub first : ℕ
  pub more : List ℕ
  pub is : text ≡ first ∷ more
  pub digit : is_digit first ≡ true
  pub digits : list_all is_digit more ≡ true
  pub value : written (first ∷ more) ≡ n
  pub leads : (more ≡ []) ⊎ (49 ≤ first)

first_above : (first : ℕ) (more : List ℕ) (q : ℕ) → written (first ∷ more) ≡ q → 1 ≤ q → (more ≡ []) ⊎ (49 ≤ first) → 49 ≤ first
first_above first more q v some (inr le) = le
first_above first (m ∷ more) q v some (inl e) = absurd (cc)
first_above first [] q v some (inl e) = let w : 0 * 10 + (first - 48) ≡ q = v in omega (arith, w, some)

one_digit : (n : ℕ) → n < 10 → Digits n (decimal n)
one_digit n low = record {
  first = 48 + n;
  more = [];
  is = decimal_digit n low;
  digit = digit_is n low;
  digits = refl;
  value = (let e : 0 * 10 + (48 + n - 48) ≡ n = omega arith in e);
  leads = inl refl;
}

one_more : (n : ℕ) → 10 ≤ n → n < 2 ^ 64 → Digits (n / 10) (decimal (n / 10)) → Digits n (decimal n)
one_more n high low h =
    let c : ℕ = 48 + n % 10 in
    let small : n % 10 < 10 = omega arith in
    let some : 1 ≤ n / 10 = omega (arith, high) in
    let v = h.value in
    let sum : written (h.first ∷ h.more) * 10 + (48 + n % 10 - 48) ≡ n = omega (arith, v) in
    record {
      first = h.first;
      more = h.more ++ c ∷ [];
      is = decimal_step n high low ∙ ap (λ t. t ++ c ∷ []) h.is;
      digit = h.digit;
      digits = list_all-append is_digit h.more (c ∷ []) ∙ both_true (list_all is_digit h.more) (is_digit c && true) h.digits (both_true (is_digit c) true
          (digit_is (n % 10) small) refl);
      value = written_last (0 * 10 + (h.first - 48)) h.more c ∙ sum;
      leads = inr (first_above h.first h.more (n / 10) h.value some h.leads);
    }

less_or_not : (m n : ℕ) → (m < n) ⊎ (n ≤ m)
less_or_not m n = grind arith

digits_by : (fuel n : ℕ) → n ≤ suc fuel → n < 2 ^ 64 → (n / 10 ≤ fuel → n / 10 < 2 ^ 64 → Digits (n / 10) (decimal (n / 10))) → (n < 10) ⊎ (10 ≤ n)
    → Digits n (decimal n)
digits_by fuel n le low lower (inl small) = one_digit n small
digits_by fuel n le low lower (inr high) = one_more n high low (lower (omega (arith, le, high)) (omega (arith, low)))

digits_to : (fuel n : ℕ) → n ≤ fuel → n < 2 ^ 64 → Digits n (decimal n)
digits_to zero n le low = one_digit n (omega (arith, le))
digits_to (suc fuel) n le low = digits_by fuel n le low (λ a b. digits_to fuel (n / 10) a b) (less_or_not n 10)

not_48 : (first : ℕ) → 49 ≤ first → (b : Bool) → nat_eq first 48 ≡ b → b ≡ false
not_48 first le false e = refl
not_48 first le true e = let same = (unsigned_Decides first 48).0 e in absurd (omega (arith, le, same))

no_idle : (first : ℕ) (more : List ℕ) → (more ≡ []) ⊎ (49 ≤ first) → has_idle_zero (first ∷ more) ≡ false
no_idle first [] h = refl
no_idle first (s ∷ r) (inl e) = absurd (cc)
no_idle first (s ∷ r) (inr le) = not_48 first le (nat_eq first 48) refl

digits_of : (n : ℕ) → n ≤ number_limit → Digits n (decimal n)
digits_of n low = digits_to n n (omega arith) (omega (arith, low))

pub cuts_number : (n : ℕ) → n ≤ number_limit → (rest : List ℕ) → Closes rest → (at : ℕ)
    → Cuts (decimal n) rest at (record { kind = kind.Number (pos n); at = at } ∷ [])
cuts_number n low rest closes at =
    let d = digits_of n low in
    let v = d.value in
    subst (λ t. Cuts t rest at (record { kind = kind.Number (pos n); at = at } ∷ [])) (sym d.is)
    (subst (λ m. Cuts (d.first ∷ d.more) rest at (record { kind = kind.Number (pos m); at = at } ∷ [])) d.value
    (cuts_one (d.first ∷ d.more) rest at (kind.Number (pos (written (d.first ∷ d.more))))
    (digits_longest d.first d.more rest d.digit d.digits (closes_digits rest closes))
    (a_number (d.first ∷ d.more) (both_true (is_digit d.first) (list_all is_digit d.more) d.digit d.digits) (no_idle d.first d.more d.leads) (omega
    (arith, v, low)))))

pub number_quiet : (n : ℕ) → n ≤ number_limit → (rest : List ℕ) → Quiet (decimal n ++ rest)
number_quiet n low rest =
    let d = digits_of n low in
    subst (λ t. Quiet (t ++ rest)) (sym d.is) (quiet_digit d.first (d.more ++ rest) d.digit)
