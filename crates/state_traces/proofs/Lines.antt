-- The line of a tick, with more behind it.
use Rattle.std.proofs.Common.{◌≡◌, ◌∙◌, ◌-◌, ℕ, true, false, List, [], ◌∷◌}
use Rattle.std.proofs.Common.{◌++◌, length, take, codes, decimal, ap, sym, arith, append_assoc, length-append}
use Rattle.std.proofs.Math.Seq.{take-append_seam}
use Rattle.serde_json.specs.Data.{Members, no_members}
use Rattle.serde_json.specs.Written.{members_text}
use Rattle.serde_json.proofs.OnLiterals.{serde_json_on_literals}
use Rattle.trace_lines.specs.Output.{tick_line}
use Rattle.state_traces.specs.Lines.{told_line}

-- a line up to the brace that ends it
abbrev head : ℕ → ℕ → Members → List ℕ
head tick steps shown =
    codes "{\"out\":{" ++ (members_text false shown ++ (codes ",\"steps\":" ++ (decimal steps ++ (codes ",\"tick\":" ++ decimal tick))))

regroup : (a m b s c t e f : List ℕ) → (a ++ (m ++ (b ++ (s ++ (c ++ (t ++ e)))))) ++ f ≡ (a ++ (m ++ (b ++ (s ++ (c ++ t))))) ++ (e ++ f)
regroup a m b s c t e f = simp append_assoc

told_head : (tick steps : ℕ) (shown more : Members) → told_line tick steps shown more ≡ head tick steps shown ++ (members_text true more ++ 10 ∷ [])
unfolding serde_json_on_literals
told_head tick steps shown more =
    regroup (codes "{\"out\":{") (members_text false shown) (codes ",\"steps\":") (decimal steps) (codes ",\"tick\":") (decimal tick) (members_text true more)
    (10 ∷ [])

plain_head : (tick steps : ℕ) (shown : Members) → tick_line tick steps shown ≡ head tick steps shown ++ 125 ∷ 10 ∷ []
plain_head tick steps shown = told_head tick steps shown no_members

-- what stands before the last two bytes
before_two : (xs : List ℕ) (a b : ℕ) → take (length (xs ++ a ∷ b ∷ []) - 2) (xs ++ a ∷ b ∷ []) ≡ xs
before_two xs a b =
    let long = length-append xs (a ∷ b ∷ []) in
    let short : length (xs ++ a ∷ b ∷ []) - 2 ≡ length xs = omega (arith, long) in
    ap (λ (n : ℕ). take n (xs ++ a ∷ b ∷ [])) short ∙ take-append_seam xs (a ∷ b ∷ [])

-- a plain line, opened again, with more behind it
pub told : (tick steps : ℕ) (shown more : Members) (plain cut put line : List ℕ) → plain ≡ tick_line tick steps shown → cut ≡ take (length plain - 2) plain
    → put ≡ cut ++ members_text true more → line ≡ put ++ 10 ∷ [] → line ≡ told_line tick steps shown more
told tick steps shown more plain cut put line is opened more_put ended =
    let whole : plain ≡ head tick steps shown ++ 125 ∷ 10 ∷ [] = is ∙ plain_head tick steps shown in
    let begun : cut ≡ head tick steps shown = opened ∙ ap (λ (xs : List ℕ). take (length xs - 2) xs) whole ∙ before_two (head tick steps shown) 125 10 in
    ended ∙ ap (λ t. t ++ 10 ∷ []) more_put ∙ ap (λ t. (t ++ members_text true more) ++ 10 ∷ []) begun
    ∙ append_assoc (head tick steps shown) (members_text true more) (10 ∷ []) ∙ sym (told_head tick steps shown more)
