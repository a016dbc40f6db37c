-- A name, and what stands before its ending.
use Rattle.std.proofs.Common.{◌≡◌, ◌∙◌, ℕ, ◌+◌, ◌-◌, Bool, true, false, cond, Option, Some, None, option_map, Bor, List, ◌++◌, length, take, drop}
use Rattle.std.proofs.Common.{refl, ap, sym, arith, length-append}
use Rattle.std.specs.Bool.{Decides}
use Rattle.std.specs.Prelude.{MatchOption}
use Rattle.std.specs.Str.Pattern.{FindsTextSuffix, StripsSuffix}
use Rattle.std.proofs.lemmas.List.{take-append-drop}
use Rattle.std.proofs.lemmas.Slice.Eq.{bytes_eq-Decides}
use Rattle.std.proofs.Math.Seq.{drop-append_seam}
use Rattle.controller_tests.specs.Names.{without}

-- where the ending stands, it is behind what stands before it
behind : (ending name front : List ℕ) → name ≡ front ++ ending → drop (length name - length ending) name ≡ ending
behind ending name front e =
    let long : length name ≡ length front + length ending = ap length e ∙ length-append front ending in
    let place : length name - length ending ≡ length front = omega arith in
    ap (λ n. drop n name) place ∙ ap (λ xs. drop (length front) xs) e ∙ drop-append_seam front ending

by_test : (ending name : List ℕ) (r : Option (Bor (List ℕ))) (b : Bool) → Decides b (drop (length name - length ending) name ≡ ending)
    → MatchOption r (FindsTextSuffix ending name None) (λ x. StripsSuffix (FindsTextSuffix ending) name x.now)
    → option_map (λ f. f.now) r ≡ cond b (Some (take (length name - length ending) name)) None
by_test ending name None true decides cases =
    let before = length name - length ending in
    absurd (cases (take before name) (sym (take-append-drop before name) ∙ ap (λ xs. take before name ++ xs) (decides.0 refl)))
by_test ending name None false decides cases = refl
by_test ending name (Some x) true decides cases =
    let n = cases.0 in
    let long : n ≡ length ending = cases.1.0 in
    ap Some (cases.2 ∙ ap (λ k. take (length name - k) name) long)
by_test ending name (Some x) false decides cases =
    let n = cases.0 in
    let no = decides.1 (behind ending name (take (length name - n) name) cases.1.1) in
    absurd cc

-- a name without an ending is what was stripped of it
pub without_is : (ending name : List ℕ) (r : Option (Bor (List ℕ)))
    → MatchOption r (FindsTextSuffix ending name None) (λ x. StripsSuffix (FindsTextSuffix ending) name x.now)
    → option_map (λ f. f.now) r ≡ without ending name
without_is ending name r cases = by_test ending name r _ (bytes_eq-Decides (drop (length name - length ending) name) ending) cases
