-- Lists that are made one for each number.
use Rattle.std.proofs.Common.{ℕ, ◌≡◌, ◌<◌, ◌+◌, inl, inr, List, [], ◌∷◌, ◌++◌, length, get_or, refl, sym, subst, arith, length-append}
use Rattle.std.proofs.lemmas.Grind.{common_steps}
use Rattle.sc_graph.proofs.Each.{below_or_at}
use Rattle.verifier.specs.Inside.Each.{EachOf}

pub each_none : (P : List ℕ → List ℕ → Type 0) (lists : List (List ℕ)) → EachOf P 0 lists []
each_none P lists = record { long = refl; each = λ x lt. absurd (omega arith) }

before_last : (made : List (List ℕ)) (new : List ℕ) (x : ℕ) → x < length made → get_or (made ++ new ∷ []) x [] ≡ get_or made x []
before_last made new x lt = grind (arith, common_steps)

the_last : (made : List (List ℕ)) (new : List ℕ) (x : ℕ) → x ≡ length made → get_or (made ++ new ∷ []) x [] ≡ new
the_last made new x e = grind (arith, common_steps)

pub each_more : (P : List ℕ → List ℕ → Type 0) (n : ℕ) (lists made : List (List ℕ)) (new : List ℕ) → EachOf P n lists made → P (get_or lists n []) new
    → EachOf P (n + 1) lists (made ++ new ∷ [])
each_more P n lists made new e here =
    let long : length made ≡ n = e.long in
    let more : length (made ++ new ∷ []) ≡ length made + 1 = length-append made (new ∷ []) in
    record {
      long = omega (arith, long, more);
      each = λ x lt. elim (below_or_at x n lt) [
        | inl less ↦ subst (P (get_or lists x [])) (sym (before_last made new x (omega (arith, less, long)))) (e.each x less)
        | inr same ↦ subst (λ (k : ℕ). P (get_or lists k []) (get_or (made ++ new ∷ []) k [])) (sym same)
            (subst (P (get_or lists n [])) (sym (the_last made new n (sym long))) here)
      ];
    }
