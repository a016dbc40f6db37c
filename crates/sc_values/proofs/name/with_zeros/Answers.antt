use Rattle.std.proofs.Common.{◌≡◌, ℕ, zero, suc, ◌-◌, ◌++◌, drop, length, replicate, ap, ◌∙◌, arith}
use Rattle.sc_values.proofs.name.with_zeros.Goals as goal

drop-replicate : (n m a : ℕ) → drop n (replicate m a) ≡ replicate (m - n) a
drop-replicate zero m a = let e : m ≡ m - 0 = omega arith in ap (λ (k : ℕ). replicate k a) e
drop-replicate (suc n) zero a = let e : 0 ≡ 0 - suc n = omega arith in ap (λ (k : ℕ). replicate k a) e
drop-replicate (suc n) (suc m) a = let e : m - n ≡ suc m - suc n = omega arith in drop-replicate n m a ∙ ap (λ (k : ℕ). replicate k a) e

pub returns : goal.returns
returns c = c.write_front.ensures ∙ ap (λ t. c.args.bytes.now ++ t) (drop-replicate (length c.args.bytes.now) 64 0)
