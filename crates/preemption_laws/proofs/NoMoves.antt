-- Moves that leave each region where it stands are none.
use Rattle.std.proofs.Common.{◌≡◌, ◌≢◌, ℕ, zero, suc, ◌<◌, List, [], ◌∷◌, length, slice_set, refl, sym, ap, ◌∙◌, arith}
use Rattle.std.proofs.lemmas.List.{length-set}
use Rattle.chart_machine.specs.declared.standing.Move.{Move}
use Rattle.chart_machine.specs.declared.standing.Standing.{Standing}
use Rattle.chart_machine.specs.declared.standing.Standing.TheVariants as at
use Rattle.chart_machine.specs.Steps.{moved}
use Rattle.abort_expansion_laws.proofs.Leaving.{at_number, set_here}

-- whatever stood there, the region of the last move stands as that says
last_move : (m : Move) (ms : List Move) →
    (q : ℕ) × (x : Standing) × ((zs : List Standing) → q < length zs → at_number (moved (m ∷ ms) zs) q ≡ x)
last_move m [] = (m.region, m.standing, λ zs lt. set_here zs m.region m.standing lt)
last_move m (n ∷ ms) =
    let later = last_move n ms in (
      later.0,
      later.1,
      λ zs lt. later.2 (slice_set zs m.region m.standing) (let size = length-set zs m.region m.standing in omega (size, lt, arith)),
    )

another : (x : Standing) → (y : Standing) × (x ≢ y)
another at.Outside = (at.Ended, λ e. absurd cc)
another at.Ended = (at.Outside, λ e. absurd cc)
another (at.Trying s tests) = (at.Outside, λ e. absurd cc)
another (at.Entering s tests) = (at.Outside, λ e. absurd cc)
another (at.Guarding s tests) = (at.Outside, λ e. absurd cc)
another (at.Within s tests) = (at.Outside, λ e. absurd cc)
another (at.Acting s effects p) = (at.Outside, λ e. absurd cc)

-- so many regions that stand alike
abbrev standing_so : ℕ → Standing → List Standing
standing_so zero x = []
standing_so (suc n) x = x ∷ standing_so n x

as_many : (n : ℕ) (x : Standing) → length (standing_so n x) ≡ n
as_many zero x = refl
as_many (suc n) x = ap suc (as_many n x)

each_so : (n q : ℕ) (x : Standing) → q < n → at_number (standing_so n x) q ≡ x
each_so zero q x lt = absurd (omega (lt, arith))
each_so (suc n) zero x lt = refl
each_so (suc n) (suc q) x lt = each_so n q x (omega (lt, arith))

pub no_moves : (ms : List Move) → ((q : ℕ) (zs : List Standing) → at_number (moved ms zs) q ≡ at_number zs q) → ms ≡ []
no_moves [] stay = refl
no_moves (m ∷ ms) stay =
    let last = last_move m ms in
    let y = another last.1 in
    let zs : List Standing = standing_so (suc last.0) y.0 in
    let size : length zs ≡ suc last.0 = as_many (suc last.0) y.0 in
    absurd (y.1
    (sym (last.2 zs (omega (size, arith))) ∙ (stay last.0 zs ∙ each_so (suc last.0) last.0 y.0 (omega arith))))
