-- All regions of an area are reached, where each one begins it or the region around it lies in it.
use Rattle.std.proofs.Common.{◌≡◌, ℕ, zero, suc, ◌<◌, ◌⊎◌, ⊎_elim, List, ◌∷◌, Contains, sym, subst, arith}
use Rattle.chart_machine.specs.declared.table.Table.{Table}
use Rattle.chart_machine_laws.specs.Tree.{IsTree, IsThere, around, holder}
use Rattle.chart_machine_laws.proofs.LyingIn.{head_in}

module _ (k : Table) (In : ℕ → Type 0) where
  -- the region around this one lies in the area
  pub record Above (q : ℕ) : Type 0 where
    pub next : ℕ
    pub rest : List ℕ
    pub round : around k q ≡ next ∷ rest
    pub there : IsThere k (holder k next)
    pub inner : In (holder k next)

  module _ (tree : IsTree k) (Reached : ℕ → Type 0)
      (deeper : (q u : ℕ) (us : List ℕ) → IsThere k q → around k q ≡ u ∷ us → Reached (holder k u) → Reached q)
      (begins : (q : ℕ) → IsThere k q → In q → Reached q ⊎ Above q) where
    below_number : (bound q : ℕ) → q < bound → IsThere k q → In q → Reached q
    below_number zero q lt there inner = absurd (omega (lt, arith))
    below_number (suc bound) q lt there inner =
        ⊎_elim (λ here. here)
        (λ a.
        let up : holder k a.next < q = tree.deeper q a.next (subst (λ zs. Contains zs a.next) (sym a.round) (head_in a.next a.rest)) in
        deeper q a.next a.rest there a.round (below_number bound (holder k a.next) (omega (up, lt, arith)) a.there a.inner))
        (begins q there inner)

    pub area_reached : (q : ℕ) → IsThere k q → In q → Reached q
    area_reached q there inner = below_number (suc q) q (omega arith) there inner
