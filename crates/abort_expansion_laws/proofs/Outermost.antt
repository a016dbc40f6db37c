-- The outermost superstate around a region in which somebody guards.
use Rattle.std.proofs.Common.{◌≡◌, ℕ, ⊎_elim, Bool, true, false, ◌||◌, List, [], ◌∷◌, Contains, refl, sym, subst, ◌∙◌}
use Rattle.chart_machine.specs.declared.standing.Configuration.{Configuration}
use Rattle.chart_machine.specs.declared.table.Table.{Table}
use Rattle.chart_machine.specs.Turns.{standing_of, guards as has_to_guard, is_guarded}
use Rattle.chart_machine_laws.proofs.LyingIn.{IsNested, around, holder, head_in, tail_in}
use Rattle.abort_expansion_laws.proofs.InsideAround.{one_in_other}
use Rattle.abort_expansion_laws.proofs.Unchanged.{none_among}

module _ (k : Table) (tree : IsNested k) (c : Configuration) where
  pub record Outermost (zs : List ℕ) : Type 0 where
    pub guard : ℕ
    pub inner : Contains zs guard
    pub guards_now : has_to_guard (standing_of c (holder k guard)) ≡ true
    pub free : is_guarded k c (around k (holder k guard)) ≡ false

  pub outermost : (zs : List ℕ) (p : ℕ) → around k p ≡ zs → is_guarded k c zs ≡ true → Outermost zs
  outermost [] p e guarded_by = absurd cc
  outermost (u ∷ zs) p e guarded_by =
      by (is_guarded k c zs) refl guarded_by (outermost zs (holder k u) (sym (tree.upward p u zs e)))
    where
      first_true : (a b : Bool) → b ≡ false → (a || b) ≡ true → a ≡ true
      first_true true b f g = refl
      first_true false b f g = let wrong : true ≡ false = sym g ∙ f in absurd cc

      by : (b : Bool) → is_guarded k c zs ≡ b → (has_to_guard (standing_of c (holder k u)) || is_guarded k c zs) ≡ true →
          (is_guarded k c zs ≡ true → Outermost zs) → Outermost (u ∷ zs)
      by true is some further =
          let outer : Outermost zs = further is in
          record { guard = outer.guard; inner = tail_in u outer.guard zs outer.inner; guards_now = outer.guards_now; free = outer.free }
      by false is some further =
          record {
            guard = u;
            inner = head_in u zs;
            guards_now = first_true (has_to_guard (standing_of c (holder k u))) (is_guarded k c zs) is some;
            free = subst (λ ys. is_guarded k c ys ≡ false) (tree.upward p u zs e) is;
          }

  -- there is one such
  pub outermost_one : (q s u : ℕ) → Contains (around k q) s → Contains (around k q) u → has_to_guard (standing_of c (holder k s)) ≡ true →
      has_to_guard (standing_of c (holder k u)) ≡ true → is_guarded k c (around k (holder k s)) ≡ false →
      is_guarded k c (around k (holder k u)) ≡ false → s ≡ u
  outermost_one q s u in_s in_u s_guards u_guards s_free u_free =
      ⊎_elim (λ same. same)
      (⊎_elim (λ outer. absurd (never s u s_free u_guards outer)) (λ outer. absurd (never u s u_free s_guards outer)))
      (one_in_other k tree (around k q) q s u refl in_s in_u)
    where
      never : (a b : ℕ) → is_guarded k c (around k (holder k a)) ≡ false → has_to_guard (standing_of c (holder k b)) ≡ true →
          Contains (around k (holder k a)) b → ⊥
      never a b free guards_b outer =
          let wrong : true ≡ false = sym guards_b ∙ none_among (λ v. has_to_guard (standing_of c (holder k v))) (around k (holder k a)) b free outer in
          absurd cc
