-- Accesses that may stand in any order.
use Rattle.std.proofs.Common.{◌≡◌, ℕ, inl, inr}
use Rattle.sc_values.specs.Access.{Access, Nothing, Precedes, init_update, init_read, update_read, Clash, two_inits, two_updates, MayPrecede}
use Rattle.abort_expansion_laws.specs.Stages.{Touches}

-- one that writes nothing may come second
none_before : (a b : Access) → b.writes ≡ Nothing → ¬ Precedes b a
none_before a b e (init_update x f i u) = let w = i.1 in absurd (cc)
none_before a b e (init_read x i u) = let w = i.1 in absurd (cc)
none_before a b e (update_read x f i u) = absurd (cc)

no_clash_after : (a b : Access) → b.writes ≡ Nothing → ¬ Clash a b
no_clash_after a b e (two_inits x i j unlike) = let w = j.1 in absurd (cc)
no_clash_after a b e (two_updates x f g i j ne) = absurd (cc)

no_clash_before : (a b : Access) → a.writes ≡ Nothing → ¬ Clash a b
no_clash_before a b e (two_inits x i j unlike) = let w = i.1 in absurd (cc)
no_clash_before a b e (two_updates x f g i j ne) = absurd (cc)

pub plain_second : (a b : Access) → b.writes ≡ Nothing → MayPrecede a b
plain_second a b e = record { no_order = none_before a b e; no_clash = no_clash_after a b e }

-- one that writes nothing may come first, where it isn't to come second
pub plain_first : (a b : Access) → a.writes ≡ Nothing → ¬ Precedes b a → MayPrecede a b
plain_first a b e none = record { no_order = none; no_clash = no_clash_before a b e }

-- two that share no variable may stand in any order
pub sharing_none : (a b : Access) → ((x : ℕ) → Touches a x → Touches b x → ⊥) → MayPrecede a b
sharing_none a b none = record { no_order = order; no_clash = clash }
  where
    order : ¬ Precedes b a
    order (init_update x f i u) = none x (inr (inr (f, u))) (inr (inl i))
    order (init_read x i u) = none x (inl u) (inr (inl i))
    order (update_read x f i u) = none x (inl u) (inr (inr (f, i)))

    clash : ¬ Clash a b
    clash (two_inits x i j unlike) = none x (inr (inl i)) (inr (inl j))
    clash (two_updates x f g i j ne) = none x (inr (inr (f, i))) (inr (inr (g, j)))
