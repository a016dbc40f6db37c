-- Climbing from a thread to those above it, one generation at a time.
use Rattle.std.proofs.Common.{ℕ, suc, ◌≡◌, ◌-◌, ◌+◌, ◌<◌, Option, Some, None, MatchOption, Bool, true, false, not, is_some, refl, sym, subst, arith}
use Rattle.std.specs.Bool.{Decides}
use Rattle.sc_graph.specs.Program.{Program, parent_of}
use Rattle.sc_graph.specs.Threads.{Descends}
use Rattle.sc_graph.specs.Inside.Lookups.{HasNoAncestor}

pub climbs : (p : Program) (n t q u : ℕ) → parent_of p t ≡ Some q → Descends p (suc n) t u → Descends p n q u
climbs p n t q u up d =
    let e : d.0 ≡ q = cc (d.1, up) in
    subst (λ (x : ℕ). Descends p n x u) e d.2

pub no_climb : (p : Program) (n t u : ℕ) → parent_of p t ≡ None → ¬ Descends p (suc n) t u
no_climb p n t u root d = cc (d.1, root)

one_less : (g k : ℕ) → k < g → g - k ≡ suc (g - (k + 1))
one_less g k lt = omega arith

pub climbs_on : (p : Program) (g k t q u : ℕ) → k < g → parent_of p t ≡ Some q → Descends p (g - k) t u → Descends p (g - (k + 1)) q u
climbs_on p g k t q u lt up d =
    climbs p (g - (k + 1)) t q u up (subst (λ (n : ℕ). Descends p n t u) (one_less g k lt) d)

pub climbs_back : (p : Program) (g k t q u : ℕ) → k < g → parent_of p t ≡ Some q → Descends p (g - (k + 1)) q u → Descends p (g - k) t u
climbs_back p g k t q u lt up d =
    let e : suc (g - (k + 1)) ≡ g - k = sym (one_less g k lt) in
    subst (λ (n : ℕ). Descends p n t u) e (q, up, d)

pub climbs_not : (p : Program) (g k t u : ℕ) → k < g → parent_of p t ≡ None → ¬ Descends p (g - k) t u
climbs_not p g k t u lt root d =
    no_climb p (g - (k + 1)) t u root (subst (λ (n : ℕ). Descends p n t u) (one_less g k lt) d)

pub ancestor_decides : (p : Program) (n t : ℕ) (found : Option ℕ) (r : Bool) → is_some found ≡ not r
    → MatchOption found (HasNoAncestor p n t) (λ u. Descends p n t u) → Decides r (HasNoAncestor p n t)
ancestor_decides p n t None true e none = (λ h. none, λ h. refl)
ancestor_decides p n t None false e none = (λ h. none, λ h. cc e)
ancestor_decides p n t (Some u) true e above = (λ h. cc e, λ h. refl)
ancestor_decides p n t (Some u) false e above = (λ h. cc h, λ h. absurd (h.none u above))
