-- A region that waits and sees a flag raised: what it looks at; and its leaving is, but for the variables, a step of the core chart.
use Rattle.std.proofs.Common.{◌≡◌, ℕ, zero, suc, pos, ⊎_elim, Bool, true, false, ◌||◌, Some, List, [], ◌∷◌, map, slice_get, Contains}
use Rattle.std.proofs.Common.{refl, sym, ap, subst, ◌∙◌}
use Rattle.std.specs.List.{list_any}
use Rattle.sc_values.specs.declared.value.Value.{Value}
use Rattle.sc_values.specs.declared.value.Value.TheVariants as value_is
use Rattle.core_charts.specs.declared.region.Transition.{Transition}
use Rattle.chart_machine.specs.declared.standing.Configuration.{Configuration}
use Rattle.chart_machine.specs.declared.standing.Standing.{Standing}
use Rattle.chart_machine.specs.declared.standing.Standing.TheVariants as at
use Rattle.chart_machine.specs.declared.table.Table.{Table}
use Rattle.chart_machine.specs.Steps.{to, state_in, step, verdict}
use Rattle.chart_machine.specs.Table.{state_at}
use Rattle.chart_machine.specs.Turns.{standing_of, inside, is_enabled}
use Rattle.chart_machine_laws.specs.Tree.{around, holder}
use Rattle.chart_machine_laws.proofs.LyingIn.{none_in, head_in, tail_in, head_or_tail}
use Rattle.abort_expansion.specs.Transitions.{is_raised}
use Rattle.abort_expansion_laws.proofs.InsideAround.{inside_around}
use Rattle.abort_expansion_laws.proofs.Leaving.{leaves}
use Rattle.abort_expansion_laws.proofs.MoreValues.{up_verdict}
use Rattle.preemption_laws.proofs.ApartTogether.{Through, through}
use Rattle.preemption_laws.specs.Looks.{look, Looks}
use Rattle.preemption_laws.specs.Waiting.{holds, is_waiting, sees, gone}
use Rattle.preemption_laws.proofs.NormalForms.{IsNormal, all_looks}
use Rattle.preemption_laws.proofs.Ground.{Ground, MayOn}
use Rattle.preemption_laws.proofs.SoundCores.{IsSound, not_guarded}

-- variables of which this one is raised
abbrev pub ups : ℕ → List Value
ups zero = value_is.Int (pos 1) ∷ []
ups (suc x) = value_is.Int (pos 1) ∷ ups x

ups_at : (x : ℕ) → slice_get (ups x) x ≡ Some (value_is.Int (pos 1))
ups_at zero = refl
ups_at (suc x) = ups_at x

is_up : (x : ℕ) → verdict (ups x) (Some (is_raised x)) ≡ Some true
is_up x = up_verdict x 1 (ups x) (ups_at x) (λ e. absurd cc)

-- one of these looks holds
pub one_holds : (c : Configuration) (left : ℕ) (xs : List ℕ) → list_any (holds c) (map (look left) xs) ≡ true →
    (x : ℕ) × Contains xs x × (holds c (look left x) ≡ true)
one_holds c left [] e = absurd cc
one_holds c left (x ∷ xs) e = by (holds c (look left x)) refl e (λ rest. one_holds c left xs rest)
  where
    by : (b : Bool) → holds c (look left x) ≡ b → (holds c (look left x) || list_any (holds c) (map (look left) xs)) ≡ true →
        (list_any (holds c) (map (look left) xs) ≡ true → (y : ℕ) × Contains xs y × (holds c (look left y) ≡ true)) →
        (y : ℕ) × Contains (x ∷ xs) y × (holds c (look left y) ≡ true)
    by true is e rest = (x, head_in x xs, is)
    by false is e rest =
        let y = rest (subst (λ b. (b || list_any (holds c) (map (look left) xs)) ≡ true) is e) in (y.0, tail_in x y.0 xs y.1, y.2)

pub any_holds : (c : Configuration) (left x : ℕ) (xs : List ℕ) → Contains xs x → holds c (look left x) ≡ true →
    list_any (holds c) (map (look left) xs) ≡ true
any_holds c left x [] h e = absurd (none_in x h)
any_holds c left x (y ∷ xs) h e =
    ⊎_elim (λ same. first (holds c (look left y)) (list_any (holds c) (map (look left) xs)) (subst (λ z. holds c (look left z) ≡ true) (sym same) e))
    (λ tail. second (holds c (look left y)) (list_any (holds c) (map (look left) xs)) (any_holds c left x xs tail e)) (head_or_tail y x xs h)
  where
    first : (a b : Bool) → a ≡ true → (a || b) ≡ true
    first true b is = refl
    first false b is = absurd cc

    second : (a b : Bool) → b ≡ true → (a || b) ≡ true
    second true b is = refl
    second false b is = is

module _ (k : Table) (looks : ℕ → List Transition) (l : Looks k looks) where
  -- the region stands in front of all looks of a state, and a flag that they look at is raised
  pub record Leaver (c : Configuration) (u : ℕ) : Type 0 where
    pub state : ℕ
    pub stands : standing_of c u ≡ at.Trying state (looks state)
    pub flag : ℕ
    pub seen : Contains (l.seen state) flag
    pub raised : holds c (look (l.left state) flag) ≡ true

  leaver_at : (c : Configuration) (u : ℕ) (x : Standing) → standing_of c u ≡ x → is_waiting k looks x ≡ true → sees k looks c x ≡ true →
      ((s : ℕ) (tests : List Transition) → x ≡ at.Trying s tests → tests ≡ looks s) → Leaver c u
  leaver_at c u at.Outside is waits up all = absurd cc
  leaver_at c u at.Ended is waits up all = absurd cc
  leaver_at c u (at.Entering s tests) is waits up all = absurd cc
  leaver_at c u (at.Guarding s tests) is waits up all = absurd cc
  leaver_at c u (at.Within s tests) is waits up all = absurd cc
  leaver_at c u (at.Acting s effects p) is waits up all = absurd cc
  leaver_at c u (at.Trying s tests) is waits up all =
      let one = one_holds c (l.left s) (l.seen s) (subst (λ ts. list_any (holds c) ts ≡ true) (l.are_looks s) up) in
      record { state = s; stands = is ∙ ap (at.Trying s) (all s tests refl); flag = one.0; seen = one.1; raised = one.2 }

  -- whoever sees a flag raised there does so wherever it is raised and the region stands there still
  pub sees_still : (d : Configuration) (s x : ℕ) → Contains (l.seen s) x → holds d (look (l.left s) x) ≡ true → (tests : List Transition) →
      sees k looks d (at.Trying s tests) ≡ true
  sees_still d s x seen up tests =
      subst (λ ts. list_any (holds d) ts ≡ true) (sym (l.are_looks s)) (any_holds d (l.left s) x (l.seen s) seen up)

  module _ (g : Ground k) where
    pub leaver : (c : Configuration) (u : ℕ) → IsSound k looks l g c → is_waiting k looks (standing_of c u) ≡ true →
        sees k looks c (standing_of c u) ≡ true → Leaver c u
    leaver c u sound waits up =
        leaver_at c u (standing_of c u) refl waits up
        (λ s tests is.
        all_looks k looks s tests (subst (λ x. IsNormal k looks x) is (sound.normal u)) (subst (λ x. is_waiting k looks x ≡ true) is waits))

    -- nobody is inside of a state that looks at flags
    pub nobody_inside : (s x : ℕ) → Contains (l.seen s) x → inside k s ≡ []
    nobody_inside s x seen = by (inside k s) refl
      where
        by : (rs : List ℕ) → inside k s ≡ rs → inside k s ≡ []
        by [] is = is
        by (q ∷ rs) is =
            let inner : Contains (around k q) s = inside_around k s q (subst (λ zs. Contains zs q) (sym is) (head_in q rs)) in
            let w : Through k g.tree g.holder_there q s = through k g.tree g.holder_there (around k q) q s refl inner in
            absurd (none_in w.side (subst (λ zs. Contains zs w.side) (l.no_regions s x seen) (g.tree.innermost w.side s w.rest w.directly)))

    -- whose turn it is in the core chart, too
    pub leaver_turn : (c : Configuration) (u : ℕ) → IsSound k looks l g c → Leaver c u → is_enabled k c u ≡ true
    leaver_turn c u sound h = by (l.seen h.state) refl
      where
        by : (xs : List ℕ) → l.seen h.state ≡ xs → is_enabled k c u ≡ true
        by [] none = absurd (none_in h.flag (subst (λ xs. Contains xs h.flag) none h.seen))
        by (y ∷ ys) some =
            let all : looks h.state ≡ look (l.left h.state) y ∷ map (look (l.left h.state)) ys =
            l.are_looks h.state ∙ ap (map (look (l.left h.state))) some in
            let stands : standing_of c u ≡ at.Trying h.state (look (l.left h.state) y ∷ map (look (l.left h.state)) ys) =
            h.stands ∙ ap (at.Trying h.state) all in
            let free = not_guarded k looks l g c sound.core.forms (around k u) in
            rw (stands, free) refl

    -- the configuration with other variables
    abbrev pub with_values : List Value → Configuration → Configuration
    with_values values c = record { variables = values; regions = c.regions }

    -- where its first look holds, it leaves so in the core chart
    pub leaves_in_core : (c : Configuration) (u : ℕ) → IsSound k looks l g c → Leaver c u →
        (values : List Value) × (step k u (with_values values c) ≡ Some (with_values values (gone k looks u c)))
    leaves_in_core c u sound h = by (l.seen h.state) refl
      where
        held : holder k h.state ≡ u
        held = (subst (λ x. MayOn k g u x) h.stands (sound.core.sits.stands u)).1

        by : (xs : List ℕ) → l.seen h.state ≡ xs → (values : List Value) × (step k u (with_values values c) ≡ Some (with_values values (gone k looks u c)))
        by [] none = absurd (none_in h.flag (subst (λ xs. Contains xs h.flag) none h.seen))
        by (y ∷ ys) some =
            let all : looks h.state ≡ look (l.left h.state) y ∷ map (look (l.left h.state)) ys =
            l.are_looks h.state ∙ ap (map (look (l.left h.state))) some in (
              ups y,
              leaves k (with_values (ups y) c) u h.state (look (l.left h.state) y) (map (look (l.left h.state)) ys)
                  (not_guarded k looks l g c sound.core.forms (around k u)) (h.stands ∙ ap (at.Trying h.state) all) (is_up y) refl
                  (nobody_inside h.state h.flag h.seen)
                  (subst (λ r. (state_at k (state_in k r (l.left h.state))).entered ≡ to r at.Ended ∷ []) held (l.ends_there h.state h.flag h.seen)),
            )
