-- Two configurations of a chart in which nobody is enabled, and which are one to the machine that waits, are one.
use Rattle.std.proofs.Common.{◌≡◌, ℕ, Bool, true, false, ◌||◌, List, [], ◌∷◌, length, refl, sym, ap, ap₂}
use Rattle.std.proofs.Common.{◌∙◌, arith}
use Rattle.std.proofs.lemmas.List.{length-map}
use Rattle.sc_values.specs.Runs.{IsOver}
use Rattle.scl_graph_laws.proofs.Searching.{unlike}
use Rattle.core_charts.specs.declared.region.Transition.{Transition}
use Rattle.chart_machine.specs.declared.standing.Configuration.{Configuration}
use Rattle.chart_machine.specs.declared.standing.Standing.{Standing}
use Rattle.chart_machine.specs.declared.standing.Standing.TheVariants as at
use Rattle.chart_machine.specs.declared.table.Table.{Table}
use Rattle.chart_machine.specs.Machine.{machine}
use Rattle.chart_machine.specs.Turns.{standing_of, guards, is_guarded, is_enabled}
use Rattle.chart_machine_laws.specs.Tree.{around, holder}
use Rattle.preemption_laws.specs.Waiting.{waiting_at, still}
use Rattle.preemption_laws.proofs.StillConfigurations.{stands_still}
use Rattle.preemption_laws.proofs.StepsSwap.{all_same}

abbrev is_trying : Standing → Bool
is_trying (at.Trying s tests) = true
is_trying other = false

-- nothing is left to test
abbrev Done : Standing → Type 0
Done x = (s : ℕ) (tests : List Transition) → x ≡ at.Trying s tests → tests ≡ []

module _ (k : Table) (looks : ℕ → List Transition) where
  abbrev W : Standing → Standing
  W = waiting_at k looks

  trying_still : (x : Standing) → is_trying (W x) ≡ is_trying x
  trying_still at.Outside = refl
  trying_still at.Ended = refl
  trying_still (at.Trying s tests) = refl
  trying_still (at.Entering s tests) = refl
  trying_still (at.Guarding s tests) = refl
  trying_still (at.Within s tests) = refl
  trying_still (at.Acting s effects p) = refl

  others_still : (x : Standing) → is_trying x ≡ false → W x ≡ x
  others_still at.Outside e = refl
  others_still at.Ended e = refl
  others_still (at.Trying s tests) e = absurd cc
  others_still (at.Entering s tests) e = refl
  others_still (at.Guarding s tests) e = refl
  others_still (at.Within s tests) e = refl
  others_still (at.Acting s effects p) e = refl

  guards_still : (x : Standing) → guards (W x) ≡ guards x
  guards_still at.Outside = refl
  guards_still at.Ended = refl
  guards_still (at.Trying s tests) = refl
  guards_still (at.Entering s tests) = refl
  guards_still (at.Guarding s tests) = refl
  guards_still (at.Within s tests) = refl
  guards_still (at.Acting s effects p) = refl

  both_done : (x y : Standing) → Done x → Done y → W x ≡ W y → x ≡ y
  both_done x y done done_too same = by_first (is_trying x) refl
    where
      of_second : is_trying y ≡ is_trying x
      of_second = sym (trying_still y) ∙ (sym (ap is_trying same) ∙ trying_still x)

      two : (a b : Standing) → x ≡ a → y ≡ b → is_trying a ≡ true → is_trying b ≡ true → a ≡ b
      two (at.Trying s tests) (at.Trying u others) is is_too e f =
          let none : tests ≡ [] = done s tests is in
          let none_too : others ≡ [] = done_too u others is_too in
          let both : W (at.Trying s tests) ≡ W (at.Trying u others) = ap W (sym is) ∙ (same ∙ ap W is_too) in
          let one : s ≡ u = cc in
          ap₂ at.Trying one (none ∙ sym none_too)
      two (at.Trying s tests) at.Outside is is_too e f = absurd cc
      two (at.Trying s tests) at.Ended is is_too e f = absurd cc
      two (at.Trying s tests) (at.Entering u others) is is_too e f = absurd cc
      two (at.Trying s tests) (at.Guarding u others) is is_too e f = absurd cc
      two (at.Trying s tests) (at.Within u others) is is_too e f = absurd cc
      two (at.Trying s tests) (at.Acting u effects p) is is_too e f = absurd cc
      two at.Outside b is is_too e f = absurd cc
      two at.Ended b is is_too e f = absurd cc
      two (at.Entering s tests) b is is_too e f = absurd cc
      two (at.Guarding s tests) b is is_too e f = absurd cc
      two (at.Within s tests) b is is_too e f = absurd cc
      two (at.Acting s effects p) b is is_too e f = absurd cc

      by_first : (b : Bool) → is_trying x ≡ b → x ≡ y
      by_first true is = two x y refl refl is (of_second ∙ is)
      by_first false is = sym (others_still x is) ∙ (same ∙ others_still y (of_second ∙ is))

  module _ (c d : Configuration) (same : still k looks c ≡ still k looks d) where
    at_each : (q : ℕ) → W (standing_of c q) ≡ W (standing_of d q)
    at_each q = sym (stands_still k looks c q) ∙ (ap (λ z. standing_of z q) same ∙ stands_still k looks d q)

    guarded_same : (zs : List ℕ) → is_guarded k c zs ≡ is_guarded k d zs
    guarded_same [] = refl
    guarded_same (s ∷ zs) =
        ap₂ (λ a b. a || b)
        (sym (guards_still (standing_of c (holder k s))) ∙ (ap guards (at_each (holder k s)) ∙ guards_still (standing_of d (holder k s)))) (guarded_same zs)

    all_done : (e : Configuration) → IsOver (machine k) e → ((q : ℕ) → is_guarded k e (around k q) ≡ false) → (q : ℕ) → Done (standing_of e q)
    all_done e over free q s [] stands = refl
    all_done e over free q s (w ∷ tests) stands =
        let on : is_enabled k e q ≡ true = rw (stands, free q) refl in absurd (unlike (is_enabled k e q) on (over q))

    pub same_rest : ((q : ℕ) → is_guarded k d (around k q) ≡ false) → IsOver (machine k) c → IsOver (machine k) d → c ≡ d
    same_rest free over over_too =
        ap₂ (λ vs zs. record { variables = vs; regions = zs }) (ap (λ (z : Configuration). z.variables) same)
        (all_same c.regions d.regions sizes
        (λ q. both_done (standing_of c q) (standing_of d q) (all_done c over (λ r. guarded_same (around k r) ∙ free r) q) (all_done d over_too free q)
        (at_each q)))
      where
        sizes : length c.regions ≡ length d.regions
        sizes =
            sym (length-map c.regions W) ∙ (ap (λ (z : Configuration). length z.regions) same ∙ length-map d.regions W)
