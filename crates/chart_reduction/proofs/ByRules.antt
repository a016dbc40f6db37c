-- What holds of regions that keep the rules of charts, from the inside out.
use Rattle.std.proofs.Common.{ℕ, zero, suc, List, length, sym, subst}
use Rattle.sc_graph.specs.declared.program.Variable.{Variable}
use Rattle.sc_text.proofs.EachItem.{Each, each_of}
use Rattle.core_charts.specs.declared.features.Features.TheVariants as features
use Rattle.core_charts.specs.declared.region.Transition.{Transition}
use Rattle.core_charts.specs.declared.region.Region.{Region}
use Rattle.core_charts.specs.declared.region.State.{State}
use Rattle.core_charts.specs.declared.region.Region.TheViews.{out-Region, out-State}
use Rattle.core_charts.specs.Rules.{IsTransition, IsRegion, AreRegions, has_regions}

-- a transition of a state among so many, of a region with these variables
abbrev pub Keeps : List Variable → (count : ℕ) → State → Transition → Type 0
Keeps variables count s = IsTransition features.Extended variables count (has_regions (out-State s).regions)

pub record Cases (variables : List Variable) (P : Region → Type 0) (Q : ℕ → State → Type 0) : Type 0 where
  pub of_state : (count : ℕ) (s : State) → Each (Keeps variables count s) (out-State s).transitions → Each P (out-State s).regions → Q count s
  pub of_region : (r : Region) → Each (Q (length (out-Region r).states)) (out-Region r).states → P r

one_region : (variables : List Variable) (P : Region → Type 0) (Q : ℕ → State → Type 0) → Cases variables P Q → (levels : ℕ) →
    ((regions : List Region) → AreRegions features.Extended variables levels regions → Each P regions) →
    (r : Region) → IsRegion features.Extended variables (AreRegions features.Extended variables levels) r → P r
one_region variables P Q cases levels inner r h =
    let states : List State = (out-Region r).states in
    cases.of_region r (each_of (Q (length states)) states (λ j s at.
    let rules = h.states j s at in
    cases.of_state (length states) s (each_of (Keeps variables (length states) s) (out-State s).transitions rules.transitions)
    (inner (out-State s).regions rules.regions)))

pub each_region : (variables : List Variable) (P : Region → Type 0) (Q : ℕ → State → Type 0) → Cases variables P Q →
    (levels : ℕ) (regions : List Region) → AreRegions features.Extended variables levels regions → Each P regions
each_region variables P Q cases zero regions h = subst (Each P) (sym h) tt
each_region variables P Q cases (suc levels) regions h =
    each_of P regions (λ i r at. one_region variables P Q cases levels (each_region variables P Q cases levels) r (h.each i r at))
