-- The points of transitions, and of states without what is inside them.
use Rattle.std.proofs.Common.{◌≡◌, ℕ, suc, ◌<◌, Bool, true, false, cond, if◌then◌else◌, Option, Some, None, List, [], ◌∷◌, ◌++◌, map, length}
use Rattle.std.proofs.Common.{slice_get, refl, sym, subst}
use Rattle.std.proofs.lemmas.List.{append-nil}
use Rattle.sc_values.specs.declared.expression.Expr.{Expr}
use Rattle.core_charts.specs.declared.region.Effect.{Effect}
use Rattle.core_charts.specs.declared.region.Transition.{Transition}
use Rattle.core_charts.specs.Tests.{at_once, is_join, terminations}
use Rattle.scl.specs.declared.statement.Statement.{Statement}
use Rattle.scl.specs.declared.statement.Statement.TheVariants as statement
use Rattle.chart_lowering.specs.declared.targets.Targets.{Targets}
use Rattle.chart_lowering.specs.Lowering.{assignment, goto, label, label_at, label_name}
use Rattle.chart_lowering.specs.Lowering as low
use Rattle.node_elements.specs.Points.{Assigns, Jumps, Marks, Pauses}
use Rattle.core_charts.specs.declared.elements.element.Element.{Element}
use Rattle.core_charts.specs.declared.elements.element.Element.TheVariants as element
use Rattle.core_charts.specs.declared.elements.numbers.ElementNumbers.{ElementNumbers}
use Rattle.core_charts.specs.Numbers.{behind_transition, effects}
use Rattle.core_charts.specs.Elements.{Contents, all_effects}
use Rattle.node_elements.specs.LoweringOrigins.{Origins, behind_fork, depth, final, simple, taken, tested, transitions}
use Rattle.core_charts.proofs.Standing.{At, Owned, below, owned_effects, owned_others}
use Rattle.node_elements.proofs.FromRows.{AllFrom, from_append}
use Rattle.node_elements.proofs.Single.{assign_points, from_first, goto_points, if_points, label_points, pause_points, points_in}

-- effects, and the goto of the transition of number k
effects_from : (all : Contents) (t : Transition) (k : ℕ) → slice_get all.transitions k ≡ Some t → (name : List ℕ) (own : List Effect) (m : ℕ) →
    At (all_effects all.transitions) m own →
    AllFrom all (effects own m ++ element.Transition k ∷ []) (points_in (map assignment own ++ statement.Goto name ∷ []))
effects_from all t k there name [] m h =
    from_first all (element.Transition k) (statement.Goto name) (Jumps name) [] [] (goto_points name) (below all.transitions k t there) tt
effects_from all t k there name (e ∷ own) m h =
    from_first all (element.Effect m) (assignment e) (Assigns e.variable e.value) (effects own (suc m) ++ element.Transition k ∷ [])
    (map assignment own ++ statement.Goto name ∷ [])
    (assign_points e.variable e.value) h.0 (effects_from all t k there name own (suc m) h.1)

pub taken_from : (all : Contents) (to : Targets) (t : Transition) (at : ElementNumbers) → slice_get all.transitions at.transition ≡ Some t →
    At (all_effects all.transitions) at.effect t.effects → AllFrom all (taken t at) (points_in (low.taken to t))
taken_from all to t at there h = effects_from all t at.transition there (label_at to t.target) t.effects at.effect h

tested_from : (all : Contents) (to : Targets) (t : Transition) (at : ElementNumbers) → slice_get all.transitions at.transition ≡ Some t →
    At (all_effects all.transitions) at.effect t.effects → (o : Option Expr) → t.trigger ≡ o → (rest : Origins) (others : List Statement) →
    AllFrom all rest (points_in others) →
    AllFrom all (tested o at.transition (taken t at) rest) (points_in (low.tested o (low.taken to t) others))
tested_from all to t at there h None is rest others later = taken_from all to t at there h
tested_from all to t at there h (Some e) is rest others later =
    let does : List Statement = low.taken to t in
    subst (λ ps. AllFrom all (element.Transition at.transition ∷ (taken t at ++ rest)) (ps ++ points_in others)) (sym (if_points e does [])) (
      (t, there, is),
      from_append all (taken t at) rest (points_in does ++ []) (points_in others)
          (subst (AllFrom all (taken t at)) (sym (append-nil (points_in does))) (taken_from all to t at there h)) later,
    )

-- all transitions of a state
pub transitions_from : (all : Contents) (to : Targets) (own : List Transition) (at : ElementNumbers) →
    Owned all at own → (rest : Origins) (others : List Statement) → AllFrom all rest (points_in others) →
    AllFrom all (transitions false own at rest) (points_in (low.transitions to own others))
transitions_from all to [] at h rest others later = later
transitions_from all to (t ∷ own) at h rest others later =
    tested_from all to t at h.transitions.0 (owned_effects all at t own h) t.trigger refl
    (transitions false own (behind_transition t at) rest) (low.transitions to own others)
    (transitions_from all to own (behind_transition t at) (owned_others all at t own h) rest others later)

-- the immediate ones
pub surface_from : (all : Contents) (to : Targets) (own : List Transition) (at : ElementNumbers) →
    Owned all at own → (rest : Origins) (others : List Statement) → AllFrom all rest (points_in others) →
    AllFrom all (transitions true own at rest) (points_in (low.transitions to (at_once own) others))
surface_from all to [] at h rest others later = later
surface_from all to (t ∷ own) at h rest others later =
    by t.immediate (surface_from all to own (behind_transition t at) (owned_others all at t own h) rest others later)
  where
    by : (b : Bool) →
        AllFrom all (transitions true own (behind_transition t at) rest) (points_in (low.transitions to (at_once own) others)) →
        AllFrom all (if b then tested t.trigger at.transition (taken t at) (transitions true own (behind_transition t at) rest)
        else transitions true own (behind_transition t at) rest)
        (points_in (low.transitions to (cond b (t ∷ at_once own) (at_once own)) others))
    by true further =
        tested_from all to t at h.transitions.0 (owned_effects all at t own h) t.trigger refl (transitions true own (behind_transition t at) rest)
        (low.transitions to (at_once own) others) further
    by false further = further

pub depth_from : (all : Contents) (to : Targets) (own : List Transition) (at : ElementNumbers) → at.state < length all.states → Owned all at own → (n : ℕ) →
    AllFrom all (depth own at) (points_in (low.depth to own n))
depth_from all to own at small h n =
    let s : Element = element.State at.state in
    let rest : List Statement = low.transitions to own (goto n ∷ []) in
    from_first all s (label n) (Marks (label_name n)) (s ∷ transitions false own at (s ∷ [])) (statement.Pause ∷ rest) (label_points (label_name n))
    small
    (from_first all s statement.Pause Pauses (transitions false own at (s ∷ [])) rest pause_points small
    (transitions_from all to own at h (s ∷ []) (goto n ∷ [])
    (from_first all s (goto n) (Jumps (label_name n)) [] [] (goto_points (label_name n)) small tt)))

pub simple_from : (all : Contents) (to : Targets) (own : List Transition) (at : ElementNumbers) → at.state < length all.states → Owned all at own → (n : ℕ) →
    AllFrom all (simple own at) (points_in (low.simple to own n))
simple_from all to own at small h n =
    from_first all (element.State at.state) (label n) (Marks (label_name n)) (transitions true own at (depth own at))
    (low.transitions to (at_once own) (low.depth to own (suc n))) (label_points (label_name n)) small
    (surface_from all to own at h (depth own at) (low.depth to own (suc n)) (depth_from all to own at small h (suc n)))

pub final_from : (all : Contents) (to : Targets) (at : ElementNumbers) → at.state < length all.states → (n : ℕ)
    → AllFrom all (final at) (points_in (low.final to n))
final_from all to at small n =
    let s : Element = element.State at.state in
    from_first all s (label n) (Marks (label_name n)) (s ∷ []) (statement.Goto to.end ∷ []) (label_points (label_name n)) small
    (from_first all s (statement.Goto to.end) (Jumps to.end) [] [] (goto_points to.end) small tt)

pub behind_from : (all : Contents) (to : Targets) (own : List Transition) (at : ElementNumbers) → at.state < length all.states → Owned all at own → (n : ℕ) →
    AllFrom all (behind_fork own at) (points_in (low.behind to (terminations own) n))
behind_from all to [] at small h n = depth_from all to [] at small h n
behind_from all to (t ∷ own) at small h n = by (is_join t.kind) (behind_from all to own (behind_transition t at) small (owned_others all at t own h) n)
  where
    by : (b : Bool) → AllFrom all (behind_fork own (behind_transition t at)) (points_in (low.behind to (terminations own) n)) →
        AllFrom all (if b then taken t at else behind_fork own (behind_transition t at))
        (points_in (low.behind to (cond b (t ∷ terminations own) (terminations own)) n))
    by true further = taken_from all to t at h.transitions.0 (owned_effects all at t own h)
    by false further = further
