-- A silent step of one thread alone: it resumes, pauses or ends.
use Rattle.std.proofs.Common.{◌≡◌, ℕ, zero, inl, inr, Some, List, [], ◌∷◌, set, option_map, refl, sym, ap, subst, ◌∙◌}
use Rattle.std.proofs.lemmas.Option.{same_Some}
use Rattle.sc_graph.specs.Steps.{Keep}
use Rattle.core_charts.specs.declared.region.Transition.{Transition}
use Rattle.core_charts.specs.Tests.{terminations}
use Rattle.chart_machine.specs.declared.standing.Standing.{Standing}
use Rattle.chart_machine.specs.declared.standing.Standing.TheVariants as stand
use Rattle.chart_machine.specs.declared.standing.Configuration.{Configuration}
use Rattle.chart_machine.specs.declared.table.Table.{Table}
use Rattle.chart_machine.specs.Table.{state_at, region_at}
use Rattle.chart_machine.specs.Turns.{standing_of}
use Rattle.scl.specs.Block.{Block, End, Pause}
use Rattle.scl.specs.Labels.{settled}
use Rattle.scl.specs.Numbering.{Numbered}
use Rattle.scl.specs.Meaning.{State, Doing, Todo, Resting, Resuming, Finished, ThreadChange, doing, after, change_of, step}
use Rattle.scl_graph_laws.specs.Standing.{IsStep}
use Rattle.chart_lowering_laws.specs.Layout.{Layout, TriesOut, Behind, IsRegionOf, Lowers}
use Rattle.chart_lowering_laws.specs.Corresponds.{Live, HeldBy, Turn, giving_in, given, Corresponds}
use Rattle.chart_lowering_laws.proofs.Matching.{tries_lead}
use Rattle.chart_lowering_laws.proofs.LeadAlike.{tries_alike, settled_step}
use Rattle.chart_lowering_laws.proofs.Stepping.{OneMoved, one_moved, thread_within}
use Rattle.chart_lowering_laws.proofs.Silently.{one_silently, root_ends}
use Rattle.chart_lowering_laws.proofs.Steps.{live_as}

abbrev pause_rest : Block → Block
pause_rest (Pause n rest) = rest
pause_rest other = End 0

module _ (k : Table) (p : Numbered) (l : Layout) (low : Lowers k p l) (c : Configuration) (s : State) (corr : Corresponds k p l c s) where
  -- a silent step of one thread, which is at something else then
  pub record GoesAlone (r : ℕ) (d : Doing) : Type 0 where
    pub end : State
    pub steps : step p r s ≡ Some end
    pub corresponds : Corresponds k p l c end
    pub one : OneMoved s end r d

  goes_alone : (r : ℕ) (d : Doing) → IsRegionOf k r → given k c s (region_at k r).around ≡ Turn →
      step p r s ≡ Some (record { variables = s.variables; threads = set s.threads r d }) →
      Live k p.root l r (standing_of c r) d → ((u : ℕ) → giving_in u (standing_of c r) d ≡ giving_in u (standing_of c r) (doing s r)) → GoesAlone r d
  goes_alone r d at_r turn steps live gives =
      let f : State = record { variables = s.variables; threads = set s.threads r d } in
      let one : OneMoved s f r d = one_moved s s.variables r d (thread_within k p l low c s corr r (inr at_r)) in
      record {
        end = f;
        steps = steps;
        corresponds = one_silently k p l low c s corr f r d at_r turn one refl live gives;
        one = one;
      }

  pub root_finishes : (n : ℕ) → doing s zero ≡ Todo (End n) → (f : State) × (step p zero s ≡ Some f) × Corresponds k p l c f × OneMoved s f zero Finished
  root_finishes n is =
      let f : State = record { variables = s.variables; threads = set s.threads zero Finished } in
      let one : OneMoved s f zero Finished = one_moved s s.variables zero Finished (thread_within k p l low c s corr zero (inl refl)) in (
        f,
        ap (λ d. option_map (λ e. after e s) (change_of p s zero d)) is,
        root_ends k p l low c s corr f n is one refl,
        one,
      )

  module _ (r : ℕ) (at_r : IsRegionOf k r) (turn : given k c s (region_at k r).around ≡ Turn) where
    now_at : (x : Standing) (d : Doing) → standing_of c r ≡ x → doing s r ≡ d → Live k p.root l r x d × HeldBy k p.root l r x
    now_at x d stands is = live_as k p l low c s corr r at_r turn x d stands is

    steps_by : (d : Doing) (e : ThreadChange) → doing s r ≡ d → change_of p s r d ≡ Some e → step p r s ≡ Some (after e s)
    steps_by d e is change = ap (λ d. option_map (λ e. after e s) (change_of p s r d)) is ∙ ap (option_map (λ e. after e s)) change

    same_giving : (x : Standing) (d e : Doing) → standing_of c r ≡ x → doing s r ≡ e → ((u : ℕ) → giving_in u x d ≡ giving_in u x e) → (u : ℕ) →
        giving_in u (standing_of c r) d ≡ giving_in u (standing_of c r) (doing s r)
    same_giving x d e stands is gives u =
        ap (λ y. giving_in u y d) stands ∙ gives u ∙ ap (giving_in u x) (sym is) ∙ ap (λ y. giving_in u y (doing s r)) (sym stands)

    pub resumes_simple : (u n : ℕ) (tests : List Transition) (rest : Block) → standing_of c r ≡ stand.Trying u tests → doing s r ≡ Resuming n rest →
        (first : Block) × GoesAlone r (Todo first)
    resumes_simple u n tests rest stands is =
        let now : Live k p.root l r (stand.Trying u tests) (Resuming n rest) × HeldBy k p.root l r (stand.Trying u tests) = now_at (stand.Trying u tests)
        (Resuming n rest) stands is in
        let tries : TriesOut k p.root l u tests rest = subst (λ ts. TriesOut k p.root l u ts rest) (sym now.0.0) (now.1.1.wakes n rest now.0.1) in
        let to_first : (first : Block) × (settled p.root rest ≡ Some first) × IsStep first = tries_lead k p l low r u tests rest at_r now.1.0 now.1.1 tries in
        let first : Block = to_first.0 in (
          first,
          goes_alone r (Todo first) at_r turn
              (steps_by (Resuming n rest) (record { change = Keep; moves = (r, Todo first) ∷ [] }) is
              (ap (option_map (λ todo. record { change = Keep; moves = (r, Todo todo) ∷ [] })) to_first.1))
              (subst (λ y. Live k p.root l r y (Todo first)) (sym stands)
              (to_first.2, tries_alike k p.root l u tests rest first (to_first.1 ∙ sym (settled_step p.root first to_first.2)) tries))
              (same_giving (stand.Trying u tests) (Todo first) (Resuming n rest) stands is (λ v. refl)),
        )

    pub resumes_super : (u n : ℕ) (tests : List Transition) (rest : Block) → standing_of c r ≡ stand.Within u tests → doing s r ≡ Resuming n rest →
        GoesAlone r (Todo (Pause n rest))
    resumes_super u n tests rest stands is =
        let now : Live k p.root l r (stand.Within u tests) (Resuming n rest) × HeldBy k p.root l r (stand.Within u tests) = now_at (stand.Within u tests)
        (Resuming n rest) stands is in
        let none : terminations (state_at k u).transitions ≡ [] = sym now.0.1 ∙ now.0.0 in
        let behind : Behind k p.root l u [] now.1.1.rest = subst (λ ts. Behind k p.root l u ts now.1.1.rest) none now.1.1.behind in
        let same : Pause behind.0 behind.1 ≡ Pause n rest = sym behind.2 ∙ now.0.2 in
        let leads : settled p.root rest ≡ Some (Pause n rest) = subst (λ b. settled p.root (pause_rest b) ≡ Some b) same behind.4 in
        let d : Doing = Todo (Pause n rest) in
        goes_alone r d at_r turn
        (steps_by (Resuming n rest) (record { change = Keep; moves = (r, d) ∷ [] }) is
        (ap (option_map (λ todo. record { change = Keep; moves = (r, Todo todo) ∷ [] })) leads))
        (subst (λ y. Live k p.root l r y d) (sym stands) (now.0.1, (now.0.0, now.0.2)))
        (same_giving (stand.Within u tests) d (Resuming n rest) stands is (λ v. refl))

    pub pauses_simple : (u n : ℕ) (rest : Block) → standing_of c r ≡ stand.Trying u [] → doing s r ≡ Todo (Pause n rest) → GoesAlone r (Resting n rest)
    pauses_simple u n rest stands is =
        let now : Live k p.root l r (stand.Trying u []) (Todo (Pause n rest)) × HeldBy k p.root l r (stand.Trying u []) = now_at (stand.Trying u [])
        (Todo (Pause n rest)) stands is in
        let same : Pause n rest ≡ Pause now.0.1.0 now.0.1.1 = same_Some (Pause n rest) (Pause now.0.1.0 now.0.1.1) now.0.1.3 in
        goes_alone r (Resting n rest) at_r turn
        (steps_by (Todo (Pause n rest)) (record { change = Keep; moves = (r, Resting n rest) ∷ [] }) is refl)
        (subst (λ y. Live k p.root l r y (Resting n rest)) (sym stands) (refl, now.0.1.2 ∙ sym same))
        (same_giving (stand.Trying u []) (Resting n rest) (Todo (Pause n rest)) stands is (λ v. refl))

    pub pauses_super : (u n : ℕ) (tests : List Transition) (rest : Block) → standing_of c r ≡ stand.Within u tests → doing s r ≡ Todo (Pause n rest) →
        GoesAlone r (Resting n rest)
    pauses_super u n tests rest stands is =
        let now : Live k p.root l r (stand.Within u tests) (Todo (Pause n rest)) × HeldBy k p.root l r (stand.Within u tests) = now_at (stand.Within u tests)
        (Todo (Pause n rest)) stands is in
        goes_alone r (Resting n rest) at_r turn
        (steps_by (Todo (Pause n rest)) (record { change = Keep; moves = (r, Resting n rest) ∷ [] }) is refl)
        (subst (λ y. Live k p.root l r y (Resting n rest)) (sym stands) (now.0.1.0, now.0.0, now.0.1.1))
        (same_giving (stand.Within u tests) (Resting n rest) (Todo (Pause n rest)) stands is (λ v. refl))

    pub ends : (n : ℕ) → standing_of c r ≡ stand.Ended → doing s r ≡ Todo (End n) → GoesAlone r Finished
    ends n stands is =
        goes_alone r Finished at_r turn
        (steps_by (Todo (End n)) (record { change = Keep; moves = (r, Finished) ∷ [] }) is refl)
        (subst (λ y. Live k p.root l r y Finished) (sym stands) tt)
        (same_giving stand.Ended Finished (Todo (End n)) stands is (λ v. refl))
