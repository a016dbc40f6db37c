-- How a region of a core chart comes to stand before tests: it stood there, or its last test failed, or the looks of its state are all ahead.
use Rattle.std.proofs.Common.{◌≡◌, ◌≢◌, ℕ, suc, ◌<◌, ◌⊎◌, inl, inr, ⊎_elim, Bool, true, false, Option, Some, None}
use Rattle.std.proofs.Common.{option_map, option_and_then, List, [], ◌∷◌, ◌++◌, length}
use Rattle.std.proofs.Common.{Contains, if◌then◌else◌, slice_get, slice_set, refl, sym, ap, subst, ◌∙◌, arith}
use Rattle.std.specs.List.{list_all}
use Rattle.std.proofs.lemmas.Option.{same_Some}
use Rattle.sc_values.specs.Expr.{value as value_of}
use Rattle.sc_values.specs.Operator.{kind_of}
use Rattle.sc_graph.specs.Steps.{takes_kind}
use Rattle.sc_graph.specs.Tick.{Inputs}
use Rattle.sc_text.proofs.EachItem.{Each, each_append}
use Rattle.core_charts.specs.declared.region.Effect.{Effect}
use Rattle.core_charts.specs.declared.region.Transition.{Transition}
use Rattle.core_charts.specs.Tests.{at_once, strong_aborts, closing_tests}
use Rattle.abort_expansion.specs.Transitions.{put}
use Rattle.chart_machine.specs.declared.region_change.RegionChange.{RegionChange}
use Rattle.chart_machine.specs.declared.standing.Configuration.{Configuration}
use Rattle.chart_machine.specs.declared.standing.Move.{Move}
use Rattle.chart_machine.specs.declared.standing.Standing.{Standing}
use Rattle.chart_machine.specs.declared.standing.Standing.TheVariants as at
use Rattle.chart_machine.specs.declared.table.Table.{Table}
use Rattle.chart_machine.specs.Machine.{start, woken, guarded_first, is_outside, regions_at_start}
use Rattle.chart_machine.specs.Steps.{to, moved, state_in, dropped, acts, taken, verdict, effected, change_of, step}
use Rattle.chart_machine.specs.Table.{state_at, region_at}
use Rattle.chart_machine.specs.Turns.{standing_of, has_work, inside}
use Rattle.chart_machine_laws.specs.Tree.{IsThere, holder}
use Rattle.tick_laws.proofs.Lists.{same_or_not}
use Rattle.tick_laws.proofs.Views.{only_if_some}
use Rattle.chart_lowering_laws.proofs.Entering.{moved_length}
use Rattle.abort_expansion_laws.specs.CoreRows.{own, IsState}
use Rattle.abort_expansion_laws.proofs.KnownVariables.{Stepped, stepped}
use Rattle.abort_expansion_laws.proofs.MoreValues.{Got, got}
use Rattle.abort_expansion_laws.proofs.Leaving.{at_number, set_here, set_other, moved_append}
use Rattle.abort_expansion_laws.proofs.WokenConfigurations.{woken_at}
use Rattle.preemption_laws.proofs.SitsAtStart.{Tops, all_out}
use Rattle.preemption_laws.specs.Looks.{look, Looks}
use Rattle.preemption_laws.proofs.FitsThere.{entered_fits, each_entered_fits, all_dropped, all_moved_fit}
use Rattle.preemption_laws.proofs.MappedOnes.{mapped_one, got_in}
use Rattle.preemption_laws.proofs.Forms.{InForm, Rests, looks_behind, looks_left, at_once_last}
use Rattle.preemption_laws.proofs.Ground.{Ground, MayOn, enclosed_on}
use Rattle.preemption_laws.proofs.SoundCores.{IsCore}

-- the tests of a standing
abbrev tests_at : Standing → List Transition
tests_at (at.Trying s tests) = tests
tests_at other = []

abbrev state_tried : Standing → ℕ
state_tried (at.Trying s tests) = s
state_tried other = 0

module _ (k : Table) (looks : ℕ → List Transition) (l : Looks k looks) (g : Ground k) where
  abbrev Sound : Configuration → Type 0
  Sound c = IsCore k looks l g c

  -- ---- what stands

  pub held : (c : Configuration) → Sound c → (r s : ℕ) (tests : List Transition) → standing_of c r ≡ at.Trying s tests → holder k s ≡ r
  held c sound r s tests stands = (subst (MayOn k g r) stands (sound.sits.stands r)).1

  pub tails : (c : Configuration) → Sound c → (r s : ℕ) (tests : List Transition) → standing_of c r ≡ at.Trying s tests →
      ((front : List Transition) × (tests ≡ front ++ looks s)) ⊎ ((passed : List Transition) × (looks s ≡ passed ++ tests))
  tails c sound r s tests stands = by (subst (InForm k looks l r) stands (sound.forms r)).0
    where
      by : Rests k looks l s tests → ((front : List Transition) × (tests ≡ front ++ looks s)) ⊎ ((passed : List Transition) × (looks s ≡ passed ++ tests))
      by (looks_behind front is) = inl (front, is)
      by (looks_left gone is) = inr (gone, is)

  pub writes : (c : Configuration) → Sound c → (r u q : ℕ) (f : Effect) (effects : List Effect) → standing_of c r ≡ at.Acting u (f ∷ effects) q →
      (s x : ℕ) → Contains (l.seen s) x → f.variable ≡ x → ((n : ℕ) × (f ≡ put x (suc n))) ⊎ (r ≡ holder k (l.superstate_of x))
  writes c sound r u q f effects stands s x seen same = (subst (InForm k looks l r) stands (sound.forms r)).0 s x seen same

  -- ---- moves

  -- all looks of its state are ahead
  abbrev pub IsFresh : Standing → Type 0
  IsFresh x = (s : ℕ) (tests : List Transition) → x ≡ at.Trying s tests → (front : List Transition) × (tests ≡ front ++ looks s)

  fresh_entry : (x : ℕ) → IsFresh (at.Trying x (at_once (own k x)))
  fresh_entry x s tests is =
      let state : x ≡ s = ap state_tried is in
      let same : at_once (own k x) ≡ tests = ap tests_at is in
      (at_once (l.others x), sym same ∙ (at_once_last k looks l x ∙ ap (λ z. at_once (l.others x) ++ looks z) state))

  -- of each region, where it stands after these moves: where it stood, or before tests with all looks ahead
  abbrev Fits : List Standing → ℕ → Standing → Type 0
  Fits zs q x = (x ≡ at_number zs q) ⊎ IsFresh x

  abbrev FitsAll : List Move → Type 0
  FitsAll ms = Each (λ (m : Move). IsFresh m.standing) ms

  entered_fresh : (x : ℕ) → IsState k x → FitsAll (state_at k x).entered
  entered_fresh =
      entered_fits k g l.no_strong (λ q x. IsFresh x) (λ q s tests e. absurd cc) (λ q s tests e. absurd cc) (λ x is. fresh_entry x)
      (λ x is s tests e. absurd cc)

  acts_fresh : (r s : ℕ) (effects : List Effect) (p : ℕ) → IsThere k r → p < length (region_at k r).states → FitsAll (acts k r s effects p)
  acts_fresh r s [] p there lt = entered_fresh (state_in k r p) (g.state_there r p there lt).0
  acts_fresh r s (e ∷ effects) p there lt = ((λ s tests e. absurd cc), tt)

  taken_fresh : (r s : ℕ) (t : Transition) → IsThere k r → t.target < length (region_at k r).states → FitsAll (taken k r s t)
  taken_fresh r s t there lt =
      each_append (λ (m : Move). IsFresh m.standing) (dropped k s) (acts k r s t.effects t.target)
      (all_dropped k g l.no_strong (λ q x. IsFresh x) (λ q s tests e. absurd cc) (λ q s tests e. absurd cc) (λ x is. fresh_entry x)
      (λ x is s tests e. absurd cc) (inside k s)) (acts_fresh r s t.effects t.target there lt)

  -- the same of moves one by one
  either_fresh : (zs : List Standing) (ms : List Move) → FitsAll ms → Each (λ (m : Move). Fits zs m.region m.standing) ms
  either_fresh zs [] all = tt
  either_fresh zs (m ∷ ms) all = (inr all.0, either_fresh zs ms all.1)

  after_moves : (ms : List Move) (zs : List Standing) → FitsAll ms → (q : ℕ) → Fits zs q (at_number (moved ms zs) q)
  after_moves ms zs all q =
      all_moved_fit k g l.no_strong (Fits zs) (λ r. inr (λ s tests e. absurd cc)) (λ r. inr (λ s tests e. absurd cc)) (λ x is. inr (fresh_entry x))
      (λ x is. inr (λ s tests e. absurd cc)) ms zs (either_fresh zs ms all) (λ q. inl refl) q

  -- ---- a step

  module _ (c d : Configuration) (t : ℕ) (sound : Sound c) (steps : step k t c ≡ Some d) (r s : ℕ) (tests : List Transition)
      (stands : standing_of d r ≡ at.Trying s tests) where
    abbrev Comes : Type 0
    Comes =
        ((r ≢ t) × (standing_of c r ≡ standing_of d r))
        ⊎ (((r ≡ t) × (first : Transition) × (standing_of c r ≡ at.Trying s (first ∷ tests)) × (verdict c.variables first.trigger ≡ Some false))
        ⊎ ((front : List Transition) × (tests ≡ front ++ looks s)))

    parts : Stepped k t c d
    parts = stepped k t c d steps

    t_here : standing_of c t ≢ at.Outside
    t_here e = let wrong = sym parts.works ∙ ap (has_work k c) e in absurd cc

    there : IsThere k t
    there = (enclosed_on k g c sound.sits).there t t_here

    now : (ms : List Move) → parts.change.moves ≡ ms → standing_of d r ≡ at_number (moved ms c.regions) r
    now ms is = sym (ap (λ (z : Configuration). standing_of z r) parts.is) ∙ ap (λ zs. at_number (moved zs c.regions) r) is

    -- by moves after which all looks of a state are ahead, where somebody tries that did not
    by_moves : (ms : List Move) → parts.change.moves ≡ ms → FitsAll ms → (r ≡ t → standing_of c r ≡ standing_of d r → Comes) → Comes
    by_moves ms is all own =
        ⊎_elim
        (λ same.
        let still : standing_of c r ≡ standing_of d r = sym (now ms is ∙ same) in
        ⊎_elim (λ e. own e still) (λ other. inl (other, still)) (same_or_not r t))
        (λ fresh. inr (inr (fresh s tests (sym (now ms is) ∙ stands)))) (after_moves ms c.regions all r)

    -- ---- who tries

    module _ (u : ℕ) (first : Transition) (rest : List Transition) (at_t : standing_of c t ≡ at.Trying u (first ∷ rest)) where
      own_target : first.target < length (region_at k t).states
      own_target = (subst (MayOn k g t) at_t (sound.sits.stands t)).2.0

      in_place : (zs : List Standing) → length zs ≡ length c.regions → t < length zs
      in_place zs same = let size = sound.sits.size in let lt = there.1 in omega (same, size, lt, arith)

      failed : verdict c.variables first.trigger ≡ Some false → parts.change.moves ≡ to t (at.Trying u rest) ∷ [] → Comes
      failed fails is =
          ⊎_elim
          (λ e.
          let here : at.Trying u rest ≡ at.Trying s tests =
          sym (set_here c.regions t (at.Trying u rest) (in_place c.regions refl))
          ∙ (ap (at_number (slice_set c.regions t (at.Trying u rest))) (sym e) ∙ (sym (now (to t (at.Trying u rest) ∷ []) is) ∙ stands)) in
          let state : u ≡ s = ap state_tried here in
          let same : rest ≡ tests = ap tests_at here in
          inr (inl (e, first, ap (standing_of c) e ∙ (at_t ∙ (ap (λ z. at.Trying z (first ∷ rest)) state ∙ ap (λ zs. at.Trying s (first ∷ zs)) same)), fails)))
          (λ other. inl (other, sym (now (to t (at.Trying u rest) ∷ []) is ∙ set_other c.regions t r (at.Trying u rest) other))) (same_or_not r t)

      -- a look that holds ends its region
      leaves : (gone : List Transition) → looks u ≡ gone ++ first ∷ rest → parts.change.moves ≡ taken k t u first → r ≡ t → ⊥
      leaves gone behind is e =
          let one : (i : ℕ) × (x : ℕ) × (slice_get (l.seen u) i ≡ Some x) × (first ≡ look (l.left u) x) =
          mapped_one (look (l.left u)) (l.seen u) gone rest first (sym (l.are_looks u) ∙ behind) in
          let seen : Contains (l.seen u) one.1 = got_in (l.seen u) one.0 one.1 one.2 in
          let holds : holder k u ≡ t = held c sound t u (first ∷ rest) at_t in
          let ends : acts k t u first.effects first.target ≡ to t at.Ended ∷ [] =
          ap (λ (z : Transition). acts k t u z.effects z.target) one.3
          ∙ subst (λ q. (state_at k (state_in k q (l.left u))).entered ≡ to q at.Ended ∷ []) holds (l.ends_there u one.1 seen) in
          let zs : List Standing = moved (dropped k u) c.regions in
          let last : at_number (moved (taken k t u first) c.regions) t ≡ at.Ended =
          ap (λ ms. at_number (moved (dropped k u ++ ms) c.regions) t) ends
          ∙ (ap (λ ys. at_number ys t) (moved_append (dropped k u) (to t at.Ended ∷ []) c.regions)
          ∙ set_here zs t at.Ended (in_place zs (moved_length (dropped k u) c.regions))) in
          let wrong : at.Trying s tests ≡ at.Ended =
          sym stands ∙ (now (taken k t u first) is ∙ (ap (at_number (moved (taken k t u first) c.regions)) e ∙ last)) in
          absurd cc

      held_on : parts.change.moves ≡ taken k t u first → Comes
      held_on is = by_moves (taken k t u first) is (taken_fresh t u first there own_target) own
        where
          own : r ≡ t → standing_of c r ≡ standing_of d r → Comes
          own e still = by (subst (InForm k looks l t) at_t (sound.forms t)).0
            where
              same : at.Trying u (first ∷ rest) ≡ at.Trying s tests
              same = sym at_t ∙ (ap (standing_of c) (sym e) ∙ (still ∙ stands))

              by : Rests k looks l u (first ∷ rest) → Comes
              by (looks_behind front is_front) =
                  inr (inr (front, sym (ap tests_at same) ∙ (is_front ∙ ap (λ z. front ++ looks z) (ap state_tried same))))
              by (looks_left gone behind) = absurd (leaves gone behind is e)

      by_verdict : (v : Option Bool) → verdict c.variables first.trigger ≡ v →
          option_map (λ (h : Bool). record { write = None; moves = if h then taken k t u first else to t (at.Trying u rest) ∷ [] }) v ≡ Some parts.change →
          Comes
      by_verdict None v_is e = absurd cc
      by_verdict (Some false) v_is e =
          failed v_is (sym (ap (λ (z : RegionChange). z.moves) (same_Some (record { write = None; moves = to t (at.Trying u rest) ∷ [] }) parts.change e)))
      by_verdict (Some true) v_is e =
          held_on (sym (ap (λ (z : RegionChange). z.moves) (same_Some (record { write = None; moves = taken k t u first }) parts.change e)))

      tried : Comes
      tried =
          by_verdict (verdict c.variables first.trigger) refl (subst (λ x. change_of k c t x ≡ Some parts.change) at_t parts.does)

    -- ---- who does not

    others : (x : Standing) → standing_of c t ≡ x → ((v : ℕ) (ts : List Transition) → x ≢ at.Trying v ts) → FitsAll parts.change.moves → Comes
    others x at_t none all =
        by_moves parts.change.moves refl all
        (λ e still. absurd (none s tests (sym at_t ∙ (ap (standing_of c) (sym e) ∙ (still ∙ stands)))))

    pub tries : Comes
    tries = by (standing_of c t) refl
      where
        in_form : (x : Standing) → standing_of c t ≡ x → InForm k looks l t x
        in_form x at_t = subst (InForm k looks l t) at_t (sound.forms t)

        within : (u : ℕ) (w : Transition) (ws : List Transition) → standing_of c t ≡ at.Within u (w ∷ ws) → (v : Option Bool) →
            option_map (λ (h : Bool). record { write = None; moves = if h then taken k t u w else to t (at.Within u ws) ∷ [] }) v ≡ Some parts.change → Comes
        within u w ws at_t None e = absurd cc
        within u w ws at_t (Some true) e =
            let target = (subst (MayOn k g t) at_t (sound.sits.stands t)).2.0 in
            let is = same_Some (record { write = None; moves = taken k t u w }) parts.change e in
            others (at.Within u (w ∷ ws)) at_t (λ v ts x. absurd cc)
            (subst (λ (z : RegionChange). FitsAll z.moves) is (taken_fresh t u w there target))
        within u w ws at_t (Some false) e =
            let is = same_Some (record { write = None; moves = to t (at.Within u ws) ∷ [] }) parts.change e in
            others (at.Within u (w ∷ ws)) at_t (λ v ts x. absurd cc)
            (subst (λ (z : RegionChange). FitsAll z.moves) is ((λ v ts x. absurd cc), tt))

        acting : (u q : ℕ) (f : Effect) (effects : List Effect) → standing_of c t ≡ at.Acting u (f ∷ effects) q →
            option_and_then (effected k t u f effects q) (value_of f.value c.variables) ≡ Some parts.change → Comes
        acting u q f effects at_t e =
            let one : Got (effected k t u f effects q) (value_of f.value c.variables) parts.change =
            got (effected k t u f effects q) (value_of f.value c.variables) parts.change e in
            let given : RegionChange = record { write = Some (record { variable = f.variable; value = one.item }); moves = acts k t u effects q } in
            let both =
            only_if_some (takes_kind (option_map (λ x. x.kind) (slice_get k.variables f.variable)) (kind_of one.item)) (Some given) parts.change one.gives in
            others (at.Acting u (f ∷ effects) q) at_t (λ v ts x. absurd cc)
            (subst (λ (z : RegionChange). FitsAll z.moves) (same_Some given parts.change both.1)
            (acts_fresh t u effects q there (subst (MayOn k g t) at_t (sound.sits.stands t))))

        by : (x : Standing) → standing_of c t ≡ x → Comes
        by (at.Trying u []) at_t = let wrong = sym parts.works ∙ ap (has_work k c) at_t in absurd cc
        by (at.Trying u (first ∷ rest)) at_t = tried u first rest at_t
        by (at.Within u []) at_t = let wrong = sym parts.works ∙ ap (has_work k c) at_t in absurd cc
        by (at.Within u (w ∷ ws)) at_t =
            within u w ws at_t (verdict c.variables w.trigger) (subst (λ x. change_of k c t x ≡ Some parts.change) at_t parts.does)
        by (at.Acting u [] q) at_t = let wrong = subst (λ x. change_of k c t x ≡ Some parts.change) at_t parts.does in absurd cc
        by (at.Acting u (f ∷ effects) q) at_t =
            acting u q f effects at_t (subst (λ x. change_of k c t x ≡ Some parts.change) at_t parts.does)
        by at.Outside at_t = absurd (t_here at_t)
        by at.Ended at_t = let wrong = sym parts.works ∙ ap (has_work k c) at_t in absurd cc
        by (at.Entering u ts) at_t = absurd (in_form (at.Entering u ts) at_t)
        by (at.Guarding u ts) at_t = absurd (in_form (at.Guarding u ts) at_t)

  -- ---- as a tick starts

  module _ (tops : Tops k) where
    opened_fresh : FitsAll k.opened
    opened_fresh =
        subst FitsAll (sym tops.opens)
        (each_entered_fits k g l.no_strong (λ q x. IsFresh x) (λ q s tests e. absurd cc) (λ q s tests e. absurd cc) (λ x is. fresh_entry x)
        (λ x is s tests e. absurd cc) tops.firsts (λ x among. entered_fresh x (tops.states x among).0))

    woken_fresh : (x : Standing) → IsFresh (woken k x)
    woken_fresh at.Outside s tests e = absurd cc
    woken_fresh at.Ended s tests e = absurd cc
    woken_fresh (at.Entering u ts) s tests e = absurd cc
    woken_fresh (at.Guarding u ts) s tests e = absurd cc
    woken_fresh (at.Acting u effects q) s tests e = absurd cc
    woken_fresh (at.Trying u ts) s tests e =
        (l.others u, sym (ap tests_at e) ∙ (l.stand_last u ∙ ap (λ z. l.others u ++ looks z) (ap state_tried e)))
    woken_fresh (at.Within u ts) s tests e = absurd (by (strong_aborts (own k u)) e)
      where
        by : (strong : List Transition) → guarded_first u strong (closing_tests (own k u)) ≡ at.Trying s tests → ⊥
        by [] e = absurd cc
        by (w ∷ strong) e = absurd cc

    pub start_tries : (inputs : Inputs) (c : Configuration) (r s : ℕ) (tests : List Transition) → standing_of (start k inputs c) r ≡ at.Trying s tests →
        (front : List Transition) × (tests ≡ front ++ looks s)
    start_tries inputs c r s tests stands = by (list_all is_outside c.regions) refl s tests stands
      where
        by : (b : Bool) → list_all is_outside c.regions ≡ b → IsFresh (at_number (regions_at_start k b c.regions) r)
        by true is =
            ⊎_elim (λ same s tests e. let wrong = sym (same ∙ all_out c.regions is r) ∙ e in absurd cc) (λ fresh. fresh)
            (after_moves k.opened c.regions opened_fresh r)
        by false is = subst IsFresh (sym (woken_at k c.regions r)) (woken_fresh (at_number c.regions r))
