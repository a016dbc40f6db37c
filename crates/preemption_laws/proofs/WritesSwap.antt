-- What two steps of a chart that may come in either order do to the variables: the same in either order, with the same moves.
use Rattle.std.proofs.Common.{◌≡◌, ℕ, Bool, Option, Some, None, List, [], ◌∷◌, option_map, option_and_then, slice_get, slice_set, Contains}
use Rattle.std.proofs.Common.{if◌then◌else◌, refl, sym, ap, subst, subst₂, ◌∙◌}
use Rattle.std.proofs.lemmas.Option.{same_Some}
use Rattle.sc_values.specs.declared.expression.Expr.{Expr}
use Rattle.sc_values.specs.declared.value.Value.{Value}
use Rattle.sc_values.specs.declared.value.Kind.{Kind}
use Rattle.sc_values.specs.Access.{Access, Precedes, MayPrecede}
use Rattle.sc_values.specs.Assignment.{assignment_of}
use Rattle.sc_values.specs.Expr.{value as value_of}
use Rattle.sc_values.specs.Operator.{kind_of}
use Rattle.sc_values.proofs.Loading.{value_same}
use Rattle.sc_graph.specs.Steps.{only_if, takes_kind}
use Rattle.core_charts.specs.declared.region.Effect.{Effect}
use Rattle.chart_machine.specs.declared.region_change.RegionChange.{RegionChange}
use Rattle.chart_machine.specs.declared.standing.Configuration.{Configuration}
use Rattle.chart_machine.specs.declared.standing.Move.{Move}
use Rattle.chart_machine.specs.declared.standing.Standing.{Standing}
use Rattle.chart_machine.specs.declared.standing.Standing.TheVariants as at
use Rattle.chart_machine.specs.declared.table.Table.{Table}
use Rattle.chart_machine.specs.Steps.{to, written, truth, verdict, acts, taken, entering_on, guarding_on, effected, change_of, access_of, access_of_trigger}
use Rattle.tick_laws.proofs.Lists.{and_then_some, map_some, get_set_other}
use Rattle.tick_laws.proofs.Views.{only_if_some}
use Rattle.preemption_laws.proofs.AssignmentsSwap.{Wrote, OtherFirst, assignments_swap, reads_behind}

module _ (k : Table) where
  abbrev declared : ℕ → Option Kind
  declared x = option_map (λ z. z.kind) (slice_get k.variables x)

  -- by a test one of two lists of moves is made, by an effect a variable is written, or nothing is done
  data Sort (r : ℕ) (x : Standing) : Type 0 where
    sort_tests : (trigger : Option Expr) (ins outs : List Move) →
        ((c : Configuration) →
        change_of k c r x ≡ option_map (λ holds. record { write = None; moves = if holds then ins else outs }) (verdict c.variables trigger)) →
        access_of x ≡ access_of_trigger trigger → Sort r x
    sort_acts : (s p : ℕ) (e : Effect) (effects : List Effect) → x ≡ at.Acting s (e ∷ effects) p → Sort r x
    sort_none : ((c : Configuration) → change_of k c r x ≡ None) → Sort r x

  sort_of : (r : ℕ) (x : Standing) → Sort r x
  sort_of r at.Outside = sort_none (λ c. refl)
  sort_of r at.Ended = sort_none (λ c. refl)
  sort_of r (at.Trying s []) = sort_none (λ c. refl)
  sort_of r (at.Trying s (t ∷ tests)) = sort_tests t.trigger (taken k r s t) (to r (at.Trying s tests) ∷ []) (λ c. refl) refl
  sort_of r (at.Entering s []) = sort_none (λ c. refl)
  sort_of r (at.Entering s (t ∷ tests)) = sort_tests t.trigger (taken k r s t) (entering_on k r s tests) (λ c. refl) refl
  sort_of r (at.Guarding s []) = sort_none (λ c. refl)
  sort_of r (at.Guarding s (t ∷ tests)) = sort_tests t.trigger (taken k r s t) (guarding_on k r s tests) (λ c. refl) refl
  sort_of r (at.Within s []) = sort_none (λ c. refl)
  sort_of r (at.Within s (t ∷ tests)) = sort_tests t.trigger (taken k r s t) (to r (at.Within s tests) ∷ []) (λ c. refl) refl
  sort_of r (at.Acting s [] p) = sort_none (λ c. refl)
  sort_of r (at.Acting s (e ∷ effects) p) = sort_acts s p e effects refl

  -- from these variables the step leads to those, with these moves
  pub record Changes (r : ℕ) (x : Standing) (before now : List Value) (moves : List Move) : Type 0 where
    pub does : (c : Configuration) → c.variables ≡ before →
        (d : RegionChange) × (change_of k c r x ≡ Some d) × (written d.write before ≡ now) × (d.moves ≡ moves)

  pub changes : (r : ℕ) (x : Standing) (c : Configuration) (d : RegionChange) → change_of k c r x ≡ Some d →
      Changes r x c.variables (written d.write c.variables) d.moves
  changes r x c d is =
      record { does = λ b same. (d, sort_same (sort_of r x) b same ∙ is, refl, refl) }
    where
      sort_same : Sort r x → (b : Configuration) → b.variables ≡ c.variables → change_of k b r x ≡ change_of k c r x
      sort_same (sort_tests trigger ins outs gives reads) b same =
          gives b ∙ (ap (λ vs. option_map (λ holds. record { write = None; moves = if holds then ins else outs }) (verdict vs trigger)) same ∙ sym (gives c))
      sort_same (sort_acts s p e effects stands) b same =
          ap (change_of k b r) stands ∙ (ap (λ vs. option_and_then (effected k r s e effects p) (value_of e.value vs)) same ∙ sym (ap (change_of k c r) stands))
      sort_same (sort_none none) b same = none b ∙ sym (none c)

  -- a configuration with these variables, whoever stands where
  abbrev some_with : List Value → Configuration
  some_with vs = record { variables = vs; regions = [] }

  -- ---- a test

  -- its verdict, and the moves that follow
  record Tested (trigger : Option Expr) (ins outs : List Move) (before now : List Value) (moves : List Move) : Type 0 where
    holds : Bool
    is : verdict before trigger ≡ Some holds
    made : (if holds then ins else outs) ≡ moves
    kept : before ≡ now

  module _ (r : ℕ) (x : Standing) (trigger : Option Expr) (ins outs : List Move)
      (gives : (c : Configuration) →
      change_of k c r x ≡ option_map (λ holds. record { write = None; moves = if holds then ins else outs }) (verdict c.variables trigger)) where
    tested : (before now : List Value) (moves : List Move) → Changes r x before now moves → Tested trigger ins outs before now moves
    tested before now moves h =
        let one = h.does (some_with before) refl in
        let v = map_some (λ (holds : Bool). record { write = None; moves = if holds then ins else outs }) (verdict before trigger) one.0
        (sym (gives (some_with before)) ∙ one.1) in
        record {
          holds = v.0;
          is = v.1;
          made = ap (λ (d : RegionChange). d.moves) v.2 ∙ one.3;
          kept = ap (λ (d : RegionChange). written d.write before) v.2 ∙ one.2;
        }

    by_test : (before now : List Value) (moves : List Move) → Tested trigger ins outs before now moves → Changes r x before now moves
    by_test before now moves t =
        record {
          does = λ c same. (
            record { write = None; moves = if t.holds then ins else outs },
            gives c
                ∙ ap (option_map (λ (holds : Bool). record { write = None; moves = if holds then ins else outs })) (ap (λ vs. verdict vs trigger) same ∙ t.is),
            t.kept,
            t.made,
          );
        }

  -- ---- an effect

  module _ (r s p : ℕ) (e : Effect) (effects : List Effect) where
    does_effect : (before now : List Value) (moves : List Move) → Changes r (at.Acting s (e ∷ effects) p) before now moves →
        Wrote declared e.variable e.value before now × (acts k r s effects p ≡ moves)
    does_effect before now moves h =
        let one = h.does (some_with before) refl in
        let v = and_then_some (effected k r s e effects p) (value_of e.value before) one.0 one.1 in
        let given : RegionChange = record { write = Some (record { variable = e.variable; value = v.0 }); moves = acts k r s effects p } in
        let parts = only_if_some (takes_kind (declared e.variable) (kind_of v.0)) (Some given) one.0 v.2 in
        let same : given ≡ one.0 = same_Some given one.0 parts.1 in (
          record { v = v.0; is = v.1; fits = parts.0; made = ap (λ (d : RegionChange). written d.write before) same ∙ one.2 },
          ap (λ (d : RegionChange). d.moves) same ∙ one.3,
        )

    by_effect : (before now : List Value) → Wrote declared e.variable e.value before now →
        Changes r (at.Acting s (e ∷ effects) p) before now (acts k r s effects p)
    by_effect before now w =
        record {
          does = λ c same. (
            record { write = Some (record { variable = e.variable; value = w.v }); moves = acts k r s effects p },
            ap (option_and_then (effected k r s e effects p)) (ap (value_of e.value) same ∙ w.is)
                ∙ ap (λ b. only_if b (Some (record { write = Some (record { variable = e.variable; value = w.v }); moves = acts k r s effects p }))) w.fits,
            w.made,
            refl,
          );
        }

  -- ---- two steps

  -- the other one first
  pub record OtherChanges (r u : ℕ) (x y : Standing) (before now : List Value) (moves others : List Move) : Type 0 where
    pub between : List Value
    pub first : Changes u y before between others
    pub second : Changes r x between now moves

  -- a test that reads nothing that was written comes out the same
  verdict_same : (trigger : Option Expr) (x : ℕ) (v : Value) (values : List Value) → ¬ Contains (access_of_trigger trigger).reads x →
      verdict (slice_set values x v) trigger ≡ verdict values trigger
  verdict_same None x v values none = refl
  verdict_same (Some e) x v values none =
      ap (option_and_then truth) (value_same e (slice_set values x v) values
      (record { at = λ y h. get_set_other values x y v (λ same. none (subst (Contains (access_of_trigger (Some e)).reads) same h)) }))

  -- an effect comes before who reads its variable
  acts_before : (z : Standing) (a : Access) (s p : ℕ) (e : Effect) (effects : List Effect) → z ≡ at.Acting s (e ∷ effects) p →
      Contains a.reads e.variable → Precedes (access_of z) a
  acts_before z a s p e effects stands h =
      subst (λ b. Precedes b a) (sym (ap access_of stands)) (reads_behind declared e.variable (assignment_of e.variable e.value) a h)

  module _ (r u : ℕ) (x y : Standing) (before mid now : List Value) (moves others : List Move) (one : Changes r x before mid moves)
      (two : Changes u y mid now others) (may : MayPrecede (access_of x) (access_of y)) (may_too : MayPrecede (access_of y) (access_of x)) where
    none_made : (z : Standing) (q : ℕ) (vs ws : List Value) (ms : List Move) → Changes q z vs ws ms → ((c : Configuration) → change_of k c q z ≡ None) → ⊥
    none_made z q vs ws ms h none =
        let d = h.does (some_with vs) refl in let wrong : None ≡ Some d.0 = sym (none (some_with vs)) ∙ d.1 in absurd cc

    both_test : (trigger : Option Expr) (ins outs : List Move)
        (gives : (c : Configuration) →
        change_of k c r x ≡ option_map (λ holds. record { write = None; moves = if holds then ins else outs }) (verdict c.variables trigger)) →
        Tested trigger ins outs before mid moves → (other : Option Expr) (ins2 outs2 : List Move) →
        ((c : Configuration) →
        change_of k c u y ≡ option_map (λ holds. record { write = None; moves = if holds then ins2 else outs2 }) (verdict c.variables other)) →
        OtherChanges r u x y before now moves others
    both_test trigger ins outs gives t other ins2 outs2 gives_too =
        let second = tested u y other ins2 outs2 gives_too mid now others two in
        record {
          between = before;
          first = by_test u y other ins2 outs2 gives_too before before others
              (record { holds = second.holds; is = ap (λ vs. verdict vs other) t.kept ∙ second.is; made = second.made; kept = refl });
          second = by_test r x trigger ins outs gives before now moves
              (record { holds = t.holds; is = t.is; made = t.made; kept = t.kept ∙ second.kept });
        }

    test_act : (trigger : Option Expr) (ins outs : List Move)
        (gives : (c : Configuration) →
        change_of k c r x ≡ option_map (λ holds. record { write = None; moves = if holds then ins else outs }) (verdict c.variables trigger)) →
        access_of x ≡ access_of_trigger trigger → (s p : ℕ) (e : Effect) (effects : List Effect) → y ≡ at.Acting s (e ∷ effects) p →
        OtherChanges r u x y before now moves others
    test_act trigger ins outs gives reads s p e effects stands =
        let t = tested r x trigger ins outs gives before mid moves one in
        let w = does_effect u s p e effects mid now others (subst (λ z. Changes u z mid now others) stands two) in
        let unread : ¬ Contains (access_of_trigger trigger).reads e.variable =
        λ h. may.no_order (acts_before y (access_of x) s p e effects stands (subst (λ (a : Access). Contains a.reads e.variable) (sym reads) h)) in
        let at_before : Wrote declared e.variable e.value before now = subst (λ vs. Wrote declared e.variable e.value vs now) (sym t.kept) w.0 in
        record {
          between = now;
          first = subst (λ z. Changes u z before now others) (sym stands)
              (subst (Changes u (at.Acting s (e ∷ effects) p) before now) w.1 (by_effect u s p e effects before now at_before));
          second = by_test r x trigger ins outs gives now now moves
              (record {
                holds = t.holds;
                is = ap (λ vs. verdict vs trigger) (sym at_before.made) ∙ (verdict_same trigger e.variable at_before.v before unread ∙ t.is);
                made = t.made;
                kept = refl;
              });
        }

    act_test : (s p : ℕ) (e : Effect) (effects : List Effect) → x ≡ at.Acting s (e ∷ effects) p → (trigger : Option Expr) (ins outs : List Move)
        (gives : (c : Configuration) →
        change_of k c u y ≡ option_map (λ holds. record { write = None; moves = if holds then ins else outs }) (verdict c.variables trigger)) →
        access_of y ≡ access_of_trigger trigger → OtherChanges r u x y before now moves others
    act_test s p e effects stands trigger ins outs gives reads =
        let w = does_effect r s p e effects before mid moves (subst (λ z. Changes r z before mid moves) stands one) in
        let t = tested u y trigger ins outs gives mid now others two in
        let unread : ¬ Contains (access_of_trigger trigger).reads e.variable =
        λ h. may_too.no_order (acts_before x (access_of y) s p e effects stands (subst (λ (a : Access). Contains a.reads e.variable) (sym reads) h)) in
        record {
          between = before;
          first = by_test u y trigger ins outs gives before before others
              (record {
                holds = t.holds;
                is = sym (verdict_same trigger e.variable w.0.v before unread) ∙ (ap (λ vs. verdict vs trigger) w.0.made ∙ t.is);
                made = t.made;
                kept = refl;
              });
          second = subst (λ z. Changes r z before now moves) (sym stands)
              (subst (Changes r (at.Acting s (e ∷ effects) p) before now) w.1
              (by_effect r s p e effects before now (subst (Wrote declared e.variable e.value before) t.kept w.0)));
        }

    both_act : (s p : ℕ) (e : Effect) (effects : List Effect) → x ≡ at.Acting s (e ∷ effects) p → (t q : ℕ) (f : Effect) (more : List Effect) →
        y ≡ at.Acting t (f ∷ more) q → OtherChanges r u x y before now moves others
    both_act s p e effects stands t q f more stands_too =
        let w = does_effect r s p e effects before mid moves (subst (λ z. Changes r z before mid moves) stands one) in
        let v = does_effect u t q f more mid now others (subst (λ z. Changes u z mid now others) stands_too two) in
        let o : OtherFirst declared e.variable f.variable e.value f.value before now =
        assignments_swap declared e.variable f.variable e.value f.value before mid now w.0 v.0
        (subst₂ MayPrecede (ap access_of stands) (ap access_of stands_too) may) (subst₂ MayPrecede (ap access_of stands_too) (ap access_of stands) may_too) in
        record {
          between = o.between;
          first = subst (λ z. Changes u z before o.between others) (sym stands_too)
              (subst (Changes u (at.Acting t (f ∷ more) q) before o.between) v.1 (by_effect u t q f more before o.between o.first));
          second = subst (λ z. Changes r z o.between now moves) (sym stands)
              (subst (Changes r (at.Acting s (e ∷ effects) p) o.between now) w.1 (by_effect r s p e effects o.between now o.second));
        }

    -- the second step may come first
    pub changes_swap : OtherChanges r u x y before now moves others
    changes_swap = by_sorts (sort_of r x) (sort_of u y)
      where
        by_sorts : Sort r x → Sort u y → OtherChanges r u x y before now moves others
        by_sorts (sort_tests trigger ins outs gives reads) (sort_tests other ins2 outs2 gives_too reads_too) =
            both_test trigger ins outs gives (tested r x trigger ins outs gives before mid moves one) other ins2 outs2 gives_too
        by_sorts (sort_tests trigger ins outs gives reads) (sort_acts s p e effects stands) = test_act trigger ins outs gives reads s p e effects stands
        by_sorts (sort_acts s p e effects stands) (sort_tests trigger ins outs gives reads) = act_test s p e effects stands trigger ins outs gives reads
        by_sorts (sort_acts s p e effects stands) (sort_acts t q f more stands_too) = both_act s p e effects stands t q f more stands_too
        by_sorts (sort_none none) other = absurd (none_made x r before mid moves one none)
        by_sorts (sort_tests trigger ins outs gives reads) (sort_none none) = absurd (none_made y u mid now others two none)
        by_sorts (sort_acts s p e effects stands) (sort_none none) = absurd (none_made y u mid now others two none)
