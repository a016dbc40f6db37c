-- A region comes to where something begins: what is asked of the chart alone holds again.
use Rattle.std.proofs.Common.{◌≡◌, ◌≢◌, ℕ, zero, suc, ◌<◌, ◌⊎◌, inl, inr, ⊎_elim, true, List, [], ◌∷◌, length, Contains, refl, sym, ap, subst, ◌∙◌, arith}
use Rattle.scl_graph_laws.proofs.Searching.{unlike}
use Rattle.chart_machine.specs.declared.standing.Standing.{Standing}
use Rattle.chart_machine.specs.declared.standing.Standing.TheVariants as at
use Rattle.chart_machine.specs.declared.standing.Configuration.{Configuration}
use Rattle.chart_machine.specs.declared.table.Table.{Table}
use Rattle.chart_machine.specs.Table.{state_at}
use Rattle.chart_machine.specs.Turns.{standing_of, guards as has_to_guard, inside, is_guarded, LiesIn, itself, deeper}
use Rattle.tick_laws.proofs.Lists.{same_or_not}
use Rattle.chart_machine_laws.specs.Tree.{IsThere, around, holder}
use Rattle.chart_machine_laws.proofs.LyingIn.{none_in, head_in, head_or_tail, outwards, top_only}
use Rattle.chart_machine_laws.proofs.ChartTables.{around_there}
use Rattle.abort_expansion_laws.specs.CoreRows.{IsState, Images}
use Rattle.abort_expansion_laws.specs.Related.{Related, IsInside, open_inside, IsCalm, calm_outside}
use Rattle.abort_expansion_laws.proofs.StageReached.{any_in}
use Rattle.abort_expansion_laws.proofs.Pending.{Sound}
use Rattle.abort_expansion_laws.proofs.InitialPairs.{chart_begins}
use Rattle.abort_expansion_laws.proofs.JustEntered.{EntryRows}
use Rattle.abort_expansion_laws.proofs.ChartEntered.{stood_of, WasEntered, ChartReach, was_entered, none_there, chart_reach, stood_present}
use Rattle.abort_expansion_laws.proofs.ChartEntered.{reached_open, reached_inside, reached_guards}
use Rattle.abort_expansion_laws.proofs.FirstTickWaits.{closes_first}
use Rattle.abort_expansion_laws.proofs.Arrives.{Arrives}
use Rattle.abort_expansion_laws.proofs.ArrivedReached.{outer_apart, arrived_lives}
use Rattle.abort_expansion_laws.proofs.ArrivedWaits.{lies_or_not, outer_out}
use Rattle.abort_expansion_laws.proofs.InsideAround.{one_in_other}
use Rattle.abort_expansion_laws.proofs.AreaReached.{Above}

module _ (k core : Table) (i : Images) (more : EntryRows k core i) (holds_there : (s : ℕ) → IsState k s → IsThere k (holder k s))
    (alone : (v : ℕ) → (state_at core v).regions ≡ [] → inside core v ≡ [])
    (c d : Configuration) (related : Related k core i c d) (r : ℕ) (next core_next : Configuration)
    (arrives : Arrives k core i more c d r next core_next) where
  abbrev f : ℕ → Standing
  f = standing_of next

  same : (q : ℕ) → ¬ LiesIn k q r → standing_of next q ≡ standing_of c q
  same q out = arrives.unchanged q out

  in_or_out : (q : ℕ) → LiesIn k q r ⊎ ¬ LiesIn k q r
  in_or_out q = lies_or_not k core i more holds_there alone c d related r next core_next arrives q

  lies_there : (q : ℕ) → LiesIn k q r → IsThere k q
  lies_there q (itself is) = subst (IsThere k) (sym is) arrives.there
  lies_there q (deeper y inner its) = around_there k q y inner

  -- ---- the region, and who lies in it

  r_entered : WasEntered k core i more f r
  r_entered =
      record {
        stood = arrives.stood;
        parent = λ u us round.
            let o = (arrived_lives k core i more holds_there c d related r next core_next arrives).parent u us round in (o.tests, o.open_in_chart);
      }

  pub chart_in : (q : ℕ) → LiesIn k q r → ChartReach k core i more f q
  chart_in q lies = chart_reach k core i more f (λ z. LiesIn k z r) begins q (lies_there q lies) lies
    where
      begins : (q : ℕ) → IsThere k q → LiesIn k q r → ChartReach k core i more f q ⊎ Above k (λ z. LiesIn k z r) q
      begins q q_there lies = by_round (around k q) refl
        where
          at_region : q ≡ r → ChartReach k core i more f q
          at_region is = subst (ChartReach k core i more f) (sym is) (was_entered r_entered)

          by_round : (zs : List ℕ) → around k q ≡ zs → ChartReach k core i more f q ⊎ Above k (λ z. LiesIn k z r) q
          by_round [] round = inl (at_region (top_only k more.tree.nested q r round lies))
          by_round (v ∷ vs) round =
              ⊎_elim (λ is. inl (at_region is))
              (λ up. inr (record { next = v; rest = vs; round = round; there = lies_there (holder k v) up; inner = up }))
              (outwards k more.tree.nested q r v vs round lies)

  -- ---- who is there is inside of all that is around it

  outer_inside : (q u : ℕ) → IsThere k q → standing_of c q ≢ at.Outside → Contains (around k q) u → ¬ LiesIn k (holder k u) r →
      IsInside k core i u (standing_of next (holder k u))
  outer_inside q u q_there present inner out =
      subst (IsInside k core i u) (sym (same (holder k u) out)) (related.enclosed q u q_there present inner)

  abbrev Outwards : ℕ → ℕ → Type 0
  Outwards q u =
      (v : ℕ) → Contains (around k q) v → LiesIn k (holder k v) r → standing_of next (holder k v) ≢ at.Outside → Contains (around k (holder k v)) u →
      IsInside k core i u (standing_of next (holder k u))

  enclosed_in : (bound q u : ℕ) → q < bound → LiesIn k q r → standing_of next q ≢ at.Outside → Contains (around k q) u →
      IsInside k core i u (standing_of next (holder k u))
  enclosed_in zero q u lt lies present inner = absurd (omega (lt, arith))
  enclosed_in (suc bound) q u lt lies present inner =
      by_reach (chart_in q lies)
      (λ v in_v up there_now tail. let low = more.tree.deeper q v in_v in enclosed_in bound (holder k v) u (omega (low, lt, arith)) up there_now tail)
    where
      at_region : q ≡ r → IsInside k core i u (standing_of next (holder k u))
      at_region is =
          let round : Contains (around k r) u = subst (λ z. Contains (around k z) u) is inner in
          outer_inside r u arrives.there arrives.present round (outer_apart k core i more holds_there c d related r next core_next arrives u round)

      by_round : Outwards q u → (zs : List ℕ) → around k q ≡ zs → WasEntered k core i more f q → IsInside k core i u (standing_of next (holder k u))
      by_round rest [] round l = absurd (none_in u (subst (λ zs. Contains zs u) round inner))
      by_round rest (v ∷ vs) round l =
          ⊎_elim at_region
          (λ up.
          let opened = l.parent v vs round in
          ⊎_elim
          (λ is.
          subst (λ z. IsInside k core i z (standing_of next (holder k z))) is (subst (IsInside k core i v) (sym opened.1) (open_inside opened.0)))
          (λ tail.
          rest v (subst (λ zs. Contains zs v) (sym round) (head_in v vs)) up
          (λ w. let wrong : at.Within v opened.0 ≡ at.Outside = sym opened.1 ∙ w in absurd cc)
          (subst (λ zs. Contains zs u) (more.tree.nested.upward q v vs round) tail))
          (head_or_tail v u vs (subst (λ zs. Contains zs u) round inner)))
          (outwards k more.tree.nested q r v vs round lies)

      by_reach : ChartReach k core i more f q → Outwards q u → IsInside k core i u (standing_of next (holder k u))
      by_reach (none_there none) rest = absurd (present (none q (itself refl)))
      by_reach (was_entered l) rest = by_round rest (around k q) refl l

  all_enclosed : (q u : ℕ) → IsThere k q → standing_of next q ≢ at.Outside → Contains (around k q) u → IsInside k core i u (standing_of next (holder k u))
  all_enclosed q u q_there present inner =
      ⊎_elim (λ lies. enclosed_in (suc q) q u (omega arith) lies present inner)
      (λ out.
      outer_inside q u q_there (λ w. present (same q out ∙ w)) inner
      (outer_out k core i more holds_there alone c d related r next core_next arrives q u out inner))
      (in_or_out q)

  -- ---- whoever stands in a superstate has its regions there

  opened_in : (u q : ℕ) → IsState k u → IsInside k core i u (standing_of next (holder k u)) → Contains (state_at k u).regions q → LiesIn k (holder k u) r →
      standing_of next q ≢ at.Outside
  opened_in u q is inner child lies =
      let opened = reached_inside k core i more f (holder k u) u (standing_of next (holder k u)) refl inner (chart_in (holder k u) lies) in
      let fresh = (reached_open k core i more f (holder k u) u opened.0 opened.1 (chart_in (holder k u) lies)).1 in
      let direct = more.tree.children u q child in
      let round : Contains (around k q) u = subst (λ zs. Contains zs u) (sym direct) (head_in u (around k (holder k u))) in
      let b = chart_begins k core i more.rows more.tree more.core_tree more.entries more.elsewhere f u (more.alike u is (more.super_around q u round).1) fresh q
      child (more.once q u (around k (holder k u)) (around_there k q u round) direct) in
      subst (λ z. standing_of next z ≢ at.Outside) b.held
      (stood_present k core i more f (holder k b.first) (stood_of k core i more f b.first b.here b.begins))

  opened_out : (u q : ℕ) → IsState k u → IsInside k core i u (standing_of next (holder k u)) → Contains (state_at k u).regions q → ¬ LiesIn k (holder k u) r →
      standing_of next q ≢ at.Outside
  opened_out u q is inner child out =
      ⊎_elim (λ at_r. subst (λ z. standing_of next z ≢ at.Outside) (sym at_r) (stood_present k core i more f r r_entered.stood))
      (λ ne w.
      related.opened u q is (subst (IsInside k core i u) (same (holder k u) out) inner) child
      (sym (same q (λ lies. not_deeper ne lies)) ∙ w))
      (same_or_not q r)
    where
      not_deeper : q ≢ r → ¬ LiesIn k q r
      not_deeper ne (itself at_r) = ne at_r
      not_deeper ne (deeper y in_y its) =
          ⊎_elim (λ first. out (itself (ap (holder k) first ∙ its))) (λ tail. out (deeper y tail its))
          (head_or_tail u y (around k (holder k u)) (subst (λ zs. Contains zs y) (more.tree.children u q child) in_y))

  -- ---- whoever is inside of what guards is calm

  pub around_region : (q u : ℕ) → LiesIn k q r → Contains (around k q) u → ¬ LiesIn k (holder k u) r → Contains (around k r) u
  around_region q u (itself is) inner out = subst (λ z. Contains (around k z) u) is inner
  around_region q u (deeper y in_y its) inner out =
      ⊎_elim (λ first. absurd (out (itself (ap (holder k) first ∙ its))))
      (⊎_elim (λ above. absurd (out (deeper y above its))) (λ below. subst (λ z. Contains (around k z) u) its below))
      (one_in_other k more.tree.nested (around k q) q u y refl inner in_y)

  -- nobody is inside of what comes to guard
  pub guards_alone : (q u : ℕ) → LiesIn k (holder k u) r → Contains (around k q) u → has_to_guard (standing_of next (holder k u)) ≡ true →
      standing_of next q ≡ at.Outside
  guards_alone q u lies inner guards = reached_guards k core i more f (holder k u) guards (chart_in (holder k u) lies) q u inner refl

  -- nobody guards around the region
  pub none_guards : (q u : ℕ) → LiesIn k q r → Contains (around k q) u → ¬ LiesIn k (holder k u) r → has_to_guard (standing_of c (holder k u)) ≡ true → ⊥
  none_guards q u lies_q inner out before =
      unlike (is_guarded k c (around k r))
      (any_in (λ z. has_to_guard (standing_of c (holder k z))) (around k r) u (around_region q u lies_q inner out) before) arrives.free

  all_calm : (q u : ℕ) → IsThere k q → Contains (around k q) u → has_to_guard (standing_of next (holder k u)) ≡ true → IsCalm (standing_of next q)
  all_calm q u q_there inner guards =
      ⊎_elim
      (λ lies. subst IsCalm (sym (guards_alone q u lies inner guards)) calm_outside)
      (λ out.
      let before : has_to_guard (standing_of c (holder k u)) ≡ true = sym (ap has_to_guard (same (holder k u) out)) ∙ guards in
      ⊎_elim
      (λ lies_q. absurd (none_guards q u lies_q inner out before))
      (λ out_q. subst IsCalm (sym (same q out_q)) (related.calm q u q_there inner before)) (in_or_out q))
      (in_or_out (holder k u))

  zero_out : ¬ LiesIn k 0 r
  zero_out (itself is) = let lt = arrives.there.0 in absurd (omega (lt, is, arith))
  zero_out (deeper y inner its) = none_in y inner

  pub arrived_sound : Sound k core i next
  arrived_sound =
      record {
        chart_regions = arrives.chart_regions;
        values = ap length arrives.chart_values ∙ related.values;
        no_chart = same 0 zero_out ∙ related.no_chart;
        enclosed = all_enclosed;
        opened = λ u q is inner child. ⊎_elim (opened_in u q is inner child) (opened_out u q is inner child) (in_or_out (holder k u));
        closes_last = λ u tests is.
            ⊎_elim (λ lies. closes_first k core i u tests (reached_open k core i more f (holder k u) u tests is (chart_in (holder k u) lies)).0)
            (λ out. related.closes_last u tests (sym (same (holder k u) out) ∙ is)) (in_or_out (holder k u));
        calm = all_calm;
      }
