-- As a tick starts they correspond: in the first one the chart is entered, in a later one those who rest are woken.
use Rattle.std.proofs.Common.{◌≡◌, ◌≢◌, ℕ, zero, suc, ◌<◌, ◌⊎◌, inl, inr, ⊎_elim, Bool, true, false, ◌&&◌, if◌then◌else◌, nat_eq, Some, List, [], ◌∷◌, length}
use Rattle.std.proofs.Common.{unwrap_or, Contains, refl, sym, ap, subst, ◌∙◌, eqb-true, arith}
use Rattle.std.proofs.lemmas.List.{length-map}
use Rattle.std.specs.List.{list_all}
use Rattle.sc_graph.specs.Tick.{Inputs, values_at_start}
use Rattle.core_charts.specs.declared.region.Transition.{Transition}
use Rattle.core_charts.specs.Tests.{terminations, closing_tests}
use Rattle.chart_machine.specs.declared.standing.Standing.{Standing}
use Rattle.chart_machine.specs.declared.standing.Standing.TheVariants as stand
use Rattle.chart_machine.specs.declared.standing.Configuration.{Configuration}
use Rattle.chart_machine.specs.declared.table.Table.{Table}
use Rattle.chart_machine.specs.Table.{state_at, region_at}
use Rattle.chart_machine.specs.Turns.{standing_of}
use Rattle.chart_machine.specs.Steps.{moved}
use Rattle.chart_machine.specs.Machine.{is_outside, guarded_first, woken, regions_at_start}
use Rattle.chart_machine.specs.Machine.{start as chart_start}
use Rattle.scl.specs.Labels.{settled}
use Rattle.scl.specs.Numbering.{Numbered}
use Rattle.scl.specs.Meaning.{State, Doing, Away, Todo, Forked, Resting, Resuming, Finished, doing, is_ready, root_started, start}
use Rattle.scl.specs.Meaning.{woken as doing_woken}
use Rattle.chart_lowering_laws.specs.Layout.{Layout, LiesIn, IsSuper, IsRegionOf, Lowers}
use Rattle.chart_lowering_laws.specs.Corresponds.{Live, HeldBy, Giving, Nothing, Ready, Turn, Past, giving_in, giving_of_root, given, fresh}
use Rattle.chart_lowering_laws.specs.Corresponds.{Fits, IsAtRoot, Corresponds}
use Rattle.chart_lowering_laws.specs.Keeps.{AtRest}
use Rattle.tick_laws.proofs.Lists.{contains_head, contains_none}
use Rattle.chart_lowering_laws.proofs.NumberTests.{nat_same, same_test}
use Rattle.chart_lowering_laws.proofs.Entering.{standing_in, put, moved_at, moved_length, opens_up, opened_in, reaches, any_reaches, reaches_member}
use Rattle.chart_lowering_laws.proofs.Entering.{member_reaches, none_reaches, puts_top, or_either, or_first, or_second, and_each, and_both}
use Rattle.chart_lowering_laws.proofs.Matching.{is_within}
use Rattle.chart_lowering_laws.proofs.Structure.{given_top, given_in, giving_closed}
use Rattle.chart_lowering_laws.proofs.Updating.{fresh_giving}
use Rattle.chart_lowering_laws.proofs.Stepping.{number_within, unwrapped}
use Rattle.chart_lowering_laws.proofs.Catching.{caught, Caught, not_ready}
use Rattle.chart_lowering_laws.proofs.Woken.{not_live, standing_map, all_outside, start_first, start_later, start_length}
use Rattle.chart_lowering_laws.proofs.Woken.{giving_woken, root_giving}
use Rattle.chart_lowering_laws.proofs.Entered.{fits_as, outside_nothing, away_if_outside, entered_if}

module _ (k : Table) (p : Numbered) (l : Layout) (low : Lowers k p l) where
  module _ (inputs : Inputs) (c : Configuration) (s : State) (rest : AtRest k p l c s) where
    abbrev corr : Corresponds k p l c s
    corr = rest.corresponds

    abbrev c_start : Configuration
    c_start = chart_start k inputs c

    abbrev s_start : State
    s_start = start p inputs s

    settles : settled p.root p.root ≡ Some p.root
    settles = subst (λ b. settled p.root b ≡ Some b) (sym low.root.is) refl

    same_variables : c_start.variables ≡ s_start.variables
    same_variables = ap (λ xs. values_at_start inputs xs c.variables) (sym low.variables) ∙ ap (values_at_start inputs p.variables) corr.variables

    long : length s_start.threads ≡ suc (length k.regions)
    long = start_length p.root s.threads ∙ corr.threads

    some_thread : zero < length s.threads
    some_thread = let h : length s.threads ≡ suc (length k.regions) = corr.threads in omega (arith, h)

    root_at : doing s_start zero ≡ root_started (Some p.root) (doing s zero)
    root_at = start_first p.root (Some p.root) s.threads some_thread settles

    later_at : (q : ℕ) → IsRegionOf k q → doing s_start q ≡ doing_woken (doing s q)
    later_at zero there = let less : zero < zero = there.0 in absurd (omega (arith, less))
    later_at (suc q) there = start_later p.root s.threads q

    -- ---- the first tick

    module _ (first : list_all is_outside c.regions ≡ true) where
      regions_are : c_start.regions ≡ moved k.opened c.regions
      regions_are = ap (λ b. regions_at_start k b c.regions) first

      root_todo : doing s_start zero ≡ Todo p.root
      root_todo = root_at ∙ ap (root_started (Some p.root)) (away_if_outside k p l low c s rest first)

      is_away : (q : ℕ) → IsRegionOf k q → doing s_start q ≡ Away
      is_away q there = later_at q there
          ∙ ap doing_woken (fits_as k p l low c s rest q Nothing there (outside_nothing k p l low c s rest q there (all_outside c.regions first q))).1

      stands_at : (q : ℕ) → (q ≡ zero) ⊎ IsRegionOf k q → standing_of c_start q ≡ (if any_reaches k l l.top q then fresh k l q else stand.Outside)
      stands_at q number =
          ap (λ rs. standing_in rs q) regions_are
          ∙ moved_at k.opened c.regions q (number_within k p l low c s corr q number)
          ∙ ap (λ o. unwrap_or o (standing_in c.regions q)) (ap (λ moves. put moves q) low.root.opened ∙ puts_top k l low.tree p.root low.states q number)
          ∙ unwrapped k p l low c s corr (any_reaches k l l.top q) (fresh k l q) (standing_in c.regions q)
          ∙ ap (λ y. if any_reaches k l l.top q then fresh k l q else y) (all_outside c.regions first q)

      -- further down a region is opened where the one around it is, and stands in its initial state there
      opened_further : (q u : ℕ) → IsRegionOf k q → LiesIn k q u →
          any_reaches k l l.top q ≡ (nat_eq (l.initial (state_at k u).holder) u && any_reaches k l l.top (state_at k u).holder)
      opened_further q u there lies = same_test (any_reaches k l l.top q) (nat_eq (l.initial a) u && any_reaches k l l.top a) down up
        where
          a : ℕ
          a = (state_at k u).holder

          down : any_reaches k l l.top q ≡ true → (nat_eq (l.initial a) u && any_reaches k l l.top a) ≡ true
          down h =
              let m : (r : ℕ) × Contains l.top r × (reaches k l r q ≡ true) = member_reaches k l l.top q h in
              let top : IsRegionOf k m.0 × ((region_at k m.0).around ≡ []) = low.tree.tops m.0 m.1 in
              ⊎_elim
              (λ same. absurd (contains_none u (subst (λ xs. Contains xs u) (sym lies.around ∙ ap (λ z. (region_at k z).around) (sym (eqb-true m.0 q same))
              ∙ top.1) (contains_head u (region_at k a).around))))
              (λ opened.
              let here : opens_up k l (l.initial m.0) (u ∷ (region_at k a).around) ≡ true =
              subst (λ xs. opens_up k l (l.initial m.0) xs ≡ true) lies.around opened in
              ⊎_elim
              (λ same.
              let is : u ≡ l.initial m.0 = eqb-true u (l.initial m.0) same in
              let at : a ≡ m.0 = ap (λ z. (state_at k z).holder) is ∙ (low.tree.initials m.0 top.0).holder in
              and_both (nat_eq (l.initial a) u) (any_reaches k l l.top a) (nat_same (l.initial a) u (ap l.initial at ∙ sym is))
              (reaches_member k l l.top m.0 a m.1 (or_first (nat_eq m.0 a) (opened_in k l (l.initial m.0) a) (nat_same m.0 a (sym at)))))
              (λ deep.
              let each : (nat_eq (l.initial a) u ≡ true) × (opens_up k l (l.initial m.0) (region_at k a).around ≡ true) = and_each (nat_eq (l.initial a) u)
              (opens_up k l (l.initial m.0) (region_at k a).around) deep in
              and_both (nat_eq (l.initial a) u) (any_reaches k l l.top a) each.0
              (reaches_member k l l.top m.0 a m.1 (or_second (nat_eq m.0 a) (opened_in k l (l.initial m.0) a) each.1)))
              (or_either (nat_eq u (l.initial m.0)) (nat_eq (l.initial a) u && opens_up k l (l.initial m.0) (region_at k a).around) here))
              (or_either (nat_eq m.0 q) (opened_in k l (l.initial m.0) q) m.2)

          up : (nat_eq (l.initial a) u && any_reaches k l l.top a) ≡ true → any_reaches k l l.top q ≡ true
          up h =
              let each : (nat_eq (l.initial a) u ≡ true) × (any_reaches k l l.top a ≡ true) = and_each (nat_eq (l.initial a) u) (any_reaches k l l.top a) h in
              let m : (r : ℕ) × Contains l.top r × (reaches k l r a ≡ true) = member_reaches k l l.top a each.1 in
              let to_q : opens_up k l (l.initial m.0) (u ∷ (region_at k a).around) ≡ true → any_reaches k l l.top q ≡ true = λ x.
              reaches_member k l l.top m.0 q m.1
              (or_second (nat_eq m.0 q) (opened_in k l (l.initial m.0) q) (subst (λ xs. opens_up k l (l.initial m.0) xs ≡ true) (sym lies.around) x)) in
              ⊎_elim
              (λ same. to_q (or_first (nat_eq u (l.initial m.0)) (nat_eq (l.initial a) u && opens_up k l (l.initial m.0) (region_at k a).around)
              (nat_same u (l.initial m.0) (sym (eqb-true (l.initial a) u each.0) ∙ ap l.initial (sym (eqb-true m.0 a same))))))
              (λ deep. to_q (or_second (nat_eq u (l.initial m.0)) (nat_eq (l.initial a) u && opens_up k l (l.initial m.0) (region_at k a).around)
              (and_both (nat_eq (l.initial a) u) (opens_up k l (l.initial m.0) (region_at k a).around) each.0 deep)))
              (or_either (nat_eq m.0 a) (opened_in k l (l.initial m.0) a) m.2)

      by_ready : (q : ℕ) (b : Bool) (g : Giving) → g ≡ (if b then Ready else Nothing) → standing_of c_start q ≡ (if b then fresh k l q else stand.Outside) →
          doing s_start q ≡ Away → Fits k p.root l q g (standing_of c_start q) (doing s_start q)
      by_ready q true g is stands away = subst (λ g. Fits k p.root l q g (standing_of c_start q) (doing s_start q)) (sym is) (stands, away)
      by_ready q false g is stands away = subst (λ g. Fits k p.root l q g (standing_of c_start q) (doing s_start q)) (sym is) (stands, away)

      first_each : (q : ℕ) → IsRegionOf k q → Fits k p.root l q (given k c_start s_start (region_at k q).around) (standing_of c_start q) (doing s_start q)
      first_each q there = by_ready q (any_reaches k l l.top q) (given k c_start s_start (region_at k q).around) (⊎_elim top lies (low.tree.each q there))
          (stands_at q (inr there)) (is_away q there)
        where
          top : Contains l.top q × ((region_at k q).around ≡ []) →
              given k c_start s_start (region_at k q).around ≡ (if any_reaches k l l.top q then Ready else Nothing)
          top t =
              given_top k c_start s_start q t.1
              ∙ ap giving_of_root root_todo
              ∙ subst (λ b. giving_of_root (Todo b) ≡ Ready) (sym low.root.is) refl
              ∙ sym (ap (λ b. if b then Ready else Nothing)
              (reaches_member k l l.top q q t.0 (or_first (nat_eq q q) (opened_in k l (l.initial q) q) (nat_same q q refl))))

          lies : (u : ℕ) × LiesIn k q u → given k c_start s_start (region_at k q).around ≡ (if any_reaches k l l.top q then Ready else Nothing)
          lies u =
              let a : ℕ = (state_at k u.0).holder in
              let a_there : IsRegionOf k a = low.tree.holders u.0 u.1.there in
              given_in k c_start s_start q u.0 u.1
              ∙ ap (λ x. giving_in u.0 x (doing s_start a)) (stands_at a (inr a_there))
              ∙ ap (giving_in u.0 (if any_reaches k l l.top a then fresh k l a else stand.Outside)) (is_away a a_there)
              ∙ by (any_reaches k l l.top a) refl
            where
              further : (b : Bool) → any_reaches k l l.top (state_at k u.0).holder ≡ b →
                  any_reaches k l l.top q ≡ (nat_eq (l.initial (state_at k u.0).holder) u.0 && b)
              further b is = opened_further q u.0 there u.1 ∙ ap (λ z. nat_eq (l.initial (state_at k u.0).holder) u.0 && z) is

              with_true : (b : Bool) → b ≡ (b && true)
              with_true true = refl
              with_true false = refl

              with_false : (b : Bool) → false ≡ (b && false)
              with_false true = refl
              with_false false = refl

              by : (b : Bool) → any_reaches k l l.top (state_at k u.0).holder ≡ b →
                  giving_in u.0 (if any_reaches k l l.top (state_at k u.0).holder then fresh k l (state_at k u.0).holder else stand.Outside) Away
                  ≡ (if any_reaches k l l.top q then Ready else Nothing)
              by true is =
                  ap (λ b. giving_in u.0 (if b then fresh k l (state_at k u.0).holder else stand.Outside) Away) is
                  ∙ fresh_giving k p l low (state_at k u.0).holder u.0 q (low.tree.holders u.0 u.1.there) u.1
                  ∙ ap (λ b. if b then Ready else Nothing) (with_true (nat_eq (l.initial (state_at k u.0).holder) u.0) ∙ sym (further true is))
              by false is =
                  ap (λ b. giving_in u.0 (if b then fresh k l (state_at k u.0).holder else stand.Outside) Away) is
                  ∙ ap (λ b. if b then Ready else Nothing) (with_false (nat_eq (l.initial (state_at k u.0).holder) u.0) ∙ sym (further false is))

      pub first_corresponds : Corresponds k p l c_start s_start
      first_corresponds = record {
        variables = same_variables;
        regions = ap length regions_are ∙ moved_length k.opened c.regions ∙ corr.regions;
        threads = long;
        chart = stands_at zero (inl refl) ∙ ap (λ b. if b then fresh k l zero else stand.Outside)
            (none_reaches k l low.tree l.top (λ r h. (low.tree.tops r h).0));
        root = subst (IsAtRoot p.root) (sym root_todo) (subst (λ b. IsAtRoot b (Todo b)) (sym low.root.is) refl);
        each = first_each;
      }

    -- ---- a later tick

    up : Caught c s
    up q = by (standing_of c q) (doing s q) (rest.over_too q)
      where
        by : (x : Standing) (d : Doing) → is_ready s d ≡ false → caught x d ≡ true
        by x (Todo todo) h = absurd (cc)
        by x (Resuming n more) h = absurd (cc)
        by stand.Outside Away h = refl
        by stand.Outside (Forked n branches more) h = refl
        by stand.Outside (Resting n more) h = refl
        by stand.Outside Finished h = refl
        by stand.Ended Away h = refl
        by stand.Ended (Forked n branches more) h = refl
        by stand.Ended (Resting n more) h = refl
        by stand.Ended Finished h = refl
        by (stand.Trying u tests) Away h = refl
        by (stand.Trying u tests) (Forked n branches more) h = refl
        by (stand.Trying u tests) (Resting n more) h = refl
        by (stand.Trying u tests) Finished h = refl
        by (stand.Within u tests) Away h = refl
        by (stand.Within u tests) (Forked n branches more) h = refl
        by (stand.Within u tests) (Resting n more) h = refl
        by (stand.Within u tests) Finished h = refl
        by (stand.Entering u tests) d h = refl
        by (stand.Guarding u tests) d h = refl
        by (stand.Acting u effects target) d h = refl

    -- in a superstate without strong aborts nothing changes as a tick starts
    woken_super : (u : ℕ) (tests : List Transition) → IsSuper k p.root l u → tests ≡ terminations (state_at k u).transitions →
        woken k (stand.Within u tests) ≡ stand.Within u tests
    woken_super u tests h all =
        ap (λ strong. guarded_first u strong (closing_tests (state_at k u).transitions)) h.no_strong
        ∙ ap (stand.Within u) (h.closing ∙ sym all)

    root_woken : (d : Doing) → d ≢ Away → root_started (Some p.root) d ≡ doing_woken d
    root_woken Away h = absurd (h refl)
    root_woken (Todo todo) h = refl
    root_woken (Forked n branches more) h = refl
    root_woken (Resting n more) h = refl
    root_woken (Resuming n more) h = refl
    root_woken Finished h = refl

    -- what is woken stands alike
    record Woken (q : ℕ) (x : Standing) (d : Doing) : Type 0 where
      live : Live k p.root l q (woken k x) (doing_woken d)
      held : HeldBy k p.root l q (woken k x)
      within : is_within x ≡ true → woken k x ≡ x
      outer : is_within x ≡ false → is_within (woken k x) ≡ false

    live_woken : (q : ℕ) (x : Standing) (d : Doing) → is_ready s d ≡ false → Live k p.root l q x d → HeldBy k p.root l q x → Woken q x d
    live_woken q x (Todo todo) h live held = absurd (cc)
    live_woken q x (Resuming n more) h live held = absurd (cc)
    live_woken q (stand.Trying u tests) (Resting n more) h live held = record {
      live = (refl, live.1);
      held = held;
      within = λ i. absurd (cc);
      outer =
          λ i. refl;
    }
    live_woken q (stand.Within u tests) (Resting n more) h live held =
        let same : woken k (stand.Within u tests) ≡ stand.Within u tests = woken_super u tests held.1 live.1 in
        record {
          live = subst (λ y. Live k p.root l q y (Resuming n more)) (sym same) live;
          held = subst (HeldBy k p.root l q) (sym same) held;
          within = λ i. same;
          outer = λ i. absurd (cc);
        }
    live_woken q (stand.Within u tests) (Forked n branches more) h live held =
        let same : woken k (stand.Within u tests) ≡ stand.Within u tests = woken_super u tests held.1 live.0 in
        record {
          live = subst (λ y. Live k p.root l q y (Forked n branches more)) (sym same) live;
          held = subst (HeldBy k p.root l q) (sym same) held;
          within = λ i. same;
          outer = λ i. absurd (cc);
        }
    live_woken q stand.Ended Finished h live held = record { live = tt; held = tt; within = λ i. absurd (cc); outer = λ i. refl }
    live_woken q stand.Outside d h live held = absurd (not_live k p.root l q d live)
    live_woken q stand.Ended Away h live held = absurd live
    live_woken q stand.Ended (Forked n branches more) h live held = absurd live
    live_woken q stand.Ended (Resting n more) h live held = absurd live
    live_woken q (stand.Trying u tests) Away h live held = absurd live
    live_woken q (stand.Trying u tests) (Forked n branches more) h live held = absurd live
    live_woken q (stand.Trying u tests) Finished h live held = absurd live
    live_woken q (stand.Within u tests) Away h live held = absurd live
    live_woken q (stand.Within u tests) Finished h live held = absurd live
    live_woken q (stand.Entering u tests) d h live held = absurd live
    live_woken q (stand.Guarding u tests) d h live held = absurd live
    live_woken q (stand.Acting u [] target) Away h live held = absurd live
    live_woken q (stand.Acting u [] target) (Forked n branches more) h live held = absurd live
    live_woken q (stand.Acting u [] target) (Resting n more) h live held = absurd live
    live_woken q (stand.Acting u [] target) Finished h live held = absurd live
    live_woken q (stand.Acting u (e ∷ effects) target) Away h live held = absurd live
    live_woken q (stand.Acting u (e ∷ effects) target) (Forked n branches more) h live held = absurd live
    live_woken q (stand.Acting u (e ∷ effects) target) (Resting n more) h live held = absurd live
    live_woken q (stand.Acting u (e ∷ effects) target) Finished h live held = absurd live

    module _ (later : list_all is_outside c.regions ≡ false) where
      woken_at : (q : ℕ) → standing_of c_start q ≡ woken k (standing_of c q)
      woken_at q = ap (λ b. standing_in (regions_at_start k b c.regions) q) later ∙ standing_map (woken k) c.regions q refl

      root_is : doing s_start zero ≡ doing_woken (doing s zero)
      root_is = root_at ∙ root_woken (doing s zero) (entered_if k p l low c s rest later)

      turn_woken : (q : ℕ) → IsRegionOf k q → given k c s (region_at k q).around ≡ Turn → Woken q (standing_of c q) (doing s q)
      turn_woken q there turn = let fits : Live k p.root l q (standing_of c q) (doing s q) × HeldBy k p.root l q (standing_of c q) =
          fits_as k p l low c s rest q Turn there turn in live_woken q (standing_of c q) (doing s q) (rest.over_too q) fits.0 fits.1

      -- a region's standing, by whether it is in a superstate
      in_or_out : (q : ℕ) → IsRegionOf k q →
          (woken k (standing_of c q) ≡ standing_of c q) ⊎ ((is_within (standing_of c q) ≡ false) × (is_within (woken k (standing_of c q)) ≡ false))
      in_or_out q there = by (given k c s (region_at k q).around) refl (corr.each q there)
        where
          by_turn : Woken q (standing_of c q) (doing s q) → (b : Bool) → is_within (standing_of c q) ≡ b →
              (woken k (standing_of c q) ≡ standing_of c q) ⊎ ((is_within (standing_of c q) ≡ false) × (is_within (woken k (standing_of c q)) ≡ false))
          by_turn w true is = inl (w.within is)
          by_turn w false is = inr (is, w.outer is)

          by : (g : Giving) → given k c s (region_at k q).around ≡ g → Fits k p.root l q g (standing_of c q) (doing s q) →
              (woken k (standing_of c q) ≡ standing_of c q) ⊎ ((is_within (standing_of c q) ≡ false) × (is_within (woken k (standing_of c q)) ≡ false))
          by Nothing is fits = inl (ap (woken k) fits.0 ∙ sym fits.0)
          by Past is fits = inl (ap (woken k) fits.0 ∙ sym fits.0)
          by Ready is fits = absurd (not_ready k p l low c s corr up (suc q) q (omega arith) there is)
          by Turn is fits = by_turn (turn_woken q there is) (is_within (standing_of c q)) refl

      same_given : (q : ℕ) → IsRegionOf k q → given k c_start s_start (region_at k q).around ≡ given k c s (region_at k q).around
      same_given q there =
          ⊎_elim
          (λ t. given_top k c_start s_start q t.1 ∙ ap giving_of_root root_is ∙ root_giving (doing s zero) ∙ sym (given_top k c s q t.1))
          (λ u.
          let a : ℕ = (state_at k u.0).holder in
          let a_there : IsRegionOf k a = low.tree.holders u.0 u.1.there in
          given_in k c_start s_start q u.0 u.1
          ∙ ap (λ x. giving_in u.0 x (doing s_start a)) (woken_at a)
          ∙ ap (giving_in u.0 (woken k (standing_of c a))) (later_at a a_there)
          ∙ ⊎_elim
          (λ same. ap (λ x. giving_in u.0 x (doing_woken (doing s a))) same ∙ inner u.0 (standing_of c a) (doing s a))
          (λ out. giving_closed k p l low u.0 (woken k (standing_of c a)) (doing_woken (doing s a)) out.1
          ∙ sym (giving_closed k p l low u.0 (standing_of c a) (doing s a) out.0))
          (in_or_out a a_there)
          ∙ sym (given_in k c s q u.0 u.1))
          (low.tree.each q there)
        where
          inner : (u : ℕ) (x : Standing) (d : Doing) → giving_in u x (doing_woken d) ≡ giving_in u x d
          inner u stand.Outside d = refl
          inner u stand.Ended d = refl
          inner u (stand.Trying w tests) d = refl
          inner u (stand.Entering w tests) d = refl
          inner u (stand.Guarding w tests) d = refl
          inner u (stand.Acting w effects target) d = refl
          inner u (stand.Within w tests) d = ap (λ g. if nat_eq w u then g else Nothing) (giving_woken d)

      later_fits : (q : ℕ) → IsRegionOf k q → (g : Giving) → given k c s (region_at k q).around ≡ g → Fits k p.root l q g (standing_of c q) (doing s q) →
          Fits k p.root l q g (woken k (standing_of c q)) (doing_woken (doing s q))
      later_fits q there Nothing is fits = (ap (woken k) fits.0, ap doing_woken fits.1)
      later_fits q there Past is fits = (ap (woken k) fits.0, ap doing_woken fits.1)
      later_fits q there Ready is fits = absurd (not_ready k p l low c s corr up (suc q) q (omega arith) there is)
      later_fits q there Turn is fits = let w : Woken q (standing_of c q) (doing s q) = turn_woken q there is in (w.live, w.held)

      later_each : (q : ℕ) → IsRegionOf k q → Fits k p.root l q (given k c_start s_start (region_at k q).around) (standing_of c_start q) (doing s_start q)
      later_each q there =
          subst (λ g. Fits k p.root l q g (standing_of c_start q) (doing s_start q)) (sym (same_given q there))
          (subst (λ x. Fits k p.root l q (given k c s (region_at k q).around) x (doing s_start q)) (sym (woken_at q))
          (subst (Fits k p.root l q (given k c s (region_at k q).around) (woken k (standing_of c q))) (sym (later_at q there))
          (later_fits q there (given k c s (region_at k q).around) refl (corr.each q there))))

      root_kept : (d : Doing) → is_ready s d ≡ false → IsAtRoot p.root d → IsAtRoot p.root (doing_woken d)
      root_kept Away h at = at
      root_kept (Todo todo) h at = absurd (cc)
      root_kept (Forked n branches more) h at = at
      root_kept (Resting n more) h at = absurd at
      root_kept (Resuming n more) h at = absurd at
      root_kept Finished h at = at

      pub later_corresponds : Corresponds k p l c_start s_start
      later_corresponds = record {
        variables = same_variables;
        regions = ap (λ b. length (regions_at_start k b c.regions)) later ∙ length-map c.regions (woken k) ∙ corr.regions;
        threads = long;
        chart = woken_at zero ∙ ap (woken k) corr.chart;
        root = subst (IsAtRoot p.root) (sym root_is) (root_kept (doing s zero) (rest.over_too zero) corr.root);
        each = later_each;
      }

    -- as a tick starts they correspond
    pub starts : Corresponds k p l c_start s_start
    starts = by (list_all is_outside c.regions) refl
      where
        by : (b : Bool) → list_all is_outside c.regions ≡ b → Corresponds k p l c_start s_start
        by true is = first_corresponds is
        by false is = later_corresponds is
