-- A region and its thread, one step of each: a test with a trigger, or an effect, is one step of both; a test without a
-- trigger is none of the thread's.
use Rattle.std.proofs.Common.{◌≡◌, ◌≢◌, ℕ, zero, suc, ◌<◌, inl, inr, ⊎_elim, Bool, true, false, ◌||◌, if◌then◌else◌, nat_eq, Option, Some, None, List, []}
use Rattle.std.proofs.Common.{◌∷◌, map, filter, option_map, option_and_then, slice_get, Contains, refl, sym, ap, subst, ◌∙◌, eqb-true, arith}
use Rattle.std.specs.List.{list_any}
use Rattle.std.proofs.lemmas.Option.{same_Some}
use Rattle.sc_values.specs.declared.value.Value.{Value}
use Rattle.sc_values.specs.declared.value.Value.TheVariants as value
use Rattle.sc_values.specs.declared.expression.Expr.{Expr}
use Rattle.sc_values.specs.Operator.{kind_of}
use Rattle.sc_values.specs.Expr.{value as value_of}
use Rattle.sc_graph.specs.Steps.{Keep, Put, changed, only_if, takes_kind}
use Rattle.core_charts.specs.declared.region.Effect.{Effect}
use Rattle.core_charts.specs.declared.region.Transition.{Transition}
use Rattle.core_charts.specs.Tests.{at_once, terminations}
use Rattle.chart_machine.specs.declared.standing.Standing.{Standing}
use Rattle.chart_machine.specs.declared.standing.Standing.TheVariants as stand
use Rattle.chart_machine.specs.declared.standing.Move.{Move}
use Rattle.chart_machine.specs.declared.standing.Configuration.{Configuration}
use Rattle.chart_machine.specs.declared.region_change.RegionChange.{RegionChange}
use Rattle.chart_machine.specs.declared.table.Table.{Table}
use Rattle.chart_machine.specs.Table.{state_at, region_at}
use Rattle.chart_machine.specs.Turns.{numbered_from}
use Rattle.chart_machine.specs.Steps.{to, written, truth, verdict, state_in, dropped, acts, taken, effected}
use Rattle.chart_machine.specs.Steps.{change_of as region_change}
use Rattle.scl.specs.Block.{Block, End, Assign, Pause, If, Fork}
use Rattle.scl.specs.Labels.{before, settled}
use Rattle.scl.specs.Numbering.{Numbered}
use Rattle.scl.specs.Meaning.{Doing, Todo, ThreadChange, goes_on, chosen, first_step}
use Rattle.scl_graph_laws.specs.Alike.{Both}
use Rattle.scl_graph_laws.specs.Settling.{Settled}
use Rattle.scl_graph_laws.specs.Standing.{IsStep}
use Rattle.chart_lowering_laws.specs.Layout.{Layout, Acts, Tests, Tries, Takes, TriesOut, InRegion, IsSimple, IsFinal, IsSuper, StandsThere, IsRegionOf}
use Rattle.chart_lowering_laws.specs.Layout.{IsNumberOf, Lowers}
use Rattle.chart_lowering_laws.specs.Corresponds.{Live, HeldBy, ComesTo, Ready, giving, first_standing, fresh}
use Rattle.tick_laws.proofs.Lists.{contains_head, contains_tail, contains_none, contains_cons}
use Rattle.chart_lowering_laws.proofs.NumberTests.{nat_differ, nat_same}
use Rattle.chart_lowering_laws.proofs.Entering.{later, only, put, put_append, opened_in, not_opened, puts_opened}
use Rattle.chart_lowering_laws.proofs.LeadAlike.{settled_step, is_there, tries_alike}

-- ---- what is dropped

pub any_contains : (s : ℕ) (around : List ℕ) → list_any (nat_eq s) around ≡ true → Contains around s
any_contains s [] h = absurd (cc)
any_contains s (x ∷ around) h = by (nat_eq s x) refl h (any_contains s around)
  where
    by : (b : Bool) → nat_eq s x ≡ b → (b || list_any (nat_eq s) around) ≡ true → (list_any (nat_eq s) around ≡ true → Contains around s) →
        Contains (x ∷ around) s
    by true is h tail = subst (Contains (x ∷ around)) (sym (eqb-true s x is)) (contains_head x around)
    by false is h tail = contains_tail x s around (tail h)

put_dropped : (f : ℕ → Bool) (xs : List ℕ) (q : ℕ) → f q ≡ false → put (map (λ r. to r stand.Outside) (filter f xs)) q ≡ None
put_dropped f [] q none = refl
put_dropped f (x ∷ xs) q none = by (f x) refl (put_dropped f xs q none)
  where
    by : (b : Bool) → f x ≡ b → put (map (λ r. to r stand.Outside) (filter f xs)) q ≡ None →
        put (map (λ r. to r stand.Outside) (if b then x ∷ filter f xs else filter f xs)) q ≡ None
    by true is rest = ap (λ o. later o (only (nat_eq x q) stand.Outside)) rest
        ∙ ap (λ b. only b stand.Outside) (nat_differ x q (λ same. let h : f q ≡ true = ap f (sym same) ∙ is in absurd (cc)))
    by false is rest = rest

pub nothing_dropped : (k : Table) (s q : ℕ) → ¬ Contains (region_at k q).around s → put (dropped k s) q ≡ None
nothing_dropped k s q none = put_dropped (λ r. list_any (nat_eq s) (region_at k r).around) (numbered_from 1 k.regions) q
    (by (list_any (nat_eq s) (region_at k q).around) refl)
  where
    by : (b : Bool) → list_any (nat_eq s) (region_at k q).around ≡ b → b ≡ false
    by true is = absurd (none (any_contains s (region_at k q).around is))
    by false is = refl

pub later_none : (o : Option Standing) → later o None ≡ o
later_none (Some x) = refl
later_none None = refl

-- of the regions inside, those are opened that lie in the superstate in which the region now stands
abbrev pub opened_by : Table → Layout → Standing → ℕ → Bool
opened_by k l (stand.Within u tests) q = opened_in k l u q
opened_by k l other q = false

abbrev pub is_within : Standing → Bool
is_within (stand.Within u tests) = true
is_within other = false

-- these moves bring a region to where its thread is then
pub record Comes (k : Table) (root : Block) (l : Layout) (r : ℕ) (moves : List Move) (d : Doing) : Type 0 where
  pub standing : Standing
  pub puts : put moves r ≡ Some standing
  pub live : Live k root l r standing d
  pub held : HeldBy k root l r standing
  pub ready : is_within standing ≡ true → giving d ≡ Ready
  pub inner : (q : ℕ) → IsNumberOf k q → q ≢ r → put moves q ≡ only (opened_by k l standing q) (fresh k l q)

-- from here the thread goes on with this, while the region makes these moves
pub record Onward (k : Table) (root : Block) (l : Layout) (r : ℕ) (moves : List Move) (todo : Block) : Type 0 where
  pub first : Block
  pub is : settled root todo ≡ Some first
  pub is_step : IsStep first
  pub comes : Comes k root l r moves (Todo first)

-- a step of a region and one of its thread that do the same
pub record SameChange (k : Table) (root : Block) (l : Layout) (variables : List Value) (r : ℕ) (d : RegionChange) (e : ThreadChange) : Type 0 where
  pub change : written d.write variables ≡ changed e.change variables
  pub doing : Doing
  pub moves : e.moves ≡ (r, doing) ∷ []
  pub comes : Comes k root l r d.moves doing

module _ (k : Table) (p : Numbered) (l : Layout) (low : Lowers k p l) where
  -- what stands around a region is held by regions of smaller numbers
  pub around_less : (n q : ℕ) → q < n → IsRegionOf k q → (s : ℕ) → Contains (region_at k q).around s → (state_at k s).holder < q
  around_less zero q lt at s h = absurd (omega (arith, lt))
  around_less (suc n) q lt at s h =
      ⊎_elim
      (λ top. absurd (contains_none s (subst (λ a. Contains a s) top.1 h)))
      (λ lies.
      let v : ℕ = lies.0 in
      let a : ℕ = (state_at k v).holder in
      let less : a < q = lies.1.less in
      ⊎_elim
      (λ same. subst (λ w. (state_at k w).holder < q) same less)
      (λ tail. let up : (state_at k s).holder < a = around_less n a (omega (arith, less, lt)) (low.tree.holders v lies.1.there) s tail in
      omega (arith, up, less))
      (contains_cons v s (region_at k a).around (subst (λ x. Contains x s) lies.1.around h)))
      (low.tree.each q at)

  -- no state of a region stands around it
  pub not_around : (r s : ℕ) → IsRegionOf k r → (state_at k s).holder ≡ r → ¬ Contains (region_at k r).around s
  not_around r s at holder h = let less : (state_at k s).holder < r = around_less (suc r) r (omega arith) at s h in absurd (omega (arith, less, holder))

  only_differs : (a b : ℕ) (x : Standing) → a ≢ b → only (nat_eq a b) x ≡ None
  only_differs a b x differ = ap (λ b. only b x) (nat_differ a b differ)

  only_same : (a b : ℕ) (x : Standing) → a ≡ b → only (nat_eq a b) x ≡ Some x
  only_same a b x same = ap (λ b. only b x) (nat_same a b same)

  -- one move, of the region itself
  comes_alone : (r : ℕ) (x : Standing) (d : Doing) → ((q : ℕ) → opened_by k l x q ≡ false) → is_within x ≡ false → Live k p.root l r x d →
      HeldBy k p.root l r x → Comes k p.root l r (to r x ∷ []) d
  comes_alone r x d closed without live held = record {
    standing = x;
    puts = only_same r r x refl;
    live = live;
    held = held;
    ready = λ h. absurd (cc);
    inner = λ q at differ. only_differs r q x (λ same. differ (sym same)) ∙ sym (ap (λ b. only b (fresh k l q)) (closed q));
  }

  -- entering a state
  pub enters : (r u : ℕ) (first : Block) → IsRegionOf k r → InRegion k r u → settled p.root (l.begin u) ≡ Some first → IsStep first →
      Comes k p.root l r (state_at k u).entered (Todo first)
  enters r u first at within is step = ⊎_elim simple (⊎_elim final super) (low.states u within.there)
    where
      alone : (x : Standing) → (state_at k u).entered ≡ to (state_at k u).holder x ∷ [] → Comes k p.root l r (to r x ∷ []) (Todo first) →
          Comes k p.root l r (state_at k u).entered (Todo first)
      alone x entered comes = subst (λ moves. Comes k p.root l r moves (Todo first)) (sym (entered ∙ ap (λ h. to h x ∷ []) within.holder)) comes

      simple : IsSimple k p.root l u → Comes k p.root l r (state_at k u).entered (Todo first)
      simple h =
          let x : Standing = stand.Trying u (at_once (state_at k u).transitions) in
          alone x h.entered
          (comes_alone r x (Todo first) (λ q. refl) refl (
            step,
            tries_alike k p.root l u (at_once (state_at k u).transitions) (l.begin u) first
                (is ∙ sym (settled_step p.root first step)) h.begins,
          ) (within, h))

      final : IsFinal k p.root l u → Comes k p.root l r (state_at k u).entered (Todo first)
      final h =
          alone stand.Ended h.entered
          (comes_alone r stand.Ended (Todo first) (λ q. refl) refl
          (subst (λ b. Live k p.root l r stand.Ended (Todo b)) (same_Some (End h.end) first (sym h.begins ∙ is)) tt) tt)

      super : IsSuper k p.root l u → Comes k p.root l r (state_at k u).entered (Todo first)
      super h =
          let tests : List Transition = terminations (state_at k u).transitions in
          let x : Standing = stand.Within u tests in
          let opened : (q : ℕ) → IsNumberOf k q → put (state_at k u).opened q ≡ only (opened_in k l u q) (fresh k l q) = λ q there.
          ap (λ moves. put moves q) h.opened ∙ puts_opened k l low.tree p.root low.states u within.there q there in
          let whole : (q : ℕ) → IsNumberOf k q → put (state_at k u).entered q ≡ later (only (opened_in k l u q) (fresh k l q)) (only (nat_eq r q) x) =
          λ q there.
          ap (λ moves. put moves q) h.entered
          ∙ ap (λ o. later o (only (nat_eq (state_at k u).holder q) x)) (opened q there)
          ∙ ap (λ w. later (only (opened_in k l u q) (fresh k l q)) (only (nat_eq w q) x)) within.holder in
          record {
            standing = x;
            puts =
                whole r (inr at)
                ∙ ap (λ b. later (only b (fresh k l r)) (only (nat_eq r r) x)) (closed (not_around r u at within.holder))
                ∙ only_same r r x refl;
            live = (refl, subst (ComesTo l u tests) (same_Some (Fork h.node h.branches h.rest) first (sym h.begins ∙ is)) h.fork);
            held = (within, h);
            ready = λ i. sym (ap (λ b. giving (Todo b)) (same_Some (Fork h.node h.branches h.rest) first (sym h.begins ∙ is)));
            inner = λ q there differ.
                whole q there
                ∙ ap (later (only (opened_in k l u q) (fresh k l q))) (only_differs r q x (λ same. differ (sym same)))
                ∙ later_none (only (opened_in k l u q) (fresh k l q));
          }
        where
          closed : ¬ Contains (region_at k r).around u → opened_in k l u r ≡ false
          closed none = not_opened k l u (region_at k r).around none

  -- what entering the initial state of a region makes of it
  pub fresh_enters : (r : ℕ) (first : Block) → IsRegionOf k r → settled p.root (l.begin (l.initial r)) ≡ Some first → IsStep first →
      (Live k p.root l r (fresh k l r) (Todo first) × HeldBy k p.root l r (fresh k l r)) × (is_within (fresh k l r) ≡ true → giving (Todo first) ≡ Ready)
  fresh_enters r first at is step =
      let within : InRegion k r (l.initial r) = low.tree.initials r at in
      let comes : Comes k p.root l r (state_at k (l.initial r)).entered (Todo first) = enters r (l.initial r) first at within is step in
      let same : fresh k l r ≡ comes.standing = first_of (low.states (l.initial r) within.there) within at comes.standing comes.puts in
      subst (λ y. (Live k p.root l r y (Todo first) × HeldBy k p.root l r y) × (is_within y ≡ true → giving (Todo first) ≡ Ready)) (sym same)
      ((comes.live, comes.held), comes.ready)
    where
      one_put : (x y : Standing) → (state_at k (l.initial r)).entered ≡ to (state_at k (l.initial r)).holder x ∷ [] → InRegion k r (l.initial r) →
          put (state_at k (l.initial r)).entered r ≡ Some y → fresh k l r ≡ y
      one_put x y entered within puts =
          ap first_standing entered
          ∙ same_Some x y (sym (ap (λ moves. put moves r) entered ∙ only_same (state_at k (l.initial r)).holder r x within.holder) ∙ puts)

      first_of : StandsThere k p.root l (l.initial r) → InRegion k r (l.initial r) → IsRegionOf k r → (y : Standing) →
          put (state_at k (l.initial r)).entered r ≡ Some y → fresh k l r ≡ y
      first_of (inl h) within at y puts = one_put (stand.Trying (l.initial r) (at_once (state_at k (l.initial r)).transitions)) y h.entered within puts
      first_of (inr (inl h)) within at y puts = one_put stand.Ended y h.entered within puts
      first_of (inr (inr h)) within at y puts =
          let u : ℕ = l.initial r in
          let x : Standing = stand.Within u (terminations (state_at k u).transitions) in
          ap first_standing h.entered
          ∙ same_Some x y
          (sym (ap (λ moves. put moves r) h.entered
          ∙ ap (λ o. later o (only (nat_eq (state_at k u).holder r) x))
          (ap (λ moves. put moves r) h.opened ∙ puts_opened k l low.tree p.root low.states u within.there r (inr at)
          ∙ ap (λ b. only b (fresh k l r)) (not_opened k l u (region_at k r).around (not_around r u at within.holder)))
          ∙ only_same (state_at k u).holder r x within.holder)
          ∙ puts)

  -- the effects of a transition, and its target
  pub acts_on : (r s place : ℕ) (effects : List Effect) (todo : Block) → IsRegionOf k r → InRegion k r s → InRegion k r (state_in k r place) →
      Acts p.root (l.begin (state_in k r place)) effects todo → Onward k p.root l r (acts k r s effects place) todo
  acts_on r s place [] todo at from within h =
      let leads : Settled p.root (state_at k (state_in k r place)).holder (l.begin (state_in k r place)) = low.leads (state_in k r place) within.there in
      record {
        first = leads.first;
        is = h ∙ leads.is;
        is_step = leads.is_step;
        comes = enters r (state_in k r place) leads.first at within leads.is leads.is_step;
      }
  acts_on r s place (e ∷ effects) todo at from within h = record {
    first = Assign h.0 e.variable e.value h.1;
    is = h.2;
    is_step = tt;
    comes = comes_alone r (stand.Acting s (e ∷ effects) place) (Todo (Assign h.0 e.variable e.value h.1)) (λ q. refl) refl
        (tt, within, (h.0, h.1, refl, h.3)) from;
  }

  -- a transition out of a simple state
  takes_on : (r s : ℕ) (t : Transition) (todo : Block) → IsRegionOf k r → InRegion k r s → IsSimple k p.root l s → Takes k p.root l r t todo →
      Onward k p.root l r (taken k r s t) todo
  takes_on r s t todo at from simple h =
      let to_target : Onward k p.root l r (acts k r s t.effects t.target) todo = acts_on r s t.target t.effects todo at from h.0 h.1 in
      let same : (q : ℕ) → put (taken k r s t) q ≡ put (acts k r s t.effects t.target) q = λ q.
      put_append (dropped k s) (acts k r s t.effects t.target) q
      ∙ ap (later (put (acts k r s t.effects t.target) q)) (nothing_dropped k s q (simple.none_inside q))
      ∙ later_none (put (acts k r s t.effects t.target) q) in
      record {
        first = to_target.first;
        is = to_target.is;
        is_step = to_target.is_step;
        comes = record {
          standing = to_target.comes.standing;
          puts = same r ∙ to_target.comes.puts;
          live = to_target.comes.live;
          held = to_target.comes.held;
          ready = to_target.comes.ready;
          inner = λ q there differ. same q ∙ to_target.comes.inner q there differ;
        };
      }

  -- tests lead to a statement
  pub tries_lead : (r s : ℕ) (tests : List Transition) (todo : Block) → IsRegionOf k r → InRegion k r s → IsSimple k p.root l s →
      TriesOut k p.root l s tests todo → (first : Block) × (settled p.root todo ≡ Some first) × IsStep first
  tries_lead r s [] todo at from simple h = (Pause h.0 h.1, h.3, tt)
  tries_lead r s (t ∷ tests) todo at from simple h = by t.trigger h
    where
      by : (trigger : Option Expr) → Tests p.root trigger (Takes k p.root l (state_at k s).holder t)
          (Tries p.root (Takes k p.root l (state_at k s).holder) (l.pause s) tests) todo → (first : Block) × (settled p.root todo ≡ Some first) × IsStep first
      by None h =
          let on : Onward k p.root l r (taken k r s t) todo = takes_on r s t todo at from simple (subst (λ a. Takes k p.root l a t todo) from.holder h) in
          (on.first, on.is, on.is_step)
      by (Some e) h = (If h.0 e h.1 h.2 h.3, h.4, tt)

  module _ (r s : ℕ) (at_r : IsRegionOf k r) (from : InRegion k r s) (simple : IsSimple k p.root l s) (c : Configuration) where
    abbrev Same : Option RegionChange → Option ThreadChange → Type 0
    Same d e = Both (SameChange k p.root l c.variables r) d e

    -- the thread goes on where the region makes these moves
    goes_alike : (moves : List Move) (todo : Block) → Onward k p.root l r moves todo → Same (Some (record { write = None; moves = moves }))
        (goes_on p.root r Keep todo)
    goes_alike moves todo on =
        subst (λ o. Same (Some (record { write = None; moves = moves })) (option_map (λ k. record { change = Keep; moves = (r, Todo k) ∷ [] }) o)) (sym on.is)
        (record { change = refl; doing = Todo on.first; moves = refl; comes = on.comes })

    -- a test with a trigger
    pub test_alike : (t : Transition) (tests : List Transition) (e : Expr) (todo : Block) → t.trigger ≡ Some e → Live k p.root l r (stand.Trying s (t ∷ tests))
        (Todo todo) →
        Same (region_change k c r (stand.Trying s (t ∷ tests))) (first_step p c.variables r todo)
    test_alike t tests e todo is live =
        let h : Tests p.root (Some e) (Takes k p.root l (state_at k s).holder t) (Tries p.root (Takes k p.root l (state_at k s).holder) (l.pause s) tests) todo
        =
        subst (λ o. Tests p.root o (Takes k p.root l (state_at k s).holder t) (Tries p.root (Takes k p.root l (state_at k s).holder) (l.pause s) tests) todo) is
        live.1 in
        subst (λ b. Same (region_change k c r (stand.Trying s (t ∷ tests))) (first_step p c.variables r b))
        (sym (is_there p.root todo (If h.0 e h.1 h.2 h.3) live.0 h.4))
        (subst (λ o. Same (option_map (λ holds. record { write = None; moves = if holds then taken k r s t else to r (stand.Trying s tests) ∷ [] })
        (verdict c.variables o)) (first_step p c.variables r (If h.0 e h.1 h.2 h.3))) (sym is)
        (by_value (value_of e c.variables) (before h.1 h.3) (before h.2 h.3) (subst (λ a. Takes k p.root l a t (before h.1 h.3)) from.holder h.5) h.6))
      where
        otherwise : (other : Block) → TriesOut k p.root l s tests other → Onward k p.root l r (to r (stand.Trying s tests) ∷ []) other
        otherwise other h =
            let first : (first : Block) × (settled p.root other ≡ Some first) × IsStep first = tries_lead r s tests other at_r from simple h in
            record {
              first = first.0;
              is = first.1;
              is_step = first.2;
              comes =
                  comes_alone r (stand.Trying s tests) (Todo first.0) (λ q. refl) refl
                  (first.2, tries_alike k p.root l s tests other first.0 (first.1 ∙ sym (settled_step p.root first.0 first.2)) h) (from, simple);
            }

        by_value : (v : Option Value) (one other : Block) → Takes k p.root l r t one → TriesOut k p.root l s tests other →
            Same (option_map (λ holds. record { write = None; moves = if holds then taken k r s t else to r (stand.Trying s tests) ∷ [] })
            (option_and_then truth v)) (option_and_then (chosen p r one other) v)
        by_value None one other takes tries = tt
        by_value (Some (value.Bool true)) one other takes tries = goes_alike (taken k r s t) one (takes_on r s t one at_r from simple takes)
        by_value (Some (value.Bool false)) one other takes tries = goes_alike (to r (stand.Trying s tests) ∷ []) other (otherwise other tries)
        by_value (Some (value.Int n)) one other takes tries = tt

    -- a test without a trigger: the thread is where it leads
    pub silent_test : (t : Transition) (tests : List Transition) (todo : Block) → t.trigger ≡ None → Live k p.root l r (stand.Trying s (t ∷ tests))
        (Todo todo) →
        (region_change k c r (stand.Trying s (t ∷ tests)) ≡ Some (record { write = None; moves = taken k r s t })) × Comes k p.root l r (taken k r s t)
        (Todo todo)
    silent_test t tests todo is live =
        let h : Takes k p.root l (state_at k s).holder t todo =
        subst (λ o. Tests p.root o (Takes k p.root l (state_at k s).holder t) (Tries p.root (Takes k p.root l (state_at k s).holder) (l.pause s) tests) todo) is
        live.1 in
        let on : Onward k p.root l r (taken k r s t) todo = takes_on r s t todo at_r from simple (subst (λ a. Takes k p.root l a t todo) from.holder h) in (
          ap (λ o. option_map (λ holds. record { write = None; moves = if holds then taken k r s t else to r (stand.Trying s tests) ∷ [] })
              (verdict c.variables o)) is,
          subst (λ b. Comes k p.root l r (taken k r s t) (Todo b)) (sym (is_there p.root todo on.first live.0 on.is)) on.comes,
        )

  -- an effect
  pub effect_alike : (r s place : ℕ) (e : Effect) (effects : List Effect) (todo : Block) (c : Configuration) → IsRegionOf k r → InRegion k r s →
      Live k p.root l r (stand.Acting s (e ∷ effects) place) (Todo todo) →
      Both (SameChange k p.root l c.variables r) (region_change k c r (stand.Acting s (e ∷ effects) place)) (first_step p c.variables r todo)
  effect_alike r s place e effects todo c at_r from live =
      let h : Acts p.root (l.begin (state_in k r place)) (e ∷ effects) todo = live.2 in
      let on : Onward k p.root l r (acts k r s effects place) h.1 = acts_on r s place effects h.1 at_r from live.1 h.3 in
      subst (λ b. Both (SameChange k p.root l c.variables r) (region_change k c r (stand.Acting s (e ∷ effects) place)) (first_step p c.variables r b))
      (sym (is_there p.root todo (Assign h.0 e.variable e.value h.1) live.0 h.2))
      (subst (λ xs. Both (SameChange k p.root l c.variables r) (region_change k c r (stand.Acting s (e ∷ effects) place))
      (option_and_then (λ v. only_if (takes_kind (option_map (λ a. a.kind) (slice_get xs e.variable)) (kind_of v))
      (goes_on p.root r (Put e.variable v) h.1)) (value_of e.value c.variables))) (sym low.variables)
      (by_value h.1 on (value_of e.value c.variables)))
    where
      by_kind : (rest : Block) → Onward k p.root l r (acts k r s effects place) rest → (v : Value) (b : Bool) →
          Both (SameChange k p.root l c.variables r)
          (only_if b (Some (record { write = Some (record { variable = e.variable; value = v }); moves = acts k r s effects place })))
          (only_if b (goes_on p.root r (Put e.variable v) rest))
      by_kind rest on v false = tt
      by_kind rest on v true =
          subst (λ o. Both (SameChange k p.root l c.variables r)
          (Some (record { write = Some (record { variable = e.variable; value = v }); moves = acts k r s effects place }))
          (option_map (λ k. record { change = Put e.variable v; moves = (r, Todo k) ∷ [] }) o)) (sym on.is)
          (record { change = refl; doing = Todo on.first; moves = refl; comes = on.comes })

      by_value : (rest : Block) → Onward k p.root l r (acts k r s effects place) rest → (v : Option Value) →
          Both (SameChange k p.root l c.variables r) (option_and_then (effected k r s e effects place) v)
          (option_and_then (λ v. only_if (takes_kind (option_map (λ a. a.kind) (slice_get k.variables e.variable)) (kind_of v))
          (goes_on p.root r (Put e.variable v) rest)) v)
      by_value rest on None = tt
      by_value rest on (Some v) = by_kind rest on v (takes_kind (option_map (λ a. a.kind) (slice_get k.variables e.variable)) (kind_of v))
