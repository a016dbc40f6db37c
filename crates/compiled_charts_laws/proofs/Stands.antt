-- A core chart and the graph of its lowering stand alike through each step of the chart, and what follows of how they stand.
use Rattle.std.proofs.Common.{◌≡◌, ◌≢◌, ℕ, zero, suc, ◌<◌, ◌⊎◌, inl, inr, ⊎_elim, Option, Some, None, List, [], ◌∷◌, length, slice_get, unwrap_or}
use Rattle.std.proofs.Common.{Contains, refl, sym, ap, subst, ◌∙◌, arith, Bool, true, false, nat_eq, eqb-true, if◌then◌else◌}
use Rattle.std.proofs.lemmas.Option.{slice_get_within}
use Rattle.sc_values.specs.declared.expression.Expr.{Expr}
use Rattle.sc_values.specs.Access.{Access, Nothing}
use Rattle.sc_values.specs.Assignment.{assignment_of, access_of_assignment}
use Rattle.sc_graph.specs.declared.control.Control.{Control}
use Rattle.sc_graph.specs.declared.control.Status.TheVariants as status
use Rattle.sc_graph.specs.declared.program.Step.{Step}
use Rattle.sc_graph.specs.Program.{Program, parent_of}
use Rattle.sc_graph.specs.Control.{status_of}
use Rattle.sc_graph.specs.Valid.{IsFormed}
use Rattle.tick_laws.proofs.Lists.{slice_get_there}
use Rattle.core_charts.specs.declared.region.Effect.{Effect}
use Rattle.core_charts.specs.declared.region.Transition.{Transition}
use Rattle.core_charts.specs.Chart.{Chart}
use Rattle.chart_machine.specs.declared.standing.Standing.{Standing}
use Rattle.chart_machine.specs.declared.standing.Standing.TheVariants as stand
use Rattle.chart_machine.specs.declared.standing.Configuration.{Configuration}
use Rattle.chart_machine.specs.declared.table.RegionRow.{RegionRow}
use Rattle.chart_machine.specs.declared.table.StateRow.{StateRow}
use Rattle.chart_machine.specs.declared.table.Table.{Table}
use Rattle.chart_machine.specs.Table.{table, state_at, region_at}
use Rattle.chart_machine.specs.Turns.{standing_of}
use Rattle.chart_machine.specs.Steps.{access_of, access_of_trigger, state_in}
use Rattle.scl.specs.declared.program.Scl.{Scl}
use Rattle.scl.specs.Block.{Block, End, Assign, Label, Goto, Pause, If, Fork, Branches}
use Rattle.scl.specs.Numbering.{Numbered, numbered}
use Rattle.scl.specs.Meaning.{State, Doing, Away, Todo, Forked, Resting, Resuming, Finished, doing}
use Rattle.scl_graph.specs.Graph.{program_of, assigns}
use Rattle.scl_graph_laws.specs.Standing.{standing, IsOfText}
use Rattle.scl_graph_laws.specs.Mirrors.{Mirrors, HasNode, leads}
use Rattle.scl_graph_laws.specs.Keeps.{Corresponds as StandsInGraph}
use Rattle.scl_graph_laws.proofs.Texts.{program_mirrors}
use Rattle.chart_lowering_laws.specs.Layout.{Layout, IsSimple, IsFinal, IsSuper, LiesIn, IsRegionOf, Acts, Lowers}
use Rattle.chart_lowering_laws.specs.Corresponds.{Live, Giving, Nothing as NotGiven, Ready, Turn, Past, given, giving, giving_in}
use Rattle.chart_lowering_laws.specs.Corresponds.{fresh, first_standing, Fits}
use Rattle.chart_lowering_laws.specs.Keeps.{KeepsSteps}
use Rattle.chart_lowering_laws.specs.Laws.{IsLowering}
use Rattle.chart_lowering_laws.specs.Marks.{layout}
use Rattle.chart_lowering_laws.specs.Stands.{AtNode, Lowered}
use Rattle.chart_lowering_laws.proofs.LeadAlike.{is_there}
use Rattle.chart_lowering_laws.proofs.Showing.{region_of}
use Rattle.chart_lowering_laws.proofs.Lowered.{chart_is_lowered}
use Rattle.chart_lowering_laws.proofs.TicksKept.{keeps_runs}
use Rattle.compiled_charts_laws.specs.Stands.{StandAlike}
use Rattle.compiled_charts_laws.proofs.LateTests.{is_late, late_has_turn}
use Rattle.compiled_charts_laws.proofs.StepsFollowed.{status_is, follow}
use Rattle.compiled_charts_laws.proofs.Mirrored.{owned, node_access, apart_too, access_of_assigns}
use Rattle.compiled_charts_laws.proofs.AtJoins.{join_at}
use Rattle.compiled_charts_laws.proofs.AtJoins as at_joins

pub heads : (x y : ℕ) (xs ys : List ℕ) → x ∷ xs ≡ y ∷ ys → x ≡ y
heads x y xs ys h = cc

no_item : (x : ℕ) (xs : List ℕ) → [] ≡ x ∷ xs → ⊥
no_item x xs h = cc

pub trigger_writes : (o : Option Expr) → (access_of_trigger o).writes ≡ Nothing
trigger_writes None = refl
trigger_writes (Some e) = refl

-- the row of a number without a region
abbrev no_row : RegionRow
no_row = record { around = []; states = [] }

module _ (c : Chart) (p : Scl) (low : IsLowering c p) (formed : IsFormed (program_of (numbered p))) where
  abbrev K : Table
  K = table c

  abbrev P : Numbered
  P = numbered p

  abbrev G : Program
  G = program_of P

  abbrev L : Layout
  L = layout c P.root

  abbrev Alike : Configuration → Control → Type 0
  Alike = StandAlike K P L G

  lowers : Lowers K P L
  lowers = chart_is_lowered c p low

  abbrev join_in : Option StateRow → ℕ → ℕ
  join_in = at_joins.join_in c p low

  abbrev join_of : ℕ → ℕ
  join_of = at_joins.join_of c p low

  abbrev InState : ℕ → Standing → Type 0
  InState = at_joins.InState c p low

  abbrev waits_back : (d : Configuration) (m : Control) (t s : ℕ) → Alike d m → status_of m t ≡ status.Waiting (join_of s) → InState s (standing_of d t)
  waits_back = at_joins.waits_back c p low

  steps : KeepsSteps K P L
  steps = (keeps_runs K P L lowers).steps

  mirrors : Mirrors P G
  mirrors = program_mirrors p

  -- ---- who is about to write stands at the node
  abbrev Acting : ℕ → Effect → List Effect → ℕ → Standing
  Acting u e effects place = stand.Acting u (e ∷ effects) place

  -- who was just entered does not act
  fresh_acts : (r u place : ℕ) (e : Effect) (effects : List Effect) → IsRegionOf K r → Acting u e effects place ≡ fresh K L r → ⊥
  fresh_acts r u place e effects there is =
      ⊎_elim (λ (s : IsSimple K P.root L (L.initial r)). let h = is ∙ ap first_standing s.entered in absurd (cc))
      (⊎_elim (λ (s : IsFinal K P.root L (L.initial r)). let h = is ∙ ap first_standing s.entered in absurd (cc))
      (λ (s : IsSuper K P.root L (L.initial r)). let h = is ∙ ap first_standing s.entered in absurd (cc)))
      (lowers.states (L.initial r) (lowers.tree.initials r there).there)

  module _ (m : Control) (s : State) (x : StandsInGraph P s m) (t u place : ℕ) (e : Effect) (effects : List Effect) where
    abbrev does_it : Access
    does_it = access_of (Acting u e effects place)

    assign_node : (n : ℕ) (rest : Block) → doing s t ≡ Todo (Assign n e.variable e.value rest) →
        AtNode G m t (access_of_assignment e.variable (assignment_of e.variable e.value))
    assign_node n rest is =
        let step : Step = assigns e.variable (assignment_of e.variable e.value) (leads P.root rest) in
        let place_of : IsOfText P.root t (Todo (Assign n e.variable e.value rest)) = subst (IsOfText P.root t) is (x.places t) in
        let has : HasNode G n t step = mirrors.nodes t (Assign n e.variable e.value rest) place_of.0 in
        record {
          node = n;
          owned = owned P G mirrors n t step has;
          does = node_access P G mirrors n t step has ∙ access_of_assigns e.variable (assignment_of e.variable e.value) (leads P.root rest);
          at = inl (status_is P s m x t ∙ ap standing is);
        }

    live_acts : (d : Doing) → doing s t ≡ d → Live K P.root L t (Acting u e effects place) d → AtNode G m t does_it
    live_acts (Todo todo) is live =
        let h : Acts P.root (L.begin (state_in K t place)) (e ∷ effects) todo = live.2 in
        assign_node h.0 h.1 (is ∙ ap Todo (is_there P.root todo (Assign h.0 e.variable e.value h.1) live.0 h.2))
    live_acts Away is live = absurd live
    live_acts (Forked n branches rest) is live = absurd live
    live_acts (Resting n rest) is live = absurd live
    live_acts (Resuming n rest) is live = absurd live
    live_acts Finished is live = absurd live

    given_acts : (g : Giving) → IsRegionOf K t → Fits K P.root L t g (Acting u e effects place) (doing s t) → AtNode G m t does_it
    given_acts NotGiven there fits = let h : Acting u e effects place ≡ stand.Outside = fits.0 in absurd (cc)
    given_acts Ready there fits = absurd (fresh_acts t u place e effects there fits.0)
    given_acts Past there fits = let h : Acting u e effects place ≡ stand.Ended = fits.0 in absurd (cc)
    given_acts Turn there fits = live_acts (doing s t) refl fits.0

  node : (d : Configuration) (m : Control) (t : ℕ) → Alike d m → (access_of (standing_of d t)).writes ≢ Nothing → AtNode G m t (access_of (standing_of d t))
  node d m t x = by (standing_of d t) refl
    where
      by : (z : Standing) → standing_of d t ≡ z → (access_of z).writes ≢ Nothing → AtNode G m t (access_of z)
      by (stand.Acting u (e ∷ effects) place) is writes =
          let there : IsRegionOf K t = region_of K P L d x.state x.of_chart t
          (λ out. let h : Acting u e effects place ≡ stand.Outside = sym is ∙ out in absurd (cc)) in
          given_acts m x.state x.of_graph t u place e effects (given K d x.state (region_at K t).around) there
          (subst (λ z. Fits K P.root L t (given K d x.state (region_at K t).around) z (doing x.state t)) is (x.of_chart.each t there))
      by (stand.Acting u [] place) is writes = absurd (writes refl)
      by stand.Outside is writes = absurd (writes refl)
      by stand.Ended is writes = absurd (writes refl)
      by (stand.Trying u []) is writes = absurd (writes refl)
      by (stand.Trying u (y ∷ tests)) is writes = absurd (writes (trigger_writes y.trigger))
      by (stand.Entering u []) is writes = absurd (writes refl)
      by (stand.Entering u (y ∷ tests)) is writes = absurd (writes (trigger_writes y.trigger))
      by (stand.Guarding u []) is writes = absurd (writes refl)
      by (stand.Guarding u (y ∷ tests)) is writes = absurd (writes (trigger_writes y.trigger))
      by (stand.Within u []) is writes = absurd (writes refl)
      by (stand.Within u (y ∷ tests)) is writes = absurd (writes (trigger_writes y.trigger))

  -- ---- the tree of threads
  parent : (t s : ℕ) (ss : List ℕ) → (region_at K t).around ≡ s ∷ ss → parent_of G t ≡ Some (state_at K s).holder
  parent t s ss is = by_tree (lowers.tree.each t (there t is))
    where
      there : (r : ℕ) → (region_at K r).around ≡ s ∷ ss → IsRegionOf K r
      there zero h = absurd (no_item s ss h)
      there (suc r) h = by (slice_get K.regions r) refl
        where
          by : (o : Option RegionRow) → slice_get K.regions r ≡ o → IsRegionOf K (suc r)
          by None none = absurd (no_item s ss (sym (ap (λ (o : Option RegionRow). (unwrap_or {T = RegionRow} o no_row).around) none) ∙ h))
          by (Some y) some = let less : r < length K.regions = slice_get_within K.regions r y some in (omega arith, omega (arith, less))

      child : (u : ℕ) → LiesIn K t u → IsSuper K P.root L u → parent_of G t ≡ Some (state_at K u).holder
      child u lies super =
          mirrors.parents t (state_at K u).holder
          (record {
            node = super.node;
            branches = super.branches;
            is_fork = record { rest = super.rest; place = super.place };
            branch = subst (λ ts. Contains ts t) (sym super.opens.threads) lies.held;
          })

      inside : (u : ℕ) → LiesIn K t u → Contains (region_at K t).around u
      inside u lies = subst (λ ts. Contains ts u) (sym lies.around) (0, omega arith, refl)

      by_state : (u : ℕ) → LiesIn K t u → parent_of G t ≡ Some (state_at K u).holder
      by_state u lies =
          ⊎_elim (λ (simple : IsSimple K P.root L u). absurd (simple.none_inside t (inside u lies)))
          (⊎_elim (λ (final : IsFinal K P.root L u). absurd (final.none_inside t (inside u lies))) (child u lies)) (lowers.states u lies.there)

      by_tree : (Contains L.top t × ((region_at K t).around ≡ [])) ⊎ ((u : ℕ) × LiesIn K t u) → parent_of G t ≡ Some (state_at K s).holder
      by_tree (inl top) = absurd (no_item s ss (sym top.1 ∙ is))
      by_tree (inr (u, lies)) =
          let same : u ≡ s = heads u s (region_at K (state_at K u).holder).around ss (sym lies.around ∙ is) in
          by_state u lies ∙ ap (λ z. Some (state_at K z).holder) same

  pub stand_alike : Lowered K G (StandAlike K P L G)
  stand_alike = record {
    configuration = λ d m x. x.is_configuration;
    follow = follow c p low formed;
    join_of = join_of;
    waits_back = waits_back;
    node = λ d m t x enabled writes. node d m t x writes;
    apart = λ t u a h. apart_too P G mirrors t u a (steps.back.apart t u a h);
    parent = parent;
  }

  -- ---- while a region has its turn, the holder of the superstate around it waits at the join
  holder_waits : (d : Configuration) (m : Control) (x : StandAlike K P L G d m) (s : ℕ) → s < length K.states →
      giving_in s (standing_of d (state_at K s).holder) (doing x.state (state_at K s).holder) ≡ Turn →
      status_of m (state_at K s).holder ≡ status.Waiting (stand_alike.join_of s)
  unfolding stand_alike
  holder_waits d m x s there = by_standing (standing_of d (state_at K s).holder) refl
    where
      h : ℕ
      h = (state_at K s).holder

      waits_in : (tests : List Transition) → standing_of d h ≡ stand.Within s tests → (n : ℕ) (branches : Branches) (rest : Block) →
          doing x.state h ≡ Forked n branches rest → status_of m h ≡ status.Waiting (stand_alike.join_of s)
      waits_in tests stands n branches rest is =
          status_is P x.state m x.of_graph h ∙ (ap standing is ∙ ap status.Waiting (sym (joins (by_giving (given K d x.state (region_at K h).around)
          (subst (λ z. Fits K P.root L h (given K d x.state (region_at K h).around) (standing_of d h) z) is
          (x.of_chart.each h (lowers.tree.holders s there)))))))
        where
          by_giving : (g : Giving) → Fits K P.root L h g (standing_of d h) (Forked n branches rest) → L.fork s ≡ Fork n branches rest
          by_giving NotGiven fits = let wrong : Forked n branches rest ≡ Away = fits.1 in absurd (cc)
          by_giving Ready fits = let wrong : Forked n branches rest ≡ Away = fits.1 in absurd (cc)
          by_giving Past fits = let wrong : Forked n branches rest ≡ Away = fits.1 in absurd (cc)
          by_giving Turn fits = (subst (λ z. Live K P.root L h z (Forked n branches rest)) stands fits.0).1

          joins : L.fork s ≡ Fork n branches rest → stand_alike.join_of s ≡ suc n
          joins is_fork = by (slice_get K.states s) refl
            where
              by : (o : Option StateRow) → slice_get K.states s ≡ o → join_in o s ≡ suc n
              by None none = absurd (let past = slice_get_there K.states s there in let wrong : Some past.0 ≡ None = sym past.1 ∙ none in cc)
              by (Some r) some = ap join_at is_fork

      by_standing : (z : Standing) → standing_of d h ≡ z → giving_in s z (doing x.state h) ≡ Turn → status_of m h ≡ status.Waiting (stand_alike.join_of s)
      by_standing (stand.Within u tests) stands turn = by_number (nat_eq u s) refl turn
        where
          by_doing : u ≡ s → (y : Doing) → doing x.state h ≡ y → giving y ≡ Turn → status_of m h ≡ status.Waiting (stand_alike.join_of s)
          by_doing same (Forked n branches rest) is gives =
              waits_in tests (stands ∙ ap (λ v. stand.Within v tests) same) n branches rest is
          by_doing same Away is gives = absurd (cc)
          by_doing same (Todo (Fork n branches rest)) is gives = absurd (cc)
          by_doing same (Todo (End n)) is gives = absurd (cc)
          by_doing same (Todo (Assign n v e rest)) is gives = absurd (cc)
          by_doing same (Todo (Label name rest)) is gives = absurd (cc)
          by_doing same (Todo (Goto n name rest)) is gives = absurd (cc)
          by_doing same (Todo (Pause n rest)) is gives = absurd (cc)
          by_doing same (Todo (If n e a b rest)) is gives = absurd (cc)
          by_doing same (Resting n rest) is gives = absurd (cc)
          by_doing same (Resuming n rest) is gives = absurd (cc)
          by_doing same Finished is gives = absurd (cc)

          by_number : (b : Bool) → nat_eq u s ≡ b → (if b then giving (doing x.state h) else NotGiven) ≡ Turn →
              status_of m h ≡ status.Waiting (stand_alike.join_of s)
          by_number true same gives = by_doing (eqb-true u s same) (doing x.state h) refl gives
          by_number false other gives = absurd (cc)
      by_standing stand.Outside stands turn = absurd (cc)
      by_standing stand.Ended stands turn = absurd (cc)
      by_standing (stand.Trying u tests) stands turn = absurd (cc)
      by_standing (stand.Entering u tests) stands turn = absurd (cc)
      by_standing (stand.Guarding u tests) stands turn = absurd (cc)
      by_standing (stand.Acting u effects place) stands turn = absurd (cc)

  -- so it does where a delayed test is still to be made
  pub waits_there : (d : Configuration) (m : Control) (g s : ℕ) (ss : List ℕ) → Alike d m → (region_at K g).around ≡ s ∷ ss →
      is_late (standing_of d g) ≡ true → status_of m (state_at K s).holder ≡ status.Waiting (stand_alike.join_of s)
  waits_there d m g s ss x round late =
      holder_waits d m x s lies (ap (given K d x.state) (sym round) ∙ late_has_turn K P L lowers d x.state x.of_chart g late)
    where
      lies : s < length K.states
      lies =
          ⊎_elim (λ top. absurd (no_item s ss (sym top.1 ∙ round)))
          (λ (u : (v : ℕ) × LiesIn K g v).
          subst (λ v. v < length K.states) (heads u.0 s (region_at K (state_at K u.0).holder).around ss (sym u.1.around ∙ round)) u.1.there)
          (lowers.tree.each g (region_of K P L d x.state x.of_chart g (λ out. let wrong : true ≡ false = sym late ∙ ap is_late out in absurd (cc))))
