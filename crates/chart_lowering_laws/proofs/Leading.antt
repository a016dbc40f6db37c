-- Each state leads to a statement of its region's thread, and a goto alone leads to a state of smaller rank.
use Rattle.std.proofs.Common.{◌≡◌, ℕ, zero, suc, ◌<◌, Bool, true, false, if◌then◌else◌, IsTrue, Option, Some, None, List, [], ◌∷◌, ◌++◌, map, length}
use Rattle.std.proofs.Common.{slice_get, get_or, unwrap_or, option_map, option_and_then, refl, sym, ap, subst, ◌∙◌, arith}
use Rattle.std.specs.List.{filter}
use Rattle.std.proofs.lemmas.Option.{none-some, slice_get-get_or}
use Rattle.sc_text.proofs.EachItem.{Each, each_of, each_filter}
use Rattle.core_charts.specs.declared.features.Features.TheVariants as features
use Rattle.core_charts.specs.declared.region.Effect.{Effect}
use Rattle.core_charts.specs.declared.region.Region.{Region}
use Rattle.core_charts.specs.declared.region.Region.TheViews.{out-State}
use Rattle.core_charts.specs.declared.region.Transition.{Transition}
use Rattle.core_charts.specs.declared.region.TransitionKind.{TransitionKind}
use Rattle.core_charts.specs.declared.region.TransitionKind.TheVariants as kind
use Rattle.core_charts.specs.Rules.{IsTransition, allows, fits_state, has_regions}
use Rattle.core_charts.specs.Tests.{at_once}
use Rattle.sc_graph.specs.declared.program.Variable.{Variable}
use Rattle.chart_machine.specs.declared.table.StateRow.{StateRow}
use Rattle.chart_machine.specs.declared.table.Table.{Table}
use Rattle.chart_machine.specs.Steps.{state_in}
use Rattle.chart_machine.specs.Table.{state_at, region_at}
use Rattle.scl.specs.declared.statement.Statement.{Statement}
use Rattle.scl.specs.declared.statement.Statement.TheVariants as statement
use Rattle.scl.specs.Block.{Block, Goto}
use Rattle.scl.specs.Labels.{Front, Jumps, Begins, front, behind_label, label_count, reached_by, settled}
use Rattle.scl.specs.Places.{Place}
use Rattle.scl.specs.Numbering.{Piece}
use Rattle.scl_graph_laws.specs.Settling.{Settled, Settling, EachSettles}
use Rattle.scl_graph_laws.proofs.Scopes.{KeepsScopes}
use Rattle.chart_lowering.specs.Lowering.{label, label_at, text_of, depth, transitions, tested, taken, assignment}
use Rattle.chart_lowering.specs.Lowering.{state_piece as low_state, piece_of_region as low_of_region}
use Rattle.chart_lowering_laws.specs.Marks.{Mark, hops}
use Rattle.chart_lowering_laws.proofs.Texts.{made, goto_piece}
use Rattle.chart_lowering_laws.proofs.Walking.{StateAt, low_open_state}
use Rattle.chart_lowering_laws.proofs.Labels.{first_label}
use Rattle.chart_lowering_laws.proofs.ReadingOff.{begin_of, BeginsWith, begins_with, Leads, into_of, leads_found}

no_items : {X : Type 0} (x : X) (xs : List X) → [] ≡ x ∷ xs → ⊥
no_items x xs h = let same : 0 ≡ suc (length xs) = ap length h in absurd (omega (arith, same))

-- effects and a goto
abbrev goto_behind : List Effect → List ℕ → List Statement
goto_behind effects name = map assignment effects ++ statement.Goto name ∷ []

-- ---- how many gotos are passed

hops_more : (root : Block) (m : ℕ) (f : Front) (first : Block) → reached_by root m f ≡ Some first → hops root (suc m) f ≡ hops root m f
hops_more root m (Begins todo) first h = refl
hops_more root zero (Jumps g name) first h = absurd (none-some first h)
hops_more root (suc m) (Jumps g name) first h = by (behind_label root name) h (hops_more root m)
  where
    by : (o : Option Block) → option_and_then (λ k. reached_by root m (front k)) o ≡ Some first →
        ((f : Front) (first : Block) → reached_by root m f ≡ Some first → hops root (suc m) f ≡ hops root m f) →
        suc (unwrap_or (option_map (λ k. hops root (suc m) (front k)) o) 0) ≡ suc (unwrap_or (option_map (λ k. hops root m (front k)) o) 0)
    by None h more = absurd (none-some first h)
    by (Some k) h more = ap suc (more (front k) first h)

hops_fall : (root : Block) (m g : ℕ) (name : List ℕ) (into first : Block) → behind_label root name ≡ Some into → reached_by root m (Jumps g name) ≡ Some first →
    hops root m (front into) < hops root m (Jumps g name)
hops_fall root zero g name into first found h = absurd (none-some first h)
hops_fall root (suc m) g name into first found h =
    let further : reached_by root m (front into) ≡ Some first = sym (ap (option_and_then (λ k. reached_by root m (front k))) found) ∙ h in
    let more : hops root (suc m) (front into) ≡ hops root m (front into) = hops_more root m (front into) first further in
    let here : hops root (suc m) (Jumps g name) ≡ suc (hops root m (front into)) =
    ap (λ o. suc (unwrap_or (option_map (λ k. hops root m (front k)) o) 0)) found in
    omega (arith, more, here)

-- ---- transitions of superstates

pub none_filtered : {X : Type 0} (p : X → Bool) (xs : List X) → Each (λ x. p x ≡ false) xs → filter p xs ≡ []
none_filtered p [] h = refl
none_filtered p (x ∷ xs) h = ap (λ b. if b then x ∷ filter p xs else filter p xs) h.0 ∙ none_filtered p xs h.1

-- those of a superstate of a core chart are terminations
pub is_a_join : (variables : List Variable) (n : ℕ) (t : Transition) → IsTransition features.Core variables n true t → t.kind ≡ kind.Join
is_a_join variables n t r = by t.kind refl r.allowed r.fits
  where
    by : (y : TransitionKind) → t.kind ≡ y → IsTrue (allows features.Core y) → IsTrue (fits_state true y) → t.kind ≡ kind.Join
    by kind.Go is allowed fits = let h : false ≡ true = fits in absurd (cc)
    by kind.Strong is allowed fits = let h : false ≡ true = allowed in absurd (cc)
    by kind.Weak is allowed fits = let h : false ≡ true = allowed in absurd (cc)
    by kind.Join is allowed fits = is

module _ (k : Table) (ms : List Mark) (root : Block) (keeps : KeepsScopes root) (top : List ℕ) (found : (s : ℕ) → s < length k.states →
    StateAt k ms root keeps top s) where
  abbrev At : ℕ → Type 0
  At s = StateAt k ms root keeps top s

  pub holder_is : (s : ℕ) (x : At s) → (state_at k s).holder ≡ x.at.holder
  holder_is s x = subst (λ z. (state_at k z).holder ≡ x.at.holder) x.is
      (ap (λ o. (unwrap_or {T = StateRow} o (state_at (record k { states = [] }) 0)).holder) x.row)

  pub transitions_are : (s : ℕ) (x : At s) → (state_at k s).transitions ≡ (out-State x.state).transitions
  transitions_are s x = subst (λ z. (state_at k z).transitions ≡ (out-State x.state).transitions) x.is
      (ap (λ o. (unwrap_or {T = StateRow} o (state_at (record k { states = [] }) 0)).transitions) x.row)

  -- each transition has a target in its region
  pub leads_of : (s : ℕ) (x : At s) (i : ℕ) (t : Transition) → slice_get (out-State x.state).transitions i ≡ Some t → Leads k ms root keeps top s x t
  leads_of s x i t is =
      let states : List ℕ = (region_at k x.at.holder).states in
      let u : ℕ = get_or states t.target 0 in
      let at : slice_get states t.target ≡ Some u = slice_get-get_or states t.target 0 (x.transitions i t is).target in
      record { target = u; is = at; there = found u (x.goes.own t.target u at).there }

  pub all_lead : (s : ℕ) (x : At s) → Each (Leads k ms root keeps top s x) (out-State x.state).transitions
  all_lead s x = each_of (Leads k ms root keeps top s x) (out-State x.state).transitions (λ i t is. leads_of s x i t is)

  pub all_joins : (s : ℕ) (x : At s) → has_regions (out-State x.state).regions ≡ true →
      Each (λ t. (t.kind ≡ kind.Join) × (t.immediate ≡ false) × (t.trigger ≡ None)) (out-State x.state).transitions
  all_joins s x super = each_of (λ t. (t.kind ≡ kind.Join) × (t.immediate ≡ false) × (t.trigger ≡ None)) (out-State x.state).transitions
      (λ i t is. one t (subst (λ b. IsTransition features.Core x.variables (length (region_at k x.at.holder).states) b t) super (x.transitions i t is)))
    where
      one : (t : Transition) → IsTransition features.Core x.variables (length (region_at k x.at.holder).states) true t →
          (t.kind ≡ kind.Join) × (t.immediate ≡ false) × (t.trigger ≡ None)
      one t r = let join : t.kind ≡ kind.Join = is_a_join x.variables (length (region_at k x.at.holder).states) t r in
          (join, (r.plain_join join).0, (r.plain_join join).1)

  -- so none of them is immediate
  pub none_at_once : (s : ℕ) (x : At s) → has_regions (out-State x.state).regions ≡ true → at_once (out-State x.state).transitions ≡ []
  none_at_once s x super = none_filtered (λ t. t.immediate) (out-State x.state).transitions (weaker (out-State x.state).transitions (all_joins s x super))
    where
      weaker : (ts : List Transition) → Each (λ t. (t.kind ≡ kind.Join) × (t.immediate ≡ false) × (t.trigger ≡ None)) ts → Each (λ t. t.immediate ≡ false) ts
      weaker [] h = tt
      weaker (t ∷ ts) h = (h.0.1, weaker ts h.1)

  -- ---- states lead to statements

  pub state_settles : Settling root → (s : ℕ) → s < length k.states → Settled root (state_at k s).holder (begin_of k ms root keeps top s)
  state_settles settling s less =
      let x : At s = found s less in
      let l : (rest : List Statement) × ((low_state (low_open_state x.state)).text x.targets x.label ≡ label x.label ∷ rest) =
      first_label (out-State x.state).is_final (low_open_state x.state).regions (out-State x.state).transitions x.targets x.label in
      let b : BeginsWith k ms root keeps top s x.at.region x.at.holder l.0 x.following = begins_with k ms root keeps top s x l.0 l.1 in
      subst (λ t. Settled root t (begin_of k ms root keeps top s)) (sym (holder_is s x))
      (subst (Settled root x.at.holder) (sym b.begin) (settling x.at.holder (made l.0 b.next x.following) b.place.place))

  -- a state that begins with a goto alone has a greater rank than its target
  goto_falls : EachSettles root → (s : ℕ) (x : At s) (t : Transition) (tests : List Transition) → (out-State x.state).is_final ≡ false →
      (out-State x.state).regions ≡ [] → Leads k ms root keeps top s x t →
      at_once (out-State x.state).transitions ≡ t ∷ tests → t.trigger ≡ None → t.effects ≡ [] →
      hops root (label_count root) (front (into_of k ms root keeps top s x t)) < hops root (label_count root) (front (begin_of k ms root keeps top s))
  goto_falls settles s x t tests final bare leads is untriggered idle =
      let all : List Transition = (out-State x.state).transitions in
      let deep : List Statement = depth x.targets all (suc x.label) in
      let name : List ℕ = label_at x.targets t.target in
      let others : List Statement = transitions x.targets tests deep in
      let same : (low_state (low_open_state x.state)).text x.targets x.label ≡ label x.label ∷ statement.Goto name ∷ [] =
      ap (λ b. text_of b (low_open_state x.state).regions all x.targets x.label) final
      ∙ ap (λ rs. text_of false (map low_of_region rs) all x.targets x.label) bare
      ∙ ap (λ ts. label x.label ∷ transitions x.targets ts deep) is
      ∙ ap (λ o. label x.label ∷ tested o (taken x.targets t) others) untriggered
      ∙ ap (λ es. label x.label ∷ goto_behind es name) idle in
      let b : BeginsWith k ms root keeps top s x.at.region x.at.holder (statement.Goto name ∷ []) x.following = begins_with k ms root keeps top s x
      (statement.Goto name ∷ []) same in
      let goto_is : made (statement.Goto name ∷ []) b.next x.following ≡ Goto b.next.goto name x.following = ap (λ (p : Piece). p.made b.next x.following)
      (goto_piece name) in
      let to : (first : Block) × (settled root (Goto b.next.goto name x.following) ≡ Some first) = settles x.at.holder (Goto b.next.goto name x.following)
      (subst (Place root x.at.holder) goto_is b.place.place) in
      subst (λ z. hops root (label_count root) (front (into_of k ms root keeps top s x t)) < hops root (label_count root) (front z)) (sym (b.begin ∙ goto_is))
      (hops_fall root (label_count root) b.next.goto name (into_of k ms root keeps top s x t) to.0 (leads_found k ms root keeps top s x t leads) to.1)

  pub ranks_fall : EachSettles root → (s : ℕ) (t : Transition) (tests : List Transition) → s < length k.states →
      at_once (state_at k s).transitions ≡ t ∷ tests → t.trigger ≡ None → t.effects ≡ [] →
      hops root (label_count root) (front (begin_of k ms root keeps top (state_in k (state_at k s).holder t.target))) < hops root (label_count root)
      (front (begin_of k ms root keeps top s))
  ranks_fall settles s t tests less is untriggered idle =
      let x : At s = found s less in
      let own : at_once (out-State x.state).transitions ≡ t ∷ tests = ap at_once (sym (transitions_are s x)) ∙ is in
      let leads : Each (Leads k ms root keeps top s x) (t ∷ tests) = subst (Each (Leads k ms root keeps top s x)) own
      (each_filter (Leads k ms root keeps top s x) (λ t. t.immediate) (out-State x.state).transitions (all_lead s x)) in
      subst (λ h. hops root (label_count root) (front (begin_of k ms root keeps top (state_in k h t.target))) < hops root (label_count root)
      (front (begin_of k ms root keeps top s))) (sym (holder_is s x))
      (by_final x own leads.0 (out-State x.state).is_final refl (out-State x.state).regions refl)
    where
      by_final : (x : At s) → at_once (out-State x.state).transitions ≡ t ∷ tests → Leads k ms root keeps top s x t → (b : Bool) →
          (out-State x.state).is_final ≡ b → (rs : List Region) → (out-State x.state).regions ≡ rs →
          hops root (label_count root) (front (into_of k ms root keeps top s x t)) < hops root (label_count root) (front (begin_of k ms root keeps top s))
      by_final x own leads true final rs regions = absurd (no_items t tests (sym (ap at_once (x.bare final).1) ∙ own))
      by_final x own leads false final [] regions = goto_falls settles s x t tests final regions leads own untriggered idle
      by_final x own leads false final (r ∷ rs) regions = absurd (no_items t tests (sym (none_at_once s x (ap has_regions regions)) ∙ own))
