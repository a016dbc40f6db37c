-- Each node of the program of a chart comes from an element that has a place.
use Rattle.std.proofs.Common.{◌≡◌, ℕ, ◌<◌, Option, Some, IsSome, is_some, List}
use Rattle.std.proofs.Common.{map, length, slice_get, refl, sym, ap, subst, ◌∙◌, arith}
use Rattle.std.specs.Prelude.{Result, Ok, Err, IfOk}
use Rattle.core_charts.specs.declared.features.Features.TheVariants as features
use Rattle.core_charts.specs.Chart.{Chart}
use Rattle.core_charts.specs.Rules.{IsChart}
use Rattle.core_charts.specs.declared.elements.element.Element.{Element}
use Rattle.core_charts.specs.declared.elements.element.Element.TheVariants as element
use Rattle.core_charts.specs.Elements.{contents, all_effects}
use Rattle.core_charts.proofs.Standing.{below}
use Rattle.sc_graph.specs.Program.{Program}
use Rattle.sc_graph.specs.declared.program.Step.{Step}
use Rattle.scl.specs.declared.program.Scl.{Scl}
use Rattle.scl_graph.specs.Answers.{IsGraph}
use Rattle.scl_graph.specs.Graph.{program_of}
use Rattle.scl.specs.Numbering.{numbered}
use Rattle.abort_expansion.specs.Expansion.{expanded}
use Rattle.chart_lowering.specs.Lowering.{lowered}
use Rattle.node_elements.specs.GraphOrigins.{node_origins}
use Rattle.node_elements.specs.LoweringOrigins.{point_origins}
use Rattle.node_elements.specs.ExpansionOrigins.{expansion_origins}
use Rattle.chart_reader.proofs.ShapedDrafts.{draft_is_shaped}
use Rattle.chart_reader.proofs.ChartRulesKept.{chart_kept}
use Rattle.node_sources.specs.declared.chart_places.places.Places.{Places}
use Rattle.node_sources.specs.ChartLaws.{PlacesTellTexts, TellsPlaces}
use Rattle.node_sources.specs.Places.{place_of, places_of}
use Rattle.chart_reader.specs.Resolved.{chart_of}
use Rattle.node_sources.specs.Read.{IsPlaced}
use Rattle.compiler.specs.Charts.{IsSclOf}
use Rattle.node_elements.specs.Laws.{Comes, ElementsTellNodes, NodeFrom, TellsElements}
use Rattle.node_elements.specs.Origins.{composed, node_elements}
use Rattle.node_sources.proofs.Items.{Item, item_below}
use Rattle.node_sources.specs.declared.origin.Origin.{Origin}
use Rattle.node_sources.specs.declared.origin.SourcePart.{SourcePart}
use Rattle.node_sources.specs.ChartOrigins.{chart_origins, node_origin, origins_from, standing, standing_if}
use Rattle.node_sources.specs.Parts.{part_of}
use Rattle.node_sources.specs.Sources.{ChartSources}
use Rattle.compiler.specs.declared.sources.reading.ReadChart.{ReadChart}
use Rattle.compiler.specs.Kept.{KeepsChart}

-- as many places as elements
placed : {A : Type 0} (places : List ℕ) (those : List A) (n : ℕ) → length places ≡ length those → n < length those → Item places n
placed places those n each less = let small : n < length places = omega (arith, each, less) in item_below places n small

some_there : {A : Type 0} (o : Option A) (a : A) → o ≡ Some a → IsSome o
some_there o a h = ap is_some h

-- ---- an element that a node comes from has a place

pub record HasPlace (p : Places) (from : Element) : Type 0 where
  pub at : ℕ
  pub is : place_of p from ≡ Some at

pub has_place : (text : List ℕ) (c : Chart) (p : Places) → TellsPlaces text c p → (from : Element) (s : Step) → NodeFrom (contents c) from s → HasPlace p from
has_place text c p tells element.Chart s h = record { at = p.chart; is = refl }
has_place text c p tells (element.Region n) s h =
    let t : Item p.rows.regions n = placed p.rows.regions (contents c).regions n tells.regions.each h in
    record { at = t.item; is = t.there }
has_place text c p tells (element.State n) s h =
    let t : Item p.rows.states n = placed p.rows.states (contents c).states n tells.states.each h in
    record { at = t.item; is = t.there }
has_place text c p tells (element.Transition n) s h =
    let t : Item p.rows.transitions n = placed p.rows.transitions (contents c).transitions n tells.transitions.each h in
    record { at = t.item; is = t.there }
has_place text c p tells (element.Effect n) s h =
    let less : n < length (all_effects (contents c).transitions) = below (all_effects (contents c).transitions) n h.0 h.1 in
    let t : Item p.rows.effects n = placed p.rows.effects (all_effects (contents c).transitions) n tells.effects.each less in
    record { at = t.item; is = t.there }

module _ (text : List ℕ) (c : Chart) (p : Places) (is : IsPlaced text c p) (scl : Scl) (lowers : IsSclOf c scl)
    (q : Program) (graph : IsGraph scl q) where
  pub tells_places : PlacesTellTexts → TellsPlaces text c p
  tells_places places =
      let told : TellsPlaces text (chart_of is.draft) (places_of is.draft) = places text is.draft is.drafted in
      subst (λ c. TellsPlaces text c p) (sym is.spelled) (subst (TellsPlaces text (chart_of is.draft)) (sym is.placed) told)

  kept : IsChart features.Extended c
  kept = subst (IsChart features.Extended) (sym is.spelled) (chart_kept is.draft is.flawless (draft_is_shaped text is.draft is.drafted))

  pub tells_elements : ElementsTellNodes → TellsElements c scl
  tells_elements elements = elements c scl kept lowers.core lowers.body

  -- the node of this number is there, and comes from an element with a place
  node_located : PlacesTellTexts → ElementsTellNodes → (k : ℕ) (from : Option Element) → slice_get (node_elements c) k ≡ Some from →
      IsSome (node_origin p q.variables from (slice_get q.nodes k))
  node_located places elements k from h =
      let told : TellsElements c scl = tells_elements elements in
      let less : k < length (node_elements c) = below (node_elements c) k from h in
      let small : k < length (program_of (numbered scl)).nodes = subst (λ m. k < m) told.each less in
      let nodes : Item q.nodes k = item_below q.nodes k (subst (λ (r : Program). k < length r.nodes) (sym graph.is) small) in
      let comes : Comes c k nodes.item.step =
      told.comes k nodes.item (subst (λ (r : Program). slice_get r.nodes k ≡ Some nodes.item) graph.is nodes.there) in
      let place : HasPlace p comes.from = has_place text c p (tells_places places) comes.from nodes.item.step comes.does in
      let found : slice_get (node_elements c) k ≡ Some (Some comes.from) = comes.found in
      let same : from ≡ Some comes.from = cc in
      let part : SourcePart = part_of q.variables nodes.item.step comes.from in
      let origin : node_origin p q.variables from (slice_get q.nodes k) ≡ Some (standing p part comes.from place.at) =
      ap (λ f. node_origin p q.variables f (slice_get q.nodes k)) same
      ∙ ap (node_origin p q.variables (Some comes.from)) nodes.there
      ∙ ap (standing_if p part comes.from) place.is in
      some_there (node_origin p q.variables from (slice_get q.nodes k)) (standing p part comes.from place.at) origin

  pub each_located : PlacesTellTexts → ElementsTellNodes → (elements : List (Option Element)) → elements ≡ node_elements c →
      (k : ℕ) (from : Option Element) → slice_get elements k ≡ Some from → IsSome (node_origin p q.variables from (slice_get q.nodes k))
  each_located places tell elements are k from h =
      node_located places tell k from (subst (λ es. slice_get es k ≡ Some from) are h)

  pub origins_are : (elements : List (Option Element)) (origins : List Origin) → elements ≡ node_elements c →
      map Some origins ≡ origins_from p q 0 elements → map Some origins ≡ chart_origins c p q
  origins_are elements origins are each = each ∙ ap (origins_from p q 0) are

  sourced : (origins : List Origin) → map Some origins ≡ chart_origins c p q → ChartSources text q origins
  sourced origins each = record { chart = c; places = p; placed = is; scl = scl; lowers = lowers; graph = graph; each = each }

  pub all_sourced : {E : Type 0} (r : Result (List Origin) E) → IfOk r (λ origins. map Some origins ≡ chart_origins c p q) → IfOk r (ChartSources text q)
  all_sourced (Ok origins) each = sourced origins each
  all_sourced (Err error) each = tt

-- what is kept of a text, with its places
pub placed_in : (text : List ℕ) (scl : Scl) (kept : ReadChart) (places : Places) → KeepsChart text scl kept → places ≡ places_of kept.draft
    → IsPlaced text kept.chart places
placed_in text scl kept places h placed = record {
  draft = kept.draft;
  drafted = h.drafted.drafted;
  flawless = h.drafted.flawless;
  spelled = h.spelled;
  placed = placed;
}

-- the elements as they are composed
pub elements_are : (c core : Chart) (scl : Scl) → core ≡ expanded c → IsSclOf c scl →
    composed (node_origins scl.body) (point_origins core) (expansion_origins c) ≡ node_elements c
elements_are c core scl same lowers =
    ap (λ body. composed (node_origins body) (point_origins core) (expansion_origins c)) lowers.body
    ∙ ap (λ core. composed (node_origins (lowered (expanded c))) (point_origins core) (expansion_origins c)) same
