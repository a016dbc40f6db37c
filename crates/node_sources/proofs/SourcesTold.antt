-- At the place of each node's origin stands the token that begins the element from which the node comes.
use Rattle.std.proofs.Common.{◌≡◌, ℕ, zero, suc, ◌+◌, ◌<◌, Option, Some, None, List, [], ◌∷◌, map, length, slice_get, refl, sym, ap, subst, ◌∙◌, arith}
use Rattle.std.proofs.lemmas.List.{length-map}
use Rattle.core_charts.proofs.Standing.{below}
use Rattle.core_charts.specs.declared.elements.element.Element.{Element}
use Rattle.core_charts.specs.declared.elements.element.Element.TheVariants as element
use Rattle.core_charts.specs.Elements.{all_effects, contents}
use Rattle.sc_graph.specs.Program.{Program}
use Rattle.sc_graph.specs.declared.program.Node.{Node}
use Rattle.sc_graph.specs.declared.program.Step.{Step}
use Rattle.core_charts.specs.Chart.{Chart}
use Rattle.node_sources.specs.declared.chart_places.places.Places.{Places}
use Rattle.node_sources.specs.declared.chart_places.states_around.StateAround.{StateAround}
use Rattle.node_sources.specs.ChartLaws.{EffectStands, NameStands, PlacesTellTexts, Tells, TellsPlaces, TransitionStands}
use Rattle.node_sources.specs.Places.{place_of, state_around}
use Rattle.node_elements.specs.Laws.{Comes, ElementsTellNodes, NodeFrom, TellsElements}
use Rattle.node_elements.specs.Origins.{node_elements}
use Rattle.node_elements.proofs.Telling.{get_mapped}
use Rattle.node_sources.specs.declared.origin.Origin.{Origin}
use Rattle.node_sources.specs.declared.origin.SourcePart.{SourcePart}
use Rattle.node_sources.specs.ChartOrigins.{in_state_around, node_origin, origins_from, standing, standing_if}
use Rattle.node_sources.specs.Laws.{ElementStands, IsStanding, NodeTold, SourcesTellCharts}
use Rattle.node_sources.specs.Parts.{part_of}
use Rattle.node_sources.specs.Sources.{ChartSources}
use Rattle.node_sources.proofs.Items.{Item, item_below}
use Rattle.node_sources.proofs.ChartsTold.{HasPlace, has_place, tells_elements, tells_places}

-- ---- rows of origins

count_from : (p : Places) (q : Program) (k : ℕ) (elements : List (Option Element)) → length (origins_from p q k elements) ≡ length elements
count_from p q k [] = refl
count_from p q k (e ∷ elements) = ap suc (count_from p q (suc k) elements)

get_from : (p : Places) (q : Program) (i : ℕ) (elements : List (Option Element)) (k : ℕ) (from : Option Element) → slice_get elements k ≡ Some from →
    slice_get (origins_from p q i elements) k ≡ Some (node_origin p q.variables from (slice_get q.nodes (i + k)))
get_from p q i [] k from h = absurd cc
get_from p q i (e ∷ elements) zero from h =
    let same : e ≡ from = cc in
    let here : i ≡ i + 0 = omega arith in
    ap (λ f. Some (node_origin p q.variables f (slice_get q.nodes i))) same
    ∙ ap (λ n. Some (node_origin p q.variables from (slice_get q.nodes n))) here
get_from p q i (e ∷ elements) (suc k) from h =
    let behind : suc i + k ≡ i + suc k = omega arith in
    get_from p q (suc i) elements k from h ∙ ap (λ n. Some (node_origin p q.variables from (slice_get q.nodes n))) behind

-- ---- places

in_state_around_at : (part : SourcePart) (at : ℕ) (around : Option StateAround) → (in_state_around part at around).at ≡ at
in_state_around_at part at (Some around) = refl
in_state_around_at part at None = refl

standing_at : (p : Places) (part : SourcePart) (from : Element) (at : ℕ) → (standing p part from at).at ≡ at
standing_at p part element.Chart at = refl
standing_at p part (element.Region n) at = refl
standing_at p part (element.State n) at = in_state_around_at part at (state_around p (element.State n))
standing_at p part (element.Transition n) at = in_state_around_at part at (state_around p (element.Transition n))
standing_at p part (element.Effect n) at = in_state_around_at part at (state_around p (element.Effect n))

-- what has a number below their count stands at its place
one_stands : {A : Type 0} (Stands : A → ℕ → Type 0) (places : List ℕ) (those : List A) (n at : ℕ) → Tells Stands places those → n < length those →
    slice_get places n ≡ Some at → IsStanding Stands those n at
one_stands Stands places those n at tells less is =
    let t : Item those n = item_below those n less in
    record { item = t.item; is = t.there; stands = tells.stand n at t.item is t.there }

element_stands : (text : List ℕ) (c : Chart) (p : Places) → TellsPlaces text c p → (from : Element) (s : Step) → NodeFrom (contents c) from s →
    (at : ℕ) → place_of p from ≡ Some at → ElementStands text c from at
element_stands text c p tells element.Chart s h at is =
    let same : p.chart ≡ at = cc in subst (NameStands text c.name) same tells.chart
element_stands text c p tells (element.Region n) s h at is =
    one_stands (NameStands text) p.rows.regions (contents c).regions n at tells.regions h is
element_stands text c p tells (element.State n) s h at is =
    one_stands (NameStands text) p.rows.states (contents c).states n at tells.states h is
element_stands text c p tells (element.Transition n) s h at is =
    one_stands (TransitionStands text) p.rows.transitions (contents c).transitions n at tells.transitions h is
element_stands text c p tells (element.Effect n) s h at is =
    one_stands (EffectStands text c.variables) p.rows.effects (all_effects (contents c).transitions) n at tells.effects
    (below (all_effects (contents c).transitions) n h.0 h.1) is

-- ---- the law

node_told : ElementsTellNodes → PlacesTellTexts → (text : List ℕ) (q : Program) (origins : List Origin) (s : ChartSources text q origins) →
    (k : ℕ) (n : Node) (o : Origin) → slice_get q.nodes k ≡ Some n → slice_get origins k ≡ Some o → NodeTold text s.chart n o
node_told elements places text q origins s k n o is stands =
    let told : TellsElements s.chart s.scl = tells_elements text s.chart s.places s.placed s.scl s.lowers q s.graph elements in
    let tells : TellsPlaces text s.chart s.places = tells_places text s.chart s.places s.placed s.scl s.lowers q s.graph places in
    let comes : Comes s.chart k n.step =
    told.comes k n (subst (λ (r : Program). slice_get r.nodes k ≡ Some n) s.graph.is is) in
    let place : HasPlace s.places comes.from = has_place text s.chart s.places tells comes.from n.step comes.does in
    let part : SourcePart = part_of q.variables n.step comes.from in
    let from_zero : 0 + k ≡ k = omega arith in
    let mine : slice_get (map Some origins) k ≡ Some (Some o) = get_mapped Some origins k o stands in
    let there : slice_get (map Some origins) k ≡ Some (node_origin s.places q.variables (Some comes.from) (slice_get q.nodes k)) =
    ap (λ os. slice_get os k) s.each ∙ get_from s.places q 0 (node_elements s.chart) k (Some comes.from) comes.found
    ∙ ap (λ n. Some (node_origin s.places q.variables (Some comes.from) (slice_get q.nodes n))) from_zero in
    let one : node_origin s.places q.variables (Some comes.from) (slice_get q.nodes k) ≡ Some (standing s.places part comes.from place.at) =
    ap (node_origin s.places q.variables (Some comes.from)) is ∙ ap (standing_if s.places part comes.from) place.is in
    let same : standing s.places part comes.from place.at ≡ o = cc in
    let at : place.at ≡ o.at = sym (standing_at s.places part comes.from place.at) ∙ ap (λ (o : Origin). o.at) same in
    record {
      from = comes.from;
      does = comes.does;
      stands = subst (ElementStands text s.chart comes.from) at (element_stands text s.chart s.places tells comes.from n.step comes.does place.at place.is);
    }

pub sources_tell : ElementsTellNodes → PlacesTellTexts → SourcesTellCharts
sources_tell elements places text q origins s =
    let told : TellsElements s.chart s.scl = tells_elements text s.chart s.places s.placed s.scl s.lowers q s.graph elements in
    record {
      each =
          sym (length-map origins Some) ∙ ap length s.each ∙ count_from s.places q 0 (node_elements s.chart) ∙ told.each
          ∙ ap (λ (r : Program). length r.nodes) (sym s.graph.is);
      told = node_told elements places text q origins s;
    }
