-- Each node comes from its element, by the laws of nodes, of points and of expansions.
use Rattle.std.proofs.Common.{◌≡◌, ℕ, zero, suc, ◌<◌, Some, List, [], ◌∷◌, map, length, slice_get, refl, sym, ap, subst, ◌∙◌, arith}
use Rattle.std.proofs.lemmas.List.{length-map}
use Rattle.sc_graph.specs.declared.program.Node.{Node}
use Rattle.sc_graph.specs.declared.program.Step.{Step}
use Rattle.scl.specs.declared.program.Scl.{Scl}
use Rattle.scl.specs.Numbering.{numbered}
use Rattle.scl_graph.specs.Graph.{program_of}
use Rattle.core_charts.specs.declared.region.Effect.{Effect}
use Rattle.core_charts.specs.declared.region.Transition.{Transition}
use Rattle.core_charts.specs.Chart.{Chart}
use Rattle.core_charts.specs.declared.elements.element.Element.{Element}
use Rattle.core_charts.specs.declared.elements.element.Element.TheVariants as element
use Rattle.core_charts.specs.Elements.{Contents, all_effects, contents}
use Rattle.core_charts.proofs.Standing.{below}
use Rattle.node_elements.specs.declared.graph.origin.NodeOrigin.{NodeOrigin}
use Rattle.node_elements.specs.declared.graph.origin.NodeOrigin.TheVariants as node
use Rattle.node_elements.specs.Points.{Point, Assigns, Ends, Forks, Jumps, Marks, Pauses, Tests, text_points}
use Rattle.node_elements.specs.GraphLaws.{IsDone, IsFirst, IsSecond, OriginsTellNodes, TellsNodes}
use Rattle.node_elements.specs.GraphOrigins.{node_origins}
use Rattle.chart_lowering.specs.Lowering.{lowered}
use Rattle.node_elements.specs.LoweringLaws.{IsFrom, OriginsTellPoints, TellsPoints}
use Rattle.node_elements.specs.LoweringOrigins.{point_origins}
use Rattle.abort_expansion.specs.Expansion.{expanded}
use Rattle.node_elements.specs.declared.expansion.origins.Origins.{Origins}
use Rattle.node_elements.specs.ExpansionLaws.{EffectFrom, OriginsTellExpansion, RegionFrom, StateFrom, Tells, TellsExpansion, TransitionFrom}
use Rattle.node_elements.specs.ExpansionOrigins.{expansion_origins}
use Rattle.node_elements.specs.Laws.{Comes, ElementsTellNodes, Makes, NodeFrom}
use Rattle.node_elements.specs.Origins.{element_of, point_of, through, through_any}

-- ---- lists

-- an item of this number
pub record Item {A : Type 0} (xs : List A) (k : ℕ) : Type 0 where
  pub item : A
  pub there : slice_get xs k ≡ Some item

pub item_below : {A : Type 0} (xs : List A) (k : ℕ) → k < length xs → Item xs k
item_below [] k small = absurd (omega (arith, small))
item_below (x ∷ xs) zero small = record { item = x; there = refl }
item_below (x ∷ xs) (suc k) small =
    let less : k < length xs = omega (arith, small) in
    let later : Item xs k = item_below xs k less in
    record { item = later.item; there = later.there }

pub item_beside : {A B : Type 0} (xs : List A) (ys : List B) (k : ℕ) (y : B) → length xs ≡ length ys → slice_get ys k ≡ Some y → Item xs k
item_beside xs ys k y same there =
    let small : k < length ys = below ys k y there in
    let less : k < length xs = omega (arith, small, same) in
    item_below xs k less

pub get_mapped : {A B : Type 0} (f : A → B) (xs : List A) (k : ℕ) (x : A) → slice_get xs k ≡ Some x → slice_get (map f xs) k ≡ Some (f x)
get_mapped f [] k x there = absurd cc
get_mapped f (y ∷ xs) zero x there = let same : y ≡ x = cc in ap (λ z. Some (f z)) same
get_mapped f (y ∷ xs) (suc k) x there = get_mapped f xs k x there

-- the origin of the thing of this number, and that it comes from it
pub record Origin {A : Type 0} (From : Element → A → Type 0) (os : List Element) (k : ℕ) : Type 0 where
  pub from : Element
  pub there : slice_get os k ≡ Some from
  pub thing : A
  pub comes : From from thing

origin_below : {A : Type 0} (From : Element → A → Type 0) (os : List Element) (xs : List A) → Tells From os xs → (k : ℕ) → k < length xs →
    Origin From os k
origin_below From os xs tells k small =
    let x : Item xs k = item_below xs k small in
    let o : Item os k = item_beside os xs k x.item tells.each x.there in
    record { from = o.item; there = o.there; thing = x.item; comes = tells.comes k o.item x.item o.there x.there }

-- ---- a node, its point, and what it assigns

abbrev Acts : Point → Step → Type 0
Acts (Assigns x e) s = Makes (record { variable = x; value = e }) s
Acts other s = Unit {0}

pub record Pointed (points : List Point) (n : ℕ) (s : Step) : Type 0 where
  pub point : Point
  pub there : slice_get points n ≡ Some point
  pub acts : Acts point s

first_acts : (p : Point) (s : Step) → IsFirst p s → Acts p s
first_acts (Assigns x e) s h = record { next = h.0; is = h.1 }
first_acts (Marks name) s h = tt
first_acts (Jumps name) s h = tt
first_acts Pauses s h = tt
first_acts (Tests e) s h = tt
first_acts Forks s h = tt
first_acts Ends s h = tt

second_acts : (p : Point) (s : Step) → IsSecond p s → Acts p s
second_acts (Assigns x e) s h = absurd h
second_acts (Marks name) s h = tt
second_acts (Jumps name) s h = tt
second_acts Pauses s h = tt
second_acts (Tests e) s h = tt
second_acts Forks s h = tt
second_acts Ends s h = tt

pointed : (points : List Point) (o : NodeOrigin) (s : Step) → IsDone points o s → Pointed points (point_of o) s
pointed points (node.First n) s h = record { point = h.0; there = h.1; acts = first_acts h.0 s h.2 }
pointed points (node.Second n) s h = record { point = h.0; there = h.1; acts = second_acts h.0 s h.2 }

-- ---- through the expansion

pub record Found (c : Chart) (core : Element) (s : Step) : Type 0 where
  pub from : Element
  pub found : through (expansion_origins c) core ≡ Some from
  pub does : NodeFrom (contents c) from s

region_does : (all : Contents) (o : Element) (name : List ℕ) (s : Step) → RegionFrom all o name → NodeFrom all o s
region_does all (element.Region n) name s h = below all.regions n name h
region_does all (element.Transition n) name s h = h.1
region_does all (element.State n) name s h = absurd h
region_does all (element.Effect n) name s h = absurd h
region_does all element.Chart name s h = absurd h

state_does : (all : Contents) (o : Element) (name : List ℕ) (s : Step) → StateFrom all o name → NodeFrom all o s
state_does all (element.State n) name s h = h.0
state_does all (element.Transition n) name s h = h.1
state_does all (element.Region n) name s h = h.1
state_does all (element.Effect n) name s h = absurd h
state_does all element.Chart name s h = absurd h

transition_does : (all : Contents) (o : Element) (t : Transition) (s : Step) → TransitionFrom all o t → NodeFrom all o s
transition_does all (element.Transition n) t s h = h
transition_does all (element.State n) t s h = h
transition_does all (element.Region n) t s h = absurd h
transition_does all (element.Effect n) t s h = absurd h
transition_does all element.Chart t s h = absurd h

effect_does : (all : Contents) (o : Element) (e : Effect) (s : Step) → EffectFrom all o e → Makes e s → NodeFrom all o s
effect_does all (element.Effect n) e s h m = (e, h, m)
effect_does all (element.Transition n) e s h m = h
effect_does all (element.State n) e s h m = h
effect_does all (element.Region n) e s h m = absurd h
effect_does all element.Chart e s h m = absurd h

region_found : (c : Chart) → TellsExpansion c → (n : ℕ) (s : Step) → n < length (contents (expanded c)).regions → Found c (element.Region n) s
region_found c tells n s small =
    let o : Origin (RegionFrom (contents c)) (expansion_origins c).regions n =
    origin_below (RegionFrom (contents c)) (expansion_origins c).regions (contents (expanded c)).regions tells.regions n small in
    record { from = o.from; found = o.there; does = region_does (contents c) o.from o.thing s o.comes }

state_found : (c : Chart) → TellsExpansion c → (n : ℕ) (s : Step) → n < length (contents (expanded c)).states → Found c (element.State n) s
state_found c tells n s small =
    let o : Origin (StateFrom (contents c)) (expansion_origins c).states n =
    origin_below (StateFrom (contents c)) (expansion_origins c).states (contents (expanded c)).states tells.states n small in
    record { from = o.from; found = o.there; does = state_does (contents c) o.from o.thing s o.comes }

transition_found : (c : Chart) → TellsExpansion c → (n : ℕ) (s : Step) → n < length (contents (expanded c)).transitions →
    Found c (element.Transition n) s
transition_found c tells n s small =
    let o : Origin (TransitionFrom (contents c)) (expansion_origins c).transitions n =
    origin_below (TransitionFrom (contents c)) (expansion_origins c).transitions (contents (expanded c)).transitions tells.transitions n small in
    record { from = o.from; found = o.there; does = transition_does (contents c) o.from o.thing s o.comes }

effect_found : (c : Chart) → TellsExpansion c → (n : ℕ) (e : Effect) (s : Step) →
    slice_get (all_effects (contents (expanded c)).transitions) n ≡ Some e → Makes e s → Found c (element.Effect n) s
effect_found c tells n e s there makes =
    let effects : List Effect = all_effects (contents (expanded c)).transitions in
    let o : Item (expansion_origins c).effects n = item_beside (expansion_origins c).effects effects n e tells.effects.each there in
    record {
      from = o.item;
      found = o.there;
      does = effect_does (contents c) o.item e s (tells.effects.comes n o.item e o.there there) makes;
    }

core_found : (c : Chart) → TellsExpansion c → (core : Element) (p : Point) (s : Step) → IsFrom (contents (expanded c)) core p → Acts p s →
    Found c core s
core_found c tells element.Chart p s h acts = record { from = element.Chart; found = refl; does = tt }
core_found c tells (element.Effect n) (Assigns x e) s h acts = effect_found c tells n (record { variable = x; value = e }) s h acts
core_found c tells (element.Effect n) (Marks name) s h acts = absurd h
core_found c tells (element.Effect n) (Jumps name) s h acts = absurd h
core_found c tells (element.Effect n) Pauses s h acts = absurd h
core_found c tells (element.Effect n) (Tests e) s h acts = absurd h
core_found c tells (element.Effect n) Forks s h acts = absurd h
core_found c tells (element.Effect n) Ends s h acts = absurd h
core_found c tells (element.Transition n) (Tests e) s h acts =
    transition_found c tells n s (below (contents (expanded c)).transitions n h.0 h.1)
core_found c tells (element.Transition n) (Jumps name) s h acts = transition_found c tells n s h
core_found c tells (element.Transition n) (Assigns x e) s h acts = absurd h
core_found c tells (element.Transition n) (Marks name) s h acts = absurd h
core_found c tells (element.Transition n) Pauses s h acts = absurd h
core_found c tells (element.Transition n) Forks s h acts = absurd h
core_found c tells (element.Transition n) Ends s h acts = absurd h
core_found c tells (element.State n) (Jumps name) s h acts = state_found c tells n s h
core_found c tells (element.State n) (Marks name) s h acts = state_found c tells n s h
core_found c tells (element.State n) Pauses s h acts = state_found c tells n s h
core_found c tells (element.State n) Forks s h acts = state_found c tells n s h
core_found c tells (element.State n) (Assigns x e) s h acts = absurd h
core_found c tells (element.State n) (Tests e) s h acts = absurd h
core_found c tells (element.State n) Ends s h acts = absurd h
core_found c tells (element.Region n) (Marks name) s h acts = region_found c tells n s h
core_found c tells (element.Region n) Ends s h acts = region_found c tells n s h
core_found c tells (element.Region n) (Assigns x e) s h acts = absurd h
core_found c tells (element.Region n) (Jumps name) s h acts = absurd h
core_found c tells (element.Region n) Pauses s h acts = absurd h
core_found c tells (element.Region n) (Tests e) s h acts = absurd h
core_found c tells (element.Region n) Forks s h acts = absurd h

-- ---- the whole

node_comes : (c : Chart) (p : Scl) → p.body ≡ lowered (expanded c) → TellsNodes p → TellsPoints (expanded c) → TellsExpansion c →
    (k : ℕ) (n : Node) → slice_get (program_of (numbered p)).nodes k ≡ Some n → Comes c k n.step
node_comes c p body nodes points tells k n there =
    let core : Chart = expanded c in
    let os : Origins = expansion_origins c in
    let o : Item (node_origins p.body) k = item_beside (node_origins p.body) (program_of (numbered p)).nodes k n nodes.each there in
    let q : Pointed (text_points p.body) (point_of o.item) n.step =
    pointed (text_points p.body) o.item n.step (nodes.done k o.item n o.there there) in
    let at : slice_get (text_points (lowered core)) (point_of o.item) ≡ Some q.point =
    subst (λ b. slice_get (text_points b) (point_of o.item) ≡ Some q.point) body q.there in
    let e : Item (point_origins core) (point_of o.item) =
    item_beside (point_origins core) (text_points (lowered core)) (point_of o.item) q.point points.each at in
    let f : Found c e.item n.step =
    core_found c tells e.item q.point n.step (points.comes (point_of o.item) e.item q.point e.there at) q.acts in
    let mine : slice_get (node_origins (lowered core)) k ≡ Some o.item =
    subst (λ b. slice_get (node_origins b) k ≡ Some o.item) body o.there in
    let told : element_of (point_origins core) os o.item ≡ Some f.from = ap (through_any os) e.there ∙ f.found in
    record {
      from = f.from;
      found = get_mapped (element_of (point_origins core) os) (node_origins (lowered core)) k o.item mine ∙ ap Some told;
      does = f.does;
    }

pub elements_tell : OriginsTellNodes → OriginsTellPoints → OriginsTellExpansion → ElementsTellNodes
elements_tell nodes points expansions c p chart core body = record {
  each =
      length-map (node_origins (lowered (expanded c))) (element_of (point_origins (expanded c)) (expansion_origins c))
      ∙ ap (λ b. length (node_origins b)) (sym body) ∙ (nodes p).each;
  comes = node_comes c p body (nodes p) (points (expanded c) core) (expansions c chart);
}
