-- At the place of each node's origin stands the token that begins the point from which the node comes.
use Rattle.std.proofs.Common.{◌≡◌, ℕ, ◌<◌, Some, List, [], ◌∷◌, map, length, slice_get, refl, sym, ap, subst, ◌∙◌, arith}
use Rattle.std.proofs.lemmas.List.{length-map}
use Rattle.core_charts.proofs.Standing.{below}
use Rattle.sc_text.specs.declared.drafts.parts.Declaration.{Declaration}
use Rattle.sc_text.specs.Flaws.{variable_names}
use Rattle.sc_text.specs.Resolved.{variables_of}
use Rattle.sc_graph.specs.Program.{Program}
use Rattle.sc_graph.specs.declared.program.Node.{Node}
use Rattle.sc_graph.specs.declared.program.Step.{Step}
use Rattle.sc_graph.specs.declared.program.Variable.{Variable}
use Rattle.node_elements.specs.declared.graph.origin.NodeOrigin.{NodeOrigin}
use Rattle.node_elements.specs.declared.graph.origin.NodeOrigin.TheVariants as node
use Rattle.node_elements.specs.GraphLaws.{IsDone, IsSecond, OriginsTellNodes, TellsNodes}
use Rattle.node_elements.specs.GraphOrigins.{node_origins}
use Rattle.node_elements.specs.Points.{Point, Assigns, Marks, Jumps, Pauses, Tests, Forks, Ends, text_points}
use Rattle.node_elements.proofs.Telling.{get_mapped}
use Rattle.node_sources.specs.declared.origin.Origin.{Origin}
use Rattle.node_sources.specs.declared.statements.StatementPlace.{StatementPlace}
use Rattle.node_sources.specs.SclLaws.{NodeTold, OriginStands, PointStands, SecondStands, SourcesTellScl}
use Rattle.node_sources.specs.SclOrigins.{at_first, at_second, point_origin, spots_of, statement_at}
use Rattle.node_sources.specs.Sources.{SclSources}
use Rattle.node_sources.proofs.Items.{Item, item_below}
use Rattle.node_sources.proofs.StatementsPlaced.{SecondOf, SpotStands, Stand, as_many, stand_at}
use Rattle.node_sources.proofs.SclTold.{spots_stand}

names_same : (variables : List Declaration) → variable_names variables ≡ map (λ (x : Variable). x.name) (variables_of variables)
names_same [] = refl
names_same (x ∷ variables) = ap (λ names. x.named.name ∷ names) (names_same variables)

module _ (text : List ℕ) (names : List (List ℕ)) where
  -- a point with a second node
  second_stands : (p : Point) (s : Step) (at : ℕ) → IsSecond p s → SecondOf text names p at → SecondStands text p at
  second_stands Pauses s at is h = h
  second_stands Forks s at is h = h
  second_stands (Assigns x e) s at is h = absurd is
  second_stands (Marks name) s at is h = absurd is
  second_stands (Jumps name) s at is h = absurd is
  second_stands (Tests e) s at is h = absurd is
  second_stands Ends s at is h = absurd is

  origin_stands : (spots : List StatementPlace) (points : List Point) → Stand text names spots points → (from : NodeOrigin) (s : Step) →
      IsDone points from s → (o : Origin) → point_origin spots from ≡ Some o → OriginStands text names points from o.at
  origin_stands spots points all (node.First n) s done o is =
      let many : length spots ≡ length points = as_many text names spots points all in
      let less : n < length points = below points n done.0 done.1 in
      let small : n < length spots = omega (arith, many, less) in
      let spot : Item spots n = item_below spots n small in
      let both : SpotStands text names spot.item done.0 = stand_at text names spots points all n spot.item done.0 spot.there done.1 in
      let told : at_first (slice_get spots n) ≡ Some (statement_at spot.item.first) = ap at_first spot.there in
      let same : statement_at spot.item.first ≡ o = cc in
      (done.0, done.1, subst (PointStands text names done.0) (ap (λ (o : Origin). o.at) same) both.0)
  origin_stands spots points all (node.Second n) s done o is =
      let many : length spots ≡ length points = as_many text names spots points all in
      let less : n < length points = below points n done.0 done.1 in
      let small : n < length spots = omega (arith, many, less) in
      let spot : Item spots n = item_below spots n small in
      let both : SpotStands text names spot.item done.0 = stand_at text names spots points all n spot.item done.0 spot.there done.1 in
      let told : at_second (slice_get spots n) ≡ Some (statement_at spot.item.second) = ap at_second spot.there in
      let same : statement_at spot.item.second ≡ o = cc in
      let second : SecondStands text done.0 spot.item.second = second_stands done.0 s spot.item.second done.2 both.1 in
      (done.0, done.1, subst (SecondStands text done.0) (ap (λ (o : Origin). o.at) same) second)

-- ---- the law

module _ (tell : OriginsTellNodes) (text : List ℕ) (q : Program) (origins : List Origin) (s : SclSources text q origins) where
  abbrev nodes : List NodeOrigin
  nodes = node_origins s.scl.body

  abbrev spots : List StatementPlace
  spots = spots_of s.tokens s.draft.statements

  as_origins : length origins ≡ length nodes
  as_origins = sym (length-map origins Some) ∙ ap length s.each ∙ length-map nodes (point_origin spots)

  stand : Stand text (map (λ (x : Variable). x.name) s.scl.variables) spots (text_points s.scl.body)
  stand =
      let names : variable_names s.draft.declarations ≡ map (λ (x : Variable). x.name) s.scl.variables =
      names_same s.draft.declarations ∙ ap (map (λ (x : Variable). x.name)) (sym s.spelled.declared) in
      subst (λ names. Stand text names spots (text_points s.scl.body)) names
      (spots_stand text s.draft s.drafted s.tokens s.cut s.scl s.spelled)

  node_told : (k : ℕ) (n : Node) (o : Origin) → slice_get q.nodes k ≡ Some n → slice_get origins k ≡ Some o → NodeTold text s.scl k n o
  node_told k n o is stands =
      let told : TellsNodes s.scl = tell s.scl in
      let less : k < length origins = below origins k o stands in
      let many = as_origins in
      let small : k < length nodes = omega (arith, many, less) in
      let from : Item nodes k = item_below nodes k small in
      let done : IsDone (text_points s.scl.body) from.item n.step =
      told.done k from.item n from.there (subst (λ (r : Program). slice_get r.nodes k ≡ Some n) s.graph.is is) in
      let mine : slice_get (map Some origins) k ≡ Some (Some o) = get_mapped Some origins k o stands in
      let there : slice_get (map Some origins) k ≡ Some (point_origin spots from.item) =
      ap (λ os. slice_get os k) s.each ∙ get_mapped (point_origin spots) nodes k from.item from.there in
      let same : point_origin spots from.item ≡ Some o = cc in
      record {
        from = from.item;
        found = from.there;
        does = done;
        stands =
            origin_stands text (map (λ (x : Variable). x.name) s.scl.variables) spots (text_points s.scl.body) stand from.item n.step done o same;
      }

  each : length origins ≡ length q.nodes
  each = as_origins ∙ (tell s.scl).each ∙ ap (λ (r : Program). length r.nodes) (sym s.graph.is)

pub sources_tell_scl : OriginsTellNodes → SourcesTellScl
sources_tell_scl tell text q origins s =
    record { each = each tell text q origins s; told = node_told tell text q origins s }
