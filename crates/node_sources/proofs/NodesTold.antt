-- Each node of the program of a reduced chart is told by the element from which it comes.
use Rattle.std.proofs.Common.{◌≡◌, ℕ, zero, suc, ◌+◌, Option, Some, List, [], ◌∷◌, length, slice_get, refl, sym, ap, subst, ◌∙◌, arith}
use Rattle.sc_graph.specs.Program.{Program}
use Rattle.sc_graph.specs.declared.program.Node.{Node}
use Rattle.core_charts.specs.declared.elements.element.Element.{Element}
use Rattle.node_sources.specs.declared.chart_places.places.Places.{Places}
use Rattle.node_elements.specs.Laws.{Comes, ElementsTellNodes, TellsElements}
use Rattle.node_elements.specs.Origins.{node_elements}
use Rattle.node_sources.specs.Parts.{part_of}
use Rattle.node_sources.specs.declared.extended.text_places.origins.AuthorOrigins.{AuthorOrigins}
use Rattle.node_sources.specs.Origins.{origin_of}
use Rattle.node_sources.specs.declared.extended.node.AuthorNode.{AuthorNode}
use Rattle.node_sources.specs.ExtendedLaws.{AuthorSourcesTellNodes, NodeTold}
use Rattle.node_sources.specs.Nodes.{author_node, in_author, nodes_from}
use Rattle.node_sources.specs.ExtendedSources.{AreAuthorSources}

count_from : (os : AuthorOrigins) (p : Places) (q : Program) (k : ℕ) (elements : List (Option Element)) →
    length (nodes_from os p q k elements) ≡ length elements
count_from os p q k [] = refl
count_from os p q k (e ∷ elements) = ap suc (count_from os p q (suc k) elements)

get_from : (os : AuthorOrigins) (p : Places) (q : Program) (i : ℕ) (elements : List (Option Element)) (k : ℕ) (from : Option Element) →
    slice_get elements k ≡ Some from → slice_get (nodes_from os p q i elements) k ≡ Some (author_node os p q.variables from (slice_get q.nodes (i + k)))
get_from os p q i [] k from h = absurd cc
get_from os p q i (e ∷ elements) zero from h =
    let same : e ≡ from = cc in
    let here : i ≡ i + 0 = omega arith in
    ap (λ f. Some (author_node os p q.variables f (slice_get q.nodes i))) same
    ∙ ap (λ n. Some (author_node os p q.variables from (slice_get q.nodes n))) here
get_from os p q i (e ∷ elements) (suc k) from h =
    let behind : suc i + k ≡ i + suc k = omega arith in
    get_from os p q (suc i) elements k from h ∙ ap (λ n. Some (author_node os p q.variables from (slice_get q.nodes n))) behind

module _ (elements : ElementsTellNodes) (text : List ℕ) (q : Program) (nodes : List (Option AuthorNode)) (s : AreAuthorSources text q nodes) where
  told_of : TellsElements s.chart s.scl
  told_of = elements s.chart s.scl s.rules s.lowers.core s.lowers.body

  node_told : (k : ℕ) (n : Node) (a : Option AuthorNode) → slice_get q.nodes k ≡ Some n → slice_get nodes k ≡ Some a →
      NodeTold s.chart s.origins s.places q.variables n.step a
  node_told k n a is stands =
      let comes : Comes s.chart k n.step = told_of.comes k n (subst (λ (r : Program). slice_get r.nodes k ≡ Some n) s.graph.is is) in
      let from_zero : 0 + k ≡ k = omega arith in
      let there : slice_get nodes k ≡ Some (author_node s.origins s.places q.variables (Some comes.from) (slice_get q.nodes k)) =
      ap (λ ns. slice_get ns k) s.each ∙ get_from s.origins s.places q 0 (node_elements s.chart) k (Some comes.from) comes.found
      ∙ ap (λ n. Some (author_node s.origins s.places q.variables (Some comes.from) (slice_get q.nodes n))) from_zero in
      let one : author_node s.origins s.places q.variables (Some comes.from) (slice_get q.nodes k)
      ≡ in_author s.places (part_of q.variables n.step comes.from) (origin_of s.origins comes.from) =
      ap (author_node s.origins s.places q.variables (Some comes.from)) is in
      let same : a ≡ in_author s.places (part_of q.variables n.step comes.from) (origin_of s.origins comes.from) = cc in
      record { from = comes.from; does = comes.does; is = same }

  as_many : length nodes ≡ length q.nodes
  as_many =
      ap length s.each ∙ count_from s.origins s.places q 0 (node_elements s.chart) ∙ told_of.each
      ∙ ap (λ (r : Program). length r.nodes) (sym s.graph.is)

pub sources_tell : ElementsTellNodes → AuthorSourcesTellNodes
sources_tell elements text q nodes s = record { each = as_many elements text q nodes s; told = node_told elements text q nodes s }
