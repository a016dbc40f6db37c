-- Each node of the program of an SCL text comes from a point that has a spot.
use Rattle.std.proofs.Common.{◌≡◌, ℕ, ◌<◌, Option, Some, None, IsSome, is_some, List, [], ◌∷◌}
use Rattle.std.proofs.Common.{map, length, slice_get, sym, ap, subst, ◌∙◌, arith}
use Rattle.std.proofs.lemmas.Option.{slice_get-get_or}
use Rattle.std.specs.List.{slice_index_or}
use Rattle.grammar.specs.Grammar.{spells}
use Rattle.grammar.proofs.Each.{Every}
use Rattle.core_charts.proofs.Standing.{below}
use Rattle.sc_text.specs.Flaws.{variable_names}
use Rattle.sc_graph.specs.Program.{Program}
use Rattle.sc_graph.specs.declared.program.Step.{Step}
use Rattle.sc_text.specs.declared.language.Language.TheVariants as language
use Rattle.sc_text.specs.declared.read_fault.FaultKind.{FaultKind}
use Rattle.sc_text.specs.declared.token.Token.{Token}
use Rattle.sc_text.specs.Reading.{place_of}
use Rattle.sc_text.specs.Tokens.{AreTokens, IsFirstFault}
use Rattle.sc_text.proofs.OneCut.{no_fault, one_list}
use Rattle.scl.specs.declared.program.Scl.{Scl}
use Rattle.scl.specs.Numbering.{numbered}
use Rattle.scl.specs.declared.statement.Statement.{Statement}
use Rattle.scl_reader.specs.declared.text_drafts.draft.Draft.{Draft}
use Rattle.scl_reader.specs.Checked.{IsFlawless}
use Rattle.scl_reader.specs.Program.{scl as scl_grammar}
use Rattle.scl_reader.specs.Statements.{Statements}
use Rattle.scl_reader.specs.Resolved.{IsProgramOf, statements_of}
use Rattle.scl_reader.proofs.Pieces.{every_of}
use Rattle.scl_graph.specs.Answers.{IsGraph}
use Rattle.scl_graph.specs.Graph.{program_of}
use Rattle.node_elements.specs.declared.graph.origin.NodeOrigin.{NodeOrigin}
use Rattle.node_elements.specs.declared.graph.origin.NodeOrigin.TheVariants as node
use Rattle.node_elements.specs.GraphLaws.{IsDone, OriginsTellNodes}
use Rattle.node_elements.specs.GraphOrigins.{node_origins}
use Rattle.node_elements.specs.Points.{Ends, in_row as point_row, points_of, text_points}
use Rattle.node_sources.specs.declared.origin.Origin.{Origin}
use Rattle.node_sources.specs.declared.statements.StatementPlace.{StatementPlace}
use Rattle.node_sources.specs.SclLaws.{OpeningStands}
use Rattle.node_sources.specs.SclOrigins.{at_first, at_second, in_row, one_place, point_origin, scl_origins, spots_in, spots_of}
use Rattle.node_sources.specs.Sources.{SclSources}
use Rattle.node_sources.proofs.Items.{Item, item_below}
use Rattle.node_sources.proofs.StatementsPlaced.{Stand, as_many, row_stands, stand_both}
use Rattle.node_sources.proofs.StatementsSpelled.{Good, text_opened, text_spelled}

-- a point that is there has a spot
done_there : (spots : List StatementPlace) (body : List Statement) (o : NodeOrigin) (s : Step) → length spots ≡ length (text_points body) →
    IsDone (text_points body) o s → IsSome (point_origin spots o)
done_there spots body (node.First n) s each h =
    let less : n < length (text_points body) = below (text_points body) n h.0 h.1 in
    let small : n < length spots = omega (arith, each, less) in
    ap (λ o. is_some (at_first o)) (item_below spots n small).there
done_there spots body (node.Second n) s each h =
    let less : n < length (text_points body) = below (text_points body) n h.0 h.1 in
    let small : n < length spots = omega (arith, each, less) in
    ap (λ o. is_some (at_second o)) (item_below spots n small).there

module _ (text : List ℕ) (d : Draft) (is : IsFlawless text d) (tokens : List Token) (cut : AreTokens language.Scl 0 text tokens)
    (scl : Scl) (spelled : IsProgramOf d scl) where
  abbrev names : List (List ℕ)
  names = variable_names d.declarations

  all_good : Every (Good text names) tokens
  all_good = every_of (Good text names) tokens (λ n t at. record { tokens = tokens; cut = cut; index = n; stands = at })

  spells_it : spells (scl_grammar 0) tokens is.drafted.program
  spells_it =
      subst (λ ts. spells (scl_grammar 0) ts is.drafted.program)
      (one_list language.Scl text is.drafted.tokens tokens is.drafted.cut cut) is.drafted.spelled

  -- each point of the text has its spot at its tokens
  pub spots_stand : Stand text names (spots_of tokens d.statements) (text_points scl.body)
  spots_stand =
      let statements : Statements = is.drafted.program.1.1 in
      let body : Stand text names (in_row (map spots_in statements)) (point_row (map points_of (statements_of names statements))) =
      row_stands text names statements ((text_spelled text names).holds tokens is.drafted.program all_good spells_it) in
      let opens : OpeningStands text (place_of 0 tokens) = text_opened text names tokens is.drafted.program all_good spells_it in
      let whole : Stand text names (spots_of tokens statements) (text_points (statements_of names statements)) =
      stand_both text names (in_row (map spots_in statements)) (one_place (place_of 0 tokens) ∷ [])
      (point_row (map points_of (statements_of names statements))) (Ends ∷ []) body ((opens, tt), tt) in
      let same : d.statements ≡ statements = ap (λ (d : Draft). d.statements) is.drafted.drafted in
      subst (λ body. Stand text names (spots_of tokens d.statements) (text_points body)) (sym spelled.body)
      (subst (λ ss. Stand text names (spots_of tokens ss) (text_points (statements_of names ss))) (sym same) whole)

  pub each_located : OriginsTellNodes → (spots : List StatementPlace) → spots ≡ spots_of tokens d.statements → (nodes : List NodeOrigin) →
      nodes ≡ node_origins scl.body → (k : ℕ) (o : NodeOrigin) → slice_get nodes k ≡ Some o → IsSome (point_origin spots o)
  each_located tell spots made nodes from k o h =
      let many : length (spots_of tokens d.statements) ≡ length (text_points scl.body) =
      as_many text names (spots_of tokens d.statements) (text_points scl.body) spots_stand in
      let stands : slice_get (node_origins scl.body) k ≡ Some o = subst (λ ns. slice_get ns k ≡ Some o) from h in
      let less : k < length (node_origins scl.body) = below (node_origins scl.body) k o stands in
      let small : k < length (program_of (numbered scl)).nodes = subst (λ m. k < m) (tell scl).each less in
      let n : Item (program_of (numbered scl)).nodes k = item_below (program_of (numbered scl)).nodes k small in
      done_there spots scl.body o n.item.step (ap length made ∙ many) ((tell scl).done k o n.item stands n.there)

  pub origins_are : (spots : List StatementPlace) → spots ≡ spots_of tokens d.statements → (nodes : List NodeOrigin) → nodes ≡ node_origins scl.body →
      (origins : List Origin) → map Some origins ≡ map (point_origin spots) nodes → map Some origins ≡ scl_origins tokens d.statements scl.body
  origins_are spots made nodes from origins each =
      each ∙ ap (λ spots. map (point_origin spots) nodes) made ∙ ap (map (point_origin (spots_of tokens d.statements))) from

pub sourced : (text : List ℕ) (d : Draft) (tokens : List Token) (scl : Scl) (q : Program) (origins : List Origin) → IsFlawless text d →
    AreTokens language.Scl 0 text tokens → IsProgramOf d scl → IsGraph scl q → map Some origins ≡ scl_origins tokens d.statements scl.body →
    SclSources text q origins
sourced text d tokens scl q origins is cut spelled graph each = record {
  draft = d;
  drafted = is;
  tokens = tokens;
  cut = cut;
  scl = scl;
  spelled = spelled;
  graph = graph;
  each = each;
}

-- a text that has a draft is cut into tokens
pub never_faulty : (text : List ℕ) (d : Draft) (b : FaultKind) (at : ℕ) → IsFlawless text d → IsFirstFault language.Scl 0 text b at → ⊥
never_faulty text d b at is h = no_fault language.Scl text is.drafted.tokens b at is.drafted.cut h

-- each of these has an origin
pub not_missing : (spots : List StatementPlace) (nodes : List NodeOrigin) (k : ℕ) (d : NodeOrigin) (r : Option Origin) →
    ((k : ℕ) (n : NodeOrigin) → slice_get nodes k ≡ Some n → IsSome (point_origin spots n)) → k < length nodes →
    r ≡ point_origin spots (slice_index_or nodes k d) → r ≡ None → ⊥
not_missing spots nodes k d r all less is none =
    let there : slice_get nodes k ≡ Some (slice_index_or nodes k d) = slice_get-get_or nodes k d less in
    let some : IsSome (point_origin spots (slice_index_or nodes k d)) = all k (slice_index_or nodes k d) there in
    let missing : point_origin spots (slice_index_or nodes k d) ≡ None = sym is ∙ none in
    cc
