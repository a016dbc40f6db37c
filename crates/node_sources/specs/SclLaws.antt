-- What the origins of the nodes of an SCL text's program tell: each node does what stands at the point that the origins of the
-- graph tell, a statement or the end of a thread, and at the place of its origin stands the token that begins this point.
use Rattle.std.specs.Prelude.{ℕ, ◌≡◌, Some, List, map, length, slice_get}
use Rattle.sc_graph.specs.declared.program.Node.{Node}
use Rattle.sc_graph.specs.Program.{Program}
use Rattle.sc_text.specs.declared.language.Language.TheVariants as language
use Rattle.sc_text.specs.declared.token.Token.{Token}
use Rattle.sc_text.specs.declared.token.TokenKind.{TokenKind}
use Rattle.sc_text.specs.declared.token.TokenKind.TheVariants as token
use Rattle.sc_text.specs.declared.word.Word.{Word}
use Rattle.sc_text.specs.declared.word.Word.TheVariants as word
use Rattle.sc_text.specs.Tokens.{AreTokens}
use Rattle.sc_text.specs.Resolved.{number_of}
use Rattle.scl.specs.declared.program.Scl.{Scl}
use Rattle.node_elements.specs.declared.graph.origin.NodeOrigin.{NodeOrigin}
use Rattle.node_elements.specs.declared.graph.origin.NodeOrigin.TheVariants as node
use Rattle.node_elements.specs.GraphLaws.{IsDone}
use Rattle.node_elements.specs.GraphOrigins.{node_origins}
use Rattle.node_elements.specs.Points.{Point, Assigns, Marks, Jumps, Pauses, Tests, Forks, Ends, text_points}
use Rattle.node_sources.specs.declared.origin.Origin.{Origin}
use Rattle.node_sources.specs.Sources.{SclSources}

-- a token of this kind stands at this place of the text
pub record TokenStands (text : List ℕ) (k : TokenKind) (at : ℕ) : Type 0 where
  pub tokens : List Token
  pub cut : AreTokens language.Scl 0 text tokens
  pub index : ℕ
  pub stands : slice_get tokens index ≡ Some (record { kind = k; at = at })

abbrev pub NameStands : List ℕ → List ℕ → ℕ → Type 0
NameStands text name at = TokenStands text (token.Name name) at

abbrev pub WordStands : List ℕ → Word → ℕ → Type 0
WordStands text w at = TokenStands text (token.Word w) at

-- a name, by which the variable of this number is called
pub record VariableStands (text : List ℕ) (names : List (List ℕ)) (x at : ℕ) : Type 0 where
  pub name : List ℕ
  pub called : x ≡ number_of names name
  pub stands : NameStands text name at

-- the words that open a thread: the first one, the first branch of a fork, and each further branch
pub data OpensThread : Word → Type 0 where
  opens_text : OpensThread word.Scl
  opens_fork : OpensThread word.Fork
  opens_branch : OpensThread word.Par

pub record OpeningStands (text : List ℕ) (at : ℕ) : Type 0 where
  pub opening : Word
  pub opens : OpensThread opening
  pub stands : WordStands text opening at

-- the token that begins a point, over variables of these names
abbrev pub PointStands : (text : List ℕ) (names : List (List ℕ)) → Point → ℕ → Type 0
PointStands text names (Assigns x e) at = VariableStands text names x at
PointStands text names (Marks name) at = NameStands text name at
PointStands text names (Jumps name) at = NameStands text name at
PointStands text names Pauses at = WordStands text word.Pause at
PointStands text names (Tests e) at = WordStands text word.If at
PointStands text names Forks at = WordStands text word.Fork at
PointStands text names Ends at = OpeningStands text at

-- that of the second node of a point
abbrev pub SecondStands : (text : List ℕ) → Point → ℕ → Type 0
SecondStands text Pauses at = WordStands text word.Pause at
SecondStands text Forks at = WordStands text word.Join at
SecondStands text other at = ⊥

-- the point of this number is there, and so is its token
abbrev pub OriginStands : (text : List ℕ) (names : List (List ℕ)) (points : List Point) → NodeOrigin → ℕ → Type 0
OriginStands text names points (node.First n) at = (p : Point) × (slice_get points n ≡ Some p) × PointStands text names p at
OriginStands text names points (node.Second n) at = (p : Point) × (slice_get points n ≡ Some p) × SecondStands text p at

-- of the node of this number
pub record NodeTold (text : List ℕ) (scl : Scl) (k : ℕ) (n : Node) (o : Origin) : Type 0 where
  pub from : NodeOrigin
  pub found : slice_get (node_origins scl.body) k ≡ Some from
  pub does : IsDone (text_points scl.body) from n.step
  pub stands : OriginStands text (map (λ x. x.name) scl.variables) (text_points scl.body) from o.at

pub record TellsSources (text : List ℕ) (scl : Scl) (p : Program) (origins : List Origin) : Type 0 where
  pub each : length origins ≡ length p.nodes
  pub told : (k : ℕ) (n : Node) (o : Origin) → slice_get p.nodes k ≡ Some n → slice_get origins k ≡ Some o → NodeTold text scl k n o

abbrev pub SourcesTellScl : Type 0
SourcesTellScl = (text : List ℕ) (p : Program) (origins : List Origin) (s : SclSources text p origins) → TellsSources text s.scl p origins
