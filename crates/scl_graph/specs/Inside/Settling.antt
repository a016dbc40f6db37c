-- Where gotos lead through labels and gotos alone: each label is a place, at which stands a node, or a goto to a place.
use Rattle.std.specs.Prelude.{ℕ, zero, suc, ◌≡◌, ◌≤◌, Option, Some, None, List, [], ◌∷◌, map, length, get_or, slice_get, option_and_then, nat_lt}
use Rattle.std.specs.Prelude.{if◌then◌else◌, ⊤}
use Rattle.std.specs.BTreeMap.{BTreeMap, get}
use Rattle.std.specs.Cmp.Lexicographic.{slice_cmp}
use Rattle.std.specs.Map.{keys_of}
use Rattle.std.specs.Option.{ForSome}
use Rattle.std.specs.Ordering.{nat_cmp}
use Rattle.scl_graph.specs.declared.hops.Hop.{Hop}
use Rattle.scl_graph.specs.declared.hops.Hop.TheVariants as hop
use Rattle.scl_graph.specs.declared.landing.Landing.{Landing}
use Rattle.scl_graph.specs.declared.landing.Landing.TheVariants as lands
use Rattle.scl_graph.specs.Inside.Gathering.{Noted, place_of}

-- in a table of labels, where one was made, stands the place of each
pub record ArePlaces (labels : Noted) (table : Option (BTreeMap (List ℕ) ℕ)) : Type 0 where
  pub each : ForSome table (λ t. (name : List ℕ) → get (slice_cmp nat_cmp) t name ≡ place_of labels name)

-- a goto leads to the place of its label, and to node 0 where there is no such label
abbrev pub hop_to : ℕ → Option ℕ → Hop
hop_to g (Some p) = hop.Goto g p
hop_to g None = hop.Node 0

abbrev pub hop_of : Noted → Landing → Hop
hop_of labels (lands.Node n) = hop.Node n
hop_of labels (lands.Goto g name) = hop_to g (place_of labels name)

-- what stands behind each label
abbrev pub hops_of : Noted → List Hop
hops_of labels = map (λ e. hop_of labels e.1) labels

-- what stands at a place
abbrev pub at_place : List Hop → ℕ → Hop
at_place hops p = get_or hops p (hop.Node 0)

-- what stands behind so many gotos
abbrev pub onward : List Hop → ℕ → Hop → Hop
onward hops zero h = h
onward hops (suc m) (hop.Node n) = hop.Node n
onward hops (suc m) (hop.Goto g p) = onward hops m (at_place hops p)

-- what stands behind a goto, in a table of what stands behind so many gotos from each place
abbrev pub further : List Hop → Hop → Hop
further table (hop.Node n) = hop.Node n
further table (hop.Goto g p) = at_place table p

-- nodes alone stand here
abbrev pub AreNodes : List Hop → Type 0
AreNodes [] = ⊤
AreNodes (hop.Node n ∷ hops) = AreNodes hops
AreNodes (hop.Goto g p ∷ hops) = ⊥

-- in the table stands, for each place, what stands behind at least as many gotos as there are places
pub record IsSettled (hops table : List Hop) : Type 0 where
  pub gotos : ℕ
  pub enough : length hops ≤ gotos
  pub each : table ≡ map (onward hops gotos) hops

-- the goto with the least number, and the place to which it leads: of this one, and of those in a list
abbrev pub Best : Type 0
Best = Option (ℕ × ℕ)

abbrev pub better : Best → ℕ → ℕ → Best
better None g p = Some (g, p)
better (Some b) g p = if nat_lt g b.0 then Some (g, p) else Some b

abbrev pub better_of : Best → Hop → Best
better_of best (hop.Node n) = best
better_of best (hop.Goto g p) = better best g p

abbrev pub least : Best → List Hop → Best
least best [] = best
least best (h ∷ hops) = least (better_of best h) hops

-- the label of a place
abbrev pub name_at : Noted → ℕ → Option (List ℕ)
name_at labels p = slice_get (keys_of labels) p

-- the label of the goto with the least number
abbrev pub least_name : Noted → List Hop → Option (List ℕ)
least_name labels table = option_and_then (λ b. name_at labels b.1) (least None table)

-- the node behind a goto to this label
abbrev pub node_at : Hop → ℕ
node_at (hop.Node n) = n
node_at (hop.Goto g p) = 0

abbrev pub node_behind : Noted → List Hop → List ℕ → ℕ
node_behind labels table name = node_at (further table (hop_to 0 (place_of labels name)))
