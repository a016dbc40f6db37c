-- Which labels were gathered of a text, and what stands behind each of them, past other labels.
use Rattle.std.specs.Prelude.{ℕ, suc, ◌+◌, ◌≡◌, ◌≤◌, Option, Some, None, List, [], ◌∷◌, map, length, option_map, if◌then◌else◌}
use Rattle.std.specs.Option.{option_or}
use Rattle.std.specs.Map.{lookup}
use Rattle.std.specs.Str.{bytes_eq}
use Rattle.scl.specs.declared.statement.Statement.{Statement}
use Rattle.scl.specs.declared.statement.Statement.TheOpen.{Statement-F}
use Rattle.scl.specs.declared.statement.Statement.TheOpen as tree
use Rattle.scl.specs.declared.statement.Statement.TheViews.{out-Statement}
use Rattle.scl.specs.Block.{Block, End, Assign, Label, Goto, Pause, If, Fork, Branches}
use Rattle.scl.specs.Labels.{labels_counted}
use Rattle.scl.specs.Numbering.{in_row, piece_of, branches_from, thread_body}
use Rattle.scl.specs.Sums.{Sum, total, total_among}
use Rattle.scl_graph.specs.Graph.{end}
use Rattle.scl_graph.specs.declared.numbers_ahead.NumbersAhead.{NumbersAhead}
use Rattle.scl_graph.specs.Inside.Totals.{branches_totals, numbers, totals_of_all}
use Rattle.scl_graph.specs.declared.landing.Landing.{Landing}
use Rattle.scl_graph.specs.declared.landing.Landing.TheVariants as lands

-- what stands where this begins, behind which that stands
abbrev pub landing : Block → Landing → Landing
landing (End n) behind = behind
landing (Assign n x e rest) behind = lands.Node n
landing (Label name rest) behind = landing rest behind
landing (Goto g name rest) behind = lands.Goto g name
landing (Pause n rest) behind = lands.Node n
landing (If n e first second rest) behind = lands.Node n
landing (Fork n branches rest) behind = lands.Node n

-- what stands at a statement whose node, or goto, has this number
abbrev pub landing_at : Statement-F Statement → ℕ → ℕ → Landing → Landing
landing_at (tree.Label name) n g behind = behind
landing_at (tree.Goto name) n g behind = lands.Goto g name
landing_at other n g behind = lands.Node n

abbrev pub landing_in : List Statement → ℕ → ℕ → Landing → Landing
landing_in [] n g behind = behind
landing_in (s ∷ rest) n g behind = landing_at (out-Statement s) n g (landing_in rest n g behind)

-- what stands behind a statement, at which `ahead` stands: at the rest, whose first numbers are these
abbrev pub landing_behind : Statement-F Statement → List Statement → NumbersAhead → Landing → Landing → Landing
landing_behind (tree.Label name) rest next ahead behind = ahead
landing_behind other rest next ahead behind = landing_in rest next.node next.goto behind

abbrev pub Noted : Type 0
Noted = List (List ℕ × Landing)

abbrev pub find : Noted → List ℕ → Option Landing
find labels name = lookup (bytes_eq name) labels

-- the place of the first label of this name
abbrev pub place_of : Noted → List ℕ → Option ℕ
place_of [] name = None
place_of (e ∷ labels) name = if bytes_eq name e.0 then Some 0 else option_map suc (place_of labels name)

-- this label was noted behind the others
pub record Notes (name : List ℕ) (w : Landing) (old new : Noted) : Type 0 where
  pub each : (other : List ℕ) → find new other ≡ option_or (find old other) (if bytes_eq name other then Some w else None)
  pub count : length new ≤ suc (length old)

-- the label of this name in a thread itself, behind whose text that stands: what stands behind the label
abbrev pub own_label : Block → Landing → List ℕ → Option Landing
own_label (End n) behind name = None
own_label (Assign n x e rest) behind name = own_label rest behind name
own_label (Label l rest) behind name = if bytes_eq l name then Some (landing rest behind) else own_label rest behind name
own_label (Goto g l rest) behind name = own_label rest behind name
own_label (Pause n rest) behind name = own_label rest behind name
own_label (If n e first second rest) behind name =
    option_or (own_label first (landing rest behind) name)
    (option_or (own_label second (landing rest behind) name) (own_label rest behind name))
own_label (Fork n branches rest) behind name = own_label rest behind name

-- the same in the threads that are forked in a text
abbrev pub lower : List ℕ → Sum (Option Landing)
lower name =
    record {
      nothing = None;
      together = option_or;
      label = λ other found. found;
      fork = option_or;
      branch = λ t body found. option_or (own_label body (lands.Node (end body)) name) found;
    }

abbrev pub lower_label : Block → List ℕ → Option Landing
lower_label b name = total (lower name) b

abbrev pub label_among : Branches → List ℕ → Option Landing
label_among branches name = total_among (lower name) branches

-- in a thread and in those below it
abbrev pub thread_label : Block → List ℕ → Option Landing
thread_label body name = option_or (own_label body (lands.Node (end body)) name) (lower_label body name)

-- how many labels stand in a thread itself
abbrev pub own_counted : Sum ℕ
own_counted = record labels_counted { fork = λ below count. count }

abbrev pub own_count : Block → ℕ
own_count = total own_counted

-- how many stand in the threads that are forked in a text
abbrev pub lower_counted : Sum ℕ
lower_counted = record labels_counted { label = λ name count. count; branch = λ t body count. own_count body + count }

abbrev pub lower_count : Block → ℕ
lower_count = total lower_counted

abbrev pub count_among : Branches → ℕ
count_among = total_among lower_counted

-- no number of a node is above this
abbrev pub IsWithin : ℕ → Landing → Type 0
IsWithin most w = (n : ℕ) → w ≡ lands.Node n → n ≤ most

abbrev pub AreWithin : ℕ → Noted → Type 0
AreWithin most labels = (name : List ℕ) (w : Landing) → find labels name ≡ Some w → IsWithin most w

-- to the old ones these labels were added, of which there are so many; the numbers of nodes are at most the last one,
-- or that of what follows
pub record Gathers (found : List ℕ → Option Landing) (count last : ℕ) (behind : Landing) (old new : Noted) : Type 0 where
  pub each : (name : List ℕ) → find new name ≡ option_or (find old name) (found name)
  pub most : length new ≤ length old + count
  pub within : (most : ℕ) → last ≤ most → IsWithin most behind → AreWithin most old → AreWithin most new

abbrev pub text : List Statement → NumbersAhead → Block
text statements at = (in_row (map piece_of statements)).made (numbers at) (End 0)

-- the labels of a thread itself in these statements, behind which that stands
abbrev pub IsGathered : List Statement → NumbersAhead → Landing → Noted → Noted → Type 0
IsGathered statements at behind old new =
    Gathers (own_label (text statements at) behind) (own_count (text statements at)) (at.node + (totals_of_all statements).nodes) behind old new

-- the labels of the threads that are forked in these statements
abbrev pub AreForkedGathered : List Statement → NumbersAhead → Noted → Noted → Type 0
AreForkedGathered statements at old new =
    Gathers (lower_label (text statements at)) (lower_count (text statements at)) (at.base + (totals_of_all statements).lower) (lands.Node 0) old new

-- the labels of these branches and of the threads below them
abbrev pub branches : List (List Statement) → NumbersAhead → Branches
branches bodies at = branches_from (map (map piece_of) bodies) (numbers at)

abbrev pub AreBranchesGathered : List (List Statement) → NumbersAhead → Noted → Noted → Type 0
AreBranchesGathered bodies at old new =
    Gathers (label_among (branches bodies at)) (count_among (branches bodies at)) (at.base + (branches_totals bodies).lower) (lands.Node 0) old new

-- what a thread has to do whose text begins at this place
abbrev pub body : List Statement → NumbersAhead → Block
body statements at = thread_body (in_row (map piece_of statements)) at.node (numbers at)

-- the labels of this thread and of those below it
abbrev pub IsThreadGathered : List Statement → NumbersAhead → Noted → Noted → Type 0
IsThreadGathered statements at old new =
    Gathers (thread_label (body statements at)) (own_count (body statements at) + lower_count (body statements at)) (at.base + (totals_of_all statements).lower)
    (lands.Node 0) old new
