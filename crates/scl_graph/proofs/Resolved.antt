-- The labels of a program are resolved, and with them its graph is laid.
use Rattle.std.proofs.Common.{◌≡◌, ℕ, zero, suc, ◌≤◌, Bool, true, false, Option, Some, None, List, [], ◌∷◌, ◌++◌, map, length, if◌then◌else◌, refl, ap}
use Rattle.std.proofs.Common.{sym, subst, ◌∙◌, arith}
use Rattle.std.specs.Prelude.{option_map, nat_le}
use Rattle.std.proofs.lemmas.Bool.Decides.{nat_tests}
use Rattle.std.proofs.lemmas.Option.{none-some}
use Rattle.sc_graph.specs.Limits.{count_limit}
use Rattle.sc_graph.specs.Program.{Program}
use Rattle.sc_graph.specs.declared.program.Node.{Node}
use Rattle.sc_graph.specs.declared.program.Thread.{Thread}
use Rattle.sc_graph.specs.declared.program.Variable.{Variable}
use Rattle.scl.specs.declared.program.Scl.{Scl}
use Rattle.scl.specs.declared.statement.Statement.{Statement}
use Rattle.scl.specs.Block.{Block}
use Rattle.scl.specs.Labels.{behind_label, label_count}
use Rattle.scl.specs.Numbering.{Numbered, in_row, numbered, numbered_body, piece_of, pieces_of}
use Rattle.scl_graph.specs.Answers.{FitsImage, IsGraph, counts_in}
use Rattle.scl_graph.specs.Counting.{counts_of_all}
use Rattle.scl_graph.specs.Graph.{below, forked, of_thread, program_by, program_of, target, thread}
use Rattle.scl_graph.specs.Loops.{HasNoEmptyLoop, IsFirstEmptyLoop}
use Rattle.scl_graph.specs.declared.hops.Hop.{Hop}
use Rattle.scl_graph.specs.declared.landing.Landing.{Landing}
use Rattle.scl_graph.specs.declared.landing.Landing.TheVariants as lands
use Rattle.scl_graph.specs.declared.numbers.NodeNumbers.{NodeNumbers}
use Rattle.scl_graph.specs.declared.way.Way.{Way}
use Rattle.scl_graph.specs.declared.way.Way.TheVariants as leads
use Rattle.scl_graph.specs.Inside.Laying.{HasRoom, text}
use Rattle.scl_graph.specs.Inside.Forking.{AreForkedLaid, IsThreadLaid, body}
use Rattle.scl_graph.specs.Inside.Gathering.{AreWithin, IsThreadGathered, IsWithin, Noted, find, place_of}
use Rattle.scl_graph.specs.Inside.Settling.{IsSettled, at_place, further, hop_of, hop_to, hops_of, least_name, node_at, node_behind, onward}
use Rattle.scl_graph.specs.Inside.Resolving.{FitsTotals, IsResolved, last_node, leads_by, numbered_of, root_of, small, small_start, start}
use Rattle.scl_graph.specs.Inside.Totals.{totals_of_all}
use Rattle.scl_graph.proofs.Branching.{below_body, forked_body}
use Rattle.scl_graph.proofs.Circling.{table_at}
use Rattle.scl_graph.proofs.Fronts.{all_labels, stands, thread_stands}
use Rattle.scl_graph.proofs.Leading.{StandsAt, first_loop, no_loop, node_reached, place_stands}

pub pieces_map : (statements : List Statement) → pieces_of statements ≡ map piece_of statements
pieces_map [] = refl
pieces_map (s ∷ statements) = ap (λ r. piece_of s ∷ r) (pieces_map statements)

numbered_is : (p : Scl) → numbered p ≡ numbered_of p.variables p.body
numbered_is p = ap (λ r. numbered_body p.variables (in_row r)) (pieces_map p.body)

root_is : (p : Scl) → (numbered p).root ≡ root_of p.body
root_is p = ap (λ n. n.root) (numbered_is p)

counts_are : (p : Scl) → counts_in p ≡ (in_row (map piece_of p.body)).counts
counts_are p = ap (λ r. (in_row r).counts) (pieces_map p.body)

-- what was gathered is what stands behind the labels
labels_stand : (statements : List Statement) (labels : Noted) → IsThreadGathered statements (start (totals_of_all statements)) [] labels → (name : List ℕ)
    → find labels name ≡ option_map stands (behind_label (root_of statements) name)
labels_stand statements labels h name = h.each name ∙ thread_stands (root_of statements) name

-- the node behind a label has a number of the program
within_onward : (labels : Noted) (most : ℕ) → AreWithin most labels → (m p : ℕ) (name : List ℕ) → place_of labels name ≡ Some p
    → node_at (onward (hops_of labels) m (at_place (hops_of labels) p)) ≤ most
within_onward labels most all zero p name place =
    let s : _ = place_stands labels name p place in
    subst (λ h. node_at h ≤ most) (sym s.hop) (by s s.landing refl)
  where
    gone : (g : ℕ) (o : Option ℕ) → node_at (hop_to g o) ≤ most
    gone g None = omega arith
    gone g (Some r) = omega arith

    by : (s : StandsAt labels name p) → (w : Landing) → s.landing ≡ w → node_at (hop_of labels w) ≤ most
    by s (lands.Node n) is = all name s.landing s.found n is
    by s (lands.Goto g last) is = gone g (place_of labels last)
within_onward labels most all (suc m) p name place =
    let s : _ = place_stands labels name p place in
    subst (λ h. node_at (onward (hops_of labels) (suc m) h) ≤ most) (sym s.hop) (by (λ r last e. within_onward labels most all m r last e) s s.landing refl)
  where
    through : ((r : ℕ) (last : List ℕ) → place_of labels last ≡ Some r → node_at (onward (hops_of labels) m (at_place (hops_of labels) r)) ≤ most)
        → (g : ℕ) (last : List ℕ) (o : Option ℕ) → place_of labels last ≡ o → node_at (onward (hops_of labels) (suc m) (hop_to g o)) ≤ most
    through others g last None e = omega arith
    through others g last (Some r) e = others r last e

    by : ((r : ℕ) (last : List ℕ) → place_of labels last ≡ Some r → node_at (onward (hops_of labels) m (at_place (hops_of labels) r)) ≤ most)
        → (s : StandsAt labels name p) → (w : Landing) → s.landing ≡ w → node_at (onward (hops_of labels) (suc m) (hop_of labels w)) ≤ most
    by others s (lands.Node n) is = all name s.landing s.found n is
    by others s (lands.Goto g last) is = through others g last (place_of labels last) refl

node_small : (labels : Noted) (table : List Hop) (most : ℕ) → AreWithin most labels → IsSettled (hops_of labels) table → (name : List ℕ)
    → node_behind labels table name ≤ most
node_small labels table most all t name = by (place_of labels name) refl
  where
    by : (o : Option ℕ) → place_of labels name ≡ o → node_at (further table (hop_to 0 o)) ≤ most
    by None e = omega arith
    by (Some p) e =
        subst (λ h. node_at h ≤ most) (sym (ap (λ u. at_place u p) t.each ∙ table_at (hops_of labels) t.gotos p))
        (within_onward labels most all t.gotos p name e)

small_is : (n : ℕ) → n ≤ count_limit → small n ≡ n
small_is n le = by (nat_le n count_limit) refl
  where
    by : (test : Bool) → nat_le n count_limit ≡ test → (if test then n else 0) ≡ n
    by true e = refl
    by false e = absurd (grind (arith, nat_tests, e, le))

none_within : (most : ℕ) → AreWithin most []
none_within most name w found = absurd (none-some w found)

abbrev number_of : Landing → ℕ
number_of (lands.Node n) = n
number_of (lands.Goto g name) = 0

zero_within : (most : ℕ) → IsWithin most (lands.Node 0)
zero_within most n is = let same : 0 ≡ n = ap number_of is in omega (arith, same)

pub resolved_ok : (statements : List Statement) (labels : Noted) (table : List Hop) → IsThreadGathered statements (start (totals_of_all statements)) [] labels
    → IsSettled (hops_of labels) table → least_name labels table ≡ None → IsResolved statements (last_node (totals_of_all statements)) labels table
resolved_ok statements labels table h t none =
    let root : Block = root_of statements in
    let same : (name : List ℕ) → find labels name ≡ option_map stands (behind_label root name) = labels_stand statements labels h in
    let free : HasNoEmptyLoop root = no_loop root labels same table t none in
    let all : _ = all_labels root in
    let count : length labels ≤ label_count root = omega (arith, h.most, all) in
    record {
      no_loop = free;
      leads = λ le w. by same free count le w;
    }
  where
    by : ((name : List ℕ) → find labels name ≡ option_map stands (behind_label (root_of statements) name)) → HasNoEmptyLoop (root_of statements)
        → length labels ≤ label_count (root_of statements)
        → last_node (totals_of_all statements) ≤ count_limit → (w : Way) → leads_by labels table w ≡ target (root_of statements) w
    by same free count le (leads.At n) = refl
    by same free count le (leads.Jumps name) =
        let within : AreWithin count_limit labels = h.within count_limit le (zero_within count_limit) (none_within count_limit) in
        small_is (node_behind labels table name) (node_small labels table count_limit within t name)
        ∙ node_reached (root_of statements) labels same table t free count name

pub unresolved : (statements : List Statement) (labels : Noted) (table : List Hop) (name : List ℕ)
    → IsThreadGathered statements (start (totals_of_all statements)) [] labels
    → IsSettled (hops_of labels) table → least_name labels table ≡ Some name → IsFirstEmptyLoop (root_of statements) name
unresolved statements labels table name h t found = first_loop (root_of statements) labels (labels_stand statements labels h) table t name found

-- the threads and nodes that were laid are those of the program
pub program_laid : (f : Way → ℕ) (variables : List Variable) (statements : List Statement) (at : NodeNumbers) (ts us : List Thread) (ns ms : List Node)
    → at ≡ small_start (counts_of_all statements)
    → IsThreadLaid f None 0 statements at [] ts [] ns → AreForkedLaid f 0 statements at ts us ns ms
    → record { variables = variables; threads = us; nodes = ms } ≡ program_by f (numbered_of variables statements)
program_laid f variables statements at ts us ns ms is own lower =
    let m : NodeNumbers = small_start (counts_of_all statements) in
    let Own : NodeNumbers → Type 0 = λ n. IsThreadLaid f None 0 statements n [] ts [] ns in
    let Lower : NodeNumbers → Type 0 = λ n. AreForkedLaid f 0 statements n ts us ns ms in
    let first : IsThreadLaid f None 0 statements m [] ts [] ns = subst Own is own in
    let others : AreForkedLaid f 0 statements m ts us ns ms = subst Lower is lower in
    let root : Block = body statements m 0 in
    let threads : us ≡ thread f None root ∷ forked f 0 root =
    others.threads 0 ∙ ap (λ r. r ++ forked f 0 (text statements m 0)) (first.threads 0)
    ∙ ap (λ r. thread f None root ∷ r) (sym (forked_body f 0 statements m 0)) in
    let nodes : ms ≡ of_thread f 0 root ++ below f root =
    others.nodes 0 ∙ ap (λ r. r ++ below f (text statements m 0)) (first.nodes 0) ∙ ap (λ r. of_thread f 0 root ++ r) (sym (below_body f statements m 0)) in
    ap (λ r. record { variables = variables; threads = r; nodes = ms }) threads
    ∙ ap (λ r. record { variables = variables; threads = thread f None root ∷ forked f 0 root; nodes = r }) nodes

pub graph_is : (p : Scl) (labels : Noted) (table : List Hop) (q : Program) → IsResolved p.body (last_node (totals_of_all p.body)) labels table
    → FitsTotals (totals_of_all p.body)
    → q ≡ program_by (leads_by labels table) (numbered_of p.variables p.body) → IsGraph p q
graph_is p labels table q r fits laid =
    let n : Numbered = numbered_of p.variables p.body in
    let le : last_node (totals_of_all p.body) ≤ count_limit = omega (arith, fits.nodes) in
    let ways : leads_by labels table ≡ target (root_of p.body) = λ j w. r.leads le w j in
    record {
      no_loop = subst HasNoEmptyLoop (sym (root_is p)) r.no_loop;
      fits = subst FitsImage (sym (counts_are p)) (record { nodes = fits.nodes; threads = fits.threads });
      is = laid ∙ ap (λ f. program_by f n) ways ∙ ap program_of (sym (numbered_is p));
    }

pub empty_loop_is : (p : Scl) (name : List ℕ) → IsFirstEmptyLoop (root_of p.body) name → IsFirstEmptyLoop (numbered p).root name
empty_loop_is p name h = subst (λ root. IsFirstEmptyLoop root name) (sym (root_is p)) h

pub limit_is : (p : Scl) → HasNoEmptyLoop (root_of p.body) → ¬ FitsTotals (totals_of_all p.body) → HasNoEmptyLoop (numbered p).root × ¬ FitsImage (counts_in p)
limit_is p free too_many = (
  subst HasNoEmptyLoop (sym (root_is p)) free,
  λ fits. let h : FitsImage (in_row (map piece_of p.body)).counts = subst FitsImage (counts_are p) fits in
      too_many (record { nodes = h.nodes; threads = h.threads }),
)
