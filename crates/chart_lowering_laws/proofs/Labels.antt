-- The labels of texts, in their order. Those of a state's text begin with its own; a list of transitions has none.
use Rattle.std.proofs.Common.{◌≡◌, ℕ, Bool, true, false, if◌then◌else◌, Option, Some, None, List, [], ◌∷◌, ◌++◌, map, refl, ap, ◌∙◌}
use Rattle.sc_values.specs.declared.expression.Expr.{Expr}
use Rattle.core_charts.specs.declared.region.Effect.{Effect}
use Rattle.core_charts.specs.declared.region.Transition.{Transition}
use Rattle.scl.specs.declared.statement.Statement.{Statement}
use Rattle.scl.specs.declared.statement.Statement.TheVariants as statement
use Rattle.scl.specs.Rules.{Part, part_of}
use Rattle.scl.specs.Rules.{in_row as parts_in_row}
use Rattle.scl.specs.Block.{Block}
use Rattle.scl.specs.Numbering.{Numbers}
use Rattle.scl_graph_laws.proofs.Gathering.{text_gathers, no_labels}
use Rattle.scl_graph_laws.proofs.Searching.{own_labels}
use Rattle.chart_lowering.specs.declared.targets.Targets.{Targets}
use Rattle.chart_lowering.specs.Lowering.{RegionPiece, label, goto, label_name, label_at, assignment, taken, tested, transitions, depth, text_of, is_sure}
use Rattle.chart_lowering.specs.Lowering.{leaves_surely}
use Rattle.chart_lowering.proofs.Parts.{row, row_append, parts_are, part_of_label, part_of_goto, part_of_pause, part_of_assign, part_of_if, part_of_fork}
use Rattle.chart_lowering_laws.proofs.Texts.{made}

abbrev pub text_labels : List Statement → List (List ℕ)
text_labels statements = (row statements).labels

-- in a program they stand before those of what follows
pub own_made : (xs : List Statement) (at : Numbers) (k : Block) → own_labels (made xs at k) ≡ text_labels xs ++ own_labels k
own_made xs at k = (text_gathers xs).labels at k ∙ ap (λ ps. (parts_in_row ps).labels ++ own_labels k) (parts_are xs)

pub labels_append : (xs ys : List Statement) → text_labels (xs ++ ys) ≡ text_labels xs ++ text_labels ys
labels_append xs ys = ap (λ (p : Part). p.labels) (row_append xs ys)

-- each text of a state begins with its label
pub first_label : (b : Bool) (regions : List RegionPiece) (all : List Transition) (at : Targets) (n : ℕ) →
    (rest : List Statement) × (text_of b regions all at n ≡ label n ∷ rest)
first_label true regions all at n = (statement.Goto at.end ∷ [], refl)
first_label false [] all at n = (_, refl)
first_label false (r ∷ regions) all at n = (_, refl)

pub label_first : (n : ℕ) (rest : List Statement) → text_labels (label n ∷ rest) ≡ label_name n ∷ text_labels rest
label_first n rest = ap (λ (p : Part). p.labels ++ text_labels rest) (part_of_label (label_name n))

-- ---- texts without labels

goto_none : (name : List ℕ) → text_labels (statement.Goto name ∷ []) ≡ []
goto_none name = ap (λ (p : Part). p.labels ++ []) (part_of_goto name)

does_none : (name : List ℕ) (effects : List Effect) → text_labels (map assignment effects ++ statement.Goto name ∷ []) ≡ []
does_none name [] = goto_none name
does_none name (e ∷ effects) = ap (λ (p : Part). p.labels ++ text_labels (map assignment effects ++ statement.Goto name ∷ []))
    (part_of_assign e.variable e.value) ∙ does_none name effects

if_none : (e : Expr) (at : Targets) (t : Transition) (rest : List Statement) → text_labels (statement.If e (taken at t) [] ∷ rest) ≡ text_labels rest
if_none e at t rest =
    ap (λ (p : Part). p.labels ++ text_labels rest) (part_of_if e (taken at t) [])
    ∙ ap (λ xs. (xs ++ []) ++ text_labels rest) (does_none (label_at at t.target) t.effects)

tests_none : (at : Targets) (ts : List Transition) (rest : List Statement) → text_labels rest ≡ [] → text_labels (transitions at ts rest) ≡ []
tests_none at [] rest h = h
tests_none at (t ∷ ts) rest h = by t.trigger (tests_none at ts rest h)
  where
    by : (o : Option Expr) → text_labels (transitions at ts rest) ≡ [] → text_labels (tested o (taken at t) (transitions at ts rest)) ≡ []
    by None none = does_none (label_at at t.target) t.effects
    by (Some e) none = if_none e at t (transitions at ts rest) ∙ none

-- transitions that may all fail, and what follows them
pub tests_split : (at : Targets) (ts : List Transition) (rest : List Statement) → leaves_surely ts ≡ false →
    transitions at ts rest ≡ transitions at ts [] ++ rest
tests_split at [] rest stays = refl
tests_split at (t ∷ ts) rest stays = by t.trigger stays (tests_split at ts rest)
  where
    by : (o : Option Expr) → (if is_sure o then true else leaves_surely ts) ≡ false →
        (leaves_surely ts ≡ false → transitions at ts rest ≡ transitions at ts [] ++ rest) →
        tested o (taken at t) (transitions at ts rest) ≡ tested o (taken at t) (transitions at ts []) ++ rest
    by None stays more = absurd (cc)
    by (Some e) stays more = ap (λ xs. statement.If e (taken at t) [] ∷ xs) (more stays)

-- a label and transitions, a label and a fork
pub surface_labels : (at : Targets) (ts : List Transition) (n : ℕ) → text_labels (label n ∷ transitions at ts []) ≡ label_name n ∷ []
surface_labels at ts n = label_first n (transitions at ts []) ∙ ap (λ xs. label_name n ∷ xs) (tests_none at ts [] refl)

pub fork_labels : (bodies : List (List Statement)) (n : ℕ) → text_labels (label n ∷ statement.Fork bodies ∷ []) ≡ label_name n ∷ []
fork_labels bodies n =
    label_first n (statement.Fork bodies ∷ [])
    ∙ ap (λ xs. label_name n ∷ xs) (ap (λ (p : Part). p.labels ++ []) (part_of_fork bodies) ∙ ap (λ xs. xs ++ []) (no_labels (map (map part_of) bodies)))

-- behind a pause
pub behind_pause : (at : Targets) (all : List Transition) (n : ℕ) → text_labels (transitions at all (goto n ∷ [])) ≡ []
behind_pause at all n = tests_none at all (goto n ∷ []) (goto_none (label_name n))

pub depth_labels : (at : Targets) (all : List Transition) (n : ℕ) → text_labels (depth at all n) ≡ label_name n ∷ []
depth_labels at all n =
    let more : List Statement = transitions at all (goto n ∷ []) in
    label_first n (statement.Pause ∷ more)
    ∙ ap (λ xs. label_name n ∷ xs) (ap (λ (p : Part). p.labels ++ text_labels more) part_of_pause ∙ behind_pause at all n)
