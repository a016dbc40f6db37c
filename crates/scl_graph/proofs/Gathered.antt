-- What a thread gathers of the labels of its text, statement by statement.
use Rattle.std.proofs.Common.{◌≡◌, ℕ, ◌+◌, ◌≤◌, Bool, true, false, Option, Some, None, List, [], ◌∷◌, map, if◌then◌else◌, refl, ap, sym, subst}
use Rattle.std.proofs.Common.{◌∙◌, arith}
use Rattle.std.proofs.lemmas.Option.{none-some}
use Rattle.std.specs.Option.{option_or}
use Rattle.std.specs.Str.{bytes_eq}
use Rattle.sc_values.specs.declared.expression.Expr.{Expr}
use Rattle.scl.specs.declared.statement.Statement.{Statement}
use Rattle.scl.specs.declared.statement.Statement.TheOpen.{Statement-F}
use Rattle.scl.specs.declared.statement.Statement.TheOpen as tree
use Rattle.scl.specs.declared.statement.Statement.TheVariants as variant
use Rattle.scl.specs.declared.statement.Statement.TheViews.{out-Statement}
use Rattle.scl.specs.declared.statement.Statement.TheFolds.{fold_out-Statement, map-Statement}
use Rattle.scl.specs.Block.{Block, End, Assign, Label, Goto, Pause, If, Fork}
use Rattle.scl.specs.Labels.{before}
use Rattle.scl.specs.Numbering.{Piece, piece, piece_of, in_row, beyond}
use Rattle.scl.proofs.Sums.{total_before}
use Rattle.scl_graph.specs.declared.landing.Landing.{Landing}
use Rattle.scl_graph.specs.declared.landing.Landing.TheVariants as lands
use Rattle.scl_graph.specs.declared.numbers_ahead.NumbersAhead.{NumbersAhead}
use Rattle.scl_graph.specs.declared.totals.Totals.{Totals}
use Rattle.scl_graph.specs.Inside.Totals.{after, numbers, past, totals, totals_of, totals_of_all}
use Rattle.scl_graph.specs.Inside.Gathering.{AreWithin, Gathers, IsGathered, IsWithin, Noted, Notes}
use Rattle.scl_graph.specs.Inside.Gathering.{branches, find, landing, landing_at, landing_behind, landing_in}
use Rattle.scl_graph.specs.Inside.Gathering.{own_count, own_counted, own_label, text}
use Rattle.scl_graph.proofs.Before.{made_before}
use Rattle.scl_graph.proofs.Pieces.{piece_of_assign, piece_of_label, piece_of_goto, piece_of_pause, piece_of_if, piece_of_fork}

pub or_assoc : {T : Type 0} (a b c : Option T) → option_or (option_or a b) c ≡ option_or a (option_or b c)
or_assoc None b c = refl
or_assoc (Some x) b c = refl

pub or_none : {T : Type 0} (a : Option T) → option_or a None ≡ a
or_none None = refl
or_none (Some x) = refl

pub landing_before : (b k : Block) (behind : Landing) → landing (before b k) behind ≡ landing b (landing k behind)
landing_before (End n) k behind = refl
landing_before (Assign n x e rest) k behind = refl
landing_before (Label name rest) k behind = landing_before rest k behind
landing_before (Goto g name rest) k behind = refl
landing_before (Pause n rest) k behind = refl
landing_before (If n e first second rest) k behind = refl
landing_before (Fork n branches rest) k behind = refl

picked : {T : Type 0} (test : Bool) (v w : T) (l m n : Option T) → v ≡ w → l ≡ option_or m n → (if test then Some v else l)
    ≡ option_or (if test then Some w else m) n
picked true v w l m n is rest = ap Some is
picked false v w l m n is rest = rest

pub three : {T : Type 0} (a b c d : Option T) → option_or a (option_or b (option_or c d)) ≡ option_or (option_or a (option_or b c)) d
three a b c d = sym (or_assoc a (option_or b c) d ∙ ap (option_or a) (or_assoc b c d))

pub own_label_before : (b k : Block) (behind : Landing) (name : List ℕ) → own_label (before b k) behind name
    ≡ option_or (own_label b (landing k behind) name) (own_label k behind name)
own_label_before (End n) k behind name = refl
own_label_before (Assign n x e rest) k behind name = own_label_before rest k behind name
own_label_before (Label l rest) k behind name =
    picked (bytes_eq l name) (landing (before rest k) behind) (landing rest (landing k behind)) (own_label (before rest k) behind name)
    (own_label rest (landing k behind) name) (own_label k behind name)
    (landing_before rest k behind) (own_label_before rest k behind name)
own_label_before (Goto g l rest) k behind name = own_label_before rest k behind name
own_label_before (Pause n rest) k behind name = own_label_before rest k behind name
own_label_before (If n e first second rest) k behind name =
    let inner : Landing = landing rest (landing k behind) in
    ap (λ w. option_or (own_label first w name) (option_or (own_label second w name) (own_label (before rest k) behind name))) (landing_before rest k behind)
    ∙ ap (λ r. option_or (own_label first inner name) (option_or (own_label second inner name) r)) (own_label_before rest k behind name)
    ∙ three (own_label first inner name) (own_label second inner name) (own_label rest (landing k behind) name) (own_label k behind name)
own_label_before (Fork n branches rest) k behind name = own_label_before rest k behind name

pub own_count_before : (b k : Block) → own_count (before b k) ≡ own_count b + own_count k
own_count_before =
    total_before own_counted
    (record { nothing = λ n. omega arith; three = λ n m o. omega arith; label = λ name n m. omega arith; fork = λ below n m. refl })

-- what stands at a text
lands_at : (y : Statement-F Statement) (rest : List Statement) (at : NumbersAhead) (behind : Landing)
    → ((m : NumbersAhead) → m.node ≡ at.node → m.goto ≡ at.goto → landing (text rest m) behind ≡ landing_in rest at.node at.goto behind)
    → landing (let p : Piece = piece (map-Statement Statement Piece piece_of y) in
    p.made (numbers at) ((in_row (map piece_of rest)).made (beyond (numbers at) p.counts) (End 0))) behind
    ≡ landing_at y at.node at.goto (landing_in rest at.node at.goto behind)
lands_at (tree.Assign x e) rest at behind h = refl
lands_at (tree.Label name) rest at behind h =
    h (record { node = at.node + 0; thread = at.thread + 0; base = at.base + 0; goto = at.goto + 0 }) (omega arith) (omega arith)
lands_at (tree.Goto name) rest at behind h = refl
lands_at tree.Pause rest at behind h = refl
lands_at (tree.If e a b) rest at behind h = refl
lands_at (tree.Fork branches) rest at behind h = refl

pub lands_in : (statements : List Statement) (at : NumbersAhead) (behind : Landing) (n g : ℕ) → at.node ≡ n → at.goto ≡ g → landing (text statements at) behind
    ≡ landing_in statements n g behind
lands_in [] at behind n g same equal = refl
lands_in (s ∷ rest) at behind n g same equal =
    let Lands : Piece → Type 0 = λ p. landing (p.made (numbers at) ((in_row (map piece_of rest)).made (beyond (numbers at) p.counts) (End 0))) behind
    ≡ landing_at (out-Statement s) at.node at.goto (landing_in rest at.node at.goto behind) in
    subst Lands (sym (fold_out-Statement Piece piece s)) (lands_at (out-Statement s) rest at behind (λ m h k. lands_in rest m behind at.node at.goto h k))
    ∙ ap (λ m. landing_at (out-Statement s) m at.goto (landing_in rest m at.goto behind)) same
    ∙ ap (λ m. landing_at (out-Statement s) n m (landing_in rest n m behind)) equal

-- what stands behind a statement
behind_at : (y : Statement-F Statement) (rest : List Statement) (here : NumbersAhead) (ahead behind : Landing)
    → ahead ≡ landing_at y here.node here.goto (landing_in rest here.node here.goto behind)
    → landing_behind y rest (past here (totals (piece (map-Statement Statement Piece piece_of y)).counts)) ahead behind
    ≡ landing_in rest (past here (totals (piece (map-Statement Statement Piece piece_of y)).counts)).node
    (past here (totals (piece (map-Statement Statement Piece piece_of y)).counts)).goto behind
behind_at (tree.Assign x e) rest here ahead behind is = refl
behind_at (tree.Label name) rest here ahead behind is =
    let node : here.node ≡ here.node + 0 = omega arith in
    let goto : here.goto ≡ here.goto + 0 = omega arith in
    is ∙ ap (λ m. landing_in rest m here.goto behind) node ∙ ap (λ m. landing_in rest (here.node + 0) m behind) goto
behind_at (tree.Goto name) rest here ahead behind is = refl
behind_at tree.Pause rest here ahead behind is = refl
behind_at (tree.If e a b) rest here ahead behind is = refl
behind_at (tree.Fork branches) rest here ahead behind is = refl

pub lands_behind : (s : Statement) (rest : List Statement) (here : NumbersAhead) (ahead behind : Landing) →
    ahead ≡ landing_in (s ∷ rest) here.node here.goto behind
    → landing_behind (out-Statement s) rest (past here (totals_of s)) ahead behind
    ≡ landing_in rest (past here (totals_of s)).node (past here (totals_of s)).goto behind
lands_behind s rest here ahead behind is =
    let Lands : Piece → Type 0 = λ p. landing_behind (out-Statement s) rest (past here (totals p.counts)) ahead behind
    ≡ landing_in rest (past here (totals p.counts)).node (past here (totals p.counts)).goto behind in
    subst Lands (sym (fold_out-Statement Piece piece s)) (behind_at (out-Statement s) rest here ahead behind is)

-- nothing is gathered
pub nothing : (found : List ℕ → Option Landing) (last : ℕ) (behind : Landing) (labels : Noted) → ((name : List ℕ) → found name ≡ None)
    → Gathers found 0 last behind labels labels
nothing found last behind labels none =
    record {
      each = λ name. sym (ap (option_or (find labels name)) (none name) ∙ or_none (find labels name));
      most = omega arith;
      within = λ most low here old. old;
    }

-- first some, and then others
pub in_turn : (found first second : List ℕ → Option Landing) (whole count more last one two : ℕ) (behind between last_behind : Landing) (a b c : Noted)
    → ((name : List ℕ) → found name ≡ option_or (first name) (second name)) → whole ≡ count + more → one ≤ last → two ≤ last
    → ((most : ℕ) → last ≤ most → IsWithin most behind → IsWithin most between) → ((most : ℕ) → IsWithin most behind → IsWithin most last_behind)
    → Gathers first count one between a b → Gathers second more two last_behind b c → Gathers found whole last behind a c
in_turn found first second whole count more last one two behind between last_behind a b c split sum low high inner outer h k =
    let x : _ = h.most in
    let y : _ = k.most in
    record {
      each = λ name.
          k.each name
          ∙ ap (λ r. option_or r (second name)) (h.each name)
          ∙ or_assoc (find a name) (first name) (second name)
          ∙ ap (option_or (find a name)) (sym (split name));
      most = omega (arith, x, y, sum);
      within = λ most up here old. k.within most (omega (arith, high, up)) (outer most here) (h.within most (omega (arith, low, up)) (inner most up here) old);
    }

-- where a node stands in a landing; nothing of it is asked of a goto
abbrev node_of : Landing → ℕ
node_of (lands.Node n) = n
node_of (lands.Goto g name) = 0

pub node_within : (n most : ℕ) → n ≤ most → IsWithin most (lands.Node n)
node_within n most le m is = let same : n ≡ m = ap node_of is in omega (arith, le, same)

goto_within : (g : ℕ) (name : List ℕ) (most : ℕ) → IsWithin most (lands.Goto g name)
goto_within g name most m is = cc

at_within : (y : Statement-F Statement) (n g : ℕ) (w : Landing) (most : ℕ) → n ≤ most → IsWithin most w → IsWithin most (landing_at y n g w)
at_within (tree.Assign x e) n g w most le h = node_within n most le
at_within (tree.Label name) n g w most le h = h
at_within (tree.Goto name) n g w most le h = goto_within g name most
at_within tree.Pause n g w most le h = node_within n most le
at_within (tree.If e a b) n g w most le h = node_within n most le
at_within (tree.Fork branches) n g w most le h = node_within n most le

in_within : (statements : List Statement) (n g : ℕ) (w : Landing) (most : ℕ) → n ≤ most → IsWithin most w → IsWithin most (landing_in statements n g w)
in_within [] n g w most le h = h
in_within (s ∷ rest) n g w most le h = at_within (out-Statement s) n g (landing_in rest n g w) most le (in_within rest n g w most le h)

abbrev value : Landing → Option Landing → Landing
value other None = other
value other (Some w) = w

from_noted : (most : ℕ) (o : Option Landing) (test : Bool) (w v : Landing) → ((u : Landing) → o ≡ Some u → IsWithin most u) → IsWithin most w
    → option_or o (if test then Some w else None) ≡ Some v → IsWithin most v
from_noted most (Some u) test w v all here is = all v is
from_noted most None true w v all here is = subst (IsWithin most) (ap (value w) is) here
from_noted most None false w v all here is = absurd (none-some v is)

notes_within : (name : List ℕ) (w : Landing) (old new : Noted) → Notes name w old new → (most : ℕ) → IsWithin most w → AreWithin most old → AreWithin most new
notes_within name w old new h most here all other v found =
    from_noted most (find old other) (bytes_eq name other) w v (all other) here (sym (h.each other) ∙ found)

-- a statement by itself
by_own : (s : Statement) (at : NumbersAhead) (behind : Landing) (old new : Noted) (p : Piece) → piece_of s ≡ p
    → Gathers (own_label (p.made (numbers at) (End 0)) behind) (own_count (p.made (numbers at) (End 0))) (at.node + (p.counts.nodes + 0)) behind old new
    → IsGathered (s ∷ []) at behind old new
by_own s at behind old new p is h =
    let Of : Piece → Type 0 = λ q. Gathers (own_label (q.made (numbers at) (End 0)) behind) (own_count (q.made (numbers at) (End 0)))
    (at.node + (q.counts.nodes + 0)) behind old new in
    subst Of (sym is) h

pub gathered_assign : (s : Statement) (at : NumbersAhead) (behind : Landing) (labels : Noted) (x : ℕ) (e : Expr) → s ≡ variant.Assign x e
    → IsGathered (s ∷ []) at behind labels labels
gathered_assign s at behind labels x e is =
    by_own s at behind labels labels (piece (tree.Assign x e)) (ap piece_of is ∙ piece_of_assign x e)
    (nothing (own_label (Assign at.node x e (End 0)) behind) (at.node + (1 + 0)) behind labels (λ name. refl))

pub gathered_label : (s : Statement) (at : NumbersAhead) (behind : Landing) (old new : Noted) (name : List ℕ) → s ≡ variant.Label name →
    Notes name behind old new
    → IsGathered (s ∷ []) at behind old new
gathered_label s at behind old new name is h =
    let le : _ = h.count in
    by_own s at behind old new (piece (tree.Label name)) (ap piece_of is ∙ piece_of_label name)
    (record {
      each = h.each;
      most = omega (arith, le);
      within = λ most low here all. notes_within name behind old new h most here all;
    })

pub gathered_goto : (s : Statement) (at : NumbersAhead) (behind : Landing) (labels : Noted) (name : List ℕ) → s ≡ variant.Goto name
    → IsGathered (s ∷ []) at behind labels labels
gathered_goto s at behind labels name is =
    by_own s at behind labels labels (piece (tree.Goto name)) (ap piece_of is ∙ piece_of_goto name)
    (nothing (own_label (Goto at.goto name (End 0)) behind) (at.node + (0 + 0)) behind labels (λ name. refl))

pub gathered_pause : (s : Statement) (at : NumbersAhead) (behind : Landing) (labels : Noted) → s ≡ variant.Pause → IsGathered (s ∷ []) at behind labels labels
gathered_pause s at behind labels is =
    by_own s at behind labels labels (piece tree.Pause) (ap piece_of is ∙ piece_of_pause)
    (nothing (own_label (Pause at.node (End 0)) behind) (at.node + (2 + 0)) behind labels (λ name. refl))

pub gathered_fork : (s : Statement) (at : NumbersAhead) (behind : Landing) (labels : Noted) (bodies : List (List Statement)) → s ≡ variant.Fork bodies
    → IsGathered (s ∷ []) at behind labels labels
gathered_fork s at behind labels bodies is =
    let p : Piece = piece (tree.Fork (map (map piece_of) bodies)) in
    by_own s at behind labels labels p (ap piece_of is ∙ piece_of_fork bodies)
    (nothing (own_label (p.made (numbers at) (End 0)) behind) (at.node + (p.counts.nodes + 0)) behind labels (λ name. refl))

pub gathered_if : (s : Statement) (at : NumbersAhead) (behind : Landing) (x y z : Noted) (e : Expr) (a b : List Statement) → s ≡ variant.If e a b
    → IsGathered a (after 1 at) behind x y → IsGathered b (past (after 1 at) (totals_of_all a)) behind y z → IsGathered (s ∷ []) at behind x z
gathered_if s at behind x y z e a b is first second =
    let p : Piece = piece (tree.If e (map piece_of a) (map piece_of b)) in
    let further : NumbersAhead = past (after 1 at) (totals_of_all a) in
    let in_first : List ℕ → Option Landing = own_label (text a (after 1 at)) behind in
    let in_second : List ℕ → Option Landing = own_label (text b further) behind in
    let c : Totals = totals_of_all a in
    let d : Totals = totals_of_all b in
    by_own s at behind x z p (ap piece_of is ∙ piece_of_if e a b)
    (in_turn (own_label (p.made (numbers at) (End 0)) behind) in_first in_second (own_count (p.made (numbers at) (End 0))) (own_count (text a (after 1 at)))
    (own_count (text b further)) (at.node + (p.counts.nodes + 0)) (1 + at.node + c.nodes) (1 + at.node + c.nodes + d.nodes) behind behind behind x y z
    (λ name. ap (option_or (in_first name)) (or_none (in_second name))) (omega arith) (omega arith) (omega arith) (λ most low h. h) (λ most h. h) first second)

pub gathered_none : (at : NumbersAhead) (behind : Landing) (labels : Noted) → IsGathered [] at behind labels labels
gathered_none at behind labels = nothing (own_label (End 0) behind) (at.node + 0) behind labels (λ name. refl)

-- a statement, and then those behind it
pub gathered_more : (s : Statement) (rest : List Statement) (at : NumbersAhead) (behind : Landing) (a b c : Noted)
    → IsGathered (s ∷ []) at (landing_in rest (past at (totals_of s)).node (past at (totals_of s)).goto behind) a b
    → IsGathered rest (past at (totals_of s)) behind b c
    → IsGathered (s ∷ rest) at behind a c
gathered_more s rest at behind a b c one others =
    let next : NumbersAhead = past at (totals_of s) in
    let k : Block = text rest next in
    let f : Block = (piece_of s).made (numbers at) (End 0) in
    let w : Landing = landing_in rest next.node next.goto behind in
    let is : text (s ∷ rest) at ≡ before f k = made_before s (numbers at) k in
    let m : ℕ = (totals_of s).nodes in
    let n : ℕ = (totals_of_all rest).nodes in
    in_turn (own_label (text (s ∷ rest) at) behind) (own_label f w) (own_label k behind) (own_count (text (s ∷ rest) at)) (own_count f) (own_count k)
    (at.node + (m + n)) (at.node + (m + 0)) (at.node + m + n) behind w behind a b c
    (λ name.
    ap (λ r. own_label r behind name) is
    ∙ own_label_before f k behind name
    ∙ ap (λ u. option_or (own_label f u name) (own_label k behind name)) (lands_in rest next behind next.node next.goto refl refl))
    (ap own_count is ∙ own_count_before f k) (omega arith) (omega arith)
    (λ most low h. in_within rest next.node next.goto behind most (omega (arith, low)) h) (λ most h. h) one others
