-- What was gathered of a program's labels is what the meaning of SCL says of them.
use Rattle.std.proofs.Common.{◌≡◌, ℕ, ◌+◌, Bool, true, false, Option, Some, None, List, if◌then◌else◌, refl, ap, sym, ◌∙◌, arith}
use Rattle.std.specs.Prelude.{option_map}
use Rattle.std.specs.Option.{option_or}
use Rattle.std.specs.Str.{bytes_eq}
use Rattle.std.proofs.lemmas.Option.{none-some}
use Rattle.scl.specs.Block.{Block, End, Assign, Label, Goto, Pause, If, Fork, Branches, NoMore, Branch}
use Rattle.scl.specs.Labels.{Front, Begins, Jumps, before, behind_label, behind_lower, behind_lower_label, behind_own_label, front, label_count}
use Rattle.scl.specs.Labels.{label_count_among, or_else}
use Rattle.scl.proofs.Sums.{totals_related}
use Rattle.scl_graph.specs.Graph.{end, number}
use Rattle.scl_graph.specs.declared.landing.Landing.{Landing}
use Rattle.scl_graph.specs.declared.landing.Landing.TheVariants as lands
use Rattle.scl_graph.specs.Inside.Gathering.{count_among, landing, lower, lower_count, lower_label, own_count, own_label, thread_label}
use Rattle.scl_graph.proofs.Gathered.{landing_before}
use Rattle.scl_graph.proofs.Before.{end_before}

-- what stands where this begins, up to the end of its thread
abbrev pub stands : Block → Landing
stands k = landing k (lands.Node (end k))

abbrev pub lands_of : Front → Landing
lands_of (Jumps g name) = lands.Goto g name
lands_of (Begins todo) = lands.Node (number (Some todo))

pub stands_front : (k : Block) → stands k ≡ lands_of (front k)
stands_front (End n) = refl
stands_front (Assign n x e rest) = refl
stands_front (Label name rest) = stands_front rest
stands_front (Goto g name rest) = refl
stands_front (Pause n rest) = refl
stands_front (If n e first second rest) = refl
stands_front (Fork n branches rest) = refl

abbrev block_of : Block → Option Block → Block
block_of other None = other
block_of other (Some k) = k

pub same_block : (a k : Block) → Some a ≡ Some k → a ≡ k
same_block a k is = ap (block_of a) is

pub own_end : (b : Block) (name : List ℕ) (k : Block) → behind_own_label b name ≡ Some k → end k ≡ end b
own_end (End n) name k is = absurd (none-some k is)
own_end (Assign n x e rest) name k is = own_end rest name k is
own_end (Label l rest) name k is = by (own_end rest name k) (bytes_eq l name) is
  where
    by : (behind_own_label rest name ≡ Some k → end k ≡ end rest) → (test : Bool) → (if test then Some rest else behind_own_label rest name) ≡ Some k
        → end k ≡ end rest
    by others true found = ap end (sym (same_block rest k found))
    by others false found = others found
own_end (Goto g l rest) name k is = own_end rest name k is
own_end (Pause n rest) name k is = own_end rest name k is
own_end (If n e first second rest) name k is = by (own_end rest name k) (behind_own_label first name) (behind_own_label second name) is
  where
    by : (behind_own_label rest name ≡ Some k → end k ≡ end rest) → (a b : Option Block)
        → or_else (option_map (λ l. before l rest) a) (or_else (option_map (λ l. before l rest) b) (behind_own_label rest name)) ≡ Some k → end k ≡ end rest
    by others (Some l) b found = ap end (sym (same_block (before l rest) k found)) ∙ end_before l rest
    by others None (Some l) found = ap end (sym (same_block (before l rest) k found)) ∙ end_before l rest
    by others None None found = others found
own_end (Fork n branches rest) name k is = own_end rest name k is

map_or : {T : Type 0} (f : Block → T) (a b : Option Block) → option_map f (or_else a b) ≡ option_or (option_map f a) (option_map f b)
map_or f None b = refl
map_or f (Some k) b = refl

in_list : (a : Option Block) (rest : Block) (behind : Landing) → option_map (λ k. landing k behind) (option_map (λ k. before k rest) a)
    ≡ option_map (λ k. landing k (landing rest behind)) a
in_list None rest behind = refl
in_list (Some k) rest behind = ap Some (landing_before k rest behind)

own_is : (b : Block) (behind : Landing) (name : List ℕ) → own_label b behind name ≡ option_map (λ k. landing k behind) (behind_own_label b name)
own_is (End n) behind name = refl
own_is (Assign n x e rest) behind name = own_is rest behind name
own_is (Label l rest) behind name = by (own_is rest behind name) (bytes_eq l name)
  where
    by : own_label rest behind name ≡ option_map (λ k. landing k behind) (behind_own_label rest name) → (test : Bool)
        → (if test then Some (landing rest behind) else own_label rest behind name)
        ≡ option_map (λ k. landing k behind) (if test then Some rest else behind_own_label rest name)
    by others true = refl
    by others false = others
own_is (Goto g l rest) behind name = own_is rest behind name
own_is (Pause n rest) behind name = own_is rest behind name
own_is (If n e first second rest) behind name =
    let f : Block → Landing = λ k. landing k behind in
    let put : Block → Block = λ k. before k rest in
    let inner : Landing = landing rest behind in
    let a : Option Block = behind_own_label first name in
    let b : Option Block = behind_own_label second name in
    let c : Option Block = behind_own_label rest name in
    ap (λ r. option_or r (option_or (own_label second inner name) (own_label rest behind name))) (own_is first inner name ∙ sym (in_list a rest behind))
    ∙ ap (λ r. option_or (option_map f (option_map put a)) (option_or r (own_label rest behind name))) (own_is second inner name ∙ sym (in_list b rest behind))
    ∙ ap (λ r. option_or (option_map f (option_map put a)) (option_or (option_map f (option_map put b)) r)) (own_is rest behind name)
    ∙ ap (option_or (option_map f (option_map put a))) (sym (map_or f (option_map put b) c))
    ∙ sym (map_or f (option_map put a) (or_else (option_map put b) c))
own_is (Fork n branches rest) behind name = own_is rest behind name

alike : (o : Option Block) (f g : Block → Landing) → ((k : Block) → o ≡ Some k → f k ≡ g k) → option_map f o ≡ option_map g o
alike None f g same = refl
alike (Some k) f g same = ap Some (same k refl)

own_stands : (b : Block) (name : List ℕ) → own_label b (lands.Node (end b)) name ≡ option_map stands (behind_own_label b name)
own_stands b name =
    own_is b (lands.Node (end b)) name
    ∙ alike (behind_own_label b name) (λ k. landing k (lands.Node (end b))) stands
    (λ k found. ap (λ n. landing k (lands.Node n)) (sym (own_end b name k found)))

both_stand : (a b : Option Landing) (c d : Option Block) → a ≡ option_map stands c → b ≡ option_map stands d → option_or a b ≡ option_map stands (or_else c d)
both_stand a b c d h k = ap (λ r. option_or r b) h ∙ ap (option_or (option_map stands c)) k ∙ sym (map_or stands c d)

lower_stands : (b : Block) (name : List ℕ) → lower_label b name ≡ option_map stands (behind_lower_label b name)
lower_stands b name =
    totals_related (lower name) (behind_lower name)
    (record {
      nothing = refl;
      together = both_stand;
      label = λ other a c h. h;
      fork = both_stand;
      branch = λ t body a c. both_stand (own_label body (lands.Node (end body)) name) a (behind_own_label body name) c (own_stands body name);
    })
    b

-- what was gathered of a thread and those below it is what stands behind their labels
pub thread_stands : (root : Block) (name : List ℕ) → thread_label root name ≡ option_map stands (behind_label root name)
thread_stands root name =
    both_stand (own_label root (lands.Node (end root)) name) (lower_label root name) (behind_own_label root name) (behind_lower_label root name)
    (own_stands root name) (lower_stands root name)

-- all labels are those of the thread itself, and of those below it
mutual
  pub all_labels : (b : Block) → label_count b ≡ own_count b + lower_count b
  all_labels (End n) = refl
  all_labels (Assign n x e rest) = all_labels rest
  all_labels (Label l rest) = let h : _ = all_labels rest in omega (arith, h)
  all_labels (Goto g l rest) = all_labels rest
  all_labels (Pause n rest) = all_labels rest
  all_labels (If n e first second rest) =
      let a : _ = all_labels first in
      let b : _ = all_labels second in
      let c : _ = all_labels rest in
      omega (arith, a, b, c)
  all_labels (Fork n branches rest) =
      let a : _ = all_labels_among branches in
      let b : _ = all_labels rest in
      omega (arith, a, b)

  all_labels_among : (branches : Branches) → label_count_among branches ≡ count_among branches
  all_labels_among NoMore = refl
  all_labels_among (Branch t body more) =
      let a : _ = all_labels body in
      let b : _ = all_labels_among more in
      omega (arith, a, b)
