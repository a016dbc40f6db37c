-- What is behind a label that stands on no if's branch is what the search for it finds; and which label stands behind which.
use Rattle.std.proofs.Common.{◌≡◌, ℕ, inr, Bool, true, false, Option, Some, None, List, ◌++◌, Contains, if◌then◌else◌, refl, sym, ap, subst, ◌∙◌, option_map}
use Rattle.std.specs.Str.{bytes_eq}
use Rattle.std.proofs.lemmas.Slice.Eq.{bytes_eq-Decides}
use Rattle.std.proofs.lemmas.List.Elements.{Contains-append_left, Contains-append_right}
use Rattle.sc_values.specs.declared.expression.Expr.{Expr}
use Rattle.scl.specs.Block.{Block, Assign, Label, Goto, Pause, If, Fork, Branches}
use Rattle.scl.specs.Labels.{before, or_else, behind_own_label, behind_lower_label, behind_label_among, behind_label}
use Rattle.scl.specs.Places.{Place, whole, after_assign, after_label, after_goto, after_pause, after_if, after_fork, in_branch, IsBranch}
use Rattle.tick_laws.proofs.Lists.{contains_head, contains_tail}
use Rattle.scl_graph_laws.proofs.Searching.{own_labels, lower_labels, labels_among, found_first, found_second, own_found, own_none, among_found}
use Rattle.scl_graph_laws.proofs.Scopes.{Distinct, KeepsScopes, Scope, distinct_first, distinct_second, distinct_apart, among_branch, distinct_branch}
use Rattle.scl_graph_laws.proofs.Scopes.{found_in_branch, scope_at}
use Rattle.chart_lowering_laws.proofs.Behind.{IsBehind, behind_left, behind_right, behind_branch}

module _ (root : Block) (keeps : KeepsScopes root) where
  abbrev pub all_labels : List (List ℕ)
  all_labels = own_labels root ++ lower_labels root

  -- a place of thread t that is on no if's branch: its own labels are found in it, and stand behind one another in the
  -- whole text too, as those of the threads that it forks do
  pub record MainPlace (t : ℕ) (todo : Block) : Type 0 where
    pub place : Place root t todo
    pub distinct : Distinct (own_labels todo)
    pub finds : (name : List ℕ) → Contains (own_labels todo) name → behind_label root name ≡ behind_own_label todo name
    pub own : (a b : List ℕ) → IsBehind (own_labels todo) a b → IsBehind all_labels a b
    pub lower : (a b : List ℕ) → IsBehind (lower_labels todo) a b → IsBehind all_labels a b

  pub main_whole : MainPlace 0 root
  main_whole = record {
    place = whole;
    distinct = distinct_first (own_labels root) (lower_labels root) keeps.distinct;
    finds = λ name h. found_first (behind_own_label root name) (behind_lower_label root name) (own_found root name h);
    own = λ a b h. behind_left (own_labels root) (lower_labels root) a b h;
    lower = λ a b h. behind_right (own_labels root) (lower_labels root) a b h;
  }

  pub main_assign : (t n x : ℕ) (e : Expr) (rest : Block) → MainPlace t (Assign n x e rest) → MainPlace t rest
  main_assign t n x e rest m = record { place = after_assign t n x e rest m.place; distinct = m.distinct; finds = m.finds; own = m.own; lower = m.lower }

  pub main_goto : (t g : ℕ) (name : List ℕ) (rest : Block) → MainPlace t (Goto g name rest) → MainPlace t rest
  main_goto t g name rest m = record { place = after_goto t g name rest m.place; distinct = m.distinct; finds = m.finds; own = m.own; lower = m.lower }

  pub main_pause : (t n : ℕ) (rest : Block) → MainPlace t (Pause n rest) → MainPlace t rest
  main_pause t n rest m = record { place = after_pause t n rest m.place; distinct = m.distinct; finds = m.finds; own = m.own; lower = m.lower }

  pub main_fork : (t n : ℕ) (branches : Branches) (rest : Block) → MainPlace t (Fork n branches rest) → MainPlace t rest
  main_fork t n branches rest m = record {
    place = after_fork t n branches rest m.place;
    distinct = m.distinct;
    finds = m.finds;
    own = m.own;
    lower = λ a b h. m.lower a b (behind_right (labels_among branches) (lower_labels rest) a b h);
  }

  pub main_label : (t : ℕ) (l : List ℕ) (rest : Block) → MainPlace t (Label l rest) → MainPlace t rest
  main_label t l rest m = record {
    place = after_label t l rest m.place;
    distinct = m.distinct.1;
    finds = λ name h.
        m.finds name (contains_tail l name (own_labels rest) h)
        ∙ other name (bytes_eq l name) refl (λ same. m.distinct.0 (subst (Contains (own_labels rest)) (sym same) h));
    own = λ a b h. m.own a b (inr h);
    lower = m.lower;
  }
    where
      other : (name : List ℕ) (b : Bool) → bytes_eq l name ≡ b → (l ≡ name → ⊥) → (if bytes_eq l name then Some rest else behind_own_label rest name)
          ≡ behind_own_label rest name
      other name true is differ = absurd (differ ((bytes_eq-Decides l name).0 is))
      other name false is differ = ap (λ b. if b then Some rest else behind_own_label rest name) is

  -- what is found behind a label
  pub label_found : (t : ℕ) (l : List ℕ) (rest : Block) → MainPlace t (Label l rest) → behind_label root l ≡ Some rest
  label_found t l rest m =
      m.finds l (contains_head l (own_labels rest))
      ∙ ap (λ b. if b then Some rest else behind_own_label rest l) ((bytes_eq-Decides l l).1 refl)

  pub main_if : (t n : ℕ) (e : Expr) (a b rest : Block) → MainPlace t (If n e a b rest) → MainPlace t rest
  main_if t n e a b rest m = record {
    place = after_if t n e a b rest m.place;
    distinct = distinct_second (own_labels a ++ own_labels b) (own_labels rest) m.distinct;
    finds = λ name h.
        let x : Option Block = option_map (λ k. before k rest) (behind_own_label a name) in
        let y : Option Block = option_map (λ k. before k rest) (behind_own_label b name) in
        let z : Option Block = behind_own_label rest name in
        let not_a : behind_own_label a name ≡ None = own_none a name (λ i. distinct_apart (own_labels a ++ own_labels b) (own_labels rest) name m.distinct
        (Contains-append_left (own_labels a) (own_labels b) name i) h) in
        let not_b : behind_own_label b name ≡ None = own_none b name (λ i. distinct_apart (own_labels a ++ own_labels b) (own_labels rest) name m.distinct
        (Contains-append_right (own_labels a) (own_labels b) name i) h) in
        m.finds name (Contains-append_right (own_labels a ++ own_labels b) (own_labels rest) name h)
        ∙ found_second x (or_else y z) (ap (option_map (λ k. before k rest)) not_a)
        ∙ found_second y z (ap (option_map (λ k. before k rest)) not_b);
    own = λ x y h. m.own x y (behind_right (own_labels a ++ own_labels b) (own_labels rest) x y h);
    lower = λ x y h. m.lower x y (behind_right (lower_labels a ++ lower_labels b) (lower_labels rest) x y h);
  }

  -- within a branch
  pub main_branch : (t n u : ℕ) (branches : Branches) (body rest : Block) → MainPlace t (Fork n branches rest) → IsBranch branches u body → MainPlace u body
  main_branch t n u branches body rest m at =
      let s : Scope root t (Fork n branches rest) = scope_at root keeps t (Fork n branches rest) m.place in
      let among : Distinct (labels_among branches) = distinct_first (labels_among branches) (lower_labels rest) s.distinct in
      record {
        place = in_branch t n u branches body rest m.place at;
        distinct = distinct_first (own_labels body) (lower_labels body) (distinct_branch root branches u body at among);
        finds = λ name h.
            let i : Contains (own_labels body ++ lower_labels body) name = Contains-append_left (own_labels body) (lower_labels body) name h in
            let j : Contains (labels_among branches) name = among_branch root branches u body at name i in
            s.lower name (Contains-append_left (labels_among branches) (lower_labels rest) name j)
            ∙ found_first (behind_label_among branches name) (behind_lower_label rest name) (among_found branches name j)
            ∙ found_in_branch root branches u body at among name i
            ∙ found_first (behind_own_label body name) (behind_lower_label body name) (own_found body name h);
        own = λ a b h. in_fork a b (behind_left (own_labels body) (lower_labels body) a b h);
        lower = λ a b h. in_fork a b (behind_right (own_labels body) (lower_labels body) a b h);
      }
    where
      in_fork : (a b : List ℕ) → IsBehind (own_labels body ++ lower_labels body) a b → IsBehind all_labels a b
      in_fork a b h = m.lower a b (behind_left (labels_among branches) (lower_labels rest) a b (behind_branch branches u body at a b h))
