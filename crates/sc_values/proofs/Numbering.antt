-- A code whose loads are numbered in their order has the same value over operands that stand for the variables.
use Rattle.std.proofs.Common.{◌≡◌, ℕ, suc, ◌+◌, Option, Some, List, [], ◌∷◌, ◌++◌, option_and_then, filter_map, slice_get, length, refl, sym, ap, ◌∙◌}
use Rattle.std.proofs.Common.{append_assoc, subst, arith, length-append}
use Rattle.std.proofs.lemmas.List.{append-nil}
use Rattle.std.specs.List.{cons_option}
use Rattle.sc_values.specs.declared.value.Value.{Value}
use Rattle.sc_values.specs.declared.value.Kind.{Kind}
use Rattle.sc_values.specs.declared.operator.UnaryOperator.{UnaryOperator}
use Rattle.sc_values.specs.declared.operator.BinaryOperator.{BinaryOperator}
use Rattle.sc_values.specs.declared.operation.Operation.{Operation}
use Rattle.sc_values.specs.declared.operation.Operation.TheVariants as op
use Rattle.sc_values.specs.declared.expression.Expr.{Expr}
use Rattle.sc_values.specs.declared.expression.Expr.TheOpen as tree
use Rattle.sc_values.specs.declared.expression.Expr.TheViews.{roll-Expr}
use Rattle.sc_values.specs.Operator.{unary_value, binary_value, unary_kind, binary_kind}
use Rattle.sc_values.specs.Expr.{value, kind, postorder}
use Rattle.sc_values.specs.Code.{Spells, code_value, loads}
use Rattle.sc_values.specs.Checked.{loaded_from, numbered, value_over}
use Rattle.sc_values.proofs.Induction.{induct, postorder-literal, postorder-load, postorder-unary, postorder-binary, value-literal, value-load, value-unary}
use Rattle.sc_values.proofs.Induction.{value-binary, kind-literal, kind-load, kind-unary, kind-binary}
use Rattle.sc_values.proofs.Spelling.{spells-tree_of}
use Rattle.sc_values.proofs.Loading.{loads-literal, loads-load, loads-unary, loads-binary}
use Rattle.sc_values.proofs.Running.{given}

-- from n on, the operands are what stands at these variables
abbrev pub StandFor : {A : Type 0} → List A → List A → ℕ → List ℕ → Type 0
StandFor operands all n [] = Unit {0}
StandFor operands all n (x ∷ xs) = (slice_get operands n ≡ slice_get all x) × StandFor operands all (suc n) xs

stand_left : {A : Type 0} (operands all : List A) (n : ℕ) (xs ys : List ℕ) → StandFor operands all n (xs ++ ys) → StandFor operands all n xs
stand_left operands all n [] ys h = tt
stand_left operands all n (x ∷ xs) ys h = (h.0, stand_left operands all (suc n) xs ys h.1)

stand_right : {A : Type 0} (operands all : List A) (n : ℕ) (xs ys : List ℕ) → StandFor operands all n (xs ++ ys) → StandFor operands all (n + length xs) ys
stand_right operands all n [] ys h = let e : n ≡ n + length {A = ℕ} [] = omega arith in let P : ℕ → Type 0 = λ m. StandFor operands all m ys in subst P e h
stand_right operands all n (x ∷ xs) ys h =
    let e : suc n + length xs ≡ n + suc (length xs) = omega arith in
    let P : ℕ → Type 0 = λ m. StandFor operands all m ys in
    subst P e (stand_right operands all (suc n) xs ys h.1)

-- how many loads an expression has
abbrev pub count : Expr → ℕ
count e = length (loads (postorder e))

-- the same expression with its loads numbered from n on
pub record Renumbered (e : Expr) (n : ℕ) : Type 0 where
  pub tree : Expr
  pub spells : (rest : List Operation) → numbered n (postorder e ++ rest) ≡ postorder tree ++ numbered (n + count e) rest
  pub values : (operands all : List Value) → StandFor operands all n (loads (postorder e)) → value tree operands ≡ value e all
  pub kinds : (operands all : List Kind) → StandFor operands all n (loads (postorder e)) → kind tree operands ≡ kind e all

abbrev Renumbers : Expr → Type 0
Renumbers e = (n : ℕ) → Renumbered e n

from_here : {A : Type 0} (operands all : List A) (n : ℕ) (xs ys : List ℕ) → xs ≡ ys → StandFor operands all n xs → StandFor operands all n ys
from_here operands all n xs ys e h = let P : List ℕ → Type 0 = λ l. StandFor operands all n l in subst P e h

of_literal : (v : Value) → Renumbers (roll-Expr (tree.Literal v))
of_literal v n = record {
  tree = roll-Expr (tree.Literal v);
  spells = λ rest.
      let none : n ≡ n + count (roll-Expr (tree.Literal v)) = omega (arith, ap length (loads-literal v)) in
      ap (λ c. numbered n (c ++ rest)) (postorder-literal v)
      ∙ ap (λ m. op.Literal v ∷ numbered m rest) none
      ∙ ap (λ c. c ++ numbered (n + count (roll-Expr (tree.Literal v))) rest) (sym (postorder-literal v));
  values = λ operands all h. value-literal v operands ∙ sym (value-literal v all);
  kinds = λ operands all h. kind-literal v operands ∙ sym (kind-literal v all);
}

of_load : (x : ℕ) → Renumbers (roll-Expr (tree.Load x))
of_load x n = record {
  tree = roll-Expr (tree.Load n);
  spells = λ rest.
      let one : suc n ≡ n + count (roll-Expr (tree.Load x)) = omega (arith, ap length (loads-load x)) in
      ap (λ c. numbered n (c ++ rest)) (postorder-load x)
      ∙ ap (λ m. op.Load n ∷ numbered m rest) one
      ∙ ap (λ c. c ++ numbered (n + count (roll-Expr (tree.Load x))) rest) (sym (postorder-load n));
  values = λ operands all h. value-load n operands ∙ (from_here operands all n _ _ (loads-load x) h).0 ∙ sym (value-load x all);
  kinds = λ operands all h. kind-load n operands ∙ (from_here operands all n _ _ (loads-load x) h).0 ∙ sym (kind-load x all);
}

of_unary : (f : UnaryOperator) (a : Expr) → Renumbers a → Renumbers (roll-Expr (tree.Unary f a))
of_unary f a left n =
    let l = left n in
    let same : n + count a ≡ n + count (roll-Expr (tree.Unary f a)) = omega (arith, ap length (loads-unary f a)) in
    record {
      tree = roll-Expr (tree.Unary f l.tree);
      spells = λ rest.
          ap (λ c. numbered n (c ++ rest)) (postorder-unary f a)
          ∙ ap (numbered n) (append_assoc (postorder a) (op.Unary f ∷ []) rest)
          ∙ l.spells (op.Unary f ∷ rest)
          ∙ ap (λ m. postorder l.tree ++ (op.Unary f ∷ numbered m rest)) same
          ∙ sym (append_assoc (postorder l.tree) (op.Unary f ∷ []) (numbered (n + count (roll-Expr (tree.Unary f a))) rest))
          ∙ ap (λ c. c ++ numbered (n + count (roll-Expr (tree.Unary f a))) rest) (sym (postorder-unary f l.tree));
      values = λ operands all h.
          value-unary f l.tree operands
          ∙ ap (option_and_then (unary_value f)) (l.values operands all (from_here operands all n _ _ (loads-unary f a) h))
          ∙ sym (value-unary f a all);
      kinds = λ operands all h.
          kind-unary f l.tree operands
          ∙ ap (option_and_then (unary_kind f)) (l.kinds operands all (from_here operands all n _ _ (loads-unary f a) h))
          ∙ sym (kind-unary f a all);
    }

of_binary : (f : BinaryOperator) (a b : Expr) → Renumbers a → Renumbers b → Renumbers (roll-Expr (tree.Binary f a b))
of_binary f a b left right n =
    let l = left n in
    let r = right (n + count a) in
    let whole = roll-Expr (tree.Binary f a b) in
    let same : (n + count a) + count b ≡ n + count (roll-Expr (tree.Binary f a b)) = omega (
      arith,
      ap length (loads-binary f a b),
      length-append (loads (postorder a)) (loads (postorder b)),
    ) in
    record {
      tree = roll-Expr (tree.Binary f l.tree r.tree);
      spells = λ rest.
          ap (λ c. numbered n (c ++ rest)) (postorder-binary f a b)
          ∙ ap (numbered n) (append_assoc (postorder a ++ postorder b) (op.Binary f ∷ []) rest ∙ append_assoc (postorder a) (postorder b) (op.Binary f ∷ rest))
          ∙ l.spells (postorder b ++ op.Binary f ∷ rest)
          ∙ ap (λ c. postorder l.tree ++ c) (r.spells (op.Binary f ∷ rest))
          ∙ ap (λ m. postorder l.tree ++ (postorder r.tree ++ (op.Binary f ∷ numbered m rest))) same
          ∙ sym (append_assoc (postorder l.tree ++ postorder r.tree) (op.Binary f ∷ []) (numbered (n + count (roll-Expr (tree.Binary f a b))) rest)
          ∙ append_assoc (postorder l.tree) (postorder r.tree) (op.Binary f ∷ numbered (n + count (roll-Expr (tree.Binary f a b))) rest))
          ∙ ap (λ c. c ++ numbered (n + count (roll-Expr (tree.Binary f a b))) rest) (sym (postorder-binary f l.tree r.tree));
      values = λ operands all h.
          let both = from_here operands all n _ _ (loads-binary f a b) h in
          value-binary f l.tree r.tree operands
          ∙ ap (option_and_then (λ m. option_and_then (binary_value f m) (value r.tree operands)))
          (l.values operands all (stand_left operands all n (loads (postorder a)) (loads (postorder b)) both))
          ∙ ap (λ (s : Option Value). option_and_then (λ m. option_and_then (binary_value f m) s) (value a all))
          (r.values operands all (stand_right operands all n (loads (postorder a)) (loads (postorder b)) both))
          ∙ sym (value-binary f a b all);
      kinds = λ operands all h.
          let both = from_here operands all n _ _ (loads-binary f a b) h in
          kind-binary f l.tree r.tree operands
          ∙ ap (option_and_then (λ m. option_and_then (binary_kind f m) (kind r.tree operands)))
          (l.kinds operands all (stand_left operands all n (loads (postorder a)) (loads (postorder b)) both))
          ∙ ap (λ (s : Option Kind). option_and_then (λ m. option_and_then (binary_kind f m) s) (kind a all))
          (r.kinds operands all (stand_right operands all n (loads (postorder a)) (loads (postorder b)) both))
          ∙ sym (kind-binary f a b all);
    }

pub renumbered : (e : Expr) → Renumbers e
renumbered = induct Renumbers (record { of_literal = of_literal; of_load = of_load; of_unary = of_unary; of_binary = of_binary })

pub spells_numbered : (code : List Operation) (e : Expr) → Spells code e → Spells (numbered 0 code) (renumbered e 0).tree
spells_numbered code e spells =
    sym (append-nil (postorder (renumbered e 0).tree))
    ∙ sym ((renumbered e 0).spells [])
    ∙ ap (numbered 0) (append-nil (postorder e) ∙ spells)

-- over operands that stand for the variables a code has the value that it has over the variables
pub value_over_stands : (code : List Operation) (e : Expr) (operands all : List Value) → Spells code e → StandFor operands all 0 (loads code)
    → value_over operands code ≡ code_value code all
value_over_stands code e operands all spells h =
    ap (option_and_then (λ t. value t operands)) (spells-tree_of (numbered 0 code) (renumbered e 0).tree (spells_numbered code e spells))
    ∙ (renumbered e 0).values operands all (from_here operands all 0 _ _ (ap loads (sym spells)) h)
    ∙ sym (ap (option_and_then (λ t. value t all)) (spells-tree_of code e spells))

-- each of these variables is there
abbrev pub Known : {A : Type 0} → List A → List ℕ → Type 0
Known all [] = Unit {0}
Known {A} all (x ∷ xs) = ((v : A) × (slice_get all x ≡ Some v)) × Known all xs

known_append : {A : Type 0} (all : List A) (xs ys : List ℕ) → Known all xs → Known all ys → Known all (xs ++ ys)
known_append all [] ys h k = k
known_append all (x ∷ xs) ys h k = (h.0, known_append all xs ys h.1 k)

pub known_at : {A : Type 0} (all : List A) (xs ys : List ℕ) → xs ≡ ys → Known all xs → Known all ys
known_at all xs ys e h = let P : List ℕ → Type 0 = λ l. Known all l in subst P e h

abbrev LoadsKnown : Expr → Type 0
LoadsKnown e = (kinds : List Kind) (k : Kind) → kind e kinds ≡ Some k → Known kinds (loads (postorder e))

-- a well-kinded expression loads variables that there are
pub kinded_known : (e : Expr) → LoadsKnown e
kinded_known = induct LoadsKnown (record {
  of_literal = λ v kinds k is. known_at kinds _ _ (sym (loads-literal v)) tt;
  of_load = λ x kinds k is. known_at kinds _ _ (sym (loads-load x)) ((k, sym (kind-load x kinds) ∙ is), tt);
  of_unary = λ f a left kinds k is.
      let g = given (unary_kind f) (kind a kinds) k (sym (kind-unary f a kinds) ∙ is) in
      known_at kinds _ _ (sym (loads-unary f a)) (left kinds g.operand g.is);
  of_binary = λ f a b left right kinds k is.
      let g = given (λ m. option_and_then (binary_kind f m) (kind b kinds)) (kind a kinds) k (sym (kind-binary f a b kinds) ∙ is) in
      let h = given (binary_kind f g.operand) (kind b kinds) k g.gives in
      known_at kinds _ _ (sym (loads-binary f a b)) (known_append kinds (loads (postorder a)) (loads (postorder b)) (left kinds g.operand g.is)
      (right kinds h.operand h.is));
})

get_behind : {A : Type 0} (done : List A) (v : A) (rest : List A) → slice_get (done ++ v ∷ rest) (length done) ≡ Some v
get_behind [] v rest = refl
get_behind (d ∷ done) v rest = get_behind done v rest

stands_from : {A : Type 0} (all : List A) (xs : List ℕ) (done : List A) → Known all xs → StandFor (done ++ filter_map (slice_get all) xs) all (length done) xs
stands_from all [] done known = tt
stands_from {A} all (x ∷ xs) done known =
    let v = known.0.0 in
    let found : filter_map (slice_get all) (x ∷ xs) ≡ v ∷ filter_map (slice_get all) xs = ap (λ o. cons_option o (filter_map (slice_get all) xs)) known.0.1 in
    let here : slice_get (done ++ filter_map (slice_get all) (x ∷ xs)) (length done) ≡ slice_get all x =
    ap (λ t. slice_get (done ++ t) (length done)) found ∙ get_behind done v (filter_map (slice_get all) xs) ∙ sym known.0.1 in
    let later = stands_from all xs (done ++ v ∷ []) known.1 in
    let P : List A → Type 0 = λ l. StandFor l all (length (done ++ v ∷ [])) xs in
    let whole : (done ++ v ∷ []) ++ filter_map (slice_get all) xs ≡ done ++ filter_map (slice_get all) (x ∷ xs) =
    append_assoc done (v ∷ []) (filter_map (slice_get all) xs) ∙ ap (λ t. done ++ t) (sym found) in
    let Q : ℕ → Type 0 = λ m. StandFor (done ++ filter_map (slice_get all) (x ∷ xs)) all m xs in
    let long : length (done ++ v ∷ []) ≡ suc (length done) = length-append done (v ∷ []) ∙ omega arith in
    (here, subst Q long (subst P whole later))

pub loaded_stands : {A : Type 0} (all : List A) (code : List Operation) → Known all (loads code) → StandFor (loaded_from all code) all 0 (loads code)
loaded_stands all code known = stands_from all (loads code) [] known
