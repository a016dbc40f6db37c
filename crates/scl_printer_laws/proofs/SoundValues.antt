-- Nothing is wrong with an expression of a draft that loads known names, where its operations are those of a well-kinded
-- expression within the limits.
use Rattle.std.proofs.Common.{◌≡◌, ℕ, suc, ◌≤◌, max, Bool, true, false, Option, Some, None, List, [], ◌∷◌, ◌++◌, length, take, slice_get}
use Rattle.std.proofs.Common.{append_assoc, refl, sym, ◌∙◌, ap, subst, arith}
use Rattle.std.specs.Prelude.{not, ◌&&◌, ◌||◌, nat_lt, count_by, option_map, option_and_then, unwrap_or}
use Rattle.std.specs.List.{list_all}
use Rattle.std.specs.Option.{is_some}
use Rattle.std.proofs.lemmas.Bool.Decides.{Decides-ltb}
use Rattle.std.proofs.lemmas.List.{append-nil, length-map}
use Rattle.std.proofs.lemmas.Option.{slice_get-map}
use Rattle.sc_values.specs.declared.value.Value.TheVariants as value
use Rattle.sc_values.specs.declared.value.Kind.{Kind}
use Rattle.sc_values.specs.declared.value.Kind.TheVariants as kind_is
use Rattle.sc_values.specs.declared.operation.Operation.{Operation}
use Rattle.sc_values.specs.declared.operation.Operation.TheVariants as op
use Rattle.sc_values.specs.declared.operator.UnaryOperator.{UnaryOperator}
use Rattle.sc_values.specs.declared.operator.BinaryOperator.{BinaryOperator}
use Rattle.sc_values.specs.declared.expression.Expr.{Expr}
use Rattle.sc_values.specs.declared.expression.Expr.TheVariants as variant
use Rattle.sc_values.specs.Operator.{kind_of, unary_kind, binary_kind}
use Rattle.sc_values.specs.Expr.{kind, postorder}
use Rattle.sc_values.specs.Code.{grown, trees, tree_of, IsWithinLimits}
use Rattle.sc_values.specs.Limits.{operation_limit, operand_limit, load_limit}
use Rattle.sc_values.proofs.Induction.{induct, postorder-literal, postorder-load, postorder-unary, postorder-binary}
use Rattle.sc_values.proofs.Induction.{kind-literal, kind-load, kind-unary, kind-binary}
use Rattle.sc_values.proofs.Spelling.{trees-postorder, tree_of-postorder}
use Rattle.sc_graph.specs.declared.program.Variable.{Variable}
use Rattle.sc_text.specs.declared.operation.TextOperation.{TextOperation}
use Rattle.sc_text.specs.declared.operation.TextOperation.TheVariants as text
use Rattle.sc_text.specs.declared.read_fault.FaultKind.{FaultKind}
use Rattle.sc_text.specs.declared.read_fault.FaultKind.TheVariants as broken
use Rattle.sc_text.specs.Phrases.{Phrase}
use Rattle.sc_text.specs.Parts.{IsExpression}
use Rattle.sc_text.specs.declared.drafts.parts.Declaration.{Declaration}
use Rattle.sc_text.specs.declared.drafts.parts.TextExpression.{TextExpression}
use Rattle.sc_text.specs.Flaws.{flaw_if, place_among, is_among, variable_names, unknown_names, has_known_name, kind_named, kinds_behind, kinds_left}
use Rattle.sc_text.specs.Flaws.{is_alone, is_of_kind, is_of_other_kind, is_load, height_behind, greatest_height, passes_limits, expression_flaws}
use Rattle.sc_text.specs.Resolved.{operation_of, code_of, expression_of, variable_of, variables_of}
use Rattle.sc_text.proofs.Kinded.{kinds_of}
use Rattle.sc_text.proofs.Within.{load_count, height_grown}
use Rattle.scl_reader.proofs.Pieces.{both_empty}
use Rattle.scl_printer_laws.proofs.Operands.{AreKnown}

-- ---- lists of flaws that are empty

pub flaw_none : (b : Bool) (k : FaultKind) (at : ℕ) → b ≡ false → flaw_if b k at ≡ []
flaw_none b k at e = ap (λ c. flaw_if c k at) e

pub not_lower : (a b : ℕ) → b ≤ a → nat_lt a b ≡ false
not_lower a b le = by_cases (nat_lt a b) refl
  where
    by_cases : (c : Bool) → nat_lt a b ≡ c → c ≡ false
    by_cases false e = refl
    by_cases true e = let less = (Decides-ltb a b).0 e in absurd (omega (arith, le, less))

-- ---- names

unknown_none : (names : List (List ℕ)) (p : Phrase) → AreKnown names p → unknown_names (is_among names) p ≡ []
unknown_none names [] k = refl
unknown_none names (text.Literal v ∷ p) k = unknown_none names p k.1
unknown_none names (text.Load name at ∷ p) k =
    ap (λ b. flaw_if (not b) broken.Unknown at ++ unknown_names (is_among names) p) k.0 ∙ unknown_none names p k.1
unknown_none names (text.Unary f ∷ p) k = unknown_none names p k.1
unknown_none names (text.Binary f ∷ p) k = unknown_none names p k.1

-- ---- kinds

-- what `kinds_left` is to a phrase, to its code
abbrev kinds_after : List Kind → Operation → List Kind → Option (List Kind)
kinds_after kinds (op.Literal v) stack = Some (kind_of v ∷ stack)
kinds_after kinds (op.Load x) stack = option_map (λ k. k ∷ stack) (slice_get kinds x)
kinds_after kinds (op.Unary f) (a ∷ stack) = option_map (λ k. k ∷ stack) (unary_kind f a)
kinds_after kinds (op.Binary f) (b ∷ a ∷ stack) = option_map (λ k. k ∷ stack) (binary_kind f a b)
kinds_after kinds o stack = None

abbrev code_kinds : List Kind → List Operation → List Kind → Option (List Kind)
code_kinds kinds [] stack = Some stack
code_kinds kinds (o ∷ code) stack = option_and_then (code_kinds kinds code) (kinds_after kinds o stack)

then_same : {A B : Type 0} (f g : A → Option B) → ((x : A) → f x ≡ g x) → (o : Option A) → option_and_then f o ≡ option_and_then g o
then_same f g h None = refl
then_same f g h (Some x) = h x

module _ (V : List Declaration) where
  abbrev vn : List (List ℕ)
  vn = variable_names V

  load_kind : (o : Option ℕ) → is_some o ≡ true
      → option_map (λ (x : Declaration). x.kind) (option_and_then (slice_get V) o) ≡ slice_get (kinds_of V) (unwrap_or o 0)
  load_kind None e = absurd (cc)
  load_kind (Some i) e = by_cases (slice_get V i) refl
    where
      there : slice_get (kinds_of V) i ≡ option_map (λ (v : Variable). v.kind) (option_map variable_of (slice_get V i))
      there =
          slice_get-map (λ (v : Variable). v.kind) (variables_of V) i
          ∙ ap (option_map (λ (v : Variable). v.kind)) (slice_get-map variable_of V i)

      by_cases : (o : Option Declaration) → slice_get V i ≡ o → option_map (λ (x : Declaration). x.kind) (slice_get V i) ≡ slice_get (kinds_of V) i
      by_cases None is =
          ap (option_map (λ (x : Declaration). x.kind)) is
          ∙ sym (there ∙ ap (λ o. option_map (λ (v : Variable). v.kind) (option_map variable_of o)) is)
      by_cases (Some x) is =
          ap (option_map (λ (x : Declaration). x.kind)) is
          ∙ sym (there ∙ ap (λ o. option_map (λ (v : Variable). v.kind) (option_map variable_of o)) is)

  one_same : (o : TextOperation) (stack : List Kind) → has_known_name (is_among vn) o ≡ true
      → kinds_behind (kind_named V) o stack ≡ kinds_after (kinds_of V) (operation_of vn o) stack
  one_same (text.Literal v) stack k = refl
  one_same (text.Load name at) stack k = ap (option_map (λ k. k ∷ stack)) (load_kind (place_among vn name) k)
  one_same (text.Unary f) [] k = refl
  one_same (text.Unary f) (a ∷ stack) k = refl
  one_same (text.Binary f) [] k = refl
  one_same (text.Binary f) (b ∷ []) k = refl
  one_same (text.Binary f) (b ∷ a ∷ stack) k = refl

  kinds_same : (p : Phrase) (stack : List Kind) → AreKnown vn p → kinds_left (kind_named V) p stack ≡ code_kinds (kinds_of V) (code_of vn p) stack
  kinds_same [] stack k = refl
  kinds_same (o ∷ p) stack k =
      ap (option_and_then (kinds_left (kind_named V) p)) (one_same o stack k.0)
      ∙ then_same (kinds_left (kind_named V) p) (code_kinds (kinds_of V) (code_of vn p)) (λ s. kinds_same p s k.1)
      (kinds_after (kinds_of V) (operation_of vn o) stack)

module _ (kinds : List Kind) where
  abbrev Leaves : Expr → Type 0
  Leaves e = (k : Kind) → kind e kinds ≡ Some k → (rest : List Operation) (stack : List Kind)
      → code_kinds kinds (postorder e ++ rest) stack ≡ code_kinds kinds rest (k ∷ stack)

  pushed : (rest : List Operation) (stack : List Kind) (o : Option Kind) (k : Kind) → o ≡ Some k
      → option_and_then (code_kinds kinds rest) (option_map (λ k. k ∷ stack) o) ≡ code_kinds kinds rest (k ∷ stack)
  pushed rest stack o k e = ap (λ o. option_and_then (code_kinds kinds rest) (option_map (λ k. k ∷ stack) o)) e

  unary_leaves : (f : UnaryOperator) (a : Expr) (o : Option Kind) → kind a kinds ≡ o → Leaves a → (k : Kind) → option_and_then (unary_kind f) o ≡ Some k
      → (rest : List Operation) (stack : List Kind) → code_kinds kinds (postorder a ++ op.Unary f ∷ rest) stack ≡ code_kinds kinds rest (k ∷ stack)
  unary_leaves f a None is left k e rest stack = absurd (cc)
  unary_leaves f a (Some j) is left k e rest stack = left j is (op.Unary f ∷ rest) stack ∙ pushed rest stack (unary_kind f j) k e

  binary_leaves : (f : BinaryOperator) (a b : Expr) (o r : Option Kind) → kind a kinds ≡ o → kind b kinds ≡ r → Leaves a → Leaves b → (k : Kind)
      → option_and_then (λ m. option_and_then (binary_kind f m) r) o ≡ Some k → (rest : List Operation) (stack : List Kind)
      → code_kinds kinds (postorder a ++ (postorder b ++ op.Binary f ∷ rest)) stack ≡ code_kinds kinds rest (k ∷ stack)
  binary_leaves f a b None r is also left right k e rest stack = absurd (cc)
  binary_leaves f a b (Some i) None is also left right k e rest stack = absurd (cc)
  binary_leaves f a b (Some i) (Some j) is also left right k e rest stack =
      left i is (postorder b ++ op.Binary f ∷ rest) stack ∙ right j also (op.Binary f ∷ rest) (i ∷ stack) ∙ pushed rest stack (binary_kind f i j) k e

  kinds_postorder : (e : Expr) → Leaves e
  kinds_postorder = induct Leaves (record {
    of_literal = λ v k is rest stack.
        ap (λ c. code_kinds kinds (c ++ rest) stack) (postorder-literal v) ∙ pushed rest stack (Some (kind_of v)) k (sym (kind-literal v kinds) ∙ is);
    of_load = λ x k is rest stack.
        ap (λ c. code_kinds kinds (c ++ rest) stack) (postorder-load x) ∙ pushed rest stack (slice_get kinds x) k (sym (kind-load x kinds) ∙ is);
    of_unary = λ f a left k is rest stack.
        ap (λ c. code_kinds kinds (c ++ rest) stack) (postorder-unary f a)
        ∙ ap (λ c. code_kinds kinds c stack) (append_assoc (postorder a) (op.Unary f ∷ []) rest)
        ∙ unary_leaves f a (kind a kinds) refl left k (sym (kind-unary f a kinds) ∙ is) rest stack;
    of_binary = λ f a b left right k is rest stack.
        ap (λ c. code_kinds kinds (c ++ rest) stack) (postorder-binary f a b)
        ∙ ap (λ c. code_kinds kinds c stack) (append_assoc (postorder a ++ postorder b) (op.Binary f ∷ []) rest ∙ append_assoc (postorder a) (postorder b)
        (op.Binary f ∷ rest))
        ∙ binary_leaves f a b (kind a kinds) (kind b kinds) refl refl left right k (sym (kind-binary f a b kinds) ∙ is) rest stack;
  })

alone_is : (k : Kind) → is_alone k (Some (k ∷ [])) ≡ true
alone_is kind_is.Bool = refl
alone_is kind_is.Int = refl

and_not : (a b : Bool) → b ≡ true → (a && not b) ≡ false
and_not true true e = refl
and_not true false e = absurd (cc)
and_not false b e = refl

-- ---- limits

cons_long : (t : Expr) (ts after : List Expr) → Some (t ∷ ts) ≡ Some after → length after ≡ suc (length ts)
cons_long t ts after e =
    let same : t ∷ ts ≡ after = cc in
    let long = ap length same in
    omega (arith, long)

abbrev Bounded : (limit : ℕ) (names : List (List ℕ)) (p : Phrase) (ts : List Expr) → Type 0
Bounded limit names p ts = (n : ℕ) (stack : List Expr) → trees (take n (code_of names p)) ts ≡ Some stack → length stack ≤ limit

low_height : (limit : ℕ) (names : List (List ℕ)) (p : Phrase) (ts last : List Expr) → trees (code_of names p) ts ≡ Some last → Bounded limit names p ts
    → greatest_height (length ts) p ≤ limit
low_height limit names [] ts last e low = low 0 ts refl
low_height limit names (o ∷ p) ts last e low = go (grown (operation_of names o) ts) refl e (λ middle all below. low_height limit names p middle last all below)
  where
    go : (m : Option (List Expr)) → grown (operation_of names o) ts ≡ m → option_and_then (trees (code_of names p)) m ≡ Some last
        → ((middle : List Expr) → trees (code_of names p) middle ≡ Some last → Bounded limit names p middle → greatest_height (length middle) p ≤ limit)
        → max (length ts) (greatest_height (height_behind o (length ts)) p) ≤ limit
    go None was all more = absurd (cc)
    go (Some middle) was all more =
        let here = low 0 ts refl in
        let later : greatest_height (length middle) p ≤ limit =
        more middle all (λ n stack is. low (suc n) stack (ap (option_and_then (trees (take n (code_of names p)))) was ∙ is)) in
        let same : greatest_height (height_behind o (length ts)) p ≤ limit =
        subst (λ h. greatest_height h p ≤ limit) (height_grown names o ts middle was) later in
        omega (arith, here, same)

or_none : (a b c : Bool) → a ≡ false → b ≡ false → c ≡ false → (a || (b || c)) ≡ false
or_none a b c e f g = ap (λ x. x || (b || c)) e ∙ ap (λ x. x || c) f ∙ g

within_none : (names : List (List ℕ)) (p : Phrase) (e : Expr) → code_of names p ≡ postorder e → IsWithinLimits (postorder e) → passes_limits p ≡ false
within_none names p e is within =
    let w : IsWithinLimits (code_of names p) = subst IsWithinLimits (sym is) within in
    let long = length-map p (operation_of names) in
    let few = w.operations in
    let loaded = load_count names p in
    let loads_few = w.loaded in
    let all : trees (code_of names p) [] ≡ Some (e ∷ []) =
    ap (λ c. trees c []) (is ∙ sym (append-nil (postorder e))) ∙ trees-postorder e [] [] in
    let low : greatest_height 0 p ≤ operand_limit = low_height operand_limit names p [] (e ∷ []) all w.operands in
    or_none (nat_lt operation_limit (length p)) (nat_lt load_limit (count_by is_load p)) (nat_lt operand_limit (greatest_height 0 p))
    (not_lower operation_limit (length p) (omega (arith, long, few)))
    (not_lower load_limit (count_by is_load p) (omega (arith, loaded, loads_few)))
    (not_lower operand_limit (greatest_height 0 p) low)

-- ---- an expression

pub expression_sound : (V : List Declaration) (k : Kind) (e : Expr) (x : TextExpression) → IsExpression (kinds_of V) k e
    → code_of (variable_names V) x.operations ≡ postorder e → AreKnown (variable_names V) x.operations → expression_flaws V (Some k) x ≡ []
expression_sound V k e x is means known =
    let p : Phrase = x.operations in
    let names : List (List ℕ) = variable_names V in
    let left : kinds_left (kind_named V) p [] ≡ Some (k ∷ []) =
    kinds_same V p [] known ∙ ap (λ c. code_kinds (kinds_of V) c []) (means ∙ sym (append-nil (postorder e)))
    ∙ kinds_postorder (kinds_of V) e k is.kinded [] [] in
    let fits : is_of_kind (kind_named V) k p ≡ true = ap (is_alone k) left ∙ alone_is k in
    both_empty (unknown_names (is_among names) p)
    (flaw_if (is_of_other_kind V (Some k) p) broken.Kind x.start ++ flaw_if (passes_limits p) broken.Limit x.start)
    (unknown_none names p known)
    (both_empty (flaw_if (is_of_other_kind V (Some k) p) broken.Kind x.start) (flaw_if (passes_limits p) broken.Limit x.start)
    (flaw_none (is_of_other_kind V (Some k) p) broken.Kind x.start
    (and_not (list_all (has_known_name (is_among names)) p) (is_of_kind (kind_named V) k p) fits))
    (flaw_none (passes_limits p) broken.Limit x.start (within_none names p e means is.within)))

pub expression_meant : (names : List (List ℕ)) (p : Phrase) (e : Expr) → code_of names p ≡ postorder e → expression_of names p ≡ e
expression_meant names p e is =
    ap (λ o. unwrap_or o (variant.Literal (value.Bool false))) (ap tree_of is ∙ tree_of-postorder e)
