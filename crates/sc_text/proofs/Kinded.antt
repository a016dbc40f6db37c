-- Operations whose kinds fit build a tree of that kind.
use Rattle.std.proofs.Common.{◌≡◌, ℕ, true, Option, Some, None, List, [], ◌∷◌, map, slice_get, refl, ◌∙◌, ap, subst}
use Rattle.std.specs.Prelude.{option_map, option_and_then, unwrap_or}
use Rattle.std.proofs.lemmas.Option.{slice_get-map}
use Rattle.sc_values.specs.declared.value.Kind.{Kind}
use Rattle.sc_values.specs.declared.value.Kind.TheVariants as kind_is
use Rattle.sc_values.specs.declared.operator.UnaryOperator.{UnaryOperator}
use Rattle.sc_values.specs.declared.operator.BinaryOperator.{BinaryOperator}
use Rattle.sc_values.specs.declared.operation.Operation.TheVariants as op
use Rattle.sc_values.specs.declared.expression.Expr.{Expr}
use Rattle.sc_values.specs.declared.expression.Expr.TheOpen as tree
use Rattle.sc_values.specs.declared.expression.Expr.TheViews.{roll-Expr}
use Rattle.sc_values.specs.Operator.{kind_of, unary_kind, binary_kind}
use Rattle.sc_values.specs.Expr.{kind}
use Rattle.sc_values.specs.Code.{grown, trees}
use Rattle.sc_values.proofs.Induction.{kind-literal, kind-load, kind-unary, kind-binary}
use Rattle.sc_text.specs.declared.operation.TextOperation.{TextOperation}
use Rattle.sc_text.specs.declared.operation.TextOperation.TheVariants as text
use Rattle.sc_text.specs.Phrases.{Phrase}
use Rattle.sc_text.specs.declared.drafts.parts.Declaration.{Declaration}
use Rattle.sc_text.specs.Flaws.{place_among, variable_names, variable_named, kind_named, kinds_behind, kinds_left, is_alone}
use Rattle.sc_text.specs.Resolved.{operation_of, code_of, variable_of, variables_of}

abbrev pub kinds_of : List Declaration → List Kind
kinds_of V = map (λ v. v.kind) (variables_of V)

abbrev pub AreKinds : List Kind → List Expr → List Kind → Type 0
AreKinds kinds [] [] = Unit {0}
AreKinds kinds (e ∷ es) (k ∷ ks) = (kind e kinds ≡ Some k) × AreKinds kinds es ks
AreKinds kinds [] (k ∷ ks) = ⊥
AreKinds kinds (e ∷ es) [] = ⊥

-- trees of these kinds stand there
pub record Stands (kinds : List Kind) (trees : Option (List Expr)) (ks : List Kind) : Type 0 where
  pub stack : List Expr
  pub is : trees ≡ Some stack
  pub are : AreKinds kinds stack ks

kind_at : (V : List Declaration) (i : ℕ) (x : Declaration) → slice_get V i ≡ Some x → slice_get (kinds_of V) i ≡ Some x.kind
kind_at V i x e =
    slice_get-map (λ v. v.kind) (variables_of V) i
    ∙ ap (option_map (λ v. v.kind)) (slice_get-map variable_of V i ∙ ap (option_map variable_of) e)

module _ (V : List Declaration) (ts : List Expr) (ks after : List Kind) where
  load_stands : AreKinds (kinds_of V) ts ks → (p : Option ℕ) (x : Option Declaration) → option_and_then (slice_get V) p ≡ x
      → option_map (λ k. k ∷ ks) (option_map (λ (d : Declaration). d.kind) x) ≡ Some after → Stands (kinds_of V) (grown (op.Load (unwrap_or p 0)) ts) after
  load_stands are None None is e = absurd cc
  load_stands are None (Some x) is e = absurd cc
  load_stands are (Some i) None is e = absurd cc
  load_stands are (Some i) (Some x) is e =
      let same : x.kind ∷ ks ≡ after = cc in
      let here : kind (roll-Expr (tree.Load i)) (kinds_of V) ≡ Some x.kind = kind-load i (kinds_of V) ∙ kind_at V i x is in
      subst (Stands (kinds_of V) (grown (op.Load i) ts)) same (record { stack = roll-Expr (tree.Load i) ∷ ts; is = refl; are = (here, are) })

  unary_stands : (f : UnaryOperator) (t : Expr) (a : Kind) → kind t (kinds_of V) ≡ Some a → AreKinds (kinds_of V) ts ks → (r : Option Kind) → unary_kind f a ≡ r
      → option_map (λ k. k ∷ ks) r ≡ Some after → Stands (kinds_of V) (grown (op.Unary f) (t ∷ ts)) after
  unary_stands f t a of are None is e = absurd cc
  unary_stands f t a of are (Some k) is e =
      let same : k ∷ ks ≡ after = cc in
      let here : kind (roll-Expr (tree.Unary f t)) (kinds_of V) ≡ Some k = kind-unary f t (kinds_of V) ∙ ap (option_and_then (unary_kind f)) of ∙ is in
      subst (Stands (kinds_of V) (grown (op.Unary f) (t ∷ ts))) same (record { stack = roll-Expr (tree.Unary f t) ∷ ts; is = refl; are = (here, are) })

  binary_stands : (f : BinaryOperator) (s t : Expr) (a b : Kind) → kind s (kinds_of V) ≡ Some a → kind t (kinds_of V) ≡ Some b → AreKinds (kinds_of V) ts ks
      → (r : Option Kind) → binary_kind f a b ≡ r → option_map (λ k. k ∷ ks) r ≡ Some after → Stands (kinds_of V) (grown (op.Binary f) (t ∷ s ∷ ts)) after
  binary_stands f s t a b left right are None is e = absurd cc
  binary_stands f s t a b left right are (Some k) is e =
      let same : k ∷ ks ≡ after = cc in
      let here : kind (roll-Expr (tree.Binary f s t)) (kinds_of V) ≡ Some k =
      kind-binary f s t (kinds_of V)
      ∙ ap (option_and_then (λ m. option_and_then (binary_kind f m) (kind t (kinds_of V)))) left
      ∙ ap (option_and_then (binary_kind f a)) right ∙ is in
      subst (Stands (kinds_of V) (grown (op.Binary f) (t ∷ s ∷ ts))) same (record { stack = roll-Expr (tree.Binary f s t) ∷ ts; is = refl; are = (here, are) })

one_stands : (V : List Declaration) (o : TextOperation) (ts : List Expr) (ks after : List Kind) → AreKinds (kinds_of V) ts ks → kinds_behind (kind_named V) o ks
    ≡ Some after → Stands (kinds_of V) (grown (operation_of (variable_names V) o) ts) after
one_stands V (text.Literal v) ts ks after are e =
    let same : kind_of v ∷ ks ≡ after = cc in
    subst (Stands (kinds_of V) (grown (op.Literal v) ts)) same
    (record { stack = roll-Expr (tree.Literal v) ∷ ts; is = refl; are = (kind-literal v (kinds_of V), are) })
one_stands V (text.Load name at) ts ks after are e =
    load_stands V ts ks after are (place_among (variable_names V) name) (variable_named V name) refl e
one_stands V (text.Unary f) ts [] after are e = absurd cc
one_stands V (text.Unary f) [] (a ∷ ks) after are e = absurd are
one_stands V (text.Unary f) (t ∷ ts) (a ∷ ks) after are e = unary_stands V ts ks after f t a are.0 are.1 (unary_kind f a) refl e
one_stands V (text.Binary f) ts [] after are e = absurd cc
one_stands V (text.Binary f) ts (b ∷ []) after are e = absurd cc
one_stands V (text.Binary f) [] (b ∷ a ∷ ks) after are e = absurd are
one_stands V (text.Binary f) (t ∷ []) (b ∷ a ∷ ks) after are e = absurd are.1
one_stands V (text.Binary f) (t ∷ s ∷ ts) (b ∷ a ∷ ks) after are e =
    binary_stands V ts ks after f s t a b are.1.0 are.0 are.1.1 (binary_kind f a b) refl e

pub all_stand : (V : List Declaration) (p : Phrase) (ts : List Expr) (ks after : List Kind) → AreKinds (kinds_of V) ts ks → kinds_left (kind_named V) p ks
    ≡ Some after → Stands (kinds_of V) (trees (code_of (variable_names V) p) ts) after
all_stand V [] ts ks after are e =
    let same : ks ≡ after = cc in
    subst (Stands (kinds_of V) (Some ts)) same (record { stack = ts; is = refl; are = are })
all_stand V (o ∷ p) ts ks after are e = go (kinds_behind (kind_named V) o ks) refl e (λ us ms fit left. all_stand V p us ms after fit left)
  where
    go : (m : Option (List Kind)) → kinds_behind (kind_named V) o ks ≡ m → option_and_then (kinds_left (kind_named V) p) m ≡ Some after →
        ((us : List Expr) (ms : List Kind) → AreKinds (kinds_of V) us ms → kinds_left (kind_named V) p ms ≡ Some after
        → Stands (kinds_of V) (trees (code_of (variable_names V) p) us) after) →
        Stands (kinds_of V) (option_and_then (trees (code_of (variable_names V) p)) (grown (operation_of (variable_names V) o) ts)) after
    go None was e more = absurd cc
    go (Some middle) was e more =
        let one = one_stands V o ts ks middle are was in
        let rest = more one.stack middle one.are e in
        record { stack = rest.stack; is = ap (option_and_then (trees (code_of (variable_names V) p))) one.is ∙ rest.is; are = rest.are }

pub alone : (k : Kind) (r : Option (List Kind)) → is_alone k r ≡ true → r ≡ Some (k ∷ [])
alone kind_is.Bool (Some (kind_is.Bool ∷ [])) e = refl
alone kind_is.Int (Some (kind_is.Int ∷ [])) e = refl
alone kind_is.Bool None e = absurd cc
alone kind_is.Int None e = absurd cc
alone kind_is.Bool (Some []) e = absurd cc
alone kind_is.Int (Some []) e = absurd cc
alone kind_is.Bool (Some (kind_is.Int ∷ ks)) e = absurd cc
alone kind_is.Int (Some (kind_is.Bool ∷ ks)) e = absurd cc
alone kind_is.Bool (Some (kind_is.Bool ∷ k ∷ ks)) e = absurd cc
alone kind_is.Int (Some (kind_is.Int ∷ k ∷ ks)) e = absurd cc
