-- What an expression of a draft is where nothing is wrong with it.
use Rattle.std.proofs.Common.{◌≡◌, ℕ, ◌≤◌, ◌<◌, Bool, true, false, Some, List, [], ◌∷◌, ◌++◌, length, refl, sym, ◌∙◌, ap, subst, arith}
use Rattle.std.specs.Prelude.{not, ◌&&◌, ◌||◌, nat_lt, count_by, unwrap_or, option_and_then}
use Rattle.std.specs.List.{list_all}
use Rattle.std.proofs.lemmas.Bool.Decides.{Decides-ltb}
use Rattle.std.proofs.lemmas.List.{length-map}
use Rattle.sc_values.specs.declared.value.Kind.{Kind}
use Rattle.sc_values.specs.declared.value.Value.TheVariants as value
use Rattle.sc_values.specs.declared.expression.Expr.{Expr}
use Rattle.sc_values.specs.declared.expression.Expr.TheVariants as tree
use Rattle.sc_values.specs.Expr.{postorder}
use Rattle.sc_values.specs.Code.{trees, only, tree_of, IsWithinLimits}
use Rattle.sc_values.specs.Limits.{operation_limit, operand_limit, load_limit}
use Rattle.sc_values.proofs.Spelling.{tree_of-spells}
use Rattle.sc_text.specs.declared.operation.TextOperation.TheVariants as text
use Rattle.sc_text.specs.declared.read_fault.FaultKind.{FaultKind}
use Rattle.sc_text.specs.declared.read_fault.FaultKind.TheVariants as broken
use Rattle.sc_text.specs.Phrases.{Phrase}
use Rattle.sc_text.specs.Parts.{IsExpression}
use Rattle.sc_text.specs.Writable.{is_writable_operation}
use Rattle.sc_text.specs.declared.drafts.flaw.Flaw.{Flaw}
use Rattle.sc_text.specs.declared.drafts.parts.Declaration.{Declaration}
use Rattle.sc_text.specs.declared.drafts.parts.TextExpression.{TextExpression}
use Rattle.sc_text.specs.Flaws.{flaw_if, is_among, variable_names, unknown_one, unknown_names, has_known_name, kind_named, kinds_left, is_of_kind}
use Rattle.sc_text.specs.Flaws.{is_of_other_kind, is_load, greatest_height, passes_limits, expression_flaws}
use Rattle.sc_text.specs.Resolved.{operation_of, code_of, expression_of}
use Rattle.sc_text.proofs.Kinded.{kinds_of, AreKinds, Stands, all_stand, alone}
use Rattle.sc_text.proofs.Within.{heights, load_count, writable}

-- ---- lists of flaws that are empty

pub none_first : {A : Type 0} (xs ys : List A) → xs ++ ys ≡ [] → xs ≡ []
none_first [] ys e = refl
none_first (x ∷ xs) ys e = absurd cc

pub none_second : {A : Type 0} (xs ys : List A) → xs ++ ys ≡ [] → ys ≡ []
none_second [] ys e = e
none_second (x ∷ xs) ys e = absurd cc

pub no_flaw : (b : Bool) (broken : FaultKind) (at : ℕ) → flaw_if b broken at ≡ [] → b ≡ false
no_flaw false b at e = refl
no_flaw true b at e = absurd cc

pub or_first : (a b : Bool) → (a || b) ≡ false → a ≡ false
or_first false b e = refl
or_first true b e = absurd cc

pub or_second : (a b : Bool) → (a || b) ≡ false → b ≡ false
or_second false b e = e
or_second true b e = absurd cc

pub not_false : (b : Bool) → not b ≡ false → b ≡ true
not_false true e = refl
not_false false e = absurd cc

pub not_less : (a b : ℕ) → nat_lt a b ≡ false → b ≤ a
not_less a b e = by_cases (nat_lt a b) refl (λ le. (Decides-ltb a b).1 le)
  where
    by_cases : (c : Bool) → nat_lt a b ≡ c → ((a < b) → nat_lt a b ≡ true) → b ≤ a
    by_cases c is tells = grind (arith, e, tells)

-- ---- an expression

known : (test : List ℕ → Bool) (p : Phrase) → unknown_names test p ≡ [] → list_all (has_known_name test) p ≡ true
known test [] e = refl
known test (text.Literal v ∷ p) e = known test p e
known test (text.Load name at ∷ p) e =
    let here = not_false (test name) (no_flaw (not (test name)) broken.Unknown at (none_first (unknown_one test (text.Load name at)) (unknown_names test p) e))
    in
    let more = known test p (none_second (unknown_one test (text.Load name at)) (unknown_names test p) e) in
    ap (λ b. b && list_all (has_known_name test) p) here ∙ more
known test (text.Unary f ∷ p) e = known test p e
known test (text.Binary f ∷ p) e = known test p e

kind_fits : (k l : Bool) → k ≡ true → (k && not l) ≡ false → l ≡ true
kind_fits true true e f = refl
kind_fits true false e f = absurd cc
kind_fits false l e f = absurd cc

-- an expression of this kind
pub expression_is : (V : List Declaration) (k : Kind) (e : TextExpression) → list_all is_writable_operation e.operations ≡ true → expression_flaws V (Some k) e
    ≡ [] → IsExpression (kinds_of V) k (expression_of (variable_names V) e.operations)
expression_is V k e can none =
    let p : Phrase = e.operations in
    let names : List (List ℕ) = variable_names V in
    let first : List Flaw = unknown_names (is_among names) p in
    let second : List Flaw = flaw_if (is_of_other_kind V (Some k) p) broken.Kind e.start in
    let third : List Flaw = flaw_if (passes_limits p) broken.Limit e.start in
    let all : list_all (has_known_name (is_among names)) p ≡ true = known (is_among names) p (none_first first (second ++ third) none) in
    let rest : second ++ third ≡ [] = none_second first (second ++ third) none in
    let same : is_of_kind (kind_named V) k p ≡ true =
    kind_fits (list_all (has_known_name (is_among names)) p) (is_of_kind (kind_named V) k p) all
    (no_flaw (is_of_other_kind V (Some k) p) broken.Kind e.start (none_first second third rest)) in
    let within : passes_limits p ≡ false = no_flaw (passes_limits p) broken.Limit e.start (none_second second third rest) in
    let left : kinds_left (kind_named V) p [] ≡ Some (k ∷ []) = alone k (kinds_left (kind_named V) p []) same in
    built (all_stand V p [] [] (k ∷ []) tt left) within
  where
    by_stack : (stack : List Expr) → trees (code_of (variable_names V) e.operations) [] ≡ Some stack → AreKinds (kinds_of V) stack (k ∷ [])
        → passes_limits e.operations ≡ false → IsExpression (kinds_of V) k (expression_of (variable_names V) e.operations)
    by_stack [] is are within = absurd are
    by_stack (t ∷ u ∷ ts) is are within = absurd are.1
    by_stack (t ∷ []) is are within =
        let p : Phrase = e.operations in
        let names : List (List ℕ) = variable_names V in
        let tree_is : tree_of (code_of names p) ≡ Some t = ap (option_and_then only) is in
        let spelt : postorder t ≡ code_of names p = tree_of-spells (code_of names p) t tree_is in
        let is_it : t ≡ expression_of names p = sym (ap (λ o. unwrap_or o (tree.Literal (value.Bool false))) tree_is) in
        let long : length p ≤ operation_limit = not_less operation_limit (length p)
        (or_first (nat_lt operation_limit (length p)) (nat_lt load_limit (count_by is_load p) || nat_lt operand_limit (greatest_height 0 p)) within) in
        let others : (nat_lt load_limit (count_by is_load p) || nat_lt operand_limit (greatest_height 0 p))
        ≡ false = or_second (nat_lt operation_limit (length p)) (nat_lt load_limit (count_by is_load p) || nat_lt operand_limit (greatest_height 0 p))
        within in
        let few : count_by is_load p ≤ load_limit = not_less load_limit (count_by is_load p)
        (or_first (nat_lt load_limit (count_by is_load p)) (nat_lt operand_limit (greatest_height 0 p)) others) in
        let low : greatest_height 0 p ≤ operand_limit = not_less operand_limit (greatest_height 0 p)
        (or_second (nat_lt load_limit (count_by is_load p)) (nat_lt operand_limit (greatest_height 0 p)) others) in
        let limits : IsWithinLimits (code_of names p) = record {
          operations = (let l = length-map p (operation_of names) in omega (arith, l, long));
          operands = λ n stack e. (let h = heights names p [] n stack e in omega (arith, h, low));
          loaded = (let l = load_count names p in omega (arith, l, few));
        } in
        subst (IsExpression (kinds_of V) k) is_it
        (record { kinded = are.0; within = subst IsWithinLimits (sym spelt) limits; writable = writable names p t spelt can })

    built : Stands (kinds_of V) (trees (code_of (variable_names V) e.operations) []) (k ∷ []) → passes_limits e.operations ≡ false
        → IsExpression (kinds_of V) k (expression_of (variable_names V) e.operations)
    built s within = by_stack s.stack s.is s.are within
