-- A code is well formed exactly where the machine over a stack of kinds leaves one kind, within the limits.
use Rattle.std.proofs.Common.{◌≡◌, ℕ, suc, ◌-◌, ◌≤◌, Bool, true, false, nat_le, cond, Option, Some, None, IsSome, is_some, List, [], ◌∷◌, ◌++◌, option_and_then}
use Rattle.std.proofs.Common.{slice_get, length, refl, sym, ap, ◌∙◌, append_assoc, subst, arith}
use Rattle.std.proofs.lemmas.Bool.{le-leb, leb-true}
use Rattle.std.proofs.lemmas.List.{append-nil}
use Rattle.sc_values.specs.declared.value.Kind.{Kind}
use Rattle.sc_values.specs.declared.operation.Operation.{Operation}
use Rattle.sc_values.specs.declared.operation.Operation.TheVariants as op
use Rattle.sc_values.specs.declared.expression.Expr.{Expr}
use Rattle.sc_values.specs.declared.expression.Expr.TheOpen as tree
use Rattle.sc_values.specs.declared.expression.Expr.TheViews.{roll-Expr}
use Rattle.sc_values.specs.Limits.{operation_limit, operand_limit, load_limit}
use Rattle.sc_values.specs.Operator.{kind_of, unary_kind, binary_kind}
use Rattle.sc_values.specs.Expr.{kind, postorder}
use Rattle.sc_values.specs.Code.{grown, trees, only, loads, IsWellFormed}
use Rattle.sc_values.specs.Inside.Stack.{put_on, kind_acted, within_limit, tested, alone}
use Rattle.sc_values.proofs.Induction.{induct, postorder-literal, postorder-load, postorder-unary, postorder-binary, kind-literal, kind-load, kind-unary}
use Rattle.sc_values.proofs.Induction.{kind-binary}
use Rattle.sc_values.proofs.Spelling.{tree_of-spells}
use Rattle.sc_values.proofs.Loaded.{loaded_item}
use Rattle.sc_values.proofs.Running.{given, Fits, length-grown, fits_limit, well_formed_fits}

pub within_ok : (stack : List Kind) → length stack ≤ operand_limit → within_limit stack ≡ Some stack
within_ok stack h = ap (λ (b : Bool). cond b (Some stack) None) (le-leb (length stack) operand_limit h)

-- what stays within the limit
pub record Stays (stack after : List Kind) : Type 0 where
  pub same : after ≡ stack
  pub within : length stack ≤ operand_limit

pub within_is : (stack after : List Kind) → within_limit stack ≡ Some after → Stays stack after
within_is stack after is = go (nat_le (length stack) operand_limit) refl is
  where
    go : (b : Bool) → nat_le (length stack) operand_limit ≡ b → cond b (Some stack) None ≡ Some after → Stays stack after
    go true was left = record { same = cc; within = leb-true (length stack) operand_limit was }
    go false was left = absurd cc

-- ---- a well-formed code passes

pub record Passes (kinds : List Kind) (code rest : List Operation) (stack : List Kind) (k : Kind) : Type 0 where
  pub runs : tested kinds code stack ≡ tested kinds rest (k ∷ stack)
  pub fits : Fits rest (suc (length stack))

abbrev PassesIn : Expr → Type 0
PassesIn e = (kinds : List Kind) (k : Kind) (rest : List Operation) (stack : List Kind) → kind e kinds ≡ Some k → Fits (postorder e ++ rest) (length stack)
    → Passes kinds (postorder e ++ rest) rest stack k

fits_at : (c d : List Operation) (n : ℕ) → c ≡ d → Fits c n → Fits d n
fits_at c d n e h = let P : List Operation → Type 0 = λ l. Fits l n in subst P e h

fits_now : (code : List Operation) (n : ℕ) → Fits code n → n ≤ operand_limit
fits_now [] n fits = fits
fits_now (o ∷ code) n fits = fits.0

passes_at : (kinds : List Kind) (c d rest : List Operation) (stack : List Kind) (k : Kind) → c ≡ d → Passes kinds d rest stack k → Passes kinds c rest stack k
passes_at kinds c d rest stack k e h = record { runs = ap (λ l. tested kinds l stack) e ∙ h.runs; fits = h.fits }

-- an operation that leaves k on the stack
leaves : (kinds : List Kind) (o : Operation) (rest : List Operation) (before stack : List Kind) (k : Kind) → kind_acted (loaded_item kinds o) o before
    ≡ Some (k ∷ stack) → Fits rest (suc (length stack)) → tested kinds (o ∷ rest) before ≡ tested kinds rest (k ∷ stack)
leaves kinds o rest before stack k is fits =
    ap (λ s. option_and_then (tested kinds rest) (option_and_then within_limit s)) is
    ∙ ap (option_and_then (tested kinds rest)) (within_ok (k ∷ stack) (fits_now rest _ fits))

pub passes : (e : Expr) → PassesIn e
passes = induct PassesIn (record {
  of_literal = λ v kinds k rest stack is fits.
      let same : Some (kind_of v) ≡ Some k = sym (kind-literal v kinds) ∙ is in
      let e : kind_of v ≡ k = cc in
      let spelt = ap (λ c. c ++ rest) (postorder-literal v) in
      let now = fits_at _ _ _ spelt fits in
      passes_at kinds _ _ rest stack k spelt
      (record { runs = leaves kinds (op.Literal v) rest stack stack k (ap (λ j. Some (j ∷ stack)) e) now.1; fits = now.1 });
  of_load = λ x kinds k rest stack is fits.
      let spelt = ap (λ c. c ++ rest) (postorder-load x) in
      let now = fits_at _ _ _ spelt fits in
      passes_at kinds _ _ rest stack k spelt
      (record { runs = leaves kinds (op.Load x) rest stack stack k (ap (put_on stack) (sym (kind-load x kinds) ∙ is)) now.1; fits = now.1 });
  of_unary = λ f a left kinds k rest stack is fits.
      let g = given (unary_kind f) (kind a kinds) k (sym (kind-unary f a kinds) ∙ is) in
      let spelt = ap (λ c. c ++ rest) (postorder-unary f a) ∙ append_assoc (postorder a) (op.Unary f ∷ []) rest in
      let l = left kinds g.operand (op.Unary f ∷ rest) stack g.is (fits_at _ _ _ spelt fits) in
      passes_at kinds _ _ rest stack k spelt
      (record { runs = l.runs ∙ leaves kinds (op.Unary f) rest (g.operand ∷ stack) stack k (ap (put_on stack) g.gives) l.fits.1; fits = l.fits.1 });
  of_binary = λ f a b left right kinds k rest stack is fits.
      let g = given (λ m. option_and_then (binary_kind f m) (kind b kinds)) (kind a kinds) k (sym (kind-binary f a b kinds) ∙ is) in
      let h = given (binary_kind f g.operand) (kind b kinds) k g.gives in
      let spelt = ap (λ c. c ++ rest) (postorder-binary f a b) ∙ append_assoc (postorder a ++ postorder b) (op.Binary f ∷ []) rest
      ∙ append_assoc (postorder a) (postorder b) (op.Binary f ∷ rest) in
      let l = left kinds g.operand (postorder b ++ op.Binary f ∷ rest) stack g.is (fits_at _ _ _ spelt fits) in
      let r = right kinds h.operand (op.Binary f ∷ rest) (g.operand ∷ stack) h.is l.fits in
      let low : suc (suc (length stack)) - 1 ≡ suc (length stack) = omega arith in
      let P : ℕ → Type 0 = λ n. Fits rest n in
      let end = subst P low r.fits.1 in
      passes_at kinds _ _ rest stack k spelt
      (record {
        runs = l.runs ∙ r.runs ∙ leaves kinds (op.Binary f) rest (h.operand ∷ g.operand ∷ stack) stack k (ap (put_on stack) h.gives) end;
        fits = end;
      });
})

pub formed_tested : (kinds : List Kind) (code : List Operation) (formed : IsWellFormed kinds code) → tested kinds code [] ≡ Some (formed.gives ∷ [])
formed_tested kinds code formed =
    let whole : postorder formed.spelt ++ [] ≡ code = append-nil (postorder formed.spelt) ∙ formed.spells in
    let p = passes formed.spelt kinds formed.gives [] [] formed.kinded (fits_at _ _ _ (sym whole) (well_formed_fits kinds code formed)) in
    ap (λ c. tested kinds c []) (sym whole) ∙ p.runs

-- ---- a code that passes is well formed

-- these trees are of these kinds
abbrev pub KindsOf : List Kind → List Expr → List Kind → Type 0
KindsOf kinds [] [] = Unit {0}
KindsOf kinds (e ∷ trees) (k ∷ stack) = (kind e kinds ≡ Some k) × KindsOf kinds trees stack
KindsOf kinds trees stack = ⊥

length-kinds : (kinds : List Kind) (ts : List Expr) (stack : List Kind) → KindsOf kinds ts stack → length ts ≡ length stack
length-kinds kinds [] [] h = refl
length-kinds kinds (e ∷ ts) (k ∷ stack) h = ap suc (length-kinds kinds ts stack h.1)
length-kinds kinds [] (k ∷ stack) h = absurd h
length-kinds kinds (e ∷ ts) [] h = absurd h

record Puts (stack : List Kind) (o : Option Kind) (after : List Kind) : Type 0 where
  kind : Kind
  is : o ≡ Some kind
  put : after ≡ kind ∷ stack

puts : (stack : List Kind) (o : Option Kind) (after : List Kind) → put_on stack o ≡ Some after → Puts stack o after
puts stack None after is = absurd cc
puts stack (Some k) after is = record { kind = k; is = refl; put = cc }

pub record Grows (kinds : List Kind) (o : Operation) (ts : List Expr) (after : List Kind) : Type 0 where
  pub trees : List Expr
  pub grows : grown o ts ≡ Some trees
  pub kinds_of : KindsOf kinds trees after

kinds_at : (kinds : List Kind) (ts : List Expr) (s t : List Kind) → t ≡ s → KindsOf kinds ts s → KindsOf kinds ts t
kinds_at kinds ts s t e h = let P : List Kind → Type 0 = λ l. KindsOf kinds ts l in subst P (sym e) h

pub grows : (kinds : List Kind) (o : Operation) (ts : List Expr) (stack after : List Kind) → KindsOf kinds ts stack → kind_acted (loaded_item kinds o) o stack
    ≡ Some after → Grows kinds o ts after
grows kinds (op.Literal v) ts stack after h is =
    let e : after ≡ kind_of v ∷ stack = cc in
    let both : KindsOf kinds (roll-Expr (tree.Literal v) ∷ ts) (kind_of v ∷ stack) = (kind-literal v kinds, h) in
    record { trees = roll-Expr (tree.Literal v) ∷ ts; grows = refl; kinds_of = kinds_at kinds (roll-Expr (tree.Literal v) ∷ ts) _ _ e both }
grows kinds (op.Load x) ts stack after h is =
    let p = puts stack (slice_get kinds x) after is in
    let both : KindsOf kinds (roll-Expr (tree.Load x) ∷ ts) (p.kind ∷ stack) = (kind-load x kinds ∙ p.is, h) in
    record { trees = roll-Expr (tree.Load x) ∷ ts; grows = refl; kinds_of = kinds_at kinds (roll-Expr (tree.Load x) ∷ ts) _ _ p.put both }
grows kinds (op.Unary f) ts [] after h is = absurd cc
grows kinds (op.Unary f) [] (a ∷ stack) after h is = absurd h
grows kinds (op.Unary f) (e ∷ ts) (a ∷ stack) after h is =
    let p = puts stack (unary_kind f a) after is in
    let both : KindsOf kinds (roll-Expr (tree.Unary f e) ∷ ts) (p.kind ∷ stack) = (
      kind-unary f e kinds ∙ ap (option_and_then (unary_kind f)) h.0 ∙ p.is,
      h.1,
    ) in
    record { trees = roll-Expr (tree.Unary f e) ∷ ts; grows = refl; kinds_of = kinds_at kinds (roll-Expr (tree.Unary f e) ∷ ts) _ _ p.put both }
grows kinds (op.Binary f) ts [] after h is = absurd cc
grows kinds (op.Binary f) ts (b ∷ []) after h is = absurd cc
grows kinds (op.Binary f) [] (b ∷ a ∷ stack) after h is = absurd h
grows kinds (op.Binary f) (e ∷ []) (b ∷ a ∷ stack) after h is = absurd h.1
grows kinds (op.Binary f) (e ∷ d ∷ ts) (b ∷ a ∷ stack) after h is =
    let p = puts stack (binary_kind f a b) after is in
    let is_of =
    kind-binary f d e kinds
    ∙ ap (option_and_then (λ m. option_and_then (binary_kind f m) (kind e kinds))) h.1.0
    ∙ ap (option_and_then (binary_kind f a)) h.0
    ∙ p.is in
    let all : KindsOf kinds (roll-Expr (tree.Binary f d e) ∷ ts) (p.kind ∷ stack) = (is_of, h.1.1) in
    record { trees = roll-Expr (tree.Binary f d e) ∷ ts; grows = refl; kinds_of = kinds_at kinds (roll-Expr (tree.Binary f d e) ∷ ts) _ _ p.put all }

pub record Tested (kinds : List Kind) (code : List Operation) (ts : List Expr) (after : List Kind) : Type 0 where
  pub trees_are : List Expr
  pub leaves_them : trees code ts ≡ Some trees_are
  pub kinds_of : KindsOf kinds trees_are after
  pub fits : Fits code (length ts)

pub tested_trees : (kinds : List Kind) (code : List Operation) (ts : List Expr) (stack after : List Kind) → KindsOf kinds ts stack
    → length stack ≤ operand_limit → tested kinds code stack ≡ Some after → Tested kinds code ts after
tested_trees kinds [] ts stack after h low is =
    let e : after ≡ stack = cc in
    record { trees_are = ts; leaves_them = refl; kinds_of = kinds_at kinds _ _ _ e h; fits = omega (arith, length-kinds kinds ts stack h) }
tested_trees kinds (o ∷ code) ts stack after h low is =
    let g = given (tested kinds code) (option_and_then within_limit (kind_acted (loaded_item kinds o) o stack)) after is in
    let s = given within_limit (kind_acted (loaded_item kinds o) o stack) g.operand g.is in
    let w = within_is s.operand g.operand s.gives in
    let t = grows kinds o ts stack s.operand h s.is in
    let k : KindsOf kinds t.trees g.operand = kinds_at kinds _ _ _ w.same t.kinds_of in
    let r = tested_trees kinds code t.trees g.operand after k (let e = ap length w.same in let b = w.within in omega arith) g.gives in
    let P : ℕ → Type 0 = λ n. Fits code n in
    record {
      trees_are = r.trees_are;
      leaves_them = ap (option_and_then (trees code)) t.grows ∙ r.leaves_them;
      kinds_of = r.kinds_of;
      fits = (omega (arith, length-kinds kinds ts stack h), subst P (length-grown o ts t.trees t.grows) r.fits);
    }

pub tested_formed : (kinds : List Kind) (code : List Operation) (k : Kind) → tested kinds code [] ≡ Some (k ∷ []) → length code ≤ operation_limit
    → length (loads code) ≤ load_limit → IsWellFormed kinds code
tested_formed kinds code k is short few = go t.trees_are t.leaves_them t.kinds_of
  where
    t : Tested kinds code [] (k ∷ [])
    t = tested_trees kinds code [] [] (k ∷ []) tt (omega arith) is

    go : (ts : List Expr) → trees code [] ≡ Some ts → KindsOf kinds ts (k ∷ []) → IsWellFormed kinds code
    go [] was h = absurd h
    go (e ∷ d ∷ ts) was h = absurd h.1
    go (e ∷ []) was h = record {
      spelt = e;
      spells = tree_of-spells code e (ap (option_and_then only) was);
      gives = k;
      kinded = h.0;
      within = record { operations = short; operands = fits_limit code [] t.fits; loaded = few };
    }

alone_is : (stack : List Kind) (k : Kind) → alone stack ≡ Some k → stack ≡ k ∷ []
alone_is [] k is = absurd cc
alone_is (j ∷ []) k is = let e : j ≡ k = cc in ap (λ (l : Kind). l ∷ []) e
alone_is (j ∷ l ∷ stack) k is = absurd cc

-- it leaves one kind, and has few operations and loads
pub formed_where : (kinds : List Kind) (code : List Operation) → IsSome (option_and_then alone (tested kinds code [])) → length code ≤ operation_limit
    → length (loads code) ≤ load_limit → IsWellFormed kinds code
formed_where kinds code some short few = go (option_and_then alone (tested kinds code [])) refl some
  where
    go : (o : Option Kind) → option_and_then alone (tested kinds code []) ≡ o → IsSome o → IsWellFormed kinds code
    go None was is = absurd cc
    go (Some k) was is =
        let g = given alone (tested kinds code []) k was in
        tested_formed kinds code k (g.is ∙ ap Some (alone_is g.operand k g.gives)) short few

pub formed_leaves : (kinds : List Kind) (code : List Operation) → IsWellFormed kinds code → IsSome (option_and_then alone (tested kinds code []))
formed_leaves kinds code formed = ap (λ o. is_some (option_and_then alone o)) (formed_tested kinds code formed)
