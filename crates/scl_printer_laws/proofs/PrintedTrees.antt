-- What is printed of an expression reads as that expression.
use Rattle.std.proofs.Common.{◌≡◌, ℕ, ◌+◌, List, [], ◌++◌, length, sym, subst}
use Rattle.std.proofs.lemmas.List.{append-nil}
use Rattle.sc_values.specs.declared.value.Kind.{Kind}
use Rattle.sc_values.specs.declared.operation.Operation.{Operation}
use Rattle.sc_values.specs.declared.expression.Expr.{Expr}
use Rattle.sc_values.specs.declared.expression.Expr.TheOpen as tree
use Rattle.sc_values.specs.declared.expression.Expr.TheViews.{roll-Expr}
use Rattle.sc_values.specs.declared.expression.Expr.TheFolds.{fold-roll-Expr}
use Rattle.sc_values.specs.Expr.{postorder}
use Rattle.sc_values.proofs.Induction.{postorder-literal, postorder-load, postorder-unary, postorder-binary}
use Rattle.sc_graph.specs.declared.program.Variable.{Variable}
use Rattle.sc_text.specs.declared.language.Language.TheVariants as language
use Rattle.sc_text.specs.Tokens.{AreTokens, no_more}
use Rattle.sc_text.specs.Parts.{IsExpression}
use Rattle.sc_text.specs.Expression.{open_limit, within}
use Rattle.scl_printer.specs.declared.parentheses.Parentheses.{Parentheses}
use Rattle.scl_printer.specs.Expressions.{Shown, Opens, shown, shown_step, opens, parentheses_of, expression_text}
use Rattle.scl_printer_laws.specs.Reading.{names_of, CanWrite, a_literal, a_load, a_unary, a_binary, ReadsAs}
use Rattle.scl_printer_laws.proofs.Forms.{opens_literal, opens_load, opens_unary, opens_binary}
use Rattle.scl_printer_laws.proofs.FewOpen.{nest}
use Rattle.scl_printer_laws.proofs.Levels.{expression_is}
use Rattle.scl_printer_laws.proofs.Operands.{Printed, whole_level}
use Rattle.scl_printer_laws.proofs.Leaves.{literal_printed, load_printed}
use Rattle.scl_printer_laws.proofs.Unaries.{unary_printed}
use Rattle.scl_printer_laws.proofs.Binaries.{binary_printed}

module _ (variables : List Variable) (p : Parentheses) where
  abbrev Is : Expr → Type 0
  Is e = Printed (names_of variables) p (shown p variables e) (opens p e) (postorder e)

  made : (e : Expr) (s : Shown) (o : Opens) (c : List Operation) → shown p variables e ≡ s → opens p e ≡ o → postorder e ≡ c
      → Printed (names_of variables) p s o c → Is e
  made e s o c a b d h =
      subst (λ x. Printed (names_of variables) p x (opens p e) (postorder e)) (sym a)
      (subst (λ x. Printed (names_of variables) p s x (postorder e)) (sym b)
      (subst (λ x. Printed (names_of variables) p s o x) (sym d) h))

  pub printed : (e : Expr) → CanWrite variables e → Is e
  printed e (a_literal v w) =
      made (roll-Expr (tree.Literal v)) _ _ _ (fold-roll-Expr Shown (shown_step p variables) (tree.Literal v)) (opens_literal p v) (postorder-literal v)
      (literal_printed (names_of variables) p variables v w)
  printed e (a_load x w) =
      made (roll-Expr (tree.Load x)) _ _ _ (fold-roll-Expr Shown (shown_step p variables) (tree.Load x)) (opens_load p x) (postorder-load x)
      (load_printed p variables x w)
  printed e (a_unary f a w more) =
      made (roll-Expr (tree.Unary f a)) _ _ _ (fold-roll-Expr Shown (shown_step p variables) (tree.Unary f a)) (opens_unary p f a) (postorder-unary f a)
      (unary_printed (names_of variables) p variables (shown p variables a) (opens p a) (postorder a) (printed a more) f w)
  printed e (a_binary f a b left right) =
      made (roll-Expr (tree.Binary f a b)) _ _ _ (fold-roll-Expr Shown (shown_step p variables) (tree.Binary f a b)) (opens_binary p f a b)
      (postorder-binary f a b)
      (binary_printed (names_of variables) p variables (shown p variables a) (shown p variables b) (opens p a) (opens p b) (postorder a) (postorder b)
      (printed a left) (printed b right) f)

pub read : (variables : List Variable) (kinds : List Kind) (k : Kind) (e : Expr) → IsExpression kinds k e → CanWrite variables e
    → ReadsAs variables (expression_text variables e) e
read variables kinds k e is can =
    let p : Parentheses = parentheses_of e in
    let text : List ℕ = expression_text variables e in
    let h = printed variables p e can in
    let r = h.reads open_limit (nest kinds k e is) [] tt 0 in
    let cut : AreTokens language.Scl 0 (text ++ []) (r.tokens ++ []) = r.cut [] (no_more (0 + length text)) in
    record {
      tokens = r.tokens;
      cut = subst (λ ts. AreTokens language.Scl 0 text ts) (append-nil r.tokens) (subst (λ t. AreTokens language.Scl 0 t (r.tokens ++ []))
          (append-nil text) cut);
      phrase = r.phrase;
      spelled = expression_is r.tokens r.phrase (whole_level (shown p variables e).form (within open_limit) r.tokens r.phrase r.spelled);
      means = r.means;
    }
