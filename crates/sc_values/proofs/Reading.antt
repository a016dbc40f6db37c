-- A variable stands in an expression where the expression's code loads it.
use Rattle.std.proofs.Common.{◌≡◌, ℕ, Bool, true, false, ◌||◌, nat_eq, refl, sym, ap, ◌∙◌}
use Rattle.std.specs.List.{list_any}
use Rattle.std.proofs.lemmas.List.Folds.{list_any-append}
use Rattle.sc_values.specs.declared.expression.Expr.{Expr}
use Rattle.sc_values.specs.declared.expression.Expr.TheOpen as tree
use Rattle.sc_values.specs.declared.expression.Expr.TheFolds.{fold-roll-Expr}
use Rattle.sc_values.specs.Assignment.{is_read, reads}
use Rattle.sc_values.specs.Inside.Reading.{names, names_step}
use Rattle.sc_values.proofs.Induction.{induct}
use Rattle.sc_values.proofs.Loading.{loads-literal, loads-load, loads-unary, loads-binary}

or_none : (b : Bool) → (b || false) ≡ b
or_none true = refl
or_none false = refl

or_both : (a b c d : Bool) → a ≡ b → c ≡ d → (a || c) ≡ (b || d)
or_both a b c d e f = ap (λ m. m || c) e ∙ ap (λ m. b || m) f

abbrev Same : ℕ → Expr → Type 0
Same x e = is_read x e ≡ names x e

pub read_where_named : (x : ℕ) (e : Expr) → is_read x e ≡ names x e
read_where_named x = induct (Same x) (record {
  of_literal = λ v. ap (list_any (nat_eq x)) (loads-literal v) ∙ sym (fold-roll-Expr Bool (names_step x) (tree.Literal v));
  of_load = λ y. ap (list_any (nat_eq x)) (loads-load y) ∙ or_none (nat_eq x y) ∙ sym (fold-roll-Expr Bool (names_step x) (tree.Load y));
  of_unary = λ f a e. ap (list_any (nat_eq x)) (loads-unary f a) ∙ e ∙ sym (fold-roll-Expr Bool (names_step x) (tree.Unary f a));
  of_binary = λ f a b e g.
      ap (list_any (nat_eq x)) (loads-binary f a b)
      ∙ list_any-append (nat_eq x) (reads a) (reads b)
      ∙ or_both (is_read x a) (names x a) (is_read x b) (names x b) e g
      ∙ sym (fold-roll-Expr Bool (names_step x) (tree.Binary f a b));
})
