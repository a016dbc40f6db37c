-- Rows of what is printed.
use Rattle.std.proofs.Common.{◌≡◌, pos, negsuc, true, if◌then◌else◌, List, [], ◌∷◌, ◌++◌, ℕ, codes, refl, ap, ◌∙◌}
use Rattle.std.specs.Fmt.{digits}
use Rattle.sc_values.specs.declared.value.Value.{Value}
use Rattle.sc_values.specs.declared.value.Value.TheVariants as value
use Rattle.sc_values.specs.declared.value.Kind.TheVariants as kind
use Rattle.sc_values.specs.declared.divisor.Divisor.{Divisor}
use Rattle.sc_values.specs.declared.operator.UnaryOperator.{UnaryOperator}
use Rattle.sc_values.specs.declared.operator.UnaryOperator.TheVariants as unary
use Rattle.sc_values.specs.declared.operator.BinaryOperator.{BinaryOperator}
use Rattle.sc_values.specs.declared.operator.BinaryOperator.TheVariants as binary
use Rattle.sc_values.specs.declared.expression.Expr.{Expr}
use Rattle.sc_values.specs.declared.expression.Expr.TheOpen.{Expr-F}
use Rattle.sc_values.specs.declared.expression.Expr.TheOpen as tree
use Rattle.sc_graph.specs.declared.program.Variable.{Variable}
use Rattle.sc_graph.specs.declared.program.Role.TheVariants as role
use Rattle.sc_values.specs.declared.expression.Expr.TheVariants as expr
use Rattle.scl.specs.declared.statement.Statement.{Statement}
use Rattle.scl.specs.declared.statement.Statement.TheOpen as text
use Rattle.scl.specs.declared.statement.Statement.TheVariants as statement
use Rattle.scl.specs.Rules.{KeepsRules}
use Rattle.scl_printer.specs.declared.parentheses.Parentheses.TheVariants as parentheses
use Rattle.scl_printer.proofs.ShownTrees.{shown_unary, shown_binary, shown_load, shown_literal}
use Rattle.scl_printer.proofs.OpenTrees.{opens_unary, opens_binary, opens_load, opens_literal}
use Rattle.scl_printer.proofs.Shown.{text_of_assign, text_of_if, text_of_pause}
use Rattle.scl_printer.specs.Expressions.{Shown, Opens, shown, shown_step, opens, opens_step, parentheses_of, expression_text}
use Rattle.sc_text.specs.Expression.{open_limit}
use Rattle.scl_printer.specs.Layout.{Piece, line, declarations_text, statement_step, statement_text, statements_text, in_row, text_of}

abbrev variables : List Variable
variables =
    record { name = codes "a"; kind = kind.Int; role = role.Local }
    ∷ record { name = codes "x"; kind = kind.Int; role = role.Output }
    ∷ record { name = codes "on"; kind = kind.Bool; role = role.Input }
    ∷ []

declared : declarations_text variables ≡ codes "  local int a;\n  output int x;\n  input bool on;\n"
declared = refl

-- ---- expressions

abbrev a : Shown
a = shown_step parentheses.Each variables (tree.Load 0)

abbrev x : Shown
x = shown_step parentheses.Each variables (tree.Load 1)

abbrev one : Shown
one = shown_step parentheses.Each variables (tree.Literal (value.Int (pos 1)))

abbrev minus : Shown → Shown
minus e = shown_step parentheses.Each variables (tree.Unary unary.Negate e)

abbrev no : Shown → Shown
no e = shown_step parentheses.Each variables (tree.Unary unary.Not e)

abbrev by : Shown → BinaryOperator → Shown → Shown
by e f g = shown_step parentheses.Each variables (tree.Binary f e g)

one_text : one.text ≡ codes "1"
unfolding digits
one_text = refl

product : (by (minus (by a binary.Add one)) binary.Multiply x).text ≡ codes "(-(a + 1)) * x"
unfolding digits
product = refl

conjunction : (by (by x binary.Less a) binary.And (no (shown_step parentheses.Each variables (tree.Literal
    (value.Bool true))))).text ≡ codes "(x < a) and (not true)"
conjunction = refl

grouped_left : (by (by a binary.Subtract x) binary.Subtract a).text ≡ codes "(a - x) - a"
grouped_left = refl

grouped_right : (by a binary.Subtract (by x binary.Subtract a)).text ≡ codes "a - (x - a)"
grouped_right = refl

-- an operand of `min` and `max` that is an operation, one that is a function, and functions as operands
least : (by (by a binary.Add x) binary.Min (by a binary.Max (minus x))).text ≡ codes "min((a + x), max(a, (-x)))"
least = refl

greatest : (by (by a binary.Max x) binary.Add (minus (by a binary.Min x))).text ≡ codes "max(a, x) + (-min(a, x))"
greatest = refl

negations : (minus (minus a)).text ≡ codes "-(-a)"
negations = refl

divided : (d : Divisor) → d.number ≡ negsuc 1 → (shown_step parentheses.Each variables (tree.Unary (unary.Divide d) (minus a))).text ≡ codes "(-a) / -2"
unfolding digits
divided d is = rw is refl

-- ---- statements

abbrev label : List ℕ → Piece
label name = statement_step variables (text.Label name)

abbrev goto : List ℕ → Piece
goto name = statement_step variables (text.Goto name)

abbrev pause : Piece
pause = statement_step variables text.Pause

assigned : (e : Expr) → statement_step variables (text.Assign 1 e) 1 ≡ codes "  x = " ++ (expression_text variables e ++ codes ";" ++ codes "\n")
assigned e = refl

one_list : (e : Expr) → statement_step variables (text.If e (pause ∷ []) []) 1
    ≡ codes "  if (" ++ (((expression_text variables e ++ codes ") {") ++ codes "\n") ++ codes "    pause;\n  }\n")
one_list e = refl

two_lists : (e : Expr) → statement_step variables (text.If e [] (label (codes "L") ∷ goto (codes "L") ∷ [])) 1
    ≡ codes "  if (" ++ (((expression_text variables e ++ codes ") {") ++ codes "\n") ++ codes "  } else {\n    L:\n    goto L;\n  }\n")
two_lists e = refl

forked : in_row (statement_step variables (text.Fork ((pause ∷ []) ∷ [] ∷ (statement_step variables (text.Fork ([] ∷ [])) ∷ []) ∷ [])) ∷ pause ∷ []) 1
    ≡ codes "  fork {\n    pause;\n  } par {\n  } par {\n    fork {\n    } join;\n  } join;\n  pause;\n"
forked = refl

-- ---- a program

abbrev two : List Variable
two =
    record { name = codes "a"; kind = kind.Int; role = role.Local }
    ∷ record { name = codes "x"; kind = kind.Int; role = role.Output }
    ∷ []

abbrev shown_two : Expr → Shown
shown_two = shown parentheses.Each two

abbrev step_two : Expr-F Shown → Shown
step_two = shown_step parentheses.Each two

binary_is : (f : BinaryOperator) (e g : Expr) (s t : Shown) → shown_two e ≡ s → shown_two g ≡ t → shown_two (expr.Binary f e g) ≡ step_two (tree.Binary f s t)
binary_is f e g s t left right =
    shown_binary parentheses.Each two f e g
    ∙ ap (λ l. step_two (tree.Binary f l (shown_two g))) left
    ∙ ap (λ r. step_two (tree.Binary f s r)) right

unary_is : (f : UnaryOperator) (e : Expr) (s : Shown) → shown_two e ≡ s → shown_two (expr.Unary f e) ≡ step_two (tree.Unary f s)
unary_is f e s inner = shown_unary parentheses.Each two f e ∙ ap (λ i. step_two (tree.Unary f i)) inner

abbrev load_is : (x : ℕ) → shown_two (expr.Load x) ≡ step_two (tree.Load x)
load_is = shown_load parentheses.Each two

abbrev literal_is : (v : Value) → shown_two (expr.Literal v) ≡ step_two (tree.Literal v)
literal_is = shown_literal parentheses.Each two

-- what is open at once
abbrev opens_each : Expr → Opens
opens_each = opens parentheses.Each

abbrev opened : Expr-F Opens → Opens
opened = opens_step parentheses.Each

binary_opens : (f : BinaryOperator) (e g : Expr) (s t : Opens) → opens_each e ≡ s → opens_each g ≡ t
    → opens_each (expr.Binary f e g) ≡ opened (tree.Binary f s t)
binary_opens f e g s t left right =
    opens_binary parentheses.Each f e g
    ∙ ap (λ l. opened (tree.Binary f l (opens_each g))) left
    ∙ ap (λ r. opened (tree.Binary f s r)) right

unary_opens : (f : UnaryOperator) (e : Expr) (s : Opens) → opens_each e ≡ s → opens_each (expr.Unary f e) ≡ opened (tree.Unary f s)
unary_opens f e s inner = opens_unary parentheses.Each f e ∙ ap (λ i. opened (tree.Unary f i)) inner

-- where a reader takes so many, each operand that is an operation stands in parentheses
each_text : (e : Expr) (s : Opens) (t : Shown) → opens_each e ≡ s → s.at_most open_limit ≡ true → shown_two e ≡ t → expression_text two e ≡ t.text
each_text e s t is few text =
    let all : parentheses_of e ≡ parentheses.Each =
    ap (λ (o : Opens). if o.at_most open_limit then parentheses.Each else parentheses.Few) is ∙ ap (λ b. if b then parentheses.Each else parentheses.Few) few in
    ap (λ p. (shown p two e).text) all ∙ ap (λ s. s.text) text

abbrev sum : Expr
sum = expr.Binary binary.Add (expr.Load 0) (expr.Literal (value.Int (pos 1)))

abbrev product_of_sum : Expr
product_of_sum = expr.Binary binary.Multiply (expr.Unary unary.Negate sum) (expr.Load 1)

abbrev test : Expr
test = expr.Binary binary.And (expr.Binary binary.Less (expr.Load 1) (expr.Load 0)) (expr.Unary unary.Not (expr.Literal (value.Bool true)))

abbrev least_of_both : Expr
least_of_both = expr.Binary binary.Min (expr.Load 0) (expr.Load 1)

product_text : expression_text two product_of_sum ≡ codes "(-(a + 1)) * x"
unfolding digits
product_text =
    each_text product_of_sum _ _
    (binary_opens binary.Multiply (expr.Unary unary.Negate sum) (expr.Load 1) _ _
    (unary_opens unary.Negate sum _
    (binary_opens binary.Add (expr.Load 0) (expr.Literal (value.Int (pos 1))) _ _ (opens_load parentheses.Each 0) (opens_literal parentheses.Each
    (value.Int (pos 1)))))
    (opens_load parentheses.Each 1))
    refl
    (binary_is binary.Multiply (expr.Unary unary.Negate sum) (expr.Load 1) _ _
    (unary_is unary.Negate sum _
    (binary_is binary.Add (expr.Load 0) (expr.Literal (value.Int (pos 1))) _ _ (load_is 0) (literal_is (value.Int (pos 1)))))
    (load_is 1))

test_text : expression_text two test ≡ codes "(x < a) and (not true)"
test_text =
    each_text test _ _
    (binary_opens binary.And (expr.Binary binary.Less (expr.Load 1) (expr.Load 0)) (expr.Unary unary.Not (expr.Literal (value.Bool true))) _ _
    (binary_opens binary.Less (expr.Load 1) (expr.Load 0) _ _ (opens_load parentheses.Each 1) (opens_load parentheses.Each 0))
    (unary_opens unary.Not (expr.Literal (value.Bool true)) _ (opens_literal parentheses.Each (value.Bool true))))
    refl
    (binary_is binary.And (expr.Binary binary.Less (expr.Load 1) (expr.Load 0)) (expr.Unary unary.Not (expr.Literal (value.Bool true))) _ _
    (binary_is binary.Less (expr.Load 1) (expr.Load 0) _ _ (load_is 1) (load_is 0))
    (unary_is unary.Not (expr.Literal (value.Bool true)) _ (literal_is (value.Bool true))))

least_text : expression_text two least_of_both ≡ codes "min(a, x)"
least_text =
    each_text least_of_both _ _
    (binary_opens binary.Min (expr.Load 0) (expr.Load 1) _ _ (opens_load parentheses.Each 0) (opens_load parentheses.Each 1))
    refl
    (binary_is binary.Min (expr.Load 0) (expr.Load 1) _ _ (load_is 0) (load_is 1))

-- ---- few parentheses

abbrev few : Expr-F Shown → Shown
few = shown_step parentheses.Few two

few_negations : (few (tree.Unary unary.Negate (few (tree.Unary unary.Negate (few (tree.Load 0)))))).text ≡ codes "--a"
few_negations = refl

few_quotients : (d : Divisor) → d.number ≡ pos 2
    → (few (tree.Unary unary.Negate (few (tree.Unary (unary.Divide d) (few (tree.Unary unary.Negate (few (tree.Load 0)))))))).text ≡ codes "-(-a / 2)"
unfolding digits
few_quotients d is = rw is refl

few_sums : (few (tree.Binary binary.Subtract (few (tree.Binary binary.Add (few (tree.Load 0)) (few (tree.Load 1)))) (few (tree.Unary unary.Negate (few
    (tree.Load 0)))))).text ≡ codes "(a + x) - -a"
few_sums = refl

few_truths : (few (tree.Binary binary.Equal (few (tree.Unary unary.Not (few (tree.Unary unary.Not (few (tree.Load 0)))))) (few
    (tree.Load 1)))).text ≡ codes "(not not a) == x"
few_truths = refl

few_both : (few (tree.Binary binary.And (few (tree.Unary unary.Not (few (tree.Load 0)))) (few (tree.Binary binary.Or (few (tree.Load 1)) (few
    (tree.Load 0)))))).text ≡ codes "not a and (x or a)"
few_both = refl

abbrev inner : Statement
inner = statement.Assign 1 least_of_both

abbrev body : List Statement
body = statement.Assign 0 product_of_sum ∷ statement.If test (inner ∷ []) [] ∷ statement.Pause ∷ []

product_line : statement_text two (statement.Assign 0 product_of_sum) 1 ≡ codes "  a = (-(a + 1)) * x;\n"
product_line =
    ap (λ f. f 1) (text_of_assign two 0 product_of_sum)
    ∙ ap (λ t. line (codes "a = " ++ (t ++ codes ";")) 1) product_text

inner_line : statement_text two inner 2 ≡ codes "    x = min(a, x);\n"
inner_line = ap (λ f. f 2) (text_of_assign two 1 least_of_both) ∙ ap (λ t. line (codes "x = " ++ (t ++ codes ";")) 2) least_text

test_lines : statement_text two (statement.If test (inner ∷ []) []) 1 ≡ codes "  if ((x < a) and (not true)) {\n    x = min(a, x);\n  }\n"
test_lines =
    ap (λ f. f 1) (text_of_if two test (inner ∷ []) [])
    ∙ ap (λ t. line (codes "if (" ++ (t ++ codes ") {")) 1 ++ ((statement_text two inner 2 ++ []) ++ codes "  }\n")) test_text
    ∙ ap (λ t. codes "  if ((x < a) and (not true)) {\n" ++ ((t ++ []) ++ codes "  }\n")) inner_line

body_text : statements_text two body 1
    ≡ codes "  a = (-(a + 1)) * x;\n  if ((x < a) and (not true)) {\n    x = min(a, x);\n  }\n  pause;\n"
body_text =
    ap (λ t. t ++ (statement_text two (statement.If test (inner ∷ []) []) 1 ++ (statement_text two statement.Pause 1 ++ []))) product_line
    ∙ ap (λ t. codes "  a = (-(a + 1)) * x;\n" ++ (t ++ (statement_text two statement.Pause 1 ++ []))) test_lines
    ∙ ap (λ f. codes "  a = (-(a + 1)) * x;\n  if ((x < a) and (not true)) {\n    x = min(a, x);\n  }\n" ++ (f 1 ++ [])) (text_of_pause two)

printed : (kept : ∥ KeepsRules (codes "P") two body ∥₁)
    → text_of (record { name = codes "P"; variables = two; body = body; kept = kept })
    ≡ codes "scl P {\n  local int a;\n  output int x;\n  a = (-(a + 1)) * x;\n  if ((x < a) and (not true)) {\n    x = min(a, x);\n  }\n  pause;\n}\n"
printed kept = ap (λ t. codes "scl P {\n  local int a;\n  output int x;\n" ++ (t ++ codes "}\n")) body_text
