-- A printed expression, wherever it stands, is cut into tokens that spell it, the first of them with it, and it loads no unknown
-- name.
use Rattle.std.proofs.Common.{◌≡◌, ℕ, true, List, [], ◌∷◌, ◌++◌, refl}
use Rattle.grammar.specs.Grammar.{headed, spells}
use Rattle.grammar.specs.Predictive.{first, tails, empties}
use Rattle.grammar.specs.Read.{starts, read}
use Rattle.grammar.proofs.Reading.{begins_some}
use Rattle.grammar.proofs.Every.{reads}
use Rattle.sc_values.specs.declared.value.Kind.{Kind}
use Rattle.sc_values.specs.declared.operation.Operation.{Operation}
use Rattle.sc_values.specs.declared.expression.Expr.{Expr}
use Rattle.sc_values.specs.Expr.{postorder}
use Rattle.sc_graph.specs.declared.program.Variable.{Variable}
use Rattle.sc_text.specs.declared.token.Token.{Token}
use Rattle.sc_text.specs.Parts.{IsExpression}
use Rattle.sc_text.specs.Phrases.{Phrase}
use Rattle.sc_text.specs.Expression.{text_tokens, expression, open_limit, within}
use Rattle.sc_text.proofs.Shapes.{expression_is as expression_shaped}
use Rattle.sc_text.specs.Resolved.{code_of}
use Rattle.scl_printer.specs.declared.parentheses.Parentheses.{Parentheses}
use Rattle.scl_printer.specs.Expressions.{shown, parentheses_of, expression_text}
use Rattle.scl_printer_laws.specs.Reading.{names_of, CanWrite}
use Rattle.scl_printer_laws.proofs.FewOpen.{nest}
use Rattle.scl_printer_laws.proofs.Longest.{Closes, Quiet}
use Rattle.scl_printer_laws.proofs.Cuts.{Cuts}
use Rattle.scl_printer_laws.proofs.Levels.{expression_is}
use Rattle.scl_printer_laws.proofs.Operands.{AreKnown, whole_level}
use Rattle.scl_printer_laws.proofs.PrintedTrees.{printed}

-- where the text stands before this rest, it is cut into tokens that spell these operations, and they load known names
pub record Valued (names : List (List ℕ)) (text rest : List ℕ) (at : ℕ) (code : List Operation) : Type 0 where
  pub tokens : List Token
  pub value : Token × Phrase
  pub cut : Cuts text rest at tokens
  pub spelled : spells (headed (expression 0)) tokens value
  pub means : code_of names value.1 ≡ code
  pub known : AreKnown names value.1

begins : (tokens : List Token) (p : Phrase) → spells (expression 0) tokens p → starts text_tokens (first (expression 0)) tokens ≡ true
begins tokens p s =
    let is = expression_shaped 0 in
    begins_some text_tokens Phrase (spells (expression 0)) (read (expression 0)) (first (expression 0)) (tails (expression 0)) (empties (expression 0))
    (reads (expression 0) is.predictive) is.voids tokens p s

with_head : (names : List (List ℕ)) (text rest : List ℕ) (at : ℕ) (code : List Operation) (tokens : List Token) (p : Phrase) → Cuts text rest at tokens
    → spells (expression 0) tokens p → code_of names p ≡ code → AreKnown names p → Valued names text rest at code
with_head names text rest at code [] p cut s means known = let some = begins [] p s in absurd (cc)
with_head names text rest at code (t ∷ tokens) p cut s means known =
    record { tokens = t ∷ tokens; value = (t, p); cut = cut; spelled = (tokens, refl, s); means = means; known = known }

pub valued : (variables : List Variable) (kinds : List Kind) (k : Kind) (e : Expr) → IsExpression kinds k e → CanWrite variables e
    → (rest : List ℕ) → Closes rest → (at : ℕ) → Valued (names_of variables) (expression_text variables e) rest at (postorder e)
valued variables kinds k e is can rest closes at =
    let p : Parentheses = parentheses_of e in
    let r = (printed variables p e can).reads open_limit (nest kinds k e is) rest closes at in
    with_head (names_of variables) (expression_text variables e) rest at (postorder e) r.tokens r.phrase r.cut
    (expression_is r.tokens r.phrase (whole_level (shown p variables e).form (within open_limit) r.tokens r.phrase r.spelled)) r.means r.known

-- no sign before it grows by its first byte
pub value_quiet : (variables : List Variable) (e : Expr) → CanWrite variables e → (rest : List ℕ) → Quiet (expression_text variables e ++ rest)
value_quiet variables e can rest = (printed variables (parentheses_of e) e can).quiet rest
