-- A printed name, number or truth value is one token, which spells it.
use Rattle.std.proofs.Common.{◌≡◌, ℕ, zero, suc, true, false, ◌&&◌, pos, negsuc, List, [], ◌∷◌, ◌++◌, length, nat_le, codes, unwrap_or}
use Rattle.std.proofs.Common.{slice_get, refl, sym, ap, subst}
use Rattle.std.specs.Option.{is_some}
use Rattle.std.specs.List.{list_all}
use Rattle.std.proofs.lemmas.Bool.{and_parts}
use Rattle.sc_values.specs.Name.{is_letter, is_name}
use Rattle.sc_values.specs.Limits.{name_limit}
use Rattle.sc_values.specs.declared.value.Value.{Value}
use Rattle.sc_values.specs.declared.value.Value.TheVariants as value
use Rattle.sc_values.specs.declared.operation.Operation.{Operation}
use Rattle.sc_values.specs.declared.operation.Operation.TheVariants as op
use Rattle.sc_values.specs.declared.expression.Expr.TheOpen as tree
use Rattle.sc_graph.specs.declared.program.Variable.{Variable}
use Rattle.sc_text.specs.declared.word.Word.TheVariants as word
use Rattle.sc_text.specs.declared.token.TokenKind.{TokenKind}
use Rattle.sc_text.specs.declared.token.TokenKind.TheVariants as kind
use Rattle.sc_text.specs.Pieces.{is_word_byte}
use Rattle.sc_text.specs.Tokens.{IsReserved, a_name}
use Rattle.sc_text.specs.Phrases.{leaf_of}
use Rattle.sc_text.specs.Expression.{within, atom}
use Rattle.sc_text.specs.Levels.{leaves}
use Rattle.sc_text.specs.Flaws.{is_among, has_known_name}
use Rattle.sc_text.specs.Resolved.{code_of}
use Rattle.scl_printer.specs.declared.parentheses.Parentheses.{Parentheses}
use Rattle.scl_printer.specs.Expressions.{named, shown_step, opens_step}
use Rattle.scl_printer_laws.specs.Reading.{names_of, CanWriteLiteral, CanWriteVariable}
use Rattle.scl_printer_laws.proofs.Longest.{Closes, closes_word, Quiet, quiet_letter, word_longest}
use Rattle.scl_printer_laws.proofs.Cuts.{Cuts, cuts_one, cuts_word}
use Rattle.scl_printer_laws.proofs.Levels.{Fits, atom_leaf}
use Rattle.scl_printer_laws.proofs.Numbers.{cuts_number, number_quiet}
use Rattle.scl_printer_laws.proofs.Operands.{Reads, Printed}

reads_leaf : (names : List (List ℕ)) (n : ℕ) (text rest : List ℕ) (at : ℕ) (k : TokenKind) (o : Operation)
    → Cuts text rest at (record { kind = k; at = at } ∷ [])
    → Fits leaves (record { kind = k; at = at }) → code_of names (leaf_of k at ∷ []) ≡ o ∷ [] → has_known_name (is_among names) (leaf_of k at) ≡ true
    → Reads names (atom (within n)) text rest at (o ∷ [])
reads_leaf names n text rest at k o cut fits means known = record {
  tokens = record { kind = k; at = at } ∷ [];
  phrase = leaf_of k at ∷ [];
  cut = cut;
  spelled = atom_leaf (within n) (record { kind = k; at = at }) fits;
  means = means;
  known = (known, tt);
}

number_fits : (n at : ℕ) → Fits leaves (record { kind = kind.Number (pos n); at = at })
number_fits zero at = refl
number_fits (suc n) at = refl

pub literal_printed : (names : List (List ℕ)) (p : Parentheses) (variables : List Variable) (v : Value) → CanWriteLiteral v
    → Printed names p (shown_step p variables (tree.Literal v)) (opens_step p (tree.Literal v)) (op.Literal v ∷ [])
literal_printed names p variables (value.Bool true) w = record {
  same = refl;
  quiet = λ rest. quiet_letter 116 (codes "rue" ++ rest) refl;
  reads = λ n m rest closes at. reads_leaf names n (codes "true") rest at (kind.Word word.True) (op.Literal (value.Bool true))
      (cuts_word word.True 116 (codes "rue") refl refl refl rest (closes_word rest closes) at) refl refl refl;
}
literal_printed names p variables (value.Bool false) w = record {
  same = refl;
  quiet = λ rest. quiet_letter 102 (codes "alse" ++ rest) refl;
  reads = λ n m rest closes at. reads_leaf names n (codes "false") rest at (kind.Word word.False) (op.Literal (value.Bool false))
      (cuts_word word.False 102 (codes "alse") refl refl refl rest (closes_word rest closes) at) refl refl refl;
}
literal_printed names p variables (value.Int (pos i)) w = record {
  same = refl;
  quiet = number_quiet i w;
  reads = λ n m rest closes at. reads_leaf names n _ rest at (kind.Number (pos i)) (op.Literal (value.Int (pos i))) (cuts_number i w rest closes at)
      (number_fits i at) refl refl;
}
literal_printed names p variables (value.Int (negsuc i)) w = absurd w

-- ---- names

module _ (names : List (List ℕ)) (p : Parentheses) (x : ℕ) (first_byte : ℕ) (more : List ℕ) (is : is_name (first_byte ∷ more) ≡ true) (free : ¬ IsReserved
    (first_byte ∷ more)) where
  letters : (is_letter first_byte && list_all is_word_byte more ≡ true) × (nat_le (length (first_byte ∷ more)) name_limit ≡ true)
  letters = and_parts (is_letter first_byte && list_all is_word_byte more) (nat_le (length (first_byte ∷ more)) name_limit) is

  parts : (is_letter first_byte ≡ true) × (list_all is_word_byte more ≡ true)
  parts = and_parts (is_letter first_byte) (list_all is_word_byte more) letters.0

  name_quiet : (rest : List ℕ) → Quiet (first_byte ∷ (more ++ rest))
  name_quiet rest = quiet_letter first_byte (more ++ rest) parts.0

  name_cut : (rest : List ℕ) → Closes rest → (at : ℕ) → Cuts (first_byte ∷ more) rest at (record { kind = kind.Name (first_byte ∷ more); at = at } ∷ [])
  name_cut rest closes at =
      cuts_one (first_byte ∷ more) rest at (kind.Name (first_byte ∷ more)) (word_longest first_byte more rest parts.0 parts.1 (closes_word rest closes))
      (a_name first_byte more is refl free)

abbrev PrintedName : List (List ℕ) → List ℕ → ℕ → Type 0
PrintedName names text x =
    ((rest : List ℕ) → Quiet (text ++ rest))
    × ((n : ℕ) (rest : List ℕ) → Closes rest → (at : ℕ) → Reads names (atom (within n)) text rest at (op.Load x ∷ []))

name_printed : (names : List (List ℕ)) (p : Parentheses) (x : ℕ) (name : List ℕ) → is_name name ≡ true → ¬ IsReserved name
    → ((at : ℕ) → code_of names (leaf_of (kind.Name name) at ∷ []) ≡ op.Load x ∷ []) → is_among names name ≡ true → PrintedName names name x
name_printed names p x [] is free means found = absurd (cc)
name_printed names p x (c ∷ more) is free means found = (
  name_quiet names p x c more is free,
  λ n rest closes at. reads_leaf names n (c ∷ more) rest at (kind.Name (c ∷ more)) (op.Load x)
      (name_cut names p x c more is free rest closes at) refl (means at) found,
)

pub load_printed : (p : Parentheses) (variables : List Variable) (x : ℕ) → CanWriteVariable variables x
    → Printed (names_of variables) p (shown_step p variables (tree.Load x)) (opens_step p (tree.Load x)) (op.Load x ∷ [])
load_printed p variables x w =
    let text : named (slice_get variables x) ≡ w.variable.name = ap named w.stands in
    let h : PrintedName (names_of variables) (named (slice_get variables x)) x = subst (λ t. PrintedName (names_of variables) t x) (sym text)
    (name_printed (names_of variables) p x w.variable.name w.named w.free (λ at. ap (λ o. op.Load (unwrap_or o 0) ∷ []) w.first) (ap is_some w.first)) in
    record { same = refl; quiet = h.0; reads = λ n m rest closes at. h.1 n rest closes at }
