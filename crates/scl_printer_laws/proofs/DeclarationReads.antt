-- Printed declarations read as the variables that they declare.
use Rattle.std.proofs.Common.{◌≡◌, ℕ, ◌+◌, List, [], ◌∷◌, ◌++◌, map, length, codes, refl, ap, ◌∙◌}
use Rattle.grammar.specs.Grammar.{each_spelled, spells}
use Rattle.grammar.proofs.Each.{Every}
use Rattle.sc_values.specs.declared.value.Kind.{Kind}
use Rattle.sc_values.specs.declared.value.Kind.TheVariants as kind_is
use Rattle.sc_graph.specs.declared.program.Role.{Role}
use Rattle.sc_graph.specs.declared.program.Role.TheVariants as role
use Rattle.sc_graph.specs.declared.program.Variable.{Variable}
use Rattle.sc_text.specs.declared.word.Word.{Word}
use Rattle.sc_text.specs.declared.word.Word.TheVariants as word
use Rattle.sc_text.specs.declared.sign.Sign.TheVariants as sign
use Rattle.sc_text.specs.declared.token.Token.{Token}
use Rattle.sc_text.specs.Classes.{TheWord}
use Rattle.sc_text.specs.DraftParts.{role_of, kind_of}
use Rattle.sc_text.specs.Resolved.{variables_of}
use Rattle.scl_printer.specs.Layout.{role_prefix, kind_prefix, declaration_text, declarations_text}
use Rattle.scl_reader.specs.Program.{name, semicolon, declaration}
use Rattle.scl_reader.specs.Draft.{declared}
use Rattle.scl_printer_laws.proofs.Cuts.{Cuts, cuts_both, cuts_nothing, signed_at, worded_at}
use Rattle.scl_printer_laws.proofs.Lines.{CanName, named_at, begins_at, cuts_line, cuts_name, cuts_word_space}
use Rattle.scl_printer_laws.proofs.LineParts.{cuts_semicolon}
use Rattle.scl_printer_laws.proofs.Levels.{Fits}
use Rattle.scl_printer_laws.proofs.Spelling.{before_of}

-- ---- the words of a declaration

abbrev role_word : Role → Word
role_word role.Input = word.Input
role_word role.Output = word.Output
role_word role.Local = word.Local

abbrev kind_word : Kind → Word
kind_word kind_is.Bool = word.Bool
kind_word kind_is.Int = word.Int

cuts_role : (r : Role) (rest : List ℕ) (at : ℕ) → Cuts (role_prefix r) rest at (worded_at (role_word r) at ∷ [])
cuts_role role.Input rest at = cuts_word_space word.Input 105 (codes "nput") refl refl refl rest at
cuts_role role.Output rest at = cuts_word_space word.Output 111 (codes "utput") refl refl refl rest at
cuts_role role.Local rest at = cuts_word_space word.Local 108 (codes "ocal") refl refl refl rest at

cuts_kind : (k : Kind) (rest : List ℕ) (at : ℕ) → Cuts (kind_prefix k) rest at (worded_at (kind_word k) at ∷ [])
cuts_kind kind_is.Bool rest at = cuts_word_space word.Bool 98 (codes "ool") refl refl refl rest at
cuts_kind kind_is.Int rest at = cuts_word_space word.Int 105 (codes "nt") refl refl refl rest at

role_fits : (r : Role) (at : ℕ) → Fits (TheWord word.Input ∷ TheWord word.Output ∷ TheWord word.Local ∷ []) (worded_at (role_word r) at)
role_fits role.Input at = refl
role_fits role.Output at = refl
role_fits role.Local at = refl

kind_fits : (k : Kind) (at : ℕ) → Fits (TheWord word.Bool ∷ TheWord word.Int ∷ []) (worded_at (kind_word k) at)
kind_fits kind_is.Bool at = refl
kind_fits kind_is.Int at = refl

role_is : (r : Role) (at : ℕ) → role_of (worded_at (role_word r) at).kind ≡ r
role_is role.Input at = refl
role_is role.Output at = refl
role_is role.Local at = refl

kind_is_it : (k : Kind) (at : ℕ) → kind_of (worded_at (kind_word k) at).kind ≡ k
kind_is_it kind_is.Bool at = refl
kind_is_it kind_is.Int at = refl

-- ---- declarations

pub record DeclarationsRead (text rest : List ℕ) (at : ℕ) (variables : List Variable) : Type 0 where
  pub tokens : List Token
  pub meaning : List (Token × (Token × Token))
  pub cut : Cuts text rest at tokens
  pub spelled : each_spelled (spells declaration) tokens meaning
  pub means : variables_of (map declared meaning) ≡ variables

declaration_is : (r k n s : Token) → Fits (TheWord word.Input ∷ TheWord word.Output ∷ TheWord word.Local ∷ []) r
    → Fits (TheWord word.Bool ∷ TheWord word.Int ∷ []) k
    → spells name (n ∷ []) n → Fits semicolon s → spells declaration (r ∷ (k ∷ (n ∷ s ∷ []))) (r, (k, n))
unfolding declaration
declaration_is r k n s a b c d =
    (r ∷ [], k ∷ (n ∷ s ∷ []), refl, (refl, a), (k ∷ [], n ∷ s ∷ [], refl, (refl, b), before_of semicolon name s (n ∷ []) n d c))

abbrev variable : List ℕ → Kind → Role → Variable
variable name k r = record { name = name; kind = k; role = r }

variable_is : (v : Variable) (r : Role) (k : Kind) → r ≡ v.role → k ≡ v.kind → variable v.name k r ≡ v
variable_is v r k e f = ap (variable v.name k) e ∙ ap (λ x. variable v.name x v.role) f

pub declarations_read : (variables : List Variable) → Every (λ v. CanName v.name) variables → (rest : List ℕ) (at : ℕ)
    → DeclarationsRead (declarations_text variables) rest at variables
declarations_read [] can rest at = record { tokens = []; meaning = []; cut = cuts_nothing rest at; spelled = refl; means = refl }
declarations_read (v ∷ variables) can rest at =
    let one : List ℕ = declaration_text v in
    let more : List ℕ = declarations_text variables in
    let whole : List ℕ = more ++ rest in
    let a : ℕ = begins_at 1 at in
    let b : ℕ = a + length (role_prefix v.role) in
    let c : ℕ = b + length (kind_prefix v.kind) in
    let end : ℕ = c + length v.name in
    let r : Token = worded_at (role_word v.role) a in
    let k : Token = worded_at (kind_word v.kind) b in
    let n : Token = named_at v.name c in
    let s : Token = signed_at sign.Semicolon end in
    let tokens : List Token = r ∷ (k ∷ (n ∷ s ∷ [])) in
    let behind_kind : List ℕ = v.name ++ codes ";" in
    let behind_role : List ℕ = kind_prefix v.kind ++ behind_kind in
    let later = declarations_read variables can.1 rest (at + length one) in
    record {
      tokens = tokens ++ later.tokens;
      meaning = (r, (k, n)) ∷ later.meaning;
      cut = cuts_both one more rest at tokens later.tokens
          (cuts_line 1 (role_prefix v.role ++ behind_role) whole at tokens
          (cuts_both (role_prefix v.role) behind_role (10 ∷ whole) a (r ∷ []) (k ∷ (n ∷ s ∷ [])) (cuts_role v.role (behind_role ++ 10 ∷ whole) a)
          (cuts_both (kind_prefix v.kind) behind_kind (10 ∷ whole) b (k ∷ []) (n ∷ s ∷ []) (cuts_kind v.kind (behind_kind ++ 10 ∷ whole) b)
          (cuts_both v.name (codes ";") (10 ∷ whole) c (n ∷ []) (s ∷ []) (cuts_name v.name can.0 (codes ";" ++ 10 ∷ whole) refl c)
          (cuts_semicolon whole end)))))
          later.cut;
      spelled = (tokens, later.tokens, refl, declaration_is r k n s (role_fits v.role a) (kind_fits v.kind b) (refl, refl) refl, later.spelled);
      means = ap (λ x. x ∷ variables_of (map declared later.meaning))
          (variable_is v (role_of r.kind) (kind_of k.kind) (role_is v.role a) (kind_is_it v.kind b))
          ∙ ap (λ xs. v ∷ xs) later.means;
    }
