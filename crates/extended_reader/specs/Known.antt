-- What is declared where a module is used, and which arguments fit its parameters.
use Rattle.std.specs.Prelude.{ℕ, Bool, true, false, ◌||◌, ◌&&◌, Option, Some, None, List, [], ◌∷◌, ◌++◌, codes, if◌then◌else◌}
use Rattle.std.specs.Str.{bytes_eq}
use Rattle.sc_values.specs.declared.value.Kind.{Kind}
use Rattle.sc_values.specs.declared.value.Kind.TheVariants as kind
use Rattle.sc_text.specs.declared.word.Word.TheVariants as word
use Rattle.sc_text.specs.declared.token.Token.{Token}
use Rattle.sc_text.specs.declared.token.TokenKind.{TokenKind}
use Rattle.sc_text.specs.declared.token.TokenKind.TheVariants as token
use Rattle.sc_text.specs.declared.read_fault.FaultKind.{FaultKind}
use Rattle.sc_text.specs.declared.read_fault.FaultKind.TheVariants as broken
use Rattle.extended_reader.specs.declared.modules.parts.ParameterRole.{ParameterRole}
use Rattle.extended_reader.specs.declared.modules.parts.ParameterRole.TheVariants as role
use Rattle.extended_reader.specs.declared.modules.parts.Parameter.{Parameter}
use Rattle.extended_reader.specs.declared.modules.parts.Known.{Known}
use Rattle.extended_reader.specs.Answer.{Answer, Good, Bad, next}
use Rattle.extended_reader.specs.Words.{is_word, is_declaring}

abbrev pub same_kind : Kind → Kind → Bool
same_kind kind.Bool kind.Bool = true
same_kind kind.Int kind.Int = true
same_kind k l = false

-- ---- what is known

-- the kind that these tell: a signal is a truth value
abbrev pub kind_by : TokenKind → Kind
kind_by (token.Word word.Int) = kind.Int
kind_by k = kind.Bool

abbrev pub is_writing : TokenKind → Bool
is_writing (token.Word word.Output) = true
is_writing (token.Word word.Local) = true
is_writing k = false

-- what is declared by three tokens: an output, a local variable or a signal may be assigned to
abbrev pub known_by : TokenKind → TokenKind → TokenKind → List Known
known_by before by (token.Name n) =
    if is_declaring by
    then record {
      kind = kind_by by;
      is_constant = is_word (codes "const") before;
      is_assignable = is_writing before || is_word (codes "signal") by;
      name = n;
    } ∷ []
    else []
known_by before by k = []

-- what is declared in a text, behind these two tokens
abbrev pub known_in : TokenKind → TokenKind → List Token → List Known
known_in before by [] = []
known_in before by (t ∷ text) = known_by before by t.kind ++ known_in by t.kind text

abbrev pub is_output : ParameterRole → Bool
is_output role.Output = true
is_output r = false

abbrev pub is_constant : ParameterRole → Bool
is_constant role.Constant = true
is_constant r = false

abbrev pub known_parameter : Parameter → Known
known_parameter p =
    record { kind = p.kind; is_constant = is_constant p.role; is_assignable = is_output p.role; name = p.named.name }

abbrev pub first_or_known : Bool → Known → Option Known → Option Known
first_or_known true k later = Some k
first_or_known false k later = later

-- what is declared under a name: the first
abbrev pub known_named : List Known → List ℕ → Option Known
known_named [] name = None
known_named (k ∷ known) name = first_or_known (bytes_eq k.name name) k (known_named known name)

-- ---- which arguments fit

-- the fault of a name as an argument, by what it is declared as. A constant is a constant of the kind, an input of the
-- module any variable of the kind, and an output one that may be assigned to
abbrev pub role_misfit : ParameterRole → Known → Option FaultKind
role_misfit role.Constant k = if k.is_constant then None else Some broken.Kind
role_misfit role.Output k = if k.is_assignable then None else Some broken.Rule
role_misfit r k = None

abbrev pub name_misfit : Parameter → Option Known → Option FaultKind
name_misfit p None = Some broken.Unknown
name_misfit p (Some k) = if same_kind p.kind k.kind then role_misfit p.role k else Some broken.Kind

-- the fault of a literal of this kind as an argument: a constant alone is one
abbrev pub literal_misfit : Parameter → Kind → Option FaultKind
literal_misfit p k = if is_constant p.role && same_kind p.kind k then None else Some broken.Kind

abbrev pub misfit : List Known → Parameter → TokenKind → Option FaultKind
misfit known p (token.Name n) = name_misfit p (known_named known n)
misfit known p (token.Number n) = literal_misfit p kind.Int
misfit known p k = literal_misfit p kind.Bool

abbrev pub misfit_at : ℕ → Option FaultKind → Answer (Unit {0})
misfit_at at None = Good tt
misfit_at at (Some b) = Bad b at

-- each argument fits its parameter, or the first that does not
abbrev pub fitting : List Known → List Parameter → List Token → Answer (Unit {0})
fitting known (p ∷ parameters) (t ∷ arguments) =
    next (misfit_at t.at (misfit known p t.kind)) (λ _. fitting known parameters arguments)
fitting known parameters arguments = Good tt
