-- What is wrong with the variables and the expressions of a draft: the list of all their flaws, each with its place. A
-- variable stands at its name, an expression at its first byte.
use Rattle.std.specs.Prelude.{ℕ, suc, ◌+◌, ◌-◌, nat_eq, nat_lt, max, Bool, true, false, not, ◌&&◌, ◌||◌, Option, Some, None, option_and_then, option_map, List}
use Rattle.std.specs.Prelude.{[], ◌∷◌, ◌++◌, length, map, count_by, slice_get}
use Rattle.std.specs.Option.{is_some}
use Rattle.std.specs.List.{list_all}
use Rattle.std.specs.Str.{bytes_eq}
use Rattle.sc_values.specs.declared.value.Kind.{Kind}
use Rattle.sc_values.specs.declared.value.Kind.TheVariants as kind
use Rattle.sc_values.specs.Operator.{kind_of, unary_kind, binary_kind}
use Rattle.sc_values.specs.Limits.{operation_limit, operand_limit, load_limit}
use Rattle.sc_graph.specs.Limits.{variable_limit, output_limit}
use Rattle.sc_graph.specs.Size.{is_output}
use Rattle.sc_graph.specs.declared.program.Role.{Role}
use Rattle.sc_graph.specs.declared.program.Role.TheVariants as role
use Rattle.sc_text.specs.declared.operation.TextOperation.{TextOperation}
use Rattle.sc_text.specs.declared.operation.TextOperation.TheVariants as text
use Rattle.sc_text.specs.declared.read_fault.FaultKind.{FaultKind}
use Rattle.sc_text.specs.declared.read_fault.FaultKind.TheVariants as broken
use Rattle.sc_text.specs.Phrases.{Phrase}
use Rattle.sc_text.specs.declared.drafts.flaw.Flaw.{Flaw}
use Rattle.sc_text.specs.declared.drafts.parts.Named.{Named}
use Rattle.sc_text.specs.declared.drafts.parts.TextExpression.{TextExpression}
use Rattle.sc_text.specs.declared.drafts.parts.Declaration.{Declaration}

abbrev pub flaw_if : Bool → FaultKind → ℕ → List Flaw
flaw_if false b at = []
flaw_if true b at = record { broken = b; at = at } ∷ []

-- there are so many already, and no more may be
abbrev pub is_full : (limit count : ℕ) → Bool
is_full limit count = not (nat_lt count limit)

-- ---- names

abbrev pub first_or : Bool → Option ℕ → Option ℕ
first_or true later = Some 0
first_or false later = option_map suc later

-- which of the names this is: the first of them that is equal
abbrev pub place_among : List (List ℕ) → List ℕ → Option ℕ
place_among [] name = None
place_among (n ∷ names) name = first_or (bytes_eq n name) (place_among names name)

abbrev pub is_among : List (List ℕ) → List ℕ → Bool
is_among names name = is_some (place_among names name)

-- the names of variables
abbrev pub variable_names : List Declaration → List (List ℕ)
variable_names variables = map (λ x. x.named.name) variables

-- the variable of this name: the first that is declared so
abbrev pub variable_named : List Declaration → List ℕ → Option Declaration
variable_named variables name = option_and_then (slice_get variables) (place_among (variable_names variables) name)

abbrev pub kind_named : List Declaration → List ℕ → Option Kind
kind_named variables name = option_map (λ x. x.kind) (variable_named variables name)

abbrev pub unknown_one : (List ℕ → Bool) → TextOperation → List Flaw
unknown_one is_known (text.Load name at) = flaw_if (not (is_known name)) broken.Unknown at
unknown_one is_known o = []

abbrev pub unknown_names : (List ℕ → Bool) → Phrase → List Flaw
unknown_names is_known [] = []
unknown_names is_known (o ∷ p) = unknown_one is_known o ++ unknown_names is_known p

-- ---- expressions

-- the kinds of the operands that stand behind an operation, the last one first; None: an operand is missing, or of another
-- kind, or a name is unknown
abbrev pub kinds_behind : (List ℕ → Option Kind) → TextOperation → List Kind → Option (List Kind)
kinds_behind kind_named (text.Literal v) stack = Some (kind_of v ∷ stack)
kinds_behind kind_named (text.Load name at) stack = option_map (λ k. k ∷ stack) (kind_named name)
kinds_behind kind_named (text.Unary f) (a ∷ stack) = option_map (λ k. k ∷ stack) (unary_kind f a)
kinds_behind kind_named (text.Binary f) (b ∷ a ∷ stack) = option_map (λ k. k ∷ stack) (binary_kind f a b)
kinds_behind kind_named o stack = None

abbrev pub kinds_left : (List ℕ → Option Kind) → Phrase → List Kind → Option (List Kind)
kinds_left kind_named [] stack = Some stack
kinds_left kind_named (o ∷ p) stack = option_and_then (kinds_left kind_named p) (kinds_behind kind_named o stack)

abbrev pub is_alone : Kind → Option (List Kind) → Bool
is_alone kind.Bool (Some (kind.Bool ∷ [])) = true
is_alone kind.Int (Some (kind.Int ∷ [])) = true
is_alone wanted stack = false

-- the expression is of this kind
abbrev pub is_of_kind : (List ℕ → Option Kind) → Kind → Phrase → Bool
is_of_kind kind_named wanted p = is_alone wanted (kinds_left kind_named p [])

abbrev pub has_known_name : (List ℕ → Bool) → TextOperation → Bool
has_known_name is_known (text.Load name at) = is_known name
has_known_name is_known o = true

-- an expression whose names are all known, where one of another kind is wanted
abbrev pub is_of_other_kind : List Declaration → Option Kind → Phrase → Bool
is_of_other_kind variables None p = false
is_of_other_kind variables (Some wanted) p =
    list_all (has_known_name (is_among (variable_names variables))) p
    && not (is_of_kind (kind_named variables) wanted p)

abbrev pub is_load : TextOperation → Bool
is_load (text.Load name at) = true
is_load o = false

-- how many operands stand behind an operation, where so many stood before it
abbrev pub height_behind : TextOperation → ℕ → ℕ
height_behind (text.Literal v) n = n + 1
height_behind (text.Load name at) n = n + 1
height_behind (text.Unary f) n = n
height_behind (text.Binary f) n = n - 1

-- the most operands that stand at any moment, where so many stand at first
abbrev pub greatest_height : ℕ → Phrase → ℕ
greatest_height n [] = n
greatest_height n (o ∷ p) = max n (greatest_height (height_behind o n) p)

abbrev pub passes_limits : Phrase → Bool
passes_limits p =
    nat_lt operation_limit (length p) || (nat_lt load_limit (count_by is_load p) || nat_lt operand_limit (greatest_height 0 p))

-- an expression where one of this kind is wanted; None: of any kind
abbrev pub expression_flaws : List Declaration → Option Kind → TextExpression → List Flaw
expression_flaws variables wanted e =
    unknown_names (is_among (variable_names variables)) e.operations
    ++ (flaw_if (is_of_other_kind variables wanted e.operations) broken.Kind e.start
    ++ flaw_if (passes_limits e.operations) broken.Limit e.start)

-- ---- variables

abbrev pub is_at : ℕ → Option ℕ → Bool
is_at at None = false
is_at at (Some place) = nat_eq place at

-- the name that stands at this place stands at an earlier one too
abbrev pub is_repeated : (names : List (List ℕ)) → (at : ℕ) → (name : List ℕ) → Bool
is_repeated names at name = not (is_at at (place_among names name))

abbrev pub one_more_if : Bool → ℕ → ℕ
one_more_if false n = n
one_more_if true n = n + 1

-- the variables from this place on, of these names; before them stand so many outputs
abbrev pub variable_flaws : (names : List (List ℕ)) → (at outputs : ℕ) → List Declaration → List Flaw
variable_flaws names at outputs [] = []
variable_flaws names at outputs (x ∷ more) =
    flaw_if (is_repeated names at x.named.name) broken.Repeated x.named.at
    ++ (flaw_if (is_full variable_limit at) broken.Limit x.named.at
    ++ (flaw_if (is_output x.role && is_full output_limit outputs) broken.Limit x.named.at
    ++ variable_flaws names (at + 1) (one_more_if (is_output x.role) outputs) more))

abbrev pub is_input : Role → Bool
is_input role.Input = true
is_input r = false

-- an assignment of a value to this variable, which is written so
abbrev pub assigned_flaws : List Declaration → Option Declaration → Named → TextExpression → List Flaw
assigned_flaws variables None target value = flaw_if true broken.Unknown target.at ++ expression_flaws variables None value
assigned_flaws variables (Some x) target value =
    flaw_if (is_input x.role) broken.Rule target.at ++ expression_flaws variables (Some x.kind) value
