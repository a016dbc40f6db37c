-- What stands among the variables of an extended chart: its variables with its signals, what variables were, and its constants. Expressions
-- number them in this order, those of one sort in the order of the text.
use Rattle.std.specs.Prelude.{ℕ, Bool, true, false, not, Option, Some, None, List, [], ◌∷◌, ◌++◌, map, codes, option_map, unwrap_or}
use Rattle.std.specs.Str.{bytes_eq}
use Rattle.sc_values.specs.declared.value.Value.{Value}
use Rattle.sc_values.specs.declared.value.Value.TheVariants as value
use Rattle.sc_values.specs.declared.operator.UnaryOperator.TheVariants as unary
use Rattle.sc_values.specs.Operator.{unary_value}
use Rattle.sc_text.specs.declared.operation.TextOperation.{TextOperation}
use Rattle.sc_text.specs.declared.operation.TextOperation.TheVariants as text
use Rattle.sc_text.specs.Phrases.{Phrase}
use Rattle.sc_text.specs.declared.drafts.parts.Named.{Named}
use Rattle.sc_text.specs.declared.drafts.parts.TextExpression.{TextExpression}
use Rattle.sc_text.specs.declared.drafts.parts.Declaration.{Declaration}
use Rattle.sc_text.specs.Flaws.{variable_names}
use Rattle.sc_text.specs.Resolved.{number_of, variable_of}
use Rattle.extended_reader.specs.declared.text_drafts.draft.DraftItem.{DraftItem}
use Rattle.extended_reader.specs.Flaws.{signals}
use Rattle.extended_charts.specs.declared.extended.Declared.{Declared}
use Rattle.extended_charts.specs.declared.extended.Constant.{Constant}
use Rattle.extended_reader.specs.declared.sorts.Sort.{Sort}
use Rattle.extended_reader.specs.declared.sorts.Sort.TheVariants as sort

-- ---- sorts

-- what stands behind no word is a variable, and behind `const` a constant; the other word is `pre`
abbrev pub is_of : Sort → Option Named → Bool
is_of sort.Variable None = true
is_of sort.Variable (Some word) = false
is_of sort.Before None = false
is_of sort.Before (Some word) = not (bytes_eq word.name (codes "const"))
is_of sort.Constant None = false
is_of sort.Constant (Some word) = bytes_eq word.name (codes "const")

abbrev pub one_if : {A : Type 0} → Bool → A → List A
one_if true x = x ∷ []
one_if false x = []

-- the items of a sort, in the order of the text
abbrev pub all_of : Sort → List DraftItem → List DraftItem
all_of s [] = []
all_of s (x ∷ items) = one_if (is_of s x.word) x ++ all_of s items

-- the items in the order of their numbers
abbrev pub sorted : List DraftItem → List DraftItem
sorted items = all_of sort.Variable items ++ all_of sort.Before items ++ all_of sort.Constant items

-- what these items are declared as
abbrev pub declarations : List DraftItem → List Declaration
declarations items = map (λ x. x.declared) items

-- the names by which expressions are numbered
abbrev pub names_of : List DraftItem → List (List ℕ)
names_of items = variable_names (declarations (sorted items))

-- ---- values

abbrev pub literal_of : TextOperation → Value
literal_of (text.Literal v) = v
literal_of o = value.Bool false

-- the number with the other sign
abbrev pub negated : Value → Value
negated v = unwrap_or (unary_value unary.Negate v) v

-- the value of a literal, or of one under a minus. A draft without flaws has no other one
abbrev pub value_of : Phrase → Value
value_of (o ∷ []) = literal_of o
value_of (o ∷ minus ∷ []) = negated (literal_of o)
value_of p = value.Bool false

abbrev pub value_in : Option TextExpression → Value
value_in None = value.Bool false
value_in (Some e) = value_of e.operations

-- ---- items

abbrev pub declared_of : DraftItem → Declared
declared_of x =
    record {
      variable = variable_of x.declared;
      initial = option_map (λ e. value_of e.operations) x.value;
    }

-- the numbers of the signals among these items
abbrev pub signal_numbers : (names : List (List ℕ)) → List DraftItem → List ℕ
signal_numbers names items = map (λ x. number_of names x.named.name) (signals items)

abbrev pub constant_of : DraftItem → Constant
constant_of x = record { name = x.declared.named.name; value = value_in x.value }

-- the variable that is named alone, where names are numbered so
abbrev pub variable_alone : (names : List (List ℕ)) → Phrase → ℕ
variable_alone names (text.Load name at ∷ []) = number_of names name
variable_alone names p = 0

-- the variable of which is asked what it was
abbrev pub before_of : (names : List (List ℕ)) → DraftItem → ℕ
before_of names x = unwrap_or (option_map (λ e. variable_alone names e.operations) x.value) 0
