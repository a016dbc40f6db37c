-- What is said of why a line gives no inputs.
use Rattle.std.specs.Prelude.{ℕ, Bool, true, false, codes, List, ◌++◌, string_bytes}
use Rattle.json.specs.Print.{quoted}
use Rattle.sc_values.specs.declared.value.Kind.{Kind}
use Rattle.sc_values.specs.declared.value.Kind.TheVariants as kind
use Rattle.trace_lines.specs.declared.causes.cause.Cause.{Cause}
use Rattle.trace_lines.specs.declared.causes.cause.Cause.TheVariants as cause
use Rattle.trace_lines.specs.declared.causes.cause.Met.{Met}
use Rattle.trace_lines.specs.declared.causes.cause.Met.TheVariants as met

abbrev pub kind_words : Kind → List ℕ
kind_words kind.Bool = codes "true or false"
kind_words kind.Int = codes "a whole number from -2147483648 to 2147483647"

-- what a whole number is that an input of this kind does not take
abbrev pub whole_words : Kind → List ℕ
whole_words kind.Bool = codes "a number"
whole_words kind.Int = codes "a number beyond"

abbrev pub met_words : Kind → Met → List ℕ
met_words kind met.Null = codes "null"
met_words kind (met.Truth true) = codes "true"
met_words kind (met.Truth false) = codes "false"
met_words kind met.Whole = whole_words kind
met_words kind met.Fraction = codes "a number with a fraction or an exponent"
met_words kind met.Text = codes "a text"
met_words kind met.List = codes "a list"
met_words kind met.Object = codes "an object"

-- what an input of this name and kind takes, and what this value is
abbrev pub value_words : List ℕ → Kind → Met → List ℕ
value_words name kind is = name ++ (codes " takes " ++ (kind_words kind ++ (codes ", and this is " ++ met_words kind is)))

abbrev pub cause_words : Cause → List ℕ
cause_words cause.TooLong = codes "longer than 65,536 bytes"
cause_words cause.NoObject = codes "not a JSON object"
cause_words (cause.NoInput name) = codes "no input " ++ quoted (string_bytes name)
cause_words (cause.NoValue name kind is) = value_words (string_bytes name) kind is
cause_words (cause.Missing name) = codes "no value for input " ++ quoted (string_bytes name)
