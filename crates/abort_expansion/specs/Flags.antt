-- What a superstate is given: a flag for its strong aborts, one for its weak aborts, and a termination counter, each a
-- local variable; and the names of all that expansion adds. Superstates are numbered from 1 in the order of the text.
use Rattle.std.specs.Prelude.{ℕ, ◌+◌, Bool, true, false, ◌||◌, ◌&&◌, Option, Some, None, List, [], ◌∷◌, ◌++◌, codes}
use Rattle.std.specs.List.{list_any}
use Rattle.sc_values.specs.declared.value.Kind.TheVariants as of_kind
use Rattle.sc_graph.specs.declared.program.Variable.{Variable}
use Rattle.sc_graph.specs.declared.program.Role.TheVariants as role
use Rattle.sc_text.specs.MadeNames.{numbered}
use Rattle.core_charts.specs.declared.region.Transition.{Transition}
use Rattle.core_charts.specs.Tests.{is_join}
use Rattle.core_charts.specs.Aborts.{has_strong, has_weak, has_aborts}
use Rattle.abort_expansion.specs.declared.flags.Flags.{Flags}

-- ---- names, of superstate s

abbrev pub strong_flag_name : ℕ → List ℕ
strong_flag_name = numbered (codes "_s")

abbrev pub weak_flag_name : ℕ → List ℕ
weak_flag_name = numbered (codes "_w")

abbrev pub counter_name : ℕ → List ℕ
counter_name = numbered (codes "_r")

abbrev pub preparation_name : ℕ → List ℕ
preparation_name = numbered (codes "_e")

abbrev pub continuation_name : ℕ → List ℕ
continuation_name = numbered (codes "_b")

abbrev pub monitor_name : ℕ → List ℕ
monitor_name = numbered (codes "_g")

abbrev pub watching_name : List ℕ
watching_name = codes "_v"

abbrev pub abandoned_name : List ℕ
abandoned_name = codes "_l"

abbrev pub first_name : List ℕ
first_name = codes "_i"

-- ---- flags

abbrev pub has_join : List Transition → Bool
has_join all = list_any (λ t. is_join t.kind) all

-- whether a superstate with these transitions has a termination counter, by whether weak aborts enclose it
abbrev pub counts : Bool → List Transition → Bool
counts weak_around all = has_join all && (has_aborts all || weak_around)

abbrev pub one : Bool → ℕ
one true = 1
one false = 0

abbrev pub given : Bool → ℕ → Option ℕ
given true x = Some x
given false x = None

-- how many variables a superstate is given
abbrev pub flag_count : Bool → List Transition → ℕ
flag_count weak_around all = one (has_strong all) + one (has_weak all) + one (counts weak_around all)

-- the variables of a superstate from number x on
abbrev pub flags_of : Bool → List Transition → (x : ℕ) → Flags
flags_of weak_around all x =
    record {
      strong = given (has_strong all) x;
      weak = given (has_weak all) (x + one (has_strong all));
      counter = given (counts weak_around all) (x + one (has_strong all) + one (has_weak all));
    }

abbrev pub local : List ℕ → Variable
local name = record { name = name; kind = of_kind.Int; role = role.Local }

abbrev pub declared : Option ℕ → List ℕ → List Variable
declared (Some x) name = local name ∷ []
declared None name = []

-- the declarations of the variables of superstate s
abbrev pub declarations : ℕ → Flags → List Variable
declarations s f =
    declared f.strong (strong_flag_name s) ++ declared f.weak (weak_flag_name s) ++ declared f.counter (counter_name s)

abbrev pub is_there : Option ℕ → Bool
is_there (Some x) = true
is_there None = false

-- whether some superstate of these has aborts, and weak ones
abbrev pub aborts_around : List Flags → Bool
aborts_around around = list_any (λ f. is_there f.strong || is_there f.weak) around

abbrev pub weak_around : List Flags → Bool
weak_around around = list_any (λ f. is_there f.weak) around
