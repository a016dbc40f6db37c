-- The warnings of a reduced chart that speak of what is the author's, in the numbers of his text: his states by those in the order of
-- his text, transitions and regions within their state, and variables by their own. A state of his has the transitions that it has
-- in his text, and its regions come before those that are made; and his variables come before those that are made.
use Rattle.std.specs.Prelude.{ℕ, zero, suc, nat_lt, Bool, true, false, Option, Some, None, List, [], ◌∷◌, ◌++◌, length, slice_get, unwrap_or}
use Rattle.chart_warnings.specs.declared.warning.Warning.{Warning}
use Rattle.chart_warnings.specs.declared.warning.Warning.TheVariants as warning
use Rattle.chart_warnings.specs.declared.texts.places.ChartPlaces.{ChartPlaces}
use Rattle.chart_warnings.specs.Places.{state_at}

-- ---- states. Of each state of the reduced chart a row has the number of the author's, if it is one of his

abbrev pub own : List (Option ℕ) → ℕ → Option ℕ
own states n = unwrap_or (slice_get states n) None

abbrev pub before : List (Option ℕ) → ℕ → Option ℕ
before states zero = None
before states (suc n) = own states n

abbrev pub or_else : Option ℕ → Option ℕ → Option ℕ
or_else (Some m) other = Some m
or_else None other = other

-- the state of his that is entered by this one: itself, or, where it is made, the one behind it, whose entry actions it makes
abbrev pub entered : List (Option ℕ) → ℕ → Option ℕ
entered states n = or_else (own states n) (own states (suc n))

-- the state of his whose regions stand in this one: itself, or, where it is made, the one before it, in which it stands
abbrev pub around : List (Option ℕ) → ℕ → Option ℕ
around states n = or_else (own states n) (before states n)

-- ---- one warning, if it speaks of a state of his

abbrev pub where_is : Bool → Warning → Option Warning
where_is true w = Some w
where_is false w = None

-- of an abort of a superstate. A simple state of his with during actions is left by `go`
abbrev pub stays_on : ChartPlaces → Option ℕ → (transition output : ℕ) → Option Warning
stays_on p None k x = None
stays_on p (Some m) k x = where_is (nat_lt 0 (length (state_at p m).regions)) (warning.StaysOn m k x)

abbrev pub forestalled : Option ℕ → (transition : ℕ) → Option Warning
forestalled None k = None
forestalled (Some m) k = Some (warning.Forestalled m k)

abbrev pub unreached : Option ℕ → Option Warning
unreached None = None
unreached (Some m) = Some (warning.Unreached m)

abbrev pub never_left : Option ℕ → Option Warning
never_left None = None
never_left (Some m) = Some (warning.NeverLeft m)

-- of a region of his
abbrev pub never_ended : ChartPlaces → Option ℕ → (transition region : ℕ) → Option Warning
never_ended p None k j = None
never_ended p (Some m) k j = where_is (nat_lt j (length (state_at p m).regions)) (warning.NeverEnded m k j)

-- of a variable of his
abbrev pub of_variable : ChartPlaces → ℕ → Warning → Option Warning
of_variable p x w = where_is (nat_lt x (length p.variables)) w

-- ---- all warnings

-- in his numbers, where these states are his, and his elements have these places
abbrev pub author_warning : (states : List (Option ℕ)) → ChartPlaces → Warning → Option Warning
author_warning states p (warning.StaysOn n k x) = stays_on p (own states n) k x
author_warning states p (warning.Forestalled n k) = forestalled (own states n) k
author_warning states p (warning.Unreached n) = unreached (entered states n)
author_warning states p (warning.NeverRead x) = of_variable p x (warning.NeverRead x)
author_warning states p (warning.NeverSet x) = of_variable p x (warning.NeverSet x)
author_warning states p (warning.NeverAsked x) = of_variable p x (warning.NeverAsked x)
author_warning states p (warning.NeverEnded n k j) = never_ended p (around states n) k j
author_warning states p (warning.NeverLeft n) = never_left (own states n)

abbrev pub listed : Option Warning → List Warning
listed None = []
listed (Some w) = w ∷ []

abbrev pub author_warnings : (states : List (Option ℕ)) → ChartPlaces → List Warning → List Warning
author_warnings states p [] = []
author_warnings states p (w ∷ warnings) = listed (author_warning states p w) ++ author_warnings states p warnings
