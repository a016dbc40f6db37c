-- Traces under no rules, and traces that go on where another one ended.
use Rattle.std.proofs.Common.{◌≡◌, ◌⊎◌, ◌<◌, ◌≤◌, ℕ, true, false, List, [], ◌∷◌, ◌++◌, length, inl, inr, refl, sym, ap, subst, ◌∙◌, arith}
use Rattle.std.proofs.lemmas.Bool.{cases_order}
use Rattle.sc_graph.specs.Program.{Program}
use Rattle.bytecode.specs.Image.{Image}
use Rattle.trace_lines.specs.Lines.{line_limit}
use Rattle.trace_player.specs.Trace.{End, GivesNoInputs, Good, IsNoObject, NoInputs, NoObject, next_number}
use Rattle.trace_player.specs.Trace as plain
use Rattle.ruled_runs.specs.Lines.{IsBad}
use Rattle.ruled_runs.specs.Trace.{Ends, EndsAt, Goes, IsPassed, Makes, MakesTick, no_rules, with_lines}
use Rattle.ruled_runs.specs.declared.traces.answer.Bad.TheVariants as bad
use Rattle.ruled_runs.specs.declared.traces.place.RunPlace.{RunPlace}
use Rattle.ruled_runs.specs.declared.traces.rules.Rules.{Rules}

-- ---- no rules

lacking : (p : Program) (line : List ℕ) → IsBad no_rules p line bad.NoInputs → GivesNoInputs p line
lacking p line (inl none) = none
lacking p line (inr lacks) = let never : false ≡ true = lacks.strict in absurd cc

plain_object : (p : Program) (line : List ℕ) → (line_limit < length line) ⊎ Ends no_rules p line bad.NoObject → IsNoObject line
plain_object p line (inl long) = inl long
plain_object p line (inr ends) = inr ends.bad

plain_end : (p : Program) (k : ℕ) (line : List ℕ) (end : End) → EndsAt no_rules p k line end → plain.EndsAt p k line end
plain_end p k line Good ends = ends
plain_end p k line (NoInputs n) ends = (ends.0, lacking p line ends.1.bad)
plain_end p k line (NoObject n) ends = (ends.0, plain_object p line ends.1)

short_or_long : (line : List ℕ) → (length line ≤ line_limit) ⊎ (line_limit < length line)
short_or_long line = at (cases_order (length line) line_limit)
  where
    at : (length line ≡ line_limit) ⊎ ((length line < line_limit) ⊎ (line_limit < length line)) → (length line ≤ line_limit) ⊎ (line_limit < length line)
    at (inl same) = inl (omega (arith, same))
    at (inr (inl less)) = inl (omega (arith, less))
    at (inr (inr more)) = inr more

ruled_object : (p : Program) (line : List ℕ) → (length line ≤ line_limit) ⊎ (line_limit < length line) → IsNoObject line
    → (line_limit < length line) ⊎ Ends no_rules p line bad.NoObject
ruled_object p line by (inl long) = inl long
ruled_object p line (inr long) (inr none) = inl long
ruled_object p line (inl short) (inr none) = inr (record { stops = refl; short = short; bad = none })

ruled_end : (p : Program) (k : ℕ) (line : List ℕ) (end : End) → plain.EndsAt p k line end → EndsAt no_rules p k line end
ruled_end p k line Good ends = ends
ruled_end p k line (NoInputs n) ends = (ends.0, record { stops = refl; short = ends.1.short; bad = inl ends.1 })
ruled_end p k line (NoObject n) ends = (ends.0, ruled_object p line (short_or_long line) ends.1)

ticks_of : (image : Image) (from : RunPlace) (line : List ℕ) (to : RunPlace) (shown : List ℕ)
    → MakesTick no_rules image from line to shown ⊎ IsPassed no_rules image from line to shown → MakesTick no_rules image from line to shown
ticks_of image from line to shown (inl makes) = makes
ticks_of image from line to shown (inr passed) = let never : false ≡ true = passed.skips in absurd cc

pub to_plain : (image : Image) (from : RunPlace) (lines out : List (List ℕ)) (end : End) (last : RunPlace) → from.lines ≡ from.ticks
    → Goes no_rules image from lines out end last → plain.Goes image (next_number from.lines) from.control lines out end
to_plain image from [] [] end last alike goes = goes.0
to_plain image from [] (shown ∷ out) end last alike goes = goes
to_plain image from (line ∷ lines) [] end last alike goes = plain_end image.program (next_number from.lines) line end goes.0
to_plain image from (line ∷ lines) (shown ∷ out) end last alike goes =
    let to = goes.0 in
    let makes : Makes no_rules image from line to shown = goes.1 in
    let tick = ticks_of image from line to shown makes.made in
    let alike_behind : to.lines ≡ to.ticks = makes.lines ∙ ap next_number alike ∙ sym tick.ticks in (
      to.control,
      subst (λ k. plain.Shows image (next_number k) from.control line to.control shown) (sym alike) tick.shows,
      subst (λ k. plain.Goes image (next_number k) to.control lines out end) makes.lines (to_plain image to lines out end last alike_behind goes.2),
    )

pub of_plain : (image : Image) (from : RunPlace) (lines out : List (List ℕ)) (end : End) → from.lines ≡ from.ticks
    → plain.Goes image (next_number from.lines) from.control lines out end → (last : RunPlace) × Goes no_rules image from lines out end last
of_plain image from [] [] end alike goes = (from, (goes, refl))
of_plain image from [] (shown ∷ out) end alike goes = absurd goes
of_plain image from (line ∷ lines) [] end alike goes = (from, (ruled_end image.program (next_number from.lines) line end goes, refl))
of_plain image from (line ∷ lines) (shown ∷ out) end alike goes =
    let d = goes.0 in
    let to : RunPlace = record { lines = next_number from.lines; ticks = next_number from.ticks; control = d } in
    let shows : plain.Shows image (next_number from.ticks) from.control line d shown =
    subst (λ k. plain.Shows image (next_number k) from.control line d shown) alike goes.1 in
    let tick : MakesTick no_rules image from line to shown = record { shows = shows; named = λ e. absurd cc; ticks = refl } in
    let makes : Makes no_rules image from line to shown = record { lines = refl; made = inl tick } in
    let rest = of_plain image to lines out end (ap next_number alike) goes.2 in
    (rest.0, (to, makes, rest.1))

-- ---- going on

step_counted : (rules : Rules) (image : Image) (from : RunPlace) (n k : ℕ) (line : List ℕ) (to : RunPlace) (shown : List ℕ) → rules.skips ≡ false
    → MakesTick rules image (with_lines from n) line to shown ⊎ IsPassed rules image (with_lines from n) line to shown
    → Makes rules image (with_lines from k) line (with_lines to (next_number k)) shown
step_counted rules image from n k line to shown none (inl tick) =
    record { lines = refl; made = inl (record { shows = tick.shows; named = tick.named; ticks = tick.ticks }) }
step_counted rules image from n k line to shown none (inr passed) = let some : rules.skips ≡ true = passed.skips in absurd cc

-- lines are counted from another number on
counted : (rules : Rules) (image : Image) (from : RunPlace) (n k : ℕ) (lines out : List (List ℕ)) (last : RunPlace) → rules.skips ≡ false
    → Goes rules image (with_lines from n) lines out Good last → (m : ℕ) × Goes rules image (with_lines from k) lines out Good (with_lines last m)
counted rules image from n k [] [] last none goes = (k, (refl, ap (λ at. with_lines at k) goes.1))
counted rules image from n k [] (shown ∷ out) last none goes = absurd goes
counted rules image from n k (line ∷ lines) [] last none goes = absurd goes.0
counted rules image from n k (line ∷ lines) (shown ∷ out) last none goes =
    let to = goes.0 in
    let makes : Makes rules image (with_lines from n) line to shown = goes.1 in
    let rest = counted rules image to to.lines (next_number k) lines out last none goes.2 in
    (rest.0, (with_lines to (next_number k), step_counted rules image from n k line to shown none makes.made, rest.1))

pub resumed : (rules : Rules) (image : Image) (from middle last : RunPlace) (n : ℕ) (first second out more : List (List ℕ)) → rules.skips ≡ false
    → Goes rules image from first out Good middle → Goes rules image (with_lines middle n) second more Good last
    → (m : ℕ) × Goes rules image from (first ++ second) (out ++ more) Good (with_lines last m)
resumed rules image from middle last n [] second [] more none goes behind =
    counted rules image from n from.lines second more last none
    (subst (λ at. Goes rules image (with_lines at n) second more Good last) goes.1 behind)
resumed rules image from middle last n [] second (shown ∷ out) more none goes behind = absurd goes
resumed rules image from middle last n (line ∷ first) second [] more none goes behind = absurd goes.0
resumed rules image from middle last n (line ∷ first) second (shown ∷ out) more none goes behind =
    let rest = resumed rules image goes.0 middle last n first second out more none goes.2 behind in
    (rest.0, (goes.0, goes.1, rest.1))
