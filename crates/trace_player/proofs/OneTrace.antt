-- The same lines have one trace.
use Rattle.std.proofs.Common.{ℕ, ◌≡◌, ◌≤◌, Some, List, [], ◌∷◌, length, refl, ap, sym, ◌∙◌, subst, arith, inl, inr}
use Rattle.std.proofs.lemmas.List.Sorted.{length_permutation}
use Rattle.serde_json.specs.Data.{Members}
use Rattle.sc_graph.specs.declared.control.Control.{Control}
use Rattle.sc_graph.specs.Program.{Program}
use Rattle.sc_graph.specs.Tick.{Inputs, initial}
use Rattle.bytecode.specs.Image.{Image}
use Rattle.trace_lines.specs.Line.{IsObjectOf, inputs_of}
use Rattle.trace_lines.specs.Lines.{line_limit}
use Rattle.trace_lines.specs.Output.{outputs_of, tick_line}
use Rattle.trace_player.specs.Trace.{GivesInputs, GivesNoInputs, IsNoObject, Reacts, Shows, End, Good, NoInputs, NoObject, EndsAt, next_number, Goes, Trace}

one_object : (line : List ℕ) (a b : Members) → IsObjectOf line a → IsObjectOf line b → a ≡ b
one_object line a b x y =
    let left = x.1 in
    let right = y.1 in
    cc (left, right)

one_gift : (p : Program) (line : List ℕ) (a b : Inputs) → GivesInputs p line a → GivesInputs p line b → a ≡ b
one_gift p line a b x y =
    let same = one_object line x.members y.members x.object y.object in
    let left : inputs_of p.variables x.members ≡ Some a = x.given in
    let right : inputs_of p.variables y.members ≡ Some b = y.given in
    cc (same, left, right)

one_reaction : (image : Image) (inputs : Inputs) (c d e : Control) (m n : ℕ) → Reacts image inputs c d m → Reacts image inputs c e n → (e ≡ d) × (n ≡ m)
one_reaction image inputs c d e m n x y = (
  x.tick.one_end e (record { run = y.run; complete = y.tick.complete; admissible = y.tick.admissible }),
  y.count ∙ sym (length_permutation y.run x.run (x.tick.reordered y.run e y.tick.complete y.tick.admissible)) ∙ sym x.count,
)

one_shown : (image : Image) (k : ℕ) (c d e : Control) (line shown other : List ℕ) → Shows image k c line d shown → Shows image k c line e other
    → (e ≡ d) × (other ≡ shown)
one_shown image k c d e line shown other x y =
    let variables = image.program.variables in
    let same = one_gift image.program line y.inputs x.inputs y.gives x.gives in
    let one = one_reaction image x.inputs c d e x.steps y.steps x.reacts (subst (λ i. Reacts image i c e y.steps) same y.reacts) in (
      one.0,
      y.is ∙ ap (λ n. tick_line k n (outputs_of variables e.variables)) one.1 ∙ ap (λ w. tick_line k x.steps (outputs_of variables w.variables)) one.0
          ∙ sym x.is,
    )

-- no line gives inputs that are accepted, and none that are
not_both : (p : Program) (line : List ℕ) (inputs : Inputs) → GivesNoInputs p line → GivesInputs p line inputs → ⊥
not_both p line inputs none gives =
    let same = one_object line gives.members none.members gives.object none.object in
    none.none inputs (subst (λ members. inputs_of p.variables members ≡ Some inputs) same gives.given) gives.accepted

object_or_not : (p : Program) (line : List ℕ) (found : Members) → IsNoObject line → length line ≤ line_limit → IsObjectOf line found → ⊥
object_or_not p line found (inl long) short object = omega (arith, long, short)
object_or_not p line found (inr none) short object = none found object

ends_or_shows : (image : Image) (k : ℕ) (c d : Control) (line shown : List ℕ) (end : End) → EndsAt image.program k line end → Shows image k c line d shown → ⊥
ends_or_shows image k c d line shown Good ends shows = ends
ends_or_shows image k c d line shown (NoInputs n) ends shows = not_both image.program line shows.inputs ends.1 shows.gives
ends_or_shows image k c d line shown (NoObject n) ends shows = object_or_not image.program line shows.gives.members ends.1 shows.gives.short shows.gives.object

one_ending : (p : Program) (k : ℕ) (line : List ℕ) (a b : End) → EndsAt p k line a → EndsAt p k line b → b ≡ a
one_ending p k line Good b x y = absurd x
one_ending p k line (NoInputs m) Good x y = absurd y
one_ending p k line (NoInputs m) (NoInputs n) x y = ap NoInputs (y.0 ∙ sym x.0)
one_ending p k line (NoInputs m) (NoObject n) x y = absurd (object_or_not p line x.1.members y.1 x.1.short x.1.object)
one_ending p k line (NoObject m) Good x y = absurd y
one_ending p k line (NoObject m) (NoInputs n) x y = absurd (object_or_not p line y.1.members x.1 y.1.short y.1.object)
one_ending p k line (NoObject m) (NoObject n) x y = ap NoObject (y.0 ∙ sym x.0)

goes_one_way : (image : Image) (k : ℕ) (c : Control) (lines out other : List (List ℕ)) (end last : End) → Goes image k c lines out end
    → Goes image k c lines other last → (other ≡ out) × (last ≡ end)
goes_one_way image k c [] [] [] end last x y = (refl, y ∙ sym x)
goes_one_way image k c [] [] (shown ∷ other) end last x y = absurd y
goes_one_way image k c [] (shown ∷ out) other end last x y = absurd x
goes_one_way image k c (line ∷ lines) [] [] end last x y = (refl, one_ending image.program k line end last x y)
goes_one_way image k c (line ∷ lines) [] (shown ∷ other) end last x y = absurd (ends_or_shows image k c y.0 line shown end x y.1)
goes_one_way image k c (line ∷ lines) (shown ∷ out) [] end last x y = absurd (ends_or_shows image k c x.0 line shown last y x.1)
goes_one_way image k c (line ∷ lines) (shown ∷ out) (second ∷ other) end last x y =
    let one = one_shown image k c x.0 y.0 line shown second x.1 y.1 in
    let rest = goes_one_way image (next_number k) x.0 lines out other end last x.2 (subst (λ d. Goes image (next_number k) d lines other last) one.0 y.2) in
    let first = one.1 in
    let others = rest.0 in
    (cc (first, others), rest.1)

pub one_trace : (image : Image) (lines out other : List (List ℕ)) (end last : End) → Trace image lines out end → Trace image lines other last
    → (other ≡ out) × (last ≡ end)
one_trace image lines out other end last x y = goes_one_way image 1 (initial image.program) lines out other end last x y
