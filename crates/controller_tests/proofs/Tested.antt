-- What a test comes to, and that it is one thing alone.
use Rattle.std.proofs.Common.{◌≡◌, ◌≢◌, ◌∙◌, ◌↔◌, ◌⊎◌, ℕ, List, [], refl, ap, sym, subst, inl, inr}
use Rattle.std.specs.List.{concat}
use Rattle.bytecode.specs.Image.{Image}
use Rattle.trace_player.specs.declared.player.PlayFault.{PlayFault}
use Rattle.trace_player.specs.declared.player.PlayFault.TheVariants as play_fault
use Rattle.trace_player.specs.Trace.{End, Good, NoInputs, NoObject, lines_of}
use Rattle.trace_player.proofs.OneTrace.{one_trace}
use Rattle.controller_tests.specs.declared.difference.Difference.{Difference}
use Rattle.controller_tests.specs.declared.outcome.Outcome.{Outcome}
use Rattle.controller_tests.specs.declared.outcome.Outcome.TheVariants as outcome
use Rattle.controller_tests.specs.Outcome.{EndsSo, IsOutcome, LacksTrace, MakesTrace, Misses, Passes, Stops}
use Rattle.controller_tests.specs.Inside.Comparing.{ComparesTo}
use Rattle.controller_tests.proofs.Alike.{differ_not_same}

-- ---- one outcome

-- ticks make one trace
one_made : (image : Image) (ticks trace other : List ℕ) (end last : End) → MakesTrace image ticks trace end → MakesTrace image ticks other last
    → (other ≡ trace) × (last ≡ end)
one_made image ticks trace other end last a b =
    let one = one_trace image (lines_of ticks) a.out b.out end last a.traced b.traced in
    (b.is ∙ ap (λ out. concat out) one.0 ∙ sym a.is, one.1)

misses_not : (image : Image) (ticks wanted : List ℕ) (d : Difference) → Misses image ticks wanted d → Passes image ticks wanted → ⊥
misses_not image ticks wanted d m p =
    let one = one_made image ticks m.trace p.trace Good Good m.made p.made in
    differ_not_same wanted m.trace _ _ _ m.differs (p.same ∙ ap lines_of one.0)

not_good : (end : End) → Good ≡ end → (line : ℕ) → (end ≡ NoInputs line) ⊎ (end ≡ NoObject line) → ⊥
not_good end good line (inl is) = absurd cc
not_good end good line (inr is) = absurd cc

ends_not : (image : Image) (ticks wanted : List ℕ) (end : End) (line : ℕ) → (end ≡ NoInputs line) ⊎ (end ≡ NoObject line) → EndsSo image ticks end
    → Passes image ticks wanted → ⊥
ends_not image ticks wanted end line is ends p =
    let one = one_made image ticks ends.0 p.trace end Good ends.1 p.made in
    not_good end one.1 line is

stops_not : (image : Image) (ticks wanted : List ℕ) (fault : PlayFault) → Stops image ticks fault → Passes image ticks wanted → ⊥
stops_not image ticks wanted (play_fault.Input line) stops p = ends_not image ticks wanted (NoInputs line) line (inl refl) stops p
stops_not image ticks wanted (play_fault.NotJson line) stops p = ends_not image ticks wanted (NoObject line) line (inr refl) stops p
stops_not image ticks wanted play_fault.Memory stops p = stops
stops_not image ticks wanted play_fault.Read stops p = stops
stops_not image ticks wanted play_fault.Write stops p = stops

-- a test comes to `Passed` exactly where the image passes
pub passed_exactly : (image : Image) (ticks wanted : List ℕ) (o : Outcome) → IsOutcome image ticks wanted o
    → (o ≡ outcome.Passed) ↔ Passes image ticks wanted
passed_exactly image ticks wanted outcome.Passed is = (λ _. is, λ _. refl)
passed_exactly image ticks wanted (outcome.Differs d) is = (λ e. absurd cc, λ p. absurd (misses_not image ticks wanted d is p))
passed_exactly image ticks wanted (outcome.Stops fault) is = (λ e. absurd cc, λ p. absurd (stops_not image ticks wanted fault is p))

-- ---- what was compared

-- a fault that is no refusal of memory is that of a line
pub at_line : (image : Image) (ticks : List ℕ) (fault : PlayFault) → LacksTrace image ticks fault → fault ≢ play_fault.Memory → Stops image ticks fault
at_line image ticks (play_fault.Input line) lacks refused = lacks
at_line image ticks (play_fault.NotJson line) lacks refused = lacks
at_line image ticks play_fault.Memory lacks refused = absurd (refused refl)
at_line image ticks play_fault.Read lacks refused = lacks
at_line image ticks play_fault.Write lacks refused = lacks

pub comes_to : (image : Image) (ticks wanted trace : List ℕ) (o : Outcome) → MakesTrace image ticks trace Good → ComparesTo wanted trace o
    → IsOutcome image ticks wanted o
comes_to image ticks wanted trace outcome.Passed made same = record { trace = trace; made = made; same = same }
comes_to image ticks wanted trace (outcome.Differs d) made differs = record { trace = trace; made = made; differs = differs }
comes_to image ticks wanted trace (outcome.Stops fault) made none = absurd none

pub stops_at : (image : Image) (ticks wanted : List ℕ) (o : Outcome) (fault : PlayFault) → LacksTrace image ticks fault → fault ≢ play_fault.Memory
    → o ≡ outcome.Stops fault → IsOutcome image ticks wanted o
stops_at image ticks wanted o fault lacks refused is = subst (IsOutcome image ticks wanted) (sym is) (at_line image ticks fault lacks refused)
