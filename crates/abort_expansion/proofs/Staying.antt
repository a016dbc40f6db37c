-- A superstate without aborts that none enclose stays as it is, with expanded regions, and keeps the rules of core charts.
use Rattle.std.proofs.Common.{◌≡◌, ℕ, ◌+◌, ◌≤◌, Bool, true, false, not, cond, ◌||◌, ◌&&◌, IsTrue, List, [], ◌∷◌, map, count_by, refl, ap, arith}
use Rattle.std.proofs.lemmas.Bool.{or_parts}
use Rattle.sc_graph.specs.declared.program.Variable.{Variable}
use Rattle.core_charts.specs.declared.features.Features.TheVariants as features
use Rattle.core_charts.specs.declared.region.Transition.{Transition}
use Rattle.core_charts.specs.declared.region.TransitionKind.{TransitionKind}
use Rattle.core_charts.specs.declared.region.TransitionKind.TheVariants as kind
use Rattle.core_charts.specs.Rules.{IsTransition, allows}
use Rattle.core_charts.specs.Tests.{is_strong, is_weak, is_join}
use Rattle.core_charts.specs.Aborts.{has_strong, has_weak, has_aborts}
use Rattle.sc_text.proofs.EachItem.{Each}
use Rattle.abort_expansion.specs.declared.places.RegionPlaces.{RegionPlaces}
use Rattle.abort_expansion.specs.Flags.{one, given, flags_of, flag_count, has_join, counts}
use Rattle.abort_expansion.specs.Transitions.{led}
use Rattle.abort_expansion.proofs.Lists.{count, count_is}
use Rattle.abort_expansion.proofs.Taken.{IsFlagIfAny, AreFlags, ArePlaces}
use Rattle.abort_expansion.proofs.Leaving.{InText, led_keeps}

pub stays_plain : (a b : Bool) → not (a || b) ≡ true → (a ≡ false) × (b ≡ false)
stays_plain true b h = absurd cc
stays_plain false true h = absurd cc
stays_plain false false h = (refl, refl)

none_given : (variables : List Variable) (b : Bool) (x : ℕ) → b ≡ false → IsFlagIfAny variables (given b x)
none_given variables true x h = absurd cc
none_given variables false x h = tt

one_none : (b : Bool) → b ≡ false → one b ≡ 0
one_none true h = absurd cc
one_none false h = refl

counts_none : (join aborts weak : Bool) → aborts ≡ false → weak ≡ false → (join && (aborts || weak)) ≡ false
counts_none true true weak h k = absurd cc
counts_none true false weak h k = k
counts_none false aborts weak h k = refl

-- it is given no variables
pub no_flags : (variables : List Variable) (weak : Bool) (own : List Transition) (x : ℕ) → has_aborts own ≡ false → weak ≡ false
    → AreFlags variables (flags_of weak own x)
no_flags variables weak own x none outside =
    let both : (has_strong own ≡ false) × (has_weak own ≡ false) = or_parts (has_strong own) (has_weak own) none in
    record {
      strong = none_given variables (has_strong own) x both.0;
      weak = none_given variables (has_weak own) (x + one (has_strong own)) both.1;
      counter = none_given variables (counts weak own) (x + one (has_strong own) + one (has_weak own))
          (counts_none (has_join own) (has_aborts own) weak none outside);
    }

pub no_flag_count : (weak : Bool) (own : List Transition) → has_aborts own ≡ false → weak ≡ false → flag_count weak own ≡ 0
no_flag_count weak own none outside =
    let both : (has_strong own ≡ false) × (has_weak own ≡ false) = or_parts (has_strong own) (has_weak own) none in
    omega (
      arith,
      one_none (has_strong own) both.0,
      one_none (has_weak own) both.1,
      one_none (counts weak own) (counts_none (has_join own) (has_aborts own) weak none outside),
    )

-- ---- its transitions are terminations

allowed_kind : (k : TransitionKind) → is_strong k ≡ false → is_weak k ≡ false → IsTrue (allows features.Core k)
allowed_kind kind.Go h k = refl
allowed_kind kind.Strong h k = absurd cc
allowed_kind kind.Weak h k = absurd cc
allowed_kind kind.Join h k = refl

pub led_all_keep : (declared variables : List Variable) (m n : ℕ) (to : RegionPlaces) (own : List Transition)
    → ArePlaces variables m n to → Each (InText declared variables m true) own → has_strong own ≡ false → has_weak own ≡ false
    → Each (IsTransition features.Core variables n true) (map (led to) own)
led_all_keep declared variables m n to [] places h strong weak = tt
led_all_keep declared variables m n to (t ∷ own) places h strong weak =
    let first : (is_strong t.kind ≡ false) × (has_strong own ≡ false) = or_parts (is_strong t.kind) (has_strong own) strong in
    let second : (is_weak t.kind ≡ false) × (has_weak own ≡ false) = or_parts (is_weak t.kind) (has_weak own) weak in (
      led_keeps variables m n to features.Extended declared true t places h.0.taken h.0.kept (allowed_kind t.kind first.0 second.0),
      led_all_keep declared variables m n to own places h.1 first.1 second.1,
    )

same_count : (to : RegionPlaces) (own : List Transition) → count (λ t. is_join t.kind) (map (led to) own) ≡ count (λ t. is_join t.kind) own
same_count to [] = refl
same_count to (t ∷ own) = ap (λ n. cond (is_join t.kind) (1 + n) n) (same_count to own)

pub joins_led : (to : RegionPlaces) (own : List Transition) → count_by (λ t. is_join t.kind) own ≤ 1 → count_by (λ t. is_join t.kind) (map (led to) own) ≤ 1
joins_led to own few =
    omega (arith, few, same_count to own, count_is (λ t. is_join t.kind) own, count_is (λ t. is_join t.kind) (map (led to) own))
