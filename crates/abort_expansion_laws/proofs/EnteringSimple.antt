-- Which tests of a simple state of the core are made where it is entered; and a state that does not end its region counts nothing.
use Rattle.std.proofs.Common.{◌≡◌, ℕ, Bool, true, false, Option, Some, None, List, [], ◌∷◌, ◌++◌, map, refl, ap}
use Rattle.std.proofs.Common.{◌∙◌, if◌then◌else◌}
use Rattle.sc_values.specs.declared.value.Value.{Value}
use Rattle.core_charts.specs.declared.region.Transition.{Transition}
use Rattle.core_charts.specs.Tests.{at_once}
use Rattle.chart_machine.specs.declared.table.Table.{Table}
use Rattle.abort_expansion.specs.declared.flags.Flags.{Flags}
use Rattle.abort_expansion.specs.declared.places.RegionPlaces.{RegionPlaces}
use Rattle.abort_expansion.specs.Transitions.{check, led, strong_checks, weak_checks}
use Rattle.abort_expansion.specs.Superstates.{simple_transitions}
use Rattle.abort_expansion_laws.specs.CoreRows.{Images}
use Rattle.abort_expansion_laws.proofs.Owed.{Counts}

keep : (b : Bool) (x : Transition) (zs us ws : List Transition) → zs ≡ us ++ ws → (if b then x ∷ zs else zs) ≡ (if b then x ∷ us else us) ++ ws
keep true x zs us ws e = ap (λ vs. x ∷ vs) e
keep false x zs us ws e = e

pub once_append : (xs ys : List Transition) → at_once (xs ++ ys) ≡ at_once xs ++ at_once ys
once_append [] ys = refl
once_append (x ∷ xs) ys = keep x.immediate x (at_once (xs ++ ys)) (at_once xs) (at_once ys) (once_append xs ys)

keep_led : (b : Bool) (places : RegionPlaces) (x : Transition) (zs us : List Transition) → zs ≡ map (led places) us →
    (if b then led places x ∷ zs else zs) ≡ map (led places) (if b then x ∷ us else us)
keep_led true places x zs us e = ap (λ vs. led places x ∷ vs) e
keep_led false places x zs us e = e

pub once_led : (places : RegionPlaces) (xs : List Transition) → at_once (map (led places) xs) ≡ map (led places) (at_once xs)
once_led places [] = refl
once_led places (x ∷ xs) = keep_led x.immediate places x (at_once (map (led places) xs)) (at_once xs) (once_led places xs)

no_check : (left : ℕ) (f : Option ℕ) → at_once (check false left f) ≡ []
no_check left None = refl
no_check left (Some x) = refl

pub each_check : (left : ℕ) (f : Option ℕ) → at_once (check true left f) ≡ check true left f
each_check left None = refl
each_check left (Some x) = refl

pub no_strong_once : (left : ℕ) (flags : List Flags) → at_once (strong_checks false left flags) ≡ []
no_strong_once left [] = refl
no_strong_once left (f ∷ flags) =
    once_append (check false left f.strong) (strong_checks false left flags) ∙ rw (no_check left f.strong, no_strong_once left flags) refl

pub weak_once : (left : ℕ) (flags : List Flags) → at_once (weak_checks true left flags) ≡ weak_checks true left flags
weak_once left [] = refl
weak_once left (f ∷ flags) =
    once_append (check true left f.weak) (weak_checks true left flags)
    ∙ (ap (λ zs. zs ++ at_once (weak_checks true left flags)) (each_check left f.weak) ∙ ap (λ zs. check true left f.weak ++ zs) (weak_once left flags))

pub simple_once : (flags : List Flags) (places : RegionPlaces) (all : List Transition) →
    at_once (simple_transitions flags places all) ≡ map (led places) (at_once all) ++ weak_checks true places.left flags
simple_once flags places all =
    once_append (strong_checks false places.left flags ++ map (led places) all) (weak_checks true places.left flags)
    ∙ (ap (λ zs. zs ++ at_once (weak_checks true places.left flags)) (once_append (strong_checks false places.left flags) (map (led places) all))
    ∙ (ap (λ zs. (zs ++ at_once (map (led places) all)) ++ at_once (weak_checks true places.left flags)) (no_strong_once places.left flags)
    ∙ (ap (λ zs. zs ++ at_once (weak_checks true places.left flags)) (once_led places all)
    ∙ ap (λ zs. map (led places) (at_once all) ++ zs) (weak_once places.left flags))))

pub no_count : (k core : Table) (i : Images) (b : Bool) (counter : Option ℕ) (before after : List Value) → b ≡ false → Counts k core i b counter before after →
    after ≡ before
no_count k core i true counter before after e counts = absurd cc
no_count k core i false counter before after e counts = counts
