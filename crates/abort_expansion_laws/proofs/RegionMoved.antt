-- Where one region comes to stand elsewhere, and variables may change, but no flags: who is present, who is inside, and which flags are down stays.
use Rattle.std.proofs.Common.{◌≡◌, ◌≢◌, ℕ, ◌≤◌, ⊎_elim, Option, Some, None, List, [], ◌∷◌, slice_get, length, refl, sym, ap, subst, ◌∙◌}
use Rattle.sc_values.specs.declared.value.Value.{Value}
use Rattle.chart_machine.specs.declared.standing.Standing.{Standing}
use Rattle.chart_machine.specs.declared.standing.Standing.TheVariants as at
use Rattle.chart_machine.specs.declared.standing.Configuration.{Configuration}
use Rattle.chart_machine.specs.declared.table.Table.{Table}
use Rattle.chart_machine.specs.Table.{state_at}
use Rattle.chart_machine.specs.Turns.{standing_of, has_ended}
use Rattle.chart_machine_laws.specs.Tree.{holder}
use Rattle.tick_laws.proofs.Lists.{same_or_not}
use Rattle.abort_expansion_laws.specs.CoreRows.{Images, CoreRows}
use Rattle.abort_expansion_laws.specs.Related.{IsInside, Stores, FlagsAreDown, still_in, not_ended}

module _ (k core : Table) (i : Images) where
  -- region r comes to stand at y
  pub record RegionMoved (c : Configuration) (r : ℕ) (y : Standing) (c' : Configuration) : Type 0 where
    pub here : standing_of c' r ≡ y
    pub elsewhere : (q : ℕ) → q ≢ r → standing_of c' q ≡ standing_of c q
    pub ends : has_ended y ≡ has_ended (standing_of c r)
    pub was_there : standing_of c r ≢ at.Outside
    pub is_there : y ≢ at.Outside
    pub inside : (s : ℕ) → holder k s ≡ r → IsInside k core i s (standing_of c r) → IsInside k core i s y
    pub inside_back : (s : ℕ) → holder k s ≡ r → IsInside k core i s y → IsInside k core i s (standing_of c r)

  module _ (c : Configuration) (r : ℕ) (y : Standing) (c' : Configuration) (m : RegionMoved c r y c') where
    pub ends_alike : (q : ℕ) → has_ended (standing_of c' q) ≡ has_ended (standing_of c q)
    ends_alike q =
        ⊎_elim (λ e. ap (λ p. has_ended (standing_of c' p)) e ∙ (ap has_ended m.here ∙ (m.ends ∙ ap (λ p. has_ended (standing_of c p)) (sym e))))
        (λ ne. ap has_ended (m.elsewhere q ne)) (same_or_not q r)

    pub as_many : (rs : List ℕ) → still_in k core i c' rs ≡ still_in k core i c rs
    as_many [] = refl
    as_many (q ∷ rs) = rw (ends_alike q, as_many rs) refl

    pub back_inside : (s : ℕ) → IsInside k core i s (standing_of c' (holder k s)) → IsInside k core i s (standing_of c (holder k s))
    back_inside s inner = ⊎_elim same other (same_or_not (holder k s) r)
      where
        same : holder k s ≡ r → IsInside k core i s (standing_of c (holder k s))
        same e = subst (λ q. IsInside k core i s (standing_of c q)) (sym e)
            (m.inside_back s e (subst (IsInside k core i s) (ap (standing_of c') e ∙ m.here) inner))

        other : holder k s ≢ r → IsInside k core i s (standing_of c (holder k s))
        other ne = subst (IsInside k core i s) (m.elsewhere (holder k s) ne) inner

    pub still_inside : (s : ℕ) → IsInside k core i s (standing_of c (holder k s)) → IsInside k core i s (standing_of c' (holder k s))
    still_inside s inner = ⊎_elim same other (same_or_not (holder k s) r)
      where
        same : holder k s ≡ r → IsInside k core i s (standing_of c' (holder k s))
        same e = subst (IsInside k core i s) (sym (ap (standing_of c') e ∙ m.here))
            (m.inside s e (subst (λ q. IsInside k core i s (standing_of c q)) e inner))

        other : holder k s ≢ r → IsInside k core i s (standing_of c' (holder k s))
        other ne = subst (IsInside k core i s) (sym (m.elsewhere (holder k s) ne)) inner

    pub was_present : (q : ℕ) → standing_of c' q ≢ at.Outside → standing_of c q ≢ at.Outside
    was_present q present =
        ⊎_elim (λ e was. m.was_there (ap (standing_of c) (sym e) ∙ was)) (λ ne was. present (m.elsewhere q ne ∙ was)) (same_or_not q r)

    pub is_present : (q : ℕ) → standing_of c q ≢ at.Outside → standing_of c' q ≢ at.Outside
    is_present q present =
        ⊎_elim (λ e is. m.is_there (sym m.here ∙ (ap (standing_of c') (sym e) ∙ is))) (λ ne is. present (sym (m.elsewhere q ne) ∙ is)) (same_or_not q r)

    module _ (rows : CoreRows k core i) (values values' : List Value)
        (flags : (x : ℕ) → length k.variables ≤ x → slice_get values' x ≡ slice_get values x) where
      stored : (o : Option ℕ) (n : ℕ) → ((x : ℕ) → o ≡ Some x → length k.variables ≤ x) → Stores k core i values o n → Stores k core i values' o n
      stored None n added stores = tt
      stored (Some x) n added stores = flags x (added x refl) ∙ stores

      pub down_still : (s : ℕ) → FlagsAreDown k core i c values s → FlagsAreDown k core i c' values' s
      down_still s down =
          record {
            strong = stored (i.flags_of s).strong 0 (rows.strong_added s) down.strong;
            weak = stored (i.flags_of s).weak 0 (rows.weak_added s) down.weak;
            counter =
                subst (Stores k core i values' (i.flags_of s).counter) (sym (as_many (state_at k s).regions))
                (stored (i.flags_of s).counter (not_ended k core i c s) (rows.counter_added s) down.counter);
          }
