-- At which stages the flags and counters of a core chart count as written. As a rule, strong flags at stage 0, counters at 1, weak flags at 2. Where who
-- leaves looks at the weak flags of some superstates early, these count as written at stage 0.
use Rattle.std.proofs.Common.{◌≡◌, ◌≢◌, ℕ, ◌<◌, ◌⊎◌, inl, inr, Bool, true, false, if◌then◌else◌, Option, Some, None, List}
use Rattle.std.proofs.Common.{Contains, refl, sym, ap, subst, ◌∙◌, arith}
use Rattle.std.specs.List.{list_any}
use Rattle.std.proofs.lemmas.Bool.Decides.{Decides-eqb}
use Rattle.core_charts.specs.declared.features.Features.TheVariants as features
use Rattle.core_charts.specs.Chart.{Chart}
use Rattle.core_charts.specs.Rules.{IsChart}
use Rattle.chart_machine.specs.declared.table.Table.{Table}
use Rattle.chart_machine.specs.Table.{table}
use Rattle.abort_expansion.specs.Expansion.{expanded}
use Rattle.chart_machine_laws.proofs.LyingIn.{around, holder}
use Rattle.abort_expansion_laws.specs.CoreRows.{Images, CoreRows}
use Rattle.abort_expansion_laws.proofs.FlagNumbers.{is_it, is_it_self}
use Rattle.abort_expansion_laws.proofs.MoreRows.{counter_rows, is_counter, opening_rows, stage_of_write, strong_at, weak_at, writes_low}
use Rattle.abort_expansion_laws.proofs.Resets.{Apart}
use Rattle.abort_expansion_laws.proofs.RowsOfCharts as whole
use Rattle.abort_expansion_laws.proofs.StageReached.{holds_other, any_in}
use Rattle.abort_expansion_laws.proofs.StartingRegions.{CounterRows}
use Rattle.abort_expansion_laws.proofs.Unchanged.{none_are}

pub it_is : (o : Option ℕ) (x : ℕ) → is_it o x ≡ true → o ≡ Some x
it_is None x e = absurd cc
it_is (Some y) x e = ap Some ((Decides-eqb y x).0 e)

module _ (c : Chart) (rules : IsChart features.Extended c) (core_rules : IsChart features.Core (expanded c)) where
  abbrev k : Table
  k = table c

  abbrev core : Table
  core = table (expanded c)

  abbrev i : Images
  i = whole.i c rules core_rules

  abbrev rows : CoreRows k core i
  rows = whole.rows_of_chart c rules core_rules

  -- what is asked of such stages, but for weak flags
  pub record FlagStages : Type 0 where
    pub written_at : ℕ → ℕ
    pub low : (x : ℕ) → written_at x < 3
    pub counters : CounterRows k core i rows (is_counter c rules core_rules) written_at
    pub strong_zero : (s x : ℕ) → (i.flags_of s).strong ≡ Some x → written_at x ≡ 0

  abbrev pub usual : FlagStages
  usual =
      record {
        written_at = stage_of_write c rules core_rules;
        low = writes_low c rules core_rules;
        counters = counter_rows c rules core_rules;
        strong_zero = strong_at c rules core_rules;
      }

  -- ---- the weak flags of these superstates are early

  module _ (early : List ℕ) where
    abbrev pub is_early : ℕ → Bool
    is_early x = list_any (λ s. is_it (i.flags_of s).weak x) early

    abbrev pub staged : Bool → ℕ → ℕ
    staged b x = if b then 0 else stage_of_write c rules core_rules x

    abbrev pub early_write : ℕ → ℕ
    early_write x = staged (is_early x) x

    pub early_low : (x : ℕ) → early_write x < 3
    early_low x = by (is_early x)
      where
        by : (b : Bool) → staged b x < 3
        by true = omega arith
        by false = writes_low c rules core_rules x

    pub early_strong : (s x : ℕ) → (i.flags_of s).strong ≡ Some x → early_write x ≡ 0
    early_strong s x e = by (is_early x)
      where
        by : (b : Bool) → staged b x ≡ 0
        by true = refl
        by false = strong_at c rules core_rules s x e

    pub early_zero : (s x : ℕ) → Contains early s → (i.flags_of s).weak ≡ Some x → early_write x ≡ 0
    early_zero s x among weak =
        ap (λ b. staged b x) (any_in (λ u. is_it (i.flags_of u).weak x) early s among (is_it_self (i.flags_of s).weak x weak))

    -- a flag of a superstate belongs to no other one
    not_early : (s x : ℕ) → ((i.flags_of s).strong ≡ Some x) ⊎ (((i.flags_of s).weak ≡ Some x) ⊎ ((i.flags_of s).counter ≡ Some x)) →
        (Contains early s → (i.flags_of s).weak ≢ Some x) → is_early x ≡ false
    not_early s x is never =
        none_are (λ u. is_it (i.flags_of u).weak x) early
        (λ u h e.
        let weak : (i.flags_of u).weak ≡ Some x = it_is (i.flags_of u).weak x e in
        let same : u ≡ s =
        sym ((opening_rows c rules core_rules).flag_of u x (inr (inl weak))).0 ∙ ((opening_rows c rules core_rules).flag_of s x is).0 in
        never (subst (Contains early) same h) (subst (λ v. (i.flags_of v).weak ≡ Some x) same weak))

    pub late_two : (o x : ℕ) → ¬ Contains early o → (i.flags_of o).weak ≡ Some x → early_write x ≡ 2
    late_two o x out weak =
        ap (λ b. staged b x) (not_early o x (inr (inl weak)) (λ h. absurd (out h))) ∙ weak_at c rules core_rules o x weak

    pub early_rows : CounterRows k core i rows (is_counter c rules core_rules) early_write
    early_rows =
        record {
          counter_counts = their.counter_counts;
          strong_not = their.strong_not;
          weak_not = their.weak_not;
          counter_of = their.counter_of;
          counter_at = λ s x e. ap (λ b. staged b x) (not_early s x (inr (inr e)) (λ h weak. both s x weak e)) ∙ their.counter_at s x e;
          counter_kind = their.counter_kind;
          counter_there = their.counter_there;
          counter_joins = their.counter_joins;
          few = their.few;
          once = their.once;
        }
      where
        their : CounterRows k core i rows (is_counter c rules core_rules) (stage_of_write c rules core_rules)
        their = counter_rows c rules core_rules

        both : (s x : ℕ) → (i.flags_of s).weak ≡ Some x → (i.flags_of s).counter ≡ Some x → ⊥
        both s x weak counter =
            let two : Apart (Some x) (Some x) =
            subst (Apart (Some x)) counter
            (subst (λ f. Apart f (i.flags_of s).counter) weak ((opening_rows c rules core_rules).flags_apart s).1.1) in
            two refl

    abbrev pub early_stages : FlagStages
    early_stages = record { written_at = early_write; low = early_low; counters = early_rows; strong_zero = early_strong }

  -- ---- a step that takes a weak abort fits such stages

  -- the flag of the superstate that is left counts as written at stage 2, and those of the superstates around at stage 0
  pub record WeakFits (stages : FlagStages) (r s : ℕ) : Type 0 where
    pub own_two : (x : ℕ) → (i.flags_of s).weak ≡ Some x → stages.written_at x ≡ 2
    pub outer_zero : (u x : ℕ) → Contains (around k r) u → (i.flags_of u).weak ≡ Some x → stages.written_at x ≡ 0

  -- it does where those around are early, and it is not
  pub early_fits : (early : List ℕ) (r s : ℕ) → ((u : ℕ) → Contains (around k r) u → Contains early u) → ¬ Contains early s →
      WeakFits (early_stages early) r s
  early_fits early r s outer out =
      record { own_two = λ x weak. late_two early s x out weak; outer_zero = λ u x h weak. early_zero early u x (outer u h) weak }

  -- so does each one by itself
  pub outer_fits : (r s : ℕ) → holder k s ≡ r → WeakFits (early_stages (around k r)) r s
  outer_fits r s held =
      early_fits (around k r) r s (λ u h. h) (λ h. holds_other k (whole.tree c rules core_rules).nested r s h held)
