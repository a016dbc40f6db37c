-- A monitor that makes the first of its looks at strong flags stands as it has to behind it: none of its own tests is such a look.
use Rattle.std.proofs.Common.{◌≡◌, ◌≢◌, ℕ, ◌⊎◌, ⊎_elim, Bool, true, false, not, ◌&&◌, Option, Some, None, List, [], ◌∷◌, ◌++◌, map, Contains}
use Rattle.std.proofs.Common.{refl, sym, ap, subst, ◌∙◌}
use Rattle.std.specs.Prelude.{reverse}
use Rattle.core_charts.specs.declared.region.Effect.{Effect}
use Rattle.core_charts.specs.declared.region.Transition.{Transition}
use Rattle.core_charts.specs.Tests.{weak_aborts}
use Rattle.chart_machine.specs.declared.standing.Standing.{Standing}
use Rattle.chart_machine.specs.declared.standing.Standing.TheVariants as at
use Rattle.chart_machine.specs.declared.table.Table.{Table}
use Rattle.chart_machine.specs.Steps.{access_of_trigger}
use Rattle.abort_expansion.specs.declared.flags.Flags.{Flags}
use Rattle.abort_expansion.specs.Transitions.{go, is_raised, check, weak_checks, raising}
use Rattle.abort_expansion.specs.Superstates.{all_ended}
use Rattle.chart_machine_laws.proofs.LyingIn.{around, holder, none_in, head_or_tail}
use Rattle.abort_expansion_laws.specs.CoreRows.{own, Images, flags_around}
use Rattle.abort_expansion_laws.specs.Related.{raise_each, monitor_last, looks_at, Watches, guards, waits, looks_strong, looks, elsewhere}
use Rattle.abort_expansion_laws.specs.Related.{LooksFirst, looks_never, looks_first}
use Rattle.abort_expansion_laws.proofs.FlagAccess.{raised_access}
use Rattle.abort_expansion_laws.proofs.YetToLook.{one_seen}

-- a look of a monitor at a strong flag
abbrev pub look : ℕ → Transition
look y = go false (Some (is_raised y)) [] 1

-- ---- its own tests have effects, or are immediate

abbrev no_effects : List Effect → Bool
no_effects [] = true
no_effects (e ∷ effects) = false

abbrev is_look : Transition → Bool
is_look t = no_effects t.effects && not t.immediate

abbrev BeginsOwn : List Transition → Type 0
BeginsOwn [] = Unit {0}
BeginsOwn (t ∷ tests) = is_look t ≡ false

own_on : (xs ys : List Transition) → BeginsOwn xs → BeginsOwn ys → BeginsOwn (xs ++ ys)
own_on [] ys first later = later
own_on (x ∷ xs) ys first later = first

raises_own : (immediate : Transition → Bool) (flag : Option ℕ) (some : List (ℕ × Transition)) → BeginsOwn (raise_each immediate flag some)
raises_own immediate None some = tt
raises_own immediate (Some x) [] = tt
raises_own immediate (Some x) (t ∷ some) = refl

raising_own : (immediate : Transition → Bool) (left : ℕ) (flag : Option ℕ) (n : ℕ) (tests : List Transition) →
    BeginsOwn (raising immediate left flag n tests)
raising_own immediate left None n tests = tt
raising_own immediate left (Some x) n [] = tt
raising_own immediate left (Some x) n (t ∷ tests) = refl

counts_own : (counter : Option ℕ) → BeginsOwn (all_ended counter)
counts_own None = tt
counts_own (Some x) = refl

weak_own : (fs : List Flags) → BeginsOwn (weak_checks true 1 fs)
weak_own [] = tt
weak_own (f ∷ fs) = by f.weak (weak_own fs)
  where
    by : (flag : Option ℕ) → BeginsOwn (weak_checks true 1 fs) → BeginsOwn (check true 1 flag ++ weak_checks true 1 fs)
    by None rest = rest
    by (Some x) rest = refl

never_look : (tests rest : List Transition) (y : ℕ) → BeginsOwn tests → tests ≡ look y ∷ rest → ⊥
never_look [] rest y own_one e = absurd cc
never_look (t ∷ tests) rest y own_one e =
    let same : t ≡ look y = cc in
    let wrong : false ≡ true = sym own_one ∙ ap is_look same in absurd cc

module _ (k core : Table) (i : Images) (o : ℕ) where
  last_own : BeginsOwn (monitor_last k core i o)
  last_own =
      own_on (all_ended (i.flags_of o).counter) (weak_checks true 1 (flags_around k core i (holder k o))) (counts_own (i.flags_of o).counter)
      (weak_own (flags_around k core i (holder k o)))

  strong_own : (some : List (ℕ × Transition)) → BeginsOwn (raise_each (λ t. false) (i.flags_of o).strong some
      ++ (raising (λ t. t.immediate) 1 (i.flags_of o).weak 1 (weak_aborts (own k o)) ++ monitor_last k core i o))
  strong_own some =
      own_on (raise_each (λ t. false) (i.flags_of o).strong some)
      (raising (λ t. t.immediate) 1 (i.flags_of o).weak 1 (weak_aborts (own k o)) ++ monitor_last k core i o)
      (raises_own (λ t. false) (i.flags_of o).strong some)
      (own_on (raising (λ t. t.immediate) 1 (i.flags_of o).weak 1 (weak_aborts (own k o))) (monitor_last k core i o)
      (raising_own (λ t. t.immediate) 1 (i.flags_of o).weak 1 (weak_aborts (own k o))) last_own)

  open_own : (some : List (ℕ × Transition)) → BeginsOwn (raise_each (λ t. t.immediate) (i.flags_of o).weak some ++ monitor_last k core i o)
  open_own some =
      own_on (raise_each (λ t. t.immediate) (i.flags_of o).weak some) (monitor_last k core i o)
      (raises_own (λ t. t.immediate) (i.flags_of o).weak some) last_own

  -- ---- behind the first look the others are left

  module _ (y : ℕ) (rest : List Transition) where
    -- whatever stands behind all looks
    left_behind : (tests : List Transition) → BeginsOwn tests → (P : List Transition → Type 0) →
        ((yet seen : List ℕ) → around k (holder k o) ≡ reverse yet ++ seen → P (looks_at k core i yet ++ tests)) → (yet seen : List ℕ) →
        around k (holder k o) ≡ reverse yet ++ seen → looks_at k core i yet ++ tests ≡ look y ∷ rest → P rest
    left_behind tests own_ones P stands [] seen parted e = absurd (never_look tests rest y own_ones e)
    left_behind tests own_ones P stands (a ∷ yet) seen parted e =
        by (i.flags_of a).strong e (λ f. left_behind tests own_ones P stands yet (a ∷ seen) fewer f)
      where
        fewer : around k (holder k o) ≡ reverse yet ++ (a ∷ seen)
        fewer = one_seen (around k (holder k o)) a yet seen parted

        by : (flag : Option ℕ) → (check false 1 flag ++ looks_at k core i yet) ++ tests ≡ look y ∷ rest →
            (looks_at k core i yet ++ tests ≡ look y ∷ rest → P rest) → P rest
        by None f further = further f
        by (Some z) f further =
            let same : looks_at k core i yet ++ tests ≡ rest = cc in subst P same (stands yet (a ∷ seen) fewer)

    tests_same : (n : ℕ) (tests others : List Transition) → at.Trying n tests ≡ at.Trying n others → tests ≡ others
    tests_same n tests others e = cc

    pub watch_dropped : (x z : Standing) → Watches k core i o x z → z ≡ at.Trying (i.watching_of o) (look y ∷ rest) →
        Watches k core i o x (at.Trying (i.watching_of o) rest)
    watch_dropped _ _ (guards some among) e = absurd (never_look _ rest y (strong_own some) (tests_same (i.watching_of o) _ (look y ∷ rest) e))
    watch_dropped _ _ (looks_strong yet seen parted some among) e =
        left_behind _ (strong_own some) (λ ts. Watches k core i o (at.Guarding o (map (λ w. w.1) some)) (at.Trying (i.watching_of o) ts))
        (λ others passed apart. looks_strong others passed apart some among) yet seen parted (tests_same (i.watching_of o) _ (look y ∷ rest) e)
    watch_dropped _ _ (waits some joins among ends) e = absurd (never_look _ rest y (open_own some) (tests_same (i.watching_of o) _ (look y ∷ rest) e))
    watch_dropped _ _ (looks yet seen parted first some joins among ends) e =
        left_behind _ (open_own (first ∷ some))
        (λ ts. Watches k core i o (at.Within o (map (λ w. w.1) (first ∷ some) ++ joins)) (at.Trying (i.watching_of o) ts))
        (λ others passed apart. looks others passed apart first some joins among ends) yet seen parted
        (tests_same (i.watching_of o) _ (look y ∷ rest) e)
    watch_dropped x _ (elsewhere _ a b) e = absurd cc

    -- if it is at another flag than that of this superstate, which has one
    module _ (s : ℕ) (has_flag : (i.flags_of s).strong ≢ None) (differs : (i.flags_of s).strong ≢ Some y) where
      abbrev Goal : Type 0
      Goal = LooksFirst k core i o s (at.Trying (i.watching_of o) rest)

      first_dropped : (more : List Transition) (yet seen : List ℕ) → around k (holder k o) ≡ reverse yet ++ seen → Contains yet s →
          looks_at k core i yet ++ more ≡ look y ∷ rest → LooksFirst k core i o s (at.Trying (i.watching_of o) rest)
      first_dropped more [] seen parted inner e = absurd (none_in s inner)
      first_dropped more (a ∷ yet) seen parted inner e =
          by (i.flags_of a).strong refl e (λ f tail. first_dropped more yet (a ∷ seen) fewer tail f) (head_or_tail a s yet inner)
        where
          fewer : around k (holder k o) ≡ reverse yet ++ (a ∷ seen)
          fewer = one_seen (around k (holder k o)) a yet seen parted

          by : (flag : Option ℕ) → (i.flags_of a).strong ≡ flag → (check false 1 flag ++ looks_at k core i yet) ++ more ≡ look y ∷ rest →
              (looks_at k core i yet ++ more ≡ look y ∷ rest → Contains yet s → Goal) → (a ≡ s) ⊎ Contains yet s → Goal
          by None none f further place =
              ⊎_elim (λ same. absurd (has_flag (ap (λ v. (i.flags_of v).strong) (sym same) ∙ none))) (λ tail. further f tail) place
          by (Some z) is f further place =
              let first : look z ≡ look y = cc in
              let reads : z ∷ [] ≡ y ∷ [] =
              ap (λ a. a.reads) (sym (raised_access z) ∙ (ap (λ (t : Transition). access_of_trigger t.trigger) first ∙ raised_access y)) in
              let one : z ≡ y = cc in
              let same : looks_at k core i yet ++ more ≡ rest = cc in
              ⊎_elim (λ e. absurd (differs (ap (λ v. (i.flags_of v).strong) (sym e) ∙ (is ∙ ap Some one))))
              (λ tail. subst (λ ts. LooksFirst k core i o s (at.Trying (i.watching_of o) ts)) same (looks_first yet (a ∷ seen) more fewer tail)) place

      pub look_dropped : (z : Standing) → LooksFirst k core i o s z → z ≡ at.Trying (i.watching_of o) (look y ∷ rest) →
          LooksFirst k core i o s (at.Trying (i.watching_of o) rest)
      look_dropped _ looks_never e = absurd cc
      look_dropped _ (looks_first yet seen more parted inner) e =
          first_dropped more yet seen parted inner (tests_same (i.watching_of o) (looks_at k core i yet ++ more) (look y ∷ rest) e)
