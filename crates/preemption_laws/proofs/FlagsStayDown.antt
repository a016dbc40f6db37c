-- A flag at which a region of a core chart has looked, and which was down, stays down as long as the region is there: in an admissible run whoever
-- raises it does so before.
use Rattle.std.proofs.Common.{◌≡◌, ◌≢◌, ℕ, suc, ◌+◌, ◌≤◌, ◌⊎◌, inl, inr, ⊎_elim, false, Some, List, [], ◌∷◌, ◌++◌}
use Rattle.std.proofs.Common.{pos, option_and_then, length, slice_get, slice_set, Contains, sym, ap, subst, ◌∙◌, arith}
use Rattle.std.proofs.lemmas.List.{length-append}
use Rattle.sc_values.specs.declared.value.Value.{Value}
use Rattle.sc_values.specs.declared.value.Value.TheVariants as value_is
use Rattle.sc_values.specs.Access.{Access, init_read, MayPrecede}
use Rattle.sc_values.specs.Assignment.{reads, assignment_of, access_of_assignment}
use Rattle.sc_values.specs.Runs.{Act}
use Rattle.sc_values.proofs.Loading.{value_same}
use Rattle.sc_values.proofs.Order.{Clear, EachIsOpen, clear_weaker}
use Rattle.scl_graph_laws.proofs.Searching.{unlike}
use Rattle.core_charts.specs.declared.region.Effect.{Effect}
use Rattle.core_charts.specs.declared.region.Transition.{Transition}
use Rattle.chart_machine.specs.declared.standing.Configuration.{Configuration}
use Rattle.chart_machine.specs.declared.standing.Standing.TheVariants as at
use Rattle.chart_machine.specs.declared.table.Table.{Table}
use Rattle.chart_machine.specs.Turns.{standing_of, LiesIn, itself, deeper, ForkedApart}
use Rattle.chart_machine.specs.Steps.{truth, verdict, step, access_of, access_of_trigger}
use Rattle.chart_machine_laws.specs.Tree.{LiesUnder, around, holder}
use Rattle.chart_machine_laws.proofs.LyingIn.{apart_inside}
use Rattle.tick_laws.proofs.Lists.{same_or_not, get_set_other, contains_none, contains_cons, contains_head}
use Rattle.abort_expansion.specs.Transitions.{put, is_raised}
use Rattle.abort_expansion_laws.proofs.FlagAccess.{put_access, raised_access}
use Rattle.preemption_laws.specs.Looks.{look, Looks}
use Rattle.preemption_laws.proofs.CoreTries.{held, tails, writes, tries}
use Rattle.preemption_laws.proofs.Ground.{Ground, enclosed_on}
use Rattle.preemption_laws.proofs.MappedOnes.{mapped_one, got_in}
use Rattle.preemption_laws.proofs.OneWrite.{MakesEffect, Wrote, one_write}
use Rattle.preemption_laws.proofs.StaysThere.{Sound, IsGoing, is_within, within_around, stepping_there, none_inside}
use Rattle.preemption_laws.proofs.ApartTogether.{present_apart}

-- ---- of a flag

pub raised_reads : (x : ℕ) → reads (is_raised x) ≡ x ∷ []
raised_reads x = ap (λ (a : Access). a.reads) (raised_access x)

-- a flag that is not written is as it was
pub raised_same : (x y : ℕ) (v : Value) (values : List Value) → y ≢ x →
    verdict (slice_set values y v) (Some (is_raised x)) ≡ verdict values (Some (is_raised x))
raised_same x y v values other =
    ap (option_and_then truth) (value_same (is_raised x) (slice_set values y v) values
    (record { at = λ z inner. one z (subst (λ zs. Contains zs z) (raised_reads x) inner) }))
  where
    one : (z : ℕ) → Contains (x ∷ []) z → slice_get (slice_set values y v) z ≡ slice_get values z
    one z inner =
        ⊎_elim (λ same. get_set_other values y z v (λ e. other (sym e ∙ sym same))) (λ none. absurd (contains_none z none)) (contains_cons x z [] inner)

-- who looks at a flag may not come before who raises it
never_before : (x n : ℕ) (e : Effect) (a : Access) → e ≡ put x (suc n) → a ≡ access_of_assignment e.variable (assignment_of e.variable e.value) →
    ¬ MayPrecede (access_of_trigger (Some (is_raised x))) a
never_before x n e a raises is may =
    let now = is ∙ (ap (λ (f : Effect). access_of_assignment f.variable (assignment_of f.variable f.value)) raises ∙ put_access x (suc n)) in
    may.no_order
    (init_read x (Some (value_is.Int (pos (suc n))), ap (λ (z : Access). z.writes) now)
    (subst (λ zs. Contains zs x) (sym (raised_reads x)) (contains_head x [])))

abbrev pub act : ℕ → Access → Act
act t a = record { thread = t; access = a }

module _ (k : Table) (looks : ℕ → List Transition) (known : Looks k looks) (g : Ground k) where
  abbrev S : Configuration → Type 0
  S c = Sound k looks known g c

  -- a region has made this test: it failed, and whoever may raise the flag yet does not
  pub record Looked (c : Configuration) (log : List Act) (r : ℕ) (u : Transition) : Type 0 where
    pub down : verdict c.variables u.trigger ≡ Some false
    pub clear : Clear (ForkedApart k) (act r (access_of_trigger u.trigger)) (LiesUnder k r) log

  -- of each region all looks that it has behind it
  abbrev pub AllLooked : Configuration → List Act → Type 0
  AllLooked c log =
      (r s : ℕ) (tests before after : List Transition) (u : Transition) → standing_of c r ≡ at.Trying s tests → looks s ≡ before ++ u ∷ after →
      length tests ≤ length after → Looked c log r u

  -- where no test is behind it, there is none
  none_behind : {A : Type 0} (s : ℕ) (tests front before after : List Transition) (u : Transition) → tests ≡ front ++ looks s → looks s ≡ before ++ u ∷ after →
      length tests ≤ length after → A
  none_behind s tests front before after u is parts low_enough =
      let all : length tests ≡ length front + length (looks s) = ap length is ∙ length-append front (looks s) in
      let some : length (looks s) ≡ length before + suc (length after) = ap length parts ∙ length-append before (u ∷ after) in
      absurd (omega (all, some, low_enough, arith))

  module _ (c d : Configuration) (t : ℕ) (sound : S c) (steps : step k t c ≡ Some d) (log : List Act) where
    abbrev now : Access
    now = access_of (standing_of c t)

    -- ---- who stands before tests of a state stays there

    module _ (r s : ℕ) (tests : List Transition) (stands : standing_of c r ≡ at.Trying s tests) where
      going : IsGoing c r
      going = record { entered = λ e. (let wrong = sym stands ∙ e in absurd cc); not_ended = λ e. (let wrong = sym stands ∙ e in absurd cc) }

      -- who forks it apart from others takes no step
      forks_still : (a : ℕ) → LiesUnder k r a → t ≢ a
      forks_still a (inl (v, inner, holds)) same =
          none_inside k looks known g c sound d t steps r v going inner (holds ∙ sym same)
      forks_still a (inr none) same = let more = (stepping_there k looks known g c sound d t steps).0 in omega (more, same, none, arith)

      -- the thread that takes this step makes an effect, and is concurrent
      module _ (m : MakesEffect (standing_of c t)) where
        at_it : standing_of c t ≡ at.Acting m.state (m.effect ∷ m.effects) m.target
        at_it = m.stands

        other : r ≢ t
        other same = let wrong = sym stands ∙ (ap (standing_of c) same ∙ at_it) in absurd cc

        t_here : standing_of c t ≢ at.Outside
        t_here e = let wrong = sym at_it ∙ e in absurd cc

        t_out : ¬ LiesIn k t r
        t_out (itself same) = other (sym same)
        t_out (deeper v inner holds) =
            unlike (is_within (standing_of c (holder k v))) (within_around k looks known g c sound t v t_here inner)
            (ap (λ q. is_within (standing_of c q)) holds ∙ ap is_within stands)

        r_out : ¬ LiesIn k r t
        r_out (itself same) = other same
        r_out (deeper v inner holds) = none_inside k looks known g c sound d t steps r v going inner holds

        apart : (a : ℕ) × ForkedApart k r t a
        apart = present_apart k g.tree g.holder_there c (enclosed_on k g c sound.sits) r t going.entered t_here r_out t_out

        -- so it does not write a flag that was looked at
        no_write : (x : ℕ) → Contains (known.seen s) x →
            Clear (ForkedApart k) (act r (access_of_trigger (Some (is_raised x)))) (LiesUnder k r) (act t now ∷ log) → m.effect.variable ≢ x
        no_write x seen clear same =
            ⊎_elim (λ raises. by_raising raises.0 raises.1) by_holder
            (writes k looks known g c sound t m.state m.target m.effect m.effects at_it s x seen same)
          where
            by_raising : (n : ℕ) → m.effect ≡ put x (suc n) → ⊥
            by_raising n raises =
                never_before x n m.effect now raises (ap access_of at_it)
                (clear.0 apart.0 apart.1 (apart_inside k g.tree.nested r t apart.0 apart.1).0)

            by_holder : t ≡ holder k (known.superstate_of x) → ⊥
            by_holder one =
                let inner : Contains (around k r) (known.superstate_of x) =
                subst (λ q. Contains (around k q) (known.superstate_of x)) (held k looks known g c sound r s tests stands) (known.lies_inside s x seen) in
                unlike (is_within (standing_of c (holder k (known.superstate_of x))))
                (within_around k looks known g c sound r (known.superstate_of x) going.entered inner)
                (ap (λ q. is_within (standing_of c q)) (sym one) ∙ ap is_within at_it)

      -- a flag at which it has looked stays down
      module _ (u : Transition) (before after : List Transition) (parts : looks s ≡ before ++ u ∷ after) (looked : Looked c (act t now ∷ log) r u) where
        one : (i : ℕ) × (x : ℕ) × (slice_get (known.seen s) i ≡ Some x) × (u ≡ look (known.left s) x)
        one = mapped_one (look (known.left s)) (known.seen s) before after u (sym (known.are_looks s) ∙ parts)

        abbrev x : ℕ
        x = one.1

        trigger_is : u.trigger ≡ Some (is_raised x)
        trigger_is = ap (λ (z : Transition). z.trigger) one.3

        clear_here : Clear (ForkedApart k) (act r (access_of_trigger (Some (is_raised x)))) (LiesUnder k r) (act t now ∷ log)
        clear_here = subst (λ o. Clear (ForkedApart k) (act r (access_of_trigger o)) (LiesUnder k r) (act t now ∷ log)) trigger_is looked.clear

        still_down : Wrote k c t d → verdict d.variables u.trigger ≡ Some false
        still_down (inl same) = ap (λ vs. verdict vs u.trigger) same ∙ looked.down
        still_down (inr (m, v, is)) =
            ap (verdict d.variables) trigger_is
            ∙ (ap (λ vs. verdict vs (Some (is_raised x))) is
            ∙ (raised_same x m.effect.variable v c.variables (no_write m x (got_in (known.seen s) one.0 x one.2) clear_here)
            ∙ (ap (verdict c.variables) (sym trigger_is) ∙ looked.down)))

        pub looked_still : Looked d log r u
        looked_still =
            record {
              down = still_down (one_write k c t d steps);
              clear =
                  clear_weaker (ForkedApart k) (act r (access_of_trigger u.trigger)) (λ a. LiesUnder k r a × (t ≢ a)) (LiesUnder k r) log
                  (λ w a apart under. (under, forks_still a under)) looked.clear.1;
            }

    -- ---- after the step

    -- a test that has just failed
    just_looked : (s : ℕ) (first : Transition) (tests : List Transition) → Clear (ForkedApart k) (act t now) EachIsOpen log →
        standing_of c t ≡ at.Trying s (first ∷ tests) → verdict c.variables first.trigger ≡ Some false → d.variables ≡ c.variables → Looked d log t first
    just_looked s first tests clear stands fails same =
        record {
          down = ap (λ vs. verdict vs first.trigger) same ∙ fails;
          clear =
              clear_weaker (ForkedApart k) (act t (access_of_trigger first.trigger)) EachIsOpen (LiesUnder k t) log (λ w a apart under. tt)
              (subst (λ z. Clear (ForkedApart k) (act t (access_of z)) EachIsOpen log) stands clear);
        }

    -- a test writes nothing
    test_writes_none : (s : ℕ) (tests : List Transition) → standing_of c t ≡ at.Trying s tests → Wrote k c t d → d.variables ≡ c.variables
    test_writes_none s tests stands (inl same) = same
    test_writes_none s tests stands (inr (m, v, is)) = let wrong = sym stands ∙ m.stands in absurd cc

    same_first : {A : Type 0} (before passed after tests : List A) (u first : A) → before ++ u ∷ after ≡ passed ++ first ∷ tests → length after ≡ length tests →
        first ≡ u
    same_first [] [] after tests u first e size = let same : u ≡ first = cc in sym same
    same_first (b ∷ before) (q ∷ passed) after tests u first e size =
        same_first before passed after tests u first (let rest : before ++ u ∷ after ≡ passed ++ first ∷ tests = cc in rest) size
    same_first [] (q ∷ passed) after tests u first e size =
        let rest : after ≡ passed ++ first ∷ tests = cc in
        let more : length after ≡ length passed + suc (length tests) = ap length rest ∙ length-append passed (first ∷ tests) in
        absurd (omega (more, size, arith))
    same_first (b ∷ before) [] after tests u first e size =
        let rest : before ++ u ∷ after ≡ tests = cc in
        let more : length before + suc (length after) ≡ length tests = sym (length-append before (u ∷ after)) ∙ ap length rest in
        absurd (omega (more, size, arith))

    -- of the looks of its state it is the one before those that are left
    is_first : (s : ℕ) (first : Transition) (tests before after : List Transition) (u : Transition) → standing_of c t ≡ at.Trying s (first ∷ tests) →
        looks s ≡ before ++ u ∷ after → length tests ≡ length after → first ≡ u
    is_first s first tests before after u stands parts size = by (tails k looks known g c sound t s (first ∷ tests) stands)
      where
        by : ((front : List Transition) × (first ∷ tests ≡ front ++ looks s)) ⊎ ((passed : List Transition) × (looks s ≡ passed ++ first ∷ tests)) → first ≡ u
        by (inl (front, is)) = by_front front is
          where
            by_front : (front : List Transition) → first ∷ tests ≡ front ++ looks s → first ≡ u
            by_front [] is = same_first before [] after tests u first (sym parts ∙ sym is) (sym size)
            by_front (f ∷ front) is =
                let rest : tests ≡ front ++ looks s = cc in
                none_behind s tests front before after u rest parts (omega (size, arith))
        by (inr (passed, is)) = same_first before passed after tests u first (sym parts ∙ is) (sym size)

    pub all_looked_still : Clear (ForkedApart k) (act t now) EachIsOpen log → AllLooked c (act t now ∷ log) → AllLooked d log
    all_looked_still clear all r s tests before after u stands parts low_enough = by (tries k looks known g c d t sound steps r s tests stands)
      where
        own_step : (first : Transition) → r ≡ t → standing_of c r ≡ at.Trying s (first ∷ tests) → verdict c.variables first.trigger ≡ Some false →
            (length (first ∷ tests) ≤ length after) ⊎ (length tests ≡ length after) → Looked d log r u
        own_step first same was fails (inl before_it) =
            looked_still r s (first ∷ tests) was u before after parts (all r s (first ∷ tests) before after u was parts before_it)
        own_step first same was fails (inr size) =
            let at_t : standing_of c t ≡ at.Trying s (first ∷ tests) = subst (λ q. standing_of c q ≡ at.Trying s (first ∷ tests)) same was in
            subst (λ q. Looked d log q u) (sym same)
            (subst (Looked d log t) (is_first s first tests before after u at_t parts size)
            (just_looked s first tests clear at_t fails (test_writes_none s (first ∷ tests) at_t (one_write k c t d steps))))

        either : (first : Transition) → (length (first ∷ tests) ≤ length after) ⊎ (length tests ≡ length after)
        either first = ⊎_elim (λ same. inr same) (λ differ. inl (omega (differ, low_enough, arith))) (same_or_not (length tests) (length after))

        by : ((r ≢ t) × (standing_of c r ≡ standing_of d r))
            ⊎ (((r ≡ t) × (first : Transition) × (standing_of c r ≡ at.Trying s (first ∷ tests)) × (verdict c.variables first.trigger ≡ Some false))
            ⊎ ((front : List Transition) × (tests ≡ front ++ looks s))) → Looked d log r u
        by (inl (ne, same)) =
            looked_still r s tests (same ∙ stands) u before after parts (all r s tests before after u (same ∙ stands) parts low_enough)
        by (inr (inl (same, first, was, fails))) = own_step first same was fails (either first)
        by (inr (inr (front, is))) = none_behind s tests front before after u is parts low_enough
