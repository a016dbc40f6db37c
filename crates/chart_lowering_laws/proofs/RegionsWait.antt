-- A region in a superstate waits for those inside: its next step shows.
use Rattle.std.proofs.Common.{◌≡◌, ◌≢◌, ℕ, zero, suc, ◌<◌, ◌⊎◌, inl, inr, ⊎_elim, Bool, true, false, if◌then◌else◌, Option, Some, None, List, [], ◌∷◌}
use Rattle.std.proofs.Common.{Contains, refl, sym, ap, subst, ◌∙◌, arith}
use Rattle.sc_values.specs.declared.expression.Expr.{Expr}
use Rattle.sc_values.specs.Access.{no_access}
use Rattle.core_charts.specs.declared.region.Transition.{Transition}
use Rattle.chart_machine.specs.declared.standing.Standing.{Standing}
use Rattle.chart_machine.specs.declared.standing.Standing.TheVariants as stand
use Rattle.chart_machine.specs.declared.standing.Configuration.{Configuration}
use Rattle.chart_machine.specs.declared.table.Table.{Table}
use Rattle.chart_machine.specs.Table.{state_at, region_at}
use Rattle.chart_machine.specs.Turns.{standing_of, holder_of, itself, deeper}
use Rattle.chart_machine.specs.Turns.{LiesIn as LiesUnder, ForkedApart as RegionsApart}
use Rattle.chart_machine.specs.Steps.{step as chart_step, access_of as access_of_region}
use Rattle.chart_machine.specs.Machine.{machine as chart_machine}
use Rattle.scl.specs.Block.{End, Assign, Label, Goto, Pause, If, Fork}
use Rattle.scl.specs.Numbering.{Numbered}
use Rattle.scl.specs.Meaning.{State, Doing, Away, Todo, Forked, Resting, Resuming, Finished, doing, machine}
use Rattle.scl.specs.Meaning.{access_of as access_of_thread}
use Rattle.chart_lowering_laws.specs.Layout.{Layout, LiesIn, IsRegionOf, Lowers}
use Rattle.chart_lowering_laws.specs.Corresponds.{Nothing, giving, giving_in, Corresponds}
use Rattle.chart_lowering_laws.specs.Shown.{AreSilent}
use Rattle.chart_lowering_laws.proofs.Waiting.{Waiting}
use Rattle.chart_lowering_laws.specs.Follows.{Answers}
use Rattle.chart_lowering_laws.specs.WhichShow.{region_shows, thread_shows, shows_standing, shows_doing, has_trigger}
use Rattle.tick_laws.proofs.Lists.{contains_head, contains_tail, contains_none, contains_cons}
use Rattle.chart_lowering_laws.proofs.NumberTests.{same_or_not, nat_differ}
use Rattle.chart_lowering_laws.proofs.Matching.{is_within, around_less}
use Rattle.chart_lowering_laws.proofs.Structure.{Inside, inside_or_not, inside_less, giving_closed}
use Rattle.chart_lowering_laws.proofs.Updating.{After}
use Rattle.chart_lowering_laws.proofs.Joining.{closed_at, done_below}
use Rattle.chart_lowering_laws.proofs.Showing.{region_of}
use Rattle.chart_lowering_laws.proofs.ByRegions.{step_followed, shown_of, works_at, ended_inside}

-- ---- silent steps neither read nor write

pub threads_silent : (p : Numbered) → AreSilent (machine p) thread_shows
threads_silent p s t h = by (doing s t) h
  where
    by : (d : Doing) → shows_doing d ≡ false → access_of_thread d ≡ no_access
    by Away h = refl
    by (Todo (End n)) h = refl
    by (Todo (Assign n x e rest)) h = absurd (cc)
    by (Todo (Label name rest)) h = refl
    by (Todo (Goto g name rest)) h = refl
    by (Todo (Pause n rest)) h = refl
    by (Todo (If n e a b rest)) h = absurd (cc)
    by (Todo (Fork n branches rest)) h = refl
    by (Forked n branches rest) h = refl
    by (Resting n rest) h = refl
    by (Resuming n rest) h = refl
    by Finished h = refl

pub regions_silent : (k : Table) → AreSilent (chart_machine k) region_shows
regions_silent k c t h = by (standing_of c t) h
  where
    without : (o : Option Expr) → has_trigger o ≡ false → Rattle.chart_machine.specs.Steps.access_of_trigger o ≡ no_access
    without None h = refl
    without (Some e) h = absurd (cc)

    by : (x : Standing) → shows_standing x ≡ false → access_of_region x ≡ no_access
    by stand.Outside h = absurd (cc)
    by stand.Ended h = absurd (cc)
    by (stand.Trying u []) h = absurd (cc)
    by (stand.Trying u (x ∷ tests)) h = without x.trigger h
    by (stand.Entering u tests) h = absurd (cc)
    by (stand.Guarding u tests) h = absurd (cc)
    by (stand.Acting u effects target) h = absurd (cc)
    by (stand.Within u tests) h = absurd (cc)

module _ (k : Table) (p : Numbered) (l : Layout) (low : Lowers k p l) where
  abbrev pub Keeps : Configuration → Type 0
  Keeps c = (s : State) × Corresponds k p l c s

  abbrev Waits : Configuration → ℕ → Type 0
  Waits c a = (a ≡ zero) ⊎ (is_within (standing_of c a) ≡ true)

  -- what is around one region is around those inside it
  around_up : (n t w left v : ℕ) → t < n → IsRegionOf k t → Contains (region_at k t).around w → (state_at k w).holder ≡ left →
      Contains (region_at k left).around v → Contains (region_at k t).around v
  around_up zero t w left v lt there h holder up = absurd (omega (arith, lt))
  around_up (suc n) t w left v lt there h holder up = ⊎_elim top (lies (λ x less at i. around_up n x w left v less at i holder up)) (low.tree.each t there)
    where
      top : Contains l.top t × ((region_at k t).around ≡ []) → Contains (region_at k t).around v
      top i = absurd (contains_none w (subst (λ x. Contains x w) i.1 h))

      lies : ((x : ℕ) → x < n → IsRegionOf k x → Contains (region_at k x).around w → Contains (region_at k x).around v) → (y : ℕ) × LiesIn k t y →
          Contains (region_at k t).around v
      lies further y =
          let x : ℕ = (state_at k y.0).holder in
          let less : x < t = y.1.less in
          subst (λ xs. Contains xs v) (sym y.1.around)
          (contains_tail y.0 v (region_at k x).around
          (⊎_elim
          (λ same. subst (λ z. Contains (region_at k z).around v) (sym holder ∙ sym (ap (λ z. (state_at k z).holder) same)) up)
          (λ tail. further x (omega (arith, less, lt)) (low.tree.holders y.0 y.1.there) tail)
          (contains_cons y.0 w (region_at k x).around (subst (λ xs. Contains xs w) y.1.around h))))

  -- the thread that forks others apart holds a superstate around them, or is the chart itself
  pub forks_around : (t u a : ℕ) → IsRegionOf k t → RegionsApart k t u a →
      (a ≡ zero) ⊎ ((v : ℕ) × Contains (region_at k t).around v × ((state_at k v).holder ≡ a))
  forks_around t u a there h = by (region_at k h.left).around refl
    where
      above : (v : ℕ) → Contains (region_at k h.left).around v → LiesUnder k t h.left → Contains (region_at k t).around v
      above v up (itself same) = subst (λ z. Contains (region_at k z).around v) (sym same) up
      above v up (deeper w around holder) = around_up (suc t) t w h.left v (omega arith) there around holder up

      by : (xs : List ℕ) → (region_at k h.left).around ≡ xs → (a ≡ zero) ⊎ ((v : ℕ) × Contains (region_at k t).around v × ((state_at k v).holder ≡ a))
      by [] is = inl (sym h.held ∙ ap (holder_of k) is)
      by (v ∷ xs) is = inr (v, above v (subst (λ ys. Contains ys v) (sym is) (contains_head v xs)) h.r_in, sym (ap (holder_of k) is) ∙ h.held)

  module _ (c : Configuration) (keeps : Keeps c) where
    -- who stands somewhere stands in superstates alone
    above_within : (q v : ℕ) → IsRegionOf k q → standing_of c q ≢ stand.Outside → Contains (region_at k q).around v →
        is_within (standing_of c (state_at k v).holder) ≡ true
    above_within q v there entered h = by (is_within (standing_of c (state_at k v).holder)) refl
      where
        by : (b : Bool) → is_within (standing_of c (state_at k v).holder) ≡ b → b ≡ true
        by true is = refl
        by false is = absurd (entered (closed_at k p l low c keeps.0 keeps.1 v (λ d. giving_closed k p l low v (standing_of c (state_at k v).holder) d is)
            (suc q) q (omega arith) there h).0)

    within_region : (a : ℕ) → is_within (standing_of c a) ≡ true → IsRegionOf k a
    within_region a h = region_of k p l c keeps.0 keeps.1 a (λ out. let i : is_within stand.Outside ≡ true = subst (λ x. is_within x ≡ true) out h in
        absurd (cc))

    module _ (d : Configuration) (t : ℕ) (steps : chart_step k t c ≡ Some d) where
      after_step : (f : State) × After k p l c t d f
      after_step =
          let a : Answers (machine p) thread_shows keeps.0 (After k p l c t d) (shown_of k p l low c t) = step_followed k p l low c keeps.0 keeps.1 t d steps in
          (a.end, a.good)

      entered : standing_of c t ≢ stand.Outside
      entered = works_at k p l low c t d steps

      t_region : IsRegionOf k t
      t_region = region_of k p l c keeps.0 keeps.1 t entered

      -- who is in a superstate around t, or elsewhere, stays there
      stays_in : (a : ℕ) → t ≢ a → ¬ Inside k t a → is_within (standing_of c a) ≡ true → is_within (standing_of d a) ≡ true
      stays_in a differ outer h = ap is_within (after_step.1.1 a (inr (within_region a h)) (λ same. differ (sym same)) outer) ∙ h

      pub begins : (u a : ℕ) → RegionsApart k t u a → Waits d a
      begins u a h =
          ⊎_elim
          (λ is. inl is)
          (λ v.
          let less : (state_at k v.0).holder < t = around_less k p l low (suc t) t (omega arith) t_region v.0 v.1 in
          let is : (state_at k v.0).holder ≡ a = v.2 in
          let a_within : is_within (standing_of c a) ≡ true = subst (λ z. is_within (standing_of c z) ≡ true) is (above_within t v.0 t_region entered v.1) in
          inr (stays_in a (λ same. absurd (omega (arith, less, is, same)))
          (λ inner. let more : t < a = inside_less k p l low t a (within_region a a_within) inner in absurd (omega (arith, less, is, more))) a_within))
          (forks_around t u a t_region h)

      -- a region whose step is taken is in no superstate with others that have not ended inside
      pub stays : (a : ℕ) → Waits c a → t ≢ a → Waits d a
      stays a (inl is) differ = inl is
      stays a (inr h) differ = ⊎_elim (λ inner. absurd (none inner)) (λ outer. inr (stays_in a differ outer h)) (inside_or_not k t a)
        where
          none : Inside k t a → ⊥
          none inner = by (standing_of c t) refl
              (subst (λ z. is_within (standing_of c z) ≡ true) inner.holder (above_within a inner.state (within_region a h) a_entered inner.around))
            where
              a_entered : standing_of c a ≢ stand.Outside
              a_entered out = let i : is_within stand.Outside ≡ true = subst (λ x. is_within x ≡ true) out h in absurd (cc)

              in_superstate : (u : ℕ) (tests : List Transition) → standing_of c t ≡ stand.Within u tests → ⊥
              in_superstate u tests stands =
                  ⊎_elim
                  (λ same.
                  let ended : (q : ℕ) → Contains (state_at k u).regions q → standing_of c q ≡ stand.Ended =
                  ended_inside k p l low c keeps.0 keeps.1 t d steps u tests stands in
                  ⊎_elim
                  (λ direct. let i : is_within stand.Ended ≡ true = subst (λ x. is_within x ≡ true) (ended a direct) h in absurd (cc))
                  (λ deep. a_entered deep.0)
                  (done_below k p l low c keeps.0 keeps.1 u ended (suc a) a (omega arith) (within_region a h)
                  (subst (Contains (region_at k a).around) same inner.around)))
                  (λ differ. a_entered (closed_at k p l low c keeps.0 keeps.1 inner.state (closed u tests stands differ) (suc a) a (omega arith)
                  (within_region a h) inner.around).0)
                  (same_or_not inner.state u)
                where
                  closed : (u : ℕ) (tests : List Transition) → standing_of c t ≡ stand.Within u tests → inner.state ≢ u → (e : Doing) →
                      giving_in inner.state (standing_of c (state_at k inner.state).holder) e ≡ Nothing
                  closed u tests stands differ e =
                      ap (λ z. giving_in inner.state (standing_of c z) e) inner.holder
                      ∙ ap (λ y. giving_in inner.state y e) stands
                      ∙ ap (λ b. if b then giving e else Nothing) (nat_differ u inner.state (λ same. differ (sym same)))

              by : (x : Standing) → standing_of c t ≡ x → is_within (standing_of c t) ≡ true → ⊥
              by (stand.Within u tests) stands w = in_superstate u tests stands
              by stand.Outside stands w = let i : is_within stand.Outside ≡ true = subst (λ x. is_within x ≡ true) stands w in absurd (cc)
              by stand.Ended stands w = let i : is_within stand.Ended ≡ true = subst (λ x. is_within x ≡ true) stands w in absurd (cc)
              by (stand.Trying u tests) stands w = let i : is_within (stand.Trying u tests) ≡ true = subst (λ x. is_within x ≡ true) stands w in absurd (cc)
              by (stand.Entering u tests) stands w = let i : is_within (stand.Entering u tests) ≡ true = subst (λ x. is_within x ≡ true) stands w in absurd (cc)
              by (stand.Guarding u tests) stands w = let i : is_within (stand.Guarding u tests) ≡ true = subst (λ x. is_within x ≡ true) stands w in absurd (cc)
              by (stand.Acting u effects target) stands w = let i : is_within (stand.Acting u effects target) ≡ true =
                  subst (λ x. is_within x ≡ true) stands w in absurd (cc)

  pub regions_wait : Waiting (chart_machine k) region_shows Keeps
  regions_wait = record {
    Waits = Waits;
    Dead = λ c a. ⊥;
    keeps = λ c d t keeps steps. let f : (f : State) × After k p l c t d f = after_step c keeps d t steps in (f.0, f.1.0);
    begins = λ c d t u a keeps apart steps. begins c keeps d t steps u a apart;
    stays = λ c d t a keeps waits differ steps. stays c keeps d t steps a waits differ;
    ends = λ c d a keeps waits steps. inl (next_shows c d a keeps waits steps);
    dead = λ c d t a keeps dead steps. dead;
    rests = λ c d t u a keeps dead apart steps. absurd dead;
  }
    where
      next_shows : (c d : Configuration) (a : ℕ) → Keeps c → Waits c a → chart_step k a c ≡ Some d → region_shows c a ≡ true
      next_shows c d a keeps (inl is) steps = let there : IsRegionOf k a = t_region c keeps d a steps in let more : zero < a = there.0 in
          absurd (omega (arith, more, is))
      next_shows c d a keeps (inr h) steps = by (standing_of c a) h
        where
          by : (x : Standing) → is_within x ≡ true → shows_standing x ≡ true
          by (stand.Within u tests) h = refl
          by stand.Outside h = absurd (cc)
          by stand.Ended h = absurd (cc)
          by (stand.Trying u tests) h = absurd (cc)
          by (stand.Entering u tests) h = absurd (cc)
          by (stand.Guarding u tests) h = absurd (cc)
          by (stand.Acting u effects target) h = absurd (cc)
