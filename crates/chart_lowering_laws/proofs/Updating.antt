-- Where one region and its thread come to stand elsewhere, what is inside is opened or not, and the rest stays as it was,
-- the configurations correspond again.
use Rattle.std.proofs.Common.{◌≡◌, ◌≢◌, ℕ, zero, ◌<◌, ◌⊎◌, inl, inr, ⊎_elim, Bool, true, false, ◌&&◌, ◌||◌, if◌then◌else◌, nat_eq, List, [], ◌∷◌, length}
use Rattle.std.proofs.Common.{Contains, refl, sym, ap, subst, ◌∙◌, arith}
use Rattle.chart_machine.specs.declared.standing.Standing.{Standing}
use Rattle.chart_machine.specs.declared.standing.Standing.TheVariants as stand
use Rattle.chart_machine.specs.declared.standing.Configuration.{Configuration}
use Rattle.chart_machine.specs.declared.table.Table.{Table}
use Rattle.chart_machine.specs.Table.{state_at, region_at}
use Rattle.chart_machine.specs.Turns.{standing_of}
use Rattle.scl.specs.Numbering.{Numbered}
use Rattle.scl.specs.Meaning.{State, Doing, Away, doing}
use Rattle.chart_lowering_laws.specs.Layout.{Layout, IsSimple, IsFinal, IsSuper, LiesIn, IsRegionOf, IsNumberOf, Lowers}
use Rattle.chart_lowering_laws.specs.Corresponds.{Live, HeldBy, Giving, Nothing, Ready, Turn, giving, giving_in, giving_of_root, given, fresh, first_standing}
use Rattle.chart_lowering_laws.specs.Corresponds.{Fits, IsAtRoot, Corresponds}
use Rattle.tick_laws.proofs.Lists.{contains_head, contains_none}
use Rattle.chart_lowering_laws.proofs.NumberTests.{same_or_not, nat_differ, nat_same}
use Rattle.chart_lowering_laws.proofs.Entering.{opens_up, opened_in, not_opened, or_first}
use Rattle.chart_lowering_laws.proofs.Matching.{not_around, opened_by, is_within}
use Rattle.chart_lowering_laws.proofs.Structure.{Inside, inside_or_not, given_top, given_in, inside_less, inside_parent, inside_by, giving_closed}

-- one region and its thread come to stand elsewhere
pub record Changed (k : Table) (p : Numbered) (l : Layout) (c e : Configuration) (s f : State) (r : ℕ) : Type 0 where
  pub variables : e.variables ≡ f.variables
  pub regions : length e.regions ≡ length c.regions
  pub threads : length f.threads ≡ length s.threads
  pub standing : Standing
  pub does : Doing
  pub stands : standing_of e r ≡ standing
  pub is_at : doing f r ≡ does
  pub live : Live k p.root l r standing does
  pub held : HeldBy k p.root l r standing
  pub ready : is_within standing ≡ true → giving does ≡ Ready
  pub elsewhere : (q : ℕ) → IsNumberOf k q → q ≢ r → ¬ Inside k r q → (standing_of e q ≡ standing_of c q) × (doing f q ≡ doing s q)
  pub below : (q : ℕ) → IsRegionOf k q → Inside k r q → (standing_of e q ≡ (if opened_by k l standing q then fresh k l q else stand.Outside))
      × (doing f q ≡ Away)

-- but for region r and what lies inside it, each region stands where it stood
abbrev pub Elsewhere : Table → Configuration → Configuration → ℕ → Type 0
Elsewhere k c e r = (q : ℕ) → IsNumberOf k q → q ≢ r → ¬ Inside k r q → standing_of e q ≡ standing_of c q

-- they correspond after a step of region r
abbrev pub After : Table → Numbered → Layout → Configuration → ℕ → Configuration → State → Type 0
After k p l c r e f = Corresponds k p l e f × Elsewhere k c e r

module _ (k : Table) (p : Numbered) (l : Layout) (low : Lowers k p l) where
  -- what a region that was just entered gives to those in its states
  pub fresh_giving : (a u q : ℕ) → IsRegionOf k a → LiesIn k q u → giving_in u (fresh k l a) Away ≡ (if nat_eq (l.initial a) u then Ready else Nothing)
  fresh_giving a u q there lies = ⊎_elim simple (⊎_elim final super) (low.states i (low.tree.initials a there).there)
    where
      i : ℕ
      i = l.initial a

      alone : ((q : ℕ) → ¬ Contains (region_at k q).around i) → is_within (fresh k l a) ≡ false →
          giving_in u (fresh k l a) Away ≡ (if nat_eq i u then Ready else Nothing)
      alone none closed =
          giving_closed k p l low u (fresh k l a) Away closed
          ∙ sym (ap (λ b. if b then Ready else Nothing)
          (nat_differ i u (λ same. none q
          (subst (λ x. Contains x i) (sym lies.around) (subst (λ w. Contains (u ∷ (region_at k (state_at k u).holder).around) w) (sym same)
          (contains_head u (region_at k (state_at k u).holder).around))))))

      simple : IsSimple k p.root l i → giving_in u (fresh k l a) Away ≡ (if nat_eq i u then Ready else Nothing)
      simple h = alone h.none_inside (ap (λ moves. is_within (first_standing moves)) h.entered)

      final : IsFinal k p.root l i → giving_in u (fresh k l a) Away ≡ (if nat_eq i u then Ready else Nothing)
      final h = alone h.none_inside (ap (λ moves. is_within (first_standing moves)) h.entered)

      super : IsSuper k p.root l i → giving_in u (fresh k l a) Away ≡ (if nat_eq i u then Ready else Nothing)
      super h = ap (λ moves. giving_in u (first_standing moves) Away) h.entered

  module _ (c e : Configuration) (s f : State) (r : ℕ) (at_r : IsRegionOf k r) (corr : Corresponds k p l c s) (turn : given k c s (region_at k r).around ≡ Turn)
      (change : Changed k p l c e s f r) where
    abbrev x : Standing
    x = change.standing

    -- what is given to a region by one that is left as it was
    same_given : (q : ℕ) → IsRegionOf k q → (q ≡ r) ⊎ (¬ Inside k r q) → given k e f (region_at k q).around ≡ given k c s (region_at k q).around
    same_given q there apart = ⊎_elim top lies (low.tree.each q there)
      where
        not_zero : zero ≢ r
        not_zero same = let less : zero < r = at_r.0 in absurd (omega (arith, less, same))

        zero_outside : ¬ Inside k r zero
        zero_outside h = contains_none h.state h.around

        top : Contains l.top q × ((region_at k q).around ≡ []) → given k e f (region_at k q).around ≡ given k c s (region_at k q).around
        top t =
            given_top k e f q t.1
            ∙ ap giving_of_root (change.elsewhere zero (inl refl) not_zero zero_outside).1
            ∙ sym (given_top k c s q t.1)

        lies : (u : ℕ) × LiesIn k q u → given k e f (region_at k q).around ≡ given k c s (region_at k q).around
        lies u =
            let a : ℕ = (state_at k u.0).holder in
            let less : a < q = u.1.less in
            let differ : a ≢ r = λ same. ⊎_elim (λ is. absurd (omega (arith, less, same, is))) (λ none. none (inside_by k p l low r q u.0 u.1 (inl same))) apart
            in
            let outer : ¬ Inside k r a = λ h.
            ⊎_elim
            (λ is. let more : r < a = inside_less k p l low r a (low.tree.holders u.0 u.1.there) h in absurd (omega (arith, less, more, is)))
            (λ none. none (inside_by k p l low r q u.0 u.1 (inr h)))
            apart in
            let same : (standing_of e a ≡ standing_of c a) × (doing f a ≡ doing s a) = change.elsewhere a (inr (low.tree.holders u.0 u.1.there)) differ outer in
            given_in k e f q u.0 u.1
            ∙ ap (λ y. giving_in u.0 y (doing f a)) same.0
            ∙ ap (giving_in u.0 (standing_of c a)) same.1
            ∙ sym (given_in k c s q u.0 u.1)

    own : Fits k p.root l r (given k e f (region_at k r).around) (standing_of e r) (doing f r)
    own =
        subst (λ g. Fits k p.root l r g (standing_of e r) (doing f r)) (sym (same_given r at_r (inl refl) ∙ turn))
        (subst (λ y. Live k p.root l r y (doing f r) × HeldBy k p.root l r y) (sym change.stands)
        (subst (λ d. Live k p.root l r x d × HeldBy k p.root l r x) (sym change.is_at) (change.live, change.held)))

    other : (q : ℕ) → IsRegionOf k q → q ≢ r → ¬ Inside k r q → Fits k p.root l q (given k e f (region_at k q).around) (standing_of e q) (doing f q)
    other q there differ outer =
        let same : (standing_of e q ≡ standing_of c q) × (doing f q ≡ doing s q) = change.elsewhere q (inr there) differ outer in
        subst (λ g. Fits k p.root l q g (standing_of e q) (doing f q)) (sym (same_given q there (inr outer)))
        (subst (λ y. Fits k p.root l q (given k c s (region_at k q).around) y (doing f q)) (sym same.0)
        (subst (λ d. Fits k p.root l q (given k c s (region_at k q).around) (standing_of c q) d) (sym same.1) (corr.each q there)))

    closed : (a b c : Bool) → a ≡ false → c ≡ false → (a || (b && c)) ≡ false
    closed false true false h i = refl
    closed false false false h i = refl
    closed true b c h i = absurd (cc)
    closed false b true h i = absurd (cc)

    -- a superstate opens the regions of its own
    opened_beside : (v q : ℕ) → LiesIn k q v → (state_at k v).holder ≡ r → (y : Standing) (d : Doing) → HeldBy k p.root l r y →
        (is_within y ≡ true → giving d ≡ Ready) → giving_in v y d ≡ (if opened_by k l y q then Ready else Nothing)
    opened_beside v q lies same stand.Outside d held ready = refl
    opened_beside v q lies same stand.Ended d held ready = refl
    opened_beside v q lies same (stand.Trying w tests) d held ready = refl
    opened_beside v q lies same (stand.Entering w tests) d held ready = refl
    opened_beside v q lies same (stand.Guarding w tests) d held ready = refl
    opened_beside v q lies same (stand.Acting w effects target) d held ready = refl
    opened_beside v q lies same (stand.Within w tests) d held ready = ⊎_elim here elsewhere (same_or_not w v)
      where
        around_r : List ℕ
        around_r = (region_at k (state_at k v).holder).around

        none : opens_up k l w around_r ≡ false
        none = not_opened k l w around_r (subst (λ z. ¬ Contains (region_at k z).around w) (sym same) (not_around k p l low r w at_r held.0.holder))

        here : w ≡ v → (if nat_eq w v then giving d else Nothing) ≡ (if opened_in k l w q then Ready else Nothing)
        here is =
            ap (λ b. if b then giving d else Nothing) (nat_same w v is)
            ∙ ready refl
            ∙ sym (ap (λ b. if b then Ready else Nothing)
            (subst (λ z. opens_up k l w z ≡ true) (sym lies.around)
            (or_first (nat_eq v w) (nat_eq (l.initial (state_at k v).holder) v && opens_up k l w around_r) (nat_same v w (sym is)))))

        elsewhere : w ≢ v → (if nat_eq w v then giving d else Nothing) ≡ (if opened_in k l w q then Ready else Nothing)
        elsewhere differ =
            ap (λ b. if b then giving d else Nothing) (nat_differ w v differ)
            ∙ sym (ap (λ b. if b then Ready else Nothing) (ap (opens_up k l w) lies.around ∙ closed (nat_eq v w) (nat_eq (l.initial (state_at k v).holder) v)
            (opens_up k l w around_r) (nat_differ v w (λ is. differ (sym is))) none))

    -- further down a region is opened where the one around it is, and stands in its initial state there
    opened_below : (v q : ℕ) → LiesIn k q v → IsRegionOf k (state_at k v).holder → Inside k r (state_at k v).holder → (y : Standing) → HeldBy k p.root l r y →
        giving_in v (if opened_by k l y (state_at k v).holder then fresh k l (state_at k v).holder else stand.Outside) Away
        ≡ (if opened_by k l y q then Ready else Nothing)
    opened_below v q lies there inner stand.Outside held = refl
    opened_below v q lies there inner stand.Ended held = refl
    opened_below v q lies there inner (stand.Trying w tests) held = refl
    opened_below v q lies there inner (stand.Entering w tests) held = refl
    opened_below v q lies there inner (stand.Guarding w tests) held = refl
    opened_below v q lies there inner (stand.Acting w effects target) held = refl
    opened_below v q lies there inner (stand.Within w tests) held = by (opened_in k l w a) refl
      where
        a : ℕ
        a = (state_at k v).holder

        differ : v ≢ w
        differ is =
            let less : r < a = inside_less k p l low r a there inner in
            let at_w : (state_at k v).holder ≡ r = ap (λ z. (state_at k z).holder) is ∙ held.0.holder in
            absurd (omega (arith, less, at_w))

        unfolded : (b : Bool) → opened_in k l w a ≡ b → opened_in k l w q ≡ (nat_eq (l.initial a) v && b)
        unfolded b is =
            ap (opens_up k l w) lies.around
            ∙ ap (λ z. z || (nat_eq (l.initial a) v && opens_up k l w (region_at k a).around)) (nat_differ v w differ)
            ∙ ap (λ z. nat_eq (l.initial a) v && z) is

        with_true : (b : Bool) → b ≡ (b && true)
        with_true true = refl
        with_true false = refl

        with_false : (b : Bool) → false ≡ (b && false)
        with_false true = refl
        with_false false = refl

        by : (b : Bool) → opened_in k l w a ≡ b → giving_in v (if opened_in k l w a then fresh k l a else stand.Outside) Away
            ≡ (if opened_in k l w q then Ready else Nothing)
        by true is =
            ap (λ b. giving_in v (if b then fresh k l a else stand.Outside) Away) is
            ∙ fresh_giving a v q there lies
            ∙ ap (λ b. if b then Ready else Nothing) (with_true (nat_eq (l.initial a) v) ∙ sym (unfolded true is))
        by false is =
            ap (λ b. giving_in v (if b then fresh k l a else stand.Outside) Away) is
            ∙ ap (λ b. if b then Ready else Nothing) (with_false (nat_eq (l.initial a) v) ∙ sym (unfolded false is))

    -- where it is opened, it stands fresh, else it is outside
    abbrev opened_standing : Bool → ℕ → Standing
    opened_standing b q = if b then fresh k l q else stand.Outside

    by_ready : (q : ℕ) (b : Bool) (g : Giving) → g ≡ (if b then Ready else Nothing) → standing_of e q ≡ opened_standing b q → doing f q ≡ Away →
        Fits k p.root l q g (standing_of e q) (doing f q)
    by_ready q true g is stands away = subst (λ g. Fits k p.root l q g (standing_of e q) (doing f q)) (sym is) (stands, away)
    by_ready q false g is stands away = subst (λ g. Fits k p.root l q g (standing_of e q) (doing f q)) (sym is) (stands, away)

    deep : (q : ℕ) → IsRegionOf k q → Inside k r q → Fits k p.root l q (given k e f (region_at k q).around) (standing_of e q) (doing f q)
    deep q there h = ⊎_elim top lies (low.tree.each q there)
      where
        now : (standing_of e q ≡ opened_standing (opened_by k l x q) q) × (doing f q ≡ Away)
        now = change.below q there h

        top : Contains l.top q × ((region_at k q).around ≡ []) → Fits k p.root l q (given k e f (region_at k q).around) (standing_of e q) (doing f q)
        top t = absurd (contains_none h.state (subst (λ a. Contains a h.state) t.1 h.around))

        lies : (u : ℕ) × LiesIn k q u → Fits k p.root l q (given k e f (region_at k q).around) (standing_of e q) (doing f q)
        lies u = by_ready q (opened_by k l x q) (given k e f (region_at k q).around)
            (given_in k e f q u.0 u.1 ∙ ⊎_elim beside below (inside_parent k p l low r q u.0 u.1 h)) now.0 now.1
          where
            v : ℕ
            v = u.0

            a : ℕ
            a = (state_at k v).holder

            -- in a state of r itself
            beside : a ≡ r → giving_in v (standing_of e a) (doing f a) ≡ (if opened_by k l x q then Ready else Nothing)
            beside same =
                ap (λ w. giving_in v (standing_of e w) (doing f w)) same
                ∙ ap (λ y. giving_in v y (doing f r)) change.stands
                ∙ ap (giving_in v x) change.is_at
                ∙ opened_beside v q u.1 same x change.does change.held change.ready

            below : Inside k r a → giving_in v (standing_of e a) (doing f a) ≡ (if opened_by k l x q then Ready else Nothing)
            below inner =
                let a_there : IsRegionOf k a = low.tree.holders v u.1.there in
                let above : (standing_of e a ≡ opened_standing (opened_by k l x a) a) × (doing f a ≡ Away) = change.below a a_there inner in
                ap (λ y. giving_in v y (doing f a)) above.0
                ∙ ap (giving_in v (opened_standing (opened_by k l x a) a)) above.1
                ∙ opened_below v q u.1 a_there inner x change.held

    pub corresponds_again : Corresponds k p l e f
    corresponds_again = record {
      variables = change.variables;
      regions = change.regions ∙ corr.regions;
      threads = change.threads ∙ corr.threads;
      chart = (change.elsewhere zero (inl refl) not_zero zero_outside).0 ∙ corr.chart;
      root = subst (IsAtRoot p.root) (sym (change.elsewhere zero (inl refl) not_zero zero_outside).1) corr.root;
      each = λ q there. ⊎_elim (λ same. subst (λ w. Fits k p.root l w (given k e f (region_at k w).around) (standing_of e w) (doing f w)) (sym same) own)
          (λ differ. ⊎_elim (λ h. deep q there h) (λ outer. other q there differ outer) (inside_or_not k r q)) (same_or_not q r);
    }
      where
        not_zero : zero ≢ r
        not_zero same = let less : zero < r = at_r.0 in absurd (omega (arith, less, same))

        zero_outside : ¬ Inside k r zero
        zero_outside h = contains_none h.state h.around
