-- Once a flag is raised, one thread inside its superstate leaves, and which stages are reached while those that lie deeper have left.
use Rattle.std.proofs.Common.{◌≡◌, ◌≢◌, ℕ, suc, ◌<◌, ◌≤◌, ◌⊎◌, inl, inr, ⊎_elim, true, false, Option, Some, List, []}
use Rattle.std.proofs.Common.{◌∷◌, length, slice_set, Contains, refl, sym, ap, subst, ◌∙◌, arith}
use Rattle.std.proofs.lemmas.Bool.{cases_lt}
use Rattle.sc_values.specs.Access.{Access}
use Rattle.core_charts.specs.declared.region.Transition.{Transition}
use Rattle.chart_machine.specs.declared.standing.Standing.{Standing}
use Rattle.chart_machine.specs.declared.standing.Standing.TheVariants as at
use Rattle.chart_machine.specs.declared.standing.Configuration.{Configuration}
use Rattle.chart_machine.specs.declared.table.Table.{Table}
use Rattle.chart_machine.specs.Turns.{standing_of, guards, has_work, inside}
use Rattle.chart_machine.specs.Steps.{verdict, access_of, access_of_trigger}
use Rattle.chart_machine.specs.Machine.{machine}
use Rattle.tick_laws.proofs.Lists.{same_or_not, contained}
use Rattle.abort_expansion_laws.specs.Stages.{Entry, Silent, Correspondence, Climbs}
use Rattle.std.proofs.lemmas.Option.{same_Some}
use Rattle.std.proofs.lemmas.List.{length-set}
use Rattle.abort_expansion_laws.proofs.Supplying.{climbs_step}
use Rattle.abort_expansion_laws.proofs.Segments.{Segment, segment_on}
use Rattle.abort_expansion_laws.proofs.SilentSteps.{AtHome, climbs_at, climbs_over, silent_step}
use Rattle.chart_machine_laws.proofs.LyingIn.{IsNested, around, holder, around_around}
use Rattle.abort_expansion_laws.proofs.StageReached.{holds_other}
use Rattle.abort_expansion_laws.proofs.TestFails.{fails}
use Rattle.abort_expansion_laws.proofs.Leaving.{set_here, set_other, leaves}
use Rattle.abort_expansion_laws.proofs.Unchanged.{unguarded}
use Rattle.abort_expansion_laws.proofs.MayLeave.{is_forked, IsOfInner, IsOfOuter, IsStaged, AreOuterOne, LeavesBy, leads_out, fails_before}
use Rattle.abort_expansion_laws.proofs.NumberedRegions.{past_number}

module _ (core : Table) (tree : IsNested core) (deeper : (q s : ℕ) → Contains (around core q) s → holder core s < q)
    (corr : Correspondence) (Told : Configuration → Entry → Type 0) (told : (d : Configuration) (t : ℕ) (stage : Option (ℕ × ℕ)) (a : Access) →
    Told d (Silent t stage a))
    (Others : ℕ → ℕ → Type 0) (home stage f : ℕ) (first : Configuration) (free : (t : ℕ) → guards (standing_of first t) ≡ false) where
  -- region q lies in the superstate
  abbrev pub In : ℕ → Type 0
  In q = Contains (around core q) f

  -- it has left; or it was dropped by a superstate around it, whose region has left
  abbrev pub Gone : Configuration → ℕ → ℕ → Type 0
  Gone d n q =
      (standing_of d q ≡ at.Ended)
      ⊎ ((standing_of d q ≡ at.Outside) × ((standing_of first q ≡ at.Outside) ⊎
      ((s : ℕ) × Contains (around core q) s × (n ≤ holder core s) × In (holder core s))))

  pub record Left (n : ℕ) (d : Configuration) : Type 0 where
    pub variables : d.variables ≡ first.variables
    pub size : length d.regions ≡ length first.regions
    pub waits : (q : ℕ) → In q → q < n → standing_of d q ≡ standing_of first q
    pub gone : (q : ℕ) → In q → n ≤ q → Gone d n q
    pub others : (q : ℕ) → ¬ In q → standing_of d q ≡ standing_of first q

  later : (m n : ℕ) → m ≤ n → m ≢ n → suc m ≤ n
  later m n le ne = grind arith

  weaker : (d : Configuration) (n q : ℕ) → Gone d (suc n) q → Gone d n q
  weaker d n q (inl ended) = inl ended
  weaker d n q (inr (outside, inl was)) = inr (outside, inl was)
  weaker d n q (inr (outside, inr by_outer)) = inr (outside, inr (by_outer.0, by_outer.1, (let le = by_outer.2 in omega (le, arith)), by_outer.3))

  gone_alike : (d e : Configuration) (n q : ℕ) → standing_of e q ≡ standing_of d q → Gone d n q → Gone e n q
  gone_alike d e n q same (inl ended) = inl (same ∙ ended)
  gone_alike d e n q same (inr (outside, why)) = inr (same ∙ outside, why)

  pub gone_quiet : (d : Configuration) (n q : ℕ) → Gone d n q → guards (standing_of d q) ≡ false
  gone_quiet d n q (inl ended) = ap guards ended
  gone_quiet d n q (inr (outside, why)) = ap guards outside

  pub gone_idle : (d e : Configuration) (n q : ℕ) → Gone d n q → has_work core e (standing_of d q) ≡ false
  gone_idle d e n q (inl ended) = ap (has_work core e) ended
  gone_idle d e n q (inr (outside, why)) = ap (has_work core e) outside

  pub no_guards : (n : ℕ) (d : Configuration) → Left n d → (t : ℕ) → guards (standing_of d t) ≡ false
  no_guards n d left t =
      ⊎_elim (λ inner. ⊎_elim (λ lt. ap guards (left.waits t inner lt) ∙ free t) (λ le. gone_quiet d n t (left.gone t inner le)) (cases_lt t n))
      (λ outer. ap guards (left.others t outer) ∙ free t) (contained (around core t) f)

  -- region n has left, and what lies in these was dropped
  pub left_after : (n : ℕ) (d e : Configuration) (rs : List ℕ) → Left (suc n) d →
      ((q : ℕ) → Contains rs q → (s : ℕ) × Contains (around core q) s × (holder core s ≡ n)) →
      ((q : ℕ) → q ≢ n → ¬ Contains rs q → standing_of e q ≡ standing_of d q) → ((q : ℕ) → q ≢ n → Contains rs q → standing_of e q ≡ at.Outside) →
      Gone e n n → In n →
      ((q : ℕ) → Contains rs q → In q) → e.variables ≡ d.variables → length e.regions ≡ length d.regions → Left n e
  left_after n d e rs left inner same outside own in_n in_rs values size =
      record {
        variables = values ∙ left.variables;
        size = size ∙ left.size;
        waits = λ q in_q lt.
            same q (λ e. omega (lt, e, arith)) (λ h. let s = inner q h in let up = deeper q s.0 s.1 in let held = s.2 in absurd (omega (up, held, lt, arith)))
            ∙ left.waits q in_q (omega (lt, arith));
        gone = λ q in_q le. ⊎_elim (λ same_q. subst (λ p. Gone e n p) (sym same_q) own)
            (λ ne. by_place q in_q (later n q le (λ e. ne (sym e))) ne (contained rs q)) (same_or_not q n);
        others = λ q out_q. same q (λ e. out_q (subst In (sym e) in_n)) (λ h. out_q (in_rs q h)) ∙ left.others q out_q;
      }
    where
      by_place : (q : ℕ) → In q → suc n ≤ q → q ≢ n → Contains rs q ⊎ ¬ Contains rs q → Gone e n q
      by_place q in_q le ne (inl h) = let s = inner q h in inr (
        outside q ne h,
        inr
            (s.0, s.1, (let held = s.2 in omega (held, arith)), subst In (sym s.2) in_n),
      )
      by_place q in_q le ne (inr none) = gone_alike d e n q (same q ne none) (weaker d n q (left.gone q in_q le))

  pub in_range : (d : Configuration) (q : ℕ) (x : Standing) → standing_of d q ≡ x → x ≢ at.Outside → q < length d.regions
  in_range d q x stands present = ⊎_elim (λ lt. lt) (λ past. absurd (present (sym stands ∙ past_number d.regions q past))) (cases_lt q (length d.regions))

  -- not in it, or there already
  pub skips : (n : ℕ) (d : Configuration) → Left (suc n) d → (In n → Gone d n n) → Left n d
  skips n d left own =
      record {
        variables = left.variables;
        size = left.size;
        waits = λ q in_q lt. left.waits q in_q (omega (lt, arith));
        gone = λ q in_q le. ⊎_elim (λ e. subst (λ p. Gone d n p) (sym e) (own (subst In e in_q)))
            (λ ne. weaker d n q (left.gone q in_q (later n q le (λ e. ne (sym e))))) (same_or_not q n);
        others = left.others;
      }

  -- which stages are reached: of one inside that stands in a fork none above 3, and of the others those
  pub record Staying (h n : ℕ) : Type 0 where
    pub within : In h → is_forked (standing_of first h) ≡ true → n ≤ 3
    pub beyond : (In h → is_forked (standing_of first h) ≡ true → ⊥) → Others h n

  -- and those from number m on have left
  pub record Level (m h n : ℕ) : Type 0 where
    pub staying : Staying h n
    pub below : In h → is_forked (standing_of first h) ≡ true → h < m

  pub level_down : (m h n : ℕ) → (h ≡ m → In h → is_forked (standing_of first h) ≡ true → ⊥) → Level (suc m) h n → Level m h n
  level_down m h n never level =
      record {
        staying = level.staying;
        below = λ in_h forked. let lt = level.below in_h forked in
            ⊎_elim (λ same. absurd (never same in_h forked)) (λ ne. before m h lt ne) (same_or_not h m);
      }
    where
      before : (m h : ℕ) → h < suc m → h ≢ m → h < m
      before m h lt ne = grind arith

  -- region n has made its tests, and has ended
  pub record HasLeft (n : ℕ) (d e : Configuration) : Type 0 where
    pub variables : e.variables ≡ d.variables
    pub size : length e.regions ≡ length d.regions
    pub here : standing_of e n ≡ at.Ended
    pub elsewhere : (q : ℕ) → q ≢ n → standing_of e q ≡ standing_of d q

  module _ (home_out : ¬ In home) (outer_one : AreOuterOne core Others home) where
    abbrev pub Goes : ℕ → Configuration → (Configuration → Type 0) → Type 0
    Goes m d Reaches = Segment (machine core) corr Told d (AtHome (Level m) home stage) (λ last. AtHome (Level m) home stage) [] Reaches

    climbs_inner : (t : ℕ) (a : Access) (staged : Option (ℕ × ℕ)) → IsOfInner core f first t staged → (rest : List Entry) →
        Climbs corr (AtHome (Level t) home stage) rest → Climbs corr (AtHome (Level t) home stage) (Silent t staged a ∷ rest)
    climbs_inner t a staged inside rest climbs =
        climbs_step corr (AtHome (Level t) home stage) (AtHome (Level t) home stage) (Silent t staged a) rest own (λ h n ne before. before) climbs
      where
        own : (h n : ℕ) → staged ≡ Some (h, n) → ((u : ℕ) → AtHome (Level t) home stage h u → u ≤ n) × AtHome (Level t) home stage h n
        own h n e =
            let pair : ◌≡◌ {A = ℕ × ℕ} (inside.inner, 3) (h, n) = same_Some (inside.inner, 3) (h, n) (sym inside.is ∙ e) in
            let here : inside.inner ≡ h = ap (λ z. z.0) pair in
            let three : 3 ≡ n = ap (λ z. z.1) pair in
            let lies : In h = subst In here inside.lies_in in
            let forked : is_forked (standing_of first h) ≡ true = subst (λ g. is_forked (standing_of first g) ≡ true) here inside.forked in
            let not_home : h ≢ home = λ same. home_out (subst In same lies) in (
              λ u before. let le = (before.0 not_home).staying.within lies forked in omega (le, three, arith),
              (
                λ ne. record {
                  staying = record { within = λ in_h is. omega (three, arith); beyond = λ never. absurd (never lies forked) };
                  below = λ in_h is. let lt = inside.later in omega (lt, here, arith);
                },
                λ same. absurd (not_home same),
              ),
            )

    climbs_outer : (t : ℕ) (a : Access) (staged : Option (ℕ × ℕ)) → IsOfOuter core home staged → (rest : List Entry) →
        Climbs corr (AtHome (Level t) home stage) rest → Climbs corr (AtHome (Level t) home stage) (Silent t staged a ∷ rest)
    climbs_outer t a staged beyond rest climbs =
        climbs_step corr (AtHome (Level t) home stage) (AtHome (Level t) home stage) (Silent t staged a) rest own (λ h n ne before. before) climbs
      where
        outer : ℕ
        outer = holder core beyond.superstate

        not_home : outer ≢ home
        not_home = holds_other core tree home beyond.superstate beyond.around_home

        outer_out : ¬ In (holder core beyond.superstate)
        outer_out inside = home_out (around_around core tree (around core home) home beyond.superstate f refl beyond.around_home inside)

        own : (h n : ℕ) → staged ≡ Some (h, n) → ((u : ℕ) → AtHome (Level t) home stage h u → u ≤ n) × AtHome (Level t) home stage h n
        own h n e =
            let pair : ◌≡◌ {A = ℕ × ℕ} (holder core beyond.superstate, 1) (h, n) =
            same_Some (holder core beyond.superstate, 1) (h, n) (sym beyond.is ∙ e) in
            let here : holder core beyond.superstate ≡ h = ap (λ z. z.0) pair in
            let one : 1 ≡ n = ap (λ z. z.1) pair in
            let none : ¬ In h = λ inside. outer_out (subst In (sym here) inside) in
            let facts = outer_one beyond.superstate beyond.around_home in (
              λ u before.
                  let reached : Others h u = (before.0 (λ same. not_home (here ∙ same))).staying.beyond (λ in_h forked. none in_h) in
                  let le = facts.0 u (subst (λ z. Others z u) (sym here) reached) in omega (le, one, arith),
              (
                λ ne. record {
                  staying = record {
                    within = λ in_h is. absurd (none in_h);
                    beyond = λ never. subst (λ z. Others z n) here (subst (Others (holder core beyond.superstate)) one facts.1);
                  };
                  below = λ in_h is. absurd (none in_h);
                },
                λ same. absurd (not_home (here ∙ same)),
              ),
            )

    climbs_by : (t : ℕ) (a : Access) (staged : Option (ℕ × ℕ)) → IsStaged core home stage f first t staged → (rest : List Entry) →
        Climbs corr (AtHome (Level t) home stage) rest → Climbs corr (AtHome (Level t) home stage) (Silent t staged a ∷ rest)
    climbs_by t a staged (inl none) rest climbs =
        subst (λ z. Climbs corr (AtHome (Level t) home stage) (Silent t z a ∷ rest)) (sym none) (climbs_over corr (Level t) home stage t a rest climbs)
    climbs_by t a staged (inr (inl some)) rest climbs =
        subst (λ z. Climbs corr (AtHome (Level t) home stage) (Silent t z a ∷ rest)) (sym some) (climbs_at corr (Level t) home stage stage t a rest
        (omega arith) climbs)
    climbs_by t a staged (inr (inr (inl inside))) rest climbs = climbs_inner t a staged inside rest climbs
    climbs_by t a staged (inr (inr (inr outer))) rest climbs = climbs_outer t a staged outer rest climbs

    pub tests_leave : (n s : ℕ) (tests : List Transition) (d : Configuration) → inside core s ≡ [] → LeavesBy core corr home stage f first n tests →
        d.variables ≡ first.variables → ((t : ℕ) → guards (standing_of d t) ≡ false) → n < length d.regions → standing_of d n ≡ at.Trying s tests →
        Goes n d (HasLeft n d)
    tests_leave n s _ d alone (leads_out w rest true_there none ends staged within silent) values quiet lt stands =
        silent_step (machine core) corr Told told d (record { variables = d.variables; regions = slice_set d.regions n at.Ended }) n staged
        (access_of_trigger w.trigger) (AtHome (Level n) home stage) (AtHome (Level n) home stage) (HasLeft n d)
        (leaves core d n s w rest (unguarded core d quiet (around core n)) stands (subst (λ vs. verdict vs w.trigger ≡ Some true) (sym values) true_there) none
        alone ends)
        (ap access_of stands) silent (λ more climbs. climbs_by n (access_of_trigger w.trigger) staged within more climbs)
        (record {
          variables = refl;
          size = length-set d.regions n at.Ended;
          here = set_here d.regions n at.Ended lt;
          elsewhere = λ q ne. set_other d.regions n q at.Ended ne;
        })
    tests_leave n s _ d alone (fails_before w rest false_there staged within silent others) values quiet lt stands =
        segment_on (machine core) corr Told d (AtHome (Level n) home stage) (λ last. AtHome (Level n) home stage) (λ last. AtHome (Level n) home stage) [] []
        (λ z. z ≡ e)
        (HasLeft n d) one
        (subst (λ z. Goes n z (HasLeft n d)) (sym one.reaches) (onward (tests_leave n s rest e alone others values quiet_e lt_e here)))
      where
        e : Configuration
        e = record { variables = d.variables; regions = slice_set d.regions n (at.Trying s rest) }

        one : Goes n d (λ z. z ≡ e)
        one =
            silent_step (machine core) corr Told told d e n staged (access_of_trigger w.trigger) (AtHome (Level n) home stage) (AtHome (Level n) home stage)
            (λ z. z ≡ e)
            (fails core d n s w rest (unguarded core d quiet (around core n)) stands (subst (λ vs. verdict vs w.trigger ≡ Some false) (sym values) false_there))
            (ap access_of stands) silent (λ more climbs. climbs_by n (access_of_trigger w.trigger) staged within more climbs) refl

        here : standing_of e n ≡ at.Trying s rest
        here = set_here d.regions n (at.Trying s rest) lt

        lt_e : n < length e.regions
        lt_e = let size = length-set d.regions n (at.Trying s rest) in omega (lt, size, arith)

        quiet_e : (t : ℕ) → guards (standing_of e t) ≡ false
        quiet_e t =
            ⊎_elim (λ same. ap (λ p. guards (standing_of e p)) same ∙ ap guards here)
            (λ ne. ap guards (set_other d.regions n t (at.Trying s rest) ne) ∙ quiet t) (same_or_not t n)

        onward : Goes n e (HasLeft n e) → Goes n e (HasLeft n d)
        onward g =
            record {
              log = g.log;
              last = g.last;
              follows = g.follows;
              charted = g.charted;
              fits = g.fits;
              climbs = g.climbs;
              reaches =
                  record {
                    variables = g.reaches.variables;
                    size = g.reaches.size ∙ length-set d.regions n (at.Trying s rest);
                    here = g.reaches.here;
                    elsewhere = λ q ne. g.reaches.elsewhere q ne ∙ set_other d.regions n q (at.Trying s rest) ne;
                  };
            }
