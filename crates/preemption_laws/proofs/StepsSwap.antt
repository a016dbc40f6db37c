-- Steps of two regions of a chart that have their turn together: neither takes the other's turn, and where the protocol allows both orders, both lead
-- to one configuration.
use Rattle.std.proofs.Common.{◌≡◌, ◌≢◌, ℕ, suc, ⊎_elim, true, not, ◌&&◌, ◌||◌, Some, List, [], ◌∷◌}
use Rattle.std.proofs.Common.{length, option_map, Contains, refl, sym, ap, ap₂, subst, ◌∙◌, arith}
use Rattle.std.specs.List.{list_all}
use Rattle.sc_values.specs.Access.{MayPrecede}
use Rattle.core_charts.specs.declared.region.Transition.{Transition}
use Rattle.core_charts.specs.Tests.{is_join}
use Rattle.chart_machine.specs.declared.region_change.RegionChange.{RegionChange}
use Rattle.chart_machine.specs.declared.standing.Configuration.{Configuration}
use Rattle.chart_machine.specs.declared.standing.Move.{Move}
use Rattle.chart_machine.specs.declared.standing.Standing.{Standing}
use Rattle.chart_machine.specs.declared.standing.Standing.TheVariants as at
use Rattle.chart_machine.specs.declared.table.Table.{Table}
use Rattle.chart_machine.specs.Steps.{moved, written, after, change_of, step, access_of}
use Rattle.chart_machine.specs.Table.{state_at}
use Rattle.chart_machine.specs.Turns.{standing_of, guards, has_ended, has_work, is_guarded, inside, inside_is_done, is_enabled, LiesIn, itself, deeper}
use Rattle.chart_machine_laws.specs.Tree.{IsThere, IsTree, around, holder}
use Rattle.chart_machine_laws.proofs.LyingIn.{head_in, tail_in, lies_in_outer}
use Rattle.tick_laws.proofs.Views.{only_if_some}
use Rattle.chart_lowering_laws.proofs.Entering.{moved_length}
use Rattle.abort_expansion_laws.proofs.ChartSteps.{Makes, StepMade, step_made}
use Rattle.abort_expansion_laws.proofs.FreshInside.{moved_alike}
use Rattle.abort_expansion_laws.proofs.InsideAround.{inside_around}
use Rattle.abort_expansion_laws.proofs.KnownVariables.{Stepped, stepped}
use Rattle.abort_expansion_laws.proofs.Leaving.{at_number}
use Rattle.abort_expansion_laws.proofs.DropsOut.{all_alike}
use Rattle.preemption_laws.proofs.ApartTogether.{Enclosed, turn, present, not_in, one_way, lies_or_not}
use Rattle.preemption_laws.proofs.WritesSwap.{Changes, changes, OtherChanges, changes_swap}

-- what is the same at each number is the same
pub all_same : (xs ys : List Standing) → length xs ≡ length ys → ((q : ℕ) → at_number xs q ≡ at_number ys q) → xs ≡ ys
all_same [] [] size each = refl
all_same [] (y ∷ ys) size each = absurd (omega (size, arith))
all_same (x ∷ xs) [] size each = absurd (omega (size, arith))
all_same (x ∷ xs) (y ∷ ys) size each = ap₂ (λ z zs. z ∷ zs) (each 0) (all_same xs ys (omega (size, arith)) (λ q. each (suc q)))

module _ (k : Table) (tree : IsTree k) (holder_there : (q s : ℕ) → Contains (around k q) s → IsThere k q × IsThere k (holder k s))
    (Owns : ℕ → Standing → Type 0) (own_within : (r s : ℕ) (tests : List Transition) → Owns r (at.Within s tests) → holder k s ≡ r)
    (local : (r q : ℕ) → IsThere k r → ¬ LiesIn k q r → (x : Standing) (ms : List Move) → Makes k r x ms → Owns r x → (zs : List Standing) →
    at_number (moved ms zs) q ≡ at_number zs q) where
  -- who is there lies in opened superstates alone, and where a region stands it may stand
  pub record Sound (c : Configuration) : Type 0 where
    pub enclosed : Enclosed k tree holder_there c
    pub owns : (r : ℕ) → Owns r (standing_of c r)

  pub has_turn : (c d : Configuration) (t : ℕ) → step k t c ≡ Some d → is_enabled k c t ≡ true
  has_turn c d t steps = (only_if_some (is_enabled k c t) (option_map (λ e. after e c) (change_of k c t (standing_of c t))) d steps).0

  there_now : (c : Configuration) (t : ℕ) → Sound c → is_enabled k c t ≡ true → IsThere k t
  there_now c t sound on =
      sound.enclosed.there t (present k tree holder_there c (standing_of c t) (turn k tree holder_there c t on).works)

  -- a step moves its region, and what lies in it
  stays : (c d : Configuration) (t : ℕ) → IsThere k t → Owns t (standing_of c t) → step k t c ≡ Some d → (q : ℕ) → ¬ LiesIn k q t →
      standing_of d q ≡ standing_of c q
  stays c d t there owns steps q out =
      let made : StepMade k t c d = step_made k t c d steps in
      ap (λ (z : Configuration). at_number z.regions q) (sym made.is)
      ∙ local t q there out (standing_of c t) made.change.moves made.makes owns c.regions

  module _ (c d : Configuration) (t : ℕ) (sound : Sound c) (steps : step k t c ≡ Some d) (u : ℕ) (ne : u ≢ t) (on : is_enabled k c u ≡ true) where
    on_t : is_enabled k c t ≡ true
    on_t = has_turn c d t steps

    u_out : ¬ LiesIn k u t
    u_out = not_in k tree holder_there c sound.enclosed t u on_t on (λ e. ne (sym e))

    t_out : ¬ LiesIn k t u
    t_out = not_in k tree holder_there c sound.enclosed u t on on_t ne

    far : (q : ℕ) → LiesIn k q u → ¬ LiesIn k q t
    far q in_u in_t = ⊎_elim u_out t_out (one_way k tree holder_there q u t in_u in_t)

    unmoved : (q : ℕ) → ¬ LiesIn k q t → standing_of d q ≡ standing_of c q
    unmoved q out = stays c d t (there_now c t sound on_t) (sound.owns t) steps q out

    still_there : standing_of d u ≡ standing_of c u
    still_there = unmoved u u_out

    guarded_same : (zs : List ℕ) → ((s : ℕ) → Contains zs s → Contains (around k u) s) → is_guarded k d zs ≡ is_guarded k c zs
    guarded_same [] all = refl
    guarded_same (s ∷ zs) all =
        ap₂ (λ a b. a || b)
        (ap guards
        (unmoved (holder k s) (λ up. u_out (lies_in_outer k tree.nested (around k u) u (holder k s) t refl (deeper s (all s (head_in s zs)) refl) up))))
        (guarded_same zs (λ v h. all v (tail_in s v zs h)))

    -- ---- of what lies in u

    ended_same : (q s : ℕ) → LiesIn k q u → holder k s ≡ q →
        list_all (λ r. has_ended (standing_of d r)) (state_at k s).regions ≡ list_all (λ r. has_ended (standing_of c r)) (state_at k s).regions
    ended_same q s in_u held =
        all_alike (λ r. has_ended (standing_of d r)) (λ r. has_ended (standing_of c r)) (state_at k s).regions
        (λ r child.
        let inner : Contains (around k r) s = subst (λ zs. Contains zs s) (sym (tree.children s r child)) (head_in s (around k (holder k s))) in
        ap has_ended (unmoved r (far r (lies_in_outer k tree.nested (around k r) r q u refl (deeper s inner held) in_u))))

    work_same : (q : ℕ) → LiesIn k q u → (x : Standing) → Owns q x → has_work k d x ≡ has_work k c x
    work_same q in_u at.Outside owns = refl
    work_same q in_u at.Ended owns = refl
    work_same q in_u (at.Trying s []) owns = refl
    work_same q in_u (at.Trying s (t ∷ tests)) owns = refl
    work_same q in_u (at.Entering s tests) owns = refl
    work_same q in_u (at.Guarding s tests) owns = refl
    work_same q in_u (at.Acting s effects p) owns = refl
    work_same q in_u (at.Within s []) owns = refl
    work_same q in_u (at.Within s (t ∷ tests)) owns =
        ap (λ b. not (is_join t.kind) || b) (ended_same q s in_u (own_within q s (t ∷ tests) owns))

    work_there : (q : ℕ) → LiesIn k q u → has_work k d (standing_of d q) ≡ has_work k c (standing_of c q)
    work_there q in_u = ap (has_work k d) (unmoved q (far q in_u)) ∙ work_same q in_u (standing_of c q) (sound.owns q)

    done_same : (x : Standing) → Owns u x → inside_is_done k d x ≡ inside_is_done k c x
    done_same at.Outside owns = refl
    done_same at.Ended owns = refl
    done_same (at.Trying s tests) owns = refl
    done_same (at.Entering s tests) owns = refl
    done_same (at.Guarding s tests) owns = refl
    done_same (at.Acting s effects p) owns = refl
    done_same (at.Within s tests) owns =
        all_alike (λ q. not (has_work k d (standing_of d q))) (λ q. not (has_work k c (standing_of c q))) (inside k s)
        (λ q h. ap not (work_there q (deeper s (inside_around k s q h) (own_within u s tests owns))))

    -- its turn is as it was
    turn_same : is_enabled k d u ≡ is_enabled k c u
    turn_same =
        ap₂ (λ a b. a && b) (work_there u (itself refl))
        (ap₂ (λ a b. not a && b) (guarded_same (around k u) (λ s h. h))
        (ap (inside_is_done k d) still_there ∙ done_same (standing_of c u) (sound.owns u)))

  pub still : (c d : Configuration) (t u : ℕ) → Sound c → step k t c ≡ Some d → u ≢ t → is_enabled k c u ≡ true →
      (is_enabled k d u ≡ true) × (access_of (standing_of d u) ≡ access_of (standing_of c u))
  still c d t u sound steps ne on = (turn_same c d t sound steps u ne on ∙ on, ap access_of (still_there c d t sound steps u ne on))

  -- ---- the second step first

  module _ (c d e : Configuration) (t u : ℕ) (sound : Sound c) (ne : u ≢ t) (steps : step k t c ≡ Some d) (on : is_enabled k c u ≡ true)
      (steps_too : step k u d ≡ Some e) (may : MayPrecede (access_of (standing_of c t)) (access_of (standing_of c u)))
      (may_too : MayPrecede (access_of (standing_of c u)) (access_of (standing_of c t))) where
    one : Stepped k t c d
    one = stepped k t c d steps

    two : Stepped k u d e
    two = stepped k u d e steps_too

    at_u : standing_of d u ≡ standing_of c u
    at_u = still_there c d t sound steps u ne on

    first_changes : Changes k t (standing_of c t) c.variables d.variables one.change.moves
    first_changes =
        subst (λ vs. Changes k t (standing_of c t) c.variables vs one.change.moves) (ap (λ (z : Configuration). z.variables) one.is)
        (changes k t (standing_of c t) c one.change one.does)

    second_changes : Changes k u (standing_of c u) d.variables e.variables two.change.moves
    second_changes =
        subst (λ x. Changes k u x d.variables e.variables two.change.moves) at_u
        (subst (λ vs. Changes k u (standing_of d u) d.variables vs two.change.moves) (ap (λ (z : Configuration). z.variables) two.is)
        (changes k u (standing_of d u) d two.change two.does))

    other : OtherChanges k t u (standing_of c t) (standing_of c u) c.variables e.variables one.change.moves two.change.moves
    other =
        changes_swap k t u (standing_of c t) (standing_of c u) c.variables d.variables e.variables one.change.moves two.change.moves first_changes
        second_changes may may_too

    u_first : (x : RegionChange) × (change_of k c u (standing_of c u) ≡ Some x) × (written x.write c.variables ≡ other.between) × (x.moves ≡ two.change.moves)
    u_first = other.first.does c refl

    abbrev f : Configuration
    f = after u_first.0 c

    to_f : step k u c ≡ Some f
    to_f = rw (on, u_first.1) refl

    t_on : is_enabled k c t ≡ true
    t_on = has_turn c d t steps

    t_ne : t ≢ u
    t_ne e = ne (sym e)

    at_t : standing_of f t ≡ standing_of c t
    at_t = still_there c f u sound to_f t t_ne t_on

    t_then : (x : RegionChange) × (change_of k f t (standing_of c t) ≡ Some x) × (written x.write other.between ≡ e.variables) × (x.moves ≡ one.change.moves)
    t_then = other.second.does f u_first.2

    on_still : is_enabled k f t ≡ true
    on_still = (still c f u t sound to_f t_ne t_on).0

    abbrev last : Configuration
    last = after t_then.0 f

    to_last : step k t f ≡ Some last
    to_last =
        let does : change_of k f t (standing_of f t) ≡ Some t_then.0 = ap (change_of k f t) at_t ∙ t_then.1 in rw (on_still, does) refl

    -- ---- everybody stands where he stands the other way

    t_there : IsThere k t
    t_there = there_now c t sound t_on

    u_there : IsThere k u
    u_there = there_now c u sound on

    by_t : (q : ℕ) → ¬ LiesIn k q t → standing_of d q ≡ standing_of c q
    by_t q out = stays c d t t_there (sound.owns t) steps q out

    by_u : (q : ℕ) → ¬ LiesIn k q u → standing_of f q ≡ standing_of c q
    by_u q out = stays c f u u_there (sound.owns u) to_f q out

    then_u : (q : ℕ) → ¬ LiesIn k q u → standing_of e q ≡ standing_of d q
    then_u q out = stays d e u u_there (subst (Owns u) (sym at_u) (sound.owns u)) steps_too q out

    then_t : (q : ℕ) → ¬ LiesIn k q t → standing_of last q ≡ standing_of f q
    then_t q out = stays f last t t_there (subst (Owns t) (sym at_t) (sound.owns t)) to_last q out

    d_size : length d.regions ≡ length c.regions
    d_size = ap (λ (z : Configuration). length z.regions) (sym one.is) ∙ moved_length one.change.moves c.regions

    f_size : length f.regions ≡ length c.regions
    f_size = moved_length u_first.0.moves c.regions

    size : length last.regions ≡ length e.regions
    size =
        moved_length t_then.0.moves f.regions
        ∙ (f_size ∙ (sym d_size ∙ sym (ap (λ (z : Configuration). length z.regions) (sym two.is) ∙ moved_length two.change.moves d.regions)))

    -- what lies in u is moved by u's step, from where it stood
    in_u : (q : ℕ) → ¬ LiesIn k q t → standing_of f q ≡ standing_of e q
    in_u q out =
        ap (λ ms. at_number (moved ms c.regions) q) u_first.3
        ∙ (moved_alike two.change.moves c.regions d.regions q (sym d_size) (sym (by_t q out))
        ∙ ap (λ (z : Configuration). at_number z.regions q) two.is)

    in_t : (q : ℕ) → ¬ LiesIn k q u → standing_of last q ≡ standing_of d q
    in_t q out =
        ap (λ ms. at_number (moved ms f.regions) q) t_then.3
        ∙ (moved_alike one.change.moves f.regions c.regions q f_size (by_u q out)
        ∙ ap (λ (z : Configuration). at_number z.regions q) one.is)

    each_alike : (q : ℕ) → standing_of last q ≡ standing_of e q
    each_alike q =
        ⊎_elim (λ lies. let out = far c f u sound to_f t t_ne t_on q lies in in_t q out ∙ sym (then_u q out))
        (λ out. then_t q out ∙ in_u q out) (lies_or_not k tree holder_there q t)

    alike : last ≡ e
    alike =
        ap₂ (λ vs zs. record { variables = vs; regions = zs }) (ap (written t_then.0.write) u_first.2 ∙ t_then.2)
        (all_same last.regions e.regions size each_alike)

    pub second_first : (z : Configuration) × (step k u c ≡ Some z) × (step k t z ≡ Some e)
    second_first = (f, to_f, to_last ∙ ap Some alike)
