-- Two regions of a chart that are there, neither of which lies in the other, lie in different regions of one superstate, or of the chart; and so do two
-- that have their turn together.
use Rattle.std.proofs.Common.{◌≡◌, ◌≢◌, ℕ, ◌⊎◌, inl, inr, ⊎_elim, true, false, not, ◌&&◌, List, [], ◌∷◌, Contains, refl, sym}
use Rattle.std.proofs.Common.{ap, subst, ◌∙◌, arith}
use Rattle.std.proofs.lemmas.Bool.{and_parts, not-true}
use Rattle.scl_graph_laws.proofs.Searching.{unlike}
use Rattle.core_charts.specs.declared.region.Transition.{Transition}
use Rattle.chart_machine.specs.declared.standing.Configuration.{Configuration}
use Rattle.chart_machine.specs.declared.standing.Standing.{Standing}
use Rattle.chart_machine.specs.declared.standing.Standing.TheVariants as at
use Rattle.chart_machine.specs.declared.table.Table.{Table}
use Rattle.chart_machine.specs.Turns.{standing_of, guards, is_guarded, has_work, inside, inside_is_done, is_enabled, LiesIn, itself, deeper}
use Rattle.chart_machine.specs.Turns.{ForkedApart, holder_of}
use Rattle.chart_machine_laws.specs.Tree.{IsThere, IsTree, LiesUnder, around, holder}
use Rattle.chart_machine_laws.proofs.LyingIn.{none_in, head_in, tail_in, head_or_tail, inwards, lies_in_outer, around_outer, apart_inside}
use Rattle.tick_laws.proofs.Lists.{same_or_not, list_all_at}
use Rattle.abort_expansion_laws.proofs.InsideAround.{one_in_other}
use Rattle.abort_expansion_laws.proofs.StageReached.{any_in, inside_in}

-- the region is in the superstate, and so are regions of that
pub data IsOpen (s : ℕ) : Standing → Type 0 where
  open_guarding : (tests : List Transition) → IsOpen s (at.Guarding s tests)
  open_within : (tests : List Transition) → IsOpen s (at.Within s tests)

pub one_open : (s u : ℕ) (x : Standing) → IsOpen s x → IsOpen u x → s ≡ u
one_open s u _ (open_guarding tests) (open_guarding others) = refl
one_open s u _ (open_within tests) (open_within others) = refl

module _ (k : Table) (tree : IsTree k) (holder_there : (q s : ℕ) → Contains (around k q) s → IsThere k q × IsThere k (holder k s)) where
  -- who lies in two regions lies in the one by way of the other
  pub one_way : (q a b : ℕ) → LiesIn k q a → LiesIn k q b → LiesIn k a b ⊎ LiesIn k b a
  one_way q a b (itself e) in_b = inl (subst (λ z. LiesIn k z b) e in_b)
  one_way q a b (deeper s inner held) (itself e) = inr (subst (λ z. LiesIn k z a) e (deeper s inner held))
  one_way q a b (deeper s inner held) (deeper u other held_too) =
      ⊎_elim (λ same. inl (itself (sym held ∙ (ap (holder k) same ∙ held_too))))
      (⊎_elim (λ up. inl (deeper u (subst (λ z. Contains (around k z) u) held up) held_too))
      (λ up. inr (deeper s (subst (λ z. Contains (around k z) s) held_too up) held)))
      (one_in_other k tree.nested (around k q) q s u refl inner other)

  -- of what is around it, the region through which it lies in a superstate
  pub record Through (q s : ℕ) : Type 0 where
    pub side : ℕ
    pub rest : List ℕ
    pub lies : LiesIn k q side
    pub directly : around k side ≡ s ∷ rest

  pub through : (ss : List ℕ) (q s : ℕ) → around k q ≡ ss → Contains ss s → Through q s
  through [] q s e h = absurd (none_in s h)
  through (x ∷ ss) q s e h =
      by_place (head_or_tail x s ss h)
      (λ tail. through ss (holder k x) s (sym (tree.nested.upward q x ss e)) tail)
    where
      by_place : (x ≡ s) ⊎ Contains ss s → (Contains ss s → Through (holder k x) s) → Through q s
      by_place (inl same) outer = record { side = q; rest = ss; lies = itself refl; directly = e ∙ ap (λ z. z ∷ ss) same }
      by_place (inr tail) outer =
          let up = outer tail in
          record { side = up.side; rest = up.rest; lies = inwards k tree.nested q up.side x ss e up.lies; directly = up.directly }

  -- the outermost region in which it lies
  pub record Top (q : ℕ) : Type 0 where
    pub side : ℕ
    pub lies : LiesIn k q side
    pub bare : around k side ≡ []

  pub top : (ss : List ℕ) (q : ℕ) → around k q ≡ ss → Top q
  top [] q e = record { side = q; lies = itself refl; bare = e }
  top (x ∷ ss) q e =
      let up : Top (holder k x) = top ss (holder k x) (sym (tree.nested.upward q x ss e)) in
      record { side = up.side; lies = inwards k tree.nested q up.side x ss e up.lies; bare = up.bare }

  pub lies_there : (q side : ℕ) → IsThere k q → LiesIn k q side → IsThere k side
  lies_there q side there (itself e) = subst (IsThere k) e there
  lies_there q side there (deeper s inner held) = subst (IsThere k) held (holder_there q s inner).1

  among : (zs : List ℕ) (h : ℕ) → ((s : ℕ) × Contains zs s × (holder k s ≡ h)) ⊎ ((s : ℕ) → Contains zs s → holder k s ≢ h)
  among [] h = inr (λ s none. absurd (none_in s none))
  among (x ∷ zs) h =
      ⊎_elim (λ same. inl (x, head_in x zs, same))
      (λ ne.
      ⊎_elim (λ one. inl (one.0, tail_in x one.0 zs one.1, one.2))
      (λ none. inr (λ s inner held.
      ⊎_elim (λ head. ne (ap (holder k) head ∙ held)) (λ tail. none s tail held) (head_or_tail x s zs inner))) (among zs h))
      (same_or_not (holder k x) h)

  pub lies_or_not : (q h : ℕ) → LiesIn k q h ⊎ ¬ LiesIn k q h
  lies_or_not q h =
      ⊎_elim (λ same. inl (itself same))
      (λ other. ⊎_elim (λ one. inl (deeper one.0 one.1 one.2)) (λ none. inr (λ lies. neither other none lies)) (among (around k q) h)) (same_or_not q h)
    where
      neither : q ≢ h → ((s : ℕ) → Contains (around k q) s → holder k s ≢ h) → ¬ LiesIn k q h
      neither other none (itself same) = other same
      neither other none (deeper s inner held) = none s inner held

  -- ---- regions that have their turn

  pub record Enclosed (c : Configuration) : Type 0 where
    pub chart_out : standing_of c 0 ≡ at.Outside
    pub there : (q : ℕ) → standing_of c q ≢ at.Outside → IsThere k q
    -- who is there is inside of all that is around it
    pub around_open : (q s : ℕ) → Contains (around k q) s → standing_of c q ≢ at.Outside → IsOpen s (standing_of c (holder k s))

  pub record Turn (c : Configuration) (q : ℕ) : Type 0 where
    pub works : has_work k c (standing_of c q) ≡ true
    pub free : is_guarded k c (around k q) ≡ false
    pub done : inside_is_done k c (standing_of c q) ≡ true

  pub turn : (c : Configuration) (q : ℕ) → is_enabled k c q ≡ true → Turn c q
  turn c q on =
      let one = and_parts (has_work k c (standing_of c q)) (not (is_guarded k c (around k q)) && inside_is_done k c (standing_of c q)) on in
      let two = and_parts (not (is_guarded k c (around k q))) (inside_is_done k c (standing_of c q)) one.1 in
      record { works = one.0; free = not-true (is_guarded k c (around k q)) two.0; done = two.1 }

  -- who has work is there
  pub present : (c : Configuration) (x : Standing) → has_work k c x ≡ true → x ≢ at.Outside
  present c x works e = unlike (has_work k c at.Outside) (ap (has_work k c) (sym e) ∙ works) refl

  module _ (c : Configuration) (enclosed : Enclosed c) where
    -- who has its turn lies in nobody else who has its own
    pub not_in : (t u : ℕ) → is_enabled k c t ≡ true → is_enabled k c u ≡ true → t ≢ u → ¬ LiesIn k u t
    not_in t u on on_too ne (itself e) = ne (sym e)
    not_in t u on on_too ne (deeper s inner held) =
        by_open (standing_of c t) refl
        (subst (λ z. IsOpen s (standing_of c z)) held (enclosed.around_open u s inner (present c (standing_of c u) of_u.works)))
      where
        of_u : Turn c u
        of_u = turn c u on_too

        of_t : Turn c t
        of_t = turn c t on

        guarded_too : (tests : List Transition) → standing_of c t ≡ at.Guarding s tests → ⊥
        guarded_too tests e =
            unlike (is_guarded k c (around k u))
            (any_in (λ z. guards (standing_of c (holder k z))) (around k u) s inner (ap (λ z. guards (standing_of c z)) held ∙ ap guards e)) of_u.free

        done_too : (tests : List Transition) → standing_of c t ≡ at.Within s tests → ⊥
        done_too tests e =
            let idle : not (has_work k c (standing_of c u)) ≡ true =
            list_all_at (λ q. not (has_work k c (standing_of c q))) (inside k s) u
            (sym (ap (inside_is_done k c) e) ∙ of_t.done) (inside_in k s u (holder_there u s inner).0 inner) in
            unlike (has_work k c (standing_of c u)) of_u.works (not-true (has_work k c (standing_of c u)) idle)

        by_open : (x : Standing) → standing_of c t ≡ x → IsOpen s x → ⊥
        by_open _ e (open_guarding tests) = guarded_too tests e
        by_open _ e (open_within tests) = done_too tests e

    -- two that are there, neither of which lies in the other
    module _ (t u : ℕ) (t_here : standing_of c t ≢ at.Outside) (u_here : standing_of c u ≢ at.Outside) (t_out : ¬ LiesIn k t u) where
      -- t lies in this region, and u does not
      apart_at : (ss : List ℕ) (z : ℕ) → around k z ≡ ss → LiesIn k t z → ¬ LiesIn k u z → (a : ℕ) × ForkedApart k t u a
      apart_at [] z e in_z out =
          let w : Top u = top (around k u) u refl in
          let t_side = lies_there t z (enclosed.there t t_here) in_z in
          let u_side = lies_there u w.side (enclosed.there u u_here) w.lies in (
            0,
            record {
              left = z;
              right = w.side;
              beside = record {
                differ = λ same. out (subst (LiesIn k u) (sym same) w.lies);
                first = t_side.0;
                second = u_side.0;
                first_there = t_side.1;
                second_there = u_side.1;
                around = e ∙ sym w.bare;
              };
              r_in = in_z;
              u_in = w.lies;
              held = ap (holder_of k) e;
            },
          )
      apart_at (s ∷ ss) z e in_z out =
          by_upper (lies_or_not u (holder k s)) (λ outside. apart_at ss (holder k s) (sym (tree.nested.upward z s ss e)) up outside)
        where
          in_s : Contains (around k z) s
          in_s = subst (λ zs. Contains zs s) (sym e) (head_in s ss)

          up : LiesIn k t (holder k s)
          up = lies_in_outer k tree.nested (around k t) t z (holder k s) refl in_z (deeper s in_s refl)

          by_upper : LiesIn k u (holder k s) ⊎ ¬ LiesIn k u (holder k s) → (¬ LiesIn k u (holder k s) → (a : ℕ) × ForkedApart k t u a) →
              (a : ℕ) × ForkedApart k t u a
          by_upper (inr outside) rest = rest outside
          by_upper (inl (itself same)) rest = absurd (t_out (subst (LiesIn k t) (sym same) up))
          by_upper (inl (deeper v inner held)) rest =
              let s_open : IsOpen s (standing_of c (holder k s)) =
              enclosed.around_open t s (around_outer k tree.nested (around k t) t z s refl in_z in_s) t_here in
              let v_open : IsOpen v (standing_of c (holder k s)) =
              subst (λ h. IsOpen v (standing_of c h)) held (enclosed.around_open u v inner u_here) in
              let same : s ≡ v = one_open s v (standing_of c (holder k s)) s_open v_open in
              let w : Through u v = through (around k u) u v refl inner in
              let u_there = lies_there u w.side (enclosed.there u u_here) w.lies in
              let t_there = lies_there t z (enclosed.there t t_here) in_z in
              let even : s ∷ ss ≡ v ∷ w.rest =
              ap (λ zs. s ∷ zs) (tree.nested.upward z s ss e)
              ∙ (ap (λ x. x ∷ around k (holder k x)) same ∙ ap (λ zs. v ∷ zs) (sym (tree.nested.upward w.side v w.rest w.directly))) in (
                holder k s,
                record {
                  left = z;
                  right = w.side;
                  beside = record {
                    differ = λ at_z. out (subst (LiesIn k u) (sym at_z) w.lies);
                    first = t_there.0;
                    second = u_there.0;
                    first_there = t_there.1;
                    second_there = u_there.1;
                    around = e ∙ (even ∙ sym w.directly);
                  };
                  r_in = in_z;
                  u_in = w.lies;
                  held = ap (holder_of k) e;
                },
              )

    pub present_apart : (t u : ℕ) → standing_of c t ≢ at.Outside → standing_of c u ≢ at.Outside → ¬ LiesIn k t u → ¬ LiesIn k u t →
        (a : ℕ) × ForkedApart k t u a
    present_apart t u t_here u_here t_out u_out = apart_at t u t_here u_here t_out (around k t) t refl (itself refl) u_out

    pub are_apart : (t u : ℕ) → is_enabled k c t ≡ true → is_enabled k c u ≡ true → t ≢ u → (a : ℕ) × ForkedApart k t u a
    are_apart t u on on_too ne =
        present_apart t u (present c (standing_of c t) (turn c t on).works) (present c (standing_of c u) (turn c u on_too).works)
        (not_in u t on_too on (λ e. ne (sym e))) (not_in t u on on_too ne)

    -- who has its turn forks nobody apart from another one who has
    pub forks_none : (t u v a : ℕ) → is_enabled k c t ≡ true → is_enabled k c u ≡ true → ForkedApart k t v a → a ≢ u
    forks_none t u v a on on_too met same = by_under (apart_inside k tree.nested t v a met).0
      where
        by_under : LiesUnder k t a → ⊥
        by_under (inr none) =
            unlike (has_work k c at.Outside)
            (sym (ap (has_work k c) (ap (standing_of c) (sym same ∙ none) ∙ enclosed.chart_out)) ∙ (turn c u on_too).works) refl
        by_under (inl (s, inner, held)) =
            ⊎_elim (λ e. let up = tree.deeper t s inner in omega (up, held, same, e, arith))
            (λ ne. not_in u t on_too on (λ e. ne (sym e)) (deeper s inner (held ∙ same))) (same_or_not t u)
