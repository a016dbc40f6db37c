-- Threads that can step are concurrent: the ancestors of a present thread wait, so none of them is enabled.
use Rattle.std.proofs.Common.{◌≡◌, ◌≢◌, ℕ, zero, suc, ◌<◌, ◌≤◌, ◌+◌, ◌⊎◌, List, Option, Some, None, length, slice_get, unwrap_or, option_and_then, Contains}
use Rattle.std.proofs.Common.{refl, sym, ap, subst, ◌∙◌, inl, inr, ⊎_elim, arith}
use Rattle.std.proofs.lemmas.Bool.{cases_lt, cases_order}
use Rattle.std.proofs.lemmas.Option.{slice_get_past}
use Rattle.sc_graph.specs.declared.program.Thread.{Thread}
use Rattle.sc_graph.specs.declared.control.Control.{Control}
use Rattle.sc_graph.specs.declared.control.Status.{Status}
use Rattle.sc_graph.specs.declared.control.Status.TheVariants as status
use Rattle.sc_graph.specs.declared.place.Place.TheVariants as place
use Rattle.sc_graph.specs.Program.{Program, parent_of}
use Rattle.sc_graph.specs.Threads.{IsFork, Descends, Below, ForkedApart}
use Rattle.sc_graph.specs.Control.{status_of, joined_at}
use Rattle.sc_graph.specs.Size.{ParentFits}
use Rattle.sc_graph.specs.Tick.{IsConfiguration, IsPresent}
use Rattle.sc_graph.specs.Valid.{IsFormed}
use Rattle.tick_laws.proofs.Lists.{slice_get_there, same_or_not}
use Rattle.tick_laws.proofs.Formed.{ChildOf, fork_of, joined_is, parent_below, one_fork_joins, fork_children}
use Rattle.tick_laws.proofs.Views.{Enabled, stands, completes}

pub below_parent : (p : Program) (t w a : ℕ) → parent_of p t ≡ Some w → Below p w a → Below p t a
below_parent p t w a h b = record { generations = suc b.generations; descends = (w, h, b.descends) }

pub below_self : (p : Program) (t : ℕ) → Below p t t
below_self p t = record { generations = zero; descends = refl }

-- thread t is, or descends from, a child of a fork at whose join thread a waits
pub record Over (p : Program) (c : Control) (t a : ℕ) : Type 0 where
  pub fork : ℕ
  pub children : List ℕ
  pub join : ℕ
  pub is_fork : IsFork p fork a children join
  pub child : ℕ
  pub is_child : Contains children child
  pub below : Below p t child
  pub waits : status_of c a ≡ status.Waiting join
  pub between : (t ≡ child) ⊎ ((j : ℕ) × (status_of c child ≡ status.Waiting j))

present_waiting : (s : Status) (j : ℕ) → s ≡ status.Waiting j → IsPresent s
present_waiting s j h = subst IsPresent (sym h) tt

pub enabled_present : (p : Program) (c : Control) (t : ℕ) → Enabled p c t → IsPresent (status_of c t)
enabled_present p c t (stands n h) = subst IsPresent (sym h) tt
enabled_present p c t (completes h) = subst IsPresent (sym h.at) tt

-- how two threads are related
pub data Kin (p : Program) (t u : ℕ) : Type 0 where
  below : Below p t u → Kin p t u
  above : Below p u t → Kin p t u
  apart : (a : ℕ) → ForkedApart p t u a → Kin p t u

pub apart_turned : (p : Program) (t u a : ℕ) → ForkedApart p t u a → ForkedApart p u t a
apart_turned p t u a m =
    record {
      fork = m.fork;
      children = m.children;
      join = m.join;
      is_fork = m.is_fork;
      left = m.right;
      right = m.left;
      left_child = m.right_child;
      right_child = m.left_child;
      differ = λ h. m.differ (sym h);
      t_below = m.u_below;
      u_below = m.t_below;
    }

apart_lower : (p : Program) (t w u a : ℕ) → parent_of p t ≡ Some w → ForkedApart p w u a → ForkedApart p t u a
apart_lower p t w u a h m =
    record {
      fork = m.fork;
      children = m.children;
      join = m.join;
      is_fork = m.is_fork;
      left = m.left;
      right = m.right;
      left_child = m.left_child;
      right_child = m.right_child;
      differ = m.differ;
      t_below = below_parent p t w m.left h m.t_below;
      u_below = m.u_below;
    }

kin_turned : (p : Program) (t u : ℕ) → Kin p t u → Kin p u t
kin_turned p t u (below b) = above b
kin_turned p t u (above b) = below b
kin_turned p t u (apart a m) = apart a (apart_turned p t u a m)

parent_some : (t : ℕ) (o : Option ℕ) → 0 < t → ParentFits t o → (w : ℕ) × (o ≡ Some w)
parent_some zero o more fits = absurd (omega arith)
parent_some (suc t) None more fits = absurd fits
parent_some (suc t) (Some w) more fits = (w, refl)

module _ (p : Program) (formed : IsFormed p) (c : Control) (ok : IsConfiguration p c) where
  -- the parent of a present thread waits at the join of its fork
  parent_waits : (t a : ℕ) → (f : ChildOf p t a) → IsPresent (status_of c t) → status_of c a ≡ status.Waiting f.join
  parent_waits t a f h = (ok.present f.fork a f.children f.join t f.is f.child).0 h

  parent_present : (t a : ℕ) → parent_of p t ≡ Some a → IsPresent (status_of c t) → IsPresent (status_of c a)
  parent_present t a h here = let f : ChildOf p t a = fork_of p formed t a h in present_waiting (status_of c a) f.join (parent_waits t a f here)

  parent_over : (t a : ℕ) → parent_of p t ≡ Some a → IsPresent (status_of c t) → Over p c t a
  parent_over t a h here =
      let f : ChildOf p t a = fork_of p formed t a h in
      record {
        fork = f.fork;
        children = f.children;
        join = f.join;
        is_fork = f.is;
        child = t;
        is_child = f.child;
        below = below_self p t;
        waits = parent_waits t a f here;
        between = inl refl;
      }

  -- a present thread's ancestors wait
  pub ancestors_wait : (n t a : ℕ) → Descends p (suc n) t a → IsPresent (status_of c t) → Over p c t a
  ancestors_wait zero t a d here = parent_over t a (d.1 ∙ ap Some d.2) here
  ancestors_wait (suc n) t a d here =
      let near : Over p c t d.0 = parent_over t d.0 d.1 here in
      let far : Over p c d.0 a = ancestors_wait n d.0 a d.2 (present_waiting (status_of c d.0) near.join near.waits) in
      record {
        fork = far.fork;
        children = far.children;
        join = far.join;
        is_fork = far.is_fork;
        child = far.child;
        is_child = far.is_child;
        below = below_parent p t d.0 far.child d.1 far.below;
        waits = far.waits;
        between = inr (⊎_elim (λ e. (near.join, ap (status_of c) (sym e) ∙ near.waits)) (λ w. w) far.between);
      }

  over_from : (t u : ℕ) → t ≢ u → Below p t u → IsPresent (status_of c t) → Over p c t u
  over_from t u ne b here = by_generations b.generations b.descends
    where
      by_generations : (n : ℕ) → Descends p n t u → Over p c t u
      by_generations zero d = absurd (ne d)
      by_generations (suc n) d = ancestors_wait n t u d here

  -- no enabled thread is below another one
  pub not_above : (t u : ℕ) → Enabled p c t → Enabled p c u → t ≢ u → Below p t u → ⊥
  not_above t u r (stands n h) ne b = let o : Over p c t u = over_from t u ne b (enabled_present p c t r) in let w = o.waits in absurd (cc)
  not_above t u r (completes h) ne b =
      let o : Over p c t u = over_from t u ne b (enabled_present p c t r) in
      let same_join : o.join ≡ h.join = of_waiting o.join h.join o.waits h.at in
      let joined : joined_at p h.join ≡ Some o.children = subst (λ j. joined_at p j ≡ Some o.children) same_join
      (joined_is p formed o.fork u o.children o.join o.is_fork) in
      let children : o.children ≡ h.children = of_joined o.children h.children h.join joined h.joined in
      let ended : status_of c o.child ≡ status.Ended = h.ended o.child (subst (λ ks. Contains ks o.child) children o.is_child) in
      ⊎_elim (λ e. enabled_not_ended r (ap (status_of c) e ∙ ended)) (λ w. waiting_not_ended o.child w.0 w.1 ended) o.between
    where
      of_waiting : (i j : ℕ) → status_of c u ≡ status.Waiting i → status_of c u ≡ status.Waiting j → i ≡ j
      of_waiting i j a b = cc

      of_joined : (ks ls : List ℕ) (j : ℕ) → joined_at p j ≡ Some ks → joined_at p j ≡ Some ls → ks ≡ ls
      of_joined ks ls j a b = cc

      waiting_not_ended : (k j : ℕ) → status_of c k ≡ status.Waiting j → status_of c k ≡ status.Ended → ⊥
      waiting_not_ended k j a b = absurd (cc)

      enabled_not_ended : Enabled p c t → status_of c t ≡ status.Ended → ⊥
      enabled_not_ended (stands n a) b = absurd (cc)
      enabled_not_ended (completes a) b = let at = a.at in absurd (cc)

  -- a present thread is in range
  pub present_in_range : (t : ℕ) → IsPresent (status_of c t) → t < length p.threads
  present_in_range t here = ⊎_elim (λ lt. lt) outside (cases_lt t (length p.threads))
    where
      outside : length p.threads ≤ t → t < length p.threads
      outside past =
          let lengths = ok.threads in
          let absent : slice_get c.statuses t ≡ None = slice_get_past c.statuses t (omega arith) in
          absurd (subst IsPresent (ap (λ o. unwrap_or o status.Absent) absent) here)

  pub has_parent : (t : ℕ) → t < length p.threads → 0 < t → (a : ℕ) × (parent_of p t ≡ Some a)
  has_parent t within more =
      let a : (x : Thread) × (slice_get p.threads t ≡ Some x) = slice_get_there p.threads t within in
      let o : (w : ℕ) × (a.0.parent ≡ Some w) = parent_some t a.0.parent more (formed.size (place.Thread t) a.0 a.1).parent in
      (o.0, ap (option_and_then (λ x. x.parent)) a.1 ∙ o.1)

  -- the step up from the greater number
  climbed : (t u w : ℕ) → parent_of p t ≡ Some w → IsPresent (status_of c t) → IsPresent (status_of c u) → Kin p w u → Kin p t u
  climbed t u w h here there (below b) = below (below_parent p t w u h b)
  climbed t u w h here there (apart a m) = apart a (apart_lower p t w u a h m)
  climbed t u w h here there (above b) = ⊎_elim straight aside (same_or_not u w)
    where
      straight : u ≡ w → Kin p t u
      straight e = below (below_parent p t w u h (record { generations = zero; descends = sym e }))

      one_join : (i j : ℕ) → status_of c w ≡ status.Waiting i → status_of c w ≡ status.Waiting j → i ≡ j
      one_join i j a b = cc

      with_child : (f : ChildOf p t w) (o : Over p c u w) → f.children ≡ o.children → Kin p t u
      with_child f o children =
          ⊎_elim (λ e. above (subst (Below p u) (sym e) o.below))
          (λ ne. apart w (record {
            fork = f.fork;
            children = f.children;
            join = f.join;
            is_fork = f.is;
            left = t;
            right = o.child;
            left_child = f.child;
            right_child = subst (λ ks. Contains ks o.child) (sym children) o.is_child;
            differ = ne;
            t_below = below_self p t;
            u_below = o.below;
          }))
          (same_or_not t o.child)

      aside : u ≢ w → Kin p t u
      aside ne =
          let f : ChildOf p t w = fork_of p formed t w h in
          let o : Over p c u w = over_from u w ne b there in
          let joins : o.join ≡ f.join = one_join o.join f.join o.waits (parent_waits t w f here) in
          let other : IsFork p o.fork w o.children f.join = subst (λ j. IsFork p o.fork w o.children j) joins o.is_fork in
          let forks : f.fork ≡ o.fork = one_fork_joins p formed f.fork o.fork w w f.children o.children f.join f.is other in
          let is : IsFork p f.fork w o.children f.join = subst (λ n. IsFork p n w o.children f.join) (sym forks) other in
          with_child f o (fork_children p f.fork w w f.children o.children f.join f.join f.is is)

  kin : (fuel t u : ℕ) → t + u < fuel → IsPresent (status_of c t) → IsPresent (status_of c u) → Kin p t u
  kin zero t u enough here there = absurd (omega arith)
  kin (suc fuel) t u enough here there =
      ⊎_elim (λ e. below (record { generations = zero; descends = e }))
      (λ differ. ⊎_elim
      (λ h. let up : (w : ℕ) × (parent_of p u ≡ Some w) = has_parent u (present_in_range u there) (omega arith) in
      let less : up.0 < u = parent_below p formed u up.0 up.1 in
      kin_turned p u t (climbed u t up.0 up.1 there here (kin fuel up.0 t (omega arith) (parent_present u up.0 up.1 there) here)))
      (λ h. let up : (w : ℕ) × (parent_of p t ≡ Some w) = has_parent t (present_in_range t here) (omega arith) in
      let less : up.0 < t = parent_below p formed t up.0 up.1 in
      climbed t u up.0 up.1 here there (kin fuel up.0 u (omega arith) (parent_present t up.0 up.1 here) there))
      differ)
      (cases_order t u)

  -- two enabled threads are concurrent
  pub enabled_meet : (t u : ℕ) → Enabled p c t → Enabled p c u → t ≢ u → (a : ℕ) × ForkedApart p t u a
  enabled_meet t u r s ne = of_kin (kin (suc (t + u)) t u (omega arith) (enabled_present p c t r) (enabled_present p c u s))
    where
      of_kin : Kin p t u → (a : ℕ) × ForkedApart p t u a
      of_kin (below b) = absurd (not_above t u r s ne b)
      of_kin (above b) = absurd (not_above u t s r (λ e. ne (sym e)) b)
      of_kin (apart a m) = (a, m)
