-- The normal form of a configuration: who stands where, that it sits as before, and that whoever does not wait has its turn there as before.
use Rattle.std.proofs.Common.{◌≡◌, ◌≢◌, ℕ, zero, suc, Bool, true, false, not, ◌&&◌, List, [], ◌∷◌, ◌++◌, map, slice_set, Contains}
use Rattle.std.proofs.Common.{refl, sym, ap, ap₂, subst, ◌∙◌}
use Rattle.std.specs.List.{list_all}
use Rattle.std.proofs.lemmas.List.{length-map}
use Rattle.scl_graph_laws.proofs.Searching.{unlike}
use Rattle.core_charts.specs.declared.region.Transition.{Transition}
use Rattle.core_charts.specs.Tests.{is_join}
use Rattle.chart_machine.specs.declared.standing.Configuration.{Configuration}
use Rattle.chart_machine.specs.declared.standing.Standing.{Standing}
use Rattle.chart_machine.specs.declared.standing.Standing.TheVariants as at
use Rattle.chart_machine.specs.declared.table.Table.{Table}
use Rattle.chart_machine.specs.Table.{state_at}
use Rattle.chart_machine.specs.Turns.{standing_of, has_ended, has_work, is_guarded, inside, is_enabled, LiesIn, itself, deeper}
use Rattle.chart_machine_laws.specs.Tree.{around, holder}
use Rattle.tick_laws.proofs.Lists.{list_all_at}
use Rattle.chart_lowering_laws.proofs.Finished.{each_all}
use Rattle.abort_expansion_laws.specs.CoreRows.{own}
use Rattle.abort_expansion_laws.proofs.InsideAround.{inside_around}
use Rattle.preemption_laws.proofs.ApartTogether.{Through, through, IsOpen, open_guarding, open_within}
use Rattle.preemption_laws.proofs.MovesInside.{LeadIn}
use Rattle.preemption_laws.specs.Looks.{Looks}
use Rattle.preemption_laws.specs.Waiting.{is_waiting, waiting_at, still}
use Rattle.preemption_laws.proofs.Forms.{InForm, TestsWell, looks_behind, own_well}
use Rattle.preemption_laws.proofs.Ground.{Ground, MayOn, enclosed_on}
use Rattle.preemption_laws.proofs.NormalForms.{goes_normal, normal_then, waiting_is}
use Rattle.preemption_laws.proofs.SoundCores.{IsCore, IsSound, not_guarded}
use Rattle.preemption_laws.proofs.StillConfigurations.{stands_still}

-- the last of what holds for all of a list
each_last : {A : Type 0} (P : List A → Type 0) → ((x : A) (xs : List A) → P (x ∷ xs) → P xs) → (front back : List A) → P (front ++ back) → P back
each_last P less [] back h = h
each_last P less (x ∷ front) back h = each_last P less front back (less x (front ++ back) h)

module _ (k : Table) (looks : ℕ → List Transition) where
  pub still_set : (zs : List Standing) (q : ℕ) (x : Standing) →
      map (waiting_at k looks) (slice_set zs q x) ≡ slice_set (map (waiting_at k looks) zs) q (waiting_at k looks x)
  still_set [] q x = refl
  still_set (z ∷ zs) zero x = refl
  still_set (z ∷ zs) (suc q) x = ap (λ ys. waiting_at k looks z ∷ ys) (still_set zs q x)

  pub goes_there : (c : Configuration) (q : ℕ) → is_waiting k looks (standing_of c q) ≡ false → standing_of (still k looks c) q ≡ standing_of c q
  goes_there c q goes = stands_still k looks c q ∙ goes_normal k looks (standing_of c q) goes

  same_end : (x : Standing) → has_ended (waiting_at k looks x) ≡ has_ended x
  same_end at.Outside = refl
  same_end at.Ended = refl
  same_end (at.Trying s tests) = refl
  same_end (at.Entering s tests) = refl
  same_end (at.Guarding s tests) = refl
  same_end (at.Within s tests) = refl
  same_end (at.Acting s effects p) = refl

  same_out : (x : Standing) → waiting_at k looks x ≢ at.Outside → x ≢ at.Outside
  same_out x there out = there (ap (waiting_at k looks) out)

  same_open : (u : ℕ) (x : Standing) → IsOpen u x → IsOpen u (waiting_at k looks x)
  same_open u _ (open_guarding tests) = open_guarding tests
  same_open u _ (open_within tests) = open_within tests

  module _ (l : Looks k looks) (g : Ground k) where
    abbrev Lead : ℕ → List Transition → Type 0
    Lead r tests = LeadIn k g.tree g.entries g.elsewhere g.state_there r tests

    looks_lead : (s r : ℕ) → Lead r (own k s) → Lead r (looks s)
    looks_lead s r h = each_last (Lead r) (λ t ts all. all.1) (l.others s) (looks s) (subst (Lead r) (l.stand_last s) h)

    looks_well : (s : ℕ) → TestsWell k looks l (holder k s) (looks s)
    looks_well s =
        each_last (TestsWell k looks l (holder k s)) (λ t ts all. all.1) (l.others s) (looks s)
        (subst (TestsWell k looks l (holder k s)) (l.stand_last s) (own_well k looks l s))

    may_still : (r : ℕ) (x : Standing) → MayOn k g r x → MayOn k g r (waiting_at k looks x)
    may_still r at.Outside h = tt
    may_still r at.Ended h = tt
    may_still r (at.Trying s tests) h = by (is_waiting k looks (at.Trying s tests)) refl
      where
        by : (b : Bool) → is_waiting k looks (at.Trying s tests) ≡ b → MayOn k g r (waiting_at k looks (at.Trying s tests))
        by false e = subst (MayOn k g r) (sym (waiting_is k looks s tests false e)) h
        by true e =
            subst (MayOn k g r) (sym (waiting_is k looks s tests true e)) (h.0, h.1, looks_lead s r (subst (λ q. Lead q (own k s)) h.1 (g.leads s h.0)))
    may_still r (at.Entering s tests) h = h
    may_still r (at.Guarding s tests) h = h
    may_still r (at.Within s tests) h = h
    may_still r (at.Acting s effects p) h = h

    form_still : (r : ℕ) (x : Standing) → MayOn k g r x → InForm k looks l r x → InForm k looks l r (waiting_at k looks x)
    form_still r at.Outside may h = tt
    form_still r at.Ended may h = tt
    form_still r (at.Trying s tests) may h = by (is_waiting k looks (at.Trying s tests)) refl
      where
        by : (b : Bool) → is_waiting k looks (at.Trying s tests) ≡ b → InForm k looks l r (waiting_at k looks (at.Trying s tests))
        by false e = subst (InForm k looks l r) (sym (waiting_is k looks s tests false e)) h
        by true e =
            subst (InForm k looks l r) (sym (waiting_is k looks s tests true e))
            (looks_behind [] refl, subst (λ q. TestsWell k looks l q (looks s)) may.1 (looks_well s))
    form_still r (at.Entering s tests) may h = h
    form_still r (at.Guarding s tests) may h = h
    form_still r (at.Within s tests) may h = h
    form_still r (at.Acting s effects p) may h = h

    pub still_sound : (c : Configuration) → IsCore k looks l g c → IsSound k looks l g (still k looks c)
    still_sound c is =
        record {
          core = record {
            sits = record {
              size = length-map c.regions (waiting_at k looks) ∙ is.sits.size;
              chart_out = stands_still k looks c 0 ∙ ap (waiting_at k looks) is.sits.chart_out;
              next = λ q u us round there.
                  subst (IsOpen u) (sym (stands_still k looks c (holder k u)))
                  (same_open u (standing_of c (holder k u))
                  (is.sits.next q u us round (same_out (standing_of c q) (λ out. there (stands_still k looks c q ∙ out)))));
              stands = λ r. subst (MayOn k g r) (sym (stands_still k looks c r)) (may_still r (standing_of c r) (is.sits.stands r));
            };
            forms = λ r.
                subst (InForm k looks l r) (sym (stands_still k looks c r)) (form_still r (standing_of c r) (is.sits.stands r) (is.forms r));
          };
          normal = λ r. subst (λ x. waiting_at k looks x ≡ x) (sym (stands_still k looks c r)) (normal_then k looks (standing_of c r));
        }

    -- ---- turns

    -- where all regions of a superstate have ended, nobody inside has anything to do
    idle_inside : (c : Configuration) → IsCore k looks l g c → (s : ℕ) → list_all (λ r. has_ended (standing_of c r)) (state_at k s).regions ≡ true → (q : ℕ) →
        Contains (inside k s) q → has_work k c (standing_of c q) ≡ false
    idle_inside c is s all q h = by w.lies
      where
        w : Through k g.tree g.holder_there q s
        w = through k g.tree g.holder_there (around k q) q s refl (inside_around k s q h)

        over : has_ended (standing_of c w.side) ≡ true
        over = list_all_at (λ r. has_ended (standing_of c r)) (state_at k s).regions w.side all (g.tree.innermost w.side s w.rest w.directly)

        ended_works : (x : Standing) → has_ended x ≡ true → has_work k c x ≡ false
        ended_works at.Ended e = refl
        ended_works at.Outside e = absurd cc
        ended_works (at.Trying u tests) e = absurd cc
        ended_works (at.Entering u tests) e = absurd cc
        ended_works (at.Guarding u tests) e = absurd cc
        ended_works (at.Within u tests) e = absurd cc
        ended_works (at.Acting u effects p) e = absurd cc

        never_open : (u : ℕ) (x : Standing) → IsOpen u x → has_ended x ≡ true → ⊥
        never_open u _ (open_guarding tests) e = absurd cc
        never_open u _ (open_within tests) e = absurd cc

        by_work : (y : ℕ) → Contains (around k q) y → holder k y ≡ w.side → (b : Bool) → has_work k c (standing_of c q) ≡ b → b ≡ false
        by_work y inner held false e = refl
        by_work y inner held true e =
            absurd
            (never_open y (standing_of c w.side)
            (subst (λ r. IsOpen y (standing_of c r)) held
            ((enclosed_on k g c is.sits).around_open q y inner (λ out. unlike (has_work k c (standing_of c q)) e (ap (has_work k c) out)))) over)

        by : LiesIn k q w.side → has_work k c (standing_of c q) ≡ false
        by (itself same) = ap (λ r. has_work k c (standing_of c r)) same ∙ ended_works (standing_of c w.side) over
        by (deeper y inner held) = by_work y inner held (has_work k c (standing_of c q)) refl

    -- so a termination has its turn when all regions have ended
    pub turn_at_join : (c : Configuration) → IsCore k looks l g c → (r s : ℕ) (t : Transition) (tests : List Transition) → is_join t.kind ≡ true →
        standing_of c r ≡ at.Within s (t ∷ tests) →
        is_enabled k c r ≡ list_all (λ q. has_ended (standing_of c q)) (state_at k s).regions
    turn_at_join c is r s t tests join stands = by (list_all (λ q. has_ended (standing_of c q)) (state_at k s).regions) refl
      where
        free : is_guarded k c (around k r) ≡ false
        free = not_guarded k looks l g c is.forms (around k r)

        by : (b : Bool) → list_all (λ q. has_ended (standing_of c q)) (state_at k s).regions ≡ b →
            is_enabled k c r ≡ list_all (λ q. has_ended (standing_of c q)) (state_at k s).regions
        by false e = rw (stands, join, e) refl
        by true e =
            let done : list_all (λ q. not (has_work k c (standing_of c q))) (inside k s) ≡ true =
            each_all (λ q. not (has_work k c (standing_of c q))) (inside k s) (λ q h. ap not (idle_inside c is s e q h)) in
            rw (stands, join, e, free, done) refl

    ends_alike : (c : Configuration) (rs : List ℕ) →
        list_all (λ q. has_ended (standing_of (still k looks c) q)) rs ≡ list_all (λ q. has_ended (standing_of c q)) rs
    ends_alike c [] = refl
    ends_alike c (r ∷ rs) = ap₂ (λ a b. a && b) (ap has_ended (stands_still k looks c r) ∙ same_end (standing_of c r)) (ends_alike c rs)

    pub turn_still : (c : Configuration) → IsCore k looks l g c → (r : ℕ) → is_waiting k looks (standing_of c r) ≡ false →
        is_enabled k (still k looks c) r ≡ is_enabled k c r
    turn_still c is r goes = by (standing_of c r) refl (is.forms r)
      where
        free : is_guarded k c (around k r) ≡ false
        free = not_guarded k looks l g c is.forms (around k r)

        free_too : is_guarded k (still k looks c) (around k r) ≡ false
        free_too = not_guarded k looks l g (still k looks c) (still_sound c is).core.forms (around k r)

        by : (x : Standing) → standing_of c r ≡ x → InForm k looks l r x → is_enabled k (still k looks c) r ≡ is_enabled k c r
        by at.Outside e form = let e_too : standing_of (still k looks c) r ≡ at.Outside = goes_there c r goes ∙ e in rw (e, e_too) refl
        by at.Ended e form = let e_too : standing_of (still k looks c) r ≡ at.Ended = goes_there c r goes ∙ e in rw (e, e_too) refl
        by (at.Trying s []) e form = let e_too : standing_of (still k looks c) r ≡ at.Trying s [] = goes_there c r goes ∙ e in rw (e, e_too) refl
        by (at.Trying s (t ∷ tests)) e form =
            let e_too : standing_of (still k looks c) r ≡ at.Trying s (t ∷ tests) = goes_there c r goes ∙ e in rw (e, e_too, free, free_too) refl
        by (at.Entering s tests) e form = absurd form
        by (at.Guarding s tests) e form = absurd form
        by (at.Within s []) e form = let e_too : standing_of (still k looks c) r ≡ at.Within s [] = goes_there c r goes ∙ e in rw (e, e_too) refl
        by (at.Within s (t ∷ tests)) e form =
            let e_too : standing_of (still k looks c) r ≡ at.Within s (t ∷ tests) = goes_there c r goes ∙ e in
            turn_at_join (still k looks c) (still_sound c is).core r s t tests form.0.0 e_too
            ∙ (ends_alike c (state_at k s).regions ∙ sym (turn_at_join c is r s t tests form.0.0 e))
        by (at.Acting s effects p) e form =
            let e_too : standing_of (still k looks c) r ≡ at.Acting s effects p = goes_there c r goes ∙ e in rw (e, e_too, free, free_too) refl
