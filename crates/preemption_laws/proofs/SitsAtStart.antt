-- Before the first tick, and as a tick starts, a chart sits as each of its steps keeps it.
use Rattle.std.proofs.Common.{◌≡◌, ◌≢◌, ℕ, zero, suc, ◌<◌, ◌⊎◌, inl, inr, ⊎_elim, Bool, true, false, List, [], ◌∷◌, map, length, Contains, refl, sym, ap, subst}
use Rattle.std.proofs.Common.{◌∙◌, arith}
use Rattle.std.specs.List.{list_all}
use Rattle.std.proofs.lemmas.Bool.{and_parts}
use Rattle.std.proofs.lemmas.List.{length-map}
use Rattle.sc_text.proofs.EachItem.{Each}
use Rattle.core_charts.specs.declared.region.Transition.{Transition}
use Rattle.core_charts.specs.Tests.{strong_aborts, closing_tests}
use Rattle.sc_graph.specs.Tick.{Inputs}
use Rattle.chart_machine.specs.declared.standing.Configuration.{Configuration}
use Rattle.chart_machine.specs.declared.standing.Move.{Move}
use Rattle.chart_machine.specs.declared.standing.Standing.{Standing}
use Rattle.chart_machine.specs.declared.standing.Standing.TheVariants as at
use Rattle.chart_machine.specs.declared.table.Table.{Table}
use Rattle.chart_machine.specs.Machine.{initial, start, woken, guarded_first, is_outside, regions_at_start}
use Rattle.chart_machine.specs.Steps.{moved, state_in}
use Rattle.chart_machine.specs.Table.{state_at, region_at}
use Rattle.chart_machine.specs.Turns.{standing_of, LiesIn, itself, deeper}
use Rattle.chart_machine_laws.specs.Tree.{IsThere, IsTree, around, holder}
use Rattle.chart_machine_laws.proofs.LyingIn.{none_in, head_in, tail_in, head_or_tail}
use Rattle.chart_lowering_laws.proofs.Entering.{moved_length}
use Rattle.abort_expansion_laws.specs.CoreRows.{own, IsState}
use Rattle.abort_expansion_laws.proofs.FreshInside.{Begins, all_entered, all_apart, look, nobody_there, nobody_size}
use Rattle.abort_expansion_laws.proofs.Leaving.{at_number}
use Rattle.abort_expansion_laws.proofs.StartingRegions.{Once}
use Rattle.abort_expansion_laws.proofs.StateEntry.{Entry}
use Rattle.preemption_laws.proofs.ApartTogether.{IsOpen, open_guarding, open_within, lies_or_not}
use Rattle.preemption_laws.proofs.EnclosedStill.{Firsts, begins_inner}
use Rattle.preemption_laws.proofs.MovesInside.{LeadIn, MayStand}
use Rattle.preemption_laws.proofs.SitsStill.{Sits}
use Rattle.preemption_laws.proofs.StandsStill.{each_entered, entered_fits, all_moved, lead_strong, lead_closing}

-- the states in which the regions of the chart begin
pub record Tops (k : Table) : Type 0 where
  pub firsts : List ℕ
  pub opens : k.opened ≡ all_entered k firsts
  pub states : (x : ℕ) → Contains firsts x → IsState k x × (around k (holder k x) ≡ []) × IsThere k (holder k x)
  pub once : (x : ℕ) → Contains firsts x → Once (holder k x) (map (holder k) firsts)

woken_at : (k : Table) (zs : List Standing) (q : ℕ) → at_number (map (woken k) zs) q ≡ woken k (at_number zs q)
woken_at k [] q = refl
woken_at k (z ∷ zs) zero = refl
woken_at k (z ∷ zs) (suc q) = woken_at k zs q

woken_open : (k : Table) (u : ℕ) (x : Standing) → IsOpen u x → IsOpen u (woken k x)
woken_open k u _ (open_guarding tests) = open_guarding tests
woken_open k u _ (open_within tests) = by (strong_aborts (state_at k u).transitions)
  where
    by : (strong : List Transition) → IsOpen u (guarded_first u strong (closing_tests (state_at k u).transitions))
    by [] = open_within (closing_tests (state_at k u).transitions)
    by (t ∷ strong) = open_guarding (t ∷ strong)

pub all_out : (zs : List Standing) → list_all is_outside zs ≡ true → (q : ℕ) → at_number zs q ≡ at.Outside
all_out [] h q = refl
all_out (z ∷ zs) h zero = by z (and_parts (is_outside z) (list_all is_outside zs) h).0
  where
    by : (x : Standing) → is_outside x ≡ true → x ≡ at.Outside
    by at.Outside e = refl
    by at.Ended e = absurd cc
    by (at.Trying s tests) e = absurd cc
    by (at.Entering s tests) e = absurd cc
    by (at.Guarding s tests) e = absurd cc
    by (at.Within s tests) e = absurd cc
    by (at.Acting s effects p) e = absurd cc
all_out (z ∷ zs) h (suc q) = all_out zs (and_parts (is_outside z) (list_all is_outside zs) h).1 q

module _ (k : Table) (tree : IsTree k) (holder_there : (q s : ℕ) → Contains (around k q) s → IsThere k q × IsThere k (holder k s))
    (entries : (x : ℕ) → IsState k x → Entry k x)
    (elsewhere : (s t : ℕ) (zs : List Standing) → IsState k s → ¬ Contains (around k t) s → at_number (moved (state_at k s).opened zs) t ≡ at_number zs t)
    (state_there : (r p : ℕ) → IsThere k r → p < length (region_at k r).states → IsState k (state_in k r p) × (holder k (state_in k r p) ≡ r))
    (firsts : (s r : ℕ) → Contains (state_at k s).regions r → Firsts k s)
    (once : (r s : ℕ) (ss : List ℕ) → IsThere k r → around k r ≡ s ∷ ss → Once r (state_at k s).regions)
    (leads : (s : ℕ) → IsState k s → LeadIn k tree entries elsewhere state_there (holder k s) (own k s))
    (bare : (s : ℕ) → IsState k s → (state_at k s).regions ≡ [] → (state_at k s).opened ≡ []) (tops : Tops k) where
  abbrev May : ℕ → Standing → Type 0
  May r x = MayStand k tree entries elsewhere state_there r x

  -- it lies in a region in which one of these states is, or in none
  in_some : (xs : List ℕ) (q : ℕ) → ((x : ℕ) × Contains xs x × LiesIn k q (holder k x)) ⊎ ((x : ℕ) → Contains xs x → ¬ LiesIn k q (holder k x))
  in_some [] q = inr (λ x none. absurd (none_in x none))
  in_some (x ∷ xs) q =
      ⊎_elim (λ lies. inl (x, head_in x xs, lies))
      (λ out.
      ⊎_elim (λ one. inl (one.0, tail_in x one.0 xs one.1, one.2))
      (λ none. inr (λ y h lies.
      ⊎_elim (λ same. out (subst (λ z. LiesIn k q (holder k z)) (sym same) lies)) (λ tail. none y tail lies) (head_or_tail x y xs h)))
      (in_some xs q))
      (lies_or_not k tree holder_there q (holder k x))

  abbrev Sitting : Configuration → Type 0
  Sitting c = Sits k tree holder_there entries elsewhere state_there firsts once leads bare c

  pub sits_initially : Sitting (initial k)
  sits_initially =
      record {
        size = nobody_size k;
        chart_out = nobody_there k 0;
        next = λ q u us round there. absurd (there (nobody_there k q));
        stands = λ r. subst (May r) (sym (nobody_there k r)) tt;
      }

  woken_may : (r : ℕ) (x : Standing) → May r x → May r (woken k x)
  woken_may r at.Outside h = tt
  woken_may r at.Ended h = tt
  woken_may r (at.Trying s tests) h = (h.0, h.1, subst (λ z. LeadIn k tree entries elsewhere state_there z (own k s)) h.1 (leads s h.0))
  woken_may r (at.Entering s tests) h = h
  woken_may r (at.Guarding s tests) h = h
  woken_may r (at.Acting s effects p) h = h
  woken_may r (at.Within s tests) h = by (strong_aborts (own k s)) refl
    where
      by : (strong : List Transition) → strong_aborts (own k s) ≡ strong → May r (guarded_first s strong (closing_tests (own k s)))
      by [] e = (
        h.0,
        h.1,
        subst (λ z. LeadIn k tree entries elsewhere state_there z (closing_tests (own k s))) h.1
            (lead_closing k tree holder_there entries elsewhere state_there firsts leads bare s h.0),
      )
      by (t ∷ strong) e = (
        h.0,
        h.1,
        subst (λ z. LeadIn k tree entries elsewhere state_there z (t ∷ strong)) h.1
            (subst (LeadIn k tree entries elsewhere state_there (holder k s)) e
            (lead_strong k tree holder_there entries elsewhere state_there firsts leads bare s h.0)),
      )

  module _ (inputs : Inputs) (c : Configuration) (sits : Sitting c) where
    abbrev now : Bool → Configuration
    now b = record { variables = (start k inputs c).variables; regions = regions_at_start k b c.regions }

    later : Sitting (now false)
    later =
        record {
          size = length-map c.regions (woken k) ∙ sits.size;
          chart_out = woken_at k c.regions 0 ∙ ap (woken k) sits.chart_out;
          next = λ q u us round there.
              subst (IsOpen u) (sym (woken_at k c.regions (holder k u)))
              (woken_open k u (standing_of c (holder k u))
              (sits.next q u us round (λ out. there (woken_at k c.regions q ∙ ap (woken k) out))));
          stands = λ r. subst (May r) (sym (woken_at k c.regions r)) (woken_may r (standing_of c r) (sits.stands r));
        }

    module _ (out : (q : ℕ) → standing_of c q ≡ at.Outside) where
      abbrev zs : List Standing
      zs = moved k.opened c.regions

      level : (x : ℕ) → Contains tops.firsts x → IsState k x × (around k (holder k x) ≡ []) × (holder k x < length c.regions)
      level x h =
          let its = tops.states x h in let lt = its.2.1 in let size = sits.size in (its.0, its.1, omega (lt, size, arith))

      begun : (x : ℕ) → Contains tops.firsts x → Begins k (suc (length k.regions)) (at_number zs) x
      begun x h =
          subst (λ m. Begins k m (at_number zs) x) sits.size
          (subst (λ ms. Begins k (length c.regions) (at_number (moved ms c.regions)) x) (sym tops.opens)
          (look k tree entries elsewhere [] tops.firsts c.regions level x h (tops.once x h) (λ q lies. out q)))

      first_next : (q u : ℕ) (us : List ℕ) → around k q ≡ u ∷ us → at_number zs q ≢ at.Outside → IsOpen u (at_number zs (holder k u))
      first_next q u us round there = by (in_some tops.firsts q)
        where
          in_u : Contains (around k q) u
          in_u = subst (λ ys. Contains ys u) (sym round) (head_in u us)

          inside : (x : ℕ) → Contains tops.firsts x → LiesIn k q (holder k x) → IsOpen u (at_number zs (holder k u))
          inside x h (itself e) = absurd (none_in u (subst (λ ys. Contains ys u) (ap (around k) e ∙ (tops.states x h).1) in_u))
          inside x h (deeper y inner held) =
              begins_inner k tree holder_there entries elsewhere state_there firsts once (at_number zs) x (holder k x) refl (begun x h) q y u us inner held
              round there

          by : ((x : ℕ) × Contains tops.firsts x × LiesIn k q (holder k x)) ⊎ ((x : ℕ) → Contains tops.firsts x → ¬ LiesIn k q (holder k x)) →
              IsOpen u (at_number zs (holder k u))
          by (inl one) = inside one.0 one.1 one.2
          by (inr none) =
              absurd (there
              (ap (λ ms. at_number (moved ms c.regions) q) tops.opens
              ∙ (all_apart k tree entries elsewhere tops.firsts q c.regions (λ x h. (tops.states x h).0) none ∙ out q)))

      first : Sitting (now true)
      first =
          record {
            size = moved_length k.opened c.regions ∙ sits.size;
            chart_out =
                ap (λ ms. at_number (moved ms c.regions) 0) tops.opens
                ∙ (all_apart k tree entries elsewhere tops.firsts 0 c.regions (λ x h. (tops.states x h).0) (λ x h. not_zero x h) ∙ sits.chart_out);
            next = first_next;
            stands =
                all_moved k tree holder_there entries elsewhere state_there firsts leads bare k.opened c.regions
                (subst (Each (λ (m : Move). May m.region m.standing)) (sym tops.opens)
                (each_entered k tree holder_there entries elsewhere state_there firsts leads bare tops.firsts
                (λ x h. entered_fits k tree holder_there entries elsewhere state_there firsts leads bare x (tops.states x h).0))) sits.stands;
          }
        where
          not_zero : (x : ℕ) → Contains tops.firsts x → ¬ LiesIn k 0 (holder k x)
          not_zero x h (itself e) = let lt = (tops.states x h).2.0 in omega (lt, e, arith)
          not_zero x h (deeper s inner held) = none_in s inner

    pub sits_at_start : Sitting (start k inputs c)
    sits_at_start = by (list_all is_outside c.regions) refl
      where
        by : (b : Bool) → list_all is_outside c.regions ≡ b → Sitting (now b)
        by true e = first (all_out c.regions e)
        by false e = later
