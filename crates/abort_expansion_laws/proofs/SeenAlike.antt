-- What rests is seen alike: the same states are active.
use Rattle.std.proofs.Common.{◌≡◌, ℕ, zero, suc, ◌⊎◌, inl, inr, ⊎_elim, true, false, not, Option, Some, None, List, [], ◌∷◌, ◌++◌, length, nat_eq}
use Rattle.std.proofs.Common.{refl, sym, ap, subst, ◌∙◌, arith}
use Rattle.std.specs.Prelude.{take}
use Rattle.std.proofs.lemmas.Bool.Decides.{Decides-eqb}
use Rattle.std.proofs.lemmas.Option.{same_Some}
use Rattle.std.proofs.lemmas.Bool.{and_parts, not-true}
use Rattle.sc_values.specs.declared.value.Value.{Value}
use Rattle.scl_graph_laws.proofs.Targets.{same_number}
use Rattle.core_charts.specs.Aborts.{has_aborts}
use Rattle.chart_machine.specs.declared.standing.Standing.{Standing}
use Rattle.chart_machine.specs.declared.standing.Standing.TheVariants as at
use Rattle.chart_machine.specs.declared.standing.Configuration.{Configuration}
use Rattle.chart_machine.specs.declared.table.Table.{Table}
use Rattle.chart_machine.specs.Turns.{standing_of}
use Rattle.chart_machine.specs.Machine.{stands_in, is_active}
use Rattle.chart_machine.proofs.Outside.{within_or_past}
use Rattle.abort_expansion.specs.Superstates.{stays}
use Rattle.abort_expansion_laws.specs.Related.{is_behind}
use Rattle.chart_machine_laws.proofs.LyingIn.{holder}
use Rattle.abort_expansion_laws.proofs.TablesCorrespond.{IsThere}
use Rattle.abort_expansion_laws.specs.CoreRows.{own, IsState, flags_around, Images, CoreRows}
use Rattle.abort_expansion_laws.proofs.Owed.{RestsIn, rests_outside, rests_ended, rests_left, rests_trying, rests_staying, rests_within, rests_behind}
use Rattle.abort_expansion_laws.proofs.Owed.{WatchRests, watch_within, watch_elsewhere, Resting}
use Rattle.abort_expansion_laws.proofs.NumberedRegions.{past_regions, super_is_state}

one_number : (m n : ℕ) → nat_eq m n ≡ true → m ≡ n
one_number m n e = (Decides-eqb m n).0 e

pub front_of : (xs ys : List Value) → take (length xs) (xs ++ ys) ≡ xs
front_of [] ys = refl
front_of (x ∷ xs) ys = ap (λ zs. x ∷ zs) (front_of xs ys)

-- what is asked of the map of states
pub record IsMap (k core : Table) (i : Images) (m : ℕ → Option ℕ) : Type 0 where
  pub main_is : (s : ℕ) → IsState k s → m (i.main_of s) ≡ Some s
  pub behind_is : (s : ℕ) → IsState k s → stays (flags_around k core i (holder k s)) (own k s) ≡ false → m (i.behind_of s) ≡ Some s
  pub watching_is : (o : ℕ) → IsState k o → has_aborts (own k o) ≡ true → m (i.watching_of o) ≡ None
  pub behind_held : (s : ℕ) → IsState k s → stays (flags_around k core i (holder k s)) (own k s) ≡ false →
      holder core (i.behind_of s) ≡ i.thread_of (holder k s)

module _ (k core : Table) (i : Images) (rows : CoreRows k core i) (m : ℕ → Option ℕ) (maps : IsMap k core i m) (c d : Configuration)
    (rests : Resting k core i c d) where
  abbrev InCore : ℕ → Type 0
  InCore s = (n : ℕ) × (is_active core d n ≡ true) × (m n ≡ Some s)

  is_split : (s : ℕ) → is_behind k core i c s ≡ true → stays (flags_around k core i (holder k s)) (own k s) ≡ false
  is_split s over = not-true (stays (flags_around k core i (holder k s)) (own k s))
      (and_parts (not (stays (flags_around k core i (holder k s)) (own k s))) _ over).0

  in_main : (r s : ℕ) → IsState k s → holder k s ≡ r → stands_in (standing_of d (i.thread_of r)) (i.main_of s) ≡ true → InCore s
  in_main r s in_table held e = (
    i.main_of s,
    ap (λ t. stands_in (standing_of d t) (i.main_of s)) (rows.held s ∙ ap i.thread_of held) ∙
        e,
    maps.main_is s in_table,
  )

  in_behind : (r s : ℕ) → IsState k s → is_behind k core i c s ≡ true → holder k s ≡ r → stands_in (standing_of d (i.thread_of r)) (i.behind_of s) ≡ true →
      InCore s
  in_behind r s in_table over held e = (
    i.behind_of s,
    ap (λ t. stands_in (standing_of d t) (i.behind_of s))
        (maps.behind_held s in_table (is_split s over) ∙ ap i.thread_of held) ∙ e,
    maps.behind_is s in_table (is_split s over),
  )

  forth_at : (r s : ℕ) (x y : Standing) → standing_of d (i.thread_of r) ≡ y → RestsIn k core i c r x y → stands_in x s ≡ true → InCore s
  forth_at r s _ _ is rests_outside e = absurd cc
  forth_at r s _ _ is (rests_ended inner) e = absurd cc
  forth_at r s _ _ is (rests_left u ss f over) e = absurd cc
  forth_at r s _ _ is (rests_trying u simple held) e =
      subst InCore (one_number u s e) (in_main r u (simple.there) held (ap (λ w. stands_in w (i.main_of u)) is ∙ same_number (i.main_of u)))
  forth_at r s _ _ is (rests_staying u tests super held stays) e =
      subst InCore (one_number u s e) (in_main r u (super_is_state k u super) held (ap (λ w. stands_in w (i.main_of u)) is ∙ same_number (i.main_of u)))
  forth_at r s _ _ is (rests_within u join tests super held stays still leads) e =
      subst InCore (one_number u s e) (in_main r u (super_is_state k u super) held (ap (λ w. stands_in w (i.main_of u)) is ∙ same_number (i.main_of u)))
  forth_at r s _ _ is (rests_behind u tests super held over) e =
      subst InCore (one_number u s e)
      (in_behind r u (super_is_state k u super) over held (ap (λ w. stands_in w (i.behind_of u)) is ∙ same_number (i.behind_of u)))

  nowhere : (x : Standing) (s : ℕ) → x ≡ at.Outside → stands_in x s ≡ true → ⊥
  nowhere x s is e = let wrong : true ≡ false = sym e ∙ ap (λ w. stands_in w s) is in absurd cc

  forth : (s : ℕ) → is_active k c s ≡ true → InCore s
  forth s e = by_place (holder k s) refl e
    where
      by_place : (r : ℕ) → holder k s ≡ r → stands_in (standing_of c (holder k s)) s ≡ true → InCore s
      by_place zero is on = absurd (nowhere (standing_of c (holder k s)) s (ap (standing_of c) is ∙ rests.no_chart) on)
      by_place (suc r) is on =
          ⊎_elim
          (λ lt. forth_at (suc r) s (standing_of c (suc r)) (standing_of d (i.thread_of (suc r))) refl
          (rests.regions (suc r) (omega arith, omega (lt, arith))) (ap (λ q. stands_in (standing_of c q) s) (sym is) ∙ on))
          (λ le. absurd (nowhere (standing_of c (holder k s)) s (ap (standing_of c) is ∙ past_regions c k rests.chart_regions (suc r) (omega (le, arith))) on))
          (within_or_past r (length k.regions))

  -- back again: the map tells the state
  same_state : (n u s : ℕ) → m n ≡ Some s → m n ≡ Some u → u ≡ s
  same_state n u s a b = same_Some u s (sym b ∙ a)

  in_chart : (r u s : ℕ) (x : Standing) → standing_of c r ≡ x → holder k u ≡ r → u ≡ s → stands_in x u ≡ true → is_active k c s ≡ true
  in_chart r u s x is held same on =
      subst (λ v. is_active k c v ≡ true) same (ap (λ q. stands_in (standing_of c q) u) held ∙ (ap (λ w. stands_in w u) is ∙ on))

  back_at : (r n s : ℕ) (x y : Standing) → standing_of c r ≡ x → RestsIn k core i c r x y → stands_in y n ≡ true → m n ≡ Some s → is_active k c s ≡ true
  back_at r n s _ _ is rests_outside e mapped = absurd cc
  back_at r n s _ _ is (rests_ended inner) e mapped = absurd cc
  back_at r n s _ _ is (rests_left u ss f over) e mapped = absurd cc
  back_at r n s _ _ is (rests_trying u simple held) e mapped =
      in_chart r u s (at.Trying u []) is held
      (same_state n u s mapped (ap m (sym (one_number (i.main_of u) n e)) ∙ maps.main_is u (simple.there))) (same_number u)
  back_at r n s _ _ is (rests_staying u tests super held stays) e mapped =
      in_chart r u s (at.Within u tests) is held
      (same_state n u s mapped (ap m (sym (one_number (i.main_of u) n e)) ∙ maps.main_is u (super_is_state k u super))) (same_number u)
  back_at r n s _ _ is (rests_within u join tests super held stays still leads) e mapped =
      in_chart r u s (at.Within u tests) is held
      (same_state n u s mapped (ap m (sym (one_number (i.main_of u) n e)) ∙ maps.main_is u (super_is_state k u super))) (same_number u)
  back_at r n s _ _ is (rests_behind u tests super held over) e mapped =
      in_chart r u s (at.Within u tests) is held (same_state n u s mapped
      (ap m (sym (one_number (i.behind_of u) n e)) ∙ maps.behind_is u (super_is_state k u super) (is_split u over))) (same_number u)

  not_watching : (o n s : ℕ) → IsState k o → has_aborts (own k o) ≡ true → (x y : Standing) → WatchRests k core i o x y → stands_in y n ≡ true →
      m n ≡ Some s → ⊥
  not_watching o n s o_there has _ _ (watch_within tests) e mapped =
      let wrong : Some s ≡ None = sym mapped ∙ (ap m (sym (one_number (i.watching_of o) n e)) ∙ maps.watching_is o o_there has) in absurd cc
  not_watching o n s o_there has x _ (watch_elsewhere z none) e mapped = absurd cc

  back : (s : ℕ) → InCore s → is_active k c s ≡ true
  back s (n, on, mapped) = by_place (holder core n) refl on
    where
      by_sort : (t : ℕ) → ((r : ℕ) × IsThere k r × (t ≡ i.thread_of r)) ⊎ ((o : ℕ) × IsState k o × (has_aborts (own k o) ≡ true) × (t ≡ i.watcher_of o)) →
          stands_in (standing_of d t) n ≡ true → is_active k c s ≡ true
      by_sort t (inl r) e =
          back_at r.0 n s (standing_of c r.0) (standing_of d (i.thread_of r.0)) refl (rests.regions r.0 r.1)
          (ap (λ q. stands_in (standing_of d q) n) (sym r.2) ∙ e) mapped
      by_sort t (inr o) e =
          absurd (not_watching o.0 n s o.1 o.2 (standing_of c (holder k o.0)) (standing_of d (i.watcher_of o.0)) (rests.watchers o.0 o.1 o.2)
          (ap (λ q. stands_in (standing_of d q) n) (sym o.3) ∙ e) mapped)

      by_place : (t : ℕ) → holder core n ≡ t → stands_in (standing_of d (holder core n)) n ≡ true → is_active k c s ≡ true
      by_place zero is e = absurd (nowhere (standing_of d (holder core n)) n (ap (standing_of d) is ∙ rests.no_core) e)
      by_place (suc t) is e =
          ⊎_elim (λ lt. by_sort (suc t) (rows.each (suc t) (omega arith, omega (lt, arith))) (ap (λ q. stands_in (standing_of d q) n) (sym is) ∙ e))
          (λ le. absurd (nowhere (standing_of d (holder core n)) n
          (ap (standing_of d) is ∙ past_regions d core rests.core_regions (suc t) (omega (le, arith))) e))
          (within_or_past t (length core.regions))

  -- the declared variables and the active states
  pub seen_variables : take (length k.variables) d.variables ≡ c.variables
  seen_variables = ap (λ n. take n d.variables) (sym rests.values) ∙ (ap (take (length c.variables)) rests.variables ∙ front_of c.variables rests.more)

  pub seen_active : (s : ℕ) → (is_active k c s ≡ true → InCore s) × (InCore s → is_active k c s ≡ true)
  seen_active s = (forth s, back s)
