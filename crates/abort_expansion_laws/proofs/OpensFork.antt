-- A superstate that is open in the chart, with its thread still in the preparation: the resets, and the fork is entered.
use Rattle.std.proofs.Common.{◌≡◌, ℕ, ◌<◌, ◌⊎◌, inl, inr, ⊎_elim, Bool, true, Option, Some, None, List, [], ◌∷◌, length, slice_get, slice_set}
use Rattle.std.proofs.Common.{refl, sym, ap, subst, ◌∙◌, arith}
use Rattle.std.specs.Prelude.{option_map}
use Rattle.sc_values.specs.declared.value.Value.{Value}
use Rattle.sc_values.specs.declared.value.Kind.TheVariants as kind_is
use Rattle.sc_values.specs.Access.{Access}
use Rattle.sc_graph.specs.Steps.{takes_kind}
use Rattle.chart_machine.specs.declared.standing.Standing.{Standing}
use Rattle.chart_machine.specs.declared.standing.Standing.TheVariants as at
use Rattle.chart_machine.specs.declared.standing.Configuration.{Configuration}
use Rattle.chart_machine.specs.declared.table.Table.{Table}
use Rattle.chart_machine.specs.Table.{state_at}
use Rattle.chart_machine.specs.Turns.{standing_of, inside}
use Rattle.chart_machine.specs.Steps.{to, moved, state_in}
use Rattle.chart_machine.specs.Machine.{machine}
use Rattle.abort_expansion.specs.Transitions.{go}
use Rattle.abort_expansion.specs.Superstates.{is_prepared}
use Rattle.abort_expansion_laws.specs.Stages.{Entry, Silent, Correspondence}
use Rattle.abort_expansion_laws.proofs.Segments.{Segment}
use Rattle.chart_machine_laws.proofs.LyingIn.{IsNested, holder}
use Rattle.abort_expansion_laws.proofs.TablesCorrespond.{IsThere}
use Rattle.abort_expansion_laws.specs.CoreRows.{own, Images, CoreRows, SplitImage, joins, flags_around}
use Rattle.abort_expansion_laws.specs.Related.{Stores}
use Rattle.abort_expansion_laws.proofs.ImageSteps.{pair}
use Rattle.abort_expansion_laws.proofs.Pending.{IsOpening, Pending, Reached}
use Rattle.abort_expansion_laws.proofs.CalmPending.{all_calm}
use Rattle.abort_expansion_laws.proofs.Resets.{puts, Every, IsOwn, But, entered_with, prepares, one_of, reset_list, resets_are, Apart, IsIn, HasValue}
use Rattle.abort_expansion_laws.proofs.Resets.{strong_reset, weak_reset, counter_reset}
use Rattle.abort_expansion_laws.proofs.Unchanged.{set_twice}

-- what more is asked of the rows, for preparations
pub record OpeningRows (k core : Table) (i : Images) (rows : CoreRows k core i) : Type 0 where
  pub flag_of : (s x : ℕ) → ((i.flags_of s).strong ≡ Some x) ⊎ (((i.flags_of s).weak ≡ Some x) ⊎ ((i.flags_of s).counter ≡ Some x)) →
      (rows.of_flag x ≡ s) × ((takes_kind (option_map (λ z. z.kind) (slice_get core.variables x)) kind_is.Int ≡ true) × (x < length core.variables))
  pub flags_apart : (s : ℕ) → Apart (i.flags_of s).strong (i.flags_of s).weak ×
      (Apart (i.flags_of s).strong (i.flags_of s).counter × Apart (i.flags_of s).weak (i.flags_of s).counter)
  pub some_flag : (s : ℕ) → is_prepared (flags_around k core i (holder k s)) (own k s) ≡ true →
      (x : ℕ) × (((i.flags_of s).strong ≡ Some x) ⊎ (((i.flags_of s).weak ≡ Some x) ⊎ ((i.flags_of s).counter ≡ Some x)))
  pub entry_alone : (s : ℕ) → is_prepared (flags_around k core i (holder k s)) (own k s) ≡ true → inside core (i.entry_of s) ≡ []

not_empty : (strong weak counter : Option ℕ) (n x : ℕ) → (strong ≡ Some x) ⊎ ((weak ≡ Some x) ⊎ (counter ≡ Some x)) →
    (y : ℕ × ℕ) × ((ys : List (ℕ × ℕ)) × (reset_list strong weak counter n ≡ y ∷ ys))
not_empty (Some z) weak counter n x some = ((z, 0), (one_of weak 0 (one_of counter n []), refl))
not_empty None (Some z) counter n x some = ((z, 0), (one_of counter n [], refl))
not_empty None None (Some z) n x some = ((z, n), ([], refl))
not_empty None None None n x (inl e) = absurd cc
not_empty None None None n x (inr (inl e)) = absurd cc
not_empty None None None n x (inr (inr e)) = absurd cc

pub every_one : (P : ℕ × ℕ → Type 0) (o : Option ℕ) (n : ℕ) (rest : List (ℕ × ℕ)) → ((x : ℕ) → o ≡ Some x → P (x, n)) → Every P rest → Every P (one_of o n rest)
every_one P None n rest own others = others
every_one P (Some x) n rest own others = (own x refl, others)

is_in : (o : Option ℕ) (values : List Value) → ((x : ℕ) → o ≡ Some x → x < length values) → IsIn values o
is_in None values lt = tt
is_in (Some x) values lt = lt x refl

has_stores : (k core : Table) (i : Images) (values : List Value) (o : Option ℕ) (n : ℕ) → HasValue values o n → Stores k core i values o n
has_stores k core i values None n has = tt
has_stores k core i values (Some x) n has = has

module _ (k core : Table) (i : Images) (rows : CoreRows k core i) (tree : IsNested k) (counts : ℕ → Bool) (written_at : ℕ → ℕ)
    (Told : Configuration → Entry → Type 0)
    (told : (d : Configuration) (t : ℕ) (stage : Option (ℕ × ℕ)) (a : Access) → Told d (Silent t stage a)) (more : OpeningRows k core i rows)
    (c : Configuration)
    (r : ℕ) (d : Configuration) (p : Pending k core i c r d) (there : IsThere k r) (s : ℕ) (held : holder k s ≡ r) (o : IsOpening k core i c d s) where
  abbrev pub g : ℕ
  g = i.thread_of (holder k s)

  abbrev corr : Correspondence
  corr = pair k core i rows tree counts written_at

  abbrev n : ℕ
  n = length (state_at k s).regions

  abbrev pub list : List (ℕ × ℕ)
  list = reset_list (i.flags_of s).strong (i.flags_of s).weak (i.flags_of s).counter n

  abbrev pub image : SplitImage k core i s
  image = rows.split s o.there o.super o.split

  in_core : g < length d.regions
  in_core = let lt = (rows.region r there).there.1 in let size = p.core_regions in let e : g ≡ i.thread_of r = ap i.thread_of held in omega (lt, size, e, arith)

  own_flag : (x m : ℕ) → ((i.flags_of s).strong ≡ Some x) ⊎ (((i.flags_of s).weak ≡ Some x) ⊎ ((i.flags_of s).counter ≡ Some x)) →
      IsOwn core corr Told told g o.fork (Reached k core i c d) (x, m)
  own_flag x m which =
      record {
        flag = ⊎_elim (λ e. rows.strong_added s x e) (λ w. ⊎_elim (λ e. rows.weak_added s x e) (λ e. rows.counter_added s x e) w) which;
        home = sym (ap (λ z. holder core (i.main_of z)) (more.flag_of s x which).0 ∙ rows.held s);
        kind = (more.flag_of s x which).1.0;
      }

  each_own : Every (IsOwn core corr Told told g o.fork (Reached k core i c d)) list
  each_own =
      every_one (IsOwn core corr Told told g o.fork (Reached k core i c d)) (i.flags_of s).strong 0
      (one_of (i.flags_of s).weak 0 (one_of (i.flags_of s).counter n [])) (λ x e. own_flag x 0 (inl e))
      (every_one (IsOwn core corr Told told g o.fork (Reached k core i c d)) (i.flags_of s).weak 0 (one_of (i.flags_of s).counter n [])
      (λ x e. own_flag x 0 (inr (inl e)))
      (every_one (IsOwn core corr Told told g o.fork (Reached k core i c d)) (i.flags_of s).counter n [] (λ x e. own_flag x n (inr (inr e))) tt))

  -- what is entered begins with the fork
  pub forks : (state_at core (state_in core g o.fork)).entered ≡ to g (at.Within (i.main_of s) (joins image.join ∷ [])) ∷ (state_at core (i.main_of s)).opened
  forks = ap (λ z. (state_at core z).entered) o.leads ∙ ap (λ row. row.entered) image.row

  overwrites : (zs : List Standing) (x : Standing) → moved (state_at core (state_in core g o.fork)).entered (slice_set zs g x) ≡ moved
      (state_at core (state_in core g o.fork)).entered zs
  overwrites zs x =
      ap (λ ms. moved ms (slice_set zs g x)) forks
      ∙ (ap (moved (state_at core (i.main_of s)).opened) (set_twice zs g x (at.Within (i.main_of s) (joins image.join ∷ []))) ∙
      ap (λ ms. moved ms zs) (sym forks))

  abbrev pub forked : Configuration
  forked = entered_with core corr Told told g o.fork (Reached k core i c d) d list

  -- the test and the resets, and the fork is entered
  pub opens_fork : Segment (machine core) corr Told d (Reached k core i c d) (λ last. But core corr Told told g o.fork (Reached k core i c d)) []
      (λ z. z ≡ forked)
  opens_fork =
      let some = more.some_flag s o.prepared in
      let first = not_empty (i.flags_of s).strong (i.flags_of s).weak (i.flags_of s).counter n some.0 some.1 in
      let owns = subst (Every (IsOwn core corr Told told g o.fork (Reached k core i c d))) first.1.1 each_own in
      let stands : standing_of d g ≡ at.Trying (i.entry_of s) (go true None (puts (first.0 ∷ first.1.0)) o.fork ∷ []) =
      o.preparing ∙ ap (λ es. at.Trying (i.entry_of s) (go true None es o.fork ∷ []))
      (resets_are (i.flags_of s).strong (i.flags_of s).weak (i.flags_of s).counter n ∙ ap puts first.1.1) in
      subst (λ xs. Segment (machine core) corr Told d (Reached k core i c d) (λ last. But core corr Told told g o.fork (Reached k core i c d)) []
      (λ z. z ≡ entered_with core corr Told told g o.fork (Reached k core i c d) d xs)) (sym first.1.1)
      (prepares core corr Told told g o.fork (Reached k core i c d) overwrites first.1.0 first.0.0 first.0.1 (i.entry_of s) d (all_calm k core i rows c r d p)
      in_core owns.0 owns.1 (more.entry_alone s o.prepared) stands)

  -- what the flags are then
  in_values : (x : ℕ) → ((i.flags_of s).strong ≡ Some x) ⊎ (((i.flags_of s).weak ≡ Some x) ⊎ ((i.flags_of s).counter ≡ Some x)) → x < length d.variables
  in_values x which = let lt = (more.flag_of s x which).1.1 in let size = p.flag_count in omega (lt, size, arith)

  pub strong_down : Stores k core i forked.variables (i.flags_of s).strong 0
  strong_down =
      let apart = more.flags_apart s in
      has_stores k core i forked.variables (i.flags_of s).strong 0
      (strong_reset (i.flags_of s).strong (i.flags_of s).weak (i.flags_of s).counter n d.variables apart.0 apart.1.0
      (is_in (i.flags_of s).strong d.variables (λ x e. in_values x (inl e))))

  pub weak_down : Stores k core i forked.variables (i.flags_of s).weak 0
  weak_down =
      let apart = more.flags_apart s in
      has_stores k core i forked.variables (i.flags_of s).weak 0
      (weak_reset (i.flags_of s).strong (i.flags_of s).weak (i.flags_of s).counter n d.variables apart.1.1
      (is_in (i.flags_of s).weak d.variables (λ x e. in_values x (inr (inl e)))))

  pub counter_full : Stores k core i forked.variables (i.flags_of s).counter n
  counter_full =
      has_stores k core i forked.variables (i.flags_of s).counter n
      (counter_reset (i.flags_of s).strong (i.flags_of s).weak (i.flags_of s).counter n d.variables
      (is_in (i.flags_of s).counter d.variables (λ x e. in_values x (inr (inr e)))))
