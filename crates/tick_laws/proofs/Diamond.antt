-- Two enabled threads whose steps stand in no order and in no conflict: each step keeps the other's effect,
-- and both orders lead to the same configuration.
use Rattle.std.proofs.Common.{◌≡◌, ◌≢◌, ℕ, zero, suc, ◌⊎◌, Bool, true, false, List, set, Option, Some, None, slice_get, unwrap_or, option_map, option_and_then}
use Rattle.std.proofs.Common.{Contains, refl, sym, ap, ap₂, subst, subst₂, ◌∙◌, inl, inr, ⊎_elim, set-set}
use Rattle.std.proofs.lemmas.Bool.{cases_Bool}
use Rattle.std.proofs.lemmas.List.{set_comm}
use Rattle.std.proofs.lemmas.Option.{slice_get_within}
use Rattle.sc_values.specs.declared.value.Value.{Value}
use Rattle.sc_values.specs.declared.operator.Combination.{Combination}
use Rattle.sc_values.specs.declared.operator.Combination.TheVariants as combine
use Rattle.sc_values.specs.Operator.{combined}
use Rattle.sc_values.specs.Access.{Access, no_access, Reads, Inits, Updates, Precedes, init_update, init_read, update_read, Clash, two_inits, two_updates}
use Rattle.sc_values.specs.Access.{one_literal}
use Rattle.sc_values.proofs.Merge.{combined_turn, one_combination}
use Rattle.sc_values.proofs.Loading.{code_value_same}
use Rattle.sc_values.proofs.Literals.{clash_turned, literal_from_same}
use Rattle.sc_graph.specs.declared.control.Control.{Control}
use Rattle.sc_graph.specs.declared.control.Status.TheVariants as status
use Rattle.sc_graph.specs.declared.program.Step.{Step}
use Rattle.sc_graph.specs.declared.program.Step.TheVariants as steps
use Rattle.sc_graph.specs.Program.{Program, step_at}
use Rattle.sc_graph.specs.Accesses.{access_of, accesses}
use Rattle.sc_graph.specs.Control.{status_of, joined_at, all_ended, access_at}
use Rattle.sc_graph.specs.Steps.{Change, Keep, Put, Combine, Effect, combined_at, changed, after, only_if, assigned, updated, branched, node_effect}
use Rattle.sc_graph.specs.Steps.{join_effect, status_effect, effect}
use Rattle.sc_graph.specs.Tick.{IsConfiguration}
use Rattle.sc_graph.specs.Valid.{IsFormed}
use Rattle.tick_laws.proofs.Lists.{same_or_not, get_set_other, get_set_same}
use Rattle.tick_laws.proofs.Moves.{moved_turned}
use Rattle.tick_laws.proofs.Views.{Completes, Enabled, stands, completes, Does, simple, forks, joins, InitsBy, Changes, does, all_ended_from}
use Rattle.tick_laws.proofs.Views.{enabled_from_effect}
use Rattle.tick_laws.proofs.Sound.{apart, keeps_self, stay_ended}

-- two steps that stand in no order and in no conflict
pub record Free (a b : Access) : Type 0 where
  pub not_before : ¬ Precedes a b
  pub not_after : ¬ Precedes b a
  pub no_clash : ¬ Clash a b

pub free_turned : (a b : Access) → Free a b → Free b a
free_turned a b free = record { not_before = free.not_after; not_after = free.not_before; no_clash = λ h. free.no_clash (clash_turned b a h) }

inits : {a : Access} {x : ℕ} {v : Value} → InitsBy a x v → Inits a x
inits by = (by.literal, by.writes)

-- a change is what an access writes
abbrev pub Writes : Access → Change → Type 0
Writes a Keep = Unit {0}
Writes a (Put x v) = InitsBy a x v
Writes a (Combine x f v) = Updates a x f

-- a change is of variable k
abbrev pub IsOf : Change → ℕ → Type 0
IsOf Keep k = ⊥
IsOf (Put x v) k = k ≡ x
IsOf (Combine x f v) k = k ≡ x

combined_other : (values : List Value) (x : ℕ) (f : Combination) (v : Value) (o : Option Value) (k : ℕ) → k ≢ x → slice_get (combined_at values x f v o) k
    ≡ slice_get values k
combined_other values x f v None k ne = refl
combined_other values x f v (Some present) k ne = get_set_other values x k (combined f present v) ne

-- other variables keep their values
pub changed_other : (change : Change) (values : List Value) (k : ℕ) → ¬ IsOf change k → slice_get (changed change values) k ≡ slice_get values k
changed_other Keep values k ne = refl
changed_other (Put x v) values k ne = get_set_other values x k v ne
changed_other (Combine x f v) values k ne = combined_other values x f v (slice_get values x) k ne

put_combined : (values : List Value) (x : ℕ) (v : Value) (y : ℕ) (f : Combination) (w : Value) (o : Option Value) → x ≢ y →
    set (combined_at values y f w o) x v ≡ combined_at (set values x v) y f w o
put_combined values x v y f w None differ = refl
put_combined values x v y f w (Some present) differ = set_comm values y x (combined f present w) v (λ e. differ (sym e))

put_turned : (values : List Value) (x : ℕ) (v : Value) (y : ℕ) (f : Combination) (w : Value) → x ≢ y →
    changed (Put x v) (changed (Combine y f w) values) ≡ changed (Combine y f w) (changed (Put x v) values)
put_turned values x v y f w differ =
    put_combined values x v y f w (slice_get values y) differ
    ∙ ap (combined_at (set values x v) y f w) (sym (get_set_other values x y v (λ e. differ (sym e))))

combined_both : (values : List Value) (x : ℕ) (f : Combination) (v : Value) (y : ℕ) (g : Combination) (w : Value) (o r : Option Value) → x ≢ y →
    combined_at (combined_at values y g w r) x f v o ≡ combined_at (combined_at values x f v o) y g w r
combined_both values x f v y g w None r differ = refl
combined_both values x f v y g w (Some a) None differ = refl
combined_both values x f v y g w (Some a) (Some b) differ = set_comm values y x (combined g b w) (combined f a v) (λ e. differ (sym e))

combine_turned : (values : List Value) (x : ℕ) (f : Combination) (v : Value) (y : ℕ) (g : Combination) (w : Value) → x ≢ y →
    changed (Combine x f v) (changed (Combine y g w) values) ≡ changed (Combine y g w) (changed (Combine x f v) values)
combine_turned values x f v y g w differ =
    ap (combined_at (combined_at values y g w (slice_get values y)) x f v) (combined_other values y g w (slice_get values y) x differ)
    ∙ (combined_both values x f v y g w (slice_get values x) (slice_get values y) differ
    ∙ ap (combined_at (combined_at values x f v (slice_get values x)) y g w) (sym (combined_other values x f v (slice_get values x) y (λ e. differ (sym e)))))

-- two updates of one variable by one combination
combined_twice : (values : List Value) (x : ℕ) (f : Combination) (v w : Value) (o : Option Value) → slice_get values x ≡ o →
    changed (Combine x f v) (combined_at values x f w o) ≡ combined_at values x f v (option_map (λ a. combined f a w) o)
combined_twice values x f v w None at = ap (combined_at values x f v) at
combined_twice values x f v w (Some a) at =
    ap (combined_at (set values x (combined f a w)) x f v) (get_set_same values x (combined f a w) (slice_get_within values x a at))
    ∙ set-set values x (combined f a w) (combined f (combined f a w) v)

either_first : (values : List Value) (x : ℕ) (f : Combination) (v w : Value) (o : Option Value) →
    combined_at values x f v (option_map (λ a. combined f a w) o) ≡ combined_at values x f w (option_map (λ a. combined f a v) o)
either_first values x f v w None = refl
either_first values x f v w (Some a) = ap (set values x) (combined_turn f a w v)

one_combined : (values : List Value) (x : ℕ) (f : Combination) (v w : Value) →
    changed (Combine x f v) (changed (Combine x f w) values) ≡ changed (Combine x f w) (changed (Combine x f v) values)
one_combined values x f v w =
    combined_twice values x f v w (slice_get values x) refl
    ∙ (either_first values x f v w (slice_get values x) ∙ sym (combined_twice values x f w v (slice_get values x) refl))

-- inits by one literal write one value
one_value : (a b : Access) (x : ℕ) (v : Value) (y : ℕ) (w : Value) → InitsBy a x v → InitsBy b y w → one_literal a.writes b.writes ≡ true → v ≡ w
one_value a b x v y w by_a by_b one =
    let literal = literal_from_same by_a.literal by_b.literal (sym (ap₂ one_literal by_a.writes by_b.writes) ∙ one) in
    by_a.by_literal literal.value literal.first ∙ sym (by_b.by_literal literal.value literal.second)

module _ (a b : Access) (free : Free a b) (values : List Value) where
  both_put : (x : ℕ) (v : Value) (y : ℕ) (w : Value) → InitsBy a x v → InitsBy b y w → changed (Put x v) (changed (Put y w) values)
      ≡ changed (Put y w) (changed (Put x v) values)
  both_put x v y w by_a by_b = ⊎_elim at_one (λ differ. set_comm values y x w v (λ e. differ (sym e))) (same_or_not x y)
    where
      by_one : x ≡ y → v ≡ w → changed (Put x v) (changed (Put y w) values) ≡ changed (Put y w) (changed (Put x v) values)
      by_one same one = subst₂ (λ z u. changed (Put x v) (changed (Put z u) values) ≡ changed (Put z u) (changed (Put x v) values)) same one refl

      at_one : x ≡ y → changed (Put x v) (changed (Put y w) values) ≡ changed (Put y w) (changed (Put x v) values)
      at_one same =
          ⊎_elim (λ one. by_one same (one_value a b x v y w by_a by_b one))
          (λ other. absurd (free.no_clash (two_inits x (inits by_a) (subst (Inits b) (sym same) (inits by_b)) other)))
          (cases_Bool (one_literal a.writes b.writes))

  put_combine : (x : ℕ) (v : Value) (y : ℕ) (g : Combination) (w : Value) → InitsBy a x v → Updates b y g →
      changed (Put x v) (changed (Combine y g w) values) ≡ changed (Combine y g w) (changed (Put x v) values)
  put_combine x v y g w by_a by_b =
      ⊎_elim (λ same. absurd (free.not_before (init_update x g (inits by_a) (subst (λ z. Updates b z g) (sym same) by_b))))
      (put_turned values x v y g w) (same_or_not x y)

  combine_put : (x : ℕ) (f : Combination) (v : Value) (y : ℕ) (w : Value) → Updates a x f → InitsBy b y w →
      changed (Combine x f v) (changed (Put y w) values) ≡ changed (Put y w) (changed (Combine x f v) values)
  combine_put x f v y w by_a by_b =
      ⊎_elim (λ same. absurd (free.not_after (init_update y f (inits by_b) (subst (λ z. Updates a z f) same by_a))))
      (λ differ. sym (put_turned values y w x f v (λ e. differ (sym e)))) (same_or_not x y)

  both_combine : (x : ℕ) (f : Combination) (v : Value) (y : ℕ) (g : Combination) (w : Value) → Updates a x f → Updates b y g →
      changed (Combine x f v) (changed (Combine y g w) values) ≡ changed (Combine y g w) (changed (Combine x f v) values)
  both_combine x f v y g w by_a by_b = ⊎_elim (λ same. at_one same by_b) (combine_turned values x f v y g w) (same_or_not x y)
    where
      by_one : x ≡ y → f ≡ g → changed (Combine x f v) (changed (Combine y g w) values) ≡ changed (Combine y g w) (changed (Combine x f v) values)
      by_one same one = subst₂ (λ z h. changed (Combine x f v) (changed (Combine z h w) values) ≡ changed (Combine z h w) (changed (Combine x f v) values)) same
          one (one_combined values x f v w)

      at_one : x ≡ y → Updates b y g → changed (Combine x f v) (changed (Combine y g w) values) ≡ changed (Combine y g w) (changed (Combine x f v) values)
      at_one same by_y =
          ⊎_elim (by_one same) (λ differ. absurd (free.no_clash (two_updates x f g by_a (subst (λ z. Updates b z g) (sym same) by_y) differ)))
          (one_combination f g)

  -- changes in no order and in no conflict commute
  pub changes_commute : (d e : Change) → Writes a d → Writes b e → changed d (changed e values) ≡ changed e (changed d values)
  changes_commute Keep e by_a by_b = refl
  changes_commute (Put x v) Keep by_a by_b = refl
  changes_commute (Combine x f v) Keep by_a by_b = refl
  changes_commute (Put x v) (Put y w) by_a by_b = both_put x v y w by_a by_b
  changes_commute (Put x v) (Combine y g w) by_a by_b = put_combine x v y g w by_a by_b
  changes_commute (Combine x f v) (Put y w) by_a by_b = combine_put x f v y w by_a by_b
  changes_commute (Combine x f v) (Combine y g w) by_a by_b = both_combine x f v y g w by_a by_b

  -- what a step reads a free one leaves
  pub reads_kept : (e : Change) → Writes b e → (k : ℕ) → Reads a k → slice_get (changed e values) k ≡ slice_get values k
  reads_kept e by_b k reads = changed_other e values k (of_other e by_b)
    where
      of_other : (d : Change) → Writes b d → ¬ IsOf d k
      of_other Keep by h = h
      of_other (Put x v) by h = free.not_after (init_read x (inits by) (subst (Reads a) h reads))
      of_other (Combine x f v) by h = free.not_after (update_read x f by (subst (Reads a) h reads))

accesses_is : (p : Program) (n : ℕ) (s : Step) → step_at p n ≡ Some s → accesses p n ≡ access_of s
accesses_is p n s found = ap (λ o. unwrap_or (option_map access_of o) no_access) found

-- the access of a step is that of the node at which its thread stands
pub access_at_node : (p : Program) (c : Control) (t n : ℕ) (s : Step) → status_of c t ≡ status.At n → step_at p n ≡ Some s → access_at p (status_of c t)
    ≡ access_of s
access_at_node p c t n s at found = ap (access_at p) at ∙ accesses_is p n s found

changes_write : (p : Program) (s : Step) (d : Change) → Changes p s d → Writes (access_of s) d
changes_write p s Keep h = tt
changes_write p s (Put x v) h = h.0
changes_write p s (Combine x f v) h = h.0

-- a step's change is what its access writes
pub writes : (p : Program) (c : Control) (t : ℕ) (e : Effect) → Does p c t e → Writes (access_at p (status_of c t)) e.change
writes p c t e (simple d) =
    subst₂ Writes (sym (access_at_node p c t d.node d.taken d.at d.found)) (sym (ap (λ (x : Effect). x.change) d.is))
    (changes_write p d.taken d.change d.changes)
writes p c t e (forks d) = subst (Writes (access_at p (status_of c t))) (sym (ap (λ (x : Effect). x.change) d.is)) tt
writes p c t e (joins d) = subst (Writes (access_at p (status_of c t))) (sym (ap (λ (x : Effect). x.change) d.is)) tt

node_same : (p : Program) (c d : Control) (t : ℕ) (s : Step) → ((x : ℕ) → Contains (access_of s).reads x → slice_get d.variables x ≡ slice_get c.variables x) →
    node_effect p d t s ≡ node_effect p c t s
node_same p c d t (steps.Assign x code m) same = ap (option_and_then (assigned p t x m)) (code_value_same code d.variables c.variables same)
node_same p c d t (steps.Update x f code m) same = ap (option_and_then (updated p t x f m)) (code_value_same code d.variables c.variables same)
node_same p c d t (steps.Cond code m n) same = ap (option_and_then (branched p t m n)) (code_value_same code d.variables c.variables same)
node_same p c d t (steps.Fork children j) same = refl
node_same p c d t (steps.Join m) same = refl
node_same p c d t (steps.Surf m) same = refl
node_same p c d t (steps.Depth m) same = refl
node_same p c d t steps.Exit same = refl

at_same : (p : Program) (c d : Control) (t n : ℕ) (o : Option Step) → step_at p n ≡ o →
    ((x : ℕ) → Contains (accesses p n).reads x → slice_get d.variables x ≡ slice_get c.variables x) →
    option_and_then (node_effect p d t) o ≡ option_and_then (node_effect p c t) o
at_same p c d t n None found same = refl
at_same p c d t n (Some s) found same = node_same p c d t s (λ x h. same x (subst (λ (a : Access). Contains a.reads x) (sym (accesses_is p n s found)) h))

join_same : (p : Program) (c d : Control) (t : ℕ) (w : Completes p c t) → status_of d t ≡ status_of c t
    → ((k : ℕ) → Contains w.children k → status_of d k ≡ status.Ended) →
    effect p d t ≡ effect p c t
join_same p c d t w same ended =
    ap (status_effect p d t) (same ∙ w.at)
    ∙ (ap (λ b. only_if b (join_effect p t (joined_at p w.join) (step_at p w.join))) (all_true d ended ∙ sym (all_true c w.ended))
    ∙ sym (ap (status_effect p c t) w.at))
  where
    all_true : (b : Control) → ((k : ℕ) → Contains w.children k → status_of b k ≡ status.Ended) → all_ended b (joined_at p w.join) ≡ true
    all_true b each = ap (all_ended b) w.joined ∙ all_ended_from b w.children each

module _ (p : Program) (formed : IsFormed p) (c : Control) (ok : IsConfiguration p c) where
  kept : (t u : ℕ) → t ≢ u → Enabled p c t → Enabled p c u → (f : Effect) → Does p c u f → Free (access_at p (status_of c t)) (access_at p (status_of c u)) →
      effect p (after f c) t ≡ effect p c t
  kept t u differ (stands n at) enabled_u f does_u free =
      ap (status_effect p (after f c) t) (keeps_self p formed c ok t u differ (stands n at) f does_u ∙ at)
      ∙ (at_same p c (after f c) t n (step_at p n) refl
      (λ x h. reads_kept (access_at p (status_of c t)) (access_at p (status_of c u)) free c.variables f.change (writes p c u f does_u) x
      (subst (λ (a : Access). Contains a.reads x) (sym (ap (access_at p) at)) h))
      ∙ sym (ap (status_effect p c t) at))
  kept t u differ (completes w) enabled_u f does_u free =
      join_same p c (after f c) t w (keeps_self p formed c ok t u differ (completes w) f does_u) (stay_ended p formed c ok t u differ w enabled_u f does_u)

  -- a free step doesn't change what another does
  pub effect_kept : (t u : ℕ) → t ≢ u → (e f : Effect) → effect p c t ≡ Some e → effect p c u ≡ Some f →
      Free (access_at p (status_of c t)) (access_at p (status_of c u)) → effect p (after f c) t ≡ Some e
  effect_kept t u differ e f by_t by_u free =
      kept t u differ (enabled_from_effect p c t e by_t) (enabled_from_effect p c u f by_u) f (does p c u f by_u) free ∙ by_t

  -- both orders lead to the same configuration
  pub commute : (t u : ℕ) → t ≢ u → (e f : Effect) → effect p c t ≡ Some e → effect p c u ≡ Some f →
      Free (access_at p (status_of c t)) (access_at p (status_of c u)) → after e (after f c) ≡ after f (after e c)
  commute t u differ e f by_t by_u free =
      ap₂ (λ values statuses. record { variables = values; statuses = statuses })
      (changes_commute (access_at p (status_of c t)) (access_at p (status_of c u)) free c.variables e.change f.change (writes p c t e (does p c t e by_t))
      (writes p c u f (does p c u f by_u)))
      (moved_turned e.moves f.moves c.statuses
      (apart p formed c ok t u differ (enabled_from_effect p c t e by_t) (enabled_from_effect p c u f by_u) e f (does p c t e by_t) (does p c u f by_u)))
