-- Marks of what lists of numbers name.
use Rattle.std.proofs.Common.{ℕ, ◌≡◌, ◌≢◌, ◌<◌, Bool, true, false, ◌||◌, not, nat_eq, Some, None, List, [], ◌∷◌, ◌++◌}
use Rattle.std.proofs.Common.{length, get_or, slice_set, replicate, map, drop, drop-cons, add-one, suc, ◌+◌}
use Rattle.std.proofs.Common.{refl, sym, ap, subst, ◌∙◌, rules, cond, eqb-true, if◌then◌else◌}
use Rattle.std.specs.List.{list_any, filter, flat_map}
use Rattle.std.proofs.lemmas.Bool.{eq-eqb}
use Rattle.std.proofs.lemmas.List.{get_or-set_other, get_or-replicate, length-replicate}
use Rattle.std.proofs.lemmas.List.Elements.{filter-append}
use Rattle.std.proofs.lemmas.Grind.{get_or-set_at, flat_map-append}
use Rattle.sc_values.specs.declared.expression.Expr.{Expr}
use Rattle.sc_values.specs.declared.expression.Expr.TheOpen as tree
use Rattle.sc_values.specs.declared.expression.Expr.TheVariants as expr
use Rattle.sc_values.specs.declared.expression.Expr.TheVariants.{rolls-Binary}
use Rattle.sc_values.specs.declared.expression.Expr.TheFolds.{fold-roll-Expr}
use Rattle.sc_values.specs.declared.operator.BinaryOperator.{BinaryOperator}
use Rattle.sc_values.specs.Assignment.{reads}
use Rattle.sc_values.proofs.Induction.{induct}
use Rattle.sc_values.proofs.Loading.{loads-literal, loads-load, loads-unary, loads-binary}
use Rattle.core_charts.specs.declared.region.Transition.{Transition}
use Rattle.core_charts.specs.declared.region.Region.{Region}
use Rattle.core_charts.specs.declared.region.State.{State}
use Rattle.core_charts.specs.declared.region.Region.TheViews.{out-Region, out-State}
use Rattle.core_charts.specs.declared.region.Region.TheFolds.{fold_out-Region, fold_out-State}
use Rattle.core_charts.specs.Tests.{at_once}
use Rattle.chart_warnings.specs.Names.{Entry, joined, entered, when_initial, region_transitions, state_transitions, within_region, within_state}
use Rattle.chart_warnings.specs.Names.{region_entry, state_entry, entry_of_region, entry_of_state}
use Rattle.chart_warnings.specs.Warnings.{left_for, led_to}
use Rattle.chart_warnings.specs.declared.names.Mention.{Mention}
use Rattle.chart_warnings.specs.Inside.Marks.{marked, Tells, variables_of, variables_step, is_besides, all_by, by_transition}

-- ---- marks of two lists

pub marked_append : (xs ys : List ℕ) (marks : List Bool) → marked (xs ++ ys) marks ≡ marked ys (marked xs marks)
marked_append [] ys marks = refl
marked_append (x ∷ xs) ys marks = marked_append xs ys (slice_set marks x true)

pub marked_filtered : (p : ℕ → Bool) (xs ys : List ℕ) (marks : List Bool) →
    marked (filter p (xs ++ ys)) marks ≡ marked (filter p ys) (marked (filter p xs) marks)
marked_filtered p xs ys marks = ap (λ zs. marked zs marks) (filter-append p xs ys) ∙ marked_append (filter p xs) (filter p ys) marks

pub marked_within : (w : Mention) (some others : List Transition) (marks : List Bool) →
    marked (all_by w (some ++ others)) marks ≡ marked (all_by w others) (marked (all_by w some) marks)
marked_within w some others marks =
    ap (λ zs. marked zs marks) (flat_map-append (by_transition w) some others) ∙ marked_append (all_by w some) (all_by w others) marks

-- ---- the variables of an expression

abbrev Same : Expr → Type 0
Same e = variables_of e ≡ reads e

pub variables_read : (e : Expr) → variables_of e ≡ reads e
variables_read = induct Same (record {
  of_literal = λ v. fold-roll-Expr (List ℕ) variables_step (tree.Literal v) ∙ sym (loads-literal v);
  of_load = λ x. fold-roll-Expr (List ℕ) variables_step (tree.Load x) ∙ sym (loads-load x);
  of_unary = λ f a e. fold-roll-Expr (List ℕ) variables_step (tree.Unary f a) ∙ e ∙ sym (loads-unary f a);
  of_binary = λ f a b e g.
      fold-roll-Expr (List ℕ) variables_step (tree.Binary f a b)
      ∙ ap (λ xs. xs ++ variables_of b) e
      ∙ ap (λ ys. reads a ++ ys) g
      ∙ sym (loads-binary f a b);
})

pub binary_marked : (p : ℕ → Bool) (f : BinaryOperator) (a b : Expr) (marks : List Bool) →
    marked (filter p (variables_of (expr.Binary f a b))) marks ≡
    marked (filter p (variables_of b)) (marked (filter p (variables_of a)) marks)
binary_marked p f a b marks =
    ap (λ e. marked (filter p (variables_of e)) marks) (sym (rolls-Binary f a b))
    ∙ ap (λ xs. marked (filter p xs) marks) (fold-roll-Expr (List ℕ) variables_step (tree.Binary f a b))
    ∙ marked_filtered p (variables_of a) (variables_of b) marks

all_besides_none : (xs : List ℕ) → filter (is_besides None) xs ≡ xs
all_besides_none [] = refl
all_besides_none (x ∷ xs) = ap (λ ys. x ∷ ys) (all_besides_none xs)

pub all_read : (e : Expr) → filter (is_besides None) (variables_of e) ≡ reads e
all_read e = all_besides_none (variables_of e) ∙ variables_read e

pub others_read : (x : ℕ) (e : Expr) → filter (is_besides (Some x)) (variables_of e) ≡ filter (λ y. not (nat_eq x y)) (reads e)
others_read x e = ap (filter (is_besides (Some x))) (variables_read e)

-- ---- what marks tell

length_marked : (xs : List ℕ) (marks : List Bool) → length (marked xs marks) ≡ length marks
length_marked [] marks = refl
length_marked (x ∷ xs) marks = length_marked xs (slice_set marks x true) ∙ search (rules)

or_true : (b : Bool) → (b || true) ≡ true
or_true true = refl
or_true false = refl

-- a mark more, for one that is named
one_more : (y x : ℕ) (marks : List Bool) (others : Bool) → x < length marks →
    (get_or (slice_set marks y true) x false || others) ≡ (get_or marks x false || (nat_eq x y || others))
one_more y x marks others less = by (nat_eq x y) refl
  where
    by : (b : Bool) → nat_eq x y ≡ b → (get_or (slice_set marks y true) x false || others) ≡ (get_or marks x false || (nat_eq x y || others))
    by true same =
        let one : x ≡ y = eqb-true x y same in
        let there : y < length marks = subst (λ k. k < length marks) one less in
        ap (λ b. b || others) (get_or-set_at marks y x true false one there)
        ∙ sym (or_true (get_or marks x false))
        ∙ ap (λ b. get_or marks x false || (b || others)) (sym same)
    by false other =
        let apart : x ≢ y = λ one. let h : nat_eq x y ≡ true = eq-eqb x y one in absurd (cc) in
        ap (λ b. b || others) (get_or-set_other marks y x true false apart)
        ∙ ap (λ b. get_or marks x false || (b || others)) (sym other)

or_none : (b : Bool) → b ≡ (b || false)
or_none true = refl
or_none false = refl

marks_tell : (xs : List ℕ) (marks : List Bool) (x : ℕ) → x < length marks →
    get_or (marked xs marks) x false ≡ (get_or marks x false || list_any (nat_eq x) xs)
marks_tell [] marks x less = or_none (get_or marks x false)
marks_tell (y ∷ xs) marks x less =
    let within : x < length (slice_set marks y true) = search (rules, less) in
    marks_tell xs (slice_set marks y true) x within ∙ one_more y x marks (list_any (nat_eq x) xs) less

-- marks that were not set, and then those of a list
pub tells_marked : (xs : List ℕ) (count : ℕ) → Tells xs count (marked xs (replicate count false))
tells_marked xs count = record {
  many = length_marked xs (replicate count false) ∙ length-replicate count false;
  each = λ x less.
      let there : x < length (replicate count false) = subst (λ n. x < n) (sym (length-replicate count false)) less in
      marks_tell xs (replicate count false) x there
      ∙ ap (λ b. b || list_any (nat_eq x) xs) (get_or-replicate count x false false less);
}

-- ---- one piece more

split_at : {A : Type 0} (xs : List A) (i : ℕ) (x : A) → i < length xs → x ≡ get_or xs i x → drop i xs ≡ x ∷ drop (i + 1) xs
split_at xs i x less is = rw add-one (drop-cons xs i x less ∙ ap (λ y. y ∷ drop (suc i) xs) (sym is))

pub both_marked : (w : Mention) (some others whole : List Transition) (first second third : List Bool) →
    second ≡ marked (all_by w some) first → third ≡ marked (all_by w others) second → whole ≡ some ++ others →
    third ≡ marked (all_by w whole) first
both_marked w some others whole first second third one two is =
    two ∙ ap (λ m. marked (all_by w others) m) one ∙ sym (marked_within w some others first) ∙ ap (λ ts. marked (all_by w ts) first) (sym is)

pub listed_marked : {X : Type 0} (f : X → List ℕ) (xs : List X) (i : ℕ) (x : X) (marks new done : List Bool) →
    i < length xs → x ≡ get_or xs i x → new ≡ marked (f x) marks →
    marked (flat_map f (drop i xs)) marks ≡ done → marked (flat_map f (drop (i + 1) xs)) new ≡ done
listed_marked f xs i x marks new done less is more before =
    ap (λ m. marked (flat_map f (drop (i + 1) xs)) m) more
    ∙ sym (marked_append (f x) (flat_map f (drop (i + 1) xs)) marks)
    ∙ ap (λ ys. marked (flat_map f ys) marks) (sym (split_at xs i x less is))
    ∙ before

pub piece_marked : {X : Type 0} (w : Mention) (f : X → List Transition) (xs : List X) (i : ℕ) (x : X) (marks new done : List Bool) →
    i < length xs → x ≡ get_or xs i x → new ≡ marked (all_by w (f x)) marks →
    marked (all_by w (joined (map f (drop i xs)))) marks ≡ done →
    marked (all_by w (joined (map f (drop (i + 1) xs)))) new ≡ done
piece_marked w f xs i x marks new done less is more before =
    both_marked w (f x) (joined (map f (drop (i + 1) xs))) (joined (map f (drop i xs))) marks new
    (marked (all_by w (joined (map f (drop (i + 1) xs)))) new) more refl (ap (λ ys. joined (map f ys)) (split_at xs i x less is))
    ∙ before

pub entry_marked : (w : Mention) (xs : List State) (i : ℕ) (s : State) (marks new done : List Bool) →
    i < length xs → s ≡ get_or xs i s → new ≡ marked (all_by w (when_initial (entry_of_state s))) marks →
    marked (all_by w (entered (map entry_of_state (drop i xs)))) marks ≡ done →
    marked (all_by w (entered (map entry_of_state (drop (i + 1) xs)))) new ≡ done
entry_marked w xs i s marks new done less is more before =
    both_marked w (when_initial (entry_of_state s)) (entered (map entry_of_state (drop (i + 1) xs)))
    (entered (map entry_of_state (drop i xs))) marks new
    (marked (all_by w (entered (map entry_of_state (drop (i + 1) xs)))) new) more refl
    (ap (λ ys. entered (map entry_of_state ys)) (split_at xs i s less is))
    ∙ before

pub immediate_marked : (w : Mention) (ts : List Transition) (i : ℕ) (t : Transition) (marks new done : List Bool) →
    i < length ts → t ≡ get_or ts i t → t.immediate ≡ true → new ≡ marked (by_transition w t) marks →
    marked (all_by w (at_once (drop i ts))) marks ≡ done → marked (all_by w (at_once (drop (i + 1) ts))) new ≡ done
immediate_marked w ts i t marks new done less is so more before =
    let rest : List Transition = drop (i + 1) ts in
    let split : at_once (drop i ts) ≡ t ∷ at_once rest =
    ap at_once (split_at ts i t less is) ∙ ap (λ b. cond b (t ∷ at_once rest) (at_once rest)) so in
    ap (λ m. marked (all_by w (at_once rest)) m) more
    ∙ sym (marked_append (by_transition w t) (all_by w (at_once rest)) marks)
    ∙ ap (λ us. marked (all_by w us) marks) (sym split)
    ∙ before

pub delayed_marked : (w : Mention) (ts : List Transition) (i : ℕ) (t : Transition) (marks new done : List Bool) →
    i < length ts → t ≡ get_or ts i t → t.immediate ≡ false → new ≡ marks →
    marked (all_by w (at_once (drop i ts))) marks ≡ done → marked (all_by w (at_once (drop (i + 1) ts))) new ≡ done
delayed_marked w ts i t marks new done less is so more before =
    let rest : List Transition = drop (i + 1) ts in
    let split : at_once (drop i ts) ≡ at_once rest =
    ap at_once (split_at ts i t less is) ∙ ap (λ b. cond b (t ∷ at_once rest) (at_once rest)) so in
    ap (λ m. marked (all_by w (at_once rest)) m) more ∙ ap (λ us. marked (all_by w us) marks) (sym split) ∙ before

pub target_marked : (states : List State) (i : ℕ) (s : State) (marks new done : List Bool) →
    i < length states → s ≡ get_or states i s → new ≡ marked (left_for i s) marks →
    marked (led_to i (drop i states)) marks ≡ done → marked (led_to (i + 1) (drop (i + 1) states)) new ≡ done
target_marked states i s marks new done less is more before =
    let here : led_to i (drop i states) ≡ left_for i s ++ led_to (i + 1) (drop (i + 1) states) = led_split states i s less is in
    ap (λ m. marked (led_to (i + 1) (drop (i + 1) states)) m) more
    ∙ sym (marked_append (left_for i s) (led_to (i + 1) (drop (i + 1) states)) marks)
    ∙ ap (λ xs. marked xs marks) (sym here)
    ∙ before
  where
    led_split : (states : List State) (i : ℕ) (s : State) → i < length states → s ≡ get_or states i s →
        led_to i (drop i states) ≡ left_for i s ++ led_to (i + 1) (drop (i + 1) states)
    led_split states i s less is =
        rw add-one (ap (λ xs. led_to i xs) (drop-cons states i s less ∙ ap (λ y. y ∷ drop (suc i) states) (sym is)))

-- ---- what is inside

pub region_is : (r : Region) → within_region r ≡ joined (map within_state (out-Region r).states)
region_is r = fold_out-Region (List Transition) (List Transition) region_transitions state_transitions r

pub state_is : (s : State) → within_state s ≡ joined (map within_region (out-State s).regions) ++ (out-State s).transitions
state_is s = fold_out-State (List Transition) (List Transition) region_transitions state_transitions s

pub region_entry_is : (r : Region) → entry_of_region r ≡ entered (map entry_of_state (out-Region r).states)
region_entry_is r = fold_out-Region (List Transition) Entry region_entry state_entry r

state_entry_is : (s : State) → entry_of_state s ≡
    record { is_initial = (out-State s).is_initial; transitions = at_once (out-State s).transitions ++ joined (map entry_of_region (out-State s).regions) }
state_entry_is s = fold_out-State (List Transition) Entry region_entry state_entry s

pub entry_is : (s : State) → (entry_of_state s).transitions ≡
    at_once (out-State s).transitions ++ joined (map entry_of_region (out-State s).regions)
entry_is s = ap (λ e. e.transitions) (state_entry_is s)

is_entered : (s : State) → (entry_of_state s).is_initial ≡ (out-State s).is_initial
is_entered s = ap (λ e. e.is_initial) (state_entry_is s)

when_so : (e : Entry) → e.is_initial ≡ true → when_initial e ≡ e.transitions
when_so e h = ap (λ b. if b then e.transitions else []) h

when_not : (e : Entry) → e.is_initial ≡ false → when_initial e ≡ []
when_not e h = ap (λ b. if b then e.transitions else []) h

pub initial_is_entered : (s : State) → (out-State s).is_initial ≡ true → when_initial (entry_of_state s) ≡ (entry_of_state s).transitions
initial_is_entered s h = when_so (entry_of_state s) (is_entered s ∙ h)

pub others_are_not : (s : State) → (out-State s).is_initial ≡ false → when_initial (entry_of_state s) ≡ []
others_are_not s h = when_not (entry_of_state s) (is_entered s ∙ h)
