-- Transitions that are made of those of the text.
use Rattle.std.proofs.Common.{◌≡◌, ℕ, suc, ◌<◌, Bool, true, false, cond, ◌&&◌, Option, Some, None, List, [], ◌∷◌, ◌++◌, map, length, slice_get}
use Rattle.std.proofs.Common.{if◌then◌else◌, refl, sym, ap, subst, ◌∙◌}
use Rattle.std.specs.Prelude.{filter, unwrap_or}
use Rattle.std.specs.List.{list_any}
use Rattle.std.proofs.lemmas.Bool.{or_parts}
use Rattle.std.proofs.lemmas.List.{append-nil}
use Rattle.sc_values.specs.declared.expression.Expr.{Expr}
use Rattle.core_charts.specs.declared.region.Effect.{Effect}
use Rattle.core_charts.specs.declared.region.Transition.{Transition}
use Rattle.core_charts.specs.Tests.{at_once, is_strong, strong_aborts}
use Rattle.core_charts.specs.declared.elements.element.Element.{Element}
use Rattle.core_charts.specs.declared.elements.element.Element.TheVariants as element
use Rattle.core_charts.specs.declared.elements.numbers.ElementNumbers.{ElementNumbers}
use Rattle.core_charts.specs.Elements.{Contents, all_effects}
use Rattle.core_charts.specs.Numbers.{behind_transition, effects}
use Rattle.abort_expansion.specs.declared.places.RegionPlaces.{RegionPlaces}
use Rattle.abort_expansion.specs.Flags.{given, is_there}
use Rattle.abort_expansion.specs.Transitions.{answers, count_down, counting, go, is_number, led, led_by, on, put, raising}
use Rattle.node_elements.specs.declared.expansion.origins.Origins.{Origins}
use Rattle.node_elements.specs.declared.expansion.around.Sort.{Sort}
use Rattle.node_elements.specs.declared.expansion.transitions.Choice.{Choice}
use Rattle.node_elements.specs.declared.expansion.transitions.Choice.TheVariants as choice
use Rattle.node_elements.specs.declared.expansion.transitions.Ends.{Ends}
use Rattle.node_elements.specs.ExpansionOrigins.{beside, chosen, is_chosen, is_of, nothing, raised, taken}
use Rattle.node_elements.specs.ExpansionLaws.{EffectFrom}
use Rattle.core_charts.proofs.Standing.{At, Owned, below, owned_effects, owned_others}
use Rattle.node_elements.proofs.Coming.{Comes, Pairs, both_come, moves, none, none_comes, pairs_append}

-- ---- one that does as one of the text does

-- a region ends in the same states, and is counted or not
pub record EndAlike (to : RegionPlaces) (ends : Ends) : Type 0 where
  pub finals : to.finals ≡ ends.finals
  pub counts : is_there to.counter ≡ ends.counts

effects_come : (all : Contents) (own : List Effect) (n : ℕ) → At (all_effects all.transitions) n own → Pairs (EffectFrom all) (effects own n) own
effects_come all [] n h = tt
effects_come all (e ∷ own) n h = (h.0, effects_come all own (suc n) h.1)

abbrev counted_by : Bool → Bool → ℕ → List Element
counted_by counts final n = if counts && final then element.Transition n ∷ [] else []

counting_come : (all : Contents) (own : List Effect) (m n : ℕ) → At (all_effects all.transitions) m own → n < length all.transitions →
    (final : Bool) (counter : Option ℕ) (counts : Bool) → is_there counter ≡ counts →
    Pairs (EffectFrom all) (effects own m ++ counted_by counts final n) (if final then own ++ on counter count_down else own)
counting_come all own m n h small true (Some x) true e =
    pairs_append (EffectFrom all) (effects own m) (element.Transition n ∷ []) own (count_down x ∷ []) (effects_come all own m h) (small, tt)
counting_come all own m n h small true (Some x) false e = absurd cc
counting_come all own m n h small true None true e = absurd cc
counting_come all own m n h small true None false e =
    pairs_append (EffectFrom all) (effects own m) [] own [] (effects_come all own m h) tt
counting_come all own m n h small false counter true e =
    subst (λ os. Pairs (EffectFrom all) os own) (sym (append-nil (effects own m))) (effects_come all own m h)
counting_come all own m n h small false counter false e =
    subst (λ os. Pairs (EffectFrom all) os own) (sym (append-nil (effects own m))) (effects_come all own m h)

pub taken_comes : (all : Contents) (to : RegionPlaces) (ends : Ends) (x t : Transition) (at : ElementNumbers) → EndAlike to ends →
    x.effects ≡ counting to t.target t.effects → slice_get all.transitions at.transition ≡ Some t →
    At (all_effects all.transitions) at.effect t.effects → Comes all (moves (x ∷ [])) (taken ends t at)
taken_comes all to ends x t at alike is there h =
    let small : at.transition < length all.transitions = below all.transitions at.transition t there in
    let final : Bool = unwrap_or (slice_get ends.finals t.target) false in
    let mine : List Element = effects t.effects at.effect ++ counted_by ends.counts final at.transition in
    let come : Pairs (EffectFrom all) mine (if final then t.effects ++ on to.counter count_down else t.effects) =
    counting_come all t.effects at.effect at.transition h small final to.counter ends.counts alike.counts in
    let told : Pairs (EffectFrom all) mine (counting to t.target t.effects) =
    subst (λ fs. Pairs (EffectFrom all) mine (if unwrap_or (slice_get fs t.target) false then t.effects ++ on to.counter count_down else t.effects))
    (sym alike.finals) come in
    record {
      regions = tt;
      states = tt;
      transitions = (small, tt);
      effects =
          subst (Pairs (EffectFrom all) mine) (sym (append-nil x.effects)) (subst (Pairs (EffectFrom all) mine) (sym is) told);
      stands = refl;
    }

raised_comes : (all : Contents) (immediate : Bool) (trigger : Option Expr) (x i left : ℕ) (t : Transition) (at : ElementNumbers) →
    slice_get all.transitions at.transition ≡ Some t → Comes all (moves (go immediate trigger (put x i ∷ []) left ∷ [])) (raised at)
raised_comes all immediate trigger x i left t at there =
    let small : at.transition < length all.transitions = below all.transitions at.transition t there in
    record { regions = tt; states = tt; transitions = (small, tt); effects = (small, tt); stands = refl }

-- ---- chosen ones

-- what is made of transitions one by one, numbered from i on
pub record OneByOne (g : ℕ → List Transition → List Transition) (f : ℕ → Transition → Transition) : Type 0 where
  pub ended : (i : ℕ) → g i [] ≡ []
  pub goes_on : (i : ℕ) (t : Transition) (own : List Transition) → g i (t ∷ own) ≡ f i t ∷ g (suc i) own

-- each comes from its own
abbrev pub EachComes : Contents → (ℕ → Transition → Transition) → (Transition → ElementNumbers → Origins) → Type 0
EachComes all f made =
    (i : ℕ) (t : Transition) (at : ElementNumbers) → slice_get all.transitions at.transition ≡ Some t →
    At (all_effects all.transitions) at.effect t.effects → Comes all (moves (f i t ∷ [])) (made t at)

chosen_come : (all : Contents) (c : Choice) (made : Transition → ElementNumbers → Origins) (g : ℕ → List Transition → List Transition)
    (f : ℕ → Transition → Transition) → OneByOne g f → EachComes all f made → (own : List Transition) (i : ℕ) (at : ElementNumbers) → Owned all at own →
    Comes all (moves (g i (filter (is_chosen c) own))) (chosen c made own at)
chosen_come all c made g f one each [] i at h = subst (λ ts. Comes all (moves ts) nothing) (sym (one.ended i)) (none_comes all)
chosen_come all c made g f one each (t ∷ own) i at h =
    by (is_chosen c t) (λ j. chosen_come all c made g f one each own j (behind_transition t at) (owned_others all at t own h))
  where
    rest : List Transition
    rest = filter (is_chosen c) own

    behind : Origins
    behind = chosen c made own (behind_transition t at)

    by : (b : Bool) → ((j : ℕ) → Comes all (moves (g j rest)) behind) →
        Comes all (moves (g i (cond b (t ∷ rest) rest))) (beside (if b then made t at else nothing) behind)
    by true later =
        subst (λ ts. Comes all (moves ts) (beside (made t at) behind)) (sym (one.goes_on i t rest))
        (both_come all (moves (f i t ∷ [])) (moves (g (suc i) rest)) (made t at) behind
        (each i t at h.transitions.0 (owned_effects all at t own h)) (later (suc i)))
    by false later = both_come all none (moves (g i rest)) nothing behind (none_comes all) (later i)

-- none of a choice that chooses nothing
none_chosen : (all : Contents) (c : Choice) (made : Transition → ElementNumbers → Origins) (own : List Transition) (at : ElementNumbers) →
    list_any (is_chosen c) own ≡ false → Comes all (moves []) (chosen c made own at)
none_chosen all c made [] at h = none_comes all
none_chosen all c made (t ∷ own) at h =
    let both : (is_chosen c t ≡ false) × (list_any (is_chosen c) own ≡ false) = or_parts (is_chosen c t) (list_any (is_chosen c) own) h in
    by (is_chosen c t) both.0 (none_chosen all c made own (behind_transition t at) both.1)
  where
    by : (b : Bool) → b ≡ false → Comes all (moves []) (chosen c made own (behind_transition t at)) →
        Comes all (moves []) (beside (if b then made t at else nothing) (chosen c made own (behind_transition t at)))
    by true e later = absurd cc
    by false e later = later

all_chosen : (own : List Transition) → filter (is_chosen choice.All) own ≡ own
all_chosen [] = refl
all_chosen (t ∷ own) = ap (λ ts. t ∷ ts) (all_chosen own)

front_at_once : (strong : Bool) (t : Transition) (own : List Transition) →
    at_once (cond strong (t ∷ own) own) ≡ cond strong (cond t.immediate (t ∷ at_once own) (at_once own)) (at_once own)
front_at_once true t own = refl
front_at_once false t own = refl

entry_chosen : (own : List Transition) → filter (is_chosen choice.AtEntry) own ≡ at_once (strong_aborts own)
entry_chosen [] = refl
entry_chosen (t ∷ own) =
    by (is_strong t.kind) t.immediate (filter (is_chosen choice.AtEntry) own) (at_once (strong_aborts own)) (entry_chosen own)
    ∙ sym (front_at_once (is_strong t.kind) t (strong_aborts own))
  where
    by : (strong immediate : Bool) (a b : List Transition) → a ≡ b →
        cond (strong && immediate) (t ∷ a) a ≡ cond strong (cond immediate (t ∷ b) b) b
    by true true a b e = ap (λ ts. t ∷ ts) e
    by true false a b e = e
    by false immediate a b e = e

-- transitions as they stand
pub led_come : (all : Contents) (to : RegionPlaces) (ends : Ends) (own : List Transition) (at : ElementNumbers) → EndAlike to ends → Owned all at own →
    Comes all (moves (map (led to) own)) (chosen choice.All (taken ends) own at)
led_come all to ends own at alike h =
    subst (λ ts. Comes all (moves (map (led to) ts)) (chosen choice.All (taken ends) own at)) (all_chosen own)
    (chosen_come all choice.All (taken ends) (λ i ts. map (led to) ts) (λ i t. led to t)
    (record { ended = λ i. refl; goes_on = λ i t ts. refl })
    (λ i t here there k. taken_comes all to ends (led to t) t here alike refl there k) own 0 at h)

-- those at entry
pub entry_come : (all : Contents) (to : RegionPlaces) (ends : Ends) (own : List Transition) (at : ElementNumbers) → EndAlike to ends → Owned all at own →
    Comes all (moves (map (λ t. led_by to t.trigger t) (at_once (strong_aborts own)))) (chosen choice.AtEntry (taken ends) own at)
entry_come all to ends own at alike h =
    subst (λ ts. Comes all (moves (map (λ t. led_by to t.trigger t) ts)) (chosen choice.AtEntry (taken ends) own at)) (entry_chosen own)
    (chosen_come all choice.AtEntry (taken ends) (λ i ts. map (λ t. led_by to t.trigger t) ts) (λ i t. led_by to t.trigger t)
    (record { ended = λ i. refl; goes_on = λ i t ts. refl })
    (λ i t here there k. taken_comes all to ends (led_by to t.trigger t) t here alike refl there k) own 0 at h)

-- the answers to aborts of a sort
pub answers_come : (all : Contents) (to : RegionPlaces) (ends : Ends) (s : Sort) (x i : ℕ) (own : List Transition) (at : ElementNumbers) → EndAlike to ends →
    Owned all at own → Comes all (moves (answers to (given (list_any (λ t. is_of s t.kind) own) x) i (filter (λ t. is_of s t.kind) own)))
    (chosen (choice.Of s) (taken ends) own at)
answers_come all to ends s x i own at alike h = by (list_any (λ t. is_of s t.kind) own) refl
  where
    by : (b : Bool) → list_any (λ t. is_of s t.kind) own ≡ b →
        Comes all (moves (answers to (given b x) i (filter (λ t. is_of s t.kind) own))) (chosen (choice.Of s) (taken ends) own at)
    by true e =
        chosen_come all (choice.Of s) (taken ends) (answers to (Some x)) (λ i t. led_by to (Some (is_number x i)) t)
        (record { ended = λ i. refl; goes_on = λ i t ts. refl })
        (λ i t here there k. taken_comes all to ends (led_by to (Some (is_number x i)) t) t here alike refl there k) own i at h
    by false e = none_chosen all (choice.Of s) (taken ends) own at e

-- what raises their flags
pub raising_come : (all : Contents) (immediate : Transition → Bool) (left : ℕ) (s : Sort) (x i : ℕ) (own : List Transition) (at : ElementNumbers) →
    Owned all at own →
    Comes all (moves (raising immediate left (given (list_any (λ t. is_of s t.kind) own) x) i (filter (λ t. is_of s t.kind) own)))
    (chosen (choice.Of s) (λ t. raised) own at)
raising_come all immediate left s x i own at h = by (list_any (λ t. is_of s t.kind) own) refl
  where
    by : (b : Bool) → list_any (λ t. is_of s t.kind) own ≡ b →
        Comes all (moves (raising immediate left (given b x) i (filter (λ t. is_of s t.kind) own))) (chosen (choice.Of s) (λ t. raised) own at)
    by true e =
        chosen_come all (choice.Of s) (λ t. raised) (raising immediate left (Some x)) (λ i t. go (immediate t) t.trigger (put x i ∷ []) left)
        (record { ended = λ i. refl; goes_on = λ i t ts. refl })
        (λ i t here there k. raised_comes all (immediate t) t.trigger x i left t here there) own i at h
    by false e = none_chosen all (choice.Of s) (λ t. raised) own at e
