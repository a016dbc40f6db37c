-- What is made, and the origins from which it comes.
use Rattle.std.proofs.Common.{◌≡◌, ℕ, zero, suc, Option, Some, List, [], ◌∷◌, ◌++◌, map, length, slice_get, refl, sym, ap, subst, ◌∙◌, append_assoc}
use Rattle.std.proofs.lemmas.List.{map-append}
use Rattle.core_charts.specs.declared.region.Transition.{Transition}
use Rattle.core_charts.specs.declared.elements.element.Element.{Element}
use Rattle.core_charts.specs.Elements.{Contents, Names, all_effects}
use Rattle.node_elements.specs.declared.expansion.origins.Origins.{Origins}
use Rattle.node_elements.specs.ExpansionOrigins.{beside, nothing}
use Rattle.node_elements.specs.ExpansionLaws.{EffectFrom, RegionFrom, StateFrom, Tells, TransitionFrom, state_of}
use Rattle.core_charts.proofs.Standing.{effects_append}

-- ---- rows of pairs

abbrev pub Pairs : {A : Type 0} → (Element → A → Type 0) → List Element → List A → Type 0
Pairs From [] [] = Unit {0}
Pairs From (o ∷ os) (x ∷ xs) = From o x × Pairs From os xs
Pairs From os xs = ⊥

pub pairs_append : {A : Type 0} (From : Element → A → Type 0) (os ps : List Element) (xs ys : List A) → Pairs From os xs → Pairs From ps ys →
    Pairs From (os ++ ps) (xs ++ ys)
pairs_append From [] ps [] ys h k = k
pairs_append From [] ps (x ∷ xs) ys h k = absurd h
pairs_append From (o ∷ os) ps [] ys h k = absurd h
pairs_append From (o ∷ os) ps (x ∷ xs) ys h k = (h.0, pairs_append From os ps xs ys h.1 k)

pairs_length : {A : Type 0} (From : Element → A → Type 0) (os : List Element) (xs : List A) → Pairs From os xs → length os ≡ length xs
pairs_length From [] [] h = refl
pairs_length From [] (x ∷ xs) h = absurd h
pairs_length From (o ∷ os) [] h = absurd h
pairs_length From (o ∷ os) (x ∷ xs) h = ap suc (pairs_length From os xs h.1)

pairs_at : {A : Type 0} (From : Element → A → Type 0) (os : List Element) (xs : List A) → Pairs From os xs →
    (k : ℕ) (o : Element) (x : A) → slice_get os k ≡ Some o → slice_get xs k ≡ Some x → From o x
pairs_at From [] xs h k o x i j = absurd cc
pairs_at From (p ∷ os) [] h k o x i j = absurd h
pairs_at From (p ∷ os) (y ∷ xs) h zero o x i j = subst (λ o. From o x) (some i) (subst (λ x. From p x) (some j) h.0)
  where
    some : {B : Type 0} {a b : B} → Some a ≡ Some b → a ≡ b
    some e = cc
pairs_at From (p ∷ os) (y ∷ xs) h (suc k) o x i j = pairs_at From os xs h.1 k o x i j

pub pairs_tell : {A : Type 0} (From : Element → A → Type 0) (os : List Element) (xs : List A) → Pairs From os xs → Tells From os xs
pairs_tell From os xs h = record { each = pairs_length From os xs h; comes = pairs_at From os xs h }

-- ---- lists one behind the other

pub three : {A : Type 0} (a b c : List A) → a ++ b ++ c ≡ a ++ (b ++ c)
three a b c = append_assoc a b c

pub four : {A : Type 0} (a b c d : List A) → a ++ b ++ c ++ d ≡ a ++ (b ++ (c ++ d))
four a b c d = append_assoc (a ++ b) c d ∙ append_assoc a b (c ++ d)

pub five : {A : Type 0} (a b c d e : List A) → a ++ b ++ c ++ d ++ e ≡ a ++ (b ++ (c ++ (d ++ e)))
five a b c d e = append_assoc (a ++ b ++ c) d e ∙ four a b c (d ++ e)

-- ---- what is made

-- regions and states by their names, transitions, and the states of the chart for which the states stand
pub record Made : Type 0 where
  pub regions : Names
  pub states : Names
  pub transitions : List Transition
  pub stands : List (Option ℕ)

abbrev pub joined : Made → Made → Made
joined a b =
    record {
      regions = a.regions ++ b.regions;
      states = a.states ++ b.states;
      transitions = a.transitions ++ b.transitions;
      stands = a.stands ++ b.stands;
    }

abbrev pub none : Made
none = record { regions = []; states = []; transitions = []; stands = [] }

abbrev pub moves : List Transition → Made
moves own = record { regions = []; states = []; transitions = own; stands = [] }

abbrev pub one_state : List ℕ → Option ℕ → Made
one_state name stands = record { regions = []; states = name ∷ []; transitions = []; stands = stands ∷ [] }

abbrev pub one_region : List ℕ → Made
one_region name = record { regions = name ∷ []; states = []; transitions = []; stands = [] }

pub record Comes (all : Contents) (made : Made) (origins : Origins) : Type 0 where
  pub regions : Pairs (RegionFrom all) origins.regions made.regions
  pub states : Pairs (StateFrom all) origins.states made.states
  pub transitions : Pairs (TransitionFrom all) origins.transitions made.transitions
  pub effects : Pairs (EffectFrom all) origins.effects (all_effects made.transitions)
  pub stands : made.stands ≡ map state_of origins.states

pub none_comes : (all : Contents) → Comes all none nothing
none_comes all = record { regions = tt; states = tt; transitions = tt; effects = tt; stands = refl }

pub both_come : (all : Contents) (a b : Made) (x y : Origins) → Comes all a x → Comes all b y → Comes all (joined a b) (beside x y)
both_come all a b x y h k = record {
  regions = pairs_append (RegionFrom all) x.regions y.regions a.regions b.regions h.regions k.regions;
  states = pairs_append (StateFrom all) x.states y.states a.states b.states h.states k.states;
  transitions = pairs_append (TransitionFrom all) x.transitions y.transitions a.transitions b.transitions h.transitions k.transitions;
  effects =
      subst (Pairs (EffectFrom all) (x.effects ++ y.effects)) (sym (effects_append a.transitions b.transitions))
      (pairs_append (EffectFrom all) x.effects y.effects (all_effects a.transitions) (all_effects b.transitions) h.effects k.effects);
  stands =
      ap (λ ss. ss ++ b.stands) h.stands ∙ ap (λ ss. map state_of x.states ++ ss) k.stands ∙ sym (map-append state_of x.states y.states);
}

pub moves_as : (all : Contents) (a b : List Transition) (x : Origins) → a ≡ b → Comes all (moves b) x → Comes all (moves a) x
moves_as all a b x same h = subst (λ ts. Comes all (moves ts) x) (sym same) h

-- the same, told otherwise
pub comes_as : (all : Contents) (a b : Made) (x : Origins) → a.regions ≡ b.regions → a.states ≡ b.states → a.transitions ≡ b.transitions →
    a.stands ≡ b.stands → Comes all a x → Comes all b x
comes_as all a b x regions states transitions stands h = record {
  regions = subst (Pairs (RegionFrom all) x.regions) regions h.regions;
  states = subst (Pairs (StateFrom all) x.states) states h.states;
  transitions = subst (Pairs (TransitionFrom all) x.transitions) transitions h.transitions;
  effects = subst (λ ts. Pairs (EffectFrom all) x.effects (all_effects ts)) transitions h.effects;
  stands = sym stands ∙ h.stands;
}
