-- The flags of a superstate: who owns them, and where they are declared.
use Rattle.std.proofs.Common.{◌≡◌, ℕ, suc, ◌+◌, inl, inr, Bool, true, false, ◌||◌, Option, Some, None, List, [], ◌∷◌, ◌++◌, length, slice_get}
use Rattle.std.proofs.Common.{refl, ap, subst, ◌∙◌, arith}
use Rattle.std.specs.List.{list_any}
use Rattle.std.proofs.lemmas.List.{length-append}
use Rattle.std.proofs.lemmas.Option.{same_Some}
use Rattle.sc_graph.specs.declared.program.Variable.{Variable}
use Rattle.core_charts.specs.declared.region.Transition.{Transition}
use Rattle.scl_graph_laws.proofs.Segments.{StandAt, stand_from, stand_first, stand_second}
use Rattle.abort_expansion.specs.declared.flags.Flags.{Flags}
use Rattle.abort_expansion.specs.Flags.{counts, one, given, flag_count, flags_of, local, declared, declarations, is_there}
use Rattle.core_charts.specs.Aborts.{has_strong, has_weak}
use Rattle.abort_expansion.specs.Flags.{strong_flag_name, weak_flag_name, counter_name}
use Rattle.abort_expansion.proofs.Added.{declared_size}
use Rattle.abort_expansion_laws.proofs.Walked.{ValuesAt, values_from, values_first, values_second, Range, range_none, range_more, IsFlag}

-- a superstate for each of its flags
abbrev own_one : Option ℕ → ℕ → List ℕ
own_one (Some x) s = s ∷ []
own_one None s = []

abbrev pub flag_owners : Flags → ℕ → List ℕ
flag_owners f s = own_one f.strong s ++ own_one f.weak s ++ own_one f.counter s

own_long : (a : Bool) (x s : ℕ) → length (own_one (given a x) s) ≡ one a
own_long true x s = refl
own_long false x s = refl

pub owners_long : (weak : Bool) (all : List Transition) (x s : ℕ) → length (flag_owners (flags_of weak all x) s) ≡ flag_count weak all
owners_long weak all x s =
    let f : Flags = flags_of weak all x in
    omega (
      arith,
      length-append (own_one f.strong s ++ own_one f.weak s) (own_one f.counter s),
      length-append (own_one f.strong s) (own_one f.weak s),
      own_long (has_strong all) x s,
      own_long (has_weak all) (x + one (has_strong all)) s,
      own_long (counts weak all) (x + one (has_strong all) + one (has_weak all)) s,
    )

pub declarations_long : (weak : Bool) (all : List Transition) (x s : ℕ) → length (declarations s (flags_of weak all x)) ≡ flag_count weak all
declarations_long weak all x s =
    let f : Flags = flags_of weak all x in
    omega (
      arith,
      length-append (declared f.strong (strong_flag_name s) ++ declared f.weak (weak_flag_name s)) (declared f.counter (counter_name s)),
      length-append (declared f.strong (strong_flag_name s)) (declared f.weak (weak_flag_name s)),
      declared_size (has_strong all) x (strong_flag_name s),
      declared_size (has_weak all) (x + one (has_strong all)) (weak_flag_name s),
      declared_size (counts weak all) (x + one (has_strong all) + one (has_weak all)) (counter_name s),
    )

-- ---- where they stand

one_owned : (g : ℕ → ℕ) (a : Bool) (x s y : ℕ) → ValuesAt g x (own_one (given a x) s) → given a x ≡ Some y → g y ≡ s
one_owned g true x s y h e = subst (λ z. g z ≡ s) (same_Some x y e) h.0
one_owned g false x s y h e = absurd cc

one_declared : (vs : List Variable) (a : Bool) (x y : ℕ) (name : List ℕ) → StandAt vs x (declared (given a x) name) → given a x ≡ Some y →
    (n : List ℕ) × (slice_get vs y ≡ Some (local n))
one_declared vs true x y name h e = (name, subst (λ z. slice_get vs z ≡ Some (local name)) (same_Some x y e) h.0)
one_declared vs false x y name h e = absurd cc

module _ (weak : Bool) (all : List Transition) (x s : ℕ) where
  abbrev f : Flags
  f = flags_of weak all x

  pub flags_owned : (g : ℕ → ℕ) → ValuesAt g x (flag_owners f s) → (y : ℕ) → IsFlag f y → g y ≡ s
  flags_owned g h y (inl e) =
      one_owned g (has_strong all) x s y
      (values_first g x (own_one f.strong s) (own_one f.weak s) (values_first g x (own_one f.strong s ++ own_one f.weak s) (own_one f.counter s) h)) e
  flags_owned g h y (inr (inl e)) =
      one_owned g (has_weak all) (x + one (has_strong all)) s y
      (values_from g (x + length (own_one f.strong s)) (x + one (has_strong all)) (own_one f.weak s) (omega (arith, own_long (has_strong all) x s))
      (values_second g x (own_one f.strong s) (own_one f.weak s) (values_first g x (own_one f.strong s ++ own_one f.weak s) (own_one f.counter s) h))) e
  flags_owned g h y (inr (inr e)) =
      one_owned g (counts weak all) (x + one (has_strong all) + one (has_weak all)) s y
      (values_from g (x + length (own_one f.strong s ++ own_one f.weak s)) (x + one (has_strong all) + one (has_weak all)) (own_one f.counter s)
      (omega (
        arith,
        length-append (own_one f.strong s) (own_one f.weak s),
        own_long (has_strong all) x s,
        own_long (has_weak all) (x + one (has_strong all)) s,
      )) (values_second g x (own_one f.strong s ++ own_one f.weak s) (own_one f.counter s) h)) e

  pub flags_declared : (vs : List Variable) (n : ℕ) → StandAt vs x (declarations n f) → (y : ℕ) → IsFlag f y →
      (name : List ℕ) × (slice_get vs y ≡ Some (local name))
  flags_declared vs n h y (inl e) =
      one_declared vs (has_strong all) x y (strong_flag_name n)
      (stand_first vs x (declared f.strong (strong_flag_name n)) (declared f.weak (weak_flag_name n))
      (stand_first vs x (declared f.strong (strong_flag_name n) ++ declared f.weak (weak_flag_name n)) (declared f.counter (counter_name n)) h)) e
  flags_declared vs n h y (inr (inl e)) =
      one_declared vs (has_weak all) (x + one (has_strong all)) y (weak_flag_name n)
      (stand_from vs (x + length (declared f.strong (strong_flag_name n))) (x + one (has_strong all)) (declared f.weak (weak_flag_name n))
      (omega (arith, declared_size (has_strong all) x (strong_flag_name n)))
      (stand_second vs x (declared f.strong (strong_flag_name n)) (declared f.weak (weak_flag_name n))
      (stand_first vs x (declared f.strong (strong_flag_name n) ++ declared f.weak (weak_flag_name n)) (declared f.counter (counter_name n)) h))) e
  flags_declared vs n h y (inr (inr e)) =
      one_declared vs (counts weak all) (x + one (has_strong all) + one (has_weak all)) y (counter_name n)
      (stand_from vs (x + length (declared f.strong (strong_flag_name n) ++ declared f.weak (weak_flag_name n)))
      (x + one (has_strong all) + one (has_weak all)) (declared f.counter (counter_name n))
      (omega (
        arith,
        length-append (declared f.strong (strong_flag_name n)) (declared f.weak (weak_flag_name n)),
        declared_size (has_strong all) x (strong_flag_name n),
        declared_size (has_weak all) (x + one (has_strong all)) (weak_flag_name n),
      ))
      (stand_second vs x (declared f.strong (strong_flag_name n) ++ declared f.weak (weak_flag_name n)) (declared f.counter (counter_name n)) h)) e

-- each of some numbers is owned by this superstate
abbrev All : ℕ → List ℕ → Type 0
All s [] = Unit {0}
All s (x ∷ xs) = (x ≡ s) × All s xs

all_append : (s : ℕ) (xs ys : List ℕ) → All s xs → All s ys → All s (xs ++ ys)
all_append s [] ys h more = more
all_append s (x ∷ xs) ys h more = (h.0, all_append s xs ys h.1 more)

all_one : (o : Option ℕ) (s : ℕ) → All s (own_one o s)
all_one (Some x) s = (refl, tt)
all_one None s = tt

range_owned : (g : ℕ → ℕ) (s n m : ℕ) (xs : List ℕ) → m ≡ n + length xs → ValuesAt g n xs → All s xs → Range (λ x. g x ≡ s) n m
range_owned g s n m [] e h all = range_none (λ x. g x ≡ s) n m (omega (e, arith))
range_owned g s n m (x ∷ xs) e h all =
    range_more (λ z. g z ≡ s) n m (h.0 ∙ all.0) (range_owned g s (suc n) m xs (omega (e, arith)) h.1 all.1)

pub owners_range : (g : ℕ → ℕ) (f : Flags) (s n m : ℕ) → m ≡ n + length (flag_owners f s) → ValuesAt g n (flag_owners f s) → Range (λ x. g x ≡ s) n m
owners_range g f s n m e h =
    range_owned g s n m (flag_owners f s) e h
    (all_append s (own_one f.strong s ++ own_one f.weak s) (own_one f.counter s)
    (all_append s (own_one f.strong s) (own_one f.weak s) (all_one f.strong s) (all_one f.weak s)) (all_one f.counter s))

-- ---- whether weak aborts are around what is inside

any_append : (P : Flags → Bool) (xs : List Flags) (x : Flags) → list_any P (xs ++ x ∷ []) ≡ (list_any P xs || P x)
any_append P [] x = or_none (P x)
  where
    or_none : (b : Bool) → (b || false) ≡ (false || b)
    or_none true = refl
    or_none false = refl
any_append P (y ∷ xs) x = ap (λ b. P y || b) (any_append P xs x) ∙ or_assoc (P y) (list_any P xs) (P x)
  where
    or_assoc : (a b c : Bool) → (a || (b || c)) ≡ ((a || b) || c)
    or_assoc true b c = refl
    or_assoc false b c = refl

given_there : (b : Bool) (x : ℕ) → is_there (given b x) ≡ b
given_there true x = refl
given_there false x = refl
