-- Lists of the nodes that use each variable, as they grow.
use Rattle.std.proofs.Common.{ℕ, zero, suc, add-one, ◌≡◌, ◌≢◌, ◌∙◌, ◌<◌, ◌≤◌, ◌+◌, ◌⊎◌, inl, inr, Some, Result, Ok, Err, List, [], ◌∷◌, ◌++◌, length, map}
use Rattle.std.proofs.Common.{get_or, drop, drop-cons, refl, sym, ◌∙◌, ap, subst, arith}
use Rattle.std.specs.Prelude.{Contains, ◌↔◌}
use Rattle.std.specs.Result.{OnOk}
use Rattle.std.proofs.Math.ListN.{drop_of_length-le, set}
use Rattle.std.proofs.Math.Seq.{lt-length-set}
use Rattle.std.proofs.lemmas.List.{get_or-map, get_or-set_same, length-map, length-set}
use Rattle.std.proofs.lemmas.List.Elements.{Contains-append_right, Contains-append_cases}
use Rattle.sc_values.specs.declared.operator.Combination.{Combination}
use Rattle.sc_values.specs.declared.operation.Operation.{Operation}
use Rattle.sc_values.specs.declared.operation.Operation.TheVariants as op
use Rattle.sc_values.specs.Access.{Access, Init, Update, Inits, Updates, Reads}
use Rattle.sc_values.specs.Code.{loads, loaded, literal_of}
use Rattle.sc_graph.specs.declared.program.Step.{Step}
use Rattle.sc_graph.specs.declared.program.Step.TheVariants as step
use Rattle.sc_graph.specs.Accesses.{access_of}
use Rattle.sc_graph.specs.Program.{Program, step_at}
use Rattle.program_edges.specs.Users.{InitsAt, UpdatesAt, ReadsAt, ListsEach, IsUnused, Gains}
use Rattle.program_edges.proofs.Within.{access_there}
use Rattle.program_edges.proofs.Listing.{ListsBelow, lists_all, single, split}

-- the lists have exactly the nodes below a bound that use each variable
pub record ListsUpTo (count : ℕ) (Uses : ℕ → ℕ → Type 0) (lists : List (List ℕ)) (bound : ℕ) : Type 0 where
  pub long : length lists ≡ count
  pub each : (x : ℕ) → x < count → ListsBelow (get_or lists x []) (Uses x) bound

pub lists_start : (count : ℕ) (Uses : ℕ → ℕ → Type 0) (lists : List (List ℕ)) → IsUnused count lists → ListsUpTo count Uses lists 0
lists_start count Uses lists u = record {
  long = u.long;
  each = λ x lt. record { each = λ n below h. absurd (omega (arith, below)); only = λ n c. absurd (u.unused x n c) };
}

pub lists_gain : (count : ℕ) (Uses : ℕ → ℕ → Type 0) (old new : List (List ℕ)) (n : ℕ) → ListsUpTo count Uses old n → Gains old new n (λ x. Uses x n)
    → ListsUpTo count Uses new (n + 1)
lists_gain count Uses old new n l g = record {
  long = g.count ∙ l.long;
  each = λ x lt. record {
    each = λ m below used. elim (split m n below) [
      | inl less ↦ g.keeps x m ((l.each x lt).each m less used)
      | inr same ↦ (let P : ℕ → Type 0 = λ k. Contains (get_or new x []) k in let U : ℕ → Type 0 = Uses x in
          let within : x < length old = (let e = l.long in omega (arith, lt, e)) in
          subst P (sym same) (g.gains x within (subst U same used)))
    ];
    only = λ m c. elim (g.only x m c) [
      | inl before ↦ (l.each x lt).only m before
      | inr is ↦ (let U : ℕ → Type 0 = Uses x in subst U (sym is.0) is.1)
    ];
  };
}

pub lists_end : (count : ℕ) (Uses : ℕ → ℕ → Type 0) (lists : List (List ℕ)) (bound : ℕ) → ListsUpTo count Uses lists bound → ((x n : ℕ) → Uses x n → n < bound)
    → ListsEach count Uses lists
lists_end count Uses lists bound l h = record { each = λ x lt. lists_all (get_or lists x []) (Uses x) bound (l.each x lt) (h x) }

pub gains_nothing : (lists : List (List ℕ)) (n : ℕ) (Uses : ℕ → Type 0) → ((x : ℕ) → ¬ Uses x) → Gains lists lists n Uses
gains_nothing lists n Uses none = record {
  count = refl;
  keeps = λ x m c. c;
  gains = λ x lt used. absurd (none x used);
  only = λ x m c. inl c;
}

pub gains_same : (old new : List (List ℕ)) (n : ℕ) (S T : ℕ → Type 0) → ((x : ℕ) → S x ↔ T x) → Gains old new n S → Gains old new n T
gains_same old new n S T e g = record {
  count = g.count;
  keeps = g.keeps;
  gains = λ x lt used. g.gains x lt ((e x).1 used);
  only = λ x m c. elim (g.only x m c) [
    | inl before ↦ inl before
    | inr is ↦ inr (is.0, (e x).0 is.1)
  ];
}

pub gains_more : (a b c : List (List ℕ)) (n : ℕ) (S T U : ℕ → Type 0) → ((x : ℕ) → U x → S x ⊎ T x) → ((x : ℕ) → S x → U x) → ((x : ℕ) → T x → U x)
    → Gains a b n S → Gains b c n T → Gains a c n U
gains_more a b c n S T U cases left right g h = record {
  count = h.count ∙ g.count;
  keeps = λ x m i. h.keeps x m (g.keeps x m i);
  gains = λ x lt used. elim (cases x used) [
    | inl s ↦ h.keeps x n (g.gains x lt s)
    | inr t ↦ h.gains x (let e = g.count in omega (arith, lt, e)) t
  ];
  only = λ x m i. elim (h.only x m i) [
    | inl before ↦ elim (g.only x m before) [
      | inl first ↦ inl first
      | inr is ↦ inr (is.0, left x is.1)
    ]
    | inr is ↦ inr (is.0, right x is.1)
  ];
}

pub on_ok : {T E : Type 0} (r : Result T E) (P Q : Type 0) → (P → Q) → OnOk r P → OnOk r Q
on_ok (Ok v) P Q f h = f h
on_ok (Err e) P Q f h = h

pub gains_init : (p : Program) (old new : List (List ℕ)) (n x next : ℕ) (code : List Operation) → step_at p n ≡ Some (step.Assign x code next) →
    Gains old new n (λ y. y ≡ x) → Gains old new n (λ y. InitsAt p y n)
gains_init p old new n x next code e g =
    let P : Access → Type 0 = λ a. Gains old new n (Inits a) in
    let S : ℕ → Type 0 = λ y. y ≡ x in
    let T : ℕ → Type 0 = Inits (access_of (step.Assign x code next)) in
    let same : (y : ℕ) → S y ↔ T y = λ y. (λ is. (literal_of code, ap (λ k. Init k (literal_of code)) (sym is)), λ i. let w = i.1 in cc) in
    subst P (access_there p n (step.Assign x code next) (sym e)) (gains_same old new n S T same g)

pub gains_update : (p : Program) (old new : List (List ℕ)) (n x next : ℕ) (f : Combination) (code : List Operation)
    → step_at p n ≡ Some (step.Update x f code next) →
    Gains old new n (λ y. y ≡ x) → Gains old new n (λ y. UpdatesAt p y n)
gains_update p old new n x next f code e g =
    let P : Access → Type 0 = λ a. Gains old new n (λ y. (h : Combination) × Updates a y h) in
    let S : ℕ → Type 0 = λ y. y ≡ x in
    let T : ℕ → Type 0 = λ y. (h : Combination) × Updates (access_of (step.Update x f code next)) y h in
    let same : (y : ℕ) → S y ↔ T y = λ y. (λ is. (f, ap (λ k. Update k f) (sym is)), λ i. let w = i.1 in cc) in
    subst P (access_there p n (step.Update x f code next) (sym e)) (gains_same old new n S T same g)

pub gains_reads : (p : Program) (old new : List (List ℕ)) (n : ℕ) (s : Step) → step_at p n ≡ Some s → Gains old new n (Reads (access_of s))
    → Gains old new n (λ y. ReadsAt p y n)
gains_reads p old new n s e g = let P : Access → Type 0 = λ a. Gains old new n (Reads a) in subst P (access_there p n s (sym e)) g

-- a load of the first operation, or of another
first_or_later : (o : Operation) (code : List Operation) (x : ℕ) → Contains (loads (o ∷ code)) x → (loaded o ≡ Some x) ⊎ Contains (loads code) x
first_or_later (op.Load y) code x c = elim (Contains-append_cases (y ∷ []) (loads code) x c) [ inl a ↦ inl (ap Some (single y x a)) | inr b ↦ inr b ]
first_or_later (op.Literal v) code x c = inr c
first_or_later (op.Unary f) code x c = inr c
first_or_later (op.Binary f) code x c = inr c

first : (o : Operation) (code : List Operation) (x : ℕ) → loaded o ≡ Some x → Contains (loads (o ∷ code)) x
first (op.Load y) code x e = (0, omega arith, cc)
first (op.Literal v) code x e = absurd (cc)
first (op.Unary f) code x e = absurd (cc)
first (op.Binary f) code x e = absurd (cc)

later : (o : Operation) (code : List Operation) (x : ℕ) → Contains (loads code) x → Contains (loads (o ∷ code)) x
later (op.Load y) code x c = Contains-append_right (y ∷ []) (loads code) x c
later (op.Literal v) code x c = c
later (op.Unary f) code x c = c
later (op.Binary f) code x c = c

pub gains_load : (a b c : List (List ℕ)) (n : ℕ) (code : List Operation) (i : ℕ) (o : Operation) → i < length code → o ≡ get_or code i o →
    Gains a b n (λ x. loaded o ≡ Some x) → Gains b c n (Contains (loads (drop (i + 1) code))) → Gains a c n (Contains (loads (drop i code)))
gains_load a b c n code i o lt is_at g h =
    let rest : List Operation = drop (i + 1) code in
    let e : drop i code ≡ o ∷ rest = rw add-one (drop-cons code i o lt ∙ ap (λ x. x ∷ drop (suc i) code) (sym is_at)) in
    let P : List Operation → Type 0 = λ xs. Gains a c n (Contains (loads xs)) in
    subst P (sym e) (gains_more a b c n (λ x. loaded o ≡ Some x) (Contains (loads rest)) (Contains (loads (o ∷ rest))) (first_or_later o rest) (first o rest)
    (later o rest) g h)

pub gains_no_load : (lists : List (List ℕ)) (n : ℕ) (code : List Operation) (i : ℕ) → length code ≤ i → Gains lists lists n (Contains (loads (drop i code)))
gains_no_load lists n code i le =
    let P : List Operation → Type 0 = λ xs. Gains lists lists n (Contains (loads xs)) in
    subst P (sym (drop_of_length-le code le)) (gains_nothing lists n (Contains []) (λ x c. let lt = c.1 in omega arith))

-- one more empty list
pub empty_more : {A : Type 0} (f : A → List ℕ) (xs : List A) (y : A) → f y ≡ [] → ((x : ℕ) → get_or (map f xs) x [] ≡ []) → (x : ℕ)
    → get_or (map f (xs ++ y ∷ [])) x [] ≡ []
empty_more f [] y e h zero = e
empty_more f [] y e h (suc x) = refl
empty_more f (z ∷ zs) y e h zero = h zero
empty_more f (z ∷ zs) y e h (suc x) = empty_more f zs y e (λ k. h (suc k)) x

pub unused_from : (lists : List (List ℕ)) (count : ℕ) → length lists ≡ count → ((x : ℕ) → get_or lists x [] ≡ []) → IsUnused count lists
unused_from lists count long empty = record {
  long = long;
  unused = λ x n c. let P : List ℕ → Type 0 = λ xs. Contains xs n in let lt = (subst P (empty x) c).1 in omega arith;
}

same_or_not : (a b : ℕ) → (a ≡ b) ⊎ (a ≢ b)
same_or_not a b = grind arith

here : {A : Type 0} (f : A → List ℕ) (xs : List A) (x : ℕ) (new : A) → x < length xs → get_or (map f (set xs x new)) x [] ≡ f new
here f xs x new lt = get_or-map f (set xs x new) x new [] (lt-length-set xs x new lt) ∙ ap f (get_or-set_same xs x new new lt)

elsewhere : {A : Type 0} (f : A → List ℕ) (xs : List A) (x y : ℕ) (new : A) → y ≢ x → get_or (map f (set xs x new)) y [] ≡ get_or (map f xs) y []
elsewhere f [] x y new ne = refl
elsewhere f (z ∷ zs) zero zero new ne = absurd (ne refl)
elsewhere f (z ∷ zs) zero (suc y) new ne = refl
elsewhere f (z ∷ zs) (suc x) zero new ne = refl
elsewhere f (z ∷ zs) (suc x) (suc y) new ne = elsewhere f zs x y new (λ e. ne (ap suc e))

-- a node put into one list
pub gains_one : {A : Type 0} (f : A → List ℕ) (xs : List A) (x n : ℕ) (d new : A) → x < length xs →
    ((m : ℕ) → Contains (f new) m ↔ (Contains (f (get_or xs x d)) m ⊎ (m ≡ n))) → Gains (map f xs) (map f (set xs x new)) n (λ y. y ≡ x)
gains_one f xs x n d new lt more =
    let old : List (List ℕ) = map f xs in
    let now : List (List ℕ) = map f (set xs x new) in
    let was : get_or old x [] ≡ f (get_or xs x d) = get_or-map f xs x d [] lt in
    let is : get_or now x [] ≡ f new = here f xs x new lt in
    let keeps_here : (m : ℕ) → Contains (get_or old x []) m → Contains (get_or now x []) m =
    λ m c. let P : List ℕ → Type 0 = λ l. Contains l m in subst P (sym is) ((more m).1 (inl (subst P was c))) in
    let only_here : (m : ℕ) → Contains (get_or now x []) m → Contains (get_or old x []) m ⊎ ((m ≡ n) × (x ≡ x)) =
    λ m c. let P : List ℕ → Type 0 = λ l. Contains l m in
    elim ((more m).0 (subst P is c)) [ inl before ↦ inl (subst P (sym was) before) | inr same ↦ inr (same, refl) ] in
    let gains_here : Contains (get_or now x []) n = let P : List ℕ → Type 0 = λ l. Contains l n in subst P (sym is) ((more n).1 (inr refl)) in
    record {
      count = length-map (set xs x new) f ∙ length-set xs x new ∙ sym (length-map xs f);
      keeps = λ y m c. elim (same_or_not y x) [
        | inl e ↦ (let P : ℕ → Type 0 = λ k. Contains (get_or old k []) m → Contains (get_or now k []) m in subst P (sym e) (keeps_here m) c)
        | inr ne ↦ (let P : List ℕ → Type 0 = λ l. Contains l m in subst P (sym (elsewhere f xs x y new ne)) c)
      ];
      gains = λ y within e. let P : ℕ → Type 0 = λ k. Contains (get_or now k []) n in subst P (sym e) gains_here;
      only = λ y m c. elim (same_or_not y x) [
        | inl e ↦ (let P : ℕ → Type 0 = λ k. Contains (get_or now k []) m → Contains (get_or old k []) m ⊎ ((m ≡ n) × (k ≡ x)) in
            subst P (sym e) (only_here m) c)
        | inr ne ↦ (let P : List ℕ → Type 0 = λ l. Contains l m in inl (subst P (elsewhere f xs x y new ne) c))
      ];
    }

pub gains_same_load : (old new : List (List ℕ)) (n x : ℕ) (o : Operation) → o ≡ op.Load x → Gains old new n (λ y. y ≡ x)
    → Gains old new n (λ y. loaded o ≡ Some y)
gains_same_load old new n x o is g =
    let P : Operation → Type 0 = λ a. Gains old new n (λ y. loaded a ≡ Some y) in
    subst P (sym is) (gains_same old new n (λ y. y ≡ x) (λ y. loaded (op.Load x) ≡ Some y) (λ y. (λ e. ap Some (sym e), λ e. cc)) g)

pub gains_of_code : (old new : List (List ℕ)) (n : ℕ) (s : Step) (code : List Operation) → (access_of s).reads ≡ loads code
    → Gains old new n (Contains (loads code)) → Gains old new n (Reads (access_of s))
gains_of_code old new n s code e g = let P : List ℕ → Type 0 = λ xs. Gains old new n (Contains xs) in subst P (sym e) g
