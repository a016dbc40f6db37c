-- Links as a pass over the nodes finds them.
use Rattle.std.proofs.Common.{ℕ, zero, suc, ◌≡◌, ◌≢◌, ◌<◌, ◌≤◌, ◌+◌, ◌⊎◌, inl, inr, Bool, true, false, nat_eq, Option, Some, None, List, [], ◌∷◌, length}
use Rattle.std.proofs.Common.{get_or, refl, sym, ◌∙◌, ap, subst, arith, eqb-true, eq-eqb}
use Rattle.std.specs.Prelude.{Contains, if◌then◌else◌, IfSome}
use Rattle.std.proofs.lemmas.Grind.{common_steps}
use Rattle.std.proofs.lemmas.Option.{gets}
use Rattle.std.proofs.lemmas.List.{length-set}
use Rattle.std.proofs.lemmas.List.Elements.{Contains-append_right, Contains-append_cases}
use Rattle.sc_graph.specs.declared.links.Found.{Found}
use Rattle.sc_graph.specs.declared.links.Found.TheVariants as found
use Rattle.sc_graph.specs.declared.links.Links.{Links}
use Rattle.sc_graph.specs.declared.program.Step.{Step}
use Rattle.sc_graph.specs.declared.program.Step.TheVariants as step
use Rattle.sc_graph.specs.Program.{Program, step_at}
use Rattle.sc_graph.specs.Structure.{ForksChild, JoinsAt, ExactlyOne}
use Rattle.sc_graph.specs.Links.{found_at, only, only_at, IsSole, Tells}
use Rattle.sc_graph.specs.declared.links.Link.{Link}
use Rattle.sc_graph.specs.declared.links.Link.TheVariants as link
use Rattle.sc_graph.specs.Inside.Links.{IsLink, IsInRange}
use Rattle.sc_graph.specs.Inside.Linking.{noted, noted_at, noted_all, after_step, IsBlank, only_link}
use Rattle.sc_graph.proofs.Searching.{IsOnlyBelow}
use Rattle.sc_graph.proofs.Nodes.{step_within}
use Rattle.sc_graph.proofs.Each.{below_or_at}

-- of two different numbers it holds
pub record HasTwo (P : ℕ → Type 0) : Type 0 where
  pub first : ℕ
  pub second : ℕ
  pub differ : first ≢ second
  pub is_first : P first
  pub is_second : P second

-- what was found among the numbers below n
abbrev pub IsFound : (ℕ → Type 0) → ℕ → Found → Type 0
IsFound P n found.Nobody = (m : ℕ) → m < n → ¬ P m
IsFound P n (found.Alone one) = IsOnlyBelow P one n
IsFound P n found.Several = HasTwo P

none_more : (P : ℕ → Type 0) (n : ℕ) → ((m : ℕ) → m < n → ¬ P m) → P n → IsOnlyBelow P n (n + 1)
none_more P n none here = record {
  within = omega arith;
  is = here;
  alone = λ m lt holds. elim (below_or_at m n lt) [
    | inl less ↦ absurd (none m less holds)
    | inr same ↦ same
  ];
}

another : (m n : ℕ) → m < n → (if nat_eq m n then found.Alone m else found.Several) ≡ found.Several
another m n lt = ap (λ b. if b then found.Alone m else found.Several) (not_equal (nat_eq m n) refl)
  where
    not_equal : (b : Bool) → nat_eq m n ≡ b → nat_eq m n ≡ false
    not_equal true e = absurd (let same : m ≡ n = eqb-true m n e in omega arith)
    not_equal false e = e

-- it holds of n, too
pub found_more : (P : ℕ → Type 0) (n : ℕ) (f : Found) → IsFound P n f → P n → IsFound P (n + 1) (noted f n)
found_more P n found.Nobody none here = none_more P n none here
found_more P n (found.Alone m) one here =
    subst (IsFound P (n + 1)) (sym (another m n one.within)) (record {
      first = m;
      second = n;
      differ = λ e. let lt : m < n = one.within in omega arith;
      is_first = one.is;
      is_second = here;
    })
found_more P n found.Several two here = two

-- it doesn't hold of n
pub found_same : (P : ℕ → Type 0) (n : ℕ) (f : Found) → IsFound P n f → ¬ P n → IsFound P (n + 1) f
found_same P n found.Nobody none not_here = λ m lt holds. elim (below_or_at m n lt) [
  | inl less ↦ none m less holds
  | inr same ↦ not_here (subst P same holds)
]
found_same P n (found.Alone m) one not_here = record {
  within = let lt : m < n = one.within in omega arith;
  is = one.is;
  alone = λ k lt holds. elim (below_or_at k n lt) [
    | inl less ↦ one.alone k less holds
    | inr same ↦ absurd (not_here (subst P same holds))
  ];
}
found_same P n found.Several two not_here = two

-- what was found among all numbers
pub sole_found : (P : ℕ → Type 0) (n : ℕ) (f : Found) → ((m : ℕ) → P m → m < n) → IsFound P n f → IsSole P (only f)
sole_found P n found.Nobody within none = record { once = (λ yes. absurd (cc yes), λ one. absurd (none one.one (within one.one one.is) one.is)); is = tt }
sole_found P n (found.Alone m) within one = record {
  once = (λ yes. record { one = m; is = one.is; alone = λ k holds. one.alone k (within k holds) holds }, λ one. refl);
  is = one.is;
}
sole_found P n found.Several within two = record {
  once = (λ yes. absurd (cc yes), λ one. absurd (two.differ (one.alone two.first two.is_first ∙ sym (one.alone two.second two.is_second))));
  is = tt;
}

twice_equal : (m : ℕ) → (if nat_eq m m then found.Alone m else found.Several) ≡ found.Alone m
twice_equal m = ap (λ b. if b then found.Alone m else found.Several) (eq-eqb m m refl)

noted_twice : (f : Found) (n : ℕ) → noted (noted f n) n ≡ noted f n
noted_twice found.Nobody n = twice_equal n
noted_twice (found.Alone m) n = again (nat_eq m n) refl
  where
    again : (b : Bool) → nat_eq m n ≡ b → noted (if nat_eq m n then found.Alone m else found.Several) n ≡ (if nat_eq m n then found.Alone m else found.Several)
    again true e =
        let same : (if nat_eq m n then found.Alone m else found.Several) ≡ found.Alone m = ap (λ b. if b then found.Alone m else found.Several) e in
        ap (λ f. noted f n) same
    again false e =
        let same : (if nat_eq m n then found.Alone m else found.Several) ≡ found.Several = ap (λ b. if b then found.Alone m else found.Several) e in
        ap (λ f. noted f n) same ∙ sym same
noted_twice found.Several n = refl

pub noted_long : (slots : List Found) (k n : ℕ) → length (noted_at slots k n) ≡ length slots
noted_long slots k n = length-set slots k (noted (found_at slots k) n)

found_same_place : (slots : List Found) (k j n : ℕ) → j ≡ k → j < length slots → found_at (noted_at slots k n) j ≡ noted (found_at slots j) n
found_same_place slots k j n e lt = grind (arith, common_steps, gets)

found_other_place : (slots : List Found) (k j n : ℕ) → j ≢ k → found_at (noted_at slots k n) j ≡ found_at slots j
found_other_place slots k j n e = grind (arith, common_steps, gets)

-- what noting a node for all targets makes of what was found for j
abbrev Noted : List ℕ → ℕ → List Found → ℕ → Type 0
Noted ks n slots j =
    (Contains ks j × (found_at (noted_all ks n slots) j ≡ noted (found_at slots j) n))
    ⊎ ((¬ Contains ks j) × (found_at (noted_all ks n slots) j ≡ found_at slots j))

single : (k j : ℕ) → Contains (k ∷ []) j → k ≡ j
single k j c = first c.0 c.1 c.2
  where
    first : (i : ℕ) → i < length (k ∷ []) → get_or (k ∷ []) i j ≡ j → k ≡ j
    first zero lt e = e
    first (suc i) lt e = absurd (omega arith)

first_one : (k j : ℕ) (ks : List ℕ) → j ≡ k → Contains (k ∷ ks) j
first_one k j ks e = (0, omega arith, sym e)

one_noted : (k : ℕ) (ks : List ℕ) (n : ℕ) (slots : List Found) (j : ℕ) → j < length slots → (b : Bool) → nat_eq j k ≡ b → Noted ks n (noted_at slots k n) j
    → Noted (k ∷ ks) n slots j
one_noted k ks n slots j lt true e (inl h) =
    let same : j ≡ k = eqb-true j k e in
    inl (first_one k j ks same, h.1 ∙ ap (λ f. noted f n) (found_same_place slots k j n same lt) ∙ noted_twice (found_at slots j) n)
one_noted k ks n slots j lt true e (inr h) =
    let same : j ≡ k = eqb-true j k e in
    inl (first_one k j ks same, h.1 ∙ found_same_place slots k j n same lt)
one_noted k ks n slots j lt false e (inl h) =
    let differ : j ≢ k = λ same. cc (e, eq-eqb j k same) in
    inl (Contains-append_right (k ∷ []) ks j h.0, h.1 ∙ ap (λ f. noted f n) (found_other_place slots k j n differ))
one_noted k ks n slots j lt false e (inr h) =
    let differ : j ≢ k = λ same. cc (e, eq-eqb j k same) in
    inr (λ c. elim (Contains-append_cases (k ∷ []) ks j c) [ inl a ↦ differ (sym (single k j a)) | inr b ↦ h.0 b ], h.1 ∙ found_other_place slots k j n differ)

all_noted : (ks : List ℕ) (n : ℕ) (slots : List Found) (j : ℕ) → j < length slots → Noted ks n slots j
all_noted [] n slots j lt = inr (λ c. let within = c.1 in absurd (omega arith), refl)
all_noted (k ∷ ks) n slots j lt =
    let long : length (noted_at slots k n) ≡ length slots = noted_long slots k n in
    one_noted k ks n slots j lt (nat_eq j k) refl (all_noted ks n (noted_at slots k n) j (omega arith))

all_long : (ks : List ℕ) (n : ℕ) (slots : List Found) → length (noted_all ks n slots) ≡ length slots
all_long [] n slots = refl
all_long (k ∷ ks) n slots = all_long ks n (noted_at slots k n) ∙ noted_long slots k n

-- a node that is linked to number k alone
place_noted : (P : ℕ → ℕ → Type 0) (slots : List Found) (k n j : ℕ) → j < length slots → IsFound (P j) n (found_at slots j) → P k n → (P j n → j ≡ k)
    → (b : Bool) → nat_eq j k ≡ b →
    IsFound (P j) (n + 1) (found_at (noted_at slots k n) j)
place_noted P slots k n j lt found here alone true e =
    let same : j ≡ k = eqb-true j k e in
    subst (IsFound (P j) (n + 1)) (sym (found_same_place slots k j n same lt))
    (found_more (P j) n (found_at slots j) found (subst (λ (x : ℕ). P x n) (sym same) here))
place_noted P slots k n j lt found here alone false e =
    let differ : j ≢ k = λ same. cc (e, eq-eqb j k same) in
    subst (IsFound (P j) (n + 1)) (sym (found_other_place slots k j n differ)) (found_same (P j) n (found_at slots j) found (λ holds. differ (alone holds)))

abbrev PausesTo : Program → ℕ → ℕ → Type 0
PausesTo p d n = step_at p n ≡ Some (step.Surf d)

-- the links tell of the nodes below n
pub record TellsBelow (p : Program) (l : Links) (n : ℕ) : Type 0 where
  pub forks_long : length l.forks ≡ length p.threads
  pub joins_long : length l.joins ≡ length p.nodes
  pub pauses_long : length l.pauses ≡ length p.nodes
  pub forks : (t : ℕ) → t < length p.threads → IsFound (ForksChild p t) n (found_at l.forks t)
  pub joins : (j : ℕ) → j < length p.nodes → IsFound (JoinsAt p j) n (found_at l.joins j)
  pub pauses : (d : ℕ) → d < length p.nodes → IsFound (λ m. step_at p m ≡ Some (step.Surf d)) n (found_at l.pauses d)

pub tells_none : (p : Program) (l : Links) → IsBlank (length p.threads) (length p.nodes) l → TellsBelow p l 0
tells_none p l blank = record {
  forks_long = blank.forks;
  joins_long = blank.joins;
  pauses_long = blank.pauses;
  forks = λ t lt. subst (IsFound (ForksChild p t) 0) (sym (blank.no_fork t)) (λ m less. absurd (omega arith));
  joins = λ j lt. subst (IsFound (JoinsAt p j) 0) (sym (blank.no_join j)) (λ m less. absurd (omega arith));
  pauses = λ d lt. subst (IsFound (PausesTo p d) 0) (sym (blank.no_pause d)) (λ m less. absurd (omega arith));
}

pub unlinked : (p : Program) (l : Links) (n : ℕ) → ((children : List ℕ) (join : ℕ) → step_at p n ≢ Some (step.Fork children join))
    → ((d : ℕ) → step_at p n ≢ Some (step.Surf d)) → TellsBelow p l n → TellsBelow p l (n + 1)
unlinked p l n no_fork no_pause told = record {
  forks_long = told.forks_long;
  joins_long = told.joins_long;
  pauses_long = told.pauses_long;
  forks = λ t lt. found_same (ForksChild p t) n (found_at l.forks t) (told.forks t lt) (λ x. no_fork x.children x.join x.forks);
  joins = λ j lt. found_same (JoinsAt p j) n (found_at l.joins j) (told.joins j lt) (λ x. no_fork x.children j x.forks);
  pauses = λ d lt. found_same (PausesTo p d) n (found_at l.pauses d) (told.pauses d lt) (λ x. no_pause d x);
}

-- one more node
pub tells_more : (p : Program) (l : Links) (n : ℕ) (s : Step) → step_at p n ≡ Some s → TellsBelow p l n → TellsBelow p (after_step s n l) (n + 1)
tells_more p l n (step.Fork children join) at told = record {
  forks_long = all_long children n l.forks ∙ told.forks_long;
  joins_long = noted_long l.joins join n ∙ told.joins_long;
  pauses_long = told.pauses_long;
  forks = λ t lt.
      let long : length l.forks ≡ length p.threads = told.forks_long in
      elim (all_noted children n l.forks t (omega arith)) [
        | inl h ↦ subst (IsFound (ForksChild p t) (n + 1)) (sym h.1)
            (found_more (ForksChild p t) n (found_at l.forks t) (told.forks t lt) (record { children = children; join = join; forks = at; child = h.0 }))
        | inr h ↦ subst (IsFound (ForksChild p t) (n + 1)) (sym h.1)
            (found_same (ForksChild p t) n (found_at l.forks t) (told.forks t lt) (λ x.
            let e : x.children ≡ children = (let f = x.forks in cc) in
            h.0 (subst (λ (ks : List ℕ). Contains ks t) e x.child)))
      ];
  joins = λ j lt.
      let long : length l.joins ≡ length p.nodes = told.joins_long in
      place_noted (JoinsAt p) l.joins join n j (omega arith) (told.joins j lt) (record { children = children; forks = at }) (λ x. let f = x.forks in cc)
      (nat_eq j join) refl;
  pauses = λ d lt. found_same (PausesTo p d) n (found_at l.pauses d) (told.pauses d lt) (λ x. cc (x, at));
}
tells_more p l n (step.Surf depth) at told = record {
  forks_long = told.forks_long;
  joins_long = told.joins_long;
  pauses_long = noted_long l.pauses depth n ∙ told.pauses_long;
  forks = λ t lt. found_same (ForksChild p t) n (found_at l.forks t) (told.forks t lt) (λ x. let e = x.forks in cc);
  joins = λ j lt. found_same (JoinsAt p j) n (found_at l.joins j) (told.joins j lt) (λ x. let e = x.forks in cc);
  pauses = λ d lt.
      let long : length l.pauses ≡ length p.nodes = told.pauses_long in
      place_noted (PausesTo p) l.pauses depth n d (omega arith) (told.pauses d lt) at (λ x. cc (x, at)) (nat_eq d depth) refl;
}
tells_more p l n (step.Assign x code next) at told = unlinked p l n (λ ks j e. cc (e, at)) (λ d e. cc (e, at)) told
tells_more p l n (step.Update x f code next) at told = unlinked p l n (λ ks j e. cc (e, at)) (λ d e. cc (e, at)) told
tells_more p l n (step.Cond code on_true on_false) at told = unlinked p l n (λ ks j e. cc (e, at)) (λ d e. cc (e, at)) told
tells_more p l n (step.Join next) at told = unlinked p l n (λ ks j e. cc (e, at)) (λ d e. cc (e, at)) told
tells_more p l n (step.Depth next) at told = unlinked p l n (λ ks j e. cc (e, at)) (λ d e. cc (e, at)) told
tells_more p l n step.Exit at told = unlinked p l n (λ ks j e. cc (e, at)) (λ d e. cc (e, at)) told

pub tells_all : (p : Program) (l : Links) (n : ℕ) → length p.nodes ≤ n → TellsBelow p l n → Tells p l
tells_all p l n all told = record {
  forks = λ t lt. sole_found (ForksChild p t) n (found_at l.forks t)
      (λ m x. let less : m < length p.nodes = step_within p m (step.Fork x.children x.join) x.forks in omega arith) (told.forks t lt);
  joins = λ j lt. sole_found (JoinsAt p j) n (found_at l.joins j) (λ m x. let less : m < length p.nodes = step_within p m (step.Fork x.children j) x.forks in
      omega arith) (told.joins j lt);
  pauses = λ d lt. sole_found (PausesTo p d) n (found_at l.pauses d) (λ m x. let less : m < length p.nodes = step_within p m (step.Surf d) x in omega arith)
      (told.pauses d lt);
}

-- the fork that is told of a thread
pub fork_known : (p : Program) (l : Links) (t n : ℕ) → Tells p l → t < length p.threads → only_at l.forks t ≡ Some n → ForksChild p t n
fork_known p l t n told lt e = subst (λ (o : Option ℕ). IfSome o (ForksChild p t)) e (told.forks t lt).is

pub fork_unknown : (p : Program) (l : Links) (t : ℕ) → Tells p l → t < length p.threads → only_at l.forks t ≡ None → ¬ ExactlyOne (ForksChild p t)
fork_unknown p l t told lt e one = let some = (told.forks t lt).once.1 one in cc (some, e)

-- what is told of each link
pub link_told : (p : Program) (l : Links) (link : Link) → Tells p l → IsInRange p link → IsSole (IsLink p link) (only_link l link)
link_told p l (link.Child k) told lt = told.forks k lt
link_told p l (link.Join j) told lt = told.joins j lt
link_told p l (link.Depth d) told lt = told.pauses d lt
