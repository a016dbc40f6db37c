-- Many gotos in a row: tables of them, and that as many as there are places come to one place twice.
use Rattle.std.proofs.Common.{◌≡◌, ℕ, zero, suc, ◌+◌, ◌≤◌, ◌<◌, Bool, true, false, true≢false, ◌||◌, eqb, List, [], ◌∷◌, map, length, get_or, refl, ap}
use Rattle.std.proofs.Common.{sym, subst, ◌∙◌, arith}
use Rattle.std.proofs.Math.ListN.{get_or-map}
use Rattle.std.specs.List.{IsDistinct, AllByRecursion, list_any}
use Rattle.std.proofs.lemmas.Bool.{eqb-true}
use Rattle.std.proofs.lemmas.Map.Keys.{IsDistinct-cons}
use Rattle.std.proofs.lemmas.Map.Steps.{length-le_from_distinct_below}
use Rattle.scl_graph.specs.declared.hops.Hop.{Hop}
use Rattle.scl_graph.specs.declared.hops.Hop.TheVariants as hop
use Rattle.scl_graph.specs.Inside.Settling.{AreNodes, IsSettled, at_place, further, onward}

-- a node stays
pub onward_node : (hops : List Hop) (m n : ℕ) → onward hops m (hop.Node n) ≡ hop.Node n
onward_node hops zero n = refl
onward_node hops (suc m) n = refl

pub onward_sum : (hops : List Hop) (a b : ℕ) (h : Hop) → onward hops (a + b) h ≡ onward hops b (onward hops a h)
onward_sum hops zero b h = let is : 0 + b ≡ b = omega arith in ap (λ n. onward hops n h) is
onward_sum hops (suc a) b (hop.Node n) = onward_node hops (suc a + b) n ∙ sym (onward_node hops b n)
onward_sum hops (suc a) b (hop.Goto g p) =
    let is : suc a + b ≡ suc (a + b) = omega arith in
    ap (λ n. onward hops n (hop.Goto g p)) is ∙ onward_sum hops a b (at_place hops p)

-- what stands at a place of a table
pub table_at : (hops : List Hop) (m p : ℕ) → at_place (map (onward hops m) hops) p ≡ onward hops m (at_place hops p)
table_at hops m p =
    ap (get_or (map (onward hops m) hops) p) (sym (onward_node hops m 0)) ∙ get_or-map (onward hops m) hops p (hop.Node 0)

-- one goto more, in a table
pub onward_further : (hops : List Hop) (m : ℕ) (h : Hop) → further (map (onward hops m) hops) h ≡ onward hops (suc m) h
onward_further hops m (hop.Node n) = refl
onward_further hops m (hop.Goto g p) = table_at hops m p

-- in the table stands, for each place, what stands behind at least so many gotos
pub record IsAfter (hops table : List Hop) (least : ℕ) : Type 0 where
  pub gotos : ℕ
  pub enough : least ≤ gotos
  pub each : table ≡ map (onward hops gotos) hops

map_map : {X Y Z : Type 0} (f : Y → Z) (g : X → Y) (h : X → Z) (xs : List X) → ((x : X) → f (g x) ≡ h x) → map f (map g xs) ≡ map h xs
map_map f g h [] same = refl
map_map f g h (x ∷ xs) same = ap (λ y. y ∷ map f (map g xs)) (same x) ∙ ap (λ ys. h x ∷ ys) (map_map f g h xs same)

map_same : (hops rest : List Hop) → map (onward hops 0) rest ≡ rest
map_same hops [] = refl
map_same hops (h ∷ rest) = ap (λ r. h ∷ r) (map_same hops rest)

pub after_none : (hops : List Hop) → IsAfter hops hops 0
after_none hops = record { gotos = 0; enough = omega arith; each = sym (map_same hops hops) }

pub after_doubled : (hops table next : List Hop) (m n : ℕ) → IsAfter hops table m → next ≡ map (further table) table → n ≤ m + m + 1 → IsAfter hops next n
after_doubled hops table next m n h is le =
    let k : ℕ = h.gotos in
    let enough : _ = h.enough in
    let t : List Hop = map (onward hops k) hops in
    record {
      gotos = k + suc k;
      enough = omega (arith, enough, le);
      each =
          is
          ∙ ap (λ u. map (further u) u) h.each
          ∙ map_map (further t) (onward hops k) (onward hops (k + suc k)) hops (λ x. onward_further hops k (onward hops k x)
          ∙ sym (onward_sum hops k (suc k) x));
    }

nodes_stay : (hops rest : List Hop) (k n : ℕ) → AreNodes (map (onward hops k) rest) → map (onward hops k) rest ≡ map (onward hops (k + n)) rest
nodes_stay hops [] k n all = refl
nodes_stay hops (h ∷ rest) k n all = by (onward hops k h) refl (nodes_stay hops rest k n) all
  where
    by : (x : Hop) → onward hops k h ≡ x → (AreNodes (map (onward hops k) rest) → map (onward hops k) rest ≡ map (onward hops (k + n)) rest)
        → AreNodes (x ∷ map (onward hops k) rest) → map (onward hops k) (h ∷ rest) ≡ map (onward hops (k + n)) (h ∷ rest)
    by (hop.Node m) is further all =
        let same : onward hops k h ≡ onward hops (k + n) h =
        is ∙ sym (onward_node hops n m) ∙ sym (ap (onward hops n) is) ∙ sym (onward_sum hops k n h) in
        ap (λ x. x ∷ map (onward hops k) rest) same ∙ ap (λ xs. onward hops (k + n) h ∷ xs) (further all)
    by (hop.Goto g p) is further all = absurd all

-- behind nodes stand these nodes
pub after_nodes : (hops table : List Hop) (m : ℕ) → IsAfter hops table m → AreNodes table → IsSettled hops table
after_nodes hops table m h all =
    let k : ℕ = h.gotos in
    record {
      gotos = k + length hops;
      enough = omega arith;
      each = h.each ∙ nodes_stay hops hops k (length hops) (subst AreNodes h.each all);
    }

-- the places to which so many gotos lead
abbrev places : List Hop → ℕ → Hop → List ℕ
places hops zero h = []
places hops (suc m) (hop.Node n) = []
places hops (suc m) (hop.Goto g p) = p ∷ places hops m (at_place hops p)

-- all gotos lead to places that are there
abbrev pub AreBelow : List Hop → Type 0
AreBelow hops = (p g q : ℕ) → at_place hops p ≡ hop.Goto g q → q < length hops

-- behind some gotos from it stands the goto itself
abbrev pub Circles : List Hop → Hop → Type 0
Circles hops h = (d : ℕ) × (onward hops (suc d) h ≡ h)

abbrev target : ℕ → Hop → ℕ
target other (hop.Node n) = other
target other (hop.Goto g p) = p

abbrev is_goto : Hop → Bool
is_goto (hop.Node n) = false
is_goto (hop.Goto g p) = true

same_target : (g h p q : ℕ) → hop.Goto g p ≡ hop.Goto h q → p ≡ q
same_target g h p q e = ap (target 0) e

no_goto : (g p n : ℕ) → hop.Node n ≡ hop.Goto g p → ⊥
no_goto g p n e = cc

-- a place among those that are come to
comes_to : (hops : List Hop) (m p : ℕ) (h : Hop) → list_any (eqb p) (places hops m h) ≡ true → (j : ℕ) × (onward hops (suc j) h ≡ at_place hops p)
comes_to hops zero p h e = cc
comes_to hops (suc m) p (hop.Node n) e = cc
comes_to hops (suc m) p (hop.Goto g q) e = by (comes_to hops m p (at_place hops q)) (eqb p q) refl
  where
    by : (list_any (eqb p) (places hops m (at_place hops q)) ≡ true → (j : ℕ) × (onward hops (suc j) (at_place hops q) ≡ at_place hops p)) → (b : Bool)
        → eqb p q ≡ b → (j : ℕ) × (onward hops (suc j) (hop.Goto g q) ≡ at_place hops p)
    by further true same = let equal : p ≡ q = eqb-true p q same in (0, ap (at_place hops) (sym equal))
    by further false apart =
        let rest : list_any (eqb p) (places hops m (at_place hops q)) ≡ true = sym (ap (λ b. b || list_any (eqb p) (places hops m (at_place hops q))) apart)
        ∙ e in
        let found : (j : ℕ) × (onward hops (suc j) (at_place hops q) ≡ at_place hops p) = further rest in
        (suc found.0, found.1)

-- where a place is come to that stands behind itself, what stands behind so many gotos stands behind itself
back : (hops : List Hop) (m j : ℕ) (x h : Hop) → onward hops (suc j) x ≡ x → onward hops m x ≡ h → onward hops (suc j) h ≡ h
back hops m j x h round is =
    ap (onward hops (suc j)) (sym is)
    ∙ sym (onward_sum hops m (suc j) x)
    ∙ ap (λ n. onward hops n x) swap
    ∙ onward_sum hops (suc j) m x
    ∙ ap (onward hops m) round
    ∙ is
  where
    swap : m + suc j ≡ suc j + m
    swap = omega arith

nothing_distinct : IsDistinct eqb []
unfolding IsDistinct
nothing_distinct = tt

apart_from : (p : ℕ) (xs : List ℕ) → list_any (eqb p) xs ≡ false → AllByRecursion (λ y. eqb p y ≡ false) xs
apart_from p [] e = tt
apart_from p (x ∷ xs) e = by (apart_from p xs) (eqb p x) refl
  where
    by : (list_any (eqb p) xs ≡ false → AllByRecursion (λ y. eqb p y ≡ false) xs) → (b : Bool) → eqb p x ≡ b → AllByRecursion (λ y. eqb p y ≡ false) (x ∷ xs)
    by others true same = absurd (true≢false (sym (ap (λ b. b || list_any (eqb p) xs) same) ∙ e))
    by others false apart = (apart, others (sym (ap (λ b. b || list_any (eqb p) xs) apart) ∙ e))

-- a goto behind gotos whose places are not distinct stands behind itself
repeats : (hops : List Hop) (m : ℕ) (h : Hop) (g q : ℕ) → onward hops m h ≡ hop.Goto g q → ¬ IsDistinct eqb (places hops (suc m) h)
    → Circles hops (hop.Goto g q)
repeats hops zero (hop.Node n) g q is twice = absurd (no_goto g q n is)
repeats hops zero (hop.Goto f p) g q is twice = absurd (twice (IsDistinct-cons eqb p [] tt nothing_distinct))
repeats hops (suc m) (hop.Node n) g q is twice = absurd (no_goto g q n is)
repeats hops (suc m) (hop.Goto f p) g q is twice = by (repeats hops m (at_place hops p) g q is) (list_any (eqb p) (places hops (suc m) (at_place hops p))) refl
  where
    by : (¬ IsDistinct eqb (places hops (suc m) (at_place hops p)) → Circles hops (hop.Goto g q)) → (b : Bool)
        → list_any (eqb p) (places hops (suc m) (at_place hops p)) ≡ b → Circles hops (hop.Goto g q)
    by others true e =
        let found : _ = comes_to hops (suc m) p (at_place hops p) e in
        (found.0, back hops m found.0 (at_place hops p) (hop.Goto g q) found.1 is)
    by others false e =
        others (λ d. twice (IsDistinct-cons eqb p (places hops (suc m) (at_place hops p)) (apart_from p (places hops (suc m) (at_place hops p)) e) d))

length_places : (hops : List Hop) (m : ℕ) (h : Hop) (g q : ℕ) → onward hops m h ≡ hop.Goto g q → length (places hops (suc m) h) ≡ suc m
length_places hops zero (hop.Node n) g q is = absurd (no_goto g q n is)
length_places hops zero (hop.Goto f p) g q is = refl
length_places hops (suc m) (hop.Node n) g q is = absurd (no_goto g q n is)
length_places hops (suc m) (hop.Goto f p) g q is = ap suc (length_places hops m (at_place hops p) g q is)

places_below : (hops : List Hop) → AreBelow hops → (m : ℕ) (h : Hop) → ((g q : ℕ) → h ≡ hop.Goto g q → q < length hops) → (p : ℕ)
    → list_any (eqb p) (places hops m h) ≡ true → p < length hops
places_below hops below zero h first p e = cc
places_below hops below (suc m) (hop.Node n) first p e = cc
places_below hops below (suc m) (hop.Goto g q) first p e = by (places_below hops below m (at_place hops q) (below q) p) (eqb p q) refl
  where
    by : (list_any (eqb p) (places hops m (at_place hops q)) ≡ true → p < length hops) → (b : Bool) → eqb p q ≡ b → p < length hops
    by others true same = subst (λ n. n < length hops) (sym (eqb-true p q same)) (first g q refl)
    by others false apart = others (sym (ap (λ b. b || list_any (eqb p) (places hops m (at_place hops q))) apart) ∙ e)

-- a goto that stands behind as many gotos as there are places stands behind itself
pub circles : (hops : List Hop) → AreBelow hops → (m : ℕ) (h : Hop) (g q : ℕ) → ((f p : ℕ) → h ≡ hop.Goto f p → p < length hops) → length hops ≤ m
    → onward hops m h ≡ hop.Goto g q → Circles hops (hop.Goto g q)
circles hops below m h g q first enough is =
    repeats hops m h g q is (λ d.
    let few : _ = length-le_from_distinct_below (places hops (suc m) h) (length hops) d (places_below hops below (suc m) h first) in
    let many : _ = length_places hops m h g q is in
    absurd (omega (arith, few, many, enough)))

-- so many rounds more
abbrev extra : ℕ → ℕ → ℕ
extra zero d = 0
extra (suc k) d = d + extra k d

-- round as often as one likes
rounds : (hops : List Hop) (d : ℕ) (h : Hop) → onward hops (suc d) h ≡ h → (k : ℕ) → onward hops (k + extra k d) h ≡ h
rounds hops d h round zero = refl
rounds hops d h round (suc k) =
    let is : suc k + (d + extra k d) ≡ suc d + (k + extra k d) = omega arith in
    ap (λ n. onward hops n h) is ∙ onward_sum hops (suc d) (k + extra k d) h ∙ ap (onward hops (k + extra k d)) round ∙ rounds hops d h round k

-- what stands behind a goto or more stands at a place
pub at_some_place : (hops : List Hop) (m : ℕ) (h : Hop) (g q : ℕ) → onward hops (suc m) h ≡ hop.Goto g q → (p : ℕ) × (at_place hops p ≡ hop.Goto g q)
at_some_place hops m (hop.Node n) g q is = absurd (no_goto g q n is)
at_some_place hops zero (hop.Goto f p) g q is = (p, is)
at_some_place hops (suc m) (hop.Goto f p) g q is = at_some_place hops m (at_place hops p) g q is

-- what stands behind itself stands, from some place, behind as many gotos as one likes
pub circle_reached : (hops : List Hop) (m : ℕ) (g q : ℕ) → Circles hops (hop.Goto g q) → (p : ℕ) × (onward hops m (at_place hops p) ≡ hop.Goto g q)
circle_reached hops m g q c =
    let h : Hop = hop.Goto g q in
    let d : ℕ = c.0 in
    let x : Hop = onward hops (suc (d + extra m d)) h in
    let laps : suc (d + extra m d) + m ≡ suc m + (d + extra m d) = omega arith in
    let whole : onward hops m x ≡ h =
    sym (onward_sum hops (suc (d + extra m d)) m h)
    ∙ ap (λ n. onward hops n h) laps
    ∙ rounds hops d h c.1 (suc m) in
    by x refl whole
  where
    by : (x : Hop) → onward hops (suc (c.0 + extra m c.0)) (hop.Goto g q) ≡ x → onward hops m x ≡ hop.Goto g q
        → (p : ℕ) × (onward hops m (at_place hops p) ≡ hop.Goto g q)
    by (hop.Node n) is e = absurd (no_goto g q n (sym (onward_node hops m n) ∙ e))
    by (hop.Goto f r) is e =
        let place : _ = at_some_place hops (c.0 + extra m c.0) (hop.Goto g q) f r is in
        (place.0, ap (onward hops m) place.1 ∙ e)

abbrev node_number : Hop → ℕ
node_number (hop.Node n) = n
node_number (hop.Goto g p) = 0

-- a node behind so many gotos is the one behind any other number of them
pub one_node : (hops : List Hop) (a b : ℕ) (h : Hop) (m n : ℕ) → onward hops a h ≡ hop.Node m → onward hops b h ≡ hop.Node n → m ≡ n
one_node hops a b h m n first second =
    let both : hop.Node m ≡ hop.Node n =
    sym (onward_node hops b m)
    ∙ ap (onward hops b) (sym first)
    ∙ sym (onward_sum hops a b h)
    ∙ ap (λ k. onward hops k h) swap
    ∙ onward_sum hops b a h
    ∙ ap (onward hops a) second
    ∙ onward_node hops a n in
    ap node_number both
  where
    swap : a + b ≡ b + a
    swap = omega arith
