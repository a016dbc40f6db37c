-- Bounds that rise to the least ones that cover all nodes, and bounds within a number that do cover them.
use Rattle.std.proofs.Common.{ℕ, ◌≡◌, ◌<◌, ◌≤◌, ◌+◌, ◌*◌, ◌-◌, inl, inr, Bool, true, false, cond, Some, List, [], ◌∷◌, length, get_or, sum, refl, sym, ◌∙◌}
use Rattle.std.proofs.Common.{subst, ap, arith, get_or-set_other, get_or-set_same}
use Rattle.std.specs.Prelude.{slice_index, nat_lt, All}
use Rattle.std.proofs.Math.ListN.{set}
use Rattle.std.proofs.Math.Nat.{mul-le-mul_left, mul-add}
use Rattle.std.proofs.lemmas.Nat.{mul-le}
use Rattle.std.proofs.lemmas.List.{length-set}
use Rattle.std.proofs.lemmas.List.Sums.{sum_by-set, sum_by-le}
use Rattle.std.proofs.lemmas.Grind.{get_or_default_zero}
use Rattle.sc_graph.specs.declared.program.Step.{Step}
use Rattle.sc_graph.specs.declared.program.Step.TheVariants as step
use Rattle.sc_graph.specs.declared.place.Place.TheVariants as place
use Rattle.sc_graph.specs.Program.{Program, step_at, owner_of, parent_of}
use Rattle.sc_graph.specs.Size.{StepFits, AreDistinct}
use Rattle.sc_graph.specs.Valid.{IsFormed}
use Rattle.sc_graph.proofs.Formed.{parent_is_owner, falls_upwards}
use Rattle.least_or_cycle.specs.Least.{IsWithin}
use Rattle.priority_weights.specs.Inside.Bounds.{bound_sum, step_cost, IsCovered, AreCovering, AreUnder, IsRaised}
use Rattle.program_edges.proofs.Instantly.{owner_within}
use Rattle.priority_weights.proofs.Rooms.{step_placed, distinct_none}
use Rattle.priority_weights.proofs.Sums.{sum_over, total, AllOf, all_of, all_map, apart_of, total_small, same_or_not}
use Rattle.priority_weights.proofs.Chains.{IsTree, reach, reach_small, parts}

pub bounds_more : (b c : ℕ → ℕ) → ((t : ℕ) → b t ≤ c t) → (ks : List ℕ) → bound_sum b ks ≤ bound_sum c ks
bounds_more b c le [] = omega arith
bounds_more b c le (k ∷ ks) = let x = le k in let y = bounds_more b c le ks in omega (arith, x, y)

-- what a step asks grows with the weights and the bounds
pub cost_more : (v w b c : ℕ → ℕ) → ((n : ℕ) → v n ≤ w n) → ((t : ℕ) → b t ≤ c t) → (n : ℕ) (s : Step) → step_cost v b n s ≤ step_cost w c n s
cost_more v w b c le more n (step.Depth m) = le n
cost_more v w b c le more n (step.Fork ks j) = let x = le j in let y = bounds_more b c more ks in omega (arith, x, y)
cost_more v w b c le more n (step.Assign x code m) = omega arith
cost_more v w b c le more n (step.Update x f code m) = omega arith
cost_more v w b c le more n (step.Cond code k m) = omega arith
cost_more v w b c le more n (step.Join m) = omega arith
cost_more v w b c le more n (step.Surf m) = omega arith
cost_more v w b c le more n step.Exit = omega arith

-- the thread itself, as an item of the tree of threads; past their end the root
abbrev pub itself : ℕ → ℕ → ℕ
itself threads t = cond (nat_lt t threads) t 0

itself_is : (threads t : ℕ) → t < threads → itself threads t ≡ t
itself_is threads t lt =
    let e : nat_lt t threads ≡ true = grind (arith, lt) in
    let P : Bool → Type 0 = λ b. cond b t 0 ≡ t in
    subst P (sym e) refl

itself_small : (threads t : ℕ) → 0 < threads → itself threads t < threads
itself_small threads t some = chosen (nat_lt t threads) refl
  where
    chosen : (b : Bool) → nat_lt t threads ≡ b → cond b t 0 < threads
    chosen true e = grind (arith, e)
    chosen false e = some

pub thread_tree : (p : Program) → IsFormed p → IsTree (itself (length p.threads)) (parent_of p) (length p.threads)
thread_tree p formed = record {
  small = λ y. let some = (formed.size place.Image).some_thread in itself_small (length p.threads) y (omega (arith, some));
  falls = λ k z lt up. let less = (falls_upwards p formed).falls k z up in let is = itself_is (length p.threads) z (omega (arith, less, lt)) in
      omega (arith, less, is);
}

-- how many threads are this one or below it
abbrev pub family : Program → ℕ → ℕ
family p t = total (reach (itself (length p.threads)) (parent_of p) (length p.threads) t (λ y. true)) (length p.threads)

pub family_small : (p : Program) (t : ℕ) → family p t ≤ length p.threads
family_small p t = total_small (reach (itself (length p.threads)) (parent_of p) (length p.threads) t (λ y. true)) (length p.threads)
    (λ y. reach_small (itself (length p.threads)) (parent_of p) (length p.threads) t (λ z. true) y)

-- the families of children are apart
pub family_parts : (p : Program) → IsFormed p → (t : ℕ) (ks : List ℕ) → t < length p.threads → AllOf (λ k. parent_of p k ≡ Some t) ks → AreDistinct ks
    → sum_over (family p) ks + 1 ≤ family p t
family_parts p formed t ks lt parents distinct =
    let is = itself_is (length p.threads) t lt in
    let h = parts (itself (length p.threads)) (parent_of p) (length p.threads) (thread_tree p formed) t (λ y. false) (λ y. true) ks (record {
      itself = refl;
      later = refl;
      more = λ y e. refl;
      under = under is ks parents;
      apart = apart_of ks distinct;
    }) (λ k y. true) (length p.threads) lt in
    let same : total (reach (itself (length p.threads)) (parent_of p) (length p.threads) (itself (length p.threads) t) (λ y. true)) (length p.threads)
    ≡ family p t = ap (family p) is in
    omega (arith, h, same)
  where
    under : itself (length p.threads) t ≡ t → (xs : List ℕ) → AllOf (λ k. parent_of p k ≡ Some t) xs
        → AllOf (λ k. (itself (length p.threads) t < k) × (parent_of p k ≡ Some t)) xs
    under is xs h = all_map (λ k. parent_of p k ≡ Some t) (λ k. (itself (length p.threads) t < k) × (parent_of p k ≡ Some t))
        (λ k up. let less = (falls_upwards p formed).falls k t up in (omega (arith, less, is), up)) xs h

-- so many nodes for each thread of the family
abbrev pub ample : Program → ℕ → ℕ
ample p t = length p.nodes * family p t

ample_sum : (p : Program) (ks : List ℕ) → bound_sum (ample p) ks ≡ length p.nodes * sum_over (family p) ks
ample_sum p [] = omega arith
ample_sum p (k ∷ ks) = let a = ample_sum p ks in let b = mul-add (length p.nodes) (family p k) (sum_over (family p) ks) in omega (arith, a, b)

ample_more : (p : Program) (x y : ℕ) → x + 1 ≤ y → length p.nodes * x + length p.nodes ≤ length p.nodes * y
ample_more p x y le =
    let a = mul-le-mul_left {m = x + 1} {n = y} (length p.nodes) le in
    let b = mul-add (length p.nodes) x 1 in
    omega (arith, a, b)

ample_step : (p : Program) → IsFormed p → (w : ℕ → ℕ) → IsWithin (length p.nodes) (length p.nodes) w → (n t : ℕ) (s : Step) → n < length p.nodes
    → t < length p.threads →
    owner_of p n ≡ Some t → step_at p n ≡ Some s → StepFits p s → step_cost w (ample p) n s ≤ ample p t
ample_step p formed w within n t (step.Depth m) below lt owned at fits =
    let one = family_parts p formed t [] lt tt distinct_none in
    let more = ample_more p 0 (family p t) (omega (arith, one)) in
    let small = within.each n below in
    omega (arith, more, small)
ample_step p formed w within n t (step.Fork ks j) below lt owned at fits =
    let parents = all_of (λ k. parent_of p k ≡ Some t) ks (λ k c. parent_is_owner p formed n t j k ks (record { owned = owned; forks = at }) c) in
    let one = family_parts p formed t ks lt parents fits.0.distinct in
    let more = ample_more p (sum_over (family p) ks) (family p t) one in
    let sums = ample_sum p ks in
    let small = within.each j fits.1 in
    omega (arith, more, sums, small)
ample_step p formed w within n t (step.Assign x code m) below lt owned at fits = omega arith
ample_step p formed w within n t (step.Update x f code m) below lt owned at fits = omega arith
ample_step p formed w within n t (step.Cond code k m) below lt owned at fits = omega arith
ample_step p formed w within n t (step.Join m) below lt owned at fits = omega arith
ample_step p formed w within n t (step.Surf m) below lt owned at fits = omega arith
ample_step p formed w within n t step.Exit below lt owned at fits = omega arith

-- they cover all nodes
pub ample_covers : (p : Program) → IsFormed p → (w : ℕ → ℕ) → IsWithin (length p.nodes) (length p.nodes) w → AreCovering p w (ample p)
ample_covers p formed w within = record {
  each = λ n lt. record {
    covered = λ t s owned at.
        ample_step p formed w within n t s lt (owner_within p formed n t owned) owned at (step_placed p formed n s at).3;
  };
}

pub ample_small : (p : Program) → IsFormed p → (t : ℕ) → ample p t ≤ 16777216
ample_small p formed t =
    let counts = formed.size place.Image in
    let nodes = counts.nodes in
    let threads = counts.threads in
    let family_le = family_small p t in
    mul-le (length p.nodes) (family p t) 16384 1024 nodes (omega (arith, family_le, threads))

-- what a step asks is no more than what bounds that cover all nodes have
pub cost_least : (p : Program) (w : ℕ → ℕ) (bounds : List ℕ) → AreUnder p w bounds → (n t : ℕ) (s : Step) → n < length p.nodes → owner_of p n ≡ Some t
    → step_at p n ≡ Some s →
    (b : ℕ → ℕ) → AreCovering p w b → step_cost w (slice_index bounds) n s ≤ b t
cost_least p w bounds under n t s lt owned at b covering =
    let more = cost_more w w (slice_index bounds) b (λ m. omega arith) (under.below b covering) n s in
    let h = (covering.each n lt).covered t s owned at in
    omega (arith, more, h)

pub cost_small : (p : Program) → IsFormed p → (w : ℕ → ℕ) → IsWithin (length p.nodes) (length p.nodes) w → (bounds : List ℕ) → AreUnder p w bounds
    → (n t : ℕ) (s : Step) → n < length p.nodes → owner_of p n ≡ Some t → step_at p n ≡ Some s →
    step_cost w (slice_index bounds) n s ≤ 16777216
cost_small p formed w within bounds under n t s lt owned at =
    let a = cost_least p w bounds under n t s lt owned at (ample p) (ample_covers p formed w within) in
    let b = ample_small p formed t in
    omega (arith, a, b)

sum-set_more : (xs : List ℕ) (i y : ℕ) → i < length xs → get_or xs i 0 < y → sum xs < sum (set xs i y)
sum-set_more xs i y lt more =
    let h : sum (set xs i y) + get_or xs i 0 ≡ sum xs + y = sum_by-set (λ x. x) xs i y 0 lt in
    omega (arith, h, more)

-- a bound that is raised to what a node asks
pub bound_raised : (p : Program) (w : ℕ → ℕ) (bounds : List ℕ) → AreUnder p w bounds → (n t : ℕ) (s : Step) → n < length p.nodes → t < length bounds
    → owner_of p n ≡ Some t → step_at p n ≡ Some s →
    (x : ℕ) → x ≡ step_cost w (slice_index bounds) n s → slice_index bounds t < x → IsRaised p w bounds (set bounds t x)
bound_raised p w bounds under n t s lt within owned at x is less = record {
  under = record {
    long = length-set bounds t x ∙ under.long;
    below = λ b covering k. elim (same_or_not k t) [
      | inl e ↦ (let P : ℕ → Type 0 = λ y. get_or (set bounds t x) y 0 ≤ b y in
          let here : get_or (set bounds t x) t 0 ≡ x = get_or-set_same bounds t x 0 within in
          let most = cost_least p w bounds under n t s lt owned at b covering in
          subst P (sym e) (omega (arith, here, most, is)))
      | inr ne ↦ (let there : get_or (set bounds t x) k 0 ≡ get_or bounds k 0 = get_or-set_other bounds t k x 0 ne in
          let below = under.below b covering k in
          omega (arith, there, below))
    ];
  };
  more = sum-set_more bounds t x within less;
}

-- a node that is covered
pub covered_at : (p : Program) (w : ℕ → ℕ) (bounds : List ℕ) (m t : ℕ) (s : Step) → owner_of p m ≡ Some t → step_at p m ≡ Some s → (x : ℕ)
    → x ≡ step_cost w (slice_index bounds) m s → x ≤ slice_index bounds t →
    (n : ℕ) → n ≡ m → IsCovered p w (slice_index bounds) n
covered_at p w bounds m t s owned at x is le n e = let P : ℕ → Type 0 = λ k. IsCovered p w (slice_index bounds) k in
    subst P (sym e) (record { covered = λ u r own there. same u r own there })
  where
    same : (u : ℕ) (r : Step) → owner_of p m ≡ Some u → step_at p m ≡ Some r → step_cost w (slice_index bounds) m r ≤ slice_index bounds u
    same u r own there =
        let e1 : t ≡ u = cc (owned, own) in
        let e2 : s ≡ r = cc (at, there) in
        let P : ℕ → Type 0 = λ k. step_cost w (slice_index bounds) m r ≤ slice_index bounds k in
        let Q : Step → Type 0 = λ k. step_cost w (slice_index bounds) m k ≤ slice_index bounds t in
        subst P e1 (subst Q e2 (omega (arith, is, le)))

pub zeros_under : (p : Program) (w : ℕ → ℕ) (bounds : List ℕ) → length bounds ≡ length p.threads → ((t : ℕ) → slice_index bounds t ≡ 0) → AreUnder p w bounds
zeros_under p w bounds long zeros = record { long = long; below = λ b covering t. let z = zeros t in omega (arith, z) }

-- what is left falls as the sum grows
pub sum_left : (old new : List ℕ) (count : ℕ) → length new ≡ count → ((t : ℕ) → slice_index new t ≤ 4294967296) → sum old < sum new
    → count * 4294967296 - sum new < count * 4294967296 - sum old
sum_left old new count long small more =
    let all : All (λ x. x ≤ 4294967296) new = λ n d lt. let same : get_or new n d ≡ get_or new n 0 = get_or_default_zero new n d lt in let w = small n in
    omega (arith, same, w) in
    let h : sum new ≤ length new * 4294967296 = sum_by-le (λ x. x) 4294967296 new all in
    let P : ℕ → Type 0 = λ c. sum new ≤ c * 4294967296 in
    let k : sum new ≤ count * 4294967296 = subst P long h in
    omega (arith, k, more)

pub more_after : (r : Bool) (first old new : List ℕ) → (r ≡ true → sum first < sum old) → (r ≡ false → old ≡ first) → sum old < sum new → sum first < sum new
more_after true first old new more same lt = let h = more refl in omega (arith, h, lt)
more_after false first old new more same lt = let h = ap sum (same refl) in omega (arith, h, lt)
