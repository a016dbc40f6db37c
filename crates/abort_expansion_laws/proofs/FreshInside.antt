-- A superstate that was just opened: each of its regions stands where its initial state is entered; where that opens a
-- superstate, that one was just opened too, and nobody is inside of anything else.
use Rattle.std.proofs.Common.{◌≡◌, ◌≢◌, ℕ, zero, suc, ◌<◌, ⊎_elim, List, [], ◌∷◌, ◌++◌, map, length, slice_set, Contains}
use Rattle.std.proofs.Common.{refl, sym, ap, subst, ◌∙◌, arith}
use Rattle.std.proofs.lemmas.List.{length-map, length-set}
use Rattle.core_charts.specs.declared.region.Transition.{Transition}
use Rattle.core_charts.specs.Tests.{at_once, first_closing_tests}
use Rattle.chart_machine.specs.declared.standing.Standing.{Standing}
use Rattle.chart_machine.specs.declared.standing.Standing.TheVariants as at
use Rattle.chart_machine.specs.declared.standing.Move.{Move}
use Rattle.chart_machine.specs.declared.table.RegionRow.{RegionRow}
use Rattle.chart_machine.specs.declared.table.Table.{Table}
use Rattle.chart_machine.specs.Table.{state_at}
use Rattle.chart_machine.specs.Turns.{LiesIn, itself, deeper}
use Rattle.chart_machine.specs.Steps.{to, moved}
use Rattle.tick_laws.proofs.Lists.{same_or_not}
use Rattle.chart_machine_laws.specs.Tree.{IsTree, around, holder}
use Rattle.chart_machine_laws.proofs.LyingIn.{none_in, head_in, tail_in, head_or_tail, around_around}
use Rattle.chart_lowering_laws.proofs.Entering.{moved_length}
use Rattle.abort_expansion_laws.specs.CoreRows.{own, IsState}
use Rattle.abort_expansion_laws.proofs.Leaving.{at_number, set_here, set_other, moved_append}
use Rattle.abort_expansion_laws.proofs.StartingRegions.{Once}
use Rattle.abort_expansion_laws.proofs.StateEntry.{Entry, entry_ends, entry_tries, entry_guards, entry_opens}
use Rattle.abort_expansion_laws.proofs.InsideAround.{one_in_other}

-- what a list of moves makes of a region depends on where that region stands alone
pub moved_alike : (ms : List Move) (zs ys : List Standing) (q : ℕ) → length zs ≡ length ys → at_number zs q ≡ at_number ys q →
    at_number (moved ms zs) q ≡ at_number (moved ms ys) q
moved_alike [] zs ys q size same = same
moved_alike (m ∷ ms) zs ys q size same =
    moved_alike ms (slice_set zs m.region m.standing) (slice_set ys m.region m.standing) q
    (length-set zs m.region m.standing ∙ (size ∙ sym (length-set ys m.region m.standing))) (set_alike zs ys m.region q m.standing size same)
  where
    set_alike : (zs ys : List Standing) (r q : ℕ) (x : Standing) → length zs ≡ length ys → at_number zs q ≡ at_number ys q →
        at_number (slice_set zs r x) q ≡ at_number (slice_set ys r x) q
    set_alike [] [] r q x size same = same
    set_alike [] (y ∷ ys) r q x size same = absurd (omega (size, arith))
    set_alike (z ∷ zs) [] r q x size same = absurd (omega (size, arith))
    set_alike (z ∷ zs) (y ∷ ys) zero zero x size same = refl
    set_alike (z ∷ zs) (y ∷ ys) zero (suc q) x size same = same
    set_alike (z ∷ zs) (y ∷ ys) (suc r) zero x size same = same
    set_alike (z ∷ zs) (y ∷ ys) (suc r) (suc q) x size same = set_alike zs ys r q x (omega (size, arith)) same

-- where the first of these moves leads
abbrev pub first_standing : List Move → Standing
first_standing [] = at.Outside
first_standing (m ∷ ms) = m.standing

-- where nobody is anywhere
abbrev pub nobody : Table → List Standing
nobody k = at.Outside ∷ map (λ r. at.Outside) k.regions

pub nobody_there : (k : Table) (q : ℕ) → at_number (nobody k) q ≡ at.Outside
nobody_there k zero = refl
nobody_there k (suc q) = all_out k.regions q
  where
    all_out : (rs : List RegionRow) (q : ℕ) → at_number (map (λ r. at.Outside) rs) q ≡ at.Outside
    all_out [] q = refl
    all_out (r ∷ rs) zero = refl
    all_out (r ∷ rs) (suc q) = all_out rs q

pub nobody_size : (k : Table) → length (nobody k) ≡ suc (length k.regions)
nobody_size k = ap suc (length-map k.regions (λ r. at.Outside))

module _ (k : Table) where
  -- the moves of entering these states
  abbrev pub all_entered : List ℕ → List Move
  all_entered [] = []
  all_entered (x ∷ xs) = (state_at k x).entered ++ all_entered xs

  -- entered, the state opens nothing, or is opened
  pub data Shape (x : ℕ) : Type 0 where
    shape_closed : (y : Standing) → ((u : ℕ) (tests : List Transition) → y ≢ at.Within u tests) → (state_at k x).entered ≡ to (holder k x) y ∷ [] → Shape x
    shape_open : (tests : List Transition) → (state_at k x).entered ≡ to (holder k x) (at.Within x tests) ∷ (state_at k x).opened → Shape x

  pub shape_of : (x : ℕ) → Entry k x → Shape x
  shape_of x (entry_ends e) = shape_closed at.Ended (λ u tests w. absurd cc) e
  shape_of x (entry_tries none e) = shape_closed (at.Trying x (at_once (own k x))) (λ u tests w. absurd cc) e
  shape_of x (entry_guards t tests some strong e) = shape_closed (at.Entering x (t ∷ tests)) (λ u others w. absurd cc) e
  shape_of x (entry_opens some strong e) = shape_open (first_closing_tests (own k x)) e

  -- the inside of a superstate is what its own moves make of an empty inside
  abbrev pub Fresh : ℕ → (ℕ → Standing) → ℕ → Type 0
  Fresh n f s =
      (zs : List Standing) → length zs ≡ n → ((q : ℕ) → Contains (around k q) s → at_number zs q ≡ at.Outside) →
      (q : ℕ) → Contains (around k q) s → f q ≡ at_number (moved (state_at k s).opened zs) q

  -- a region begins in state x
  pub data Begun (n : ℕ) (f : ℕ → Standing) (x : ℕ) : Type 0 where
    begun_closed : (y : Standing) → ((u : ℕ) (tests : List Transition) → y ≢ at.Within u tests) →
        (state_at k x).entered ≡ to (holder k x) y ∷ [] → f (holder k x) ≡ y →
        ((q : ℕ) → Contains (around k q) x → f q ≡ at.Outside) → Begun n f x
    begun_open : (tests : List Transition) → (state_at k x).entered ≡ to (holder k x) (at.Within x tests) ∷ (state_at k x).opened →
        f (holder k x) ≡ at.Within x tests → Fresh n f x → Begun n f x

  pub record Begins (n : ℕ) (f : ℕ → Standing) (x : ℕ) : Type 0 where
    pub begun : Begun n f x
    -- nobody is inside of another state of the region
    pub others : (y q : ℕ) → holder k y ≡ holder k x → y ≢ x → Contains (around k q) y → f q ≡ at.Outside

  -- what holds by where the region stands, and who lies in it
  pub begins_alike : (n : ℕ) (f g : ℕ → Standing) (x : ℕ) → ((q : ℕ) → LiesIn k q (holder k x) → g q ≡ f q) → Begins n f x → Begins n g x
  begins_alike n f g x same b =
      record {
        begun = begun_too b.begun;
        others = λ y q held ne inner. same q (deeper y inner held) ∙ b.others y q held ne inner;
      }
    where
      begun_too : Begun n f x → Begun n g x
      begun_too (begun_closed y never e here inside) =
          begun_closed y never e (same (holder k x) (itself refl) ∙ here) (λ q inner. same q (deeper x inner refl) ∙ inside q inner)
      begun_too (begun_open tests e here fresh) =
          begun_open tests e (same (holder k x) (itself refl) ∙ here)
          (λ zs size empty q inner. same q (deeper x inner refl) ∙ fresh zs size empty q inner)

module _ (k : Table) (n : ℕ) (f : ℕ → Standing) where
  -- nobody lies in the region
  abbrev pub NobodyIn : ℕ → Type 0
  NobodyIn r = (q y : ℕ) → Contains (around k q) y → holder k y ≡ r → f q ≡ at.Outside

  -- nobody lies in another state of it
  abbrev pub ElsewhereNobody : ℕ → ℕ → Type 0
  ElsewhereNobody r x = (q y : ℕ) → Contains (around k q) y → holder k y ≡ r → y ≢ x → f q ≡ at.Outside

  pub begins_closed : (x : ℕ) (y : Standing) → Begins k n f x → ((u : ℕ) (tests : List Transition) → y ≢ at.Within u tests) →
      (state_at k x).entered ≡ to (holder k x) y ∷ [] → (f (holder k x) ≡ y) × NobodyIn (holder k x)
  begins_closed x y b never e = by_begun b.begun
    where
      by_begun : Begun k n f x → (f (holder k x) ≡ y) × NobodyIn (holder k x)
      by_begun (begun_closed z never_z e_z here inside) =
          let standing : z ≡ y = ap first_standing (sym e_z ∙ e) in (
            here ∙ standing,
            λ q u inner held.
                ⊎_elim (λ own_one. inside q (subst (Contains (around k q)) own_one inner)) (λ ne. b.others u q held ne inner) (same_or_not u x),
          )
      by_begun (begun_open tests e_z here fresh) =
          let standing : y ≡ at.Within x tests = ap first_standing (sym e ∙ e_z) in absurd (never x tests standing)

  pub begins_open : (x : ℕ) (tests : List Transition) → Begins k n f x →
      (state_at k x).entered ≡ to (holder k x) (at.Within x tests) ∷ (state_at k x).opened →
      (f (holder k x) ≡ at.Within x tests) × Fresh k n f x × ElsewhereNobody (holder k x) x
  begins_open x tests b e = by_begun b.begun
    where
      by_begun : Begun k n f x → (f (holder k x) ≡ at.Within x tests) × Fresh k n f x × ElsewhereNobody (holder k x) x
      by_begun (begun_closed z never e_z here inside) =
          let standing : z ≡ at.Within x tests = ap first_standing (sym e_z ∙ e) in absurd (never x tests standing)
      by_begun (begun_open others e_z here fresh) =
          let standing : at.Within x others ≡ at.Within x tests = ap first_standing (sym e_z ∙ e) in
          (here ∙ standing, fresh, λ q u inner held ne. b.others u q held ne inner)

module _ (k : Table) (tree : IsTree k) (entries : (x : ℕ) → IsState k x → Entry k x)
    (elsewhere : (s t : ℕ) (zs : List Standing) → IsState k s → ¬ Contains (around k t) s → at_number (moved (state_at k s).opened zs) t ≡ at_number zs t) where
  -- of regions with the same around them, nobody lies in two
  pub in_one : (q r p : ℕ) → around k r ≡ around k p → LiesIn k q r → LiesIn k q p → r ≡ p
  in_one q r p even (itself a) (itself b) = sym a ∙ b
  in_one q r p even (itself a) (deeper y inner held) =
      let up = tree.deeper p y (subst (λ zs. Contains zs y) (ap (around k) a ∙ even) inner) in absurd (omega (up, held, arith))
  in_one q r p even (deeper x inner held) (itself b) =
      let up = tree.deeper r x (subst (λ zs. Contains zs x) (ap (around k) b ∙ sym even) inner) in absurd (omega (up, held, arith))
  in_one q r p even (deeper x in_x held_x) (deeper y in_y held_y) =
      ⊎_elim (λ same. sym held_x ∙ (ap (holder k) same ∙ held_y))
      (⊎_elim
      (λ outer.
      let up = tree.deeper p y (subst (λ zs. Contains zs y) (ap (around k) held_x ∙ even) outer) in absurd (omega (up, held_y, arith)))
      (λ outer.
      let up = tree.deeper r x (subst (λ zs. Contains zs x) (ap (around k) held_y ∙ sym even) outer) in absurd (omega (up, held_x, arith))))
      (one_in_other k tree.nested (around k q) q x y refl in_x in_y)

  pub not_inside : (x : ℕ) → ¬ Contains (around k (holder k x)) x
  not_inside x inner = let up = tree.deeper (holder k x) x inner in omega (up, arith)

  -- who lies in one state of a region lies in no other
  pub one_state : (q x y : ℕ) → Contains (around k q) x → Contains (around k q) y → holder k y ≡ holder k x → y ≡ x
  one_state q x y in_x in_y held =
      ⊎_elim (λ same. same)
      (⊎_elim (λ outer. let up = tree.deeper (holder k y) x outer in absurd (omega (up, held, arith)))
      (λ outer. let up = tree.deeper (holder k x) y outer in absurd (omega (up, held, arith))))
      (one_in_other k tree.nested (around k q) q y x refl in_y in_x)

  -- entering a state moves its own region, and who lies in the state
  entered_other : (x q : ℕ) (zs : List Standing) → IsState k x → q ≢ holder k x → ¬ Contains (around k q) x →
      at_number (moved (state_at k x).entered zs) q ≡ at_number zs q
  entered_other x q zs is ne out = by_shape (shape_of k x (entries x is))
    where
      by_shape : Shape k x → at_number (moved (state_at k x).entered zs) q ≡ at_number zs q
      by_shape (shape_closed y never e) = ap (λ ms. at_number (moved ms zs) q) e ∙ set_other zs (holder k x) q y ne
      by_shape (shape_open tests e) =
          ap (λ ms. at_number (moved ms zs) q) e ∙
          (elsewhere x q (slice_set zs (holder k x) (at.Within x tests)) is out ∙ set_other zs (holder k x) q (at.Within x tests) ne)

  pub entered_apart : (x q : ℕ) (zs : List Standing) → IsState k x → ¬ LiesIn k q (holder k x) →
      at_number (moved (state_at k x).entered zs) q ≡ at_number zs q
  entered_apart x q zs is out = entered_other x q zs is (λ e. out (itself e)) (λ inner. out (deeper x inner refl))

  pub all_apart : (xs : List ℕ) (q : ℕ) (zs : List Standing) → ((x : ℕ) → Contains xs x → IsState k x) →
      ((x : ℕ) → Contains xs x → ¬ LiesIn k q (holder k x)) → at_number (moved (all_entered k xs) zs) q ≡ at_number zs q
  all_apart [] q zs are out = refl
  all_apart (x ∷ xs) q zs are out =
      ap (λ ys. at_number ys q) (moved_append (state_at k x).entered (all_entered k xs) zs) ∙
      (all_apart xs q (moved (state_at k x).entered zs) (λ y h. are y (tail_in x y xs h)) (λ y h. out y (tail_in x y xs h)) ∙
      entered_apart x q zs (are x (head_in x xs)) (out x (head_in x xs)))

  -- one state is entered, where nobody was
  pub one_begins : (x : ℕ) (zs : List Standing) → IsState k x → holder k x < length zs → NobodyIn k (length zs) (λ q. at_number zs q) (holder k x) →
      Begins k (length zs) (λ q. at_number (moved (state_at k x).entered zs) q) x
  one_begins x zs is lt empty = record { begun = by_shape (shape_of k x (entries x is)); others = others }
    where
      others : (y q : ℕ) → holder k y ≡ holder k x → y ≢ x → Contains (around k q) y → at_number (moved (state_at k x).entered zs) q ≡ at.Outside
      others y q held ne inner =
          entered_other x q zs is
          (λ e. let up = tree.deeper q y inner in omega (up, held, e, arith))
          (λ in_x. ne (one_state q x y in_x inner held)) ∙
          empty q y inner held

      inside_ne : (q : ℕ) → Contains (around k q) x → q ≢ holder k x
      inside_ne q inner e = let up = tree.deeper q x inner in omega (up, e, arith)

      by_shape : Shape k x → Begun k (length zs) (λ q. at_number (moved (state_at k x).entered zs) q) x
      by_shape (shape_closed y never e) =
          begun_closed y never e (ap (λ ms. at_number (moved ms zs) (holder k x)) e ∙ set_here zs (holder k x) y lt)
          (λ q inner.
          ap (λ ms. at_number (moved ms zs) q) e ∙ (set_other zs (holder k x) q y (inside_ne q inner) ∙ empty q x inner refl))
      by_shape (shape_open tests e) =
          begun_open tests e
          (ap (λ ms. at_number (moved ms zs) (holder k x)) e ∙
          (elsewhere x (holder k x) (slice_set zs (holder k x) (at.Within x tests)) is (not_inside x) ∙ set_here zs (holder k x) (at.Within x tests) lt))
          (λ ys size none q inner.
          ap (λ ms. at_number (moved ms zs) q) e ∙
          moved_alike (state_at k x).opened (slice_set zs (holder k x) (at.Within x tests)) ys q
          (length-set zs (holder k x) (at.Within x tests) ∙ sym size)
          (set_other zs (holder k x) q (at.Within x tests) (inside_ne q inner) ∙ (empty q x inner refl ∙ sym (none q inner))))

  -- of some states of regions side by side, that are entered where nobody is
  pub look : (ss xs : List ℕ) (zs : List Standing) → ((x : ℕ) → Contains xs x → IsState k x × (around k (holder k x) ≡ ss) × (holder k x < length zs)) →
      (x : ℕ) → Contains xs x → Once (holder k x) (map (holder k) xs) →
      ((q : ℕ) → LiesIn k q (holder k x) → at_number zs q ≡ at.Outside) →
      Begins k (length zs) (λ q. at_number (moved (all_entered k xs) zs) q) x
  look ss [] zs are x here once empty = absurd (none_in x here)
  look ss (y ∷ xs) zs are x here once empty =
      ⊎_elim
      (λ first.
      let own_one : y ≡ x = ⊎_elim (λ same. same) (λ tail. absurd (first.1 (mapped xs x tail))) (head_or_tail y x xs here) in
      begins_alike k (length zs) (λ q. at_number (moved (state_at k x).entered zs) q) (λ q. at_number (moved (all_entered k (y ∷ xs)) zs) q) x
      (λ q lies.
      ap (λ ys. at_number ys q) (moved_append (state_at k y).entered (all_entered k xs) zs) ∙
      (all_apart xs q (moved (state_at k y).entered zs) (λ u h. (are u (tail_in y u xs h)).0)
      (λ u h in_u. first.1 (subst (Contains (map (holder k) xs)) (in_one q (holder k u) (holder k x) (level u (tail_in y u xs h)) in_u lies) (mapped xs u h))) ∙
      ap (λ v. at_number (moved (state_at k v).entered zs) q) own_one))
      (one_begins x zs (are x here).0 (are x here).2 (λ q u inner held. empty q (deeper u inner held))))
      (λ later.
      let tail : Contains xs x = ⊎_elim (λ same. absurd (later.0 (ap (holder k) same))) (λ tail. tail) (head_or_tail y x xs here) in
      let apart : (q : ℕ) → LiesIn k q (holder k x) → at_number (moved (state_at k y).entered zs) q ≡ at_number zs q =
      λ q lies. entered_apart y q zs (are y (head_in y xs)).0
      (λ in_y. later.0 (in_one q (holder k y) (holder k x) (level y (head_in y xs)) in_y lies)) in
      let size : length (moved (state_at k y).entered zs) ≡ length zs = moved_length (state_at k y).entered zs in
      begins_alike k (length zs) (λ q. at_number (moved (all_entered k xs) (moved (state_at k y).entered zs)) q)
      (λ q. at_number (moved (all_entered k (y ∷ xs)) zs) q) x
      (λ q lies. ap (λ ys. at_number ys q) (moved_append (state_at k y).entered (all_entered k xs) zs))
      (subst (λ n. Begins k n (λ q. at_number (moved (all_entered k xs) (moved (state_at k y).entered zs)) q) x) size
      (look ss xs (moved (state_at k y).entered zs)
      (λ u h. let a = are u (tail_in y u xs h) in (a.0, a.1, subst (λ n. holder k u < n) (sym size) a.2)) x tail later.1
      (λ q lies. apart q lies ∙ empty q lies))))
      once
    where
      mapped : (ys : List ℕ) (u : ℕ) → Contains ys u → Contains (map (holder k) ys) (holder k u)
      mapped [] u h = absurd (none_in u h)
      mapped (z ∷ ys) u h =
          ⊎_elim (λ same. subst (λ v. Contains (holder k z ∷ map (holder k) ys) (holder k v)) same (head_in (holder k z) (map (holder k) ys)))
          (λ tail. tail_in (holder k z) (holder k u) (map (holder k) ys) (mapped ys u tail)) (head_or_tail z u ys h)

      level : (u : ℕ) → Contains (y ∷ xs) u → around k (holder k u) ≡ around k (holder k x)
      level u h = (are u h).1 ∙ sym (are x here).1

  -- what was just opened, and so are its regions
  pub fresh_begins : (f : ℕ → Standing) (s : ℕ) (xs : List ℕ) → Fresh k (suc (length k.regions)) f s → (state_at k s).opened ≡ all_entered k xs →
      ((x : ℕ) → Contains xs x → IsState k x × (around k (holder k x) ≡ s ∷ around k (holder k s)) × (holder k x < suc (length k.regions))) →
      (x : ℕ) → Contains xs x → Once (holder k x) (map (holder k) xs) → Begins k (suc (length k.regions)) f x
  fresh_begins f s xs fresh opens are x here once =
      begins_alike k (suc (length k.regions)) (λ q. at_number (moved (all_entered k xs) (nobody k)) q) f x
      (λ q lies.
      fresh (nobody k) (nobody_size k) (λ p inner. nobody_there k p) q (inside_it q lies) ∙
      ap (λ ms. at_number (moved ms (nobody k)) q) opens)
      (subst (λ n. Begins k n (λ q. at_number (moved (all_entered k xs) (nobody k)) q) x) (nobody_size k)
      (look (s ∷ around k (holder k s)) xs (nobody k)
      (λ u h. let a = are u h in (a.0, a.1, subst (λ n. holder k u < n) (sym (nobody_size k)) a.2)) x here once (λ q lies. nobody_there k q)))
    where
      own_around : Contains (around k (holder k x)) s
      own_around = subst (λ zs. Contains zs s) (sym (are x here).1) (head_in s (around k (holder k s)))

      inside_it : (q : ℕ) → LiesIn k q (holder k x) → Contains (around k q) s
      inside_it q (itself same) = subst (λ p. Contains (around k p) s) (sym same) own_around
      inside_it q (deeper u inner held) =
          around_around k tree.nested (around k q) q u s refl inner (subst (λ p. Contains (around k p) s) (sym held) own_around)
