-- Where threads stand after the moves of a step, and that moves of different threads commute.
use Rattle.std.proofs.lemmas.Bool.{cases_lt}
use Rattle.std.proofs.Common.{◌≡◌, ◌≢◌, ℕ, zero, suc, ◌<◌, ◌≤◌, List, [], ◌∷◌, map, length, set, Option, Some, None, slice_get, unwrap_or, Contains, refl, sym}
use Rattle.std.proofs.Common.{ap, subst, ◌∙◌, ⊎_elim, arith, length-set}
use Rattle.std.proofs.lemmas.List.{set_comm}
use Rattle.std.proofs.lemmas.Option.{slice_get_past}
use Rattle.sc_graph.specs.declared.control.Status.{Status}
use Rattle.sc_graph.specs.declared.control.Status.TheVariants as status
use Rattle.sc_graph.specs.Program.{Program, entry_of}
use Rattle.sc_graph.specs.Steps.{moved, enters}
use Rattle.tick_laws.proofs.Lists.{contains_none, contains_cons, contains_head, contains_tail, contained, contains_map, get_set_other, get_set_same}

-- where thread k stands by a list of statuses
abbrev pub standing : List Status → ℕ → Status
standing statuses k = unwrap_or (slice_get statuses k) status.Absent

-- the threads that moves are of
abbrev pub movers : List (ℕ × Status) → List ℕ
movers moves = map (λ m. m.0) moves

-- thread k is moved
abbrev pub IsMoved : List (ℕ × Status) → ℕ → Type 0
IsMoved moves k = Contains (movers moves) k

-- who isn't absent has a status
pub known : (statuses : List Status) (k : ℕ) → standing statuses k ≢ status.Absent → k < length statuses
known [] k h = absurd (h refl)
known (s ∷ statuses) zero h = omega arith
known (s ∷ statuses) (suc k) h = let rest = known statuses k h in omega arith

pub standing_other : (statuses : List Status) (i k : ℕ) (s : Status) → k ≢ i → standing (set statuses i s) k ≡ standing statuses k
standing_other statuses i k s ne = ap (λ o. unwrap_or o status.Absent) (get_set_other statuses i k s ne)

pub standing_same : (statuses : List Status) (i : ℕ) (s : Status) → i < length statuses → standing (set statuses i s) i ≡ s
standing_same statuses i s lt = ap (λ o. unwrap_or o status.Absent) (get_set_same statuses i s lt)

pub moved_length : (moves : List (ℕ × Status)) (statuses : List Status) → length (moved moves statuses) ≡ length statuses
moved_length [] statuses = refl
moved_length (m ∷ moves) statuses = moved_length moves (set statuses m.0 m.1) ∙ length-set statuses m.0 m.1

-- who isn't moved stays
pub moved_other : (moves : List (ℕ × Status)) (statuses : List Status) (k : ℕ) → ¬ IsMoved moves k → standing (moved moves statuses) k ≡ standing statuses k
moved_other [] statuses k h = refl
moved_other (m ∷ moves) statuses k h =
    moved_other moves (set statuses m.0 m.1) k (λ tail. h (contains_tail m.0 k (movers moves) tail))
    ∙ standing_other statuses m.0 k m.1 (λ e. h (subst (λ i. Contains (m.0 ∷ movers moves) i) (sym e) (contains_head m.0 (movers moves))))

-- where each of a list is moved to the status that a function gives, one of them stands there
pub moved_all : (f : ℕ → ℕ × Status) (own : (k : ℕ) → (f k).0 ≡ k) (ks : List ℕ) (statuses : List Status) (k : ℕ) →
    Contains ks k → k < length statuses → standing (moved (map f ks) statuses) k ≡ (f k).1
moved_all f own [] statuses k h lt = absurd (contains_none k h)
moved_all f own (i ∷ ks) statuses k h lt =
    ⊎_elim
    (λ tail. moved_all f own ks (set statuses (f i).0 (f i).1) k tail (subst (λ n. k < n) (sym (length-set statuses (f i).0 (f i).1)) lt))
    (λ none. ⊎_elim (λ same. head same none) (λ tail. absurd (none tail)) (contains_cons i k ks h))
    (contained ks k)
  where
    not_later : ¬ Contains ks k → ¬ IsMoved (map f ks) k
    not_later none later =
        let at = contains_map (λ m. m.0) (map f ks) k later in
        let of = contains_map f ks at.0 at.1 in
        none (subst (Contains ks) (sym (own of.0) ∙ (ap (λ m. m.0) of.2 ∙ at.2)) of.1)

    head : i ≡ k → ¬ Contains ks k → standing (moved (map f (i ∷ ks)) statuses) k ≡ (f k).1
    head same none =
        moved_other (map f ks) (set statuses (f i).0 (f i).1) k (not_later none)
        ∙ (ap (standing (set statuses (f i).0 (f i).1)) (sym (own i ∙ same))
        ∙ (standing_same statuses (f i).0 (f i).1 (subst (λ n. n < length statuses) (sym (own i ∙ same)) lt)
        ∙ ap (λ n. (f n).1) same))

enters_own : (k : ℕ) (o : Option ℕ) → (enters k o).0 ≡ k
enters_own k None = refl
enters_own k (Some n) = refl

-- the threads moved with what a function gives are those of the list
pub movers_of : (f : ℕ → ℕ × Status) (own : (k : ℕ) → (f k).0 ≡ k) (ks : List ℕ) (k : ℕ) → IsMoved (map f ks) k → Contains ks k
movers_of f own ks k h =
    let at = contains_map (λ m. m.0) (map f ks) k h in
    let of = contains_map f ks at.0 at.1 in
    subst (Contains ks) (sym (own of.0) ∙ (ap (λ m. m.0) of.2 ∙ at.2)) of.1

-- the moves into children
abbrev pub entering : Program → List ℕ → List (ℕ × Status)
entering p children = map (λ k. enters k (entry_of p k)) children

-- the moves out of children
abbrev pub leaving : List ℕ → List (ℕ × Status)
leaving children = map (λ k. (k, status.Absent)) children

pub entering_own : (p : Program) (k : ℕ) → (enters k (entry_of p k)).0 ≡ k
entering_own p k = enters_own k (entry_of p k)

pub entering_movers : (p : Program) (children : List ℕ) (k : ℕ) → IsMoved (entering p children) k → Contains children k
entering_movers p children k h = movers_of (λ i. enters i (entry_of p i)) (entering_own p) children k h

pub leaving_movers : (children : List ℕ) (k : ℕ) → IsMoved (leaving children) k → Contains children k
leaving_movers children k h = movers_of (λ i. (i, status.Absent)) (λ i. refl) children k h

-- a child of a fork stands at its entry
pub entered_at : (p : Program) (children : List ℕ) (statuses : List Status) (k n : ℕ) → Contains children k → entry_of p k ≡ Some n → k < length statuses →
    standing (moved (entering p children) statuses) k ≡ status.At n
entered_at p children statuses k n h entry lt =
    moved_all (λ i. enters i (entry_of p i)) (entering_own p) children statuses k h lt ∙ ap (λ o. (enters k o).1) entry

standing_past : (statuses : List Status) (k : ℕ) → length statuses ≤ k → standing statuses k ≡ status.Absent
standing_past statuses k le = ap (λ o. unwrap_or o status.Absent) (slice_get_past statuses k le)

-- a child of a finished fork is absent
pub left_absent : (children : List ℕ) (statuses : List Status) (k : ℕ) → Contains children k → standing (moved (leaving children) statuses) k ≡ status.Absent
left_absent children statuses k h =
    ⊎_elim (λ lt. moved_all (λ i. (i, status.Absent)) (λ i. refl) children statuses k h lt)
    (λ le. standing_past (moved (leaving children) statuses) k (subst (λ n. n ≤ k) (sym (moved_length (leaving children) statuses)) le))
    (cases_lt k (length statuses))

moved_late : (moves : List (ℕ × Status)) (statuses : List Status) (k : ℕ) (s : Status) → ¬ IsMoved moves k → moved moves (set statuses k s)
    ≡ set (moved moves statuses) k s
moved_late [] statuses k s h = refl
moved_late (m ∷ moves) statuses k s h =
    ap (moved moves) (set_comm statuses k m.0 s m.1 (λ e. h (subst (λ i. Contains (m.0 ∷ movers moves) i) (sym e) (contains_head m.0 (movers moves)))))
    ∙ moved_late moves (set statuses m.0 m.1) k s (λ tail. h (contains_tail m.0 k (movers moves) tail))

-- moves of different threads commute
pub moved_turned : (moves others : List (ℕ × Status)) (statuses : List Status) → ((k : ℕ) → IsMoved moves k → IsMoved others k → ⊥) →
    moved moves (moved others statuses) ≡ moved others (moved moves statuses)
moved_turned [] others statuses apart = refl
moved_turned (m ∷ moves) others statuses apart =
    ap (moved moves) (sym (moved_late others statuses m.0 m.1 (λ h. apart m.0 (contains_head m.0 (movers moves)) h)))
    ∙ moved_turned moves others (set statuses m.0 m.1) (λ k h i. apart k (contains_tail m.0 k (movers moves) h) i)
