-- Labels in a row: one more behind them, and the first of a name.
use Rattle.std.proofs.Common.{◌≡◌, ℕ, zero, suc, ◌+◌, ◌-◌, ◌≤◌, ◌<◌, Bool, true, false, Option, Some, None, List, [], ◌∷◌, ◌++◌}
use Rattle.std.proofs.Common.{drop, length, get_or, slice_get, cond, refl, ap}
use Rattle.std.proofs.Common.{sym, subst, ◌∙◌, if◌then◌else◌, arith}
use Rattle.std.specs.Prelude.{option_map}
use Rattle.std.specs.Cmp.Lexicographic.{nat_list_eq_equiv}
use Rattle.std.specs.Option.{option_or}
use Rattle.std.specs.Str.{bytes_eq}
use Rattle.std.proofs.lemmas.Option.{none-some}
use Rattle.scl_graph.specs.declared.landing.Landing.{Landing}
use Rattle.scl_graph.specs.declared.landing.Landing.TheVariants as lands
use Rattle.scl_graph.specs.Inside.Gathering.{Noted, Notes, find, place_of}

-- ---- one more

lookup_behind : (name other : List ℕ) (w : Landing) (labels : Noted)
    → find (labels ++ (name, w) ∷ []) other ≡ option_or (find labels other) (if bytes_eq name other then Some w else None)
lookup_behind name other w [] = ap (λ b. cond b (Some w) None) (nat_list_eq_equiv.symm other name)
lookup_behind name other w (e ∷ labels) = by (bytes_eq other e.0) (lookup_behind name other w labels)
  where
    by : (b : Bool) → find (labels ++ (name, w) ∷ []) other ≡ option_or (find labels other) (if bytes_eq name other then Some w else None)
        → cond b (Some e.1) (find (labels ++ (name, w) ∷ []) other)
        ≡ option_or (cond b (Some e.1) (find labels other)) (if bytes_eq name other then Some w else None)
    by true h = refl
    by false h = h

longer : (e : List ℕ × Landing) (labels : Noted) → length (labels ++ e ∷ []) ≤ suc (length labels)
longer e [] = omega arith
longer e (d ∷ labels) = let h : _ = longer e labels in omega (arith, h)

pub noted : (name : List ℕ) (w : Landing) (old new : Noted) → new ≡ old ++ (name, w) ∷ [] → Notes name w old new
noted name w old new is = subst (Notes name w old) (sym is) (record { each = λ other. lookup_behind name other w old; count = longer (name, w) old })

-- ---- the first of a name

abbrev pub nothing : List ℕ × Landing
nothing = ([], lands.Node 0)

-- what stands at the place of a name
pub record PlacedAt (labels : Noted) (name : List ℕ) (p : ℕ) : Type 0 where
  pub within : p < length labels
  pub equal : bytes_eq name (get_or labels p nothing).0 ≡ true
  pub found : find labels name ≡ Some (get_or labels p nothing).1

abbrev number : Option ℕ → ℕ
number None = 0
number (Some p) = p

first_placed : (e : List ℕ × Landing) (labels : Noted) (name : List ℕ) → bytes_eq name e.0 ≡ true → PlacedAt (e ∷ labels) name 0
first_placed e labels name is = record { within = omega arith; equal = is; found = ap (λ b. cond b (Some e.1) (find labels name)) is }

later_placed : (e : List ℕ × Landing) (labels : Noted) (name : List ℕ) (p : ℕ) → bytes_eq name e.0 ≡ false → PlacedAt labels name p
    → PlacedAt (e ∷ labels) name (suc p)
later_placed e labels name p is h =
    let within : p < length labels = h.within in
    record { within = omega (arith, within); equal = h.equal; found = ap (λ b. cond b (Some e.1) (find labels name)) is ∙ h.found }

placed_step : (e : List ℕ × Landing) (labels : Noted) (name : List ℕ) (p : ℕ) → ((q : ℕ) → place_of labels name ≡ Some q → PlacedAt labels name q)
    → (b : Bool) → bytes_eq name e.0 ≡ b → (o : Option ℕ) → place_of labels name ≡ o → (if b then Some 0 else option_map suc o) ≡ Some p
    → PlacedAt (e ∷ labels) name p
placed_step e labels name p rest true t o is found = subst (PlacedAt (e ∷ labels) name) (ap number found) (first_placed e labels name t)
placed_step e labels name p rest false t None is found = absurd (none-some p found)
placed_step e labels name p rest false t (Some q) is found =
    subst (PlacedAt (e ∷ labels) name) (ap number found) (later_placed e labels name q t (rest q is))

pub placed : (labels : Noted) (name : List ℕ) (p : ℕ) → place_of labels name ≡ Some p → PlacedAt labels name p
placed [] name p found = absurd (none-some p found)
placed (e ∷ labels) name p found =
    placed_step e labels name p (λ q is. placed labels name q is) (bytes_eq name e.0) refl (place_of labels name) refl found

-- what is found has a place
pub found_place : (labels : Noted) (name : List ℕ) (w : Landing) → find labels name ≡ Some w → (p : ℕ) × (place_of labels name ≡ Some p)
found_place [] name w found = absurd (none-some w found)
found_place (e ∷ labels) name w found = by (bytes_eq name e.0) refl (found_place labels name w) found
  where
    by : (b : Bool) → bytes_eq name e.0 ≡ b → (find labels name ≡ Some w → (p : ℕ) × (place_of labels name ≡ Some p))
        → cond b (Some e.1) (find labels name) ≡ Some w → (p : ℕ) × (place_of (e ∷ labels) name ≡ Some p)
    by true t rest is = (0, ap (λ b. if b then Some 0 else option_map suc (place_of labels name)) t)
    by false t rest is =
        let r : (p : ℕ) × (place_of labels name ≡ Some p) = rest is in
        (suc r.0, ap (λ b. if b then Some 0 else option_map suc (place_of labels name)) t ∙ ap (option_map suc) r.1)

-- ---- a table that is made from the last to the first

-- the place of a label among those from this place on
abbrev pub place_from : ℕ → Noted → List ℕ → Option ℕ
place_from at labels name = option_map (λ p. at + p) (place_of (drop at labels) name)

entry_is : (labels : Noted) (at : ℕ) (e : List ℕ × Landing) → slice_get labels at ≡ Some e → drop at labels ≡ e ∷ drop (at + 1) labels
entry_is [] at e is = absurd cc
entry_is (d ∷ labels) zero e is = let same : d ≡ e = cc in ap (λ z. z ∷ labels) same
entry_is (d ∷ labels) (suc at) e is =
    let more : suc (at + 1) ≡ suc at + 1 = omega arith in
    entry_is labels at e is ∙ ap (λ n. e ∷ drop n (d ∷ labels)) more

one_more : (at : ℕ) (later : Option ℕ) → option_map (λ p. (at + 1) + p) later ≡ option_map (λ p. at + p) (option_map suc later)
one_more at None = refl
one_more at (Some p) = ap Some (omega arith)

first : (at : ℕ) (b : Bool) (later : Option ℕ) → cond b (Some at) (option_map (λ p. (at + 1) + p) later)
    ≡ option_map (λ p. at + p) (if b then Some 0 else option_map suc later)
first at true later = ap Some (omega arith)
first at false later = one_more at later

-- the label of this place has the name, or it has not
pub placed_here : (labels : Noted) (at : ℕ) (e : List ℕ × Landing) (name : List ℕ) → slice_get labels at ≡ Some e → bytes_eq name e.0 ≡ true
    → place_from at labels name ≡ Some at
placed_here labels at e name stands is =
    ap (λ l. option_map (λ p. at + p) (place_of l name)) (entry_is labels at e stands)
    ∙ ap (λ b. option_map (λ p. at + p) (if b then Some 0 else option_map suc (place_of (drop (at + 1) labels) name))) is
    ∙ ap Some (omega arith)

pub placed_further : (labels : Noted) (at : ℕ) (e : List ℕ × Landing) (name : List ℕ) → slice_get labels at ≡ Some e → bytes_eq name e.0 ≡ false
    → place_from (at + 1) labels name ≡ place_from at labels name
placed_further labels at e name stands is =
    one_more at (place_of (drop (at + 1) labels) name)
    ∙ ap (λ b. option_map (λ p. at + p) (if b then Some 0 else option_map suc (place_of (drop (at + 1) labels) name))) (sym is)
    ∙ ap (λ l. option_map (λ p. at + p) (place_of l name)) (sym (entry_is labels at e stands))

-- what a table holds once the label before the others is put into it
pub one_before : (f g : List ℕ → Option ℕ) (labels : Noted) (left : ℕ) (e : List ℕ × Landing) → 0 < left → slice_get labels (left - 1) ≡ Some e
    → ((name : List ℕ) → f name ≡ place_from left labels name) → ((name : List ℕ) → g name ≡ cond (bytes_eq e.0 name) (Some (left - 1)) (f name))
    → (name : List ℕ) → g name ≡ place_from (left - 1) labels name
one_before f g labels left e some is was more name =
    let next : left ≡ (left - 1) + 1 = omega (arith, some) in
    more name
    ∙ ap (cond (bytes_eq e.0 name) (Some (left - 1))) (was name ∙ ap (λ at. place_from at labels name) next)
    ∙ ap (λ b. cond b (Some (left - 1)) (place_from ((left - 1) + 1) labels name)) (nat_list_eq_equiv.symm e.0 name)
    ∙ first (left - 1) (bytes_eq name e.0) (place_of (drop ((left - 1) + 1) labels) name)
    ∙ ap (λ some. option_map (λ p. (left - 1) + p) (place_of some name)) (sym (entry_is labels (left - 1) e is))
