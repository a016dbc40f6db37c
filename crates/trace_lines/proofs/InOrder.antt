-- Values in the order of their names, and one more among them.
use Rattle.std.proofs.Common.{◌≡◌, ℕ, zero, suc, ◌-◌, ◌≤◌, List, [], ◌∷◌, ◌++◌, Bool, true, false, cond, length, Some, None, Ordering, Less, Equal, Greater}
use Rattle.std.proofs.Common.{refl, sym, ap, ◌∙◌, arith, slice_get, subst}
use Rattle.std.specs.Prelude.{insert, slice_set}
use Rattle.std.specs.Ordering.{nat_cmp, is_eq, is_gt, ordering_reverse, match_ordering}
use Rattle.std.specs.Cmp.Lexicographic.{slice_cmp, nat_list_cmp_total}
use Rattle.std.proofs.lemmas.Map.Text.{is_eq-slice_cmp}
use Rattle.std.proofs.lemmas.Slice.Eq.{bytes_eq-Decides}
use Rattle.sc_values.specs.declared.value.Value.{Value}
use Rattle.trace_lines.specs.Inside.Ordered.{is_behind, IsBefore, AreInOrder, is_behind_last, place_in, IsNamedAt, with_given}

abbrev pub order : List ℕ → List ℕ → Ordering
order = slice_cmp nat_cmp

pub turned : (a b : List ℕ) (o : Ordering) → order a b ≡ o → order b a ≡ ordering_reverse o
turned a b o e = nat_list_cmp_total.antisymm b a ∙ ap ordering_reverse e

pub behind_is : (o : Ordering) → is_gt o ≡ true → o ≡ Greater
behind_is Less e = absurd cc
behind_is Equal e = absurd cc
behind_is Greater e = refl

pub same_of : (a b : List ℕ) → order a b ≡ Equal → a ≡ b
same_of a b e = (bytes_eq-Decides a b).0 (sym (is_eq-slice_cmp a b) ∙ ap is_eq e)

own : (o : Ordering) → o ≡ ordering_reverse o → o ≡ Equal
own Less e = absurd cc
own Equal e = refl
own Greater e = absurd cc

equal_of : (a b : List ℕ) → a ≡ b → order a b ≡ Equal
equal_of a b e = ap (order a) (sym e) ∙ own (order a a) (nat_list_cmp_total.antisymm a a)

-- ---- the last one

pub is_behind_last-last : (name : List ℕ) (hs : List (List ℕ × Value)) (h : List ℕ × Value) → slice_get hs (length hs - 1) ≡ Some h
    → is_behind_last name hs ≡ is_behind name h.0
is_behind_last-last name [] h got = absurd cc
is_behind_last-last name (i ∷ []) h got = let same : i ≡ h = cc in ap (λ j. is_behind name j.0) same
is_behind_last-last name (i ∷ j ∷ hs) h got =
    let more : length (i ∷ j ∷ hs) - 1 ≡ suc (length (j ∷ hs) - 1) = omega arith in
    is_behind_last-last name (j ∷ hs) h (rw more at got)

passed : (b : Bool) (n m : ℕ) → cond b (suc n) zero ≡ suc m → b ≡ true
passed true n m e = refl
passed false n m e = absurd cc

-- a name that is behind one is behind those before it
behind_both : (name a b : List ℕ) → order a b ≡ Less → order name b ≡ Greater → order name a ≡ Greater
behind_both name a b less behind = turned a name Less (nat_list_cmp_total.trans a b name less (turned name b Greater behind))

-- a name that is behind the last one is behind the first one
behind_first : (name : List ℕ) (h : List ℕ × Value) (hs : List (List ℕ × Value)) → AreInOrder (h ∷ hs) → is_behind_last name (h ∷ hs) ≡ true
    → order name h.0 ≡ Greater
behind_first name h [] ordered behind = behind_is (order name h.0) behind
behind_first name h (i ∷ hs) ordered behind = behind_both name h.0 i.0 ordered.0.0 (behind_first name i hs ordered.1 behind)

-- what is behind the last one goes to the end
pub with_given-last : (g : List ℕ × Value) (hs : List (List ℕ × Value)) → AreInOrder hs → is_behind_last g.0 hs ≡ true → with_given g hs ≡ hs ++ g ∷ []
with_given-last g [] ordered behind = refl
with_given-last g (h ∷ []) ordered behind = rw (behind_is (order g.0 h.0) behind) refl
with_given-last g (h ∷ i ∷ hs) ordered behind =
    let first : order g.0 h.0 ≡ Greater = behind_first g.0 h (i ∷ hs) ordered behind in
    rw first (ap (λ is. h ∷ is) (with_given-last g (i ∷ hs) ordered.1 behind))

pub is_behind_last-append : (name : List ℕ) (hs : List (List ℕ × Value)) (g : List ℕ × Value) → is_behind_last name (hs ++ g ∷ []) ≡ is_behind name g.0
is_behind_last-append name [] g = refl
is_behind_last-append name (h ∷ []) g = refl
is_behind_last-append name (h ∷ i ∷ hs) g = is_behind_last-append name (i ∷ hs) g

pub place_in-last : (name : List ℕ) (hs : List (List ℕ × Value)) → AreInOrder hs → is_behind_last name hs ≡ true → place_in name hs ≡ length hs
place_in-last name [] ordered behind = refl
place_in-last name (h ∷ []) ordered behind = rw behind refl
place_in-last name (h ∷ i ∷ hs) ordered behind =
    let rest : place_in name (i ∷ hs) ≡ suc (length hs) = place_in-last name (i ∷ hs) ordered.1 behind in
    let second : order name i.0 ≡ Greater = behind_is (order name i.0) (passed (is_behind name i.0) (place_in name hs) (length hs) rest) in
    let first : order name h.0 ≡ Greater = behind_both name h.0 i.0 ordered.0.0 second in
    rw first (ap suc rest)

pub place_in-within : (name : List ℕ) (hs : List (List ℕ × Value)) → place_in name hs ≤ length hs
place_in-within name [] = omega arith
place_in-within name (h ∷ hs) = within_by (is_behind name h.0) (place_in name hs) (length hs) (place_in-within name hs) where
  within_by : (b : Bool) (n m : ℕ) → n ≤ m → cond b (suc n) zero ≤ suc m
  within_by true n m le = omega arith
  within_by false n m le = omega arith

-- ---- one more

set_by : (o : Ordering) (g h : List ℕ × Value) (hs : List (List ℕ × Value)) → order g.0 h.0 ≡ o → IsNamedAt (h ∷ hs) (place_in g.0 (h ∷ hs)) g.0
    → (IsNamedAt hs (place_in g.0 hs) g.0 → with_given g hs ≡ slice_set hs (place_in g.0 hs) g)
    → with_given g (h ∷ hs) ≡ slice_set (h ∷ hs) (place_in g.0 (h ∷ hs)) g
set_by Less g h hs e is rest =
    let there : slice_get (h ∷ hs) (place_in g.0 (h ∷ hs)) ≡ Some is.one = is.there in
    let first : Some h ≡ Some is.one = rw e at there in
    let same : h ≡ is.one = cc in
    let equal = equal_of g.0 h.0 (sym (ap (λ i. i.0) same ∙ is.named)) in
    absurd cc
set_by Equal g h hs e is rest = rw e refl
set_by Greater g h hs e is rest =
    let there : slice_get (h ∷ hs) (place_in g.0 (h ∷ hs)) ≡ Some is.one = is.there in
    let later : slice_get hs (place_in g.0 hs) ≡ Some is.one = rw e at there in
    let all = ap (λ is. h ∷ is) (rest (record { one = is.one; there = later; named = is.named })) in
    rw e all

-- one of that name is there
pub with_given-set : (g : List ℕ × Value) (hs : List (List ℕ × Value)) → IsNamedAt hs (place_in g.0 hs) g.0
    → with_given g hs ≡ slice_set hs (place_in g.0 hs) g
with_given-set g [] is = let there : slice_get [] zero ≡ Some is.one = is.there in absurd cc
with_given-set g (h ∷ hs) is = set_by (order g.0 h.0) g h hs refl is (with_given-set g hs)

insert_by : (o : Ordering) (g h : List ℕ × Value) (hs : List (List ℕ × Value)) → order g.0 h.0 ≡ o → (IsNamedAt (h ∷ hs) (place_in g.0 (h ∷ hs)) g.0 → ⊥)
    → ((IsNamedAt hs (place_in g.0 hs) g.0 → ⊥) → with_given g hs ≡ insert hs (place_in g.0 hs) g)
    → with_given g (h ∷ hs) ≡ insert (h ∷ hs) (place_in g.0 (h ∷ hs)) g
insert_by Less g h hs e none rest = rw e refl
insert_by Equal g h hs e none rest =
    let there : slice_get (h ∷ hs) (place_in g.0 (h ∷ hs)) ≡ Some h = rw e refl in
    absurd (none (record { one = h; there = there; named = sym (same_of g.0 h.0 e) }))
insert_by Greater g h hs e none rest =
    let none_later : IsNamedAt hs (place_in g.0 hs) g.0 → ⊥ = λ is.
    let there : slice_get hs (place_in g.0 hs) ≡ Some is.one = is.there in
    none (record { one = is.one; there = rw e there; named = is.named }) in
    let all = ap (λ is. h ∷ is) (rest none_later) in
    rw e all

-- none of that name is there
pub with_given-insert : (g : List ℕ × Value) (hs : List (List ℕ × Value)) → (IsNamedAt hs (place_in g.0 hs) g.0 → ⊥)
    → with_given g hs ≡ insert hs (place_in g.0 hs) g
with_given-insert g [] none = refl
with_given-insert g (h ∷ hs) none = insert_by (order g.0 h.0) g h hs refl none (with_given-insert g hs)

-- where no one stands, no one has the name
pub named_by : (hs : List (List ℕ × Value)) (place : ℕ) (name : List ℕ) (one : List ℕ × Value) (same : Bool) → slice_get hs place ≡ Some one
    → (same ≡ true → one.0 ≡ name) × (one.0 ≡ name → same ≡ true) → (same ≡ true → IsNamedAt hs place name) × (IsNamedAt hs place name → same ≡ true)
named_by hs place name one same got means = (
  λ yes. record { one = one; there = got; named = means.0 yes },
  λ is. let there : Some one ≡ Some is.one = sym got ∙ is.there in
      let first : one ≡ is.one = cc in
      means.1 (ap (λ i. i.0) first ∙ is.named),
)

pub named_by_none : (hs : List (List ℕ × Value)) (place : ℕ) (name : List ℕ) → slice_get hs place ≡ None
    → (false ≡ true → IsNamedAt hs place name) × (IsNamedAt hs place name → false ≡ true)
named_by_none hs place name none = (
  λ never. absurd cc,
  λ is. let there : None ≡ Some is.one = sym none ∙ is.there in
      absurd cc,
)

pub set_at : (g : List ℕ × Value) (hs seen : List (List ℕ × Value)) (place : ℕ) → seen ≡ hs → place ≡ place_in g.0 hs → IsNamedAt seen place g.0
    → slice_set hs place g ≡ with_given g hs
set_at g hs seen place same here named =
    let is : IsNamedAt hs (place_in g.0 hs) g.0 = subst (λ xs. IsNamedAt xs (place_in g.0 hs) g.0) same (subst (λ n. IsNamedAt seen n g.0) here named) in
    ap (λ n. slice_set hs n g) here ∙ sym (with_given-set g hs is)

pub insert_at : (g : List ℕ × Value) (hs seen : List (List ℕ × Value)) (place : ℕ) (named : Bool) → seen ≡ hs → place ≡ place_in g.0 hs → named ≡ false
    → (IsNamedAt seen place g.0 → named ≡ true) → insert hs place g ≡ with_given g hs
insert_at g hs seen place named same here none means =
    let not_there : IsNamedAt hs (place_in g.0 hs) g.0 → ⊥ = λ is.
    let yes = means (subst (λ n. IsNamedAt seen n g.0) (sym here) (subst (λ xs. IsNamedAt xs (place_in g.0 hs) g.0) (sym same) is)) in
    absurd cc in
    ap (λ n. insert hs n g) here ∙ sym (with_given-insert g hs not_there)

-- ---- it stays in order

before_later : (a b : List ℕ) (hs : List (List ℕ × Value)) → order a b ≡ Less → IsBefore b hs → IsBefore a hs
before_later a b [] less before = tt
before_later a b (h ∷ hs) less before = (nat_list_cmp_total.trans a b h.0 less before.0, before_later a b hs less before.1)

before_by : (o : Ordering) (name : List ℕ) (g h : List ℕ × Value) (hs more : List (List ℕ × Value)) → order name g.0 ≡ Less
    → IsBefore name (h ∷ hs) → IsBefore name more
    → IsBefore name (match_ordering o (g ∷ h ∷ hs) (g ∷ hs) (h ∷ more))
before_by Less name g h hs more less before later = (less, before)
before_by Equal name g h hs more less before later = (less, before.1)
before_by Greater name g h hs more less before later = (before.0, later)

before_more : (name : List ℕ) (g : List ℕ × Value) (hs : List (List ℕ × Value)) → order name g.0 ≡ Less → IsBefore name hs → IsBefore name (with_given g hs)
before_more name g [] less before = (less, tt)
before_more name g (h ∷ hs) less before = before_by (order g.0 h.0) name g h hs (with_given g hs) less before (before_more name g hs less before.1)

in_order_by : (o : Ordering) (g h : List ℕ × Value) (hs : List (List ℕ × Value)) → order g.0 h.0 ≡ o → AreInOrder (h ∷ hs) → AreInOrder (with_given g hs)
    → AreInOrder (match_ordering o (g ∷ h ∷ hs) (g ∷ hs) (h ∷ with_given g hs))
in_order_by Less g h hs e ordered more = ((e, before_later g.0 h.0 hs e ordered.0), ordered)
in_order_by Equal g h hs e ordered more = let same = same_of g.0 h.0 e in (rw same ordered.0, ordered.1)
in_order_by Greater g h hs e ordered more = (before_more h.0 g hs (turned g.0 h.0 Greater e) ordered.0, more)

pub in_order-with_given : (g : List ℕ × Value) (hs : List (List ℕ × Value)) → AreInOrder hs → AreInOrder (with_given g hs)
in_order-with_given g [] ordered = (tt, tt)
in_order-with_given g (h ∷ hs) ordered = in_order_by (order g.0 h.0) g h hs refl ordered (in_order-with_given g hs ordered.1)
