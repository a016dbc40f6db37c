-- What a reader and a spelling are to one another: what is read is the spelling of what it gives, and a spelling is read again.
use Rattle.std.proofs.Common.{◌≡◌, ℕ, zero, suc, ◌+◌, ◌<◌, Bool, true, false, cond, List, [], ◌∷◌, ◌++◌, length, get_or, take, drop, Option, Some, None, Result}
use Rattle.std.proofs.Common.{Ok, Err, refl, sym, ap, subst, ◌∙◌, append_assoc, arith, inl, inr}
use Rattle.std.specs.List.{flat_map, AllByRecursion}
use Rattle.std.proofs.lemmas.Bool.{cases_lt}
use Rattle.std.proofs.lemmas.List.{length-take, get_or-drop, get_or-take, get_or_past}
use Rattle.std.proofs.lemmas.List.Concat.{flat_map-cons}
use Rattle.bytecode.specs.declared.fault.DecodeFault.{DecodeFault}
use Rattle.bytecode.specs.Reading.{◌>>=◌, Reader, or_field, each_at}

abbrev pub IsBytes : List ℕ → Type 0
IsBytes bytes = (i : ℕ) → get_or bytes i 0 < 256

pub IsBytes-drop : (n : ℕ) (bytes : List ℕ) → IsBytes bytes → IsBytes (drop n bytes)
IsBytes-drop n bytes h i = rw get_or-drop (h (n + i))

pub IsBytes-take : (n : ℕ) (bytes : List ℕ) → IsBytes bytes → IsBytes (take n bytes)
IsBytes-take n bytes h i =
    elim (cases_lt i n) [
      | inl lt ↦ rw (get_or-take n bytes i 0 lt) (h i)
      | inr le ↦ rw (get_or_past (take n bytes) i 0 (omega (arith, length-take n bytes))) (omega arith)
    ]

-- the value of a step that did not fail
pub bind_ok : {A B : Type 0} (r : Result A DecodeFault) (f : A → Result B DecodeFault) (y : B) → (r >>= f) ≡ Ok y → (x : A) × (r ≡ Ok x) × (f x ≡ Ok y)
bind_ok (Ok x) f y e = (x, refl, e)
bind_ok (Err d) f y e = absurd cc

-- a test that did not fail
pub passed : {A : Type 0} (b : Bool) (d : DecodeFault) (x y : A) → cond b (Ok x) (Err d) ≡ Ok y → (b ≡ true) × (x ≡ y)
passed true d x y e = (refl, cc)
passed false d x y e = absurd cc

pub not_short : {A : Type 0} (b : Bool) (d : DecodeFault) (x y : A) → cond b (Err d) (Ok x) ≡ Ok y → (b ≡ false) × (x ≡ y)
not_short true d x y e = absurd cc
not_short false d x y e = (refl, cc)

-- a choice that there is
pub chosen : {A : Type 0} (bytes : List ℕ) (o : Option A) (x : A) → or_field bytes o ≡ Ok x → o ≡ Some x
chosen bytes None x e = absurd cc
chosen bytes (Some a) x e = cc

abbrev done : {A : Type 0} → A → Result A DecodeFault
done x = Ok x

pub ok_is : {A : Type 0} (x y : A) → done x ≡ done y → x ≡ y
ok_is x y e = cc

-- what a reader took from the front
pub record Takes (bytes text rest : List ℕ) : Type 0 where
  pub parts : bytes ≡ text ++ rest
  pub rest_bytes : IsBytes rest

pub then_takes : {a x b y c : List ℕ} → Takes a x b → Takes b y c → Takes a (x ++ y) c
then_takes {a} {x} {b} {y} {c} p q = record { parts = p.parts ∙ ap (λ (t : List ℕ). x ++ t) q.parts ∙ sym (append_assoc x y c); rest_bytes = q.rest_bytes }

-- a reader and a spelling of what fits
pub record IsRead {A : Type 0} (read : Reader A) (text : A → List ℕ) (Fits : A → Type 0) : Type 0 where
  pub takes : (bytes : List ℕ) (x : A × List ℕ) → IsBytes bytes → read bytes ≡ Ok x → Takes bytes (text x.0) x.1 × Fits x.0
  pub again : (a : A) (rest : List ℕ) → Fits a → read (text a ++ rest) ≡ Ok (a, rest)

-- the first reader of several, and what it took
pub record First {A B : Type 0} (read : Reader A) (text : A → List ℕ) (Fits : A → Type 0) (bytes : List ℕ) (f : A × List ℕ → Result B DecodeFault)
    (y : B) : Type 0 where
  pub got : A × List ℕ
  pub took : Takes bytes (text got.0) got.1
  pub fits : Fits got.0
  pub next : f got ≡ Ok y

pub first : {A B : Type 0} {read : Reader A} {text : A → List ℕ} {Fits : A → Type 0} (law : IsRead read text Fits) (bytes : List ℕ)
    (f : A × List ℕ → Result B DecodeFault) (y : B)
    → IsBytes bytes → (read bytes >>= f) ≡ Ok y → First read text Fits bytes f y
first {read = read} law bytes f y fits e =
    let a = bind_ok (read bytes) f y e in
    let t = law.takes bytes a.0 fits a.1 in
    record { got = a.0; took = t.0; fits = t.1; next = a.2 }

-- ---- so many, one behind the other

pub each_takes : {A : Type 0} {read : Reader A} {text : A → List ℕ} {Fits : A → Type 0} (law : IsRead read text Fits) (n : ℕ) (bytes : List ℕ)
    (x : List A × List ℕ)
    → IsBytes bytes → each_at read n bytes ≡ Ok x → Takes bytes (flat_map text x.0) x.1 × (length x.0 ≡ n) × AllByRecursion Fits x.0
unfolding each_at
each_takes {A} {read} {text} {Fits} law zero bytes x fits e =
    subst (λ (y : List A × List ℕ). Takes bytes (flat_map text y.0) y.1 × (length y.0 ≡ 0) × AllByRecursion Fits y.0) (ok_is ([], bytes) x e)
    (record { parts = refl; rest_bytes = fits }, refl, tt)
each_takes {A} {read} {text} {Fits} law (suc n) bytes x fits e =
    let a = first law bytes (λ here. each_at read n here.1 >>= λ others. Ok (here.0 ∷ others.0, others.1)) x fits e in
    let b = bind_ok (each_at read n a.got.1) (λ others. Ok (a.got.0 ∷ others.0, others.1)) x a.next in
    let rest = each_takes law n a.got.1 b.0 a.took.rest_bytes b.1 in
    let made : List A × List ℕ = (a.got.0 ∷ b.0.0, b.0.1) in
    subst (λ (y : List A × List ℕ). Takes bytes (flat_map text y.0) y.1 × (length y.0 ≡ suc n) × AllByRecursion Fits y.0) (ok_is made x b.2)
    (rw flat_map-cons (then_takes a.took rest.0), ap suc rest.1, (a.fits, rest.2))

pub each_again : {A : Type 0} {read : Reader A} {text : A → List ℕ} {Fits : A → Type 0} (law : IsRead read text Fits) (xs : List A) (rest : List ℕ)
    → AllByRecursion Fits xs → each_at read (length xs) (flat_map text xs ++ rest) ≡ Ok (xs, rest)
unfolding each_at
each_again law [] rest fits = refl
each_again {A} {read} {text} {Fits} law (x ∷ xs) rest fits =
    let regrouped : flat_map text (x ∷ xs) ++ rest ≡ text x ++ (flat_map text xs ++ rest) = ap (λ (t : List ℕ). t ++ rest) (flat_map-cons text x xs)
    ∙ append_assoc (text x) (flat_map text xs) rest in
    ap (each_at read (suc (length xs))) regrouped ∙ rw (law.again x (flat_map text xs ++ rest) fits.0, each_again law xs rest fits.1) refl
