-- What edges ask of a node, and what is found among the nodes to which they lead.
use Rattle.std.proofs.Common.{ℕ, ◌≡◌, ◌<◌, ◌≤◌, ◌+◌, ◌⊎◌, inl, inr, max, Option, Some, None, MatchOption, List, length, get_or, refl, sym, ◌∙◌, subst, arith}
use Rattle.std.specs.Prelude.{slice_index, ◌↔◌, Contains}
use Rattle.std.proofs.lemmas.List.{get_or_default}
use Rattle.least_or_cycle.specs.Least.{IsLeast, IsNeeded, IsPart}
use Rattle.least_or_cycle.specs.Walks.{Falls}
use Rattle.priority_weights.specs.Inside.Next.{IsAsked}

less_or_not : (a b : ℕ) → (a ≤ b) ⊎ (b ≤ a)
less_or_not a b = grind arith

-- two sorts of edges of one weight
pub asked_either : (N M : ℕ → Type 0) (table : List ℕ) (w x y : ℕ) → IsAsked N table w x → IsAsked M table w y → IsAsked (λ n. N n ⊎ M n) table w (max x y)
asked_either N M table w x y a b = record {
  covers = λ n is. elim is [ inl h ↦ (let c = a.covers n h in omega (arith, c)) | inr h ↦ (let c = b.covers n h in omega (arith, c)) ];
  attained = elim (less_or_not x y) [
    | inl le ↦ (let e : max x y ≡ y = omega (arith, le) in elim b.attained [
      | inl z ↦ inl (omega (arith, e, z))
      | inr h ↦ inr (h.0, inr h.1, (let k = h.2 in omega (arith, e, k)))
    ])
    | inr le ↦ (let e : max x y ≡ x = omega (arith, le) in elim a.attained [
      | inl z ↦ inl (omega (arith, e, z))
      | inr h ↦ inr (h.0, inl h.1, (let k = h.2 in omega (arith, e, k)))
    ])
  ];
}

-- the greatest number that edges ask for is what a table that falls along them needs
pub falls_needed : (leads : ℕ → ℕ → ℕ → Type 0) (table : List ℕ) (m x : ℕ) → m < length table →
    ((n w : ℕ) → leads m n w → w + slice_index table n ≤ x) →
    (x ≡ 0) ⊎ ((n : ℕ) × (w : ℕ) × leads m n w × (x ≡ w + slice_index table n)) → IsNeeded (Falls leads) table m x
falls_needed leads table m x lt covers attained = record {
  enough = λ le. record { falls = λ n w edge. let c = covers n w edge in omega (arith, c, le) };
  least = λ q keeps below. elim attained [
    | inl z ↦ omega (arith, z)
    | inr h ↦ (let f = (keeps.each m lt).falls h.0 h.1 h.2 in let e = h.3 in let b = below h.0 in omega (arith, f, e, b))
  ];
}

-- what one edge asks for is a part of it
pub falls_part : (leads : ℕ → ℕ → ℕ → Type 0) (table : List ℕ) (m x : ℕ) → m < length table →
    (x ≡ 0) ⊎ ((n : ℕ) × (w : ℕ) × leads m n w × (x ≡ w + slice_index table n)) → IsPart (Falls leads) table m x
falls_part leads table m x lt attained = record {
  least = λ q keeps below. elim attained [
    | inl z ↦ omega (arith, z)
    | inr h ↦ (let f = (keeps.each m lt).falls h.0 h.1 h.2 in let e = h.3 in let b = below h.0 in omega (arith, f, e, b))
  ];
}

-- the answer of a helper, said in other words
pub answer_turned : {T : Type 0} (r : Option T) (P P' : Type 0) (Q Q' : T → Type 0) → (P → P') → ((t : T) → Q t → Q' t) → MatchOption r P Q
    → MatchOption r P' Q'
answer_turned None P P' Q Q' f g h = f h
answer_turned (Some t) P P' Q Q' f g h = g t h

-- two rules that say the same have one least table
pub least_alike : (R S : (ℕ → ℕ) → ℕ → Type 0) (count : ℕ) (table : List ℕ) → ((q : ℕ → ℕ) (m : ℕ) → R q m ↔ S q m) → IsLeast R count table
    → IsLeast S count table
least_alike R S count table same l = record {
  long = l.long;
  keeps = record { each = λ n lt. (same (slice_index table) n).0 (l.keeps.each n lt) };
  least = λ q keeps n. l.least q (record { each = λ m lt. (same q m).1 (keeps.each m lt) }) n;
}

pub asked_alike : (N M : ℕ → Type 0) (table : List ℕ) (w x : ℕ) → ((n : ℕ) → N n ↔ M n) → IsAsked N table w x → IsAsked M table w x
asked_alike N M table w x same a = record {
  covers = λ n is. a.covers n ((same n).1 is);
  attained = elim a.attained [ inl z ↦ inl z | inr h ↦ inr (h.0, (same h.0).0 h.1, h.2) ];
}

-- nodes that something below an index stands for
abbrev pub Before : (ℕ → ℕ → Type 0) → ℕ → ℕ → Type 0
Before P i n = (k : ℕ) × (k < i) × P k n

before_or_at : (k i : ℕ) → k < i + 1 → (k < i) ⊎ (k ≡ i)
before_or_at k i lt = grind arith

pub before_more : (P : ℕ → ℕ → Type 0) (i n : ℕ) → (Before P i n ⊎ P i n) ↔ Before P (i + 1) n
before_more P i n = (
  λ either. elim either [
    | inl h ↦ (let lt = h.1 in (h.0, omega (arith, lt), h.2))
    | inr h ↦ (i, omega arith, h)
  ],
  λ h. elim (before_or_at h.0 i h.1) [
    | inl lt ↦ inl (h.0, lt, h.2)
    | inr e ↦ (let Q : ℕ → Type 0 = λ k. P k n in inr (subst Q e h.2))
  ],
)

pub asked_none : (P : ℕ → ℕ → Type 0) (table : List ℕ) (w : ℕ) → IsAsked (Before P 0) table w 0
asked_none P table w = record {
  covers = λ n h. absurd (let lt = h.1 in omega (arith, lt));
  attained = inl refl;
}

-- one more sort of edges
pub asked_more : (P : ℕ → ℕ → Type 0) (table : List ℕ) (w i x y : ℕ) → IsAsked (Before P i) table w x → IsAsked (P i) table w y
    → IsAsked (Before P (i + 1)) table w (max x y)
asked_more P table w i x y a b =
    asked_alike (λ n. Before P i n ⊎ P i n) (Before P (i + 1)) table w (max x y) (before_more P i) (asked_either (Before P i) (P i) table w x y a b)

-- one that asks for no more
pub asked_same : (P : ℕ → ℕ → Type 0) (table : List ℕ) (w i x : ℕ) → IsAsked (Before P i) table w x → ((n : ℕ) → P i n → w + slice_index table n ≤ x)
    → IsAsked (Before P (i + 1)) table w x
asked_same P table w i x a le = record {
  covers = λ n h. elim ((before_more P i n).1 h) [ inl b ↦ a.covers n b | inr here ↦ le n here ];
  attained = elim a.attained [ inl z ↦ inl z | inr h ↦ inr (h.0, (before_more P i h.0).0 (inl h.1), h.2) ];
}

-- one that asks for more
pub asked_up : (P : ℕ → ℕ → Type 0) (table : List ℕ) (w i x m : ℕ) → IsAsked (Before P i) table w x → x ≤ w + slice_index table m → P i m
    → ((n : ℕ) → P i n → n ≡ m) → IsAsked (Before P (i + 1)) table w (w + slice_index table m)
asked_up P table w i x m a le is only = record {
  covers = λ n h. elim ((before_more P i n).1 h) [
    | inl b ↦ (let c = a.covers n b in omega (arith, c, le))
    | inr here ↦ (let e = only n here in let Q : ℕ → Type 0 = λ k. w + slice_index table k ≤ w + slice_index table m in subst Q (sym e) (omega arith))
  ];
  attained = inr (m, (before_more P i m).0 (inr is), refl);
}

-- before the end of a list stands what it contains
pub before_end : (xs : List ℕ) (i : ℕ) → length xs ≤ i → i ≤ length xs → (n : ℕ) → Before (λ k m. m ≡ get_or xs k 0) i n ↔ Contains xs n
before_end xs i end all n = (
  λ b. let lt = b.1 in (b.0, omega (arith, lt, all), get_or_default xs b.0 n 0 (omega (arith, lt, all)) ∙ sym b.2),
  λ c. let lt = c.1 in (c.0, omega (arith, lt, end), sym c.2 ∙ get_or_default xs c.0 n 0 c.1),
)
