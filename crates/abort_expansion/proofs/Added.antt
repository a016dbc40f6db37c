-- The variables that expansion adds: where they stand, and that they are flags and counters with names of their own.
use Rattle.std.proofs.Common.{◌≡◌, ◌≢◌, ℕ, suc, ◌+◌, ◌<◌, ◌≤◌, ◌^◌, Bool, true, false, Some, List, [], ◌∷◌, ◌++◌, map, length, slice_get, refl, ap, sym, subst}
use Rattle.std.proofs.Common.{◌∙◌, append_assoc, arith}
use Rattle.std.specs.Prelude.{decimal}
use Rattle.std.proofs.lemmas.List.{length-append, map-append}
use Rattle.sc_graph.specs.declared.program.Variable.{Variable}
use Rattle.core_charts.specs.declared.region.Transition.{Transition}
use Rattle.core_charts.specs.Aborts.{has_strong, has_weak}
use Rattle.sc_text.proofs.EachItem.{Each, each_append, each_more}
use Rattle.abort_expansion.specs.Flags.{local, declared, declarations, given, one, flags_of, flag_count, counts, strong_flag_name, weak_flag_name, counter_name}
use Rattle.abort_expansion.proofs.Lists.{at_front, at_seam}
use Rattle.abort_expansion.proofs.Taken.{IsFlagIfAny, AreFlags}
use Rattle.abort_expansion.proofs.Apart.{Unlike, Apart, apart_append, IsAdded, added_apart, letter_of}

-- ---- where they stand: these variables have the numbers from `x` on

pub record Located (variables : List Variable) (x : ℕ) (those : List Variable) : Type 0 where
  pub before : List Variable
  pub behind : List Variable
  pub is : variables ≡ before ++ those ++ behind
  pub number : length before ≡ x

pub located_first : (variables : List Variable) (x : ℕ) (a b : List Variable) → Located variables x (a ++ b) → Located variables x a
located_first variables x a b h = record {
  before = h.before;
  behind = b ++ h.behind;
  is =
      h.is ∙ append_assoc h.before (a ++ b) h.behind ∙ ap (λ zs. h.before ++ zs) (append_assoc a b h.behind)
      ∙ sym (append_assoc h.before a (b ++ h.behind));
  number = h.number;
}

pub located_later : (variables : List Variable) (x n y : ℕ) (a b : List Variable) → length a ≡ n → y ≡ x + n → Located variables x (a ++ b)
    → Located variables y b
located_later variables x n y a b size is_y h = record {
  before = h.before ++ a;
  behind = h.behind;
  is = h.is ∙ ap (λ zs. zs ++ h.behind) (sym (append_assoc h.before a b));
  number = omega (arith, length-append h.before a, h.number, size, is_y);
}

located_at : (variables : List Variable) (x : ℕ) (v : Variable) (vs : List Variable) → Located variables x (v ∷ vs) → slice_get variables x ≡ Some v
located_at variables x v vs h =
    ap (slice_get variables) (sym h.number) ∙ ap (λ zs. slice_get zs (length h.before)) h.is
    ∙ at_front (h.before ++ v ∷ vs) h.behind (length h.before) v (at_seam h.before v vs)

flag_if : (variables : List Variable) (x : ℕ) (b : Bool) (name : List ℕ) → Located variables x (declared (given b x) name) → IsFlagIfAny variables (given b x)
flag_if variables x true name h = record { name = name; is = located_at variables x (local name) [] h }
flag_if variables x false name h = tt

pub declared_size : (b : Bool) (x : ℕ) (name : List ℕ) → length (declared (given b x) name) ≡ one b
declared_size true x name = refl
declared_size false x name = refl

flags_at : (variables : List Variable) (s x : ℕ) (a b c : Bool)
    → Located variables x (declared (given a x) (strong_flag_name s) ++ declared (given b (x + one a)) (weak_flag_name s) ++ declared
    (given c (x + one a + one b)) (counter_name s))
    → AreFlags variables (record { strong = given a x; weak = given b (x + one a); counter = given c (x + one a + one b) })
flags_at variables s x a b c h =
    let first : List Variable = declared (given a x) (strong_flag_name s) in
    let second : List Variable = declared (given b (x + one a)) (weak_flag_name s) in
    let third : List Variable = declared (given c (x + one a + one b)) (counter_name s) in
    let size : length (first ++ second) ≡ one a + one b =
    omega (arith, length-append first second, declared_size a x (strong_flag_name s), declared_size b (x + one a) (weak_flag_name s)) in
    let both : Located variables x (first ++ second) = located_first variables x (first ++ second) third h in
    record {
      strong = flag_if variables x a (strong_flag_name s) (located_first variables x first second both);
      weak =
          flag_if variables (x + one a) b (weak_flag_name s)
          (located_later variables x (one a) (x + one a) first second (declared_size a x (strong_flag_name s)) refl both);
      counter =
          flag_if variables (x + one a + one b) c (counter_name s)
          (located_later variables x (one a + one b) (x + one a + one b) (first ++ second) third size (omega arith) h);
    }

pub flags_there : (variables : List Variable) (weak : Bool) (own : List Transition) (s x : ℕ)
    → Located variables x (declarations s (flags_of weak own x)) → AreFlags variables (flags_of weak own x)
flags_there variables weak own s x h = flags_at variables s x (has_strong own) (has_weak own) (counts weak own) h

-- ---- what they are: so many, with names by the numbers of superstates of this range

pub record AreAdded (low high size : ℕ) (those : List Variable) : Type 0 where
  pub many : length those ≡ size
  pub locals : Each (λ v. v ≡ local v.name) those
  pub named : Each (IsAdded 256 low high) (map (λ v. v.name) those)
  pub apart : Apart (map (λ v. v.name) those)

pub none_added : (low high : ℕ) → AreAdded low high 0 []
none_added low high = record { many = refl; locals = tt; named = tt; apart = tt }

pub wider : (top low high first last : ℕ) → first ≤ low → high ≤ last → (names : List (List ℕ)) → Each (IsAdded top low high) names
    → Each (IsAdded top first last) names
wider top low high first last before behind names h =
    each_more (IsAdded top low high) (IsAdded top first last) names
    (λ name k. record {
      letter = k.letter;
      number = k.number;
      is = k.is;
      below = k.below;
      least = omega (arith, before, k.least);
      most = omega (arith, behind, k.most);
    }) h

each_unlike : (top low mid high : ℕ) (x : List ℕ) (ys : List (List ℕ)) → high ≤ 2 ^ 64 → IsAdded top low mid x → Each (IsAdded top mid high) ys → Unlike ys x
each_unlike top low mid high x ys small h k =
    each_more (IsAdded top mid high) (λ y. x ≢ y) ys (λ y g. added_apart top low mid high x y small h g) k

names_cross : (top low mid high : ℕ) (xs ys : List (List ℕ)) → high ≤ 2 ^ 64 → Each (IsAdded top low mid) xs → Each (IsAdded top mid high) ys
    → Each (Unlike ys) xs
names_cross top low mid high xs ys small h k =
    each_more (IsAdded top low mid) (Unlike ys) xs (λ x g. each_unlike top low mid high x ys small g k) h

pub both_added : (low mid high m n size : ℕ) (a b : List Variable) → low ≤ mid → mid ≤ high → high ≤ 2 ^ 64 → size ≡ m + n
    → AreAdded low mid m a → AreAdded mid high n b → AreAdded low high size (a ++ b)
both_added low mid high m n size a b first last small is h k =
    let Names : List Variable → List (List ℕ) = map (λ v. v.name) in
    let whole : Names a ++ Names b ≡ Names (a ++ b) = sym (map-append (λ v. v.name) a b) in
    record {
      many = omega (arith, length-append a b, h.many, k.many, is);
      locals = each_append (λ v. v ≡ local v.name) a b h.locals k.locals;
      named =
          subst (Each (IsAdded 256 low high)) whole
          (each_append (IsAdded 256 low high) (Names a) (Names b)
          (wider 256 low mid low high (omega arith) last (Names a) h.named)
          (wider 256 mid high low high first (omega arith) (Names b) k.named));
      apart = subst Apart whole (apart_append (Names a) (Names b) h.apart k.apart (names_cross 256 low mid high (Names a) (Names b) small h.named k.named));
    }

added_name : (letter s : ℕ) → letter < 256 → IsAdded 256 s (suc s) (95 ∷ letter ∷ decimal s)
added_name letter s below = record { letter = letter; number = s; is = refl; below = below; least = omega arith; most = omega arith }

strong_added : (s : ℕ) → IsAdded 256 s (suc s) (strong_flag_name s)
strong_added s = added_name 115 s (omega arith)

weak_added : (s : ℕ) → IsAdded 256 s (suc s) (weak_flag_name s)
weak_added s = added_name 119 s (omega arith)

counter_added : (s : ℕ) → IsAdded 256 s (suc s) (counter_name s)
counter_added s = added_name 114 s (omega arith)

strong_not_weak : (s : ℕ) → strong_flag_name s ≢ weak_flag_name s
strong_not_weak s same = let letters : 115 ≡ 119 = ap letter_of same in absurd (omega (arith, letters))

strong_not_counter : (s : ℕ) → strong_flag_name s ≢ counter_name s
strong_not_counter s same = let letters : 115 ≡ 114 = ap letter_of same in absurd (omega (arith, letters))

weak_not_counter : (s : ℕ) → weak_flag_name s ≢ counter_name s
weak_not_counter s same = let letters : 119 ≡ 114 = ap letter_of same in absurd (omega (arith, letters))

added_of : (s x y z : ℕ) (a b c : Bool)
    → AreAdded s (suc s) (one a + one b + one c) (declared (given a x) (strong_flag_name s) ++ declared (given b y) (weak_flag_name s) ++ declared (given c z)
    (counter_name s))
added_of s x y z true true true = record {
  many = refl;
  locals = (refl, (refl, (refl, tt)));
  named = (strong_added s, (weak_added s, (counter_added s, tt)));
  apart = ((strong_not_weak s, (strong_not_counter s, tt)), ((weak_not_counter s, tt), (tt, tt)));
}
added_of s x y z true true false = record {
  many = refl;
  locals = (refl, (refl, tt));
  named = (strong_added s, (weak_added s, tt));
  apart = ((strong_not_weak s, tt), (tt, tt));
}
added_of s x y z true false true = record {
  many = refl;
  locals = (refl, (refl, tt));
  named = (strong_added s, (counter_added s, tt));
  apart = ((strong_not_counter s, tt), (tt, tt));
}
added_of s x y z true false false = record { many = refl; locals = (refl, tt); named = (strong_added s, tt); apart = (tt, tt) }
added_of s x y z false true true = record {
  many = refl;
  locals = (refl, (refl, tt));
  named = (weak_added s, (counter_added s, tt));
  apart = ((weak_not_counter s, tt), (tt, tt));
}
added_of s x y z false true false = record { many = refl; locals = (refl, tt); named = (weak_added s, tt); apart = (tt, tt) }
added_of s x y z false false true = record { many = refl; locals = (refl, tt); named = (counter_added s, tt); apart = (tt, tt) }
added_of s x y z false false false = record { many = refl; locals = tt; named = tt; apart = tt }

pub declarations_added : (weak : Bool) (own : List Transition) (s x : ℕ)
    → AreAdded s (suc s) (flag_count weak own) (declarations s (flags_of weak own x))
declarations_added weak own s x =
    added_of s x (x + one (has_strong own)) (x + one (has_strong own) + one (has_weak own)) (has_strong own) (has_weak own) (counts weak own)
