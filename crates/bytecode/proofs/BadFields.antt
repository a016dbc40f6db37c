-- A reading that meets a bad field: the fields before it begin a whole of which all can be read, and the bad one fails by
-- itself, whatever stands behind it.
use Rattle.std.proofs.Common.{◌≡◌, ◌≢◌, ℕ, zero, suc, ◌^◌, ◌<◌, ◌≤◌, Bool, true, false, cond, ltb, leb, List, [], ◌∷◌, ◌++◌, length, take, drop, Option, Some}
use Rattle.std.proofs.Common.{None, IsTrue, Result, Ok, Err, refl, sym, ap, subst, ◌∙◌, append_assoc, arith}
use Rattle.std.specs.Prelude.{slice_get, ◌&&◌, ◌||◌, replicate}
use Rattle.std.specs.List.{concat, list_all}
use Rattle.std.specs.Int.{Width, w16, byte_len, from_le_bytes}
use Rattle.std.proofs.lemmas.Bool.{le-leb}
use Rattle.std.proofs.lemmas.List.{append-nil, length-replicate}
use Rattle.std.proofs.lemmas.List.Folds.{concat-append}
use Rattle.sc_values.specs.declared.value.Kind.TheVariants as kind
use Rattle.sc_values.specs.Limits.{name_limit}
use Rattle.sc_values.specs.Name.{is_name, is_letter, is_digit}
use Rattle.sc_graph.specs.declared.program.Role.TheVariants as role
use Rattle.bytecode.specs.Fits.{SayableVariable}
use Rattle.bytecode.specs.Fields.{u16_bytes, role_number, kind_number}
use Rattle.bytecode.specs.declared.fault.DecodeFault.{DecodeFault}
use Rattle.bytecode.specs.declared.fault.DecodeFault.TheVariants as fault
use Rattle.bytecode.specs.Reading.{◌>>=◌, Reader, or_field}
use Rattle.bytecode.specs.Reading.Fields.{bytes_at, byte_at, number_at, choice_at, roles, kinds, length_at, name_of, name_at, variable_at}
use Rattle.bytecode.specs.FieldList.{byte, variable_fields}
use Rattle.bytecode.proofs.FieldLaws.{bytes_takes, bytes_again, length_law, role_law, kind_law}
use Rattle.bytecode.proofs.Readers.{IsBytes, IsRead}

-- a whole begins with these fields
abbrev pub Extends : (List (List ℕ) → Type 0) → List (List ℕ) → Type 0
Extends Whole before = (after : List (List ℕ)) × Whole (before ++ after)

pub step_on : (Whole : List (List ℕ) → Type 0) (a b c : List (List ℕ)) → Extends Whole (a ++ (b ++ c)) → Extends Whole ((a ++ b) ++ c)
step_on Whole a b c e = subst (Extends Whole) (sym (append_assoc a b c)) e

-- behind a comes b, and more
pub begin_at : (Whole : List (List ℕ) → Type 0) (a b c : List (List ℕ)) → Extends Whole (a ++ (b ++ c)) → Extends Whole (a ++ b)
begin_at Whole a b c (after, whole) =
    let moved : (a ++ (b ++ c)) ++ after ≡ (a ++ b) ++ (c ++ after) = simp append_assoc in
    (c ++ after, subst Whole moved whole)

-- behind these fields a reading of the bytes meets a bad one, with so many bytes from its first on
pub record Breaks {A : Type 0} (Whole : List (List ℕ) → Type 0) (front : List (List ℕ)) (read : List ℕ → Result A DecodeFault) (bytes : List ℕ)
    (left : ℕ) : Type 0 where
  pub before : List (List ℕ)
  pub field : List ℕ
  pub after : List (List ℕ)
  pub whole : Whole (front ++ (before ++ field ∷ after))
  pub bad : List ℕ
  pub rest : List ℕ
  pub stands : bytes ≡ concat before ++ (bad ++ rest)
  pub from : length (bad ++ rest) ≡ left
  pub long : length bad ≡ length field
  pub fails : read (concat before ++ bad) ≡ Err (fault.Field (length bad))

abbrev pub broken : {A : Type 0} → ℕ → Result A DecodeFault
broken left = Err (fault.Field left)

abbrev pub reads : {A : Type 0} → A → List ℕ → Result (A × List ℕ) DecodeFault
reads x rest = Ok (x, rest)

-- a reader whose bad fields are such
abbrev pub CanBreak : {A : Type 0} → Reader A → (A → List (List ℕ)) → (A → Type 0) → Type 1
CanBreak {A} read fields Fits = (Whole : List (List ℕ) → Type 0) (front : List (List ℕ)) (bytes : List ℕ) (left : ℕ) → IsBytes bytes
    → ((x : A) → Fits x → Extends Whole (front ++ fields x)) → read bytes ≡ broken left → Breaks Whole front read bytes left

-- the first reader met it
pub met_first : {A B : Type 0} (Whole : List (List ℕ) → Type 0) (front : List (List ℕ)) (read : List ℕ → Result A DecodeFault) (f : A → Result B DecodeFault)
    (bytes : List ℕ) (left : ℕ)
    → Breaks Whole front read bytes left → Breaks Whole front (λ b. read b >>= f) bytes left
met_first {A} {B} Whole front read f bytes left b = record {
  before = b.before;
  field = b.field;
  after = b.after;
  whole = b.whole;
  bad = b.bad;
  rest = b.rest;
  stands = b.stands;
  from = b.from;
  long = b.long;
  fails = ap (λ (r : Result A DecodeFault). r >>= f) b.fails;
}

-- what comes behind what was read met it
pub met_behind : {B : Type 0} (Whole : List (List ℕ) → Type 0) (front fields : List (List ℕ)) (text : List ℕ) (whole : List ℕ → Result B DecodeFault)
    (next : List ℕ → Result B DecodeFault) (bytes rest : List ℕ) (left : ℕ)
    → concat fields ≡ text → bytes ≡ text ++ rest → ((more : List ℕ) → whole (text ++ more) ≡ next more)
    → Breaks Whole (front ++ fields) next rest left → Breaks Whole front whole bytes left
met_behind {B} Whole front fields text whole next bytes rest left spelt parts again b =
    let moved : (front ++ fields) ++ (b.before ++ b.field ∷ b.after) ≡ front ++ ((fields ++ b.before) ++ b.field ∷ b.after) = simp append_assoc in
    let text_is : concat (fields ++ b.before) ≡ text ++ concat b.before = concat-append fields b.before ∙ ap (λ (t : List ℕ). t ++ concat b.before) spelt in
    let stands : bytes ≡ concat (fields ++ b.before) ++ (b.bad ++ b.rest) =
    parts ∙ ap (λ (r : List ℕ). text ++ r) b.stands ∙ sym (append_assoc text (concat b.before) (b.bad ++ b.rest))
    ∙ ap (λ (t : List ℕ). t ++ (b.bad ++ b.rest)) (sym text_is) in
    let at : concat (fields ++ b.before) ++ b.bad ≡ text ++ (concat b.before ++ b.bad) =
    ap (λ (t : List ℕ). t ++ b.bad) text_is ∙ append_assoc text (concat b.before) b.bad in
    record {
      before = fields ++ b.before;
      field = b.field;
      after = b.after;
      whole = subst Whole moved b.whole;
      bad = b.bad;
      rest = b.rest;
      stands = stands;
      from = b.from;
      long = b.long;
      fails = ap whole at ∙ again (concat b.before ++ b.bad) ∙ b.fails;
    }

-- one reader and then another
pub then_breaks : {A B : Type 0} {read : Reader A} {text : A → List ℕ} {Fits : A → Type 0} (law : IsRead read text Fits) (fields : A → List (List ℕ))
    (spelt : (x : A) → concat (fields x) ≡ text x)
    (Whole : List (List ℕ) → Type 0) (front : List (List ℕ)) (next : A × List ℕ → Result B DecodeFault) (bytes : List ℕ) (left : ℕ) → IsBytes bytes
    → (read bytes ≡ broken left → Breaks Whole front read bytes left)
    → ((x : A) (rest : List ℕ) → Fits x → IsBytes rest → next (x, rest) ≡ broken left → Breaks Whole (front ++ fields x) (λ b. next (x, b)) rest left)
    → (read bytes >>= next) ≡ broken left → Breaks Whole front (λ b. read b >>= next) bytes left
then_breaks {A} {B} {read} {text} {Fits} law fields spelt Whole front next bytes left fits first second e = when (read bytes) refl
  where
    when : (r : Result (A × List ℕ) DecodeFault) → read bytes ≡ r → Breaks Whole front (λ b. read b >>= next) bytes left
    when (Err f) is =
        let failed : read bytes ≡ broken left = is ∙ let same : (read bytes >>= next) ≡ broken left = e in cc in
        met_first Whole front read next bytes left (first failed)
    when (Ok x) is =
        let t = law.takes bytes x fits is in
        let good : next x ≡ broken left = ap (λ (r : Result (A × List ℕ) DecodeFault). r >>= next) (sym is) ∙ e in
        let go : (more : List ℕ) → (read (text x.0 ++ more) >>= next) ≡ next (x.0, more) = λ more. ap (λ (r : Result (A × List ℕ) DecodeFault). r >>= next)
        (law.again x.0 more t.1) in
        met_behind Whole front (fields x.0) (text x.0) (λ b. read b >>= next) (λ b. next (x.0, b)) bytes x.1 left (spelt x.0) t.0.parts go
        (second x.0 x.1 t.1 t.0.rest_bytes good)

-- what is made of what was read fails nowhere
pub before_made : {A B : Type 0} (r : Result A DecodeFault) (make : A → B) (left : ℕ) → (r >>= λ x. Ok (make x)) ≡ broken left → r ≡ broken left
before_made (Ok x) make left e = absurd cc
before_made (Err f) make left e = cc

-- the first field is the bad one
pub at_once : {A : Type 0} (Whole : List (List ℕ) → Type 0) (front : List (List ℕ)) (read : List ℕ → Result A DecodeFault) (bad rest field : List ℕ) (left : ℕ)
    → Extends Whole (front ++ (field ∷ [])) → length bad ≡ length field → length (bad ++ rest) ≡ left → read bad ≡ broken (length bad)
    → Breaks Whole front read (bad ++ rest) left
at_once Whole front read bad rest field left (after, whole) long from fails = record {
  before = [];
  field = field;
  after = after;
  whole = subst Whole (append_assoc front (field ∷ []) after) whole;
  bad = bad;
  rest = rest;
  stands = refl;
  from = from;
  long = long;
  fails = fails;
}

-- ---- fields

pub bytes_break_not : (n : ℕ) (bytes : List ℕ) (left : ℕ) → bytes_at n bytes ≢ broken left
unfolding bytes_at
bytes_break_not n bytes left = when (ltb (length bytes) n)
  where
    when : (b : Bool) → cond b (Err fault.Short) (reads (take n bytes) (drop n bytes)) ≡ broken left → ⊥
    when true e = absurd cc
    when false e = absurd cc

pub number_breaks_not : (w : Width) (bytes : List ℕ) (left : ℕ) → number_at w bytes ≢ broken left
unfolding number_at
number_breaks_not w bytes left e =
    bytes_break_not (byte_len w) bytes left (before_made (bytes_at (byte_len w) bytes) (λ front. (from_le_bytes w front.0, front.1)) left e)

pub byte_breaks_not : (bytes : List ℕ) (left : ℕ) → byte_at bytes ≢ broken left
unfolding byte_at
byte_breaks_not [] left e = absurd cc
byte_breaks_not (b ∷ rest) left e = absurd cc

pub number_breaks : CanBreak (number_at w16) (λ n. u16_bytes n ∷ []) (λ n. n < 2 ^ 16)
number_breaks Whole front bytes left fits goes_on e = absurd (number_breaks_not w16 bytes left e)

pub same_left : {A : Type 0} (m n : ℕ) → broken {A = A} m ≡ broken {A = A} n → m ≡ n
same_left m n e = cc

pub choice_breaks : {A : Type 0} (choices : List A) (other : ℕ) (Whole : List (List ℕ) → Type 0) (front : List (List ℕ)) (bytes : List ℕ) (left : ℕ)
    → Extends Whole (front ++ (byte other ∷ [])) → choice_at choices bytes ≡ broken left → Breaks Whole front (choice_at choices) bytes left
unfolding choice_at byte_at
choice_breaks choices other Whole front [] left goes_on e = absurd cc
choice_breaks {A} choices other Whole front (b ∷ rest) left goes_on e = when (slice_get choices b) refl e
  where
    when : (o : Option A) → slice_get choices b ≡ o → (or_field (b ∷ rest) o >>= λ choice. reads choice rest) ≡ broken left
        → Breaks Whole front (choice_at choices) (b ∷ rest) left
    when None is failed = at_once Whole front (choice_at choices) (b ∷ []) rest (byte other) left goes_on refl
        (same_left {A = A × List ℕ} (suc (length rest)) left failed) (rw is refl)
    when (Some x) is failed = absurd cc

pub length_breaks : (least most other : ℕ) (Whole : List (List ℕ) → Type 0) (front : List (List ℕ)) (bytes : List ℕ) (left : ℕ)
    → Extends Whole (front ++ (byte other ∷ [])) → length_at least most bytes ≡ broken left → Breaks Whole front (length_at least most) bytes left
unfolding length_at byte_at
length_breaks least most other Whole front [] left goes_on e = absurd cc
length_breaks least most other Whole front (b ∷ rest) left goes_on e = when (leb least b && leb b most) refl e
  where
    got : Result (ℕ × List ℕ) DecodeFault
    got = Ok (b, rest)

    when : (is : Bool) → (leb least b && leb b most) ≡ is → cond is got (broken (suc (length rest))) ≡ broken left
        → Breaks Whole front (length_at least most) (b ∷ rest) left
    when true is failed = absurd cc
    when false is failed = at_once Whole front (length_at least most) (b ∷ []) rest (byte other) left goes_on refl
        (same_left {A = ℕ × List ℕ} (suc (length rest)) left failed) (rw is refl)

-- ---- names and variables

-- a name of so many letters
abbrev letters : ℕ → List ℕ
letters n = replicate n 97

letters_length : (n : ℕ) → length (letters n) ≡ n
letters_length n = length-replicate n _

letters_are : (n : ℕ) → list_all (λ b. is_letter b || is_digit b) (letters n) ≡ true
letters_are zero = refl
letters_are (suc n) = letters_are n

letters_name : (n : ℕ) → (1 ≤ n) × (n ≤ name_limit) → IsTrue (is_name (letters n))
letters_name zero within = absurd (omega (arith, within.0))
letters_name (suc n) within =
    let few : leb (suc (length (letters n))) name_limit ≡ true = le-leb _ _ (omega (arith, letters_length n, within.1)) in
    rw (letters_are n, few) refl

text_breaks : (n : ℕ) (Whole : List (List ℕ) → Type 0) (front : List (List ℕ)) (bytes : List ℕ) (left : ℕ) → IsBytes bytes
    → Extends Whole (front ++ (letters n ∷ [])) → (bytes_at n bytes >>= λ text. or_field bytes (name_of text.0) >>= λ name. reads name text.1) ≡ broken left
    → Breaks Whole front (λ b. bytes_at n b >>= λ text. or_field b (name_of text.0) >>= λ name. reads name text.1) bytes left
text_breaks n Whole front bytes left fits goes_on e = when (bytes_at n bytes) refl e
  where
    named : (x : List ℕ × List ℕ) (o : Option (List ℕ)) → bytes_at n bytes ≡ Ok x → name_of x.0 ≡ o
        → (or_field bytes o >>= λ name. reads name x.1) ≡ broken left
        → Breaks Whole front (λ b. bytes_at n b >>= λ text. or_field b (name_of text.0) >>= λ name. reads name text.1) bytes left
    named x (Some name) is lacking failed = absurd cc
    named x None is lacking failed =
        let t = bytes_takes n bytes x fits is in
        let alone : bytes_at n x.0 ≡ Ok (x.0, []) = ap (bytes_at n) (sym (append-nil x.0)) ∙ bytes_again n x.0 [] t.1 in
        let as_long : length (x.0 ++ x.1) ≡ left = ap length (sym t.0.parts) ∙ same_left {A = List ℕ × List ℕ} (length bytes) left failed in
        subst (λ (b : List ℕ). Breaks Whole front (λ b. bytes_at n b >>= λ text. or_field b (name_of text.0) >>= λ name. reads name text.1) b left)
        (sym t.0.parts)
        (at_once Whole front (λ b. bytes_at n b >>= λ text. or_field b (name_of text.0) >>= λ name. reads name text.1) x.0 x.1 (letters n) left goes_on
        (t.1 ∙ sym (letters_length n)) as_long (rw (alone, lacking) refl))

    when : (r : Result (List ℕ × List ℕ) DecodeFault) → bytes_at n bytes ≡ r → (r >>= λ text. or_field bytes (name_of text.0) >>= λ name. reads name text.1)
        ≡ broken left
        → Breaks Whole front (λ b. bytes_at n b >>= λ text. or_field b (name_of text.0) >>= λ name. reads name text.1) bytes left
    when (Err f) is failed = absurd (bytes_break_not n bytes left (is ∙ let same : f ≡ fault.Field left = cc in cc))
    when (Ok x) is failed = named x (name_of x.0) is refl failed

name_breaks : CanBreak name_at (λ name. byte (length name) ∷ name ∷ []) (λ name. IsTrue (is_name name))
unfolding name_at
name_breaks Whole front bytes left fits goes_on e =
    then_breaks (length_law 1 name_limit) (λ n. byte n ∷ []) (λ n. refl) Whole front _ bytes left fits
    (length_breaks 1 name_limit 1 Whole front bytes left (begin_at Whole front (byte 1 ∷ []) ((97 ∷ []) ∷ []) (goes_on (97 ∷ []) refl)))
    (λ n rest within rest_fits failed. text_breaks n Whole (front ++ (byte n ∷ [])) rest left rest_fits
    (step_on Whole front (byte n ∷ []) (letters n ∷ [])
    (subst (λ (m : ℕ). Extends Whole (front ++ (byte m ∷ letters n ∷ []))) (letters_length n) (goes_on (letters n) (letters_name n within)))) failed) e

pub variable_breaks : CanBreak variable_at variable_fields SayableVariable
unfolding variable_at
variable_breaks Whole front bytes left fits goes_on e =
    let a : List ℕ = 97 ∷ [] in
    then_breaks role_law (λ r. byte (role_number r) ∷ []) (λ r. refl) Whole front _ bytes left fits
    (choice_breaks roles 0 Whole front bytes left
    (begin_at Whole front (byte 0 ∷ []) (byte 0 ∷ byte 1 ∷ a ∷ []) (goes_on (record { name = a; kind = kind.Bool; role = role.Input }) refl)))
    (λ r rest any rest_fits failed. then_breaks kind_law (λ k. byte (kind_number k) ∷ []) (λ k. refl) Whole (front ++ (byte (role_number r) ∷ [])) _ rest left
    rest_fits
    (choice_breaks kinds 0 Whole (front ++ (byte (role_number r) ∷ [])) rest left
    (begin_at Whole (front ++ (byte (role_number r) ∷ [])) (byte 0 ∷ []) (byte 1 ∷ a ∷ [])
    (step_on Whole front (byte (role_number r) ∷ []) (byte 0 ∷ byte 1 ∷ a ∷ []) (goes_on (record { name = a; kind = kind.Bool; role = r }) refl))))
    (λ k last any last_fits last_failed. met_first Whole ((front ++ (byte (role_number r) ∷ [])) ++ (byte (kind_number k) ∷ [])) name_at _ last left
    (name_breaks Whole ((front ++ (byte (role_number r) ∷ [])) ++ (byte (kind_number k) ∷ [])) last left last_fits
    (λ name is. step_on Whole (front ++ (byte (role_number r) ∷ [])) (byte (kind_number k) ∷ []) (byte (length name) ∷ name ∷ [])
    (step_on Whole front (byte (role_number r) ∷ []) (byte (kind_number k) ∷ byte (length name) ∷ name ∷ [])
    (goes_on (record { name = name; kind = k; role = r }) is)))
    (before_made (name_at last) _ left last_failed))) failed) e
