-- Where a bad field begins: at one of the bytes that were read. A reader leaves no more bytes than it was given,
-- takes no memory, and says nothing of a tail.
use Rattle.std.proofs.Common.{◌≡◌, ◌≢◌, ℕ, zero, suc, ◌-◌, ◌<◌, ◌≤◌, Bool, true, false, cond, ltb, leb, eqb, List, [], ◌∷◌, length, take, drop, Option, Some}
use Rattle.std.proofs.Common.{None, Result, Ok, Err, refl, subst, arith}
use Rattle.std.specs.Prelude.{nat_eq, slice_get, ◌&&◌}
use Rattle.std.specs.Int.{Width, w16, w32, byte_len, from_le_bytes, cast_signed}
use Rattle.std.specs.Cmp.Lexicographic.{pointwise}
use Rattle.std.specs.Result.{IsErrOf}
use Rattle.std.proofs.lemmas.Bool.{ltb-false, leb-true, and_parts}
use Rattle.std.proofs.lemmas.List.{length-drop}
use Rattle.sc_values.specs.declared.operation.Operation.{Operation}
use Rattle.sc_values.specs.Division.{divisor_of}
use Rattle.sc_values.specs.Limits.{name_limit, operation_limit}
use Rattle.sc_graph.specs.declared.program.Step.{Step}
use Rattle.sc_graph.specs.declared.program.Step.TheVariants as step
use Rattle.bytecode.specs.declared.fault.DecodeFault.{DecodeFault}
use Rattle.bytecode.specs.declared.fault.DecodeFault.TheVariants as fault
use Rattle.bytecode.specs.Image.{Image}
use Rattle.bytecode.specs.Layout.{magic}
use Rattle.bytecode.specs.Reading.{◌>>=◌, Reader, or_field, each_at}
use Rattle.bytecode.specs.Reading.Fields.{bytes_at, byte_at, number_at, choice_at, flags, roles, kinds, combinations, length_at, name_of, name_at, variable_at}
use Rattle.bytecode.specs.Reading.Codes.{operators, operation_body, divisor_at, is_division, division_at, operation_at, code_at}
use Rattle.bytecode.specs.Reading.Nodes.{thread_at, assign_at, update_at, cond_at, fork_at, target_at, step_body, tagged_step_at, node_at}
use Rattle.bytecode.specs.Reading.Image.{counted_at, header_at, image_of, body_at, image_at, answer, reading, Answers}
use Rattle.bytecode.proofs.Readers.{bind_ok, passed, not_short}

-- of n bytes: a bad field begins at one of them, and what is to hold of a tail
abbrev IsWithin : Type 0 → ℕ → DecodeFault → Type 0
IsWithin tail n (fault.Field left) = (0 < left) × (left ≤ n)
IsWithin tail n fault.Memory = ⊥
IsWithin tail n fault.Trailing = tail
IsWithin tail n other = Unit {0}

-- of n bytes: no more are left, and a bad field begins at one of them
abbrev StaysOr : {A : Type 0} → Type 0 → (A → ℕ) → ℕ → Result A DecodeFault → Type 0
StaysOr tail left n (Ok x) = left x ≤ n
StaysOr tail left n (Err f) = IsWithin tail n f

abbrev pub Stays : {A : Type 0} → (A → ℕ) → ℕ → Result A DecodeFault → Type 0
Stays left n r = StaysOr ⊥ left n r

-- the bytes after what was read
abbrev pub unread : {A : Type 0} → A × List ℕ → ℕ
unread x = length x.1

abbrev all_read : Image → ℕ
all_read i = 0

within_more : (tail : Type 0) (m n : ℕ) (f : DecodeFault) → m ≤ n → IsWithin tail m f → IsWithin tail n f
within_more tail m n fault.Short le is = tt
within_more tail m n fault.Magic le is = tt
within_more tail m n fault.Version le is = tt
within_more tail m n fault.Trailing le is = is
within_more tail m n fault.Memory le is = is
within_more tail m n (fault.Field left) le is = (is.0, omega (arith, is.1, le))

stays_in_more : {A : Type 0} (tail : Type 0) (left : A → ℕ) (m n : ℕ) (r : Result A DecodeFault) → m ≤ n → StaysOr tail left m r → StaysOr tail left n r
stays_in_more tail left m n (Ok x) le is = omega (arith, is, le)
stays_in_more tail left m n (Err f) le is = within_more tail m n f le is

within_or : (tail : Type 0) (n : ℕ) (f : DecodeFault) → IsWithin ⊥ n f → IsWithin tail n f
within_or tail n fault.Short is = tt
within_or tail n fault.Magic is = tt
within_or tail n fault.Version is = tt
within_or tail n fault.Trailing is = absurd is
within_or tail n fault.Memory is = is
within_or tail n (fault.Field left) is = is

-- one reader and then another
then_stays : {A B : Type 0} (left : A → ℕ) (after : B → ℕ) (n : ℕ) (r : Result A DecodeFault) (f : A → Result B DecodeFault)
    → Stays left n r → ((x : A) → r ≡ Ok x → Stays after (left x) (f x)) → Stays after n (r >>= f)
then_stays left after n (Ok x) f first next = stays_in_more ⊥ after (left x) n (f x) first (next x refl)
then_stays left after n (Err e) f first next = first

-- one reader and then what may end with a tail
then_may_end : {A B : Type 0} (left : A → ℕ) (after : B → ℕ) (n : ℕ) (r : Result A DecodeFault) (f : A → Result B DecodeFault)
    → Stays left n r → ((x : A) → r ≡ Ok x → StaysOr (Unit {0}) after (left x) (f x)) → StaysOr (Unit {0}) after n (r >>= f)
then_may_end left after n (Ok x) f first next = stays_in_more (Unit {0}) after (left x) n (f x) first (next x refl)
then_may_end left after n (Err e) f first next = within_or (Unit {0}) n e first

-- a tail was not said by the first reader
pub tail_behind : {A B : Type 0} (left : A → ℕ) (n : ℕ) (r : Result A DecodeFault) (f : A → Result B DecodeFault)
    → Stays left n r → (r >>= f) ≡ Err fault.Trailing → (x : A) × (r ≡ Ok x) × (f x ≡ Err fault.Trailing)
tail_behind left n (Ok x) f first e = (x, refl, e)
tail_behind left n (Err fault.Short) f first e = absurd cc
tail_behind left n (Err fault.Magic) f first e = absurd cc
tail_behind left n (Err fault.Version) f first e = absurd cc
tail_behind left n (Err fault.Trailing) f first e = absurd first
tail_behind left n (Err fault.Memory) f first e = absurd first
tail_behind left n (Err (fault.Field at)) f first e = absurd cc

-- a choice that is made or is a bad field
chosen_stays : {A B : Type 0} (after : B → ℕ) (bytes : List ℕ) (o : Option A) (f : A → Result B DecodeFault)
    → 0 < length bytes → ((x : A) → Stays after (length bytes) (f x)) → Stays after (length bytes) (or_field bytes o >>= f)
chosen_stays after bytes None f some next = (some, omega arith)
chosen_stays after bytes (Some x) f some next = next x

-- ---- fields

bytes_stay : (n : ℕ) (bytes : List ℕ) → Stays unread (length bytes) (bytes_at n bytes)
unfolding bytes_at
bytes_stay n bytes = when (ltb (length bytes) n)
  where
    when : (b : Bool) → Stays unread (length bytes) (cond b (Err fault.Short) (Ok (take n bytes, drop n bytes)))
    when true = tt
    when false = omega (arith, length-drop n bytes)

byte_stays : (bytes : List ℕ) → Stays unread (length bytes) (byte_at bytes)
unfolding byte_at
byte_stays [] = tt
byte_stays (b ∷ rest) = omega arith

pub number_stays : (w : Width) (bytes : List ℕ) → Stays unread (length bytes) (number_at w bytes)
unfolding number_at
number_stays w bytes =
    then_stays unread unread (length bytes) (bytes_at (byte_len w) bytes) (λ front. Ok (from_le_bytes w front.0, front.1)) (bytes_stay (byte_len w) bytes)
    (λ x e. omega arith)

choice_stays : {A : Type 0} (choices : List A) (bytes : List ℕ) → Stays unread (length bytes) (choice_at choices bytes)
unfolding choice_at byte_at
choice_stays choices [] = tt
choice_stays choices (b ∷ rest) = chosen_stays unread (b ∷ rest) (slice_get choices b) (λ choice. Ok (choice, rest)) (omega arith) (λ x. omega arith)

each_stays : {A : Type 0} (read : Reader A) → ((bytes : List ℕ) → Stays unread (length bytes) (read bytes))
    → (n : ℕ) (bytes : List ℕ) → Stays unread (length bytes) (each_at read n bytes)
unfolding each_at
each_stays read stays zero bytes = omega arith
each_stays read stays (suc n) bytes =
    then_stays unread unread (length bytes) (read bytes) (λ first. each_at read n first.1 >>= λ others. Ok (first.0 ∷ others.0, others.1)) (stays bytes)
    (λ x e. then_stays unread unread (length x.1) (each_at read n x.1) (λ others. Ok (x.0 ∷ others.0, others.1)) (each_stays read stays n x.1)
    (λ y f. omega arith))

length_stays : (least most : ℕ) (bytes : List ℕ) → Stays unread (length bytes) (length_at least most bytes)
unfolding length_at byte_at
length_stays least most [] = tt
length_stays least most (b ∷ rest) = when (leb least b && leb b most)
  where
    when : (is : Bool) → Stays unread (suc (length rest)) (cond is (Ok (b, rest)) (Err (fault.Field (suc (length rest)))))
    when true = omega arith
    when false = (omega arith, omega arith)

length_least : (least most : ℕ) (bytes : List ℕ) (x : ℕ × List ℕ) → length_at least most bytes ≡ Ok x → least ≤ x.0
unfolding length_at
length_least least most bytes x e =
    let a = bind_ok (byte_at bytes) (λ len. cond (leb least len.0 && leb len.0 most) (Ok len) (Err (fault.Field (length bytes)))) x e in
    let g = passed (leb least a.0.0 && leb a.0.0 most) (fault.Field (length bytes)) a.0 x a.2 in
    subst (λ (p : ℕ × List ℕ). least ≤ p.0) g.1 (leb-true _ _ (and_parts _ _ g.0).0)

bytes_enough : (n : ℕ) (bytes : List ℕ) (x : List ℕ × List ℕ) → bytes_at n bytes ≡ Ok x → n ≤ length bytes
unfolding bytes_at
bytes_enough n bytes x e = ltb-false _ _ (not_short (ltb (length bytes) n) fault.Short (take n bytes, drop n bytes) x e).0

-- a name that is bad begins behind its length
text_stays : (n : ℕ) (bytes : List ℕ) → 1 ≤ n
    → Stays unread (length bytes) (bytes_at n bytes >>= λ text. or_field bytes (name_of text.0) >>= λ name. Ok (name, text.1))
text_stays n bytes some = when (bytes_at n bytes) refl
  where
    when : (r : Result (List ℕ × List ℕ) DecodeFault) → bytes_at n bytes ≡ r
        → Stays unread (length bytes) (r >>= λ text. or_field bytes (name_of text.0) >>= λ name. Ok (name, text.1))
    when (Err f) e = subst (Stays unread (length bytes)) e (bytes_stay n bytes)
    when (Ok x) e =
        let enough = bytes_enough n bytes x e in
        let rest : length x.1 ≤ length bytes = subst (Stays unread (length bytes)) e (bytes_stay n bytes) in
        chosen_stays unread bytes (name_of x.0) (λ name. Ok (name, x.1)) (omega (arith, enough, some)) (λ name. rest)

name_stays : (bytes : List ℕ) → Stays unread (length bytes) (name_at bytes)
unfolding name_at
name_stays bytes =
    then_stays unread unread (length bytes) (length_at 1 name_limit bytes) (λ len. bytes_at len.0 len.1 >>= λ text. or_field len.1 (name_of text.0) >>= λ name.
    Ok (name, text.1)) (length_stays 1 name_limit bytes)
    (λ len e. text_stays len.0 len.1 (length_least 1 name_limit bytes len e))

pub variable_stays : (bytes : List ℕ) → Stays unread (length bytes) (variable_at bytes)
unfolding variable_at
variable_stays bytes =
    then_stays unread unread _ (choice_at roles bytes) _ (choice_stays roles bytes)
    (λ role e. then_stays unread unread _ (choice_at kinds role.1) _ (choice_stays kinds role.1)
    (λ kind f. then_stays unread unread _ (name_at kind.1) _ (name_stays kind.1) (λ name g. omega arith)))

-- ---- codes

-- one byte more before these
behind_byte : {A : Type 0} (rest : List ℕ) (r : Result (A × List ℕ) DecodeFault) → Stays unread (length rest) r → Stays unread (suc (length rest)) r
behind_byte rest r is = stays_in_more ⊥ unread (length rest) (suc (length rest)) r (omega arith) is

operation_body_stays : (number : ℕ) (rest : List ℕ) → Stays unread (suc (length rest)) (operation_body (number ∷ rest) number rest)
unfolding operation_body
operation_body_stays zero rest = behind_byte rest _ (then_stays unread unread _ (choice_at flags rest) _ (choice_stays flags rest) (λ b e. omega arith))
operation_body_stays (suc zero) rest = behind_byte rest _ (then_stays unread unread _ (number_at w32 rest) _ (number_stays w32 rest) (λ n e. omega arith))
operation_body_stays (suc (suc zero)) rest = behind_byte rest _ (then_stays unread unread _ (number_at w16 rest) _ (number_stays w16 rest) (λ n e. omega arith))
operation_body_stays (suc (suc (suc n))) rest =
    chosen_stays unread (suc (suc (suc n)) ∷ rest) (slice_get operators n) (λ operator. Ok (operator, rest)) (omega arith) (λ operator. omega arith)

number_enough : (bytes : List ℕ) (x : ℕ × List ℕ) → number_at w32 bytes ≡ Ok x → 0 < length bytes
unfolding number_at
number_enough bytes x e =
    let a = bind_ok (bytes_at 4 bytes) (λ front. Ok (from_le_bytes w32 front.0, front.1)) x e in
    let four = bytes_enough 4 bytes a.0 a.1 in omega (arith, four)

-- a bad divisor begins where its bytes do
divisor_stays : (bytes : List ℕ) → Stays unread (length bytes) (divisor_at bytes)
unfolding divisor_at
divisor_stays bytes = when (number_at w32 bytes) refl
  where
    when : (r : Result (ℕ × List ℕ) DecodeFault) → number_at w32 bytes ≡ r
        → Stays unread (length bytes) (r >>= λ n. or_field bytes (divisor_of (cast_signed w32 n.0)) >>= λ d. Ok (d, n.1))
    when (Err f) e = subst (Stays unread (length bytes)) e (number_stays w32 bytes)
    when (Ok x) e =
        let rest : length x.1 ≤ length bytes = subst (Stays unread (length bytes)) e (number_stays w32 bytes) in
        chosen_stays unread bytes (divisor_of (cast_signed w32 x.0)) (λ d. Ok (d, x.1)) (number_enough bytes x e) (λ d. rest)

division_stays : (number : ℕ) (bytes : List ℕ) → Stays unread (length bytes) (division_at number bytes)
unfolding division_at
division_stays number bytes = then_stays unread unread _ (divisor_at bytes) _ (divisor_stays bytes) (λ d e. omega arith)

either_stays : (number : ℕ) (rest : List ℕ) (b : Bool)
    → Stays unread (suc (length rest)) (cond b (division_at number rest) (operation_body (number ∷ rest) number rest))
either_stays number rest true = behind_byte rest _ (division_stays number rest)
either_stays number rest false = operation_body_stays number rest

operation_stays : (version : ℕ) (bytes : List ℕ) → Stays unread (length bytes) (operation_at version bytes)
unfolding operation_at byte_at
operation_stays version [] = tt
operation_stays version (number ∷ rest) = either_stays number rest (is_division version number)

code_stays : (version : ℕ) (bytes : List ℕ) → Stays unread (length bytes) ((code_at version) bytes)
unfolding code_at
code_stays version bytes =
    then_stays unread unread _ (length_at 0 operation_limit bytes) _ (length_stays 0 operation_limit bytes)
    (λ len e. each_stays (operation_at version) (operation_stays version) len.0 len.1)

-- ---- threads and nodes

pub thread_stays : (bytes : List ℕ) → Stays unread (length bytes) (thread_at bytes)
unfolding thread_at
thread_stays bytes =
    then_stays unread unread _ (number_at w16 bytes) _ (number_stays w16 bytes)
    (λ parent e. then_stays unread unread _ (number_at w16 parent.1) _ (number_stays w16 parent.1)
    (λ entry f. then_stays unread unread _ (number_at w32 entry.1) _ (number_stays w32 entry.1) (λ bound g. omega arith)))

-- two numbers and a code
coded_stays : (version : ℕ) {A : Type 0} (bytes : List ℕ) (made : ℕ → ℕ → List Operation → A)
    → Stays unread (length bytes) (number_at w16 bytes >>= λ first. number_at w16 first.1 >>= λ second. (code_at version) second.1 >>= λ code.
    Ok (made first.0 second.0 code.0, code.1))
coded_stays version bytes made =
    then_stays unread unread _ (number_at w16 bytes) _ (number_stays w16 bytes)
    (λ first e. then_stays unread unread _ (number_at w16 first.1) _ (number_stays w16 first.1)
    (λ second f. then_stays unread unread _ ((code_at version) second.1) _ ((code_stays version) second.1) (λ code g. omega arith)))

update_stays : (version : ℕ) (bytes : List ℕ) → Stays unread (length bytes) ((update_at version) bytes)
unfolding update_at
update_stays version bytes =
    then_stays unread unread _ (number_at w16 bytes) _ (number_stays w16 bytes)
    (λ variable e. then_stays unread unread _ (choice_at combinations variable.1) _ (choice_stays combinations variable.1)
    (λ combine f. then_stays unread unread _ (number_at w16 combine.1) _ (number_stays w16 combine.1)
    (λ next g. then_stays unread unread _ ((code_at version) next.1) _ ((code_stays version) next.1) (λ code h. omega arith))))

fork_stays : (bytes : List ℕ) → Stays unread (length bytes) (fork_at bytes)
unfolding fork_at
fork_stays bytes =
    then_stays unread unread _ (number_at w16 bytes) _ (number_stays w16 bytes)
    (λ join e. then_stays unread unread _ (byte_at join.1) _ (byte_stays join.1)
    (λ count f. then_stays unread unread _ (each_at (number_at w16) count.0 count.1) _ (each_stays (number_at w16) (number_stays w16) count.0 count.1)
    (λ children g. omega arith)))

target_stays : (made : ℕ → Step) (bytes : List ℕ) → Stays unread (length bytes) (target_at made bytes)
unfolding target_at
target_stays made bytes = then_stays unread unread _ (number_at w16 bytes) _ (number_stays w16 bytes) (λ target e. omega arith)

step_body_stays : (version : ℕ) (tag : ℕ) (rest : List ℕ) → Stays unread (suc (length rest)) ((step_body version) (tag ∷ rest) tag rest)
unfolding step_body assign_at cond_at
step_body_stays version zero rest = omega arith
step_body_stays version (suc zero) rest = behind_byte rest _ ((coded_stays version) rest (λ variable next code. step.Assign variable code next))
step_body_stays version (suc (suc zero)) rest = behind_byte rest _ ((update_stays version) rest)
step_body_stays version (suc (suc (suc zero))) rest = behind_byte rest _ ((coded_stays version) rest (λ target other code. step.Cond code target other))
step_body_stays version (suc (suc (suc (suc zero)))) rest = behind_byte rest _ (fork_stays rest)
step_body_stays version (suc (suc (suc (suc (suc zero))))) rest = behind_byte rest _ (target_stays step.Join rest)
step_body_stays version (suc (suc (suc (suc (suc (suc zero)))))) rest = behind_byte rest _ (target_stays step.Surf rest)
step_body_stays version (suc (suc (suc (suc (suc (suc (suc zero))))))) rest = behind_byte rest _ (target_stays step.Depth rest)
step_body_stays version (suc (suc (suc (suc (suc (suc (suc (suc n)))))))) rest = (omega arith, omega arith)

step_stays : (version : ℕ) (bytes : List ℕ) → Stays unread (length bytes) ((tagged_step_at version) bytes)
unfolding tagged_step_at byte_at
step_stays version [] = tt
step_stays version (tag ∷ rest) = (step_body_stays version) tag rest

pub node_stays : (version : ℕ) (bytes : List ℕ) → Stays unread (length bytes) ((node_at version) bytes)
unfolding node_at
node_stays version bytes =
    then_stays unread unread _ (number_at w16 bytes) _ (number_stays w16 bytes)
    (λ owner e. then_stays unread unread _ (number_at w16 owner.1) _ (number_stays w16 owner.1)
    (λ priority f. then_stays unread unread _ (number_at w16 priority.1) _ (number_stays w16 priority.1)
    (λ weight g. then_stays unread unread _ (choice_at flags weight.1) _ (choice_stays flags weight.1)
    (λ end_bit h. then_stays unread unread _ ((tagged_step_at version) end_bit.1) _ ((step_stays version) end_bit.1) (λ step i. omega arith)))))

-- ---- images

pub counted_stays : {A : Type 0} (read : Reader A) → ((bytes : List ℕ) → Stays unread (length bytes) (read bytes)) → (bytes : List ℕ)
    → Stays unread (length bytes) (counted_at read bytes)
unfolding counted_at
counted_stays read stays bytes =
    then_stays unread unread _ (number_at w16 bytes) _ (number_stays w16 bytes) (λ count e. each_stays read stays count.0 count.1)

-- a test that leads to an image or to a fault of no field
tested_stays : {A : Type 0} (tail : Type 0) (left : A → ℕ) (n : ℕ) (b : Bool) (x : A) (f : DecodeFault) → left x ≤ n → IsWithin tail n f
    → StaysOr tail left n (cond b (Ok x) (Err f))
tested_stays tail left n true x f kept none = kept
tested_stays tail left n false x f kept none = none

pub header_stays : (version : ℕ) (bytes : List ℕ) → Stays length (length bytes) (header_at version bytes)
unfolding header_at
header_stays version bytes =
    then_stays unread length _ (bytes_at 4 bytes) _ (bytes_stay 4 bytes)
    (λ start e. then_stays length length _ (cond (pointwise nat_eq start.0 magic) (Ok start.1) (Err fault.Magic)) _
    (tested_stays ⊥ length _ (pointwise nat_eq start.0 magic) start.1 fault.Magic (omega arith) tt)
    (λ marked f. then_stays unread length _ (byte_at marked) _ (byte_stays marked)
    (λ number g. tested_stays ⊥ length _ (eqb number.0 version) number.1 fault.Version (omega arith) tt)))

-- a header takes no memory
pub header_remembers : (version : ℕ) (bytes : List ℕ) → header_at version bytes ≢ Err fault.Memory
header_remembers version bytes e = subst (Stays length (length bytes)) e (header_stays version bytes)

body_stays : (version : ℕ) (bytes : List ℕ) → StaysOr (Unit {0}) all_read (length bytes) ((body_at version) bytes)
unfolding body_at
body_stays version bytes =
    then_may_end unread all_read _ (counted_at variable_at bytes) _ (counted_stays variable_at variable_stays bytes)
    (λ variables e. then_may_end unread all_read _ (counted_at thread_at variables.1) _ (counted_stays thread_at thread_stays variables.1)
    (λ threads f. then_may_end unread all_read _ (counted_at (node_at version) threads.1) _ (counted_stays (node_at version) (node_stays version) threads.1)
    (λ nodes g. then_may_end unread all_read _ (number_at w32 nodes.1) _ (number_stays w32 nodes.1)
    (λ budget h. tested_stays (Unit {0}) all_read _ (eqb (length budget.1) 0) (image_of variables.0 threads.0 nodes.0 budget.0) fault.Trailing
    (omega arith) tt))))

image_stays : (version : ℕ) (bytes : List ℕ) → StaysOr (Unit {0}) all_read (length bytes) (image_at version bytes)
unfolding image_at
image_stays version bytes = then_may_end length all_read _ (header_at version bytes) _ (header_stays version bytes) (λ rest e. (body_stays version) rest)

-- a reading takes no memory
pub image_remembers : (version : ℕ) (bytes : List ℕ) → image_at version bytes ≢ Err fault.Memory
image_remembers version bytes e = subst (StaysOr (Unit {0}) all_read (length bytes)) e (image_stays version bytes)

-- a bad field of these bytes has the offset of one of them
offset_within : (bytes : List ℕ) (r : Result Image DecodeFault) (offset : ℕ) → StaysOr (Unit {0}) all_read (length bytes) r
    → IsErrOf (answer bytes r) (fault.Field offset) → offset < length bytes
offset_within bytes (Ok i) offset stays e = absurd cc
offset_within bytes (Err fault.Short) offset stays e = absurd cc
offset_within bytes (Err fault.Magic) offset stays e = absurd cc
offset_within bytes (Err fault.Version) offset stays e = absurd cc
offset_within bytes (Err fault.Trailing) offset stays e = absurd cc
offset_within bytes (Err fault.Memory) offset stays e = absurd cc
offset_within bytes (Err (fault.Field left)) offset stays e =
    let same : length bytes - left ≡ offset = cc in
    omega (arith, same, stays.0, stays.1)

-- what a function answers of a reading
pub fault_within : (version : ℕ) (bytes : List ℕ) (r : Result Image DecodeFault) (offset : ℕ) → Answers r (reading version bytes)
    → IsErrOf r (fault.Field offset) → offset < length bytes
unfolding reading
fault_within version bytes r offset given is =
    offset_within bytes (image_at version bytes) offset (image_stays version bytes)
    (subst (λ (x : Result Image DecodeFault). Answers x (answer bytes (image_at version bytes))) is given)
