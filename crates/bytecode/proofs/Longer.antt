-- What more bytes behind the bytes change in a reading: what is left, and nothing else, unless the bytes were too short.
use Rattle.std.proofs.Common.{◌≡◌, ◌≢◌, ℕ, zero, suc, ◌+◌, ◌≤◌, Bool, true, false, cond, ltb, leb, eqb, List, [], ◌∷◌, ◌++◌, length, take, drop, Option, Some}
use Rattle.std.proofs.Common.{None, Result, Ok, Err, refl, sym, ap, subst, ◌∙◌, append_assoc, arith}
use Rattle.std.specs.Prelude.{nat_eq, slice_get, ◌&&◌}
use Rattle.std.specs.Int.{Width, w16, w32, byte_len, cast_signed}
use Rattle.std.specs.Cmp.Lexicographic.{pointwise}
use Rattle.std.proofs.lemmas.Bool.{ltb-false, ne_eqb}
use Rattle.std.proofs.lemmas.List.{length-append, length-take, take-append-drop}
use Rattle.sc_values.specs.declared.operation.Operation.{Operation}
use Rattle.sc_values.specs.declared.divisor.Divisor.{Divisor}
use Rattle.sc_values.specs.Division.{divisor_of}
use Rattle.sc_values.specs.Limits.{name_limit, operation_limit}
use Rattle.sc_graph.specs.declared.program.Step.{Step}
use Rattle.sc_graph.specs.declared.program.Step.TheVariants as step
use Rattle.bytecode.specs.declared.fault.DecodeFault.{DecodeFault}
use Rattle.bytecode.specs.declared.fault.DecodeFault.TheVariants as fault
use Rattle.bytecode.specs.Image.{Image}
use Rattle.bytecode.specs.Layout.{magic}
use Rattle.bytecode.specs.Reading.{◌>>=◌, Reader, or_field, each_at}
use Rattle.bytecode.specs.Reading.Fields.{bytes_at, byte_at, number_at, choice_at, flags, roles, kinds, combinations, length_at, name_of, name_at, variable_at}
use Rattle.bytecode.specs.Reading.Codes.{operators, operation_body, divisor_at, is_division, division_at, operation_at, code_at}
use Rattle.bytecode.specs.Reading.Nodes.{thread_at, assign_at, update_at, cond_at, fork_at, target_at, step_body, tagged_step_at, node_at}
use Rattle.bytecode.specs.Reading.Image.{counted_at, header_at, image_of, body_at, image_at}
use Rattle.bytecode.proofs.FieldLaws.{bytes_again}

-- of what was read, and of what is read with so many bytes more: what was good comes to this, and each fault but that
-- of short bytes is the same fault
abbrev pub Grown : {A : Type 0} → (A → Result A DecodeFault) → ℕ → Result A DecodeFault → Result A DecodeFault → Type 0
Grown after n (Ok x) longer = longer ≡ after x
Grown after n (Err fault.Short) longer = Unit {0}
Grown after n (Err fault.Magic) longer = longer ≡ Err fault.Magic
Grown after n (Err fault.Version) longer = longer ≡ Err fault.Version
Grown after n (Err fault.Trailing) longer = longer ≡ Err fault.Trailing
Grown after n (Err fault.Memory) longer = longer ≡ Err fault.Memory
Grown after n (Err (fault.Field left)) longer = longer ≡ Err (fault.Field (left + n))

-- more bytes are left behind what was read
abbrev pub more_left : {A : Type 0} → List ℕ → A × List ℕ → A × List ℕ
more_left more x = (x.0, x.1 ++ more)

abbrev pub good : {A : Type 0} → A → Result A DecodeFault
good x = Ok x

abbrev pub Grows : {A : Type 0} → Reader A → Type 0
Grows read = (bytes more : List ℕ) → Grown (λ x. good (more_left more x)) (length more) (read bytes) (read (bytes ++ more))

-- one reader and then another
then_grows : {A B : Type 0} (grow : A → A) (after : B → Result B DecodeFault) (n : ℕ) (r longer : Result A DecodeFault) (f g : A → Result B DecodeFault)
    → Grown (λ x. good (grow x)) n r longer → ((x : A) → Grown after n (f x) (g (grow x))) → Grown after n (r >>= f) (longer >>= g)
then_grows {A} {B} grow after n (Ok x) longer f g first next =
    subst (λ (r : Result A DecodeFault). Grown after n (f x) (r >>= g)) (sym first) (next x)
then_grows {A} {B} grow after n (Err fault.Short) longer f g first next = tt
then_grows {A} {B} grow after n (Err fault.Magic) longer f g first next = ap (λ (r : Result A DecodeFault). r >>= g) first
then_grows {A} {B} grow after n (Err fault.Version) longer f g first next = ap (λ (r : Result A DecodeFault). r >>= g) first
then_grows {A} {B} grow after n (Err fault.Trailing) longer f g first next = ap (λ (r : Result A DecodeFault). r >>= g) first
then_grows {A} {B} grow after n (Err fault.Memory) longer f g first next = ap (λ (r : Result A DecodeFault). r >>= g) first
then_grows {A} {B} grow after n (Err (fault.Field left)) longer f g first next = ap (λ (r : Result A DecodeFault). r >>= g) first

-- a choice that is made or is a bad field
field_grows : {A : Type 0} (bytes more : List ℕ) (o : Option A) → Grown good (length more) (or_field bytes o) (or_field (bytes ++ more) o)
field_grows {A} bytes more None =
    let fault_of : ℕ → Result A DecodeFault = λ n. Err (fault.Field n) in ap fault_of (length-append bytes more)
field_grows bytes more (Some x) = refl

-- ---- fields

bytes_grow : (n : ℕ) → Grows (bytes_at n)
unfolding bytes_at
bytes_grow n bytes more = when (ltb (length bytes) n) refl
  where
    when : (b : Bool) → ltb (length bytes) n ≡ b
        → Grown (λ x. good (more_left more x)) (length more) (cond b (Err fault.Short) (Ok (take n bytes, drop n bytes))) (bytes_at n (bytes ++ more))
    when true e = tt
    when false e =
        let long : n ≤ length bytes = ltb-false _ _ e in
        let cut : bytes ++ more ≡ take n bytes ++ (drop n bytes ++ more) =
        ap (λ (b : List ℕ). b ++ more) (sym (take-append-drop n bytes)) ∙ append_assoc (take n bytes) (drop n bytes) more in
        ap (bytes_at n) cut ∙ bytes_again n (take n bytes) (drop n bytes ++ more) (omega (arith, length-take n bytes, long))

byte_grows : Grows byte_at
unfolding byte_at
byte_grows [] more = tt
byte_grows (b ∷ rest) more = refl

number_grows : (w : Width) → Grows (number_at w)
unfolding number_at
number_grows w bytes more = then_grows (more_left more) _ (length more) _ _ _ _ (bytes_grow (byte_len w) bytes more) (λ x. refl)

choice_grows : {A : Type 0} (choices : List A) → Grows (choice_at choices)
unfolding choice_at byte_at
choice_grows choices [] more = tt
choice_grows {A} choices (b ∷ rest) more =
    let same : A → A = λ x. x in
    then_grows same _ (length more) _ _ _ _ (field_grows (b ∷ rest) more (slice_get choices b)) (λ x. refl)

length_grows : (least most : ℕ) → Grows (length_at least most)
unfolding length_at byte_at
length_grows least most [] more = tt
length_grows least most (b ∷ rest) more = when (leb least b && leb b most)
  where
    fault_of : ℕ → Result (ℕ × List ℕ) DecodeFault
    fault_of n = Err (fault.Field n)

    got : List ℕ → Result (ℕ × List ℕ) DecodeFault
    got left = Ok (b, left)

    when : (is : Bool) → Grown (λ x. good (more_left more x)) (length more) (cond is (got rest) (fault_of (suc (length rest))))
        (cond is (got (rest ++ more)) (fault_of (suc (length (rest ++ more)))))
    when true = refl
    when false = ap fault_of (length-append (b ∷ rest) more)

name_grows : Grows name_at
unfolding name_at
name_grows bytes more =
    let same : List ℕ → List ℕ = λ x. x in
    then_grows (more_left more) _ (length more) _ _ _ _ (length_grows 1 name_limit bytes more)
    (λ len. then_grows (more_left more) _ (length more) _ _ _ _ (bytes_grow len.0 len.1 more)
    (λ text. then_grows same _ (length more) _ _ _ _ (field_grows len.1 more (name_of text.0)) (λ name. refl)))

variable_grows : Grows variable_at
unfolding variable_at
variable_grows bytes more =
    then_grows (more_left more) _ (length more) _ _ _ _ (choice_grows roles bytes more)
    (λ role. then_grows (more_left more) _ (length more) _ _ _ _ (choice_grows kinds role.1 more)
    (λ kind. then_grows (more_left more) _ (length more) _ _ _ _ (name_grows kind.1 more) (λ name. refl)))

each_grows : {A : Type 0} (read : Reader A) → Grows read → (n : ℕ) → Grows (each_at read n)
unfolding each_at
each_grows read grows zero bytes more = refl
each_grows read grows (suc n) bytes more =
    then_grows (more_left more) _ (length more) _ _ _ _ (grows bytes more)
    (λ x. then_grows (more_left more) _ (length more) _ _ _ _ (each_grows read grows n x.1 more) (λ others. refl))

-- ---- codes

body_grows : (number : ℕ) (rest more : List ℕ)
    → Grown (λ x. good (more_left more x)) (length more) (operation_body (number ∷ rest) number rest)
    (operation_body (number ∷ rest ++ more) number (rest ++ more))
unfolding operation_body
body_grows zero rest more = then_grows (more_left more) _ (length more) _ _ _ _ (choice_grows flags rest more) (λ b. refl)
body_grows (suc zero) rest more = then_grows (more_left more) _ (length more) _ _ _ _ (number_grows w32 rest more) (λ n. refl)
body_grows (suc (suc zero)) rest more = then_grows (more_left more) _ (length more) _ _ _ _ (number_grows w16 rest more) (λ n. refl)
body_grows (suc (suc (suc n))) rest more =
    let same : Operation → Operation = λ x. x in
    then_grows same _ (length more) _ _ _ _ (field_grows (suc (suc (suc n)) ∷ rest) more (slice_get operators n)) (λ x. refl)

divisor_grows : Grows divisor_at
unfolding divisor_at
divisor_grows bytes more =
    let same : Divisor → Divisor = λ x. x in
    then_grows (more_left more) _ (length more) _ _ _ _ (number_grows w32 bytes more)
    (λ n. then_grows same _ (length more) _ _ _ _ (field_grows bytes more (divisor_of (cast_signed w32 n.0))) (λ d. refl))

division_grows : (number : ℕ) → Grows (division_at number)
unfolding division_at
division_grows number bytes more = then_grows (more_left more) _ (length more) _ _ _ _ (divisor_grows bytes more) (λ d. refl)

either_grows : (number : ℕ) (rest more : List ℕ) (b : Bool) → Grown (λ x. good (more_left more x)) (length more)
    (cond b (division_at number rest) (operation_body (number ∷ rest) number rest))
    (cond b (division_at number (rest ++ more)) (operation_body (number ∷ rest ++ more) number (rest ++ more)))
either_grows number rest more true = division_grows number rest more
either_grows number rest more false = body_grows number rest more

operation_grows : (version : ℕ) → Grows (operation_at version)
unfolding operation_at byte_at
operation_grows version [] more = tt
operation_grows version (number ∷ rest) more = either_grows number rest more (is_division version number)

code_grows : (version : ℕ) → Grows (code_at version)
unfolding code_at
code_grows version bytes more =
    then_grows (more_left more) _ (length more) _ _ _ _ (length_grows 0 operation_limit bytes more)
    (λ len. each_grows (operation_at version) (operation_grows version) len.0 len.1 more)

-- ---- threads and nodes

thread_grows : Grows thread_at
unfolding thread_at
thread_grows bytes more =
    then_grows (more_left more) _ (length more) _ _ _ _ (number_grows w16 bytes more)
    (λ parent. then_grows (more_left more) _ (length more) _ _ _ _ (number_grows w16 parent.1 more)
    (λ entry. then_grows (more_left more) _ (length more) _ _ _ _ (number_grows w32 entry.1 more) (λ bound. refl)))

assign_grows : (version : ℕ) → Grows (assign_at version)
unfolding assign_at
assign_grows version bytes more =
    then_grows (more_left more) _ (length more) _ _ _ _ (number_grows w16 bytes more)
    (λ variable. then_grows (more_left more) _ (length more) _ _ _ _ (number_grows w16 variable.1 more)
    (λ next. then_grows (more_left more) _ (length more) _ _ _ _ (code_grows version next.1 more) (λ code. refl)))

update_grows : (version : ℕ) → Grows (update_at version)
unfolding update_at
update_grows version bytes more =
    then_grows (more_left more) _ (length more) _ _ _ _ (number_grows w16 bytes more)
    (λ variable. then_grows (more_left more) _ (length more) _ _ _ _ (choice_grows combinations variable.1 more)
    (λ combine. then_grows (more_left more) _ (length more) _ _ _ _ (number_grows w16 combine.1 more)
    (λ next. then_grows (more_left more) _ (length more) _ _ _ _ (code_grows version next.1 more) (λ code. refl))))

cond_grows : (version : ℕ) → Grows (cond_at version)
unfolding cond_at
cond_grows version bytes more =
    then_grows (more_left more) _ (length more) _ _ _ _ (number_grows w16 bytes more)
    (λ target. then_grows (more_left more) _ (length more) _ _ _ _ (number_grows w16 target.1 more)
    (λ other. then_grows (more_left more) _ (length more) _ _ _ _ (code_grows version other.1 more) (λ code. refl)))

fork_grows : Grows fork_at
unfolding fork_at
fork_grows bytes more =
    then_grows (more_left more) _ (length more) _ _ _ _ (number_grows w16 bytes more)
    (λ join. then_grows (more_left more) _ (length more) _ _ _ _ (byte_grows join.1 more)
    (λ count. then_grows (more_left more) _ (length more) _ _ _ _ (each_grows (number_at w16) (number_grows w16) count.0 count.1 more) (λ children. refl)))

target_grows : (made : ℕ → Step) → Grows (target_at made)
unfolding target_at
target_grows made bytes more = then_grows (more_left more) _ (length more) _ _ _ _ (number_grows w16 bytes more) (λ target. refl)

step_body_grows : (version tag : ℕ) (rest more : List ℕ)
    → Grown (λ x. good (more_left more x)) (length more) (step_body version (tag ∷ rest) tag rest) (step_body version (tag ∷ rest ++ more) tag (rest ++ more))
unfolding step_body
step_body_grows version zero rest more = refl
step_body_grows version (suc zero) rest more = assign_grows version rest more
step_body_grows version (suc (suc zero)) rest more = update_grows version rest more
step_body_grows version (suc (suc (suc zero))) rest more = cond_grows version rest more
step_body_grows version (suc (suc (suc (suc zero)))) rest more = fork_grows rest more
step_body_grows version (suc (suc (suc (suc (suc zero))))) rest more = target_grows step.Join rest more
step_body_grows version (suc (suc (suc (suc (suc (suc zero)))))) rest more = target_grows step.Surf rest more
step_body_grows version (suc (suc (suc (suc (suc (suc (suc zero))))))) rest more = target_grows step.Depth rest more
step_body_grows version (suc (suc (suc (suc (suc (suc (suc (suc n)))))))) rest more =
    let fault_of : ℕ → Result (Step × List ℕ) DecodeFault = λ n. Err (fault.Field n) in
    ap fault_of (length-append (suc (suc (suc (suc (suc (suc (suc (suc n))))))) ∷ rest) more)

step_grows : (version : ℕ) → Grows (tagged_step_at version)
unfolding tagged_step_at byte_at
step_grows version [] more = tt
step_grows version (tag ∷ rest) more = step_body_grows version tag rest more

node_grows : (version : ℕ) → Grows (node_at version)
unfolding node_at
node_grows version bytes more =
    then_grows (more_left more) _ (length more) _ _ _ _ (number_grows w16 bytes more)
    (λ owner. then_grows (more_left more) _ (length more) _ _ _ _ (number_grows w16 owner.1 more)
    (λ priority. then_grows (more_left more) _ (length more) _ _ _ _ (number_grows w16 priority.1 more)
    (λ weight. then_grows (more_left more) _ (length more) _ _ _ _ (choice_grows flags weight.1 more)
    (λ end_bit. then_grows (more_left more) _ (length more) _ _ _ _ (step_grows version end_bit.1 more) (λ step. refl)))))

-- ---- images

counted_grows : {A : Type 0} (read : Reader A) → Grows read → Grows (counted_at read)
unfolding counted_at
counted_grows read grows bytes more =
    then_grows (more_left more) _ (length more) _ _ _ _ (number_grows w16 bytes more) (λ count. each_grows read grows count.0 count.1 more)

-- a test that is passed or is a fault of no field
tested_grows : (b : Bool) (rest more : List ℕ) (f : DecodeFault) → Grown good (length more) (cond false (good rest) (Err f)) (Err f)
    → Grown (λ (r : List ℕ). good (r ++ more)) (length more) (cond b (Ok rest) (Err f)) (cond b (Ok (rest ++ more)) (Err f))
tested_grows true rest more f same = refl
tested_grows false rest more fault.Short same = tt
tested_grows false rest more fault.Magic same = refl
tested_grows false rest more fault.Version same = refl
tested_grows false rest more fault.Trailing same = refl
tested_grows false rest more fault.Memory same = refl
tested_grows false rest more (fault.Field left) same = same

header_grows : (version : ℕ) (bytes more : List ℕ) → Grown (λ (rest : List ℕ). good (rest ++ more)) (length more) (header_at version bytes)
    (header_at version (bytes ++ more))
unfolding header_at
header_grows version bytes more =
    then_grows (more_left more) _ (length more) _ _ _ _ (bytes_grow 4 bytes more)
    (λ start. then_grows (λ (rest : List ℕ). rest ++ more) _ (length more) _ _ _ _ (tested_grows (pointwise nat_eq start.0 magic) start.1 more fault.Magic refl)
    (λ marked. then_grows (more_left more) _ (length more) _ _ _ _ (byte_grows marked more)
    (λ number. tested_grows (eqb number.0 version) number.1 more fault.Version refl)))

-- an image that is whole has a tail then
abbrev pub tailed : Image → Result Image DecodeFault
tailed i = Err fault.Trailing

ended_grows : (i : Image) (rest more : List ℕ) → more ≢ []
    → Grown tailed (length more) (cond (eqb (length rest) 0) (Ok i) (Err fault.Trailing)) (cond (eqb (length (rest ++ more)) 0) (Ok i) (Err fault.Trailing))
ended_grows i [] [] some = absurd (some refl)
ended_grows i [] (b ∷ more) some = rw (ne_eqb (suc (length more)) 0 (λ e. absurd cc)) refl
ended_grows i (a ∷ rest) more some = rw (ne_eqb (suc (length rest)) 0 (λ e. absurd cc), ne_eqb (suc (length (rest ++ more))) 0 (λ e. absurd cc)) refl

body_at_grows : (version : ℕ) (bytes more : List ℕ) → more ≢ [] → Grown tailed (length more) (body_at version bytes) (body_at version (bytes ++ more))
unfolding body_at
body_at_grows version bytes more some =
    then_grows (more_left more) _ (length more) _ _ _ _ (counted_grows variable_at variable_grows bytes more)
    (λ variables. then_grows (more_left more) _ (length more) _ _ _ _ (counted_grows thread_at thread_grows variables.1 more)
    (λ threads. then_grows (more_left more) _ (length more) _ _ _ _ (counted_grows (node_at version) (node_grows version) threads.1 more)
    (λ nodes. then_grows (more_left more) _ (length more) _ _ _ _ (number_grows w32 nodes.1 more)
    (λ budget. ended_grows (image_of variables.0 threads.0 nodes.0 budget.0) budget.1 more some))))

-- an image and its faults, with bytes behind it
pub image_grows : (version : ℕ) (bytes more : List ℕ) → more ≢ [] → Grown tailed (length more) (image_at version bytes) (image_at version (bytes ++ more))
unfolding image_at
image_grows version bytes more some =
    then_grows (λ (rest : List ℕ). rest ++ more) _ (length more) _ _ _ _ (header_grows version bytes more) (λ rest. body_at_grows version rest more some)
