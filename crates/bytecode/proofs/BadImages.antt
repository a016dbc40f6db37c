-- The bad fields of images: what is told is such.
use Rattle.std.proofs.Common.{◌≡◌, ◌≢◌, ℕ, ◌-◌, ◌^◌, ◌<◌, Bool, true, false, cond, eqb, List, [], ◌∷◌, ◌++◌, length, None, Result, Ok, Err, refl, sym, ap}
use Rattle.std.proofs.Common.{subst, ◌∙◌, append_assoc, arith}
use Rattle.std.specs.Prelude.{nat_eq}
use Rattle.std.specs.List.{concat, flat_map}
use Rattle.std.specs.Int.{w32}
use Rattle.std.specs.Cmp.Lexicographic.{pointwise}
use Rattle.std.proofs.lemmas.List.{append-nil, length-append, length-map}
use Rattle.std.proofs.lemmas.List.Folds.{concat-append}
use Rattle.sc_values.specs.declared.value.Kind.TheVariants as kind
use Rattle.sc_graph.specs.declared.program.Role.TheVariants as role
use Rattle.sc_graph.specs.declared.program.Variable.{Variable}
use Rattle.sc_graph.specs.declared.program.Step.TheVariants as step
use Rattle.bytecode.specs.declared.rows.ThreadRow.{ThreadRow}
use Rattle.bytecode.specs.declared.rows.NodeRow.{NodeRow}
use Rattle.bytecode.specs.declared.fault.DecodeFault.TheVariants as fault
use Rattle.bytecode.specs.declared.fault.DecodeFault.{DecodeFault}
use Rattle.bytecode.specs.Image.{Image}
use Rattle.bytecode.specs.Fields.{u16_bytes, u32_bytes, role_number, kind_number, name_bytes, variable_bytes}
use Rattle.bytecode.specs.Nodes.{thread_bytes, node_bytes}
use Rattle.bytecode.specs.Layout.{magic, rows_of_threads, rows_of_nodes, body_bytes, spelling}
use Rattle.bytecode.specs.Fits.{SayableVariable, SayableThread, SayableNode, SayableImage}
use Rattle.bytecode.specs.Beginnings.{IsSpelling}
use Rattle.bytecode.specs.FieldList.{byte, variable_fields, thread_fields, node_fields, fields}
use Rattle.bytecode.specs.BadField.{IsBadField}
use Rattle.bytecode.specs.Reading.{◌>>=◌, Reader}
use Rattle.bytecode.specs.Reading.Fields.{bytes_at, byte_at, number_at}
use Rattle.bytecode.specs.Reading.Image.{counted_at, header_at, image_of, body_at, image_at, answer, reading}
use Rattle.bytecode.proofs.Readers.{IsBytes, IsRead}
use Rattle.bytecode.proofs.FieldLaws.{variable_law}
use Rattle.bytecode.proofs.NodeLaws.{thread_law, node_law}
use Rattle.bytecode.proofs.ImageRows.{thread_rows_back, node_rows_back}
use Rattle.bytecode.proofs.ImageLaws.{counted_bytes, CountedFits, counted_law, header_takes, header_again, rows_image_fits, image_again}
use Rattle.bytecode.proofs.Longer.{Grown, tailed, image_grows}
use Rattle.bytecode.proofs.BadFields.{Extends, step_on, begin_at, Breaks, broken, CanBreak, met_behind, then_breaks, bytes_break_not, byte_breaks_not}
use Rattle.bytecode.proofs.BadFields.{number_breaks_not, variable_breaks}
use Rattle.bytecode.proofs.BadCodes.{each_spelt, each_breaks}
use Rattle.bytecode.proofs.BadNodes.{number_then, not_then, thread_spelt, thread_breaks, node_spelt, node_breaks}

-- ---- the fields of an image are its spelling

variable_spelt : (v : Variable) → concat (variable_fields v) ≡ variable_bytes v
unfolding variable_bytes name_bytes
variable_spelt v = ap (λ (t : List ℕ). role_number v.role ∷ kind_number v.kind ∷ length v.name ∷ t) (append-nil v.name)

abbrev counted_fields : {A : Type 0} → (A → List (List ℕ)) → List A → List (List ℕ)
counted_fields fields_of xs = u16_bytes (length xs) ∷ flat_map fields_of xs

counted_spelt : {A : Type 0} (text : A → List ℕ) (fields_of : A → List (List ℕ)) → ((x : A) → concat (fields_of x) ≡ text x)
    → (xs : List A) → concat (counted_fields fields_of xs) ≡ counted_bytes text xs
counted_spelt text fields_of spelt xs = ap (λ (t : List ℕ). u16_bytes (length xs) ++ t) (each_spelt text fields_of spelt xs)

-- ---- images

-- the fields of an image of these rows
abbrev rows_fields : ℕ → List Variable → List ThreadRow → List NodeRow → ℕ → List (List ℕ)
rows_fields version variables threads nodes budget =
    (magic ∷ byte version ∷ []) ++ (counted_fields variable_fields
    variables ++ (counted_fields thread_fields threads ++ (counted_fields node_fields nodes ++ (u32_bytes budget ∷ []))))

regroup : {A : Type 0} (m v t n b : List A) → (((m ++ v) ++ t) ++ n) ++ b ≡ m ++ (v ++ (t ++ (n ++ b)))
regroup m v t n b = simp append_assoc

rows_have : (version : ℕ) (variables : List Variable) (threads : List ThreadRow) (nodes : List NodeRow) (budget : ℕ)
    → fields version (image_of variables threads nodes budget) ≡ rows_fields version variables threads nodes budget
rows_have version variables threads nodes budget =
    rw (thread_rows_back threads, node_rows_back nodes, length-map threads (λ t. t.thread), length-map nodes (λ n. n.node))
    (regroup (magic ∷ byte version ∷ []) (counted_fields variable_fields variables) (counted_fields thread_fields threads) (counted_fields node_fields nodes)
    (u32_bytes budget ∷ []))

abbrev Whole : ℕ → List (List ℕ) → Type 0
Whole version parts = (i : Image) × SayableImage version i × (fields version i ≡ parts)

whole_of : (version : ℕ) (variables : List Variable) (threads : List ThreadRow) (nodes : List NodeRow) (budget : ℕ)
    → CountedFits SayableVariable variables → CountedFits SayableThread threads → CountedFits (SayableNode version) nodes → budget < 2 ^ 32
    → Extends (Whole version) (rows_fields version variables threads nodes budget)
whole_of version variables threads nodes budget v t n b = (
  [],
  (
    image_of variables threads nodes budget,
    rows_image_fits version variables threads nodes budget v t n b,
    rows_have version variables threads nodes budget ∙ sym (append-nil (rows_fields version variables threads nodes budget)),
  ),
)

counted_breaks : {A : Type 0} {read : Reader A} {text : A → List ℕ} {Fits : A → Type 0} (law : IsRead read text Fits) (fields_of : A → List (List ℕ))
    → ((x : A) → concat (fields_of x) ≡ text x)
    → (some : A) → Fits some → CanBreak read fields_of Fits → CanBreak (counted_at read) (counted_fields fields_of) (CountedFits Fits)
unfolding counted_at
counted_breaks {A} {read} {text} {Fits} law fields_of spelt some some_fits can Whole front bytes left fits goes_on e =
    number_then Whole front _ bytes left fits
    (λ n rest n_fits rest_fits failed. each_breaks law fields_of spelt some some_fits can n Whole (front ++ (u16_bytes n ∷ [])) rest left rest_fits
    (λ xs len all. step_on Whole front (u16_bytes n ∷ []) (flat_map fields_of xs)
    (subst (λ (m : ℕ). Extends Whole (front ++ (u16_bytes m ∷ flat_map fields_of xs))) len (goes_on xs (omega (arith, len, n_fits), all)))) failed) e

abbrev some_variable : Variable
some_variable = record { name = 97 ∷ []; kind = kind.Bool; role = role.Input }

abbrev some_thread : ThreadRow
some_thread = record { thread = record { parent = None; entry = 0 }; bound = 0 }

abbrev some_node : NodeRow
some_node = record { node = record { owner = 0; step = step.Exit }; priority = 0; weight = 0; end_bit = false }

-- a test that ends in an image or in a tail
ended_breaks_not : (b : Bool) (i : Image) (left : ℕ) → cond b (Ok i) (Err fault.Trailing) ≢ broken left
ended_breaks_not true i left e = absurd cc
ended_breaks_not false i left e = absurd cc

body_breaks : (version : ℕ) (bytes : List ℕ) (left : ℕ) → IsBytes bytes → body_at version bytes ≡ broken left
    → Breaks (Whole version) (magic ∷ byte version ∷ []) (body_at version) bytes left
unfolding body_at
body_breaks version bytes left fits e =
    let front : List (List ℕ) = magic ∷ byte version ∷ [] in
    let W : List (List ℕ) → Type 0 = Whole version in
    then_breaks (counted_law variable_law) (counted_fields variable_fields) (counted_spelt variable_bytes variable_fields variable_spelt) W front _ bytes left
    fits
    (counted_breaks variable_law variable_fields variable_spelt some_variable refl variable_breaks W front bytes left fits
    (λ vs v. begin_at W front (counted_fields variable_fields vs) _ (whole_of version vs [] [] 0 v (omega arith, tt) (omega arith, tt) (omega arith))))
    (λ vs rest1 v fits1 failed1.
    let front1 : List (List ℕ) = front ++ counted_fields variable_fields vs in
    then_breaks (counted_law thread_law) (counted_fields thread_fields) (counted_spelt thread_bytes thread_fields thread_spelt) W front1 _ rest1 left fits1
    (counted_breaks thread_law thread_fields thread_spelt some_thread (record { parent = tt; entry = omega arith; bound = omega arith }) thread_breaks W front1
    rest1 left fits1
    (λ ts t. begin_at W front1 (counted_fields thread_fields ts) _
    (step_on W front (counted_fields variable_fields vs) _ (whole_of version vs ts [] 0 v t (omega arith, tt) (omega arith)))))
    (λ ts rest2 t fits2 failed2.
    let front2 : List (List ℕ) = front1 ++ counted_fields thread_fields ts in
    then_breaks (counted_law (node_law version)) (counted_fields node_fields) (counted_spelt node_bytes node_fields node_spelt) W front2 _ rest2 left fits2
    (counted_breaks (node_law version) node_fields node_spelt some_node
    (record { owner = omega arith; priority = omega arith; weight = omega arith; step = tt }) (node_breaks version) W front2 rest2 left fits2
    (λ ns n. begin_at W front2 (counted_fields node_fields ns) _
    (step_on W front1 (counted_fields thread_fields ts) _
    (step_on W front (counted_fields variable_fields vs) _ (whole_of version vs ts ns 0 v t n (omega arith))))))
    (λ ns rest3 n fits3 failed3.
    absurd (not_then (number_at w32 rest3) _ left (number_breaks_not w32 rest3 left)
    (λ budget. ended_breaks_not (eqb (length budget.1) 0) (image_of vs ts ns budget.0) left) failed3)) failed2) failed1) e

-- ---- the header

test_breaks_not : (b : Bool) (x : List ℕ) (left : ℕ) → (f : DecodeFault) → f ≢ fault.Field left → cond b (Ok x) (Err f) ≢ broken left
test_breaks_not true x left f other e = absurd cc
test_breaks_not false x left f other e = other cc

header_breaks_not : (version : ℕ) (bytes : List ℕ) (left : ℕ) → header_at version bytes ≢ broken left
unfolding header_at
header_breaks_not version bytes left =
    not_then (bytes_at 4 bytes) _ left (bytes_break_not 4 bytes left)
    (λ start. not_then (cond (pointwise nat_eq start.0 magic) (Ok start.1) (Err fault.Magic)) _ left
    (test_breaks_not (pointwise nat_eq start.0 magic) start.1 left fault.Magic (λ e. absurd cc))
    (λ marked. not_then (byte_at marked) _ left (byte_breaks_not marked left)
    (λ number. test_breaks_not (eqb number.0 version) number.1 left fault.Version (λ e. absurd cc))))

image_breaks : (version : ℕ) (bytes : List ℕ) (left : ℕ) → IsBytes bytes → image_at version bytes ≡ broken left
    → Breaks (Whole version) [] (image_at version) bytes left
unfolding image_at
image_breaks version bytes left fits e = when (header_at version bytes) refl e
  where
    when : (r : Result (List ℕ) DecodeFault) → header_at version bytes ≡ r → (r >>= body_at version) ≡ broken left
        → Breaks (Whole version) [] (image_at version) bytes left
    when (Err f) is failed = absurd (header_breaks_not version bytes left (is ∙ let same : f ≡ fault.Field left = cc in cc))
    when (Ok rest) is failed =
        let header = header_takes version bytes rest fits is in
        met_behind (Whole version) [] (magic ∷ byte version ∷ []) (magic ++ version ∷ []) (image_at version) (body_at version) bytes rest left refl header.parts
        (λ more. rw (header_again version more) refl) (body_breaks version rest left header.rest_bytes failed)

-- ---- what is told

told_broken : (bytes : List ℕ) (r : Result Image DecodeFault) (offset : ℕ) → answer bytes r ≡ Err (fault.Field offset) → (left : ℕ) × (r ≡ broken left)
    × (length bytes - left ≡ offset)
told_broken bytes (Ok i) offset e = absurd cc
told_broken bytes (Err fault.Short) offset e = absurd cc
told_broken bytes (Err fault.Magic) offset e = absurd cc
told_broken bytes (Err fault.Version) offset e = absurd cc
told_broken bytes (Err fault.Trailing) offset e = absurd cc
told_broken bytes (Err fault.Memory) offset e = absurd cc
told_broken bytes (Err (fault.Field left)) offset e = (left, refl, cc)

-- what is broken stays so, whatever stands behind it
no_spelling : (version : ℕ) (bytes more : List ℕ) (left : ℕ) → image_at version bytes ≡ broken left → IsSpelling version (bytes ++ more) → ⊥
no_spelling version bytes [] left e (i, spells) =
    let whole = image_again version (bytes ++ []) i spells in
    let same : image_at version bytes ≡ Ok i = ap (image_at version) (sym (append-nil bytes)) ∙ whole in absurd cc
no_spelling version bytes (b ∷ more) left e (i, spells) =
    let whole = image_again version (bytes ++ b ∷ more) i spells in
    let grown = image_grows version bytes (b ∷ more) (λ none. absurd cc) in
    let same = subst (λ (r : Result Image DecodeFault). Grown tailed (length (b ∷ more)) r (image_at version (bytes ++ b ∷ more))) e grown in
    absurd cc

pub told_is_bad : (version : ℕ) (bytes : List ℕ) (offset : ℕ) → IsBytes bytes → reading version bytes ≡ Err (fault.Field offset)
    → IsBadField version bytes offset
unfolding reading
told_is_bad version bytes offset fits e =
    let (left, is, from) = told_broken bytes (image_at version bytes) offset e in
    let b = image_breaks version bytes left fits is in
    let (image, said, parted) = b.whole in
    let lengths = ap length b.stands ∙ length-append (concat b.before) (b.bad ++ b.rest) in
    record {
      image = image;
      fits = said;
      before = b.before;
      field = b.field;
      after = b.after;
      parted = parted;
      begins = omega (arith, lengths, b.from, from);
      bad = b.bad;
      rest = b.rest;
      stands = b.stands;
      long = b.long;
      never = λ more spells. no_spelling version (concat b.before ++ b.bad) more (length b.bad) b.fails
          (subst (IsSpelling version) (sym (append_assoc (concat b.before) b.bad more)) spells);
    }

-- ---- the law of fields

concat_parts : (m v t n b : List (List ℕ)) → concat ((((m ++ v) ++ t) ++ n) ++ b) ≡ (((concat m ++ concat v) ++ concat t) ++ concat n) ++ concat b
concat_parts m v t n b =
    rw (concat-append (((m ++ v) ++ t) ++ n) b, concat-append ((m ++ v) ++ t) n, concat-append (m ++ v) t, concat-append m v) refl

-- the same of threads and of nodes, of which the rows are as many
column_spelt : {A : Type 0} (text : A → List ℕ) (fields_of : A → List (List ℕ)) → ((x : A) → concat (fields_of x) ≡ text x)
    → (n : ℕ) (xs : List A) → concat (u16_bytes n ∷ flat_map fields_of xs) ≡ u16_bytes n ++ flat_map text xs
column_spelt text fields_of spelt n xs = ap (λ (t : List ℕ). u16_bytes n ++ t) (each_spelt text fields_of spelt xs)

in_row : (c v d t e n b : List ℕ) → (((c ++ v) ++ (d ++ t)) ++ (e ++ n)) ++ b ≡ c ++ v ++ d ++ t ++ e ++ n ++ b
in_row c v d t e n b = simp append_assoc

pub fields_spelt : (version : ℕ) (i : Image) → concat (fields version i) ≡ spelling version i
unfolding spelling body_bytes
fields_spelt version i =
    let m : List (List ℕ) = magic ∷ byte version ∷ [] in
    let v = u16_bytes (length i.program.variables) ∷ flat_map variable_fields i.program.variables in
    let t = u16_bytes (length i.program.threads) ∷ flat_map thread_fields (rows_of_threads i) in
    let n = u16_bytes (length i.program.nodes) ∷ flat_map node_fields (rows_of_nodes i) in
    let b : List (List ℕ) = u32_bytes i.tables.budget ∷ [] in
    concat_parts m v t n b
    ∙ rw (
      column_spelt variable_bytes variable_fields variable_spelt (length i.program.variables) i.program.variables,
      column_spelt thread_bytes thread_fields thread_spelt (length i.program.threads) (rows_of_threads i),
      column_spelt node_bytes node_fields node_spelt (length i.program.nodes) (rows_of_nodes i),
      append-nil (u32_bytes i.tables.budget),
    )
    (ap (λ (rest : List ℕ). magic ++ version ∷ rest)
    (in_row (u16_bytes (length i.program.variables)) (flat_map variable_bytes i.program.variables) (u16_bytes (length i.program.threads))
    (flat_map thread_bytes (rows_of_threads i))
    (u16_bytes (length i.program.nodes)) (flat_map node_bytes (rows_of_nodes i)) (u32_bytes i.tables.budget)))
