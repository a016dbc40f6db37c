-- What a reading of the bytes says of what they spell.
use Rattle.std.proofs.Common.{◌≡◌, ℕ, ◌<◌, Bool, List, length, All, Result, Ok, Err, refl, sym, ap, subst, ◌∙◌, arith, inl, inr}
use Rattle.std.proofs.lemmas.Bool.{cases_lt}
use Rattle.std.proofs.lemmas.List.{get_or_past}
use Rattle.std.specs.Prelude.{IfOk}
use Rattle.sc_graph.specs.Layout.{FitsLayout}
use Rattle.sc_graph.specs.declared.program.Variable.{Variable}
use Rattle.sc_graph.specs.declared.program.Thread.{Thread}
use Rattle.sc_graph.specs.declared.program.Node.{Node}
use Rattle.bytecode.specs.declared.fault.DecodeFault.{DecodeFault}
use Rattle.bytecode.specs.declared.fault.DecodeFault.TheVariants as fault
use Rattle.bytecode.specs.Image.{Image}
use Rattle.bytecode.specs.Spells.{Spells}
use Rattle.bytecode.specs.Inside.Readers.{Fails}
use Rattle.bytecode.specs.Reading.Image.{image_of, header_at, body_at, image_at, told, answer, reading, Answers}
use Rattle.bytecode.specs.Layout.{thread_rows, node_rows, HasHeader}
use Rattle.bytecode.specs.Inside.Columns.{AreThreads, AreNodes}
use Rattle.bytecode.proofs.Readers.{IsBytes}
use Rattle.bytecode.proofs.ImageRows.{image_is, rows_fit}
use Rattle.bytecode.proofs.ImageLaws.{header_takes, body_takes, image_takes, image_again}

answered : (bytes : List ℕ) (r : Result Image DecodeFault) (i : Image) → answer bytes r ≡ Ok i → r ≡ Ok i
answered bytes (Ok j) i e = let same : j ≡ i = cc in ap (λ (x : Image). Ok x) same
answered bytes (Err f) i e = absurd cc

-- what the image is read as, and its faults, in terms of offsets
pub reads_image : (version : ℕ) (bytes : List ℕ) (i : Image) → image_at version bytes ≡ Ok i → reading version bytes ≡ Ok i
unfolding reading
reads_image version bytes i e = ap (answer bytes) e

told_fails : (bytes : List ℕ) (f : DecodeFault) (read : Result Image DecodeFault) → Fails f read → Answers (Err (told bytes f)) (answer bytes read)
told_fails bytes fault.Memory read fails = tt
told_fails bytes fault.Short read fails = ap (answer bytes) fails
told_fails bytes fault.Magic read fails = ap (answer bytes) fails
told_fails bytes fault.Version read fails = ap (answer bytes) fails
told_fails bytes fault.Trailing read fails = ap (answer bytes) fails
told_fails bytes (fault.Field left) read fails = ap (answer bytes) fails

pub reads_fault : (version : ℕ) (bytes : List ℕ) (f : DecodeFault) → Fails f (image_at version bytes) → Answers (Err (told bytes f)) (reading version bytes)
unfolding reading
reads_fault version bytes f fails = told_fails bytes f (image_at version bytes) fails

-- where memory ran out, a reader of these bytes said so
pub told_memory : (bytes : List ℕ) (f : DecodeFault) → told bytes f ≡ fault.Memory → f ≡ fault.Memory
told_memory bytes fault.Memory e = refl
told_memory bytes fault.Short e = absurd cc
told_memory bytes fault.Magic e = absurd cc
told_memory bytes fault.Version e = absurd cc
told_memory bytes fault.Trailing e = absurd cc
told_memory bytes (fault.Field left) e = absurd cc

-- what is read behind a header has one
pub headed : (version : ℕ) (bytes rest : List ℕ) → IsBytes bytes → header_at version bytes ≡ Ok rest → HasHeader version bytes
headed version bytes rest fits e = (rest, (header_takes version bytes rest fits e).parts)

-- the columns of what was read fit the layout
pub columns_fit : (version : ℕ) (bytes : List ℕ) (variables : List Variable) (threads : List Thread) (bounds : List ℕ) (nodes : List Node)
    (priorities weights : List ℕ) (end_bits : List Bool) (budget : ℕ)
    → IsBytes bytes → AreThreads threads bounds (length threads) → AreNodes nodes priorities weights end_bits (length nodes)
    → (body_at version) bytes ≡ Ok (image_of variables (thread_rows threads bounds) (node_rows nodes priorities weights end_bits) budget)
    → FitsLayout variables threads nodes
columns_fit version bytes variables threads bounds nodes priorities weights end_bits budget fits ts ns e =
    let ts_rows = thread_rows threads bounds in
    let ns_rows = node_rows nodes priorities weights end_bits in
    let made = image_is variables threads bounds nodes priorities weights end_bits budget (length threads) (length nodes) ts ns in
    let read = (body_takes version) bytes (image_of variables ts_rows ns_rows budget) fits e in
    subst (λ (i : Image). FitsLayout i.program.variables i.program.threads i.program.nodes) made ((rows_fit version) variables ts_rows ns_rows budget read.1)

pub reading_spells : (version : ℕ) (bytes : List ℕ) (i : Image) → IsBytes bytes → reading version bytes ≡ Ok i → Spells version bytes i
unfolding reading
reading_spells version bytes i fits e = image_takes version bytes i fits (answered bytes (image_at version bytes) i e)

pub reading_of_spelt : (version : ℕ) (bytes : List ℕ) (i : Image) → Spells version bytes i → reading version bytes ≡ Ok i
unfolding reading
reading_of_spelt version bytes i spells = ap (answer bytes) (image_again version bytes i spells)

pub is_found : (version : ℕ) (bytes : List ℕ) (r : Result Image DecodeFault) → IsBytes bytes → Answers r (reading version bytes)
    → IfOk r (λ i. Spells version bytes i)
is_found version bytes (Ok i) fits given = reading_spells version bytes i fits given
is_found version bytes (Err f) fits given = tt

abbrev read_as : Image → Result Image DecodeFault
read_as i = Ok i

same_read : (i j : Image) → read_as i ≡ read_as j → i ≡ j
same_read i j e = cc

pub one_image : (version : ℕ) (bytes : List ℕ) (i j : Image) → Spells version bytes i → Spells version bytes j → i ≡ j
one_image version bytes i j of_i of_j = same_read i j (sym (reading_of_spelt version bytes i of_i) ∙ reading_of_spelt version bytes j of_j)

-- what is below 256 at each place
pub all_bytes : (bytes : List ℕ) → All (λ b. b < 256) bytes → IsBytes bytes
all_bytes bytes all i =
    elim (cases_lt i (length bytes)) [
      | inl lt ↦ all i 0 lt
      | inr past ↦ rw (get_or_past bytes i 0 past) (omega arith)
    ]
