-- Images: what is read is what is written, and what is written is read again.
use Rattle.std.proofs.Common.{◌≡◌, ◌≢◌, ℕ, ◌^◌, ◌<◌, ◌≤◌, Bool, true, false, cond, eqb, List, [], ◌∷◌, ◌++◌, length, Ok, Err, refl, sym, ap, subst, ◌∙◌}
use Rattle.std.proofs.Common.{append_assoc, arith}
use Rattle.std.specs.Prelude.{nat_eq}
use Rattle.std.specs.List.{flat_map, AllByRecursion}
use Rattle.std.specs.Int.{w32}
use Rattle.std.specs.Cmp.Lexicographic.{pointwise}
use Rattle.std.proofs.lemmas.Bool.{eqb-true, eqb-false, eq-eqb}
use Rattle.std.proofs.lemmas.Bool.Decides.{Decides-eqb}
use Rattle.std.proofs.lemmas.Slice.Eq.{slice_eq-Decides}
use Rattle.std.proofs.lemmas.List.{append-nil, nil_from_length, length-map}
use Rattle.sc_graph.specs.declared.program.Variable.{Variable}
use Rattle.sc_graph.specs.Limits.{count_limit}
use Rattle.bytecode.specs.declared.rows.ThreadRow.{ThreadRow}
use Rattle.bytecode.specs.declared.rows.NodeRow.{NodeRow}
use Rattle.bytecode.specs.declared.fault.DecodeFault.{DecodeFault}
use Rattle.bytecode.specs.declared.fault.DecodeFault.TheVariants as fault
use Rattle.bytecode.specs.Image.{Image}
use Rattle.bytecode.specs.Fields.{u16_bytes, u32_bytes, variable_bytes}
use Rattle.bytecode.specs.Nodes.{thread_bytes, node_bytes}
use Rattle.bytecode.specs.Layout.{magic, rows_of_threads, rows_of_nodes, body_bytes, spelling}
use Rattle.bytecode.specs.Fits.{SayableVariable, SayableThread, SayableNode, SayableImage}
use Rattle.bytecode.specs.Spells.{Spells}
use Rattle.bytecode.specs.Beginnings.{HasTail}
use Rattle.bytecode.specs.Reading.{◌>>=◌, Reader, each_at}
use Rattle.bytecode.specs.Reading.Fields.{bytes_at, byte_at, number_at, variable_at}
use Rattle.bytecode.specs.Reading.Nodes.{thread_at, node_at}
use Rattle.bytecode.specs.Reading.Image.{counted_at, header_at, image_of, body_at, image_at}
use Rattle.bytecode.proofs.Readers.{IsBytes, bind_ok, passed, Takes, then_takes, IsRead, first, each_takes, each_again}
use Rattle.bytecode.proofs.FieldLaws.{bytes_takes, bytes_again, byte_law, number16_law, number32_law, variable_law}
use Rattle.bytecode.proofs.NodeLaws.{thread_law, node_law}
use Rattle.bytecode.proofs.Offsets.{unread, tail_behind, number_stays, variable_stays, thread_stays, node_stays, counted_stays, header_stays}
use Rattle.bytecode.proofs.ImageRows.{thread_rows_back, node_rows_back, image_is}

-- ---- so many, behind their count

abbrev pub counted_bytes : {A : Type 0} → (A → List ℕ) → List A → List ℕ
counted_bytes text xs = u16_bytes (length xs) ++ flat_map text xs

abbrev pub CountedFits : {A : Type 0} → (A → Type 0) → List A → Type 0
CountedFits Fits xs = (length xs ≤ count_limit) × AllByRecursion Fits xs

counted_takes : {A : Type 0} {read : Reader A} {text : A → List ℕ} {Fits : A → Type 0} (law : IsRead read text Fits) (bytes : List ℕ) (x : List A × List ℕ)
    → IsBytes bytes → counted_at read bytes ≡ Ok x → Takes bytes (counted_bytes text x.0) x.1 × CountedFits Fits x.0
unfolding counted_at
counted_takes {A} {read} {text} {Fits} law bytes x fits e =
    let a = first number16_law bytes (λ count. each_at read count.0 count.1) x fits e in
    let t = each_takes law a.got.0 a.got.1 x a.took.rest_bytes a.next in
    (subst (λ (n : ℕ). Takes bytes (u16_bytes n ++ flat_map text x.0) x.1) (sym t.1) (then_takes a.took t.0), (omega (arith, t.1, a.fits), t.2))

counted_again : {A : Type 0} {read : Reader A} {text : A → List ℕ} {Fits : A → Type 0} (law : IsRead read text Fits) (xs : List A) (rest : List ℕ)
    → CountedFits Fits xs → counted_at read (counted_bytes text xs ++ rest) ≡ Ok (xs, rest)
unfolding counted_at
counted_again {A} {read} {text} {Fits} law xs rest fits =
    ap (counted_at read) (append_assoc (u16_bytes (length xs)) (flat_map text xs) rest)
    ∙ rw (number16_law.again (length xs) (flat_map text xs ++ rest) (omega (arith, fits.0)), each_again law xs rest fits.1) refl

pub counted_law : {A : Type 0} {read : Reader A} {text : A → List ℕ} {Fits : A → Type 0} → IsRead read text Fits
    → IsRead (counted_at read) (counted_bytes text) (CountedFits Fits)
counted_law law = record { takes = counted_takes law; again = counted_again law }

-- ---- the header

pub header_takes : (version : ℕ) (bytes rest : List ℕ) → IsBytes bytes → header_at version bytes ≡ Ok rest → Takes bytes (magic ++ version ∷ []) rest
unfolding header_at
header_takes version bytes rest fits e =
    let a = bind_ok (bytes_at 4 bytes) (λ start. cond (pointwise nat_eq start.0 magic) (Ok start.1) (Err fault.Magic) >>= λ marked. byte_at marked >>= λ number.
    cond (eqb number.0 version) (Ok number.1) (Err fault.Version)) rest e in
    let b = bind_ok (cond (pointwise nat_eq a.0.0 magic) (Ok a.0.1) (Err fault.Magic))
    (λ marked. byte_at marked >>= λ number. cond (eqb number.0 version) (Ok number.1) (Err fault.Version)) rest a.2 in
    let m = passed (pointwise nat_eq a.0.0 magic) fault.Magic a.0.1 b.0 b.1 in
    let start = bytes_takes 4 bytes a.0 fits a.1 in
    let is_magic : a.0.0 ≡ magic = (slice_eq-Decides Decides-eqb a.0.0 magic (pointwise nat_eq a.0.0 magic) refl).0 m.0 in
    let marked : Takes bytes magic b.0 = subst (λ (after : List ℕ). Takes bytes magic after) m.1
    (subst (λ (text : List ℕ). Takes bytes text a.0.1) is_magic start.0) in
    let c = first byte_law b.0 (λ number. cond (eqb number.0 version) (Ok number.1) (Err fault.Version)) rest marked.rest_bytes b.2 in
    let v = passed (eqb c.got.0 version) fault.Version c.got.1 rest c.next in
    let versioned : Takes b.0 (version ∷ []) rest = subst (λ (after : List ℕ). Takes b.0 (version ∷ []) after) v.1
    (subst (λ (n : ℕ). Takes b.0 (n ∷ []) c.got.1) (eqb-true c.got.0 version v.0) c.took) in
    then_takes marked versioned

pub header_again : (version : ℕ) (rest : List ℕ) → header_at version (magic ++ version ∷ rest) ≡ Ok rest
unfolding header_at byte_at
header_again version rest =
    let same : eqb version version ≡ true = eq-eqb version version refl in
    rw (bytes_again 4 magic (version ∷ rest) refl, same) refl

-- ---- what stands behind it

-- the rows of an image
abbrev rows_bytes : List Variable → List ThreadRow → List NodeRow → ℕ → List ℕ
rows_bytes variables threads nodes budget =
    counted_bytes variable_bytes variables ++ (counted_bytes thread_bytes threads ++ (counted_bytes node_bytes nodes ++ u32_bytes budget))

body_is : (variables : List Variable) (threads : List ThreadRow) (nodes : List NodeRow) (budget : ℕ)
    → body_bytes (image_of variables threads nodes budget) ≡ rows_bytes variables threads nodes budget
unfolding body_bytes
body_is variables threads nodes budget =
    rw (thread_rows_back threads, node_rows_back nodes) (simp (length-map, append_assoc))

-- an image of rows that fit
pub rows_image_fits : (version : ℕ) (variables : List Variable) (threads : List ThreadRow) (nodes : List NodeRow) (budget : ℕ)
    → CountedFits SayableVariable variables → CountedFits SayableThread threads → CountedFits (SayableNode version) nodes → budget < 2 ^ 32
    → (SayableImage version) (image_of variables threads nodes budget)
rows_image_fits version variables threads nodes budget v t n b = record {
  variables_counted = v.0;
  threads_counted = omega (arith, t.0, length-map threads (λ x. x.thread));
  nodes_counted = omega (arith, n.0, length-map nodes (λ x. x.node));
  lengths = record {
    priorities = length-map nodes (λ x. x.priority) ∙ sym (length-map nodes (λ x. x.node));
    weights = length-map nodes (λ x. x.weight) ∙ sym (length-map nodes (λ x. x.node));
    end_bits = length-map nodes (λ x. x.end_bit) ∙ sym (length-map nodes (λ x. x.node));
    bounds = length-map threads (λ x. x.bound) ∙ sym (length-map threads (λ x. x.thread));
  };
  variables = v.1;
  threads = subst (AllByRecursion SayableThread) (sym (thread_rows_back threads)) t.1;
  nodes = subst (AllByRecursion (SayableNode version)) (sym (node_rows_back nodes)) n.1;
  budget = b;
}

pub body_takes : (version : ℕ) (bytes : List ℕ) (i : Image) → IsBytes bytes → (body_at version) bytes ≡ Ok i → (bytes ≡ body_bytes i) × (SayableImage version) i
unfolding body_at
body_takes version bytes i fits e =
    let v = first (counted_law variable_law) bytes _ i fits e in
    let t = first (counted_law thread_law) v.got.1 _ i v.took.rest_bytes v.next in
    let n = first (counted_law (node_law version)) t.got.1 _ i t.took.rest_bytes t.next in
    let b = first number32_law n.got.1 (λ budget. cond (eqb (length budget.1) 0) (Ok (image_of v.got.0 t.got.0 n.got.0 budget.0)) (Err fault.Trailing)) i
    n.took.rest_bytes n.next in
    let g = passed (eqb (length b.got.1) 0) fault.Trailing (image_of v.got.0 t.got.0 n.got.0 b.got.0) i b.next in
    let nothing : b.got.1 ≡ [] = nil_from_length b.got.1 (eqb-true _ _ g.0) in
    let whole = then_takes v.took (then_takes t.took (then_takes n.took b.took)) in
    let text = rows_bytes v.got.0 t.got.0 n.got.0 b.got.0 in
    let same : bytes ≡ body_bytes (image_of v.got.0 t.got.0 n.got.0 b.got.0) =
    whole.parts ∙ ap (λ (rest : List ℕ). text ++ rest) nothing ∙ append-nil text ∙ sym (body_is v.got.0 t.got.0 n.got.0 b.got.0) in
    subst (λ (x : Image). (bytes ≡ body_bytes x) × (SayableImage version) x) g.1
    (same, (rows_image_fits version) v.got.0 t.got.0 n.got.0 b.got.0 v.fits t.fits n.fits b.fits)

rows_again : (version : ℕ) (variables : List Variable) (threads : List ThreadRow) (nodes : List NodeRow) (budget : ℕ)
    → CountedFits SayableVariable variables → CountedFits SayableThread threads → CountedFits (SayableNode version) nodes → budget < 2 ^ 32
    → (body_at version) (rows_bytes variables threads nodes budget) ≡ Ok (image_of variables threads nodes budget)
unfolding body_at
rows_again version variables threads nodes budget v t n b =
    let last : number_at w32 (u32_bytes budget) ≡ Ok (budget, []) = ap (number_at w32) (sym (append-nil (u32_bytes budget))) ∙ number32_law.again budget [] b in
    let ls = counted_law variable_law in
    let lt = counted_law thread_law in
    let ln = counted_law (node_law version) in
    rw (
      ls.again variables (counted_bytes thread_bytes threads ++ (counted_bytes node_bytes nodes ++ u32_bytes budget)) v,
      lt.again threads (counted_bytes node_bytes nodes ++ u32_bytes budget) t,
      ln.again nodes (u32_bytes budget) n,
      last,
    ) refl

-- the rows of an image are counted by its threads and its nodes
pub body_again : (version : ℕ) (i : Image) → (SayableImage version) i → (body_at version) (body_bytes i) ≡ Ok i
body_again version i fits =
    let threads = rows_of_threads i in
    let nodes = rows_of_nodes i in
    let made : image_of i.program.variables threads nodes i.tables.budget ≡ i =
    image_is i.program.variables i.program.threads i.tables.bounds i.program.nodes i.tables.priorities i.tables.weights i.tables.end_bits i.tables.budget _ _
    (record { threads_counted = refl; bounds_counted = fits.lengths.bounds })
    (record {
      nodes_counted = refl;
      priorities_counted = fits.lengths.priorities;
      weights_counted = fits.lengths.weights;
      end_bits_counted = fits.lengths.end_bits;
    }) in
    let thread_count : length threads ≡ length i.program.threads = sym (length-map threads (λ x. x.thread))
    ∙ ap (λ (x : Image). length x.program.threads) made in
    let node_count : length nodes ≡ length i.program.nodes = sym (length-map nodes (λ x. x.node)) ∙ ap (λ (x : Image). length x.program.nodes) made in
    ap (body_at version) (ap body_bytes (sym made) ∙ body_is i.program.variables threads nodes i.tables.budget)
    ∙ (rows_again version) i.program.variables threads nodes i.tables.budget (fits.variables_counted, fits.variables)
    (omega (arith, thread_count, fits.threads_counted), fits.threads)
    (omega (arith, node_count, fits.nodes_counted), fits.nodes) fits.budget
    ∙ ap (λ (x : Image). Ok x) made

-- ---- whole images

pub image_takes : (version : ℕ) (bytes : List ℕ) (i : Image) → IsBytes bytes → image_at version bytes ≡ Ok i → Spells version bytes i
unfolding image_at spelling
image_takes version bytes i fits e =
    let a = bind_ok (header_at version bytes) (body_at version) i e in
    let header = header_takes version bytes a.0 fits a.1 in
    let body = (body_takes version) a.0 i header.rest_bytes a.2 in
    record { fits = body.1; spelt = header.parts ∙ ap (λ (rest : List ℕ). magic ++ version ∷ rest) body.0 }

pub image_again : (version : ℕ) (bytes : List ℕ) (i : Image) → Spells version bytes i → image_at version bytes ≡ Ok i
unfolding image_at spelling
image_again version bytes i spells =
    ap (image_at version) spells.spelt ∙ rw (header_again version (body_bytes i)) ((body_again version) i spells.fits)

-- ---- bytes behind an image

-- a test that failed
failed : {A : Type 0} (b : Bool) (x : A) (f : DecodeFault) → cond b (Ok x) (Err f) ≡ Err f → b ≡ false
failed true x f e = absurd cc
failed false x f e = refl

-- what was read before a tail
body_tail : (version : ℕ) (bytes : List ℕ) → IsBytes bytes → body_at version bytes ≡ Err fault.Trailing
    → (i : Image) × (tail : List ℕ) × (tail ≢ []) × SayableImage version i × (bytes ≡ body_bytes i ++ tail)
unfolding body_at
body_tail version bytes fits e =
    let v = tail_behind unread _ (counted_at variable_at bytes) _ (counted_stays variable_at variable_stays bytes) e in
    let in_v = (counted_law variable_law).takes bytes v.0 fits v.1 in
    let t = tail_behind unread _ (counted_at thread_at v.0.1) _ (counted_stays thread_at thread_stays v.0.1) v.2 in
    let in_t = (counted_law thread_law).takes v.0.1 t.0 in_v.0.rest_bytes t.1 in
    let n = tail_behind unread _ (counted_at (node_at version) t.0.1) _ (counted_stays (node_at version) (node_stays version) t.0.1) t.2 in
    let in_n = (counted_law (node_law version)).takes t.0.1 n.0 in_t.0.rest_bytes n.1 in
    let b = tail_behind unread _ (number_at w32 n.0.1) _ (number_stays w32 n.0.1) n.2 in
    let in_b = number32_law.takes n.0.1 b.0 in_n.0.rest_bytes b.1 in
    let made : Image = image_of v.0.0 t.0.0 n.0.0 b.0.0 in
    let some : eqb (length b.0.1) 0 ≡ false = failed (eqb (length b.0.1) 0) made fault.Trailing b.2 in
    let whole = then_takes in_v.0 (then_takes in_t.0 (then_takes in_n.0 in_b.0)) in (
      made,
      b.0.1,
      (λ (none : b.0.1 ≡ []). eqb-false (length b.0.1) 0 some (ap length none)),
      rows_image_fits version v.0.0 t.0.0 n.0.0 b.0.0 in_v.1 in_t.1 in_n.1 in_b.1,
      whole.parts ∙ ap (λ (text : List ℕ). text ++ b.0.1) (sym (body_is v.0.0 t.0.0 n.0.0 b.0.0)),
    )

pub image_tail : (version : ℕ) (bytes : List ℕ) → IsBytes bytes → image_at version bytes ≡ Err fault.Trailing → HasTail version bytes
unfolding image_at spelling
image_tail version bytes fits e =
    let h = tail_behind length (length bytes) (header_at version bytes) (body_at version) (header_stays version bytes) e in
    let header = header_takes version bytes h.0 fits h.1 in
    let (i, tail, some, said, parts) = body_tail version h.0 header.rest_bytes h.2 in
    let text : List ℕ = magic ++ version ∷ body_bytes i in
    (text, tail, some, (i, record { fits = said; spelt = refl }), header.parts ∙ ap (λ (rest : List ℕ). magic ++ version ∷ rest) parts)
