-- The texts of rows and of a whole line.
use Rattle.std.proofs.Common.{◌≡◌, ◌∙◌, ℕ, true, false, not, ◌==◌, List, [], ◌∷◌, ◌++◌, length, String, Global, string_bytes, codes, decimal, refl, ap, sym}
use Rattle.std.proofs.Common.{arith, append_assoc, append-nil, Result, Ok, Err, OnOk}
use Rattle.std.proofs.lemmas.Bool.Decides.{nat_tests}
use Rattle.json.specs.Print.{quoted}
use Rattle.serde_json.specs.Data.{Members}
use Rattle.serde_json.specs.Written.{comma_if, compact_text, members_text}
use Rattle.serde_json.proofs.OnLiterals.{serde_json_on_literals}
use Rattle.sc_values.specs.declared.value.Value.{Value}
use Rattle.trace_lines.specs.declared.outputs.Row.{Row}
use Rattle.trace_lines.specs.Output.{tick_line}
use Rattle.trace_lines.specs.Inside.Rows.{data_at, placed, key_text, rows_text, line_by, has_rows}

rows_text-append : (xs ys : List Row) (values : List Value) → rows_text (xs ++ ys) values ≡ rows_text xs values ++ rows_text ys values
rows_text-append [] ys values = refl
rows_text-append (x ∷ xs) ys values = rw (rows_text-append xs ys values) (simp append_assoc)

has_rows-append : (xs : List Row) (y : Row) → has_rows (xs ++ y ∷ []) ≡ true
has_rows-append [] y = refl
has_rows-append (x ∷ xs) y = refl

pub has_rows-length : (rows : List Row) (n : ℕ) → n ≡ length rows → has_rows rows ≡ not (n == 0)
has_rows-length [] n is = rw is
has_rows-length (row ∷ rows) n is = grind (arith, nat_tests)

regroup : (r c q v m : List ℕ) → (r ++ ((c ++ (q ++ 58 ∷ [])) ++ (v ++ []))) ++ m ≡ r ++ (c ++ (q ++ 58 ∷ (v ++ m)))
regroup r c q v m = simp (append_assoc, append-nil)

-- one row more is shown
pub one_row : (rows rows' : List Row) (row : Row) (e : String Global × ℕ) (rest : List (String Global × ℕ)) (values : List Value) → rows' ≡ rows ++ row ∷ []
    → string_bytes row.before ≡ key_text (has_rows rows) (string_bytes e.0) → row.place ≡ e.1
    → rows_text rows' values ++ members_text (has_rows rows') (placed rest values) ≡ rows_text rows values ++ members_text (has_rows rows)
    (placed (e ∷ rest) values)
one_row rows rows' row e rest values more key place =
    rw (more, has_rows-append rows row, rows_text-append rows (row ∷ []) values, key, place)
    (regroup (rows_text rows values) (comma_if (has_rows rows)) (quoted (string_bytes e.0)) (compact_text (data_at values e.1))
    (members_text true (placed rest values)))

-- the output line by its rows
pub line_is : (tick steps : ℕ) (rows : List ℕ) (shown : Members) → rows ++ 125 ∷ [] ≡ members_text false shown → line_by tick steps rows
    ≡ tick_line tick steps shown
unfolding serde_json_on_literals
line_is tick steps rows shown is =
    let rest : List ℕ = codes ",\"steps\":" ++ (decimal steps ++ (codes ",\"tick\":" ++ (decimal tick ++ codes "}\n"))) in
    let split : rows ++ 125 ∷ rest ≡ members_text false shown ++ rest = sym (append_assoc rows (125 ∷ []) rest) ∙ ap (λ t. t ++ rest) is in
    let last : List ℕ = decimal tick ++ 125 ∷ [] in
    let later : List ℕ = decimal steps ++ (codes ",\"tick\":" ++ last) in
    let ends : last ++ 10 ∷ [] ≡ decimal tick ++ codes "}\n" = append_assoc (decimal tick) (125 ∷ []) (10 ∷ []) in
    let more : later ++ 10 ∷ [] ≡ decimal steps ++ (codes ",\"tick\":" ++ (decimal tick ++ codes "}\n")) =
    append_assoc (decimal steps) (codes ",\"tick\":" ++ last) (10 ∷ []) ∙ ap (λ t. decimal steps ++ (codes ",\"tick\":" ++ t)) ends in
    let all : (members_text false shown ++ (codes ",\"steps\":" ++ later)) ++ 10 ∷ [] ≡ members_text false shown ++ rest =
    append_assoc (members_text false shown) (codes ",\"steps\":" ++ later) (10 ∷ []) ∙ ap (λ t. members_text false shown ++ (codes ",\"steps\":" ++ t)) more in
    ap (λ t. codes "{\"out\":{" ++ t) (split ∙ sym all)

-- what was written is another text
pub written : {A E : Type 0} (r : Result A E) (line text wanted : List ℕ) → text ≡ wanted → OnOk r (line ≡ text) → OnOk r (line ≡ wanted)
written (Ok a) line text wanted same is = is ∙ same
written (Err e) line text wanted same is = tt
