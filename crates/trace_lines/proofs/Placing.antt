-- Outputs at their places, and the rows that show them.
use Rattle.std.proofs.Common.{◌≡◌, ℕ, zero, suc, ◌+◌, List, [], ◌∷◌, length, drop, Some, String, Global, Ordering, Less, Equal, Greater, string_bytes}
use Rattle.std.proofs.Common.{string_cmp, refl, ap, ◌∙◌, arith, slice_get}
use Rattle.std.specs.Ordering.{match_ordering}
use Rattle.std.specs.BTreeMap.{insert_entry}
use Rattle.serde_json.specs.Data.{Members, put}
use Rattle.sc_values.specs.declared.value.Value.{Value}
use Rattle.sc_graph.specs.declared.program.Variable.{Variable}
use Rattle.trace_lines.specs.Output.{with_output, with_outputs}
use Rattle.trace_lines.specs.Inside.Rows.{data_at, placed, with_place}

placed-match_ordering : (o : Ordering) (values : List Value) (a b c : List (String Global × ℕ)) → placed (match_ordering o a b c) values
    ≡ match_ordering o (placed a values) (placed b values) (placed c values)
placed-match_ordering Less values a b c = refl
placed-match_ordering Equal values a b c = refl
placed-match_ordering Greater values a b c = refl

-- a place that is put into the map is a member that is put
pub placed-insert_entry : (es : List (String Global × ℕ)) (k : String Global) (x : ℕ) (values : List Value) → placed (insert_entry string_cmp es k x) values
    ≡ put (string_bytes k) (data_at values x) (placed es values)
placed-insert_entry [] k x values = refl
placed-insert_entry (e ∷ es) k x values = placed-match_ordering (string_cmp k e.0) values _ _ _ ∙ rw (placed-insert_entry es k x values)

-- the variable at a place is shown with the value that stands there
with_outputs-suc : (place : ℕ) (variables : List Variable) (values : List Value) (a : Variable) (shown : Members) → length values ≡ length variables
    → slice_get variables place ≡ Some a
    → with_outputs (drop place variables) (drop place values) shown ≡ with_outputs (drop (suc place) variables) (drop (suc place) values)
    (with_place a place values shown)
with_outputs-suc place [] values a shown same is = absurd cc
with_outputs-suc place (b ∷ variables) [] a shown same is = absurd (omega arith)
with_outputs-suc zero (b ∷ variables) (v ∷ values) a shown same is = let first : b ≡ a = cc in
    ap (λ c. with_outputs variables values (with_output c v shown)) first
with_outputs-suc (suc place) (b ∷ variables) (v ∷ values) a shown same is = with_outputs-suc place variables values a shown (omega (arith, same)) is

pub with_outputs-next : (place : ℕ) (variables : List Variable) (values : List Value) (a : Variable) (shown : Members) → length values ≡ length variables
    → slice_get variables place ≡ Some a
    → with_outputs (drop place variables) (drop place values) shown ≡ with_outputs (drop (place + 1) variables) (drop (place + 1) values)
    (with_place a place values shown)
with_outputs-next place variables values a shown same is =
    let more : place + 1 ≡ suc place = omega arith in
    rw more (with_outputs-suc place variables values a shown same is)
