-- Sorted, the items are as many as in the text.
use Rattle.std.proofs.Common.{◌≡◌, ℕ, ◌+◌, Bool, true, false, Option, Some, None, List, [], ◌∷◌, ◌++◌, length, codes, refl, arith, ap, sym, ◌∙◌}
use Rattle.std.specs.Prelude.{not}
use Rattle.std.specs.Str.{bytes_eq}
use Rattle.std.proofs.lemmas.List.{length-append, length-map, map-append}
use Rattle.sc_text.specs.declared.drafts.parts.Named.{Named}
use Rattle.extended_reader.specs.declared.text_drafts.draft.DraftItem.{DraftItem}
use Rattle.extended_reader.specs.declared.sorts.Sort.{Sort}
use Rattle.extended_reader.specs.declared.sorts.Sort.TheVariants as sort
use Rattle.extended_reader.specs.Items.{is_of, one_if, all_of, sorted, declarations}

abbrev count_of : Sort → Option Named → DraftItem → ℕ
count_of s word x = length (one_if (is_of s word) x)

one_of_both : (b : Bool) (x : DraftItem) → length (one_if (not b) x) + length (one_if b x) ≡ 1
one_of_both true x = refl
one_of_both false x = refl

-- an item is of one sort
of_one_sort : (word : Option Named) (x : DraftItem) → count_of sort.Variable word x + (count_of sort.Before word x + count_of sort.Constant word x) ≡ 1
of_one_sort None x = refl
of_one_sort (Some w) x = let one = one_of_both (bytes_eq w.name (codes "const")) x in omega (arith, one)

as_many : (items : List DraftItem)
    → length (all_of sort.Variable items) + (length (all_of sort.Before items) + length (all_of sort.Constant items)) ≡ length items
as_many [] = refl
as_many (x ∷ items) =
    let one = of_one_sort x.word x in
    let rest = as_many items in
    let v = length-append (one_if (is_of sort.Variable x.word) x) (all_of sort.Variable items) in
    let b = length-append (one_if (is_of sort.Before x.word) x) (all_of sort.Before items) in
    let c = length-append (one_if (is_of sort.Constant x.word) x) (all_of sort.Constant items) in
    omega (arith, one, rest, v, b, c)

pub sorted_length : (items : List DraftItem) → length (declarations (sorted items)) ≡ length items
sorted_length items =
    let V : List DraftItem = all_of sort.Variable items in
    let B : List DraftItem = all_of sort.Before items in
    let C : List DraftItem = all_of sort.Constant items in
    let many = as_many items in
    let mapped = length-map (V ++ B ++ C) (λ x. x.declared) in
    let all = length-append (V ++ B) C in
    let two = length-append V B in
    omega (arith, many, mapped, all, two)

-- the three sorts, put one behind the other
pub three_sorts : (items : List DraftItem) → (declarations (all_of sort.Variable items) ++ declarations (all_of sort.Before items))
    ++ declarations (all_of sort.Constant items) ≡ declarations (sorted items)
three_sorts items =
    let V : List DraftItem = all_of sort.Variable items in
    let B : List DraftItem = all_of sort.Before items in
    let C : List DraftItem = all_of sort.Constant items in
    ap (λ both. both ++ declarations C) (sym (map-append (λ x. x.declared) V B)) ∙ sym (map-append (λ x. x.declared) (V ++ B) C)
