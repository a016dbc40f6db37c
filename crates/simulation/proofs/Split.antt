-- The pieces of a text, one after another, and what words make.
use Rattle.std.proofs.Common.{◌≡◌, ◌∙◌, ℕ, ◌+◌, ◌-◌, ◌<◌, ◌==◌, Bool, true, false, not, cond, List, [], ◌∷◌, ◌++◌, length, take, drop, length-drop}
use Rattle.std.proofs.Common.{refl, ap, sym, arith, append_assoc, append-nil, suc, nat_lt, codes}
use Rattle.std.specs.List.{position_or_len, before_first, after_first}
use Rattle.std.proofs.lemmas.Bool.{lt-ltb, le-ltb}
use Rattle.serde_json.specs.Written.{comma_if}
use Rattle.simulation.specs.Pieces.{is_between, onto_piece, pieces}
use Rattle.simulation.specs.Words.{is_equals, member_text, members_of, name_in, value_in, words_in}

pub pieces_by : (c : Bool) (between x : ℕ) (xs : List ℕ) → is_between between x ≡ c
    → pieces between (x ∷ xs) ≡ cond c ([] ∷ pieces between xs) (onto_piece x (pieces between xs))
pieces_by c between x xs e = ap (λ d. cond d ([] ∷ pieces between xs) (onto_piece x (pieces between xs))) e

place_by : (c : Bool) (between x : ℕ) (xs : List ℕ) → is_between between x ≡ c
    → position_or_len (is_between between) (x ∷ xs) ≡ cond (not c) (1 + position_or_len (is_between between) xs) 0
place_by c between x xs e = ap (λ d. cond (not d) (1 + position_or_len (is_between between) xs) 0) e

-- there is none of such bytes: the text is one piece
whole_by : (c : Bool) (between x : ℕ) (xs : List ℕ) → is_between between x ≡ c
    → (position_or_len (is_between between) xs ≡ length xs → pieces between xs ≡ xs ∷ [])
    → position_or_len (is_between between) (x ∷ xs) ≡ length (x ∷ xs) → pieces between (x ∷ xs) ≡ (x ∷ xs) ∷ []
whole_by true between x xs e rest none = let place = place_by true between x xs e in absurd (omega arith)
whole_by false between x xs e rest none =
    let place = place_by false between x xs e in
    let further : position_or_len (is_between between) xs ≡ length xs = omega arith in
    pieces_by false between x xs e ∙ ap (onto_piece x) (rest further)

pub whole : (between : ℕ) (xs : List ℕ) → position_or_len (is_between between) xs ≡ length xs → pieces between xs ≡ xs ∷ []
whole between [] none = refl
whole between (x ∷ xs) none = whole_by (is_between between x) between x xs refl (whole between xs) none

-- there is one: the first piece stands before it, and the others behind it
cut_by : (c : Bool) (between x : ℕ) (xs : List ℕ) → is_between between x ≡ c
    → (position_or_len (is_between between) xs < length xs
    → pieces between xs ≡ before_first (is_between between) xs ∷ pieces between (after_first (is_between between) xs))
    → position_or_len (is_between between) (x ∷ xs) < length (x ∷ xs)
    → pieces between (x ∷ xs) ≡ before_first (is_between between) (x ∷ xs) ∷ pieces between (after_first (is_between between) (x ∷ xs))
cut_by true between x xs e rest some =
    let place : position_or_len (is_between between) (x ∷ xs) ≡ 0 = place_by true between x xs e in
    pieces_by true between x xs e
    ∙ ap (λ n. take n (x ∷ xs) ∷ pieces between xs) (sym place)
    ∙ ap (λ n. before_first (is_between between) (x ∷ xs) ∷ pieces between (drop (n + 1) (x ∷ xs))) (sym place)
cut_by false between x xs e rest some =
    let p = position_or_len (is_between between) xs in
    let place : position_or_len (is_between between) (x ∷ xs) ≡ 1 + p = place_by false between x xs e in
    let further : p < length xs = omega arith in
    let first : position_or_len (is_between between) (x ∷ xs) ≡ suc p = omega arith in
    let behind : position_or_len (is_between between) (x ∷ xs) + 1 ≡ suc (p + 1) = omega arith in
    pieces_by false between x xs e ∙ ap (onto_piece x) (rest further)
    ∙ ap (λ n. take n (x ∷ xs) ∷ pieces between (after_first (is_between between) xs)) (sym first)
    ∙ ap (λ n. before_first (is_between between) (x ∷ xs) ∷ pieces between (drop n (x ∷ xs))) (sym behind)

pub cut : (between : ℕ) (xs : List ℕ) → position_or_len (is_between between) xs < length xs
    → pieces between xs ≡ before_first (is_between between) xs ∷ pieces between (after_first (is_between between) xs)
cut between [] some = absurd (omega arith)
cut between (x ∷ xs) some = cut_by (is_between between x) between x xs refl (cut between xs) some

-- what stands behind such a byte is shorter
pub shorter : (between : ℕ) (xs rest : List ℕ) → position_or_len (is_between between) xs < length xs → rest ≡ after_first (is_between between) xs
    → length rest < length xs
shorter between xs rest some is =
    let long : length rest ≡ length xs - (position_or_len (is_between between) xs + 1) = ap length is ∙ length-drop _ xs in
    omega (arith, long, some)

-- ---- the name and the value of a word

take_all : (xs : List ℕ) → take (length xs) xs ≡ xs
take_all [] = refl
take_all (x ∷ xs) = ap (λ ys. x ∷ ys) (take_all xs)

pub whole_name : (word : List ℕ) → position_or_len is_equals word ≡ length word → word ≡ name_in word
whole_name word none = sym (ap (λ n. take n word) none ∙ take_all word)

value_by : (word : List ℕ) (c : Bool) → nat_lt (position_or_len is_equals word) (length word) ≡ c
    → value_in word ≡ cond c (after_first is_equals word) (codes "true")
value_by word c e = ap (λ d. cond d (after_first is_equals word) (codes "true")) e

-- there is no `=` in it
pub parts_whole : (word name value : List ℕ) → position_or_len is_equals word ≡ length word → name ≡ word → value ≡ codes "true"
    → (name ≡ name_in word) × (value ≡ value_in word)
parts_whole word name value none is true_is =
    let less = le-ltb (position_or_len is_equals word) (length word) (omega arith) in
    (is ∙ whole_name word none, true_is ∙ sym (value_by word false less))

-- there is one
pub parts_split : (word name value : List ℕ) → position_or_len is_equals word < length word → name ≡ before_first is_equals word
    → value ≡ after_first is_equals word → (name ≡ name_in word) × (value ≡ value_in word)
parts_split word name value some is behind =
    let less = lt-ltb (position_or_len is_equals word) (length word) some in
    (is, behind ∙ sym (value_by word true less))

-- ---- the members of words

pub no_word : (object word : List ℕ) (later : Bool) → length word ≡ 0 → (rest : List (List ℕ))
    → object ++ members_of later rest ≡ object ++ members_of later (word ∷ rest)
no_word object [] later none rest = refl
no_word object (byte ∷ word) later none rest = absurd (omega arith)

-- a member behind others has a comma before it
pub one_word : (object begun new word : List ℕ) (later : Bool) → ¬ (length word ≡ 0) → begun ≡ object ++ comma_if later → new ≡ begun ++ member_text word
    → (rest : List (List ℕ)) → new ++ members_of true rest ≡ object ++ members_of later (word ∷ rest)
one_word object begun new [] later some is put rest = absurd (some refl)
one_word object begun new (byte ∷ word) later some is put rest =
    ap (λ t. t ++ members_of true rest) (put ∙ ap (λ t. t ++ member_text (byte ∷ word)) is)
    ∙ append_assoc (object ++ comma_if later) (member_text (byte ∷ word)) (members_of true rest)
    ∙ append_assoc object (comma_if later) (member_text (byte ∷ word) ++ members_of true rest)

-- one word more was put
pub word_put : (all object now text word rest : List ℕ) (later more : Bool) → position_or_len (is_between 32) text < length text
    → word ≡ before_first (is_between 32) text → rest ≡ after_first (is_between 32) text
    → ((words : List (List ℕ)) → now ++ members_of more words ≡ object ++ members_of later (word ∷ words))
    → object ++ members_of later (words_in text) ≡ all
    → now ++ members_of more (words_in rest) ≡ all
word_put all object now text word rest later more some is behind put before =
    put (words_in rest)
    ∙ ap (λ w. object ++ members_of later (w ∷ words_in rest)) is
    ∙ ap (λ r. object ++ members_of later (before_first (is_between 32) text ∷ words_in r)) behind
    ∙ ap (λ words. object ++ members_of later words) (sym (cut 32 text some)) ∙ before

-- the last word was put
pub last_put : (all object now text : List ℕ) (later more : Bool) → position_or_len (is_between 32) text ≡ length text
    → ((words : List (List ℕ)) → now ++ members_of more words ≡ object ++ members_of later (text ∷ words))
    → object ++ members_of later (words_in text) ≡ all → now ≡ all
last_put all object now text later more none put before =
    sym (append-nil now) ∙ put [] ∙ ap (λ words. object ++ members_of later words) (sym (whole 32 text none)) ∙ before
