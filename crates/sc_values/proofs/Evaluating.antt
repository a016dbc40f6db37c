-- A checked code has a value over operands of its loads' kinds, and the machine over a stack computes it.
use Rattle.std.proofs.Common.{◌≡◌, ℕ, suc, ◌+◌, ◌<◌, ◌≤◌, Option, Some, None, List, [], ◌∷◌, map, option_and_then, option_map, filter_map, slice_get, length}
use Rattle.std.proofs.Common.{drop, get_or, refl, sym, ap, ◌∙◌, subst, arith}
use Rattle.std.proofs.lemmas.List.{drop_more, length-map}
use Rattle.std.proofs.lemmas.Option.{slice_get-map}
use Rattle.std.specs.List.{cons_option}
use Rattle.sc_values.specs.declared.value.Value.{Value}
use Rattle.sc_values.specs.declared.value.Kind.{Kind}
use Rattle.sc_values.specs.declared.operation.Operation.{Operation}
use Rattle.sc_values.specs.declared.operation.Operation.TheVariants as op
use Rattle.sc_values.specs.declared.expression.Expr.{Expr}
use Rattle.sc_values.specs.Limits.{operand_limit}
use Rattle.sc_values.specs.Operator.{kind_of}
use Rattle.sc_values.specs.Expr.{value, kind, postorder}
use Rattle.sc_values.specs.Code.{Spells, code_value, loads, IsWellFormed, code_kind}
use Rattle.sc_values.specs.Checked.{loaded_from, numbered, value_over, Checked, Checks, IsChecked}
use Rattle.sc_values.proofs.Spelling.{spells-tree_of}
use Rattle.sc_values.proofs.Loaded.{drop_past, length-filter_map}
use Rattle.sc_values.proofs.Running.{given, ran, ran-code_value, Fits, fits_here, well_formed_fits}
use Rattle.sc_values.specs.Inside.Stack.{put_on, acted, height, taken, loads_after}
use Rattle.sc_values.proofs.Numbering.{StandFor, Known, renumbered, spells_numbered, value_over_stands, kinded_known, known_at, loaded_stands}
use Rattle.sc_values.proofs.WellKinded.{Gives, AreOf, value_gives, gives_at}

-- the loads of a well-formed code are there
pub loads_known : (kinds : List Kind) (code : List Operation) → IsWellFormed kinds code → Known kinds (loads code)
loads_known kinds code formed = known_at kinds _ _ (ap loads formed.spells) (kinded_known formed.spelt kinds formed.gives formed.kinded)

-- the kind of a well-formed code
pub code_kind_is : (kinds : List Kind) (code : List Operation) (formed : IsWellFormed kinds code) → code_kind code kinds ≡ Some formed.gives
code_kind_is kinds code formed = ap (option_and_then (λ e. kind e kinds)) (spells-tree_of code formed.spelt formed.spells) ∙ formed.kinded

kind_at : (operands : List Value) (kinds : List Kind) (x : ℕ) (k : Kind) → map kind_of operands ≡ kinds → slice_get kinds x ≡ Some k
    → Gives (slice_get operands x) k
kind_at operands kinds x k are is = go (slice_get operands x) refl
  where
    there : option_map kind_of (slice_get operands x) ≡ Some k
    there = sym (slice_get-map kind_of operands x) ∙ ap (λ (l : List Kind). slice_get l x) are ∙ is

    go : (o : Option Value) → slice_get operands x ≡ o → Gives (slice_get operands x) k
    go None was = absurd (let no : None ≡ Some k = ap (option_map kind_of) (sym was) ∙ there in cc)
    go (Some v) was = record { value = v; is = was; kind = let same : Some (kind_of v) ≡ Some k = ap (option_map kind_of) (sym was) ∙ there in cc }

pub kinds_are : (operands : List Value) (kinds : List Kind) → map kind_of operands ≡ kinds → AreOf kinds operands
kinds_are operands kinds are = record { each = λ x k is. kind_at operands kinds x k are is }

-- over operands of these kinds a checked code has a value, of the code's kind
pub checked_value : (kinds : List Kind) (code : List Operation) (checked : Checked) (operands : List Value) → (checks : Checks kinds code checked)
    → map kind_of operands ≡ checked.loads → Gives (value_over operands code) checks.formed.gives
checked_value kinds code checked operands checks are =
    let formed = checks.formed in
    let tree = (renumbered formed.spelt 0).tree in
    let stands : StandFor (loaded_from kinds code) kinds 0 (loads (postorder formed.spelt)) =
    (let P : List Operation → Type 0 = λ c. StandFor (loaded_from kinds code) kinds 0 (loads c) in
    subst P (sym formed.spells) (loaded_stands kinds code (loads_known kinds code formed))) in
    let kinded : kind tree (loaded_from kinds code) ≡ Some formed.gives = (renumbered formed.spelt 0).kinds (loaded_from kinds code) kinds stands
    ∙ formed.kinded in
    let g = value_gives tree (loaded_from kinds code) operands formed.gives (kinds_are operands (loaded_from kinds code) (are ∙ checks.loads)) kinded in
    gives_at _ _ formed.gives
    (ap (option_and_then (λ t. value t operands)) (spells-tree_of (numbered 0 code) tree (spells_numbered code formed.spelt formed.spells))) g

-- where the operands are what the loads name, the value is the code's value over the variables
pub present_value : (kinds : List Kind) (code : List Operation) (variables : List Value) → IsWellFormed kinds code → AreOf kinds variables
    → value_over (loaded_from variables code) code ≡ code_value code variables
present_value kinds code variables formed are =
    value_over_stands code formed.spelt (loaded_from variables code) variables formed.spells
    (loaded_stands variables code (known_of (loads code) (loads_known kinds code formed)))
  where
    known_of : (xs : List ℕ) → Known kinds xs → Known variables xs
    known_of [] known = tt
    known_of (x ∷ xs) known = let g = are.each x known.0.0 known.0.1 in ((g.value, g.is), known_of xs known.1)

-- and the operands are of the loads' kinds
pub present_kinds : (kinds : List Kind) (code : List Operation) (variables : List Value) → IsWellFormed kinds code → AreOf kinds variables
    → map kind_of (loaded_from variables code) ≡ loaded_from kinds code
present_kinds kinds code variables formed are = go (loads code) (loads_known kinds code formed)
  where
    go : (xs : List ℕ) → Known kinds xs → map kind_of (filter_map (slice_get variables) xs) ≡ filter_map (slice_get kinds) xs
    go [] known = refl
    go (x ∷ xs) known =
        let g = are.each x known.0.0 known.0.1 in
        ap (λ o. map kind_of (cons_option o (filter_map (slice_get variables) xs))) g.is
        ∙ ap (λ k. k ∷ map kind_of (filter_map (slice_get variables) xs)) g.kind
        ∙ ap (λ l. known.0.0 ∷ l) (go xs known.1)
        ∙ sym (ap (λ o. cons_option o (filter_map (slice_get kinds) xs)) known.0.1)

-- so `eval` may be called with them
pub present_fits : (kinds : List Kind) (code : List Operation) (checked : Checked) (variables : List Value) → Checks kinds code checked → AreOf kinds variables
    → map kind_of (loaded_from variables code) ≡ checked.loads
present_fits kinds code checked variables checks are = present_kinds kinds code variables checks.formed are ∙ sym checks.loads

all_found : (all : List Value) (xs : List ℕ) → length (filter_map (slice_get all) xs) ≡ length xs → Known all xs
all_found all [] same = tt
all_found all (x ∷ xs) same = go (slice_get all x) refl (all_found all xs)
  where
    go : (o : Option Value) → slice_get all x ≡ o → (length (filter_map (slice_get all) xs) ≡ length xs → Known all xs) → Known all (x ∷ xs)
    go None was behind =
        let gone : filter_map (slice_get all) (x ∷ xs) ≡ filter_map (slice_get all) xs = ap (λ o. cons_option o (filter_map (slice_get all) xs)) was in
        absurd (omega (arith, same, ap length gone, length-filter_map (slice_get all) xs))
    go (Some v) was behind =
        let here : filter_map (slice_get all) (x ∷ xs) ≡ v ∷ filter_map (slice_get all) xs = ap (λ o. cons_option o (filter_map (slice_get all) xs)) was in
        ((v, was), behind (omega (arith, same, ap length here)))

length-known : (all : List Kind) (xs : List ℕ) → Known all xs → length (filter_map (slice_get all) xs) ≡ length xs
length-known all [] known = refl
length-known all (x ∷ xs) known =
    ap (λ o. length (cons_option o (filter_map (slice_get all) xs))) known.0.1 ∙ ap suc (length-known all xs known.1)

-- where the operands are what the loads name, a checked code's value over them is its value over the variables
pub value_present : (checked : Checked) (operands variables : List Value) → IsChecked checked → map kind_of operands ≡ checked.loads
    → operands ≡ loaded_from variables checked.operations → value_over operands checked.operations ≡ code_value checked.operations variables
value_present checked operands variables is are present =
    let code = checked.operations in
    let formed = is.checks.formed in
    let many = length-known is.kinds (loads code) (loads_known is.kinds code formed) in
    let long : length (loaded_from variables code) ≡ length (loads code) =
    omega (arith, many, ap length present, ap length is.checks.loads, ap length are, length-map operands kind_of) in
    ap (λ o. value_over o code) present
    ∙ value_over_stands code formed.spelt (loaded_from variables code) variables formed.spells
    (loaded_stands variables code (all_found variables (loads code) long))

-- the value is of the code's kind
pub value_kind : (kinds : List Kind) (checked : Checked) (operands : List Value) (result : Value) → (checks : Checks kinds checked.operations checked)
    → map kind_of operands ≡ checked.loads → value_over operands checked.operations ≡ Some result → kind_of result ≡ checks.formed.gives
value_kind kinds checked operands result checks are is =
    let g = checked_value kinds checked.operations checked operands checks are in
    let same : Some g.value ≡ Some result = sym g.is ∙ is in
    let e : g.value ≡ result = cc in
    ap kind_of (sym e) ∙ g.kind

-- a code's value is that of the tree which it spells
pub tree_value : (code : List Operation) (e : Expr) (variables : List Value) → Spells code e → value e variables ≡ code_value code variables
tree_value code e variables spells = sym (ap (option_and_then (λ t. value t variables)) (spells-tree_of code e spells))

-- how far `eval` has come: after i operations, of which n were loads
pub record Going (operands : List Value) (code : List Operation) (i n : ℕ) (stack : List Value) : Type 0 where
  pub end : Value
  pub is : value_over operands code ≡ Some end
  pub runs : ran operands (numbered n (drop i code)) stack ≡ Some (end ∷ [])
  pub fits : Fits (drop i code) (length stack)
  pub few : n ≤ i

pub going_begins : (checked : Checked) (operands : List Value) → IsChecked checked → map kind_of operands ≡ checked.loads
    → Going operands checked.operations 0 0 []
going_begins checked operands is are =
    let g = checked_value is.kinds checked.operations checked operands is.checks are in
    record {
      end = g.value;
      is = g.is;
      runs = ran-code_value (numbered 0 checked.operations) operands g.value g.is;
      fits = well_formed_fits is.kinds checked.operations is.checks.formed;
      few = omega arith;
    }

-- what an operation needs of the stack, and how far it brings
pub record Acts (operands : List Value) (code : List Operation) (i n : ℕ) (stack : List Value) (o : Operation) : Type 0 where
  pub after : List Value
  pub runs : acted (taken operands n o) o stack ≡ Some after
  pub room : height o (length stack) ≤ operand_limit
  pub next : Going operands code (i + 1) (loads_after o n) after

ran_numbered : (operands : List Value) (n : ℕ) (o : Operation) (rest : List Operation) (stack : List Value) → ran operands (numbered n (o ∷ rest)) stack
    ≡ option_and_then (ran operands (numbered (loads_after o n) rest)) (acted (taken operands n o) o stack)
ran_numbered operands n (op.Literal v) rest stack = refl
ran_numbered operands n (op.Load x) rest stack = refl
ran_numbered operands n (op.Unary f) rest [] = refl
ran_numbered operands n (op.Unary f) rest (a ∷ stack) = refl
ran_numbered operands n (op.Binary f) rest [] = refl
ran_numbered operands n (op.Binary f) rest (b ∷ []) = refl
ran_numbered operands n (op.Binary f) rest (b ∷ a ∷ stack) = refl

height_put : (stack : List Value) (v : Option Value) (after : List Value) → put_on stack v ≡ Some after → length after ≡ suc (length stack)
height_put stack None after is = absurd cc
height_put stack (Some v) after is = let e : after ≡ v ∷ stack = cc in ap length e

height_acted : (t : Option Value) (o : Operation) (stack after : List Value) → acted t o stack ≡ Some after → length after ≡ height o (length stack)
height_acted t (op.Literal v) stack after is = let e : after ≡ v ∷ stack = cc in ap length e
height_acted t (op.Load x) stack after is = height_put stack t after is
height_acted t (op.Unary f) [] after is = absurd cc
height_acted t (op.Unary f) (a ∷ stack) after is = height_put stack _ after is
height_acted t (op.Binary f) [] after is = absurd cc
height_acted t (op.Binary f) (b ∷ []) after is = absurd cc
height_acted t (op.Binary f) (b ∷ a ∷ stack) after is = height_put stack _ after is ∙ omega arith

few_after : (o : Operation) (n i : ℕ) → n ≤ i → loads_after o n ≤ i + 1
few_after (op.Literal v) n i h = omega arith
few_after (op.Load x) n i h = omega arith
few_after (op.Unary f) n i h = omega arith
few_after (op.Binary f) n i h = omega arith

pub going_acts : (operands : List Value) (code : List Operation) (i n : ℕ) (stack : List Value) (o : Operation) → i < length code → o ≡ get_or code i o
    → Going operands code i n stack → Acts operands code i n stack o
going_acts operands code i n stack o within is_at so =
    let rest = drop (i + 1) code in
    let here : drop i code ≡ o ∷ rest = drop_more code i o within ∙ ap (λ p. p ∷ rest) (sym is_at) in
    let run : ran operands (numbered n (o ∷ rest)) stack ≡ Some (so.end ∷ []) = ap (λ c. ran operands (numbered n c) stack) (sym here) ∙ so.runs in
    let g = given (ran operands (numbered (loads_after o n) rest)) (acted (taken operands n o) o stack) (so.end ∷ [])
    (sym (ran_numbered operands n o rest stack) ∙ run) in
    let tall = height_acted (taken operands n o) o stack g.operand g.is in
    let P : List Operation → Type 0 = λ c. Fits c (length stack) in
    let fits : Fits (o ∷ rest) (length stack) = subst P here so.fits in
    let Q : ℕ → Type 0 = λ m. Fits rest m in
    record {
      after = g.operand;
      runs = g.is;
      room = fits_here rest (height o (length stack)) fits.1;
      next = record { end = so.end; is = so.is; runs = g.gives; fits = subst Q (sym tall) fits.1; few = few_after o n i so.few };
    }

-- at the end the value stands alone
pub going_ends : (operands : List Value) (code : List Operation) (i n : ℕ) (stack : List Value) → length code ≤ i → (so : Going operands code i n stack)
    → stack ≡ so.end ∷ []
going_ends operands code i n stack past so =
    let run : ran operands (numbered n []) stack ≡ Some (so.end ∷ []) = ap (λ c. ran operands (numbered n c) stack) (sym (drop_past code i past)) ∙ so.runs in
    cc
