-- What the variables of a draft are where nothing is wrong with them.
use Rattle.std.proofs.Common.{◌≡◌, ℕ, suc, ◌+◌, ◌≤◌, Bool, true, false, cond, Option, Some, None, List, [], ◌∷◌, ◌++◌, length, map, slice_get, refl, sym, ◌∙◌}
use Rattle.std.proofs.Common.{ap, subst, arith}
use Rattle.std.specs.Prelude.{◌&&◌, nat_lt, count_by, option_map}
use Rattle.std.proofs.lemmas.Bool.Decides.{Decides-eqb}
use Rattle.std.proofs.lemmas.List.{length-map}
use Rattle.std.proofs.lemmas.List.Sums.{sum_by-cons}
use Rattle.std.proofs.lemmas.Option.{slice_get-map}
use Rattle.sc_graph.specs.Limits.{variable_limit, output_limit}
use Rattle.sc_graph.specs.Size.{is_output}
use Rattle.sc_graph.specs.declared.program.Variable.{Variable}
use Rattle.sc_text.specs.declared.language.Language.{Language}
use Rattle.sc_text.specs.declared.read_fault.FaultKind.TheVariants as broken
use Rattle.sc_text.specs.Parts.{IsNameIn, AreVariables, are_distinct}
use Rattle.sc_text.specs.declared.drafts.flaw.Flaw.{Flaw}
use Rattle.sc_text.specs.declared.drafts.parts.Declaration.{Declaration}
use Rattle.sc_text.specs.Flaws.{flaw_if, is_full, place_among, is_at, is_repeated, one_more_if, variable_flaws, variable_names}
use Rattle.sc_text.specs.Resolved.{variable_of, variables_of}
use Rattle.sc_text.proofs.Unflawed.{none_first, none_second, no_flaw, not_false}
use Rattle.sc_text.proofs.Distinct.{AreFirstBehind, no_more_names, one_more_name, all_first, first_distinct}

-- what stands at this place is not repeated: so it is the first of its name
pub is_first : (names : List (List ℕ)) (at : ℕ) (name : List ℕ) → is_repeated names at name ≡ false → place_among names name ≡ Some at
is_first names at name e = by_place (place_among names name) (not_false (is_at at (place_among names name)) e)
  where
    by_place : (o : Option ℕ) → is_at at o ≡ true → o ≡ Some at
    by_place None e = absurd cc
    by_place (Some p) e = ap Some ((Decides-eqb p at).0 e)

-- there is room for one more
pub room_for_one : (limit count : ℕ) → is_full limit count ≡ false → count + 1 ≤ limit
room_for_one limit n e = let less = not_false (nat_lt n limit) e in grind (arith, less)

-- there is, and also for all those behind it
pub room_for_more : (limit n more : ℕ) → n + 1 ≤ limit → (n + 1 ≤ limit → n + 1 + more ≤ limit) → n + suc more ≤ limit
room_for_more limit n more one all = let fits = all one in omega (arith, fits)

-- what is known of the variables from one place on
record Flawless (names : List (List ℕ)) (at outputs : ℕ) (V : List Declaration) : Type 0 where
  pub count : at ≤ variable_limit → at + length V ≤ variable_limit
  pub outputs_are : outputs ≤ output_limit → outputs + count_by (λ x. is_output x.role) (variables_of V) ≤ output_limit
  pub first : AreFirstBehind names at (variable_names V)

outputs_more : (b : Bool) (outputs rest : ℕ) → (b && is_full output_limit outputs) ≡ false
    → (one_more_if b outputs ≤ output_limit → one_more_if b outputs + rest ≤ output_limit) → outputs ≤ output_limit
    → outputs + (cond b 1 0 + rest) ≤ output_limit
outputs_more false outputs rest e more le = let m = more le in omega (arith, m)
outputs_more true outputs rest e more le =
    let fits = room_for_one output_limit outputs e in
    let m = more fits in
    omega (arith, m)

flawless : (names : List (List ℕ)) (at outputs : ℕ) (V : List Declaration) → variable_flaws names at outputs V ≡ [] → Flawless names at outputs V
flawless names at outputs [] none = record { count = λ le. omega (arith, le); outputs_are = λ le. omega (arith, le); first = no_more_names names at }
flawless names at outputs (x ∷ V) none =
    let a : List Flaw = flaw_if (is_repeated names at x.named.name) broken.Repeated x.named.at in
    let b : List Flaw = flaw_if (is_full variable_limit at) broken.Limit x.named.at in
    let c : List Flaw = flaw_if (is_output x.role && is_full output_limit outputs) broken.Limit x.named.at in
    let d : List Flaw = variable_flaws names (at + 1) (one_more_if (is_output x.role) outputs) V in
    let behind_a : b ++ (c ++ d) ≡ [] = none_second a (b ++ (c ++ d)) none in
    let behind_b : c ++ d ≡ [] = none_second b (c ++ d) behind_a in
    let here : place_among names x.named.name
    ≡ Some at = is_first names at x.named.name (no_flaw (is_repeated names at x.named.name) broken.Repeated x.named.at (none_first a (b ++ (c ++ d)) none))
    in
    let room : at + 1 ≤ variable_limit = room_for_one variable_limit at
    (no_flaw (is_full variable_limit at) broken.Limit x.named.at (none_first b (c ++ d) behind_a)) in
    let output : (is_output x.role && is_full output_limit outputs) ≡ false = no_flaw (is_output x.role && is_full output_limit outputs) broken.Limit x.named.at
    (none_first c d behind_b) in
    let rest : Flawless names (at + 1) (one_more_if (is_output x.role) outputs) V = flawless names (at + 1) (one_more_if (is_output x.role) outputs) V
    (none_second c d behind_b) in
    record {
      count = λ le. room_for_more variable_limit at (length V) room rest.count;
      outputs_are = λ le.
          (let sum = sum_by-cons (λ (y : Variable). cond (is_output y.role) 1 0) (variable_of x) (variables_of V) in
          let m = outputs_more (is_output x.role) outputs (count_by (λ y. is_output y.role) (variables_of V)) output rest.outputs_are le in
          omega (arith, sum, m));
      first = one_more_name names at x.named.name (variable_names V) here rest.first;
    }

pub few_variables : (V : List Declaration) → variable_flaws (variable_names V) 0 0 V ≡ [] → length V ≤ variable_limit
few_variables V none = let few = (flawless (variable_names V) 0 0 V none).count (omega arith) in omega (arith, few)

pub names_same : (V : List Declaration) → map (λ (v : Variable). v.name) (variables_of V) ≡ variable_names V
names_same [] = refl
names_same (x ∷ V) = ap (λ names. x.named.name ∷ names) (names_same V)

-- the variables of a draft
pub variables_are : (l : Language) (V : List Declaration) → ((i : ℕ) (x : Declaration) → slice_get V i ≡ Some x → IsNameIn l x.named.name)
    → variable_flaws (variable_names V) 0 0 V ≡ [] → AreVariables l (variables_of V)
variables_are l V called none =
    let all : Flawless (variable_names V) 0 0 V = flawless (variable_names V) 0 0 V none in
    let few = all.count (omega arith) in
    let long = length-map V variable_of in
    record {
      count = omega (arith, few, long);
      outputs = (let o = all.outputs_are (omega arith) in omega (arith, o));
      named = λ i x e. found i x (slice_get V i) refl (sym (slice_get-map variable_of V i) ∙ e);
      distinct = ap are_distinct (names_same V) ∙ first_distinct (variable_names V) (all_first (variable_names V) all.first);
    }
  where
    found : (i : ℕ) (x : Variable) (o : Option Declaration) → slice_get V i ≡ o → option_map variable_of o ≡ Some x → IsNameIn l x.name
    found i x None is e = absurd cc
    found i x (Some y) is e =
        let same : variable_of y ≡ x = cc in
        let name : y.named.name ≡ x.name = ap (λ v. v.name) same in
        subst (IsNameIn l) name (called i y is)
