-- Nothing is wrong with the names of a draft whose variables and labels are distinct, and whose gotos name labels of their own
-- thread.
use Rattle.std.proofs.Common.{◌≡◌, ◌≢◌, ℕ, zero, suc, ◌+◌, ◌≤◌, Bool, true, false, cond, Some, List, [], ◌∷◌, ◌++◌, length}
use Rattle.std.proofs.Common.{slice_get, refl, ◌∙◌, ap, subst, arith, if◌then◌else◌}
use Rattle.std.specs.Prelude.{not, ◌&&◌, ◌||◌, count_by, option_map}
use Rattle.std.specs.List.{filter, list_any}
use Rattle.std.specs.Str.{bytes_eq}
use Rattle.std.proofs.lemmas.Slice.Eq.{bytes_eq-Decides}
use Rattle.std.proofs.lemmas.Bool.{and_parts}
use Rattle.std.proofs.lemmas.Bool.Decides.{Decides-eqb, Decides-ltb}
use Rattle.std.proofs.lemmas.List.Sums.{sum_by-cons}
use Rattle.grammar.proofs.Each.{Every}
use Rattle.sc_graph.specs.Limits.{variable_limit, output_limit}
use Rattle.sc_graph.specs.Size.{is_output}
use Rattle.sc_graph.specs.declared.program.Role.{Role}
use Rattle.sc_graph.specs.declared.program.Role.TheVariants as role
use Rattle.sc_graph.specs.declared.program.Variable.{Variable}
use Rattle.sc_text.specs.declared.read_fault.FaultKind.TheVariants as broken
use Rattle.sc_text.specs.Parts.{are_distinct}
use Rattle.sc_text.specs.declared.drafts.flaw.Flaw.{Flaw}
use Rattle.sc_text.specs.declared.drafts.parts.Named.{Named}
use Rattle.sc_text.specs.declared.drafts.parts.Declaration.{Declaration}
use Rattle.sc_text.specs.Flaws.{flaw_if, is_full, first_or, place_among, is_among, is_at, is_repeated, one_more_if, variable_names, variable_flaws, is_input}
use Rattle.sc_text.specs.Resolved.{variable_of, variables_of}
use Rattle.sc_text.proofs.Distinct.{AreFirst, AreFirstBehind, itself}
use Rattle.scl.specs.Rules.{is_in}
use Rattle.scl_reader.specs.Flaws.{names, lost, repeated}
use Rattle.scl_reader.proofs.Pieces.{among_in, both_empty}
use Rattle.scl_printer_laws.proofs.SoundValues.{flaw_none}

-- ---- distinct names are each the first of its kind

not_true : (b : Bool) → not b ≡ true → b ≡ false
not_true false e = refl
not_true true e = absurd (cc)

other_name : (n : List ℕ) (ns : List (List ℕ)) → list_any (bytes_eq n) ns ≡ false → (k : ℕ) (name : List ℕ) → slice_get ns k ≡ Some name
    → bytes_eq n name ≡ false
other_name n [] e k name at = absurd (cc)
other_name n (m ∷ ns) e zero name at =
    let same : m ≡ name = cc in
    subst (λ x. bytes_eq n x ≡ false) same (first_none (bytes_eq n m) (list_any (bytes_eq n) ns) e)
  where
    first_none : (a b : Bool) → (a || b) ≡ false → a ≡ false
    first_none false b e = refl
    first_none true b e = absurd (cc)
other_name n (m ∷ ns) e (suc k) name at = other_name n ns (second_none (bytes_eq n m) (list_any (bytes_eq n) ns) e) k name at
  where
    second_none : (a b : Bool) → (a || b) ≡ false → b ≡ false
    second_none false b e = e
    second_none true b e = absurd (cc)

pub distinct_first : (ns : List (List ℕ)) → are_distinct ns ≡ true → AreFirst ns
distinct_first [] e k name at = absurd (cc)
distinct_first (n ∷ ns) e zero name at =
    let same : n ≡ name = cc in
    ap (λ b. first_or b (place_among ns name)) (subst (λ x. bytes_eq n x ≡ true) same (itself n))
distinct_first (n ∷ ns) e (suc k) name at =
    let parts = and_parts (not (list_any (bytes_eq n) ns)) (are_distinct ns) e in
    let other : bytes_eq n name ≡ false = other_name n ns (not_true (list_any (bytes_eq n) ns) parts.0) k name at in
    ap (λ b. first_or b (place_among ns name)) other ∙ ap (option_map suc) (distinct_first ns parts.1 k name at)

first_behind : (names : List (List ℕ)) (at : ℕ) (n : List ℕ) (rest : List (List ℕ)) → AreFirstBehind names at (n ∷ rest)
    → (place_among names n ≡ Some at) × AreFirstBehind names (at + 1) rest
first_behind names at n rest are = (
  are 0 n refl ∙ ap Some (let e : at + 0 ≡ at = omega arith in e),
  λ k name is. are (suc k) name is ∙ ap Some (let e : at + suc k ≡ at + 1 + k = omega arith in e),
)

pub from_first : (ns : List (List ℕ)) → AreFirst ns → AreFirstBehind ns 0 ns
from_first ns are k name e = are k name e ∙ ap Some (let e : k ≡ 0 + k = omega arith in e)

not_repeated : (names : List (List ℕ)) (at : ℕ) (name : List ℕ) → place_among names name ≡ Some at → is_repeated names at name ≡ false
not_repeated names at name e = ap (λ o. not (is_at at o)) e ∙ ap not ((Decides-eqb at at).1 refl)

-- ---- labels and gotos

pub none_repeated : (labels : List (List ℕ)) (at : ℕ) (ls : List Named) → AreFirstBehind labels at (names ls) → repeated labels at ls ≡ []
none_repeated labels at [] are = refl
none_repeated labels at (l ∷ ls) are =
    let parts = first_behind labels at l.name (names ls) are in
    both_empty (flaw_if (is_repeated labels at l.name) broken.Repeated l.at) (repeated labels (at + 1) ls)
    (flaw_none (is_repeated labels at l.name) broken.Repeated l.at (not_repeated labels at l.name parts.0))
    (none_repeated labels (at + 1) ls parts.1)

abbrev pub is_lost : List (List ℕ) → List ℕ → Bool
is_lost labels name = not (is_in labels name)

found_first : (labels : List (List ℕ)) (g : List ℕ) (gs : List (List ℕ)) → filter (is_lost labels) (g ∷ gs) ≡ []
    → (is_in labels g ≡ true) × (filter (is_lost labels) gs ≡ [])
found_first labels g gs e = by_cases (is_in labels g) refl e
  where
    by_cases : (b : Bool) → is_in labels g ≡ b → (if not b then g ∷ filter (is_lost labels) gs else filter (is_lost labels) gs) ≡ []
        → (is_in labels g ≡ true) × (filter (is_lost labels) gs ≡ [])
    by_cases true is e = (is, e)
    by_cases false is e = absurd (cc)

pub none_lost : (labels : List (List ℕ)) (gotos : List Named) → filter (is_lost labels) (names gotos) ≡ [] → lost labels gotos ≡ []
none_lost labels [] e = refl
none_lost labels (g ∷ gotos) e =
    let parts = found_first labels g.name (names gotos) e in
    both_empty (flaw_if (not (is_among labels g.name)) broken.Unknown g.at) (lost labels gotos)
    (flaw_none (not (is_among labels g.name)) broken.Unknown g.at (ap not (among_in labels g.name ∙ parts.0)))
    (none_lost labels gotos parts.1)

in_every : (P : List ℕ → Type 0) (labels : List (List ℕ)) (name : List ℕ) → is_in labels name ≡ true → Every P labels → P name
in_every P [] name e h = absurd (cc)
in_every P (l ∷ labels) name e h = by_cases (bytes_eq l name) refl e (λ f. in_every P labels name f h.1)
  where
    by_cases : (b : Bool) → bytes_eq l name ≡ b → (b || is_in labels name) ≡ true → (is_in labels name ≡ true → P name) → P name
    by_cases true is e later = subst P ((bytes_eq-Decides l name).0 is) h.0
    by_cases false is e later = later e

-- what holds of each label holds of each goto that names one
pub every_found : (P : List ℕ → Type 0) (labels gotos : List (List ℕ)) → filter (is_lost labels) gotos ≡ [] → Every P labels → Every P gotos
every_found P labels [] e h = tt
every_found P labels (g ∷ gotos) e h =
    let parts = found_first labels g gotos e in
    (in_every P labels g parts.0 h, every_found P labels gotos parts.1 h)

-- ---- variables

pub lower : (n limit : ℕ) → n + 1 ≤ limit → is_full limit n ≡ false
lower n limit le = ap not ((Decides-ltb n limit).1 (omega (arith, le)))

output_room : (b : Bool) (outputs rest : ℕ) → outputs + (cond b 1 0 + rest) ≤ output_limit → (b && is_full output_limit outputs) ≡ false
output_room false outputs rest le = refl
output_room true outputs rest le = lower outputs output_limit (omega (arith, le))

outputs_left : (b : Bool) (outputs rest : ℕ) → outputs + (cond b 1 0 + rest) ≤ output_limit → one_more_if b outputs + rest ≤ output_limit
outputs_left false outputs rest le = omega (arith, le)
outputs_left true outputs rest le = omega (arith, le)

pub none_declared : (names : List (List ℕ)) (at outputs : ℕ) (V : List Declaration) → AreFirstBehind names at (variable_names V)
    → at + length V ≤ variable_limit
    → outputs + count_by (λ x. is_output x.role) (variables_of V) ≤ output_limit → variable_flaws names at outputs V ≡ []
none_declared names at outputs [] are few fewer = refl
none_declared names at outputs (x ∷ V) are few fewer =
    let parts = first_behind names at x.named.name (variable_names V) are in
    let sum = sum_by-cons (λ (y : Variable). cond (is_output y.role) 1 0) (variable_of x) (variables_of V) in
    let rest : ℕ = count_by (λ y. is_output y.role) (variables_of V) in
    let room : outputs + (cond (is_output x.role) 1 0 + rest) ≤ output_limit = omega (arith, sum, fewer) in
    let c : List Flaw = flaw_if (is_output x.role && is_full output_limit outputs) broken.Limit x.named.at in
    let d : List Flaw = variable_flaws names (at + 1) (one_more_if (is_output x.role) outputs) V in
    let b : List Flaw = flaw_if (is_full variable_limit at) broken.Limit x.named.at in
    both_empty (flaw_if (is_repeated names at x.named.name) broken.Repeated x.named.at) (b ++ (c ++ d))
    (flaw_none (is_repeated names at x.named.name) broken.Repeated x.named.at (not_repeated names at x.named.name parts.0))
    (both_empty b (c ++ d) (flaw_none (is_full variable_limit at) broken.Limit x.named.at (lower at variable_limit (omega (arith, few))))
    (both_empty c d
    (flaw_none (is_output x.role && is_full output_limit outputs) broken.Limit x.named.at (output_room (is_output x.role) outputs rest room))
    (none_declared names (at + 1) (one_more_if (is_output x.role) outputs) V parts.1 (omega (arith, few)) (outputs_left (is_output x.role) outputs rest room))))

pub not_input : (r : Role) → r ≢ role.Input → is_input r ≡ false
not_input role.Input h = absurd (h refl)
not_input role.Output h = refl
not_input role.Local h = refl
