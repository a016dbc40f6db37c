-- Names that are asked for by a variable's number.
use Rattle.std.proofs.Common.{ℕ, ◌≡◌, Bool, Some, None, List, slice_get, nat_eq, ap, option_map}
use Rattle.std.specs.Cmp.Lexicographic.{pointwise}
use Rattle.std.specs.Bool.{Decides}
use Rattle.std.proofs.lemmas.Bool.Decides.{Decides-eqb}
use Rattle.std.proofs.lemmas.Slice.Eq.{slice_eq-Decides}
use Rattle.sc_graph.specs.declared.program.Variable.{Variable}
use Rattle.sc_graph.specs.Program.{Program}
use Rattle.sc_graph.specs.Inside.Lookups.{name_at}

named : (p : Program) (x : ℕ) (v : Variable) → slice_get p.variables x ≡ Some v → name_at p x ≡ Some v.name
named p x v at = ap (λ o. option_map (λ w. w.name) o) at

pub name_decides : (p : Program) (x : ℕ) (v : Variable) (name : List ℕ) (r : Bool) → slice_get p.variables x ≡ Some v → r ≡ pointwise nat_eq v.name name
    → Decides r (name_at p x ≡ Some name)
name_decides p x v name r at is =
    let same : Decides r (v.name ≡ name) = slice_eq-Decides Decides-eqb v.name name r is in
    let here : name_at p x ≡ Some v.name = named p x v at in
    (λ yes. let e = same.0 yes in cc, λ e. let f : v.name ≡ name = cc (e, here) in same.1 f)

pub no_name : (p : Program) (x : ℕ) (name : List ℕ) → slice_get p.variables x ≡ None → ¬ (name_at p x ≡ Some name)
no_name p x name none e =
    let here : name_at p x ≡ None = ap (λ o. option_map (λ w. w.name) o) none in
    cc
