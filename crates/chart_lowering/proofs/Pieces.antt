-- What is known of a piece of a thread's text, and how pieces come together.
use Rattle.std.proofs.Common.{◌≡◌, ℕ, suc, ◌+◌, ◌≤◌, max, ◌⊎◌, inl, inr, Bool, true, false, not, ◌||◌, IsTrue, List, [], ◌∷◌, ◌++◌, map, length, refl, ap, sym}
use Rattle.std.proofs.Common.{subst, ◌∙◌, arith}
use Rattle.std.specs.List.{filter}
use Rattle.std.specs.Str.{bytes_eq}
use Rattle.sc_values.specs.declared.expression.Expr.{Expr}
use Rattle.sc_values.specs.declared.value.Kind.TheVariants as kind_is
use Rattle.sc_graph.specs.declared.program.Variable.{Variable}
use Rattle.sc_graph.specs.Limits.{child_limit}
use Rattle.sc_text.specs.Parts.{IsExpression}
use Rattle.std.proofs.lemmas.List.{map-append}
use Rattle.std.proofs.lemmas.Slice.Eq.{bytes_eq-Decides}
use Rattle.scl.specs.declared.statement.Statement.TheOpen as text
use Rattle.scl.specs.Rules.{Part, nothing, both, in_row, part, side_by_side, is_in, thread, IsAssignment}
use Rattle.sc_text.proofs.EachItem.{Each, each_append, each_more}
use Rattle.chart_lowering.specs.Lowering.{label_name}
use Rattle.chart_lowering.proofs.Once.{count, count_append, Once, none_once, one_once, both_once, same_once}

-- a name is among those to which a text may go, or among its own labels
abbrev pub Leads : List (List ℕ) → List (List ℕ) → List ℕ → Type 0
Leads targets labels name = IsTrue (is_in targets name) ⊎ IsTrue (is_in labels name)

-- a piece of a thread, over these variables, which goes to its own labels and to these targets. Its labels have the
-- numbers from `from` on, `size` many. Ifs stand `most` deep in one another, forks `deep`
pub record IsPiece (variables : List Variable) (targets : List (List ℕ)) (deep most from size : ℕ) (p : Part) : Type 0 where
  pub own : List ℕ
  pub below : List ℕ
  pub labels : p.labels ≡ map label_name own
  pub lower : p.lower ≡ map label_name below
  pub counted : Once from size (λ k. count k own + count k below)
  pub gotos : Each (Leads targets p.labels) p.gotos
  pub lost : p.lost ≡ []
  pub assigned : Each (λ a. IsAssignment variables a.0 a.1) p.assigned
  pub tests : Each (IsExpression (map (λ v. v.kind) variables) kind_is.Bool) p.tests
  pub forks : Each (λ n. (1 ≤ n) × (n ≤ child_limit)) p.forks
  pub ifs : p.ifs ≤ most
  pub lower_ifs : p.lower_ifs ≤ 1
  pub depth : p.depth ≤ deep

pub empty_piece : (variables : List Variable) (targets : List (List ℕ)) (deep most from : ℕ) → IsPiece variables targets deep most from 0 nothing
empty_piece variables targets deep most from = record {
  own = [];
  below = [];
  labels = refl;
  lower = refl;
  counted = none_once from (λ k. 0) (λ k. refl);
  gotos = tt;
  lost = refl;
  assigned = tt;
  tests = tt;
  forks = tt;
  ifs = omega arith;
  lower_ifs = omega arith;
  depth = omega arith;
}

pub or_left : (a b : Bool) → IsTrue a → IsTrue (a || b)
or_left true b h = refl
or_left false b h = absurd cc

pub or_right : (a b : Bool) → IsTrue b → IsTrue (a || b)
or_right true b h = refl
or_right false b h = h

pub or_cases : (a b : Bool) → IsTrue (a || b) → IsTrue a ⊎ IsTrue b
or_cases true b h = inl refl
or_cases false b h = inr h

pub is_in_left : (xs ys : List (List ℕ)) (name : List ℕ) → IsTrue (is_in xs name) → IsTrue (is_in (xs ++ ys) name)
is_in_left [] ys name h = absurd cc
is_in_left (x ∷ xs) ys name h =
    elim (or_cases (bytes_eq x name) (is_in xs name) h) [
      | inl here ↦ or_left (bytes_eq x name) (is_in (xs ++ ys) name) here
      | inr later ↦ or_right (bytes_eq x name) (is_in (xs ++ ys) name) (is_in_left xs ys name later)
    ]

pub is_in_right : (xs ys : List (List ℕ)) (name : List ℕ) → IsTrue (is_in ys name) → IsTrue (is_in (xs ++ ys) name)
is_in_right [] ys name h = h
is_in_right (x ∷ xs) ys name h = or_right (bytes_eq x name) (is_in (xs ++ ys) name) (is_in_right xs ys name h)

pub same_name : (xs ys : List ℕ) → IsTrue (bytes_eq xs ys) → xs ≡ ys
same_name xs ys h = (bytes_eq-Decides xs ys).0 h

pub name_itself : (xs : List ℕ) → IsTrue (bytes_eq xs xs)
name_itself xs = (bytes_eq-Decides xs xs).1 refl

leads_left : (targets xs ys : List (List ℕ)) (name : List ℕ) → Leads targets xs name → Leads targets (xs ++ ys) name
leads_left targets xs ys name (inl h) = inl h
leads_left targets xs ys name (inr h) = inr (is_in_left xs ys name h)

leads_right : (targets xs ys : List (List ℕ)) (name : List ℕ) → Leads targets ys name → Leads targets (xs ++ ys) name
leads_right targets xs ys name (inl h) = inl h
leads_right targets xs ys name (inr h) = inr (is_in_right xs ys name h)

no_more_lost : (xs ys : List (List ℕ)) → xs ≡ [] → ys ≡ [] → xs ++ ys ≡ []
no_more_lost xs ys h k = ap (λ zs. zs ++ ys) h ∙ k

larger : (a b n : ℕ) → a ≤ n → b ≤ n → max a b ≤ n
larger a b n h k = omega (arith, h, k)

-- a piece, and behind it another whose labels have the next numbers
pub both_pieces : (variables : List Variable) (targets : List (List ℕ)) (deep most from m n mid size : ℕ) (p q : Part)
    → mid ≡ from + m → size ≡ m + n
    → IsPiece variables targets deep most from m p → IsPiece variables targets deep most mid n q
    → IsPiece variables targets deep most from size (both p q)
both_pieces variables targets deep most from m n mid size p q is_mid is_size a b = record {
  own = a.own ++ b.own;
  below = a.below ++ b.below;
  labels = ap (λ xs. xs ++ q.labels) a.labels ∙ ap (λ ys. map label_name a.own ++ ys) b.labels ∙ sym (map-append label_name a.own b.own);
  lower = ap (λ xs. xs ++ q.lower) a.lower ∙ ap (λ ys. map label_name a.below ++ ys) b.lower ∙ sym (map-append label_name a.below b.below);
  counted =
      both_once from m n mid size (λ k. count k a.own + count k a.below) (λ k. count k b.own + count k b.below)
      (λ k. count k (a.own ++ b.own) + count k (a.below ++ b.below))
      is_mid is_size a.counted b.counted
      (λ k. omega (arith, count_append k a.own b.own, count_append k a.below b.below));
  gotos =
      each_append (Leads targets (p.labels ++ q.labels)) p.gotos q.gotos
      (each_more (Leads targets p.labels) (Leads targets (p.labels ++ q.labels)) p.gotos (leads_left targets p.labels q.labels) a.gotos)
      (each_more (Leads targets q.labels) (Leads targets (p.labels ++ q.labels)) q.gotos (leads_right targets p.labels q.labels) b.gotos);
  lost = no_more_lost p.lost q.lost a.lost b.lost;
  assigned = each_append (λ x. IsAssignment variables x.0 x.1) p.assigned q.assigned a.assigned b.assigned;
  tests = each_append (IsExpression (map (λ v. v.kind) variables) kind_is.Bool) p.tests q.tests a.tests b.tests;
  forks = each_append (λ x. (1 ≤ x) × (x ≤ child_limit)) p.forks q.forks a.forks b.forks;
  ifs = larger p.ifs q.ifs most a.ifs b.ifs;
  lower_ifs = larger p.lower_ifs q.lower_ifs 1 a.lower_ifs b.lower_ifs;
  depth = larger p.depth q.depth deep a.depth b.depth;
}

-- a piece that goes to no target but its own labels
found : (labels gotos : List (List ℕ)) → Each (λ name. IsTrue (is_in labels name)) gotos → filter (λ name. not (is_in labels name)) gotos ≡ []
found labels [] h = refl
found labels (name ∷ gotos) h = rw h.0 (found labels gotos h.1)

own_lead : (targets labels : List (List ℕ)) → ((name : List ℕ) → IsTrue (is_in targets name) → IsTrue (is_in labels name))
    → (name : List ℕ) → Leads targets labels name → IsTrue (is_in labels name)
own_lead targets labels f name (inl h) = f name h
own_lead targets labels f name (inr h) = h

no_own : (own below : List ℕ) (k : ℕ) → count k [] + count k (own ++ below) ≡ count k own + count k below
no_own own below k = omega (arith, count_append k own below)

-- a whole thread, whose targets are all labels of its own, seen from outside
pub thread_piece : (variables : List Variable) (targets others : List (List ℕ)) (deep most from size : ℕ) (p : Part)
    → most ≤ 1 → ((name : List ℕ) → IsTrue (is_in targets name) → IsTrue (is_in p.labels name))
    → IsPiece variables targets deep most from size p → IsPiece variables others deep 0 from size (thread p)
thread_piece variables targets others deep most from size p few all a = record {
  own = [];
  below = a.own ++ a.below;
  labels = refl;
  lower = ap (λ xs. xs ++ p.lower) a.labels ∙ ap (λ ys. map label_name a.own ++ ys) a.lower ∙ sym (map-append label_name a.own a.below);
  counted =
      same_once from size (λ k. count k a.own + count k a.below) (λ k. count k [] + count k (a.own ++ a.below)) (no_own a.own a.below) a.counted;
  gotos = tt;
  lost =
      no_more_lost (filter (λ name. not (is_in p.labels name)) p.gotos) p.lost
      (found p.labels p.gotos (each_more (Leads targets p.labels) (λ name. IsTrue (is_in p.labels name)) p.gotos (own_lead targets p.labels all) a.gotos))
      a.lost;
  assigned = a.assigned;
  tests = a.tests;
  forks = a.forks;
  ifs = omega arith;
  lower_ifs = larger p.ifs p.lower_ifs 1 (omega (arith, a.ifs, few)) a.lower_ifs;
  depth = a.depth;
}

-- a target that is a label of the piece is no target
narrowed_lead : (target : List ℕ) (targets labels : List (List ℕ)) → IsTrue (is_in labels target)
    → (name : List ℕ) → Leads (target ∷ targets) labels name → Leads targets labels name
narrowed_lead target targets labels own name (inr h) = inr h
narrowed_lead target targets labels own name (inl h) =
    elim (or_cases (bytes_eq target name) (is_in targets name) h) [
      | inl here ↦ inr (subst (λ n. IsTrue (is_in labels n)) (same_name target name here) own)
      | inr later ↦ inl later
    ]

pub narrowed : (variables : List Variable) (target : List ℕ) (targets : List (List ℕ)) (deep most from size : ℕ) (p : Part)
    → IsTrue (is_in p.labels target)
    → IsPiece variables (target ∷ targets) deep most from size p → IsPiece variables targets deep most from size p
narrowed variables target targets deep most from size p own a = record {
  own = a.own;
  below = a.below;
  labels = a.labels;
  lower = a.lower;
  counted = a.counted;
  gotos = each_more (Leads (target ∷ targets) p.labels) (Leads targets p.labels) p.gotos (narrowed_lead target targets p.labels own) a.gotos;
  lost = a.lost;
  assigned = a.assigned;
  tests = a.tests;
  forks = a.forks;
  ifs = a.ifs;
  lower_ifs = a.lower_ifs;
  depth = a.depth;
}

-- ---- single statements

pub label_piece : (variables : List Variable) (targets : List (List ℕ)) (deep most n : ℕ)
    → IsPiece variables targets deep most n 1 (part (text.Label (label_name n)))
label_piece variables targets deep most n = record {
  own = n ∷ [];
  below = [];
  labels = refl;
  lower = refl;
  counted = one_once n;
  gotos = tt;
  lost = refl;
  assigned = tt;
  tests = tt;
  forks = tt;
  ifs = omega arith;
  lower_ifs = omega arith;
  depth = omega arith;
}

pub goto_piece : (variables : List Variable) (targets : List (List ℕ)) (deep most from : ℕ) (name : List ℕ) → IsTrue (is_in targets name)
    → IsPiece variables targets deep most from 0 (part (text.Goto name))
goto_piece variables targets deep most from name there = record {
  own = [];
  below = [];
  labels = refl;
  lower = refl;
  counted = none_once from (λ k. 0 + 0) (λ k. omega arith);
  gotos = (inl there, tt);
  lost = refl;
  assigned = tt;
  tests = tt;
  forks = tt;
  ifs = omega arith;
  lower_ifs = omega arith;
  depth = omega arith;
}

pub assign_piece : (variables : List Variable) (targets : List (List ℕ)) (deep most from x : ℕ) (e : Expr) → IsAssignment variables x e
    → IsPiece variables targets deep most from 0 (part (text.Assign x e))
assign_piece variables targets deep most from x e is = record {
  own = [];
  below = [];
  labels = refl;
  lower = refl;
  counted = none_once from (λ k. 0 + 0) (λ k. omega arith);
  gotos = tt;
  lost = refl;
  assigned = (is, tt);
  tests = tt;
  forks = tt;
  ifs = omega arith;
  lower_ifs = omega arith;
  depth = omega arith;
}

-- a test with nothing but assignments and a goto
pub if_piece : (variables : List Variable) (targets : List (List ℕ)) (deep from : ℕ) (e : Expr) (does : List Part)
    → IsExpression (map (λ v. v.kind) variables) kind_is.Bool e
    → IsPiece variables targets deep 0 from 0 (in_row does)
    → IsPiece variables targets deep 1 from 0 (part (text.If e does []))
if_piece variables targets deep from e does test a =
    let both : IsPiece variables targets deep 0 from 0 (both (in_row does) nothing) = both_pieces variables targets deep 0 from 0 0 from 0 (in_row does) nothing
    (omega arith) (omega arith) a (empty_piece variables targets deep 0 from) in
    record {
      own = both.own;
      below = both.below;
      labels = both.labels;
      lower = both.lower;
      counted = both.counted;
      gotos = both.gotos;
      lost = both.lost;
      assigned = both.assigned;
      tests = (test, both.tests);
      forks = both.forks;
      ifs = omega (arith, both.ifs);
      lower_ifs = both.lower_ifs;
      depth = both.depth;
    }

-- a fork of at most 64 branches, of which the insides are pieces of threads below
pub fork_piece : (variables : List Variable) (targets : List (List ℕ)) (deep most from size : ℕ) (branches : List (List Part))
    → 1 ≤ length branches → length branches ≤ child_limit
    → IsPiece variables targets deep most from size (side_by_side branches)
    → IsPiece variables targets (suc deep) most from size (part (text.Fork branches))
fork_piece variables targets deep most from size branches some few a = record {
  own = a.own;
  below = a.below;
  labels = a.labels;
  lower = a.lower;
  counted = a.counted;
  gotos = a.gotos;
  lost = a.lost;
  assigned = a.assigned;
  tests = a.tests;
  forks = ((some, few), a.forks);
  ifs = a.ifs;
  lower_ifs = a.lower_ifs;
  depth = omega (arith, a.depth);
}

-- more ifs and forks may stand in one another
pub widened : (variables : List Variable) (targets : List (List ℕ)) (deep deeper most more from size : ℕ) (p : Part)
    → deep ≤ deeper → most ≤ more
    → IsPiece variables targets deep most from size p → IsPiece variables targets deeper more from size p
widened variables targets deep deeper most more from size p wide large a = record {
  own = a.own;
  below = a.below;
  labels = a.labels;
  lower = a.lower;
  counted = a.counted;
  gotos = a.gotos;
  lost = a.lost;
  assigned = a.assigned;
  tests = a.tests;
  forks = a.forks;
  ifs = omega (arith, a.ifs, large);
  lower_ifs = a.lower_ifs;
  depth = omega (arith, a.depth, wide);
}
