-- A thread is concurrent with no other, where neither it nor one above it is forked beside another one.
use Rattle.std.proofs.Common.{ℕ, zero, suc, ◌≡◌, ◌<◌, inl, inr, Some, None, List, [], ◌∷◌, length, Contains, Bool, true, false, not}
use Rattle.std.proofs.Common.{nat_eq, IsTrue, eqb-true, refl, sym, subst, ◌∙◌, arith}
use Rattle.sc_graph.specs.declared.links.Links.{Links}
use Rattle.sc_graph.specs.declared.program.Step.TheVariants as step
use Rattle.sc_graph.specs.Program.{Program, parent_of, step_at}
use Rattle.sc_graph.specs.Links.{Tells, only_at}
use Rattle.sc_graph.specs.Structure.{ExactlyOne, ForksChild}
use Rattle.sc_graph.specs.Threads.{Below, ForkedApart, AreConcurrent}
use Rattle.sc_graph.specs.Valid.{IsFormed}
use Rattle.sc_graph.proofs.Formed.{falls_upwards, parts, within_threads}
use Rattle.sc_graph.proofs.Linking.{fork_known}
use Rattle.sc_graph.proofs.Tree.{below_cases}
use Rattle.program_edges.specs.Inside.Beside.{IsBeside}

-- it is forked beside another one, where it is itself the child that is forked apart
beside_here : (p : Program) (t u a : ℕ) (x : ForkedApart p t u a) → t ≡ x.left → IsBeside p t
beside_here p t u a x here = record {
  fork = x.fork;
  children = x.children;
  join = x.join;
  forks = x.is_fork.forks;
  child = subst (Contains x.children) (sym here) x.left_child;
  other = x.right;
  other_child = x.right_child;
  differ = λ same. x.differ (sym here ∙ same);
}

-- what is concurrent with a thread is so with its parent, unless the thread is forked beside another one
goes_up : (p : Program) (t q u : ℕ) → parent_of p t ≡ Some q → ¬ IsBeside p t → AreConcurrent p t u → AreConcurrent p q u
goes_up p t q u up alone x =
    elim (below_cases p t x.apart.left x.apart.t_below) [
      | inl here ↦ absurd (alone (beside_here p t u x.forking x.apart here))
      | inr w ↦
          let same : w.0 ≡ q = cc (w.1, up) in
          record {
            forking = x.forking;
            apart = record {
              fork = x.apart.fork;
              children = x.apart.children;
              join = x.apart.join;
              is_fork = x.apart.is_fork;
              left = x.apart.left;
              right = x.apart.right;
              left_child = x.apart.left_child;
              right_child = x.apart.right_child;
              differ = x.apart.differ;
              t_below = subst (λ k. Below p k x.apart.left) same w.2;
              u_below = x.apart.u_below;
            };
          }
    ]

-- the root is concurrent with no thread
none_at_the_top : (p : Program) (t u : ℕ) → IsFormed p → parent_of p t ≡ None → AreConcurrent p t u → ⊥
none_at_the_top p t u formed top x =
    let y = parts p formed t u x.forking x.apart in
    elim (below_cases p t x.apart.left x.apart.t_below) [
      | inl here ↦
          let none : parent_of p x.apart.left ≡ None = subst (λ k. parent_of p k ≡ None) here top in
          cc (none, y.left_parent)
      | inr w ↦ cc (w.1, top)
    ]

-- a list of one item holds no two
one_item : (xs : List ℕ) (a b : ℕ) → length xs ≡ 1 → Contains xs a → Contains xs b → a ≡ b
one_item [] a b one h k = absurd (omega (arith, one))
one_item (x ∷ y ∷ xs) a b one h k = absurd (omega (arith, one))
one_item (x ∷ []) a b one (zero, lt, is) (zero, le, same) = sym is ∙ same
one_item (x ∷ []) a b one (suc i, lt, is) k = absurd (omega (arith, lt))
one_item (x ∷ []) a b one (zero, lt, is) (suc j, le, same) = absurd (omega (arith, le))

-- a thread of whose only fork it is the only child is forked beside no other
alone : (p : Program) (l : Links) (t fork join : ℕ) (children : List ℕ) → Tells p l → t < length p.threads → only_at l.forks t ≡ Some fork →
    step_at p fork ≡ Some (step.Fork children join) → length children ≡ 1 → ¬ IsBeside p t
alone p l t fork join children told lt found forks one x =
    let once : ExactlyOne (ForksChild p t) = (told.forks t lt).once.0 cc in
    let mine : fork ≡ once.one = once.alone fork (fork_known p l t fork told lt found) in
    let other : x.fork ≡ once.one = once.alone x.fork (record { children = x.children; join = x.join; forks = x.forks; child = x.child }) in
    let same : x.fork ≡ fork = other ∙ sym mine in
    let steps : step_at p fork ≡ Some (step.Fork x.children x.join) = subst (λ n. step_at p n ≡ Some (step.Fork x.children x.join)) same x.forks in
    let lists : x.children ≡ children = cc (steps, forks) in
    x.differ (one_item children t x.other one (subst (λ xs. Contains xs t) lists x.child) (subst (λ xs. Contains xs x.other) lists x.other_child))

untrue : (b : Bool) → b ≡ false → IsTrue b → ⊥
untrue b fails holds = cc

-- so what was concurrent with a thread from which one came here is so with the next one above
pub further_up : (p : Program) (first t q : ℕ) (beside : Bool) → parent_of p t ≡ Some q → beside ≡ false → (IsBeside p t → IsTrue beside) →
    ((u : ℕ) → AreConcurrent p first u → AreConcurrent p t u) →
    (u : ℕ) → AreConcurrent p first u → AreConcurrent p q u
further_up p first t q beside up is test before u x = goes_up p t q u up (λ b. untrue beside is (test b)) (before u x)

-- and at the top there is none
pub none_further : (p : Program) (first t : ℕ) → IsFormed p → parent_of p t ≡ None → ((u : ℕ) → AreConcurrent p first u → AreConcurrent p t u) →
    (u : ℕ) → AreConcurrent p first u → ⊥
none_further p first t formed top before u x = none_at_the_top p t u formed top (before u x)

not_one : (n : ℕ) → (n ≡ 1 → ⊥) → IsTrue (not (nat_eq n 1))
not_one n other = at (nat_eq n 1) refl
  where
    at : (b : Bool) → nat_eq n 1 ≡ b → IsTrue (not b)
    at true is = absurd (other (eqb-true n 1 is))
    at false is = refl

pub beside_others : (p : Program) (l : Links) (t fork join count : ℕ) (children : List ℕ) → Tells p l → t < length p.threads →
    only_at l.forks t ≡ Some fork → step_at p fork ≡ Some (step.Fork children join) → count ≡ length children → IsBeside p t →
    IsTrue (not (nat_eq count 1))
beside_others p l t fork join count children told lt found forks counted x =
    not_one count (λ one. alone p l t fork join children told lt found forks (sym counted ∙ one) x)

pub child_within : (p : Program) (t q : ℕ) → parent_of p t ≡ Some q → t < length p.threads
child_within p t q up = within_threads p t q up

pub parent_less : (p : Program) (t q : ℕ) → IsFormed p → parent_of p t ≡ Some q → q < t
parent_less p t q formed up = (falls_upwards p formed).falls t q up
