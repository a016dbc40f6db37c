-- Where all is quiet at each fork, no two nodes that are noted there conflict.
use Rattle.std.proofs.Common.{ℕ, ◌≡◌, ◌≢◌, ◌<◌, ◌⊎◌, inl, inr, Bool, true, false, not, Some, None, List, Contains, length, get_or, slice_get, slice_set}
use Rattle.std.proofs.Common.{IsTrue, nat_eq, eqb-true, eq-eqb, refl, sym, ap, subst, ◌∙◌, arith}
use Rattle.std.specs.Prelude.{◌↔◌}
use Rattle.std.proofs.lemmas.List.{get_or-set_same, get_or-set_other, length-set}
use Rattle.std.proofs.lemmas.Option.{slice_get_within, slice_get-get_or}
use Rattle.sc_values.specs.declared.operation.Operation.{Operation}
use Rattle.sc_values.specs.Access.{Init, Clash}
use Rattle.sc_values.specs.Code.{literal_of}
use Rattle.sc_values.proofs.Literals.{clash_turned}
use Rattle.sc_graph.specs.declared.links.Links.{Links}
use Rattle.sc_graph.specs.declared.program.Step.TheVariants as step
use Rattle.sc_graph.specs.Accesses.{accesses, access_of}
use Rattle.sc_graph.specs.Links.{Tells, only_at}
use Rattle.sc_graph.specs.Program.{Program, step_at, owner_of, parent_of}
use Rattle.sc_graph.specs.Structure.{ExactlyOne, ForksChild}
use Rattle.sc_graph.specs.Threads.{Below}
use Rattle.sc_graph.specs.Valid.{IsFormed}
use Rattle.sc_graph.proofs.Formed.{node_at, owner_at, parent_is_owner}
use Rattle.sc_graph.proofs.Linking.{fork_known}
use Rattle.sc_graph.proofs.Tree.{below_cases}
use Rattle.program_edges.specs.declared.agreement.Seen.{Seen}
use Rattle.program_edges.specs.declared.users.Use.{Use}
use Rattle.program_edges.specs.declared.users.Use.TheVariants as way
use Rattle.program_edges.specs.Users.{InitsAt}
use Rattle.program_edges.specs.Inside.Agreement.{IsWriter, IsQuiet, IsNoted, IsNotedAt, IsNotedAbove, Takes}
use Rattle.program_edges.specs.Inside.Agreement.{KeepsNotes, NotesAt, NotesChild, NotesAbove, NotesAll}
use Rattle.program_edges.specs.Inside.NoConflicts.{NoneConflict}
use Rattle.program_edges.proofs.Covered.{inits_third, updates_third}
use Rattle.program_edges.proofs.Within.{access_there}

-- an assignment writes its own variable alone
pub init_there : (p : Program) (n x y next : ℕ) (code : List Operation) → step_at p n ≡ Some (step.Assign y code next) → IsTrue (nat_eq y x) ↔ InitsAt p x n
init_there p n x y next code s =
    let e : access_of (step.Assign y code next) ≡ accesses p n = access_there p n (step.Assign y code next) (sym s) in
    let writes : (accesses p n).writes ≡ Init y (literal_of code) = ap (λ a. a.writes) (sym e) in (
      λ t. (literal_of code, writes ∙ ap (λ k. Init k (literal_of code)) (eqb-true y x t)),
      λ i. let other = i.1 in let same : y ≡ x = cc (other, writes) in eq-eqb y x same,
    )

third : (p : Program) (w : Use) (x k m n : ℕ) → IsWriter p w x k → IsWriter p w x m → IsWriter p w x n → Clash (accesses p k) (accesses p n)
    → Clash (accesses p k) (accesses p m) ⊎ Clash (accesses p m) (accesses p n)
third p way.Init x k m n a b c clash = inits_third p x k m n a b c clash
third p way.Update x k m n a b c clash = updates_third p x k m n a b c clash
third p way.Read x k m n a b c clash = absurd a

-- two nodes that are noted at one fork, below two of its children, do not clash
agree_both : (p : Program) (w : Use) (x : ℕ) (s : Seen) (l r m n : ℕ) → IsWriter p w x m → IsWriter p w x n → IsNoted p w x s l m → IsNoted p w x s r n → l ≢ r
    → ¬ Clash (accesses p m) (accesses p n)
agree_both p w x s l r m n wm wn a b differ clash = elim a.quiet [
  | inl together ↦ differ (sym (a.together together) ∙ b.together together)
  | inr alike ↦ elim (third p w x m s.first n wm a.writer wn clash) [
    | inl first ↦ a.alike alike (clash_turned (accesses p m) (accesses p s.first) first)
    | inr second ↦ b.alike alike second
  ]
]

pub none_conflict : (p : Program) (w : Use) (x : ℕ) (nodes : List ℕ) (seen : List Seen) → ((n : ℕ) → Contains nodes n → IsWriter p w x n) →
    ((n : ℕ) → Contains nodes n → IsNotedAbove p w x seen n) → NoneConflict p nodes
none_conflict p w x nodes seen writers noted m n cm cn conflict =
    let both = conflict.concurrent in
    let apart = both.concurrent.apart in
    let left : IsNotedAt p w x seen apart.fork apart.left m = noted m cm both.first apart.fork apart.left both.first_owner apart.t_below
    (record { children = apart.children; join = apart.join; forks = apart.is_fork.forks; child = apart.left_child }) in
    let right : IsNotedAt p w x seen apart.fork apart.right n = noted n cn both.second apart.fork apart.right both.second_owner apart.u_below
    (record { children = apart.children; join = apart.join; forks = apart.is_fork.forks; child = apart.right_child }) in
    let same : right.here ≡ left.here = let a = left.stands in let b = right.stands in cc (a, b) in
    let there : IsNoted p w x left.here apart.right n = subst (λ (s : Seen). IsNoted p w x s apart.right n) same right.noted in
    agree_both p w x left.here apart.left apart.right m n (writers m cm) (writers n cn) left.noted there apart.differ conflict.clash

-- the notes of one fork changed

set_here : (old : List Seen) (fork : ℕ) (new : Seen) → fork < length old → slice_get (slice_set old fork new) fork ≡ Some new
set_here old fork new lt =
    let long = length-set old fork new in
    slice_get-get_or (slice_set old fork new) fork new (omega (arith, lt, long)) ∙ ap Some (get_or-set_same old fork new new lt)

set_elsewhere : (old : List Seen) (fork other : ℕ) (new here : Seen) → other ≢ fork → slice_get old other ≡ Some here
    → slice_get (slice_set old fork new) other ≡ Some here
set_elsewhere old fork other new here ne there =
    let long = length-set old fork new in
    let lt : other < length old = slice_get_within old other here there in
    let stands : slice_get old other ≡ Some (get_or old other here) = slice_get-get_or old other here lt in
    let same : get_or old other here ≡ here = cc (there, stands) in
    slice_get-get_or (slice_set old fork new) other here (omega (arith, lt, long)) ∙ ap Some (get_or-set_other old fork other new here ne ∙ same)

same_or_not : (a b : ℕ) → (a ≡ b) ⊎ (a ≢ b)
same_or_not a b = grind arith

pub noted_at : (p : Program) (w : Use) (x : ℕ) (old : List Seen) (was new : Seen) (fork c n : ℕ) → fork < length old → was ≡ get_or old fork was
    → Takes p w x was new c n → IsQuiet new → NotesAt p w x old (slice_set old fork new) fork c n
noted_at p w x old was new fork c n lt is takes quiet = record {
  keeps = record {
    kept = λ other b m at. elim (same_or_not other fork) [
      | inl same ↦
          (let stands : slice_get old fork ≡ Some (get_or old fork was) = slice_get-get_or old fork was lt in
          let there : slice_get old fork ≡ Some at.here = subst (λ (k : ℕ). slice_get old k ≡ Some at.here) same at.stands in
          let here : at.here ≡ was = cc (there, stands, is) in
          let noted : IsNoted p w x was b m = subst (λ (s : Seen). IsNoted p w x s b m) here at.noted in
          record {
            here = new;
            stands = ap (slice_get (slice_set old fork new)) same ∙ set_here old fork new lt;
            noted = takes.keeps b m noted quiet;
          })
      | inr ne ↦ record { here = at.here; stands = set_elsewhere old fork other new at.here ne at.stands; noted = at.noted }
    ];
  };
  gains = record { here = new; stands = set_here old fork new lt; noted = takes.gains quiet };
}

pub child_noted : (p : Program) (l : Links) (w : Use) (x : ℕ) (old new : List Seen) (fork c n : ℕ) → Tells p l → c < length p.threads
    → only_at l.forks c ≡ Some fork → NotesAt p w x old new fork c n → NotesChild p w x old new c n
child_noted p l w x old new fork c n told lt found at = record {
  keeps = at.keeps;
  gains = λ other forks.
      let once : ExactlyOne (ForksChild p c) = (told.forks c lt).once.0 cc in
      let mine : fork ≡ once.one = once.alone fork (fork_known p l c fork told lt found) in
      let same : fork ≡ other = mine ∙ sym (once.alone other forks) in
      subst (λ (k : ℕ). IsNotedAt p w x new k c n) same at.gains;
}

-- upwards from a thread

pub keeps_all : (p : Program) (w : Use) (x : ℕ) (seen : List Seen) → KeepsNotes p w x seen seen
keeps_all p w x seen = record { kept = λ fork c n at. at }

-- node n is noted at each fork between a thread and one above it
pub record GoneUp (p : Program) (w : Use) (x : ℕ) (old new : List Seen) (t below n : ℕ) : Type 0 where
  pub keeps : KeepsNotes p w x old new
  pub gone : (fork c : ℕ) → Below p t c → ForksChild p c fork → Below p below c ⊎ IsNotedAt p w x new fork c n

pub gone_none : (p : Program) (w : Use) (x : ℕ) (seen : List Seen) (t n : ℕ) → GoneUp p w x seen seen t t n
gone_none p w x seen t n = record { keeps = keeps_all p w x seen; gone = λ fork c below forks. inl below }

pub gone_more : (p : Program) (w : Use) (x : ℕ) (old mid new : List Seen) (t below q n : ℕ) → parent_of p below ≡ Some q → GoneUp p w x old mid t below n
    → NotesChild p w x mid new below n → GoneUp p w x old new t q n
gone_more p w x old mid new t below q n up before noted = record {
  keeps = record { kept = λ fork c m at. noted.keeps.kept fork c m (before.keeps.kept fork c m at) };
  gone = λ fork c above forks. elim (before.gone fork c above forks) [
    | inr at ↦ inr (noted.keeps.kept fork c n at)
    | inl still ↦ elim (below_cases p below c still) [
      | inl here ↦
          (let mine : ForksChild p below fork = subst (λ (k : ℕ). ForksChild p k fork) (sym here) forks in
          inr (subst (λ (k : ℕ). IsNotedAt p w x new fork k n) here (noted.gains fork mine)))
      | inr w' ↦ (let same : w'.0 ≡ q = cc (w'.1, up) in inl (subst (λ (k : ℕ). Below p k c) same w'.2))
    ]
  ];
}

-- no fork has the root for a child
unforked : (p : Program) → IsFormed p → (c fork : ℕ) → parent_of p c ≡ None → ForksChild p c fork → ⊥
unforked p formed c fork top f =
    let at = node_at p fork (step.Fork f.children f.join) f.forks in
    let owned : owner_of p fork ≡ Some at.node.owner = owner_at p fork at.node at.there in
    let up : parent_of p c ≡ Some at.node.owner = parent_is_owner p formed fork at.node.owner f.join c f.children
    (record { owned = owned; forks = f.forks }) f.child in
    cc (up, top)

pub gone_all : (p : Program) (w : Use) (x : ℕ) (old new : List Seen) (t below n : ℕ) → IsFormed p → parent_of p below ≡ None → GoneUp p w x old new t below n
    → NotesAbove p w x old new t n
gone_all p w x old new t below n formed top before = record {
  keeps = before.keeps;
  gains = λ fork c above forks. elim (before.gone fork c above forks) [
    | inr at ↦ at
    | inl still ↦ elim (below_cases p below c still) [
      | inl here ↦ absurd (unforked p formed c fork (subst (λ (k : ℕ). parent_of p k ≡ None) here top) forks)
      | inr w' ↦ absurd (cc (w'.1, top))
    ]
  ];
}

pub all_noted : (p : Program) (w : Use) (x : ℕ) (old new : List Seen) (t n : ℕ) → owner_of p n ≡ Some t → NotesAbove p w x old new t n
    → NotesAll p w x old new n
all_noted p w x old new t n owner above = record {
  keeps = above.keeps;
  gains = λ u fork c own below forks.
      let same : u ≡ t = cc (own, owner) in
      above.gains fork c (subst (λ (k : ℕ). Below p k c) same below) forks;
}

pub none_noted : (p : Program) (w : Use) (x : ℕ) (seen : List Seen) (n : ℕ) → owner_of p n ≡ None → NotesAll p w x seen seen n
none_noted p w x seen n owner = record {
  keeps = keeps_all p w x seen;
  gains = λ u fork c own below forks. absurd (cc (own, owner));
}

-- what is kept of the nodes before
pub noted_still : (p : Program) (w : Use) (x : ℕ) (old new : List Seen) (m : ℕ) → KeepsNotes p w x old new → IsNotedAbove p w x old m → IsNotedAbove p w x new m
noted_still p w x old new m keeps above = λ t fork c own below forks. keeps.kept fork c m (above t fork c own below forks)

-- what is seen with one node more

pub not_both : (b : Bool) → IsTrue (not b) → IsTrue b → ⊥
not_both true n y = cc n
not_both false n y = cc y

pub is_so : (b : Bool) → not b ≡ false → IsTrue b
is_so true e = refl
is_so false e = absurd (let f : true ≡ false = e in cc)
