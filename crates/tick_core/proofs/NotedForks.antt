-- The forks that are noted in one pass are those of the joins.
use Rattle.std.proofs.Common.{◌≡◌, ◌≢◌, ℕ, ◌+◌, ◌<◌, ◌≤◌, ◌⊎◌, Bool, true, false, nat_eq, List, [], ◌∷◌, ◌++◌, length, length-set, take, set, Option, Some}
use Rattle.std.proofs.Common.{None, option_map, option_and_then, slice_get, refl, sym, ap, subst, ◌∙◌, inl, inr, arith}
use Rattle.std.specs.Prelude.{replicate, IsSome, is_some, if◌then◌else◌}
use Rattle.std.proofs.lemmas.List.{take_more, take_all, length-replicate, get_or-replicate}
use Rattle.std.proofs.lemmas.Bool.{cases_lt, eqb-true, eq-eqb}
use Rattle.std.proofs.lemmas.Option.{slice_get_within, slice_get_past, slice_get-get_or, get_or_from_slice_get}
use Rattle.sc_graph.specs.declared.program.Node.{Node}
use Rattle.sc_graph.specs.declared.program.Step.{Step}
use Rattle.sc_graph.specs.declared.program.Step.TheVariants as step
use Rattle.sc_graph.specs.declared.tables.Tables.{Tables}
use Rattle.sc_graph.specs.Program.{Program, step_at, owner_of}
use Rattle.sc_graph.specs.Control.{joined_by, first_of, joined_among, joined_at}
use Rattle.sc_graph.specs.Valid.{IsValid}
use Rattle.tick_laws.proofs.Formed.{valid_formed, join_of, fork_join_owned}
use Rattle.tick_laws.proofs.Lists.{same_or_not, get_set_same, get_set_other, map_some, slice_get_there}
use Rattle.tick_core.specs.Space.Joins.{noted_children, FindsForks, FindsBelow, noted_at, noted_step}

first_none : (o : Option (List ℕ)) → first_of o None ≡ o
first_none None = refl
first_none (Some children) = refl

-- the last node is the last one that is searched
joined_last : (j : ℕ) (nodes : List Node) (x : Node) → joined_among j (nodes ++ x ∷ []) ≡ first_of (joined_among j nodes) (joined_by j x.step)
joined_last j [] x = first_none (joined_by j x.step)
joined_last j (y ∷ nodes) x = ap (first_of (joined_by j y.step)) (joined_last j nodes x) ∙ again (joined_by j y.step) (joined_among j nodes)
    (joined_by j x.step)
  where
    again : (a b c : Option (List ℕ)) → first_of a (first_of b c) ≡ first_of (first_of a b) c
    again None b c = refl
    again (Some children) b c = refl

by_other : (j join : ℕ) (children : List ℕ) → j ≢ join → joined_by j (step.Fork children join) ≡ None
by_other j join children other = go (nat_eq join j) refl
  where
    go : (b : Bool) → nat_eq join j ≡ b → joined_by j (step.Fork children join) ≡ None
    go true is = absurd (other (sym (eqb-true join j is)))
    go false is = ap (λ b. if b then Some children else None) is

by_own : (join : ℕ) (children : List ℕ) → joined_by join (step.Fork children join) ≡ Some children
by_own join children = ap (λ b. if b then Some children else None) (eq-eqb join join refl)

-- before the first node nothing is noted
pub noted_none : (p : Program) (forks : List (Option ℕ)) → forks ≡ replicate (length p.nodes) None → FindsBelow p forks 0
noted_none p forks is =
    record {
      long = ap length is ∙ length-replicate (length p.nodes) None;
      each = λ j below. ap (noted_children p j) (none_at j below);
      forking = λ j m found. absurd (other j m found);
    }
  where
    none_at : (j : ℕ) → j < length p.nodes → slice_get forks j ≡ Some None
    none_at j below =
        ap (λ xs. slice_get xs j) is
        ∙ (slice_get-get_or (replicate (length p.nodes) None) j None (omega (arith, length-replicate {A = Option ℕ} (length p.nodes) None))
        ∙ ap Some (get_or-replicate (length p.nodes) j None None below))

    other : (j m : ℕ) → slice_get forks j ≡ Some (Some m) → ⊥
    other j m found =
        let none = none_at j (omega (arith, slice_get_within forks j (Some m) found, ap length is, length-replicate {A = Option ℕ} (length p.nodes) None)) in
        cc

module _ (p : Program) (forks : List (Option ℕ)) (n : ℕ) (h : FindsBelow p forks n) where
  -- a node that is no fork changes nothing
  no_fork : (s : Step) → ((j : ℕ) → joined_by j s ≡ None) → (x : Node) → x.step ≡ s → take (n + 1) p.nodes ≡ take n p.nodes ++ x ∷ []
      → FindsBelow p forks (n + 1)
  no_fork s none x is more =
      record {
        long = h.long;
        each = λ j below. h.each j below
            ∙ sym (ap (joined_among j) more
            ∙ (joined_last j (take n p.nodes) x ∙ (ap (first_of (joined_among j (take n p.nodes))) (ap (joined_by j) is ∙ none j) ∙ first_none _)));
        forking = h.forking;
      }

  module _ (children : List ℕ) (join : ℕ) (x : Node) (is : x.step ≡ step.Fork children join) (there : slice_get p.nodes n ≡ Some x)
      (more : take (n + 1) p.nodes ≡ take n p.nodes ++ x ∷ []) where
    after : (j : ℕ) → joined_among j (take (n + 1) p.nodes) ≡ first_of (joined_among j (take n p.nodes)) (joined_by j (step.Fork children join))
    after j = ap (joined_among j) more ∙ (joined_last j (take n p.nodes) x ∙ ap (λ s. first_of (joined_among j (take n p.nodes)) (joined_by j s)) is)

    here : step_at p n ≡ Some (step.Fork children join)
    here = ap (option_map (λ (y : Node). y.step)) there ∙ ap Some is

    own_children : noted_children p join (Some (Some n)) ≡ Some children
    own_children = ap (option_and_then (joined_by join)) here ∙ by_own join children

    others : (j : ℕ) → j < length p.nodes → j ≢ join → noted_children p j (slice_get forks j) ≡ joined_among j (take (n + 1) p.nodes)
    others j below other =
        h.each j below ∙ sym (after j ∙ (ap (first_of (joined_among j (take n p.nodes))) (by_other j join children other) ∙ first_none _))

    first_some : (a b : Option (List ℕ)) → IsSome a → first_of a b ≡ a
    first_some None b some = absurd cc
    first_some (Some ks) b some = refl

    fork_noted : (o : Option (Option ℕ)) → slice_get forks join ≡ o → FindsBelow p (noted_at forks join n o) (n + 1)
    fork_noted None at =
        record {
          long = h.long;
          each = λ j below. others j below (λ same. absurd (past j below same));
          forking = h.forking;
        }
      where
        past : (j : ℕ) → j < length p.nodes → j ≡ join → ⊥
        past j below same =
            let found = slice_get_there forks join (omega (arith, h.long)) in
            let never : None ≡ Some found.0 = sym at ∙ found.1 in
            cc
    fork_noted (Some (Some m)) at =
        record {
          long = h.long;
          each = λ j below. each j below (same_or_not j join);
          forking = h.forking;
        }
      where
        each : (j : ℕ) → j < length p.nodes → (j ≡ join) ⊎ (j ≢ join) → noted_children p j (slice_get forks j) ≡ joined_among j (take (n + 1) p.nodes)
        each j below (inr other) = others j below other
        each j below (inl same) =
            let some : IsSome (joined_among join (take n p.nodes)) =
            subst IsSome (sym (ap (noted_children p join) at) ∙ h.each join (omega arith)) (h.forking join m at) in
            subst (λ j. noted_children p j (slice_get forks j) ≡ joined_among j (take (n + 1) p.nodes)) (sym same)
            (h.each join (omega arith) ∙ sym (after join ∙ first_some _ _ some))
    fork_noted (Some None) at =
        record {
          long = length-set forks join (Some n) ∙ h.long;
          each = λ j below. each j below (same_or_not j join);
          forking = λ j m found. forking j m found (same_or_not j join);
        }
      where
        join_below : join < length forks
        join_below = slice_get_within forks join None at

        now : slice_get (set forks join (Some n)) join ≡ Some (Some n)
        now = get_set_same forks join (Some n) join_below

        each : (j : ℕ) → j < length p.nodes → (j ≡ join) ⊎ (j ≢ join) → noted_children p j (slice_get (set forks join (Some n)) j)
            ≡ joined_among j (take (n + 1) p.nodes)
        each j below (inr other) = ap (noted_children p j) (get_set_other forks join j (Some n) other) ∙ others j below other
        each j below (inl same) =
            let none : joined_among join (take n p.nodes) ≡ None = sym (h.each join (omega (arith, join_below, h.long))) ∙ ap (noted_children p join) at in
            subst (λ j. noted_children p j (slice_get (set forks join (Some n)) j) ≡ joined_among j (take (n + 1) p.nodes)) (sym same)
            (ap (noted_children p join) now
            ∙ (own_children ∙ sym (after join ∙ (ap (λ o. first_of o (joined_by join (step.Fork children join))) none ∙ by_own join children))))

        forking : (j m : ℕ) → slice_get (set forks join (Some n)) j ≡ Some (Some m) → (j ≡ join) ⊎ (j ≢ join) → IsSome (noted_children p j (Some (Some m)))
        forking j m found (inr other) = h.forking j m (sym (get_set_other forks join j (Some n) other) ∙ found)
        forking j m found (inl same) =
            let at_join : slice_get (set forks join (Some n)) join ≡ Some (Some m) = sym (ap (slice_get (set forks join (Some n))) same) ∙ found in
            let now_at_join : slice_get (set forks join (Some n)) join ≡ Some (Some n) = now in
            let e : n ≡ m = cc in
            subst (λ j. IsSome (noted_children p j (Some (Some m)))) (sym same)
            (subst (λ m. IsSome (noted_children p join (Some (Some m)))) e (ap is_some own_children))

-- one more node
pub noted_more : (p : Program) (forks : List (Option ℕ)) (n : ℕ) → n < length p.nodes → FindsBelow p forks n
    → FindsBelow p (noted_step forks n (step_at p n)) (n + 1)
noted_more p forks n below h =
    let found = slice_get_there p.nodes n below in
    let more : take (n + 1) p.nodes ≡ take n p.nodes ++ found.0 ∷ [] = take_more p.nodes n found.0 below
    ∙ ap (λ x. take n p.nodes ++ x ∷ []) (get_or_from_slice_get p.nodes n found.0 found.0 found.1) in
    subst (λ o. FindsBelow p (noted_step forks n o) (n + 1)) (sym (ap (option_map (λ (y : Node). y.step)) found.1))
    (by_step found.0 found.1 more found.0.step refl)
  where
    by_step : (x : Node) → slice_get p.nodes n ≡ Some x → take (n + 1) p.nodes ≡ take n p.nodes ++ x ∷ [] → (s : Step) → x.step ≡ s
        → FindsBelow p (noted_step forks n (Some s)) (n + 1)
    by_step x there more (step.Fork children join) is = fork_noted p forks n h children join x is there more (slice_get forks join) refl
    by_step x there more (step.Assign y code next) is = no_fork p forks n h (step.Assign y code next) (λ j. refl) x is more
    by_step x there more (step.Update y f code next) is = no_fork p forks n h (step.Update y f code next) (λ j. refl) x is more
    by_step x there more (step.Cond code on_true on_false) is = no_fork p forks n h (step.Cond code on_true on_false) (λ j. refl) x is more
    by_step x there more (step.Join next) is = no_fork p forks n h (step.Join next) (λ j. refl) x is more
    by_step x there more (step.Surf depth) is = no_fork p forks n h (step.Surf depth) (λ j. refl) x is more
    by_step x there more (step.Depth next) is = no_fork p forks n h (step.Depth next) (λ j. refl) x is more
    by_step x there more step.Exit is = no_fork p forks n h step.Exit (λ j. refl) x is more

-- after the last node every join has its fork
pub noted_all : (p : Program) (q : Tables) (forks : List (Option ℕ)) (n : ℕ) → IsValid p q → length p.nodes ≤ n → FindsBelow p forks n → FindsForks p forks
noted_all p q forks n valid all h = record { each = λ j. each j (cases_lt j (length p.nodes)) }
  where
    none_past : (j : ℕ) → length p.nodes ≤ j → (o : Option (List ℕ)) → joined_at p j ≡ o → None ≡ o
    none_past j past None is = refl
    none_past j past (Some children) is =
        let of = join_of p j children is in
        let owned : owner_of p j ≡ Some of.thread = fork_join_owned p (valid_formed p q valid) of.fork of.thread children j of.is in
        let node = map_some (λ (x : Node). x.owner) (slice_get p.nodes j) of.thread owned in
        absurd (omega (arith, slice_get_within p.nodes j node.0 node.1))

    each : (j : ℕ) → (j < length p.nodes) ⊎ (length p.nodes ≤ j) → noted_children p j (slice_get forks j) ≡ joined_at p j
    each j (inl below) = h.each j below ∙ ap (joined_among j) (take_all n p.nodes all)
    each j (inr past) =
        ap (noted_children p j) (slice_get_past forks j (omega (arith, h.long))) ∙ none_past j past (joined_at p j) refl
