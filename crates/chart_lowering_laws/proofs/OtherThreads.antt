-- A step of a thread leaves others at what they are at, but for those that it forks or joins.
use Rattle.std.proofs.Common.{◌≡◌, ◌≢◌, ℕ, Bool, true, false, Option, Some, None, List, [], ◌∷◌, set, slice_get, option_map, option_and_then, Contains, refl}
use Rattle.std.proofs.Common.{sym, ap, subst, ◌∙◌}
use Rattle.std.proofs.lemmas.Option.{none-some, same_Some}
use Rattle.sc_values.specs.declared.value.Value.{Value}
use Rattle.sc_values.specs.declared.value.Value.TheVariants as value
use Rattle.sc_values.specs.Operator.{kind_of}
use Rattle.sc_values.specs.Expr.{value as value_of}
use Rattle.sc_graph.specs.Steps.{Change, Keep, Put, only_if, takes_kind}
use Rattle.scl.specs.Block.{Block, End, Assign, Label, Goto, Pause, If, Fork, Branches, NoMore, Branch}
use Rattle.scl.specs.Labels.{before, settled}
use Rattle.scl.specs.Places.{threads_of}
use Rattle.scl.specs.Numbering.{Numbered}
use Rattle.scl.specs.Meaning.{State, Doing, Away, Todo, Forked, Resting, Resuming, Finished, ThreadChange, doing, step, all_finished, joined, forked, entered}
use Rattle.scl.specs.Meaning.{all_entered, goes_on, assigned, chosen, after, change_of, moved}
use Rattle.tick_laws.proofs.Lists.{contains_head, contains_tail}
use Rattle.chart_lowering_laws.proofs.Stepping.{set_doing_other}
use Rattle.chart_lowering_laws.proofs.Silently.{doing_in}
use Rattle.chart_lowering_laws.proofs.Joining.{not_gone}
use Rattle.chart_lowering_laws.proofs.ByThreads.{map_some}

abbrev pub is_forked : Doing → Bool
is_forked (Forked n branches rest) = true
is_forked other = false

-- the thread alone
pub record OneMove (e : ThreadChange) (t : ℕ) : Type 0 where
  d : Doing
  is : e.moves ≡ (t, d) ∷ []

one_onward : (root : Block) (t : ℕ) (change : Change) (rest : Block) (e : ThreadChange) → goes_on root t change rest ≡ Some e → OneMove e t
one_onward root t change rest e h = by (settled root rest) h
  where
    by : (o : Option Block) → option_map (λ todo. record { change = change; moves = (t, Todo todo) ∷ [] }) o ≡ Some e → OneMove e t
    by None h = absurd (none-some e h)
    by (Some todo) h = record {
      d = Todo todo;
      is = sym (ap (λ (x : ThreadChange). x.moves)
          (same_Some (record { change = change; moves = (t, Todo todo) ∷ [] }) e h));
    }

one_assigned : (p : Numbered) (t x : ℕ) (rest : Block) (o : Option Value) (e : ThreadChange) → option_and_then (assigned p t x rest) o ≡ Some e → OneMove e t
one_assigned p t x rest None e h = absurd (none-some e h)
one_assigned p t x rest (Some v) e h = by (takes_kind (option_map (λ a. a.kind) (slice_get p.variables x)) (kind_of v)) h
  where
    by : (b : Bool) → only_if b (goes_on p.root t (Put x v) rest) ≡ Some e → OneMove e t
    by true h = one_onward p.root t (Put x v) rest e h
    by false h = absurd (none-some e h)

one_chosen : (p : Numbered) (t : ℕ) (a b : Block) (o : Option Value) (e : ThreadChange) → option_and_then (chosen p t a b) o ≡ Some e → OneMove e t
one_chosen p t a b None e h = absurd (none-some e h)
one_chosen p t a b (Some (value.Bool true)) e h = one_onward p.root t Keep a e h
one_chosen p t a b (Some (value.Bool false)) e h = one_onward p.root t Keep b e h
one_chosen p t a b (Some (value.Int n)) e h = absurd (none-some e h)

-- the branches of a fork, and nobody else
entered_others : (root : Block) (branches : Branches) (moves : List (ℕ × Doing)) → all_entered root branches ≡ Some moves → (threads : List Doing) (a : ℕ) →
    ¬ Contains (threads_of branches) a → doing_in (moved moves threads) a ≡ doing_in threads a
entered_others root NoMore moves h threads a none = ap (λ ms. doing_in (moved ms threads) a) (sym (same_Some [] moves h))
entered_others root (Branch t body more) moves h threads a none = by (settled root body) (all_entered root more) refl h
    (λ ms is xs. entered_others root more ms is xs a (λ i. none (contains_tail t a (threads_of more) i)))
  where
    by : (o : Option Block) (r : Option (List (ℕ × Doing))) → all_entered root more ≡ r → entered t o r ≡ Some moves →
        ((ms : List (ℕ × Doing)) → all_entered root more ≡ Some ms → (xs : List Doing) → doing_in (moved ms xs) a ≡ doing_in xs a) →
        doing_in (moved moves threads) a ≡ doing_in threads a
    by None r is h further = absurd (none-some moves h)
    by (Some todo) None is h further = absurd (none-some moves h)
    by (Some todo) (Some ms) is h further =
        ap (λ m. doing_in (moved m threads) a) (sym (same_Some ((t, Todo todo) ∷ ms) moves h))
        ∙ further ms is (set threads t (Todo todo))
        ∙ set_doing_other threads t a (Todo todo) (λ same. none (subst (Contains (t ∷ threads_of more)) same (contains_head t (threads_of more))))

module _ (p : Numbered) (s : State) (t : ℕ) (f : State) (steps : step p t s ≡ Some f) (a : ℕ) (differ : a ≢ t)
    (not_entered : (n : ℕ) (branches : Branches) (rest : Block) → doing s t ≡ Todo (Fork n branches rest) → ¬ Contains (threads_of branches) a)
    (not_joined : (n : ℕ) (branches : Branches) (rest : Block) → doing s t ≡ Forked n branches rest → all_finished s (threads_of branches) ≡ true →
    ¬ Contains (threads_of branches) a) where
  by_one : (e : ThreadChange) → OneMove e t → doing (after e s) a ≡ doing s a
  by_one e one = ap (λ ms. doing_in (moved ms s.threads) a) one.is ∙ set_doing_other s.threads t a one.d (λ same. differ (sym same))

  change_other : (y : Doing) → doing s t ≡ y → (e : ThreadChange) → change_of p s t y ≡ Some e → doing (after e s) a ≡ doing s a
  change_other Away is e h = absurd (none-some e h)
  change_other Finished is e h = absurd (none-some e h)
  change_other (Resting n rest) is e h = absurd (none-some e h)
  change_other (Resuming n rest) is e h = by_one e (one_onward p.root t Keep rest e h)
  change_other (Todo (End n)) is e h =
      by_one e (record { d = Finished; is = sym (ap (λ (x : ThreadChange). x.moves) (same_Some (record { change = Keep; moves = (t, Finished) ∷ [] }) e h)) })
  change_other (Todo (Assign n x v rest)) is e h = by_one e (one_assigned p t x rest (value_of v s.variables) e h)
  change_other (Todo (Label name rest)) is e h = absurd (none-some e h)
  change_other (Todo (Goto g name rest)) is e h = absurd (none-some e h)
  change_other (Todo (Pause n rest)) is e h =
      by_one e (record {
        d = Resting n rest;
        is = sym (ap (λ (x : ThreadChange). x.moves) (same_Some (record { change = Keep; moves = (t, Resting n rest) ∷ [] }) e h));
      })
  change_other (Todo (If n v x y rest)) is e h = by_one e (one_chosen p t (before x rest) (before y rest) (value_of v s.variables) e h)
  change_other (Todo (Fork n branches rest)) is e h = by (all_entered p.root branches) refl h
    where
      by : (o : Option (List (ℕ × Doing))) → all_entered p.root branches ≡ o → option_map (forked t (Forked n branches rest)) o ≡ Some e →
          doing (after e s) a ≡ doing s a
      by None all h = absurd (none-some e h)
      by (Some moves) all h =
          ap (λ x. doing (after x s) a) (sym (same_Some (forked t (Forked n branches rest) moves) e h))
          ∙ entered_others p.root branches moves all (set s.threads t (Forked n branches rest)) a (not_entered n branches rest is)
          ∙ set_doing_other s.threads t a (Forked n branches rest) (λ same. differ (sym same))
  change_other (Forked n branches rest) is e h = by (all_finished s (threads_of branches)) refl h
    where
      by_todo : all_finished s (threads_of branches) ≡ true → (o : Option Block) → option_map (joined t (threads_of branches)) o ≡ Some e →
          doing (after e s) a ≡ doing s a
      by_todo finished None h = absurd (none-some e h)
      by_todo finished (Some todo) h =
          ap (λ x. doing (after x s) a) (sym (same_Some (joined t (threads_of branches) todo) e h))
          ∙ not_gone (threads_of branches) (set s.threads t (Todo todo)) a (not_joined n branches rest is finished)
          ∙ set_doing_other s.threads t a (Todo todo) (λ same. differ (sym same))

      by : (b : Bool) → all_finished s (threads_of branches) ≡ b → only_if b (option_map (joined t (threads_of branches)) (settled p.root rest)) ≡ Some e →
          doing (after e s) a ≡ doing s a
      by true finished h = by_todo finished (settled p.root rest) h
      by false finished h = absurd (none-some e h)

  -- a thread that is neither entered nor joined is left as it is
  pub left_alone : doing f a ≡ doing s a
  left_alone =
      let some : (e : ThreadChange) × (change_of p s t (doing s t) ≡ Some e) = map_some (λ e. after e s) (change_of p s t (doing s t)) f steps in
      let is : after some.0 s ≡ f = same_Some (after some.0 s) f (sym (ap (option_map (λ e. after e s)) some.1) ∙ steps) in
      ap (λ x. doing x a) (sym is) ∙ change_other (doing s t) refl some.0 some.1
