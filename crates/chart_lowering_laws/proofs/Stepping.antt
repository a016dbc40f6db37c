-- After a step of a region in no superstate the configurations correspond again.
use Rattle.std.proofs.Common.{◌≡◌, ◌≢◌, ℕ, zero, suc, ◌<◌, inl, inr, Bool, true, false, if◌then◌else◌, List, [], ◌∷◌, set, length, slice_get, unwrap_or, refl}
use Rattle.std.proofs.Common.{sym, ap, ◌∙◌, arith}
use Rattle.sc_values.specs.declared.value.Value.{Value}
use Rattle.chart_machine.specs.declared.standing.Standing.{Standing}
use Rattle.chart_machine.specs.declared.standing.Standing.TheVariants as stand
use Rattle.chart_machine.specs.declared.standing.Move.{Move}
use Rattle.chart_machine.specs.declared.standing.Configuration.{Configuration}
use Rattle.chart_machine.specs.declared.table.Table.{Table}
use Rattle.chart_machine.specs.Table.{region_at}
use Rattle.chart_machine.specs.Turns.{standing_of}
use Rattle.chart_machine.specs.Steps.{moved}
use Rattle.scl.specs.Numbering.{Numbered}
use Rattle.scl.specs.Meaning.{State, Doing, Away, doing}
use Rattle.chart_lowering_laws.specs.Layout.{Layout, IsRegionOf, IsNumberOf, Lowers}
use Rattle.chart_lowering_laws.specs.Corresponds.{HeldBy, Turn, given, fresh, Corresponds}
use Rattle.chart_lowering_laws.proofs.Entering.{standing_in, only, moved_at, moved_length, opened_contains}
use Rattle.chart_lowering_laws.proofs.Matching.{Comes, opened_by, is_within}
use Rattle.chart_lowering_laws.proofs.Structure.{Inside, inside_less, closed_below}
use Rattle.chart_lowering_laws.proofs.Updating.{Elsewhere, After, corresponds_again}

-- ---- what threads are at after one of them moved

pub set_doing_same : (threads : List Doing) (r : ℕ) (d : Doing) → r < length threads → unwrap_or (slice_get (set threads r d) r) Away ≡ d
set_doing_same [] r d lt = absurd (omega (arith, lt))
set_doing_same (x ∷ threads) zero d lt = refl
set_doing_same (x ∷ threads) (suc r) d lt = set_doing_same threads r d (omega (arith, lt))

pub set_doing_other : (threads : List Doing) (i q : ℕ) (d : Doing) → i ≢ q → unwrap_or (slice_get (set threads i d) q) Away ≡ unwrap_or
    (slice_get threads q) Away
set_doing_other [] i q d differ = refl
set_doing_other (x ∷ threads) zero zero d differ = absurd (differ refl)
set_doing_other (x ∷ threads) zero (suc q) d differ = refl
set_doing_other (x ∷ threads) (suc i) zero d differ = refl
set_doing_other (x ∷ threads) (suc i) (suc q) d differ = set_doing_other threads i q d (λ same. differ (ap suc same))

pub set_doing_length : (threads : List Doing) (i : ℕ) (d : Doing) → length (set threads i d) ≡ length threads
set_doing_length [] i d = refl
set_doing_length (x ∷ threads) zero d = refl
set_doing_length (x ∷ threads) (suc i) d = ap suc (set_doing_length threads i d)

-- one thread is at something else, and the others are as they were
pub record OneMoved (s f : State) (r : ℕ) (d : Doing) : Type 0 where
  pub threads : length f.threads ≡ length s.threads
  pub is_at : doing f r ≡ d
  pub others : (q : ℕ) → q ≢ r → doing f q ≡ doing s q

pub one_moved : (s : State) (variables : List Value) (r : ℕ) (d : Doing) → r < length s.threads →
    OneMoved s (record { variables = variables; threads = set s.threads r d }) r d
one_moved s variables r d lt = record {
  threads = set_doing_length s.threads r d;
  is_at = set_doing_same s.threads r d lt;
  others = λ q differ. set_doing_other s.threads r q d (λ same. differ (sym same));
}

pub none_moved : (s : State) (r : ℕ) → OneMoved s s r (doing s r)
none_moved s r = record { threads = refl; is_at = refl; others = λ q differ. refl }

module _ (k : Table) (p : Numbered) (l : Layout) (low : Lowers k p l) (c : Configuration) (s : State) (corr : Corresponds k p l c s) where
  pub opened_inside : (r q : ℕ) (x : Standing) → HeldBy k p.root l r x → opened_by k l x q ≡ true → Inside k r q
  opened_inside r q stand.Outside held h = absurd (cc)
  opened_inside r q stand.Ended held h = absurd (cc)
  opened_inside r q (stand.Trying u tests) held h = absurd (cc)
  opened_inside r q (stand.Entering u tests) held h = absurd (cc)
  opened_inside r q (stand.Guarding u tests) held h = absurd (cc)
  opened_inside r q (stand.Acting u effects target) held h = absurd (cc)
  opened_inside r q (stand.Within u tests) held h = record { state = u; around = opened_contains k l u (region_at k q).around h; holder = held.0.holder }

  pub unwrapped : (b : Bool) (x y : Standing) → unwrap_or (only b x) y ≡ (if b then x else y)
  unwrapped true x y = refl
  unwrapped false x y = refl

  pub number_within : (q : ℕ) → IsNumberOf k q → q < length c.regions
  number_within q (inl is) = let same : length c.regions ≡ suc (length k.regions) = corr.regions in omega (arith, is, same)
  number_within q (inr there) = let less : q < suc (length k.regions) = there.1 in let same : length c.regions ≡ suc (length k.regions) = corr.regions in
      omega (arith, less, same)

  pub thread_within : (q : ℕ) → IsNumberOf k q → q < length s.threads
  thread_within q (inl is) = let same : length s.threads ≡ suc (length k.regions) = corr.threads in omega (arith, is, same)
  thread_within q (inr there) = let less : q < suc (length k.regions) = there.1 in let same : length s.threads ≡ suc (length k.regions) = corr.threads in
      omega (arith, less, same)

  pub stepped : (r : ℕ) → IsRegionOf k r → given k c s (region_at k r).around ≡ Turn → is_within (standing_of c r) ≡ false →
      (variables : List Value) (moves : List Move) (d : Doing) → Comes k p.root l r moves d →
      (f : State) → OneMoved s f r d → variables ≡ f.variables → After k p l c r (record { variables = variables; regions = moved moves c.regions }) f
  stepped r at_r turn closed variables moves d comes f one same = (again, left)
    where
      not_there : (q : ℕ) → ¬ Inside k r q → (b : Bool) → opened_by k l comes.standing q ≡ b → opened_by k l comes.standing q ≡ false
      not_there q outer true is = absurd (outer (opened_inside r q comes.standing comes.held is))
      not_there q outer false is = is

      left : Elsewhere k c (record { variables = variables; regions = moved moves c.regions }) r
      left q there differ outer =
          moved_at moves c.regions q (number_within q there)
          ∙ ap (λ o. unwrap_or o (standing_in c.regions q)) (comes.inner q there differ)
          ∙ unwrapped (opened_by k l comes.standing q) (fresh k l q) (standing_in c.regions q)
          ∙ ap (λ b. if b then fresh k l q else standing_in c.regions q) (not_there q outer (opened_by k l comes.standing q) refl)

      again : Corresponds k p l (record { variables = variables; regions = moved moves c.regions }) f
      again =
          corresponds_again k p l low c (record { variables = variables; regions = moved moves c.regions }) s f r at_r corr turn (record {
            variables = same;
            regions = moved_length moves c.regions;
            threads = one.threads;
            standing = comes.standing;
            does = d;
            stands = moved_at moves c.regions r (number_within r (inr at_r)) ∙ ap (λ o. unwrap_or o (standing_in c.regions r)) comes.puts;
            is_at = one.is_at;
            live = comes.live;
            held = comes.held;
            ready = comes.ready;
            elsewhere = λ q there differ outer. (left q there differ outer, one.others q differ);
            below = λ q there inner.
                let differ : q ≢ r = λ is. let more : r < q = inside_less k p l low r q there inner in absurd (omega (arith, more, is)) in
                let before : (standing_of c q ≡ stand.Outside) × (doing s q ≡ Away) = closed_below k p l low c s corr r closed (suc q) q
                (omega arith) there inner in (
                  moved_at moves c.regions q (number_within q (inr there))
                      ∙ ap (λ o. unwrap_or o (standing_in c.regions q)) (comes.inner q (inr there) differ)
                      ∙ unwrapped (opened_by k l comes.standing q) (fresh k l q) (standing_in c.regions q)
                      ∙ ap (λ y. if opened_by k l comes.standing q then fresh k l q else y) before.0,
                  one.others q differ ∙ before.1,
                );
          })
