-- Each step at the queue keeps its rule.
use Rattle.std.proofs.Common.{◌≡◌, ◌≢◌, ℕ, zero, suc, ◌+◌, ◌<◌, ◌≤◌, List, [], ◌∷◌, ◌++◌, length, length-append, set, refl, ap, sym, ◌∙◌, subst, ⊎_elim, ◌⊎◌}
use Rattle.std.proofs.Common.{inl, inr, append_assoc, arith}
use Rattle.std.proofs.lemmas.List.{append-nil, map-append}
use Rattle.std.specs.List.{sum_by}
use Rattle.std.proofs.lemmas.List.Sums.{sum_by-append}
use mathlib.Core.Option.{some, some-ne-none}
use lib.ListN.{get_elem?}
use Rattle.crossbeam_queue.specs.Fifo.{Pushes, Pops, Forks, Learns}
use Rattle.crossbeam_queue.proofs.Lists.{at_set}
use Rattle.tick_core.specs.Claims.{Claim}
use Rattle.ready_queue.specs.declared.queue.Hand.{Hand}
use Rattle.ready_queue.specs.Order.{hand, Given, claims_of, put_by, Keeps, Stands, PutBehind, TakenFirst}
use Rattle.ready_queue.proofs.PutCounts.{put_by-append, put_by-own, put_by-other, length-set, within, sum_set}

first_only : (p : ℕ) (a v : Hand) → get_elem? (a ∷ []) p ≡ some v → a ≡ v
first_only zero a v at = cc at
first_only (suc p) a v at = absurd (some-ne-none v (sym at))

pub begins : Keeps [] (hand [] [] ∷ [])
begins = record {
  gone = [];
  stand = [];
  items_are = refl;
  put = λ p v at. ap (λ (u : Hand). u.put) (sym (first_only p (hand [] []) v at));
  no_others = λ p beyond. refl;
  taken = λ weight. refl;
}

pub puts : (n pass : ℕ) (v : Hand) (x : Claim) → Pushes Keeps n pass v x (PutBehind v x)
puts n pass v x items hands room h at =
    let w : Hand = hand (v.put ++ x ∷ []) v.taken in
    let more : Given = (pass, x) ∷ [] in
    let all : Given = h.gone ++ h.stand in
    let grown : (p : ℕ) → put_by p (h.gone ++ (h.stand ++ more)) ≡ put_by p all ++ put_by p more =
    λ p. ap (put_by p) (sym (append_assoc h.gone h.stand more)) ∙ put_by-append p all more in
    let others : (p : ℕ) → pass ≢ p → put_by p (h.gone ++ (h.stand ++ more)) ≡ put_by p all =
    λ p apart. grown p ∙ (ap (λ l. put_by p all ++ l) (put_by-other pass p x apart) ∙ append-nil (put_by p all)) in
    let after : Keeps (items ++ x ∷ []) (set hands pass w) =
    record {
      gone = h.gone;
      stand = h.stand ++ more;
      items_are = map-append (λ (e : ℕ × Claim). e.1) h.stand more ∙ ap (λ l. l ++ x ∷ []) h.items_are;
      put = λ p u here. ⊎_elim
          (λ (own : (p ≡ pass) × (w ≡ u)). ap (λ (y : Hand). y.put) (sym own.1)
          ∙ (ap (λ l. l ++ x ∷ []) (h.put pass v at)
          ∙ (ap (λ l. put_by pass all ++ l) (sym (put_by-own pass x)) ∙ (sym (grown pass) ∙ ap (λ q. put_by q (h.gone ++ (h.stand ++ more))) (sym own.0)))))
          (λ (other : (p ≢ pass) × (get_elem? hands p ≡ some u)). h.put p u other.1 ∙ sym (others p (λ e. other.0 (sym e))))
          (at_set hands pass p w u here);
      no_others = λ p beyond.
          let past : length hands ≤ p = subst (λ k. k ≤ p) (length-set hands pass w) beyond in
          let inside : pass < length hands = within hands pass v at in
          others p (λ e. absurd (omega (arith, past, inside, e))) ∙ h.no_others p past;
      taken = λ weight. let kept = sum_set (λ (u : Hand). sum_by weight u.taken) hands pass v w at in omega (arith, kept, h.taken weight);
    } in (
      w,
      after,
      record { items = items; hands = hands; number = pass; among = at; before = h; after = after; gone_stays = refl; behind = refl; hand_is = refl },
    )

-- the first of those that stand leaves
leaves : (x : Claim) (items : List Claim) (stand : Given) → claims_of stand ≡ x ∷ items
    → (e : ℕ × Claim) × (rest : Given) × (stand ≡ e ∷ rest) × (e.1 ≡ x) × (claims_of rest ≡ items)
leaves x items [] is = absurd (cc is)
leaves x items (e ∷ rest) is = (e, rest, refl, cc is, cc is)

pub takes : (pass : ℕ) (v : Hand) → Pops Keeps pass v (TakenFirst v)
takes pass v x items hands h at =
    let w : Hand = hand v.put (v.taken ++ x ∷ []) in
    let cut = leaves x items h.stand h.items_are in
    let e : ℕ × Claim = cut.0 in
    let rest : Given = cut.1 in
    let same : h.gone ++ h.stand ≡ (h.gone ++ e ∷ []) ++ rest = ap (λ l. h.gone ++ l) cut.2 ∙ sym (append_assoc h.gone (e ∷ []) rest) in
    let after : Keeps items (set hands pass w) =
    record {
      gone = h.gone ++ e ∷ [];
      stand = rest;
      items_are = cut.4;
      put = λ p u here. ⊎_elim
          (λ (own : (p ≡ pass) × (w ≡ u)). ap (λ (y : Hand). y.put) (sym own.1)
          ∙ (h.put pass v at ∙ (ap (put_by pass) same ∙ ap (λ q. put_by q ((h.gone ++ e ∷ []) ++ rest)) (sym own.0))))
          (λ (other : (p ≢ pass) × (get_elem? hands p ≡ some u)). h.put p u other.1 ∙ ap (put_by p) same)
          (at_set hands pass p w u here);
      no_others = λ p beyond. ap (put_by p) (sym same) ∙ h.no_others p (subst (λ k. k ≤ p) (length-set hands pass w) beyond);
      taken = λ weight.
          let kept = sum_set (λ (u : Hand). sum_by weight u.taken) hands pass v w at in
          let mine = sum_by-append weight v.taken (x ∷ []) in
          let theirs : sum_by weight (claims_of (h.gone ++ e ∷ [])) ≡ sum_by weight (claims_of h.gone) + sum_by weight (x ∷ []) =
          ap (sum_by weight) (map-append (λ (d : ℕ × Claim). d.1) h.gone (e ∷ []))
          ∙ (sum_by-append weight (claims_of h.gone) (e.1 ∷ []) ∙ ap (λ c. sum_by weight (claims_of h.gone) + sum_by weight (c ∷ [])) cut.3) in
          omega (arith, kept, mine, theirs, h.taken weight);
    } in (
      w,
      after,
      record {
        items = items;
        hands = hands;
        number = pass;
        among = at;
        before = h;
        after = after;
        first = e;
        claim_is = cut.3;
        stood = cut.2;
        goes = refl;
        hand_is = refl;
      },
    )

at_end : (hands : List Hand) (a u : Hand) (p : ℕ) → get_elem? (hands ++ a ∷ []) p ≡ some u → (get_elem? hands p ≡ some u) ⊎ ((p ≡ length hands) × (a ≡ u))
at_end [] a u zero at = inr (refl, cc at)
at_end [] a u (suc p) at = absurd (some-ne-none u (sym at))
at_end (b ∷ hands) a u zero at = inl at
at_end (b ∷ hands) a u (suc p) at = elim (at_end hands a u p at) [ inl w ↦ inl w | inr w ↦ inr (ap suc w.0, w.1) ]

pub forks : (pass : ℕ) (v : Hand) → Forks Keeps pass v v (hand [] [])
forks pass v items hands h at =
    let same : List Hand = set hands pass v in
    let long : length same ≡ length hands = length-set hands pass v in
    record {
      gone = h.gone;
      stand = h.stand;
      items_are = h.items_are;
      put = λ p u here. ⊎_elim
          (λ (old : get_elem? same p ≡ some u). ⊎_elim
          (λ (own : (p ≡ pass) × (v ≡ u)). h.put p u (subst (λ q. get_elem? hands q ≡ some u) (sym own.0) (at ∙ ap some own.1)))
          (λ (other : (p ≢ pass) × (get_elem? hands p ≡ some u)). h.put p u other.1)
          (at_set hands pass p v u old))
          (λ (new : (p ≡ length same) × (hand [] [] ≡ u)). ap (λ (y : Hand). y.put) (sym new.1) ∙ sym (h.no_others p (omega (arith, new.0, long))))
          (at_end same (hand [] []) u p here);
      no_others = λ p beyond. h.no_others p (omega (arith, beyond, long, length-append same (hand [] [] ∷ [])));
      taken = λ weight.
          let kept = sum_set (λ (u : Hand). sum_by weight u.taken) hands pass v v at in
          let one = sum_by-append (λ (u : Hand). sum_by weight u.taken) same (hand [] [] ∷ []) in
          omega (arith, kept, one, h.taken weight);
    }

pub learns : (pass : ℕ) (v : Hand) → Learns Keeps pass v (Stands v)
learns pass v items hands h at = record { hands = hands; number = pass; among = at; keeps = h }
