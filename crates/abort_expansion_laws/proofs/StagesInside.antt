-- Where nothing changes inside of a superstate, it has work left inside just if it had.
use Rattle.std.proofs.Common.{◌≡◌, ℕ, false, List, [], ◌∷◌, Contains, refl, sym, ap, subst, ◌∙◌}
use Rattle.std.specs.List.{list_any}
use Rattle.std.proofs.lemmas.Bool.{or_parts}
use Rattle.core_charts.specs.declared.region.Transition.{Transition}
use Rattle.chart_machine.specs.declared.standing.Standing.{Standing}
use Rattle.chart_machine.specs.declared.standing.Configuration.{Configuration}
use Rattle.chart_machine.specs.declared.table.Table.{Table}
use Rattle.chart_machine.specs.Table.{state_at}
use Rattle.chart_machine.specs.Turns.{standing_of, has_ended, has_work, may_close, inside}
use Rattle.chart_machine_laws.specs.Tree.{IsThere, around, holder}
use Rattle.chart_machine_laws.proofs.LyingIn.{head_in, tail_in}
use Rattle.chart_machine_laws.proofs.ChartTables.{around_there}
use Rattle.abort_expansion_laws.specs.CoreRows.{Images}
use Rattle.abort_expansion_laws.specs.Related.{Stands, outside, ended, left, trying, acting, entering, guarding, staying, within, behind, Related}
use Rattle.abort_expansion_laws.proofs.StageReached.{some_work}
use Rattle.abort_expansion_laws.proofs.InsideAround.{inside_around}
use Rattle.abort_expansion_laws.proofs.DropsOut.{all_alike}

module _ (k core : Table) (i : Images)
    (children : (s r : ℕ) → Contains (state_at k s).regions r → around k r ≡ s ∷ around k (holder k s))
    (c d : Configuration) (related : Related k core i c d) (next : Configuration)
    (u : ℕ) (unchanged : (q : ℕ) → Contains (around k q) u → standing_of next q ≡ standing_of c q) where
  ends_same : (s q : ℕ) → Contains (around k (holder k s)) u → Contains (state_at k s).regions q →
      has_ended (standing_of next q) ≡ has_ended (standing_of c q)
  ends_same s q h child = ap has_ended (unchanged q (subst (λ zs. Contains zs u) (sym (children s q child)) (tail_in s u (around k (holder k s)) h)))

  close_same : (s : ℕ) (tests : List Transition) → Contains (around k (holder k s)) u → may_close k next s tests ≡ may_close k c s tests
  close_same s [] h = refl
  close_same s (t ∷ tests) h =
      rw (all_alike (λ q. has_ended (standing_of next q)) (λ q. has_ended (standing_of c q)) (state_at k s).regions (λ q child. ends_same s q h child)) refl

  work_same : (q : ℕ) → Contains (around k q) u → (w y : Standing) → Stands k core i c q w y → has_work k next w ≡ has_work k c w
  work_same q h _ _ outside = refl
  work_same q h _ _ (ended inner) = refl
  work_same q h _ _ (left s ss e over) = refl
  work_same q h _ _ (trying s [] simple its) = refl
  work_same q h _ _ (trying s (t ∷ tests) simple its) = refl
  work_same q h _ _ (acting s v p e effects lt) = refl
  work_same q h _ _ (entering s fork t tests super its leads) = refl
  work_same q h _ _ (guarding s join t tests has_some its leads) = refl
  work_same q h _ _ (staying s tests super its stays) = close_same s tests (subst (λ p. Contains (around k p) u) (sym its) h)
  work_same q h _ _ (within s join tests super its stays still leads) = close_same s tests (subst (λ p. Contains (around k p) u) (sym its) h)
  work_same q h _ _ (behind s tests super its over) = close_same s tests (subst (λ p. Contains (around k p) u) (sym its) h)

  idle_there : (q : ℕ) → Contains (around k q) u → (IsThere k q → has_work k next (standing_of next q) ≡ has_work k c (standing_of c q))
  idle_there q h q_there = ap (has_work k next) (unchanged q h) ∙ work_same q h (standing_of c q) (standing_of d (i.thread_of q)) (related.regions q q_there)

  still_idle : (xs : List ℕ) → ((q : ℕ) → Contains xs q → Contains (around k q) u × IsThere k q) →
      list_any (λ q. has_work k c (standing_of c q)) xs ≡ false → list_any (λ q. has_work k next (standing_of next q)) xs ≡ false
  still_idle [] each e = refl
  still_idle (q ∷ xs) each e =
      let both = or_parts (has_work k c (standing_of c q)) (list_any (λ p. has_work k c (standing_of c p)) xs) e in
      let first = each q (head_in q xs) in
      rw (idle_there q first.0 first.1, both.0, still_idle xs (λ p tail. each p (tail_in q p xs tail)) both.1) refl

  pub none_comes : some_work k c u ≡ false → some_work k next u ≡ false
  none_comes idle = still_idle (inside k u) (λ q h. (inside_around k u q h, around_there k q u (inside_around k u q h))) idle
