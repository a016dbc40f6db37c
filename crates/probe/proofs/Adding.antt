-- The exchange that adds a tick keeps the law of the history.
use Rattle.std.proofs.Common.{◌≡◌, ℕ, zero, suc, ◌+◌, ◌<◌, ◌≤◌, ◌==◌, Bool, true, false, List, [], ◌∷◌, ◌++◌, length, refl, ap, sym, subst, arith, inl}
use Rattle.std.proofs.Common.{length-append, None}
use Rattle.std.proofs.lemmas.List.{append-nil}
use Rattle.std.proofs.lemmas.Bool.Decides.{nat_tests}
use mathlib.Core.List.{IsPrefix}
use prog.Atomic.{either}
use Rattle.logbook.specs.Pages.{Cell, cell, keeps, no_nib, step, Moves, Goes}
use Rattle.probe.specs.Outputs.{Outputs}
use Rattle.probe.specs.Inside.History.{greatest, Counts, IsCounted, IsNext, Adds}
use Rattle.probe.proofs.Prefixes.{prefix_whole, prefix_length}

abbrev pub shown : List Outputs → List Outputs
shown log = []

abbrev pub moved : List Outputs → List Outputs → ℕ → Type 0
moved xs ys n = Unit {0}

module _ (v : List Outputs) (e : Outputs) (held : ℕ) where
  abbrev pub After : ℕ → List Cell → List Outputs → Type 0
  After key cells log = Goes IsCounted shown moved key (v, (no_nib, None)) (λ n. either (n == held) (held + 1) n)
      (Adds (step key held (held + 1) e) (v, (no_nib, None))) cells log

  -- the word that was found as expected stood at the end of what had been seen
  low_whole : (log : List Outputs) (high : ℕ) → Counts held 0 (length v) → held < greatest → IsPrefix v log → Counts held high (length log)
      → (high ≡ 0) × (v ≡ log)
  low_whole log zero known room pre now = (refl, prefix_whole v log pre (omega (arith, known.sum, now.sum)))
  low_whole log (suc high) known room pre now =
      let full : held ≡ greatest = now.full (omega arith) in absurd (omega (arith, full, room))

  low_goes : (log : List Outputs) (low high : ℕ) → Counts held 0 (length v) → held < greatest → IsPrefix v log → Counts low high (length log)
      → (b : Bool) → (low == held) ≡ b → After 0 ((low, true) ∷ (high, true) ∷ []) log
  low_goes log low high known room pre now true is =
      let here : low ≡ held = grind (arith, nat_tests) in
      let whole = low_whole log high known room pre (subst (λ n. Counts n high (length log)) here now) in (
        keeps,
        e ∷ [],
        None,
        tt,
        record {
          low = held + 1;
          high = 0;
          cells_are = rw (is, whole.0) refl;
          counts = record {
            sum = omega (arith, length-append log (e ∷ []), ap length whole.1, known.sum);
            fits = omega (arith, room);
            full = λ h. absurd (omega (arith, h));
          };
        },
        inl (refl, refl),
        λ _. ap (λ w. w ++ e ∷ []) (sym whole.1),
      )
  low_goes log low high known room pre now false is =
      let all : log ++ [] ≡ log = append-nil log in (
        keeps,
        [],
        None,
        tt,
        record { low = low; high = high; cells_are = rw is refl; counts = subst (λ (l : List Outputs). Counts low high (length l)) (sym all) now },
        inl (refl, refl),
        λ (found : low ≡ held). absurd (grind (arith, nat_tests, found)),
      )

  -- the second word counts where the first is full
  high_whole : (log : List Outputs) (low : ℕ) → Counts greatest held (length v) → IsPrefix v log → Counts low held (length log) → (low ≡ greatest) × (v ≡ log)
  high_whole log low known pre now =
      let long : length v ≤ length log = prefix_length v log pre in
      let full : low ≡ greatest = omega (arith, long, known.sum, now.sum, now.fits) in
      (full, prefix_whole v log pre (omega (arith, known.sum, now.sum, full)))

  high_goes : (log : List Outputs) (low high : ℕ) → Counts greatest held (length v) → held < greatest → IsPrefix v log → Counts low high (length log)
      → (b : Bool) → (high == held) ≡ b → After 1 ((low, true) ∷ (high, true) ∷ []) log
  high_goes log low high known room pre now true is =
      let here : high ≡ held = grind (arith, nat_tests) in
      let whole = high_whole log low known pre (subst (λ n. Counts low n (length log)) here now) in (
        keeps,
        e ∷ [],
        None,
        tt,
        record {
          low = low;
          high = held + 1;
          cells_are = rw is refl;
          counts = record { sum = omega (arith, length-append log (e ∷ []), now.sum, here); fits = now.fits; full = λ _. whole.0 };
        },
        inl (refl, refl),
        λ _. ap (λ w. w ++ e ∷ []) (sym whole.1),
      )
  high_goes log low high known room pre now false is =
      let all : log ++ [] ≡ log = append-nil log in (
        keeps,
        [],
        None,
        tt,
        record { low = low; high = high; cells_are = rw is refl; counts = subst (λ (l : List Outputs). Counts low high (length l)) (sym all) now },
        inl (refl, refl),
        λ (found : high ≡ held). absurd (grind (arith, nat_tests, found)),
      )

  -- whatever the history is, the exchange at the word that counts the next tick keeps its law
  pub adds_moves : (key : ℕ) → IsNext key held (length v) → held < greatest
      → Moves IsCounted shown moved key (v, (no_nib, None)) (λ n. either (n == held) (held + 1) n) (Adds (step key held (held + 1) e) (v, (no_nib, None)))
  adds_moves zero next room cs log kept pre away =
      let P : List Cell → Type 0 = λ c. (0 < length c) × ((cell c 0).1 ≡ true) × After 0 c log in
      subst P (sym kept.cells_are) (omega arith, refl, low_goes log kept.low kept.high next room pre kept.counts (kept.low == held) refl)
  adds_moves (suc key) next room cs log kept pre away =
      let P : List Cell → Type 0 = λ c. (suc key < length c) × ((cell c (suc key)).1 ≡ true) × After (suc key) c log in
      rw next.0 (subst (λ (c : List Cell). (1 < length c) × ((cell c 1).1 ≡ true) × After 1 c log) (sym kept.cells_are) (
        omega arith,
        refl,
        high_goes log kept.low kept.high next.1 room pre kept.counts (kept.high == held) refl,
      ))
