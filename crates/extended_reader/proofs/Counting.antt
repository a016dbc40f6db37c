-- How many counts are left behind a transition.
use Rattle.std.proofs.Common.{◌≡◌, ◌≤◌, ◌+◌, ℕ, List, ◌∷◌, length, arith}
use Rattle.std.proofs.lemmas.List.{length-append}
use Rattle.extended_reader.specs.declared.text_drafts.draft.DraftWay.{DraftWay}
use Rattle.extended_reader.specs.Counts.{HaveCounts, own_counts, counts_of}

module _ (w : DraftWay) (ways : List DraftWay) (counts : ℕ) (h : HaveCounts (w ∷ ways) counts) where
  pub own_within : length (own_counts w.delay) ≤ counts
  own_within = omega (arith, h.many, length-append (own_counts w.delay) (counts_of ways))

  pub fewer_behind : (left : ℕ) → length (own_counts w.delay) + left ≡ counts → HaveCounts ways left
  fewer_behind left e = record { many = omega (arith, h.many, e, length-append (own_counts w.delay) (counts_of ways)) }
