-- What is told of targets that are entered by their history.
use Rattle.std.proofs.Common.{◌≡◌, ℕ, ◌+◌, ◌≤◌, Option, Some, List, [], ◌∷◌, drop, length, slice_get, refl, sym, ◌∙◌, ap}
use Rattle.sc_text.specs.declared.drafts.flaw.Flaw.{Flaw}
use Rattle.sc_text.specs.Told.{told_behind}
use Rattle.sc_text.proofs.PartsInOrder.{drop_is, drop_past}
use Rattle.sc_text.proofs.ToldInOrder.{told_both}
use Rattle.extended_reader.specs.declared.text_drafts.draft.DraftWay.{DraftWay}
use Rattle.extended_reader.specs.Flaws.{history_flaw, history_flaws}

module _ (ways : List DraftWay) (at : ℕ) where
  pub no_ways : (places : List (Option ℕ)) (found : List Flaw) → length ways ≤ at → told_behind found (history_flaws (drop at ways) places) ≡ found
  no_ways places found le = ap (λ l. told_behind found (history_flaws l places)) (drop_past ways at le)

pub no_places : (ways : List DraftWay) (found : List Flaw) → told_behind found (history_flaws ways []) ≡ found
no_places [] found = refl
no_places (w ∷ ways) found = refl
