-- Going over labels and gotos for what is wrong with them.
use Rattle.std.proofs.Common.{◌≡◌, ℕ, ◌+◌, ◌≤◌, Some, List, [], ◌∷◌, ◌++◌, append_assoc, drop, length, slice_get, sym, ◌∙◌, ap}
use Rattle.std.specs.Prelude.{not}
use Rattle.sc_text.specs.declared.read_fault.FaultKind.TheVariants as broken
use Rattle.sc_text.specs.declared.drafts.flaw.Flaw.{Flaw}
use Rattle.sc_text.specs.declared.drafts.parts.Named.{Named}
use Rattle.sc_text.specs.Flaws.{flaw_if, is_among, is_repeated}
use Rattle.sc_text.specs.Told.{told_behind}
use Rattle.sc_text.proofs.ToldInOrder.{told_both}
use Rattle.sc_text.proofs.PartsInOrder.{drop_is, drop_past}
use Rattle.scl_reader.specs.Flaws.{lost, names, repeated}

-- the names of labels, one behind the other
pub names_step : (all : List Named) (at : ℕ) (l : Named) (old new : List (List ℕ)) → slice_get all at ≡ Some l → new ≡ old ++ l.name ∷ []
    → new ++ names (drop (at + 1) all) ≡ old ++ names (drop at all)
names_step all at l old new e is =
    ap (λ r. r ++ names (drop (at + 1) all)) is
    ∙ append_assoc old (l.name ∷ []) (names (drop (at + 1) all))
    ∙ ap (λ q. old ++ names q) (sym (drop_is all at l e))

module _ (labels : List (List ℕ)) (all : List Named) (at : ℕ) where
  pub lost_step : (g : Named) (f : List Flaw) → slice_get all at ≡ Some g
      → told_behind (told_behind f (flaw_if (not (is_among labels g.name)) broken.Unknown g.at)) (lost labels (drop (at + 1) all))
      ≡ told_behind f (lost labels (drop at all))
  lost_step g f e =
      sym (told_both f (flaw_if (not (is_among labels g.name)) broken.Unknown g.at) (lost labels (drop (at + 1) all)))
      ∙ ap (λ q. told_behind f (lost labels q)) (sym (drop_is all at g e))

  pub lost_over : (f : List Flaw) → length all ≤ at → told_behind f (lost labels (drop at all)) ≡ f
  lost_over f le = ap (λ q. told_behind f (lost labels q)) (drop_past all at le)

  pub repeated_step : (l : Named) (f : List Flaw) → slice_get all at ≡ Some l
      → told_behind (told_behind f (flaw_if (is_repeated labels at l.name) broken.Repeated l.at)) (repeated labels (at + 1) (drop (at + 1) all))
      ≡ told_behind f (repeated labels at (drop at all))
  repeated_step l f e =
      sym (told_both f (flaw_if (is_repeated labels at l.name) broken.Repeated l.at) (repeated labels (at + 1) (drop (at + 1) all)))
      ∙ ap (λ q. told_behind f (repeated labels at q)) (sym (drop_is all at l e))

  pub repeated_over : (f : List Flaw) → length all ≤ at → told_behind f (repeated labels at (drop at all)) ≡ f
  repeated_over f le = ap (λ q. told_behind f (repeated labels at q)) (drop_past all at le)
