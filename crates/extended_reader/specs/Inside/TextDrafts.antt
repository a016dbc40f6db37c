-- What private functions alone say of themselves. It is proved, and no public contract rests on what it means.
use Rattle.std.specs.Prelude.{ℕ, ◌≡◌, Bool, List, [], ◌∷◌, ◌++◌, map}
use Rattle.grammar.specs.Read.{Outcome, Got}
use Rattle.sc_text.specs.declared.token.Token.{Token}
use Rattle.sc_text.specs.Classes.{Class}
use Rattle.chart_reader.specs.ChartText.{Grows}
use Rattle.chart_reader.specs.PartsRead.{IsGoing}
use Rattle.sc_text.specs.declared.drafts.flaw.Flaw.{Flaw}
use Rattle.sc_text.specs.declared.drafts.parts.Declaration.{Declaration}
use Rattle.chart_reader.specs.declared.text_drafts.draft.DraftRegion.{DraftRegion}
use Rattle.chart_reader.specs.declared.text_drafts.draft.DraftTransition.{DraftTransition}
use Rattle.extended_reader.specs.declared.text_drafts.draft.DraftEntry.{DraftEntry}
use Rattle.extended_reader.specs.declared.text_drafts.draft.DraftWay.{DraftWay}
use Rattle.extended_reader.specs.declared.text_drafts.draft.DraftRows.{DraftRows}
use Rattle.extended_reader.specs.declared.text_drafts.draft.ExtendedDraft.{ExtendedDraft}
use Rattle.extended_reader.specs.Draft.{StateBody, both_rows, state_rows}
use Rattle.extended_reader.specs.Flaws.{joined, entries_flaws, all_way_flaws, variable_name_flaws, region_inside_flaws}

-- a phrase was read, and what it adds was put behind what there was
pub record Puts {A S : Type 0} (o : Outcome Token A) (put : A → S → S) (old new : S) (rest : List Token) : Type 0 where
  pub part : A
  pub is : o ≡ Got part rest
  pub behind : new ≡ put part old

-- what is there behind the old when some are put behind it, one after the other
abbrev pub put_each : {A S : Type 0} → (A → S → S) → S → List A → S
put_each put s [] = s
put_each put s (x ∷ xs) = put_each put (put x s) xs

-- some phrases of a row were read, and what they add was put behind the old; so many more may follow, each beginning with a
-- token of these classes
pub record IsPutting {A S : Type 0} (o : Outcome Token (List A)) (g : Grows A) (ks : List Class) (put : A → S → S) (old sofar : S) (left : ℕ)
    (rest : List Token) : Type 0 where
  pub done : List A
  pub going : IsGoing o g ks done left rest
  pub behind : sofar ≡ put_each put old done

-- a transition, and what is new of it
abbrev pub put_way : DraftTransition × DraftWay → List DraftTransition × List DraftWay → List DraftTransition × List DraftWay
put_way x s = (s.0 ++ x.0 ∷ [], s.1 ++ x.1 ∷ [])

abbrev pub put_ways : List DraftTransition × List DraftWay → List DraftTransition × List DraftWay → List DraftTransition × List DraftWay
put_ways x s = (s.0 ++ x.0, s.1 ++ x.1)

-- a part with its rows, and some of them
abbrev pub put_part : {A : Type 0} → A × DraftRows → List A × DraftRows → List A × DraftRows
put_part x s = (s.0 ++ x.0 ∷ [], both_rows s.1 x.1)

abbrev pub put_parts : {A : Type 0} → List A × DraftRows → List A × DraftRows → List A × DraftRows
put_parts x s = (s.0 ++ x.0, both_rows s.1 x.1)

-- what is in a state: regions, transitions, and rows
abbrev pub InState : Type 0
InState = (List DraftRegion × List DraftTransition) × DraftRows

abbrev pub put_inside : StateBody → InState → InState
put_inside b s =
    ((s.0.0 ++ b.regions, s.0.1 ++ b.transitions), both_rows s.1 (record { entries = b.rows.entries; ways = b.rows.ways ++ b.ways }))

-- the actions of a state, and what is in it behind them
abbrev pub put_body : Bool → List DraftEntry × StateBody → InState → InState
put_body is_final x s = ((s.0.0 ++ x.1.regions, s.0.1 ++ x.1.transitions), both_rows s.1 (state_rows is_final x.0 x.1))

-- the flaws of all that is new but the items, over these variables and signals
abbrev pub scoped_flaws : (variables signals : List Declaration) → ExtendedDraft → List Flaw
scoped_flaws variables signals d =
    joined (map (entries_flaws variables signals) d.rows.entries)
    ++ (all_way_flaws variables d.core.regions d.rows.ways
    ++ (variable_name_flaws d.core.variables
    ++ joined (map (region_inside_flaws signals) d.core.regions)))
