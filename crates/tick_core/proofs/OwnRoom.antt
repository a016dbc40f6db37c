-- A row has room for each enabled thread, since each stands at a node of its own.
use Rattle.std.proofs.Common.{◌≡◌, ◌≢◌, ℕ, ◌<◌, ◌≤◌, ◌⊎◌, Bool, true, false, List, length, length-set, set, Option, Some, None, slice_get, slice_set, refl, sym}
use Rattle.std.proofs.Common.{subst, ◌∙◌, inl, inr, arith}
use Rattle.std.proofs.lemmas.Option.{slice_get_within, same_Some}
use Rattle.tick_core.specs.Rows.{Rows, IsIn, HasRoom, members}
use Rattle.tick_core.proofs.Fitting.{Owns, fits_in}
use Rattle.tick_core.proofs.Classes.{entered, left}
use Rattle.sc_graph.specs.declared.program.Node.{Node}
use Rattle.sc_graph.specs.declared.control.Control.{Control}
use Rattle.sc_graph.specs.declared.tables.Tables.{Tables}
use Rattle.sc_graph.specs.Program.{Program, owner_of}
use Rattle.sc_graph.specs.Control.{status_of, is_enabled}
use Rattle.sc_graph.specs.Tables.{priority_of}
use Rattle.sc_graph.specs.Tick.{IsConfiguration}
use Rattle.sc_graph.specs.Valid.{IsValid}
use Rattle.tick_laws.proofs.Lists.{map_some}
use Rattle.tick_laws.proofs.Views.{enabled_view}
use Rattle.tick_laws.proofs.EnabledPairs.{StepsFrom, steps_from}
use Rattle.tick_core.specs.Claims.{Claim}
use Rattle.tick_core.specs.Space.Sorting.{row_at, step_priority, unless_claimed, ready_row, OwnsNode, OwnRows, sorted_one}

module _ (p : Program) (q : Tables) (rows : Rows) (h : OwnRows p q rows) (t : ℕ) (below : t < length p.threads) where
  in_rows : t < length rows.classes
  in_rows = omega (arith, h.long)

  node_within : (n u : ℕ) → owner_of p n ≡ Some u → n < length p.nodes
  node_within n u owned = let node = map_some (λ (x : Node). x.owner) (slice_get p.nodes n) u owned in slice_get_within p.nodes n node.0 node.1

  one_owner : (n u v : ℕ) → owner_of p n ≡ Some u → owner_of p n ≡ Some v → u ≡ v
  one_owner n u v x y = same_Some u v (sym x ∙ y)

  owns : (u prior : ℕ) → OwnsNode p q u prior → Owns (λ n v. owner_of p n ≡ Some v) h.fits.priorities u prior
  owns u prior it =
      let within : it.node < length p.nodes = node_within it.node u it.owned in
      record { place = it.node; owned = it.owned; within = omega (arith, h.fits.long); has = h.fits.are it.node within ∙ it.has }

  -- who owns a node of this priority has room in its row
  pub room_own : (prior : ℕ) → OwnsNode p q t prior → HasRoom rows t (Some prior)
  room_own prior it =
      let mine = owns t prior it in
      let known : prior < length rows.rooms = subst (λ n. n < length rows.rooms) mine.has (h.fits.rooms_are.known mine.place mine.within) in
      let fits : members (set rows.classes t (Some prior)) prior ≤ _ =
      fits_in (λ n v. owner_of p n ≡ Some v) (set rows.classes t (Some prior)) h.fits.priorities prior one_owner
      (λ u stands. each u (entered rows.classes t prior u prior in_rows stands)) in
      (in_rows, known, omega (arith, fits, h.fits.rooms_are.room prior known))
    where
      each : (u : ℕ) → ((u ≡ t) × (prior ≡ prior)) ⊎ ((u ≢ t) × IsIn rows.classes u prior) → Owns (λ n v. owner_of p n ≡ Some v) h.fits.priorities u prior
      each u (inl same) = subst (λ v. Owns (λ n v. owner_of p n ≡ Some v) h.fits.priorities v prior) (sym same.0) (owns t prior it)
      each u (inr was) = owns u prior (h.own u prior was.1)

  pub kept_in : (prior : ℕ) → OwnsNode p q t prior → OwnRows p q (record rows { classes = slice_set rows.classes t (Some prior) })
  kept_in prior it =
      record {
        long = length-set rows.classes t (Some prior) ∙ h.long;
        fits = h.fits;
        own = λ u other stands. each u other (entered rows.classes t prior u other in_rows stands);
      }
    where
      each : (u other : ℕ) → ((u ≡ t) × (other ≡ prior)) ⊎ ((u ≢ t) × IsIn rows.classes u other) → OwnsNode p q u other
      each u other (inl same) = subst (λ v. OwnsNode p q v other) (sym same.0) (subst (OwnsNode p q t) (sym same.1) it)
      each u other (inr was) = h.own u other was.1

  pub kept_out : OwnRows p q (record rows { classes = slice_set rows.classes t None })
  kept_out =
      record {
        long = length-set rows.classes t None ∙ h.long;
        fits = h.fits;
        own = λ u other stands. h.own u other (left rows.classes t u other in_rows stands).1;
      }

  module _ (c : Control) (valid : IsValid p q) (ok : IsConfiguration p c) where
    owns_node : is_enabled p c t ≡ true → OwnsNode p q t (priority_of q (status_of c t))
    owns_node enabled =
        let from : StepsFrom p q c t = steps_from p q valid c ok t (enabled_view p c t enabled) in
        record { node = from.node; owned = from.owned; has = sym from.priority }

    at_row : (b : Bool) → is_enabled p c t ≡ b → HasRoom rows t (row_at b (priority_of q (status_of c t)))
        × OwnRows p q (record rows { classes = slice_set rows.classes t (row_at b (priority_of q (status_of c t))) })
    at_row true enabled = (room_own (priority_of q (status_of c t)) (owns_node enabled), kept_in (priority_of q (status_of c t)) (owns_node enabled))
    at_row false idle = (in_rows, kept_out)

    -- it has room in the row where it can step
    pub room_there : HasRoom rows t (step_priority p q c t)
    room_there = (at_row (is_enabled p c t) refl).0

    -- and there it stands in a row of its own
    pub kept_there : OwnRows p q (sorted_one (step_priority p q c) rows t)
    kept_there = (at_row (is_enabled p c t) refl).1

    module _ (claims : List (Option Claim)) where
      at_claim : (o : Option (Option Claim)) → HasRoom rows t (unless_claimed o (step_priority p q c t))
          × OwnRows p q (record rows { classes = slice_set rows.classes t (unless_claimed o (step_priority p q c t)) })
      at_claim (Some None) = at_row (is_enabled p c t) refl
      at_claim (Some (Some a)) = (in_rows, kept_out)
      at_claim None = (in_rows, kept_out)

      -- a thread has room in the row where it is ready
      pub has_room : HasRoom rows t (ready_row p q c claims t)
      has_room = (at_claim (slice_get claims t)).0

      -- and sorted anew it stands in a row of its own
      pub kept_one : OwnRows p q (sorted_one (ready_row p q c claims) rows t)
      kept_one = (at_claim (slice_get claims t)).1
