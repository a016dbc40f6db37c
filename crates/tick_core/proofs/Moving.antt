-- An item that leaves its row and enters another one.
use Rattle.std.proofs.Common.{◌≡◌, ℕ, ◌<◌, ◌≤◌, length, length-set, set, Option, Some, None}
use Rattle.std.proofs.Common.{slice_index, sym, ap, subst, ◌∙◌, arith}
use Rattle.std.proofs.lemmas.List.{set-set}
use Rattle.tick_core.specs.Rows.{Rows, members, HasRoom}
use Rattle.tick_core.proofs.Classes.{entered, left}

-- the room of an item is the same once it has left its row
pub room_known : (rows : Rows) (t : ℕ) (o : Option ℕ) → HasRoom rows t o → t < length rows.classes
room_known rows t None room = room
room_known rows t (Some class) room = room.0

pub room_after : (rows after : Rows) (t class : ℕ) → after ≡ record rows { classes = set rows.classes t None } → HasRoom rows t (Some class)
    → HasRoom after t (Some class)
room_after rows after t class is room =
    subst (λ r. HasRoom r t (Some class)) (sym is) (
      omega (arith, room.0, length-set rows.classes t None),
      room.1,
      subst (λ xs. members xs class ≤ slice_index rows.rooms class) (sym (set-set rows.classes t None (Some class))) room.2,
    )

-- an item that leaves its row and enters another
pub set_again : (rows mid after : Rows) (t class : ℕ) (o : Option ℕ) → o ≡ Some class → mid ≡ record rows { classes = set rows.classes t None } →
    after ≡ record mid { classes = set mid.classes t (Some class) } → after ≡ record rows { classes = set rows.classes t o }
set_again rows mid after t class o is left entered =
    entered ∙ (ap (λ (r : Rows). record r { classes = set r.classes t (Some class) }) left
    ∙ (ap (λ xs. record rows { classes = xs }) (set-set rows.classes t None (Some class)) ∙ ap (λ o. record rows { classes = set rows.classes t o }) (sym is)))
