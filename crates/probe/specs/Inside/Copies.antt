-- What a publisher and an observer hold.
use Rattle.std.specs.Prelude.{◌≡◌, Option, Some, None}
use Rattle.probe.specs.Progress.{Progress}
use Rattle.probe.specs.Published.{Sits}

-- an observer has a seat, that knows no more
abbrev pub IsSeated : Option (Option Progress) → Progress → Type 0
IsSeated None p = ⊥
IsSeated (Some seat) p = Sits seat p

-- a history that is still there has what is known
abbrev pub IsAt : Option Progress → Progress → Type 0
IsAt None p = Unit {0}
IsAt (Some q) p = q ≡ p
