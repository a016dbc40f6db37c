-- What private functions say of a text that is being written. No public contract rests on it.
use Rattle.std.specs.Prelude.{ℕ, ◌≡◌, ◌+◌, Bool, true, false, if◌then◌else◌, Option, List, [], ◌∷◌, ◌++◌}
use Rattle.std.specs.Io.KnownBytes.{Appends}
use Rattle.scl_printer.specs.declared.buffered.Buffered.{Buffered}

-- where writing stands: what the sink took and how often it failed, and what is held back for it, unless it failed
pub record Page : Type 0 where
  pub taken : Option (List ℕ)
  pub failures : ℕ
  pub held : List ℕ
  pub failed : Bool

abbrev pub page : Option (List ℕ) → ℕ → Buffered → Page
page taken failures buffered = record { taken = taken; failures = failures; held = buffered.held.items; failed = buffered.failed }

-- since a sink had taken `start`, and had failed so often, this text was written: the sink took `done` of it, and the
-- rest is held, unless the sink failed, which it did once
pub record Bears (start : Option (List ℕ)) (failures : ℕ) (text : List ℕ) (p : Page) : Type 0 where
  pub done : List ℕ
  pub left : List ℕ
  pub parts : text ≡ done ++ left
  pub took : Appends start p.taken done
  pub rest : p.failed ≡ false → p.held ≡ left
  pub failed : p.failures ≡ failures + (if p.failed then 1 else 0)

-- this text was written behind what had been written
abbrev pub Writes : Page → Page → List ℕ → Type 0
Writes old new text =
    (start : Option (List ℕ)) (failures : ℕ) (before : List ℕ) →
    Bears start failures before old → Bears start failures (before ++ text) new

-- the sink took what was held, or it failed
abbrev pub Sends : Option (List ℕ) → ℕ → Bool → Option (List ℕ) → ℕ → Bool → List ℕ → Type 0
Sends taken failures failed taken' failures' failed' held =
    (start : Option (List ℕ)) (before : ℕ) (text : List ℕ) →
    Bears start before text (record { taken = taken; failures = failures; held = held; failed = failed }) →
    Bears start before text (record { taken = taken'; failures = failures'; held = []; failed = failed' })

abbrev pub when : Bool → List ℕ → List ℕ
when true text = text
when false text = []

abbrev pub has_any : {A : Type 0} → List A → Bool
has_any [] = false
has_any (x ∷ xs) = true
