-- Each step at the copies keeps their rule.
use Rattle.std.proofs.Common.{◌≡◌, ◌≢◌, ℕ, Option, Some, None, List, set, refl, subst, ◌∙◌, ⊎_elim, option_map}
use mathlib.Core.Option.{some}
use lib.ListN.{get_elem?}
use Rattle.left_right.specs.Register.{Admits, TurnsAt, Forks, Merges}
use Rattle.atomic_table.proofs.Lists.{at_set, at_snoc}
use Rattle.probe.specs.Progress.{Progress, Extends, origin_of}
use Rattle.probe.specs.Published.{Fits, AllFit, Sees, Shows}
use Rattle.probe.proofs.Prefixes.{prefix_self, prefix_trans, prefix_take}

pub extends_self : (p : Progress) → Extends p p
extends_self p = record { publisher = refl; rows = prefix_self p.rows }

pub extends_trans : (p q r : Progress) → Extends p q → Extends q r → Extends p r
extends_trans p q r a b = record { publisher = b.publisher ∙ a.publisher; rows = prefix_trans p.rows q.rows r.rows a.rows b.rows }

pub admits : Admits AllFit None
admits x views h seat v at = ⊎_elim (h seat v) (λ (e : None ≡ v). subst (Fits x) e tt) (at_snoc views None v seat at)

fits_on : (x y : Progress) → Extends x y → (v : Option Progress) → Fits x v → Fits y v
fits_on x y up None f = tt
fits_on x y up (Some p) f = extends_trans p x y f up

all_fit_on : (x y : Progress) → Extends x y → (views : List (Option Progress)) → AllFit x views → AllFit y views
all_fit_on x y up views h seat v at = fits_on x y up v (h seat v at)

-- a seat may come to know anything that is shown
all_fit_set : (x : Progress) (views : List (Option Progress)) (seat : ℕ) (w : Option Progress) → AllFit x views → Fits x w → AllFit x (set views seat w)
all_fit_set x views seat w h f j u e =
    ⊎_elim (λ (t : (j ≡ seat) × (w ≡ u)). subst (Fits x) t.1 f) (λ (t : (j ≢ seat) × (get_elem? views j ≡ some u)). h j u t.1) (at_set views seat j w u e)

pub shows : (x y : Progress) → Extends x y → (seat : ℕ) (v : Option Progress) → TurnsAt AllFit seat v x y Shows
shows x y up seat v views h at =
    let after : AllFit y (set views seat (Some y)) = all_fit_set y views seat (Some y) (all_fit_on x y up views h) (extends_self y) in
    (Some y, after, record { seats = views; number = seat; among = at; before = h; after = after; knows = refl })

pub sees : (seat : ℕ) (v : Option Progress) (x : Progress) → TurnsAt AllFit seat v x x Sees
sees seat v x views h at =
    let after : AllFit x (set views seat (Some x)) = all_fit_set x views seat (Some x) h (extends_self x) in
    (Some x, after, record { seats = views; number = seat; among = at; before = h; after = after; fits = h seat v at; same = refl; knows = refl })

origin_fits : (x : Progress) (v : Option Progress) → Fits x v → Fits x (option_map origin_of v)
origin_fits x None f = tt
origin_fits x (Some p) f = extends_trans (origin_of p) p x (record { publisher = refl; rows = prefix_take 1 p.rows }) f

pub forks : (seat : ℕ) (v : Option Progress) → Forks AllFit seat v v (option_map origin_of v)
forks seat v x views h at j u e =
    let f : Fits x v = h seat v at in
    ⊎_elim (all_fit_set x views seat v h f j u) (λ (same : option_map origin_of v ≡ u). subst (Fits x) same (origin_fits x v f))
    (at_snoc (set views seat v) (option_map origin_of v) u j e)

pub merges : (seat : ℕ) (v : Option Progress) (other : ℕ) (w : Option Progress) → Merges AllFit seat v other w w None
merges seat v other w x views h at apart there =
    let f : Fits x w = ⊎_elim (λ (t : (other ≡ seat) × (w ≡ w)). absurd (apart t.0)) (λ (t : (other ≢ seat) × (get_elem? views other ≡ some w)). h other w t.1)
    (at_set views seat other w w there) in
    all_fit_set x (set views seat w) other None (all_fit_set x views seat w h f) tt
