-- A preparation's resets: the thread that holds a superstate writes its flags and its counter, one after the other, and then enters.
use Rattle.std.proofs.Common.{◌≡◌, ◌≢◌, ℕ, zero, suc, pos, ◌<◌, ◌≤◌, inl, ⊎_elim, true, false, Option, Some, None, List, [], ◌∷◌, ◌++◌, length, slice_get}
use Rattle.std.proofs.Common.{slice_set, refl, sym, ap, subst, ◌∙◌, arith}
use Rattle.std.specs.Prelude.{option_map, option_and_then}
use Rattle.std.proofs.lemmas.List.{length-set}
use Rattle.sc_values.specs.declared.value.Value.{Value}
use Rattle.sc_values.specs.declared.value.Value.TheVariants as value_is
use Rattle.sc_values.specs.declared.value.Kind.TheVariants as kind_is
use Rattle.sc_values.specs.Access.{Access, no_access}
use Rattle.sc_graph.specs.Steps.{takes_kind}
use Rattle.core_charts.specs.declared.region.Effect.{Effect}
use Rattle.chart_machine.specs.declared.standing.Standing.{Standing}
use Rattle.chart_machine.specs.declared.standing.Standing.TheVariants as at
use Rattle.chart_machine.specs.declared.standing.Configuration.{Configuration}
use Rattle.chart_machine.specs.declared.table.Table.{Table}
use Rattle.chart_machine.specs.Table.{state_at}
use Rattle.chart_machine.specs.Turns.{standing_of, guards as has_to_guard, inside, is_enabled}
use Rattle.chart_machine.specs.Steps.{moved, acts, effected, change_of, step, state_in, access_of}
use Rattle.chart_machine.specs.Machine.{machine}
use Rattle.abort_expansion.specs.Transitions.{go, put}
use Rattle.abort_expansion.specs.Superstates.{resets}
use Rattle.abort_expansion_laws.proofs.CoreSteps.{takes}
use Rattle.tick_laws.proofs.Lists.{same_or_not}
use Rattle.abort_expansion_laws.specs.Stages.{Entry, Silent, Correspondence, IsSilent, Climbs}
use Rattle.abort_expansion_laws.proofs.Supplying.{climbs_step, silent_idle, silent_set, sets}
use Rattle.abort_expansion_laws.proofs.Segments.{Segment}
use Rattle.chart_machine_laws.proofs.LyingIn.{around}
use Rattle.abort_expansion_laws.proofs.Unchanged.{get_same, get_other, stands_same, stands_other, unguarded}
use Rattle.abort_expansion_laws.proofs.MoreValues.{number_value}
use Rattle.abort_expansion_laws.proofs.FlagAccess.{put_access}

-- a variable, and the number that it becomes
abbrev pub puts : List (ℕ × ℕ) → List Effect
puts [] = []
puts (x ∷ xs) = put x.0 x.1 ∷ puts xs

abbrev pub set_all : List (ℕ × ℕ) → List Value → List Value
set_all [] values = values
set_all (x ∷ xs) values = set_all xs (slice_set values x.0 (value_is.Int (pos x.1)))

abbrev pub Every : {A : Type 0} → (A → Type 0) → List A → Type 0
Every P [] = Unit {0}
Every P (x ∷ xs) = P x × Every P xs

module _ (core : Table) (corr : Correspondence) (Told : Configuration → Entry → Type 0)
    (told : (d : Configuration) (t : ℕ) (stage : Option (ℕ × ℕ)) (a : Access) → Told d (Silent t stage a))
    (g fork : ℕ) (Before : ℕ → ℕ → Type 0) where
  -- each is a flag of a superstate that thread g holds
  pub record IsOwn (x : ℕ × ℕ) : Type 0 where
    pub flag : corr.declared ≤ x.0
    pub home : g ≡ corr.home x.0
    pub kind : takes_kind (option_map (λ z. z.kind) (slice_get core.variables x.0)) kind_is.Int ≡ true

  -- reached, but for this thread, which steps
  abbrev pub But : ℕ → ℕ → Type 0
  But h n = (g ≢ h) × Before h n

  abbrev pub entered_with : Configuration → List (ℕ × ℕ) → Configuration
  entered_with d xs = record { variables = set_all xs d.variables; regions = moved (state_at core (state_in core g fork)).entered d.regions }

  climbs_silent : (a : Access) (rest : List Entry) → Climbs corr But rest → Climbs corr But (Silent g None a ∷ rest)
  climbs_silent a rest climbs = climbs_step corr But But (Silent g None a) rest (λ h n e. absurd cc) (λ h n ne before. before) climbs

  -- one effect of these
  effect_step : (d : Configuration) (u x n : ℕ) (xs : List (ℕ × ℕ)) → ((t : ℕ) → has_to_guard (standing_of d t) ≡ false) → IsOwn (x, n) →
      standing_of d g ≡ at.Acting u (put x n ∷ puts xs) fork →
      step core g d ≡ Some (record { variables = slice_set d.variables x (value_is.Int (pos n)); regions = moved (acts core g u (puts xs) fork) d.regions })
  effect_step d u x n xs none own stands =
      let on : is_enabled core d g ≡ true = rw (stands, unguarded core d none (around core g)) refl in
      let one : effected core g u (put x n) (puts xs) fork (value_is.Int (pos n)) ≡
      Some (record { write = Some (record { variable = x; value = value_is.Int (pos n) }); moves = acts core g u (puts xs) fork }) = rw (own.kind) refl in
      let does : change_of core d g (standing_of d g) ≡ Some (record {
        write = Some (record { variable = x; value = value_is.Int (pos n) });
        moves =
            acts core g u (puts xs) fork;
      }) =
      ap (change_of core d g) stands ∙ (ap (option_and_then (effected core g u (put x n) (puts xs) fork)) (number_value n d.variables) ∙ one) in
      rw (on, does) refl

  -- a step of this thread in front
  pub silently_first : (d d1 : Configuration) (a : Access) (First : ℕ → ℕ → Type 0) (Reaches : Configuration → Type 0) → step core g d ≡ Some d1 →
      access_of (standing_of d g) ≡ a → IsSilent corr g None a →
      ((rest : List Entry) → Climbs corr But rest → Climbs corr First (Silent g None a ∷ rest)) →
      Segment (machine core) corr Told d1 But (λ last. But) [] Reaches →
      Segment (machine core) corr Told d First (λ last. But) [] Reaches
  silently_first d d1 a First Reaches steps accesses fits climbs s =
      record {
        log = Silent g None a ∷ s.log;
        last = s.last;
        follows = (ap (λ z. record { thread = g; access = z }) (sym accesses), told d g None a, (d1, steps, s.follows));
        charted = s.charted;
        fits = (fits, s.fits);
        climbs = λ rest more. climbs (s.log ++ rest) (s.climbs rest more);
        reaches = s.reaches;
      }

  there_already : (d : Configuration) (Reaches : Configuration → Type 0) → Reaches d → Segment (machine core) corr Told d But (λ last. But) [] Reaches
  there_already d Reaches reaches =
      record { log = []; last = d; follows = refl; charted = refl; fits = tt; climbs = λ rest climbs. climbs; reaches = reaches }

  module _ (overwrites : (zs : List Standing) (x : Standing) → moved (state_at core (state_in core g fork)).entered (slice_set zs g x) ≡ moved
      (state_at core (state_in core g fork)).entered zs) where
    writes_silent : (x n : ℕ) → IsOwn (x, n) → IsSilent corr g None (sets x (value_is.Int (pos n)))
    writes_silent x n own = silent_set corr g None x (value_is.Int (pos n)) own.flag (inl own.home)

    still_calm : (d : Configuration) (y : Standing) → has_to_guard y ≡ false → g < length d.regions → ((t : ℕ) → has_to_guard (standing_of d t) ≡ false) →
        (values : List Value) →
        (t : ℕ) → has_to_guard (standing_of (record { variables = values; regions = slice_set d.regions g y }) t) ≡ false
    still_calm d y calm lt none values t =
        let e : Configuration = record { variables = values; regions = slice_set d.regions g y } in
        ⊎_elim (λ is. ap (λ z. has_to_guard (standing_of e z)) is ∙ (ap has_to_guard (stands_same d e g y refl lt) ∙ calm))
        (λ ne. ap has_to_guard (stands_other d e g t y refl ne) ∙ none t) (same_or_not t g)

    -- all effects, and what is entered then
    pub all_put : (xs : List (ℕ × ℕ)) (x n u : ℕ) (d : Configuration) → ((t : ℕ) → has_to_guard (standing_of d t) ≡ false) → g < length d.regions →
        IsOwn (x, n) → Every IsOwn xs →
        standing_of d g ≡ at.Acting u (put x n ∷ puts xs) fork → Segment (machine core) corr Told d But (λ last. But) [] (λ z. z ≡ entered_with d ((x, n) ∷ xs))
    all_put [] x n u d none lt own owns stands =
        silently_first d (entered_with d ((x, n) ∷ [])) (sets x (value_is.Int (pos n))) But (λ z. z ≡ entered_with d ((x, n) ∷ []))
        (effect_step d u x n [] none own stands)
        (ap access_of stands ∙ put_access x n) (writes_silent x n own) (climbs_silent (sets x (value_is.Int (pos n))))
        (there_already (entered_with d ((x, n) ∷ [])) (λ z. z ≡ entered_with d ((x, n) ∷ [])) refl)
    all_put (y ∷ ys) x n u d none lt own owns stands =
        let a : Standing = at.Acting u (put y.0 y.1 ∷ puts ys) fork in
        let d1 : Configuration = record { variables = slice_set d.variables x (value_is.Int (pos n)); regions = slice_set d.regions g a } in
        let ends : entered_with d1 (y ∷ ys) ≡ entered_with d ((x, n) ∷ y ∷ ys) =
        ap (λ zs. record { variables = set_all ((x, n) ∷ y ∷ ys) d.variables; regions = zs }) (overwrites d.regions a) in
        silently_first d d1 (sets x (value_is.Int (pos n))) But (λ z. z ≡ entered_with d ((x, n) ∷ y ∷ ys)) (effect_step d u x n (y ∷ ys) none own stands)
        (ap access_of stands ∙ put_access x n) (writes_silent x n own) (climbs_silent (sets x (value_is.Int (pos n))))
        (subst (λ e. Segment (machine core) corr Told d1 But (λ last. But) [] (λ z. z ≡ e)) ends
        (all_put ys y.0 y.1 u d1 (still_calm d a refl lt none (slice_set d.variables x (value_is.Int (pos n))))
        (let size = length-set d.regions g a in omega (lt, size, arith)) owns.0 owns.1
        (stands_same d d1 g a refl lt)))

    -- from the preparation's last test on
    pub prepares : (xs : List (ℕ × ℕ)) (x n u : ℕ) (d : Configuration) → ((t : ℕ) → has_to_guard (standing_of d t) ≡ false) → g < length d.regions →
        IsOwn (x, n) → Every IsOwn xs →
        inside core u ≡ [] → standing_of d g ≡ at.Trying u (go true None (put x n ∷ puts xs) fork ∷ []) →
        Segment (machine core) corr Told d Before (λ last. But) [] (λ z. z ≡ entered_with d ((x, n) ∷ xs))
    prepares xs x n u d none lt own owns alone stands =
        let a : Standing = at.Acting u (put x n ∷ puts xs) fork in
        let d1 : Configuration = record { variables = d.variables; regions = slice_set d.regions g a } in
        let ends : entered_with d1 ((x, n) ∷ xs) ≡ entered_with d ((x, n) ∷ xs) =
        ap (λ zs. record { variables = set_all ((x, n) ∷ xs) d.variables; regions = zs }) (overwrites d.regions a) in
        silently_first d d1 no_access Before (λ z. z ≡ entered_with d ((x, n) ∷ xs))
        (takes core d g u (go true None (put x n ∷ puts xs) fork) [] (put x n) (puts xs) (unguarded core d none (around core g)) stands refl alone refl)
        (ap access_of stands) (silent_idle corr g None) (λ rest climbs. climbs_step corr Before But (Silent g None no_access) rest (λ h m e. absurd cc)
        (λ h m ne before. (ne, before)) climbs)
        (subst (λ e. Segment (machine core) corr Told d1 But (λ last. But) [] (λ z. z ≡ e)) ends
        (all_put xs x n u d1 (still_calm d a refl lt none d.variables) (let size = length-set d.regions g a in omega (lt, size, arith)) own owns
        (stands_same d d1 g a refl lt)))

-- ---- the values after the resets

pub set_all_other : (xs : List (ℕ × ℕ)) (values : List Value) (y : ℕ) → Every (λ (x : ℕ × ℕ). y ≢ x.0) xs → slice_get (set_all xs values) y ≡ slice_get values y
set_all_other [] values y differ = refl
set_all_other (x ∷ xs) values y differ = set_all_other xs (slice_set values x.0 (value_is.Int (pos x.1))) y differ.1 ∙
    get_other values x.0 y (value_is.Int (pos x.1)) differ.0

pub set_all_size : (xs : List (ℕ × ℕ)) (values : List Value) → length (set_all xs values) ≡ length values
set_all_size [] values = refl
set_all_size (x ∷ xs) values = set_all_size xs (slice_set values x.0 (value_is.Int (pos x.1))) ∙ sized values x.0 (value_is.Int (pos x.1))
  where
    sized : (ys : List Value) (j : ℕ) (v : Value) → length (slice_set ys j v) ≡ length ys
    sized [] j v = refl
    sized (y ∷ ys) zero v = refl
    sized (y ∷ ys) (suc j) v = ap suc (sized ys j v)

-- what a superstate resets
abbrev pub one_of : Option ℕ → ℕ → List (ℕ × ℕ) → List (ℕ × ℕ)
one_of (Some x) n rest = (x, n) ∷ rest
one_of None n rest = rest

abbrev pub reset_list : (strong weak counter : Option ℕ) → ℕ → List (ℕ × ℕ)
reset_list strong weak counter n = one_of strong 0 (one_of weak 0 (one_of counter n []))

abbrev resets_of : (strong weak counter : Option ℕ) → ℕ → List Effect
resets_of strong weak counter n = resets (record { strong = strong; weak = weak; counter = counter }) n

pub resets_are : (strong weak counter : Option ℕ) (n : ℕ) → resets_of strong weak counter n ≡ puts (reset_list strong weak counter n)
resets_are (Some x) (Some y) (Some z) n = refl
resets_are (Some x) (Some y) None n = refl
resets_are (Some x) None (Some z) n = refl
resets_are (Some x) None None n = refl
resets_are None (Some y) (Some z) n = refl
resets_are None (Some y) None n = refl
resets_are None None (Some z) n = refl
resets_are None None None n = refl

abbrev pub HasValue : List Value → Option ℕ → ℕ → Type 0
HasValue values None n = Unit {0}
HasValue values (Some x) n = slice_get values x ≡ Some (value_is.Int (pos n))

-- these differ
abbrev pub Apart : Option ℕ → Option ℕ → Type 0
Apart (Some x) (Some y) = x ≢ y
Apart a b = Unit {0}

abbrev pub IsIn : List Value → Option ℕ → Type 0
IsIn values (Some x) = x < length values
IsIn values None = Unit {0}

pub strong_reset : (strong weak counter : Option ℕ) (n : ℕ) (values : List Value) → Apart strong weak → Apart strong counter → IsIn values strong →
    HasValue (set_all (reset_list strong weak counter n) values) strong 0
strong_reset None weak counter n values a b lt = tt
strong_reset (Some x) None None n values a b lt = get_same values x (value_is.Int (pos 0)) lt
strong_reset (Some x) None (Some z) n values a b lt = set_all_other ((z, n) ∷ []) (slice_set values x (value_is.Int (pos 0))) x (b, tt) ∙
    get_same values x (value_is.Int (pos 0)) lt
strong_reset (Some x) (Some y) None n values a b lt = set_all_other ((y, 0) ∷ []) (slice_set values x (value_is.Int (pos 0))) x (a, tt) ∙
    get_same values x (value_is.Int (pos 0)) lt
strong_reset (Some x) (Some y) (Some z) n values a b lt = set_all_other ((y, 0) ∷ (z, n) ∷ []) (slice_set values x (value_is.Int (pos 0))) x (a, (b, tt)) ∙
    get_same values x (value_is.Int (pos 0)) lt

sized_in : (x : ℕ) (values : List Value) (j : ℕ) (v : Value) → x < length values → x < length (slice_set values j v)
sized_in x values j v lt = let size = set_all_size ((j, 0) ∷ []) values in let is : length (slice_set values j v) ≡ length values = sized values j v in
    omega (lt, is, arith)
  where
    sized : (ys : List Value) (j : ℕ) (v : Value) → length (slice_set ys j v) ≡ length ys
    sized [] j v = refl
    sized (y ∷ ys) zero v = refl
    sized (y ∷ ys) (suc j) v = ap suc (sized ys j v)

weak_first : (y : ℕ) (counter : Option ℕ) (n : ℕ) (values : List Value) → Apart (Some y) counter → y < length values →
    HasValue (set_all (reset_list None (Some y) counter n) values) (Some y) 0
weak_first y None n values b lt = get_same values y (value_is.Int (pos 0)) lt
weak_first y (Some z) n values b lt = set_all_other ((z, n) ∷ []) (slice_set values y (value_is.Int (pos 0))) y (b, tt) ∙
    get_same values y (value_is.Int (pos 0)) lt

pub weak_reset : (strong weak counter : Option ℕ) (n : ℕ) (values : List Value) → Apart weak counter → IsIn values weak →
    HasValue (set_all (reset_list strong weak counter n) values) weak 0
weak_reset strong None counter n values b lt = tt
weak_reset None (Some y) counter n values b lt = weak_first y counter n values b lt
weak_reset (Some x) (Some y) counter n values b lt = weak_first y counter n (slice_set values x (value_is.Int (pos 0))) b
    (sized_in y values x (value_is.Int (pos 0)) lt)

counter_second : (weak : Option ℕ) (z n : ℕ) (values : List Value) → z < length values → HasValue (set_all (reset_list None weak (Some z) n) values) (Some z) n
counter_second None z n values lt = get_same values z (value_is.Int (pos n)) lt
counter_second (Some y) z n values lt = get_same (slice_set values y (value_is.Int (pos 0))) z (value_is.Int (pos n))
    (sized_in z values y (value_is.Int (pos 0)) lt)

pub counter_reset : (strong weak counter : Option ℕ) (n : ℕ) (values : List Value) → IsIn values counter →
    HasValue (set_all (reset_list strong weak counter n) values) counter n
counter_reset strong weak None n values lt = tt
counter_reset None weak (Some z) n values lt = counter_second weak z n values lt
counter_reset (Some x) weak (Some z) n values lt = counter_second weak z n (slice_set values x (value_is.Int (pos 0)))
    (sized_in z values x (value_is.Int (pos 0)) lt)
