-- The superstates around, by their flags and by their first aborts, and the transitions that look for those.
use Rattle.std.proofs.Common.{◌≡◌, ℕ, suc, ◌+◌, ◌<◌, Bool, true, false, ◌||◌, Option, Some, None, List, [], ◌∷◌, ◌++◌, length, if◌then◌else◌, refl, ap, ◌∙◌}
use Rattle.std.specs.List.{list_any}
use Rattle.core_charts.specs.declared.region.Transition.{Transition}
use Rattle.core_charts.specs.Aborts.{has_aborts, has_strong, has_weak}
use Rattle.core_charts.specs.Elements.{Contents}
use Rattle.abort_expansion.specs.declared.flags.Flags.{Flags}
use Rattle.abort_expansion.specs.Flags.{flags_of, given, is_there, one}
use Rattle.abort_expansion.specs.Flags as flags
use Rattle.abort_expansion.specs.Transitions.{check, strong_checks, weak_checks}
use Rattle.node_elements.specs.declared.expansion.around.Around.{Around}
use Rattle.node_elements.specs.declared.expansion.around.Sort.{Sort}
use Rattle.node_elements.specs.declared.expansion.around.Sort.TheVariants as sort
use Rattle.node_elements.specs.ExpansionOrigins.{aborts_around, around_of, first_abort, first_of, is_of, weak_around}
use Rattle.node_elements.specs.ExpansionOrigins as origin
use Rattle.core_charts.proofs.Standing.{At, below}
use Rattle.node_elements.proofs.Coming.{Comes, both_come, moves, none_comes}

-- where there is a flag there is a transition, which is one of the chart
abbrev pub Matches : Contents → Option ℕ → Option ℕ → Type 0
Matches all (Some x) (Some n) = n < length all.transitions
Matches all None None = Unit {0}
Matches all f o = ⊥

abbrev pub Encloses : Contents → List Flags → List Around → Type 0
Encloses all [] [] = Unit {0}
Encloses all (f ∷ fs) (a ∷ bs) = Matches all f.strong a.strong × (Matches all f.weak a.weak × Encloses all fs bs)
Encloses all fs bs = ⊥

pub encloses_more : (all : Contents) (fs : List Flags) (bs : List Around) (f : Flags) (a : Around) → Encloses all fs bs →
    Matches all f.strong a.strong → Matches all f.weak a.weak → Encloses all (fs ++ f ∷ []) (bs ++ a ∷ [])
encloses_more all [] [] f a h strong weak = (strong, (weak, tt))
encloses_more all [] (b ∷ bs) f a h strong weak = absurd h
encloses_more all (g ∷ fs) [] f a h strong weak = absurd h
encloses_more all (g ∷ fs) (b ∷ bs) f a h strong weak = (h.0, (h.1.0, encloses_more all fs bs f a h.1.1 strong weak))

-- ---- both tell the same

there_alike : (all : Contents) (f o : Option ℕ) → Matches all f o → is_there f ≡ is_there o
there_alike all (Some x) (Some n) h = refl
there_alike all (Some x) None h = absurd h
there_alike all None (Some n) h = absurd h
there_alike all None None h = refl

pub weak_alike : (all : Contents) (fs : List Flags) (bs : List Around) → Encloses all fs bs → flags.weak_around fs ≡ weak_around bs
weak_alike all [] [] h = refl
weak_alike all [] (a ∷ bs) h = absurd h
weak_alike all (f ∷ fs) [] h = absurd h
weak_alike all (f ∷ fs) (a ∷ bs) h =
    ap (λ b. b || flags.weak_around fs) (there_alike all f.weak a.weak h.1.0) ∙ ap (λ b. is_there a.weak || b) (weak_alike all fs bs h.1.1)

pub aborts_alike : (all : Contents) (fs : List Flags) (bs : List Around) → Encloses all fs bs → flags.aborts_around fs ≡ aborts_around bs
aborts_alike all [] [] h = refl
aborts_alike all [] (a ∷ bs) h = absurd h
aborts_alike all (f ∷ fs) [] h = absurd h
aborts_alike all (f ∷ fs) (a ∷ bs) h =
    ap (λ b. (b || is_there f.weak) || flags.aborts_around fs) (there_alike all f.strong a.strong h.0)
    ∙ ap (λ b. (is_there a.strong || b) || flags.aborts_around fs) (there_alike all f.weak a.weak h.1.0)
    ∙ ap (λ b. (is_there a.strong || is_there a.weak) || b) (aborts_alike all fs bs h.1.1)

-- ---- the first of a sort

pub first_matches : (all : Contents) (s : Sort) (x : ℕ) (own : List Transition) (n : ℕ) → At all.transitions n own →
    Matches all (given (list_any (λ t. is_of s t.kind) own) x) (first_of s own n)
first_matches all s x [] n h = tt
first_matches all s x (t ∷ own) n h = by (is_of s t.kind) (first_matches all s x own (suc n) h.1)
  where
    by : (b : Bool) → Matches all (given (list_any (λ t. is_of s t.kind) own) x) (first_of s own (suc n)) →
        Matches all (given (b || list_any (λ t. is_of s t.kind) own) x) (if b then Some n else first_of s own (suc n))
    by true later = below all.transitions n t h.0
    by false later = later

-- the first abort, where there is one
abbrev pub FirstAbort : Contents → Bool → Option ℕ → Type 0
FirstAbort all true (Some n) = n < length all.transitions
FirstAbort all false None = Unit {0}
FirstAbort all b o = ⊥

first_by : (all : Contents) (a b : Bool) (x y : ℕ) (s w : Option ℕ) → Matches all (given a x) s → Matches all (given b y) w →
    FirstAbort all (a || b) (first_abort (record { strong = s; weak = w }))
first_by all true b x y (Some n) w h k = h
first_by all true b x y None w h k = absurd h
first_by all false true x y (Some n) w h k = absurd h
first_by all false true x y None (Some n) h k = k
first_by all false true x y None None h k = absurd k
first_by all false false x y (Some n) w h k = absurd h
first_by all false false x y None (Some n) h k = absurd k
first_by all false false x y None None h k = tt

pub first_abort_of : (all : Contents) (own : List Transition) (n : ℕ) → At all.transitions n own →
    FirstAbort all (has_aborts own) (first_abort (around_of own n))
first_abort_of all own n h =
    first_by all (has_strong own) (has_weak own) 0 0 (first_of sort.Strong own n) (first_of sort.Weak own n)
    (first_matches all sort.Strong 0 own n h) (first_matches all sort.Weak 0 own n h)

pub encloses_own : (all : Contents) (fs : List Flags) (bs : List Around) (weak : Bool) (own : List Transition) (x n : ℕ) →
    Encloses all fs bs → At all.transitions n own → Encloses all (fs ++ flags_of weak own x ∷ []) (bs ++ around_of own n ∷ [])
encloses_own all fs bs weak own x n h at =
    encloses_more all fs bs (flags_of weak own x) (around_of own n) h (first_matches all sort.Strong x own n at)
    (first_matches all sort.Weak (x + one (has_strong own)) own n at)

-- ---- checks

pub check_comes : (all : Contents) (immediate : Bool) (left : ℕ) (f o : Option ℕ) → Matches all f o →
    Comes all (moves (check immediate left f)) (origin.check o)
check_comes all immediate left (Some x) (Some n) h =
    record { regions = tt; states = tt; transitions = (h, tt); effects = tt; stands = refl }
check_comes all immediate left (Some x) None h = absurd h
check_comes all immediate left None (Some n) h = absurd h
check_comes all immediate left None None h = none_comes all

pub strong_come : (all : Contents) (immediate : Bool) (left : ℕ) (fs : List Flags) (bs : List Around) → Encloses all fs bs →
    Comes all (moves (strong_checks immediate left fs)) (origin.strong_checks bs)
strong_come all immediate left [] [] h = none_comes all
strong_come all immediate left [] (a ∷ bs) h = absurd h
strong_come all immediate left (f ∷ fs) [] h = absurd h
strong_come all immediate left (f ∷ fs) (a ∷ bs) h =
    both_come all (moves (check immediate left f.strong)) (moves (strong_checks immediate left fs)) (origin.check a.strong) (origin.strong_checks bs)
    (check_comes all immediate left f.strong a.strong h.0) (strong_come all immediate left fs bs h.1.1)

pub weak_come : (all : Contents) (immediate : Bool) (left : ℕ) (fs : List Flags) (bs : List Around) → Encloses all fs bs →
    Comes all (moves (weak_checks immediate left fs)) (origin.weak_checks bs)
weak_come all immediate left [] [] h = none_comes all
weak_come all immediate left [] (a ∷ bs) h = absurd h
weak_come all immediate left (f ∷ fs) [] h = absurd h
weak_come all immediate left (f ∷ fs) (a ∷ bs) h =
    both_come all (moves (check immediate left f.weak)) (moves (weak_checks immediate left fs)) (origin.check a.weak) (origin.weak_checks bs)
    (check_comes all immediate left f.weak a.weak h.1.0) (weak_come all immediate left fs bs h.1.1)
