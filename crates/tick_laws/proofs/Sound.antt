-- Whom a step moves: its own thread, and children that are absent or ended. So enabled threads don't
-- disturb one another.
use Rattle.std.proofs.Common.{◌≡◌, ◌≢◌, ℕ, ◌⊎◌, List, [], ◌∷◌, Some, Contains, refl, sym, ap, subst, ◌∙◌, inl, inr, ⊎_elim}
use Rattle.std.proofs.lemmas.Option.{same_Some}
use Rattle.sc_graph.specs.declared.control.Control.{Control}
use Rattle.sc_graph.specs.declared.control.Status.{Status}
use Rattle.sc_graph.specs.declared.control.Status.TheVariants as status
use Rattle.sc_graph.specs.Program.{Program, owner_of, parent_of}
use Rattle.sc_graph.specs.Threads.{IsFork}
use Rattle.sc_graph.specs.Control.{status_of}
use Rattle.sc_graph.specs.Steps.{Effect, after}
use Rattle.sc_graph.specs.Tick.{IsConfiguration, IsPlace, IsPresent}
use Rattle.sc_graph.specs.Valid.{IsFormed}
use Rattle.tick_laws.proofs.Lists.{contains_none, contains_cons}
use Rattle.tick_laws.proofs.Formed.{join_owned, JoinOf, join_of, fork_join_owned, child_parent}
use Rattle.tick_laws.proofs.Views.{Completes, Enabled, stands, completes, Simple, Forks, Joins, Does, simple, forks, joins}
use Rattle.tick_laws.proofs.Moves.{IsMoved, moved_other, entering_movers, leaving_movers}

-- absent or ended
abbrev pub IsIdle : Status → Type 0
IsIdle status.Absent = Unit {0}
IsIdle status.Ended = Unit {0}
IsIdle other = ⊥

-- thread k is an absent or ended child of thread t
pub record IsIdleChild (p : Program) (c : Control) (t k : ℕ) : Type 0 where
  pub parent : parent_of p k ≡ Some t
  pub idle : IsIdle (status_of c k)

pub not_idle : (p : Program) (c : Control) (t : ℕ) → Enabled p c t → ¬ IsIdle (status_of c t)
not_idle p c t (stands n at) h = subst IsIdle at h
not_idle p c t (completes w) h = subst IsIdle w.at h

not_present : (s : Status) → ¬ IsPresent s → s ≡ status.Absent
not_present status.Absent h = refl
not_present (status.At n) h = absurd (h tt)
not_present (status.Waiting n) h = absurd (h tt)
not_present (status.Paused n) h = absurd (h tt)
not_present status.Ended h = absurd (h tt)

one_move : (p : Program) (c : Control) (t : ℕ) (e : Effect) (d : Simple p c t e) → e.moves ≡ (t, d.to) ∷ []
one_move p c t e d = ap (λ (x : Effect). x.moves) d.is

module _ (p : Program) (formed : IsFormed p) where
  module _ (c : Control) (ok : IsConfiguration p c) where
    pub node_owned : (t n : ℕ) → status_of c t ≡ status.At n → owner_of p n ≡ Some t
    node_owned t n at = let place : IsPlace p t (status.At n) = subst (IsPlace p t) at (ok.places t) in place.0

    pub waits_owned : (t j : ℕ) → status_of c t ≡ status.Waiting j → owner_of p j ≡ Some t
    waits_owned t j at = join_owned p t j (subst (IsPlace p t) at (ok.places t))

    pub forks_is : (t : ℕ) (e : Effect) (d : Forks p c t e) → IsFork p d.node t d.children d.join
    forks_is t e d = record { owned = node_owned t d.node d.at; forks = d.found }

    -- the fork to whose join a thread has come
    pub fork_of_join : (t j : ℕ) (children : List ℕ) → status_of c t ≡ status.Waiting j → (of : JoinOf p j children) → IsFork p of.fork t children j
    fork_of_join t j children at of =
        subst (λ u. IsFork p of.fork u children j)
        (same_Some of.thread t (sym (fork_join_owned p formed of.fork of.thread children j of.is) ∙ waits_owned t j at)) of.is

    pub joins_child : (t : ℕ) (e : Effect) (d : Joins p c t e) (k : ℕ) → Contains d.children k → parent_of p k ≡ Some t
    joins_child t e d k h =
        let of = join_of p d.join d.children d.joined in
        child_parent p formed of.fork t d.children d.join k (fork_of_join t d.join d.children d.at of) h

    pub completes_child : (t : ℕ) (w : Completes p c t) (k : ℕ) → Contains w.children k → parent_of p k ≡ Some t
    completes_child t w k h =
        let of = join_of p w.join w.children w.joined in
        child_parent p formed of.fork t w.children w.join k (fork_of_join t w.join w.children w.at of) h

    -- before a fork its children are absent
    pub unforked : (t : ℕ) (e : Effect) (d : Forks p c t e) (k : ℕ) → Contains d.children k → status_of c k ≡ status.Absent
    unforked t e d k h =
        not_present (status_of c k) (λ present.
        at_no_join t d.node d.join d.at ((ok.present d.node t d.children d.join k (forks_is t e d) h).0 present))
      where
        at_no_join : (u n j : ℕ) → status_of c u ≡ status.At n → status_of c u ≡ status.Waiting j → ⊥
        at_no_join u n j at waits = cc

    pub whom : (t : ℕ) (e : Effect) → Does p c t e → (k : ℕ) → IsMoved e.moves k → (k ≡ t) ⊎ IsIdleChild p c t k
    whom t e (simple d) k h =
        ⊎_elim (λ same. inl (sym same)) (λ none. absurd (contains_none k none))
        (contains_cons t k [] (subst (λ moves. IsMoved moves k) (one_move p c t e d) h))
    whom t e (forks d) k h =
        ⊎_elim (λ same. inl (sym same))
        (λ tail. let child = entering_movers p d.children k tail in
        inr (record {
          parent = child_parent p formed d.node t d.children d.join k (forks_is t e d) child;
          idle = subst IsIdle (sym (unforked t e d k child)) tt;
        }))
        (contains_cons t k _ (subst (λ (x : Effect). IsMoved x.moves k) d.is h))
    whom t e (joins d) k h =
        ⊎_elim (λ same. inl (sym same))
        (λ tail. let child = leaving_movers d.children k tail in
        inr (record { parent = joins_child t e d k child; idle = subst IsIdle (sym (d.ended k child)) tt }))
        (contains_cons t k _ (subst (λ (x : Effect). IsMoved x.moves k) d.is h))

    -- no thread is moved by the steps of two
    pub apart : (t u : ℕ) → t ≢ u → Enabled p c t → Enabled p c u → (e f : Effect) → Does p c t e → Does p c u f → (k : ℕ) → IsMoved e.moves k
        → IsMoved f.moves k → ⊥
    apart t u differ enabled_t enabled_u e f does_t does_u k by_t by_u =
        ⊎_elim
        (λ is_t. ⊎_elim (λ is_u. differ (sym is_t ∙ is_u)) (λ child. not_idle p c t enabled_t (subst (λ i. IsIdle (status_of c i)) is_t child.idle))
        (whom u f does_u k by_u))
        (λ child. ⊎_elim
        (λ is_u. not_idle p c u enabled_u (subst (λ i. IsIdle (status_of c i)) is_u child.idle))
        (λ other. differ (same_Some t u (sym child.parent ∙ other.parent)))
        (whom u f does_u k by_u))
        (whom t e does_t k by_t)

    -- another's step leaves a enabled thread where it is
    pub keeps_self : (t u : ℕ) → t ≢ u → Enabled p c t → (f : Effect) → Does p c u f → status_of (after f c) t ≡ status_of c t
    keeps_self t u differ enabled_t f does_u =
        moved_other f.moves c.statuses t (λ moved.
        ⊎_elim differ (λ child. not_idle p c t enabled_t child.idle) (whom u f does_u t moved))

    -- and its absent or ended children
    pub keeps_child : (t u : ℕ) → t ≢ u → Enabled p c u → (k : ℕ) → IsIdleChild p c t k → (f : Effect) → Does p c u f → status_of (after f c) k ≡ status_of c k
    keeps_child t u differ enabled_u k child f does_u =
        moved_other f.moves c.statuses k (λ moved.
        ⊎_elim
        (λ is_u. not_idle p c u enabled_u (subst (λ i. IsIdle (status_of c i)) is_u child.idle))
        (λ other. differ (same_Some t u (sym child.parent ∙ other.parent)))
        (whom u f does_u k moved))

    -- ended children of a finished fork stay so
    pub stay_ended : (t u : ℕ) → t ≢ u → (w : Completes p c t) → Enabled p c u → (f : Effect) → Does p c u f → (k : ℕ) → Contains w.children k
        → status_of (after f c) k ≡ status.Ended
    stay_ended t u differ w enabled_u f does_u k h =
        keeps_child t u differ enabled_u k (record { parent = completes_child t w k h; idle = subst IsIdle (sym (w.ended k h)) tt }) f does_u ∙ w.ended k h

    completes_kept : (t u : ℕ) → t ≢ u → (w : Completes p c t) → Enabled p c u → (f : Effect) → Does p c u f → Completes p (after f c) t
    completes_kept t u differ w enabled_u f does_u =
        record {
          join = w.join;
          children = w.children;
          at = keeps_self t u differ (completes w) f does_u ∙ w.at;
          joined = w.joined;
          ended = stay_ended t u differ w enabled_u f does_u;
        }

    pub stays_enabled : (t u : ℕ) → t ≢ u → Enabled p c t → Enabled p c u → (f : Effect) → Does p c u f → Enabled p (after f c) t
    stays_enabled t u differ (stands n at) enabled_u f does_u = stands n (keeps_self t u differ (stands n at) f does_u ∙ at)
    stays_enabled t u differ (completes w) enabled_u f does_u = completes (completes_kept t u differ w enabled_u f does_u)
