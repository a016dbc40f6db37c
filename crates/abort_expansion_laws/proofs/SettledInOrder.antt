-- One region after the other is settled, from the least number up; then what corresponds does.
use Rattle.std.proofs.Common.{◌≡◌, ◌≢◌, ℕ, zero, suc, ◌+◌, ◌<◌, ◌≤◌, ⊎_elim, Bool, true, false, List, [], ◌∷◌, length, Contains, refl, sym}
use Rattle.std.proofs.Common.{ap, subst, ◌∙◌, arith, if◌then◌else◌}
use Rattle.chart_machine.specs.declared.standing.Standing.{Standing}
use Rattle.chart_machine.specs.declared.standing.Standing.TheVariants as at
use Rattle.chart_machine.specs.declared.standing.Configuration.{Configuration}
use Rattle.chart_machine.specs.declared.table.Table.{Table}
use Rattle.chart_machine.specs.Table.{state_at}
use Rattle.chart_machine.specs.Turns.{standing_of, has_ended}
use Rattle.chart_machine.specs.Machine.{machine}
use Rattle.tick_laws.proofs.Lists.{same_or_not}
use Rattle.abort_expansion_laws.specs.Stages.{Entry}
use Rattle.abort_expansion_laws.proofs.Supplying.{climbs_fewer}
use Rattle.abort_expansion_laws.proofs.Segments.{Segment, segment_on}
use Rattle.chart_machine_laws.proofs.LyingIn.{IsNested, around, holder, head_in}
use Rattle.abort_expansion_laws.proofs.TablesCorrespond.{IsThere}
use Rattle.abort_expansion_laws.specs.CoreRows.{Images, CoreRows}
use Rattle.abort_expansion_laws.specs.Related.{Stands, Stores}
use Rattle.abort_expansion_laws.specs.Related.{still_in, Related}
use Rattle.abort_expansion_laws.proofs.StageReached.{Stage}
use Rattle.abort_expansion_laws.proofs.ImageSteps.{pair}
use Rattle.abort_expansion_laws.proofs.Pending.{is_trying, Sound, IsOpening, IsStarting, IsJoining, Waits, settled, opening, starting, joining, ending}
use Rattle.abort_expansion_laws.proofs.Pending.{hidden, Covered, goes_in, still_going, Flagged, Pending, Reached, never_settled, quiet, never_joined}
use Rattle.abort_expansion_laws.proofs.NumberedRegions.{is_region}

pub ended_back : (x : Standing) → has_ended x ≡ true → x ≡ at.Ended
ended_back at.Outside e = absurd cc
ended_back at.Ended e = refl
ended_back (at.Trying s tests) e = absurd cc
ended_back (at.Entering s tests) e = absurd cc
ended_back (at.Guarding s tests) e = absurd cc
ended_back (at.Within s tests) e = absurd cc
ended_back (at.Acting s effects p) e = absurd cc

module _ (k core : Table) (i : Images) (rows : CoreRows k core i) (tree : IsNested k) (counts : ℕ → Bool) (written_at : ℕ → ℕ)
    (Told : Configuration → Entry → Type 0)
    (deeper : (q s : ℕ) → Contains (around k q) s → holder k s < q) (c : Configuration) (sound : Sound k core i c) where
  abbrev pub all : ℕ
  all = suc (length k.regions)

  pub there_in : (r : ℕ) → standing_of c r ≢ at.Outside → IsThere k r
  there_in = is_region k c sound.no_chart sound.chart_regions

  pub opening_there : (d : Configuration) (s : ℕ) → IsOpening k core i c d s → IsThere k (holder k s)
  opening_there d s o = there_in (holder k s) (λ e. let wrong : at.Within s o.tests ≡ at.Outside = sym o.open_in_chart ∙ e in absurd cc)

  -- ---- when all are settled

  module _ (d : Configuration) (p : Pending k core i c all d) where
    one_going : (r : ℕ) (b : Bool) → has_ended (standing_of c r) ≡ b → ◌≡◌ {A = ℕ} (if goes_in k core i c d r then 1 else 0) (if b then 0 else 1)
    one_going r false e = rw (e) refl
    one_going r true e =
        let is : standing_of c r ≡ at.Ended = ended_back (standing_of c r) e in
        let there : IsThere k r = there_in r (λ w. let wrong : at.Ended ≡ at.Outside = sym is ∙ w in absurd cc) in
        let no : is_trying (standing_of d (i.thread_of r)) ≡ false =
        quiet k core i c r (standing_of c r) (standing_of d (i.thread_of r)) (p.done r there there.1) is in
        rw (e, no) refl

    as_many : (rs : List ℕ) → still_going k core i c d rs ≡ still_in k core i c rs
    as_many [] = refl
    as_many (r ∷ rs) = rw (one_going r (has_ended (standing_of c r)) refl, as_many rs) refl

    none_covered : (s : ℕ) → Covered k core i c d s → ⊥
    none_covered s covered =
        let there = (opening_there d covered.0 covered.1).1 in
        let low = p.late covered.0 covered.1 in omega (there, low, arith)

    pub all_settled : Related k core i c d
    all_settled =
        record {
          more = p.more;
          variables = p.variables;
          flag_count = p.flag_count;
          chart_regions = sound.chart_regions;
          core_regions = p.core_regions;
          values = sound.values;
          no_chart = sound.no_chart;
          no_core = p.no_core;
          regions = λ r there. p.done r there there.1;
          watchers = λ o there has. ⊎_elim (λ w. w) (λ covered. absurd (none_covered o covered.1)) (p.watchers o there has);
          flags = λ s there inner.
              ⊎_elim
              (λ (down : Flagged k core i c d s). record {
                strong = down.strong;
                weak = down.weak;
                counter = subst (Stores k core i d.variables (i.flags_of s).counter) (as_many (state_at k s).regions) down.counter;
              })
              (λ covered. absurd (none_covered s covered)) (p.flags s there inner);
          enclosed = sound.enclosed;
          opened = sound.opened;
          closes_last = sound.closes_last;
          calm = sound.calm;
          unseen = p.unseen;
        }

  -- ---- who is settled already

  later : (m n : ℕ) → n ≤ m → m ≢ n → suc n ≤ m
  later m n le ne = grind arith

  pub skips : (n : ℕ) (d : Configuration) → Pending k core i c n d → (IsThere k n → Stands k core i c n (standing_of c n) (standing_of d (i.thread_of n))) →
      Pending k core i c (suc n) d
  skips n d p own_one =
      record {
        more = p.more;
        variables = p.variables;
        flag_count = p.flag_count;
        core_regions = p.core_regions;
        no_core = p.no_core;
        waits = p.waits;
        done = λ r there lt.
            ⊎_elim (λ e. subst (λ q. Stands k core i c q (standing_of c q) (standing_of d (i.thread_of q))) (sym e) (own_one (subst (IsThere k) e there)))
            (λ ne. p.done r there (let gt : r ≢ n = ne in below r n lt gt)) (same_or_not r n);
        watchers = p.watchers;
        unseen = p.unseen;
        flags = p.flags;
        joinable = p.joinable;
        ready = p.ready;
        late = λ s o.
            later (holder k s) n (p.late s o)
            (λ e.
            let there : IsThere k n = subst (IsThere k) e (opening_there d s o) in
            never_settled k core i c d s n (standing_of c n) (standing_of d (i.thread_of n)) o.tests (i.entry_of s) _ o.prepared (own_one there)
            (subst (λ q. standing_of c q ≡ at.Within s o.tests) e o.open_in_chart) (ap (λ q. standing_of d (i.thread_of q)) (sym e) ∙ o.preparing));
      }
    where
      below : (r n : ℕ) → r < suc n → r ≢ n → r < n
      below r n lt ne = grind arith

  -- ---- one region

  abbrev pub Piece : ℕ → Configuration → Type 0
  Piece n d = Segment (machine core) (pair k core i rows tree counts written_at) Told d (Reached k core i c d) (λ last. Reached k core i c last) []
      (Pending k core i c (suc n))

  -- the three that make steps
  pub record Steps : Type 0 where
    pub starts : (n : ℕ) (d : Configuration) → Pending k core i c n d → IsThere k n → (s : ℕ) → IsStarting k core i c d n s → Piece n d
    pub joins : (n : ℕ) (d : Configuration) → Pending k core i c n d → IsThere k n → (s : ℕ) → holder k s ≡ n → IsJoining k core i c d s → Piece n d
    pub opens : (n : ℕ) (d : Configuration) → Pending k core i c n d → IsThere k n → (s : ℕ) → holder k s ≡ n → IsOpening k core i c d s → Piece n d

  module _ (steps : Steps) where
    stays_so : (n : ℕ) (d : Configuration) → Pending k core i c (suc n) d → Piece n d
    stays_so n d p =
        record {
          log = [];
          last = d;
          follows = refl;
          charted = refl;
          fits = tt;
          climbs = λ rest climbs. climbs;
          reaches = p;
        }

    by_sort : (n : ℕ) (d : Configuration) → Pending k core i c n d → IsThere k n → Waits k core i c d n → Piece n d
    by_sort n d p there (settled stands) = stays_so n d (skips n d p (λ t. stands))
    by_sort n d p there (opening s held o) = steps.opens n d p there s held o
    by_sort n d p there (starting s o) = steps.starts n d p there s o
    by_sort n d p there (joining s held o) = steps.joins n d p there s held o
    by_sort n d p there (ending s ss direct o over idle) =
        let up = deeper n s (subst (λ zs. Contains zs s) (sym direct) (head_in s ss)) in
        let holds : IsThere k (holder k s) = there_in (holder k s) (λ e. let wrong : at.Within s o.tests ≡ at.Outside = sym o.open_in_chart ∙ e in absurd cc) in
        absurd (never_joined k core i c s (holder k s) (standing_of c (holder k s)) (standing_of d (i.thread_of (holder k s))) o.tests _ o.over
        (p.done (holder k s) holds up) o.open_in_chart o.forked)
    by_sort n d p there (hidden s inner o out) =
        let up = deeper n s inner in let low = p.late s o in absurd (omega (up, low, arith))

    one : (n : ℕ) (d : Configuration) → suc n ≤ all → Pending k core i c n d → Piece n d
    one zero d lt p = stays_so 0 d (skips 0 d p (λ there. let pos_one = there.0 in absurd (omega (pos_one, arith))))
    one (suc n) d lt p = by_sort (suc n) d p (omega arith, omega (lt, arith)) (p.waits (suc n) (omega arith, omega (lt, arith)))

    from_number : (m n : ℕ) (d : Configuration) → n + m ≡ all → Pending k core i c n d →
        Segment (machine core) (pair k core i rows tree counts written_at) Told d (Reached k core i c d) (λ last. Reached k core i c last) []
        (Pending k core i c all)
    from_number zero n d e p =
        let same : n ≡ all = omega (e, arith) in
        record {
          log = [];
          last = d;
          follows = refl;
          charted = refl;
          fits = tt;
          climbs = λ rest climbs. climbs;
          reaches = subst (λ z. Pending k core i c z d) same p;
        }
    from_number (suc m) n d e p =
        let step : Piece n d = one n d (omega (e, arith)) p in
        segment_on (machine core) (pair k core i rows tree counts written_at) Told d (Reached k core i c d) (λ last. Reached k core i c last)
        (λ last. Reached k core i c last) [] []
        (Pending k core i c (suc n)) (Pending k core i c all) step
        (from_number m (suc n) step.last (omega (e, arith)) step.reaches)

    none_first : (n : ℕ) → 0 + n ≡ n
    none_first n = omega arith

    -- what was entered settles
    pub settles : (d : Configuration) → Pending k core i c 0 d →
        Segment (machine core) (pair k core i rows tree counts written_at) Told d (Reached k core i c d) (Stage k i.thread_of c) [] (Related k core i c)
    settles d p =
        let s = from_number all 0 d (none_first all) p in
        record {
          log = s.log;
          last = s.last;
          follows = s.follows;
          charted = s.charted;
          fits = s.fits;
          climbs = λ rest climbs.
              s.climbs rest (climbs_fewer (pair k core i rows tree counts written_at) (Stage k i.thread_of c s.last) (Reached k core i c s.last) rest
              (λ h n reached. reached.staged) climbs);
          reaches = all_settled s.last s.reaches;
        }
