-- Steps of threads that fork and join.
use Rattle.std.proofs.Common.{◌≡◌, ◌≢◌, ℕ, zero, suc, ◌+◌, ◌<◌, ◌⊎◌, inl, inr, ⊎_elim, Bool, true, false, not, ◌||◌, if◌then◌else◌, nat_eq, Some, None, List}
use Rattle.std.proofs.Common.{[], ◌∷◌, set, length, option_map, Contains, refl, sym, ap, subst, ◌∙◌, arith}
use Rattle.std.specs.List.{list_all, list_any}
use Rattle.sc_graph.specs.Steps.{only_if}
use Rattle.core_charts.specs.declared.region.Transition.{Transition}
use Rattle.core_charts.specs.Tests.{terminations, is_join}
use Rattle.chart_machine.specs.declared.standing.Standing.{Standing}
use Rattle.chart_machine.specs.declared.standing.Standing.TheVariants as stand
use Rattle.chart_machine.specs.declared.standing.Configuration.{Configuration}
use Rattle.chart_machine.specs.declared.table.Table.{Table}
use Rattle.chart_machine.specs.Table.{state_at, region_at}
use Rattle.chart_machine.specs.Turns.{standing_of, has_work, has_ended, inside, inside_is_done, numbered_from}
use Rattle.chart_machine.specs.Steps.{moved, verdict, taken, acts, to}
use Rattle.chart_machine.specs.Steps.{after as chart_after, step as chart_step}
use Rattle.scl.specs.Block.{Block, End, Fork, Pause, Branches, NoMore}
use Rattle.scl.specs.Labels.{settled}
use Rattle.scl.specs.Places.{threads_of}
use Rattle.scl.specs.Numbering.{Numbered}
use Rattle.scl.specs.Meaning.{State, Doing, Away, Todo, Forked, Finished, doing, all_finished, joined, forked, after, change_of, step}
use Rattle.chart_lowering_laws.proofs.NumberTests.{nat_same}
use Rattle.chart_lowering_laws.specs.Layout.{Layout, InRegion, Takes, Behind, Opens, IsSuper, LiesIn, IsRegionOf, Lowers}
use Rattle.chart_lowering_laws.specs.Corresponds.{Live, HeldBy, Nothing, Ready, Turn, giving, giving_in, giving_of_root, given, fresh, Fits, IsAtRoot}
use Rattle.chart_lowering_laws.specs.Corresponds.{Corresponds}
use Rattle.chart_lowering_laws.proofs.Matching.{Onward, is_within, acts_on, any_contains, fresh_enters}
use Rattle.chart_lowering_laws.proofs.Structure.{given_top, given_in}
use Rattle.chart_lowering_laws.proofs.Updating.{After}
use Rattle.chart_lowering_laws.proofs.Stepping.{thread_within, set_doing_same, set_doing_other, set_doing_length}
use Rattle.chart_lowering_laws.proofs.Silently.{member_or_not, FirstOf, AllEntered, regions_entered, fork_silently, top_silently}
use Rattle.chart_lowering_laws.proofs.Joining.{gone, not_gone, gone_length, done_below}
use Rattle.chart_lowering_laws.proofs.Joining.{joined as chart_joined}
use Rattle.chart_lowering_laws.proofs.Steps.{step_is, live_as}
use Rattle.chart_lowering_laws.proofs.Finished.{each_all, chosen_each, numbered_from_least, all_have_finished, ended_is}

-- parts of a fork
abbrev pub fork_branches : Block → Branches
fork_branches (Fork n branches rest) = branches
fork_branches other = NoMore

abbrev fork_rest : Block → Block
fork_rest (Fork n branches rest) = rest
fork_rest other = End 0

module _ (k : Table) (p : Numbered) (l : Layout) (low : Lowers k p l) (c : Configuration) (s : State) (corr : Corresponds k p l c s) where
  -- the threads after a join
  abbrev joined_state : ℕ → Branches → Block → State
  joined_state r branches first = after (joined r (threads_of branches) first) s

  record JoinedAt (f : State) (r : ℕ) (threads : List ℕ) (first : Block) : Type 0 where
    long : length f.threads ≡ length s.threads
    is_at : doing f r ≡ Todo first
    away : (q : ℕ) → Contains threads q → doing f q ≡ Away
    others : (q : ℕ) → q ≢ r → ¬ Contains threads q → doing f q ≡ doing s q
    variables : f.variables ≡ s.variables

  joined_at : (r : ℕ) (branches : Branches) (first : Block) → r < length s.threads → ¬ Contains (threads_of branches) r →
      JoinedAt (joined_state r branches first) r (threads_of branches) first
  joined_at r branches first lt none = record {
    long = gone_length (threads_of branches) (set s.threads r (Todo first)) ∙ set_doing_length s.threads r (Todo first);
    is_at = not_gone (threads_of branches) (set s.threads r (Todo first)) r none ∙ set_doing_same s.threads r (Todo first) lt;
    away = λ q h. gone (threads_of branches) (set s.threads r (Todo first)) q h;
    others = λ q differ outer. not_gone (threads_of branches) (set s.threads r (Todo first)) q outer ∙ set_doing_other s.threads r q (Todo first)
        (λ same. differ (sym same));
    variables = refl;
  }

  -- a thread whose branches have all finished joins
  join_step : (r n : ℕ) (branches : Branches) (rest first : Block) → doing s r ≡ Forked n branches rest → all_finished s (threads_of branches) ≡ true →
      settled p.root rest ≡ Some first → step p r s ≡ Some (joined_state r branches first)
  join_step r n branches rest first is finished leads =
      ap (λ d. option_map (λ e. after e s) (change_of p s r d)) is
      ∙ ap (λ b. option_map (λ e. after e s) (only_if b (option_map (joined r (threads_of branches)) (settled p.root rest)))) finished
      ∙ ap (λ o. option_map (λ e. after e s) (option_map (joined r (threads_of branches)) o)) leads

  -- a region in a superstate whose thread has forked
  pub record InFork (r u n : ℕ) (branches : Branches) (rest : Block) : Type 0 where
    pub within : InRegion k r u
    pub super : IsSuper k p.root l u
    pub threads : threads_of branches ≡ (state_at k u).regions
    pub behind : Behind k p.root l u (terminations (state_at k u).transitions) rest

  pub in_fork : (r u n : ℕ) (branches : Branches) (rest : Block) → IsRegionOf k r → given k c s (region_at k r).around ≡ Turn →
      standing_of c r ≡ stand.Within u (terminations (state_at k u).transitions) → doing s r ≡ Forked n branches rest →
      InFork r u n branches rest
  in_fork r u n branches rest at_r turn stands is =
      let tests : List Transition = terminations (state_at k u).transitions in
      let now : Live k p.root l r (stand.Within u tests) (Forked n branches rest) × HeldBy k p.root l r (stand.Within u tests) =
      live_as k p l low c s corr r at_r turn (stand.Within u tests) (Forked n branches rest) stands is in
      let h : IsSuper k p.root l u = now.1.1 in
      let same : Fork h.node h.branches h.rest ≡ Fork n branches rest = sym h.fork ∙ now.0.1 in
      record {
        within = now.1.0;
        super = h;
        threads = ap (λ b. threads_of (fork_branches b)) (sym same) ∙ h.opens.threads;
        behind = subst (Behind k p.root l u tests) (ap fork_rest same) h.behind;
      }

  not_own : (r u : ℕ) → InRegion k r u → ¬ Contains (state_at k u).regions r
  not_own r u within h = let lies : LiesIn k r u = (low.tree.regions u r within.there h).1 in let less : (state_at k u).holder < r = lies.less in
      let is : (state_at k u).holder ≡ r = within.holder in absurd (omega (arith, less, is))

  -- ---- a termination

  pub work_is : (u : ℕ) (t : Transition) (tests : List Transition) → ((q : ℕ) → Contains (state_at k u).regions q → standing_of c q ≡ stand.Ended) →
      has_work k c (stand.Within u (t ∷ tests)) ≡ true
  work_is u t tests ended = either (not (is_join t.kind)) (list_all (λ r. has_ended (standing_of c r)) (state_at k u).regions)
      (each_all (λ r. has_ended (standing_of c r)) (state_at k u).regions (λ q h. ap has_ended (ended q h)))
    where
      either : (a b : Bool) → b ≡ true → (a || b) ≡ true
      either true b h = refl
      either false b h = h

  pub done_is : (u : ℕ) (tests : List Transition) → ((q : ℕ) → Contains (state_at k u).regions q → standing_of c q ≡ stand.Ended) →
      inside_is_done k c (stand.Within u tests) ≡ true
  done_is u tests ended = each_all (λ r. not (has_work k c (standing_of c r))) (inside k u)
      (λ q h. idle q (chosen_each (λ r. list_any (nat_eq u) (region_at k r).around) (numbered_from 1 k.regions) q h))
    where
      idle : (q : ℕ) → Contains (numbered_from 1 k.regions) q × (list_any (nat_eq u) (region_at k q).around ≡ true) →
          not (has_work k c (standing_of c q)) ≡ true
      idle q h =
          let least : (1 < suc q) × (q < 1 + length k.regions) = numbered_from_least k.regions 1 q h.0 in
          let low_end : 1 < suc q = least.0 in
          let high_end : q < 1 + length k.regions = least.1 in
          let there : IsRegionOf k q = (omega (arith, low_end), omega (arith, high_end)) in
          ⊎_elim
          (λ direct. ap (λ y. not (has_work k c y)) (ended q direct))
          (λ deep. ap (λ y. not (has_work k c y)) deep.0)
          (done_below k p l low c s corr u ended (suc q) q (omega arith) there (any_contains u (region_at k q).around h.1))

  pub termination_alike : (r u n : ℕ) (branches : Branches) (rest : Block) (t : Transition) (tests : List Transition) → IsRegionOf k r →
      given k c s (region_at k r).around ≡ Turn → standing_of c r ≡ stand.Within u (t ∷ tests) →
      terminations (state_at k u).transitions ≡ t ∷ tests → doing s r ≡ Forked n branches rest →
      ((q : ℕ) → Contains (state_at k u).regions q → standing_of c q ≡ stand.Ended) → all_finished s (threads_of branches) ≡ true →
      (d : Configuration) × (f : State) × (chart_step k r c ≡ Some d) × (step p r s ≡ Some f) × After k p l c r d f
  termination_alike r u n branches rest t tests at_r turn stands closing is ended finished =
      let fork : InFork r u n branches rest = in_fork r u n branches rest at_r turn (stands ∙ ap (stand.Within u) (sym closing)) is in
      let behind : Takes k p.root l (state_at k u).holder t rest × (tests ≡ []) × (t.trigger ≡ None)
      × (Rattle.chart_lowering_laws.specs.Layout.goes_on rest ≡ true) = subst (λ ts. Behind k p.root l u ts rest) closing fork.behind in
      let takes : Takes k p.root l r t rest = subst (λ a. Takes k p.root l a t rest) fork.within.holder behind.0 in
      let on : Onward k p.root l r (acts k r u t.effects t.target) rest = acts_on k p l low r u t.target t.effects rest at_r fork.within takes.0 takes.1 in
      let f : State = joined_state r branches on.first in
      let after_join : JoinedAt f r (threads_of branches) on.first = joined_at r branches on.first (thread_within k p l low c s corr r (inr at_r))
      (subst (λ ts. ¬ Contains ts r) (sym fork.threads) (not_own r u fork.within)) in (
        record { variables = c.variables; regions = moved (taken k r u t) c.regions },
        f,
        step_is k p l low c s corr r (stand.Within u (t ∷ tests)) stands (work_is u t tests ended) (done_is u (t ∷ tests) ended)
            ∙ ap (λ o. option_map (λ d. chart_after d c)
            (option_map (λ holds. record { write = None; moves = if holds then taken k r u t else to r (stand.Within u tests) ∷ [] })
            (verdict c.variables o))) behind.2,
        join_step r n branches rest on.first is finished on.is,
        chart_joined k p l low c s corr r u at_r turn fork.within (stands ∙ ap (stand.Within u) (sym closing)) ended c.variables (acts k r u t.effects t.target)
            (Todo on.first) on.comes f
            corr.variables after_join.long after_join.is_at
            (λ q h. after_join.away q (subst (λ ts. Contains ts q) (sym fork.threads) h))
            (λ q differ none. after_join.others q differ (λ h. none (subst (λ ts. Contains ts q) fork.threads h))),
      )

  -- ---- a join behind which the thread stays in the superstate

  fits_turn : (q : ℕ) → IsRegionOf k q → given k c s (region_at k q).around ≡ Turn → Live k p.root l q (standing_of c q) (doing s q) × HeldBy k p.root l q
      (standing_of c q)
  fits_turn q there turn = subst (λ g. Fits k p.root l q g (standing_of c q) (doing s q)) turn (corr.each q there)

  pub given_forked : (q r u n : ℕ) (tests : List Transition) (branches : Branches) (rest : Block) → LiesIn k q u → InRegion k r u →
      standing_of c r ≡ stand.Within u tests → doing s r ≡ Forked n branches rest → given k c s (region_at k q).around ≡ Turn
  given_forked q r u n tests branches rest lies within stands is =
      given_in k c s q u lies
      ∙ ap (λ w. giving_in u (standing_of c w) (doing s w)) within.holder
      ∙ ap (λ y. giving_in u y (doing s r)) stands
      ∙ ap (λ b. if b then giving (doing s r) else Nothing) (same u)
      ∙ ap giving is
    where
      same : (u : ℕ) → nat_eq u u ≡ true
      same u = nat_same u u refl

  pub join_silently : (r u n : ℕ) (branches : Branches) (rest : Block) → IsRegionOf k r → given k c s (region_at k r).around ≡ Turn →
      standing_of c r ≡ stand.Within u [] →
      terminations (state_at k u).transitions ≡ [] → doing s r ≡ Forked n branches rest → all_finished s (threads_of branches) ≡ true →
      (f : State) × (step p r s ≡ Some f) × Corresponds k p l c f × ((n : ℕ) × (more : Block) × (doing f r ≡ Todo (Pause n more)) × (l.pause u ≡ Pause n more))
      × ((q : ℕ) → q ≢ r → (doing f q ≡ doing s q) ⊎ ((doing f q ≡ Away) × (r < q)))
  join_silently r u n branches rest at_r turn stands closing is finished =
      let fork : InFork r u n branches rest = in_fork r u n branches rest at_r turn (stands ∙ ap (stand.Within u) (sym closing)) is in
      let behind : Behind k p.root l u [] rest = subst (λ ts. Behind k p.root l u ts rest) closing fork.behind in
      let first : Block = Pause behind.0 behind.1 in
      let f : State = joined_state r branches first in
      let after_join : JoinedAt f r (threads_of branches) first = joined_at r branches first (thread_within k p l low c s corr r (inr at_r))
      (subst (λ ts. ¬ Contains ts r) (sym fork.threads) (not_own r u fork.within)) in
      let live : Live k p.root l r (standing_of c r) (Todo first) = subst (λ y. Live k p.root l r y (Todo first)) (sym stands)
      (sym closing, (refl, behind.2)) in (
        f,
        join_step r n branches rest first is finished behind.3,
        fork_silently k p l low c s corr f r u (Todo first) at_r turn fork.within (stands ∙ ap (stand.Within u) (sym closing))
            (record {
              threads = after_join.long;
              is_at = after_join.is_at;
              others = λ q differ none. after_join.others q differ (λ h. none (subst (λ ts. Contains ts q) fork.threads h));
            })
            (sym after_join.variables) live
            (λ q h.
            let lies : IsRegionOf k q × LiesIn k q u = low.tree.regions u q fork.within.there h in
            let in_threads : Contains (threads_of branches) q = subst (λ ts. Contains ts q) (sym fork.threads) h in
            let was : doing s q ≡ Finished = all_have_finished s (threads_of branches) finished q in_threads in
            let ended : standing_of c q ≡ stand.Ended = ended_is k p.root l q (standing_of c q)
            (subst (Live k p.root l q (standing_of c q)) was (fits_turn q lies.0 (given_forked q r u n [] branches rest lies.1 fork.within stands is)).0) in
            ((ended, after_join.away q in_threads), λ v. ap (λ y. giving_in v y (doing f q)) ended ∙ sym (ap (λ y. giving_in v y (doing s q)) ended))),
        (behind.0, behind.1, after_join.is_at, behind.2),
        λ q differ.
            ⊎_elim
            (λ h. let lies : LiesIn k q u = (low.tree.regions u q fork.within.there (subst (λ ts. Contains ts q) fork.threads h)).1 in
            let more : (state_at k u).holder < q = lies.less in let at_u : (state_at k u).holder ≡ r = fork.within.holder in
            inr (after_join.away q h, omega (arith, more, at_u)))
            (λ none. inl (after_join.others q differ none))
            (member_or_not (threads_of branches) q),
      )

  -- ---- the first thread joins

  pub root_joins : (n : ℕ) (branches : Branches) (rest : Block) → doing s zero ≡ Forked n branches rest → all_finished s (threads_of branches) ≡ true →
      (f : State) × (step p zero s ≡ Some f) × Corresponds k p l c f × ((n : ℕ) × (doing f zero ≡ Todo (End n))) × ((q : ℕ) → q ≢ zero →
      (doing f q ≡ doing s q) ⊎ (doing f q ≡ Away))
  root_joins n branches rest is finished =
      let root : p.root ≡ Fork n branches rest = subst (IsAtRoot p.root) is corr.root in
      let same : Fork low.root.node low.root.branches (End low.root.end) ≡ Fork n branches rest = sym low.root.is ∙ root in
      let threads : threads_of branches ≡ l.top = ap (λ b. threads_of (fork_branches b)) (sym same) ∙ low.root.opens.threads in
      let first : Block = End low.root.end in
      let f : State = joined_state zero branches first in
      let none : ¬ Contains (threads_of branches) zero = λ h. let more : zero < zero = (low.tree.tops zero (subst (λ ts. Contains ts zero) threads h)).0.0 in
      absurd (omega (arith, more)) in
      let after_join : JoinedAt f zero (threads_of branches) first = joined_at zero branches first (thread_within k p l low c s corr zero (inl refl)) none in (
        f,
        join_step zero n branches rest first is finished (subst (λ b. settled p.root b ≡ Some first) (ap fork_rest same) refl),
        top_silently k p l low c s corr f (Todo first)
            (record {
              threads = after_join.long;
              is_at = after_join.is_at;
              others = λ q differ outer. after_join.others q differ (λ h. outer (subst (λ ts. Contains ts q) threads h));
            })
            (sym after_join.variables) tt
            (λ q h.
            let there : IsRegionOf k q × ((region_at k q).around ≡ []) = low.tree.tops q h in
            let in_threads : Contains (threads_of branches) q = subst (λ ts. Contains ts q) (sym threads) h in
            let was : doing s q ≡ Finished = all_have_finished s (threads_of branches) finished q in_threads in
            let ended : standing_of c q ≡ stand.Ended = ended_is k p.root l q (standing_of c q)
            (subst (Live k p.root l q (standing_of c q)) was (fits_turn q there.0 (given_top k c s q there.1 ∙ ap giving_of_root is)).0) in
            ((ended, after_join.away q in_threads), λ v. ap (λ y. giving_in v y (doing f q)) ended ∙ sym (ap (λ y. giving_in v y (doing s q)) ended))),
        (low.root.end, after_join.is_at),
        λ q differ. ⊎_elim (λ h. inr (after_join.away q h)) (λ outer. inl (after_join.others q differ outer)) (member_or_not (threads_of branches) q),
      )

  -- ---- a fork

  record ForkedAt (f : State) (r : ℕ) (threads : List ℕ) (d : Doing) : Type 0 where
    long : length f.threads ≡ length s.threads
    is_at : doing f r ≡ d
    firsts : (q : ℕ) → Contains threads q → IsRegionOf k q → FirstOf k p l q (doing f q)
    others : (q : ℕ) → q ≢ r → ¬ Contains threads q → doing f q ≡ doing s q
    variables : f.variables ≡ s.variables

  forked_at : (r n : ℕ) (branches : Branches) (rest : Block) (all : AllEntered k p l branches) → r < length s.threads → ¬ Contains (threads_of branches) r →
      ForkedAt (after (forked r (Forked n branches rest) all.moves) s) r (threads_of branches) (Forked n branches rest)
  forked_at r n branches rest all lt none =
      let d : Doing = Forked n branches rest in
      record {
        long = all.keeps_length (set s.threads r d) ∙ set_doing_length s.threads r d;
        is_at = all.others (set s.threads r d) r none ∙ set_doing_same s.threads r d lt;
        firsts = λ q h there. all.each (set s.threads r d) q
            (subst (λ m. q < m) (sym (set_doing_length s.threads r d)) (thread_within k p l low c s corr q (inr there))) h;
        others = λ q differ outer. all.others (set s.threads r d) q outer ∙ set_doing_other s.threads r q d (λ same. differ (sym same));
        variables = refl;
      }

  fork_step : (r n : ℕ) (branches : Branches) (rest : Block) (all : AllEntered k p l branches) → doing s r ≡ Todo (Fork n branches rest) →
      step p r s ≡ Some (after (forked r (Forked n branches rest) all.moves) s)
  fork_step r n branches rest all is =
      ap (λ d. option_map (λ e. after e s) (change_of p s r d)) is
      ∙ ap (λ o. option_map (λ e. after e s) (option_map (forked r (Forked n branches rest)) o)) all.is

  -- a region that was entered has its turn now
  turned : (q : ℕ) (f : State) → IsRegionOf k q → given k c s (region_at k q).around ≡ Ready → FirstOf k p l q (doing f q) →
      (Live k p.root l q (standing_of c q) (doing f q) × HeldBy k p.root l q (standing_of c q)) × ((v : ℕ) →
      giving_in v (standing_of c q) (doing f q) ≡ giving_in v (standing_of c q) (doing s q))
  turned q f there ready one =
      let was : (standing_of c q ≡ fresh k l q) × (doing s q ≡ Away) = subst (λ g. Fits k p.root l q g (standing_of c q) (doing s q)) ready
      (corr.each q there) in
      let comes : (Live k p.root l q (fresh k l q) (Todo one.first) × HeldBy k p.root l q (fresh k l q)) × (is_within (fresh k l q) ≡ true →
      giving (Todo one.first) ≡ Ready) = fresh_enters k p l low q one.first there one.leads one.is_step in (
        subst (λ y. Live k p.root l q y (doing f q) × HeldBy k p.root l q y) (sym was.0)
            (subst (λ d. Live k p.root l q (fresh k l q) d × HeldBy k p.root l q (fresh k l q)) (sym one.is) comes.0),
        λ v.
            ap (λ y. giving_in v y (doing f q)) was.0
            ∙ ap (giving_in v (fresh k l q)) one.is
            ∙ gives v (fresh k l q) comes.1
            ∙ sym (ap (giving_in v (fresh k l q)) was.1)
            ∙ sym (ap (λ y. giving_in v y (doing s q)) was.0),
      )
    where
      gives : (v : ℕ) (y : Standing) → (is_within y ≡ true → giving (Todo one.first) ≡ Ready) → giving_in v y (Todo one.first) ≡ giving_in v y Away
      gives v stand.Outside h = refl
      gives v stand.Ended h = refl
      gives v (stand.Trying w tests) h = refl
      gives v (stand.Entering w tests) h = refl
      gives v (stand.Guarding w tests) h = refl
      gives v (stand.Acting w effects target) h = refl
      gives v (stand.Within w tests) h = ap (λ g. if nat_eq w v then g else Nothing) (h refl)

  pub fork_region : (r u n : ℕ) (branches : Branches) (rest : Block) → IsRegionOf k r → given k c s (region_at k r).around ≡ Turn →
      standing_of c r ≡ stand.Within u (terminations (state_at k u).transitions) → doing s r ≡ Todo (Fork n branches rest) →
      (f : State) × (step p r s ≡ Some f) × Corresponds k p l c f × (doing f r ≡ Forked n branches rest) × ((q : ℕ) → q < r → doing f q ≡ doing s q)
  fork_region r u n branches rest at_r turn stands is =
      let tests : List Transition = terminations (state_at k u).transitions in
      let now : Live k p.root l r (stand.Within u tests) (Todo (Fork n branches rest)) × HeldBy k p.root l r (stand.Within u tests) =
      live_as k p l low c s corr r at_r turn (stand.Within u tests) (Todo (Fork n branches rest)) stands is in
      let h : IsSuper k p.root l u = now.1.1 in
      let within : InRegion k r u = now.1.0 in
      let same : Fork h.node h.branches h.rest ≡ Fork n branches rest = sym h.fork ∙ now.0.1 in
      let opens : Opens p.root l (state_at k u).regions branches = subst (Opens p.root l (state_at k u).regions) (ap fork_branches same) h.opens in
      let all : AllEntered k p l branches = regions_entered k p l low (state_at k u).regions branches opens
      (λ q there. (low.tree.regions u q within.there there).0) in
      let d : Doing = Forked n branches rest in
      let f : State = after (forked r d all.moves) s in
      let after_fork : ForkedAt f r (threads_of branches) d = forked_at r n branches rest all (thread_within k p l low c s corr r (inr at_r))
      (subst (λ ts. ¬ Contains ts r) (sym opens.threads) (not_own r u within)) in (
        f,
        fork_step r n branches rest all is,
        fork_silently k p l low c s corr f r u d at_r turn within stands
            (record {
              threads = after_fork.long;
              is_at = after_fork.is_at;
              others = λ q differ none. after_fork.others q differ (λ i. none (subst (λ ts. Contains ts q) opens.threads i));
            })
            (sym after_fork.variables)
            (subst (λ y. Live k p.root l r y d) (sym stands) (refl, now.0.1))
            (λ q there.
            let lies : IsRegionOf k q × LiesIn k q u = low.tree.regions u q within.there there in
            turned q f lies.0
            (given_in k c s q u lies.1
            ∙ ap (λ w. giving_in u (standing_of c w) (doing s w)) within.holder
            ∙ ap (λ y. giving_in u y (doing s r)) stands
            ∙ ap (λ b. if b then giving (doing s r) else Nothing) (nat_same u u refl)
            ∙ ap giving is)
            (after_fork.firsts q (subst (λ ts. Contains ts q) (sym opens.threads) there) lies.0)),
        after_fork.is_at,
        λ q less.
            after_fork.others q (λ same. absurd (omega (arith, less, same)))
            (λ i. let lies : LiesIn k q u = (low.tree.regions u q within.there (subst (λ ts. Contains ts q) opens.threads i)).1 in
            let more : (state_at k u).holder < q = lies.less in let at_u : (state_at k u).holder ≡ r = within.holder in
            absurd (omega (arith, less, more, at_u))),
      )

  pub fork_root : (n : ℕ) (branches : Branches) (rest : Block) → doing s zero ≡ Todo (Fork n branches rest) →
      (f : State) × (step p zero s ≡ Some f) × Corresponds k p l c f × (doing f zero ≡ Forked n branches rest)
  fork_root n branches rest is =
      let root : p.root ≡ Fork n branches rest = subst (IsAtRoot p.root) is corr.root in
      let same : Fork low.root.node low.root.branches (End low.root.end) ≡ Fork n branches rest = sym low.root.is ∙ root in
      let opens : Opens p.root l l.top branches = subst (Opens p.root l l.top) (ap fork_branches same) low.root.opens in
      let all : AllEntered k p l branches = regions_entered k p l low l.top branches opens (λ q there. (low.tree.tops q there).0) in
      let d : Doing = Forked n branches rest in
      let f : State = after (forked zero d all.moves) s in
      let none : ¬ Contains (threads_of branches) zero = λ h. let more : zero < zero =
      (low.tree.tops zero (subst (λ ts. Contains ts zero) opens.threads h)).0.0 in absurd (omega (arith, more)) in
      let after_fork : ForkedAt f zero (threads_of branches) d = forked_at zero n branches rest all (thread_within k p l low c s corr zero (inl refl)) none in (
        f,
        fork_step zero n branches rest all is,
        top_silently k p l low c s corr f d
            (record {
              threads = after_fork.long;
              is_at = after_fork.is_at;
              others = λ q differ outer. after_fork.others q differ (λ i. outer (subst (λ ts. Contains ts q) opens.threads i));
            })
            (sym after_fork.variables) root
            (λ q there.
            let top : IsRegionOf k q × ((region_at k q).around ≡ []) = low.tree.tops q there in
            turned q f top.0 (given_top k c s q top.1 ∙ ap giving_of_root is)
            (after_fork.firsts q (subst (λ ts. Contains ts q) (sym opens.threads) there) top.0)),
        after_fork.is_at,
      )
