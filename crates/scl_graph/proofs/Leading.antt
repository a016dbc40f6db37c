-- Where a program's gotos lead is what the table of its labels says: a goto in it is one that leads back to itself.
use Rattle.std.proofs.Common.{◌≡◌, ℕ, zero, suc, ◌+◌, ◌≤◌, ◌<◌, Option, Some, None, List, [], ◌∷◌, map, length, get_or, slice_get, unwrap_or}
use Rattle.std.proofs.Common.{drop, drop-cons, add-one, append_assoc, ◌++◌, ◌⊎◌, inl, inr, refl, ap, sym, subst, ◌∙◌, arith}
use Rattle.std.specs.Prelude.{option_map, option_and_then}
use Rattle.std.specs.Map.{keys_of}
use Rattle.std.specs.Cmp.Lexicographic.{same_text}
use Rattle.std.proofs.Math.ListN.{get_or-map}
use Rattle.std.proofs.lemmas.List.{length-map}
use Rattle.std.proofs.lemmas.Map.Entries.{length-keys_of}
use Rattle.std.proofs.lemmas.Option.{none-some, slice_get-get_or, unwrap_or-slice_get}
use Rattle.scl.specs.Block.{Block}
use Rattle.scl.specs.Labels.{Front, Begins, Jumps, behind_label, front, label_count, reached_by}
use Rattle.scl_graph.specs.Graph.{number, target}
use Rattle.scl_graph.specs.Loops.{ComesTo, HasNoEmptyLoop, IsEmptyLoop, IsFirstEmptyLoop, at_once, through}
use Rattle.scl_graph.specs.declared.landing.Landing.{Landing}
use Rattle.scl_graph.specs.declared.landing.Landing.TheVariants as lands
use Rattle.scl_graph.specs.declared.way.Way.TheVariants as leads
use Rattle.scl_graph.specs.declared.hops.Hop.{Hop}
use Rattle.scl_graph.specs.declared.hops.Hop.TheVariants as hop
use Rattle.scl_graph.specs.Inside.Gathering.{Noted, find, place_of}
use Rattle.scl_graph.specs.Inside.Settling.{Best, IsSettled, at_place, further, hop_of, hop_to, hops_of, least, least_name, name_at, node_at, node_behind}
use Rattle.scl_graph.specs.Inside.Settling.{onward}
use Rattle.scl_graph.proofs.Circling.{AreBelow, Circles, circle_reached, circles, one_node, onward_further, onward_node, table_at}
use Rattle.scl_graph.proofs.Fronts.{lands_of, stands, stands_front}
use Rattle.scl_graph.proofs.Placed.{found_place, nothing, placed}
use Rattle.scl_graph.proofs.LeastGoto.{least_new, least_stands, nobody, pair_of}

-- the place of a label is that of its name, and there stands what was found of it
pub place_below : (labels : Noted) (name : List ℕ) (p : ℕ) → place_of labels name ≡ Some p → p < length labels
place_below labels name p is = (placed labels name p is).within

pub place_name : (labels : Noted) (name : List ℕ) (p : ℕ) → place_of labels name ≡ Some p → name_at labels p ≡ Some name
place_name labels name p is =
    let f : _ = placed labels name p is in
    let within : p < length (keys_of labels) = subst (λ n. p < n) (sym (length-keys_of labels)) f.within in
    let key : get_or (keys_of labels) p [] ≡ (get_or labels p nothing).0 = get_or-map (λ e. e.0) labels p nothing in
    slice_get-get_or (keys_of labels) p [] within ∙ ap Some (key ∙ sym (same_text name (get_or labels p nothing).0 (sym f.equal)))

-- what stands at a place
hop_there : (labels : Noted) (p : ℕ) → at_place (hops_of labels) p ≡ hop_of labels (unwrap_or (slice_get labels p) ([], lands.Node 0)).1
hop_there labels p =
    let nobody : List ℕ × Landing = ([], lands.Node 0) in
    get_or-map (λ e. hop_of labels e.1) labels p nobody ∙ ap (λ e. hop_of labels e.1) (sym (unwrap_or-slice_get labels p nobody))

pub hop_at_some : (labels : Noted) (p : ℕ) (name : List ℕ) (w : Landing) → Some (name, w) ≡ slice_get labels p → hop_of labels w ≡ at_place (hops_of labels) p
hop_at_some labels p name w is = ap (λ o. hop_of labels (unwrap_or {T = List ℕ × Landing} o ([], lands.Node 0)).1) is ∙ sym (hop_there labels p)

pub hop_at_none : (labels : Noted) (p : ℕ) → None ≡ slice_get labels p → hop.Node 0 ≡ at_place (hops_of labels) p
hop_at_none labels p is = ap (λ o. hop_of labels (unwrap_or {T = List ℕ × Landing} o ([], lands.Node 0)).1) is ∙ sym (hop_there labels p)

pub hops_more : (xs hops next : List Hop) (p : ℕ) (h : Hop) → h ≡ at_place xs p → p < length xs → next ≡ hops ++ h ∷ [] → hops ++ drop p xs ≡ xs
    → next ++ drop (p + 1) xs ≡ xs
hops_more xs hops next p h is lt pushed whole =
    let split : drop p xs ≡ h ∷ drop (p + 1) xs = rw add-one (drop-cons xs p (hop.Node 0) lt ∙ ap (λ y. y ∷ drop (suc p) xs) (sym is)) in
    ap (λ r. r ++ drop (p + 1) xs) pushed
    ∙ append_assoc hops (h ∷ []) (drop (p + 1) xs)
    ∙ ap (λ r. hops ++ r) (sym split)
    ∙ whole

-- what is found of a label stands at its place
pub record StandsAt (labels : Noted) (name : List ℕ) (p : ℕ) : Type 0 where
  pub landing : Landing
  pub found : find labels name ≡ Some landing
  pub hop : at_place (hops_of labels) p ≡ hop_of labels landing

pub place_stands : (labels : Noted) (name : List ℕ) (p : ℕ) → place_of labels name ≡ Some p → StandsAt labels name p
place_stands labels name p is =
    let f : _ = placed labels name p is in
    record {
      landing = (get_or labels p nothing).1;
      found = f.found;
      hop = get_or-map (λ e. hop_of labels e.1) labels p nothing;
    }

missing_place : (labels : Noted) (name : List ℕ) → find labels name ≡ None → place_of labels name ≡ None
missing_place labels name is = by (place_of labels name) refl
  where
    by : (o : Option ℕ) → place_of labels name ≡ o → place_of labels name ≡ None
    by None e = e
    by (Some p) e = let s : _ = place_stands labels name p e in absurd (none-some s.landing (sym is ∙ s.found))

-- a goto among the hops is that of a label
pub record LeadsTo (labels : Noted) (w : Landing) (g q : ℕ) : Type 0 where
  pub last : List ℕ
  pub goto : w ≡ lands.Goto g last
  pub place : place_of labels last ≡ Some q

abbrev place_in : Hop → ℕ
place_in (hop.Node n) = 0
place_in (hop.Goto g p) = p

abbrev number_in : Hop → ℕ
number_in (hop.Node n) = 0
number_in (hop.Goto g p) = g

no_goto : (g p n : ℕ) → hop.Node n ≡ hop.Goto g p → ⊥
no_goto g p n e = cc

hop_goto : (labels : Noted) (w : Landing) (g q : ℕ) → hop_of labels w ≡ hop.Goto g q → LeadsTo labels w g q
hop_goto labels (lands.Node n) g q is = absurd (no_goto g q n is)
hop_goto labels (lands.Goto f last) g q is = by (place_of labels last) refl is
  where
    by : (o : Option ℕ) → place_of labels last ≡ o → hop_to f o ≡ hop.Goto g q → LeadsTo labels (lands.Goto f last) g q
    by None e same = absurd (no_goto g q 0 same)
    by (Some p) e same = record { last = last; goto = ap (λ n. lands.Goto n last) (ap number_in same); place = e ∙ ap Some (ap place_in same) }

at_entry : (labels es : Noted) (p g q : ℕ) → get_or (map (λ e. hop_of labels e.1) es) p (hop.Node 0) ≡ hop.Goto g q
    → (w : Landing) × (hop_of labels w ≡ hop.Goto g q)
at_entry labels [] p g q is = absurd (no_goto g q 0 is)
at_entry labels (e ∷ es) zero g q is = (e.1, is)
at_entry labels (e ∷ es) (suc p) g q is = at_entry labels es p g q is

pub led_to : (labels : Noted) (p g q : ℕ) → at_place (hops_of labels) p ≡ hop.Goto g q → (last : List ℕ) × (place_of labels last ≡ Some q)
led_to labels p g q is =
    let e : _ = at_entry labels labels p g q is in
    let l : _ = hop_goto labels e.0 g q e.1 in
    (l.last, l.place)

pub hops_below : (labels : Noted) → AreBelow (hops_of labels)
hops_below labels p g q is =
    let l : _ = led_to labels p g q is in
    subst (λ n. q < n) (sym (length-map labels (λ e. hop_of labels e.1))) (place_below labels l.0 q l.1)

abbrev landing_in : Landing → Option Landing → Landing
landing_in other None = other
landing_in other (Some w) = w

abbrev goto_in : Landing → ℕ
goto_in (lands.Node n) = 0
goto_in (lands.Goto g name) = g

abbrev label_in : Landing → List ℕ
label_in (lands.Node n) = []
label_in (lands.Goto g name) = name

abbrev name_in : Option (List ℕ) → List ℕ
name_in None = []
name_in (Some name) = name

no_landing : (g n : ℕ) (name : List ℕ) → lands.Node n ≡ lands.Goto g name → ⊥
no_landing g n name e = cc

jumps : (f : Front) (g : ℕ) (last : List ℕ) → lands_of f ≡ lands.Goto g last → f ≡ Jumps g last
jumps (Begins todo) g last is = absurd (no_landing g (number (Some todo)) last is)
jumps (Jumps h name) g last is = ap (λ w. Jumps (goto_in w) (label_in w)) is

front_jumps : (k : Block) (g : ℕ) (last : List ℕ) → stands k ≡ lands.Goto g last → front k ≡ Jumps g last
front_jumps k g last is = jumps (front k) g last (sym (stands_front k) ∙ is)

-- where all that was found is what stands behind the labels of a program
module _ (root : Block) (labels : Noted) (same : (name : List ℕ) → find labels name ≡ option_map stands (behind_label root name)) where
  -- what is found of a label stands behind it
  pub record StandsBehind (name : List ℕ) (w : Landing) : Type 0 where
    pub rest : Block
    pub behind : behind_label root name ≡ Some rest
    pub there : stands rest ≡ w

  stands_behind : (name : List ℕ) (w : Landing) → find labels name ≡ Some w → StandsBehind name w
  stands_behind name w found = by (behind_label root name) refl (sym (same name) ∙ found)
    where
      by : (o : Option Block) → behind_label root name ≡ o → option_map stands o ≡ Some w → StandsBehind name w
      by None e is = absurd (none-some w is)
      by (Some k) e is = record { rest = k; behind = e; there = ap (landing_in (stands k)) is }

  -- what the table tells of a goto, the text tells
  pub record ComesBack (name : List ℕ) (g q : ℕ) : Type 0 where
    pub last : List ℕ
    pub place : place_of labels last ≡ Some q
    pub comes : ComesTo root name g last

  at_end : (name : List ℕ) (w : Landing) (g q : ℕ) → find labels name ≡ Some w → LeadsTo labels w g q → ComesBack name g q
  at_end name w g q found l =
      let b : _ = stands_behind name w found in
      record { last = l.last; place = l.place; comes = at_once name b.rest g l.last b.behind (front_jumps b.rest g l.last (b.there ∙ l.goto)) }

  one_more : (name : List ℕ) (w : Landing) (h p g q : ℕ) → find labels name ≡ Some w → (l : LeadsTo labels w h p) → ComesBack l.last g q → ComesBack name g q
  one_more name w h p g q found l c =
      let b : _ = stands_behind name w found in
      record { last = c.last; place = c.place; comes = through name b.rest h l.last g c.last b.behind (front_jumps b.rest h l.last (b.there ∙ l.goto)) c.comes }

  leads_back : (m p : ℕ) (name : List ℕ) (g q : ℕ) → place_of labels name ≡ Some p → onward (hops_of labels) m (at_place (hops_of labels) p) ≡ hop.Goto g q
      → ComesBack name g q
  leads_back zero p name g q place is =
      let s : _ = place_stands labels name p place in
      at_end name s.landing g q s.found (hop_goto labels s.landing g q (sym s.hop ∙ is))
  leads_back (suc m) p name g q place is =
      let s : _ = place_stands labels name p place in
      by s (λ r middle. leads_back m r middle g q) (hop_of labels s.landing) refl (ap (onward (hops_of labels) (suc m)) (sym s.hop) ∙ is)
    where
      by : (s : StandsAt labels name p) → ((r : ℕ) (middle : List ℕ) → place_of labels middle ≡ Some r → onward (hops_of labels) m (at_place (hops_of labels) r)
          ≡ hop.Goto g q → ComesBack middle g q)
          → (k : Hop) → hop_of labels s.landing ≡ k → onward (hops_of labels) (suc m) k ≡ hop.Goto g q → ComesBack name g q
      by s others (hop.Node n) e found = absurd (no_goto g q n found)
      by s others (hop.Goto h r) e found =
          let l : LeadsTo labels s.landing h r = hop_goto labels s.landing h r e in
          one_more name s.landing h r g q s.found l (others r l.last l.place found)

  -- what the text tells of a goto, the table tells
  pub record StandsOnward (name : List ℕ) (g : ℕ) (last : List ℕ) : Type 0 where
    pub place : ℕ
    pub gotos : ℕ
    pub is : place_of labels name ≡ Some place
    pub onward_is : onward (hops_of labels) gotos (at_place (hops_of labels) place) ≡ hop_of labels (lands.Goto g last)

  -- what stands at the place of a label
  pub record StandsHere (name : List ℕ) (w : Landing) : Type 0 where
    pub place : ℕ
    pub is : place_of labels name ≡ Some place
    pub hop : at_place (hops_of labels) place ≡ hop_of labels w

  here_stands : (name : List ℕ) (w : Landing) → find labels name ≡ Some w → StandsHere name w
  here_stands name w found =
      let p : _ = found_place labels name w found in
      let s : _ = place_stands labels name p.0 p.1 in
      let is : s.landing ≡ w = ap (landing_in w) (sym s.found ∙ found) in
      record { place = p.0; is = p.1; hop = s.hop ∙ ap (hop_of labels) is }

  goto_here : (name : List ℕ) (k : Block) (g : ℕ) (last : List ℕ) → behind_label root name ≡ Some k → front k ≡ Jumps g last
      → StandsHere name (lands.Goto g last)
  goto_here name k g last behind is =
      here_stands name (lands.Goto g last) (same name ∙ ap (option_map stands) behind ∙ ap Some (stands_front k ∙ ap lands_of is))

  comes_onward : (name : List ℕ) (g : ℕ) (last : List ℕ) → ComesTo root name g last → StandsOnward name g last
  comes_onward name g last (at_once _ k _ _ behind is) =
      let h : _ = goto_here name k g last behind is in
      record { place = h.place; gotos = 0; is = h.is; onward_is = h.hop }
  comes_onward name g last (through _ k h middle _ _ behind is further) =
      let here : _ = goto_here name k h middle behind is in
      let others : _ = comes_onward middle g last further in
      let first : at_place (hops_of labels) here.place ≡ hop.Goto h others.place = here.hop ∙ ap (hop_to h) others.is in
      record {
        place = here.place;
        gotos = suc others.gotos;
        is = here.is;
        onward_is = ap (onward (hops_of labels) (suc others.gotos)) first ∙ others.onward_is;
      }

  -- a goto of the table that stands behind itself is an empty loop
  circle_loops : (last : List ℕ) (g q : ℕ) → place_of labels last ≡ Some q → Circles (hops_of labels) (hop.Goto g q) → IsEmptyLoop root g last
  circle_loops last g q place c =
      let back : ComesBack last g q = leads_back c.0 q last g q place c.1 in
      let one : back.last ≡ last = ap name_in (sym (place_name labels back.last q back.place) ∙ place_name labels last q place) in
      subst (λ n. ComesTo root last g n) one back.comes

  loop_circles : (name : List ℕ) (g : ℕ) → IsEmptyLoop root g name → (p : ℕ) × (place_of labels name ≡ Some p) × Circles (hops_of labels) (hop.Goto g p)
  loop_circles name g loops =
      let s : _ = comes_onward name g name loops in
      (s.place, s.is, (s.gotos, s.onward_is ∙ ap (hop_to g) s.is))

  -- a goto of the settled table stands behind itself
  table_circles : (table : List Hop) → (t : IsSettled (hops_of labels) table) → (p g q : ℕ) → at_place table p ≡ hop.Goto g q → (last : List ℕ)
      × (place_of labels last ≡ Some q) × IsEmptyLoop root g last
  table_circles table t p g q is =
      let m : ℕ = t.gotos in
      let reached : onward (hops_of labels) m (at_place (hops_of labels) p) ≡ hop.Goto g q =
      sym (table_at (hops_of labels) m p) ∙ ap (λ u. at_place u p) (sym t.each) ∙ is in
      let c : Circles (hops_of labels) (hop.Goto g q) =
      circles (hops_of labels) (hops_below labels) m (at_place (hops_of labels) p) g q (hops_below labels p) t.enough reached in
      let r : _ = circle_reached (hops_of labels) 0 g q c in
      let l : _ = led_to labels r.0 g q r.1 in
      (l.0, l.1, circle_loops l.0 g q l.1 c)

  -- each empty loop stands in the settled table
  loop_in_table : (table : List Hop) → (t : IsSettled (hops_of labels) table) → (name : List ℕ) (g : ℕ) → IsEmptyLoop root g name
      → (p q : ℕ) × (at_place table p ≡ hop.Goto g q)
  loop_in_table table t name g loops =
      let c : _ = loop_circles name g loops in
      let r : _ = circle_reached (hops_of labels) t.gotos g c.0 c.2 in
      (r.0, c.0, ap (λ u. at_place u r.0) t.each ∙ table_at (hops_of labels) t.gotos r.0 ∙ r.1)

  -- the label that the code answers is that of the first empty loop
  pub first_loop : (table : List Hop) → IsSettled (hops_of labels) table → (name : List ℕ) → least_name labels table ≡ Some name → IsFirstEmptyLoop root name
  first_loop table t name is = by (least None table) refl is
    where
      at_one : (c : ℕ × ℕ) → least None table ≡ Some c → name_at labels c.1 ≡ Some name → (nobody ≡ Some c) ⊎ ((p : ℕ) × (at_place table p ≡ hop.Goto c.0 c.1))
          → IsFirstEmptyLoop root name
      at_one c best named (inl e) = absurd (none-some c e)
      at_one c best named (inr at) =
          let l : _ = table_circles table t at.0 c.0 c.1 at.1 in
          let one : l.0 ≡ name = ap name_in (sym (place_name labels l.0 c.1 l.1) ∙ named) in
          record {
            goto = c.0;
            loops = subst (λ n. IsEmptyLoop root c.0 n) one l.2;
            first = λ h other loops.
                let there : _ = loop_in_table table t other h loops in
                let least_one : _ = least_new None table there.0 h there.1 there.2 in
                let equal : c.0 ≡ least_one.goto.0 = ap (λ b. (pair_of c b).0) (sym best ∙ least_one.known) in
                omega (arith, equal, least_one.le);
          }

      by : (o : Best) → least None table ≡ o → option_and_then (λ b. name_at labels b.1) o ≡ Some name → IsFirstEmptyLoop root name
      by None e named = absurd (none-some name named)
      by (Some c) e named = at_one c e named (least_stands None table c e)

  -- where it answers none there is no empty loop
  pub no_loop : (table : List Hop) → IsSettled (hops_of labels) table → least_name labels table ≡ None → HasNoEmptyLoop root
  no_loop table t is = by (least None table) refl is
    where
      at_one : (c : ℕ × ℕ) → name_at labels c.1 ≡ None → (nobody ≡ Some c) ⊎ ((p : ℕ) × (at_place table p ≡ hop.Goto c.0 c.1)) → HasNoEmptyLoop root
      at_one c named (inl e) = absurd (none-some c e)
      at_one c named (inr at) =
          let l : _ = table_circles table t at.0 c.0 c.1 at.1 in
          absurd (none-some l.0 (sym named ∙ place_name labels l.0 c.1 l.1))

      by : (o : Best) → least None table ≡ o → option_and_then (λ b. name_at labels b.1) o ≡ None → HasNoEmptyLoop root
      by None e named =
          record {
            none = λ g name loops.
                let there : _ = loop_in_table table t name g loops in
                let some_one : _ = least_new None table there.0 g there.1 there.2 in
                none-some some_one.goto (sym e ∙ some_one.known);
          }
      by (Some c) e named = at_one c named (least_stands None table c e)

  -- the statement to which so many gotos lead has the number that the hops tell
  number_reached : (m : ℕ) (f : Front) → node_at (onward (hops_of labels) m (hop_of labels (lands_of f))) ≡ number (reached_by root m f)
  number_reached m (Begins todo) = ap node_at (onward_node (hops_of labels) m (number (Some todo))) ∙ begun m
    where
      begun : (m : ℕ) → number (Some todo) ≡ number (reached_by root m (Begins todo))
      begun zero = refl
      begun (suc m) = refl
  number_reached zero (Jumps g name) = by (place_of labels name)
    where
      by : (o : Option ℕ) → node_at (hop_to g o) ≡ 0
      by None = refl
      by (Some p) = refl
  number_reached (suc m) (Jumps g name) = by (λ k. number_reached m (front k)) (behind_label root name) refl
    where
      by : ((k : Block) → node_at (onward (hops_of labels) m (hop_of labels (lands_of (front k)))) ≡ number (reached_by root m (front k)))
          → (o : Option Block) → behind_label root name ≡ o
          → node_at (onward (hops_of labels) (suc m) (hop_to g (place_of labels name)))
          ≡ number (option_and_then (λ k. reached_by root m (front k)) (behind_label root name))
      by others None e =
          let gone : place_of labels name ≡ None = missing_place labels name (same name ∙ ap (option_map stands) e) in
          ap (λ o. node_at (onward (hops_of labels) (suc m) (hop_to g o))) gone
          ∙ ap (λ o. number (option_and_then (λ k. reached_by root m (front k)) o)) (sym e)
      by others (Some k) e =
          let h : _ = here_stands name (stands k) (same name ∙ ap (option_map stands) e) in
          ap (λ o. node_at (onward (hops_of labels) (suc m) (hop_to g o))) h.is
          ∙ ap (λ k. node_at (onward (hops_of labels) m k)) (h.hop ∙ ap (hop_of labels) (stands_front k))
          ∙ others k
          ∙ ap (λ o. number (option_and_then (λ k. reached_by root m (front k)) o)) (sym e)

  -- where there is no empty loop, the table tells where each label leads
  pub node_reached : (table : List Hop) → IsSettled (hops_of labels) table → HasNoEmptyLoop root → length labels ≤ label_count root → (name : List ℕ)
      → node_behind labels table name ≡ target root (leads.Jumps name)
  node_reached table t none count name =
      let hs : List Hop = hops_of labels in
      let h : Hop = hop_to 0 (place_of labels name) in
      let m : ℕ = label_count root in
      let k : ℕ = suc t.gotos in
      let places : length hs ≡ length labels = length-map labels (λ e. hop_of labels e.1) in
      let enough : length hs ≤ m = omega (arith, places, count) in
      let more : length hs ≤ k = omega (arith, t.enough) in
      let is : further table h ≡ onward hs k h = ap (λ u. further u h) t.each ∙ onward_further hs t.gotos h in
      ap node_at is
      ∙ equal (onward hs m h) (onward hs k h) refl refl enough more
      ∙ number_reached m (Jumps 0 name)
    where
      first : (f p : ℕ) → hop_to 0 (place_of labels name) ≡ hop.Goto f p → p < length (hops_of labels)
      first f p is =
          let l : LeadsTo labels (lands.Goto 0 name) f p = hop_goto labels (lands.Goto 0 name) f p is in
          subst (λ n. p < n) (sym (length-map labels (λ e. hop_of labels e.1))) (place_below labels l.last p l.place)

      never : (m g q : ℕ) → length (hops_of labels) ≤ m → onward (hops_of labels) m (hop_to 0 (place_of labels name)) ≡ hop.Goto g q → ⊥
      never m g q enough is =
          let c : Circles (hops_of labels) (hop.Goto g q) = circles (hops_of labels) (hops_below labels) m (hop_to 0 (place_of labels name)) g q first enough is
          in
          let r : _ = circle_reached (hops_of labels) 0 g q c in
          let l : _ = led_to labels r.0 g q r.1 in
          none.none g l.0 (circle_loops l.0 g q l.1 c)

      equal : (a b : Hop) → onward (hops_of labels) (label_count root) (hop_to 0 (place_of labels name)) ≡ a
          → onward (hops_of labels) (suc t.gotos) (hop_to 0 (place_of labels name)) ≡ b
          → length (hops_of labels) ≤ label_count root → length (hops_of labels) ≤ suc t.gotos → node_at b ≡ node_at a
      equal (hop.Node x) (hop.Node y) first_is second_is enough more =
          sym (one_node (hops_of labels) (label_count root) (suc t.gotos) (hop_to 0 (place_of labels name)) x y first_is second_is)
      equal (hop.Goto g q) b first_is second_is enough more = absurd (never (label_count root) g q enough first_is)
      equal (hop.Node x) (hop.Goto g q) first_is second_is enough more = absurd (never (suc t.gotos) g q more second_is)
