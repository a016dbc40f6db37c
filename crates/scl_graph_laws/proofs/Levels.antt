-- In the tree of threads: the parent of a branch, and how many ancestors a thread has.
use Rattle.std.proofs.Common.{◌≡◌, ℕ, zero, suc, ◌+◌, ◌<◌, ◌≤◌, None, Some, refl, sym, subst, ◌∙◌, arith}
use Rattle.std.proofs.lemmas.Option.{none-some, same_Some}
use Rattle.sc_graph.specs.Program.{Program, parent_of}
use Rattle.sc_graph.specs.Threads.{Descends}
use Rattle.scl.specs.Block.{Block, Assign, Label, Goto, Pause, If, Fork, Branches}
use Rattle.scl.specs.Places.{Place, whole, after_assign, after_label, after_goto, after_pause, in_first, in_second, after_if, after_fork, in_branch, IsBranch}
use Rattle.scl.specs.Numbering.{Numbered}
use Rattle.scl_graph_laws.specs.Mirrors.{Mirrors}
use Rattle.scl_graph_laws.proofs.Coming.{branch_thread}
use Rattle.scl_graph_laws.proofs.Contents.{Shallow, Inside, shallow_before, shallow_branch}

module _ (p : Numbered) (q : Program) (mirror : Mirrors p q) where
  pub branch_parent : (t n u : ℕ) (branches : Branches) (body rest : Block) → Place p.root t (Fork n branches rest) → IsBranch branches u body
      → parent_of q u ≡ Some t
  branch_parent t n u branches body rest place at = mirror.parents u t
      (record { node = n; branches = branches; is_fork = record { rest = rest; place = place }; branch = branch_thread branches u body at })

  module _ (no_parent : parent_of q 0 ≡ None) (limit : ℕ) (shallow_root : Shallow limit p.root) where
    -- a thread with so many ancestors stands in a text where so many forks less stand in one another
    record Level (n : ℕ) (todo : Block) : Type 0 where
      less : ℕ
      within : n + less ≤ limit
      shallow : Shallow less todo

    level : (t : ℕ) (todo : Block) → Place p.root t todo → (n a : ℕ) → Descends q n t a → Level n todo
    level t todo whole zero a h = record { less = limit; within = omega arith; shallow = shallow_root }
    level t todo whole (suc n) a h = absurd (none-some h.0 (sym no_parent ∙ h.1))
    level t todo (after_assign s m x e rest place) n a h = let l : Level n (Assign m x e rest) = level s (Assign m x e rest) place n a h in
        record { less = l.less; within = l.within; shallow = l.shallow }
    level t todo (after_label s name rest place) n a h = let l : Level n (Label name rest) = level s (Label name rest) place n a h in
        record { less = l.less; within = l.within; shallow = l.shallow }
    level t todo (after_goto s g name rest place) n a h = let l : Level n (Goto g name rest) = level s (Goto g name rest) place n a h in
        record { less = l.less; within = l.within; shallow = l.shallow }
    level t todo (after_pause s m rest place) n a h = let l : Level n (Pause m rest) = level s (Pause m rest) place n a h in
        record { less = l.less; within = l.within; shallow = l.shallow }
    level t todo (in_first s m e b c rest place) n a h =
        let l : Level n (If m e b c rest) = level s (If m e b c rest) place n a h in
        record { less = l.less; within = l.within; shallow = shallow_before l.less b rest l.shallow.0 l.shallow.2 }
    level t todo (in_second s m e b c rest place) n a h =
        let l : Level n (If m e b c rest) = level s (If m e b c rest) place n a h in
        record { less = l.less; within = l.within; shallow = shallow_before l.less c rest l.shallow.1 l.shallow.2 }
    level t todo (after_if s m e b c rest place) n a h = let l : Level n (If m e b c rest) = level s (If m e b c rest) place n a h in
        record { less = l.less; within = l.within; shallow = l.shallow.2 }
    level t todo (after_fork s m branches rest place) n a h = let l : Level n (Fork m branches rest) = level s (Fork m branches rest) place n a h in
        record { less = l.less; within = l.within; shallow = l.shallow.1 }
    level t todo (in_branch s m u branches body rest place at) zero a h =
        let l : Level 0 (Fork m branches rest) = level s (Fork m branches rest) place 0 s refl in
        let inner : Inside l.less body = shallow_branch l.less branches u body at l.shallow.0 in
        let is : l.less ≡ suc inner.less = inner.is in
        let within : 0 + l.less ≤ limit = l.within in
        record { less = inner.less; within = omega (arith, is, within); shallow = inner.shallow }
    level t todo (in_branch s m u branches body rest place at) (suc n) a h =
        let same : h.0 ≡ s = same_Some h.0 s (sym h.1 ∙ branch_parent s m u branches body rest place at) in
        let l : Level n (Fork m branches rest) = level s (Fork m branches rest) place n a (subst (λ t. Descends q n t a) same h.2) in
        let inner : Inside l.less body = shallow_branch l.less branches u body at l.shallow.0 in
        let is : l.less ≡ suc inner.less = inner.is in
        let within : n + l.less ≤ limit = l.within in
        record { less = inner.less; within = omega (arith, is, within); shallow = inner.shallow }

    -- no thread has more ancestors than forks stand in one another
    pub few_ancestors : (t : ℕ) (todo : Block) → Place p.root t todo → (n : ℕ) → limit < n → (u : ℕ) → ¬ Descends q n t u
    few_ancestors t todo place n lt u h =
        let l : Level n todo = level t todo place n u h in
        let within : n + l.less ≤ limit = l.within in
        absurd (omega (arith, lt, within))
