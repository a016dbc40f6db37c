-- What a handle holds at its pointer, and the machine values of handles. Assumes `Logic`.
use Rattle.std.proofs.Common.{◌≡◌, ℕ, List, [], ◌∷◌, ◌++◌, refl, subst}
use seplogic.Ra.Ura.{Ura}
use mir.Raw.{raw as bare}
use mir.Val.{Val, vstruct, vcons, vnil, of_list}
use base.Logic.{ent, guard, guard_i, never, via, fst∗, snd∗}
use base.Fraction.{full_share}
use base.Fml.{ftrue}
use types.Logic.{Logic, sem}
use types.Kit.{Item, Goal, Seq, Step, step, ‵, given, ◌$◌, drop, learn, use1, fsplit, fjoin, fpick, fpack, feq_i, feq_l}
use contract.Monad.{fact_use}
use denote.RattleType.{RattleType, Valss}
use denote.Builtin.{RawPtr}
use denote.Memory.{lone}
use denote.RawPtr.{Ptr, block_ptr, null_ptr, ptr_val, lies_at, Testable, in_a_block}
use denote.Steps.{nothing}
use denote.Struct.Struct.{within}
use denote.Struct.Owning.{shape}
use Rattle.std.proofs.GlobalToken.{dealloc_token-Testable}
use Rattle.std.specs.Box.Ownership.{box_owns}
use Rattle.std.specs.contracts.impls.GlobalAllocator.TheImpl.{ghosts}
use Rattle.std.specs.declared.option.Option.{Option}
use Rattle.std.specs.declared.option.Option.TheVariants.{None, Some}
use Rattle.embedded_machine.specs.Held.{heap, held_at}
use Rattle.embedded_machine.specs.contracts.handles.MachineHandle as handle

-- a struct of one field, by value
abbrev pub alone : Val → Val
alone v = vstruct (vcons v vnil)

module _ (R : RattleType) where
  abbrev pub boxed : Ptr → R.Denot → base.Fml.Fml
  boxed p x = box_owns (ghosts.dealloc_token heap) R p x

  module _ {M : Type 1} {𝓤 : Ura M} (𝓛 : Logic 𝓤) where
    -- where a box is, its pointer may be compared with null
    pub tested : (p : Ptr) (x : R.Denot) → ent 𝓤 (sem 𝓛 (boxed p x)) (guard 𝓤 (Testable p) (sem 𝓛 (boxed p x)))
    tested p x = fact_use 𝓤 (Testable p) (via 𝓤 _ (snd∗ 𝓤 (sem 𝓛 (lies_at R full_share p x)) (sem 𝓛 (ghosts.dealloc_token heap (bare (lone R.mir)) p)))
        (dealloc_token-Testable 𝓛 heap (bare (lone R.mir)) p)) (guard_i 𝓤 (Testable p) (sem 𝓛 (boxed p x)))

  module _ {M : Type 1} {𝓤 : Ura M} {𝓛 : Logic 𝓤} {K : Type 0} {Γ : List (Item 𝓤)} {G : Goal 𝓤 𝓛.H} where
    -- a box is put behind a pointer
    pub hold : K → (p : Ptr) (x : R.Denot) → Step K 𝓛 (‵ (held_at R p (Some x)) ∷ Γ) G (‵ (boxed p x) ∷ Γ) G
    hold t p x = step (λ s. use1 𝓛 (given (Testable p) (‵ (boxed p x))) (tested 𝓛 p x) $ learn t (λ e. nothing t $ fpack t (Testable p) (λ _. ftrue) e $
        fjoin t $ s))

    -- nothing is held and the pointer is null, or a box is there
    pub either_held : K → (p : Ptr) (k : Option R.Denot) → (p ≡ null_ptr → k ≡ None → Seq K 𝓛 Γ G)
        → ((b o : ℕ) (x : R.Denot) → p ≡ block_ptr b o → k ≡ Some x → Testable (block_ptr b o) → Seq K 𝓛 (‵ (boxed (block_ptr b o) x) ∷ Γ) G)
        → Seq K 𝓛 (‵ (held_at R p k) ∷ Γ) G
    either_held t p None none one = fpick t (λ e. drop t $ none e refl)
    either_held t p (Some x) none one = fsplit t $ drop t $
        in_a_block t p (λ q. boxed q x) (fst∗ 𝓤 (never 𝓤) (sem 𝓛 (ghosts.dealloc_token heap (bare (lone R.mir)) null_ptr))) (λ b o e.
        use1 𝓛 (given (Testable (block_ptr b o)) (‵ (boxed (block_ptr b o) x))) (tested 𝓛 (block_ptr b o) x) $ learn t (λ s. one b o x e refl s))

abbrev pub Handle : RattleType
Handle = handle.the_row

module _ {M : Type 1} {𝓤 : Ura M} {𝓛 : Logic 𝓤} {K : Type 0} {Γ : List (Item 𝓤)} {G : Goal 𝓤 𝓛.H} where
  pub handle_out : K → (d : Handle.Denot) (vs : List Val) → (vs ≡ alone (ptr_val d.at) ∷ [] → Seq K 𝓛 (‵ (handle.the_heap d) ∷ Γ) G)
      → Seq K 𝓛 (‵ (Handle.own_val d vs) ∷ Γ) G
  handle_out t d vs k = fsplit t $ fpick t (λ vss. fsplit t $ feq_l t (λ ev. fsplit t $ feq_l t (λ ep. drop t $
      k (subst (λ (ps : List Val). vs ≡ vstruct (of_list (ps ++ [])) ∷ []) ep ev))))

  pub handle_in : K → (d : Handle.Denot) → Step K 𝓛 (‵ (Handle.own_val d (alone (ptr_val d.at) ∷ [])) ∷ Γ) G (‵ (handle.the_heap d) ∷ Γ) G
  handle_in t d = step (λ s. let v : Val = alone (ptr_val d.at) in
      nothing t $ feq_i t (List Val) (ptr_val d.at ∷ []) (ptr_val d.at ∷ []) refl $ fjoin t $ feq_i t (List Val) (v ∷ []) (v ∷ []) refl $ fjoin t $
      fpack t (Valss (RawPtr ∷ [])) (within (shape handle.the_type) (d.at, tt) (v ∷ [])) (ptr_val d.at ∷ [], tt) $ fjoin t $ s)
