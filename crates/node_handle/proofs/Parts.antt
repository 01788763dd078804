-- The parts of a box in the machine: two words, a pointer and the allocator's, and what they own.
use Rattle.std.proofs.Common.{◌≡◌, ℕ, List, [], ◌∷◌, ◌++◌, refl, ap, ◌∙◌}
use mathlib.Core.Bool.{true, ◌&&◌}
use lib.Dec.{T}
use seplogic.Ra.Ura.{Ura}
use mir.Syntax.{impl, tnil, dnil}
use mir.Raw.{raw as bare}
use mir.Val.{Val, vptr, vstruct, vcons, vnil, of_list, has_ty, WT}
use base.Logic.{never, fst∗}
use base.Fml.{Fml}
use types.Logic.{Logic, sem}
use types.Kit.{Item, Goal, Seq, Step, step, ‵, ◌$◌, move, drop, fsplit, fjoin, fpick, fpack, feq_i, feq_l}
use denote.RattleType.{RattleType, Valss}
use denote.Builtin.{RawPtr}
use denote.Memory.{lone}
use denote.RawPtr.{Ptr, block_ptr, null_ptr, ptr_val, in_a_block}
use denote.Steps.{nothing}
use denote.Param.{layout}
use denote.Param.Laws.{Laws}
use denote.Struct.Struct.{within}
use denote.Struct.Owning.{shape}
use Rattle.core.specs.declared.alloc.Allocator.{Ghosts}
use Rattle.core.proofs.alloc.Calls.{Al, handle_tells}
use Rattle.core.proofs.cell.Inside.{Good}
use Rattle.std_alloc.specs.Box.Ownership.{box_owns}
use Rattle.std_alloc.proofs.ResultValues.{and_tt}
use Rattle.node_handle.specs.contracts.loose.Loose as loose

-- a struct of two words
abbrev pub two : Val → Val → Val
two first second = vstruct (vcons first (vcons second vnil))

-- words that are known by equations make up the struct
together : (whole first second : List Val) (at : Ptr) (b o : ℕ) (word : Val) → whole ≡ vstruct (of_list (first ++ (second ++ []))) ∷ []
    → first ≡ ptr_val at ∷ [] → second ≡ word ∷ [] → at ≡ block_ptr b o → whole ≡ two (vptr b o) word ∷ []
together whole first second at b o word all one other lies =
    all ∙ (λ i. vstruct (of_list (one i ++ (other i ++ []))) ∷ []) ∙ ap (λ (p : Ptr). two (ptr_val p) word ∷ []) lies

module _ (R Z : RattleType) (L : Laws Z) (g : Ghosts Z.Denot) where
  abbrev pub Parts : RattleType
  Parts = loose.the_row R Z g

  -- what a box owns
  abbrev pub block : Z.Denot → Ptr → R.Denot → Fml
  block alloc at value = box_owns (g.dealloc_token alloc) R at value

  abbrev allocator : Al
  allocator = record { row = Z; laws = L; g = g; d = impl [] tnil dnil; drops = impl [] tnil dnil }

  pub two_fit : (b o : ℕ) (word : Val) → Good (layout Z) word → T (has_ty (layout Z) word && true) × WT (two (vptr b o) word)
  two_fit b o word fits = (and_tt (has_ty (layout Z) word) fits.0, (tt, (fits.1, tt)))

  module _ {M : Type 1} {𝓤 : Ura M} {𝓛 : Logic 𝓤} {K : Type 0} {Γ : List (Item 𝓤)} {G : Goal 𝓤 𝓛.H} where
    -- the parts own a block, and their allocator
    pub parts_open : K → (d : Parts.Denot) (words : List Val)
        → ((b o : ℕ) (word : Val) → d.at ≡ block_ptr b o → words ≡ two (vptr b o) word ∷ [] → Good (layout Z) word
        → Seq K 𝓛 (‵ (block d.alloc (block_ptr b o) d.value) ∷ ‵ (Z.own_val d.alloc (word ∷ [])) ∷ Γ) G)
        → Seq K 𝓛 (‵ (Parts.own_val d words) ∷ Γ) G
    parts_open t d words goes = fsplit t $ fpick t (λ each. fsplit t $ feq_l t (λ all. fsplit t $ feq_l t (λ one. fsplit t $
        handle_tells allocator t d.alloc each.1.0 (λ word other fits. move t (1 ∷ []) $ drop t $ move t (1 ∷ []) $
        in_a_block t d.at (λ p. block d.alloc p d.value) (fst∗ 𝓤 (never 𝓤) (sem 𝓛 (g.dealloc_token d.alloc (bare (lone R.mir)) null_ptr))) (λ b o lies.
        goes b o word lies (together words each.0 each.1.0 d.at b o word all one other lies) fits)))))

    -- and these are the parts
    pub parts_close : K → (b o : ℕ) (word : Val) (alloc : Z.Denot) (value : R.Denot)
        → Step K 𝓛 (‵ (Parts.own_val (record { at = block_ptr b o; alloc = alloc; value = value }) (two (vptr b o) word ∷ [])) ∷ Γ) G
        (‵ (block alloc (block_ptr b o) value) ∷ ‵ (Z.own_val alloc (word ∷ [])) ∷ Γ) G
    parts_close t b o word alloc value = step (λ rest.
        nothing t $ move t (2 ∷ 0 ∷ []) $ fjoin t $ feq_i t (List Val) (vptr b o ∷ []) (vptr b o ∷ []) refl $ fjoin t $
        feq_i t (List Val) (two (vptr b o) word ∷ []) (two (vptr b o) word ∷ []) refl $ fjoin t $
        fpack t (Valss (RawPtr ∷ Z ∷ [])) (within (shape (loose.the_type R Z g)) (block_ptr b o, (alloc, tt)) (two (vptr b o) word ∷ []))
        (vptr b o ∷ [], (word ∷ [], tt)) $ fjoin t $ rest)
