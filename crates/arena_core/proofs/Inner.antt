-- The block within an arena. Assumes `Logic`.
--     arena_out, block_of_arena      it is taken out of the arena's memory
--     arena_in                       it is put back with two runs written
use Rattle.arena_core.proofs.Words.{◌≡◌, ℕ, ◌+◌, ◌≤◌, List, [], ◌∷◌, length, sym, ap, ◌∙◌, w32, ent, ex, sep, sem, id⊢, SProp, Logic, Ura, Val, full_share, fsep, part_at, part_of, cell_at, align, written, length-written, Block}
use base.Logic.{via}
use base.Fml.{fex}
use prog.Memory.{up}
use denote.Memory.{lone}
use denote.Builtin.{u32}
use denote.Plain.{uint_Lawful}
use denote.Model.Fields.{view_owns, view_made, plain_out, Plain-in}
use denote.Struct.Members.{Member}
use denote.Struct.Parts.{PartsBack}
use denote.Struct.Pick.{rest_at, field_out, field_back}
use Rattle.arena_core.specs.Code.Contents.{Contents, contents}
use Rattle.arena_core.proofs.Blocks.{with_pair}
use Rattle.arena_core.specs.declared.arena.Arena.TheInside.{Inside}
use Rattle.arena_core.specs.contracts.arena.Arena as A
use Rattle.arena_core.specs.contracts.arena.Arena.TheInside as I
use Rattle.arena_core.specs.contracts.block.Block as B
use Rattle.arena_core.proofs.block.Block.TheLaws as block_laws
use Rattle.std_heap.specs.contracts.Global as G
use Rattle.std_heap.proofs.Global.TheLaws as global_laws

abbrev ms : List Member
ms = record { row = B.the_row; ty = lone B.the_row.mir } ∷ record { row = G.the_row; ty = lone G.the_row.mir }
    ∷ record { row = u32; ty = lone u32.mir } ∷ record { row = u32; ty = lone u32.mir } ∷ []

abbrev pub view : Inside → Contents
view a = contents a.block.bytes a.carved

abbrev pub holds : Inside → Type 0
holds a = (a.size ≡ length a.block.bytes) × (a.carved ≤ a.size)

-- where the block is
abbrev pub inner : ℕ → ℕ
inner ro = ro + up (align (lone B.the_row.mir)) 0

module _ {M : Type 1} {𝓤 : Ura M} (𝓛 : Logic 𝓤) (rb ro : ℕ) where
  pub arena_out : (d : Contents) → ent 𝓤 (sem 𝓛 (part_at A.the_row full_share d rb ro))
      (ex 𝓤 (λ (a : (a : Inside) × ((view a ≡ d) × holds a)). sem 𝓛 (part_at I.the_row full_share a.0 rb ro)))
  arena_out d = plain_out A.the_row I.the_row (view_owns I.the_row Contents A.the_row.coded view holds) 𝓛 full_share d rb ro

  module _ (a : Inside) where
    -- the other fields
    abbrev pub Others : SProp 𝓤
    Others = sep 𝓤 (sem 𝓛 (rest_at full_share ms 0 (a.block, (a.alloc, (a.size, (a.carved, tt)))) rb ro 0))
        (PartsBack 𝓛 full_share I.the_type.name ms rb ro)

    pub block_of_arena : ent 𝓤 (sem 𝓛 (part_at I.the_row full_share a rb ro))
        (sep 𝓤 (sem 𝓛 (part_at B.the_row full_share a.block rb (inner ro))) Others)
    unfolding part_of
    block_of_arena = field_out 𝓛 full_share I.the_type.name ms
        (block_laws.the_row_laws.lawful 𝓛, (global_laws.the_row_laws.lawful 𝓛, (uint_Lawful 𝓛 w32, (uint_Lawful 𝓛 w32, tt))))
        (a.block, (a.alloc, (a.size, (a.carved, tt)))) rb ro 0

    pub arena_of_block : (b : Block) → ent 𝓤 (sep 𝓤 (sem 𝓛 (part_at B.the_row full_share b rb (inner ro))) Others)
        (sem 𝓛 (part_at I.the_row full_share (record a { block = b }) rb ro))
    unfolding part_of
    arena_of_block b = field_back 𝓛 full_share I.the_type.name ms (b, (a.alloc, (a.size, (a.carved, tt)))) rb ro 0

-- a block in memory is its machine values and what it owns
pub values_of : {M : Type 1} {𝓤 : Ura M} (𝓛 : Logic 𝓤) (h : Block) (b o : ℕ) → ent 𝓤 (sem 𝓛 (part_at B.the_row full_share h b o))
    (sem 𝓛 (fex (List Val) (λ vs. fsep (cell_at full_share B.the_row.mir vs b o) (B.the_row.own_val h vs))))
unfolding part_of
values_of {𝓤 = 𝓤} 𝓛 h b o = id⊢ 𝓤 _

module _ {M : Type 1} {𝓤 : Ura M} (𝓛 : Logic 𝓤) (rb ro : ℕ) (d : Contents) (a : Inside) (seen : view a ≡ d) (inv : holds a)
    (at to : ℕ) (ws us : List ℕ) where
  abbrev changed : Inside
  changed = record a { block = with_pair a.block at to ws us }

  abbrev pub after : Contents
  after = contents (written (written d.bytes at ws) to us) d.carved

  same : view changed ≡ after
  same = ap (λ (x : Contents). contents (written (written x.bytes at ws) to us) x.carved) seen

  still : holds changed
  still = (inv.0 ∙ sym (length-written (written a.block.bytes at ws) to us ∙ length-written a.block.bytes at ws), inv.1)

  pub arena_in : ent 𝓤
      (sep 𝓤 (sem 𝓛 (part_at B.the_row full_share (with_pair a.block at to ws us) rb (inner ro))) (Others 𝓛 rb ro a))
      (sem 𝓛 (part_at A.the_row full_share after rb ro))
  arena_in = via 𝓤 _ (arena_of_block 𝓛 rb ro a (with_pair a.block at to ws us))
      (Plain-in A.the_row I.the_row (view_owns I.the_row Contents A.the_row.coded view holds) 𝓛 full_share after changed
      (view_made I.the_row Contents A.the_row.coded view holds 𝓛 after changed (same, still)) rb ro)
