-- Heap memory as its users see it: blocks at positions in the region, and the gaps between them.
use Rattle.std.specs.Prelude.{ℕ, ◌+◌, ◌-◌, ◌*◌, max, Bool, not, List, [], ◌∷◌, length, map, filter, find, fold, sum_by, Option, Some, None, if◌then◌else◌, ◌==◌, nat_lt, nat_le}
use Rattle.std.specs.Option.{option_map, option_map_or, option_or}
use Rattle.mote_types.specs.Kinds.{ProcessNumber, Handle, Offset, Bytes}
use Rattle.mote_types.specs.declared.reply.HeapStats.{HeapStats}
use Rattle.mote_types.specs.Rounding.{up4}
use Rattle.mote_types.specs.BlockNames.{number_of}
use Rattle.mote_types.specs.Bytes.{zeros, overwritten, resized}
use Rattle.heap_core.specs.declared.chunk.Gap.{Gap}
use Rattle.heap_core.specs.declared.chunk.Place.{Place}

-- a block begins with its header; room is the number of bytes that it may hold after the header
pub record Block : Type 0 where
  -- the number of its name
  pub name : ℕ
  pub at : ℕ
  pub room : ℕ
  pub bytes : Bytes

pub record HeapStore : Type 0 where
  pub size : ℕ
  -- the length of a header, 16 or 8
  pub header : ℕ
  -- the lowest first
  pub blocks : List Block

abbrev pub empty_heap : ℕ → ℕ → HeapStore
empty_heap size header = record { size = size; header = header; blocks = [] }

abbrev pub has_name : ℕ → Block → Bool
has_name name block = block.name == name

abbrev pub find_block : ℕ → HeapStore → Option Block
find_block name heap = find (has_name name) heap.blocks

abbrev pub block_of : ProcessNumber → Handle → HeapStore → Option Bytes
block_of p h heap = option_map (λ (block : Block). block.bytes) (find_block (number_of p h) heap)

-- where the block's extent ends
abbrev pub end_of : ℕ → Block → ℕ
end_of header block = block.at + (header + block.room)

-- the end of the highest extent
abbrev pub footprint : HeapStore → ℕ
footprint heap = fold (λ _ block. end_of heap.header block) 0 heap.blocks

-- the length of the top gap, which is above it
abbrev pub top_gap : HeapStore → ℕ
top_gap heap = heap.size - footprint heap

-- the range from one position to another, if it is not empty, is put before these gaps
abbrev pub gap_between : ℕ → ℕ → List Gap → List Gap
gap_between from to gaps = if nat_lt from to then record { at = from; len = to - from } ∷ gaps else gaps

-- the gaps below these blocks, from that position on
abbrev pub gaps_from : ℕ → ℕ → List Block → List Gap
gaps_from header from [] = []
gaps_from header from (block ∷ blocks) = gap_between from block.at (gaps_from header (end_of header block) blocks)

-- the gaps below the top gap: the maximal runs of the region that no extent covers
abbrev pub gaps : HeapStore → List Gap
gaps heap = gaps_from heap.header 0 heap.blocks

-- the room that a block of n bytes needs: n rounded up, and after a header of 8 no less than 8, for the link of a free chunk
abbrev pub least_room : ℕ → ℕ → ℕ
least_room header n = max (up4 n) (if header == 16 then 4 else 8)

-- the room that a block takes of the available room: the remainder stays a gap only if it exceeds 16 bytes
abbrev pub room_taken : ℕ → ℕ → ℕ
room_taken least available = if nat_lt 16 (available - least) then least else available

abbrev pub shorter : Gap → Gap → Gap
shorter first second = if nat_lt second.len first.len then second else first

abbrev pub better : ℕ → Option Gap → Gap → Option Gap
better need best gap = if nat_le need gap.len then Some (option_map_or (λ other. shorter other gap) best gap) else best

-- best fit: the shortest gap of at least this length; on a tie, the lowest one
abbrev pub best_gap : ℕ → List Gap → Option Gap
best_gap need gaps = fold (better need) None gaps

abbrev pub place_in : ℕ → ℕ → Gap → Place
place_in header room gap = record { at = gap.at; room = room_taken room (gap.len - header) }

abbrev pub top_place : ℕ → HeapStore → Option Place
top_place room heap = if nat_le (heap.header + room) (top_gap heap) then Some (record { at = footprint heap; room = room }) else None

-- where a new block of n bytes is placed: in the best gap, otherwise in the top gap
abbrev pub place : ℕ → HeapStore → Option Place
place n heap =
    let room = least_room heap.header n in
    option_or (option_map (place_in heap.header room) (best_gap (heap.header + room) (gaps heap))) (top_place room heap)

abbrev pub placed : Block → List Block → List Block
placed block [] = block ∷ []
placed block (other ∷ blocks) = if nat_lt block.at other.at then block ∷ (other ∷ blocks) else other ∷ placed block blocks

abbrev pub with_block : Block → HeapStore → HeapStore
with_block block heap = record heap { blocks = placed block heap.blocks }

abbrev pub without_block : ℕ → HeapStore → HeapStore
without_block name heap = record heap { blocks = filter (λ block. not (has_name name block)) heap.blocks }

abbrev pub block_at : Place → ℕ → Bytes → Block
block_at place name bytes = record { name = name; at = place.at; room = place.room; bytes = bytes }

-- the heap with a new block of n zeros, or None if no gap fits it
abbrev pub allocated : ProcessNumber → Handle → ℕ → HeapStore → Option HeapStore
allocated p h n heap = option_map (λ place. with_block (block_at place (number_of p h) (zeros n)) heap) (place n heap)

abbrev pub freed : ProcessNumber → Handle → HeapStore → HeapStore
freed p h = without_block (number_of p h)

-- the length of the gap that begins at this position; 0 if there is none. The top gap is left out
abbrev pub gap_at : ℕ → HeapStore → ℕ
gap_at at heap = option_map_or (λ (gap : Gap). gap.len) (find (λ (gap : Gap). gap.at == at) (gaps heap)) 0

abbrev pub place_of : Block → Place
place_of block = record { at = block.at; room = block.room }

-- the room of a block after a resize to n bytes that doesn't move it, if there is one: it may use its own room and the gap after it
abbrev pub room_in_place : Place → ℕ → HeapStore → Option ℕ
room_in_place place n heap =
    let least = least_room heap.header n in
    let end = place.at + (heap.header + place.room) in
    let on_top = place.room + top_gap heap in
    let with_gap = place.room + gap_at end heap in
    if nat_le least place.room then Some (room_taken least place.room)
    else if end == footprint heap then (if nat_le least on_top then Some least else None)
    else if nat_le least with_gap then Some (room_taken least with_gap)
    else None

-- where a live block is after a resize to n bytes, if it fits anywhere
abbrev pub new_place : Place → ℕ → HeapStore → Option Place
new_place old n heap =
    option_or (option_map (λ room. let new : Place = record { at = old.at; room = room } in new) (room_in_place old n heap)) (place n heap)

abbrev pub moved : Place → Block → ℕ → HeapStore → HeapStore
moved place block n heap = with_block (block_at place block.name (resized n block.bytes)) (without_block block.name heap)

abbrev pub resized_block : Block → ℕ → HeapStore → Option HeapStore
resized_block block n heap = option_map (λ place. moved place block n heap) (new_place (place_of block) n heap)

abbrev pub reallocated : ProcessNumber → Handle → ℕ → HeapStore → Option HeapStore
reallocated p h n heap = option_map_or (λ block. resized_block block n heap) (find_block (number_of p h) heap) None

abbrev pub with_bytes : ProcessNumber → Handle → Offset → Bytes → HeapStore → HeapStore
with_bytes p h at bytes heap =
    record heap {
      blocks = map (λ block. if has_name (number_of p h) block then record block { bytes = overwritten at bytes block.bytes } else block)
          heap.blocks;
    }

abbrev pub stats_of : HeapStore → HeapStats
stats_of heap =
    record {
      allocated = sum_by (λ (block : Block). block.room) heap.blocks;
      overhead = heap.header * length heap.blocks;
      available = sum_by (λ (gap : Gap). gap.len) (gaps heap) + top_gap heap;
      footprint = footprint heap;
      chunks = length heap.blocks;
    }
