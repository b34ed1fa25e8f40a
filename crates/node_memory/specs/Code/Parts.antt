-- The part of memory that a call is on: managed memory, the heap, or one of the pools, with its lists.
use Rattle.std.specs.Prelude.{Option}
use Rattle.std.specs.Option.{option_map}
use Rattle.mote_types.specs.declared.call.Call.{Call}
use Rattle.node_memory.specs.Code.Ask.{requested}
use Rattle.node_memory.specs.declared.parts.Part.{Part}

-- the part of memory that a call is on, if it is one on memory; whose call it is makes no difference
abbrev pub part_called : Call → Option Part
part_called call = option_map (λ request. request.part) (requested call 0)
