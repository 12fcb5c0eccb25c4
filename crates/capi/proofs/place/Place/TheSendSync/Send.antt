use Rattle.std.proofs.Common.{List}
use Rattle.std.specs.Prelude.{Option, Some, None}
use mir.Raw.{raw}
use base.Shift.{Keyless}
use denote.Memory.{lone}
use denote.RawPtr.{Ptr}
use denote.Struct.Struct.{exits_of}
use denote.Struct.Owning.{shape, fields, to}
use denote.Param.Send.{IsSend, AllSend, owning_send, struct_send, sendable}
use Rattle.std.proofs.Crossing as heap
use Rattle.std_heap.proofs.Handle.{handle}
use Rattle.std_alloc.proofs.SendSync.{quiet, lies}
use Rattle.insn.specs.declared.insn.Insn.{Insn}
use Rattle.capi.specs.contracts.kept.Kept as Kept
use Rattle.capi.proofs.kept.Kept.TheSendSync.{the_send as kept}
use Rattle.capi.specs.Owned.{place_owns}
use Rattle.capi.specs.contracts.place.Place.{the_row, the_type}

there : (p : Ptr) (o : Option (List Insn)) → Keyless (place_owns p o)
there p None = tt
there p (Some x) = (lies Kept.the_row kept p x, heap.frees.frees handle (raw (lone Kept.the_row.mir)) p)

pub send : IsSend the_row
send =
    let all : AllSend (fields the_type) = (search sendable, tt) in
    owning_send the_type all (λ d. there d.at d.program) (λ k. quiet (to the_type) (exits_of k (fields the_type)) ((struct_send (shape the_type) all).leaving k))
