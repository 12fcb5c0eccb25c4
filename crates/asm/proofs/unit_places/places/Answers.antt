use Rattle.std.proofs.Common.{map, string_bytes}
use Rattle.std.proofs.lemmas.Result.{IfOk-weaker}
use Rattle.asm.proofs.PlaceLemmas.{places_read}
use Rattle.asm.proofs.unit_places.places.Goals as goal

pub returns-in-Ok : goal.returns-in-Ok
returns-in-Ok c =
    IfOk-weaker c.all_places.result _ _ (λ places all. places_read _ c.in-Ok.reading (map string_bytes places.items)
    (rw c.as_bytes.ensures.value at c.in-Ok.ensures.read) all) c.all_places.ensures
